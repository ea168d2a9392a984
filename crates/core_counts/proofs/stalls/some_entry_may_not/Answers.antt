use Rattle.core_counts.proofs.stalls.some_entry_may_not.Goals as goal
use Rattle.core_records.proofs.Core.{may_not_suspend, rules, seen, tests}
use Rattle.std.proofs.lemmas.Iterator.Consumers.{YieldsList-from_first}
use Rattle.std.proofs.lemmas.Iterator.Search.{any_from_yields_List}

pub returns : goal.returns
returns c =
    any_from_yields_List (λ e. may_not_suspend e.1.item.call.callee.instance (seen c.args.parts.now).core) _ _ _ c.any.ensures.ran
    (YieldsList-from_first (λ item. (item.0, item.1.now)) (λ rest. rest) _ c.iter.ensures.entries)
    (λ x b q k. search (rules, tests))
