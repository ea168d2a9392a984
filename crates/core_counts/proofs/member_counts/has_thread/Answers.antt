use Rattle.core_counts.proofs.member_counts.has_thread.Goals as goal
use Rattle.core_records.proofs.Core.{ap, has_thread, seen, sym, ◌∙◌}
use Rattle.core_records.proofs.KeptLemmas.{no_thread, some_thread}

pub returns-in-Some : goal.returns-in-Some
returns-in-Some c = some_thread c.args.parts.now c.requires c.args.call c.in-Some.entry.now c.in-Some.ensures.item

pub returns-in-None : goal.returns-in-None
returns-in-None c = no_thread c.args.parts.now c.requires ∙ ap (λ k. has_thread k (seen c.args.parts.now).core) (sym c.in-None.ensures.nothing)
