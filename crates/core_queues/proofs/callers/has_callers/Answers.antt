use Rattle.core_records.proofs.Core.{ap, is_nil, not, sym}
use Rattle.core_queues.proofs.CallerLemmas.{callers_chain_of, callers_live, gone_callers, some_callers}
use Rattle.core_queues.proofs.callers.has_callers.Goals as goal

pub first-requires : goal.first-requires
first-requires c = callers_live c.args.parts.now c.requires _ c.in-Some.found.now.callers (callers_chain_of c.args.parts.now c.requires c.args.thread c.in-Some.found.now c.in-Some.ensures.item)

pub returns-in-Some : goal.returns-in-Some
returns-in-Some c = some_callers c.args.parts.now c.requires _ c.in-Some.found.now.callers (callers_chain_of c.args.parts.now c.requires c.args.thread c.in-Some.found.now c.in-Some.ensures.item) _ _ _ c.first.ensures.entry c.is_some.ensures

pub returns-in-None : goal.returns-in-None
returns-in-None c = sym (ap (λ l. not (is_nil l)) (gone_callers c.args.parts.now c.requires _ c.in-None.ensures.nothing))
