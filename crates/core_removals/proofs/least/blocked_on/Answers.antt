use Rattle.core_records.proofs.Core.{ap, blocked_on, BlockedOn, call_of, seen, Subtask, subtask_in, sym, work_of, ◌∙◌}
use Rattle.core_places.proofs.TargetLemmas.{blocked_is, work_blocked_is}
use Rattle.core_removals.proofs.ChainLemmas.{blocked_least, blocked_live, chain_live}
use Rattle.core_removals.proofs.least.blocked_on.Goals as goal

pub least-requires-clause-live : goal.least-requires-clause-live
least-requires-clause-live c = let a = c.args.parts.now in chain_live a c.requires.sound (BlockedOn (Subtask.Guest (call_of (seen a) c.in-Guest.call))) _ (blocked_is a c.requires.sound _ _ _ c.call_there.result.now c.call_there.ensures.number c.call_there.ensures.item)

pub least-requires-in-Host-clause-live : goal.least-requires-in-Host-clause-live
least-requires-in-Host-clause-live c = let a = c.args.parts.now in chain_live a c.requires.sound (BlockedOn (Subtask.Host (work_of (seen a) c.in-Host.work))) _ (work_blocked_is a c.requires.sound _ _ _ c.work_there.result.now c.work_there.ensures.number c.work_there.ensures.item)

pub returns-in-Guest-clause-is : goal.returns-in-Guest-clause-is
returns-in-Guest-clause-is c =
    let a = c.args.parts.now in
    c.least.ensures.is
    ∙ (blocked_least a c.requires.sound c.least.ensures.links _ _ (blocked_is a c.requires.sound _ _ _ c.call_there.result.now c.call_there.ensures.number c.call_there.ensures.item) ∙ ap (λ s. blocked_on (subtask_in (seen a).tags s) (seen a).core) (sym c.in-Guest.is))

pub returns-in-Guest-clause-live : goal.returns-in-Guest-clause-live
returns-in-Guest-clause-live c = blocked_live c.args.parts.now c.requires.sound _ _ (returns-in-Guest-clause-is c)

pub returns-in-Host-clause-is : goal.returns-in-Host-clause-is
returns-in-Host-clause-is c =
    let a = c.args.parts.now in
    c.least-in-Host.ensures.is
    ∙ (blocked_least a c.requires.sound c.least-in-Host.ensures.links _ _ (work_blocked_is a c.requires.sound _ _ _ c.work_there.result.now c.work_there.ensures.number c.work_there.ensures.item) ∙ ap (λ s. blocked_on (subtask_in (seen a).tags s) (seen a).core) (sym c.in-Host.is))

pub returns-in-Host-clause-live : goal.returns-in-Host-clause-live
returns-in-Host-clause-live c = blocked_live c.args.parts.now c.requires.sound _ _ (returns-in-Host-clause-is c)
