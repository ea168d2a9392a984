use Rattle.core_records.proofs.Core.{ap, bare, BlockedOn, parts_of, place_chain, seen, subtask_in, ◌∙◌}
use Rattle.core_places.proofs.TargetLemmas.{blocked_is, blocked_none, work_blocked_is, work_blocked_none}
use Rattle.core_places.proofs.targets.blocked_chain.Goals as goal

pub returns-in-Some : goal.returns-in-Some
returns-in-Some c =
    let a = c.args.parts.now in
    ap (λ s. place_chain (bare (parts_of a)) (BlockedOn (subtask_in (seen a).tags s))) c.in-Guest.is ∙ blocked_is a c.requires _ _ _ c.in-Some.found.now c.in-Some.ensures.number c.in-Some.ensures.item

pub returns-in-None : goal.returns-in-None
returns-in-None c =
    let a = c.args.parts.now in
    ap (λ s. place_chain (bare (parts_of a)) (BlockedOn (subtask_in (seen a).tags s))) c.in-Guest.is ∙ blocked_none a c.requires _ c.in-None.ensures.nothing

pub returns-in-Some-work : goal.returns-in-Some-work
returns-in-Some-work c =
    let a = c.args.parts.now in
    ap (λ s. place_chain (bare (parts_of a)) (BlockedOn (subtask_in (seen a).tags s))) c.in-Host.is ∙ work_blocked_is a c.requires _ _ _ c.in-Some-work.found.now c.in-Some-work.ensures.number c.in-Some-work.ensures.item

pub returns-in-None-work : goal.returns-in-None-work
returns-in-None-work c =
    let a = c.args.parts.now in
    ap (λ s. place_chain (bare (parts_of a)) (BlockedOn (subtask_in (seen a).tags s))) c.in-Host.is ∙ work_blocked_none a c.requires _ c.in-None-work.ensures.nothing
