use Rattle.core_records.proofs.Core.{ap, OpProgress, on_core, on_thread, Place, refl, seen, Subtask, thread_of, ◌∙◌}
use Rattle.core_places.proofs.StepLemmas.{stood}
use Rattle.core_places.proofs.TargetLemmas.{call_stands, thread_stands, under_is}
use Rattle.core_places.proofs.unders.stand_under.Goals as goal
use Rattle.core_places.specs.Moved.{to_stand}

pub put_stand-requires-clause-place : goal.put_stand-requires-clause-place
put_stand-requires-clause-place c = thread_stands c.args.parts.now c.requires.sound c.args.callee _ _ c.thread_there-top.ensures.number c.rep.ensures

pub put_stand-requires-clause-op_progress : goal.put_stand-requires-clause-op_progress
put_stand-requires-clause-op_progress c = call_stands c.args.parts.now c.requires.sound c.args.call _ _ c.call_there.ensures.number c.rep-2.ensures

pub put_stand-requires-clause-chain : goal.put_stand-requires-clause-chain
put_stand-requires-clause-chain c g is = under_is c.args.parts.now c.requires.sound _ c.args.callee.rep c.args.callee.serial c.thread_there-top.result.now refl c.thread_there-top.ensures.item

pub returns-clause-new : goal.returns-clause-new
returns-clause-new c =
    let s = seen c.args.parts.now in
    let n = thread_of s c.args.thread in
    c.put_stand.ensures.new
    ∙ (ap (λ m. on_core (on_thread n (to_stand (Place.Under m) (OpProgress.Calls (Subtask.Guest c.call_there.result.now.number)))) s) c.thread_there-top.ensures.number
    ∙ (ap (λ m. on_core (on_thread n (to_stand (Place.Under (thread_of s c.args.callee)) (OpProgress.Calls (Subtask.Guest m)))) s) c.call_there.ensures.number
    ∙ ap (λ x. record s { core = x }) (stood n _ _ s.core)))
