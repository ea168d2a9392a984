use Rattle.core_records.proofs.Core.{ap, on_core, on_thread, Place, refl, seen, set_op_progress, set_of, set_place, sym, thread_of, ◌∙◌}
use Rattle.core_places.proofs.StepLemmas.{stood}
use Rattle.core_places.proofs.place_states.stand_at.Goals as goal
use Rattle.core_places.specs.Moved.{to_stand}
use Rattle.core_primitives.specs.Names.{op_progress_in, place_in, why_in}

pub stand_unchained-requires-clause-unchained : goal.stand_unchained-requires-clause-unchained
stand_unchained-requires-clause-unchained c i b = refl

pub returns-in-Running-clause-new : goal.returns-in-Running-clause-new
returns-in-Running-clause-new c =
    let s = seen c.args.parts.now in
    let n = thread_of s c.args.thread in
    let h = op_progress_in s.tags c.args.op_progress in
    c.put_stand_counted.ensures.new
    ∙ (ap (λ g. on_core (on_thread n (to_stand Place.Running g)) s) (sym c.op_progress_from_id-point.ensures.is)
    ∙ (ap (λ x. record s { core = x }) (stood n Place.Running h s.core)
    ∙ ap (λ p. on_core (λ x. set_op_progress n h (set_place n (place_in s.tags p) x)) s) (sym c.in-Running.is)))

pub returns-in-Ready-clause-new : goal.returns-in-Ready-clause-new
returns-in-Ready-clause-new c =
    let s = seen c.args.parts.now in
    let n = thread_of s c.args.thread in
    let h = op_progress_in s.tags c.args.op_progress in
    c.stand_unchained.ensures.new
    ∙ (ap (λ w. on_core (on_thread n (to_stand (Place.Ready c.in-Ready.mark w) h)) s) (sym c.why_from_id-why.ensures.is)
    ∙ (ap (λ x. record s { core = x }) (stood n (Place.Ready c.in-Ready.mark (why_in s.tags c.in-Ready.why)) h s.core)
    ∙ ap (λ p. on_core (λ x. set_op_progress n h (set_place n (place_in s.tags p) x)) s) (sym c.in-Ready.is)))

pub returns-in-Under-clause-new : goal.returns-in-Under-clause-new
returns-in-Under-clause-new c =
    let s = seen c.args.parts.now in
    let n = thread_of s c.args.thread in
    let h = op_progress_in s.tags c.args.op_progress in
    c.stand_under.ensures.new
    ∙ (ap (λ x. record s { core = x }) (stood n (Place.Under (thread_of s c.in-Under.callee)) h s.core)
    ∙ ap (λ p. on_core (λ x. set_op_progress n h (set_place n (place_in s.tags p) x)) s) (sym c.in-Under.is))

pub returns-in-Waiting-clause-new : goal.returns-in-Waiting-clause-new
returns-in-Waiting-clause-new c =
    let s = seen c.args.parts.now in
    let n = thread_of s c.args.thread in
    let h = op_progress_in s.tags c.args.op_progress in
    c.stand_waiting.ensures.new
    ∙ (ap (λ x. record s { core = x }) (stood n (Place.Waiting (set_of s c.in-Waiting.set) c.in-Waiting.by_callback) h s.core)
    ∙ ap (λ p. on_core (λ x. set_op_progress n h (set_place n (place_in s.tags p) x)) s) (sym c.in-Waiting.is))

pub returns-in_default-clause-new : goal.returns-in_default-clause-new
returns-in_default-clause-new c =
    let s = seen c.args.parts.now in
    c.stand_anywhere.ensures.new ∙ ap (λ x. record s { core = x }) (stood (thread_of s c.args.thread) (place_in s.tags c.args.place) (op_progress_in s.tags c.args.op_progress) s.core)
