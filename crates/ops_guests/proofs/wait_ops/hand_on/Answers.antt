use Rattle.std.proofs.Common.{ap, sym, ◌∙◌}
use Rattle.std.specs.Prelude.{option_map}
use Rattle.machine_data.specs.Moves.{handed_on, may_hand_on}
use Rattle.ops_guests.proofs.wait_ops.hand_on.Goals as goal
use Rattle.ops_guests.specs.PickedEvents.{picked_event_in}
use Rattle.core_primitives.specs.StateView.{on_core, set_of, thread_of}

pub returns-in-Own-clause-choice : goal.returns-in-Own-clause-choice
returns-in-Own-clause-choice g c =
    let s = g.W.View.view c.args.w.now in
    ap (λ picked_event. may_hand_on (set_of s c.args.set) (picked_event_in s.tags picked_event) (option_map (λ id. thread_of s id) c.hand_wake_on.result) s.core) c.in-Own.is ∙ c.hand_wake_on.ensures.choice c.in-Own.field-0

pub returns-in-Own-clause-new : goal.returns-in-Own-clause-new
returns-in-Own-clause-new g c =
    let s = g.W.View.view c.args.w.now in
    c.hand_wake_on.ensures.new c.in-Own.field-0
    ∙ ap (λ picked_event. on_core (handed_on (set_of s c.args.set) (picked_event_in s.tags picked_event) (option_map (λ id. thread_of s id) c.hand_wake_on.result)) s) (sym c.in-Own.is)
