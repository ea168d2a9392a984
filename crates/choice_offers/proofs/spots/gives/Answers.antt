use Rattle.choice_offers.proofs.spots.gives.Goals as goal
use Rattle.core_primitives.specs.StateView.{set_of, thread_of}
use Rattle.laws_choices.specs.Offers.{nothing, takes_of}
use Rattle.machine_data.specs.Moves.{picked_task_event_of}
use Rattle.machine_data.specs.Read.{task_of}
use Rattle.std.proofs.Common.{ap, sym, ◌∙◌}
use Rattle.std.specs.Prelude.{Bool, if◌then◌else◌, is_some, true, ℕ, ◌≡◌}

pub returns-then-picks_task_event : goal.returns-then-picks_task_event
returns-then-picks_task_event c =
    let s = c.args.core.now in
    let n = thread_of s c.args.thread in
    let picks : is_some (picked_task_event_of c.args.by_callback (task_of n s.core) s.core) ≡ true =
    ap (λ (k : ℕ). is_some (picked_task_event_of c.args.by_callback k s.core)) (sym c.task_of.ensures.is) ∙ (sym c.picks_task_event.ensures ∙ c.if-picks_task_event.true) in
    ((c.no_spot.ensures n).0, (c.no_spot.ensures n).1 ∙ sym (ap (λ (b : Bool). if b then nothing else takes_of n (set_of s c.args.set) s.core) picks))
