use Rattle.choice_offers.proofs.spots.gives_woken.Goals as goal
use Rattle.core_primitives.specs.StateView.{set_of, thread_of}
use Rattle.laws_choices.specs.Offers.{nothing, takes_of, wakes}
use Rattle.machine_data.specs.Moves.{picked_task_event_of}
use Rattle.machine_data.specs.Read.{has_ready_member, task_of}
use Rattle.std.proofs.Common.{ap, sym, ◌∙◌}
use Rattle.std.specs.Prelude.{Bool, if◌then◌else◌, is_some, true, ℕ, ◌≡◌}

pub returns-then-has_ready_member : goal.returns-then-has_ready_member
returns-then-has_ready_member c =
    let s = c.args.core.now in
    let n = thread_of s c.args.thread in
    let x = set_of s c.args.set in
    let picks : is_some (picked_task_event_of c.args.by_callback (task_of n s.core) s.core) ≡ true =
    ap (λ (k : ℕ). is_some (picked_task_event_of c.args.by_callback k s.core)) (sym c.task_of.ensures.is) ∙ (sym c.picks_task_event.ensures ∙ c.if-not-picks_task_event.false) in (
      (c.wakes.ensures n).0,
      (c.wakes.ensures n).1
          ∙ sym (ap (λ (b : Bool). if b then (if has_ready_member x s.core then wakes x s.core else nothing) else takes_of n x s.core) picks
          ∙ ap (λ (b : Bool). if b then wakes x s.core else nothing) (sym c.has_ready_member.ensures ∙ c.if-has_ready_member.true)),
    )

pub returns-else-has_ready_member : goal.returns-else-has_ready_member
returns-else-has_ready_member c =
    let s = c.args.core.now in
    let n = thread_of s c.args.thread in
    let x = set_of s c.args.set in
    let picks : is_some (picked_task_event_of c.args.by_callback (task_of n s.core) s.core) ≡ true =
    ap (λ (k : ℕ). is_some (picked_task_event_of c.args.by_callback k s.core)) (sym c.task_of.ensures.is) ∙ (sym c.picks_task_event.ensures ∙ c.if-not-picks_task_event.false) in (
      (c.no_spot.ensures n).0,
      (c.no_spot.ensures n).1
          ∙ sym (ap (λ (b : Bool). if b then (if has_ready_member x s.core then wakes x s.core else nothing) else takes_of n x s.core) picks
          ∙ ap (λ (b : Bool). if b then wakes x s.core else nothing) (sym c.has_ready_member.ensures ∙ c.if-has_ready_member.false)),
    )
