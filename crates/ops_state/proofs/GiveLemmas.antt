-- What a task is given, as its answer.
use Rattle.std.proofs.Common.{T, ap, refl, subst, sym, ◌∙◌}
use Rattle.std.specs.Prelude.{Bool, None, Option, Some, false, true, ℕ, ◌≡◌}
use Rattle.ops_state.specs.Gives.{Gives, picked_event_of, has_ready_in, is_ready_in, member_told, own_told}
use Rattle.machine_data.specs.Core.{Core}
use Rattle.machine_data.specs.Moves.{PickedMember, NothingPicked, PickedTaskEvent, picked_event, picked_event_after_own, picked_task_event_of, own_or_nothing, taken, taken_own}
use Rattle.machine_data.specs.Write.{set_event}
use Rattle.machine_data.specs.declared.records.Subtask.{Subtask}
use Rattle.machine_data.specs.declared.statuses.TaskEvent.{TaskEvent}
use Rattle.ops_guests.proofs.PickedEventLemmas.{member_given}
use Rattle.task_wait.specs.declared.codes.Event.{Event}
use Rattle.core_primitives.specs.StateView.{StateView, on_core}
use Rattle.std.proofs.Common.{cond}

module _ (c : Bool) (k : ℕ) where
  own_lawful : (e : TaskEvent) (x : Option ℕ) (s : Core) → picked_task_event_of c k s ≡ Some e → picked_event_of c k x None s ≡ Some (PickedTaskEvent e)
  unfolding picked_event
  own_lawful e None s at = ap (λ o. Some (own_or_nothing o)) at
  own_lawful e (Some x) s at = ap (λ o. picked_event_after_own o x None s) at

  member_lawful : (x : Option ℕ) (sub : Subtask) (s : Core) → picked_task_event_of c k s ≡ None → is_ready_in x sub s ≡ true → picked_event_of c k x (Some sub) s ≡ Some (PickedMember sub)
  member_lawful None sub s none ready = absurd (subst T (sym ready) tt)
  member_lawful (Some x) sub s none ready = member_given c k x sub s (sym none) ready

  nothing_lawful : (x : Option ℕ) (s : Core) → picked_task_event_of c k s ≡ None → has_ready_in x s ≡ false → picked_event_of c k x None s ≡ Some NothingPicked
  unfolding picked_event
  nothing_lawful None s none ready = ap (λ o. Some (own_or_nothing o)) none
  nothing_lawful (Some x) s none ready = ap (λ o. picked_event_after_own o x None s) none ∙ ap (λ b. cond b None (Some NothingPicked)) ready

  pub gives_own : (x : Option ℕ) (e : TaskEvent) (told : Event) (s t : StateView) → picked_task_event_of c k s.core ≡ Some e → told ≡ own_told e → t ≡ on_core (taken_own e k) s → Gives c k x s (Some (told, 0)) t
  unfolding taken
  gives_own x e told s t at is d = record { chosen = None; given = PickedTaskEvent e; lawful = own_lawful e x s.core at; answer = ap (λ (v : Event). Some (v, 0)) is; core = d }

  pub gives_member : (x : Option ℕ) (sub : Subtask) (r : Event × ℕ) (s t : StateView) → picked_task_event_of c k s.core ≡ None → is_ready_in x sub s.core ≡ true → r ≡ member_told sub s.core → t ≡ on_core (set_event sub None) s → Gives c k x s (Some r) t
  unfolding taken
  gives_member x sub r s t none ready is d = record { chosen = Some sub; given = PickedMember sub; lawful = member_lawful x sub s.core none ready; answer = ap (λ (v : Event × ℕ). Some v) is; core = d }

  pub gives_nothing : (x : Option ℕ) (s : StateView) → picked_task_event_of c k s.core ≡ None → has_ready_in x s.core ≡ false → Gives c k x s None s
  unfolding taken
  gives_nothing x s none ready = record { chosen = None; given = NothingPicked; lawful = nothing_lawful x s.core none ready; answer = refl; core = refl }
