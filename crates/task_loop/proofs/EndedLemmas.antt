-- The end of a thread between runs.
use Rattle.ops_state.specs.Ends.{Ends}
use Rattle.ops_state.specs.declared.error.TaskError.{TaskError}
use Rattle.std.proofs.Common.{inl, inr, refl, sym, ◌∙◌}
use Rattle.std.specs.Option.{option_map_or}
use Rattle.std.specs.Prelude.{Bool, Err, None, Ok, OnOk, Option, Result, Some, false, if◌then◌else◌, is_some, true, ℕ, ◌≡◌, ◌⊎◌}
use Rattle.machine_data.specs.Core.{Core}
use Rattle.machine_data.specs.Maps.{get}
use Rattle.machine_data.specs.Moves.{call_settled, departed, ended, exited_if, freed_thread_handle, group_settled, interest_settled, is_deletable, is_finished, is_group_done}
use Rattle.machine_data.specs.Read.{call_group, end_of, instance_of, is_explicit, is_last_thread, task_of, thread_handle_of}
use Rattle.machine_data.specs.Write.{free_thread_handle, on_call, remove_call, remove_group, remove_thread, set_exited, set_uninteresting}
use Rattle.machine_data.specs.declared.records.CallEnd.{CallEnd}
use Rattle.ops_moves.specs.Gone.{HasEnded}
use Rattle.machine_rules.specs.Ends.{leaves_no_result}
use Rattle.core_primitives.specs.StateView.{StateView}

-- ---- It leaves the works

exited_works : (b : Bool) (k : ℕ) (s : Core) → (exited_if b k s).works ≡ s.works
unfolding set_exited on_call
exited_works true k s = refl
exited_works false k s = refl

freed_works : (i : ℕ) (o : Option ℕ) (s : Core) → (freed_thread_handle i o s).works ≡ s.works
unfolding free_thread_handle
freed_works i None s = refl
freed_works i (Some h) s = refl

removed_works : (n : ℕ) (s : Core) → (remove_thread n s).works ≡ s.works
unfolding remove_thread
removed_works n s = refl

departed_works : (n : ℕ) (s : Core) → (departed n s).works ≡ s.works
departed_works n s =
    let over = exited_if (is_explicit n s) (task_of n s) s in
    removed_works n (freed_thread_handle (instance_of n s) (thread_handle_of n s) over)
    ∙ (freed_works (instance_of n s) (thread_handle_of n s) over ∙ exited_works (is_explicit n s) (task_of n s) s)

interest_works : (k : ℕ) (s : Core) → (interest_settled k s).works ≡ s.works
unfolding interest_settled set_uninteresting on_call
interest_works k s = by (option_map_or is_finished (get s.calls k) false)
  where
    by : (b : Bool) → (if b then set_uninteresting k s else s).works ≡ s.works
    by true = refl
    by false = refl

group_works : (b : Bool) (g : ℕ) (s : Core) → (if b then remove_group g s else s).works ≡ s.works
unfolding remove_group
group_works true g s = refl
group_works false g s = refl

call_works : (b : Bool) (k : ℕ) (s : Core) → (if b then group_settled (call_group k s) (remove_call k s) else s).works ≡ s.works
unfolding group_settled remove_call
call_works true k s = group_works (is_group_done (call_group k s) (remove_call k s)) (call_group k s) (remove_call k s)
call_works false k s = refl

settled_works : (k : ℕ) (s : Core) → (call_settled k s).works ≡ s.works
unfolding call_settled
settled_works k s = call_works (is_deletable k s) k s

pub ended_works : (n : ℕ) (s : Core) → (ended n s).works ≡ s.works
unfolding ended
ended_works n s =
    settled_works (task_of n s) (interest_settled (task_of n s) (departed n s)) ∙ (interest_works (task_of n s) (departed n s) ∙ departed_works n s)

-- ---- Whether it is refused

-- what a call that answered Ok promises of an Ok
pub came_ok : {P : Type 0} (r : Result (Unit {0}) TaskError) → r ≡ Ok tt → OnOk r P → P
came_ok (Ok x) is p = p
came_ok (Err e) is p = absurd (cc)

-- an end that isn't refused
pub ends_so : (n : ℕ) (s t : StateView) (refused : Bool) (r : Result (Unit {0}) TaskError) → refused ≡ false → Ends n refused s r t → (r ≡ Ok tt) × HasEnded n s t
ends_so n s t true r e q = absurd (cc)
ends_so n s t false r e q = q

module _ (n : ℕ) (s : Core) (o : Option CallEnd) (is : o ≡ end_of (task_of n s) s) where
  pub leaves_none : is_last_thread n s ≡ true → is_some o ≡ false → leaves_no_result n s ≡ true
  unfolding leaves_no_result
  leaves_none last none = rw (last, sym is, none) refl

  pub leaves_some : (is_last_thread n s ≡ false) ⊎ ((is_last_thread n s ≡ true) × (is_some o ≡ true)) → leaves_no_result n s ≡ false
  unfolding leaves_no_result
  leaves_some (inl more) = rw more refl
  leaves_some (inr over) = rw (over.0, sym is, over.1) refl
