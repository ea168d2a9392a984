-- An op on a subtask whose label hides nothing offers no waiter.
use Rattle.laws_choices.specs.Chooses.{hides}
use Rattle.laws_choices.specs.Offers.{call_offer, cancel_found_offer, cancel_offer, cancel_offer_by, of_found, unless}
use Rattle.laws_picks.proofs.SameLemmas.{OneSet}
use Rattle.machine_data.specs.Read.{instance_of, is_joined, join_of, op_progress_of, subtask_at}
use Rattle.machine_data.specs.Core.{Core}
use Rattle.machine_data.specs.declared.component.Component.{Component}
use Rattle.machine_data.specs.declared.op.CallOp.TheVariants as call_op
use Rattle.machine_data.specs.declared.op.CallOp.{CallOp}
use Rattle.machine_data.specs.declared.records.OpProgress.TheVariants as op_progress
use Rattle.machine_data.specs.declared.records.OpProgress.{OpProgress}
use Rattle.machine_data.specs.declared.records.Subtask.TheVariants as subtask
use Rattle.machine_data.specs.declared.records.Subtask.{Subtask}
use Rattle.machine_data.specs.declared.trap.Trap.TheVariants as trap
use Rattle.machine_rules.specs.Cancels.{Async, CancelCase, Mode, Sync, ThreadWaits, cancel_case, cancel_found, cancel_guest, scripted_cancel_rule, scripted_subtask_rule}
use Rattle.machine_rules.specs.Progress.{or_trap, trap_if}
use Rattle.machine_rules.specs.Scripts.{value_of}
use Rattle.std.proofs.Common.{arith, inl, refl}
use Rattle.std.specs.Prelude.{Bool, None, Option, Some, false, true, ℕ, ◌≡◌}

module _ (mode : Mode) (n r : ℕ) (s : Core) where
  case_one : (k : ℕ) (x : CancelCase) → hides (cancel_guest mode n r k s x) ≡ false → OneSet s (cancel_offer_by k s x)
  case_one k ThreadWaits shows = absurd (grind (arith, shows))
  case_one k _ shows = inl refl

  joined_one : (k : ℕ) (b : Bool) → hides (trap_if b trap.WaitableSyncAndAsync (cancel_guest mode n r k s (cancel_case k s))) ≡ false → OneSet s (unless b (cancel_offer_by k s (cancel_case k s)))
  joined_one k true shows = inl refl
  joined_one k false shows = case_one k (cancel_case k s) shows

  found_one : (sub : Subtask) → hides (cancel_found mode n r s sub) ≡ false → OneSet s (cancel_found_offer s sub)
  found_one (subtask.Guest k) shows = joined_one k (is_joined (join_of (subtask.Guest k) s)) shows
  found_one (subtask.Host i) shows = inl refl

  named_one : (o : Option Subtask) → hides (or_trap o trap.BadHandle (cancel_found mode n r s)) ≡ false → OneSet s (of_found o (cancel_found_offer s))
  named_one None shows = inl refl
  named_one (Some sub) shows = found_one sub shows

  cancel_one : (h : ℕ) (far : OpProgress) → hides (scripted_cancel_rule mode n r h s far) ≡ false → OneSet s (cancel_offer n h s far)
  cancel_one h (op_progress.Cancels sub) shows = inl refl
  cancel_one h (op_progress.AwaitsEnd sub) shows = inl refl
  cancel_one h _ shows = named_one (subtask_at (instance_of n s) h s) shows

pub call_one : (n : ℕ) (s : Core) (c : Component) (o : CallOp) → hides (scripted_subtask_rule c n s o) ≡ false → OneSet s (call_offer n s o)
call_one n s c (call_op.Cancel r x) shows = cancel_one Async n r s (value_of n s x) (op_progress_of n s) shows
call_one n s c (call_op.CancelSync r x) shows = cancel_one Sync n r s (value_of n s x) (op_progress_of n s) shows
call_one n s c _ shows = inl refl
