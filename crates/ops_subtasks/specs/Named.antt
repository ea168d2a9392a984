-- What ops ask of the subtasks that handles name.
use Rattle.task_wait.specs.declared.keys.GuestTaskKey.{GuestTaskKey}
use Rattle.task_table.specs.declared.id.TableId.{TableId}
use Rattle.machine_data.specs.Moves.{withdrawn}
use Rattle.machine_rules.specs.Cancels.{subtask_settled}
use Rattle.core_primitives.specs.BecomesRecord.{BecomesBut}
use Rattle.std.specs.Prelude.{Some, is_some, true, ℕ, ◌≡◌}
use Rattle.machine_data.specs.Core.{Core}
use Rattle.machine_data.specs.Maps.{get}
use Rattle.machine_data.specs.Read.{subtask_at}
use Rattle.machine_data.specs.declared.records.Subtask.{Subtask}
use Rattle.machine_data.specs.declared.records.Subtask.TheVariants as subtask
use Rattle.core_primitives.specs.StateView.{KeepsBut, Lost, StateView, lost_call, lost_work, call_of, lost_thread}

-- A handle of a call names one that is there.
abbrev pub NamedCallsThere : Core → Type 0
NamedCallsThere s = (i h k : ℕ) → subtask_at i h s ≡ Some (subtask.Guest k) → is_some (get s.calls k) ≡ true

-- what of the subtask may be gone
abbrev pub lost_subtask : Subtask → Lost
lost_subtask (subtask.Guest k) = lost_call k
lost_subtask (subtask.Host i) = lost_work i

-- the call alone may have lost its name, or the work, and the same thread is current
abbrev pub LosesCall : ℕ → StateView → StateView → Type 0
LosesCall k s t = KeepsBut (lost_call k) s.tags t.tags × (t.current ≡ s.current)

abbrev pub LosesWork : ℕ → StateView → StateView → Type 0
LosesWork i s t = KeepsBut (lost_work i) s.tags t.tags × (t.current ≡ s.current)

abbrev pub LosesCallOf : TableId GuestTaskKey → StateView → StateView → Type 0
LosesCallOf call s = LosesCall (call_of s call) s

-- What the end of the subtask settles is done, and the subtask may have lost its name.
abbrev pub SettlesSubtask : Subtask → (old new : StateView) → Type 0
SettlesSubtask sub s = BecomesBut (lost_subtask sub) (subtask_settled sub s.core) s

-- The call that wasn't started is withdrawn, and its first thread has lost its name.
abbrev pub WithdrawsCall : TableId GuestTaskKey → (old new : StateView) → Type 0
WithdrawsCall call s = BecomesBut (lost_thread (call_of s call)) (withdrawn (call_of s call) s.core) s
