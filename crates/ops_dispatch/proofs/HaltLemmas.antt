-- An op inside which its thread may have been resumed.
use Rattle.ops_dispatch.specs.Runner.{is_resumed}
use Rattle.std.proofs.Common.{ap, refl, ◌∙◌}
use Rattle.std.specs.Prelude.{false, true, ℕ, ◌≡◌}
use Rattle.core_primitives.specs.Names.{op_progress_in}
use Rattle.core_primitives.specs.StateView.{Tags}
use Rattle.core_primitives.specs.declared.names.OpProgressId.TheVariants as op_progresses
use Rattle.core_primitives.specs.declared.names.OpProgressId.{OpProgressId}
use Rattle.machine_data.specs.Core.{Core}
use Rattle.machine_data.specs.Labels.{Choice}
use Rattle.machine_rules.specs.Sets.{wait_rule}
use Rattle.task_table.specs.declared.id.TableId.{TableId}
use Rattle.task_wait.specs.declared.keys.SetKey.{SetKey}
use Rattle.machine_data.specs.declared.label.Label.TheVariants as label
use Rattle.machine_data.specs.declared.label.ThreadLabel.{ThreadLabel}
use Rattle.machine_data.specs.declared.records.OpProgress.{OpProgress}
use Rattle.machine_data.specs.declared.records.OpProgress.TheVariants as op_progress
use Rattle.ops_guests.specs.OpResult.{Implements}
use Rattle.ops_guests.specs.Ended.{ended}
use Rattle.ops_guests.specs.Shown.{goes_as, shown_thread}
use Rattle.ops_guests.specs.declared.op_result.OpResult.{OpResult}
use Rattle.ops_guests.specs.declared.op_result.OpResult.TheVariants as op_result
use Rattle.ops_guests.specs.declared.op_result.OpAnswer.{OpAnswer}
use Rattle.ops_guests.specs.declared.op_result.OpAnswer.TheVariants as op_answer
use Rattle.machine_rules.specs.Finish.{Doer, NoAnswer, finish}
use Rattle.machine_rules.specs.Progress.{Progress}
use Rattle.machine_rules.specs.Threads.{resumed_by}

module _ (n : ℕ) (l : ThreadLabel) (s : Core) where
  nothing_ends : (d : Doer) (r : OpResult) → shown_thread l ≡ op_answer.Nothing → r ≡ goes_as (label.Thread l) n → ended d n r s ≡ finish d n NoAnswer s
  nothing_ends d r none is = ap (λ (x : OpResult). ended d n x s) is ∙ ap (λ (a : OpAnswer). ended d n (op_result.Continues (label.Thread l) n a) s) none

  -- it was, and is done
  pub resumed_implements : (d : Doer) (f : OpProgress) (p : Progress) (r : OpResult) → is_resumed f ≡ true → shown_thread l ≡ op_answer.Nothing → r ≡ goes_as (label.Thread l) n → Implements (resumed_by d f n (label.Thread l) s p) s r (ended d n r s)
  resumed_implements d op_progress.Suspends p r e none is = (is, nothing_ends d r none is)
  resumed_implements d op_progress.Yields p r e none is = (is, nothing_ends d r none is)
  resumed_implements d op_progress.Fresh p r e none is = absurd (cc)
  resumed_implements d (op_progress.Waits x) p r e none is = absurd (cc)
  resumed_implements d (op_progress.Calls sub) p r e none is = absurd (cc)
  resumed_implements d (op_progress.Answered v) p r e none is = absurd (cc)
  resumed_implements d (op_progress.Cancels sub) p r e none is = absurd (cc)
  resumed_implements d (op_progress.AwaitsEnd sub) p r e none is = absurd (cc)

  -- it wasn't, and begins
  pub begins_rule : (d : Doer) (f : OpProgress) (p : Progress) → is_resumed f ≡ false → resumed_by d f n (label.Thread l) s p ≡ p
  begins_rule d op_progress.Suspends p e = absurd (cc)
  begins_rule d op_progress.Yields p e = absurd (cc)
  begins_rule d op_progress.Fresh p e = refl
  begins_rule d (op_progress.Waits x) p e = refl
  begins_rule d (op_progress.Calls sub) p e = refl
  begins_rule d (op_progress.Answered v) p e = refl
  begins_rule d (op_progress.Cancels sub) p e = refl
  begins_rule d (op_progress.AwaitsEnd sub) p e = refl

-- a wait inside which its thread wasn't resumed begins
pub wait_begun : (d : Doer) (n h : ℕ) (ch : Choice) (s : Core) (tags : Tags) (p : OpProgressId) → ((set : TableId SetKey) → p ≡ op_progresses.Waits set → ⊥) → wait_rule d n h ch s (op_progress_in tags p) ≡ wait_rule d n h ch s op_progress.Fresh
wait_begun d n h ch s tags (op_progresses.Waits set) other = absurd (other set refl)
wait_begun d n h ch s tags op_progresses.Fresh other = refl
wait_begun d n h ch s tags (op_progresses.Calls sub) other = refl
wait_begun d n h ch s tags (op_progresses.Answered v) other = refl
wait_begun d n h ch s tags (op_progresses.Cancels sub) other = refl
wait_begun d n h ch s tags (op_progresses.AwaitsEnd sub) other = refl
wait_begun d n h ch s tags op_progresses.Suspends other = refl
wait_begun d n h ch s tags op_progresses.Yields other = refl
