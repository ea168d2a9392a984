-- What becomes of another thread that the running one resumes.
use Rattle.std.proofs.Common.{ap, ap₂, refl, subst, sym, ◌∙◌}
use Rattle.std.specs.Prelude.{Bool, IfSome, None, Option, Result, Some, false, true, ℕ, ◌==◌, ◌≡◌}
use Rattle.ops_dispatch.specs.Continues.{running_of}
use Rattle.ops_state.specs.declared.error.TaskError.{TaskError}
use Rattle.ops_calls.specs.Resumes.{Resumed, came_later, first_in, or_refused, resumed_by}
use Rattle.ops_calls.specs.declared.intrinsics.ResumeThread.{ResumeThread}
use Rattle.ops_calls.specs.declared.intrinsics.ResumeThread.TheVariants as resume
use Rattle.machine_data.specs.Core.{Core}
use Rattle.machine_data.specs.Read.{instance_of, thread_at}
use Rattle.machine_data.specs.declared.label.Label.TheVariants as label
use Rattle.machine_data.specs.declared.label.ThreadLabel.TheVariants as thread_label
use Rattle.machine_data.specs.declared.records.Why.{Why}
use Rattle.machine_data.specs.declared.trap.Trap.{Trap}
use Rattle.machine_data.specs.declared.trap.Trap.TheVariants as trap
use Rattle.ops_guests.specs.OpResult.{Implements}
use Rattle.ops_guests.specs.Halting.{ComesFirst, First, GoesFirst, Refused, StaysBehind}
use Rattle.ops_guests.specs.declared.op_result.OpResult.{OpResult}
use Rattle.ops_guests.specs.declared.op_result.OpResult.TheVariants as op_result
use Rattle.machine_rules.specs.Progress.{Continues, or_trap, trap_if}
use Rattle.machine_rules.specs.Threads.{resume_later_by, resume_later_rule, resume_why}
use Rattle.machine_rules.specs.Finish.{SomeHost}
use Rattle.machine_data.specs.Moves.{put_low}
use Rattle.machine_data.specs.Write.{set_op_progress}
use Rattle.machine_data.specs.declared.records.OpProgress.TheVariants as op_progress
use Rattle.core_primitives.specs.StateView.{StateView, Tags, with_core}

-- why it was refused is answered
pub answered_first : (f : First) (s t : StateView) (r : Result Bool Trap) → ComesFirst f s r t → Resumed f s (or_refused r) t
answered_first (GoesFirst new) s t r h = (ap or_refused h.0, h.1)
answered_first StaysBehind s t r h = (ap or_refused h.0, h.1)
answered_first (Refused why) s t r h = (ap or_refused h.0, h.1)

-- `resume_later` changes the core alone
module _ (n h : ℕ) (s t : StateView) (r : OpResult) (tags : t.tags ≡ s.tags) (current : t.current ≡ s.current) where
  become : (new : Core) → t.core ≡ new → t ≡ with_core new s
  become new is = ap₂ (λ (c : Core) (ts : Tags). record { core = c; tags = ts; current = t.current }) is tags ∙ ap (λ o. record { core = new; tags = s.tags; current = o }) current

  traps : (why : Trap) → (r ≡ op_result.Traps why) × (t.core ≡ s.core) → ComesFirst (Refused why) s (came_later r) t
  traps why e = (ap came_later e.0, become s.core e.1)

  by_why : (m : ℕ) (o : Option Why) → Implements (or_trap o trap.CannotResumeThread (λ w. Continues (label.Thread (thread_label.ResumeLater n)) (set_op_progress n op_progress.Fresh (put_low m w s.core)) n)) s.core r t.core →
      ComesFirst (first_in (or_trap o trap.CannotResumeThread (λ w. Continues (label.Thread (thread_label.ResumeLater n)) (set_op_progress n op_progress.Fresh (put_low m w s.core)) n))) s (came_later r) t
  by_why m None e = traps trap.CannotResumeThread e
  by_why m (Some w) e = (ap came_later e.0, become (set_op_progress n op_progress.Fresh (put_low m w s.core)) e.1)

  by_own : (m : ℕ) (b : Bool) → Implements (trap_if b trap.CannotResumeThread (or_trap (resume_why m s.core) trap.CannotResumeThread (λ w. Continues (label.Thread (thread_label.ResumeLater n)) (set_op_progress n op_progress.Fresh (put_low m w s.core)) n))) s.core r t.core →
      ComesFirst (first_in (trap_if b trap.CannotResumeThread (or_trap (resume_why m s.core) trap.CannotResumeThread (λ w. Continues (label.Thread (thread_label.ResumeLater n)) (set_op_progress n op_progress.Fresh (put_low m w s.core)) n)))) s (came_later r) t
  by_own m true e = traps trap.CannotResumeThread e
  by_own m false e = by_why m (resume_why m s.core) e

  by_handle : (o : Option ℕ) → Implements (or_trap o trap.BadHandle (resume_later_by SomeHost n s.core)) s.core r t.core → ComesFirst (first_in (or_trap o trap.BadHandle (resume_later_by SomeHost n s.core))) s (came_later r) t
  by_handle None e = traps trap.BadHandle e
  by_handle (Some m) e = by_own m (m == n) e

  pub later_first : Implements (resume_later_rule SomeHost n h s.core) s.core r t.core → ComesFirst (first_in (resume_later_rule SomeHost n h s.core)) s (came_later r) t
  later_first e = by_handle (thread_at (instance_of n s.core) h s.core) e

pub later_resumed : (n h : ℕ) (how : ResumeThread) (s t : StateView) (r : OpResult) (x : Result Bool TaskError) → running_of s ≡ Some n → how ≡ resume.ResumeLater → t.tags ≡ s.tags → t.current ≡ s.current → Implements (resume_later_rule SomeHost n h s.core) s.core r t.core → x ≡ or_refused (came_later r) → IfSome (running_of s) (λ k. Resumed (resumed_by how k h s.core) s x t)
later_resumed n h how s t r x runs later tags current implements is =
    let first = answered_first (first_in (resume_later_rule SomeHost n h s.core)) s t (came_later r) (later_first n h s t r tags current implements) in
    subst (λ (o : Option ℕ). IfSome o (λ k. Resumed (resumed_by how k h s.core) s x t)) (sym runs)
    (subst (λ (w : ResumeThread). Resumed (resumed_by w n h s.core) s x t) (sym later)
    (subst (λ (y : Result Bool TaskError). Resumed (resumed_by resume.ResumeLater n h s.core) s y t) (sym is) first))
