-- Calls of hosts, and the works that they make.
use Rattle.ops_dispatch.proofs.SubtaskRules.{IsQuiet, anybody, enter_quiet}
use Rattle.ops_dispatch.proofs.RuleLemmas.{ShowsAs, here, if_traps}
use Rattle.machine_data.specs.Labels.{Choice}
use Rattle.ops_subtasks.specs.Rules.{begins_call, queues_call}
use Rattle.std.proofs.Common.{ap, ap₂, refl, sym, ◌∙◌}
use Rattle.std.specs.Prelude.{Bool, List, None, Some, false, not, true, ℕ, ◌≡◌}
use Rattle.ops_dispatch.specs.Polls.{polled_host}
use Rattle.ops_dispatch.specs.Runner.{called_call, called_work, given_answer}
use Rattle.ops_subtasks.specs.Queued.{queued_work}
use Rattle.machine_data.specs.Core.{Core}
use Rattle.machine_data.specs.Moves.{passes_check}
use Rattle.machine_data.specs.Read.{at_handle_limit, fits, instance_of, is_async_lifted, new_handle}
use Rattle.machine_data.specs.Statuses.{packed}
use Rattle.machine_data.specs.Write.{count_work, on_thread, set_op_progress, set_position, set_register}
use Rattle.machine_data.specs.declared.component.Callee.{Callee}
use Rattle.machine_data.specs.declared.component.Component.{Component}
use Rattle.machine_data.specs.declared.component.ExportKind.{ExportKind}
use Rattle.machine_data.specs.declared.label.CallLabel.TheVariants as call_label
use Rattle.machine_data.specs.declared.label.Label.TheVariants as label
use Rattle.machine_data.specs.declared.op.CallOp.TheVariants as call_op
use Rattle.machine_data.specs.declared.op.Op.TheVariants as op
use Rattle.machine_data.specs.declared.records.Goal.{Goal}
use Rattle.machine_data.specs.declared.records.Goal.TheVariants as goal
use Rattle.machine_data.specs.declared.records.OpProgress.{OpProgress}
use Rattle.machine_data.specs.declared.records.OpProgress.TheVariants as op_progress
use Rattle.machine_data.specs.declared.records.Subtask.TheVariants as subtask
use Rattle.machine_data.specs.declared.trap.Trap.{Trap}
use Rattle.machine_data.specs.declared.trap.Trap.TheVariants as trap
use Rattle.machine_data.specs.declared.statuses.Status.TheVariants as status
use Rattle.ops_guests.specs.OpResult.{Implements}
use Rattle.ops_guests.specs.declared.op_result.OpResult.{OpResult}
use Rattle.machine_rules.specs.Calls.{AtOnce, Failing, FirstPoll, Later, call_begins, call_host_by, call_queues, call_rule, call_sync_begins, call_sync_host_by, call_sync_host_rule, call_sync_host_stops, call_sync_rule, first_polled, host_valued, host_with_handle, next_thread, next_work}
use Rattle.machine_rules.specs.Finish.{Doer, OneNumber, OwnScript, SomeHost, finish}
use Rattle.machine_rules.specs.Data.{advanced, assigned, moved_to}
use Rattle.machine_rules.specs.Progress.{Continues, Progress, Stops, trap_if}
use Rattle.machine_rules.specs.Scripts.{export_kind, host_at}

-- ---- No work is made where none is queued

module _ (s t : Core) where
  same_works : t ≡ s → t.works ≡ s.works
  same_works e = ap (λ (c : Core). c.works) e

  -- after two tests that trap, it goes on
  tested : (host : FirstPoll) (a b : Bool) (x y : Trap) (p : Progress) (r : OpResult) → (Implements p s r t → queued_work host r s ≡ None → t.works ≡ s.works) → Implements (trap_if a x (trap_if b y p)) s r t → queued_work host r s ≡ None → t.works ≡ s.works
  tested host true b x y p r go h none = same_works h.1
  tested host false true x y p r go h none = same_works h.1
  tested host false false x y p r go h none = go h none

  ready_works : (r : Doer) (n q v : ℕ) → (finish r n (OneNumber 2) (host_valued n q v s)).works ≡ s.works
  unfolding host_valued assigned advanced moved_to set_op_progress set_position set_register on_thread count_work
  ready_works (OwnScript r) n q v = refl
  ready_works SomeHost n q v = refl

  answered_works : (r : Doer) (n v : ℕ) → (finish r n (OneNumber v) (count_work s)).works ≡ s.works
  unfolding assigned advanced moved_to set_op_progress set_position set_register on_thread count_work
  answered_works (OwnScript r) n v = refl
  answered_works SomeHost n v = refl

  pub host_makes_none : (n : ℕ) (r : Doer) (q : ℕ) (p : FirstPoll) (o : OpResult) → Implements (call_host_by r n q s p) s o t → queued_work p o s ≡ None → t.works ≡ s.works
  host_makes_none n r q (AtOnce v) o h none = ap (λ (c : Core). c.works) h.1 ∙ ready_works r n q v
  host_makes_none n r q Failing o h none = same_works h.1
  host_makes_none n r q (Later host) o h none =
      let v = packed (new_handle (instance_of n s) s) status.Started in
      tested (Later host) (not (fits 1 s)) (at_handle_limit s) trap.TableFull trap.HandleLimit (Continues (label.Call (call_label.CallPolls v n (next_work s))) (finish r n (OneNumber v) (host_with_handle n q host s)) n) o
      (λ met queued. absurd (queues (sym (ap (λ (x : OpResult). queued_work (Later host) x s) met.0) ∙ queued))) h none
    where
      queues : Some (next_work s) ≡ None → ⊥
      queues e = absurd (cc)

  pub sync_host_makes_none : (n : ℕ) (r : Doer) (p : FirstPoll) (o : OpResult) → Implements (call_sync_host_by r n s p) s o t → queued_work p o s ≡ None → t.works ≡ s.works
  sync_host_makes_none n r (AtOnce v) o h none = ap (λ (c : Core). c.works) h.1 ∙ answered_works r n v
  sync_host_makes_none n r Failing o h none = same_works h.1
  sync_host_makes_none n r (Later host) o h none =
      tested (Later host) (not (fits 1 s)) (not (passes_check (instance_of n s) s)) trap.TableFull trap.CannotBlockSyncTask (Stops (label.Call (call_label.PausesPolls n (next_work s))) (call_sync_host_stops n host s)) o
      (λ met queued. absurd (queues (sym (ap (λ (x : OpResult). queued_work (Later host) x s) met.0) ∙ queued))) h none
    where
      queues : Some (next_work s) ≡ None → ⊥
      queues e = absurd (cc)

-- ---- By how far the op has come

pub served_at : (h : OpProgress) (i : ℕ) → called_work h ≡ Some i → h ≡ op_progress.Calls (subtask.Host i)
served_at (op_progress.Calls (subtask.Host j)) i e = cc
served_at h i e = absurd (cc)

pub called_at : (h : OpProgress) (k : ℕ) → called_call h ≡ Some k → h ≡ op_progress.Calls (subtask.Guest k)
called_at (op_progress.Calls (subtask.Guest j)) k e = cc
called_at h k e = absurd (cc)

pub answered_at : (h : OpProgress) (v : ℕ) → given_answer h ≡ Some v → h ≡ op_progress.Answered v
answered_at (op_progress.Answered w) v e = cc
answered_at h v e = absurd (cc)

module _ (c : Component) (n : ℕ) (r : Doer) (s : Core) where
  pub call_sync_fresh : (e : Callee) (words : List ℕ) (h : OpProgress) → given_answer h ≡ None → called_call h ≡ None → call_sync_rule r c n e words s h ≡ call_sync_begins c n e words s (is_async_lifted (export_kind c e))
  call_sync_fresh e words (op_progress.Calls (subtask.Guest k)) a b = absurd (cc)
  call_sync_fresh e words (op_progress.Calls (subtask.Host i)) a b = refl
  call_sync_fresh e words op_progress.Fresh a b = refl
  call_sync_fresh e words (op_progress.Waits x) a b = refl
  call_sync_fresh e words (op_progress.Answered v) a b = absurd (cc)
  call_sync_fresh e words (op_progress.Cancels sub) a b = refl
  call_sync_fresh e words (op_progress.AwaitsEnd sub) a b = refl
  call_sync_fresh e words op_progress.Suspends a b = refl
  call_sync_fresh e words op_progress.Yields a b = refl

module _ (c : Component) (n : ℕ) (d : Doer) (s : Core) where
  pub sync_host_fresh : (i : ℕ) (h : OpProgress) → called_work h ≡ None → call_sync_host_rule d c n i s h ≡ first_polled (host_at c i) (call_sync_host_by d n s)
  sync_host_fresh i (op_progress.Calls (subtask.Guest k)) none = refl
  sync_host_fresh i (op_progress.Calls (subtask.Host j)) none = absurd (cc)
  sync_host_fresh i op_progress.Fresh none = refl
  sync_host_fresh i (op_progress.Waits x) none = refl
  sync_host_fresh i (op_progress.Answered v) none = refl
  sync_host_fresh i (op_progress.Cancels sub) none = refl
  sync_host_fresh i (op_progress.AwaitsEnd sub) none = refl
  sync_host_fresh i op_progress.Suspends none = refl
  sync_host_fresh i op_progress.Yields none = refl

module _ (c : Component) (r : ℕ) where
  pub polled_fresh : (i : ℕ) (h : OpProgress) → called_work h ≡ None → polled_host c h (op.Call (call_op.CallSyncHost r i)) ≡ Some (host_at c i)
  polled_fresh i (op_progress.Calls (subtask.Guest k)) none = refl
  polled_fresh i (op_progress.Calls (subtask.Host j)) none = absurd (cc)
  polled_fresh i op_progress.Fresh none = refl
  polled_fresh i (op_progress.Waits x) none = refl
  polled_fresh i (op_progress.Answered v) none = refl
  polled_fresh i (op_progress.Cancels sub) none = refl
  polled_fresh i (op_progress.AwaitsEnd sub) none = refl
  polled_fresh i op_progress.Suspends none = refl
  polled_fresh i op_progress.Yields none = refl

  pub polled_served : (i j : ℕ) (h : OpProgress) → Some j ≡ called_work h → polled_host c h (op.Call (call_op.CallSyncHost r i)) ≡ None
  polled_served i j (op_progress.Calls (subtask.Guest k)) is = absurd (cc)
  polled_served i j (op_progress.Calls (subtask.Host k)) is = refl
  polled_served i j op_progress.Fresh is = absurd (cc)
  polled_served i j (op_progress.Waits x) is = absurd (cc)
  polled_served i j (op_progress.Answered v) is = absurd (cc)
  polled_served i j (op_progress.Cancels sub) is = absurd (cc)
  polled_served i j (op_progress.AwaitsEnd sub) is = absurd (cc)
  polled_served i j op_progress.Suspends is = absurd (cc)
  polled_served i j op_progress.Yields is = absurd (cc)

-- ---- A call of an export begins

module _ (c : Component) (n : ℕ) (d : Doer) (s : Core) where
  pub call_fresh : (q : ℕ) (e : Callee) (words : List ℕ) (h : OpProgress) → called_call h ≡ None → call_rule d c n q e words s h ≡ call_begins c n e (goal.Register q) words s
  call_fresh q e words (op_progress.Calls (subtask.Guest k)) none = absurd (cc)
  call_fresh q e words (op_progress.Calls (subtask.Host i)) none = refl
  call_fresh q e words op_progress.Fresh none = refl
  call_fresh q e words (op_progress.Waits x) none = refl
  call_fresh q e words (op_progress.Answered v) none = refl
  call_fresh q e words (op_progress.Cancels sub) none = refl
  call_fresh q e words (op_progress.AwaitsEnd sub) none = refl
  call_fresh q e words op_progress.Suspends none = refl
  call_fresh q e words op_progress.Yields none = refl

-- its start is queued, or its callee runs directly
pub begins_as : (c : Component) (n : ℕ) (d : Doer) (ch : Choice) (e : Callee) (words : List ℕ) (s : Core) (b : Bool) → begins_call b (export_kind c e) e words d n ch s ≡ call_sync_begins c n e words s b
begins_as c n d ch e words s true = refl
begins_as c n d ch e words s false = refl

-- as the op has it done
pub calls_as : (c : Component) (n : ℕ) (d : Doer) (ch : Choice) (q : ℕ) (e : Callee) (words given : List ℕ) (x : ExportKind) (s : Core) (h : OpProgress) → x ≡ export_kind c e → words ≡ given → called_call h ≡ None
    → call_rule d c n q e given s h ≡ queues_call x (goal.Register q) e words d n ch s
calls_as c n d ch q e words given x s h is same none =
    call_fresh c n d s q e given h none ∙ ap₂ (λ (y : ExportKind) (ws : List ℕ). queues_call y (goal.Register q) e ws d n ch s) (sym is) (sym same)

pub begins_sync_as : (c : Component) (n : ℕ) (d : Doer) (ch : Choice) (e : Callee) (words given : List ℕ) (x : ExportKind) (s : Core) (h : OpProgress) → x ≡ export_kind c e → words ≡ given → given_answer h ≡ None → called_call h ≡ None
    → call_sync_rule d c n e given s h ≡ begins_call (is_async_lifted x) x e words d n ch s
begins_sync_as c n d ch e words given x s h is same a b =
    call_sync_fresh c n d s e given h a b ∙ (sym (begins_as c n d ch e given s (is_async_lifted (export_kind c e)))
    ∙ ap₂ (λ (y : ExportKind) (ws : List ℕ). begins_call (is_async_lifted y) y e ws d n ch s) (sym is) (sym same))

-- ---- What they show

queues_quiet : (x : ExportKind) (g : Goal) (e : Callee) (words : List ℕ) (d : Doer) (n : ℕ) (ch : Choice) (s : Core) → IsQuiet (queues_call x g e words d n ch s)
queues_quiet x g e words d n ch s = if_traps anybody (not (fits 3 s)) trap.TableFull (Stops (label.Call (call_label.Calls n (next_thread s))) (call_queues n e x g words s)) refl

pub queues_shows : (x : ExportKind) (g : Goal) (e : Callee) (words : List ℕ) (d : Doer) (n : ℕ) (ch : Choice) (s : Core) → ShowsAs n (queues_call x g e words d n ch s)
queues_shows x g e words d n ch s = if_traps (here n) (not (fits 3 s)) trap.TableFull (Stops (label.Call (call_label.Calls n (next_thread s))) (call_queues n e x g words s)) refl

pub begins_quiet : (b : Bool) (x : ExportKind) (e : Callee) (words : List ℕ) (d : Doer) (n : ℕ) (ch : Choice) (s : Core) → IsQuiet (begins_call b x e words d n ch s)
begins_quiet true x e words d n ch s = queues_quiet x goal.Answer e words d n ch s
begins_quiet false x e words d n ch s = enter_quiet n s e x words
