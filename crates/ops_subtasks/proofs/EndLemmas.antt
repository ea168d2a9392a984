-- What follows a cancel, where it traps and where it doesn't.
use Rattle.std.proofs.Common.{ap, refl, subst, sym, ◌∙◌}
use Rattle.std.specs.Prelude.{Bool, None, Option, Some, false, if◌then◌else◌, not, true, ℕ, ◌+◌, ◌<◌, ◌≡◌}
use Rattle.task_table.specs.declared.id.TableId.{TableId}
use Rattle.task_wait.specs.declared.keys.ThreadKey.{ThreadKey}
use Rattle.machine_data.specs.Core.{Core}
use Rattle.machine_data.specs.Moves.{checked, passes_check}
use Rattle.machine_data.specs.Read.{event_of, foot_of, instance_of, subtask_ended, undelivered_end}
use Rattle.machine_data.specs.Write.{set_join, set_saved_callee}
use Rattle.machine_data.specs.declared.records.Join.TheVariants as join
use Rattle.machine_data.specs.declared.records.Place.TheVariants as place
use Rattle.machine_data.specs.declared.records.Subtask.{Subtask}
use Rattle.machine_data.specs.declared.records.Subtask.TheVariants as subtask
use Rattle.machine_data.specs.declared.trap.Trap.{Trap}
use Rattle.machine_data.specs.declared.trap.Trap.TheVariants as trap
use Rattle.machine_data.specs.declared.statuses.Status.{Status}
use Rattle.ops_moves.specs.Stops.{MayStop}
use Rattle.ops_guests.specs.Ended.{ended}
use Rattle.ops_guests.proofs.RunLemmas.{checked_stands, foot_may_stop}
use Rattle.ops_guests.specs.OpResult.{Implements}
use Rattle.ops_guests.specs.Running.{IsRunning}
use Rattle.ops_guests.specs.declared.op_result.OpResult.{OpResult}
use Rattle.ops_guests.specs.declared.op_result.OpResult.TheVariants as op_result
use Rattle.ops_guests.specs.Shown.{goes_as}
use Rattle.machine_rules.specs.Finish.{Doer, OneNumber, finish}
use Rattle.machine_rules.specs.Cancels.{Async, Mode, Sync, after_cancel_by, cancel_by, cancel_ended_by, cancel_label, cancel_stops, cancel_unended_by, pauses}
use Rattle.machine_rules.specs.Progress.{Progress, Stops, Traps, trap_if}
use Rattle.core_primitives.specs.Names.{subtask_in}
use Rattle.core_primitives.specs.StateView.{StateView, on_core, thread_of}
use Rattle.core_primitives.specs.declared.names.SubtaskId.{SubtaskId}
use Rattle.ops_subtasks.proofs.SteadyLemmas.{Steady, join_steady, saved_steady, steady_check, still_runs}
use Rattle.ops_subtasks.specs.Refused.{refused, refused_block, refused_end}

no_trap : {A : Type 0} {t : Trap} → Some t ≡ None → A
no_trap e = absurd (none e)
  where
    none : {t : Trap} → Some t ≡ None → ⊥
    none e = cc

same_trap : (t u : Trap) → Some t ≡ Some u → t ≡ u
same_trap t u e = cc

-- ---- It traps

refused_end_rule : (mode : Mode) (n : ℕ) (r : Doer) (sub : Subtask) (s : Core) (o : Option Status) (t : Trap) → refused_end o ≡ Some t → cancel_ended_by r mode n sub s o ≡ Traps t
refused_end_rule mode n r sub s None t e = ap (λ (u : Trap). Traps u) (same_trap _ _ e)
refused_end_rule mode n r sub s (Some o) t e = no_trap (sym e)

refused_block_rule : (mode : Mode) (n : ℕ) (r : Doer) (sub : Subtask) (s : Core) (t : Trap) → refused_block mode n s ≡ Some t → cancel_unended_by r mode n sub s ≡ Traps t
refused_block_rule Async n r sub s t e = no_trap (sym e)
refused_block_rule Sync n r sub s t e = go (passes_check (instance_of n s) s) e
  where
    go : (b : Bool) → (if b then None else Some trap.CannotBlockSyncTask) ≡ Some t → trap_if (not b) trap.CannotBlockSyncTask (Stops (pauses n) (cancel_stops n sub s)) ≡ Traps t
    go true d = no_trap (sym d)
    go false d = ap (λ (u : Trap). Traps u) (same_trap _ _ d)

pub refused_rule : (mode : Mode) (n : ℕ) (r : Doer) (sub : Subtask) (s : Core) (t : Trap) → refused mode n sub s ≡ Some t → after_cancel_by r mode n sub s ≡ Traps t
unfolding refused
refused_rule mode n r sub s t e = go (subtask_ended sub s) e
  where
    go : (b : Bool) → (if b then refused_end (undelivered_end (event_of sub s)) else refused_block mode n s) ≡ Some t → cancel_by r mode n sub s b ≡ Traps t
    go true d = refused_end_rule mode n r sub s (undelivered_end (event_of sub s)) t d
    go false d = refused_block_rule mode n r sub s t d

-- ---- It doesn't, so it matters not where it began

let_end : (mode : Mode) (n : ℕ) (r : Doer) (sub : Subtask) (s a b : Core) (o : Option Status) (c : OpResult) (u : Core) → refused_end o ≡ None → Implements (cancel_ended_by r mode n sub s o) a c u → Implements (cancel_ended_by r mode n sub s o) b c u
let_end mode n r sub s a b None c u e h = no_trap e
let_end mode n r sub s a b (Some o) c u e h = h

let_block : (mode : Mode) (n : ℕ) (r : Doer) (sub : Subtask) (s a b : Core) (c : OpResult) (u : Core) → refused_block mode n s ≡ None → Implements (cancel_unended_by r mode n sub s) a c u → Implements (cancel_unended_by r mode n sub s) b c u
let_block Async n r sub s a b c u e h = h
let_block Sync n r sub s a b c u e h = go (passes_check (instance_of n s) s) e h
  where
    go : (y : Bool) → (if y then None else Some trap.CannotBlockSyncTask) ≡ None → Implements (trap_if (not y) trap.CannotBlockSyncTask (Stops (pauses n) (cancel_stops n sub s))) a c u → Implements (trap_if (not y) trap.CannotBlockSyncTask (Stops (pauses n) (cancel_stops n sub s))) b c u
    go true d m = m
    go false d m = no_trap d

pub let_go : (mode : Mode) (n : ℕ) (r : Doer) (sub : Subtask) (s a b : Core) (c : OpResult) (u : Core) → refused mode n sub s ≡ None → Implements (after_cancel_by r mode n sub s) a c u → Implements (after_cancel_by r mode n sub s) b c u
unfolding refused
let_go mode n r sub s a b c u e h = go (subtask_ended sub s) e h
  where
    go : (y : Bool) → (if y then refused_end (undelivered_end (event_of sub s)) else refused_block mode n s) ≡ None → Implements (cancel_by r mode n sub s y) a c u → Implements (cancel_by r mode n sub s y) b c u
    go true d m = let_end mode n r sub s a b (undelivered_end (event_of sub s)) c u d m
    go false d m = let_block mode n r sub s a b c u d m

-- ---- It is so still

block_same : (mode : Mode) (n : ℕ) (s t : Core) → Steady s t → refused_block mode n t ≡ refused_block mode n s
block_same Async n s t a = refl
block_same Sync n s t a = ap (λ (b : Bool). if b then None else Some trap.CannotBlockSyncTask) (steady_check (instance_of n t) s t a ∙ ap (λ (i : ℕ). passes_check i s) (a.homes n))

pub refused_same : (mode : Mode) (n : ℕ) (sub : Subtask) (s t : Core) → Steady s t → refused mode n sub t ≡ refused mode n sub s
unfolding refused
refused_same mode n sub s t a =
    ap (λ (b : Bool). if b then refused_end (undelivered_end (event_of sub t)) else refused_block mode n t) (a.ended sub)
    ∙ (ap (λ (o : Option Status). if subtask_ended sub s then refused_end (undelivered_end o) else refused_block mode n t) (a.events sub)
    ∙ ap (λ (o : Option Trap). if subtask_ended sub s then refused_end (undelivered_end (event_of sub s)) else o) (block_same mode n s t a))

-- ---- As contracts see it

module _ (mode : Mode) (n : TableId ThreadKey) (r : Doer) (sub : SubtaskId) (f : Core → Core) (s t : StateView) (e : t ≡ on_core f s) where
  pub refused_on : (o : Option Trap) → refused mode (thread_of s n) (subtask_in s.tags sub) (f s.core) ≡ o → refused mode (thread_of t n) (subtask_in t.tags sub) t.core ≡ o
  refused_on o h = ap (λ (v : StateView). refused mode (thread_of v n) (subtask_in v.tags sub) v.core) e ∙ h

  pub finished : (c : OpResult) (u : Core) → refused mode (thread_of s n) (subtask_in s.tags sub) (f s.core) ≡ None → Implements (after_cancel_by r mode (thread_of t n) (subtask_in t.tags sub) t.core) t.core c (ended r (thread_of t n) c u) → Implements (after_cancel_by r mode (thread_of s n) (subtask_in s.tags sub) (f s.core)) s.core c (ended r (thread_of s n) c u)
  finished c u may implements =
      let_go mode (thread_of s n) r (subtask_in s.tags sub) (f s.core) (f s.core) s.core c (ended r (thread_of s n) c u) may
      (subst (λ (v : StateView). Implements (after_cancel_by r mode (thread_of v n) (subtask_in v.tags sub) v.core) v.core c (ended r (thread_of v n) c u)) e implements)

-- it traps, and nothing has changed
pub trapped_implements : (mode : Mode) (n : ℕ) (r : Doer) (q : Subtask) (s t : Core) (y : Trap) → refused mode n q t ≡ Some y → Implements (after_cancel_by r mode n q t) s (op_result.Traps y) s
trapped_implements mode n r q s t y e = subst (λ (p : Progress). Implements p s (op_result.Traps y) s) (sym (refused_rule mode n r q t y e)) (refl, refl)

-- ---- It answers

pub cancel_ends : (mode : Mode) (d : Doer) (n m v : ℕ) (t : Core) → ended d n (goes_as (cancel_label mode m v) m) t ≡ finish d n (OneNumber v) t
cancel_ends Async d n m v t = refl
cancel_ends Sync d n m v t = refl

-- ---- The thread waits for the end

pub awaits_may_stop : (n f : TableId ThreadKey) (sub : SubtaskId) (i : ℕ) (s a b t : StateView) → IsRunning (thread_of s n) s.core → a ≡ on_core (set_saved_callee (thread_of s n) None) s → b ≡ on_core (set_join (subtask_in a.tags sub) (join.Watched (thread_of a n))) a → t ≡ on_core (checked i) b → thread_of t f ≡ foot_of (thread_of t n) t.core → MayStop (thread_of t f) t.core
awaits_may_stop n f sub i s a b t st saved watched check foot =
    let N = thread_of s n in
    let q = subtask_in a.tags sub in
    let ra = still_runs n (set_saved_callee N None) s a saved (saved_steady N None s.core) st in
    let rb = still_runs n (set_join q (join.Watched (thread_of a n))) a b watched (join_steady q (join.Watched (thread_of a n)) a.core) ra in
    foot_may_stop n place.Running f t refl (checked_stands n place.Running i b t rb check) foot
