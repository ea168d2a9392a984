-- A scenario that was run so far, and the thread that runs in it.
use Rattle.core_primitives.specs.Groups.{asked}
use Rattle.std.proofs.Common.{ap, refl, subst, sym, ◌∙◌}
use Rattle.std.specs.Prelude.{Bool, IfSome, List, None, Ok, Option, Some, false, is_some, length, option_map, true, ℕ, ◌<◌, ◌≡◌, ◌≢◌}
use Rattle.ops_state.specs.declared.name_calls.QualifiedThreadId.{QualifiedThreadId}
use Rattle.ops_calls.specs.HostOps.{MayDoHostOp, HasPaused, IsRunningIn}
use Rattle.ops_calls.specs.Prepared.{CanStart, Prepared, Prepares}
use Rattle.machine_data.specs.Maps.{get}
use Rattle.machine_data.specs.Read.{op_progress_of, instance_of}
use Rattle.machine_data.specs.declared.component.Callee.{Callee}
use Rattle.machine_data.specs.declared.component.Component.{Component}
use Rattle.machine_data.specs.declared.records.Goal.{Goal}
use Rattle.machine_data.specs.declared.records.OpProgress.TheVariants as op_progress
use Rattle.machine_data.specs.declared.records.Place.TheVariants as place
use Rattle.machine_data.specs.declared.records.Thread.{Thread}
use Rattle.machine_data.specs.declared.records.Turn.TheVariants as turn
use Rattle.task_table.specs.declared.id.TableId.{TableId}
use Rattle.ops_turns.proofs.OrderLemmas.{number_at, positive, some_from}
use Rattle.ops_turns.specs.Turn.{CoreInOrder, running_of}
use Rattle.ops_turns.specs.WellFormed.{IsWellFormed}
use Rattle.task_wait.specs.declared.keys.ThreadKey.{ThreadKey}
use Rattle.core_primitives.specs.StateView.{Keeps, StateView, call_number, thread_number, thread_of}

-- a running thread's clauses, of this thread
pub at_running : (s : StateView) (n : ℕ) (P : ℕ → Type 0) → running_of s ≡ Some n → P n → IfSome (running_of s) P
at_running s n P runs p = subst (λ (o : Option ℕ). IfSome o P) (sym runs) p

pub of_running : (s : StateView) (n : ℕ) (P : ℕ → Type 0) → running_of s ≡ Some n → IfSome (running_of s) P → P n
of_running s n P runs p = subst (λ (o : Option ℕ). IfSome o P) runs p

-- a thread that is about to ask, or has paused, is of the instance
pub home_of : (i : ℕ) (s : StateView) (paused : Bool) → (paused ≡ false → MayDoHostOp i s) → (paused ≡ true → HasPaused i s) → IfSome (running_of s) (λ n. instance_of n s.core ≡ i)
home_of i s paused fresh stopped = go (running_of s) paused fresh stopped
  where
    go : (o : Option ℕ) (b : Bool) → (b ≡ false → IfSome o (λ n. (instance_of n s.core ≡ i) × (op_progress_of n s.core ≡ op_progress.Fresh))) →
        (b ≡ true → IfSome o (λ n. (instance_of n s.core ≡ i) × (op_progress_of n s.core ≢ op_progress.Fresh))) → IfSome o (λ n. instance_of n s.core ≡ i)
    go None b fresh stopped = tt
    go (Some n) false fresh stopped = (fresh refl).0
    go (Some n) true fresh stopped = (stopped refl).0

-- an instance of the running thread that is below the component's
pub is_running_in : (c : Component) (s : StateView) (i : ℕ) → IsWellFormed c → IfSome (running_of s) (λ n. CoreInOrder c (turn.Run n) s.core) → is_some (running_of s) ≡ true → IfSome (running_of s) (λ n. instance_of n s.core ≡ i) → i < length c.instances → IsRunningIn c s
is_running_in c s i formed order there home below = go (running_of s) refl order home there
  where
    go : (o : Option ℕ) → running_of s ≡ o → IfSome o (λ n. CoreInOrder c (turn.Run n) s.core) → IfSome o (λ n. instance_of n s.core ≡ i) → is_some o ≡ true → IsRunningIn c s
    go None e order home there = absurd (cc)
    go (Some n) e order home there = record {
      well_formed = formed;
      number = n;
      runs = e;
      order = order;
      home = subst (λ k. k < length c.instances) (sym home) below;
    }

-- ---- A call in two halves

made_is : (c : Component) (n : ℕ) (e : Callee) (words : List ℕ) (g : Goal) (s t : StateView) (room : Bool) (id : QualifiedThreadId) → Prepares c n e words g s room (Ok id) t → Prepared c n e words g s t id
made_is c n e words g s t true id h = h
made_is c n e words g s t false id h = absurd (let no = h.0 in cc)

-- who ran runs still
runs_still : (n : ℕ) (s t : StateView) → running_of s ≡ Some n → 0 < n → t.current ≡ s.current → Keeps s.tags t.tags → running_of t ≡ Some n
runs_still n s t runs live same tags = go s.current refl
  where
    go : (o : Option (TableId ThreadKey)) → s.current ≡ o → running_of t ≡ Some n
    go None at = absurd (let no = ap (option_map (λ i. thread_of s i)) (sym at) ∙ runs in cc)
    go (Some i) at =
        let is = number_at n s runs i at in
        ap (option_map (λ j. thread_of t j)) (same ∙ at) ∙ ap (λ (k : ℕ). Some k) (tags.threads i (subst (λ k. 0 < k) (sym is) live) ∙ is)

pub can_start : (c : Component) (n : ℕ) (e : Callee) (words : List ℕ) (g : Goal) (s t : StateView) (room : Bool) (id : QualifiedThreadId) → running_of s ≡ Some n → get t.core.threads 0 ≡ None → IfSome (running_of s) (λ k. Prepares c k e words g s room (Ok id) t) → IfSome (running_of t) (λ k. CanStart k id t)
can_start c n e words g s t room id runs zero prepares =
    let made = made_is c n e words g s t room id (of_running s n (λ k. Prepares c k e words g s room (Ok id) t) runs prepares) in
    let live = positive n t.core zero (some_from (λ (r : Thread). r.place) (get t.core.threads n) place.Running made.can.running.here) in
    at_running t n (λ k. CanStart k id t) (runs_still n s t runs live made.becomes.current made.becomes.tags) made.can

some_to : (o : Option ℕ) (P Q : ℕ → Type 0) → ((k : ℕ) → P k → Q k) → IfSome o P → IfSome o Q
some_to None P Q to h = tt
some_to (Some k) P Q to h = to k h

-- also once it was asked which groups have ended
pub can_start_asked : (id : QualifiedThreadId) (v : StateView) → IfSome (running_of v) (λ k. CanStart k id v) → IfSome (running_of (asked v)) (λ k. CanStart k id (asked v))
unfolding thread_number call_number
can_start_asked id v can = some_to (running_of v) (λ k. CanStart k id v) (λ k. CanStart k id (asked v)) (λ k h. record { running = h.running; live = record { live = h.live.live; task = h.live.task }; new = h.new }) can
