-- The op at a thread's place, that has paused, as a host has it taken on.
use Rattle.ops_dispatch.specs.Makes.{makes}
use Rattle.laws_order.proofs.GivenLemmas.{host_walk, rule_keeps, same_place}
use Rattle.laws_order.proofs.StayLemmas.{with_ops}
use Rattle.laws_order.proofs.HostCallLemmas.{host_instances}
use Rattle.laws_order.specs.Given.{HostInstances, given}
use Rattle.std.proofs.Common.{ap, arith, refl, subst, sym, ◌∙◌}
use Rattle.std.proofs.lemmas.Bool.Decides.{nat_tests}
use Rattle.std.specs.Prelude.{Bool, None, Option, Some, false, if◌then◌else◌, is_some, option_map, true, ℕ, ◌==◌, ◌≡◌}
use Rattle.ops_calls.proofs.HostOpLemmas.{implements_progresses, running_is}
use Rattle.ops_calls.specs.HostOps.{HasPaused, IsRunningIn, op_rule_at, runs_after, turn_for}
use Rattle.laws_states.specs.Order.{FitsAs, InOrder, InOrderAs, ThreadFits}
use Rattle.machine_data.specs.Core.{Core, Main, State, Unscripted}
use Rattle.machine_data.specs.Labels.{choice_of}
use Rattle.machine_data.specs.Maps.{get}
use Rattle.machine_data.specs.Read.{op_progress_of, instance_of, place_of}
use Rattle.machine_data.specs.declared.component.Component.{Component}
use Rattle.machine_data.specs.declared.label.Label.{Label}
use Rattle.machine_data.specs.declared.op.Op.{Op}
use Rattle.machine_data.specs.declared.op.Op.TheVariants as op
use Rattle.machine_data.specs.declared.op.TaskOp.TheVariants as task
use Rattle.machine_data.specs.declared.records.OpProgress.{OpProgress}
use Rattle.machine_data.specs.declared.records.OpProgress.TheVariants as op_progress
use Rattle.machine_data.specs.declared.records.Place.TheVariants as place
use Rattle.machine_data.specs.declared.records.Subtask.TheVariants as subtask
use Rattle.machine_data.specs.declared.records.Thread.{Thread}
use Rattle.machine_data.specs.declared.records.Turn.{Turn}
use Rattle.machine_data.specs.declared.records.Turn.TheVariants as turn
use Rattle.ops_guests.specs.OpResult.{Implements}
use Rattle.ops_guests.specs.Stays.{StaysAfter}
use Rattle.ops_guests.specs.Steps.{label_of, turn_after}
use Rattle.ops_guests.specs.declared.op_result.OpResult.{OpResult}
use Rattle.ops_guests.specs.declared.op_result.OpResult.TheVariants as op_result
use Rattle.machine_rules.specs.Finish.{SomeHost}
use Rattle.machine_rules.specs.OpParts.{callee_of_op, can_come, ends_activation, is_cancel, is_data_op, is_sync_call, is_sync_cancel, is_sync_host_call, is_thread_op, is_wait, suspends, yields}
use Rattle.machine_rules.specs.Progress.{Progress}
use Rattle.machine_rules.specs.Scripts.{op_of, ops_of}
use Rattle.machine_rules.specs.Stalled.{Setting}
use Rattle.machine_rules.specs.Step.{Progresses, op_rule}
use Rattle.ops_turns.proofs.KeptLemmas.{setting}
use Rattle.ops_turns.proofs.RunLemmas.{settled}
use Rattle.ops_turns.specs.Turn.{CoreInOrder, is_going, state_at}
use Rattle.core_primitives.specs.StateView.{StateView}

pub not_there : {X : Type 0} (o : Option X) → ((x : X) → o ≡ Some x → ⊥) → o ≡ None
not_there None h = refl
not_there (Some x) h = absurd (h x refl)

-- ---- How far it can have come

clash : {A : Type 0} (b : Bool) → b ≡ false → b ≡ true → A
clash b is was = absurd (let e = sym is ∙ was in cc)

-- an op that never pauses hasn't
pub unpaused : {A : Type 0} (o : Op) → is_wait o ≡ false → is_some (callee_of_op o) ≡ false → is_sync_host_call o ≡ false → is_sync_call o ≡ false → is_cancel o ≡ false →
    is_sync_cancel o ≡ false → is_thread_op suspends o ≡ false → is_thread_op yields o ≡ false → (f : OpProgress) → can_come o f ≡ true → (f ≡ op_progress.Fresh → ⊥) → A
unpaused o w e h y a b u v op_progress.Fresh can paused = absurd (paused refl)
unpaused o w e h y a b u v (op_progress.Waits x) can paused = clash (is_wait o) w can
unpaused o w e h y a b u v (op_progress.Calls (subtask.Guest k)) can paused = clash (is_some (callee_of_op o)) e can
unpaused o w e h y a b u v (op_progress.Calls (subtask.Host i)) can paused = clash (is_sync_host_call o) h can
unpaused o w e h y a b u v (op_progress.Answered x) can paused = clash (is_sync_call o) y can
unpaused o w e h y a b u v (op_progress.Cancels (subtask.Guest k)) can paused = clash (is_cancel o) a can
unpaused o w e h y a b u v (op_progress.Cancels (subtask.Host i)) can paused = clash false refl can
unpaused o w e h y a b u v (op_progress.AwaitsEnd sub) can paused = clash (is_sync_cancel o) b can
unpaused o w e h y a b u v op_progress.Suspends can paused = clash (is_thread_op suspends o) u can
unpaused o w e h y a b u v op_progress.Yields can paused = clash (is_thread_op yields o) v can

-- so it isn't on registers and memory cells, and ends no activation
paused_plain : (o : Op) (f : OpProgress) → can_come o f ≡ true → (f ≡ op_progress.Fresh → ⊥) → (ends_activation o ≡ false) × (is_data_op o ≡ false)
paused_plain (op.Data o) f can paused = unpaused (op.Data o) refl refl refl refl refl refl refl refl f can paused
paused_plain (op.Task o) f can paused = unpaused (op.Task o) refl refl refl refl refl refl refl refl f can paused
paused_plain (op.Set o) f can paused = (refl, refl)
paused_plain (op.Call o) f can paused = (refl, refl)
paused_plain (op.Thread o) f can paused = (refl, refl)

-- it makes nothing, since a call that has paused has made its own
paused_makes : (k : Op) (h : OpProgress) → can_come k h ≡ true → (h ≡ op_progress.Fresh → ⊥) → makes h k ≡ false
paused_makes k op_progress.Fresh can paused = absurd (paused refl)
paused_makes k (op_progress.Waits x) can paused = grind (arith, can)
paused_makes k (op_progress.Calls (subtask.Guest j)) can paused = grind (arith, can)
paused_makes k (op_progress.Calls (subtask.Host i)) can paused = grind (arith, can)
paused_makes k (op_progress.Answered v) can paused = grind (arith, can)
paused_makes k (op_progress.Cancels (subtask.Guest j)) can paused = grind (arith, can)
paused_makes k (op_progress.Cancels (subtask.Host i)) can paused = absurd (cc)
paused_makes k (op_progress.AwaitsEnd sub) can paused = grind (arith, can)
paused_makes k op_progress.Suspends can paused = grind (arith, can)
paused_makes k op_progress.Yields can paused = grind (arith, can)

runs_there : (n : ℕ) (s : Core) → place_of n s ≡ Some place.Running → (r : Thread) × (get s.threads n ≡ Some r)
runs_there n s running = by (get s.threads n) refl running
  where
    by : (o : Option Thread) → get s.threads n ≡ o → option_map (λ (r : Thread). r.place) o ≡ Some place.Running → (r : Thread) × (get s.threads n ≡ Some r)
    by None at e = absurd (cc)
    by (Some r) at e = (r, at)

module _ (c : Component) (s : StateView) (q : IsRunningIn c s) (paused : (i : ℕ) × HasPaused i s) where
  abbrev n : ℕ
  n = q.number

  pub begun : op_progress_of n s.core ≡ op_progress.Fresh → ⊥
  begun = (running_is s n q.runs (λ k. (instance_of k s.core ≡ paused.0) × (op_progress_of k s.core ≡ op_progress.Fresh → ⊥)) paused.1).1

  -- the op at the place of the thread that runs can come as far as it has
  pub can_be_there : can_come (op_of c n s.core) (op_progress_of n s.core) ≡ true
  can_be_there =
      let thread = runs_there n s.core ((q.order.order Unscripted).in_place.runs n refl) in
      let fits = (q.order.order Unscripted).fits n thread.0 thread.1 in
      let op = fits.op in let at = thread.1 in grind (arith)

  pub is_plain : (ends_activation (op_of c n s.core) ≡ false) × (is_data_op (op_of c n s.core) ≡ false)
  is_plain = paused_plain (op_of c n s.core) (op_progress_of n s.core) can_be_there begun

  pub makes_none : makes (op_progress_of n s.core) (op_of c n s.core) ≡ false
  makes_none = paused_makes (op_of c n s.core) (op_progress_of n s.core) can_be_there begun

  -- so it isn't at its script's end
  pub at_end : {A : Type 0} → op_of c n s.core ≡ op.Task task.Exit → A
  at_end is =
      unpaused (op.Task task.Exit) refl refl refl refl refl refl refl refl (op_progress_of n s.core)
      (subst (λ (o : Op). can_come o (op_progress_of n s.core) ≡ true) is can_be_there) begun

-- ---- Order

-- it is the op of the thread at its place
given_task_event : (c : Component) (n : ℕ) (s : Core) → FitsAs (ops_of c s) c s → FitsAs (given n (op_of c n s) (ops_of c s)) c s
given_task_event c n s fits m r at = subst (λ (o : Op). ThreadFits c s o r) (by (m == n) refl) (fits m r at)
  where
    by : (b : Bool) → (m == n) ≡ b → op_of c m s ≡ (if b then op_of c n s else op_of c m s)
    by true e = let own : m ≡ n = grind (arith, nat_tests, e) in ap (λ (k : ℕ). op_of c k s) own
    by false e = refl

-- and is so afterwards
given_own : (c : Component) (n : ℕ) (s : Core) → FitsAs (given n (op_of c n s) (ops_of c s)) c s → FitsAs (ops_of c s) c s
given_own c n s fits m r at = subst (λ (o : Op). ThreadFits c s o r) (by (m == n) refl) (fits m r at)
  where
    by : (b : Bool) → (m == n) ≡ b → (if b then op_of c n s else op_of c m s) ≡ op_of c m s
    by true e = let own : m ≡ n = grind (arith, nat_tests, e) in ap (λ (k : ℕ). op_of c k s) (sym own)
    by false e = refl

-- A host that has the op at the place done keeps order as it is: the thread is still at that op.
own_steps : (x : Setting) (n : ℕ) (s t : State) (l : Label) → s.turn ≡ turn.Run n → ends_activation (op_of x.component n s.core) ≡ false → is_data_op (op_of x.component n s.core) ≡ false →
    InOrder x.component s → Progresses s s.core n (op_rule SomeHost x.component n s.core (choice_of l) (op_of x.component n s.core)) l t → InOrder x.component t
own_steps x n s t l at plain other h row =
    let c = x.component in
    let o = op_of c n s.core in
    let has : InOrderAs (given n o (ops_of c s.core)) c s = with_ops h (given_task_event c n s.core h.fits) in
    let walked = host_walk x o n s t l at other row in
    let kept = rule_keeps (λ k. SomeHost) x o n s t l at plain has row walked (op_of c n t.core)
    (λ r b here was is. (same_place (λ k. SomeHost) x o n s t l at plain has row walked r b here was is).1) in
    with_ops kept (given_own c n t.core kept.fits)

module _ (c : Component) (n : ℕ) (s t : StateView) (in_turn : CoreInOrder c (turn.Run n) s.core) (plain : (ends_activation (op_of c n s.core) ≡ false) × (is_data_op (op_of c n s.core) ≡ false)) where
  abbrev before : Main → State
  before m = state_at s.core m (turn.Run n)

  abbrev rule : Label → Progress
  rule l = op_rule SomeHost c n s.core (choice_of l) (op_of c n s.core)

  along : (l : Label) (p : Turn) → ((m : Main) → Progresses (before m) s.core n (rule l) l (state_at t.core m p)) → CoreInOrder c p t.core
  unfolding HostInstances
  along l p row =
      let same = host_instances (setting c) (op_of c n s.core) n (before Unscripted) (state_at t.core Unscripted p) l refl plain.1 (row Unscripted) in
      record {
        order = λ m. own_steps (setting c) n (before m) (state_at t.core m p) l refl plain.0 plain.1 (in_turn.order m) (row m);
        there = λ i low. same.instances i ∙ in_turn.there i low;
        handles = λ i low. same.handles i ∙ in_turn.handles i low;
      }

  rule_of_place : (r : OpResult) → Implements (op_rule_at c s.core n (choice_of (label_of n r))) s.core r t.core → is_going r ≡ true → (m : Main) →
      Progresses (before m) s.core n (rule (label_of n r)) (label_of n r) (state_at t.core m (turn_after r))
  rule_of_place r met on m =
      subst (Progresses (before m) s.core n (rule (label_of n r)) (label_of n r)) (settled r s.core m (turn.Run n) t.core)
      (implements_progresses (before m) n (rule (label_of n r)) r t.core met on)

  pub host_in_order : (r : OpResult) → Implements (op_rule_at c s.core n (choice_of (label_of n r))) s.core r t.core → StaysAfter r s t → CoreInOrder c (turn_for (runs_after n r)) t.core
  host_in_order (op_result.Continues l m said) met stays = along l (turn.Run m) (rule_of_place (op_result.Continues l m said) met refl)
  host_in_order (op_result.Stops l) met stays = along l turn.Main (rule_of_place (op_result.Stops l) met refl)
  host_in_order (op_result.Traps why) met stays = subst (λ (v : StateView). CoreInOrder c (turn.Run n) v.core) (sym stays) in_turn
  host_in_order (op_result.Fails i) met stays = subst (λ (v : StateView). CoreInOrder c (turn.Run n) v.core) (sym stays) in_turn
