-- What a state in order gives to the thread that runs.
use Rattle.std.proofs.Common.{ap, arith, inl, inr, refl, subst, sym, ◌∙◌}
use Rattle.std.proofs.lemmas.Bool.Decides.{nat_tests}
use Rattle.std.specs.Option.{option_and_then, option_map_or}
use Rattle.std.specs.Prelude.{Bool, None, Option, Some, false, if◌then◌else◌, is_some, option_map, suc, true, zero, ℕ, ◌<◌, ◌≡◌}
use Rattle.ops_dispatch.specs.Runner.{Runner, UnderWay}
use Rattle.ops_subtasks.specs.Named.{NamedCallsThere}
use Rattle.laws_states.proofs.MemberLemmas.{members_named}
use Rattle.laws_states.specs.Order.{InOrder, IsOf, cancelled_by, is_awaited, set_of_op, set_of_place}
use Rattle.machine_data.specs.Core.{Core, Unscripted}
use Rattle.machine_data.specs.Maps.{get}
use Rattle.machine_data.specs.Read.{op_progress_of, instance_of, is_stage_ended, is_under, is_waiting_on, place_of, stage_of, task_of, under_of, work_caller_of}
use Rattle.machine_data.specs.declared.component.Component.{Component}
use Rattle.machine_data.specs.declared.records.Call.{Call}
use Rattle.machine_data.specs.declared.records.OpProgress.{OpProgress}
use Rattle.machine_data.specs.declared.records.OpProgress.TheVariants as op_progress
use Rattle.machine_data.specs.declared.records.Place.{Place}
use Rattle.machine_data.specs.declared.records.Place.TheVariants as place
use Rattle.machine_data.specs.declared.records.Subtask.{Subtask}
use Rattle.machine_data.specs.declared.records.Subtask.TheVariants as subtask
use Rattle.machine_data.specs.declared.records.Thread.{Thread}
use Rattle.machine_data.specs.declared.records.Turn.{Turn}
use Rattle.machine_data.specs.declared.records.Turn.TheVariants as turn
use Rattle.machine_data.specs.declared.records.Work.{Work}
use Rattle.machine_data.specs.declared.records.WorkCaller.TheVariants as work_caller
use Rattle.ops_guests.proofs.BesideLemmas.{stand_of}
use Rattle.ops_guests.proofs.BlockLemmas.{first_found}
use Rattle.ops_guests.specs.PickedEvents.{AllMembersNamed, MembersNamed}
use Rattle.ops_guests.specs.Running.{IsTopmost}
use Rattle.ops_guests.specs.Stays.{StaysAfter}
use Rattle.ops_guests.specs.OpWakes.{WaitersTogether}
use Rattle.ops_guests.specs.declared.op_result.OpResult.{OpResult}
use Rattle.ops_guests.specs.declared.op_result.OpResult.TheVariants as op_result
use Rattle.task_table.specs.declared.id.TableId.{TableId}
use Rattle.ops_turns.proofs.IdleLemmas.{ended_unqueued}
use Rattle.ops_turns.specs.Turn.{CanUnwind, CoreInOrder, running_of, state_at}
use Rattle.task_wait.specs.declared.keys.ThreadKey.{ThreadKey}
use Rattle.core_primitives.specs.Live.{live_op_progress, live_subtask}
use Rattle.core_primitives.specs.StateView.{StateView, thread_of}

pub none_some : {X : Type 0} {A : Type 0} {x : X} {o : Option X} → o ≡ None → o ≡ Some x → A
none_some {X} {A} {x} {o} a b = absurd (cc)

pub some_from : {X Y : Type 0} (f : X → Y) (o : Option X) (y : Y) → option_map f o ≡ Some y → is_some o ≡ true
some_from f None y e = absurd (cc)
some_from f (Some x) y e = refl

pub positive : (n : ℕ) (s : Core) → get s.threads 0 ≡ None → is_some (get s.threads n) ≡ true → 0 < n
positive zero s none there = absurd (cc)
positive (suc n) s none there = omega arith

-- ---- Who is under another one is found

under_found : (n m : ℕ) (s : Core) → place_of m s ≡ Some (place.Under n) → is_some (under_of n s) ≡ true
unfolding under_of
under_found n m s at = first_found (is_under n) m s (grind (arith, nat_tests, at))

-- ---- The running thread

pub number_at : (n : ℕ) (s : StateView) → running_of s ≡ Some n → (id : TableId ThreadKey) → s.current ≡ Some id → thread_of s id ≡ n
number_at n s runs id e = same (thread_of s id) n (sym (ap (option_map (λ i. thread_of s i)) e) ∙ runs)
  where
    same : (a b : ℕ) → Some a ≡ Some b → a ≡ b
    same a b h = cc

thread_at : (o : Option Thread) → option_map (λ (t : Thread). t.place) o ≡ Some place.Running → (t : Thread) × (o ≡ Some t)
thread_at None e = none_some refl e
thread_at (Some t) e = (t, refl)

-- ---- Sets

module _ (c : Component) (p : Turn) (s : Core) (in_turn : CoreInOrder c p s) where
  known : InOrder c (state_at s Unscripted p)
  known = in_turn.order Unscripted

  members_at : (i x : ℕ) → IsOf i x s → MembersNamed i x s
  members_at i x home = members_named s known.joins_named known.names known.works_known i x home

  pub all_members_named : (i : ℕ) → AllMembersNamed i s
  all_members_named i h x e = members_at i x (known.sets_named.home i h x e)

  -- the subtask that an op under way cancels
  cancelled_there : (n : ℕ) (sub : Subtask) → cancelled_by (op_progress_of n s) ≡ Some sub → live_subtask sub s ≡ sub
  cancelled_there n (subtask.Guest k) e = by (get s.calls k) refl (known.cancelled n (subtask.Guest k) e)
    where
      by : (o : Option Call) → get s.calls k ≡ o → is_some (option_and_then (λ (x : Call). x.handle) o) ≡ true → subtask.Guest (if is_some (get s.calls k) then k else 0) ≡ subtask.Guest k
      by None at h = absurd (cc)
      by (Some x) at h = ap (λ (p : Option Call). subtask.Guest (if is_some p then k else 0)) at
  cancelled_there n (subtask.Host i) e = by (get s.works i) refl (known.cancelled n (subtask.Host i) e)
    where
      by : (o : Option Work) → get s.works i ≡ o → is_some (option_and_then (λ (x : Work). x.handle) o) ≡ true → subtask.Host (if is_some (get s.works i) then i else 0) ≡ subtask.Host i
      by None at h = absurd (cc)
      by (Some x) at h = ap (λ (p : Option Work). subtask.Host (if is_some p then i else 0)) at

  call_there : (k : ℕ) (o : Option Call) → get s.calls k ≡ o → option_map_or is_awaited o false ≡ true → is_some (get s.calls k) ≡ true
  call_there k None e h = absurd (cc)
  call_there k (Some x) e h = ap is_some e

  work_there : (i n : ℕ) → work_caller_of i s ≡ work_caller.Sync n → is_some (get s.works i) ≡ true
  work_there i n e = by (get s.works i) e
    where
      by : (o : Option Work) → option_map_or (λ (w : Work). w.caller) o work_caller.Spawn ≡ work_caller.Sync n → is_some o ≡ true
      by None h = absurd (cc)
      by (Some w) h = refl

  module _ (n : ℕ) (runs : place_of n s ≡ Some place.Running) where
    calls_there : (k : ℕ) → op_progress_of n s ≡ op_progress.Calls (subtask.Guest k) → is_some (get s.calls k) ≡ true
    calls_there k e = elim (known.calls.inside n k e) [
      | inl under ↦ absurd (let x = sym under ∙ runs in cc)
      | inr awaited ↦ call_there k (get s.calls k) refl awaited
    ]

    works_there : (i : ℕ) → op_progress_of n s ≡ op_progress.Calls (subtask.Host i) → is_some (get s.works i) ≡ true
    works_there i e = work_there i n (known.works_known.called n i e).1

    ended_work : (i : ℕ) → op_progress_of n s ≡ op_progress.Calls (subtask.Host i) → is_stage_ended (stage_of i s) ≡ true
    ended_work i e = elim (known.awaited n i e).1 [
      | inl blocked ↦ absurd (let x = sym blocked ∙ runs in cc)
      | inr over ↦ over
    ]

    pub under_way : UnderWay n s
    under_way = record {
      names = op_names (op_progress_of n s) refl;
      sets = λ x e. some_from _ (get s.sets x) (instance_of n s) (known.waits.by_op n x (ap set_of_op e));
      members = λ x e. members_at (instance_of n s) x (known.waits.by_op n x (ap set_of_op e));
      calls = calls_there;
      works = works_there;
      unqueued = λ i e. ended_unqueued i s known.works (ended_work i e);
    }
      where
        kept : (b : Bool) (k : ℕ) → b ≡ true → (if b then k else 0) ≡ k
        kept true k e = refl
        kept false k e = absurd (cc)

        op_names : (h : OpProgress) → op_progress_of n s ≡ h → live_op_progress (op_progress_of n s) s ≡ op_progress_of n s
        op_names (op_progress.Waits x) e = rw e (ap op_progress.Waits (kept _ x (some_from _ (get s.sets x) (instance_of n s) (known.waits.by_op n x (ap set_of_op e)))))
        op_names (op_progress.Calls (subtask.Guest k)) e = rw e (ap (λ j. op_progress.Calls (subtask.Guest j)) (kept _ k (calls_there k e)))
        op_names (op_progress.Calls (subtask.Host i)) e = rw e (ap (λ j. op_progress.Calls (subtask.Host j)) (kept _ i (works_there i e)))
        op_names (op_progress.Cancels sub) e = rw e (ap op_progress.Cancels (cancelled_there n sub (ap cancelled_by e)))
        op_names (op_progress.AwaitsEnd sub) e = rw e (ap op_progress.AwaitsEnd (cancelled_there n sub (ap cancelled_by e)))
        op_names op_progress.Fresh e = rw e refl
        op_names (op_progress.Answered v) e = rw e refl
        op_names op_progress.Suspends e = rw e refl
        op_names op_progress.Yields e = rw e refl

  pub named_calls_there : NamedCallsThere s
  named_calls_there i h k e = by (get s.calls k) refl (known.names.there i h k e)
    where
      by : (o : Option Call) → get s.calls k ≡ o → option_and_then (λ (x : Call). x.handle) o ≡ Some h → is_some (get s.calls k) ≡ true
      by None at handle = absurd (cc)
      by (Some x) at handle = ap is_some at

  waiting_at : (x : ℕ) (o : Option Place) → option_map_or (is_waiting_on x) o false ≡ true → option_and_then set_of_place o ≡ Some x
  waiting_at x None h = absurd (cc)
  waiting_at x (Some (place.Waiting y b)) h = grind (arith, nat_tests)
  waiting_at x (Some p) h = absurd (cc)

  pub waiters_together : WaitersTogether s
  waiters_together x n m a b =
      same_home (instance_of n s) (instance_of m s) _ (known.waits.by_place n x (waiting_at x (place_of n s) a)) (known.waits.by_place m x (waiting_at x (place_of m s) b))
    where
      same_home : (i j : ℕ) (o : Option ℕ) → o ≡ Some i → o ≡ Some j → i ≡ j
      same_home i j o a b = cc

module _ (c : Component) (n : ℕ) (s : StateView) (in_turn : CoreInOrder c (turn.Run n) s.core) where
  order : InOrder c (state_at s.core Unscripted (turn.Run n))
  order = in_turn.order Unscripted

  at : place_of n s.core ≡ Some place.Running
  at = order.in_place.runs n refl

  runner_of : get s.core.threads 0 ≡ None → (id : TableId ThreadKey) → s.current ≡ Some id → n ≡ thread_of s id → place_of (thread_of s id) s.core ≡ Some place.Running → Runner id s
  runner_of none id current named runs = let t = thread_at (get s.core.threads (thread_of s id)) runs in record {
    thread = t.0;
    here = t.1;
    live = positive (thread_of s id) s.core none (ap is_some t.1);
    current = current;
    running = stand_of (thread_of s id) place.Running s.core runs refl order.in_place.placed;
    sets = λ i h x e. some_from _ (get s.core.sets x) i (order.sets_named.home i h x e);
    join = λ x e. let j = order.joins_named.joins (subtask.Guest (task_of (thread_of s id) s.core)) x e in some_from _ (get s.core.sets x) j.instance j.home;
    under = λ implicit direct. let below = order.directs (thread_of s id) (ap is_some runs) implicit direct in under_found (thread_of s id) below.0 s.core below.1;
    members = all_members_named c (turn.Run n) s.core in_turn (instance_of (thread_of s id) s.core);
    under_way = under_way c (turn.Run n) s.core in_turn (thread_of s id) runs;
    together = waiters_together c (turn.Run n) s.core in_turn;
    calls = named_calls_there c (turn.Run n) s.core in_turn;
    starts = order.starts;
    waiting = (order.awake refl).starts_there;
    works = order.works;
    held = order.held;
  }

  -- the thread that runs, by its id
  pub runner : get s.core.threads 0 ≡ None → running_of s ≡ Some n → (id : TableId ThreadKey) → s.current ≡ Some id → Runner id s
  runner none runs id current =
      let named = sym (number_at n s runs id current) in
      runner_of none id current named (subst (λ k. place_of k s.core ≡ Some place.Running) named at)

topmost : (id : TableId ThreadKey) (s : StateView) → Runner id s → IsTopmost (thread_of s id) s.core
topmost id s q = record { place = place.Running; stand = q.running; apart = λ p e. absurd (cc) }

-- the strand of a thread that trapped is there
pub unwinds : (r : OpResult) (id : TableId ThreadKey) (s t : StateView) → Runner id s → StaysAfter r s t → CanUnwind r (thread_of t id) t.core
unwinds (op_result.Continues l m said) id s t q e = tt
unwinds (op_result.Stops l) id s t q e = tt
unwinds (op_result.Traps why) id s t q e = subst (λ (v : StateView). (0 < thread_of v id) × IsTopmost (thread_of v id) v.core) (sym e) (q.live, topmost id s q)
unwinds (op_result.Fails i) id s t q e = subst (λ (v : StateView). (0 < thread_of v id) × IsTopmost (thread_of v id) v.core) (sym e) (q.live, topmost id s q)

-- the same thread runs where no name and not the current one is changed
pub runs_still : (s t : StateView) → t.tags ≡ s.tags → t.current ≡ s.current → running_of t ≡ running_of s
runs_still s t tags current = cc
