-- What stays in order: a change shows what it does to places and to marks, and all that it leaves as it was is carried over here, once.
use Rattle.laws_order.specs.Pieces.{state_in}
use Rattle.std.proofs.Common.{ap, ap₂, inl, inr, refl, subst, sym, ⊎_elim, ◌∙◌}
use Rattle.std.specs.Option.{option_map_or}
use Rattle.std.specs.Prelude.{Bool, None, Option, Some, cond, false, if◌then◌else◌, is_none, is_some, length, not, option_and_then, option_map, true, ℕ, ◌&&◌, ◌==◌, ◌||◌, ◌≡◌, ◌≤◌, ◌⊎◌}
use Rattle.laws_states.proofs.FitLemmas.{op_there}
use Rattle.laws_states.specs.Order.{Awake, CallKinds, CallsThere, CallsTold, CallsAwaited, CancelsNamed, CancelsWatched, DeliveredByCallback, DirectsOnTop, FitsAs, HostsAwaited, InOrder, InOrderFor, InOrderIf, InPlace, InsideOps, IsOf, JoinNamed, OnlyCalled, StartsFirst, StartsThere, Strands, TableKept, ThreadNumbered, WaitsAtHome, WaitsPlaced, WasCall, WorksQueued, WorksTold, cancelled_by, cancelled_call, has_one_on_top, is_awaited, is_delivered, is_finishing, is_host_of, is_open, is_push_of, is_queued, is_unbegun, names_script, set_of_op, set_of_place, stands}
use Rattle.laws_states.specs.Settings.{CodesInCallbacks}
use Rattle.laws_states.specs.WakeLaw.{NoneBlockedOnEnd, WakesCounted}
use Rattle.machine_data.proofs.CommuteLemmas.{get-change}
use Rattle.machine_data.specs.Core.{Core, Main, State, NameTable, Unscripted}
use Rattle.machine_data.specs.Maps.{Records, change, get}
use Rattle.machine_data.specs.Read.{admits, as_set, as_subtask, backpressure_of, call_instance, callee_of, end_of, event_of, goal_of, op_progress_of, instance_of, is_async_lifted, is_callback, is_direct, is_explicit, is_stage_ended, is_sync, join_of, kind_of, may_not_enter, named_by, no_callee, place_of, set_at, stage_of, subtask_at, subtask_handle, task_of, undelivered_end, work_caller_of}
use Rattle.machine_data.specs.Write.{with_groups_made}
use Rattle.machine_data.specs.declared.component.Callee.{Callee}
use Rattle.machine_data.specs.declared.component.Component.{Component}
use Rattle.machine_data.specs.declared.component.ExportKind.{ExportKind}
use Rattle.machine_data.specs.declared.op.Op.{Op}
use Rattle.machine_data.specs.declared.records.Call.{Call}
use Rattle.machine_data.specs.declared.records.Entry.{Entry}
use Rattle.machine_data.specs.declared.records.Goal.{Goal}
use Rattle.machine_data.specs.declared.records.OpProgress.{OpProgress}
use Rattle.machine_data.specs.declared.records.Join.{Join}
use Rattle.machine_data.specs.declared.records.Named.{Named}
use Rattle.machine_data.specs.declared.records.Place.{Place}
use Rattle.machine_data.specs.declared.records.Stage.{Stage}
use Rattle.machine_data.specs.declared.records.Subtask.{Subtask}
use Rattle.machine_data.specs.declared.records.Thread.{Thread}
use Rattle.machine_data.specs.declared.records.Turn.{Turn}
use Rattle.machine_data.specs.declared.records.Why.{Why}
use Rattle.machine_data.specs.declared.records.Work.{Work}
use Rattle.machine_data.specs.declared.records.WorkCaller.{WorkCaller}
use Rattle.laws_places.proofs.BlockedLemmas.{blocked_stay, ended_as}
use Rattle.laws_places.proofs.CallersSteps.{SamePlaces, callers_stay, feet_stay, free_stays}
use Rattle.laws_places.proofs.CountedSteps.{counted_as}
use Rattle.machine_rules.proofs.PlacingLemmas.{unplaced}
use Rattle.machine_rules.specs.Allowed.{is_async_work, subtask_under_way, watches}
use Rattle.machine_rules.specs.OpParts.{can_come, is_sync_call}
use Rattle.machine_rules.specs.Places.{is_at_high, is_at_low, is_at_switch, is_behind_of, is_fresh, one_if, says}
use Rattle.machine_rules.specs.Scripts.{export_kind, op_at_place, op_of, script_in}
use Rattle.machine_rules.specs.Primitives.{placed_as}

-- ---- The same core

-- Order of one core: at another turn, of another component, or in other ops.
pub same_core : {g b : Bool} {ops now_ops : ℕ → Op} {c d : Component} (s : State) (m : Main) (q : Turn) → InOrderFor g ops c s →
    CodesInCallbacks d → CallKinds d s.core → FitsAs now_ops d s.core → ((n : ℕ) → q ≡ Turn.Run n → place_of n s.core ≡ Some Place.Running) →
    (b ≡ true → Awake q s.core) → InOrderFor b now_ops d (record s { main = m; turn = q })
same_core s m q o codes kinds fits runs awake = record {
  codes = codes;
  in_place = record { placed = o.in_place.placed; runs = runs };
  strands = o.strands;
  directs = o.directs;
  works = o.works;
  awaited = o.awaited;
  numbered = o.numbered;
  calls_there = o.calls_there;
  calls_named = o.calls_named;
  works_named = o.works_named;
  names = o.names;
  calls = o.calls;
  works_known = o.works_known;
  sets_named = o.sets_named;
  joins_named = o.joins_named;
  waits = o.waits;
  waits_placed = o.waits_placed;
  kinds = kinds;
  deliveries = o.deliveries;
  fits = fits;
  starts = o.starts;
  unbegun = o.unbegun;
  watched = o.watched;
  cancelled = o.cancelled;
  inside = o.inside;
  held = o.held;
  works_told = o.works_told;
  calls_told = o.calls_told;
  awake = awake;
}

-- the same order, of other ops in which threads have come as far
pub with_ops : {g : Bool} {ops now_ops : ℕ → Op} {c : Component} {s : State} → InOrderFor g ops c s → FitsAs now_ops c s.core → InOrderFor g now_ops c s
with_ops {s = s} h fits = same_core s s.main s.turn h h.codes h.kinds fits h.in_place.runs h.awake

-- order hangs on the turn by the thread that runs, and by what is so while the turns aren't over
pub turned : {g : Bool} {ops : ℕ → Op} {c : Component} (s : State) → InOrderFor g ops c s → (m : Main) (q : Turn) →
    ((n : ℕ) → q ≡ Turn.Run n → place_of n s.core ≡ Some Place.Running) → (b : Bool) → (b ≡ true → Awake q s.core) → InOrderFor b ops c (record s { main = m; turn = q })
turned s o m q runs b awake = same_core s m q o o.codes o.kinds o.fits runs awake

-- ---- Records but for what a change may touch

-- the record of a call but for what it has to be told, its set, how far a cancel has come, and its borrows
abbrev pub unmarked_call : Call → Call
unmarked_call c = record c { event = None; task_event = None; join = Join.Nowhere; cancel_delivered = false; borrows = 0 }

-- the record of a work but for what it has to be told, and its set
abbrev pub unmarked_work : Work → Work
unmarked_work w = record w { event = None; join = Join.Nowhere }

-- the record of a thread but for its place, and how far it has come in its op
abbrev pub fixed : Thread → Thread
fixed z = record z { place = Place.New; op_progress = OpProgress.Fresh }

module _ {X : Type 0} (plain : X → X) where
  -- what is read of both alike is the same
  pub read_same : {Y : Type 0} (o p : Option X) → option_map plain o ≡ option_map plain p → (r : Option X → Y) → ((x : X) → r (Some (plain x)) ≡ r (Some x)) → r o ≡ r p
  read_same None None e r h = refl
  read_same None (Some y) e r h = absurd (cc)
  read_same (Some x) None e r h = absurd (cc)
  read_same (Some x) (Some y) e r h = sym (h x) ∙ (ap r e ∙ h y)

  -- one that is there was there
  pub was_there : (o p : Option X) → option_map plain o ≡ option_map plain p → (y : X) → o ≡ Some y → (z : X) × ((p ≡ Some z) × (plain y ≡ plain z))
  was_there None p e y at = absurd (cc)
  was_there (Some x) None e y at = absurd (cc)
  was_there (Some x) (Some z) e y at = let one : plain x ≡ plain z = cc in let same : x ≡ y = cc in (z, (refl, ap plain (sym same) ∙ one))

  -- a change of records but for what is plain
  pub change_same : (k : ℕ) (f : X → X) (m : Records X) → ((x : X) → plain (f x) ≡ plain x) → (j : ℕ) → option_map plain (get (change k f m) j) ≡ option_map plain (get m j)
  change_same k f m same j = ap (option_map plain) (get-change k f m j) ∙ go (j == k) (get m j)
    where
      go : (b : Bool) (o : Option X) → option_map plain (cond b (option_map f o) o) ≡ option_map plain o
      go true None = refl
      go true (Some x) = ap Some (same x)
      go false o = refl

-- ---- What a change shows

-- What order says of places, from s to t: who is under another or blocked is so still, and nobody else comes to be under one, held,
-- or at a place for a set or a delivery. Entries that are of no thread are where they were; and what else is read of places is so
-- of t.
pub record PlacesFit (q : Turn) (s t : Core) : Type 0 where
  pub in_place : InPlace (state_in Unscripted q t)
  pub entries : (test : Entry → Bool) → ((n : ℕ) → test (Entry.Thread n) ≡ false) →
      (stands test t.queues.high ≡ stands test s.queues.high) × (stands test t.queues.low ≡ stands test s.queues.low)
  pub under : (n m : ℕ) → place_of n s ≡ Some (Place.Under m) → place_of n t ≡ Some (Place.Under m)
  pub was_under : (n m : ℕ) → place_of n t ≡ Some (Place.Under m) → place_of n s ≡ Some (Place.Under m)
  pub blocked : (n : ℕ) (sub : Subtask) → place_of n s ≡ Some (Place.Blocked sub) → place_of n t ≡ Some (Place.Blocked sub)
  pub held : (n : ℕ) (w : Why) → place_of n t ≡ Some (Place.Held w) → place_of n s ≡ Some (Place.Held w)
  pub sets : (n x : ℕ) → option_and_then set_of_place (place_of n t) ≡ Some x → option_and_then set_of_place (place_of n s) ≡ Some x
  pub delivered : (n : ℕ) → option_map_or is_delivered (place_of n t) false ≡ true → option_map_or is_delivered (place_of n s) false ≡ true
  pub fresh : (n : ℕ) → is_fresh (place_of n t) ≡ true → is_fresh (place_of n s) ≡ true
  pub starts : (k : ℕ) (y : Call) → get s.calls k ≡ Some y → y.started ≡ false → is_fresh (place_of k t) ≡ true
  pub waits_placed : WaitsPlaced t
  pub inside : InsideOps t

-- What order says of the marks of t, in which threads have come as far as in s.
pub record MarksFit (c : Component) (s t : Core) : Type 0 where
  pub called : (n k : ℕ) → op_progress_of n s ≡ OpProgress.Calls (Subtask.Guest k) → OnlyCalled n k t
  pub inside : (n k : ℕ) → op_progress_of n s ≡ OpProgress.Calls (Subtask.Guest k) →
      (place_of n s ≡ Some (Place.Under k)) ⊎ (option_map_or is_awaited (get t.calls k) false ≡ true)
  pub joins : (sub : Subtask) (x : ℕ) → join_of sub t ≡ Join.Set x → JoinNamed sub x t
  pub uncancelled : (k : ℕ) (x : Call) → get t.calls k ≡ Some x → is_async_lifted x.kind ≡ false → x.cancel_delivered ≡ false
  pub watched : (n : ℕ) (sub : Subtask) → cancelled_by (op_progress_of n s) ≡ Some sub → watches n sub t ≡ true
  pub works_told : WorksTold t
  pub calls_told : CallsTold t

-- What order says of how far the threads of t have come, in the ops that they have then.
pub record OpsFit (ops now_ops : ℕ → Op) (s t : Core) : Type 0 where
  pub op : (n : ℕ) (z r : Thread) → get s.threads n ≡ Some z → get t.threads n ≡ Some r → fixed r ≡ fixed z →
      (can_come (ops n) z.op_progress ≡ true → can_come (now_ops n) r.op_progress ≡ true) × (is_sync_call (ops n) ≡ true → is_sync_call (now_ops n) ≡ true)
  pub awaited : HostsAwaited t
  pub calls_named : (n k : ℕ) → subtask_under_way (op_progress_of n t) ≡ Some (Subtask.Guest k) → WasCall t k
  pub works_named : (n j : ℕ) → subtask_under_way (op_progress_of n t) ≡ Some (Subtask.Host j) → j ≤ t.made.works
  pub called : (n k : ℕ) → op_progress_of n t ≡ OpProgress.Calls (Subtask.Guest k) → OnlyCalled n k t
  pub calls : CallsAwaited t
  pub works_called : (n j : ℕ) → op_progress_of n t ≡ OpProgress.Calls (Subtask.Host j) → (j ≤ t.made.works) × (work_caller_of j t ≡ WorkCaller.Sync n)
  pub waits : (n y : ℕ) → set_of_op (op_progress_of n t) ≡ Some y → IsOf (instance_of n t) y t
  pub watched : CancelsWatched t
  pub cancelled : CancelsNamed t

-- What order reads of t beside places, entries, ops and marks is as in s.
pub record RestStays (s t : Core) : Type 0 where
  pub threads : (n : ℕ) → option_map fixed (get t.threads n) ≡ option_map fixed (get s.threads n)
  pub calls : (k : ℕ) → option_map unmarked_call (get t.calls k) ≡ option_map unmarked_call (get s.calls k)
  pub works : (i : ℕ) → option_map unmarked_work (get t.works i) ≡ option_map unmarked_work (get s.works i)
  pub named : (i h : ℕ) → named_by t.handles i h ≡ named_by s.handles i h
  pub tables : ((i : ℕ) (y : NameTable Named) → get s.handles i ≡ Some y → TableKept y) → (i : ℕ) (y : NameTable Named) → get t.handles i ≡ Some y → TableKept y
  pub enters : (i : ℕ) → may_not_enter i t ≡ may_not_enter i s
  pub presses : (i : ℕ) → backpressure_of i t ≡ backpressure_of i s

-- u with the sets of s, in which as many were made
abbrev pub over : Core → Core → Core
over u s = record u { sets = s.sets; made = with_groups_made u.made.groups s.made }

-- ---- All else

module _ {ops : ℕ → Op} (c : Component) (x : State) (g : Bool) (o : InOrderFor g ops c x) (u : Core) (rest : RestStays x.core u) where
  abbrev s : Core
  s = x.core

  abbrev t : Core
  t = over u s

  -- ---- What is read

  thread_read : {Y : Type 0} (r : Option Thread → Y) → ((z : Thread) → r (Some (fixed z)) ≡ r (Some z)) → (n : ℕ) → r (get t.threads n) ≡ r (get s.threads n)
  thread_read r h n = read_same fixed (get u.threads n) (get s.threads n) (rest.threads n) r h

  call_read : {Y : Type 0} (r : Option Call → Y) → ((z : Call) → r (Some (unmarked_call z)) ≡ r (Some z)) → (k : ℕ) → r (get t.calls k) ≡ r (get s.calls k)
  call_read r h k = read_same unmarked_call (get u.calls k) (get s.calls k) (rest.calls k) r h

  work_read : {Y : Type 0} (r : Option Work → Y) → ((z : Work) → r (Some (unmarked_work z)) ≡ r (Some z)) → (i : ℕ) → r (get t.works i) ≡ r (get s.works i)
  work_read r h i = read_same unmarked_work (get u.works i) (get s.works i) (rest.works i) r h

  was : (n : ℕ) (y : Thread) → get t.threads n ≡ Some y → (z : Thread) × ((get s.threads n ≡ Some z) × (fixed y ≡ fixed z))
  was n y at = was_there fixed (get u.threads n) (get s.threads n) (rest.threads n) y at

  call_kept : (P : Call → Type 0) (k : ℕ) (y : Call) → get t.calls k ≡ Some y → ((z : Call) → get s.calls k ≡ Some z → P (unmarked_call z)) → P (unmarked_call y)
  call_kept P k y at of = let q = was_there unmarked_call (get u.calls k) (get s.calls k) (rest.calls k) y at in subst P (sym q.1.1) (of q.0 q.1.0)

  work_kept : (P : Work → Type 0) (i : ℕ) (y : Work) → get t.works i ≡ Some y → ((z : Work) → get s.works i ≡ Some z → P (unmarked_work z)) → P (unmarked_work y)
  work_kept P i y at of = let q = was_there unmarked_work (get u.works i) (get s.works i) (rest.works i) y at in subst P (sym q.1.1) (of q.0 q.1.0)

  tasks : (n : ℕ) → task_of n t ≡ task_of n s
  tasks n = thread_read (λ (q : Option Thread). option_map_or (λ (z : Thread). z.call) q 0) (λ z. refl) n

  explicit : (n : ℕ) → is_explicit n t ≡ is_explicit n s
  explicit n = thread_read (λ (q : Option Thread). option_map_or (λ (z : Thread). z.explicit) q false) (λ z. refl) n

  there : (n : ℕ) → is_some (place_of n t) ≡ is_some (place_of n s)
  there n = thread_read (λ (q : Option Thread). is_some (option_map (λ (z : Thread). z.place) q)) (λ z. refl) n

  place_at : (n : ℕ) (y : Thread) → get t.threads n ≡ Some y → place_of n t ≡ Some y.place
  place_at n y at = ap (λ (q : Option Thread). option_map (λ (z : Thread). z.place) q) at

  callees : (k : ℕ) → callee_of k t ≡ callee_of k s
  callees k = call_read (λ (q : Option Call). option_map_or (λ (z : Call). z.callee) q no_callee) (λ z. refl) k

  kinds : (k : ℕ) → kind_of k t ≡ kind_of k s
  kinds k = call_read (λ (q : Option Call). option_map_or (λ (z : Call). z.kind) q ExportKind.Callback) (λ z. refl) k

  goals : (k : ℕ) → goal_of k t ≡ goal_of k s
  goals k = call_read (λ (q : Option Call). option_map_or (λ (z : Call). z.goal) q Goal.Nowhere) (λ z. refl) k

  ends : (k : ℕ) → end_of k t ≡ end_of k s
  ends k = call_read (λ (q : Option Call). option_and_then (λ (z : Call). z.«end») q) (λ z. refl) k

  pub unbegun : (k : ℕ) → is_unbegun k t ≡ is_unbegun k s
  unbegun k = call_read (λ (q : Option Call). option_map_or (λ (z : Call). not z.started && is_none z.«end») q false) (λ z. refl) k

  handles : (sub : Subtask) → subtask_handle sub t ≡ subtask_handle sub s
  handles (Subtask.Guest k) = call_read (λ (q : Option Call). option_and_then (λ (z : Call). z.handle) q) (λ z. refl) k
  handles (Subtask.Host i) = work_read (λ (q : Option Work). option_and_then (λ (z : Work). z.handle) q) (λ z. refl) i

  stages : (i : ℕ) → stage_of i t ≡ stage_of i s
  stages i = work_read (λ (q : Option Work). option_map_or (λ (z : Work). z.stage) q Stage.Ended) (λ z. refl) i

  callers : (i : ℕ) → work_caller_of i t ≡ work_caller_of i s
  callers i = work_read (λ (q : Option Work). option_map_or (λ (z : Work). z.caller) q WorkCaller.Spawn) (λ z. refl) i

  subtasks : (i h : ℕ) → subtask_at i h s ≡ subtask_at i h t
  subtasks i h = sym (ap (option_and_then as_subtask) (rest.named i h))

  sets_at : (i h : ℕ) → set_at i h s ≡ set_at i h t
  sets_at i h = sym (ap (option_and_then as_set) (rest.named i h))

  instances : (n : ℕ) → instance_of n t ≡ instance_of n s
  instances n = ap (λ (k : ℕ). call_instance k t) (tasks n) ∙ ap (λ (f : Callee). f.instance) (callees (task_of n s))

  admitted : (n : ℕ) (w : Why) → admits n t w ≡ admits n s w
  admitted n w = by w (ap (λ (k : ℕ). kind_of k t) (tasks n) ∙ kinds (task_of n s)) (ap (λ (i : ℕ). may_not_enter i t) (instances n) ∙ rest.enters (instance_of n s))
      (ap (λ (i : ℕ). backpressure_of i t) (instances n) ∙ rest.presses (instance_of n s))
    where
      by : (v : Why) → kind_of (task_of n t) t ≡ kind_of (task_of n s) s → may_not_enter (instance_of n t) t ≡ may_not_enter (instance_of n s) s →
          backpressure_of (instance_of n t) t ≡ backpressure_of (instance_of n s) s → admits n t v ≡ admits n s v
      by Why.Start kind enters presses = ap₂ (λ (e r : Bool). e || r) (explicit n)
          (ap₂ (λ (k : ExportKind) (r : Bool). is_sync k || r) kind (ap₂ (λ (b : Bool) (p : ℕ). not b && (p == 0)) enters presses))
      by (Why.Delivery d) kind enters presses = ap not enters
      by Why.Resumption kind enters presses = refl

  -- ---- Facts that hang on neither places nor marks

  was_call : (k : ℕ) → WasCall s k → WasCall t k
  was_call k h = record { number = h.number; first = explicit k ∙ h.first }

  numbered : (n : ℕ) (r : Thread) → get t.threads n ≡ Some r → ThreadNumbered t n r
  numbered n r at =
      let w = was n r at in
      let h = o.numbered.threads n w.0 w.1.0 in
      let call : r.call ≡ w.0.call = ap (λ (z : Thread). z.call) w.1.1 in
      let own : r.explicit ≡ w.0.explicit = ap (λ (z : Thread). z.explicit) w.1.1 in
      record {
        number = h.number;
        call = subst (λ (k : ℕ). k ≤ s.made.threads) (sym call) h.call;
        own = λ e. call ∙ h.own (sym own ∙ e);
        nameless = λ e. call_read (λ (q : Option Call). is_none q) (λ z. refl) n ∙ h.nameless (sym own ∙ e);
      }

  calls_there : CallsThere t
  calls_there n k at = call_read (λ (q : Option Call). is_some q) (λ z. refl) k
      ∙ o.calls_there n k (sym (thread_read (λ (q : Option Thread). option_map (λ (z : Thread). z.call) q) (λ z. refl) n) ∙ at)

  entries_of : (i : ℕ) (w : Work) → get t.works i ≡ Some w →
      (stands (is_push_of i) s.queues.high ≡ one_if (is_queued w.stage)) × (stands (is_host_of i) s.queues.high ≡ one_if (is_finishing w.stage))
  entries_of i w at = work_kept
      (λ (y : Work). (stands (is_push_of i) s.queues.high ≡ one_if (is_queued y.stage)) × (stands (is_host_of i) s.queues.high ≡ one_if (is_finishing y.stage))) i w at
      (λ z was. let h = o.works.each i z was in (h.push, h.host))

  no_work : (i : ℕ) → get t.works i ≡ None → get s.works i ≡ None
  no_work i none = go (get s.works i) (sym (work_read (λ (q : Option Work). is_some q) (λ z. refl) i) ∙ ap (λ (q : Option Work). is_some q) none)
    where
      go : (q : Option Work) → is_some q ≡ false → q ≡ None
      go None off = refl
      go (Some w) off = absurd (cc)

  kind_facts : (k : ℕ) (y : Call) → get t.calls k ≡ Some y → (y.kind ≡ export_kind c y.callee) ×
      ((is_direct y.goal ≡ true → is_async_lifted y.kind ≡ false) × (is_async_lifted y.kind ≡ false → is_some y.«end» ≡ true → is_none (get t.threads k) ≡ true))
  kind_facts k y at = call_kept (λ (z : Call). (z.kind ≡ export_kind c z.callee) ×
      ((is_direct z.goal ≡ true → is_async_lifted z.kind ≡ false) × (is_async_lifted z.kind ≡ false → is_some z.«end» ≡ true → is_none (get t.threads k) ≡ true))) k y at
      (λ z was. let h = o.kinds k z was in (h.kind, (h.direct, λ sync over. thread_read (λ (q : Option Thread). is_none q) (λ z. refl) k ∙ h.gone sync over)))

  callee_same : (z r : Thread) → fixed r ≡ fixed z → callee_of r.call t ≡ callee_of z.call s
  callee_same z r same = callees r.call ∙ ap (λ (y : Thread). callee_of y.call s) same

  -- where each thread has the op at its place, it has the same
  pub op_same : (n : ℕ) (z r : Thread) → get s.threads n ≡ Some z → get t.threads n ≡ Some r → fixed r ≡ fixed z → op_of c n t ≡ op_of c n s
  op_same n z r was at same = op_there c t n r at ∙ (ap (λ (f : Callee). op_at_place (script_in c f r.script) r.position) (callee_same z r same)
      ∙ (ap (λ (y : Thread). op_at_place (script_in c (callee_of z.call s) y.script) y.position) same ∙ sym (op_there c s n z was)))

  module _ {now_ops : ℕ → Op} (q : Turn) (fit : PlacesFit q s t) (marks : MarksFit c s t) (ops_fit : OpsFit ops now_ops s t) where
    strands : Strands t
    strands = record {
      below = λ n m at. o.strands.below n m (fit.was_under n m at);
      made = λ n m at. o.strands.made n m (fit.was_under n m at);
      alone = λ n k m at too. o.strands.alone n k m (fit.was_under n m at) (fit.was_under k m too);
    }

    directs : DirectsOnTop t
    directs m on own direct =
        let goal : goal_of (task_of m t) t ≡ goal_of (task_of m s) s = ap (λ (k : ℕ). goal_of k t) (tasks m) ∙ goals (task_of m s) in
        let h = o.directs m (sym (there m) ∙ on) (sym (explicit m) ∙ own) (sym (ap is_direct goal) ∙ direct) in
        (h.0, fit.under h.0 m h.1)

    works : WorksQueued t
    works = record {
      each = λ i w at. let h = entries_of i w at in record { push = (push i).0 ∙ h.0; host = (host i).0 ∙ h.1 };
      low = λ i. let h = o.works.low i in ((push i).1 ∙ h.0, (host i).1 ∙ h.1);
      made = λ i on. o.works.made i (sym (work_read (λ (q : Option Work). is_some q) (λ z. refl) i) ∙ on);
      gone = λ i none. let h = o.works.gone i (no_work i none) in ((push i).0 ∙ h.0, (host i).0 ∙ h.1);
    }
      where
        push : (i : ℕ) → (stands (is_push_of i) t.queues.high ≡ stands (is_push_of i) s.queues.high) × (stands (is_push_of i) t.queues.low ≡ stands (is_push_of i) s.queues.low)
        push i = fit.entries (is_push_of i) (λ n. refl)

        host : (i : ℕ) → (stands (is_host_of i) t.queues.high ≡ stands (is_host_of i) s.queues.high) × (stands (is_host_of i) t.queues.low ≡ stands (is_host_of i) s.queues.low)
        host i = fit.entries (is_host_of i) (λ n. refl)

    waits : WaitsAtHome t
    waits = record {
      by_place = λ n y at. subst (λ (i : ℕ). IsOf i y s) (sym (instances n)) (o.waits.by_place n y (fit.sets n y at));
      by_op = ops_fit.waits;
    }

    -- the thread that had a delivery still has one
    delivers : (n : ℕ) (r z : Thread) → get t.threads n ≡ Some r → get s.threads n ≡ Some z → is_delivered r.place ≡ true → is_delivered z.place ≡ true
    delivers n r z at was on = sym (ap (λ (q : Option Thread). option_map_or is_delivered (option_map (λ (y : Thread). y.place) q) false) was)
        ∙ fit.delivered n (ap (λ (q : Option Place). option_map_or is_delivered q false) (place_at n r at) ∙ on)

    deliveries : DeliveredByCallback t
    deliveries n r at on =
        let w = was n r at in
        ap is_callback (kinds r.call) ∙ (ap (λ (k : ℕ). is_callback (kind_of k s)) (ap (λ (z : Thread). z.call) w.1.1)
        ∙ o.deliveries n w.0 w.1.0 (delivers n r w.0 at w.1.0 on))

    fits : FitsAs now_ops c t
    fits n r at =
        let w = was n r at in
        let z = w.0 in
        let h = o.fits n z w.1.0 in
        let same = w.1.1 in
        let callee = callee_same z r same in
        let op = ops_fit.op n z r w.1.0 at same in
        record {
          script = subst (λ (f : Callee). names_script c f.instance r.explicit r.script ≡ true) (sym callee)
              (subst (λ (y : Thread). names_script c (call_instance z.call s) y.explicit y.script ≡ true) (sym same) h.script);
          position = subst (λ (f : Callee). r.position ≤ length (script_in c f r.script)) (sym callee)
              (subst (λ (y : Thread). y.position ≤ length (script_in c (callee_of z.call s) y.script)) (sym same) h.position);
          op = op.0 h.op;
          under = λ on. op.1 (h.under (top z w.1.0 r.place (place_at n r at) on));
          first = λ on. ap (λ (y : Thread). y.explicit) same ∙ h.first (delivers n r z at w.1.0 on);
        }
      where
        top : (z : Thread) → get s.threads n ≡ Some z → (p : Place) → place_of n t ≡ Some p → has_one_on_top p ≡ true → has_one_on_top z.place ≡ true
        top z was (Place.Under m) is on =
            ap (λ (q : Option Place). option_map_or has_one_on_top q false) (sym (ap (λ (q : Option Thread). option_map (λ (y : Thread). y.place) q) was) ∙ fit.was_under n m is)
        top z was p is on = absurd (cc)

    first : StartsFirst t
    first k r at own waits =
        let w = was k r at in
        let h = o.unbegun k w.0 w.1.0 (sym (ap (λ (z : Thread). z.explicit) w.1.1) ∙ own)
        (sym (ap (λ (q : Option Thread). is_fresh (option_map (λ (z : Thread). z.place) q)) w.1.0) ∙ fit.fresh k (ap is_fresh (place_at k r at) ∙ waits)) in
        record { unended = ends k ∙ h.unended; alone = λ n y now call. let v = was n y now in h.alone n v.0 v.1.0 (sym (ap (λ (z : Thread). z.call) v.1.1) ∙ call) }

    -- at the turn q, with what is so while the turns aren't over
    pub changed_in_order : (m : Main) (b : Bool) → (b ≡ true → Awake q t) → InOrderFor b now_ops c (record x { core = t; main = m; turn = q })
    changed_in_order m b awake = record {
      codes = o.codes;
      in_place = record { placed = fit.in_place.placed; runs = fit.in_place.runs };
      strands = strands;
      directs = directs;
      works = works;
      awaited = ops_fit.awaited;
      numbered = record { threads = numbered; calls = λ k y at. call_kept (λ (z : Call). (1 ≤ k) × (k ≤ s.made.threads)) k y at (λ z was. o.numbered.calls k z was) };
      calls_there = calls_there;
      calls_named = record {
        by_handle = λ i h k at. was_call k (o.calls_named.by_handle i h k (subtasks i h ∙ at));
        by_op = ops_fit.calls_named;
      };
      works_named = record {
        by_handle = λ i h j at. o.works_named.by_handle i h j (subtasks i h ∙ at);
        by_op = ops_fit.works_named;
      };
      names = record {
        there = λ i h k at. handles (Subtask.Guest k) ∙ o.names.there i h k (subtasks i h ∙ at);
        once = λ i j h f k at too. o.names.once i j h f k (subtasks i h ∙ at) (subtasks j f ∙ too);
        called = ops_fit.called;
      };
      calls = ops_fit.calls;
      works_known = record {
        there = λ i h j at. handles (Subtask.Host j) ∙ o.works_known.there i h j (subtasks i h ∙ at);
        once = λ i l h f j at too. o.works_known.once i l h f j (subtasks i h ∙ at) (subtasks l f ∙ too);
        async = λ h j at. ap is_async_work (callers j) ∙ o.works_known.async h j (sym (handles (Subtask.Host j)) ∙ at);
        called = ops_fit.works_called;
      };
      sets_named = record {
        number = λ i h y at. o.sets_named.number i h y (sets_at i h ∙ at);
        home = λ i h y at. o.sets_named.home i h y (sets_at i h ∙ at);
        once = λ i j h f y at too. o.sets_named.once i j h f y (sets_at i h ∙ at) (sets_at j f ∙ too);
      };
      joins_named = record { tables = rest.tables o.joins_named.tables; sets = o.joins_named.sets; joins = marks.joins };
      waits = waits;
      waits_placed = fit.waits_placed;
      kinds = λ k y at. let h = kind_facts k y at in record { kind = h.0; direct = h.1.0; uncancelled = marks.uncancelled k y at; gone = h.1.1 };
      deliveries = deliveries;
      fits = fits;
      starts = λ k y at. call_kept (λ (z : Call). z.started ≡ false → is_fresh (place_of k t) ≡ true) k y at (λ z was. fit.starts k z was);
      unbegun = first;
      watched = ops_fit.watched;
      cancelled = ops_fit.cancelled;
      inside = fit.inside;
      held = λ n w at. admitted n w ∙ o.held n w (fit.held n w at);
      works_told = marks.works_told;
      calls_told = marks.calls_told;
      awake = awake;
    }

  -- where threads have come as far, in the same ops
  module _ {now_ops : ℕ → Op} (q : Turn) (fit : PlacesFit q s t) (marks : MarksFit c s t) (far : (n : ℕ) → op_progress_of n t ≡ op_progress_of n s)
      (same_op : (n : ℕ) (z r : Thread) → get s.threads n ≡ Some z → get t.threads n ≡ Some r → fixed r ≡ fixed z → now_ops n ≡ ops n) where
    ops_stay : OpsFit ops now_ops s t
    ops_stay = record {
      op = λ n z r was at same.
          let op = same_op n z r was at same in
          let come : r.op_progress ≡ z.op_progress = sym (ap far_in at) ∙ (far n ∙ ap far_in was) in
          (λ on. ap₂ (λ (p : Op) (f : OpProgress). can_come p f) op come ∙ on, λ on. ap is_sync_call op ∙ on);
      awaited = λ n i at. let h = o.awaited n i (sym (far n) ∙ at) in
          (h.0, ⊎_elim (λ on. inl (fit.blocked n (Subtask.Host i) on)) (λ over. inr (ap is_stage_ended (stages i) ∙ over)) h.1);
      calls_named = λ n k at. was_call k (o.calls_named.by_op n k (sym (ap subtask_under_way (far n)) ∙ at));
      works_named = λ n j at. o.works_named.by_op n j (sym (ap subtask_under_way (far n)) ∙ at);
      called = λ n k at. marks.called n k (sym (far n) ∙ at);
      calls = record {
        inside = λ n k at. ⊎_elim (λ on. inl (fit.under n k on)) inr (marks.inside n k (sym (far n) ∙ at));
        apart = λ n m k at e. o.calls.apart n m k (sym (far n) ∙ at) (sym (ap cancelled_call (far m)) ∙ e);
      };
      works_called = λ n j at. let h = o.works_known.called n j (sym (far n) ∙ at) in (h.0, callers j ∙ h.1);
      waits = λ n y at. subst (λ (i : ℕ). IsOf i y s) (sym (instances n)) (o.waits.by_op n y (sym (ap set_of_op (far n)) ∙ at));
      watched = λ n sub at. marks.watched n sub (sym (ap cancelled_by (far n)) ∙ at);
      cancelled = λ n sub at. ap (λ (h : Option ℕ). is_some h) (handles sub) ∙ o.cancelled n sub (sym (ap cancelled_by (far n)) ∙ at);
    }
      where
        far_in : Option Thread → OpProgress
        far_in e = option_map_or (λ (y : Thread). y.op_progress) e OpProgress.Fresh

    pub stays_in_order : (m : Main) (b : Bool) → (b ≡ true → Awake q t) → InOrderFor b now_ops c (record x { core = t; main = m; turn = q })
    stays_in_order m b awake = changed_in_order q fit marks ops_stay m b awake

-- ---- Where marks aren't touched

module _ {ops : ℕ → Op} (c : Component) (x : State) (g : Bool) (o : InOrderFor g ops c x) (u : Core) (named : (i h : ℕ) → named_by u.handles i h ≡ named_by x.core.handles i h) where
  abbrev v : Core
  v = record (over u x.core) { calls = x.core.calls; works = x.core.works }

  pub own_marks : MarksFit c x.core v
  own_marks = record {
    called = o.names.called;
    inside = o.calls.inside;
    joins = joins;
    uncancelled = λ k y at. (o.kinds k y at).uncancelled;
    watched = watched;
    works_told = o.works_told;
    calls_told = o.calls_told;
  }
    where
      named_still : (sub : Subtask) (y : ℕ) → JoinNamed sub y x.core → JoinNamed sub y v
      named_still sub y h = record { instance = h.instance; handle = h.handle; home = h.home; named = ap (option_and_then as_subtask) (named h.instance h.handle) ∙ h.named }

      joins : (sub : Subtask) (y : ℕ) → join_of sub v ≡ Join.Set y → JoinNamed sub y v
      joins (Subtask.Guest k) y at = named_still (Subtask.Guest k) y (o.joins_named.joins (Subtask.Guest k) y at)
      joins (Subtask.Host i) y at = named_still (Subtask.Host i) y (o.joins_named.joins (Subtask.Host i) y at)

      watched : (n : ℕ) (sub : Subtask) → cancelled_by (op_progress_of n x.core) ≡ Some sub → watches n sub v ≡ true
      watched n (Subtask.Guest k) far = o.watched n (Subtask.Guest k) far
      watched n (Subtask.Host i) far = o.watched n (Subtask.Host i) far

-- only places, entries and callers change
pub places_in_order : (c : Component) (x : State) (g : Bool) (o : InOrderIf g c x) (u : Core) → ((n : ℕ) → option_map unplaced (get u.threads n) ≡ option_map unplaced (get x.core.threads n)) →
    (q : Turn) → PlacesFit q x.core (placed_as u x.core) → (m : Main) (b : Bool) → (b ≡ true → Awake q (placed_as u x.core)) → InOrderIf b c (record x { core = placed_as u x.core; main = m; turn = q })
places_in_order c x g o u threads q fit =
    let rest : RestStays x.core (placed_as u x.core) = record {
      threads = λ n. read_same unplaced (get u.threads n) (get x.core.threads n) (threads n) (option_map fixed) (λ z. refl);
      calls = λ k. refl;
      works = λ i. refl;
      named = λ i h. refl;
      tables = λ h. h;
      enters = λ i. refl;
      presses = λ i. refl;
    } in
    stays_in_order c x g o (placed_as u x.core) rest q fit (own_marks c x g o (placed_as u x.core) (λ i h. refl))
    (λ n. read_same unplaced (get u.threads n) (get x.core.threads n) (threads n) (λ (q : Option Thread). option_map_or (λ (z : Thread). z.op_progress) q OpProgress.Fresh) (λ z. refl))
    (op_same c x g o (placed_as u x.core) rest)

-- ---- Where places aren't touched

-- u with the threads, callers, entries and sets of s, in which as many were made
abbrev pub unmoved : Core → Core → Core
unmoved u s = record (over u s) { threads = s.threads; callers = s.callers; queues = s.queues }

-- where threads are at the same places
pub same_places : {g : Bool} {ops : ℕ → Op} {c : Component} {x : State} (o : InOrderFor g ops c x) (now : Records Thread) (u : Core) →
    ((n : ℕ) → place_of n (record (unmoved u x.core) { threads = now }) ≡ place_of n x.core) → WaitsPlaced (record (unmoved u x.core) { threads = now }) →
    InsideOps (record (unmoved u x.core) { threads = now }) → (q : Turn) → ((n : ℕ) → q ≡ Turn.Run n → place_of n x.core ≡ Some Place.Running) →
    PlacesFit q x.core (record (unmoved u x.core) { threads = now })
same_places {x = x} o now u place waits inside q runs = record {
  in_place = record {
    placed = λ n. let h = o.in_place.placed n in record {
      number = λ on. h.number (ap (λ (p : Option Place). is_some p) (sym (place n)) ∙ on);
      behind = λ f on. h.behind f (ap (says (is_behind_of f)) (sym (place n)) ∙ on);
      switch = h.switch ∙ ap (says is_at_switch) (sym (place n));
      high = h.high ∙ ap (says is_at_high) (sym (place n));
      low = h.low ∙ ap (says is_at_low) (sym (place n));
      callers = λ f. h.callers f ∙ ap₂ (λ (b : Bool) (k : ℕ). if b then k else 0) (ap (λ (p : Option Place). is_some p) (sym (place f))) (ap (says (is_behind_of f)) (sym (place n)));
    };
    runs = λ n e. place n ∙ runs n e;
  };
  entries = λ test none. (refl, refl);
  under = λ n m at. place n ∙ at;
  was_under = λ n m at. sym (place n) ∙ at;
  blocked = λ n sub at. place n ∙ at;
  held = λ n w at. sym (place n) ∙ at;
  sets = λ n y at. ap (option_and_then set_of_place) (sym (place n)) ∙ at;
  delivered = λ n on. ap (λ (p : Option Place). option_map_or is_delivered p false) (sym (place n)) ∙ on;
  fresh = λ n on. ap is_fresh (sym (place n)) ∙ on;
  starts = λ k y at e. ap is_fresh (place k) ∙ o.starts k y at e;
  waits_placed = waits;
  inside = inside;
}

module _ (c : Component) (x : State) (g : Bool) (o : InOrderIf g c x) (u : Core) (rest : RestStays x.core (unmoved u x.core)) where
  abbrev now : Core
  now = unmoved u x.core

  -- with what order says of marks, at any turn
  pub unmoved_in_order : MarksFit c x.core now → (m : Main) (q : Turn) → ((n : ℕ) → q ≡ Turn.Run n → place_of n x.core ≡ Some Place.Running) → (b : Bool) →
      (b ≡ true → Awake q now) → InOrderIf b c (record x { core = now; main = m; turn = q })
  unmoved_in_order marks m q runs b awake =
      stays_in_order c x g o now rest q (same_places o x.core.threads u (λ n. refl) o.waits_placed o.inside q runs) marks (λ n. refl) (op_same c x g o now rest) m b awake

  -- what is so while the turns aren't over, where wakes are counted and nobody is blocked on an end
  pub unmoved_awake : (p : Turn) → NoneBlockedOnEnd now → WakesCounted now → Awake p x.core → Awake p now
  unmoved_awake p blocked counted a = record {
    alone = a.alone;
    starts_there = λ k on. a.starts_there k (sym (unbegun c x g o now rest k) ∙ on);
    blocked = blocked;
    callers = callers_stay (record { kept = λ n on. refl; back = λ n r beneath at. at; none = λ n none low. none }) a.callers;
    feet = a.feet;
    free = record { under = a.free.under; behind = a.free.behind };
    counted = counted;
  }

-- Calls and works change by their marks alone.
module _ (c : Component) (x : State) (g : Bool) (o : InOrderIf g c x) (calls_now : Records Call) (works_now : Records Work)
    (calls_same : (k : ℕ) → option_map unmarked_call (get calls_now k) ≡ option_map unmarked_call (get x.core.calls k))
    (works_same : (i : ℕ) → option_map unmarked_work (get works_now i) ≡ option_map unmarked_work (get x.core.works i)) where
  abbrev marked : Core
  marked = record x.core { calls = calls_now; works = works_now }

  rest_stays : RestStays x.core marked
  rest_stays = record { threads = λ n. refl; calls = calls_same; works = works_same; named = λ i h. refl; tables = λ h. h; enters = λ i. refl; presses = λ i. refl }

  pub marks_in_order : MarksFit c x.core marked → (m : Main) (q : Turn) → ((n : ℕ) → q ≡ Turn.Run n → place_of n x.core ≡ Some Place.Running) → (b : Bool) →
      (b ≡ true → Awake q marked) → InOrderIf b c (record x { core = marked; main = m; turn = q })
  marks_in_order = unmoved_in_order c x g o marked rest_stays

  pub marks_awake : (p : Turn) → NoneBlockedOnEnd marked → WakesCounted marked → Awake p x.core → Awake p marked
  marks_awake = unmoved_awake c x g o marked rest_stays

-- ---- Where neither is

-- s with the instances, handles, results, groups and limits of u, and trapped as u is
abbrev pub beside : Core → Core → Core
beside u s = record (unmoved u s) { calls = s.calls; works = s.works }

pub beside_awake : (u s : Core) (p : Turn) → Awake p s → Awake p (beside u s)
beside_awake u s p a = record {
  alone = a.alone;
  starts_there = a.starts_there;
  blocked = blocked_stay (λ n sub at. at) untold (λ sub live. ended_as sub s (beside u s) refl ∙ live) a.blocked;
  callers = callers_stay (record { kept = λ n on. refl; back = λ n r beneath at. at; none = λ n none low. none }) a.callers;
  feet = a.feet;
  free = record { under = a.free.under; behind = a.free.behind };
  counted = counted_as s (beside u s) refl refl refl a.counted;
}
  where
    untold : (sub : Subtask) → undelivered_end (event_of sub s) ≡ None → undelivered_end (event_of sub (beside u s)) ≡ None
    untold (Subtask.Guest k) none = none
    untold (Subtask.Host i) none = none

-- order reads of these only what handles name, and whether and how entries are kept out of instances
pub beside_in_order : (c : Component) (x : State) (g : Bool) → InOrderIf g c x → (u : Core) → RestStays x.core (beside u x.core) → InOrderIf g c (record x { core = beside u x.core })
beside_in_order c x g o u rest =
    let t = beside u x.core in
    unmoved_in_order c x g o t rest (own_marks c x g o t rest.named) x.main x.turn o.in_place.runs g (λ e. beside_awake u x.core x.turn (o.awake e))

-- What is so while the turns aren't over, of a change after which nobody runs that didn't, and no thread's place is another.
pub awake_stays : {s t : Core} (p : Turn) → SamePlaces s t → Strands s → ((n : ℕ) → place_of n t ≡ Some Place.Running → place_of n s ≡ Some Place.Running) →
    (StartsThere s → StartsThere t) → (NoneBlockedOnEnd s → NoneBlockedOnEnd t) → (WakesCounted s → WakesCounted t) → Awake p s → Awake p t
awake_stays p same strands alone there blocked counted a = record {
  alone = λ n at. a.alone n (alone n at);
  starts_there = there a.starts_there;
  blocked = blocked a.blocked;
  callers = callers_stay same a.callers;
  feet = feet_stay same a.feet;
  free = free_stays same strands.made a.free;
  counted = counted a.counted;
}

-- ---- Where no thread runs

-- no thread runs in the turn
abbrev pub IsIdle : Turn → Type 0
IsIdle p = (n : ℕ) → p ≡ Turn.Run n → ⊥

-- of two turns in which no thread runs, and that aren't over
pub idle_turned : (c : Component) (s : Core) (m : Main) (p q : Turn) → is_open p ≡ true → IsIdle p → is_open q ≡ true → IsIdle q → InOrder c (state_in m p s) →
    InOrder c (state_in m q s)
idle_turned c s m p q before quiet going idle o =
    let h = o.awake before in
    turned (state_in m p s) o m q (λ n e. absurd (idle n e)) (is_open q) (λ e. record {
      alone = λ n at. absurd (quiet n (h.alone n at));
      starts_there = h.starts_there;
      blocked = h.blocked;
      callers = h.callers;
      feet = h.feet;
      free = record { under = h.free.under; behind = λ n f at fresh. ((h.free.behind n f at fresh).0, λ k is. idle k is) };
      counted = h.counted;
    })
