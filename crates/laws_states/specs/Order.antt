-- A state in order: what is so of every opening state and kept by every step, whatever the state was reached by.
use Rattle.machine_data.specs.declared.scenario.Version.{Version}
use Rattle.machine_data.specs.declared.records.Stage.TheVariants as stage
use Rattle.machine_data.specs.declared.records.Entry.TheVariants as entry
use Rattle.machine_data.specs.declared.records.Work.{Work}
use Rattle.machine_data.specs.declared.records.WorkCaller.TheVariants as work_caller
use Rattle.machine_data.specs.declared.records.Stage.{Stage}
use Rattle.machine_data.specs.declared.records.Entry.{Entry}
use Rattle.machine_data.specs.declared.records.Subtask.{Subtask}
use Rattle.machine_data.specs.declared.records.Named.{Named}
use Rattle.machine_rules.specs.Allowed.{is_async_work, subtask_under_way, watches}
use Rattle.machine_rules.specs.Takes.{host_status}
use Rattle.machine_rules.specs.Works.{has_end}
use Rattle.machine_data.specs.declared.records.WorkCaller.TheVariants as work_caller
use Rattle.std.specs.Prelude.{Bool, None, Option, Some, false, is_none, is_some, option_and_then, option_map, true, ℕ, ◌+◌, ◌≡◌, ◌≤◌, length, List, [], ◌∷◌, ◌==◌, ◌⊎◌, ◌&&◌, ◌||◌, not}
use Rattle.laws_states.specs.Settings.{CodesInCallbacks}
use Rattle.laws_states.specs.WakeLaw.{BehindFeet, CallersGoOn, NoneAdmitted, NoneBlockedOnEnd, WakesCounted}
use Rattle.machine_data.specs.declared.statuses.Mark.TheVariants as mark
use Rattle.machine_data.specs.Core.{Core, Main, State, NameTable}
use Rattle.machine_data.specs.Maps.{get, size}
use Rattle.machine_data.specs.Read.{call_instance, op_progress_of, instance_of, is_async_lifted, is_callback, is_direct, is_explicit, goal_of, kind_of, place_of, task_of, set_at, subtask_at, end_of, is_guest_call, subtask_handle, join_of, is_stage_ended, stage_of, work_caller_of, event_of, has_ended, undelivered_end, course_value}
use Rattle.machine_data.specs.declared.component.Component.{Component}
use Rattle.machine_data.specs.declared.label.Label.{Label}
use Rattle.machine_data.specs.declared.records.Call.{Call}
use Rattle.machine_data.specs.declared.records.CallEnd.{CallEnd}
use Rattle.machine_data.specs.declared.records.CallEnd.TheVariants as call_end
use Rattle.machine_data.specs.declared.records.Caller.TheVariants as caller
use Rattle.machine_data.specs.declared.statuses.TaskEvent.{TaskEvent}
use Rattle.machine_data.specs.declared.statuses.TaskEvent.TheVariants as own
use Rattle.machine_data.specs.declared.statuses.Status.{Status}
use Rattle.machine_data.specs.declared.statuses.Status.TheVariants as status
use Rattle.std.specs.Option.{option_map_or}
use Rattle.machine_data.specs.declared.records.Delivery.TheVariants as delivery
use Rattle.machine_data.specs.declared.records.OpProgress.{OpProgress}
use Rattle.machine_data.specs.declared.records.OpProgress.TheVariants as op_progress
use Rattle.machine_data.specs.declared.records.Join.TheVariants as join
use Rattle.machine_data.specs.declared.records.Place.{Place}
use Rattle.machine_data.specs.declared.records.Place.TheVariants as place
use Rattle.machine_data.specs.declared.records.Set.{Set}
use Rattle.machine_data.specs.declared.records.Subtask.TheVariants as subtask
use Rattle.machine_data.specs.declared.records.Thread.{Thread}
use Rattle.machine_data.specs.declared.records.Turn.{Turn}
use Rattle.machine_data.specs.declared.records.Turn.TheVariants as turn
use Rattle.machine_data.specs.declared.records.Why.{Why}
use Rattle.machine_data.specs.declared.records.Why.TheVariants as why
use Rattle.machine_rules.specs.Places.{Placed, is_fresh, is_at_wait, times, one_if, is_inside}
use Rattle.machine_rules.specs.Run.{opening}
use Rattle.machine_rules.specs.Scripts.{export_kind, is_script, ops_of, script_of_thread, slot_at}
use Rattle.machine_data.specs.declared.op.Op.{Op}
use Rattle.machine_rules.specs.OpParts.{can_come, is_sync_call}
use Rattle.machine_data.specs.declared.records.Script.{Script}
use Rattle.machine_data.specs.declared.records.Script.TheVariants as script
use Rattle.machine_rules.specs.Stalled.{Setting}
use Rattle.machine_rules.specs.Step.{Step}

-- ---- Places

-- Each thread has its place, and a thread whose turn it is runs.
pub record InPlace (s : State) : Type 0 where
  pub placed : Placed s.core
  pub runs : (n : ℕ) → s.turn ≡ turn.Run n → place_of n s.core ≡ Some place.Running

-- A thread that is under another has a smaller number than that one, whose number was given; and it is under it alone.
pub record Strands (s : Core) : Type 0 where
  pub below : (n m : ℕ) → place_of n s ≡ Some (place.Under m) → n + 1 ≤ m
  pub made : (n m : ℕ) → place_of n s ≡ Some (place.Under m) → m ≤ s.made.threads
  pub alone : (n k m : ℕ) → place_of n s ≡ Some (place.Under m) → place_of k s ≡ Some (place.Under m) → n ≡ k

-- ---- Numbers

-- A thread's number and that of its call were given. A first thread has its call's number; the number of another thread names no call.
pub record ThreadNumbered (s : Core) (n : ℕ) (t : Thread) : Type 0 where
  pub number : n ≤ s.made.threads
  pub call : t.call ≤ s.made.threads
  pub own : t.explicit ≡ false → t.call ≡ n
  pub nameless : t.explicit ≡ true → is_none (get s.calls n) ≡ true

pub record Numbered (s : Core) : Type 0 where
  pub threads : (n : ℕ) (t : Thread) → get s.threads n ≡ Some t → ThreadNumbered s n t
  pub calls : (k : ℕ) (c : Call) → get s.calls k ≡ Some c → (1 ≤ k) × (k ≤ s.made.threads)

-- the call of each thread is there
abbrev pub CallsThere : Core → Type 0
CallsThere s = (n k : ℕ) → option_map (λ (t : Thread). t.call) (get s.threads n) ≡ Some k → is_some (get s.calls k) ≡ true

-- the number was given, and not to a thread that a task made beside its first one
pub record WasCall (s : Core) (k : ℕ) : Type 0 where
  pub number : k ≤ s.made.threads
  pub first : is_explicit k s ≡ false

-- Each call that a handle names, or that an op under way is about, was made as a call.
pub record CallsNamed (s : Core) : Type 0 where
  pub by_handle : (i h k : ℕ) → subtask_at i h s ≡ Some (subtask.Guest k) → WasCall s k
  pub by_op : (n k : ℕ) → subtask_under_way (op_progress_of n s) ≡ Some (subtask.Guest k) → WasCall s k

abbrev pub is_cancelled : Option TaskEvent → Bool
is_cancelled (Some own.Cancelled) = true
is_cancelled _ = false

-- it has at most returned
abbrev pub at_most_returned : Option CallEnd → Bool
at_most_returned None = true
at_most_returned (Some call_end.Returned) = true
at_most_returned _ = false

-- no cancel has come to the call
abbrev pub is_uncancelled : Call → Bool
is_uncancelled c = not (is_cancelled c.task_event) && (not c.cancel_delivered && at_most_returned c.«end»)

-- if the call is there, the thread has made it, no handle names it, and no cancel has come to it
abbrev pub OnlyCalled : ℕ → ℕ → Core → Type 0
OnlyCalled n k s = (c : Call) → get s.calls k ≡ Some c → (c.caller ≡ caller.Thread n) × ((c.handle ≡ None) × (is_uncancelled c ≡ true))

-- The record of a call says which handle names it, in one instance; and an op is inside a call that its thread alone has to do with.
pub record NamesKnown (s : Core) : Type 0 where
  pub there : (i h k : ℕ) → subtask_at i h s ≡ Some (subtask.Guest k) → subtask_handle (subtask.Guest k) s ≡ Some h
  pub once : (i j h g k : ℕ) → subtask_at i h s ≡ Some (subtask.Guest k) → subtask_at j g s ≡ Some (subtask.Guest k) → i ≡ j
  pub called : (n k : ℕ) → op_progress_of n s ≡ op_progress.Calls (subtask.Guest k) → OnlyCalled n k s

abbrev pub is_returned : Option Status → Bool
is_returned (Some status.Returned) = true
is_returned _ = false

-- its caller is told of it, and it hasn't ended, or that it returned is still to be told
abbrev pub is_awaited : Call → Bool
is_awaited c = (is_guest_call c.caller && not (is_direct c.goal)) && (is_none c.«end» || is_returned c.event)

-- the call that an op under way cancels
abbrev pub cancelled_call : OpProgress → Option ℕ
cancelled_call (op_progress.Cancels (subtask.Guest k)) = Some k
cancelled_call (op_progress.AwaitsEnd (subtask.Guest k)) = Some k
cancelled_call _ = None

-- A thread inside a call of an export is under the call's thread, or the call is there and awaited. Meanwhile no op cancels it.
pub record CallsAwaited (s : Core) : Type 0 where
  pub inside : (n k : ℕ) → op_progress_of n s ≡ op_progress.Calls (subtask.Guest k) →
      (place_of n s ≡ Some (place.Under k)) ⊎ (option_map_or is_awaited (get s.calls k) false ≡ true)
  pub apart : (n m k : ℕ) → op_progress_of n s ≡ op_progress.Calls (subtask.Guest k) → cancelled_call (op_progress_of m s) ≡ Some k → ⊥

-- The record of a host's work says which handle names it, in one instance, and that is the work of an async call. A thread inside a sync
-- call of a host is inside the work of that call, which was made.
pub record WorksKnown (s : Core) : Type 0 where
  pub there : (i h j : ℕ) → subtask_at i h s ≡ Some (subtask.Host j) → subtask_handle (subtask.Host j) s ≡ Some h
  pub once : (i l h g j : ℕ) → subtask_at i h s ≡ Some (subtask.Host j) → subtask_at l g s ≡ Some (subtask.Host j) → i ≡ l
  pub async : (h j : ℕ) → subtask_handle (subtask.Host j) s ≡ Some h → is_async_work (work_caller_of j s) ≡ true
  pub called : (n j : ℕ) → op_progress_of n s ≡ op_progress.Calls (subtask.Host j) →
      (j ≤ s.made.works) × (work_caller_of j s ≡ work_caller.Sync n)

-- Each work that a handle names, or that an op under way is about, was made.
pub record WorksNamed (s : Core) : Type 0 where
  pub by_handle : (i h j : ℕ) → subtask_at i h s ≡ Some (subtask.Host j) → j ≤ s.made.works
  pub by_op : (n j : ℕ) → subtask_under_way (op_progress_of n s) ≡ Some (subtask.Host j) → j ≤ s.made.works

-- the subtask that an op under way cancels
abbrev pub cancelled_by : OpProgress → Option Subtask
cancelled_by (op_progress.Cancels sub) = Some sub
cancelled_by (op_progress.AwaitsEnd sub) = Some sub
cancelled_by _ = None

-- a subtask that an op cancels is there, and a handle names it
abbrev pub CancelsNamed : Core → Type 0
CancelsNamed s = (n : ℕ) (sub : Subtask) → cancelled_by (op_progress_of n s) ≡ Some sub → is_some (subtask_handle sub s) ≡ true

-- a subtask that an op cancels is in the thread's own set, or gone
abbrev pub CancelsWatched : Core → Type 0
CancelsWatched s = (n : ℕ) (sub : Subtask) → cancelled_by (op_progress_of n s) ≡ Some sub → watches n sub s ≡ true

-- A handle of a set names a set of its own instance, which was made, and no other handle names it.
pub record SetsNamed (s : Core) : Type 0 where
  pub number : (i h x : ℕ) → set_at i h s ≡ Some x → x ≤ s.made.sets
  pub home : (i h x : ℕ) → set_at i h s ≡ Some x → option_map (λ (r : Set). r.instance) (get s.sets x) ≡ Some i
  pub once : (i j h g x : ℕ) → set_at i h s ≡ Some x → set_at j g s ≡ Some x → (i ≡ j) × (h ≡ g)

-- ---- Handles and joins

-- Handles from 1 up to some number were made: each is live, or was freed and isn't given again.
pub record TableKept {X : Type 0} (t : NameTable X) : Type 0 where
  pub live : (h : ℕ) → is_some (get t.live h) ≡ true → h ≤ size t.live + length t.freed
  pub freed : (h : ℕ) → 1 ≤ times h t.freed → (h ≤ size t.live + length t.freed) × (get t.live h ≡ None)
  pub once : (h : ℕ) → times h t.freed ≤ 1

-- The set is there, and a handle of its instance names the subtask.
pub record JoinNamed (sub : Subtask) (x : ℕ) (s : Core) : Type 0 where
  pub instance : ℕ
  pub handle : ℕ
  pub home : option_map (λ (r : Set). r.instance) (get s.sets x) ≡ Some instance
  pub named : subtask_at instance handle s ≡ Some sub

-- Each instance's table of handles is kept, each set's number was given, and a subtask that is joined to a set is named in the set's
-- instance.
pub record JoinsNamed (s : Core) : Type 0 where
  pub tables : (i : ℕ) (t : NameTable Named) → get s.handles i ≡ Some t → TableKept t
  pub sets : (x : ℕ) → is_some (get s.sets x) ≡ true → x ≤ s.made.sets
  pub joins : (sub : Subtask) (x : ℕ) → join_of sub s ≡ join.Set x → JoinNamed sub x s

-- ---- Waiting on sets

abbrev pub set_of_why : Why → Option ℕ
set_of_why (why.Delivery (delivery.Set x)) = Some x
set_of_why _ = None

-- the set on which the thread waits, or of a delivery or is held
abbrev pub set_of_place : Place → Option ℕ
set_of_place (place.Waiting x by_callback) = Some x
set_of_place (place.Ready m w) = set_of_why w
set_of_place (place.Held w) = set_of_why w
set_of_place _ = None

-- the set inside a wait on which the thread is
abbrev pub set_of_op : OpProgress → Option ℕ
set_of_op (op_progress.Waits x) = Some x
set_of_op _ = None

-- the set is there, and of the instance
abbrev pub IsOf : ℕ → ℕ → Core → Type 0
IsOf i x s = option_map (λ (r : Set). r.instance) (get s.sets x) ≡ Some i

-- A set on which a thread waits, for which it has a delivery, or inside a wait on which it is, is there and of the thread's instance.
pub record WaitsAtHome (s : Core) : Type 0 where
  pub by_place : (n x : ℕ) → option_and_then set_of_place (place_of n s) ≡ Some x → IsOf (instance_of n s) x s
  pub by_op : (n x : ℕ) → set_of_op (op_progress_of n s) ≡ Some x → IsOf (instance_of n s) x s

-- a thread that is inside a wait on a set waits on it, is to resume, or runs
abbrev pub WaitsPlaced : Core → Type 0
WaitsPlaced s = (n x : ℕ) → op_progress_of n s ≡ op_progress.Waits x → option_map_or (is_at_wait x) (place_of n s) false ≡ true

-- a thread that waits, but not by callback, or is blocked is inside the op that says so
abbrev pub InsideOps : Core → Type 0
InsideOps s = (n : ℕ) (p : Place) → place_of n s ≡ Some p → is_inside p (op_progress_of n s) ≡ true

-- ---- Calls

-- A call has the kind of its export. A direct one is of a sync or a blocking export. Where it is of such an export no cancel request is
-- delivered to it, and once it has ended its first thread is gone.
pub record CallKind (c : Component) (s : Core) (k : ℕ) (x : Call) : Type 0 where
  pub kind : x.kind ≡ export_kind c x.callee
  pub direct : is_direct x.goal ≡ true → is_async_lifted x.kind ≡ false
  pub uncancelled : is_async_lifted x.kind ≡ false → x.cancel_delivered ≡ false
  pub gone : is_async_lifted x.kind ≡ false → is_some x.«end» ≡ true → is_none (get s.threads k) ≡ true

abbrev pub CallKinds : Component → Core → Type 0
CallKinds c s = (k : ℕ) (x : Call) → get s.calls k ≡ Some x → CallKind c s k x

abbrev pub is_delivery : Why → Bool
is_delivery (why.Delivery d) = true
is_delivery _ = false

-- the thread waits by callback, or a delivery for it is at a mark or is held
abbrev pub is_delivered : Place → Bool
is_delivered (place.Ready m w) = is_delivery w
is_delivered (place.Held w) = is_delivery w
is_delivered (place.Waiting x by_callback) = by_callback
is_delivered _ = false

-- deliveries are for threads of callback exports
abbrev pub DeliveredByCallback : Core → Type 0
DeliveredByCallback s = (n : ℕ) (t : Thread) → get s.threads n ≡ Some t → is_delivered t.place ≡ true →
    is_callback (kind_of t.call s) ≡ true

-- ---- Scripts

-- a first thread runs a script of its call's export, another one that of a slot of the instance
abbrev pub names_script : Component → ℕ → Bool → Script → Bool
names_script c i true (script.Slot x) = is_script (slot_at c i x)
names_script c i false script.Start = true
names_script c i false script.React = true
names_script c i explicit x = false

abbrev pub has_one_on_top : Place → Bool
has_one_on_top (place.Under m) = true
has_one_on_top _ = false

-- The thread fits the component: it runs a script that it may run, and is at a place in it, or at its end. It is no further in the op there
-- than that op can come, and where another thread is on top of it the op is a sync call. Deliveries are for first threads.
pub record ThreadFits (c : Component) (s : Core) (o : Op) (t : Thread) : Type 0 where
  pub script : names_script c (call_instance t.call s) t.explicit t.script ≡ true
  pub position : t.position ≤ length (script_of_thread c s t)
  pub op : can_come o t.op_progress ≡ true
  pub under : has_one_on_top t.place ≡ true → is_sync_call o ≡ true
  pub first : is_delivered t.place ≡ true → t.explicit ≡ false

-- each thread fits the component, and has come as far in this op as it can
abbrev pub FitsAs : (ℕ → Op) → Component → Core → Type 0
FitsAs ops c s = (n : ℕ) (t : Thread) → get s.threads n ≡ Some t → ThreadFits c s (ops n) t

abbrev pub Fits : Component → Core → Type 0
Fits c s = FitsAs (ops_of c s) c s

-- ---- Starts and direct calls

-- the first thread of a call whose start hasn't run waits for it, or is gone
abbrev pub StartsAwaited : Core → Type 0
StartsAwaited s = (k : ℕ) (c : Call) → get s.calls k ≡ Some c → c.started ≡ false → is_fresh (place_of k s) ≡ true

-- the call's start hasn't run, and it hasn't ended
abbrev pub is_unbegun : ℕ → Core → Bool
is_unbegun k s = option_map_or (λ (c : Call). not c.started && is_none c.«end») (get s.calls k) false

-- the first thread of a call whose start hasn't run, and that hasn't ended, is there
abbrev pub StartsThere : Core → Type 0
StartsThere s = (k : ℕ) → is_unbegun k s ≡ true → is_some (place_of k s) ≡ true

-- the call hasn't ended, and has no other thread than the first one
pub record HasNotRun (s : Core) (k : ℕ) : Type 0 where
  pub unended : end_of k s ≡ None
  pub alone : (n : ℕ) (t : Thread) → get s.threads n ≡ Some t → t.call ≡ k → n ≡ k

-- where the first thread of a call waits for its start, the call has none of what comes after it
abbrev pub StartsFirst : Core → Type 0
StartsFirst s = (k : ℕ) (t : Thread) → get s.threads k ≡ Some t → t.explicit ≡ false → is_fresh (Some t.place) ≡ true → HasNotRun s k

-- under the first thread of a direct call there is another one
abbrev pub DirectsOnTop : Core → Type 0
DirectsOnTop s = (m : ℕ) → is_some (place_of m s) ≡ true → is_explicit m s ≡ false → is_direct (goal_of (task_of m s) s) ≡ true →
    (n : ℕ) × (place_of n s ≡ Some (place.Under m))

-- ---- Host works

-- how many such entries are in the list
abbrev pub stands : (Entry → Bool) → List Entry → ℕ
stands test [] = 0
stands test (e ∷ es) = one_if (test e) + stands test es

abbrev pub is_push_of : ℕ → Entry → Bool
is_push_of i (entry.Push j) = i == j
is_push_of i _ = false

abbrev pub is_host_of : ℕ → Entry → Bool
is_host_of i (entry.Host j) = i == j
is_host_of i _ = false

abbrev pub is_queued : Stage → Bool
is_queued stage.Queued = true
is_queued _ = false

abbrev pub is_finishing : Stage → Bool
is_finishing stage.Finishing = true
is_finishing _ = false

-- a work that is queued has its one push entry, one that is finishing its one host entry, and no other has such an entry
pub record WorkEntries (s : Core) (i : ℕ) (w : Work) : Type 0 where
  pub push : stands (is_push_of i) s.queues.high ≡ one_if (is_queued w.stage)
  pub host : stands (is_host_of i) s.queues.high ≡ one_if (is_finishing w.stage)

-- Each work that is there has its entries, and one that is gone has none. None is at low.
pub record WorksQueued (s : Core) : Type 0 where
  pub each : (i : ℕ) (w : Work) → get s.works i ≡ Some w → WorkEntries s i w
  pub low : (i : ℕ) → (stands (is_push_of i) s.queues.low ≡ 0) × (stands (is_host_of i) s.queues.low ≡ 0)
  pub made : (i : ℕ) → is_some (get s.works i) ≡ true → i ≤ s.made.works
  pub gone : (i : ℕ) → get s.works i ≡ None → (stands (is_push_of i) s.queues.high ≡ 0) × (stands (is_host_of i) s.queues.high ≡ 0)

-- a thread inside a sync call of a host is blocked on its work, which was made, or that has ended
abbrev pub HostsAwaited : Core → Type 0
HostsAwaited s = (n i : ℕ) → op_progress_of n s ≡ op_progress.Calls (subtask.Host i) →
    (i ≤ s.made.works) × ((place_of n s ≡ Some (place.Blocked (subtask.Host i))) ⊎ (is_stage_ended (stage_of i s) ≡ true))

-- a work that is finishing or has ended
abbrev pub is_late : Stage → Bool
is_late stage.Finishing = true
is_late stage.Ended = true
is_late _ = false

-- A work has come to its end just where its stage says so. Its event is an end only where it is of an async call and has ended, and it is
-- finishing only where it is of an async call.
pub record WorkTold (w : Work) : Type 0 where
  pub late : has_end w.course ≡ is_late w.stage
  pub told : (e : Status) → undelivered_end w.event ≡ Some e → (is_stage_ended w.stage ≡ true) ×
      ((is_async_work w.caller ≡ true) × (e ≡ host_status (course_value w.course)))
  pub finishing : is_finishing w.stage ≡ true → is_async_work w.caller ≡ true

abbrev pub WorksTold : Core → Type 0
WorksTold s = (i : ℕ) (w : Work) → get s.works i ≡ Some w → WorkTold w

-- a call whose event is an end has ended
abbrev pub CallsTold : Core → Type 0
CallsTold s = (k : ℕ) (e : Status) → undelivered_end (event_of (subtask.Guest k) s) ≡ Some e → has_ended k s ≡ true

-- ---- Counts

-- From s to t at most one thread is made, one work, one set and one group, and at most two of them in all.
pub record MakesFew (s t : Core) : Type 0 where
  pub threads : t.made.threads ≤ s.made.threads + 1
  pub works : t.made.works ≤ s.made.works + 1
  pub sets : t.made.sets ≤ s.made.sets + 1
  pub groups : t.made.groups ≤ s.made.groups + 1
  pub all : t.made.threads + t.made.works + t.made.sets + t.made.groups ≤ s.made.threads + s.made.works + s.made.sets + s.made.groups + 2

abbrev pub StepsMakeFew : Type 0
StepsMakeFew = (x : Setting) (s : State) (l : Label) (t : State) → Step x s l t → MakesFew s.core t.core

-- ---- While the turns aren't over

abbrev pub is_open : Turn → Bool
is_open turn.Over = false
is_open _ = true

-- no thread runs but the one whose turn it is
abbrev pub RunsAlone : Turn → Core → Type 0
RunsAlone p s = (n : ℕ) → place_of n s ≡ Some place.Running → p ≡ turn.Run n

-- A thread that waits for its start has no thread under it, and has one behind it only where its entry is at switch and no thread
-- runs.
pub record StartsFree (p : Turn) (s : Core) : Type 0 where
  pub under : (n m : ℕ) → place_of n s ≡ Some (place.Under m) → (place_of m s ≡ None) ⊎ (is_fresh (place_of m s) ≡ false)
  pub behind : (n f : ℕ) → place_of n s ≡ Some (place.Behind f) → is_fresh (place_of f s) ≡ true →
      (place_of f s ≡ Some (place.Ready mark.Switch why.Start)) × ((m : ℕ) → p ≡ turn.Run m → ⊥)

-- What is so of a core while the turns aren't over.
pub record Awake (p : Turn) (s : Core) : Type 0 where
  pub alone : RunsAlone p s
  pub starts_there : StartsThere s
  pub blocked : NoneBlockedOnEnd s
  pub callers : CallersGoOn s
  pub feet : BehindFeet s
  pub free : StartsFree p s
  pub counted : WakesCounted s

-- ---- All of it

-- What every step keeps of a state, of a component whose codes are in callbacks; and what else is so where the turns go on.
pub record InOrderFor (goes_on : Bool) (ops : ℕ → Op) (c : Component) (s : State) : Type 0 where
  pub codes : CodesInCallbacks c
  pub in_place : InPlace s
  pub strands : Strands s.core
  pub directs : DirectsOnTop s.core
  pub works : WorksQueued s.core
  pub awaited : HostsAwaited s.core
  pub numbered : Numbered s.core
  pub calls_there : CallsThere s.core
  pub calls_named : CallsNamed s.core
  pub works_named : WorksNamed s.core
  pub names : NamesKnown s.core
  pub calls : CallsAwaited s.core
  pub works_known : WorksKnown s.core
  pub sets_named : SetsNamed s.core
  pub joins_named : JoinsNamed s.core
  pub waits : WaitsAtHome s.core
  pub waits_placed : WaitsPlaced s.core
  pub kinds : CallKinds c s.core
  pub deliveries : DeliveredByCallback s.core
  pub fits : FitsAs ops c s.core
  pub starts : StartsAwaited s.core
  pub unbegun : StartsFirst s.core
  pub watched : CancelsWatched s.core
  pub cancelled : CancelsNamed s.core
  pub inside : InsideOps s.core
  pub held : NoneAdmitted s.core
  pub works_told : WorksTold s.core
  pub calls_told : CallsTold s.core
  pub awake : goes_on ≡ true → Awake s.turn s.core

-- where each has the op at its place
abbrev pub InOrderIf : Bool → Component → State → Type 0
InOrderIf g c s = InOrderFor g (ops_of c s.core) c s

-- where each thread has this op
abbrev pub InOrderAs : (ℕ → Op) → Component → State → Type 0
InOrderAs ops c s = InOrderFor (is_open s.turn) ops c s

-- where each has the op at its place
abbrev pub InOrder : Component → State → Type 0
InOrder c s = InOrderAs (ops_of c s.core) c s

-- each opening state is in order
unfoldable pub OpeningInOrder : Type 0
OpeningInOrder = (c : Component) → CodesInCallbacks c → (v : Version) (instances handle_limit capacity : ℕ) (main : Main) →
    InOrder c (opening v instances handle_limit capacity main)

-- each step from a state in order leads to one
abbrev pub StepInOrder : Type 0
StepInOrder = (x : Setting) (s : State) (l : Label) (t : State) → InOrder x.component s → Step x s l t → InOrder x.component t
