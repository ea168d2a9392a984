-- Where a step does a primitive: what its rule has tested or done before, and what is known of the thread that runs or was taken.
use Rattle.machine_data.specs.declared.records.Course.{Course}
use Rattle.machine_data.specs.declared.component.HostDef.{HostDef}
use Rattle.std.specs.Option.{option_map_or}
use Rattle.std.specs.Prelude.{◌≤◌, length, Bool, None, Option, Some, [], false, is_none, true, ℕ, ◌||◌, ◌∷◌, ◌≡◌, ◌⊎◌, not, is_some, ◌==◌}
use Rattle.machine_data.specs.Core.{Core, MainPlace, Scripted, Unscripted}
use Rattle.machine_data.specs.Labels.{host_label}
use Rattle.machine_data.specs.Maps.{get}
use Rattle.machine_data.specs.Moves.{has_entry, is_callback_waiter, is_deletable, is_group_done, waits_cancellable}
use Rattle.machine_data.specs.Read.{goes_open, is_open, admits, caller_of, cancel_was_delivered, course_of, course_value, end_of, event_of, goal_of, has_ended, has_member, has_waiters, op_progress_of, position_of, instance_of, is_async_lifted, is_at, is_direct, is_explicit, is_joined, is_stage_ended, is_waiter, is_watched, join_of, kind_of, may_not_enter, next_entry, task_event_of, phase_of, place_of, set_at, stage_of, subtask_at, subtask_ended, subtask_handle, undelivered_end, task_of, thread_group, was_started, work_caller_of, is_guest_call, is_aborted, is_blocked_on, foot_of, has_ready_member}
use Rattle.machine_data.specs.Write.{set_backpressure, set_do_not_enter}
use Rattle.machine_data.specs.declared.component.Callee.{Callee}
use Rattle.machine_data.specs.declared.component.ExportKind.{ExportKind}
use Rattle.machine_data.specs.declared.label.Label.{Label}
use Rattle.machine_data.specs.declared.records.CallEnd.{CallEnd}
use Rattle.machine_data.specs.declared.records.Caller.{Caller}
use Rattle.machine_data.specs.declared.records.Delivery.{Delivery}
use Rattle.machine_data.specs.declared.records.Goal.{Goal}
use Rattle.machine_data.specs.declared.records.OpProgress.{OpProgress}
use Rattle.machine_data.specs.declared.records.Join.{Join}
use Rattle.machine_data.specs.declared.records.Place.{Place}
use Rattle.machine_data.specs.declared.records.Subtask.{Subtask}
use Rattle.machine_data.specs.declared.records.Thread.{Thread}
use Rattle.machine_data.specs.declared.records.Why.{Why}
use Rattle.machine_data.specs.declared.records.WorkCaller.{WorkCaller}
use Rattle.machine_data.specs.declared.scenario.MainOpDef.{MainOpDef}
use Rattle.machine_data.specs.declared.statuses.Mark.{Mark}
use Rattle.machine_data.specs.declared.statuses.TaskEvent.{TaskEvent}
use Rattle.machine_data.specs.declared.statuses.Status.{Status}
use Rattle.machine_rules.specs.Calls.{new_thread, next_thread, next_work}
use Rattle.machine_rules.specs.Cancels.{aborted_phase, cancel_why, is_waiting}
use Rattle.machine_rules.specs.Ends.{is_told, own_or_none}
use Rattle.machine_rules.specs.MainOps.{op_at, takes_words, spawned_at, is_spawn}
use Rattle.machine_rules.specs.Once.{returned_holder}
use Rattle.machine_rules.specs.OpParts.{callee_of_main_op, callee_of_op, calls_host, can_come, ends_activation, is_join, is_sync_call, is_wait, makes_set, queues_work}
use Rattle.machine_rules.specs.Places.{is_at_wait}
use Rattle.machine_rules.specs.Scenes.{Scene, component_of, op_in}
use Rattle.machine_rules.specs.Scripts.{HasOpen, export_kind, is_script, registers_for, script_of, slot_at}
use Rattle.machine_rules.specs.Threads.{resume_why}
use Rattle.machine_rules.specs.Takes.{starting_is_published}
use Rattle.machine_rules.specs.Primitives.{AddGroup, Advance, Arrive, Restart, CloseSet, CountWork, EndWork, Enter, FinishWork, GoBehind, MakeCall, MakeThread, Move, NameCall, NameWork, OpenSet, Pend, Places, Placing, Pop, Promote, Put, QueueWork, RemoveCall, RemoveGroup, RemoveThread, RemoveWork, SetCallEvent, SetCallJoin, SetCancelDelivered, SetCancelled, SetBackpressure, SetDoNotEnter, EndCall, SetOpProgress, SetTaskEvent, SetPhase, SetStarted, TakeWorkEvent, SetWorkJoin, Stop, TakeHost, TakePush, UnnameCall, UnnameWork, Withdraw, Primitive, status_of_end, GiveResult, SetUninteresting, SetTrapped}
use Rattle.machine_rules.specs.Works.{next_polled, has_end, is_ended_work}
use Rattle.machine_rules.specs.SubtaskEnds.{end_for, written_as, direct_return}
use Rattle.machine_data.specs.declared.statuses.Mark.TheVariants as mark
use Rattle.machine_data.specs.declared.label.Label.TheVariants as label
use Rattle.machine_data.specs.declared.label.LoopLabel.TheVariants as loop_label
use Rattle.machine_data.specs.declared.label.TaskLabel.TheVariants as task_label
use Rattle.machine_data.specs.declared.records.CallEnd.TheVariants as call_end
use Rattle.machine_data.specs.declared.records.Caller.TheVariants as caller
use Rattle.machine_data.specs.declared.records.Delivery.TheVariants as delivery
use Rattle.machine_data.specs.declared.records.Entry.TheVariants as entry
use Rattle.machine_data.specs.declared.records.Goal.TheVariants as goal
use Rattle.machine_data.specs.declared.records.OpProgress.TheVariants as op_progress
use Rattle.machine_data.specs.declared.records.Join.TheVariants as join
use Rattle.machine_data.specs.declared.records.Place.TheVariants as place
use Rattle.machine_data.specs.declared.records.Script.TheVariants as script
use Rattle.machine_data.specs.declared.records.Subtask.TheVariants as subtask
use Rattle.machine_data.specs.declared.records.Turn.TheVariants as turn
use Rattle.machine_data.specs.declared.records.Why.TheVariants as why
use Rattle.machine_data.specs.declared.records.WorkCaller.TheVariants as work_caller
use Rattle.machine_data.specs.declared.statuses.TaskEvent.TheVariants as own
use Rattle.machine_data.specs.declared.statuses.Status.TheVariants as status

-- ---- The thread that runs or was taken

abbrev pub IsRunner : Scene → ℕ → Type 0
IsRunner a n = a.runner ≡ Some n

-- it was taken with an entry that represented this
abbrev pub WasReady : Scene → ℕ → Why → Type 0
WasReady a n w = (m : Mark) × (place_of n a.base ≡ Some (place.Ready m w))

-- its op ends an activation
abbrev pub EndsActivation : Scene → ℕ → Type 0
EndsActivation a n = IsRunner a n × (ends_activation (op_in a n) ≡ true)

-- the step leaves the running thread, and no thread runs on
abbrev pub Leaves : Scene → ℕ → Type 0
Leaves a n = IsRunner a n × ((a.next ≡ turn.Main) × (a.turn ≡ turn.Run n))

-- the thread that was taken doesn't run
abbrev pub IsLaid : Scene → ℕ → Type 0
IsLaid a n = IsRunner a n × (a.next ≡ turn.Main)

-- the call is gone, or its start has run
abbrev pub is_begun : ℕ → Core → Bool
is_begun k s = option_map_or (λ c. c.started) (get s.calls k) true

-- the thread's exit
abbrev pub is_exit : Label → Bool
is_exit (label.Task (task_label.Exit n)) = true
is_exit (label.Task (task_label.ExitWakes n w)) = true
is_exit _ = false

-- What makes the set one of the thread's instance: a handle names it there, or the thread was inside a wait on it, or was taken with a
-- delivery for it.
pub data HasSet (a : Scene) (n x : ℕ) : Type 0 where
  BySetHandle : (h : ℕ) → set_at (instance_of n a.base) h a.base ≡ Some x → HasSet a n x
  ByWait : op_progress_of n a.base ≡ op_progress.Waits x → HasSet a n x
  ByDelivery : WasReady a n (why.Delivery (delivery.Set x)) → HasSet a n x

-- the subtask that an op under way is about
abbrev pub subtask_under_way : OpProgress → Option Subtask
subtask_under_way (op_progress.Calls sub) = Some sub
subtask_under_way (op_progress.Cancels sub) = Some sub
subtask_under_way (op_progress.AwaitsEnd sub) = Some sub
subtask_under_way _ = None

-- What makes the subtask one of the thread's: a handle of its instance names it, or its op is about it.
pub data HasSubtask (a : Scene) (n : ℕ) (sub : Subtask) : Type 0 where
  ByHandle : (h : ℕ) → subtask_at (instance_of n a.base) h a.base ≡ Some sub → HasSubtask a n sub
  ByOp : subtask_under_way (op_progress_of n a.base) ≡ Some sub → HasSubtask a n sub

-- the op cancels the subtask already
abbrev pub Cancelling : Scene → ℕ → Subtask → Type 0
Cancelling a n sub = (op_progress_of n a.base ≡ op_progress.Cancels sub) ⊎ (op_progress_of n a.base ≡ op_progress.AwaitsEnd sub)

-- the op cancels a subtask that a handle names, or cancels it already
abbrev pub MayCancel : Scene → ℕ → Subtask → Type 0
MayCancel a n sub = ((h : ℕ) × (subtask_at (instance_of n a.base) h a.base ≡ Some sub)) ⊎ Cancelling a n sub

abbrev pub is_watched_by : ℕ → Join → Bool
is_watched_by n (join.Watched m) = n == m
is_watched_by n _ = false

-- the subtask is in the thread's own set, or gone
abbrev pub watches : ℕ → Subtask → Core → Bool
watches n (subtask.Guest k) s = option_map_or (λ c. is_watched_by n c.join) (get s.calls k) true
watches n (subtask.Host i) s = option_map_or (λ w. is_watched_by n w.join) (get s.works i) true

-- the subtask is in no thread's own set, or in that of the running thread, whose op is done
abbrev pub MayPart : Scene → ℕ → Subtask → Core → Type 0
MayPart a n sub s = (is_watched (join_of sub s) ≡ false) ⊎
    (Cancelling a n sub × ((op_progress_of n s ≡ op_progress.Fresh) × (join_of sub s ≡ join_of sub a.base)))

-- a handle of the running thread's instance names it
abbrev pub IsNamed : Scene → Subtask → Type 0
IsNamed a sub = (n : ℕ) × ((h : ℕ) × (IsRunner a n × (subtask_at (instance_of n a.base) h a.base ≡ Some sub)))

-- this step has made the call, with its thread, or the work
abbrev pub IsNew : Scene → Subtask → Core → Type 0
IsNew a (subtask.Guest k) s = (k ≡ next_thread a.base) × ((s.made.threads ≡ k) × (is_explicit k s ≡ false))
IsNew a (subtask.Host i) s = (i ≡ next_work a.base) × (s.made.works ≡ i)

-- ---- Where other threads come to

abbrev pub wake_why : ℕ → Bool → Why
wake_why x true = why.Delivery (delivery.Set x)
wake_why x false = why.Resumption

-- a host's work is done
abbrev pub is_done_host : Subtask → Core → Bool
is_done_host (subtask.Guest k) s = true
is_done_host (subtask.Host i) s = is_stage_ended (stage_of i s)

-- Why a thread that doesn't run gets an entry.
pub data MayPut (n : ℕ) (w : Why) (s : Core) : Type 0 where
  -- it is the first one of a call that was just made, and not a direct one
  Starts : place_of n s ≡ Some place.New → is_explicit n s ≡ false → is_direct (goal_of (task_of n s) s) ≡ false → w ≡ why.Start →
      MayPut n w s
  -- another thread resumes it
  Resumes : resume_why n s ≡ Some w → MayPut n w s
  -- an event of its set has come
  Wakes : (x : ℕ) → is_waiter x n s ≡ true → w ≡ wake_why x (is_callback_waiter n s) → MayPut n w s
  -- its subtask has a status, or is done
  Unblocks : (sub : Subtask) → place_of n s ≡ Some (place.Blocked sub) → is_done_host sub s ≡ true → w ≡ why.Resumption → MayPut n w s
  -- it was held with this
  Releases : place_of n s ≡ Some (place.Held w) → MayPut n w s
  -- it waits, and is cancelled
  Cancels : is_at n s is_waiting ≡ true → w ≡ cancel_why (is_callback_waiter n s) → MayPut n w s

-- the thread has an entry
abbrev pub HasEntry : ℕ → Core → Type 0
HasEntry n s = (has_entry n s.queues.high || has_entry n s.queues.low) ≡ true

-- What a step does to other threads than the one that runs.
abbrev pub MayShift : Placing → Core → Type 0
MayShift (Put mark.High n w) s = MayPut n w s
MayShift (Put mark.Low n w) s = MayPut n w s
MayShift (Promote n) s = (s.queues.switch ≡ None) × HasEntry n s
MayShift _ s = ⊥

-- no thread has come behind another one in this step
abbrev pub NoneCame : Scene → Core → Type 0
NoneCame a s = (n f : ℕ) → place_of n s ≡ Some (place.Behind f) → place_of n a.base ≡ Some (place.Behind f)

-- A strand stops only where no thread runs next. Beside a running thread another one is put at switch, before that; and the entry of
-- another one may be promoted where its place alone says that there is one.
abbrev pub MayHasten : Scene → Placing → Core → Type 0
MayHasten a (Stop f) s = a.next ≡ turn.Main
MayHasten a (Put mark.Switch n w) s = MayPut n w s × (((m : ℕ) × (a.turn ≡ turn.Run m)) × NoneCame a s)
MayHasten a (Promote k) s = (s.queues.switch ≡ None) ×
    ((n : ℕ) × ((a.turn ≡ turn.Run n) × ((m : Mark) × ((w : Why) × (place_of k s ≡ Some (place.Ready m w))))))
MayHasten a _ s = ⊥

-- ---- Where the running thread comes to

-- Why the running thread gets an entry.
pub data MayYield (a : Scene) (n : ℕ) (w : Why) : Type 0 where
  Yields : Leaves a n → w ≡ why.Resumption → MayYield a n w
  -- its activation ends, and its turn comes again
  ComesAgain : Leaves a n → EndsActivation a n → w ≡ why.Delivery delivery.Yield → MayYield a n w
  -- its activation ends, and an event is there
  FindsEvent : (x : ℕ) → Leaves a n → EndsActivation a n → HasSet a n x → w ≡ why.Delivery (delivery.Set x) → MayYield a n w

-- Why the running thread, or the one under it, comes to a place that says nothing of entries.
pub data MayMove (a : Scene) (n : ℕ) (p : Place) (s : Core) : Type 0 where
  -- it was taken, and runs; a call that it was to start has begun
  Runs : IsRunner a n → a.next ≡ turn.Run n →
      (is_explicit n a.base ≡ false → WasReady a n why.Start → is_begun (task_of n a.base) s ≡ true) →
      p ≡ place.Running → MayMove a n p s
  -- it was taken, isn't admitted, and is held
  Holds : (w : Why) → IsLaid a n → WasReady a n w → admits n s w ≡ false → p ≡ place.Held w → MayMove a n p s
  -- it was taken, found nothing, and waits again
  WaitsAgain : (x : ℕ) → IsLaid a n → WasReady a n (why.Delivery (delivery.Set x)) → has_ready_member x s ≡ false →
      p ≡ place.Waiting x true → MayMove a n p s
  -- its activation ends, and it waits for an event
  AwaitsEvent : (x : ℕ) → Leaves a n → EndsActivation a n → HasSet a n x → has_ready_member x s ≡ false → p ≡ place.Waiting x true →
      MayMove a n p s
  -- no member of the set has an event
  Waits : (x : ℕ) → Leaves a n → HasSet a n x → has_ready_member x s ≡ false → p ≡ place.Waiting x false → MayMove a n p s
  -- its op waits for a subtask of its own, or for a new one, that has no end to tell, and is no host's work that has ended
  Blocks : (sub : Subtask) → Leaves a n → HasSubtask a n sub ⊎ IsNew a sub s →
      (undelivered_end (event_of sub s) ≡ None) ⊎ (subtask_ended sub s ≡ false) → is_ended_work sub s ≡ false → p ≡ place.Blocked sub →
      MayMove a n p s
  Suspends : Leaves a n → p ≡ place.Suspended → MayMove a n p s
  -- its direct callee m ran, and is gone
  Uncovers : (m : ℕ) → IsRunner a m → a.next ≡ turn.Run n → place_of n a.base ≡ Some (place.Under m) → is_none (get s.threads m) ≡ true →
      p ≡ place.Running → MayMove a n p s

-- whom a thread goes behind: a new thread at switch, or the foot of the strand there
abbrev pub IsFoot : Scene → ℕ → Core → Type 0
IsFoot a f s = ((s.queues.switch ≡ Some f) × (f ≡ next_thread a.base)) ⊎ ((m : ℕ) × ((s.queues.switch ≡ Some m) × (f ≡ foot_of m s)))

-- the thread runs, and where it is still there it is at its op
abbrev pub AtOp : Scene → ℕ → Core → Type 0
AtOp a n s = (a.turn ≡ turn.Run n) × (place_of n a.base ≡ Some place.Running → n ≤ a.base.made.threads → is_some (place_of n s) ≡ true →
    position_of n s ≡ position_of n a.base)

-- where it comes to at last
abbrev pub MayLand : Scene → Placing → Core → Type 0
MayLand a (Put mark.Switch n w) s = ⊥
MayLand a (Put mark.High n w) s = MayYield a n w
MayLand a (Put mark.Low n w) s = MayYield a n w
MayLand a (GoBehind f n) s = Leaves a n × IsFoot a f s
MayLand a (Move n p) s = MayMove a n p s
-- by a direct call that was just made, and has begun; the thread is at the sync call that makes it
MayLand a (Enter n m) s = IsRunner a n ×
    ((a.next ≡ turn.Run m) × ((m ≡ next_thread a.base) × ((place_of m s ≡ Some place.New) × ((is_direct (goal_of (task_of m s) s) ≡ true) ×
    ((a.turn ≡ turn.Run n) × ((is_begun m s ≡ true) × (AtOp a n s × (is_sync_call (op_in a n) ≡ true))))))))
MayLand a _ s = ⊥

abbrev pub MayLeave : Scene → Placing → Core → Type 0
-- the entry of the thread that is taken
MayLeave a (Pop m) s = (n : ℕ) × (IsRunner a n × (next_entry s ≡ Some (m, entry.Thread n)))
MayLeave a (Promote k) s = MayHasten a (Promote k) s
MayLeave a (Stop f) s = MayHasten a (Stop f) s
MayLeave a (Put mark.Switch n w) s = MayHasten a (Put mark.Switch n w) s
MayLeave a p s = MayLand a p s

-- ---- Threads

-- the thread has made the call, and no handle names it
abbrev pub IsCalled : ℕ → ℕ → Core → Type 0
IsCalled n k s = (caller_of k s ≡ caller.Thread n) × (subtask_handle (subtask.Guest k) s ≡ None)

-- the call hasn't ended, and no cancel has come to it
abbrev pub IsUntouched : ℕ → Core → Type 0
IsUntouched k s = (end_of k s ≡ None) × ((task_event_of k s ≡ None) × (cancel_was_delivered k s ≡ false))

-- the thread has just made the call
abbrev pub HasCalled : ℕ → ℕ → Core → Type 0
HasCalled n k s = IsCalled n k s × IsUntouched k s

-- how far an op comes: it waits on a set of its instance, stays inside its call or makes one, or is about a subtask of its own or a new one
abbrev pub MayCome : Scene → ℕ → OpProgress → Core → Type 0
MayCome a n (op_progress.Waits x) s = Leaves a n × (HasSet a n x × ((is_wait (op_in a n) ≡ true) ×
    (option_map_or (is_at_wait x) (place_of n s) true ≡ true)))
MayCome a n (op_progress.Calls (subtask.Guest k)) s = IsRunner a n × (((op_progress_of n a.base ≡ op_progress.Calls (subtask.Guest k)) ×
    (op_progress_of n s ≡ op_progress.Calls (subtask.Guest k))) ⊎ (IsNew a (subtask.Guest k) s × HasCalled n k s))
MayCome a n (op_progress.Calls (subtask.Host i)) s = IsRunner a n × (IsNew a (subtask.Host i) s × ((work_caller_of i s ≡ work_caller.Sync n) ×
    (option_map_or (is_blocked_on (subtask.Host i)) (place_of n s) true ≡ true)))
MayCome a n (op_progress.Cancels sub) s = Leaves a n × (MayCancel a n sub × (watches n sub s ≡ true))
MayCome a n (op_progress.AwaitsEnd sub) s = Leaves a n × (MayCancel a n sub × (watches n sub s ≡ true))
-- its direct callee, which ran, has come to a value, and exits
MayCome a n (op_progress.Answered v) s = (m : ℕ) × (IsRunner a m × ((a.next ≡ turn.Run n) × ((place_of n a.base ≡ Some (place.Under m)) ×
    (direct_return a.base a.label ≡ Some (n, task_of m a.base)))))
MayCome a n h s = IsRunner a n

-- Why the op can come so far.
pub data CanCome (a : Scene) (n : ℕ) (h : OpProgress) (s : Core) : Type 0 where
  InOp : AtOp a n s → can_come (op_in a n) h ≡ true → CanCome a n h s
  -- its direct callee was on top of it
  WasUnder : (m v : ℕ) → place_of n a.base ≡ Some (place.Under m) → h ≡ op_progress.Answered v → CanCome a n h s

-- the running thread's op is done, and it runs on, at a place in its script or at the end
abbrev pub MayAdvance : Scene → ℕ → ℕ → Type 0
MayAdvance a n p = IsRunner a n × ((a.turn ≡ turn.Run n) × ((a.next ≡ turn.Run n) × (p ≤ length (script_of (component_of a) n a.base))))

-- a thread that was taken with a delivery begins its react script
abbrev pub MayRestart : Scene → ℕ → Type 0
MayRestart a n = IsRunner a n × ((d : Delivery) × WasReady a n (why.Delivery d))

-- the slot of the thread's instance has a script
abbrev pub HasSlot : Scene → ℕ → ℕ → Type 0
HasSlot a n x = is_script (slot_at (component_of a) (instance_of n a.base) x) ≡ true

-- a thread beside the first one of its task, by an op that names a script
abbrev pub MayMake : Scene → Thread → Core → Type 0
MayMake a t s = (n : ℕ) × (IsRunner a n × ((s.made ≡ a.base.made) × ((x : ℕ) × ((v : ℕ) ×
    ((t ≡ new_thread (task_of n a.base) true (script.Slot x) (registers_for (v ∷ [])) None) ×
    ((s.calls ≡ a.base.calls) × (HasSlot a n x × (a.turn ≡ turn.Run n))))))))

-- Who is gone.
pub data MayGo (a : Scene) (n : ℕ) (s : Core) : Type 0 where
  -- the running thread
  Departs : Leaves a n → MayGo a n s
  -- the running thread, and the one under it goes on
  EndsOver : (m : ℕ) → IsRunner a n → a.turn ≡ turn.Run n → a.next ≡ turn.Run m → place_of m a.base ≡ Some (place.Under n) → MayGo a n s
  -- the strand that trapped: the thread that ran or was taken, and those that were under ones that are gone
  Unwinds : a.next ≡ turn.Over →
      IsRunner a n ⊎ ((m : ℕ) × ((place_of n a.base ≡ Some (place.Under m)) × (is_none (get s.threads m) ≡ true))) → MayGo a n s

-- the start of a call that a handle of the running thread's instance names, which hasn't begun or ended
abbrev pub MayWithdraw : Scene → ℕ → Core → Type 0
MayWithdraw a k s = (n : ℕ) × (IsRunner a n × (IsNamed a (subtask.Guest k) × ((was_started k s ≡ false) × ((has_ended k s ≡ false) ×
    ((a.turn ≡ turn.Run n) × (was_started k a.base ≡ false))))))

-- ---- Calls

-- Who calls the export: main's op, or that of the running thread.
pub data MayCall (a : Scene) (f : Caller) (e : Callee) (group : ℕ) (s : Core) : Type 0 where
  ByScript : (p : MainPlace) (o : MainOpDef) → a.main ≡ Scripted p → op_at a.setting.script p ≡ Some o → callee_of_main_op o ≡ Some e →
      f ≡ caller.Main → group ≡ s.made.groups → MayCall a f e group s
  ByProgram : (words : ℕ) → a.main ≡ Unscripted → takes_words (component_of a) e words ≡ true → f ≡ caller.Main → group ≡ s.made.groups →
      MayCall a f e group s
  ByThread : (n : ℕ) → IsRunner a n → callee_of_op (op_in a n) ≡ Some e → f ≡ caller.Thread n → group ≡ thread_group n a.base →
      MayCall a f e group s

abbrev pub is_for_main : Goal → Bool
is_for_main goal.Main = true
is_for_main _ = false

-- a direct call isn't of an async-lifted export, and its thread runs next; main's calls alone have results for main
abbrev pub MayMakeCall : Scene → Caller → Callee → ExportKind → Goal → ℕ → Core → Type 0
MayMakeCall a f e x g group s = MayCall a f e group s × ((s.made.threads ≡ a.base.made.threads) ×
    ((x ≡ export_kind (component_of a) e) ×
    ((is_direct g ≡ true → (is_async_lifted x ≡ false) × (a.next ≡ turn.Run (next_thread a.base))) ×
    ((is_for_main g ≡ not (is_guest_call f)) × ((s.made.works ≡ a.base.made.works) × (s.made.sets ≡ a.base.made.sets))))))

-- the call of the thread that was taken to start, or a new direct one, whose first thread runs next
abbrev pub MayStart : Scene → ℕ → Core → Type 0
MayStart a k s =
    ((n : ℕ) × (IsRunner a n × (WasReady a n why.Start ×
    ((is_explicit n a.base ≡ false) × ((k ≡ task_of n a.base) × (a.next ≡ turn.Run n))))))
    ⊎ (IsNew a (subtask.Guest k) s × (a.next ≡ turn.Run k))

-- Why the call comes to the end.
pub data MayEnd (a : Scene) (k : ℕ) (e : CallEnd) (s : Core) : Type 0 where
  ReturnsNow : (n : ℕ) → IsRunner a n → a.turn ≡ turn.Run n → k ≡ task_of n a.base → has_ended k s ≡ false →
      is_async_lifted (kind_of k s) ≡ true → e ≡ call_end.Returned → MayEnd a k e s
  -- a cancel was delivered
  GivesUp : (n : ℕ) → IsRunner a n → a.turn ≡ turn.Run n → k ≡ task_of n a.base → has_ended k s ≡ false →
      cancel_was_delivered k s ≡ true → e ≡ call_end.ReturnCancelled → MayEnd a k e s
  -- the first thread of a call exits that is direct or not of an async-lifted export; nothing was done to the call before
  Exits : (n : ℕ) → IsRunner a n → a.turn ≡ turn.Run n → is_exit a.label ≡ true → k ≡ task_of n a.base → is_explicit n a.base ≡ false →
      (is_direct (goal_of k a.base) ≡ true) ⊎ (is_async_lifted (kind_of k a.base) ≡ false) → get s.calls k ≡ get a.base.calls k →
      e ≡ call_end.Returned → MayEnd a k e s
  -- its start is withdrawn, and its thread is gone
  IsWithdrawn : MayWithdraw a k s → is_none (get s.threads k) ≡ true → e ≡ call_end.StartCancelled → MayEnd a k e s

-- the label says that the step writes this end of the call
abbrev pub SaysEnd : Scene → ℕ → Status → Type 0
SaysEnd a k e = written_as a.ops a.base a.label a.base ≡ Some (end_for e (subtask.Guest k))

-- from b to s the call has come to where this status says, which is none of an end: those are told as they come
abbrev pub Tells : Status → ℕ → Core → Core → Type 0
Tells status.Starting k b s = (starting_is_published k b ≡ false) × (starting_is_published k s ≡ true)
Tells status.Started k b s = was_started k s ≡ true
Tells _ k b s = ⊥

-- the call of the first thread that was taken to start, which hasn't come to an end since
abbrev pub IsStarting : Scene → ℕ → Core → Type 0
IsStarting a k s = (n : ℕ) × (IsRunner a n × (WasReady a n why.Start × ((is_explicit n a.base ≡ false) × ((k ≡ task_of n a.base) ×
    (end_of k s ≡ end_of k a.base)))))

-- a subtask of the running thread
abbrev pub IsOwn : Scene → Subtask → Type 0
IsOwn a sub = (n : ℕ) × (IsRunner a n × HasSubtask a n sub)

-- Why the running thread takes the event of a call.
pub data MayTakeEvent (a : Scene) (k : ℕ) (s : Core) : Type 0 where
  TakesNamed : IsNamed a (subtask.Guest k) → MayTakeEvent a k s
  -- its op cancels the call
  TakesCancelled : (n : ℕ) → IsRunner a n → (op_progress_of n a.base ≡ op_progress.Cancels (subtask.Guest k)) ⊎
      (op_progress_of n a.base ≡ op_progress.AwaitsEnd (subtask.Guest k)) → MayTakeEvent a k s
  -- its op was inside of the call, and is done, or the call hasn't returned
  TakesCalled : (n : ℕ) → IsRunner a n → op_progress_of n a.base ≡ op_progress.Calls (subtask.Guest k) →
      (op_progress_of n s ≡ op_progress.Fresh) ⊎ (event_of (subtask.Guest k) s ≡ Some status.Returned → ⊥) → MayTakeEvent a k s

-- how far its start has come is told to the calling thread, or the running thread takes the event
abbrev pub MayTell : Scene → ℕ → Option Status → Core → Type 0
MayTell a k (Some e) s = (is_told k s ≡ true) × (Tells e k a.base s × IsStarting a k s)
MayTell a k None s = MayTakeEvent a k s

-- Cancelled comes to a task that a handle names, and that is started and hasn't ended; to one that yields comes what it has, or None;
-- what is there is taken by the running thread
abbrev pub MayOwe : Scene → ℕ → Option TaskEvent → Core → Type 0
MayOwe a k (Some e) s =
    ((e ≡ own.Cancelled) × (IsNamed a (subtask.Guest k) × ((was_started k s ≡ true) × (has_ended k s ≡ false))))
    ⊎ ((n : ℕ) × (EndsActivation a n × ((k ≡ task_of n a.base) × (own_or_none (task_event_of k a.base) ≡ Some e))))
MayOwe a k None s = (n : ℕ) × (IsRunner a n × (k ≡ task_of n a.base))

-- a thread that was taken with a delivery, or waits where a `wait` may take Cancelled, finds Cancelled as its task event
abbrev pub MayDeliver : Scene → ℕ → Type 0
MayDeliver a k = (n : ℕ) × (IsRunner a n × ((k ≡ task_of n a.base) × ((((d : Delivery) × WasReady a n (why.Delivery d)) ⊎
    ((is_wait (op_in a n) ≡ true) × (waits_cancellable k a.base ≡ true))) × (task_event_of k a.base ≡ Some own.Cancelled))))

-- a call that nothing keeps goes where it has ended, or where the running thread's op, which was inside of it, is done
abbrev pub MayRemoveCall : Scene → ℕ → Core → Type 0
MayRemoveCall a k s = (is_deletable k s ≡ true) × ((has_ended k s ≡ true) ⊎ ((n : ℕ) × (IsRunner a n ×
    ((op_progress_of n a.base ≡ op_progress.Calls (subtask.Guest k)) × (op_progress_of n s ≡ op_progress.Fresh)))))

-- ---- Subtasks

-- the op `join` finds the subtask and the set by handles of the running thread's instance; a cancel joins a subtask that is in no set to
-- the thread's own
abbrev pub MayJoin : Scene → Subtask → Join → Core → Type 0
MayJoin a sub join.Nowhere s = (n : ℕ) × (IsRunner a n × (HasSubtask a n sub × MayPart a n sub s))
MayJoin a sub (join.Set x) s = (n : ℕ) × ((h : ℕ) × ((g : ℕ) ×
    (IsRunner a n × ((subtask_at (instance_of n a.base) h s ≡ Some sub) × ((set_at (instance_of n a.base) g s ≡ Some x) ×
    ((is_watched (join_of sub s) ≡ false) × ((a.turn ≡ turn.Run n) × (is_join (op_in a n) ≡ true))))))))
MayJoin a sub (join.Watched n) s = IsRunner a n ×
    (HasSubtask a n sub × (((is_joined (join_of sub a.base) ≡ false) ⊎ (op_progress_of n a.base ≡ op_progress.Cancels sub)) ×
    (join_of sub s ≡ join_of sub a.base)))

-- the running thread's instance gets a handle of its subtask, or of a new one
abbrev pub MayName : Scene → ℕ → Subtask → Core → Type 0
MayName a i sub s = (n : ℕ) × (IsRunner a n × ((i ≡ instance_of n a.base) × (HasSubtask a n sub ⊎ IsNew a sub s)))

-- the running thread's op is done, and its instance gets a handle of the call that the op was inside of; whose that is and what names it is
-- as before the step
abbrev pub MayNameCall : Scene → ℕ → ℕ → Core → Type 0
MayNameCall a i k s = (n : ℕ) × ((a.turn ≡ turn.Run n) × ((i ≡ instance_of n a.base) ×
    ((op_progress_of n a.base ≡ op_progress.Calls (subtask.Guest k)) × ((op_progress_of n s ≡ op_progress.Fresh) × ((caller_of k s ≡ caller_of k a.base) ×
    (subtask_handle (subtask.Guest k) s ≡ subtask_handle (subtask.Guest k) a.base))))))

-- the handle names the subtask, which is in no set any more
abbrev pub MayUnname : Scene → ℕ → ℕ → Subtask → Core → Type 0
MayUnname a i h sub s = (n : ℕ) ×
    (IsRunner a n × ((i ≡ instance_of n a.base) × ((subtask_at i h s ≡ Some sub) × ((is_joined (join_of sub s) ≡ false) ×
    (a.next ≡ turn.Run n)))))

-- ---- Works

-- main's op spawns it, or the op of the running thread calls it
abbrev pub MayQueue : Scene → WorkCaller → Option ℕ → Type 0
MayQueue a work_caller.Spawn group = (group ≡ None) × (a.turn ≡ turn.Main)
MayQueue a (work_caller.Async n q) group = IsRunner a n × ((group ≡ Some (thread_group n a.base)) × ((a.turn ≡ turn.Run n) ×
    (calls_host (op_in a n) ≡ true)))
MayQueue a (work_caller.Sync n) group = IsRunner a n × ((group ≡ Some (thread_group n a.base)) × ((a.turn ≡ turn.Run n) ×
    (queues_work (op_progress_of n a.base) (op_in a n) ≡ true)))

-- it is open only where a host is, or main is no script
abbrev pub MayBeOpen : Scene → HostDef → Type 0
MayBeOpen a host = is_open host ≡ true → HasOpen (component_of a) ⊎ (a.main ≡ Unscripted)

abbrev pub is_async_work : WorkCaller → Bool
is_async_work (work_caller.Async n q) = true
is_async_work _ = false

-- the work is the next to be polled
abbrev pub IsPolled : Scene → ℕ → Core → Type 0
IsPolled a i s = (n : ℕ) × ((a.turn ≡ turn.Futures n) × (next_polled n s ≡ Some i))

-- the sync call of the running thread is answered, and done, or its ended subtask is dropped; whose the work is as before the step
abbrev pub MayRemoveWork : Scene → ℕ → Core → Type 0
MayRemoveWork a i s = (n : ℕ) × (IsRunner a n × ((work_caller_of i s ≡ work_caller_of i a.base) ×
    (((op_progress_of n a.base ≡ op_progress.Calls (subtask.Host i)) × (op_progress_of n s ≡ op_progress.Fresh)) ⊎
    ((subtask_ended (subtask.Host i) a.base ≡ true) × ((subtask_handle (subtask.Host i) s ≡ None) ×
    ((is_stage_ended (stage_of i s) ≡ true) ×
    ((h : ℕ) × (subtask_at (instance_of n a.base) h a.base ≡ Some (subtask.Host i)))))))))

-- the loop polls the work to its end, and without a value where an abort was asked for
abbrev pub MayFinish : Scene → ℕ → Course → Core → Type 0
MayFinish a i c s = IsPolled a i s × ((a.label ≡ label.Loop (loop_label.FutureEnds i)) × ((has_end c ≡ true) ×
    (course_value c ≡ None → (is_aborted (phase_of i s) ≡ true) ⊎ (has_end (course_of i s) ≡ true))))

-- Why an abort is asked for.
pub data MayAbort (a : Scene) (i : ℕ) : Type 0 where
  -- a handle of the running thread's instance names the work
  AbortsOwn : IsNamed a (subtask.Host i) → MayAbort a i
  -- main names it
  ScriptAborts : (p : MainPlace) (k : ℕ) → a.main ≡ Scripted p → i ≡ spawned_at p k → MayAbort a i
  ProgramAborts : a.main ≡ Unscripted → is_spawn i a.base ≡ true → MayAbort a i

-- the entry that the turn takes is that of a work
abbrev pub TakesWork : Scene → Type 0
TakesWork a = ((ended : Bool) × (a.turn ≡ turn.Take ended)) × (a.runner ≡ None)

-- ---- Sets and instances

abbrev pub MayOpen : Scene → ℕ → Core → Type 0
MayOpen a i s = (s.made ≡ a.base.made) × ((n : ℕ) × (IsRunner a n × ((i ≡ instance_of n a.base) ×
    ((a.turn ≡ turn.Run n) × (makes_set (op_in a n) ≡ true)))))

-- The handle names it, and nobody waits on it or is in it, nor did as the step began. The thread that runs isn't at a wait, and runs on.
abbrev pub MayClose : Scene → ℕ → ℕ → ℕ → Core → Type 0
MayClose a i h x s = (set_at i h s ≡ Some x) ×
    ((has_waiters x s ≡ false) × ((has_member x s ≡ false) × ((n : ℕ) × (IsRunner a n × ((i ≡ instance_of n a.base) ×
    ((has_waiters x a.base ≡ false) × ((a.turn ≡ turn.Run n) × ((a.next ≡ turn.Run n) × (is_wait (op_in a n) ≡ false)))))))))

-- a holding entry begins in an instance that is open, and one that returns opens its instance
abbrev pub MayBar : Scene → ℕ → Bool → Type 0
MayBar a i true = may_not_enter i a.base ≡ false
MayBar a i false = returned_holder a.base a.label ≡ Some i

-- no held thread of the instance is admitted
abbrev pub NoneHeldIn : ℕ → Core → Type 0
NoneHeldIn i s = (n : ℕ) (w : Why) → place_of n s ≡ Some (place.Held w) → instance_of n s ≡ i → admits n s w ≡ false

-- where a flag that kept entries out falls, those that it alone kept out were released
abbrev pub Releasing : ℕ → Bool → Core → Type 0
Releasing i true s = Unit {0}
Releasing i false s = NoneHeldIn i (set_do_not_enter i false s)

abbrev pub MayCount : ℕ → ℕ → Core → Type 0
MayCount i c s = c ≡ 0 → NoneHeldIn i (set_backpressure i c s)

-- ---- All primitives

-- Where the primitive is done in this step, right after s.
abbrev pub Allowed : Scene → Primitive → Core → Type 0
Allowed a (Places p) s = MayShift p s ⊎ MayLeave a p s
Allowed a (Advance n p) s = MayAdvance a n p
Allowed a (Restart n) s = MayRestart a n
Allowed a (SetOpProgress n h) s = MayCome a n h s × CanCome a n h s
Allowed a (Arrive n) s = IsRunner a n
Allowed a (MakeThread t) s = MayMake a t s
Allowed a (RemoveThread n) s = MayGo a n s
Allowed a (Withdraw k) s = MayWithdraw a k s × (SaysEnd a k status.StartCancelled × NoneCame a s)
Allowed a (MakeCall f e x g group words) s = MayMakeCall a f e x g group s
Allowed a (SetStarted k) s = MayStart a k s
Allowed a (EndCall k e) s = MayEnd a k e s × SaysEnd a k (status_of_end e)
Allowed a (SetTaskEvent k e) s = MayOwe a k e s
Allowed a (SetCancelDelivered k) s = MayDeliver a k
Allowed a (RemoveCall k) s = MayRemoveCall a k s
Allowed a (SetCallEvent k e) s = MayTell a k e s
Allowed a (SetCallJoin k j) s = MayJoin a (subtask.Guest k) j s
Allowed a (NameCall i k) s = MayNameCall a i k s
Allowed a (UnnameCall i h k) s = MayUnname a i h (subtask.Guest k) s
Allowed a CountWork s = s.made ≡ a.base.made
Allowed a (QueueWork f host group) s = (s.made ≡ a.base.made) × (MayQueue a f group × MayBeOpen a host)
Allowed a (TakePush m i) s = (next_entry s ≡ Some (m, entry.Push i)) × TakesWork a
Allowed a (Pend i host) s = IsPolled a i s × (is_open host ≡ true → goes_open (course_of i s) ≡ true)
Allowed a (EndWork i c) s = MayFinish a i c s × (is_async_work (work_caller_of i s) ≡ false)
Allowed a (FinishWork i c) s = MayFinish a i c s × (is_async_work (work_caller_of i s) ≡ true)
Allowed a (TakeHost m i) s = (next_entry s ≡ Some (m, entry.Host i)) × ((w : Option ℕ) × ((a.label ≡ host_label m i w) × TakesWork a))
-- an abort is asked for
Allowed a (SetPhase i p) s = MayAbort a i × (p ≡ aborted_phase (phase_of i s))
Allowed a (SetCancelled i) s = IsOwn a (subtask.Host i)
Allowed a (TakeWorkEvent i) s = IsOwn a (subtask.Host i)
Allowed a (SetWorkJoin i j) s = MayJoin a (subtask.Host i) j s
Allowed a (NameWork i w) s = MayName a i (subtask.Host w) s × ((is_async_work (work_caller_of w s) ≡ true) ×
    (subtask_handle (subtask.Host w) s ≡ None))
Allowed a (UnnameWork i h w) s = MayUnname a i h (subtask.Host w) s
Allowed a (RemoveWork i) s = MayRemoveWork a i s
Allowed a (OpenSet i) s = MayOpen a i s
Allowed a (CloseSet i h x) s = MayClose a i h x s
Allowed a (SetDoNotEnter i b) s = MayBar a i b × Releasing i b s
Allowed a (SetBackpressure i c) s = MayCount i c s
Allowed a (GiveResult k v) s = SaysEnd a k status.Returned × (goal_of k s ≡ goal.Main)
Allowed a AddGroup s = s.made ≡ a.base.made
Allowed a (RemoveGroup g) s = is_group_done g s ≡ true
Allowed a _ s = Unit {0}

-- ---- While the running thread stays

-- The primitives of a step before that thread comes to where it goes, or is gone.
abbrev pub Stays : Scene → Primitive → Core → Type 0
Stays a (Places p) s = MayShift p s ⊎ MayHasten a p s
Stays a (RemoveThread n) s = ⊥
Stays a w s = Allowed a w s

-- What becomes of a call whose thread is gone.
abbrev pub IsSettling : Primitive → Core → Type 0
IsSettling (SetUninteresting k) s = Unit {0}
IsSettling (RemoveCall k) s = (is_deletable k s ≡ true) × (has_ended k s ≡ true)
IsSettling (RemoveGroup g) s = is_group_done g s ≡ true
IsSettling _ s = ⊥

-- a strand falls, and the store is trapped
abbrev pub IsUnwind : Scene → Primitive → Core → Type 0
IsUnwind a (RemoveThread n) s = MayGo a n s
IsUnwind a SetTrapped s = Unit {0}
IsUnwind a _ s = ⊥
