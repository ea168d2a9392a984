-- The primitives that every step is made of: each a change that keeps what is said of states.
use Rattle.machine_data.specs.Read.{course_of, course_value, is_direct, is_guest_call}
use Rattle.std.specs.Prelude.{Bool, List, None, Option, false, if◌then◌else◌, not, ℕ, ◌+◌, ◌&&◌, Some}
use Rattle.machine_data.specs.Core.{Core}
use Rattle.machine_data.specs.Moves.{behind_one, less_switch, promoted, put_high, put_low, put_switch, stopped, unqueued}
use Rattle.machine_data.specs.Write.{arrive, add_group, add_set, add_thread, count_work, free_handle, free_thread_handle, give_handle, give_result, push_high, remove_call, remove_group, remove_set, remove_thread, remove_work, set_backpressure, set_cancel_asked, set_cancel_delivered, set_cancelled, set_course, set_do_not_enter, set_do_not_suspend, on_call, set_event, set_exited, set_op_progress, set_join, set_task_event, set_phase, set_place, set_position, set_register, set_result, set_saved_callee, set_saved_own, set_script, set_stage, set_started, set_starting_published, set_subtask_handle, set_trapped, set_uninteresting, set_memory_cell, take_result, with_switch}
use Rattle.machine_data.specs.declared.component.Callee.{Callee}
use Rattle.machine_data.specs.declared.component.ExportKind.{ExportKind}
use Rattle.machine_data.specs.declared.component.HostDef.{HostDef}
use Rattle.machine_data.specs.declared.records.Call.{Call}
use Rattle.machine_data.specs.declared.records.CallEnd.{CallEnd}
use Rattle.machine_data.specs.declared.records.Caller.{Caller}
use Rattle.machine_data.specs.declared.records.Course.{Course}
use Rattle.machine_data.specs.declared.records.Goal.{Goal}
use Rattle.machine_data.specs.declared.records.OpProgress.{OpProgress}
use Rattle.machine_data.specs.declared.records.Join.{Join}
use Rattle.machine_data.specs.declared.records.Place.{Place}
use Rattle.machine_data.specs.declared.records.Script.TheVariants as script
use Rattle.machine_data.specs.declared.records.OpProgress.TheVariants as op_progress
use Rattle.machine_data.specs.declared.records.Thread.{Thread}
use Rattle.machine_data.specs.declared.records.Why.{Why}
use Rattle.machine_data.specs.declared.records.WorkCaller.{WorkCaller}
use Rattle.machine_data.specs.declared.statuses.Mark.{Mark}
use Rattle.machine_data.specs.declared.statuses.TaskEvent.{TaskEvent}
use Rattle.machine_data.specs.declared.statuses.Phase.{Phase}
use Rattle.machine_data.specs.declared.statuses.Status.{Status}
use Rattle.machine_rules.specs.Calls.{call_made, with_handle, with_thread_handle, work_queued}
use Rattle.machine_rules.specs.Takes.{popped, host_status}
use Rattle.machine_rules.specs.Works.{poll_pends}
use Rattle.machine_data.specs.declared.records.CallEnd.TheVariants as call_end
use Rattle.machine_data.specs.declared.records.Entry.TheVariants as entry
use Rattle.machine_data.specs.declared.records.Named.TheVariants as named
use Rattle.machine_data.specs.declared.records.Place.TheVariants as place
use Rattle.machine_data.specs.declared.records.Stage.TheVariants as stage
use Rattle.machine_data.specs.declared.records.Subtask.TheVariants as subtask
use Rattle.machine_data.specs.declared.statuses.Mark.TheVariants as mark
use Rattle.machine_data.specs.declared.statuses.Phase.TheVariants as phase
use Rattle.machine_data.specs.declared.statuses.Status.TheVariants as status

-- ---- Where threads are

-- A change of where threads are: of their places, of the entries, and of who is behind whom.
pub data Placing : Type 0 where
  -- the entry that is taken leaves its mark
  Pop : (mark : Mark) → Placing
  -- a thread without an entry gets one
  Put : (mark : Mark) → (thread : ℕ) → (why : Why) → Placing
  -- the entry of a thread moves to switch
  Promote : (thread : ℕ) → Placing
  -- a strand stops
  Stop : (foot : ℕ) → Placing
  -- the running thread goes behind another
  GoBehind : (foot thread : ℕ) → Placing
  -- a thread comes to a place that says nothing of entries
  Move : (thread : ℕ) → (place : Place) → Placing
  -- the thread of a direct call runs on top of the running one
  Enter : (thread callee : ℕ) → Placing

abbrev pub put_at : Mark → ℕ → Why → Core → Core
put_at mark.Switch n w s = put_switch n w s
put_at mark.High n w s = put_high n w s
put_at mark.Low n w s = put_low n w s

abbrev pub after_placing : Placing → Core → Core
after_placing (Pop m) s = popped m s
after_placing (Put m n w) s = put_at m n w s
after_placing (Promote n) s = promoted n s
after_placing (Stop f) s = stopped f s
after_placing (GoBehind f n) s = behind_one f n s
after_placing (Move n p) s = set_place n p s
after_placing (Enter n m) s = set_place n (place.Under m) (set_place m place.Running s)

-- s with threads, callers and entries as in t
abbrev pub placed_as : Core → Core → Core
placed_as t s = record s { threads = t.threads; callers = t.callers; queues = t.queues }

-- ---- All primitives

pub data Primitive : Type 0 where
  Places : (placing : Placing) → Primitive
  -- the record of a thread
  SetRegister : (thread register value : ℕ) → Primitive
  -- its op is done, and it goes on at this place in its script
  Advance : (thread position : ℕ) → Primitive
  SetOpProgress : (thread : ℕ) → (op_progress : OpProgress) → Primitive
  -- it begins its react script
  Restart : (thread : ℕ) → Primitive
  -- it comes after all that wait or are held
  Arrive : (thread : ℕ) → Primitive
  SetSavedOwn : (thread : ℕ) → (saved : Option Bool) → Primitive
  SetSavedCallee : (thread : ℕ) → (saved : Option Bool) → Primitive
  NameThread : (instance thread : ℕ) → Primitive
  FreeThreadHandle : (instance handle : ℕ) → Primitive
  -- threads made and gone; a withdrawn one is gone with its entry
  MakeThread : (thread : Thread) → Primitive
  RemoveThread : (thread : ℕ) → Primitive
  Withdraw : (thread : ℕ) → Primitive
  -- the record of a call
  MakeCall : (caller : Caller) → (callee : Callee) → (kind : ExportKind) → (goal : Goal) → (group : ℕ) → (words : List ℕ) → Primitive
  SetStarted : (call : ℕ) → Primitive
  SetStartingPublished : (call : ℕ) → Primitive
  EndCall : (call : ℕ) → (end : CallEnd) → Primitive
  SetTaskEvent : (call : ℕ) → (event : Option TaskEvent) → Primitive
  SetCancelAsked : (call : ℕ) → Primitive
  SetCancelDelivered : (call : ℕ) → Primitive
  SetExited : (call : ℕ) → Primitive
  SetUninteresting : (call : ℕ) → Primitive
  SetResult : (call : ℕ) → (result : Option ℕ) → Primitive
  RemoveCall : (call : ℕ) → Primitive
  SetCallEvent : (call : ℕ) → (event : Option Status) → Primitive
  SetCallJoin : (call : ℕ) → (join : Join) → Primitive
  NameCall : (instance call : ℕ) → Primitive
  UnnameCall : (instance handle call : ℕ) → Primitive
  -- the record of a host work
  CountWork : Primitive
  QueueWork : (caller : WorkCaller) → (host : HostDef) → (group : Option ℕ) → Primitive
  TakePush : (mark : Mark) → (work : ℕ) → Primitive
  Pend : (work : ℕ) → (host : HostDef) → Primitive
  -- a work ends; that of an async host call gets its entry, and has ended and tells it once that is taken
  EndWork : (work : ℕ) → (course : Course) → Primitive
  FinishWork : (work : ℕ) → (course : Course) → Primitive
  TakeHost : (mark : Mark) → (work : ℕ) → Primitive
  SetPhase : (work : ℕ) → (phase : Phase) → Primitive
  SetCancelled : (work : ℕ) → Primitive
  TakeWorkEvent : (work : ℕ) → Primitive
  SetWorkJoin : (work : ℕ) → (join : Join) → Primitive
  NameWork : (instance work : ℕ) → Primitive
  UnnameWork : (instance handle work : ℕ) → Primitive
  RemoveWork : (work : ℕ) → Primitive
  -- sets, each with the handle that names it
  OpenSet : (instance : ℕ) → Primitive
  CloseSet : (instance handle set : ℕ) → Primitive
  -- the record of an instance
  SetBackpressure : (instance count : ℕ) → Primitive
  SetDoNotEnter : (instance : ℕ) → (flag : Bool) → Primitive
  SetDoNotSuspend : (instance : ℕ) → (flag : Bool) → Primitive
  SetMemoryCell : (instance cell value : ℕ) → Primitive
  -- results, groups and the trap
  GiveResult : (call value : ℕ) → Primitive
  TakeResult : (call : ℕ) → Primitive
  AddGroup : Primitive
  RemoveGroup : (group : ℕ) → Primitive
  SetTrapped : Primitive

abbrev pub status_of_end : CallEnd → Status
status_of_end call_end.Returned = status.Returned
status_of_end call_end.StartCancelled = status.StartCancelled
status_of_end call_end.ReturnCancelled = status.ReturnCancelled

-- whether this end of the call is told to its caller, as `is_told` says; that of a withdrawn start isn't
abbrev pub is_told_of : Call → CallEnd → Bool
is_told_of c call_end.StartCancelled = false
is_told_of c e = is_guest_call c.caller && not (is_direct c.goal)

-- the call comes to the end, and has it to tell
abbrev pub ended_as : CallEnd → Call → Call
ended_as e c = record c { «end» = Some e; event = if is_told_of c e then Some (status_of_end e) else c.event }

-- the core after the primitive; a change of places is written so that all else is seen to stay
abbrev pub after_primitive : Primitive → Core → Core
after_primitive (Places p) s = placed_as (after_placing p s) s
after_primitive (SetRegister n r v) s = set_register n r v s
after_primitive (Advance n p) s = set_op_progress n op_progress.Fresh (set_position n p s)
after_primitive (SetOpProgress n h) s = set_op_progress n h s
after_primitive (Restart n) s = set_op_progress n op_progress.Fresh (set_position n 0 (set_script n script.React s))
after_primitive (Arrive n) s = arrive n s
after_primitive (SetSavedOwn n b) s = set_saved_own n b s
after_primitive (SetSavedCallee n b) s = set_saved_callee n b s
after_primitive (NameThread i n) s = with_thread_handle i n s
after_primitive (FreeThreadHandle i h) s = free_thread_handle i h s
after_primitive (MakeThread t) s = add_thread t s
after_primitive (RemoveThread n) s = remove_thread n s
after_primitive (Withdraw k) s = remove_thread k (record s { queues = with_switch (less_switch k s.queues.switch) (unqueued k s).queues })
after_primitive (MakeCall f e x g group words) s = call_made f e x g group words s
after_primitive (SetStarted k) s = set_started k s
after_primitive (SetStartingPublished k) s = set_starting_published k s
after_primitive (EndCall k e) s = on_call k (ended_as e) s
after_primitive (SetTaskEvent k e) s = set_task_event k e s
after_primitive (SetCancelAsked k) s = set_cancel_asked k s
after_primitive (SetCancelDelivered k) s = set_cancel_delivered k s
after_primitive (SetExited k) s = set_exited k s
after_primitive (SetUninteresting k) s = set_uninteresting k s
after_primitive (SetResult k v) s = set_result k v s
after_primitive (RemoveCall k) s = remove_call k s
after_primitive (SetCallEvent k e) s = set_event (subtask.Guest k) e s
after_primitive (SetCallJoin k j) s = set_join (subtask.Guest k) j s
after_primitive (NameCall i k) s = with_handle i (subtask.Guest k) s
after_primitive (UnnameCall i h k) s = free_handle i h (set_subtask_handle (subtask.Guest k) None s)
after_primitive CountWork s = count_work s
after_primitive (QueueWork f host group) s = work_queued f host group s
after_primitive (TakePush m i) s = set_stage i stage.Live (placed_as (popped m s) s)
after_primitive (Pend i host) s = poll_pends i host s
after_primitive (EndWork i c) s = set_stage i stage.Ended (set_phase i phase.Complete (set_course i c s))
after_primitive (FinishWork i c) s = push_high (entry.Host i) (set_stage i stage.Finishing (set_phase i phase.Complete (set_course i c s)))
after_primitive (TakeHost m i) s =
    set_event (subtask.Host i) (Some (host_status (course_value (course_of i s)))) (set_stage i stage.Ended (placed_as (popped m s) s))
after_primitive (SetPhase i p) s = set_phase i p s
after_primitive (SetCancelled i) s = set_cancelled i s
after_primitive (TakeWorkEvent i) s = set_event (subtask.Host i) None s
after_primitive (SetWorkJoin i j) s = set_join (subtask.Host i) j s
after_primitive (NameWork i w) s = with_handle i (subtask.Host w) s
after_primitive (UnnameWork i h w) s = free_handle i h (set_subtask_handle (subtask.Host w) None s)
after_primitive (RemoveWork i) s = remove_work i s
after_primitive (OpenSet i) s = give_handle i (named.Set (s.made.sets + 1)) (add_set (record { instance = i }) s)
after_primitive (CloseSet i h x) s = remove_set x (free_handle i h s)
after_primitive (SetBackpressure i n) s = set_backpressure i n s
after_primitive (SetDoNotEnter i b) s = set_do_not_enter i b s
after_primitive (SetDoNotSuspend i b) s = set_do_not_suspend i b s
after_primitive (SetMemoryCell i w v) s = set_memory_cell i w v s
after_primitive (GiveResult k v) s = give_result k v s
after_primitive (TakeResult k) s = take_result k s
after_primitive AddGroup s = add_group s
after_primitive (RemoveGroup g) s = remove_group g s
after_primitive SetTrapped s = set_trapped s
