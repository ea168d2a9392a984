-- The rules of the ops on sets, subtasks and threads as chains of primitives.
use Rattle.machine_data.specs.Read.{cancel_was_asked, is_at, is_nil, is_second, task_event_of, waits_by_callback}
use Rattle.machine_data.specs.Moves.{is_callback_waiter, waits_cancellable}
use Rattle.machine_rules.specs.Cancels.{cancel_why, cancellable, is_waiting, is_waiting_of, waiting_callback, waiting_in}
use Rattle.machine_rules.specs.Primitives.{SetCancelAsked}
use Rattle.machine_rules.specs.Step.{is_among}
unfoldable use Rattle.machine_data.specs.Write.{set_cancel_asked}
use Rattle.machine_rules.proofs.Walks.{[], aborted_phase, AbortsOwn, add_work, advanced, after_primitive, AlreadyEnded, and_parts, answered, answered_by, Answers, answers_by, ap, arith, assigned, Async, at_handle_limit, AtOnce, blocked_code, Bool, by_number, ByHandle, ByOp, BySetHandle, ByThread, ByWait, Call, call_begins, call_done_walks, call_ends, call_host_by, call_instance, call_let_go, call_of_op, call_pending, call_queues, call_resumes, call_rule, call_settled, call_settles, call_status, call_status_by, call_sync_begins, call_sync_host_by, call_sync_host_rule, call_sync_host_stops, call_sync_rule, call_sync_status, call_sync_status_by, call_sync_stops, call_taken, call_with_handle, AskedBefore, ThreadWaits, CallbackYields, Callee, callee_of_op, CallEnd, Caller, caller_of, CallLabel, CallOp, calls_host, cancel_aborts_host, cancel_asks, cancel_by, cancel_by_end, cancel_case, cancel_ended_by, cancel_ended_rule, cancel_guest, cancel_guest_by, cancel_hands_of, cancel_label, cancel_promotes_yield, cancel_resumed, cancel_rule, cancel_stops, cancel_subtask, cancel_subtask_by, cancel_target, cancel_writes_of, CancelCase, cancelled_of_op, Cancelling, Cancels, checked, checked_shifts, Choice, chosen, chosen_of, CloseSet, Core, count_work, CountWork, Delivery, Doer, dropped, end_for, ended, EndsSubtask, EndTells, EndPrimitives, enter_runs, event_gone, event_of, export_kind, Failing, false, finds_nothing, finish, first_polled, FirstPoll, fits, free_handle, get, get-change, get-insert_same, get-remove, PickedEvent, picked_event, give_handle, given_out, Goal, Continues, Going, group_settled, Halt, halt_rule, halted, halted_at, halted_checked, halted_promoting, halted_resuming, halting, halting_by, halts, halts_by, handed_as, handed_by_cancel, handed_by_event, handed_on, handed_on_shifts, handed_out, hands_by, HandsAtOnce, HandsOut, has_ended, has_member, has_waiters, has_yielded, HasNoEnd, HasSubtask, heard_first, host_at, host_end, host_valued, host_with_handle, HostDef, HostPoll, op_progress_of, OpProgress, if◌then◌else◌, inl, inr, instance_of, is_async_lifted, is_async_work, is_callback_yield, is_calling_host, is_cancel, is_direct, is_ended_work, is_for_main, is_join, is_joined, is_open, is_other, is_ready_to_resume, is_script, is_some, is_stage_ended, is_sync_call, is_sync_cancel, is_sync_host_call, is_thread_op, is_wait, is_waiting_on, is_watched, is_yielded, IsNamed, IsNew, IsReadyAtOnce, Join, join, join_done, join_done_by, join_label, join_of, join_to, join_to_by, joined, joins, Keep, keep_stay, keep_still, Label, lands_at, Later, Leaves, List, MadeCounts, Main, makes_set, MakeThread, Mark, may, may_hand_on, may_wake_new, MayBeOpen, MayCancel, MayJoin, MayMakeCall, MayTake, PickedMember, Mode, Move, moved_over, moved_to, mute_primitives, NameCall, NameThread, NameWork, nat_tests, new_handle, new_thread, new_thread_handle, new_work, next_thread, next_work, NoAnswer, NothingPicked, None, none_said, not, NoPrimitive, on_call, on_instance, on_thread, on_work, OneEvent, OneNumber, Op, op_in, OpenSet, Option, option_and_then, option_map, option_map_or, OtherwiseRuns, TaskEvent, PickedTaskEvent, OwnScript, packed, passes_check, pauses, phase_of, Place, place_of, placed, placing_shifted, polled_first, Progress, Promote, promoted, promoted_unless, promoted_walks, push_high, Put, put_back, put_low, put_switch, queues_work, QueueWork, received, received_by, received_woken, received_woken_by, Records, refl, registers_for, registers_of, remove_group, remove_thread, remove_work, result_gone, result_of, resume_why, resumed_by, Resumes, returned_of_op, said_is, saved_callee_of, says, says_by, Scene, Script, set_at, set_cancelled, set_closed, set_do_not_suspend, set_end, set_event, set_op_progress, set_join, set_opened, set_task_event, set_phase, set_position, set_register, set_result, set_rule, set_saved_callee, set_subtask_handle, set_switch, SetCancelled, SetExited, SetLabel, SetOp, SetTaskEvent, SetPhase, SetRegister, SetResult, SetSavedCallee, Setting, settled, settled_gone, SetUninteresting, Shifted, shifted, shifted_after, shifted_calls, shifted_far, shifted_made, shifted_ready, shifted_task, Shifts, shifts_shifted, Slot, slot_at, Some, SomeHost, Stage, StartNotRun, Status, status_code, status_found, Stay, stay_walk, Stops, subst, Subtask, subtask_at, subtask_ended, subtask_handle, subtask_instance, subtask_rule, subtask_under_way, suc, Suspends, suspends, Suspension, sym, Sync, sync_answered, T, taken, TakesEvent, task_of, TellsLater, TellsNone, Then, then_promote, then_promote_by, scripted_then_promote_rule, then_promote_rule, then_resume_rule, Thread, thread_added, thread_at, thread_group, thread_handle_of, thread_new_rule, thread_rule, ThreadLabel, ThreadOp, Trap, trap_if, Trip, true, Turn, undelivered_end, UnnameCall, unnamed, UnnameWork, unwrap_or, value_of, values_in, wait_begins, wait_begins_by, wait_goes_on, wait_goes_on_by, wait_label, wait_rule, wait_stops, wait_stops_checked, wake_shifts, wakes_joined, Walk, was_cancelled, was_started, Why, with_handle, Withdraw, withdrawn, primitive, Work, work_caller_of, work_deleted, work_queued, work_value, WorkCaller, Writes, WritesAtOnce, WritesCall, WritesNever, WritesToo, written_as, written_by_cancel, Yielding, Yields, yields, zero, ℕ, ◌+◌, ◌==◌, ◌∙◌, ◌∷◌, ◌≡◌, ◌⊎◌, cancel_wakes}
use Rattle.machine_rules.proofs.{WalkParts.AtOps, WalkParts.answered_calls, WalkParts.answered_first, WalkParts.answered_fresh, WalkParts.answered_settled, WalkParts.answered_works, WalkParts.call_answers_walks, WalkParts.call_queues_walks, WalkParts.call_resumes_walks, WalkParts.call_stops_walks, WalkParts.cancel_goes_behind_walks, WalkParts.cancel_stops_walks, WalkParts.checked_walks, WalkParts.enter_gives, WalkParts.enter_runs_walks, WalkParts.event_taken_walks, WalkParts.finished_calls, WalkParts.finished_fresh, WalkParts.finished_works, WalkParts.picked_event_is, WalkParts.picked_event_none, WalkParts.join_walks, WalkParts.joined_ended, WalkParts.parted_answers_walks, WalkParts.parted_takes_walks, WalkParts.put_back_walks, WalkParts.received_walks, WalkParts.rejoined, WalkParts.stopped_walks, WalkParts.wait_stops_walks, WalkParts.withdrawn_walks, WalkParts.withdraws, WalkParts.work_deleted_walks, WalkTask.CanFinish, WalkTask.Leads, WalkTask.answered_walks, WalkTask.finished_walks, WalkTask.goes_on, WalkTask.goes_on_told, WalkTask.goes_over, WalkTask.is_plain, WalkTask.is_still, WalkTask.may_leads, WalkTask.or_never_leads, WalkTask.or_trap_leads, WalkTask.over_now, WalkTask.running_scene, WalkTask.stops_here, WalkTask.trap_if_leads, WalkTask.unnot}
use Rattle.std.specs.Prelude.{filter, ◌&&◌, ◌||◌}
use Rattle.machine_rules.specs.Allowed.{MayDeliver}
use Rattle.std.proofs.lemmas.Bool.{eqb-true}
use Rattle.machine_data.specs.Maps.{numbers}

-- ---- What the rules read

pub queued_caller : (f : WorkCaller) (host : HostDef) (group : Option ℕ) (t : Core) → work_caller_of (next_work t) (work_queued f host group t) ≡ f
unfolding work_queued push_high add_work count_work
queued_caller f host group t = ap (λ (o : Option Work). option_map_or (λ w. w.caller) o WorkCaller.Spawn) (get-insert_same t.works (t.made.works + 1) (new_work f host group))

queued_nameless : (f : WorkCaller) (host : HostDef) (group : Option ℕ) (t : Core) → subtask_handle (Subtask.Host (next_work t)) (work_queued f host group t) ≡ None
unfolding work_queued push_high add_work count_work
queued_nameless f host group t = ap (λ (o : Option Work). option_and_then (λ w. w.handle) o) (get-insert_same t.works (t.made.works + 1) (new_work f host group))

finished_caller : (d : Doer) (n v i : ℕ) (s : Core) → work_caller_of i (finish d n (OneNumber v) s) ≡ work_caller_of i s
finished_caller d n v i s = ap (λ (w : Records Work). option_map_or (λ (k : Work). k.caller) (get w i) WorkCaller.Spawn) (finished_works d n (OneNumber v) s)

-- a sync call of a host that doesn't go on polls it first
first_queues : (f : OpProgress) (r h : ℕ) → is_calling_host f ≡ false → queues_work f (Op.Call (CallOp.CallSyncHost r h)) ≡ true
first_queues (OpProgress.Calls (Subtask.Host i)) r h apart = absurd (cc)
first_queues f r h apart = refl

sync_queues : (o : Op) → is_sync_host_call o ≡ true → (f : OpProgress) → is_calling_host f ≡ false → queues_work f o ≡ true
sync_queues (Op.Call (CallOp.CallSyncHost r h)) is f apart = first_queues f r h apart
sync_queues o is f apart = absurd (cc)

-- whose a call is, and which handle names it, is as before once the op that was inside of it goes on
resumed_card : (d : Doer) (n v k : ℕ) (s : Core) → (caller_of k (answered_by d n v (call_resumes n k s)) ≡ caller_of k s) × (subtask_handle (Subtask.Guest k) (answered_by d n v (call_resumes n k s)) ≡ subtask_handle (Subtask.Guest k) s)
unfolding assigned advanced moved_to set_op_progress set_position on_thread set_register set_saved_callee call_resumes set_event on_call set_do_not_suspend on_instance
resumed_card (OwnScript r) n v k s = grind (arith, nat_tests, get-change)
resumed_card SomeHost n v k s = grind (arith, nat_tests, get-change)

-- the op is as far as it was while its strand stops
-- it has no event any more
resumed_open : (n k : ℕ) (s u : Core) → Shifted (checked (instance_of n s) (call_resumes n k s)) u → undelivered_end (event_of (Subtask.Guest k) u) ≡ None
unfolding call_resumes
resumed_open n k s u d =
    let same = shifted_calls (shifted_after (shifts_shifted (checked_shifts (instance_of n s) (call_resumes n k s))) d) in
    ap (λ (m : Records Call). undelivered_end (option_and_then (λ (c : Call). c.event) (get m k))) same ∙ event_gone (Subtask.Guest k) (put_back (saved_callee_of n s) (call_instance k s) s) (call_resumes n k s) refl refl

-- nor has a work that is new
queued_open : (f : WorkCaller) (host : HostDef) (group : Option ℕ) (t : Core) → undelivered_end (event_of (Subtask.Host (next_work t)) (work_queued f host group t)) ≡ None
unfolding work_queued push_high add_work count_work
queued_open f host group t = ap (λ (o : Option Work). undelivered_end (option_and_then (λ (w : Work). w.event) o)) (get-insert_same t.works (t.made.works + 1) (new_work f host group))

queued_unended : (f : WorkCaller) (host : HostDef) (group : Option ℕ) (t : Core) → is_ended_work (Subtask.Host (next_work t)) (work_queued f host group t) ≡ false
unfolding work_queued push_high add_work count_work
queued_unended f host group t = ap (λ (o : Option Work). is_stage_ended (option_map_or (λ (w : Work). w.stage) o Stage.Ended)) (get-insert_same t.works (t.made.works + 1) (new_work f host group))

resumed_far : (n k : ℕ) (s u : Core) → Shifted (checked (instance_of n s) (call_resumes n k s)) u → op_progress_of n u ≡ op_progress_of n s
unfolding call_resumes set_event on_call set_do_not_suspend on_instance
resumed_far n k s u d =
    let c = shifted_far (shifts_shifted (checked_shifts (instance_of n s) (call_resumes n k s))) n in let e = shifted_far d n in grind arith

deleted_gone : (i : ℕ) (s : Core) → get (work_deleted i s).works i ≡ None
unfolding work_deleted group_settled remove_group remove_work
deleted_gone i s = grind (arith, nat_tests, get-remove)

work_gone : (d : Doer) (n v i : ℕ) (s : Core) → get (finish d n (OneNumber v) (work_deleted i s)).works i ≡ None
work_gone d n v i s = ap (λ (w : Records Work). get w i) (finished_works d n (OneNumber v) (work_deleted i s)) ∙ deleted_gone i s

-- a thread that may be resumed later, or yields by callback, has an entry
ready_at : (o : Option Place) → (option_map_or is_ready_to_resume o false ≡ true) ⊎ (option_map_or is_callback_yield o false ≡ true) → (m : Mark) × ((w : Why) × (o ≡ Some (Place.Ready m w)))
ready_at (Some (Place.Ready m w)) e = (m, (w, refl))
ready_at None e = absurd (grind arith)
ready_at (Some _) e = absurd (grind arith)

-- ---- The rules

-- ---- The threads that a cancel may take

among_filter : (P : ℕ → Bool) (m : ℕ) (ns : List ℕ) → is_among m (filter P ns) ≡ true → P m ≡ true
among_filter P m [] there = absurd (cc)
among_filter P m (n ∷ ns) there = by (among_filter P m ns) (P n) refl there
  where
    at : (is_among m (filter P ns) ≡ true → P m ≡ true) → (b : Bool) → (m == n) ≡ b → P n ≡ true → (b || is_among m (filter P ns)) ≡ true → P m ≡ true
    at rest true same passes h = subst (λ (k : ℕ). P k ≡ true) (sym (eqb-true m n same)) passes
    at rest false same passes h = rest h

    by : (is_among m (filter P ns) ≡ true → P m ≡ true) → (b : Bool) → P n ≡ b → is_among m (if b then n ∷ filter P ns else filter P ns) ≡ true → P m ≡ true
    by rest true passes h = at rest (m == n) refl passes h
    by rest false fails h = rest h

callback_waits : (m : ℕ) (s : Core) → is_callback_waiter m s ≡ true → is_at m s is_waiting ≡ true
callback_waits m s is = by (place_of m s) is
  where
    by : (o : Option Place) → option_map_or waits_by_callback o false ≡ true → option_map_or is_waiting o false ≡ true
    by (Some (Place.Waiting x b)) h = refl
    by _ h = absurd (cc)

pub cancellable_waits : (k m : ℕ) (s : Core) → is_among m (cancellable k s) ≡ true → is_at m s is_waiting ≡ true
cancellable_waits k m s = by (waits_cancellable k s)
  where
    one : (b : Bool) → is_callback_waiter k s ≡ b → is_among m (if b then k ∷ [] else []) ≡ true → is_at m s is_waiting ≡ true
    one true is h = subst (λ (j : ℕ). is_at j s is_waiting ≡ true) (sym (eqb-true m k (grind (arith, h)))) (callback_waits k s is)
    one false is h = absurd (cc)

    by : (b : Bool) → is_among m (if b then waiting_in k s else waiting_callback k s) ≡ true → is_at m s is_waiting ≡ true
    by true h = (and_parts _ _ (among_filter (is_waiting_of k s) m (numbers s.threads) h)).1
    by false h = one (is_callback_waiter k s) refl h

-- ---- What a cancel's case says of the call

abbrev case_for : (ended started asked none yields : Bool) → CancelCase
case_for ended started asked none yields =
    if ended then AlreadyEnded else
    if not started then StartNotRun else
    if asked then AskedBefore else
    if not none then ThreadWaits else
    if yields then CallbackYields else OtherwiseRuns

unrun_case : (ended started asked none yields : Bool) → case_for ended started asked none yields ≡ StartNotRun → (ended ≡ false) × (started ≡ false)
unrun_case true b c d e is = absurd (cc)
unrun_case false false c d e is = (refl, refl)
unrun_case false true true d e is = absurd (cc)
unrun_case false true false false e is = absurd (cc)
unrun_case false true false true true is = absurd (cc)
unrun_case false true false true false is = absurd (cc)

yields_case : (ended started asked none yields : Bool) → case_for ended started asked none yields ≡ CallbackYields → yields ≡ true
yields_case true b c d e is = absurd (cc)
yields_case false false c d e is = absurd (cc)
yields_case false true true d e is = absurd (cc)
yields_case false true false false e is = absurd (cc)
yields_case false true false true true is = refl
yields_case false true false true false is = absurd (cc)

-- the call has begun, and hasn't ended
abbrev goes_further : CancelCase → Bool
goes_further AlreadyEnded = false
goes_further StartNotRun = false
goes_further _ = true

going_case : (ended started asked none yields : Bool) (x : CancelCase) → case_for ended started asked none yields ≡ x → goes_further x ≡ true → (ended ≡ false) × (started ≡ true)
going_case true b c d e x is goes = absurd (let bad : false ≡ true = ap (λ y. goes_further y) is ∙ goes in cc)
going_case false false c d e x is goes = absurd (let bad : false ≡ true = ap (λ y. goes_further y) is ∙ goes in cc)
going_case false true c d e x is goes = (refl, refl)

module _ (k : ℕ) (s : Core) where
  abbrev was_asked_before : Bool
  was_asked_before = is_second s.version && cancel_was_asked k s

  unrun_call : cancel_case k s ≡ StartNotRun → (has_ended k s ≡ false) × (was_started k s ≡ false)
  unrun_call is = unrun_case (has_ended k s) (was_started k s) was_asked_before (is_nil (cancellable k s)) (is_at k s is_callback_yield) is

  yielding_call : cancel_case k s ≡ CallbackYields → is_at k s is_callback_yield ≡ true
  yielding_call is = yields_case (has_ended k s) (was_started k s) was_asked_before (is_nil (cancellable k s)) (is_at k s is_callback_yield) is

  going_call : (x : CancelCase) → cancel_case k s ≡ x → goes_further x ≡ true → (has_ended k s ≡ false) × (was_started k s ≡ true)
  going_call x is goes = going_case (has_ended k s) (was_started k s) was_asked_before (is_nil (cancellable k s)) (is_at k s is_callback_yield) x is goes

module _ (d : Doer) (ops : ℕ → Op) (x : Setting) (main : Main) (s : Core) (n : ℕ) (l : Label) (next : Turn) (on : CanFinish d (running_scene ops x main s n l next) s n) where
  abbrev a : Scene
  a = running_scene ops x main s n l next

  at_ops : AtOps a s n
  at_ops t c = keep_still n refl c

  go : (k : Label) (t : Core) → is_still a t k ≡ true → Going a s n t → Leads a s (Continues k t n)
  go k t plain c = goes_on ops x main s n l next k t plain c

  stop : (k : Label) (t : Core) → is_still a t k ≡ true → (Leaves a n → Trip a s t) → Leads a s (Stops k t)
  stop k t plain c = stops_here ops x main s n l next k t plain c

  told : (k : Label) (t : Core) → is_plain s k ≡ true → (l ≡ k → EndPrimitives a t) → (l ≡ k → Going a s n t) → Leads a s (Continues k t n)
  told k t plain says c = goes_on_told ops x main s n l next k t plain (λ is to. says is) c

  -- the thread that has the answer is the running one
  one_answers : (m v : ℕ) (t : Core) → sync_answered (Label.Call (CallLabel.CallSync n v)) ≡ Some m → op_progress_of n t ≡ OpProgress.Fresh → op_progress_of m t ≡ OpProgress.Fresh
  one_answers m v t at done = subst (λ (j : ℕ). op_progress_of j t ≡ OpProgress.Fresh) (ap (λ (o : Option ℕ). unwrap_or o 0) at) done

  -- a host that is ready at once is handed out, too
  at_once_says : (k : Label) (t : Core) → written_as ops s k t ≡ host_end (next_work s) Status.Returned → handed_as ops main s k t ≡ host_end (next_work s) Status.Returned → is_other k ≡ true → IsReadyAtOnce a t (next_work s) → l ≡ k → EndPrimitives a t
  at_once_says k t w h other ready is =
      says_by a t is other (λ sub e says. said_is (λ d g. Writes a t d × EndTells a t d g) (sym w ∙ says) (WritesAtOnce (next_work s) ready, TellsLater (next_work s) Status.Returned))
      (λ sub e out. said_is (HandsOut a t) (sym h ∙ out) (HandsAtOnce (next_work s) ready (ap (λ (y : Label). written_as ops s y t) is ∙ w)))

  -- what an op on a set hands out is the member's event
  picked_event_out : (by : Bool) (y : ℕ) (ch : Choice) (g : PickedEvent) (u : Core) → picked_event by (task_of n s) y (chosen n ch s) s ≡ Some g → (sub : Subtask) (e : Status) → handed_by_event n s (handed_out ch s g) ≡ Some (end_for e sub) → HandsOut a (received_by d n g (handed_out ch s g) u) sub e
  picked_event_out by y ch g u h = given_out by n (task_of n s) y ch g (task_of n u) u h (finished_calls d n (OneEvent (handed_out ch s g)) (taken g (task_of n u) u)) (finished_works d n (OneEvent (handed_out ch s g)) (taken g (task_of n u) u))

  -- ---- Sets

  -- of threads that aren't taken only one that waits so takes Cancelled
  abbrev MayTakeCancelled : Bool → Type 0
  MayTakeCancelled by = by ≡ true → task_event_of (task_of n s) s ≡ Some TaskEvent.Cancelled → MayDeliver a (task_of n s)

  takes : (by : Bool) → MayTakeCancelled by → (y : ℕ) (ch : Choice) (g : PickedEvent) → picked_event by (task_of n s) y (chosen n ch s) s ≡ Some g → MayTake a (task_of n s) g
  takes by can y ch g e = picked_event_is a n by y ch g refl can e

  never_cancelled : MayTakeCancelled false
  never_cancelled f o = absurd (subst T (sym f) tt)

  waits_cancelled : is_wait (op_in a n) ≡ true → MayTakeCancelled (waits_cancellable (task_of n s) s)
  waits_cancelled can f o = (n, (refl, (refl, (inr (can, f), o))))

  wait_begins_leads : (h : ℕ) (ch : Choice) (y : ℕ) (b : Bool) → finds_nothing n y s ≡ b → is_wait (op_in a n) ≡ true → set_at (instance_of n s) h s ≡ Some y → Leads a s (wait_begins_by d n ch s y b)
  unfolding wait_stops_checked finds_nothing
  wait_begins_leads h ch y true nothing can named =
      trap_if_leads a s (not (passes_check (instance_of n s) s)) Trap.CannotBlockSyncTask _ (λ e.
      stop _ (wait_stops_checked n y s) refl (λ leave. wait_stops_walks n refl at_ops y can leave (BySetHandle h named) (shifted_ready (shifts_shifted (checked_shifts (instance_of n s) s)) y ∙ grind arith) (checked_walks n refl (instance_of n s) NoPrimitive)))
  wait_begins_leads h ch y false nothing can named =
      or_never_leads a s (picked_event (waits_cancellable (task_of n s) s) (task_of n s) y (chosen n ch s) s) _ (λ g e.
      told (Label.Set (SetLabel.Wait (handed_out ch s g) n)) (received_by d n g (handed_out ch s g) s) refl (λ is. hands_by a _ is refl refl (picked_event_out (waits_cancellable (task_of n s) s) y ch g s e)) (λ is. received_walks n refl d on g (handed_out ch s g) (takes (waits_cancellable (task_of n s) s) (waits_cancelled can) y ch g e) NoPrimitive))

  received_leads : is_wait (op_in a n) ≡ true → (y : ℕ) (ch : Choice) (g : PickedEvent) → picked_event (waits_cancellable (task_of n s) s) (task_of n s) y (chosen n ch s) s ≡ Some g → Leads a s (may (may_hand_on y g ch.woken s) (Continues (wait_label n (handed_out ch s g) ch.woken) (received_woken_by d n y ch.woken g (handed_out ch s g) s) n))
  received_leads can y ch g e =
      may_leads a s (may_hand_on y g ch.woken s) _ (λ may.
      let moves : Shifts s (handed_on y g ch.woken s) = handed_on_shifts y g ch.woken s may in
      told (wait_label n (handed_out ch s g) ch.woken) (received_woken_by d n y ch.woken g (handed_out ch s g) s) (grind arith)
      (says ch.woken)
      (λ is. received_walks n refl d on g (handed_out ch s g) (subst (λ (k : ℕ). MayTake a k g) (sym (shifted_task (shifts_shifted moves) n)) (takes (waits_cancellable (task_of n s) s) (waits_cancelled can) y ch g e)) (shifted moves NoPrimitive)))
    where
      -- only a wake that is handed on is shown
      says : (w : Option ℕ) → l ≡ wait_label n (handed_out ch s g) w → EndPrimitives a (received_woken_by d n y w g (handed_out ch s g) s)
      says (Some z) is = mute_primitives a _ is refl
      says None is = hands_by a _ is refl refl (picked_event_out (waits_cancellable (task_of n s) s) y ch g (handed_on y g None s) e)

  wait_goes_on_leads : (y : ℕ) (ch : Choice) (g : PickedEvent) → is_wait (op_in a n) ≡ true → op_progress_of n s ≡ OpProgress.Waits y → picked_event (waits_cancellable (task_of n s) s) (task_of n s) y (chosen n ch s) s ≡ Some g → Leads a s (wait_goes_on_by d n y ch s g)
  wait_goes_on_leads y ch NothingPicked can far e = stop _ (wait_stops n y s) refl (λ leave. wait_stops_walks n refl at_ops y can leave (ByWait far) (picked_event_none (waits_cancellable (task_of n s) s) (task_of n s) y (chosen n ch s) s e) NoPrimitive)
  wait_goes_on_leads y ch (PickedTaskEvent v) can far e = received_leads can y ch (PickedTaskEvent v) e
  wait_goes_on_leads y ch (PickedMember sub) can far e = received_leads can y ch (PickedMember sub) e

  wait_rule_leads : (h : ℕ) (ch : Choice) (f : OpProgress) → is_wait (op_in a n) ≡ true → op_progress_of n s ≡ f → Leads a s (wait_rule d n h ch s f)
  wait_rule_leads h ch (OpProgress.Waits y) can far = or_never_leads a s (picked_event (waits_cancellable (task_of n s) s) (task_of n s) y (chosen n ch s) s) _ (λ g e. wait_goes_on_leads y ch g can far e)
  wait_rule_leads h ch _ can far = or_trap_leads a s (set_at (instance_of n s) h s) Trap.BadHandle _ (λ y named. wait_begins_leads h ch y (finds_nothing n y s) refl can named)

  joined_walks : (sub : Subtask) (y w : Option ℕ) (o : Option Status) (t : Core) → t.threads ≡ s.threads → may_wake_new o y w s ≡ true → Keep a s t → Keep a s (wakes_joined o y w t)
  joined_walks sub (Some y) w (Some e) t same may c = shifted (wake_shifts y w t (λ m is. ap (λ (r : Records Thread). option_map_or (is_waiting_on y) (option_map (λ u. u.place) (get r m)) false) same ∙ chosen_of y w s may m is)) c
  joined_walks sub y w None t same may c = c
  joined_walks sub None w (Some e) t same may c = c

  join_done_leads : (sub : Subtask) (w y : Option ℕ) → (is_watched (join_of sub s) ≡ false → MayJoin a sub (joins y) s) → Leads a s (join_done_by d n sub w s y)
  unfolding moved_over set_join on_call on_work
  join_done_leads sub w y ok =
      trap_if_leads a s (is_watched (join_of sub s)) Trap.WaitableSyncAndAsync _ (λ e.
      may_leads a s (may_wake_new (event_of sub s) y w s) _ (λ may.
      go (join_label n w) (finish d n NoAnswer (moved_over sub y w s)) (grind arith) (finished_walks n refl d on NoAnswer (joined_walks sub y w (event_of sub s) (set_join sub (joins y) s) (grind arith) may (join_walks n refl sub (joins y) (ok e) NoPrimitive)))))

  join_to_leads : is_join (op_in a n) ≡ true → (h y : ℕ) (w : Option ℕ) (sub : Subtask) → subtask_at (instance_of n s) h s ≡ Some sub → Leads a s (join_to_by d n y w s sub)
  join_to_leads can h zero w sub named = join_done_leads sub w None (λ e. (n, (refl, (ByHandle h named, inl e))))
  join_to_leads can h (suc y) w sub named = or_trap_leads a s (set_at (instance_of n s) (suc y) s) Trap.BadHandle _ (λ z found. join_done_leads sub w (Some z) (λ e. (n, (h, (suc y, (refl, (named, (found, (e, (refl, can))))))))))

  pub set_rule_leads : (ch : Choice) (o : SetOp) → op_in a n ≡ Op.Set o → Leads a s (set_rule d n s ch o)
  unfolding set_opened set_closed
  set_rule_leads ch (SetOp.New r) is =
      trap_if_leads a s (not (fits 1 s)) Trap.TableFull _ (λ e.
      trap_if_leads a s (at_handle_limit s) Trap.HandleLimit _ (λ f.
      go _ (finish d n (OneNumber (new_handle (instance_of n s) s)) (set_opened n s)) refl (finished_walks n refl d on (OneNumber (new_handle (instance_of n s) s)) (primitive (OpenSet (instance_of n s)) (refl, (n, (refl, (refl, (refl, ap makes_set is))))) NoPrimitive))))
  set_rule_leads ch (SetOp.Drop v) is =
      or_trap_leads a s (set_at (instance_of n s) (value_of n s v) s) Trap.BadHandle _ (λ y named.
      trap_if_leads a s (has_waiters y s) Trap.WaitableSetDropHasWaiters _ (λ unwaited.
      trap_if_leads a s (has_member y s) Trap.TableHasChildren _ (λ empty_set.
      go _ (finish d n NoAnswer (set_closed n (value_of n s v) y s)) refl (λ to. finished_walks n refl d on NoAnswer (primitive (CloseSet (instance_of n s) (value_of n s v) y) (named, (unwaited, (empty_set, (n, (refl, (refl, (unwaited, (refl, (to, ap is_wait is))))))))) NoPrimitive) to))))
  set_rule_leads ch (SetOp.Wait r v) is = wait_rule_leads (value_of n s v) ch (op_progress_of n s) (ap is_wait is) refl
  set_rule_leads ch (SetOp.Poll r v) is =
      or_trap_leads a s (set_at (instance_of n s) (value_of n s v) s) Trap.BadHandle _ (λ y named.
      or_never_leads a s (picked_event false (task_of n s) y (chosen n ch s) s) _ (λ g e.
      told (Label.Set (SetLabel.Poll (handed_out ch s g) n)) (received_by d n g (handed_out ch s g) s) refl (λ is. hands_by a _ is refl refl (picked_event_out false y ch g s e)) (λ is. received_walks n refl d on g (handed_out ch s g) (takes false never_cancelled y ch g e) NoPrimitive)))
  set_rule_leads ch (SetOp.Join v y) is = or_trap_leads a s (subtask_at (instance_of n s) (value_of n s v) s) Trap.BadHandle _ (λ sub named. join_to_leads (ap is_join is) (value_of n s v) (value_of n s y) ch.woken sub named)

  -- ---- Calls

  calls : {e : Callee} → callee_of_op (op_in a n) ≡ Some e → is_some (callee_of_op (op_in a n)) ≡ true
  calls callee = ap (λ (o : Option Callee). is_some o) callee

  -- what its op calls
  makes_call : (e : Callee) (g : Goal) → callee_of_op (op_in a n) ≡ Some e → (is_direct g ≡ true → (is_async_lifted (export_kind x.component e) ≡ false) × (next ≡ Turn.Run (next_thread s))) → is_for_main g ≡ false → MayMakeCall a (Caller.Thread n) e (export_kind x.component e) g (thread_group n s) s
  makes_call e g callee lifted other = (ByThread n refl callee refl refl, (refl, (refl, (lifted, (other, (refl, refl))))))

  no_direct : {A : Type 0} → false ≡ true → A
  no_direct e = absurd (subst T (sym e) tt)

  call_begins_leads : (e : Callee) (g : Goal) (words : List ℕ) → callee_of_op (op_in a n) ≡ Some e → is_direct g ≡ false → is_for_main g ≡ false → Leads a s (call_begins x.component n e g words s)
  call_begins_leads e g words callee plain other =
      trap_if_leads a s (not (fits 3 s)) Trap.TableFull _ (λ f.
      stop _ (call_queues n e (export_kind x.component e) g words s) refl (λ leave. call_queues_walks n refl refl (calls callee) e (export_kind x.component e) g words leave (makes_call e g callee (λ d. no_direct (sym plain ∙ d)) other) plain))

  -- the op is done, and then the call that it was inside of is named
  named_walks : (d : Doer) → CanFinish d a s n → (k v : ℕ) → op_progress_of n s ≡ OpProgress.Calls (Subtask.Guest k) → (event_of (Subtask.Guest k) s ≡ Some Status.Returned → ⊥) → Going a s n (answered_by d n v (call_with_handle n k s))
  unfolding call_with_handle assigned advanced moved_to set_op_progress set_position on_thread set_register set_saved_callee with_handle set_subtask_handle give_handle on_call new_handle
  named_walks (OwnScript r) on k v far unreturned to = Then _ (NameCall (instance_of n s) k) (answered_walks n refl (OwnScript r) on v (call_resumes_walks n refl k far unreturned NoPrimitive) to) (n, (refl, (refl, (far, (answered_fresh (OwnScript r) n v (call_resumes n k s), resumed_card (OwnScript r) n v k s)))))
  named_walks SomeHost on k v far unreturned to = Then _ (NameCall (instance_of n s) k) (answered_walks n refl SomeHost on v (call_resumes_walks n refl k far unreturned NoPrimitive) to) (n, (refl, (refl, (far, (answered_fresh SomeHost n v (call_resumes n k s), resumed_card SomeHost n v k s)))))

  -- a status that is packed with a handle is no bare Returned
  call_still : (h : ℕ) (e : Status) (t : Core) → (e ≡ Status.Returned → ⊥) → (is_still a t (Label.Call (CallLabel.Call (packed h e) n)) ≡ true) × ((i : ℕ) → is_still a t (Label.Call (CallLabel.CallPolls (packed h e) n i)) ≡ true)
  call_still h e t other = (grind (arith, nat_tests), λ i. grind (arith, nat_tests))

  call_pending_leads : (k : ℕ) (e : Status) → (e ≡ Status.Returned → ⊥) → (event_of (Subtask.Guest k) s ≡ Some Status.Returned → ⊥) → op_progress_of n s ≡ OpProgress.Calls (Subtask.Guest k) → Leads a s (let v = packed (new_handle (instance_of n s) s) e in trap_if (at_handle_limit s) Trap.HandleLimit (Continues (Label.Call (CallLabel.Call v n)) (answered_by d n v (call_with_handle n k s)) n))
  call_pending_leads k e other unreturned far =
      trap_if_leads a s (at_handle_limit s) Trap.HandleLimit _ (λ f.
      let v = packed (new_handle (instance_of n s) s) e in
      go _ (answered_by d n v (call_with_handle n k s)) (call_still (new_handle (instance_of n s) s) e (answered_by d n v (call_with_handle n k s)) other).0
      (λ to. named_walks d on k v far unreturned to))

  -- the op is about a call that has returned
  returned_out : (k : ℕ) (t : Core) → op_progress_of n s ≡ OpProgress.Calls (Subtask.Guest k) → status_found k s ≡ Status.Returned → HasNoEnd (Subtask.Guest k) t → (sub : Subtask) (e : Status) → returned_of_op n s ≡ Some (end_for e sub) → HandsOut a t sub e
  returned_out k t far found gone sub e out = said_is (HandsOut a t) (sym (ap (λ (f : OpProgress). option_map (end_for Status.Returned) (call_of_op f)) far) ∙ out) (TakesEvent (Subtask.Guest k) Status.Returned (grind (arith, found)) gone)

  -- the op is done, and then the call that it was inside of may go
  done_walks : (v k : ℕ) (t : Core) → op_progress_of n s ≡ OpProgress.Calls (Subtask.Guest k) → Stay a s (answered_by d n v t) → Stay a s (answered_by d n v (call_settled k t))
  done_walks v k t far c =
      subst (λ (u : Core). Stay a s u) (answered_settled d n v k t)
      (call_done_walks k (λ gone. (gone, inr (n, (refl, (far, answered_fresh d n v t))))) c)

  call_status_leads : (k : ℕ) (e : Status) → op_progress_of n s ≡ OpProgress.Calls (Subtask.Guest k) → status_found k s ≡ e → Leads a s (call_status_by d n k s e)
  unfolding call_let_go call_resumes
  call_status_leads k Status.Returned far found =
      let t = answered_by d n 2 (call_let_go n k s) in
      told (Label.Call (CallLabel.Call 2 n)) t refl
      (λ is. hands_by a _ is refl refl (returned_out k t far found (settled_gone k (call_resumes n k s) t (answered_calls d n 2 (call_let_go n k s)) (event_gone (Subtask.Guest k) (put_back (saved_callee_of n s) (call_instance k s) s) (call_resumes n k s) refl refl))))
      (λ is to. done_walks 2 k (call_resumes n k s) far (call_answers_walks n refl d on 2 k far NoPrimitive to))
  call_status_leads k e far found = call_pending_leads k e (λ h. absurd (cc)) (λ h. absurd (grind arith)) far

  call_rule_leads : (q : ℕ) (e : Callee) (words : List ℕ) (f : OpProgress) → callee_of_op (op_in a n) ≡ Some e → op_progress_of n s ≡ f → Leads a s (call_rule d x.component n q e words s f)
  call_rule_leads q e words (OpProgress.Calls (Subtask.Guest k)) callee far = call_status_leads k (status_found k s) far refl
  call_rule_leads q e words _ callee far = call_begins_leads e (Goal.Register q) words callee refl refl

  -- the result is taken once the op is done
  taken_answers_walks : (d : Doer) → CanFinish d a s n → (v k : ℕ) → op_progress_of n s ≡ OpProgress.Calls (Subtask.Guest k) → next ≡ Turn.Run n → Stay a s (answered_by d n v (set_result k None (call_resumes n k s)))
  unfolding set_result on_call assigned advanced moved_to set_op_progress set_position on_thread set_register set_saved_callee call_resumes
  taken_answers_walks (OwnScript r) on v k far to = Then _ (SetResult k None) (call_answers_walks n refl (OwnScript r) on v k far NoPrimitive to) tt
  taken_answers_walks SomeHost on v k far to = Then _ (SetResult k None) (call_answers_walks n refl SomeHost on v k far NoPrimitive to) tt

  call_sync_status_leads : (k : ℕ) (e : Status) → is_some (callee_of_op (op_in a n)) ≡ true → op_progress_of n s ≡ OpProgress.Calls (Subtask.Guest k) → status_found k s ≡ e → Leads a s (call_sync_status_by d n k s e)
  unfolding call_taken call_resumes call_sync_stops
  call_sync_status_leads k Status.Returned can far found =
      let v = result_of k s in
      let t = answered_by d n v (call_taken n k s) in
      told (Label.Call (CallLabel.CallSync n v)) t refl
      (λ is. answers_by a _ is refl (λ m at. one_answers m v t at (answered_fresh d n v (call_taken n k s))) (returned_out k t far found (settled_gone k (set_result k None (call_resumes n k s)) t (answered_calls d n v (call_taken n k s)) (result_gone k (put_back (saved_callee_of n s) (call_instance k s) s)))))
      (λ is to. done_walks v k (set_result k None (call_resumes n k s)) far (taken_answers_walks d on v k far to))
  call_sync_status_leads k e can far found =
      trap_if_leads a s (not (passes_check (instance_of n s) (call_resumes n k s))) Trap.CannotBlockSyncTask _ (λ f.
      stop _ (call_sync_stops n k s) refl (λ leave. call_stops_walks n refl at_ops (Subtask.Guest k) (checked (instance_of n s) (call_resumes n k s)) can leave (λ u d. inl (ByOp (ap (λ h. subtask_under_way h) far))) (λ u d at. (refl, inl (far, resumed_far n k s u d ∙ far))) (λ u d. (resumed_open n k s u d, refl)) (checked_walks n refl (instance_of n s) (call_resumes_walks n refl k far (λ h. absurd (grind arith)) NoPrimitive))))

  call_sync_rule_leads : (e : Callee) (words : List ℕ) (f : OpProgress) → is_sync_call (op_in a n) ≡ true → callee_of_op (op_in a n) ≡ Some e → op_progress_of n s ≡ f → Leads a s (call_sync_rule d x.component n e words s f)
  call_sync_rule_leads e words (OpProgress.Answered v) sync callee far =
      told (Label.Call (CallLabel.CallSync n v)) (finish d n (OneNumber v) s) refl
      (λ is. answers_by a _ is refl (λ m at. one_answers m v (finish d n (OneNumber v) s) at (finished_fresh d n (OneNumber v) s)) (λ sub f out. none_said (ap (λ (h : OpProgress). option_map (end_for Status.Returned) (call_of_op h)) far) out))
      (λ is. finished_walks n refl d on (OneNumber v) NoPrimitive)
  call_sync_rule_leads e words (OpProgress.Calls (Subtask.Guest k)) sync callee far = call_sync_status_leads k (status_found k s) (calls callee) far refl
  call_sync_rule_leads e words _ sync callee far = by_lift (is_async_lifted (export_kind x.component e)) refl
    where
      by_lift : (b : Bool) → is_async_lifted (export_kind x.component e) ≡ b → Leads a s (call_sync_begins x.component n e words s b)
      by_lift true at = call_begins_leads e Goal.Answer words callee refl refl
      by_lift false at =
          trap_if_leads a s (not (fits 3 s)) Trap.TableFull _ (λ f.
          trap_if_leads a s (at_handle_limit s) Trap.HandleLimit _ (λ g.
          goes_over ops x main s n l next (Label.Call (CallLabel.Enters n (next_thread s))) (next_thread s) (enter_runs n e (export_kind x.component e) words s) refl (by_number (next_thread s) n _ (λ h. inl (ap (λ (i : ℕ). Turn.Run i) (sym h))) (λ h. inr (enter_gives n e (export_kind x.component e) words s h)))
          (λ is. mute_primitives a _ is refl)
          (λ is to. (enter_runs_walks n refl sync (calls callee) e (export_kind x.component e) words refl to (makes_call e Goal.Direct callee (λ d. (at, to)) refl), λ h. no_direct h))))

  -- ---- Calls of a host

  -- what is left of a host is open only where it is
  abbrev LeftBy : HostDef → FirstPoll → Type 0
  LeftBy host (AtOnce v) = Unit {0}
  LeftBy host Failing = Unit {0}
  LeftBy host (Later left) = is_open left ≡ true → is_open host ≡ true

  settled_left : (polls value : Option ℕ) → LeftBy (HostDef.Settled polls value) (polled_first polls value)
  settled_left None value = λ e. e
  settled_left (Some zero) None = tt
  settled_left (Some zero) (Some v) = tt
  settled_left (Some (suc p)) value = λ e. e

  open_left : (answer : HostPoll) → LeftBy HostDef.Open (heard_first answer)
  open_left HostPoll.Pending = λ e. e
  open_left (HostPoll.Value v) = tt
  open_left HostPoll.Failed = tt

  first_polled_leads : (host : HostDef) (next : FirstPoll → Progress) → ((f : FirstPoll) → LeftBy host f → Leads a s (next f)) → Leads a s (first_polled host next)
  first_polled_leads (HostDef.Settled polls value) next leads = leads (polled_first polls value) (settled_left polls value)
  first_polled_leads HostDef.Open next leads = λ answer. leads (heard_first answer) (open_left answer)

  call_host_leads : (d : Doer) → CanFinish d a s n → (q h : ℕ) (f : FirstPoll) → LeftBy (host_at x.component h) f → calls_host (op_in a n) ≡ true → Leads a s (call_host_by d n q s f)
  unfolding host_valued host_with_handle assigned advanced moved_to set_op_progress set_position on_thread set_register count_work work_queued push_high add_work
  call_host_leads (OwnScript r) on q h (AtOnce v) left calls =
      told (Label.Call (CallLabel.CallPolls 2 n (next_work s))) (finish (OwnScript r) n (OneNumber 2) (host_valued n q v s)) refl
      (λ is. at_once_says _ (finish (OwnScript r) n (OneNumber 2) (host_valued n q v s)) refl refl refl (refl, (refl, refl)) is)
      (λ is. finished_walks n refl (OwnScript r) on (OneNumber 2) (primitive (SetRegister n q v) tt (primitive CountWork refl NoPrimitive)))
  call_host_leads SomeHost on q h (AtOnce v) left calls =
      told (Label.Call (CallLabel.CallPolls 2 n (next_work s))) (finish SomeHost n (OneNumber 2) (host_valued n q v s)) refl
      (λ is. at_once_says _ (finish SomeHost n (OneNumber 2) (host_valued n q v s)) refl refl refl (refl, (refl, refl)) is)
      (λ is. finished_walks n refl SomeHost on (OneNumber 2) (primitive (SetRegister n q v) tt (primitive CountWork refl NoPrimitive)))
  call_host_leads d on q h Failing left calls = tt
  call_host_leads d on q h (Later host) left calls =
      let v = packed (new_handle (instance_of n s) s) Status.Started in
      trap_if_leads a s (not (fits 1 s)) Trap.TableFull _ (λ e.
      trap_if_leads a s (at_handle_limit s) Trap.HandleLimit _ (λ f.
      go _ (finish d n (OneNumber v) (host_with_handle n q host s)) ((call_still (new_handle (instance_of n s) s) Status.Started (finish d n (OneNumber v) (host_with_handle n q host s)) (λ h. absurd (cc))).1 (next_work s)) (finished_walks n refl d on (OneNumber v) (primitive (NameWork (instance_of n s) (next_work s)) ((n, (refl, (refl, inr (refl, refl)))), (ap (λ f. is_async_work f) (queued_caller (WorkCaller.Async n q) host (Some (thread_group n s)) s), queued_nameless (WorkCaller.Async n q) host (Some (thread_group n s)) s))
      (primitive (QueueWork (WorkCaller.Async n q) host (Some (thread_group n s))) (refl, ((refl, (refl, (refl, calls))), λ e. inl (h, left e))) NoPrimitive)))))

  host_stops_walks : (host : HostDef) → MayBeOpen a host → is_sync_host_call (op_in a n) ≡ true → queues_work (op_progress_of n s) (op_in a n) ≡ true → Leaves a n → Trip a s (call_sync_host_stops n host s)
  unfolding call_sync_host_stops work_queued push_high add_work count_work
  host_stops_walks host may can queues leave =
      let t = checked (instance_of n s) s in
      let h : Shifted s t = shifts_shifted (checked_shifts (instance_of n s) s) in
      let made : t.made.works ≡ s.made.works = ap (λ (d : MadeCounts). d.works) (shifted_made h) in
      let group = Some (thread_group n s) in
      let queued = work_queued (WorkCaller.Sync n) host group t in
      let new : (u : Core) → Shifted queued u → IsNew a (Subtask.Host (next_work s)) u = λ u d. (refl, ap (λ (m : MadeCounts). m.works) (shifted_made d) ∙ ap (λ (k : ℕ). k + 1) made) in
      let caller : (u : Core) → Shifted queued u → work_caller_of (next_work s) u ≡ WorkCaller.Sync n = λ u d. ap (λ (c : Core). work_caller_of (next_work s) c) (sym d.only) ∙ (ap (λ (k : ℕ). work_caller_of (k + 1) queued) (sym made) ∙ queued_caller (WorkCaller.Sync n) host group t) in
      call_stops_walks n refl at_ops (Subtask.Host (next_work s)) queued can leave (λ u d. inr (new u d)) (λ u d at. (refl, (new u d, (caller u d, at)))) (λ u d. (
        ap (λ (c : Core). undelivered_end (event_of (Subtask.Host (next_work s)) c)) (sym d.only) ∙ (ap (λ (k : ℕ). undelivered_end (event_of (Subtask.Host (k + 1)) queued)) (sym made) ∙ queued_open (WorkCaller.Sync n) host group t),
        ap (λ (c : Core). is_ended_work (Subtask.Host (next_work s)) c) (sym d.only) ∙ (ap (λ (k : ℕ). is_ended_work (Subtask.Host (k + 1)) queued) (sym made) ∙ queued_unended (WorkCaller.Sync n) host group t),
      ))
      (primitive (QueueWork (WorkCaller.Sync n) host group) (shifted_made h, ((refl, (refl, (refl, queues))), may)) (checked_walks n refl (instance_of n s) NoPrimitive))

  call_sync_host_leads : (d : Doer) → CanFinish d a s n → (h : ℕ) (f : FirstPoll) → LeftBy (host_at x.component h) f → is_sync_host_call (op_in a n) ≡ true → queues_work (op_progress_of n s) (op_in a n) ≡ true → Leads a s (call_sync_host_by d n s f)
  unfolding assigned advanced moved_to set_op_progress set_position on_thread set_register count_work
  call_sync_host_leads (OwnScript r) on h (AtOnce v) left can queues =
      told (Label.CallSyncPolls n v (next_work s)) (finish (OwnScript r) n (OneNumber v) (count_work s)) refl
      (λ is. at_once_says _ (finish (OwnScript r) n (OneNumber v) (count_work s)) refl refl refl (refl, (refl, refl)) is)
      (λ is. finished_walks n refl (OwnScript r) on (OneNumber v) (primitive CountWork refl NoPrimitive))
  call_sync_host_leads SomeHost on h (AtOnce v) left can queues =
      told (Label.CallSyncPolls n v (next_work s)) (finish SomeHost n (OneNumber v) (count_work s)) refl
      (λ is. at_once_says _ (finish SomeHost n (OneNumber v) (count_work s)) refl refl refl (refl, (refl, refl)) is)
      (λ is. finished_walks n refl SomeHost on (OneNumber v) (primitive CountWork refl NoPrimitive))
  call_sync_host_leads d on h Failing left can queues = tt
  call_sync_host_leads d on h (Later host) left can queues =
      trap_if_leads a s (not (fits 1 s)) Trap.TableFull _ (λ e.
      trap_if_leads a s (not (passes_check (instance_of n s) s)) Trap.CannotBlockSyncTask _ (λ f.
      stop _ (call_sync_host_stops n host s) refl (λ leave. host_stops_walks host (λ e. inl (h, left e)) can queues leave)))

  call_sync_host_rule_leads : (h : ℕ) (f : OpProgress) → is_sync_host_call (op_in a n) ≡ true → op_progress_of n s ≡ f → Leads a s (call_sync_host_rule d x.component n h s f)
  call_sync_host_rule_leads h (OpProgress.Calls (Subtask.Host i)) can far =
      let v = work_value i s in
      let t = finish d n (OneNumber v) (work_deleted i s) in
      told (Label.Call (CallLabel.CallSync n v)) t refl
      (λ is. answers_by a _ is refl (λ m at. one_answers m v t at (finished_fresh d n (OneNumber v) (work_deleted i s))) (λ sub f out. said_is (HandsOut a t) (sym (ap (λ (y : OpProgress). option_map (end_for Status.Returned) (call_of_op y)) far) ∙ out) (Answers n i refl far (work_gone d n v i s))))
      (λ is to. subst (λ (t : Core). Stay a s t) (answered_first d n v i s) (join (finished_walks n refl d on (OneNumber v) NoPrimitive to) (keep_stay (work_deleted_walks n refl i (n, (refl, (finished_caller d n v i s, inl (far, finished_fresh d n (OneNumber v) s)))) NoPrimitive))))
  call_sync_host_rule_leads h f can far =
      first_polled_leads (host_at x.component h) (call_sync_host_by d n s) (λ p left. call_sync_host_leads d on h p left can (rw far (sync_queues (op_in a n) can f refl)))

  -- ---- Cancels

  -- the subtask is in no set, or the op that cancels it goes on
  abbrev IsFree : Subtask → Type 0
  IsFree sub = (is_joined (join_of sub s) ≡ false) ⊎ (op_progress_of n s ≡ OpProgress.Cancels sub)

  -- the op is a cancel of that mode
  abbrev CancelOp : Mode → Type 0
  CancelOp Async = is_cancel (op_in a n) ≡ true
  CancelOp Sync = is_sync_cancel (op_in a n) ≡ true

  cancels : (mode : Mode) → CancelOp mode → is_cancel (op_in a n) ≡ true
  cancels Async by = by
  cancels Sync by = grind (arith, by)

  cancel_is : (mode : Mode) (v : ℕ) (t : Core) → (written_as ops s (cancel_label mode n v) t ≡ written_by_cancel ops n s v) × (handed_as ops main s (cancel_label mode n v) t ≡ handed_by_cancel ops n s v)
  cancel_is mode v t = (grind arith, grind arith)

  -- the end that a cancel says is written is that of a withdrawn start
  cancel_tells : (t : Core) (v : ℕ) (to : Subtask) (f : Status) → written_by_cancel ops n s v ≡ Some (end_for f to) → EndTells a t to f
  cancel_tells t v to f says = rw (withdrawn_status (v == 3) (cancelled_of_op ops n s (op_progress_of n s)) says) (TellsNone to)
    where
      withdrawn_status : (b : Bool) (o : Option Subtask) → (if b then option_map (end_for Status.StartCancelled) o else None) ≡ Some (end_for f to) → f ≡ Status.StartCancelled
      withdrawn_status b o h = grind arith

  -- a cancel that takes an end of its subtask
  cancel_says : (mode : Mode) (sub : Subtask) (t : Core) (e : Status) → cancelled_of_op ops n s (op_progress_of n s) ≡ Some sub → undelivered_end (event_of sub s) ≡ Some e → l ≡ cancel_label mode n (status_code e) → EndPrimitives a (answered_by d n (status_code e) (set_event sub None t))
  cancel_says mode sub t e target found is =
      let o = cancelled_of_op ops n s (op_progress_of n s) in
      let v = status_code e in
      let u = answered_by d n v (set_event sub None t) in
      says_by a u is (grind arith)
      (λ to f says.
      let q = cancel_writes_of sub to f o target e (sym (cancel_is mode v u).0 ∙ says) in
      (WritesNever to (subst (λ (b : Subtask). undelivered_end (event_of b s) ≡ Some Status.StartCancelled) q.0 (found ∙ ap (λ (g : Status). Some g) q.1)), cancel_tells u v to f (sym (cancel_is mode v u).0 ∙ says)))
      (λ to f out.
      let q = cancel_hands_of sub to f o target e (sym (cancel_is mode v u).1 ∙ out) in
      subst (λ (b : Subtask). HandsOut a u b f) q.0 (TakesEvent sub f (found ∙ ap (λ (g : Status). Some g) q.1) (event_gone sub t u (answered_calls d n v (set_event sub None t)) (answered_works d n v (set_event sub None t)))))

  cancel_ended_rule_leads : (mode : Mode) (sub : Subtask) (t : Core) (o : Option Status) → cancelled_of_op ops n s (op_progress_of n s) ≡ Some sub → undelivered_end (event_of sub s) ≡ o → MayCancel a n sub → Keep a s t → Leads a s (cancel_ended_by d mode n sub t o)
  cancel_ended_rule_leads mode sub t None target found has c = tt
  cancel_ended_rule_leads mode sub t (Some e) target found has c = told (cancel_label mode n (status_code e)) (answered_by d n (status_code e) (set_event sub None t)) (grind arith) (λ is. cancel_says mode sub t e target found is) (λ is. answered_walks n refl d on (status_code e) (event_taken_walks n refl sub has c))

  cancel_by_end_leads : (mode : Mode) (sub : Subtask) (t : Core) (b : Bool) → CancelOp mode → cancelled_of_op ops n s (op_progress_of n s) ≡ Some sub → event_of sub t ≡ event_of sub s → join_of sub t ≡ join_of sub s → MayCancel a n sub → IsFree sub → subtask_ended sub t ≡ b → Keep a s t → Leads a s (cancel_by d mode n sub t b)
  cancel_by_end_leads mode sub t true by target same joined has free over c = cancel_ended_rule_leads mode sub t (undelivered_end (event_of sub t)) target (ap (λ o. undelivered_end o) (sym same)) has c
  cancel_by_end_leads Async sub t false by target same joined has free over c = go (cancel_label Async n blocked_code) (answered_by d n blocked_code t) refl (answered_walks n refl d on blocked_code c)
  cancel_by_end_leads Sync sub t false by target same joined has free over c =
      trap_if_leads a s (not (passes_check (instance_of n t) t)) Trap.CannotBlockSyncTask _ (λ e.
      stop (pauses n) (cancel_stops n sub t) refl (λ leave. cancel_stops_walks n refl at_ops sub joined by leave has free over c))

  -- one that goes on: the subtask leaves the thread's own set once the op is done
  parted_ended_leads : (mode : Mode) (sub : Subtask) (t : Core) (o : Option Status) → cancelled_of_op ops n s (op_progress_of n s) ≡ Some sub → undelivered_end (event_of sub s) ≡ o → Cancelling a n sub → join_of sub t ≡ join_of sub s → Keep a s t → Leads a s (cancel_ended_by d mode n sub (set_join sub Join.Nowhere t) o)
  parted_ended_leads mode sub t None target found far joined c = tt
  parted_ended_leads mode sub t (Some e) target found far joined c =
      let u = set_join sub Join.Nowhere t in
      told (cancel_label mode n (status_code e)) (answered_by d n (status_code e) (set_event sub None u)) (grind arith) (λ is. cancel_says mode sub u e target found is) (λ is. parted_takes_walks n refl d on (status_code e) sub far joined c)

  parted_leads : (mode : Mode) (sub : Subtask) (t : Core) (b : Bool) → CancelOp mode → cancelled_of_op ops n s (op_progress_of n s) ≡ Some sub → event_of sub (set_join sub Join.Nowhere t) ≡ event_of sub s → join_of sub t ≡ join_of sub s → Cancelling a n sub → IsFree sub → subtask_ended sub (set_join sub Join.Nowhere t) ≡ b → Keep a s t → Leads a s (cancel_by d mode n sub (set_join sub Join.Nowhere t) b)
  parted_leads mode sub t true by target same joined far free over c =
      parted_ended_leads mode sub t (undelivered_end (event_of sub (set_join sub Join.Nowhere t))) target (ap (λ o. undelivered_end o) (sym same)) far joined c
  parted_leads Async sub t false by target same joined far free over c =
      go (cancel_label Async n blocked_code) (answered_by d n blocked_code (set_join sub Join.Nowhere t)) refl (parted_answers_walks n refl d on blocked_code sub far joined c)
  parted_leads Sync sub t false by target same joined far free over c =
      let u = set_join sub Join.Nowhere t in
      trap_if_leads a s (not (passes_check (instance_of n u) u)) Trap.CannotBlockSyncTask _ (λ e.
      stop (pauses n) (cancel_stops n sub u) refl (λ leave. subst (λ (v : Core). Trip a s v) (sym (rejoined n sub t)) (cancel_stops_walks n refl at_ops sub joined by leave (inr far) free (sym (joined_ended sub Join.Nowhere t) ∙ over) c)))

  asked_behind : (k : ℕ) (t : Core) (j f : ℕ) → place_of j (cancel_asks k t) ≡ Some (Place.Behind f) → place_of j t ≡ Some (Place.Behind f)
  unfolding cancel_asks set_task_event set_cancel_asked on_call
  asked_behind k t j f at = at

  asks_walks : (k h : ℕ) → subtask_at (instance_of n s) h s ≡ Some (Subtask.Guest k) → (has_ended k s ≡ false) × (was_started k s ≡ true) → Keep a s (cancel_asks k s)
  unfolding cancel_asks
  asks_walks k h named says = primitive (SetCancelAsked k) tt (primitive (SetTaskEvent k (Some TaskEvent.Cancelled)) (inl (refl, ((n, (h, (refl, named))), (says.1, says.0)))) NoPrimitive)

  withdrawn_low : (d : Doer) → CanFinish d a s n → (k : ℕ) (e : CallEnd) → CanFinish d a (call_ends k e (after_primitive (Withdraw k) s)) n
  unfolding on_call remove_thread
  withdrawn_low (OwnScript r) on k e = (refl, let b = on.1 in grind (arith, nat_tests, get-remove, b))
  withdrawn_low SomeHost on k e = (refl, record { made = on.1.made; position = λ there. let p = on.1.position in grind (arith, nat_tests, get-remove, there, p) })

  -- a start that is withdrawn is an end, and handed out
  withdraw_says : (mode : Mode) (k : ℕ) → next ≡ Turn.Run n → l ≡ cancel_label mode n 3 → cancelled_of_op ops n s (op_progress_of n s) ≡ Some (Subtask.Guest k) → IsNamed a (Subtask.Guest k) → has_ended k s ≡ false → EndPrimitives a (answered_by d n 3 (withdrawn k s))
  unfolding withdrawn remove_thread set_end
  withdraw_says mode k to at target named unended =
      let t = answered_by d n 3 (withdrawn k s) in
      let v : Core = after_primitive (Withdraw k) s in
      let u : Core = call_ends k CallEnd.StartCancelled v in
      let rest : Walk a u t = subst (λ (w : Core). Walk a (call_ends k CallEnd.StartCancelled w) t) (sym (withdraws k s)) (stay_walk (answered_walks n refl d (subst (λ (w : Core). CanFinish d a (call_ends k CallEnd.StartCancelled w) n) (withdraws k s) (withdrawn_low d on k CallEnd.StartCancelled)) 3 (primitive (SetUninteresting k) tt (primitive (SetExited k) tt NoPrimitive)) to)) in
      says_by a t at (grind arith)
      (λ to f says. said_is (λ b g. Writes a t b × EndTells a t b g) (sym ((cancel_is mode 3 t).0 ∙ ap (option_map (end_for Status.StartCancelled)) target) ∙ says) (WritesCall k u (EndsSubtask named unended) (over_now k CallEnd.StartCancelled v) rest, TellsNone (Subtask.Guest k)))
      (λ to f out. said_is (HandsOut a t) (sym ((cancel_is mode 3 t).1 ∙ ap (option_map (end_for Status.StartCancelled)) target) ∙ out) (WritesToo k Status.StartCancelled (ap (λ (y : Label). written_as ops s y s) at ∙ ((cancel_is mode 3 s).0 ∙ ap (option_map (end_for Status.StartCancelled)) target)) (inr refl)))

  put_stands : (m : ℕ) (w : Why) (t : Core) → is_some (put_switch m w t).queues.switch ≡ true
  unfolding put_switch set_switch
  put_stands m w t = refl

  promoted_stands : (m : ℕ) (t : Core) → is_some (promoted_unless m t).queues.switch ≡ true
  unfolding promoted_unless promoted set_switch
  promoted_stands m t = grind arith

  promoted_join : (m k : ℕ) (t : Core) → join_of (Subtask.Guest k) (promoted_unless m t) ≡ join_of (Subtask.Guest k) t
  unfolding promoted_unless
  promoted_join m k t = by (is_some t.queues.switch)
    where
      by : (b : Bool) → join_of (Subtask.Guest k) (if b then t else promoted m t) ≡ join_of (Subtask.Guest k) t
      by true = refl
      by false = ap (λ u. option_map_or (λ c. c.join) (get u k) Join.Nowhere) (shifted_calls (placing_shifted (Promote m) t))

  cancel_guest_leads : (mode : Mode) (h k : ℕ) (y : CancelCase) → CancelOp mode → cancelled_of_op ops n s (op_progress_of n s) ≡ Some (Subtask.Guest k) → cancel_case k s ≡ y → subtask_at (instance_of n s) h s ≡ Some (Subtask.Guest k) → is_joined (join_of (Subtask.Guest k) s) ≡ false → Leads a s (cancel_guest_by d mode n k s y)
  unfolding cancel_wakes cancel_promotes_yield cancel_asks set_task_event set_cancel_asked on_call
  cancel_guest_leads mode h k AlreadyEnded by target is named free = cancel_ended_rule_leads mode (Subtask.Guest k) s (undelivered_end (event_of (Subtask.Guest k) s)) target refl (inl (h, named)) NoPrimitive
  cancel_guest_leads mode h k StartNotRun by target is named free =
      let says = unrun_call k s is in
      goes_on_told ops x main s n l next (cancel_label mode n 3) (answered_by d n 3 (withdrawn k s)) (grind arith)
      (λ at to. withdraw_says mode k to at target (n, (h, (refl, named))) says.0)
      (λ at. answered_walks n refl d on 3 (withdrawn_walks n refl k (n, (refl, ((n, (h, (refl, named))), (says.1, (says.0, (refl, says.1)))))) (λ j f behind. behind) (ap (λ (y : Label). written_as ops s y s) at ∙ ((cancel_is mode 3 s).0 ∙ ap (option_map (end_for Status.StartCancelled)) target)) NoPrimitive))
  cancel_guest_leads mode h k AskedBefore by target is named free = tt
  cancel_guest_leads mode h k ThreadWaits by target is named free = λ m among.
      let asks = asks_walks k h named (going_call k s ThreadWaits is refl) in
      let w = cancel_why (is_callback_waiter m s) in
      stop (pauses n) (cancel_wakes n k m s) refl (λ leave. cancel_goes_behind_walks n refl at_ops k (put_stands m w (cancel_asks k s)) (ap (λ y. option_map_or (λ c. c.join) (get y k) Join.Nowhere) (shifted_calls (placing_shifted (Put Mark.Switch m w) (cancel_asks k s))) ∙ grind (arith, nat_tests, get-change)) (cancels mode by) leave (inl (h, named)) free
      (placed (Put Mark.Switch m w) (inr (Cancels (cancellable_waits k m s among) refl, ((n, refl), asked_behind k s))) asks))
  cancel_guest_leads mode h k CallbackYields by target is named free =
      let asks = asks_walks k h named (going_call k s CallbackYields is refl) in
      stop (pauses n) (cancel_promotes_yield n k s) refl (λ leave. cancel_goes_behind_walks n refl at_ops k (promoted_stands k (cancel_asks k s)) (promoted_join k k (cancel_asks k s) ∙ grind (arith, nat_tests, get-change)) (cancels mode by) leave (inl (h, named)) free
      (promoted_walks n k refl (ready_at (place_of k s) (inr (yielding_call k s is))) asks))
  cancel_guest_leads mode h k OtherwiseRuns by target is named free = cancel_by_end_leads mode (Subtask.Guest k) (cancel_asks k s) (subtask_ended (Subtask.Guest k) (cancel_asks k s)) by target (grind (arith, nat_tests, get-change)) (grind (arith, nat_tests, get-change)) (inl (h, named)) (inl free) refl (asks_walks k h named (going_call k s OtherwiseRuns is refl))

  cancel_subtask_leads : (mode : Mode) (h : ℕ) (sub : Subtask) → CancelOp mode → cancelled_of_op ops n s (op_progress_of n s) ≡ Some sub → subtask_at (instance_of n s) h s ≡ Some sub → is_joined (join_of sub s) ≡ false → Leads a s (cancel_subtask_by d mode n s sub)
  unfolding cancel_aborts_host set_cancelled set_phase on_work
  cancel_subtask_leads mode h (Subtask.Guest k) by target named free = cancel_guest_leads mode h k (cancel_case k s) by target refl named free
  cancel_subtask_leads mode h (Subtask.Host i) by target named free =
      let has : HasSubtask a n (Subtask.Host i) = ByHandle h named in
      trap_if_leads a s (was_cancelled i s) Trap.SubtaskCancelAfterTerminal _ (λ e.
      cancel_by_end_leads mode (Subtask.Host i) (cancel_aborts_host i s) (subtask_ended (Subtask.Host i) (cancel_aborts_host i s)) by target (grind (arith, nat_tests, get-change)) (grind (arith, nat_tests, get-change)) (inl (h, named)) (inl free) refl (primitive (SetCancelled i) (n, (refl, has)) (primitive (SetPhase i (aborted_phase (phase_of i s))) (AbortsOwn (n, (h, (refl, named))), refl) NoPrimitive)))

  cancel_rule_leads : (mode : Mode) (h : ℕ) (f : OpProgress) → CancelOp mode → cancel_target n s (ops n) ≡ subtask_at (instance_of n s) h s → op_progress_of n s ≡ f → Leads a s (cancel_rule d mode n h s f)
  unfolding cancel_resumed set_join on_call on_work set_saved_callee on_thread set_do_not_suspend on_instance
  cancel_rule_leads mode h (OpProgress.Cancels sub) by target far =
      let has : HasSubtask a n sub = ByOp (ap (λ y. subtask_under_way y) far) in
      let t = set_saved_callee n None (put_back (saved_callee_of n s) (subtask_instance sub s) s) in
      parted_leads mode sub t (subtask_ended sub (set_join sub Join.Nowhere t)) by (ap (cancelled_of_op ops n s) far) (grind (arith, nat_tests, get-change)) (grind (arith, nat_tests, get-change)) (inl far) (inr far) refl
      (primitive (SetSavedCallee n None) tt (put_back_walks n refl (saved_callee_of n s) (subtask_instance sub s) NoPrimitive))
  cancel_rule_leads mode h (OpProgress.AwaitsEnd sub) by target far =
      parted_ended_leads mode sub s (undelivered_end (event_of sub (set_join sub Join.Nowhere s))) (ap (cancelled_of_op ops n s) far) (grind (arith, nat_tests, get-change)) (inr far) refl NoPrimitive
  cancel_rule_leads mode h f by target far =
      or_trap_leads a s (subtask_at (instance_of n s) h s) Trap.BadHandle _ (λ sub named.
      trap_if_leads a s (is_joined (join_of sub s)) Trap.WaitableSyncAndAsync _ (λ free.
      cancel_subtask_leads mode h sub by (ap (cancelled_of_op ops n s) far ∙ (target ∙ named)) named free))

  -- ---- Dropping

  dropped_walks : (h : ℕ) (sub : Subtask) → subtask_at (instance_of n s) h s ≡ Some sub → subtask_ended sub s ≡ true → is_watched (join_of sub s) ≡ false → Going a s n (finish d n NoAnswer (unnamed n h sub s))
  unfolding unnamed set_join on_call on_work free_handle set_subtask_handle
  dropped_walks h (Subtask.Guest k) named ended apart =
      let sub = Subtask.Guest k in
      let t = set_join sub Join.Nowhere s in
      λ to. finished_walks n refl d on NoAnswer (settled (call_settles k _ (λ gone. grind (arith, nat_tests, get-change, ended))) (primitive (UnnameCall (instance_of n s) h k) (n, (refl, (refl, (named, (grind (arith, nat_tests, get-change), to))))) (join_walks n refl sub Join.Nowhere (n, (refl, (ByHandle h named, inl apart))) NoPrimitive))) to
  dropped_walks h (Subtask.Host i) named ended apart =
      let sub = Subtask.Host i in
      let t = set_join sub Join.Nowhere s in
      λ to. finished_walks n refl d on NoAnswer (work_deleted_walks n refl i (n, (refl, (grind (arith, nat_tests, get-change), inr (ended, (grind (arith, nat_tests, get-change), (grind (arith, nat_tests, get-change, ended), (h, named)))))))
      (primitive (UnnameWork (instance_of n s) h i) (n, (refl, (refl, (named, (grind (arith, nat_tests, get-change), to))))) (join_walks n refl sub Join.Nowhere (n, (refl, (ByHandle h named, inl apart))) NoPrimitive))) to

  pub subtask_rule_leads : (o : CallOp) → op_in a n ≡ Op.Call o → Leads a s (subtask_rule d x.component n s o)
  subtask_rule_leads (CallOp.Call r q e xs) is = call_rule_leads q e (values_in (registers_of n s) xs) (op_progress_of n s) (ap (λ p. callee_of_op p) is) refl
  subtask_rule_leads (CallOp.CallSync r e xs) is = call_sync_rule_leads e (values_in (registers_of n s) xs) (op_progress_of n s) (ap is_sync_call is) (ap (λ p. callee_of_op p) is) refl
  subtask_rule_leads (CallOp.CallHost r q h) is = first_polled_leads (host_at x.component h) (call_host_by d n q s) (λ p left. call_host_leads d on q h p left (ap calls_host is))
  subtask_rule_leads (CallOp.CallSyncHost r h) is = call_sync_host_rule_leads h (op_progress_of n s) (ap is_sync_host_call is) refl
  subtask_rule_leads (CallOp.Cancel r v) is = cancel_rule_leads Async (value_of n s v) (op_progress_of n s) (ap is_cancel is) (ap (cancel_target n s) is) refl
  subtask_rule_leads (CallOp.CancelSync r v) is = cancel_rule_leads Sync (value_of n s v) (op_progress_of n s) (ap is_sync_cancel is) (ap (cancel_target n s) is) refl
  subtask_rule_leads (CallOp.Drop v) is =
      or_trap_leads a s (subtask_at (instance_of n s) (value_of n s v) s) Trap.BadHandle _ (λ sub named.
      trap_if_leads a s (is_watched (join_of sub s)) Trap.WaitableSyncAndAsync _ (λ e.
      trap_if_leads a s (not (subtask_ended sub s)) Trap.SubtaskDropNotResolved _ (λ ended.
      trap_if_leads a s (is_some (event_of sub s)) Trap.SubtaskDropNotResolved _ (λ f.
      go _ (finish d n NoAnswer (unnamed n (value_of n s v) sub s)) refl (dropped_walks (value_of n s v) sub named (unnot (subtask_ended sub s) ended) e)))))

  -- ---- Threads

  thread_new_rule_leads : (y v : ℕ) (z : Slot) → slot_at x.component (instance_of n s) y ≡ z → Leads a s (thread_new_rule d n y v s z)
  unfolding thread_added
  thread_new_rule_leads y v Slot.Empty at = tt
  thread_new_rule_leads y v Slot.Bad at = tt
  thread_new_rule_leads y v (Slot.Script ops) at =
      trap_if_leads a s (not (fits 2 s)) Trap.TableFull _ (λ e.
      trap_if_leads a s (at_handle_limit s) Trap.HandleLimit _ (λ f.
      go _ (finish d n (OneNumber (new_thread_handle (instance_of n s) s)) (thread_added n y v s)) refl (finished_walks n refl d on (OneNumber (new_thread_handle (instance_of n s) s)) (primitive (NameThread (instance_of n s) (next_thread s)) tt
      (primitive (MakeThread (new_thread (task_of n s) true (Script.Slot y) (registers_for (v ∷ [])) None)) (n, (refl, (refl, (y, (v, (refl, (refl, (ap is_script at, refl)))))))) NoPrimitive)))))

  -- the op halts so
  abbrev HaltOp : Halt → Type 0
  HaltOp Suspension = is_thread_op suspends (op_in a n) ≡ true
  HaltOp Yielding = is_thread_op yields (op_in a n) ≡ true

  halted_walks : (h : Halt) (t : Core) → HaltOp h → Leaves a n → Keep a s t → Trip a s (halted h n t)
  unfolding halted
  halted_walks Suspension t by leave c = lands_at (Move n Place.Suspended) n OpProgress.Suspends refl (Suspends leave refl) refl (at_ops _ (stopped_walks n refl t leave c)) by (halted_at n c) (stopped_walks n refl t leave c)
  halted_walks Yielding t by leave c = lands_at (Put Mark.Low n Why.Resumption) n OpProgress.Yields refl (Yields leave refl) refl (at_ops _ (stopped_walks n refl t leave c)) by tt (stopped_walks n refl t leave c)

  halts_leads : (h : Halt) (k : ThreadLabel) (b : Bool) → HaltOp h → Leads a s (halts_by d h n (Label.Thread k) s b)
  unfolding halted_checked
  halts_leads h k true by = stop (pauses n) (halted_checked h n s) refl (λ leave. halted_walks h (checked (instance_of n s) s) by leave (checked_walks n refl (instance_of n s) NoPrimitive))
  halts_leads Suspension k false by = tt
  halts_leads Yielding k false by = go (Label.Thread k) (finish d n NoAnswer s) refl (finished_walks n refl d on NoAnswer NoPrimitive)

  then_resume_rule_leads : (y : Halt) (h : ℕ) → HaltOp y → Leads a s (then_resume_rule y n h s)
  unfolding halted_resuming
  then_resume_rule_leads y h halts =
      or_trap_leads a s (thread_at (instance_of n s) h s) Trap.BadHandle _ (λ m named.
      trap_if_leads a s (m == n) Trap.CannotResumeThread _ (λ other.
      or_trap_leads a s (resume_why m s) Trap.CannotResumeThread _ (λ w by.
      stop (pauses n) (halted_resuming y n m w s) refl (λ leave. halted_walks y (put_switch m w s) halts leave (placed (Put Mark.Switch m w) (inr (Resumes by, ((n, refl), λ j f at. at))) NoPrimitive)))))

  then_promote_leads : (y : Halt) (k : ThreadLabel) (m : ℕ) (b : Bool) → HaltOp y → has_yielded m s ≡ b → Leads a s (then_promote_by d y n (Label.Thread k) s m b)
  unfolding halted_promoting has_yielded
  then_promote_leads y k m true by at =
      let ready = and_parts (option_map_or is_ready_to_resume (place_of m s) false) (is_yielded (op_progress_of m s)) at in
      stop (pauses n) (halted_promoting y n m s) refl (λ leave. halted_walks y (promoted_unless m s) by leave (promoted_walks n m refl (ready_at (place_of m s) (inl ready.0)) NoPrimitive))
  then_promote_leads y k m false by at = halts_leads y k (passes_check (instance_of n s) s) by

  then_promote_rule_leads : (y : Halt) (h : ℕ) (k : ThreadLabel) → HaltOp y → Leads a s (then_promote_rule d y n h (Label.Thread k) s)
  then_promote_rule_leads y h k by =
      or_trap_leads a s (thread_at (instance_of n s) h s) Trap.BadHandle _ (λ m named.
      trap_if_leads a s (m == n) Trap.CannotResumeThread _ (λ other.
      then_promote_leads y k m (has_yielded m s) by refl))

  -- an op that halted goes on
  halting_leads : (k : ThreadLabel) (row : Label → Progress) → Leads a s (row (Label.Thread k)) → Leads a s (halting_by d n s k row)
  halting_leads k row leads = by_far (op_progress_of n s)
    where
      by_far : (f : OpProgress) → Leads a s (resumed_by d f n (Label.Thread k) s (row (Label.Thread k)))
      by_far OpProgress.Suspends = go (Label.Thread k) (finish d n NoAnswer s) refl (finished_walks n refl d on NoAnswer NoPrimitive)
      by_far OpProgress.Yields = go (Label.Thread k) (finish d n NoAnswer s) refl (finished_walks n refl d on NoAnswer NoPrimitive)
      by_far f = leads

  pub thread_rule_leads : (o : ThreadOp) → op_in a n ≡ Op.Thread o → Leads a s (thread_rule d x.component n s o)
  thread_rule_leads (ThreadOp.New r y v) is = thread_new_rule_leads y (value_of n s v) (slot_at x.component (instance_of n s) y) refl
  thread_rule_leads (ThreadOp.Index r) is = go _ (finish d n (OneNumber (unwrap_or (thread_handle_of n s) 0)) s) refl (finished_walks n refl d on (OneNumber (unwrap_or (thread_handle_of n s) 0)) NoPrimitive)
  thread_rule_leads (ThreadOp.ResumeLater v) is =
      or_trap_leads a s (thread_at (instance_of n s) (value_of n s v) s) Trap.BadHandle _ (λ m named.
      trap_if_leads a s (m == n) Trap.CannotResumeThread _ (λ other.
      or_trap_leads a s (resume_why m s) Trap.CannotResumeThread _ (λ w by.
      go _ (finish d n NoAnswer (put_low m w s)) refl (finished_walks n refl d on NoAnswer (placed (Put Mark.Low m w) (inl (Resumes by)) NoPrimitive)))))
  thread_rule_leads ThreadOp.Suspend is = halting_leads (ThreadLabel.Suspend n) (λ k. halt_rule d Suspension n k s) (halts_leads Suspension (ThreadLabel.Suspend n) (passes_check (instance_of n s) s) (ap (is_thread_op suspends) is))
  thread_rule_leads ThreadOp.Yield is = halting_leads (ThreadLabel.Yield n) (λ k. halt_rule d Yielding n k s) (halts_leads Yielding (ThreadLabel.Yield n) (passes_check (instance_of n s) s) (ap (is_thread_op yields) is))
  thread_rule_leads (ThreadOp.SuspendThenResume v) is = halting_leads (ThreadLabel.SuspendThenResume n) (λ k. then_resume_rule Suspension n (value_of n s v) s) (then_resume_rule_leads Suspension (value_of n s v) (ap (is_thread_op suspends) is))
  thread_rule_leads (ThreadOp.YieldThenResume v) is = halting_leads (ThreadLabel.YieldThenResume n) (λ k. then_resume_rule Yielding n (value_of n s v) s) (then_resume_rule_leads Yielding (value_of n s v) (ap (is_thread_op yields) is))
  thread_rule_leads (ThreadOp.SuspendThenPromote v) is = halting_leads (ThreadLabel.SuspendThenPromote n) (λ k. then_promote_rule d Suspension n (value_of n s v) k s) (then_promote_rule_leads Suspension (value_of n s v) (ThreadLabel.SuspendThenPromote n) (ap (is_thread_op suspends) is))
  thread_rule_leads (ThreadOp.YieldThenPromote v) is = halting_leads (ThreadLabel.YieldThenPromote n) (λ k. then_promote_rule d Yielding n (value_of n s v) k s) (then_promote_rule_leads Yielding (value_of n s v) (ThreadLabel.YieldThenPromote n) (ap (is_thread_op yields) is))
