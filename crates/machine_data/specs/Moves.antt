-- The moves that steps are made of: Put, Check, Stop, Publish, Wake, Give, Release, and the end of a thread.
-- What a step chooses is an argument.
use Rattle.std.specs.Prelude.{ℕ, Bool, true, false, not, ◌&&◌, ◌||◌, List, [], ◌∷◌, ◌++◌, Option, Some, None, is_some, is_none, unwrap_or, option_and_then, ◌==◌, if◌then◌else◌}
use Rattle.std.specs.List.{list_any}
use Rattle.std.specs.Option.{option_map_or}
use Rattle.machine_data.specs.declared.statuses.Given.{Given}
use Rattle.machine_data.specs.declared.statuses.Given.TheVariants as given
use Rattle.machine_data.specs.declared.statuses.Mark.{Mark}
use Rattle.machine_data.specs.declared.statuses.Mark.TheVariants as mark
use Rattle.machine_data.specs.declared.statuses.TaskEvent.{TaskEvent}
use Rattle.machine_data.specs.declared.statuses.TaskEvent.TheVariants as own
use Rattle.machine_data.specs.declared.statuses.Status.{Status}
use Rattle.machine_data.specs.declared.statuses.Status.TheVariants as status
use Rattle.machine_data.specs.declared.records.Call.{Call}
use Rattle.machine_data.specs.declared.records.CallEnd.TheVariants as call_end
use Rattle.machine_data.specs.declared.records.Delivery.TheVariants as delivery
use Rattle.machine_data.specs.declared.records.Entry.{Entry}
use Rattle.machine_data.specs.declared.records.Entry.TheVariants as entry
use Rattle.machine_data.specs.declared.records.Join.{Join}
use Rattle.machine_data.specs.declared.records.Join.TheVariants as join
use Rattle.machine_data.specs.declared.records.Place.{Place}
use Rattle.machine_data.specs.declared.records.Place.TheVariants as place
use Rattle.machine_data.specs.declared.records.Subtask.{Subtask}
use Rattle.machine_data.specs.declared.records.Why.{Why}
use Rattle.machine_data.specs.declared.records.Why.TheVariants as why
use Rattle.machine_data.specs.Maps.{get}
use Rattle.machine_data.specs.Core.{Core}
use Rattle.machine_data.specs.Read.{blocked_on, call_group, callers_of, event_of, first_in, foot_of, has_ready_member, has_thread, has_waiter, held_why, instance_of, is_async_lifted, is_entry_of, is_explicit, is_ready_member, is_second, is_waiter, join_of, kind_of, may_not_suspend, place_of, task_event_of, task_of, thread_handle_of, undelivered_end, waits_by_callback}
use Rattle.machine_data.specs.Write.{arrive, set_place, set_callers, set_switch, push_high, push_high_first, push_low, set_high, set_low, set_event, set_task_event, set_cancel_delivered, set_exited, set_uninteresting, set_end, remove_thread, remove_call, remove_group, free_thread_handle}

-- ---- Put

-- the thread has an entry at the mark
abbrev pub stand : ℕ → Mark → Why → Core → Core
stand n m w = set_place n (place.Ready m w)

-- why the thread's entry is queued; default: no entry
abbrev pub ready_why : Place → Why
ready_why (place.Ready m w) = w
ready_why _ = why.Resumption

abbrev pub why_of : ℕ → Core → Why
why_of n s = option_map_or ready_why (place_of n s) why.Resumption

-- what was at switch goes to the front of high
abbrev pub displaced : Option ℕ → Core → Core
displaced None s = s
displaced (Some m) s = push_high_first (entry.Thread m) (stand m mark.High (why_of m s) s)

unfoldable pub put_switch : ℕ → Why → Core → Core
put_switch n w s = set_switch (Some n) (stand n mark.Switch w (displaced s.queues.switch s))

unfoldable pub put_high : ℕ → Why → Core → Core
put_high n w s = push_high (entry.Thread n) (stand n mark.High w s)

unfoldable pub put_low : ℕ → Why → Core → Core
put_low n w s = push_low (entry.Thread n) (stand n mark.Low w s)

-- ---- Check, and the other promotions

-- the list without the first entry of the thread
abbrev pub less : ℕ → List Entry → List Entry
less n [] = []
less n (e ∷ es) = if is_entry_of n e then es else e ∷ less n es

abbrev pub has_entry : ℕ → List Entry → Bool
has_entry n es = list_any (is_entry_of n) es

-- the thread's entry leaves high, or else low
unfoldable pub unqueued : ℕ → Core → Core
unqueued n s = if has_entry n s.queues.high then set_high (less n s.queues.high) s else set_low (less n s.queues.low) s

-- the thread's entry moves to switch, where none is there; all others keep their order
unfoldable pub promoted : ℕ → Core → Core
promoted n s = set_switch (Some n) (stand n mark.Switch (why_of n s) (unqueued n s))

unfoldable pub promoted_unless : ℕ → Core → Core
promoted_unless n s = if is_some s.queues.switch then s else promoted n s

-- the first entry of the instance: at high, else at low
abbrev pub first_low : ℕ → Core → Option ℕ → Option ℕ
first_low i s None = first_in i s s.queues.low
first_low i s (Some n) = Some n

unfoldable pub first_entry : ℕ → Core → Option ℕ
first_entry i s = first_low i s (first_in i s s.queues.high)

-- a check of the instance passes
unfoldable pub passes_check : ℕ → Core → Bool
passes_check i s = not (may_not_suspend i s) || (is_some s.queues.switch || is_some (first_entry i s))

abbrev pub promoted_first : Option ℕ → Core → Core
promoted_first None s = s
promoted_first (Some n) s = promoted n s

-- the state after a check that passed
unfoldable pub checked : ℕ → Core → Core
checked i s = if not (may_not_suspend i s) || is_some s.queues.switch then s else promoted_first (first_entry i s) s

-- ---- Stop

abbrev pub resumed_all : List ℕ → Core → Core
resumed_all [] s = s
resumed_all (n ∷ ns) s = resumed_all ns (put_high n why.Resumption s)

-- the last of n and ns
abbrev pub newest : ℕ → List ℕ → ℕ
newest n [] = n
newest n (m ∷ ns) = newest m ns

-- all of n and ns but the last
abbrev pub older : ℕ → List ℕ → List ℕ
older n [] = []
older n (m ∷ ns) = n ∷ older m ns

-- the thread goes behind f
unfoldable pub behind_one : ℕ → ℕ → Core → Core
behind_one f n s = set_callers f (callers_of f s ++ n ∷ []) (set_place n (place.Behind f) s)

-- these threads go behind f, in this order
abbrev pub behind : ℕ → List ℕ → Core → Core
behind f [] s = s
behind f (n ∷ ns) s = behind f ns (behind_one f n s)

-- the newest is put at switch, and the others at high, oldest first
abbrev pub resumed_callers : List ℕ → Core → Core
resumed_callers [] s = s
resumed_callers (n ∷ ns) s = resumed_all (older n ns) (put_switch (newest n ns) why.Resumption s)

-- these callers go behind the foot of the entry at switch, if one is there; else they are resumed
abbrev pub passed_on : Option ℕ → List ℕ → Core → Core
passed_on (Some m) ns s = behind (foot_of m s) ns s
passed_on None ns s = resumed_callers ns s

-- the strand with foot f stops
unfoldable pub stopped : ℕ → Core → Core
stopped f s = passed_on s.queues.switch (callers_of f s) (set_callers f [] s)

-- the strand of the running thread n stops, and n is at the place
abbrev pub stopped_at : ℕ → Place → Core → Core
stopped_at n p s = set_place n p (stopped (foot_of n s) s)

-- the same, and n comes after all that wait or are held
abbrev pub stopped_last : ℕ → Place → Core → Core
stopped_last n p s = set_place n p (arrive n (stopped (foot_of n s) s))

-- ---- Wake and Publish

-- the waiter gets its entry at high
abbrev pub waken_by : Bool → ℕ → ℕ → Core → Core
waken_by true x n s = put_high n (why.Delivery (delivery.Set x)) s
waken_by false x n s = put_high n why.Resumption s

abbrev pub is_callback_waiter : ℕ → Core → Bool
is_callback_waiter n s = option_map_or waits_by_callback (place_of n s) false

-- the chosen waiter of the set is woken
unfoldable pub wake : ℕ → Option ℕ → Core → Core
wake x None s = s
wake x (Some n) s = waken_by (is_callback_waiter n s) x n s

-- a waiter is chosen exactly where there is one, and it is a waiter
unfoldable pub may_wake : ℕ → Option ℕ → Core → Bool
may_wake x None s = not (has_waiter x s)
may_wake x (Some n) s = is_waiter x n s

abbrev pub unblocked : Option ℕ → Core → Core
unblocked None s = s
unblocked (Some n) s = put_high n why.Resumption s

abbrev pub wake_joined : Join → Option ℕ → Core → Core
wake_joined (join.Set x) w s = wake x w s
wake_joined _ w s = s

abbrev pub may_wake_joined : Join → Option ℕ → Core → Bool
may_wake_joined (join.Set x) w s = may_wake x w s
may_wake_joined _ w s = is_none w

-- the subtask's event is replaced by the status; who is blocked on it goes to high; a waiter of its set is woken
unfoldable pub published : Subtask → Status → Option ℕ → Core → Core
published sub e w s = wake_joined (join_of sub s) w (unblocked (blocked_on sub s) (set_event sub (Some e) s))

unfoldable pub may_publish : Subtask → Option ℕ → Core → Bool
may_publish sub w s = may_wake_joined (join_of sub s) w s

-- ---- Give

-- What a task is given: its task event, that of a member, or nothing.
pub data PickedEvent : Type 0 where
  PickedTaskEvent : (event : TaskEvent) → PickedEvent
  PickedMember : (subtask : Subtask) → PickedEvent
  NothingPicked : PickedEvent

-- the task event, Cancelled only for what may take it
abbrev pub picked_task_event : Bool → Option TaskEvent → Option TaskEvent
picked_task_event cancellable None = None
picked_task_event cancellable (Some own.None) = Some own.None
picked_task_event true (Some own.Cancelled) = Some own.Cancelled
picked_task_event false (Some own.Cancelled) = None

abbrev pub picked_task_event_of : Bool → ℕ → Core → Option TaskEvent
picked_task_event_of cancellable k s = picked_task_event cancellable (task_event_of k s)

-- in version 2 a `wait` in an async-lifted task may take Cancelled
abbrev pub waits_cancellable : ℕ → Core → Bool
waits_cancellable k s = is_second s.version && is_async_lifted (kind_of k s)

-- the chosen one, where it is a ready member of the set
abbrev pub picked_member : ℕ → Option Subtask → Core → Option PickedEvent
picked_member x None s = None
picked_member x (Some sub) s = if is_ready_member x sub s then Some (PickedMember sub) else None

abbrev pub picked_event_after_own : Option TaskEvent → ℕ → Option Subtask → Core → Option PickedEvent
picked_event_after_own (Some e) x chosen s = Some (PickedTaskEvent e)
picked_event_after_own None x chosen s = if has_ready_member x s then picked_member x chosen s else Some NothingPicked

-- the task event, else the event of the chosen ready member of the set, else nothing; None if the choice isn't lawful
unfoldable pub picked_event : Bool → ℕ → ℕ → Option Subtask → Core → Option PickedEvent
picked_event cancellable k x chosen s = picked_event_after_own (picked_task_event_of cancellable k s) x chosen s

-- the task event alone, by callback
abbrev pub own_or_nothing : Option TaskEvent → PickedEvent
own_or_nothing None = NothingPicked
own_or_nothing (Some e) = PickedTaskEvent e

unfoldable pub picked_task_event_only : ℕ → Core → PickedEvent
picked_task_event_only k s = own_or_nothing (picked_task_event_of true k s)

abbrev pub taken_own : TaskEvent → ℕ → Core → Core
taken_own own.None k s = set_task_event k None s
taken_own own.Cancelled k s = set_cancel_delivered k (set_task_event k None s)

-- what is given is taken
unfoldable pub taken : PickedEvent → ℕ → Core → Core
taken (PickedTaskEvent e) k s = taken_own e k s
taken (PickedMember sub) k s = set_event sub None s
taken NothingPicked k s = s

abbrev pub given_own : TaskEvent → Given
given_own own.None = given.Nothing
given_own own.Cancelled = given.Cancelled

-- what is handed out for it, a member by the handle h; default: no event
unfoldable pub given_for : PickedEvent → ℕ → Core → Given
given_for (PickedTaskEvent e) h s = given_own e
given_for (PickedMember sub) h s = given.Subtask (unwrap_or (event_of sub s) status.Starting) h
given_for NothingPicked h s = given.Nothing

-- a woken thread that takes the task event while a member is ready hands its wake on
abbrev pub hands_on : ℕ → PickedEvent → Core → Bool
hands_on x (PickedTaskEvent e) s = has_ready_member x s
hands_on x _ s = false

unfoldable pub handed_on : ℕ → PickedEvent → Option ℕ → Core → Core
handed_on x g w s = if hands_on x g s then wake x w s else s

unfoldable pub may_hand_on : ℕ → PickedEvent → Option ℕ → Core → Bool
may_hand_on x g w s = if hands_on x g s then may_wake x w s else is_none w

-- ---- Release

-- a held thread is put at high; default: not held
abbrev pub released_one : ℕ → Option Why → Core → Core
released_one n None s = s
released_one n (Some w) s = put_high n w s

abbrev pub held_why_of : ℕ → Core → Option Why
held_why_of n s = option_and_then held_why (place_of n s)

-- these held threads are put at high in this order
unfoldable pub released : List ℕ → Core → Core
released [] s = s
released (n ∷ ns) s = released ns (released_one n (held_why_of n s) s)

-- ---- The end of a thread

abbrev pub is_deletable_call : Call → Bool
is_deletable_call c = is_none c.handle && (is_none (undelivered_end c.event) && is_none c.result)

-- no thread, no live handle, no undelivered end and no result to be taken is left
unfoldable pub is_deletable : ℕ → Core → Bool
is_deletable k s = option_map_or is_deletable_call (get s.calls k) false && not (has_thread k s)

-- no call and no host call of the group is left
unfoldable pub is_group_done : ℕ → Core → Bool
is_group_done g s =
    not (list_any (λ e. e.1.group == g) s.calls.list
    || list_any (λ e. option_map_or (λ h. h == g) e.1.group false) s.works.list)

-- the group is finished, if nothing of it is left
unfoldable pub group_settled : ℕ → Core → Core
group_settled g s = if is_group_done g s then remove_group g s else s

-- the call is deleted, if nothing keeps it
unfoldable pub call_settled : ℕ → Core → Core
call_settled k s = if is_deletable k s then group_settled (call_group k s) (remove_call k s) else s

abbrev pub is_finished : Call → Bool
is_finished c = c.exited && is_some c.«end»

-- a task that has exited and ended isn't interesting any more
unfoldable pub interest_settled : ℕ → Core → Core
interest_settled k s = if option_map_or is_finished (get s.calls k) false then set_uninteresting k s else s

abbrev pub freed_thread_handle : ℕ → Option ℕ → Core → Core
freed_thread_handle i None s = s
freed_thread_handle i (Some h) s = free_thread_handle i h s

abbrev pub exited_if : Bool → ℕ → Core → Core
exited_if explicit k s = if explicit then s else set_exited k s

-- the thread gives back its handle and is gone; where it was the first of its call, the task has exited
abbrev pub departed : ℕ → Core → Core
departed n s =
    let over = exited_if (is_explicit n s) (task_of n s) s in
    remove_thread n (freed_thread_handle (instance_of n s) (thread_handle_of n s) over)

-- the end of a thread
unfoldable pub ended : ℕ → Core → Core
ended n s = call_settled (task_of n s) (interest_settled (task_of n s) (departed n s))

abbrev pub less_switch : ℕ → Option ℕ → Option ℕ
less_switch n None = None
less_switch n (Some m) = if n == m then None else Some m

-- the start of the call's first thread is withdrawn, wherever it is
unfoldable pub withdrawn : ℕ → Core → Core
withdrawn k s =
    let gone = remove_thread k (set_switch (less_switch k s.queues.switch) (unqueued k s)) in
    set_uninteresting k (set_exited k (set_end k call_end.StartCancelled gone))
