-- What a host does to a core between the steps of a run keeps order, whosever turn it is, also while an item that was taken is in hand.
use Rattle.laws_order.specs.Pieces.{KeepsOrder}
use Rattle.std.specs.Prelude.{Bool, None, Option, Some, false, if◌then◌else◌, is_some, not, option_map, true, ℕ, [], ◌&&◌, ◌∷◌, ◌≡◌}
use Rattle.laws_states.specs.Order.{JoinNamed, is_open}
use Rattle.machine_data.specs.Core.{Core, Queues}
use Rattle.machine_data.specs.Moves.{PickedEvent, PickedMember, PickedTaskEvent, ended, first_entry, may_publish, promoted_first, promoted_unless, published, stopped, taken, wake_joined}
use Rattle.machine_data.specs.Read.{callers_of, course_of, course_value, end_of, entry_thread, event_of, foot_of, op_progress_of, is_async_lifted, is_inside_wait, is_member, is_stage_ended, is_watched, join_of, kind_of, next_entry, task_event_of, place_of, stage_of, subtask_handle, undelivered_end, work_caller_of}
use Rattle.machine_data.specs.Write.{set_event, set_join, set_place, with_high, with_low, with_switch}
use Rattle.machine_data.specs.declared.component.Component.{Component}
use Rattle.machine_data.specs.declared.records.Entry.{Entry}
use Rattle.machine_data.specs.declared.records.Entry.TheVariants as entry
use Rattle.machine_data.specs.declared.records.Place.{Place}
use Rattle.machine_data.specs.declared.records.Place.TheVariants as place
use Rattle.machine_data.specs.declared.records.Subtask.{Subtask}
use Rattle.machine_data.specs.declared.records.Subtask.TheVariants as subtask
use Rattle.machine_data.specs.declared.records.Turn.{Turn}
use Rattle.machine_data.specs.declared.records.Turn.TheVariants as turn
use Rattle.machine_data.specs.declared.records.Why.{Why}
use Rattle.machine_data.specs.declared.statuses.Mark.{Mark}
use Rattle.machine_data.specs.declared.statuses.Mark.TheVariants as mark
use Rattle.machine_data.specs.declared.statuses.TaskEvent.TheVariants as own
use Rattle.machine_data.specs.declared.statuses.Status.{Status}
use Rattle.machine_rules.specs.Allowed.{MayPut, is_async_work, is_done_host}
use Rattle.machine_rules.specs.Ends.{leaves_no_result}
use Rattle.machine_rules.specs.Places.{is_for_start, is_fresh}
use Rattle.machine_rules.specs.Sets.{joins, may_wake_new, wakes_joined}
use Rattle.machine_rules.specs.Takes.{host_status, popped}
use Rattle.machine_rules.specs.Threads.{resume_why}
use Rattle.machine_rules.specs.Primitives.{put_at, status_of_end}
use Rattle.laws_order.specs.WakesKept.{MayLeave}

-- ---- An item in hand

-- an entry that was taken, with the mark at which it was
abbrev pub Hand : Type 0
Hand = Option (Mark × Entry)

abbrev pub back_at : Mark → Entry → Queues → Queues
back_at mark.Switch e q = with_switch (entry_thread e) q
back_at mark.High e q = with_high (e ∷ q.high) q
back_at mark.Low e q = with_low (e ∷ q.low) q

-- the marks with what is in hand back at the front of its own
abbrev pub queues_with : Hand → Queues → Queues
queues_with None q = q
queues_with (Some h) q = back_at h.0 h.1 q

abbrev pub put_back : Hand → Core → Core
put_back h s = record s { queues = queues_with h s.queues }

abbrev pub is_switch : Mark → Bool
is_switch mark.Switch = true
is_switch m = false

-- A core is in order with an item in hand where it is so with the item put back. Where s is, t is, with the same in hand, at the same turn.
abbrev pub StaysInOrder : Core → Core → Type 0
StaysInOrder s t = (c : Component) (p : Turn) (h : Hand) → is_open p ≡ true → KeepsOrder c p (put_back h s) p (put_back h t)

-- ---- Events

-- the end that the subtask has come to by its record; of works those of async calls alone tell theirs
abbrev pub end_come_to : Subtask → Core → Option Status
end_come_to (subtask.Guest k) s = option_map status_of_end (end_of k s)
end_come_to (subtask.Host i) s =
    if is_stage_ended (stage_of i s) && is_async_work (work_caller_of i s) then Some (host_status (course_value (course_of i s))) else None

-- The status is the end that the subtask has come to, or none of an end where it has come to none. A work has ended.
pub record CanTell (sub : Subtask) (e : Status) (s : Core) : Type 0 where
  pub status : undelivered_end (Some e) ≡ end_come_to sub s
  pub done : is_done_host sub s ≡ true

-- a subtask gets an event that it can tell, who is blocked on it goes on, and this waiter of its set, if there is one, is woken
unfoldable pub PublishInOrder : Type 0
PublishInOrder = (sub : Subtask) (e : Status) (w : Option ℕ) (s : Core) → may_publish sub w s ≡ true → CanTell sub e s →
    StaysInOrder s (published sub e w s)

-- a waiter of the set of a subtask that has an event is woken, if there is one
unfoldable pub WakeInOrder : Type 0
WakeInOrder = (sub : Subtask) (w : Option ℕ) (s : Core) → may_publish sub w s ≡ true → StaysInOrder s (wake_joined (join_of sub s) w s)

-- The subtask is in no thread's own set, and a handle of the instance of the set that it joins, if it joins one, names it.
pub record CanJoin (sub : Subtask) (x : Option ℕ) (s : Core) : Type 0 where
  pub apart : is_watched (join_of sub s) ≡ false
  pub named : (y : ℕ) → x ≡ Some y → JoinNamed sub y s

-- a subtask leaves its set and joins the other one, if one is given, of which this waiter is woken where the subtask has an event
unfoldable pub JoinInOrder : Type 0
JoinInOrder = (sub : Subtask) (x w : Option ℕ) (s : Core) → may_wake_new (event_of sub s) x w s ≡ true → CanJoin sub x s →
    StaysInOrder s (wakes_joined (event_of sub s) x w (set_join sub (joins x) s))

-- the event of a subtask is taken that a handle names
unfoldable pub TakeInOrder : Type 0
TakeInOrder = (sub : Subtask) (s : Core) → is_some (subtask_handle sub s) ≡ true → StaysInOrder s (set_event sub None s)

-- A member is one of some set, and a task is told that it was cancelled only where it was, and its export is async-lifted.
abbrev pub CanGive : PickedEvent → ℕ → Core → Type 0
CanGive (PickedTaskEvent own.Cancelled) k s = (task_event_of k s ≡ Some own.Cancelled) × (is_async_lifted (kind_of k s) ≡ true)
CanGive (PickedMember sub) k s = (x : ℕ) × (is_member x sub s ≡ true)
CanGive g k s = Unit {0}

-- what is given to a call is taken
unfoldable pub GiveInOrder : Type 0
GiveInOrder = (g : PickedEvent) (k : ℕ) (s : Core) → CanGive g k s → StaysInOrder s (taken g k s)

-- ---- Entries

-- the entry that is taken next, put back, leaves the core as it was
unfoldable pub TakenIsInHand : Type 0
TakenIsInHand = (s : Core) (e : Mark × Entry) → next_entry s ≡ Some e → put_back (Some e) (popped e.0 s) ≡ s

-- a thread that doesn't run gets an entry at high or low
unfoldable pub PutInOrder : Type 0
PutInOrder = (m : Mark) (n : ℕ) (w : Why) (s : Core) → (m ≡ mark.Switch → ⊥) → MayPut n w s → StaysInOrder s (put_at m n w s)

-- or at switch, beside a thread that runs
unfoldable pub SwitchInOrder : Type 0
SwitchInOrder = (c : Component) (k n : ℕ) (w : Why) (s : Core) → MayPut n w s →
    KeepsOrder c (turn.Run k) s (turn.Run k) (put_at mark.Switch n w s)

-- The item of a thread that is in hand, and is no start, is put back at the end of high or low. Nothing is at switch, if it was
-- taken from there.
unfoldable pub BackInOrder : Type 0
BackInOrder = (c : Component) (p : Turn) (from m : Mark) (n : ℕ) (w : Why) (s : Core) → is_open p ≡ true →
    place_of n s ≡ Some (place.Ready from w) → (m ≡ mark.Switch → ⊥) → is_for_start w ≡ false →
    (from ≡ mark.Switch → s.queues.switch ≡ None) → KeepsOrder c p (put_back (Some (from, entry.Thread n)) s) p (put_at m n w s)

-- the entry of a thread that has one moves to switch, unless one is there
unfoldable pub PromoteInOrder : Type 0
PromoteInOrder = (c : Component) (p : Turn) (n : ℕ) (m : Mark) (w : Why) (s : Core) → is_open p ≡ true →
    place_of n s ≡ Some (place.Ready m w) → KeepsOrder c p s p (promoted_unless n s)

-- so does the first entry of an instance
unfoldable pub FirstInOrder : Type 0
FirstInOrder = (c : Component) (p : Turn) (i : ℕ) (s : Core) → is_open p ≡ true →
    KeepsOrder c p s p (if is_some s.queues.switch then s else promoted_first (first_entry i s) s)

-- no thread runs in the turn, and the turns aren't over
abbrev pub is_idle : Turn → Bool
is_idle (turn.Run n) = false
is_idle turn.Over = false
is_idle p = true

-- nothing is in hand that was at switch
abbrev pub is_off_switch : Hand → Bool
is_off_switch None = true
is_off_switch (Some h) = not (is_switch h.0)

-- a strand stops while no thread runs
unfoldable pub StopInOrder : Type 0
StopInOrder = (c : Component) (p : Turn) (h : Hand) (f : ℕ) (s : Core) → is_idle p ≡ true → is_off_switch h ≡ true →
    KeepsOrder c p (put_back h s) p (put_back h (stopped f s))

-- ---- The thread that runs

-- the thread that runs in the turn
abbrev pub running_in : Turn → Option ℕ
running_in (turn.Run n) = Some n
running_in p = None

-- a turn that isn't over, in which this thread runs, or none
abbrev pub IsTurnOf : Option ℕ → Turn → Type 0
IsTurnOf o p = (is_open p ≡ true) × (running_in p ≡ o)

-- From a turn of the one thread to one of another, or none. Who ran is outside of a wait, and nobody is behind the foot of its strand; who
-- is to run may be resumed; and where nobody ran, nobody is behind a thread that waits for its start.
pub record MayTurn (old new : Option ℕ) (s : Core) : Type 0 where
  pub apart : (n : ℕ) → old ≡ Some n → new ≡ Some n → ⊥
  pub outside : (n x : ℕ) → old ≡ Some n → is_inside_wait x (op_progress_of n s) ≡ false
  pub callers : (n : ℕ) → old ≡ Some n → callers_of (foot_of n s) s ≡ []
  pub resumed : (m : ℕ) → new ≡ Some m → is_some (resume_why m s) ≡ true
  pub starts : old ≡ None → (m n f : ℕ) → new ≡ Some m → place_of n s ≡ Some (place.Behind f) → is_fresh (place_of f s) ≡ false

-- this thread, if there is one, comes to the place
abbrev pub placed_at : Option ℕ → Place → Core → Core
placed_at None p s = s
placed_at (Some n) p s = set_place n p s

-- where s is in order in a turn of the one thread, t is in one of the other, if that may be
abbrev pub TurnsInOrder : Option ℕ → Option ℕ → Core → Core → Type 0
TurnsInOrder old new s t = (c : Component) (p q : Turn) → IsTurnOf old p → IsTurnOf new q → MayTurn old new s → KeepsOrder c p s q t

-- the thread that ran is suspended, and the other one runs
unfoldable pub TurnInOrder : Type 0
TurnInOrder = (old new : Option ℕ) (s : Core) → TurnsInOrder old new s (placed_at new place.Running (placed_at old place.Suspended s))

-- where s is in order in the turn of the thread, t is in main's, if the thread may leave
abbrev pub LeavesInOrder : ℕ → Core → Core → Type 0
LeavesInOrder n s t = (c : Component) → MayLeave n s → KeepsOrder c (turn.Run n) s turn.Main t

-- the running thread, which no other one is behind or under, ends: it isn't the last of a task that hasn't ended
unfoldable pub EndInOrder : Type 0
EndInOrder = (n : ℕ) (s : Core) → leaves_no_result n s ≡ false → LeavesInOrder n s (ended n s)
