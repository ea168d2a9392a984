-- The table of wakes: by what happens, how a set's ready members, woken threads and waiters change. One definition a row.
use Rattle.std.specs.List.{count_by}
use Rattle.std.specs.Option.{option_map_or}
use Rattle.std.specs.Prelude.{Bool, None, Option, Some, false, is_some, true, ℕ, ◌+◌, ◌≡◌}
use Rattle.laws_states.specs.Order.{InsideOps}
use Rattle.laws_states.specs.WakeLaw.{ready_members}
use Rattle.machine_data.specs.Core.{Core}
use Rattle.machine_data.specs.Moves.{PickedMember, PickedTaskEvent, published, put_high, put_switch}
use Rattle.machine_data.specs.Read.{event_of, has_ready_member, op_progress_of, is_in_set, is_inside_wait, is_member, is_ready_member, is_waiter, is_waiting_on, is_woken_for, place_of, woken}
use Rattle.machine_data.specs.Maps.{get}
use Rattle.machine_data.specs.Write.{set_join, set_place}
use Rattle.machine_data.specs.declared.records.Delivery.{Delivery}
use Rattle.machine_data.specs.declared.records.Delivery.TheVariants as delivery
use Rattle.machine_data.specs.declared.records.Join.{Join}
use Rattle.machine_data.specs.declared.records.Join.TheVariants as join
use Rattle.machine_data.specs.declared.records.Place.TheVariants as place
use Rattle.machine_data.specs.declared.records.Subtask.{Subtask}
use Rattle.machine_data.specs.declared.records.Thread.{Thread}
use Rattle.machine_data.specs.declared.records.Why.TheVariants as why
use Rattle.machine_data.specs.declared.statuses.Given.{Given}
use Rattle.machine_data.specs.declared.statuses.Mark.{Mark}
use Rattle.machine_data.specs.declared.statuses.TaskEvent.{TaskEvent}
use Rattle.machine_data.specs.declared.statuses.Status.{Status}
use Rattle.machine_rules.specs.Places.{Placed}
use Rattle.machine_rules.specs.Sets.{received, received_woken, wakes_joined}
use Rattle.machine_rules.specs.Takes.{activated, activated_woken}

-- ---- The three numbers

-- how many threads wait on the set
unfoldable pub waiters : ℕ → Core → ℕ
waiters x s = count_by (λ e. is_waiting_on x e.1.place) s.threads.list

-- One more, as many, or one less.
pub data Change : Type 0 where
  More : Change
  Same : Change
  Fewer : Change

abbrev pub Changes : Change → ℕ → ℕ → Type 0
Changes More old new = new ≡ old + 1
Changes Same old new = new ≡ old
Changes Fewer old new = old ≡ new + 1

-- From s to t the set's ready members, woken threads and waiters change so.
pub record WakeRow (x : ℕ) (ready awake waiting : Change) (s t : Core) : Type 0 where
  pub members : Changes ready (ready_members x s) (ready_members x t)
  pub threads : Changes awake (woken x s) (woken x t)
  pub waiters : Changes waiting (waiters x s) (waiters x t)

-- the thread is woken for the set
abbrev pub is_woken : ℕ → ℕ → Core → Bool
is_woken x n s = option_map_or (λ (t : Thread). is_woken_for x t t.place) (get s.threads n) false

-- the thread runs, inside a wait on the set in which it was resumed
abbrev pub RunsInWait : ℕ → ℕ → Core → Type 0
RunsInWait x n s = (place_of n s ≡ Some place.Running) × (is_inside_wait x (op_progress_of n s) ≡ true)

-- a delivery for the set represents the thread
abbrev pub HasDelivery : ℕ → ℕ → Core → Type 0
HasDelivery x n s = (m : Mark) × (place_of n s ≡ Some (place.Ready m (why.Delivery (delivery.Set x))))

-- the thread is there, isn't woken for the set and doesn't wait on it
abbrev pub IsApartFrom : ℕ → ℕ → Core → Type 0
IsApartFrom x n s = (is_some (place_of n s) ≡ true) × ((is_woken x n s ≡ false) × (is_waiter x n s ≡ false))

-- ---- Members become ready

-- the subtask joins the set, and this waiter of it, if one is there, is woken where the subtask has an event
abbrev pub joins_set : ℕ → Subtask → Option ℕ → Core → Core
joins_set x sub w s = wakes_joined (event_of sub s) (Some x) w (set_join sub (join.Set x) s)

-- a member becomes ready, by an event or a join, and a waiter is there
unfoldable pub ReadyAndWakes : Type 0
ReadyAndWakes =
    ((x m : ℕ) (sub : Subtask) (e : Status) (s : Core) → InsideOps s → is_member x sub s ≡ true → event_of sub s ≡ None →
    is_waiter x m s ≡ true → WakeRow x More More Fewer s (published sub e (Some m) s)) ×
    ((x m : ℕ) (sub : Subtask) (s : Core) → InsideOps s → is_member x sub s ≡ false → is_some (event_of sub s) ≡ true →
    is_waiter x m s ≡ true → WakeRow x More More Fewer s (joins_set x sub (Some m) s))

-- a member becomes ready and no waiter is there
unfoldable pub ReadyUnawaited : Type 0
ReadyUnawaited =
    ((x : ℕ) (sub : Subtask) (e : Status) (s : Core) → InsideOps s → is_member x sub s ≡ true → event_of sub s ≡ None →
    WakeRow x More Same Same s (published sub e None s)) ×
    ((x : ℕ) (sub : Subtask) (s : Core) → is_member x sub s ≡ false → is_some (event_of sub s) ≡ true →
    WakeRow x More Same Same s (joins_set x sub None s))

-- a ready member's event is replaced and a waiter is there
unfoldable pub EventReplaced : Type 0
EventReplaced = (x m : ℕ) (sub : Subtask) (e : Status) (s : Core) → InsideOps s → is_ready_member x sub s ≡ true → is_waiter x m s ≡ true →
    WakeRow x Same More Fewer s (published sub e (Some m) s)

-- ---- Members are taken

-- a ready member is taken by a thread that wasn't woken, or leaves the set
unfoldable pub MemberLeaves : Type 0
MemberLeaves =
    ((x n r : ℕ) (sub : Subtask) (v : Given) (s : Core) → is_ready_member x sub s ≡ true → place_of n s ≡ Some place.Running →
    is_inside_wait x (op_progress_of n s) ≡ false → WakeRow x Fewer Same Same s (received n r (PickedMember sub) v s)) ×
    ((x : ℕ) (sub : Subtask) (j : Join) (s : Core) → is_ready_member x sub s ≡ true → is_in_set x j ≡ false →
    WakeRow x Fewer Same Same s (set_join sub j s))

-- a woken thread takes a member
unfoldable pub WokenTakes : Type 0
WokenTakes =
    ((x n r : ℕ) (sub : Subtask) (v : Given) (s : Core) → is_ready_member x sub s ≡ true → RunsInWait x n s →
    WakeRow x Fewer Fewer Same s (received n r (PickedMember sub) v s)) ×
    ((x n : ℕ) (sub : Subtask) (v : Given) (s : Core) → is_ready_member x sub s ≡ true → HasDelivery x n s →
    WakeRow x Fewer Fewer Same s (activated n (PickedMember sub) v s))

-- a woken thread takes its task event while a member is ready and a waiter is there
unfoldable pub WokenHandsOn : Type 0
WokenHandsOn =
    ((x n m r : ℕ) (e : TaskEvent) (v : Given) (s : Core) → InsideOps s → has_ready_member x s ≡ true → is_waiter x m s ≡ true →
    RunsInWait x n s → WakeRow x Same Same Fewer s (received_woken n x r (Some m) (PickedTaskEvent e) v s)) ×
    ((x n m : ℕ) (e : TaskEvent) (v : Given) (s : Core) → InsideOps s → has_ready_member x s ≡ true → is_waiter x m s ≡ true →
    HasDelivery x n s → WakeRow x Same Same Fewer s (activated_woken n x (Some m) (PickedTaskEvent e) v s))

-- a woken thread takes its task event, and no member is ready or no waiter is there
unfoldable pub WokenTakesOwn : Type 0
WokenTakesOwn =
    ((x n r : ℕ) (e : TaskEvent) (v : Given) (s : Core) → RunsInWait x n s →
    WakeRow x Same Fewer Same s (received_woken n x r None (PickedTaskEvent e) v s)) ×
    ((x n : ℕ) (e : TaskEvent) (v : Given) (s : Core) → HasDelivery x n s →
    WakeRow x Same Fewer Same s (activated_woken n x None (PickedTaskEvent e) v s))

-- ---- Threads wait

-- a woken thread finds nothing, and waits again
unfoldable pub WokenWaits : Type 0
WokenWaits = (x n : ℕ) (by_callback : Bool) (s : Core) → is_woken x n s ≡ true →
    WakeRow x Same Fewer More s (set_place n (place.Waiting x by_callback) s)

-- a thread begins to wait
unfoldable pub BeginsToWait : Type 0
BeginsToWait = (x n : ℕ) (by_callback : Bool) (s : Core) → IsApartFrom x n s →
    WakeRow x Same Same More s (set_place n (place.Waiting x by_callback) s)

-- a callback's wait finds an event and gets a delivery for the set
unfoldable pub CallbackFinds : Type 0
CallbackFinds = (x n : ℕ) (s : Core) → IsApartFrom x n s → WakeRow x Same More Same s (put_high n (why.Delivery (delivery.Set x)) s)

-- a cancel takes a waiter: a callback, which is given the cancel, or a thread that is inside a wait on the set, which counts as woken then
unfoldable pub CancelTakes : Type 0
CancelTakes =
    ((x n : ℕ) (s : Core) → Placed s → is_waiter x n s ≡ true →
    WakeRow x Same Same Fewer s (put_switch n (why.Delivery delivery.Cancel) s)) ×
    ((x n : ℕ) (s : Core) → Placed s → is_waiter x n s ≡ true → is_inside_wait x (op_progress_of n s) ≡ true →
    WakeRow x Same More Fewer s (put_switch n why.Resumption s))

-- a delivery is held or released
unfoldable pub DeliveryHeld : Type 0
DeliveryHeld =
    ((x n : ℕ) (m : Mark) (d : Delivery) (s : Core) → place_of n s ≡ Some (place.Ready m (why.Delivery d)) →
    WakeRow x Same Same Same s (set_place n (place.Held (why.Delivery d)) s)) ×
    ((x n : ℕ) (d : Delivery) (s : Core) → place_of n s ≡ Some (place.Held (why.Delivery d)) →
    WakeRow x Same Same Same s (put_high n (why.Delivery d) s))
