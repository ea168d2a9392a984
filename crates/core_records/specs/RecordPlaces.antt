-- The lists that the machine finds by a test of its records, as indexes: who waits on a set, is held in an instance, is under a thread or
-- blocked on a subtask; the ready members of a set; the live works.
use Rattle.std.specs.Ordering.{nat_cmp, ordering_then}
use Rattle.std.specs.Prelude.{ℕ, Bool, ◌&&◌, List, Option, Some, None, slice_get, option_and_then, option_map, if◌then◌else◌}
use Rattle.std.specs.declared.cmp.Ordering.{Ordering}
use Rattle.table_lists.specs.declared.ordered_lists.OrderKey.{OrderKey}
use Rattle.table_lists.specs.Index.{Filing}
use Rattle.table_links.specs.Links.{Spot, entries}
use Rattle.machine_data.specs.Read.{is_stage_live}
use Rattle.machine_data.specs.declared.records.Join.{Join}
use Rattle.machine_data.specs.declared.records.Join.TheVariants as join
use Rattle.machine_data.specs.declared.records.Place.{Place}
use Rattle.machine_data.specs.declared.records.Place.TheVariants as place
use Rattle.machine_data.specs.declared.records.Subtask.{Subtask}
use Rattle.machine_data.specs.declared.records.Subtask.TheVariants as subtask
use Rattle.machine_data.specs.declared.records.Why.{Why}
use Rattle.machine_data.specs.declared.scenario.Version.TheVariants as version
use Rattle.machine_data.specs.declared.scenario.Version.{Version}
use Rattle.machine_data.specs.declared.statuses.Status.{Status}
use Rattle.core_records.specs.Image.{CoreImage}
use Rattle.core_records.specs.Keys.{blocked_key, ready_calls_key, ready_works_key, under_key, waiters_key, waits_key, work_blocked_key}
use Rattle.core_records.specs.declared.call_records.GuestTask.{GuestTask}
use Rattle.core_records.specs.declared.single.Single.{Single}
use Rattle.core_records.specs.declared.thread_records.GuestThread.{GuestThread}
use Rattle.core_records.specs.declared.work_records.WorkRecord.{WorkRecord}
use Rattle.core_records.specs.declared.work_records.LiveWork.{LiveWork}
use Rattle.machine_rules.specs.Places.{is_for_start}
use Rattle.task_table.specs.Records.{found_record}
use Rattle.task_wait.specs.Sets.{IsAscending}

-- In which list a thread is: it is in one at a time.
pub data Where : Type 0 where
  WaitsOn : (set : ℕ) → Where
  StartsIn : (instance : ℕ) → Where
  HeldIn : (instance : ℕ) → Where
  UnderOf : (thread : ℕ) → Where
  BlockedOn : (subtask : Subtask) → Where

-- the list of a thread of the instance that is held with this entry: barred starts are apart, as backpressure keeps them alone out
abbrev pub held_list : ℕ → Bool → Why → Where
held_list i barred w = if barred && is_for_start w then StartsIn i else HeldIn i

-- the list of a thread of the instance that is at this place, whose start is barred or isn't
abbrev pub where_at : ℕ → Bool → Place → Option Where
where_at i barred (place.Waiting x by_callback) = Some (WaitsOn x)
where_at i barred (place.Held w) = Some (held_list i barred w)
where_at i barred (place.Under n) = Some (UnderOf n)
where_at i barred (place.Blocked sub) = Some (BlockedOn sub)
where_at i barred _ = None

-- what threads are ordered by: in version 1 the places of the call and of the thread in the resource table, in version 2 when the thread
-- began to wait or to be held
abbrev pub order_task : Version → (task came : ℕ) → ℕ
order_task version.One task came = task
order_task version.Two task came = came

abbrev pub order_entry : Version → ℕ → ℕ
order_entry version.One entry = entry
order_entry version.Two entry = 0

-- the order key of a thread: by that, and then by its place in the table of its kind
abbrev pub thread_order_key : Version → ℕ → GuestThread → OrderKey
thread_order_key v rep g = record { task = order_task v g.task_entry g.thread.came; thread = order_entry v g.entry; place = rep }

-- that of a call or a host work, or of a thread beside others of its call: by their places in the resource table
abbrev pub member_order_key : ℕ → ℕ → OrderKey
member_order_key entry rep = record { task = entry; thread = 0; place = rep }

abbrev pub place_filing : Version → ℕ → ℕ → Single GuestThread → Option (Filing Where OrderKey)
place_filing v rep serial g =
    Some (record {
      node = g.item.node.index;
      key = where_at g.item.instance g.item.barred g.item.thread.place;
      value = thread_order_key v rep g.item;
    })

-- the call among whose waiting threads one of it is, if it is at this place
abbrev pub waits_in : Place → ℕ → Option ℕ
waits_in (place.Waiting x by_callback) k = Some k
waits_in _ k = None

-- only a thread that has a node for that is filed by its call
abbrev pub wait_filing : ℕ → ℕ → Single GuestThread → Option (Filing ℕ OrderKey)
wait_filing rep serial g =
    option_map (λ node. record {
      node = node.index;
      key = waits_in g.item.thread.place g.item.thread.call;
      value = member_order_key g.item.entry rep;
    }) g.item.wait

abbrev pub wait_chain : CoreImage → ℕ → Option ℕ
wait_chain p k = option_and_then (λ c. c) (found_record waits_key k p.calls.places)

abbrev pub place_chain : CoreImage → Where → Option ℕ
place_chain p (WaitsOn x) = found_record waiters_key x p.sets.places
place_chain p (StartsIn i) = option_map (λ r. r.starts) (slice_get p.instances i)
place_chain p (HeldIn i) = option_map (λ r. r.held) (slice_get p.instances i)
place_chain p (UnderOf n) = found_record under_key n p.threads.places
place_chain p (BlockedOn (subtask.Guest k)) = found_record blocked_key k p.calls.places
place_chain p (BlockedOn (subtask.Host i)) = found_record work_blocked_key i p.works.places

-- the set of which what has this event and is joined so is a ready member
abbrev pub ready_in : Option Status → Join → Option ℕ
ready_in (Some e) (join.Set x) = Some x
ready_in _ _ = None

abbrev pub ready_call : ℕ → ℕ → Single GuestTask → Option (Filing ℕ OrderKey)
ready_call rep serial g =
    Some (record { node = g.item.ready.index; key = ready_in g.item.call.event g.item.call.join; value = member_order_key g.item.entry rep })

abbrev pub ready_work : ℕ → ℕ → Single WorkRecord → Option (Filing ℕ OrderKey)
ready_work rep serial w =
    Some (record { node = w.item.ready.index; key = ready_in w.item.work.event w.item.work.join; value = member_order_key w.item.entry rep })

abbrev pub ready_call_chain : CoreImage → ℕ → Option ℕ
ready_call_chain p x = found_record ready_calls_key x p.sets.places

abbrev pub ready_work_chain : CoreImage → ℕ → Option ℕ
ready_work_chain p x = found_record ready_works_key x p.sets.places

-- the live works are one list, in order of number
abbrev pub live_value : ℕ → WorkRecord → LiveWork
live_value rep w = record { number = w.number; place = rep }

abbrev pub live_work : ℕ → ℕ → Single WorkRecord → Option (Filing (Unit {0}) LiveWork)
live_work rep serial w =
    Some (record {
      node = w.item.live.index;
      key = if is_stage_live w.item.work.stage then Some tt else None;
      value = live_value rep w.item;
    })

abbrev pub live_chain : CoreImage → Unit {0} → Option ℕ
live_chain p one = p.live

abbrev pub live_order : LiveWork → LiveWork → Ordering
live_order a b = ordering_then (nat_cmp a.number b.number) (nat_cmp a.place b.place)

-- The chain is in that order.
abbrev pub Rises : List (Spot LiveWork) → Option ℕ → Type 0
Rises links None = Unit {0}
Rises links (Some c) = IsAscending live_order (entries links c)
