-- The machine's core that the parts of a core represent, and what ids name.
use Rattle.std.specs.BTreeMap.{is_at}
use Rattle.std.specs.Map.{lookup}
use Rattle.std.specs.Option.{option_map_or}
use Rattle.std.specs.Ordering.{nat_cmp}
use Rattle.std.specs.Prelude.{◌≡◌, false, true, ℕ, Bool, List, [], ◌∷◌, Option, Some, None, filter, map, nat_lt, option_map}
use Rattle.table_lists.specs.declared.ordered_lists.OrderKey.{OrderKey}
use Rattle.task_handles.specs.Counter.{Counter}
use Rattle.table_lists.specs.Rows.{values}
use Rattle.table_links.specs.Links.{Spot}
use Rattle.machine_data.specs.Core.{Core}
use Rattle.machine_data.specs.Maps.{Records, empty, insert, numbers, remove}
use Rattle.machine_data.specs.declared.records.MadeCounts.{MadeCounts}
use Rattle.machine_data.specs.declared.scenario.Version.{Version}
use Rattle.core_records.specs.Groups.{tracked_of}
use Rattle.core_records.specs.Instances.{by_place, handle_table, named_of, thread_of}
use Rattle.core_records.specs.Keys.{call_key, call_seat_key, group_key, set_key, thread_key, thread_seat_key, work_key, work_seat_key}
use Rattle.core_records.specs.declared.call_records.GuestTask.{GuestTask}
use Rattle.core_records.specs.declared.call_records.TaskGroup.{TaskGroup}
use Rattle.core_records.specs.declared.instance_records.InstanceRecord.{InstanceRecord}
use Rattle.core_records.specs.declared.parts.CachedCounts.{CachedCounts}
use Rattle.core_records.specs.declared.rooms.ResultRoom.{ResultRoom}
use Rattle.core_records.specs.declared.single.Single.{Single}
use Rattle.core_records.specs.declared.set_records.WaitSet.{WaitSet}
use Rattle.core_records.specs.declared.thread_records.Follower.{Follower}
use Rattle.core_records.specs.declared.thread_records.GuestThread.{GuestThread}
use Rattle.core_records.specs.declared.thread_records.Queued.{Queued}
use Rattle.core_records.specs.declared.work_records.WorkRecord.{WorkRecord}
use Rattle.core_records.specs.declared.work_records.LiveWork.{LiveWork}
use Rattle.task_table.specs.Records.{number_in, records}
use Rattle.task_table.specs.Table.{Placed, Table}
use Rattle.task_table.specs.declared.id.TableId.{TableId}
use Rattle.task_wait.specs.declared.keys.ThreadKey.{ThreadKey}
use Rattle.machine_rules.specs.Picks.{Seats}
use Rattle.core_primitives.specs.StateView.{StateView, Tag, Tags, Wanted}

-- the fields of a core, as tables, lists and numbers
pub record CoreImage : Type 0 where
  pub threads : Table (Single GuestThread)
  pub calls : Table (Single GuestTask)
  pub works : Table (Single WorkRecord)
  pub sets : Table (Single WaitSet)
  pub groups : Table (Single TaskGroup)
  pub instances : List InstanceRecord
  pub counter : Counter
  pub places : List (Spot OrderKey)
  pub waits : List (Spot OrderKey)
  pub ready_calls : List (Spot OrderKey)
  pub ready_works : List (Spot OrderKey)
  pub polled : List (Spot LiveWork)
  pub marks : List (Spot Queued)
  pub instance_queues : List (Spot Queued)
  pub behind : List (Spot Follower)
  pub high : Option ℕ
  pub low : Option ℕ
  pub live : Option ℕ
  pub switch : Option Follower
  pub current : Option (TableId ThreadKey)
  pub wanted : Wanted
  pub results : List (ℕ × ResultRoom)
  pub kept : CachedCounts
  pub finished : ℕ
  pub ended : List ℕ
  pub end_room : ℕ
  pub capacity : ℕ
  pub made : MadeCounts
  pub version : Version
  pub arrivals : ℕ
  pub trapped : Bool

-- the values of a chain, where it was made
abbrev pub chained : {P : Type 0} → List (Spot P) → Option ℕ → List P
chained links None = []
chained links (Some c) = values links c

-- the threads behind one, by the chain of its callers
abbrev pub callers_in : List (Spot Follower) → Single GuestThread → Option (ℕ × List ℕ)
callers_in behind g = Some (g.item.number, map (λ f. f.number) (values behind g.item.callers))

-- the results that were given, of those that there is room for
abbrev pub with_given : Records ℕ → ℕ → Option ℕ → Records ℕ
with_given rs k None = remove rs k
with_given rs k (Some v) = insert rs k v

abbrev pub given_results : List (ℕ × ResultRoom) → Records ℕ
given_results [] = empty
given_results (e ∷ es) = with_given (given_results es) e.0 e.1.given

-- There is room for the result of a call of this number that is there.
abbrev pub HasRoom : ℕ → List (ℕ × ResultRoom) → Type 0
HasRoom k rs = option_map_or (λ r. r.lives) (lookup (is_at (nat_cmp k)) rs) false ≡ true

abbrev pub core_of : CoreImage → Core
core_of p = record {
  version = p.version;
  calls = records call_key p.calls.places;
  threads = records thread_key p.threads.places;
  callers = records (callers_in p.behind) p.threads.places;
  works = records work_key p.works.places;
  sets = records set_key p.sets.places;
  instances = by_place (map (λ i. i.instance) p.instances);
  handles = by_place (map (λ i. handle_table named_of i.handles) p.instances);
  thread_handles = by_place (map (λ i. handle_table thread_of i.thread_handles) p.instances);
  queues = record {
    switch = option_map (λ f. f.number) p.switch;
    high = map (λ q. q.entry) (chained p.marks p.high);
    low = map (λ q. q.entry) (chained p.marks p.low);
  };
  results = given_results p.results;
  groups = filter (nat_lt p.finished) (numbers (records group_key p.groups.places));
  trapped = p.trapped;
  handle_limit = p.counter.limit;
  capacity = p.capacity;
  made = p.made;
  arrivals = p.arrivals;
}

-- what contracts see at a place
abbrev pub tag_of : {E X : Type 0} → (E → Option (ℕ × X)) → Option (Placed E) → Option Tag
tag_of key None = None
tag_of key (Some p) = Some (record { serial = p.serial; number = number_in (key p.entry) })

-- a list without what is free at its end, so that an entry that was made and taken back leaves no trace
abbrev pub with_first : {X : Type 0} → Option X → List (Option X) → List (Option X)
with_first None [] = []
with_first None (o ∷ os) = None ∷ o ∷ os
with_first (Some x) os = Some x ∷ os

abbrev pub trimmed : {X : Type 0} → List (Option X) → List (Option X)
trimmed [] = []
trimmed (o ∷ os) = with_first o (trimmed os)

abbrev pub tags_in : {E X : Type 0} → (E → Option (ℕ × X)) → Table E → List (Option Tag)
tags_in key t = trimmed (map (tag_of key) t.places)

-- the groups that are tracked
abbrev pub tracked_in : CoreImage → List ℕ
tracked_in p = tracked_of p.ended (core_of p).groups p.made.groups

-- the places of the resource table, as the records of threads, calls and host works name them
abbrev pub seats_of : CoreImage → Seats
seats_of p = record {
  threads = records thread_seat_key p.threads.places;
  calls = records call_seat_key p.calls.places;
  works = records work_seat_key p.works.places;
}

abbrev pub tags_of : CoreImage → Tags
tags_of p = record {
  threads = tags_in thread_key p.threads;
  calls = tags_in call_key p.calls;
  sets = tags_in set_key p.sets;
  works = tags_in work_key p.works;
  tracked = tracked_in p;
  wanted = p.wanted;
  seats = seats_of p;
}

abbrev pub image : CoreImage → StateView
image p = record { core = core_of p; tags = tags_of p; current = p.current }
