-- A host work that is made, and its group, if it is a call.
use Rattle.task_wait.specs.declared.keys.HostTaskKey.{HostTaskKey}
use Rattle.core_primitives.specs.Apart.{work_entries}
use Rattle.core_primitives.specs.StateView.{StateView, work_of}
use Rattle.core_removals.specs.LooseWorks.{AreWorkLoose}
use Rattle.core_records.specs.Seen.{parts_of}
use Rattle.core_records.specs.Sound.{bare, bare_work}
use Rattle.std.specs.Option.{option_map_or}
use Rattle.std.specs.Prelude.{◌≡◌, ◌+◌, ◌-◌, ◌<◌, ℕ, Ok, Option, None, Some, option_map, IsSome}
use Rattle.machine_data.specs.Core.{Core}
use Rattle.machine_data.specs.declared.records.Join.TheVariants as join
use Rattle.machine_data.specs.declared.records.Stage.TheVariants as stage
use Rattle.machine_data.specs.declared.records.Subtask.TheVariants as subtask
use Rattle.core_records.specs.Image.{CoreImage}
use Rattle.core_records.specs.Keys.{group_key}
use Rattle.core_records.specs.Kinds.{entry_of, item_of}
use Rattle.core_records.specs.Names.{AtPlace, HasNumber, work_caller_target}
use Rattle.core_records.specs.declared.call_records.TaskGroup.{TaskGroup}
use Rattle.core_records.specs.declared.parts.CoreParts.{CoreParts}
use Rattle.core_records.specs.declared.single.Single.{Single}
use Rattle.core_records.specs.declared.work_records.WorkRecord.{WorkRecord}
use Rattle.machine_rules.specs.Calls.{new_work, next_work, with_handle, work_queued}
use Rattle.task_table.specs.TableAnswers.{item_at}
use Rattle.task_table.specs.Changes.{next_place, pushed, with_entry}
use Rattle.task_table.specs.Table.{Table}
use Rattle.task_table.specs.declared.id.TableId.{TableId}
use Rattle.task_wait.specs.declared.keys.GroupKey.{GroupKey}
use Rattle.core_removals.specs.declared.work_nodes.WorkNodes.{WorkNodes}
use Rattle.core_removals.specs.declared.work_requests.WorkRequest.{WorkRequest}

-- It has the next number, is queued, has no event and is in no set; who called is there, and so is its group.
pub record IsWorkNext (p : CoreImage) (w : WorkRecord) : Type 0 where
  pub number : w.number ≡ p.made.works + 1
  pub stage : w.work.stage ≡ stage.Queued
  pub event : w.work.event ≡ None
  pub join : w.work.join ≡ join.Nowhere
  pub caller : AtPlace p w.maker (work_caller_target w.work.caller)
  pub group : (n : ℕ) → w.work.group ≡ Some n → HasNumber group_key p.groups w.group n × (0 < n)

-- The group that is named, if one is, has one call more, and the id names it.
abbrev pub Raises : Table (Single TaskGroup) → Table (Single TaskGroup) → Option ℕ → Option (TableId GroupKey) → Type 0
Raises old new None None = new ≡ old
Raises old new None (Some id) = ⊥
Raises old new (Some n) None = ⊥
Raises old new (Some n) (Some id) = (r : TaskGroup) × ((Ok r ≡ item_at item_of old id.rep id.serial) × ((r.number ≡ n) ×
    (new ≡ with_entry id.rep (entry_of (record r { calls = r.calls + 1 })) old)))

-- The group of a host call, and how many calls are of it; a spawned work has none.
abbrev pub GroupHere : Type 0
GroupHere = Option (TableId GroupKey × TaskGroup)

abbrev pub IsHere : Table (Single TaskGroup) → GroupHere → Type 0
IsHere t None = Unit {0}
IsHere t (Some g) = Ok g.1 ≡ item_at item_of t g.0.rep g.0.serial

abbrev pub raised : Table (Single TaskGroup) → GroupHere → Table (Single TaskGroup)
raised t None = t
raised t (Some g) = with_entry g.0.rep (entry_of (record g.1 { calls = g.1.calls + 1 })) t

abbrev pub group_name : GroupHere → Option ℕ
group_name group = option_map (λ (g : TableId GroupKey × TaskGroup). g.1.number) group

-- The record of a work that is made.
abbrev pub record_for : ℕ → WorkRequest → GroupHere → WorkNodes → WorkRecord
record_for number q group nodes = record {
  number = number;
  work = new_work q.caller q.host (group_name group);
  maker = q.maker;
  joined = 0;
  group = option_map_or (λ (g : TableId GroupKey × TaskGroup). g.0.rep) group 0;
  entry = q.entry;
  ready = nodes.ready;
  live = nodes.live;
  mark = nodes.mark;
  blocked = nodes.blocked;
}

-- The work that is asked for, with its push and its handle in an instance.
abbrev pub requested_work : (instance : ℕ) → WorkRequest → TableId GroupKey × TaskGroup → Core → Core
requested_work i q group s = with_handle i (subtask.Host (next_work s)) (work_queued q.caller q.host (group_name (Some group)) s)

-- One work less, and its handle's room, is counted: all else but the tables of works and of groups is as before.
abbrev pub IsWorkLess : (old new : CoreParts) → Type 0
IsWorkLess a b = b ≡ record a {
  works = b.works;
  groups = b.groups;
  made = record a.made { works = a.made.works - 1 };
  kept = record a.kept { used = a.kept.used - 1 };
}

-- What the push of a work's record changed.
pub record PushesWork (a b : CoreParts) (w : WorkRecord) (group : GroupHere) (id : ℕ) (used : ℕ) : Type 0 where
  pub works : b.works ≡ pushed (entry_of w) a.works
  pub at : id ≡ next_place a.works
  pub only :
      b ≡ record a {
        works = b.works;
        groups = raised a.groups group;
        made = record a.made { works = a.made.works + 1 };
        kept = record a.kept { used = a.kept.used + used };
      }

-- What a work is to have hangs on nothing yet, and the lists that it goes to are there.
pub record MayQueueWork (a : CoreParts) (nodes : WorkNodes) : Type 0 where
  pub loose : AreWorkLoose (bare (parts_of a)) nodes
  pub high : IsSome a.high
  pub live : IsSome a.live

-- The work is the next one, of this group, if it is a call.
pub record IsWorkNextOf (a : CoreParts) (w : WorkRecord) (group : GroupHere) : Type 0 where
  pub next : IsWorkNext (bare (parts_of a)) (bare_work w)
  pub here : IsHere a.groups group
  pub named : w.work.group ≡ group_name group

-- The id names it, and it has no entry yet.
pub record NamesNewWork (id : TableId HostTaskKey) (s t : StateView) : Type 0 where
  pub named : work_of t id ≡ s.core.made.works + 1
  pub unqueued : work_entries (s.core.made.works + 1) t.core.queues.high ≡ 0
