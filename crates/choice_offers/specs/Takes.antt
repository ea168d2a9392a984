-- An entry that is to be taken, as the search for its offer needs it.
use Rattle.core_primitives.specs.Live.{delivered_set}
use Rattle.core_primitives.specs.StateView.{StateView, thread_of, work_of}
use Rattle.core_primitives.specs.declared.names.EntryId.TheVariants as entry
use Rattle.core_primitives.specs.declared.names.EntryId.{EntryId}
use Rattle.machine_data.specs.Moves.{why_of}
use Rattle.machine_data.specs.Maps.{get}
use Rattle.machine_data.specs.Read.{instance_of, place_of, task_of}
use Rattle.machine_data.specs.declared.records.Place.TheVariants as place
use Rattle.machine_data.specs.declared.records.Subtask.TheVariants as subtask
use Rattle.machine_data.specs.declared.statuses.Mark.{Mark}
use Rattle.ops_moves.specs.Idle.{IsJoinThere}
use Rattle.ops_guests.specs.PickedEvents.{MembersNamed}
use Rattle.std.specs.Prelude.{Some, is_some, true, ℕ, ◌<◌, ◌≡◌}
use Rattle.task_table.specs.declared.id.TableId.{TableId}
use Rattle.task_wait.specs.declared.keys.ThreadKey.{ThreadKey}

-- The thread has an entry; the set that its call is joined to is there, and the set of its delivery, whose ready members are named in the
-- thread's instance.
pub record IsThreadThere (id : TableId ThreadKey) (s : StateView) : Type 0 where
  pub live : 0 < thread_of s id
  pub mark : Mark
  pub place : place_of (thread_of s id) s.core ≡ Some (place.Ready mark (why_of (thread_of s id) s.core))
  pub join : IsJoinThere (subtask.Guest (task_of (thread_of s id) s.core)) s.core
  pub set : (x : ℕ) → delivered_set (why_of (thread_of s id) s.core) ≡ Some x → is_some (get s.core.sets x) ≡ true
  pub members : (x : ℕ) → delivered_set (why_of (thread_of s id) s.core) ≡ Some x →
      MembersNamed (instance_of (thread_of s id) s.core) x s.core

-- what the entry is of is there
abbrev pub IsEntryThere : EntryId → StateView → Type 0
IsEntryThere (entry.Thread id) s = IsThreadThere id s
IsEntryThere (entry.Push w) s = Unit {0}
IsEntryThere (entry.Host w) s = IsJoinThere (subtask.Host (work_of s w)) s.core
