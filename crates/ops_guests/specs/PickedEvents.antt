-- What a task is given, as the code says it.
use Rattle.task_wait.specs.declared.keys.SetKey.{SetKey}
use Rattle.task_wait.specs.declared.keys.GuestTaskKey.{GuestTaskKey}
use Rattle.task_table.specs.declared.id.TableId.{TableId}
use Rattle.std.specs.Prelude.{None, Option, Some, true, ℕ, ◌≡◌, Bool}
use Rattle.machine_data.specs.Core.{Core}
use Rattle.machine_data.specs.Moves.{PickedMember, NothingPicked, PickedTaskEvent, picked_event}
use Rattle.machine_data.specs.Moves as moves
use Rattle.machine_data.specs.Read.{is_ready_member, set_at, subtask_at, subtask_handle}
use Rattle.machine_data.specs.declared.records.Subtask.{Subtask}
use Rattle.ops_guests.specs.declared.picked_events.PickedEvent.{PickedEvent}
use Rattle.ops_guests.specs.declared.picked_events.PickedEvent.TheVariants as picked_events
use Rattle.core_primitives.specs.Names.{subtask_in}
use Rattle.machine_rules.specs.Picks.{TakesFirst}
use Rattle.core_primitives.specs.Preferences.{preference}
use Rattle.core_primitives.specs.StateView.{Tags, StateView, call_of, set_of}

abbrev pub picked_event_in : Tags → PickedEvent → moves.PickedEvent
picked_event_in tags (picked_events.Own e) = PickedTaskEvent e
picked_event_in tags (picked_events.Member sub h) = PickedMember (subtask_in tags sub)
picked_event_in tags picked_events.Nothing = NothingPicked

abbrev pub member_in : Tags → PickedEvent → Option Subtask
member_in tags (picked_events.Member sub h) = Some (subtask_in tags sub)
member_in tags _ = None

abbrev pub handle_in : PickedEvent → Option ℕ
handle_in (picked_events.Member sub h) = Some h
handle_in _ = None

-- Each ready member of the set has a handle, which names it in the instance.
abbrev pub MembersNamed : ℕ → ℕ → Core → Type 0
MembersNamed i x s = (sub : Subtask) → is_ready_member x sub s ≡ true →
    (h : ℕ) × ((subtask_handle sub s ≡ Some h) × (subtask_at i h s ≡ Some sub))

-- what the handle of the picked event names in the instance is the member
abbrev pub IsNamedIn : ℕ → Tags → PickedEvent → Core → Type 0
IsNamedIn i tags (picked_events.Member sub h) s = subtask_at i h s ≡ Some (subtask_in tags sub)
IsNamedIn i tags _ s = Unit {0}

-- the member is the first of the ready ones of its set
abbrev pub IsFirstPicked : ℕ → StateView → PickedEvent → Type 0
IsFirstPicked i s (picked_events.Member sub h) = TakesFirst (preference s) s.core i h
IsFirstPicked i s _ = Unit {0}

-- As before, of each set that the instance names.
abbrev pub AllMembersNamed : ℕ → Core → Type 0
AllMembersNamed i s = (h x : ℕ) → set_at i h s ≡ Some x → MembersNamed i x s

-- This is what the task is given first, with its member.
abbrev pub IsPickedFor : (cancellable : Bool) → TableId GuestTaskKey → TableId SetKey → PickedEvent → StateView → Type 0
IsPickedFor cancellable call set picked s =
    picked_event cancellable (call_of s call) (set_of s set) (member_in s.tags picked) s.core ≡ Some (picked_event_in s.tags picked)
