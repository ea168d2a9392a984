-- Calls that may wake a waiter of a set.
use Rattle.laws_order.specs.KeptOrder.{CanTell, CanJoin}
use Rattle.std.specs.Prelude.{Bool, IfSome, None, Ok, Option, Result, Some, true, ℕ, ◌≡◌, is_some}
use Rattle.ops_state.specs.Named.{IsLive, number_of, waitable_in}
use Rattle.ops_state.specs.declared.error.TaskError.{TaskError}
use Rattle.ops_state.specs.declared.name_calls.QualifiedThreadId.{QualifiedThreadId}
use Rattle.machine_data.specs.Core.{Core}
use Rattle.machine_data.specs.Moves.{published, wake_joined, may_publish}
use Rattle.machine_data.specs.Read.{event_of, join_of, subtask_handle}
use Rattle.machine_data.specs.Write.{set_join}
use Rattle.machine_data.specs.declared.records.Subtask.{Subtask}
use Rattle.machine_data.specs.declared.statuses.Status.{Status}
use Rattle.machine_rules.specs.Sets.{joins, wakes_joined, may_wake_new}
use Rattle.task_wait.specs.declared.codes.Event.{Event}
use Rattle.task_wait.specs.declared.codes.Event.TheVariants as event
use Rattle.core_primitives.specs.StateView.{StateView, on_core, set_if_any}
use Rattle.task_wait.specs.declared.keys.Waitable.{Waitable}
use Rattle.task_wait.specs.declared.keys.SetKey.{SetKey}
use Rattle.task_table.specs.declared.id.TableId.{TableId}

-- The move was made with this waiter, whom it may wake, or with none, where there is none; it is the answer.
pub record Wakes (may : Option ℕ → Core → Bool) (move : Option ℕ → Core → Core) (s : StateView)
    (r : Result (Option QualifiedThreadId) TaskError) (t : StateView) : Type 0 where
  pub woken : Option QualifiedThreadId
  pub answer : r ≡ Ok woken
  pub live : IfSome woken (λ id. IsLive s id)
  pub may_wake : may (number_of s woken) s.core ≡ true
  pub core : t ≡ on_core (move (number_of s woken)) s

-- the status that a subtask's event tells
abbrev pub status_in : Event → Option Status
status_in (event.Subtask e) = Some e
status_in _ = None

-- the event is a status that the subtask can tell now
abbrev pub CanBeTold : Subtask → Event → Core → Type 0
CanBeTold sub (event.Subtask e) s = CanTell sub e s
CanBeTold sub _ s = ⊥

-- the event of the subtask, with the waiter that is woken; default: no event of a subtask
abbrev pub event_set : Subtask → Event → Option ℕ → Core → Core
event_set sub (event.Subtask e) w s = published sub e w s
event_set sub _ w s = s

-- the subtask has left its set and joined the other one, if there is one
abbrev pub set_joined : Subtask → Option ℕ → Option ℕ → Core → Core
set_joined sub x w s = wakes_joined (event_of sub s) x w (set_join sub (joins x) s)

-- a waiter of the subtask's set is woken
abbrev pub member_woken : Subtask → Option ℕ → Core → Core
member_woken sub w s = wake_joined (join_of sub s) w s

-- ---- The calls, by the waitable whose event it is

-- its event is set, and a waiter that it may wake is woken
abbrev pub SetsEvent : Waitable → Event → StateView → Result (Option QualifiedThreadId) TaskError → StateView → Type 0
SetsEvent w e s r t = Wakes (may_publish (waitable_in s.tags w)) (event_set (waitable_in s.tags w) e) s r t

-- a waiter of its set is woken that its event may wake
abbrev pub MarksReady : Waitable → StateView → Result (Option QualifiedThreadId) TaskError → StateView → Type 0
MarksReady w s r t = Wakes (may_publish (waitable_in s.tags w)) (member_woken (waitable_in s.tags w)) s r t

-- it has left its set and joined the other one, if one is given, of which a waiter is woken where it has an event
abbrev pub JoinsSet : Waitable → Option (TableId SetKey) → StateView → Result (Option QualifiedThreadId) TaskError → StateView → Type 0
JoinsSet w set s r t =
    let sub = waitable_in s.tags w in
    let x = set_if_any s set in
    Wakes (may_wake_new (event_of sub s.core) x) (set_joined sub x) s r t

-- it may join the set, or leave its own, with order kept
abbrev pub MayJoin : Waitable → Option (TableId SetKey) → StateView → Type 0
MayJoin w set s = CanJoin (waitable_in s.tags w) (set_if_any s set) s.core

-- a handle names it
abbrev pub has_handle : Waitable → StateView → Bool
has_handle w s = is_some (subtask_handle (waitable_in s.tags w) s.core)
