-- The states in which nothing can go on.
use Rattle.std.specs.List.{list_any}
use Rattle.std.specs.Prelude.{Bool, IsTrue, List, None, Option, Some, false, if◌then◌else◌, is_some, not, true, ℕ, ◌&&◌, ◌||◌}
use Rattle.machine_data.specs.declared.component.Component.{Component}
use Rattle.machine_data.specs.declared.scenario.IdleLine.{IdleLine}
use Rattle.machine_data.specs.declared.scenario.MainOpDef.{MainOpDef}
use Rattle.machine_data.specs.declared.records.Place.{Place}
use Rattle.machine_data.specs.declared.scenario.ScenarioDef.{ScenarioDef}
use Rattle.machine_data.specs.declared.records.Stage.{Stage}
use Rattle.machine_data.specs.declared.trap.Trap.{Trap}
use Rattle.machine_data.specs.declared.records.Turn.{Turn}
use Rattle.machine_data.specs.declared.scenario.IdleLine.TheVariants as idle_line
use Rattle.machine_data.specs.declared.records.Place.TheVariants as place
use Rattle.machine_data.specs.declared.records.Stage.TheVariants as stage
use Rattle.machine_data.specs.declared.trap.Trap.TheVariants as trap
use Rattle.machine_data.specs.declared.records.Turn.TheVariants as turn
use Rattle.machine_data.specs.Core.{Core, Main, MainPlace, Scripted, State, Unscripted}
use Rattle.machine_data.specs.Maps.{numbers}
use Rattle.machine_data.specs.Read.{admitted_held, any_thread, event_of, has_ready_member, has_waiter, is_behind, is_delivery_for, is_nil, may_not_suspend, undelivered_end}
use Rattle.machine_rules.specs.MainOps.{MainProgress, Pends, act_of, line_of, main_rule, op_at}
use Rattle.machine_rules.specs.Turns.{queues_are_empty}
use Rattle.machine_rules.specs.Works.{has_live_work, has_moving_work, is_ended_work}

-- What the steps of a state are seen beside: the component, main's script and the idle line.
pub record Setting : Type 0 where
  pub component : Component
  pub script : List MainOpDef
  pub idle : IdleLine

-- the setting of a scenario
abbrev pub setting_of : ScenarioDef → Setting
setting_of x = record { component = x.component; script = x.main; idle = x.idle }

-- ---- Main's op

abbrev pub is_pending : MainProgress → Bool
is_pending Pends = true
is_pending _ = false

-- past the script's end main pends for ever
abbrev pub pends_at : Setting → Core → MainPlace → Option MainOpDef → Bool
pends_at x s p None = true
pends_at x s p (Some o) = is_pending (main_rule x.component (line_of p o) s (act_of p o))

-- main's op pends; of a main that is no script this is left to its label
abbrev pub main_pends : Setting → Core → Main → Bool
main_pends x s (Scripted p) = pends_at x s p (op_at x.script p)
main_pends x s Unscripted = true

-- ---- The lines of Stalled

abbrev pub is_unended_take : Turn → Bool
is_unended_take (turn.Take false) = true
is_unended_take _ = false

-- line 1: an entry is to be taken, no work ended in this turn, and main's op pends
abbrev pub waits_for_entry : Setting → State → Bool
waits_for_entry x s = is_unended_take s.turn && main_pends x s.core s.main

abbrev pub is_queued_or_finishing : Stage → Bool
is_queued_or_finishing stage.Queued = true
is_queued_or_finishing stage.Finishing = true
is_queued_or_finishing _ = false

-- line 3: every live work is never and isn't aborted, and none is queued or finishing
abbrev pub works_rest : Core → Bool
works_rest s = not (has_moving_work s) && not (list_any (λ e. is_queued_or_finishing e.1.stage) s.works.list)

-- line 4: no thread is behind another
abbrev pub none_behind : Core → Bool
none_behind s = not (any_thread (λ t. is_behind t.place) s)

-- line 5: no held thread is admitted
abbrev pub none_admitted : Core → Bool
none_admitted s = not (list_any (λ e. not (is_nil (admitted_held e.0 s))) s.instances.list)

abbrev pub is_held_for : ℕ → Place → Bool
is_held_for x (place.Held w) = is_delivery_for x w
is_held_for x _ = false

-- the set has a ready member and a waiter, and no delivery for it is held
abbrev pub is_passed_over : ℕ → Core → Bool
is_passed_over x s = has_ready_member x s && (has_waiter x s && not (any_thread (λ t. is_held_for x t.place) s))

-- line 6: no set has a ready member and a waiter, unless a delivery for it is held
abbrev pub no_set_passed_over : Core → Bool
no_set_passed_over s = not (list_any (λ x. is_passed_over x s) (numbers s.sets))

abbrev pub is_blocked_on_end : Core → Place → Bool
is_blocked_on_end s (place.Blocked sub) = is_some (undelivered_end (event_of sub s)) || is_ended_work sub s
is_blocked_on_end s _ = false

-- line 7: no thread is blocked on a waitable whose end is undelivered, or on a host's work that has ended and has no entry
abbrev pub none_blocked_on_end : Core → Bool
none_blocked_on_end s = not (any_thread (λ t. is_blocked_on_end s t.place) s)

unfoldable pub is_idle : Setting → State → Bool
is_idle x s = waits_for_entry x s && (queues_are_empty s.core && works_rest s.core)

unfoldable pub is_stalled : Setting → State → Bool
is_stalled x s = is_idle x s && (none_behind s.core && (none_admitted s.core && (no_set_passed_over s.core && none_blocked_on_end s.core)))

-- the first three lines
abbrev pub Idle : Setting → State → Type 0
Idle x s = IsTrue (is_idle x s)

-- all seven lines
abbrev pub Stalled : Setting → State → Type 0
Stalled x s = IsTrue (is_stalled x s)

-- ---- Deadlock

-- the instance of some call may not suspend
abbrev pub some_may_not_suspend : Core → Bool
some_may_not_suspend s = list_any (λ e. may_not_suspend e.1.callee.instance s) s.calls.list

abbrev pub deadlock_trap : Core → Trap
deadlock_trap s = if some_may_not_suspend s then trap.CannotBlockSyncTask else trap.AsyncDeadlock

abbrev pub is_idle_trap : IdleLine → Bool
is_idle_trap idle_line.Trap = true
is_idle_trap idle_line.Wait = false

-- a deadlock may come: nothing can go on, no work is live, and it is to trap
unfoldable pub may_deadlock : Setting → State → Bool
may_deadlock x s = is_stalled x s && (is_idle_trap x.idle && not (has_live_work s.core))
