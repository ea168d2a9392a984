-- What two wrong machines result in that lose a wake: the steps of the right one, and a last one that it would not make.
use Rattle.std.specs.Prelude.{List, false, take, ℕ}
use Rattle.machine_data.specs.Core.{Core}
use Rattle.machine_data.specs.Moves.{PickedTaskEvent, stopped}
use Rattle.machine_data.specs.Write.{set_op_progress, set_place}
use Rattle.machine_data.specs.declared.label.Label.{Label}
use Rattle.machine_data.specs.declared.scenario.ScenarioDef.{ScenarioDef}
use Rattle.machine_data.specs.declared.records.OpProgress.TheVariants as op_progress
use Rattle.machine_data.specs.declared.records.Place.TheVariants as place
use Rattle.machine_data.specs.declared.statuses.Given.TheVariants as given
use Rattle.machine_data.specs.declared.statuses.Mark.TheVariants as mark
use Rattle.machine_data.specs.declared.statuses.TaskEvent.TheVariants as own
use Rattle.machine_rules.specs.Takes.{activated, popped}
use Rattle.laws_examples.specs.Guests.{outer_caller_is_resumed_while_a_direct_callee_blocks, outer_caller_is_resumed_while_a_direct_callee_blocks_labels}
use Rattle.laws_examples.specs.Wakes.{cancelled_delivery_hands_its_wake_to_the_next_waiter, cancelled_delivery_hands_its_wake_to_the_next_waiter_labels}
use Rattle.laws_examples.specs.Wrong.{state_after}

-- the core after the first n labels
abbrev pub core_after : ScenarioDef → List Label → ℕ → Core
core_after x ls n = (state_after x (take n ls)).core

-- a woken callback takes Cancelled while a member is ready, and its wake isn't handed on to the other waiter
abbrev pub swallowed_wake : Core
swallowed_wake =
    activated 2 (PickedTaskEvent own.Cancelled) given.Cancelled (popped mark.High (
    core_after cancelled_delivery_hands_its_wake_to_the_next_waiter cancelled_delivery_hands_its_wake_to_the_next_waiter_labels 40))

-- an inner direct call waits, and the callers of its own thread alone are resumed, not those of the strand's foot
abbrev pub forgotten_caller : Core
forgotten_caller =
    set_op_progress 3 (op_progress.Waits 1) (set_place 3 (place.Waiting 1 false) (stopped 3 (
    core_after outer_caller_is_resumed_while_a_direct_callee_blocks outer_caller_is_resumed_while_a_direct_callee_blocks_labels 8)))
