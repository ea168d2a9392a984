-- The runs of these scenarios, computed.
use Rattle.std.proofs.Common.{refl}
use Rattle.std.specs.Prelude.{[], ◌∷◌}
use Rattle.machine_data.specs.declared.outcome.Outcome.TheVariants as outcome
use Rattle.machine_data.specs.declared.trap.Trap.TheVariants as trap
use Rattle.laws_examples.proofs.PlayLemmas.{example}
use Rattle.laws_examples.specs.Calls.{callback_returns_its_parameter, callback_returns_its_parameter_labels, exit_without_return_traps, exit_without_return_traps_labels, return_of_the_wrong_type_after_an_end_traps, return_of_the_wrong_type_after_an_end_traps_labels, return_of_the_wrong_type_traps, return_of_the_wrong_type_traps_labels, run_stops_when_steps_are_used_up, run_stops_when_steps_are_used_up_labels, second_return_traps, second_return_traps_labels, main_waits_until_an_instance_lets_calls_in, main_waits_until_an_instance_lets_calls_in_labels, held_starts_are_released_in_either_order, held_starts_are_released_in_either_order_labels}
use Rattle.laws_examples.specs.Play.{Example}
use Rattle.laws_examples.specs.Definitions.{the_definitions}

pub callback_returns_its_parameter_shown : Example callback_returns_its_parameter 7 callback_returns_its_parameter_labels (outcome.Done 7)
unfolding the_definitions
callback_returns_its_parameter_shown = example callback_returns_its_parameter [] 7 callback_returns_its_parameter_labels (outcome.Done 7) refl refl

pub exit_without_return_traps_shown : Example exit_without_return_traps 1000 exit_without_return_traps_labels (outcome.Trap trap.NoAsyncResult)
unfolding the_definitions
exit_without_return_traps_shown = example exit_without_return_traps [] 1000 exit_without_return_traps_labels (outcome.Trap trap.NoAsyncResult) refl refl

pub run_stops_when_steps_are_used_up_shown : Example run_stops_when_steps_are_used_up 6 run_stops_when_steps_are_used_up_labels outcome.OutOfSteps
unfolding the_definitions
run_stops_when_steps_are_used_up_shown = example run_stops_when_steps_are_used_up [] 6 run_stops_when_steps_are_used_up_labels outcome.OutOfSteps refl refl

pub second_return_traps_shown : Example second_return_traps 1000 second_return_traps_labels (outcome.Trap trap.TaskCancelOrReturnTwice)
unfolding the_definitions
second_return_traps_shown = example second_return_traps [] 1000 second_return_traps_labels (outcome.Trap trap.TaskCancelOrReturnTwice) refl refl

pub return_of_the_wrong_type_traps_shown : Example return_of_the_wrong_type_traps 1000 return_of_the_wrong_type_traps_labels (outcome.Trap trap.TaskReturnInvalid)
unfolding the_definitions
return_of_the_wrong_type_traps_shown = example return_of_the_wrong_type_traps [] 1000 return_of_the_wrong_type_traps_labels (outcome.Trap trap.TaskReturnInvalid) refl refl

pub return_of_the_wrong_type_after_an_end_traps_shown : Example return_of_the_wrong_type_after_an_end_traps 1000 return_of_the_wrong_type_after_an_end_traps_labels (outcome.Trap trap.TaskCancelOrReturnTwice)
unfolding the_definitions
return_of_the_wrong_type_after_an_end_traps_shown = example return_of_the_wrong_type_after_an_end_traps [] 1000 return_of_the_wrong_type_after_an_end_traps_labels (outcome.Trap trap.TaskCancelOrReturnTwice) refl refl

pub main_waits_until_an_instance_lets_calls_in_shown : Example main_waits_until_an_instance_lets_calls_in 300 main_waits_until_an_instance_lets_calls_in_labels (outcome.Done 4)
unfolding the_definitions
main_waits_until_an_instance_lets_calls_in_shown = example main_waits_until_an_instance_lets_calls_in [] 300 main_waits_until_an_instance_lets_calls_in_labels (outcome.Done 4) refl refl

pub held_starts_are_released_in_either_order_shown : Example held_starts_are_released_in_either_order 300 held_starts_are_released_in_either_order_labels (outcome.Done 1)
unfolding the_definitions
held_starts_are_released_in_either_order_shown = example held_starts_are_released_in_either_order ((16, (0, 1) ∷ []) ∷ []) 300 held_starts_are_released_in_either_order_labels (outcome.Done 1) refl refl
