-- The runs of these scenarios, computed.
use Rattle.std.proofs.Common.{refl}
use Rattle.std.specs.Prelude.{[]}
use Rattle.machine_data.specs.declared.outcome.Outcome.TheVariants as outcome
use Rattle.machine_data.specs.declared.trap.Trap.TheVariants as trap
use Rattle.laws_examples.proofs.PlayLemmas.{example}
use Rattle.laws_examples.specs.Cancels.{cancel_of_a_subtask_joined_to_a_set_traps, cancel_of_a_subtask_joined_to_a_set_traps_labels, cancel_withdraws_a_held_start, cancel_withdraws_a_held_start_labels, sync_cancel_of_a_waiting_callback, sync_cancel_of_a_waiting_callback_labels, task_cancel_without_a_request_traps, task_cancel_without_a_request_traps_labels}
use Rattle.laws_examples.specs.Play.{Example}
use Rattle.laws_examples.specs.Definitions.{the_definitions}

pub cancel_of_a_subtask_joined_to_a_set_traps_shown : Example cancel_of_a_subtask_joined_to_a_set_traps 1000 cancel_of_a_subtask_joined_to_a_set_traps_labels (outcome.Trap trap.WaitableSyncAndAsync)
unfolding the_definitions
cancel_of_a_subtask_joined_to_a_set_traps_shown = example cancel_of_a_subtask_joined_to_a_set_traps [] 1000 cancel_of_a_subtask_joined_to_a_set_traps_labels (outcome.Trap trap.WaitableSyncAndAsync) refl refl

pub cancel_withdraws_a_held_start_shown : Example cancel_withdraws_a_held_start 1000 cancel_withdraws_a_held_start_labels (outcome.Done 3)
unfolding the_definitions
cancel_withdraws_a_held_start_shown = example cancel_withdraws_a_held_start [] 1000 cancel_withdraws_a_held_start_labels (outcome.Done 3) refl refl

pub sync_cancel_of_a_waiting_callback_shown : Example sync_cancel_of_a_waiting_callback 1000 sync_cancel_of_a_waiting_callback_labels (outcome.Done 4)
unfolding the_definitions
sync_cancel_of_a_waiting_callback_shown = example sync_cancel_of_a_waiting_callback [] 1000 sync_cancel_of_a_waiting_callback_labels (outcome.Done 4) refl refl

pub task_cancel_without_a_request_traps_shown : Example task_cancel_without_a_request_traps 1000 task_cancel_without_a_request_traps_labels (outcome.Trap trap.TaskCancelNotCancelled)
unfolding the_definitions
task_cancel_without_a_request_traps_shown = example task_cancel_without_a_request_traps [] 1000 task_cancel_without_a_request_traps_labels (outcome.Trap trap.TaskCancelNotCancelled) refl refl
