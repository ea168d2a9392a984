-- The runs of these scenarios, computed.
use Rattle.std.proofs.Common.{refl}
use Rattle.std.specs.Prelude.{[]}
use Rattle.machine_data.specs.declared.outcome.Outcome.TheVariants as outcome
use Rattle.laws_examples.proofs.PlayLemmas.{example}
use Rattle.laws_examples.specs.Play.{Example}
use Rattle.laws_examples.specs.Requests.{generated_scenario_of_one_request_runs_to_done, generated_scenario_of_one_request_runs_to_done_labels}
use Rattle.laws_examples.specs.Definitions.{the_definitions}

pub generated_scenario_of_one_request_runs_to_done_shown : Example generated_scenario_of_one_request_runs_to_done 100 generated_scenario_of_one_request_runs_to_done_labels (outcome.Done 102)
unfolding the_definitions
generated_scenario_of_one_request_runs_to_done_shown = example generated_scenario_of_one_request_runs_to_done [] 100 generated_scenario_of_one_request_runs_to_done_labels (outcome.Done 102) refl refl
