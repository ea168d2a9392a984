-- The scenario of the tree may run, and takes the requests.
use Rattle.serve_requests.specs.declared.request.Request.{Request}
use Rattle.serve_main.proofs.TakenLemmas.{all_taken}
use Rattle.serve_main.proofs.program.serve_parts.Goals as goal
use Rattle.serve_main.specs.Knows.{AllTaken}
use Rattle.serve_main.specs.Serves.{IsServedBy}
use Rattle.std.proofs.Common.{refl, subst, sym}
use Rattle.std.specs.Prelude.{List}
use Rattle.task_run.proofs.HeadlineLemmas.{runnable_read}
use Rattle.task_run.specs.Lower.{scenario_of}
use Rattle.task_run.specs.declared.scenario.Scenario.{Scenario}

pub serve_scenario-requires-clause-runnable : goal.serve_scenario-requires-clause-runnable
serve_scenario-requires-clause-runnable c = runnable_read c.args.scenario.now c.in-Ok.scenario (c.in_ok-input.input.scenario, c.in_ok-input.ensures.0, c.in-Ok.ensures)

pub serve_scenario-requires-clause-taken : goal.serve_scenario-requires-clause-taken
serve_scenario-requires-clause-taken c =
    let read = c.in_ok-input.input in
    subst (λ (rs : List Request). AllTaken c.in-Ok.scenario.component rs) (sym c.as_slice.ensures.value)
    (subst (λ (x : Scenario). AllTaken x.component read.requests.items) (sym c.in-Ok.ensures) (all_taken read.scenario read.requests.items c.in_ok-input.ensures.1.suited))

pub serve_scenario-requires-clause-few : goal.serve_scenario-requires-clause-few
serve_scenario-requires-clause-few c = rw c.as_slice.ensures.value c.in_ok-input.ensures.1.few

pub returns-in-Ok-serve_scenario : goal.returns-in-Ok-serve_scenario
returns-in-Ok-serve_scenario c =
    let read = c.in_ok-input.input in
    record {
      tree = read.scenario;
      reads = c.in_ok-input.ensures.0;
      requests = read.requests.items;
      are = c.in_ok-input.ensures.1;
      served_by = subst (λ (rs : List Request). IsServedBy (scenario_of read.scenario) rs c.args.limit c.args.steps c.in-Ok-serve_scenario.served) c.as_slice.ensures.value
          (subst (λ (x : Scenario). IsServedBy x c.as_slice.result.now c.args.limit c.args.steps c.in-Ok-serve_scenario.served) c.in-Ok.ensures c.in-Ok-serve_scenario.ensures);
    }
