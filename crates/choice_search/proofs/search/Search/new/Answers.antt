-- Nothing is begun yet, so all is ahead.
use Rattle.choice_search.proofs.StepLemmas.{begun}
use Rattle.choice_search.proofs.search.Search.new.Goals as goal
use Rattle.choice_search.specs.Searching.{IsAsked}
use Rattle.choice_search.specs.declared.search.Asked.{Asked}
use Rattle.machine_data.specs.declared.component.HostDef.{HostDef}
use Rattle.std.proofs.Common.{ap, refl, subst, sym, ◌∙◌}
use Rattle.std.specs.Prelude.{List}
use Rattle.task_run.specs.declared.scenario.Scenario.{Scenario}

pub returns : goal.returns
returns c =
    let x = c.args.scenario in
    let same = ap (λ (hs : List HostDef). record x { component = record x.component { hosts = hs } }) (c.in_ok-hosts.ensures.items ∙ c.as_slice.ensures) in
    let a : Asked = record { steps = c.args.steps; polls = c.args.polls; kinds = c.args.kinds } in
    record {
      scenario = same;
      asked = refl;
      budget_is = refl;
      searches = begun _ (subst (λ (y : Scenario). IsAsked y a) (sym same) (record { runnable = c.requires.runnable; closed = c.requires.hosts; few = c.requires.few })) c.new.ensures.items refl refl refl;
    }
