-- The run is made where the hosts answer in this way.
use Rattle.choice_offers.specs.Choices.{chosen_of}
use Rattle.choice_offers.specs.declared.choice.Choice.{Choice}
use Rattle.choice_run.specs.Chosen.{EndsAs}
use Rattle.choice_search.proofs.AskedLemmas.{way_closed, way_runnable}
use Rattle.choice_search.proofs.StepLemmas.{made_same, with_list}
use Rattle.choice_search.proofs.search.Search.make.Goals as goal
use Rattle.choice_search.specs.Searching.{asked_of}
use Rattle.choice_search.specs.Ways.{hosts_at}
use Rattle.machine_data.specs.declared.component.HostDef.{HostDef}
use Rattle.machine_rules.specs.Scripts.{HasOpen}
use Rattle.std.proofs.Common.{ap, arith, refl, subst, sym, ◌∙◌}
use Rattle.std.specs.Prelude.{List, map}
use Rattle.task_run.specs.Headline.{machine_scenario}
use Rattle.task_run.specs.Runnable.{IsRunnable}

pub returns-then-self-eq0 : goal.returns-then-self-eq0
returns-then-self-eq0 c = (refl, c.if-self-eq0.true)

pub run_on-requires-clause-scenario : goal.run_on-requires-clause-scenario
run_on-requires-clause-scenario c =
    let s = c.args.self.now in
    subst (λ (hs : List HostDef). IsRunnable (with_list s hs)) (sym (c.in_ok-hosts.ensures ∙ ap (λ (ds : List HostDef). hosts_at s.asked.polls ds c.args.way) c.as_slice.ensures.value)) (way_runnable (asked_of s) s.asked.polls c.args.way c.requires.runnable)

pub run_on-requires-clause-hosts : goal.run_on-requires-clause-hosts
run_on-requires-clause-hosts c =
    let s = c.args.self.now in
    subst (λ (hs : List HostDef). HasOpen (with_list s hs).component → ⊥) (sym (c.in_ok-hosts.ensures ∙ ap (λ (ds : List HostDef). hosts_at s.asked.polls ds c.args.way) c.as_slice.ensures.value)) (way_closed (asked_of s) s.asked.polls c.args.way c.requires.closed)

pub run_on-requires-clause-few : goal.run_on-requires-clause-few
run_on-requires-clause-few c = let few = c.requires.few in let limit = c.steps_left-steps.ensures in omega (arith, limit, few)

pub take-requires-clause-asked : goal.take-requires-clause-asked
take-requires-clause-asked c = c.requires

pub take-requires-clause-scenario : goal.take-requires-clause-scenario
take-requires-clause-scenario c =
    let s = c.args.self.now in
    ap (λ (hs : List HostDef). with_list s hs) (c.in_ok-hosts.ensures ∙ ap (λ (ds : List HostDef). hosts_at s.asked.polls ds c.args.way) c.as_slice.ensures.value)

pub take-requires-clause-steps : goal.take-requires-clause-steps
take-requires-clause-steps c = c.steps_left-steps.ensures

pub take-requires-clause-end : goal.take-requires-clause-end
take-requires-clause-end c =
    subst (λ (ds : List Choice). EndsAs (machine_scenario (with_list c.args.self.now c.in_ok-hosts.hosts)) c.steps_left-steps.result (map chosen_of ds) c.in_ok-end.end) c.as_slice-2.ensures.value c.in_ok-end.ensures

pub returns : goal.returns
returns c = made_same c.args.self.now c.take.new.self c.in_ok-hosts.hosts c.args.way (map chosen_of c.args.choices.items) c.in_ok-part.part c.in_ok-part.ensures
