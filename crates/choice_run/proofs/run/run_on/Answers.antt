-- Each step takes the next choice or the only one, until the run has come to something.
use Rattle.choice_offers.specs.Choices.{chosen_of}
use Rattle.choice_run.proofs.AtLemmas.{at_ends, at_few, at_first, at_next, at_reports, at_short, at_used, at_wrong, next_is}
use Rattle.choice_run.proofs.StepLemmas.{always_some}
use Rattle.choice_run.proofs.run.run_on.Goals as goal
use Rattle.choice_run.specs.Stepping.{StepsChosen}
use Rattle.choice_run.specs.declared.run.Stepped.TheVariants as stepped
use Rattle.choice_run.specs.declared.run.Stepped.{Stepped}
use Rattle.laws_choices.specs.Offer.{Chosen}
use Rattle.std.proofs.Common.{ap, arith, subst, sym}
use Rattle.std.specs.Prelude.{Option, map, option_map}
use Rattle.task_run.specs.Headline.{machine_scenario}
use Rattle.task_run.specs.declared.scenario.Scenario.{Scenario}
use Rattle.trace_machine.specs.Machines.{IsKept}

pub steps-init : goal.steps-init
steps-init c =
    let o = c.in_ok-machine.ensures in
    rw c.new-trace.ensures (at_first (machine_scenario c.args.scenario.now) (map chosen_of c.args.choices.now) c.args.steps c.in_ok-machine.machine o.kept (ap (λ (x : Scenario). machine_scenario x) o.scenario) o.state o.last o.numbers)

pub outcome-requires : goal.outcome-requires
outcome-requires c = c.steps.invariant.made.kept

pub outcome-requires-2 : goal.outcome-requires-2
outcome-requires-2 c = c.steps.invariant.made.kept

pub step-requires-clause-kept : goal.step-requires-clause-kept
step-requires-clause-kept c = c.steps.invariant.made.kept

pub step-requires-clause-few : goal.step-requires-clause-few
step-requires-clause-few c = at_few _ _ _ c.steps.machine _ _ _ c.steps.invariant c.requires.few

pub step-requires-clause-unended : goal.step-requires-clause-unended
step-requires-clause-unended c = sym c.in_default.ensures

pub returns-in-Some : goal.returns-in-Some
returns-in-Some c = at_reports _ _ _ c.steps.machine _ _ _ c.steps.invariant c.in-Some.outcome c.in-Some.ensures

pub used_after-used-requires : goal.used_after-used-requires
used_after-used-requires c =
    let fewer = at_used _ _ _ c.steps.machine _ _ _ c.steps.invariant in
    let within = c.steps.invariant.within in
    let few = c.requires.few in
    omega (arith, fewer, within, few)

pub overflow_add-result : goal.overflow_add-result
overflow_add-result c =
    let fewer = at_used _ _ _ c.steps.machine _ _ _ c.steps.invariant in
    let within = c.steps.invariant.within in
    let few = c.requires.few in
    omega (arith, fewer, within, few)

pub returns-in-Wrong : goal.returns-in-Wrong
returns-in-Wrong c =
    let next = next_is c.args.choices.now c.steps.used (λ r. r.now) c.get-next.result c.get-next.ensures.lookup.3 in
    let said = subst (λ (s : Stepped). StepsChosen c.steps.machine (option_map (λ r. chosen_of r.now) c.get-next.result) s c.step.new.machine c.steps.trace.labels c.step.new.trace.labels) c.in-Wrong.is c.in_ok-stepped.ensures in
    at_wrong _ _ _ c.steps.machine _ _ _ c.steps.invariant c.steps-test.true (sym c.in_default.ensures)
    (subst (λ (o : Option Chosen). StepsChosen c.steps.machine o stepped.Wrong c.step.new.machine c.steps.trace.labels c.step.new.trace.labels) next said)

pub offer-requires : goal.offer-requires
offer-requires c =
    let said = subst (λ (s : Stepped). StepsChosen c.steps.machine (option_map (λ r. chosen_of r.now) c.get-next.result) s c.step.new.machine c.steps.trace.labels c.step.new.trace.labels) c.in-Short.is c.in_ok-stepped.ensures in
    subst (λ m. IsKept m) (sym said.same) c.steps.invariant.made.kept

pub returns-in-Short : goal.returns-in-Short
returns-in-Short c =
    let next = next_is c.args.choices.now c.steps.used (λ r. r.now) c.get-next.result c.get-next.ensures.lookup.3 in
    let said = subst (λ (s : Stepped). StepsChosen c.steps.machine (option_map (λ r. chosen_of r.now) c.get-next.result) s c.step.new.machine c.steps.trace.labels c.step.new.trace.labels) c.in-Short.is c.in_ok-stepped.ensures in
    at_short _ _ _ c.steps.machine _ _ _ c.steps.invariant c.steps-test.true (sym c.in_default.ensures) c.step.new.machine c.in_ok-offer-in-Short.offer
    (subst (λ (o : Option Chosen). StepsChosen c.steps.machine o stepped.Short c.step.new.machine c.steps.trace.labels c.step.new.trace.labels) next said) c.in_ok-offer-in-Short.ensures

pub steps-preserved : goal.steps-preserved
steps-preserved c =
    let next = next_is c.args.choices.now c.steps.used (λ r. r.now) c.get-next.result c.get-next.ensures.lookup.3 in
    let took = c.in-Went.took in
    let said = subst (λ (s : Stepped). StepsChosen c.steps.machine (option_map (λ r. chosen_of r.now) c.get-next.result) s c.step.new.machine c.steps.trace.labels c.step.new.trace.labels) c.in-Went.is c.in_ok-stepped.ensures in
    rw c.used_after-used.ensures
    (at_next _ _ _ c.steps.machine _ _ _ c.steps.invariant c.steps-test.true (sym c.in_default.ensures) took c.step.new.machine c.step.new.trace.labels
    (subst (λ (o : Option Chosen). StepsChosen c.steps.machine o (stepped.Went took) c.step.new.machine c.steps.trace.labels c.step.new.trace.labels) next said))

pub unreachable-requires : goal.unreachable-requires
unreachable-requires c = always_some c.steps.machine c.in_default-outcome.ensures

pub returns : goal.returns
returns c = at_ends _ _ _ c.steps.machine _ _ _ c.steps.invariant c.in-Some-outcome.outcome (λ more. absurd (let done = c.steps-test.false in omega (arith, more, done))) c.in-Some-outcome.ensures
