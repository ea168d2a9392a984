-- A run that has come to something is cut off, is looked for, or ends all runs that go on from its choices.
use Rattle.choice_offers.specs.Choices.{chosen_of}
use Rattle.choice_run.specs.Chosen.{EndsAs}
use Rattle.choice_run.specs.declared.run.RunEnd.TheVariants as run_end
use Rattle.choice_search.proofs.FoundLemmas.{few_labels, found, gone_over, none_left}
use Rattle.choice_search.proofs.search.Search.count.Goals as goal
use Rattle.choice_search.specs.Searching.{asked_of}
use Rattle.std.proofs.Common.{ap, arith, refl, subst, sym, ◌∙◌}
use Rattle.std.specs.Prelude.{map, ℕ, ◌-◌, ◌≡◌}
use Rattle.task_run.specs.Headline.{machine_scenario}
use Rattle.task_run.specs.declared.scenario.Scenario.{Scenario}

pub overflow_sub-self : goal.overflow_sub-self
overflow_sub-self c =
    let s = c.args.self.now in
    let r = c.args.report in
    let cs = map chosen_of c.args.choices.items in
    let there = subst (λ (y : Scenario). EndsAs (machine_scenario y) c.args.steps cs (run_end.Reports r)) c.requires.scenario c.requires.end in
    let few = few_labels (asked_of s) s.asked c.args.way c.args.steps s.left c.requires.steps cs r.trace.labels r.outcome r.used there in
    let size = c.len.ensures in
    omega (arith, few, size)

pub returns-then-is_cut_off : goal.returns-then-is_cut_off
returns-then-is_cut_off c =
    let s = c.args.self.now in
    let r = c.args.report in
    let cs = map chosen_of c.args.choices.items in
    let there = subst (λ (y : Scenario). EndsAs (machine_scenario y) c.args.steps cs (run_end.Reports r)) c.requires.scenario c.requires.end in
    let cut = c.is_cut_off.ensures.cut c.if-is_cut_off.true in (
      refl,
      subst (λ (n : ℕ). s.left - n ≡ 0) (sym c.len.ensures) (none_left (asked_of s) s.asked c.args.way c.args.steps s.left c.requires.steps cs r.trace.labels r.outcome r.used there cut.0 cut.1),
    )

pub returns-then-not-has : goal.returns-then-not-has
returns-then-not-has c =
    let s = c.args.self.now in
    let r = c.args.report in
    let cs = map chosen_of c.args.choices.items in
    let there = subst (λ (y : Scenario). EndsAs (machine_scenario y) c.args.steps cs (run_end.Reports r)) c.requires.scenario c.requires.end in
    record {
      same = record { scenario = refl; asked = refl; budget = refl };
      way = refl;
      next = refl;
      number = refl;
      gone =
          gone_over (asked_of s) s.asked c.args.way c.args.steps s.left c.requires.steps cs r.trace.labels r.outcome r.used there c.requires.asked (c.is_cut_off.ensures.whole c.if-is_cut_off.false)
          (sym c.has.ensures ∙ c.if-not-has.true) s.branches.items;
    }

pub returns : goal.returns
returns c =
    let s = c.args.self.now in
    let r = c.args.report in
    let cs = map chosen_of c.args.choices.items in
    let there = subst (λ (y : Scenario). EndsAs (machine_scenario y) c.args.steps cs (run_end.Reports r)) c.requires.scenario c.requires.end in
    found (asked_of s) s.asked c.args.way c.args.steps s.left c.requires.steps cs r.trace.labels r.outcome r.used there (record { hosts = c.from_vec.result; choices = c.args.choices; report = r })
    (c.from_vec.ensures ∙ (c.in_ok-hosts.ensures.items ∙ (c.as_slice.ensures ∙ ap (λ (y : Scenario). y.component.hosts) c.requires.scenario))) refl refl refl refl (sym c.has.ensures ∙ c.if-not-has.false)
