-- A run up to an open step is a new branch; a wrong choice ends all runs that go on from it.
use Rattle.choice_offers.specs.Choices.{chosen_of}
use Rattle.choice_run.specs.Chosen.{EndsAs}
use Rattle.choice_run.specs.declared.run.RunEnd.{RunEnd}
use Rattle.choice_search.proofs.FoundLemmas.{gone_open, gone_wrong}
use Rattle.choice_search.proofs.search.Search.take.Goals as goal
use Rattle.choice_search.specs.Searching.{IsGone, asked_of, at_way}
use Rattle.choice_search.specs.declared.search.Branch.{Branch}
use Rattle.std.proofs.Common.{refl, subst, sym}
use Rattle.std.specs.Prelude.{List, map}
use Rattle.task_run.specs.Headline.{machine_scenario}
use Rattle.task_run.specs.declared.scenario.Scenario.{Scenario}

pub count-requires-clause-end : goal.count-requires-clause-end
count-requires-clause-end c = subst (λ (e : RunEnd). EndsAs (machine_scenario c.args.self.now.scenario) c.args.steps (map chosen_of c.args.choices.items) e) c.in-Reports.is c.requires.end

pub returns-in-Ok : goal.returns-in-Ok
returns-in-Ok c =
    let s = c.args.self.now in
    let cs = map chosen_of c.args.choices.items in
    let there = subst (λ (y : Scenario). EndsAs (machine_scenario y) c.args.steps cs c.args.end) c.requires.scenario c.requires.end in
    let stops = subst (λ (e : RunEnd). EndsAs (machine_scenario (at_way (asked_of s) s.asked.polls c.args.way)) c.args.steps cs e) c.in-Short.is there in
    record {
      same = record { scenario = refl; asked = refl; budget = refl };
      way = refl;
      next = refl;
      number = refl;
      gone =
          subst (λ (bs : List Branch). IsGone (asked_of s) s.asked s.branches.items c.args.way cs bs) (sym c.in-Ok.ensures.items)
          (gone_open (asked_of s) s.asked c.args.way c.args.steps s.left c.requires.steps cs (record { way = c.args.way; choices = c.args.choices; offer = c.in-Short.offer }) refl refl c.in-Short.labels stops s.branches.items);
    }

pub returns-in-Wrong : goal.returns-in-Wrong
returns-in-Wrong c =
    let s = c.args.self.now in
    let cs = map chosen_of c.args.choices.items in
    let there = subst (λ (y : Scenario). EndsAs (machine_scenario y) c.args.steps cs c.args.end) c.requires.scenario c.requires.end in
    record {
      same = record { scenario = refl; asked = refl; budget = refl };
      way = refl;
      next = refl;
      number = refl;
      gone = gone_wrong (asked_of s) s.asked c.args.way c.args.steps s.left c.requires.steps cs c.requires.asked c.in-Wrong._choice
          (subst (λ (e : RunEnd). EndsAs (machine_scenario (at_way (asked_of s) s.asked.polls c.args.way)) c.args.steps cs e) c.in-Wrong.is there) s.branches.items;
    }
