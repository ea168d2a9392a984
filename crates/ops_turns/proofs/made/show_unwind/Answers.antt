use Rattle.std.proofs.Common.{ap, sym, ◌∙◌}
use Rattle.std.specs.Prelude.{[], is_none, ◌++◌, ◌∷◌}
use Rattle.machine_data.specs.declared.label.Label.{Label}
use Rattle.machine_rules.specs.Outcome.{outcome_of_label}
use Rattle.run_trace.specs.Traced.{Traced}
use Rattle.ops_turns.proofs.made.show_unwind.Goals as goal
use Rattle.ops_turns.specs.Turn.{is_open, runs_in}

pub returns-clause-shown : goal.returns-clause-shown
returns-clause-shown g c =
    let before = c.args.trace.now.labels in
    let made = c.made_of-made.result in
    let label = c.made_of-made.ensures.label in
    let turns = c.made_of-made.ensures.turn in
    record {
      in_trace = (ap (λ (t : Traced). t.labels) c.push.ensures ∙ ap (λ (l : Label). before ++ l ∷ []) label, c.requires.falls);
      core = c.made_of-made.ensures.core;
      running = c.made_of-made.ensures.running ∙ ap runs_in turns;
      tags = c.made_of-made.ensures.tags;
      over = sym (ap (λ (l : Label). is_none (outcome_of_label l)) label) ∙ (c.made_of-made.ensures.over ∙ ap is_open turns);
    }

pub returns-clause-spare : goal.returns-clause-spare
returns-clause-spare g c = ap (λ (t : Traced). t.spare) c.push.ensures
