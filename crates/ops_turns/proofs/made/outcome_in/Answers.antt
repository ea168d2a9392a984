use Rattle.std.proofs.Common.{ap, sym, ◌∙◌}
use Rattle.std.specs.Prelude.{is_some, option_and_then}
use Rattle.machine_rules.specs.Outcome.{outcome_of_label}
use Rattle.ops_turns.proofs.DriveLemmas.{last_outcome-last}
use Rattle.ops_turns.proofs.made.outcome_in.Goals as goal

pub returns : goal.returns
returns c = last_outcome-last c.args.trace.now.labels ∙ (ap (option_and_then outcome_of_label) (sym c.last.ensures ∙ c.in-Some.is) ∙ (sym c.outcome_of.ensures ∙ c.in-Some-outcome_of.is))

pub unreachable-requires : goal.unreachable-requires
unreachable-requires c =
    let none = last_outcome-last c.args.trace.now.labels ∙ (ap (option_and_then outcome_of_label) (sym c.last.ensures ∙ c.in-Some.is) ∙ (sym c.outcome_of.ensures ∙ c.in-None-outcome_of.is)) in
    let no = sym (ap is_some none) ∙ c.requires in
    absurd (cc)

pub unreachable-requires-in-None : goal.unreachable-requires-in-None
unreachable-requires-in-None c =
    let none = last_outcome-last c.args.trace.now.labels ∙ ap (option_and_then outcome_of_label) (sym c.last.ensures ∙ c.in-None.is) in
    let no = sym (ap is_some none) ∙ c.requires in
    absurd (cc)
