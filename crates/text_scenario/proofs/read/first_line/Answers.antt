use Rattle.std.proofs.Common.{ap, arith, drop, length, refl, sym, ◌+◌, ◌-◌, ◌∙◌}
use Rattle.std.proofs.lemmas.List.{drop_all, length-drop, take_rest}
use Rattle.std.specs.Prelude.{List, ℕ, ◌<◌, ◌≡◌}
use Rattle.std.proofs.lemmas.Bool.Decides.{nat_tests}
use Rattle.text_scenario.proofs.Splits.{first_of_lines, last_of_lines}
use Rattle.text_scenario.proofs.read.first_line.Goals as goal

pub returns-in-Some-clause-cases : goal.returns-in-Some-clause-cases
returns-in-Some-clause-cases c = first_of_lines c.args.text.now c.in-Some.end (sym c.in-Some.ensures.place)

pub returns-in-None-clause-cases : goal.returns-in-None-clause-cases
returns-in-None-clause-cases c = last_of_lines c.args.text.now (grind (arith, nat_tests, c.if-is_empty.ensures)) (sym c.in-None.ensures.place)

rest_of : (text : List ℕ) (i : ℕ) → i < length text → drop (length text - length (drop (i + 1) text)) text ≡ drop (i + 1) text
rest_of text i within = let size = length-drop (i + 1) text in ap (λ (k : ℕ). drop k text) (omega (arith, size, within))

pub returns-in-Some-clause-rest : goal.returns-in-Some-clause-rest
returns-in-Some-clause-rest c = rw take_rest (rest_of c.args.text.now c.in-Some.end c.in-Some.ensures.inside)

pub returns-in-None-clause-rest : goal.returns-in-None-clause-rest
returns-in-None-clause-rest c = drop_all _ c.args.text.now (omega arith)
