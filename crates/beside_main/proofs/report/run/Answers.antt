use Rattle.std.proofs.Common.{ap, rules, sym, ◌∙◌, ◌≡◌}
use Rattle.std.specs.Prelude.{false}
use Rattle.machine_data.specs.Read.{is_nil}
use Rattle.beside_main.proofs.report.run.Goals as goal

pub run_alone-requires-clause-alone : goal.run_alone-requires-clause-alone
run_alone-requires-clause-alone g c = ap is_nil (sym c.as_slice-2.ensures) ∙ (sym c.has_none.ensures ∙ c.if-has_none.true)

pub run_with-requires-clause-some : goal.run_with-requires-clause-some
run_with-requires-clause-some g c =
    let some : is_nil c.args.scenario.now.aborters ≡ false = ap is_nil (sym c.as_slice-2.ensures) ∙ (sym c.has_none.ensures ∙ c.if-has_none.false) in search rules
