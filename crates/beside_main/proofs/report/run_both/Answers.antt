use Rattle.std.proofs.Common.{rules}
use Rattle.beside_works.specs.Aborters.{HaveRun}
use Rattle.beside_main.proofs.ReportLemmas.{both_ran}
use Rattle.beside_main.specs.Report.{HasTaken}
use Rattle.beside_main.proofs.report.run_both.Goals as goal

pub returns : goal.returns
returns g c = both_ran (λ v. HaveRun c.args.lines.now c.args.aborters.items v.items) (λ r. HasTaken c.args.component.now c.args.beside r.0 r.1) c.join-both.result.0 c.join-both.result.1 c.paired.result
    c.paired.ensures (search rules) (search rules)
