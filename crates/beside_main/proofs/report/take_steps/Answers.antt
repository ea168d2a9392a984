use Rattle.beside_main.proofs.report.take_steps.Goals as goal

pub returns : goal.returns
returns g c = record { took = c.in_ok-outcome.ensures.took; used = c.in_ok-outcome.ensures.left }
