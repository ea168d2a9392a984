use Rattle.std.proofs.Common.{rules, max}
use Rattle.task_abort.specs.declared.log.PhaseCall.TheVariants.{Abort}
use Rattle.task_abort.proofs.CallLemmas.{call_keeps, abort_computes}
use Rattle.task_abort.proofs.cell.OwnCell.abort.Goals as goal

pub fetch_max-word-requires : goal.fetch_max-word-requires
fetch_max-word-requires c = (search rules, search rules, call_keeps Abort (λ n. max n 1) abort_computes _ _ _ c.args.self.now.pass.alive)
