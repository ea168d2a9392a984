use Rattle.std.proofs.Common.{rules, max}
use Rattle.task_abort.specs.declared.log.PhaseCall.TheVariants.{Finish}
use Rattle.task_abort.proofs.CallLemmas.{call_keeps, finish_computes}
use Rattle.task_abort.proofs.cell.OwnCell.finish.Goals as goal

pub fetch_max-word-requires : goal.fetch_max-word-requires
fetch_max-word-requires c = (search rules, search rules, call_keeps Finish (λ n. max n 2) finish_computes _ _ _ c.args.self.now.pass.alive)
