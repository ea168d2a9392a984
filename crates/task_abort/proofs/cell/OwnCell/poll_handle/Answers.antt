use Rattle.std.proofs.Common.{rules, refl}
use Rattle.task_abort.specs.declared.log.PhaseCall.TheVariants.{PollHandle}
use Rattle.task_abort.proofs.CallLemmas.{call_keeps}
use Rattle.task_abort.proofs.cell.OwnCell.poll_handle.Goals as goal

pub load-word-requires : goal.load-word-requires
load-word-requires c = (search rules, search rules, call_keeps PollHandle (λ n. n) (λ p. refl) _ _ _ c.args.self.now.pass.alive)
