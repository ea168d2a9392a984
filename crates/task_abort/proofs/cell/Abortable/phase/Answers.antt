use Rattle.std.proofs.Common.{rules, refl}
use Rattle.task_abort.specs.declared.log.PhaseCall.TheVariants.{PollFuture}
use Rattle.task_abort.proofs.CallLemmas.{call_keeps}
use Rattle.task_abort.proofs.cell.Abortable.phase.Goals as goal

pub load-word-requires : goal.load-word-requires
load-word-requires g c = (search rules, search rules, call_keeps PollFuture (λ n. n) (λ p. refl) _ _ _ c.args.pass.now.alive)
