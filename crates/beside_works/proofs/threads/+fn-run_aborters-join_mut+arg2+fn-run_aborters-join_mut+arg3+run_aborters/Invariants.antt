use Rattle.std.proofs.Common.{length}
use Rattle.beside_works.proofs.threads.+fn-run_aborters-join_mut+arg2+fn-run_aborters-join_mut+arg3+run_aborters.Given as goal

abbrev pub decreases-join_mut+arg2 : goal.decreases-join_mut+arg2
decreases-join_mut+arg2 g l = length l.front.now

abbrev pub decreases-join_mut+arg3 : goal.decreases-join_mut+arg3
decreases-join_mut+arg3 g l = length l.back.now

abbrev pub decreases-run_aborters : goal.decreases-run_aborters
decreases-run_aborters g l = length l.aborters.now
