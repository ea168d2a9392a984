use Rattle.ops_subtasks.proofs.ResumeLemmas.{flag_restored}
use Rattle.ops_subtasks.proofs.resumes.refusal_after.Goals as goal

pub returns-clause-same : goal.returns-clause-same
returns-clause-same g c = flag_restored _ _ _ _ _ _ c.may_not_suspend-flag.ensures c.put_back.ensures c.set_do_not_suspend.ensures
