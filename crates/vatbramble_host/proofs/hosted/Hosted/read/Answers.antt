-- What a scenario of a text keeps.
use Rattle.task_run.proofs.HeadlineLemmas.{runnable_read}
use Rattle.vatbramble_host.proofs.hosted.Hosted.read.Goals as goal

pub invariant_of-result : goal.invariant_of-result
invariant_of-result c =
    let kept = runnable_read c.args.text.now c.in-Ok.scenario c.in-Ok.ensures.answer in
    record { handles = kept.handles; few = kept.few; formed = kept.component; codes = kept.codes }
