-- Another thread is resumed.
use Rattle.std.proofs.Common.{subst}
use Rattle.std.specs.Prelude.{IfSome, Option, ℕ}
use Rattle.ops_calls.specs.Resumes.{Resumed, resumed_by}
use Rattle.task_loop.proofs.HostOpHoldLemmas.{resumed_holds}
use Rattle.task_loop.proofs.InstanceCallLemmas.{does_call}
use Rattle.task_loop.proofs.TrackedLemmas.{resumed_known}
use Rattle.task_loop.proofs.RuleTrapLemmas.{resumes_not}
use Rattle.task_loop.proofs.instance.Instance.resume_thread.Goals as goal
use Rattle.ops_turns.specs.Turn.{running_of}

pub returns : goal.returns
returns g c =
    let s = c.args.store.now in
    let d = c.args.component.now in
    let q = c.requires.running in
    let n = q.number in
    let how = c.args.how in
    let thread = c.args.thread in
    let resume = c.resume_thread-answer in
    let u = resume.new.w in
    let resumed =
    subst (λ (o : Option ℕ). IfSome o (λ n. Resumed (resumed_by how n thread s.state.core) s.state resume.result u)) q.runs
    resume.ensures.resumed in
    record {
      does = does_call g.G.TaskGroupHook.listens
          (λ a v. IfSome (running_of s.state) (λ n. Resumed (resumed_by how n thread s.state.core) s.state a v)) s u c.tell_call.new.core c.tell_call.new.listeners
          c.asked-before.result c.asked-before.ensures resume.result c.tell_call.result resume.ensures.resumed
          (resumed_known s.state u (resumed_by how n thread s.state.core) resume.result resumed) (λ e. resumes_not s.state u d how n thread resume.result resumed e)
          (λ left h. resumed_holds left s.state u h how n thread resume.result resumed) c.tell_call.ensures;
    }
