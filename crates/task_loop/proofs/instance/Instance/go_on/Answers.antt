-- The op at the place is taken further.
use Rattle.ops_calls.specs.OpAnswers.{whole_answer}
use Rattle.ops_calls.specs.HostOps.{AnswersHere, op_rule_at, takes_here}
use Rattle.task_loop.proofs.HostOpHoldLemmas.{gone_on_holds}
use Rattle.task_loop.proofs.InstanceCallLemmas.{does_call}
use Rattle.task_loop.proofs.TrackedLemmas.{answers_known}
use Rattle.task_loop.proofs.RuleTrapLemmas.{here_not}
use Rattle.task_loop.proofs.ToldLemmas.{in_turn_told}
use Rattle.task_loop.proofs.instance.Instance.go_on.Goals as goal

pub go_on-answer-requires-clause-paused : goal.go_on-answer-requires-clause-paused
go_on-answer-requires-clause-paused g c = (c.args.self.index, c.requires.paused)

pub returns : goal.returns
returns g c =
    let s = c.args.store.now in
    let d = c.args.component.now in
    let q = c.requires.running in
    let go = c.go_on-answer in
    let u = go.new.w in
    let told = c.tell_call.ensures in
    record {
      does = record {
        call = does_call g.G.TaskGroupHook.listens (λ a v. AnswersHere d whole_answer s.state a v) s u c.tell_call.new.core c.tell_call.new.listeners
            c.asked-before.result c.asked-before.ensures go.result c.tell_call.result go.ensures.answers
            (answers_known s.state u q.number q.runs (takes_here d s.state) (op_rule_at d s.state.core) whole_answer go.result go.ensures.answers)
            (λ e. here_not s.state u d q whole_answer go.result go.ensures.answers e)
            (λ left h. gone_on_holds left s.state u h d q whole_answer go.result c.args.self.index c.requires.paused go.ensures.answers) told;
        order = in_turn_told g.G.TaskGroupHook.listens c.asked-before.result go.result c.tell_call.result d u c.tell_call.new.core s.listeners c.tell_call.new.listeners told go.ensures.order;
      };
    }
