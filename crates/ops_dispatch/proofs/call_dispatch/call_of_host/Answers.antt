use Rattle.machine_rules.proofs.CalmLemmas.{calls_calm}
use Rattle.ops_dispatch.proofs.CallLemmas.{host_makes_none}
use Rattle.ops_dispatch.proofs.OpLemmas.{asked_op, tags_told}
use Rattle.ops_dispatch.proofs.SubtaskRules.{host_shows}
use Rattle.ops_dispatch.proofs.call_dispatch.call_of_host.Goals as goal
use Rattle.ops_dispatch.specs.Rules.{rule_of}
use Rattle.std.proofs.Common.{ap, inr, refl, subst, sym, ◌∙◌}
use Rattle.std.specs.Prelude.{Some, option_map}
use Rattle.ops_subtasks.proofs.FirstLemmas.{met_first}
use Rattle.ops_subtasks.specs.First.{first_heard}
use Rattle.ops_subtasks.specs.Rules.{calls_host}
use Rattle.machine_data.specs.declared.component.HostDef.{HostDef}
use Rattle.machine_data.specs.declared.op.CallOp.TheVariants as call_op
use Rattle.machine_data.specs.declared.op.Op.TheVariants as op
use Rattle.ops_guests.proofs.EndedLemmas.{ended_works}
use Rattle.ops_guests.specs.OpResult.{Implements}
use Rattle.ops_guests.specs.Ended.{ended}
use Rattle.machine_rules.specs.Calls.{call_host_by, first_polled}
use Rattle.machine_rules.specs.Finish.{SomeHost}
use Rattle.core_primitives.specs.StateView.{thread_of, work_of}

pub returns-clause-does : goal.returns-clause-does
returns-clause-does g c r =
    let s = g.W.View.view c.args.w.now in
    let t = g.W.View.view c.call_host.new.w in
    let n = thread_of s c.args.thread in
    let host = c.host_def-host.result in
    let p = first_heard host c.args.answer in
    let op_result = c.in_ok-op_result.op_result in
    let e = c.in_ok-op_result.ensures in
    let did = e.does in
    let q = c.args.register in
    record {
      does = asked_op (calls_host q p) (rule_of c.args.component.now (op.Call (call_op.CallHost r q c.args.host))) c.args.thread s t op_result (host_shows n s.core SomeHost q p) c.requires.runner.current c.requires.runner.live did
          (λ d. subst (λ (h : HostDef). Implements (first_polled h (call_host_by d n q s.core)) s.core op_result (ended d n op_result t.core)) c.host_def-host.ensures
          (met_first host c.args.answer (call_host_by d n q s.core) s.core (ended d n op_result t.core) op_result (did.implements d)))
          (λ d. calls_calm d c.args.component.now n s.core (call_op.CallHost r q c.args.host) refl);
      polls = record {
        polled = ap (λ (h : HostDef). Some h) c.host_def-host.ensures;
        work = e.work.work;
        course = e.work.goes_on;
        none = λ none. inr (sym (ended_works SomeHost n op_result t.core) ∙ host_makes_none s.core (ended SomeHost n op_result t.core) n SomeHost q p op_result (did.implements SomeHost) (sym e.work.work ∙ ap (option_map (λ id. work_of t id)) none));
      };
    }

pub returns-clause-kept : goal.returns-clause-kept
returns-clause-kept g c = tags_told (g.W.View.view c.args.w.now) (g.W.View.view c.call_host.new.w) c.in_ok-op_result.ensures.does.kept.0
