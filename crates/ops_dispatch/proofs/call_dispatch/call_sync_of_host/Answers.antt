use Rattle.machine_rules.proofs.CalmLemmas.{calls_calm}
use Rattle.ops_dispatch.proofs.CallLemmas.{polled_fresh, polled_served, served_at, sync_host_fresh, sync_host_makes_none}
use Rattle.ops_dispatch.proofs.OpLemmas.{alike_op, asked_op, work_told}
use Rattle.ops_dispatch.proofs.SubtaskRules.{sync_host_shows}
use Rattle.ops_dispatch.proofs.call_dispatch.call_sync_of_host.Goals as goal
use Rattle.ops_dispatch.specs.Polls.{DoesPolled}
use Rattle.ops_dispatch.specs.Rules.{rule_of}
use Rattle.ops_dispatch.specs.declared.done.Done.{Done}
use Rattle.std.proofs.Common.{ap, inl, inr, refl, subst, sym, ◌∙◌}
use Rattle.std.specs.Prelude.{Some, option_map}
use Rattle.ops_subtasks.proofs.FirstLemmas.{met_first}
use Rattle.ops_subtasks.specs.First.{first_heard}
use Rattle.ops_subtasks.specs.Named.{LosesWork}
use Rattle.ops_subtasks.specs.Rules.{answers_work, calls_sync_host}
use Rattle.machine_data.specs.Read.{op_progress_of}
use Rattle.machine_data.specs.declared.component.HostDef.{HostDef}
use Rattle.machine_data.specs.declared.op.CallOp.TheVariants as call_op
use Rattle.machine_data.specs.declared.op.Op.TheVariants as op
use Rattle.machine_data.specs.declared.records.OpProgress.{OpProgress}
use Rattle.ops_guests.proofs.EndedLemmas.{ended_works}
use Rattle.ops_guests.specs.OpResult.{Implements}
use Rattle.ops_guests.specs.Ended.{ended}
use Rattle.ops_guests.specs.Works.{NamesTold}
use Rattle.machine_rules.specs.Calls.{call_sync_host_by, call_sync_host_rule, first_polled}
use Rattle.machine_rules.specs.Finish.{SomeHost}
use Rattle.machine_rules.specs.Progress.{Progress}
use Rattle.core_primitives.specs.StateView.{thread_of, work_of}

pub returns-in-Some-clause-does : goal.returns-in-Some-clause-does
returns-in-Some-clause-does g c r =
    let s = g.W.View.view c.args.w.now in
    let t = g.W.View.view c.go_on_calling_host.new.w in
    let n = thread_of s c.args.thread in
    let comp = c.args.component.now in
    let o = op.Call (call_op.CallSyncHost r c.args.host) in
    let i = work_of s c.in-Some.work in
    let far = served_at (op_progress_of n s.core) i (sym c.in-Some.ensures.is) in
    let e = c.go_on_calling_host.ensures in
    subst (λ (d : Done). DoesPolled c.args.answer comp o c.args.thread s d t) (sym c.plain.ensures) (record {
      does = alike_op (LosesWork i) NamesTold (answers_work i) (rule_of comp o) c.args.thread s t c.go_on_calling_host.result (refl, refl) c.requires.runner.current e.does.kept.1 e.thread (work_told i s t e.gone)
          (λ d ch. ap (λ (f : OpProgress). call_sync_host_rule d comp n c.args.host s.core f) far) e.does;
      polls = record {
        polled = sym (polled_served comp r c.args.host i (op_progress_of n s.core) c.in-Some.ensures.is);
        work = refl;
        course = tt;
        none = λ none. inl refl;
      };
    })

pub returns-clause-does : goal.returns-clause-does
returns-clause-does g c r =
    let s = g.W.View.view c.args.w.now in
    let t = g.W.View.view c.call_sync_host.new.w in
    let n = thread_of s c.args.thread in
    let comp = c.args.component.now in
    let host = c.host_def-host.result in
    let p = first_heard host c.args.answer in
    let op_result = c.in_ok-op_result.op_result in
    let e = c.in_ok-op_result.ensures in
    let did = e.does in
    let fresh = sym c.in_default.ensures.is in
    record {
      does = asked_op (calls_sync_host p) (rule_of comp (op.Call (call_op.CallSyncHost r c.args.host))) c.args.thread s t op_result (sync_host_shows n s.core SomeHost p) c.requires.runner.current c.requires.runner.live did
          (λ d. subst (λ (x : Progress). Implements x s.core op_result (ended d n op_result t.core)) (sym (sync_host_fresh comp n d s.core c.args.host (op_progress_of n s.core) fresh))
          (subst (λ (h : HostDef). Implements (first_polled h (call_sync_host_by d n s.core)) s.core op_result (ended d n op_result t.core)) c.host_def-host.ensures
          (met_first host c.args.answer (call_sync_host_by d n s.core) s.core (ended d n op_result t.core) op_result (did.implements d))))
          (λ d. calls_calm d comp n s.core (call_op.CallSyncHost r c.args.host) refl);
      polls = record {
        polled = ap (λ (h : HostDef). Some h) c.host_def-host.ensures ∙ sym (polled_fresh comp r c.args.host (op_progress_of n s.core) fresh);
        work = e.work.work;
        course = e.work.goes_on;
        none = λ none. inr (sym (ended_works SomeHost n op_result t.core) ∙ sync_host_makes_none s.core (ended SomeHost n op_result t.core) n SomeHost p op_result (did.implements SomeHost) (sym e.work.work ∙ ap (option_map (λ id. work_of t id)) none));
      };
    }
