use Rattle.ops_dispatch.proofs.BeforeEndLemmas.{answers_right, event_fits, below_end}
use Rattle.std.proofs.Common.{arith, refl, subst, sym, ◌∙◌}
use Rattle.core_primitives.specs.Preferences.{preference}
use Rattle.machine_data.specs.declared.label.Label.{Label}
use Rattle.ops_guests.specs.OpResult.{PicksFirst}
use Rattle.ops_turns.proofs.RunLemmas.{label_same}
use Rattle.ops_turns.specs.Ran.{scripted_rule_of}
use Rattle.ops_guests.specs.Works.{NamesTold}
use Rattle.ops_dispatch.proofs.EndLemmas.{end_op, host_fits, host_other}
use Rattle.ops_turns.proofs.OrderLemmas.{unwinds}
use Rattle.ops_turns.proofs.RanLemmas.{ran_work, works_told}
use Rattle.ops_turns.proofs.runs.run_host.Goals as goal
use Rattle.core_primitives.specs.StateView.{thread_of}

pub finish-requires-clause-position : goal.finish-requires-clause-position
finish-requires-clause-position g c due =
    let v = g.W.View.view in
    let o = c.args.op.now in
    let b = below_end NamesTold c.args.component.now o c.args.thread (v c.args.w.now) (v c.do_host_call.new.w) c.in_ok-done.done.op_result (host_other o c.requires.calls) (rw c.in-Call.is c.in_ok-done.ensures.does.does) due in
    let p = c.requires.within in
    grind (arith, b, p)

pub finish-requires-clause-answers : goal.finish-requires-clause-answers
finish-requires-clause-answers g c =
    let v = g.W.View.view in
    let o = c.args.op.now in
    answers_right NamesTold c.args.component.now o c.args.thread (v c.args.w.now) (v c.do_host_call.new.w) c.in_ok-done.done.op_result (host_other o c.requires.calls) (rw c.in-Call.is c.in_ok-done.ensures.does.does)

pub finish-requires-clause-register : goal.finish-requires-clause-register
finish-requires-clause-register g c given =
    let v = g.W.View.view in
    let o = c.args.op.now in
    event_fits c.args.component.now o c.in_ok-done.done.op_result (host_fits c.args.component.now o c.requires.calls) (answers_right NamesTold c.args.component.now o c.args.thread (v c.args.w.now) (v c.do_host_call.new.w) c.in_ok-done.done.op_result (host_other o c.requires.calls) (rw c.in-Call.is c.in_ok-done.ensures.does.does)) given

pub made_of-requires-clause-unwinds : goal.made_of-requires-clause-unwinds
made_of-requires-clause-unwinds g c =
    let v = g.W.View.view in
    let s = v c.args.w.now in
    let u = v c.finish.new.w in
    let did = end_op c.args.answer c.args.component.now c.args.op.now c.args.thread s (v c.do_host_call.new.w) u c.in_ok-done.done (rw c.in-Call.is c.in_ok-done.ensures.does) c.finish.ensures in
    unwinds c.in_ok-done.done.op_result c.args.thread s u c.requires.runner did.stays

pub made_of-requires-clause-goes : goal.made_of-requires-clause-goes
made_of-requires-clause-goes g c =
    let v = g.W.View.view in
    (end_op c.args.answer c.args.component.now c.args.op.now c.args.thread (v c.args.w.now) (v c.do_host_call.new.w) (v c.finish.new.w) c.in_ok-done.done (rw c.in-Call.is c.in_ok-done.ensures.does) c.finish.ensures).goes

pub returns-clause-ran : goal.returns-clause-ran
returns-clause-ran g c =
    let v = g.W.View.view in
    let s = v c.args.w.now in
    let u = v c.finish.new.w in
    let r = c.in_ok-done.done.op_result in
    let did = end_op c.args.answer c.args.component.now c.args.op.now c.args.thread s (v c.do_host_call.new.w) u c.in_ok-done.done (rw c.in-Call.is c.in_ok-done.ensures.does) c.finish.ensures in
    let shown = c.made_of.ensures.label ∙ label_same c.args.thread (thread_of s c.args.thread) s u refl r did.stays in
    record {
      op_result = r;
      left = u;
      implements = did.implements;
      picks = subst (λ (l : Label). PicksFirst (preference s) (scripted_rule_of c.args.component.now c.args.op.now c.args.thread s r) l s.core r u.core) (sym shown) did.picks;
      stays = did.stays;
      label = c.made_of.ensures.label;
      turn = c.made_of.ensures.turn;
      core = c.made_of.ensures.core;
      running = c.made_of.ensures.running;
      over = c.made_of.ensures.over;
    }

pub returns-clause-work : goal.returns-clause-work
returns-clause-work g c =
    let v = g.W.View.view in
    let s = v c.args.w.now in
    let u = v c.finish.new.w in
    let did = end_op c.args.answer c.args.component.now c.args.op.now c.args.thread s (v c.do_host_call.new.w) u c.in_ok-done.done (rw c.in-Call.is c.in_ok-done.ensures.does) c.finish.ensures in
    ran_work c.args.answer c.args.component.now _ _ c.in_ok-done.done (thread_of u c.args.thread) s u (v c.made_of.new.w) c.requires.runner.works did.polls c.made_of.ensures.core c.made_of.ensures.tags

pub returns-clause-works : goal.returns-clause-works
returns-clause-works g c =
    let v = g.W.View.view in
    let s = v c.args.w.now in
    let u = v c.finish.new.w in
    let did = end_op c.args.answer c.args.component.now c.args.op.now c.args.thread s (v c.do_host_call.new.w) u c.in_ok-done.done (rw c.in-Call.is c.in_ok-done.ensures.does) c.finish.ensures in
    works_told (thread_of u c.args.thread) c.in_ok-done.done.op_result s u (v c.made_of.new.w) c.made_of.ensures.core did.works c.made_of.ensures.works
