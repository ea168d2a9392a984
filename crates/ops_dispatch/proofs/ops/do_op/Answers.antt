use Rattle.ops_dispatch.proofs.BeforeEndLemmas.{answers_right, event_fits, below_end}
use Rattle.std.proofs.Common.{arith}
use Rattle.ops_guests.specs.Works.{NamesTold}
use Rattle.ops_dispatch.proofs.EndLemmas.{data_op, end_op, not_data}
use Rattle.ops_dispatch.proofs.ops.do_op.Goals as goal

pub returns-in-Data-clause-did : goal.returns-in-Data-clause-did
returns-in-Data-clause-did g c =
    let v = g.W.View.view in
    let s = v c.args.w.now in
    let e = c.compute.ensures in
    rw c.in-Data.is (data_op c.args.answer c.args.component.now c.in-Data.op c.args.thread s (v c.compute.new.w) c.compute.result c.requires.runner.current (e.implements c.args.component.now c.requires.within.1) e.tags e.current)

pub do_other_op-requires-clause-other : goal.do_other_op-requires-clause-other
do_other_op-requires-clause-other g c = not_data c.args.op.now c.in_default.not-Data

pub finish-requires-clause-position : goal.finish-requires-clause-position
finish-requires-clause-position g c due =
    let v = g.W.View.view in
    let o = c.args.op.now in
    let b = below_end NamesTold c.args.component.now o c.args.thread (v c.args.w.now) (v c.do_other_op.new.w) c.in_ok-done.done.op_result (not_data o c.in_default.not-Data) c.in_ok-done.ensures.does.does due in
    let p = c.requires.within.0 in
    grind (arith, b, p)

pub finish-requires-clause-answers : goal.finish-requires-clause-answers
finish-requires-clause-answers g c =
    let v = g.W.View.view in
    let o = c.args.op.now in
    answers_right NamesTold c.args.component.now o c.args.thread (v c.args.w.now) (v c.do_other_op.new.w) c.in_ok-done.done.op_result (not_data o c.in_default.not-Data) c.in_ok-done.ensures.does.does

pub finish-requires-clause-register : goal.finish-requires-clause-register
finish-requires-clause-register g c given =
    let v = g.W.View.view in
    let o = c.args.op.now in
    event_fits c.args.component.now o c.in_ok-done.done.op_result c.requires.fits (answers_right NamesTold c.args.component.now o c.args.thread (v c.args.w.now) (v c.do_other_op.new.w) c.in_ok-done.done.op_result (not_data o c.in_default.not-Data) c.in_ok-done.ensures.does.does) given

pub returns-clause-did : goal.returns-clause-did
returns-clause-did g c =
    let v = g.W.View.view in
    end_op c.args.answer c.args.component.now c.args.op.now c.args.thread (v c.args.w.now) (v c.do_other_op.new.w) (v c.finish.new.w) c.in_ok-done.done c.in_ok-done.ensures.does c.finish.ensures
