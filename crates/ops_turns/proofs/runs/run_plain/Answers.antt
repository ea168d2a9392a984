use Rattle.ops_dispatch.proofs.BeforeEndLemmas.{answers_right, event_fits, below_end}
use Rattle.ops_dispatch.specs.Rules.{rule_of}
use Rattle.std.proofs.Common.{arith, refl, sym, ◌∙◌}
use Rattle.ops_guests.specs.Works.{NamesTold}
use Rattle.machine_rules.specs.Step.{own_script}
use Rattle.ops_dispatch.proofs.EndLemmas.{end_goes, end_implements, end_picks, end_stays, end_works, plain_other}
use Rattle.ops_turns.proofs.OrderLemmas.{unwinds}
use Rattle.ops_turns.proofs.RanLemmas.{works_told}
use Rattle.ops_turns.proofs.runs.run_plain.Goals as goal
use Rattle.core_primitives.specs.StateView.{thread_of}

pub finish-requires-clause-position : goal.finish-requires-clause-position
finish-requires-clause-position g c due =
    let v = g.W.View.view in
    let o = c.args.op.now in
    let b = below_end NamesTold c.args.component.now o c.args.thread (v c.args.w.now) (v c.do_plain_op.new.w) c.in-Ok.op_result (plain_other o c.requires.plain) c.in-Ok.ensures.does due in
    let p = c.requires.position in
    grind (arith, b, p)

pub finish-requires-clause-answers : goal.finish-requires-clause-answers
finish-requires-clause-answers g c =
    let v = g.W.View.view in
    let o = c.args.op.now in
    answers_right NamesTold c.args.component.now o c.args.thread (v c.args.w.now) (v c.do_plain_op.new.w) c.in-Ok.op_result (plain_other o c.requires.plain) c.in-Ok.ensures.does

pub finish-requires-clause-register : goal.finish-requires-clause-register
finish-requires-clause-register g c given =
    let v = g.W.View.view in
    let o = c.args.op.now in
    event_fits c.args.component.now o c.in-Ok.op_result c.requires.fits (answers_right NamesTold c.args.component.now o c.args.thread (v c.args.w.now) (v c.do_plain_op.new.w) c.in-Ok.op_result (plain_other o c.requires.plain) c.in-Ok.ensures.does) given

pub show-requires-clause-unwinds : goal.show-requires-clause-unwinds
show-requires-clause-unwinds g c =
    let v = g.W.View.view in
    let s = v c.args.w.now in
    let u = v c.finish.new.w in
    unwinds c.in-Ok.op_result c.args.thread s u c.requires.runner (end_stays NamesTold (rule_of c.args.component.now c.args.op.now) (own_script c.args.op.now) c.args.thread s (v c.do_plain_op.new.w) u c.in-Ok.op_result c.in-Ok.ensures.does c.finish.ensures)

pub show-requires-clause-goes : goal.show-requires-clause-goes
show-requires-clause-goes g c =
    let v = g.W.View.view in
    end_goes NamesTold (rule_of c.args.component.now c.args.op.now) (own_script c.args.op.now) c.args.thread (v c.args.w.now) (v c.do_plain_op.new.w) (v c.finish.new.w) c.in-Ok.op_result c.in-Ok.ensures.does c.finish.ensures

pub returns-clause-shown : goal.returns-clause-shown
returns-clause-shown g c made =
    let v = g.W.View.view in
    let s = v c.args.w.now in
    let m = v c.do_plain_op.new.w in
    let u = v c.finish.new.w in
    let o = c.args.op.now in
    let k = c.args.component.now in
    record {
      op_result = c.in-Ok.op_result;
      left = u;
      implements = end_implements NamesTold (rule_of k o) (own_script o) c.args.thread s m u c.in-Ok.op_result c.in-Ok.ensures.does c.finish.ensures;
      picks = end_picks NamesTold (rule_of k o) (own_script o) c.args.thread s m u c.in-Ok.op_result c.in-Ok.ensures.does c.finish.ensures;
      stays = end_stays NamesTold (rule_of k o) (own_script o) c.args.thread s m u c.in-Ok.op_result c.in-Ok.ensures.does c.finish.ensures;
      shown = c.show.ensures.shown;
    }

pub returns-clause-works : goal.returns-clause-works
returns-clause-works g c room =
    let v = g.W.View.view in
    let s = v c.args.w.now in
    let u = v c.finish.new.w in
    let t = v c.show.new.w in
    let o = c.args.op.now in
    let did = c.in-Ok.ensures.does in
    let told = end_works NamesTold (rule_of c.args.component.now o) (own_script o) c.args.thread s (v c.do_plain_op.new.w) u c.in-Ok.op_result did c.finish.ensures did.kept in
    let shown = c.show.ensures.shown in
    works_told (thread_of u c.args.thread) c.in-Ok.op_result s u t shown.core told c.show.ensures.works

pub returns-clause-full : goal.returns-clause-full
returns-clause-full g c unmade = let no = sym c.show.ensures.made ∙ unmade in absurd (cc)

pub returns-in_default-do_plain_op-clause-full : goal.returns-in_default-do_plain_op-clause-full
returns-in_default-do_plain_op-clause-full g c unmade = ((refl, refl), c.in_default-do_plain_op.ensures.err)

pub returns-clause-spare : goal.returns-clause-spare
returns-clause-spare g c = record { most = omega (arith, c.show.ensures.spare); unmade = λ unmade. absurd (let no = sym c.show.ensures.made ∙ unmade in cc) }

pub returns-in_default-do_plain_op-clause-spare : goal.returns-in_default-do_plain_op-clause-spare
returns-in_default-do_plain_op-clause-spare g c = record { most = omega arith; unmade = λ unmade. refl }
