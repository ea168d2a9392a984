use Rattle.std.proofs.Common.{subst, sym}
use Rattle.machine_data.specs.Core.{Unscripted}
use Rattle.ops_calls.proofs.CallLemmas.{found_kind, found_words, in_order, refused, started, out_of_memory}
use Rattle.ops_calls.proofs.ApartLemmas.{trap_in_order}
use Rattle.ops_turns.proofs.CoveredLemmas.{home_there}
use Rattle.ops_turns.specs.Turn.{CoreInOrder}
use Rattle.core_primitives.specs.StateView.{StateView}
use Rattle.ops_calls.proofs.host_calls.start_call.Goals as goal

pub start-requires-clause-there : goal.start-requires-clause-there
start-requires-clause-there g c = home_there c.args.component.now c.args.callee c.requires.order.0 (g.W.View.view c.args.w.now).core c.requires.order.1 c.requires.there

pub start-requires-clause-placed : goal.start-requires-clause-placed
start-requires-clause-placed g c = (c.requires.order.1.order Unscripted).in_place.placed

pub returns-in-Ok-Does-Start-clause-starts : goal.returns-in-Ok-Does-Start-clause-starts
returns-in-Ok-Does-Start-clause-starts g c =
    let e = c.in-Ok-Does-Start.ensures in
    started c.args.component.now c.args.callee c.args.words.now (g.W.View.view c.args.w.now) (g.W.View.view c.start.new.w) e.current _ _ _
    c.in-Ok-Does-Start.field-0-is (e.implements c.args.component.now (found_kind c.args.component.now c.args.callee c.in-Some.def.now c.in-Some.ensures)) e.tags
    _ _ c.in-Ok-Does-Start.field-0-0-is

pub returns-in-Ok-Does-Start-clause-order : goal.returns-in-Ok-Does-Start-clause-order
returns-in-Ok-Does-Start-clause-order g c =
    let e = c.in-Ok-Does-Start.ensures in
    in_order c.args.component.now c.args.callee c.args.words.now (g.W.View.view c.args.w.now) (g.W.View.view c.start.new.w) e.current _
    (e.implements c.args.component.now (found_kind c.args.component.now c.args.callee c.in-Some.def.now c.in-Some.ensures))
    (found_words c.args.component.now c.args.callee c.in-Some.def.now c.in-Some.ensures _ c.requires.words)

pub returns-in-Ok-Does-StartRefused-clause-starts : goal.returns-in-Ok-Does-StartRefused-clause-starts
returns-in-Ok-Does-StartRefused-clause-starts g c =
    let e = c.in-Ok-Does-StartRefused.ensures in
    refused c.args.component.now c.args.callee c.args.words.now (g.W.View.view c.args.w.now) (g.W.View.view c.start.new.w) e.current _ _ _
    c.in-Ok-Does-StartRefused.field-0-is (e.implements c.args.component.now (found_kind c.args.component.now c.args.callee c.in-Some.def.now c.in-Some.ensures)) e.tags
    _ _ c.in-Ok-Does-StartRefused.field-0-0-is

pub returns-in-Ok-Does-StartRefused-clause-order : goal.returns-in-Ok-Does-StartRefused-clause-order
returns-in-Ok-Does-StartRefused-clause-order g c =
    let e = c.in-Ok-Does-StartRefused.ensures in
    in_order c.args.component.now c.args.callee c.args.words.now (g.W.View.view c.args.w.now) (g.W.View.view c.start.new.w) e.current _
    (e.implements c.args.component.now (found_kind c.args.component.now c.args.callee c.in-Some.def.now c.in-Some.ensures))
    (found_words c.args.component.now c.args.callee c.in-Some.def.now c.in-Some.ensures _ c.requires.words)

pub returns-in-Err-clause-starts : goal.returns-in-Err-clause-starts
returns-in-Err-clause-starts g c = out_of_memory _ _ _ _ _ _ _ c.in-Err.ensures.asked c.in-Err.ensures.err c.set_trapped.ensures

pub returns-in-Err-clause-order : goal.returns-in-Err-clause-order
returns-in-Err-clause-order g c = λ p in_turn.
    subst (λ (s : StateView). CoreInOrder c.args.component.now p s.core) (sym c.set_trapped.ensures)
    (trap_in_order _ p _ (subst (λ (s : StateView). CoreInOrder c.args.component.now p s.core) (sym c.in-Err.ensures.err) in_turn))
