use Rattle.machine_data.specs.Core.{Unscripted}
use Rattle.ops_calls.proofs.CallLemmas.{found_kind, found_words, in_order}
use Rattle.ops_calls.proofs.UntrappedLemmas.{started_untrapped}
use Rattle.ops_turns.proofs.CoveredLemmas.{home_there}
use Rattle.ops_calls.proofs.untrapped.start_untrapped.Goals as goal

pub start-requires-clause-there : goal.start-requires-clause-there
start-requires-clause-there g c = home_there c.args.component.now c.args.callee c.requires.order.0 (g.W.View.view c.args.w.now).core c.requires.order.1 c.requires.there

pub start-requires-clause-placed : goal.start-requires-clause-placed
start-requires-clause-placed g c = (c.requires.order.1.order Unscripted).in_place.placed

pub returns-in-Ok-Does-Start-clause-starts : goal.returns-in-Ok-Does-Start-clause-starts
returns-in-Ok-Does-Start-clause-starts g c =
    let e = c.in-Ok-Does-Start.ensures in
    started_untrapped c.args.component.now c.args.callee c.args.words.now (g.W.View.view c.args.w.now) (g.W.View.view c.start.new.w) e.current _ _ _
    c.in-Ok-Does-Start.field-0-is (e.implements c.args.component.now (found_kind c.args.component.now c.args.callee c.in-Some.def.now c.in-Some.ensures)) e.tags
    _ _ c.in-Ok-Does-Start.field-0-0-is

pub returns-in-Ok-Does-Start-clause-order : goal.returns-in-Ok-Does-Start-clause-order
returns-in-Ok-Does-Start-clause-order g c =
    let e = c.in-Ok-Does-Start.ensures in
    in_order c.args.component.now c.args.callee c.args.words.now (g.W.View.view c.args.w.now) (g.W.View.view c.start.new.w) e.current _
    (e.implements c.args.component.now (found_kind c.args.component.now c.args.callee c.in-Some.def.now c.in-Some.ensures))
    (found_words c.args.component.now c.args.callee c.in-Some.def.now c.in-Some.ensures _ c.requires.words)
