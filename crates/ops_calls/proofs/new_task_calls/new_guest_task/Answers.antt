use Rattle.std.proofs.Common.{arith, subst, sym, ◌∙◌}
use Rattle.std.specs.Prelude.{Ok, true, ◌≡◌}
use Rattle.ops_calls.proofs.TaskLemmas.{begins_in_order, begun, begun_trapped, trapped}
use Rattle.ops_calls.specs.Tasks.{Begins, entries_of}
use Rattle.machine_data.specs.Read.{fits}
use Rattle.ops_calls.proofs.new_task_calls.new_guest_task.Goals as goal

pub returns-then-trapped-clause-begins : goal.returns-then-trapped-clause-begins
returns-then-trapped-clause-begins g c =
    let s = g.W.View.view c.args.w.now in
    let t = g.W.View.view c.make_task.new.w in
    let e = c.in-Ok.ensures in
    let room : fits (entries_of c.args.caller) s.core ≡ true = (let a = c.fits.ensures in let b = c.entries_for.ensures in let n = c.if-not-fits.false in grind arith) in
    let is : s.core.trapped ≡ true = sym (trapped c.args.kind c.args.instance c.args.caller s t c.in-Ok.id e.thread e.task e.core e.current e.tags) ∙ (let a = c.trapped.ensures in let n = c.if-trapped.true in grind arith) in
    subst (λ b. Begins c.args.kind c.args.instance c.args.caller s b (Ok c.in-Ok.id) (g.W.View.view c.set_trapped.new.self)) (sym room)
    (begun_trapped c.args.kind c.args.instance c.args.caller s t c.in-Ok.id e.thread e.task e.core e.current e.tags is _ c.set_trapped.ensures)

pub returns-else-trapped-clause-begins : goal.returns-else-trapped-clause-begins
returns-else-trapped-clause-begins g c =
    let s = g.W.View.view c.args.w.now in
    let t = g.W.View.view c.make_task.new.w in
    let e = c.in-Ok.ensures in
    let room : fits (entries_of c.args.caller) s.core ≡ true = (let a = c.fits.ensures in let b = c.entries_for.ensures in let n = c.if-not-fits.false in grind arith) in
    subst (λ b. Begins c.args.kind c.args.instance c.args.caller s b (Ok c.in-Ok.id) t) (sym room)
    (begun c.args.kind c.args.instance c.args.caller s t c.in-Ok.id e.thread e.task e.core e.current e.tags
    (sym (trapped c.args.kind c.args.instance c.args.caller s t c.in-Ok.id e.thread e.task e.core e.current e.tags) ∙ (let a = c.trapped.ensures in let n = c.if-trapped.false in grind arith)))

pub returns-then-trapped-clause-order : goal.returns-then-trapped-clause-order
returns-then-trapped-clause-order g c = λ component p kind in_turn.
    let s = g.W.View.view c.args.w.now in
    begins_in_order component p c.args.instance s in_turn c.args.kind c.args.caller (fits (entries_of c.args.caller) s.core) (Ok c.in-Ok.id) (g.W.View.view c.set_trapped.new.self)
    (returns-then-trapped-clause-begins g c) kind

pub returns-else-trapped-clause-order : goal.returns-else-trapped-clause-order
returns-else-trapped-clause-order g c = λ component p kind in_turn.
    let s = g.W.View.view c.args.w.now in
    begins_in_order component p c.args.instance s in_turn c.args.kind c.args.caller (fits (entries_of c.args.caller) s.core) (Ok c.in-Ok.id) (g.W.View.view c.make_task.new.w)
    (returns-else-trapped-clause-begins g c) kind
