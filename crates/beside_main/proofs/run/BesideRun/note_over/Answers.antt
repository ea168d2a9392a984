-- At its cell it is said that the spawn that was polled is over, if the label says so.
use Rattle.std.proofs.Common.{ap, refl, sym, ◌∙◌, ◌≡◌}
use Rattle.std.specs.List.{last_or}
use Rattle.std.specs.Prelude.{None, [], false, true, ◌∷◌}
use Rattle.task_abort.specs.declared.log.PhaseCall.TheVariants.{Finish}
use Rattle.beside_main.proofs.CallLemmas.{adds_open, adds_over, adds_unpolled, ok_both}
use Rattle.beside_main.specs.Calls.{Adds, ends_work, finish_if, on_last, on_place}
use Rattle.beside_main.specs.Same.{same_asked, same_cells}
use Rattle.beside_main.proofs.run.BesideRun.note_over.Goals as goal

pub returns-in_default-clause-cells : goal.returns-in_default-clause-cells
returns-in_default-clause-cells g c = same_asked c.args.self.now.cells

pub returns-in_default-clause-calls : goal.returns-in_default-clause-calls
returns-in_default-clause-calls g c = (adds_unpolled c.args.self.now.cells.polled _ c.args.self.now.cells.list.items c.in_default.is, c.in_default.is)

pub returns-then-ends_work-clause-cells : goal.returns-then-ends_work-clause-cells
returns-then-ends_work-clause-cells g c = (c.finish.ensures.cells, refl)

pub returns-then-ends_work-clause-calls : goal.returns-then-ends_work-clause-calls
returns-then-ends_work-clause-calls g c =
    let ends : ends_work (last_or None c.args.self.now.trace) ≡ true = ap ends_work (sym c.last.ensures) ∙ (sym c.ends_work.ensures ∙ c.if-ends_work.true) in
    let olds = c.args.self.now.cells.list.items in
    let news = c.finish.new.cells.items in
    ok_both (Adds (on_place c.in-Some.place (Finish ∷ [])) 1 olds news) (Adds (on_last c.args.self.now.cells.polled (finish_if (ends_work (last_or None c.args.self.now.trace)))) 1 olds news) (None ≡ None) c.finish.result
    (adds_over c.args.self.now.cells.polled c.in-Some.place (ends_work (last_or None c.args.self.now.trace)) olds news c.in-Some.is ends) refl c.finish.ensures.calls

pub returns-clause-cells : goal.returns-clause-cells
returns-clause-cells g c = (same_cells c.args.self.now.cells.list.items, refl)

pub returns-clause-calls : goal.returns-clause-calls
returns-clause-calls g c =
    let still : ends_work (last_or None c.args.self.now.trace) ≡ false = ap ends_work (sym c.last.ensures) ∙ (sym c.ends_work.ensures ∙ c.if-ends_work.false) in
    (adds_open c.args.self.now.cells.polled (ends_work (last_or None c.args.self.now.trace)) c.args.self.now.cells.list.items still, refl)
