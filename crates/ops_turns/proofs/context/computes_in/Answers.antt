-- Each op by its rule.
use Rattle.std.proofs.Common.{ap}
use Rattle.ops_turns.proofs.ContextLemmas.{add_rule, beside_memory_cell, handle_rule, load_rule, scripted_set_rule, skip_eq_rule, store_rule}
use Rattle.ops_turns.proofs.context.computes_in.Goals as goal
use Rattle.core_primitives.specs.StateView.{StateView}

pub returns-in-Set-clause-row : goal.returns-in-Set-clause-row
returns-in-Set-clause-row g c d script =
    rw c.in-Set.is (scripted_set_rule c.args.number c.args.instance (g.W.View.view c.args.w.now).core c.requires.there c.requires.instance c.args.context.now d c.in-Set.to c.in-Set.value c.operand_value-answer.result c.assigns.new.context c.operand_value-answer.ensures c.assigns.ensures)

pub returns-in-Add-clause-row : goal.returns-in-Add-clause-row
returns-in-Add-clause-row g c d script =
    rw c.in-Add.is (add_rule c.args.number c.args.instance (g.W.View.view c.args.w.now).core c.requires.there c.requires.instance c.args.context.now d c.in-Add.to c.in-Add.value c.operand_value-left.result c.operand_value.result c.assigns-in-Add.new.context c.operand_value-left.ensures c.operand_value.ensures c.assigns-in-Add.ensures)

pub returns-in-Handle-clause-row : goal.returns-in-Handle-clause-row
returns-in-Handle-clause-row g c d script =
    rw c.in-Handle.is (handle_rule c.args.number c.args.instance (g.W.View.view c.args.w.now).core c.requires.there c.requires.instance c.args.context.now d c.in-Handle.to c.in-Handle.value c.operand_value-answer-in-Handle.result c.assigns-in-Handle.new.context c.operand_value-answer-in-Handle.ensures c.assigns-in-Handle.ensures)

pub returns-in-Load-clause-row : goal.returns-in-Load-clause-row
returns-in-Load-clause-row g c d script =
    rw c.in-Load.is (load_rule c.args.number c.args.instance (g.W.View.view c.args.w.now).core c.requires.there c.requires.instance c.args.context.now d c.in-Load.to c.in-Load.cell c.memory_cell-answer.result c.assigns-in-Load.new.context c.memory_cell-answer.ensures c.assigns-in-Load.ensures)

pub returns-in-Store-clause-row : goal.returns-in-Store-clause-row
returns-in-Store-clause-row g c d script =
    rw c.in-Store.is (store_rule c.args.number c.args.instance (g.W.View.view c.args.w.now).core c.requires.there c.requires.instance c.args.context.now d c.in-Store.cell c.in-Store.value c.operand_value-answer-in-Store.result (g.W.View.view c.set_memory_cell.new.self).core c.operand_value-answer-in-Store.ensures (ap (λ (s : StateView). s.core) c.set_memory_cell.ensures))

pub returns-in-Store-clause-beside : goal.returns-in-Store-clause-beside
returns-in-Store-clause-beside g c = beside_memory_cell c.args.instance c.in-Store.cell c.operand_value-answer-in-Store.result (g.W.View.view c.args.w.now) (g.W.View.view c.set_memory_cell.new.self) c.set_memory_cell.ensures

pub returns-in-SkipEq-clause-row : goal.returns-in-SkipEq-clause-row
returns-in-SkipEq-clause-row g c d script =
    rw c.in-SkipEq.is (skip_eq_rule c.args.number c.args.instance (g.W.View.view c.args.w.now).core c.requires.there c.requires.instance c.args.context.now d c.args.end script c.requires.before c.in-SkipEq.left c.in-SkipEq.right c.in-SkipEq.ops c.place_after-context.result c.place_after-context.ensures)
