-- The label at this place is counted after those before it.
use Rattle.run_trace.proofs.YieldBudgetLemmas.{driven_next, mark_from}
use Rattle.run_trace.specs.YieldBudget.{counted_past}
use Rattle.std.proofs.Common.{ap, arith, drop, length, length-drop, suc, sym, take, ◌+◌, ◌-◌, ◌<◌, ◌≡◌, ◌∙◌}
use Rattle.std.specs.Prelude.{Option}
use Rattle.machine_data.specs.declared.statuses.Mark.{Mark}
use Rattle.run_trace.proofs.yield_budget.YieldBudget.driven.Goals as goal

pub labels-preserved : goal.labels-preserved
labels-preserved c =
    let trace = c.args.trace.now.labels in
    let from = c.args.from in
    let n = c.labels.place - from in
    let b = c.args.self.passes in
    let k = c.args.self.since in
    let so_far = take n (drop from trace) in
    let here : from + n ≡ c.labels.place = omega (arith, c.labels.auto.place) in
    let one_more : c.labels.place + 1 - from ≡ suc n = omega (arith, c.labels.auto.place) in
    let within : n < length (drop from trace) = omega (arith, c.labels.auto.place, c.labels-test.true, c.len-place-end.ensures, length-drop from trace) in
    let next = driven_next (drop from trace) n b k within in
    let shown = rw here at (mark_from trace from n) in
    record {
      since =
          rw one_more
          (c.past-yield_budget.ensures.since ∙ (ap (λ (o : Option Mark). counted_past c.labels.yield_budget.passes c.labels.yield_budget.since o) (c.mark.ensures ∙ sym shown) ∙ (rw (c.labels.invariant.passes, c.labels.invariant.since) (sym next.0))));
      passes = rw one_more (c.past-yield_budget.ensures.passes ∙ sym next.1);
    }
