use Rattle.core_lists.proofs.WalkedLists.{on_ok}
use Rattle.core_lists.proofs.held.add_admitted.Goals as goal
use Rattle.core_lists.specs.Listed.{one_or_both}
use Rattle.core_primitives.specs.StateView.{thread_of}
use Rattle.core_records.proofs.Core.{ap, append_assoc, map, seen, sym, ◌++◌, ◌∙◌}
use Rattle.core_removals.specs.Walks.{of_chain}

pub returns-then-all-clause-added : goal.returns-then-all-clause-added
returns-then-all-clause-added c =
    let a = c.args.parts.now in
    let before = map (λ id. thread_of (seen a) id) c.args.list.now.items in
    let held = of_chain a c.args.held in
    let starts = of_chain a c.args.starts in
    on_ok c.add_threads-then-all.result (λ is. is ∙ (ap (λ l. l ++ starts) c.in_ok-add_threads.ensures.added ∙ (append_assoc before held starts ∙ ap (λ b. before ++ one_or_both b held starts) (sym c.if-all.true)))) c.add_threads-then-all.ensures.added
