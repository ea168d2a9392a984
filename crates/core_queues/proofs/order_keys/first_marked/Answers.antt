use Rattle.core_records.proofs.Core.{ap, chained, IfSome, Option, subst, sym, ℕ, ◌∙◌, ◌≡◌}
use Rattle.table_lists.specs.Rows.{values, with_nodes}
use Rattle.table_links.specs.Links.{entries, head_of}
use Rattle.core_records.specs.declared.{thread_records.Queued.Queued}
use Rattle.core_queues.specs.OrderKeys.{top}
use Rattle.core_queues.proofs.TopLemmas.{marked_top}
use Rattle.core_queues.proofs.order_keys.first_marked.Goals as goal

pub returns-in-Some-first : goal.returns-in-Some-first
returns-in-Some-first c =
    let links = c.args.links.now in
    let nodes = subst (λ (o : Option ℕ). IfSome o (λ n. entries links n ≡ with_nodes (λ (q : Queued). q.mark.index) (values links n))) c.in-Some.is c.requires.nodes in
    marked_top (values links c.in-Some.chain) c.in-Some-first.mark c.in-Some-first.queued (c.in-Some-first.ensures.entry ∙ ap head_of nodes) ∙ ap (λ (o : Option ℕ). top (chained links o)) (sym c.in-Some.is)
