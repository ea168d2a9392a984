use Rattle.std.proofs.Common.{None, ap, option_map, sym, ◌∙◌}
use Rattle.std.specs.Ordering.{is_lt}
use Rattle.table_lists.proofs.ordered_lists.comes_last.Goals as goal
use Rattle.table_links.specs.Links.{entries, last_of}
use Rattle.task_wait.proofs.WalkLemmas.{Walk-begins, Walk-ends, Walk-stops}

pub returns-in-Some-clause-last : goal.returns-in-Some-clause-last
returns-in-Some-clause-last g c = λ less.
    sym (Walk-stops (λ other. is_lt (g.P.Ord.cmp other c.args.value)) (entries c.args.links.now c.args.chain) (last_of (entries c.args.links.now c.args.chain)) None (c.in-Some.entry.0.index, c.in-Some.entry.1)
    (Walk-begins (λ other. is_lt (g.P.Ord.cmp other c.args.value)) (entries c.args.links.now c.args.chain)) (sym c.last.ensures.entry ∙ ap (option_map (λ e. (e.0.index, e.1))) c.in-Some.is) (sym c.is_less.ensures ∙ less))

pub returns-in-None-clause-last : goal.returns-in-None-clause-last
returns-in-None-clause-last g c = λ _.
    sym (Walk-ends (λ other. is_lt (g.P.Ord.cmp other c.args.value)) (entries c.args.links.now c.args.chain) (last_of (entries c.args.links.now c.args.chain)) None
    (Walk-begins (λ other. is_lt (g.P.Ord.cmp other c.args.value)) (entries c.args.links.now c.args.chain)) (sym c.last.ensures.entry ∙ ap (option_map (λ e. (e.0.index, e.1))) c.in-None.is))
