use Rattle.std.proofs.Common.{is_some, ap, sym, ◌∙◌, option_map}
use Rattle.std.specs.Ordering.{is_lt}
use Rattle.table_links.specs.Links.{entries}
use Rattle.task_wait.proofs.WalkLemmas.{Walk-stops, Walk-ends, Walk-more, Walk-smaller, walk_link}
use Rattle.table_lists.proofs.ordered_lists.place.Goals as goal

pub loop-last-init : goal.loop-last-init
loop-last-init g c = record { sound = c.begin-begun.ensures.sound; walk = c.begin-begun.ensures.walk }

pub returns-then-is_less-clause-place : goal.returns-then-is_less-clause-place
returns-then-is_less-clause-place g c =
    Walk-stops (λ other. is_lt (g.P.Ord.cmp other c.args.value)) (entries c.args.links.now c.args.chain) (option_map (λ e. (e.0.index, e.1)) c.loop-last.last) (option_map (λ node. node.index) c.loop-last.place) (c.in-Some.entry.0.index, c.in-Some.entry.1) c.loop-last.invariant.walk (ap (option_map (λ e. (e.0.index, e.1))) c.in-Some.is)
    (sym c.is_less.ensures ∙ c.if-is_less.true)

pub previous-last-requires : goal.previous-last-requires
previous-last-requires g c = ap is_some (walk_link (λ other. is_lt (g.P.Ord.cmp other c.args.value)) c.args.links.now c.args.chain c.loop-last.invariant.sound (option_map (λ e. (e.0.index, e.1)) c.loop-last.last) (option_map (λ node. node.index) c.loop-last.place) (c.in-Some.entry.0.index, c.in-Some.entry.1) c.loop-last.invariant.walk (ap (option_map (λ e. (e.0.index, e.1))) c.in-Some.is)).1

pub loop-last-smaller : goal.loop-last-smaller
loop-last-smaller g c = Walk-smaller (λ other. is_lt (g.P.Ord.cmp other c.args.value)) c.args.links.now c.args.chain c.loop-last.invariant.sound (option_map (λ e. (e.0.index, e.1)) c.loop-last.last) (option_map (λ node. node.index) c.loop-last.place) (c.in-Some.entry.0.index, c.in-Some.entry.1) c.loop-last.invariant.walk (ap (option_map (λ e. (e.0.index, e.1))) c.in-Some.is) (option_map (λ e. (e.0.index, e.1)) c.previous-last.result) c.previous-last.ensures.entry

pub loop-last-preserved : goal.loop-last-preserved
loop-last-preserved g c = record {
  sound = c.loop-last.invariant.sound;
  walk = Walk-more (λ other. is_lt (g.P.Ord.cmp other c.args.value)) c.args.links.now c.args.chain c.loop-last.invariant.sound (option_map (λ e. (e.0.index, e.1)) c.loop-last.last) (option_map (λ node. node.index) c.loop-last.place) (c.in-Some.entry.0.index, c.in-Some.entry.1) c.loop-last.invariant.walk (ap (option_map (λ e. (e.0.index, e.1))) c.in-Some.is) (option_map (λ e. (e.0.index, e.1)) c.previous-last.result) c.previous-last.ensures.entry (sym c.is_less.ensures ∙ c.if-is_less.false);
}

pub returns-clause-place : goal.returns-clause-place
returns-clause-place g c = Walk-ends (λ other. is_lt (g.P.Ord.cmp other c.args.value)) (entries c.args.links.now c.args.chain) (option_map (λ e. (e.0.index, e.1)) c.loop-last.last) (option_map (λ node. node.index) c.loop-last.place) c.loop-last.invariant.walk (ap (option_map (λ e. (e.0.index, e.1))) c.in_default.is)
