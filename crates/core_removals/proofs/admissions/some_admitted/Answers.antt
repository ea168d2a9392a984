use Rattle.core_records.proofs.Core.{ap, entries, is_some, list_any, map, or_left, refl, seen, subst, sym, ◌||◌, ◌∙◌}
use Rattle.std.proofs.Common.{option_map}
use Rattle.core_removals.proofs.WalkLemmas.{walk_begins, walk_ends, walk_good, walk_link, walk_more, walk_smaller}
use Rattle.core_removals.proofs.admissions.some_admitted.Goals as goal
use Rattle.core_removals.specs.Held.{AnyLeft, is_admitted}
use Rattle.core_removals.specs.Walks.{Walk, of_chain, of_node}

pub loop-next-init : goal.loop-next-init
loop-next-init c =
    let a = c.args.parts.now in
    record {
      links = c.first-next.ensures.sound;
      walk = subst (Walk (AnyLeft (of_node a) (is_admitted c.args.instance (seen a).core) (of_chain a c.args.chain)) (entries a.places c.args.chain)) (sym c.first-next.ensures.entry) (walk_begins (AnyLeft (of_node a) (is_admitted c.args.instance (seen a).core) (of_chain a c.args.chain)) (entries a.places c.args.chain) refl);
    }

pub node_thread-requires : goal.node_thread-requires
node_thread-requires c = ap is_some (walk_link _ c.args.parts.now.places c.args.chain c.loop-next.invariant.links _ (c.in-Some.entry.0.index, c.in-Some.entry.1) c.loop-next.invariant.walk (ap (option_map (λ e. (e.0.index, e.1))) c.in-Some.is)).1

pub next-next-requires : goal.next-next-requires
next-next-requires c = ap is_some (walk_link _ c.args.parts.now.places c.args.chain c.loop-next.invariant.links _ (c.in-Some.entry.0.index, c.in-Some.entry.1) c.loop-next.invariant.walk (ap (option_map (λ e. (e.0.index, e.1))) c.in-Some.is)).1

pub loop-next-smaller : goal.loop-next-smaller
loop-next-smaller c =
    walk_smaller _ c.args.parts.now.places c.args.chain c.loop-next.invariant.links _ (c.in-Some.entry.0.index, c.in-Some.entry.1) c.loop-next.invariant.walk (ap (option_map (λ e. (e.0.index, e.1))) c.in-Some.is) (option_map (λ e. (e.0.index, e.1)) c.next-next.result)
    c.next-next.ensures.entry

pub loop-next-preserved : goal.loop-next-preserved
loop-next-preserved c =
    let a = c.args.parts.now in
    record {
      links = c.loop-next.invariant.links;
      walk = walk_more _ a.places c.args.chain c.loop-next.invariant.links _ (c.in-Some.entry.0.index, c.in-Some.entry.1) c.loop-next.invariant.walk (ap (option_map (λ e. (e.0.index, e.1))) c.in-Some.is) (option_map (λ e. (e.0.index, e.1)) c.next-next.result)
          c.next-next.ensures.entry _
          (λ b is. ap (λ t. t || list_any (is_admitted c.args.instance (seen a).core) (map (λ e. of_node a e.0) b)) (sym (sym c.is_admitted.ensures ∙ c.if-is_admitted.false) ∙ ap (is_admitted c.args.instance (seen a).core) c.node_thread.ensures) ∙ is);
    }

pub returns-then-is_admitted-clause-is : goal.returns-then-is_admitted-clause-is
returns-then-is_admitted-clause-is c =
    let a = c.args.parts.now in
    walk_good _ a.places c.args.chain c.loop-next.invariant.links _ (c.in-Some.entry.0.index, c.in-Some.entry.1) c.loop-next.invariant.walk (ap (option_map (λ e. (e.0.index, e.1))) c.in-Some.is)
    (λ b is. sym (or_left _ _ (ap (is_admitted c.args.instance (seen a).core) (sym c.node_thread.ensures) ∙ (sym c.is_admitted.ensures ∙ c.if-is_admitted.true))) ∙ is)

pub returns-clause-is : goal.returns-clause-is
returns-clause-is c = walk_ends _ (entries c.args.parts.now.places c.args.chain) _ c.loop-next.invariant.walk (ap (option_map (λ e. (e.0.index, e.1))) c.in_default.is)
