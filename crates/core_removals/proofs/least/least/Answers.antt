use Rattle.core_records.proofs.Core.{ap, entries, is_some, map, None, refl, seen, Some, subst, sym, thread_of, ◌∙◌}
use Rattle.std.proofs.Common.{option_map}
use Rattle.core_removals.proofs.WalkLemmas.{walk_begins, walk_ends, walk_link, walk_more, walk_smaller}
use Rattle.core_removals.proofs.least.least.Goals as goal
use Rattle.core_removals.specs.Least.{HasLeast, least_from, lesser}
use Rattle.core_removals.specs.Walks.{Walk, of_chain, of_node}

pub loop-next-init : goal.loop-next-init
loop-next-init c =
    let a = c.args.parts.now in
    record {
      links = c.first-next.ensures.sound;
      walk = subst (Walk (HasLeast (of_node a) (of_chain a c.args.chain) None) (entries a.places c.args.chain)) (sym c.first-next.ensures.entry) (walk_begins (HasLeast (of_node a) (of_chain a c.args.chain) None) (entries a.places c.args.chain) refl);
    }

pub node_thread-requires : goal.node_thread-requires
node_thread-requires c = ap is_some (walk_link _ c.args.parts.now.places c.args.chain c.loop-next.invariant.links _ (c.in-Some.entry.0.index, c.in-Some.entry.1) c.loop-next.invariant.walk (ap (option_map (λ e. (e.0.index, e.1))) c.in-Some.is)).1

pub next-next-requires : goal.next-next-requires
next-next-requires c = ap is_some (walk_link _ c.args.parts.now.places c.args.chain c.loop-next.invariant.links _ (c.in-Some.entry.0.index, c.in-Some.entry.1) c.loop-next.invariant.walk (ap (option_map (λ e. (e.0.index, e.1))) c.in-Some.is)).1

pub loop-next-smaller : goal.loop-next-smaller
loop-next-smaller c =
    walk_smaller _ c.args.parts.now.places c.args.chain c.loop-next.invariant.links _ (c.in-Some.entry.0.index, c.in-Some.entry.1) c.loop-next.invariant.walk (ap (option_map (λ e. (e.0.index, e.1))) c.in-Some.is) (option_map (λ e. (e.0.index, e.1)) c.next-next.result)
    c.next-next.ensures.entry

pub loop-next-preserved : goal.loop-next-preserved
loop-next-preserved c =
    let a = c.args.parts.now in
    record {
      links = c.loop-next.invariant.links;
      walk = walk_more _ a.places c.args.chain c.loop-next.invariant.links _ (c.in-Some.entry.0.index, c.in-Some.entry.1) c.loop-next.invariant.walk (ap (option_map (λ e. (e.0.index, e.1))) c.in-Some.is) (option_map (λ e. (e.0.index, e.1)) c.next-next.result)
          c.next-next.ensures.entry _
          (λ b is. ap (λ n. least_from (Some n) (map (λ e. of_node a e.0) b)) (c.lesser.ensures ∙ ap (lesser (option_map (λ id. thread_of (seen a) id) c.loop-next.least)) c.node_thread.ensures) ∙ is);
    }

pub returns-clause-is : goal.returns-clause-is
returns-clause-is c = walk_ends _ (entries c.args.parts.now.places c.args.chain) _ c.loop-next.invariant.walk (ap (option_map (λ e. (e.0.index, e.1))) c.in_default.is)
