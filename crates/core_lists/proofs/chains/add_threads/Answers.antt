use Rattle.core_lists.proofs.WalkedLists.{listed_all, listed_one}
use Rattle.core_lists.proofs.chains.add_threads.Goals as goal
use Rattle.core_lists.specs.Chains.{Adds}
use Rattle.core_primitives.specs.StateView.{thread_of}
use Rattle.core_records.proofs.Core.{ap, entries, is_some, map, refl, seen, subst, sym, ◌++◌}
use Rattle.core_removals.proofs.WalkLemmas.{walk_begins, walk_ends, walk_link, walk_more, walk_smaller}
use Rattle.core_removals.specs.Walks.{Walk, of_chain, of_node}
use Rattle.std.proofs.Common.{option_map}

pub loop-next-init : goal.loop-next-init
loop-next-init c =
    let a = c.args.parts.now in
    let good = Adds (of_node a) (map (λ id. thread_of (seen a) id) c.args.list.now.items ++ of_chain a c.args.chain) (map (λ id. thread_of (seen a) id) c.args.list.now.items) in
    record {
      links = c.first-next.ensures.sound;
      walk = subst (Walk good (entries a.places c.args.chain)) (sym c.first-next.ensures.entry) (walk_begins good (entries a.places c.args.chain) refl);
    }

pub node_thread-requires : goal.node_thread-requires
node_thread-requires c = ap is_some (walk_link _ c.args.parts.now.places c.args.chain c.loop-next.invariant.links _ (c.in-Some.entry.0.index, c.in-Some.entry.1) c.loop-next.invariant.walk (ap (option_map (λ e. (e.0.index, e.1))) c.in-Some.is)).1

pub next-next-requires : goal.next-next-requires
next-next-requires c = ap is_some (walk_link _ c.args.parts.now.places c.args.chain c.loop-next.invariant.links _ (c.in-Some.entry.0.index, c.in-Some.entry.1) c.loop-next.invariant.walk (ap (option_map (λ e. (e.0.index, e.1))) c.in-Some.is)).1

pub loop-next-smaller : goal.loop-next-smaller
loop-next-smaller c =
    walk_smaller _ c.args.parts.now.places c.args.chain c.loop-next.invariant.links _ (c.in-Some.entry.0.index, c.in-Some.entry.1) c.loop-next.invariant.walk (ap (option_map (λ e. (e.0.index, e.1))) c.in-Some.is) (option_map (λ e. (e.0.index, e.1)) c.next-next.result)
    c.next-next.ensures.entry

pub loop-next-preserved : goal.loop-next-preserved
loop-next-preserved c =
    let a = c.args.parts.now in
    record {
      links = c.loop-next.invariant.links;
      walk = walk_more _ a.places c.args.chain c.loop-next.invariant.links _ (c.in-Some.entry.0.index, c.in-Some.entry.1) c.loop-next.invariant.walk (ap (option_map (λ e. (e.0.index, e.1))) c.in-Some.is) (option_map (λ e. (e.0.index, e.1)) c.next-next.result)
          c.next-next.ensures.entry _
          (λ b is. listed_one (λ id. thread_of (seen a) id) (of_node a) _ c.loop-next.list.items c.push.new.self.items c.node_thread.result (c.in-Some.entry.0.index, c.in-Some.entry.1) b c.in_ok-push.ensures.items c.node_thread.ensures is);
    }

pub returns-clause-added : goal.returns-clause-added
returns-clause-added c =
    let a = c.args.parts.now in
    listed_all _ (map (λ id. thread_of (seen a) id) c.loop-next.list.items) (walk_ends _ (entries a.places c.args.chain) _ c.loop-next.invariant.walk (ap (option_map (λ e. (e.0.index, e.1))) c.in_default.is))
