use Rattle.core_records.proofs.Core.{ap, entries, is_some, seen, subst, sym}
use Rattle.std.proofs.Common.{option_map}
use Rattle.core_removals.proofs.OrderLemmas.{chain_in_order, order_filter}
use Rattle.core_removals.proofs.ReleaseLemmas.{next_unqueued, release_begins, release_ends, release_smaller, release_step}
use Rattle.core_removals.proofs.WalkLemmas.{walk_begins, walk_ends, walk_good, walk_link}
use Rattle.core_removals.proofs.releases.release_chain.Goals as goal
use Rattle.core_removals.specs.Held.{Releases, is_admitted}
use Rattle.core_removals.specs.Walks.{Walk, of_chain}

pub first-next-requires : goal.first-next-requires
first-next-requires c = c.requires.live

pub loop-next-init : goal.loop-next-init
loop-next-init c =
    let a = c.args.parts.now in
    let list = entries a.places c.args.chain in
    record {
      sound = c.requires.sound;
      links = c.first-next.ensures.sound;
      walk = subst (Walk (Releases c.args.instance (seen a) (of_chain a c.args.chain) a) list) (sym c.first-next.ensures.entry)
          (walk_begins (Releases c.args.instance (seen a) (of_chain a c.args.chain) a) list (release_begins c.args.instance a list c.requires.unqueued c.requires.once c.requires.held));
    }

pub next-next-requires : goal.next-next-requires
next-next-requires c = ap is_some (walk_link _ c.loop-next.parts.places c.args.chain c.loop-next.invariant.links _ (c.in-Some.entry.0.index, c.in-Some.entry.1) c.loop-next.invariant.walk (ap (option_map (λ e. (e.0.index, e.1))) c.in-Some.is)).1

pub release_node-requires-clause-sound : goal.release_node-requires-clause-sound
release_node-requires-clause-sound c = c.loop-next.invariant.sound

pub release_node-requires-clause-link : goal.release_node-requires-clause-link
release_node-requires-clause-link c = ap is_some (walk_link _ c.loop-next.parts.places c.args.chain c.loop-next.invariant.links _ (c.in-Some.entry.0.index, c.in-Some.entry.1) c.loop-next.invariant.walk (ap (option_map (λ e. (e.0.index, e.1))) c.in-Some.is)).1

pub release_node-requires-clause-unqueued : goal.release_node-requires-clause-unqueued
release_node-requires-clause-unqueued c =
    let a = c.args.parts.now in
    walk_good _ c.loop-next.parts.places c.args.chain c.loop-next.invariant.links _ (c.in-Some.entry.0.index, c.in-Some.entry.1) c.loop-next.invariant.walk (ap (option_map (λ e. (e.0.index, e.1))) c.in-Some.is)
    (λ b was. next_unqueued c.args.instance (seen a) (of_chain a c.args.chain) c.loop-next.parts (c.in-Some.entry.0.index, c.in-Some.entry.1) b was)

pub loop-next-smaller : goal.loop-next-smaller
loop-next-smaller c = release_smaller c.args.instance (seen c.args.parts.now) (of_chain c.args.parts.now c.args.chain) c.loop-next.parts c.loop-next.invariant.links c.args.chain _ (c.in-Some.entry.0.index, c.in-Some.entry.1) c.loop-next.invariant.walk (ap (option_map (λ e. (e.0.index, e.1))) c.in-Some.is) (option_map (λ e. (e.0.index, e.1)) c.next-next.result) c.next-next.ensures.entry c.release_node.new.parts c.release_node.ensures.stays c.release_node.ensures.left

pub loop-next-preserved : goal.loop-next-preserved
loop-next-preserved c = record {
  sound = c.release_node.ensures.sound;
  links = c.release_node.ensures.links;
  walk = release_step c.args.instance (seen c.args.parts.now) (of_chain c.args.parts.now c.args.chain) c.loop-next.parts c.loop-next.invariant.links c.args.chain _ (c.in-Some.entry.0.index, c.in-Some.entry.1) c.loop-next.invariant.walk (ap (option_map (λ e. (e.0.index, e.1))) c.in-Some.is) (option_map (λ e. (e.0.index, e.1)) c.next-next.result) c.next-next.ensures.entry c.release_node.new.parts c.release_node.ensures.stays c.release_node.ensures.left c.release_node.ensures.puts c.release_node.ensures.numbers;
}

pub returns-clause-sound : goal.returns-clause-sound
returns-clause-sound c = c.loop-next.invariant.sound

pub returns-clause-new : goal.returns-clause-new
returns-clause-new c =
    let a = c.args.parts.now in
    release_ends c.args.instance (seen a) (of_chain a c.args.chain) c.loop-next.parts (walk_ends _ (entries c.loop-next.parts.places c.args.chain) _ c.loop-next.invariant.walk (ap (option_map (λ e. (e.0.index, e.1))) c.in_default.is))

pub returns-clause-picks : goal.returns-clause-picks
returns-clause-picks c =
    let a = c.args.parts.now in
    order_filter a (is_admitted c.args.instance (seen a).core) (of_chain a c.args.chain) (chain_in_order a c.requires.sound c.args.chain (entries a.places c.args.chain) c.first-next.ensures.linked (c.chains_are_ordered.ensures c.args.chain))
