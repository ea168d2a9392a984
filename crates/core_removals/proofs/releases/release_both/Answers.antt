use Rattle.core_records.proofs.Core.{ap, entries, head_of, is_some, List, Node, on_core, option_map, released, seen, subst, sym, ℕ, ◌∙◌}
use Rattle.core_removals.proofs.BothLemmas.{all_kept, both_admitted, both_chain, both_link, both_other, both_smaller, both_stay_admitted, both_step, both_unqueued, head_with, none_left}
use Rattle.core_removals.proofs.MergeOrderLemmas.{both_in_order}
use Rattle.core_removals.proofs.ReleaseLemmas.{admitted_held, release_begins, release_ends}
use Rattle.core_removals.proofs.releases.release_both.Goals as goal
use Rattle.core_removals.specs.Held.{Releases, is_admitted}
use Rattle.core_removals.specs.Merged.{merged, of_both}

pub loop-node-init : goal.loop-node-init
loop-node-init c =
    let a = c.args.parts.now in
    record {
      sound = c.requires.sound;
      links = c.nodes_have_order_keys.ensures.links;
      chain = c.requires.chain;
      other = c.requires.other;
      walk = release_begins c.args.instance a (merged (entries a.places c.args.chain) (entries a.places c.args.other)) c.requires.unqueued c.requires.once c.requires.held;
      admitted = c.requires.admitted;
    }

pub raise_node-requires-clause-link : goal.raise_node-requires-clause-link
raise_node-requires-clause-link c =
    let b = c.loop-node.parts in
    let one = head_with c.in-Some.node.index (head_of (merged (entries b.places c.args.chain) (entries b.places c.args.other))) (sym (ap (option_map (λ (n : Node). n.index)) c.in-Some.is) ∙ c.first_of.ensures.is) in
    both_link b c.loop-node.invariant.links c.args.chain c.args.other (c.in-Some.node.index, one.0) one.1

pub raise_node-requires-clause-unqueued : goal.raise_node-requires-clause-unqueued
raise_node-requires-clause-unqueued c =
    let a = c.args.parts.now in
    let b = c.loop-node.parts in
    let one = head_with c.in-Some.node.index (head_of (merged (entries b.places c.args.chain) (entries b.places c.args.other))) (sym (ap (option_map (λ (n : Node). n.index)) c.in-Some.is) ∙ c.first_of.ensures.is) in
    both_unqueued b c.loop-node.invariant.links c.args.chain c.args.other (c.in-Some.node.index, one.0) one.1 c.args.instance (seen a) (of_both a c.args.chain c.args.other) c.loop-node.invariant.walk

pub raise_node-requires-clause-held : goal.raise_node-requires-clause-held
raise_node-requires-clause-held c =
    let a = c.args.parts.now in
    let b = c.loop-node.parts in
    let inv = c.loop-node.invariant in
    let one = head_with c.in-Some.node.index (head_of (merged (entries b.places c.args.chain) (entries b.places c.args.other))) (sym (ap (option_map (λ (n : Node). n.index)) c.in-Some.is) ∙ c.first_of.ensures.is) in
    ap is_some (admitted_held c.args.instance _ (seen b).core (both_admitted b inv.links c.args.chain c.args.other (c.in-Some.node.index, one.0) one.1 c.args.instance (seen a) (of_both a c.args.chain c.args.other) inv.walk inv.admitted)).1

pub loop-node-smaller : goal.loop-node-smaller
loop-node-smaller c =
    let a = c.args.parts.now in
    let b = c.loop-node.parts in
    let inv = c.loop-node.invariant in
    let one = head_with c.in-Some.node.index (head_of (merged (entries b.places c.args.chain) (entries b.places c.args.other))) (sym (ap (option_map (λ (n : Node). n.index)) c.in-Some.is) ∙ c.first_of.ensures.is) in
    both_smaller b inv.links c.args.chain c.args.other (c.in-Some.node.index, one.0) one.1 c.args.instance (seen a) (of_both a c.args.chain c.args.other) inv.walk inv.admitted inv.chain inv.other c.raise_node.new.parts (c.raise_node.ensures.left)

pub loop-node-preserved : goal.loop-node-preserved
loop-node-preserved c =
    let a = c.args.parts.now in
    let b = c.loop-node.parts in
    let inv = c.loop-node.invariant in
    let d = c.raise_node.new.parts in
    let one = head_with c.in-Some.node.index (head_of (merged (entries b.places c.args.chain) (entries b.places c.args.other))) (sym (ap (option_map (λ (n : Node). n.index)) c.in-Some.is) ∙ c.first_of.ensures.is) in
    record {
      sound = c.raise_node.ensures.sound;
      links = c.raise_node.ensures.links;
      chain = both_chain b inv.links c.args.chain c.args.other (c.in-Some.node.index, one.0) one.1 c.args.instance (seen a) (of_both a c.args.chain c.args.other) inv.walk inv.admitted inv.chain inv.other d (c.raise_node.ensures.left);
      other = both_other b inv.links c.args.chain c.args.other (c.in-Some.node.index, one.0) one.1 c.args.instance (seen a) (of_both a c.args.chain c.args.other) inv.walk inv.admitted inv.chain inv.other d (c.raise_node.ensures.left);
      walk = both_step b inv.links c.args.chain c.args.other (c.in-Some.node.index, one.0) one.1 c.args.instance (seen a) (of_both a c.args.chain c.args.other) inv.walk inv.admitted inv.chain inv.other d (c.raise_node.ensures.left) c.raise_node.ensures.numbers (c.raise_node.ensures.puts);
      admitted = both_stay_admitted b inv.links c.args.chain c.args.other (c.in-Some.node.index, one.0) one.1 c.args.instance (seen a) (of_both a c.args.chain c.args.other) inv.walk inv.admitted inv.chain inv.other d (c.raise_node.ensures.left) c.raise_node.ensures.numbers;
    }

pub returns-clause-picks : goal.returns-clause-picks
returns-clause-picks c =
    let a = c.args.parts.now in
    both_in_order a c.requires.sound c.args.chain c.args.other (entries a.places c.args.chain) (entries a.places c.args.other) c.nodes_have_order_keys.ensures.linked c.nodes_have_order_keys-2.ensures.linked (c.chains_are_ordered.ensures c.args.chain) (c.chains_are_ordered.ensures c.args.other)

pub returns-clause-new : goal.returns-clause-new
returns-clause-new c =
    let a = c.args.parts.now in
    let b = c.loop-node.parts in
    let all = of_both a c.args.chain c.args.other in
    let none = none_left (merged (entries b.places c.args.chain) (entries b.places c.args.other)) (sym (ap (option_map (λ (n : Node). n.index)) c.in_default.is) ∙ c.first_of.ensures.is) in
    release_ends c.args.instance (seen a) all b (subst (Releases c.args.instance (seen a) all b) none c.loop-node.invariant.walk)
    ∙ ap (λ (ns : List ℕ). on_core (released ns) (seen a)) (all_kept (is_admitted c.args.instance (seen a).core) all c.requires.admitted)
