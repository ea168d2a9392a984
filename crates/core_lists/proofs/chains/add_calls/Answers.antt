use Rattle.core_lists.proofs.WalkedLists.{listed_all, listed_one}
use Rattle.core_lists.proofs.chains.add_calls.Goals as goal
use Rattle.core_lists.specs.Chains.{Adds, call_of_node, calls_in}
use Rattle.core_primitives.specs.Names.{subtask_in}
use Rattle.core_records.proofs.Core.{ap, entries, is_some, map, refl, seen, subst, sym, ◌++◌}
use Rattle.core_removals.proofs.WalkLemmas.{walk_begins, walk_ends, walk_link, walk_more, walk_smaller}
use Rattle.core_removals.specs.Walks.{Walk}
use Rattle.std.proofs.Common.{option_map}

pub loop-next-init : goal.loop-next-init
loop-next-init c =
    let a = c.args.parts.now in
    let good = Adds (call_of_node a) (map (λ id. subtask_in (seen a).tags id) c.args.list.now.items ++ calls_in a c.args.chain) (map (λ id. subtask_in (seen a).tags id) c.args.list.now.items) in
    record {
      links = c.first-next.ensures.sound;
      walk = subst (Walk good (entries a.ready_calls c.args.chain)) (sym c.first-next.ensures.entry) (walk_begins good (entries a.ready_calls c.args.chain) refl);
    }

pub node_call-requires : goal.node_call-requires
node_call-requires c = ap is_some (walk_link _ c.args.parts.now.ready_calls c.args.chain c.loop-next.invariant.links _ (c.in-Some.entry.0.index, c.in-Some.entry.1) c.loop-next.invariant.walk (ap (option_map (λ e. (e.0.index, e.1))) c.in-Some.is)).1

pub next-next-requires : goal.next-next-requires
next-next-requires c = ap is_some (walk_link _ c.args.parts.now.ready_calls c.args.chain c.loop-next.invariant.links _ (c.in-Some.entry.0.index, c.in-Some.entry.1) c.loop-next.invariant.walk (ap (option_map (λ e. (e.0.index, e.1))) c.in-Some.is)).1

pub loop-next-smaller : goal.loop-next-smaller
loop-next-smaller c =
    walk_smaller _ c.args.parts.now.ready_calls c.args.chain c.loop-next.invariant.links _ (c.in-Some.entry.0.index, c.in-Some.entry.1) c.loop-next.invariant.walk (ap (option_map (λ e. (e.0.index, e.1))) c.in-Some.is) (option_map (λ e. (e.0.index, e.1)) c.next-next.result)
    c.next-next.ensures.entry

pub loop-next-preserved : goal.loop-next-preserved
loop-next-preserved c =
    let a = c.args.parts.now in
    record {
      links = c.loop-next.invariant.links;
      walk = walk_more _ a.ready_calls c.args.chain c.loop-next.invariant.links _ (c.in-Some.entry.0.index, c.in-Some.entry.1) c.loop-next.invariant.walk (ap (option_map (λ e. (e.0.index, e.1))) c.in-Some.is) (option_map (λ e. (e.0.index, e.1)) c.next-next.result)
          c.next-next.ensures.entry _
          (λ b is. listed_one (λ id. subtask_in (seen a).tags id) (call_of_node a) _ c.loop-next.list.items c.push.new.self.items c.node_call.result (c.in-Some.entry.0.index, c.in-Some.entry.1) b c.in_ok-push.ensures.items c.node_call.ensures is);
    }

pub returns-clause-added : goal.returns-clause-added
returns-clause-added c =
    let a = c.args.parts.now in
    listed_all _ (map (λ id. subtask_in (seen a).tags id) c.loop-next.list.items) (walk_ends _ (entries a.ready_calls c.args.chain) _ c.loop-next.invariant.walk (ap (option_map (λ e. (e.0.index, e.1))) c.in_default.is))
