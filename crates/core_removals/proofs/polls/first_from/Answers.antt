use Rattle.core_records.proofs.Core.{ap, entries, is_some, Some, ℕ, ◌∙◌}
use Rattle.std.proofs.Common.{option_map}
use Rattle.core_removals.proofs.PollLemmas.{found_here, live_numbered, passed_here, walk_value}
use Rattle.core_removals.proofs.WalkLemmas.{walk_ends, walk_good, walk_more, walk_smaller}
use Rattle.core_removals.proofs.polls.first_from.Goals as goal
use Rattle.core_removals.specs.Walks.{HasNext}

pub returns-then-polled-work : goal.returns-then-polled-work
returns-then-polled-work c =
    let a = c.args.parts.now in
    let at = ap (option_map (λ e. (e.0.index, e.1))) c.in-Some.is in
    let link = walk_value a.polled c.args.chain c.loop-next.invariant.linked _ _ (c.in-Some.node.index, c.in-Some.work) c.loop-next.invariant.walk at in
    ap (λ (n : ℕ). Some n) (c.work_at.ensures ∙ live_numbered a c.requires.sound c.args.chain c.requires.is c.in-Some.node.index c.in-Some.work link)
    ∙ walk_good (HasNext c.args.polled (entries a.polled c.args.chain)) a.polled c.args.chain c.loop-next.invariant.links _ (c.in-Some.node.index, c.in-Some.work) c.loop-next.invariant.walk at
    (λ b is. found_here c.args.polled (c.in-Some.node.index, c.in-Some.work) b c.if-polled-work.true ∙ is)

pub next-next-requires : goal.next-next-requires
next-next-requires c = ap is_some (walk_value c.args.parts.now.polled c.args.chain c.loop-next.invariant.linked _ _ (c.in-Some.node.index, c.in-Some.work) c.loop-next.invariant.walk (ap (option_map (λ e. (e.0.index, e.1))) c.in-Some.is))

pub loop-next-smaller : goal.loop-next-smaller
loop-next-smaller c =
    walk_smaller (HasNext c.args.polled (entries c.args.parts.now.polled c.args.chain)) c.args.parts.now.polled c.args.chain c.loop-next.invariant.links _ (c.in-Some.node.index, c.in-Some.work) c.loop-next.invariant.walk (ap (option_map (λ e. (e.0.index, e.1))) c.in-Some.is) (option_map (λ e. (e.0.index, e.1)) c.next-next.result)
    c.next-next.ensures.entry

pub loop-next-preserved : goal.loop-next-preserved
loop-next-preserved c =
    let a = c.args.parts.now in
    record {
      links = c.loop-next.invariant.links;
      linked = c.loop-next.invariant.linked;
      walk = walk_more (HasNext c.args.polled (entries a.polled c.args.chain)) a.polled c.args.chain c.loop-next.invariant.links _ (c.in-Some.node.index, c.in-Some.work) c.loop-next.invariant.walk (ap (option_map (λ e. (e.0.index, e.1))) c.in-Some.is) (option_map (λ e. (e.0.index, e.1)) c.next-next.result)
          c.next-next.ensures.entry (HasNext c.args.polled (entries a.polled c.args.chain))
          (λ b is. passed_here c.args.polled (c.in-Some.node.index, c.in-Some.work) b c.if-polled-work.false ∙ is);
    }

pub returns : goal.returns
returns c = walk_ends (HasNext c.args.polled (entries c.args.parts.now.polled c.args.chain)) (entries c.args.parts.now.polled c.args.chain) _ c.loop-next.invariant.walk (ap (option_map (λ e. (e.0.index, e.1))) c.in_default.is)
