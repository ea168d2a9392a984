-- The thread that runs is there.
use Rattle.std.proofs.Common.{ap, sym, ◌∙◌}
use Rattle.std.specs.Prelude.{option_map}
use Rattle.task_loop.proofs.tells.runner_group.Goals as goal
use Rattle.ops_turns.proofs.OrderLemmas.{positive}
use Rattle.core_primitives.specs.StateView.{thread_of}

pub group_unchecked-requires : goal.group_unchecked-requires
group_unchecked-requires c =
    let t = c.args.core.now in
    let n = thread_of t c.in-Some.thread in
    positive n t.core c.none_is_zero.ensures.threads (c.requires n (ap (option_map (λ i. thread_of t i)) (sym c.current.ensures ∙ c.in-Some.is)))
