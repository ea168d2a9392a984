use Rattle.std.proofs.Common.{◌≡◌, ℕ, List, ◌++◌, false, length, map, true}
use Rattle.std.specs.FinMap as finite
use Rattle.task_group.specs.Listeners.{AnsweredErr, ToldListeners, errors_of}
use Rattle.task_group.specs.Groups.{finish_number}
use Rattle.task_group.proofs.groups.finish_each.Given as goal

abbrev pub invariant-loop-number : goal.invariant-loop-number
invariant-loop-number g l =
    (done : List ℕ) × (finite.keys l.initial.counts ≡ done ++ finite.keys l.counts)
    × ToldListeners (map finish_number done) l.initial.listeners l.listeners
    × (l.hook_is_ok ≡ true → errors_of l.listeners ≡ errors_of l.initial.listeners)
    × (l.hook_is_ok ≡ false → AnsweredErr l.initial.listeners l.listeners)

abbrev pub decreases-loop-number : goal.decreases-loop-number
decreases-loop-number g l = length (finite.keys l.counts)
