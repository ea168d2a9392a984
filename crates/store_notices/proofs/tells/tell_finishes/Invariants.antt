use Rattle.std.proofs.Common.{false, take, true, ◌≡◌}
use Rattle.store_notices.specs.Moves.{finishes}
use Rattle.task_group.specs.Listeners.{AnsweredErr, ToldListeners, errors_of}
use Rattle.store_notices.proofs.tells.tell_finishes.Given as goal

abbrev pub invariant-loop-number : goal.invariant-loop-number
invariant-loop-number g l = record {
  told : ToldListeners (finishes (take l.number-index l.ended)) l.initial.listeners l.listeners;
  same : l.hook_is_ok ≡ true → errors_of l.listeners ≡ errors_of l.initial.listeners;
  failed : l.hook_is_ok ≡ false → AnsweredErr l.initial.listeners l.listeners;
}
