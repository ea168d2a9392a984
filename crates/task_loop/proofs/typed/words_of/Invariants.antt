-- The words of the parameters so far.
use Rattle.std.proofs.Common.{length, take, ◌≡◌}
use Rattle.task_loop.proofs.typed.words_of.Given as goal

abbrev pub invariant-fill : goal.invariant-fill
invariant-fill g l = record {
  filled : take l.i l.words ≡ take l.i (g.P.Words.words l.params);
  room : length l.words ≡ 16;
}
