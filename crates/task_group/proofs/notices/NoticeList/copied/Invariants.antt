-- What was copied so far is what the iterator gave.
use Rattle.std.proofs.Common.{◌≡◌}
use Rattle.task_group.specs.Packed.{listed}
use Rattle.task_group.proofs.notices.NoticeList.copied.Given as goal

abbrev pub invariant-all : goal.invariant-all
invariant-all l = listed l.words.items l.whole.items ≡ l.yielded
