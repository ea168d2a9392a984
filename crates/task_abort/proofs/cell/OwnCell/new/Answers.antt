use Rattle.task_abort.proofs.FirstLemmas.{kept_first}
use Rattle.task_abort.proofs.cell.OwnCell.new.Goals as goal

pub of_words-requires : goal.of_words-requires
of_words-requires c = kept_first
