use Rattle.task_abort.proofs.FirstLemmas.{kept_first}
use Rattle.task_abort.proofs.work.new_cell.Goals as goal

pub of_words-requires : goal.of_words-requires
of_words-requires c = kept_first
