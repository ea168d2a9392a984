use Rattle.ops_guests.proofs.ExitLemmas.{flag_written_back}
use Rattle.ops_guests.proofs.exit_ops.has_held.Goals as goal

pub returns-clause-same : goal.returns-clause-same
returns-clause-same g c = flag_written_back _ _ _ _ _ c.may_not_enter-shut.ensures c.set_do_not_enter.ensures c.set_do_not_enter-2.ensures
