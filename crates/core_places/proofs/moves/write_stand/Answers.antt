use Rattle.core_records.proofs.Core.{ap, entry_of, with_entry}
use Rattle.core_records.specs.declared.{thread_records.GuestThread.GuestThread}
use Rattle.core_places.proofs.ThreadLemmas.{same_item}
use Rattle.core_places.proofs.moves.write_stand.Goals as goal
use Rattle.core_places.specs.Moved.{standing}

pub returns-in-Ok : goal.returns-in-Ok
returns-in-Ok c g is = ap (λ (x : GuestThread). with_entry c.args.id.rep (entry_of (standing x c.args.place c.args.state_target c.args.op_progress c.args.op_target)) c.args.threads.now) (same_item c.in-Ok.ensures.value is)
