use Rattle.core_picks.proofs.arrivals.write_arrival.Goals as goal
use Rattle.core_places.proofs.ThreadLemmas.{same_item}
use Rattle.core_records.proofs.Core.{ap, entry_of, with_entry}
use Rattle.core_records.specs.declared.{thread_records.GuestThread.GuestThread}

pub returns-in-Ok : goal.returns-in-Ok
returns-in-Ok c g is = ap (λ (x : GuestThread). with_entry c.args.id.rep (entry_of (record x { thread = record x.thread { came = c.args.arrival } })) c.args.threads.now) (same_item c.in-Ok.ensures.value is)
