use Rattle.core_places.proofs.ThreadLemmas.{same_item, put_none}
use Rattle.core_places.proofs.moves.put.Goals as goal
use Rattle.core_records.proofs.Core.{subst}
use Rattle.core_records.specs.declared.{thread_records.GuestThread.GuestThread}
use Rattle.core_places.specs.Moved.{StandsAlone}

pub put_alone-requires-clause-alone : goal.put_alone-requires-clause-alone
put_alone-requires-clause-alone c g is = subst (λ (x : GuestThread). StandsAlone x.thread.place) (same_item c.in-Some.ensures.item is) (c.stands_alone.ensures c.if-stands_alone.true)

pub returns-in_default : goal.returns-in_default
returns-in_default c = put_none _ c.requires.sound _ _ _ _ c.in_default.ensures.is
