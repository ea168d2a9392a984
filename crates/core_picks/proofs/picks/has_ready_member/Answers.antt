use Rattle.core_records.proofs.Core.{seen, sym}
use Rattle.core_places.proofs.ReadyLemmas.{some_ready}
use Rattle.core_picks.proofs.picks.has_ready_member.Goals as goal

pub returns-in-Some : goal.returns-in-Some
returns-in-Some c = sym (some_ready (seen c.args.parts.now).core _ _ c.in-Some.ensures.some)
