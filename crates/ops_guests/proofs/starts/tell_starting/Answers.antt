use Rattle.ops_guests.proofs.TellingLemmas.{can_after_starting}
use Rattle.ops_guests.proofs.starts.tell_starting.Goals as goal

pub tell-requires : goal.tell-requires
tell-requires g c = can_after_starting c.args.call c.args.waiter (g.W.View.view c.args.w.now) _ c.requires.can c.set_starting_published.ensures
