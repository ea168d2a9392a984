use Rattle.ops_guests.proofs.MainLemmas.{started_unqueued}
use Rattle.ops_guests.proofs.mains.start.Goals as goal

pub put_high-requires-clause-unqueued : goal.put_high-requires-clause-unqueued
put_high-requires-clause-unqueued g c =
    let v = g.W.View.view in
    let e = c.in_ok-thread.ensures in
    started_unqueued c.in_ok-thread.thread _ _ _ _ _ _ (v c.args.w.now) (v c.make_call_by_main.new.self) c.requires.placed e.0.0 e.1.core
