use Rattle.ops_guests.proofs.TellingLemmas.{can_after_begin}
use Rattle.ops_guests.proofs.starts.begin.Goals as goal

pub tell-requires : goal.tell-requires
tell-requires g c =
    let v = g.W.View.view in
    can_after_begin c.task_of-call.result _ _ _ c.args.waiter (v c.args.w.now) (v c.name_thread.new.self) _ c.task_of-call.ensures.is c.requires.can c.in_ok-name_thread.ensures.new c.set_started.ensures
