use Rattle.ops_subtasks.proofs.TakeLemmas.{placed_idle}
use Rattle.ops_subtasks.proofs.takes.take_host.Goals as goal

pub end_host-requires-in-Some : goal.end_host-requires-in-Some
end_host-requires-in-Some g c = record {
  named = c.requires.live;
  idle = placed_idle (g.W.View.view c.args.w.now).core c.requires.placed;
  there = c.requires.there;
  live = c.in-Some.ensures.live;
  waits = c.in-Some.ensures.waits;
}
