use Rattle.text_scenario.proofs.MainKept.{kept_start}
use Rattle.text_scenario.proofs.main_lines.MainLines.push_start.Goals as goal

pub invariant_of-self-in-Ok : goal.invariant_of-self-in-Ok
invariant_of-self-in-Ok c =
    let s = c.self.inside in
    rw (c.in-Ok.ensures.ok, c.in_ok-push.ensures.items) (kept_start s.ops s.starts s.spawns s.finished.items c.self.invariant _ _)
