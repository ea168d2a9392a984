use Rattle.text_scenario.proofs.MainKept.{kept_spawn}
use Rattle.text_scenario.proofs.main_lines.MainLines.push_spawn.Goals as goal

pub invariant_of-self-2 : goal.invariant_of-self-2
invariant_of-self-2 c =
    let s = c.self.inside in
    rw c.in_ok-push.ensures.ok (kept_spawn s.ops s.starts s.spawns s.finished.items c.self.invariant c.args.host)
