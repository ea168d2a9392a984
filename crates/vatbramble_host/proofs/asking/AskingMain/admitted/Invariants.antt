-- No call is lost where an ask is refused.
use Rattle.vatbramble_host.proofs.asking.AskingMain.admitted.Given as goal
use Rattle.std.proofs.Common.{◌≡◌}

abbrev pub invariant-loop : goal.invariant-loop
invariant-loop g l = record {
  calls : l.self.calls ≡ l.initial.self.calls;
  spawns : l.self.spawns ≡ l.initial.self.spawns;
}
