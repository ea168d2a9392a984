use Rattle.std.proofs.Common.{take}
use Rattle.beside_works.specs.Aborters.{HasRun}
use Rattle.beside_works.proofs.line.Aborter.run.Given as goal

abbrev pub invariant-loop-spawn : goal.invariant-loop-spawn
invariant-loop-spawn g l = HasRun (take l.spawn-index l.line) l.initial.self l.self
