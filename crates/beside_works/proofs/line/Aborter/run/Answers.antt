use Rattle.std.proofs.Common.{List, ℕ, arith, subst}
use Rattle.beside_works.proofs.NewLemmas.{take_past}
use Rattle.beside_works.proofs.RunLemmas.{run_begins, run_more}
use Rattle.beside_works.specs.Aborters.{HasRun}
use Rattle.beside_works.proofs.line.Aborter.run.Goals as goal

pub loop-spawn-init : goal.loop-spawn-init
loop-spawn-init g c = run_begins c.args.self.now

pub loop-spawn-preserved : goal.loop-spawn-preserved
loop-spawn-preserved g c = run_more c.args.line.now c.loop-spawn.spawn-index c.args.self.now c.loop-spawn.self c.abort.new.self c.loop-spawn-test.true c.loop-spawn.invariant
    c.abort.ensures.number c.abort.ensures.cells c.abort.ensures.places c.abort.ensures.made

pub returns : goal.returns
returns g c = subst (λ (ls : List ℕ). HasRun ls c.args.self.now c.loop-spawn.self) (take_past c.loop-spawn.spawn-index c.args.line.now (let past = c.loop-spawn-test.false in omega (arith, past))) c.loop-spawn.invariant
