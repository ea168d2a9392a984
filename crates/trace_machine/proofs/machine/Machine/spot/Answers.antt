use Rattle.machine_data.specs.declared.records.Turn.TheVariants as turn
use Rattle.std.proofs.Common.{refl}
use Rattle.trace_machine.proofs.SpotLemmas.{else_nothing}
use Rattle.trace_machine.proofs.machine.Machine.spot.Goals as goal

pub run_spot-requires-clause-runs : goal.run_spot-requires-clause-runs
run_spot-requires-clause-runs c = (c.in-Run._thread, c.in-Run.is)

pub next_spot-requires-clause-takes : goal.next_spot-requires-clause-takes
next_spot-requires-clause-takes c = (c.in-Take._ended, c.in-Take.is)

pub returns-in-Main : goal.returns-in-Main
returns-in-Main c = else_nothing c.args.self.now c.requires turn.Main c.in-Main.is refl refl c.no_spot-nothing.result (c.no_spot-nothing.ensures 0)

pub returns-in-Futures : goal.returns-in-Futures
returns-in-Futures c = else_nothing c.args.self.now c.requires (turn.Futures c.in-Futures._polled) c.in-Futures.is refl refl c.no_spot-nothing.result (c.no_spot-nothing.ensures 0)

pub returns-in-Over : goal.returns-in-Over
returns-in-Over c = else_nothing c.args.self.now c.requires turn.Over c.in-Over.is refl refl c.no_spot-nothing.result (c.no_spot-nothing.ensures 0)
