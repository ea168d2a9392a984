-- Main asks as its script does.
use Rattle.std.proofs.Common.{ap}
use Rattle.beside_main.proofs.GateLemmas.{founds, lacks}
use Rattle.beside_main.proofs.PollLemmas.{turn_called}
use Rattle.beside_main.proofs.asked.CellsBesideGatedMainUnitScriptedHostNoHook.turns.Goals as goal
use Rattle.task_run.specs.Asked.{op_of}
use Rattle.task_run.specs.Script.{machine_ops}

pub returns-clause-script : goal.returns-clause-script
returns-clause-script g c = ap machine_ops (ap (λ ops. ops.now) c.ask.ensures.ops)

pub returns-clause-found : goal.returns-clause-found
returns-clause-found g c = founds c.ask.result c.args.main.now c.ask.new.self c.args.store.now.state c.ask.ensures.found

pub returns-clause-turned : goal.returns-clause-turned
returns-clause-turned g c = turn_called (op_of c.args.main.now.script) c.args.self.now c.ask.new.beside c.ask.result c.ask.ensures.asked

pub returns-clause-err : goal.returns-clause-err
returns-clause-err g c = lacks c.ask.result c.args.main.now c.ask.new.self c.ask.ensures.err
