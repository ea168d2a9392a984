use Rattle.std.proofs.Common.{sym}
use Rattle.trace_machine.proofs.SpotLemmas.{run_offers, run_runner, run_some}
use Rattle.trace_machine.proofs.machine.Machine.run_spot.Goals as goal

pub unreachable-requires : goal.unreachable-requires
unreachable-requires c = run_some c.args.self.now c.requires.kept c.requires.runs.0 c.requires.runs.1 (sym c.in_default.ensures)

pub op_spot-requires : goal.op_spot-requires
op_spot-requires c = run_runner c.args.self.now c.requires.kept c.requires.runs.0 c.requires.runs.1 c.none_is_zero.ensures.threads c.in-Some.thread (sym c.in-Some.ensures)

pub returns : goal.returns
returns c = run_offers c.args.self.now c.requires.kept c.requires.runs.0 c.requires.runs.1 c.in-Some.thread (sym c.in-Some.ensures) c.op_spot.result c.op_spot.ensures
