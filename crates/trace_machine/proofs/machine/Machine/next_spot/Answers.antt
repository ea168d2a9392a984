use Rattle.core_primitives.specs.Names.{entry_in}
use Rattle.std.proofs.Common.{sym}
use Rattle.trace_machine.proofs.SpotLemmas.{take_nothing, take_offers, take_there}
use Rattle.trace_machine.proofs.machine.Machine.next_spot.Goals as goal

pub take_spot-requires : goal.take_spot-requires
take_spot-requires c = take_there c.args.self.now c.requires.kept c.requires.takes.0 c.requires.takes.1 c.none_is_zero.ensures.threads c.in-Some.next.0 c.in-Some.next.1 (sym c.in-Some.ensures)

pub returns-in-Some : goal.returns-in-Some
returns-in-Some c =
    let m = c.args.self.now in
    take_offers m c.requires.kept c.requires.takes.0 c.requires.takes.1 c.in-Some.next.0 (entry_in m.store.state.tags c.in-Some.next.1) (sym c.in-Some.ensures) c.take_spot.result c.take_spot.ensures

pub returns-in-None : goal.returns-in-None
returns-in-None c = take_nothing c.args.self.now c.requires.kept c.requires.takes.0 c.requires.takes.1 (sym c.in-None.ensures) c.no_spot.result (c.no_spot.ensures 0)
