use Rattle.core_primitives.specs.StateView.{StateView}
use Rattle.std.proofs.Common.{ap}
use Rattle.trace_machine.proofs.WantLemmas.{fits_listed, has_wanted}
use Rattle.trace_machine.proofs.machine.Machine.want.Goals as goal

pub wanted-requires : goal.wanted-requires
wanted-requires c = fits_listed c.args.self.now c.args.offered.now c.args.choice.now c.requires.offered c.requires.fits

pub returns : goal.returns
returns c =
    let m = c.args.self.now in
    has_wanted m _ c.args.choice.now c.in_ok-wanted.wanted (ap (λ (s : StateView). record m { store = record m.store { state = s } }) c.want.ensures)
    (c.in_ok-wanted.ensures m.store.state _ c.requires.offered.listed.names)
