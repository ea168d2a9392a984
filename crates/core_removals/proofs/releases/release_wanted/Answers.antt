use Rattle.core_removals.proofs.RaisedLemmas.{wanted_released}
use Rattle.core_removals.proofs.releases.release_wanted.Goals as goal

pub returns-clause-new : goal.returns-clause-new
returns-clause-new c = wanted_released c.args.parts.now c.raise_wanted.new.parts c.raise_wanted.ensures.sound c.args.instance _ c.raise_wanted.ensures.new c.release_least.ensures.picks
