use Rattle.core_picks.proofs.VersionLemmas.{version_seen, version_sound}
use Rattle.core_picks.proofs.rules.set_version.Goals as goal

pub returns-clause-sound : goal.returns-clause-sound
returns-clause-sound c = version_sound c.args.parts.now c.requires.sound c.requires.none c.args.version

pub returns-clause-new : goal.returns-clause-new
returns-clause-new c = version_seen c.args.parts.now c.requires.sound c.requires.none c.args.version
