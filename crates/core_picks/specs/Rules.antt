-- By which rules a core runs.
use Rattle.machine_data.specs.Core.{Core}
use Rattle.machine_data.specs.declared.scenario.Version.{Version}

abbrev pub with_version : Version → Core → Core
with_version v s = record s { version = v }
