-- The mark that a label shows, by its kind.
use Rattle.std.specs.Prelude.{None, Option, Some}
use Rattle.run_trace.specs.declared.kinds.LabelKind.{LabelKind}
use Rattle.run_trace.specs.declared.kinds.LabelKind.TheVariants as kind
use Rattle.machine_data.specs.declared.statuses.Mark.{Mark}

-- that of the entry that was taken, where it is the kind of a taking
abbrev pub mark_in : LabelKind → Option Mark
mark_in (kind.Take m k) = Some m
mark_in (kind.Own m k) = Some m
mark_in (kind.Given m x) = Some m
mark_in _ = None
