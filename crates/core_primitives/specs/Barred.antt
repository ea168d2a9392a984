-- The starts that backpressure may keep out.
use Rattle.std.specs.Prelude.{not, ◌||◌, Bool, ℕ}
use Rattle.machine_data.specs.Core.{Core}
use Rattle.machine_data.specs.Read.{is_explicit, is_sync, kind_of, task_of}
use Rattle.machine_data.specs.declared.component.ExportKind.{ExportKind}

-- that of a thread which isn't explicit, in a call of an export which isn't sync
abbrev pub bars_start : (explicit : Bool) → ExportKind → Bool
bars_start explicit kind = not (explicit || is_sync kind)

abbrev pub is_barred : ℕ → Core → Bool
is_barred n s = bars_start (is_explicit n s) (kind_of (task_of n s) s)
