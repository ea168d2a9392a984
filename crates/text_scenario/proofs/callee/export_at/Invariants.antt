use Rattle.std.proofs.Common.{◌≡◌, drop}
use Rattle.std.specs.Prelude.{slice_get}
use Rattle.text_scenario.specs.Spelling.{exports_in}
use Rattle.text_scenario.proofs.callee.export_at.Given as goal

abbrev pub invariant-loop-part : goal.invariant-loop-part
invariant-loop-part l = slice_get (exports_in (drop l.part-index l.parts)) l.left ≡ slice_get (exports_in l.parts) l.place
