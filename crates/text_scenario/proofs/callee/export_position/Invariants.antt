use Rattle.std.proofs.Common.{◌≡◌, ◌≤◌, drop}
use Rattle.text_scenario.proofs.ExportLaws.{place_from}
use Rattle.text_scenario.proofs.callee.export_position.Given as goal

-- the place among all is the one among what is left, so many further
abbrev pub invariant-loop-part : goal.invariant-loop-part
invariant-loop-part l = record {
  same : place_from l.name l.place (drop l.part-index l.parts) ≡ place_from l.name 0 l.parts;
  few : l.place ≤ l.part-index;
}
