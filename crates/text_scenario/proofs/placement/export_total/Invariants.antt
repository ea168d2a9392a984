use Rattle.std.proofs.Common.{◌≡◌, ◌≤◌, take}
use Rattle.text_scenario.specs.Placement.{exports_among}
use Rattle.text_scenario.proofs.placement.export_total.Given as goal

abbrev pub invariant-loop-part : goal.invariant-loop-part
invariant-loop-part l = record {
  same : l.total ≡ exports_among (take l.part-index l.parts);
  few : l.total ≤ l.part-index;
}
