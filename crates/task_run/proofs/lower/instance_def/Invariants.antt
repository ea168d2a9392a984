use Rattle.std.proofs.Common.{◌≡◌, map}
use Rattle.std.specs.Prelude.{replicate}
use Rattle.text_scenario.specs.Spelling.{exports_in}
use Rattle.machine_data.specs.declared.component.Slot.TheVariants as slot
use Rattle.task_run.specs.Lower.{export_def, slots_after}
use Rattle.task_run.proofs.lower.instance_def.Given as goal

abbrev pub invariant-loop-part : goal.invariant-loop-part
invariant-loop-part l = record {
  names : l.parts.names ≡ map (λ e. e.name) (exports_in l.yielded);
  exports : l.parts.exports ≡ map export_def (exports_in l.yielded);
  slots : l.parts.slots.items ≡ slots_after (replicate 16 slot.Empty) l.yielded;
}
