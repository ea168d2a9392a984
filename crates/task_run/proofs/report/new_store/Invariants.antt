use Rattle.std.proofs.Common.{◌≡◌, false, true}
use Rattle.task_group.specs.Listeners.{nobody}
use Rattle.store_works.specs.KeptWorks.{HoldsNone}
use Rattle.machine_data.specs.Core.{fresh}
use Rattle.machine_data.specs.declared.scenario.Version.TheVariants as version
use Rattle.core_records.specs.Seen.{nothing}
use Rattle.core_primitives.specs.StateView.{with_core}
use Rattle.task_run.proofs.report.new_store.Given as goal

abbrev pub invariant-loop-made : goal.invariant-loop-made
invariant-loop-made g l = record {
  state : l.store.state ≡ with_core (fresh version.One l._made l.handles l.table) nothing;
  free : l.store.running ≡ false;
  concurrent : l.store.concurrent ≡ true;
  works : HoldsNone l.store.works;
  listeners : l.store.listeners ≡ nobody;
}
