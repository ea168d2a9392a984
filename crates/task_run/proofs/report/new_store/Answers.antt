use Rattle.std.proofs.Common.{◌≡◌, ◌<◌, ◌≤◌, ◌+◌, ◌∙◌, refl, suc, ap, arith, ℕ}
use Rattle.core_makes.specs.Instances.{with_instance}
use Rattle.machine_data.specs.Core.{fresh}
use Rattle.machine_data.specs.Maps.{size}
use Rattle.machine_data.specs.declared.scenario.Version.TheVariants as version
use Rattle.core_records.specs.Seen.{nothing}
use Rattle.task_store.proofs.FreshLemmas.{fresh_more, limits_set, no_calls, rules_set, size_fresh}
use Rattle.ops_turns.proofs.FreshLemmas.{given_fresh}
use Rattle.core_primitives.specs.StateView.{StateView, with_core}
use Rattle.task_run.proofs.report.new_store.Goals as goal

pub add_instance-requires : goal.add_instance-requires
add_instance-requires g c =
    let count : size c.loop-made.store.state.core.instances ≡ c.loop-made._made = ap (λ (s : StateView). size s.core.instances) c.loop-made.invariant.state ∙ size_fresh version.One c.loop-made._made c.args.handles c.args.table in
    let few : c.args.instances ≤ 4294967295 = c.requires.instances in
    let below : c.loop-made._made < c.args.instances = c.loop-made-test.true in
    omega arith

pub loop-made-preserved : goal.loop-made-preserved
loop-made-preserved g c =
    let next : suc c.loop-made._made ≡ c.loop-made._made + 1 = omega arith in
    record {
      state =
          rw c.in-Ok.ensures.ok
          (ap (λ (s : StateView). with_core (with_instance s.core) s) c.loop-made.invariant.state
          ∙ ap (λ c. with_core c nothing) (fresh_more version.One c.loop-made._made c.args.handles c.args.table ∙ ap (λ n. fresh version.One n c.args.handles c.args.table) next));
      free = rw c.in-Ok.ensures.ok c.loop-made.invariant.free;
      concurrent = rw c.in-Ok.ensures.ok c.loop-made.invariant.concurrent;
      works = rw c.in-Ok.ensures.ok c.loop-made.invariant.works;
      listeners = rw c.in-Ok.ensures.ok c.loop-made.invariant.listeners;
    }

pub set_table_capacity-requires-clause-given : goal.set_table_capacity-requires-clause-given
set_table_capacity-requires-clause-given g c = rw c.new-store.ensures.state (given_fresh version.One 0 100000 1000000)

pub set_rules-requires : goal.set_rules-requires
set_rules-requires g c = rw c.loop-made.invariant.state (no_calls version.One _ _ _)

pub loop-made-init : goal.loop-made-init
loop-made-init g c = record {
  state =
      rw (c.set_max_component_handles.ensures, c.set_table_capacity.ensures, c.new-store.ensures.state)
      (ap (λ s. with_core s nothing) (limits_set c.args.handles c.args.table));
  free = rw (c.set_max_component_handles.ensures, c.set_table_capacity.ensures) c.new-store.ensures.running;
  concurrent = rw (c.set_max_component_handles.ensures, c.set_table_capacity.ensures) c.new-store.ensures.concurrent;
  works = rw (c.set_max_component_handles.ensures, c.set_table_capacity.ensures) c.new-store.ensures.works;
  listeners = rw (c.set_max_component_handles.ensures, c.set_table_capacity.ensures) c.new-store.ensures.listeners;
}

pub returns-clause-state : goal.returns-clause-state
returns-clause-state g c =
    let all : c.loop-made._made ≡ c.args.instances = omega (arith, c.loop-made-test.false, c.loop-made.auto._made-end) in
    rw (c.set_rules.ensures, c.loop-made.invariant.state)
    (ap (λ s. with_core s nothing) (rules_set c.args.rules c.loop-made._made c.args.handles c.args.table ∙ ap (λ n. fresh c.args.rules n c.args.handles c.args.table) all))
