-- Order stays with one instance more.
use Rattle.std.proofs.Common.{ap, subst, sym, ◌∙◌}
use Rattle.machine_data.specs.Maps.{get}
use Rattle.task_store.proofs.InstanceLemmas.{instance_keeps}
use Rattle.task_store.proofs.store.Store.add_instance.Goals as goal
use Rattle.ops_turns.specs.Turn.{CoreInOrder}
use Rattle.core_primitives.specs.StateView.{StateView}

pub returns-in-Ok-clause-order : goal.returns-in-Ok-clause-order
returns-in-Ok-clause-order g c d p in_turn =
    let s = c.args.self.now.state.core in
    let next = sym c.in-Ok.ensures.number in
    subst (λ (v : StateView). CoreInOrder d p v.core) (sym c.in-Ok.ensures.ok)
    (instance_keeps s (ap (get s.instances) next ∙ c.in-Ok.ensures.fresh) (ap (get s.handles) next ∙ c.in-Ok.ensures.unnamed) d p in_turn)
