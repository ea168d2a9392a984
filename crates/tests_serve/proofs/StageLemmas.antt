-- A new store with one instance is ready for a run.
use Rattle.machine_data.specs.declared.scenario.Version.TheVariants as version
use Rattle.store_works.specs.KeptWorks.{HoldsNone}
use Rattle.tests_serve.specs.Stage.{IsReady}
use Rattle.std.proofs.Common.{ap, arith, subst, sym, ◌∙◌}
use Rattle.std.specs.Prelude.{None, length, option_map, ℕ, ◌≡◌}
use Rattle.machine_data.specs.Core.{Core, fresh}
use Rattle.machine_data.specs.Maps.{get-empty}
use Rattle.machine_data.specs.declared.component.Component.{Component}
use Rattle.machine_data.specs.declared.component.HostDef.{HostDef}
use Rattle.machine_data.specs.declared.records.Turn.TheVariants as turn
use Rattle.machine_data.specs.declared.records.Work.{Work}
use Rattle.core_records.specs.Seen.{nothing}
use Rattle.task_store.proofs.HostLemmas.{new_holds}
use Rattle.core_primitives.specs.Groups.{IsAsked}
use Rattle.task_store.specs.Hosts.{WorksNumbered}
use Rattle.task_store.specs.declared.store.Store.{Store}
use Rattle.ops_turns.proofs.CoveredLemmas.{codes_of}
use Rattle.ops_turns.proofs.FreshLemmas.{given_fresh, core_in_order_fresh}
use Rattle.ops_turns.specs.Covered.{HasPlainExports}
use Rattle.ops_turns.specs.Turn.{CoreInOrder, given}
use Rattle.core_primitives.specs.StateView.{StateView, thread_of, with_core}

none_at_first : (n h k : ℕ) → WorksNumbered (fresh version.One n h k)
unfolding fresh
none_at_first n h k i is = absurd (let none = get-empty {X = Work} i in cc)

module _ (s : StateView) (is : s ≡ with_core (fresh version.One 1 100000 1000000) nothing) where
  -- no number was given in it
  pub first_given : given s.core ≡ 0
  first_given = ap (λ (u : StateView). given u.core) is ∙ given_fresh version.One 1 100000 1000000

  pub first_numbered : WorksNumbered s.core
  first_numbered = subst (λ (u : StateView). WorksNumbered u.core) (sym is) (none_at_first 1 100000 1000000)

pub first_ready : {T H G : Type 0} (course : H → HostDef) (c : Component) (store : Store T H G) → HasPlainExports c → length c.instances ≡ 1 →
    store.state ≡ with_core (fresh version.One 1 100000 1000000) nothing → HoldsNone store.works → IsAsked store.state → IsReady course c store
first_ready course c store plain one is works groups = record {
  order = subst (λ (u : StateView). CoreInOrder c turn.Main u.core) (sym is) (core_in_order_fresh c (codes_of c plain) version.One 1 100000 1000000 (omega (arith, one)));
  few = let none = first_given store.state is in omega (arith, none);
  current = ap (option_map (λ k. thread_of store.state k)) (ap (λ (u : StateView). u.current) is);
  hosts = new_holds course store version.One 1 100000 1000000 works (ap (λ (v : StateView). v.core) is);
  groups = groups;
}
