-- In a store in which nothing was made few numbers were given.
use Rattle.machine_data.specs.declared.scenario.Version.TheVariants as version
use Rattle.store_works.specs.KeptWorks.{HoldsNone}
use Rattle.std.proofs.Common.{ap, arith, subst}
use Rattle.std.specs.Prelude.{is_some, true, ◌<◌, ◌^◌, ◌≡◌}
use Rattle.machine_data.specs.Core.{fresh}
use Rattle.machine_data.specs.Maps.{get, get-empty}
use Rattle.machine_data.specs.declared.component.HostDef.{HostDef}
use Rattle.machine_data.specs.declared.records.Work.{Work}
use Rattle.core_records.specs.Seen.{nothing}
use Rattle.task_store.proofs.HostLemmas.{new_holds}
use Rattle.task_store.specs.Hosts.{HoldsHosts, WorksNumbered}
use Rattle.task_store.specs.declared.store.Store.{Store}
use Rattle.ops_turns.specs.Turn.{given}
use Rattle.core_primitives.specs.StateView.{StateView}

pub few_given : (s : StateView) → s ≡ nothing → given s.core < 2 ^ 61
unfolding fresh
few_given s is = rw is (omega arith)

-- and no work is there
pub none_numbered : (s : StateView) → s ≡ nothing → WorksNumbered s.core
unfolding fresh
none_numbered s is i there = absurd (let e = subst (λ (v : StateView). is_some (get v.core.works i) ≡ true) is there in let n = get-empty {X = Work} i in grind (arith, e, n))

pub none_held : {T H G : Type 0} (course : H → HostDef) (store : Store T H G) → store.state ≡ nothing → HoldsNone store.works → HoldsHosts course store
none_held course store state works = new_holds course store version.One 0 100000 1000000 works (ap (λ (v : StateView). v.core) state)
