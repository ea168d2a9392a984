-- A call of a host, which a host has the thread make, keeps order: in the component that has this host alone it is an op of its own.
use Rattle.laws_order.proofs.GivenLemmas.{host_keeps, host_walk}
use Rattle.laws_order.proofs.PieceLemmas.{walk_instances}
use Rattle.laws_order.proofs.StayLemmas.{same_core}
use Rattle.laws_order.specs.Given.{HostCallsKeep, HostInstances, HostKeeps, host_op}
use Rattle.std.proofs.Common.{refl, subst, sym}
use Rattle.std.specs.Prelude.{[], Bool, List, None, Some, ℕ, ◌∷◌}
use Rattle.laws_states.specs.Order.{InOrderFor}
use Rattle.machine_data.specs.Core.{State}
use Rattle.machine_data.specs.declared.component.Component.{Component}
use Rattle.machine_data.specs.declared.component.HostDef.{HostDef}
use Rattle.machine_data.specs.declared.op.Op.{Op}
use Rattle.machine_data.specs.declared.records.OpProgress.{OpProgress}
use Rattle.machine_rules.specs.Calls.{call_sync_host_rule}
use Rattle.machine_rules.specs.Finish.{SomeHost}
use Rattle.machine_rules.specs.Scripts.{op_of, script_of}
use Rattle.machine_rules.specs.Stalled.{Setting}
use Rattle.machine_rules.specs.Step.{Progresses}

pub host_instances : HostInstances
unfolding HostInstances
host_instances x o n s t l at other row = walk_instances (host_walk x o n s t l at other row).walk

-- order says nothing of a component's hosts
pub of_hosts : {g : Bool} {ops : ℕ → Op} (hosts : List HostDef) (c : Component) (s : State) → InOrderFor g ops c s → InOrderFor g ops (record c { hosts = hosts }) s
of_hosts hosts c s h = same_core s s.main s.turn h (record { starts = h.codes.starts; reacts = h.codes.reacts; slots = h.codes.slots })
    (λ k x e. let q = h.kinds k x e in record { kind = q.kind; direct = q.direct; uncancelled = q.uncancelled; gone = q.gone })
    (λ i r at. let z = h.fits i r at in record { script = z.script; position = z.position; op = z.op; under = z.under; first = z.first }) h.in_place.runs h.awake

-- the setting whose component has this host alone
abbrev with_only : HostDef → Setting → Setting
with_only host x = record x { component = record x.component { hosts = host ∷ [] } }

pub host_calls_keep : HostCallsKeep
unfolding HostCallsKeep HostInstances HostKeeps op_of script_of
host_calls_keep x host (Some q) n s t l at fresh h row =
    let y = with_only host x in
    (of_hosts x.component.hosts y.component t (host_keeps y (host_op (Some q)) n s t l at refl refl fresh (of_hosts (host ∷ []) x.component s h) row), host_instances y (host_op (Some q)) n s t l at refl row)
host_calls_keep x host None n s t l at fresh h row =
    let y = with_only host x in
    let ruled = subst (λ (f : OpProgress). Progresses s s.core n (call_sync_host_rule SomeHost y.component n 0 s.core f) l t) (sym fresh) row in
    (of_hosts x.component.hosts y.component t (host_keeps y (host_op None) n s t l at refl refl fresh (of_hosts (host ∷ []) x.component s h) ruled), host_instances y (host_op None) n s t l at refl ruled)
