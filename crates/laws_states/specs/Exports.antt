-- What steps keep of the exports and instances that a component has.
use Rattle.std.specs.Prelude.{Some, is_some, true, ℕ, ◌≡◌}
use Rattle.laws_states.specs.Settings.{CalleesAre}
use Rattle.machine_data.specs.Core.{Core, State}
use Rattle.machine_data.specs.Maps.{get}
use Rattle.machine_data.specs.declared.component.Callee.{Callee}
use Rattle.machine_data.specs.declared.component.Component.{Component}
use Rattle.machine_data.specs.declared.label.Label.{Label}
use Rattle.machine_data.specs.declared.records.Call.{Call}
use Rattle.machine_rules.specs.Scripts.{export_at}
use Rattle.machine_rules.specs.Stalled.{Setting}
use Rattle.machine_rules.specs.Step.{Step}

abbrev pub IsExported : Component → Callee → Type 0
IsExported c e = is_some (export_at c e) ≡ true

-- the component has each export that is started or called
abbrev pub ExportsExist : Setting → Type 0
ExportsExist x = CalleesAre x (IsExported x.component)

-- each call is of an export that the component has
abbrev pub CallsExported : Component → Core → Type 0
CallsExported c s = (k : ℕ) (x : Call) → get s.calls k ≡ Some x → IsExported c x.callee

-- each step keeps that, of any state; an opening state has no call
abbrev pub StepsKeepExports : Type 0
StepsKeepExports = (x : Setting) (s : State) (l : Label) (t : State) → ExportsExist x → CallsExported x.component s.core → Step x s l t →
    CallsExported x.component t.core

-- no step makes an instance, or takes one away
abbrev pub InstancesStay : Type 0
InstancesStay = (x : Setting) (s : State) (l : Label) (t : State) → Step x s l t → (i : ℕ) →
    is_some (get t.core.instances i) ≡ is_some (get s.core.instances i)

-- nor an instance's table of handles
abbrev pub HandleTablesStay : Type 0
HandleTablesStay = (x : Setting) (s : State) (l : Label) (t : State) → Step x s l t → (i : ℕ) →
    is_some (get t.core.handles i) ≡ is_some (get s.core.handles i)
