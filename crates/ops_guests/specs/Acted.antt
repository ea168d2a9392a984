-- What an op of main resulted in, against its rule.
use Rattle.machine_rules.specs.Scripts.{export_kind, host_at}
use Rattle.machine_data.specs.declared.component.HostDef.{HostDef}
use Rattle.machine_data.specs.declared.component.ExportKind.{ExportKind}
use Rattle.machine_data.specs.declared.component.Component.{Component}
use Rattle.machine_data.specs.declared.component.Callee.{Callee}
use Rattle.std.specs.Prelude.{Ok, Result, ◌+◌, ◌≡◌, List, ℕ}
use Rattle.machine_data.specs.Core.{Core}
use Rattle.machine_data.specs.declared.label.MainLabel.TheVariants as main_label
use Rattle.machine_data.specs.declared.memory.NoMemory.{NoMemory}
use Rattle.ops_guests.specs.declared.mains.Acted.{Acted}
use Rattle.ops_guests.specs.declared.mains.Acted.TheVariants as acted
use Rattle.machine_rules.specs.MainOps.{Answers, Does, MainProgress, Pends, MainAct, Spawn, Start, main_rule}
use Rattle.core_primitives.specs.StateView.{Keeps, KeepsWith, StateView}

-- The op that began in s did what the rule says, and the core is t.
abbrev pub MainImplements : MainProgress → Core → Acted → Core → Type 0
MainImplements (Does l new) s r t = (r ≡ acted.Does l) × (t ≡ new)
MainImplements Pends s r t = (r ≡ acted.Pends) × (t ≡ s)
MainImplements (Answers v) s r t = (r ≡ acted.Answers v) × (t ≡ s)

-- Each id names what it named; a start that was made has made a group, which is tracked.
abbrev pub KeepsStarted : Result Acted NoMemory → StateView → StateView → Type 0
KeepsStarted (Ok (acted.Does (main_label.Start k n))) s t = KeepsWith (s.core.made.groups + 1) s.tags t.tags
KeepsStarted r s t = Keeps s.tags t.tags

-- The op of main on this line did what the rule says, whatever the component is.
abbrev pub ImplementsMain : (line : ℕ) → MainAct → StateView → Acted → StateView → Type 0
ImplementsMain line act s r t = (c : Component) → MainImplements (main_rule c line s.core act) s.core r t.core

-- the start of an export of this kind, and the spawn of this host
abbrev pub StartsMain : (line : ℕ) → Callee → ExportKind → (words : List ℕ) → StateView → Acted → StateView → Type 0
StartsMain line callee kind words s r t = (c : Component) → export_kind c callee ≡ kind →
    MainImplements (main_rule c line s.core (Start callee words)) s.core r t.core

abbrev pub SpawnsMain : (line : ℕ) → HostDef → StateView → Acted → StateView → Type 0
SpawnsMain line host s r t = (c : Component) (h : ℕ) → host_at c h ≡ host →
    MainImplements (main_rule c line s.core (Spawn h)) s.core r t.core

-- the op does, whatever its line is
abbrev pub ImplementsMainAnywhere : MainAct → StateView → Acted → StateView → Type 0
ImplementsMainAnywhere act s r t = (c : Component) (line : ℕ) → MainImplements (main_rule c line s.core act) s.core r t.core
