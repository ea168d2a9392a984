-- What a main says of itself.
use Rattle.std.specs.Prelude.{List, []}
use Rattle.machine_data.specs.Core.{Core, Main, Unscripted}
use Rattle.machine_data.specs.declared.component.Component.{Component}
use Rattle.machine_data.specs.declared.scenario.MainOpDef.{MainOpDef}
use Rattle.ops_turns.specs.declared.mains.MainStep.{MainStep}
use Rattle.core_primitives.specs.StateView.{StateView}

pub record Says (M : Type 0) : Type 1 where
  -- its part of the machine's state
  pub part : M → Main
  -- its ops, if it is a script
  pub script : M → List MainOpDef
  -- what it needs of the component, as that the exports that a script names are there
  pub suits : M → Component → Type 0
  -- what it knows of the store, as that the works that it spawned were made there
  pub knows : M → StateView → Type 0
  -- what it says of a step that resulted in this: of itself and of the core, before the step and after it
  pub does : M → Core → MainStep → M → Core → Type 0

-- what a main says that is no script
abbrev pub unscripted :
    {M : Type 0} → (suits : M → Component → Type 0) → (knows : M → StateView → Type 0) →
    (does : M → Core → MainStep → M → Core → Type 0) → Says M
unscripted suits knows does = record { part = λ m. Unscripted; script = λ m. []; suits = suits; knows = knows; does = does }
