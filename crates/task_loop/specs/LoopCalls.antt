-- The calls of a host, by the export that they name.
use Rattle.std.specs.Prelude.{IfSome, IsSome, ℕ, ◌≡◌}
use Rattle.task_loop.specs.declared.call.Func.{Func}
use Rattle.machine_data.specs.declared.component.Callee.{Callee}
use Rattle.machine_data.specs.declared.component.Component.{Component}
use Rattle.machine_rules.specs.Scripts.{export_at}

abbrev pub callee_of : Func → Callee
callee_of f = record { instance = f.instance.index; export = f.export }

-- the export is there, and takes as many words
pub record TakesWords (c : Component) (f : Func) (count : ℕ) : Type 0 where
  pub there : IsSome (export_at c (callee_of f))
  pub takes : IfSome (export_at c (callee_of f)) (λ e. count ≡ e.params)
