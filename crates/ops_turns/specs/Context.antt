-- The core in which a thread has this context.
use Rattle.std.specs.Prelude.{if◌then◌else◌, length, min, ℕ, ◌+◌, ◌==◌, ◌≡◌}
use Rattle.machine_data.specs.Core.{Core}
use Rattle.machine_data.specs.declared.component.Component.{Component}
use Rattle.machine_data.specs.declared.label.DataLabel.{DataLabel}
use Rattle.machine_data.specs.declared.label.Label.TheVariants as label
use Rattle.machine_data.specs.declared.op.DataOp.{DataOp}
use Rattle.machine_data.specs.declared.op.Operand.{Operand}
use Rattle.machine_rules.specs.Data.{data_rule}
use Rattle.machine_rules.specs.Progress.{Continues}
use Rattle.machine_rules.specs.Scripts.{script_of, value_in}
use Rattle.ops_turns.specs.declared.context.ThreadContext.{ThreadContext}
use Rattle.core_primitives.specs.Context.{with_context}
use Rattle.core_primitives.specs.StateView.{StateView, on_core}

abbrev pub in_context : ℕ → ThreadContext → Core → Core
in_context n x = with_context n x.position x.registers

-- a state in which only the thread's context is another
abbrev pub state_in : ℕ → ThreadContext → StateView → StateView
state_in n x s = on_core (in_context n x) s

-- the place after `skip_eq`: so many ops past the next one if the operands are equal, at most the script's end
abbrev pub place_after : ThreadContext → (left right : Operand) → (ops end : ℕ) → ℕ
place_after x left right ops end = min (x.position + 1 + (if value_in x.registers left == value_in x.registers right then ops else 0)) end

-- In a script of this length the op on registers and memory cells leads from this context and core to those, and shows this label.
abbrev pub DoesData : (n end : ℕ) → DataOp → DataLabel → (x : ThreadContext) (s : Core) (y : ThreadContext) (t : Core) → Type 0
DoesData n end o l x s y t =
    (c : Component) → length (script_of c n (in_context n x s)) ≡ end →
    data_rule c n (in_context n x s) o ≡ Continues (label.Data l) (in_context n y t) n

-- From s to t instances alone are changed, and none but in its memory cells.
pub record KeepsBeside (s t : StateView) : Type 0 where
  pub threads : t.core.threads ≡ s.core.threads
  pub calls : t.core.calls ≡ s.core.calls
  pub works : t.core.works ≡ s.core.works
  pub made : t.core.made ≡ s.core.made
  pub tags : t.tags ≡ s.tags
  pub current : t.current ≡ s.current
