-- A turn that rests.
use Rattle.std.specs.Prelude.{Bool, List, None, Option, Some, [], false, suc, true, ℕ, ◌++◌, ◌∷◌, ◌≡◌, ◌⊎◌}
use Rattle.machine_data.specs.Core.{Core, State}
use Rattle.machine_data.specs.Maps.{get}
use Rattle.machine_data.specs.Read.{course_of}
use Rattle.machine_data.specs.declared.component.HostDef.{HostDef}
use Rattle.machine_data.specs.declared.component.HostDef.TheVariants as host_def
use Rattle.machine_data.specs.declared.label.Label.{Label}
use Rattle.machine_data.specs.declared.label.Label.TheVariants as label
use Rattle.machine_data.specs.declared.label.LoopLabel.TheVariants as loop_label
use Rattle.machine_data.specs.declared.records.Course.TheVariants as course
use Rattle.machine_data.specs.declared.records.Turn.TheVariants as turn
use Rattle.machine_rules.specs.Run.{Run}
use Rattle.machine_rules.specs.Stalled.{Setting}

-- a work pends
abbrev pub is_pending : Label → Bool
is_pending (label.Loop (loop_label.FuturePends i)) = true
is_pending _ = false

abbrev pub AllPending : List Label → Type 0
AllPending [] = Unit {0}
AllPending (l ∷ ls) = (is_pending l ≡ true) × AllPending ls

abbrev pub with_polls : ℕ → Option ℕ → HostDef
with_polls n v = host_def.Settled (Some n) v

-- One poll fewer is left of some work.
pub record LowersPolls (s t : Core) : Type 0 where
  pub work : ℕ
  pub polls : ℕ
  pub value : Option ℕ
  pub before : course_of work s ≡ course.Continues (with_polls (suc polls) value)
  pub after : course_of work t ≡ course.Continues (with_polls polls value)

-- an open work goes on
abbrev pub HasOpenWork : Core → Type 0
HasOpenWork s = (i : ℕ) × (course_of i s ≡ course.Continues host_def.Open)

-- A turn in which main pends, then the works that are polled, and that rests, has lowered the polls that are left of one of them, or left an
-- open one, where no work has the number 0.
unfoldable pub RestsLowerPolls : Type 0
RestsLowerPolls = (x : Setting) (s t : State) (ls : List Label) → s.turn ≡ turn.Main → get s.core.works 0 ≡ None → AllPending ls →
    Run x s (label.Loop loop_label.MainPends ∷ (ls ++ label.Loop loop_label.Rest ∷ [])) t → LowersPolls s.core t.core ⊎ HasOpenWork t.core
