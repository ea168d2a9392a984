-- What a run itself calls on its spawned works, as it goes on.
use Rattle.laws_beside.specs.Own.{calls_from, early_calls, is_before, own_calls}
use Rattle.laws_beside.specs.Wide.{Wide, WideRun, WideStep}
use Rattle.std.specs.Prelude.{List, [], if◌then◌else◌, length, ℕ, ◌+◌, ◌++◌, ◌∷◌, ◌≡◌}
use Rattle.task_abort.specs.declared.log.PhaseCall.{PhaseCall}
use Rattle.machine_data.specs.declared.label.Label.{Label}
use Rattle.machine_rules.specs.Stalled.{Setting}

-- These labels are a run beside aborters from w to v. It makes these calls on each spawn, so many of which before the last round.
pub record Calls (x : Setting) (w : Wide) (ls : List Label) (v : Wide) (own : ℕ → List PhaseCall) (early : ℕ → ℕ) : Type 0 where
  pub run : WideRun x w ls v
  pub own_is : (k : ℕ) → own_calls x k w ls v run ≡ own k
  pub early_is : (k : ℕ) → early_calls x k w ls v run ≡ early k

abbrev pub early_of : Setting → ℕ → Wide → Label → ℕ
early_of x k m l = if is_before m.round then length (calls_from x k m.state l) else 0

-- at first it has made none
abbrev pub NoCalls : Type 0
NoCalls = (x : Setting) (w : Wide) → Calls x w [] w (λ k. []) (λ k. 0)

-- a step more makes those of its label
abbrev pub CallsGoOn : Type 0
CallsGoOn =
    (x : Setting) (w : Wide) (ls : List Label) (m : Wide) (l : Label) (v : Wide) (own : ℕ → List PhaseCall) (early : ℕ → ℕ) →
    Calls x w ls m own early → WideStep x m l v →
    Calls x w (ls ++ l ∷ []) v (λ k. own k ++ calls_from x k m.state l) (λ k. early k + early_of x k m l)
