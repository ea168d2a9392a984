-- What is kept of main's ops beside their list.
use Rattle.std.specs.Prelude.{◌≡◌, ℕ, ◌+◌, ◌<◌, ◌≤◌, Bool, false, List, length, get_or}
use Rattle.std.specs.List.{list_any}
use Rattle.text_scenario.specs.declared.tree.MainOpText.{MainOpText}
use Rattle.text_scenario.specs.declared.tree.MainOpText.TheVariants as main
use Rattle.text_scenario.specs.Placement.{finishes, start_count, spawn_count}

pub record IsKept (ops : List MainOpText) (starts spawns : ℕ) (finished : List Bool) : Type 0 where
  pub starts_are : starts ≡ start_count ops
  pub spawns_are : spawns ≡ spawn_count ops
  pub each : length finished ≡ starts
  -- start k + 1 is finished by an op or by none
  pub finished_is : (k : ℕ) → k < starts → get_or finished k false ≡ list_any (finishes (k + 1)) ops
  pub later : (k : ℕ) → starts < k → list_any (finishes k) ops ≡ false

-- an op that finishes a start finishes one of these
abbrev pub FinishesStart : List MainOpText → MainOpText → Type 0
FinishesStart before (main.Finish k r) = k ≤ start_count before
FinishesStart before _ = Unit {0}
