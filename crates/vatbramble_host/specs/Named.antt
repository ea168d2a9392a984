-- The exports that a text gives names to.
use Rattle.text_scenario.specs.State.{small}
use Rattle.std.specs.Option.{option_map}
use Rattle.std.specs.Prelude.{List, Option, Some, [], position, slice_get, unwrap_or, ℕ}
use Rattle.std.specs.Str.{bytes_eq}
use Rattle.task_loop.specs.declared.call.Func.{Func}
use Rattle.task_run.specs.declared.scenario.InstanceNames.{InstanceNames}
use Rattle.text_lines.specs.Tokens.{◌>>=◌}

-- the place of the first instance of this name
abbrev pub instance_place : List InstanceNames → List ℕ → Option ℕ
instance_place names name = position (λ n. bytes_eq n.instance name) names >>= small

-- the place of the first of the names that is this
abbrev pub name_place : List (List ℕ) → List ℕ → Option ℕ
name_place names name = position (λ n. bytes_eq n name) names >>= small

-- the names of the exports of the instance at this place
abbrev pub exports_named : List InstanceNames → ℕ → List (List ℕ)
exports_named names k = unwrap_or (option_map (λ n. n.exports) (slice_get names k)) []

-- the export of these names
unfoldable pub func_named : List InstanceNames → List ℕ → List ℕ → Option Func
func_named names instance export = do
  k ← instance_place names instance
  j ← name_place (exports_named names k) export
  Some (record { instance = record { index = k }; export = j })
