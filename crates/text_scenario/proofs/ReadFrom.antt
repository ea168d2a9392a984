-- Reading line by line, as a loop does.
use Rattle.std.proofs.Common.{◌≡◌, ℕ, ◌+◌, List, [], ◌∷◌, Option, Some, None, Err, refl}
use Rattle.std.specs.Option.{ok_or}
use Rattle.text_scenario.specs.declared.tree.ScenarioText.{ScenarioText}
use Rattle.text_scenario.specs.declared.read.TextError.TheVariants as errors
use Rattle.text_scenario.specs.declared.state.State.{State}
use Rattle.text_scenario.specs.Grammar.{lines, tokens, spelled}
use Rattle.text_scenario.specs.State.{after_tokens, read_from, end_at, scenario_of, ReadsAs}

pub line_refused : (s : State) (n : ℕ) (rest line more : List ℕ) → lines rest ≡ line ∷ lines more → after_tokens s (tokens line) ≡ None → read_from s n (spelled rest) ≡ Err n
unfolding read_from
line_refused s n rest line more e bad = rw (e, bad) refl

pub line_taken : (s t : State) (n : ℕ) (rest line more : List ℕ) → lines rest ≡ line ∷ lines more → after_tokens s (tokens line) ≡ Some t → read_from s n (spelled rest) ≡ read_from t (n + 1) (spelled more)
unfolding read_from
line_taken s t n rest line more e good = rw (e, good) refl

pub no_line : (s : State) (n : ℕ) (rest : List ℕ) → rest ≡ [] → read_from s n (spelled rest) ≡ end_at n (scenario_of s)
unfolding read_from
no_line s n rest e = rw e refl

pub ends_so : (n : ℕ) (o : Option ScenarioText) → ReadsAs (ok_or o (errors.Bad n)) (end_at n o)
ends_so n (Some x) = refl
ends_so n None = refl
