-- What the relay does, and what its run tells of that.
use Rattle.host_embedding.specs.declared.relay.Relay.{Relay}
use Rattle.std.specs.Prelude.{List, [], true, ℕ, ◌∷◌, ◌≡◌}
use Rattle.machine_data.specs.declared.scenario.Version.TheVariants as version
use Rattle.machine_data.specs.Core.{State, Unscripted, fresh}
use Rattle.machine_data.specs.declared.component.Component.{Component}
use Rattle.machine_data.specs.declared.label.Label.{Label}
use Rattle.machine_data.specs.declared.label.Label.TheVariants as label
use Rattle.machine_data.specs.declared.label.MainLabel.TheVariants as main_label
use Rattle.machine_data.specs.declared.outcome.Outcome.{Outcome}
use Rattle.machine_data.specs.declared.records.Turn.TheVariants as turn
use Rattle.ops_turns.specs.Drive.{Drives}
use Rattle.ops_turns.specs.Turn.{setting_of, state_at}
use Rattle.ops_turns.specs.declared.mains.MainStep.{MainStep}
use Rattle.ops_turns.specs.declared.mains.MainStep.TheVariants as step

-- its word becomes what a call has returned; it answers its word
abbrev pub Relays : Relay → MainStep → Relay → Type 0
Relays m (step.Did (label.Main (main_label.Finish k v))) n = n.word ≡ v
Relays m (step.Answer v) n = (v ≡ m.word) × (n.word ≡ m.word)
Relays m _ n = n.word ≡ m.word

-- the trace is that of a run from a new store with two instances, which has ended in this outcome in so many steps at most
abbrev pub RanFromNew : Component → List Label → (steps : ℕ) → Outcome → Type 0
RanFromNew c trace steps o =
    (t : State) × Drives (setting_of c [] true) (state_at (fresh version.One 2 100000 1000000) Unscripted turn.Main) [] t trace steps o

-- what the last call that was finished has returned, where the word was this before
abbrev pub last_word : ℕ → List Label → ℕ
last_word w [] = w
last_word w (label.Main (main_label.Finish k v) ∷ ls) = last_word v ls
last_word w (l ∷ ls) = last_word w ls
