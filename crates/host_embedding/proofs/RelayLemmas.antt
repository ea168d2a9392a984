-- The relay answers what its last call has returned.
use Rattle.host_embedding.specs.Relays.{Relays, last_word}
use Rattle.host_embedding.specs.declared.relay.Relay.{Relay}
use Rattle.std.proofs.Common.{ap, arith, subst, sym, ◌∙◌}
use Rattle.std.specs.Prelude.{List, Some, [], ℕ, ◌++◌, ◌∷◌, ◌≡◌}
use Rattle.task_loop.specs.Ran.{DoesAll, DoesStep}
use Rattle.machine_data.specs.Core.{Core, State}
use Rattle.machine_data.specs.declared.label.CallLabel.{CallLabel}
use Rattle.machine_data.specs.declared.label.Label.{Label}
use Rattle.machine_data.specs.declared.label.Label.TheVariants as label
use Rattle.machine_data.specs.declared.label.LoopLabel.{LoopLabel}
use Rattle.machine_data.specs.declared.label.LoopLabel.TheVariants as loop_label
use Rattle.machine_data.specs.declared.label.MainLabel.{MainLabel}
use Rattle.machine_data.specs.declared.label.MainLabel.TheVariants as main_label
use Rattle.machine_data.specs.declared.outcome.Outcome.{Outcome}
use Rattle.machine_data.specs.declared.outcome.Outcome.TheVariants as outcome
use Rattle.machine_rules.specs.Outcome.{IsOutcome, last_outcome, outcome_of, outcome_of_label}
use Rattle.machine_rules.specs.History.{history}
use Rattle.machine_rules.specs.Run.{Run}
use Rattle.machine_rules.specs.Stalled.{Setting}
use Rattle.ops_turns.specs.Does.{step_shown}
use Rattle.ops_turns.specs.declared.mains.MainStep.{MainStep}

-- what it says of a step, whatever the core is
abbrev relays : Relay → Core → MainStep → Relay → Core → Type 0
relays m s step n t = Relays m step n

module _ (s t : Core) where
  -- the word after a label
  main_on : (l : MainLabel) (m n : Relay) → DoesStep relays m s (step_shown (label.Main l)) n t → (ls : List Label) → last_word m.word (label.Main l ∷ ls) ≡ last_word n.word ls
  main_on (main_label.Finish k v) m n h ls = ap (λ (w : ℕ). last_word w ls) (sym h)
  main_on (main_label.Answer v) m n h ls = ap (λ (w : ℕ). last_word w ls) (sym h.1)
  main_on _ m n h ls = ap (λ (w : ℕ). last_word w ls) (sym h)

  loop_on : (l : LoopLabel) (m n : Relay) → DoesStep relays m s (step_shown (label.Loop l)) n t → (ls : List Label) → last_word m.word (label.Loop l ∷ ls) ≡ last_word n.word ls
  loop_on loop_label.MainPends m n h ls = ap (λ (w : ℕ). last_word w ls) (sym h)
  loop_on _ m n h ls = ap (λ (r : Relay). last_word r.word ls) (sym h)

  word_on : (l : Label) (m n : Relay) → DoesStep relays m s (step_shown l) n t → (ls : List Label) → last_word m.word (l ∷ ls) ≡ last_word n.word ls
  word_on (label.Main l) m n h ls = main_on l m n h ls
  word_on (label.Loop l) m n h ls = loop_on l m n h ls
  word_on _ m n h ls = ap (λ (r : Relay). last_word r.word ls) (sym h)

  -- the label of an answer
  main_answers : (l : MainLabel) (m n : Relay) (v : ℕ) → outcome_of_label (label.Main l) ≡ Some (outcome.Done v) → DoesStep relays m s (step_shown (label.Main l)) n t → v ≡ last_word m.word (label.Main l ∷ [])
  main_answers (main_label.Answer w) m n v is h = let same : v ≡ w = cc in same ∙ h.0
  main_answers _ m n v is h = absurd (cc)

  loop_answers : (l : LoopLabel) (v : ℕ) → outcome_of_label (label.Loop l) ≡ Some (outcome.Done v) → ⊥
  loop_answers l v is = grind arith

  call_answers : (l : CallLabel) (v : ℕ) → outcome_of_label (label.Call l) ≡ Some (outcome.Done v) → ⊥
  call_answers l v is = grind arith

  answers_by : (l : Label) (m n : Relay) (v : ℕ) → outcome_of_label l ≡ Some (outcome.Done v) → DoesStep relays m s (step_shown l) n t → v ≡ last_word m.word (l ∷ [])
  answers_by (label.Main l) m n v is h = main_answers l m n v is h
  answers_by (label.Loop l) m n v is h = absurd (loop_answers l v is)
  answers_by (label.Call l) m n v is h = absurd (call_answers l v is)
  answers_by _ m n v is h = absurd (cc)

-- a run whose last label answers
word_answered : (x : Setting) (s : State) (ls : List Label) (t : State) (run : Run x s ls t) (m n : Relay) → DoesAll relays (history x s ls t run) m n → (v : ℕ) → last_outcome ls ≡ Some (outcome.Done v) → v ≡ last_word m.word ls
word_answered x s [] t run m n h v is = absurd (cc)
word_answered x s (l ∷ []) t run m n h v is = answers_by s.core run.0.core l m h.0 v is h.1.0
word_answered x s (l ∷ k ∷ ls) t run m n h v is = word_answered x run.0 (k ∷ ls) t run.1.1 h.0 n h.1.1 v is ∙ sym (word_on s.core run.0.core l m h.0 h.1.0 (k ∷ ls))

-- an answer is shown by the last label
done_last : (x : Setting) (t : State) (ls : List Label) (steps v : ℕ) → IsOutcome x t ls steps (outcome.Done v) → last_outcome ls ≡ Some (outcome.Done v)
unfolding outcome_of
done_last x t ls steps v is = grind (arith, is)

-- what was driven from an empty trace tells it
pub answered : (w : ℕ) (m n : Relay) (x : Setting) (s t : State) (before after added : List Label) (steps : ℕ) (o : Outcome) (v : ℕ) → m.word ≡ w → before ≡ [] → after ≡ before ++ added → (run : Run x s added t) →
    DoesAll relays (history x s added t run) m n → IsOutcome x t added steps o → o ≡ outcome.Done v → v ≡ last_word w after
answered w m n x s t before after added steps o v word none trace run mains ends done =
    let last = done_last x t added steps v (subst (λ (p : Outcome). IsOutcome x t added steps p) done ends) in
    let all : after ≡ added = trace ∙ ap (λ (ls : List Label). ls ++ added) none in
    word_answered x s added t run m n mains v last ∙ (ap (λ (k : ℕ). last_word k added) word ∙ ap (λ (ls : List Label). last_word w ls) (sym all))
