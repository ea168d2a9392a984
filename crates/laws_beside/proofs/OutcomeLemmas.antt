-- What runs have resulted in.
use Rattle.std.proofs.Common.{ap, arith, eq-eqb, eqb-true, refl, subst, sym, ◌∙◌}
use Rattle.std.proofs.lemmas.Option.{none-some, same_Some}
use Rattle.std.specs.Prelude.{Bool, List, None, Option, Some, [], false, length, true, ℕ, ◌&&◌, ◌++◌, ◌==◌, ◌∷◌, ◌≡◌}
use Rattle.laws_beside.specs.Outcomes.{CameTo, Ends, GoesOn, NoLabelRests, NoLabelUsesUp, OpenRunsUseUp, Rests, RunsComeTo, RunsComeToBehind, RunsShowALabel, WaitingRests, WideOutcomes}
use Rattle.laws_beside.specs.Laws.{waiting}
use Rattle.laws_beside.specs.Wide as beside
use Rattle.machine_data.specs.Core.{Core, Main, Scripted, State, Unscripted}
use Rattle.machine_data.specs.declared.label.CallLabel.TheVariants as call_label
use Rattle.machine_data.specs.declared.label.Label.{Label}
use Rattle.machine_data.specs.declared.label.Label.TheVariants as label
use Rattle.machine_data.specs.declared.label.LoopLabel.TheVariants as loop_label
use Rattle.machine_data.specs.declared.label.MainLabel.TheVariants as main_label
use Rattle.machine_data.specs.declared.outcome.Outcome.{Outcome}
use Rattle.machine_data.specs.declared.outcome.Outcome.TheVariants as outcome
use Rattle.machine_data.specs.declared.scenario.MainOpDef.{MainOpDef}
use Rattle.machine_rules.specs.MainOps.{op_at}
use Rattle.machine_rules.specs.Outcome.{is_at_rest, last_outcome, open_outcome, or_open, outcome_of, outcome_of_label}
use Rattle.machine_rules.specs.Stalled.{Setting, is_idle, is_stalled, main_pends, none_admitted, none_behind, none_blocked_on_end, no_set_passed_over, pends_at, works_rest, is_unended_take}
use Rattle.machine_rules.specs.Turns.{queues_are_empty}

same_pends : (x : Setting) (s : Core) (m : Main) → main_pends (waiting x) s m ≡ main_pends x s m
same_pends x s (Scripted p) = by (op_at x.script p)
  where
    by : (o : Option MainOpDef) → pends_at (waiting x) s p o ≡ pends_at x s p o
    by None = refl
    by (Some o) = refl
same_pends x s Unscripted = refl

same_stalled : (x : Setting) (s : State) → is_stalled (waiting x) s ≡ is_stalled x s
unfolding is_stalled is_idle
same_stalled x s =
    ap (λ (b : Bool). ((is_unended_take s.turn && b) && (queues_are_empty s.core && works_rest s.core))
    && (none_behind s.core && (none_admitted s.core && (no_set_passed_over s.core && none_blocked_on_end s.core)))) (same_pends x s.core s.main)

and_true : (b : Bool) → (b && true) ≡ b
and_true true = refl
and_true false = refl

pub waiting_rests : WaitingRests
unfolding is_at_rest
waiting_rests x s = and_true (is_stalled (waiting x) s) ∙ same_stalled x s

came_to : (x : Setting) (t : State) (ls : List Label) (steps : ℕ) (o : Outcome) (a : Option Outcome) → last_outcome ls ≡ a →
    or_open a x t ls steps ≡ Some o → CameTo x t ls o
came_to x t ls steps o (Some p) at is = Ends (at ∙ is)
came_to x t ls steps o None at is = by (is_at_rest x t) (length ls == steps) refl is
  where
    by : (b c : Bool) → is_at_rest x t ≡ b → open_outcome b c ≡ Some o → CameTo x t ls o
    by true c rests e = Rests at (sym (same_Some _ _ e)) rests
    by false true going e = GoesOn at (sym (same_Some _ _ e)) going
    by false false going e = absurd (cc)

pub runs_come_to : RunsComeTo
unfolding outcome_of
runs_come_to x t ls steps o is = came_to x t ls steps o (last_outcome ls) refl is

pub last_behind : (ks ls : List Label) → last_outcome ks ≡ None → last_outcome (ks ++ ls) ≡ last_outcome ls
last_behind [] ls unended = refl
last_behind (k ∷ []) [] unended = unended
last_behind (k ∷ []) (l ∷ ls) unended = refl
last_behind (k ∷ m ∷ ks) ls unended = last_behind (m ∷ ks) ls unended

pub runs_come_to_behind : RunsComeToBehind
runs_come_to_behind x t ks ls o unended (Ends is) = Ends (last_behind ks ls unended ∙ is)
runs_come_to_behind x t ks ls o unended (Rests none is rests) = Rests (last_behind ks ls unended ∙ none) is rests
runs_come_to_behind x t ks ls o unended (GoesOn none is going) = GoesOn (last_behind ks ls unended ∙ none) is going

pub wide_outcomes : WideOutcomes
unfolding beside.wide_outcome_of
wide_outcomes x w ls steps = (
  λ o at. ap (λ (a : Option Outcome). beside.or_open a x w ls steps) at,
  (
    λ none past rest. ap (λ (a : Option Outcome). beside.or_open a x w ls steps) none
        ∙ ap (λ (b : Bool). open_outcome b (length ls == steps)) (ap (λ (b : Bool). b && is_at_rest x w.state) past ∙ rest),
    λ none going out. ap (λ (a : Option Outcome). beside.or_open a x w ls steps) none
        ∙ (ap (λ (b : Bool). open_outcome b (length ls == steps)) going
        ∙ ap (λ (b : Bool). open_outcome false b) (eq-eqb (length ls) steps out)),
  ),
)

no_end : (l : Label) → outcome_of_label l ≡ Some outcome.OutOfSteps → ⊥
no_end (label.Main (main_label.Answer v)) is = absurd (cc)
no_end (label.Loop (loop_label.Trap t n)) is = absurd (cc)
no_end (label.Loop (loop_label.FutureFails i)) is = absurd (cc)
no_end (label.Loop (loop_label.Deadlock t)) is = absurd (cc)
no_end (label.Call (call_label.Fails n i)) is = absurd (cc)
no_end l is = absurd (first_of (cc, grind (arith, is)))

pub no_label_uses_up : NoLabelUsesUp
no_label_uses_up [] is = absurd (cc)
no_label_uses_up (l ∷ []) is = no_end l is
no_label_uses_up (l ∷ m ∷ ls) is = no_label_uses_up (m ∷ ls) is

no_rest : (l : Label) → outcome_of_label l ≡ Some outcome.Idle → ⊥
no_rest (label.Main (main_label.Answer v)) is = absurd (cc)
no_rest (label.Loop (loop_label.Trap t n)) is = absurd (cc)
no_rest (label.Loop (loop_label.FutureFails i)) is = absurd (cc)
no_rest (label.Loop (loop_label.Deadlock t)) is = absurd (cc)
no_rest (label.Call (call_label.Fails n i)) is = absurd (cc)
no_rest l is = absurd (first_of (cc, grind (arith, is)))

pub no_label_rests : NoLabelRests
no_label_rests [] is = absurd (cc)
no_label_rests (l ∷ []) is = no_rest l is
no_label_rests (l ∷ m ∷ ls) is = no_label_rests (m ∷ ls) is

pub open_runs_use_up : OpenRunsUseUp
unfolding outcome_of
open_runs_use_up x t ls steps is = by (last_outcome ls) refl is
  where
    at_end : (b c : Bool) → (length ls == steps) ≡ c → open_outcome b c ≡ Some outcome.OutOfSteps → length ls ≡ steps
    at_end true c used e = absurd (cc)
    at_end false true used e = eqb-true (length ls) steps used
    at_end false false used e = absurd (cc)

    by : (a : Option Outcome) → last_outcome ls ≡ a → or_open a x t ls steps ≡ Some outcome.OutOfSteps → length ls ≡ steps
    by (Some p) at e = absurd (no_label_uses_up ls (at ∙ e))
    by None at e = at_end (is_at_rest x t) (length ls == steps) refl e

pub runs_show_a_label : RunsShowALabel
unfolding outcome_of
runs_show_a_label x t ls o going none is =
    let e : open_outcome (is_at_rest x t) false ≡ Some o = subst (λ (ks : List Label). or_open (last_outcome ks) x t ks 1 ≡ Some o) none is in
    none-some o (ap (λ (b : Bool). open_outcome b false) (sym going) ∙ e)
