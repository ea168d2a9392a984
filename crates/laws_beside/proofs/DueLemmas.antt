-- A run that never ends as a deadlock, before the last round.
use Rattle.std.proofs.Common.{ap, inl, refl, subst, sym, ◌∙◌}
use Rattle.std.specs.Prelude.{Bool, None, Option, Some, [], false, is_none, not, true, ◌&&◌, ◌∷◌, ◌≡◌}
use Rattle.laws_beside.specs.Laws.{RunsAreDue, waiting}
use Rattle.laws_beside.specs.Wide.{Due, StepBeside, Wide, WideStep, begun, ended_round, settled, wide}
use Rattle.machine_data.specs.Core.{Main, MainPlace, Scripted, State, Unscripted}
use Rattle.machine_data.specs.Read.{next_entry}
use Rattle.machine_data.specs.declared.label.Label.{Label}
use Rattle.machine_data.specs.declared.label.Label.TheVariants as label
use Rattle.machine_data.specs.declared.label.LoopLabel.TheVariants as loop_label
use Rattle.machine_data.specs.declared.scenario.MainOpDef.{MainOpDef}
use Rattle.machine_data.specs.declared.records.Entry.{Entry}
use Rattle.machine_data.specs.declared.records.Turn.{Turn}
use Rattle.machine_data.specs.declared.statuses.Mark.{Mark}
use Rattle.machine_data.specs.declared.records.Turn.TheVariants as turn
use Rattle.machine_rules.specs.MainOps.{op_at}
use Rattle.machine_rules.specs.Stalled.{Setting, is_idle, is_stalled, is_unended_take, may_deadlock, works_rest}
use Rattle.machine_rules.specs.Step.{DeadlockStep, EmptyFor, MainStep, OpenStep, ScriptStep, Step, TakeStep, TurnStep}
use Rattle.machine_rules.specs.Turns.{queues_are_empty}
use Rattle.machine_rules.specs.Works.{has_moving_work}

-- what a step tells of the state that it is made from
abbrev Told : Setting → State → Label → State → Type 0
Told x s l t = Step x s l t × (is_stalled x s ≡ false)

and_false : (b : Bool) → (b && false) ≡ false
and_false true = refl
and_false false = refl

first : (b c d e : Bool) → b ≡ false → ((b && c) && d) && e ≡ false
first true c d e none = absurd (cc)
first false c d e none = refl

second : (a b c d : Bool) → b ≡ false → (a && (b && c)) && d ≡ false
second a true c d none = absurd (cc)
second true false c d none = refl
second false false c d none = refl

third : (a b c d : Bool) → c ≡ false → (a && (b && c)) && d ≡ false
third a b true d none = absurd (cc)
third true true false d none = refl
third true false false d none = refl
third false b false d none = refl

not_at : (x : Setting) (s : State) → is_unended_take s.turn ≡ false → is_stalled x s ≡ false
unfolding is_stalled is_idle
not_at x s other = first (is_unended_take s.turn) _ _ _ other

entry_stands : (x : Setting) (s : State) (e : Mark × Entry) → next_entry s.core ≡ Some e → is_stalled x s ≡ false
unfolding is_stalled is_idle
entry_stands x s e at = second _ (queues_are_empty s.core) _ _ (ap (λ (o : Option (Mark × Entry)). is_none o) at)

not_rest : (b c : Bool) → b ≡ true → (not b && c) ≡ false
not_rest true c moves = refl
not_rest false c moves = absurd (cc)

work_moves : (x : Setting) (s : State) → has_moving_work s.core ≡ true → is_stalled x s ≡ false
unfolding is_stalled is_idle
work_moves x s moves = third _ _ (works_rest s.core) _ (not_rest (has_moving_work s.core) _ moves)

-- ---- Each turn

never_dead : (x : Setting) (s : State) → may_deadlock (waiting x) s ≡ false
unfolding may_deadlock
never_dead x s = and_false (is_stalled (waiting x) s)

no_deadlock : (s : State) (b : Bool) (l : Label) (t : State) → b ≡ false → DeadlockStep s b l t → ⊥
no_deadlock s true l t none step = absurd (cc)
no_deadlock s false l t none step = step

empty : (x : Setting) (s : State) (l : Label) (t : State) (b : Bool) → has_moving_work s.core ≡ b → EmptyFor (waiting x) s b l t →
    EmptyFor x s b l t × (is_stalled x s ≡ false)
empty x s l t true moves step = (step, work_moves x s moves)
empty x s l t false moves step = absurd (no_deadlock s (may_deadlock (waiting x) s) l t (never_dead x s) step)

taken : (x : Setting) (s : State) (l : Label) (t : State) (o : Option (Mark × Entry)) → next_entry s.core ≡ o → TakeStep (waiting x) s o l t →
    TakeStep x s o l t × (is_stalled x s ≡ false)
taken x s l t None none step = empty x s l t (has_moving_work s.core) refl step
taken x s l t (Some e) some step = (step, entry_stands x s e some)

script_step : (x : Setting) (s : State) (p : MainPlace) (o : Option MainOpDef) (l : Label) (t : State) → ScriptStep (waiting x) s p o l t → ScriptStep x s p o l t
script_step x s p None l t step = step
script_step x s p (Some o) l t step = step

open_step : (x : Setting) (s : State) (l : Label) (t : State) → OpenStep (waiting x) s l t → OpenStep x s l t
open_step x s (label.Loop loop_label.MainPends) t step = step
open_step x s _ t step = step

main_step : (x : Setting) (s : State) (m : Main) (l : Label) (t : State) → MainStep (waiting x) s m l t → MainStep x s m l t
main_step x s (Scripted p) l t step = script_step x s p (op_at x.script p) l t step
main_step x s Unscripted l t step = open_step x s l t step

at_turn : (x : Setting) (s : State) (l : Label) (t : State) (p : Turn) → s.turn ≡ p → TurnStep (waiting x) s p l t →
    TurnStep x s p l t × (is_stalled x s ≡ false)
at_turn x s l t turn.Main at step = (main_step x s s.main l t step, not_at x s (ap is_unended_take at))
at_turn x s l t (turn.Futures n) at step = (step, not_at x s (ap is_unended_take at))
at_turn x s l t (turn.Take ended) at step = taken x s l t (next_entry s.core) refl step
at_turn x s l t (turn.Run n) at step = (step, not_at x s (ap is_unended_take at))
at_turn x s l t turn.Over at step = absurd step

pub told : (x : Setting) (s : State) (l : Label) (t : State) → Step (waiting x) s l t → Told x s l t
unfolding Step
told x s l t step = at_turn x s l t s.turn refl step

-- ---- Runs

unstalled : (x : Setting) (s : State) → is_stalled x s ≡ false → wide s Due ≡ settled x s Due
unfolding settled
unstalled x s going = ap (λ (b : Bool). ended_round s (begun b)) (sym going)

due_step : (x : Setting) (s : State) (l : Label) (t : State) → Step x s l t → WideStep x (wide s Due) l (settled x t Due)
unfolding WideStep StepBeside
due_step x s l t step = (t, (inl step, refl))

pub runs_are_due : RunsAreDue
runs_are_due x s [] t going run = ap (λ (y : State). settled x y Due) run ∙ sym (unstalled x s going)
runs_are_due x s (l ∷ []) t going run =
    let step = told x s l run.0 run.1.0 in
    let same : t ≡ run.0 = run.1.1 in
    (settled x run.0 Due, (due_step x s l run.0 step.0, ap (λ (y : State). settled x y Due) same))
runs_are_due x s (l ∷ k ∷ ls) t going run =
    let step = told x s l run.0 run.1.0 in
    let next = told x run.0 k run.1.1.0 run.1.1.1.0 in
    let here : WideStep x (wide s Due) l (wide run.0 Due) = subst (λ (y : Wide). WideStep x (wide s Due) l y) (sym (unstalled x run.0 next.1)) (due_step x s l run.0 step.0) in
    (wide run.0 Due, (here, runs_are_due x run.0 (k ∷ ls) t next.1 run.1.1))
