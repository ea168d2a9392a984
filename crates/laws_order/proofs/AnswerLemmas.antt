-- A step in which main answers.
use Rattle.laws_order.specs.MainAnswers.{AnswersLoseNone, NoneLost}
use Rattle.laws_labels.proofs.TurnLemmas.{main_at_its_turns}
use Rattle.laws_labels.specs.Own.{is_main_turn}
use Rattle.std.proofs.Common.{ap, refl, subst, sym}
use Rattle.std.specs.Prelude.{None, Option, Some, true, ℕ, ◌≡◌}
use Rattle.laws_states.specs.Order.{is_open}
use Rattle.machine_data.specs.Core.{Main, MainPlace, Scripted, State, Unscripted}
use Rattle.machine_data.specs.declared.label.Label.{Label}
use Rattle.machine_data.specs.declared.label.Label.TheVariants as label
use Rattle.machine_data.specs.declared.label.MainLabel.TheVariants as main_label
use Rattle.machine_data.specs.declared.outcome.Outcome.TheVariants as outcome
use Rattle.machine_data.specs.declared.records.Turn.{Turn}
use Rattle.machine_data.specs.declared.records.Turn.TheVariants as turn
use Rattle.machine_data.specs.declared.scenario.MainOpDef.{MainOpDef}
use Rattle.machine_rules.proofs.LawLemmas.{step_ends}
use Rattle.machine_rules.specs.MainOps.{Answers, Does, MainProgress, Pends, act_of, line_of, main_rule, op_at}
use Rattle.machine_rules.specs.Stalled.{Setting}
use Rattle.machine_rules.specs.Step.{MainProgresses, MainStep, OpenProgresses, ScriptStep, Step, TurnStep}
use Rattle.machine_rules.specs.Turns.{at_turn}

-- where the turns are over afterwards, nothing of the core was changed
script_kept : (s : State) (p : MainPlace) (o : MainOpDef) (a : MainProgress) (l : Label) (t : State) → MainProgresses s p o a l t → t.turn ≡ turn.Over → t.core ≡ s.core
unfolding at_turn
script_kept s p o (Does k new) l t is over = absurd (cc)
script_kept s p o Pends l t is over = ap (λ (u : State). u.core) is.1
script_kept s p o (Answers v) l t is over = ap (λ (u : State). u.core) is.1

line_kept : (x : Setting) (s : State) (p : MainPlace) (o : Option MainOpDef) (l : Label) (t : State) → ScriptStep x s p o l t → t.turn ≡ turn.Over → t.core ≡ s.core
unfolding at_turn
line_kept x s p None l t is over = ap (λ (u : State). u.core) is.1
line_kept x s p (Some o) l t is over = script_kept s p o (main_rule x.component (line_of p o) s.core (act_of p o)) l t is over

open_kept : (s : State) (a : MainProgress) (l : Label) (t : State) → OpenProgresses s a l t → t.turn ≡ turn.Over → t.core ≡ s.core
unfolding at_turn
open_kept s (Does k new) l t is over = absurd (cc)
open_kept s Pends l t is over = absurd is
open_kept s (Answers v) l t is over = ap (λ (u : State). u.core) is.1

main_kept : (x : Setting) (s : State) (m : Main) (v : ℕ) (t : State) → MainStep x s m (label.Main (main_label.Answer v)) t → t.turn ≡ turn.Over → t.core ≡ s.core
main_kept x s (Scripted p) v t is over = line_kept x s p (op_at x.script p) (label.Main (main_label.Answer v)) t is over
main_kept x s Unscripted v t is over = open_kept s (main_rule x.component is.0 s.core is.1.0) (label.Main (main_label.Answer v)) t is.1.1.1 over

core_kept : (x : Setting) (s : State) (u : Turn) (v : ℕ) (t : State) → is_main_turn u ≡ true → TurnStep x s u (label.Main (main_label.Answer v)) t → t.turn ≡ turn.Over → t.core ≡ s.core
core_kept x s turn.Main v t main is over = main_kept x s s.main v t is over
core_kept x s (turn.Futures n) v t main is over = absurd (cc)
core_kept x s (turn.Take ended) v t main is over = absurd (cc)
core_kept x s (turn.Run n) v t main is over = absurd (cc)
core_kept x s turn.Over v t main is over = absurd (cc)

main_is_open : (u : Turn) → is_main_turn u ≡ true → is_open u ≡ true
main_is_open turn.Main main = refl
main_is_open (turn.Futures n) main = absurd (cc)
main_is_open (turn.Take ended) main = absurd (cc)
main_is_open (turn.Run n) main = absurd (cc)
main_is_open turn.Over main = absurd (cc)

pub answers_lose_none : AnswersLoseNone
unfolding AnswersLoseNone Step
answers_lose_none x s v t q step =
    let main : is_main_turn s.turn ≡ true = sym (main_at_its_turns x s (label.Main (main_label.Answer v)) t step) in
    let over : t.turn ≡ turn.Over = step_ends x s (label.Main (main_label.Answer v)) t step (outcome.Done v) refl in
    let same = core_kept x s s.turn v t main step over in
    let awake = q.awake (main_is_open s.turn main) in
    (same, subst NoneLost (sym same) (record { counted = awake.counted; callers = awake.callers; held = q.held; blocked = awake.blocked }))
