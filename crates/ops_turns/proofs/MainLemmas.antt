-- What a step of main makes.
use Rattle.ops_guests.proofs.QuietLemmas.{quiet_picks}
use Rattle.core_primitives.specs.Preferences.{preference}
use Rattle.std.proofs.Common.{refl, subst, sym, ◌∙◌}
use Rattle.std.specs.Prelude.{None, Option, Some, is_none, true, ℕ, ◌≡◌}
use Rattle.machine_data.specs.Core.{Core, Main, MainPlace, Scripted, State, Unscripted}
use Rattle.machine_data.specs.declared.label.Label.{Label}
use Rattle.machine_data.specs.declared.label.Label.TheVariants as label
use Rattle.machine_data.specs.declared.label.LoopLabel.TheVariants as loop_label
use Rattle.machine_data.specs.declared.label.MainLabel.{MainLabel}
use Rattle.machine_data.specs.declared.label.MainLabel.TheVariants as main_label
use Rattle.machine_data.specs.declared.records.Turn.{Turn}
use Rattle.machine_data.specs.declared.records.Turn.TheVariants as turn
use Rattle.machine_data.specs.declared.scenario.MainOpDef.{MainOpDef}
use Rattle.machine_rules.specs.MainOps.{MainProgress, act_of, line_of, main_rule, op_at}
use Rattle.machine_rules.specs.MainOps as row
use Rattle.machine_rules.specs.Outcome.{outcome_of_label}
use Rattle.machine_rules.specs.Stalled.{Setting, main_pends}
use Rattle.machine_rules.specs.Step.{MainProgresses, MainStep, ScriptStep, Step}
use Rattle.machine_rules.specs.Turns.{at_turn, goes_to, settled_turn}
use Rattle.machine_rules.specs.Works.{next_polled}
use Rattle.ops_turns.proofs.PollLemmas.{futures_open, in_futures}
use Rattle.ops_turns.specs.Main.{Answers, Did, IsOpOfMain, Pends, main_setting}
use Rattle.ops_turns.specs.Turn.{Turns, running_of, state_at}
use Rattle.core_primitives.specs.StateView.{StateView}

-- the idle line is of no account
to_setting : (x : Setting) (s : State) (m : Main) (l : Label) (t : State) → MainStep (main_setting x.component x.script) s m l t → MainStep x s m l t
to_setting x s (Scripted p) l t step = step
to_setting x s Unscripted l t step = step

pends_like : (x : Setting) (s : Core) (m : Main) → main_pends (main_setting x.component x.script) s m ≡ true → main_pends x s m ≡ true
pends_like x s (Scripted p) pends = pends
pends_like x s Unscripted pends = pends

module _ (x : Setting) (m : Main) (s : Core) where
  -- a step of main is a step of the machine
  pub main_step : (l : Label) (t : State) → MainStep x (state_at s m turn.Main) m l t → Step x (state_at s m turn.Main) l t
  unfolding Step
  main_step l t step = step

  pends_rule : (p : MainPlace) (o : MainOpDef) (progress : MainProgress) → main_rule x.component (line_of p o) s (act_of p o) ≡ progress → main_pends x s (Scripted p) ≡ true → op_at x.script p ≡ Some o → progress ≡ row.Pends
  pends_rule p o (row.Does l new) is pends at = cc
  pends_rule p o row.Pends is pends at = refl
  pends_rule p o (row.Answers v) is pends at = cc

  after_pends : state_at s m (settled_turn s (turn.Futures 0)) ≡ goes_to (state_at s m turn.Main) s (turn.Futures 0)
  unfolding at_turn
  after_pends = refl

  pends_script : (p : MainPlace) (o : Option MainOpDef) (t : State) → op_at x.script p ≡ o → m ≡ Scripted p → main_pends x s (Scripted p) ≡ true → t ≡ goes_to (state_at s m turn.Main) s (turn.Futures 0)
      → ScriptStep x (state_at s m turn.Main) p o (label.Loop loop_label.MainPends) t
  pends_script p None t at is pends to = (refl, to)
  pends_script p (Some o) t at is pends to =
      subst (λ q. MainProgresses (state_at s m turn.Main) p o q (label.Loop loop_label.MainPends) t) (sym (pends_rule p o _ refl pends at)) (refl, to)

  pends_step : (k : Main) (t : State) → m ≡ k → main_pends x s k ≡ true → t ≡ goes_to (state_at s m turn.Main) s (turn.Futures 0) → MainStep x (state_at s m turn.Main) k (label.Loop loop_label.MainPends) t
  pends_step (Scripted p) t is pends to = pends_script p (op_at x.script p) t refl is pends to
  pends_step Unscripted t is pends to = to

  -- main waits
  waits : main_pends x s m ≡ true → Step x (state_at s m turn.Main) (label.Loop loop_label.MainPends) (state_at s m (settled_turn s (turn.Futures 0)))
  waits pends = main_step _ _ (pends_step m _ refl pends after_pends)

-- an op of main gives no outcome
op_goes_on : (l : MainLabel) → IsOpOfMain (label.Main l) → is_none (outcome_of_label (label.Main l)) ≡ true
op_goes_on (main_label.Answer v) op = absurd op
op_goes_on (main_label.Start k n) op = refl
op_goes_on (main_label.StartRefused t k) op = refl
op_goes_on (main_label.Finish k v) op = refl
op_goes_on (main_label.FinishRefused t k) op = refl
op_goes_on (main_label.Spawn k i) op = refl
op_goes_on (main_label.Abort p k) op = refl
op_goes_on (main_label.Await k) op = refl
op_goes_on main_label.Quiet op = refl
op_goes_on main_label.Ready op = refl

module _ (x : Setting) (m : Main) (s : StateView) (new : Main) (t : StateView) (none : running_of t ≡ None) where
  pub did_turns : (l : Label) → Did x.component x.script m s.core l new t.core → Turns x turn.Main m s (record { label = l; turn = turn.Main }) new t
  did_turns (label.Main l) h =
      let step = main_step x m s.core (label.Main l) (state_at t.core new turn.Main) (to_setting x (state_at s.core m turn.Main) m (label.Main l) (state_at t.core new turn.Main) h.step) in
      record {
        step = step;
        picks = quiet_picks (preference s) x (state_at s.core m turn.Main) (label.Main l) (state_at t.core new turn.Main) tt (refl, refl) step;
        running = none;
        over = op_goes_on l h.op;
        pends = tt;
      }
  did_turns _ h = absurd (h.op)

  pub waits_turns : (p : Turn) → p ≡ settled_turn t.core (turn.Futures 0) → Pends x.component x.script m s.core new t.core → Turns x turn.Main m s (record { label = label.Loop loop_label.MainPends; turn = p }) new t
  waits_turns p is h =
      let there = pends_like x s.core m h.pends in
      let l = label.Loop loop_label.MainPends in
      let open_there = futures_open 0 t.core (next_polled 0 t.core) in
      let pending = subst (λ (u : Core). main_pends x u new ≡ true) (sym h.core) (subst (λ (k : Main). main_pends x s.core k ≡ true) (sym h.part) there) in
      let step : Step x (state_at s.core m turn.Main) l (state_at t.core new (settled_turn t.core (turn.Futures 0))) =
      subst (λ (u : Core). Step x (state_at s.core m turn.Main) l (state_at u new (settled_turn u (turn.Futures 0)))) (sym h.core)
      (subst (λ (k : Main). Step x (state_at s.core m turn.Main) l (state_at s.core k (settled_turn s.core (turn.Futures 0)))) (sym h.part) (waits x m s.core there)) in
      let turns : Turns x turn.Main m s (record { label = l; turn = settled_turn t.core (turn.Futures 0) }) new t = record {
        step = step;
        picks = quiet_picks (preference s) x (state_at s.core m turn.Main) l (state_at t.core new (settled_turn t.core (turn.Futures 0))) tt (refl, refl) step;
        running = none ∙ sym open_there.1;
        over = sym open_there.0;
        pends = in_futures x t.core new 0 (next_polled 0 t.core) pending;
      } in
      subst (λ (q : Turn). Turns x turn.Main m s (record { label = l; turn = q }) new t) (sym is) turns

  pub answers_turns : (v : ℕ) → Answers x.component x.script m s.core v new t.core → Turns x turn.Main m s (record { label = label.Main (main_label.Answer v); turn = turn.Over }) new t
  answers_turns v h =
      let l = label.Main (main_label.Answer v) in
      let step : Step x (state_at s.core m turn.Main) l (state_at t.core new turn.Over) =
      subst (λ (u : Core). Step x (state_at s.core m turn.Main) l (state_at u new turn.Over)) (sym h.core)
      (subst (λ (k : Main). Step x (state_at s.core m turn.Main) l (state_at s.core k turn.Over)) (sym h.part)
      (main_step x m s.core l (state_at s.core m turn.Over) (to_setting x (state_at s.core m turn.Main) m l (state_at s.core m turn.Over) h.step))) in
      record {
        step = step;
        picks = quiet_picks (preference s) x (state_at s.core m turn.Main) l (state_at t.core new turn.Over) tt (refl, refl) step;
        running = none;
        over = refl;
        pends = tt;
      }
