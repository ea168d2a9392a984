-- The step that the loop takes, as a step of the machine.
use Rattle.choice_offers.specs.Listings.{HandlesKnown}
use Rattle.choice_offers.specs.Times.{AreTimed}
use Rattle.laws_choices.proofs.RunLemmas.{going_has_no_outcome}
use Rattle.laws_choices.specs.Offer.{Chosen}
use Rattle.laws_choices.specs.Runs.{GoingHasNoOutcome}
use Rattle.laws_choices.specs.Steps.{StepBy}
use Rattle.laws_places.proofs.OrderLemmas.{step_in_order}
use Rattle.laws_states.proofs.SettledLemmas.{settled_stays}
use Rattle.laws_states.specs.Order.{InOrder, is_open}
use Rattle.laws_states.specs.Settled.{IsSettled, NoneOpen, SettledStays}
use Rattle.machine_data.specs.Core.{State}
use Rattle.machine_data.specs.declared.label.Label.{Label}
use Rattle.machine_data.specs.declared.outcome.Outcome.TheVariants as outcome
use Rattle.machine_data.specs.declared.outcome.Outcome.{Outcome}
use Rattle.machine_data.specs.declared.records.Turn.TheVariants as turn
use Rattle.machine_data.specs.declared.records.Turn.{Turn}
use Rattle.machine_data.specs.declared.scenario.IdleLine.{IdleLine}
use Rattle.machine_data.specs.declared.scenario.MainOpDef.{MainOpDef}
use Rattle.machine_rules.proofs.WalkSteps.{step_walks}
use Rattle.machine_rules.specs.Outcome.{is_at_rest, open_outcome, outcome_of, outcome_of_label}
use Rattle.machine_rules.specs.Picks.{Picks}
use Rattle.machine_rules.specs.Scripts.{HasOpen, ops_of}
use Rattle.machine_rules.specs.Stalled.{Setting, setting_of}
use Rattle.machine_rules.specs.Step.{Step}
use Rattle.core_primitives.specs.Preferences.{preference}
use Rattle.ops_turns.specs.Turn.{TellsRest, idle_line_of, state_at}
use Rattle.ops_turns.specs.declared.made.MadeStep.{MadeStep}
use Rattle.std.proofs.Common.{ap, ap₂, arith, refl, subst, sym, ◌∙◌}
use Rattle.std.specs.Option.{option_and_then}
use Rattle.std.specs.Prelude.{Bool, List, None, Option, Some, [], false, is_none, true, ℕ, ◌+◌, ◌∷◌, ◌≡◌, ◌≢◌, ◌≤◌}
use Rattle.task_loop.specs.HasRun.{Keeps, MayRun, MayTakeTurn, at, setting}
use Rattle.task_loop.specs.SingleSteps.{IsStepOf, StepsOnce}
use Rattle.task_loop.specs.declared.run.RunConcurrent.{RunConcurrent}
use Rattle.store_works.specs.declared.scripted.ScriptedHost.{ScriptedHost}
use Rattle.task_group.specs.declared.hook.NoHook.{NoHook}
use Rattle.task_store.specs.declared.store.Store.{Store}
use Rattle.task_run.specs.declared.script.ScriptMain.{ScriptMain}
use Rattle.task_run.specs.Headline.{machine_scenario}
use Rattle.task_run.specs.Runnable.{IsRunnable}
use Rattle.task_run.specs.Says.{script_says}
use Rattle.task_run.specs.Script.{machine_ops, part_of}
use Rattle.task_run.specs.declared.scenario.Scenario.{Scenario}
use Rattle.trace_machine.proofs.MachineLemmas.{order_after}
use Rattle.trace_machine.proofs.SpotLemmas.{order_names}
use Rattle.trace_machine.specs.Machines.{GoesOn, HasNumbers, HoldsLast, IsKept, MayGo, MayGoOn, held_in, or_at_rest, outcome_at, scripted_course, setting_at, state_of, turn_at}
use Rattle.trace_machine.specs.declared.machine.Machine.{Machine}

-- ---- What no step changes

settled_step : (x : Setting) (s : State) (l : Label) (t : State) → IsSettled x.component s.main → NoneOpen s.core → Step x s l t → NoneOpen t.core
unfolding SettledStays
settled_step x s l t settled none step = (settled_stays (ops_of x.component s.core) x s l t settled (step_walks x s l t step) none).0

names_known : (x : Setting) (s : State) (l : Label) (t : State) → InOrder x.component s → Step x s l t → HandlesKnown t.core
names_known x s l t ordered step = order_names x.component t (step_in_order x s l t ordered step)

-- the setting in which the loop goes on
pub same_setting : (m : Machine) (ls : List Label) → IsKept m →
    setting script_says scripted_course m.scenario.now.component (at m.run m.main m.store ls) ≡ setting_at m
same_setting m ls kept =
    ap₂ (λ (ops : List MainOpDef) (i : IdleLine). record { component = m.scenario.now.component; script = ops; idle = i }) kept.script kept.idle

-- a step may be made
pub may_run : (m : Machine) (ls : List Label) → IsKept m → is_open (turn_at m) ≡ true → HasNumbers m →
    MayRun script_says scripted_course m.scenario.now.component (at m.run m.main m.store ls)
may_run m ls kept opened few = record {
  covered = kept.runnable.component;
  may_turn = subst (λ (x : Setting). MayTakeTurn script_says scripted_course m.scenario.now.component x (at m.run m.main m.store ls)) (sym (same_setting m ls kept))
      (let h = kept.may_go_on opened in
      record { order = h.order; settled = h.settled; running = h.running; pends = h.pends; suits = h.suits; knows = h.knows; works = h.works; asked = h.asked });
  unfinished = opened;
  few = let within = few opened in omega (arith, within);
}

-- ---- The step

one_label : (l k : Label) (ls : List Label) → ls ≡ l ∷ [] → ls ≡ k ∷ [] → l ≡ k
one_label l k ls a b = same (sym a ∙ b)
  where
    same : l ∷ [] ≡ k ∷ [] → l ≡ k
    same e = cc

module _ (m new : Machine) (ls : List Label) (l : Label) (kept : IsKept m) (opened : is_open (turn_at m) ≡ true) (same : new.scenario.now ≡ m.scenario.now)
    (made : MadeStep)
    (is : IsStepOf script_says scripted_course m.scenario.now.component made (at m.run m.main m.store []) (at new.run new.main new.store ls)) (label : l ≡ made.label) where
  abbrev before : Setting
  before = setting script_says scripted_course m.scenario.now.component (at m.run m.main m.store [])

  stepped : Step (setting_at m) (state_of m) l (state_of new)
  stepped =
      subst (λ (x : Setting). Step x (state_of m) l (state_of new)) (same_setting m [] kept)
      (subst (λ (k : Label). Step before (state_of m) k (state_of new)) (sym label)
      (subst (λ (q : Turn). Step before (state_of m) made.label (state_at new.store.state.core (part_of new.main) q)) (sym is.turn) is.told.turned.step))

  picked : Picks (preference m.store.state) (setting_at m) (state_of m) l (state_of new)
  picked =
      subst (λ (x : Setting). Picks (preference m.store.state) x (state_of m) l (state_of new)) (same_setting m [] kept)
      (subst (λ (k : Label). Picks (preference m.store.state) before (state_of m) k (state_of new)) (sym label)
      (subst (λ (q : Turn). Picks (preference m.store.state) before (state_of m) made.label (state_at new.store.state.core (part_of new.main) q)) (sym is.turn) is.told.turned.picks))

  open_made : is_open (turn_at new) ≡ true → is_open made.turn ≡ true
  open_made goes = sym (ap is_open is.turn) ∙ goes

  goes_on : is_open (turn_at new) ≡ true → MayGoOn new
  goes_on goes =
      let h = is.may_turn (open_made goes) in
      subst (λ (x : Scenario). MayTakeTurn script_says scripted_course x.component (setting_of (machine_scenario x)) (at new.run new.main new.store [])) (sym same)
      (subst (λ (x : Setting). MayTakeTurn script_says scripted_course m.scenario.now.component x (at new.run new.main new.store [])) (same_setting m [] kept)
      (record { order = h.order; settled = h.settled; running = h.running; pends = h.pends; suits = h.suits; knows = h.knows; works = h.works; asked = h.asked }))

  module _ (keeps : Keeps script_says (at m.run m.main m.store []) (at new.run new.main new.store ls)) (turned : new.turn ≡ made.turn) (last : new.last ≡ Some l)
      (holds : HoldsLast (held_in l) m.held new.held) (timed : AreTimed new.held) where
    still_kept : IsKept new
    still_kept = record {
      runnable = subst (λ (x : Scenario). IsRunnable x) (sym same) kept.runnable;
      hosts = λ some. kept.hosts (subst (λ (x : Scenario). HasOpen x.component) same some);
      script = keeps.script ∙ (kept.script ∙ ap (λ (x : Scenario). machine_ops x.main) (sym same));
      idle = ap idle_line_of keeps.idle ∙ (kept.idle ∙ ap (λ (x : Scenario). x.idle) (sym same));
      turn = turned ∙ sym is.turn;
      may_go_on = goes_on;
      works = settled_step (setting_at m) (state_of m) l (state_of new) (record { hosts = kept.hosts; main = λ e. absurd (cc) }) kept.works stepped;
      named = names_known (setting_at m) (state_of m) l (state_of new) ((kept.may_go_on opened).order.order (state_of m).main) stepped;
      over = ap (λ (o : Option Label). is_none (option_and_then outcome_of_label o)) last ∙ (ap (λ (k : Label). is_none (outcome_of_label k)) label ∙ (is.told.turned.over ∙ ap is_open (sym is.turn)));
      timed = timed;
    }

    pub went_on : (same_scenario : new.scenario ≡ m.scenario) → GoesOn m l new
    went_on same_scenario = record {
      step = stepped;
      picks = picked;
      scenario = same_scenario;
      last = last;
      held = λ order knows. order_after m new l order ((kept.may_go_on opened).order.order (state_of m).main) stepped holds knows;
      numbers = λ goes. is.numbers (open_made goes);
      kept = still_kept;
    }

-- the loop's step is the machine's
pub steps_on : (m new : Machine) (ls : List Label) (p : Turn) (l : Label) → IsKept m → is_open (turn_at m) ≡ true → new.scenario ≡ m.scenario → new.turn ≡ p →
    new.last ≡ Some l → ls ≡ l ∷ [] → HoldsLast (held_in l) m.held new.held → AreTimed new.held →
    Keeps script_says (at m.run m.main m.store []) (at new.run new.main new.store ls) →
    StepsOnce script_says scripted_course m.scenario.now.component (Some p) (at m.run m.main m.store []) (at new.run new.main new.store ls) → GoesOn m l new
steps_on m new ls p l kept opened same at_turn last shows holds timed keeps once =
    let made = once.0 in
    let is = once.1.1 in
    went_on m new ls l kept opened (ap (λ r. r.now) same) made is (one_label l made.label ls shows is.trace) keeps (at_turn ∙ once.1.0) last holds timed same

-- ---- Where no step is lawful

open_some : (r : Bool) → open_outcome r false ≡ None → r ≡ true → ⊥
open_some true none e = absurd (cc)
open_some false none e = absurd (cc)

module _ (m : Machine) where
  rest_stops : GoingHasNoOutcome → is_at_rest (setting_at m) (state_of m) ≡ true → MayGo m → ⊥
  unfolding GoingHasNoOutcome outcome_of
  rest_stops law rest may =
      let none : open_outcome (is_at_rest (setting_at m) (state_of m)) false ≡ None = law (setting_at m) (state_of m) (state_of m) [] may.0 may.1.0 1 (omega arith) refl may.1.1 in
      open_some (is_at_rest (setting_at m) (state_of m)) none rest

  -- where nothing can go on
  pub none_at_rest : is_at_rest (setting_at m) (state_of m) ≡ true → MayGo m → ⊥
  none_at_rest = rest_stops going_has_no_outcome

  over_is : (q : Turn) → is_open q ≡ false → q ≡ turn.Over
  over_is turn.Over e = refl
  over_is turn.Main e = absurd (cc)
  over_is (turn.Run n) e = absurd (cc)
  over_is (turn.Take b) e = absurd (cc)
  over_is (turn.Futures n) e = absurd (cc)

  stops_over : (q : Turn) → q ≡ turn.Over → (l : Label) (t : State) → Step (setting_at m) (state_at m.store.state.core (part_of m.main) q) l t → ⊥
  unfolding Step
  stops_over q over l t step = subst (λ (r : Turn). Step (setting_at m) (state_at m.store.state.core (part_of m.main) r) l t) over step

  -- where the run is over
  pub none_over : is_open (turn_at m) ≡ false → MayGo m → ⊥
  none_over over may = stops_over (turn_at m) (over_is (turn_at m) over) may.0 may.1.0 may.1.1

  stops_chosen : (q : Turn) → q ≡ turn.Over → (d : Chosen) (l : Label) (t : State) → StepBy (setting_at m) d (state_at m.store.state.core (part_of m.main) q) l t → ⊥
  unfolding StepBy
  stops_chosen q over d l t step = subst (λ (r : Turn). StepBy (setting_at m) d (state_at m.store.state.core (part_of m.main) r) l t) over step

  -- there no choice makes a step
  pub none_chosen : is_open (turn_at m) ≡ false → (d : Chosen) (k : Label) (u : State) → StepBy (setting_at m) d (state_of m) k u → ⊥
  none_chosen over d k u step = stops_chosen (turn_at m) (over_is (turn_at m) over) d k u step

  -- so a machine at which a run is over or nothing can go on makes no step
  pub none_when : (r : Bool) → (is_open (turn_at m) ≡ false → r ≡ true) → (is_open (turn_at m) ≡ true → r ≡ is_at_rest (setting_at m) (state_of m)) → r ≡ true → MayGo m → ⊥
  none_when r ends rests is may = by (is_open (turn_at m)) refl
    where
      by : (b : Bool) → is_open (turn_at m) ≡ b → ⊥
      by false e = none_over e may
      by true e = none_at_rest (sym (rests e) ∙ is) may

  -- and one that goes on is at neither
  pub opened_when : (r : Bool) → (is_open (turn_at m) ≡ false → r ≡ true) → r ≡ false → is_open (turn_at m) ≡ true
  opened_when r ends is = by (is_open (turn_at m)) refl
    where
      by : (b : Bool) → is_open (turn_at m) ≡ b → is_open (turn_at m) ≡ true
      by true e = e
      by false e = absurd (let h = ends e in cc)

  -- whether nothing can go on, as the loop tells it
  pub rest_is : IsKept m → is_open (turn_at m) ≡ true → (b : Bool) → idle_line_of b ≡ m.scenario.now.idle → (r : Bool) → TellsRest b m.turn m.store.state r →
      r ≡ is_at_rest (setting_at m) (state_of m)
  rest_is kept opened b idle r tells =
      let may = kept.may_go_on opened in
      let told : TellsRest b (turn_at m) m.store.state r = subst (λ (q : Turn). TellsRest b q m.store.state r) kept.turn tells in
      sym (told (setting_at m) may.order (sym idle) (part_of m.main) may.pends)

  -- a turn that isn't over
  pub unfinished : (q : Turn) → q ≢ turn.Over → is_open q ≡ true
  unfinished turn.Over e = absurd (e refl)
  unfinished turn.Main e = refl
  unfinished (turn.Run n) e = refl
  unfinished (turn.Take b) e = refl
  unfinished (turn.Futures n) e = refl

  -- ---- What the run has come to

  by_rest : IsKept m → None ≡ option_and_then outcome_of_label m.last → (r : Bool) → (is_open (turn_at m) ≡ true → r ≡ is_at_rest (setting_at m) (state_of m)) → (used_up : Bool) →
      open_outcome r used_up ≡ outcome_at m used_up
  by_rest kept none r rests used_up =
      ap (λ (b : Bool). open_outcome b used_up) (rests (sym kept.over ∙ ap is_none (sym none)))
      ∙ ap (λ (o : Option Outcome). or_at_rest o m used_up) none

  pub said_idle : IsKept m → None ≡ option_and_then outcome_of_label m.last → (r : Bool) → (is_open (turn_at m) ≡ true → r ≡ is_at_rest (setting_at m) (state_of m)) → (used_up : Bool) → r ≡ true →
      Some outcome.Idle ≡ outcome_at m used_up
  said_idle kept none r rests used_up is = ap (λ (b : Bool). open_outcome b used_up) (sym is) ∙ by_rest kept none r rests used_up

  pub said_open : IsKept m → None ≡ option_and_then outcome_of_label m.last → (r : Bool) → (is_open (turn_at m) ≡ true → r ≡ is_at_rest (setting_at m) (state_of m)) → (used_up : Bool) → r ≡ false →
      open_outcome false used_up ≡ outcome_at m used_up
  said_open kept none r rests used_up is = ap (λ (b : Bool). open_outcome b used_up) (sym is) ∙ by_rest kept none r rests used_up

-- ---- Steps that were not made, and the label of one that was

-- the loop rests only where nothing can go on
pub idle_rests : (m : Machine) (run : RunConcurrent) (st : Store (Unit {0}) ScriptedHost NoHook) (main : ScriptMain) (o : Option Turn) → ((p : Turn) → o ≡ Some p → ⊥) → IsKept m →
    is_at_rest (setting_at m) (state_of m) ≡ false → (ls : List Label) → StepsOnce script_says scripted_course m.scenario.now.component o (at m.run m.main m.store []) (at run main st ls) → ⊥
idle_rests m run st main (Some p) none kept moves ls once = none p refl
idle_rests m run st main None none kept moves ls once =
    absurd (let rests = sym (ap (λ (x : Setting). is_at_rest x (state_of m)) (same_setting m [] kept)) ∙ once.rests in let bad = sym moves ∙ rests in cc)

-- the trace has the step's label alone
pub once_shown : (m : Machine) (run : RunConcurrent) (st : Store (Unit {0}) ScriptedHost NoHook) (main : ScriptMain) (ls : List Label) (p : Turn) →
    StepsOnce script_says scripted_course m.scenario.now.component (Some p) (at m.run m.main m.store []) (at run main st ls) → (l : Label) × (ls ≡ l ∷ [])
once_shown m run st main ls p once = (once.0.label, once.1.1.trace)
