-- Runs go on, and end.
use Rattle.std.proofs.Common.{◌≡◌, ◌≤◌, ◌<◌, ◌+◌, ℕ, List, [], ◌∷◌, ◌++◌, true, false, refl, sym, ap, ◌∙◌, append_assoc, append-nil, subst, length-append, length, arith}
use Rattle.std.specs.List.{last_or}
use Rattle.std.specs.Prelude.{Bool, Option, Some, None, is_none, option_and_then, ◌==◌}
use Rattle.machine_data.specs.declared.component.Component.{Component}
use Rattle.machine_data.specs.declared.scenario.MainOpDef.{MainOpDef}
use Rattle.std.proofs.lemmas.Bool.{eq-eqb}
use Rattle.machine_data.specs.declared.label.CallLabel.{CallLabel}
use Rattle.machine_data.specs.declared.label.CallLabel.TheVariants as call_label
use Rattle.machine_data.specs.declared.label.Label.{Label}
use Rattle.machine_data.specs.declared.label.Label.TheVariants as label
use Rattle.machine_data.specs.declared.label.LoopLabel.{LoopLabel}
use Rattle.machine_data.specs.declared.label.LoopLabel.TheVariants as loop_label
use Rattle.machine_data.specs.declared.label.MainLabel.{MainLabel}
use Rattle.machine_data.specs.declared.label.MainLabel.TheVariants as main_label
use Rattle.machine_data.specs.declared.outcome.Outcome.{Outcome}
use Rattle.machine_data.specs.declared.outcome.Outcome.TheVariants as outcome
use Rattle.machine_data.specs.Core.{Main, State}
use Rattle.machine_rules.specs.Stalled.{Setting}
use Rattle.machine_rules.specs.Step.{Step}
use Rattle.machine_rules.specs.Run.{Run}
use Rattle.machine_rules.specs.Outcome.{call_outcome, last_outcome, loop_outcome, main_outcome, outcome_of_label, outcome_of, or_open, open_outcome, is_at_rest, IsOutcome}
use Rattle.ops_turns.specs.declared.made.MadeStep.{MadeStep}
use Rattle.machine_data.specs.declared.records.Turn.{Turn}
use Rattle.laws_places.proofs.OrderLemmas.{steps_make_few}
use Rattle.ops_turns.specs.Drive.{Drives, Drove, Going, IsOn}
use Rattle.ops_turns.proofs.KeptLemmas.{core_in_order_after}
use Rattle.ops_turns.proofs.SettleLemmas.{step_settles}
use Rattle.ops_turns.specs.Turn.{IsAtTurn, PendsIn, CoreInOrder, Turned, Turns, given, goes_on, setting_of, state_at}
use Rattle.core_primitives.specs.StateView.{StateView}

-- a run and then one more step
pub Run-more : (x : Setting) (s : State) (ls : List Label) (m : State) (l : Label) (t : State) → Run x s ls m → Step x m l t → Run x s (ls ++ l ∷ []) t
Run-more x s [] m l t r step = (t, (subst (λ u. Step x u l t) r step, refl))
Run-more x s (k ∷ ls) m l t r step = (r.0, (r.1.0, Run-more x r.0 ls m l t r.1.1 step))

pub last_outcome-push : (ls : List Label) (l : Label) → last_outcome (ls ++ l ∷ []) ≡ outcome_of_label l
last_outcome-push [] l = refl
last_outcome-push (k ∷ []) l = refl
last_outcome-push (k ∷ m ∷ ls) l = last_outcome-push (m ∷ ls) l

pub last_outcome-last : (ls : List Label) → last_outcome ls ≡ option_and_then outcome_of_label (last_or None ls)
last_outcome-last [] = refl
last_outcome-last (l ∷ []) = refl
last_outcome-last (k ∷ m ∷ ls) = last_outcome-last (m ∷ ls)

some_of : {X : Type 0} (a b : X) → Some a ≡ Some b → b ≡ a
some_of a b is = cc

pub Going-none : (x : Setting) (s : State) (before : List Label) → Going x s before s before 0
Going-none x s before = record { added = []; trace = sym (append-nil before); run = refl; count = refl; going_on = refl }

-- the last label gives the outcome
told : (x : Setting) (t : State) (ls : List Label) (steps : ℕ) (o : Outcome) → last_outcome ls ≡ Some o → IsOutcome x t ls steps o
unfolding outcome_of
told x t ls steps o is = ap (λ q. or_open q x t ls steps) is

module _ (x : Setting) (s : State) (before : List Label) (m : State) (mid : List Label) (n : ℕ) (l : Label) (t : State) (after : List Label) (going : Going x s before m mid n) (step : Step x m l t) (pushed : after ≡ mid ++ l ∷ []) where
  trace_more : after ≡ before ++ (going.added ++ l ∷ [])
  trace_more = pushed ∙ (ap (λ (ls : List Label). ls ++ l ∷ []) going.trace ∙ append_assoc before going.added (l ∷ []))

  run_more : Run x s (going.added ++ l ∷ []) t
  run_more = Run-more x s going.added m l t going.run step

  count_more : length (going.added ++ l ∷ []) ≡ n + 1
  count_more = length-append going.added (l ∷ []) ∙ ap (λ k. k + 1) going.count

  -- the label gives no outcome
  pub Going-more : outcome_of_label l ≡ None → Going x s before t after (n + 1)
  Going-more none = record { added = going.added ++ l ∷ []; trace = trace_more; run = run_more; count = count_more; going_on = last_outcome-push going.added l ∙ none }

  -- the label gives the outcome
  pub Going-ends : (steps : ℕ) (o : Outcome) → n < steps → outcome_of_label l ≡ Some o → Drives x s before t after steps o
  Going-ends steps o room some = record {
    added = going.added ++ l ∷ [];
    trace = trace_more;
    run = run_more;
    few = omega (arith, count_more);
    ends = told x t (going.added ++ l ∷ []) steps o (last_outcome-push going.added l ∙ some);
  }

-- nothing can go on, and that is no deadlock
pub Going-rests : (x : Setting) (s : State) (before : List Label) (t : State) (after : List Label) (n steps : ℕ) → Going x s before t after n → n ≤ steps → is_at_rest x t ≡ true → Drives x s before t after steps outcome.Idle
unfolding outcome_of
Going-rests x s before t after n steps going room rests = record {
  added = going.added;
  trace = going.trace;
  run = going.run;
  few = omega (arith, going.count);
  ends = ap (λ q. or_open q x t going.added steps) going.going_on ∙ ap (λ b. open_outcome b (length going.added == steps)) rests;
}

-- the steps are used up
pub Going-out : (x : Setting) (s : State) (before : List Label) (t : State) (after : List Label) (steps : ℕ) → Going x s before t after steps → is_at_rest x t ≡ false → Drives x s before t after steps outcome.OutOfSteps
unfolding outcome_of
Going-out x s before t after steps going moves = record {
  added = going.added;
  trace = going.trace;
  run = going.run;
  few = omega (arith, going.count);
  ends =
      ap (λ q. or_open q x t going.added steps) going.going_on ∙ ap (λ b. open_outcome b (length going.added == steps)) moves
      ∙ ap (open_outcome false) (eq-eqb (length going.added) steps going.count);
}

-- ---- A run that is driven

-- an outcome that a label gives ends the run
main_ends : (l : MainLabel) (o : Outcome) → main_outcome l ≡ Some o → goes_on o ≡ false
main_ends (main_label.Answer v) o is = ap goes_on (some_of (outcome.Done v) o is)
main_ends (main_label.Start k n) o is = absurd (cc)
main_ends (main_label.StartRefused t k) o is = absurd (cc)
main_ends (main_label.Finish k v) o is = absurd (cc)
main_ends (main_label.FinishRefused t k) o is = absurd (cc)
main_ends (main_label.Spawn k i) o is = absurd (cc)
main_ends (main_label.Abort p k) o is = absurd (cc)
main_ends (main_label.Await k) o is = absurd (cc)
main_ends main_label.Quiet o is = absurd (cc)
main_ends main_label.Ready o is = absurd (cc)

loop_ends : (l : LoopLabel) (o : Outcome) → loop_outcome l ≡ Some o → goes_on o ≡ false
loop_ends (loop_label.Trap t n) o is = ap goes_on (some_of (outcome.Trap t) o is)
loop_ends (loop_label.FutureFails i) o is = ap goes_on (some_of (outcome.HostFailed i) o is)
loop_ends (loop_label.Deadlock t) o is = ap goes_on (some_of (outcome.Deadlock t) o is)
loop_ends loop_label.MainPends o is = absurd (cc)
loop_ends (loop_label.FuturePends i) o is = absurd (cc)
loop_ends (loop_label.FutureEnds i) o is = absurd (cc)
loop_ends (loop_label.FutureAborted i) o is = absurd (cc)
loop_ends loop_label.Rest o is = absurd (cc)

call_ends : (l : CallLabel) (o : Outcome) → call_outcome l ≡ Some o → goes_on o ≡ false
call_ends (call_label.Fails n i) o is = ap goes_on (some_of (outcome.HostFailed i) o is)
call_ends _ o is = absurd (cc)

pub label_ends : (l : Label) (o : Outcome) → outcome_of_label l ≡ Some o → goes_on o ≡ false
label_ends (label.Main l) o is = main_ends l o is
label_ends (label.Loop l) o is = loop_ends l o is
label_ends (label.Call l) o is = call_ends l o is
label_ends _ o is = absurd (cc)

pub on_begins : (x : Setting) (before : List Label) (p : Turn) (m : Main) (t : StateView) → IsAtTurn x.component p t → PendsIn x t.core m p → IsOn x (state_at t.core m p) before (given t.core) p m t before 0
on_begins x before p m t at pends = record { going = Going-none x (state_at t.core m p) before; at = at; few = omega arith; pends = pends }

module _ (x : Setting) (s : State) (before : List Label) (numbers : ℕ) (p : Turn) (m : Main) (t : StateView) (mid : List Label) (n : ℕ) (on : IsOn x s before numbers p m t mid n) where
  module _ (made : MadeStep) (m' : Main) (t' : StateView) (turns : Turns x p m t made m' t') (after : List Label) (pushed : after ≡ mid ++ made.label ∷ []) where
    order_then : CoreInOrder x.component made.turn t'.core
    order_then = core_in_order_after x t.core t'.core m m' p made.turn made.label on.at.order turns.step

    few_then : given t'.core ≤ given t.core + 2
    few_then = (steps_make_few x (state_at t.core m p) made.label (state_at t'.core m' made.turn) turns.step).all

    -- the label gives no outcome
    pub on_more : outcome_of_label made.label ≡ None → IsOn x s before numbers made.turn m' t' after (n + 1)
    on_more none = record {
      going = Going-more x s before (state_at t.core m p) mid n made.label (state_at t'.core m' made.turn) after on.going turns.step pushed none;
      at = record {
        order = order_then;
        running = turns.running;
        settled = step_settles x (state_at t.core m p) made.label (state_at t'.core m' made.turn) turns.step;
        unfinished = sym turns.over ∙ ap is_none none;
      };
      few = let a = few_then in let b = on.few in omega arith;
      pends = turns.pends;
    }

    -- the label gives the outcome
    pub on_ends : (steps : ℕ) (o : Outcome) → n < steps → outcome_of_label made.label ≡ Some o → Drove x s before numbers made.turn m' t' after steps o
    on_ends steps o room some = record {
      drives = Going-ends x s before (state_at t.core m p) mid n made.label (state_at t'.core m' made.turn) after on.going turns.step pushed steps o room some;
      unfinished = sym turns.over ∙ (ap is_none some ∙ sym (label_ends made.label o some));
      order = order_then;
      settled = step_settles x (state_at t.core m p) made.label (state_at t'.core m' made.turn) turns.step;
      few = let a = few_then in let b = on.few in omega arith;
      running = turns.running;
      pends = turns.pends;
    }

  -- nothing can go on, and that is no deadlock
  pub on_rests : (steps : ℕ) → n ≤ steps → is_at_rest x (state_at t.core m p) ≡ true → Drove x s before numbers p m t mid steps outcome.Idle
  on_rests steps room rests = record {
    drives = Going-rests x s before (state_at t.core m p) mid n steps on.going room rests;
    unfinished = on.at.unfinished;
    order = on.at.order;
    settled = on.at.settled;
    few = let b = on.few in omega arith;
    running = on.at.running;
    pends = on.pends;
  }

  -- the steps are used up
  pub on_out : is_at_rest x (state_at t.core m p) ≡ false → Drove x s before numbers p m t mid n outcome.OutOfSteps
  on_out moves = record {
    drives = Going-out x s before (state_at t.core m p) mid n on.going moves;
    unfinished = on.at.unfinished;
    order = on.at.order;
    settled = on.at.settled;
    few = on.few;
    running = on.at.running;
    pends = on.pends;
  }

-- so many labels were added as there may be
pub on_out_at : (x : Setting) (s : State) (before : List Label) (numbers : ℕ) (p : Turn) (m : Main) (t : StateView) (mid : List Label) (n steps : ℕ) → IsOn x s before numbers p m t mid n → n ≡ steps
    → is_at_rest x (state_at t.core m p) ≡ false → Drove x s before numbers p m t mid steps outcome.OutOfSteps
on_out_at x s before numbers p m t mid n steps on all moves = subst (λ k. Drove x s before numbers p m t mid k outcome.OutOfSteps) all (on_out x s before numbers p m t mid n on moves)

-- nothing was changed where nothing can go on
pub on_turned_none : (x : Setting) (s : State) (before : List Label) (numbers : ℕ) (p : Turn) (m m' : Main) (t t' : StateView) (mid : List Label) (n steps : ℕ) → IsOn x s before numbers p m t mid n → n ≤ steps
    → Turned x p m t None m' t' → Drove x s before numbers p m' t' mid steps outcome.Idle
on_turned_none x s before numbers p m m' t t' mid n steps on room h =
    subst (λ u. Drove x s before numbers p m' u mid steps outcome.Idle) (sym h.1.1)
    (subst (λ k. Drove x s before numbers p k t mid steps outcome.Idle) (sym h.1.0) (on_rests x s before numbers p m t mid n on steps room h.0))

-- the same, in the same setting
pub turned_same : (c : Component) (ops ops' : List MainOpDef) (b b' : Bool) (p : Turn) (m : Main) (s : StateView) (made : Option MadeStep) (m' : Main) (t : StateView) → ops ≡ ops' → b ≡ b'
    → Turned (setting_of c ops b) p m s made m' t → Turned (setting_of c ops' b') p m s made m' t
turned_same c ops ops' b b' p m s made m' t script trap h = subst (λ v. Turned (setting_of c ops' v) p m s made m' t) trap (subst (λ o. Turned (setting_of c o b) p m s made m' t) script h)
