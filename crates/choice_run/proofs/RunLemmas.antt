-- A run under choices, step after step, and what it comes to.
use Rattle.choice_run.specs.Stepping.{HasMade, IsChosenStep, IsUnfit, with_one}
use Rattle.laws_choices.specs.ChoiceAnswers.{ComesTo, IsOpenAt, Reports, Short, Wrong}
use Rattle.laws_choices.specs.Offer.{Chosen, FitsOffer, Offer, first_choice, is_open}
use Rattle.laws_choices.specs.Offers.{offer}
use Rattle.laws_choices.specs.Runs.{NextIs, RunBy, TakesNext}
use Rattle.laws_choices.specs.Steps.{StepBy}
use Rattle.laws_states.specs.Order as order
use Rattle.machine_data.specs.Core.{State}
use Rattle.machine_data.specs.declared.label.Label.{Label}
use Rattle.machine_data.specs.declared.outcome.Outcome.{Outcome}
use Rattle.machine_data.specs.declared.scenario.ScenarioDef.{ScenarioDef}
use Rattle.machine_rules.specs.Outcome.{is_at_rest, last_outcome, open_outcome, or_open, outcome_of, outcome_of_label}
use Rattle.machine_rules.specs.Run.{opens}
use Rattle.machine_rules.specs.Stalled.{Setting, setting_of}
use Rattle.ops_turns.specs.Turn.{given}
use Rattle.std.proofs.Common.{ap, arith, length-append, refl, subst, sym, ◌∙◌}
use Rattle.std.proofs.lemmas.Bool.Decides.{nat_tests}
use Rattle.std.specs.Option.{option_and_then}
use Rattle.std.specs.Prelude.{Bool, List, None, Option, Some, [], drop, false, length, slice_get, suc, true, zero, ℕ, ◌*◌, ◌+◌, ◌++◌, ◌<◌, ◌==◌, ◌∷◌, ◌≡◌, ◌≤◌}
use Rattle.task_run.specs.Headline.{machine_scenario}
use Rattle.trace_machine.specs.Machines.{HasNumbers, IsKept, or_at_rest, outcome_at, setting_at, state_of, turn_at}
use Rattle.trace_machine.specs.declared.machine.Machine.{Machine}

-- ---- Runs, and one more label

run_more : (x : Setting) (s : State) (cs : List Chosen) (ls : List Label) (t : State) (left : List Chosen) (c : Chosen) (rest : List Chosen) (l : Label) (u : State) →
    RunBy x s cs ls t left → TakesNext x t left c rest → StepBy x c t l u → RunBy x s cs (ls ++ l ∷ []) u rest
run_more x s cs [] t left c rest l u run takes step =
    subst (λ (r : State). TakesNext x r cs c rest → StepBy x c r l u → RunBy x s cs (l ∷ []) u rest) (sym run.0) (λ h i. (c, (rest, (u, (h, (i, (refl, refl)))))))
    (subst (λ (ds : List Chosen). TakesNext x t ds c rest) run.1 takes) step
run_more x s cs (k ∷ ls) t left c rest l u run takes step =
    (run.0, (run.1.0, (run.1.1.0, (run.1.1.1.0, (run.1.1.1.1.0, run_more x run.1.1.0 run.1.0 ls t left c rest l u run.1.1.1.1.1 takes step)))))

last_more : (ls : List Label) (l : Label) → last_outcome (ls ++ l ∷ []) ≡ outcome_of_label l
last_more [] l = refl
last_more (k ∷ []) l = refl
last_more (k ∷ j ∷ ls) l = last_more (j ∷ ls) l

-- the next of what is left
next_suc : (cs : List Chosen) (n : ℕ) (c : Chosen) → slice_get cs n ≡ Some c → drop n cs ≡ c ∷ drop (suc n) cs
next_suc [] n c e = absurd (cc)
next_suc (d ∷ cs) zero c e = same d c e
  where
    same : (a b : Chosen) → Some a ≡ Some b → a ∷ cs ≡ b ∷ cs
    same a b e = cc
next_suc (d ∷ cs) (suc n) c e = next_suc cs n c e

next_some : (cs : List Chosen) (n : ℕ) (c : Chosen) → slice_get cs n ≡ Some c → drop n cs ≡ c ∷ drop (n + 1) cs
next_some cs n c e = let more : suc n ≡ n + 1 = omega arith in next_suc cs n c e ∙ ap (λ (k : ℕ). c ∷ drop k cs) more

pub next_none : (cs : List Chosen) (n : ℕ) → slice_get cs n ≡ None → drop n cs ≡ []
next_none [] n e = nothing n
  where
    nothing : (n : ℕ) → drop {A = Chosen} n [] ≡ []
    nothing zero = refl
    nothing (suc n) = refl
next_none (d ∷ cs) zero e = absurd (cc)
next_none (d ∷ cs) (suc n) e = next_none cs n e

-- ---- A run so far

-- The labels so far were made by the first choices, so many of them.
pub record IsMade (x : ScenarioDef) (cs : List Chosen) (m : Machine) (ls : List Label) (used : ℕ) : Type 0 where
  pub run : RunBy (setting_of x) (opens x) cs ls (state_of m) (drop used cs)
  pub all : used + length (drop used cs) ≡ length cs
  pub fewer : used ≤ length ls
  pub last : last_outcome ls ≡ option_and_then outcome_of_label m.last
  pub numbers : order.is_open (turn_at m) ≡ true → given m.store.state.core ≤ 2 * length ls
  pub kept : IsKept m
  pub scenario : machine_scenario m.scenario.now ≡ x

pub made_first : (x : ScenarioDef) (cs : List Chosen) (m : Machine) → IsKept m → machine_scenario m.scenario.now ≡ x → state_of m ≡ opens x → m.last ≡ None → given m.store.state.core ≡ 0 → IsMade x cs m [] 0
made_first x cs m kept scenario begins last none = record {
  run = (begins, refl);
  all = omega arith;
  fewer = omega arith;
  last = sym (ap (λ (o : Option Label). option_and_then outcome_of_label o) last);
  numbers = λ goes. omega (arith, none);
  kept = kept;
  scenario = scenario;
}

module _ (x : ScenarioDef) (cs : List Chosen) (m : Machine) (ls : List Label) (used : ℕ) (h : IsMade x cs m ls used) where
  same_setting : setting_at m ≡ setting_of x
  same_setting = ap setting_of h.scenario

  same_offer : offer (setting_at m) (state_of m) ≡ offer (setting_of x) (state_of m)
  same_offer = ap (λ (y : Setting). offer y (state_of m)) same_setting

  pub made_few : length ls ≤ 1000000 → HasNumbers m
  made_few few opened = let numbers = h.numbers opened in omega (arith, numbers, few)

  -- ---- One more step

  module _ (c : Chosen) (new : Machine) (after : List Label) (s : HasMade m c new ls after) where
    step_by : StepBy (setting_of x) c (state_of m) s.label (state_of new)
    step_by = subst (λ (y : Setting). StepBy y c (state_of m) s.label (state_of new)) same_setting s.step.step

    longer : length after ≡ length ls + 1
    longer = let long = length-append ls (s.label ∷ []) in let same = ap (λ (ks : List Label). length ks) s.more in omega (arith, long, same)

    more_by : (rest : ℕ) → rest ≤ used + 1 → TakesNext (setting_of x) (state_of m) (drop used cs) c (drop rest cs) → rest + length (drop rest cs) ≡ length cs → IsMade x cs new after rest
    more_by rest few takes all = record {
      run = subst (λ (ks : List Label). RunBy (setting_of x) (opens x) cs ks (state_of new) (drop rest cs)) (sym s.more) (run_more (setting_of x) (opens x) cs ls (state_of m) (drop used cs) c (drop rest cs) s.label (state_of new) h.run takes step_by);
      all = all;
      fewer = let long = longer in let fewer = h.fewer in omega (arith, long, fewer, few);
      last = ap (λ (ks : List Label). last_outcome ks) s.more ∙ (last_more ls s.label ∙ sym (ap (λ (o : Option Label). option_and_then outcome_of_label o) s.step.last));
      numbers = λ goes. let few = s.step.numbers goes in let before = h.numbers s.step.opened in let long = longer in omega (arith, few, before, long);
      kept = s.step.kept;
      scenario = ap (λ r. machine_scenario r.now) s.step.scenario ∙ h.scenario;
    }

    fits_there : FitsOffer c (offer (setting_of x) (state_of m))
    fits_there = subst (λ (o : Offer). FitsOffer c o) same_offer s.step.fits

    next_used : (b : Bool) → b ≡ true → drop used cs ≡ c ∷ drop (used + 1) cs → NextIs b (offer (setting_of x) (state_of m)) (drop used cs) c (drop (used + 1) cs)
    next_used true e at = at
    next_used false e at = absurd (cc)

    next_alone : (b : Bool) → b ≡ false → c ≡ first_choice (offer (setting_of x) (state_of m)) → NextIs b (offer (setting_of x) (state_of m)) (drop used cs) c (drop used cs)
    next_alone false e is = (is, refl)
    next_alone true e is = absurd (cc)

    -- the next choice was taken
    made_used : is_open (offer (setting_at m) (state_of m)) ≡ true → slice_get cs used ≡ Some c → IsMade x cs new after (used + 1)
    made_used offers is =
        let at = next_some cs used c is in
        more_by (used + 1) (omega arith) (next_used (is_open (offer (setting_of x) (state_of m))) (sym (ap is_open same_offer) ∙ offers) at, fits_there)
        (let all = h.all in let long = ap (λ (ds : List Chosen). length ds) at in omega (arith, all, long))

    -- the only one was
    made_alone : is_open (offer (setting_at m) (state_of m)) ≡ false → c ≡ first_choice (offer (setting_at m) (state_of m)) → IsMade x cs new after used
    made_alone offers is =
        more_by used (omega arith) (next_alone (is_open (offer (setting_of x) (state_of m))) (sym (ap is_open same_offer) ∙ offers) (is ∙ ap (λ (o : Offer). first_choice o) same_offer), fits_there) h.all

  pub made_more : (took : Bool) (new : Machine) (after : List Label) → IsChosenStep m (slice_get cs used) took new ls after → IsMade x cs new after (with_one took used)
  made_more true new after s = made_used s.choice new after s.made s.offers s.is
  made_more false new after s = made_alone s.choice new after s.made s.offers s.is

  pub made_longer : (took : Bool) (new : Machine) (after : List Label) → IsChosenStep m (slice_get cs used) took new ls after → length after ≡ length ls + 1
  made_longer took new after s = longer s.choice new after s.made

  -- ---- What it comes to

  -- the run's outcome is the machine's
  comes_to : (steps : ℕ) → outcome_of (setting_of x) (state_of m) ls steps ≡ outcome_at m (length ls == steps)
  unfolding outcome_of
  comes_to steps = by (last_outcome ls) (option_and_then outcome_of_label m.last) h.last
    where
      each : (a : Option Outcome) → or_open a (setting_of x) (state_of m) ls steps ≡ or_at_rest a m (length ls == steps)
      each None = ap (λ (y : Setting). open_outcome (is_at_rest y (state_of m)) (length ls == steps)) (sym same_setting)
      each (Some o) = refl

      by : (a b : Option Outcome) → a ≡ b → or_open a (setting_of x) (state_of m) ls steps ≡ or_at_rest b m (length ls == steps)
      by a b same = subst (λ (o : Option Outcome). or_open a (setting_of x) (state_of m) ls steps ≡ or_at_rest o m (length ls == steps)) same (each a)

  -- what it has come to before its steps are used up it has come to then
  comes_too : (b : Bool) (o : Outcome) → outcome_at m false ≡ Some o → outcome_at m b ≡ Some o
  comes_too b o is = by (option_and_then outcome_of_label m.last) is
    where
      rests : (r : Bool) → open_outcome r false ≡ Some o → open_outcome r b ≡ Some o
      rests true e = e
      rests false e = absurd (cc)

      by : (a : Option Outcome) → or_at_rest a m false ≡ Some o → or_at_rest a m b ≡ Some o
      by None e = rests (is_at_rest (setting_at m) (state_of m)) e
      by (Some a) e = e

  reports : (steps : ℕ) (o : Outcome) → length ls ≤ steps → outcome_at m (length ls == steps) ≡ Some o → ComesTo (setting_of x) (opens x) steps cs (Reports ls o used)
  reports steps o within is = record { labels = ls; last = state_of m; left = drop used cs; run = h.run; within = within; has_come = (refl, (comes_to steps ∙ is, h.all)) }

  -- it has come to something
  pub made_reports : (steps : ℕ) (o : Outcome) → length ls ≤ steps → outcome_at m false ≡ Some o → ComesTo (setting_of x) (opens x) steps cs (Reports ls o used)
  made_reports steps o within is = reports steps o within (comes_too (length ls == steps) o is)

  -- its steps are used up
  pub made_ends : (steps : ℕ) (o : Outcome) → length ls ≡ steps → outcome_at m true ≡ Some o → ComesTo (setting_of x) (opens x) steps cs (Reports ls o used)
  made_ends steps o all is =
      let same : (length ls == steps) ≡ true = grind (arith, nat_tests, all) in
      reports steps o (omega (arith, all)) (ap (λ (b : Bool). outcome_at m b) same ∙ is)

  pub open_at : (steps : ℕ) → length ls < steps → outcome_at m false ≡ None → is_open (offer (setting_at m) (state_of m)) ≡ true → IsOpenAt (setting_of x) steps ls (state_of m)
  open_at steps within none offers = record {
    unended = let more : (length ls == steps) ≡ false = grind (arith, nat_tests, within) in comes_to steps ∙ (ap (λ (b : Bool). outcome_at m b) more ∙ none);
    offers = sym (ap is_open same_offer) ∙ offers;
  }

  -- the next choice doesn't fit
  pub made_wrong : (steps : ℕ) → length ls < steps → outcome_at m false ≡ None → IsUnfit m (slice_get cs used) → ComesTo (setting_of x) (opens x) steps cs (Wrong (used + 1))
  made_wrong steps within none s =
      let at = next_some cs used s.choice s.is in
      record {
        labels = ls;
        last = state_of m;
        left = drop used cs;
        run = h.run;
        within = omega (arith, within);
        has_come = (
          s.choice,
          (
            drop (used + 1) cs,
            (
              at,
              (
                open_at steps within none s.offers,
                (
                  let all = h.all in let long = ap (λ (ds : List Chosen). length ds) at in omega (arith, all, long),
                  λ fits. s.unfit (subst (λ (o : Offer). FitsOffer s.choice o) (sym same_offer) fits),
                ),
              ),
            ),
          ),
        );
      }

  -- none is left
  abbrev pub made_short : (steps n : ℕ) → length ls ≡ n → length ls < steps → outcome_at m false ≡ None → slice_get cs used ≡ None → is_open (offer (setting_at m) (state_of m)) ≡ true →
      ComesTo (setting_of x) (opens x) steps cs (Short n)
  made_short steps n all within none left offers = record {
    labels = ls;
    last = state_of m;
    left = drop used cs;
    run = h.run;
    within = omega (arith, within);
    has_come = (next_none cs used left, (open_at steps within none offers, all));
  }
