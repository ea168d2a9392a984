-- Where a run under choices is, step after step.
use Rattle.choice_offers.specs.Choices.{chosen_of}
use Rattle.choice_offers.specs.declared.choice.Choice.{Choice}
use Rattle.choice_offers.specs.declared.choice.Offer.{Offer}
use Rattle.choice_run.proofs.RunLemmas.{IsMade, made_ends, made_few, made_first, made_longer, made_more, made_reports, made_short, made_wrong}
use Rattle.choice_run.specs.Chosen.{StopsOpen}
use Rattle.choice_run.specs.Stepping.{IsChosenStep, IsLeft, IsUnfit, with_one}
use Rattle.laws_choices.specs.ChoiceAnswers.{ComesTo, Reports, Short, Wrong}
use Rattle.laws_choices.specs.Offer as laws
use Rattle.laws_choices.specs.Offer.{Chosen}
use Rattle.laws_choices.specs.Offers.{offer}
use Rattle.machine_data.specs.declared.label.Label.{Label}
use Rattle.machine_data.specs.declared.outcome.Outcome.{Outcome}
use Rattle.machine_data.specs.declared.scenario.ScenarioDef.{ScenarioDef}
use Rattle.machine_rules.specs.Run.{opens}
use Rattle.machine_rules.specs.Stalled.{setting_of}
use Rattle.ops_turns.specs.Turn.{given}
use Rattle.std.proofs.Common.{ap, arith, refl, subst, sym, ◌∙◌}
use Rattle.std.proofs.lemmas.Option.{slice_get_past, slice_get_read}
use Rattle.std.specs.List.{HoldsAt}
use Rattle.std.specs.Option.{MatchOption}
use Rattle.std.specs.Prelude.{Bool, IsPermutation, List, None, Option, Some, [], false, length, map, option_map, slice_get, suc, true, zero, ℕ, ◌+◌, ◌<◌, ◌∷◌, ◌≡◌, ◌≤◌}
use Rattle.task_run.specs.Headline.{machine_scenario}
use Rattle.trace_machine.specs.Machines.{HasNumbers, IsKept, IsOfferOf, outcome_at, setting_at, state_of}
use Rattle.trace_machine.specs.declared.machine.Machine.{Machine}

-- ---- The next choice of a list

got : (xs : List Choice) (n : ℕ) → option_map chosen_of (slice_get xs n) ≡ slice_get (map chosen_of xs) n
got [] n = refl
got (x ∷ xs) zero = refl
got (x ∷ xs) (suc n) = got xs n

pub next_is : {X : Type 0} (xs : List Choice) (n : ℕ) (f : X → Choice) (o : Option X) → MatchOption o (length xs ≤ n) (λ r. (n < length xs) × HoldsAt (λ y. f r ≡ y) xs n) →
    option_map (λ r. chosen_of (f r)) o ≡ slice_get (map chosen_of xs) n
next_is xs n f None past = ap (λ (c : Option Choice). option_map chosen_of c) (sym (slice_get_past xs n past)) ∙ got xs n
next_is xs n f (Some r) at = ap (λ (c : Option Choice). option_map chosen_of c) (sym (slice_get_read xs (length xs) n (f r) refl at.0 (at.1 (f r)))) ∙ got xs n

-- ---- The run so far

-- So many labels were made, by so many of the choices, and no more than there are steps.
pub record IsAt (x : ScenarioDef) (cs : List Chosen) (steps : ℕ) (m : Machine) (ls : List Label) (used labels : ℕ) : Type 0 where
  pub made : IsMade x cs m ls used
  pub count : labels ≡ length ls
  pub within : labels ≤ steps

pub at_first : (x : ScenarioDef) (cs : List Chosen) (steps : ℕ) (m : Machine) → IsKept m → machine_scenario m.scenario.now ≡ x → state_of m ≡ opens x → m.last ≡ None → given m.store.state.core ≡ 0 → IsAt x cs steps m [] 0 0
at_first x cs steps m kept scenario begins last none = record { made = made_first x cs m kept scenario begins last none; count = omega arith; within = omega arith }

module _ (x : ScenarioDef) (cs : List Chosen) (steps : ℕ) (m : Machine) (ls : List Label) (used labels : ℕ) (h : IsAt x cs steps m ls used labels) where
  pub at_few : steps ≤ 1000000 → HasNumbers m
  at_few few = made_few x cs m ls used h.made (let count = h.count in let within = h.within in omega (arith, few, count, within))

  pub at_used : used ≤ labels
  at_used = let fewer = h.made.fewer in let count = h.count in omega (arith, fewer, count)

  -- it has come to something
  pub at_reports : (o : Outcome) → Some o ≡ outcome_at m false → ComesTo (setting_of x) (opens x) steps cs (Reports ls o used)
  at_reports o is = made_reports x cs m ls used h.made steps o (let count = h.count in let within = h.within in omega (arith, count, within)) (sym is)

  -- its steps are used up
  pub at_ends : (o : Outcome) → (labels < steps → ⊥) → Some o ≡ outcome_at m true → ComesTo (setting_of x) (opens x) steps cs (Reports ls o used)
  at_ends o none is = made_ends x cs m ls used h.made steps o (let count = h.count in let within = h.within in let all : steps ≤ labels = omega (arith, none) in omega (arith, count, within, all)) (sym is)

  module _ (more : labels < steps) (none : outcome_at m false ≡ None) where
    below : length ls < steps
    below = let count = h.count in omega (arith, count, more)

    pub at_wrong : IsUnfit m (slice_get cs used) → ComesTo (setting_of x) (opens x) steps cs (Wrong (used + 1))
    at_wrong s = made_wrong x cs m ls used h.made steps below none s

    pub at_short : (new : Machine) (o : Offer) → IsLeft m (slice_get cs used) new → IsOfferOf new o → StopsOpen x steps cs labels o
    at_short new o s lists = record {
      comes = made_short x cs m ls used h.made steps labels (sym h.count) below none s.none s.offers;
      waiters = there.waiters ∙ ap (λ (f : laws.Offer). f.waiters) same;
      members = there.members ∙ ap (λ (f : laws.Offer). f.members) same;
      permuted = subst (λ (f : laws.Offer). IsPermutation f.held o.held) same there.permuted;
    }
      where
        there : IsOfferOf m o
        there = subst (λ (k : Machine). IsOfferOf k o) s.same lists

        same : offer (setting_at m) (state_of m) ≡ offer (setting_of x) (state_of m)
        same = ap (λ (r : ScenarioDef). offer (setting_of r) (state_of m)) h.made.scenario

    pub at_next : (took : Bool) (new : Machine) (after : List Label) → IsChosenStep m (slice_get cs used) took new ls after → IsAt x cs steps new after (with_one took used) (labels + 1)
    at_next took new after s = record {
      made = made_more x cs m ls used h.made took new after s;
      count = let count = h.count in let longer = made_longer x cs m ls used h.made took new after s in omega (arith, count, longer);
      within = omega (arith, more);
    }
