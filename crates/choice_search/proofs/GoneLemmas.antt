-- What is sought of the choices whose run was made.
use Rattle.choice_offers.specs.Choices.{chosen_of, offer_of}
use Rattle.choice_offers.specs.declared.choice.Offer as declared
use Rattle.choice_run.specs.Chosen.{EndsAs, StopsOpen}
use Rattle.choice_run.specs.declared.run.ChosenReport.{ChosenReport}
use Rattle.choice_run.specs.declared.run.RunEnd.TheVariants as run_end
use Rattle.choice_search.proofs.AskedLemmas.{opens_order, opens_scripted, way_closed, way_runnable}
use Rattle.choice_search.proofs.CoverLemmas.{goes_on_by, more_reports, more_wrong, one}
use Rattle.choice_search.proofs.LimitLemmas.{reports_by, short_by}
use Rattle.choice_search.proofs.NumberLemmas.{each_is_numbered}
use Rattle.choice_search.specs.Numbered.{EachIsNumbered, HasNumber, choice_at, choice_count}
use Rattle.choice_search.specs.Searched.{is_cut, is_of}
use Rattle.choice_search.specs.Searching.{GoesFrom, IsAsked, IsBranch, IsGone, IsLeft, IsSought, Open, Over, def_at}
use Rattle.choice_search.specs.declared.kinds.Kinds.{Kinds}
use Rattle.choice_search.specs.declared.search.Asked.{Asked}
use Rattle.choice_search.specs.declared.search.Branch.{Branch}
use Rattle.laws_choices.specs.ChoiceAnswers.{Answer, ComesTo, Reports, Short, Wrong}
use Rattle.laws_choices.specs.Offer as laws
use Rattle.laws_choices.specs.Offer.{Chosen, FitsOffer, is_one_of}
use Rattle.laws_choices.specs.Offers.{offer}
use Rattle.machine_data.specs.declared.label.Label.{Label}
use Rattle.machine_data.specs.declared.outcome.Outcome.TheVariants as outcomes
use Rattle.machine_data.specs.declared.outcome.Outcome.{Outcome}
use Rattle.machine_rules.specs.Run.{opens}
use Rattle.machine_rules.specs.Stalled.{setting_of}
use Rattle.std.proofs.Common.{ap, arith, inl, inr, refl, subst, sym, ◌∙◌}
use Rattle.std.proofs.lemmas.Bool.Decides.{nat_tests}
use Rattle.std.proofs.lemmas.Bool.{eqb-true}
use Rattle.std.proofs.lemmas.List.Sorted.{IsPermutation-sym, IsPermutation-trans}
use Rattle.std.specs.Prelude.{Bool, IsPermutation, List, Option, Some, [], false, length, map, slice_get, suc, true, zero, ℕ, ◌++◌, ◌<◌, ◌==◌, ◌∷◌, ◌≡◌, ◌≤◌, ◌⊎◌}
use Rattle.task_run.specs.declared.scenario.Scenario.{Scenario}

same_outcome : (a b : List Label) (o p : Outcome) (m n : ℕ) → Reports a o m ≡ Reports b p n → o ≡ p
same_outcome a b o p m n e = cc

both_ways : (b c : Bool) → b ≡ c → b ≡ false → c ≡ true → ⊥
both_ways b c same off on = absurd (cc)

-- a run that isn't cut off isn't out of steps
uncut : (o : Outcome) → is_cut o ≡ false → o ≡ outcomes.OutOfSteps → ⊥
uncut o not is = absurd (let bad : is_cut o ≡ true = ap is_cut is in cc)

module _ (x : Scenario) (a : Asked) (ok : IsAsked x a) (w : ℕ) where
  -- ---- Runs that are over

  same_answer : (cs : List Chosen) (r q : Answer) → ComesTo (setting_of (def_at x a w)) (opens (def_at x a w)) a.steps cs r → ComesTo (setting_of (def_at x a w)) (opens (def_at x a w)) a.steps cs q → r ≡ q
  same_answer cs r q h i =
      one (setting_of (def_at x a w)) (opens (def_at x a w)) (way_closed x a.polls w ok.closed) (opens_order _ (way_runnable x a.polls w ok.runnable)) (opens_scripted _ (way_runnable x a.polls w ok.runnable)) a.steps cs r q h i

  pub over_reports : (cs : List Chosen) (ls : List Label) (o : Outcome) (n : ℕ) → ComesTo (setting_of (def_at x a w)) (opens (def_at x a w)) a.steps cs (Reports ls o n) → is_of a.kinds o ≡ false → (more : List Chosen) → IsSought x a w (cs ++ more) → ⊥
  over_reports cs ls o n h other more s =
      let there = more_reports (setting_of (def_at x a w)) (opens (def_at x a w)) (way_closed x a.polls w ok.closed) (opens_order _ (way_runnable x a.polls w ok.runnable)) (opens_scripted _ (way_runnable x a.polls w ok.runnable)) a.steps cs more ls o n h in
      let same = same_outcome ls s.labels o s.outcome n s.used (same_answer (cs ++ more) (Reports ls o n) (Reports s.labels s.outcome s.used) there s.comes) in
      both_ways (is_of a.kinds o) (is_of a.kinds s.outcome) (ap (λ (p : Outcome). is_of a.kinds p) same) other s.wanted

  pub over_wrong : (cs : List Chosen) (k : ℕ) → ComesTo (setting_of (def_at x a w)) (opens (def_at x a w)) a.steps cs (Wrong k) → (more : List Chosen) → IsSought x a w (cs ++ more) → ⊥
  over_wrong cs k h more s =
      let there = more_wrong (setting_of (def_at x a w)) (opens (def_at x a w)) (way_closed x a.polls w ok.closed) (opens_order _ (way_runnable x a.polls w ok.runnable)) (opens_scripted _ (way_runnable x a.polls w ok.runnable)) a.steps cs more k h in
      let same = same_answer (cs ++ more) (Wrong k) (Reports s.labels s.outcome s.used) there s.comes in
      absurd (cc)

-- ---- Runs that go on

fits_offered : (c : Chosen) (o : laws.Offer) (p : declared.Offer) → p.waiters ≡ o.waiters → p.members ≡ o.members → IsPermutation o.held p.held → FitsOffer c o → FitsOffer c (offer_of p)
fits_offered c o p waiters members held fits = record {
  waiter = subst (λ (ns : List ℕ). is_one_of ns c.waiter ≡ true) (sym waiters) fits.waiter;
  member = subst (λ (ns : List ℕ). is_one_of ns c.member ≡ true) (sym members) fits.member;
  release = IsPermutation-trans p.held o.held c.release (IsPermutation-sym o.held p.held held) fits.release;
}

-- The choices go on at this offer by one of its numbers.
record GoesOn (o : laws.Offer) (more : List Chosen) : Type 0 where
  choice : ℕ
  below : choice < choice_count o
  rest : List Chosen
  parts : more ≡ choice_at o choice ∷ rest

numbered : (o : laws.Offer) (c : Chosen) (rest more : List Chosen) → more ≡ c ∷ rest → HasNumber o c → GoesOn o more
numbered o c rest more is n = record { choice = n.number; below = n.below; rest = rest; parts = is ∙ ap (λ (d : Chosen). d ∷ rest) (sym n.is) }

has_number : (o : laws.Offer) (c : Chosen) → FitsOffer c o → HasNumber o c
unfolding EachIsNumbered
has_number o c fits = each_is_numbered o c fits

module _ (x : Scenario) (a : Asked) (ok : IsAsked x a) where
  goes_on : (b : Branch) → IsBranch x a b → (more : List Chosen) → IsSought x a b.way (map chosen_of b.choices.items ++ more) → GoesOn (offer_of b.offer) more
  goes_on b is more s =
      let cs = map chosen_of b.choices.items in
      let t = is.stops in
      let g = goes_on_by (setting_of (def_at x a b.way)) (opens (def_at x a b.way)) (way_closed x a.polls b.way ok.closed) (opens_order _ (way_runnable x a.polls b.way ok.runnable)) (opens_scripted _ (way_runnable x a.polls b.way ok.runnable)) a.steps cs more is.labels t.comes s.labels s.outcome s.used s.comes in
      numbered (offer_of b.offer) g.choice g.rest more g.is
      (has_number (offer_of b.offer) g.choice (fits_offered g.choice (offer (setting_of (def_at x a b.way)) t.comes.last) b.offer t.waiters t.members t.permuted g.fits))

-- ---- The branches after a run

pushed_last : (bs : List Branch) (b : Branch) → slice_get (bs ++ b ∷ []) (length bs) ≡ Some b
pushed_last [] b = refl
pushed_last (c ∷ bs) b = pushed_last bs b

pushed_still : (bs : List Branch) (b : Branch) (k : ℕ) (c : Branch) → slice_get bs k ≡ Some c → slice_get (bs ++ b ∷ []) k ≡ Some c
pushed_still [] b k c is = absurd (cc)
pushed_still (d ∷ bs) b zero c is = is
pushed_still (d ∷ bs) b (suc k) c is = pushed_still bs b k c is

last_or : (bs : List Branch) (b : Branch) (k : ℕ) (c : Branch) → slice_get (bs ++ b ∷ []) k ≡ Some c → (slice_get bs k ≡ Some c) ⊎ (b ≡ c)
last_or [] b zero c is = inr (cc)
last_or [] b (suc k) c is = absurd (cc)
last_or (d ∷ bs) b zero c is = inl is
last_or (d ∷ bs) b (suc k) c is = last_or bs b k c is

pub new_left : (next number size n : ℕ) → next ≤ size → (next < size) ⊎ (number ≡ 0) → IsLeft next number size n
new_left next number size n within (inl less) = inl less
new_left next number size n within (inr none) = by (next == size) refl
  where
    by : (b : Bool) → (next == size) ≡ b → IsLeft next number size n
    by true e = inr (eqb-true next size e, omega (arith, none))
    by false e = inl (grind (arith, nat_tests, within, e))

module _ (x : Scenario) (a : Asked) (bs new : List Branch) (w : ℕ) (cs : List Chosen) where
  pub still_there : IsGone x a bs w cs new → (k : ℕ) (b : Branch) → slice_get bs k ≡ Some b → slice_get new k ≡ Some b
  still_there (Over same none) k b at = subst (λ (ks : List Branch). slice_get ks k ≡ Some b) (sym same) at
  still_there (Open c same way are is) k b at = subst (λ (ks : List Branch). slice_get ks k ≡ Some b) (sym same) (pushed_still bs c k b at)

  pub all_branches : IsGone x a bs w cs new → ((k : ℕ) (b : Branch) → slice_get bs k ≡ Some b → IsBranch x a b) → (k : ℕ) (b : Branch) → slice_get new k ≡ Some b → IsBranch x a b
  all_branches (Over same none) each k b at = each k b (subst (λ (ks : List Branch). slice_get ks k ≡ Some b) same at)
  all_branches (Open c same way are is) each k b at = by (last_or bs c k b (subst (λ (ks : List Branch). slice_get ks k ≡ Some b) same at))
    where
      by : (slice_get bs k ≡ Some b) ⊎ (c ≡ b) → IsBranch x a b
      by (inl old) = each k b old
      by (inr last) = subst (λ (d : Branch). IsBranch x a d) last is

  module _ (ok : IsAsked x a) (next number : ℕ) (within : next ≤ length bs) (first : (next < length bs) ⊎ (number ≡ 0)) (more : List Chosen) where
    from_branch : (b : Branch) → new ≡ bs ++ b ∷ [] → b.way ≡ w → map chosen_of b.choices.items ≡ cs → GoesOn (offer_of b.offer) more → GoesFrom new next number w (cs ++ more)
    from_branch b same way are g = record {
      place = length bs;
      branch = b;
      there = subst (λ (ks : List Branch). slice_get ks (length bs) ≡ Some b) (sym same) (pushed_last bs b);
      way = way;
      choice = g.choice;
      left = new_left next number (length bs) g.choice within first;
      below = g.below;
      rest = g.rest;
      parts = ap (λ (ds : List Chosen). ds ++ more) (sym are) ∙ ap (λ (ms : List Chosen). map chosen_of b.choices.items ++ ms) g.parts;
    }

    -- what goes on from the choices whose run was made goes on from the new branch
    pub from_new : IsGone x a bs w cs new → IsSought x a w (cs ++ more) → GoesFrom new next number w (cs ++ more)
    from_new (Over same none) s = absurd (none more s)
    from_new (Open b same way are is) s =
        let there = subst (λ (v : ℕ). IsSought x a v (cs ++ more)) (sym way) s in
        from_branch b same way are (goes_on x a ok b is more (subst (λ (ds : List Chosen). IsSought x a b.way (ds ++ more)) (sym are) there))
