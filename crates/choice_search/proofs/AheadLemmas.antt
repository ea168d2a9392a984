-- What is ahead of a search after a run, and where it begins and ends.
use Rattle.choice_offers.specs.Choices.{chosen_of, offer_of}
use Rattle.choice_search.proofs.AskedLemmas.{reported, way_closed, way_runnable}
use Rattle.choice_search.proofs.GoneLemmas.{all_branches, from_new, still_there}
use Rattle.choice_search.proofs.WayLemmas.{way_number}
use Rattle.choice_search.specs.Numbered.{choice_at, choice_count, most}
use Rattle.choice_search.specs.Searched.{AnswerAs, IsNowhere, is_of, with_hosts}
use Rattle.choice_search.specs.Searching.{GoesFrom, HasGone, IsAfter, IsAhead, IsAsked, IsGone, IsLeft, IsSought, at_way, def_at}
use Rattle.choice_search.specs.Ways.{host_ways, hosts_at}
use Rattle.choice_search.specs.declared.search.Asked.{Asked}
use Rattle.choice_search.specs.declared.search.Branch.{Branch}
use Rattle.laws_choices.specs.Offer.{Chosen}
use Rattle.machine_data.specs.Core.{State}
use Rattle.machine_data.specs.declared.component.HostDef.{HostDef}
use Rattle.machine_data.specs.declared.label.Label.{Label}
use Rattle.machine_data.specs.declared.outcome.Outcome.{Outcome}
use Rattle.machine_rules.specs.Outcome.{IsOutcome}
use Rattle.machine_rules.specs.Run.{Run, opens}
use Rattle.machine_rules.specs.Stalled.{setting_of}
use Rattle.std.proofs.Common.{ap, append_assoc, arith, inl, inr, refl, subst, sym, ◌∙◌}
use Rattle.std.proofs.lemmas.Bool.Decides.{nat_tests}
use Rattle.std.proofs.lemmas.Bool.{eqb-true}
use Rattle.std.proofs.lemmas.Option.{slice_get_within}
use Rattle.std.specs.Prelude.{Bool, List, None, Option, Some, [], false, length, map, min, slice_get, suc, true, zero, ℕ, ◌+◌, ◌++◌, ◌<◌, ◌==◌, ◌∷◌, ◌≡◌, ◌≤◌, ◌⊎◌}
use Rattle.task_run.specs.Headline.{machine_scenario}
use Rattle.task_run.specs.declared.scenario.Scenario.{Scenario}

same_some : (a b : Branch) → Some a ≡ Some b → a ≡ b
same_some a b e = cc

-- where the choice at a place is after one more step
after_less : (count next number k n place choice : ℕ) → IsAfter count next number k n → next < place → IsLeft k n place choice
after_less count next number k n place choice (inl a) less = inl (let same = a.0 in omega (arith, same, less))
after_less count next number k n place choice (inr a) less = by (next + 1 == place) refl
  where
    by : (b : Bool) → (next + 1 == place) ≡ b → IsLeft k n place choice
    by true e = inr (a.0 ∙ eqb-true (next + 1) place e, let none = a.1.0 in omega (arith, none))
    by false e = inl (let same = a.0 in let apart : next + 1 < place = grind (arith, nat_tests, less, e) in omega (arith, same, apart))

after_here : (total next number k n place choice : ℕ) → IsAfter (most total) next number k n → choice < total → next ≡ place → number < choice → IsLeft k n place choice
after_here total next number k n place choice (inl a) below here less = inr (a.0 ∙ here, let one = a.1 in omega (arith, one, less))
after_here total next number k n place choice (inr a) below here less =
    absurd (let few = a.1.1.0 in let all = a.1.1.1 in omega (arith, few, all, less, below))

module _ (x : Scenario) (a : Asked) (ok : IsAsked x a) (bs new : List Branch) (way next number : ℕ) (old : HasGone x a bs way next number) where
  -- ---- The next run of the tree

  module _ (b : Branch) (here : slice_get bs next ≡ Some b) (gone : IsGone x a bs b.way (map chosen_of b.choices.items ++ choice_at (offer_of b.offer) number ∷ []) new)
      (k n : ℕ) (after : IsAfter (most (choice_count (offer_of b.offer))) next number k n) where
    inside : next < length bs
    inside = slice_get_within bs next b here

    within : k ≤ length bs
    within = by after
      where
        by : IsAfter (most (choice_count (offer_of b.offer))) next number k n → k ≤ length bs
        by (inl a) = let same = a.0 in let lt = inside in omega (arith, same, lt)
        by (inr a) = let same = a.0 in let lt = inside in omega (arith, same, lt)

    first : (k < length bs) ⊎ (n ≡ 0)
    first = by after
      where
        by : IsAfter (most (choice_count (offer_of b.offer))) next number k n → (k < length bs) ⊎ (n ≡ 0)
        by (inl a) = inl (let same = a.0 in let lt = inside in omega (arith, same, lt))
        by (inr a) = inr a.1.0

    at_branch : (w : ℕ) (cs : List Chosen) (g : GoesFrom bs next number w cs) → next ≡ g.place → b ≡ g.branch
    at_branch w cs g same = same_some b g.branch (sym here ∙ (ap (λ (i : ℕ). slice_get bs i) same ∙ g.there))

    later : (w : ℕ) (cs : List Chosen) (g : GoesFrom bs next number w cs) → IsLeft k n g.place g.choice → GoesFrom new k n w cs
    later w cs g left = record {
      place = g.place;
      branch = g.branch;
      there = still_there x a bs new b.way _ gone g.place g.branch g.there;
      way = g.way;
      choice = g.choice;
      left = left;
      below = g.below;
      rest = g.rest;
      parts = g.parts;
    }

    made : (w : ℕ) (cs : List Chosen) (g : GoesFrom bs next number w cs) → IsSought x a w cs → b ≡ g.branch → number ≡ g.choice → GoesFrom new k n w cs
    made w cs g s same one =
        let front = map chosen_of b.choices.items ++ choice_at (offer_of b.offer) number ∷ [] in
        let way : b.way ≡ w = ap (λ (d : Branch). d.way) same ∙ g.way in
        let there : cs ≡ map chosen_of b.choices.items ++ choice_at (offer_of b.offer) number ∷ g.rest =
        g.parts ∙ (ap (λ (d : Branch). map chosen_of d.choices.items ++ choice_at (offer_of d.offer) g.choice ∷ g.rest) (sym same)
        ∙ ap (λ (i : ℕ). map chosen_of b.choices.items ++ choice_at (offer_of b.offer) i ∷ g.rest) (sym one)) in
        let parts : cs ≡ front ++ g.rest = there ∙ sym (append_assoc (map chosen_of b.choices.items) (choice_at (offer_of b.offer) number ∷ []) g.rest) in
        let sought = subst (λ (ds : List Chosen). IsSought x a b.way ds) parts (subst (λ (v : ℕ). IsSought x a v cs) (sym way) s) in
        let goes = from_new x a bs new b.way front ok k n within first g.rest gone sought in
        subst (λ (v : ℕ). GoesFrom new k n v cs) way (subst (λ (ds : List Chosen). GoesFrom new k n b.way ds) (sym parts) goes)

    goes_still : (w : ℕ) (cs : List Chosen) (g : GoesFrom bs next number w cs) → IsSought x a w cs → IsLeft next number g.place g.choice → GoesFrom new k n w cs
    goes_still w cs g s (inl less) = later w cs g (after_less _ next number k n g.place g.choice after less)
    goes_still w cs g s (inr there) = by (number == g.choice) refl
      where
        same : b ≡ g.branch
        same = at_branch w cs g there.0

        below : g.choice < choice_count (offer_of b.offer)
        below = subst (λ (d : Branch). g.choice < choice_count (offer_of d.offer)) (sym same) g.below

        by : (t : Bool) → (number == g.choice) ≡ t → GoesFrom new k n w cs
        by true e = made w cs g s same (eqb-true number g.choice e)
        by false e =
            let less : number < g.choice = let least = there.1 in grind (arith, nat_tests, least, e) in
            later w cs g (after_here (choice_count (offer_of b.offer)) next number k n g.place g.choice after below there.0 less)

    tree_ahead : (w : ℕ) (cs : List Chosen) → IsSought x a w cs → IsAhead bs way next number w cs → IsAhead new way k n w cs
    tree_ahead w cs s (inl behind) = inl behind
    tree_ahead w cs s (inr g) = inr (goes_still w cs g s g.left)

    pub gone_tree : most (host_ways a.polls x.component.hosts) ≤ way → HasGone x a new way k n
    gone_tree all = record {
      begins = λ less. absurd (omega (arith, all, less));
      branches = all_branches x a bs new b.way _ gone old.branches;
      ahead = λ w cs below s. tree_ahead w cs s (old.ahead w cs below s);
    }

  -- ---- The next way of the hosts

  module _ (less : way < most (host_ways a.polls x.component.hosts)) (gone : IsGone x a bs way [] new) where
    start : next ≡ 0
    start = (old.begins less).0

    none : number ≡ 0
    none = (old.begins less).1

    way_still : (w : ℕ) (cs : List Chosen) (g : GoesFrom bs next number w cs) → GoesFrom new next number w cs
    way_still w cs g = record {
      place = g.place;
      branch = g.branch;
      there = still_there x a bs new way [] gone g.place g.branch g.there;
      way = g.way;
      choice = g.choice;
      left = g.left;
      below = g.below;
      rest = g.rest;
      parts = g.parts;
    }

    from_way : (cs : List Chosen) → IsSought x a way cs → GoesFrom new next number way cs
    from_way cs s = from_new x a bs new way [] ok next number (let zero = start in omega (arith, zero)) (inr none) cs gone s

    way_ahead : (w : ℕ) (cs : List Chosen) → IsSought x a w cs → IsAhead bs way next number w cs → IsAhead new (way + 1) next number w cs
    way_ahead w cs s (inr g) = inr (way_still w cs g)
    way_ahead w cs s (inl behind) = by (way == w) refl
      where
        by : (t : Bool) → (way == w) ≡ t → IsAhead new (way + 1) next number w cs
        by true e =
            let same : way ≡ w = eqb-true way w e in
            inr (subst (λ (v : ℕ). GoesFrom new next number v cs) same (from_way cs (subst (λ (v : ℕ). IsSought x a v cs) (sym same) s)))
        by false e = inl (grind (arith, nat_tests, behind, e))

    pub gone_way : HasGone x a new (way + 1) next number
    gone_way = record {
      begins = λ more. old.begins less;
      branches = all_branches x a bs new way [] gone old.branches;
      ahead = λ w cs below s. way_ahead w cs s (old.ahead w cs below s);
    }

-- ---- The beginning

pub gone_first : (x : Scenario) (a : Asked) → HasGone x a [] 0 0 0
gone_first x a = record {
  begins = λ less. (refl, refl);
  branches = λ k b at. absurd (cc);
  ahead = λ w cs below s. inl (omega arith);
}

-- ---- The end

past : (bs : List Branch) (k : ℕ) → slice_get bs k ≡ None → length bs ≤ k
past [] k none = omega arith
past (b ∷ bs) zero none = absurd (cc)
past (b ∷ bs) (suc k) none = let rest = past bs k none in omega (arith, rest)

module _ (x : Scenario) (a : Asked) (ok : IsAsked x a) (bs : List Branch) (way next number : ℕ) (old : HasGone x a bs way next number) (all : most (host_ways a.polls x.component.hosts) ≤ way) (few : way < 18446744073709551615)
    (end : slice_get bs next ≡ None) where
  not_ahead : (w : ℕ) (cs : List Chosen) → w < host_ways a.polls x.component.hosts → IsAhead bs way next number w cs → ⊥
  not_ahead w cs below (inl behind) = absurd (omega (arith, all, few, below, behind))
  not_ahead w cs below (inr g) = by g.left
    where
      by : IsLeft next number g.place g.choice → ⊥
      by (inl less) = absurd (let long = past bs next end in let inside = slice_get_within bs g.place g.branch g.there in omega (arith, long, inside, less))
      by (inr here) = absurd (let long = past bs next end in let inside = slice_get_within bs g.place g.branch g.there in let same = here.0 in omega (arith, long, inside, same))

  none_sought : (w : ℕ) → w < host_ways a.polls x.component.hosts → (ls : List Label) (t : State) (o : Outcome) → Run (setting_of (def_at x a w)) (opens (def_at x a w)) ls t → length ls ≤ a.steps →
      IsOutcome (setting_of (def_at x a w)) t ls a.steps o → is_of a.kinds o ≡ false
  none_sought w below ls t o run within is = by (is_of a.kinds o) refl
    where
      by : (b : Bool) → is_of a.kinds o ≡ b → is_of a.kinds o ≡ false
      by false e = e
      by true e =
          let r = reported a.steps (at_way x a.polls w) (way_runnable x a.polls w ok.runnable) (way_closed x a.polls w ok.closed) ls t o run within is in
          absurd (not_ahead w r.0 below (old.ahead w r.0 below (record { labels = ls; outcome = o; used = length r.0; comes = r.1; wanted = e })))

  pub nowhere : IsNowhere (machine_scenario x) a.steps a.polls a.kinds
  nowhere hs answers =
      let n = way_number a.polls x.component.hosts hs answers in
      subst
      (λ (gs : List HostDef). (ls : List Label) (t : State) (o : Outcome) → Run (setting_of (with_hosts gs (machine_scenario x))) (opens (with_hosts gs (machine_scenario x))) ls t → length ls ≤ a.steps →
      IsOutcome (setting_of (with_hosts gs (machine_scenario x))) t ls a.steps o → is_of a.kinds o ≡ false)
      n.is (none_sought n.number n.below)
