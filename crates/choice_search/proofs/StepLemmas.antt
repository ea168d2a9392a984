-- What came of a part of the search.
use Rattle.choice_offers.specs.Choices.{chosen_of, offer_of}
use Rattle.choice_search.proofs.AheadLemmas.{gone_first, gone_tree, gone_way, nowhere}
use Rattle.choice_search.specs.Numbered.{choice_at, choice_count, most}
use Rattle.choice_search.specs.Searched.{Explores, IsFound, IsNowhere}
use Rattle.choice_search.specs.Searching.{BeginsSearch, Comes, FindsFor, HasGone, HasMade, HasPlace, IsAfter, IsAsked, IsGone, IsGoneOn, IsRunFrom, IsSame, Makes, Parts, Searches, asked_of}
use Rattle.choice_search.specs.Ways.{host_ways}
use Rattle.choice_search.specs.declared.kinds.Kinds.{Kinds}
use Rattle.choice_search.specs.declared.search.Asked.{Asked}
use Rattle.choice_search.specs.declared.search.Branch.{Branch}
use Rattle.choice_search.specs.declared.search.Explored.TheVariants as said
use Rattle.choice_search.specs.declared.search.Explored.{Explored}
use Rattle.choice_search.specs.declared.search.Found.{Found}
use Rattle.choice_search.specs.declared.search.NextRun.{NextRun}
use Rattle.choice_search.specs.declared.search.Part.TheVariants as part
use Rattle.choice_search.specs.declared.search.Part.{Part}
use Rattle.choice_search.specs.declared.search.Search.{Search}
use Rattle.laws_choices.specs.Offer.{Chosen}
use Rattle.machine_data.specs.declared.component.HostDef.{HostDef}
use Rattle.std.proofs.Common.{ap, arith, refl, subst, sym, ◌∙◌}
use Rattle.std.specs.Prelude.{List, None, Option, Some, [], map, slice_get, ℕ, ◌+◌, ◌++◌, ◌<◌, ◌∷◌, ◌≡◌, ◌≤◌}
use Rattle.task_run.specs.Headline.{machine_scenario}
use Rattle.task_run.specs.declared.scenario.Scenario.{Scenario}

-- ---- Searches for the same

pub same_self : (s : Search) → IsSame s s
same_self s = record { scenario = refl; asked = refl; budget = refl }

pub same_on : (r s t : Search) → IsSame r s → IsSame s t → IsSame r t
same_on r s t a b = record { scenario = b.scenario ∙ a.scenario; asked = b.asked ∙ a.asked; budget = b.budget ∙ a.budget }

module _ (r s : Search) (same : IsSame r s) where
  pub asks_on : IsAsked (asked_of r) r.asked → IsAsked (asked_of s) s.asked
  asks_on asks = subst (λ (a : Asked). IsAsked (asked_of s) a) (sym same.asked) (subst (λ (x : Scenario). IsAsked x r.asked) (sym same.scenario) asks)

  gone_on : (bs : List Branch) (way next number : ℕ) → HasGone (asked_of r) r.asked bs way next number → HasGone (asked_of s) s.asked bs way next number
  gone_on bs way next number gone =
      subst (λ (a : Asked). HasGone (asked_of s) a bs way next number) (sym same.asked) (subst (λ (x : Scenario). HasGone x r.asked bs way next number) (sym same.scenario) gone)

  gone_back : (bs : List Branch) (way next number : ℕ) → HasGone (asked_of s) s.asked bs way next number → HasGone (asked_of r) r.asked bs way next number
  gone_back bs way next number gone =
      subst (λ (a : Asked). HasGone (asked_of r) a bs way next number) same.asked (subst (λ (x : Scenario). HasGone x s.asked bs way next number) same.scenario gone)

  pub nowhere_back : IsNowhere (machine_scenario (asked_of s)) s.asked.steps s.asked.polls s.asked.kinds → IsNowhere (machine_scenario (asked_of r)) r.asked.steps r.asked.polls r.asked.kinds
  nowhere_back none =
      subst (λ (a : Asked). IsNowhere (machine_scenario (asked_of r)) a.steps a.polls a.kinds) same.asked
      (subst (λ (x : Scenario). IsNowhere (machine_scenario x) s.asked.steps s.asked.polls s.asked.kinds) same.scenario none)

  pub found_back : (f : Found) → IsFound (machine_scenario (asked_of s)) s.asked.steps s.asked.polls s.asked.kinds f → IsFound (machine_scenario (asked_of r)) r.asked.steps r.asked.polls r.asked.kinds f
  found_back f is =
      subst (λ (a : Asked). IsFound (machine_scenario (asked_of r)) a.steps a.polls a.kinds f) same.asked
      (subst (λ (x : Scenario). IsFound (machine_scenario x) s.asked.steps s.asked.polls s.asked.kinds f) same.scenario is)

pub searches_self : (r s : Search) → Searches r s → Searches s s
searches_self r s h = record { same = same_self s; asks = asks_on r s h.same h.asks; gone = gone_on r s h.same s.branches.items s.way s.next s.number h.gone }

pub searches_on : (r s t : Search) → Searches r s → Searches s t → Searches r t
searches_on r s t h i = record { same = same_on r s t h.same i.same; asks = h.asks; gone = gone_back r s h.same t.branches.items t.way t.next t.number i.gone }

-- ---- A run with other hosts

abbrev pub with_list : Search → List HostDef → Scenario
with_list s hs = record s.scenario { component = record s.scenario.component { hosts = hs } }

pub made_same : (old new : Search) (hs : List HostDef) (w : ℕ) (cs : List Chosen) (p : Part) → Makes (record old { scenario = with_list old hs }) w cs p new → Makes old w cs p new
made_same old new hs w cs part.GoesOn m = record {
  same = record { scenario = m.same.scenario; asked = m.same.asked; budget = m.same.budget };
  way = m.way;
  next = m.next;
  number = m.number;
  gone = m.gone;
}
made_same old new hs w cs part.All m = m
made_same old new hs w cs (part.Finds f) m = m
made_same old new hs w cs part.Cuts m = m

-- ---- The first run of a way

abbrev pub at_next_way : Search → Search
at_next_way s = record s { way = s.way + 1 }

module _ (old new : Search) (h : Searches old old) (more : old.way < most (host_ways old.asked.polls old.hosts.items)) where
  first_goes : HasMade (at_next_way old) old.way [] new → Searches old new
  first_goes m = record {
    same = record { scenario = m.same.scenario; asked = m.same.asked; budget = m.same.budget };
    asks = h.asks;
    gone =
        subst (λ (n : ℕ). HasGone (asked_of old) old.asked new.branches.items new.way new.next n) (sym m.number)
        (subst (λ (k : ℕ). HasGone (asked_of old) old.asked new.branches.items new.way k old.number) (sym m.next)
        (subst (λ (w : ℕ). HasGone (asked_of old) old.asked new.branches.items w old.next old.number) (sym m.way)
        (gone_way (asked_of old) old.asked h.asks old.branches.items new.branches.items old.way old.next old.number h.gone more m.gone)));
  }

  pub first_parts : (p : Part) → Makes (at_next_way old) old.way [] p new → Parts old p new
  first_parts part.GoesOn m = first_goes m
  first_parts part.All m = m
  first_parts (part.Finds f) m = m
  first_parts part.Cuts m = m

-- ---- A run of the tree

pub mid_same : (old mid : Search) (run : NextRun) → IsGoneOn run.count old mid → IsSame old mid
mid_same old mid run after = record { scenario = ap (λ (s : Search). asked_of s) after.rest; asked = ap (λ (s : Search). s.asked) after.rest; budget = ap (λ (s : Search). s.budget) after.rest }

module _ (old mid new : Search) (h : Searches old old) (run : NextRun) (b : Branch) (from : IsRunFrom old b run) (after : IsGoneOn run.count old mid) where
  same_mid : IsSame old mid
  same_mid = mid_same old mid run after

  place : IsAfter (most (choice_count (offer_of b.offer))) old.next old.number mid.next mid.number
  place = subst (λ (n : ℕ). IsAfter n old.next old.number mid.next mid.number) from.count after.after

  gone_by : IsGone (asked_of mid) mid.asked mid.branches.items run.way (map chosen_of run.choices.items) new.branches.items →
      IsGone (asked_of old) old.asked old.branches.items b.way (map chosen_of b.choices.items ++ choice_at (offer_of b.offer) old.number ∷ []) new.branches.items
  gone_by g =
      subst (λ (ds : List Chosen). IsGone (asked_of old) old.asked old.branches.items b.way ds new.branches.items) from.choices
      (subst (λ (w : ℕ). IsGone (asked_of old) old.asked old.branches.items w (map chosen_of run.choices.items) new.branches.items) from.way
      (subst (λ (bs : List Branch). IsGone (asked_of old) old.asked bs run.way (map chosen_of run.choices.items) new.branches.items) (ap (λ (s : Search). s.branches.items) after.rest)
      (subst (λ (a : Asked). IsGone (asked_of old) a mid.branches.items run.way (map chosen_of run.choices.items) new.branches.items) same_mid.asked
      (subst (λ (x : Scenario). IsGone x mid.asked mid.branches.items run.way (map chosen_of run.choices.items) new.branches.items) same_mid.scenario g))))

  module _ (all : most (host_ways old.asked.polls old.hosts.items) ≤ old.way) where
    tree_goes : HasMade mid run.way (map chosen_of run.choices.items) new → Searches old new
    tree_goes m = record {
      same = same_on old mid new same_mid m.same;
      asks = h.asks;
      gone =
          subst (λ (n : ℕ). HasGone (asked_of old) old.asked new.branches.items new.way new.next n) (sym m.number)
          (subst (λ (k : ℕ). HasGone (asked_of old) old.asked new.branches.items new.way k mid.number) (sym m.next)
          (subst (λ (w : ℕ). HasGone (asked_of old) old.asked new.branches.items w mid.next mid.number) (sym (m.way ∙ ap (λ (s : Search). s.way) after.rest))
          (gone_tree (asked_of old) old.asked h.asks old.branches.items new.branches.items old.way old.next old.number h.gone b from.there (gone_by m.gone) mid.next mid.number place all)));
    }

    pub tree_parts : (p : Part) → Makes mid run.way (map chosen_of run.choices.items) p new → Parts old p new
    tree_parts part.GoesOn m = tree_goes m
    tree_parts part.All m = nowhere_back old mid same_mid m
    tree_parts (part.Finds f) m = found_back old mid same_mid f m
    tree_parts part.Cuts m = (m.0 ∙ same_mid.budget, m.1)

pub none_parts : (old : Search) → Searches old old → most (host_ways old.asked.polls old.hosts.items) ≤ old.way → HasPlace old → slice_get old.branches.items old.next ≡ None →
    IsNowhere (machine_scenario (asked_of old)) old.asked.steps old.asked.polls old.asked.kinds
none_parts old h all place end = nowhere (asked_of old) old.asked h.asks old.branches.items old.way old.next old.number h.gone all place.way end

-- ---- A search from its beginning

pub begun : (s : Search) → IsAsked (asked_of s) s.asked → s.branches.items ≡ [] → s.way ≡ 0 → s.next ≡ 0 → s.number ≡ 0 → Searches s s
begun s asks none way next number = record {
  same = same_self s;
  asks = asks;
  gone =
      subst (λ (n : ℕ). HasGone (asked_of s) s.asked s.branches.items s.way s.next n) (sym number)
      (subst (λ (k : ℕ). HasGone (asked_of s) s.asked s.branches.items s.way k 0) (sym next)
      (subst (λ (w : ℕ). HasGone (asked_of s) s.asked s.branches.items w 0 0) (sym way)
      (subst (λ (bs : List Branch). HasGone (asked_of s) s.asked bs 0 0 0) (sym none) (gone_first (asked_of s) s.asked))));
}

explores : (x : Scenario) (steps : ℕ) (polls : Option ℕ) (kinds : Kinds) (budget : ℕ) (s : Search) → BeginsSearch x steps polls kinds budget s → (e : Explored) →
    Explores (machine_scenario (asked_of s)) s.asked.steps s.asked.polls s.asked.kinds s.budget e → Explores (machine_scenario x) steps polls kinds budget e
explores x steps polls kinds budget s b e is =
    subst (λ (n : ℕ). Explores (machine_scenario x) steps polls kinds n e) b.budget_is
    (subst (λ (a : Asked). Explores (machine_scenario x) a.steps a.polls a.kinds s.budget e) b.asked
    (subst (λ (y : Scenario). Explores (machine_scenario y) s.asked.steps s.asked.polls s.asked.kinds s.budget e) b.scenario is))

pub explored : (x : Scenario) (steps : ℕ) (polls : Option ℕ) (kinds : Kinds) (budget : ℕ) (s new : Search) → BeginsSearch x steps polls kinds budget s → (e : Explored) → Comes s (Some e) new →
    Explores (machine_scenario x) steps polls kinds budget e
explored x steps polls kinds budget s new b (said.Found f) is = explores x steps polls kinds budget s b (said.Found f) is
explored x steps polls kinds budget s new b (said.None n) is = explores x steps polls kinds budget s b (said.None n) is
explored x steps polls kinds budget s new b (said.Cut n) is = explores x steps polls kinds budget s b (said.Cut n) is.0
