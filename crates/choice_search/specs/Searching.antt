-- What a search has gone through, and what is still ahead of it.
use Rattle.choice_offers.specs.Choices.{chosen_of, offer_of}
use Rattle.choice_run.specs.Chosen.{StopsOpen}
use Rattle.choice_search.specs.Numbered.{choice_at, choice_count, most}
use Rattle.choice_search.specs.Searched.{Explores, IsFound, IsNowhere, is_of}
use Rattle.choice_search.specs.Ways.{host_ways, hosts_at}
use Rattle.choice_search.specs.declared.kinds.Kinds.{Kinds}
use Rattle.choice_search.specs.declared.search.Asked.{Asked}
use Rattle.choice_search.specs.declared.search.Branch.{Branch}
use Rattle.choice_search.specs.declared.search.Explored.TheVariants as explored
use Rattle.choice_search.specs.declared.search.Explored.{Explored}
use Rattle.choice_search.specs.declared.search.NextRun.{NextRun}
use Rattle.choice_search.specs.declared.search.Part.TheVariants as part
use Rattle.choice_search.specs.declared.search.Part.{Part}
use Rattle.choice_search.specs.declared.search.Search.{Search}
use Rattle.laws_choices.specs.ChoiceAnswers.{ComesTo, Reports}
use Rattle.laws_choices.specs.Offer.{Chosen}
use Rattle.machine_data.specs.declared.label.Label.{Label}
use Rattle.machine_data.specs.declared.outcome.Outcome.{Outcome}
use Rattle.machine_data.specs.declared.scenario.ScenarioDef.{ScenarioDef}
use Rattle.machine_rules.specs.Run.{opens}
use Rattle.machine_rules.specs.Scripts.{HasOpen}
use Rattle.machine_rules.specs.Stalled.{setting_of}
use Rattle.std.specs.Prelude.{List, None, Option, Some, [], map, min, slice_get, true, ℕ, ◌+◌, ◌++◌, ◌-◌, ◌<◌, ◌∷◌, ◌≡◌, ◌≤◌, ◌⊎◌, ⊤}
use Rattle.task_run.specs.Headline.{machine_scenario}
use Rattle.task_run.specs.Runnable.{IsRunnable}
use Rattle.task_run.specs.declared.scenario.Scenario.{Scenario}

-- ---- What is asked

-- the scenario whose hosts are those of the text
abbrev pub asked_of : Search → Scenario
asked_of s = record s.scenario { component = record s.scenario.component { hosts = s.hosts.items } }

-- the scenario where the hosts answer in this way
abbrev pub at_way : Scenario → Option ℕ → ℕ → Scenario
at_way x polls w = record x { component = record x.component { hosts = hosts_at polls x.component.hosts w } }

abbrev pub def_at : Scenario → Asked → ℕ → ScenarioDef
def_at x a w = machine_scenario (at_way x a.polls w)

-- It can be run, no host is open, and the steps are few.
pub record IsAsked (x : Scenario) (a : Asked) : Type 0 where
  pub runnable : IsRunnable x
  pub closed : HasOpen x.component → ⊥
  pub few : a.steps ≤ 1000000

-- In this way of the hosts the run under the choices comes to what is looked for.
pub record IsSought (x : Scenario) (a : Asked) (w : ℕ) (cs : List Chosen) : Type 0 where
  pub labels : List Label
  pub outcome : Outcome
  pub used : ℕ
  pub comes : ComesTo (setting_of (def_at x a w)) (opens (def_at x a w)) a.steps cs (Reports labels outcome used)
  pub wanted : is_of a.kinds outcome ≡ true

-- ---- What is ahead

-- The branch is a run up to an open step, with what is offered there.
pub record IsBranch (x : Scenario) (a : Asked) (b : Branch) : Type 0 where
  pub labels : ℕ
  pub stops : StopsOpen (def_at x a b.way) a.steps (map chosen_of b.choices.items) labels b.offer

-- the choice with number n at branch k is still to be taken
abbrev pub IsLeft : (next number k n : ℕ) → Type 0
IsLeft next number k n = (next < k) ⊎ ((next ≡ k) × (number ≤ n))

-- The choices go on from a branch by one that is still to be taken there.
pub record GoesFrom (bs : List Branch) (next number w : ℕ) (cs : List Chosen) : Type 0 where
  pub place : ℕ
  pub branch : Branch
  pub there : slice_get bs place ≡ Some branch
  pub way : branch.way ≡ w
  pub choice : ℕ
  pub left : IsLeft next number place choice
  pub below : choice < choice_count (offer_of branch.offer)
  pub rest : List Chosen
  pub parts : cs ≡ map chosen_of branch.choices.items ++ choice_at (offer_of branch.offer) choice ∷ rest

-- the search has still to come by these choices in this way: the way isn't begun, or they go on from a branch
abbrev pub IsAhead : (bs : List Branch) (way next number w : ℕ) (cs : List Chosen) → Type 0
IsAhead bs way next number w cs = (way ≤ w) ⊎ GoesFrom bs next number w cs

-- All that is sought is ahead of a search that is there.
pub record HasGone (x : Scenario) (a : Asked) (bs : List Branch) (way next number : ℕ) : Type 0 where
  pub begins : way < most (host_ways a.polls x.component.hosts) → (next ≡ 0) × (number ≡ 0)
  pub branches : (k : ℕ) (b : Branch) → slice_get bs k ≡ Some b → IsBranch x a b
  pub ahead : (w : ℕ) (cs : List Chosen) → w < host_ways a.polls x.component.hosts → IsSought x a w cs → IsAhead bs way next number w cs

-- The second search goes on for what is asked of the first one.
pub record IsSame (first now : Search) : Type 0 where
  pub scenario : asked_of now ≡ asked_of first
  pub asked : now.asked ≡ first.asked
  pub budget : now.budget ≡ first.budget

-- All that the first search seeks is ahead of the second one.
pub record Searches (first now : Search) : Type 0 where
  pub same : IsSame first now
  pub asks : IsAsked (asked_of first) first.asked
  pub gone : HasGone (asked_of first) first.asked now.branches.items now.way now.next now.number

-- The search begins, for this.
pub record BeginsSearch (x : Scenario) (steps : ℕ) (polls : Option ℕ) (kinds : Kinds) (budget : ℕ) (s : Search) : Type 0 where
  pub scenario : asked_of s ≡ x
  pub asked : s.asked ≡ record { steps = steps; polls = polls; kinds = kinds }
  pub budget_is : s.budget ≡ budget
  pub searches : Searches s s

-- ---- What a run does

-- so many labels may the next run have
abbrev pub IsLimit : Search → ℕ → Type 0
IsLimit s n = n ≡ min s.asked.steps s.left

-- After the run of these choices in this way the branches are these: either no run that goes on from them is sought, or there is one
-- branch more, from which they all go on.
pub data IsGone (x : Scenario) (a : Asked) (bs : List Branch) (w : ℕ) (cs : List Chosen) (new : List Branch) : Type 0 where
  Over : new ≡ bs → ((more : List Chosen) → IsSought x a w (cs ++ more) → ⊥) → IsGone x a bs w cs new
  Open : (b : Branch) → new ≡ bs ++ b ∷ [] → b.way ≡ w → map chosen_of b.choices.items ≡ cs → IsBranch x a b → IsGone x a bs w cs new

-- The run was made, and the search is where it was.
pub record HasMade (old : Search) (w : ℕ) (cs : List Chosen) (new : Search) : Type 0 where
  pub same : IsSame old new
  pub way : new.way ≡ old.way
  pub next : new.next ≡ old.next
  pub number : new.number ≡ old.number
  pub gone : IsGone (asked_of old) old.asked old.branches.items w cs new.branches.items

abbrev pub FindsFor : Search → Part → Search → Type 0
FindsFor old part.GoesOn new = ⊤
FindsFor old part.All new = IsNowhere (machine_scenario (asked_of old)) old.asked.steps old.asked.polls old.asked.kinds
FindsFor old (part.Finds f) new = IsFound (machine_scenario (asked_of old)) old.asked.steps old.asked.polls old.asked.kinds f
FindsFor old part.Cuts new = (new.budget ≡ old.budget) × (new.left ≡ 0)

-- what came of the run of these choices in this way
abbrev pub Makes : Search → ℕ → List Chosen → Part → Search → Type 0
Makes old w cs part.GoesOn new = HasMade old w cs new
Makes old w cs p new = FindsFor old p new

-- what came of a part of the search
abbrev pub Parts : Search → Part → Search → Type 0
Parts old part.GoesOn new = Searches old new
Parts old p new = FindsFor old p new

-- what a search has come to, if it has: if it was cut, no label is left; it goes on for the same else
abbrev pub Comes : Search → Option Explored → Search → Type 0
Comes old None new = Searches old new
Comes old (Some (explored.Cut n)) new = (n ≡ old.budget) × (new.left ≡ 0)
Comes old (Some e) new = Explores (machine_scenario (asked_of old)) old.asked.steps old.asked.polls old.asked.kinds old.budget e

-- ---- Which run is next

-- The run takes the next choice at this branch.
pub record IsRunFrom (s : Search) (b : Branch) (run : NextRun) : Type 0 where
  pub there : slice_get s.branches.items s.next ≡ Some b
  pub way : run.way ≡ b.way
  pub choices : map chosen_of run.choices.items ≡ map chosen_of b.choices.items ++ choice_at (offer_of b.offer) s.number ∷ []
  pub count : run.count ≡ most (choice_count (offer_of b.offer))

abbrev pub IsNextRun : Search → Option NextRun → Type 0
IsNextRun s None = slice_get s.branches.items s.next ≡ None
IsNextRun s (Some run) = (b : Branch) × IsRunFrom s b run

-- What is gone through is still counted.
pub record HasPlace (s : Search) : Type 0 where
  pub way : s.way < 18446744073709551615
  pub next : s.next < 18446744073709551615
  pub number : s.number < 18446744073709551615

-- the next place: the next choice of so many, or else the first one of the next branch
abbrev pub IsAfter : (count next number next_new number_new : ℕ) → Type 0
IsAfter count next number k n =
    ((k ≡ next) × (n ≡ number + 1)) ⊎
    ((k ≡ next + 1) × ((n ≡ 0) × ((count < 18446744073709551615) × (count ≤ number + 1))))

-- The place is the next one, and all else is as before.
pub record IsGoneOn (count : ℕ) (old new : Search) : Type 0 where
  pub after : IsAfter count old.next old.number new.next new.number
  pub rest : new ≡ record old { next = new.next; number = new.number }
