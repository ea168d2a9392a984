-- What a search over all runs has come to.
use Rattle.std.specs.Prelude.{Bool, List, [], None, Option, Some, false, length, map, true, ℕ, ◌<◌, ◌∷◌, ◌↔◌, ◌≡◌, ◌≤◌}
use Rattle.choice_search.specs.declared.kinds.Kinds.{Kinds}
use Rattle.choice_search.specs.declared.search.Explored.{Explored}
use Rattle.choice_search.specs.declared.search.Explored.TheVariants as explored
use Rattle.choice_search.specs.declared.search.Found.{Found}
use Rattle.laws_choices.specs.ChoiceAnswers.{ComesTo, Reports}
use Rattle.machine_data.specs.Core.{State}
use Rattle.machine_data.specs.declared.component.HostDef.{HostDef}
use Rattle.machine_data.specs.declared.component.HostDef.TheVariants as host_def
use Rattle.machine_data.specs.declared.label.Label.{Label}
use Rattle.machine_data.specs.declared.outcome.Outcome.{Outcome}
use Rattle.machine_data.specs.declared.outcome.Outcome.TheVariants as outcomes
use Rattle.machine_data.specs.declared.scenario.ScenarioDef.{ScenarioDef}
use Rattle.machine_rules.specs.Outcome.{IsOutcome}
use Rattle.machine_rules.specs.Run.{Run, opens}
use Rattle.machine_rules.specs.Stalled.{setting_of}
use Rattle.choice_offers.specs.Choices.{chosen_of}
use Rattle.choice_search.specs.Ways.{host_ways, hosts_at}

abbrev pub all_kinds : Kinds
all_kinds = record { deadlock = true; trap = true; failed = true; idle = true }

abbrev pub no_kinds : Kinds
no_kinds = record { deadlock = false; trap = false; failed = false; idle = false }

-- the outcome is looked for
abbrev pub is_of : Kinds → Outcome → Bool
is_of k (outcomes.Trap t) = k.trap
is_of k (outcomes.HostFailed i) = k.failed
is_of k (outcomes.Deadlock t) = k.deadlock
is_of k outcomes.Idle = k.idle
is_of k _ = false

-- the run was cut off there
abbrev pub is_cut : Outcome → Bool
is_cut outcomes.OutOfSteps = true
is_cut _ = false

-- A host that answers as the other one does, but, where polls are given and it ends, after any number of polls up to that.
abbrev pub AnswersAs : Option ℕ → HostDef → HostDef → Type 0
AnswersAs (Some most) (host_def.Settled (Some n) v) h = (m : ℕ) × ((m ≤ most) × (h ≡ host_def.Settled (Some m) v))
AnswersAs _ def h = h ≡ def

abbrev pub AnswerAs : Option ℕ → List HostDef → List HostDef → Type 0
AnswerAs polls [] hs = hs ≡ []
AnswerAs polls (d ∷ ds) hs = (h : HostDef) × ((rest : List HostDef) × ((hs ≡ h ∷ rest) × (AnswersAs polls d h × AnswerAs polls ds rest)))

-- the hosts of this way, one of those that there are, are these
pub record IsWay (polls : Option ℕ) (ds hs : List HostDef) : Type 0 where
  pub number : ℕ
  pub below : number < host_ways polls ds
  pub is : hosts_at polls ds number ≡ hs

-- hosts answer as the text's exactly if they are those of a way
unfoldable pub EachIsAWay : Type 0
EachIsAWay = (polls : Option ℕ) (ds hs : List HostDef) → AnswerAs polls ds hs ↔ IsWay polls ds hs

-- the scenario with these hosts
abbrev pub with_hosts : List HostDef → ScenarioDef → ScenarioDef
with_hosts hs x = record x { component = record x.component { hosts = hs } }

-- The run of the scenario with the found hosts, under the found choices, comes to an outcome that is looked for.
pub record IsFound (x : ScenarioDef) (steps : ℕ) (polls : Option ℕ) (kinds : Kinds) (f : Found) : Type 0 where
  pub hosts : AnswerAs polls x.component.hosts f.hosts
  pub comes : ComesTo (setting_of (with_hosts f.hosts x)) (opens (with_hosts f.hosts x)) steps (map chosen_of f.choices.items)
      (Reports f.report.trace.labels f.report.outcome f.report.used)
  pub wanted : is_of kinds f.report.outcome ≡ true

-- no run of the scenario with such hosts of at most so many labels comes to an outcome that is looked for
abbrev pub IsNowhere : ScenarioDef → ℕ → Option ℕ → Kinds → Type 0
IsNowhere x steps polls kinds = (hs : List HostDef) → AnswerAs polls x.component.hosts hs → (ls : List Label) (t : State) (o : Outcome) →
    Run (setting_of (with_hosts hs x)) (opens (with_hosts hs x)) ls t → length ls ≤ steps →
    IsOutcome (setting_of (with_hosts hs x)) t ls steps o → is_of kinds o ≡ false

-- what a search has come to whose budget was so many labels
abbrev pub Explores : ScenarioDef → ℕ → Option ℕ → Kinds → ℕ → Explored → Type 0
Explores x steps polls kinds budget (explored.Found f) = IsFound x steps polls kinds f
Explores x steps polls kinds budget (explored.None runs) = IsNowhere x steps polls kinds
Explores x steps polls kinds budget (explored.Cut labels) = labels ≡ budget
