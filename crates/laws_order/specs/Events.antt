-- What calls tell: how far a call has come, and that each status is told once, a later one being higher.
use Rattle.std.specs.Prelude.{ℕ, true, false, if◌then◌else◌, is_some, List, Some, ◌≡◌, ◌<◌, ◌≤◌, ◌⊎◌}
use Rattle.laws_states.specs.Settings.{Reached}
use Rattle.machine_data.specs.Core.{State}
use Rattle.machine_data.specs.Maps.{get}
use Rattle.machine_data.specs.Read.{was_started}
use Rattle.machine_data.specs.declared.label.Label.{Label}
use Rattle.machine_data.specs.declared.records.Call.{Call}
use Rattle.machine_data.specs.declared.records.Thread.{Thread}
use Rattle.machine_data.specs.declared.statuses.Status.{Status}
use Rattle.machine_data.specs.declared.statuses.Status.TheVariants as status
use Rattle.machine_rules.specs.Laws.{LaterBy}
use Rattle.machine_rules.specs.Places.{is_fresh}
use Rattle.machine_rules.specs.Run.{Run}
use Rattle.machine_rules.specs.Stalled.{Setting}
use Rattle.machine_rules.specs.Step.{Step}

-- how far a call has come: nothing was told of it yet, Starting was, it has started, it has ended
abbrev pub level : Call → ℕ
level c = if is_some c.«end» then 3 else if c.started then 2 else if c.starting_published then 1 else 0

-- how far the status says that a call has come
abbrev pub level_of : Status → ℕ
level_of status.Starting = 1
level_of status.Started = 2
level_of _ = 3

-- a call whose first thread waits for its start hasn't started
unfoldable pub StartsUnstarted : Type 0
StartsUnstarted = (x : Setting) (s : State) → Reached x s → (k : ℕ) (t : Thread) → get s.core.threads k ≡ Some t → t.explicit ≡ false →
    is_fresh (Some t.place) ≡ true → was_started k s.core ≡ false

-- what a call has to hand out it has resulted in
unfoldable pub EventsReached : Type 0
EventsReached = (x : Setting) (s : State) → Reached x s → (k : ℕ) (c : Call) → get s.core.calls k ≡ Some c → (e : Status) →
    c.event ≡ Some e → level_of e ≤ level c

-- From c to d the call goes no way back, and what it has to hand out it had before, or hadn't come to.
pub record TellsHigher (c d : Call) : Type 0 where
  pub rises : level c ≤ level d
  pub told : (e : Status) → d.event ≡ Some e → (c.event ≡ Some e) ⊎ (level c < level_of e)

unfoldable pub StepsTellHigher : Type 0
StepsTellHigher = (x : Setting) (s : State) (l : Label) (t : State) → Reached x s → Step x s l t → (k : ℕ) → k ≤ s.core.made.threads →
    LaterBy TellsHigher (get s.core.calls k) (get t.core.calls k)

unfoldable pub RunsTellHigher : Type 0
RunsTellHigher = (x : Setting) (s : State) (ls : List Label) (t : State) → Reached x s → Run x s ls t → (k : ℕ) → k ≤ s.core.made.threads →
    LaterBy TellsHigher (get s.core.calls k) (get t.core.calls k)
