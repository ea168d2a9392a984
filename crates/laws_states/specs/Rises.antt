-- How the status of a call goes on: it only rises, and an end stays.
use Rattle.std.specs.Prelude.{Bool, List, None, Option, Some, false, true, ℕ, ◌≡◌, ◌≤◌}
use Rattle.laws_states.specs.Settings.{Reached}
use Rattle.machine_data.specs.Core.{Core, State}
use Rattle.machine_data.specs.Maps.{get}
use Rattle.machine_data.specs.Read.{is_async_lifted}
use Rattle.machine_data.specs.declared.label.Label.{Label}
use Rattle.machine_data.specs.declared.records.Call.{Call}
use Rattle.machine_data.specs.declared.records.CallEnd.{CallEnd}
use Rattle.machine_data.specs.declared.records.Thread.{Thread}
use Rattle.machine_data.specs.declared.statuses.Status.{Status}
use Rattle.machine_rules.specs.Laws.{LaterBy}
use Rattle.machine_rules.specs.Run.{Run}
use Rattle.machine_rules.specs.Stalled.{Setting}
use Rattle.machine_rules.specs.Step.{Step}
use Rattle.machine_data.specs.declared.records.CallEnd.TheVariants as call_end
use Rattle.machine_data.specs.declared.statuses.Status.TheVariants as status

-- ---- The status of a call

abbrev pub status_before_end : Bool → Status
status_before_end false = status.Starting
status_before_end true = status.Started

abbrev pub status_with : Option CallEnd → Bool → Status
status_with None started = status_before_end started
status_with (Some call_end.Returned) started = status.Returned
status_with (Some call_end.StartCancelled) started = status.StartCancelled
status_with (Some call_end.ReturnCancelled) started = status.ReturnCancelled

-- how far the call has come
abbrev pub status_of : Call → Status
status_of c = status_with c.«end» c.started

-- Starting is below Started, and that is below each end
abbrev pub rank : Status → ℕ
rank status.Starting = 0
rank status.Started = 1
rank _ = 2

-- From c to d the end stays, a start that has run has run, the status is the same or a higher one, and a call whose start has run doesn't
-- come to StartCancelled.
pub record Rises (c d : Call) : Type 0 where
  pub end_stays : (e : CallEnd) → c.«end» ≡ Some e → d.«end» ≡ Some e
  pub start_stays : c.started ≡ true → d.started ≡ true
  pub rises : rank (status_of c) ≤ rank (status_of d)
  pub withdrawn_first : c.started ≡ true → d.«end» ≡ Some call_end.StartCancelled → c.«end» ≡ Some call_end.StartCancelled

-- so does each call that was made; one that is gone doesn't come back
abbrev pub CallsRise : Core → Core → Type 0
CallsRise s t = (k : ℕ) → k ≤ s.made.threads → LaterBy Rises (get s.calls k) (get t.calls k)

-- ---- The laws

-- by each step from a reached state
unfoldable pub StepsRise : Type 0
StepsRise = (x : Setting) (s : State) (l : Label) (t : State) → Reached x s → Step x s l t → CallsRise s.core t.core

-- by each run from a reached state
unfoldable pub RunsRise : Type 0
RunsRise = (x : Setting) (s : State) (ls : List Label) (t : State) → Reached x s → Run x s ls t → CallsRise s.core t.core

-- a task of a sync-lifted export has no cancel request delivered
unfoldable pub SyncNeverCancelled : Type 0
SyncNeverCancelled = (x : Setting) (s : State) → Reached x s → (k : ℕ) (c : Call) → get s.core.calls k ≡ Some c →
    is_async_lifted c.kind ≡ false → c.cancel_delivered ≡ false

-- once such a task has ended its first thread is gone
unfoldable pub SyncEndsLast : Type 0
SyncEndsLast = (x : Setting) (s : State) → Reached x s → (k : ℕ) (c : Call) → get s.core.calls k ≡ Some c → is_async_lifted c.kind ≡ false →
    (e : CallEnd) → c.«end» ≡ Some e → get s.core.threads k ≡ None

-- a thread that isn't the first of its call has a number that names no call
unfoldable pub ExplicitNamesNoCall : Type 0
ExplicitNamesNoCall = (x : Setting) (s : State) → Reached x s → (n : ℕ) (t : Thread) → get s.core.threads n ≡ Some t → t.explicit ≡ true →
    get s.core.calls n ≡ None
