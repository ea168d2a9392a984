-- What a step tells the groups, by the groups of the turn before it.
use Rattle.laws_labels.specs.Own.{is_data, is_main_turn}
use Rattle.std.specs.List.{list_all}
use Rattle.std.specs.Prelude.{Bool, List, None, Option, Some, [], false, option_and_then, true, ℕ, ◌++◌, ◌≡◌, ◌≤◌}
use Rattle.machine_data.specs.Core.{Core, Main, State}
use Rattle.machine_data.specs.Maps.{get}
use Rattle.machine_data.specs.Read.{next_entry, thread_group}
use Rattle.machine_data.specs.declared.label.Label.{Label}
use Rattle.machine_data.specs.declared.label.Label.TheVariants as label
use Rattle.machine_data.specs.declared.label.MainLabel.{MainLabel}
use Rattle.machine_data.specs.declared.label.MainLabel.TheVariants as main_label
use Rattle.machine_data.specs.declared.records.Call.{Call}
use Rattle.machine_data.specs.declared.records.Entry.{Entry}
use Rattle.machine_data.specs.declared.records.Entry.TheVariants as entry
use Rattle.machine_data.specs.declared.records.Thread.{Thread}
use Rattle.machine_data.specs.declared.records.Turn.{Turn}
use Rattle.machine_data.specs.declared.records.Turn.TheVariants as turn
use Rattle.machine_data.specs.declared.statuses.Mark.{Mark}
use Rattle.machine_rules.specs.Calls.{work_group}
use Rattle.machine_rules.specs.Laws.{Steady}
use Rattle.machine_rules.specs.History.{history}
use Rattle.machine_rules.specs.Notices.{around, finish_notices, moment_notices, notices, of_live, running_group, start_notices, switch_notices, work_notices}
use Rattle.machine_rules.specs.Run.{Run}
use Rattle.machine_rules.specs.Stalled.{Setting}
use Rattle.machine_rules.specs.Step.{MainStep, Step}
use Rattle.machine_rules.specs.Works.{next_polled}

-- the group of the host call whose entry is taken
abbrev pub entry_group : Option (Mark × Entry) → Core → Option ℕ
entry_group (Some (m, entry.Host i)) s = work_group i s
entry_group _ s = None

-- the group of the work that the loop polls in the turn, or whose entry it takes
abbrev pub worked_group : Core → Turn → Option ℕ
worked_group s (turn.Futures n) = option_and_then (λ i. work_group i s) (next_polled n s)
worked_group s (turn.Take ended) = entry_group (next_entry s) s
worked_group s _ = None

-- No group is made. What is told of a work is told of the one that the turn works on.
pub record Tells (s : State) (l : Label) (t : State) : Type 0 where
  pub starts : start_notices l t.core ≡ []
  pub works : work_notices l s.core ≡ around (worked_group s.core s.turn)

-- so it is in each turn but main's
abbrev pub StepsTell : Type 0
StepsTell = (x : Setting) (s : State) (l : Label) (t : State) → Step x s l t → is_main_turn s.turn ≡ false → Tells s l t

-- a step with such a label tells nothing, and the thread runs on
abbrev pub DataTellsNothing : Type 0
DataTellsNothing =
    (x : Setting) (s : State) (l : Label) (t : State) (n : ℕ) → Step x s l t → s.turn ≡ turn.Run n → is_data l ≡ true →
    (t.turn ≡ turn.Run n) × (moment_notices (record { before = s; label = l; after = t }) ≡ [])

-- a run of such labels from a thread's turn tells nothing
abbrev pub DataRunsTellNothing : Type 0
DataRunsTellNothing =
    (x : Setting) (s : State) (ls : List Label) (t : State) (n : ℕ) (run : Run x s ls t) → s.turn ≡ turn.Run n →
    list_all is_data ls ≡ true → notices (history x s ls t run) ≡ []

-- one more step, and one more run: what is told is told one after another
abbrev pub RunsTellOn : Type 0
RunsTellOn =
    (x : Setting) (s : State) (ls : List Label) (m : State) (ks : List Label) (t : State) (run : Run x s ls m) (more : Run x m ks t) →
    (both : Run x s (ls ++ ks) t) ×
    (notices (history x s (ls ++ ks) t both) ≡ notices (history x s ls m run) ++ notices (history x m ks t more))

-- a start by main, made or refused
abbrev pub is_start_op : MainLabel → Bool
is_start_op (main_label.Start k n) = true
is_start_op (main_label.StartRefused w k) = true
is_start_op _ = false

abbrev pub is_start : Label → Bool
is_start (label.Main l) = is_start_op l
is_start _ = false

-- the other ops of main leave the groups
abbrev pub MainSpares : Type 0
MainSpares = (x : Setting) (s : State) (m : Main) (l : Label) (t : State) → MainStep x s m l t → is_start l ≡ false →
    t.core.groups ≡ s.core.groups

-- a thread that is there before and after, as its call is, is of the same group
abbrev pub GroupStays : Type 0
GroupStays =
    (s t : Core) (n : ℕ) → Steady s t →
    (a : Thread) → get s.threads n ≡ Some a → n ≤ s.made.threads → a.call ≤ s.made.threads →
    (b : Thread) → get t.threads n ≡ Some b →
    (c : Call) → get s.calls a.call ≡ Some c → (d : Call) → get t.calls b.call ≡ Some d →
    thread_group n t ≡ thread_group n s

-- the notices of such a step
abbrev pub NoticesTold : Type 0
NoticesTold =
    (x : Setting) (s : State) (l : Label) (t : State) → Step x s l t → is_main_turn s.turn ≡ false →
    moment_notices (record { before = s; label = l; after = t }) ≡
    of_live s.core.groups
    (switch_notices (running_group s.core s.turn) (running_group t.core t.turn) ++ around (worked_group s.core s.turn))
    ++ finish_notices s.core.groups t.core.groups
