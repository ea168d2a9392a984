-- The work that a turn works on: its group, as long as that is tracked, and its poll.
use Rattle.laws_labels.specs.Tells.{entry_group, worked_group}
use Rattle.laws_states.specs.Order.{WorksQueued}
use Rattle.std.specs.Prelude.{None, Option, Some, option_and_then, ℕ, ◌≡◌}
use Rattle.machine_data.specs.Core.{Core}
use Rattle.machine_data.specs.declared.records.Entry.{Entry}
use Rattle.machine_data.specs.declared.records.Turn.{Turn}
use Rattle.machine_data.specs.declared.records.Turn.TheVariants as turn
use Rattle.machine_data.specs.declared.statuses.Mark.{Mark}
use Rattle.machine_rules.specs.Places.{Placed}
use Rattle.machine_rules.specs.Works.{next_polled, poll_of}
use Rattle.ops_guests.specs.PolledWorks.{PolledTo, TellsPoll}
use Rattle.ops_guests.specs.declared.work_ops.PollNews.{PollNews}
use Rattle.ops_turns.specs.Turn.{IsSettled}
use Rattle.core_primitives.specs.Groups.{some_if_tracked}
use Rattle.core_primitives.specs.StateView.{StateView}

abbrev pub tracked_worked_group : StateView → Turn → Option ℕ
tracked_worked_group s p = option_and_then (some_if_tracked s.tags.tracked) (worked_group s.core p)

-- that of the entry that is taken
abbrev pub tracked_entry_group : Option (Mark × Entry) → StateView → Option ℕ
tracked_entry_group e s = option_and_then (some_if_tracked s.tags.tracked) (entry_group e s.core)

-- ---- The poll of a live work

-- The next live work may be polled, past those with numbers up to `polled`: there is one, and no thread runs.
pub record MayPoll (polled : ℕ) (s : StateView) : Type 0 where
  pub placed : Placed s.core
  pub works : WorksQueued s.core
  pub current : s.current ≡ None
  pub settled : IsSettled s.core (turn.Futures polled)

-- It is this one, which has told this.
pub record TellsOfNext (news : PollNews) (polled i : ℕ) (s : Core) : Type 0 where
  pub next : next_polled polled s ≡ Some i
  pub told : TellsPoll news (poll_of i s)

-- what the core becomes by that
abbrev pub PollsWork : PollNews → ℕ → (s t : Core) → Type 0
PollsWork news i s t = PolledTo news i (poll_of i s) s t
