-- Whose turn it is, and the moves of a turn that show no label.
use Rattle.std.specs.Prelude.{Bool, None, Option, Some, false, is_none, true, ℕ}
use Rattle.machine_data.specs.declared.records.Turn.{Turn}
use Rattle.machine_data.specs.declared.records.Turn.TheVariants as turn
use Rattle.machine_data.specs.Core.{Core, Main, State}
use Rattle.machine_data.specs.Moves.{ended}
use Rattle.machine_data.specs.Read.{next_entry}
use Rattle.machine_rules.specs.Works.{next_polled}

-- nothing is queued
abbrev pub queues_are_empty : Core → Bool
queues_are_empty s = is_none (next_entry s)

-- after a work that ended in this turn and where nothing is there, main's turn comes
abbrev pub settled_take : Bool → Bool → Turn
settled_take true true = turn.Main
settled_take ended stands = turn.Take ended

abbrev pub settled_futures : ℕ → Core → Option ℕ → Turn
settled_futures n s None = settled_take false (queues_are_empty s)
settled_futures n s (Some i) = turn.Futures n

-- the turn, once the moves without a label are made: past the last live work an entry is taken
abbrev pub settled_turn : Core → Turn → Turn
settled_turn s (turn.Futures n) = settled_futures n s (next_polled n s)
settled_turn s (turn.Take ended) = settled_take ended (queues_are_empty s)
settled_turn s x = x

-- the state with this core and main's part, at this turn
unfoldable pub at_turn : State → Core → Main → Turn → State
at_turn s new main x = record { core = new; main = main; turn = settled_turn new x }

-- main's part stays
abbrev pub goes_to : State → Core → Turn → State
goes_to s new x = at_turn s new s.main x
