-- Groups that a core tracks: those that are live, and those that have ended since it was last asked which.
use Rattle.std.specs.Prelude.{[], List, None, Option, Some, filter, if◌then◌else◌, not, option_and_then, ℕ, ◌++◌, ◌+◌, ◌∷◌, ◌≡◌, length}
use Rattle.machine_data.specs.Read.{thread_group}
use Rattle.machine_data.specs.Write.{add_group}
use Rattle.machine_rules.specs.Calls.{work_group}
use Rattle.machine_rules.specs.Notices.{is_in}
use Rattle.core_primitives.specs.StateView.{StateView}

-- the group as long as it is tracked; 0: its end was told
abbrev pub if_tracked : List ℕ → ℕ → ℕ
if_tracked known g = if is_in known g then g else 0

abbrev pub some_if_tracked : List ℕ → ℕ → Option ℕ
some_if_tracked known g = if is_in known g then Some g else None

-- the group of a thread, as long as it is tracked; default: 0
abbrev pub tracked_group : ℕ → StateView → ℕ
tracked_group n s = if_tracked s.tags.tracked (thread_group n s.core)

-- the group of a host call, as long as it is tracked
abbrev pub tracked_work_group : ℕ → StateView → Option ℕ
tracked_work_group i s = option_and_then (some_if_tracked s.tags.tracked) (work_group i s.core)

-- the groups of then less those of now, in order
abbrev pub ended_groups : StateView → List ℕ
ended_groups s = filter (λ g. not (is_in s.core.groups g)) s.tags.tracked

-- those that have ended and those that are live are as many as are tracked
abbrev pub CountsEnded : StateView → Type 0
CountsEnded s = length (ended_groups s) + length s.core.groups ≡ length s.tags.tracked

-- a group more, which is tracked
abbrev pub with_group : StateView → StateView
with_group s = record {
  core = add_group s.core;
  tags = record s.tags { tracked = s.tags.tracked ++ (s.core.made.groups + 1) ∷ [] };
  current = s.current;
}

-- it was asked: it tracks the live ones alone
abbrev pub asked : StateView → StateView
asked s = record { core = s.core; tags = record s.tags { tracked = s.core.groups }; current = s.current }

-- so it is: no group has ended since
abbrev pub IsAsked : StateView → Type 0
IsAsked s = s.tags.tracked ≡ s.core.groups
