-- What the chains of entries and callers ask: a node is in one chain at a time.
use Rattle.std.specs.Prelude.{◌≡◌, ◌==◌, true, List, [], ◌∷◌, Option, None, Some, ℕ, if◌then◌else◌, suc}
use Rattle.machine_data.specs.Core.{Core}
use Rattle.machine_data.specs.Moves.{newest, older}
use Rattle.machine_data.specs.Read.{blocked_on, callers_of, is_waiter}
use Rattle.machine_data.specs.declared.records.Entry.{Entry}
use Rattle.machine_data.specs.declared.records.Entry.TheVariants as entry
use Rattle.machine_data.specs.declared.records.Subtask.{Subtask}
use Rattle.machine_rules.specs.Places.{entries, switch_entries, times}

-- A thread has no entry at high or low.
pub record IsUnqueued (n : ℕ) (s : Core) : Type 0 where
  pub high : entries n s.queues.high ≡ 0
  pub low : entries n s.queues.low ≡ 0

-- The thread at switch, if one is there, has no entry elsewhere.
abbrev pub IsSwitchUnqueued : Core → Type 0
IsSwitchUnqueued s = (m : ℕ) → s.queues.switch ≡ Some m → IsUnqueued m s

-- A thread is behind nobody.
abbrev pub IsBehindNobody : ℕ → Core → Type 0
IsBehindNobody n s = (f : ℕ) → times n (callers_of f s) ≡ 0

-- A thread has no entry, and is behind nobody.
pub record IsApart (n : ℕ) (s : Core) : Type 0 where
  pub unqueued : IsUnqueued n s
  pub switch : switch_entries n s.queues.switch ≡ 0
  pub behind : IsBehindNobody n s

-- how many entries of the work are in the list
abbrev pub work_entries : ℕ → List Entry → ℕ
work_entries i [] = 0
work_entries i (entry.Push j ∷ es) = if i == j then suc (work_entries i es) else work_entries i es
work_entries i (entry.Host j ∷ es) = if i == j then suc (work_entries i es) else work_entries i es
work_entries i (entry.Thread n ∷ es) = work_entries i es

-- the last of a list of threads
abbrev pub newest_of : List ℕ → Option ℕ
newest_of [] = None
newest_of (n ∷ ns) = Some (newest n ns)

-- all but the last
abbrev pub older_of : List ℕ → List ℕ
older_of [] = []
older_of (n ∷ ns) = older n ns

-- all but the first
abbrev pub later_of : List ℕ → List ℕ
later_of [] = []
later_of (n ∷ ns) = ns

-- Who waits on the set has no entry.
abbrev pub AreWaitersUnqueued : ℕ → Core → Type 0
AreWaitersUnqueued x s = (n : ℕ) → is_waiter x n s ≡ true → IsUnqueued n s

-- Who is blocked on the subtask has no entry.
abbrev pub IsBlockedUnqueued : Subtask → Core → Type 0
IsBlockedUnqueued sub s = (n : ℕ) → blocked_on sub s ≡ Some n → IsUnqueued n s
