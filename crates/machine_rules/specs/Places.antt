-- One place for each thread: an entry exactly where its place says so.
use Rattle.std.specs.Prelude.{Bool, List, None, Option, Some, [], false, if◌then◌else◌, is_some, true, ℕ, ◌+◌, ◌==◌, ◌∷◌, ◌≡◌, ◌≤◌}
use Rattle.machine_data.specs.declared.records.Entry.{Entry}
use Rattle.machine_data.specs.declared.records.Place.{Place}
use Rattle.machine_data.specs.declared.records.Why.{Why}
use Rattle.machine_data.specs.declared.records.Why.TheVariants as why
use Rattle.machine_data.specs.declared.statuses.Mark.TheVariants as mark
use Rattle.machine_data.specs.declared.records.Place.TheVariants as place
use Rattle.machine_data.specs.Core.{Core}
use Rattle.machine_data.specs.Read.{callers_of, is_entry_of, is_resumption, place_of, is_inside_wait, same_subtask}
use Rattle.machine_data.specs.declared.records.OpProgress.{OpProgress}
use Rattle.machine_data.specs.declared.records.OpProgress.TheVariants as op_progress

abbrev pub one_if : Bool → ℕ
one_if true = 1
one_if false = 0

-- how many entries of the thread are in the list
abbrev pub entries : ℕ → List Entry → ℕ
entries n [] = 0
entries n (e ∷ es) = one_if (is_entry_of n e) + entries n es

abbrev pub switch_entries : ℕ → Option ℕ → ℕ
switch_entries n None = 0
switch_entries n (Some m) = one_if (n == m)

-- how often the thread is in the list
abbrev pub times : ℕ → List ℕ → ℕ
times n [] = 0
times n (m ∷ ms) = one_if (n == m) + times n ms

-- ---- What a place says

abbrev pub is_at_switch : Place → Bool
is_at_switch (place.Ready mark.Switch w) = true
is_at_switch _ = false

abbrev pub is_at_high : Place → Bool
is_at_high (place.Ready mark.High w) = true
is_at_high _ = false

abbrev pub is_at_low : Place → Bool
is_at_low (place.Ready mark.Low w) = true
is_at_low _ = false

abbrev pub is_behind_of : ℕ → Place → Bool
is_behind_of f (place.Behind g) = f == g
is_behind_of f _ = false

-- of a thread that is gone nothing is said
abbrev pub says : (Place → Bool) → Option Place → ℕ
says test None = 0
says test (Some p) = one_if (test p)

abbrev pub is_for_start : Why → Bool
is_for_start why.Start = true
is_for_start _ = false

-- the thread is gone, or waits for its start
abbrev pub is_fresh : Option Place → Bool
is_fresh None = true
is_fresh (Some place.New) = true
is_fresh (Some (place.Ready m w)) = is_for_start w
is_fresh (Some (place.Held w)) = is_for_start w
is_fresh _ = false

-- where a thread is that is inside a wait on the set: it waits, is to resume, or runs
abbrev pub is_at_wait : ℕ → Place → Bool
is_at_wait x (place.Waiting y false) = x == y
is_at_wait x (place.Ready m w) = is_resumption w
is_at_wait x place.Running = true
is_at_wait x _ = false

-- A thread that waits, but not by callback, is inside a wait on that set. One that is blocked is inside a sync call of that subtask, or
-- awaits its end.
abbrev pub is_inside : Place → OpProgress → Bool
is_inside (place.Waiting x false) h = is_inside_wait x h
is_inside (place.Blocked sub) (op_progress.Calls on) = same_subtask sub on
is_inside (place.Blocked sub) (op_progress.AwaitsEnd on) = same_subtask sub on
is_inside (place.Blocked sub) h = false
is_inside p h = true

-- some thread has the number
abbrev pub is_there : ℕ → Core → Bool
is_there n s = is_some (place_of n s)

-- A thread's number was given, and so was the number of the one that it is behind. It has its entry just where its place says so, once, and
-- none elsewhere. It is among the callers of another thread exactly where it is behind that one, once; one that is gone has no callers.
pub record HasPlace (n : ℕ) (s : Core) : Type 0 where
  pub number : is_there n s ≡ true → n ≤ s.made.threads
  pub behind : (f : ℕ) → says (is_behind_of f) (place_of n s) ≡ 1 → f ≤ s.made.threads
  pub switch : switch_entries n s.queues.switch ≡ says is_at_switch (place_of n s)
  pub high : entries n s.queues.high ≡ says is_at_high (place_of n s)
  pub low : entries n s.queues.low ≡ says is_at_low (place_of n s)
  pub callers : (f : ℕ) → times n (callers_of f s) ≡ (if is_there f s then says (is_behind_of f) (place_of n s) else 0)

-- Each thread has its place.
abbrev pub Placed : Core → Type 0
Placed s = (n : ℕ) → HasPlace n s
