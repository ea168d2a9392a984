-- No wake is lost: what is so of each state in which the turns aren't over.
use Rattle.std.specs.List.{count_by}
use Rattle.std.specs.Prelude.{Bool, None, Option, Some, false, is_some, suc, true, zero, ℕ, ◌&&◌, ◌+◌, ◌≡◌, ◌≤◌}
use Rattle.machine_data.specs.Core.{Core}
use Rattle.machine_data.specs.Read.{admits, event_of, has_waiter, is_in_set, place_of, undelivered_end, woken}
use Rattle.machine_data.specs.declared.records.Join.{Join}
use Rattle.machine_data.specs.declared.records.Place.{Place}
use Rattle.machine_data.specs.declared.records.Place.TheVariants as place
use Rattle.machine_data.specs.declared.records.Subtask.{Subtask}
use Rattle.machine_data.specs.declared.records.Why.{Why}
use Rattle.machine_data.specs.declared.statuses.Status.{Status}
use Rattle.machine_rules.specs.Works.{is_ended_work}

-- it is joined to the set, and has an event
abbrev pub is_ready_in : ℕ → Join → Option Status → Bool
is_ready_in x j e = is_in_set x j && is_some e

-- how many members of the set, calls and works, have an event
unfoldable pub ready_members : ℕ → Core → ℕ
ready_members x s =
    count_by (λ e. is_ready_in x e.1.join e.1.event) s.calls.list + count_by (λ e. is_ready_in x e.1.join e.1.event) s.works.list

-- for a set that has a waiter at least as many threads are woken as it has ready members
abbrev pub WakesCounted : Core → Type 0
WakesCounted s = (x : ℕ) → has_waiter x s ≡ true → ready_members x s ≤ woken x s

abbrev pub goes_on_at : (ℕ → Bool) → Option Place → Bool
goes_on_at goes_on (Some (place.Ready m w)) = true
goes_on_at goes_on (Some place.Running) = true
goes_on_at goes_on (Some (place.Under m)) = goes_on m
goes_on_at goes_on (Some (place.Behind f)) = goes_on f
goes_on_at goes_on _ = false

-- of at most this many threads from n on, each behind or under the next, one is Ready or Running
abbrev pub goes_on_within : ℕ → Core → ℕ → Bool
goes_on_within zero s n = false
goes_on_within (suc k) s n = goes_on_at (goes_on_within k s) (place_of n s)

-- no caller is behind a stopped strand
abbrev pub CallersGoOn : Core → Type 0
CallersGoOn s = (n f : ℕ) → place_of n s ≡ Some (place.Behind f) → (k : ℕ) × (goes_on_within k s n ≡ true)

-- nobody is under a thread that another one is behind
abbrev pub BehindFeet : Core → Type 0
BehindFeet s = (n k f : ℕ) → place_of n s ≡ Some (place.Behind f) → place_of k s ≡ Some (place.Under f) → ⊥

-- no held thread is admitted
abbrev pub NoneAdmitted : Core → Type 0
NoneAdmitted s = (n : ℕ) (w : Why) → place_of n s ≡ Some (place.Held w) → admits n s w ≡ false

-- No thread is blocked on a subtask that has an end as its event, or on a host's work that has ended and has no entry.
pub record NoneBlockedOnEnd (s : Core) : Type 0 where
  pub events : (n : ℕ) (sub : Subtask) → place_of n s ≡ Some (place.Blocked sub) → undelivered_end (event_of sub s) ≡ None
  pub works : (n : ℕ) (sub : Subtask) → place_of n s ≡ Some (place.Blocked sub) → is_ended_work sub s ≡ false
