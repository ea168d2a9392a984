-- The numbers that are kept, as the machine counts them in its records.
use Rattle.std.specs.Prelude.{◌≡◌, ◌+◌, ◌==◌, ℕ, Bool, false, length}
use Rattle.std.specs.Option.{option_map_or}
use Rattle.table_lists.specs.Counts.{passing}
use Rattle.machine_data.specs.Core.{Core}
use Rattle.machine_data.specs.Read.{is_in_set, is_live, keeps_set, table_use}
use Rattle.machine_data.specs.declared.records.Work.{Work}
use Rattle.core_records.specs.declared.call_records.GuestTask.{GuestTask}
use Rattle.core_records.specs.declared.call_records.TaskGroup.{TaskGroup}
use Rattle.core_records.specs.declared.parts.CachedCounts.{CachedCounts}
use Rattle.core_records.specs.declared.set_records.WaitSet.{WaitSet}

pub record AreKept (s : Core) (k : CachedCounts) : Type 0 where
  pub used : k.used ≡ table_use s
  pub groups : k.groups ≡ length s.groups
  pub live : k.live ≡ passing is_live s.works

-- how many threads are of the call
abbrev pub threads_of : ℕ → Core → ℕ
threads_of k s = passing (λ t. t.call == k) s.threads

-- how many calls and host works are in the set
abbrev pub members_of : ℕ → Core → ℕ
members_of x s = passing (λ c. is_in_set x c.join) s.calls + passing (λ w. is_in_set x w.join) s.works

-- how many threads wait on the set or have an entry for it
abbrev pub entries_for : ℕ → Core → ℕ
entries_for x s = passing (λ t. keeps_set x t t.place) s.threads

abbrev pub is_of_group : ℕ → Work → Bool
is_of_group g w = option_map_or (λ h. h == g) w.group false

-- how many calls and host calls are of the group
abbrev pub calls_of : ℕ → Core → ℕ
calls_of g s = passing (λ c. c.group == g) s.calls + passing (is_of_group g) s.works

abbrev pub IsCallKept : Core → GuestTask → Type 0
IsCallKept s g = g.threads ≡ threads_of g.number s

pub record IsSetKept (s : Core) (x : WaitSet) : Type 0 where
  pub members : x.members ≡ members_of x.number s
  pub entries : x.entries ≡ entries_for x.number s

abbrev pub IsGroupKept : Core → TaskGroup → Type 0
IsGroupKept s r = r.calls ≡ calls_of r.number s
