-- A step that picks what comes first makes the choice that is wanted, where that can be made.
use Rattle.std.specs.Prelude.{Some, true, ℕ, ◌≡◌}
use Rattle.machine_data.specs.Core.{Core}
use Rattle.machine_data.specs.Read.{is_ready_member, is_waiter}
use Rattle.machine_data.specs.declared.records.Subtask.{Subtask}
use Rattle.machine_rules.specs.Picks.{Preference, TakesFirst, WakesFirst}

-- the wanted thread is woken, where it waits on the set of which one is woken
unfoldable pub WantedIsWoken : Type 0
WantedIsWoken = (p : Preference) (s : Core) (w v : ℕ) → (first : WakesFirst p s w) → p.waiter ≡ Some v → is_waiter first.set v s ≡ true → w ≡ v

-- the event of the wanted member is taken, where it is a ready member of the set of which one is picked
unfoldable pub WantedIsTaken : Type 0
WantedIsTaken = (p : Preference) (s : Core) (instance handle : ℕ) (sub : Subtask) → (first : TakesFirst p s instance handle) → p.member ≡ Some sub →
    is_ready_member first.set sub s ≡ true → first.member ≡ sub
