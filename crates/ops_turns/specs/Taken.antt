-- A thread whose entry was taken, as its taking needs it.
use Rattle.std.specs.Prelude.{◌≡◌, ◌<◌, ℕ, None, Some, [], is_some, true}
use Rattle.machine_data.specs.Core.{Core}
use Rattle.machine_data.specs.Labels.{choice_of}
use Rattle.machine_data.specs.Maps.{get}
use Rattle.machine_data.specs.Moves.{why_of}
use Rattle.machine_data.specs.Read.{admits, instance_of, next_entry, place_of, task_of, under_of}
use Rattle.machine_data.specs.declared.label.Label.{Label}
use Rattle.machine_data.specs.declared.records.Delivery.{Delivery}
use Rattle.machine_data.specs.declared.records.Entry.TheVariants as entry
use Rattle.machine_data.specs.declared.records.Place.TheVariants as place
use Rattle.machine_data.specs.declared.records.Subtask.TheVariants as subtask
use Rattle.machine_data.specs.declared.records.Why.TheVariants as why
use Rattle.machine_data.specs.declared.statuses.Mark.{Mark}
use Rattle.ops_moves.specs.Idle.{IsJoinThere}
use Rattle.machine_rules.specs.Progress.{Progress}
use Rattle.machine_rules.specs.Takes.{delivery_rule, scripted_host_rule, thread_taken}
use Rattle.core_primitives.specs.Preferences.{preference}
use Rattle.core_primitives.specs.StateView.{StateView}
use Rattle.ops_guests.specs.OpResult.{PicksFirst}
use Rattle.ops_guests.specs.PickedEvents.{MembersNamed}
use Rattle.ops_guests.specs.Running.{Stand}
use Rattle.ops_guests.specs.Steps.{label_of}
use Rattle.ops_guests.specs.declared.op_result.OpResult.{OpResult}
use Rattle.ops_guests.specs.declared.op_result.OpResult.TheVariants as op_result
use Rattle.core_primitives.specs.Live.{delivered_set}

-- Its entry left the mark, and each other thread has its place. The set that its call is joined to is there. Nobody is under it where it
-- is to start.
pub record Taken (m : Mark) (n : ℕ) (s : Core) : Type 0 where
  pub live : 0 < n
  pub stands : Stand n (place.Ready m (why_of n s)) [] s
  pub join : IsJoinThere (subtask.Guest (task_of n s)) s
  pub bottom : why_of n s ≡ why.Start → under_of n s ≡ None

-- what the taking of the thread's entry from the mark does, by what its label shows
abbrev pub taking_rule : Mark → ℕ → Core → OpResult → Progress
taking_rule mark n s r = thread_taken mark n (choice_of (label_of n r)) s (place_of n s)

abbrev pub TakesThread : Mark → ℕ → StateView → OpResult → StateView → Type 0
TakesThread mark n s r t = PicksFirst (preference s) (taking_rule mark n s.core r) (label_of n r) s.core r t.core

-- that of a delivery
abbrev pub TakesDelivery : Mark → ℕ → StateView → Delivery → OpResult → StateView → Type 0
TakesDelivery mark n s d r t =
    PicksFirst (preference s) (delivery_rule mark n (choice_of (label_of n r)) s.core d (admits n s.core (why.Delivery d))) (label_of n r) s.core r
    t.core

-- and that of an ended host work, whose label is this
abbrev pub TakesHost : Mark → ℕ → StateView → Label → StateView → Type 0
TakesHost mark i s l t = PicksFirst (preference s) (scripted_host_rule mark i (choice_of l).woken s.core) l s.core (op_result.Stops l) t.core

-- The set of a delivery is there, and its ready members are named in the thread's instance.
pub record FindsSet (n : ℕ) (s : Core) : Type 0 where
  pub there : (x : ℕ) → delivered_set (why_of n s) ≡ Some x → is_some (get s.sets x) ≡ true
  pub members : (x : ℕ) → delivered_set (why_of n s) ≡ Some x → MembersNamed (instance_of n s) x s

-- the entry that is taken next is the start of a thread
abbrev pub StartsNext : Core → Type 0
StartsNext s = (m : Mark) × ((n : ℕ) × ((next_entry s ≡ Some (m, entry.Thread n)) × (why_of n s ≡ why.Start)))
