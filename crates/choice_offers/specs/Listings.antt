-- What is listed of a spot: among what a step chooses, with ids beside the numbers.
use Rattle.core_primitives.specs.Names.{subtask_in}
use Rattle.core_primitives.specs.StateView.{StateView, thread_of}
use Rattle.core_primitives.specs.declared.names.WantedId.{WantedId}
use Rattle.laws_choices.specs.Offer.{Offer}
use Rattle.machine_data.specs.Core.{Core}
use Rattle.machine_data.specs.Read.{instance_of, subtask_at, subtask_handle}
use Rattle.machine_data.specs.declared.records.Subtask.{Subtask}
use Rattle.std.specs.List.{All, find}
use Rattle.std.specs.Option.{option_and_then}
use Rattle.std.specs.Prelude.{IsPermutation, List, Option, Some, map, option_map, unwrap_or, ℕ, ◌==◌, ◌≡◌}
use Rattle.task_table.specs.declared.id.TableId.{TableId}
use Rattle.task_wait.specs.declared.keys.ThreadKey.{ThreadKey}
use Rattle.choice_offers.specs.Spots.{opened_at, taken_at, woken_at}
use Rattle.choice_offers.specs.Times.{Rises}
use Rattle.choice_offers.specs.declared.choice.Choice.{Choice}
use Rattle.choice_offers.specs.declared.held.HeldOrder.{HeldOrder}
use Rattle.choice_offers.specs.declared.held.NamedThread.{NamedThread}
use Rattle.choice_offers.specs.declared.offered.NamedMember.{NamedMember}
use Rattle.choice_offers.specs.declared.offered.Offered.{Offered}
use Rattle.choice_offers.specs.declared.spots.Spot.{Spot}

-- each id names the thread of its number
abbrev pub AreNamed : StateView → List NamedThread → Type 0
AreNamed s list = All (λ t. thread_of s t.id ≡ t.number) list

-- each subtask is what the instance names by its handle
abbrev pub AreNamedIn : StateView → ℕ → List NamedMember → Type 0
AreNamedIn s i list = All (λ m. subtask_at i m.handle s.core ≡ Some (subtask_in s.tags m.subtask)) list

abbrev pub numbers_of : List NamedThread → List ℕ
numbers_of list = map (λ t. t.number) list

abbrev pub handles_in : List NamedMember → List ℕ
handles_in list = map (λ m. m.handle) list

-- the record of what a handle names says the handle
abbrev pub HandlesKnown : Core → Type 0
HandlesKnown s = (i h : ℕ) (sub : Subtask) → subtask_at i h s ≡ Some sub → subtask_handle sub s ≡ Some h

-- the handle that names the subtask, 0 if none does
abbrev pub handle_or_none : Subtask → Core → ℕ
handle_or_none sub s = unwrap_or (subtask_handle sub s) 0

-- Each id that is listed names what its number, or its handle in the instance of thread n, names.
pub record IsNamedBy (s : StateView) (n : ℕ) (o : Offered) : Type 0 where
  pub waiters : AreNamed s o.waiters.items
  pub members : AreNamedIn s (instance_of n s.core) o.members.items
  pub held : AreNamed s o.held.items

-- All that the spot offers to thread n is listed: waiters and members in order of number and handle, held threads in the order of their
-- times.
pub record IsListed (s : StateView) (n : ℕ) (p : Spot) (known : HeldOrder) (o : Offered) : Type 0 where
  pub waiters : numbers_of o.waiters.items ≡ woken_at s p.wakes
  pub members : handles_in o.members.items ≡ taken_at s n p.takes
  pub held : IsPermutation (opened_at s p.opens) (numbers_of o.held.items)
  pub names : IsNamedBy s n o
  pub rises : Rises known o.held.items

-- the id of the thread with the number, if it is listed
abbrev pub id_in : List NamedThread → ℕ → Option (TableId ThreadKey)
id_in list n = option_map (λ t. t.id) (find (λ t. t.number == n) list)

-- by numbers and handles
abbrev pub offer_in : Offered → Offer
offer_in o = record { waiters = numbers_of o.waiters.items; members = handles_in o.members.items; held = numbers_of o.held.items }

-- what the instance names by the chosen handle
abbrev pub subtask_chosen : StateView → ℕ → Option ℕ → Option Subtask
subtask_chosen s i chosen = option_and_then (λ h. subtask_at i h s.core) chosen

-- What the choice says, by ids.
pub record IsWantedBy (s : StateView) (n : ℕ) (c : Choice) (w : WantedId) : Type 0 where
  pub waiter : option_map (λ id. thread_of s id) w.waiter ≡ c.waiter
  pub member : option_map (subtask_in s.tags) w.member ≡ subtask_chosen s (instance_of n s.core) c.member
  pub held : map (λ id. thread_of s id) w.held.items ≡ c.release
