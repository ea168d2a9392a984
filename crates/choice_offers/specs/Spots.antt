-- What is offered where a step chooses.
use Rattle.core_primitives.specs.StateView.{StateView, call_of, set_of, thread_of}
use Rattle.laws_choices.specs.Offer.{Offer}
use Rattle.laws_choices.specs.Offers.{cancel_offer_by, takes_of, waiters_of}
use Rattle.machine_data.specs.Core.{Core}
use Rattle.machine_data.specs.Read.{instance_of}
use Rattle.machine_rules.specs.Cancels.{cancel_case, cancellable}
use Rattle.machine_rules.specs.Ends.{held_by_flag, may_tell}
use Rattle.machine_rules.specs.Task.{held_by_counter}
use Rattle.ops_guests.specs.OpWakes.{wakes_in}
use Rattle.ops_guests.specs.PickedEvents.{MembersNamed}
use Rattle.std.specs.Prelude.{Bool, IfSome, List, None, Option, Some, [], true, ℕ, ◌<◌, ◌≡◌}
use Rattle.task_table.specs.declared.id.TableId.{TableId}
use Rattle.task_wait.specs.declared.keys.SetKey.{SetKey}
use Rattle.task_wait.specs.declared.keys.ThreadKey.{ThreadKey}
use Rattle.choice_offers.specs.declared.spots.Opening.TheVariants as opening
use Rattle.choice_offers.specs.declared.spots.Opening.{Opening}
use Rattle.choice_offers.specs.declared.spots.Spot.{Spot}
use Rattle.choice_offers.specs.declared.spots.Woken.TheVariants as woken
use Rattle.choice_offers.specs.declared.spots.Woken.{Woken}

-- the waiters of the set, or the threads of the call that a cancel may take
abbrev pub woken_of : StateView → Woken → List ℕ
woken_of s (woken.Set x) = waiters_of (set_of s x) s.core
woken_of s (woken.Call k) = cancellable (call_of s k) s.core

abbrev pub woken_at : StateView → Option Woken → List ℕ
woken_at s None = []
woken_at s (Some w) = woken_of s w

-- the handles by which the instance of thread n names ready members of the set
abbrev pub taken_at : StateView → ℕ → Option (TableId SetKey) → List ℕ
taken_at s n None = []
taken_at s n (Some x) = (takes_of n (set_of s x) s.core).members

abbrev pub opened_by : Opening → ℕ → Core → List ℕ
opened_by opening.Flag i s = held_by_flag i s
opened_by opening.Counter i s = held_by_counter i s

-- the held threads that the instance lets in
abbrev pub opened_at : StateView → Option (ℕ × Opening) → List ℕ
opened_at s None = []
opened_at s (Some o) = opened_by o.1 o.0 s.core

-- among what a step of thread n chooses at the spot
abbrev pub spot_offer : StateView → ℕ → Spot → Offer
spot_offer s n p = record { waiters = woken_at s p.wakes; members = taken_at s n p.takes; held = opened_at s p.opens }

-- The set is there, and its ready members are named in the instance of thread n.
pub record IsTakingThere (s : StateView) (n : ℕ) (x : TableId SetKey) : Type 0 where
  pub live : 0 < set_of s x
  pub named : MembersNamed (instance_of n s.core) (set_of s x) s.core

-- the set is there, or the call
abbrev pub IsWakeThere : StateView → Woken → Type 0
IsWakeThere s (woken.Set x) = 0 < set_of s x
IsWakeThere s (woken.Call k) = 0 < call_of s k

-- the sets, or the call, that the spot of thread n names are there
abbrev pub IsSpotThere : StateView → ℕ → Spot → Type 0
IsSpotThere s n p = IfSome p.wakes (IsWakeThere s) × IfSome p.takes (IsTakingThere s n)

-- what a cancel of call k offers that has found it
abbrev pub call_cancel_offer : ℕ → Core → Offer
call_cancel_offer k s = cancel_offer_by k s (cancel_case k s)

-- what the spot names is there, and it offers this to thread n
abbrev pub Offers : StateView → ℕ → Spot → Offer → Type 0
Offers s n p o = IsSpotThere s n p × (spot_offer s n p ≡ o)

-- so for the thread that an id names
abbrev pub OffersTo : StateView → TableId ThreadKey → Spot → (ℕ → Core → Offer) → Type 0
OffersTo s id p o = Offers s (thread_of s id) p (o (thread_of s id) s.core)

-- with some waiter that may be told of the call
abbrev pub MayWakeIn : ℕ → ℕ → Core → Bool → Type 0
MayWakeIn i k s b = (w : Option ℕ) × ((may_tell k w s ≡ true) × (b ≡ wakes_in i k w s))
