-- An entry that has left its mark moves no thread, so the same is offered.
use Rattle.laws_choices.specs.Offer.{Offer}
use Rattle.laws_choices.specs.Offers.{delivery_offer, gives_woken, handles_of, names_ready, nothing, start_offer, take_offer, takes_of, tells, thread_offer, unless, wakes, wakes_in, why_offer}
use Rattle.machine_data.specs.Core.{Core, Queues}
use Rattle.machine_data.specs.Moves.{picked_task_event_of}
use Rattle.machine_data.specs.Read.{admits, at_handle_limit, instance_of, is_explicit, is_ready_member, join_of, live_count, place_of, subtask_at, task_of}
use Rattle.machine_data.specs.Write.{set_high, set_low, set_switch}
use Rattle.machine_data.specs.declared.records.Delivery.TheVariants as delivery
use Rattle.machine_data.specs.declared.records.Delivery.{Delivery}
use Rattle.machine_data.specs.declared.records.Entry.TheVariants as entry
use Rattle.machine_data.specs.declared.records.Entry.{Entry}
use Rattle.machine_data.specs.declared.records.Join.TheVariants as join
use Rattle.machine_data.specs.declared.records.Join.{Join}
use Rattle.machine_data.specs.declared.records.Place.TheVariants as place
use Rattle.machine_data.specs.declared.records.Place.{Place}
use Rattle.machine_data.specs.declared.records.Subtask.TheVariants as subtask
use Rattle.machine_data.specs.declared.records.Subtask.{Subtask}
use Rattle.machine_data.specs.declared.records.Why.TheVariants as why
use Rattle.machine_data.specs.declared.records.Why.{Why}
use Rattle.machine_data.specs.declared.statuses.Mark.TheVariants as mark
use Rattle.machine_data.specs.declared.statuses.Mark.{Mark}
use Rattle.machine_rules.specs.Ends.{is_told}
use Rattle.machine_rules.specs.Takes.{popped, starting_is_published}
use Rattle.machine_rules.proofs.PlacingLemmas.{ready_same}
use Rattle.std.proofs.Common.{ap, ap₂, refl, ◌∙◌}
use Rattle.std.specs.Option.{option_map_or}
use Rattle.std.specs.Prelude.{Bool, List, None, Option, Some, [], false, filter, if◌then◌else◌, is_some, true, ℕ, ◌∷◌, ◌≡◌}

kept_same : (p q : ℕ → Bool) (ns : List ℕ) → ((m : ℕ) → p m ≡ q m) → filter p ns ≡ filter q ns
kept_same p q [] same = refl
kept_same p q (n ∷ ns) same =
    ap (λ (b : Bool). if b then n ∷ filter p ns else filter p ns) (same n) ∙ ap (λ (ms : List ℕ). if q n then n ∷ ms else ms) (kept_same p q ns same)

-- in a core with other marks
module _ (q : Queues) (s : Core) where
  abbrev t : Core
  t = record s { queues = q }

  same_joined : (j : Join) → wakes_in j t ≡ wakes_in j s
  same_joined (join.Set x) = refl
  same_joined _ = refl

  same_tells : (k : ℕ) → tells k t ≡ tells k s
  same_tells k = ap (λ (o : Offer). if is_told k s then o else nothing) (same_joined (join_of (subtask.Guest k) s))

  same_ready : (x : ℕ) (sub : Subtask) → is_ready_member x sub t ≡ is_ready_member x sub s
  same_ready x (subtask.Guest k) = refl
  same_ready x (subtask.Host i) = refl

  same_named : (i x h : ℕ) → names_ready i x t h ≡ names_ready i x s h
  same_named i x h = by (subtask_at i h s)
    where
      by : (o : Option Subtask) → option_map_or (λ sub. is_ready_member x sub t) o false ≡ option_map_or (λ sub. is_ready_member x sub s) o false
      by None = refl
      by (Some sub) = same_ready x sub

  same_takes : (n x : ℕ) → takes_of n x t ≡ takes_of n x s
  same_takes n x =
      let i = instance_of n s in
      ap (λ (ns : List ℕ). record { waiters = []; members = ns; held = [] }) (kept_same (names_ready i x t) (names_ready i x s) (handles_of i s) (same_named i x))

  same_woken : (b : Bool) (n x : ℕ) → gives_woken b n x t ≡ gives_woken b n x s
  same_woken b n x =
      ap₂ (λ (r : Bool) (o : Offer). if is_some (picked_task_event_of b (task_of n s) s) then (if r then wakes x s else nothing) else o) (ready_same x s t refl refl)
      (same_takes n x)

  same_start : (n : ℕ) (b : Bool) → start_offer n t b ≡ start_offer n s b
  unfolding at_handle_limit live_count
  same_start n true = ap (λ (o : Offer). if is_explicit n s then nothing else unless (at_handle_limit s) o) (same_tells (task_of n s))
  same_start n false = ap (λ (o : Offer). if starting_is_published (task_of n s) s then nothing else o) (same_tells (task_of n s))

  same_delivery : (n : ℕ) (d : Delivery) (b : Bool) → delivery_offer n t d b ≡ delivery_offer n s d b
  same_delivery n (delivery.Set x) true = same_woken true n x
  same_delivery n (delivery.Set x) false = refl
  same_delivery n delivery.Yield b = refl
  same_delivery n delivery.Cancel b = refl

  same_why : (n : ℕ) (w : Why) → why_offer n t w ≡ why_offer n s w
  same_why n why.Start = same_start n (admits n s why.Start)
  same_why n (why.Delivery d) = same_delivery n d (admits n s (why.Delivery d))
  same_why n why.Resumption = refl

  same_thread : (n : ℕ) (p : Option Place) → thread_offer n t p ≡ thread_offer n s p
  same_thread n (Some (place.Ready m w)) = same_why n w
  same_thread n _ = refl

  same_take : (e : Entry) → take_offer t e ≡ take_offer s e
  same_take (entry.Thread n) = same_thread n (place_of n s)
  same_take (entry.Push i) = refl
  same_take (entry.Host i) = same_joined (join_of (subtask.Host i) s)

pub popped_take : (m : Mark) (s : Core) (e : Entry) → take_offer (popped m s) e ≡ take_offer s e
unfolding popped set_switch set_high set_low
popped_take mark.Switch s e = same_take (popped mark.Switch s).queues s e
popped_take mark.High s e = same_take (popped mark.High s).queues s e
popped_take mark.Low s e = same_take (popped mark.Low s).queues s e
