-- A taking shows that it is one.
use Rattle.laws_labels.proofs.ShowLemmas.{may_shows, or_never_shows, trap_if_shows, wider}
use Rattle.laws_labels.specs.Own.{Shows, mark_taken, taking_shown}
use Rattle.std.proofs.Common.{ap, refl}
use Rattle.std.specs.Prelude.{Bool, None, Option, Some, false, option_map, true, ℕ, ◌≡◌}
use Rattle.machine_data.specs.Core.{Core}
use Rattle.machine_data.specs.Labels.{Choice, event_label, held_label, host_label, take_label}
use Rattle.machine_data.specs.Moves.{PickedEvent, PickedMember, NothingPicked, PickedTaskEvent, picked_event, may_hand_on, may_publish}
use Rattle.machine_data.specs.Read.{admits, at_handle_limit, is_explicit, place_of, task_of}
use Rattle.machine_data.specs.declared.records.Delivery.{Delivery}
use Rattle.machine_data.specs.declared.records.Delivery.TheVariants as delivery
use Rattle.machine_data.specs.declared.records.Entry.{Entry}
use Rattle.machine_data.specs.declared.records.Entry.TheVariants as entry
use Rattle.machine_data.specs.declared.records.Place.{Place}
use Rattle.machine_data.specs.declared.records.Place.TheVariants as place
use Rattle.machine_data.specs.declared.records.Why.{Why}
use Rattle.machine_data.specs.declared.records.Why.TheVariants as why
use Rattle.machine_data.specs.declared.records.Subtask.TheVariants as subtask
use Rattle.machine_data.specs.declared.statuses.Given.{Given}
use Rattle.machine_data.specs.declared.label.Label.{Label}
use Rattle.machine_data.specs.declared.label.Label.TheVariants as label
use Rattle.machine_data.specs.declared.statuses.Mark.{Mark}
use Rattle.machine_rules.specs.Ends.{may_tell}
use Rattle.machine_rules.specs.Sets.{chosen, handed_out}
use Rattle.machine_rules.specs.Takes.{delivered, delivery_rule, scripted_host_rule, may_tell_starting, set_delivered, start_admitted, start_rule, take_rule, thread_taken, thread_taken_for}

abbrev pub IsTaken : Mark → Label → Type 0
IsTaken m l = mark_taken l ≡ Some m

-- the entry of a thread was taken from the mark
abbrev pub IsThreadTaken : Mark → Label → Type 0
IsThreadTaken m l = taking_shown l ≡ Some (m, false)

module _ (m : Mark) (n : ℕ) where
  abbrev Taken : Label → Type 0
  Taken l = IsThreadTaken m l

  taken_label : (w : Option ℕ) → Taken (take_label m n w)
  taken_label None = refl
  taken_label (Some w) = refl

  taken_held : (w : Option ℕ) → Taken (held_label m n w)
  taken_held None = refl
  taken_held (Some w) = refl

  taken_event : (v : Given) (w : Option ℕ) → Taken (event_label m n v w)
  taken_event v None = refl
  taken_event v (Some w) = refl

  taken_host : (w : Option ℕ) → IsTaken m (host_label m n w)
  taken_host None = refl
  taken_host (Some w) = refl

  host_shows : (w : Option ℕ) (s : Core) → Shows (IsTaken m) (scripted_host_rule m n w s)
  host_shows w s = may_shows (IsTaken m) (may_publish (subtask.Host n) w s) _ (taken_host w)

  admitted_shows : (w : Option ℕ) (s : Core) (b : Bool) → Shows Taken (start_admitted m n w s b)
  admitted_shows w s true = refl
  admitted_shows w s false = trap_if_shows Taken (at_handle_limit s) _ _ refl (may_shows Taken (may_tell (task_of n s) w s) _ (taken_label w))

  start_shows : (w : Option ℕ) (s : Core) (b : Bool) → Shows Taken (start_rule m n w s b)
  start_shows w s true = admitted_shows w s (is_explicit n s)
  start_shows w s false = may_shows Taken (may_tell_starting (task_of n s) w s) _ (taken_held w)

  set_shows : (x : ℕ) (ch : Choice) (s : Core) (g : PickedEvent) → Shows Taken (set_delivered m n x ch s g)
  set_shows x ch s NothingPicked = refl
  set_shows x ch s (PickedTaskEvent e) = may_shows Taken (may_hand_on x (PickedTaskEvent e) ch.woken s) _ (taken_event (handed_out ch s (PickedTaskEvent e)) ch.woken)
  set_shows x ch s (PickedMember sub) = may_shows Taken (may_hand_on x (PickedMember sub) ch.woken s) _ (taken_event (handed_out ch s (PickedMember sub)) ch.woken)

  delivered_shows : (ch : Choice) (s : Core) (d : Delivery) → Shows Taken (delivered m n ch s d)
  delivered_shows ch s (delivery.Set x) = or_never_shows Taken (picked_event true (task_of n s) x (chosen n ch s) s) _ (λ g. set_shows x ch s g)
  delivered_shows ch s delivery.Yield = refl
  delivered_shows ch s delivery.Cancel = refl

  delivery_shows : (ch : Choice) (s : Core) (d : Delivery) (b : Bool) → Shows Taken (delivery_rule m n ch s d b)
  delivery_shows ch s d true = delivered_shows ch s d
  delivery_shows ch s d false = refl

  for_shows : (ch : Choice) (s : Core) (w : Why) → Shows Taken (thread_taken_for m n ch s w)
  for_shows ch s why.Start = start_shows ch.woken s (admits n s why.Start)
  for_shows ch s (why.Delivery d) = delivery_shows ch s d (admits n s (why.Delivery d))
  for_shows ch s why.Resumption = refl

  pub thread_shows : (ch : Choice) (s : Core) (p : Option Place) → Shows Taken (thread_taken m n ch s p)
  thread_shows ch s None = tt
  thread_shows ch s (Some (place.Ready x w)) = for_shows ch s w
  thread_shows ch s (Some _) = tt

taken_thread : (m : Mark) (l : Label) → IsThreadTaken m l → IsTaken m l
taken_thread m (label.Take l) is = ap (option_map (λ (e : Mark × Bool). e.0)) is
taken_thread m (label.Main l) is = absurd (cc)
taken_thread m (label.Loop l) is = absurd (cc)
taken_thread m _ is = absurd (cc)

-- what a taking comes to shows that it is one
pub take_shows : (m : Mark) (ch : Choice) (s : Core) (e : Entry) → Shows (IsTaken m) (take_rule m ch s e)
take_shows m ch s (entry.Thread n) = wider (IsThreadTaken m) (IsTaken m) (taken_thread m) _ (thread_shows m n ch s (place_of n s))
take_shows m ch s (entry.Push i) = refl
take_shows m ch s (entry.Host i) = host_shows m i ch.woken s
