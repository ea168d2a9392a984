-- What the rules of takings choose among.
use Rattle.laws_choices.proofs.Forms.{IsSilent, OfWaiters, Picks, chooses, choosing, given, silent, trapped, woken}
use Rattle.laws_choices.proofs.RulePicks.{member_woken, nobody, of_joined, of_tells, own_wakes, own_woken, publish_fits, tell_fits}
use Rattle.laws_choices.specs.Chooses.{TakingsChoose, hides}
use Rattle.laws_choices.specs.Offer.{is_one_of}
use Rattle.laws_choices.specs.Offers.{delivery_offer, gives_woken, nothing, start_offer, starting_offer, take_offer, tells, thread_offer, unless, wakes_in, why_offer}
use Rattle.machine_rules.proofs.Machine.{Bool, Core, Delivery, Entry, Mark, Never, None, Option, TaskEvent, Place, Some, Subtask, Why, admits, at_handle_limit, choice_of, chosen, delivery_rule, event_label, false, picked_event, given_for, has_ready_member, held_label, host_label, if◌then◌else◌, is_explicit, is_none, join_of, may_publish, may_tell, may_tell_starting, or_never, own_delivered, picked_task_event_of, picked_task_event_only, own_or_nothing, place_of, refl, set_delivered, start_admitted, start_rule, starting_is_published, take_label, take_rule, task_of, thread_taken, thread_taken_for, true, ℕ, ◌≡◌, Progress, PickedEvent, NothingPicked, PickedTaskEvent, PickedMember, Trap, may, may_hand_on, trap_if, Choice}

take_shows : (m : Mark) (n : ℕ) (w : Option ℕ) → choice_of (take_label m n w) ≡ choosing w None
take_shows m n None = refl
take_shows m n (Some w) = refl

held_shows : (m : Mark) (n : ℕ) (w : Option ℕ) → choice_of (held_label m n w) ≡ choosing w None
held_shows m n None = refl
held_shows m n (Some w) = refl

host_shows : (m : Mark) (i : ℕ) (w : Option ℕ) → choice_of (host_label m i w) ≡ choosing w None
host_shows m i None = refl
host_shows m i (Some w) = refl

starting_fits : (k : ℕ) (w : Option ℕ) (s : Core) → may_tell_starting k w s ≡ is_one_of (starting_offer k s).waiters w
unfolding may_tell_starting
starting_fits k w s = by (starting_is_published k s)
  where
    by : (b : Bool) → (if b then is_none w else may_tell k w s) ≡ is_one_of (if b then nothing else tells k s).waiters w
    by true = nobody w
    by false = tell_fits k w s

of_starting : (k : ℕ) (s : Core) → OfWaiters (starting_offer k s)
of_starting k s = by (starting_is_published k s)
  where
    by : (b : Bool) → OfWaiters (if b then nothing else tells k s)
    by true = (refl, refl)
    by false = of_tells k s

module _ (m : Mark) (n : ℕ) (s : Core) where
  admitted_picks : (b : Bool) → Picks (if b then nothing else unless (at_handle_limit s) (tells (task_of n s) s)) (λ w k. start_admitted m n w s b)
  admitted_picks true = silent _ refl
  admitted_picks false = trapped (at_handle_limit s) _ (
      woken (tells (task_of n s) s) (of_tells (task_of n s) s) (λ w. may_tell (task_of n s) w s) (λ w. tell_fits (task_of n s) w s) _ (take_shows m n))

  start_picks : (b : Bool) → Picks (start_offer n s b) (λ w k. start_rule m n w s b)
  start_picks true = admitted_picks (is_explicit n s)
  start_picks false =
      woken (starting_offer (task_of n s) s) (of_starting (task_of n s) s) (λ w. may_tell_starting (task_of n s) w s) (λ w. starting_fits (task_of n s) w s) _ (held_shows m n)

  set_delivered_picks : (x : ℕ) → Picks (gives_woken true n x s) (λ w k. or_never (picked_event true (task_of n s) x (chosen n (choosing w k) s) s) (set_delivered m n x (choosing w k) s))
  unfolding given_for
  set_delivered_picks x = given n x s true (own_wakes (has_ready_member x s) x s) (λ w k g. set_delivered m n x (choosing w k) s g)
      (λ e. own_woken n x s (λ v w. event_label m n v w) (λ v. refl) (λ v w. refl) e _)
      (silent _ refl)
      (λ sub. member_woken n x s (λ v w. event_label m n v w) (λ v. refl) (λ v w. refl) sub _)

  own_only : IsSilent (own_delivered m n s (picked_task_event_only (task_of n s) s))
  unfolding picked_task_event_only given_for
  own_only = by (picked_task_event_of true (task_of n s) s)
    where
      by : (o : Option TaskEvent) → IsSilent (own_delivered m n s (own_or_nothing o))
      by None = refl
      by (Some TaskEvent.None) = refl
      by (Some TaskEvent.Cancelled) = refl

  delivery_picks : (d : Delivery) (b : Bool) → Picks (delivery_offer n s d b) (λ w k. delivery_rule m n (choosing w k) s d b)
  delivery_picks (Delivery.Set x) true = set_delivered_picks x
  delivery_picks Delivery.Yield true = silent _ own_only
  delivery_picks Delivery.Cancel true = silent _ own_only
  delivery_picks (Delivery.Set x) false = silent _ refl
  delivery_picks Delivery.Yield false = silent _ refl
  delivery_picks Delivery.Cancel false = silent _ refl

  why_picks : (y : Why) → Picks (why_offer n s y) (λ w k. thread_taken_for m n (choosing w k) s y)
  why_picks Why.Start = start_picks (admits n s Why.Start)
  why_picks (Why.Delivery d) = delivery_picks d (admits n s (Why.Delivery d))
  why_picks Why.Resumption = silent _ refl

  thread_picks : (p : Option Place) → Picks (thread_offer n s p) (λ w k. thread_taken m n (choosing w k) s p)
  thread_picks (Some (Place.Ready x y)) = why_picks y
  thread_picks _ = silent Never tt

take_picks : (m : Mark) (e : Entry) (s : Core) → Picks (take_offer s e) (λ w k. take_rule m (choosing w k) s e)
take_picks m (Entry.Thread n) s = thread_picks m n s (place_of n s)
take_picks m (Entry.Push i) s = silent _ refl
take_picks m (Entry.Host i) s =
    woken (wakes_in (join_of (Subtask.Host i) s) s) (of_joined (join_of (Subtask.Host i) s) s) (λ w. may_publish (Subtask.Host i) w s) (λ w. publish_fits (Subtask.Host i) w s) _ (host_shows m i)

pub takings_choose : TakingsChoose
unfolding TakingsChoose
takings_choose m e s = chooses {row = λ ch. take_rule m ch s e} (take_picks m e s)

-- ---- No taking hides what it takes

may_shows : (b : Bool) (p : Progress) → hides p ≡ false → hides (may b p) ≡ false
may_shows true p h = h
may_shows false p h = refl

or_shows : {X : Type 0} (o : Option X) (next : X → Progress) → ((x : X) → hides (next x) ≡ false) → hides (or_never o next) ≡ false
or_shows None next h = refl
or_shows (Some x) next h = h x

trap_shows : (b : Bool) (t : Trap) (p : Progress) → hides p ≡ false → hides (trap_if b t p) ≡ false
trap_shows true t p h = refl
trap_shows false t p h = h

module _ (m : Mark) (n : ℕ) (ch : Choice) (s : Core) where
  admitted_shows : (b : Bool) → hides (start_admitted m n ch.woken s b) ≡ false
  admitted_shows true = refl
  admitted_shows false = trap_shows (at_handle_limit s) _ _ (may_shows (may_tell (task_of n s) ch.woken s) _ refl)

  start_shows : (b : Bool) → hides (start_rule m n ch.woken s b) ≡ false
  start_shows true = admitted_shows (is_explicit n s)
  start_shows false = may_shows (may_tell_starting (task_of n s) ch.woken s) _ refl

  set_shows : (x : ℕ) (g : PickedEvent) → hides (set_delivered m n x ch s g) ≡ false
  set_shows x NothingPicked = refl
  set_shows x (PickedTaskEvent e) = may_shows (may_hand_on x (PickedTaskEvent e) ch.woken s) _ refl
  set_shows x (PickedMember sub) = may_shows (may_hand_on x (PickedMember sub) ch.woken s) _ refl

  delivery_shows : (d : Delivery) (b : Bool) → hides (delivery_rule m n ch s d b) ≡ false
  delivery_shows (Delivery.Set x) true = or_shows (picked_event true (task_of n s) x (chosen n ch s) s) _ (set_shows x)
  delivery_shows Delivery.Yield true = refl
  delivery_shows Delivery.Cancel true = refl
  delivery_shows d false = refl

  why_shows : (y : Why) → hides (thread_taken_for m n ch s y) ≡ false
  why_shows Why.Start = start_shows (admits n s Why.Start)
  why_shows (Why.Delivery d) = delivery_shows d (admits n s (Why.Delivery d))
  why_shows Why.Resumption = refl

  thread_shows : (p : Option Place) → hides (thread_taken m n ch s p) ≡ false
  thread_shows (Some (Place.Ready x y)) = why_shows y
  thread_shows _ = refl

pub takes_show : (m : Mark) (ch : Choice) (e : Entry) (s : Core) → hides (take_rule m ch s e) ≡ false
takes_show m ch (Entry.Thread n) s = thread_shows m n ch s (place_of n s)
takes_show m ch (Entry.Push i) s = refl
takes_show m ch (Entry.Host i) s = may_shows (may_publish (Subtask.Host i) ch.woken s) _ refl
