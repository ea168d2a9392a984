-- The thread that a label names as the taker of a member's event is the one that makes the step.
use Rattle.laws_choices.specs.Offers.{op_offer}
use Rattle.laws_labels.proofs.ShowLemmas.{may_shows, or_never_shows, or_trap_shows, trap_if_shows}
use Rattle.laws_labels.specs.Own.{Shows}
use Rattle.laws_picks.proofs.OfferWalk.{call_has, join_has, task_has}
use Rattle.machine_data.specs.Labels.{event_label, held_label, host_label, take_label, wait_label}
use Rattle.machine_data.specs.Moves.{given_for, NothingPicked, PickedEvent, PickedMember, PickedTaskEvent, may_hand_on, may_publish, picked_event, picked_task_event_only, waits_cancellable}
use Rattle.machine_data.specs.declared.statuses.Given.TheVariants as given
use Rattle.machine_data.specs.declared.statuses.Given.{Given}
use Rattle.machine_rules.proofs.Machine.{Asks, Choice, Component, Continues, Core, Delivery, Entry, Fails, Label, Mark, Never, None, Op, OpProgress, Option, Ordered, Place, Progress, Progresses, SetOp, Some, State, Stops, Subtask, Traps, Why, [], admits, ap, at_handle_limit, finds_nothing, instance_of, is_explicit, op_progress_of, passes_check, place_of, refl, set_at, sym, task_of, true, value_of, Bool, false, ℕ, ◌∙◌, ◌≡◌}
use Rattle.machine_rules.specs.Ends.{may_tell}
use Rattle.machine_rules.specs.Finish.{Doer}
use Rattle.machine_rules.specs.Picks.{taken_of, taken_of_given}
use Rattle.machine_rules.specs.Progress.{OneOf}
use Rattle.machine_rules.specs.Sets.{chosen, handed_out, poll_rule, wait_begins_by, wait_goes_on_by, wait_rule}
use Rattle.machine_rules.specs.Step.{entry_number, own_script, scripted_op_rule}
use Rattle.machine_rules.specs.Takes.{delivered, delivery_rule, set_delivered, may_tell_starting, start_admitted, start_begins, start_holds, start_rule, take_rule, thread_taken, thread_taken_for}
use Rattle.std.specs.Prelude.{not}

module _ (n : ℕ) where
  -- a member's event that the label shows, the thread n took
  abbrev pub IsOwn : Label → Type 0
  IsOwn l = (e : ℕ × ℕ) → taken_of l ≡ Some e → e.0 ≡ n

  given_own : (v : Given) (e : ℕ × ℕ) → taken_of_given n v ≡ Some e → e.0 ≡ n
  given_own (given.Subtask status h) e is = first n h e is
    where
      first : (m h : ℕ) (e : ℕ × ℕ) → Some (m, h) ≡ Some e → e.0 ≡ m
      first m h e is = let same : e ≡ (m, h) = cc in ap (λ (d : ℕ × ℕ). d.0) same
  given_own _ e is = absurd (cc)

  none_own : (e : ℕ × ℕ) → None ≡ Some e → e.0 ≡ n
  none_own e is = absurd (cc)

  wait_own : (v : Given) (w : Option ℕ) → IsOwn (wait_label n v w)
  wait_own v None = given_own v
  wait_own v (Some w) = none_own

  event_own : (m : Mark) (v : Given) (w : Option ℕ) → IsOwn (event_label m n v w)
  event_own m v None = given_own v
  event_own m v (Some w) = none_own

  take_own : (m : Mark) (k : ℕ) (w : Option ℕ) → IsOwn (take_label m k w)
  take_own m k None = none_own
  take_own m k (Some w) = none_own

  held_own : (m : Mark) (k : ℕ) (w : Option ℕ) → IsOwn (held_label m k w)
  held_own m k None = none_own
  held_own m k (Some w) = none_own

  host_own : (m : Mark) (k : ℕ) (w : Option ℕ) → IsOwn (host_label m k w)
  host_own m k None = none_own
  host_own m k (Some w) = none_own

  -- ---- Waits and polls

  module _ (d : Doer) (ch : Choice) (s : Core) where
    goes_on_own : (x : ℕ) (g : PickedEvent) → Shows IsOwn (wait_goes_on_by d n x ch s g)
    goes_on_own x NothingPicked = none_own
    goes_on_own x (PickedTaskEvent e) = may_shows IsOwn (may_hand_on x (PickedTaskEvent e) ch.woken s) _ (wait_own (handed_out ch s (PickedTaskEvent e)) ch.woken)
    goes_on_own x (PickedMember sub) = may_shows IsOwn (may_hand_on x (PickedMember sub) ch.woken s) _ (wait_own (handed_out ch s (PickedMember sub)) ch.woken)

    begins_own : (x : ℕ) (b : Bool) → Shows IsOwn (wait_begins_by d n ch s x b)
    begins_own x true = trap_if_shows IsOwn (not (passes_check (instance_of n s) s)) _ _ refl (none_own)
    begins_own x false = or_never_shows IsOwn (picked_event (waits_cancellable (task_of n s) s) (task_of n s) x (chosen n ch s) s) _ (λ g. given_own (handed_out ch s g))

    starts_own : (h : ℕ) → Shows IsOwn (wait_rule d n h ch s OpProgress.Fresh)
    starts_own h = or_trap_shows IsOwn (set_at (instance_of n s) h s) _ _ refl (λ x. begins_own x (finds_nothing n x s))

    wait_shows : (h : ℕ) (f : OpProgress) → Shows IsOwn (wait_rule d n h ch s f)
    wait_shows h (OpProgress.Waits x) = or_never_shows IsOwn (picked_event (waits_cancellable (task_of n s) s) (task_of n s) x (chosen n ch s) s) _ (goes_on_own x)
    wait_shows h _ = starts_own h

    poll_shows : (h : ℕ) → Shows IsOwn (poll_rule d n h ch s)
    poll_shows h = or_trap_shows IsOwn (set_at (instance_of n s) h s) _ _ refl (λ x. or_never_shows IsOwn (picked_event false (task_of n s) x (chosen n ch s) s) _ (λ g. given_own (handed_out ch s g)))

  -- of an op whose offer has members
  pub op_own : (c : Component) (ch : Choice) (s : Core) (o : Op) → ((op_offer n s o).members ≡ [] → ⊥) → Shows IsOwn (scripted_op_rule c n s ch o)
  op_own c ch s (Op.Task o) some = absurd (some (task_has (λ o. o.members ≡ []) s refl (λ x. refl) (λ i o h. h) (λ i o h. h) n o))
  op_own c ch s (Op.Set (SetOp.Wait r x)) some = wait_shows (own_script (Op.Set (SetOp.Wait r x))) ch s (value_of n s x) (op_progress_of n s)
  op_own c ch s (Op.Set (SetOp.Poll r x)) some = poll_shows (own_script (Op.Set (SetOp.Poll r x))) ch s (value_of n s x)
  op_own c ch s (Op.Set (SetOp.Join x y)) some = absurd (some (join_has (λ o. o.members ≡ []) s refl (λ x. refl) n (value_of n s x) (value_of n s y)))
  op_own c ch s (Op.Set (SetOp.New r)) some = absurd (some refl)
  op_own c ch s (Op.Set (SetOp.Drop x)) some = absurd (some refl)
  op_own c ch s (Op.Data o) some = absurd (some refl)
  op_own c ch s (Op.Call o) some = absurd (some (call_has (λ o. o.members ≡ []) s refl (λ x. refl) (λ k. refl) n o))
  op_own c ch s (Op.Thread o) some = absurd (some refl)

  -- ---- Takings

  module _ (m : Mark) (ch : Choice) (s : Core) where
    set_own : (x : ℕ) (g : PickedEvent) → Shows IsOwn (set_delivered m n x ch s g)
    set_own x NothingPicked = none_own
    set_own x (PickedTaskEvent e) = may_shows IsOwn (may_hand_on x (PickedTaskEvent e) ch.woken s) _ (event_own m (handed_out ch s (PickedTaskEvent e)) ch.woken)
    set_own x (PickedMember sub) = may_shows IsOwn (may_hand_on x (PickedMember sub) ch.woken s) _ (event_own m (handed_out ch s (PickedMember sub)) ch.woken)

    delivered_own : (y : Delivery) → Shows IsOwn (delivered m n ch s y)
    delivered_own (Delivery.Set x) = or_never_shows IsOwn (picked_event true (task_of n s) x (chosen n ch s) s) _ (set_own x)
    delivered_own Delivery.Yield = event_own m (given_for (picked_task_event_only (task_of n s) s) 0 s) None
    delivered_own Delivery.Cancel = event_own m (given_for (picked_task_event_only (task_of n s) s) 0 s) None

    delivery_own : (y : Delivery) (b : Bool) → Shows IsOwn (delivery_rule m n ch s y b)
    delivery_own y true = delivered_own y
    delivery_own y false = held_own m n None

    admitted_own : (w : Option ℕ) (b : Bool) → Shows IsOwn (start_admitted m n w s b)
    admitted_own w true = take_own m n None
    admitted_own w false = trap_if_shows IsOwn (at_handle_limit s) _ _ refl (may_shows IsOwn (may_tell (task_of n s) w s) (Continues (take_label m n w) (start_begins n w s) n) (take_own m n w))

    start_own : (w : Option ℕ) (b : Bool) → Shows IsOwn (start_rule m n w s b)
    start_own w true = admitted_own w (is_explicit n s)
    start_own w false = may_shows IsOwn (may_tell_starting (task_of n s) w s) (Stops (held_label m n w) (start_holds n w s)) (held_own m n w)

    why_own : (y : Why) → Shows IsOwn (thread_taken_for m n ch s y)
    why_own Why.Start = start_own ch.woken (admits n s Why.Start)
    why_own (Why.Delivery d) = delivery_own d (admits n s (Why.Delivery d))
    why_own Why.Resumption = take_own m n None

    taken_own : (p : Option Place) → Shows IsOwn (thread_taken m n ch s p)
    taken_own (Some (Place.Ready x y)) = why_own y
    taken_own _ = tt

pub take_shows : (m : Mark) (ch : Choice) (s : Core) (e : Entry) → Shows (IsOwn (entry_number e)) (take_rule m ch s e)
take_shows m ch s (Entry.Thread n) = taken_own n m ch s (place_of n s)
take_shows m ch s (Entry.Push i) = none_own i
take_shows m ch s (Entry.Host i) = may_shows (IsOwn i) (may_publish (Subtask.Host i) ch.woken s) _ (host_own i m i ch.woken)

-- ---- Steps

module _ (n : ℕ) (s : State) (base : Core) (k : ℕ) (l : Label) (t : State) where
  pub step_own : (p : Progress) → Shows (IsOwn n) p → Progresses s base k p l t → IsOwn n l
  step_own (Continues x new m) own h = λ e is. own e (ap taken_of (sym h.0) ∙ is)
  step_own (Stops x new) own h = λ e is. own e (ap taken_of (sym h.0) ∙ is)
  step_own (Traps y) own h = λ e is. absurd (let bad = ap taken_of (sym h.0) ∙ is in cc)
  step_own (Fails i) own h = λ e is. absurd (let bad = ap taken_of (sym h.0) ∙ is in cc)
  step_own Never own h = absurd h
  step_own (Ordered ns next) own h = step_own (next h.0) (own h.0) h.1.1
  step_own (OneOf ns next) own h = step_own (next h.0) (own h.0) h.1.1
  step_own (Asks next) own h = step_own (next h.0) (own h.0) h.1
