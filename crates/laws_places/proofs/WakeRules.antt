-- What becomes of wakes in the rules that use one up, and in those of starts and joins.
unfoldable use Rattle.machine_data.specs.Write.{arrive}
use Rattle.laws_places.proofs.Laws.{activated, activated_woken, advanced, ap, arith, at_handle_limit, at_turn, Bool, Call, Choice, chosen, Component, Core, Delivery, delivery_rule, Doer, event_label, event_of, ExportKind, false, finish, foot_of, get, get-change, PickedEvent, picked_event, picked_event_none, give_thread_handle, Continues, goes_to, handed_on, handed_out, has_ready_member, held_label, host_taken, if◌then◌else◌, inl, inr, instance_of, is_callback_waiter, is_explicit, is_none, is_ready_member, is_some, is_told, is_waiter, is_waiting_on, is_woken_at, Join, join_done, join_done_by, join_label, join_of, join_others, join_rule, join_to, join_to_by, joined, joins, kind_of, Label, Mark, may, may_hand_on, may_tell, may_tell_starting, may_wake, may_wake_new, member_same, PickedMember, Moved, moved_over, moved_to, nat_tests, NoAnswer, NothingPicked, None, none_waits, on_call, on_instance, on_thread, on_work, Option, option_and_then, option_map_or, or_never, or_trap, TaskEvent, PickedTaskEvent, OwnScript, Place, place_of, placing_shifted, Progresses, published, published_wakes, push_high, put_high, received, received_by, received_woken, received_woken_by, Records, refl, running, same_subtask, set_at, set_cancel_delivered, set_delivered, set_do_not_enter, set_do_not_suspend, set_event, set_given, set_op_progress, set_join, set_task_event, set_place, set_place_is, set_position, set_register, set_saved_own, set_script, set_started, set_starting_published, set_thread_handle, shifted_calls, Some, SomeHost, start_admitted, start_begins, start_holds, start_rule, start_sets_flags, starting_is_published, starting_told, State, Status, Stop, stopped, stopped_shifted, Stops, subst, Subtask, subtask_at, suc, sym, take_holds, take_label, taken, task_of, told, told_spares, told_to, ToldSpares, ToldTo, Trap, trap_if, true, Turn, wait_goes_on, wait_goes_on_by, wait_label, wake, wake_why, waken_by, wakes_joined, wakes_one, WakesOne, Why, with_thread_handle, written_by, zero, ℕ, ⊎_elim, ◌==◌, ◌∙◌, ◌≡◌, ◌⊎◌}
use Rattle.machine_data.specs.declared.statuses.Given.{Given as Handout}
use Rattle.machine_data.specs.Read.{is_watched as is_in_own}

-- ---- What is said of wakes

-- it doesn't wait, and is not cancelled
abbrev pub is_past : Option Place → Bool
is_past (Some (Place.Waiting x c)) = false
is_past (Some (Place.Ready m (Why.Delivery Delivery.Cancel))) = false
is_past (Some (Place.Held (Why.Delivery Delivery.Cancel))) = false
is_past _ = true

-- From s to t a thread that waits on the set is woken, if there is one.
pub data WokeOne (x : ℕ) (s t : Core) : Type 0 where
  NobodyWaits : ((m : ℕ) → is_waiter x m s ≡ false) → WokeOne x s t
  WokeThis : (m : ℕ) → is_waiter x m s ≡ true → is_past (place_of m t) ≡ true → WokeOne x s t

-- Why the woken thread n isn't woken any more, if it isn't.
pub data Spends (x n : ℕ) (s t : Core) : Type 0 where
  StaysWoken : is_woken_at x n t ≡ true → Spends x n s t
  TookMember : (sub : Subtask) → is_ready_member x sub s ≡ true → event_of sub t ≡ None → Spends x n s t
  HandedOn : WokeOne x s t → Spends x n s t
  NoneReady : has_ready_member x s ≡ false → Spends x n s t

-- the label says nothing of the ends of subtasks
abbrev pub IsSilent : Label → Type 0
IsSilent l = (host_taken l ≡ None) × ((c : Component) (s t : Core) → written_by c s l t ≡ None)

silent_as : {l k : Label} → l ≡ k → IsSilent k → IsSilent l
silent_as is h = subst (λ (y : Label). IsSilent y) (sym is) h

wait_silent : (n : ℕ) (v : Handout) (w : Option ℕ) → IsSilent (wait_label n v w)
wait_silent n v w = (grind arith, λ c s t. grind arith)

event_silent : (m : Mark) (n : ℕ) (v : Handout) (w : Option ℕ) → IsSilent (event_label m n v w)
event_silent m n v w = (grind arith, λ c s t. grind arith)

held_silent : (m : Mark) (n : ℕ) (w : Option ℕ) → IsSilent (held_label m n w)
held_silent m n w = (grind arith, λ c s t. grind arith)

take_silent : (m : Mark) (n : ℕ) (w : Option ℕ) → IsSilent (take_label m n w)
take_silent m n w = (grind arith, λ c s t. grind arith)

join_silent : (n : ℕ) (w : Option ℕ) → IsSilent (join_label n w)
join_silent n w = (grind arith, λ c s t. grind arith)

-- ---- Gifts

picked_event_member : (by : Bool) (k y : ℕ) (o : Option Subtask) (s : Core) (sub : Subtask) → picked_event by k y o s ≡ Some (PickedMember sub) → is_ready_member y sub s ≡ true
unfolding picked_event
picked_event_member by k y o s sub h = grind arith

pub woken_is_past : (x : ℕ) (b : Bool) → is_past (Some (Place.Ready Mark.High (wake_why x b))) ≡ true
woken_is_past x true = refl
woken_is_past x false = refl

woke_by_place : (x m : ℕ) (s t u : Core) → is_waiter x m s ≡ true → place_of m u ≡ Some (Place.Ready Mark.High (wake_why x (is_callback_waiter m s))) → place_of m t ≡ place_of m u → WokeOne x s t
woke_by_place x m s t u waits at same = WokeThis m waits (ap is_past (same ∙ at) ∙ woken_is_past x (is_callback_waiter m s))

-- the task event is taken, and the wake is handed on, if it is to be
hands : (x n : ℕ) (e : TaskEvent) (w : Option ℕ) (s t : Core) → may_hand_on x (PickedTaskEvent e) w s ≡ true →
    ((m : ℕ) → (m == n) ≡ false → place_of m t ≡ place_of m (handed_on x (PickedTaskEvent e) w s)) → is_waiter x n s ≡ false → Spends x n s t
unfolding may_hand_on handed_on may_wake
hands x n e w s t may same own = by (has_ready_member x s) refl may same
  where
    woken : (w : Option ℕ) → may_wake x w s ≡ true → ((m : ℕ) → (m == n) ≡ false → place_of m t ≡ place_of m (wake x w s)) → WokeOne x s t
    woken None may same = NobodyWaits (λ m. none_waits x m s (grind arith))
    woken (Some m) may same = woke_by_place x m s t (wake x (Some m) s) may (wakes_one x m s may) (same m (apart (m == n) refl))
      where
        apart : (b : Bool) → (m == n) ≡ b → (m == n) ≡ false
        apart false is = is
        apart true is = absurd (let at : m ≡ n = grind (arith, nat_tests) in let waits : is_waiter x m s ≡ true = may in grind (arith, own))

    by : (b : Bool) → has_ready_member x s ≡ b → (if b then may_wake x w s else is_none w) ≡ true →
        ((m : ℕ) → (m == n) ≡ false → place_of m t ≡ place_of m (if b then wake x w s else s)) → Spends x n s t
    by false is may same = NoneReady is
    by true is may same = HandedOn (woken w may same)

-- ---- A wait that goes on

received_place : (d : Doer) (m n : ℕ) (e : TaskEvent) (v : Handout) (u : Core) → place_of m (received_by d n (PickedTaskEvent e) v u) ≡ place_of m u
unfolding advanced moved_to set_op_progress set_position on_thread set_given set_register taken set_task_event set_cancel_delivered on_call
received_place (OwnScript r) m n e v u = grind (arith, nat_tests, get-change)
received_place SomeHost m n e v u = grind (arith, nat_tests, get-change)

received_event : (d : Doer) (n : ℕ) (sub : Subtask) (v : Handout) (u : Core) → event_of sub (received_by d n (PickedMember sub) v u) ≡ None
unfolding advanced moved_to set_op_progress set_position on_thread set_given set_register taken set_event on_call on_work
received_event (OwnScript r) n (Subtask.Guest k) v u = grind (arith, nat_tests, get-change)
received_event (OwnScript r) n (Subtask.Host i) v u = grind (arith, nat_tests, get-change)
received_event SomeHost n (Subtask.Guest k) v u = grind (arith, nat_tests, get-change)
received_event SomeHost n (Subtask.Host i) v u = grind (arith, nat_tests, get-change)

module _ (s t : State) (l : Label) (n y : ℕ) where
  -- in terms of the state that a step leads to
  led : (b : Core) (new : Core) (u : Turn) → t ≡ goes_to s new u → Spends y n b new → Spends y n b t.core
  unfolding at_turn
  led b new u is h = subst (λ (v : State). Spends y n b v.core) (sym is) h

  pub wait_spends : (may_cancel : Bool) (d : Doer) (ch : Choice) → is_waiter y n s.core ≡ false → (o : Option PickedEvent) → picked_event may_cancel (task_of n s.core) y (chosen n ch s.core) s.core ≡ o →
      Progresses s s.core n (or_never o (wait_goes_on_by d n y ch s.core)) l t → IsSilent l × Spends y n s.core t.core
  wait_spends may_cancel d ch own None is row = absurd row
  wait_spends may_cancel d ch own (Some NothingPicked) is row = (silent_as row.0 (refl, λ c s t. refl), led s.core _ _ row.1 (NoneReady (picked_event_none may_cancel (task_of n s.core) y (chosen n ch s.core) s.core is)))
  wait_spends may_cancel d ch own (Some (PickedTaskEvent e)) is row = by (may_hand_on y (PickedTaskEvent e) ch.woken s.core) refl row
    where
      v : Handout
      v = handed_out ch s.core (PickedTaskEvent e)

      by : (b : Bool) → may_hand_on y (PickedTaskEvent e) ch.woken s.core ≡ b →
          Progresses s s.core n (may b (Continues (wait_label n v ch.woken) (received_woken_by d n y ch.woken (PickedTaskEvent e) v s.core) n)) l t → IsSilent l × Spends y n s.core t.core
      by false is row = absurd row
      by true is row = (silent_as row.0 (wait_silent n v ch.woken), led s.core _ _ row.1 (hands y n e ch.woken s.core _ is (λ m other. received_place d m n e v (handed_on y (PickedTaskEvent e) ch.woken s.core)) own))
  wait_spends may_cancel d ch own (Some (PickedMember sub)) is row = by (may_hand_on y (PickedMember sub) ch.woken s.core) row
    where
      v : Handout
      v = handed_out ch s.core (PickedMember sub)

      by : (b : Bool) → Progresses s s.core n (may b (Continues (wait_label n v ch.woken) (received_woken_by d n y ch.woken (PickedMember sub) v s.core) n)) l t → IsSilent l × Spends y n s.core t.core
      by false row = absurd row
      by true row = (silent_as row.0 (wait_silent n v ch.woken), led s.core _ _ row.1 (TookMember sub (picked_event_member may_cancel (task_of n s.core) y (chosen n ch s.core) s.core sub is) (received_event d n sub v (handed_on y (PickedMember sub) ch.woken s.core))))

-- ---- A delivery for the set

activated_place : (m n : ℕ) (e : TaskEvent) (v : Handout) (u : Core) → (m == n) ≡ false → place_of m (activated n (PickedTaskEvent e) v u) ≡ place_of m u
unfolding activated moved_to set_op_progress set_position on_thread set_given set_register taken set_task_event set_cancel_delivered on_call set_place set_script set_do_not_enter on_instance
activated_place m n e v u other = grind (arith, nat_tests, get-change, other)

activated_event : (n : ℕ) (sub : Subtask) (v : Handout) (u : Core) → event_of sub (activated n (PickedMember sub) v u) ≡ None
unfolding activated moved_to set_op_progress set_position on_thread set_given set_register taken set_event on_call on_work set_place set_script set_do_not_enter on_instance
activated_event n (Subtask.Guest k) v u = grind (arith, nat_tests, get-change)
activated_event n (Subtask.Host i) v u = grind (arith, nat_tests, get-change)

held_woken : (y n : ℕ) (t : Core) → place_of n t ≡ Some (Place.Held (Why.Delivery (Delivery.Set y))) → is_woken_at y n t ≡ true
held_woken y n t at = grind (arith, nat_tests)

-- who has come changes no place
arrived_place : (m n : ℕ) (s : Core) → place_of m (arrive n s) ≡ place_of m s
unfolding arrive on_thread
arrived_place m n s = grind (arith, nat_tests, get-change)

held_at : (n : ℕ) (w : Why) (s : Core) → is_some (place_of n s) ≡ true → place_of n (take_holds n w s) ≡ Some (Place.Held w)
unfolding take_holds
held_at n w s there =
    let u = stopped (foot_of n s) s in
    let same = (placing_shifted (Stop (foot_of n s)) s).threads n in
    let here : is_some (place_of n u) ≡ true = grind arith in
    let now : is_some (place_of n (arrive n u)) ≡ true = ap (λ (o : Option Place). is_some o) (arrived_place n n u) ∙ here in
    grind (arith, nat_tests, set_place_is n n (Place.Held w) (arrive n u))

module _ (s t : State) (l : Label) (b : Core) (m : Mark) (n y : ℕ) where
  delivered_spends : (ch : Choice) → is_waiter y n b ≡ false → (o : Option PickedEvent) → picked_event true (task_of n b) y (chosen n ch b) b ≡ o →
      Progresses s b n (or_never o (set_delivered m n y ch b)) l t → IsSilent l × Spends y n b t.core
  unfolding activated_woken
  delivered_spends ch own None is row = absurd row
  delivered_spends ch own (Some NothingPicked) is row = (silent_as row.0 (refl, λ c s t. refl), led s t l n y b _ _ row.1 (NoneReady (picked_event_none true (task_of n b) y (chosen n ch b) b is)))
  delivered_spends ch own (Some (PickedTaskEvent e)) is row = by (may_hand_on y (PickedTaskEvent e) ch.woken b) refl row
    where
      v : Handout
      v = handed_out ch b (PickedTaskEvent e)

      by : (q : Bool) → may_hand_on y (PickedTaskEvent e) ch.woken b ≡ q →
          Progresses s b n (may q (Continues (event_label m n v ch.woken) (activated_woken n y ch.woken (PickedTaskEvent e) v b) n)) l t → IsSilent l × Spends y n b t.core
      by false is row = absurd row
      by true is row = (silent_as row.0 (event_silent m n v ch.woken), led s t l n y b _ _ row.1 (hands y n e ch.woken b _ is (λ j other. activated_place j n e v (handed_on y (PickedTaskEvent e) ch.woken b) other) own))
  delivered_spends ch own (Some (PickedMember sub)) is row = by (may_hand_on y (PickedMember sub) ch.woken b) row
    where
      v : Handout
      v = handed_out ch b (PickedMember sub)

      by : (q : Bool) → Progresses s b n (may q (Continues (event_label m n v ch.woken) (activated_woken n y ch.woken (PickedMember sub) v b) n)) l t → IsSilent l × Spends y n b t.core
      by false row = absurd row
      by true row = (silent_as row.0 (event_silent m n v ch.woken), led s t l n y b _ _ row.1 (TookMember sub (picked_event_member true (task_of n b) y (chosen n ch b) b sub is) (activated_event n sub v (handed_on y (PickedMember sub) ch.woken b))))

  pub delivery_spends : (ch : Choice) → is_waiter y n b ≡ false → is_some (place_of n b) ≡ true → (q : Bool) →
      Progresses s b n (delivery_rule m n ch b (Delivery.Set y) q) l t → IsSilent l × Spends y n b t.core
  delivery_spends ch own there true row = delivered_spends ch own (picked_event true (task_of n b) y (chosen n ch b) b) refl row
  delivery_spends ch own there false row = (silent_as row.0 (held_silent m n None), led s t l n y b _ _ row.1 (StaysWoken (held_woken y n (take_holds n (Why.Delivery (Delivery.Set y)) b) (held_at n (Why.Delivery (Delivery.Set y)) b there))))

-- ---- Who is on stays so

pub moved_past : (may : Why → Type 0) (o p : Option Place) → (may (Why.Delivery Delivery.Cancel) → ⊥) → Moved may o p → is_past o ≡ true → is_past p ≡ true
moved_past may o p none came on = grind arith

abbrev resumes_only : ℕ → Why → Type 0
resumes_only k w = w ≡ Why.Resumption

holds_past : (n m : ℕ) (w : Why) (s : Core) → (m == n) ≡ false → is_past (place_of m s) ≡ true → is_past (place_of m (take_holds n w s)) ≡ true
unfolding take_holds
holds_past n m w s other on =
    let u = stopped (foot_of n s) s in
    let still = moved_past (resumes_only m) (place_of m s) (place_of m u) (λ e. absurd (cc)) (stopped_shifted resumes_only (λ k. refl) (foot_of n s) s m) on in
    let now : is_past (place_of m (arrive n u)) ≡ true = ap (λ (o : Option Place). is_past o) (arrived_place m n u) ∙ still in
    grind (arith, nat_tests, set_place_is m n (Place.Held w) (arrive n u))

-- ---- Starts

-- a waiter of the set that the call is in is woken, or the call's event stays
abbrev pub StartTells : ℕ → Core → Core → Type 0
StartTells k b t = (x : ℕ) → join_of (Subtask.Guest k) b ≡ Join.Set x → WokeOne x b t ⊎ (event_of (Subtask.Guest k) t ≡ event_of (Subtask.Guest k) b)

-- in terms of the core b, at whose end n is elsewhere
woke_as : (x n : ℕ) (b u v t : Core) → ((m : ℕ) → place_of m u ≡ place_of m b) → ((m : ℕ) → (m == n) ≡ false → is_past (place_of m v) ≡ true → is_past (place_of m t) ≡ true) →
    is_waiter x n b ≡ false → WokeOne x u v → WokeOne x b t
woke_as x n b u v t same on own (NobodyWaits none) = NobodyWaits (λ m. let p = same m in let free = none m in grind arith)
woke_as x n b u v t same on own (WokeThis m waits now) =
    let p = same m in let was : is_waiter x m b ≡ true = grind arith in WokeThis m was (on m (apart (m == n) refl was) now)
  where
    apart : (q : Bool) → (m == n) ≡ q → is_waiter x m b ≡ true → (m == n) ≡ false
    apart false is was = is
    apart true is was = absurd (let at : m ≡ n = grind (arith, nat_tests) in grind (arith, own))

told_woke : (k : ℕ) (e : Status) (w : Option ℕ) (u : Core) (x : ℕ) → ToldTo k w u → ToldSpares k w u → join_of (Subtask.Guest k) u ≡ Join.Set x →
    WokeOne x u (told k e w u) ⊎ (event_of (Subtask.Guest k) (told k e w u) ≡ event_of (Subtask.Guest k) u)
unfolding told set_event on_call
told_woke k e w u x to spare is = by (is_told k u) refl
  where
    woke : WakesOne x (set_event (Subtask.Guest k) (Some e) u) (published (Subtask.Guest k) e w u) → WokeOne x u (published (Subtask.Guest k) e w u)
    woke (inl none) = NobodyWaits none
    woke (inr m) = woke_by_place x m.0 u (published (Subtask.Guest k) e w u) (published (Subtask.Guest k) e w u) m.1.0 m.1.1 refl

    by : (q : Bool) → is_told k u ≡ q → WokeOne x u (if q then published (Subtask.Guest k) e w u else u) ⊎ (event_of (Subtask.Guest k) (if q then published (Subtask.Guest k) e w u else u) ≡ event_of (Subtask.Guest k) u)
    by true told = inl (woke (published_wakes (Subtask.Guest k) e w u (to told) (spare told) x is))
    by false untold = inr refl

abbrev begun_in : ℕ → Core → Core
begun_in n b = set_started (task_of n b) (with_thread_handle (instance_of n b) n b)

record BegunAs (n : ℕ) (w : Option ℕ) (b : Core) : Type 0 where
  places : (m : ℕ) → place_of m (begun_in n b) ≡ place_of m b
  told : is_told (task_of n b) (begun_in n b) ≡ is_told (task_of n b) b
  join : join_of (Subtask.Guest (task_of n b)) (begun_in n b) ≡ join_of (Subtask.Guest (task_of n b)) b
  event : event_of (Subtask.Guest (task_of n b)) (begun_in n b) ≡ event_of (Subtask.Guest (task_of n b)) b

begun_as : (n : ℕ) (w : Option ℕ) (b : Core) → BegunAs n w b
unfolding set_started on_call with_thread_handle set_thread_handle give_thread_handle on_thread
begun_as n w b = record {
  places = λ m. grind (arith, nat_tests, get-change);
  told = grind (arith, nat_tests, get-change);
  join = grind (arith, nat_tests, get-change);
  event = grind (arith, nat_tests, get-change);
}

begun_end : (n m : ℕ) (q : ExportKind) (v : Core) → (m == n) ≡ false → place_of m (set_place n Place.Running (start_sets_flags n q v)) ≡ place_of m v
unfolding set_place on_thread set_do_not_suspend set_do_not_enter on_instance set_saved_own
begun_end n m ExportKind.Sync v other = grind (arith, nat_tests, get-change, other)
begun_end n m ExportKind.Stackful v other = grind (arith, nat_tests, get-change, other)
begun_end n m ExportKind.Blocking v other = grind (arith, nat_tests, get-change, other)
begun_end n m ExportKind.Callback v other = grind (arith, nat_tests, get-change, other)

begun_calls : (n : ℕ) (q : ExportKind) (v : Core) → (set_place n Place.Running (start_sets_flags n q v)).calls ≡ v.calls
unfolding set_place on_thread set_do_not_suspend set_do_not_enter on_instance set_saved_own
begun_calls n ExportKind.Sync v = refl
begun_calls n ExportKind.Stackful v = refl
begun_calls n ExportKind.Blocking v = refl
begun_calls n ExportKind.Callback v = refl

starting_as : (k : ℕ) (b : Core) → ((m : ℕ) → place_of m (set_starting_published k b) ≡ place_of m b) ×
    ((is_told k (set_starting_published k b) ≡ is_told k b) × ((join_of (Subtask.Guest k) (set_starting_published k b) ≡ join_of (Subtask.Guest k) b) ×
    (event_of (Subtask.Guest k) (set_starting_published k b) ≡ event_of (Subtask.Guest k) b)))
unfolding set_starting_published on_call
starting_as k b = (λ m. refl, (grind (arith, nat_tests, get-change), (grind (arith, nat_tests, get-change), grind (arith, nat_tests, get-change))))

over_now : (s t : State) (new : Core) → t ≡ goes_to s new Turn.Over → t.turn ≡ Turn.Over
unfolding at_turn
over_now s t new is = ap (λ (v : State). v.turn) is

module _ (s t : State) (l : Label) (b : Core) (m : Mark) (n : ℕ) (live : t.turn ≡ Turn.Over → ⊥) where
  abbrev k : ℕ
  k = task_of n b

  led_start : (new : Core) (u : Turn) → t ≡ goes_to s new u → StartTells k b new → StartTells k b t.core
  unfolding at_turn
  led_start new u is h = subst (λ (v : State). StartTells k b v.core) (sym is) h

  begins_tells : (w : Option ℕ) → ((x : ℕ) → is_waiter x n b ≡ false) → may_tell k w b ≡ true → StartTells k b (start_begins n w b)
  unfolding start_begins
  begins_tells w own may x is =
      let h = begun_as n w b in
      let v = told k Status.Started w (begun_in n b) in
      let q = kind_of k b in
      ⊎_elim (λ woke. inl (woke_as x n b (begun_in n b) v _ h.places (λ j other on. ap is_past (begun_end n j q v other) ∙ on) (own x) woke))
      (λ same. inr (ap (λ (r : Records Call). option_and_then (λ (c : Call). c.event) (get r k)) (begun_calls n q v) ∙ (same ∙ h.event)))
      (told_woke k Status.Started w (begun_in n b) x
      (λ told y at j chosen. ap (λ (p : Option Place). option_map_or (is_waiting_on y) p false) (h.places j) ∙ told_to k w b may (sym h.told ∙ told) y (sym h.join ∙ at) j chosen)
      (λ told y at none j. ap (λ (p : Option Place). option_map_or (is_waiting_on y) p false) (h.places j) ∙ told_spares k w b may (sym h.told ∙ told) y (sym h.join ∙ at) none j)
      (h.join ∙ is))

  holds_event : (v : Core) → event_of (Subtask.Guest k) (take_holds n Why.Start v) ≡ event_of (Subtask.Guest k) v
  unfolding take_holds set_place on_thread arrive
  holds_event v = ap (λ (r : Records Call). option_and_then (λ (c : Call). c.event) (get r k)) (shifted_calls (placing_shifted (Stop (foot_of n v)) v))

  holds_tells : (w : Option ℕ) → ((x : ℕ) → is_waiter x n b ≡ false) → may_tell_starting k w b ≡ true → StartTells k b (start_holds n w b)
  unfolding start_holds starting_told may_tell_starting
  holds_tells w own may x is = by (starting_is_published k b) refl may
    where
      by : (q : Bool) → starting_is_published k b ≡ q → (if q then is_none w else may_tell k w b) ≡ true →
          WokeOne x b (take_holds n Why.Start (if q then b else told k Status.Starting w (set_starting_published k b))) ⊎
          (event_of (Subtask.Guest k) (take_holds n Why.Start (if q then b else told k Status.Starting w (set_starting_published k b))) ≡ event_of (Subtask.Guest k) b)
      by true at may = inr (holds_event b)
      by false at may =
          let h = starting_as k b in
          let u = set_starting_published k b in
          let v = told k Status.Starting w u in
          ⊎_elim (λ woke. inl (woke_as x n b u v _ h.0 (λ j other on. holds_past n j Why.Start v other on) (own x) woke))
          (λ same. inr (holds_event v ∙ (same ∙ h.1.1.1)))
          (told_woke k Status.Starting w u x
          (λ told y at j chosen. ap (λ (p : Option Place). option_map_or (is_waiting_on y) p false) (h.0 j) ∙ told_to k w b may (sym h.1.0 ∙ told) y (sym h.1.1.0 ∙ at) j chosen)
          (λ told y at none j. ap (λ (p : Option Place). option_map_or (is_waiting_on y) p false) (h.0 j) ∙ told_spares k w b may (sym h.1.0 ∙ told) y (sym h.1.1.0 ∙ at) none j)
          (h.1.1.0 ∙ is))

  runs_event : event_of (Subtask.Guest k) (running n b) ≡ event_of (Subtask.Guest k) b
  unfolding running set_place on_thread
  runs_event = refl

  admitted_tells : (w : Option ℕ) → ((x : ℕ) → is_waiter x n b ≡ false) → (q : Bool) → Progresses s b n (start_admitted m n w b q) l t → IsSilent l × StartTells k b t.core
  admitted_tells w own true row = (silent_as row.0 (take_silent m n None), led_start _ _ row.1 (λ x is. inr runs_event))
  admitted_tells w own false row = by (at_handle_limit b) (may_tell k w b) refl row
    where
      by : (c q : Bool) → may_tell k w b ≡ q → Progresses s b n (trap_if c Trap.HandleLimit (may q (Continues (take_label m n w) (start_begins n w b) n))) l t → IsSilent l × StartTells k b t.core
      by true q is row = absurd (live (over_now s t _ row.1))
      by false false is row = absurd row
      by false true is row = (silent_as row.0 (take_silent m n w), led_start _ _ row.1 (begins_tells w own is))

  pub start_tells : (w : Option ℕ) → ((x : ℕ) → is_waiter x n b ≡ false) → (q : Bool) → Progresses s b n (start_rule m n w b q) l t → IsSilent l × StartTells k b t.core
  start_tells w own true row = admitted_tells w own (is_explicit n b) row
  start_tells w own false row = by (may_tell_starting k w b) refl row
    where
      by : (q : Bool) → may_tell_starting k w b ≡ q → Progresses s b n (may q (Stops (held_label m n w) (start_holds n w b))) l t → IsSilent l × StartTells k b t.core
      by false is row = absurd row
      by true is row = (silent_as row.0 (held_silent m n w), led_start _ _ row.1 (holds_tells w own is))

-- ---- Joins

-- one subtask alone can become a member that has an event, and then a waiter of its set is woken
abbrev pub JoinTells : Core → Core → Type 0
JoinTells s t = (sub : Subtask) × (((x : ℕ) (d : Subtask) → same_subtask d sub ≡ false → is_ready_member x d t ≡ true → is_ready_member x d s ≡ true) ×
    ((x : ℕ) → is_ready_member x sub t ≡ true → WokeOne x s t))

woken_records : (y n : ℕ) (b : Bool) (u : Core) → ((waken_by b y n u).calls ≡ u.calls) × ((waken_by b y n u).works ≡ u.works)
unfolding put_high push_high set_place on_thread
woken_records y n true u = (refl, refl)
woken_records y n false u = (refl, refl)

joined_records : (o : Option Status) (y w : Option ℕ) (u : Core) → ((wakes_joined o y w u).calls ≡ u.calls) × ((wakes_joined o y w u).works ≡ u.works)
unfolding wake
joined_records (Some e) (Some y) (Some n) u = woken_records y n (is_callback_waiter n u) u
joined_records (Some e) (Some y) None u = (refl, refl)
joined_records (Some e) None w u = (refl, refl)
joined_records None y w u = (refl, refl)

done_place : (d : Doer) (m n : ℕ) (u : Core) → place_of m (finish d n NoAnswer u) ≡ place_of m u
unfolding advanced moved_to set_op_progress set_position on_thread
done_place (OwnScript r) m n u = grind (arith, nat_tests, get-change)
done_place SomeHost m n u = grind (arith, nat_tests, get-change)

done_records : (d : Doer) (n : ℕ) (u : Core) → ((finish d n NoAnswer u).calls ≡ u.calls) × ((finish d n NoAnswer u).works ≡ u.works)
unfolding advanced moved_to set_op_progress set_position on_thread
done_records (OwnScript r) n u = (refl, refl)
done_records SomeHost n u = (refl, refl)

joined_place : (m : ℕ) (sub : Subtask) (j : Join) (s : Core) → place_of m (set_join sub j s) ≡ place_of m s
unfolding set_join on_call on_work
joined_place m (Subtask.Guest k) j s = refl
joined_place m (Subtask.Host i) j s = refl

own_joins : (x : ℕ) (sub : Subtask) (y : Option ℕ) (s : Core) → is_ready_member x sub (set_join sub (joins y) s) ≡ true → (y ≡ Some x) × (is_some (event_of sub s) ≡ true)
unfolding set_join on_call on_work
own_joins x (Subtask.Guest k) None s h = absurd (grind (arith, nat_tests, get-change))
own_joins x (Subtask.Host i) None s h = absurd (grind (arith, nat_tests, get-change))
own_joins x (Subtask.Guest k) (Some z) s h = (grind (arith, nat_tests, get-change), grind (arith, nat_tests, get-change))
own_joins x (Subtask.Host i) (Some z) s h = (grind (arith, nat_tests, get-change), grind (arith, nat_tests, get-change))

own_wakes : (d : Doer) (n x : ℕ) (o : Option Status) (w : Option ℕ) (u s : Core) → ((m : ℕ) → place_of m u ≡ place_of m s) → is_some o ≡ true → may_wake_new o (Some x) w s ≡ true →
    WokeOne x s (finish d n NoAnswer (wakes_joined o (Some x) w u))
unfolding may_wake
own_wakes d n x None w u s same some may = absurd (cc)
own_wakes d n x (Some e) None u s same some may = NobodyWaits (λ m. none_waits x m s (grind arith))
own_wakes d n x (Some e) (Some m) u s same some may =
    WokeThis m may (ap is_past (done_place d m n (wake x (Some m) u) ∙ wakes_one x m u (ap (λ (p : Option Place). option_map_or (is_waiting_on x) p false) (same m) ∙ may)) ∙ woken_is_past x (is_callback_waiter m u))

join_tells : (d : Doer) (n : ℕ) (sub : Subtask) (y w : Option ℕ) (s : Core) → may_wake_new (event_of sub s) y w s ≡ true → JoinTells s (finish d n NoAnswer (moved_over sub y w s))
unfolding moved_over
join_tells d n sub y w s may = (
  sub,
  (
    λ x b other h. sym (join_others x b sub (joins y) s other) ∙ (sym (ready x b) ∙ h),
    λ x h. let own = own_joins x sub y s (sym (ready x sub) ∙ h) in
        subst (λ (z : Option ℕ). WokeOne x s (finish d n NoAnswer (wakes_joined (event_of sub s) z w (set_join sub (joins z) s)))) (sym own.0)
        (own_wakes d n x (event_of sub s) w (set_join sub (joins (Some x)) s) s (λ m. joined_place m sub (joins (Some x)) s) own.1 (sym (ap (λ (z : Option ℕ). may_wake_new (event_of sub s) z w s) own.0) ∙ may)),
  ),
)
  where
    ready : (x : ℕ) (b : Subtask) → is_ready_member x b (finish d n NoAnswer (moved_over sub y w s)) ≡ is_ready_member x b (set_join sub (joins y) s)
    ready x b =
        let r = joined_records (event_of sub s) y w (set_join sub (joins y) s) in
        let f = done_records d n (moved_over sub y w s) in
        member_same x (set_join sub (joins y) s) (finish d n NoAnswer (moved_over sub y w s)) (f.0 ∙ r.0) (f.1 ∙ r.1) b

module _ (s t : State) (l : Label) (n : ℕ) (live : t.turn ≡ Turn.Over → ⊥) (d : Doer) where
  join_leads : (sub : Subtask) (w y : Option ℕ) → Progresses s s.core n (join_done_by d n sub w s.core y) l t → IsSilent l × JoinTells s.core t.core
  unfolding at_turn
  join_leads sub w y row = by (is_in_own (join_of sub s.core)) (may_wake_new (event_of sub s.core) y w s.core) refl row
    where
      by : (c q : Bool) → may_wake_new (event_of sub s.core) y w s.core ≡ q →
          Progresses s s.core n (trap_if c Trap.WaitableSyncAndAsync (may q (Continues (join_label n w) (finish d n NoAnswer (moved_over sub y w s.core)) n))) l t → IsSilent l × JoinTells s.core t.core
      by true q is row = absurd (live (over_now s t _ row.1))
      by false false is row = absurd row
      by false true is row = (silent_as row.0 (join_silent n w), subst (λ (v : State). JoinTells s.core v.core) (sym row.1) (join_tells d n sub y w s.core is))

  join_to_leads : (h : ℕ) (w : Option ℕ) (sub : Subtask) → Progresses s s.core n (join_to_by d n h w s.core sub) l t → IsSilent l × JoinTells s.core t.core
  join_to_leads zero w sub row = join_leads sub w None row
  join_to_leads (suc h) w sub row = by (set_at (instance_of n s.core) (suc h) s.core) row
    where
      by : (o : Option ℕ) → Progresses s s.core n (or_trap o Trap.BadHandle (λ z. join_done_by d n sub w s.core (Some z))) l t → IsSilent l × JoinTells s.core t.core
      by None row = absurd (live (over_now s t _ row.1))
      by (Some z) row = join_leads sub w (Some z) row

  pub join_rule_tells : (h y : ℕ) (w : Option ℕ) → Progresses s s.core n (join_rule d n h y w s.core) l t → IsSilent l × JoinTells s.core t.core
  join_rule_tells h y w row = by (subtask_at (instance_of n s.core) h s.core) row
    where
      by : (o : Option Subtask) → Progresses s s.core n (or_trap o Trap.BadHandle (join_to_by d n y w s.core)) l t → IsSilent l × JoinTells s.core t.core
      by None row = absurd (live (over_now s t _ row.1))
      by (Some sub) row = join_to_leads y w sub row
