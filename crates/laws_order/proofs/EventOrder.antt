-- What a host does to events and sets keeps order, also with an item in hand.
use Rattle.laws_order.proofs.OneMark.{call_event_fits, call_join_fits, call_marked, task_event_fits, work_event_fits, work_join_fits, work_marked}
use Rattle.laws_order.proofs.QuietLemmas.{put_keeps, put_others}
use Rattle.laws_order.specs.KeptOrder.{CanGive, CanJoin, CanTell, GiveInOrder, Hand, JoinInOrder, PublishInOrder, TakeInOrder, WakeInOrder, put_back}
use Rattle.laws_order.specs.Pieces.{KeepsOrder, InOrderForAnyMain, SameInstances, state_in}
use Rattle.std.proofs.Common.{ap, arith, refl, subst, sym, ◌∙◌}
use Rattle.std.proofs.lemmas.Bool.Decides.{nat_tests}
use Rattle.std.specs.Option.{option_map_or}
use Rattle.std.specs.Prelude.{Bool, None, Option, Some, false, if◌then◌else◌, is_some, option_and_then, option_map, true, ℕ, ◌&&◌, ◌≡◌}
use Rattle.laws_states.specs.Order.{JoinNamed, is_awaited, is_open, is_uncancelled}
use Rattle.machine_data.proofs.CommuteLemmas.{change-change_same}
use Rattle.machine_data.specs.Core.{Core, NameTable, Unscripted}
use Rattle.machine_data.specs.Maps.{Records, get}
use Rattle.machine_data.specs.Moves.{PickedEvent, PickedMember, NothingPicked, PickedTaskEvent, is_callback_waiter, may_publish, may_wake, may_wake_joined, published, put_high, taken, unblocked, wake, wake_joined, waken_by}
use Rattle.machine_data.specs.Read.{blocked_on, course_value, event_of, has_waiter, op_progress_of, is_async_lifted, is_in_set, is_member, is_stage_ended, is_waiter, is_waiting_on, join_of, place_of, subtask_at, subtask_handle, undelivered_end}
use Rattle.machine_data.specs.Write.{on_call, on_thread, on_work, push_high, set_cancel_delivered, set_event, set_join, set_task_event, set_place}
use Rattle.machine_data.specs.declared.component.Component.{Component}
use Rattle.machine_data.specs.declared.records.Call.{Call}
use Rattle.machine_data.specs.declared.records.CallEnd.{CallEnd}
use Rattle.machine_data.specs.declared.records.Course.{Course}
use Rattle.machine_data.specs.declared.records.Delivery.{Delivery}
use Rattle.machine_data.specs.declared.records.OpProgress.{OpProgress}
use Rattle.machine_data.specs.declared.records.Instance.{Instance}
use Rattle.machine_data.specs.declared.records.Join.{Join}
use Rattle.machine_data.specs.declared.records.Named.{Named}
use Rattle.machine_data.specs.declared.records.Place.{Place}
use Rattle.machine_data.specs.declared.records.Stage.{Stage}
use Rattle.machine_data.specs.declared.records.Subtask.{Subtask}
use Rattle.machine_data.specs.declared.records.Turn.{Turn}
use Rattle.machine_data.specs.declared.records.Why.{Why}
use Rattle.machine_data.specs.declared.records.Work.{Work}
use Rattle.machine_data.specs.declared.records.WorkCaller.{WorkCaller}
use Rattle.machine_data.specs.declared.statuses.Mark.{Mark}
use Rattle.machine_data.specs.declared.statuses.TaskEvent.{TaskEvent}
use Rattle.machine_data.specs.declared.statuses.Status.{Status}
use Rattle.machine_rules.proofs.PlacingLemmas.{placing_shifted}
use Rattle.machine_rules.proofs.StandLemmas.{by_number}
use Rattle.machine_rules.proofs.WalkMoves.{Chosen, blocked_at, chosen_in_of, chosen_of}
use Rattle.machine_rules.specs.Allowed.{Unblocks, Wakes, is_async_work, is_done_host, wake_why}
use Rattle.machine_rules.specs.Sets.{joins, may_wake_new, wakes_joined}
use Rattle.machine_rules.specs.Takes.{host_status}
use Rattle.machine_rules.specs.Primitives.{Put, placed_as, status_of_end}
use Rattle.laws_order.proofs.{GroundLemmas.order_loses_no_wake, MoveLemmas.give_keeps, MoveLemmas.join_keeps, MoveLemmas.publish_keeps, MoveLemmas.take_keeps}
use Rattle.laws_order.specs.WakesKept.{GiveKeeps, JoinKeeps, NoWakeLost, OrderLosesNoWake, PublishKeeps, TakeKeeps}

-- ---- Putting back, and moves

same_instances : (s : Core) → SameInstances s s
same_instances s = record { instances = λ i. refl; handles = λ i. refl }

-- what comes to the end of high leaves what was put back where it is
pub high_back : (n : ℕ) (w : Why) (h : Hand) (s : Core) → put_high n w (put_back h s) ≡ put_back h (put_high n w s)
unfolding put_high push_high set_place on_thread
high_back n w None s = refl
high_back n w (Some (Mark.Switch, e)) s = refl
high_back n w (Some (Mark.High, e)) s = refl
high_back n w (Some (Mark.Low, e)) s = refl

waken_back : (b : Bool) (x n : ℕ) (h : Hand) (s : Core) → waken_by b x n (put_back h s) ≡ put_back h (waken_by b x n s)
waken_back true x n h s = high_back n (Why.Delivery (Delivery.Set x)) h s
waken_back false x n h s = high_back n Why.Resumption h s

wake_back : (x : ℕ) (w : Option ℕ) (h : Hand) (s : Core) → wake x w (put_back h s) ≡ put_back h (wake x w s)
unfolding wake
wake_back x None h s = refl
wake_back x (Some n) h s = waken_back (is_callback_waiter n s) x n h s

-- ---- A waiter is woken

module _ (c : Component) (p : Turn) (going : is_open p ≡ true) where
  waken_keeps : (b : Bool) (x n : ℕ) (s : Core) → is_callback_waiter n s ≡ b → (Chosen x (Some n) s) → KeepsOrder c p s p (waken_by b x n s)
  waken_keeps true x n s is chosen = put_keeps c p Mark.High n (Why.Delivery (Delivery.Set x)) s going (λ e. absurd (cc)) (Wakes x (chosen n refl) (ap (λ q. wake_why x q) (sym is)))
  waken_keeps false x n s is chosen = put_keeps c p Mark.High n Why.Resumption s going (λ e. absurd (cc)) (Wakes x (chosen n refl) (ap (λ q. wake_why x q) (sym is)))

  wake_keeps : (x : ℕ) (w : Option ℕ) (s : Core) → Chosen x w s → KeepsOrder c p s p (wake x w s)
  unfolding wake
  wake_keeps x None s chosen h = (h, same_instances s)
  wake_keeps x (Some n) s chosen h = waken_keeps (is_callback_waiter n s) x n s refl chosen h

  joined_keeps : (j : Join) (w : Option ℕ) (s : Core) → ((x : ℕ) → j ≡ Join.Set x → Chosen x w s) → KeepsOrder c p s p (wake_joined j w s)
  joined_keeps (Join.Set x) w s chosen h = wake_keeps x w s (chosen x refl) h
  joined_keeps Join.Nowhere w s chosen h = (h, same_instances s)
  joined_keeps (Join.Watched n) w s chosen h = (h, same_instances s)

joined_back : (j : Join) (w : Option ℕ) (h : Hand) (s : Core) → wake_joined j w (put_back h s) ≡ put_back h (wake_joined j w s)
joined_back (Join.Set x) w h s = wake_back x w h s
joined_back Join.Nowhere w h s = refl
joined_back (Join.Watched n) w h s = refl

-- in hand or not
pub with_hand : (c : Component) (p : Turn) (f : Core → Core) (h : Hand) (s : Core) → f (put_back h s) ≡ put_back h (f s) → KeepsOrder c p (put_back h s) p (f (put_back h s)) →
    KeepsOrder c p (put_back h s) p (put_back h (f s))
with_hand c p f h s same keeps = subst (λ (t : Core). KeepsOrder c p (put_back h s) p t) same keeps

-- what is read of a subtask hangs on no marks of the loop
join_with : (sub : Subtask) (h : Hand) (s : Core) → join_of sub (put_back h s) ≡ join_of sub s
join_with (Subtask.Guest k) h s = refl
join_with (Subtask.Host i) h s = refl

event_with : (sub : Subtask) (h : Hand) (s : Core) → event_of sub (put_back h s) ≡ event_of sub s
event_with (Subtask.Guest k) h s = refl
event_with (Subtask.Host i) h s = refl

handle_with : (sub : Subtask) (h : Hand) (s : Core) → subtask_handle sub (put_back h s) ≡ subtask_handle sub s
handle_with (Subtask.Guest k) h s = refl
handle_with (Subtask.Host i) h s = refl

-- ---- An event is taken

module _ (c : Component) (p : Turn) (going : is_open p ≡ true) where
  lost : (s : Core) → InOrderForAnyMain c p s → NoWakeLost s
  unfolding OrderLosesNoWake
  lost s h = order_loses_no_wake c (state_in Unscripted p s) (h Unscripted) going

  take_plain : (sub : Subtask) (s : Core) → is_some (subtask_handle sub s) ≡ true → KeepsOrder c p s p (set_event sub None s)
  unfolding set_event on_call on_work TakeKeeps
  take_plain (Subtask.Guest k) s named h = (
    call_marked c p going s h k (λ z. record z { event = None }) (λ z. refl) (call_event_fits c p going s h k None (λ z was d said. absurd (cc))
        (λ n z far was on. absurd (let apart = ((h Unscripted).names.called n k far z was).1.0 in grind (arith, apart, was, named))))
        (take_keeps (Subtask.Guest k) s (lost s h)),
    record { instances = λ i. refl; handles = λ i. refl },
  )
  take_plain (Subtask.Host i) s named h = (
    work_marked c p going s h i (λ z. record z { event = None }) (λ z. refl) (work_event_fits c p going s h i None (λ z was d said. absurd (cc)))
        (take_keeps (Subtask.Host i) s (lost s h)),
    record { instances = λ i. refl; handles = λ i. refl },
  )

event_back : (sub : Subtask) (v : Option Status) (h : Hand) (s : Core) → set_event sub v (put_back h s) ≡ put_back h (set_event sub v s)
unfolding set_event on_call on_work
event_back (Subtask.Guest k) v h s = refl
event_back (Subtask.Host i) v h s = refl

pub take_in_order : TakeInOrder
unfolding TakeInOrder
take_in_order sub s named c p h going = with_hand c p (λ (u : Core). set_event sub None u) h s (event_back sub None h s)
    (take_plain c p going sub (put_back h s) (ap (λ (q : Option ℕ). is_some q) (handle_with sub h s) ∙ named))

-- ---- A picked event

-- a member of a set has a handle
member_named : (c : Component) (p : Turn) (s : Core) → InOrderForAnyMain c p s → (sub : Subtask) (x : ℕ) → is_member x sub s ≡ true → is_some (subtask_handle sub s) ≡ true
member_named c p s h sub x on = let q = (h Unscripted).joins_named.joins sub x (in_set (join_of sub s) on) in named sub q.instance q.handle q.named
  where
    in_set : (j : Join) → is_in_set x j ≡ true → j ≡ Join.Set x
    in_set (Join.Set y) e = grind (arith, nat_tests, e)
    in_set Join.Nowhere e = absurd (cc)
    in_set (Join.Watched n) e = absurd (cc)

    named : (d : Subtask) (i g : ℕ) → subtask_at i g s ≡ Some d → is_some (subtask_handle d s) ≡ true
    named (Subtask.Guest k) i g at = ap (λ (q : Option ℕ). is_some q) ((h Unscripted).names.there i g k at)
    named (Subtask.Host j) i g at = ap (λ (q : Option ℕ). is_some q) ((h Unscripted).works_known.there i g j at)

give_plain : (c : Component) (p : Turn) → is_open p ≡ true → (g : PickedEvent) (k : ℕ) (s : Core) → CanGive g k s → KeepsOrder c p s p (taken g k s)
unfolding taken set_task_event set_cancel_delivered on_call GiveKeeps
give_plain c p going (PickedTaskEvent TaskEvent.None) k s can h = (
  call_marked c p going s h k (λ z. record z { task_event = None }) (λ z. refl) (task_event_fits c p going s h k false (λ e. absurd (cc)))
      (give_keeps (PickedTaskEvent TaskEvent.None) k s (lost c p going s h)),
  record { instances = λ i. refl; handles = λ i. refl },
)
give_plain c p going (PickedTaskEvent TaskEvent.Cancelled) k s can h = (
  subst (λ (m : Records Call). InOrderForAnyMain c p (record s { calls = m })) (sym (change-change_same s.calls k (λ z. record z { cancel_delivered = true }) (λ z. record z { task_event = None })))
      (call_marked c p going s h k (λ z. record z { task_event = None; cancel_delivered = true }) (λ z. refl) (task_event_fits c p going s h k true (λ e z was. (own z was, kind z was)))
      (subst (λ (m : Records Call). NoWakeLost (record s { calls = m })) (change-change_same s.calls k (λ z. record z { cancel_delivered = true }) (λ z. record z { task_event = None }))
      (give_keeps (PickedTaskEvent TaskEvent.Cancelled) k s (lost c p going s h)))),
  record { instances = λ i. refl; handles = λ i. refl },
)
  where
    own : (z : Call) → get s.calls k ≡ Some z → z.task_event ≡ Some TaskEvent.Cancelled
    own z was = let a = can.0 in grind (arith, a, was)

    kind : (z : Call) → get s.calls k ≡ Some z → is_async_lifted z.kind ≡ true
    kind z was = let a = can.1 in grind (arith, a, was)
give_plain c p going (PickedMember sub) k s can h = take_plain c p going sub s (member_named c p s h sub can.0 can.1) h
give_plain c p going NothingPicked k s can h = (h, same_instances s)

taken_back : (g : PickedEvent) (k : ℕ) (h : Hand) (s : Core) → taken g k (put_back h s) ≡ put_back h (taken g k s)
unfolding taken set_task_event set_cancel_delivered on_call
taken_back (PickedTaskEvent TaskEvent.None) k h s = refl
taken_back (PickedTaskEvent TaskEvent.Cancelled) k h s = refl
taken_back (PickedMember sub) k h s = event_back sub None h s
taken_back NothingPicked k h s = refl

can_give_with : (g : PickedEvent) (k : ℕ) (h : Hand) (s : Core) → CanGive g k s → CanGive g k (put_back h s)
can_give_with (PickedTaskEvent TaskEvent.None) k h s can = tt
can_give_with (PickedTaskEvent TaskEvent.Cancelled) k h s can = can
can_give_with (PickedMember sub) k h s can = (can.0, ap (λ (j : Join). is_in_set can.0 j) (join_with sub h s) ∙ can.1)
can_give_with NothingPicked k h s can = tt

pub give_in_order : GiveInOrder
unfolding GiveInOrder
give_in_order g k s can c p h going = with_hand c p (λ (u : Core). taken g k u) h s (taken_back g k h s)
    (give_plain c p going g k (put_back h s) (can_give_with g k h s can))

-- ---- Joining

-- a wake leaves calls, works, sets and handles
waken_rest : (b : Bool) (x n : ℕ) (s : Core) → (P : Core → Type 0) → P (placed_as (waken_by b x n s) s) → P (waken_by b x n s)
waken_rest true x n s P q = subst P (placing_shifted (Put Mark.High n (Why.Delivery (Delivery.Set x))) s).only q
waken_rest false x n s P q = subst P (placing_shifted (Put Mark.High n Why.Resumption) s).only q

wake_rest : (x : ℕ) (w : Option ℕ) (s : Core) → (P : Core → Type 0) → P (placed_as (wake x w s) s) → P (wake x w s)
unfolding wake
wake_rest x None s P q = q
wake_rest x (Some n) s P q = waken_rest (is_callback_waiter n s) x n s P q

joined_rest : (j : Join) (w : Option ℕ) (s : Core) → (P : Core → Type 0) → P (placed_as (wake_joined j w s) s) → P (wake_joined j w s)
joined_rest (Join.Set x) w s P q = wake_rest x w s P q
joined_rest Join.Nowhere w s P q = q
joined_rest (Join.Watched n) w s P q = q

new_rest : (e : Option Status) (x w : Option ℕ) (s : Core) → (P : Core → Type 0) → P (placed_as (wakes_joined e x w s) s) → P (wakes_joined e x w s)
new_rest (Some e) (Some x) w s P q = wake_rest x w s P q
new_rest (Some e) None w s P q = q
new_rest None x w s P q = q

join_high : (sub : Subtask) (j : Join) (n : ℕ) (v : Why) (s : Core) → set_join sub j (put_high n v s) ≡ put_high n v (set_join sub j s)
unfolding set_join on_call on_work put_high push_high set_place on_thread
join_high (Subtask.Guest k) j n v s = refl
join_high (Subtask.Host i) j n v s = refl

join_waken : (sub : Subtask) (j : Join) (b : Bool) (x n : ℕ) (s : Core) → set_join sub j (waken_by b x n s) ≡ waken_by b x n (set_join sub j s)
join_waken sub j true x n s = join_high sub j n (Why.Delivery (Delivery.Set x)) s
join_waken sub j false x n s = join_high sub j n Why.Resumption s

join_callback : (sub : Subtask) (j : Join) (n : ℕ) (s : Core) → is_callback_waiter n (set_join sub j s) ≡ is_callback_waiter n s
unfolding set_join on_call on_work
join_callback (Subtask.Guest k) j n s = refl
join_callback (Subtask.Host i) j n s = refl

join_wake : (sub : Subtask) (j : Join) (x : ℕ) (w : Option ℕ) (s : Core) → set_join sub j (wake x w s) ≡ wake x w (set_join sub j s)
unfolding wake
join_wake sub j x None s = refl
join_wake sub j x (Some n) s = join_waken sub j (is_callback_waiter n s) x n s ∙ ap (λ (b : Bool). waken_by b x n (set_join sub j s)) (sym (join_callback sub j n s))

join_new : (sub : Subtask) (j : Join) (e : Option Status) (x w : Option ℕ) (s : Core) → set_join sub j (wakes_joined e x w s) ≡ wakes_joined e x w (set_join sub j s)
join_new sub j (Some e) (Some x) w s = join_wake sub j x w s
join_new sub j (Some e) None w s = refl
join_new sub j None x w s = refl

new_keeps : (c : Component) (p : Turn) → is_open p ≡ true → (e : Option Status) (x w : Option ℕ) (s : Core) → may_wake_new e x w s ≡ true → KeepsOrder c p s p (wakes_joined e x w s)
new_keeps c p going (Some e) (Some x) w s may h = wake_keeps c p going x w s (chosen_of x w s may) h
new_keeps c p going (Some e) None w s may h = (h, same_instances s)
new_keeps c p going None x w s may h = (h, same_instances s)

joins_named : (sub : Subtask) (x : Option ℕ) (s : Core) → CanJoin sub x s → (y : ℕ) → joins x ≡ Join.Set y → JoinNamed sub y s
joins_named sub None s can y is = absurd (cc)
joins_named sub (Some x) s can y is = can.named y (grind (arith, is))

set_plain : (c : Component) (p : Turn) → is_open p ≡ true → (sub : Subtask) (x : Option ℕ) (s : Core) → CanJoin sub x s → NoWakeLost (set_join sub (joins x) s) → InOrderForAnyMain c p s → InOrderForAnyMain c p (set_join sub (joins x) s)
unfolding set_join on_call on_work
set_plain c p going (Subtask.Guest k) x s can after h =
    call_marked c p going s h k (λ z. record z { join = joins x }) (λ z. refl) (call_join_fits c p going s h k (joins x) can.apart (joins_named (Subtask.Guest k) x s can)) after
set_plain c p going (Subtask.Host i) x s can after h =
    work_marked c p going s h i (λ z. record z { join = joins x }) (λ z. refl) (work_join_fits c p going s h i (joins x) can.apart (joins_named (Subtask.Host i) x s can)) after

can_join_placed : (sub : Subtask) (x : Option ℕ) (s t : Core) → CanJoin sub x s → CanJoin sub x (placed_as t s)
can_join_placed (Subtask.Guest k) x s t can = record { apart = can.apart; named = λ y is. let q = can.named y is in record { instance = q.instance; handle = q.handle; home = q.home; named = q.named } }
can_join_placed (Subtask.Host i) x s t can = record { apart = can.apart; named = λ y is. let q = can.named y is in record { instance = q.instance; handle = q.handle; home = q.home; named = q.named } }

same_tables : (s t : Core) → t.instances ≡ s.instances → t.handles ≡ s.handles → SameInstances s t
same_tables s t instances handles = record { instances = λ i. ap (λ (r : Records Instance). is_some (get r i)) instances; handles = λ i. ap (λ (r : Records (NameTable Named)). is_some (get r i)) handles }

join_tables : (sub : Subtask) (j : Join) (s : Core) → ((set_join sub j s).instances ≡ s.instances) × ((set_join sub j s).handles ≡ s.handles)
unfolding set_join on_call on_work
join_tables (Subtask.Guest k) j s = (refl, refl)
join_tables (Subtask.Host i) j s = (refl, refl)

event_tables : (sub : Subtask) (v : Option Status) (s : Core) → ((set_event sub v s).instances ≡ s.instances) × ((set_event sub v s).handles ≡ s.handles)
unfolding set_event on_call on_work
event_tables (Subtask.Guest k) v s = (refl, refl)
event_tables (Subtask.Host i) v s = (refl, refl)

join_plain : (c : Component) (p : Turn) → is_open p ≡ true → (sub : Subtask) (x w : Option ℕ) (s : Core) → may_wake_new (event_of sub s) x w s ≡ true → CanJoin sub x s →
    KeepsOrder c p s p (wakes_joined (event_of sub s) x w (set_join sub (joins x) s))
unfolding JoinKeeps
join_plain c p going sub x w s may can h =
    let e = event_of sub s in
    let first = new_keeps c p going e x w s may h in
    let u = wakes_joined e x w s in
    let same = join_new sub (joins x) e x w s in
    let after : NoWakeLost (set_join sub (joins x) u) = subst (λ (t : Core). NoWakeLost t) (sym same) (join_keeps sub x w s may (lost c p going s h)) in
    let tables = join_tables sub (joins x) u in (
      subst (λ (t : Core). InOrderForAnyMain c p t) same (set_plain c p going sub x u (new_rest e x w s (CanJoin sub x) (can_join_placed sub x s u can)) after first.0),
      subst (λ (t : Core). SameInstances s t) same (same_tables s (set_join sub (joins x) u)
          (tables.0 ∙ new_rest e x w s (λ (v : Core). v.instances ≡ s.instances) refl) (tables.1 ∙ new_rest e x w s (λ (v : Core). v.handles ≡ s.handles) refl)),
    )

join_back : (sub : Subtask) (j : Join) (h : Hand) (s : Core) → set_join sub j (put_back h s) ≡ put_back h (set_join sub j s)
unfolding set_join on_call on_work
join_back (Subtask.Guest k) j h s = refl
join_back (Subtask.Host i) j h s = refl

new_back : (e : Option Status) (x w : Option ℕ) (h : Hand) (s : Core) → wakes_joined e x w (put_back h s) ≡ put_back h (wakes_joined e x w s)
new_back (Some e) (Some x) w h s = wake_back x w h s
new_back (Some e) None w h s = refl
new_back None x w h s = refl

may_new_with : (e : Option Status) (x w : Option ℕ) (h : Hand) (s : Core) → may_wake_new e x w s ≡ true → may_wake_new e x w (put_back h s) ≡ true
unfolding may_wake has_waiter
may_new_with (Some e) (Some x) None h s may = may
may_new_with (Some e) (Some x) (Some n) h s may = may
may_new_with (Some e) None w h s may = may
may_new_with None x w h s may = may

can_join_with : (sub : Subtask) (x : Option ℕ) (h : Hand) (s : Core) → CanJoin sub x s → CanJoin sub x (put_back h s)
can_join_with (Subtask.Guest k) x h s can = record { apart = can.apart; named = λ y is. let q = can.named y is in record { instance = q.instance; handle = q.handle; home = q.home; named = q.named } }
can_join_with (Subtask.Host i) x h s can = record { apart = can.apart; named = λ y is. let q = can.named y is in record { instance = q.instance; handle = q.handle; home = q.home; named = q.named } }

pub join_in_order : JoinInOrder
unfolding JoinInOrder
join_in_order sub x w s may can c p h going =
    let e = event_of sub s in
    with_hand c p (λ (u : Core). wakes_joined e x w (set_join sub (joins x) u)) h s
    (ap (λ (u : Core). wakes_joined e x w u) (join_back sub (joins x) h s) ∙ new_back e x w h (set_join sub (joins x) s))
    (subst (λ (q : Option Status). KeepsOrder c p (put_back h s) p (wakes_joined q x w (set_join sub (joins x) (put_back h s)))) (event_with sub h s)
    (join_plain c p going sub x w (put_back h s) (subst (λ (q : Option Status). may_wake_new q x w (put_back h s) ≡ true) (sym (event_with sub h s)) (may_new_with e x w h s may)) (can_join_with sub x h s can)))

-- ---- An event comes

event_high : (sub : Subtask) (v : Option Status) (n : ℕ) (y : Why) (s : Core) → set_event sub v (put_high n y s) ≡ put_high n y (set_event sub v s)
unfolding set_event on_call on_work put_high push_high set_place on_thread
event_high (Subtask.Guest k) v n y s = refl
event_high (Subtask.Host i) v n y s = refl

event_waken : (sub : Subtask) (v : Option Status) (b : Bool) (x n : ℕ) (s : Core) → set_event sub v (waken_by b x n s) ≡ waken_by b x n (set_event sub v s)
event_waken sub v true x n s = event_high sub v n (Why.Delivery (Delivery.Set x)) s
event_waken sub v false x n s = event_high sub v n Why.Resumption s

event_callback : (sub : Subtask) (v : Option Status) (n : ℕ) (s : Core) → is_callback_waiter n (set_event sub v s) ≡ is_callback_waiter n s
unfolding set_event on_call on_work
event_callback (Subtask.Guest k) v n s = refl
event_callback (Subtask.Host i) v n s = refl

event_joined : (sub : Subtask) (v : Option Status) (j : Join) (w : Option ℕ) (s : Core) → set_event sub v (wake_joined j w s) ≡ wake_joined j w (set_event sub v s)
unfolding wake
event_joined sub v (Join.Set x) None s = refl
event_joined sub v (Join.Set x) (Some n) s = event_waken sub v (is_callback_waiter n s) x n s ∙ ap (λ (b : Bool). waken_by b x n (set_event sub v s)) (sym (event_callback sub v n s))
event_joined sub v Join.Nowhere w s = refl
event_joined sub v (Join.Watched m) w s = refl

event_unblocked : (sub : Subtask) (v : Option Status) (o : Option ℕ) (s : Core) → set_event sub v (unblocked o s) ≡ unblocked o (set_event sub v s)
event_unblocked sub v None s = refl
event_unblocked sub v (Some n) s = event_high sub v n Why.Resumption s

unblocked_keeps : (c : Component) (p : Turn) → is_open p ≡ true → (sub : Subtask) (o : Option ℕ) (s : Core) → is_done_host sub s ≡ true → ((m : ℕ) → o ≡ Some m → place_of m s ≡ Some (Place.Blocked sub)) →
    KeepsOrder c p s p (unblocked o s)
unblocked_keeps c p going sub None s done at h = (h, same_instances s)
unblocked_keeps c p going sub (Some m) s done at h = put_keeps c p Mark.High m Why.Resumption s going (λ e. absurd (cc)) (Unblocks sub (at m refl) done refl) h

unblocked_rest : (o : Option ℕ) (s : Core) → (P : Core → Type 0) → P (placed_as (unblocked o s) s) → P (unblocked o s)
unblocked_rest None s P q = q
unblocked_rest (Some n) s P q = subst P (placing_shifted (Put Mark.High n Why.Resumption) s).only q

-- who waits on a set does so still
unblocked_waits : (sub : Subtask) (o : Option ℕ) (s : Core) → ((m : ℕ) → o ≡ Some m → place_of m s ≡ Some (Place.Blocked sub)) → (x n : ℕ) → is_waiter x n s ≡ true → is_waiter x n (unblocked o s) ≡ true
unblocked_waits sub None s at x n on = on
unblocked_waits sub (Some m) s at x n on = by_number n m _
    (λ is. absurd (let b = at m refl in grind (arith, b, on, is)))
    (λ apart. ap (λ (q : Option Place). option_map_or (is_waiting_on x) q false) (put_others Mark.High m Why.Resumption s (λ e. absurd (cc)) n apart) ∙ on)

can_tell_placed : (sub : Subtask) (e : Status) (s t : Core) → CanTell sub e s → CanTell sub e (placed_as t s)
can_tell_placed (Subtask.Guest k) e s t can = record { status = can.status; done = can.done }
can_tell_placed (Subtask.Host i) e s t can = record { status = can.status; done = can.done }

event_plain : (c : Component) (p : Turn) → is_open p ≡ true → (sub : Subtask) (e : Status) (s : Core) → CanTell sub e s → NoWakeLost (set_event sub (Some e) s) → InOrderForAnyMain c p s → InOrderForAnyMain c p (set_event sub (Some e) s)
unfolding set_event on_call on_work
event_plain c p going (Subtask.Guest k) e s can after h =
    call_marked c p going s h k (λ z. record z { event = Some e }) (λ z. refl) (call_event_fits c p going s h k (Some e) (λ z was d said. has z was d said)
    (λ n z far was on. awaits n z far was on)) after
  where
    same : (z : Call) → get s.calls k ≡ Some z → undelivered_end (Some e) ≡ option_map status_of_end z.«end»
    same z was = can.status ∙ ap (λ (q : Option Call). option_map status_of_end (option_and_then (λ (y : Call). y.«end») q)) was

    has : (z : Call) → get s.calls k ≡ Some z → (d : Status) → undelivered_end (Some e) ≡ Some d → is_some z.«end» ≡ true
    has z was d said = let a = same z was in grind (arith, a, said)

    awaits : (n : ℕ) (z : Call) → op_progress_of n s ≡ OpProgress.Calls (Subtask.Guest k) → get s.calls k ≡ Some z → is_awaited z ≡ true → is_awaited (record z { event = Some e }) ≡ true
    awaits n z far was on =
        let touched = ((h Unscripted).names.called n k far z was).1.1 in
        by z.«end» refl (same z was) touched on
      where
        by : (q : Option CallEnd) → z.«end» ≡ q → undelivered_end (Some e) ≡ option_map status_of_end z.«end» → is_uncancelled z ≡ true → is_awaited z ≡ true → is_awaited (record z { event = Some e }) ≡ true
        by None is a touched on = grind (arith, is, on)
        by (Some d) is a touched on = grind (arith, is, a, touched, on)
event_plain c p going (Subtask.Host i) e s can after h =
    work_marked c p going s h i (λ z. record z { event = Some e }) (λ z. refl) (work_event_fits c p going s h i (Some e) (λ z was d said. told z was d said)) after
  where
    told : (z : Work) → get s.works i ≡ Some z → (d : Status) → undelivered_end (Some e) ≡ Some d →
        (is_stage_ended z.stage ≡ true) × ((is_async_work z.caller ≡ true) × (d ≡ host_status (course_value z.course)))
    told z was d said =
        let a : undelivered_end (Some e) ≡ (if is_stage_ended z.stage && is_async_work z.caller then Some (host_status (course_value z.course)) else None) =
        can.status ∙ ap (λ (q : Option Work). if is_stage_ended (option_map_or (λ (y : Work). y.stage) q Stage.Ended) && is_async_work (option_map_or (λ (y : Work). y.caller) q WorkCaller.Spawn) then Some (host_status (course_value (option_map_or (λ (y : Work). y.course) q Course.NoValue))) else None) was in
        by (is_stage_ended z.stage && is_async_work z.caller) refl (sym said ∙ a)
      where
        by : (b : Bool) → (is_stage_ended z.stage && is_async_work z.caller) ≡ b → Some d ≡ (if is_stage_ended z.stage && is_async_work z.caller then Some (host_status (course_value z.course)) else None) →
            (is_stage_ended z.stage ≡ true) × ((is_async_work z.caller ≡ true) × (d ≡ host_status (course_value z.course)))
        by true is at = (grind (arith, is), (grind (arith, is), grind (arith, is, at)))
        by false is at = absurd (grind (arith, is, at))

publish_plain : (c : Component) (p : Turn) → is_open p ≡ true → (sub : Subtask) (e : Status) (w : Option ℕ) (s : Core) → may_publish sub w s ≡ true → CanTell sub e s →
    KeepsOrder c p s p (published sub e w s)
unfolding PublishKeeps published may_publish
publish_plain c p going sub e w s may can h =
    let b = blocked_on sub s in
    let j = join_of sub s in
    let at : (m : ℕ) → b ≡ Some m → place_of m s ≡ Some (Place.Blocked sub) = λ m is. blocked_at sub s m is in
    let first = unblocked_keeps c p going sub b s can.done at h in
    let u = unblocked b s in
    let chosen : (x : ℕ) → j ≡ Join.Set x → Chosen x w u = λ x is n by. unblocked_waits sub b s at x n (chosen_in_of j w s may x is n by) in
    let next = joined_keeps c p going j w u chosen first.0 in
    let v = wake_joined j w u in
    let same : set_event sub (Some e) v ≡ published sub e w s = event_joined sub (Some e) j w u ∙ ap (λ (q : Core). wake_joined j w q) (event_unblocked sub (Some e) b s) in
    let after : NoWakeLost (set_event sub (Some e) v) = subst (λ (t : Core). NoWakeLost t) (sym same) (publish_keeps sub e w s may (lost c p going s h)) in
    let can_then : CanTell sub e v = joined_rest j w u (CanTell sub e) (can_tell_placed sub e u v (unblocked_rest b s (CanTell sub e) (can_tell_placed sub e s u can))) in
    let tables = event_tables sub (Some e) v in (
      subst (λ (t : Core). InOrderForAnyMain c p t) same (event_plain c p going sub e v can_then after next.0),
      subst (λ (t : Core). SameInstances s t) same (same_tables s (set_event sub (Some e) v)
          (tables.0 ∙ (joined_rest j w u (λ (q : Core). q.instances ≡ u.instances) refl ∙ unblocked_rest b s (λ (q : Core). q.instances ≡ s.instances) refl))
          (tables.1 ∙ (joined_rest j w u (λ (q : Core). q.handles ≡ u.handles) refl ∙ unblocked_rest b s (λ (q : Core). q.handles ≡ s.handles) refl))),
    )

unblocked_back : (o : Option ℕ) (h : Hand) (s : Core) → unblocked o (put_back h s) ≡ put_back h (unblocked o s)
unblocked_back None h s = refl
unblocked_back (Some n) h s = high_back n Why.Resumption h s

published_back : (sub : Subtask) (e : Status) (w : Option ℕ) (h : Hand) (s : Core) → published sub e w (put_back h s) ≡ put_back h (published sub e w s)
unfolding published blocked_on
published_back sub e w h s =
    let b = blocked_on sub s in
    ap (λ (j : Join). wake_joined j w (unblocked b (set_event sub (Some e) (put_back h s)))) (join_with sub h s)
    ∙ (ap (λ (u : Core). wake_joined (join_of sub s) w (unblocked b u)) (event_back sub (Some e) h s)
    ∙ (ap (λ (u : Core). wake_joined (join_of sub s) w u) (unblocked_back b h (set_event sub (Some e) s))
    ∙ joined_back (join_of sub s) w h (unblocked b (set_event sub (Some e) s))))

may_joined_with : (j : Join) (w : Option ℕ) (h : Hand) (s : Core) → may_wake_joined j w s ≡ true → may_wake_joined j w (put_back h s) ≡ true
unfolding may_wake has_waiter
may_joined_with (Join.Set x) None h s may = may
may_joined_with (Join.Set x) (Some n) h s may = may
may_joined_with Join.Nowhere w h s may = may
may_joined_with (Join.Watched n) w h s may = may

can_tell_with : (sub : Subtask) (e : Status) (h : Hand) (s : Core) → CanTell sub e s → CanTell sub e (put_back h s)
can_tell_with (Subtask.Guest k) e h s can = record { status = can.status; done = can.done }
can_tell_with (Subtask.Host i) e h s can = record { status = can.status; done = can.done }

pub publish_in_order : PublishInOrder
unfolding PublishInOrder may_publish
publish_in_order sub e w s may can c p h going = with_hand c p (λ (u : Core). published sub e w u) h s (published_back sub e w h s)
    (publish_plain c p going sub e w (put_back h s)
    (subst (λ (j : Join). may_wake_joined j w (put_back h s) ≡ true) (sym (join_with sub h s)) (may_joined_with (join_of sub s) w h s may)) (can_tell_with sub e h s can))

pub wake_in_order : WakeInOrder
unfolding WakeInOrder may_publish
wake_in_order sub w s may c p h going =
    let j = join_of sub s in
    with_hand c p (λ (u : Core). wake_joined j w u) h s (joined_back j w h s)
    (joined_keeps c p going j w (put_back h s) (chosen_in_of j w (put_back h s) (may_joined_with j w h s may)))
