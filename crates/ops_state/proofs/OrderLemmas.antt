-- The calls keep order.
use Rattle.laws_order.proofs.{BackOrder.back_in_order, EntryOrder.first_in_order, EntryOrder.promote_in_order, EntryOrder.put_in_order, EntryOrder.stop_in_order, EntryOrder.switch_in_order, EntryOrder.taken_is_in_hand, EventOrder.give_in_order, EventOrder.join_in_order, EventOrder.publish_in_order, EventOrder.take_in_order, EventOrder.wake_in_order, TurnOrder.end_in_order, TurnOrder.turn_in_order, TurnOrder.turn_of}
use Rattle.laws_order.specs.KeptOrder.{BackInOrder, CanGive, CanJoin, CanTell, EndInOrder, FirstInOrder, GiveInOrder, Hand, JoinInOrder, LeavesInOrder, PromoteInOrder, PublishInOrder, PutInOrder, StaysInOrder, StopInOrder, SwitchInOrder, TakeInOrder, TakenIsInHand, TurnInOrder, TurnsInOrder, WakeInOrder, is_idle, is_off_switch, placed_at, put_back, running_in}
use Rattle.laws_order.specs.Pieces.{KeepsOrder, InOrderForAnyMain, SameInstances}
use Rattle.std.proofs.Common.{ap, arith, refl, subst, sym, ◌∙◌}
use Rattle.std.proofs.lemmas.Bool.Decides.{nat_tests}
use Rattle.std.specs.Prelude.{Bool, None, Option, Some, false, if◌then◌else◌, is_some, option_map, true, ℕ, ◌||◌, ◌≡◌, ◌≢◌}
use Rattle.ops_state.proofs.KeepLemmas.{popped_kept}
use Rattle.ops_state.specs.Currents.{entered, is_left, left_for, now_runs, number_in, runner}
use Rattle.ops_state.specs.Gives.{is_ready_in}
use Rattle.ops_state.specs.declared.currents.CurrentThread.{CurrentThread}
use Rattle.ops_state.specs.Items.{CanGet, CanReturn, IsItem, IsItemOf, Takes, entry_of, in_hand, item_put}
use Rattle.ops_state.specs.Promotions.{is_ready_to_begin, local_promoted, thread_promoted}
use Rattle.ops_state.specs.Woken.{member_woken, set_joined}
use Rattle.ops_state.specs.declared.entry_calls.Item.{Item}
use Rattle.ops_state.specs.declared.entry_calls.Item.TheVariants as item
use Rattle.laws_states.specs.Order.{is_open}
use Rattle.machine_data.specs.Core.{Core, Unscripted}
use Rattle.machine_data.specs.Moves.{PickedMember, PickedTaskEvent, ended, may_publish, picked_task_event_of, promoted_unless, published, stopped, taken, taken_own}
use Rattle.machine_data.specs.Read.{event_of, is_async_lifted, is_at, kind_of, next_entry, place_of, subtask_handle}
use Rattle.machine_data.specs.Write.{set_event, set_join, set_place}
use Rattle.machine_data.specs.declared.component.Component.{Component}
use Rattle.machine_data.specs.declared.records.Entry.{Entry}
use Rattle.machine_data.specs.declared.records.Entry.TheVariants as entry
use Rattle.machine_data.specs.declared.records.Join.{Join}
use Rattle.machine_data.specs.declared.records.Place.{Place}
use Rattle.machine_data.specs.declared.records.Place.TheVariants as place
use Rattle.machine_data.specs.declared.records.Subtask.{Subtask}
use Rattle.machine_data.specs.declared.records.Turn.{Turn}
use Rattle.machine_data.specs.declared.records.Turn.TheVariants as turn
use Rattle.machine_data.specs.declared.records.Why.{Why}
use Rattle.machine_data.specs.declared.statuses.Mark.{Mark}
use Rattle.machine_data.specs.declared.statuses.Mark.TheVariants as mark
use Rattle.machine_data.specs.declared.statuses.TaskEvent.{TaskEvent}
use Rattle.machine_data.specs.declared.statuses.TaskEvent.TheVariants as own
use Rattle.machine_data.specs.declared.statuses.Status.{Status}
use Rattle.machine_rules.proofs.StandLemmas.{by_number}
use Rattle.machine_rules.specs.Ends.{leaves_no_result}
use Rattle.machine_rules.specs.Sets.{joins, may_wake_new, wakes_joined}
use Rattle.machine_rules.specs.Takes.{popped}
use Rattle.machine_rules.specs.Threads.{has_yielded}
use Rattle.task_table.specs.declared.id.TableId.{TableId}
use Rattle.task_wait.specs.declared.keys.SetKey.{SetKey}
use Rattle.task_wait.specs.declared.keys.ThreadKey.{ThreadKey}
use Rattle.core_primitives.specs.StateView.{StateView, on_core, set_of, thread_of}
use Rattle.laws_order.specs.WakesKept.{NoWakeLost}

-- what a move keeps the call that makes it keeps
by_move : (f : Core → Core) (s t : StateView) → t ≡ on_core f s → StaysInOrder s.core (f s.core) → StaysInOrder s.core t.core
by_move f s t e keeps = subst (λ (v : StateView). StaysInOrder s.core v.core) (sym e) keeps

-- ---- Events

pub published_in_order : (sub : Subtask) (e : Status) (w : Option ℕ) (s t : StateView) → may_publish sub w s.core ≡ true → t ≡ on_core (published sub e w) s → CanTell sub e s.core → StaysInOrder s.core t.core
unfolding PublishInOrder
published_in_order sub e w s t may is can = by_move (published sub e w) s t is (publish_in_order sub e w s.core may can)

pub woken_in_order : (sub : Subtask) (w : Option ℕ) (s t : StateView) → may_publish sub w s.core ≡ true → t ≡ on_core (member_woken sub w) s → StaysInOrder s.core t.core
unfolding WakeInOrder
woken_in_order sub w s t may is = by_move (member_woken sub w) s t is (wake_in_order sub w s.core may)

pub taken_in_order : (sub : Subtask) (s t : StateView) → t ≡ on_core (set_event sub None) s → is_some (subtask_handle sub s.core) ≡ true → StaysInOrder s.core t.core
unfolding TakeInOrder
taken_in_order sub s t is named = by_move (set_event sub None) s t is (take_in_order sub s.core named)

joined_in_order : (sub : Subtask) (x w : Option ℕ) (s t : StateView) → may_wake_new (event_of sub s.core) x w s.core ≡ true → t ≡ on_core (set_joined sub x w) s → CanJoin sub x s.core → StaysInOrder s.core t.core
unfolding JoinInOrder
joined_in_order sub x w s t may is can = by_move (set_joined sub x w) s t is (join_in_order sub x w s.core may can)

-- by the steps of a join
pub joined_order_by : (sub : Subtask) (event : Option Status) (set : Option (TableId SetKey)) (waiter : Option (TableId ThreadKey)) (j : Join) (s u t : StateView) → event ≡ event_of sub s.core →
    u ≡ on_core (set_join sub j) s → j ≡ joins (option_map (λ id. set_of s id) set) →
    t ≡ on_core (wakes_joined event (option_map (λ id. set_of u id) set) (option_map (λ id. thread_of u id) waiter)) u →
    may_wake_new event (option_map (λ id. set_of s id) set) (option_map (λ id. thread_of s id) waiter) s.core ≡ true → CanJoin sub (option_map (λ id. set_of s id) set) s.core → StaysInOrder s.core t.core
joined_order_by sub event set waiter j s u t is_event is_u is_j is_t may can =
    joined_in_order sub x w s t (subst (λ (o : Option Status). may_wake_new o x w s.core ≡ true) is_event may)
    (subst (λ (i : Join). t ≡ on_core (λ c. wakes_joined (event_of sub s.core) x w (set_join sub i c)) s) is_j
    (subst (λ (o : Option Status). t ≡ on_core (λ c. wakes_joined o x w (set_join sub j c)) s) is_event
    (subst (λ (v : StateView). t ≡ on_core (wakes_joined event (option_map (λ id. set_of v id) set) (option_map (λ id. thread_of v id) waiter)) v) is_u is_t))) can
  where
    x : Option ℕ
    x = option_map (λ id. set_of s id) set

    w : Option ℕ
    w = option_map (λ id. thread_of s id) waiter

-- of the waitable that is the subtask
pub told_at : (d sub : Subtask) (e : Status) (s : Core) → d ≡ sub → CanTell sub e s → CanTell d e s
told_at d sub e s is can = subst (λ (y : Subtask). CanTell y e s) (sym is) can

pub named_at : (d sub : Subtask) (s : Core) → d ≡ sub → is_some (subtask_handle sub s) ≡ true → is_some (subtask_handle d s) ≡ true
named_at d sub s is named = subst (λ (y : Subtask). is_some (subtask_handle y s) ≡ true) (sym is) named

pub joins_at : (d sub : Subtask) (x : Option ℕ) (s : Core) → d ≡ sub → CanJoin sub x s → CanJoin d x s
joins_at d sub x s is can = subst (λ (y : Subtask). CanJoin y x s) (sym is) can

-- ---- Gifts

own_can : (b : Bool) (k : ℕ) (e : TaskEvent) (s : Core) → picked_task_event_of b k s ≡ Some e → (b ≡ true → is_async_lifted (kind_of k s) ≡ true) → CanGive (PickedTaskEvent e) k s
own_can b k own.None s at kind = tt
own_can true k own.Cancelled s at kind = (grind (arith, at), kind refl)
own_can false k own.Cancelled s at kind = absurd (grind (arith, at))

pub own_in_order : (b : Bool) (k : ℕ) (e : TaskEvent) (s t : StateView) → picked_task_event_of b k s.core ≡ Some e → t ≡ on_core (taken_own e k) s → (b ≡ true → is_async_lifted (kind_of k s.core) ≡ true) → StaysInOrder s.core t.core
unfolding GiveInOrder taken
own_in_order b k e s t at is kind = by_move (taken_own e k) s t is (give_in_order (PickedTaskEvent e) k s.core (own_can b k e s.core at kind))

pub member_in_order : (x : Option ℕ) (k : ℕ) (sub : Subtask) (s t : StateView) → is_ready_in x sub s.core ≡ true → t ≡ on_core (set_event sub None) s → StaysInOrder s.core t.core
unfolding GiveInOrder taken
member_in_order None k sub s t ready is = absurd (cc)
member_in_order (Some x) k sub s t ready is = by_move (set_event sub None) s t is (give_in_order (PickedMember sub) k s.core (x, grind (arith, ready)))

pub nothing_in_order : (s : Core) → StaysInOrder s s
nothing_in_order s c p h going order = (order, record { instances = λ i. refl; handles = λ i. refl })

-- ---- Entries

of_item : (s : StateView) (n : ℕ) (i : Item) → IsItemOf s n i → entry_of s.tags i ≡ entry.Thread n
of_item s n (item.StartImplicit id) is = ap (λ (k : ℕ). entry.Thread k) is.0.number
of_item s n (item.StartExplicit id) is = ap (λ (k : ℕ). entry.Thread k) is.0.number
of_item s n (item.Deliver id d) is = ap (λ (k : ℕ). entry.Thread k) is.0.number
of_item s n (item.Resume id) is = ap (λ (k : ℕ). entry.Thread k) is.0.number
of_item s n (item.PushFuture id) is = absurd is
of_item s n (item.FinishHost id) is = absurd is

of_entry : (s : StateView) (e : Entry) (i : Item) → IsItem s e i → entry_of s.tags i ≡ e
of_entry s (entry.Thread n) i is = of_item s n i is
of_entry s (entry.Push j) (item.PushFuture id) is = ap (λ (k : ℕ). entry.Push k) is
of_entry s (entry.Host j) (item.FinishHost id) is = ap (λ (k : ℕ). entry.Host k) is
of_entry s (entry.Push j) i is = absurd is
of_entry s (entry.Host j) i is = absurd is

pub taken_back : (s : StateView) (e : Option (Mark × Entry)) (r : Option (Mark × Item)) (t : StateView) → next_entry s.core ≡ e → Takes s e r t → put_back (in_hand s.tags r) t.core ≡ s.core
unfolding TakenIsInHand
taken_back s None None t next is = ap (λ (v : StateView). v.core) is
taken_back s (Some e) (Some r) t next is =
    ap (λ (v : StateView). put_back (in_hand s.tags (Some r)) v.core) is.1.1
    ∙ (ap (λ (m : Mark). put_back (Some (m, entry_of s.tags r.1)) (popped e.0 s.core)) is.0
    ∙ (ap (λ (x : Entry). put_back (Some (e.0, x)) (popped e.0 s.core)) (of_entry s e.1 r.1 is.1.0) ∙ taken_is_in_hand s.core e next))
taken_back s None (Some r) t next is = absurd is
taken_back s (Some e) None t next is = absurd is

-- an item that is taken loses no wake
pub taken_wakes : (s : StateView) (e : Option (Mark × Entry)) (r : Option (Mark × Item)) (t : StateView) → Takes s e r t → NoWakeLost s.core → NoWakeLost t.core
taken_wakes s None None t is h = subst (λ (v : StateView). NoWakeLost v.core) (sym is) h
taken_wakes s (Some e) (Some r) t is h = popped_kept e.0 s t is.1.1 h
taken_wakes s None (Some r) t is h = absurd is
taken_wakes s (Some e) None t is h = absurd is

pub put_order : (m : Mark) (i : Item) (s t : StateView) → t ≡ on_core (item_put s.tags m i) s → m ≢ mark.Switch → CanGet i s → StaysInOrder s.core t.core
unfolding PutInOrder
put_order m (item.StartImplicit id) s t is low can = by_move (item_put s.tags m (item.StartImplicit id)) s t is (put_in_order m (thread_of s id.thread) _ s.core low can)
put_order m (item.StartExplicit id) s t is low can = by_move (item_put s.tags m (item.StartExplicit id)) s t is (put_in_order m (thread_of s id.thread) _ s.core low can)
put_order m (item.Deliver id d) s t is low can = by_move (item_put s.tags m (item.Deliver id d)) s t is (put_in_order m (thread_of s id.thread) _ s.core low can)
put_order m (item.Resume id) s t is low can = by_move (item_put s.tags m (item.Resume id)) s t is (put_in_order m (thread_of s id.thread) _ s.core low can)
put_order m (item.PushFuture id) s t is low can = absurd can
put_order m (item.FinishHost id) s t is low can = absurd can

pub put_beside : (m : Mark) (i : Item) (s t : StateView) → t ≡ on_core (item_put s.tags m i) s → (c : Component) (n : ℕ) → m ≡ mark.Switch → CanGet i s → KeepsOrder c (turn.Run n) s.core (turn.Run n) t.core
unfolding SwitchInOrder
put_beside mark.Switch (item.StartImplicit id) s t is c n at can = subst (λ (v : StateView). KeepsOrder c (turn.Run n) s.core (turn.Run n) v.core) (sym is) (switch_in_order c n (thread_of s id.thread) _ s.core can)
put_beside mark.Switch (item.StartExplicit id) s t is c n at can = subst (λ (v : StateView). KeepsOrder c (turn.Run n) s.core (turn.Run n) v.core) (sym is) (switch_in_order c n (thread_of s id.thread) _ s.core can)
put_beside mark.Switch (item.Deliver id d) s t is c n at can = subst (λ (v : StateView). KeepsOrder c (turn.Run n) s.core (turn.Run n) v.core) (sym is) (switch_in_order c n (thread_of s id.thread) _ s.core can)
put_beside mark.Switch (item.Resume id) s t is c n at can = subst (λ (v : StateView). KeepsOrder c (turn.Run n) s.core (turn.Run n) v.core) (sym is) (switch_in_order c n (thread_of s id.thread) _ s.core can)
put_beside mark.Switch (item.PushFuture id) s t is c n at can = absurd can
put_beside mark.Switch (item.FinishHost id) s t is c n at can = absurd can
put_beside mark.High i s t is c n at can = absurd (cc)
put_beside mark.Low i s t is c n at can = absurd (cc)

pub put_returns : (m : Mark) (i : Item) (s t : StateView) → t ≡ on_core (item_put s.tags m i) s → (c : Component) (p : Turn) (from : Mark) → is_open p ≡ true → m ≢ mark.Switch → CanReturn from i s →
    KeepsOrder c p (put_back (Some (from, entry_of s.tags i)) s.core) p t.core
unfolding BackInOrder
put_returns m (item.Deliver id d) s t is c p from going low can = subst (λ (v : StateView). KeepsOrder c p (put_back (Some (from, entry_of s.tags (item.Deliver id d))) s.core) p v.core) (sym is) (back_in_order c p from m (thread_of s id.thread) _ s.core going can.place low can.plain can.free)
put_returns m (item.Resume id) s t is c p from going low can = subst (λ (v : StateView). KeepsOrder c p (put_back (Some (from, entry_of s.tags (item.Resume id))) s.core) p v.core) (sym is) (back_in_order c p from m (thread_of s id.thread) _ s.core going can.place low can.plain can.free)
put_returns m (item.StartImplicit id) s t is c p from going low can = absurd can
put_returns m (item.StartExplicit id) s t is c p from going low can = absurd can
put_returns m (item.PushFuture id) s t is c p from going low can = absurd can
put_returns m (item.FinishHost id) s t is c p from going low can = absurd can

-- ---- Promotions

module _ (c : Component) (p : Turn) (going : is_open p ≡ true) where
  ready_place : (n : ℕ) (s : Core) → (is_at n s is_ready_to_begin || has_yielded n s) ≡ true → (m : Mark) × ((w : Why) × (place_of n s ≡ Some (place.Ready m w)))
  unfolding has_yielded
  ready_place n s on = by (place_of n s) refl
    where
      by : (o : Option Place) → place_of n s ≡ o → (m : Mark) × ((w : Why) × (place_of n s ≡ Some (place.Ready m w)))
      by (Some (place.Ready m w)) is = (m, (w, is))
      by o is = absurd (grind (arith, is, on))

  pub thread_order : (n : ℕ) (s t : StateView) → t ≡ on_core (thread_promoted n) s → KeepsOrder c p s.core p t.core
  unfolding PromoteInOrder
  thread_order n s t is = subst (λ (v : StateView). KeepsOrder c p s.core p v.core) (sym is) (by (is_at n s.core is_ready_to_begin || has_yielded n s.core) refl)
    where
      by : (b : Bool) → (is_at n s.core is_ready_to_begin || has_yielded n s.core) ≡ b → KeepsOrder c p s.core p (if b then promoted_unless n s.core else s.core)
      by true on = let r = ready_place n s.core on in promote_in_order c p n r.0 r.1.0 s.core going r.1.1
      by false off = λ order. (order, record { instances = λ i. refl; handles = λ i. refl })

  pub local_order : (i : ℕ) (s t : StateView) → t ≡ on_core (local_promoted i) s → KeepsOrder c p s.core p t.core
  unfolding FirstInOrder
  local_order i s t is = subst (λ (v : StateView). KeepsOrder c p s.core p v.core) (sym is) (first_in_order c p i s.core going)

-- ---- A stop

pub stop_order : (f : ℕ) (s t : StateView) → t ≡ on_core (stopped f) s → (c : Component) (p : Turn) (h : Hand) → is_idle p ≡ true → is_off_switch h ≡ true → KeepsOrder c p (put_back h s.core) p (put_back h t.core)
unfolding StopInOrder
stop_order f s t is c p h idle off = subst (λ (v : StateView). KeepsOrder c p (put_back h s.core) p (put_back h v.core)) (sym is) (stop_in_order c p h f s.core idle off)

-- ---- Another thread runs, and one ends

left_is : (n : ℕ) (new : Option ℕ) (s : Core) → (new ≡ Some n → ⊥) → place_of n s ≡ Some place.Running → is_left n new s ≡ true
left_is n None s apart runs = grind (arith, runs)
left_is n (Some m) s apart runs = by_number n m _ (λ is. absurd (apart (ap (λ (k : ℕ). Some k) (sym is)))) (λ other. grind (arith, nat_tests, runs, other))

entered_is : (new : Option ℕ) (s : Core) → entered new s ≡ placed_at new place.Running s
entered_is None s = refl
entered_is (Some m) s = refl

pub turns_order : (c : CurrentThread) (s t : StateView) → t ≡ now_runs c s → TurnsInOrder (runner s) (number_in s c) s.core t.core
unfolding TurnInOrder
turns_order thread s t is c p q from to may order =
    subst (λ (v : StateView). KeepsOrder c p s.core q v.core) (sym is) (λ o. by (runner s) refl o) order
  where
    new : Option ℕ
    new = number_in s thread

    runs : (n : ℕ) → running_in p ≡ Some n → InOrderForAnyMain c p s.core → place_of n s.core ≡ Some place.Running
    runs n at o = (o Unscripted).in_place.runs n (turn_of p n at)

    by : (old : Option ℕ) → runner s ≡ old → InOrderForAnyMain c p s.core → InOrderForAnyMain c q (entered new (left_for old new s.core)) × SameInstances s.core (entered new (left_for old new s.core))
    by None at o = subst (λ (u : Core). InOrderForAnyMain c q u × SameInstances s.core u) (sym (entered_is new s.core))
        (turn_in_order None new s.core c p q (rw at at from) to (rw at at may) o)
    by (Some n) at o = subst (λ (u : Core). InOrderForAnyMain c q u × SameInstances s.core u) (sym (entered_is new (left_for (Some n) new s.core)))
        (subst (λ (b : Bool). InOrderForAnyMain c q (placed_at new place.Running (if b then set_place n place.Suspended s.core else s.core)) × SameInstances s.core (placed_at new place.Running (if b then set_place n place.Suspended s.core else s.core)))
        (sym (left_is n new s.core (λ e. may.apart n at e) (runs n (from.1 ∙ at) o)))
        (turn_in_order (Some n) new s.core c p q (rw at at from) to (rw at at may) o))

pub leaves_order : (n : ℕ) (s t : Core) → t ≡ ended n s → leaves_no_result n s ≡ false → LeavesInOrder n s t
unfolding EndInOrder
leaves_order n s t is lasts c may = subst (λ (u : Core). KeepsOrder c (turn.Run n) s turn.Main u) (sym is) (end_in_order n s lasts c may)
