-- What a host does to entries keeps order.
use Rattle.laws_order.proofs.EventOrder.{high_back, with_hand}
use Rattle.laws_order.proofs.StayLemmas.{IsIdle}
use Rattle.laws_order.proofs.PieceLemmas.{displaced_moved, displaced_there, moved_waits, moved_woken, piece_keeps, placing_counted, promoted_moved}
use Rattle.laws_order.proofs.QuietLemmas.{counted_of, idle_keeps, put_from, put_keeps, shifts_keep}
use Rattle.laws_order.specs.KeptOrder.{FirstInOrder, Hand, PromoteInOrder, PutInOrder, StopInOrder, SwitchInOrder, TakenIsInHand, is_idle, is_off_switch, put_back}
use Rattle.laws_order.specs.Pieces.{KeepsOrder, InOrderForAnyMain, SameInstances, state_in}
use Rattle.std.proofs.Common.{ap, arith, inr, refl, subst, sym, ◌∙◌}
use Rattle.std.proofs.lemmas.Bool.Decides.{nat_tests}
use Rattle.std.specs.Option.{option_map_or}
use Rattle.std.specs.Prelude.{Bool, List, None, Option, Some, [], false, if◌then◌else◌, is_some, suc, true, zero, ℕ, ◌==◌, ◌∷◌, ◌≡◌, ◌≤◌}
use Rattle.laws_states.proofs.WakeCounts.{woken_place}
use Rattle.laws_states.specs.Order.{is_open}
use Rattle.laws_states.specs.WakeLaw.{WakesCounted}
use Rattle.machine_data.proofs.CommuteLemmas.{get-change}
use Rattle.machine_data.specs.Core.{Core, Queues, Unscripted}
use Rattle.machine_data.specs.Maps.{size}
use Rattle.machine_data.specs.Moves.{behind, behind_one, displaced, first_entry, has_entry, newest, older, passed_on, promoted, promoted_first, promoted_unless, put_high, put_low, put_switch, resumed_all, resumed_callers, stopped}
use Rattle.machine_data.specs.Read.{callers_of, foot_from, foot_of, op_progress_of, is_waiting_on, next_entry, place_of, under_of}
use Rattle.machine_data.specs.Write.{on_thread, push_high_first, push_low, set_callers, set_high, set_low, set_place, set_switch}
use Rattle.machine_data.specs.declared.component.Component.{Component}
use Rattle.machine_data.specs.declared.records.Entry.{Entry}
use Rattle.machine_data.specs.declared.records.Place.{Place}
use Rattle.machine_data.specs.declared.records.Subtask.{Subtask}
use Rattle.machine_data.specs.declared.records.Turn.{Turn}
use Rattle.machine_data.specs.declared.records.Why.{Why}
use Rattle.machine_data.specs.declared.statuses.Mark.{Mark}
use Rattle.machine_rules.proofs.PlacingLemmas.{placed, placing_shifted}
use Rattle.machine_rules.proofs.PromotionLemmas.{first_has_entry}
use Rattle.machine_rules.proofs.StandLemmas.{by_number}
use Rattle.machine_rules.specs.Allowed.{Cancels, HasEntry, MayPut, Releases, Resumes, Starts, Unblocks, Wakes}
use Rattle.machine_rules.specs.Chains.{NoPrimitive}
use Rattle.machine_rules.specs.Places.{HasPlace, Placed, entries, is_at_high, is_at_low, says}
use Rattle.machine_rules.specs.Takes.{popped, rest_of}
use Rattle.machine_rules.specs.Primitives.{Promote, Put, Stop}
use Rattle.laws_order.proofs.{GroundLemmas.order_loses_no_wake, StopLemmas.stop_keeps}
use Rattle.laws_order.specs.WakesKept.{OrderLosesNoWake, StopKeeps}

-- ---- Taking

-- the first of a mark, put back
first_back : (x : Entry) (es xs : List Entry) → es ≡ x ∷ xs → x ∷ rest_of es ≡ es
first_back x es xs is = ap (λ (ys : List Entry). x ∷ rest_of ys) is ∙ sym is

pub taken_is_in_hand : TakenIsInHand
unfolding TakenIsInHand next_entry popped set_switch set_high set_low
taken_is_in_hand s e at = go s.queues.switch s.queues.high s.queues.low refl refl refl
  where
    -- as far as it goes for this entry
    by : (x : Mark × Entry) → x ≡ e → put_back (Some x) (popped x.0 s) ≡ s → put_back (Some e) (popped e.0 s) ≡ s
    by x same back = subst (λ (y : Mark × Entry). put_back (Some y) (popped y.0 s) ≡ s) same back

    whole : (q : Queues) → q ≡ s.queues → record s { queues = q } ≡ s
    whole q is = ap (λ (r : Queues). record s { queues = r }) is

    go : (o : Option ℕ) (high low : List Entry) → s.queues.switch ≡ o → s.queues.high ≡ high → s.queues.low ≡ low →
        put_back (Some e) (popped e.0 s) ≡ s
    go (Some n) high low is a b = by (Mark.Switch, Entry.Thread n) (cc) (whole (record s.queues { switch = Some n }) (ap (λ (o : Option ℕ). record s.queues { switch = o }) (sym is)))
    go None (x ∷ high) low is a b = by (Mark.High, x) (cc) (whole (record s.queues { high = x ∷ rest_of s.queues.high }) (ap (λ (es : List Entry). record s.queues { high = es }) (first_back x s.queues.high high a)))
    go None [] (x ∷ low) is a b = by (Mark.Low, x) (cc) (whole (record s.queues { low = x ∷ rest_of s.queues.low }) (ap (λ (es : List Entry). record s.queues { low = es }) (first_back x s.queues.low low b)))
    go None [] [] is a b = absurd (cc)

-- ---- A thread gets an entry

low_back : (n : ℕ) (w : Why) (h : Hand) (s : Core) → put_low n w (put_back h s) ≡ put_back h (put_low n w s)
unfolding put_low push_low set_place on_thread
low_back n w None s = refl
low_back n w (Some (Mark.Switch, e)) s = refl
low_back n w (Some (Mark.High, e)) s = refl
low_back n w (Some (Mark.Low, e)) s = refl

may_put_with : (n : ℕ) (w : Why) (h : Hand) (s : Core) → MayPut n w s → MayPut n w (put_back h s)
may_put_with n w h s (Starts at own queued is) = Starts at own queued is
may_put_with n w h s (Resumes may) = Resumes may
may_put_with n w h s (Wakes x waits is) = Wakes x waits is
may_put_with n w h s (Unblocks (Subtask.Guest k) at done is) = Unblocks (Subtask.Guest k) at done is
may_put_with n w h s (Unblocks (Subtask.Host i) at done is) = Unblocks (Subtask.Host i) at done is
may_put_with n w h s (Releases at) = Releases at
may_put_with n w h s (Cancels at is) = Cancels at is

pub put_in_order : PutInOrder
unfolding PutInOrder
put_in_order Mark.High n w s low may c p h going = with_hand c p (λ (u : Core). put_high n w u) h s (high_back n w h s) (put_keeps c p Mark.High n w (put_back h s) going low (may_put_with n w h s may))
put_in_order Mark.Low n w s low may c p h going = with_hand c p (λ (u : Core). put_low n w u) h s (low_back n w h s) (put_keeps c p Mark.Low n w (put_back h s) going low (may_put_with n w h s may))
put_in_order Mark.Switch n w s low may c p h going = absurd (low refl)

-- ---- A promotion

none_has : (n : ℕ) (es : List Entry) → has_entry n es ≡ false → entries n es ≡ 0
none_has n [] h = refl
none_has n (e ∷ es) h = let rest = none_has n es in grind (arith, rest, h)

some_has : (n : ℕ) (es : List Entry) → has_entry n es ≡ true → 1 ≤ entries n es
some_has n [] h = absurd (cc)
some_has n (e ∷ es) h = let rest = some_has n es in grind (arith, rest, h)

-- who has an entry at high or low is ready
ready_by : (n : ℕ) (s : Core) → HasPlace n s → HasEntry n s → (m : Mark) × ((w : Why) × (place_of n s ≡ Some (Place.Ready m w)))
ready_by n s h has = by (place_of n s) refl
  where
    at_high : (o : Option Place) → place_of n s ≡ o → says is_at_high o ≡ 0 → says is_at_low o ≡ 0 → ⊥
    at_high o is a b =
        let high = h.high ∙ (ap (says is_at_high) is ∙ a) in let low = h.low ∙ (ap (says is_at_low) is ∙ b) in
        let x = some_has n s.queues.high in let y = some_has n s.queues.low in grind (arith, high, low, x, y, has)

    by : (o : Option Place) → place_of n s ≡ o → (m : Mark) × ((w : Why) × (place_of n s ≡ Some (Place.Ready m w)))
    by (Some (Place.Ready m w)) is = (m, (w, is))
    by None is = absurd (at_high None is refl refl)
    by (Some Place.New) is = absurd (at_high (Some Place.New) is refl refl)
    by (Some Place.Running) is = absurd (at_high (Some Place.Running) is refl refl)
    by (Some Place.Suspended) is = absurd (at_high (Some Place.Suspended) is refl refl)
    by (Some (Place.Held w)) is = absurd (at_high (Some (Place.Held w)) is refl refl)
    by (Some (Place.Waiting x b)) is = absurd (at_high (Some (Place.Waiting x b)) is refl refl)
    by (Some (Place.Blocked sub)) is = absurd (at_high (Some (Place.Blocked sub)) is refl refl)
    by (Some (Place.Behind f)) is = absurd (at_high (Some (Place.Behind f)) is refl refl)
    by (Some (Place.Under m)) is = absurd (at_high (Some (Place.Under m)) is refl refl)

-- who is ready has an entry at high or low where none is at switch
entry_of : (n : ℕ) (m : Mark) (w : Why) (s : Core) → HasPlace n s → s.queues.switch ≡ None → place_of n s ≡ Some (Place.Ready m w) → HasEntry n s
entry_of n Mark.Switch w s h free at = absurd (let one = h.switch in grind (arith, one, free, at))
entry_of n Mark.High w s h free at = by (has_entry n s.queues.high) refl
  where
    by : (b : Bool) → has_entry n s.queues.high ≡ b → HasEntry n s
    by true is = grind (arith, is)
    by false is = absurd (let none = none_has n s.queues.high is in let one = h.high in grind (arith, none, one, at))
entry_of n Mark.Low w s h free at = by (has_entry n s.queues.low) refl
  where
    by : (b : Bool) → has_entry n s.queues.low ≡ b → HasEntry n s
    by true is = grind (arith, is)
    by false is = absurd (let none = none_has n s.queues.low is in let one = h.low in grind (arith, none, one, at))

promoted_keeps : (c : Component) (p : Turn) (n : ℕ) (s : Core) → is_open p ≡ true → s.queues.switch ≡ None → HasEntry n s → KeepsOrder c p s p (promoted n s)
promoted_keeps c p n s going free has h =
    let r = ready_by n s ((h Unscripted).in_place.placed n) has in
    let moved = promoted_moved n s r.0 r.1.0 r.1.1 in
    shifts_keep c p s (promoted n s) going (placed (Promote n) (free, has) NoPrimitive)
    (placing_counted s (promoted n s) (placing_shifted (Promote n) s)
    (λ y j on. moved_waits y (place_of j s) (place_of j (promoted n s)) (moved j) on)
    (λ y j on. moved_woken y (op_progress_of j s) (place_of j s) (place_of j (promoted n s)) (moved j) on)
    (counted_of c p s going h)) h

stays : (s : Core) → SameInstances s s
stays s = record { instances = λ i. refl; handles = λ i. refl }

pub promote_in_order : PromoteInOrder
unfolding PromoteInOrder promoted_unless
promote_in_order c p n m w s going at h = by s.queues.switch refl
  where
    by : (o : Option ℕ) → s.queues.switch ≡ o → let t = if is_some o then s else promoted n s in InOrderForAnyMain c p t × SameInstances s t
    by None is = promoted_keeps c p n s going is (entry_of n m w s ((h Unscripted).in_place.placed n) is at) h
    by (Some k) is = (h, stays s)

pub first_in_order : FirstInOrder
unfolding FirstInOrder
first_in_order c p i s going h = by s.queues.switch refl (first_entry i s) refl
  where
    by : (o : Option ℕ) → s.queues.switch ≡ o → (q : Option ℕ) → first_entry i s ≡ q → let t = if is_some o then s else promoted_first q s in InOrderForAnyMain c p t × SameInstances s t
    by None is (Some n) first = promoted_keeps c p n s going is (first_has_entry i s n first) h
    by None is None first = (h, stays s)
    by (Some k) is q first = (h, stays s)

-- ---- At switch

module _ (n : ℕ) (w : Why) (s : Core) (standing : Placed s) (may : MayPut n w s) where
  abbrev t : Core
  t = put_switch n w s

  others : (j : ℕ) → (j == n) ≡ false → (y : ℕ) →
      (option_map_or (is_waiting_on y) (place_of j t) false ≡ true → option_map_or (is_waiting_on y) (place_of j s) false ≡ true)
      × (woken_place y (place_of j s) (op_progress_of j s) ≡ true → woken_place y (place_of j t) (op_progress_of j s) ≡ true)
  unfolding put_switch set_switch set_place on_thread
  others j apart y =
      let moved = displaced_moved s.queues.switch s (λ d is. let at = (standing d).switch in grind (arith, nat_tests, at, is)) j in
      let same : place_of j t ≡ place_of j (displaced s.queues.switch s) = grind (arith, nat_tests, get-change, apart) in (
        λ on. moved_waits y (place_of j s) (place_of j (displaced s.queues.switch s)) moved (ap (λ (o : Option Place). option_map_or (is_waiting_on y) o false) (sym same) ∙ on),
        λ on. ap (λ (o : Option Place). woken_place y o (op_progress_of j s)) same ∙ moved_woken y (op_progress_of j s) (place_of j s) (place_of j (displaced s.queues.switch s)) moved on,
      )

  to : place_of n t ≡ Some (Place.Ready Mark.Switch w)
  unfolding put_switch set_switch set_place on_thread
  to = let at = (put_from n w s may).1.0 in let there = displaced_there s.queues.switch s n in grind (arith, nat_tests, get-change, at, there)

  switch_counted : WakesCounted s → WakesCounted t
  switch_counted counted = let from = put_from n w s may in placing_counted s t (placing_shifted (Put Mark.Switch n w) s)
      (λ y j on. by_number j n _ (λ is. absurd (grind (arith, to, on, is))) (λ apart. (others j apart y).0 on))
      (λ y j on. by_number j n _ (λ is. let at = from.1.0 in let goes = from.1.1 y Mark.Switch in grind (arith, to, at, goes, on, is)) (λ apart. (others j apart y).1 on)) counted

pub switch_in_order : SwitchInOrder
unfolding SwitchInOrder
switch_in_order c k n w s may h = piece_keeps c k s (put_switch n w s)
    (λ m. placed (Put Mark.Switch n w) (inr (may, ((k, refl), λ j f at. at))) NoPrimitive)
    (switch_counted n w s (h Unscripted).in_place.placed may (counted_of c (Turn.Run k) s refl h)) h

-- ---- A stop

pub idle_open : (p : Turn) → is_idle p ≡ true → is_open p ≡ true
idle_open Turn.Main is = refl
idle_open (Turn.Take b) is = refl
idle_open (Turn.Futures i) is = refl
idle_open (Turn.Run n) is = absurd (cc)
idle_open Turn.Over is = absurd (cc)

idle_none : (p : Turn) → is_idle p ≡ true → IsIdle p
idle_none p is n at = grind (arith, is, at)

stop_plain : (c : Component) (p : Turn) (f : ℕ) (s : Core) → is_idle p ≡ true → KeepsOrder c p s p (stopped f s)
unfolding OrderLosesNoWake StopKeeps
stop_plain c p f s idle h = idle_keeps c p s (stopped f s) (idle_open p idle) (idle_none p idle) (λ m. placed (Stop f) (inr refl) NoPrimitive)
    (stop_keeps f s (order_loses_no_wake c (state_in Unscripted p s) (h Unscripted) (idle_open p idle))).counted h

module _ (h : Hand) (off : is_off_switch h ≡ true) where
  behind_back : (f : ℕ) (ns : List ℕ) (s : Core) → behind f ns (put_back h s) ≡ put_back h (behind f ns s)
  unfolding behind_one set_callers set_place on_thread
  behind_back f [] s = refl
  behind_back f (n ∷ ns) s = behind_back f ns (behind_one f n s)

  all_back : (ns : List ℕ) (s : Core) → resumed_all ns (put_back h s) ≡ put_back h (resumed_all ns s)
  all_back [] s = refl
  all_back (n ∷ ns) s = ap (λ (u : Core). resumed_all ns u) (high_back n Why.Resumption h s) ∙ all_back ns (put_high n Why.Resumption s)

switch_back : (h : Hand) → is_off_switch h ≡ true → (n : ℕ) (w : Why) (s : Core) → s.queues.switch ≡ None → put_switch n w (put_back h s) ≡ put_back h (put_switch n w s)
unfolding put_switch set_switch set_place on_thread push_high_first
switch_back None off n w s free = refl
switch_back (Some (Mark.Switch, e)) off n w s free = absurd (cc)
switch_back (Some (Mark.High, e)) off n w s free = rw free refl
switch_back (Some (Mark.Low, e)) off n w s free = rw free refl

callers_back : (h : Hand) → is_off_switch h ≡ true → (ns : List ℕ) (s : Core) → s.queues.switch ≡ None → resumed_callers ns (put_back h s) ≡ put_back h (resumed_callers ns s)
callers_back h off [] s free = refl
callers_back h off (n ∷ ns) s free = ap (λ (u : Core). resumed_all (older n ns) u) (switch_back h off (newest n ns) Why.Resumption s free) ∙ all_back h off (older n ns) (put_switch (newest n ns) Why.Resumption s)

switch_with : (h : Hand) → is_off_switch h ≡ true → (s : Core) → (put_back h s).queues.switch ≡ s.queues.switch
switch_with None off s = refl
switch_with (Some (Mark.Switch, e)) off s = absurd (cc)
switch_with (Some (Mark.High, e)) off s = refl
switch_with (Some (Mark.Low, e)) off s = refl

foot_with : (h : Hand) (s : Core) (k n : ℕ) → foot_from k (put_back h s) n ≡ foot_from k s n
unfolding under_of
foot_with h s zero n = refl
foot_with h s (suc k) n = go (λ m. foot_with h s k m) (under_of n s)
  where
    go : ((m : ℕ) → foot_from k (put_back h s) m ≡ foot_from k s m) → (o : Option ℕ) → option_map_or (foot_from k (put_back h s)) o n ≡ option_map_or (foot_from k s) o n
    go rest None = refl
    go rest (Some m) = rest m

stopped_back : (h : Hand) → is_off_switch h ≡ true → (f : ℕ) (s : Core) → stopped f (put_back h s) ≡ put_back h (stopped f s)
unfolding stopped set_callers foot_of
stopped_back h off f s =
    ap (λ (o : Option ℕ). passed_on o (callers_of f s) (set_callers f [] (put_back h s))) (switch_with h off s)
    ∙ by s.queues.switch refl
  where
    by : (o : Option ℕ) → s.queues.switch ≡ o → passed_on o (callers_of f s) (put_back h (set_callers f [] s)) ≡ put_back h (passed_on o (callers_of f s) (set_callers f [] s))
    by None is = callers_back h off (callers_of f s) (set_callers f [] s) is
    by (Some m) is =
        ap (λ (g : ℕ). behind g (callers_of f s) (put_back h (set_callers f [] s))) (foot_with h (set_callers f [] s) (size s.threads) m)
        ∙ behind_back h off (foot_of m (set_callers f [] s)) (callers_of f s) (set_callers f [] s)

pub stop_in_order : StopInOrder
unfolding StopInOrder
stop_in_order c p h f s idle off = with_hand c p (λ (u : Core). stopped f u) h s (stopped_back h off f s) (stop_plain c p f (put_back h s) idle)
