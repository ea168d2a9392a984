-- An open offer of a state is fitted by two choices at least: its lists rise, so none has a number twice.
use Rattle.laws_choices.proofs.OfferLemmas.{first_fits}
use Rattle.laws_choices.specs.Offer.{Chosen, FitsOffer, Offer, first_choice, first_of, has_two, is_one_of, is_open}
use Rattle.laws_choices.specs.Offers.{call_offer, cancel_found_offer, cancel_offer, cancel_offer_by, code_kind_offer, code_offer, dec_offer, delivery_offer, gives, gives_woken, handles_of, join_done_offer, join_to_offer, kind_exit_offer, names_ready, nothing, of_found, offer, op_offer, releases, set_offer, start_offer, take_offer, takes_of, task_offer, tells, thread_offer, turn_offer, unless, wait_offer, wakes, wakes_in, wakes_new, why_offer}
use Rattle.laws_choices.specs.Steps.{OpenHasTwo}
use Rattle.std.proofs.Common.{ap₂, T}
use Rattle.std.proofs.lemmas.List.Sorted.{IsPermutation-swap}
use Rattle.std.specs.declared.cmp.Ordering.TheVariants.{Equal, Greater, Less}
use Rattle.std.specs.declared.cmp.Ordering.{Ordering}
use Rattle.std.specs.FinMap.Entries.{below_all, is_sorted}
use Rattle.std.specs.Ordering.{is_eq, is_lt}
use Rattle.machine_data.specs.Core.{NameTable}
use Rattle.machine_data.specs.Maps.{Records}
use Rattle.machine_data.specs.Moves.{is_callback_waiter, waits_cancellable}
use Rattle.machine_data.specs.Read.{is_joined}
use Rattle.machine_data.specs.declared.op.CallOp.TheVariants as call_op
use Rattle.machine_data.specs.declared.op.CallOp.{CallOp}
use Rattle.machine_rules.specs.Cancels.{CancelCase, ThreadWaits, cancel_case, cancellable, is_waiting_of, waiting_callback, waiting_in}
use Rattle.machine_rules.specs.Task.{held_by_counter}
use Rattle.machine_rules.proofs.Machine.{Bool, Core, Delivery, Entry, ExportKind, OpProgress, IsPermutation, Join, List, Named, None, Op, Option, Place, SetOp, Setting, Some, Status, Subtask, TaskOp, Turn, Why, [], admits, admitted_held, ap, arith, at_handle_limit, backpressure_of, cancel_was_delivered, event_of, false, filter, finds_nothing, foot_of, get, goal_of, has_ended, has_ready_member, held_by_flag, held_why, op_progress_of, if◌then◌else◌, instance_of, is_async_lifted, is_direct, is_explicit, is_held_admitted, is_some, is_told, is_waiter, is_watched, join_of, kind_of, leaves_no_result, map, nat_cmp, nat_lt, nat_tests, next_entry, not, numbers, op_of, option_and_then, option_map_or, picked_task_event_of, passes_after_return, passes_after_stop, place_of, popped, refl, set_at, set_backpressure, set_do_not_enter, starting_is_published, subtask_at, suc, task_of, true, unsigned_tied, unwrap_or, value_of, zero, ℕ, ◌%◌, ◌&&◌, ◌*◌, ◌+◌, ◌/◌, ◌∙◌, ◌∷◌, ◌≡◌}

-- ---- Lists that rise

abbrev below : ℕ → List ℕ → Bool
below a [] = true
below a (b ∷ ns) = is_lt (nat_cmp a b) && below a ns

abbrev pub rises : List ℕ → Bool
rises [] = true
rises (a ∷ ns) = below a ns && rises ns

kept_below : (test : ℕ → Bool) (a : ℕ) (ns : List ℕ) → below a ns ≡ true → below a (filter test ns) ≡ true
kept_below test a [] h = refl
kept_below test a (b ∷ ns) h = grind (arith, kept_below test a ns)

kept_rises : (test : ℕ → Bool) (ns : List ℕ) → rises ns ≡ true → rises (filter test ns) ≡ true
kept_rises test [] h = refl
kept_rises test (a ∷ ns) h = grind (arith, kept_rises test ns, kept_below test a ns)

same_below : {X : Type 0} (a : ℕ) (es : List (ℕ × X)) → below a (map (λ e. e.0) es) ≡ below_all nat_cmp a es
same_below a [] = refl
same_below a (e ∷ es) = ap (λ (b : Bool). is_lt (nat_cmp a e.0) && b) (same_below a es)

same_rises : {X : Type 0} (es : List (ℕ × X)) → rises (map (λ e. e.0) es) ≡ is_sorted nat_cmp es
same_rises [] = refl
same_rises (e ∷ es) = ap₂ (λ (b c : Bool). b && c) (same_below e.0 es) (same_rises es)

holds : (b : Bool) → T b → b ≡ true
holds true h = refl
holds false h = absurd h

pub numbers_rise : {X : Type 0} (m : Records X) → rises (numbers m) ≡ true
unfolding numbers
numbers_rise m = same_rises m.list ∙ holds (is_sorted nat_cmp m.list) m.sorted

not_both : (o : Ordering) → is_lt o ≡ true → is_eq o ≡ true → ⊥
not_both Less h k = absurd (grind arith)
not_both Equal h k = absurd (grind arith)
not_both Greater h k = absurd (grind arith)

apart : (a b : ℕ) → is_lt (nat_cmp a b) ≡ true → a ≡ b → ⊥
apart a b h e = not_both (nat_cmp a b) h (unsigned_tied a b ∙ grind (arith, nat_tests, e))

-- ---- Offers whose lists rise

abbrev Rising : Offer → Type 0
Rising o = (rises o.waiters ≡ true) × ((rises o.members ≡ true) × (rises o.held ≡ true))

none_rise : Rising nothing
none_rise = (refl, (refl, refl))

wakes_rise : (x : ℕ) (s : Core) → Rising (wakes x s)
wakes_rise x s = (kept_rises (λ n. is_waiter x n s) (numbers s.threads) (numbers_rise s.threads), (refl, refl))

joined_rise : (j : Join) (s : Core) → Rising (wakes_in j s)
joined_rise (Join.Set x) s = wakes_rise x s
joined_rise Join.Nowhere s = none_rise
joined_rise (Join.Watched n) s = none_rise

either : (b : Bool) (o p : Offer) → Rising o → Rising p → Rising (if b then o else p)
either true o p h k = h
either false o p h k = k

unless_rise : (b : Bool) (o : Offer) → Rising o → Rising (unless b o)
unless_rise true o h = none_rise
unless_rise false o h = h

found_rise : {X : Type 0} (a : Option X) (o : X → Offer) → ((x : X) → Rising (o x)) → Rising (of_found a o)
found_rise None o h = none_rise
found_rise (Some x) o h = h x

tells_rise : (k : ℕ) (s : Core) → Rising (tells k s)
tells_rise k s = either (is_told k s) _ _ (joined_rise (join_of (Subtask.Guest k) s) s) none_rise

takes_rise : (n x : ℕ) (s : Core) → Rising (takes_of n x s)
takes_rise n x s = (refl, (kept_rises (names_ready (instance_of n s) x s) (handles_of (instance_of n s) s) (handles (get s.handles (instance_of n s))), refl))
  where
    handles : (o : Option (NameTable Named)) → rises (option_map_or (λ t. numbers t.live) o []) ≡ true
    handles None = refl
    handles (Some t) = numbers_rise t.live

releases_rise : (ns : List ℕ) (o : Offer) → rises ns ≡ true → Rising o → Rising (releases ns o)
releases_rise ns o h k = (k.0, (k.1.0, h))

gives_rise : (b : Bool) (n x : ℕ) (s : Core) → Rising (gives b n x s)
gives_rise b n x s = either (is_some (picked_task_event_of b (task_of n s) s)) _ _ none_rise (takes_rise n x s)

woken_rise : (b : Bool) (n x : ℕ) (s : Core) → Rising (gives_woken b n x s)
woken_rise b n x s = either (is_some (picked_task_event_of b (task_of n s) s)) _ _ (either (has_ready_member x s) _ _ (wakes_rise x s) none_rise) (takes_rise n x s)

flag_rises : (i : ℕ) (s : Core) → rises (held_by_flag i s) ≡ true
unfolding held_by_flag admitted_held
flag_rises i s = let t = set_do_not_enter i false s in kept_rises (λ n. is_held_admitted i t n (option_and_then held_why (place_of n t))) (numbers t.threads) (numbers_rise t.threads)

counter_rises : (i : ℕ) (s : Core) → rises (held_by_counter i s) ≡ true
unfolding held_by_counter admitted_held
counter_rises i s = let t = set_backpressure i 0 s in kept_rises (λ n. is_held_admitted i t n (option_and_then held_why (place_of n t))) (numbers t.threads) (numbers_rise t.threads)

-- ---- Cancels

taken_rise : (k : ℕ) (s : Core) → rises (cancellable k s) ≡ true
taken_rise k s = by (waits_cancellable k s)
  where
    one : (b : Bool) → rises (if b then k ∷ [] else []) ≡ true
    one true = refl
    one false = refl

    by : (b : Bool) → rises (if b then waiting_in k s else waiting_callback k s) ≡ true
    by true = kept_rises (is_waiting_of k s) (numbers s.threads) (numbers_rise s.threads)
    by false = one (is_callback_waiter k s)

cancel_by_rise : (k : ℕ) (s : Core) (x : CancelCase) → Rising (cancel_offer_by k s x)
cancel_by_rise k s ThreadWaits = (taken_rise k s, (refl, refl))
cancel_by_rise k s _ = none_rise

cancel_found_rise : (s : Core) (sub : Subtask) → Rising (cancel_found_offer s sub)
cancel_found_rise s (Subtask.Guest k) = unless_rise (is_joined (join_of (Subtask.Guest k) s)) _ (cancel_by_rise k s (cancel_case k s))
cancel_found_rise s (Subtask.Host i) = none_rise

cancel_rise : (n h : ℕ) (s : Core) (far : OpProgress) → Rising (cancel_offer n h s far)
cancel_rise n h s (OpProgress.Cancels sub) = none_rise
cancel_rise n h s (OpProgress.AwaitsEnd sub) = none_rise
cancel_rise n h s _ = found_rise (subtask_at (instance_of n s) h s) _ (cancel_found_rise s)

-- ---- Ops and takings

module _ (n : ℕ) (s : Core) where
  code_kind_rise : (held : List ℕ) → rises held ≡ true → (code rest : ℕ) → Rising (code_kind_offer n held s code rest)
  code_kind_rise held h zero rest =
      unless_rise (not (passes_after_stop (instance_of n s) (foot_of n s) held s)) _ (unless_rise (leaves_no_result n s) _ (releases_rise held nothing h none_rise))
  code_kind_rise held h (suc zero) rest = releases_rise held nothing h none_rise
  code_kind_rise held h (suc (suc zero)) rest = found_rise (set_at (instance_of n s) rest s) _ (λ x. releases_rise held nothing h none_rise)
  code_kind_rise held h (suc (suc (suc code))) rest = none_rise

  code_rise : (code : ℕ) → Rising (code_offer n s code)
  code_rise code = unless_rise (nat_lt 4294967295 code) _ (code_kind_rise (held_by_flag (instance_of n s) s) (flag_rises (instance_of n s) s) (code % 16) (code / 16))

  kind_exit_rise : (x : ExportKind) → Rising (kind_exit_offer n s x)
  kind_exit_rise ExportKind.Sync = tells_rise (task_of n s) s
  kind_exit_rise ExportKind.Blocking =
      unless_rise (not (passes_after_return n None s)) _ (releases_rise (held_by_flag (instance_of n s) s) (tells (task_of n s) s) (flag_rises (instance_of n s) s) (tells_rise (task_of n s) s))
  kind_exit_rise ExportKind.Stackful = none_rise
  kind_exit_rise ExportKind.Callback = code_rise 0

  dec_rise : (b : ℕ) → Rising (dec_offer n s b)
  dec_rise zero = none_rise
  dec_rise (suc zero) = releases_rise (held_by_counter (instance_of n s) s) nothing (counter_rises (instance_of n s) s) none_rise
  dec_rise (suc (suc b)) = none_rise

  task_rise : (o : TaskOp) → Rising (task_offer n s o)
  task_rise (TaskOp.Ret x) = unless_rise (has_ended (task_of n s) s) _ (unless_rise (not (is_async_lifted (kind_of (task_of n s) s))) _ (tells_rise (task_of n s) s))
  task_rise (TaskOp.RetBad x) = none_rise
  task_rise TaskOp.TaskCancel =
      unless_rise (not (cancel_was_delivered (task_of n s) s)) _ (unless_rise (has_ended (task_of n s) s) _ (tells_rise (task_of n s) s))
  task_rise TaskOp.Exit =
      either (is_explicit n s) _ _ none_rise (either (is_direct (goal_of (task_of n s) s)) _ _ none_rise (kind_exit_rise (kind_of (task_of n s) s)))
  task_rise TaskOp.CbYield = code_rise 1
  task_rise (TaskOp.CbWait x) = code_rise (16 * value_of n s x + 2)
  task_rise (TaskOp.Code x) = code_rise (value_of n s x)
  task_rise TaskOp.BpInc = none_rise
  task_rise TaskOp.BpDec = dec_rise (backpressure_of (instance_of n s) s)

  -- whether `wait` may take Cancelled
  abbrev may_cancel : Bool
  may_cancel = waits_cancellable (task_of n s) s

  begins_rise : (h : ℕ) → Rising (of_found (set_at (instance_of n s) h s) (λ x. if finds_nothing n x s then nothing else gives may_cancel n x s))
  begins_rise h = found_rise (set_at (instance_of n s) h s) _ (λ x. either (finds_nothing n x s) _ _ none_rise (gives_rise may_cancel n x s))

  wait_rise : (h : ℕ) (far : OpProgress) → Rising (wait_offer n h s far)
  wait_rise h (OpProgress.Waits x) = woken_rise may_cancel n x s
  wait_rise h _ = begins_rise h

  new_rise : (e : Option Status) (x : Option ℕ) → Rising (wakes_new e x s)
  new_rise (Some e) (Some x) = wakes_rise x s
  new_rise (Some e) None = none_rise
  new_rise None x = none_rise

  join_done_rise : (sub : Subtask) (x : Option ℕ) → Rising (join_done_offer sub s x)
  join_done_rise sub x = unless_rise (is_watched (join_of sub s)) _ (new_rise (event_of sub s) x)

  join_to_rise : (h : ℕ) (sub : Subtask) → Rising (join_to_offer n h s sub)
  join_to_rise zero sub = join_done_rise sub None
  join_to_rise (suc h) sub = found_rise (set_at (instance_of n s) (suc h) s) _ (λ x. join_done_rise sub (Some x))

  set_rise : (o : SetOp) → Rising (set_offer n s o)
  set_rise (SetOp.New r) = none_rise
  set_rise (SetOp.Drop x) = none_rise
  set_rise (SetOp.Wait r x) = wait_rise (value_of n s x) (op_progress_of n s)
  set_rise (SetOp.Poll r x) = found_rise (set_at (instance_of n s) (value_of n s x) s) _ (λ y. gives_rise false n y s)
  set_rise (SetOp.Join x y) = found_rise (subtask_at (instance_of n s) (value_of n s x) s) _ (λ sub. join_to_rise (value_of n s y) sub)

  call_rise : (o : CallOp) → Rising (call_offer n s o)
  call_rise (call_op.Cancel r x) = cancel_rise n (value_of n s x) s (op_progress_of n s)
  call_rise (call_op.CancelSync r x) = cancel_rise n (value_of n s x) s (op_progress_of n s)
  call_rise _ = none_rise

  op_rise : (o : Op) → Rising (op_offer n s o)
  op_rise (Op.Task o) = task_rise o
  op_rise (Op.Set o) = set_rise o
  op_rise (Op.Data o) = none_rise
  op_rise (Op.Call o) = call_rise o
  op_rise (Op.Thread o) = none_rise

  start_rise : (b : Bool) → Rising (start_offer n s b)
  start_rise true = either (is_explicit n s) _ _ none_rise (unless_rise (at_handle_limit s) _ (tells_rise (task_of n s) s))
  start_rise false = either (starting_is_published (task_of n s) s) _ _ none_rise (tells_rise (task_of n s) s)

  delivery_rise : (d : Delivery) (b : Bool) → Rising (delivery_offer n s d b)
  delivery_rise (Delivery.Set x) true = woken_rise true n x s
  delivery_rise (Delivery.Set x) false = none_rise
  delivery_rise Delivery.Yield b = none_rise
  delivery_rise Delivery.Cancel b = none_rise

  why_rise : (y : Why) → Rising (why_offer n s y)
  why_rise Why.Start = start_rise (admits n s Why.Start)
  why_rise (Why.Delivery d) = delivery_rise d (admits n s (Why.Delivery d))
  why_rise Why.Resumption = none_rise

  thread_rise : (p : Option Place) → Rising (thread_offer n s p)
  thread_rise (Some (Place.Ready m y)) = why_rise y
  thread_rise _ = none_rise

take_rise : (s : Core) (e : Entry) → Rising (take_offer s e)
take_rise s (Entry.Thread n) = thread_rise n s (place_of n s)
take_rise s (Entry.Push i) = none_rise
take_rise s (Entry.Host i) = joined_rise (join_of (Subtask.Host i) s) s

turn_rise : (x : Setting) (s : Core) (p : Turn) → Rising (turn_offer x s p)
turn_rise x s (Turn.Run n) = op_rise n s (op_of x.component n s)
turn_rise x s (Turn.Take ended) = found_rise (next_entry s) _ (λ e. take_rise (popped e.0 s) e.1)
turn_rise x s Turn.Main = none_rise
turn_rise x s (Turn.Futures n) = none_rise
turn_rise x s Turn.Over = none_rise

-- ---- Two choices

abbrev head_of : ℕ → List ℕ → ℕ
head_of d [] = d
head_of d (n ∷ ns) = n

other_one : (ns : List ℕ) → rises ns ≡ true → has_two ns ≡ true → (m : ℕ) × ((is_one_of ns (Some m) ≡ true) × (first_of ns ≡ Some m → ⊥))
other_one [] h two = absurd (grind arith)
other_one (a ∷ []) h two = absurd (grind arith)
other_one (a ∷ b ∷ ns) h two = (b, (grind (arith, nat_tests), λ e. apart a b (grind arith) (ap (λ (o : Option ℕ). unwrap_or o a) e)))

other_order : (ns : List ℕ) → rises ns ≡ true → has_two ns ≡ true → (ms : List ℕ) × (IsPermutation ns ms × (ns ≡ ms → ⊥))
other_order [] h two = absurd (grind arith)
other_order (a ∷ []) h two = absurd (grind arith)
other_order (a ∷ b ∷ ns) h two =
    (b ∷ a ∷ ns, (IsPermutation-swap (a ∷ b ∷ ns) (b ∷ a ∷ ns) 0 1 (omega arith) (omega arith) refl, λ e. apart a b (grind arith) (ap (head_of a) e)))

two_fit : (o : Offer) → Rising o → is_open o ≡ true → (c : Chosen) × ((d : Chosen) × (FitsOffer c o × (FitsOffer d o × (c ≡ d → ⊥))))
two_fit o h two = by (has_two o.waiters) (has_two o.members) refl refl
  where
    fit : FitsOffer (first_choice o) o
    fit = first_fits o

    by : (b c : Bool) → has_two o.waiters ≡ b → has_two o.members ≡ c → (c : Chosen) × ((d : Chosen) × (FitsOffer c o × (FitsOffer d o × (c ≡ d → ⊥))))
    by true c is at =
        let r = other_one o.waiters h.0 is in (
          first_choice o,
          (
            record { waiter = Some r.0; member = first_of o.members; release = o.held },
            (fit, (record { waiter = r.1.0; member = fit.member; release = fit.release }, λ e. r.1.1 (ap (λ (d : Chosen). d.waiter) e))),
          ),
        )
    by false true is at =
        let r = other_one o.members h.1.0 at in (
          first_choice o,
          (
            record { waiter = first_of o.waiters; member = Some r.0; release = o.held },
            (fit, (record { waiter = fit.waiter; member = r.1.0; release = fit.release }, λ e. r.1.1 (ap (λ (d : Chosen). d.member) e))),
          ),
        )
    by false false is at =
        let r = other_order o.held h.1.1 (grind (arith, is, at, two)) in (
          first_choice o,
          (
            record { waiter = first_of o.waiters; member = first_of o.members; release = r.0 },
            (fit, (record { waiter = fit.waiter; member = fit.member; release = r.1.0 }, λ e. r.1.1 (ap (λ (d : Chosen). d.release) e))),
          ),
        )

pub open_has_two : OpenHasTwo
unfolding OpenHasTwo
open_has_two x s two = two_fit (offer x s) (turn_rise x s.core s.turn) two
