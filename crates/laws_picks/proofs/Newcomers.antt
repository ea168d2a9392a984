-- Who comes to wait or to be held in a step: the thread that runs or was taken. When the others came stays.
use Rattle.laws_states.proofs.CallsCame.{op_came}
use Rattle.laws_states.proofs.CameLemmas.{Came, Comes, Entered, Enters, IsMade, Leaves, MayStand, Moved, Shifts, Turned, Turns, came_primitive}
use Rattle.laws_states.proofs.CountLemmas.{made_threads_primitive}
use Rattle.laws_states.proofs.SceneLemmas.{popped_threads}
use Rattle.machine_data.proofs.CommuteLemmas.{get-change}
use Rattle.machine_data.specs.Core.{Core}
use Rattle.machine_data.specs.Maps.{Records, get, get-insert, get-remove}
use Rattle.machine_data.specs.Read.{came_of, op_progress_of, place_of}
use Rattle.machine_data.specs.Write.{counted_arrival}
use Rattle.machine_data.specs.declared.records.Delivery.{Delivery}
use Rattle.machine_data.specs.declared.records.OpProgress.{OpProgress}
use Rattle.machine_data.specs.declared.records.Place.{Place}
use Rattle.machine_data.specs.declared.records.Thread.{Thread}
use Rattle.machine_data.specs.declared.records.Why.{Why}
use Rattle.machine_data.specs.declared.scenario.Version.{Version}
use Rattle.machine_rules.proofs.ChainLemmas.{along}
use Rattle.machine_rules.proofs.PlacingLemmas.{Shifted, placing_shifted, unplaced}
use Rattle.machine_rules.proofs.StandLemmas.{by_number}
use Rattle.machine_rules.specs.Allowed.{Allowed, AwaitsEvent, Blocks, EndsActivation, Holds, IsLaid, IsRunner, MayCome, MayMove, Runs, Suspends, Uncovers, Waits, WaitsAgain, WasReady}
use Rattle.machine_rules.specs.Arrivals.{is_kept_back}
use Rattle.machine_rules.specs.Chains.{Walk}
use Rattle.machine_rules.specs.OpParts.{is_wait}
use Rattle.machine_rules.specs.Primitives.{Arrive, MakeCall, MakeThread, Places, Primitive, RemoveThread, TakeHost, TakePush, Withdraw, after_placing, after_primitive}
use Rattle.machine_rules.specs.Scenes.{Scene, op_in}
use Rattle.std.proofs.Common.{ap, arith, inl, inr, le_refl, le_trans, refl, subst, sym, ⊎_elim, ◌∙◌}
use Rattle.std.proofs.lemmas.Bool.Decides.{nat_tests}
use Rattle.std.specs.Option.{option_map_or}
use Rattle.std.specs.Prelude.{Bool, None, Option, Some, false, if◌then◌else◌, nat_lt, option_map, true, ℕ, ◌+◌, ◌≡◌, ◌≤◌, ◌⊎◌}
unfoldable use Rattle.machine_data.specs.Write.{add_call, add_group, add_set, add_thread, add_work, arrive, count_work, free_handle, free_thread_handle, give_handle, give_result, give_thread_handle, on_call, on_instance, on_thread, on_work, push_high, remove_call, remove_group, remove_set, remove_thread, remove_work, set_backpressure, set_cancel_asked, set_cancel_delivered, set_cancelled, set_course, set_do_not_enter, set_do_not_suspend, set_end, set_event, set_exited, set_join, set_memory_cell, set_op_progress, set_phase, set_position, set_register, set_result, set_saved_callee, set_saved_own, set_script, set_stage, set_started, set_starting_published, set_subtask_handle, set_task_event, set_thread_handle, set_trapped, set_uninteresting, take_result}
unfoldable use Rattle.machine_rules.specs.Calls.{call_made, with_handle, with_thread_handle, work_queued}
unfoldable use Rattle.machine_rules.specs.Works.{poll_pends}

-- ---- Places

-- why a thread comes to such a place: it was taken, or ran, and its op ends an activation or waits
abbrev pub KeptBy : Scene → ℕ → Place → Type 0
KeptBy a n q = IsLaid a n × (((w : Why) × WasReady a n w) ⊎ (EndsActivation a n ⊎ ((x : ℕ) × (q ≡ Place.Waiting x false))))

no_place : (q p : Place) → q ≡ p → is_kept_back p ≡ false → is_kept_back q ≡ true → ⊥
no_place q p e off on = let bad : true ≡ false = sym on ∙ (ap (λ r. is_kept_back r) e ∙ off) in absurd (cc)

kept_move : (a : Scene) (n : ℕ) (q : Place) (s : Core) → MayMove a n q s → is_kept_back q ≡ true → KeptBy a n q
kept_move a n q s (Runs is to begun e) on = absurd (no_place q Place.Running e refl on)
kept_move a n q s (Holds w laid was out e) on = (laid, inl (w, was))
kept_move a n q s (WaitsAgain x laid was none e) on = (laid, inl (Why.Delivery (Delivery.Set x), was))
kept_move a n q s (AwaitsEvent x leave ends has none e) on = ((leave.0, leave.1.0), inr (inl ends))
kept_move a n q s (Waits x leave has none e) on = ((leave.0, leave.1.0), inr (inr (x, e)))
kept_move a n q s (Blocks sub leave has none out e) on = absurd (no_place q (Place.Blocked sub) e refl on)
kept_move a n q s (Suspends leave e) on = absurd (no_place q Place.Suspended e refl on)
kept_move a n q s (Uncovers m is to under gone e) on = absurd (no_place q Place.Running e refl on)

no_some : (o : Option Place) (q : Place) → o ≡ Some q → option_map_or is_kept_back o false ≡ false → is_kept_back q ≡ true → ⊥
no_some o q e off on = let bad : false ≡ true = sym off ∙ (ap (λ p. option_map_or is_kept_back p false) e ∙ on) in absurd (cc)

kept_moved : (may : Why → Type 0) (o p : Option Place) (q : Place) → Moved may o p → p ≡ Some q → is_kept_back q ≡ true → o ≡ Some q
kept_moved may o (Some (Place.Waiting x b)) q m e on = sym m ∙ e
kept_moved may o (Some (Place.Held w)) q m e on = sym m ∙ e
kept_moved may o p q m e on = absurd (no_some p q e refl on)

-- the places at which threads wait or are held were theirs at first, or they came there in the step
abbrev pub KeptFrom : Scene → Core → Core → Type 0
KeptFrom a b u = (n : ℕ) (q : Place) → place_of n u ≡ Some q → is_kept_back q ≡ true → (place_of n b ≡ Some q) ⊎ KeptBy a n q

kept_primitive : (a : Scene) (b : Core) (w : Primitive) (s : Core) → Allowed a w s → KeptFrom a b s → KeptFrom a b (after_primitive w s)
kept_primitive a b w s ok h n q at on = go (place_of n s) (place_of n (after_primitive w s)) refl at (came_primitive w s ok n)
  where
    turned : (o p : Option Place) → p ≡ Some q → Turned a s (after_primitive w s) n o p → ⊥
    turned o p is (Enters m runs e new under there may) = no_some p q is (ap (λ r. option_map_or is_kept_back r false) under) on
    turned o p is (Entered e there) = no_some p q is (ap (λ r. option_map_or is_kept_back r false) e) on
    turned o p is (Leaves e) = no_some p q is (ap (λ r. option_map_or is_kept_back r false) e) on
    turned o p is (IsMade e low new) = no_some p q is (ap (λ r. option_map_or is_kept_back r false) new) on

    go : (o p : Option Place) → place_of n s ≡ o → p ≡ Some q → Came a s (after_primitive w s) n o p → (place_of n b ≡ Some q) ⊎ KeptBy a n q
    go o p from is (Shifts m) = h n q (from ∙ kept_moved (MayStand a s n) o p q m is on) on
    go o p from is (Comes r may e there) = let same : q ≡ r = cc in inr (kept_move a n q s (subst (λ x. MayMove a n x s) (sym same) may) on)
    go o p from is (Turns t) = absurd (turned o p is t)

pub kept_along : (a : Scene) (b : Core) {t : Core} → Walk a b t → KeptFrom a b t
kept_along a b c = along (KeptFrom a b) (kept_primitive a b) (λ n q at on. inl at) c

-- ---- The op of one that waits

abbrev waited : OpProgress → Option ℕ
waited (OpProgress.Waits x) = Some x
waited _ = None

abbrev pub IsInWait : Scene → Core → Core → Type 0
IsInWait a b u = (n x : ℕ) → op_progress_of n u ≡ OpProgress.Waits x → (op_progress_of n b ≡ OpProgress.Waits x) ⊎ (is_wait (op_in a n) ≡ true)

waited_is : (h : OpProgress) (x : ℕ) → waited h ≡ Some x → h ≡ OpProgress.Waits x
waited_is (OpProgress.Waits y) x e = let same : y ≡ x = cc in cc
waited_is h x e = absurd (cc)

wait_primitive : (a : Scene) (b : Core) (w : Primitive) (s : Core) → Allowed a w s → IsInWait a b s → IsInWait a b (after_primitive w s)
wait_primitive a b w s ok h n x far =
    ⊎_elim (λ was. h n x (waited_is (op_progress_of n s) x was)) (λ c. inr (comes c.0 c.1.0 c.1.1)) (op_came waited x w s ok n refl (ap waited far))
  where
    comes : (g : OpProgress) → MayCome a n g s → waited g ≡ Some x → is_wait (op_in a n) ≡ true
    comes (OpProgress.Waits y) may e = may.1.1.0
    comes g may e = absurd (cc)

pub wait_along : (a : Scene) (b : Core) {t : Core} → Walk a b t → IsInWait a b t
wait_along a b c = along (IsInWait a b) (wait_primitive a b) (λ n x far. inl far) c

-- ---- When they came

-- the threads of which there were fewer than now came when they did at first, but for one that runs or was taken
abbrev pub CameAsBefore : Scene → Core → Core → Type 0
CameAsBefore a b u = (b.made.threads ≤ u.made.threads) × ((n : ℕ) → (IsRunner a n → ⊥) → n ≤ b.made.threads →
    (get u.threads n ≡ None) ⊎ (came_of n u ≡ came_of n b))

came_same : (o p : Option Thread) → option_map unplaced o ≡ option_map unplaced p → option_map_or (λ (t : Thread). t.came) o 0 ≡ option_map_or (λ (t : Thread). t.came) p 0
came_same None None e = refl
came_same None (Some r) e = absurd (cc)
came_same (Some r) None e = absurd (cc)
came_same (Some r) (Some u) e = ap (λ (o : Option Thread). option_map_or (λ (t : Thread). t.came) o 0) e

stays_none : (o p : Option Thread) → option_map unplaced o ≡ option_map unplaced p → p ≡ None → o ≡ None
stays_none None p e none = refl
stays_none (Some r) p e none = absurd (let bad = ap (λ (u : Option Thread). option_map unplaced u) none in cc)

came_primitive_as : (a : Scene) (w : Primitive) (s : Core) → Allowed a w s → (n : ℕ) → (IsRunner a n → ⊥) → n ≤ s.made.threads →
    (get (after_primitive w s).threads n ≡ None) ⊎ ((came_of n (after_primitive w s) ≡ came_of n s) × (get s.threads n ≡ None → get (after_primitive w s).threads n ≡ None))
unfolding arrive set_cancel_asked add_call add_group add_set add_thread add_work count_work free_handle free_thread_handle give_handle give_result give_thread_handle on_call on_instance on_thread on_work push_high remove_call remove_group remove_set remove_thread remove_work set_backpressure set_cancel_delivered set_cancelled set_course set_do_not_enter set_do_not_suspend set_end set_event set_exited set_op_progress set_join set_task_event set_phase set_position set_register set_result set_saved_callee set_saved_own set_script set_stage set_started set_starting_published set_subtask_handle set_thread_handle set_trapped set_uninteresting set_memory_cell take_result call_made with_handle with_thread_handle work_queued poll_pends
came_primitive_as a (Places p) s ok n other low =
    let h : Shifted s (after_placing p s) = placing_shifted p s in
    inr (came_same _ _ (h.threads n), λ none. stays_none _ _ (h.threads n) none)
came_primitive_as a (Arrive m) s ok n other low =
    by_number n m _ (λ e. absurd (other (subst (λ k. IsRunner a k) (sym e) ok))) (λ apart. inr (grind (arith, nat_tests, get-change, apart), λ none. grind (arith, nat_tests, get-change, none)))
came_primitive_as a (RemoveThread m) s ok n other low =
    by_number n m _ (λ e. inl (grind (arith, nat_tests, get-remove, e))) (λ apart. inr (grind (arith, nat_tests, get-remove, apart), λ none. grind (arith, nat_tests, get-remove, none)))
came_primitive_as a (Withdraw m) s ok n other low =
    by_number n m _ (λ e. inl (grind (arith, nat_tests, get-remove, e))) (λ apart. inr (grind (arith, nat_tests, get-remove, apart), λ none. grind (arith, nat_tests, get-remove, none)))
came_primitive_as a (MakeThread u) s ok n other low = inr (grind (arith, nat_tests, get-insert, low), λ none. grind (arith, nat_tests, get-insert, low, none))
came_primitive_as a (MakeCall f e x g group words) s ok n other low = inr (grind (arith, nat_tests, get-insert, low), λ none. grind (arith, nat_tests, get-insert, low, none))
came_primitive_as a (TakePush m i) s ok n other low =
    inr (ap (λ (r : Records Thread). option_map_or (λ (t : Thread). t.came) (get r n) 0) (popped_threads m s), λ none. ap (λ (r : Records Thread). get r n) (popped_threads m s) ∙ none)
came_primitive_as a (TakeHost m i) s ok n other low =
    inr (ap (λ (r : Records Thread). option_map_or (λ (t : Thread). t.came) (get r n) 0) (popped_threads m s), λ none. ap (λ (r : Records Thread). get r n) (popped_threads m s) ∙ none)
came_primitive_as a w s ok n other low = inr (grind (arith, nat_tests, get-change), λ none. grind (arith, nat_tests, get-change, none))

came_one : (a : Scene) (b : Core) (w : Primitive) (s : Core) → Allowed a w s → CameAsBefore a b s → CameAsBefore a b (after_primitive w s)
came_one a b w s ok h = (le_trans h.0 (made_threads_primitive a w s), λ n other low. next n (h.1 n other low) (came_primitive_as a w s ok n other (le_trans low h.0)))
  where
    next : (n : ℕ) → (get s.threads n ≡ None) ⊎ (came_of n s ≡ came_of n b) →
        (get (after_primitive w s).threads n ≡ None) ⊎ ((came_of n (after_primitive w s) ≡ came_of n s) × (get s.threads n ≡ None → get (after_primitive w s).threads n ≡ None)) →
        (get (after_primitive w s).threads n ≡ None) ⊎ (came_of n (after_primitive w s) ≡ came_of n b)
    next n before (inl gone) = inl gone
    next n (inl none) (inr same) = inl (same.1 none)
    next n (inr came) (inr same) = inr (same.0 ∙ came)

pub came_along : (a : Scene) (b : Core) {t : Core} → Walk a b t → CameAsBefore a b t
came_along a b c = along (CameAsBefore a b) (came_one a b) (le_refl _, λ n other low. inr refl) c

-- ---- How many have come

-- the version stays, and no fewer have come
abbrev pub CountedOn : Core → Core → Type 0
CountedOn b u = (u.version ≡ b.version) × (b.arrivals ≤ u.arrivals)

counted_more : (v : Version) (k : ℕ) → k ≤ counted_arrival v k
counted_more Version.One k = le_refl k
counted_more Version.Two k = by (nat_lt k 18446744073709551615)
  where
    by : (b : Bool) → k ≤ (if b then k + 1 else k)
    by true = omega arith
    by false = omega arith

counted_primitive : (w : Primitive) (s : Core) → ((after_primitive w s).version ≡ s.version) × (s.arrivals ≤ (after_primitive w s).arrivals)
unfolding arrive set_cancel_asked add_call add_group add_set add_thread add_work count_work free_handle free_thread_handle give_handle give_result give_thread_handle on_call on_instance on_thread on_work push_high remove_call remove_group remove_set remove_thread remove_work set_backpressure set_cancel_delivered set_cancelled set_course set_do_not_enter set_do_not_suspend set_end set_event set_exited set_op_progress set_join set_task_event set_phase set_position set_register set_result set_saved_callee set_saved_own set_script set_stage set_started set_starting_published set_subtask_handle set_thread_handle set_trapped set_uninteresting set_memory_cell take_result call_made with_handle with_thread_handle work_queued poll_pends
counted_primitive (Arrive m) s = (refl, counted_more s.version s.arrivals)
counted_primitive w s = (refl, le_refl _)

counted_one : (b : Core) (w : Primitive) (s : Core) → CountedOn b s → CountedOn b (after_primitive w s)
counted_one b w s h = let c = counted_primitive w s in (c.0 ∙ h.0, le_trans h.1 c.1)

pub counted_along : (a : Scene) (b : Core) {t : Core} → Walk a b t → CountedOn b t
counted_along a b c = along (CountedOn b) (λ w s ok h. counted_one b w s h) (refl, le_refl _) c
