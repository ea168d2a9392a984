-- A step that picks what is wanted is the step that the choice makes.
use Rattle.laws_choices.proofs.RulePicks.{rules_choose}
use Rattle.laws_choices.proofs.StepLemmas.{step_chooses}
use Rattle.laws_choices.proofs.Forms.{unordered}
use Rattle.laws_picks.proofs.CancelOffers.{call_one}
use Rattle.laws_choices.proofs.TakePicks.{takes_show, takings_choose}
use Rattle.laws_choices.specs.Chooses.{Chooses, IsLawful, IsUnordered, MayCome, ReleasesOnce, RulesChoose, ShowsChoice, TakingsChoose, hides, no_choice}
use Rattle.laws_choices.specs.Offer.{Chosen, FitsOffer, Offer, shown}
use Rattle.laws_choices.specs.Offers.{of_found, op_offer, take_offer, turn_offer}
use Rattle.laws_choices.specs.Steps.{NothingOpen, ProgressesBy, StepBy, StepChooses, TakenBy, TurnBy}
use Rattle.laws_picks.proofs.CountLemmas.{often, often_permuted}
use Rattle.laws_picks.proofs.OfferWalk.{call_has, host_has, op_has, take_has, thread_taken_has}
use Rattle.laws_picks.proofs.OrderLemmas.{kept_once, none_permuted, permuted_none, wanted_order}
use Rattle.laws_picks.proofs.OwnLemmas.{IsOwn, op_own, step_own, take_shows}
use Rattle.laws_picks.proofs.SameLemmas.{Alike, OneSet, OneTaken, itself_alike, member_is, waiter_is}
use Rattle.laws_picks.specs.Wants.{WantedIsChosen, chooser_at}
use Rattle.laws_states.specs.Order.{InOrder, NamesKnown, WaitsAtHome, WorksKnown}
use Rattle.machine_data.specs.Labels.{member_of}
use Rattle.machine_data.specs.Write.{set_backpressure, set_do_not_enter, set_high, set_low, set_switch}
use Rattle.machine_rules.proofs.Machine.{Asks, Choice, Continues, Core, Entry, Fails, HasOpen, IsPermutation, Label, List, Mark, Never, None, Option, Ordered, Progress, Progresses, Setting, Some, State, Stops, Subtask, TakeStep, Traps, Turn, [], admitted_held, ap, arith, choice_of, did, entry_number, held_by_flag, held_why, instance_of, is_held_admitted, is_ready_member, next_entry, op_of, option_and_then, option_map_or, place_of, popped, refl, subst, subtask_at, sym, take_rule, true, false, Bool, woken_of, ℕ, ◌∙◌, ◌≡◌, ◌⊎◌}
use Rattle.machine_rules.specs.Picks.{Preference, ShowsFirst, StepIn, TurnStepIn, cancel_before, goes_in_order, in_order, thread_seat, waiter_or}
use Rattle.machine_rules.specs.Progress.{OneOf, may}
use Rattle.machine_rules.specs.Step.{is_among, scripted_op_rule}
use Rattle.machine_data.specs.declared.op.Op.{Op}
use Rattle.std.proofs.Common.{cond}
use Rattle.std.proofs.lemmas.Bool.{eq-eqb, eqb-true}
use Rattle.std.specs.List.{list_any}
use Rattle.std.specs.Ordering.{is_lt, nat_cmp}
use Rattle.machine_rules.specs.Task.{held_by_counter}
use Rattle.std.proofs.Common.{inl, inr}
use Rattle.std.proofs.lemmas.List.Sorted.{IsPermutation-sym, IsPermutation-trans}
use Rattle.std.specs.Prelude.{not, ◌==◌, ◌||◌, ◌∷◌, ◌≤◌}

-- ---- What offers have

-- but where a cancel takes one of several threads
op_one_set : (n : ℕ) (s : Core) (x : Setting) → hides (did x.component n s no_choice) ≡ false → OneSet s (op_offer n s (op_of x.component n s))
unfolding did
op_one_set n s x shows = op_has (OneSet s) s (inl refl) (λ y. inr (y, refl)) n (λ y. inl refl) (λ i o h. h) (λ i o h. h) (op_of x.component n s)
    (λ o is. call_one n s x.component o (ap (λ (q : Op). hides (scripted_op_rule x.component n s no_choice q)) (sym is) ∙ shows))

take_one_set : (s : Core) (e : Entry) → OneSet s (take_offer s e)
take_one_set s e = take_has (OneSet s) s (inl refl) (λ y. inr (y, refl)) e (λ n y. inl refl)

op_one_taken : (n : ℕ) (s : Core) (x : Setting) → OneTaken n s (op_offer n s (op_of x.component n s))
op_one_taken n s x = op_has (OneTaken n s) s (inl refl) (λ y. inl refl) n (λ y. inr (y, refl)) (λ i o h. h) (λ i o h. h) (op_of x.component n s)
    (λ o is. call_has (OneTaken n s) s (inl refl) (λ y. inl refl) (λ k. inl refl) n o)

flag_once : (i : ℕ) (s : Core) (n : ℕ) → often n (held_by_flag i s) ≤ 1
unfolding held_by_flag admitted_held
flag_once i s n = let t = set_do_not_enter i false s in kept_once (λ m. is_held_admitted i t m (option_and_then held_why (place_of m t))) t.threads n

counter_once : (i : ℕ) (s : Core) (n : ℕ) → often n (held_by_counter i s) ≤ 1
unfolding held_by_counter admitted_held
counter_once i s n = let t = set_backpressure i 0 s in kept_once (λ m. is_held_admitted i t m (option_and_then held_why (place_of m t))) t.threads n

abbrev HeldOnce : Offer → Type 0
HeldOnce o = (n : ℕ) → often n o.held ≤ 1

op_held_once : (n : ℕ) (s : Core) (x : Setting) → HeldOnce (op_offer n s (op_of x.component n s))
op_held_once n s x = op_has HeldOnce s (λ m. omega arith) (λ y m. omega arith) n (λ y m. omega arith) (λ i o h. flag_once i s) (λ i o h. counter_once i s) (op_of x.component n s)
    (λ o is. call_has HeldOnce s (λ m. omega arith) (λ y m. omega arith) (λ k m. omega arith) n o)

take_held_none : (s : Core) (e : Entry) → (take_offer s e).held ≡ []
take_held_none s e = take_has (λ o. o.held ≡ []) s refl (λ y. refl) e (λ n y. refl)

-- of the thread whose entry it is
take_one_taken : (s : Core) (e : Entry) → OneTaken (entry_number e) s (take_offer s e)
take_one_taken s (Entry.Thread n) = thread_taken_has (OneTaken n s) s (inl refl) (λ y. inl refl) n (λ y. inr (y, refl))
take_one_taken s (Entry.Push i) = inl refl
take_one_taken s (Entry.Host i) = host_has (OneTaken i s) s (inl refl) (λ y. inl refl) i

-- an entry that has left its mark moves no thread
popped_ready : (m : Mark) (s : Core) (x : ℕ) (sub : Subtask) → is_ready_member x sub (popped m s) ≡ is_ready_member x sub s
unfolding popped set_switch set_high set_low
popped_ready Mark.Switch s x (Subtask.Guest k) = refl
popped_ready Mark.Switch s x (Subtask.Host i) = refl
popped_ready Mark.High s x (Subtask.Guest k) = refl
popped_ready Mark.High s x (Subtask.Host i) = refl
popped_ready Mark.Low s x (Subtask.Guest k) = refl
popped_ready Mark.Low s x (Subtask.Host i) = refl

popped_alike : (m : Mark) (s : Core) → Alike (popped m s) s
unfolding popped set_switch set_high set_low
popped_alike Mark.Switch s = record { waits = λ x n. refl; named = λ i h. refl; ready = popped_ready Mark.Switch s; instance = λ n. refl }
popped_alike Mark.High s = record { waits = λ x n. refl; named = λ i h. refl; ready = popped_ready Mark.High s; instance = λ n. refl }
popped_alike Mark.Low s = record { waits = λ x n. refl; named = λ i h. refl; ready = popped_ready Mark.Low s; instance = λ n. refl }

-- ---- A progress with its release

-- who is in the list passes, so one in it passes
any_among : (test : ℕ → Bool) (k : ℕ) (ns : List ℕ) → is_among k ns ≡ true → test k ≡ true → list_any test ns ≡ true
any_among test k [] none on = absurd (cc)
any_among test k (n ∷ ns) there on = by (λ some. any_among test k ns some on) (k == n) refl there
  where
    either_on : (b : Bool) → (b || true) ≡ true
    either_on true = refl
    either_on false = refl

    by : (is_among k ns ≡ true → list_any test ns ≡ true) → (b : Bool) → (k == n) ≡ b → (b || is_among k ns) ≡ true → (test n || list_any test ns) ≡ true
    by rest true same some = ap (λ b. b || list_any test ns) (ap test (sym (eqb-true k n same)) ∙ on)
    by rest false other some = ap (λ b. test n || b) (rest some) ∙ either_on (test n)

module _ (p : Preference) (s : State) (base : Core) (n : ℕ) (l : Label) (t : State) where
  abbrev with_order : List ℕ → Chosen
  with_order order = record { waiter = woken_of l; member = member_of l; release = order }

  -- what is known of the order in which a progress came about
  abbrev Order : List ℕ → Type 0
  Order order = (order ≡ []) ⊎ (goes_in_order p order ≡ true)

  plain_by : (c : Chosen) (y : Progress) → IsUnordered y → Progresses s base n y l t → ProgressesBy c s base n y l t
  plain_by c (Continues k new m) un h = h
  plain_by c (Stops k new) un h = h
  plain_by c (Traps why) un h = h
  plain_by c (Fails i) un h = h
  plain_by c Never un h = h
  plain_by c (Ordered ns next) un h = absurd un
  plain_by c (OneOf ns next) un h = absurd un
  plain_by c (Asks next) un h = absurd un

  shows_own : (y : Progress) → IsUnordered y → Progresses s base n y l t → ShowsChoice (choice_of l) y
  shows_own (Continues k new m) un h = ap choice_of (sym h.0)
  shows_own (Stops k new) un h = ap choice_of (sym h.0)
  shows_own (Traps why) un h = ap choice_of (sym h.0)
  shows_own (Fails i) un h = ap choice_of (sym h.0)
  shows_own Never un h = absurd h
  shows_own (Ordered ns next) un h = absurd un
  shows_own (OneOf ns next) un h = absurd un
  shows_own (Asks next) un h = absurd un

  unordered_in : (y : Progress) → IsUnordered y → Progresses s base n (in_order p y) l t → Progresses s base n y l t
  unordered_in (Continues k new m) un h = h
  unordered_in (Stops k new) un h = h
  unordered_in (Traps why) un h = h
  unordered_in (Fails i) un h = h
  unordered_in Never un h = h
  unordered_in (Ordered ns next) un h = absurd un
  unordered_in (OneOf ns next) un h = absurd un
  unordered_in (Asks next) un h = absurd un

  let_in : (b : Bool) (y : Progress) → Progresses s base n (may b y) l t → (b ≡ true) × Progresses s base n y l t
  let_in true y h = (refl, h)
  let_in false y h = absurd h

  came_in : (y : Progress) → ReleasesOnce y → hides y ≡ false → Progresses s base n (in_order p y) l t → (order : List ℕ) × (MayCome (with_order order) y × (ProgressesBy (with_order order) s base n y l t × Order order))
  came_in (Continues k new m) once shows h = ([], ((ap choice_of (sym h.0), refl), (h, inl refl)))
  came_in (Stops k new) once shows h = ([], ((ap choice_of (sym h.0), refl), (h, inl refl)))
  came_in (Traps why) once shows h = ([], ((ap choice_of (sym h.0), refl), (h, inl refl)))
  came_in (Fails i) once shows h = ([], ((ap choice_of (sym h.0), refl), (h, inl refl)))
  came_in Never once shows h = absurd h
  came_in (Ordered ns next) once shows h =
      let order = h.0 in
      let two = let_in (goes_in_order p order) (in_order p (next order)) h.1.1 in
      let plain = unordered_in (next order) (once order) two.1 in
      (order, ((h.1.0, shows_own (next order) (once order) plain), (plain_by (with_order order) (next order) (once order) plain, inr two.0)))
  came_in (OneOf ns next) once shows h = absurd (grind (arith, shows))
  came_in (Asks next) once shows h = absurd once

  came_by : (y : Progress) → ReleasesOnce y → hides y ≡ false → Progresses s base n y l t → (order : List ℕ) × (MayCome (with_order order) y × ProgressesBy (with_order order) s base n y l t)
  came_by (Continues k new m) once shows h = ([], ((ap choice_of (sym h.0), refl), h))
  came_by (Stops k new) once shows h = ([], ((ap choice_of (sym h.0), refl), h))
  came_by (Traps why) once shows h = ([], ((ap choice_of (sym h.0), refl), h))
  came_by (Fails i) once shows h = ([], ((ap choice_of (sym h.0), refl), h))
  came_by Never once shows h = absurd h
  came_by (Ordered ns next) once shows h = (h.0, ((h.1.0, shows_own (next h.0) (once h.0) h.1.1), plain_by (with_order h.0) (next h.0) (once h.0) h.1.1))
  came_by (OneOf ns next) once shows h = absurd (grind (arith, shows))
  came_by (Asks next) once shows h = absurd once

  plain_in : (y : Progress) → Progresses s base n (in_order p y) l t → Progresses s base n y l t
  plain_in (Continues k new m) h = h
  plain_in (Stops k new) h = h
  plain_in (Traps why) h = h
  plain_in (Fails i) h = h
  plain_in Never h = h
  plain_in (Ordered ns next) h = (h.0, (h.1.0, plain_in (next h.0) (let_in (goes_in_order p h.0) (in_order p (next h.0)) h.1.1).1))
  plain_in (OneOf ns next) h = (h.0, (h.1.0, plain_in (next h.0) (let_in (not (list_any (λ k. cancel_before p k h.0) ns)) (in_order p (next h.0)) h.1.1).1))
  plain_in (Asks next) h = (h.0, plain_in (next h.0) h.1)

  -- the choice is the one that was made, so it makes the step
  by_same : (row : Choice → Progress) (c : Chosen) (order : List ℕ) → woken_of l ≡ c.waiter → member_of l ≡ c.member → order ≡ c.release → ProgressesBy (with_order order) s base n (row (choice_of l)) l t → ProgressesBy c s base n (row (shown c)) l t
  by_same row c order waiter member release h =
      let same : with_order order ≡ c =
      ap (λ (w : Option ℕ). record { waiter = w; member = member_of l; release = order }) waiter
      ∙ (ap (λ (m : Option ℕ). record { waiter = c.waiter; member = m; release = order }) member
      ∙ ap (λ (ns : List ℕ). record { waiter = c.waiter; member = c.member; release = ns }) release) in
      subst (λ (d : Chosen). ProgressesBy d s base n (row (shown d)) l t) same h

  -- of several threads the wanted one is taken
  taken_in : (ns : List ℕ) (next : ℕ → Progress) (c : Chosen) → ((m : ℕ) → ShowsChoice no_choice (next m)) → ((w : ℕ) → c.waiter ≡ Some w → p.waiter ≡ Some w) → MayCome c (OneOf ns next) →
      Progresses s base n (in_order p (OneOf ns next)) l t → ProgressesBy c s base n (OneOf ns next) l t
  taken_in ns next c shows wanted fits h =
      let m = h.0 in
      let k = fits.0 in
      let two = let_in (not (list_any (λ j. cancel_before p j m) ns)) (in_order p (next m)) h.1.1 in
      let same = it m k (wanted k fits.1.0.0) fits.1.0.1 two.0 in
      let plain = unordered_in (next m) (unordered no_choice (next m) (shows m)) two.1 in
      (k, (fits.1.0, plain_by c (next k) (unordered no_choice (next k) (shows k)) (subst (λ j. Progresses s base n (next j) l t) same plain)))
    where
      it : (m k : ℕ) → p.waiter ≡ Some k → is_among k ns ≡ true → not (list_any (λ j. cancel_before p j m) ns) ≡ true → m ≡ k
      it m k is there none = by (k == m) refl
        where
          first : ℕ → ℕ → Bool
          first i j = is_lt (nat_cmp (thread_seat p.seats i).own (thread_seat p.seats j).own)

          by : (b : Bool) → (k == m) ≡ b → m ≡ k
          by true same = sym (eqb-true k m same)
          by false other =
              let comes : cancel_before p k m ≡ true =
              ap (λ (o : Option ℕ). waiter_or o k m (first k m)) is
              ∙ (ap (λ b. cond b false (cond (k == k) true (first k m))) other ∙ ap (λ b. cond b true (first k m)) (eq-eqb k k refl)) in
              let bad : false ≡ true = sym (ap not (any_among (λ j. cancel_before p j m) k ns there comes)) ∙ none in
              absurd (cc)

  -- ---- One rule

  module _ (o : Offer) (row : Choice → Progress) (picks : Chooses o row) (c : Chosen) (fit : FitsOffer c o) (first : ShowsFirst p s.core l) (alike : Alike base s.core) (sets : hides (row no_choice) ≡ false → OneSet base o) (taken : OneTaken n base o) (names : NamesKnown s.core) (works : WorksKnown s.core) (own : (o.members ≡ [] → ⊥) → IsOwn n l) (waiter : (w : ℕ) → c.waiter ≡ Some w → p.waiter ≡ Some w) (member : (h : ℕ) → c.member ≡ Some h → p.member ≡ subtask_at (instance_of n s.core) h s.core) where
    -- whether the rule hides what is taken doesn't hang on what is shown
    none_hidden : (b d : Choice) → hides (row b) ≡ false → hides (row d) ≡ false
    none_hidden b d shows = by (hides (row d)) refl
      where
        by : (x : Bool) → hides (row d) ≡ x → x ≡ false
        by false is = refl
        by true is = absurd (let two = sym is ∙ (ap hides (sym (picks.takes d b is)) ∙ shows) in cc)

    rule_same : hides (row (choice_of l)) ≡ false → (order : List ℕ) → MayCome (with_order order) (row (choice_of l)) → order ≡ c.release → ProgressesBy (with_order order) s base n (row (choice_of l)) l t → ProgressesBy c s base n (row (shown c)) l t
    rule_same shows order came release h =
        let made = picks.only (with_order order) came in
        by_same row c order
        (waiter_is p base s.core alike l first o (sets (none_hidden (choice_of l) no_choice shows)) c.waiter waiter made.waiter fit.waiter)
        (member_is p base s.core alike l first o n own names works taken c.member member made.member fit.member)
        release h

    -- releases go as they are wanted
    pub rule_in : ((m : ℕ) → often m o.held ≤ 1) → p.held ≡ c.release → Progresses s base n (in_order p (row (choice_of l))) l t → ProgressesBy c s base n (row (shown c)) l t
    rule_in once release h = by_row (row (choice_of l)) refl h
      where
        order_is : (order : List ℕ) → IsPermutation o.held order → Order order → order ≡ c.release
        order_is order perm known = elim known [
          | inl none ↦ none ∙ sym (none_permuted c.release (subst (λ ns. IsPermutation ns c.release) (permuted_none o.held (subst (IsPermutation o.held) none perm)) fit.release))
          | inr goes ↦
              wanted_order p order (λ m. subst (λ ns. often m ns ≤ 1) (sym release) (omega (arith, once m, often_permuted m o.held c.release fit.release)))
              (subst (λ ns. IsPermutation ns order) (sym release) (IsPermutation-trans c.release o.held order (IsPermutation-sym o.held c.release fit.release) perm)) goes
              ∙ release
        ]

        listed : hides (row (choice_of l)) ≡ false → Progresses s base n (in_order p (row (choice_of l))) l t → ProgressesBy c s base n (row (shown c)) l t
        listed shows h =
            let r = came_in (row (choice_of l)) (picks.once (choice_of l)) shows h in
            let made = picks.only (with_order r.0) r.1.0 in
            rule_same shows r.0 r.1.0 (order_is r.0 made.release r.1.1.1) r.1.1.0

        by_row : (y : Progress) → row (choice_of l) ≡ y → Progresses s base n (in_order p y) l t → ProgressesBy c s base n (row (shown c)) l t
        by_row (OneOf ns next) is h =
            let same : row (shown c) ≡ OneOf ns next = picks.takes (choice_of l) (shown c) (ap hides is) ∙ is in
            let fits = subst (MayCome c) same (picks.each (choice_of l) c (subst IsLawful (sym is) tt) fit) in
            subst (λ y. ProgressesBy c s base n y l t) (sym same) (taken_in ns next c (subst ReleasesOnce is (picks.once (choice_of l))) waiter fits h)
        by_row y is h = listed (ap hides is) (subst (λ z. Progresses s base n (in_order p z) l t) (sym is) h)

    -- nothing is released
    pub rule_plain : o.held ≡ [] → hides (row (choice_of l)) ≡ false → Progresses s base n (row (choice_of l)) l t → ProgressesBy c s base n (row (shown c)) l t
    rule_plain none shows h =
        let r = came_by (row (choice_of l)) (picks.once (choice_of l)) shows h in
        let made = picks.only (with_order r.0) r.1.0 in
        rule_same shows r.0 r.1.0 (nothing_of r.0 made.release ∙ sym (nothing_of c.release fit.release)) r.1.1
      where
        nothing_of : (ns : List ℕ) → IsPermutation o.held ns → ns ≡ []
        nothing_of ns perm = none_permuted ns (subst (λ k. IsPermutation k ns) none perm)

-- ---- A step

takes_choose : (m : Mark) (e : Entry) (s : Core) → Chooses (take_offer s e) (λ ch. take_rule m ch s e)
unfolding TakingsChoose
takes_choose = takings_choose

ops_choose : (x : Setting) (n : ℕ) (s : Core) → (HasOpen x.component → ⊥) → WaitsAtHome s → Chooses (op_offer n s (op_of x.component n s)) (λ ch. did x.component n s ch)
unfolding RulesChoose did
ops_choose x n s settled home = rules_choose x.component n s (op_of x.component n s) settled home

did_own : (x : Setting) (s : State) (n : ℕ) (l : Label) (t : State) → ((op_offer n s.core (op_of x.component n s.core)).members ≡ [] → ⊥) → Progresses s s.core n (did x.component n s.core (choice_of l)) l t → IsOwn n l
unfolding did
did_own x s n l t some h = step_own n s s.core n l t (did x.component n s.core (choice_of l)) (op_own n x.component (choice_of l) s.core (op_of x.component n s.core) some) h

module _ (p : Preference) (x : Setting) (s : State) (closed : NothingOpen x s) (order : InOrder x.component s) (c : Chosen) (l : Label) (t : State) (first : ShowsFirst p s.core l) (waiter : (w : ℕ) → c.waiter ≡ Some w → p.waiter ≡ Some w) (release : p.held ≡ c.release) where
  run_same : (n : ℕ) → FitsOffer c (op_offer n s.core (op_of x.component n s.core)) → ((h : ℕ) → c.member ≡ Some h → p.member ≡ subtask_at (instance_of n s.core) h s.core) →
      Progresses s s.core n (in_order p (did x.component n s.core (choice_of l))) l t → ProgressesBy c s s.core n (did x.component n s.core (shown c)) l t
  run_same n fit member h =
      rule_in p s s.core n l t (op_offer n s.core (op_of x.component n s.core)) (λ ch. did x.component n s.core ch) (ops_choose x n s.core closed.hosts order.waits) c fit first (itself_alike s.core) (op_one_set n s.core x) (op_one_taken n s.core x) order.names order.works_known
      (λ some. did_own x s n l t some (plain_in p s s.core n l t (did x.component n s.core (choice_of l)) h)) waiter member (op_held_once n s.core x) release h

  taken_same : (o : Option (Mark × Entry)) → FitsOffer c (of_found o (λ e. take_offer (popped e.0 s.core) e.1)) →
      ((h : ℕ) → c.member ≡ Some h → p.member ≡ subtask_at (instance_of (option_map_or (λ e. entry_number e.1) o 0) s.core) h s.core) → TakeStep x s o l t → TakenBy x c s o l t
  taken_same None fit member h = h
  taken_same (Some e) fit member h =
      let base = popped e.0 s.core in
      rule_plain p s base (entry_number e.1) l t (take_offer base e.1) (λ ch. take_rule e.0 ch base e.1) (takes_choose e.0 e.1 base) c fit first (popped_alike e.0 s.core) (λ shows. take_one_set base e.1) (take_one_taken base e.1) order.names order.works_known
      (λ some. step_own (entry_number e.1) s base (entry_number e.1) l t (take_rule e.0 (choice_of l) base e.1) (take_shows e.0 (choice_of l) base e.1) h) waiter member (take_held_none base e.1) (takes_show e.0 (choice_of l) e.1 base) h

  turn_same : (q : Turn) (d : Chosen) → FitsOffer c (turn_offer x s.core q) → ((h : ℕ) → c.member ≡ Some h → p.member ≡ subtask_at (instance_of (chooser_at s.core q) s.core) h s.core) →
      TurnBy x d s q l t → TurnStepIn p x s q l t → TurnBy x c s q l t
  turn_same Turn.Main d fit member made h = made
  turn_same (Turn.Futures n) d fit member made h = made
  turn_same (Turn.Take ended) d fit member made h = taken_same (next_entry s.core) fit member h
  turn_same (Turn.Run n) d fit member made h = run_same n fit member h
  turn_same Turn.Over d fit member made h = made

pub wanted_is_chosen : WantedIsChosen
unfolding WantedIsChosen StepChooses StepBy StepIn
wanted_is_chosen p x s closed order c fit wants l t step picks =
    let made = step_chooses x s closed order.waits l t step in
    turn_same p x s closed order c l t picks.shows wants.waiter wants.release s.turn made.0 fit wants.member made.1.makes picks.step
