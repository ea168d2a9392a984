-- Steps and the choices that make them.
use Rattle.laws_choices.proofs.Forms.{none_fits, shows_none, shows_one, unordered}
use Rattle.laws_choices.proofs.RulePicks.{rules_choose}
use Rattle.laws_choices.proofs.TakePicks.{takes_show, takings_choose}
use Rattle.laws_choices.specs.Chooses.{Chooses, IsLawful, IsUnordered, MayCome, ReleasesOnce, RulesChoose, ShowsChoice, TakingsChoose, hides, no_choice}
use Rattle.laws_choices.specs.Offer.{Chosen, FitsOffer, Offer, shown}
use Rattle.laws_choices.specs.Offers.{nothing, of_found, op_offer, take_offer, turn_offer}
use Rattle.laws_choices.specs.Steps.{ChoiceSteps, FutureBy, IsScripted, MadeIsStep, NothingOpen, PolledBy, ProgressesBy, StepBy, StepChooses, StepDetermined, TakenBy, TurnBy, hides_in, told}
use Rattle.laws_states.proofs.SettledLemmas.{none_is_asked}
use Rattle.laws_states.specs.Settled.{NoneIsAsked, is_asked}
use Rattle.laws_states.specs.Order.{WaitsAtHome}
use Rattle.machine_data.specs.Labels.{member_of}
use Rattle.machine_rules.proofs.Machine.{arith, Asked, Asks, HasOpen, Bool, Choice, Core, DeadlockStep, Does, EmptyFor, Ends, Entry, Fails, FailsNow, FuturesStep, Continues, Label, List, Main, MainOpDef, MainPlace, MainProgress, MainProgresses, MainStep, Mark, Never, None, OpenProgresses, Option, Ordered, Pends, Poll, Polled, Progress, Progresses, RestStep, ScriptStep, Scripted, Setting, Some, State, Step, StillPends, Stops, TakeStep, Traps, Turn, TurnStep, Unscripted, [], act_of, advanced_main, ap, at_turn, choice_of, did, entry_number, false, has_moving_work, is_unended_take, line_of, main_rule, may_deadlock, next_entry, next_polled, op_at, op_of, poll_ends, poll_of, poll_pends, popped, refl, set_trapped, subst, sym, take_rule, true, unwrap_or, woken_of, ℕ, ◌∙◌, ◌≡◌}
use Rattle.machine_rules.specs.Progress.{OneOf}
use Rattle.machine_rules.specs.MainOps.{Answers}
use Rattle.machine_rules.specs.Step.{OpenStep}

no_chosen : Chosen
no_chosen = record { waiter = None; member = None; release = [] }

-- ---- A progress by a choice

-- the label shows what was chosen unless the progress hides it
told_shown : (b : Bool) (ch : Choice) (c : Chosen) → ch ≡ told b c → b ≡ false → ch ≡ shown c
told_shown true ch c e none = absurd (grind (arith, none))
told_shown false ch c e none = e

-- what is taken is what the choice says
one_taken_by : (c : Chosen) (m k : ℕ) → c.waiter ≡ Some m → c.waiter ≡ Some k → m ≡ k
one_taken_by c m k one two = ap (λ (o : Option ℕ). unwrap_or o 0) (sym one ∙ two)

module _ (s : State) (base : Core) (n : ℕ) (l : Label) (t : State) where
  plain_by : (c : Chosen) (p : Progress) → IsUnordered p → Progresses s base n p l t → ProgressesBy c s base n p l t
  plain_by c (Continues k new m) un h = h
  plain_by c (Stops k new) un h = h
  plain_by c (Traps y) un h = h
  plain_by c (Fails i) un h = h
  plain_by c Never un h = h
  plain_by c (Ordered ns next) un h = absurd un
  plain_by c (OneOf ns next) un h = absurd un
  plain_by c (Asks next) un h = absurd un

  by_plain : (c : Chosen) (p : Progress) → IsUnordered p → ProgressesBy c s base n p l t → Progresses s base n p l t
  by_plain c (Continues k new m) un h = h
  by_plain c (Stops k new) un h = h
  by_plain c (Traps y) un h = h
  by_plain c (Fails i) un h = h
  by_plain c Never un h = h
  by_plain c (Ordered ns next) un h = absurd un
  by_plain c (OneOf ns next) un h = absurd un
  by_plain c (Asks next) un h = absurd un

  -- the label shows its own choice
  shows_own : (p : Progress) → IsUnordered p → Progresses s base n p l t → ShowsChoice (choice_of l) p
  shows_own (Continues k new m) un h = ap choice_of (sym h.0)
  shows_own (Stops k new) un h = ap choice_of (sym h.0)
  shows_own (Traps y) un h = ap choice_of (sym h.0)
  shows_own (Fails i) un h = ap choice_of (sym h.0)
  shows_own Never un h = absurd h
  shows_own (Ordered ns next) un h = absurd un
  shows_own (OneOf ns next) un h = absurd un
  shows_own (Asks next) un h = absurd un

  by_lawful : (c : Chosen) (p : Progress) → ProgressesBy c s base n p l t → IsLawful p
  by_lawful c (Continues k new m) h = tt
  by_lawful c (Stops k new) h = tt
  by_lawful c (Traps y) h = tt
  by_lawful c (Fails i) h = tt
  by_lawful c Never h = absurd h
  by_lawful c (Ordered ns next) h = tt
  by_lawful c (OneOf ns next) h = tt
  by_lawful c (Asks next) h = absurd h

  plain_lawful : (p : Progress) → Progresses s base n p l t → IsLawful p
  plain_lawful (Continues k new m) h = tt
  plain_lawful (Stops k new) h = tt
  plain_lawful (Traps y) h = tt
  plain_lawful (Fails i) h = tt
  plain_lawful Never h = absurd h
  plain_lawful (Ordered ns next) h = tt
  plain_lawful (OneOf ns next) h = tt
  plain_lawful (Asks next) h = tt

  abbrev with_order : List ℕ → Chosen
  with_order order = record { waiter = woken_of l; member = member_of l; release = order }

  abbrev with_taken : ℕ → Chosen
  with_taken m = record { waiter = Some m; member = None; release = [] }

  -- the choice comes to the progress, and the label shows it as far as it does
  abbrev ComesBy : Chosen → Progress → Type 0
  ComesBy c p = (choice_of l ≡ told (hides p) c) × (MayCome c p × ProgressesBy c s base n p l t)

  -- a progress comes about by the choice that its label shows and some order, or by the thread that was taken
  came_by : (p : Progress) → ReleasesOnce p → Progresses s base n p l t → (c : Chosen) × ComesBy c p
  came_by (Continues k new m) once h = (with_order [], (refl, ((ap choice_of (sym h.0), refl), h)))
  came_by (Stops k new) once h = (with_order [], (refl, ((ap choice_of (sym h.0), refl), h)))
  came_by (Traps y) once h = (with_order [], (refl, ((ap choice_of (sym h.0), refl), h)))
  came_by (Fails i) once h = (with_order [], (refl, ((ap choice_of (sym h.0), refl), h)))
  came_by Never once h = absurd h
  came_by (Ordered ns next) once h =
      let order = h.0 in
      (with_order order, (refl, ((h.1.0, shows_own (next order) (once order) h.1.1), plain_by (with_order order) (next order) (once order) h.1.1)))
  came_by (OneOf ns next) once h =
      let m = h.0 in
      let un = unordered no_choice (next m) (once m) in
      let c = with_taken m in (
        c,
        (
          shows_one (choice_of l) no_choice (next m) (shows_own (next m) un h.1.1) (once m),
          ((m, ((refl, h.1.0), (refl, (refl, once m)))), (m, ((refl, h.1.0), plain_by c (next m) un h.1.1))),
        ),
      )
  came_by (Asks next) once h = absurd once

  -- what may come about and comes by the choice is a progress, and its label shows the choice as far as it does
  by_came : (c : Chosen) (p : Progress) → MayCome c p → ProgressesBy c s base n p l t → (choice_of l ≡ told (hides p) c) × Progresses s base n p l t
  by_came c (Continues k new m) may h = (ap choice_of h.0 ∙ may.0, h)
  by_came c (Stops k new) may h = (ap choice_of h.0 ∙ may.0, h)
  by_came c (Traps y) may h = (ap choice_of h.0 ∙ may.0, h)
  by_came c (Fails i) may h = (ap choice_of h.0 ∙ may.0, h)
  by_came c Never may h = absurd h
  by_came c (Ordered ns next) may h =
      let un = unordered (shown c) (next c.release) may.1 in
      let plain = by_plain c (next c.release) un h in
      (shows_one (choice_of l) (shown c) (next c.release) (shows_own (next c.release) un plain) may.1, (c.release, (may.0, plain)))
  by_came c (OneOf ns next) may h =
      let m = h.0 in
      let shows : ShowsChoice no_choice (next m) = subst (λ k. ShowsChoice no_choice (next k)) (one_taken_by c may.0 m may.1.0.0 h.1.0.0) may.1.1.1.1 in
      let un = unordered no_choice (next m) shows in
      let plain = by_plain c (next m) un h.1.1 in
      (shows_one (choice_of l) no_choice (next m) (shows_own (next m) un plain) shows, (m, (h.1.0.1, plain)))
  by_came c (Asks next) may h = absurd h

module _ (s : State) (base : Core) (n : ℕ) where
  -- what shows a choice leads somewhere
  reach_plain : (c : Chosen) (ch : Choice) (p : Progress) → ShowsChoice ch p → (l : Label) × ((t : State) × ProgressesBy c s base n p l t)
  reach_plain c ch (Continues k new m) h = (_, (_, (refl, refl)))
  reach_plain c ch (Stops k new) h = (_, (_, (refl, refl)))
  reach_plain c ch (Traps y) h = (_, (_, (refl, refl)))
  reach_plain c ch (Fails i) h = (_, (_, (refl, refl)))
  reach_plain c ch Never h = absurd h
  reach_plain c ch (Ordered ns next) h = absurd h
  reach_plain c ch (OneOf ns next) h = absurd h
  reach_plain c ch (Asks next) h = absurd h

  reach : (c : Chosen) (p : Progress) → MayCome c p → (l : Label) × ((t : State) × ProgressesBy c s base n p l t)
  reach c (Continues k new m) h = reach_plain c (shown c) (Continues k new m) h.0
  reach c (Stops k new) h = reach_plain c (shown c) (Stops k new) h.0
  reach c (Traps y) h = reach_plain c (shown c) (Traps y) h.0
  reach c (Fails i) h = reach_plain c (shown c) (Fails i) h.0
  reach c Never h = absurd h.0
  reach c (Ordered ns next) h = reach_plain c (shown c) (next c.release) h.1
  reach c (OneOf ns next) h = let r = reach_plain c no_choice (next h.0) h.1.1.1.1 in (r.0, (r.1.0, (h.0, (h.1.0, r.1.1))))
  reach c (Asks next) h = absurd h.0

  one_by : (c : Chosen) (p : Progress) (l k : Label) (t u : State) → ProgressesBy c s base n p l t → ProgressesBy c s base n p k u → (l ≡ k) × (t ≡ u)
  one_by c (Continues x new m) l k t u h i = (h.0 ∙ sym i.0, h.1 ∙ sym i.1)
  one_by c (Stops x new) l k t u h i = (h.0 ∙ sym i.0, h.1 ∙ sym i.1)
  one_by c (Traps y) l k t u h i = (h.0 ∙ sym i.0, h.1 ∙ sym i.1)
  one_by c (Fails j) l k t u h i = (h.0 ∙ sym i.0, h.1 ∙ sym i.1)
  one_by c Never l k t u h i = absurd h
  one_by c (Ordered ns next) l k t u h i = one_by c (next c.release) l k t u h i
  one_by c (OneOf ns next) l k t u h i = one_by c (next h.0) l k t u h.1.1
      (subst (λ m. ProgressesBy c s base n (next m) k u) (one_taken_by c i.0 h.0 i.1.0.0 h.1.0.0) i.1.1)
  one_by c (Asks next) l k t u h i = absurd h

  -- main's part stays
  main_by : (c : Chosen) (p : Progress) (l : Label) (t : State) → ProgressesBy c s base n p l t → t.main ≡ s.main
  unfolding at_turn
  main_by c (Continues x new m) l t h = ap (λ (u : State). u.main) h.1
  main_by c (Stops x new) l t h = ap (λ (u : State). u.main) h.1
  main_by c (Traps y) l t h = ap (λ (u : State). u.main) h.1
  main_by c (Fails j) l t h = ap (λ (u : State). u.main) h.1
  main_by c Never l t h = absurd h
  main_by c (Ordered ns next) l t h = main_by c (next c.release) l t h
  main_by c (OneOf ns next) l t h = main_by c (next h.0) l t h.1.1
  main_by c (Asks next) l t h = absurd h

  module _ (o : Offer) (row : Choice → Progress) (picks : Chooses o row) (l : Label) (t : State) where
    -- whether it hides what is taken doesn't hang on the label
    hides_alike : (b d : Choice) → hides (row b) ≡ hides (row d)
    hides_alike b d = by (hides (row b)) (hides (row d)) refl refl
      where
        by : (x y : Bool) → hides (row b) ≡ x → hides (row d) ≡ y → hides (row b) ≡ hides (row d)
        by true y at it = ap hides (sym (picks.takes b d at))
        by false true at it = ap hides (picks.takes d b it)
        by false false at it = at ∙ sym it

    -- the rows of a choice and of what the label shows of it are one
    row_alike : (b : Choice) (c : Chosen) → choice_of l ≡ told (hides (row b)) c → row (shown c) ≡ row (choice_of l)
    row_alike b c e = by (hides (row b)) refl
      where
        by : (x : Bool) → hides (row b) ≡ x → row (shown c) ≡ row (choice_of l)
        by true it = picks.takes b (shown c) it ∙ sym (picks.takes b (choice_of l) it)
        by false it = ap row (sym (told_shown (hides (row b)) (choice_of l) c e it))

    rule_chooses : Progresses s base n (row (choice_of l)) l t →
        (c : Chosen) × (FitsOffer c o × ((choice_of l ≡ told (hides (row no_choice)) c) × ProgressesBy c s base n (row (shown c)) l t))
    rule_chooses h =
        let r = came_by s base n l t (row (choice_of l)) (picks.once (choice_of l)) h in
        let c = r.0 in
        let same = row_alike (choice_of l) c r.1.0 in (
          c,
          (
            picks.only c (subst (λ p. MayCome c p) (sym same) r.1.1.0),
            (subst (λ b. choice_of l ≡ told b c) (hides_alike (choice_of l) no_choice) r.1.0, subst (λ p. ProgressesBy c s base n p l t) (sym same) r.1.1.1),
          ),
        )

    rule_makes : (c : Chosen) → FitsOffer c o → ProgressesBy c s base n (row (shown c)) l t →
        Progresses s base n (row (choice_of l)) l t × (choice_of l ≡ told (hides (row no_choice)) c)
    rule_makes c fit h =
        let r = by_came s base n l t c (row (shown c)) (picks.each (shown c) c (by_lawful s base n l t c (row (shown c)) h) fit) h in
        (subst (λ p. Progresses s base n p l t) (row_alike (shown c) c r.0) r.1, subst (λ b. choice_of l ≡ told b c) (hides_alike (shown c) no_choice) r.0)

    rule_steps : Progresses s base n (row (choice_of l)) l t → (c : Chosen) → FitsOffer c o → (k : Label) × ((u : State) × ProgressesBy c s base n (row (shown c)) k u)
    rule_steps h c fit = reach c (row (shown c)) (picks.each (choice_of l) c (plain_lawful s base n l t (row (choice_of l)) h) fit)

-- ---- Turns that choose nothing

module _ (x : Setting) (s : State) (l : Label) (t : State) where
  main_none : (p : MainPlace) (o : MainOpDef) (y : MainProgress) → MainProgresses s p o y l t → choice_of l ≡ no_choice
  main_none p o (Does k new) h = ap choice_of h.0
  main_none p o Pends h = ap choice_of h.0
  main_none p o (Answers v) h = ap choice_of h.0

  script_none : (p : MainPlace) (o : Option MainOpDef) → ScriptStep x s p o l t → choice_of l ≡ no_choice
  script_none p None h = ap choice_of h.0
  script_none p (Some o) h = main_none p o (main_rule x.component (line_of p o) s.core (act_of p o)) h

  polled_none : (i : ℕ) (y : Poll) → Polled s i y l t → choice_of l ≡ no_choice
  polled_none i (StillPends host) h = ap choice_of h.0
  polled_none i (Ends v) h = ap choice_of h.0
  polled_none i FailsNow h = ap choice_of h.0
  polled_none i (Asked next) h = polled_none i (next h.0) h.1

  futures_none : (o : Option ℕ) → FuturesStep s o l t → choice_of l ≡ no_choice
  futures_none None h = absurd h
  futures_none (Some i) h = polled_none i (poll_of i s.core) h

  -- a poll that asks no open work is one by a choice
  by_polled : (i : ℕ) (y : Poll) → is_asked y ≡ false → Polled s i y l t → PolledBy s i y l t
  by_polled i (StillPends host) known h = h
  by_polled i (Ends v) known h = h
  by_polled i FailsNow known h = h
  by_polled i (Asked next) known h = absurd (cc)

  polled_by : (i : ℕ) (y : Poll) → PolledBy s i y l t → Polled s i y l t
  polled_by i (StillPends host) h = h
  polled_by i (Ends v) h = h
  polled_by i FailsNow h = h
  polled_by i (Asked next) h = absurd h

  by_future : ((i : ℕ) → is_asked (poll_of i s.core) ≡ false) → (o : Option ℕ) → FuturesStep s o l t → FutureBy s o l t
  by_future known None h = h
  by_future known (Some i) h = by_polled i (poll_of i s.core) (known i) h

  future_by : (o : Option ℕ) → FutureBy s o l t → FuturesStep s o l t
  future_by None h = h
  future_by (Some i) h = polled_by i (poll_of i s.core) h

  rest_none : (b : Bool) → RestStep s b l t → choice_of l ≡ no_choice
  rest_none true h = ap choice_of h.0
  rest_none false h = absurd h

  deadlock_none : (b : Bool) → DeadlockStep s b l t → choice_of l ≡ no_choice
  deadlock_none true h = ap choice_of h.0
  deadlock_none false h = absurd h

  empty_none : (b : Bool) → EmptyFor x s b l t → choice_of l ≡ no_choice
  empty_none true h = rest_none (is_unended_take s.turn) h
  empty_none false h = deadlock_none (may_deadlock x s) h

acts_none : (s : State) (l : Label) (t : State) (y : MainProgress) → OpenProgresses s y l t → choice_of l ≡ no_choice
acts_none s l t (Does k new) h = ap choice_of h.0
acts_none s l t Pends h = absurd h
acts_none s l t (Answers v) h = ap choice_of h.0

open_none : (x : Setting) (s : State) (l : Label) (t : State) → OpenStep x s l t → choice_of l ≡ no_choice
open_none x s (Label.Main y) t h = refl
open_none x s (Label.Loop y) t h = refl
open_none x s l t h = acts_none s l t (main_rule x.component h.0 s.core h.1.0) h.1.1.1

mains_none : (x : Setting) (s : State) (l : Label) (t : State) (m : Main) → MainStep x s m l t → choice_of l ≡ no_choice
mains_none x s l t (Scripted p) h = script_none x s l t p (op_at x.script p) h
mains_none x s l t Unscripted h = open_none x s l t h

-- what is offered nothing
silent_chooses : (l : Label) → choice_of l ≡ no_choice → FitsOffer no_chosen nothing × (choice_of l ≡ shown no_chosen)
unfolding no_chosen
silent_chooses l e = (none_fits no_chosen refl refl, e)

-- ---- The steps of a turn

takes_choose : (m : Mark) (e : Entry) (s : Core) → Chooses (take_offer s e) (λ ch. take_rule m ch s e)
unfolding TakingsChoose
takes_choose = takings_choose

ops_choose : (x : Setting) (n : ℕ) (s : Core) → (HasOpen x.component → ⊥) → WaitsAtHome s → Chooses (op_offer n s (op_of x.component n s)) (λ ch. did x.component n s ch)
unfolding RulesChoose did
ops_choose x n s settled home = rules_choose x.component n s (op_of x.component n s) settled home

-- where no work is open, none is asked
none_asked : (x : Setting) (s : State) → NothingOpen x s → (i : ℕ) → is_asked (poll_of i s.core) ≡ false
unfolding NoneIsAsked
none_asked x s closed = (none_is_asked x.component s.core closed.hosts closed.works).1

module _ (x : Setting) (s : State) where
  took : (o : Option (Mark × Entry)) (l : Label) (t : State) → TakeStep x s o l t →
      (c : Chosen) × (FitsOffer c (of_found o (λ e. take_offer (popped e.0 s.core) e.1)) × ((choice_of l ≡ shown c) × TakenBy x c s o l t))
  took None l t h = let r = silent_chooses l (empty_none x s l t (has_moving_work s.core) h) in (no_chosen, (r.0, (r.1, h)))
  took (Some e) l t h =
      let base = popped e.0 s.core in
      let r = rule_chooses s base (entry_number e.1) (take_offer base e.1) (λ ch. take_rule e.0 ch base e.1) (takes_choose e.0 e.1 base) l t h in
      (r.0, (r.1.0, (told_shown _ (choice_of l) r.0 r.1.1.0 (takes_show e.0 no_choice e.1 base), r.1.1.1)))

  take_makes : (o : Option (Mark × Entry)) (c : Chosen) → FitsOffer c (of_found o (λ e. take_offer (popped e.0 s.core) e.1)) → (l : Label) (t : State) → TakenBy x c s o l t →
      TakeStep x s o l t × (choice_of l ≡ shown c)
  take_makes None c fit l t h = (h, empty_none x s l t (has_moving_work s.core) h ∙ (shows_none c fit).0)
  take_makes (Some e) c fit l t h =
      let base = popped e.0 s.core in
      let r = rule_makes s base (entry_number e.1) (take_offer base e.1) (λ ch. take_rule e.0 ch base e.1) (takes_choose e.0 e.1 base) l t c fit h in
      (r.0, told_shown _ (choice_of l) c r.1 (takes_show e.0 no_choice e.1 base))

  take_steps : (o : Option (Mark × Entry)) (k : Label) (u : State) → TakeStep x s o k u → (c : Chosen) → FitsOffer c (of_found o (λ e. take_offer (popped e.0 s.core) e.1)) →
      (l : Label) × ((t : State) × TakenBy x c s o l t)
  take_steps None k u h c fit = (k, (u, h))
  take_steps (Some e) k u h c fit =
      let base = popped e.0 s.core in
      rule_steps s base (entry_number e.1) (take_offer base e.1) (λ ch. take_rule e.0 ch base e.1) (takes_choose e.0 e.1 base) k u h c fit

  module _ (settled : HasOpen x.component → ⊥) (home : WaitsAtHome s.core) where
    turn_chooses : ((i : ℕ) → is_asked (poll_of i s.core) ≡ false) → (p : Turn) (l : Label) (t : State) → TurnStep x s p l t →
        (c : Chosen) × (FitsOffer c (turn_offer x s.core p) × ((choice_of l ≡ told (hides_in x s p) c) × TurnBy x c s p l t))
    turn_chooses known Turn.Main l t h = let r = silent_chooses l (mains_none x s l t s.main h) in (no_chosen, (r.0, (r.1, h)))
    turn_chooses known (Turn.Futures n) l t h = let r = silent_chooses l (futures_none x s l t (next_polled n s.core) h) in (no_chosen, (r.0, (r.1, by_future x s l t known (next_polled n s.core) h)))
    turn_chooses known (Turn.Take ended) l t h = took (next_entry s.core) l t h
    turn_chooses known (Turn.Run n) l t h =
        rule_chooses s s.core n (op_offer n s.core (op_of x.component n s.core)) (λ ch. did x.component n s.core ch) (ops_choose x n s.core settled home) l t h
    turn_chooses known Turn.Over l t h = absurd h

    turn_makes : (p : Turn) (c : Chosen) → FitsOffer c (turn_offer x s.core p) → (l : Label) (t : State) → TurnBy x c s p l t → TurnStep x s p l t × (choice_of l ≡ told (hides_in x s p) c)
    turn_makes Turn.Main c fit l t h = (h, mains_none x s l t s.main h ∙ (shows_none c fit).0)
    turn_makes (Turn.Futures n) c fit l t h = let step = future_by x s l t (next_polled n s.core) h in (step, futures_none x s l t (next_polled n s.core) step ∙ (shows_none c fit).0)
    turn_makes (Turn.Take ended) c fit l t h = take_makes (next_entry s.core) c fit l t h
    turn_makes (Turn.Run n) c fit l t h =
        rule_makes s s.core n (op_offer n s.core (op_of x.component n s.core)) (λ ch. did x.component n s.core ch) (ops_choose x n s.core settled home) l t c fit h
    turn_makes Turn.Over c fit l t h = absurd h

    turn_steps : ((i : ℕ) → is_asked (poll_of i s.core) ≡ false) → (p : Turn) (k : Label) (u : State) → TurnStep x s p k u → (c : Chosen) → FitsOffer c (turn_offer x s.core p) → (l : Label) × ((t : State) × TurnBy x c s p l t)
    turn_steps known Turn.Main k u h c fit = (k, (u, h))
    turn_steps known (Turn.Futures n) k u h c fit = (k, (u, by_future x s k u known (next_polled n s.core) h))
    turn_steps known (Turn.Take ended) k u h c fit = take_steps (next_entry s.core) k u h c fit
    turn_steps known (Turn.Run n) k u h c fit =
        rule_steps s s.core n (op_offer n s.core (op_of x.component n s.core)) (λ ch. did x.component n s.core ch) (ops_choose x n s.core settled home) k u h c fit
    turn_steps known Turn.Over k u h c fit = absurd h

pub step_chooses : StepChooses
unfolding StepChooses Step StepBy
step_chooses x s closed home l t h = let r = turn_chooses x s closed.hosts home (none_asked x s closed) s.turn l t h in (r.0, record { fits = r.1.0; shows = r.1.1.0; makes = r.1.1.1 })

pub choice_steps : ChoiceSteps
unfolding ChoiceSteps Step StepBy
choice_steps x s closed home k u h c fit = turn_steps x s closed.hosts home (none_asked x s closed) s.turn k u h c fit

pub made_is_step : MadeIsStep
unfolding MadeIsStep Step StepBy
made_is_step x s settled home c fit l t h =
    let r = turn_makes x s settled home s.turn c fit l t h in (r.0, record { fits = fit; shows = r.1; makes = h })

-- ---- One step of each choice

abbrev Pair : Label → State → Label → State → Type 0
Pair l t k u = (l ≡ k) × (t ≡ u)

both : {l k a : Label} {t u b : State} → Pair l t a b → Pair k u a b → Pair l t k u
both h i = (h.0 ∙ sym i.0, h.1 ∙ sym i.1)

module _ (x : Setting) (s : State) (l k : Label) (t u : State) where
  one_main : (p : MainPlace) (o : MainOpDef) (y : MainProgress) → MainProgresses s p o y l t → MainProgresses s p o y k u → Pair l t k u
  one_main p o (Does j new) h i = both h i
  one_main p o Pends h i = both h i
  one_main p o (Answers v) h i = both h i

  one_script : (p : MainPlace) (o : Option MainOpDef) → ScriptStep x s p o l t → ScriptStep x s p o k u → Pair l t k u
  one_script p None h i = both h i
  one_script p (Some o) h i = one_main p o (main_rule x.component (line_of p o) s.core (act_of p o)) h i

  one_mains : (m : Main) → IsScripted m → MainStep x s m l t → MainStep x s m k u → Pair l t k u
  one_mains (Scripted p) scripted h i = one_script p (op_at x.script p) h i
  one_mains Unscripted scripted h i = absurd scripted

  one_polled : (j : ℕ) (y : Poll) → PolledBy s j y l t → PolledBy s j y k u → Pair l t k u
  one_polled j (StillPends host) h i = both h i
  one_polled j (Ends v) h i = both h i
  one_polled j FailsNow h i = both h i
  one_polled j (Asked next) h i = absurd h

  one_future : (o : Option ℕ) → FutureBy s o l t → FutureBy s o k u → Pair l t k u
  one_future None h i = absurd h
  one_future (Some j) h i = one_polled j (poll_of j s.core) h i

  one_rest : (b : Bool) → RestStep s b l t → RestStep s b k u → Pair l t k u
  one_rest true h i = both h i
  one_rest false h i = absurd h

  one_deadlock : (b : Bool) → DeadlockStep s b l t → DeadlockStep s b k u → Pair l t k u
  one_deadlock true h i = both h i
  one_deadlock false h i = absurd h

  one_empty : (b : Bool) → EmptyFor x s b l t → EmptyFor x s b k u → Pair l t k u
  one_empty true h i = one_rest (is_unended_take s.turn) h i
  one_empty false h i = one_deadlock (may_deadlock x s) h i

  module _ (c : Chosen) where
    one_taken : (o : Option (Mark × Entry)) → TakenBy x c s o l t → TakenBy x c s o k u → Pair l t k u
    one_taken None h i = one_empty (has_moving_work s.core) h i
    one_taken (Some e) h i =
        let base = popped e.0 s.core in one_by s base (entry_number e.1) c (take_rule e.0 (shown c) base e.1) l k t u h i

    one_turn : IsScripted s.main → (p : Turn) → TurnBy x c s p l t → TurnBy x c s p k u → Pair l t k u
    one_turn scripted Turn.Main h i = one_mains s.main scripted h i
    one_turn scripted (Turn.Futures n) h i = one_future (next_polled n s.core) h i
    one_turn scripted (Turn.Take ended) h i = one_taken (next_entry s.core) h i
    one_turn scripted (Turn.Run n) h i = one_by s s.core n c (did x.component n s.core (shown c)) l k t u h i
    one_turn scripted Turn.Over h i = absurd h

pub step_determined : StepDetermined
unfolding StepDetermined StepBy
step_determined x s scripted c l k t u h i = one_turn x s l k t u c scripted s.turn h i

-- ---- Main stays a script

module _ (x : Setting) (s : State) (l : Label) (t : State) where
  led : (new : Core) (m : Main) (p : Turn) → IsScripted m → t ≡ at_turn s new m p → IsScripted t.main
  unfolding at_turn
  led new m p scripted e = subst (λ (u : State). IsScripted u.main) (sym e) scripted

  main_led : (p : MainPlace) (o : MainOpDef) (y : MainProgress) → IsScripted s.main → MainProgresses s p o y l t → IsScripted t.main
  main_led p o (Does k new) scripted h = led new (Scripted (advanced_main o k p)) Turn.Main tt h.1
  main_led p o Pends scripted h = led s.core s.main (Turn.Futures 0) scripted h.1
  main_led p o (Answers v) scripted h = led s.core s.main Turn.Over scripted h.1

  script_led : (p : MainPlace) (o : Option MainOpDef) → IsScripted s.main → ScriptStep x s p o l t → IsScripted t.main
  script_led p None scripted h = led s.core s.main (Turn.Futures 0) scripted h.1
  script_led p (Some o) scripted h = main_led p o (main_rule x.component (line_of p o) s.core (act_of p o)) scripted h

  mains_led : (m : Main) → IsScripted m → IsScripted s.main → MainStep x s m l t → IsScripted t.main
  mains_led (Scripted p) it scripted h = script_led p (op_at x.script p) scripted h
  mains_led Unscripted it scripted h = absurd it

  polled_led : (j : ℕ) (y : Poll) → IsScripted s.main → PolledBy s j y l t → IsScripted t.main
  polled_led j (StillPends host) scripted h = led (poll_pends j host s.core) s.main (Turn.Futures j) scripted h.1
  polled_led j (Ends v) scripted h = led (poll_ends j v s.core) s.main (Turn.Take true) scripted h.1
  polled_led j FailsNow scripted h = led (set_trapped s.core) s.main Turn.Over scripted h.1
  polled_led j (Asked next) scripted h = absurd h

  future_led : (o : Option ℕ) → IsScripted s.main → FutureBy s o l t → IsScripted t.main
  future_led None scripted h = absurd h
  future_led (Some j) scripted h = polled_led j (poll_of j s.core) scripted h

  rest_led : (b : Bool) → IsScripted s.main → RestStep s b l t → IsScripted t.main
  rest_led true scripted h = led s.core s.main Turn.Main scripted h.1
  rest_led false scripted h = absurd h

  deadlock_led : (b : Bool) → IsScripted s.main → DeadlockStep s b l t → IsScripted t.main
  deadlock_led true scripted h = led (set_trapped s.core) s.main Turn.Over scripted h.1
  deadlock_led false scripted h = absurd h

  empty_led : (b : Bool) → IsScripted s.main → EmptyFor x s b l t → IsScripted t.main
  empty_led true scripted h = rest_led (is_unended_take s.turn) scripted h
  empty_led false scripted h = deadlock_led (may_deadlock x s) scripted h

  module _ (c : Chosen) where
    by_led : (base : Core) (n : ℕ) (p : Progress) → IsScripted s.main → ProgressesBy c s base n p l t → IsScripted t.main
    by_led base n p scripted h = subst IsScripted (sym (main_by s base n c p l t h)) scripted

    taken_led : (o : Option (Mark × Entry)) → IsScripted s.main → TakenBy x c s o l t → IsScripted t.main
    taken_led None scripted h = empty_led (has_moving_work s.core) scripted h
    taken_led (Some e) scripted h =
        let base = popped e.0 s.core in by_led base (entry_number e.1) (take_rule e.0 (shown c) base e.1) scripted h

    turn_led : (p : Turn) → IsScripted s.main → TurnBy x c s p l t → IsScripted t.main
    turn_led Turn.Main scripted h = mains_led s.main scripted scripted h
    turn_led (Turn.Futures n) scripted h = future_led (next_polled n s.core) scripted h
    turn_led (Turn.Take ended) scripted h = taken_led (next_entry s.core) scripted h
    turn_led (Turn.Run n) scripted h = by_led s.core n (did x.component n s.core (shown c)) scripted h
    turn_led Turn.Over scripted h = absurd h

pub stays_scripted : (x : Setting) (s : State) (c : Chosen) (l : Label) (t : State) → IsScripted s.main → StepBy x c s l t → IsScripted t.main
unfolding StepBy
stays_scripted x s c l t scripted h = turn_led x s l t c s.turn scripted h
