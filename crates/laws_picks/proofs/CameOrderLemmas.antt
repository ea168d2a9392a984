-- What the records of a core say of the order of arrival is what the run has shown.
use Rattle.laws_picks.proofs.Newcomers.{CountedOn, KeptBy, came_along, counted_along, kept_along, wait_along}
use Rattle.laws_picks.proofs.NumberLists.{in_append, in_filter, in_numbers, numbers_once, or_false, or_true, precedes_append, precedes_filter, precedes_in, precedes_past}
use Rattle.laws_picks.proofs.Rises.{HasCome, LastThere, op_rises, rises_led, thread_rises}
use Rattle.laws_picks.specs.CameOrder.{AllSayOrder}
use Rattle.laws_places.proofs.OrderLemmas.{opening_in_order, step_in_order}
use Rattle.laws_places.proofs.WaitsKept.{wait_op}
use Rattle.laws_states.proofs.SceneLemmas.{popped_threads}
use Rattle.laws_states.specs.Order.{InOrder}
use Rattle.machine_data.specs.Core.{Core, State}
use Rattle.machine_data.specs.Labels.{Choice, choice_of}
use Rattle.machine_data.specs.Maps.{Records, get, get-empty, numbers}
use Rattle.machine_data.specs.Read.{came_of, is_second, next_entry, op_progress_of, place_of}
use Rattle.machine_data.specs.declared.label.Label.{Label}
use Rattle.machine_data.specs.declared.records.Entry.{Entry}
use Rattle.machine_data.specs.declared.records.OpProgress.{OpProgress}
use Rattle.machine_data.specs.declared.records.Place.{Place}
use Rattle.machine_data.specs.declared.records.Thread.{Thread}
use Rattle.machine_data.specs.declared.records.Turn.{Turn}
use Rattle.machine_data.specs.declared.scenario.Version.{Version}
use Rattle.machine_data.specs.declared.statuses.Mark.{Mark}
use Rattle.machine_rules.proofs.WalkSteps.{step_walks}
use Rattle.machine_rules.specs.Allowed.{IsRunner}
use Rattle.machine_rules.specs.Arrivals.{came_after, earlier_of, is_kept_back, precedes, stays_back}
use Rattle.machine_rules.specs.Chains.{Walked}
use Rattle.machine_rules.specs.History.{history}
use Rattle.machine_rules.specs.Notices.{is_in}
use Rattle.machine_rules.specs.OpParts.{ends_activation, is_wait}
use Rattle.machine_rules.specs.Picks.{Seats, earlier_by}
use Rattle.machine_rules.specs.Places.{is_inside}
use Rattle.machine_rules.specs.Run.{Run, opening}
use Rattle.machine_rules.specs.Scenes.{Scene, base_at, base_without, runner_at, scene_of, thread_of_entry}
use Rattle.machine_rules.specs.Scripts.{op_of, ops_of}
use Rattle.machine_rules.specs.Stalled.{Setting}
use Rattle.machine_rules.specs.Step.{Progresses, TakeStep, TurnStep, scripted_op_rule}
use Rattle.machine_rules.specs.Takes.{thread_taken}
use Rattle.machine_rules.specs.Turns.{settled_turn}
use Rattle.std.proofs.Common.{ap, ap₂, arith, inl, inr, le_refl, le_trans, refl, subst, sym, ⊎_elim, ◌∙◌}
use Rattle.std.proofs.lemmas.Bool.Decides.{nat_tests}
use Rattle.std.proofs.lemmas.Bool.{eqb-true}
use Rattle.std.specs.Option.{option_map_or}
use Rattle.std.specs.Ordering.{is_lt, nat_cmp}
use Rattle.std.specs.Prelude.{[], Bool, List, None, Option, Some, false, filter, if◌then◌else◌, is_some, nat_lt, not, option_map, true, unwrap_or, ℕ, ◌&&◌, ◌++◌, ◌+◌, ◌<◌, ◌==◌, ◌||◌, ◌∷◌, ◌≡◌, ◌≤◌, ◌⊎◌}
use Rattle.std.specs.declared.cmp.Ordering.TheVariants as ordering
unfoldable use Rattle.laws_picks.specs.CameOrder.{RunsSayOrder}
unfoldable use Rattle.laws_states.specs.Order.{OpeningInOrder}
unfoldable use Rattle.machine_data.specs.Core.{fresh}
unfoldable use Rattle.machine_data.specs.Write.{set_high, set_low, set_switch}
unfoldable use Rattle.machine_rules.specs.Step.{Step, did}
unfoldable use Rattle.machine_rules.specs.Takes.{popped}

-- ---- The list of those who came

-- It has exactly those who wait or are held, and who precedes another there came before it.
pub record IsOrder (came : List ℕ) (s : Core) : Type 0 where
  pub listed : (n : ℕ) → is_in came n ≡ stays_back s n
  pub ordered : (m n : ℕ) → stays_back s m ≡ true → stays_back s n ≡ true → precedes came m n ≡ is_lt (nat_cmp (came_of m s) (came_of n s))
  pub counted : (n : ℕ) → stays_back s n ≡ true → came_of n s + 1 ≤ s.arrivals

-- What a step does to those who wait or are held. One comes to it at most, after all others.
pub record Advances (s t : Core) : Type 0 where
  pub stays : (n : ℕ) → stays_back s n ≡ true → stays_back t n ≡ true → came_of n t ≡ came_of n s
  pub comes : (n : ℕ) → stays_back t n ≡ true → stays_back s n ≡ false → (s.arrivals ≤ came_of n t) × (came_of n t + 1 ≤ t.arrivals)
  pub one : (m n : ℕ) → stays_back t m ≡ true → stays_back s m ≡ false → stays_back t n ≡ true → stays_back s n ≡ false → m ≡ n
  pub more : s.arrivals ≤ t.arrivals

lt_is : (a b : ℕ) → is_lt (nat_cmp a b) ≡ nat_lt a b
lt_is a b = by (nat_lt a b) (a == b)
  where
    by : (c e : Bool) → is_lt (if c then ordering.Less else (if e then ordering.Equal else ordering.Greater)) ≡ c
    by true e = refl
    by false true = refl
    by false false = refl

lt_less : (a b : ℕ) → a + 1 ≤ b → is_lt (nat_cmp a b) ≡ true
lt_less a b h = lt_is a b ∙ grind (arith, nat_tests, h)

lt_not : (a b : ℕ) → b ≤ a → is_lt (nat_cmp a b) ≡ false
lt_not a b h = lt_is a b ∙ grind (arith, nat_tests, h)

cases : (b : Bool) → (b ≡ true) ⊎ (b ≡ false)
cases true = inl refl
cases false = inr refl

there_is : (n : ℕ) (t : Core) → stays_back t n ≡ true → is_some (get t.threads n) ≡ true
there_is n t on = grind (arith, on)

module _ (came : List ℕ) (s t : Core) (h : IsOrder came s) (k : Advances s t) where
  abbrev is_new : ℕ → Bool
  is_new n = stays_back t n && not (stays_back s n)

  abbrev old : List ℕ
  old = filter (stays_back t) came

  abbrev new : List ℕ
  new = filter is_new (numbers t.threads)

  old_in : (n : ℕ) → is_in old n ≡ (stays_back s n && stays_back t n)
  old_in n = in_filter (stays_back t) came n ∙ ap (λ b. b && stays_back t n) (h.listed n)

  new_in : (n : ℕ) → is_in new n ≡ is_new n
  new_in n = in_filter is_new (numbers t.threads) n ∙ (ap (λ b. b && is_new n) (in_numbers t.threads n) ∙ there (is_new n) refl)
    where
      on : (a b : Bool) → (a && b) ≡ true → a ≡ true
      on true b e = refl
      on false b e = absurd (cc)

      there : (b : Bool) → is_new n ≡ b → (is_some (get t.threads n) && b) ≡ b
      there true e = ap (λ c. c && true) (there_is n t (on (stays_back t n) (not (stays_back s n)) e))
      there false e = by (is_some (get t.threads n))
        where
          by : (c : Bool) → (c && false) ≡ false
          by true = refl
          by false = refl

  after : List ℕ
  after = came_after s t came

  listed_after : (n : ℕ) → is_in (old ++ new) n ≡ stays_back t n
  listed_after n = in_append old new n ∙ (ap₂ (λ b c. b || c) (old_in n) (new_in n) ∙ by (stays_back s n) (stays_back t n))
    where
      by : (b c : Bool) → ((b && c) || (c && not b)) ≡ c
      by true true = refl
      by true false = refl
      by false true = refl
      by false false = refl

  -- who was there and is
  kept_in : (n : ℕ) → stays_back s n ≡ true → stays_back t n ≡ true → is_in old n ≡ true
  kept_in n was is = old_in n ∙ ap₂ (λ b c. b && c) was is

  kept_out : (n : ℕ) → stays_back s n ≡ true → is_in new n ≡ false
  kept_out n was = new_in n ∙ (ap (λ b. stays_back t n && not b) was ∙ by (stays_back t n))
    where
      by : (c : Bool) → (c && false) ≡ false
      by true = refl
      by false = refl

  came_in : (n : ℕ) → stays_back t n ≡ true → stays_back s n ≡ false → is_in new n ≡ true
  came_in n is was = new_in n ∙ ap₂ (λ b c. b && not c) is was

  came_out : (n : ℕ) → stays_back s n ≡ false → is_in old n ≡ false
  came_out n was = old_in n ∙ ap (λ b. b && stays_back t n) was

  none_out : (xs : List ℕ) (m n : ℕ) → is_in xs n ≡ false → precedes xs m n ≡ false
  none_out xs m n out = by (precedes xs m n) refl
    where
      by : (b : Bool) → precedes xs m n ≡ b → b ≡ false
      by true e = absurd (let bad : true ≡ false = sym (precedes_in xs m n e) ∙ out in cc)
      by false e = refl

  ordered_after : (m n : ℕ) → stays_back t m ≡ true → stays_back t n ≡ true → precedes (old ++ new) m n ≡ is_lt (nat_cmp (came_of m t) (came_of n t))
  ordered_after m n on_m on_n = by (stays_back s m) refl (stays_back s n) refl
    where
      by : (b : Bool) → stays_back s m ≡ b → (c : Bool) → stays_back s n ≡ c → precedes (old ++ new) m n ≡ is_lt (nat_cmp (came_of m t) (came_of n t))
      by true was_m true was_n =
          precedes_append old new m n (kept_in m was_m on_m) ∙ (ap (λ b. precedes old m n || b) (kept_out n was_n) ∙ (or_false (precedes old m n)
          ∙ (precedes_filter (stays_back t) came m n on_m on_n ∙ (h.ordered m n was_m was_n
          ∙ sym (ap₂ (λ (i j : ℕ). is_lt (nat_cmp i j)) (k.stays m was_m on_m) (k.stays n was_n on_n))))))
      by true was_m false was_n =
          let before = h.counted m was_m in
          let last = k.comes n on_n was_n in
          let same = k.stays m was_m on_m in
          precedes_append old new m n (kept_in m was_m on_m) ∙ (ap (λ b. precedes old m n || b) (came_in n on_n was_n) ∙ (or_true (precedes old m n)
          ∙ sym (lt_less (came_of m t) (came_of n t) (omega (arith, before, last.0, same)))))
      by false was_m true was_n =
          let before = h.counted n was_n in
          let last = k.comes m on_m was_m in
          let same = k.stays n was_n on_n in
          precedes_past old new m n (came_out m was_m) ∙ (none_out new m n (kept_out n was_n)
          ∙ sym (lt_not (came_of m t) (came_of n t) (omega (arith, before, last.0, same))))
      by false was_m false was_n =
          let same = k.one m n on_m was_m on_n was_n in
          let e : came_of n t ≤ came_of m t = subst (λ (i : ℕ). came_of i t ≤ came_of m t) same (le_refl (came_of m t)) in
          precedes_past old new m n (came_out m was_m) ∙ (precedes_filter is_new (numbers t.threads) m n (ap₂ (λ b c. b && not c) on_m was_m) (ap₂ (λ b c. b && not c) on_n was_n)
          ∙ (subst (λ (i : ℕ). precedes (numbers t.threads) m i ≡ false) same (numbers_once t.threads m) ∙ sym (lt_not (came_of m t) (came_of n t) e)))

  counted_after : (n : ℕ) → stays_back t n ≡ true → came_of n t + 1 ≤ t.arrivals
  counted_after n on = ⊎_elim (λ was. let low = h.counted n was in let same = k.stays n was on in omega (arith, low, same, k.more)) (λ was. (k.comes n on was).1) (cases (stays_back s n))

  is_order_after : IsOrder (came_after s t came) t
  is_order_after = record { listed = listed_after; ordered = ordered_after; counted = counted_after }

-- ---- A step

place_back : (o : Option Place) → option_map_or is_kept_back o false ≡ true → (q : Place) × ((o ≡ Some q) × (is_kept_back q ≡ true))
place_back None on = absurd (cc)
place_back (Some q) on = (q, (refl, on))

back_at : (n : ℕ) (s : Core) (q : Place) → place_of n s ≡ Some q → is_kept_back q ≡ true → stays_back s n ≡ true
back_at n s q at on = ap (λ (o : Option Place). option_map_or is_kept_back o false) at ∙ on

wait_inside : (x : ℕ) (h : OpProgress) → is_inside (Place.Waiting x false) h ≡ true → h ≡ OpProgress.Waits x
wait_inside x (OpProgress.Waits y) e = ap (λ (i : ℕ). OpProgress.Waits i) (sym (eqb-true x y e))
wait_inside x h e = absurd (cc)

popped_same : (e : Option (Mark × Entry)) (s : Core) → (base_without e s).threads ≡ s.threads
popped_same None s = refl
popped_same (Some e) s = popped_threads e.0 s

base_same : (p : Turn) (s : Core) → (base_at p s).threads ≡ s.threads
base_same Turn.Main s = refl
base_same (Turn.Futures n) s = refl
base_same (Turn.Take ended) s = popped_same (next_entry s) s
base_same (Turn.Run n) s = refl
base_same Turn.Over s = refl

-- the entry that is taken is that of a thread that is ready
ready_off : (s : State) (base : Core) (m : Mark) (n : ℕ) (ch : Choice) (l : Label) (t : State) (o : Option Place) → Progresses s base n (thread_taken m n ch base o) l t →
    option_map_or is_kept_back o false ≡ false
ready_off s base m n ch l t (Some (Place.Ready y w)) row = refl
ready_off s base m n ch l t o row = absurd row

popped_arrivals : (m : Mark) (s : Core) → (popped m s).arrivals ≡ s.arrivals
unfolding popped set_switch set_high set_low
popped_arrivals Mark.Switch s = refl
popped_arrivals Mark.High s = refl
popped_arrivals Mark.Low s = refl

stays_same : (s t : Core) (n : ℕ) → s.threads ≡ t.threads → stays_back s n ≡ stays_back t n
stays_same s t n e = ap (λ (m : Records Thread). option_map_or is_kept_back (option_map (λ (r : Thread). r.place) (get m n)) false) e

came_runner : (base b : Core) (n : ℕ) (t : Core) → base.arrivals ≡ b.arrivals → HasCome base n t → HasCome b n t
came_runner base b n t e h = (omega (arith, e, h.0), h.1)

main_of : (t : State) (next : Turn) → t.turn ≡ settled_turn t.core next → next ≡ Turn.Main → t.turn ≡ Turn.Main
main_of t next e to = e ∙ ap (λ (p : Turn). settled_turn t.core p) to

module _ (x : Setting) (s : State) (l : Label) (t : State) (h : InOrder x.component s) (step : Step x s l t) (later : InOrder x.component t)
    (second : is_second s.core.version ≡ true) (low : t.core.arrivals < 18446744073709551615) (w : Walked x s l t) where
  abbrev a : Scene
  a = scene_of x s l w.next

  turn_step : (p : Turn) → s.turn ≡ p → TurnStep x s p l t
  unfolding Step
  turn_step p e = subst (λ (q : Turn). TurnStep x s q l t) e step

  counts : CountedOn s.core t.core
  counts = counted_along a s.core w.walk

  last_there : (n : ℕ) → stays_back t.core n ≡ true → LastThere n t.core
  last_there n on = record { second = ap (λ (v : Version). is_second v) counts.0 ∙ second; counts = low; there = on }

  taken_off : (n : ℕ) (e : Option (Mark × Entry)) → TakeStep x s e l t → thread_of_entry e ≡ Some n → stays_back s.core n ≡ false
  taken_off n None row who = absurd (cc)
  taken_off n (Some (m, Entry.Thread j)) row who =
      let same : j ≡ n = cc in
      let base = popped m s.core in
      subst (λ (i : ℕ). stays_back s.core i ≡ false) same (sym (stays_same base s.core j (popped_threads m s.core)) ∙ ready_off s base m j (choice_of l) l t (place_of j base) row)
  taken_off n (Some (m, Entry.Push i)) row who = absurd (cc)
  taken_off n (Some (m, Entry.Host i)) row who = absurd (cc)

  -- who runs or is taken neither waits nor is held before the step
  runner_off : (n : ℕ) → IsRunner a n → stays_back s.core n ≡ false
  runner_off n is = by s.turn refl is
    where
      by : (p : Turn) → s.turn ≡ p → runner_at p s.core ≡ Some n → stays_back s.core n ≡ false
      by Turn.Main e who = absurd (cc)
      by (Turn.Futures i) e who = absurd (cc)
      by (Turn.Take ended) e who = taken_off n (next_entry s.core) (turn_step (Turn.Take ended) e) who
      by (Turn.Run j) e who = let same : j ≡ n = cc in ap (λ (o : Option Place). option_map_or is_kept_back o false) (h.in_place.runs n (e ∙ ap (λ (i : ℕ). Turn.Run i) same))
      by Turn.Over e who = absurd (cc)

  -- why one waits or is held that didn't
  reason : (n : ℕ) → stays_back t.core n ≡ true → stays_back s.core n ≡ false →
      (q : Place) × ((place_of n t.core ≡ Some q) × KeptBy a n q)
  reason n on off =
      let at = place_back (place_of n t.core) on in
      (at.0, (at.1.0, ⊎_elim (λ was. absurd (let bad : true ≡ false = sym (back_at n s.core at.0 was at.1.1) ∙ off in cc)) (λ by. by) (kept_along a s.core w.walk n at.0 at.1.0 at.1.1)))

  taken_comes : (n : ℕ) → t.turn ≡ Turn.Main → stays_back t.core n ≡ true → (e : Option (Mark × Entry)) → TakeStep x s e l t → thread_of_entry e ≡ Some n → HasCome s.core n t.core
  taken_comes n main on None row who = absurd (cc)
  taken_comes n main on (Some (m, Entry.Thread j)) row who =
      let same : j ≡ n = cc in
      let base = popped m s.core in
      let there = last_there j (subst (λ (i : ℕ). stays_back t.core i ≡ true) (sym same) on) in
      subst (λ (i : ℕ). HasCome s.core i t.core) same (came_runner base s.core j t.core (popped_arrivals m s.core)
      (rises_led s base j (thread_taken m j (choice_of l) base (place_of j base)) l t (thread_rises m j (choice_of l) base (place_of j base)) row main there))
  taken_comes n main on (Some (m, Entry.Push i)) row who = absurd (cc)
  taken_comes n main on (Some (m, Entry.Host i)) row who = absurd (cc)

  -- the op of a thread that ran, and now waits
  op_is : (n : ℕ) (q : Place) → s.turn ≡ Turn.Run n → place_of n t.core ≡ Some q → KeptBy a n q →
      (is_wait (op_of x.component n s.core) ≡ true) ⊎ (ends_activation (op_of x.component n s.core) ≡ true)
  op_is n q e at (laid, inl was) = absurd (let ready = was.1.1 in let runs = h.in_place.runs n e in
      let same : (base_at s.turn s.core).threads ≡ s.core.threads = base_same s.turn s.core in
      let bad : Some (Place.Ready was.1.0 was.0) ≡ Some Place.Running = sym ready ∙ (ap (λ (m : Records Thread). option_map (λ (r : Thread). r.place) (get m n)) same ∙ runs) in cc)
  op_is n q e at (laid, inr (inl ends)) = inr ends.1
  op_is n q e at (laid, inr (inr on)) =
      let inside = wait_inside on.0 (op_progress_of n t.core) (later.inside n (Place.Waiting on.0 false) (at ∙ ap (λ (p : Place). Some p) on.1)) in
      inl (⊎_elim (λ was. wait_op (ops_of x.component s.core) x.component s.core h.fits n on.0 was) (λ is. is) (wait_along a s.core w.walk n on.0 inside))

  runs_come : (n : ℕ) (q : Place) → t.turn ≡ Turn.Main → stays_back t.core n ≡ true → s.turn ≡ Turn.Run n → place_of n t.core ≡ Some q → KeptBy a n q → HasCome s.core n t.core
  unfolding did
  runs_come n q main on e at why =
      let o = op_of x.component n s.core in
      rises_led s s.core n (scripted_op_rule x.component n s.core (choice_of l) o) l t (op_rises x.component n s.core (choice_of l) o (op_is n q e at why)) (turn_step (Turn.Run n) e) main (last_there n on)

  comes_last : (n : ℕ) → stays_back t.core n ≡ true → stays_back s.core n ≡ false → HasCome s.core n t.core
  comes_last n on off = by s.turn refl why.1.1.0.0
    where
      why : (q : Place) × ((place_of n t.core ≡ Some q) × KeptBy a n q)
      why = reason n on off

      main : t.turn ≡ Turn.Main
      main = main_of t w.next w.turn why.1.1.0.1

      by : (p : Turn) → s.turn ≡ p → runner_at p s.core ≡ Some n → HasCome s.core n t.core
      by Turn.Main e who = absurd (cc)
      by (Turn.Futures i) e who = absurd (cc)
      by (Turn.Take ended) e who = taken_comes n main on (next_entry s.core) (turn_step (Turn.Take ended) e) who
      by (Turn.Run j) e who = let same : j ≡ n = cc in runs_come n why.0 main on (e ∙ ap (λ (i : ℕ). Turn.Run i) same) why.1.0 why.1.1
      by Turn.Over e who = absurd (cc)

  made_before : (n : ℕ) → stays_back s.core n ≡ true → n ≤ s.core.made.threads
  made_before n on = by (get s.core.threads n) refl on
    where
      by : (o : Option Thread) → get s.core.threads n ≡ o → option_map_or is_kept_back (option_map (λ (r : Thread). r.place) o) false ≡ true → n ≤ s.core.made.threads
      by None at on = absurd (cc)
      by (Some r) at on = (h.numbered.threads n r at).number

  stays_came : (n : ℕ) → stays_back s.core n ≡ true → stays_back t.core n ≡ true → came_of n t.core ≡ came_of n s.core
  stays_came n was on =
      ⊎_elim (λ none. absurd (let bad : true ≡ false = sym on ∙ ap (λ (o : Option Thread). option_map_or is_kept_back (option_map (λ (r : Thread). r.place) o) false) none in cc)) (λ same. same)
      ((came_along a s.core w.walk).1 n (λ is. let bad : true ≡ false = sym was ∙ runner_off n is in absurd (cc)) (made_before n was))

  pub advances : Advances s.core t.core
  advances = record {
    stays = stays_came;
    comes = comes_last;
    one = λ m n on_m off_m on_n off_n. ap (λ (o : Option ℕ). unwrap_or o 0) (sym (reason m on_m off_m).1.1.0.0 ∙ (reason n on_n off_n).1.1.0.0);
    more = counts.1;
  }

-- ---- Runs

run_counts : (x : Setting) (s : State) (ls : List Label) (t : State) → Run x s ls t → s.core.arrivals ≤ t.core.arrivals
run_counts x s [] t run = subst (λ (u : State). s.core.arrivals ≤ u.core.arrivals) (sym run) (le_refl _)
run_counts x s (l ∷ ls) t run =
    let w = step_walks x s l run.0 run.1.0 in le_trans (counted_along (scene_of x s l w.next) s.core w.walk).1 (run_counts x run.0 ls t run.1.1)

step_version : (x : Setting) (s : State) (l : Label) (t : State) → Step x s l t → t.core.version ≡ s.core.version
step_version x s l t step = let w = step_walks x s l t step in (counted_along (scene_of x s l w.next) s.core w.walk).0

says_first : (v : Version) (came : ℕ → ℕ) (list : List ℕ) (p : Seats) (m n : ℕ) → is_second v ≡ false → earlier_by v came p m n ≡ earlier_of v list p m n
says_first Version.One came list p m n first = refl
says_first Version.Two came list p m n first = absurd (cc)

says_second : (v : Version) (list : List ℕ) (s : Core) (p : Seats) (m n : ℕ) → is_second v ≡ true → IsOrder list s → stays_back s m ≡ true → stays_back s n ≡ true →
    earlier_by v (λ k. came_of k s) p m n ≡ earlier_of v list p m n
says_second Version.One list s p m n second h on_m on_n = absurd (cc)
says_second Version.Two list s p m n second h on_m on_n =
    sym (ap (λ b. if b then precedes list m n else is_in list n) (h.listed m ∙ on_m) ∙ h.ordered m n on_m on_n)

first_say : (x : Setting) (s : State) (ls : List Label) (t : State) (run : Run x s ls t) (came : List ℕ) → is_second s.core.version ≡ false →
    AllSayOrder came (history x s ls t run)
first_say x s [] t run came first = tt
first_say x s (l ∷ ls) t run came first = (
  λ p m n on_m on_n. says_first s.core.version (λ k. came_of k s.core) came p m n first,
  first_say x run.0 ls t run.1.1 (came_after s.core run.0.core came) (ap (λ (v : Version). is_second v) (step_version x s l run.0 run.1.0) ∙ first),
)

second_say : (x : Setting) (s : State) → InOrder x.component s → (ls : List Label) (t : State) (run : Run x s ls t) (came : List ℕ) → is_second s.core.version ≡ true →
    t.core.arrivals < 18446744073709551615 → IsOrder came s.core → AllSayOrder came (history x s ls t run)
second_say x s h [] t run came second low order = tt
second_say x s h (l ∷ ls) t run came second low order =
    let later = step_in_order x s l run.0 h run.1.0 in
    let more = run_counts x run.0 ls t run.1.1 in
    let less : run.0.core.arrivals < 18446744073709551615 = omega (arith, more, low) in
    let next = advances x s l run.0 h run.1.0 later second less (step_walks x s l run.0 run.1.0) in (
      λ p m n on_m on_n. says_second s.core.version came s.core p m n second order on_m on_n,
      second_say x run.0 later ls t run.1.1 (came_after s.core run.0.core came) (ap (λ (v : Version). is_second v) (step_version x s l run.0 run.1.0) ∙ second) low
          (is_order_after came s.core run.0.core order next),
    )

none_back : (v : Version) (instances handle_limit capacity n : ℕ) → stays_back (fresh v instances handle_limit capacity) n ≡ false
unfolding fresh
none_back v instances handle_limit capacity n =
    ap (λ (o : Option Thread). option_map_or is_kept_back (option_map (λ (r : Thread). r.place) o) false) (get-empty {X = Thread} n)

opening_order : (v : Version) (instances handle_limit capacity : ℕ) → IsOrder [] (fresh v instances handle_limit capacity)
opening_order v instances handle_limit capacity = record {
  listed = λ n. sym (none_back v instances handle_limit capacity n);
  ordered = λ m n on other. absurd (let bad : true ≡ false = sym on ∙ none_back v instances handle_limit capacity m in cc);
  counted = λ n on. absurd (let bad : true ≡ false = sym on ∙ none_back v instances handle_limit capacity n in cc);
}

fresh_version : (v : Version) (instances handle_limit capacity : ℕ) → (fresh v instances handle_limit capacity).version ≡ v
unfolding fresh
fresh_version v instances handle_limit capacity = refl

pub runs_say_order : RunsSayOrder
unfolding RunsSayOrder OpeningInOrder
runs_say_order x codes v instances handle_limit capacity main ls t run low = by (is_second v) refl
  where
    by : (b : Bool) → is_second v ≡ b → AllSayOrder [] (history x (opening v instances handle_limit capacity main) ls t run)
    by true second = second_say x (opening v instances handle_limit capacity main) (opening_in_order x.component codes v instances handle_limit capacity main) ls t run []
        (ap (λ (r : Version). is_second r) (fresh_version v instances handle_limit capacity) ∙ second) low (opening_order v instances handle_limit capacity)
    by false first = first_say x (opening v instances handle_limit capacity main) ls t run [] (ap (λ (r : Version). is_second r) (fresh_version v instances handle_limit capacity) ∙ first)
