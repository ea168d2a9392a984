-- Which of the held threads of an instance are admitted: where it is open, all that aren't barred, and the barred ones where no
-- backpressure is; where it is shut, none of the barred ones.
use Rattle.core_records.proofs.Core.{[], admits, ap, Bool, Core, eq-eqb, eqb-true, false, get, has, held_why, instance_of, is_nil, List, list_any, None, not, Option, option_and_then, option_map, option_map_or, refl, Some, sym, Thread, true, Why, ℕ, ◌&&◌, ◌++◌, ◌==◌, ◌||◌, ◌∙◌, ◌∷◌, ◌≡◌}
use Rattle.std.proofs.Math.Bool.{or-false}
use Rattle.std.proofs.lemmas.Bool.{and_parts, or_right}
use Rattle.std.proofs.lemmas.List.Folds.{list_any-append}
use Rattle.machine_data.specs.Read.{backpressure_of, is_held_admitted, is_sync, kind_of, may_not_enter, task_of}
use Rattle.core_removals.specs.Held.{in_list, is_admitted, listed_at, listed_in}
use Rattle.core_primitives.specs.Barred.{bars_start}

-- all of a list that pass alike
all_as : (test : ℕ → Bool) (v : Bool) (ns : List ℕ) → ((n : ℕ) → has n ns ≡ true → test n ≡ v) → list_any test ns ≡ (v && not (is_nil ns))
all_as test true [] each = refl
all_as test false [] each = refl
all_as test true (n ∷ ns) each = ap (λ b. b || list_any test ns) (each n (ap (λ b. b || has n ns) (eq-eqb n n refl)))
all_as test false (n ∷ ns) each =
    ap (λ b. b || list_any test ns) (each n (ap (λ b. b || has n ns) (eq-eqb n n refl)))
    ∙ all_as test false ns (λ k h. each k (or_right (k == n) (has k ns) h))

-- a start that isn't barred is admitted, and a barred one as the rest says
start_free : (a b c : Bool) → not (not (a || b) && true) ≡ true → (a || (b || c)) ≡ true
start_free true b c h = refl
start_free false true c h = refl
start_free false false c h = absurd (cc)

start_barred : (a b c : Bool) → (not (a || b) && true) ≡ true → (a || (b || c)) ≡ c
start_barred true b c h = absurd (cc)
start_barred false true c h = absurd (cc)
start_barred false false c h = refl

module _ (i : ℕ) (s : Core) (n : ℕ) where
  -- what a start of the thread is admitted by, as its record says
  start_as : (t : Thread) → get s.threads n ≡ Some t → admits n s Why.Start ≡ (t.explicit || (is_sync (kind_of t.call s) || (not (may_not_enter (instance_of n s) s) && (backpressure_of (instance_of n s) s == 0))))
  start_as t e =
      ap (λ b. b || (is_sync (kind_of (task_of n s) s) || (not (may_not_enter (instance_of n s) s) && (backpressure_of (instance_of n s) s == 0)))) (ap (λ (o : Option Thread). option_map_or (λ (t : Thread). t.explicit) o false) e)
      ∙ ap (λ k. t.explicit || (is_sync (kind_of k s) || (not (may_not_enter (instance_of n s) s) && (backpressure_of (instance_of n s) s == 0)))) (ap (λ (o : Option Thread). option_map_or (λ (t : Thread). t.call) o 0) e)

  -- in an instance that is open all that aren't barred are admitted
  pub other_admitted : may_not_enter i s ≡ false → listed_in false i s n ≡ true → is_admitted i s n ≡ true
  other_admitted entered_is h = by (get s.threads n) refl h
    where
      by : (o : Option Thread) → get s.threads n ≡ o → ((instance_of n s == i) && listed_at false s o) ≡ true → is_admitted i s n ≡ true
      by None e h = absurd (never (instance_of n s == i) h)
        where
          never : (b : Bool) → (b && false) ≡ true → ⊥
          never true h = cc
          never false h = cc
      by (Some t) e h =
          let two = and_parts _ _ h in
          let entered : may_not_enter (instance_of n s) s ≡ false = ap (λ k. may_not_enter k s) (eqb-true (instance_of n s) i two.0) ∙ entered_is in
          ap (λ (o : Option Thread). is_held_admitted i s n (option_and_then held_why (option_map (λ (t : Thread). t.place) o))) e ∙ entry (held_why t.place) two.0 entered two.1
        where
          entry : (w : Option Why) → (instance_of n s == i) ≡ true → may_not_enter (instance_of n s) s ≡ false → in_list false (bars_start t.explicit (kind_of t.call s)) w ≡ true → is_held_admitted i s n w ≡ true
          entry None here entered h = absurd (cc)
          entry (Some Why.Start) here entered h = ap (λ b. b && admits n s Why.Start) here ∙ (start_as t e ∙ start_free t.explicit (is_sync (kind_of t.call s)) _ h)
          entry (Some (Why.Delivery d)) here entered h = ap (λ b. b && not (may_not_enter (instance_of n s) s)) here ∙ ap (λ b. not b) entered
          entry (Some Why.Resumption) here entered h = ap (λ b. b && true) here

  -- a barred one is admitted just where the instance is open and no backpressure is
  pub barred_admitted : listed_in true i s n ≡ true → is_admitted i s n ≡ (not (may_not_enter i s) && (backpressure_of i s == 0))
  barred_admitted h = by (get s.threads n) refl h
    where
      by : (o : Option Thread) → get s.threads n ≡ o → ((instance_of n s == i) && listed_at true s o) ≡ true → is_admitted i s n ≡ (not (may_not_enter i s) && (backpressure_of i s == 0))
      by None e h = absurd (never (instance_of n s == i) h)
        where
          never : (b : Bool) → (b && false) ≡ true → ⊥
          never true h = cc
          never false h = cc
      by (Some t) e h =
          let two = and_parts _ _ h in
          ap (λ (o : Option Thread). is_held_admitted i s n (option_and_then held_why (option_map (λ (t : Thread). t.place) o))) e ∙ entry (held_why t.place) two.0 two.1
        where
          unbarred : (b : Bool) → (b && false) ≡ true → ⊥
          unbarred true h = cc
          unbarred false h = cc

          entry : (w : Option Why) → (instance_of n s == i) ≡ true → in_list true (bars_start t.explicit (kind_of t.call s)) w ≡ true → is_held_admitted i s n w ≡ (not (may_not_enter i s) && (backpressure_of i s == 0))
          entry None here h = absurd (cc)
          entry (Some Why.Start) here h =
              ap (λ b. b && admits n s Why.Start) here
              ∙ (start_as t e
              ∙ (start_barred t.explicit (is_sync (kind_of t.call s)) _ h
              ∙ ap (λ k. not (may_not_enter k s) && (backpressure_of k s == 0)) (eqb-true (instance_of n s) i here)))
          entry (Some (Why.Delivery d)) here h = absurd (unbarred (bars_start t.explicit (kind_of t.call s)) h)
          entry (Some Why.Resumption) here h = absurd (unbarred (bars_start t.explicit (kind_of t.call s)) h)

module _ (i : ℕ) (s : Core) (xs ys : List ℕ) (others : (n : ℕ) → has n xs ≡ listed_in false i s n) (starts : (n : ℕ) → has n ys ≡ listed_in true i s n) where
  -- where the instance is open, some are admitted just where some aren't barred, or some are and no backpressure is
  pub any_open : may_not_enter i s ≡ false → list_any (is_admitted i s) (xs ++ ys) ≡ (not (is_nil xs) || ((backpressure_of i s == 0) && not (is_nil ys)))
  any_open entered_is =
      list_any-append (is_admitted i s) xs ys
      ∙ (ap (λ b. b || list_any (is_admitted i s) ys) (all_as (is_admitted i s) true xs (λ n h. other_admitted i s n entered_is (sym (others n) ∙ h)))
      ∙ ap (λ b. not (is_nil xs) || b) (all_as (is_admitted i s) (backpressure_of i s == 0) ys (λ n h. barred_admitted i s n (sym (starts n) ∙ h) ∙ ap (λ b. not b && (backpressure_of i s == 0)) entered_is)))

  -- where it is shut, no barred one is
  pub any_shut : may_not_enter i s ≡ true → list_any (is_admitted i s) (xs ++ ys) ≡ list_any (is_admitted i s) xs
  any_shut shut =
      list_any-append (is_admitted i s) xs ys
      ∙ (ap (λ b. list_any (is_admitted i s) xs || b) (all_as (is_admitted i s) false ys (λ n h. barred_admitted i s n (sym (starts n) ∙ h) ∙ ap (λ b. not b && (backpressure_of i s == 0)) shut)) ∙ or-false (list_any (is_admitted i s) xs))
