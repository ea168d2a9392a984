-- Which threads of an instance's two chains are let in: those that aren't barred, where its flag is clear; the barred ones beside, where
-- no backpressure is; and where its flag is set, those whose entries pass it.
use Rattle.core_records.proofs.Core.{[], admitted_held, admitted_permute, ap, ap₂, bare, Bool, cond, Core, eq-eqb, eqb-true, false, filter, get, get-change_same, has, HeldIn, Instance, instance_of, is_held_in, is_nil, IsLinks, IsMembers, IsPermutation, IsSoundCore, List, list_any, None, not, Option, option_map, option_map_or, parts_of, place_chain, refl, seen, slice_get, Some, StartsIn, subst, sym, true, Why, ℕ, ◌&&◌, ◌++◌, ◌==◌, ◌||◌, ◌∙◌, ◌∷◌, ◌≡◌}
use Rattle.core_lists.specs.Listed.{held_passes_flag, one_or_both, passes_flag}
use Rattle.core_records.specs.declared.{parts.CoreParts.CoreParts}
use Rattle.core_removals.proofs.AdmitLemmas.{any_open, barred_admitted, other_admitted}
use Rattle.core_removals.proofs.BothLemmas.{all_kept}
use Rattle.core_removals.proofs.HeldLemmas.{has_append, listed_members, nobody_held, two_members}
use Rattle.core_removals.specs.Held.{is_admitted, listed_in}
use Rattle.core_removals.specs.Walks.{of_chain}
use Rattle.machine_data.specs.Moves.{held_why_of}
use Rattle.machine_data.specs.Read.{admits, backpressure_of, is_explicit, is_held_admitted, is_sync, kind_of, may_not_enter, task_of}
use Rattle.machine_data.specs.Write.{on_instance, set_backpressure, set_do_not_enter}
use Rattle.machine_rules.specs.Ends.{held_by_flag}
use Rattle.machine_rules.specs.Task.{held_by_counter}
use Rattle.std.proofs.Math.Bool.{or-false}
use Rattle.std.proofs.lemmas.Bool.{and_parts, or_right}
use Rattle.std.proofs.lemmas.List.Sorted.{list_any-IsPermutation}

-- ---- Lists of which some pass

none_kept : (test : ℕ → Bool) (ns : List ℕ) → ((n : ℕ) → has n ns ≡ true → test n ≡ false) → filter test ns ≡ []
none_kept test [] each = refl
none_kept test (n ∷ ns) each =
    ap (λ t. cond t (n ∷ filter test ns) (filter test ns)) (each n (ap (λ b. b || has n ns) (eq-eqb n n refl)))
    ∙ none_kept test ns (λ k h. each k (or_right (k == n) (has k ns) h))

filter_front : (test : ℕ → Bool) (xs ys : List ℕ) → ((n : ℕ) → has n ys ≡ true → test n ≡ false) → filter test (xs ++ ys) ≡ filter test xs
filter_front test [] ys none = none_kept test ys none
filter_front test (x ∷ xs) ys none = ap (λ (l : List ℕ). cond (test x) (x ∷ l) l) (filter_front test xs ys none)

filter_same : (p q : ℕ → Bool) (ns : List ℕ) → ((n : ℕ) → has n ns ≡ true → p n ≡ q n) → filter p ns ≡ filter q ns
filter_same p q [] each = refl
filter_same p q (n ∷ ns) each =
    ap (λ b. cond b (n ∷ filter p ns) (filter p ns)) (each n (ap (λ b. b || has n ns) (eq-eqb n n refl)))
    ∙ ap (λ (l : List ℕ). cond (q n) (n ∷ l) l) (filter_same p q ns (λ k h. each k (or_right (k == n) (has k ns) h)))

either_true : (b c : Bool) {X : Type 0} → (b || c) ≡ true → (b ≡ true → X) → (c ≡ true → X) → X
either_true true c is one two = one refl
either_true false c is one two = two is

some_left : (test : ℕ → Bool) (ns : List ℕ) → list_any test ns ≡ list_any (λ n. true) (filter test ns)
some_left test [] = refl
some_left test (n ∷ ns) = by (test n) (some_left test ns)
  where
    by : (b : Bool) → list_any test ns ≡ list_any (λ n. true) (filter test ns) → (b || list_any test ns) ≡ list_any (λ n. true) (cond b (n ∷ filter test ns) (filter test ns))
    by true rest = refl
    by false rest = rest

not_nil : (ns : List ℕ) → list_any (λ n. true) ns ≡ not (is_nil ns)
not_nil [] = refl
not_nil (n ∷ ns) = refl

-- ---- In any core

module _ (i : ℕ) (s : Core) where
  -- where nobody is held nobody is let in
  pub none_in : IsMembers (is_held_in i s) [] → IsPermutation (admitted_held i s) []
  none_in members = admitted_permute i s [] members

  some_in : (list : List ℕ) → IsMembers (is_held_in i s) list → list_any (is_admitted i s) list ≡ not (is_nil (admitted_held i s))
  some_in list members =
      some_left (is_admitted i s) list
      ∙ (sym (list_any-IsPermutation (λ n. true) (admitted_held i s) (filter (is_admitted i s) list) (admitted_permute i s list members))
      ∙ not_nil (admitted_held i s))

  pub nobody_in : IsMembers (is_held_in i s) [] → false ≡ not (is_nil (admitted_held i s))
  nobody_in members = some_in [] members

  module _ (xs ys : List ℕ) (others : IsMembers (listed_in false i s) xs) (starts : IsMembers (listed_in true i s) ys) where
    both : IsMembers (is_held_in i s) (xs ++ ys)
    both = two_members i s xs ys others starts

    -- the flag is clear and no backpressure is: all
    pub all_in : may_not_enter i s ≡ false → (backpressure_of i s == 0) ≡ true → IsPermutation (admitted_held i s) (xs ++ ys)
    all_in entered free = subst (IsPermutation (admitted_held i s)) (all_kept (is_admitted i s) (xs ++ ys) each) (admitted_permute i s (xs ++ ys) both)
      where
        each : (n : ℕ) → has n (xs ++ ys) ≡ true → is_admitted i s n ≡ true
        each n h =
            either_true (has n xs) (has n ys) (sym (has_append n xs ys) ∙ h)
            (λ is. other_admitted i s n entered (sym (others.are n) ∙ is))
            (λ is. barred_admitted i s n (sym (starts.are n) ∙ is) ∙ ap₂ (λ b e. not b && e) entered free)

    -- the flag is clear and some backpressure is: those that aren't barred
    pub others_in : may_not_enter i s ≡ false → (backpressure_of i s == 0) ≡ false → IsPermutation (admitted_held i s) xs
    others_in entered some =
        subst (IsPermutation (admitted_held i s))
        (filter_front (is_admitted i s) xs ys (λ n h. barred_admitted i s n (sym (starts.are n) ∙ h) ∙ ap₂ (λ b e. not b && e) entered some)
        ∙ all_kept (is_admitted i s) xs (λ n h. other_admitted i s n entered (sym (others.are n) ∙ h)))
        (admitted_permute i s (xs ++ ys) both)

    -- the flag is set: those whose entries pass it
    passing : may_not_enter i s ≡ true → (n : ℕ) → listed_in false i s n ≡ true → is_admitted i s n ≡ held_passes_flag s n
    passing shut n listed = by (held_why_of n s)
      where
        here : (instance_of n s == i) ≡ true
        here = (and_parts _ _ listed).0

        kept_out : may_not_enter (instance_of n s) s ≡ true
        kept_out = ap (λ k. may_not_enter k s) (eqb-true (instance_of n s) i here) ∙ shut

        by : (w : Option Why) → is_held_admitted i s n w ≡ option_map_or (passes_flag n s) w false
        by None = refl
        by (Some Why.Start) =
            ap (λ b. b && admits n s Why.Start) here
            ∙ (ap (λ b. is_explicit n s || (is_sync (kind_of (task_of n s) s) || (not b && (backpressure_of (instance_of n s) s == 0)))) kept_out
            ∙ ap (λ b. is_explicit n s || b) (or-false (is_sync (kind_of (task_of n s) s))))
        by (Some (Why.Delivery d)) = ap (λ b. b && not (may_not_enter (instance_of n s) s)) here ∙ ap not kept_out
        by (Some Why.Resumption) = ap (λ b. b && true) here

    pub passing_in : may_not_enter i s ≡ true → IsPermutation (admitted_held i s) (filter (held_passes_flag s) xs)
    passing_in shut =
        subst (IsPermutation (admitted_held i s))
        (filter_front (is_admitted i s) xs ys (λ n h. barred_admitted i s n (sym (starts.are n) ∙ h) ∙ ap (λ b. not b && (backpressure_of i s == 0)) shut)
        ∙ filter_same (is_admitted i s) (held_passes_flag s) xs (λ n h. passing shut n (sym (others.are n) ∙ h)))
        (admitted_permute i s (xs ++ ys) both)

    pub some_open : may_not_enter i s ≡ false → (not (is_nil xs) || ((backpressure_of i s == 0) && not (is_nil ys))) ≡ not (is_nil (admitted_held i s))
    some_open entered = sym (any_open i s xs ys others.are starts.are entered) ∙ some_in (xs ++ ys) both

-- ---- Once the instance is opened

clear_now : (i : ℕ) (s : Core) → may_not_enter i (set_do_not_enter i false s) ≡ false
unfolding set_do_not_enter on_instance
clear_now i s = ap (λ o. option_map_or (λ (r : Instance). r.do_not_enter) o false) (get-change_same s.instances i (λ (r : Instance). record r { do_not_enter = false })) ∙ by (get s.instances i)
  where
    by : (o : Option Instance) → option_map_or (λ (r : Instance). r.do_not_enter) (option_map (λ (r : Instance). record r { do_not_enter = false }) o) false ≡ false
    by None = refl
    by (Some r) = refl

clear_backpressure : (i : ℕ) (s : Core) → backpressure_of i (set_do_not_enter i false s) ≡ backpressure_of i s
unfolding set_do_not_enter on_instance
clear_backpressure i s = ap (λ o. option_map_or (λ (r : Instance). r.backpressure) o 0) (get-change_same s.instances i (λ (r : Instance). record r { do_not_enter = false })) ∙ by (get s.instances i)
  where
    by : (o : Option Instance) → option_map_or (λ (r : Instance). r.backpressure) (option_map (λ (r : Instance). record r { do_not_enter = false }) o) 0 ≡ option_map_or (λ (r : Instance). r.backpressure) o 0
    by None = refl
    by (Some r) = refl

gone_now : (i : ℕ) (s : Core) → (backpressure_of i (set_backpressure i 0 s) == 0) ≡ true
unfolding set_backpressure on_instance
gone_now i s = ap (λ o. option_map_or (λ (r : Instance). r.backpressure) o 0 == 0) (get-change_same s.instances i (λ (r : Instance). record r { backpressure = 0 })) ∙ by (get s.instances i)
  where
    by : (o : Option Instance) → (option_map_or (λ (r : Instance). r.backpressure) (option_map (λ (r : Instance). record r { backpressure = 0 }) o) 0 == 0) ≡ true
    by None = refl
    by (Some r) = refl

gone_flag : (i : ℕ) (s : Core) → may_not_enter i (set_backpressure i 0 s) ≡ may_not_enter i s
unfolding set_backpressure on_instance
gone_flag i s = ap (λ o. option_map_or (λ (r : Instance). r.do_not_enter) o false) (get-change_same s.instances i (λ (r : Instance). record r { backpressure = 0 })) ∙ by (get s.instances i)
  where
    by : (o : Option Instance) → option_map_or (λ (r : Instance). r.do_not_enter) (option_map (λ (r : Instance). record r { backpressure = 0 }) o) false ≡ option_map_or (λ (r : Instance). r.do_not_enter) o false
    by None = refl
    by (Some r) = refl

clear_members : (b : Bool) (i : ℕ) (s : Core) (xs : List ℕ) → IsMembers (listed_in b i s) xs → IsMembers (listed_in b i (set_do_not_enter i false s)) xs
unfolding set_do_not_enter on_instance
clear_members b i s xs members = members

gone_members : (b : Bool) (i : ℕ) (s : Core) (xs : List ℕ) → IsMembers (listed_in b i s) xs → IsMembers (listed_in b i (set_backpressure i 0 s)) xs
unfolding set_backpressure on_instance
gone_members b i s xs members = members

clear_held : (i : ℕ) (s : Core) → IsMembers (is_held_in i s) [] → IsMembers (is_held_in i (set_do_not_enter i false s)) []
unfolding set_do_not_enter on_instance
clear_held i s members = members

gone_held : (i : ℕ) (s : Core) → IsMembers (is_held_in i s) [] → IsMembers (is_held_in i (set_backpressure i 0 s)) []
unfolding set_backpressure on_instance
gone_held i s members = members

gone_passing : (i : ℕ) (s : Core) (xs : List ℕ) → filter (held_passes_flag (set_backpressure i 0 s)) xs ≡ filter (held_passes_flag s) xs
unfolding set_backpressure on_instance
gone_passing i s xs = refl

module _ (a : CoreParts) (sound : IsSoundCore a) (i : ℕ) where
  -- there is no such instance
  pub none_by_flag : None ≡ slice_get a.instances.items i → IsPermutation (held_by_flag i (seen a).core) []
  unfolding held_by_flag
  none_by_flag none = none_in i (set_do_not_enter i false (seen a).core) (clear_held i (seen a).core (nobody_held a sound i none))

  pub none_by_counter : None ≡ slice_get a.instances.items i → IsPermutation (held_by_counter i (seen a).core) []
  unfolding held_by_counter
  none_by_counter none = none_in i (set_backpressure i 0 (seen a).core) (gone_held i (seen a).core (nobody_held a sound i none))

  pub nobody_by_flag : None ≡ slice_get a.instances.items i → false ≡ not (is_nil (held_by_flag i (seen a).core))
  unfolding held_by_flag
  nobody_by_flag none = nobody_in i (set_do_not_enter i false (seen a).core) (clear_held i (seen a).core (nobody_held a sound i none))

  module _ (links : IsLinks a.places) (c d : ℕ) (chain : place_chain (bare (parts_of a)) (HeldIn i) ≡ Some c) (starts : place_chain (bare (parts_of a)) (StartsIn i) ≡ Some d) where
    others_are : IsMembers (listed_in false i (seen a).core) (of_chain a c)
    others_are = listed_members a sound links false i c chain

    starts_are : IsMembers (listed_in true i (seen a).core) (of_chain a d)
    starts_are = listed_members a sound links true i d starts

    all_by_flag : (backpressure_of i (seen a).core == 0) ≡ true → IsPermutation (held_by_flag i (seen a).core) (of_chain a c ++ of_chain a d)
    unfolding held_by_flag
    all_by_flag free = all_in i (set_do_not_enter i false (seen a).core) (of_chain a c) (of_chain a d) (clear_members false i (seen a).core _ others_are) (clear_members true i (seen a).core _ starts_are) (clear_now i (seen a).core) (ap (λ n. n == 0) (clear_backpressure i (seen a).core) ∙ free)

    others_by_flag : (backpressure_of i (seen a).core == 0) ≡ false → IsPermutation (held_by_flag i (seen a).core) (of_chain a c)
    unfolding held_by_flag
    others_by_flag some = others_in i (set_do_not_enter i false (seen a).core) (of_chain a c) (of_chain a d) (clear_members false i (seen a).core _ others_are) (clear_members true i (seen a).core _ starts_are) (clear_now i (seen a).core) (ap (λ n. n == 0) (clear_backpressure i (seen a).core) ∙ some)

    pub listed_by_flag : (all : Bool) → (backpressure_of i (seen a).core == 0) ≡ all → IsPermutation (held_by_flag i (seen a).core) (one_or_both all (of_chain a c) (of_chain a d))
    listed_by_flag true is = all_by_flag is
    listed_by_flag false is = others_by_flag is

    pub some_by_flag : (not (is_nil (of_chain a c)) || ((backpressure_of i (seen a).core == 0) && not (is_nil (of_chain a d)))) ≡ not (is_nil (held_by_flag i (seen a).core))
    unfolding held_by_flag
    some_by_flag =
        ap (λ n. not (is_nil (of_chain a c)) || ((n == 0) && not (is_nil (of_chain a d)))) (sym (clear_backpressure i (seen a).core))
        ∙ some_open i (set_do_not_enter i false (seen a).core) (of_chain a c) (of_chain a d) (clear_members false i (seen a).core _ others_are) (clear_members true i (seen a).core _ starts_are) (clear_now i (seen a).core)

    pub all_by_counter : may_not_enter i (seen a).core ≡ false → IsPermutation (held_by_counter i (seen a).core) (of_chain a c ++ of_chain a d)
    unfolding held_by_counter
    all_by_counter entered = all_in i (set_backpressure i 0 (seen a).core) (of_chain a c) (of_chain a d) (gone_members false i (seen a).core _ others_are) (gone_members true i (seen a).core _ starts_are) (gone_flag i (seen a).core ∙ entered) (gone_now i (seen a).core)

    pub passing_by_counter : may_not_enter i (seen a).core ≡ true → IsPermutation (held_by_counter i (seen a).core) (filter (held_passes_flag (seen a).core) (of_chain a c))
    unfolding held_by_counter
    passing_by_counter shut =
        subst (IsPermutation (admitted_held i (set_backpressure i 0 (seen a).core))) (gone_passing i (seen a).core (of_chain a c))
        (passing_in i (set_backpressure i 0 (seen a).core) (of_chain a c) (of_chain a d) (gone_members false i (seen a).core _ others_are) (gone_members true i (seen a).core _ starts_are) (gone_flag i (seen a).core ∙ shut))
