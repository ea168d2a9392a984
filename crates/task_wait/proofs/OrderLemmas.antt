-- What keeps a list in ascending order.
use Rattle.std.proofs.Common.{◌≡◌, ℕ, ◌==◌, ◌||◌, Bool, true, false, cond, List, [], ◌∷◌, ◌++◌, drop, Option, Some, None, IsSome, IfSome, refl, sym, ap, subst, ◌∙◌, option_map}
use Rattle.std.specs.declared.cmp.Ordering.{Ordering}
use Rattle.std.specs.declared.cmp.Ordering.TheVariants.{Less, Equal, Greater}
use Rattle.std.specs.Cmp.{IsTotalOrder}
use Rattle.std.specs.List.{list_any}
use Rattle.std.specs.Ordering.{is_lt}
use Rattle.std.proofs.lemmas.Bool.{eq-eqb, eqb-true, ne_eqb, or_from, or_parts}
use Rattle.std.proofs.lemmas.Cmp.{tied_itself}
use Rattle.table_links.specs.Links.{Spot, In, Apart, entries, head_of, link_of, list_of, put_before, removed_by, unlinked, without}
use Rattle.task_wait.specs.Sets.{IsAscending, IsLeast, is_to, place_of, placed, placed_at, taken_out}
use Rattle.table_links.proofs.ReadLemmas.{entries-unlinked_same, made_linked}
use Rattle.task_wait.proofs.WalkLemmas.{place_in}

pub is_less : (o : Ordering) → is_lt o ≡ true → o ≡ Less
is_less Less is = refl
is_less Equal is = absurd (cc)
is_less Greater is = absurd (cc)

module _ {P : Type 0} where
  -- a test that no value passes, nor the new one
  module _ (test : P → Bool) where
    abbrev fails_all : List (ℕ × P) → Type 0
    fails_all l = list_any (λ k. test k.1) l ≡ false

    any-push : (entry : ℕ × P) (l : List (ℕ × P)) → test entry.1 ≡ false → fails_all l → fails_all (l ++ entry ∷ [])
    any-push entry [] fails none = or_from (test entry.1) false fails refl
    any-push entry (e ∷ es) fails none =
        let parts = or_parts (test e.1) _ none in
        or_from (test e.1) _ parts.0 (any-push entry es fails parts.1)

    any-put_before : (at : ℕ) (entry : ℕ × P) (l : List (ℕ × P)) → test entry.1 ≡ false → fails_all l → fails_all (put_before at entry l)
    any-put_before at entry [] fails none = refl
    any-put_before at entry (e ∷ es) fails none = by_test (any-put_before at entry es fails (or_parts (test e.1) _ none).1) (e.0 == at)
      where
        by_test : fails_all (put_before at entry es) → (t : Bool) → fails_all (cond t (entry ∷ e ∷ es) (e ∷ put_before at entry es))
        by_test more true = or_from (test entry.1) _ fails none
        by_test more false = or_from (test e.1) _ (or_parts (test e.1) _ none).0 more

    any-placed_at : (place : Option ℕ) (entry : ℕ × P) (l : List (ℕ × P)) → test entry.1 ≡ false → fails_all l → fails_all (placed_at place entry l)
    any-placed_at None entry l fails none = any-push entry l fails none
    any-placed_at (Some at) entry l fails none = any-put_before at entry l fails none

    any-without : (n : ℕ) (l : List (ℕ × P)) → fails_all l → fails_all (without n l)
    any-without n [] none = refl
    any-without n (e ∷ es) none = by_test (any-without n es (or_parts (test e.1) _ none).1) (e.0 == n)
      where
        by_test : fails_all (without n es) → (t : Bool) → fails_all (cond t es (e ∷ without n es))
        by_test more true = (or_parts (test e.1) _ none).1
        by_test more false = or_from (test e.1) _ (or_parts (test e.1) _ none).0 more

  module _ (cmp : P → P → Ordering) where
    -- without one of its nodes an ascending list is ascending
    pub IsAscending-without : (n : ℕ) (l : List (ℕ × P)) → IsAscending cmp l → IsAscending cmp (without n l)
    IsAscending-without n [] up = tt
    IsAscending-without n (e ∷ es) up = by_test (IsAscending-without n es up.1) (e.0 == n)
      where
        by_test : IsAscending cmp (without n es) → (t : Bool) → IsAscending cmp (cond t es (e ∷ without n es))
        by_test more true = up.1
        by_test more false = (any-without (λ v. is_lt (cmp v e.1)) n es up.0, more)

    pub IsAscending-drop : (l : List (ℕ × P)) → IsAscending cmp l → IsAscending cmp (drop 1 l)
    IsAscending-drop [] up = tt
    IsAscending-drop (e ∷ es) up = up.1

    pub IsAscending-taken_out : (links : List (Spot P)) (c n : ℕ) → IsSome (list_of links c) → IsAscending cmp (entries links c) → IsAscending cmp (entries (taken_out c n links) c)
    IsAscending-taken_out links c n live up = by_link (link_of links n) refl
      where
        by_link : (o : Option (ℕ × P)) → link_of links n ≡ o → IsAscending cmp (entries (cond (is_to c o) (removed_by n o links) links) c)
        by_link None is = up
        by_link (Some k) is = by_test (k.0 == c) refl
          where
            by_test : (t : Bool) → (k.0 == c) ≡ t → IsAscending cmp (entries (cond t (unlinked k.0 n (without n (entries links k.0)) links) links) c)
            by_test true same =
                subst (λ d. IsAscending cmp (entries (unlinked d n (without n (entries links d)) links) c)) (sym (eqb-true k.0 c same))
                (subst (IsAscending cmp) (sym (entries-unlinked_same links c n (without n (entries links c)) live (made_linked links n k.0 k.1 is))) (IsAscending-without n (entries links c) up))
            by_test false same = up

    module _ (order : IsTotalOrder cmp) where
      -- what is above a value that isn't below another isn't below that other
      above : (k v e : P) → is_lt (cmp k v) ≡ true → is_lt (cmp k e) ≡ false → is_lt (cmp v e) ≡ false
      above k v e below not_below = by_test (is_lt (cmp v e)) refl
        where
          by_test : (t : Bool) → is_lt (cmp v e) ≡ t → t ≡ false
          by_test true is = absurd (let less = ap is_lt (order.trans k v e (is_less (cmp k v) below) (is_less (cmp v e) is)) in let both = sym less ∙ not_below in cc)
          by_test false is = refl

      raised : (v e : P) (l : List (ℕ × P)) → list_any (λ k. is_lt (cmp k.1 v)) l ≡ true → IsLeast cmp e l → is_lt (cmp v e) ≡ false
      raised v e [] any least = absurd (cc)
      raised v e (k ∷ ks) any least = by_test (λ some. raised v e ks some (or_parts (is_lt (cmp k.1 e)) _ least).1) (is_lt (cmp k.1 v)) refl any
        where
          by_test : (list_any (λ j. is_lt (cmp j.1 v)) ks ≡ true → is_lt (cmp v e) ≡ false) → (t : Bool) → is_lt (cmp k.1 v) ≡ t → (t || list_any (λ j. is_lt (cmp j.1 v)) ks) ≡ true → is_lt (cmp v e) ≡ false
          by_test more true is some = above k.1 v e is (or_parts (is_lt (cmp k.1 e)) _ least).0
          by_test more false is some = more some

      least_of_all : (e : ℕ × P) (es : List (ℕ × P)) → IsLeast cmp e.1 es → IsLeast cmp e.1 (e ∷ es)
      least_of_all e es least = or_from (is_lt (cmp e.1 e.1)) _ (ap is_lt (tied_itself order e.1)) least

      -- the first of an ascending list is the least
      pub IsLeast-first : (l : List (ℕ × P)) → IsAscending cmp l → IfSome (option_map (λ e. e.1) (head_of l)) (λ v. IsLeast cmp v l)
      IsLeast-first [] up = tt
      IsLeast-first (e ∷ es) up = least_of_all e es up.0

      later : (place : Option ℕ) (entry e : ℕ × P) (es : List (ℕ × P)) → Apart (e ∷ es) → ((n : ℕ) → place ≡ Some n → In n es) → placed_at place entry (e ∷ es) ≡ e ∷ placed_at place entry es
      later None entry e es apart inside = refl
      later (Some n) entry e es apart inside =
          ap (λ t. cond t (entry ∷ e ∷ es) (e ∷ put_before n entry es)) (ne_eqb e.0 n (λ same. apart.0 (subst (λ m. In m es) (sym same) (inside n refl))))

      -- with a new value in its place an ascending list is ascending
      pub IsAscending-placed : (entry : ℕ × P) (l : List (ℕ × P)) → Apart l → IsAscending cmp l → IsAscending cmp (placed cmp entry l)
      IsAscending-placed entry [] apart up = (refl, tt)
      IsAscending-placed entry (e ∷ es) apart up = by_test (IsAscending-placed entry es apart.1 up.1) (list_any (λ k. less k.1) (e ∷ es)) refl
        where
          less : P → Bool
          less = λ v. is_lt (cmp v entry.1)

          by_test : IsAscending cmp (placed cmp entry es) → (t : Bool) → list_any (λ k. less k.1) (e ∷ es) ≡ t → IsAscending cmp (placed_at (cond t (place_of less es) (Some e.0)) entry (e ∷ es))
          by_test more true any =
              subst (IsAscending cmp) (sym (later (place_of less es) entry e es apart (λ n is. place_in less n es is)))
              (any-placed_at (λ v. is_lt (cmp v e.1)) (place_of less es) entry es (raised entry.1 e.1 (e ∷ es) any (least_of_all e es up.0)) up.0, more)
          by_test more false none =
              subst (λ t. IsAscending cmp (cond t (entry ∷ e ∷ es) (e ∷ put_before e.0 entry es))) (sym (eq-eqb e.0 e.0 refl)) (none, up)
