-- Two chains, of which always the node of the lesser order key leaves.
use Rattle.core_records.proofs.Core.{[], ap, Bool, cond, eq-eqb, false, has, List, map, Once, refl, subst, sym, true, ℕ, ◌==◌, ◌||◌, ◌∙◌, ◌∷◌, ◌≡◌}
use Rattle.std.proofs.Math.Bool.{or_assoc}
use Rattle.std.proofs.lemmas.Bool.{or_parts, or_right}
use Rattle.std.specs.Ordering.{is_lt}
use Rattle.table_lists.specs.OrderKeys.{order_key_order}
use Rattle.table_lists.specs.declared.ordered_lists.OrderKey.{OrderKey}
use Rattle.core_removals.specs.Merged.{merged}

abbrev pub comes_before : ℕ × OrderKey → ℕ × OrderKey → Bool
comes_before y x = is_lt (order_key_order y.1 x.1)

-- the first of the one list leads where the first of the other doesn't come before it
pub left_leads : (x y : ℕ × OrderKey) (xs ys : List (ℕ × OrderKey)) → comes_before y x ≡ false → merged (x ∷ xs) (y ∷ ys) ≡ x ∷ merged xs (y ∷ ys)
left_leads x y xs ys off = ap (λ b. cond b (y ∷ merged (x ∷ xs) ys) (x ∷ merged xs (y ∷ ys))) off

pub right_leads : (x y : ℕ × OrderKey) (xs ys : List (ℕ × OrderKey)) → comes_before y x ≡ true → merged (x ∷ xs) (y ∷ ys) ≡ y ∷ merged (x ∷ xs) ys
right_leads x y xs ys on = ap (λ b. cond b (y ∷ merged (x ∷ xs) ys) (x ∷ merged xs (y ∷ ys))) on

-- the numbers of both lists are those of the merged one
pub has_merged : (f : ℕ × OrderKey → ℕ) (n : ℕ) (xs ys : List (ℕ × OrderKey)) → has n (map f (merged xs ys)) ≡ (has n (map f xs) || has n (map f ys))
has_merged f n [] ys = refl
has_merged f n (x ∷ xs) ys = by (λ zs. has_merged f n xs zs) ys
  where
    by : ((zs : List (ℕ × OrderKey)) → has n (map f (merged xs zs)) ≡ (has n (map f xs) || has n (map f zs))) → (zs : List (ℕ × OrderKey)) → has n (map f (merged (x ∷ xs) zs)) ≡ (has n (map f (x ∷ xs)) || has n (map f zs))
    by less [] = ap (λ b. (n == f x) || b) (less []) ∙ sym (or_assoc (n == f x) (has n (map f xs)) false)
    by less (z ∷ zs) = go (less (z ∷ zs)) (by less zs) (comes_before z x) refl
      where
        turn : (a b c d : Bool) → (d || ((a || b) || c)) ≡ ((a || b) || (d || c))
        turn true b c true = refl
        turn true b c false = refl
        turn false true c true = refl
        turn false true c false = refl
        turn false false c d = refl

        go : has n (map f (merged xs (z ∷ zs))) ≡ (has n (map f xs) || has n (map f (z ∷ zs))) → has n (map f (merged (x ∷ xs) zs)) ≡ (has n (map f (x ∷ xs)) || has n (map f zs)) → (b : Bool) → comes_before z x ≡ b → has n (map f (merged (x ∷ xs) (z ∷ zs))) ≡ (has n (map f (x ∷ xs)) || has n (map f (z ∷ zs)))
        go less more true on = ap (λ l. has n (map f l)) (right_leads x z xs zs on) ∙ (ap (λ b. (n == f z) || b) more ∙ turn (n == f x) (has n (map f xs)) (has n (map f zs)) (n == f z))
        go less more false off = ap (λ l. has n (map f l)) (left_leads x z xs zs off) ∙ (ap (λ b. (n == f x) || b) less ∙ sym (or_assoc (n == f x) (has n (map f xs)) (has n (map f (z ∷ zs)))))

-- who is in neither list twice, and in one of them alone, is once in the merged one
pub once_merged : (f : ℕ × OrderKey → ℕ) (xs ys : List (ℕ × OrderKey)) → Once (map f xs) → Once (map f ys) → ((n : ℕ) → has n (map f xs) ≡ true → has n (map f ys) ≡ false) → Once (map f (merged xs ys))
once_merged f [] ys a b apart = b
once_merged f (x ∷ xs) ys a b apart = by (λ zs. once_merged f xs zs a.1) ys b apart
  where
    own : (n : ℕ) (l : List ℕ) → has n (n ∷ l) ≡ true
    own n l = ap (λ b. b || has n l) (eq-eqb n n refl)

    by : ((zs : List (ℕ × OrderKey)) → Once (map f zs) → ((n : ℕ) → has n (map f xs) ≡ true → has n (map f zs) ≡ false) → Once (map f (merged xs zs))) → (zs : List (ℕ × OrderKey)) → Once (map f zs) → ((n : ℕ) → has n (map f (x ∷ xs)) ≡ true → has n (map f zs) ≡ false) → Once (map f (merged (x ∷ xs) zs))
    by less [] b apart = (has_merged f (f x) xs [] ∙ (ap (λ c. c || false) a.0), less [] b (λ n h. refl))
    by less (z ∷ zs) b apart = go (less (z ∷ zs) b (λ n h. apart n (or_right (n == f x) (has n (map f xs)) h))) (by less zs b.1 (λ n h. (or_parts (n == f z) (has n (map f zs)) (apart n h)).1)) (comes_before z x) refl
      where
        -- what the other list has isn't in this one
        turned : (n : ℕ) → has n (map f (z ∷ zs)) ≡ true → has n (map f (x ∷ xs)) ≡ false
        turned n h = back (has n (map f (x ∷ xs))) refl
          where
            back : (c : Bool) → has n (map f (x ∷ xs)) ≡ c → has n (map f (x ∷ xs)) ≡ false
            back false is = is
            back true is = absurd (let off = apart n is in cc)

        go : Once (map f (merged xs (z ∷ zs))) → Once (map f (merged (x ∷ xs) zs)) → (c : Bool) → comes_before z x ≡ c → Once (map f (merged (x ∷ xs) (z ∷ zs)))
        go less more true on = subst (λ l. Once (map f l)) (sym (right_leads x z xs zs on)) (
          has_merged f (f z) (x ∷ xs) zs ∙ (ap (λ c. c || has (f z) (map f zs)) (turned (f z) (own (f z) (map f zs))) ∙ b.0),
          more,
        )
        go less more false off = subst (λ l. Once (map f l)) (sym (left_leads x z xs zs off)) (
          has_merged f (f x) xs (z ∷ zs) ∙ (ap (λ c. c || has (f x) (map f (z ∷ zs))) a.0 ∙ apart (f x) (own (f x) (map f xs))),
          less,
        )
