-- A sum over the records of a map, and how many of them pass a test, after a change.
use Rattle.std.proofs.Common.{arith, ◌≡◌, ◌+◌, ℕ, suc, refl, ap, Bool, true, false, cond, not, ◌&&◌, T, List, [], ◌∷◌, length, count_by, sum_by}
use Rattle.std.proofs.lemmas.List.Sums.{sum_by-cons}
use Rattle.std.specs.Prelude.{Option, Some, None, is_some}
use Rattle.std.specs.declared.cmp.Ordering.{Ordering}
use Rattle.std.specs.declared.cmp.Ordering.TheVariants.{Less, Equal, Greater}
use Rattle.std.specs.Ordering.{nat_cmp, eq_by_cmp, is_eq}
use Rattle.std.specs.Cmp.{nat_cmp_total}
use Rattle.std.specs.FinMap.Entries.{find, put, where_key, by_order, is_sorted, length-put, length_without}
use Rattle.machine_data.specs.Maps.{Records, get, insert, remove, other_than}

module _ {X : Type 0} (f : X → ℕ) where
  abbrev pub value_in : Option X → ℕ
  value_in None = 0
  value_in (Some x) = f x

  -- the sum over the records
  abbrev total : List (ℕ × X) → ℕ
  total es = sum_by (λ e. f e.1) es

  sorted_rest : (a b : Bool) → T (a && b) → T b
  sorted_rest true b p = p
  sorted_rest false b p = absurd p

  none_of : (o : Option X) (n : ℕ) → suc n ≡ cond (is_some o) n (n + 1) → value_in o ≡ 0
  none_of None n more = refl
  none_of (Some x) n more = absurd (omega arith)

  total-put : (k : ℕ) (v : X) (es : List (ℕ × X)) → T (is_sorted nat_cmp es) → total (put nat_cmp k v es) + value_in (find nat_cmp k es) ≡ total es + f v
  total-put k v [] sorted = omega (arith, sum_by-cons (λ (e : ℕ × X). f e.1) (k, v) [])
  total-put k v (e ∷ es) sorted =
      let rest = total-put k v es (sorted_rest _ _ sorted) in
      let many = length-put nat_cmp nat_cmp_total k v (e ∷ es) sorted in
      by_cmp (nat_cmp k e.0) rest many
    where
      by_cmp : (r : Ordering) → total (put nat_cmp k v es) + value_in (find nat_cmp k es) ≡ total es + f v → length (by_order r ((k, v) ∷ e ∷ es) ((e.0, v) ∷ es) (e ∷ put nat_cmp k v es)) ≡ cond (is_some (cond (is_eq r) (Some e.1) (find nat_cmp k es))) (suc (length es)) (suc (length es) + 1) → total (by_order r ((k, v) ∷ e ∷ es) ((e.0, v) ∷ es) (e ∷ put nat_cmp k v es)) + value_in (cond (is_eq r) (Some e.1) (find nat_cmp k es)) ≡ total (e ∷ es) + f v
      by_cmp Less rest many =
          let none = none_of (find nat_cmp k es) (suc (length es)) many in
          omega (arith, sum_by-cons (λ (e : ℕ × X). f e.1) (k, v) (e ∷ es))
      by_cmp Equal rest many = omega (arith, sum_by-cons (λ (e : ℕ × X). f e.1) (e.0, v) es, sum_by-cons (λ (e : ℕ × X). f e.1) e es)
      by_cmp Greater rest many = omega (arith, sum_by-cons (λ (e : ℕ × X). f e.1) e (put nat_cmp k v es), sum_by-cons (λ (e : ℕ × X). f e.1) e es)

  none_left : (o : Option X) (n l : ℕ) → cond (is_some o) 1 0 + l ≡ n → 1 + l ≡ suc n → value_in o ≡ 0
  none_left None n l left all = refl
  none_left (Some x) n l left all = absurd (omega arith)

  total-where_key : (n : ℕ) (es : List (ℕ × X)) → T (is_sorted nat_cmp es) → total (where_key nat_cmp (other_than n) es) + value_in (find nat_cmp n es) ≡ total es
  total-where_key n [] sorted = refl
  total-where_key n (e ∷ es) sorted =
      let rest = total-where_key n es (sorted_rest _ _ sorted) in
      let left = length_without nat_cmp nat_cmp_total n es (sorted_rest _ _ sorted) in
      let all = length_without nat_cmp nat_cmp_total n (e ∷ es) sorted in
      by_test (eq_by_cmp nat_cmp n e.0) rest left all
    where
      by_test : (b : Bool) → total (where_key nat_cmp (other_than n) es) + value_in (find nat_cmp n es) ≡ total es → cond (is_some (find nat_cmp n es)) 1 0 + length (where_key nat_cmp (other_than n) es) ≡ length es → cond (is_some (cond b (Some e.1) (find nat_cmp n es))) 1 0 + length (cond (not b) (e ∷ where_key nat_cmp (other_than n) es) (where_key nat_cmp (other_than n) es)) ≡ suc (length es) → total (cond (not b) (e ∷ where_key nat_cmp (other_than n) es) (where_key nat_cmp (other_than n) es)) + value_in (cond b (Some e.1) (find nat_cmp n es)) ≡ total (e ∷ es)
      by_test true rest left all =
          let none = none_left (find nat_cmp n es) (length es) (length (where_key nat_cmp (other_than n) es)) left all in
          omega (arith, sum_by-cons (λ (e : ℕ × X). f e.1) e es)
      by_test false rest left all = omega (arith, sum_by-cons (λ (e : ℕ × X). f e.1) e es, sum_by-cons (λ (e : ℕ × X). f e.1) e (where_key nat_cmp (other_than n) es))

  pub sum_by-insert : (m : Records X) (n : ℕ) (x : X) → sum_by (λ e. f e.1) (insert m n x).list + value_in (get m n) ≡ sum_by (λ e. f e.1) m.list + f x
  unfolding insert get
  sum_by-insert m n x = total-put n x m.list m.sorted

  pub sum_by-remove : (m : Records X) (n : ℕ) → sum_by (λ e. f e.1) (remove m n).list + value_in (get m n) ≡ sum_by (λ e. f e.1) m.list
  unfolding remove get
  sum_by-remove m n = total-where_key n m.list m.sorted

module _ {X : Type 0} (test : X → Bool) where
  abbrev one_of : X → ℕ
  one_of x = cond (test x) 1 0

  -- a new record
  pub count_by-insert_new : (m : Records X) (n : ℕ) (x : X) → get m n ≡ None → count_by (λ e. test e.1) (insert m n x).list ≡ count_by (λ e. test e.1) m.list + cond (test x) 1 0
  count_by-insert_new m n x none =
      let sum = sum_by-insert one_of m n x in
      let zero_before : value_in one_of (get m n) ≡ 0 = ap (value_in one_of) none in
      omega arith

  -- another record of a number
  pub count_by-insert_same : (m : Records X) (n : ℕ) (x y : X) → get m n ≡ Some y → count_by (λ e. test e.1) (insert m n x).list + cond (test y) 1 0 ≡ count_by (λ e. test e.1) m.list + cond (test x) 1 0
  count_by-insert_same m n x y some =
      let sum = sum_by-insert one_of m n x in
      let before : value_in one_of (get m n) ≡ cond (test y) 1 0 = ap (value_in one_of) some in
      omega arith

  pub count_by-remove : (m : Records X) (n : ℕ) (x : X) → get m n ≡ Some x → count_by (λ e. test e.1) (remove m n).list + cond (test x) 1 0 ≡ count_by (λ e. test e.1) m.list
  count_by-remove m n x some =
      let sum = sum_by-remove one_of m n in
      let before : value_in one_of (get m n) ≡ cond (test x) 1 0 = ap (value_in one_of) some in
      omega arith
