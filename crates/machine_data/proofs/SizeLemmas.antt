-- How many records a map has after a change, and how many of them pass a test.
use Rattle.std.proofs.Common.{sym, arith, ◌≡◌, ◌+◌, ℕ, refl, ap, ◌∙◌, cond}
use Rattle.std.specs.Prelude.{Option, Some, None, is_some}
use Rattle.std.specs.Ordering.{nat_cmp}
use Rattle.std.specs.Cmp.{nat_cmp_total}
use Rattle.std.specs.FinMap.Entries.{length-put, length_without}
use Rattle.machine_data.specs.Maps.{Records, get, empty, insert, remove, change, changed, size}

other_way : (a b c : ℕ) → a + b ≡ c → b + a ≡ c
other_way a b c total = omega arith

pub size-empty : (X : Type 0) → size (empty {X = X}) ≡ 0
unfolding size empty
size-empty X = refl

module _ {X : Type 0} where
  pub size-insert : (m : Records X) (n : ℕ) (x : X) → size (insert m n x) ≡ cond (is_some (get m n)) (size m) (size m + 1)
  unfolding size insert get
  size-insert m n x = length-put nat_cmp nat_cmp_total n x m.list m.sorted

  -- a new number
  pub size-insert_new : (m : Records X) (n : ℕ) (x : X) → get m n ≡ None → size (insert m n x) ≡ size m + 1
  size-insert_new m n x none = size-insert m n x ∙ ap (λ o. cond (is_some o) (size m) (size m + 1)) none

  -- another record of a number
  pub size-insert_same : (m : Records X) (n : ℕ) (x y : X) → get m n ≡ Some y → size (insert m n x) ≡ size m
  size-insert_same m n x y some = size-insert m n x ∙ ap (λ o. cond (is_some o) (size m) (size m + 1)) some

  pub size-remove : (m : Records X) (n : ℕ) → size (remove m n) + cond (is_some (get m n)) 1 0 ≡ size m
  unfolding size remove get
  size-remove m n = other_way _ _ _ (length_without nat_cmp nat_cmp_total n m.list m.sorted)

  pub size-remove_present : (m : Records X) (n : ℕ) (x : X) → get m n ≡ Some x → size (remove m n) + 1 ≡ size m
  size-remove_present m n x some = ap (λ k. size (remove m n) + k) (sym (ap (λ (o : Option X). cond (is_some o) 1 0) some)) ∙ size-remove m n

  size-changed : (m : Records X) (n : ℕ) (f : X → X) (o : Option X) → get m n ≡ o → size (changed m n f o) ≡ size m
  size-changed m n f None is = refl
  size-changed m n f (Some x) is = size-insert_same m n (f x) x is

  pub size-change : (m : Records X) (n : ℕ) (f : X → X) → size (change n f m) ≡ size m
  unfolding change
  size-change m n f = size-changed m n f (get m n) refl
