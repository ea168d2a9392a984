-- When two changes of a map are one, or may be made in either order.
use Rattle.std.proofs.Common.{arith, ◌≡◌, ◌≢◌, ℕ, refl, ◌∙◌, cond}
use Rattle.std.proofs.lemmas.Bool.Decides.{nat_tests}
use Rattle.std.specs.Prelude.{Option, Some, None, ◌==◌, option_map}
use Rattle.machine_data.specs.Maps.{Records, get, insert, remove, change, changed, get-insert, get-remove, same_map}

get-changed : {X : Type 0} (m : Records X) (n : ℕ) (f : X → X) (o : Option X) (q : ℕ) → get m n ≡ o → get (changed m n f o) q ≡ cond (q == n) (option_map f (get m q)) (get m q)
get-changed m n f None q is = grind (arith, nat_tests)
get-changed m n f (Some x) q is = get-insert m n (f x) q ∙ grind (arith, nat_tests)

-- what a changed map has under each number
pub get-change : {X : Type 0} (n : ℕ) (f : X → X) (m : Records X) (q : ℕ) → get (change n f m) q ≡ cond (q == n) (option_map f (get m q)) (get m q)
unfolding change
get-change n f m q = get-changed m n f (get m n) q refl

module _ {X : Type 0} (m : Records X) where
  pub insert-insert_same : (n : ℕ) (x y : X) → insert (insert m n x) n y ≡ insert m n y
  insert-insert_same n x y = same_map _ _ (λ q. grind (arith, nat_tests, get-insert))

  pub insert-insert_other : (n k : ℕ) (x y : X) → n ≢ k → insert (insert m n x) k y ≡ insert (insert m k y) n x
  insert-insert_other n k x y differs = same_map _ _ (λ q. grind (arith, nat_tests, get-insert))

  -- without a record of n nothing is taken out
  pub remove-absent : (n : ℕ) → get m n ≡ None → remove m n ≡ m
  remove-absent n none = same_map _ _ (λ q. grind (arith, nat_tests, get-remove))

  -- the record that is there is written
  pub insert-present : (n : ℕ) (x : X) → get m n ≡ Some x → insert m n x ≡ m
  insert-present n x some = same_map _ _ (λ q. grind (arith, nat_tests, get-insert))

  -- changes of records
  pub change-change_same : (n : ℕ) (f g : X → X) → change n f (change n g m) ≡ change n (λ x. f (g x)) m
  change-change_same n f g = same_map _ _ (λ q. grind (arith, nat_tests, get-change))

  pub remove-change_same : (n : ℕ) (f : X → X) → remove (change n f m) n ≡ remove m n
  remove-change_same n f = same_map _ _ (λ q. grind (arith, nat_tests, get-change, get-remove))
