-- What a map has after a change of one record, and when two changes are one.
use Rattle.std.proofs.Common.{arith, ◌≡◌, ◌≢◌, ℕ, refl, sym, ap, ◌∙◌, Bool, true, false, cond, T, subst, eqb→eq}
use Rattle.std.specs.Prelude.{Option, Some, None, ◌==◌, option_map}
use Rattle.machine_data.specs.Maps.{Records, change, changed, get, insert, remove, get-insert, get-remove, same_map}

same_number : (n : ℕ) → (n == n) ≡ true
same_number n = grind arith

other_number : (n q : ℕ) → q ≢ n → (q == n) ≡ false
other_number n q h = go (q == n) refl
  where
    go : (b : Bool) → (q == n) ≡ b → (q == n) ≡ false
    go true e = absurd (h (eqb→eq q n (subst T (sym e) tt)))
    go false e = e

module _ {X : Type 0} (m : Records X) (n : ℕ) where
  pub get-insert_same : (x : X) → get (insert m n x) n ≡ Some x
  get-insert_same x = get-insert m n x n ∙ ap (λ b. cond b (Some x) (get m n)) (same_number n)

  pub get-insert_other : (x : X) (q : ℕ) → q ≢ n → get (insert m n x) q ≡ get m q
  get-insert_other x q h = get-insert m n x q ∙ ap (λ b. cond b (Some x) (get m q)) (other_number n q h)

  pub get-remove_same : get (remove m n) n ≡ None
  get-remove_same = get-remove m n n ∙ ap (λ b. cond b None (get m n)) (same_number n)

  pub get-remove_other : (q : ℕ) → q ≢ n → get (remove m n) q ≡ get m q
  get-remove_other q h = get-remove m n q ∙ ap (λ b. cond b None (get m q)) (other_number n q h)

  -- a record that was read and is written again, changed
  pub insert_is_change : (f : X → X) (x : X) → get m n ≡ Some x → insert m n (f x) ≡ change n f m
  unfolding change
  insert_is_change f x h = rw h refl

  -- without a record of n nothing is changed
  pub change-absent : (f : X → X) → get m n ≡ None → change n f m ≡ m
  unfolding change
  change-absent f h = rw h refl

  changed-same : (f : X → X) (o : Option X) → get m n ≡ o → get (changed m n f o) n ≡ option_map f o
  changed-same f None e = e
  changed-same f (Some x) e = get-insert_same (f x)

  changed-other : (f : X → X) (q : ℕ) (o : Option X) → q ≢ n → get (changed m n f o) q ≡ get m q
  changed-other f q None h = refl
  changed-other f q (Some x) h = get-insert_other (f x) q h

  pub get-change_same : (f : X → X) → get (change n f m) n ≡ option_map f (get m n)
  unfolding change
  get-change_same f = changed-same f (get m n) refl

  -- one record is changed, and the others are left alone
  pub get-change_other : (f : X → X) (q : ℕ) → q ≢ n → get (change n f m) q ≡ get m q
  unfolding change
  get-change_other f q h = changed-other f q (get m n) h

pub same_records : {X : Type 0} (m k : Records X) → ((q : ℕ) → get m q ≡ get k q) → m ≡ k
same_records m k h = same_map m k h

module _ {X Y : Type 0} (g : X → Y) (n : ℕ) (f : X → X) (keeps : (x : X) → g (f x) ≡ g x) where
  changed-field : (m : Records X) (q : ℕ) (o : Option X) → get m n ≡ o → (b : Bool) → (q == n) ≡ b → option_map g (get (changed m n f o) q) ≡ option_map g (get m q)
  changed-field m q None is b e = refl
  changed-field m q (Some x) is true e =
      let same : q ≡ n = eqb→eq q n (subst T (sym e) tt) in
      ap (option_map g) (get-insert m n (f x) q ∙ ap (λ c. cond c (Some (f x)) (get m q)) e) ∙ (ap (λ (y : Y). Some y) (keeps x) ∙ (ap (option_map g) (sym is) ∙ ap (λ k. option_map g (get m k)) (sym same)))
  changed-field m q (Some x) is false e = ap (option_map g) (get-insert m n (f x) q ∙ ap (λ c. cond c (Some (f x)) (get m q)) e)

  -- a field that the change leaves alone is the same at each number
  pub change-field : (m : Records X) (q : ℕ) → option_map g (get (change n f m) q) ≡ option_map g (get m q)
  unfolding change
  change-field m q = changed-field m q (get m n) refl (q == n) refl
