-- What each record of a map keeps where one record is changed, made or taken away.
use Rattle.laws_states.proofs.Rules.{Bool, change, cond, false, get, get-change, get-insert, get-remove, insert, is_eq_of, None, not_eq, Option, option_map, Records, refl, remove, Some, true, ℕ, ◌==◌, ◌≡◌}

pub at_test : (n k : ℕ) (P : Bool → Type 0) → (n ≡ k → P true) → ((n ≡ k → ⊥) → P false) → P (n == k)
at_test n k P own rest = go (n == k) refl
  where
    go : (b : Bool) → (n == k) ≡ b → P b
    go true e = own (is_eq_of n k e)
    go false e = rest (not_eq n k e)

module _ {X : Type 0} (P : Option X → Option X → Type 0) (m : Records X) (k n : ℕ) where
  pub at_insert : (x : X) → (n ≡ k → P (get m n) (Some x)) → ((n ≡ k → ⊥) → P (get m n) (get m n)) → P (get m n) (get (insert m k x) n)
  at_insert x own rest = rw get-insert (at_test n k (λ b. P (get m n) (cond b (Some x) (get m n))) own rest)

  pub at_change : (f : X → X) → (n ≡ k → P (get m n) (option_map f (get m n))) → ((n ≡ k → ⊥) → P (get m n) (get m n)) →
      P (get m n) (get (change k f m) n)
  at_change f own rest = let o = get m n in rw get-change (at_test n k (λ b. P o (cond b (option_map f o) o)) own rest)

  -- what is so of each record that stays, and of the one that the change is about
  module _ (stays : (o : Option X) → P o o) where
    pub after_insert : (x : X) → (n ≡ k → P (get m n) (Some x)) → P (get m n) (get (insert m k x) n)
    after_insert x own = at_insert x own (λ e. stays (get m n))

    pub after_remove : (n ≡ k → P (get m n) None) → P (get m n) (get (remove m k) n)
    after_remove own = rw get-remove (at_test n k (λ b. P (get m n) (cond b None (get m n))) own (λ e. stays (get m n)))

    pub after_change : (f : X → X) → ((x : X) → get m n ≡ Some x → n ≡ k → P (Some x) (Some (f x))) → P (get m n) (get (change k f m) n)
    after_change f own = at_change f (λ e. go (get m n) refl e) (λ e. stays (get m n))
      where
        go : (o : Option X) → get m n ≡ o → n ≡ k → P o (option_map f o)
        go None is e = stays None
        go (Some x) is e = own x is e
