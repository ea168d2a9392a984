-- Handle tables: a handle that is given isn't live, and one that was freed isn't either.
use Rattle.laws_states.proofs.Rules.{[], arith, get, get-insert, get-remove, giving, insert, less_one, List, nat_tests, next_handle, None, refl, size, Some, NameTable, TableKept, taking, ℕ, ◌+◌, ◌∷◌, ◌≡◌}
use Rattle.machine_data.proofs.SizeLemmas.{size-insert_new, size-remove_present}

module _ {X : Type 0} where
  -- the next handle isn't live
  next_free : (t : NameTable X) (fs : List ℕ) → t.freed ≡ fs → TableKept t → get t.live (next_handle t fs) ≡ None
  next_free t [] e q = let h = q.live (size t.live + 1) in grind arith
  next_free t (h ∷ hs) e q = let f = q.freed h in grind (arith, nat_tests)

  pub next_dead : (t : NameTable X) → TableKept t → get t.live (next_handle t t.freed) ≡ None
  next_dead t q = next_free t t.freed refl q

  given_kept : (x : X) (t : NameTable X) (fs : List ℕ) → t.freed ≡ fs → TableKept t → get t.live (next_handle t fs) ≡ None →
      TableKept (record { live = insert t.live (next_handle t fs) x; freed = less_one fs })
  given_kept x t [] e q dead = let s = size-insert_new t.live (size t.live + 1) x dead in record {
    live = λ h there. grind (arith, nat_tests, get-insert, q.live h);
    freed = λ h l. grind arith;
    once = λ h. grind arith;
  }
  given_kept x t (g ∷ gs) e q dead = let s = size-insert_new t.live g x dead in record {
    live = λ h there. grind (arith, nat_tests, get-insert, q.live h, q.freed g);
    freed = λ h l. grind (arith, nat_tests, get-insert, q.freed h, q.once h);
    once = λ h. grind (arith, q.once h);
  }

  pub giving_kept : (x : X) (t : NameTable X) → TableKept t → TableKept (giving x t)
  giving_kept x t q = given_kept x t t.freed refl q (next_dead t q)

  -- a live handle is taken back
  pub taking_kept : (g : ℕ) (t : NameTable X) (x : X) → get t.live g ≡ Some x → TableKept t → TableKept (taking g t)
  taking_kept g t x live q = let s = size-remove_present t.live g x live in record {
    live = λ h there. grind (arith, nat_tests, get-remove, q.live h);
    freed = λ h l. grind (arith, nat_tests, get-remove, q.live g, q.freed h);
    once = λ h. grind (arith, nat_tests, q.freed g, q.once h);
  }
