-- The work that is polled next is live; a test that no record passes.
use Rattle.laws_states.proofs.Rules.{[], ap, arith, below_all, Bool, Core, false, first_number, get, is_live, is_lt, is_some, is_sorted, List, list_any, live_after, nat_cmp, nat_cmp_total, nat_tests, next_polled, option_map_or, Records, refl, Some, subst, T, true, unsigned_tied, Work, ℕ, ◌&&◌, ◌∷◌, ◌≡◌}
use Rattle.std.proofs.lemmas.Cmp.{tied_itself}
use Rattle.std.specs.FinMap.Entries.{find}

not_less : (k : ℕ) → T (is_lt (nat_cmp k k)) → ⊥
not_less k h = subst T (ap (λ o. is_lt o) (tied_itself nat_cmp_total k)) h

both_of : (a b : Bool) → T (a && b) → T a × T b
both_of true b p = (tt, p)
both_of false b p = absurd p

below_apart : {X : Type 0} (k : ℕ) (es : List (ℕ × X)) (i : ℕ) → T (below_all nat_cmp k es) → is_some (find nat_cmp i es) ≡ true → i ≡ k → ⊥
below_apart k [] i h there is = absurd (cc)
below_apart k (e ∷ es) i h there is =
    let b = both_of (is_lt (nat_cmp k e.0)) (below_all nat_cmp k es) h in let less = b.0 in let rest = below_apart k es i b.1 in
    let same = unsigned_tied i e.0 in let no : k ≡ e.0 → ⊥ = λ is. not_less k (rw (← is) at less) in grind (arith, nat_tests)

live_found : (n : ℕ) (es : List (ℕ × Work)) (i : ℕ) → T (is_sorted nat_cmp es) → first_number (live_after n es) ≡ Some i →
    option_map_or is_live (find nat_cmp i es) false ≡ true
live_found n [] i sorted h = absurd (cc)
live_found n (e ∷ es) i sorted h =
    let b = both_of (below_all nat_cmp e.0 es) (is_sorted nat_cmp es) sorted in let apart = below_apart e.0 es i b.0 in
    let rest = live_found n es i b.1 in let same = unsigned_tied i e.0 in grind (arith, nat_tests)

pub polled_is_live : (n : ℕ) (s : Core) (i : ℕ) → next_polled n s ≡ Some i → option_map_or is_live (get s.works i) false ≡ true
unfolding next_polled get
polled_is_live n s i h = live_found n s.works.list i s.works.sorted h

none_found : {X : Type 0} (test : X → Bool) (es : List (ℕ × X)) → T (is_sorted nat_cmp es) →
    ((i : ℕ) (x : X) → find nat_cmp i es ≡ Some x → test x ≡ false) → list_any (λ e. test e.1) es ≡ false
none_found test [] sorted each = refl
none_found test (e ∷ es) sorted each =
    let b = both_of (below_all nat_cmp e.0 es) (is_sorted nat_cmp es) sorted in
    let head = each e.0 e.1 (let same = unsigned_tied e.0 e.0 in grind (arith, nat_tests)) in
    let rest = none_found test es b.1 (λ i x at. each i x (let apart = below_apart e.0 es i b.0 in let same = unsigned_tied i e.0 in grind (arith, nat_tests))) in
    grind arith

-- no record passes a test that none passes at its number
pub none_passes : {X : Type 0} (test : X → Bool) (m : Records X) → ((i : ℕ) (x : X) → get m i ≡ Some x → test x ≡ false) →
    list_any (λ e. test e.1) m.list ≡ false
unfolding get
none_passes test m each = none_found test m.list m.sorted each
