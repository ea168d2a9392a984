-- The first choice of an offer, and offers that only it fits.
use Rattle.laws_choices.specs.Offer.{Chosen, ClosedHasOne, FirstFits, first_of, has_two, is_one_of}
use Rattle.std.proofs.Common.{ap, arith, refl, ◌∙◌}
use Rattle.std.proofs.lemmas.Bool.Decides.{nat_tests}
use Rattle.std.proofs.lemmas.List.{nil_from_length}
use Rattle.std.proofs.lemmas.List.Elements.{All-cons, All-head, All-nil}
use Rattle.std.proofs.lemmas.List.Sorted.{All-permutation, IsPermutation-refl, length_permutation}
use Rattle.std.specs.List.{All}
use Rattle.std.specs.Prelude.{IsPermutation, List, None, Option, Some, [], false, length, true, ℕ, ◌∷◌, ◌≡◌}

first_one : (ns : List ℕ) → is_one_of ns (first_of ns) ≡ true
first_one [] = refl
first_one (n ∷ ns) = grind (arith, nat_tests)

pub first_fits : FirstFits
first_fits o = record { waiter = first_one o.waiters; member = first_one o.members; release = IsPermutation-refl o.held }

one_alone : (ns : List ℕ) (w : Option ℕ) → has_two ns ≡ false → is_one_of ns w ≡ true → w ≡ first_of ns
one_alone [] None h f = refl
one_alone [] (Some n) h f = absurd (grind arith)
one_alone (a ∷ []) None h f = absurd (grind arith)
one_alone (a ∷ []) (Some n) h f = grind (arith, nat_tests)
one_alone (a ∷ b ∷ ns) w h f = absurd (grind arith)

single : (a : ℕ) (ms : List ℕ) → length ms ≡ 1 → All (λ m. m ≡ a) ms → ms ≡ a ∷ []
single a [] e all = absurd (grind arith)
single a (m ∷ []) e all = ap (λ q. q ∷ []) (All-head (λ m. m ≡ a) m [] all)
single a (m ∷ q ∷ ms) e all = absurd (grind arith)

order_alone : (ns ms : List ℕ) → has_two ns ≡ false → IsPermutation ns ms → ms ≡ ns
order_alone [] ms h p = nil_from_length ms (length_permutation [] ms p)
order_alone (a ∷ []) ms h p =
    single a ms (length_permutation (a ∷ []) ms p) (All-permutation (λ m. m ≡ a) (a ∷ []) ms p (All-cons (λ m. m ≡ a) a [] refl (All-nil (λ m. m ≡ a))))
order_alone (a ∷ b ∷ ns) ms h p = absurd (grind arith)

abbrev pub choosing_all : Option ℕ → Option ℕ → List ℕ → Chosen
choosing_all w m r = record { waiter = w; member = m; release = r }

pub closed_has_one : ClosedHasOne
closed_has_one o closed c fit =
    let waiter = one_alone o.waiters c.waiter (grind arith) fit.waiter in
    let member = one_alone o.members c.member (grind arith) fit.member in
    let release = order_alone o.held c.release (grind arith) fit.release in
    ap (λ (w : Option ℕ). choosing_all w c.member c.release) waiter
    ∙ (ap (λ (m : Option ℕ). choosing_all (first_of o.waiters) m c.release) member ∙ ap (λ (r : List ℕ). choosing_all (first_of o.waiters) (first_of o.members) r) release)
