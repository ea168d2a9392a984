-- The calls in a scope stay beside the stages of their requests.
use Rattle.serve_requests.proofs.ListLemmas.{bit}
use Rattle.serve_requests.specs.Pairs.{ArePairs, IsPair, is_begun}
use Rattle.serve_requests.specs.Serving.{is_open}
use Rattle.serve_requests.specs.declared.request.Stage.{Stage}
use Rattle.serve_requests.specs.declared.request.Stage.TheVariants.{Answered, Declined, Open, Refused, Waits}
use Rattle.serve_requests.specs.HowMany.{how_many}
use Rattle.std.proofs.Common.{ap, arith, refl, subst, sym}
use Rattle.std.specs.Prelude.{Bool, List, None, Option, Some, [], false, is_some, length, slice_get, slice_set, suc, zero, ℕ, ◌++◌, ◌∷◌, ◌≡◌}

none_of : (es : List Stage) (i j : ℕ) (new e : Stage) → ((k : ℕ) (d : Stage) → slice_get es k ≡ Some d → is_begun d ≡ false) → is_begun new ≡ false → slice_get (slice_set es i new) j ≡ Some e → is_begun e ≡ false
none_of [] i j new e none fresh at = absurd (cc)
none_of (d ∷ es) zero zero new e none fresh at = let same : new ≡ e = cc in subst (λ (x : Stage). is_begun x ≡ false) same fresh
none_of (d ∷ es) zero (suc j) new e none fresh at = none (suc j) e at
none_of (d ∷ es) (suc i) zero new e none fresh at = none zero e at
none_of (d ∷ es) (suc i) (suc j) new e none fresh at = none_of es i j new e (λ k x there. none (suc k) x there) fresh at

open_none : (es : List Stage) → ((k : ℕ) (d : Stage) → slice_get es k ≡ Some d → is_begun d ≡ false) → how_many is_open es ≡ 0
open_none [] none = refl
open_none (Waits ∷ es) none = let rest = open_none es (λ k d at. none (suc k) d at) in omega (arith, rest)
open_none (Open n ∷ es) none = absurd (let bad = none 0 (Open n) refl in cc)
open_none (Declined why ∷ es) none = let rest = open_none es (λ k d at. none (suc k) d at) in omega (arith, rest)
open_none (Answered n v ∷ es) none = absurd (let bad = none 0 (Answered n v) refl in cc)
open_none (Refused why ∷ es) none = let rest = open_none es (λ k d at. none (suc k) d at) in omega (arith, rest)

module _ {K : Type 0} (thread : K → Option ℕ) where
  abbrev runs : K → Bool
  runs k = is_some (thread k)

  pub pair_at : (ks : List K) (es : List Stage) (i : ℕ) (k : K) → ArePairs thread ks es → slice_get ks i ≡ Some k → (e : Stage) × (slice_get es i ≡ Some e) × IsPair thread k e
  pair_at [] es i k pairs at = absurd (cc)
  pair_at (x ∷ ks) [] i k pairs at = absurd pairs
  pair_at (x ∷ ks) (e ∷ es) zero k pairs at = let same : x ≡ k = cc in (e, refl, subst (λ (y : K). IsPair thread y e) same pairs.0)
  pair_at (x ∷ ks) (e ∷ es) (suc i) k pairs at = pair_at ks es i k pairs.1 at

  -- an open call has a request that is open
  pub open_stage : (k : K) (n : ℕ) (e : Stage) → thread k ≡ Some n → IsPair thread k e → e ≡ Open n
  open_stage k n Waits is pair = absurd pair
  open_stage k n (Open m) is pair = let same : m ≡ n = cc in ap (λ (j : ℕ). Open j) same
  open_stage k n (Declined why) is pair = absurd pair
  open_stage k n (Answered m v) is pair = absurd (cc)
  open_stage k n (Refused why) is pair = absurd pair

  -- the call of a request that is open
  pub open_at : (ks : List K) (es : List Stage) (i n : ℕ) → ArePairs thread ks es → slice_get es i ≡ Some (Open n) → (k : K) × (slice_get ks i ≡ Some k) × (thread k ≡ Some n)
  open_at [] es i n pairs at = absurd (let bad = pairs i (Open n) at in cc)
  open_at (x ∷ ks) [] i n pairs at = absurd pairs
  open_at (x ∷ ks) (e ∷ es) zero n pairs at = let same : e ≡ Open n = cc in (x, refl, subst (λ (d : Stage). IsPair thread x d) same pairs.0)
  open_at (x ∷ ks) (e ∷ es) (suc i) n pairs at = open_at ks es i n pairs.1 at

  pub pairs_end : (ks : List K) (es : List Stage) (i : ℕ) (k l : K) (n v : ℕ) → ArePairs thread ks es → slice_get ks i ≡ Some k → thread l ≡ None → ArePairs thread (slice_set ks i l) (slice_set es i (Answered n v))
  pairs_end [] es i k l n v pairs at none = absurd (cc)
  pairs_end (x ∷ ks) [] i k l n v pairs at none = absurd pairs
  pairs_end (x ∷ ks) (e ∷ es) zero k l n v pairs at none = (none, pairs.1)
  pairs_end (x ∷ ks) (e ∷ es) (suc i) k l n v pairs at none = (pairs.0, pairs_end ks es i k l n v pairs.1 at none)

  pub pairs_add : (ks : List K) (es : List Stage) (k : K) (n : ℕ) (old : Stage) → ArePairs thread ks es → slice_get es (length ks) ≡ Some old → thread k ≡ Some n → ArePairs thread (ks ++ k ∷ []) (slice_set es (length ks) (Open n))
  pairs_add [] [] k n old pairs at is = absurd (cc)
  pairs_add [] (e ∷ es) k n old pairs at is = (is, λ i d there. pairs (suc i) d there)
  pairs_add (x ∷ ks) [] k n old pairs at is = absurd pairs
  pairs_add (x ∷ ks) (e ∷ es) k n old pairs at is = (pairs.0, pairs_add ks es k n old pairs.1 at is)

  no_pair : (k : K) (e : Stage) → is_begun e ≡ false → IsPair thread k e → ⊥
  no_pair k Waits fresh pair = pair
  no_pair k (Open n) fresh pair = absurd (cc)
  no_pair k (Declined why) fresh pair = pair
  no_pair k (Answered n v) fresh pair = absurd (cc)
  no_pair k (Refused why) fresh pair = pair

  pub pairs_same : (ks : List K) (es : List Stage) (i : ℕ) (old new : Stage) → ArePairs thread ks es → slice_get es i ≡ Some old → is_begun old ≡ false → is_begun new ≡ false → ArePairs thread ks (slice_set es i new)
  pairs_same [] es i old new pairs at before after = λ j e there. none_of es i j new e pairs after there
  pairs_same (x ∷ ks) [] i old new pairs at before after = absurd pairs
  pairs_same (x ∷ ks) (e ∷ es) zero old new pairs at before after =
      let same : e ≡ old = cc in absurd (no_pair x old before (subst (λ (d : Stage). IsPair thread x d) same pairs.0))
  pairs_same (x ∷ ks) (e ∷ es) (suc i) old new pairs at before after = (pairs.0, pairs_same ks es i old new pairs.1 at before after)

  -- the one that is open runs, and no other
  pair_counts : (k : K) (e : Stage) → IsPair thread k e → runs k ≡ is_open e
  pair_counts k Waits pair = absurd pair
  pair_counts k (Open n) pair = ap is_some pair
  pair_counts k (Declined why) pair = absurd pair
  pair_counts k (Answered n v) pair = ap is_some pair
  pair_counts k (Refused why) pair = absurd pair

  pub as_many_open : (ks : List K) (es : List Stage) → ArePairs thread ks es → how_many (λ k. is_some (thread k)) ks ≡ how_many is_open es
  as_many_open [] es pairs = sym (open_none es pairs)
  as_many_open (k ∷ ks) [] pairs = absurd pairs
  as_many_open (k ∷ ks) (e ∷ es) pairs =
      let here = ap bit (pair_counts k e pairs.0) in
      let rest = as_many_open ks es pairs.1 in
      omega (arith, here, rest)
