-- Numbers of spawns, which rise.
use Rattle.beside_main.specs.Calls.{GrowsBy, IsPlaceOf, IsRising}
use Rattle.laws_beside.specs.Own.{if_same}
use Rattle.beside_main.proofs.CallLemmas.{same_apart, same_here}
use Rattle.beside_main.specs.Calls.{on_last, on_place}
use Rattle.machine_data.specs.Core.{MainPlace}
use Rattle.machine_rules.specs.MainOps.{spawned_at}
use Rattle.std.proofs.Common.{ap, arith, get_or, inl, inr, length, refl, subst, sym, ⊎_elim, ◌∙◌}
use Rattle.std.proofs.lemmas.List.Sorted.{searched}
use Rattle.std.proofs.lemmas.Option.{get_or_from_slice_get, same_Some, slice_get-get_or, slice_get_past}
use Rattle.std.specs.List.Sorted.{IsBinarySearchResult}
use Rattle.std.specs.Ordering.{nat_cmp}
use Rattle.std.specs.Prelude.{Err, List, None, Ok, Option, Some, [], slice_get, suc, unwrap_or, zero, ℕ, ◌++◌, ◌+◌, ◌-◌, ◌<◌, ◌∷◌, ◌≡◌, ◌≤◌, ◌⊎◌}
use Rattle.task_abort.specs.declared.log.PhaseCall.{PhaseCall}

pub rising_above : (n : ℕ) (ms : List ℕ) (last p x : ℕ) → IsRising n ms last → slice_get ms p ≡ Some x → n < x
rising_above n [] last p x rises at = absurd (cc)
rising_above n (m ∷ ms) last zero x rises at = let same = same_Some _ _ at in let less = rises.0 in omega (arith, same, less)
rising_above n (m ∷ ms) last (suc p) x rises at = let less = rises.0 in let rest = rising_above m ms last p x rises.1 at in omega (arith, less, rest)

rising_apart : (n : ℕ) (ms : List ℕ) (last p q x : ℕ) → IsRising n ms last → slice_get ms p ≡ Some x → slice_get ms q ≡ Some x → q ≡ p
rising_apart n [] last p q x rises at here = absurd (cc)
rising_apart n (m ∷ ms) last zero zero x rises at here = refl
rising_apart n (m ∷ ms) last zero (suc q) x rises at here = let same = same_Some _ _ at in let above = rising_above m ms last q x rises.1 here in absurd (omega (arith, same, above))
rising_apart n (m ∷ ms) last (suc p) zero x rises at here = let same = same_Some _ _ here in let above = rising_above m ms last p x rises.1 at in absurd (omega (arith, same, above))
rising_apart n (m ∷ ms) last (suc p) (suc q) x rises at here = ap suc (rising_apart m ms last p q x rises.1 at here)

rising_all : (n : ℕ) (ms : List ℕ) (last i : ℕ) → IsRising n ms last → i < length ms → n < get_or ms i 0
rising_all n [] last i rises lt = absurd (omega (arith, lt))
rising_all n (m ∷ ms) last zero rises lt = rises.0
rising_all n (m ∷ ms) last (suc i) rises lt = let less = rises.0 in let rest = rising_all m ms last i rises.1 (omega (arith, lt)) in omega (arith, less, rest)

rising_steps : (n : ℕ) (ms : List ℕ) (last i j : ℕ) → IsRising n ms last → i ≤ j → j < length ms → get_or ms i 0 ≤ get_or ms j 0
rising_steps n [] last i j rises le lt = absurd (omega (arith, lt))
rising_steps n (m ∷ ms) last zero zero rises le lt = omega arith
rising_steps n (m ∷ ms) last zero (suc j) rises le lt = let rest = rising_all m ms last j rises.1 (omega (arith, lt)) in omega (arith, rest)
rising_steps n (m ∷ ms) last (suc i) zero rises le lt = absurd (omega (arith, le))
rising_steps n (m ∷ ms) last (suc i) (suc j) rises le lt = rising_steps m ms last i j rises.1 (omega (arith, le)) (omega (arith, lt))

-- ---- Where a number is

pub place_found : (ms : List ℕ) (i last p : ℕ) → IsBinarySearchResult (λ y. nat_cmp y i) ms (Ok p) → IsRising 0 ms last → IsPlaceOf i (Some p) ms
place_found ms i last p is rises =
    let found = searched ms i (Ok p) is (λ k j le lt. rising_steps 0 ms last k j rises le lt) in
    let at : slice_get ms p ≡ Some i = slice_get-get_or ms p 0 found.0 ∙ ap (λ (n : ℕ). Some n) found.1 in
    (at, λ q here. rising_apart 0 ms last p q i rises at here)

within : (ms : List ℕ) (p x : ℕ) → slice_get ms p ≡ Some x → p < length ms
within [] p x at = absurd (cc)
within (m ∷ ms) zero x at = omega arith
within (m ∷ ms) (suc p) x at = let rest = within ms p x at in omega (arith, rest)

pub place_none : (ms : List ℕ) (i last k : ℕ) → IsBinarySearchResult (λ y. nat_cmp y i) ms (Err k) → IsRising 0 ms last → IsPlaceOf i None ms
place_none ms i last k is rises p at =
    let found = searched ms i (Err k) is (λ a b le lt. rising_steps 0 ms last a b rises le lt) in
    let here : get_or ms p 0 ≡ i = get_or_from_slice_get ms p i 0 at in
    ⊎_elim (λ (lt : p < k). let less = found.1 p lt in absurd (omega (arith, less, here))) (λ (le : k ≤ p). let more = found.2 p le (within ms p i at) in absurd (omega (arith, more, here))) (or_less p k)
  where
    or_less : (a b : ℕ) → (a < b) ⊎ (b ≤ a)
    or_less zero zero = inr (omega arith)
    or_less zero (suc b) = inl (omega arith)
    or_less (suc a) zero = inr (omega arith)
    or_less (suc a) (suc b) = ⊎_elim (λ lt. inl (omega (arith, lt))) (λ le. inr (omega (arith, le))) (or_less a b)

is_same : (a b : ℕ) → (a ≡ b) ⊎ (a ≡ b → ⊥)
is_same zero zero = inl refl
is_same zero (suc b) = inr (λ same. absurd (omega (arith, same)))
is_same (suc a) zero = inr (λ same. absurd (omega (arith, same)))
is_same (suc a) (suc b) = ⊎_elim (λ same. inl (ap suc same)) (λ never. inr (λ same. never (omega (arith, same)))) (is_same a b)

-- where the place isn't that of spawn k
place_apart : (ns : List ℕ) (i q k : ℕ) (o : Option ℕ) → slice_get ns (k - 1) ≡ o → slice_get ns q ≡ Some i → (o ≡ Some i → ⊥) → q + 1 ≡ k → ⊥
place_apart ns i q k o at found never same = never (sym at ∙ (ap (slice_get ns) (omega (arith, same)) ∙ found))

none_some : (i : ℕ) → None ≡ Some i → ⊥
none_some i is = absurd (cc)

read_calls : (ns : List ℕ) (i k : ℕ) (calls : List PhaseCall) → 0 < i → 1 ≤ k → (o q : Option ℕ) → slice_get ns (k - 1) ≡ q → IsPlaceOf i o ns → if_same i (unwrap_or q 0) calls ≡ on_last o calls k
read_calls ns i k calls some one None None at none = same_apart i 0 calls (λ same. absurd (omega (arith, same, some)))
read_calls ns i k calls some one None (Some j) at none = same_apart i j calls (λ same. none (k - 1) (at ∙ ap (λ (n : ℕ). Some n) (sym same)))
read_calls ns i k calls some one (Some p) None at found =
    same_apart i 0 calls (λ same. absurd (omega (arith, same, some))) ∙ sym (same_apart (p + 1) k calls (place_apart ns i p k None at found.0 (none_some i)))
read_calls ns i k calls some one (Some p) (Some j) at found = ⊎_elim here apart (is_same i j)
  where
    here : i ≡ j → if_same i j calls ≡ on_place p calls k
    here same =
        let place : k - 1 ≡ p = found.1 (k - 1) (at ∙ ap (λ (n : ℕ). Some n) (sym same)) in
        let spawn : p + 1 ≡ k = omega (arith, place, one) in
        subst (λ (n : ℕ). if_same i n calls ≡ calls) same (same_here i calls) ∙ subst (λ (n : ℕ). calls ≡ if_same (p + 1) n calls) spawn (sym (same_here (p + 1) calls))

    apart : (i ≡ j → ⊥) → if_same i j calls ≡ on_place p calls k
    apart never = same_apart i j calls never ∙ sym (same_apart (p + 1) k calls (place_apart ns i p k (Some j) at found.0 (λ both. never (sym (same_Some _ _ both)))))

-- so the calls on the spawn with this number are those on its place
pub place_calls : (p : MainPlace) (i : ℕ) (o : Option ℕ) (k : ℕ) (calls : List PhaseCall) → 0 < i → IsPlaceOf i o p.spawns → 1 ≤ k → if_same i (spawned_at p k) calls ≡ on_last o calls k
place_calls p i o k calls some is one = read_calls p.spawns i k calls some one o (slice_get p.spawns (k - 1)) refl is

-- ---- One spawn more

pub rising_last : (n : ℕ) (ms : List ℕ) (last more : ℕ) → last ≤ more → IsRising n ms last → IsRising n ms more
rising_last n [] last more le rises = omega (arith, rises, le)
rising_last n (m ∷ ms) last more le rises = (rises.0, rising_last m ms last more le rises.1)

pub rising_more : (n : ℕ) (ms : List ℕ) (last x more : ℕ) → last < x → x ≤ more → IsRising n ms last → IsRising n (ms ++ x ∷ []) more
rising_more n [] last x more lt le rises = (omega (arith, rises, lt), le)
rising_more n (m ∷ ms) last x more lt le rises = (rises.0, rising_more m ms last x more lt le rises.1)

at_end : (ms : List ℕ) (n : ℕ) → slice_get (ms ++ n ∷ []) (length ms) ≡ Some n
at_end [] n = refl
at_end (m ∷ ms) n = at_end ms n

-- none is behind them, so none was added
pub none_added : (ms ns : List ℕ) → GrowsBy ms ns → slice_get ns (length ms) ≡ None → ns ≡ ms
none_added ms ns (inl same) none = same
none_added ms ns (inr (n, is)) none = let gone : None ≡ Some n = sym none ∙ (ap (λ (ks : List ℕ). slice_get ks (length ms)) is ∙ at_end ms n) in absurd (cc)

-- one is behind them, and it was added
pub one_added : (ms ns : List ℕ) (x : ℕ) → GrowsBy ms ns → slice_get ns (length ms) ≡ Some x → ns ≡ ms ++ x ∷ []
one_added ms ns x (inl same) at =
    let gone : None ≡ Some x = sym (slice_get_past ms (length ms) (omega arith)) ∙ (ap (λ (ks : List ℕ). slice_get ks (length ms)) (sym same) ∙ at) in absurd (cc)
one_added ms ns x (inr (n, is)) at =
    let same : n ≡ x = same_Some _ _ (sym (at_end ms n) ∙ (ap (λ (ks : List ℕ). slice_get ks (length ms)) (sym is) ∙ at)) in
    is ∙ ap (λ (k : ℕ). ms ++ k ∷ []) same
