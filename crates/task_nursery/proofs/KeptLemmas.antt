-- What stays of children.
use Rattle.std.proofs.Common.{ap, arith, drop, drop-cons, get_or, inl, inr, refl, subst, sym, ⊎_elim, ◌∙◌, ◌<◌, ◌≤◌}
use Rattle.std.specs.Prelude.{List, None, Option, Some, [], false, if◌then◌else◌, length, slice_get, slice_set, suc, true, zero, ℕ, ◌+◌, ◌++◌, ◌-◌, ◌∷◌, ◌≡◌, ◌⊎◌}
use Rattle.machine_data.specs.Core.{Core}
use Rattle.task_nursery.specs.Children.{WasSpawned, aborted_by, ended, has_ended, is_open, is_open_call, left_by}
use Rattle.task_nursery.specs.Later.{was_later}
use Rattle.task_nursery.specs.Numbers.{numbered, numbers_where}
use Rattle.task_nursery.specs.Scope.{AreOf, all_aborted, aborted_at, those_aborted}
use Rattle.task_nursery.specs.declared.children.Kept.{Kept}
use Rattle.task_nursery.specs.declared.children.Kept.TheVariants as kept
use Rattle.ops_turns.specs.Later.{WorksLast}
use Rattle.core_primitives.specs.StateView.{StateView, on_core}
use Rattle.task_loop.proofs.LastLemmas.{abort_last, finish_last, one_more}
use Rattle.task_nursery.proofs.NumberLemmas.{numbered_from}
use Rattle.ops_turns.proofs.LaterLemmas.{last_same}

pub ended_is_open : (s : Core) (k : Kept) → has_ended s k ≡ true → is_open k ≡ true
ended_is_open s (kept.Call f call) h = refl
ended_is_open s (kept.Work work) h = refl
ended_is_open s (kept.Returned v) h = absurd (cc)
ended_is_open s kept.Ended h = absurd (cc)

pub ended_is_closed : (s : Core) (k : Kept) → is_open (ended s k) ≡ false
ended_is_closed s (kept.Call f call) = refl
ended_is_closed s (kept.Work work) = refl
ended_is_closed s (kept.Returned v) = refl
ended_is_closed s kept.Ended = refl

pub ended_is_no_call : (s : Core) (k : Kept) → is_open_call (ended s k) ≡ false
ended_is_no_call s (kept.Call f call) = refl
ended_is_no_call s (kept.Work work) = refl
ended_is_no_call s (kept.Returned v) = refl
ended_is_no_call s kept.Ended = refl

pub are_later : (ks : List Kept) (s t : StateView) → WorksLast s t → AreOf ks s → AreOf ks t
are_later ks s t last are i k at = was_later k s t last (are i k at)

pub are_more : (ks : List Kept) (k : Kept) (s t : StateView) → WorksLast s t → AreOf ks s → WasSpawned k t → AreOf (ks ++ k ∷ []) t
are_more ks k s t last are was i q at =
    ⊎_elim (λ old. was_later q s t last (are i q old)) (λ same. subst (λ (p : Kept). WasSpawned p t) same was) (one_more ks k q i at)

one_set : {A : Type 0} (xs : List A) (j : ℕ) (x y : A) (i : ℕ) → slice_get (slice_set xs j x) i ≡ Some y → (slice_get xs i ≡ Some y) ⊎ (x ≡ y)
one_set [] j x y i at = inl at
one_set (z ∷ zs) zero x y zero at = inr (cc)
one_set (z ∷ zs) zero x y (suc i) at = inl at
one_set (z ∷ zs) (suc j) x y zero at = inl at
one_set (z ∷ zs) (suc j) x y (suc i) at = one_set zs j x y i at

was_ended : (k : Kept) (s : Core) (t : StateView) → WasSpawned (ended s k) t
was_ended (kept.Call f call) s t = tt
was_ended (kept.Work work) s t = tt
was_ended (kept.Returned v) s t = tt
was_ended kept.Ended s t = tt

left_last : (k : Kept) (s : StateView) → WorksLast s (on_core (left_by k) s)
left_last (kept.Call f call) s = finish_last call.thread s
left_last (kept.Work work) s = last_same s s refl
left_last (kept.Returned v) s = last_same s s refl
left_last kept.Ended s = last_same s s refl

-- those of which one was ended
pub are_set : (ks : List Kept) (j : ℕ) (k : Kept) (s t : StateView) → t ≡ on_core (left_by k) s → AreOf ks s → AreOf (slice_set ks j (ended s.core k)) t
are_set ks j k s t is are i q at =
    let last = subst (λ (u : StateView). WorksLast s u) (sym is) (left_last k s) in
    ⊎_elim (λ old. was_later q s t last (are i q old)) (λ same. subst (λ (p : Kept). WasSpawned p t) same (was_ended k s.core t)) (one_set ks j (ended s.core k) q i at)

-- ---- Aborts

pub aborted_last : (k : Kept) (s : StateView) → WorksLast s (on_core (aborted_by k) s)
aborted_last (kept.Work work) s = abort_last work.number s
aborted_last (kept.Call f call) s = last_same s s refl
aborted_last (kept.Returned v) s = last_same s s refl
aborted_last kept.Ended s = last_same s s refl

none_aborted : (k : Kept) (s : Core) → is_open k ≡ false → aborted_by k s ≡ s
none_aborted (kept.Call f call) s other = refl
none_aborted (kept.Work work) s other = absurd (cc)
none_aborted (kept.Returned v) s other = refl
none_aborted kept.Ended s other = refl

aborted_one : (at : ℕ → Option Kept) (k : Kept) (n : ℕ) (ns : List ℕ) (ks : List Kept) → at n ≡ Some k → ((s : Core) → those_aborted at ns s ≡ all_aborted ks s) →
    (s : Core) → those_aborted at (if is_open k then n ∷ ns else ns) s ≡ all_aborted (k ∷ ks) s
aborted_one at (kept.Call f call) n ns ks here rest s = rw here (rest s)
aborted_one at (kept.Work work) n ns ks here rest s = rw here (rest _)
aborted_one at (kept.Returned v) n ns ks here rest s = rest s
aborted_one at kept.Ended n ns ks here rest s = rest s

aborted_among : (at : ℕ → Option Kept) (n : ℕ) (ks : List Kept) → ((i : ℕ) → at (n + i) ≡ slice_get ks i) → (s : Core) → those_aborted at (numbers_where is_open n ks) s ≡ all_aborted ks s
aborted_among at n [] is s = refl
aborted_among at n (k ∷ ks) is s =
    let here : at n ≡ Some k = subst (λ (j : ℕ). at j ≡ Some k) (omega arith) (is 0) in
    let rest = aborted_among at (suc n) ks (λ i. subst (λ (j : ℕ). at j ≡ slice_get ks i) (omega arith) (is (suc i))) in
    aborted_one at k n (numbers_where is_open (suc n) ks) ks here rest s

-- to abort the open ones is to abort all
pub those_are_all : (ks : List Kept) (s : Core) → those_aborted (numbered ks) (numbers_where is_open 1 ks) s ≡ all_aborted ks s
those_are_all ks s = aborted_among (numbered ks) 1 ks (numbered_from ks) s

-- the next one is asked to end
pub those_next : (at : ℕ → Option Kept) (ns : List ℕ) (i : ℕ) (s : Core) → i < length ns → those_aborted at (drop (i + 1) ns) (aborted_at (at (get_or ns i 0)) s) ≡ those_aborted at (drop i ns) s
those_next at ns i s within =
    let next : i + 1 ≡ suc i = omega arith in
    ap (λ (k : ℕ). those_aborted at (drop k ns) (aborted_at (at (get_or ns i 0)) s)) next ∙ sym (ap (λ (js : List ℕ). those_aborted at js s) (drop-cons ns i 0 within))

-- what is kept of a number was spawned, where all were
pub was_one : (ks : List Kept) (n : ℕ) (k : Kept) (s : StateView) → AreOf ks s → Some k ≡ numbered ks n → WasSpawned k s
was_one ks zero k s are here = absurd (cc)
was_one ks (suc i) k s are here = are i k (sym here)

-- those of which one was asked to end
pub are_asked : (ks : List Kept) (o : Option Kept) (s : StateView) → AreOf ks s → AreOf ks (on_core (aborted_at o) s)
are_asked ks None s are = are_later ks s (on_core (aborted_at None) s) (last_same s (on_core (aborted_at None) s) refl) are
are_asked ks (Some k) s are = are_later ks s (on_core (aborted_at (Some k)) s) (aborted_last k s) are
