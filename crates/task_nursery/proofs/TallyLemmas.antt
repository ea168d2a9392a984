-- The tallies of a nursery, when a child is begun or ended.
use Rattle.std.proofs.Common.{ap, arith, get_or, refl, subst, sym, ◌∙◌, ◌<◌, ◌≤◌}
use Rattle.std.proofs.lemmas.List.{length-set}
use Rattle.std.proofs.lemmas.Option.{slice_get-get_or}
use Rattle.std.specs.List.{remove}
use Rattle.std.specs.Prelude.{Bool, List, None, Option, Some, [], false, if◌then◌else◌, is_some, length, slice_get, slice_set, suc, true, zero, ℕ, ◌+◌, ◌++◌, ◌-◌, ◌∷◌, ◌≡◌}
use Rattle.machine_data.specs.Core.{Core}
use Rattle.machine_data.specs.Maps.{get}
use Rattle.task_nursery.proofs.KeptLemmas.{ended_is_closed, ended_is_no_call, ended_is_open}
use Rattle.task_nursery.proofs.NumberLemmas.{count_grown, count_same, counted, first_is_least, first_is_so, grown, numbers_there, removed, uncounted}
use Rattle.task_nursery.specs.Children.{ended, has_ended, is_open, is_open_call}
use Rattle.task_nursery.specs.Numbers.{count_where, first_among, first_where, numbered, numbers_where}
use Rattle.task_nursery.specs.Scope.{Tallies}
use Rattle.task_nursery.specs.declared.children.Kept.{Kept}
use Rattle.task_nursery.specs.declared.children.Kept.TheVariants as kept

-- the element of a number is at the place before
pub at_place : {A : Type 0} (xs : List A) (k : ℕ) (x : A) → numbered xs k ≡ Some x → slice_get xs (k - 1) ≡ Some x
at_place xs zero x at = absurd (cc)
at_place xs (suc i) x at = let place : i ≡ suc i - 1 = omega arith in subst (λ (j : ℕ). slice_get xs j ≡ Some x) place at

length_more : {A : Type 0} (xs : List A) (x : A) → length (xs ++ x ∷ []) ≡ length xs + 1
length_more [] x = refl
length_more (y ∷ ys) x = let more = length_more ys x in omega (arith, more)

-- a child more
pub tallies_more : (ks : List Kept) (ns : List ℕ) (calls : ℕ) (k : Kept) (number more : ℕ) → Tallies ks ns calls → length ks < 4294967295 → is_open k ≡ true → number ≡ length ks + 1 →
    (is_open_call k ≡ true → more ≡ calls + 1) → (is_open_call k ≡ false → more ≡ calls) → Tallies (ks ++ k ∷ []) (ns ++ number ∷ []) more
tallies_more ks ns calls k number more t few is next called other = record {
  numbers = ap (λ (js : List ℕ). js ++ number ∷ []) t.numbers ∙ (ap (λ (n : ℕ). numbers_where is_open 1 ks ++ n ∷ []) next ∙ sym (grown is_open ks k is));
  calls = by (is_open_call k) refl;
  few = let size = length_more ks k in omega (arith, size, few);
}
  where
    by : (b : Bool) → is_open_call k ≡ b → more ≡ count_where is_open_call (ks ++ k ∷ [])
    by true kind =
        let e = called kind in
        let c = t.calls in
        let g = count_grown is_open_call ks k kind in
        omega (arith, e, c, g)
    by false kind =
        let e = other kind in
        let c = t.calls in
        let g = count_same is_open_call ks k kind in
        omega (arith, e, c, g)

-- the first of the open children that has ended is the least one
pub least_first : (s : Core) (ks : List Kept) (ns : List ℕ) → ns ≡ numbers_where is_open 1 ks → first_among (has_ended s) (numbered ks) ns ≡ first_where (has_ended s) 1 ks
least_first s ks ns is = ap (λ (js : List ℕ). first_among (has_ended s) (numbered ks) js) is ∙ first_is_least is_open (has_ended s) (ended_is_open s) ks

-- it is one that has ended
pub first_has_ended : (s : Core) (ks : List Kept) (ns : List ℕ) (k : ℕ) (x : Kept) → first_among (has_ended s) (numbered ks) ns ≡ Some k → numbered ks k ≡ Some x → has_ended s x ≡ true
first_has_ended s ks ns k x found here =
    let so = first_is_so (has_ended s) (numbered ks) ns k found in
    let one : Some so.0 ≡ Some x = sym so.1.0 ∙ here in
    let same : so.0 ≡ x = cc in
    subst (λ (y : Kept). has_ended s y ≡ true) same so.1.1

-- a child less
pub tallies_less : (s : Core) (ks : List Kept) (ns : List ℕ) (calls at k : ℕ) (x : Kept) (less : ℕ) → Tallies ks ns calls → slice_get ns at ≡ Some k → numbered ks k ≡ Some x →
    (is_open_call x ≡ true → less + 1 ≡ calls) → (is_open_call x ≡ false → less ≡ calls) → Tallies (slice_set ks (k - 1) (ended s x)) (remove ns at) less
tallies_less s ks ns calls at k x less t place here called other =
    let there = at_place ks k x here in
    let named : slice_get (numbers_where is_open 1 ks) at ≡ Some k = sym (ap (λ (js : List ℕ). slice_get js at) t.numbers) ∙ place in
    record {
      numbers = ap (λ (js : List ℕ). remove js at) t.numbers ∙ sym (removed is_open ks at k (ended s x) (ended_is_closed s x) named);
      calls = by there (is_open_call x) refl;
      few = let size = length-set ks (k - 1) (ended s x) in let all = t.few in omega (arith, size, all);
    }
  where
    by : slice_get ks (k - 1) ≡ Some x → (b : Bool) → is_open_call x ≡ b → less ≡ count_where is_open_call (slice_set ks (k - 1) (ended s x))
    by there true kind =
        let e = called kind in
        let c = t.calls in
        let g = counted is_open_call ks (k - 1) x (ended s x) there kind (ended_is_no_call s x) in
        omega (arith, e, c, g)
    by there false kind =
        let e = other kind in
        let c = t.calls in
        let g = uncounted is_open_call ks (k - 1) x (ended s x) there kind (ended_is_no_call s x) in
        omega (arith, e, c, g)

-- the calls that are open are some of the open children
few_calls : (n : ℕ) (ks : List Kept) → count_where is_open_call ks ≤ length (numbers_where is_open n ks)
few_calls n [] = omega arith
few_calls n (kept.Call f call ∷ ks) = let rest = few_calls (suc n) ks in omega (arith, rest)
few_calls n (kept.Work work ∷ ks) = let rest = few_calls (suc n) ks in omega (arith, rest)
few_calls n (kept.Returned v ∷ ks) = few_calls (suc n) ks
few_calls n (kept.Ended ∷ ks) = few_calls (suc n) ks

-- Where they are all of them and no call has a result, none has ended.
all_wait : (s : Core) (n : ℕ) (ks : List Kept) → ((q : ℕ) → get s.results q ≡ None) → count_where is_open_call ks ≡ length (numbers_where is_open n ks) → first_where (has_ended s) n ks ≡ None
all_wait s n [] none all = refl
all_wait s n (kept.Call f call ∷ ks) none all =
    let rest = all_wait s (suc n) ks none (omega (arith, all)) in
    ap (λ (o : Option ℕ). if is_some o then Some n else first_where (has_ended s) (suc n) ks) (none call.thread) ∙ rest
all_wait s n (kept.Work work ∷ ks) none all = absurd (let few = few_calls (suc n) ks in omega (arith, all, few))
all_wait s n (kept.Returned v ∷ ks) none all = all_wait s (suc n) ks none all
all_wait s n (kept.Ended ∷ ks) none all = all_wait s (suc n) ks none all

pub none_has_ended : (s : Core) (ks : List Kept) (ns : List ℕ) (calls : ℕ) → Tallies ks ns calls → length ns ≡ calls → ((q : ℕ) → get s.results q ≡ None) → first_among (has_ended s) (numbered ks) ns ≡ None
none_has_ended s ks ns calls t same none =
    let size : length ns ≡ length (numbers_where is_open 1 ks) = ap (λ (js : List ℕ). length js) t.numbers in
    let count = t.calls in
    least_first s ks ns t.numbers ∙ all_wait s 1 ks none (omega (arith, size, count, same))

-- a call that is open is counted
pub is_counted : (ks : List Kept) (k : ℕ) (x : Kept) (s : Core) → numbered ks k ≡ Some x → is_open_call x ≡ true → 0 < count_where is_open_call ks
is_counted ks k x s here kind =
    let g = counted is_open_call ks (k - 1) x (ended s x) (at_place ks k x here) kind (ended_is_no_call s x) in
    omega (arith, g)

-- the number that was found is that of a child that has ended
pub record Found (s : Core) (ks : List Kept) (ns : List ℕ) (at k : ℕ) : Type 0 where
  pub place : slice_get ns at ≡ Some k
  pub some : 0 < k
  pub few : k ≤ length ks
  pub found : first_among (has_ended s) (numbered ks) ns ≡ Some k

pub found_at : (s : Core) (ks : List Kept) (ns : List ℕ) (at k : ℕ) → ns ≡ numbers_where is_open 1 ks → first_among (has_ended s) (numbered ks) ns ≡ slice_get ns at → at < length ns → k ≡ get_or ns at k → Found s ks ns at k
found_at s ks ns at k is first within value =
    let place : slice_get ns at ≡ Some k = slice_get-get_or ns at k within ∙ ap (λ (n : ℕ). Some n) (sym value) in
    let there = numbers_there is_open ks at k (subst (λ (js : List ℕ). slice_get js at ≡ Some k) is place) in
    record { place = place; some = there.0; few = there.1; found = first ∙ place }

-- two that have one number are one
pub one_kept : (ks : List Kept) (k : ℕ) (x y : Kept) → numbered ks k ≡ Some x → numbered ks k ≡ Some y → x ≡ y
one_kept ks k x y here there = let both : Some x ≡ Some y = sym here ∙ there in cc
