-- How many results are in the rooms.
use Rattle.std.proofs.Common.{ap, arith, subst, sym, ◌∙◌}
use Rattle.std.proofs.lemmas.Map.Entries.{sum_by-insert_entry, sum_by-remove_entry}
use Rattle.std.proofs.lemmas.List.Sums.{sum_by-cons}
use Rattle.std.proofs.lemmas.Map.Keys.{IsDistinct-from_sorted}
use Rattle.std.proofs.lemmas.Map.Views.{lookup-from_Contains}
use Rattle.std.specs.BTreeMap.{insert_entry, is_at}
use Rattle.std.specs.Cmp.{eq_by_cmp_equiv, nat_cmp_total}
use Rattle.std.specs.List.Sorted.{IsStrictlySortedBy}
use Rattle.std.specs.Map.{keys_of, lookup, remove_entry, values_of}
use Rattle.std.specs.Option.{option_map, unwrap_or}
use Rattle.std.specs.Ordering.{nat_cmp}
use Rattle.std.specs.Prelude.{[], Bool, cond, Contains, false, is_some, IsSome, length, List, nat_lt, None, Option, refl, Some, suc, true, zero, ℕ, ◌+◌, ◌-◌, ◌<◌, ◌∷◌, ◌≡◌, ◌≤◌}
use Rattle.core_records.specs.Rooms.{count_given, given_in, weight}
use Rattle.core_records.specs.declared.rooms.ResultRoom.{ResultRoom}

-- 1 if there is a result
abbrev pub one_of : Option ℕ → ℕ
one_of o = cond (is_some o) 1 0

counts : (e : ℕ × ResultRoom) (es : List (ℕ × ResultRoom)) → count_given (e ∷ es) ≡ one_of e.1.given + count_given es
counts e es = sum_by-cons weight e.1 (values_of es)

pub at_most_one : (o : Option ℕ) → one_of o ≤ 1
at_most_one None = omega arith
at_most_one (Some v) = omega arith

-- no room has more than one
pub count_few : (es : List (ℕ × ResultRoom)) → count_given es ≤ length es
count_few [] = omega arith
count_few (e ∷ es) =
    let all = counts e es in
    let rest = count_few es in
    let one = at_most_one e.1.given in
    omega (arith, all, rest, one)

-- where none is counted, none is anywhere
pub none_given : (test : ℕ → Bool) (es : List (ℕ × ResultRoom)) → count_given es ≡ 0 → given_in (lookup test es) ≡ None
none_given test [] none = refl
none_given test (e ∷ es) none = by e.1.given e.1.lives (test e.0) (sym (counts e es) ∙ none) (none_given test es)
  where
    by : (o : Option ℕ) (l b : Bool) → one_of o + count_given es ≡ 0 → (count_given es ≡ 0 → given_in (lookup test es) ≡ None) → given_in (cond b (Some (record { given = o; lives = l })) (lookup test es)) ≡ None
    by None l true none rest = refl
    by None l false none rest = rest (omega (arith, none))
    by (Some v) l b none rest = absurd (omega (arith, none))

-- where some are counted, one is in the room of an entry
abbrev OneIsGiven : List (ℕ × ResultRoom) → Type 0
OneIsGiven es = (e : ℕ × ResultRoom) × Contains es e × IsSome e.1.given

some_entry : (es : List (ℕ × ResultRoom)) → 0 < count_given es → OneIsGiven es
some_entry [] some = absurd (omega (arith, some))
some_entry (e ∷ es) some = by e.1.given refl (counts e es) (some_entry es)
  where
    by : (o : Option ℕ) → e.1.given ≡ o → count_given (e ∷ es) ≡ one_of e.1.given + count_given es → (0 < count_given es → OneIsGiven es) → OneIsGiven (e ∷ es)
    by None is all rest =
        let one : one_of e.1.given ≡ 0 = ap one_of is in
        let x = rest (omega (arith, some, all, one)) in
        let less = x.1.1 in
        (x.0, (suc x.1.0, omega (arith, less), x.1.2), x.2)
    by (Some v) is all rest = (e, (0, omega arith, refl), subst IsSome (sym is) refl)

-- a count that isn't above 0 is 0, and one that is some
pub none_less : (n : ℕ) → nat_lt 0 n ≡ false → n ≡ 0
none_less zero is = refl
none_less (suc n) is = absurd (let some : nat_lt 0 (suc n) ≡ true = grind arith in cc)

pub some_less : (n : ℕ) → nat_lt 0 n ≡ true → 0 < n
some_less zero is = absurd (cc)
some_less (suc n) is = omega arith

-- and is found by the number of its call
pub some_given : (es : List (ℕ × ResultRoom)) → IsStrictlySortedBy nat_cmp (keys_of es) → 0 < count_given es → (k : ℕ) × IsSome (given_in (lookup (is_at (nat_cmp k)) es))
some_given es sorted some =
    let e = some_entry es some in
    let found = lookup-from_Contains (eq_by_cmp_equiv nat_cmp_total) e.0.0 e.0.1 es (IsDistinct-from_sorted nat_cmp (keys_of es) sorted) e.1 in
    (e.0.0, subst (λ (o : Option ResultRoom). IsSome (given_in o)) (sym found) e.2)

weight_of : (o : Option ResultRoom) → unwrap_or (option_map weight o) 0 ≡ one_of (given_in o)
weight_of None = refl
weight_of (Some r) = refl

-- the one of a room is counted
pub counted : (test : ℕ → Bool) (es : List (ℕ × ResultRoom)) → one_of (given_in (lookup test es)) ≤ count_given es
counted test es =
    let without = sum_by-remove_entry weight test es in
    let one = weight_of (lookup test es) in
    omega (arith, without, one)

-- as many as before without the one of a room that goes
pub count_removed : (test : ℕ → Bool) (es : List (ℕ × ResultRoom)) → count_given (remove_entry test es) ≡ count_given es - one_of (given_in (lookup test es))
count_removed test es =
    let without = sum_by-remove_entry weight test es in
    let one = weight_of (lookup test es) in
    omega (arith, without, one)

-- a room that is written is counted in the place of the one that was there
pub count_inserted : (k : ℕ) (r : ResultRoom) (es : List (ℕ × ResultRoom)) → IsStrictlySortedBy nat_cmp (keys_of es) → count_given (insert_entry nat_cmp es k r) + one_of (given_in (lookup (is_at (nat_cmp k)) es)) ≡ count_given es + weight r
count_inserted k r es sorted =
    let all = sum_by-insert_entry weight nat_cmp_total es k r sorted in
    let one = weight_of (lookup (is_at (nat_cmp k)) es) in
    omega (arith, all, one)
