-- Each choice that fits an offer has a number.
use Rattle.choice_search.specs.Numbered.{EachIsNumbered, HasNumber, choice_at, choice_count, ordered, order_at, orders, ways_of_one}
use Rattle.laws_choices.specs.Offer.{Chosen, FitsOffer, Offer, is_one_of}
use Rattle.laws_picks.proofs.CountLemmas.{itself, often, often_first, often_permuted, one_if, permutes}
use Rattle.std.proofs.Common.{ap, arith, get_or, refl, subst, sym, ◌∙◌}
use Rattle.std.proofs.lemmas.Bool.Decides.{nat_tests}
use Rattle.std.proofs.lemmas.Bool.{eqb-true}
use Rattle.std.proofs.lemmas.List.Edits.{length-remove}
use Rattle.std.proofs.lemmas.List.Sorted.{IsPermutation-remove, IsPermutation-sym, IsPermutation-trans, length_permutation}
use Rattle.std.proofs.lemmas.Nat.{div-mul-add, mod-mul-add}
use Rattle.std.specs.List.{list_any}
use Rattle.std.specs.Prelude.{Bool, IsPermutation, List, None, Option, Some, [], cond, false, length, remove, slice_get, slice_index, suc, true, zero, ℕ, ◌%◌, ◌*◌, ◌+◌, ◌/◌, ◌<◌, ◌==◌, ◌∷◌, ◌≡◌, ◌≤◌}

-- ---- Numbers of two digits

pub digits : (a w b : ℕ) → b < w → ((a * w + b) % w ≡ b) × ((a * w + b) / w ≡ a)
digits a w b below = (mod-mul-add a w b below, div-mul-add a w b below)

pub below_both : (a b m w : ℕ) → a < m → b < w → a * w + b < w * m
below_both a b m w one two =
    let more : a * w + w ≤ m * w = grow a m w one in
    let same : m * w ≡ w * m = swapped m w in
    omega (arith, more, two, same)
  where
    swapped : (m w : ℕ) → m * w ≡ w * m
    swapped m w = grind arith

    grow : (a m w : ℕ) → a < m → a * w + w ≤ m * w
    grow a zero w lt = absurd (omega (arith, lt))
    grow zero (suc m) w lt = grind arith
    grow (suc a) (suc m) w lt = let rest = grow a m w (omega (arith, lt)) in grind (arith, rest)

-- ---- The place of one of a list

-- where it is in the list
pub record At (ns : List ℕ) (m : ℕ) : Type 0 where
  pub place : ℕ
  pub inside : place < length ns
  pub is : slice_get ns place ≡ Some m
  pub index : slice_index ns place ≡ m
  pub or : m ≡ get_or ns place m

place_of : (ns : List ℕ) (m : ℕ) → list_any (λ k. k == m) ns ≡ true → At ns m
place_of [] m some = absurd (cc)
place_of (n ∷ ns) m some = by (n == m) refl (place_of ns m)
  where
    later : At ns m → At (n ∷ ns) m
    later at = record { place = suc at.place; inside = let lt = at.inside in omega (arith, lt); is = at.is; index = at.index; or = at.or }

    by : (b : Bool) → (n == m) ≡ b → (list_any (λ k. k == m) ns ≡ true → At ns m) → At (n ∷ ns) m
    by true e behind = record { place = 0; inside = omega arith; is = ap (λ (k : ℕ). Some k) (eqb-true n m e); index = eqb-true n m e; or = sym (eqb-true n m e) }
    by false e behind = later (behind (grind (arith, e, some)))

-- one of a list, or none of none, by its number
chosen_one : (ns : List ℕ) (w : Option ℕ) → is_one_of ns w ≡ true → (i : ℕ) × ((i < ways_of_one (length ns)) × (slice_get ns i ≡ w))
chosen_one [] None one = (0, (omega arith, refl))
chosen_one [] (Some m) one = absurd (cc)
chosen_one (n ∷ ns) None one = absurd (cc)
chosen_one (n ∷ ns) (Some m) one = let at = place_of (n ∷ ns) m one in (at.place, (at.inside, at.is))

-- ---- Orders

-- lists that begin alike and permute each other permute each other behind it
tails : (m : ℕ) (xs ys : List ℕ) → IsPermutation (m ∷ xs) (m ∷ ys) → IsPermutation xs ys
tails m xs ys p =
    let long = length_permutation (m ∷ xs) (m ∷ ys) p in
    permutes xs ys (omega (arith, long))
    (λ n some. let both = often_permuted n (m ∷ xs) (m ∷ ys) p in let one = often_first n m xs in let two = often_first n m ys in omega (arith, both, one, two))

some_often : (m : ℕ) (ns : List ℕ) → 1 ≤ often m ns → list_any (λ k. k == m) ns ≡ true
some_often m [] some = absurd (omega (arith, some))
some_often m (n ∷ ns) some = by (n == m) refl (some_often m ns)
  where
    by : (b : Bool) → (n == m) ≡ b → (1 ≤ often m ns → list_any (λ k. k == m) ns ≡ true) → list_any (λ k. k == m) (n ∷ ns) ≡ true
    by true e behind = grind (arith, e)
    by false e behind = let apart : one_if m n ≡ 0 = ap (λ b. cond b 1 0) e in let first = often_first m n ns in let rest = behind (omega (arith, some, first, apart)) in grind (arith, e, rest)

in_front : (m : ℕ) (ns ms : List ℕ) → IsPermutation ns (m ∷ ms) → list_any (λ k. k == m) ns ≡ true
in_front m ns ms p =
    some_often m ns (let same = often_permuted m ns (m ∷ ms) p in let first = often_first m m ms in let one = itself m in omega (arith, same, first, one))

pub record IsOrder (n : ℕ) (ns ms : List ℕ) : Type 0 where
  pub number : ℕ
  pub below : number < orders n
  pub is : ordered n ns number ≡ ms

order_number : (n : ℕ) (ns ms : List ℕ) → length ns ≡ n → IsPermutation ns ms → IsOrder n ns ms
unfolding ordered
order_number zero ns [] long p = record { number = 0; below = omega arith; is = refl }
order_number zero ns (m ∷ ms) long p = absurd (let same = length_permutation ns (m ∷ ms) p in omega (arith, long, same))
order_number (suc n) ns [] long p = absurd (let same = length_permutation ns [] p in omega (arith, long, same))
order_number (suc n) ns (m ∷ ms) long p =
    let at = place_of ns m (in_front m ns ms p) in
    let fewer = length-remove ns at.place at.inside in
    let rest = order_number n (remove ns at.place) ms (omega (arith, long, fewer))
    (tails m (remove ns at.place) ms (IsPermutation-trans _ _ _ (IsPermutation-sym _ _ (IsPermutation-remove ns at.place m at.inside at.or)) p)) in
    let inside : at.place < suc n = let lt = at.inside in omega (arith, lt, long) in
    let d = digits rest.number (suc n) at.place inside in
    record {
      number = rest.number * suc n + at.place;
      below = below_both rest.number at.place (orders n) (suc n) rest.below inside;
      is =
          ap (λ (k : ℕ). slice_index ns k ∷ ordered n (remove ns k) ((rest.number * suc n + at.place) / suc n)) d.0
          ∙ (ap (λ (k : ℕ). slice_index ns at.place ∷ ordered n (remove ns at.place) k) d.1
          ∙ (ap (λ (k : ℕ). k ∷ ordered n (remove ns at.place) rest.number) at.index ∙ ap (λ (ks : List ℕ). m ∷ ks) rest.is));
    }

-- ---- Choices

abbrev choosing : Option ℕ → Option ℕ → List ℕ → Chosen
choosing w m r = record { waiter = w; member = m; release = r }

numbered : (o : Offer) (c : Chosen) → FitsOffer c o → HasNumber o c
numbered o c fits =
    let w = chosen_one o.waiters c.waiter fits.waiter in
    let m = chosen_one o.members c.member fits.member in
    let r = order_number (length o.held) o.held c.release refl fits.release in
    let a = ways_of_one (length o.waiters) in
    let b = ways_of_one (length o.members) in
    let inner : r.number * b + m.0 < b * orders (length o.held) = below_both r.number m.0 (orders (length o.held)) b r.below m.1.0 in
    let one = digits (r.number * b + m.0) a w.0 w.1.0 in
    let two = digits r.number b m.0 m.1.0 in
    record {
      number = (r.number * b + m.0) * a + w.0;
      below = subst (λ (k : ℕ). (r.number * b + m.0) * a + w.0 < k) (grouped a b (orders (length o.held))) (below_both (r.number * b + m.0) w.0 (b * orders (length o.held)) a inner w.1.0);
      is = all_same (slice_get o.waiters (((r.number * b + m.0) * a + w.0) % a)) c.waiter (slice_get o.members (((r.number * b + m.0) * a + w.0) / a % b)) c.member (order_at o.held (((r.number * b + m.0) * a + w.0) / a / b)) c.release
          (ap (λ (k : ℕ). slice_get o.waiters k) one.0 ∙ w.1.1)
          (ap (λ (k : ℕ). slice_get o.members (k % b)) one.1 ∙ (ap (λ (k : ℕ). slice_get o.members k) two.0 ∙ m.1.1))
          (ap (λ (k : ℕ). order_at o.held (k / b)) one.1 ∙ (ap (λ (k : ℕ). order_at o.held k) two.1 ∙ r.is));
    }
  where
    grouped : (a b n : ℕ) → a * (b * n) ≡ a * b * n
    grouped a b n = grind arith

    all_same : (w v m h : Option ℕ) (r q : List ℕ) → w ≡ v → m ≡ h → r ≡ q → choosing w m r ≡ choosing v h q
    all_same w v m h r q one two three = ap (λ (k : Option ℕ). choosing k m r) one ∙ (ap (λ (k : Option ℕ). choosing v k r) two ∙ ap (λ (ks : List ℕ). choosing v h ks) three)

pub each_is_numbered : EachIsNumbered
unfolding EachIsNumbered
each_is_numbered o c fits = numbered o c fits
