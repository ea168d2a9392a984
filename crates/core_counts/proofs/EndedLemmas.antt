-- The groups that have ended: the numbers that a trap adds, and those that are told in order.
use Rattle.core_primitives.specs.Groups.{CountsEnded}
use Rattle.std.proofs.Common.{[], ap, ap₂, arith, Bool, cond, false, filter, inl, inr, length, List, ltb-true, map, nat_lt, not, refl, subst, suc, sum_by, sym, true, zero, ℕ, ◌+◌, ◌<◌, ◌==◌, ◌∙◌, ◌∷◌, ◌≡◌, ◌&&◌, ◌||◌}
use Rattle.std.proofs.lemmas.Bool.{eq-eqb, eqb-true, ne_eqb}
use Rattle.std.proofs.lemmas.List.{length-append}
use Rattle.std.proofs.lemmas.List.Sorted.{IsNonDecreasingBy-from_sort, sum_by-IsPermutation}
use Rattle.std.proofs.lemmas.List.Sums.{sum_by-cons}
use Rattle.machine_data.specs.Read.{is_nil}
use Rattle.std.specs.FinMap.Entries.{below_all, is_sorted}
use Rattle.std.specs.Ordering.{is_lt, nat_cmp}
use Rattle.std.specs.Prelude.{if◌then◌else◌, IsPermutation, IsSorted, is_some, T, None, Option, Some, Vec, vec_capacity, ◌++◌, ◌≤◌, ◌⊎◌}
use Rattle.std.specs.declared.cmp.Ordering.TheVariants as ordering
use Rattle.core_counts.specs.Entries.{numbers_above, numbers_of}
use Rattle.core_records.proofs.Core.{AreApart, AreEnded, asked, IsAsked, core_of, ended_groups, found_record, get-records, Global, group_key, has, is_tracked, IsMembers-numbers, IsSoundCore, tracked_of, numbers, Once, parts_of, Placed, records, seen, SoundTable}
use Rattle.core_records.proofs.LiveGroupLemmas.{ended_are, groups_sound, known_is, known_within, live_found, live_groups, live_within, numbers_above_zero}
use Rattle.core_records.proofs.TrackedLemmas.{ended_listed, false_or, has_filter, has_here, has_later, known_live, known_same, not_both, or_false, Rising, rising_filter, rising_sorted, known_counted}
use Rattle.core_records.specs.declared.{call_records.TaskGroup.TaskGroup, parts.CoreParts.CoreParts, single.Single.Single}
use Rattle.task_table.proofs.RecordLemmas.{AreApart-rest, fresh_first}
use Rattle.task_table.specs.Entries.{entries, entries_from}

-- ---- Lists of numbers

pub has_append : (n : ℕ) (xs ys : List ℕ) → has n (xs ++ ys) ≡ (has n xs || has n ys)
has_append n [] ys = refl
has_append n (x ∷ xs) ys = by (n == x) (has_append n xs ys)
  where
    by : (b : Bool) → has n (xs ++ ys) ≡ (has n xs || has n ys) → (b || has n (xs ++ ys)) ≡ ((b || has n xs) || has n ys)
    by true rest = refl
    by false rest = rest

once_append : (xs ys : List ℕ) → Once xs → Once ys → ((n : ℕ) → has n xs ≡ true → has n ys ≡ false) → Once (xs ++ ys)
once_append [] ys once_x once_y apart = once_y
once_append (x ∷ xs) ys once_x once_y apart = (
  has_append x xs ys ∙ (ap (λ b. b || has x ys) once_x.0 ∙ apart x (has_here x xs)),
  once_append xs ys once_x.1 once_y (λ n there. apart n (has_later n x xs there)),
)

filter_length : (p : ℕ → Bool) (ys : List ℕ) → length (filter p ys) ≤ length ys
filter_length p [] = omega arith
filter_length p (y ∷ ys) = by (p y) (filter_length p ys)
  where
    by : (b : Bool) → length (filter p ys) ≤ length ys → length (cond b (y ∷ filter p ys) (filter p ys)) ≤ length (y ∷ ys)
    by true rest = omega (arith, rest)
    by false rest = omega (arith, rest)

fewer_without : (x : ℕ) (ys : List ℕ) → has x ys ≡ true → length (filter (λ q. not (x == q)) ys) + 1 ≤ length ys
fewer_without x [] there = absurd (cc)
fewer_without x (y ∷ ys) there = by (x == y) there (λ out. fewer_without x ys out)
  where
    by : (b : Bool) → (b || has x ys) ≡ true → (has x ys ≡ true → length (filter (λ q. not (x == q)) ys) + 1 ≤ length ys) →
        length (cond (not b) (y ∷ filter (λ q. not (x == q)) ys) (filter (λ q. not (x == q)) ys)) + 1 ≤ length (y ∷ ys)
    by true out rest = let few = filter_length (λ q. not (x == q)) ys in omega (arith, few)
    by false out rest = let few = rest out in omega (arith, few)

-- numbers that are once in one list and all in another are no more than that has
no_more : (xs ys : List ℕ) → Once xs → ((n : ℕ) → has n xs ≡ true → has n ys ≡ true) → length xs ≤ length ys
no_more [] ys once within = omega arith
no_more (x ∷ xs) ys once within =
    let fewer = fewer_without x ys (within x (has_here x xs)) in
    let rest = no_more xs (filter (λ q. not (x == q)) ys) once.1 still in
    omega (arith, fewer, rest)
  where
    still : (n : ℕ) → has n xs ≡ true → has n (filter (λ q. not (x == q)) ys) ≡ true
    still n there =
        has_filter (λ q. not (x == q)) n ys
        ∙ (ap (λ b. b && not (x == n)) (within n (has_later n x xs there))
        ∙ ap not (ne_eqb x n (λ is. not_both (has x xs) (ap (λ k. has k xs) is ∙ there) once.0)))

-- ---- Lists in another order

abbrev times : ℕ → List ℕ → ℕ
times n xs = sum_by (λ m. cond (n == m) 1 0) xs

times_none : (n : ℕ) (xs : List ℕ) → has n xs ≡ false → times n xs ≡ 0
times_none n [] out = refl
times_none n (x ∷ xs) out = by (n == x) refl out (λ rest. times_none n xs rest)
  where
    by : (b : Bool) → (n == x) ≡ b → (b || has n xs) ≡ false → (has n xs ≡ false → times n xs ≡ 0) → times n (x ∷ xs) ≡ 0
    by true is out later = absurd (cc)
    by false is out later =
        let more = sum_by-cons (λ m. cond (n == m) 1 0) x xs in
        let here : cond {A = ℕ} (n == x) 1 0 ≡ 0 = ap (λ b. cond {A = ℕ} b 1 0) is in
        let rest = later out in
        omega (arith, more, here, rest)

times_some : (n : ℕ) (xs : List ℕ) → has n xs ≡ true → 1 ≤ times n xs
times_some n [] there = absurd (cc)
times_some n (x ∷ xs) there = by (n == x) refl there (λ rest. times_some n xs rest)
  where
    by : (b : Bool) → (n == x) ≡ b → (b || has n xs) ≡ true → (has n xs ≡ true → 1 ≤ times n xs) → 1 ≤ times n (x ∷ xs)
    by true is there later =
        let more = sum_by-cons (λ m. cond (n == m) 1 0) x xs in
        let here : cond {A = ℕ} (n == x) 1 0 ≡ 1 = ap (λ b. cond {A = ℕ} b 1 0) is in
        omega (arith, more, here)
    by false is there later = let more = sum_by-cons (λ m. cond (n == m) 1 0) x xs in let rest = later there in omega (arith, more, rest)

once_times : (xs : List ℕ) → Once xs → (n : ℕ) → times n xs ≤ 1
once_times [] once n = omega arith
once_times (x ∷ xs) once n = by (n == x) refl (once_times xs once.1 n)
  where
    by : (b : Bool) → (n == x) ≡ b → times n xs ≤ 1 → times n (x ∷ xs) ≤ 1
    by true is rest =
        let more = sum_by-cons (λ m. cond (n == m) 1 0) x xs in
        let here : cond {A = ℕ} (n == x) 1 0 ≡ 1 = ap (λ b. cond {A = ℕ} b 1 0) is in
        let none = times_none n xs (ap (λ k. has k xs) (eqb-true n x is) ∙ once.0) in
        omega (arith, more, here, none)
    by false is rest =
        let more = sum_by-cons (λ m. cond (n == m) 1 0) x xs in
        let here : cond {A = ℕ} (n == x) 1 0 ≡ 0 = ap (λ b. cond {A = ℕ} b 1 0) is in
        omega (arith, more, here, rest)

times_once : (xs : List ℕ) → ((n : ℕ) → times n xs ≤ 1) → Once xs
times_once [] few = tt
times_once (x ∷ xs) few = (
  false_or (has x xs) (λ there.
      let more = sum_by-cons (λ m. cond (x == m) 1 0) x xs in
      let here : cond {A = ℕ} (x == x) 1 0 ≡ 1 = ap (λ b. cond {A = ℕ} b 1 0) (eq-eqb x x refl) in
      let some = times_some x xs there in
      let all = few x in
      omega (arith, more, here, some, all)),
  times_once xs (λ n. let more = sum_by-cons (λ m. cond (n == m) 1 0) x xs in let all = few n in omega (arith, more, all)),
)

pub permuted_has : (xs ys : List ℕ) → IsPermutation xs ys → (n : ℕ) → has n ys ≡ has n xs
permuted_has xs ys moved n = by (has n ys) refl (has n xs) refl
  where
    same : times n ys ≡ times n xs
    same = sum_by-IsPermutation (λ m. cond (n == m) 1 0) xs ys moved

    by : (b : Bool) → has n ys ≡ b → (d : Bool) → has n xs ≡ d → b ≡ d
    by true is_y true is_x = refl
    by true is_y false is_x = let some = times_some n ys is_y in let none = times_none n xs is_x in absurd (omega (arith, same, some, none))
    by false is_y true is_x = let some = times_some n xs is_x in let none = times_none n ys is_y in absurd (omega (arith, same, some, none))
    by false is_y false is_x = refl

pub permuted_once : (xs ys : List ℕ) → IsPermutation xs ys → Once xs → Once ys
permuted_once xs ys moved once = times_once ys (λ n. let few = once_times xs once n in let same = sum_by-IsPermutation (λ m. cond (n == m) 1 0) xs ys moved in omega (arith, few, same))

-- ---- The numbers of groups by the places of their records

alone : (b d : Bool) → b ≡ false → (d && b) ≡ b
alone b true off = refl
alone b false off = sym off

numbers_found : (f rep : ℕ) (os : List (Option (Placed (Single TaskGroup)))) (n : ℕ) → has n (numbers_of f (entries_from rep os)) ≡ (is_some (found_record group_key n os) && nat_lt f n)
unfolding found_record
numbers_found f rep [] n = refl
numbers_found f rep (None ∷ os) n = numbers_found f (rep + 1) os n
numbers_found f rep (Some p ∷ os) n = by (nat_lt f p.entry.item.number) refl (n == p.entry.item.number) refl (numbers_found f (rep + 1) os n)
  where
    rest_of : List ℕ
    rest_of = numbers_of f (entries_from (rep + 1) os)

    by : (d : Bool) → nat_lt f p.entry.item.number ≡ d → (b : Bool) → (n == p.entry.item.number) ≡ b → has n rest_of ≡ (is_some (found_record group_key n os) && nat_lt f n) →
        has n (map (λ (e : ℕ × Single TaskGroup). e.1.item.number) (cond d ((rep, p.entry) ∷ filter (λ (e : ℕ × Single TaskGroup). nat_lt f e.1.item.number) (entries_from (rep + 1) os)) (filter (λ (e : ℕ × Single TaskGroup). nat_lt f e.1.item.number) (entries_from (rep + 1) os))))
        ≡ (is_some (if b then Some p.entry.item.calls else found_record group_key n os) && nat_lt f n)
    by true is true same rest = ap (λ b. b || has n rest_of) same ∙ sym (ap (nat_lt f) (eqb-true n p.entry.item.number same) ∙ is)
    by true is false same rest = ap (λ b. b || has n rest_of) same ∙ rest
    by false is true same rest = rest ∙ alone (nat_lt f n) (is_some (found_record group_key n os)) (ap (nat_lt f) (eqb-true n p.entry.item.number same) ∙ is)
    by false is false same rest = rest

numbers_once : (f rep : ℕ) (os : List (Option (Placed (Single TaskGroup)))) → AreApart group_key os → Once (numbers_of f (entries_from rep os))
numbers_once f rep [] apart = tt
numbers_once f rep (None ∷ os) apart = numbers_once f (rep + 1) os (AreApart-rest group_key None os apart)
numbers_once f rep (Some p ∷ os) apart = by (nat_lt f p.entry.item.number) (numbers_once f (rep + 1) os (AreApart-rest group_key (Some p) os apart))
  where
    by : (d : Bool) → Once (numbers_of f (entries_from (rep + 1) os)) →
        Once (map (λ (e : ℕ × Single TaskGroup). e.1.item.number) (cond d ((rep, p.entry) ∷ filter (λ (e : ℕ × Single TaskGroup). nat_lt f e.1.item.number) (entries_from (rep + 1) os)) (filter (λ (e : ℕ × Single TaskGroup). nat_lt f e.1.item.number) (entries_from (rep + 1) os))))
    by true rest = (
      numbers_found f (rep + 1) os p.entry.item.number ∙ ap (λ o. is_some o && nat_lt f p.entry.item.number) (fresh_first group_key (Some p) os p.entry.item.number p.entry.item.calls apart refl),
      rest,
    )
    by false rest = rest

-- ---- The numbers of a map

left : (a b : Bool) → T (a && b) → T a
left true b p = tt
left false b p = p

right : (a b : Bool) → T (a && b) → T b
right true b p = p
right false b p = absurd p

is_less : (k j : ℕ) → T (is_lt (nat_cmp k j)) → k < j
is_less k j h = by (nat_lt k j) (k == j) refl h
  where
    by : (b c : Bool) → nat_lt k j ≡ b → T (is_lt (cond b ordering.Less (cond c ordering.Equal ordering.Greater))) → k < j
    by true c is h = ltb-true k j is
    by false true is h = absurd h
    by false false is h = absurd h

rising_from_below : (low : ℕ) (es : List (ℕ × ℕ)) → T (below_all nat_cmp low es) → T (is_sorted nat_cmp es) → Rising low (map (λ e. e.0) es)
rising_from_below low [] below sorted = tt
rising_from_below low (e ∷ es) below sorted = (is_less low e.0 (left _ _ below), rising_from_below e.0 es (left _ _ sorted) (right _ _ sorted))

rising_numbers : (es : List (ℕ × ℕ)) → T (is_sorted nat_cmp es) → ((n : ℕ) → has n (map (λ e. e.0) es) ≡ true → 0 < n) → Rising 0 (map (λ e. e.0) es)
rising_numbers [] sorted above = tt
rising_numbers (e ∷ es) sorted above = (above e.0 (has_here e.0 (map (λ f. f.0) es)), rising_from_below e.0 es (left _ _ sorted) (right _ _ sorted))

-- ---- Of a core

module _ (a : CoreParts) (sound : IsSoundCore a) where
  abbrev live : List ℕ
  live = live_groups a

  -- ---- A trap

  abbrev pub trap_ends : List ℕ
  trap_ends = numbers_above a.finished a.groups

  ends_has : (n : ℕ) → has n trap_ends ≡ has n live
  ends_has n = numbers_found a.finished 0 a.groups.places n ∙ sym (live_found a sound n)

  ends_once : Once trap_ends
  ends_once = numbers_once a.finished 0 a.groups.places (groups_sound a sound).apart

  pub ends_fit : length a.ended.items + length trap_ends ≤ vec_capacity a.ended
  ends_fit =
      let few = no_more trap_ends live ends_once (λ n there. sym (ends_has n) ∙ there) in
      let fits = (ended_are a sound).room in
      omega (arith, few, fits)

  -- all groups have ended
  pub all_ended : AreEnded (a.ended.items ++ trap_ends) (vec_capacity a.ended) [] a.made.groups
  all_ended = record {
    once = once_append a.ended.items trap_ends (ended_are a sound).once ends_once (λ n there. ends_has n ∙ (ended_are a sound).apart n there);
    apart = λ n there. refl;
    within = λ n there. known_within a sound n (ap (λ d. has n a.ended.items || d) (sym (ends_has n)) ∙ (sym (has_append n a.ended.items trap_ends) ∙ there));
    room = let long = length-append a.ended.items trap_ends in let fits = ends_fit in omega (arith, long, fits);
  }

  pub all_known : tracked_of (a.ended.items ++ trap_ends) [] a.made.groups ≡ tracked_of a.ended.items live a.made.groups
  all_known = known_same (a.ended.items ++ trap_ends) a.ended.items [] live a.made.groups
      (λ n. or_false (has n (a.ended.items ++ trap_ends)) ∙ (has_append n a.ended.items trap_ends ∙ ap (λ d. has n a.ended.items || d) (ends_has n)))

  -- ---- Which have ended

  ended_has : (n : ℕ) → has n (ended_groups (seen a)) ≡ has n a.ended.items
  unfolding seen
  ended_has n =
      has_filter (λ g. not (has g live)) n (tracked_of a.ended.items live a.made.groups)
      ∙ (ap (λ b. b && not (has n live)) (known_is a sound n)
      ∙ by (has n a.ended.items) refl (has n live) refl)
    where
      by : (b : Bool) → has n a.ended.items ≡ b → (d : Bool) → has n live ≡ d → ((b || d) && not d) ≡ b
      by true is true is_live = not_both (has n live) is_live ((ended_are a sound).apart n is)
      by true is false is_live = refl
      by false is true is_live = refl
      by false is false is_live = refl

  pub none_ended : is_nil (ended_groups (seen a)) ≡ is_nil a.ended.items
  none_ended = alike (ended_groups (seen a)) a.ended.items ended_has
    where
      alike : (xs ys : List ℕ) → ((n : ℕ) → has n xs ≡ has n ys) → is_nil xs ≡ is_nil ys
      alike [] [] same = refl
      alike [] (y ∷ ys) same = let never : false ≡ true = same y ∙ has_here y ys in absurd (cc)
      alike (x ∷ xs) [] same = let never : false ≡ true = sym (same x) ∙ has_here x xs in absurd (cc)
      alike (x ∷ xs) (y ∷ ys) same = refl

  module _ (v : Vec ℕ Global) (moved : IsPermutation a.ended.items v.items) where
    pub ordered : IsSorted nat_cmp v.items → v.items ≡ ended_groups (seen a)
    unfolding seen
    ordered up = sym (ended_listed a.ended.items live v.items a.made.groups
        (rising_sorted 0 v.items (IsNonDecreasingBy-from_sort (λ n. n) v.items up) (permuted_once a.ended.items v.items moved (ended_are a sound).once)
        (λ n there. ((ended_are a sound).within n (sym (permuted_has a.ended.items v.items moved n) ∙ there)).0))
        (permuted_has a.ended.items v.items moved) (ended_are a sound).apart (λ n there. ((ended_are a sound).within n there).1))

    pub ordered_seen : seen (record a { ended = v }) ≡ seen a
    unfolding seen
    ordered_seen = ap (λ (ks : List ℕ). record (seen a) { tags = record (seen a).tags { tracked = ks } })
        (known_same v.items a.ended.items live live a.made.groups (λ n. ap (λ b. b || has n live) (permuted_has a.ended.items v.items moved n)))

    pub ordered_sound : length v.items ≡ length a.ended.items → vec_capacity v ≡ vec_capacity a.ended → IsSoundCore (record a { ended = v })
    unfolding IsSoundCore
    ordered_sound long same = record {
      tables = record { threads = sound.tables.threads; calls = sound.tables.calls; works = sound.tables.works; sets = sound.tables.sets; groups = sound.tables.groups };
      whole = sound.whole;
      interesting = sound.interesting;
      moving = sound.moving;
      handles = sound.handles;
      owned = sound.owned;
      live = sound.live;
      ended = record {
        once = permuted_once a.ended.items v.items moved sound.ended.once;
        apart = λ n there. sound.ended.apart n (sym (permuted_has a.ended.items v.items moved n) ∙ there);
        within = λ n there. sound.ended.within n (sym (permuted_has a.ended.items v.items moved n) ∙ there);
        room = let fits = sound.ended.room in omega (arith, fits, long, same);
      };
    }

  -- ---- It was asked

  live_rising : Rising 0 live
  unfolding numbers
  live_rising = rising_filter (nat_lt a.finished) 0 (numbers (records group_key a.groups.places)) (rising_numbers (records group_key a.groups.places).list (records group_key a.groups.places).sorted (numbers_above_zero a sound))

  -- where none has ended the live ones are known
  pub none_asked : a.ended.items ≡ [] → IsAsked (seen a)
  unfolding seen
  none_asked none = ap (λ ns. tracked_of ns live a.made.groups) none ∙ known_live live a.made.groups live_rising (λ n there. (live_within a sound n there).1)

  pub counted : CountsEnded (seen a)
  unfolding seen
  counted = known_counted a.ended.items live a.made.groups live_rising (λ n there. (live_within a sound n there).1)

  module _ (v : Vec ℕ Global) (none : v.items ≡ []) where
    pub forgotten_seen : seen (record a { ended = v }) ≡ asked (seen a)
    unfolding seen
    forgotten_seen = ap (λ (ks : List ℕ). record (seen a) { tags = record (seen a).tags { tracked = ks } })
        (ap (λ ns. tracked_of ns live a.made.groups) none ∙ known_live live a.made.groups live_rising (λ n there. (live_within a sound n there).1))

    pub forgotten_sound : vec_capacity v ≡ vec_capacity a.ended → IsSoundCore (record a { ended = v })
    unfolding IsSoundCore
    forgotten_sound same = record {
      tables = record { threads = sound.tables.threads; calls = sound.tables.calls; works = sound.tables.works; sets = sound.tables.sets; groups = sound.tables.groups };
      whole = sound.whole;
      interesting = sound.interesting;
      moving = sound.moving;
      handles = sound.handles;
      owned = sound.owned;
      live = sound.live;
      ended = subst (λ (ns : List ℕ). AreEnded ns (vec_capacity v) live a.made.groups) (sym none)
          (record { once = tt; apart = λ n there. absurd (cc); within = λ n there. absurd (cc); room = let fits = sound.ended.room in omega (arith, fits, same) });
    }
