-- A release of what is wanted and then of the others: those that are admitted, in the order of the preference.
use Rattle.core_records.proofs.Core.{[], admitted_held, ap, ap₂, arith, Bool, cases_eq, cond, Core, eq-eqb, eqb-true, false, filter, get, has, held_why, held_why_of, inl, inr, is_held_admitted, IsMembers-filter, IsMembers-numbers, is_some, List, list_any, ne_eqb, None, not, on_thread, option_and_then, option_map, option_map_or, Option, push_high, put_high, refl, released, released_one, set_place, Some, subst, sym, Thread, true, Why, ℕ, ◌&&◌, ◌++◌, ◌==◌, ◌||◌, ◌∙◌, ◌≡◌, ◌∷◌}
use Rattle.core_counts.proofs.EndedLemmas.{permuted_has, permuted_once}
use Rattle.core_removals.proofs.ReleaseLemmas.{put_calls, put_instances, put_others, same_admitted, same_held, same_instance, admitted_held as held_of}
use Rattle.core_removals.specs.Held.{AreHeldUnqueued, is_admitted, raised, raised_of, raised_one}
use Rattle.machine_data.proofs.CommuteLemmas.{get-change}
use Rattle.machine_data.proofs.MapLemmas.{get-change_other, get-change_same}
use Rattle.machine_data.specs.Read.{came_of}
use Rattle.machine_data.specs.declared.records.Place.{Place}
use Rattle.machine_data.specs.declared.scenario.Version.{Version}
use Rattle.machine_data.specs.declared.statuses.Mark.{Mark}
use Rattle.machine_rules.specs.Picks.{Preference, earlier_by, earlier_in, goes_in_order, held_before, listed_before}
use Rattle.std.proofs.lemmas.List.{at_drop_all, at_drop_more}
use Rattle.core_records.proofs.Core.{get_or}
use Rattle.std.specs.Prelude.{drop, length, ◌+◌, ◌<◌, ◌≤◌}
use Rattle.std.specs.Prelude.{IsPermutation}
use Rattle.table_lists.proofs.Members.{IsMembers-same, members_permute}
use Rattle.table_lists.specs.Members.{IsMembers, Once}
use Rattle.table_lists.specs.Rows.{Each}
use Rattle.core_places.proofs.WantedLemmas.{found_there, ordered_there}
use Rattle.core_primitives.specs.Preferences.{preference}
use Rattle.core_records.proofs.Core.{instance_of, IsSoundCore, IsUnqueued, map, on_core, place_at, Placed, records, seen, StateView, TableId, thread_key, ThreadKey, with_core, ◌⊎◌}
use Rattle.core_primitives.specs.Changes.{ReleasesHeld}
use Rattle.core_primitives.specs.StateView.{thread_number, thread_of}
use Rattle.table_lists.specs.Members.{is_held_in}
use Rattle.core_records.specs.declared.{parts.CoreParts.CoreParts, single.Single.Single, thread_records.GuestThread.GuestThread}
use Rattle.core_removals.specs.Order.{AreInOrder, NotBefore}

-- ---- Who is admitted once one is put at high

put_same : (i m n : ℕ) (w : Why) (s : Core) → (m ≡ n → ⊥) → is_admitted i (put_high n w s) m ≡ is_admitted i s m
unfolding put_high push_high set_place on_thread
put_same i m n w s other = same_admitted i m s (put_high n w s) (get-change_other s.threads n (λ (x : Thread). record x { place = Place.Ready Mark.High w }) m other) (put_calls n w s) (put_instances n w s)

put_gone : (i n : ℕ) (w : Why) (s : Core) → is_admitted i (put_high n w s) n ≡ false
unfolding put_high push_high set_place on_thread
put_gone i n w s =
    ap (λ o. is_held_admitted i (put_high n w s) n (option_and_then held_why (option_map (λ (x : Thread). x.place) o))) (get-change_same s.threads n (λ (x : Thread). record x { place = Place.Ready Mark.High w }))
    ∙ by (get s.threads n)
  where
    by : (o : Option Thread) → is_held_admitted i (put_high n w s) n (option_and_then held_why (option_map (λ (x : Thread). x.place) (option_map (λ (x : Thread). record x { place = Place.Ready Mark.High w }) o))) ≡ false
    by None = refl
    by (Some x) = refl

and_true : (b : Bool) → b ≡ (b && true)
and_true true = refl
and_true false = refl

and_false : (b : Bool) → (b && false) ≡ false
and_false true = refl
and_false false = refl

one_raised : (i n m : ℕ) (s : Core) (w : Why) → held_why_of n s ≡ Some w → is_admitted i (released (n ∷ []) s) m ≡ (is_admitted i s m && not (m == n))
unfolding released
one_raised i n m s w at = by (cases_eq m n)
  where
    is_put : released (n ∷ []) s ≡ put_high n w s
    is_put = ap (λ o. released_one n o s) at

    by : (m ≡ n) ⊎ (m ≡ n → ⊥) → is_admitted i (released (n ∷ []) s) m ≡ (is_admitted i s m && not (m == n))
    by (inl same) =
        ap₂ (λ c k. is_admitted i c k) is_put same ∙ (put_gone i n w s ∙ (sym (and_false (is_admitted i s m)) ∙ ap (λ b. is_admitted i s m && not b) (sym (eq-eqb m n same))))
    by (inr other) =
        ap (λ c. is_admitted i c m) is_put ∙ (put_same i m n w s other ∙ (and_true (is_admitted i s m) ∙ ap (λ b. is_admitted i s m && not b) (sym (ne_eqb m n other))))

-- whether or not the one is admitted
one_step : (i n m : ℕ) (s : Core) → is_admitted i (raised_one i n s) m ≡ (is_admitted i s m && not (m == n))
one_step i n m s = by (is_admitted i s n) refl
  where
    by : (b : Bool) → is_admitted i s n ≡ b → is_admitted i (cond b (released (n ∷ []) s) s) m ≡ (is_admitted i s m && not (m == n))
    by true is = let one = held_of i n s is in one_raised i n m s one.0 one.1
    by false is = elim (cases_eq m n) [
      | inl same ↦ let off : is_admitted i s m ≡ false = ap (is_admitted i s) same ∙ is in off ∙ sym (ap (λ b. b && not (m == n)) off)
      | inr other ↦ and_true (is_admitted i s m) ∙ ap (λ b. is_admitted i s m && not b) (sym (ne_eqb m n other))
    ]

-- ---- All of a list

drop_both : (a b c : Bool) → ((a && not b) && not c) ≡ (a && not (b || c))
drop_both true true c = refl
drop_both true false c = refl
drop_both false b c = refl

pub raised_admits : (i : ℕ) (ns : List ℕ) (s : Core) (m : ℕ) → is_admitted i (raised i ns s) m ≡ (is_admitted i s m && not (has m ns))
raised_admits i [] s m = and_true (is_admitted i s m)
raised_admits i (n ∷ ns) s m =
    raised_admits i ns (raised_one i n s) m ∙ (ap (λ b. b && not (has m ns)) (one_step i n m s) ∙ drop_both (is_admitted i s m) (m == n) (has m ns))

pub raised_is : (i : ℕ) (ns : List ℕ) (s : Core) → raised i ns s ≡ released (raised_of i ns s) s
unfolding released
raised_is i [] s = refl
raised_is i (n ∷ ns) s = by (is_admitted i s n) (λ c. raised_is i ns c)
  where
    by : (b : Bool) → ((c : Core) → raised i ns c ≡ released (raised_of i ns c) c) → raised i ns (cond b (released (n ∷ []) s) s) ≡ released (cond b (n ∷ raised_of i ns (cond b (released (n ∷ []) s) s)) (raised_of i ns s)) s
    by true rest = rest (released (n ∷ []) s)
    by false rest = rest s

-- who is raised is admitted and is in the list
has_raised : (i : ℕ) (ns : List ℕ) (s : Core) (m : ℕ) → has m (raised_of i ns s) ≡ (is_admitted i s m && has m ns)
has_raised i [] s m = sym (and_false (is_admitted i s m))
has_raised i (n ∷ ns) s m = by (is_admitted i s n) refl (λ c. has_raised i ns c m)
  where
    first : (a b c d : Bool) → (b ≡ true → a ≡ true) → (b || ((a && not b) && c)) ≡ (a && (b || c))
    first true true c d e = refl
    first true false c d e = refl
    first false true c d e = absurd (let never = e refl in cc)
    first false false c d e = refl

    later : (a b c : Bool) → (b ≡ true → a ≡ false) → (a && c) ≡ (a && (b || c))
    later true true c e = absurd (let never = e refl in cc)
    later true false c e = refl
    later false b c e = refl

    by : (b : Bool) → is_admitted i s n ≡ b → ((c : Core) → has m (raised_of i ns c) ≡ (is_admitted i c m && has m ns))
        → has m (cond b (n ∷ raised_of i ns (cond b (released (n ∷ []) s) s)) (raised_of i ns s)) ≡ (is_admitted i s m && ((m == n) || has m ns))
    by true is rest =
        let one = held_of i n s is in
        ap (λ b. (m == n) || b) (rest (released (n ∷ []) s) ∙ ap (λ b. b && has m ns) (one_raised i n m s one.0 one.1))
        ∙ first (is_admitted i s m) (m == n) (has m ns) true (λ same. ap (is_admitted i s) (eqb-true m n same) ∙ is)
    by false is rest = rest s ∙ later (is_admitted i s m) (m == n) (has m ns) (λ same. ap (is_admitted i s) (eqb-true m n same) ∙ is)

once_raised : (i : ℕ) (ns : List ℕ) (s : Core) → Once (raised_of i ns s)
once_raised i [] s = tt
once_raised i (n ∷ ns) s = by (is_admitted i s n) refl (λ c. once_raised i ns c)
  where
    by : (b : Bool) → is_admitted i s n ≡ b → ((c : Core) → Once (raised_of i ns c)) → Once (cond b (n ∷ raised_of i ns (cond b (released (n ∷ []) s) s)) (raised_of i ns s))
    by true is rest =
        let one = held_of i n s is in (
          has_raised i ns (released (n ∷ []) s) n ∙ ap (λ b. b && has n ns) (one_raised i n n s one.0 one.1 ∙ (ap (λ b. is_admitted i s n && not b) (eq-eqb n n refl) ∙ and_false (is_admitted i s n))),
          rest (released (n ∷ []) s),
        )
    by false is rest = rest s

has_both : (n : ℕ) (xs ys : List ℕ) → has n (xs ++ ys) ≡ (has n xs || has n ys)
has_both n [] ys = refl
has_both n (x ∷ xs) ys = ap (λ b. (n == x) || b) (has_both n xs ys) ∙ or_assoc (n == x) (has n xs) (has n ys)
  where
    or_assoc : (a b c : Bool) → (a || (b || c)) ≡ ((a || b) || c)
    or_assoc true b c = refl
    or_assoc false b c = refl

once_both : (xs ys : List ℕ) → Once xs → Once ys → ((n : ℕ) → has n xs ≡ true → has n ys ≡ false) → Once (xs ++ ys)
once_both [] ys x y apart = y
once_both (x ∷ xs) ys once y apart = (
  has_both x xs ys ∙ ap₂ (λ a b. a || b) once.0 (apart x (ap (λ b. b || has x xs) (eq-eqb x x refl))),
  once_both xs ys once.1 y (λ n there. apart n (or_left_true (n == x) (has n xs) there)),
)
  where
    or_left_true : (b c : Bool) → c ≡ true → (b || c) ≡ true
    or_left_true true c is = refl
    or_left_true false c is = is

admitted_members : (i : ℕ) (s : Core) → IsMembers (is_admitted i s) (admitted_held i s)
unfolding admitted_held
admitted_members i s = IsMembers-same _ _ (IsMembers-filter _ _ (IsMembers-numbers s.threads) (is_admitted i s)) (is_admitted i s) (λ n. found n (get s.threads n))
  where
    found : (n : ℕ) (o : Option Thread) → is_held_admitted i s n (option_and_then held_why (option_map (λ (t : Thread). t.place) o)) ≡ (is_some o && is_held_admitted i s n (option_and_then held_why (option_map (λ (t : Thread). t.place) o)))
    found n None = refl
    found n (Some t) = refl

module _ (i : ℕ) (s : Core) (ns rest : List ℕ) (others : IsPermutation (admitted_held i (raised i ns s)) rest) where
  has_rest : (m : ℕ) → has m rest ≡ (is_admitted i s m && not (has m ns))
  has_rest m = permuted_has (admitted_held i (raised i ns s)) rest others m ∙ ((admitted_members i (raised i ns s)).are m ∙ raised_admits i ns s m)

  pub both_permute : IsPermutation (admitted_held i s) (raised_of i ns s ++ rest)
  both_permute = members_permute (is_admitted i s) (admitted_held i s) (admitted_members i s) (raised_of i ns s ++ rest) (record {
    once = once_both (raised_of i ns s) rest (once_raised i ns s) (permuted_once (admitted_held i (raised i ns s)) rest others (admitted_members i (raised i ns s)).once)
        (λ n there. has_rest n ∙ not_both (is_admitted i s n) (has n ns) (sym (has_raised i ns s n) ∙ there));
    are = λ n. has_both n (raised_of i ns s) rest ∙ (ap₂ (λ a b. a || b) (has_raised i ns s n) (has_rest n) ∙ whole (is_admitted i s n) (has n ns));
  })
    where
      not_both : (a b : Bool) → (a && b) ≡ true → (a && not b) ≡ false
      not_both true true is = refl
      not_both true false is = absurd (cc)
      not_both false b is = absurd (cc)

      whole : (a b : Bool) → ((a && b) || (a && not b)) ≡ a
      whole true true = refl
      whole true false = refl
      whole false b = refl

-- ---- The order

-- past numbers that are neither of the two
listed_past : (pre post : List ℕ) (m n : ℕ) (o : Bool) → has m pre ≡ false → has n pre ≡ false → listed_before (pre ++ post) m n o ≡ listed_before post m n o
listed_past [] post m n o no_m no_n = refl
listed_past (k ∷ ks) post m n o no_m no_n =
    ap (λ b. cond b false (cond (k == m) true (listed_before (ks ++ post) m n o))) (other n k no_n)
    ∙ (ap (λ b. cond b true (listed_before (ks ++ post) m n o)) (other m k no_m)
    ∙ listed_past ks post m n o (rest m k no_m) (rest n k no_n))
  where
    other : (a b : ℕ) → ((a == b) || has a ks) ≡ false → (b == a) ≡ false
    other a b is = ne_eqb b a (λ same. let here : (a == b) ≡ true = eq-eqb a b (sym same) in let never : true ≡ false = sym (ap (λ c. c || has a ks) here) ∙ is in absurd (cc))

    rest : (a b : ℕ) → ((a == b) || has a ks) ≡ false → has a ks ≡ false
    rest a b is = by (a == b) is
      where
        by : (c : Bool) → (c || has a ks) ≡ false → has a ks ≡ false
        by true is = absurd (cc)
        by false is = is

none_passes : (p : ℕ → Bool) (xs : List ℕ) → ((m : ℕ) → has m xs ≡ true → p m ≡ false) → list_any p xs ≡ false
none_passes p [] each = refl
none_passes p (x ∷ xs) each = ap₂ (λ a b. a || b) (each x (ap (λ b. b || has x xs) (eq-eqb x x refl))) (none_passes p xs (λ m there. each m (later (m == x) there)))
  where
    later : (b : Bool) {c : Bool} → c ≡ true → (b || c) ≡ true
    later true is = refl
    later false is = is

goes_on : (p : Preference) (n : ℕ) (ns : List ℕ) → list_any (λ m. held_before p m n) ns ≡ false → goes_in_order p ns ≡ true → goes_in_order p (n ∷ ns) ≡ true
goes_on p n ns none order = ap₂ (λ a b. not a && b) none order

one_more : (m n : ℕ) (pre : List ℕ) → has m pre ≡ false → (m ≡ n → ⊥) → has m (pre ++ n ∷ []) ≡ false
one_more m n pre none other = has_both m pre (n ∷ []) ∙ (ap (λ b. b || ((m == n) || false)) none ∙ ap (λ b. b || false) (ne_eqb m n other))

append_one : (pre : List ℕ) (n : ℕ) (ns : List ℕ) → pre ++ n ∷ ns ≡ (pre ++ n ∷ []) ++ ns
append_one [] n ns = refl
append_one (x ∷ xs) n ns = ap (λ l. x ∷ l) (append_one xs n ns)

pub raised_in_order : (p : Preference) (i : ℕ) (ns pre rest : List ℕ) (s : Core) → p.held ≡ pre ++ ns → ((m : ℕ) → is_admitted i s m ≡ true → has m pre ≡ false)
    → ((m : ℕ) → has m rest ≡ true → is_admitted i (raised i ns s) m ≡ true) → goes_in_order p rest ≡ true → goes_in_order p (raised_of i ns s ++ rest) ≡ true
raised_in_order p i [] pre rest s is past left order = order
raised_in_order p i (n ∷ ns) pre rest s is past left order = by (is_admitted i s n) refl left (λ c later all. raised_in_order p i ns (pre ++ n ∷ []) rest c (is ∙ append_one pre n ns) later all order)
  where
    both : (a b : Bool) → (a && not b) ≡ true → a ≡ true
    both true b is = refl
    both false b is = absurd (cc)

    second : (a b : Bool) → (a && not b) ≡ true → b ≡ false
    second true true is = absurd (cc)
    second true false is = refl
    second false b is = absurd (cc)

    of_both : (a b c : Bool) → ((a && b) || c) ≡ true → (c ≡ true → a ≡ true) → a ≡ true
    of_both true b c is from = refl
    of_both false b true is from = from refl
    of_both false b false is from = absurd (cc)

    apart : (a m : ℕ) → (a == m) ≡ false → a ≡ m → ⊥
    apart a m off same = let never : true ≡ false = sym (eq-eqb a m same) ∙ off in absurd (cc)

    by : (b : Bool) → is_admitted i s n ≡ b → ((m : ℕ) → has m rest ≡ true → is_admitted i (raised i ns (cond b (released (n ∷ []) s) s)) m ≡ true)
        → ((c : Core) → ((m : ℕ) → is_admitted i c m ≡ true → has m (pre ++ n ∷ []) ≡ false) → ((m : ℕ) → has m rest ≡ true → is_admitted i (raised i ns c) m ≡ true) → goes_in_order p (raised_of i ns c ++ rest) ≡ true)
        → goes_in_order p (cond b (n ∷ raised_of i ns (cond b (released (n ∷ []) s) s)) (raised_of i ns s) ++ rest) ≡ true
    by true on left again =
        let one = held_of i n s on in
        let t = released (n ∷ []) s in
        let step : (m : ℕ) → is_admitted i t m ≡ (is_admitted i s m && not (m == n)) = λ m. one_raised i n m s one.0 one.1 in
        let after : (m : ℕ) → has m (raised_of i ns t ++ rest) ≡ true → is_admitted i t m ≡ true =
        λ m there. of_both (is_admitted i t m) (has m ns) (has m rest) (sym (has_both m (raised_of i ns t) rest ∙ ap (λ b. b || has m rest) (has_raised i ns t m)) ∙ there)
        (λ in_rest. both (is_admitted i t m) (has m ns) (sym (raised_admits i ns t m) ∙ left m in_rest)) in
        goes_on p n (raised_of i ns t ++ rest)
        (none_passes (λ m. held_before p m n) (raised_of i ns t ++ rest) (λ m there.
        let admitted = sym (step m) ∙ after m there in
        ap (λ l. listed_before l m n (p.earlier m n)) is
        ∙ (listed_past pre (n ∷ ns) m n (p.earlier m n) (past m (both (is_admitted i s m) (m == n) admitted)) (past n on)
        ∙ ap (λ b. cond b false (cond (n == m) true (listed_before ns m n (p.earlier m n)))) (eq-eqb n n refl))))
        (again t
        (λ m admitted. let was = sym (step m) ∙ admitted in one_more m n pre (past m (both (is_admitted i s m) (m == n) was)) (apart m n (second (is_admitted i s m) (m == n) was)))
        left)
    by false off left again =
        again s
        (λ m admitted. one_more m n pre (past m admitted) (λ same. let never : false ≡ true = sym off ∙ (ap (is_admitted i s) (sym same) ∙ admitted) in absurd (cc)))
        left

pub no_items : {X : Type 0} (items : List X) → (length items == 0) ≡ true → items ≡ []
no_items [] none = refl
no_items (x ∷ xs) none = absurd (let zero = eqb-true (length (x ∷ xs)) 0 none in omega (arith, zero))

-- what holds of each of a list holds of who is in it
each_has : (P : ℕ → Type 0) (ns : List ℕ) → Each P ns → (m : ℕ) → has m ns ≡ true → P m
each_has P [] each m there = absurd (cc)
each_has P (k ∷ ks) each m there = by (m == k) refl (λ later. each_has P ks each.1 m later) there
  where
    by : (b : Bool) → (m == k) ≡ b → (has m ks ≡ true → P m) → (b || has m ks) ≡ true → P m
    by true same rest there = subst P (sym (eqb-true m k same)) each.0
    by false same rest there = rest there

-- ---- Places

module _ (a : CoreParts) (sound : IsSoundCore a) where
  held_there : (i m : ℕ) → is_admitted i (seen a).core m ≡ true → (r : ℕ) × ((q : Placed (Single GuestThread)) × ((place_at a.threads r ≡ Some q) × (q.entry.item.number ≡ m)))
  unfolding seen
  held_there i m is = by (get (records thread_key a.threads.places) m) refl (held_of i m (seen a).core is).1
    where
      by : (o : Option Thread) → get (records thread_key a.threads.places) m ≡ o → option_and_then held_why (option_map (λ (x : Thread). x.place) o) ≡ Some (held_of i m (seen a).core is).0 → (r : ℕ) × ((q : Placed (Single GuestThread)) × ((place_at a.threads r ≡ Some q) × (q.entry.item.number ≡ m)))
      by None at held = absurd (cc)
      by (Some t) at held =
          let one = found_there (λ (g : GuestThread). g.number) (λ (g : GuestThread). g.thread) a.threads m t at in
          (one.0, (one.1.0, (one.1.1.0, one.1.1.1.0)))

  pub placed_in_order : (i : ℕ) (order : List ℕ) → AreInOrder a order → ((m : ℕ) → has m order ≡ true → is_admitted i (seen a).core m ≡ true)
      → ((m : ℕ) → has m order ≡ true → has m (preference (seen a)).held ≡ false) → goes_in_order (preference (seen a)) order ≡ true
  placed_in_order i [] are admitted unwanted = refl
  placed_in_order i (n ∷ ns) are admitted unwanted = goes_on (preference (seen a)) n ns
      (none_passes (λ m. held_before (preference (seen a)) m n) ns (λ m there.
      let later = later_has n ns m there in
      let one = held_there i n (admitted n (here_has n ns)) in
      let two = held_there i m (admitted m later) in
      unlisted (preference (seen a)).held m n _ (unwanted m later) (unwanted n (here_has n ns))
      ∙ (ap₂ (earlier_in (seen a).core (seen a).tags.seats) (sym two.1.1.1) (sym one.1.1.1)
      ∙ (ordered_there a sound two.0 one.0 two.1.0 one.1.0 two.1.1.0 one.1.1.0
      ∙ each_has (NotBefore a n) ns are.0 m there one.0 one.1.0 one.1.1.0 one.1.1.1 two.0 two.1.0 two.1.1.0 two.1.1.1))))
      (placed_in_order i ns are.1 (λ m there. admitted m (later_has n ns m there)) (λ m there. unwanted m (later_has n ns m there)))
    where
      here_has : (n : ℕ) (ns : List ℕ) → has n (n ∷ ns) ≡ true
      here_has n ns = ap (λ b. b || has n ns) (eq-eqb n n refl)

      later_has : (n : ℕ) (ns : List ℕ) (m : ℕ) → has m ns ≡ true → has m (n ∷ ns) ≡ true
      later_has n ns m there = by (m == n)
        where
          by : (b : Bool) → (b || has m ns) ≡ true
          by true = refl
          by false = there

      unlisted : (held : List ℕ) (m n : ℕ) (o : Bool) → has m held ≡ false → has n held ≡ false → listed_before held m n o ≡ o
      unlisted held m n o no_m no_n = ap (λ l. listed_before l m n o) (append_nil held) ∙ listed_past held [] m n o no_m no_n
        where
          append_nil : (l : List ℕ) → l ≡ l ++ []
          append_nil [] = refl
          append_nil (x ∷ xs) = ap (λ l. x ∷ l) (append_nil xs)

  -- who is in such an order is admitted
  admitted_in : (i : ℕ) (order : List ℕ) → IsPermutation (admitted_held i (seen a).core) order → (m : ℕ) → has m order ≡ true → is_admitted i (seen a).core m ≡ true
  admitted_in i order moved m there = sym ((admitted_members i (seen a).core).are m) ∙ (sym (permuted_has (admitted_held i (seen a).core) order moved m) ∙ there)

  -- where nothing is wanted the order is that of the places
  pub least_released : (i : ℕ) (t : StateView) → a.wanted.held.items ≡ [] → (picks : (order : List ℕ) × (AreInOrder a order × (IsPermutation (admitted_held i (seen a).core) order × (t ≡ on_core (released order) (seen a))))) → ReleasesHeld i (seen a) t
  unfolding seen
  least_released i t none picks =
      let order = picks.0 in (
        order,
        (
          picks.1.1.0,
          (
            placed_in_order i order picks.1.0 (admitted_in i order picks.1.1.0) (λ m there. ap (λ (ids : List (TableId ThreadKey)). has m (map (thread_number (seen a).tags) ids)) none),
            picks.1.1.1,
          ),
        ),
      )

released_both : (xs ys : List ℕ) (s : Core) → released ys (released xs s) ≡ released (xs ++ ys) s
unfolding released
released_both [] ys s = refl
released_both (x ∷ xs) ys s = released_both xs ys (released_one x (held_why_of x s) s)

-- ---- What threads are ordered by stays as they are raised

-- by the same rules, and each thread came when it had come
abbrev AsBefore : Core → Core → Type 0
AsBefore s t = (t.version ≡ s.version) × ((k : ℕ) → came_of k t ≡ came_of k s)

put_as_before : (n : ℕ) (w : Why) (s : Core) → AsBefore s (put_high n w s)
unfolding put_high push_high set_place on_thread
put_as_before n w s = (refl, λ k. ap (λ (o : Option Thread). option_map_or (λ (d : Thread). d.came) o 0) (get-change n (λ (x : Thread). record x { place = Place.Ready Mark.High w }) s.threads k) ∙ by (k == n) (get s.threads k))
  where
    by : (b : Bool) (o : Option Thread) → option_map_or (λ (d : Thread). d.came) (cond b (option_map (λ (x : Thread). record x { place = Place.Ready Mark.High w }) o) o) 0 ≡ option_map_or (λ (d : Thread). d.came) o 0
    by true None = refl
    by true (Some d) = refl
    by false o = refl

one_as_before : (i n : ℕ) (s : Core) → AsBefore s (raised_one i n s)
unfolding released
one_as_before i n s = by (is_admitted i s n)
  where
    put : (o : Option Why) → AsBefore s (released_one n o s)
    put None = (refl, λ k. refl)
    put (Some w) = put_as_before n w s

    by : (b : Bool) → AsBefore s (cond b (released (n ∷ []) s) s)
    by true = put (held_why_of n s)
    by false = (refl, λ k. refl)

raised_as_before : (i : ℕ) (ns : List ℕ) (s : Core) → AsBefore s (raised i ns s)
raised_as_before i [] s = (refl, λ k. refl)
raised_as_before i (n ∷ ns) s =
    let one = one_as_before i n s in
    let rest = raised_as_before i ns (raised_one i n s) in
    (rest.0 ∙ one.0, λ k. rest.1 k ∙ one.1 k)

preference_stays : (v : StateView) (t : Core) → AsBefore v.core t → preference (with_core t v) ≡ preference v
preference_stays v t before =
    let came : ◌≡◌ {A = ℕ → ℕ} (λ k. came_of k t) (λ k. came_of k v.core) = λ j k. before.1 k j in
    ap₂ (λ (u : Version) (c : ℕ → ℕ). record (preference v) { earlier = earlier_by u c v.tags.seats }) before.0 came

-- those that are wanted were raised, and then the others were released
pub wanted_released : (a b : CoreParts) → IsSoundCore b → (i : ℕ) (t : StateView) → seen b ≡ on_core (raised i (preference (seen a)).held) (seen a)
    → (order : List ℕ) × (AreInOrder b order × (IsPermutation (admitted_held i (seen b).core) order × (t ≡ on_core (released order) (seen b)))) → ReleasesHeld i (seen a) t
wanted_released a b sound i t mid picks =
    let s = (seen a).core in
    let p = preference (seen a) in
    let ns = p.held in
    let order = picks.0 in
    let core : (seen b).core ≡ raised i ns s = ap (λ (v : StateView). v.core) mid in
    let same : preference (seen b) ≡ p = ap preference mid ∙ preference_stays (seen a) (raised i ns s) (raised_as_before i ns s) in
    let moved : IsPermutation (admitted_held i (raised i ns s)) order = subst (λ (c : Core). IsPermutation (admitted_held i c) order) core picks.1.1.0 in
    let left : (m : ℕ) → has m order ≡ true → is_admitted i (raised i ns s) m ≡ true = λ m there. ap (λ c. is_admitted i c m) (sym core) ∙ admitted_in b sound i order picks.1.1.0 m there in
    let unlisted : (m : ℕ) → has m order ≡ true → has m ns ≡ false = λ m there. apart (is_admitted i s m) (has m ns) (sym (raised_admits i ns s m) ∙ left m there) in
    let by_places : goes_in_order p order ≡ true =
    ap (λ (q : Preference). goes_in_order q order) (sym same)
    ∙ placed_in_order b sound i order picks.1.0 (admitted_in b sound i order picks.1.1.0) (λ m there. ap (λ (q : Preference). has m q.held) same ∙ unlisted m there) in (
      raised_of i ns s ++ order,
      (
        both_permute i s ns order moved,
        (
          raised_in_order p i ns [] order s refl (λ m on. refl) left by_places,
          picks.1.1.1 ∙ (ap (on_core (released order)) mid ∙ ap (λ c. with_core c (seen a)) (ap (released order) (raised_is i ns s) ∙ released_both (raised_of i ns s) order s)),
        ),
      ),
    )
  where
    apart : (a b : Bool) → (a && not b) ≡ true → b ≡ false
    apart true true is = absurd (cc)
    apart true false is = refl
    apart false b is = absurd (cc)

-- ---- One after another

-- who is still held once one was put at high has no entry
pub put_unqueued : (i n : ℕ) (w : Why) (s : Core) → AreHeldUnqueued i s → AreHeldUnqueued i (put_high n w s)
unfolding put_high push_high set_place on_thread
put_unqueued i n w s free m held = by (cases_eq m n)
  where
    threads : (m ≡ n → ⊥) → get (put_high n w s).threads m ≡ get s.threads m
    threads other = get-change_other s.threads n (λ (x : Thread). record x { place = Place.Ready Mark.High w }) m other

    was : (m ≡ n → ⊥) → is_held_in i s m ≡ true
    was other = sym (ap₂ (λ k b. (k == i) && is_some b) (same_instance i m s (put_high n w s) (threads other) (put_calls n w s) (put_instances n w s)) (same_held i m s (put_high n w s) (threads other) (put_calls n w s) (put_instances n w s))) ∙ held

    none : (o : Option Thread) → option_and_then held_why (option_map (λ (x : Thread). x.place) (option_map (λ (x : Thread). record x { place = Place.Ready Mark.High w }) o)) ≡ None
    none None = refl
    none (Some x) = refl

    here : m ≡ n → held_why_of m (put_high n w s) ≡ None
    here same = ap (λ k. held_why_of k (put_high n w s)) same ∙ (ap (λ o. option_and_then held_why (option_map (λ (x : Thread). x.place) o)) (get-change_same s.threads n (λ (x : Thread). record x { place = Place.Ready Mark.High w })) ∙ none (get s.threads n))

    by : (m ≡ n) ⊎ (m ≡ n → ⊥) → IsUnqueued m (put_high n w s)
    by (inl same) = let never : false ≡ true = sym (and_false (instance_of m (put_high n w s) == i)) ∙ (ap (λ o. (instance_of m (put_high n w s) == i) && is_some o) (sym (here same)) ∙ held) in absurd (cc)
    by (inr other) = (put_others m n w s s other (record { thread = refl; unqueued = free m (was other) })).unqueued

pub put_free : (i n : ℕ) (w : Why) (s t : StateView) → AreHeldUnqueued i s.core → t ≡ on_core (put_high n w) s → AreHeldUnqueued i t.core
put_free i n w s t free is = subst (AreHeldUnqueued i) (sym (ap (λ (v : StateView). v.core) is)) (put_unqueued i n w s.core free)

-- who is admitted is held in the instance
pub admitted_is_held : (i n : ℕ) (s : Core) → is_admitted i s n ≡ true → is_held_in i s n ≡ true
admitted_is_held i n s is = by (held_why_of n s) refl is
  where
    left : (a b : Bool) → (a && b) ≡ true → a ≡ true
    left true b is = refl
    left false b is = absurd (cc)

    by : (o : Option Why) → held_why_of n s ≡ o → is_held_admitted i s n o ≡ true → is_held_in i s n ≡ true
    by None at is = absurd (cc)
    by (Some w) at is = ap₂ (λ b o. b && is_some o) (left (instance_of n s == i) _ is) at

-- one is raised who is admitted, or nobody
pub one_is_raised : (i n : ℕ) (w : Why) (s t : StateView) → is_admitted i s.core n ≡ true → held_why_of n s.core ≡ Some w → t ≡ on_core (put_high n w) s → t ≡ on_core (raised_one i n) s
unfolding released
one_is_raised i n w s t on at is =
    is ∙ ap (λ c. with_core c s) (sym (ap (λ b. cond b (released (n ∷ []) s.core) s.core) on ∙ ap (λ o. released_one n o s.core) at))

pub none_is_raised : (i n : ℕ) (s : StateView) → is_admitted i s.core n ≡ false → s ≡ on_core (raised_one i n) s
none_is_raised i n s off = ap (λ c. with_core c s) (sym (ap (λ b. cond b (released (n ∷ []) s.core) s.core) off))

-- what is left of the list, from one step to the next
module _ (a b : CoreParts) (i k : ℕ) (again : on_core (raised i (map (thread_number (seen a).tags) (drop k a.wanted.held.items))) (seen b) ≡ on_core (raised i (preference (seen a)).held) (seen a)) where
  pub same_wanted : b.wanted.held.items ≡ a.wanted.held.items
  unfolding seen
  same_wanted = ap (λ (v : StateView). v.tags.wanted.held) again

  pub wanted_bound : k < length a.wanted.held.items → k < length b.wanted.held.items
  wanted_bound below = subst (λ l. k < length l) (sym same_wanted) below

  pub next_raised : (c : CoreParts) (id : TableId ThreadKey) → k < length a.wanted.held.items → id ≡ get_or b.wanted.held.items k id → seen c ≡ on_core (raised_one i (thread_of (seen b) id)) (seen b)
      → on_core (raised i (map (thread_number (seen a).tags) (drop (k + 1) a.wanted.held.items))) (seen c) ≡ on_core (raised i (preference (seen a)).held) (seen a)
  next_raised c id below at is =
      let f = thread_number (seen a).tags in
      let rest = map f (drop (k + 1) a.wanted.held.items) in
      let here : id ≡ get_or a.wanted.held.items k id = at ∙ ap (λ l. get_or l k id) same_wanted in
      ap (on_core (raised i rest)) is
      ∙ (ap₂ (λ t x. on_core (raised i rest) (on_core (raised_one i (thread_number t x)) (seen b))) (ap (λ (v : StateView). v.tags) again) here
      ∙ (sym (at_drop_more (λ l. on_core (raised i (map f l)) (seen b)) a.wanted.held.items k id below) ∙ again))

  pub all_raised : length a.wanted.held.items ≤ k → seen b ≡ on_core (raised i (preference (seen a)).held) (seen a)
  all_raised over = sym (at_drop_all (λ l. on_core (raised i (map (thread_number (seen a).tags) l)) (seen b)) a.wanted.held.items k over) ∙ again
