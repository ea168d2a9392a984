-- The numbers of groups, where one has another count or is gone.
use Rattle.core_records.proofs.Core.{[], ap, arith, Bool, cond, eqb-true, false, filter, get, group_key, has, is_some, IsMembers-filter, IsMembers-numbers, length, List, map, nat_lt, not, numbers, on_item, Once, other_than, Records, records, refl, remove, Some, sym, Table, true, unsigned_tied, ℕ, ◌&&◌, ◌+◌, ◌==◌, ◌||◌, ◌∙◌, ◌∷◌, ◌≡◌}
use Rattle.core_records.specs.declared.{call_records.TaskGroup.TaskGroup, single.Single.Single}
use Rattle.core_places.specs.Moved.{Alike}
use Rattle.core_removals.specs.Counted.{uncalled}
use Rattle.core_records.proofs.KeptLemmas.{records_seconds, seconds}
use Rattle.core_records.specs.Instances.{mapped as mapped_list}

numbers_seconds : {X Y : Type 0} (r : X → Y) (m : Records X) → numbers (seconds r m) ≡ numbers m
unfolding numbers
numbers_seconds {X} r m = by m.list
  where
    by : (es : List (ℕ × X)) → map (λ e. e.0) (mapped_list r es) ≡ map (λ e. e.0) es
    by [] = refl
    by (e ∷ es) = ap (λ (l : List ℕ). e.0 ∷ l) (by es)

-- tables that are alike but for counts have the same numbers
pub numbers_alike : (new old : Table (Single TaskGroup)) → Alike uncalled new old → numbers (records group_key new.places) ≡ numbers (records group_key old.places)
numbers_alike new old alike =
    sym (numbers_seconds (λ (n : ℕ). 0) (records group_key new.places))
    ∙ (ap (λ (m : Records ℕ). numbers m) (sym (records_seconds (λ (n : ℕ). 0) group_key group_key (on_item uncalled) (λ e. refl) new) ∙ (ap (λ (t : Table (Single TaskGroup)). records group_key t.places) alike ∙ records_seconds (λ (n : ℕ). 0) group_key group_key (on_item uncalled) (λ e. refl) old))
    ∙ numbers_seconds (λ (n : ℕ). 0) (records group_key old.places))

-- ---- A number less

numbers-remove : {X : Type 0} (m : Records X) (n : ℕ) → numbers (remove m n) ≡ filter (λ q. not (n == q)) (numbers m)
unfolding numbers remove
numbers-remove {X} m n = by m.list
  where
    by_test : (es : List (ℕ × X)) (e : ℕ × X) (b d : Bool) → b ≡ d → map (λ (f : ℕ × X). f.0) (filter (λ (f : ℕ × X). other_than n f.0) es) ≡ filter (λ q. not (n == q)) (map (λ (f : ℕ × X). f.0) es) → map (λ (f : ℕ × X). f.0) (cond (not b) (e ∷ filter (λ (f : ℕ × X). other_than n f.0) es) (filter (λ (f : ℕ × X). other_than n f.0) es)) ≡ cond (not d) (e.0 ∷ filter (λ q. not (n == q)) (map (λ (f : ℕ × X). f.0) es)) (filter (λ q. not (n == q)) (map (λ (f : ℕ × X). f.0) es))
    by_test es e true true same rest = rest
    by_test es e true false same rest = absurd (cc)
    by_test es e false true same rest = absurd (cc)
    by_test es e false false same rest = ap (λ (l : List ℕ). e.0 ∷ l) rest

    by : (es : List (ℕ × X)) → map (λ (f : ℕ × X). f.0) (filter (λ (f : ℕ × X). other_than n f.0) es) ≡ filter (λ q. not (n == q)) (map (λ (f : ℕ × X). f.0) es)
    by [] = refl
    by (e ∷ es) = by_test es e _ (n == e.0) (unsigned_tied n e.0) (by es)

swapped : (p q : ℕ → Bool) (ns : List ℕ) → filter p (filter q ns) ≡ filter q (filter p ns)
swapped p q [] = refl
swapped p q (n ∷ ns) = by (p n) refl (q n) refl (swapped p q ns)
  where
    by : (b : Bool) → p n ≡ b → (d : Bool) → q n ≡ d → filter p (filter q ns) ≡ filter q (filter p ns) → filter p (cond d (n ∷ filter q ns) (filter q ns)) ≡ filter q (cond b (n ∷ filter p ns) (filter p ns))
    by true is_p true is_q rest = ap (λ b. cond b (n ∷ filter p (filter q ns)) (filter p (filter q ns))) is_p ∙ (ap (λ (l : List ℕ). n ∷ l) rest ∙ sym (ap (λ b. cond b (n ∷ filter q (filter p ns)) (filter q (filter p ns))) is_q))
    by true is_p false is_q rest = rest ∙ sym (ap (λ b. cond b (n ∷ filter q (filter p ns)) (filter q (filter p ns))) is_q)
    by false is_p true is_q rest = ap (λ b. cond b (n ∷ filter p (filter q ns)) (filter p (filter q ns))) is_p ∙ rest
    by false is_p false is_q rest = rest

without_one : (n : ℕ) (ns : List ℕ) → Once ns → length (filter (λ q. not (n == q)) ns) + cond (has n ns) 1 0 ≡ length ns
without_one n [] once = refl
without_one n (m ∷ ns) once = by (n == m) refl (without_one n ns once.1)
  where
    by : (b : Bool) → (n == m) ≡ b → length (filter (λ q. not (n == q)) ns) + cond (has n ns) 1 0 ≡ length ns → length (cond (not b) (m ∷ filter (λ q. not (n == q)) ns) (filter (λ q. not (n == q)) ns)) + cond (b || has n ns) 1 0 ≡ length (m ∷ ns)
    by true is rest = let out : cond {A = ℕ} (has n ns) 1 0 ≡ 0 = ap (λ b. cond b 1 0) (ap (λ k. has k ns) (eqb-true n m is) ∙ once.0) in omega arith
    by false is rest = omega arith

module _ {X : Type 0} (m : Records X) (n : ℕ) (x : X) (at : get m n ≡ Some x) (above : ℕ) where
  -- of those above a number
  pub numbers_left : filter (nat_lt above) (numbers (remove m n)) ≡ filter (λ q. not (n == q)) (filter (nat_lt above) (numbers m))
  numbers_left = ap (filter (nat_lt above)) (numbers-remove m n) ∙ swapped (nat_lt above) (λ q. not (n == q)) (numbers m)

  pub numbers_fewer : length (filter (nat_lt above) (numbers (remove m n))) + cond (nat_lt above n) 1 0 ≡ length (filter (nat_lt above) (numbers m))
  numbers_fewer =
      let all = IsMembers-filter (λ k. is_some (get m k)) (numbers m) (IsMembers-numbers m) (nat_lt above) in
      let one = without_one n (filter (nat_lt above) (numbers m)) all.once in
      let here : cond {A = ℕ} (has n (filter (nat_lt above) (numbers m))) 1 0 ≡ cond (nat_lt above n) 1 0 = ap (λ b. cond b 1 0) (all.are n ∙ ap (λ o. is_some o && nat_lt above n) at) in
      let left = ap (λ (l : List ℕ). length l) numbers_left in
      omega arith
