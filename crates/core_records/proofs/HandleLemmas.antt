-- The machine's maps of a table's handles.
use Rattle.core_records.proofs.Core.{[], ap, arith, Bool, by_order, cond, empty, eq_by_cmp, Equal, false, find, get, get-empty, get-insert, get-remove, Greater, handle_table, insert, is_eq, length-map, Less, List, live_in, nat_cmp, nat_cmp_total, no_handles, None, Option, put, Records, records_by, refl, remove, same_map, size, Some, sum_by, sum_by-cons, sym, true, unsigned_tied, ℕ, ◌+◌, ◌==◌, ◌∙◌, ◌∷◌, ◌≡◌}
use Rattle.std.proofs.Common.{option_map}
use Rattle.machine_data.specs.Core.{NameTable}
use Rattle.core_records.specs.Instances.{mapped}
use Rattle.std.specs.FinMap as fin
use Rattle.task_handles.specs.Handles.{no_handles as none_given}

module _ {X Y : Type 0} (f : X → Y) where
  pub find-mapped : (n : ℕ) (es : List (ℕ × X)) → find nat_cmp n (mapped f es) ≡ option_map f (find nat_cmp n es)
  find-mapped n [] = refl
  find-mapped n (e ∷ es) = by_test (eq_by_cmp nat_cmp n e.0) (find-mapped n es)
    where
      by_test : (b : Bool) → find nat_cmp n (mapped f es) ≡ option_map f (find nat_cmp n es) → cond b (Some (f e.1)) (find nat_cmp n (mapped f es)) ≡ option_map f (cond b (Some e.1) (find nat_cmp n es))
      by_test true rest = refl
      by_test false rest = rest

  pub get-records_by : (m : fin.FinMap nat_cmp X) (n : ℕ) → get (records_by f m) n ≡ option_map f (fin.get m n)
  unfolding get records_by
  get-records_by m n = find-mapped n (fin.entries m) ∙ ap (option_map f) (sym (fin.get-entries m n))

  pub size-records_by : (m : fin.FinMap nat_cmp X) → size (records_by f m) ≡ fin.len m
  unfolding size records_by
  size-records_by m = length-map (fin.entries m) (λ e. (e.0, f e.1)) ∙ sym (fin.len-entries m)

  pub records_by-empty : records_by f fin.empty ≡ empty
  records_by-empty = same_map _ _ (λ n. get-records_by fin.empty n ∙ ap (option_map f) (fin.get-empty nat_cmp n) ∙ sym (get-empty n))

  by_number : (q n : ℕ) (x : X) (o : Option X) → option_map f (cond (eq_by_cmp nat_cmp q n) (Some x) o) ≡ cond (q == n) (Some (f x)) (option_map f o)
  by_number q n x o = ap (λ b. option_map f (cond b (Some x) o)) (unsigned_tied q n) ∙ by_test (q == n)
    where
      by_test : (b : Bool) → option_map f (cond b (Some x) o) ≡ cond b (Some (f x)) (option_map f o)
      by_test true = refl
      by_test false = refl

  but_number : (q n : ℕ) (o : Option X) → option_map f (cond (eq_by_cmp nat_cmp q n) None o) ≡ cond (q == n) None (option_map f o)
  but_number q n o = ap (λ b. option_map f (cond b None o)) (unsigned_tied q n) ∙ by_test (q == n)
    where
      by_test : (b : Bool) → option_map f (cond b None o) ≡ cond b None (option_map f o)
      by_test true = refl
      by_test false = refl

  pub records_by-insert : (m : fin.FinMap nat_cmp X) (n : ℕ) (x : X) → records_by f (fin.insert m n x) ≡ insert (records_by f m) n (f x)
  records_by-insert m n x = same_map _ _ (λ q.
      get-records_by (fin.insert m n x) q ∙ ap (option_map f) (fin.get-insert nat_cmp_total m n x q) ∙ by_number q n x (fin.get m q)
      ∙ ap (cond (q == n) (Some (f x))) (sym (get-records_by m q)) ∙ sym (get-insert (records_by f m) n (f x) q))

  pub records_by-remove : (m : fin.FinMap nat_cmp X) (n : ℕ) → records_by f (fin.remove m n) ≡ remove (records_by f m) n
  records_by-remove m n = same_map _ _ (λ q.
      get-records_by (fin.remove m n) q ∙ ap (option_map f) (fin.get-remove nat_cmp_total m n q) ∙ but_number q n (fin.get m q)
      ∙ ap (cond (q == n) None) (sym (get-records_by m q)) ∙ sym (get-remove (records_by f m) n q))

  pub handle_table-none : handle_table f none_given ≡ no_handles
  handle_table-none = ap (λ m. record { live = m; freed = [] }) records_by-empty

module _ {X : Type 0} where
  -- one summand more
  sum-put_new : (f : ℕ × X → ℕ) (n : ℕ) (x : X) (es : List (ℕ × X)) → find nat_cmp n es ≡ None → sum_by f (put nat_cmp n x es) ≡ sum_by f es + f (n, x)
  sum-put_new f n x [] none = let a = sum_by-cons f (n, x) [] in omega arith
  sum-put_new f n x (e ∷ es) none =
      elim (nat_cmp n e.0) as (λ r. nat_cmp n e.0 ≡ r → sum_by f (by_order r ((n, x) ∷ e ∷ es) ((e.0, x) ∷ es) (e ∷ put nat_cmp n x es)) ≡ sum_by f (e ∷ es) + f (n, x)) [
        | Less ↦ λ p. let a = sum_by-cons f (n, x) (e ∷ es) in omega arith
        | Equal ↦ λ p. let there : find nat_cmp n (e ∷ es) ≡ Some e.1 = ap (λ r. cond (is_eq r) (Some e.1) (find nat_cmp n es)) p in absurd cc
        | Greater ↦ λ p.
            let later : find nat_cmp n es ≡ None = sym (ap (λ r. cond (is_eq r) (Some e.1) (find nat_cmp n es)) p) ∙ none in
            let ih : sum_by f (put nat_cmp n x es) ≡ sum_by f es + f (n, x) = sum-put_new f n x es later in
            let a = sum_by-cons f e (put nat_cmp n x es) in let b = sum_by-cons f e es in
            omega arith
      ] refl

  pub sum-insert_new : (m : Records X) (f : ℕ × X → ℕ) (n : ℕ) (x : X) → get m n ≡ None → sum_by f (insert m n x).list ≡ sum_by f m.list + f (n, x)
  unfolding get insert
  sum-insert_new m f n x none = sum-put_new f n x m.list none

module _ {X : Type 0} where
  pub live_in-more : (m : Records (NameTable X)) (n : ℕ) → get m n ≡ None → live_in (insert m n no_handles) ≡ live_in m
  unfolding size empty
  live_in-more m n none = let one = sum-insert_new m (λ e. size e.1.live) n no_handles none in omega arith
