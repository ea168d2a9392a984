-- Finite maps from numbers that are never given twice to records. A map is the list of its entries, whose numbers rise, so it computes.
--     get m n, insert m n x, remove m n, empty, from_entries es
--     change n f m      the map with the record of n changed, if there is one
--     size m, numbers m
use Rattle.std.specs.Prelude.{◌≡◌, ℕ, Bool, true, false, List, [], ◌∷◌, Option, Some, None, cond, not, T, length, map, if◌then◌else◌, ◌==◌}
use Rattle.std.proofs.Common.{refl, sym, ap, ap₂, subst, ◌∙◌}
use Rattle.std.specs.Coded.{Coded, coded×, coded_ℕ, coded_list}
use Rattle.std.specs.Ordering.{nat_cmp, eq_by_cmp, is_eq}
use Rattle.std.specs.Cmp.{nat_cmp_total, unsigned_tied, eq_by_cmp_equiv, alike_right}
use Rattle.std.specs.FinMap.{nat_cmp-IsAntisymmetric}
use Rattle.std.specs.FinMap.Entries.{find, put, where_key, is_sorted, is_sorted-put, is_sorted-where_key, find-put, find-where_key, same_entries}

pub record Records (X : Type 0) : Type 0 where
  pub list : List (ℕ × X)
  pub sorted : T (is_sorted nat_cmp list)

unfoldable pub get : {X : Type 0} → Records X → ℕ → Option X
get m n = find nat_cmp n m.list

unfoldable pub empty : {X : Type 0} → Records X
empty = record { list = []; sorted = tt }

unfoldable pub insert : {X : Type 0} → Records X → ℕ → X → Records X
insert m n x = record { list = put nat_cmp n x m.list; sorted = is_sorted-put nat_cmp nat_cmp_total n x m.list m.sorted }

-- the test that keeps every number but n
abbrev pub other_than : ℕ → ℕ → Bool
other_than n q = not (eq_by_cmp nat_cmp n q)

unfoldable pub remove : {X : Type 0} → Records X → ℕ → Records X
remove m n = record { list = where_key nat_cmp (other_than n) m.list; sorted = is_sorted-where_key nat_cmp (other_than n) m.list m.sorted }

-- the map of these entries; of two with one number the first stays
abbrev pub from_entries : {X : Type 0} → List (ℕ × X) → Records X
from_entries [] = empty
from_entries (e ∷ es) = insert (from_entries es) e.0 e.1

unfoldable pub size : {X : Type 0} → Records X → ℕ
size m = length m.list

unfoldable pub numbers : {X : Type 0} → Records X → List ℕ
numbers m = map (λ e. e.0) m.list

-- the map with the record that was found at n changed
abbrev pub changed : {X : Type 0} → Records X → ℕ → (X → X) → Option X → Records X
changed m n f None = m
changed m n f (Some x) = insert m n (f x)

unfoldable pub change : {X : Type 0} → ℕ → (X → X) → Records X → Records X
change n f m = changed m n f (get m n)

-- ---- The laws

is_sorted-prop : (b : Bool) → IsProp (T b)
is_sorted-prop true = λ x y. refl
is_sorted-prop false = λ x y. absurd x

-- two maps of one list are one
pub same_list : {X : Type 0} (m k : Records X) → m.list ≡ k.list → m ≡ k
same_list {X = X} m k e =
    subst (λ (es : List (ℕ × X)). (p : T (is_sorted nat_cmp es)) → m ≡ record { list = es; sorted = p }) e
    (λ p i. record { list = m.list; sorted = is_sorted-prop _ m.sorted p i }) k.sorted

abbrev pub records_code : {X : Type 0} → Coded X → Coded (Records X)
records_code x =
    let entries = coded_list (coded× coded_ℕ x) in
    record { code = λ m. entries.code m.list; inj = λ m k e. same_list m k (entries.inj m.list k.list e) }

cond-not : {A : Type 0} (b : Bool) (x y : A) → cond (not b) x y ≡ cond b y x
cond-not true x y = refl
cond-not false x y = refl

module _ {X : Type 0} where
  pub get-empty : (q : ℕ) → get (empty {X = X}) q ≡ None
  unfolding get empty
  get-empty q = refl

  pub get-insert : (m : Records X) (n : ℕ) (x : X) (q : ℕ) → get (insert m n x) q ≡ (if q == n then Some x else get m q)
  unfolding get insert
  get-insert m n x q = find-put nat_cmp nat_cmp_total q n x m.list ∙ ap (λ b. cond b (Some x) (find nat_cmp q m.list)) (unsigned_tied q n)

  pub get-remove : (m : Records X) (n q : ℕ) → get (remove m n) q ≡ (if q == n then None else get m q)
  unfolding get remove
  get-remove m n q =
      find-where_key nat_cmp (other_than n) q (λ x t. ap (λ r. not (is_eq r)) (sym (alike_right nat_cmp_total q x n t))) m.list
      ∙ cond-not (eq_by_cmp nat_cmp n q) _ _
      ∙ ap (λ b. cond b None (find nat_cmp q m.list)) ((eq_by_cmp_equiv nat_cmp_total).symm n q ∙ unsigned_tied q n)

  -- maps that have the same at each number are one
  pub same_map : (m k : Records X) → ((q : ℕ) → get m q ≡ get k q) → m ≡ k
  unfolding get
  same_map m k h = same_list m k (same_entries nat_cmp nat_cmp_total nat_cmp-IsAntisymmetric m.list k.list m.sorted k.sorted h)

  pub get-from_entries : (es : List (ℕ × X)) (q : ℕ) → get (from_entries es) q ≡ find nat_cmp q es
  get-from_entries [] q = get-empty q
  get-from_entries (e ∷ es) q = get-insert (from_entries es) e.0 e.1 q
      ∙ ap₂ (λ b o. cond b (Some e.1) o) (sym (unsigned_tied q e.0)) (get-from_entries es q)
