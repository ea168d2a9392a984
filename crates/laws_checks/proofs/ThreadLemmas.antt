-- Threads that are blocked on the same.
use Rattle.laws_checks.specs.Twins.{AreAlike, AreTwinCores, blocked_in, blocks}
use Rattle.machine_data.proofs.CommuteLemmas.{get-change}
use Rattle.machine_data.specs.Core.{Core}
use Rattle.machine_data.specs.Maps.{Records, change, changed, get, get-insert, insert, numbers, size}
use Rattle.machine_data.specs.Read.{blocked_on, fits, is_at, is_blocked_on, place_of, same_subtask, table_use}
use Rattle.machine_data.specs.declared.records.Place.TheVariants as place
use Rattle.machine_data.specs.declared.records.Place.{Place}
use Rattle.machine_data.specs.declared.records.Subtask.{Subtask}
use Rattle.machine_data.specs.declared.records.Thread.{Thread}
use Rattle.std.proofs.Common.{Equal, Greater, Less, Ordering, T, ap, arith, cond, refl, subst, sym, ◌+◌, ◌∙◌}
use Rattle.std.proofs.lemmas.Bool.Decides.{nat_tests}
use Rattle.std.specs.Cmp.{nat_cmp_total}
use Rattle.std.specs.FinMap.Entries.{by_order, find as seek, is_sorted, length-put, put}
use Rattle.std.specs.Option.{option_map_or}
use Rattle.std.specs.Ordering.{is_eq, nat_cmp}
use Rattle.std.specs.Prelude.{Bool, List, None, Option, Some, [], false, find, is_some, length, map, option_map, suc, true, ℕ, ◌&&◌, ◌==◌, ◌∷◌, ◌≡◌}

-- ---- The numbers of a map

right : (a b : Bool) → T (a && b) → T b
right true b p = p
right false b p = absurd p

keys_put : {X : Type 0} (k : ℕ) (v : X) (es : List (ℕ × X)) → T (is_sorted nat_cmp es) → is_some (seek nat_cmp k es) ≡ true → map (λ e. e.0) (put nat_cmp k v es) ≡ map (λ e. e.0) es
keys_put k v [] sorted there = absurd (cc)
keys_put {X = X} k v (e ∷ es) sorted there = by (nat_cmp k e.0) refl (λ found. keys_put k v es (right _ _ sorted) found)
  where
    same_length : length (put nat_cmp k v (e ∷ es)) ≡ suc (length es)
    same_length = length-put nat_cmp nat_cmp_total k v (e ∷ es) sorted ∙ ap (λ b. cond b (suc (length es)) (suc (length es) + 1)) there

    later : nat_cmp k e.0 ≡ Greater → is_some (seek nat_cmp k es) ≡ true
    later h = subst (λ (o : Ordering). is_some (cond (is_eq o) (Some e.1) (seek nat_cmp k es)) ≡ true) h there

    by : (o : Ordering) → nat_cmp k e.0 ≡ o → (is_some (seek nat_cmp k es) ≡ true → map (λ (q : ℕ × X). q.0) (put nat_cmp k v es) ≡ map (λ (q : ℕ × X). q.0) es) → map (λ (q : ℕ × X). q.0) (by_order o ((k, v) ∷ e ∷ es) ((e.0, v) ∷ es) (e ∷ put nat_cmp k v es)) ≡ e.0 ∷ map (λ (q : ℕ × X). q.0) es
    by Less h rest = absurd (let long = sym same_length ∙ ap (λ (o : Ordering). length (by_order o ((k, v) ∷ e ∷ es) ((e.0, v) ∷ es) (e ∷ put nat_cmp k v es))) h in omega (arith, long))
    by Equal h rest = refl
    by Greater h rest = ap (λ (ks : List ℕ). e.0 ∷ ks) (rest (later h))

module _ {X : Type 0} (n : ℕ) (f : X → X) (m : Records X) where
  numbers_changed : (o : Option X) → get m n ≡ o → numbers (changed m n f o) ≡ numbers m
  unfolding numbers insert get
  numbers_changed None e = refl
  numbers_changed (Some x) e = keys_put n (f x) m.list m.sorted (ap is_some e)

  numbers_change : numbers (change n f m) ≡ numbers m
  unfolding change
  numbers_change = numbers_changed (get m n) refl

-- the numbers, with one more in its place
abbrev put_number : ℕ → List ℕ → List ℕ
put_number n [] = n ∷ []
put_number n (k ∷ ks) = by_order (nat_cmp n k) (n ∷ k ∷ ks) (k ∷ ks) (k ∷ put_number n ks)

put_key : {X : Type 0} (n : ℕ) (x : X) (es : List (ℕ × X)) → map (λ e. e.0) (put nat_cmp n x es) ≡ put_number n (map (λ e. e.0) es)
put_key n x [] = refl
put_key {X = X} n x (e ∷ es) = by (nat_cmp n e.0) (put_key n x es)
  where
    by : (o : Ordering) → map (λ (q : ℕ × X). q.0) (put nat_cmp n x es) ≡ put_number n (map (λ (q : ℕ × X). q.0) es) →
        map (λ (q : ℕ × X). q.0) (by_order o ((n, x) ∷ e ∷ es) ((e.0, x) ∷ es) (e ∷ put nat_cmp n x es)) ≡
        by_order o (n ∷ e.0 ∷ map (λ (q : ℕ × X). q.0) es) (e.0 ∷ map (λ (q : ℕ × X). q.0) es) (e.0 ∷ put_number n (map (λ (q : ℕ × X). q.0) es))
    by Less rest = refl
    by Equal rest = refl
    by Greater rest = ap (λ (ks : List ℕ). e.0 ∷ ks) rest

numbers_insert : {X : Type 0} (m : Records X) (n : ℕ) (x : X) → numbers (insert m n x) ≡ put_number n (numbers m)
unfolding numbers insert
numbers_insert m n x = put_key n x m.list

-- ---- Alike threads

pub alike_same : (m : Records Thread) → AreAlike m m
alike_same m = record { numbers = refl; blocked = λ q. refl }

pub alike_other : {m k : Records Thread} → AreAlike m k → AreAlike k m
alike_other a = record { numbers = sym a.numbers; blocked = λ q. sym (a.blocked q) }

pub alike_then : {m k l : Records Thread} → AreAlike m k → AreAlike k l → AreAlike m l
alike_then a b = record { numbers = a.numbers ∙ b.numbers; blocked = λ q. a.blocked q ∙ b.blocked q }

pub alike_insert : (m k : Records Thread) → AreAlike m k → (n : ℕ) (t : Thread) → AreAlike (insert m n t) (insert k n t)
alike_insert m k a n t = record {
  numbers = numbers_insert m n t ∙ (ap (put_number n) a.numbers ∙ sym (numbers_insert k n t));
  blocked = λ q.
      ap (λ (o : Option Thread). option_map blocks o) (get-insert m n t q)
      ∙ (by (q == n) (get m q) (get k q) (a.blocked q) ∙ sym (ap (λ (o : Option Thread). option_map blocks o) (get-insert k n t q)));
}
  where
    by : (b : Bool) (o p : Option Thread) → option_map blocks o ≡ option_map blocks p → option_map blocks (cond b (Some t) o) ≡ option_map blocks (cond b (Some t) p)
    by true o p e = refl
    by false o p e = e

-- a thread is changed so that it is blocked as before, or on something
pub alike_change : (m k : Records Thread) → AreAlike m k → (n : ℕ) (f g : Thread → Thread) → ((t u : Thread) → blocks t ≡ blocks u → blocks (f t) ≡ blocks (g u)) →
    AreAlike (change n f m) (change n g k)
alike_change m k a n f g same = record {
  numbers = numbers_change n f m ∙ (a.numbers ∙ sym (numbers_change n g k));
  blocked = λ q.
      ap (λ (o : Option Thread). option_map blocks o) (get-change n f m q)
      ∙ (by (q == n) (get m q) (get k q) (a.blocked q) ∙ sym (ap (λ (o : Option Thread). option_map blocks o) (get-change n g k q)));
}
  where
    value : (a b : Option Subtask) → Some a ≡ Some b → a ≡ b
    value a b e = cc

    by : (b : Bool) (o p : Option Thread) → option_map blocks o ≡ option_map blocks p → option_map blocks (cond b (option_map f o) o) ≡ option_map blocks (cond b (option_map g p) p)
    by true None None e = refl
    by true None (Some u) e = absurd (cc)
    by true (Some t) None e = absurd (cc)
    by true (Some t) (Some u) e = ap (λ (sub : Option Subtask). Some sub) (same t u (value (blocks t) (blocks u) e))
    by false o p e = e

abbrev pub nowhere : Thread → Option Subtask
nowhere t = None

-- the thread, if there is one, is blocked on nothing
abbrev pub IsFree : ℕ → Records Thread → Type 0
IsFree n m = option_map blocks (get m n) ≡ option_map nowhere (get m n)

-- such a thread is changed to one
pub alike_free : (m : Records Thread) (n : ℕ) (f : Thread → Thread) → IsFree n m → ((t : Thread) → blocks (f t) ≡ None) → AreAlike (change n f m) m
alike_free m n f free to = record {
  numbers = numbers_change n f m;
  blocked = λ q. ap (λ (o : Option Thread). option_map blocks o) (get-change n f m q) ∙ by q (q == n) refl;
}
  where
    changed_to : (o : Option Thread) → option_map blocks (option_map f o) ≡ option_map nowhere o
    changed_to None = refl
    changed_to (Some t) = ap (λ (sub : Option Subtask). Some sub) (to t)

    by : (q : ℕ) (b : Bool) → (q == n) ≡ b → option_map blocks (cond b (option_map f (get m q)) (get m q)) ≡ option_map blocks (get m q)
    by q true e =
        let same : q ≡ n = grind (arith, nat_tests, e) in
        changed_to (get m q) ∙ subst (λ (k : ℕ). option_map nowhere (get m k) ≡ option_map blocks (get m k)) (sym same) (sym free)
    by q false e = refl

-- one that is changed to be blocked on nothing is so
pub free_change : (m : Records Thread) (n k : ℕ) (f : Thread → Thread) → ((t : Thread) → blocks (f t) ≡ None) → IsFree n m → IsFree n (change k f m)
free_change m n k f to free =
    subst (λ (o : Option Thread). option_map blocks o ≡ option_map nowhere o) (sym (get-change k f m n)) (by (n == k) (get m n) free)
  where
    by : (b : Bool) (o : Option Thread) → option_map blocks o ≡ option_map nowhere o →
        option_map blocks (cond b (option_map f o) o) ≡ option_map nowhere (cond b (option_map f o) o)
    by true None e = refl
    by true (Some t) e = ap (λ (sub : Option Subtask). Some sub) (to t)
    by false o e = e

-- ---- What main and the polls read of them

find_same : (p q : ℕ → Bool) (ns : List ℕ) → ((n : ℕ) → p n ≡ q n) → find p ns ≡ find q ns
find_same p q [] same = refl
find_same p q (n ∷ ns) same = let rest = find_same p q ns same in let here = same n in grind arith

is_on : Subtask → Option Subtask → Bool
is_on sub None = false
is_on sub (Some on) = same_subtask sub on

on_is : (sub : Subtask) (p : Place) → is_blocked_on sub p ≡ is_on sub (blocked_in p)
unfolding is_on
on_is sub (place.Blocked on) = refl
on_is sub _ = refl

at_is : (sub : Subtask) (o : Option Thread) → option_map_or (is_blocked_on sub) (option_map (λ (t : Thread). t.place) o) false ≡ option_map_or (is_on sub) (option_map blocks o) false
at_is sub None = refl
at_is sub (Some t) = on_is sub t.place

pub same_blocked : (sub : Subtask) (s t : Core) → AreAlike s.threads t.threads → blocked_on sub s ≡ blocked_on sub t
unfolding blocked_on
same_blocked sub s t a =
    ap (λ (ns : List ℕ). find (λ n. is_at n s (is_blocked_on sub)) ns) a.numbers
    ∙ find_same (λ n. is_at n s (is_blocked_on sub)) (λ n. is_at n t (is_blocked_on sub)) (numbers t.threads)
    (λ n. at_is sub (get s.threads n) ∙ (ap (λ (o : Option (Option Subtask)). option_map_or (is_on sub) o false) (a.blocked n) ∙ sym (at_is sub (get t.threads n))))

length_map : {A B : Type 0} (f : A → B) (xs : List A) → length (map f xs) ≡ length xs
length_map f [] = refl
length_map f (x ∷ xs) = ap suc (length_map f xs)

size_is : (m : Records Thread) → length (numbers m) ≡ size m
unfolding numbers size
size_is m = length_map (λ e. e.0) m.list

pub same_size : (m k : Records Thread) → AreAlike m k → size m ≡ size k
same_size m k a = sym (size_is m) ∙ (ap (λ (ns : List ℕ). length ns) a.numbers ∙ size_is k)
