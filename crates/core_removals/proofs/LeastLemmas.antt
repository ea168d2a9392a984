-- The least of the numbers that pass is what the machine finds first.
use Rattle.core_records.proofs.Core.{[], ap, ap₂, arith, below_all, Bool, cond, Core, eq-eqb, eqb-true, false, first_at, get, has, inl, inr, is_le, is_lt, is_some, is_sorted, IsMembers-numbers, le_from_is_le, List, map, nat_cmp, nat_lt, None, numbers, Option, option_map, option_map_or, Ordering, Place, refl, Some, subst, sym, T, Thread, true, ℕ, ◌&&◌, ◌==◌, ◌||◌, ◌∙◌, ◌∷◌, ◌≡◌, ◌≤◌, ◌⊎◌}
use Rattle.std.proofs.lemmas.Bool.{and_parts, or_cases, or_right}
use Rattle.std.specs.List.{find}
use Rattle.machine_data.specs.Read.{is_at}
use Rattle.std.specs.declared.cmp.Ordering.TheVariants.{Less, Equal, Greater}
use Rattle.core_removals.specs.Least.{least_from, least_of, lesser}

-- nothing passes, or this does and nothing less
abbrev pub IsFirst : (ℕ → Bool) → Option ℕ → Type 0
IsFirst p None = (n : ℕ) → p n ≡ true → ⊥
IsFirst p (Some m) = (p m ≡ true) × ((n : ℕ) → p n ≡ true → m ≤ n)

pub one_first : (p : ℕ → Bool) (x y : Option ℕ) → IsFirst p x → IsFirst p y → x ≡ y
one_first p None None fx fy = refl
one_first p None (Some m) fx fy = absurd (fx m fy.0)
one_first p (Some m) None fx fy = absurd (fy m fx.0)
one_first p (Some m) (Some n) fx fy = let up = fx.1 n fy.0 in let down = fy.1 m fx.0 in ap (λ k. Some k) (let same : m ≡ n = omega (arith, up, down) in same)

pub same_first : (p q : ℕ → Bool) → ((n : ℕ) → q n ≡ p n) → (x : Option ℕ) → IsFirst p x → IsFirst q x
same_first p q same None first = λ n is. first n (sym (same n) ∙ is)
same_first p q same (Some m) first = (same m ∙ first.0, λ n is. first.1 n (sym (same n) ∙ is))

-- one more that is not less than one that passes
more_first : (p q : ℕ → Bool) (a b : ℕ) → p a ≡ true → a ≤ b → ((n : ℕ) → p n ≡ true → q n ≡ true) → ((n : ℕ) → q n ≡ true → (n ≡ b) ⊎ (p n ≡ true)) → (x : Option ℕ) → IsFirst p x → IsFirst q x
more_first p q a b passes above up down None first = absurd (first a passes)
more_first p q a b passes above up down (Some m) first = (up m first.0, λ n is. elim (down n is) [ inl same ↦ (let least = first.1 a passes in omega (arith, least, same, above)) | inr was ↦ first.1 n was ])

abbrev pub with_least : Option ℕ → List ℕ → List ℕ
with_least None ns = ns
with_least (Some m) ns = m ∷ ns

pub has_first : (n : ℕ) (ns : List ℕ) → has n (n ∷ ns) ≡ true
has_first n ns = ap (λ b. b || has n ns) (eq-eqb n n refl)

or_skip : (a b c : Bool) → (a || c) ≡ true → (a || (b || c)) ≡ true
or_skip true b c is = refl
or_skip false b c is = or_right b c is

pub least_first : (least : Option ℕ) (ns : List ℕ) → IsFirst (λ n. has n (with_least least ns)) (least_from least ns)
least_first None [] = λ n is. absurd (cc)
least_first (Some m) [] = (has_first m [], λ n is. let same : n ≡ m = eqb-true n m (alone (n == m) is) in omega (arith, same))
  where
    alone : (b : Bool) → (b || false) ≡ true → b ≡ true
    alone true is = refl
    alone false is = is
least_first None (n ∷ ns) = least_first (Some n) ns
least_first (Some m) (n ∷ ns) = by (nat_lt m n) refl (least_first (Some (lesser (Some m) n)) ns)
  where
    skipped : (k : ℕ) → has k (m ∷ ns) ≡ true → has k (m ∷ n ∷ ns) ≡ true
    skipped k is = or_skip (k == m) (k == n) (has k ns) is

    found : (k : ℕ) → has k (m ∷ n ∷ ns) ≡ true → (k ≡ n) ⊎ (has k (m ∷ ns) ≡ true)
    found k is = elim (or_cases (k == m) (has k (n ∷ ns)) is) [
      | inl first ↦ inr (ap (λ b. b || has k ns) first)
      | inr later ↦ elim (or_cases (k == n) (has k ns) later) [ inl second ↦ inl (eqb-true k n second) | inr rest ↦ inr (or_right (k == m) (has k ns) rest) ]
    ]

    first_or : (k : ℕ) → has k (m ∷ n ∷ ns) ≡ true → (k ≡ m) ⊎ (has k (n ∷ ns) ≡ true)
    first_or k is = elim (or_cases (k == m) (has k (n ∷ ns)) is) [ inl first ↦ inl (eqb-true k m first) | inr later ↦ inr later ]

    by : (b : Bool) → nat_lt m n ≡ b → IsFirst (λ k. has k (cond b m n ∷ ns)) (least_from (Some (cond b m n)) ns) → IsFirst (λ k. has k (m ∷ n ∷ ns)) (least_from (Some (cond b m n)) ns)
    by true less first = more_first (λ k. has k (m ∷ ns)) (λ k. has k (m ∷ n ∷ ns)) m n (has_first m ns) (let below : m ≤ n = grind (arith, less) in below) skipped found _ first
    by false less first = more_first (λ k. has k (n ∷ ns)) (λ k. has k (m ∷ n ∷ ns)) n m (has_first n ns) (let below : n ≤ m = grind (arith, less) in below) (λ k is. or_right (k == m) (has k (n ∷ ns)) is) first_or _ first

left : (a b : Bool) → T (a && b) → a ≡ true
left true b p = refl
left false b p = absurd p

pub right : (a b : Bool) → T (a && b) → T b
right true b p = p
right false b p = absurd p

lt_le : (o : Ordering) → is_lt o ≡ true → is_le o ≡ true
lt_le Less is = refl
lt_le Equal is = absurd (cc)
lt_le Greater is = absurd (cc)

T_left : (a b : Bool) → T (a && b) → T a
T_left true b p = tt
T_left false b p = absurd p

-- a number that fails is none of those that pass
pub first_fails : (p : ℕ → Bool) (m : ℕ) (ms : List ℕ) → p m ≡ false → (n : ℕ) → (has n (m ∷ ms) && p n) ≡ (has n ms && p n)
first_fails p m ms fails n = cases (n == m) refl
  where
    never : (a : Bool) → (a && false) ≡ false
    never true = refl
    never false = refl

    cases : (b : Bool) → (n == m) ≡ b → ((b || has n ms) && p n) ≡ (has n ms && p n)
    cases true is = let off : p n ≡ false = ap p (eqb-true n m is) ∙ fails in off ∙ sym (ap (λ b. has n ms && b) off ∙ never (has n ms))
    cases false is = refl

module _ {X : Type 0} where
  abbrev pub keys : List (ℕ × X) → List ℕ
  keys es = map (λ e. e.0) es

  pub sorted_below : (e : ℕ × X) (es : List (ℕ × X)) → T (is_sorted nat_cmp (e ∷ es)) → T (below_all nat_cmp e.0 es)
  sorted_below e es sorted = T_left _ _ sorted

  pub below_keys : (k n : ℕ) (es : List (ℕ × X)) → T (below_all nat_cmp k es) → has n (keys es) ≡ true → k ≤ n
  below_keys k n [] below is = absurd (cc)
  below_keys k n (e ∷ es) below is = elim (or_cases (n == e.0) (has n (keys es)) is) [
    | inl first ↦ subst (λ m. k ≤ m) (sym (eqb-true n e.0 first)) (le_from_is_le k e.0 (lt_le (nat_cmp k e.0) (left _ _ below)))
    | inr later ↦ below_keys k n es (right _ _ below) later
  ]

  found_first : (p : ℕ → Bool) (es : List (ℕ × X)) → T (is_sorted nat_cmp es) → IsFirst (λ n. has n (keys es) && p n) (find p (keys es))
  found_first p [] sorted = λ n is. absurd (cc)
  found_first p (e ∷ es) sorted = by (p e.0) refl (found_first p es (right _ _ sorted))
    where
      at_most : (n : ℕ) → (has n (keys (e ∷ es)) && p n) ≡ true → e.0 ≤ n
      at_most n is = elim (or_cases (n == e.0) (has n (keys es)) (and_parts _ _ is).0) [
        | inl first ↦ (let same = eqb-true n e.0 first in omega (arith, same))
        | inr later ↦ below_keys e.0 n es (sorted_below e es sorted) later
      ]

      other : p e.0 ≡ false → (n : ℕ) → (has n (keys (e ∷ es)) && p n) ≡ (has n (keys es) && p n)
      other fails n = first_fails p e.0 (keys es) fails n

      by : (b : Bool) → p e.0 ≡ b → IsFirst (λ n. has n (keys es) && p n) (find p (keys es)) → IsFirst (λ n. has n (keys (e ∷ es)) && p n) (cond b (Some e.0) (find p (keys es)))
      by true passes rest = (ap₂ (λ a b. a && b) (has_first e.0 (keys es)) passes, at_most)
      by false fails rest = same_first (λ n. has n (keys es) && p n) (λ n. has n (keys (e ∷ es)) && p n) (other fails) (find p (keys es)) rest

-- of a list of the threads at such places the least is the first there
pub least_at : (s : Core) (test : Place → Bool) (list : List ℕ) → ((n : ℕ) → has n list ≡ is_at n s test) → least_of list ≡ first_at test s
unfolding numbers
least_at s test list are =
    one_first (λ n. is_at n s test) (least_of list) (first_at test s)
    (same_first (λ n. has n list) (λ n. is_at n s test) (λ n. sym (are n)) (least_of list) (least_first None list))
    (same_first (λ n. has n (keys s.threads.list) && is_at n s test) (λ n. is_at n s test) (λ n. there n (get s.threads n) refl) (first_at test s) (found_first (λ n. is_at n s test) s.threads.list s.threads.sorted))
  where
    there : (n : ℕ) (o : Option Thread) → get s.threads n ≡ o → is_at n s test ≡ (has n (keys s.threads.list) && is_at n s test)
    there n None is = ap (λ (o : Option Thread). option_map_or test (option_map (λ (t : Thread). t.place) o) false) is ∙ sym (ap (λ b. b && is_at n s test) ((IsMembers-numbers s.threads).are n ∙ ap is_some is))
    there n (Some t) is = sym (ap (λ b. b && is_at n s test) ((IsMembers-numbers s.threads).are n ∙ ap is_some is))
