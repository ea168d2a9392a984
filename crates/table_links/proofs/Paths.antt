-- Paths from name to name, and what an insertion and a removal make of them.
use Rattle.std.proofs.Common.{◌≡◌, ℕ, zero, suc, ◌<◌, ◌≤◌, ◌==◌, ◌⊎◌, inl, inr, true, false, cond, List, [], ◌∷◌, ◌++◌, length, map, Option, Some, None, refl, sym, ap, subst, ◌∙◌, arith}
use Rattle.std.specs.List.{IsDistinct, AllByRecursion, list_any}
use Rattle.std.proofs.lemmas.Bool.{eq-eqb, ne_eqb, eqb-true, or_cases, cases_lt}
use Rattle.std.proofs.lemmas.Map.Steps.{length-le_from_distinct_below}
use Rattle.std.proofs.lemmas.List.{get_or_past}
use Rattle.table_links.specs.declared.links.Role.{Role}
use Rattle.table_links.specs.declared.links.Role.TheVariants.{Unused, Linked}
use Rattle.table_links.specs.Links.{put_before, without, after, head_of, last_or, before_from}
use Rattle.table_links.specs.Rings.{at, role_at, role_value, grow, walk, In, Apart, Path}

module _ {P : Type 0} where
  -- the name before the rest of a list, and the first of a list
  abbrev pub end : ℕ → List (ℕ × P) → ℕ
  end s [] = s
  end s (e ∷ es) = end e.0 es

  abbrev pub start : List (ℕ × P) → ℕ → ℕ
  start [] to = to
  start (e ∷ es) to = e.0

  pub In-left : (n : ℕ) (a b : List (ℕ × P)) → In n a → In n (a ++ b)
  In-left n [] b i = absurd i
  In-left n (e ∷ es) b (inl same) = inl same
  In-left n (e ∷ es) b (inr i) = inr (In-left n es b i)

  pub In-right : (n : ℕ) (a b : List (ℕ × P)) → In n b → In n (a ++ b)
  In-right n [] b i = i
  In-right n (e ∷ es) b i = inr (In-right n es b i)

  pub In-append : (n : ℕ) (a b : List (ℕ × P)) → In n (a ++ b) → In n a ⊎ In n b
  In-append n [] b i = inr i
  In-append n (e ∷ es) b (inl same) = inl (inl same)
  In-append n (e ∷ es) b (inr i) = elim (In-append n es b i) [ inl l ↦ inl (inr l) | inr r ↦ inr r ]

  -- one entry more is in the list or is that one
  pub In-more : (n : ℕ) (x : ℕ × P) (a b : List (ℕ × P)) → In n (a ++ x ∷ b) → (n ≡ x.0) ⊎ In n (a ++ b)
  In-more n x [] b i = i
  In-more n x (e ∷ es) b (inl same) = inr (inl same)
  In-more n x (e ∷ es) b (inr i) = elim (In-more n x es b i) [ inl same ↦ inl same | inr r ↦ inr (inr r) ]

  pub In-with : (n : ℕ) (x : ℕ × P) (a b : List (ℕ × P)) → In n (a ++ b) → In n (a ++ x ∷ b)
  In-with n x [] b i = inr i
  In-with n x (e ∷ es) b (inl same) = inl same
  In-with n x (e ∷ es) b (inr i) = inr (In-with n x es b i)

  pub In-here : (x : ℕ × P) (a b : List (ℕ × P)) → In x.0 (a ++ x ∷ b)
  In-here x [] b = inl refl
  In-here x (e ∷ es) b = inr (In-here x es b)

  pub In-end : (s : ℕ) (a : List (ℕ × P)) → (end s a ≡ s) ⊎ In (end s a) a
  In-end s [] = inl refl
  In-end s (e ∷ es) = inr (elim (In-end e.0 es) [ inl same ↦ inl same | inr i ↦ inr i ])

  pub In-start : (b : List (ℕ × P)) (to : ℕ) → (start b to ≡ to) ⊎ In (start b to) b
  In-start [] to = inl refl
  In-start (e ∷ es) to = inr (inl refl)

  pub Apart-with : (x : ℕ × P) (a b : List (ℕ × P)) → (In x.0 (a ++ b) → ⊥) → Apart (a ++ b) → Apart (a ++ x ∷ b)
  Apart-with x [] b new apart = (new, apart)
  Apart-with x (e ∷ es) b new apart =
      (λ i. elim (In-more e.0 x es b i) [ inl same ↦ new (inl (sym same)) | inr r ↦ apart.0 r ], Apart-with x es b (λ i. new (inr i)) apart.1)

  pub Apart-less : (x : ℕ × P) (a b : List (ℕ × P)) → Apart (a ++ x ∷ b) → Apart (a ++ b)
  Apart-less x [] b apart = apart.1
  Apart-less x (e ∷ es) b apart = (λ i. apart.0 (In-with e.0 x es b i), Apart-less x es b apart.1)

  pub Apart-once : (x : ℕ × P) (a b : List (ℕ × P)) → Apart (a ++ x ∷ b) → In x.0 (a ++ b) → ⊥
  Apart-once x [] b apart i = apart.0 i
  Apart-once x (e ∷ es) b apart (inl same) = apart.0 (subst (λ n. In n (es ++ x ∷ b)) same (In-here x es b))
  Apart-once x (e ∷ es) b apart (inr i) = Apart-once x es b apart.1 i

  -- where a node is in a list
  pub split : (n : ℕ) (list : List (ℕ × P)) → In n list → (a : List (ℕ × P)) × ((b : List (ℕ × P)) × ((v : P) × (list ≡ a ++ (n, v) ∷ b)))
  split n [] i = absurd i
  split n (e ∷ es) (inl same) = ([], (es, (e.1, ap (λ m. (m, e.1) ∷ es) (sym same))))
  split n (e ∷ es) (inr i) = let (a, (b, (v, is))) = split n es i in (e ∷ a, (b, (v, ap (λ l. e ∷ l) is)))

  pub put_before-at : (n : ℕ) (v : P) (x : ℕ × P) (a b : List (ℕ × P)) → Apart (a ++ (n, v) ∷ b) → put_before n x (a ++ (n, v) ∷ b) ≡ a ++ x ∷ (n, v) ∷ b
  put_before-at n v x [] b apart = ap (λ t. cond t (x ∷ (n, v) ∷ b) ((n, v) ∷ put_before n x b)) (eq-eqb n n refl)
  put_before-at n v x (e ∷ es) b apart =
      ap (λ t. cond t (x ∷ e ∷ (es ++ (n, v) ∷ b)) (e ∷ put_before n x (es ++ (n, v) ∷ b))) (ne_eqb e.0 n (λ same. apart.0 (subst (λ m. In m (es ++ (n, v) ∷ b)) (sym same) (In-here (n, v) es b))))
      ∙ ap (λ l. e ∷ l) (put_before-at n v x es b apart.1)

  pub without-at : (n : ℕ) (v : P) (a b : List (ℕ × P)) → Apart (a ++ (n, v) ∷ b) → without n (a ++ (n, v) ∷ b) ≡ a ++ b
  without-at n v [] b apart = ap (λ t. cond t b ((n, v) ∷ without n b)) (eq-eqb n n refl)
  without-at n v (e ∷ es) b apart =
      ap (λ t. cond t (es ++ (n, v) ∷ b) (e ∷ without n (es ++ (n, v) ∷ b))) (ne_eqb e.0 n (λ same. apart.0 (subst (λ m. In m (es ++ (n, v) ∷ b)) (sym same) (In-here (n, v) es b))))
      ∙ ap (λ l. e ∷ l) (without-at n v es b apart.1)

  pub after-at : (n : ℕ) (v : P) (a b : List (ℕ × P)) → Apart (a ++ (n, v) ∷ b) → after n (a ++ (n, v) ∷ b) ≡ head_of b
  after-at n v [] b apart = ap (λ t. cond t (head_of b) (after n b)) (eq-eqb n n refl)
  after-at n v (e ∷ es) b apart =
      ap (λ t. cond t (head_of (es ++ (n, v) ∷ b)) (after n (es ++ (n, v) ∷ b))) (ne_eqb e.0 n (λ same. apart.0 (subst (λ m. In m (es ++ (n, v) ∷ b)) (sym same) (In-here (n, v) es b))))
      ∙ after-at n v es b apart.1

  pub before-at : (last : Option (ℕ × P)) (n : ℕ) (v : P) (a b : List (ℕ × P)) → Apart (a ++ (n, v) ∷ b) → before_from last n (a ++ (n, v) ∷ b) ≡ last_or last a
  before-at last n v [] b apart = ap (λ t. cond t last (before_from (Some (n, v)) n b)) (eq-eqb n n refl)
  before-at last n v (e ∷ es) b apart =
      ap (λ t. cond t last (before_from (Some e) n (es ++ (n, v) ∷ b))) (ne_eqb e.0 n (λ same. apart.0 (subst (λ m. In m (es ++ (n, v) ∷ b)) (sym same) (In-here (n, v) es b))))
      ∙ before-at (Some e) n v es b apart.1

  module _ (nx pv : List ℕ) (rs : List (Role P)) (c : ℕ) where
    pub Path-start : (s : ℕ) (b : List (ℕ × P)) (to : ℕ) → Path nx pv rs c s b to → at nx s ≡ start b to
    Path-start s [] to path = path.0
    Path-start s (e ∷ es) to path = path.0

    pub Path-end : (s : ℕ) (a : List (ℕ × P)) (to : ℕ) → Path nx pv rs c s a to → at pv to ≡ end s a
    Path-end s [] to path = path.1
    Path-end s (e ∷ es) to path = Path-end e.0 es to path.1.1.1

    -- the neighbours of a node
    pub Path-next : (s x : ℕ) (v : P) (a b : List (ℕ × P)) (to : ℕ) → Path nx pv rs c s (a ++ (x, v) ∷ b) to → at nx x ≡ start b to
    Path-next s x v [] b to path = Path-start x b to path.1.1.1
    Path-next s x v (e ∷ es) b to path = Path-next e.0 x v es b to path.1.1.1

    pub Path-previous : (s x : ℕ) (v : P) (a b : List (ℕ × P)) (to : ℕ) → Path nx pv rs c s (a ++ (x, v) ∷ b) to → at pv x ≡ end s a
    Path-previous s x v [] b to path = path.1.0
    Path-previous s x v (e ∷ es) b to path = Path-previous e.0 x v es b to path.1.1.1

    pub Path-role : (s : ℕ) (list : List (ℕ × P)) (to n : ℕ) → Path nx pv rs c s list to → In n list → (v : P) × (role_at rs n ≡ Linked c v)
    Path-role s [] to n path i = absurd i
    Path-role s (e ∷ es) to n path (inl same) = (e.1, ap (role_at rs) same ∙ path.1.1.0)
    Path-role s (e ∷ es) to n path (inr i) = Path-role e.0 es to n path.1.1.1 i

    pub Path-value : (s x : ℕ) (v : P) (a b : List (ℕ × P)) (to : ℕ) → Path nx pv rs c s (a ++ (x, v) ∷ b) to → role_at rs x ≡ Linked c v
    Path-value s x v [] b to path = path.1.1.0
    Path-value s x v (e ∷ es) b to path = Path-value e.0 x v es b to path.1.1.1

    -- following the names gives the list
    pub walk-path : (s : ℕ) (list : List (ℕ × P)) (to k : ℕ) → length list ≤ k → role_value (role_at rs to) ≡ None → Path nx pv rs c s list to → walk nx rs k (at nx s) ≡ list
    unfolding walk
    walk-path s [] to zero short none path = refl
    walk-path s [] to (suc k) short none path =
        ap (λ n. grow n (role_value (role_at rs n)) (walk nx rs k (at nx n))) path.0
        ∙ ap (λ o. grow to o (walk nx rs k (at nx to))) none
    walk-path s (e ∷ es) to zero short none path = absurd (omega arith)
    walk-path s (e ∷ es) to (suc k) short none path =
        ap (λ n. grow n (role_value (role_at rs n)) (walk nx rs k (at nx n))) path.0
        ∙ (ap (λ r. grow e.0 (role_value r) (walk nx rs k (at nx e.0))) path.1.1.0
        ∙ ap (λ l. e ∷ l) (walk-path e.0 es to k (omega arith) none path.1.1.1))

  -- a path whose names are as they were
  pub Path-frame : (nx pv nx' pv' : List ℕ) (rs rs' : List (Role P)) (c s : ℕ) (list : List (ℕ × P)) (to : ℕ) → at nx' s ≡ at nx s → at pv' to ≡ at pv to → ((q : ℕ) → In q list → (at nx' q ≡ at nx q) × ((at pv' q ≡ at pv q) × (role_at rs' q ≡ role_at rs q))) → Path nx pv rs c s list to → Path nx' pv' rs' c s list to
  Path-frame nx pv nx' pv' rs rs' c s [] to from back kept path = (from ∙ path.0, back ∙ path.1)
  Path-frame nx pv nx' pv' rs rs' c s (e ∷ es) to from back kept path =
      let k = kept e.0 (inl refl) in
      (from ∙ path.0, (k.1.0 ∙ path.1.0, (k.1.1 ∙ path.1.1.0, Path-frame nx pv nx' pv' rs rs' c e.0 es to k.0 back (λ q i. kept q (inr i)) path.1.1.1)))

  any_in : (n : ℕ) (list : List (ℕ × P)) → list_any (λ y. n == y) (map (λ e. e.0) list) ≡ true → In n list
  any_in n [] any = absurd (cc)
  any_in n (e ∷ es) any = elim (or_cases (n == e.0) _ any) [ inl here ↦ inl (eqb-true n e.0 here) | inr more ↦ inr (any_in n es more) ]

  none_in : (n : ℕ) (list : List (ℕ × P)) → (In n list → ⊥) → AllByRecursion (λ y. (n == y) ≡ false) (map (λ e. e.0) list)
  none_in n [] none = tt
  none_in n (e ∷ es) none = (ne_eqb n e.0 (λ same. none (inl same)), none_in n es (λ i. none (inr i)))

  distinct : (list : List (ℕ × P)) → Apart list → IsDistinct (λ x y. x == y) (map (λ e. e.0) list)
  unfolding IsDistinct
  distinct [] apart = tt
  distinct (e ∷ es) apart = (none_in e.0 es apart.0, distinct es apart.1)

  length-keys : (list : List (ℕ × P)) → length (map (λ e. e.0) list) ≡ length list
  length-keys [] = refl
  length-keys (e ∷ es) = ap suc (length-keys es)

  pub used_within : (rs : List (Role P)) (n c : ℕ) (v : P) → role_at rs n ≡ Linked c v → n < length rs
  used_within rs n c v is = elim (cases_lt n (length rs)) [ inl within ↦ within | inr past ↦ absurd (let e = sym (get_or_past rs n Unused past) ∙ is in cc) ]

  -- a list of nodes that are apart is no longer than the names
  pub path_short : (nx pv : List ℕ) (rs : List (Role P)) (c s : ℕ) (list : List (ℕ × P)) (to : ℕ) → Path nx pv rs c s list to → Apart list → length list ≤ length rs
  path_short nx pv rs c s list to path apart =
      let few = length-le_from_distinct_below (map (λ e. e.0) list) (length rs) (distinct list apart)
      (λ q any. let is = Path-role nx pv rs c s list to q path (any_in q list any) in used_within rs q c is.0 is.1) in
      let same = length-keys list in omega arith
