-- Lists of values that have nodes: what a removal, a filter and the first entry are on both sides.
use Rattle.std.proofs.Common.{inl, inr, ◌≡◌, ◌==◌, ◌++◌, ◌||◌, ℕ, Bool, true, false, cond, List, [], ◌∷◌, Some, map, filter, refl, sym, ap, ◌∙◌, option_map}
use Rattle.std.specs.List.{find, list_any}
use Rattle.std.proofs.lemmas.Bool.{eq-eqb, eqb-true, ne_eqb}
use Rattle.table_lists.specs.Rows.{Each, less_by, with_nodes}
use Rattle.table_links.specs.Links.{In, head_of, without}

module _ {P : Type 0} where
  -- ---- Filters

  pub filter-append : (t : P → Bool) (xs ys : List P) → filter t (xs ++ ys) ≡ filter t xs ++ filter t ys
  filter-append t [] ys = refl
  filter-append t (x ∷ xs) ys = by (t x) (filter-append t xs ys)
    where
      by : (b : Bool) → filter t (xs ++ ys) ≡ filter t xs ++ filter t ys → cond b (x ∷ filter t (xs ++ ys)) (filter t (xs ++ ys)) ≡ cond b (x ∷ filter t xs) (filter t xs) ++ filter t ys
      by true rest = ap (λ (l : List P). x ∷ l) rest
      by false rest = rest

  pub filter-one : (t : P → Bool) (v : P) → t v ≡ true → filter t (v ∷ []) ≡ v ∷ []
  filter-one t v is = ap (λ b. cond b (v ∷ []) []) is

  pub filter-none : (t : P → Bool) (v : P) → t v ≡ false → filter t (v ∷ []) ≡ []
  filter-none t v is = ap (λ b. cond b (v ∷ []) []) is

  -- nothing that the filter lets through is taken away
  less-kept : (t u : P → Bool) → ((x : P) → u x ≡ true → t x ≡ false) → (xs : List P) → less_by u (filter t xs) ≡ filter t xs
  less-kept t u apart [] = refl
  less-kept t u apart (x ∷ xs) = by (t x) refl (u x) refl (less-kept t u apart xs)
    where
      by : (d : Bool) → t x ≡ d → (e : Bool) → u x ≡ e → less_by u (filter t xs) ≡ filter t xs → less_by u (cond d (x ∷ filter t xs) (filter t xs)) ≡ cond d (x ∷ filter t xs) (filter t xs)
      by false is e takes rest = rest
      by true is true takes rest = absurd (let two = sym is ∙ apart x takes in cc)
      by true is false takes rest = ap (λ e. cond e (filter t xs) (x ∷ less_by u (filter t xs))) takes ∙ ap (λ (l : List P). x ∷ l) rest

  -- a removal of what the filter judges all alike
  pub filter-less_by : (t u : P → Bool) (b : Bool) → ((x : P) → u x ≡ true → t x ≡ b) → (xs : List P) → filter t (less_by u xs) ≡ less_by u (filter t xs)
  filter-less_by t u b alike [] = refl
  filter-less_by t u b alike (x ∷ xs) = by (u x) refl (t x) refl (filter-less_by t u b alike xs)
    where
      by : (e : Bool) → u x ≡ e → (d : Bool) → t x ≡ d → filter t (less_by u xs) ≡ less_by u (filter t xs) → filter t (cond e xs (x ∷ less_by u xs)) ≡ less_by u (cond d (x ∷ filter t xs) (filter t xs))
      by true takes true is rest = sym (ap (λ e. cond e (filter t xs) (x ∷ less_by u (filter t xs))) takes)
      by true takes false is rest = sym (less-kept t u (λ y takes_y. alike y takes_y ∙ (sym (alike x takes) ∙ is)) xs)
      by false takes true is rest = ap (λ d. cond d (x ∷ filter t (less_by u xs)) (filter t (less_by u xs))) is ∙ (ap (λ (l : List P). x ∷ l) rest ∙ sym (ap (λ e. cond e (filter t xs) (x ∷ less_by u (filter t xs))) takes))
      by false takes false is rest = ap (λ d. cond d (x ∷ filter t (less_by u xs)) (filter t (less_by u xs))) is ∙ rest

  -- ---- Values with their nodes

  module _ (node : P → ℕ) where
    pub values-with_nodes : (xs : List P) → map (λ e. e.1) (with_nodes node xs) ≡ xs
    values-with_nodes [] = refl
    values-with_nodes (x ∷ xs) = ap (λ (l : List P). x ∷ l) (values-with_nodes xs)

    pub with_nodes-more : (xs : List P) (v : P) → with_nodes node xs ++ (node v, v) ∷ [] ≡ with_nodes node (xs ++ v ∷ [])
    with_nodes-more [] v = refl
    with_nodes-more (x ∷ xs) v = ap (λ (l : List (ℕ × P)). (node x, x) ∷ l) (with_nodes-more xs v)

    -- the first of a filter is what a search finds
    pub head-filter : (t : P → Bool) (xs : List P) → option_map (λ e. e.1) (head_of (with_nodes node (filter t xs))) ≡ find t xs
    head-filter t [] = refl
    head-filter t (x ∷ xs) = by (t x) (head-filter t xs)
      where
        by : (b : Bool) → option_map (λ e. e.1) (head_of (with_nodes node (filter t xs))) ≡ find t xs → option_map (λ e. e.1) (head_of (with_nodes node (cond b (x ∷ filter t xs) (filter t xs)))) ≡ cond b (Some x) (find t xs)
        by true rest = refl
        by false rest = rest

  -- ---- What is known of each

  module _ (Known : P → Type 0) where
    pub Each-more : (xs : List P) (v : P) → Each Known xs → Known v → Each Known (xs ++ v ∷ [])
    Each-more [] v all here = (here, tt)
    Each-more (x ∷ xs) v all here = (all.0, Each-more xs v all.1 here)

    pub Each-less_by : (u : P → Bool) (xs : List P) → Each Known xs → Each Known (less_by u xs)
    Each-less_by u [] all = tt
    Each-less_by u (x ∷ xs) all = by (u x) (Each-less_by u xs all.1)
      where
        by : (b : Bool) → Each Known (less_by u xs) → Each Known (cond b xs (x ∷ less_by u xs))
        by true rest = all.1
        by false rest = (all.0, rest)

  -- ---- A test that knows a node

  module _ (node : P → ℕ) (Known : P → Type 0) (u : P → Bool) (n : ℕ) (knows : (x : P) → Known x → u x ≡ (node x == n)) where
    pub without-with_nodes : (xs : List P) → Each Known xs → without n (with_nodes node xs) ≡ with_nodes node (less_by u xs)
    without-with_nodes [] all = refl
    without-with_nodes (x ∷ xs) all = by (u x) (node x == n) (knows x all.0) (without-with_nodes xs all.1)
      where
        by : (b d : Bool) → b ≡ d → without n (with_nodes node xs) ≡ with_nodes node (less_by u xs) → cond d (with_nodes node xs) ((node x, x) ∷ without n (with_nodes node xs)) ≡ with_nodes node (cond b xs (x ∷ less_by u xs))
        by true true same rest = refl
        by true false same rest = absurd (cc)
        by false true same rest = absurd (cc)
        by false false same rest = ap (λ (l : List (ℕ × P)). (node x, x) ∷ l) rest

    -- the node isn't there, so nothing passes
    pub less-not_in : (xs : List P) → Each Known xs → (In n (with_nodes node xs) → ⊥) → less_by u xs ≡ xs
    less-not_in [] all out = refl
    less-not_in (x ∷ xs) all out = ap (λ b. cond b xs (x ∷ less_by u xs)) (knows x all.0 ∙ ne_eqb (node x) n (λ same. out (inl (sym same)))) ∙ ap (λ (l : List P). x ∷ l) (less-not_in xs all.1 (λ i. out (inr i)))

    -- nothing passes, so the node isn't there
    pub not_in : (xs : List P) → Each Known xs → list_any u xs ≡ false → In n (with_nodes node xs) → ⊥
    not_in [] all none i = i
    not_in (x ∷ xs) all none i = elim i [
      | inl here ↦ absurd (let passes : (u x || list_any u xs) ≡ true = ap (λ b. b || list_any u xs) (knows x all.0 ∙ eq-eqb (node x) n (sym here)) in let two = sym none ∙ passes in cc)
      | inr later ↦ not_in xs all.1 (rest (u x) none) later
    ]
      where
        rest : (b : Bool) → (b || list_any u xs) ≡ false → list_any u xs ≡ false
        rest true none = absurd (cc)
        rest false none = none

    -- something passes, so the node is there
    pub is_in : (xs : List P) → Each Known xs → list_any u xs ≡ true → In n (with_nodes node xs)
    is_in [] all any = absurd (cc)
    is_in (x ∷ xs) all any = by (u x) refl any (is_in xs all.1)
      where
        by : (b : Bool) → u x ≡ b → (b || list_any u xs) ≡ true → (list_any u xs ≡ true → In n (with_nodes node xs)) → In n ((node x, x) ∷ with_nodes node xs)
        by true passes any rest = inl (sym (eqb-true (node x) n (sym (knows x all.0) ∙ passes)))
        by false passes any rest = inr (rest any)
