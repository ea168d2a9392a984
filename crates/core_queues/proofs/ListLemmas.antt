-- Lists of entries: a test of what they hold, in the machine's list and in the core's.
use Rattle.core_records.proofs.Core.{[], ap, ap₂, arith, Bool, cond, Each, Entry, false, filter, is_entry_of, less_by, List, list_any, map, None, one_if, refl, same_Some, Some, subst, suc, sym, true, work_entries, ℕ, ◌+◌, ◌==◌, ◌||◌, ◌∙◌, ◌∷◌, ◌≡◌}
use Rattle.std.proofs.Common.{option_map}
use Rattle.std.specs.List.{find}
use Rattle.machine_rules.specs.Places.{entries}
use Rattle.core_queues.specs.OrderKeys.{is_entry_of_work}

-- two tests that follow from one another are one
pub same_test : (a b : Bool) → (a ≡ true → b ≡ true) → (b ≡ true → a ≡ true) → a ≡ b
same_test true b to from = sym (to refl)
same_test false true to from = from refl
same_test false false to from = refl

module _ {P Q : Type 0} (Known : P → Type 0) (f : P → Q) where
  module _ (u : P → Bool) (t : Q → Bool) where
    -- a test of each element that is the other's of what it holds
    module _ (same : (x : P) → Known x → u x ≡ t (f x)) where
      pub map-less_known : (xs : List P) → Each Known xs → map f (less_by u xs) ≡ less_by t (map f xs)
      map-less_known [] all = refl
      map-less_known (x ∷ xs) all = by (u x) (t (f x)) (same x all.0) (map-less_known xs all.1)
        where
          by : (b d : Bool) → b ≡ d → map f (less_by u xs) ≡ less_by t (map f xs) → map f (cond b xs (x ∷ less_by u xs)) ≡ cond d (map f xs) (f x ∷ less_by t (map f xs))
          by true true is rest = refl
          by true false is rest = absurd (cc)
          by false true is rest = absurd (cc)
          by false false is rest = ap (λ (l : List Q). f x ∷ l) rest

      pub any-known : (xs : List P) → Each Known xs → list_any u xs ≡ list_any t (map f xs)
      any-known [] all = refl
      any-known (x ∷ xs) all = ap₂ (λ b d. b || d) (same x all.0) (any-known xs all.1)

      pub find-known : (xs : List P) → Each Known xs → find t (map f xs) ≡ option_map f (find u xs)
      find-known [] all = refl
      find-known (x ∷ xs) all = by (u x) (t (f x)) (same x all.0) (find-known xs all.1)
        where
          by : (b d : Bool) → b ≡ d → find t (map f xs) ≡ option_map f (find u xs) → cond d (Some (f x)) (find t (map f xs)) ≡ option_map f (cond b (Some x) (find u xs))
          by true true is rest = refl
          by true false is rest = absurd (cc)
          by false true is rest = absurd (cc)
          by false false is rest = rest

    -- where nothing passes the one test nothing passes the narrower one
    pub none_passes : ((x : P) → Known x → u x ≡ true → t (f x) ≡ true) → (xs : List P) → Each Known xs → list_any t (map f xs) ≡ false → list_any u xs ≡ false
    none_passes narrower [] all none = refl
    none_passes narrower (x ∷ xs) all none = by (u x) refl (t (f x)) refl none (none_passes narrower xs all.1)
      where
        by : (b : Bool) → u x ≡ b → (d : Bool) → t (f x) ≡ d → (d || list_any t (map f xs)) ≡ false → (list_any t (map f xs) ≡ false → list_any u xs ≡ false) → (b || list_any u xs) ≡ false
        by b is true other none rest = absurd (cc)
        by true is false other none rest = absurd (let two = sym other ∙ narrower x all.0 is in cc)
        by false is false other none rest = rest none

module _ {P : Type 0} where
  pub find-none : (Known : P → Type 0) (u : P → Bool) → ((x : P) → Known x → u x ≡ false) → (xs : List P) → Each Known xs → find u xs ≡ None
  find-none Known u none [] all = refl
  find-none Known u none (x ∷ xs) all = ap (λ b. cond b (Some x) (find u xs)) (none x all.0) ∙ find-none Known u none xs all.1

  pub none_of_these : (Known : P → Type 0) (u : P → Bool) → ((x : P) → Known x → u x ≡ true → ⊥) → (xs : List P) → Each Known xs → list_any u xs ≡ false
  none_of_these Known u none [] all = refl
  none_of_these Known u none (x ∷ xs) all = by (u x) refl (none_of_these Known u none xs all.1)
    where
      by : (b : Bool) → u x ≡ b → list_any u xs ≡ false → (b || list_any u xs) ≡ false
      by true is rest = absurd (none x all.0 is)
      by false is rest = rest

  -- what is found is known and passes
  pub find-some : (Known : P → Type 0) (u : P → Bool) (xs : List P) (y : P) → Each Known xs → find u xs ≡ Some y → Known y × (u y ≡ true)
  find-some Known u [] y all is = absurd (cc)
  find-some Known u (x ∷ xs) y all is = by (u x) refl is (find-some Known u xs y all.1)
    where
      by : (b : Bool) → u x ≡ b → cond b (Some x) (find u xs) ≡ Some y → (find u xs ≡ Some y → Known y × (u y ≡ true)) → Known y × (u y ≡ true)
      by true passes is rest = subst (λ (z : P). Known z × (u z ≡ true)) (same_Some x y is) (all.0, passes)
      by false passes is rest = rest is

  pub less_nothing : (xs : List P) → less_by (λ x. false) xs ≡ xs
  less_nothing [] = refl
  less_nothing (x ∷ xs) = ap (λ (l : List P). x ∷ l) (less_nothing xs)

  -- a part of a list in which nothing passes
  pub none_in_part : (t u : P → Bool) (xs : List P) → list_any u xs ≡ false → list_any u (filter t xs) ≡ false
  none_in_part t u [] none = refl
  none_in_part t u (x ∷ xs) none = by (t x) (u x) refl none (none_in_part t u xs)
    where
      by : (d b : Bool) → u x ≡ b → (b || list_any u xs) ≡ false → (list_any u xs ≡ false → list_any u (filter t xs) ≡ false) → list_any u (cond d (x ∷ filter t xs) (filter t xs)) ≡ false
      by d true is none rest = absurd (cc)
      by true false is none rest = ap (λ b. b || list_any u (filter t xs)) is ∙ rest none
      by false false is none rest = rest none

  -- a part has what passes, and of what was known
  pub Each-part : (Known Good : P → Type 0) (t : P → Bool) → ((x : P) → Known x → t x ≡ true → Good x) → (xs : List P) → Each Known xs → Each Good (filter t xs)
  Each-part Known Good t good [] all = tt
  Each-part Known Good t good (x ∷ xs) all = by (t x) refl (Each-part Known Good t good xs all.1)
    where
      by : (b : Bool) → t x ≡ b → Each Good (filter t xs) → Each Good (cond b (x ∷ filter t xs) (filter t xs))
      by true is rest = (good x all.0 is, rest)
      by false is rest = rest

  pub Each-weaker : (Known Good : P → Type 0) → ((x : P) → Known x → Good x) → (xs : List P) → Each Known xs → Each Good xs
  Each-weaker Known Good good [] all = tt
  Each-weaker Known Good good (x ∷ xs) all = (good x all.0, Each-weaker Known Good good xs all.1)

-- ---- Counted entries

pub no_entry : (n : ℕ) (es : List Entry) → entries n es ≡ 0 → list_any (is_entry_of n) es ≡ false
no_entry n [] none = refl
no_entry n (e ∷ es) none = by (is_entry_of n e) none (no_entry n es)
  where
    by : (b : Bool) → one_if b + entries n es ≡ 0 → (entries n es ≡ 0 → list_any (is_entry_of n) es ≡ false) → (b || list_any (is_entry_of n) es) ≡ false
    by true none rest = absurd (omega (arith, none))
    by false none rest = rest (omega (arith, none))

none_counted : (i : ℕ) (es : List Entry) (b : Bool) → cond b (suc (work_entries i es)) (work_entries i es) ≡ 0 → (work_entries i es ≡ 0 → list_any (is_entry_of_work i) es ≡ false) → (b || list_any (is_entry_of_work i) es) ≡ false
none_counted i es true none rest = absurd (omega (arith, none))
none_counted i es false none rest = rest none

pub no_work_entry : (i : ℕ) (es : List Entry) → work_entries i es ≡ 0 → list_any (is_entry_of_work i) es ≡ false
no_work_entry i [] none = refl
no_work_entry i (Entry.Thread n ∷ es) none = no_work_entry i es none
no_work_entry i (Entry.Push j ∷ es) none = none_counted i es (i == j) none (no_work_entry i es)
no_work_entry i (Entry.Host j ∷ es) none = none_counted i es (i == j) none (no_work_entry i es)

-- a part that has none of what is taken away
pub filter-less_out : {P : Type 0} (t u : P → Bool) → ((x : P) → u x ≡ true → t x ≡ false) → (xs : List P) → filter t (less_by u xs) ≡ filter t xs
filter-less_out t u out [] = refl
filter-less_out {P} t u out (x ∷ xs) = by (u x) refl (t x) refl (filter-less_out t u out xs)
  where
    by : (b : Bool) → u x ≡ b → (d : Bool) → t x ≡ d → filter t (less_by u xs) ≡ filter t xs → filter t (cond b xs (x ∷ less_by u xs)) ≡ cond d (x ∷ filter t xs) (filter t xs)
    by true takes true is rest = absurd (let two = sym is ∙ out x takes in cc)
    by true takes false is rest = refl
    by false takes true is rest = ap (λ d. cond d (x ∷ filter t (less_by u xs)) (filter t (less_by u xs))) is ∙ ap (λ (l : List P). x ∷ l) rest
    by false takes false is rest = ap (λ d. cond d (x ∷ filter t (less_by u xs)) (filter t (less_by u xs))) is ∙ rest
