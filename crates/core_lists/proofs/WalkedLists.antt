-- A walk through a chain lists it.
use Rattle.core_lists.specs.Chains.{Adds, AddsPassing}
use Rattle.std.proofs.Common.{[], List, ap, cond, filter, map, refl, subst, sym, ℕ, ◌++◌, ◌∙◌, ◌∷◌, ◌≡◌}
use Rattle.std.proofs.lemmas.List.{append-nil, append_assoc, map-append}
use Rattle.std.specs.Prelude.{Bool, Err, IsPermutation, Ok, OnOk, Result, false, true}

module _ {A B : Type 0} (named : A → B) where
  -- one more of the list stands for what comes first of the rest
  pub listed_one : {P : Type 0} (of : ℕ → B) (all : List B) (before after : List A) (x : A) (e : ℕ × P) (left : List (ℕ × P)) → after ≡ before ++ x ∷ [] → named x ≡ of e.0 →
      Adds of all (map named before) (e ∷ left) → Adds of all (map named after) left
  listed_one of all before after x e left is same so_far =
      ap (λ l. map named l ++ map (λ d. of d.0) left) is
      ∙ (ap (λ l. l ++ map (λ d. of d.0) left) (map-append named before (x ∷ []))
      ∙ (append_assoc (map named before) (named x ∷ []) (map (λ d. of d.0) left)
      ∙ (ap (λ y. map named before ++ y ∷ map (λ d. of d.0) left) same ∙ so_far)))

-- so it is where only those that pass are listed
pub passing_one : {A P : Type 0} (named : A → ℕ) (test : ℕ → Bool) (of : ℕ → ℕ) (all : List ℕ) (before after : List A) (n : ℕ) (e : ℕ × P) (left : List (ℕ × P)) →
    map named after ≡ map named before ++ filter test (n ∷ []) → n ≡ of e.0 → AddsPassing test of all (map named before) (e ∷ left) → AddsPassing test of all (map named after) left
passing_one named test of all before after n e left is same so_far =
    ap (λ l. l ++ filter test (map (λ d. of d.0) left)) is
    ∙ (append_assoc (map named before) (filter test (n ∷ [])) (filter test (map (λ d. of d.0) left))
    ∙ (ap (λ l. map named before ++ l) (first_of (test n) ∙ ap (λ k. filter test (k ∷ map (λ d. of d.0) left)) same) ∙ so_far))
  where
    first_of : (b : Bool) → cond b (n ∷ []) [] ++ filter test (map (λ d. of d.0) left) ≡ cond b (n ∷ filter test (map (λ d. of d.0) left)) (filter test (map (λ d. of d.0) left))
    first_of true = refl
    first_of false = refl

-- what is left in the end is nothing
pub listed_all : {B : Type 0} (all listed : List B) → listed ++ [] ≡ all → listed ≡ all
listed_all all listed done = sym (append-nil listed) ∙ done

-- ---- What a list is in the end

pub on_ok : {X E P Q : Type 0} (o : Result X E) → (P → Q) → OnOk o P → OnOk o Q
on_ok (Ok x) leads h = leads h
on_ok (Err e) leads h = tt

-- what was added to nothing is all
pub lists_added : {X E A B : Type 0} (named : A → B) (o : Result X E) (ns added : List B) (before after : List A) → before ≡ [] → IsPermutation ns added → OnOk o (map named after ≡ map named before ++ added) → OnOk o (IsPermutation ns (map named after))
lists_added named o ns added before after none permutes h = on_ok o (λ is. subst (IsPermutation ns) (sym (is ∙ ap (λ l. map named l ++ added) none)) permutes) h
