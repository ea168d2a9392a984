-- Laws of the first of a chain.
use Rattle.std.proofs.Common.{◌≡◌, ℕ, inl, true, cond, List, [], ◌∷◌, drop, Option, Some, None, IsSome, refl, sym, ap, subst, ◌∙◌}
use Rattle.std.proofs.lemmas.Bool.{eq-eqb}
use Rattle.table_links.specs.Links.{Spot, In, IsLinks, entries, list_of, head_of, is_made, without, removed_by}
use Rattle.task_wait.specs.Sets.{without_first, without_entry}
use Rattle.table_links.proofs.ReadLemmas.{made_linked, entries-unlinked_same}

module _ {P : Type 0} where
  -- without its first, a chain has the rest of its list
  pub entries-without_first : (links : List (Spot P)) (c : ℕ) → IsLinks links → IsSome (list_of links c) → entries (without_first c links) c ≡ drop 1 (entries links c)
  entries-without_first links c sound live = by_list (entries links c) refl
    where
      by_list : (l : List (ℕ × P)) → entries links c ≡ l → entries (without_entry (head_of l) links) c ≡ drop 1 l
      by_list [] is = is
      by_list (e ∷ es) is =
          let link = sound.entered e.0 c (subst (In e.0) (sym is) (inl refl)) in
          ap (λ o. entries (removed_by e.0 o links) c) link.1
          ∙ (entries-unlinked_same links c e.0 (without e.0 (entries links c)) live (made_linked links e.0 c link.0 link.1)
          ∙ (ap (without e.0) is ∙ ap (λ t. cond t es (e ∷ without e.0 es)) (eq-eqb e.0 e.0 refl)))

  -- the first of a chain is made
  pub first_made : (links : List (Spot P)) (c n : ℕ) (v : P) → IsLinks links → head_of (entries links c) ≡ Some (n, v) → is_made links n ≡ true
  first_made links c n v sound first = by_list (entries links c) refl first
    where
      by_list : (l : List (ℕ × P)) → entries links c ≡ l → head_of l ≡ Some (n, v) → is_made links n ≡ true
      by_list [] is head = absurd (cc)
      by_list (e ∷ es) is head =
          let link = sound.entered e.0 c (subst (In e.0) (sym is) (inl refl)) in
          let same : e.0 ≡ n = ap (λ o. first_or o n) head in
          subst (λ k. is_made links k ≡ true) same (made_linked links e.0 c link.0 link.1)
        where
          first_or : Option (ℕ × P) → ℕ → ℕ
          first_or None d = d
          first_or (Some x) d = x.0
