-- Laws of a second chain for each group's part of a list: it takes each push of a value of the group and each removal, and its first value is what a search for the group finds.
use Rattle.std.proofs.Common.{inl, inr, ◌≡◌, ◌==◌, ◌++◌, ◌⊎◌, ℕ, Bool, true, false, List, [], ◌∷◌, Option, Some, refl, sym, ap, ap₂, ◌∙◌, append-nil, filter}
use Rattle.table_lists.proofs.Lists.{filter-append, filter-less_by, filter-none, filter-one}
use Rattle.table_lists.proofs.Rows.{IsRows-pushed, IsRows-pushed_first, IsRows-removed}
use Rattle.table_lists.specs.Rows.{IsRows, less_by, part}
use Rattle.table_links.specs.Links.{IsLinks, Spot, entries, is_free, linked, removed}

module _ {G K P : Type 0} (in_group : G → P → Bool) (chain : G × K → Option ℕ) (node : P → ℕ) (Known : P → Type 0) (links : List (Spot P)) (list : K → List P) (rows : IsRows chain node Known links (part in_group list)) where
  module _ (new : List (Spot P)) (list' : K → List P) where
    module _ (g : G) (k : K) (c : ℕ) (at : chain (g, k) ≡ Some c) (decides : (j : K) → (j ≡ k) ⊎ (j ≡ k → ⊥)) (others : (j : K) → (j ≡ k → ⊥) → list' j ≡ list j) (v : P) (in_g : in_group g v ≡ true) (in_no_other : (h : G) → (h ≡ g → ⊥) → in_group h v ≡ false) (known : Known v) (free : is_free links (node v) ≡ true) where
      -- the parts of other groups and other lists stay
      parts_stay : (front back : List P) → list k ≡ front ++ back → list' k ≡ front ++ v ∷ back → (j : G × K) (d : ℕ) → chain j ≡ Some d → (j ≡ (g, k) → ⊥) → part in_group list' j ≡ part in_group list j
      parts_stay front back was is j d at_j other = elim (decides j.1) [
        | inl same ↦
            let out : in_group j.0 v ≡ false = in_no_other j.0 (λ same_g. other (ap₂ (λ (a : G) (b : K). (a, b)) same_g same)) in
            ap (filter (in_group j.0)) (ap list' same ∙ is) ∙ (without_v (in_group j.0) out ∙ sym (ap (filter (in_group j.0)) (ap list same ∙ was)))
        | inr differ ↦ ap (filter (in_group j.0)) (others j.1 differ)
      ]
        where
          without_v : (t : P → Bool) → t v ≡ false → filter t (front ++ v ∷ back) ≡ filter t (front ++ back)
          without_v t off = filter-append t front (v ∷ back) ∙ (ap (λ (l : List P). filter t front ++ l) (filter-append t (v ∷ []) back ∙ ap (λ (l : List P). l ++ filter t back) (filter-none t v off)) ∙ sym (filter-append t front back))

      pub IsRows-part_pushed : list' k ≡ list k ++ v ∷ [] → new ≡ linked c (node v) v (entries links c ++ (node v, v) ∷ []) links → IsRows chain node Known new (part in_group list')
      IsRows-part_pushed is puts = IsRows-pushed chain node Known links (part in_group list) rows new (part in_group list') (g, k) c at (parts_stay (list k) [] (sym (append-nil (list k))) is) v known free
          (ap (filter (in_group g)) is ∙ (filter-append (in_group g) (list k) (v ∷ []) ∙ ap (λ (l : List P). filter (in_group g) (list k) ++ l) (filter-one (in_group g) v in_g))) puts

      pub IsRows-part_pushed_first : list' k ≡ v ∷ list k → new ≡ linked c (node v) v ((node v, v) ∷ entries links c) links → IsRows chain node Known new (part in_group list')
      IsRows-part_pushed_first is puts = IsRows-pushed_first chain node Known links (part in_group list) rows new (part in_group list') (g, k) c at (parts_stay [] (list k) refl is) v known free
          (ap (filter (in_group g)) is ∙ (filter-append (in_group g) (v ∷ []) (list k) ∙ ap (λ (l : List P). l ++ filter (in_group g) (list k)) (filter-one (in_group g) v in_g))) puts

    -- a removal of what belongs to one group, or to none
    pub IsRows-part_removed : IsLinks links → (u : P → Bool) (n : ℕ) → ((x : P) → Known x → u x ≡ (node x == n)) → (belongs : G → Bool) → ((g : G) (x : P) → u x ≡ true → in_group g x ≡ belongs g) → ((k : K) → list' k ≡ less_by u (list k)) → new ≡ removed n links → IsRows chain node Known new (part in_group list')
    IsRows-part_removed sound u n knows belongs alike less takes = IsRows-removed chain node Known links (part in_group list) rows sound u n knows new (part in_group list') (λ j. ap (filter (in_group j.0)) (less j.1) ∙ filter-less_by (in_group j.0) u (belongs j.0) (alike j.0) (list j.1)) takes
