-- What the cells of names hold, and what a write of one leaves.
use Rattle.std.proofs.Common.{◌≡◌, ℕ, ◌<◌, List, [], ◌∷◌, ◌++◌, length, map, set, get_or, sym, ap, subst, ◌∙◌}
use Rattle.std.proofs.lemmas.List.{length-map, map-set, map_push, get_or-map, set-get_or}
use Rattle.table_links.specs.declared.links.LinkCell.{LinkCell}
use Rattle.table_links.specs.Rings.{cell_role, next_names, previous_names, roles_in}

module _ {P : Type 0} (cs : List (LinkCell P)) where
  -- a name with a role has a cell
  pub in_cells : (n : ℕ) → n < length (roles_in cs) → n < length cs
  in_cells n inside = subst (λ m. n < m) (length-map cs cell_role) inside

  module _ (n : ℕ) (read : LinkCell P) (inside : n < length cs) (is : read ≡ get_or cs n read) where
    pub part_read : {X : Type 0} (f : LinkCell P → X) (d : X) → f read ≡ get_or (map f cs) n d
    part_read f d = ap f is ∙ sym (get_or-map f cs n read d inside)

    -- a write of a cell that leaves this part of it
    pub part_kept : {X : Type 0} (f : LinkCell P → X) (cell : LinkCell P) → f cell ≡ f read → map f (set cs n cell) ≡ map f cs
    part_kept f cell same = map-set f cs n cell ∙ (ap (set (map f cs) n) (same ∙ part_read f (f read)) ∙ set-get_or (map f cs) n (f read))

  -- a cell more
  module _ (cell : LinkCell P) where
    pub next_pushed : next_names (cs ++ cell ∷ []) ≡ next_names cs ++ cell.next ∷ []
    next_pushed = map_push (λ (c : LinkCell P). c.next) cs cell

    pub previous_pushed : previous_names (cs ++ cell ∷ []) ≡ previous_names cs ++ cell.previous ∷ []
    previous_pushed = map_push (λ (c : LinkCell P). c.previous) cs cell

    pub roles_pushed : roles_in (cs ++ cell ∷ []) ≡ roles_in cs ++ cell_role cell ∷ []
    roles_pushed = map_push cell_role cs cell
