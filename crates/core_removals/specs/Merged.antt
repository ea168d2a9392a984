-- Two chains as one list, by the order keys of their nodes.
use Rattle.std.specs.Ordering.{is_lt}
use Rattle.std.specs.Prelude.{ℕ, Option, option_map, if◌then◌else◌, List, [], ◌∷◌, map}
use Rattle.table_lists.specs.declared.ordered_lists.OrderKey.{OrderKey}
use Rattle.table_links.specs.Links.{entries, head_of}
use Rattle.table_lists.specs.OrderKeys.{order_key_order}
use Rattle.core_records.specs.declared.parts.CoreParts.{CoreParts}
use Rattle.core_removals.specs.Walks.{of_node}

abbrev pub into : ℕ × OrderKey → (List (ℕ × OrderKey) → List (ℕ × OrderKey)) → List (ℕ × OrderKey) → List (ℕ × OrderKey)
into x rest [] = x ∷ rest []
into x rest (y ∷ ys) = if is_lt (order_key_order y.1 x.1) then y ∷ into x rest ys else x ∷ rest (y ∷ ys)

-- always the entry of the lesser order key of the two that come first
abbrev pub merged : List (ℕ × OrderKey) → List (ℕ × OrderKey) → List (ℕ × OrderKey)
merged [] ys = ys
merged (x ∷ xs) ys = into x (merged xs) ys

-- the numbers of the threads of two chains
abbrev pub of_both : CoreParts → (chain other : ℕ) → List ℕ
of_both a c d = map (λ e. of_node a e.0) (merged (entries a.places c) (entries a.places d))

-- the first node of both
abbrev pub first_of_both : CoreParts → (chain other : ℕ) → Option ℕ
first_of_both a c d = option_map (λ e. e.0) (head_of (merged (entries a.places c) (entries a.places d)))
