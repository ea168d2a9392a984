-- How a `Links` lays out its chains: each is a ring of next and previous names that begins and ends at the chain's own. No public clause
-- cites this module.
use Rattle.std.specs.Prelude.{◌≡◌, ℕ, zero, suc, ◌==◌, if◌then◌else◌, Bool, true, false, List, [], ◌∷◌, length, map, slice_index_or, slice_get, count_by, option_map, Option, Some, None, IfOk, Result}
pub use Rattle.table_links.specs.Links.{In, Apart}
use Rattle.table_links.specs.Links.{Spot, Unmade, ChainOf, FreeNode, LinkedNode, Renames}
use Rattle.table_links.specs.declared.links.LinkCell.{LinkCell}
use Rattle.table_links.specs.declared.links.Role.{Role}
use Rattle.table_links.specs.declared.links.Role.TheVariants.{Unused, Chain, Free, Linked}
use Rattle.table_links.specs.declared.links.Use.{Use}
use Rattle.table_links.specs.declared.links.Use.TheVariants as use_of

abbrev pub at : List ℕ → ℕ → ℕ
at xs n = slice_index_or xs n 0

-- the unused names, from the one that is given next, each before the next one; past the last is a number that none is named by
abbrev pub UnusedFrom : List ℕ → ℕ → List ℕ → Type 0
UnusedFrom next first [] = first ≡ 18446744073709551615
UnusedFrom next first (n ∷ ns) = (first ≡ n) × UnusedFrom next (at next n) ns

module _ {P : Type 0} where
  -- the name after each one, the name before it, and what it represents
  abbrev pub next_names : List (LinkCell P) → List ℕ
  next_names cs = map (λ c. c.next) cs

  abbrev pub previous_names : List (LinkCell P) → List ℕ
  previous_names cs = map (λ c. c.previous) cs

  abbrev pub role_as : Use → ℕ → P → Role P
  role_as use_of.Nothing chain value = Unused
  role_as use_of.Chain chain value = Chain
  role_as use_of.FreeNode chain value = Free
  role_as use_of.LinkedNode chain value = Linked chain value

  -- only a linked node's chain and value say something
  abbrev pub cell_role : LinkCell P → Role P
  cell_role c = role_as c.used c.chain c.value

  abbrev pub roles_in : List (LinkCell P) → List (Role P)
  roles_in cs = map cell_role cs

  abbrev pub role_at : List (Role P) → ℕ → Role P
  role_at rs n = slice_index_or rs n Unused

  abbrev pub role_value : Role P → Option P
  role_value Unused = None
  role_value Chain = None
  role_value Free = None
  role_value (Linked chain value) = Some value

  abbrev pub grow : ℕ → Option P → List (ℕ × P) → List (ℕ × P)
  grow n None list = []
  grow n (Some value) list = (n, value) ∷ list

  -- the nodes that follow from this name on, at most so many
  unfoldable pub walk : List ℕ → List (Role P) → ℕ → ℕ → List (ℕ × P)
  walk next rs zero n = []
  walk next rs (suc k) n = grow n (role_value (role_at rs n)) (walk next rs k (at next n))

  -- the list of a chain
  abbrev pub ring_list : List ℕ → List (Role P) → ℕ → List (ℕ × P)
  ring_list next rs chain = walk next rs (length rs) (at next chain)

  abbrev pub spot_of : List ℕ → List (Role P) → ℕ → Role P → Spot P
  spot_of next rs n Unused = Unmade
  spot_of next rs n Chain = ChainOf (ring_list next rs n)
  spot_of next rs n Free = FreeNode
  spot_of next rs n (Linked chain value) = LinkedNode chain value

  abbrev pub spots_from : List ℕ → List (Role P) → ℕ → List (Role P) → List (Spot P)
  spots_from next rs n [] = []
  spots_from next rs n (r ∷ more) = spot_of next rs n r ∷ spots_from next rs (suc n) more

  -- what contracts see
  unfoldable pub shown : List ℕ → List (Role P) → List (Spot P)
  shown next rs = spots_from next rs 0 rs

  -- from one name to another by the nodes of the list, which are in this chain
  abbrev pub Path : List ℕ → List ℕ → List (Role P) → ℕ → ℕ → List (ℕ × P) → ℕ → Type 0
  Path next previous rs chain from [] to = (at next from ≡ to) × (at previous to ≡ from)
  Path next previous rs chain from (e ∷ es) to =
      (at next from ≡ e.0) × ((at previous e.0 ≡ from) × ((role_at rs e.0 ≡ Linked chain e.1) × Path next previous rs chain e.0 es to))

  -- what a name newly represents
  abbrev pub new_spot : Role P → Spot P
  new_spot Unused = Unmade
  new_spot Chain = ChainOf []
  new_spot Free = FreeNode
  new_spot (Linked chain value) = LinkedNode chain value

  abbrev pub role_is_new : Role P → Bool
  role_is_new Unused = false
  role_is_new Chain = true
  role_is_new Free = true
  role_is_new (Linked chain value) = false

  abbrev pub role_is_unused : Role P → Bool
  role_is_unused Unused = true
  role_is_unused Chain = false
  role_is_unused Free = false
  role_is_unused (Linked chain value) = false

  abbrev pub role_is_chain : Role P → Bool
  role_is_chain Unused = false
  role_is_chain Chain = true
  role_is_chain Free = false
  role_is_chain (Linked chain value) = false

  abbrev pub role_is_free : Role P → Bool
  role_is_free Unused = false
  role_is_free Chain = false
  role_is_free Free = true
  role_is_free (Linked chain value) = false

  abbrev pub role_is_node : Role P → Bool
  role_is_node Unused = false
  role_is_node Chain = false
  role_is_node Free = true
  role_is_node (Linked chain value) = true

  abbrev pub is_unused_at : Option (Role P) → Bool
  is_unused_at None = false
  is_unused_at (Some r) = role_is_unused r

  -- the node of this name with its value, if it is in a chain
  abbrev pub entry_at : List (Role P) → ℕ → Option (ℕ × P)
  entry_at rs n = option_map (λ value. (n, value)) (role_value (role_at rs n))

-- the list goes once round the ring of the chain
pub record IsRing {P : Type 0} (next previous : List ℕ) (rs : List (Role P)) (chain : ℕ) (list : List (ℕ × P)) : Type 0 where
  pub path : Path next previous rs chain chain list chain
  pub apart : Apart list

-- each chain is a ring, and each node that is linked is in its chain's
pub record AreRings {P : Type 0} (next previous : List ℕ) (rs : List (Role P)) : Type 0 where
  pub as_many_next : length next ≡ length rs
  pub as_many_previous : length previous ≡ length rs
  pub rings : (chain : ℕ) → role_at rs chain ≡ Chain → IsRing next previous rs chain (ring_list next rs chain)
  pub owned : (node chain : ℕ) (value : P) → role_at rs node ≡ Linked chain value →
      (role_at rs chain ≡ Chain) × In node (ring_list next rs chain)

-- The rings are, and each unused name is one of those that are given next, once.
pub record IsSound {P : Type 0} (next previous : List ℕ) (rs : List (Role P)) (unused : ℕ) : Type 0 where
  pub rings : AreRings next previous rs
  pub names : List ℕ
  pub unused_once : (n : ℕ) → count_by (λ m. m == n) names ≡ (if is_unused_at (slice_get rs n) then 1 else 0)
  pub chained : UnusedFrom next unused names

-- what the cells show
abbrev pub shown_cells : {P : Type 0} → List (LinkCell P) → List (Spot P)
shown_cells cs = shown (next_names cs) (roles_in cs)

-- The cells are sound, with this name unused first.
abbrev pub AreSoundCells : {P : Type 0} → List (LinkCell P) → (unused : ℕ) → Type 0
AreSoundCells cs unused = IsSound (next_names cs) (previous_names cs) (roles_in cs) unused

abbrev pub StaySound : {P : Type 0} → (old new : List (LinkCell P)) → Type 0
StaySound old new = (unused : ℕ) → AreSoundCells old unused → AreSoundCells new unused

-- A name that named nothing has this role.
abbrev pub NamesNew : {P E : Type 0} → Role P → (old new : List (LinkCell P)) → Result ℕ E → Type 0
NamesNew role old new result = (unused : ℕ) → AreSoundCells old unused →
    IfOk result (λ index. Renames (shown_cells old) (shown_cells new) index Unmade (new_spot role))
