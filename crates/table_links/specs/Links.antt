-- What contracts see of a `Links`: what each number names, and what the calls change.
use Rattle.std.specs.Prelude.{◌≡◌, ℕ, ◌==◌, if◌then◌else◌, Bool, true, false, List, [], ◌∷◌, slice_set, slice_index_or, Option, Some, None, IsSome, refl, ◌⊎◌}
use Rattle.std.proofs.Common.{inl, inr}
use Rattle.std.specs.Coded.{Coded, code_by, coded×, coded⊎, coded_bool, coded_ℕ, coded_list}

-- what a number names
pub data Spot (P : Type 0) : Type 0 where
  -- nothing
  Unmade : Spot P
  -- a chain: its nodes with their values, in order
  ChainOf : (list : List (ℕ × P)) → Spot P
  -- a node that is in no chain
  FreeNode : Spot P
  -- a node that is in this chain, with this value
  LinkedNode : (chain : ℕ) (value : P) → Spot P

abbrev pub LinkParts : Type 0 → Type 0
LinkParts P = List (ℕ × P) ⊎ (Bool ⊎ (ℕ × P))

module _ {P : Type 0} where
  abbrev pub to_parts : Spot P → LinkParts P
  to_parts Unmade = inr (inl false)
  to_parts (ChainOf list) = inl list
  to_parts FreeNode = inr (inl true)
  to_parts (LinkedNode chain value) = inr (inr (chain, value))

  abbrev pub from_parts : LinkParts P → Spot P
  from_parts (inl list) = ChainOf list
  from_parts (inr (inl false)) = Unmade
  from_parts (inr (inl true)) = FreeNode
  from_parts (inr (inr (chain, value))) = LinkedNode chain value

  pub from_parts-to_parts : (s : Spot P) → from_parts (to_parts s) ≡ s
  from_parts-to_parts Unmade = refl
  from_parts-to_parts (ChainOf list) = refl
  from_parts-to_parts FreeNode = refl
  from_parts-to_parts (LinkedNode chain value) = refl

  abbrev pub links_code : Coded P → Coded (List (Spot P))
  links_code code =
      coded_list
      (code_by (LinkParts P) (coded⊎ (coded_list (coded× coded_ℕ code)) (coded⊎ coded_bool (coded× coded_ℕ code))) to_parts from_parts
      from_parts-to_parts)

  -- what a number names
  abbrev pub spot_at : List (Spot P) → ℕ → Spot P
  spot_at links n = slice_index_or links n Unmade

  abbrev pub spot_list : Spot P → Option (List (ℕ × P))
  spot_list Unmade = None
  spot_list (ChainOf list) = Some list
  spot_list FreeNode = None
  spot_list (LinkedNode chain value) = None

  abbrev pub spot_link : Spot P → Option (ℕ × P)
  spot_link Unmade = None
  spot_link (ChainOf list) = None
  spot_link FreeNode = None
  spot_link (LinkedNode chain value) = Some (chain, value)

  abbrev pub spot_is_free : Spot P → Bool
  spot_is_free Unmade = false
  spot_is_free (ChainOf list) = false
  spot_is_free FreeNode = true
  spot_is_free (LinkedNode chain value) = false

  -- the list of a chain, where that chain is live
  abbrev pub list_of : List (Spot P) → ℕ → Option (List (ℕ × P))
  list_of links chain = spot_list (spot_at links chain)

  -- the chain and the value of a node, where it is in a chain
  abbrev pub link_of : List (Spot P) → ℕ → Option (ℕ × P)
  link_of links node = spot_link (spot_at links node)

  -- the node is made and in no chain
  abbrev pub is_free : List (Spot P) → ℕ → Bool
  is_free links node = spot_is_free (spot_at links node)

  abbrev pub list_or_nil : Option (List (ℕ × P)) → List (ℕ × P)
  list_or_nil None = []
  list_or_nil (Some list) = list

  -- the list of a live chain
  abbrev pub entries : List (Spot P) → ℕ → List (ℕ × P)
  entries links chain = list_or_nil (list_of links chain)

  -- a list with an entry before the one of this node
  abbrev pub put_before : ℕ → ℕ × P → List (ℕ × P) → List (ℕ × P)
  put_before at entry [] = []
  put_before at entry (e ∷ es) = if e.0 == at then entry ∷ e ∷ es else e ∷ put_before at entry es

  -- a list without the entry of this node
  abbrev pub without : ℕ → List (ℕ × P) → List (ℕ × P)
  without node [] = []
  without node (e ∷ es) = if e.0 == node then es else e ∷ without node es

  abbrev pub head_of : List (ℕ × P) → Option (ℕ × P)
  head_of [] = None
  head_of (e ∷ es) = Some e

  -- the entry after the one of this node
  abbrev pub after : ℕ → List (ℕ × P) → Option (ℕ × P)
  after node [] = None
  after node (e ∷ es) = if e.0 == node then head_of es else after node es

  abbrev pub last_or : Option (ℕ × P) → List (ℕ × P) → Option (ℕ × P)
  last_or last [] = last
  last_or last (e ∷ es) = last_or (Some e) es

  abbrev pub before_from : Option (ℕ × P) → ℕ → List (ℕ × P) → Option (ℕ × P)
  before_from last node [] = None
  before_from last node (e ∷ es) = if e.0 == node then last else before_from (Some e) node es

  -- the last entry, and the entry before the one of this node
  abbrev pub last_of : List (ℕ × P) → Option (ℕ × P)
  last_of list = last_or None list

  abbrev pub before : ℕ → List (ℕ × P) → Option (ℕ × P)
  before node list = before_from None node list

  -- the chain has this list, and the node is in it with this value
  unfoldable pub linked : ℕ → ℕ → P → List (ℕ × P) → List (Spot P) → List (Spot P)
  linked chain node value list links = slice_set (slice_set links chain (ChainOf list)) node (LinkedNode chain value)

  -- the chain has this list, and the node is free
  unfoldable pub unlinked : ℕ → ℕ → List (ℕ × P) → List (Spot P) → List (Spot P)
  unlinked chain node list links = slice_set (slice_set links chain (ChainOf list)) node FreeNode

  abbrev pub removed_by : ℕ → Option (ℕ × P) → List (Spot P) → List (Spot P)
  removed_by node None links = links
  removed_by node (Some link) links = unlinked link.0 node (without node (entries links link.0)) links

  -- the node is out of its chain, if it was in one
  abbrev pub removed : ℕ → List (Spot P) → List (Spot P)
  removed node links = removed_by node (link_of links node) links

  abbrev pub inserted_by : ℕ → ℕ → P → Option (ℕ × P) → List (Spot P) → List (Spot P)
  inserted_by at node value None links = links
  inserted_by at node value (Some link) links = linked link.0 node value (put_before at (node, value) (entries links link.0)) links

  -- the node is with this value before another, in the other's chain
  abbrev pub inserted : ℕ → ℕ → P → List (Spot P) → List (Spot P)
  inserted at node value links = inserted_by at node value (link_of links at) links

  abbrev pub in_list : (List (ℕ × P) → Option (ℕ × P)) → Option (ℕ × P) → List (Spot P) → Option (ℕ × P)
  in_list find None links = None
  in_list find (Some link) links = find (entries links link.0)

  -- the entries after and before a node, in its chain
  abbrev pub following : ℕ → List (Spot P) → Option (ℕ × P)
  following node links = in_list (after node) (link_of links node) links

  abbrev pub preceding : ℕ → List (Spot P) → Option (ℕ × P)
  preceding node links = in_list (before node) (link_of links node) links

  abbrev pub spot_is_made : Spot P → Bool
  spot_is_made Unmade = false
  spot_is_made (ChainOf list) = false
  spot_is_made FreeNode = true
  spot_is_made (LinkedNode chain value) = true

  -- a node of this number is made
  abbrev pub is_made : List (Spot P) → ℕ → Bool
  is_made links node = spot_is_made (spot_at links node)

  -- the node is one of the list
  abbrev pub In : ℕ → List (ℕ × P) → Type 0
  In n [] = ⊥
  In n (e ∷ es) = (n ≡ e.0) ⊎ In n es

  -- each node of the list is in the chain with its value
  abbrev pub AreLinked : List (Spot P) → ℕ → List (ℕ × P) → Type 0
  AreLinked links chain [] = Unit {0}
  AreLinked links chain (e ∷ es) = (link_of links e.0 ≡ Some (chain, e.1)) × AreLinked links chain es

  -- no node is twice in the list
  abbrev pub Apart : List (ℕ × P) → Type 0
  Apart [] = Unit {0}
  Apart (e ∷ es) = (In e.0 es → ⊥) × Apart es

-- this number named the one, and names the other; every other number names what it named
pub record Renames {P : Type 0} (old new : List (Spot P)) (number : ℕ) (was is : Spot P) : Type 0 where
  pub named : spot_at old number ≡ was
  pub names : spot_at new number ≡ is
  pub others : (n : ℕ) → (n ≡ number → ⊥) → spot_at new n ≡ spot_at old n

-- every number names what it named
abbrev pub NamesSame : {P : Type 0} → List (Spot P) → List (Spot P) → Type 0
NamesSame old new = (n : ℕ) → spot_at new n ≡ spot_at old n

-- What holds of every `Links`: no node is twice in it, and a node's link is to the chain whose list it is in.
pub record IsLinks {P : Type 0} (links : List (Spot P)) : Type 0 where
  pub once : (chain : ℕ) → Apart (entries links chain)
  pub listed : (node chain : ℕ) (value : P) → link_of links node ≡ Some (chain, value) →
      IsSome (list_of links chain) × In node (entries links chain)
  pub entered : (node chain : ℕ) → In node (entries links chain) → (value : P) × (link_of links node ≡ Some (chain, value))

-- This chain has this list now and this node that link; every other chain keeps its list, and every other node its link, or stays free.
pub record ChangesOnly {P : Type 0} (old new : List (Spot P)) (chain node : ℕ) (list : List (ℕ × P)) (link : Option (ℕ × P)) : Type 0 where
  pub list_is : list_of new chain ≡ Some list
  pub link_is : link_of new node ≡ link
  pub stays_made : is_made new node ≡ true
  pub lists : (n : ℕ) → (n ≡ chain → ⊥) → list_of new n ≡ list_of old n
  pub links : (n : ℕ) → (n ≡ node → ⊥) → link_of new n ≡ link_of old n
  pub free : (n : ℕ) → (n ≡ node → ⊥) → is_free new n ≡ is_free old n

-- A free node that is put into the chain, wherever, changes that chain and its own link alone.
abbrev pub LinkingChangesOnly : {P : Type 0} → (links : List (Spot P)) → (chain node : ℕ) → Type 0
LinkingChangesOnly {P} links chain node =
    (value : P) (list : List (ℕ × P)) → ChangesOnly links (linked chain node value list links) chain node list (Some (chain, value))
