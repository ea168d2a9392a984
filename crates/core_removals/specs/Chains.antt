-- What the end of a chain, or of a node, leaves of the links.
use Rattle.std.specs.Prelude.{◌≡◌, ◌==◌, ℕ, true, Option, None, Some, IsSome, List, if◌then◌else◌}
use Rattle.table_links.specs.Links.{Spot, is_made, link_of, list_of}
use Rattle.table_links.specs.declared.links.Node.{Node}

-- a link, unless it is to this chain
abbrev pub link_but : {P : Type 0} → ℕ → Option (ℕ × P) → Option (ℕ × P)
link_but chain None = None
link_but chain (Some link) = if link.0 == chain then None else Some link

-- The chain is gone, and who was in it is in none; all else is as it was.
pub record Closes {P : Type 0} (old new : List (Spot P)) (chain : ℕ) : Type 0 where
  pub links : (n : ℕ) → link_of new n ≡ link_but chain (link_of old n)
  pub lists : (c : ℕ) → (c ≡ chain → ⊥) → list_of new c ≡ list_of old c
  pub made : (n : ℕ) → is_made old n ≡ true → is_made new n ≡ true

-- As before, while the chain is there with fewer nodes.
pub record Empties {P : Type 0} (old now : List (Spot P)) (chain : ℕ) : Type 0 where
  pub live : IsSome (list_of now chain)
  pub links : (n : ℕ) → link_but chain (link_of now n) ≡ link_but chain (link_of old n)
  pub lists : (c : ℕ) → (c ≡ chain → ⊥) → list_of now c ≡ list_of old c
  pub made : (n : ℕ) → is_made old n ≡ true → is_made now n ≡ true

-- The node is gone, and is in no chain; all others are as they were.
pub record Drops {P : Type 0} (old new : List (Spot P)) (node : ℕ) : Type 0 where
  pub here : link_of new node ≡ None
  pub links : (n : ℕ) → (n ≡ node → ⊥) → link_of new n ≡ link_of old n
  pub made : (n : ℕ) → (n ≡ node → ⊥) → is_made old n ≡ true → is_made new n ≡ true
  pub live : (c : ℕ) → IsSome (list_of old c) → IsSome (list_of new c)

-- a chain is gone, if there is one
abbrev pub ClosesIf : {P : Type 0} → (old new : List (Spot P)) → Option ℕ → Type 0
ClosesIf old new None = new ≡ old
ClosesIf old new (Some chain) = Closes old new chain

-- a node is gone, if there is one
abbrev pub DropsIf : {P : Type 0} → (old new : List (Spot P)) → Option Node → Type 0
DropsIf old new None = new ≡ old
DropsIf old new (Some node) = Drops old new node.index
