-- Lists that a machine keeps itself: high, low, the callers of a thread. The values of a chain, in order, are the list.
--     values                     the list of a chain
--     IsRows                     each key's chain represents the key's list
--     less_by                    what a removal leaves
--     part                       of each list what belongs to one group, as the entries of an instance, in a chain of its own
use Rattle.std.specs.Prelude.{◌≡◌, ℕ, Bool, if◌then◌else◌, List, [], ◌∷◌, Option, Some, IsSome, filter, map}
use Rattle.table_links.specs.Links.{Spot, entries, link_of, list_of}

module _ {P : Type 0} where
  -- the values of a chain, in order
  abbrev pub values : List (Spot P) → ℕ → List P
  values links c = map (λ e. e.1) (entries links c)

  -- each value with its node
  abbrev pub with_nodes : (P → ℕ) → List P → List (ℕ × P)
  with_nodes node [] = []
  with_nodes node (x ∷ xs) = (node x, x) ∷ with_nodes node xs

  abbrev pub Each : (P → Type 0) → List P → Type 0
  Each good [] = Unit {0}
  Each good (x ∷ xs) = good x × Each good xs

  -- the list without the first element that passes
  abbrev pub less_by : (P → Bool) → List P → List P
  less_by test [] = []
  less_by test (x ∷ xs) = if test x then xs else x ∷ less_by test xs

  -- of each list the elements that belong to a group
  abbrev pub part : {G K : Type 0} → (G → P → Bool) → (K → List P) → G × K → List P
  part in_group list k = filter (in_group k.0) (list k.1)

-- Each key's chain is live and its own, and has the key's list, each value with its node; each value of a list is one that is known; each
-- link is to some key's chain.
pub record IsRows {K P : Type 0} (chain : K → Option ℕ) (node : P → ℕ) (Known : P → Type 0) (links : List (Spot P))
    (list : K → List P) : Type 0 where
  pub live : (k : K) (c : ℕ) → chain k ≡ Some c → IsSome (list_of links c)
  pub own_chain : (j k : K) (c : ℕ) → chain j ≡ Some c → chain k ≡ Some c → j ≡ k
  pub has_list : (k : K) (c : ℕ) → chain k ≡ Some c → entries links c ≡ with_nodes node (list k)
  pub all_known : (k : K) (c : ℕ) → chain k ≡ Some c → Each Known (list k)
  pub owner : (n c : ℕ) (v : P) → link_of links n ≡ Some (c, v) → (k : K) × (chain k ≡ Some c)
