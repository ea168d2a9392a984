-- Lists that a machine reads off its records by a test: the waiters of a set, its ready members, the held threads of an instance, what is
-- blocked on a call. Each is a chain, and an entry's node is in the chain of the key that the entry has.
--     Filing, IsIndex            what an entry says of the index, and that the chains say the same
--     Refiles                    what a call makes of the links when one node is filed anew
--     filings                    what the entries of a table say
--     Tests, PassesAt            the machine's test that a key represents, and a record that passes it
use Rattle.std.specs.Prelude.{◌≡◌, ℕ, Bool, true, List, None, Option, Some, IsSome, option_and_then, option_map}
use Rattle.table_links.specs.Links.{Spot, is_made, link_of, list_of}
use Rattle.machine_data.specs.Maps.{get}
use Rattle.task_table.specs.Records.{number_of, records}
use Rattle.task_table.specs.Table.{Placed, Table, place_at}

-- What an entry says of the index: its node, the key under which it is filed, if it is, and its value in the key's chain.
pub record Filing (K P : Type 0) : Type 0 where
  pub node : ℕ
  pub key : Option K
  pub value : P

-- The node has this link, every other node has the link that it had, and the nodes and chains that were made are made.
pub record Refiles {P : Type 0} (old new : List (Spot P)) (node : ℕ) (link : Option (ℕ × P)) : Type 0 where
  pub here : link_of new node ≡ link
  pub others : (n : ℕ) → (n ≡ node → ⊥) → link_of new n ≡ link_of old n
  pub made : (n : ℕ) → is_made old n ≡ true → is_made new n ≡ true
  pub live : (c : ℕ) → IsSome (list_of old c) → IsSome (list_of new c)

-- a node with this value is in the chain
abbrev pub Holds : {P : Type 0} → List (Spot P) → ℕ → P → Type 0
Holds links chain value = (node : ℕ) × (link_of links node ≡ Some (chain, value))

module _ {K P : Type 0} (chain : K → Option ℕ) where
  -- the link that an entry's node is to have
  abbrev pub link_for : Filing K P → Option (ℕ × P)
  link_for f = option_map (λ c. (c, f.value)) (option_and_then chain f.key)

  -- Each key's chain is live and its own. Each entry has a node of its own, which has just the link that the entry says, and no other node
  -- has a link.
  pub record IsIndex (links : List (Spot P)) (filing : ℕ → Option (Filing K P)) : Type 0 where
    pub live : (k : K) (c : ℕ) → chain k ≡ Some c → IsSome (list_of links c)
    pub own_chain : (j k : K) (c : ℕ) → chain j ≡ Some c → chain k ≡ Some c → j ≡ k
    pub made : (r : ℕ) (f : Filing K P) → filing r ≡ Some f → is_made links f.node ≡ true
    pub own_node : (r s : ℕ) (f g : Filing K P) → filing r ≡ Some f → filing s ≡ Some g → f.node ≡ g.node → r ≡ s
    pub has_link : (r : ℕ) (f : Filing K P) → filing r ≡ Some f → link_of links f.node ≡ link_for f
    pub owner : (n c : ℕ) (v : P) → link_of links n ≡ Some (c, v) → (r : ℕ) × ((f : Filing K P) × ((filing r ≡ Some f) × (f.node ≡ n)))

-- an entry with this key and this value is at some place
abbrev pub IsFiled : {K P : Type 0} → (ℕ → Option (Filing K P)) → K → P → Type 0
IsFiled {K} {P} filing k v = (r : ℕ) × ((f : Filing K P) × ((filing r ≡ Some f) × ((f.key ≡ Some k) × (f.value ≡ v))))

module _ {E K P : Type 0} (says : ℕ → ℕ → E → Option (Filing K P)) where
  abbrev pub said : ℕ → Option (Placed E) → Option (Filing K P)
  said rep None = None
  said rep (Some p) = says rep p.serial p.entry

  -- what the entry at a place says, which may know its place and its serial
  unfoldable pub filings : Table E → ℕ → Option (Filing K P)
  filings t rep = said rep (place_at t rep)

  -- The entries with this key are just those whose records pass the test.
  pub record Tests {X : Type 0} (record_key : E → Option (ℕ × X)) (k : K) (test : ℕ × X → Bool) : Type 0 where
    pub passes : (rep serial : ℕ) (e : E) (f : Filing K P) → says rep serial e ≡ Some f → f.key ≡ Some k →
        (x : ℕ × X) × ((record_key e ≡ Some x) × (test x ≡ true))
    pub filed : (rep serial : ℕ) (e : E) (x : ℕ × X) → record_key e ≡ Some x → test x ≡ true →
        (f : Filing K P) × ((says rep serial e ≡ Some f) × (f.key ≡ Some k))

  -- The value is that of an entry whose record passes, and the machine has this record under the number that the entry's id names.
  pub record PassesAt {X : Type 0} (t : Table E) (record_key : E → Option (ℕ × X)) (test : ℕ × X → Bool) (v : P) : Type 0 where
    pub place : ℕ
    pub placed : Placed E
    pub filed : Filing K P
    pub entry : ℕ × X
    pub stands : place_at t place ≡ Some placed
    pub is_said : says place placed.serial placed.entry ≡ Some filed
    pub is_value : filed.value ≡ v
    pub is_named : number_of record_key t place placed.serial ≡ entry.0
    pub is_found : get (records record_key t.places) entry.0 ≡ Some entry.1
    pub passes : test entry ≡ true
