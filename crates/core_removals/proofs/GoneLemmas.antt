-- A record goes with its node, or a key with its chain: what is left of an index, and of rows.
use Rattle.core_records.proofs.Core.{[], ap, Bool, cases_eq, deleted, Each, false, Filing, filings, filings-deleted_here, filings-deleted_other, filings_at, FreeNode, inl, inr, IsAscending, IsIndex, IsRows, IsRows-renamed, IsSome, link_of, List, list_any, list_of, list_or_nil, live_order, None, Option, option_and_then, option_map, place_at, Placed, refl, Renames, Rises, same_Some, Some, Spot, spot_at, spot_is_made, spot_link, spot_list, subst, sym, Table, true, Unmade, ℕ, ◌||◌, ◌∙◌, ◌∷◌, ◌≡◌, ◌⊎◌}
use Rattle.core_records.specs.declared.{work_records.LiveWork.LiveWork}
use Rattle.core_removals.proofs.CloseLemmas.{link_gone, link_left, link_other}
use Rattle.core_removals.specs.Chains.{Closes, Drops, link_but}

none_is : {X Y : Type 0} (x : X) → ◌≡◌ {A = Option X} None (Some x) → Y
none_is x is = absurd (cc)

-- ---- A key loses its chain

module _ {K P : Type 0} (chain left : K → Option ℕ) (old new : List (Spot P)) (k : K) (c : ℕ) (has : chain k ≡ Some c) (gone : left k ≡ None) (same : (j : K) → (j ≡ k) ⊎ (left j ≡ chain j)) (closes : Closes old new c) where
  module _ (own : (i j : K) (d : ℕ) → chain i ≡ Some d → chain j ≡ Some d → i ≡ j) where
    -- a key that has a chain has the one that it had, which is another one
    other_chain : (j : K) (d : ℕ) → left j ≡ Some d → (chain j ≡ Some d) × (d ≡ c → ⊥)
    other_chain j d at = elim (same j) [
      | inl here ↦ none_is d (sym gone ∙ (ap left (sym here) ∙ at))
      | inr kept ↦ (sym kept ∙ at, λ is. none_is d (sym gone ∙ (ap left (sym (own j k c (sym kept ∙ (at ∙ ap (λ (e : ℕ). Some e) is)) has)) ∙ at)))
    ]

    -- a chain that is another one is its key's still
    still_chain : (j : K) (d : ℕ) → chain j ≡ Some d → (d ≡ c → ⊥) → left j ≡ Some d
    still_chain j d at other = elim (same j) [
      | inl here ↦ absurd (other (same_Some d c (sym at ∙ (ap chain here ∙ has))))
      | inr kept ↦ kept ∙ at
    ]

  pub IsIndex-shut : (filing : ℕ → Option (Filing K P)) → IsIndex chain old filing → IsIndex left new filing
  IsIndex-shut filing index =
      record {
        live = λ j d at. let one = other_chain index.own_chain j d at in subst IsSome (sym (closes.lists d one.1)) (index.live j d one.0);
        own_chain = λ i j d at_i at_j. index.own_chain i j d (other_chain index.own_chain i d at_i).0 (other_chain index.own_chain j d at_j).0;
        made = λ r f at. closes.made f.node (index.made r f at);
        own_node = index.own_node;
        has_link = λ r f at. closes.links f.node ∙ (ap (link_but c) (index.has_link r f at) ∙ by_key f.value f.key);
        owner = λ n d v link. index.owner n d v (link_left c (link_of old n) (d, v) (sym (closes.links n) ∙ link)).0;
      }
    where
      by_left : (v : P) (j : K) (o : Option ℕ) → left j ≡ o → link_but c (option_map (λ d. (d, v)) o) ≡ option_map (λ d. (d, v)) o
      by_left v j None is = refl
      by_left v j (Some d) is = link_other c d v (other_chain index.own_chain j d is).1

      by_key : (v : P) (o : Option K) → link_but c (option_map (λ d. (d, v)) (option_and_then chain o)) ≡ option_map (λ d. (d, v)) (option_and_then left o)
      by_key v None = refl
      by_key v (Some j) = elim (same j) [
        | inl here ↦ ap (λ o. link_but c (option_map (λ d. (d, v)) o)) (ap chain here ∙ has) ∙ (link_gone c v ∙ sym (ap (option_map (λ d. (d, v))) (ap left here ∙ gone)))
        | inr kept ↦ ap (λ o. link_but c (option_map (λ d. (d, v)) o)) (sym kept) ∙ by_left v j (left j) refl
      ]

  pub IsRows-shut : (node : P → ℕ) (Known : P → Type 0) (list : K → List P) → IsRows chain node Known old list → IsRows left node Known new list
  IsRows-shut node Known list rows = record {
    live = λ j d at. let one = other_chain rows.own_chain j d at in subst IsSome (sym (closes.lists d one.1)) (rows.live j d one.0);
    own_chain = λ i j d at_i at_j. rows.own_chain i j d (other_chain rows.own_chain i d at_i).0 (other_chain rows.own_chain j d at_j).0;
    has_list = λ j d at. let one = other_chain rows.own_chain j d at in ap list_or_nil (closes.lists d one.1) ∙ rows.has_list j d one.0;
    all_known = λ j d at. rows.all_known j d (other_chain rows.own_chain j d at).0;
    owner = λ n d v link.
        let one = link_left c (link_of old n) (d, v) (sym (closes.links n) ∙ link) in
        let o = rows.owner n d v one.0 in
        (o.0, still_chain rows.own_chain o.0 d o.1 one.1);
  }

-- ---- An entry goes with its node

module _ {E K P : Type 0} (says : ℕ → ℕ → E → Option (Filing K P)) (chain : K → Option ℕ) (t : Table E) (rep : ℕ) (q : Placed E) (at : place_at t rep ≡ Some q) (f : Filing K P) (is : says rep q.serial q.entry ≡ Some f) (old new : List (Spot P)) (drops : Drops old new f.node) where
  said : filings says t rep ≡ Some f
  said = filings_at says t rep (Some q) at ∙ is

  there : (r : ℕ) (g : Filing K P) → filings says (deleted rep t) r ≡ Some g → (filings says t r ≡ Some g) × (r ≡ rep → ⊥)
  there r g at_r = elim (cases_eq r rep) [
    | inl same ↦ none_is g (sym (filings-deleted_here says t rep) ∙ (ap (filings says (deleted rep t)) (sym same) ∙ at_r))
    | inr other ↦ (sym (filings-deleted_other says t rep r other) ∙ at_r, other)
  ]

  pub IsIndex-gone : IsIndex chain old (filings says t) → IsIndex chain new (filings says (deleted rep t))
  IsIndex-gone index =
      record {
        live = λ k c at_k. drops.live c (index.live k c at_k);
        own_chain = index.own_chain;
        made = λ r g at_r. let one = there r g at_r in drops.made g.node (differs r g at_r) (index.made r g one.0);
        own_node = λ r s g h at_r at_s. index.own_node r s g h (there r g at_r).0 (there s h at_s).0;
        has_link = λ r g at_r. drops.links g.node (differs r g at_r) ∙ index.has_link r g (there r g at_r).0;
        owner = λ n c v link. elim (cases_eq n f.node) [
          | inl same ↦ none_is (c, v) (sym drops.here ∙ (ap (link_of new) (sym same) ∙ link))
          | inr other ↦
              let o = index.owner n c v (sym (drops.links n other) ∙ link) in
              (o.0, (o.1.0, (filings-deleted_other says t rep o.0 (λ same. other (sym o.1.1.1 ∙ ap (λ (g : Filing K P). g.node) (same_Some o.1.0 f (sym o.1.1.0 ∙ (ap (filings says t) same ∙ said))))) ∙ o.1.1.0, o.1.1.1)))
        ];
      }
    where
      differs : (r : ℕ) (g : Filing K P) → filings says (deleted rep t) r ≡ Some g → g.node ≡ f.node → ⊥
      differs r g at_r same = let one = there r g at_r in one.1 (index.own_node r rep g f one.0 said same)

-- ---- Rows

module _ {K P : Type 0} (chain : K → Option ℕ) (node : P → ℕ) (Known : P → Type 0) (old : List (Spot P)) (list : K → List P) (rows : IsRows chain node Known old list) where
  -- a free node is dropped
  pub IsRows-dropped : (new : List (Spot P)) (n : ℕ) → Renames old new n FreeNode Unmade → IsRows chain node Known new list
  IsRows-dropped new n drops = IsRows-renamed chain node Known old list rows new n FreeNode Unmade drops refl refl (λ k at. none_here (subst IsSome (ap spot_list drops.named) (rows.live k n at)))
    where
      none_here : IsSome {T = List (ℕ × P)} None → ⊥
      none_here some = absurd (cc)

-- what is known of those that don't pass is known of each, where none passes
pub Each-but : {P : Type 0} (Known Now : P → Type 0) (u : P → Bool) → ((x : P) → Known x → u x ≡ false → Now x) → (xs : List P) → list_any u xs ≡ false → Each Known xs → Each Now xs
Each-but Known Now u knows [] none all = tt
Each-but Known Now u knows (x ∷ xs) none all = by (u x) refl none (Each-but Known Now u knows xs)
  where
    by : (b : Bool) → u x ≡ b → (b || list_any u xs) ≡ false → (list_any u xs ≡ false → Each Known xs → Each Now xs) → Each Now (x ∷ xs)
    by true is none rest = absurd (cc)
    by false is none rest = (knows x all.0 is, rest none all.1)

-- ---- A free node is dropped

module _ {P : Type 0} (old new : List (Spot P)) (n : ℕ) (names : Renames old new n FreeNode Unmade) where
  pub Drops-renamed : Drops old new n
  Drops-renamed = record {
    here = ap spot_link names.names;
    links = λ m other. ap spot_link (names.others m other);
    made = λ m other made. ap spot_is_made (names.others m other) ∙ made;
    live = λ c live. subst IsSome (sym (lists c live)) live;
  }
    where
      lists : (c : ℕ) → IsSome (list_of old c) → list_of new c ≡ list_of old c
      lists c live = ap spot_list (names.others c (λ same. absurd (let none : list_of old c ≡ None = ap (list_of old) same ∙ ap spot_list names.named in let two = subst IsSome none live in cc)))

-- the live works stay in order
pub Rises-renamed : (old new : List (Spot LiveWork)) (n : ℕ) → Renames old new n FreeNode Unmade → (o : Option ℕ) → Rises old o → Rises new o
Rises-renamed old new n names None rises = tt
Rises-renamed old new n names (Some c) rises = elim (cases_eq c n) [
  | inl same ↦ subst (λ s. IsAscending live_order (list_or_nil (spot_list s))) (sym (ap (spot_at new) same ∙ names.names)) tt
  | inr other ↦ subst (λ s. IsAscending live_order (list_or_nil (spot_list s))) (sym (names.others c other)) rises
]
