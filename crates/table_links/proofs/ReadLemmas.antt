-- What is read of links after a node was put into a chain or taken out of one.
use Rattle.std.proofs.Common.{◌≡◌, ℕ, ◌<◌, inl, inr, Bool, true, List, length, set, Some, None, IsSome, refl, sym, ap, subst, ◌∙◌, length-set}
use Rattle.std.proofs.lemmas.Bool.{cases_eq, cases_lt}
use Rattle.std.proofs.lemmas.List.{get_or-set_same, get_or-set_other, get_or_past}
use Rattle.table_links.specs.Links.{Spot, Unmade, ChainOf, FreeNode, LinkedNode, ChangesOnly, spot_at, spot_list, spot_link, spot_is_free, spot_is_made, list_or_nil, entries, list_of, link_of, is_free, is_made, linked, unlinked}

module _ {P : Type 0} where
  -- a node with a link is made
  pub made_linked : (links : List (Spot P)) (n c : ℕ) (v : P) → link_of links n ≡ Some (c, v) → is_made links n ≡ true
  made_linked links n c v link = by_spot (spot_at links n) link
    where
      by_spot : (s : Spot P) → spot_link s ≡ Some (c, v) → spot_is_made s ≡ true
      by_spot Unmade is = absurd (cc)
      by_spot (ChainOf l) is = absurd (cc)
      by_spot FreeNode is = absurd (cc)
      by_spot (LinkedNode d u) is = refl

  -- a free node is made
  pub made_free : (links : List (Spot P)) (n : ℕ) → is_free links n ≡ true → is_made links n ≡ true
  made_free links n free = by_spot (spot_at links n) free
    where
      by_spot : (s : Spot P) → spot_is_free s ≡ true → spot_is_made s ≡ true
      by_spot Unmade is = absurd (cc)
      by_spot (ChainOf l) is = absurd (cc)
      by_spot FreeNode is = refl
      by_spot (LinkedNode d u) is = absurd (cc)

  pub live_inside : (links : List (Spot P)) (c : ℕ) → IsSome (list_of links c) → c < length links
  live_inside links c live = elim (cases_lt c (length links)) [
    | inl inside ↦ inside
    | inr past ↦ absurd (let e = subst (λ s. IsSome (spot_list s)) (get_or_past links c Unmade past) live in cc)
  ]

  pub node_inside : (links : List (Spot P)) (n : ℕ) → is_made links n ≡ true → n < length links
  node_inside links n made = elim (cases_lt n (length links)) [
    | inl inside ↦ inside
    | inr past ↦ absurd (let e = ap spot_is_made (sym (get_or_past links n Unmade past)) ∙ made in cc)
  ]

  by_live : (s : Spot P) → IsSome (spot_list s) → spot_is_made s ≡ true → ⊥
  by_live Unmade live made = absurd (cc)
  by_live (ChainOf l) live made = absurd (cc)
  by_live FreeNode live made = absurd (cc)
  by_live (LinkedNode d u) live made = absurd (cc)

  pub chain_not_node : (links : List (Spot P)) (c n : ℕ) → IsSome (list_of links c) → is_made links n ≡ true → c ≡ n → ⊥
  chain_not_node links c n live made same = by_live (spot_at links n) (subst (λ k. IsSome (list_of links k)) same live) made

  none_made : (s : Spot P) → spot_is_made s ≡ true → spot_list s ≡ None
  none_made Unmade made = absurd (cc)
  none_made (ChainOf l) made = absurd (cc)
  none_made FreeNode made = refl
  none_made (LinkedNode d u) made = refl

  no_link : (s : Spot P) → IsSome (spot_list s) → spot_link s ≡ None
  no_link Unmade live = absurd (cc)
  no_link (ChainOf l) live = refl
  no_link FreeNode live = absurd (cc)
  no_link (LinkedNode d u) live = absurd (cc)

  not_free : (s : Spot P) → IsSome (spot_list s) → spot_is_free s ≡ Bool.false
  not_free Unmade live = absurd (cc)
  not_free (ChainOf l) live = refl
  not_free FreeNode live = absurd (cc)
  not_free (LinkedNode d u) live = absurd (cc)

  module _ (links : List (Spot P)) (c n : ℕ) (list : List (ℕ × P)) (live : IsSome (list_of links c)) (made : is_made links n ≡ true) where
    differ : c ≡ n → ⊥
    differ = chain_not_node links c n live made

    at_chain : (s : Spot P) → spot_at (set (set links c (ChainOf list)) n s) c ≡ ChainOf list
    at_chain s = get_or-set_other (set links c (ChainOf list)) n c s Unmade differ ∙ get_or-set_same links c (ChainOf list) Unmade (live_inside links c live)

    at_node : (s : Spot P) → spot_at (set (set links c (ChainOf list)) n s) n ≡ s
    at_node s = get_or-set_same (set links c (ChainOf list)) n s Unmade (subst (λ k. n < k) (sym (length-set links c (ChainOf list))) (node_inside links n made))

    at_other : (s : Spot P) (m : ℕ) → (m ≡ c → ⊥) → (m ≡ n → ⊥) → spot_at (set (set links c (ChainOf list)) n s) m ≡ spot_at links m
    at_other s m not_c not_n = get_or-set_other (set links c (ChainOf list)) n m s Unmade not_n ∙ get_or-set_other links c m (ChainOf list) Unmade not_c

    only : (s : Spot P) → spot_is_made s ≡ true → ChangesOnly links (set (set links c (ChainOf list)) n s) c n list (spot_link s)
    only s node = record {
      list_is = ap spot_list (at_chain s);
      link_is = ap spot_link (at_node s);
      stays_made = ap spot_is_made (at_node s) ∙ node;
      lists = λ m not_c. elim (cases_eq m n) [
        | inl same ↦
            ap (λ k. list_of (set (set links c (ChainOf list)) n s) k) same
            ∙ (ap spot_list (at_node s) ∙ (none_made s node ∙ sym (ap (list_of links) same ∙ none_made (spot_at links n) made)))
        | inr not_n ↦ ap spot_list (at_other s m not_c not_n)
      ];
      links = λ m not_n. elim (cases_eq m c) [
        | inl same ↦
            ap (λ k. link_of (set (set links c (ChainOf list)) n s) k) same
            ∙ (ap spot_link (at_chain s) ∙ sym (ap (link_of links) same ∙ no_link (spot_at links c) live))
        | inr not_c ↦ ap spot_link (at_other s m not_c not_n)
      ];
      free = λ m not_n. elim (cases_eq m c) [
        | inl same ↦
            ap (λ k. is_free (set (set links c (ChainOf list)) n s) k) same
            ∙ (ap spot_is_free (at_chain s) ∙ sym (ap (is_free links) same ∙ not_free (spot_at links c) live))
        | inr not_c ↦ ap spot_is_free (at_other s m not_c not_n)
      ];
    }

    pub ChangesOnly-linked : (v : P) → ChangesOnly links (linked c n v list links) c n list (Some (c, v))
    unfolding linked
    ChangesOnly-linked v = only (LinkedNode c v) refl

    pub ChangesOnly-unlinked : ChangesOnly links (unlinked c n list links) c n list None
    unfolding unlinked
    ChangesOnly-unlinked = only FreeNode refl

    -- the list of a chain
    pub entries-linked_same : (v : P) → entries (linked c n v list links) c ≡ list
    entries-linked_same v = ap list_or_nil (ChangesOnly-linked v).list_is

    pub entries-linked_other : (v : P) (d : ℕ) → (d ≡ c → ⊥) → entries (linked c n v list links) d ≡ entries links d
    entries-linked_other v d not_c = ap list_or_nil ((ChangesOnly-linked v).lists d not_c)

    pub entries-unlinked_same : entries (unlinked c n list links) c ≡ list
    entries-unlinked_same = ap list_or_nil ChangesOnly-unlinked.list_is

    pub entries-unlinked_other : (d : ℕ) → (d ≡ c → ⊥) → entries (unlinked c n list links) d ≡ entries links d
    entries-unlinked_other d not_c = ap list_or_nil (ChangesOnly-unlinked.lists d not_c)
