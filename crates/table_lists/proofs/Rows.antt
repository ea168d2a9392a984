-- Laws of rows: a value is pushed at the end or at the front, a node leaves wherever it is, nodes and chains are made and dropped, keys get chains and lose them.
use Rattle.std.proofs.Common.{inl, inr, ◌≡◌, ◌==◌, ◌++◌, ◌⊎◌, ℕ, Bool, true, false, List, [], ◌∷◌, Option, Some, None, IsSome, map, refl, sym, ap, subst, ◌∙◌}
use Rattle.std.specs.List.{list_any}
use Rattle.std.proofs.lemmas.Bool.{cases_eq}
use Rattle.std.proofs.lemmas.Option.{same_Some}
use Rattle.table_lists.proofs.Lists.{Each-less_by, Each-more, is_in, less-not_in, not_in, values-with_nodes, with_nodes-more, without-with_nodes}
use Rattle.table_lists.proofs.Refilings.{free_unlinked, no_such, one_chain}
use Rattle.table_lists.specs.Rows.{Each, IsRows, less_by, values, with_nodes}
use Rattle.table_links.proofs.ReadLemmas.{ChangesOnly-linked, ChangesOnly-unlinked, made_free, made_linked}
use Rattle.table_links.specs.Links.{ChangesOnly, In, IsLinks, Renames, Spot, Unmade, entries, is_free, is_made, link_of, linked, list_of, list_or_nil, removed, removed_by, spot_link, spot_list, unlinked, without}

module _ {K P : Type 0} (chain : K → Option ℕ) (node : P → ℕ) (Known : P → Type 0) (links : List (Spot P)) (list : K → List P) (rows : IsRows chain node Known links list) where
  -- the values of a key's chain are its list
  pub values_are : (k : K) (c : ℕ) → chain k ≡ Some c → values links c ≡ list k
  values_are k c at = ap (map (λ e. e.1)) (rows.has_list k c at) ∙ values-with_nodes node (list k)

  pub IsRows-same : (list' : K → List P) → ((k : K) (c : ℕ) → chain k ≡ Some c → list' k ≡ list k) → IsRows chain node Known links list'
  IsRows-same list' same = record {
    live = rows.live;
    own_chain = rows.own_chain;
    has_list = λ k c at. rows.has_list k c at ∙ ap (with_nodes node) (sym (same k c at));
    all_known = λ k c at. subst (Each Known) (sym (same k c at)) (rows.all_known k c at);
    owner = rows.owner;
  }

  same_chain : (j k : K) (d c : ℕ) → chain j ≡ Some d → chain k ≡ Some c → d ≡ c → j ≡ k
  same_chain j k d c at_j at_k same = rows.own_chain j k c (at_j ∙ ap (λ (e : ℕ). Some e) same) at_k

  -- ---- One key's chain and one node change

  module _ (new : List (Spot P)) (list' : K → List P) (k : K) (c n : ℕ) (at : chain k ≡ Some c) (others : (j : K) (d : ℕ) → chain j ≡ Some d → (j ≡ k → ⊥) → list' j ≡ list j) where
    other_key : (j : K) (d : ℕ) → chain j ≡ Some d → (d ≡ c → ⊥) → j ≡ k → ⊥
    other_key j d at_j other same = other (same_Some d c (sym at_j ∙ ap chain same ∙ at))

    pub IsRows-changed : (now : List (ℕ × P)) (link : Option (ℕ × P)) → ChangesOnly links new c n now link → now ≡ with_nodes node (list' k) → Each Known (list' k) → ((d : ℕ) (v : P) → link ≡ Some (d, v) → d ≡ c) → IsRows chain node Known new list'
    IsRows-changed now link only is known to = record {
      live = λ j d at_j. elim (cases_eq d c) [
        | inl same ↦ subst (λ e. IsSome (list_of new e)) (sym same) (subst IsSome (sym only.list_is) refl)
        | inr other ↦ subst IsSome (sym (only.lists d other)) (rows.live j d at_j)
      ];
      own_chain = rows.own_chain;
      has_list = λ j d at_j. elim (cases_eq d c) [
        | inl same ↦ ap (entries new) same ∙ (ap list_or_nil only.list_is ∙ (is ∙ ap (λ i. with_nodes node (list' i)) (sym (same_chain j k d c at_j at same))))
        | inr other ↦ ap list_or_nil (only.lists d other) ∙ (rows.has_list j d at_j ∙ ap (with_nodes node) (sym (others j d at_j (other_key j d at_j other))))
      ];
      all_known = λ j d at_j. elim (cases_eq d c) [
        | inl same ↦ subst (λ i. Each Known (list' i)) (sym (same_chain j k d c at_j at same)) known
        | inr other ↦ subst (Each Known) (sym (others j d at_j (other_key j d at_j other))) (rows.all_known j d at_j)
      ];
      owner = λ m d v linked. elim (cases_eq m n) [
        | inl same ↦ (k, at ∙ ap (λ (e : ℕ). Some e) (sym (to d v (sym only.link_is ∙ ap (link_of new) (sym same) ∙ linked))))
        | inr other ↦ rows.owner m d v (sym (only.links m other) ∙ linked)
      ];
    }

  -- ---- A push

  module _ (new : List (Spot P)) (list' : K → List P) (k : K) (c : ℕ) (at : chain k ≡ Some c) (others : (j : K) (d : ℕ) → chain j ≡ Some d → (j ≡ k → ⊥) → list' j ≡ list j) (v : P) (known : Known v) (free : is_free links (node v) ≡ true) where
    put : (now : List (ℕ × P)) → new ≡ linked c (node v) v now links → now ≡ with_nodes node (list' k) → Each Known (list' k) → IsRows chain node Known new list'
    put now puts is all = IsRows-changed new list' k c (node v) at others now (Some (c, v))
        (subst (λ (l : List (Spot P)). ChangesOnly links l c (node v) now (Some (c, v))) (sym puts) (ChangesOnly-linked links c (node v) now (rows.live k c at) (made_free links (node v) free) v))
        is all (λ d w e. sym (ap (λ (x : ℕ × P). x.0) (same_Some (c, v) (d, w) e)))

    -- at the end
    pub IsRows-pushed : list' k ≡ list k ++ v ∷ [] → new ≡ linked c (node v) v (entries links c ++ (node v, v) ∷ []) links → IsRows chain node Known new list'
    IsRows-pushed is puts = put (entries links c ++ (node v, v) ∷ []) puts
        (ap (λ (l : List (ℕ × P)). l ++ (node v, v) ∷ []) (rows.has_list k c at) ∙ (with_nodes-more node (list k) v ∙ ap (with_nodes node) (sym is)))
        (subst (Each Known) (sym is) (Each-more Known (list k) v (rows.all_known k c at) known))

    -- at the front
    pub IsRows-pushed_first : list' k ≡ v ∷ list k → new ≡ linked c (node v) v ((node v, v) ∷ entries links c) links → IsRows chain node Known new list'
    IsRows-pushed_first is puts = put ((node v, v) ∷ entries links c) puts
        (ap (λ (l : List (ℕ × P)). (node v, v) ∷ l) (rows.has_list k c at) ∙ ap (with_nodes node) (sym is))
        (subst (Each Known) (sym is) (known, rows.all_known k c at))

  -- ---- A test that knows a node

  module _ (sound : IsLinks links) (u : P → Bool) (n : ℕ) (knows : (x : P) → Known x → u x ≡ (node x == n)) where
    -- the node of a value that is in no list is free
    pub free_in_none : is_made links n ≡ true → ((k : K) → list_any u (list k) ≡ false) → is_free links n ≡ true
    free_in_none made none = by (link_of links n) refl
      where
        by : (o : Option (ℕ × P)) → link_of links n ≡ o → is_free links n ≡ true
        by None is = free_unlinked links n is made
        by (Some e) is =
            let k = rows.owner n e.0 e.1 is in
            absurd (not_in node Known u n knows (list k.0) (rows.all_known k.0 e.0 k.1) (none k.0) (subst (In n) (rows.has_list k.0 e.0 k.1) (sound.listed n e.0 e.1 is).1))

    -- the node is taken out, wherever it is: each list is without its value
    pub IsRows-removed : (new : List (Spot P)) (list' : K → List P) → ((k : K) → list' k ≡ less_by u (list k)) → new ≡ removed n links → IsRows chain node Known new list'
    IsRows-removed new list' less takes = subst (λ (l : List (Spot P)). IsRows chain node Known l list') (sym takes) (by (link_of links n) refl)
      where
        -- a list that the node isn't in
        stays : (j : K) (d : ℕ) → chain j ≡ Some d → (In n (entries links d) → ⊥) → list' j ≡ list j
        stays j d at out = less j ∙ less-not_in node Known u n knows (list j) (rows.all_known j d at) (λ i. out (subst (In n) (sym (rows.has_list j d at)) i))

        by : (o : Option (ℕ × P)) → link_of links n ≡ o → IsRows chain node Known (removed_by n o links) list'
        by None is = IsRows-same list' (λ j d at. stays j d at (λ i. let e = sound.entered n d i in no_such (d, e.0) (sym is ∙ e.1)))
        by (Some e) is =
            let k = rows.owner n e.0 e.1 is in
            let rest = without n (entries links e.0) in
            IsRows-changed (unlinked e.0 n rest links) list' k.0 e.0 n k.1
            (λ j d at other. stays j d at (λ i. let f = sound.entered n d i in other (same_chain j k.0 d e.0 at k.1 (one_chain links n (d, f.0) e f.1 is))))
            rest None
            (ChangesOnly-unlinked links e.0 n rest (rows.live k.0 e.0 k.1) (made_linked links n e.0 e.1 is))
            (ap (without n) (rows.has_list k.0 e.0 k.1) ∙ (without-with_nodes node Known u n knows (list k.0) (rows.all_known k.0 e.0 k.1) ∙ ap (with_nodes node) (sym (less k.0))))
            (subst (Each Known) (sym (less k.0)) (Each-less_by Known u (list k.0) (rows.all_known k.0 e.0 k.1)))
            (λ d v none. no_such (d, v) none)

    -- where one list has a value that passes, no other has
    pub less_elsewhere : (j k : K) (c d : ℕ) → chain j ≡ Some c → chain k ≡ Some d → (j ≡ k → ⊥) → list_any u (list j) ≡ true → less_by u (list k) ≡ list k
    less_elsewhere j k c d at_j at_k differ any = less-not_in node Known u n knows (list k) (rows.all_known k d at_k) (λ i.
        let e = sound.entered n d (subst (In n) (sym (rows.has_list k d at_k)) i) in
        let f = sound.entered n c (subst (In n) (sym (rows.has_list j c at_j)) (is_in node Known u n knows (list j) (rows.all_known j c at_j) any)) in
        differ (same_chain j k c d at_j at_k (one_chain links n (c, f.0) (d, e.0) f.1 e.1)))

  -- ---- Nodes and chains are made and dropped

  -- a number that is neither a linked node nor the chain of a key names something else
  pub IsRows-renamed : (new : List (Spot P)) (n : ℕ) (was is : Spot P) → Renames links new n was is → spot_link was ≡ None → spot_link is ≡ None → ((k : K) → chain k ≡ Some n → ⊥) → IsRows chain node Known new list
  IsRows-renamed new n was is names no_was no_is no_chain = record {
    live = λ k c at. subst IsSome (sym (ap spot_list (names.others c (elsewhere k c at)))) (rows.live k c at);
    own_chain = rows.own_chain;
    has_list = λ k c at. ap (λ (s : Spot P). list_or_nil (spot_list s)) (names.others c (elsewhere k c at)) ∙ rows.has_list k c at;
    all_known = rows.all_known;
    owner = λ m c v link. rows.owner m c v (sym (same_links m) ∙ link);
  }
    where
      elsewhere : (k : K) (c : ℕ) → chain k ≡ Some c → c ≡ n → ⊥
      elsewhere k c at same = no_chain k (at ∙ ap (λ (d : ℕ). Some d) same)

      same_links : (m : ℕ) → link_of new m ≡ link_of links m
      same_links m = elim (cases_eq m n) [
        | inl same ↦ ap (link_of new) same ∙ (ap spot_link names.names ∙ (no_is ∙ sym (ap (link_of links) same ∙ (ap spot_link names.named ∙ no_was))))
        | inr other ↦ ap spot_link (names.others m other)
      ]

  -- no key's chain is what isn't live, as a node or nothing
  pub no_chain : (n : ℕ) → list_of links n ≡ None → (k : K) → chain k ≡ Some n → ⊥
  no_chain n none k at = by (list_of links n) none (rows.live k n at)
    where
      by : (o : Option (List (ℕ × P))) → o ≡ None → IsSome o → ⊥
      by None gone live = absurd (cc)
      by (Some l) gone live = absurd (cc)

  -- a node or a chain is made
  pub IsRows-made : (new : List (Spot P)) (n : ℕ) (is : Spot P) → Renames links new n Unmade is → spot_link is ≡ None → IsRows chain node Known new list
  IsRows-made new n is names no_is = IsRows-renamed new n Unmade is names refl no_is (no_chain n (ap spot_list names.named))

  -- ---- Keys get chains and lose them

  module _ (chain' : K → Option ℕ) (list' : K → List P) (k : K) (decides : (j : K) → (j ≡ k) ⊎ (j ≡ k → ⊥)) (chains : (j : K) → (j ≡ k → ⊥) → chain' j ≡ chain j) (lists : (j : K) → (j ≡ k → ⊥) → list' j ≡ list j) where
    -- one that had none gets an empty one, which is no other key's
    pub IsRows-opened : (c : ℕ) → chain k ≡ None → chain' k ≡ Some c → list' k ≡ [] → list_of links c ≡ Some [] → ((j : K) → chain j ≡ Some c → ⊥) → IsRows chain' node Known links list'
    IsRows-opened c had has empty is_new new = record {
      live = λ j d at. elim (decides j) [
        | inl same ↦ subst (λ e. IsSome (list_of links e)) (sym (is_c j d same at)) (subst IsSome (sym is_new) refl)
        | inr other ↦ rows.live j d (sym (chains j other) ∙ at)
      ];
      own_chain = λ i j d at_i at_j. elim (decides i) [
        | inl i_is ↦ elim (decides j) [
          | inl j_is ↦ i_is ∙ sym j_is
          | inr j_not ↦ absurd (new j (sym (chains j j_not) ∙ at_j ∙ ap (λ (e : ℕ). Some e) (is_c i d i_is at_i)))
        ]
        | inr i_not ↦ elim (decides j) [
          | inl j_is ↦ absurd (new i (sym (chains i i_not) ∙ at_i ∙ ap (λ (e : ℕ). Some e) (is_c j d j_is at_j)))
          | inr j_not ↦ rows.own_chain i j d (sym (chains i i_not) ∙ at_i) (sym (chains j j_not) ∙ at_j)
        ]
      ];
      has_list = λ j d at. elim (decides j) [
        | inl same ↦ ap (entries links) (is_c j d same at) ∙ (ap list_or_nil is_new ∙ sym (ap (λ i. with_nodes node (list' i)) same ∙ ap (with_nodes node) empty))
        | inr other ↦ rows.has_list j d (sym (chains j other) ∙ at) ∙ ap (with_nodes node) (sym (lists j other))
      ];
      all_known = λ j d at. elim (decides j) [
        | inl same ↦ subst (λ i. Each Known (list' i)) (sym same) (subst (Each Known) (sym empty) tt)
        | inr other ↦ subst (Each Known) (sym (lists j other)) (rows.all_known j d (sym (chains j other) ∙ at))
      ];
      owner = λ n d v link. let o = rows.owner n d v link in (o.0, chains o.0 (λ same. had_none (sym had ∙ ap chain (sym same) ∙ o.1)) ∙ o.1);
    }
      where
        had_none : {X : Type 0} {d : ℕ} → ◌≡◌ {A = Option ℕ} None (Some d) → X
        had_none e = absurd (cc)

        is_c : (j : K) (d : ℕ) → j ≡ k → chain' j ≡ Some d → d ≡ c
        is_c j d same at = same_Some d c (sym at ∙ ap chain' same ∙ has)
