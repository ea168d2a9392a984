-- Laws of an index: one entry is filed anew, is added or is removed, nodes and chains are made and dropped, and what a chain holds.
use Rattle.std.proofs.Common.{inl, inr, ◌≡◌, ℕ, true, List, [], Option, Some, None, IsSome, refl, sym, ap, subst, ◌∙◌, option_map}
use Rattle.std.proofs.lemmas.Bool.{cases_eq}
use Rattle.std.proofs.lemmas.Option.{same_Some}
use Rattle.std.specs.Prelude.{option_and_then}
use Rattle.table_lists.proofs.Refilings.{no_such}
use Rattle.table_lists.specs.Index.{Filing, Holds, IsFiled, IsIndex, Refiles, link_for}
use Rattle.table_links.specs.Links.{Renames, Spot, Unmade, is_made, link_of, list_of, spot_link, spot_list, spot_is_made}

module _ {K P : Type 0} (chain : K → Option ℕ) where
  -- ---- One entry says something else

  module _ (old new : List (Spot P)) (filing filing' : ℕ → Option (Filing K P)) (index : IsIndex chain old filing) (place : ℕ) (was is : Filing K P) (before : filing place ≡ Some was) (after : filing' place ≡ Some is) (same_node : is.node ≡ was.node) (others : (r : ℕ) → (r ≡ place → ⊥) → filing' r ≡ filing r) where
    -- each entry has its node as before
    had_node : (r : ℕ) (f : Filing K P) → filing' r ≡ Some f → (g : Filing K P) × ((filing r ≡ Some g) × (g.node ≡ f.node))
    had_node r f at = elim (cases_eq r place) [
      | inl same ↦ (was, (ap filing same ∙ before, sym same_node ∙ ap (λ (g : Filing K P). g.node) (same_Some is f (sym after ∙ sym (ap filing' same) ∙ at))))
      | inr other ↦ (f, (sym (others r other) ∙ at, refl))
    ]

    -- its node is filed as it says now
    pub IsIndex-refiled : Refiles old new was.node (link_for chain is) → IsIndex chain new filing'
    IsIndex-refiled re = record {
      live = λ k c at. re.live c (index.live k c at);
      own_chain = index.own_chain;
      made = λ r f at. let h = had_node r f at in subst (λ n. is_made new n ≡ true) h.1.1 (re.made h.0.node (index.made r h.0 h.1.0));
      own_node = λ r s f g at_r at_s same.
          let h = had_node r f at_r in
          let i = had_node s g at_s in
          index.own_node r s h.0 i.0 h.1.0 i.1.0 (h.1.1 ∙ same ∙ sym i.1.1);
      has_link = λ r f at. elim (cases_eq r place) [
        | inl same ↦ subst (λ (g : Filing K P). link_of new g.node ≡ link_for chain g) (same_Some is f (sym after ∙ sym (ap filing' same) ∙ at)) (ap (link_of new) same_node ∙ re.here)
        | inr other ↦
            let was_at = sym (others r other) ∙ at in
            re.others f.node (λ same. other (index.own_node r place f was was_at before same)) ∙ index.has_link r f was_at
      ];
      owner = λ n c v link. elim (cases_eq n was.node) [
        | inl same ↦ (place, (is, (after, same_node ∙ sym same)))
        | inr other ↦
            let o = index.owner n c v (sym (re.others n other) ∙ link) in
            (o.0, (o.1.0, (others o.0 (λ same. other (sym o.1.1.1 ∙ ap (λ (g : Filing K P). g.node) (same_Some o.1.0 was (sym o.1.1.0 ∙ ap filing same ∙ before)))) ∙ o.1.1.0, o.1.1.1)))
      ];
    }

  module _ (links : List (Spot P)) (filing : ℕ → Option (Filing K P)) (index : IsIndex chain links filing) where
    -- all say what they said
    pub IsIndex-same : (filing' : ℕ → Option (Filing K P)) → ((r : ℕ) → filing' r ≡ filing r) → IsIndex chain links filing'
    IsIndex-same filing' same = record {
      live = index.live;
      own_chain = index.own_chain;
      made = λ r f at. index.made r f (sym (same r) ∙ at);
      own_node = λ r s f g at_r at_s. index.own_node r s f g (sym (same r) ∙ at_r) (sym (same s) ∙ at_s);
      has_link = λ r f at. index.has_link r f (sym (same r) ∙ at);
      owner = λ n c v link. let o = index.owner n c v link in (o.0, (o.1.0, (same o.0 ∙ o.1.1.0, o.1.1.1)));
    }

    -- ---- An entry is added or removed

    -- with a node that no entry has, and that has the link that the entry says
    pub IsIndex-added : (filing' : ℕ → Option (Filing K P)) (place : ℕ) (is : Filing K P) → filing place ≡ None → filing' place ≡ Some is → ((r : ℕ) → (r ≡ place → ⊥) → filing' r ≡ filing r) → is_made links is.node ≡ true → link_of links is.node ≡ link_for chain is → ((r : ℕ) (f : Filing K P) → filing r ≡ Some f → f.node ≡ is.node → ⊥) → IsIndex chain links filing'
    IsIndex-added filing' place is before after others made link new = record {
      live = index.live;
      own_chain = index.own_chain;
      made = λ r f at. elim (cases_eq r place) [
        | inl same ↦ subst (λ (g : Filing K P). is_made links g.node ≡ true) (here r f same at) made
        | inr other ↦ index.made r f (sym (others r other) ∙ at)
      ];
      own_node = λ r s f g at_r at_s same. elim (cases_eq r place) [
        | inl r_here ↦ elim (cases_eq s place) [
          | inl s_here ↦ r_here ∙ sym s_here
          | inr s_other ↦ absurd (new s g (sym (others s s_other) ∙ at_s) (sym same ∙ sym (ap (λ (h : Filing K P). h.node) (here r f r_here at_r))))
        ]
        | inr r_other ↦ elim (cases_eq s place) [
          | inl s_here ↦ absurd (new r f (sym (others r r_other) ∙ at_r) (same ∙ sym (ap (λ (h : Filing K P). h.node) (here s g s_here at_s))))
          | inr s_other ↦ index.own_node r s f g (sym (others r r_other) ∙ at_r) (sym (others s s_other) ∙ at_s) same
        ]
      ];
      has_link = λ r f at. elim (cases_eq r place) [
        | inl same ↦ subst (λ (g : Filing K P). link_of links g.node ≡ link_for chain g) (here r f same at) link
        | inr other ↦ index.has_link r f (sym (others r other) ∙ at)
      ];
      owner = λ n c v linked. let o = index.owner n c v linked in (o.0, (o.1.0, (others o.0 (λ same. empty o.1.0 (sym before ∙ sym (ap filing same) ∙ o.1.1.0)) ∙ o.1.1.0, o.1.1.1)));
    }
      where
        empty : {X : Type 0} (f : Filing K P) → ◌≡◌ {A = Option (Filing K P)} None (Some f) → X
        empty f is = absurd (cc)

        here : (r : ℕ) (f : Filing K P) → r ≡ place → filing' r ≡ Some f → is ≡ f
        here r f same at = same_Some is f (sym after ∙ sym (ap filing' same) ∙ at)

    -- an entry that is in no chain leaves
    pub IsIndex-removed : (filing' : ℕ → Option (Filing K P)) (place : ℕ) (was : Filing K P) → filing place ≡ Some was → filing' place ≡ None → ((r : ℕ) → (r ≡ place → ⊥) → filing' r ≡ filing r) → link_of links was.node ≡ None → IsIndex chain links filing'
    IsIndex-removed filing' place was before after others unlinked = record {
      live = index.live;
      own_chain = index.own_chain;
      made = λ r f at. index.made r f (there r f at);
      own_node = λ r s f g at_r at_s. index.own_node r s f g (there r f at_r) (there s g at_s);
      has_link = λ r f at. index.has_link r f (there r f at);
      owner = λ n c v link. let o = index.owner n c v link in (o.0, (o.1.0, (others o.0 (λ same. no_such (c, v) (sym unlinked ∙ sym (ap (λ (g : Filing K P). link_of links g.node) (same_Some o.1.0 was (sym o.1.1.0 ∙ ap filing same ∙ before))) ∙ ap (link_of links) o.1.1.1 ∙ link)) ∙ o.1.1.0, o.1.1.1)));
    }
      where
        empty : {X : Type 0} (f : Filing K P) → ◌≡◌ {A = Option (Filing K P)} None (Some f) → X
        empty f is = absurd (cc)

        there : (r : ℕ) (f : Filing K P) → filing' r ≡ Some f → filing r ≡ Some f
        there r f at = sym (others r (λ same. empty f (sym after ∙ sym (ap filing' same) ∙ at))) ∙ at

    -- ---- Nodes and chains are made and dropped

    -- a number that is neither a linked node nor the chain of a key nor the node of an entry names something else
    pub IsIndex-renamed : (new : List (Spot P)) (n : ℕ) (was is : Spot P) → Renames links new n was is → spot_link was ≡ None → spot_link is ≡ None → ((k : K) → chain k ≡ Some n → ⊥) → ((r : ℕ) (f : Filing K P) → filing r ≡ Some f → f.node ≡ n → ⊥) → IsIndex chain new filing
    IsIndex-renamed new n was is names no_was no_is no_chain no_node = record {
      live = λ k c at. subst IsSome (sym (ap spot_list (names.others c (λ same. no_chain k (at ∙ ap (λ (d : ℕ). Some d) same))))) (index.live k c at);
      own_chain = index.own_chain;
      made = λ r f at. ap spot_is_made (names.others f.node (no_node r f at)) ∙ index.made r f at;
      own_node = index.own_node;
      has_link = λ r f at. same_links f.node ∙ index.has_link r f at;
      owner = λ m c v link. index.owner m c v (sym (same_links m) ∙ link);
    }
      where
        same_links : (m : ℕ) → link_of new m ≡ link_of links m
        same_links m = elim (cases_eq m n) [
          | inl same ↦ ap (link_of new) same ∙ (ap spot_link names.names ∙ (no_is ∙ sym (ap (link_of links) same ∙ (ap spot_link names.named ∙ no_was))))
          | inr other ↦ ap spot_link (names.others m other)
        ]

    -- a number that names nothing is neither
    module _ (new : List (Spot P)) (n : ℕ) (is : Spot P) (names : Renames links new n Unmade is) where
      nothing : {X : Type 0} (o : Option (List (ℕ × P))) → o ≡ None → IsSome o → X
      nothing None gone some = absurd (cc)
      nothing (Some l) gone some = absurd (cc)

      pub new_for_chains : (k : K) → chain k ≡ Some n → ⊥
      new_for_chains k at = nothing (list_of links n) (ap spot_list names.named) (index.live k n at)

      pub new_for_entries : (r : ℕ) (f : Filing K P) → filing r ≡ Some f → f.node ≡ n → ⊥
      new_for_entries r f at same = let made : is_made links n ≡ true = ap (is_made links) (sym same) ∙ index.made r f at in let unmade = ap spot_is_made names.named in absurd (cc)

      -- a node or a chain is made
      pub IsIndex-made : spot_link is ≡ None → IsIndex chain new filing
      IsIndex-made no_is = IsIndex-renamed new n Unmade is names refl no_is new_for_chains new_for_entries

    -- the keys have other chains, but those of entries: a key without entries gets a chain or loses it
    pub IsIndex-rechained : (chain' : K → Option ℕ) → ((k : K) (c : ℕ) → chain' k ≡ Some c → IsSome (list_of links c)) → ((j k : K) (c : ℕ) → chain' j ≡ Some c → chain' k ≡ Some c → j ≡ k) → ((r : ℕ) (f : Filing K P) (k : K) → filing r ≡ Some f → f.key ≡ Some k → chain' k ≡ chain k) → IsIndex chain' links filing
    IsIndex-rechained chain' live own same = record {
      live = live;
      own_chain = own;
      made = index.made;
      own_node = index.own_node;
      has_link = λ r f at. index.has_link r f at ∙ sym (ap (option_map (λ (c : ℕ). (c, f.value))) (by r f at f.key refl));
      owner = index.owner;
    }
      where
        by : (r : ℕ) (f : Filing K P) → filing r ≡ Some f → (o : Option K) → f.key ≡ o → option_and_then chain' o ≡ option_and_then chain o
        by r f at None key = refl
        by r f at (Some k) key = same r f k at key

    -- all keys have the chains that they had
    pub IsIndex-same_chains : (chain' : K → Option ℕ) → ((k : K) → chain' k ≡ chain k) → IsIndex chain' links filing
    IsIndex-same_chains chain' same = IsIndex-rechained chain' (λ k c at. index.live k c (sym (same k) ∙ at)) (λ j k c at_j at_k. index.own_chain j k c (sym (same j) ∙ at_j) (sym (same k) ∙ at_k)) (λ r f k at key. same k)

    -- ---- What the chain of a key holds

    module _ (k : K) (c : ℕ) (has : chain k ≡ Some c) where
      -- an entry whose node is in it has the key
      pub link_says : (r : ℕ) (f : Filing K P) → filing r ≡ Some f → (v : P) → link_of links f.node ≡ Some (c, v) → (f.key ≡ Some k) × (f.value ≡ v)
      link_says r f at v link = by_key f.key refl (sym (index.has_link r f at) ∙ link)
        where
          by_chain : (j : K) → f.key ≡ Some j → (o : Option ℕ) → chain j ≡ o → option_map {U = ℕ × P} (λ d. (d, f.value)) o ≡ Some (c, v) → (f.key ≡ Some k) × (f.value ≡ v)
          by_chain j key None is link = no_such (c, v) link
          by_chain j key (Some d) is link =
              let one = same_Some (d, f.value) (c, v) link in
              (key ∙ ap (λ (i : K). Some i) (index.own_chain j k c (is ∙ ap (λ (e : ℕ × P). Some e.0) one) has), ap (λ (e : ℕ × P). e.1) one)

          by_key : (o : Option K) → f.key ≡ o → option_map {U = ℕ × P} (λ d. (d, f.value)) (option_and_then chain o) ≡ Some (c, v) → (f.key ≡ Some k) × (f.value ≡ v)
          by_key None key link = no_such (c, v) link
          by_key (Some j) key link = by_chain j key (chain j) refl link

      -- and the node of an entry that has the key is in it
      pub filed_link : (r : ℕ) (f : Filing K P) → filing r ≡ Some f → f.key ≡ Some k → link_of links f.node ≡ Some (c, f.value)
      filed_link r f at key = index.has_link r f at ∙ (ap (λ (o : Option K). option_map {U = ℕ × P} (λ d. (d, f.value)) (option_and_then chain o)) key ∙ ap (option_map {U = ℕ × P} (λ d. (d, f.value))) has)

      pub held_filed : (v : P) → Holds links c v → IsFiled filing k v
      held_filed v h = let o = index.owner h.0 c v h.1 in (o.0, (o.1.0, (o.1.1.0, link_says o.0 o.1.0 o.1.1.0 v (ap (link_of links) o.1.1.1 ∙ h.1))))

      pub filed_held : (v : P) → IsFiled filing k v → Holds links c v
      filed_held v i = let f = i.1.0 in (f.node, filed_link i.0 f i.1.1.0 i.1.1.1.0 ∙ ap (λ (w : P). Some (c, w)) i.1.1.1.1)

-- where no key has a chain and nothing is said, nothing is asked of links without nodes
pub IsIndex-nothing : {K P : Type 0} (filing : ℕ → Option (Filing K P)) → ((r : ℕ) → filing r ≡ None) → IsIndex (λ k. None) [] filing
IsIndex-nothing {K} {P} filing none = record {
  live = λ k c at. absurd (cc);
  own_chain = λ j k c at_j at_k. absurd (cc);
  made = λ r f at. no_entry f (sym (none r) ∙ at);
  own_node = λ r s f g at_r at_s same. no_entry f (sym (none r) ∙ at_r);
  has_link = λ r f at. no_entry f (sym (none r) ∙ at);
  owner = λ n c v link. absurd (cc);
}
  where
    no_entry : {X : Type 0} (f : Filing K P) → ◌≡◌ {A = Option (Filing K P)} None (Some f) → X
    no_entry f is = absurd (cc)
