-- What removals and puts of a `Links` are to an index, and what its first entry is.
use Rattle.std.proofs.Common.{inl, inr, ◌≡◌, ◌++◌, ℕ, true, List, [], ◌∷◌, Option, Some, None, IfNone, IfSome, IsSome, refl, sym, ap, subst, ◌∙◌}
use Rattle.std.proofs.lemmas.Bool.{cases_eq}
use Rattle.std.proofs.lemmas.Option.{same_Some}
use Rattle.table_lists.specs.Index.{Holds, Refiles}
use Rattle.table_links.proofs.ReadLemmas.{ChangesOnly-linked, ChangesOnly-unlinked, entries-linked_same, made_free, made_linked}
use Rattle.table_links.specs.Links.{ChainOf, ChangesOnly, FreeNode, In, IsLinks, LinkedNode, Spot, Unmade, entries, head_of, is_free, is_made, last_of, last_or, link_of, linked, list_of, removed, removed_by, spot_at, spot_is_free, spot_is_made, spot_link, unlinked, without}

module _ {P : Type 0} where
  pub no_such : {X : Type 0} (e : ℕ × P) → ◌≡◌ {A = Option (ℕ × P)} None (Some e) → X
  no_such e is = absurd (cc)

  -- two links of one node are to one chain
  pub one_chain : (links : List (Spot P)) (n : ℕ) (d e : ℕ × P) → link_of links n ≡ Some d → link_of links n ≡ Some e → d.0 ≡ e.0
  one_chain links n d e is_d is_e = ap (λ (x : ℕ × P). x.0) (same_Some d e (sym is_d ∙ is_e))

  -- a made node without a link is free
  pub free_unlinked : (links : List (Spot P)) (n : ℕ) → link_of links n ≡ None → is_made links n ≡ true → is_free links n ≡ true
  free_unlinked links n none made = by (spot_at links n) none made
    where
      by : (s : Spot P) → spot_link s ≡ None → spot_is_made s ≡ true → spot_is_free s ≡ true
      by Unmade is made = made
      by (ChainOf list) is made = made
      by FreeNode is made = refl
      by (LinkedNode c v) is made = no_such (c, v) (sym is)

  -- a change of one chain and one node
  module _ (old new : List (Spot P)) (c n : ℕ) (list : List (ℕ × P)) (link : Option (ℕ × P)) (only : ChangesOnly old new c n list link) where
    stays_made : (m : ℕ) → (m ≡ n → ⊥) → is_made old m ≡ true → is_made new m ≡ true
    stays_made m other made = by (link_of old m) refl
      where
        by : (o : Option (ℕ × P)) → link_of old m ≡ o → is_made new m ≡ true
        by None is = made_free new m (only.free m other ∙ free_unlinked old m is made)
        by (Some e) is = made_linked new m e.0 e.1 (only.links m other ∙ is)

    pub Refiles-changed : Refiles old new n link
    Refiles-changed = record {
      here = only.link_is;
      others = only.links;
      made = λ m made. elim (cases_eq m n) [
        | inl same ↦ subst (λ k. is_made new k ≡ true) (sym same) only.stays_made
        | inr other ↦ stays_made m other made
      ];
      live = λ d live. elim (cases_eq d c) [
        | inl same ↦ subst (λ k. IsSome (list_of new k)) (sym same) (subst IsSome (sym only.list_is) refl)
        | inr other ↦ subst IsSome (sym (only.lists d other)) live
      ];
    }

  -- a node that had this link already
  pub Refiles-none : (links : List (Spot P)) (n : ℕ) (link : Option (ℕ × P)) → link_of links n ≡ link → Refiles links links n link
  Refiles-none links n link is = record { here = is; others = λ m other. refl; made = λ m made. made; live = λ c live. live }

  -- one after the other
  pub Refiles-twice : (a b c : List (Spot P)) (n : ℕ) (was is : Option (ℕ × P)) → Refiles a b n was → Refiles b c n is → Refiles a c n is
  Refiles-twice a b c n was is x y = record {
    here = y.here;
    others = λ m other. y.others m other ∙ x.others m other;
    made = λ m made. y.made m (x.made m made);
    live = λ d live. y.live d (x.live d live);
  }

  -- a node is taken out
  pub Refiles-removed : (links new : List (Spot P)) (n : ℕ) → IsLinks links → is_made links n ≡ true → new ≡ removed n links → Refiles links new n None
  Refiles-removed links new n sound made takes = subst (λ (l : List (Spot P)). Refiles links l n None) (sym takes) (by (link_of links n) refl)
    where
      by : (o : Option (ℕ × P)) → link_of links n ≡ o → Refiles links (removed_by n o links) n None
      by None is = Refiles-none links n None is
      by (Some e) is =
          let list = without n (entries links e.0) in
          Refiles-changed links (unlinked e.0 n list links) e.0 n list None (ChangesOnly-unlinked links e.0 n list (sound.listed n e.0 e.1 is).0 made)

  -- a node is put into a chain, wherever
  pub Refiles-linked : (links new : List (Spot P)) (c n : ℕ) (v : P) (list : List (ℕ × P)) → IsSome (list_of links c) → is_made links n ≡ true → new ≡ linked c n v list links → Refiles links new n (Some (c, v))
  Refiles-linked links new c n v list live made puts = subst (λ (l : List (Spot P)). Refiles links l n (Some (c, v))) (sym puts) (Refiles-changed links (linked c n v list links) c n list (Some (c, v)) (ChangesOnly-linked links c n list live made v))

  last_or-more : (o : Option (ℕ × P)) (xs : List (ℕ × P)) (e : ℕ × P) → last_or o (xs ++ e ∷ []) ≡ Some e
  last_or-more o [] e = refl
  last_or-more o (x ∷ xs) e = last_or-more (Some x) xs e

  -- a node that is put at the end is the last
  pub last_linked : (links new : List (Spot P)) (c n : ℕ) (v : P) (list : List (ℕ × P)) → IsSome (list_of links c) → is_made links n ≡ true → new ≡ linked c n v (list ++ (n, v) ∷ []) links → last_of (entries new c) ≡ Some (n, v)
  last_linked links new c n v list live made puts = ap (λ (l : List (Spot P)). last_of (entries l c)) puts ∙ (ap last_of (entries-linked_same links c n (list ++ (n, v) ∷ []) live made v) ∙ last_or-more None list (n, v))

  pub refiled_free : (old new : List (Spot P)) (n : ℕ) → is_made old n ≡ true → Refiles old new n None → is_free new n ≡ true
  refiled_free old new n made re = free_unlinked new n re.here (re.made n made)

  -- ---- The first entry of a chain

  module _ (links : List (Spot P)) (c n : ℕ) (v : P) (sound : IsLinks links) (head : head_of (entries links c) ≡ Some (n, v)) where
    pub first_link : (w : P) × (link_of links n ≡ Some (c, w))
    first_link = by (entries links c) refl head
      where
        by : (l : List (ℕ × P)) → entries links c ≡ l → head_of l ≡ Some (n, v) → (w : P) × (link_of links n ≡ Some (c, w))
        by [] is none = no_such (n, v) none
        by (e ∷ es) is some = sound.entered n c (subst (In n) (sym is) (inl (sym (ap (λ (x : ℕ × P). x.0) (same_Some e (n, v) some)))))

    pub first_made : is_made links n ≡ true
    first_made = made_linked links n c first_link.0 first_link.1

    pub first_some : (o : Option (ℕ × P)) → o ≡ link_of links n → IfSome o (λ link. Holds links c link.1)
    first_some None is = tt
    first_some (Some link) is = (n, subst (λ k. link_of links n ≡ Some (k, link.1)) (one_chain links n link (c, first_link.0) (sym is) first_link.1) (sym is))

    pub first_none : (o : Option (ℕ × P)) → o ≡ link_of links n → IfNone o ((w : P) → Holds links c w → ⊥)
    first_none None is = no_such (c, first_link.0) (is ∙ first_link.1)
    first_none (Some link) is = tt
