-- A walk through a chain goes from node to node.
use Rattle.core_records.proofs.Core.{[], after, after-at, ap, Apart, Apart-less, Apart-once, append_assoc, arith, ChangesOnly, ChangesOnly-unlinked, cond, entries, eq-eqb, following, head_of, In, In-here, In-right, in_list, IsLinks, length, link_of, List, list_or_nil, made_linked, ne_eqb, None, Option, refl, removed, removed_by, same_Some, Some, Spot, subst, sym, without, without-at, ℕ, ◌++◌, ◌<◌, ◌∙◌, ◌∷◌, ◌≡◌}
use Rattle.core_removals.specs.Walks.{Walk, from, left_from}

module _ {P : Type 0} where
  -- it begins at the front
  pub walk_begins : (Good : List (ℕ × P) → Type 0) (list : List (ℕ × P)) → Good list → Walk Good list (head_of list)
  walk_begins Good list good = record { front = []; back = list; parts = refl; next_is = refl; good = good }

  -- and ends where nothing is left
  pub walk_ends : (Good : List (ℕ × P) → Type 0) (list : List (ℕ × P)) (next : Option (ℕ × P)) → Walk Good list next → next ≡ None → Good []
  walk_ends Good list next walk is = by walk.back (sym walk.next_is ∙ is) walk.good
    where
      by : (back : List (ℕ × P)) → head_of back ≡ None → Good back → Good []
      by [] none good = good
      by (e ∷ es) none good = absurd (cc)

  from_back : (front back : List (ℕ × P)) → Apart (front ++ back) → left_from (head_of back) (front ++ back) ≡ length back
  from_back front [] apart = refl
  from_back [] (e ∷ es) apart = ap (λ b. cond b (length (e ∷ es)) (from e.0 es)) (eq-eqb e.0 e.0 refl)
  from_back (f ∷ fs) (e ∷ es) apart =
      ap (λ b. cond b (length (f ∷ fs ++ e ∷ es)) (from e.0 (fs ++ e ∷ es))) (ne_eqb f.0 e.0 (λ same. apart.0 (subst (λ m. In m (fs ++ e ∷ es)) (sym same) (In-here e fs es))))
      ∙ from_back fs (e ∷ es) apart.1

  module _ (Good : List (ℕ × P) → Type 0) (links : List (Spot P)) (c : ℕ) (sound : IsLinks links) (next : Option (ℕ × P)) (e : ℕ × P) (walk : Walk Good (entries links c) next) (is : next ≡ Some e) where
    rest : (b : List (ℕ × P)) × (walk.back ≡ e ∷ b)
    rest = by walk.back (sym walk.next_is ∙ is)
      where
        by : (back : List (ℕ × P)) → head_of back ≡ Some e → (b : List (ℕ × P)) × (back ≡ e ∷ b)
        by [] none = absurd (cc)
        by (x ∷ b) first = (b, ap (λ (y : ℕ × P). y ∷ b) (same_Some x e first))

    whole : entries links c ≡ walk.front ++ e ∷ rest.0
    whole = walk.parts ∙ ap (λ (l : List (ℕ × P)). walk.front ++ l) rest.1

    apart : Apart (walk.front ++ e ∷ rest.0)
    apart = subst Apart whole (sound.once c)

    split : entries links c ≡ (walk.front ++ e ∷ []) ++ rest.0
    split = whole ∙ sym (append_assoc walk.front (e ∷ []) rest.0)

    pub walk_good : {X : Type 0} → ((b : List (ℕ × P)) → Good (e ∷ b) → X) → X
    walk_good use_of = use_of rest.0 (subst Good rest.1 walk.good)

    -- the node that was come to is in the chain
    pub walk_link : (v : P) × (link_of links e.0 ≡ Some (c, v))
    walk_link = sound.entered e.0 c (subst (In e.0) (sym whole) (In-here e walk.front rest.0))

    following_is : following e.0 links ≡ head_of rest.0
    following_is = ap (λ o. in_list (after e.0) o links) walk_link.1 ∙ (ap (after e.0) whole ∙ after-at e.0 e.1 walk.front rest.0 apart)

    module _ (other : Option (ℕ × P)) (other_is : other ≡ following e.0 links) where
      pub walk_more : (Then : List (ℕ × P) → Type 0) → ((b : List (ℕ × P)) → Good (e ∷ b) → Then b) → Walk Then (entries links c) other
      walk_more Then more = record { front = walk.front ++ e ∷ []; back = rest.0; parts = split; next_is = other_is ∙ following_is; good = more rest.0 (subst Good rest.1 walk.good) }

      pub walk_smaller : left_from other (entries links c) < left_from next (entries links c)
      walk_smaller =
          let later : left_from other (entries links c) ≡ length rest.0 = ap (λ o. left_from o (entries links c)) (other_is ∙ following_is) ∙ (ap (left_from (head_of rest.0)) split ∙ from_back (walk.front ++ e ∷ []) rest.0 (subst Apart split (sound.once c))) in
          let here : left_from next (entries links c) ≡ length (e ∷ rest.0) = ap (λ o. left_from o (entries links c)) is ∙ (ap (from e.0) whole ∙ from_back walk.front (e ∷ rest.0) apart) in
          omega (arith, later, here)

      -- where the node leaves its chain the walk goes on with what is left
      module _ (new : List (Spot P)) (takes : new ≡ removed e.0 links) where
        out_links : ChangesOnly links new c e.0 (without e.0 (entries links c)) None
        out_links = subst (λ (l : List (Spot P)). ChangesOnly links l c e.0 (without e.0 (entries links c)) None) (sym (takes ∙ ap (λ o. removed_by e.0 o links) walk_link.1))
            (ChangesOnly-unlinked links c e.0 (without e.0 (entries links c)) (sound.listed e.0 c walk_link.0 walk_link.1).0 (made_linked links e.0 c walk_link.0 walk_link.1))

        out_entries : entries new c ≡ walk.front ++ rest.0
        out_entries = ap list_or_nil out_links.list_is ∙ (ap (without e.0) whole ∙ without-at e.0 e.1 walk.front rest.0 apart)

        pub walk_out : (Then : List (ℕ × P) → Type 0) → ((b : List (ℕ × P)) → (In e.0 b → ⊥) → Good (e ∷ b) → Then b) → Walk Then (entries new c) other
        walk_out Then more = record {
          front = walk.front;
          back = rest.0;
          parts = out_entries;
          next_is = other_is ∙ following_is;
          good = more rest.0 (λ i. Apart-once (e.0, e.1) walk.front rest.0 apart (In-right e.0 walk.front rest.0 i)) (subst Good rest.1 walk.good);
        }

        pub out_others : (n : ℕ) → (n ≡ e.0 → ⊥) → link_of new n ≡ link_of links n
        out_others = out_links.links

        pub out_smaller : left_from other (entries new c) < left_from next (entries links c)
        out_smaller =
            let later : left_from other (entries new c) ≡ length rest.0 = ap (λ o. left_from o (entries new c)) (other_is ∙ following_is) ∙ (ap (left_from (head_of rest.0)) out_entries ∙ from_back walk.front rest.0 (Apart-less (e.0, e.1) walk.front rest.0 apart)) in
            let here : left_from next (entries links c) ≡ length (e ∷ rest.0) = ap (λ o. left_from o (entries links c)) is ∙ (ap (from e.0) whole ∙ from_back walk.front (e ∷ rest.0) apart) in
            omega (arith, later, here)
