-- A name that is given to a chain or a free node, and one that is given back.
use Rattle.std.proofs.Common.{◌≡◌, ℕ, inl, inr, List, [], length, refl, sym, ap, subst, ◌∙◌}
use Rattle.std.proofs.lemmas.Bool.{cases_eq}
use Rattle.table_links.specs.declared.links.Role.{Role}
use Rattle.table_links.specs.declared.links.Role.TheVariants.{Unused, Chain, Free, Linked}
use Rattle.table_links.specs.Links.{Spot, ChainOf, spot_at, Renames}
use Rattle.table_links.specs.Rings.{at, role_at, ring_list, In, Path, IsRing, AreRings, shown, spot_of, new_spot}
use Rattle.table_links.proofs.Paths.{Path-role, Path-frame}
use Rattle.table_links.proofs.Spots.{spot_at-shown}
use Rattle.table_links.proofs.Changes.{ring_list-is, ring_from}

-- a name that represents no node in a chain and for no chain with nodes, and what it represents then
pub record Renamed {P : Type 0} (nx pv nx' pv' : List ℕ) (rs rs' : List (Role P)) (i : ℕ) (r : Role P) : Type 0 where
  pub was_not_linked : (c : ℕ) (v : P) → role_at rs i ≡ Linked c v → ⊥
  pub was_empty : role_at rs i ≡ Chain → ring_list nx rs i ≡ []
  pub role : role_at rs' i ≡ r
  pub is_not_linked : (c : ℕ) (v : P) → r ≡ Linked c v → ⊥
  pub is_empty : r ≡ Chain → (at nx' i ≡ i) × (at pv' i ≡ i)
  pub others : (q : ℕ) → (q ≡ i → ⊥) → (at nx' q ≡ at nx q) × ((at pv' q ≡ at pv q) × (role_at rs' q ≡ role_at rs q))
  pub long_next : length nx' ≡ length rs'
  pub long_previous : length pv' ≡ length rs'

module _ {P : Type 0} (nx pv nx' pv' : List ℕ) (rs rs' : List (Role P)) (i : ℕ) (r : Role P) (w : Renamed nx pv nx' pv' rs rs' i r) (sound : AreRings nx pv rs) where
  path_other : (d : ℕ) → role_at rs d ≡ Chain → (d ≡ i → ⊥) → Path nx' pv' rs' d d (ring_list nx rs d) d
  path_other d d_is not_i =
      let ring = sound.rings d d_is in
      let o = w.others d not_i in
      Path-frame nx pv nx' pv' rs rs' d d (ring_list nx rs d) d o.0 o.1.0
      (λ q in'. w.others q (λ same. let role = Path-role nx pv rs d d (ring_list nx rs d) d q ring.path in' in w.was_not_linked d role.0 (ap (role_at rs) (sym same) ∙ role.1)))
      ring.path

  list_other : (d : ℕ) → role_at rs d ≡ Chain → (d ≡ i → ⊥) → ring_list nx' rs' d ≡ ring_list nx rs d
  list_other d d_is not_i = ring_list-is nx' pv' rs' d (ring_list nx rs d) ((w.others d not_i).1.1 ∙ d_is) (path_other d d_is not_i) (sound.rings d d_is).apart

  path_here : r ≡ Chain → Path nx' pv' rs' i i [] i
  path_here is = w.is_empty is

  list_here : r ≡ Chain → ring_list nx' rs' i ≡ []
  list_here is = ring_list-is nx' pv' rs' i [] (w.role ∙ is) (path_here is) tt

  pub AreRings-renamed : AreRings nx' pv' rs'
  AreRings-renamed = record {
    as_many_next = w.long_next;
    as_many_previous = w.long_previous;
    rings = λ d d_is. elim (cases_eq d i) [
      | inl same ↦ subst (λ k. IsRing nx' pv' rs' k (ring_list nx' rs' k)) (sym same)
          (let here = sym w.role ∙ (ap (role_at rs') (sym same) ∙ d_is) in ring_from nx' pv' rs' i [] (w.role ∙ here) (path_here here) tt)
      | inr not_i ↦
          let was = sym (w.others d not_i).1.1 ∙ d_is in
          ring_from nx' pv' rs' d (ring_list nx rs d) d_is (path_other d was not_i) (sound.rings d was).apart
    ];
    owned = λ n d u n_is. elim (cases_eq n i) [
      | inl same ↦ absurd (w.is_not_linked d u (sym w.role ∙ (ap (role_at rs') (sym same) ∙ n_is)))
      | inr not_i ↦
          let o = sound.owned n d u (sym (w.others n not_i).1.1 ∙ n_is) in
          let d_not : d ≡ i → ⊥ = λ same. subst (In n) (ap (ring_list nx rs) same ∙ w.was_empty (ap (role_at rs) (sym same) ∙ o.0)) o.1 in
          ((w.others d d_not).1.1 ∙ o.0, subst (In n) (sym (list_other d o.0 d_not)) o.1)
    ];
  }

  spot_kept : (n : ℕ) → (n ≡ i → ⊥) → (s : Role P) → role_at rs n ≡ s → spot_of nx' rs' n s ≡ spot_of nx rs n s
  spot_kept n not_i Unused is = refl
  spot_kept n not_i Chain is = ap ChainOf (list_other n is not_i)
  spot_kept n not_i Free is = refl
  spot_kept n not_i (Linked d u) is = refl

  spot_here : (s : Role P) → r ≡ s → spot_of nx' rs' i s ≡ new_spot s
  spot_here Unused is = refl
  spot_here Chain is = ap ChainOf (list_here is)
  spot_here Free is = refl
  spot_here (Linked d u) is = refl

  pub Renames-renamed : (was : Spot P) → spot_at (shown nx rs) i ≡ was → Renames (shown nx rs) (shown nx' rs') i was (new_spot r)
  Renames-renamed was is = record {
    named = is;
    names = spot_at-shown nx' rs' i ∙ (ap (spot_of nx' rs' i) w.role ∙ spot_here r refl);
    others = λ n not_i. spot_at-shown nx' rs' n ∙ (ap (spot_of nx' rs' n) (w.others n not_i).1.1 ∙ (spot_kept n not_i (role_at rs n) refl ∙ sym (spot_at-shown nx rs n)));
  }
