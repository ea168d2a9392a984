-- What a removal from a ring leaves of all rings.
use Rattle.std.proofs.Common.{◌≡◌, ℕ, ◌⊎◌, inl, inr, List, ◌∷◌, ◌++◌, length, set, Some, refl, sym, ap, subst, ◌∙◌, arith, length-set}
use Rattle.std.proofs.lemmas.Bool.{cases_eq}
use Rattle.std.proofs.lemmas.List.{get_or-set_same, get_or-set_other}
use Rattle.table_links.specs.declared.links.Role.{Role}
use Rattle.table_links.specs.declared.links.Role.TheVariants.{Unused, Chain, Free, Linked}
use Rattle.table_links.specs.Links.{Unmade, ChainOf, FreeNode, spot_at, unlinked}
use Rattle.table_links.specs.Rings.{role_at, ring_list, In, Apart, Path, IsRing, AreRings, shown, spot_of}
use Rattle.table_links.proofs.Paths.{end, start, In-more, In-end, In-start, In-left, In-right, Apart-less, Path-value, Path-frame}
use Rattle.table_links.proofs.Spots.{spot_at-shown, length-shown, shown-ext}
use Rattle.table_links.proofs.Splices.{Cuts, Path-unlinked}
use Rattle.table_links.proofs.Changes.{within, ring_list-is, ring_from, owner, owner-ring, chain_not_in, differ}

module _ {P : Type 0} where
  module _ (nx pv nx' pv' : List ℕ) (rs rs' : List (Role P)) (c x : ℕ) (v : P) (a b : List (ℕ × P)) (chain : role_at rs c ≡ Chain) (is : ring_list nx rs c ≡ a ++ (x, v) ∷ b) (w : Cuts nx pv nx' pv' rs rs' (end c a) (start b c) x) (as_many : length rs' ≡ length rs) (many_next : length nx' ≡ length nx) (many_previous : length pv' ≡ length pv) (sound : AreRings nx pv rs) where
    the_ring : IsRing nx pv rs c (a ++ (x, v) ∷ b)
    the_ring = subst (λ l. IsRing nx pv rs c l) is (sound.rings c chain)

    pub was_linked : role_at rs x ≡ Linked c v
    was_linked = Path-value nx pv rs c c x v a b c the_ring.path

    chain_is_not : (d : ℕ) → role_at rs d ≡ Chain → d ≡ x → ⊥
    chain_is_not d d_is same = absurd (let e = sym d_is ∙ (ap (role_at rs) same ∙ was_linked) in cc)

    no_c : In c (a ++ (x, v) ∷ b) → ⊥
    no_c = chain_not_in nx pv rs c (a ++ (x, v) ∷ b) chain the_ring

    path_c : Path nx' pv' rs' c c (a ++ b) c
    path_c = Path-unlinked nx pv nx' pv' rs rs' c x v c a b c w the_ring.apart no_c no_c the_ring.path

    apart_c : Apart (a ++ b)
    apart_c = Apart-less (x, v) a b the_ring.apart

    chain_c : role_at rs' c ≡ Chain
    chain_c = w.role_other c (chain_is_not c chain) ∙ chain

    pub unlinked_list : ring_list nx' rs' c ≡ a ++ b
    unlinked_list = ring_list-is nx' pv' rs' c (a ++ b) chain_c path_c apart_c

    own_node : owner x (role_at rs x) ≡ Some c
    own_node = ap (owner x) was_linked

    own_before : owner (end c a) (role_at rs (end c a)) ≡ Some c
    own_before = owner-ring nx pv rs c (a ++ (x, v) ∷ b) chain the_ring (end c a) (elim (In-end c a) [ inl same ↦ inl same | inr i ↦ inr (In-left (end c a) a ((x, v) ∷ b) i) ])

    own_after : owner (start b c) (role_at rs (start b c)) ≡ Some c
    own_after = owner-ring nx pv rs c (a ++ (x, v) ∷ b) chain the_ring (start b c) (elim (In-start b c) [ inl same ↦ inl same | inr i ↦ inr (In-right (start b c) a ((x, v) ∷ b) (inr i)) ])

    path_other : (d : ℕ) → role_at rs d ≡ Chain → (d ≡ c → ⊥) → Path nx' pv' rs' d d (ring_list nx rs d) d
    path_other d d_is not_c =
        let ring = sound.rings d d_is in
        let own : (q : ℕ) → (q ≡ d) ⊎ In q (ring_list nx rs d) → owner q (role_at rs q) ≡ Some d = owner-ring nx pv rs d (ring_list nx rs d) d_is ring in
        Path-frame nx pv nx' pv' rs rs' d d (ring_list nx rs d) d
        (w.next_other d (differ d (end c a) d c rs (own d (inl refl)) own_before not_c))
        (w.previous_other d (differ d (start b c) d c rs (own d (inl refl)) own_after not_c))
        (λ q i. (
          w.next_other q (differ q (end c a) d c rs (own q (inr i)) own_before not_c),
          (
            w.previous_other q (differ q (start b c) d c rs (own q (inr i)) own_after not_c),
            w.role_other q (differ q x d c rs (own q (inr i)) own_node not_c),
          ),
        ))
        ring.path

    other_chain : (d : ℕ) → role_at rs d ≡ Chain → role_at rs' d ≡ Chain
    other_chain d d_is = w.role_other d (chain_is_not d d_is) ∙ d_is

    was_chain : (d : ℕ) → role_at rs' d ≡ Chain → role_at rs d ≡ Chain
    was_chain d d_is = elim (cases_eq d x) [
      | inl same ↦ absurd (let e = sym d_is ∙ (ap (role_at rs') same ∙ w.role) in cc)
      | inr not_x ↦ sym (w.role_other d not_x) ∙ d_is
    ]

    pub other_list : (d : ℕ) → role_at rs d ≡ Chain → (d ≡ c → ⊥) → ring_list nx' rs' d ≡ ring_list nx rs d
    other_list d d_is not_c = ring_list-is nx' pv' rs' d (ring_list nx rs d) (other_chain d d_is) (path_other d d_is not_c) (sound.rings d d_is).apart

    ring_after : (d : ℕ) → role_at rs' d ≡ Chain → IsRing nx' pv' rs' d (ring_list nx' rs' d)
    ring_after d d_is = elim (cases_eq d c) [
      | inl same ↦ subst (λ k. IsRing nx' pv' rs' k (ring_list nx' rs' k)) (sym same) (ring_from nx' pv' rs' c (a ++ b) chain_c path_c apart_c)
      | inr not_c ↦ ring_from nx' pv' rs' d (ring_list nx rs d) d_is (path_other d (was_chain d d_is) not_c) (sound.rings d (was_chain d d_is)).apart
    ]

    in_after : (n d : ℕ) → (n ≡ x → ⊥) → role_at rs d ≡ Chain → In n (ring_list nx rs d) → In n (ring_list nx' rs' d)
    in_after n d not_x d_is i = elim (cases_eq d c) [
      | inl same ↦ subst (λ k. In n (ring_list nx' rs' k)) (sym same) (subst (In n) (sym unlinked_list)
          (elim (In-more n (x, v) a b (subst (In n) (ap (ring_list nx rs) same ∙ is) i)) [ inl is_x ↦ absurd (not_x is_x) | inr k ↦ k ]))
      | inr not_c ↦ subst (In n) (sym (other_list d d_is not_c)) i
    ]

    owned_after : (n d : ℕ) (u : P) → role_at rs' n ≡ Linked d u → (role_at rs' d ≡ Chain) × In n (ring_list nx' rs' d)
    owned_after n d u n_is = elim (cases_eq n x) [
      | inl same ↦ absurd (let e = sym w.role ∙ (ap (role_at rs') (sym same) ∙ n_is) in cc)
      | inr not_x ↦
          let o = sound.owned n d u (sym (w.role_other n not_x) ∙ n_is) in
          (other_chain d o.0, in_after n d not_x o.0 o.1)
    ]

    pub AreRings-unlinked : AreRings nx' pv' rs'
    AreRings-unlinked = record {
      as_many_next = many_next ∙ (sound.as_many_next ∙ sym as_many);
      as_many_previous = many_previous ∙ (sound.as_many_previous ∙ sym as_many);
      rings = ring_after;
      owned = owned_after;
    }

    spot_after : (i : ℕ) → (i ≡ x → ⊥) → (i ≡ c → ⊥) → (r : Role P) → role_at rs i ≡ r → spot_of nx' rs' i r ≡ spot_of nx rs i r
    spot_after i not_x not_c Unused is_r = refl
    spot_after i not_x not_c Chain is_r = ap ChainOf (other_list i is_r not_c)
    spot_after i not_x not_c Free is_r = refl
    spot_after i not_x not_c (Linked d u) is_r = refl

    pub shown-unlinked : shown nx' rs' ≡ unlinked c x (a ++ b) (shown nx rs)
    unfolding unlinked
    shown-unlinked =
        shown-ext nx' rs' (set (set (shown nx rs) c (ChainOf (a ++ b))) x FreeNode)
        (as_many ∙ (sym (length-shown nx rs) ∙ (sym (length-set (shown nx rs) c (ChainOf (a ++ b))) ∙ sym (length-set (set (shown nx rs) c (ChainOf (a ++ b))) x FreeNode))))
        (λ i. elim (cases_eq i x) [
          | inl same ↦
              ap (λ k. spot_of nx' rs' k (role_at rs' k)) same ∙ (ap (spot_of nx' rs' x) w.role
              ∙ (sym (get_or-set_same (set (shown nx rs) c (ChainOf (a ++ b))) x FreeNode Unmade (let s = length-set (shown nx rs) c (ChainOf (a ++ b)) in let t = length-shown nx rs in let u = within rs x (Linked c v) was_linked (λ e. absurd (cc)) in omega arith))
              ∙ ap (spot_at (set (set (shown nx rs) c (ChainOf (a ++ b))) x FreeNode)) (sym same)))
          | inr not_x ↦ elim (cases_eq i c) [
            | inl same ↦
                ap (λ k. spot_of nx' rs' k (role_at rs' k)) same ∙ (ap (spot_of nx' rs' c) chain_c ∙ (ap ChainOf unlinked_list
                ∙ (sym (get_or-set_same (shown nx rs) c (ChainOf (a ++ b)) Unmade (let t = length-shown nx rs in let u = within rs c Chain chain (λ e. absurd (cc)) in omega arith))
                ∙ (ap (spot_at (set (shown nx rs) c (ChainOf (a ++ b)))) (sym same)
                ∙ sym (get_or-set_other (set (shown nx rs) c (ChainOf (a ++ b))) x i FreeNode Unmade not_x)))))
            | inr not_c ↦
                ap (spot_of nx' rs' i) (w.role_other i not_x) ∙ (spot_after i not_x not_c (role_at rs i) refl
                ∙ (sym (spot_at-shown nx rs i)
                ∙ (sym (get_or-set_other (shown nx rs) c i (ChainOf (a ++ b)) Unmade not_c)
                ∙ sym (get_or-set_other (set (shown nx rs) c (ChainOf (a ++ b))) x i FreeNode Unmade not_x))))
          ]
        ])
