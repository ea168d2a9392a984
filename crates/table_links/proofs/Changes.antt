-- What the changes of a ring leave of all rings.
use Rattle.std.proofs.Common.{◌≡◌, ℕ, ◌<◌, ◌⊎◌, inl, inr, List, ◌∷◌, ◌++◌, length, set, Option, Some, None, refl, sym, ap, subst, ◌∙◌, arith, length-set}
use Rattle.std.proofs.lemmas.Bool.{cases_eq, cases_lt}
use Rattle.std.proofs.lemmas.List.{get_or-set_same, get_or-set_other, get_or_past}
use Rattle.table_links.specs.declared.links.Role.{Role}
use Rattle.table_links.specs.declared.links.Role.TheVariants.{Unused, Chain, Free, Linked}
use Rattle.table_links.specs.Links.{Unmade, ChainOf, LinkedNode, spot_at, linked}
use Rattle.table_links.specs.Rings.{role_at, role_value, ring_list, In, Apart, Path, IsRing, AreRings, shown, spot_of}
use Rattle.table_links.proofs.Paths.{end, start, In-with, In-here, In-end, In-start, In-left, In-right, Apart-with, Path-role, Path-frame, walk-path, path_short}
use Rattle.table_links.proofs.Spots.{spot_at-shown, length-shown, shown-ext}
use Rattle.table_links.proofs.Splices.{Splices, Path-linked}

module _ {P : Type 0} where
  -- whose ring a name is in
  abbrev pub owner : ℕ → Role P → Option ℕ
  owner n Unused = None
  owner n Chain = Some n
  owner n Free = None
  owner n (Linked chain value) = Some chain

  -- a name that is used is one of the names
  pub within : (rs : List (Role P)) (n : ℕ) (r : Role P) → role_at rs n ≡ r → (r ≡ Unused → ⊥) → n < length rs
  within rs n r is used = elim (cases_lt n (length rs)) [ inl below ↦ below | inr past ↦ absurd (used (sym is ∙ get_or_past rs n Unused past)) ]

  -- the list of a chain is the one of its ring
  pub ring_list-is : (nx pv : List ℕ) (rs : List (Role P)) (c : ℕ) (list : List (ℕ × P)) → role_at rs c ≡ Chain → Path nx pv rs c c list c → Apart list → ring_list nx rs c ≡ list
  ring_list-is nx pv rs c list is path apart =
      walk-path nx pv rs c c list c (length rs) (path_short nx pv rs c c list c path apart) (ap role_value is) path

  pub ring_from : (nx pv : List ℕ) (rs : List (Role P)) (c : ℕ) (list : List (ℕ × P)) → role_at rs c ≡ Chain → Path nx pv rs c c list c → Apart list → IsRing nx pv rs c (ring_list nx rs c)
  ring_from nx pv rs c list is path apart =
      subst (λ l. IsRing nx pv rs c l) (sym (ring_list-is nx pv rs c list is path apart)) (record { path = path; apart = apart })

  module _ (nx pv : List ℕ) (rs : List (Role P)) (c : ℕ) (list : List (ℕ × P)) (is : role_at rs c ≡ Chain) (ring : IsRing nx pv rs c list) where
    -- a node of a ring is owned by it, and so is the chain's own name
    pub owner-in : (n : ℕ) → In n list → owner n (role_at rs n) ≡ Some c
    owner-in n i = let r = Path-role nx pv rs c c list c n ring.path i in ap (owner n) r.1

    pub owner-ring : (n : ℕ) → (n ≡ c) ⊎ In n list → owner n (role_at rs n) ≡ Some c
    owner-ring n (inl same) = ap (owner n) (ap (role_at rs) same ∙ is) ∙ ap Some same
    owner-ring n (inr i) = owner-in n i

    pub chain_not_in : In c list → ⊥
    chain_not_in i = let r = Path-role nx pv rs c c list c c ring.path i in absurd (let e = sym is ∙ r.1 in cc)

    pub free_not_in : (x : ℕ) → role_at rs x ≡ Free → In x list → ⊥
    free_not_in x free i = let r = Path-role nx pv rs c c list c x ring.path i in absurd (let e = sym free ∙ r.1 in cc)

  pub differ : (m n c d : ℕ) (rs : List (Role P)) → owner m (role_at rs m) ≡ Some c → owner n (role_at rs n) ≡ Some d → (c ≡ d → ⊥) → m ≡ n → ⊥
  differ m n c d rs om on not_same same = not_same (some_inj (sym om ∙ (ap (λ k. owner k (role_at rs k)) same ∙ on)))
    where
      some_inj : Some c ≡ Some d → c ≡ d
      some_inj e = cc

  free_differs : (m x c : ℕ) (rs : List (Role P)) → owner m (role_at rs m) ≡ Some c → role_at rs x ≡ Free → m ≡ x → ⊥
  free_differs m x c rs om free same = absurd (let e = sym om ∙ (ap (λ k. owner k (role_at rs k)) same ∙ ap (owner x) free) in cc)

  -- an insertion
  module _ (nx pv nx' pv' : List ℕ) (rs rs' : List (Role P)) (c x : ℕ) (v : P) (a b : List (ℕ × P)) (chain : role_at rs c ≡ Chain) (free : role_at rs x ≡ Free) (is : ring_list nx rs c ≡ a ++ b) (w : Splices nx pv nx' pv' rs rs' c (end c a) (start b c) x v) (as_many : length rs' ≡ length rs) (many_next : length nx' ≡ length nx) (many_previous : length pv' ≡ length pv) (sound : AreRings nx pv rs) where
    the_ring : IsRing nx pv rs c (a ++ b)
    the_ring = subst (λ l. IsRing nx pv rs c l) is (sound.rings c chain)

    chain_is_not : (d : ℕ) → role_at rs d ≡ Chain → d ≡ x → ⊥
    chain_is_not d d_is same = absurd (let e = sym d_is ∙ (ap (role_at rs) same ∙ free) in cc)

    no_x : In x (a ++ b) → ⊥
    no_x = free_not_in nx pv rs c (a ++ b) chain the_ring x free

    no_c : In c (a ++ b) → ⊥
    no_c = chain_not_in nx pv rs c (a ++ b) chain the_ring

    path_c : Path nx' pv' rs' c c (a ++ (x, v) ∷ b) c
    path_c = Path-linked nx pv nx' pv' rs rs' c x v c a b c w the_ring.apart no_c no_c no_x (λ same. chain_is_not c chain (sym same)) (λ same. chain_is_not c chain (sym same)) the_ring.path

    apart_c : Apart (a ++ (x, v) ∷ b)
    apart_c = Apart-with (x, v) a b no_x the_ring.apart

    chain_c : role_at rs' c ≡ Chain
    chain_c = w.role_other c (chain_is_not c chain) ∙ chain

    pub linked_list : ring_list nx' rs' c ≡ a ++ (x, v) ∷ b
    linked_list = ring_list-is nx' pv' rs' c (a ++ (x, v) ∷ b) chain_c path_c apart_c

    own_before : owner (end c a) (role_at rs (end c a)) ≡ Some c
    own_before = owner-ring nx pv rs c (a ++ b) chain the_ring (end c a) (elim (In-end c a) [ inl same ↦ inl same | inr i ↦ inr (In-left (end c a) a b i) ])

    own_after : owner (start b c) (role_at rs (start b c)) ≡ Some c
    own_after = owner-ring nx pv rs c (a ++ b) chain the_ring (start b c) (elim (In-start b c) [ inl same ↦ inl same | inr i ↦ inr (In-right (start b c) a b i) ])

    path_other : (d : ℕ) → role_at rs d ≡ Chain → (d ≡ c → ⊥) → Path nx' pv' rs' d d (ring_list nx rs d) d
    path_other d d_is not_c =
        let ring = sound.rings d d_is in
        let own : (q : ℕ) → (q ≡ d) ⊎ In q (ring_list nx rs d) → owner q (role_at rs q) ≡ Some d = owner-ring nx pv rs d (ring_list nx rs d) d_is ring in
        Path-frame nx pv nx' pv' rs rs' d d (ring_list nx rs d) d
        (w.next_other d (differ d (end c a) d c rs (own d (inl refl)) own_before not_c) (chain_is_not d d_is))
        (w.previous_other d (chain_is_not d d_is) (differ d (start b c) d c rs (own d (inl refl)) own_after not_c))
        (λ q i. (
          w.next_other q (differ q (end c a) d c rs (own q (inr i)) own_before not_c) (free_differs q x d rs (own q (inr i)) free),
          (
            w.previous_other q (free_differs q x d rs (own q (inr i)) free) (differ q (start b c) d c rs (own q (inr i)) own_after not_c),
            w.role_other q (free_differs q x d rs (own q (inr i)) free),
          ),
        ))
        ring.path

    other_chain : (d : ℕ) → role_at rs d ≡ Chain → role_at rs' d ≡ Chain
    other_chain d d_is = w.role_other d (chain_is_not d d_is) ∙ d_is

    was_chain : (d : ℕ) → role_at rs' d ≡ Chain → role_at rs d ≡ Chain
    was_chain d d_is = elim (cases_eq d x) [
      | inl same ↦ absurd (let e = sym d_is ∙ (ap (role_at rs') same ∙ w.role) in cc)
      | inr not_x ↦ sym (w.role_other d not_x) ∙ d_is
    ]

    pub other_list : (d : ℕ) → role_at rs d ≡ Chain → (d ≡ c → ⊥) → ring_list nx' rs' d ≡ ring_list nx rs d
    other_list d d_is not_c = ring_list-is nx' pv' rs' d (ring_list nx rs d) (other_chain d d_is) (path_other d d_is not_c) (sound.rings d d_is).apart

    ring_after : (d : ℕ) → role_at rs' d ≡ Chain → IsRing nx' pv' rs' d (ring_list nx' rs' d)
    ring_after d d_is = elim (cases_eq d c) [
      | inl same ↦ subst (λ k. IsRing nx' pv' rs' k (ring_list nx' rs' k)) (sym same) (ring_from nx' pv' rs' c (a ++ (x, v) ∷ b) chain_c path_c apart_c)
      | inr not_c ↦ ring_from nx' pv' rs' d (ring_list nx rs d) d_is (path_other d (was_chain d d_is) not_c) (sound.rings d (was_chain d d_is)).apart
    ]

    in_after : (n d : ℕ) → role_at rs d ≡ Chain → In n (ring_list nx rs d) → In n (ring_list nx' rs' d)
    in_after n d d_is i = elim (cases_eq d c) [
      | inl same ↦ subst (λ k. In n (ring_list nx' rs' k)) (sym same) (subst (In n) (sym linked_list) (In-with n (x, v) a b (subst (In n) (ap (ring_list nx rs) same ∙ is) i)))
      | inr not_c ↦ subst (In n) (sym (other_list d d_is not_c)) i
    ]

    owned_after : (n d : ℕ) (u : P) → role_at rs' n ≡ Linked d u → (role_at rs' d ≡ Chain) × In n (ring_list nx' rs' d)
    owned_after n d u n_is = elim (cases_eq n x) [
      | inl same ↦
          let e : c ≡ d = same_chain (sym w.role ∙ (ap (role_at rs') (sym same) ∙ n_is)) in
          (ap (role_at rs') (sym e) ∙ chain_c, subst (λ k. In n (ring_list nx' rs' k)) e (subst (In n) (sym linked_list) (subst (λ m. In m (a ++ (x, v) ∷ b)) (sym same) (In-here (x, v) a b))))
      | inr not_x ↦
          let o = sound.owned n d u (sym (w.role_other n not_x) ∙ n_is) in
          (other_chain d o.0, in_after n d o.0 o.1)
    ]
      where
        same_chain : Linked c v ≡ Linked d u → c ≡ d
        same_chain e = cc

    pub AreRings-linked : AreRings nx' pv' rs'
    AreRings-linked = record {
      as_many_next = many_next ∙ (sound.as_many_next ∙ sym as_many);
      as_many_previous = many_previous ∙ (sound.as_many_previous ∙ sym as_many);
      rings = ring_after;
      owned = owned_after;
    }

    spot_after : (i : ℕ) → (i ≡ x → ⊥) → (i ≡ c → ⊥) → (r : Role P) → role_at rs i ≡ r → spot_of nx' rs' i r ≡ spot_of nx rs i r
    spot_after i not_x not_c Unused is_r = refl
    spot_after i not_x not_c Chain is_r = ap ChainOf (other_list i is_r not_c)
    spot_after i not_x not_c Free is_r = refl
    spot_after i not_x not_c (Linked d u) is_r = refl

    pub shown-linked : shown nx' rs' ≡ linked c x v (a ++ (x, v) ∷ b) (shown nx rs)
    unfolding linked
    shown-linked =
        shown-ext nx' rs' (set (set (shown nx rs) c (ChainOf (a ++ (x, v) ∷ b))) x (LinkedNode c v))
        (as_many ∙ (sym (length-shown nx rs) ∙ (sym (length-set (shown nx rs) c (ChainOf (a ++ (x, v) ∷ b))) ∙ sym (length-set (set (shown nx rs) c (ChainOf (a ++ (x, v) ∷ b))) x (LinkedNode c v)))))
        (λ i. elim (cases_eq i x) [
          | inl same ↦
              ap (λ k. spot_of nx' rs' k (role_at rs' k)) same ∙ (ap (spot_of nx' rs' x) w.role
              ∙ (sym (get_or-set_same (set (shown nx rs) c (ChainOf (a ++ (x, v) ∷ b))) x (LinkedNode c v) Unmade (let s = length-set (shown nx rs) c (ChainOf (a ++ (x, v) ∷ b)) in let t = length-shown nx rs in let u = within rs x Free free (λ e. absurd (cc)) in omega arith))
              ∙ ap (spot_at (set (set (shown nx rs) c (ChainOf (a ++ (x, v) ∷ b))) x (LinkedNode c v))) (sym same)))
          | inr not_x ↦ elim (cases_eq i c) [
            | inl same ↦
                ap (λ k. spot_of nx' rs' k (role_at rs' k)) same ∙ (ap (spot_of nx' rs' c) chain_c ∙ (ap ChainOf linked_list
                ∙ (sym (get_or-set_same (shown nx rs) c (ChainOf (a ++ (x, v) ∷ b)) Unmade (let t = length-shown nx rs in let u = within rs c Chain chain (λ e. absurd (cc)) in omega arith))
                ∙ (ap (spot_at (set (shown nx rs) c (ChainOf (a ++ (x, v) ∷ b)))) (sym same)
                ∙ sym (get_or-set_other (set (shown nx rs) c (ChainOf (a ++ (x, v) ∷ b))) x i (LinkedNode c v) Unmade not_x)))))
            | inr not_c ↦
                ap (spot_of nx' rs' i) (w.role_other i not_x) ∙ (spot_after i not_x not_c (role_at rs i) refl
                ∙ (sym (spot_at-shown nx rs i)
                ∙ (sym (get_or-set_other (shown nx rs) c i (ChainOf (a ++ (x, v) ∷ b)) Unmade not_c)
                ∙ sym (get_or-set_other (set (shown nx rs) c (ChainOf (a ++ (x, v) ∷ b))) x i (LinkedNode c v) Unmade not_x))))
          ]
        ])
