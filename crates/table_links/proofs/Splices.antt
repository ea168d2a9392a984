-- A node that is put between two neighbours of a ring, and one that is taken out.
use Rattle.std.proofs.Common.{◌≡◌, ℕ, ◌<◌, inl, inr, List, [], ◌∷◌, ◌++◌, length, set, sym, subst, ◌∙◌, arith}
use Rattle.std.proofs.Common.{length-set}
use Rattle.std.proofs.lemmas.List.{get_or-set_same, get_or-set_other}
use Rattle.table_links.specs.declared.links.Role.{Role}
use Rattle.table_links.specs.declared.links.Role.TheVariants.{Unused, Free, Linked}
use Rattle.table_links.specs.Rings.{at, role_at, In, Apart, Path}
use Rattle.table_links.proofs.Paths.{end, start, In-right, In-end, In-start, In-here, In-with, Path-frame}

-- what an insertion of x between p and y writes
pub record Splices {P : Type 0} (nx pv nx' pv' : List ℕ) (rs rs' : List (Role P)) (c p y x : ℕ) (v : P) : Type 0 where
  pub next_before : at nx' p ≡ x
  pub next_node : at nx' x ≡ y
  pub next_other : (q : ℕ) → (q ≡ p → ⊥) → (q ≡ x → ⊥) → at nx' q ≡ at nx q
  pub previous_node : at pv' x ≡ p
  pub previous_after : at pv' y ≡ x
  pub previous_other : (q : ℕ) → (q ≡ x → ⊥) → (q ≡ y → ⊥) → at pv' q ≡ at pv q
  pub role : role_at rs' x ≡ Linked c v
  pub role_other : (q : ℕ) → (q ≡ x → ⊥) → role_at rs' q ≡ role_at rs q

-- what a removal of x from between p and y writes
pub record Cuts {P : Type 0} (nx pv nx' pv' : List ℕ) (rs rs' : List (Role P)) (p y x : ℕ) : Type 0 where
  pub next_before : at nx' p ≡ y
  pub next_other : (q : ℕ) → (q ≡ p → ⊥) → at nx' q ≡ at nx q
  pub previous_after : at pv' y ≡ p
  pub previous_other : (q : ℕ) → (q ≡ y → ⊥) → at pv' q ≡ at pv q
  pub role : role_at rs' x ≡ Free
  pub role_other : (q : ℕ) → (q ≡ x → ⊥) → role_at rs' q ≡ role_at rs q

module _ {P : Type 0} where
  pub Splices-set : (nx pv : List ℕ) (rs : List (Role P)) (c p y x : ℕ) (v : P) → (p ≡ x → ⊥) → (y ≡ x → ⊥) → p < length nx → x < length nx → x < length pv → y < length pv → x < length rs → Splices nx pv (set (set nx p x) x y) (set (set pv x p) y x) rs (set rs x (Linked c v)) c p y x v
  Splices-set nx pv rs c p y x v p_not y_not p_next x_next x_previous y_previous x_role = record {
    next_before = get_or-set_other (set nx p x) x p y 0 p_not ∙ get_or-set_same nx p x 0 p_next;
    next_node = get_or-set_same (set nx p x) x y 0 (let same = length-set nx p x in omega arith);
    next_other = λ q not_p not_x. get_or-set_other (set nx p x) x q y 0 not_x ∙ get_or-set_other nx p q x 0 not_p;
    previous_node = get_or-set_other (set pv x p) y x x 0 (λ same. y_not (sym same)) ∙ get_or-set_same pv x p 0 x_previous;
    previous_after = get_or-set_same (set pv x p) y x 0 (let same = length-set pv x p in omega arith);
    previous_other = λ q not_x not_y. get_or-set_other (set pv x p) y q x 0 not_y ∙ get_or-set_other pv x q p 0 not_x;
    role = get_or-set_same rs x (Linked c v) Unused x_role;
    role_other = λ q not_x. get_or-set_other rs x q (Linked c v) Unused not_x;
  }

  pub Cuts-set : (nx pv : List ℕ) (rs : List (Role P)) (p y x : ℕ) → p < length nx → y < length pv → x < length rs → Cuts nx pv (set nx p y) (set pv y p) rs (set rs x Free) p y x
  Cuts-set nx pv rs p y x p_next y_previous x_role = record {
    next_before = get_or-set_same nx p y 0 p_next;
    next_other = λ q not_p. get_or-set_other nx p q y 0 not_p;
    previous_after = get_or-set_same pv y p 0 y_previous;
    previous_other = λ q not_y. get_or-set_other pv y q p 0 not_y;
    role = get_or-set_same rs x Free Unused x_role;
    role_other = λ q not_x. get_or-set_other rs x q Free Unused not_x;
  }

  -- the first name of the rest is not one that is before it
  start_not : (z : ℕ) (a b : List (ℕ × P)) (to : ℕ) → (z ≡ to → ⊥) → (In z (a ++ b) → ⊥) → z ≡ start b to → ⊥
  start_not z a b to not_to not_in same =
      elim (In-start b to) [
        | inl is ↦ not_to (same ∙ is)
        | inr i ↦ not_in (In-right z a b (subst (λ n. In n b) (sym same) i))
      ]

  in_left : (n : ℕ) (a b : List (ℕ × P)) → In n a → In n (a ++ b)
  in_left n [] b i = absurd i
  in_left n (e ∷ es) b (inl same) = inl same
  in_left n (e ∷ es) b (inr i) = inr (in_left n es b i)

  end_not : (s z : ℕ) (a b : List (ℕ × P)) → (s ≡ z → ⊥) → (In s (a ++ b) → ⊥) → s ≡ end z a → ⊥
  end_not s z a b not_z not_in same =
      elim (In-end z a) [
        | inl is ↦ not_z (same ∙ is)
        | inr i ↦ not_in (in_left s a b (subst (λ n. In n a) (sym same) i))
      ]

  module _ (nx pv nx' pv' : List ℕ) (rs rs' : List (Role P)) (c x : ℕ) (v : P) where
    pub Path-linked : (s : ℕ) (a b : List (ℕ × P)) (to : ℕ) → Splices nx pv nx' pv' rs rs' c (end s a) (start b to) x v → Apart (a ++ b) → (In s (a ++ b) → ⊥) → (In to (a ++ b) → ⊥) → (In x (a ++ b) → ⊥) → (x ≡ s → ⊥) → (x ≡ to → ⊥) → Path nx pv rs c s (a ++ b) to → Path nx' pv' rs' c s (a ++ (x, v) ∷ b) to
    Path-linked s [] [] to w apart no_s no_to no_x not_s not_to path =
        (w.next_before, (w.previous_node, (w.role, (w.next_node, w.previous_after))))
    Path-linked s [] (z ∷ zs) to w apart no_s no_to no_x not_s not_to path = (
      w.next_before,
      (
        w.previous_node,
        (
          w.role,
          (
            w.next_node,
            (
              w.previous_after,
              (
                w.role_other z.0 (λ same. no_x (inl (sym same))) ∙ path.1.1.0,
                Path-frame nx pv nx' pv' rs rs' c z.0 zs to
                    (w.next_other z.0 (λ same. no_s (inl (sym same))) (λ same. no_x (inl (sym same))))
                    (w.previous_other to (λ same. not_to (sym same)) (λ same. no_to (inl same)))
                    (λ q i. (
                      w.next_other q (λ same. no_s (inr (subst (λ n. In n zs) same i))) (λ same. no_x (inr (subst (λ n. In n zs) same i))),
                      (
                        w.previous_other q (λ same. no_x (inr (subst (λ n. In n zs) same i))) (λ same. apart.0 (subst (λ n. In n zs) same i)),
                        w.role_other q (λ same. no_x (inr (subst (λ n. In n zs) same i))),
                      ),
                    ))
                    path.1.1.1,
              ),
            ),
          ),
        ),
      ),
    )
    Path-linked s (z ∷ zs) b to w apart no_s no_to no_x not_s not_to path = (
      w.next_other s (end_not s z.0 zs b (λ same. no_s (inl same)) (λ i. no_s (inr i))) (λ same. not_s (sym same)) ∙ path.0,
      (
        w.previous_other z.0 (λ same. no_x (inl (sym same))) (start_not z.0 zs b to (λ same. no_to (inl (sym same))) apart.0) ∙ path.1.0,
        (
          w.role_other z.0 (λ same. no_x (inl (sym same))) ∙ path.1.1.0,
          Path-linked z.0 zs b to w apart.1 apart.0 (λ i. no_to (inr i)) (λ i. no_x (inr i)) (λ same. no_x (inl same)) not_to path.1.1.1,
        ),
      ),
    )

    pub Path-unlinked : (s : ℕ) (a b : List (ℕ × P)) (to : ℕ) → Cuts nx pv nx' pv' rs rs' (end s a) (start b to) x → Apart (a ++ (x, v) ∷ b) → (In s (a ++ (x, v) ∷ b) → ⊥) → (In to (a ++ (x, v) ∷ b) → ⊥) → Path nx pv rs c s (a ++ (x, v) ∷ b) to → Path nx' pv' rs' c s (a ++ b) to
    Path-unlinked s [] [] to w apart no_s no_to path = (w.next_before, w.previous_after)
    Path-unlinked s [] (z ∷ zs) to w apart no_s no_to path = (
      w.next_before,
      (
        w.previous_after,
        (
          w.role_other z.0 (λ same. apart.0 (inl (sym same))) ∙ path.1.1.1.1.1.0,
          Path-frame nx pv nx' pv' rs rs' c z.0 zs to
              (w.next_other z.0 (λ same. no_s (inr (inl (sym same)))))
              (w.previous_other to (λ same. no_to (inr (inl same))))
              (λ q i. (
                w.next_other q (λ same. no_s (inr (inr (subst (λ n. In n zs) same i)))),
                (
                  w.previous_other q (λ same. apart.1.0 (subst (λ n. In n zs) same i)),
                  w.role_other q (λ same. apart.0 (inr (subst (λ n. In n zs) same i))),
                ),
              ))
              path.1.1.1.1.1.1,
        ),
      ),
    )
    Path-unlinked s (z ∷ zs) b to w apart no_s no_to path = (
      w.next_other s (end_not s z.0 zs ((x, v) ∷ b) (λ same. no_s (inl same)) (λ i. no_s (inr i))) ∙ path.0,
      (
        w.previous_other z.0 (start_not z.0 zs b to (λ same. no_to (inl (sym same))) (λ i. apart.0 (In-with z.0 (x, v) zs b i))) ∙ path.1.0,
        (
          w.role_other z.0 (λ same. apart.0 (subst (λ n. In n (zs ++ (x, v) ∷ b)) (sym same) (In-here (x, v) zs b))) ∙ path.1.1.0,
          Path-unlinked z.0 zs b to w apart.1 apart.0 (λ i. no_to (inr i)) path.1.1.1,
        ),
      ),
    )
