-- What an insertion and a removal leave of a whole `Links`.
use Rattle.std.proofs.Common.{◌≡◌, ℕ, ◌<◌, ◌==◌, ◌⊎◌, inl, inr, false, List, [], ◌∷◌, ◌++◌, length, set, slice_get, count_by, refl, sym, ap, subst, ◌∙◌, arith, length-set}
use Rattle.std.proofs.lemmas.Bool.{cases_eq}
use Rattle.std.proofs.lemmas.List.{get_or-set_other}
use Rattle.std.proofs.lemmas.Option.{slice_get-get_or}
use Rattle.task_table.proofs.ReadLemmas.{slice_get-set_same, slice_get-set_other}
use Rattle.table_links.specs.declared.links.Role.{Role}
use Rattle.table_links.specs.declared.links.Role.TheVariants.{Unused, Chain, Free, Linked}
use Rattle.table_links.specs.Links.{linked, unlinked}
use Rattle.table_links.specs.Rings.{at, role_at, ring_list, In, IsRing, IsSound, shown, role_is_unused, is_unused_at}
use Rattle.table_links.proofs.Paths.{end, start, In-end, In-start, In-left, In-right, Path-value}
use Rattle.table_links.proofs.Splices.{Splices, Splices-set, Cuts, Cuts-set}
use Rattle.table_links.proofs.Unused.{one_if, unused_kept}
use Rattle.table_links.proofs.Changes.{within, owner, owner-ring, free_not_in, AreRings-linked, shown-linked}
use Rattle.table_links.proofs.Removals.{AreRings-unlinked, shown-unlinked}
use Rattle.table_links.proofs.Neighbours.{used, next_is, previous_is, next_within, previous_within}

pub nil_end : {X : Type 0} (l : List X) → l ≡ l ++ []
nil_end [] = refl
nil_end (e ∷ es) = ap (λ k. e ∷ k) (nil_end es)

module _ {P : Type 0} where
  -- a used name with another role that is used
  once_kept : (rs : List (Role P)) (x : ℕ) (r : Role P) (unused : List ℕ) → x < length rs → role_is_unused (role_at rs x) ≡ false → role_is_unused r ≡ false → ((n : ℕ) → count_by (λ m. m == n) unused ≡ one_if (is_unused_at (slice_get rs n))) → (n : ℕ) → count_by (λ m. m == n) unused ≡ one_if (is_unused_at (slice_get (set rs x r) n))
  once_kept rs x r unused inside was is once n = once n ∙ ap one_if (elim (cases_eq n x) [
    | inl same ↦
        ap (λ k. is_unused_at (slice_get rs k)) same ∙ (ap is_unused_at (slice_get-get_or rs x Unused inside) ∙ (was ∙ (sym is
        ∙ (sym (ap is_unused_at (slice_get-set_same rs x r inside)) ∙ ap (λ k. is_unused_at (slice_get (set rs x r) k)) (sym same)))))
    | inr other ↦ sym (ap is_unused_at (slice_get-set_other rs x n r other))
  ])

  module _ (nx pv : List ℕ) (rs : List (Role P)) (unused : ℕ) (sound : IsSound nx pv rs unused) (c : ℕ) (chain : role_at rs c ≡ Chain) where
    -- a name of its ring is used
    in_use : (list : List (ℕ × P)) → ring_list nx rs c ≡ list → (n : ℕ) → (n ≡ c) ⊎ In n list → role_at rs n ≡ Unused → ⊥
    in_use list is n i none =
        absurd (let own = sym (owner-ring nx pv rs c list chain (subst (λ l. IsRing nx pv rs c l) is (sound.rings.rings c chain)) n i) ∙ ap (owner n) none in cc)

    -- an insertion between the last of the one part and the first of the other
    module _ (x : ℕ) (v : P) (a b : List (ℕ × P)) (free : role_at rs x ≡ Free) (is : ring_list nx rs c ≡ a ++ b) where
      in_ring : (n : ℕ) → (n ≡ c) ⊎ In n (a ++ b) → (n < length rs) × (n ≡ x → ⊥)
      in_ring n (inl same) = (used nx pv rs c chain sound.rings n (inl same), λ e. absurd (let d = sym chain ∙ (ap (role_at rs) (sym same ∙ e) ∙ free) in cc))
      in_ring n (inr i) = (
        used nx pv rs c chain sound.rings n (inr (subst (In n) (sym is) i)),
        λ e. free_not_in nx pv rs c (a ++ b) chain (subst (λ l. IsRing nx pv rs c l) is (sound.rings.rings c chain)) x free (subst (λ m. In m (a ++ b)) e i),
      )

      before_in : (end c a < length rs) × (end c a ≡ x → ⊥)
      before_in = in_ring (end c a) (elim (In-end c a) [ inl same ↦ inl same | inr i ↦ inr (In-left (end c a) a b i) ])

      after_in : (start b c < length rs) × (start b c ≡ x → ⊥)
      after_in = in_ring (start b c) (elim (In-start b c) [ inl same ↦ inl same | inr i ↦ inr (In-right (start b c) a b i) ])

      x_in : x < length rs
      x_in = within rs x Free free (λ e. absurd (cc))

      splices : Splices nx pv (set (set nx (end c a) x) x (start b c)) (set (set pv x (end c a)) (start b c) x) rs (set rs x (Linked c v)) c (end c a) (start b c) x v
      splices = let long = sound.rings.as_many_next in let high = sound.rings.as_many_previous in let p = before_in.0 in let y = after_in.0 in let n = x_in in
          Splices-set nx pv rs c (end c a) (start b c) x v before_in.1 after_in.1 (omega arith) (omega arith) (omega arith) (omega arith) (omega arith)

      long_next : length (set (set nx (end c a) x) x (start b c)) ≡ length nx
      long_next = length-set (set nx (end c a) x) x (start b c) ∙ length-set nx (end c a) x

      long_previous : length (set (set pv x (end c a)) (start b c) x) ≡ length pv
      long_previous = length-set (set pv x (end c a)) (start b c) x ∙ length-set pv x (end c a)

      sound_spliced : IsSound (set (set nx (end c a) x) x (start b c)) (set (set pv x (end c a)) (start b c) x) (set rs x (Linked c v)) unused
      sound_spliced = record {
        rings = AreRings-linked nx pv _ _ rs _ c x v a b chain free is splices (length-set rs x (Linked c v)) long_next long_previous sound.rings;
        names = sound.names;
        unused_once = once_kept rs x (Linked c v) sound.names x_in (ap role_is_unused free) refl sound.unused_once;
        chained = unused_kept nx pv rs unused sound (set (set nx (end c a) x) x (start b c)) (λ n none inside.
            get_or-set_other (set nx (end c a) x) x n (start b c) 0 (λ e. absurd (let d = sym none ∙ (ap (role_at rs) e ∙ free) in cc))
            ∙ get_or-set_other nx (end c a) n x 0 (λ e. in_use (a ++ b) is (end c a) (elim (In-end c a) [ inl same ↦ inl same | inr i ↦ inr (In-left (end c a) a b i) ]) (ap (role_at rs) (sym e) ∙ none)));
      }

      pub Sound-linked : (nx' pv' : List ℕ) (rs' : List (Role P)) (p y : ℕ) → p ≡ end c a → y ≡ start b c → nx' ≡ set (set nx p x) x y → pv' ≡ set (set pv x p) y x → rs' ≡ set rs x (Linked c v) → IsSound nx' pv' rs' unused
      Sound-linked nx' pv' rs' p y p_is y_is n_is v_is r_is = rw (n_is, v_is, r_is, p_is, y_is) sound_spliced

      pub Shown-linked : (nx' : List ℕ) (rs' : List (Role P)) (p y : ℕ) → p ≡ end c a → y ≡ start b c → nx' ≡ set (set nx p x) x y → rs' ≡ set rs x (Linked c v) → shown nx' rs' ≡ linked c x v (a ++ (x, v) ∷ b) (shown nx rs)
      Shown-linked nx' rs' p y p_is y_is n_is r_is = rw (n_is, r_is, p_is, y_is) (shown-linked nx pv _ _ rs _ c x v a b chain free is splices (length-set rs x (Linked c v)) long_next long_previous sound.rings)

    -- a removal
    module _ (x : ℕ) (v : P) (a b : List (ℕ × P)) (is : ring_list nx rs c ≡ a ++ (x, v) ∷ b) where
      x_linked : role_at rs x ≡ Linked c v
      x_linked = Path-value nx pv rs c c x v a b c (subst (λ l. IsRing nx pv rs c l) is (sound.rings.rings c chain)).path

      linked_in : x < length rs
      linked_in = within rs x (Linked c v) x_linked (λ e. absurd (cc))

      cut_next : at nx x ≡ start b c
      cut_next = next_is nx pv rs c chain sound.rings x v a b is

      cut_previous : at pv x ≡ end c a
      cut_previous = previous_is nx pv rs c chain sound.rings x v a b is

      cuts : Cuts nx pv (set nx (end c a) (start b c)) (set pv (start b c) (end c a)) rs (set rs x Free) (end c a) (start b c) x
      cuts =
          let long = sound.rings.as_many_next in let high = sound.rings.as_many_previous in let n = linked_in in
          let p : end c a < length rs = subst (λ k. k < length rs) cut_previous (previous_within nx pv rs c chain sound.rings x v a b is) in
          let y : start b c < length rs = subst (λ k. k < length rs) cut_next (next_within nx pv rs c chain sound.rings x v a b is) in
          Cuts-set nx pv rs (end c a) (start b c) x (omega arith) (omega arith) n

      sound_cut : IsSound (set nx (end c a) (start b c)) (set pv (start b c) (end c a)) (set rs x Free) unused
      sound_cut = record {
        rings = AreRings-unlinked nx pv _ _ rs _ c x v a b chain is cuts (length-set rs x Free) (length-set nx (end c a) (start b c)) (length-set pv (start b c) (end c a)) sound.rings;
        names = sound.names;
        unused_once = once_kept rs x Free sound.names linked_in (ap role_is_unused x_linked) refl sound.unused_once;
        chained = unused_kept nx pv rs unused sound (set nx (end c a) (start b c)) (λ n none inside.
            get_or-set_other nx (end c a) n (start b c) 0 (λ e. in_use (a ++ (x, v) ∷ b) is (end c a) (elim (In-end c a) [ inl same ↦ inl same | inr i ↦ inr (In-left (end c a) a ((x, v) ∷ b) i) ]) (ap (role_at rs) (sym e) ∙ none)));
      }

      pub Sound-unlinked : (nx' pv' : List ℕ) (rs' : List (Role P)) (p y : ℕ) → p ≡ at pv x → y ≡ at nx x → nx' ≡ set nx p y → pv' ≡ set pv y p → rs' ≡ set rs x Free → IsSound nx' pv' rs' unused
      Sound-unlinked nx' pv' rs' p y p_is y_is n_is v_is r_is = rw (n_is, v_is, r_is, p_is, y_is, cut_next, cut_previous) sound_cut

      pub Shown-unlinked : (nx' : List ℕ) (rs' : List (Role P)) (p y : ℕ) → p ≡ at pv x → y ≡ at nx x → nx' ≡ set nx p y → rs' ≡ set rs x Free → shown nx' rs' ≡ unlinked c x (a ++ b) (shown nx rs)
      Shown-unlinked nx' rs' p y p_is y_is n_is r_is = rw (n_is, r_is, p_is, y_is, cut_next, cut_previous) (shown-unlinked nx pv _ (set pv (start b c) (end c a)) rs _ c x v a b chain is cuts (length-set rs x Free) (length-set nx (end c a) (start b c)) (length-set pv (start b c) (end c a)) sound.rings)
