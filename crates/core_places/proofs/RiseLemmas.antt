-- The live works stay in order where one goes, or where one comes to its place.
use Rattle.core_records.proofs.Core.{ap, cases_eq, entries, entries-linked_other, entries-unlinked_other, entries-unlinked_same, inl, inr, is_made, IsAscending, IsLinks, IsSome, link_of, linked, List, list_of, live_order, None, Option, refl, removed, removed_by, Rises, Some, Spot, subst, sym, true, unlinked, without, ℕ, ◌∙◌, ◌≡◌}
use Rattle.core_records.specs.declared.{work_records.LiveWork.LiveWork}
use Rattle.task_wait.proofs.OrderLemmas.{IsAscending-without}

module _ (links new : List (Spot LiveWork)) (n : ℕ) where
  pub Rises-removed : IsLinks links → is_made links n ≡ true → new ≡ removed n links → (o : Option ℕ) → Rises links o → Rises new o
  Rises-removed sound made is o rises = subst (λ l. Rises l o) (sym is) (by (link_of links n) refl o rises)
    where
      by : (l : Option (ℕ × LiveWork)) → link_of links n ≡ l → (o : Option ℕ) → Rises links o → Rises (removed_by n l links) o
      by None at o rises = rises
      by (Some l) at None rises = tt
      by (Some l) at (Some c) rises = elim (cases_eq c l.0) [
        | inl same ↦ subst (λ d. IsAscending live_order (entries (unlinked l.0 n (without n (entries links l.0)) links) d)) (sym same) (subst (IsAscending live_order) (sym (entries-unlinked_same links l.0 n _ (sound.listed n l.0 l.1 at).0 made)) (IsAscending-without live_order n (entries links l.0) (subst (λ d. IsAscending live_order (entries links d)) same rises)))
        | inr other ↦ subst (IsAscending live_order) (sym (entries-unlinked_other links l.0 n _ (sound.listed n l.0 l.1 at).0 made c other)) rises
      ]

  pub Rises-linked : (c : ℕ) (v : LiveWork) (list : List (ℕ × LiveWork)) → IsSome (list_of links c) → is_made links n ≡ true → new ≡ linked c n v list links → (IsAscending live_order (entries links c) → IsAscending live_order (entries new c)) → (o : Option ℕ) → Rises links o → Rises new o
  Rises-linked c v list live made is order None rises = tt
  Rises-linked c v list live made is order (Some d) rises = elim (cases_eq d c) [
    | inl same ↦ subst (λ e. IsAscending live_order (entries new e)) (sym same) (order (subst (λ e. IsAscending live_order (entries links e)) same rises))
    | inr other ↦ subst (IsAscending live_order) (sym (ap (λ l. entries l d) is ∙ entries-linked_other links c n list live made v d other)) rises
  ]
