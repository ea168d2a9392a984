-- The neighbours of a node or a chain, and what contracts see there.
use Rattle.std.proofs.Common.{◌≡◌, ℕ, ◌<◌, ◌⊎◌, inl, inr, true, List, [], ◌∷◌, ◌++◌, length, None, IsSome, is_some, refl, sym, ap, subst, ◌∙◌, option_map}
use Rattle.table_links.specs.declared.links.Role.{Role}
use Rattle.table_links.specs.declared.links.Role.TheVariants.{Unused, Chain, Free, Linked}
use Rattle.table_links.specs.Links.{Spot, spot_list, spot_link, spot_is_free, spot_is_made, list_of, link_of, is_free, is_made, entries, list_or_nil, head_of, last_or, last_of, after, before}
use Rattle.table_links.specs.Rings.{at, role_at, role_is_chain, role_is_free, role_is_node, role_value, ring_list, In, Apart, Path, AreRings, shown, spot_of, entry_at}
use Rattle.table_links.proofs.Paths.{end, start, In-left, In-right, In-end, In-start, Path-start, Path-end, Path-next, Path-previous, Path-role, after-at, before-at}
use Rattle.table_links.proofs.Spots.{spot_at-shown}
use Rattle.table_links.proofs.Changes.{within}

module _ {P : Type 0} where
  by_role : (r : Role P) (nx : List ℕ) (rs : List (Role P)) (n : ℕ) → IsSome (spot_list (spot_of nx rs n r)) → r ≡ Chain
  by_role Unused nx rs n some = absurd (cc)
  by_role Chain nx rs n some = refl
  by_role Free nx rs n some = absurd (cc)
  by_role (Linked c v) nx rs n some = absurd (cc)

  -- a chain that contracts see is one
  pub chain_seen : (nx : List ℕ) (rs : List (Role P)) (links : List (Spot P)) (c : ℕ) → shown nx rs ≡ links → IsSome (list_of links c) → role_at rs c ≡ Chain
  chain_seen nx rs links c view some = by_role (role_at rs c) nx rs c (subst (λ s. IsSome (spot_list s)) (spot_at-shown nx rs c) (subst (λ l. IsSome (list_of l c)) (sym view) some))

  by_free : (r : Role P) (nx : List ℕ) (rs : List (Role P)) (n : ℕ) → spot_is_free (spot_of nx rs n r) ≡ true → r ≡ Free
  by_free Unused nx rs n is = absurd (cc)
  by_free Chain nx rs n is = absurd (cc)
  by_free Free nx rs n is = refl
  by_free (Linked c v) nx rs n is = absurd (cc)

  pub free_seen : (nx : List ℕ) (rs : List (Role P)) (links : List (Spot P)) (n : ℕ) → shown nx rs ≡ links → is_free links n ≡ true → role_at rs n ≡ Free
  free_seen nx rs links n view is = by_free (role_at rs n) nx rs n (ap spot_is_free (sym (spot_at-shown nx rs n)) ∙ (ap (λ l. is_free l n) view ∙ is))

  pub entries_seen : (nx : List ℕ) (rs : List (Role P)) (links : List (Spot P)) (c : ℕ) → shown nx rs ≡ links → role_at rs c ≡ Chain → entries links c ≡ ring_list nx rs c
  entries_seen nx rs links c view is =
      ap (λ l. entries l c) (sym view) ∙ (ap (λ s. list_or_nil (spot_list s)) (spot_at-shown nx rs c) ∙ ap (λ r. list_or_nil (spot_list (spot_of nx rs c r))) is)

  -- what contracts see of a node in a chain
  pub link_seen : (nx : List ℕ) (rs : List (Role P)) (links : List (Spot P)) (n : ℕ) → shown nx rs ≡ links → (r : Role P) → role_at rs n ≡ r → link_of links n ≡ spot_link (spot_of nx rs n r)
  link_seen nx rs links n view r is = ap (λ l. link_of l n) (sym view) ∙ (ap spot_link (spot_at-shown nx rs n) ∙ ap (λ k. spot_link (spot_of nx rs n k)) is)

  -- what a name represents decides whether it is a live chain, a node or a free one
  pub live_shown : (nx : List ℕ) (rs : List (Role P)) (links : List (Spot P)) (n : ℕ) → shown nx rs ≡ links → role_is_chain (role_at rs n) ≡ is_some (list_of links n)
  live_shown nx rs links n view = by_each (role_at rs n) ∙ (ap (λ s. is_some (spot_list s)) (sym (spot_at-shown nx rs n)) ∙ ap (λ l. is_some (list_of l n)) view)
    where
      by_each : (r : Role P) → role_is_chain r ≡ is_some (spot_list (spot_of nx rs n r))
      by_each Unused = refl
      by_each Chain = refl
      by_each Free = refl
      by_each (Linked c v) = refl

  pub made_shown : (nx : List ℕ) (rs : List (Role P)) (links : List (Spot P)) (n : ℕ) → shown nx rs ≡ links → role_is_node (role_at rs n) ≡ is_made links n
  made_shown nx rs links n view = by_each (role_at rs n) ∙ (ap spot_is_made (sym (spot_at-shown nx rs n)) ∙ ap (λ l. is_made l n) view)
    where
      by_each : (r : Role P) → role_is_node r ≡ spot_is_made (spot_of nx rs n r)
      by_each Unused = refl
      by_each Chain = refl
      by_each Free = refl
      by_each (Linked c v) = refl

  pub free_shown : (nx : List ℕ) (rs : List (Role P)) (links : List (Spot P)) (n : ℕ) → shown nx rs ≡ links → role_is_free (role_at rs n) ≡ is_free links n
  free_shown nx rs links n view = by_each (role_at rs n) ∙ (ap spot_is_free (sym (spot_at-shown nx rs n)) ∙ ap (λ l. is_free l n) view)
    where
      by_each : (r : Role P) → role_is_free r ≡ spot_is_free (spot_of nx rs n r)
      by_each Unused = refl
      by_each Chain = refl
      by_each Free = refl
      by_each (Linked c v) = refl

  by_made : (r : Role P) (nx : List ℕ) (rs : List (Role P)) (n : ℕ) → spot_is_made (spot_of nx rs n r) ≡ true → r ≡ Unused → ⊥
  by_made Unused nx rs n is e = absurd (cc)
  by_made Chain nx rs n is e = absurd (cc)
  by_made Free nx rs n is e = absurd (cc)
  by_made (Linked c v) nx rs n is e = absurd (cc)

  pub made_within : (nx : List ℕ) (rs : List (Role P)) (links : List (Spot P)) (n : ℕ) → shown nx rs ≡ links → is_made links n ≡ true → n < length rs
  made_within nx rs links n view is = within rs n (role_at rs n) refl (by_made (role_at rs n) nx rs n (ap spot_is_made (sym (spot_at-shown nx rs n)) ∙ (ap (λ l. is_made l n) view ∙ is)))

  module _ (nx pv : List ℕ) (rs : List (Role P)) (c : ℕ) (chain : role_at rs c ≡ Chain) (sound : AreRings nx pv rs) where
    the_path : Path nx pv rs c c (ring_list nx rs c) c
    the_path = (sound.rings c chain).path

    pub used : (n : ℕ) → (n ≡ c) ⊎ In n (ring_list nx rs c) → n < length rs
    used n (inl same) = within rs n Chain (ap (role_at rs) same ∙ chain) (λ e. absurd (cc))
    used n (inr i) = let r = Path-role nx pv rs c c (ring_list nx rs c) c n the_path i in within rs n (Linked c r.0) r.1 (λ e. absurd (cc))

    pub chain_within : c < length rs
    chain_within = used c (inl refl)

    -- the first and the last name of a ring
    pub first_is : at nx c ≡ start (ring_list nx rs c) c
    first_is = Path-start nx pv rs c c (ring_list nx rs c) c the_path

    pub last_is : at pv c ≡ end c (ring_list nx rs c)
    last_is = Path-end nx pv rs c c (ring_list nx rs c) c the_path

    pub first_within : at nx c < length rs
    first_within = used (at nx c) (subst (λ n. (n ≡ c) ⊎ In n (ring_list nx rs c)) (sym first_is) (In-start (ring_list nx rs c) c))

    pub last_within : at pv c < length rs
    last_within = used (at pv c) (subst (λ n. (n ≡ c) ⊎ In n (ring_list nx rs c)) (sym last_is) (In-end c (ring_list nx rs c)))

    entry_start : (s : ℕ) (l : List (ℕ × P)) (to : ℕ) → role_value (role_at rs to) ≡ None → Path nx pv rs c s l to → entry_at rs (start l to) ≡ head_of l
    entry_start s [] to none path = ap (option_map (λ value. (to, value))) none
    entry_start s (e ∷ es) to none path = ap (λ r. option_map (λ value. (e.0, value)) (role_value r)) path.1.1.0

    path_after : (s x : ℕ) (v : P) (a b : List (ℕ × P)) (to : ℕ) → Path nx pv rs c s (a ++ (x, v) ∷ b) to → Path nx pv rs c x b to
    path_after s x v [] b to path = path.1.1.1
    path_after s x v (e ∷ es) b to path = path_after e.0 x v es b to path.1.1.1

    entry_end : (s : ℕ) (a b : List (ℕ × P)) (to : ℕ) → Path nx pv rs c s (a ++ b) to → entry_at rs (end s a) ≡ last_or (entry_at rs s) a
    entry_end s [] b to path = refl
    entry_end s (e ∷ es) b to path = entry_end e.0 es b to path.1.1.1 ∙ ap (λ o. last_or o es) (ap (λ r. option_map (λ value. (e.0, value)) (role_value r)) path.1.1.0)

    none_at_chain : role_value (role_at rs c) ≡ None
    none_at_chain = ap role_value chain

    pub first_entry : entry_at rs (at nx c) ≡ head_of (ring_list nx rs c)
    first_entry = ap (entry_at rs) first_is ∙ entry_start c (ring_list nx rs c) c none_at_chain the_path

    nil_after : (l : List (ℕ × P)) → l ++ [] ≡ l
    nil_after [] = refl
    nil_after (e ∷ es) = ap (λ k. e ∷ k) (nil_after es)

    pub last_entry : entry_at rs (at pv c) ≡ last_of (ring_list nx rs c)
    last_entry =
        ap (entry_at rs) last_is
        ∙ (entry_end c (ring_list nx rs c) [] c (subst (λ l. Path nx pv rs c c l c) (sym (nil_after (ring_list nx rs c))) the_path)
        ∙ ap (λ o. last_or o (ring_list nx rs c)) (ap (option_map (λ value. (c, value))) none_at_chain))

    -- the neighbours of a node of the ring
    module _ (x : ℕ) (v : P) (a b : List (ℕ × P)) (is : ring_list nx rs c ≡ a ++ (x, v) ∷ b) where
      split_path : Path nx pv rs c c (a ++ (x, v) ∷ b) c
      split_path = subst (λ l. Path nx pv rs c c l c) is the_path

      split_apart : Apart (a ++ (x, v) ∷ b)
      split_apart = subst Apart is (sound.rings c chain).apart

      pub next_is : at nx x ≡ start b c
      next_is = Path-next nx pv rs c c x v a b c split_path

      pub previous_is : at pv x ≡ end c a
      previous_is = Path-previous nx pv rs c c x v a b c split_path

      in_ring : (n : ℕ) → (n ≡ c) ⊎ In n (a ++ (x, v) ∷ b) → n < length rs
      in_ring n (inl same) = used n (inl same)
      in_ring n (inr i) = used n (inr (subst (In n) (sym is) i))

      pub next_within : at nx x < length rs
      next_within = in_ring (at nx x) (subst (λ n. (n ≡ c) ⊎ In n (a ++ (x, v) ∷ b)) (sym next_is)
          (elim (In-start b c) [ inl same ↦ inl same | inr i ↦ inr (In-right (start b c) a ((x, v) ∷ b) (inr i)) ]))

      pub previous_within : at pv x < length rs
      previous_within = in_ring (at pv x) (subst (λ n. (n ≡ c) ⊎ In n (a ++ (x, v) ∷ b)) (sym previous_is)
          (elim (In-end c a) [ inl same ↦ inl same | inr i ↦ inr (In-left (end c a) a ((x, v) ∷ b) i) ]))

      pub next_entry : entry_at rs (at nx x) ≡ after x (ring_list nx rs c)
      next_entry =
          ap (entry_at rs) next_is ∙ (entry_start x b c none_at_chain (path_after c x v a b c split_path)
          ∙ (sym (after-at x v a b split_apart) ∙ ap (after x) (sym is)))

      pub previous_entry : entry_at rs (at pv x) ≡ before x (ring_list nx rs c)
      previous_entry =
          ap (entry_at rs) previous_is ∙ (entry_end c a ((x, v) ∷ b) c split_path
          ∙ (ap (λ o. last_or o a) (ap (option_map (λ value. (c, value))) none_at_chain)
          ∙ (sym (before-at None x v a b split_apart) ∙ ap (before x) (sym is))))
