-- Each call on a `Links`, from what contracts see before it to what they see after it.
use Rattle.std.proofs.Common.{◌≡◌, ℕ, ◌<◌, true, List, [], ◌∷◌, ◌++◌, length, set, get_or, Some, None, IsSome, refl, sym, ap, subst, ◌∙◌, arith}
use Rattle.std.proofs.lemmas.List.{get_or_default}
use Rattle.table_links.specs.declared.links.Role.{Role}
use Rattle.table_links.specs.declared.links.Role.TheVariants.{Unused, Chain, Free, Linked}
use Rattle.table_links.specs.Links.{Spot, head_of, last_of, after, before, following, preceding, in_list, inserted, inserted_by, entries, list_of, link_of, is_free, is_made, linked, unlinked, without, put_before, removed, removed_by, spot_link}
use Rattle.table_links.specs.Rings.{at, role_at, ring_list, Apart, Path, entry_at, IsSound, shown, spot_of}
use Rattle.table_links.proofs.Paths.{split, without-at, put_before-at, Path-value}
use Rattle.table_links.proofs.Changes.{within}
use Rattle.table_links.proofs.Neighbours.{chain_seen, free_seen, entries_seen, link_seen, made_within, first_entry, last_entry, next_entry, previous_entry, chain_within, first_within, last_within, first_is, last_is, previous_is, next_within, previous_within}
use Rattle.table_links.proofs.Sounds.{nil_end, Sound-linked, Shown-linked, Sound-unlinked, Shown-unlinked}

module _ {P : Type 0} (nx pv : List ℕ) (rs : List (Role P)) (unused : ℕ) (sound : IsSound nx pv rs unused) (links : List (Spot P)) (view : shown nx rs ≡ links) where
  pub next_long : (n : ℕ) → n < length rs → n < length nx
  next_long n inside = let long = sound.rings.as_many_next in omega arith

  pub previous_long : (n : ℕ) → n < length rs → n < length pv
  previous_long n inside = let long = sound.rings.as_many_previous in omega arith

  pub free_inside : (x : ℕ) → is_free links x ≡ true → x < length rs
  free_inside x free = within rs x Free (free_seen nx rs links x view free) (λ e. absurd (cc))

  -- a read of the names after and before
  pub next_read : (n read : ℕ) → n < length rs → read ≡ get_or nx n read → read ≡ at nx n
  next_read n read inside is = is ∙ get_or_default nx n read 0 (next_long n inside)

  pub previous_read : (n read : ℕ) → n < length rs → read ≡ get_or pv n read → read ≡ at pv n
  previous_read n read inside is = is ∙ get_or_default pv n read 0 (previous_long n inside)

  pub made_inside : (n : ℕ) → is_made links n ≡ true → n < length rs
  made_inside n made = made_within nx rs links n view made

  by_link : (n : ℕ) (r : Role P) → role_at rs n ≡ r → IsSome (spot_link (spot_of nx rs n r)) → (c : ℕ) × ((v : P) × (role_at rs n ≡ Linked c v))
  by_link n Unused is some = absurd (cc)
  by_link n Chain is some = absurd (cc)
  by_link n Free is some = absurd (cc)
  by_link n (Linked c v) is some = (c, (v, is))

  -- a node that contracts see in a chain
  pub linked_role : (n : ℕ) → IsSome (link_of links n) → (c : ℕ) × ((v : P) × (role_at rs n ≡ Linked c v))
  linked_role n some = by_link n (role_at rs n) refl (subst IsSome (link_seen nx rs links n view (role_at rs n) refl) some)

  none_seen : (n : ℕ) (r : Role P) → role_at rs n ≡ r → ((c : ℕ) (v : P) → r ≡ Linked c v → ⊥) → link_of links n ≡ None
  none_seen n Unused is not_linked = link_seen nx rs links n view Unused is
  none_seen n Chain is not_linked = link_seen nx rs links n view Chain is
  none_seen n Free is not_linked = link_seen nx rs links n view Free is
  none_seen n (Linked c v) is not_linked = absurd (not_linked c v refl)

  -- and one that is in none
  pub unlinked_seen : (n : ℕ) → ((c : ℕ) (v : P) → role_at rs n ≡ Linked c v → ⊥) → link_of links n ≡ None
  unlinked_seen n not_linked = none_seen n (role_at rs n) refl not_linked

  module _ (c : ℕ) (some : IsSome (list_of links c)) where
    chain : role_at rs c ≡ Chain
    chain = chain_seen nx rs links c view some

    pub chain_inside : c < length rs
    chain_inside = chain_within nx pv rs c chain sound.rings

    pub first_inside : (read : ℕ) → read ≡ get_or nx c read → read < length rs
    first_inside read is = subst (λ n. n < length rs) (sym (next_read c read chain_inside is)) (first_within nx pv rs c chain sound.rings)

    pub last_inside : (read : ℕ) → read ≡ get_or pv c read → read < length rs
    last_inside read is = subst (λ n. n < length rs) (sym (previous_read c read chain_inside is)) (last_within nx pv rs c chain sound.rings)

    pub first_shown : (read : ℕ) → read ≡ get_or nx c read → entry_at rs read ≡ head_of (entries links c)
    first_shown read is = ap (entry_at rs) (next_read c read chain_inside is) ∙ (first_entry nx pv rs c chain sound.rings ∙ ap head_of (sym (entries_seen nx rs links c view chain)))

    pub last_shown : (read : ℕ) → read ≡ get_or pv c read → entry_at rs read ≡ last_of (entries links c)
    last_shown read is = ap (entry_at rs) (previous_read c read chain_inside is) ∙ (last_entry nx pv rs c chain sound.rings ∙ ap last_of (sym (entries_seen nx rs links c view chain)))

    module _ (x : ℕ) (v : P) (free : is_free links x ≡ true) (nx' pv' : List ℕ) (rs' : List (Role P)) where
      free_x : role_at rs x ≡ Free
      free_x = free_seen nx rs links x view free

      same_list : (l k : List (ℕ × P)) → l ≡ k → linked c x v l (shown nx rs) ≡ linked c x v k links
      same_list l k e = ap (λ m. linked c x v m (shown nx rs)) e ∙ ap (linked c x v k) view

      seen : entries links c ≡ ring_list nx rs c
      seen = entries_seen nx rs links c view chain

      pub push_back_sound : (last : ℕ) → last ≡ get_or pv c last → nx' ≡ set (set nx last x) x c → pv' ≡ set (set pv x last) c x → rs' ≡ set rs x (Linked c v) → IsSound nx' pv' rs' unused
      push_back_sound last is n_is v_is r_is =
          Sound-linked nx pv rs unused sound c chain x v (ring_list nx rs c) [] free_x (nil_end (ring_list nx rs c)) nx' pv' rs' last c
          (previous_read c last chain_inside is ∙ last_is nx pv rs c chain sound.rings) refl n_is v_is r_is

      pub push_back_shown : (last : ℕ) → last ≡ get_or pv c last → nx' ≡ set (set nx last x) x c → rs' ≡ set rs x (Linked c v) → shown nx' rs' ≡ linked c x v (entries links c ++ (x, v) ∷ []) links
      push_back_shown last is n_is r_is =
          Shown-linked nx pv rs unused sound c chain x v (ring_list nx rs c) [] free_x (nil_end (ring_list nx rs c)) nx' rs' last c
          (previous_read c last chain_inside is ∙ last_is nx pv rs c chain sound.rings) refl n_is r_is
          ∙ same_list _ _ (ap (λ l. l ++ (x, v) ∷ []) (sym seen))

      pub push_front_sound : (first : ℕ) → first ≡ get_or nx c first → nx' ≡ set (set nx c x) x first → pv' ≡ set (set pv x c) first x → rs' ≡ set rs x (Linked c v) → IsSound nx' pv' rs' unused
      push_front_sound first is n_is v_is r_is =
          Sound-linked nx pv rs unused sound c chain x v [] (ring_list nx rs c) free_x refl nx' pv' rs' c first
          refl (next_read c first chain_inside is ∙ first_is nx pv rs c chain sound.rings) n_is v_is r_is

      pub push_front_shown : (first : ℕ) → first ≡ get_or nx c first → nx' ≡ set (set nx c x) x first → rs' ≡ set rs x (Linked c v) → shown nx' rs' ≡ linked c x v ((x, v) ∷ entries links c) links
      push_front_shown first is n_is r_is =
          Shown-linked nx pv rs unused sound c chain x v [] (ring_list nx rs c) free_x refl nx' rs' c first
          refl (next_read c first chain_inside is ∙ first_is nx pv rs c chain sound.rings) n_is r_is
          ∙ same_list _ _ (ap (λ l. (x, v) ∷ l) (sym seen))

  -- a node that is in a chain
  module _ (n c : ℕ) (v : P) (is : role_at rs n ≡ Linked c v) where
    linked_chain : role_at rs c ≡ Chain
    linked_chain = (sound.rings.owned n c v is).0

    pub linked_inside : n < length rs
    linked_inside = within rs n (Linked c v) is (λ e. absurd (cc))

    pub linked_seen : link_of links n ≡ Some (c, v)
    linked_seen = link_seen nx rs links n view (Linked c v) is

    seen_list : entries links c ≡ ring_list nx rs c
    seen_list = entries_seen nx rs links c view linked_chain

    -- the list of its chain, parted at the node
    pub parted : (a : List (ℕ × P)) × ((b : List (ℕ × P)) × (ring_list nx rs c ≡ a ++ (n, v) ∷ b))
    parted =
        let s = split n (ring_list nx rs c) (sound.rings.owned n c v is).1 in
        let role : role_at rs n ≡ Linked c s.1.1.0 = Path-value nx pv rs c c n s.1.1.0 s.0 s.1.0 c (subst (λ l. Path nx pv rs c c l c) s.1.1.1 (sound.rings.rings c linked_chain).path) in
        (s.0, (s.1.0, s.1.1.1 ∙ ap (λ u. s.0 ++ (n, u) ∷ s.1.0) (same_value (sym role ∙ is))))
      where
        same_value : {u w : P} → Linked c u ≡ Linked c w → u ≡ w
        same_value e = cc

    apart_list : Apart (parted.0 ++ (n, v) ∷ parted.1.0)
    apart_list = subst Apart parted.1.1 (sound.rings.rings c linked_chain).apart

    pub next_inside : (read : ℕ) → read ≡ get_or nx n read → read < length rs
    next_inside read e = subst (λ k. k < length rs) (sym (next_read n read linked_inside e)) (next_within nx pv rs c linked_chain sound.rings n v parted.0 parted.1.0 parted.1.1)

    pub previous_inside : (read : ℕ) → read ≡ get_or pv n read → read < length rs
    previous_inside read e = subst (λ k. k < length rs) (sym (previous_read n read linked_inside e)) (previous_within nx pv rs c linked_chain sound.rings n v parted.0 parted.1.0 parted.1.1)

    pub next_shown : (read : ℕ) → read ≡ get_or nx n read → entry_at rs read ≡ following n links
    next_shown read e =
        ap (entry_at rs) (next_read n read linked_inside e) ∙ (next_entry nx pv rs c linked_chain sound.rings n v parted.0 parted.1.0 parted.1.1
        ∙ (ap (after n) (sym seen_list) ∙ ap (λ o. in_list (after n) o links) (sym linked_seen)))

    pub previous_shown : (read : ℕ) → read ≡ get_or pv n read → entry_at rs read ≡ preceding n links
    previous_shown read e =
        ap (entry_at rs) (previous_read n read linked_inside e) ∙ (previous_entry nx pv rs c linked_chain sound.rings n v parted.0 parted.1.0 parted.1.1
        ∙ (ap (before n) (sym seen_list) ∙ ap (λ o. in_list (before n) o links) (sym linked_seen)))

    module _ (nx' pv' : List ℕ) (rs' : List (Role P)) (left right : ℕ) (before_is : left ≡ get_or pv n left) where
      pub remove_sound : right ≡ get_or nx n right → nx' ≡ set nx left right → pv' ≡ set pv right left → rs' ≡ set rs n Free → IsSound nx' pv' rs' unused
      remove_sound after_is n_is v_is r_is =
          Sound-unlinked nx pv rs unused sound c linked_chain n v parted.0 parted.1.0 parted.1.1 nx' pv' rs' left right
          (previous_read n left linked_inside before_is) (next_read n right linked_inside after_is) n_is v_is r_is

      pub remove_shown : right ≡ get_or nx n right → nx' ≡ set nx left right → rs' ≡ set rs n Free → shown nx' rs' ≡ removed n links
      remove_shown after_is n_is r_is =
          Shown-unlinked nx pv rs unused sound c linked_chain n v parted.0 parted.1.0 parted.1.1 nx' rs' left right
          (previous_read n left linked_inside before_is) (next_read n right linked_inside after_is) n_is r_is
          ∙ (ap (λ l. unlinked c n l (shown nx rs)) (sym (without-at n v parted.0 parted.1.0 apart_list) ∙ ap (without n) (sym (seen_list ∙ parted.1.1)))
          ∙ (ap (unlinked c n (without n (entries links c))) view
          ∙ ap (λ o. removed_by n o links) (sym linked_seen)))

      -- a free node put before this one
      module _ (x : ℕ) (u : P) (free : is_free links x ≡ true) where
        pub insert_sound : nx' ≡ set (set nx left x) x n → pv' ≡ set (set pv x left) n x → rs' ≡ set rs x (Linked c u) → IsSound nx' pv' rs' unused
        insert_sound n_is v_is r_is =
            Sound-linked nx pv rs unused sound c linked_chain x u parted.0 ((n, v) ∷ parted.1.0) (free_seen nx rs links x view free) parted.1.1 nx' pv' rs' left n
            (previous_read n left linked_inside before_is ∙ previous_is nx pv rs c linked_chain sound.rings n v parted.0 parted.1.0 parted.1.1) refl n_is v_is r_is

        pub insert_shown : nx' ≡ set (set nx left x) x n → rs' ≡ set rs x (Linked c u) → shown nx' rs' ≡ inserted n x u links
        insert_shown n_is r_is =
            Shown-linked nx pv rs unused sound c linked_chain x u parted.0 ((n, v) ∷ parted.1.0) (free_seen nx rs links x view free) parted.1.1 nx' rs' left n
            (previous_read n left linked_inside before_is ∙ previous_is nx pv rs c linked_chain sound.rings n v parted.0 parted.1.0 parted.1.1) refl n_is r_is
            ∙ (ap (λ l. linked c x u l (shown nx rs)) (sym (put_before-at n v (x, u) parted.0 parted.1.0 apart_list) ∙ ap (put_before n (x, u)) (sym (seen_list ∙ parted.1.1)))
            ∙ (ap (linked c x u (put_before n (x, u) (entries links c))) view ∙ ap (λ o. inserted_by n x u o links) (sym linked_seen)))
