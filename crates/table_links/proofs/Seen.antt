-- What holds of all that contracts see of a `Links`.
use Rattle.std.proofs.Common.{◌≡◌, ℕ, List, [], ◌∷◌, Some, IsSome, refl, sym, ap, subst, ◌∙◌}
use Rattle.std.proofs.lemmas.Option.{some_pair_parts}
use Rattle.table_links.specs.declared.links.Role.{Role}
use Rattle.table_links.specs.declared.links.Role.TheVariants.{Unused, Chain, Free, Linked}
use Rattle.table_links.specs.Links.{AreLinked, In, Apart, IsLinks, entries, list_of, link_of, list_or_nil, spot_list, spot_link}
use Rattle.table_links.specs.Rings.{role_at, ring_list, AreRings, Path, shown, spot_of}
use Rattle.table_links.proofs.Paths.{Path-role}
use Rattle.table_links.proofs.Spots.{spot_at-shown}
use Rattle.table_links.proofs.Neighbours.{link_seen, entries_seen}

module _ {P : Type 0} (nx pv : List ℕ) (rs : List (Role P)) (sound : AreRings nx pv rs) where
  seen : (c : ℕ) → entries (shown nx rs) c ≡ list_or_nil (spot_list (spot_of nx rs c (role_at rs c)))
  seen c = ap (λ s. list_or_nil (spot_list s)) (spot_at-shown nx rs c)

  apart : (c : ℕ) (r : Role P) → role_at rs c ≡ r → Apart (list_or_nil (spot_list (spot_of nx rs c r)))
  apart c Unused is = tt
  apart c Chain is = (sound.rings c is).apart
  apart c Free is = tt
  apart c (Linked d v) is = tt

  live : (c : ℕ) → role_at rs c ≡ Chain → IsSome (list_of (shown nx rs) c)
  live c is = subst (λ s. IsSome (spot_list s)) (sym (spot_at-shown nx rs c)) (subst (λ r. IsSome (spot_list (spot_of nx rs c r))) (sym is) refl)

  listed : (n c : ℕ) (v : P) (r : Role P) → role_at rs n ≡ r → spot_link (spot_of nx rs n r) ≡ Some (c, v) → IsSome (list_of (shown nx rs) c) × In n (entries (shown nx rs) c)
  listed n c v Unused is link = absurd (cc)
  listed n c v Chain is link = absurd (cc)
  listed n c v Free is link = absurd (cc)
  listed n c v (Linked d u) is link =
      let same : d ≡ c = (some_pair_parts d c u v link).0 in
      let o = sound.owned n d u is in
      subst (λ k. IsSome (list_of (shown nx rs) k) × In n (entries (shown nx rs) k)) same
      (live d o.0, subst (In n) (sym (entries_seen nx rs (shown nx rs) d refl o.0)) o.1)

  entered : (n c : ℕ) (r : Role P) → role_at rs c ≡ r → In n (list_or_nil (spot_list (spot_of nx rs c r))) → (v : P) × (link_of (shown nx rs) n ≡ Some (c, v))
  entered n c Unused is i = absurd i
  entered n c Chain is i =
      let role = Path-role nx pv rs c c (ring_list nx rs c) c n (sound.rings c is).path i in
      (role.0, link_seen nx rs (shown nx rs) n refl (Linked c role.0) role.1)
  entered n c Free is i = absurd i
  entered n c (Linked d v) is i = absurd i

  pub IsLinks-shown : IsLinks (shown nx rs)
  IsLinks-shown = record {
    once = λ c. subst Apart (sym (seen c)) (apart c (role_at rs c) refl);
    listed = λ n c v link. listed n c v (role_at rs n) refl (sym (link_seen nx rs (shown nx rs) n refl (role_at rs n) refl) ∙ link);
    entered = λ n c i. entered n c (role_at rs c) refl (subst (In n) (seen c) i);
  }

  linked_in : (c s : ℕ) (list : List (ℕ × P)) (to : ℕ) → Path nx pv rs c s list to → AreLinked (shown nx rs) c list
  linked_in c s [] to path = tt
  linked_in c s (e ∷ es) to path = (link_seen nx rs (shown nx rs) e.0 refl (Linked c e.1) path.1.1.0, linked_in c e.0 es to path.1.1.1)

  pub AreLinked-shown : (c : ℕ) → AreLinked (shown nx rs) c (entries (shown nx rs) c)
  AreLinked-shown c = subst (AreLinked (shown nx rs) c) (sym (seen c)) (by (role_at rs c) refl)
    where
      by : (r : Role P) → role_at rs c ≡ r → AreLinked (shown nx rs) c (list_or_nil (spot_list (spot_of nx rs c r)))
      by Unused is = tt
      by Chain is = linked_in c c (ring_list nx rs c) c (sound.rings c is).path
      by Free is = tt
      by (Linked d v) is = tt
