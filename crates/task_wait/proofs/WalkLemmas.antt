-- The place of a new entry, found from the end of a list.
use Rattle.std.proofs.Common.{◌≡◌, ℕ, ◌+◌, ◌<◌, ◌||◌, inl, inr, Bool, true, false, cond, List, [], ◌∷◌, ◌++◌, length, Option, Some, None, refl, sym, ap, subst, ◌∙◌, arith, option_map}
use Rattle.std.specs.List.{list_any}
use Rattle.std.proofs.lemmas.Bool.{eq-eqb, ne_eqb, or_left, or_right}
use Rattle.table_links.specs.Links.{Spot, In, Apart, IsLinks, entries, link_of, head_of, last_of, last_or, before, preceding, in_list}
use Rattle.std.proofs.lemmas.Option.{same_Some}
use Rattle.task_wait.specs.Sets.{place_of}
use Rattle.task_wait.specs.Walks.{IsWalk, position_of, up_to}
use Rattle.table_links.proofs.Paths.{In-here, before-at}
use Rattle.table_links.proofs.Sounds.{nil_end}

module _ {P : Type 0} where
  append_parts : (a b d : List (ℕ × P)) → (a ++ b) ++ d ≡ a ++ (b ++ d)
  append_parts [] b d = refl
  append_parts (e ∷ es) b d = ap (λ l. e ∷ l) (append_parts es b d)

  -- the last entry is after the others
  last_split : (f : ℕ × P) (fs : List (ℕ × P)) (e : ℕ × P) → last_or (Some f) fs ≡ Some e → (a : List (ℕ × P)) × (f ∷ fs ≡ a ++ e ∷ [])
  last_split f [] e is = ([], ap (λ k. k ∷ []) (some_is is))
    where
      some_is : Some f ≡ Some e → f ≡ e
      some_is s = cc
  last_split f (g ∷ gs) e is = let s = last_split g gs e is in (f ∷ s.0, ap (λ l. f ∷ l) s.1)

  pub front_split : (front : List (ℕ × P)) (e : ℕ × P) → last_of front ≡ Some e → (a : List (ℕ × P)) × (front ≡ a ++ e ∷ [])
  front_split [] e is = absurd (cc)
  front_split (f ∷ fs) e is = last_split f fs e is

  position-at : (n : ℕ) (v : P) (a b : List (ℕ × P)) → Apart (a ++ (n, v) ∷ b) → position_of n (a ++ (n, v) ∷ b) ≡ length a + 1
  position-at n v [] b apart = ap (λ t. cond t 1 (position_of n b + 1)) (eq-eqb n n refl)
  position-at n v (e ∷ es) b apart =
      ap (λ t. cond t 1 (position_of n (es ++ (n, v) ∷ b) + 1)) (ne_eqb e.0 n (λ same. apart.0 (subst (λ m. In m (es ++ (n, v) ∷ b)) (sym same) (In-here (n, v) es b))))
      ∙ (ap (λ k. k + 1) (position-at n v es b apart.1) ∙ omega arith)

  -- as many entries are up to the last of the front as the front has
  up_to-front : (front back : List (ℕ × P)) → Apart (front ++ back) → up_to (last_of front) (front ++ back) ≡ length front
  up_to-front front back apart = by_last (last_of front) refl
    where
      by_last : (o : Option (ℕ × P)) → last_of front ≡ o → up_to (last_of front) (front ++ back) ≡ length front
      by_last None is = ap (λ o. up_to o (front ++ back)) is ∙ sym (none_length front is)
        where
          some_last : (f : ℕ × P) (fs : List (ℕ × P)) → last_or (Some f) fs ≡ None → ⊥
          some_last f [] e = absurd (cc)
          some_last f (g ∷ gs) e = some_last g gs e

          none_length : (l : List (ℕ × P)) → last_of l ≡ None → length l ≡ 0
          none_length [] e = refl
          none_length (f ∷ fs) e = absurd (some_last f fs e)
      by_last (Some e) is =
          let s = front_split front e is in
          let whole : front ++ back ≡ s.0 ++ e ∷ back = ap (λ l. l ++ back) s.1 ∙ append_parts s.0 (e ∷ []) back in
          ap (λ o. up_to o (front ++ back)) is
          ∙ (ap (position_of e.0) whole
          ∙ (position-at e.0 e.1 s.0 back (subst Apart whole apart)
          ∙ (sym (length_more s.0) ∙ ap length (sym s.1))))
        where
          length_more : (l : List (ℕ × P)) → length (l ++ e ∷ []) ≡ length l + 1
          length_more [] = refl
          length_more (f ∷ fs) = let more = length_more fs in omega arith

  module _ (less : P → Bool) where
    stops : (f : ℕ × P) (fs back : List (ℕ × P)) (e : ℕ × P) → last_or (Some f) fs ≡ Some e → less e.1 ≡ true → list_any (λ k. less k.1) back ≡ false → (list_any (λ k. less k.1) (f ∷ fs ++ back) ≡ true) × (place_of less (f ∷ fs ++ back) ≡ option_map (λ k. k.0) (head_of back))
    stops f [] back e last is none =
        let same : f ≡ e = some_is last in
        let any : list_any (λ k. less k.1) (f ∷ back) ≡ true = or_left (less f.1) _ (ap (λ k. less k.1) same ∙ is) in
        (any, ap (λ t. cond t (place_of less back) (Some f.0)) any ∙ place_of_none back none)
      where
        some_is : Some f ≡ Some e → f ≡ e
        some_is s = cc

        place_of_none : (l : List (ℕ × P)) → list_any (λ k. less k.1) l ≡ false → place_of less l ≡ option_map (λ k. k.0) (head_of l)
        place_of_none [] n = refl
        place_of_none (k ∷ ks) n = ap (λ t. cond t (place_of less ks) (Some k.0)) n
    stops f (g ∷ gs) back e last is none =
        let more = stops g gs back e last is none in
        let any : list_any (λ k. less k.1) (f ∷ g ∷ gs ++ back) ≡ true = or_right (less f.1) _ more.0 in
        (any, ap (λ t. cond t (place_of less (g ∷ gs ++ back)) (Some f.0)) any ∙ more.1)

    pub place_of_none : (l : List (ℕ × P)) → list_any (λ k. less k.1) l ≡ false → place_of less l ≡ option_map (λ k. k.0) (head_of l)
    place_of_none [] n = refl
    place_of_none (k ∷ ks) n = ap (λ t. cond t (place_of less ks) (Some k.0)) n

    -- the walk stops at an entry that is less
    pub Walk-stops : (list : List (ℕ × P)) (last : Option (ℕ × P)) (place : Option ℕ) (e : ℕ × P) → IsWalk less list last place → last ≡ Some e → less e.1 ≡ true → place ≡ place_of less list
    Walk-stops list last place e walk is below = w.place_is ∙ sym (ap (place_of less) walk.parts ∙ by_front walk.front (sym walk.last_is ∙ is))
      where
        w : IsWalk less list last place
        w = walk

        by_front : (front : List (ℕ × P)) → last_of front ≡ Some e → place_of less (front ++ walk.back) ≡ option_map (λ k. k.0) (head_of walk.back)
        by_front [] l = absurd (cc)
        by_front (f ∷ fs) l = (stops f fs walk.back e l below walk.above).1

    -- or at the front
    pub Walk-ends : (list : List (ℕ × P)) (last : Option (ℕ × P)) (place : Option ℕ) → IsWalk less list last place → last ≡ None → place ≡ place_of less list
    Walk-ends list last place walk is = walk.place_is ∙ sym (ap (place_of less) walk.parts ∙ by_front walk.front (sym walk.last_is ∙ is))
      where
        some_last : (f : ℕ × P) (fs : List (ℕ × P)) → last_or (Some f) fs ≡ None → ⊥
        some_last f [] e = absurd (cc)
        some_last f (g ∷ gs) e = some_last g gs e

        by_front : (front : List (ℕ × P)) → last_of front ≡ None → place_of less (front ++ walk.back) ≡ option_map (λ k. k.0) (head_of walk.back)
        by_front [] l = place_of_none walk.back walk.above
        by_front (f ∷ fs) l = absurd (some_last f fs l)

    -- it begins at the end
    pub Walk-begins : (list : List (ℕ × P)) → IsWalk less list (last_of list) None
    Walk-begins list = record { front = list; back = []; parts = nil_end list; last_is = refl; place_is = refl; above = refl }

    -- and goes on before an entry that is not less
    module _ (links : List (Spot P)) (c : ℕ) (sound : IsLinks links) (last : Option (ℕ × P)) (place : Option ℕ) (e : ℕ × P) (walk : IsWalk less (entries links c) last place) (is : last ≡ Some e) where
      cut : (a : List (ℕ × P)) × (walk.front ≡ a ++ e ∷ [])
      cut = front_split walk.front e (sym walk.last_is ∙ is)

      whole : entries links c ≡ cut.0 ++ e ∷ walk.back
      whole = walk.parts ∙ (ap (λ l. l ++ walk.back) cut.1 ∙ append_parts cut.0 (e ∷ []) walk.back)

      apart : Apart (cut.0 ++ e ∷ walk.back)
      apart = subst Apart whole (sound.once c)

      pub walk_link : (v : P) × (link_of links e.0 ≡ Some (c, v))
      walk_link = sound.entered e.0 c (subst (In e.0) (sym whole) (In-here e cut.0 walk.back))

      before_is : preceding e.0 links ≡ last_of cut.0
      before_is = ap (λ o. in_list (before e.0) o links) walk_link.1 ∙ (ap (before e.0) whole ∙ before-at None e.0 e.1 cut.0 walk.back apart)

      pub Walk-more : (next : Option (ℕ × P)) → next ≡ preceding e.0 links → less e.1 ≡ false → IsWalk less (entries links c) next (Some e.0)
      Walk-more next next_is above = record {
        front = cut.0;
        back = e ∷ walk.back;
        parts = whole;
        last_is = next_is ∙ before_is;
        place_is = refl;
        above = ap (λ t. t || list_any (λ k. less k.1) walk.back) above ∙ walk.above;
      }

      pub Walk-smaller : (next : Option (ℕ × P)) → next ≡ preceding e.0 links → up_to next (entries links c) < up_to last (entries links c)
      Walk-smaller next next_is =
          let before : up_to next (entries links c) ≡ length cut.0 = ap (λ o. up_to o (entries links c)) (next_is ∙ before_is) ∙ (ap (up_to (last_of cut.0)) whole ∙ up_to-front cut.0 (e ∷ walk.back) apart) in
          let here : up_to last (entries links c) ≡ length cut.0 + 1 = ap (λ o. up_to o (entries links c)) is ∙ (ap (position_of e.0) whole ∙ position-at e.0 e.1 cut.0 walk.back apart) in
          omega arith

    -- the place is a node of the list
    pub place_in : (n : ℕ) (list : List (ℕ × P)) → place_of less list ≡ Some n → In n list
    place_in n [] is = absurd (cc)
    place_in n (e ∷ es) is = by_test (λ found. place_in n es found) (list_any (λ k. less k.1) (e ∷ es)) is
      where
        by_test : (place_of less es ≡ Some n → In n es) → (t : Bool) → cond t (place_of less es) (Some e.0) ≡ Some n → In n (e ∷ es)
        by_test more true found = inr (more found)
        by_test more false found = inl (same_Some n e.0 (sym found))
