-- A release of two chains: always the thread of the lesser order key is put at high, and leaves its chain.
use Rattle.core_records.proofs.Core.{[], ap, ap₂, arith, Bool, ChangesOnly, ChangesOnly-unlinked, cond, entries, eq-eqb, false, filter, has, head_of, held_why_of, In, inl, inr, is_some, IsLinks, IsSome, IsUnqueued, length, link_of, List, list_of, list_or_nil, made_linked, map, None, on_core, Once, Option, option_map, put_high, refl, removed, removed_by, same_Some, seen, Some, Spot, StateView, subst, sym, true, Why, without, ℕ, ◌<◌, ◌==◌, ◌||◌, ◌∙◌, ◌∷◌, ◌≡◌, ◌⊎◌}
use Rattle.std.proofs.lemmas.Bool.{or_left, or_right}
use Rattle.core_records.specs.declared.parts.CoreParts.{CoreParts}
use Rattle.table_lists.proofs.Walks.{in_has}
use Rattle.table_lists.specs.declared.ordered_lists.OrderKey.{OrderKey}
use Rattle.core_removals.proofs.MergeLemmas.{comes_before, has_merged, left_leads, right_leads}
use Rattle.core_removals.proofs.ReleaseLemmas.{admitted_held, admitted_is, names_same, next_unqueued, step_puts}
use Rattle.core_removals.specs.Held.{Releases, is_admitted}
use Rattle.core_removals.specs.Merged.{merged}
use Rattle.core_removals.specs.Walks.{at_place, of_node}

-- the first of both is the first of the one, or of the other
abbrev LeadsLeft : (xs ys : List (ℕ × OrderKey)) → ℕ × OrderKey → Type 0
LeadsLeft xs ys e = (es : List (ℕ × OrderKey)) × ((xs ≡ e ∷ es) × (merged xs ys ≡ e ∷ merged es ys))

abbrev LeadsRight : (xs ys : List (ℕ × OrderKey)) → ℕ × OrderKey → Type 0
LeadsRight xs ys e = (es : List (ℕ × OrderKey)) × ((ys ≡ e ∷ es) × (merged xs ys ≡ e ∷ merged xs es))

leads_of : (xs ys : List (ℕ × OrderKey)) (e : ℕ × OrderKey) → head_of (merged xs ys) ≡ Some e → LeadsLeft xs ys e ⊎ LeadsRight xs ys e
leads_of [] [] e head = absurd (cc)
leads_of [] (y ∷ ys) e head = let same = ap (λ (k : ℕ × OrderKey). k ∷ ys) (same_Some y e head) in inr (ys, (same, same))
leads_of (x ∷ xs) [] e head = let same = same_Some x e head in inl (xs, (ap (λ (k : ℕ × OrderKey). k ∷ xs) same, ap (λ (k : ℕ × OrderKey). k ∷ merged xs []) same))
leads_of (x ∷ xs) (y ∷ ys) e head = go (comes_before y x) refl
  where
    go : (t : Bool) → comes_before y x ≡ t → LeadsLeft (x ∷ xs) (y ∷ ys) e ⊎ LeadsRight (x ∷ xs) (y ∷ ys) e
    go true on =
        let is = right_leads x y xs ys on in
        let same = same_Some y e (sym (ap head_of is) ∙ head) in
        inr (ys, (ap (λ (k : ℕ × OrderKey). k ∷ ys) same, is ∙ ap (λ (k : ℕ × OrderKey). k ∷ merged (x ∷ xs) ys) same))
    go false off =
        let is = left_leads x y xs ys off in
        let same = same_Some x e (sym (ap head_of is) ∙ head) in
        inl (xs, (ap (λ (k : ℕ × OrderKey). k ∷ xs) same, is ∙ ap (λ (k : ℕ × OrderKey). k ∷ merged xs (y ∷ ys)) same))

pub head_with : (n : ℕ) (o : Option (ℕ × OrderKey)) → Some n ≡ option_map (λ e. e.0) o → (v : OrderKey) × (o ≡ Some (n, v))
head_with n None is = absurd (cc)
head_with n (Some (m, v)) is = (v, ap (λ k. Some (k, v)) (sym (same_Some n m is)))

pub none_left : (l : List (ℕ × OrderKey)) → None ≡ option_map {U = ℕ} (λ e. e.0) (head_of l) → l ≡ []
none_left [] is = refl
none_left (e ∷ es) is = absurd (cc)

-- the list of those that pass, where all do
pub all_kept : (test : ℕ → Bool) (ns : List ℕ) → ((n : ℕ) → has n ns ≡ true → test n ≡ true) → filter test ns ≡ ns
all_kept test [] each = refl
all_kept test (n ∷ ns) each =
    ap (λ t. cond t (n ∷ filter test ns) (filter test ns)) (each n (ap (λ b. b || has n ns) (eq-eqb n n refl)))
    ∙ ap (λ (l : List ℕ). n ∷ l) (all_kept test ns (λ k h. each k (or_right _ _ h)))

-- the first of both left its chain
record Led (a b : CoreParts) (c d : ℕ) (e : ℕ × OrderKey) : Type 0 where
  rest : List (ℕ × OrderKey)
  before : merged (entries a.places c) (entries a.places d) ≡ e ∷ rest
  after : merged (entries b.places c) (entries b.places d) ≡ rest
  others : (n : ℕ) → (n ≡ e.0 → ⊥) → link_of b.places n ≡ link_of a.places n
  chain : IsSome (list_of b.places c)
  other : IsSome (list_of b.places d)

module _ (a : CoreParts) (links : IsLinks a.places) (c d : ℕ) (e : ℕ × OrderKey) (head : head_of (merged (entries a.places c) (entries a.places d)) ≡ Some e) where
  leads : LeadsLeft (entries a.places c) (entries a.places d) e ⊎ LeadsRight (entries a.places c) (entries a.places d) e
  leads = leads_of (entries a.places c) (entries a.places d) e head

  headed : (es : List (ℕ × OrderKey)) × (merged (entries a.places c) (entries a.places d) ≡ e ∷ es)
  headed = by leads
    where
      by : LeadsLeft (entries a.places c) (entries a.places d) e ⊎ LeadsRight (entries a.places c) (entries a.places d) e → (es : List (ℕ × OrderKey)) × (merged (entries a.places c) (entries a.places d) ≡ e ∷ es)
      by (inl (es, (is, all))) = (_, all)
      by (inr (es, (is, all))) = (_, all)

  linked_in : (x : ℕ) (es : List (ℕ × OrderKey)) → entries a.places x ≡ e ∷ es → (v : OrderKey) × (link_of a.places e.0 ≡ Some (x, v))
  linked_in x es is = links.entered e.0 x (subst (In e.0) (sym is) (inl refl))

  -- the node that leads is in a chain
  pub both_link : IsSome (link_of a.places e.0)
  both_link = by leads
    where
      by : LeadsLeft (entries a.places c) (entries a.places d) e ⊎ LeadsRight (entries a.places c) (entries a.places d) e → IsSome (link_of a.places e.0)
      by (inl (es, (is, all))) = ap is_some (linked_in c es is).1
      by (inr (es, (is, all))) = ap is_some (linked_in d es is).1

  module _ (i : ℕ) (s : StateView) (all : List ℕ) (was : Releases i s all a (merged (entries a.places c) (entries a.places d))) where
    was_led : Releases i s all a (e ∷ headed.0)
    was_led = subst (Releases i s all a) headed.1 was

    pub both_unqueued : IsUnqueued (of_node a e.0) (seen a).core
    both_unqueued = next_unqueued i s all a e headed.0 was_led

    module _ (admitted : (n : ℕ) → has n (map (λ k. of_node a k.0) (merged (entries a.places c) (entries a.places d))) ≡ true → is_admitted i s.core n ≡ true) where
      here : has (of_node a e.0) (map (λ k. of_node a k.0) (merged (entries a.places c) (entries a.places d))) ≡ true
      here =
          ap (λ l. has (of_node a e.0) (map (λ k. of_node a k.0) l)) headed.1
          ∙ ap (λ b. b || has (of_node a e.0) (map (λ k. of_node a k.0) headed.0)) (eq-eqb (of_node a e.0) (of_node a e.0) refl)

      pub both_admitted : is_admitted i (seen a).core (of_node a e.0) ≡ true
      both_admitted = admitted_is i s all a e headed.0 was_led ∙ admitted (of_node a e.0) here

      module _ (chain : IsSome (list_of a.places c)) (other : IsSome (list_of a.places d)) (b : CoreParts) (takes : b.places ≡ removed e.0 a.places) where
        apart : c ≡ d → ⊥
        apart same = by leads
          where
            number : ℕ × OrderKey → ℕ
            number k = of_node a k.0

            at_head : (es : List (ℕ × OrderKey)) → has (of_node a e.0) (map (λ k. of_node a k.0) (e ∷ es)) ≡ true
            at_head es = ap (λ b. b || has (of_node a e.0) (map (λ k. of_node a k.0) es)) (eq-eqb (of_node a e.0) (of_node a e.0) refl)

            once_rest : (l : List (ℕ × OrderKey)) → merged (entries a.places c) (entries a.places d) ≡ e ∷ l → has (of_node a e.0) (map (λ k. of_node a k.0) l) ≡ false
            once_rest l is = (subst (λ m. Once (map (λ k. of_node a k.0) m)) is was.once).0

            by : LeadsLeft (entries a.places c) (entries a.places d) e ⊎ LeadsRight (entries a.places c) (entries a.places d) e → ⊥
            by (inl (es, (is, all))) =
                let there = ap (λ l. has (of_node a e.0) (map (λ k. of_node a k.0) l)) (ap (entries a.places) (sym same) ∙ is) ∙ at_head es in
                let on = has_merged (λ k. of_node a k.0) (of_node a e.0) es (entries a.places d) ∙ or_right _ _ there in
                let off = once_rest (merged es (entries a.places d)) all in
                let bad = sym on ∙ off in cc
            by (inr (es, (is, all))) =
                let there = ap (λ l. has (of_node a e.0) (map (λ k. of_node a k.0) l)) (ap (entries a.places) same ∙ is) ∙ at_head es in
                let on = has_merged (λ k. of_node a k.0) (of_node a e.0) (entries a.places c) es ∙ or_left _ _ there in
                let off = once_rest (merged (entries a.places c) es) all in
                let bad = sym on ∙ off in cc

        gone : (x : ℕ) (es : List (ℕ × OrderKey)) → entries a.places x ≡ e ∷ es → ChangesOnly a.places b.places x e.0 es None
        gone x es is =
            let link = linked_in x es is in
            let less : without e.0 (entries a.places x) ≡ es = ap (without e.0) is ∙ ap (λ t. cond t es (e ∷ without e.0 es)) (eq-eqb e.0 e.0 refl) in
            subst (λ (l : List (ℕ × OrderKey)). ChangesOnly a.places b.places x e.0 l None) less
            (subst (λ (l : List (Spot OrderKey)). ChangesOnly a.places l x e.0 (without e.0 (entries a.places x)) None) (sym (takes ∙ ap (λ o. removed_by e.0 o a.places) link.1))
            (ChangesOnly-unlinked a.places x e.0 (without e.0 (entries a.places x)) (links.listed e.0 x link.0 link.1).0 (made_linked a.places e.0 x link.0 link.1)))

        led : Led a b c d e
        led = by leads
          where
            by : LeadsLeft (entries a.places c) (entries a.places d) e ⊎ LeadsRight (entries a.places c) (entries a.places d) e → Led a b c d e
            by (inl (es, (is, all))) =
                let out = gone c es is in
                let stays = out.lists d (λ same. apart (sym same)) in
                record {
                  rest = merged es (entries a.places d);
                  before = all;
                  after = ap₂ merged (ap list_or_nil out.list_is) (ap list_or_nil stays);
                  others = out.links;
                  chain = ap is_some out.list_is;
                  other = ap is_some stays ∙ other;
                }
            by (inr (es, (is, all))) =
                let out = gone d es is in
                let stays = out.lists c apart in
                record {
                  rest = merged (entries a.places c) es;
                  before = all;
                  after = ap₂ merged (ap list_or_nil stays) (ap list_or_nil out.list_is);
                  others = out.links;
                  chain = ap is_some stays ∙ chain;
                  other = ap is_some out.list_is;
                }

        pub both_chain : IsSome (list_of b.places c)
        both_chain = led.chain

        pub both_other : IsSome (list_of b.places d)
        both_other = led.other

        pub both_smaller : length (merged (entries b.places c) (entries b.places d)) < length (merged (entries a.places c) (entries a.places d))
        both_smaller =
            let after : length (merged (entries b.places c) (entries b.places d)) ≡ length led.rest = ap (λ (l : List (ℕ × OrderKey)). length l) led.after in
            let before : length (merged (entries a.places c) (entries a.places d)) ≡ length (e ∷ led.rest) = ap (λ (l : List (ℕ × OrderKey)). length l) led.before in
            omega (arith, after, before)

        rest_was : Releases i s all a (e ∷ led.rest)
        rest_was = subst (Releases i s all a) led.before was

        out_of_rest : In e.0 led.rest → ⊥
        out_of_rest there = let on = in_has (of_node a) e.0 led.rest there in let off = rest_was.once.0 in let bad = sym on ∙ off in cc

        module _ (places : (r : ℕ) → at_place b r ≡ at_place a r) where
          names : map (λ k. of_node b k.0) led.rest ≡ map (λ k. of_node a k.0) led.rest
          names = names_same a b e.0 places led.others led.rest out_of_rest

          pub both_stay_admitted : (n : ℕ) → has n (map (λ k. of_node b k.0) (merged (entries b.places c) (entries b.places d))) ≡ true → is_admitted i s.core n ≡ true
          both_stay_admitted n there =
              let in_rest : has n (map (λ k. of_node a k.0) led.rest) ≡ true = ap (has n) (sym names) ∙ (ap (λ l. has n (map (λ k. of_node b k.0) l)) (sym led.after) ∙ there) in
              admitted n (ap (λ l. has n (map (λ k. of_node a k.0) l)) led.before ∙ or_right (n == of_node a e.0) _ in_rest)

          pub both_step : ((w : Why) → held_why_of (of_node a e.0) (seen a).core ≡ Some w → seen b ≡ on_core (put_high (of_node a e.0) w) (seen a)) → Releases i s all b (merged (entries b.places c) (entries b.places d))
          both_step puts =
              let one = admitted_held i (of_node a e.0) (seen a).core both_admitted in
              subst (Releases i s all b) (sym led.after) (step_puts i s all a e led.rest rest_was b one.0 one.1 (puts one.0 one.1) names both_admitted)
