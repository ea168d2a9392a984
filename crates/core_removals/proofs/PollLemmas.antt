-- The first of the live works above a number is what the machine polls next.
use Rattle.core_records.proofs.Core.{[], ap, ap₂, AreLinked, arith, bare, bare_work, Bool, cond, entries, eq-eqb, eqb-true, false, Filing, filings, filings_at, first_number, ge_from_not_lt, get, get-records, has, head_of, inl, inr, is_live, is_lt, is_some, is_sorted, is_stage_live, IsAscending, IsIndex, IsIndex-same, IsLeast, IsLinks, IsMembers-numbers, IsMembers-walked, IsSome, IsSoundCore, key_in, link_of, link_says, List, list_of, live_after, live_chain, live_order, live_value, live_work, map, nat_cmp, nat_lt, next_polled, None, number_at, number_in, number_in_link, numbers, on_item, Option, Ordering, ordering_then, parts_of, passes_at, passes_in, place_at, place_at-mapped, Placed, placed_as, record_at, record_found, records, refl, Rises, said, same_Some, seen, Some, some_pair_parts, split, Spot, Stage, subst, sym, T, Tests, true, unsigned_tied, Work, work_key, ℕ, ◌&&◌, ◌++◌, ◌<◌, ◌==◌, ◌∙◌, ◌∷◌, ◌≡◌, ◌≤◌}
use Rattle.std.proofs.lemmas.Bool.{and_parts, or_cases, or_parts, or_right}
use Rattle.std.specs.List.{find}
use Rattle.core_records.specs.declared.{parts.CoreParts.CoreParts, single.Single.Single, work_records.WorkRecord.WorkRecord, work_records.LiveWork.LiveWork}
use Rattle.std.specs.FinMap.Entries as entry_list
use Rattle.std.specs.declared.cmp.Ordering.TheVariants.{Less, Equal, Greater}
use Rattle.core_places.specs.Moved.{live_key}
use Rattle.core_queues.proofs.BareLemmas.{place_mapped}
use Rattle.core_removals.proofs.LeastLemmas.{IsFirst, below_keys, first_fails, has_first, keys, one_first, right, same_first, sorted_below}
use Rattle.core_removals.specs.Walks.{HasNext, Walk, live_numbers}

-- ---- What the machine polls next is the first that passes

abbrev passes : ℕ → List (ℕ × Work) → ℕ → Bool
passes p es k = passes_in (λ (e : ℕ × Work). is_live e.1) k (entry_list.find nat_cmp k es) && nat_lt p k

found_key : (k : ℕ) (es : List (ℕ × Work)) → T (is_sorted nat_cmp es) → has k (keys es) ≡ is_some (entry_list.find nat_cmp k es)
unfolding numbers get
found_key k es sorted = (IsMembers-numbers (record { list = es; sorted = sorted })).are k

passing_key : (p k : ℕ) (es : List (ℕ × Work)) → T (is_sorted nat_cmp es) → passes p es k ≡ true → has k (keys es) ≡ true
passing_key p k es sorted is = found_key k es sorted ∙ by (entry_list.find nat_cmp k es) is
  where
    by : (o : Option Work) → (passes_in (λ (e : ℕ × Work). is_live e.1) k o && nat_lt p k) ≡ true → is_some o ≡ true
    by None is = absurd (cc)
    by (Some w) is = refl

once_key : (e : ℕ × Work) (es : List (ℕ × Work)) → T (is_sorted nat_cmp (e ∷ es)) → has e.0 (keys es) ≡ false
unfolding numbers
once_key e es sorted = (IsMembers-numbers (record { list = e ∷ es; sorted = sorted })).once.0

after_first : (p : ℕ) (es : List (ℕ × Work)) → T (is_sorted nat_cmp es) → IsFirst (passes p es) (first_number (live_after p es))
after_first p [] sorted = λ n is. absurd (cc)
after_first p (e ∷ es) sorted = by (is_live e.1 && nat_lt p e.0) refl (after_first p es (right _ _ sorted))
  where
    here : (k : ℕ) → (k == e.0) ≡ true → passes p (e ∷ es) k ≡ (is_live e.1 && nat_lt p e.0)
    here k same =
        ap (λ b. passes_in (λ (x : ℕ × Work). is_live x.1) k (cond b (Some e.1) (entry_list.find nat_cmp k es)) && nat_lt p k) (unsigned_tied k e.0 ∙ same)
        ∙ ap (λ n. is_live e.1 && nat_lt p n) (eqb-true k e.0 same)

    there : (k : ℕ) → (k == e.0) ≡ false → passes p (e ∷ es) k ≡ passes p es k
    there k other = ap (λ b. passes_in (λ (x : ℕ × Work). is_live x.1) k (cond b (Some e.1) (entry_list.find nat_cmp k es)) && nat_lt p k) (unsigned_tied k e.0 ∙ other)

    at_most : (k : ℕ) → passes p (e ∷ es) k ≡ true → e.0 ≤ k
    at_most k is = elim (or_cases (k == e.0) (has k (keys es)) (passing_key p k (e ∷ es) sorted is)) [
      | inl first ↦ (let same = eqb-true k e.0 first in omega (arith, same))
      | inr later ↦ below_keys e.0 k es (sorted_below e es sorted) later
    ]

    not_later : passes p es e.0 ≡ false
    not_later = by_key (passes p es e.0) refl
      where
        by_key : (b : Bool) → passes p es e.0 ≡ b → b ≡ false
        by_key true is = absurd (let once = once_key e es sorted in let two = passing_key p e.0 es (right _ _ sorted) is in cc)
        by_key false is = refl

    other_same : (is_live e.1 && nat_lt p e.0) ≡ false → (k : ℕ) → passes p (e ∷ es) k ≡ passes p es k
    other_same fails k = cases (k == e.0) refl
      where
        cases : (b : Bool) → (k == e.0) ≡ b → passes p (e ∷ es) k ≡ passes p es k
        cases true same = here k same ∙ (fails ∙ sym (ap (passes p es) (eqb-true k e.0 same) ∙ not_later))
        cases false other = there k other

    by : (b : Bool) → (is_live e.1 && nat_lt p e.0) ≡ b → IsFirst (passes p es) (first_number (live_after p es)) → IsFirst (passes p (e ∷ es)) (first_number (cond b (e.0 ∷ live_after p es) (live_after p es)))
    by true is rest = (here e.0 (eq-eqb e.0 e.0 refl) ∙ is, at_most)
    by false is rest = same_first (passes p es) (passes p (e ∷ es)) (other_same is) (first_number (live_after p es)) rest

-- ---- The chain of the live works

not_less : (v e : LiveWork) → is_lt (live_order v e) ≡ false → e.number ≤ v.number
not_less v e is = ge_from_not_lt v.number e.number (by (nat_cmp v.number e.number) (nat_cmp v.place e.place) is)
  where
    by : (o q : Ordering) → is_lt (ordering_then o q) ≡ false → is_lt o ≡ false
    by Less q is = is
    by Equal q is = refl
    by Greater q is = refl

-- what is after a work has a number as great
above_all : (e : LiveWork) (es : List (ℕ × LiveWork)) → IsLeast live_order e es → (k : ℕ) → has k (live_numbers es) ≡ true → e.number ≤ k
above_all e [] least k is = absurd (cc)
above_all e (f ∷ fs) least k is =
    let parts = or_parts (is_lt (live_order f.1 e)) _ least in
    elim (or_cases (k == f.1.number) (has k (live_numbers fs)) is) [
      | inl first ↦ (let same = eqb-true k f.1.number first in let up = not_less f.1 e parts.0 in omega (arith, same, up))
      | inr later ↦ above_all e fs parts.1 k later
    ]

first_rising : (p : ℕ) (es : List (ℕ × LiveWork)) → IsAscending live_order es → IsFirst (λ n. has n (live_numbers es) && nat_lt p n) (find (nat_lt p) (live_numbers es))
first_rising p [] up = λ n is. absurd (cc)
first_rising p (e ∷ es) up = by (nat_lt p e.1.number) refl (first_rising p es up.1)
  where
    at_most : (n : ℕ) → (has n (live_numbers (e ∷ es)) && nat_lt p n) ≡ true → e.1.number ≤ n
    at_most n is = elim (or_cases (n == e.1.number) (has n (live_numbers es)) (and_parts _ _ is).0) [
      | inl first ↦ (let same = eqb-true n e.1.number first in omega (arith, same))
      | inr later ↦ above_all e.1 es up.0 n later
    ]

    other : nat_lt p e.1.number ≡ false → (n : ℕ) → (has n (live_numbers (e ∷ es)) && nat_lt p n) ≡ (has n (live_numbers es) && nat_lt p n)
    other fails n = first_fails (nat_lt p) e.1.number (live_numbers es) fails n

    by : (b : Bool) → nat_lt p e.1.number ≡ b → IsFirst (λ n. has n (live_numbers es) && nat_lt p n) (find (nat_lt p) (live_numbers es)) → IsFirst (λ n. has n (live_numbers (e ∷ es)) && nat_lt p n) (cond b (Some e.1.number) (find (nat_lt p) (live_numbers es)))
    by true passes rest = (ap₂ (λ a b. a && b) (has_first e.1.number (live_numbers es)) passes, at_most)
    by false fails rest = same_first (λ n. has n (live_numbers es) && nat_lt p n) (λ n. has n (live_numbers (e ∷ es)) && nat_lt p n) (other fails) (find (nat_lt p) (live_numbers es)) rest

-- ---- A walk that begins within the chain

-- the numbers up to one that is not above are passed over
passed : (p : ℕ) (a : List (ℕ × LiveWork)) (e : ℕ × LiveWork) (b : List (ℕ × LiveWork)) → IsAscending live_order (a ++ e ∷ b) → e.1.number ≤ p → find (nat_lt p) (live_numbers (e ∷ b)) ≡ find (nat_lt p) (live_numbers (a ++ e ∷ b))
passed p [] e b up low = refl
passed p (x ∷ xs) e b up low =
    passed p xs e b up.1 low
    ∙ sym (ap (λ t. cond t (Some x.1.number) (find (nat_lt p) (live_numbers (xs ++ e ∷ b)))) (not_above (above_all x.1 (xs ++ e ∷ b) up.0 e.1.number (has_there xs))))
  where
    has_there : (ys : List (ℕ × LiveWork)) → has e.1.number (live_numbers (ys ++ e ∷ b)) ≡ true
    has_there [] = has_first e.1.number (live_numbers b)
    has_there (y ∷ ys) = or_right (e.1.number == y.1.number) _ (has_there ys)

    not_above : x.1.number ≤ e.1.number → nat_lt p x.1.number ≡ false
    not_above up = grind (arith, up, low)

pub found_here : (p : ℕ) (e : ℕ × LiveWork) (b : List (ℕ × LiveWork)) → p < e.1.number → Some e.1.number ≡ find (nat_lt p) (live_numbers (e ∷ b))
found_here p e b above = sym (ap (λ t. cond t (Some e.1.number) (find (nat_lt p) (live_numbers b))) (by above))
  where
    by : p < e.1.number → nat_lt p e.1.number ≡ true
    by above = grind (arith, above)

pub passed_here : (p : ℕ) (e : ℕ × LiveWork) (b : List (ℕ × LiveWork)) → e.1.number ≤ p → find (nat_lt p) (live_numbers b) ≡ find (nat_lt p) (live_numbers (e ∷ b))
passed_here p e b low = sym (ap (λ t. cond t (Some e.1.number) (find (nat_lt p) (live_numbers b))) (by low))
  where
    by : e.1.number ≤ p → nat_lt p e.1.number ≡ false
    by low = grind (arith, low)

linked_there : (links : List (Spot LiveWork)) (c : ℕ) (a : List (ℕ × LiveWork)) (e : ℕ × LiveWork) (b : List (ℕ × LiveWork)) → AreLinked links c (a ++ e ∷ b) → link_of links e.0 ≡ Some (c, e.1)
linked_there links c [] e b linked = linked.0
linked_there links c (x ∷ xs) e b linked = linked_there links c xs e b linked.1

numbers_linked : (links : List (Spot LiveWork)) (c : ℕ) (es : List (ℕ × LiveWork)) → AreLinked links c es → map (λ e. number_at (λ (v : LiveWork). v.number) links e.0) es ≡ live_numbers es
numbers_linked links c [] linked = refl
numbers_linked links c (e ∷ es) linked = ap₂ (λ n ns. n ∷ ns) (ap (number_in_link (λ (v : LiveWork). v.number)) linked.0) (numbers_linked links c es linked.1)

module _ (links : List (Spot LiveWork)) (c : ℕ) (linked : AreLinked links c (entries links c)) where
  pub begins_there : (p n : ℕ) (v : LiveWork) → IsLinks links → IsAscending live_order (entries links c) → link_of links n ≡ Some (c, v) → v.number ≤ p → Walk (HasNext p (entries links c)) (entries links c) (Some (n, v))
  begins_there p n v sound up link low =
      let (a, (b, (w, is))) = split n (entries links c) (sound.listed n c v link).1 in
      let same : w ≡ v = (some_pair_parts c c w v (sym (linked_there links c a (n, w) b (subst (AreLinked links c) is linked)) ∙ link)).1 in
      record {
        front = a;
        back = (n, w) ∷ b;
        parts = is;
        next_is = ap (λ (x : LiveWork). Some (n, x)) (sym same);
        good = passed p a (n, w) b (subst (IsAscending live_order) is up) (subst (λ (x : LiveWork). x.number ≤ p) (sym same) low) ∙ ap (λ l. find (nat_lt p) (live_numbers l)) (sym is);
      }

  -- the node that a walk has come to has its value there
  pub walk_value : (Good : List (ℕ × LiveWork) → Type 0) (next : Option (ℕ × LiveWork)) (e : ℕ × LiveWork) → Walk Good (entries links c) next → next ≡ Some e → link_of links e.0 ≡ Some (c, e.1)
  walk_value Good next e walk is = by walk.back (sym walk.next_is ∙ is) walk.parts
    where
      by : (back : List (ℕ × LiveWork)) → head_of back ≡ Some e → entries links c ≡ walk.front ++ back → link_of links e.0 ≡ Some (c, e.1)
      by [] none parts = absurd (cc)
      by (x ∷ b) first parts = linked_there links c walk.front e b (subst (λ y. AreLinked links c (walk.front ++ y ∷ b)) (same_Some x e first) (subst (AreLinked links c) parts linked))

module _ (a : CoreParts) (sound : IsSoundCore a) where
  pub polled_filed : IsIndex (live_chain (bare (parts_of a))) a.polled (filings live_work a.works)
  unfolding IsSoundCore filings
  polled_filed = IsIndex-same (live_chain (bare (parts_of a))) a.polled _ sound.whole.chained.polled (filings live_work a.works) (λ r. sym (ap (said live_work r) (place_at-mapped (on_item bare_work) a.works r) ∙ by r (place_at a.works r)))
    where
      by : (r : ℕ) (o : Option (Placed (Single WorkRecord))) → said live_work r (placed_as (on_item bare_work) o) ≡ said live_work r o
      by r None = refl
      by r (Some p) = refl

  pub polled_live : (c : ℕ) → a.live ≡ Some c → IsSome (list_of a.polled c)
  polled_live c is = polled_filed.live tt c is

  pub chain_rises : (c : ℕ) → a.live ≡ Some c → Rises a.polled (Some c)
  unfolding IsSoundCore
  chain_rises c is = subst (Rises a.polled) is sound.whole.chained.rising

  is_key : (x : Stage) → live_key x ≡ Some tt → is_stage_live x ≡ true
  is_key x is = by (is_stage_live x) refl is
    where
      by : (b : Bool) → is_stage_live x ≡ b → live_key x ≡ Some tt → b ≡ true
      by true same is = refl
      by false same is = absurd (let none : live_key x ≡ None = ap (λ b. cond b (Some tt) None) same in let two = sym is ∙ none in cc)

  live_tests : Tests live_work work_key tt (λ (e : ℕ × Work). is_live e.1)
  live_tests = record {
    passes = λ rep serial e f says is_k. ((e.item.number, e.item.work), (refl, is_key e.item.work.stage (ap (λ (g : Filing (Unit {0}) LiveWork). g.key) (same_Some (record { node = e.item.live.index; key = live_key e.item.work.stage; value = live_value rep e.item }) f says) ∙ is_k)));
    filed = λ rep serial e x says is. (record { node = e.item.live.index; key = live_key e.item.work.stage; value = live_value rep e.item }, (refl, ap (λ b. cond b (Some tt) None) (ap (λ (y : ℕ × Work). is_live y.1) (same_Some (e.item.number, e.item.work) x says) ∙ is)));
  }

  reads : (r : ℕ) (p : Placed (Single WorkRecord)) (f : Filing (Unit {0}) LiveWork) (x : ℕ × Work) → place_at a.works r ≡ Some p → live_work r p.serial p.entry ≡ Some f → work_key p.entry ≡ Some x → f.value.number ≡ x.0
  reads r p f x at says key =
      ap (λ (g : Filing (Unit {0}) LiveWork). g.value.number) (sym (same_Some (record { node = p.entry.item.live.index; key = live_key p.entry.item.work.stage; value = live_value r p.entry.item }) f says))
      ∙ ap (λ (y : ℕ × Work). y.0) (same_Some (p.entry.item.number, p.entry.item.work) x key)

  -- a node of the chain has the number of the work at its place
  pub live_numbered : (c : ℕ) → a.live ≡ Some c → (n : ℕ) (v : LiveWork) → link_of a.polled n ≡ Some (c, v) → number_in (record_at work_key a.works.places v.place) ≡ v.number
  live_numbered c is n v link =
      let o = polled_filed.owner n c v link in
      let said = link_says (live_chain (bare (parts_of a))) a.polled (filings live_work a.works) polled_filed tt c is o.0 o.1.0 o.1.1.0 v (ap (link_of a.polled) o.1.1.1 ∙ link) in
      subst (λ w. number_in (record_at work_key a.works.places w.place) ≡ w.number) said.1 (by o.0 o.1.0 (place_at a.works o.0) refl o.1.1.0)
    where
      by : (r : ℕ) (f : Filing (Unit {0}) LiveWork) (q : Option (Placed (Single WorkRecord))) → place_at a.works r ≡ q → filings live_work a.works r ≡ Some f → number_in (record_at work_key a.works.places f.value.place) ≡ f.value.number
      by r f None at filed = absurd (let none = sym (filings_at live_work a.works r None at) ∙ filed in cc)
      by r f (Some q) at filed =
          subst (λ (g : Filing (Unit {0}) LiveWork). number_in (record_at work_key a.works.places g.value.place) ≡ g.value.number) (same_Some (record { node = q.entry.item.live.index; key = live_key q.entry.item.work.stage; value = live_value r q.entry.item }) f (sym (filings_at live_work a.works r (Some q) at) ∙ filed))
          (ap (λ o. number_in (key_in work_key o)) at)

  module _ (p : ℕ) where
    machine_first : IsFirst (λ k. passes_at (λ (e : ℕ × Work). is_live e.1) (records work_key a.works.places) k && nat_lt p k) (next_polled p (seen a).core)
    unfolding next_polled seen get
    machine_first = after_first p (records work_key a.works.places).list (records work_key a.works.places).sorted

    -- the first of the chain above p is polled next
    pub next_is : (c : ℕ) → a.live ≡ Some c → IsLinks a.polled → AreLinked a.polled c (entries a.polled c) → find (nat_lt p) (live_numbers (entries a.polled c)) ≡ next_polled p (seen a).core
    unfolding IsSoundCore
    next_is c is links linked =
        let members = IsMembers-walked live_work (live_chain (bare (parts_of a))) a.works a.polled polled_filed tt c is work_key (λ (e : ℕ × Work). is_live e.1) live_tests links sound.tables.works.apart (λ (v : LiveWork). v.number) reads in
        one_first (λ k. passes_at (λ (e : ℕ × Work). is_live e.1) (records work_key a.works.places) k && nat_lt p k) (find (nat_lt p) (live_numbers (entries a.polled c))) (next_polled p (seen a).core)
        (same_first (λ n. has n (live_numbers (entries a.polled c)) && nat_lt p n) (λ k. passes_at (λ (e : ℕ × Work). is_live e.1) (records work_key a.works.places) k && nat_lt p k)
        (λ n. ap (λ b. b && nat_lt p n) (sym (ap (has n) (sym (numbers_linked a.polled c (entries a.polled c) linked)) ∙ members.are n))) _
        (first_rising p (entries a.polled c) (chain_rises c is)))
        machine_first

    -- where the chain was not made there is no work
    pub none_polled : a.live ≡ None → None ≡ next_polled p (seen a).core
    unfolding IsSoundCore
    none_polled none = one_first (λ k. passes_at (λ (e : ℕ × Work). is_live e.1) (records work_key a.works.places) k && nat_lt p k) None (next_polled p (seen a).core) (λ k is. absurd (nobody k (get (records work_key a.works.places) k) refl is)) machine_first
      where
        nowhere : (r : ℕ) (x : ℕ × Work) (o : Option (Placed (Single WorkRecord))) → place_at a.works r ≡ o → key_in work_key o ≡ Some x → ⊥
        nowhere r x None at is = absurd (cc)
        nowhere r x (Some q) at is = let some = (sound.whole.counted.works r _ (place_mapped (on_item bare_work) a.works r q at)).1 in let no = subst IsSome none some in absurd (cc)

        nobody : (k : ℕ) (o : Option Work) → get (records work_key a.works.places) k ≡ o → (passes_in (λ (e : ℕ × Work). is_live e.1) k (get (records work_key a.works.places) k) && nat_lt p k) ≡ true → ⊥
        nobody k None at is = absurd (let off = ap (λ o. passes_in (λ (e : ℕ × Work). is_live e.1) k o && nat_lt p k) at in let two = sym is ∙ off in cc)
        nobody k (Some w) at is = let one = record_found work_key a.works.places k w (sym (get-records work_key a.works.places k) ∙ at) in nowhere one.0 (k, w) (place_at a.works one.0) refl one.1
