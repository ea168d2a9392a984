-- The threads of a chain of places are in the order of their places in the resource table.
use Rattle.core_records.proofs.Core.{[], ap, ap₂, bare, Bool, cond, Each, false, Filing, filings, filings_at, filter, IsAscending, IsSoundCore, key_in, link_of, List, map, None, number_in, number_in_link, Option, option_and_then, option_map, parts_of, place_at, place_chain, place_filing, refl, same_Some, Some, sym, thread_key, true, Where, where_at, ℕ, ◌∙◌, ◌∷◌, ◌≡◌}
use Rattle.std.proofs.lemmas.Bool.{or_parts}
use Rattle.core_records.specs.declared.{parts.CoreParts.CoreParts, single.Single.Single, thread_records.GuestThread.GuestThread}
use Rattle.std.specs.Ordering.{is_lt}
use Rattle.core_places.proofs.FiledLemmas.{places_filed}
use Rattle.core_places.proofs.FirstLemmas.{thread_front}
use Rattle.core_queues.proofs.BareLemmas.{one_place}
use Rattle.table_lists.specs.OrderKeys.{order_key_order}
use Rattle.table_lists.specs.declared.ordered_lists.OrderKey.{OrderKey}
use Rattle.table_links.specs.Links.{AreLinked}
use Rattle.core_records.specs.RecordPlaces.{thread_order_key}
use Rattle.task_table.specs.Table.{Placed as Standing}
use Rattle.task_wait.specs.Sets.{IsLeast}
use Rattle.core_removals.specs.Order.{AreInOrder, NotBefore}
use Rattle.core_removals.specs.Walks.{at_place, at_order_key, of_node}

-- each node of the list is in some chain with its order key
abbrev pub AreKeyed : CoreParts → List (ℕ × OrderKey) → Type 0
AreKeyed a [] = Unit {0}
AreKeyed a (e ∷ es) = ((c : ℕ) × (link_of a.places e.0 ≡ Some (c, e.1))) × AreKeyed a es

module _ (a : CoreParts) (sound : IsSoundCore a) where
  -- a link's order key is that of the thread with the number at its place
  order_key_here : (node c : ℕ) (v : OrderKey) → link_of a.places node ≡ Some (c, v) → (r : ℕ) (q : Standing (Single GuestThread)) → place_at a.threads r ≡ Some q → q.entry.item.number ≡ at_place a v.place → thread_order_key a.version r q.entry.item ≡ v
  unfolding IsSoundCore
  order_key_here node c v link r q there number = by o.0 o.1.0 o.1.1.0 o.1.1.1 (place_at a.threads o.0) refl
    where
      o : (s : ℕ) × ((f : Filing Where OrderKey) × ((filings (place_filing a.version) a.threads s ≡ Some f) × (f.node ≡ node)))
      o = (places_filed a sound).owner node c v link

      value : (f : Filing Where OrderKey) (x : Option ℕ) → option_map {U = ℕ × OrderKey} (λ d. (d, f.value)) x ≡ Some (c, v) → f.value ≡ v
      value f None same = absurd (cc)
      value f (Some d) same = ap (λ (y : ℕ × OrderKey). y.1) (same_Some (d, f.value) (c, v) same)

      by : (s : ℕ) (f : Filing Where OrderKey) → filings (place_filing a.version) a.threads s ≡ Some f → f.node ≡ node → (p : Option (Standing (Single GuestThread))) → place_at a.threads s ≡ p → thread_order_key a.version r q.entry.item ≡ v
      by s f filed at None here = absurd (let none = sym (filings_at (place_filing a.version) a.threads s None here) ∙ filed in cc)
      by s f filed at (Some p) here =
          let says = same_Some (record { node = p.entry.item.node.index; key = where_at p.entry.item.instance p.entry.item.barred p.entry.item.thread.place; value = thread_order_key a.version s p.entry.item }) f (sym (filings_at (place_filing a.version) a.threads s (Some p) here) ∙ filed) in
          let is_value : f.value ≡ v = value f (option_and_then (place_chain (bare (parts_of a))) f.key) (sym ((places_filed a sound).has_link s f filed) ∙ (ap (link_of a.places) at ∙ link)) in
          let order_key : thread_order_key a.version s p.entry.item ≡ v = ap (λ (x : Filing Where OrderKey). x.value) says ∙ is_value in
          let place : s ≡ v.place = ap (λ (x : OrderKey). x.place) order_key in
          let same_number : p.entry.item.number ≡ q.entry.item.number = sym (number ∙ (ap (at_place a) (sym place) ∙ ap (λ o. number_in (key_in thread_key o)) here)) in
          let same : s ≡ r = one_place (λ (x : GuestThread). x.number) (λ (x : GuestThread). x.thread) a.threads a.made.threads sound.tables.threads s r p q here there same_number in
          let entry : p ≡ q = same_Some p q (sym here ∙ (ap (place_at a.threads) same ∙ there)) in
          sym (ap₂ (λ i (x : Standing (Single GuestThread)). thread_order_key a.version i x.entry.item) same entry) ∙ order_key

  number_is : (c : ℕ) (e : ℕ × OrderKey) → link_of a.places e.0 ≡ Some (c, e.1) → of_node a e.0 ≡ at_place a e.1.place
  number_is c e link = ap (number_in_link (at_order_key a)) link

  -- one that is later, of whatever chain, doesn't come before
  not_before : (c d : ℕ) (e k : ℕ × OrderKey) → link_of a.places e.0 ≡ Some (c, e.1) → link_of a.places k.0 ≡ Some (d, k.1) → is_lt (order_key_order k.1 e.1) ≡ false → NotBefore a (of_node a e.0) (of_node a k.0)
  not_before c d e k e_link k_link off r q there is_e s p here is_k =
      let one = order_key_here e.0 c e.1 e_link r q there (is_e ∙ number_is c e e_link) in
      let two = order_key_here k.0 d k.1 k_link s p here (is_k ∙ number_is d k k_link) in
      thread_front a.version s r p.entry.item q.entry.item (ap₂ (λ x y. is_lt (order_key_order x y)) two one ∙ off)

  pub keyed_in_order : (l : List (ℕ × OrderKey)) → AreKeyed a l → IsAscending order_key_order l → AreInOrder a (map (λ e. of_node a e.0) l)
  keyed_in_order [] keyed up = tt
  keyed_in_order (e ∷ es) keyed up = (after es keyed.1 up.0, keyed_in_order es keyed.1 up.1)
    where
      after : (ks : List (ℕ × OrderKey)) → AreKeyed a ks → IsLeast order_key_order e.1 ks → Each (NotBefore a (of_node a e.0)) (map (λ k. of_node a k.0) ks)
      after [] more least = tt
      after (k ∷ ks) more least =
          let two = or_parts (is_lt (order_key_order k.1 e.1)) _ least in
          (not_before keyed.0.0 more.0.0 e k keyed.0.1 more.0.1 two.0, after ks more.1 two.1)

  pub keyed_chain : (c : ℕ) (l : List (ℕ × OrderKey)) → AreLinked a.places c l → AreKeyed a l
  keyed_chain c [] linked = tt
  keyed_chain c (e ∷ es) linked = ((c, linked.0), keyed_chain c es linked.1)

  pub chain_in_order : (c : ℕ) (l : List (ℕ × OrderKey)) → AreLinked a.places c l → IsAscending order_key_order l → AreInOrder a (map (λ e. of_node a e.0) l)
  chain_in_order c l linked up = keyed_in_order l (keyed_chain c l linked) up

-- those of the list that pass are in the same order
module _ (a : CoreParts) (test : ℕ → Bool) where
  each_filter : (n : ℕ) (ms : List ℕ) → Each (NotBefore a n) ms → Each (NotBefore a n) (filter test ms)
  each_filter n [] all = tt
  each_filter n (m ∷ ms) all = by (test m) (each_filter n ms all.1)
    where
      by : (b : Bool) → Each (NotBefore a n) (filter test ms) → Each (NotBefore a n) (cond b (m ∷ filter test ms) (filter test ms))
      by true rest = (all.0, rest)
      by false rest = rest

  pub order_filter : (ns : List ℕ) → AreInOrder a ns → AreInOrder a (filter test ns)
  order_filter [] order = tt
  order_filter (n ∷ ns) order = by (test n) (each_filter n ns order.0) (order_filter ns order.1)
    where
      by : (b : Bool) → Each (NotBefore a n) (filter test ns) → AreInOrder a (filter test ns) → AreInOrder a (cond b (n ∷ filter test ns) (filter test ns))
      by true each rest = (each, rest)
      by false each rest = rest
