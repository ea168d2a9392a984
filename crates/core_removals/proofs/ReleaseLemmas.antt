-- A release, thread by thread: who was put at high leaves the others as they were.
use Rattle.core_records.proofs.Core.{[], admits, ap, ap₂, arith, bare, Bool, Call, cond, Core, entries, Entry, eq-eqb, Err, ExportKind, false, Filing, filings, filings_at, filter, following, get, get-change_other, has, held_why, held_why_of, In, inl, inr, Instance, instance_of, is_at_high, is_at_low, is_entry_of, is_held_admitted, is_held_in, is_some, is_sync, IsLinks, IsSome, IsSoundCore, IsUnqueued, item_at, item_of, key_in, link_of, List, map, Mark, ne_eqb, no_callee, None, not, number_in, number_in_link, Ok, on_core, on_thread, Once, one_if, Option, option_and_then, option_map, option_map_or, parts_of, Place, place_at, place_chain, place_filing, place_of, push_high, put_high, refl, released, released_one, removed, ResourceTableError, Result, same_Some, says, seen, set_place, Some, Spot, stand, StateView, subst, suc, sym, TableId, task_of, Thread, thread_key, thread_of, ThreadKey, true, Where, where_at, Why, with_core, zero, ℕ, ◌&&◌, ◌++◌, ◌+◌, ◌<◌, ◌==◌, ◌||◌, ◌∙◌, ◌∷◌, ◌≡◌}
use Rattle.std.proofs.lemmas.Bool.{or_right}
use Rattle.core_records.specs.declared.{parts.CoreParts.CoreParts, single.Single.Single, thread_records.GuestThread.GuestThread}
use Rattle.machine_rules.specs.Places.{Placed}
use Rattle.core_records.proofs.HomeLemmas.{no_thread}
use Rattle.core_records.proofs.KindLemmas.{item_stands}
use Rattle.core_records.proofs.ReadLemmas.{thread_named, thread_unnamed}
use Rattle.machine_rules.specs.Places as placing
use Rattle.task_table.specs.Table.{Placed as Standing}
use Rattle.core_places.proofs.FiledLemmas.{places_filed}
use Rattle.core_queues.proofs.BareLemmas.{one_place}
use Rattle.core_removals.proofs.WalkLemmas.{out_others, out_smaller, walk_more, walk_out, walk_smaller}
use Rattle.core_removals.specs.Held.{AreHeldUnqueued, IsUntouched, Releases, is_admitted}
use Rattle.core_removals.specs.Walks.{Walk, at_place, at_order_key, left_from, of_node}
use Rattle.table_lists.specs.declared.ordered_lists.OrderKey.{OrderKey}
use Rattle.core_records.specs.RecordPlaces.{thread_order_key}

-- ---- Admission looks at the thread's record, at calls and at instances

module _ (i n : ℕ) (s t : Core) (thread : get t.threads n ≡ get s.threads n) (calls : t.calls ≡ s.calls) (instances : t.instances ≡ s.instances) where
  same_task : task_of n t ≡ task_of n s
  same_task = ap (λ o. option_map_or (λ (x : Thread). x.call) o 0) thread

  pub same_instance : instance_of n t ≡ instance_of n s
  same_instance = ap₂ (λ k m. (option_map_or (λ (c : Call). c.callee) (get m k) no_callee).instance) same_task calls

  may : not (option_map_or (λ (r : Instance). r.do_not_enter) (get t.instances (instance_of n t)) false) ≡ not (option_map_or (λ (r : Instance). r.do_not_enter) (get s.instances (instance_of n s)) false)
  may = ap₂ (λ k m. not (option_map_or (λ (r : Instance). r.do_not_enter) (get m k) false)) same_instance instances

  admits_same : (w : Why) → admits n t w ≡ admits n s w
  admits_same Why.Start =
      ap₂ (λ a b. a || b) (ap (λ o. option_map_or (λ (x : Thread). x.explicit) o false) thread)
      (ap₂ (λ a b. a || b) (ap₂ (λ k m. is_sync (option_map_or (λ (c : Call). c.kind) (get m k) ExportKind.Callback)) same_task calls)
      (ap₂ (λ a b. a && b) may (ap₂ (λ k m. option_map_or (λ (r : Instance). r.backpressure) (get m k) 0 == 0) same_instance instances)))
  admits_same (Why.Delivery d) = may
  admits_same Why.Resumption = refl

  pub same_held : held_why_of n t ≡ held_why_of n s
  same_held = ap (λ o. option_and_then held_why (option_map (λ (x : Thread). x.place) o)) thread

  pub same_admitted : is_admitted i t n ≡ is_admitted i s n
  same_admitted = ap (is_held_admitted i t n) same_held ∙ by (held_why_of n s)
    where
      by : (o : Option Why) → is_held_admitted i t n o ≡ is_held_admitted i s n o
      by None = refl
      by (Some w) = ap₂ (λ k b. (k == i) && b) same_instance (admits_same w)

-- who is admitted is held
pub admitted_held : (i n : ℕ) (s : Core) → is_admitted i s n ≡ true → (w : Why) × (held_why_of n s ≡ Some w)
admitted_held i n s is = by (held_why_of n s) refl is
  where
    by : (o : Option Why) → held_why_of n s ≡ o → is_held_admitted i s n o ≡ true → (w : Why) × (held_why_of n s ≡ Some w)
    by None at is = absurd (cc)
    by (Some w) at is = (w, at)

-- who is held has no entry
pub held_unqueued : (i n : ℕ) (s : Core) → Placed s → is_held_in i s n ≡ true → IsUnqueued n s
held_unqueued i n s placed is = by (place_of n s) refl (second _ _ is)
  where
    second : (b c : Bool) → (b && c) ≡ true → c ≡ true
    second true c is = is
    second false c is = absurd (cc)

    by : (o : Option Place) → place_of n s ≡ o → is_some (option_and_then held_why o) ≡ true → IsUnqueued n s
    by (Some (Place.Held w)) at held = record { high = (placed n).high ∙ ap (says is_at_high) at; low = (placed n).low ∙ ap (says is_at_low) at }
    by None at held = absurd (cc)
    by (Some Place.New) at held = absurd (cc)
    by (Some (Place.Ready m w)) at held = absurd (cc)
    by (Some Place.Running) at held = absurd (cc)
    by (Some (Place.Under m)) at held = absurd (cc)
    by (Some (Place.Behind m)) at held = absurd (cc)
    by (Some (Place.Waiting x b)) at held = absurd (cc)
    by (Some (Place.Blocked sub)) at held = absurd (cc)
    by (Some Place.Suspended) at held = absurd (cc)

pub some_why : (o : Option Why) → IsSome o → (w : Why) × (o ≡ Some w)
some_why None some = absurd (cc)
some_why (Some w) some = (w, refl)

-- ---- One is put at high

module _ (s t : StateView) (id : TableId ThreadKey) (w : Why) (is : t ≡ on_core (stand (thread_of s id) Mark.High w) s) where
  pub stood_same : thread_of t id ≡ thread_of s id
  stood_same = ap (λ v. thread_of v id) is

  pub stood_unqueued : IsUnqueued (thread_of s id) s.core → IsUnqueued (thread_of t id) t.core
  unfolding set_place on_thread
  stood_unqueued was = subst (λ (v : StateView). IsUnqueued (thread_of v id) v.core) (sym is) (record { high = was.high; low = was.low })

pushed_other : (m n : ℕ) (es : List Entry) → (m ≡ n → ⊥) → placing.entries m (es ++ Entry.Thread n ∷ []) ≡ placing.entries m es
pushed_other m n [] other = ap (λ b. one_if b + 0) (ne_eqb m n other)
pushed_other m n (e ∷ es) other = ap (λ k. one_if (is_entry_of m e) + k) (pushed_other m n es other)

pub put_others : (m n : ℕ) (w : Why) (s t : Core) → (m ≡ n → ⊥) → IsUntouched m s t → IsUntouched m s (put_high n w t)
unfolding put_high push_high set_place on_thread
put_others m n w s t other was = record {
  thread = get-change_other t.threads n (λ (x : Thread). record x { place = Place.Ready Mark.High w }) m other ∙ was.thread;
  unqueued = record { high = pushed_other m n t.queues.high other ∙ was.unqueued.high; low = was.unqueued.low };
}

pub put_calls : (n : ℕ) (w : Why) (t : Core) → (put_high n w t).calls ≡ t.calls
unfolding put_high push_high set_place on_thread
put_calls n w t = refl

pub put_instances : (n : ℕ) (w : Why) (t : Core) → (put_high n w t).instances ≡ t.instances
unfolding put_high push_high set_place on_thread
put_instances n w t = refl

-- ---- The walk

module _ {P : Type 0} (i : ℕ) (s : StateView) (all : List ℕ) (a : CoreParts) where
  abbrev numbers : CoreParts → List (ℕ × P) → List ℕ
  numbers b left = map (λ e. of_node b e.0) left

  module _ (e : ℕ × P) (l : List (ℕ × P)) (was : Releases i s all a (e ∷ l)) where
    here_untouched : IsUntouched (of_node a e.0) s.core (seen a).core
    here_untouched = was.untouched (of_node a e.0) (ap (λ b. b || has (of_node a e.0) (numbers a l)) (eq-eqb (of_node a e.0) (of_node a e.0) refl))

    pub admitted_is : is_admitted i (seen a).core (of_node a e.0) ≡ is_admitted i s.core (of_node a e.0)
    admitted_is = same_admitted i (of_node a e.0) s.core (seen a).core here_untouched.thread was.calls was.instances

    later : (n : ℕ) → has n (numbers a l) ≡ true → IsUntouched n s.core (seen a).core
    later n there = was.untouched n (or_right (n == of_node a e.0) (has n (numbers a l)) there)

    pub next_unqueued : IsUnqueued (of_node a e.0) (seen a).core
    next_unqueued = here_untouched.unqueued

    -- one that is not admitted stays
    pub step_stays : is_admitted i (seen a).core (of_node a e.0) ≡ false → Releases i s all a l
    step_stays off = record {
      again = ap (λ t. on_core (released (cond t (of_node a e.0 ∷ filter (is_admitted i s.core) (numbers a l)) (filter (is_admitted i s.core) (numbers a l)))) (seen a)) (sym (sym admitted_is ∙ off)) ∙ was.again;
      calls = was.calls;
      instances = was.instances;
      once = was.once.1;
      untouched = later;
    }

    -- one that is admitted is put at high
    module _ (b : CoreParts) (w : Why) (held : held_why_of (of_node a e.0) (seen a).core ≡ Some w) (puts : seen b ≡ on_core (put_high (of_node a e.0) w) (seen a)) (same : numbers b l ≡ numbers a l) where
      again_there : on_core (released (filter (is_admitted i s.core) (numbers a l))) (on_core (put_high (of_node a e.0) w) (seen a)) ≡ on_core (released (of_node a e.0 ∷ filter (is_admitted i s.core) (numbers a l))) (seen a)
      unfolding released
      again_there = ap (λ o. with_core (released (filter (is_admitted i s.core) (numbers a l)) (released_one (of_node a e.0) o (seen a).core)) (seen a)) (sym held)

      differs : (n : ℕ) → has n (numbers a l) ≡ true → n ≡ of_node a e.0 → ⊥
      differs n there is = absurd (let once = was.once.0 in let two : has (of_node a e.0) (numbers a l) ≡ true = subst (λ k. has k (numbers a l) ≡ true) is there in cc)

      pub step_puts : is_admitted i (seen a).core (of_node a e.0) ≡ true → Releases i s all b l
      step_puts on = record {
        again =
            ap₂ (λ ns v. on_core (released (filter (is_admitted i s.core) ns)) v) same puts
            ∙ (again_there
            ∙ (ap (λ t. on_core (released (cond t (of_node a e.0 ∷ filter (is_admitted i s.core) (numbers a l)) (filter (is_admitted i s.core) (numbers a l)))) (seen a)) (sym (sym admitted_is ∙ on)) ∙ was.again));
        calls = ap (λ (v : StateView). v.core.calls) puts ∙ (put_calls (of_node a e.0) w (seen a).core ∙ was.calls);
        instances = ap (λ (v : StateView). v.core.instances) puts ∙ (put_instances (of_node a e.0) w (seen a).core ∙ was.instances);
        once = subst Once (sym same) was.once.1;
        untouched = λ n there.
            let before = sym (ap (has n) same) ∙ there in
            subst (λ (v : StateView). IsUntouched n s.core v.core) (sym puts) (put_others n (of_node a e.0) w s.core (seen a).core (differs n before) (later n before));
      }

-- the walk begins
pub release_begins : {P : Type 0} (i : ℕ) (a : CoreParts) (left : List (ℕ × P)) → AreHeldUnqueued i (seen a).core → Once (map (λ e. of_node a e.0) left) → ((n : ℕ) → has n (map (λ e. of_node a e.0) left) ≡ true → is_held_in i (seen a).core n ≡ true) → Releases i (seen a) (map (λ e. of_node a e.0) left) a left
release_begins i a left free once held = record {
  again = refl;
  calls = refl;
  instances = refl;
  once = once;
  untouched = λ n there. record { thread = refl; unqueued = free n (held n there) };
}

-- the numbers of the nodes that are left stay, where another one left
pub names_same : {P : Type 0} (a b : CoreParts) (node : ℕ) → ((r : ℕ) → at_place b r ≡ at_place a r) → ((n : ℕ) → (n ≡ node → ⊥) → link_of b.places n ≡ link_of a.places n) → (left : List (ℕ × P)) → (In node left → ⊥) → map (λ e. of_node b e.0) left ≡ map (λ e. of_node a e.0) left
names_same a b node places links [] out = refl
names_same a b node places links (e ∷ es) out = ap₂ (λ n (ns : List ℕ). n ∷ ns) (ap (number_in_link (at_order_key b)) (links e.0 (λ is. out (inl (sym is)))) ∙ by (link_of a.places e.0)) (names_same a b node places links es (λ i. out (inr i)))
  where
    by : (o : Option (ℕ × OrderKey)) → number_in_link (at_order_key b) o ≡ number_in_link (at_order_key a) o
    by None = refl
    by (Some k) = places k.1.place

-- ---- The node of a thread

module _ (a : CoreParts) (sound : IsSoundCore a) (c node : ℕ) (v : OrderKey) (link : link_of a.places node ≡ Some (c, v)) (id : TableId ThreadKey) (g : GuestThread) (is : Ok g ≡ item_at item_of a.threads id.rep id.serial) (named : g.number ≡ of_node a node) where
  pub own_node : g.node.index ≡ node
  unfolding IsSoundCore
  own_node = by o.0 o.1.0 o.1.1.0 o.1.1.1 (place_at a.threads o.0) refl
    where
      o : (r : ℕ) × ((f : Filing Where OrderKey) × ((filings (place_filing a.version) a.threads r ≡ Some f) × (f.node ≡ node)))
      o = (places_filed a sound).owner node c v link

      value : (f : Filing Where OrderKey) (x : Option ℕ) → option_map {U = ℕ × OrderKey} (λ d. (d, f.value)) x ≡ Some (c, v) → f.value ≡ v
      value f None same = absurd (cc)
      value f (Some d) same = ap (λ (y : ℕ × OrderKey). y.1) (same_Some (d, f.value) (c, v) same)

      by : (r : ℕ) (f : Filing Where OrderKey) → filings (place_filing a.version) a.threads r ≡ Some f → f.node ≡ node → (q : Option (Standing (Single GuestThread))) → place_at a.threads r ≡ q → g.node.index ≡ node
      by r f filed at None there = absurd (let none = sym (filings_at (place_filing a.version) a.threads r None there) ∙ filed in cc)
      by r f filed at (Some q) there =
          let says = same_Some (record { node = q.entry.item.node.index; key = where_at q.entry.item.instance q.entry.item.barred q.entry.item.thread.place; value = thread_order_key a.version r q.entry.item }) f (sym (filings_at (place_filing a.version) a.threads r (Some q) there) ∙ filed) in
          let is_value : f.value ≡ v = value f (option_and_then (place_chain (bare (parts_of a))) f.key) (sym ((places_filed a sound).has_link r f filed) ∙ (ap (link_of a.places) at ∙ link)) in
          let place : r ≡ v.place = ap (λ (x : Filing Where OrderKey). x.value.place) says ∙ ap (λ (s : OrderKey). s.place) is_value in
          let number : q.entry.item.number ≡ of_node a node = sym (ap (number_in_link (at_order_key a)) link ∙ (ap (at_place a) (sym place) ∙ ap (λ o. number_in (key_in thread_key o)) there)) in
          let one = item_stands (λ (x : GuestThread). x.number) (λ (x : GuestThread). x.thread) a.threads a.made.threads sound.tables.threads id.rep id.serial g is in
          let own : one.0.entry.item.number ≡ q.entry.item.number = ap (λ (e : Single GuestThread). e.item.number) one.1.1.1 ∙ (named ∙ sym number) in
          let same : id.rep ≡ r = one_place (λ (x : GuestThread). x.number) (λ (x : GuestThread). x.thread) a.threads a.made.threads sound.tables.threads id.rep r one.0 q one.1.0 there own in
          let entry : one.0 ≡ q = same_Some one.0 q (sym one.1.0 ∙ (ap (place_at a.threads) same ∙ there)) in
          sym (ap (λ (e : Single GuestThread). e.item.node.index) one.1.1.1) ∙ (ap (λ (p : Standing (Single GuestThread)). p.entry.item.node.index) entry ∙ (ap (λ (x : Filing Where OrderKey). x.node) says ∙ at))

-- a thread that is held is there
pub held_positive : (a : CoreParts) → IsSoundCore a → (n : ℕ) → IsSome (held_why_of n (seen a).core) → 0 < n
held_positive a sound n held = by n held
  where
    none_there : held_why_of 0 (seen a).core ≡ None
    none_there = ap (λ o. option_and_then held_why (option_map (λ (x : Thread). x.place) o)) (no_thread a sound)

    by : (n : ℕ) → IsSome (held_why_of n (seen a).core) → 0 < n
    by zero is = absurd (let two = sym is ∙ ap is_some none_there in cc)
    by (suc m) is = omega arith

-- what leaves with the node of a thread leaves with the node that represents it
pub leaves : (a : CoreParts) → IsSoundCore a → (id : TableId ThreadKey) → 0 < thread_of (seen a) id → (node : ℕ) → IsSome (link_of a.places node) → thread_of (seen a) id ≡ of_node a node → (new : List (Spot OrderKey)) → ((g : GuestThread) → Ok g ≡ item_at item_of a.threads id.rep id.serial → new ≡ removed g.node.index a.places) → new ≡ removed node a.places
leaves a sound id live node linked named new takes = by (item_at item_of a.threads id.rep id.serial) refl (link_of a.places node) refl linked
  where
    by : (o : Result GuestThread ResourceTableError) → o ≡ item_at item_of a.threads id.rep id.serial → (l : Option (ℕ × OrderKey)) → link_of a.places node ≡ l → IsSome l → new ≡ removed node a.places
    by o is None link some = absurd (cc)
    by (Err e) is (Some k) link some = absurd (let zero = thread_unnamed a id e is in omega (arith, live, zero))
    by (Ok g) is (Some k) link some = takes g is ∙ ap (λ n. removed n a.places) (own_node a sound k.0 node k.1 link id g is (thread_named a id g is ∙ named))

-- ---- A step of the walk

module _ (i : ℕ) (s : StateView) (all : List ℕ) (a : CoreParts) (links : IsLinks a.places) (c : ℕ) (next : Option (ℕ × OrderKey)) (e : ℕ × OrderKey) (walk : Walk (Releases i s all a) (entries a.places c) next) (is : next ≡ Some e) (other : Option (ℕ × OrderKey)) (other_is : other ≡ following e.0 a.places) (b : CoreParts) (stays : is_admitted i (seen a).core (of_node a e.0) ≡ false → b ≡ a) where
  pub kept_smaller : is_admitted i (seen a).core (of_node a e.0) ≡ false → left_from other (entries b.places c) < left_from next (entries a.places c)
  kept_smaller off = subst (λ (x : CoreParts). left_from other (entries x.places c) < left_from next (entries a.places c)) (sym (stays off)) (walk_smaller (Releases i s all a) a.places c links next e walk is other other_is)

  module _ (left : is_admitted i (seen a).core (of_node a e.0) ≡ true → b.places ≡ removed e.0 a.places) where
    pub release_smaller : left_from other (entries b.places c) < left_from next (entries a.places c)
    release_smaller = by (is_admitted i (seen a).core (of_node a e.0)) refl
      where
        by : (t : Bool) → is_admitted i (seen a).core (of_node a e.0) ≡ t → left_from other (entries b.places c) < left_from next (entries a.places c)
        by true on = out_smaller (Releases i s all a) a.places c links next e walk is other other_is b.places (left on)
        by false off = kept_smaller off

    module _ (puts : is_admitted i (seen a).core (of_node a e.0) ≡ true → (w : Why) → held_why_of (of_node a e.0) (seen a).core ≡ Some w → seen b ≡ on_core (put_high (of_node a e.0) w) (seen a)) (places : (r : ℕ) → at_place b r ≡ at_place a r) where
      pub release_step : Walk (Releases i s all b) (entries b.places c) other
      release_step = by (is_admitted i (seen a).core (of_node a e.0)) refl
        where
          by : (t : Bool) → is_admitted i (seen a).core (of_node a e.0) ≡ t → Walk (Releases i s all b) (entries b.places c) other
          by true on =
              let one = admitted_held i (of_node a e.0) (seen a).core on in
              walk_out (Releases i s all a) a.places c links next e walk is other other_is b.places (left on) (Releases i s all b)
              (λ l out was. step_puts i s all a e l was b one.0 one.1 (puts on one.0 one.1) (names_same a b e.0 places (out_others (Releases i s all a) a.places c links next e walk is other other_is b.places (left on)) l out) on)
          by false off = subst (λ (x : CoreParts). Walk (Releases i s all x) (entries x.places c) other) (sym (stays off)) (walk_more (Releases i s all a) a.places c links next e walk is other other_is (Releases i s all a) (λ l was. step_stays i s all a e l was off))

-- nothing is left
pub release_ends : {P : Type 0} (i : ℕ) (s : StateView) (all : List ℕ) (a : CoreParts) → Releases {P = P} i s all a [] → seen a ≡ on_core (released (filter (is_admitted i s.core) all)) s
unfolding released
release_ends i s all a was = was.again
