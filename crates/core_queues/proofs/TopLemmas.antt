-- What is first at a mark, and of an instance there.
use Rattle.core_records.proofs.Core.{[], ap, bare, bare_thread, bare_work, Bool, chained, cond, Each, Entry, entry_thread, eq-eqb, eqb-true, false, filter, first_entry, first_in, first_low, first_of, found_here, High, IfSome, inl, inr, instance_of, is_entry_in, is_number, is_of_instance, IsKeyed, IsSome, IsSoundCore, IsWhole, item_at, item_in, item_of, key_in, List, list_of, loose_work, Low, map, Mark, next_entry, None, number_in, Ok, on_item, Option, option_and_then, option_map, or_first, or_high, part, CoreImage, parts_of, record_at, refl, Row, row, row_chain, same_Some, seen, instance_queue_chain, instance_queue_in, slice_get, Some, subst, sym, TableId, thread_entry, thread_key, ThreadKey, true, unmoved, values_are, work_key, ℕ, ◌<◌, ◌∙◌, ◌∷◌, ◌≡◌}
use Rattle.std.specs.List.{find}
use Rattle.table_lists.specs.Rows.{values, with_nodes}
use Rattle.table_links.specs.Links.{entries, head_of}
use Rattle.table_links.specs.declared.links.Node.{Node}
use Rattle.core_records.specs.declared.{instance_records.InstanceRecord.InstanceRecord, parts.CoreParts.CoreParts, single.Single.Single, thread_records.Follower.Follower, thread_records.GuestThread.GuestThread, thread_records.Queued.Queued}
use Rattle.core_records.proofs.HomeLemmas.{thread_instance}
use Rattle.core_records.proofs.ReadLemmas.{thread_named}
use Rattle.core_records.proofs.TableLemmas.{number_at_mapped}
use Rattle.core_queues.specs.OrderKeys.{OfThread, is_entry_of_work, top}
use Rattle.core_queues.proofs.BareLemmas.{mapped_place, instance_queue_bare, thread_number_here, thread_number_positive}
use Rattle.core_queues.proofs.ListLemmas.{find-known, find-none, find-some}
use Rattle.core_queues.proofs.PushLemmas.{instance_unchecked}
use Rattle.core_queues.proofs.RowLemmas.{of_some_instance, row_known, instance_queue_threads}
use Rattle.core_queues.proofs.OrderKeyLemmas.{order_key_of, threads_own}
use Rattle.core_queues.proofs.SeenLemmas.{row_seen}

-- the first of a part is what is found
top-filter : {P : Type 0} (t : P → Bool) (xs : List P) → top (filter t xs) ≡ find t xs
top-filter t [] = refl
top-filter {P} t (x ∷ xs) = by (t x) (top-filter t xs)
  where
    by : (b : Bool) → top (filter t xs) ≡ find t xs → top (cond b (x ∷ filter t xs) (filter t xs)) ≡ cond b (Some x) (find t xs)
    by true rest = refl
    by false rest = rest

pub top-map : {P Q : Type 0} (f : P → Q) (xs : List P) → top (map f xs) ≡ option_map f (top xs)
top-map f [] = refl
top-map f (x ∷ xs) = refl

pub top-known : {P : Type 0} (Known : P → Type 0) (xs : List P) (x : P) → Each Known xs → Some x ≡ top xs → Known x
top-known Known [] x all is = absurd (cc)
top-known Known (y ∷ ys) x all is = subst Known (sym (same_Some x y is)) all.0

-- the first that is by the node that it names
pub marked_top : (xs : List Queued) (m : Node) (q : Queued) → Some (m.index, q) ≡ head_of (with_nodes (λ (x : Queued). x.mark.index) xs) → Some (record q { mark = m }) ≡ top xs
marked_top [] m q is = absurd (cc)
marked_top (x ∷ xs) m q is = by (same_Some {A = ℕ × Queued} (m.index, q) (x.mark.index, x) is)
  where
    by : ◌≡◌ {A = ℕ × Queued} (m.index, q) (x.mark.index, x) → Some (record q { mark = m }) ≡ Some x
    by e =
        ap (λ (y : Queued). Some (record y { mark = m })) (ap (λ (p : ℕ × Queued). p.1) e)
        ∙ ap (λ (i : ℕ). Some (record x { mark = record { index = i } })) (ap (λ (p : ℕ × Queued). p.0) e)

no_work_of : (i : ℕ) (e : Entry) (n : ℕ) → e ≡ Entry.Thread n → is_entry_of_work i e ≡ true → ⊥
no_work_of i e n is work = absurd (let two = sym (ap (is_entry_of_work i) is) ∙ work in cc)

first_is : (m : Mark) (es : List Entry) (o : Option Entry) → top es ≡ o → first_of m es ≡ option_map (λ e. (m, e)) o
first_is m [] o is = ap (option_map (λ e. (m, e))) is
first_is m (e ∷ es) o is = ap (option_map (λ e. (m, e))) is

module _ (a : CoreParts) where
  abbrev bared : CoreImage
  bared = bare (parts_of a)

  -- the thread of an entry, read at its place
  placed_item : (x : Queued) (of_thread : OfThread bared x) → (id : TableId ThreadKey) × ((id.rep ≡ x.place) × ((g : GuestThread) × ((Ok g ≡ item_at item_of a.threads id.rep id.serial) × (x ≡ thread_entry x.place g))))
  placed_item x of_thread =
      let one = mapped_place (on_item bare_thread) a.threads x.place of_thread.placed of_thread.at in (
        record { rep = x.place; serial = one.0.serial; kind = record {} },
        (
          refl,
          (
            one.0.entry.item,
            (sym (ap (item_in item_of) (found_here a.threads x.place one.0 one.1.0)), sym of_thread.is ∙ sym (ap (λ (e : Single GuestThread). thread_entry x.place e.item) one.1.1)),
          ),
        ),
      )

  module _ (sound : IsSoundCore a) where
    is_whole : IsWhole bared
    unfolding IsSoundCore
    is_whole = sound.whole

    -- an entry is in the instance of its thread
    entry_instance : (x : Queued) (of_thread : OfThread bared x) (n : ℕ) → x.entry ≡ Entry.Thread n → x.instance ≡ Some (instance_of n (seen a).core)
    entry_instance x of_thread n is =
        let one = placed_item x of_thread in
        let g = one.1.1.0 in
        let number : g.number ≡ n = thread_number_of g.number n (sym (ap (λ (q : Queued). q.entry) one.1.1.1.1) ∙ is) in
        ap (λ (q : Queued). q.instance) one.1.1.1.1
        ∙ ap (λ (i : ℕ). Some i) (thread_instance a sound one.0 g one.1.1.1.0 ∙ ap (λ m. instance_of m (seen a).core) (sym (thread_named a one.0 g one.1.1.1.0) ∙ number))
      where
        thread_number_of : (m n : ℕ) → Entry.Thread m ≡ Entry.Thread n → m ≡ n
        thread_number_of m n is = cc

    -- which is there
    entry_within : (x : Queued) (of_thread : OfThread bared x) (i : ℕ) → is_of_instance i x ≡ true → IsSome (slice_get a.instances.items i)
    entry_within x of_thread i of_i =
        let one = placed_item x of_thread in
        let g = one.1.1.0 in
        let same : g.instance ≡ i = eqb-true g.instance i (sym (ap (λ (q : Queued). is_number i q.instance) one.1.1.1.1) ∙ of_i) in
        subst (λ j. IsSome (slice_get a.instances.items j)) same (instance_unchecked a sound one.0 g one.1.1.1.0)

    -- the entry is of the instance as the machine says
    same_group : (i : ℕ) (x : Queued) → IsKeyed bared x → is_of_instance i x ≡ is_entry_in i (seen a).core x.entry
    same_group i x is_x = elim (order_key_of bared x is_x) [
      | inl at ↦ by_entry x.entry refl (entry_instance x at) (sym (ap (λ (q : Queued). q.entry) at.is))
      | inr at ↦ ap (is_number i) at.alone ∙ sym (no_instance x.entry at.placed.entry.item.number at.entry)
    ]
      where
        by_entry : (e : Entry) → x.entry ≡ e → ((n : ℕ) → x.entry ≡ Entry.Thread n → x.instance ≡ Some (instance_of n (seen a).core)) → {m : ℕ} → x.entry ≡ Entry.Thread m → is_of_instance i x ≡ is_entry_in i (seen a).core e
        by_entry (Entry.Thread n) is instance thread = ap (is_number i) (instance n is)
        by_entry (Entry.Push j) is instance thread = absurd (let two = sym is ∙ thread in cc)
        by_entry (Entry.Host j) is instance thread = absurd (let two = sym is ∙ thread in cc)

        no_instance : (e : Entry) (j : ℕ) → is_entry_of_work j e ≡ true → is_entry_in i (seen a).core e ≡ false
        no_instance (Entry.Thread n) j is = absurd (cc)
        no_instance (Entry.Push k) j is = refl
        no_instance (Entry.Host k) j is = refl

    -- ---- The first of an instance

    first_of_row : (i : ℕ) (r : Row) → first_in i (seen a).core (row_seen a r) ≡ option_and_then (λ (q : Queued). entry_thread q.entry) (find (is_of_instance i) (row bared r))
    first_of_row i r = ap (option_and_then entry_thread) (find-known (IsKeyed bared) (λ (q : Queued). q.entry) (is_of_instance i) (is_entry_in i (seen a).core) (same_group i) (row bared r) (row_known bared is_whole r)) ∙ by_option (find (is_of_instance i) (row bared r))
      where
        by_option : (o : Option Queued) → option_and_then entry_thread (option_map (λ (q : Queued). q.entry) o) ≡ option_and_then (λ (q : Queued). entry_thread q.entry) o
        by_option None = refl
        by_option (Some q) = refl

    -- past the instances nothing is found
    first_nowhere : (i : ℕ) (r : Row) → None ≡ slice_get a.instances.items i → first_in i (seen a).core (row_seen a r) ≡ None
    first_nowhere i r none = first_of_row i r ∙ ap (option_and_then (λ (q : Queued). entry_thread q.entry)) (find-none (IsKeyed bared) (is_of_instance i) (λ x is_x. nobody x is_x (is_of_instance i x) refl) (row bared r) (row_known bared is_whole r))
      where
        nobody : (x : Queued) → IsKeyed bared x → (b : Bool) → is_of_instance i x ≡ b → is_of_instance i x ≡ false
        nobody x is_x false is = is
        nobody x is_x true is = absurd (let some : IsSome {T = InstanceRecord} None = subst IsSome (sym none) (entry_within x (threads_own bared x is_x (of_some_instance i x.instance is)) i is) in cc)

    module _ (i : ℕ) (record_at_i : InstanceRecord) (at : Some record_at_i ≡ slice_get a.instances.items i) (r : Row) where
      instance_queue_is : instance_queue_chain bared (i, r) ≡ Some (instance_queue_in r record_at_i)
      instance_queue_is = instance_queue_bare a (i, r) record_at_i (sym at)

      pub instance_queue_live : IsSome (list_of a.instance_queues (instance_queue_in r record_at_i))
      instance_queue_live = is_whole.chained.instance_queues.live (i, r) (instance_queue_in r record_at_i) instance_queue_is

      instance_queue_top : top (chained a.instance_queues (Some (instance_queue_in r record_at_i))) ≡ find (is_of_instance i) (row bared r)
      instance_queue_top = ap top (values_are (instance_queue_chain bared) (λ q. q.instance_queue.index) (OfThread bared) a.instance_queues (part is_of_instance (row bared)) (instance_queue_threads bared is_whole) (i, r) (instance_queue_in r record_at_i) instance_queue_is) ∙ top-filter (is_of_instance i) (row bared r)

      pub first_none : None ≡ top (chained a.instance_queues (Some (instance_queue_in r record_at_i))) → first_in i (seen a).core (row_seen a r) ≡ None
      first_none none = first_of_row i r ∙ ap (option_and_then (λ (q : Queued). entry_thread q.entry)) (sym (none ∙ instance_queue_top))

      pub first_some : (q : Queued) → Some q ≡ top (chained a.instance_queues (Some (instance_queue_in r record_at_i))) → (first_in i (seen a).core (row_seen a r) ≡ Some (number_in (record_at thread_key a.threads.places q.place))) × (0 < number_in (record_at thread_key a.threads.places q.place))
      first_some q some =
          let found : find (is_of_instance i) (row bared r) ≡ Some q = sym (some ∙ instance_queue_top) in
          let known = find-some (IsKeyed bared) (is_of_instance i) (row bared r) q (row_known bared is_whole r) found in
          let of_thread = threads_own bared q known.0 (of_some_instance i q.instance known.1) in
          let here = thread_number_here a sound q of_thread in
          (first_of_row i r ∙ (ap (option_and_then (λ (q : Queued). entry_thread q.entry)) found ∙ (ap (λ (x : Queued). entry_thread x.entry) (sym of_thread.is) ∙ ap (λ (n : ℕ). Some n) (sym here))), subst (λ n. 0 < n) (sym here) (thread_number_positive a sound q of_thread))

      pub first_high : (q : Queued) → r ≡ High → Some q ≡ top (chained a.instance_queues (Some (instance_queue_in r record_at_i))) → first_entry i (seen a).core ≡ Some (number_in (record_at thread_key a.threads.places q.place))
      unfolding first_entry seen
      first_high q high some = ap (first_low i (seen a).core) (ap (λ j. first_in i (seen a).core (row_seen a j)) (sym high) ∙ (first_some q some).0)

    -- high has none of the instance
    pub first_from_low : (i : ℕ) (o : Option ℕ) → first_in i (seen a).core (row_seen a High) ≡ None → first_in i (seen a).core (row_seen a Low) ≡ o → first_entry i (seen a).core ≡ o
    unfolding first_entry seen
    first_from_low i o none is = ap (first_low i (seen a).core) none ∙ is

    pub first_past : (i : ℕ) → None ≡ slice_get a.instances.items i → None ≡ first_entry i (seen a).core
    first_past i none = sym (first_from_low i None (first_nowhere i High none) (first_nowhere i Low none))

    -- ---- The first of all

    pub mark_live : (r : Row) → IfSome (row_chain bared r) (λ c. IsSome (list_of a.marks c))
    mark_live r = by (row_chain bared r) refl
      where
        by : (o : Option ℕ) → row_chain bared r ≡ o → IfSome o (λ c. IsSome (list_of a.marks c))
        by None is = tt
        by (Some c) is = is_whole.chained.marks.live r c is

    -- each entry is by the node that it names
    pub mark_nodes : (r : Row) → IfSome (row_chain bared r) (λ c. entries a.marks c ≡ with_nodes (λ (q : Queued). q.mark.index) (values a.marks c))
    mark_nodes r = by (row_chain bared r) refl
      where
        by : (o : Option ℕ) → row_chain bared r ≡ o → IfSome o (λ c. entries a.marks c ≡ with_nodes (λ (q : Queued). q.mark.index) (values a.marks c))
        by None is = tt
        by (Some c) is = is_whole.chained.marks.has_list r c is ∙ ap (λ (o : Option ℕ). with_nodes (λ (q : Queued). q.mark.index) (chained a.marks o)) is

    pub top_keyed : (r : Row) (q : Queued) → Some q ≡ top (row bared r) → IsKeyed bared q
    top_keyed r q is = top-known (IsKeyed bared) (row bared r) q (row_known bared is_whole r) is

    top_seen : (r : Row) (o : Option Queued) → o ≡ top (row bared r) → top (row_seen a r) ≡ option_map (λ (q : Queued). q.entry) o
    top_seen r o is = top-map (λ (q : Queued). q.entry) (row bared r) ∙ ap (option_map (λ (q : Queued). q.entry)) (sym is)

    pub next_switch : (f : Follower) → a.switch ≡ Some f → next_entry (seen a).core ≡ Some (Mark.Switch, Entry.Thread f.number)
    unfolding next_entry seen
    next_switch f is = ap (λ o. or_high (option_map (λ (g : Follower). g.number) o) (row_seen a High) (row_seen a Low)) is

    module _ (no_switch : a.switch ≡ None) where
      next_unless : next_entry (seen a).core ≡ or_first (first_of Mark.High (row_seen a High)) (row_seen a Low)
      unfolding next_entry seen
      next_unless = ap (λ o. or_high (option_map (λ (g : Follower). g.number) o) (row_seen a High) (row_seen a Low)) no_switch

      pub next_high : (q : Queued) → Some q ≡ top (row bared High) → next_entry (seen a).core ≡ Some (Mark.High, q.entry)
      next_high q is = next_unless ∙ ap (λ o. or_first o (row_seen a Low)) (first_is Mark.High (row_seen a High) (Some q.entry) (top_seen High (Some q) is))

      module _ (no_high : None ≡ top (row bared High)) where
        next_at_low : next_entry (seen a).core ≡ first_of Mark.Low (row_seen a Low)
        next_at_low = next_unless ∙ ap (λ o. or_first o (row_seen a Low)) (first_is Mark.High (row_seen a High) None (top_seen High None no_high))

        pub next_low : (q : Queued) → Some q ≡ top (row bared Low) → next_entry (seen a).core ≡ Some (Mark.Low, q.entry)
        next_low q is = next_at_low ∙ first_is Mark.Low (row_seen a Low) (Some q.entry) (top_seen Low (Some q) is)

        pub next_none : None ≡ top (row bared Low) → next_entry (seen a).core ≡ None
        next_none is = next_at_low ∙ first_is Mark.Low (row_seen a Low) None (top_seen Low None is)

    -- ---- Ids of entries

    pub thread_id : (x : Queued) → IsKeyed bared x → (n : ℕ) → x.entry ≡ Entry.Thread n → (m : ℕ) → m ≡ number_in (record_at thread_key a.threads.places x.place) → Entry.Thread m ≡ x.entry
    thread_id x is_x n is m at = elim (order_key_of bared x is_x) [
      | inl order_key ↦ ap (λ k. Entry.Thread k) (at ∙ thread_number_here a sound x order_key) ∙ ap (λ (q : Queued). q.entry) order_key.is
      | inr order_key ↦ absurd (no_work_of order_key.placed.entry.item.number x.entry n is order_key.entry)
    ]

    -- which is there
    pub thread_stands : (x : Queued) → IsKeyed bared x → (n : ℕ) → x.entry ≡ Entry.Thread n → 0 < number_in (record_at thread_key a.threads.places x.place)
    thread_stands x is_x n is = elim (order_key_of bared x is_x) [
      | inl order_key ↦ subst (λ (k : ℕ). 0 < k) (sym (thread_number_here a sound x order_key)) (thread_number_positive a sound x order_key)
      | inr order_key ↦ absurd (no_work_of order_key.placed.entry.item.number x.entry n is order_key.entry)
    ]

    pub work_number : (x : Queued) → IsKeyed bared x → (i : ℕ) → ((n : ℕ) → x.entry ≡ Entry.Thread n → ⊥) → is_entry_of_work i x.entry ≡ true → ((j : ℕ) → is_entry_of_work j x.entry ≡ true → j ≡ i) → number_in (record_at work_key a.works.places x.place) ≡ i
    work_number x is_x i no_thread is one = elim (order_key_of bared x is_x) [
      | inl order_key ↦ absurd (no_thread order_key.placed.entry.item.number (sym (ap (λ (q : Queued). q.entry) order_key.is)))
      | inr order_key ↦ sym (number_at_mapped work_key work_key (on_item bare_work) (λ w. unmoved (loose_work w)) (λ e. refl) a.works x.place) ∙ (ap (λ o. number_in (key_in work_key o)) order_key.at ∙ one order_key.placed.entry.item.number order_key.entry)
    ]

    pub push_id : (x : Queued) → IsKeyed bared x → (i : ℕ) → x.entry ≡ Entry.Push i → (m : ℕ) → m ≡ number_in (record_at work_key a.works.places x.place) → Entry.Push m ≡ x.entry
    push_id x is_x i is m at = ap (λ k. Entry.Push k) (at ∙ work_number x is_x i (λ n thread. absurd (let two = sym is ∙ thread in cc)) (ap (is_entry_of_work i) is ∙ eq-eqb i i refl) (λ j of. eqb-true j i (sym (ap (is_entry_of_work j) is) ∙ of))) ∙ sym is

    pub host_id : (x : Queued) → IsKeyed bared x → (i : ℕ) → x.entry ≡ Entry.Host i → (m : ℕ) → m ≡ number_in (record_at work_key a.works.places x.place) → Entry.Host m ≡ x.entry
    host_id x is_x i is m at = ap (λ k. Entry.Host k) (at ∙ work_number x is_x i (λ n thread. absurd (let two = sym is ∙ thread in cc)) (ap (is_entry_of_work i) is ∙ eq-eqb i i refl) (λ j of. eqb-true j i (sym (ap (is_entry_of_work j) is) ∙ of))) ∙ sym is
