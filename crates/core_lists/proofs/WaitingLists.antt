-- The chain of a call has just its waiting threads, where a cancel may take any of these; else at most one of its threads is taken.
use Rattle.core_lists.proofs.MemberLists.{passing_permute}
use Rattle.core_lists.specs.Chains.{waiting_in_chain}
use Rattle.core_places.proofs.TargetLemmas.{waits_is}
use Rattle.core_places.proofs.WaitingLemmas.{and_off, filed_by_test, waits_in_call, waits_where}
use Rattle.core_places.proofs.WantedLemmas.{found_there}
use Rattle.core_queues.proofs.BareLemmas.{place_mapped}
use Rattle.core_queues.proofs.CallerLemmas.{apart_as}
use Rattle.core_queues.proofs.SeatLemmas.{seat_read}
use Rattle.core_records.proofs.Core.{[], ap, bare, bare_thread, Bool, cond, Core, eq-eqb, eqb-true, false, Filing, filings, get, IsIndex, IsIndex-same, IsLinks, IsMembers, IsMembers-walked, IsPermutation, is_some, IsSoundCore, item_at, item_of, key_in, None, number_in, Ok, on_item, Option, option_map, parts_of, passes_at, passes_in, Place, place_at, place_at-mapped, Placed, placed_as, records, refl, said, same_Some, seen, Some, subst, sym, Thread, thread_key, true, wait_chain, wait_filing, ℕ, ◌&&◌, ◌==◌, ◌∙◌, ◌∷◌, ◌≡◌}
use Rattle.core_records.proofs.HomeLemmas.{bare_kind}
use Rattle.core_records.specs.Names.{keeps_waits}
use Rattle.core_records.specs.RecordPlaces.{member_order_key, waits_in}
use Rattle.core_records.specs.declared.{call_records.GuestTask.GuestTask, parts.CoreParts.CoreParts, single.Single.Single, thread_records.GuestThread.GuestThread}
use Rattle.core_removals.specs.Walks.{at_order_key}
use Rattle.machine_data.specs.Moves.{is_callback_waiter, waits_cancellable}
use Rattle.machine_rules.specs.Cancels.{cancellable, is_waiting, is_waiting_of, waiting_callback, waiting_in}
use Rattle.machine_rules.specs.Step.{is_among}
use Rattle.std.proofs.Math.Bool.{or-false}
use Rattle.std.proofs.lemmas.Bool.{and_parts}
use Rattle.table_links.specs.declared.links.Node.{Node}
use Rattle.table_lists.specs.Index.{Tests}
use Rattle.table_lists.specs.declared.ordered_lists.OrderKey.{OrderKey}

-- ---- What the chain files

abbrev wait_key : Single GuestThread → Option (ℕ × GuestThread)
wait_key g = Some (g.item.number, g.item)

abbrev waits_for : ℕ → ℕ × GuestThread → Bool
waits_for k e = is_some e.1.wait && ((e.1.thread.call == k) && is_waiting e.1.thread.place)

abbrev filing : ℕ → GuestThread → Node → Filing ℕ OrderKey
filing r g node = record { node = node.index; key = waits_in g.thread.place g.thread.call; value = member_order_key g.entry r }

-- what is filed under a call is of the call, and waits
waits_test : (j k : ℕ) (p : Place) → waits_in p j ≡ Some k → ((j == k) && is_waiting p) ≡ true
waits_test j k (Place.Waiting x b) is = ap (λ (c : Bool). c && true) (eq-eqb j k (same_Some j k is))
waits_test j k Place.New is = absurd (cc)
waits_test j k (Place.Ready m w) is = absurd (cc)
waits_test j k Place.Running is = absurd (cc)
waits_test j k (Place.Under n) is = absurd (cc)
waits_test j k (Place.Behind n) is = absurd (cc)
waits_test j k (Place.Blocked sub) is = absurd (cc)
waits_test j k (Place.Held w) is = absurd (cc)
waits_test j k Place.Suspended is = absurd (cc)

wait_tests : (k : ℕ) → Tests wait_filing wait_key k (waits_for k)
wait_tests k = record {
  passes = λ rep serial e f says is_k. ((e.item.number, e.item), (refl, passes rep e.item f e.item.wait says is_k));
  filed = λ rep serial e x says is. filed rep e.item e.item.wait (subst (λ (y : ℕ × GuestThread). waits_for k y ≡ true) (sym (same_Some (e.item.number, e.item) x says)) is);
}
  where
    passes : (r : ℕ) (g : GuestThread) (f : Filing ℕ OrderKey) (w : Option Node) → option_map (filing r g) w ≡ Some f → f.key ≡ Some k → (is_some w && ((g.thread.call == k) && is_waiting g.thread.place)) ≡ true
    passes r g f None says is_k = absurd (cc)
    passes r g f (Some node) says is_k = waits_test g.thread.call k g.thread.place (ap (λ (h : Filing ℕ OrderKey). h.key) (same_Some (filing r g node) f says) ∙ is_k)

    filed : (r : ℕ) (g : GuestThread) (w : Option Node) → (is_some w && ((g.thread.call == k) && is_waiting g.thread.place)) ≡ true → (f : Filing ℕ OrderKey) × ((option_map (filing r g) w ≡ Some f) × (f.key ≡ Some k))
    filed r g None is = absurd (cc)
    filed r g (Some node) is =
        let parts = and_parts (g.thread.call == k) (is_waiting g.thread.place) is in
        (filing r g node, (refl, filed_by_test g.thread.call k g.thread.place (eqb-true g.thread.call k parts.0) parts.1))

-- ---- The threads of a call that keeps a chain

module _ (a : CoreParts) (sound : IsSoundCore a) (rep serial : ℕ) (t : GuestTask) (is : Ok t ≡ item_at item_of a.calls rep serial) (c : ℕ) (has : t.waits ≡ Some c) where
  waits_filed : IsIndex (wait_chain (bare (parts_of a))) a.waits (filings wait_filing a.threads)
  unfolding IsSoundCore filings
  waits_filed = IsIndex-same (wait_chain (bare (parts_of a))) a.waits _ sound.whole.chained.waits (filings wait_filing a.threads) (λ r. sym (ap (said wait_filing r) (place_at-mapped (on_item bare_thread) a.threads r) ∙ by r (place_at a.threads r)))
    where
      by : (r : ℕ) (o : Option (Placed (Single GuestThread))) → said wait_filing r (placed_as (on_item bare_thread) o) ≡ said wait_filing r o
      by r None = refl
      by r (Some p) = refl

  -- each thread of the call has a node
  kept : (r : ℕ) (q : Placed (Single GuestThread)) → place_at a.threads r ≡ Some q → q.entry.item.thread.call ≡ t.number → is_some q.entry.item.wait ≡ true
  unfolding IsSoundCore seen
  kept r q at call =
      let home = sound.whole.named.threads r _ (place_mapped (on_item bare_thread) a.threads r q at) in
      sym home.waits ∙ (ap (keeps_waits a.version) (bare_kind a q.entry.item.thread.call) ∙ (ap (λ (m : ℕ). waits_cancellable m (seen a).core) call ∙ (waits_where a sound rep serial t is ∙ ap is_some has)))

  waits_there : (r : ℕ) (q : Placed (Single GuestThread)) → place_at a.threads r ≡ Some q → ((q.entry.item.thread.call == t.number) && is_waiting q.entry.item.thread.place) ≡ waits_for t.number (q.entry.item.number, q.entry.item)
  waits_there r q at = by (q.entry.item.thread.call == t.number) refl
    where
      by : (b : Bool) → (q.entry.item.thread.call == t.number) ≡ b → (b && is_waiting q.entry.item.thread.place) ≡ (is_some q.entry.item.wait && (b && is_waiting q.entry.item.thread.place))
      by true same = sym (ap (λ (w : Bool). w && is_waiting q.entry.item.thread.place) (kept r q at (eqb-true q.entry.item.thread.call t.number same)))
      by false other = sym (and_off (is_some q.entry.item.wait))

  tested : (n : ℕ) → is_waiting_of t.number (seen a).core n ≡ passes_at (waits_for t.number) (records wait_key a.threads.places) n
  unfolding seen IsSoundCore
  tested n = by (get (records wait_key a.threads.places) n) refl
    where
      gone : get (records wait_key a.threads.places) n ≡ None → (o : Option Thread) → get (records thread_key a.threads.places) n ≡ o → o ≡ None
      gone none None at = refl
      gone none (Some d) at =
          let one = found_there (λ (g : GuestThread). g.number) (λ (g : GuestThread). g.thread) a.threads n d at in
          let there : get (records wait_key a.threads.places) n ≡ Some one.1.0.entry.item =
          ap (get (records wait_key a.threads.places)) (sym one.1.1.1.0)
          ∙ seat_read (λ (g : GuestThread). g.number) (λ (g : GuestThread). g.thread) (λ (g : GuestThread). g) a.threads a.made.threads sound.tables.threads one.0 one.1.0 one.1.1.0 in
          absurd (let two = sym none ∙ there in cc)

      by : (o : Option GuestThread) → get (records wait_key a.threads.places) n ≡ o → waits_in_call t.number (get (records thread_key a.threads.places) n) ≡ passes_in (waits_for t.number) n (get (records wait_key a.threads.places) n)
      by None none =
          ap (waits_in_call t.number) (gone none (get (records thread_key a.threads.places) n) refl)
          ∙ (and_off (0 == t.number) ∙ sym (ap (passes_in (waits_for t.number) n) none))
      by (Some g) some =
          let one = found_there (λ (h : GuestThread). h.number) (λ (h : GuestThread). h) a.threads n g some in
          let q = one.1.0 in
          let read : get (records thread_key a.threads.places) n ≡ Some q.entry.item.thread =
          ap (get (records thread_key a.threads.places)) (sym one.1.1.1.0)
          ∙ seat_read (λ (h : GuestThread). h.number) (λ (h : GuestThread). h.thread) (λ (h : GuestThread). h.thread) a.threads a.made.threads sound.tables.threads one.0 q one.1.1.0 in
          ap (waits_in_call t.number) read
          ∙ (waits_there one.0 q one.1.1.0
          ∙ (ap (λ (h : GuestThread). waits_for t.number (n, h)) one.1.1.1.1 ∙ sym (ap (passes_in (waits_for t.number) n) some)))

  reads : (r : ℕ) (p : Placed (Single GuestThread)) (f : Filing ℕ OrderKey) (x : ℕ × GuestThread) → place_at a.threads r ≡ Some p → wait_filing r p.serial p.entry ≡ Some f → wait_key p.entry ≡ Some x → at_order_key a f.value ≡ x.0
  reads r p f x at says key = by p.entry.item.wait says
    where
      by : (w : Option Node) → option_map (filing r p.entry.item) w ≡ Some f → at_order_key a f.value ≡ x.0
      by None none = absurd (cc)
      by (Some node) filed =
          ap (λ (g : Filing ℕ OrderKey). at_order_key a g.value) (sym (same_Some (filing r p.entry.item node) f filed))
          ∙ (ap (λ o. number_in (key_in thread_key o)) at ∙ ap (λ (d : ℕ × GuestThread). d.0) (same_Some (p.entry.item.number, p.entry.item) x key))

  members : IsLinks a.waits → IsMembers (is_waiting_of t.number (seen a).core) (waiting_in_chain a c)
  unfolding IsSoundCore
  members links =
      let apart = apart_as (λ (g : GuestThread). g.number) (λ (g : GuestThread). g.thread) (λ (g : GuestThread). g) a.threads.places sound.tables.threads.apart in
      let chain = waits_is a sound t.number rep serial t refl is ∙ has in
      let walk = IsMembers-walked wait_filing (wait_chain (bare (parts_of a))) a.threads a.waits waits_filed t.number c chain wait_key (waits_for t.number) (wait_tests t.number) links apart (at_order_key a) reads in
      record { once = walk.once; are = λ n. walk.are n ∙ sym (tested n) }

  listed : IsLinks a.waits → IsPermutation (waiting_in t.number (seen a).core) (waiting_in_chain a c)
  listed links = passing_permute (seen a).core.threads (is_waiting_of t.number (seen a).core) (waiting_in_chain a c) (members links) (λ n. there (get (seen a).core.threads n))
    where
      there : (o : Option Thread) → waits_in_call t.number o ≡ true → is_some o ≡ true
      there None waits = absurd (let two = (and_parts (0 == t.number) false waits).1 in cc)
      there (Some d) waits = refl

  -- all of these may be taken
  pub waiting_listed : IsLinks a.waits → (k : ℕ) → t.number ≡ k → IsPermutation (cancellable k (seen a).core) (waiting_in_chain a c)
  waiting_listed links k same = subst (λ n. IsPermutation (cancellable n (seen a).core) (waiting_in_chain a c)) same
      (subst (λ (b : Bool). IsPermutation (cond b (waiting_in t.number (seen a).core) (waiting_callback t.number (seen a).core)) (waiting_in_chain a c)) (sym (waits_where a sound rep serial t is ∙ ap is_some has)) (listed links))

-- ---- A call that keeps none

-- a cancel may take that thread alone
pub only_one : (k n : ℕ) (s : Core) → waits_cancellable k s ≡ false → is_among n (cancellable k s) ≡ true → cancellable k s ≡ n ∷ []
only_one k n s = by (waits_cancellable k s) (is_callback_waiter k s)
  where
    by : (b w : Bool) → b ≡ false → is_among n (cond b (waiting_in k s) (cond w (k ∷ []) [])) ≡ true → cond b (waiting_in k s) (cond w (k ∷ []) []) ≡ n ∷ []
    by true w off is = absurd (cc)
    by false true off is = ap (λ (m : ℕ). m ∷ []) (sym (eqb-true n k (sym (or-false (n == k)) ∙ is)))
    by false false off is = absurd (cc)
