-- A thread more, whose nodes and chains hung on nothing: the chains and the nodes of the parts.
use Rattle.machine_data.specs.declared.scenario.Version.{Version}
use Rattle.core_records.proofs.Core.{[], ap, AreApart, AreChained, arith, BlockedOn, callers_chain, callers_row, cases_eq, chained, EachEntry, Entry, entry_keyed, Filing, filings, follower, found_record, HaveRowNodes, HeldIn, inl, inr, IsFollower, IsNamedAt, IsRows-opened, IsKeyed, IsTable, Kinds, list_or_nil, map, None, Nothing, Option, CoreImage, Place, place_at, place_chain, place_filing, place_target, Placed, pushed, refl, said, same_Some, SetOf, Some, subst, Subtask, subtask_target, sym, Table, Target, thread_entry, thread_key, ThreadOf, UnderOf, WaitsOn, Where, where_at, ℕ, ◌<◌, ◌∙◌, ◌≡◌, ◌⊎◌, StartsIn, held_list, ◌&&◌, Bool, true, false, cond, wait_chain, wait_filing, waits_in, option_map, IsIndex, IsIndex-same, IsIndex-pushed, filings-pushed_here, filings-pushed_before, filings-pushed_other, next_place, is_made, link_of, link_for, IfSome}
use Rattle.core_records.specs.declared.{single.Single.Single, thread_records.Follower.Follower, thread_records.GuestThread.GuestThread, thread_records.Queued.Queued}
use Rattle.core_makes.proofs.FreshLemmas.{chain_new, chain_other}
use Rattle.core_makes.proofs.LooseLemmas.{IsIndex-opened}
use Rattle.core_makes.proofs.MoreLemmas.{IsRows-known, index_more, new_or_old, nodes_more, order_key_stays}
use Rattle.core_queues.proofs.CallerLemmas.{none_as}
use Rattle.core_makes.specs.LooseCalls.{AreThreadLoose, wait_node_of}
use Rattle.core_makes.specs.declared.node_makes.ThreadNodes.{ThreadNodes}
use Rattle.machine_rules.specs.Places.{is_for_start}
use Rattle.table_lists.specs.declared.ordered_lists.OrderKey.{OrderKey}
use Rattle.core_records.specs.RecordPlaces.{member_order_key, thread_order_key}
use Rattle.table_links.specs.declared.links.Node.{Node}

-- ---- What a list is named by

abbrev pub target_of : Where → Target
target_of (WaitsOn x) = SetOf x
target_of (StartsIn i) = Nothing
target_of (HeldIn i) = Nothing
target_of (UnderOf n) = ThreadOf n
target_of (BlockedOn sub) = subtask_target sub

held_target : (k : Kinds) (rep i : ℕ) (b : Bool) → IsNamedAt k rep (target_of (cond b (StartsIn i) (HeldIn i)))
held_target k rep i true = tt
held_target k rep i false = tt

-- who is in a list names what the list hangs on
pub names_list : (k : Kinds) (rep i : ℕ) (b : Bool) (x : Place) (w : Where) → IsNamedAt k rep (place_target x) → where_at i b x ≡ Some w → IsNamedAt k rep (target_of w)
names_list k rep i b Place.New w at is = absurd (cc)
names_list k rep i b (Place.Ready m y) w at is = absurd (cc)
names_list k rep i b Place.Running w at is = absurd (cc)
names_list k rep i b (Place.Under m) w at is = subst (λ v. IsNamedAt k rep (target_of v)) (same_Some (UnderOf m) w is) at
names_list k rep i b (Place.Behind m) w at is = absurd (cc)
names_list k rep i b (Place.Waiting y by_callback) w at is = subst (λ v. IsNamedAt k rep (target_of v)) (same_Some (WaitsOn y) w is) at
names_list k rep i b (Place.Blocked sub) w at is = subst (λ v. IsNamedAt k rep (target_of v)) (same_Some (BlockedOn sub) w is) at
names_list k rep i b (Place.Held y) w at is = subst (λ v. IsNamedAt k rep (target_of v)) (same_Some (held_list i b y) w is) (held_target k rep i (b && is_for_start y))
names_list k rep i b Place.Suspended w at is = absurd (cc)

abbrev pub PlacesNamed : Kinds → Table (Single GuestThread) → Type 0
PlacesNamed k t = EachEntry (λ (g : GuestThread). IsNamedAt k g.state_target (place_target g.thread.place)) t

-- nobody is in the list of what was not made
pub none_in_list : (v : Version) (k : Kinds) (t : Table (Single GuestThread)) (w : Where) → PlacesNamed k t → ((rep : ℕ) → IsNamedAt k rep (target_of w) → ⊥) → (rep : ℕ) (f : Filing Where OrderKey) → filings (place_filing v) t rep ≡ Some f → f.key ≡ Some w → ⊥
unfolding filings
none_in_list v k t w named new rep f is key = by (place_at t rep) refl is
  where
    by : (o : Option (Placed (Single GuestThread))) → place_at t rep ≡ o → said (place_filing v) rep o ≡ Some f → ⊥
    by None at is = absurd (cc)
    by (Some q) at is =
        let g = q.entry.item in
        new g.state_target (names_list k g.state_target g.instance g.barred g.thread.place w (named rep q at) (ap (λ (h : Filing Where OrderKey). h.key) (same_Some _ f is) ∙ key))

abbrev under_in : Where → ℕ
under_in (UnderOf n) = n
under_in _ = 0

under_is : (n : ℕ) (k : Where) → (k ≡ UnderOf n) ⊎ (k ≡ UnderOf n → ⊥)
under_is n (WaitsOn x) = inr (λ same. absurd (cc))
under_is n (StartsIn i) = inr (λ same. absurd (cc))
under_is n (HeldIn i) = inr (λ same. absurd (cc))
under_is n (UnderOf m) = elim (cases_eq m n) [
  | inl same ↦ inl (ap UnderOf same)
  | inr other ↦ inr (λ same. other (ap under_in same))
]
under_is n (BlockedOn sub) = inr (λ same. absurd (cc))

-- ---- The waiting threads of calls

-- who is in no list of a place waits on no set
pub unwaiting : (i : ℕ) (b : Bool) (x : Place) (k : ℕ) → where_at i b x ≡ None → waits_in x k ≡ None
unwaiting i b (Place.Waiting y by_callback) k none = absurd (cc)
unwaiting i b _ k none = refl

waits_of : (x : Place) (k n : ℕ) → waits_in x k ≡ Some n → k ≡ n
waits_of (Place.Waiting y by_callback) k n is = same_Some k n is
waits_of _ k n is = absurd (cc)

abbrev wait_said : ℕ → GuestThread → Node → Filing ℕ OrderKey
wait_said rep g node = record { node = node.index; key = waits_in g.thread.place g.thread.call; value = member_order_key g.entry rep }

-- who is filed by its call has a node for that, and that call
pub wait_filed : (t : Table (Single GuestThread)) (r : ℕ) (f : Filing ℕ OrderKey) → filings wait_filing t r ≡ Some f →
    (q : Placed (Single GuestThread)) × ((node : Node) × ((place_at t r ≡ Some q) × ((q.entry.item.wait ≡ Some node) × (f ≡ wait_said r q.entry.item node))))
unfolding filings
wait_filed t r f is = by (place_at t r) refl is
  where
    has : (q : Placed (Single GuestThread)) → place_at t r ≡ Some q → (w : Option Node) → q.entry.item.wait ≡ w → option_map (wait_said r q.entry.item) w ≡ Some f →
        (q : Placed (Single GuestThread)) × ((node : Node) × ((place_at t r ≡ Some q) × ((q.entry.item.wait ≡ Some node) × (f ≡ wait_said r q.entry.item node))))
    has q at None none is = absurd (cc)
    has q at (Some node) some is = (q, (node, (at, (some, sym (same_Some (wait_said r q.entry.item node) f is)))))

    by : (o : Option (Placed (Single GuestThread))) → place_at t r ≡ o → said wait_filing r o ≡ Some f →
        (q : Placed (Single GuestThread)) × ((node : Node) × ((place_at t r ≡ Some q) × ((q.entry.item.wait ≡ Some node) × (f ≡ wait_said r q.entry.item node))))
    by None at is = absurd (cc)
    by (Some q) at is = has q at q.entry.item.wait refl is

-- nobody waits in a call that no thread is of
pub none_waits : (t : Table (Single GuestThread)) (n : ℕ) → ((r : ℕ) (q : Placed (Single GuestThread)) → place_at t r ≡ Some q → q.entry.item.thread.call ≡ n → ⊥) →
    (r : ℕ) (f : Filing ℕ OrderKey) → filings wait_filing t r ≡ Some f → f.key ≡ Some n → ⊥
none_waits t n nobody r f is key =
    let one = wait_filed t r f is in
    let g = one.0.entry.item in
    nobody r one.0 one.1.1.0 (waits_of g.thread.place g.thread.call n (sym (ap (λ (x : Filing ℕ OrderKey). x.key) one.1.1.1.1) ∙ key))

-- ---- The thread

abbrev pub nodes_of : GuestThread → ThreadNodes
nodes_of g = record { node = g.node; wait = g.wait; mark = g.mark; instance_queue = g.instance_queue; caller = g.caller; callers = g.callers; under = g.under }

module _ (p : CoreImage) (g : GuestThread) (keeps : Bool) (table : IsTable p.threads) (apart : AreApart thread_key p.threads.places) (new : found_record thread_key g.number p.threads.places ≡ None) (loose : AreThreadLoose p keeps (nodes_of g)) where
  abbrev pub with_thread : CoreImage
  with_thread = record p { threads = pushed (record { item = g }) p.threads }

  module _ (chain : GuestThread → ℕ) where
    has_chain : found_record (λ (e : Single GuestThread). Some (e.item.number, chain e.item)) g.number with_thread.threads.places ≡ Some (chain g)
    has_chain = chain_new (λ (h : GuestThread). h.number) (λ (h : GuestThread). h.thread) chain p.threads g table apart new

    other_chain : (n : ℕ) → (n ≡ g.number → ⊥) → found_record (λ (e : Single GuestThread). Some (e.item.number, chain e.item)) n with_thread.threads.places ≡ found_record (λ (e : Single GuestThread). Some (e.item.number, chain e.item)) n p.threads.places
    other_chain = chain_other (λ (h : GuestThread). h.number) (λ (h : GuestThread). h.thread) chain p.threads g table apart new

  place_others : (k : Where) → (k ≡ UnderOf g.number → ⊥) → place_chain with_thread k ≡ place_chain p k
  place_others (WaitsOn n) other = refl
  place_others (StartsIn i) other = refl
  place_others (HeldIn i) other = refl
  place_others (UnderOf n) other = other_chain (λ h. h.under) n (λ same. other (ap UnderOf same))
  place_others (BlockedOn (Subtask.Guest k)) other = refl
  place_others (BlockedOn (Subtask.Host i)) other = refl

  keyed_still : (x : Queued) → IsKeyed p x → IsKeyed with_thread x
  keyed_still x is = by x.entry is
    where
      by : (e : Entry) → entry_keyed p e x.place ≡ Some x → entry_keyed with_thread e x.place ≡ Some x
      by (Entry.Thread n) is = order_key_stays p.threads g table thread_entry x.place x is
      by (Entry.Push i) is = is
      by (Entry.Host i) is = is

  pub follower_still : (f : Follower) → IsFollower p f → IsFollower with_thread f
  follower_still f is = order_key_stays p.threads g table follower f.place f is

  callers_others : (n : ℕ) → (n ≡ g.number → ⊥) → callers_chain with_thread n ≡ callers_chain p n
  callers_others = other_chain (λ h. h.callers)

  no_callers : callers_row with_thread g.number ≡ []
  no_callers = ap (chained p.behind) (has_chain (λ h. h.callers)) ∙ ap (λ o. map (λ e. e.1) (list_or_nil o)) loose.callers.empty

  abbrev entry : Single GuestThread
  entry = record { item = g }

  -- no thread has the node among the waiting ones of its call
  abbrev is_apart : Node → Type 0
  is_apart node = (r : ℕ) (q : Placed (Single GuestThread)) → place_at p.threads r ≡ Some q → wait_node_of q.entry.item ≡ Some node.index → ⊥

  -- a thread that doesn't wait is filed by its call nowhere
  wait_more : waits_in g.thread.place g.thread.call ≡ None → IsIndex (wait_chain p) p.waits (filings wait_filing p.threads) → IsIndex (wait_chain p) p.waits (filings wait_filing with_thread.threads)
  wait_more none was = by g.wait refl loose.wait.made loose.wait.free loose.wait.apart
    where
      said_now : (w : Option Node) → g.wait ≡ w → filings wait_filing with_thread.threads (next_place p.threads) ≡ option_map (wait_said (next_place p.threads) g) w
      said_now w is = filings-pushed_here wait_filing p.threads entry table ∙ ap (option_map (wait_said (next_place p.threads) g)) is

      by : (w : Option Node) → g.wait ≡ w → IfSome w (λ node. is_made p.waits node.index ≡ true) → IfSome w (λ node. link_of p.waits node.index ≡ None) → IfSome w is_apart →
          IsIndex (wait_chain p) p.waits (filings wait_filing with_thread.threads)
      by None is made free apart_is = IsIndex-same (wait_chain p) p.waits (filings wait_filing p.threads) was (filings wait_filing with_thread.threads) (λ r. elim (cases_eq r (next_place p.threads)) [
        | inl same ↦ ap (filings wait_filing with_thread.threads) same ∙ (said_now None is ∙ sym (ap (filings wait_filing p.threads) same ∙ filings-pushed_before wait_filing p.threads table))
        | inr other ↦ filings-pushed_other wait_filing p.threads entry r table other
      ])
      by (Some node) is made free apart_is = IsIndex-pushed wait_filing (wait_chain p) p.threads p.waits was table entry (wait_said (next_place p.threads) g node)
          (ap (option_map (wait_said (next_place p.threads) g)) is) made
          (free ∙ sym (ap (λ k. link_for (wait_chain p) (record { node = node.index; key = k; value = member_order_key g.entry (next_place p.threads) })) none))
          (λ r f at same. let one = wait_filed p.threads r f at in
          apart_is r one.0 one.1.1.0 (ap (option_map (λ (m : Node). m.index)) one.1.1.1.0 ∙ ap (λ (n : ℕ). Some n) (sym (ap (λ (x : Filing ℕ OrderKey). x.node) one.1.1.1.1) ∙ same)))

  pub thread_chained : (k : Kinds) → k.made.threads < g.number → PlacesNamed k p.threads → where_at g.instance g.barred g.thread.place ≡ None → AreChained p → AreChained with_thread
  thread_chained k later named filed was = record {
    places = index_more p.threads g table (λ h. h.node.index) (λ h. where_at h.instance h.barred h.thread.place) (thread_order_key p.version) p.places loose.node (place_chain with_thread)
        (IsIndex-opened (place_chain p) (place_chain with_thread) p.places (UnderOf g.number) (under_is g.number) place_others g.under (has_chain (λ h. h.under)) loose.under (filings (place_filing p.version) p.threads) was.places
        (none_in_list p.version k p.threads (UnderOf g.number) named (λ rep at. let few = at.0 in omega arith)))
        filed;
    waits = wait_more (unwaiting g.instance g.barred g.thread.place g.thread.call filed) was.waits;
    ready_calls = was.ready_calls;
    ready_works = was.ready_works;
    polled = was.polled;
    rising = was.rising;
    marks = IsRows-known _ _ (IsKeyed p) (IsKeyed with_thread) _ _ keyed_still was.marks;
    instance_queues = IsRows-known _ _ (IsKeyed p) (IsKeyed with_thread) _ _ keyed_still was.instance_queues;
    low = was.low;
    behind = IsRows-opened (callers_chain p) (λ f. f.node.index) (IsFollower with_thread) p.behind (callers_row p)
        (IsRows-known _ _ (IsFollower p) (IsFollower with_thread) _ _ follower_still was.behind)
        (callers_chain with_thread) (callers_row with_thread) g.number (λ n. cases_eq n g.number) callers_others (λ n other. ap (chained p.behind) (callers_others n other))
        g.callers (none_as (λ (h : GuestThread). h.number) (λ (h : GuestThread). h.thread) (λ (h : GuestThread). h.callers) g.number p.threads.places new) (has_chain (λ h. h.callers)) no_callers loose.callers.empty loose.callers.apart;
  }

  pub thread_nodes : HaveRowNodes p → HaveRowNodes with_thread
  thread_nodes was = record {
    marks = nodes_more p.threads g table (λ h. h.mark.index) p.marks loose.mark was.marks;
    instance_queues = nodes_more p.threads g table (λ h. h.instance_queue.index) p.instance_queues loose.instance_queue was.instance_queues;
    callers = nodes_more p.threads g table (λ h. h.caller.index) p.behind loose.caller was.callers;
    works = was.works;
    apart = λ r s q w at_q at_w same. elim (new_or_old p.threads g table r q at_q) [
      | inl here ↦ loose.no_work s w at_w (sym same ∙ ap (λ (z : Placed (Single GuestThread)). z.entry.item.mark.index) here.1)
      | inr old ↦ was.apart r s q w old at_w same
    ];
  }
