-- The nodes and chains of a thread and of a call are made, one after another: they hang on nothing.
use Rattle.core_records.proofs.Core.{[], ap, bare, Bool, callers_chain, callers_row, ChainOf, false, filings, filings_at, FreeNode, is_made, IsFollower, IsIndex, IsSoundCore, List, list_of, None, Option, parts_of, place_at, place_chain, place_filing, Placed, ready_call_chain, ready_in, refl, Renames, Some, Spot, spot_at, spot_is_made, spot_link, spot_list, subst, sym, Table, true, Unmade, where_at, ℕ, ◌∙◌, ◌≡◌, CoreImage, Filing, link_of, option_map, same_Some, wait_chain, wait_filing, waits_in}
use Rattle.core_records.specs.declared.{call_records.GuestTask.GuestTask, parts.CoreParts.CoreParts, single.Single.Single, thread_records.GuestThread.GuestThread, work_records.WorkRecord.WorkRecord}
use Rattle.core_makes.proofs.LooseLemmas.{loose_index, loose_row}
use Rattle.core_makes.specs.Loose.{IsLoose, IsSpare}
use Rattle.core_makes.specs.Extends.{Extends, Grown}
use Rattle.core_makes.specs.LooseCalls.{AreCallLoose, AreThreadLoose, IsWaitChainLoose, IsWaitLoose, wait_node_of}
use Rattle.core_makes.specs.declared.node_makes.CallNodes.{CallNodes}
use Rattle.core_makes.specs.declared.node_makes.ThreadNodes.{ThreadNodes}
use Rattle.core_records.specs.RecordPlaces.{member_order_key, thread_order_key}
use Rattle.table_links.specs.declared.links.Node.{Node}
use Rattle.table_lists.specs.declared.ordered_lists.OrderKey.{OrderKey}

-- ---- What is made leaves the rest

pub grown_by : {P : Type 0} (old new : List (Spot P)) (n : ℕ) (is : Spot P) → Renames old new n Unmade is → Grown old new
grown_by old new n is names m made = names.others m (λ same. made (ap (spot_at old) same ∙ names.named))

grown_same : {P : Type 0} (l : List (Spot P)) → Grown l l
grown_same l n made = refl

module _ (a b : CoreParts) where
  pub extends_places : Grown a.places b.places → b ≡ record a { places = b.places } → Extends a b
  extends_places grown only = subst (Extends a) (sym only) (record { places = grown; waits = grown_same a.waits; ready_calls = grown_same a.ready_calls; marks = grown_same a.marks; instance_queues = grown_same a.instance_queues; behind = grown_same a.behind; only = refl })

  pub extends_waits : Grown a.waits b.waits → b ≡ record a { waits = b.waits } → Extends a b
  extends_waits grown only = subst (Extends a) (sym only) (record { places = grown_same a.places; waits = grown; ready_calls = grown_same a.ready_calls; marks = grown_same a.marks; instance_queues = grown_same a.instance_queues; behind = grown_same a.behind; only = refl })

  pub extends_ready_calls : Grown a.ready_calls b.ready_calls → b ≡ record a { ready_calls = b.ready_calls } → Extends a b
  extends_ready_calls grown only = subst (Extends a) (sym only) (record { places = grown_same a.places; waits = grown_same a.waits; ready_calls = grown; marks = grown_same a.marks; instance_queues = grown_same a.instance_queues; behind = grown_same a.behind; only = refl })

  pub extends_marks : Grown a.marks b.marks → b ≡ record a { marks = b.marks } → Extends a b
  extends_marks grown only = subst (Extends a) (sym only) (record { places = grown_same a.places; waits = grown_same a.waits; ready_calls = grown_same a.ready_calls; marks = grown; instance_queues = grown_same a.instance_queues; behind = grown_same a.behind; only = refl })

  pub extends_instance_queues : Grown a.instance_queues b.instance_queues → b ≡ record a { instance_queues = b.instance_queues } → Extends a b
  extends_instance_queues grown only = subst (Extends a) (sym only) (record { places = grown_same a.places; waits = grown_same a.waits; ready_calls = grown_same a.ready_calls; marks = grown_same a.marks; instance_queues = grown; behind = grown_same a.behind; only = refl })

  pub extends_behind : Grown a.behind b.behind → b ≡ record a { behind = b.behind } → Extends a b
  extends_behind grown only = subst (Extends a) (sym only) (record { places = grown_same a.places; waits = grown_same a.waits; ready_calls = grown_same a.ready_calls; marks = grown_same a.marks; instance_queues = grown_same a.instance_queues; behind = grown; only = refl })

-- where nothing is made all is as before
pub extends_same : (a : CoreParts) → Extends a a
extends_same a = record { places = grown_same a.places; waits = grown_same a.waits; ready_calls = grown_same a.ready_calls; marks = grown_same a.marks; instance_queues = grown_same a.instance_queues; behind = grown_same a.behind; only = refl }

grown_on : {P : Type 0} (k l m : List (Spot P)) → Grown k l → Grown l m → Grown k m
grown_on k l m first second n made = second n (λ none. made (sym (first n made) ∙ none)) ∙ first n made

pub extends_on : (a b c : CoreParts) → Extends a b → Extends b c → Extends a c
extends_on a b c first second = record {
  places = grown_on a.places b.places c.places first.places second.places;
  waits = grown_on a.waits b.waits c.waits first.waits second.waits;
  ready_calls = grown_on a.ready_calls b.ready_calls c.ready_calls first.ready_calls second.ready_calls;
  marks = grown_on a.marks b.marks c.marks first.marks second.marks;
  instance_queues = grown_on a.instance_queues b.instance_queues c.instance_queues first.instance_queues second.instance_queues;
  behind = grown_on a.behind b.behind c.behind first.behind second.behind;
  only = second.only ∙ ap (λ (y : CoreParts). record y { places = c.places; waits = c.waits; ready_calls = c.ready_calls; marks = c.marks; instance_queues = c.instance_queues; behind = c.behind }) first.only;
}

-- ---- Nodes and chains over lists

module _ {T P : Type 0} (node : T → ℕ) (t : Table (Single T)) (links new : List (Spot P)) (n : ℕ) where
  pub spare_made : ((r : ℕ) (q : Placed (Single T)) → place_at t r ≡ Some q → is_made links (node q.entry.item) ≡ true) → Renames links new n Unmade FreeNode → IsSpare node t new n
  spare_made made names = record {
    made = ap spot_is_made names.names;
    free = ap spot_link names.names;
    apart = λ r q at same. absurd (let here : ◌≡◌ {A = Bool} true false = sym (made r q at) ∙ (ap (is_made links) same ∙ ap spot_is_made names.named) in cc);
  }

  pub spare_grown : Grown links new → IsSpare node t links n → IsSpare node t new n
  spare_grown grown spare = record { made = ap spot_is_made same ∙ spare.made; free = ap spot_link same ∙ spare.free; apart = spare.apart }
    where
      same : spot_at new n ≡ spot_at links n
      same = grown n (λ none. absurd (let here : ◌≡◌ {A = Bool} true false = sym spare.made ∙ ap spot_is_made none in cc))

pub loose_grown : {K P : Type 0} (chain : K → Option ℕ) (links new : List (Spot P)) (c : ℕ) → Grown links new → IsLoose chain links c → IsLoose chain new c
loose_grown {P = P} chain links new c grown loose = record { empty = ap spot_list (grown c made) ∙ loose.empty; apart = loose.apart }
  where
    made : spot_at links c ≡ Unmade → ⊥
    made none = absurd (let here : ◌≡◌ {A = Option (List (ℕ × P))} (Some []) None = sym loose.empty ∙ ap spot_list none in cc)

-- an entry's node in an index is made
pub filed_made : {T K P : Type 0} (node : T → ℕ) (key_of : T → Option K) (value : ℕ → T → P) (chain : K → Option ℕ) (t : Table (Single T)) (links : List (Spot P)) → IsIndex chain links (filings (λ r s (e : Single T). Some (record { node = node e.item; key = key_of e.item; value = value r e.item })) t) → (r : ℕ) (q : Placed (Single T)) → place_at t r ≡ Some q → is_made links (node q.entry.item) ≡ true
filed_made node key_of value chain t links index r q at = index.made r (record { node = node q.entry.item; key = key_of q.entry.item; value = value r q.entry.item }) (filings_at (λ r s e. Some (record { node = node e.item; key = key_of e.item; value = value r e.item })) t r (Some q) at)

-- ---- Those of a core

-- A node that was made for a thread among the waiting ones of its call: it is in no chain, and no thread has it.
pub record IsSpareWait (p : CoreImage) (n : ℕ) : Type 0 where
  pub made : is_made p.waits n ≡ true
  pub free : link_of p.waits n ≡ None
  pub apart : (rep : ℕ) (q : Placed (Single GuestThread)) → place_at p.threads rep ≡ Some q → wait_node_of q.entry.item ≡ Some n → ⊥

module _ (a b : CoreParts) (ext : Extends a b) where
  module _ (n : ℕ) where
    pub place_spare_kept : IsSpare (λ (g : GuestThread). g.node.index) (bare (parts_of a)).threads a.places n → IsSpare (λ (g : GuestThread). g.node.index) (bare (parts_of b)).threads b.places n
    place_spare_kept spare = subst (λ (y : CoreParts). IsSpare (λ (g : GuestThread). g.node.index) (bare (parts_of y)).threads b.places n) (sym ext.only) (spare_grown _ _ a.places b.places n ext.places spare)

    pub mark_spare_kept : IsSpare (λ (g : GuestThread). g.mark.index) (bare (parts_of a)).threads a.marks n → IsSpare (λ (g : GuestThread). g.mark.index) (bare (parts_of b)).threads b.marks n
    mark_spare_kept spare = subst (λ (y : CoreParts). IsSpare (λ (g : GuestThread). g.mark.index) (bare (parts_of y)).threads b.marks n) (sym ext.only) (spare_grown _ _ a.marks b.marks n ext.marks spare)

    pub instance_queue_spare_kept : IsSpare (λ (g : GuestThread). g.instance_queue.index) (bare (parts_of a)).threads a.instance_queues n → IsSpare (λ (g : GuestThread). g.instance_queue.index) (bare (parts_of b)).threads b.instance_queues n
    instance_queue_spare_kept spare = subst (λ (y : CoreParts). IsSpare (λ (g : GuestThread). g.instance_queue.index) (bare (parts_of y)).threads b.instance_queues n) (sym ext.only) (spare_grown _ _ a.instance_queues b.instance_queues n ext.instance_queues spare)

    pub caller_spare_kept : IsSpare (λ (g : GuestThread). g.caller.index) (bare (parts_of a)).threads a.behind n → IsSpare (λ (g : GuestThread). g.caller.index) (bare (parts_of b)).threads b.behind n
    caller_spare_kept spare = subst (λ (y : CoreParts). IsSpare (λ (g : GuestThread). g.caller.index) (bare (parts_of y)).threads b.behind n) (sym ext.only) (spare_grown _ _ a.behind b.behind n ext.behind spare)

    pub ready_spare_kept : IsSpare (λ (g : GuestTask). g.ready.index) (bare (parts_of a)).calls a.ready_calls n → IsSpare (λ (g : GuestTask). g.ready.index) (bare (parts_of b)).calls b.ready_calls n
    ready_spare_kept spare = subst (λ (y : CoreParts). IsSpare (λ (g : GuestTask). g.ready.index) (bare (parts_of y)).calls b.ready_calls n) (sym ext.only) (spare_grown _ _ a.ready_calls b.ready_calls n ext.ready_calls spare)

    pub place_loose_kept : IsLoose (place_chain (bare (parts_of a))) a.places n → IsLoose (place_chain (bare (parts_of b))) b.places n
    place_loose_kept loose = subst (λ (y : CoreParts). IsLoose (place_chain (bare (parts_of y))) b.places n) (sym ext.only) (loose_grown _ a.places b.places n ext.places loose)

    wait_spare_kept : IsSpareWait (bare (parts_of a)) n → IsSpareWait (bare (parts_of b)) n
    wait_spare_kept spare = subst (λ (y : CoreParts). IsSpareWait (record (bare (parts_of y)) { waits = b.waits }) n) (sym ext.only)
        (record { made = ap spot_is_made same ∙ spare.made; free = ap spot_link same ∙ spare.free; apart = spare.apart })
      where
        same : spot_at b.waits n ≡ spot_at a.waits n
        same = ext.waits n (λ none. absurd (let here : ◌≡◌ {A = Bool} true false = sym spare.made ∙ ap spot_is_made none in cc))

    wait_chain_kept : IsLoose (wait_chain (bare (parts_of a))) a.waits n → IsLoose (wait_chain (bare (parts_of b))) b.waits n
    wait_chain_kept loose = subst (λ (y : CoreParts). IsLoose (wait_chain (bare (parts_of y))) b.waits n) (sym ext.only) (loose_grown _ a.waits b.waits n ext.waits loose)

    abbrev NoWork : CoreParts → Type 0
    NoWork y = (rep : ℕ) (w : Placed (Single WorkRecord)) → place_at (bare (parts_of y)).works rep ≡ Some w → w.entry.item.mark.index ≡ n → ⊥

    pub no_work_kept : NoWork a → NoWork b
    no_work_kept none = subst NoWork (sym ext.only) none

  -- a node and a chain of waiting threads that hang on nothing, where there are such
  pub wait_loose_kept : (keeps : Bool) (o : Option Node) → IsWaitLoose (bare (parts_of a)) keeps o → IsWaitLoose (bare (parts_of b)) keeps o
  wait_loose_kept keeps None loose = record { is = loose.is; made = tt; free = tt; apart = tt }
  wait_loose_kept keeps (Some node) loose =
      let one = wait_spare_kept node.index (record { made = loose.made; free = loose.free; apart = loose.apart }) in
      record { is = loose.is; made = one.made; free = one.free; apart = one.apart }

  pub wait_chain_loose_kept : (keeps : Bool) (o : Option ℕ) → IsWaitChainLoose (bare (parts_of a)) keeps o → IsWaitChainLoose (bare (parts_of b)) keeps o
  wait_chain_loose_kept keeps None loose = record { is = loose.is; loose = tt }
  wait_chain_loose_kept keeps (Some c) loose = record { is = loose.is; loose = wait_chain_kept c loose.loose }

  module _ (sound : IsSoundCore a) (n : ℕ) where
    -- a node that is made has no thread yet
    wait_apart : spot_at a.waits n ≡ Unmade → (r : ℕ) (q : Placed (Single GuestThread)) → place_at (bare (parts_of a)).threads r ≡ Some q → wait_node_of q.entry.item ≡ Some n → ⊥
    unfolding IsSoundCore
    wait_apart none r q at same = by q.entry.item.wait refl same
      where
        by : (o : Option Node) → q.entry.item.wait ≡ o → option_map (λ (m : Node). m.index) o ≡ Some n → ⊥
        by None is same = absurd (cc)
        by (Some node) is same =
            let f : Node → Filing ℕ OrderKey = λ m. record { node = m.index; key = waits_in q.entry.item.thread.place q.entry.item.thread.call; value = member_order_key q.entry.item.entry r } in
            let made = sound.whole.chained.waits.made r (f node) (filings_at wait_filing (bare (parts_of a)).threads r (Some q) at ∙ ap (option_map f) is) in
            absurd (let here : ◌≡◌ {A = Bool} true false = sym made ∙ (ap (is_made a.waits) (same_Some node.index n same) ∙ ap spot_is_made none) in cc)

    pub wait_node_new : Renames a.waits b.waits n Unmade FreeNode → IsSpareWait (bare (parts_of b)) n
    wait_node_new names = subst (λ (y : CoreParts). IsSpareWait (record (bare (parts_of y)) { waits = b.waits }) n) (sym ext.only)
        (record { made = ap spot_is_made names.names; free = ap spot_link names.names; apart = wait_apart names.named })

    pub wait_chain_new : Renames a.waits b.waits n Unmade (ChainOf []) → IsLoose (wait_chain (bare (parts_of b))) b.waits n
    unfolding IsSoundCore
    wait_chain_new names = subst (λ (y : CoreParts). IsLoose (wait_chain (bare (parts_of y))) b.waits n) (sym ext.only)
        (loose_index (wait_chain (bare (parts_of a))) a.waits b.waits (filings wait_filing (bare (parts_of a)).threads) sound.whole.chained.waits n names)

    pub place_node_new : Renames a.places b.places n Unmade FreeNode → IsSpare (λ (g : GuestThread). g.node.index) (bare (parts_of b)).threads b.places n
    unfolding IsSoundCore
    place_node_new names = subst (λ (y : CoreParts). IsSpare (λ (g : GuestThread). g.node.index) (bare (parts_of y)).threads b.places n) (sym ext.only)
        (spare_made _ _ a.places b.places n (filed_made (λ (g : GuestThread). g.node.index) (λ g. where_at g.instance g.barred g.thread.place) (thread_order_key a.version) (place_chain (bare (parts_of a))) (bare (parts_of a)).threads a.places sound.whole.chained.places) names)

    pub place_chain_new : Renames a.places b.places n Unmade (ChainOf []) → IsLoose (place_chain (bare (parts_of b))) b.places n
    unfolding IsSoundCore
    place_chain_new names = subst (λ (y : CoreParts). IsLoose (place_chain (bare (parts_of y))) b.places n) (sym ext.only)
        (loose_index (place_chain (bare (parts_of a))) a.places b.places (filings (place_filing a.version) (bare (parts_of a)).threads) sound.whole.chained.places n names)

    pub ready_node_new : Renames a.ready_calls b.ready_calls n Unmade FreeNode → IsSpare (λ (g : GuestTask). g.ready.index) (bare (parts_of b)).calls b.ready_calls n
    unfolding IsSoundCore
    ready_node_new names = subst (λ (y : CoreParts). IsSpare (λ (g : GuestTask). g.ready.index) (bare (parts_of y)).calls b.ready_calls n) (sym ext.only)
        (spare_made _ _ a.ready_calls b.ready_calls n (filed_made (λ (g : GuestTask). g.ready.index) (λ g. ready_in g.call.event g.call.join) (λ r g. member_order_key g.entry r) (ready_call_chain (bare (parts_of a))) (bare (parts_of a)).calls a.ready_calls sound.whole.chained.ready_calls) names)

    pub mark_node_new : Renames a.marks b.marks n Unmade FreeNode → IsSpare (λ (g : GuestThread). g.mark.index) (bare (parts_of b)).threads b.marks n
    unfolding IsSoundCore
    mark_node_new names = subst (λ (y : CoreParts). IsSpare (λ (g : GuestThread). g.mark.index) (bare (parts_of y)).threads b.marks n) (sym ext.only) (spare_made _ _ a.marks b.marks n sound.whole.nodes.marks.made names)

    pub mark_no_work : Renames a.marks b.marks n Unmade FreeNode → NoWork n b
    unfolding IsSoundCore
    mark_no_work names = subst (NoWork n) (sym ext.only) (spare_made (λ (w : WorkRecord). w.mark.index) (bare (parts_of a)).works a.marks b.marks n sound.whole.nodes.works.made names).apart

    pub instance_queue_node_new : Renames a.instance_queues b.instance_queues n Unmade FreeNode → IsSpare (λ (g : GuestThread). g.instance_queue.index) (bare (parts_of b)).threads b.instance_queues n
    unfolding IsSoundCore
    instance_queue_node_new names = subst (λ (y : CoreParts). IsSpare (λ (g : GuestThread). g.instance_queue.index) (bare (parts_of y)).threads b.instance_queues n) (sym ext.only) (spare_made _ _ a.instance_queues b.instance_queues n sound.whole.nodes.instance_queues.made names)

    pub caller_node_new : Renames a.behind b.behind n Unmade FreeNode → IsSpare (λ (g : GuestThread). g.caller.index) (bare (parts_of b)).threads b.behind n
    unfolding IsSoundCore
    caller_node_new names = subst (λ (y : CoreParts). IsSpare (λ (g : GuestThread). g.caller.index) (bare (parts_of y)).threads b.behind n) (sym ext.only) (spare_made _ _ a.behind b.behind n sound.whole.nodes.callers.made names)

    pub callers_chain_new : Renames a.behind b.behind n Unmade (ChainOf []) → IsLoose (callers_chain (bare (parts_of b))) b.behind n
    unfolding IsSoundCore
    callers_chain_new names = subst (λ (y : CoreParts). IsLoose (callers_chain (bare (parts_of y))) b.behind n) (sym ext.only)
        (loose_row (callers_chain (bare (parts_of a))) (λ f. f.node.index) (IsFollower (bare (parts_of a))) a.behind b.behind (callers_row (bare (parts_of a))) sound.whole.chained.behind n names)

pub call_loose_kept : (a b : CoreParts) → Extends a b → (keeps : Bool) (n : CallNodes) → AreCallLoose (bare (parts_of a)) keeps n → AreCallLoose (bare (parts_of b)) keeps n
call_loose_kept a b ext keeps n loose = record { waits = wait_chain_loose_kept a b ext keeps n.waits loose.waits; ready = ready_spare_kept a b ext n.ready.index loose.ready; blocked = place_loose_kept a b ext n.blocked loose.blocked }

-- two chains of one list, where the one was there before the other
pub chains_apart : {K P : Type 0} (chain : K → Option ℕ) (links : List (Spot P)) (c d : ℕ) → IsLoose chain links c → spot_at links d ≡ Unmade → d ≡ c → ⊥
chains_apart {P = P} chain links c d loose none same = absurd (let here : ◌≡◌ {A = Option (List (ℕ × P))} (Some []) None = sym loose.empty ∙ (ap (list_of links) (sym same) ∙ ap spot_list none) in cc)

-- ---- Those of a thread, in the order in which they are made

module _ (a b c w d e f h : CoreParts) (keeps : Bool) (n : ThreadNodes) (sound_a : IsSoundCore a) (sound_b : IsSoundCore b) (sound_w : IsSoundCore w) (sound_d : IsSoundCore d) (sound_e : IsSoundCore e) (sound_f : IsSoundCore f)
    (only_b : b ≡ record a { places = b.places }) (only_c : c ≡ record b { places = c.places }) (cw : Extends c w) (wait : IsWaitLoose (bare (parts_of w)) keeps n.wait) (only_d : d ≡ record w { marks = d.marks }) (only_e : e ≡ record d { instance_queues = e.instance_queues }) (only_f : f ≡ record e { behind = f.behind }) (only_h : h ≡ record f { behind = h.behind })
    (under : Renames a.places b.places n.under Unmade (ChainOf [])) (node : Renames b.places c.places n.node.index Unmade FreeNode) (mark : Renames w.marks d.marks n.mark.index Unmade FreeNode) (instance_queue : Renames d.instance_queues e.instance_queues n.instance_queue.index Unmade FreeNode) (caller : Renames e.behind f.behind n.caller.index Unmade FreeNode) (callers : Renames f.behind h.behind n.callers Unmade (ChainOf [])) where
  ab : Extends a b
  ab = extends_places a b (grown_by _ _ n.under (ChainOf []) under) only_b

  bc : Extends b c
  bc = extends_places b c (grown_by _ _ n.node.index FreeNode node) only_c

  wd : Extends w d
  wd = extends_marks w d (grown_by _ _ n.mark.index FreeNode mark) only_d

  de : Extends d e
  de = extends_instance_queues d e (grown_by _ _ n.instance_queue.index FreeNode instance_queue) only_e

  ef : Extends e f
  ef = extends_behind e f (grown_by _ _ n.caller.index FreeNode caller) only_f

  fh : Extends f h
  fh = extends_behind f h (grown_by _ _ n.callers (ChainOf []) callers) only_h

  eh : Extends e h
  eh = extends_on e f h ef fh

  dh : Extends d h
  dh = extends_on d e h de eh

  wh : Extends w h
  wh = extends_on w d h wd dh

  ch : Extends c h
  ch = extends_on c w h cw wh

  bh : Extends b h
  bh = extends_on b c h bc ch

  pub thread_nodes_extend : Extends a h
  thread_nodes_extend = extends_on a b h ab bh

  pub thread_nodes_loose : AreThreadLoose (bare (parts_of h)) keeps n
  thread_nodes_loose = record {
    wait = wait_loose_kept w h wh keeps n.wait wait;
    node = place_spare_kept c h ch n.node.index (place_node_new b c bc sound_b n.node.index node);
    mark = mark_spare_kept d h dh n.mark.index (mark_node_new w d wd sound_w n.mark.index mark);
    instance_queue = instance_queue_spare_kept e h eh n.instance_queue.index (instance_queue_node_new d e de sound_d n.instance_queue.index instance_queue);
    caller = caller_spare_kept f h fh n.caller.index (caller_node_new e f ef sound_e n.caller.index caller);
    callers = callers_chain_new f h fh sound_f n.callers callers;
    under = place_loose_kept b h bh n.under (place_chain_new a b ab sound_a n.under under);
    no_work = no_work_kept d h dh n.mark.index (mark_no_work w d wd sound_w n.mark.index mark);
  }

-- ---- Those of a call

module _ (a b c w : CoreParts) (keeps : Bool) (n : CallNodes) (sound_a : IsSoundCore a) (sound_b : IsSoundCore b) (only_b : b ≡ record a { ready_calls = b.ready_calls }) (only_c : c ≡ record b { places = c.places }) (ready : Renames a.ready_calls b.ready_calls n.ready.index Unmade FreeNode) (blocked : Renames b.places c.places n.blocked Unmade (ChainOf [])) (cw : Extends c w) (waits : IsWaitChainLoose (bare (parts_of w)) keeps n.waits) where
  ready_extends : Extends a b
  ready_extends = extends_ready_calls a b (grown_by _ _ n.ready.index FreeNode ready) only_b

  blocked_extends : Extends b c
  blocked_extends = extends_places b c (grown_by _ _ n.blocked (ChainOf []) blocked) only_c

  bw : Extends b w
  bw = extends_on b c w blocked_extends cw

  pub call_nodes_extend : Extends a w
  call_nodes_extend = extends_on a b w ready_extends bw

  pub call_nodes_loose : AreCallLoose (bare (parts_of w)) keeps n
  call_nodes_loose = record {
    waits = waits;
    ready = ready_spare_kept b w bw n.ready.index (ready_node_new a b ready_extends sound_a n.ready.index ready);
    blocked = place_loose_kept c w cw n.blocked (place_chain_new b c blocked_extends sound_b n.blocked blocked);
  }
