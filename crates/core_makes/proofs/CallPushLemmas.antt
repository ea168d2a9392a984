-- A call more, whose node and chain hung on nothing: the chains and the nodes of the parts.
use Rattle.core_records.proofs.Core.{ap, AreApart, AreChained, arith, BlockedOn, call_key, cases_eq, filings, found_record, HaveRowNodes, HeldIn, inl, inr, IsTable, Kinds, None, CoreImage, place_chain, place_filing, pushed, ready_call_chain, ready_in, refl, same_Some, Some, Subtask, sym, UnderOf, WaitsOn, Where, ℕ, ◌<◌, ◌∙◌, ◌≡◌, ◌⊎◌, StartsIn, Bool, IfSome, IsIndex, IsIndex-same_chains, Option, option_and_then, place_at, Placed, wait_chain, wait_filing}
use Rattle.core_records.specs.declared.{call_records.GuestTask.GuestTask, single.Single.Single, thread_records.GuestThread.GuestThread}
use Rattle.core_makes.proofs.FreshLemmas.{chain_new, chain_other}
use Rattle.core_makes.proofs.LooseLemmas.{IsIndex-opened}
use Rattle.core_makes.proofs.MoreLemmas.{index_more}
use Rattle.core_makes.proofs.ThreadPushLemmas.{PlacesNamed, none_in_list, none_waits}
use Rattle.core_makes.specs.Loose.{IsLoose}
use Rattle.core_makes.specs.LooseCalls.{AreCallLoose}
use Rattle.core_queues.proofs.CallerLemmas.{none_as}
use Rattle.core_makes.specs.declared.node_makes.CallNodes.{CallNodes}
use Rattle.core_records.specs.RecordPlaces.{member_order_key}

abbrev guest_in : Where → ℕ
guest_in (BlockedOn (Subtask.Guest k)) = k
guest_in _ = 0

blocked_is : (n : ℕ) (k : Where) → (k ≡ BlockedOn (Subtask.Guest n)) ⊎ (k ≡ BlockedOn (Subtask.Guest n) → ⊥)
blocked_is n (WaitsOn x) = inr (λ same. absurd (cc))
blocked_is n (StartsIn i) = inr (λ same. absurd (cc))
blocked_is n (HeldIn i) = inr (λ same. absurd (cc))
blocked_is n (UnderOf m) = inr (λ same. absurd (cc))
blocked_is n (BlockedOn (Subtask.Guest k)) = elim (cases_eq k n) [
  | inl same ↦ inl (ap (λ m. BlockedOn (Subtask.Guest m)) same)
  | inr other ↦ inr (λ same. other (ap guest_in same))
]
blocked_is n (BlockedOn (Subtask.Host i)) = inr (λ same. absurd (cc))

abbrev pub nodes_of : GuestTask → CallNodes
nodes_of g = record { ready = g.ready; blocked = g.blocked; waits = g.waits }

module _ (p : CoreImage) (g : GuestTask) (keeps : Bool) (table : IsTable p.calls) (apart : AreApart call_key p.calls.places) (new : found_record call_key g.number p.calls.places ≡ None) (loose : AreCallLoose p keeps (nodes_of g)) where
  abbrev pub with_call : CoreImage
  with_call = record p { calls = pushed (record { item = g }) p.calls }

  place_others : (k : Where) → (k ≡ BlockedOn (Subtask.Guest g.number) → ⊥) → place_chain with_call k ≡ place_chain p k
  place_others (WaitsOn n) other = refl
  place_others (StartsIn i) other = refl
  place_others (HeldIn i) other = refl
  place_others (UnderOf n) other = refl
  place_others (BlockedOn (Subtask.Guest k)) other = chain_other (λ (h : GuestTask). h.number) (λ (h : GuestTask). h.call) (λ (h : GuestTask). h.blocked) p.calls g table apart new k (λ same. other (ap (λ m. BlockedOn (Subtask.Guest m)) same))
  place_others (BlockedOn (Subtask.Host i)) other = refl

  has_blocked : place_chain with_call (BlockedOn (Subtask.Guest g.number)) ≡ Some g.blocked
  has_blocked = chain_new (λ (h : GuestTask). h.number) (λ (h : GuestTask). h.call) (λ (h : GuestTask). h.blocked) p.calls g table apart new

  -- a chain that was nobody's is nobody's still, if it isn't the call's
  pub nobody_still : (d : ℕ) → (d ≡ g.blocked → ⊥) → ((k : Where) → place_chain p k ≡ Some d → ⊥) → (k : Where) → place_chain with_call k ≡ Some d → ⊥
  nobody_still d other nobody k is = elim (blocked_is g.number k) [
    | inl same ↦ other (same_Some d g.blocked (sym is ∙ (ap (place_chain with_call) same ∙ has_blocked)))
    | inr not_it ↦ nobody k (sym (place_others k not_it) ∙ is)
  ]

  -- ---- Its waiting threads

  wait_others : (k : ℕ) → (k ≡ g.number → ⊥) → wait_chain with_call k ≡ wait_chain p k
  wait_others k other = ap (option_and_then (λ c. c)) (chain_other (λ (h : GuestTask). h.number) (λ (h : GuestTask). h.call) (λ (h : GuestTask). h.waits) p.calls g table apart new k other)

  has_waits : wait_chain with_call g.number ≡ g.waits
  has_waits = ap (option_and_then (λ c. c)) (chain_new (λ (h : GuestTask). h.number) (λ (h : GuestTask). h.call) (λ (h : GuestTask). h.waits) p.calls g table apart new)

  no_waits : wait_chain p g.number ≡ None
  no_waits = ap (option_and_then (λ c. c)) (none_as (λ (h : GuestTask). h.number) (λ (h : GuestTask). h.call) (λ (h : GuestTask). h.waits) g.number p.calls.places new)

  waits_more : ((r : ℕ) (q : Placed (Single GuestThread)) → place_at p.threads r ≡ Some q → q.entry.item.thread.call ≡ g.number → ⊥) →
      IsIndex (wait_chain p) p.waits (filings wait_filing p.threads) → IsIndex (wait_chain with_call) p.waits (filings wait_filing p.threads)
  waits_more nobody was = by g.waits refl loose.waits.loose
    where
      by : (o : Option ℕ) → g.waits ≡ o → IfSome o (IsLoose (wait_chain p) p.waits) → IsIndex (wait_chain with_call) p.waits (filings wait_filing p.threads)
      by None is it = IsIndex-same_chains (wait_chain p) p.waits (filings wait_filing p.threads) was (wait_chain with_call) (λ k. elim (cases_eq k g.number) [
        | inl same ↦ ap (wait_chain with_call) same ∙ (has_waits ∙ is) ∙ sym (ap (wait_chain p) same ∙ no_waits)
        | inr other ↦ wait_others k other
      ])
      by (Some c) is it = IsIndex-opened (wait_chain p) (wait_chain with_call) p.waits g.number (λ k. cases_eq k g.number) wait_others c (has_waits ∙ is) it (filings wait_filing p.threads) was (none_waits p.threads g.number nobody)

  pub call_chained : (k : Kinds) → k.made.threads < g.number → PlacesNamed k p.threads → ((r : ℕ) (q : Placed (Single GuestThread)) → place_at p.threads r ≡ Some q → q.entry.item.thread.call ≡ g.number → ⊥) → ready_in g.call.event g.call.join ≡ None → AreChained p → AreChained with_call
  call_chained k later named nobody unfiled was = record {
    places = IsIndex-opened (place_chain p) (place_chain with_call) p.places (BlockedOn (Subtask.Guest g.number)) (blocked_is g.number) place_others g.blocked has_blocked loose.blocked (filings (place_filing p.version) p.threads) was.places
        (none_in_list p.version k p.threads (BlockedOn (Subtask.Guest g.number)) named (λ rep at. let few = at.0 in omega arith));
    waits = waits_more nobody was.waits;
    ready_calls = index_more p.calls g table (λ h. h.ready.index) (λ h. ready_in h.call.event h.call.join) (λ r h. member_order_key h.entry r) p.ready_calls loose.ready (ready_call_chain p) was.ready_calls unfiled;
    ready_works = was.ready_works;
    polled = was.polled;
    rising = was.rising;
    marks = was.marks;
    instance_queues = was.instance_queues;
    low = was.low;
    behind = was.behind;
  }

  pub call_nodes : HaveRowNodes p → HaveRowNodes with_call
  call_nodes was = record { marks = was.marks; instance_queues = was.instance_queues; callers = was.callers; works = was.works; apart = was.apart }
