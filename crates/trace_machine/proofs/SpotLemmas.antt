-- Where the next step chooses, and what is there for the search.
use Rattle.choice_offers.specs.Listings.{HandlesKnown}
use Rattle.choice_offers.specs.Spots.{IsTakingThere, Offers}
use Rattle.choice_offers.specs.Takes.{IsEntryThere, IsThreadThere}
use Rattle.choice_offers.specs.declared.spots.Spot.{Spot}
use Rattle.core_primitives.specs.Live.{delivered_set}
use Rattle.core_primitives.specs.Names.{entry_in}
use Rattle.core_primitives.specs.StateView.{StateView, set_of, thread_of, work_of}
use Rattle.core_primitives.specs.declared.names.EntryId.TheVariants as entries
use Rattle.core_primitives.specs.declared.names.EntryId.{EntryId}
use Rattle.laws_choices.specs.Offer.{Offer}
use Rattle.laws_choices.specs.Offers.{nothing, of_found, op_offer, take_offer, turn_offer}
use Rattle.choice_offers.proofs.PoppedLemmas.{popped_take}
use Rattle.laws_choices.specs.Offers.{offer}
use Rattle.laws_picks.specs.Wants.{chooser_at}
use Rattle.laws_states.proofs.MemberLemmas.{members_named}
use Rattle.laws_states.specs.Order.{InOrder, IsOf, is_open, set_of_place}
use Rattle.machine_data.specs.Core.{Core, State, Unscripted}
use Rattle.machine_data.specs.Maps.{get}
use Rattle.machine_data.specs.Moves.{ready_why, why_of}
use Rattle.machine_data.specs.Read.{instance_of, next_entry, place_of}
use Rattle.machine_data.specs.declared.component.Component.{Component}
use Rattle.machine_data.specs.declared.records.Entry.TheVariants as entry
use Rattle.machine_data.specs.declared.records.Entry.{Entry}
use Rattle.machine_data.specs.declared.records.Place.TheVariants as place
use Rattle.machine_data.specs.declared.records.Place.{Place}
use Rattle.machine_data.specs.declared.records.Subtask.TheVariants as subtask
use Rattle.machine_data.specs.declared.records.Subtask.{Subtask}
use Rattle.machine_data.specs.declared.records.Turn.TheVariants as turn
use Rattle.machine_data.specs.declared.records.Turn.{Turn}
use Rattle.machine_data.specs.declared.records.Why.TheVariants as why
use Rattle.machine_data.specs.declared.records.Why.{Why}
use Rattle.machine_data.specs.declared.statuses.Mark.{Mark}
use Rattle.machine_rules.specs.Scripts.{op_of}
use Rattle.machine_rules.specs.Stalled.{Setting}
use Rattle.machine_rules.specs.Step.{entry_number}
use Rattle.machine_rules.specs.Takes.{popped}
use Rattle.ops_dispatch.specs.Runner.{Runner}
use Rattle.ops_guests.specs.PickedEvents.{MembersNamed}
use Rattle.ops_moves.specs.Idle.{IsJoinThere}
use Rattle.ops_turns.proofs.OrderLemmas.{number_at, runner, some_from}
use Rattle.ops_turns.proofs.TakenLemmas.{popped_place, taken}
use Rattle.ops_turns.specs.Taken.{Taken}
use Rattle.ops_turns.specs.Turn.{CoreInOrder, running_of, runs_in, state_at}
use Rattle.std.proofs.Common.{ap, arith, refl, subst, sym, ◌∙◌}
use Rattle.std.specs.Option.{option_and_then, option_map_or}
use Rattle.std.specs.Prelude.{Bool, IfSome, None, Option, Some, option_map, true, ℕ, ◌<◌, ◌≡◌}
use Rattle.task_table.specs.declared.id.TableId.{TableId}
use Rattle.task_wait.specs.declared.keys.SetKey.{SetKey}
use Rattle.task_wait.specs.declared.keys.ThreadKey.{ThreadKey}
use Rattle.trace_machine.specs.Machines.{IsKept, MayGoOn, chooser_of, setting_at, state_of, turn_at}
use Rattle.trace_machine.specs.declared.machine.Machine.{Machine}

-- ---- What is there for the search

delivered_place : (o : Option Place) (x : ℕ) → delivered_set (option_map_or ready_why o why.Resumption) ≡ Some x → option_and_then set_of_place o ≡ Some x
delivered_place o x e = grind arith

-- the record of what a handle names says the handle
pub order_names : (c : Component) (s : State) → InOrder c s → HandlesKnown s.core
order_names c s o i h (subtask.Guest k) at = o.names.there i h k at
order_names c s o i h (subtask.Host k) at = o.works_known.there i h k at

module _ (c : Component) (p : Turn) (s : Core) (in_turn : CoreInOrder c p s) where
  known : InOrder c (state_at s Unscripted p)
  known = in_turn.order Unscripted

  -- the set to which something is joined
  pub joined : (sub : Subtask) → IsJoinThere sub s
  joined sub x e = let j = known.joins_named.joins sub x e in some_from _ (get s.sets x) j.instance j.home

  -- the set of a delivery
  pub set_home : (n x : ℕ) → delivered_set (why_of n s) ≡ Some x → IsOf (instance_of n s) x s
  set_home n x e = known.waits.by_place n x (delivered_place (place_of n s) x e)

  pub set_members : (n x : ℕ) → delivered_set (why_of n s) ≡ Some x → MembersNamed (instance_of n s) x s
  set_members n x e = members_named s known.joins_named known.names known.works_known (instance_of n s) x (set_home n x e)

module _ (c : Component) (ended : Bool) (s : StateView) (in_turn : CoreInOrder c (turn.Take ended) s.core) (none : get s.core.threads 0 ≡ None) where
  ready : (m : Mark) (n : ℕ) → next_entry s.core ≡ Some (m, entry.Thread n) → Taken m n (popped m s.core)
  ready m n next = taken c ended s.core in_turn none m n next

  -- the thread's place says why it has its entry
  placed : (m : Mark) (n : ℕ) → Taken m n (popped m s.core) → place_of n s.core ≡ Some (place.Ready m (why_of n s.core))
  placed m n t =
      let there : place_of n s.core ≡ Some (place.Ready m (why_of n (popped m s.core))) = sym (popped_place m n s.core) ∙ t.stands.here in
      let same : why_of n s.core ≡ why_of n (popped m s.core) = ap (λ (o : Option Place). option_map_or ready_why o why.Resumption) there in
      there ∙ ap (λ (w : Why). Some (place.Ready m w)) (sym same)

  thread_there : (m : Mark) (id : TableId ThreadKey) → next_entry s.core ≡ Some (m, entry.Thread (thread_of s id)) → IsThreadThere id s
  thread_there m id next =
      let t = ready m (thread_of s id) next in
      record {
        live = t.live;
        mark = m;
        place = placed m (thread_of s id) t;
        join = joined c (turn.Take ended) s.core in_turn (subtask.Guest _);
        set = λ x e. some_from _ (get s.core.sets x) (instance_of (thread_of s id) s.core) (set_home c (turn.Take ended) s.core in_turn (thread_of s id) x e);
        members = λ x e. set_members c (turn.Take ended) s.core in_turn (thread_of s id) x e;
      }

  -- the entry that is taken next
  pub entry_there : (m : Mark) (e : EntryId) → next_entry s.core ≡ Some (m, entry_in s.tags e) → IsEntryThere e s
  entry_there m (entries.Thread id) next = thread_there m id next
  entry_there m (entries.Push w) next = tt
  entry_there m (entries.Host w) next = joined c (turn.Take ended) s.core in_turn (subtask.Host (work_of s w))

-- ---- What is offered in each turn

module _ (x : Setting) (s : StateView) (p : Spot) where
  -- the thread of this number runs
  pub runs_at : (q : Turn) (n k : ℕ) → q ≡ turn.Run n → k ≡ n → Offers s k p (op_offer k s.core (op_of x.component k s.core)) →
      Offers s (chooser_at s.core q) p (turn_offer x s.core q)
  runs_at q n k at named offers =
      subst (λ (r : Turn). Offers s (chooser_at s.core r) p (turn_offer x s.core r)) (sym at)
      (subst (λ (j : ℕ). Offers s j p (op_offer j s.core (op_of x.component j s.core))) named offers)

  found_at : (ended : Bool) (m : Mark) (e : Entry) (o : Option (Mark × Entry)) → o ≡ Some (m, e) → Offers s (entry_number e) p (take_offer s.core e) →
      Offers s (option_map_or (λ (k : Mark × Entry). entry_number k.1) o 0) p (of_found o (λ k. take_offer (popped k.0 s.core) k.1))
  found_at ended m e o next offers =
      subst (λ (r : Option (Mark × Entry)). Offers s (option_map_or (λ (k : Mark × Entry). entry_number k.1) r 0) p (of_found r (λ k. take_offer (popped k.0 s.core) k.1))) (sym next)
      (subst (λ (f : Offer). Offers s (entry_number e) p f) (sym (popped_take m s.core e)) offers)

  -- this entry is taken
  pub takes_at : (q : Turn) (ended : Bool) (m : Mark) (e : Entry) → q ≡ turn.Take ended → next_entry s.core ≡ Some (m, e) →
      Offers s (entry_number e) p (take_offer s.core e) → Offers s (chooser_at s.core q) p (turn_offer x s.core q)
  takes_at q ended m e at next offers =
      subst (λ (r : Turn). Offers s (chooser_at s.core r) p (turn_offer x s.core r)) (sym at) (found_at ended m e (next_entry s.core) next offers)

  none_at : (o : Option (Mark × Entry)) → o ≡ None → Offers s 0 p nothing →
      Offers s (option_map_or (λ (k : Mark × Entry). entry_number k.1) o 0) p (of_found o (λ k. take_offer (popped k.0 s.core) k.1))
  none_at o next offers =
      subst (λ (r : Option (Mark × Entry)). Offers s (option_map_or (λ (k : Mark × Entry). entry_number k.1) r 0) p (of_found r (λ k. take_offer (popped k.0 s.core) k.1))) (sym next) offers

  -- none is there
  pub takes_none : (q : Turn) (ended : Bool) → q ≡ turn.Take ended → next_entry s.core ≡ None → Offers s 0 p nothing →
      Offers s (chooser_at s.core q) p (turn_offer x s.core q)
  takes_none q ended at next offers =
      subst (λ (r : Turn). Offers s (chooser_at s.core r) p (turn_offer x s.core r)) (sym at) (none_at (next_entry s.core) next offers)

-- ---- Of a machine

module _ (m : Machine) (kept : IsKept m) where
  abbrev pub comp : Component
  comp = m.scenario.now.component

  turn_is : (q : Turn) → m.turn ≡ q → turn_at m ≡ q
  turn_is q at = sym kept.turn ∙ at

  may : (q : Turn) → m.turn ≡ q → is_open q ≡ true → MayGoOn m
  may q at opened = kept.may_go_on (ap is_open (turn_is q at) ∙ opened)

  in_turn_of : (q : Turn) → m.turn ≡ q → is_open q ≡ true → CoreInOrder comp q m.store.state.core
  in_turn_of q at opened = subst (λ (r : Turn). CoreInOrder comp r m.store.state.core) (turn_is q at) (may q at opened).order

  running_at : (n : ℕ) → m.turn ≡ turn.Run n → running_of m.store.state ≡ Some n
  running_at n at = (may (turn.Run n) at refl).running ∙ ap runs_in (turn_is (turn.Run n) at)

  -- the thread that runs, as its op needs it
  pub run_runner : (n : ℕ) → m.turn ≡ turn.Run n → get m.store.state.core.threads 0 ≡ None → (id : TableId ThreadKey) → m.store.state.current ≡ Some id → Runner id m.store.state
  run_runner n at none id current = runner comp n m.store.state (in_turn_of (turn.Run n) at refl) none (running_at n at) id current

  -- one runs
  pub run_some : (n : ℕ) → m.turn ≡ turn.Run n → m.store.state.current ≡ None → ⊥
  run_some n at none = absurd (let h : option_map (λ id. thread_of m.store.state id) m.store.state.current ≡ Some n = running_at n at in let e = sym (ap (option_map (λ id. thread_of m.store.state id)) none) ∙ h in cc)

  pub run_offers : (n : ℕ) → m.turn ≡ turn.Run n → (id : TableId ThreadKey) → m.store.state.current ≡ Some id → (p : Spot) →
      Offers m.store.state (thread_of m.store.state id) p (op_offer (thread_of m.store.state id) m.store.state.core (op_of comp (thread_of m.store.state id) m.store.state.core)) →
      Offers m.store.state (chooser_of m) p (offer (setting_at m) (state_of m))
  run_offers n at id current p offers =
      runs_at (setting_at m) m.store.state p (turn_at m) n (thread_of m.store.state id) (turn_is (turn.Run n) at) (number_at n m.store.state (running_at n at) id current) offers

  -- the entry that is next
  pub take_there : (ended : Bool) → m.turn ≡ turn.Take ended → get m.store.state.core.threads 0 ≡ None → (k : Mark) (e : EntryId) →
      next_entry m.store.state.core ≡ Some (k, entry_in m.store.state.tags e) → IsEntryThere e m.store.state
  take_there ended at none k e next = entry_there comp ended m.store.state (in_turn_of (turn.Take ended) at refl) none k e next

  pub take_offers : (ended : Bool) → m.turn ≡ turn.Take ended → (k : Mark) (e : Entry) → next_entry m.store.state.core ≡ Some (k, e) → (p : Spot) →
      Offers m.store.state (entry_number e) p (take_offer m.store.state.core e) → Offers m.store.state (chooser_of m) p (offer (setting_at m) (state_of m))
  take_offers ended at k e next p offers = takes_at (setting_at m) m.store.state p (turn_at m) ended k e (turn_is (turn.Take ended) at) next offers

  pub take_nothing : (ended : Bool) → m.turn ≡ turn.Take ended → next_entry m.store.state.core ≡ None → (p : Spot) → Offers m.store.state 0 p nothing →
      Offers m.store.state (chooser_of m) p (offer (setting_at m) (state_of m))
  take_nothing ended at next p offers = takes_none (setting_at m) m.store.state p (turn_at m) ended (turn_is (turn.Take ended) at) next offers

  -- other turns choose nothing
  pub else_nothing : (q : Turn) → m.turn ≡ q → chooser_at m.store.state.core q ≡ 0 → turn_offer (setting_at m) m.store.state.core q ≡ nothing → (p : Spot) →
      Offers m.store.state 0 p nothing → Offers m.store.state (chooser_of m) p (offer (setting_at m) (state_of m))
  else_nothing q at zero none p offers =
      subst (λ (r : Turn). Offers m.store.state (chooser_at m.store.state.core r) p (turn_offer (setting_at m) m.store.state.core r)) (sym (turn_is q at))
      (subst (λ (k : ℕ). Offers m.store.state k p (turn_offer (setting_at m) m.store.state.core q)) (sym zero)
      (subst (λ (f : Offer). Offers m.store.state 0 p f) (sym none) offers))

-- the set of which a member is taken is there
pub taking_live : (s : StateView) (n : ℕ) (takes : Option (TableId SetKey)) → IfSome takes (IsTakingThere s n) → IfSome takes (λ x. 0 < set_of s x)
taking_live s n None there = tt
taking_live s n (Some x) there = there.live
