-- A set more, with chains that hung on nothing: the parts stay whole.
use Rattle.core_records.proofs.Core.{ap, ap₂, arith, AtPlace, BlockedOn, Call, call_key, CallOf, cases_eq, core_of, EachEntry, entries_for, false, Filing, filings, found_record, get-records, HasHome, HeldIn, inl, inr, is_in_set, IsCallNamed, IsSetKept, IsWhole, IsWorkNamed, keeps_set, key_in, kinds, members_of, None, Nothing, Option, CoreImage, place_at, place_chain, place_filing, Placed, pushed, ready_call, ready_call_chain, ready_in, ready_work, ready_work_chain, Records, records, refl, said, same_Some, Set, set_key, SetOf, size, size-insert_new, Some, SoundTable, Subtask, sym, Table, table_use, Target, Thread, thread_key, ThreadOf, UnderOf, WaitsOn, Where, where_at, Work, work_key, WorkOf, ℕ, ◌+◌, ◌<◌, ◌∙◌, ◌≡◌, ◌⊎◌, StartsIn}
use Rattle.core_records.specs.declared.{call_records.GuestTask.GuestTask, set_records.WaitSet.WaitSet, single.Single.Single, thread_records.GuestThread.GuestThread, work_records.WorkRecord.WorkRecord}
use Rattle.core_makes.proofs.FreshLemmas.{chain_new, chain_other, each_more, none_in, none_keeps, none_passing, none_ready, waits_on_none}
use Rattle.core_makes.proofs.LooseLemmas.{IsIndex-opened}
use Rattle.core_makes.specs.Loose.{AreSetLoose}
use Rattle.core_records.proofs.MakeLemmas.{records_more, stands_more}
use Rattle.table_lists.specs.declared.ordered_lists.OrderKey.{OrderKey}

abbrev set_in : Where → ℕ
set_in (WaitsOn x) = x
set_in _ = 0

waits_is : (n : ℕ) (k : Where) → (k ≡ WaitsOn n) ⊎ (k ≡ WaitsOn n → ⊥)
waits_is n (WaitsOn x) = elim (cases_eq x n) [
  | inl same ↦ inl (ap WaitsOn same)
  | inr other ↦ inr (λ same. other (ap set_in same))
]
waits_is n (StartsIn i) = inr (λ same. absurd (cc))
waits_is n (HeldIn i) = inr (λ same. absurd (cc))
waits_is n (UnderOf m) = inr (λ same. absurd (cc))
waits_is n (BlockedOn sub) = inr (λ same. absurd (cc))

module _ (p : CoreImage) (whole : IsWhole p) (tables : SoundTable set_key p.sets p.made.sets) (x : WaitSet) (next : x.number ≡ p.made.sets + 1) (loose : AreSetLoose p x) (no_members : x.members ≡ 0) (no_entries : x.entries ≡ 0) where
  abbrev sets_more : Table (Single WaitSet)
  sets_more = pushed (record { item = x }) p.sets

  abbrev pub with_set : CoreImage
  with_set = record p { sets = sets_more; made = record p.made { sets = p.made.sets + 1 }; kept = record p.kept { used = p.kept.used + 1 } }

  later : p.made.sets < x.number
  later = omega arith

  -- ---- Names

  pub at_more : (rep : ℕ) (t : Target) → AtPlace p rep t → AtPlace with_set rep t
  at_more rep Nothing at = tt
  at_more rep (ThreadOf n) at = at
  at_more rep (CallOf n) at = at
  at_more rep (WorkOf n) at = at
  at_more rep (SetOf n) at = (let few = at.0 in omega arith, stands_more (λ (y : WaitSet). y.number) (λ (y : WaitSet). y.set) p.sets p.made.sets tables x next rep n at.0 at.1)

  home_more : (g : GuestThread) → HasHome p g → HasHome with_set g
  home_more g h = record { call = h.call; there = h.there; instance = h.instance; barred = h.barred; waits = h.waits; within = h.within; place = at_more g.state_target _ h.place; op_progress = at_more g.op_target _ h.op_progress }

  call_more : (g : GuestTask) → IsCallNamed p g → IsCallNamed with_set g
  call_more g h = record { caller = at_more g.maker _ h.caller; first = at_more g.first (ThreadOf g.number) h.first; join = at_more g.joined _ h.join; group = h.group; positive = h.positive; waits = h.waits }

  work_more : (w : WorkRecord) → IsWorkNamed p w → IsWorkNamed with_set w
  work_more w h = record { caller = at_more w.maker _ h.caller; join = at_more w.joined _ h.join; group = h.group }

  -- ---- Chains

  module _ (chain : WaitSet → ℕ) where
    has_chain : found_record (λ (e : Single WaitSet). Some (e.item.number, chain e.item)) x.number sets_more.places ≡ Some (chain x)
    has_chain = chain_new (λ (y : WaitSet). y.number) (λ (y : WaitSet). y.set) chain p.sets x tables.table tables.apart (tables.later x.number later)

    other_chain : (n : ℕ) → (n ≡ x.number → ⊥) → found_record (λ (e : Single WaitSet). Some (e.item.number, chain e.item)) n sets_more.places ≡ found_record (λ (e : Single WaitSet). Some (e.item.number, chain e.item)) n p.sets.places
    other_chain = chain_other (λ (y : WaitSet). y.number) (λ (y : WaitSet). y.set) chain p.sets x tables.table tables.apart (tables.later x.number later)

  place_others : (k : Where) → (k ≡ WaitsOn x.number → ⊥) → place_chain with_set k ≡ place_chain p k
  place_others (WaitsOn n) other = other_chain (λ y. y.waiters) n (λ same. other (ap WaitsOn same))
  place_others (StartsIn i) other = refl
  place_others (HeldIn i) other = refl
  place_others (UnderOf n) other = refl
  place_others (BlockedOn (Subtask.Guest k)) other = refl
  place_others (BlockedOn (Subtask.Host i)) other = refl

  none_waits : (rep : ℕ) (f : Filing Where OrderKey) → filings (place_filing p.version) p.threads rep ≡ Some f → f.key ≡ Some (WaitsOn x.number) → ⊥
  unfolding filings
  none_waits rep f is key = by_place (place_at p.threads rep) refl is
    where
      by_place : (o : Option (Placed (Single GuestThread))) → place_at p.threads rep ≡ o → said (place_filing p.version) rep o ≡ Some f → ⊥
      by_place None at is = absurd (cc)
      by_place (Some q) at is =
          let g = q.entry.item in
          let one : where_at g.instance g.barred g.thread.place ≡ f.key = ap (λ (h : Filing Where OrderKey). h.key) (same_Some _ f is) in
          waits_on_none (kinds p) x.number later g.instance g.barred g.thread.place g.state_target (whole.named.threads rep q at).place (one ∙ key)

  none_call : (rep : ℕ) (f : Filing ℕ OrderKey) → filings ready_call p.calls rep ≡ Some f → f.key ≡ Some x.number → ⊥
  unfolding filings
  none_call rep f is key = by_place (place_at p.calls rep) refl is
    where
      by_place : (o : Option (Placed (Single GuestTask))) → place_at p.calls rep ≡ o → said ready_call rep o ≡ Some f → ⊥
      by_place None at is = absurd (cc)
      by_place (Some q) at is =
          let g = q.entry.item in
          let one : ready_in g.call.event g.call.join ≡ f.key = ap (λ (h : Filing ℕ OrderKey). h.key) (same_Some _ f is) in
          none_ready (kinds p) x.number later g.call.event g.call.join g.joined (whole.named.calls rep q at).join (one ∙ key)

  none_work : (rep : ℕ) (f : Filing ℕ OrderKey) → filings ready_work p.works rep ≡ Some f → f.key ≡ Some x.number → ⊥
  unfolding filings
  none_work rep f is key = by_place (place_at p.works rep) refl is
    where
      by_place : (o : Option (Placed (Single WorkRecord))) → place_at p.works rep ≡ o → said ready_work rep o ≡ Some f → ⊥
      by_place None at is = absurd (cc)
      by_place (Some q) at is =
          let w = q.entry.item in
          let one : ready_in w.work.event w.work.join ≡ f.key = ap (λ (h : Filing ℕ OrderKey). h.key) (same_Some _ f is) in
          none_ready (kinds p) x.number later w.work.event w.work.join w.joined (whole.named.works rep q at).join (one ∙ key)

  -- ---- Kept numbers

  none_members : members_of x.number (core_of p) ≡ 0
  none_members = ap₂ (λ (m n : ℕ). m + n)
      (none_passing (λ (c : Call). is_in_set x.number c.join) call_key p.calls.places (λ r e at. by_call r e (place_at p.calls r) refl at))
      (none_passing (λ (w : Work). is_in_set x.number w.join) work_key p.works.places (λ r e at. by_work r e (place_at p.works r) refl at))
    where
      by_call : (r : ℕ) (e : ℕ × Call) (o : Option (Placed (Single GuestTask))) → place_at p.calls r ≡ o → key_in call_key o ≡ Some e → is_in_set x.number e.1.join ≡ false
      by_call r e None at is = absurd (cc)
      by_call r e (Some q) at is = ap (λ (d : ℕ × Call). is_in_set x.number d.1.join) (sym (same_Some (q.entry.item.number, q.entry.item.call) e is)) ∙ none_in (kinds p) x.number later q.entry.item.call.join q.entry.item.joined (whole.named.calls r q at).join

      by_work : (r : ℕ) (e : ℕ × Work) (o : Option (Placed (Single WorkRecord))) → place_at p.works r ≡ o → key_in work_key o ≡ Some e → is_in_set x.number e.1.join ≡ false
      by_work r e None at is = absurd (cc)
      by_work r e (Some q) at is = ap (λ (d : ℕ × Work). is_in_set x.number d.1.join) (sym (same_Some (q.entry.item.number, q.entry.item.work) e is)) ∙ none_in (kinds p) x.number later q.entry.item.work.join q.entry.item.joined (whole.named.works r q at).join

  none_entries : entries_for x.number (core_of p) ≡ 0
  none_entries = none_passing (λ (t : Thread). keeps_set x.number t t.place) thread_key p.threads.places (λ r e at. by_thread r e (place_at p.threads r) refl at)
    where
      by_thread : (r : ℕ) (e : ℕ × Thread) (o : Option (Placed (Single GuestThread))) → place_at p.threads r ≡ o → key_in thread_key o ≡ Some e → keeps_set x.number e.1 e.1.place ≡ false
      by_thread r e None at is = absurd (cc)
      by_thread r e (Some q) at is =
          let g = q.entry.item in
          let home = whole.named.threads r q at in
          ap (λ (d : ℕ × Thread). keeps_set x.number d.1 d.1.place) (sym (same_Some (g.number, g.thread) e is)) ∙ none_keeps (kinds p) x.number later g.thread g.state_target g.op_target home.place home.op_progress

  set_kept : (y : WaitSet) → IsSetKept (core_of p) y → IsSetKept (core_of with_set) y
  set_kept y h = record { members = h.members; entries = h.entries }

  sets_kept : EachEntry (IsSetKept (core_of with_set)) sets_more
  sets_kept = each_more (IsSetKept (core_of with_set)) p.sets x tables.table (λ rep q at. set_kept q.entry.item (whole.counted.sets rep q at)) (record { members = no_members ∙ sym none_members; entries = no_entries ∙ sym none_entries })

  size_more : size (records set_key sets_more.places) ≡ size (records set_key p.sets.places) + 1
  size_more =
      ap (λ (m : Records Set). size m) (records_more (λ (y : WaitSet). y.number) (λ (y : WaitSet). y.set) p.sets p.made.sets tables x next)
      ∙ size-insert_new (records set_key p.sets.places) x.number x.set (get-records set_key p.sets.places x.number ∙ tables.later x.number later)

  pub set_whole : IsWhole with_set
  unfolding table_use
  set_whole = record {
    named = record {
      threads = λ rep q at. home_more q.entry.item (whole.named.threads rep q at);
      calls = λ rep q at. call_more q.entry.item (whole.named.calls rep q at);
      works = λ rep q at. work_more q.entry.item (whole.named.works rep q at);
      switch = whole.named.switch;
    };
    chained = record {
      places = IsIndex-opened (place_chain p) (place_chain with_set) p.places (WaitsOn x.number) (waits_is x.number) place_others x.waiters (has_chain (λ y. y.waiters)) loose.waiters (filings (place_filing p.version) p.threads) whole.chained.places none_waits;
      waits = whole.chained.waits;
      ready_calls = IsIndex-opened (ready_call_chain p) (ready_call_chain with_set) p.ready_calls x.number (λ n. cases_eq n x.number) (other_chain (λ y. y.ready_calls)) x.ready_calls (has_chain (λ y. y.ready_calls)) loose.ready_calls (filings ready_call p.calls) whole.chained.ready_calls none_call;
      ready_works = IsIndex-opened (ready_work_chain p) (ready_work_chain with_set) p.ready_works x.number (λ n. cases_eq n x.number) (other_chain (λ y. y.ready_works)) x.ready_works (has_chain (λ y. y.ready_works)) loose.ready_works (filings ready_work p.works) whole.chained.ready_works none_work;
      polled = whole.chained.polled;
      rising = whole.chained.rising;
      marks = whole.chained.marks;
      instance_queues = whole.chained.instance_queues;
      low = whole.chained.low;
      behind = whole.chained.behind;
    };
    nodes = record { marks = whole.nodes.marks; instance_queues = whole.nodes.instance_queues; callers = whole.nodes.callers; works = whole.nodes.works; apart = whole.nodes.apart };
    counted = record {
      kept = record { used = let was = whole.counted.kept.used in let more = size_more in omega arith; groups = whole.counted.kept.groups; live = whole.counted.kept.live };
      calls = whole.counted.calls;
      sets = sets_kept;
      groups = whole.counted.groups;
      few = whole.counted.few;
      finished = whole.counted.finished;
      high = whole.counted.high;
      low = whole.counted.low;
      works = whole.counted.works;
      results = whole.counted.results;
    };
  }
