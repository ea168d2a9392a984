-- What is picked first is what is wanted, else what is least by the places of the resource table.
use Rattle.core_records.proofs.Core.{ap, ap₂, Bool, Call, call_key, cond, eq-eqb, eqb-true, false, found_at, get, get-records, IfSome, is_waiter, is_waiting_on, IsSoundCore, item_at, item_in, item_of, key_in, ne_eqb, None, number_of, Ok, Option, option_map, option_map_or, place_at, Placed, record_found, records, refl, same_Some, seen, Some, subst, sym, Table, TableId, Thread, thread_key, thread_of, ThreadKey, true, Work, work_key, ℕ, ◌<◌, ◌∙◌, ◌≡◌}
use Rattle.core_records.specs.declared.{call_records.GuestTask.GuestTask, parts.CoreParts.CoreParts, single.Single.Single, thread_records.GuestThread.GuestThread, work_records.WorkRecord.WorkRecord}
use Rattle.core_queues.proofs.SeatLemmas.{seat_read}
use Rattle.core_records.proofs.Core.{found, number_in as key_number}
use Rattle.core_records.proofs.KindLemmas.{item_number}
use Rattle.core_records.proofs.ReadLemmas.{call_shown, thread_shown, work_shown}
use Rattle.core_places.specs.Picks.{IsLeastMember, IsLeastWaiter, IsWantedMember, IsWantedWaiter, thread_order}
use Rattle.core_primitives.specs.Names.{number_in, subtask_in}
use Rattle.core_primitives.specs.Preferences.{preference}
use Rattle.core_primitives.specs.declared.names.SubtaskId.{SubtaskId}
use Rattle.core_primitives.specs.declared.names.SubtaskId.TheVariants as subtask_ids
use Rattle.core_records.specs.RecordPlaces.{ready_in}
use Rattle.machine_data.specs.Read.{came_of, is_in_set, is_ready_member, same_subtask}
use Rattle.machine_data.specs.declared.records.Join.{Join}
use Rattle.machine_data.specs.declared.records.Subtask.{Subtask}
use Rattle.machine_data.specs.declared.scenario.Version.TheVariants as version
use Rattle.machine_data.specs.declared.scenario.Version.{Version}
use Rattle.machine_data.specs.declared.statuses.Status.{Status}
use Rattle.machine_rules.specs.Picks.{IsFirstMember, IsFirstWaiter, Seats, ThreadSeat, call_seat, earlier_by, earlier_in, member_or, seat_before, subtask_before, thread_seat, waiter_or, work_seat}
use Rattle.std.specs.Ordering.{is_lt, nat_cmp}
use Rattle.std.specs.Prelude.{◌&&◌, ◌==◌, is_some, option_and_then, unwrap_or}
use Rattle.std.proofs.Common.{arith}

module _ {T X : Type 0} (number : T → ℕ) (rec : T → X) (t : Table (Single T)) where
  abbrev kind_key : Single T → Option (ℕ × X)
  kind_key e = Some (number e.item, rec e.item)

  abbrev IsAt : ℕ → (n : ℕ) → (r : ℕ) → Placed (Single T) → Type 0
  IsAt here n r q = (place_at t r ≡ Some q) × (number q.entry.item ≡ n)

  -- what is found under a number is at a place
  pub found_there : (n : ℕ) (x : X) → get (records kind_key t.places) n ≡ Some x → (r : ℕ) × ((q : Placed (Single T)) × ((place_at t r ≡ Some q) × ((number q.entry.item ≡ n) × (rec q.entry.item ≡ x))))
  found_there n x is =
      let one = record_found kind_key t.places n x (sym (get-records kind_key t.places n) ∙ is) in
      by one.0 (place_at t one.0) refl one.1
    where
      by : (r : ℕ) (o : Option (Placed (Single T))) → place_at t r ≡ o → key_in kind_key o ≡ Some (n, x) → (s : ℕ) × ((q : Placed (Single T)) × ((place_at t s ≡ Some q) × ((number q.entry.item ≡ n) × (rec q.entry.item ≡ x))))
      by r None at key = absurd (cc)
      by r (Some q) at key =
          let e = same_Some (number q.entry.item, rec q.entry.item) (n, x) key in
          (r, (q, (at, (ap (λ (d : ℕ × X). d.0) e, ap (λ (d : ℕ × X). d.1) e))))

  own_found : (rep serial : ℕ) → 0 < number_of kind_key t rep serial → (p : Placed (Single T)) × (found t rep serial ≡ Some p)
  unfolding number_of
  own_found rep serial live = by (found t rep serial) refl live
    where
      by : (o : Option (Placed (Single T))) → found t rep serial ≡ o → 0 < key_number (key_in kind_key o) → (p : Placed (Single T)) × (found t rep serial ≡ Some p)
      by None is live = absurd (omega arith)
      by (Some p) is live = (p, is)

  -- what an id names is at its place
  pub named_there : (rep serial : ℕ) → 0 < number_of kind_key t rep serial → (q : Placed (Single T)) × ((place_at t rep ≡ Some q) × ((Ok q.entry.item ≡ item_at item_of t rep serial) × (number q.entry.item ≡ number_of kind_key t rep serial)))
  named_there rep serial live =
      let one = own_found rep serial live in
      let is : Ok one.0.entry.item ≡ item_at item_of t rep serial = sym (ap (item_in item_of) one.1) in
      (one.0, ((found_at t rep serial one.0 one.1).0, (is, sym (item_number number rec t rep serial one.0.entry.item is))))

module _ (a : CoreParts) (sound : IsSoundCore a) where
  abbrev seats : Seats
  seats = (seen a).tags.seats

  -- ---- Threads

  abbrev in_turn : GuestThread → ThreadSeat
  in_turn g = record { task = g.task_entry; own = g.entry }

  pub thread_seated : (r : ℕ) (q : Placed (Single GuestThread)) → place_at a.threads r ≡ Some q → thread_seat seats q.entry.item.number ≡ in_turn q.entry.item
  unfolding seen IsSoundCore
  thread_seated r q at = ap (λ o. unwrap_or o (record { task = 0; own = 0 })) (seat_read (λ (g : GuestThread). g.number) (λ (g : GuestThread). g.thread) in_turn a.threads a.made.threads sound.tables.threads r q at)

  came_there : (r : ℕ) (q : Placed (Single GuestThread)) → place_at a.threads r ≡ Some q → came_of q.entry.item.number (seen a).core ≡ q.entry.item.thread.came
  unfolding seen IsSoundCore
  came_there r q at = ap (λ o. option_map_or (λ (t : Thread). t.came) o 0)
      (seat_read (λ (g : GuestThread). g.number) (λ (g : GuestThread). g.thread) (λ (g : GuestThread). g.thread) a.threads a.made.threads sound.tables.threads r q at)

  -- what comes first of two threads
  abbrev comes : ℕ → ℕ → Bool
  comes = earlier_in (seen a).core seats

  -- two threads that are there are ordered by their places, in version 2 by when they came
  pub ordered_there : (r s : ℕ) (q p : Placed (Single GuestThread)) → place_at a.threads r ≡ Some q → place_at a.threads s ≡ Some p → comes q.entry.item.number p.entry.item.number ≡ is_lt (thread_order a.version q.entry.item p.entry.item)
  unfolding seen
  ordered_there r s q p at_q at_p = by a.version
    where
      by : (v : Version) → earlier_by v (λ k. came_of k (seen a).core) seats q.entry.item.number p.entry.item.number ≡ is_lt (thread_order v q.entry.item p.entry.item)
      by version.One = ap₂ seat_before (thread_seated r q at_q) (thread_seated s p at_p)
      by version.Two = ap₂ (λ (m n : ℕ). is_lt (nat_cmp m n)) (came_there r q at_q) (came_there s p at_p)

  pub waiter_live : (x n : ℕ) → is_waiter x n (seen a).core ≡ true → 0 < n
  unfolding seen IsSoundCore
  waiter_live x ℕ.zero waits =
      let none : get (records thread_key a.threads.places) 0 ≡ None = get-records thread_key a.threads.places 0 ∙ sound.tables.threads.above_zero in
      let never : false ≡ true = sym (ap (λ o. option_map_or (is_waiting_on x) (option_map (λ (t : Thread). t.place) o) false) none) ∙ waits in
      absurd (cc)
  waiter_live x (ℕ.suc n) waits = omega arith

  waiter_there : (x n : ℕ) → is_waiter x n (seen a).core ≡ true → (r : ℕ) × ((q : Placed (Single GuestThread)) × ((place_at a.threads r ≡ Some q) × ((q.entry.item.number ≡ n) × (is_waiting_on x q.entry.item.thread.place ≡ true))))
  unfolding seen
  waiter_there x n waits = by (get (records thread_key a.threads.places) n) refl waits
    where
      by : (o : Option Thread) → get (records thread_key a.threads.places) n ≡ o → option_map_or (is_waiting_on x) (option_map (λ (t : Thread). t.place) o) false ≡ true → (r : ℕ) × ((q : Placed (Single GuestThread)) × ((place_at a.threads r ≡ Some q) × ((q.entry.item.number ≡ n) × (is_waiting_on x q.entry.item.thread.place ≡ true))))
      by None is waits = absurd (cc)
      by (Some t) is waits =
          let one = found_there (λ (g : GuestThread). g.number) (λ (g : GuestThread). g.thread) a.threads n t is in
          (one.0, (one.1.0, (one.1.1.0, (one.1.1.1.0, ap (λ (d : Thread). is_waiting_on x d.place) one.1.1.1.1 ∙ waits))))

  pub least_first : (x : ℕ) (id : TableId ThreadKey) → 0 < thread_of (seen a) id → IsLeastWaiter a x id → (n : ℕ) → is_waiter x n (seen a).core ≡ true → comes n (thread_of (seen a) id) ≡ false
  least_first x id live least n waits =
      let one = waiter_there x n waits in
      let q = one.1.0 in
      let two = named_there (λ (g : GuestThread). g.number) (λ (g : GuestThread). g.thread) a.threads id.rep id.serial (subst (λ m. 0 < m) (thread_shown a id) live) in
      let p = two.0 in
      ap₂ comes (sym one.1.1.1.0) (thread_shown a id ∙ sym two.1.1.1)
      ∙ (ordered_there one.0 id.rep q p one.1.1.0 two.1.0
      ∙ least p.entry.item two.1.1.0 one.0 q one.1.1.0 one.1.1.1.1)

  abbrev told : ℕ → ℕ → Option (TableId ThreadKey) → Bool
  told n w o = waiter_or (option_map (λ v. thread_of (seen a) v) o) n w (comes n w)

  pub wanted_first : (x : ℕ) (id : TableId ThreadKey) → a.wanted.waiter ≡ Some id → IsFirstWaiter (preference (seen a)) x (seen a).core (thread_of (seen a) id)
  unfolding seen
  wanted_first x id is n waits =
      let w = thread_of (seen a) id in
      ap (told n w) is ∙ ap (λ b. cond b false (cond (w == n) true (comes n w))) (eq-eqb w w refl)

  pub unwanted_first : (x : ℕ) (id : TableId ThreadKey) → IsWantedWaiter a x None → is_waiter x (thread_of (seen a) id) (seen a).core ≡ true → 0 < thread_of (seen a) id → IsLeastWaiter a x id → IsFirstWaiter (preference (seen a)) x (seen a).core (thread_of (seen a) id)
  unfolding seen
  unwanted_first x id none is live least n waits = by a.wanted.waiter refl none
    where
      w : ℕ
      w = thread_of (seen a) id

      apart : (m v : ℕ) → is_waiter x m (seen a).core ≡ false → is_waiter x v (seen a).core ≡ true → (m == v) ≡ false
      apart m v off on = ne_eqb m v (λ same. let never : false ≡ true = sym off ∙ (ap (λ k. is_waiter x k (seen a).core) same ∙ on) in absurd (cc))

      by : (o : Option (TableId ThreadKey)) → a.wanted.waiter ≡ o → IfSome o (λ v. is_waiter x (thread_of (seen a) v) (seen a).core ≡ false) → told n w a.wanted.waiter ≡ false
      by None at off = ap (told n w) at ∙ least_first x id live least n waits
      by (Some v) at off =
          let m = thread_of (seen a) v in
          ap (told n w) at
          ∙ (ap (λ b. cond b false (cond (m == n) true (comes n w))) (apart m w off is)
          ∙ (ap (λ b. cond b true (comes n w)) (apart m n off waits)
          ∙ least_first x id live least n waits))

  -- ---- Ready members

  ready_of : (x : ℕ) (j : Join) (e : Option Status) → (is_in_set x j && is_some e) ≡ true → ready_in e j ≡ Some x
  ready_of x (Join.Set y) (Some e) is = by (x == y) refl is
    where
      by : (b : Bool) → (x == y) ≡ b → (b && true) ≡ true → ◌≡◌ {A = Option ℕ} (Some y) (Some x)
      by true same is = ap (λ z. Some z) (sym (eqb-true x y same))
      by false same is = absurd (cc)
  ready_of x (Join.Set y) None is = absurd (none (x == y) is)
    where
      none : (b : Bool) → (b && false) ≡ true → ⊥
      none true e = absurd (cc)
      none false e = absurd (cc)
  ready_of x Join.Nowhere e is = absurd (cc)
  ready_of x (Join.Watched n) e is = absurd (cc)

  ready_call_there : (x k : ℕ) → is_ready_member x (Subtask.Guest k) (seen a).core ≡ true → (r : ℕ) × ((q : Placed (Single GuestTask)) × ((place_at a.calls r ≡ Some q) × ((q.entry.item.number ≡ k) × (ready_in q.entry.item.call.event q.entry.item.call.join ≡ Some x))))
  unfolding seen
  ready_call_there x k ready = by (get (records call_key a.calls.places) k) refl ready
    where
      by : (o : Option Call) → get (records call_key a.calls.places) k ≡ o → (is_in_set x (option_map_or (λ (c : Call). c.join) o Join.Nowhere) && is_some (option_and_then (λ (c : Call). c.event) o)) ≡ true → (r : ℕ) × ((q : Placed (Single GuestTask)) × ((place_at a.calls r ≡ Some q) × ((q.entry.item.number ≡ k) × (ready_in q.entry.item.call.event q.entry.item.call.join ≡ Some x))))
      by None is ready = absurd (cc)
      by (Some c) is ready =
          let one = found_there (λ (g : GuestTask). g.number) (λ (g : GuestTask). g.call) a.calls k c is in
          (one.0, (one.1.0, (one.1.1.0, (one.1.1.1.0, ap (λ (d : Call). ready_in d.event d.join) one.1.1.1.1 ∙ ready_of x c.join c.event ready))))

  ready_work_there : (x i : ℕ) → is_ready_member x (Subtask.Host i) (seen a).core ≡ true → (r : ℕ) × ((q : Placed (Single WorkRecord)) × ((place_at a.works r ≡ Some q) × ((q.entry.item.number ≡ i) × (ready_in q.entry.item.work.event q.entry.item.work.join ≡ Some x))))
  unfolding seen
  ready_work_there x i ready = by (get (records work_key a.works.places) i) refl ready
    where
      by : (o : Option Work) → get (records work_key a.works.places) i ≡ o → (is_in_set x (option_map_or (λ (w : Work). w.join) o Join.Nowhere) && is_some (option_and_then (λ (w : Work). w.event) o)) ≡ true → (r : ℕ) × ((q : Placed (Single WorkRecord)) × ((place_at a.works r ≡ Some q) × ((q.entry.item.number ≡ i) × (ready_in q.entry.item.work.event q.entry.item.work.join ≡ Some x))))
      by None is ready = absurd (cc)
      by (Some w) is ready =
          let one = found_there (λ (g : WorkRecord). g.number) (λ (g : WorkRecord). g.work) a.works i w is in
          (one.0, (one.1.0, (one.1.1.0, (one.1.1.1.0, ap (λ (d : Work). ready_in d.event d.join) one.1.1.1.1 ∙ ready_of x w.join w.event ready))))

  call_seated : (r : ℕ) (q : Placed (Single GuestTask)) → place_at a.calls r ≡ Some q → call_seat seats q.entry.item.number ≡ q.entry.item.entry
  unfolding seen IsSoundCore
  call_seated r q at = ap (λ o. unwrap_or o 0) (seat_read (λ (g : GuestTask). g.number) (λ (g : GuestTask). g.call) (λ (g : GuestTask). g.entry) a.calls a.made.threads sound.tables.calls r q at)

  work_seated : (r : ℕ) (q : Placed (Single WorkRecord)) → place_at a.works r ≡ Some q → work_seat seats q.entry.item.number ≡ q.entry.item.entry
  unfolding seen IsSoundCore
  work_seated r q at = ap (λ o. unwrap_or o 0) (seat_read (λ (g : WorkRecord). g.number) (λ (g : WorkRecord). g.work) (λ (g : WorkRecord). g.entry) a.works a.made.works sound.tables.works r q at)

  abbrev in_view : SubtaskId → Subtask
  in_view sub = subtask_in (seen a).tags sub

  -- a ready member has a number
  pub ready_live : (x : ℕ) (sub : SubtaskId) → is_ready_member x (in_view sub) (seen a).core ≡ true → number_in (seen a).tags sub ≡ 0 → ⊥
  unfolding seen IsSoundCore
  ready_live x (subtask_ids.Guest id) ready zero =
      let none : get (records call_key a.calls.places) 0 ≡ None = get-records call_key a.calls.places 0 ∙ sound.tables.calls.above_zero in
      let never : false ≡ true = sym (ap (λ o. is_in_set x (option_map_or (λ (c : Call). c.join) o Join.Nowhere) && is_some (option_and_then (λ (c : Call). c.event) o)) (ap (get (records call_key a.calls.places)) zero ∙ none)) ∙ ready in
      absurd (cc)
  ready_live x (subtask_ids.Host id) ready zero =
      let none : get (records work_key a.works.places) 0 ≡ None = get-records work_key a.works.places 0 ∙ sound.tables.works.above_zero in
      let never : false ≡ true = sym (ap (λ o. is_in_set x (option_map_or (λ (w : Work). w.join) o Join.Nowhere) && is_some (option_and_then (λ (w : Work). w.event) o)) (ap (get (records work_key a.works.places)) zero ∙ none)) ∙ ready in
      absurd (cc)

  positive : (n : ℕ) → (n ≡ 0 → ⊥) → 0 < n
  positive ℕ.zero off = absurd (off refl)
  positive (ℕ.suc n) off = omega arith

  pub least_member_first : (x : ℕ) (sub : SubtaskId) → is_ready_member x (in_view sub) (seen a).core ≡ true → IsLeastMember a x sub → (other : Subtask) → is_ready_member x other (seen a).core ≡ true → subtask_before seats other (in_view sub) ≡ false
  least_member_first x (subtask_ids.Host id) ready least (Subtask.Host i) other_ready =
      let one = ready_work_there x i other_ready in
      let two = named_there (λ (g : WorkRecord). g.number) (λ (g : WorkRecord). g.work) a.works id.rep id.serial (subst (λ m. 0 < m) (work_shown a id) (positive _ (ready_live x (subtask_ids.Host id) ready))) in
      ap₂ (λ v w. is_lt (nat_cmp v w)) (ap (work_seat seats) (sym one.1.1.1.0) ∙ work_seated one.0 one.1.0 one.1.1.0) (ap (work_seat seats) (work_shown a id ∙ sym two.1.1.1) ∙ work_seated id.rep two.0 two.1.0)
      ∙ least two.0.entry.item two.1.1.0 one.0 one.1.0 one.1.1.0 one.1.1.1.1
  least_member_first x (subtask_ids.Host id) ready least (Subtask.Guest k) other_ready = refl
  least_member_first x (subtask_ids.Guest id) ready least (Subtask.Host i) other_ready =
      let one = ready_work_there x i other_ready in
      absurd (least.0 one.0 one.1.0 one.1.1.0 one.1.1.1.1)
  least_member_first x (subtask_ids.Guest id) ready least (Subtask.Guest k) other_ready =
      let one = ready_call_there x k other_ready in
      let two = named_there (λ (g : GuestTask). g.number) (λ (g : GuestTask). g.call) a.calls id.rep id.serial (subst (λ m. 0 < m) (call_shown a id) (positive _ (ready_live x (subtask_ids.Guest id) ready))) in
      ap₂ (λ v w. is_lt (nat_cmp v w)) (ap (call_seat seats) (sym one.1.1.1.0) ∙ call_seated one.0 one.1.0 one.1.1.0) (ap (call_seat seats) (call_shown a id ∙ sym two.1.1.1) ∙ call_seated id.rep two.0 two.1.0)
      ∙ least.1 two.0.entry.item two.1.1.0 one.0 one.1.0 one.1.1.0 one.1.1.1.1

  -- ---- What is wanted of them

  same_itself : (sub : Subtask) → same_subtask sub sub ≡ true
  same_itself (Subtask.Guest k) = eq-eqb k k refl
  same_itself (Subtask.Host i) = eq-eqb i i refl

  same_is : (sub other : Subtask) → same_subtask sub other ≡ true → sub ≡ other
  same_is (Subtask.Guest k) (Subtask.Guest q) e = ap Subtask.Guest (eqb-true k q e)
  same_is (Subtask.Guest k) (Subtask.Host q) e = absurd (cc)
  same_is (Subtask.Host k) (Subtask.Guest q) e = absurd (cc)
  same_is (Subtask.Host k) (Subtask.Host q) e = ap Subtask.Host (eqb-true k q e)

  abbrev told_member : Subtask → Subtask → Option SubtaskId → Bool
  told_member other sub o = member_or (option_map in_view o) other sub (subtask_before seats other sub)

  pub wanted_member_first : (x : ℕ) (sub : SubtaskId) → a.wanted.member ≡ Some sub → IsFirstMember (preference (seen a)) x (seen a).core (in_view sub)
  unfolding seen
  wanted_member_first x sub is other ready =
      ap (told_member other (in_view sub)) is ∙ ap (λ b. cond b false (cond (same_subtask (in_view sub) other) true (subtask_before seats other (in_view sub)))) (same_itself (in_view sub))

  pub unwanted_member_first : (x : ℕ) (sub : SubtaskId) → IsWantedMember a x None → is_ready_member x (in_view sub) (seen a).core ≡ true → IsLeastMember a x sub → IsFirstMember (preference (seen a)) x (seen a).core (in_view sub)
  unfolding seen
  unwanted_member_first x sub none is least other ready = by a.wanted.member refl none
    where
      apart : (m v : Subtask) → is_ready_member x m (seen a).core ≡ false → is_ready_member x v (seen a).core ≡ true → same_subtask m v ≡ false
      apart m v off on = by_test (same_subtask m v) refl
        where
          by_test : (b : Bool) → same_subtask m v ≡ b → b ≡ false
          by_test true same = let never : false ≡ true = sym off ∙ (ap (λ d. is_ready_member x d (seen a).core) (same_is m v same) ∙ on) in absurd (cc)
          by_test false same = refl

      by : (o : Option SubtaskId) → a.wanted.member ≡ o → IfSome o (λ d. is_ready_member x (in_view d) (seen a).core ≡ false) → told_member other (in_view sub) a.wanted.member ≡ false
      by None at off = ap (told_member other (in_view sub)) at ∙ least_member_first x sub is least other ready
      by (Some d) at off =
          ap (told_member other (in_view sub)) at
          ∙ (ap (λ b. cond b false (cond (same_subtask (in_view d) other) true (subtask_before seats other (in_view sub)))) (apart (in_view d) (in_view sub) off is)
          ∙ (ap (λ b. cond b true (subtask_before seats other (in_view sub))) (apart (in_view d) other off ready)
          ∙ least_member_first x sub is least other ready))
