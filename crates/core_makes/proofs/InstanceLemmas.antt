-- An instance more, with chains that hung on nothing: the parts stay whole.
use Rattle.core_records.proofs.Core.{[], ap, ap₂, BlockedOn, Bool, cases_eq, chained, cond, Each, Entry, entry_keyed, false, Filing, filings, filter, HasHome, HeldIn, High, host_entry, inl, inr, is_of_instance, IsCallNamed, IsIndex, IsRows, IsRows-opened, IsKeyed, IsSome, IsWhole, IsWorkNamed, length, List, Low, ne_eqb, None, Option, option_map, part, CoreImage, Place, place_at, place_chain, place_filing, Placed, push_entry, refl, Row, row, row_chain, said, same_Some, instance_queue_chain, instance_queue_in, slice_get, Some, subst, Subtask, suc, sym, table_use, thread_entry, UnderOf, WaitsOn, Where, where_at, zero, ℕ, ◌++◌, ◌∙◌, ◌∷◌, ◌≡◌, ◌⊎◌, held_list, StartsIn, true, ◌&&◌}
use Rattle.core_records.specs.declared.{call_records.GuestTask.GuestTask, instance_records.InstanceRecord.InstanceRecord, single.Single.Single, thread_records.GuestThread.GuestThread, thread_records.Queued.Queued, work_records.WorkRecord.WorkRecord}
use Rattle.machine_rules.specs.Places.{is_for_start}
use Rattle.core_makes.proofs.LooseLemmas.{IsIndex-opened}
use Rattle.core_makes.proofs.MarkLemmas.{row_is}
use Rattle.core_makes.specs.Loose.{AreLoose}
use Rattle.table_lists.specs.declared.ordered_lists.OrderKey.{OrderKey}

module _ {X : Type 0} where
  pub pushed_last : (xs : List X) (x : X) → slice_get (xs ++ x ∷ []) (length xs) ≡ Some x
  pushed_last [] x = refl
  pushed_last (y ∷ xs) x = pushed_last xs x

  pub pushed_other : (xs : List X) (j : ℕ) (x : X) → (j ≡ length xs → ⊥) → slice_get (xs ++ x ∷ []) j ≡ slice_get xs j
  pushed_other [] zero x other = absurd (other refl)
  pushed_other [] (suc j) x other = refl
  pushed_other (y ∷ xs) zero x other = refl
  pushed_other (y ∷ xs) (suc j) x other = pushed_other xs j x (λ same. other (ap suc same))

  no_last : (xs : List X) → slice_get xs (length xs) ≡ None
  no_last [] = refl
  no_last (x ∷ xs) = no_last xs

  not_none : {Y : Type 0} (o : Option X) → o ≡ None → IsSome o → Y
  not_none None none some = absurd (cc)
  not_none (Some x) none some = absurd (cc)

  -- what is there is before the place of the new one
  pub there_before : (xs : List X) (j : ℕ) → IsSome (slice_get xs j) → j ≡ length xs → ⊥
  there_before xs j some same = not_none (slice_get xs j) (ap (slice_get xs) same ∙ no_last xs) some

  pub there_still : (xs : List X) (x : X) (j : ℕ) → IsSome (slice_get xs j) → IsSome (slice_get (xs ++ x ∷ []) j)
  there_still xs x j some = subst (λ (o : Option X). IsSome o) (sym (pushed_other xs j x (there_before xs j some))) some

  filter_none : (Known : X → Type 0) (t : X → Bool) → ((x : X) → Known x → t x ≡ false) → (xs : List X) → Each Known xs → filter t xs ≡ []
  filter_none Known t fails [] each = refl
  filter_none Known t fails (x ∷ xs) each = ap (λ b. cond b (x ∷ filter t xs) (filter t xs)) (fails x each.0) ∙ filter_none Known t fails xs each.1

abbrev held_number : Where → ℕ
held_number (HeldIn i) = i
held_number (StartsIn i) = i
held_number _ = 0

held_is : (n : ℕ) (k : Where) → (k ≡ HeldIn n) ⊎ (k ≡ HeldIn n → ⊥)
held_is n (WaitsOn x) = inr (λ same. absurd (cc))
held_is n (StartsIn i) = inr (λ same. absurd (cc))
held_is n (HeldIn i) = elim (cases_eq i n) [
  | inl same ↦ inl (ap HeldIn same)
  | inr other ↦ inr (λ same. other (ap held_number same))
]
held_is n (UnderOf m) = inr (λ same. absurd (cc))
held_is n (BlockedOn sub) = inr (λ same. absurd (cc))

starts_is : (n : ℕ) (k : Where) → (k ≡ StartsIn n) ⊎ (k ≡ StartsIn n → ⊥)
starts_is n (WaitsOn x) = inr (λ same. absurd (cc))
starts_is n (HeldIn i) = inr (λ same. absurd (cc))
starts_is n (StartsIn i) = elim (cases_eq i n) [
  | inl same ↦ inl (ap StartsIn same)
  | inr other ↦ inr (λ same. other (ap held_number same))
]
starts_is n (UnderOf m) = inr (λ same. absurd (cc))
starts_is n (BlockedOn sub) = inr (λ same. absurd (cc))

instance_queue_is : (n : ℕ) (r : Row) (k : ℕ × Row) → (k ≡ (n, r)) ⊎ (k ≡ (n, r) → ⊥)
instance_queue_is n r k = elim (cases_eq k.0 n) [
  | inl same ↦ elim (row_is k.1 r) [
    | inl one ↦ inl (ap₂ (λ (i : ℕ) (s : Row). (i, s)) same one)
    | inr other ↦ inr (λ same. other (ap (λ (j : ℕ × Row). j.1) same))
  ]
  | inr other ↦ inr (λ same. other (ap (λ (j : ℕ × Row). j.0) same))
]

-- the list of who is held in an instance
abbrev IsHeldList : ℕ → Where → Type 0
IsHeldList n w = (w ≡ HeldIn n) ⊎ (w ≡ StartsIn n)

held_number_is : (n : ℕ) (w : Where) → IsHeldList n w → held_number w ≡ n
held_number_is n w (inl same) = ap held_number same
held_number_is n w (inr same) = ap held_number same

-- who is held is so in its own instance
held_list_is : (i : ℕ) (b : Bool) → held_number (cond b (StartsIn i) (HeldIn i)) ≡ i
held_list_is i true = refl
held_list_is i false = refl

no_list : {X : Type 0} (n : ℕ) (w : Where) → IsHeldList n w → (w ≡ HeldIn n → X) → (w ≡ StartsIn n → X) → X
no_list n w (inl same) held starts = held same
no_list n w (inr same) held starts = starts same

held_where : (i n : ℕ) (b : Bool) (x : Place) (w : Where) → IsHeldList n w → where_at i b x ≡ Some w → i ≡ n
held_where i n b Place.New w list is = absurd (cc)
held_where i n b (Place.Ready m y) w list is = absurd (cc)
held_where i n b Place.Running w list is = absurd (cc)
held_where i n b (Place.Under m) w list is = let one = same_Some (UnderOf m) w is in no_list n w list (λ same. absurd (cc)) (λ same. absurd (cc))
held_where i n b (Place.Behind m) w list is = absurd (cc)
held_where i n b (Place.Waiting y by_callback) w list is = let one = same_Some (WaitsOn y) w is in no_list n w list (λ same. absurd (cc)) (λ same. absurd (cc))
held_where i n b (Place.Blocked sub) w list is = let one = same_Some (BlockedOn sub) w is in no_list n w list (λ same. absurd (cc)) (λ same. absurd (cc))
held_where i n b (Place.Held y) w list is = sym (held_list_is i (b && is_for_start y)) ∙ (ap held_number (same_Some (held_list i b y) w is) ∙ held_number_is n w list)
held_where i n b Place.Suspended w list is = absurd (cc)

module _ (p : CoreImage) (whole : IsWhole p) (r : InstanceRecord) (loose : AreLoose p r.held r.starts r.high r.low) (high : IsSome p.high) (low : IsSome p.low) where
  abbrev pub grown : CoreImage
  grown = record p { instances = p.instances ++ r ∷ [] }

  abbrev next : ℕ
  next = length p.instances

  home_grown : (g : GuestThread) → HasHome p g → HasHome grown g
  home_grown g h = record { call = h.call; there = h.there; instance = h.instance; barred = h.barred; waits = h.waits; within = there_still p.instances r g.instance h.within; place = h.place; op_progress = h.op_progress }

  call_grown : (g : GuestTask) → IsCallNamed p g → IsCallNamed grown g
  call_grown g h = record { caller = h.caller; first = h.first; join = h.join; group = h.group; positive = h.positive; waits = h.waits }

  work_grown : (w : WorkRecord) → IsWorkNamed p w → IsWorkNamed grown w
  work_grown w h = record { caller = h.caller; join = h.join; group = h.group }

  -- no thread is of the new instance
  not_next : (rep : ℕ) (q : Placed (Single GuestThread)) → place_at p.threads rep ≡ Some q → q.entry.item.instance ≡ next → ⊥
  not_next rep q at same = there_before p.instances q.entry.item.instance (whole.named.threads rep q at).within same

  -- ---- Who is held there: with the chain of all but barred starts alone, then with both

  abbrev held_alone : Where → Option ℕ
  held_alone (HeldIn i) = place_chain grown (HeldIn i)
  held_alone k = place_chain p k

  held_others : (k : Where) → (k ≡ HeldIn next → ⊥) → held_alone k ≡ place_chain p k
  held_others (WaitsOn x) other = refl
  held_others (StartsIn i) other = refl
  held_others (HeldIn i) other = ap (option_map (λ (x : InstanceRecord). x.held)) (pushed_other p.instances i r (λ same. other (ap HeldIn same)))
  held_others (UnderOf n) other = refl
  held_others (BlockedOn sub) other = refl

  starts_others : (k : Where) → (k ≡ StartsIn next → ⊥) → place_chain grown k ≡ held_alone k
  starts_others (WaitsOn x) other = refl
  starts_others (StartsIn i) other = ap (option_map (λ (x : InstanceRecord). x.starts)) (pushed_other p.instances i r (λ same. other (ap StartsIn same)))
  starts_others (HeldIn i) other = refl
  starts_others (UnderOf n) other = refl
  starts_others (BlockedOn (Subtask.Guest k)) other = refl
  starts_others (BlockedOn (Subtask.Host i)) other = refl

  none_held : (w : Where) → IsHeldList next w → (rep : ℕ) (f : Filing Where OrderKey) → filings (place_filing p.version) p.threads rep ≡ Some f → f.key ≡ Some w → ⊥
  unfolding filings
  none_held w list rep f is key = by_place (place_at p.threads rep) refl is
    where
      by_place : (o : Option (Placed (Single GuestThread))) → place_at p.threads rep ≡ o → said (place_filing p.version) rep o ≡ Some f → ⊥
      by_place None at is = absurd (cc)
      by_place (Some q) at is =
          let g = q.entry.item in
          let one : where_at g.instance g.barred g.thread.place ≡ f.key = ap (λ (h : Filing Where OrderKey). h.key) (same_Some _ f is) in
          not_next rep q at (held_where g.instance next g.barred g.thread.place w list (one ∙ key))

  held_new : held_alone (HeldIn next) ≡ Some r.held
  held_new = ap (option_map (λ (x : InstanceRecord). x.held)) (pushed_last p.instances r)

  held_index : IsIndex held_alone p.places (filings (place_filing p.version) p.threads)
  held_index = IsIndex-opened (place_chain p) held_alone p.places (HeldIn next) (held_is next) held_others r.held held_new loose.held (filings (place_filing p.version) p.threads) whole.chained.places (none_held (HeldIn next) (inl refl))

  starts_apart : (k : Where) → held_alone k ≡ Some r.starts → ⊥
  starts_apart k at = elim (held_is next k) [
    | inl same ↦ loose.apart (same_Some r.held r.starts (sym held_new ∙ (sym (ap held_alone same) ∙ at)))
    | inr other ↦ loose.starts.apart k (sym (held_others k other) ∙ at)
  ]

  places_grown : IsIndex (place_chain grown) p.places (filings (place_filing p.version) p.threads)
  places_grown = IsIndex-opened held_alone (place_chain grown) p.places (StartsIn next) (starts_is next) starts_others r.starts (ap (option_map (λ (x : InstanceRecord). x.starts)) (pushed_last p.instances r)) (record { empty = loose.starts.empty; apart = starts_apart }) (filings (place_filing p.version) p.threads) held_index (none_held (StartsIn next) (inr refl))

  -- ---- Its entries at the marks

  by_order_key : (rep : ℕ) (q : Queued) (o : Option (Placed (Single GuestThread))) → place_at p.threads rep ≡ o → option_map (λ (x : Placed (Single GuestThread)). thread_entry rep x.entry.item) o ≡ Some q → is_of_instance next q ≡ false
  by_order_key rep q None at is = absurd (cc)
  by_order_key rep q (Some x) at is = ap (is_of_instance next) (sym (same_Some (thread_entry rep x.entry.item) q is)) ∙ ne_eqb x.entry.item.instance next (not_next rep x at)

  by_work : {E : Type 0} (order_key : ℕ → E → Queued) (rep : ℕ) (q : Queued) → ((x : E) → is_of_instance next (order_key rep x) ≡ false) → (o : Option (Placed (Single E))) → option_map (λ (x : Placed (Single E)). order_key rep x.entry.item) o ≡ Some q → is_of_instance next q ≡ false
  by_work order_key rep q out None is = absurd (cc)
  by_work order_key rep q out (Some x) is = ap (is_of_instance next) (sym (same_Some (order_key rep x.entry.item) q is)) ∙ out x.entry.item

  order_key_apart : (e : Entry) (rep : ℕ) (q : Queued) → entry_keyed p e rep ≡ Some q → is_of_instance next q ≡ false
  order_key_apart (Entry.Thread n) rep q is = by_order_key rep q (place_at p.threads rep) refl is
  order_key_apart (Entry.Push i) rep q is = by_work push_entry rep q (λ w. refl) (place_at p.works rep) is
  order_key_apart (Entry.Host i) rep q is = by_work host_entry rep q (λ w. refl) (place_at p.works rep) is

  none_there : (s : Row) → filter (is_of_instance next) (row p s) ≡ []
  none_there s = by_chain (row_chain p s) refl
    where
      by_chain : (o : Option ℕ) → row_chain p s ≡ o → filter (is_of_instance next) (row p s) ≡ []
      by_chain None is = ap (λ o. filter (is_of_instance next) (chained p.marks o)) is
      by_chain (Some c) is = filter_none (IsKeyed p) (is_of_instance next) (λ q order_key. order_key_apart q.entry q.place q order_key) (row p s) (whole.chained.marks.all_known s c is)

  -- with the chain of high alone
  abbrev mid : ℕ × Row → Option ℕ
  mid (i, High) = instance_queue_chain grown (i, High)
  mid (i, Low) = instance_queue_chain p (i, Low)

  mid_others : (k : ℕ × Row) → (k ≡ (next, High) → ⊥) → mid k ≡ instance_queue_chain p k
  mid_others (i, High) other = ap (option_map (instance_queue_in High)) (pushed_other p.instances i r (λ same. other (ap (λ (j : ℕ). (j, High)) same)))
  mid_others (i, Low) other = refl

  last_others : (k : ℕ × Row) → (k ≡ (next, Low) → ⊥) → instance_queue_chain grown k ≡ mid k
  last_others (i, High) other = refl
  last_others (i, Low) other = ap (option_map (instance_queue_in Low)) (pushed_other p.instances i r (λ same. other (ap (λ (j : ℕ). (j, Low)) same)))

  instance_queue_none : (s : Row) → instance_queue_chain p (next, s) ≡ None
  instance_queue_none s = ap (option_map (instance_queue_in s)) (no_last p.instances)

  instance_queue_new : (s : Row) → instance_queue_chain grown (next, s) ≡ Some (instance_queue_in s r)
  instance_queue_new s = ap (option_map (instance_queue_in s)) (pushed_last p.instances r)

  low_apart : (k : ℕ × Row) → mid k ≡ Some r.low → ⊥
  low_apart k at = elim (instance_queue_is next High k) [
    | inl same ↦ loose.two (same_Some r.high r.low (sym (instance_queue_new High) ∙ (sym (ap mid same) ∙ at)))
    | inr other ↦ loose.low.apart k (sym (mid_others k other) ∙ at)
  ]

  mid_rows : IsRows mid (λ q. q.instance_queue.index) (IsKeyed p) p.instance_queues (part is_of_instance (row p))
  mid_rows = IsRows-opened (instance_queue_chain p) (λ q. q.instance_queue.index) (IsKeyed p) p.instance_queues (part is_of_instance (row p)) whole.chained.instance_queues mid (part is_of_instance (row p)) (next, High) (instance_queue_is next High) mid_others (λ k other. refl) r.high (instance_queue_none High) (instance_queue_new High) (none_there High) loose.high.empty loose.high.apart

  instance_queues_grown : IsRows (instance_queue_chain grown) (λ q. q.instance_queue.index) (IsKeyed p) p.instance_queues (part is_of_instance (row p))
  instance_queues_grown = IsRows-opened mid (λ q. q.instance_queue.index) (IsKeyed p) p.instance_queues (part is_of_instance (row p)) mid_rows (instance_queue_chain grown) (part is_of_instance (row p)) (next, Low) (instance_queue_is next Low) last_others (λ k other. refl) r.low (instance_queue_none Low) (instance_queue_new Low) (none_there Low) loose.low.empty low_apart

  pub grown_whole : IsWhole grown
  unfolding table_use
  grown_whole = record {
    named = record {
      threads = λ rep q at. home_grown q.entry.item (whole.named.threads rep q at);
      calls = λ rep q at. call_grown q.entry.item (whole.named.calls rep q at);
      works = λ rep q at. work_grown q.entry.item (whole.named.works rep q at);
      switch = whole.named.switch;
    };
    chained = record {
      places = places_grown;
      waits = whole.chained.waits;
      ready_calls = whole.chained.ready_calls;
      ready_works = whole.chained.ready_works;
      polled = whole.chained.polled;
      rising = whole.chained.rising;
      marks = whole.chained.marks;
      instance_queues = instance_queues_grown;
      low = whole.chained.low;
      behind = whole.chained.behind;
    };
    nodes = record { marks = whole.nodes.marks; instance_queues = whole.nodes.instance_queues; callers = whole.nodes.callers; works = whole.nodes.works; apart = whole.nodes.apart };
    counted = record {
      kept = record { used = whole.counted.kept.used; groups = whole.counted.kept.groups; live = whole.counted.kept.live };
      calls = whole.counted.calls;
      sets = λ rep q at. let one = whole.counted.sets rep q at in record { members = one.members; entries = one.entries };
      groups = whole.counted.groups;
      few = whole.counted.few;
      finished = whole.counted.finished;
      high = λ some. high;
      low = λ some. low;
      works = whole.counted.works;
      results = whole.counted.results;
    };
  }
