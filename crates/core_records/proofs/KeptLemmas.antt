-- Kept numbers are what the machine counts, as contracts see it.
use Rattle.core_records.proofs.Core.{[], ap, ap₂, arith, bare, bare_call, bare_thread, bare_work, Bool, Call, call_key, call_of, cond, core_of, count_by, count_by-le-length, entries_for, false, get, GuestTaskKey, has_thread, has_waiters, is_host_call, is_in_set, is_live, is_moving, is_some, is_sorted-mapped, IsSetKept, IsSoundCore, item_at, item_of, keeps_set, key_in, length, length-map, List, list_any, live_count, loose_call, loose_thread, loose_work, mapped, members_of, nat_lt, ne_eqb, None, none_in_records, Ok, on_item, Option, option_map, parts_of, passing, place_at, place_at-mapped, Placed, placed_as, Records, records, refl, same_map, same_Some, seen, set_of, SetKey, size, size-records-le, Some, subst, sum_by-cons, sym, T, Table, table_len, table_use, TableId, Thread, thread_key, threads_of, true, uninterested, unmoved, Work, work_key, ℕ, ◌*◌, ◌+◌, ◌<◌, ◌==◌, ◌^◌, ◌||◌, ◌∙◌, ◌∷◌, ◌≡◌, ◌≤◌}
use Rattle.core_records.specs.declared.{call_records.GuestTask.GuestTask, parts.CoreParts.CoreParts, set_records.WaitSet.WaitSet, single.Single.Single, thread_records.GuestThread.GuestThread}
use Rattle.core_records.proofs.HandleLemmas.{find-mapped}
use Rattle.core_records.proofs.KindLemmas.{item_stands}
use Rattle.core_records.proofs.ReadLemmas.{call_named, set_named}
use Rattle.core_records.proofs.TableLemmas.{get_mapped, with_second}
use Rattle.core_records.specs.Instances.{mapped as mapped_list}

module _ {X Y : Type 0} (r : X → Y) where
  -- the map with a function of each record
  abbrev pub seconds : Records X → Records Y
  seconds m = record { list = mapped_list r m.list; sorted = subst T (sym (is_sorted-mapped r m.list)) m.sorted }

  pub get_seconds : (m : Records X) (n : ℕ) → get (seconds m) n ≡ option_map r (get m n)
  unfolding get
  get_seconds m n = find-mapped r n m.list

  pub passing_seconds : (test : Y → Bool) (m : Records X) → passing test (seconds m) ≡ passing (λ x. test (r x)) m
  passing_seconds test m = by_list m.list
    where
      by_list : (es : List (ℕ × X)) → count_by (λ e. test e.1) (mapped_list r es) ≡ count_by (λ e. test (r e.1)) es
      by_list [] = refl
      by_list (e ∷ es) =
          sum_by-cons (λ (e : ℕ × Y). cond (test e.1) 1 0) (e.0, r e.1) (mapped_list r es)
          ∙ (ap (λ n. cond (test (r e.1)) 1 0 + n) (by_list es) ∙ sym (sum_by-cons (λ (e : ℕ × X). cond (test (r e.1)) 1 0) e es))

  pub size_seconds : (m : Records X) → size (seconds m) ≡ size m
  unfolding size
  size_seconds m = length-map m.list (λ e. (e.0, r e.1))

  module _ {E F : Type 0} (key : E → Option (ℕ × X)) (name : F → Option (ℕ × Y)) (f : E → F) (same : (e : E) → name (f e) ≡ with_second r (key e)) where
    pub records_seconds : (t : Table E) → records name (mapped f t).places ≡ seconds (records key t.places)
    records_seconds t = same_map _ _ (λ n. get_mapped key name f r same t n ∙ sym (get_seconds (records key t.places) n))

module _ {X : Type 0} (test : X → Bool) where
  -- some record passes where the count is above 0
  pub any_passing : (m : Records X) → nat_lt 0 (passing test m) ≡ list_any (λ (e : ℕ × X). test e.1) m.list
  any_passing m = by_list m.list
    where
      by_test : (b c : Bool) (n : ℕ) → nat_lt 0 n ≡ c → nat_lt 0 (cond b 1 0 + n) ≡ (b || c)
      by_test true c n is = grind arith
      by_test false c n is = let none : 0 + n ≡ n = omega arith in ap (nat_lt 0) none ∙ is

      by_list : (es : List (ℕ × X)) → nat_lt 0 (count_by (λ (e : ℕ × X). test e.1) es) ≡ list_any (λ (e : ℕ × X). test e.1) es
      by_list [] = refl
      by_list (e ∷ es) = ap (nat_lt 0) (sum_by-cons (λ (e : ℕ × X). cond (test e.1) 1 0) e es) ∙ by_test (test e.1) _ (count_by (λ (e : ℕ × X). test e.1) es) (by_list es)

-- ---- The bare parts count the same

module _ (a : CoreParts) where
  bare_threads : (core_of (bare (parts_of a))).threads ≡ seconds loose_thread (seen a).core.threads
  unfolding seen
  bare_threads = records_seconds loose_thread thread_key thread_key (on_item bare_thread) (λ e. refl) a.threads

  bare_calls : (core_of (bare (parts_of a))).calls ≡ seconds (λ c. uninterested (loose_call c)) (seen a).core.calls
  unfolding seen
  bare_calls = records_seconds (λ c. uninterested (loose_call c)) call_key call_key (on_item bare_call) (λ e. refl) a.calls

  bare_works : (core_of (bare (parts_of a))).works ≡ seconds (λ w. unmoved (loose_work w)) (seen a).core.works
  unfolding seen
  bare_works = records_seconds (λ w. unmoved (loose_work w)) work_key work_key (on_item bare_work) (λ e. refl) a.works

  pub count_threads : (test : Thread → Bool) → passing test (core_of (bare (parts_of a))).threads ≡ passing (λ t. test (loose_thread t)) (seen a).core.threads
  count_threads test = ap (passing test) bare_threads ∙ passing_seconds loose_thread test (seen a).core.threads

  pub count_calls : (test : Call → Bool) → passing test (core_of (bare (parts_of a))).calls ≡ passing (λ c. test (uninterested (loose_call c))) (seen a).core.calls
  count_calls test = ap (passing test) bare_calls ∙ passing_seconds (λ c. uninterested (loose_call c)) test (seen a).core.calls

  pub count_works : (test : Work → Bool) → passing test (core_of (bare (parts_of a))).works ≡ passing (λ w. test (unmoved (loose_work w))) (seen a).core.works
  count_works test = ap (passing test) bare_works ∙ passing_seconds (λ w. unmoved (loose_work w)) test (seen a).core.works

  bare_use : table_use (core_of (bare (parts_of a))) ≡ table_use (seen a).core
  unfolding table_use seen
  bare_use =
      ap₂ (λ (n m : ℕ). length (seen a).core.groups + n + 2 * m + count_by (λ e. is_host_call e.1) (core_of (bare (parts_of a))).works.list + size (seen a).core.sets)
      (ap size bare_calls ∙ size_seconds (λ c. uninterested (loose_call c)) (seen a).core.calls) (ap size bare_threads ∙ size_seconds loose_thread (seen a).core.threads)
      ∙ ap (λ (n : ℕ). length (seen a).core.groups + size (seen a).core.calls + 2 * size (seen a).core.threads + n + size (seen a).core.sets) (count_works is_host_call)

  module _ (sound : IsSoundCore a) where
    pub used_is : a.kept.used ≡ table_use (seen a).core
    unfolding IsSoundCore
    used_is = sound.whole.counted.kept.used ∙ bare_use

    pub groups_are : a.kept.groups ≡ length (seen a).core.groups
    unfolding IsSoundCore seen
    groups_are = sound.whole.counted.kept.groups

    pub handles_are : a.counter.live ≡ live_count (seen a).core
    unfolding IsSoundCore seen live_count
    handles_are = sound.live

    pub live_is : a.kept.live ≡ passing is_live (seen a).core.works
    unfolding IsSoundCore
    live_is = sound.whole.counted.kept.live ∙ count_works is_live

    pub call_threads : (id : TableId GuestTaskKey) (g : GuestTask) → Ok g ≡ item_at item_of a.calls id.rep id.serial → g.threads ≡ threads_of g.number (seen a).core
    unfolding IsSoundCore
    call_threads id g is =
        let one = item_stands (λ (g : GuestTask). g.number) (λ (g : GuestTask). g.call) a.calls a.made.threads sound.tables.calls id.rep id.serial g is in
        sound.whole.counted.calls id.rep _ (place_at-mapped (on_item bare_call) a.calls id.rep ∙ (ap (placed_as (on_item bare_call)) one.1.0 ∙ ap (λ e. Some (record { serial = one.0.serial; parent = one.0.parent; entry = on_item bare_call e })) one.1.1.1))
        ∙ count_threads (λ t. t.call == g.number)

    set_kept : (id : TableId SetKey) (x : WaitSet) → Ok x ≡ item_at item_of a.sets id.rep id.serial → IsSetKept (core_of (bare (parts_of a))) x
    unfolding IsSoundCore
    set_kept id x is =
        let one = item_stands (λ (x : WaitSet). x.number) (λ (x : WaitSet). x.set) a.sets a.made.sets sound.tables.sets id.rep id.serial x is in
        sound.whole.counted.sets id.rep _ (one.1.0 ∙ ap (λ e. Some (record { serial = one.0.serial; parent = one.0.parent; entry = e })) one.1.1.1)

    pub set_members : (id : TableId SetKey) (x : WaitSet) → Ok x ≡ item_at item_of a.sets id.rep id.serial → x.members ≡ members_of x.number (seen a).core
    set_members id x is = (set_kept id x is).members ∙ ap₂ (λ n m. n + m) (count_calls (λ c. is_in_set x.number c.join)) (count_works (λ w. is_in_set x.number w.join))

    pub set_entries : (id : TableId SetKey) (x : WaitSet) → Ok x ≡ item_at item_of a.sets id.rep id.serial → x.entries ≡ entries_for x.number (seen a).core
    set_entries id x is = (set_kept id x is).entries ∙ count_threads (λ t. keeps_set x.number t t.place)

    -- ---- What is left of a call

    pub some_thread : (id : TableId GuestTaskKey) (g : GuestTask) → Ok g ≡ item_at item_of a.calls id.rep id.serial → nat_lt 0 g.threads ≡ has_thread (call_of (seen a) id) (seen a).core
    unfolding has_thread
    some_thread id g is =
        ap (nat_lt 0) (call_threads id g is)
        ∙ (any_passing (λ t. t.call == g.number) (seen a).core.threads
        ∙ ap (λ k. list_any (λ (e : ℕ × Thread). e.1.call == k) (seen a).core.threads.list) (call_named a id g is))

    -- no thread is of the call 0
    call_above : (r : ℕ) (o : Option (Placed (Single GuestThread))) → place_at a.threads r ≡ o → (x : ℕ × Thread) → key_in thread_key o ≡ Some x → (x.1.call == 0) ≡ false
    unfolding IsSoundCore
    call_above r None at x is = absurd (cc)
    call_above r (Some q) at x is =
        let there = (sound.whole.named.threads r (record { serial = q.serial; parent = q.parent; entry = on_item bare_thread q.entry }) (place_at-mapped (on_item bare_thread) a.threads r ∙ ap (placed_as (on_item bare_thread)) at)).there in
        let same : q.entry.item.thread.call ≡ x.1.call = ap (λ (e : ℕ × Thread). e.1.call) (same_Some (q.entry.item.number, q.entry.item.thread) x is) in
        ne_eqb x.1.call 0 (λ zero. omega arith)

    pub no_thread : false ≡ has_thread 0 (seen a).core
    unfolding has_thread seen
    no_thread = sym (none_in_records (λ (e : ℕ × Thread). e.1.call == 0) thread_key a.threads.places (λ r x at. call_above r (place_at a.threads r) refl x at))

    pub some_waiter : (id : TableId SetKey) (x : WaitSet) → Ok x ≡ item_at item_of a.sets id.rep id.serial → nat_lt 0 x.entries ≡ has_waiters (set_of (seen a) id) (seen a).core
    unfolding has_waiters
    some_waiter id x is =
        ap (nat_lt 0) (set_entries id x is)
        ∙ (any_passing (λ t. keeps_set x.number t t.place) (seen a).core.threads
        ∙ ap (λ n. list_any (λ (e : ℕ × Thread). keeps_set n e.1 e.1.place) (seen a).core.threads.list) (set_named a id x is))

    -- few works move
    pub moving_few : a.kept.moving + 1 < 2 ^ 64
    unfolding IsSoundCore seen size
    moving_few =
        let some : passing is_moving (seen a).core.works ≤ length (seen a).core.works.list = count_by-le-length (λ (e : ℕ × Work). is_moving e.1) (seen a).core.works.list in
        let all : length (seen a).core.works.list ≤ table_len a.works = size-records-le work_key a.works sound.tables.works.apart in
        let places : table_len a.works ≤ length a.works.places = count_by-le-length is_some a.works.places in
        let few = sound.tables.works.table.places_fit in
        let is = sound.moving in
        omega arith
