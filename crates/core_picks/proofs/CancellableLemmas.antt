-- What a cancel takes first: the wanted thread, else the least of those that wait; where they aren't kept, the call's first thread.
use Rattle.core_places.proofs.WaitingLemmas.{filed_by_test, waits_in_call}
use Rattle.core_places.proofs.WantedLemmas.{found_there, named_there, thread_seated}
use Rattle.core_places.specs.Picks.{IsLeastWaiting, IsWantedWaiting}
use Rattle.core_primitives.specs.Live.{live_thread}
use Rattle.core_primitives.specs.Preferences.{preference}
use Rattle.core_primitives.specs.StateView.{thread_of}
use Rattle.core_records.proofs.Core.{[], ap, ap₂, Bool, cond, eq-eqb, eqb-true, false, filter, find, get, get-records, IfSome, is_some, IsSoundCore, List, list_any, map, nat_cmp, nat_cmp_total, ne_eqb, None, numbers, Option, option_map, option_map_or, Place, place_at, Placed, records, refl, seen, Some, subst, sym, TableId, Thread, thread_key, ThreadKey, true, unsigned_tied, ℕ, ◌&&◌, ◌<◌, ◌==◌, ◌||◌, ◌∙◌, ◌∷◌, ◌≡◌}
use Rattle.core_records.proofs.ReadLemmas.{thread_shown}
use Rattle.core_records.specs.RecordPlaces.{waits_in}
use Rattle.core_records.specs.declared.{parts.CoreParts.CoreParts, single.Single.Single, thread_records.GuestThread.GuestThread}
use Rattle.machine_data.specs.Moves.{waits_cancellable}
use Rattle.machine_data.specs.Read.{place_of, waits_by_callback}
use Rattle.machine_rules.specs.Cancels.{cancellable, is_waiting, is_waiting_of, waiting_callback, waiting_in}
use Rattle.machine_rules.specs.Picks.{ThreadSeat, cancel_before, thread_seat, waiter_or}
use Rattle.machine_rules.specs.Step.{is_among}
use Rattle.std.proofs.Common.{arith}
use Rattle.std.proofs.lemmas.Bool.{and_parts}
use Rattle.std.proofs.lemmas.Cmp.{tied_itself}
use Rattle.std.specs.Ordering.{is_lt}
use Rattle.std.specs.declared.cmp.Ordering.{Ordering}

-- ---- Lists of numbers

among_kept : (test : ℕ → Bool) (n : ℕ) → test n ≡ true → (ns : List ℕ) → is_among n ns ≡ true → is_among n (filter test ns) ≡ true
among_kept test n on [] is = absurd (cc)
among_kept test n on (m ∷ ns) is = by (test m) refl (among_kept test n on ns)
  where
    later : (b : Bool) → (is_among n ns ≡ true → is_among n (filter test ns) ≡ true) → (b || is_among n ns) ≡ true → (b || is_among n (filter test ns)) ≡ true
    later true more e = refl
    later false more e = more e

    apart : (b : Bool) → (n == m) ≡ b → test m ≡ false → (is_among n ns ≡ true → is_among n (filter test ns) ≡ true) → (b || is_among n ns) ≡ true → is_among n (filter test ns) ≡ true
    apart true same off more e = absurd (let two = sym on ∙ (ap test (eqb-true n m same) ∙ off) in cc)
    apart false differ off more e = more e

    by : (b : Bool) → test m ≡ b → (is_among n ns ≡ true → is_among n (filter test ns) ≡ true) → is_among n (cond b (m ∷ filter test ns) (filter test ns)) ≡ true
    by true at more = later (n == m) more is
    by false at more = apart (n == m) refl at more is

found_among : {X : Type 0} (n : ℕ) (es : List (ℕ × X)) → is_some (find nat_cmp n es) ≡ true → is_among n (map (λ (e : ℕ × X). e.0) es) ≡ true
found_among n [] is = absurd (cc)
found_among {X} n (e ∷ es) is = by (n == e.0) refl (found_among n es)
  where
    by : (b : Bool) → (n == e.0) ≡ b → (is_some (find nat_cmp n es) ≡ true → is_among n (map (λ (f : ℕ × X). f.0) es) ≡ true) → (b || is_among n (map (λ (f : ℕ × X). f.0) es)) ≡ true
    by true same more = refl
    by false other more = more (ap (λ (c : Bool). is_some (cond c (Some e.1) (find nat_cmp n es))) (sym (unsigned_tied n e.0 ∙ other)) ∙ is)

none_of : (test kept : ℕ → Bool) → ((n : ℕ) → kept n ≡ true → test n ≡ false) → (ns : List ℕ) → list_any test (filter kept ns) ≡ false
none_of test kept off [] = refl
none_of test kept off (n ∷ ns) = by (kept n) refl (none_of test kept off ns)
  where
    by : (b : Bool) → kept n ≡ b → list_any test (filter kept ns) ≡ false → list_any test (cond b (n ∷ filter kept ns) (filter kept ns)) ≡ false
    by true on more = ap (λ (c : Bool). c || list_any test (filter kept ns)) (off n on) ∙ more
    by false on more = more

module _ (a : CoreParts) (sound : IsSoundCore a) (k : ℕ) where
  -- ---- Which threads there are

  pub many : waits_cancellable k (seen a).core ≡ true → cancellable k (seen a).core ≡ waiting_in k (seen a).core
  many is = ap (λ (b : Bool). cond b (waiting_in k (seen a).core) (waiting_callback k (seen a).core)) is

  pub alone : waits_cancellable k (seen a).core ≡ false → cancellable k (seen a).core ≡ waiting_callback k (seen a).core
  alone is = ap (λ (b : Bool). cond b (waiting_in k (seen a).core) (waiting_callback k (seen a).core)) is

  is_there : (n : ℕ) (o : Option Thread) → waits_in_call k o ≡ true → is_some o ≡ true
  is_there n None waits = absurd (let two = (and_parts (0 == k) false waits).1 in cc)
  is_there n (Some d) waits = refl

  pub waiting_among : (n : ℕ) → is_waiting_of k (seen a).core n ≡ true → is_among n (waiting_in k (seen a).core) ≡ true
  unfolding get numbers
  waiting_among n waits = among_kept (is_waiting_of k (seen a).core) n waits (numbers (seen a).core.threads) (found_among n (seen a).core.threads.list (is_there n (get (seen a).core.threads n) waits))

  pub waiting_positive : (n : ℕ) → is_waiting_of k (seen a).core n ≡ true → 0 < n
  unfolding seen IsSoundCore
  waiting_positive ℕ.zero waits =
      let none : get (records thread_key a.threads.places) 0 ≡ None = get-records thread_key a.threads.places 0 ∙ sound.tables.threads.above_zero in
      let never = (and_parts (0 == k) false (sym (ap (waits_in_call k) none) ∙ waits)).1 in
      absurd (cc)
  waiting_positive (ℕ.suc n) waits = omega arith

  -- ---- The least of them

  abbrev StandsWaiting : ℕ → Type 0
  StandsWaiting n = (r : ℕ) × ((q : Placed (Single GuestThread)) × ((place_at a.threads r ≡ Some q) × ((q.entry.item.number ≡ n) × (waits_in q.entry.item.thread.place q.entry.item.thread.call ≡ Some k))))

  stands_waiting : (n : ℕ) → is_waiting_of k (seen a).core n ≡ true → StandsWaiting n
  unfolding seen
  stands_waiting n waits = by (get (seen a).core.threads n) refl waits
    where
      by : (o : Option Thread) → get (seen a).core.threads n ≡ o → waits_in_call k o ≡ true → StandsWaiting n
      by None at is = absurd (let two = (and_parts (0 == k) false is).1 in cc)
      by (Some d) at is =
          let parts = and_parts (d.call == k) (is_waiting d.place) is in
          let one = found_there (λ (g : GuestThread). g.number) (λ (g : GuestThread). g.thread) a.threads n d at in
          (one.0, (one.1.0, (one.1.1.0, (one.1.1.1.0, ap (λ (x : Thread). waits_in x.place x.call) one.1.1.1.1 ∙ filed_by_test d.call k d.place (eqb-true d.call k parts.0) parts.1))))

  abbrev lesser : ℕ → ℕ → Bool
  lesser m n = is_lt (nat_cmp (thread_seat (seen a).tags.seats m).own (thread_seat (seen a).tags.seats n).own)

  own_least : (id : TableId ThreadKey) → 0 < thread_of (seen a) id → IsLeastWaiting a k id → (n : ℕ) → is_waiting_of k (seen a).core n ≡ true → lesser n (thread_of (seen a) id) ≡ false
  own_least id live least n waits =
      let one = stands_waiting n waits in
      let q = one.1.0 in
      let two = named_there (λ (g : GuestThread). g.number) (λ (g : GuestThread). g.thread) a.threads id.rep id.serial (subst (λ m. 0 < m) (thread_shown a id) live) in
      let p = two.0 in
      ap₂ lesser (sym one.1.1.1.0) (thread_shown a id ∙ sym two.1.1.1)
      ∙ (ap₂ (λ (x y : ThreadSeat). is_lt (nat_cmp x.own y.own)) (thread_seated a sound one.0 q one.1.1.0) (thread_seated a sound id.rep p two.1.0)
      ∙ least p.entry.item two.1.1.0 one.0 q one.1.1.0 one.1.1.1.1)

  abbrev told : ℕ → ℕ → Option (TableId ThreadKey) → Bool
  told n w o = waiter_or (option_map (λ v. thread_of (seen a) v) o) n w (lesser n w)

  abbrev IsFirst : ℕ → Type 0
  IsFirst w = list_any (λ n. cancel_before (preference (seen a)) n w) (waiting_in k (seen a).core) ≡ false

  pub wanted_first : (id : TableId ThreadKey) → a.wanted.waiter ≡ Some id → IsFirst (thread_of (seen a) id)
  unfolding seen
  wanted_first id is =
      let w = thread_of (seen a) id in
      none_of (λ n. cancel_before (preference (seen a)) n w) (is_waiting_of k (seen a).core)
      (λ n waits. ap (told n w) is ∙ ap (λ (b : Bool). cond b false (cond (w == n) true (lesser n w))) (eq-eqb w w refl)) (numbers (seen a).core.threads)

  pub least_first : (id : TableId ThreadKey) → IsWantedWaiting a k None → is_waiting_of k (seen a).core (thread_of (seen a) id) ≡ true → 0 < thread_of (seen a) id → IsLeastWaiting a k id → IsFirst (thread_of (seen a) id)
  unfolding seen
  least_first id none is live least = none_of (λ n. cancel_before (preference (seen a)) n w) (is_waiting_of k (seen a).core) (λ n waits. by n waits a.wanted.waiter refl none) (numbers (seen a).core.threads)
    where
      w : ℕ
      w = thread_of (seen a) id

      apart : (m v : ℕ) → is_waiting_of k (seen a).core m ≡ false → is_waiting_of k (seen a).core v ≡ true → (m == v) ≡ false
      apart m v off on = ne_eqb m v (λ same. let never : false ≡ true = sym off ∙ (ap (is_waiting_of k (seen a).core) same ∙ on) in absurd (cc))

      by : (n : ℕ) → is_waiting_of k (seen a).core n ≡ true → (o : Option (TableId ThreadKey)) → a.wanted.waiter ≡ o → IfSome o (λ v. is_waiting_of k (seen a).core (thread_of (seen a) v) ≡ false) → told n w a.wanted.waiter ≡ false
      by n waits None at off = ap (told n w) at ∙ own_least id live least n waits
      by n waits (Some v) at off =
          let m = thread_of (seen a) v in
          ap (told n w) at
          ∙ (ap (λ (b : Bool). cond b false (cond (m == n) true (lesser n w))) (apart m w off is)
          ∙ (ap (λ (b : Bool). cond b true (lesser n w)) (apart m n off waits)
          ∙ own_least id live least n waits))

  -- ---- The first thread of a call, where it waits by callback

  -- it is the only one that a cancel may take, and doesn't come before itself
  pub alone_first : (n : ℕ) → waiting_callback k (seen a).core ≡ n ∷ [] → list_any (λ m. cancel_before (preference (seen a)) m n) (waiting_callback k (seen a).core) ≡ false
  unfolding seen
  alone_first n one = ap (list_any (λ m. cancel_before (preference (seen a)) m n)) one ∙ ap (λ (b : Bool). b || false) (by a.wanted.waiter)
    where
      even : (m : ℕ) → is_lt (nat_cmp m m) ≡ false
      even m = ap (λ (o : Ordering). is_lt o) (tied_itself nat_cmp_total m)

      either : (b : Bool) → cond b false (cond b true (lesser n n)) ≡ false
      either true = refl
      either false = even (thread_seat (seen a).tags.seats n).own

      by : (o : Option (TableId ThreadKey)) → told n n o ≡ false
      by None = even (thread_seat (seen a).tags.seats n).own
      by (Some v) = either (thread_of (seen a) v == n)

  pub alone_among : (n : ℕ) → waiting_callback k (seen a).core ≡ n ∷ [] → is_among n (waiting_callback k (seen a).core) ≡ true
  alone_among n one = ap (is_among n) one ∙ ap (λ (b : Bool). b || false) (eq-eqb n n refl)

-- ---- The first thread of a call, where its record names it

module _ (a : CoreParts) (sound : IsSoundCore a) (k first : ℕ) (is : first ≡ live_thread k (seen a).core) where
  nothing : get (seen a).core.threads 0 ≡ None
  unfolding seen IsSoundCore
  nothing = get-records thread_key a.threads.places 0 ∙ sound.tables.threads.above_zero

  place_kept : place_of first (seen a).core ≡ place_of k (seen a).core
  place_kept = ap (λ (n : ℕ). place_of n (seen a).core) is ∙ by (get (seen a).core.threads k) refl
    where
      by : (o : Option Thread) → get (seen a).core.threads k ≡ o → place_of (cond (is_some o) k 0) (seen a).core ≡ place_of k (seen a).core
      by None at = ap (option_map (λ (t : Thread). t.place)) (nothing ∙ sym at)
      by (Some t) at = refl

  first_is : is_some (place_of first (seen a).core) ≡ true → first ≡ k
  first_is there = is ∙ by (get (seen a).core.threads k) (ap is_some (sym place_kept) ∙ there)
    where
      by : (o : Option Thread) → is_some (option_map (λ (t : Thread). t.place) o) ≡ true → cond (is_some o) k 0 ≡ k
      by None some = absurd (cc)
      by (Some t) some = refl

  positive_there : (n : ℕ) → is_some (place_of n (seen a).core) ≡ true → 0 < n
  positive_there ℕ.zero there = absurd (let never : false ≡ true = sym (ap (λ (o : Option Thread). is_some (option_map (λ (t : Thread). t.place) o)) nothing) ∙ there in cc)
  positive_there (ℕ.suc n) there = omega arith

  -- what is read of it says whether the call's thread waits by callback
  pub callback_one : (p : Place) → Some p ≡ place_of first (seen a).core → waits_by_callback p ≡ true → waiting_callback k (seen a).core ≡ first ∷ []
  callback_one p at on =
      ap (λ (b : Bool). cond b (k ∷ []) []) (ap (λ (o : Option Place). option_map_or waits_by_callback o false) (sym (at ∙ place_kept)) ∙ on)
      ∙ ap (λ (n : ℕ). n ∷ []) (sym (first_is (ap is_some (sym at))))

  pub callback_none : (o : Option Place) → o ≡ place_of first (seen a).core → option_map_or waits_by_callback o false ≡ false → waiting_callback k (seen a).core ≡ []
  callback_none o at off = ap (λ (b : Bool). cond b (k ∷ []) []) (ap (λ (p : Option Place). option_map_or waits_by_callback p false) (sym (at ∙ place_kept)) ∙ off)

  pub callback_live : (p : Place) → Some p ≡ place_of first (seen a).core → 0 < first
  callback_live p at = positive_there first (ap is_some (sym at))
