-- A thread with another place, as the primitive writes it: records, sets and chains together.
use Rattle.core_records.proofs.Core.{ap, arith, bare_thread, Bool, cond, Core, entry_of, false, get, get-records, is_some, IsSome, IsSoundCore, item_at, item_of, keeps_set, loose_thread, mapped, ne_eqb, None, Ok, on_item, one_if_passes, Option, passing, Place, records, refl, same_map, set_key, size, size-change, Some, subst, sym, Table, Thread, thread_key, true, with_entry, ℕ, ◌+◌, ◌-◌, ◌<◌, ◌==◌, ◌∙◌, ◌≡◌, ◌≤◌}
use Rattle.core_records.specs.declared.{parts.CoreParts.CoreParts, set_records.WaitSet.WaitSet, single.Single.Single, thread_records.GuestThread.GuestThread}
use Rattle.core_records.proofs.KeptLemmas.{records_seconds, seconds}
use Rattle.core_records.proofs.KindLemmas.{passing_same, passing_written, records_changed}
use Rattle.core_places.proofs.AlikeLemmas.{found_alike}
use Rattle.core_places.proofs.EntryLemmas.{is_the}
use Rattle.core_places.specs.Moved.{Alike, set_named, uncounted}

-- the number of a set that is there is the named one just where the option has it
pub set_is_the : (o : Option ℕ) (s : Core) (n : ℕ) → 0 < n → IsSome (get s.sets n) → (n == set_named o s) ≡ is_the n o
set_is_the None s n positive there = ne_eqb n 0 (λ zero. omega (arith, positive, zero))
set_is_the (Some y) s n positive there = by (is_some (get s.sets y)) refl
  where
    other : (n ≡ y → ⊥) → (n == 0) ≡ (n == y)
    other differ = ne_eqb n 0 (λ zero. omega (arith, positive, zero)) ∙ sym (ne_eqb n y differ)

    by : (b : Bool) → is_some (get s.sets y) ≡ b → (n == cond (is_some (get s.sets y)) y 0) ≡ (n == y)
    by true is = ap (λ c. n == cond c y 0) is
    by false is = ap (λ c. n == cond c y 0) is ∙ other (λ same. absurd (let two = sym is ∙ subst (λ m. is_some (get s.sets m) ≡ true) same there in cc))

-- one less, one more
pub recount : (from to : Bool) (before after : ℕ) → after + cond from 1 0 ≡ before + cond to 1 0 → (from ≡ true → 1 ≤ before) → cond to (cond from (before - 1) before + 1) (cond from (before - 1) before) ≡ after
recount true true before after law some = let one = some refl in omega (arith, law, one)
recount true false before after law some = let one = some refl in omega (arith, law, one)
recount false true before after law some = omega (arith, law)
recount false false before after law some = omega (arith, law)

-- the test of a thread whose loose fields are left out
abbrev pub keeps : ℕ → Thread → Bool
keeps n t = keeps_set n (loose_thread t) (loose_thread t).place

module _ (a : CoreParts) (sound : IsSoundCore a) (rep serial : ℕ) (g : GuestThread) (is : Ok g ≡ item_at item_of a.threads rep serial) where
  -- a thread that keeps a set is counted there
  pub counted_there : (n : ℕ) → keeps n g.thread ≡ true → 1 ≤ passing (keeps n) (records thread_key a.threads.places)
  unfolding IsSoundCore
  counted_there n some =
      let law = passing_written (λ (g : GuestThread). g.number) (λ (g : GuestThread). g.thread) a.threads a.made.threads sound.tables.threads rep serial g is (record g { thread = record g.thread { place = Place.New } }) refl (keeps n) in
      let one : one_if_passes (keeps n) (Some g.thread) ≡ 1 = ap (λ b. cond b 1 0) some in
      omega arith

  module _ (h : GuestThread) (same : h.number ≡ g.number) where
    abbrev pub threads_put : Table (Single GuestThread)
    threads_put = with_entry rep (entry_of h) a.threads

    pub entries_change : (n : ℕ) → passing (keeps n) (records thread_key threads_put.places) + cond (keeps n g.thread) 1 0 ≡ passing (keeps n) (records thread_key a.threads.places) + cond (keeps n h.thread) 1 0
    unfolding IsSoundCore
    entries_change n = passing_written (λ (g : GuestThread). g.number) (λ (g : GuestThread). g.thread) a.threads a.made.threads sound.tables.threads rep serial g is h same (keeps n)

    pub calls_same : h.thread.call ≡ g.thread.call → (k : ℕ) → passing (λ t. t.call == k) (records thread_key threads_put.places) ≡ passing (λ t. t.call == k) (records thread_key a.threads.places)
    unfolding IsSoundCore
    calls_same call k = passing_same (λ (g : GuestThread). g.number) (λ (g : GuestThread). g.thread) a.threads a.made.threads sound.tables.threads rep serial g is h same (λ t. t.call == k) (ap (λ m. m == k) call)

    pub threads_size : size (records thread_key threads_put.places) ≡ size (records thread_key a.threads.places)
    unfolding IsSoundCore
    threads_size = ap size (records_changed (λ (g : GuestThread). g.number) (λ (g : GuestThread). g.thread) a.threads a.made.threads sound.tables.threads rep serial g is h same (λ t. h.thread) refl) ∙ size-change _ _ _

-- a table of threads seen without what is loose
pub bare_records : (t : Table (Single GuestThread)) → records thread_key (mapped (on_item bare_thread) t).places ≡ seconds loose_thread (records thread_key t.places)
bare_records t = records_seconds loose_thread thread_key thread_key (on_item bare_thread) (λ e. refl) t

-- sets alike are the same records
pub sets_same : (new old : Table (Single WaitSet)) → Alike uncounted new old → records set_key new.places ≡ records set_key old.places
sets_same new old alike = same_map _ _ (λ n. get-records set_key new.places n ∙ (found_alike uncounted new old alike (λ (x : WaitSet). x.number) (λ x. refl) (λ (x : WaitSet). x.set) (λ x. refl) n ∙ sym (get-records set_key old.places n)))
