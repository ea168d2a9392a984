-- A thread more, as contracts see it: the records of threads and their callers, and what ids name.
use Rattle.core_records.proofs.Core.{[], ap, ap₂, arith, bare, callers_chain, callers_in, insert, IsSoundCore, List, list_or_nil, map, next_place, number_of, Option, parts_of, pushed, PutsRecord-pushed, records, refl, seen, subst, sym, Table, TableId, thread_key, thread_of, ThreadKey, values, ℕ, ◌+◌, ◌<◌, ◌∙◌, ◌≡◌}
use Rattle.core_records.specs.declared.{parts.CoreParts.CoreParts, single.Single.Single, thread_records.Follower.Follower, thread_records.GuestThread.GuestThread}
use Rattle.core_makes.specs.Loose.{IsLoose}
use Rattle.core_queues.proofs.CallerLemmas.{apart_as, none_as}
use Rattle.core_records.proofs.MakeLemmas.{number_kept, number_new, records_more}
use Rattle.core_records.proofs.ReadLemmas.{thread_shown}

module _ (a : CoreParts) (sound : IsSoundCore a) (g : GuestThread) (next : g.number ≡ a.made.threads + 1) where
  abbrev more : Table (Single GuestThread)
  more = pushed (record { item = g }) a.threads

  pub threads_are : records thread_key more.places ≡ insert (records thread_key a.threads.places) (a.made.threads + 1) g.thread
  unfolding IsSoundCore
  threads_are = records_more (λ (h : GuestThread). h.number) (λ (h : GuestThread). h.thread) a.threads a.made.threads sound.tables.threads g next ∙ ap (λ (n : ℕ). insert (records thread_key a.threads.places) n g.thread) next

  abbrev behind_of : GuestThread → List ℕ
  behind_of h = map (λ (f : Follower). f.number) (values a.behind h.callers)

  pub callers_are : IsLoose (callers_chain (bare (parts_of a))) a.behind g.callers → records (callers_in a.behind) more.places ≡ insert (records (callers_in a.behind) a.threads.places) (a.made.threads + 1) []
  unfolding IsSoundCore
  callers_are loose =
      (PutsRecord-pushed (callers_in a.behind) a.threads (record { item = g }) g.number (behind_of g) sound.tables.threads.table (apart_as (λ (h : GuestThread). h.number) (λ (h : GuestThread). h.thread) behind_of a.threads.places sound.tables.threads.apart) refl
      (none_as (λ (h : GuestThread). h.number) (λ (h : GuestThread). h.thread) behind_of g.number a.threads.places (sound.tables.threads.later g.number (omega arith)))).map
      ∙ ap₂ (λ (n : ℕ) (ns : List ℕ). insert (records (callers_in a.behind) a.threads.places) n ns) next (ap (λ (o : Option (List (ℕ × Follower))). map (λ (f : Follower). f.number) (map (λ e. e.1) (list_or_nil o))) loose.empty)

  module _ (b : CoreParts) (is : b.threads ≡ more) (k : TableId ThreadKey) where
    named_by : thread_of (seen b) k ≡ number_of thread_key more k.rep k.serial
    named_by = thread_shown b k ∙ ap (λ (t : Table (Single GuestThread)). number_of thread_key t k.rep k.serial) is

    pub thread_still : 0 < thread_of (seen a) k → thread_of (seen b) k ≡ thread_of (seen a) k
    unfolding IsSoundCore
    thread_still live =
        named_by
        ∙ (number_kept (λ (h : GuestThread). h.number) (λ (h : GuestThread). h.thread) a.threads a.made.threads sound.tables.threads g next k.rep k.serial (subst (λ (n : ℕ). 0 < n) (thread_shown a k) live)
        ∙ sym (thread_shown a k))

    pub thread_new : k.rep ≡ next_place a.threads → k.serial ≡ a.threads.given → thread_of (seen b) k ≡ a.made.threads + 1
    unfolding IsSoundCore
    thread_new at serial = named_by ∙ (number_new (λ (h : GuestThread). h.number) (λ (h : GuestThread). h.thread) a.threads a.made.threads sound.tables.threads g next k.rep k.serial at serial ∙ next)
