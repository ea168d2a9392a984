-- What is read under an id is the machine's record of what the id names.
use Rattle.core_records.proofs.Core.{ap, call_key, call_number, call_of, Err, get, GuestTaskKey, HostTaskKey, IsSoundCore, item_at, item_of, None, number_of, Ok, records, ResourceTableError, seen, set_key, set_number, set_of, SetKey, Some, sym, TableId, thread_key, thread_number, thread_of, ThreadKey, work_key, work_number, work_of, ◌∙◌, ◌≡◌}
use Rattle.std.proofs.Common.{IsSome, option_and_then, subst, ◌<◌}
use Rattle.task_table.specs.Table.{place_at}
use Rattle.core_records.specs.declared.{call_records.GuestTask.GuestTask, parts.CoreParts.CoreParts, set_records.WaitSet.WaitSet, thread_records.GuestThread.GuestThread, work_records.WorkRecord.WorkRecord}
use Rattle.core_records.proofs.KindLemmas.{item_number, item_read, live_item, live_there, number_shown, refused_number, refused_read}

module _ (a : CoreParts) where
  pub thread_shown : (id : TableId ThreadKey) → thread_of (seen a) id ≡ number_of thread_key a.threads id.rep id.serial
  unfolding seen thread_number
  thread_shown id = number_shown (λ (g : GuestThread). g.number) (λ (g : GuestThread). g.thread) a.threads id.rep id.serial

  pub call_shown : (id : TableId GuestTaskKey) → call_of (seen a) id ≡ number_of call_key a.calls id.rep id.serial
  unfolding seen call_number
  call_shown id = number_shown (λ (g : GuestTask). g.number) (λ (g : GuestTask). g.call) a.calls id.rep id.serial

  pub work_shown : (id : TableId HostTaskKey) → work_of (seen a) id ≡ number_of work_key a.works id.rep id.serial
  unfolding seen work_number
  work_shown id = number_shown (λ (w : WorkRecord). w.number) (λ (w : WorkRecord). w.work) a.works id.rep id.serial

  pub set_shown : (id : TableId SetKey) → set_of (seen a) id ≡ number_of set_key a.sets id.rep id.serial
  unfolding seen set_number
  set_shown id = number_shown (λ (x : WaitSet). x.number) (λ (x : WaitSet). x.set) a.sets id.rep id.serial

  pub thread_named : (id : TableId ThreadKey) (g : GuestThread) → Ok g ≡ item_at item_of a.threads id.rep id.serial → g.number ≡ thread_of (seen a) id
  thread_named id g is = sym (thread_shown id ∙ item_number (λ (g : GuestThread). g.number) (λ (g : GuestThread). g.thread) a.threads id.rep id.serial g is)

  pub thread_unnamed : (id : TableId ThreadKey) (why : ResourceTableError) → Err why ≡ item_at item_of a.threads id.rep id.serial → thread_of (seen a) id ≡ 0
  thread_unnamed id why is = thread_shown id ∙ refused_number (λ (g : GuestThread). g.number) (λ (g : GuestThread). g.thread) a.threads id.rep id.serial why is

  pub thread_stands : (id : TableId ThreadKey) → 0 < thread_of (seen a) id → IsSome (option_and_then (λ p. item_of p.entry) (place_at a.threads id.rep))
  thread_stands id live = live_there (λ (g : GuestThread). g.number) (λ (g : GuestThread). g.thread) a.threads id.rep id.serial (subst (λ n. 0 < n) (thread_shown id) live)

  pub thread_item : (id : TableId ThreadKey) → 0 < thread_of (seen a) id → (g : GuestThread) → Some g ≡ option_and_then (λ p. item_of p.entry) (place_at a.threads id.rep) → Ok g ≡ item_at item_of a.threads id.rep id.serial
  thread_item id live g is = live_item (λ (g : GuestThread). g.number) (λ (g : GuestThread). g.thread) a.threads id.rep id.serial (subst (λ n. 0 < n) (thread_shown id) live) g is

  pub call_stands : (id : TableId GuestTaskKey) → 0 < call_of (seen a) id → IsSome (option_and_then (λ p. item_of p.entry) (place_at a.calls id.rep))
  call_stands id live = live_there (λ (g : GuestTask). g.number) (λ (g : GuestTask). g.call) a.calls id.rep id.serial (subst (λ n. 0 < n) (call_shown id) live)

  pub call_item : (id : TableId GuestTaskKey) → 0 < call_of (seen a) id → (g : GuestTask) → Some g ≡ option_and_then (λ p. item_of p.entry) (place_at a.calls id.rep) → Ok g ≡ item_at item_of a.calls id.rep id.serial
  call_item id live g is = live_item (λ (g : GuestTask). g.number) (λ (g : GuestTask). g.call) a.calls id.rep id.serial (subst (λ n. 0 < n) (call_shown id) live) g is

  pub call_named : (id : TableId GuestTaskKey) (g : GuestTask) → Ok g ≡ item_at item_of a.calls id.rep id.serial → g.number ≡ call_of (seen a) id
  call_named id g is = sym (call_shown id ∙ item_number (λ (g : GuestTask). g.number) (λ (g : GuestTask). g.call) a.calls id.rep id.serial g is)

  pub call_unnamed : (id : TableId GuestTaskKey) (why : ResourceTableError) → Err why ≡ item_at item_of a.calls id.rep id.serial → call_of (seen a) id ≡ 0
  call_unnamed id why is = call_shown id ∙ refused_number (λ (g : GuestTask). g.number) (λ (g : GuestTask). g.call) a.calls id.rep id.serial why is

  pub work_stands : (id : TableId HostTaskKey) → 0 < work_of (seen a) id → IsSome (option_and_then (λ p. item_of p.entry) (place_at a.works id.rep))
  work_stands id live = live_there (λ (w : WorkRecord). w.number) (λ (w : WorkRecord). w.work) a.works id.rep id.serial (subst (λ n. 0 < n) (work_shown id) live)

  pub work_item : (id : TableId HostTaskKey) → 0 < work_of (seen a) id → (w : WorkRecord) → Some w ≡ option_and_then (λ p. item_of p.entry) (place_at a.works id.rep) → Ok w ≡ item_at item_of a.works id.rep id.serial
  work_item id live w is = live_item (λ (w : WorkRecord). w.number) (λ (w : WorkRecord). w.work) a.works id.rep id.serial (subst (λ n. 0 < n) (work_shown id) live) w is

  pub work_named : (id : TableId HostTaskKey) (w : WorkRecord) → Ok w ≡ item_at item_of a.works id.rep id.serial → w.number ≡ work_of (seen a) id
  work_named id w is = sym (work_shown id ∙ item_number (λ (w : WorkRecord). w.number) (λ (w : WorkRecord). w.work) a.works id.rep id.serial w is)

  pub work_unnamed : (id : TableId HostTaskKey) (why : ResourceTableError) → Err why ≡ item_at item_of a.works id.rep id.serial → work_of (seen a) id ≡ 0
  work_unnamed id why is = work_shown id ∙ refused_number (λ (w : WorkRecord). w.number) (λ (w : WorkRecord). w.work) a.works id.rep id.serial why is

  pub set_stands : (id : TableId SetKey) → 0 < set_of (seen a) id → IsSome (option_and_then (λ p. item_of p.entry) (place_at a.sets id.rep))
  set_stands id live = live_there (λ (x : WaitSet). x.number) (λ (x : WaitSet). x.set) a.sets id.rep id.serial (subst (λ n. 0 < n) (set_shown id) live)

  pub set_item : (id : TableId SetKey) → 0 < set_of (seen a) id → (x : WaitSet) → Some x ≡ option_and_then (λ p. item_of p.entry) (place_at a.sets id.rep) → Ok x ≡ item_at item_of a.sets id.rep id.serial
  set_item id live x is = live_item (λ (x : WaitSet). x.number) (λ (x : WaitSet). x.set) a.sets id.rep id.serial (subst (λ n. 0 < n) (set_shown id) live) x is

  pub set_named : (id : TableId SetKey) (x : WaitSet) → Ok x ≡ item_at item_of a.sets id.rep id.serial → x.number ≡ set_of (seen a) id
  set_named id x is = sym (set_shown id ∙ item_number (λ (x : WaitSet). x.number) (λ (x : WaitSet). x.set) a.sets id.rep id.serial x is)

  pub set_unnamed : (id : TableId SetKey) (why : ResourceTableError) → Err why ≡ item_at item_of a.sets id.rep id.serial → set_of (seen a) id ≡ 0
  set_unnamed id why is = set_shown id ∙ refused_number (λ (x : WaitSet). x.number) (λ (x : WaitSet). x.set) a.sets id.rep id.serial why is

  module _ (sound : IsSoundCore a) where
    pub thread_read : (id : TableId ThreadKey) (g : GuestThread) → Ok g ≡ item_at item_of a.threads id.rep id.serial → Some g.thread ≡ get (seen a).core.threads (thread_of (seen a) id)
    unfolding seen IsSoundCore
    thread_read id g is =
        item_read (λ (g : GuestThread). g.number) (λ (g : GuestThread). g.thread) a.threads a.made.threads sound.tables.threads id.rep id.serial g is
        ∙ ap (get (records thread_key a.threads.places)) (sym (thread_shown id))

    pub thread_unread : (id : TableId ThreadKey) (why : ResourceTableError) → Err why ≡ item_at item_of a.threads id.rep id.serial → None ≡ get (seen a).core.threads (thread_of (seen a) id)
    unfolding seen IsSoundCore
    thread_unread id why is =
        refused_read (λ (g : GuestThread). g.number) (λ (g : GuestThread). g.thread) a.threads a.made.threads sound.tables.threads id.rep id.serial why is
        ∙ ap (get (records thread_key a.threads.places)) (sym (thread_shown id))

    pub call_read : (id : TableId GuestTaskKey) (g : GuestTask) → Ok g ≡ item_at item_of a.calls id.rep id.serial → Some g.call ≡ get (seen a).core.calls (call_of (seen a) id)
    unfolding seen IsSoundCore
    call_read id g is =
        item_read (λ (g : GuestTask). g.number) (λ (g : GuestTask). g.call) a.calls a.made.threads sound.tables.calls id.rep id.serial g is
        ∙ ap (get (records call_key a.calls.places)) (sym (call_shown id))

    pub call_unread : (id : TableId GuestTaskKey) (why : ResourceTableError) → Err why ≡ item_at item_of a.calls id.rep id.serial → None ≡ get (seen a).core.calls (call_of (seen a) id)
    unfolding seen IsSoundCore
    call_unread id why is =
        refused_read (λ (g : GuestTask). g.number) (λ (g : GuestTask). g.call) a.calls a.made.threads sound.tables.calls id.rep id.serial why is
        ∙ ap (get (records call_key a.calls.places)) (sym (call_shown id))

    pub work_read : (id : TableId HostTaskKey) (w : WorkRecord) → Ok w ≡ item_at item_of a.works id.rep id.serial → Some w.work ≡ get (seen a).core.works (work_of (seen a) id)
    unfolding seen IsSoundCore
    work_read id w is =
        item_read (λ (w : WorkRecord). w.number) (λ (w : WorkRecord). w.work) a.works a.made.works sound.tables.works id.rep id.serial w is
        ∙ ap (get (records work_key a.works.places)) (sym (work_shown id))

    pub work_unread : (id : TableId HostTaskKey) (why : ResourceTableError) → Err why ≡ item_at item_of a.works id.rep id.serial → None ≡ get (seen a).core.works (work_of (seen a) id)
    unfolding seen IsSoundCore
    work_unread id why is =
        refused_read (λ (w : WorkRecord). w.number) (λ (w : WorkRecord). w.work) a.works a.made.works sound.tables.works id.rep id.serial why is
        ∙ ap (get (records work_key a.works.places)) (sym (work_shown id))

    pub set_read : (id : TableId SetKey) (x : WaitSet) → Ok x ≡ item_at item_of a.sets id.rep id.serial → Some x.set ≡ get (seen a).core.sets (set_of (seen a) id)
    unfolding seen IsSoundCore
    set_read id x is =
        item_read (λ (x : WaitSet). x.number) (λ (x : WaitSet). x.set) a.sets a.made.sets sound.tables.sets id.rep id.serial x is
        ∙ ap (get (records set_key a.sets.places)) (sym (set_shown id))

    pub set_unread : (id : TableId SetKey) (why : ResourceTableError) → Err why ≡ item_at item_of a.sets id.rep id.serial → None ≡ get (seen a).core.sets (set_of (seen a) id)
    unfolding seen IsSoundCore
    set_unread id why is =
        refused_read (λ (x : WaitSet). x.number) (λ (x : WaitSet). x.set) a.sets a.made.sets sound.tables.sets id.rep id.serial why is
        ∙ ap (get (records set_key a.sets.places)) (sym (set_shown id))
