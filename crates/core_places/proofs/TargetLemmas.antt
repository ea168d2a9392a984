-- What an id names is at the place of the id, and its chains are those of its number.
use Rattle.core_records.proofs.Core.{ap, AtPlace, bare, bare_call, bare_thread, bare_work, BlockedOn, call_of, CallOf, found_record, GuestTaskKey, HostTaskKey, IsSoundCore, item_at, item_of, mapped, None, Ok, on_item, option_and_then, parts_of, place_chain, refl, seen, set_of, SetKey, SetOf, Some, SoundTable, subst, Subtask, sym, Table, TableId, thread_of, ThreadKey, ThreadOf, UnderOf, wait_chain, WaitsOn, work_of, WorkOf, ℕ, ◌∙◌, ◌≡◌}
use Rattle.core_records.specs.declared.{call_records.GuestTask.GuestTask, parts.CoreParts.CoreParts, set_records.WaitSet.WaitSet, single.Single.Single, thread_records.GuestThread.GuestThread, work_records.WorkRecord.WorkRecord}
use Rattle.core_records.proofs.HomeLemmas.{call_at_place, set_at_place, thread_at_place, work_at_place}
use Rattle.core_records.proofs.TableLemmas.{found_mapped}
use Rattle.core_places.proofs.AlikeLemmas.{id_same}
use Rattle.core_places.proofs.FiledLemmas.{kept_under}
use Rattle.core_queues.proofs.CallerLemmas.{none_as}

module _ {T X : Type 0} (number : T → ℕ) (rec : T → X) (t : Table (Single T)) (made : ℕ) (sound : SoundTable (λ e. Some (number e.item, rec e.item)) t made) (rep serial : ℕ) where
  -- what a record that is there keeps under its number, and nothing if an id names none
  module _ {Y : Type 0} (other : T → Y) where
    pub nothing_under : (n : ℕ) → n ≡ 0 → found_record (λ e. Some (number e.item, other e.item)) n t.places ≡ None
    nothing_under n zero = ap (λ m. found_record (λ e. Some (number e.item, other e.item)) m t.places) zero ∙ none_as number rec other 0 t.places sound.above_zero

module _ (a : CoreParts) where
  module _ (sound : IsSoundCore a) where
    pub thread_stands : (id : TableId ThreadKey) (n r : ℕ) → n ≡ thread_of (seen a) id → r ≡ id.rep → AtPlace (parts_of a) r (ThreadOf n)
    thread_stands id n r is at = subst (λ m. AtPlace (parts_of a) m (ThreadOf n)) (sym at) (subst (λ m. AtPlace (parts_of a) id.rep (ThreadOf m)) (sym is) (thread_at_place a sound id))

    pub call_stands : (id : TableId GuestTaskKey) (n r : ℕ) → n ≡ call_of (seen a) id → r ≡ id.rep → AtPlace (parts_of a) r (CallOf n)
    call_stands id n r is at = subst (λ m. AtPlace (parts_of a) m (CallOf n)) (sym at) (subst (λ m. AtPlace (parts_of a) id.rep (CallOf m)) (sym is) (call_at_place a sound id))

    pub work_stands : (id : TableId HostTaskKey) (n r : ℕ) → n ≡ work_of (seen a) id → r ≡ id.rep → AtPlace (parts_of a) r (WorkOf n)
    work_stands id n r is at = subst (λ m. AtPlace (parts_of a) m (WorkOf n)) (sym at) (subst (λ m. AtPlace (parts_of a) id.rep (WorkOf m)) (sym is) (work_at_place a sound id))

    pub set_stands : (id : TableId SetKey) (n r : ℕ) → n ≡ set_of (seen a) id → r ≡ id.rep → AtPlace (parts_of a) r (SetOf n)
    set_stands id n r is at = subst (λ m. AtPlace (parts_of a) m (SetOf n)) (sym at) (subst (λ m. AtPlace (parts_of a) id.rep (SetOf m)) (sym is) (set_at_place a sound id))

  -- ---- Chains

  under_bare : (n : ℕ) → place_chain (bare (parts_of a)) (UnderOf n) ≡ found_record (λ (e : Single GuestThread). Some (e.item.number, e.item.under)) n a.threads.places
  unfolding mapped
  under_bare n = found_mapped (λ (e : Single GuestThread). Some (e.item.number, e.item.under)) (λ (e : Single GuestThread). Some (e.item.number, e.item.under)) (on_item bare_thread) (λ c. c) (λ e. refl) n a.threads.places ∙ id_same _

  blocked_bare : (n : ℕ) → place_chain (bare (parts_of a)) (BlockedOn (Subtask.Guest n)) ≡ found_record (λ (e : Single GuestTask). Some (e.item.number, e.item.blocked)) n a.calls.places
  unfolding mapped
  blocked_bare n = found_mapped (λ (e : Single GuestTask). Some (e.item.number, e.item.blocked)) (λ (e : Single GuestTask). Some (e.item.number, e.item.blocked)) (on_item bare_call) (λ c. c) (λ e. refl) n a.calls.places ∙ id_same _

  work_blocked_bare : (n : ℕ) → place_chain (bare (parts_of a)) (BlockedOn (Subtask.Host n)) ≡ found_record (λ (e : Single WorkRecord). Some (e.item.number, e.item.blocked)) n a.works.places
  unfolding mapped
  work_blocked_bare n = found_mapped (λ (e : Single WorkRecord). Some (e.item.number, e.item.blocked)) (λ (e : Single WorkRecord). Some (e.item.number, e.item.blocked)) (on_item bare_work) (λ c. c) (λ e. refl) n a.works.places ∙ id_same _

  waits_bare : (n : ℕ) → wait_chain (bare (parts_of a)) n ≡ option_and_then (λ c. c) (found_record (λ (e : Single GuestTask). Some (e.item.number, e.item.waits)) n a.calls.places)
  unfolding mapped
  waits_bare n = ap (option_and_then (λ c. c)) (found_mapped (λ (e : Single GuestTask). Some (e.item.number, e.item.waits)) (λ (e : Single GuestTask). Some (e.item.number, e.item.waits)) (on_item bare_call) (λ c. c) (λ e. refl) n a.calls.places ∙ id_same _)

  module _ (sound : IsSoundCore a) where
    pub waits_is : (n rep serial : ℕ) (g : GuestTask) → g.number ≡ n → Ok g ≡ item_at item_of a.calls rep serial → wait_chain (bare (parts_of a)) n ≡ g.waits
    unfolding IsSoundCore
    waits_is n rep serial g same is =
        ap (wait_chain (bare (parts_of a))) (sym same)
        ∙ (waits_bare g.number ∙ ap (option_and_then (λ c. c)) (kept_under (λ (g : GuestTask). g.number) (λ (g : GuestTask). g.call) (λ (g : GuestTask). g.waits) a.calls a.made.threads sound.tables.calls rep serial g is))

    pub under_is : (n rep serial : ℕ) (g : GuestThread) → g.number ≡ n → Ok g ≡ item_at item_of a.threads rep serial → place_chain (bare (parts_of a)) (UnderOf n) ≡ Some g.under
    unfolding IsSoundCore
    under_is n rep serial g same is = ap (λ m. place_chain (bare (parts_of a)) (UnderOf m)) (sym same) ∙ (under_bare g.number ∙ kept_under (λ (g : GuestThread). g.number) (λ (g : GuestThread). g.thread) (λ (g : GuestThread). g.under) a.threads a.made.threads sound.tables.threads rep serial g is)

    pub under_none : (n : ℕ) → n ≡ 0 → place_chain (bare (parts_of a)) (UnderOf n) ≡ None
    unfolding IsSoundCore
    under_none n zero = under_bare n ∙ nothing_under (λ (g : GuestThread). g.number) (λ (g : GuestThread). g.thread) a.threads a.made.threads sound.tables.threads 0 0 (λ (g : GuestThread). g.under) n zero

    pub blocked_is : (n rep serial : ℕ) (g : GuestTask) → g.number ≡ n → Ok g ≡ item_at item_of a.calls rep serial → place_chain (bare (parts_of a)) (BlockedOn (Subtask.Guest n)) ≡ Some g.blocked
    unfolding IsSoundCore
    blocked_is n rep serial g same is = ap (λ m. place_chain (bare (parts_of a)) (BlockedOn (Subtask.Guest m))) (sym same) ∙ (blocked_bare g.number ∙ kept_under (λ (g : GuestTask). g.number) (λ (g : GuestTask). g.call) (λ (g : GuestTask). g.blocked) a.calls a.made.threads sound.tables.calls rep serial g is)

    pub blocked_none : (n : ℕ) → n ≡ 0 → place_chain (bare (parts_of a)) (BlockedOn (Subtask.Guest n)) ≡ None
    unfolding IsSoundCore
    blocked_none n zero = blocked_bare n ∙ nothing_under (λ (g : GuestTask). g.number) (λ (g : GuestTask). g.call) a.calls a.made.threads sound.tables.calls 0 0 (λ (g : GuestTask). g.blocked) n zero

    pub work_blocked_is : (n rep serial : ℕ) (w : WorkRecord) → w.number ≡ n → Ok w ≡ item_at item_of a.works rep serial → place_chain (bare (parts_of a)) (BlockedOn (Subtask.Host n)) ≡ Some w.blocked
    unfolding IsSoundCore
    work_blocked_is n rep serial w same is = ap (λ m. place_chain (bare (parts_of a)) (BlockedOn (Subtask.Host m))) (sym same) ∙ (work_blocked_bare w.number ∙ kept_under (λ (w : WorkRecord). w.number) (λ (w : WorkRecord). w.work) (λ (w : WorkRecord). w.blocked) a.works a.made.works sound.tables.works rep serial w is)

    pub work_blocked_none : (n : ℕ) → n ≡ 0 → place_chain (bare (parts_of a)) (BlockedOn (Subtask.Host n)) ≡ None
    unfolding IsSoundCore
    work_blocked_none n zero = work_blocked_bare n ∙ nothing_under (λ (w : WorkRecord). w.number) (λ (w : WorkRecord). w.work) a.works a.made.works sound.tables.works 0 0 (λ (w : WorkRecord). w.blocked) n zero

    pub waiters_is : (n rep serial : ℕ) (x : WaitSet) → x.number ≡ n → Ok x ≡ item_at item_of a.sets rep serial → place_chain (bare (parts_of a)) (WaitsOn n) ≡ Some x.waiters
    unfolding IsSoundCore
    waiters_is n rep serial x same is = ap (λ m. place_chain (bare (parts_of a)) (WaitsOn m)) (sym same) ∙ kept_under (λ (x : WaitSet). x.number) (λ (x : WaitSet). x.set) (λ (x : WaitSet). x.waiters) a.sets a.made.sets sound.tables.sets rep serial x is

    pub waiters_none : (n : ℕ) → n ≡ 0 → place_chain (bare (parts_of a)) (WaitsOn n) ≡ None
    unfolding IsSoundCore
    waiters_none n zero = nothing_under (λ (x : WaitSet). x.number) (λ (x : WaitSet). x.set) a.sets a.made.sets sound.tables.sets 0 0 (λ (x : WaitSet). x.waiters) n zero
