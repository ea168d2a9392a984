-- Where the call of a thread is, and its instance.
use Rattle.core_records.proofs.Core.{[], ap, arith, AtPlace, bare, bare_call, bare_thread, bare_work, Call, call_instance, call_key, call_of, CallOf, core_of, get, get-records, GuestTaskKey, HasHome, HasNumber, HostTaskKey, instance_of, IsCallNamed, IsSome, IsSoundCore, IsWorkNamed, item_at, item_of, length, List, loose_call, loose_thread, loose_work, map, no_callee, None, Nothing, number_of-le, Ok, on_item, Option, option_map, option_map_or, parts_of, place_at-mapped, placed_as, refl, seen, set_key, set_of, SetKey, SetOf, slice_get, Some, StandsAt, subst, sym, TableId, Target, task_of, Thread, thread_key, thread_of, ThreadKey, ThreadOf, uninterested, unmoved, work_key, work_of, WorkOf, ℕ, ◌<◌, ◌∙◌, ◌∷◌, ◌≡◌, ◌≤◌}
use Rattle.machine_data.specs.declared.component.ExportKind.{ExportKind}
use Rattle.machine_data.specs.Read.{kind_of}
use Rattle.core_primitives.specs.Barred.{bars_start, is_barred}
use Rattle.std.specs.Prelude.{false}
use Rattle.core_records.specs.declared.{call_records.GuestTask.GuestTask, parts.CoreParts.CoreParts, set_records.WaitSet.WaitSet, thread_records.GuestThread.GuestThread, work_records.WorkRecord.WorkRecord}
use Rattle.core_records.proofs.KindLemmas.{item_stands}
use Rattle.core_records.proofs.ReadLemmas.{call_shown, set_shown, thread_read, thread_shown, work_shown}
use Rattle.core_records.proofs.StandLemmas.{stands_by_id}
use Rattle.core_records.proofs.TableLemmas.{get_mapped, number_at_mapped, stands_in_mapped, stands_mapped}
use Rattle.core_records.specs.Sound.{bare_instance as bare_instance_record}

module _ (a : CoreParts) where
  bare_call_read : (k : ℕ) → get (core_of (bare (parts_of a))).calls k ≡ option_map (λ c. uninterested (loose_call c)) (get (seen a).core.calls k)
  unfolding seen
  bare_call_read k = get_mapped call_key call_key (on_item bare_call) (λ c. uninterested (loose_call c)) (λ e. refl) a.calls k

  instance_loose : (o : Option Call) → (option_map_or (λ (c : Call). c.callee) (option_map (λ c. uninterested (loose_call c)) o) no_callee).instance ≡ (option_map_or (λ (c : Call). c.callee) o no_callee).instance
  instance_loose None = refl
  instance_loose (Some c) = refl

  -- the instance of a call, also where the parts are bare
  pub bare_instance : (k : ℕ) → call_instance k (core_of (bare (parts_of a))) ≡ call_instance k (seen a).core
  bare_instance k = ap (λ o. (option_map_or (λ (c : Call). c.callee) o no_callee).instance) (bare_call_read k) ∙ instance_loose (get (seen a).core.calls k)

  kind_loose : (o : Option Call) → option_map_or (λ (c : Call). c.kind) (option_map (λ c. uninterested (loose_call c)) o) ExportKind.Callback ≡ option_map_or (λ (c : Call). c.kind) o ExportKind.Callback
  kind_loose None = refl
  kind_loose (Some c) = refl

  -- the kind of a call, also where the parts are bare
  pub bare_kind : (k : ℕ) → kind_of k (core_of (bare (parts_of a))) ≡ kind_of k (seen a).core
  bare_kind k = ap (λ o. option_map_or (λ (c : Call). c.kind) o ExportKind.Callback) (bare_call_read k) ∙ kind_loose (get (seen a).core.calls k)

  module _ (sound : IsSoundCore a) where
    -- nothing has the number 0
    pub no_thread : get (seen a).core.threads 0 ≡ None
    unfolding seen IsSoundCore
    no_thread = get-records thread_key a.threads.places 0 ∙ sound.tables.threads.above_zero

    pub no_call : get (seen a).core.calls 0 ≡ None
    unfolding seen IsSoundCore
    no_call = get-records call_key a.calls.places 0 ∙ sound.tables.calls.above_zero

    pub no_set : get (seen a).core.sets 0 ≡ None
    unfolding seen IsSoundCore
    no_set = get-records set_key a.sets.places 0 ∙ sound.tables.sets.above_zero

    pub no_work : get (seen a).core.works 0 ≡ None
    unfolding seen IsSoundCore
    no_work = get-records work_key a.works.places 0 ∙ sound.tables.works.above_zero

    -- a thread that isn't there is in no instance
    pub no_instance : (n : ℕ) → None ≡ get (seen a).core.threads n → 0 ≡ instance_of n (seen a).core
    no_instance n none =
        sym (ap (λ o. call_instance (option_map_or (λ (t : Thread). t.call) o 0) (seen a).core) (sym none)
        ∙ ap (λ o. (option_map_or (λ (c : Call). c.callee) o no_callee).instance) no_call)

  module _ (sound : IsSoundCore a) (id : TableId ThreadKey) (g : GuestThread) (is : Ok g ≡ item_at item_of a.threads id.rep id.serial) where
    pub thread_home : HasHome (bare (parts_of a)) (bare_thread g)
    unfolding IsSoundCore
    thread_home =
        let one = item_stands (λ (g : GuestThread). g.number) (λ (g : GuestThread). g.thread) a.threads a.made.threads sound.tables.threads id.rep id.serial g is in
        sound.whole.named.threads id.rep _ (place_at-mapped (on_item bare_thread) a.threads id.rep ∙ (ap (placed_as (on_item bare_thread)) one.1.0 ∙ ap (λ e. Some (record { serial = one.0.serial; parent = one.0.parent; entry = on_item bare_thread e })) one.1.1.1))

    pub thread_task : task_of (thread_of (seen a) id) (seen a).core ≡ g.thread.call
    thread_task = ap (λ o. option_map_or (λ (t : Thread). t.call) o 0) (sym (thread_read a sound id g is))

    pub thread_instance : g.instance ≡ instance_of (thread_of (seen a) id) (seen a).core
    thread_instance = sym (ap (λ k. call_instance k (seen a).core) thread_task ∙ (sym (bare_instance g.thread.call) ∙ thread_home.instance))

    pub thread_barred : g.barred ≡ is_barred (thread_of (seen a) id) (seen a).core
    thread_barred =
        sym thread_home.barred
        ∙ (ap (bars_start g.thread.explicit) (bare_kind g.thread.call)
        ∙ ap (λ (o : Option Thread). bars_start (option_map_or (λ (t : Thread). t.explicit) o false) (kind_of (option_map_or (λ (t : Thread). t.call) o 0) (seen a).core)) (thread_read a sound id g is))

    -- the number of the thread's call is at the place that the thread keeps
    pub task_live : 0 < task_of (thread_of (seen a) id) (seen a).core
    task_live = subst (λ (k : ℕ). 0 < k) (sym thread_task) thread_home.there

    pub task_place : HasNumber call_key a.calls g.task (task_of (thread_of (seen a) id) (seen a).core)
    task_place = sym (number_at_mapped call_key call_key (on_item bare_call) (λ c. uninterested (loose_call c)) (λ e. refl) a.calls g.task) ∙ (thread_home.call ∙ sym thread_task)

-- ---- What is kept with a place

module _ (a : CoreParts) where
  -- a number's place is that of the bare parts
  pub place_bare : (rep : ℕ) (t : Target) → AtPlace (bare (parts_of a)) rep t → AtPlace (parts_of a) rep t
  place_bare rep Nothing at = tt
  place_bare rep (ThreadOf n) at = (at.0, stands_mapped thread_key thread_key (on_item bare_thread) loose_thread (λ e. refl) a.threads rep n at.1)
  place_bare rep (CallOf k) at = (at.0, stands_mapped call_key call_key (on_item bare_call) (λ c. uninterested (loose_call c)) (λ e. refl) a.calls rep k at.1)
  place_bare rep (WorkOf i) at = (at.0, stands_mapped work_key work_key (on_item bare_work) (λ w. unmoved (loose_work w)) (λ e. refl) a.works rep i at.1)
  place_bare rep (SetOf x) at = at

  pub place_in_bare : (rep : ℕ) (t : Target) → AtPlace (parts_of a) rep t → AtPlace (bare (parts_of a)) rep t
  place_in_bare rep Nothing at = tt
  place_in_bare rep (ThreadOf n) at = (at.0, stands_in_mapped thread_key thread_key (on_item bare_thread) loose_thread (λ e. refl) a.threads rep n at.1)
  place_in_bare rep (CallOf k) at = (at.0, stands_in_mapped call_key call_key (on_item bare_call) (λ c. uninterested (loose_call c)) (λ e. refl) a.calls rep k at.1)
  place_in_bare rep (WorkOf i) at = (at.0, stands_in_mapped work_key work_key (on_item bare_work) (λ w. unmoved (loose_work w)) (λ e. refl) a.works rep i at.1)
  place_in_bare rep (SetOf x) at = at

module _ (a : CoreParts) (sound : IsSoundCore a) where
  pub call_names : (id : TableId GuestTaskKey) (g : GuestTask) → Ok g ≡ item_at item_of a.calls id.rep id.serial → IsCallNamed (bare (parts_of a)) (bare_call g)
  unfolding IsSoundCore
  call_names id g is =
      let one = item_stands (λ (g : GuestTask). g.number) (λ (g : GuestTask). g.call) a.calls a.made.threads sound.tables.calls id.rep id.serial g is in
      sound.whole.named.calls id.rep _ (place_at-mapped (on_item bare_call) a.calls id.rep ∙ (ap (placed_as (on_item bare_call)) one.1.0 ∙ ap (λ e. Some (record { serial = one.0.serial; parent = one.0.parent; entry = on_item bare_call e })) one.1.1.1))

  pub work_names : (id : TableId HostTaskKey) (w : WorkRecord) → Ok w ≡ item_at item_of a.works id.rep id.serial → IsWorkNamed (bare (parts_of a)) (bare_work w)
  unfolding IsSoundCore
  work_names id w is =
      let one = item_stands (λ (w : WorkRecord). w.number) (λ (w : WorkRecord). w.work) a.works a.made.works sound.tables.works id.rep id.serial w is in
      sound.whole.named.works id.rep _ (place_at-mapped (on_item bare_work) a.works id.rep ∙ (ap (placed_as (on_item bare_work)) one.1.0 ∙ ap (λ e. Some (record { serial = one.0.serial; parent = one.0.parent; entry = on_item bare_work e })) one.1.1.1))

module _ (a : CoreParts) (sound : IsSoundCore a) (id : TableId ThreadKey) (g : GuestThread) (is : Ok g ≡ item_at item_of a.threads id.rep id.serial) where
  some_before : {X Y : Type 0} (f : X → Y) (xs : List X) (i : ℕ) → IsSome (slice_get (map f xs) i) → i < length xs
  some_before f [] i some = absurd (cc)
  some_before f (x ∷ xs) ℕ.zero some = omega arith
  some_before f (x ∷ xs) (ℕ.suc i) some = let rest = some_before f xs i some in omega arith

  -- a thread's instance is there
  pub thread_within : g.instance < length a.instances.items
  thread_within = some_before bare_instance_record a.instances.items g.instance (thread_home a sound id g is).within

-- ---- What an id names is named at its place

module _ (a : CoreParts) (sound : IsSoundCore a) where
  pub thread_at_place : (id : TableId ThreadKey) → AtPlace (parts_of a) id.rep (ThreadOf (thread_of (seen a) id))
  unfolding IsSoundCore
  thread_at_place id =
      subst (λ n. (n ≤ a.made.threads) × StandsAt thread_key a.threads id.rep n) (sym (thread_shown a id))
      (number_of-le thread_key a.threads id.rep id.serial a.made.threads sound.tables.threads.apart sound.tables.threads.later, stands_by_id (λ (g : GuestThread). g.number) (λ (g : GuestThread). g.thread) a.threads a.made.threads sound.tables.threads id.rep id.serial)

  pub call_at_place : (id : TableId GuestTaskKey) → AtPlace (parts_of a) id.rep (CallOf (call_of (seen a) id))
  unfolding IsSoundCore
  call_at_place id =
      subst (λ n. (n ≤ a.made.threads) × StandsAt call_key a.calls id.rep n) (sym (call_shown a id))
      (number_of-le call_key a.calls id.rep id.serial a.made.threads sound.tables.calls.apart sound.tables.calls.later, stands_by_id (λ (g : GuestTask). g.number) (λ (g : GuestTask). g.call) a.calls a.made.threads sound.tables.calls id.rep id.serial)

  pub work_at_place : (id : TableId HostTaskKey) → AtPlace (parts_of a) id.rep (WorkOf (work_of (seen a) id))
  unfolding IsSoundCore
  work_at_place id =
      subst (λ n. (n ≤ a.made.works) × StandsAt work_key a.works id.rep n) (sym (work_shown a id))
      (number_of-le work_key a.works id.rep id.serial a.made.works sound.tables.works.apart sound.tables.works.later, stands_by_id (λ (w : WorkRecord). w.number) (λ (w : WorkRecord). w.work) a.works a.made.works sound.tables.works id.rep id.serial)

  pub set_at_place : (id : TableId SetKey) → AtPlace (parts_of a) id.rep (SetOf (set_of (seen a) id))
  unfolding IsSoundCore
  set_at_place id =
      subst (λ n. (n ≤ a.made.sets) × StandsAt set_key a.sets id.rep n) (sym (set_shown a id))
      (number_of-le set_key a.sets id.rep id.serial a.made.sets sound.tables.sets.apart sound.tables.sets.later, stands_by_id (λ (x : WaitSet). x.number) (λ (x : WaitSet). x.set) a.sets a.made.sets sound.tables.sets id.rep id.serial)
