-- What is picked where the machine leaves a choice: the least by the places in the resource table, in version 2 the thread that came first.
use Rattle.std.specs.Ordering.{is_lt, nat_cmp, ordering_then}
use Rattle.std.specs.Prelude.{◌≡◌, ℕ, false, IfSome, None, Option, true, Ok, Some}
use Rattle.std.specs.declared.cmp.Ordering.{Ordering}
use Rattle.machine_data.specs.Read.{is_ready_member, is_waiter, is_waiting_on}
use Rattle.core_records.specs.Kinds.{item_of}
use Rattle.core_records.specs.RecordPlaces.{ready_in, waits_in}
use Rattle.core_records.specs.Seen.{seen}
use Rattle.machine_data.specs.declared.scenario.Version.TheVariants as version
use Rattle.machine_data.specs.declared.scenario.Version.{Version}
use Rattle.machine_rules.specs.Cancels.{is_waiting_of}
use Rattle.core_records.specs.Sound.{EachEntry}
use Rattle.core_primitives.specs.Names.{subtask_in}
use Rattle.core_primitives.specs.StateView.{thread_of}
use Rattle.core_records.specs.declared.call_records.GuestTask.{GuestTask}
use Rattle.core_records.specs.declared.parts.CoreParts.{CoreParts}
use Rattle.core_records.specs.declared.thread_records.GuestThread.{GuestThread}
use Rattle.core_records.specs.declared.work_records.WorkRecord.{WorkRecord}
use Rattle.task_table.specs.TableAnswers.{item_at}
use Rattle.task_table.specs.declared.id.TableId.{TableId}
use Rattle.task_wait.specs.declared.keys.ThreadKey.{ThreadKey}
use Rattle.core_primitives.specs.declared.names.SubtaskId.{SubtaskId}
use Rattle.core_primitives.specs.declared.names.SubtaskId.TheVariants as subtask

-- threads by the place of their task, then by their own; in version 2 by when they came
abbrev pub thread_order : Version → GuestThread → GuestThread → Ordering
thread_order version.One g h = ordering_then (nat_cmp g.task_entry h.task_entry) (nat_cmp g.entry h.entry)
thread_order version.Two g h = nat_cmp g.thread.came h.thread.came

-- No thread that waits on the set comes before the one of this id.
abbrev pub IsLeastWaiter : CoreParts → ℕ → TableId ThreadKey → Type 0
IsLeastWaiter a x id =
    (g : GuestThread) →
    Ok g ≡ item_at item_of a.threads id.rep id.serial →
    EachEntry (λ h. is_waiting_on x h.thread.place ≡ true → is_lt (thread_order a.version h g) ≡ false) a.threads

-- The wanted waiter, which waits on the set, or there is none.
abbrev pub IsWantedWaiter : CoreParts → ℕ → Option (TableId ThreadKey) → Type 0
IsWantedWaiter a x None = IfSome a.wanted.waiter (λ id. is_waiter x (thread_of (seen a) id) (seen a).core ≡ false)
IsWantedWaiter a x (Some id) = (a.wanted.waiter ≡ Some id) × (is_waiter x (thread_of (seen a) id) (seen a).core ≡ true)

-- No waiting thread of the call has a lesser place than the one of this id.
abbrev pub IsLeastWaiting : CoreParts → ℕ → TableId ThreadKey → Type 0
IsLeastWaiting a k id =
    (g : GuestThread) →
    Ok g ≡ item_at item_of a.threads id.rep id.serial →
    EachEntry (λ h. waits_in h.thread.place h.thread.call ≡ Some k → is_lt (nat_cmp h.entry g.entry) ≡ false) a.threads

-- The wanted thread, which is of the call and waits, or there is none.
abbrev pub IsWantedWaiting : CoreParts → ℕ → Option (TableId ThreadKey) → Type 0
IsWantedWaiting a k None = IfSome a.wanted.waiter (λ id. is_waiting_of k (seen a).core (thread_of (seen a) id) ≡ false)
IsWantedWaiting a k (Some id) = (a.wanted.waiter ≡ Some id) × (is_waiting_of k (seen a).core (thread_of (seen a) id) ≡ true)

-- The wanted member, which is ready in the set, or there is none.
abbrev pub IsWantedMember : CoreParts → ℕ → Option SubtaskId → Type 0
IsWantedMember a x None = IfSome a.wanted.member (λ sub. is_ready_member x (subtask_in (seen a).tags sub) (seen a).core ≡ false)
IsWantedMember a x (Some sub) = (a.wanted.member ≡ Some sub) × (is_ready_member x (subtask_in (seen a).tags sub) (seen a).core ≡ true)

-- No ready member of the set comes before the one of this id: host works come first, then calls, each by its place.
abbrev pub IsLeastMember : CoreParts → ℕ → SubtaskId → Type 0
IsLeastMember a x (subtask.Host id) =
    (w : WorkRecord) →
    Ok w ≡ item_at item_of a.works id.rep id.serial →
    EachEntry (λ v. ready_in v.work.event v.work.join ≡ Some x → is_lt (nat_cmp v.entry w.entry) ≡ false) a.works
IsLeastMember a x (subtask.Guest id) =
    EachEntry (λ (v : WorkRecord). ready_in v.work.event v.work.join ≡ Some x → ⊥) a.works
    × ((g : GuestTask) →
    Ok g ≡ item_at item_of a.calls id.rep id.serial →
    EachEntry (λ h. ready_in h.call.event h.call.join ≡ Some x → is_lt (nat_cmp h.entry g.entry) ≡ false) a.calls)
