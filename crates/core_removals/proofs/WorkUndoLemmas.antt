-- A work that was made is taken back, and one that has its handle is pushed.
use Rattle.core_records.proofs.Core.{ap, ap₂, arith, Core, deleted, Entry, give_handle, GroupKey, IsSoundCore, IsTable, item_at, item_of, new_handle, Ok, CoreImage, parts_of, push_high, refl, set_subtask_handle, Some, Subtask, TableId, with_entry, with_handle, work_entries, ℕ, ◌+◌, ◌-◌, ◌∙◌, ◌≡◌}
use Rattle.core_records.specs.declared.{call_records.TaskGroup.TaskGroup, parts.CoreParts.CoreParts, work_records.WorkRecord.WorkRecord}
use Rattle.core_makes.proofs.RestoreLemmas.{Restores-deleted, Restores-pushed, Restores-same, Restores-written, restored_from}
use Rattle.core_makes.specs.Restored.{IsRestored}
use Rattle.machine_data.specs.Write as write
use Rattle.core_records.proofs.KindLemmas.{item_stands}
use Rattle.core_removals.specs.Raised.{PushesWork}

-- the queues and the handles are apart
pub push_after_handle : (e : Entry) (i n : ℕ) (s : Core) → push_high e (with_handle i (Subtask.Host n) s) ≡ with_handle i (Subtask.Host n) (push_high e s)
unfolding push_high with_handle set_subtask_handle give_handle new_handle write.on_work
push_after_handle e i n s = refl

-- nor does a handle queue anything
pub unqueued_with_handle : (i n m : ℕ) (s : Core) → work_entries m (with_handle i (Subtask.Host n) s).queues.high ≡ work_entries m s.queues.high
unfolding with_handle set_subtask_handle give_handle write.on_work
unqueued_with_handle i n m s = refl

module _ (a b c e : CoreParts) (sound_a : IsSoundCore a) (sound_b : IsSoundCore b) (id : TableId GroupKey) (group : TaskGroup) (stands : Ok group ≡ item_at item_of a.groups id.rep id.serial) (w : WorkRecord) (new : ℕ)
    (made : PushesWork a b w (Some (id, group)) new 1) (same : parts_of c ≡ parts_of b)
    (only_e : e ≡ record c { works = e.works; groups = e.groups; made = record c.made { works = c.made.works - 1 }; kept = record c.kept { used = c.kept.used - 1 } })
    (works : e.works ≡ deleted new c.works) (groups : e.groups ≡ with_entry id.rep (record { item = group }) c.groups) (works_table : IsTable e.works) where
  abbrev less : CoreImage → CoreImage
  less q = record q { works = e.works; groups = e.groups; made = record q.made { works = q.made.works - 1 }; kept = record q.kept { used = q.kept.used - 1 } }

  abbrev with_counts : ℕ → ℕ → CoreImage
  with_counts n used = record (parts_of a) { works = e.works; groups = e.groups; made = record a.made { works = n }; kept = record a.kept { used = used } }

  one_less : (n : ℕ) → n + 1 - 1 ≡ n
  one_less n = omega arith

  differs : parts_of e ≡ record (parts_of a) { works = e.works; groups = e.groups }
  differs = ap parts_of only_e ∙ (ap less same ∙ (ap (λ (y : CoreParts). less (parts_of y)) made.only ∙ ap₂ with_counts (one_less a.made.works) (one_less a.kept.used)))

  pub work_restored : IsRestored (parts_of a) (parts_of e)
  unfolding IsSoundCore
  work_restored =
      let placed = item_stands (λ (r : TaskGroup). r.number) (λ (r : TaskGroup). r.calls) a.groups a.made.groups sound_a.tables.groups id.rep id.serial group stands in
      restored_from (parts_of a) (parts_of e) a.threads a.calls e.works a.sets e.groups differs
      (Restores-same a.threads sound_a.tables.threads.table)
      (Restores-same a.calls sound_a.tables.calls.table)
      (Restores-deleted a.works c.works e.works (record { item = w }) sound_a.tables.works.table (Restores-pushed a.works b.works c.works w sound_b.tables.works.table made.works (ap (λ (q : CoreImage). q.works) same)) new made.at works works_table)
      (Restores-same a.sets sound_a.tables.sets.table)
      (Restores-written a.groups c.groups e.groups id.rep placed.0 placed.1.0 group (record group { calls = group.calls + 1 }) placed.1.1.1 (ap (λ (q : CoreImage). q.groups) same ∙ ap (λ (y : CoreParts). y.groups) made.only) groups sound_a.tables.groups.table)
