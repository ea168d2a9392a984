-- A call by main: what the makes of its group and of its records result in, and what is left where one fails.
use Rattle.core_records.proofs.Core.{call_number, Keeps, KeepsWith, set_number, StateView, Tags, thread_number, with_group, work_number, [], add_group, ap, ap₂, arith, bare, Core, deleted, fits, IsSoundCore, IsTable, length-append, MadeCounts, next_place, CoreImage, parts_of, pushed, subst, Table, table_use, true, ℕ, ◌+◌, ◌-◌, ◌∙◌, ◌∷◌, ◌≡◌, ◌≤◌, Bool}
use Rattle.core_records.specs.declared.{call_records.TaskGroup.TaskGroup, parts.CoreParts.CoreParts, parts.CachedCounts.CachedCounts, single.Single.Single}
use Rattle.core_makes.proofs.RestoreLemmas.{Restores-deleted, restored_from}
use Rattle.core_makes.specs.Restored.{IsRestored, Restores}
use Rattle.core_makes.specs.LooseCalls.{AreCallAndThreadLoose}
use Rattle.core_makes.specs.declared.node_makes.CallNodes.{CallNodes}
use Rattle.core_makes.specs.declared.node_makes.ThreadNodes.{ThreadNodes}

-- ---- Room

pub fits_fewer : (n m : ℕ) (s : Core) → n ≤ m → fits m s ≡ true → fits n s ≡ true
unfolding fits
fits_fewer n m s fewer room = grind (arith, fewer, room)

pub fits_grouped : (s : Core) → fits 4 s ≡ true → fits 3 (add_group s) ≡ true
unfolding fits table_use add_group
fits_grouped s room = let more = length-append s.groups ((s.made.groups + 1) ∷ []) in grind (arith, room, more)

-- ---- Names stay beside another group

pub keeps_grouped : (s : StateView) (new : Tags) → Keeps (with_group s).tags new → KeepsWith (s.core.made.groups + 1) s.tags new
unfolding thread_number call_number set_number work_number
keeps_grouped s new kept = record { threads = kept.threads; calls = kept.calls; sets = kept.sets; works = kept.works; same = kept.same; wanted = kept.wanted }

-- ---- Nodes that hang on nothing hang on nothing beside another group

pub call_thread_loose_beside : (a : CoreParts) (groups : Table (Single TaskGroup)) (made : MadeCounts) (kept : CachedCounts) (keeps : Bool) (c : CallNodes) (t : ThreadNodes) → AreCallAndThreadLoose (bare (parts_of a)) keeps c t → AreCallAndThreadLoose (bare (parts_of (record a { groups = groups; made = made; kept = kept }))) keeps c t
call_thread_loose_beside a groups made kept keeps c t loose = record {
  call = record { waits = record { is = loose.call.waits.is; loose = loose.call.waits.loose }; ready = loose.call.ready; blocked = loose.call.blocked };
  thread = record { wait = record { is = loose.thread.wait.is; made = loose.thread.wait.made; free = loose.thread.wait.free; apart = loose.thread.wait.apart }; node = loose.thread.node; mark = loose.thread.mark; instance_queue = loose.thread.instance_queue; caller = loose.thread.caller; callers = loose.thread.callers; under = loose.thread.under; no_work = loose.thread.no_work };
  two = loose.two;
}

-- ---- A group that was made is taken back

module _ (a b c e : CoreParts) (sound : IsSoundCore a) (x : TaskGroup) (rep : ℕ)
    (only_b : b ≡ record a { groups = b.groups; made = record a.made { groups = a.made.groups + 1 }; kept = record a.kept { used = a.kept.used + 1; groups = a.kept.groups + 1 } })
    (pushed_b : b.groups ≡ pushed (record { item = x }) a.groups)
    (back : IsRestored (parts_of b) (parts_of c))
    (only_e : e ≡ record c { groups = e.groups; made = record c.made { groups = c.made.groups - 1 }; kept = record c.kept { used = c.kept.used - 1; groups = c.kept.groups - 1 } })
    (deleted_e : e.groups ≡ deleted rep c.groups) (at : rep ≡ next_place a.groups) (table : IsTable e.groups) where
  abbrev less : CoreImage → CoreImage
  less q = record q { groups = e.groups; made = record q.made { groups = q.made.groups - 1 }; kept = record q.kept { used = q.kept.used - 1; groups = q.kept.groups - 1 } }

  abbrev with_tables : CoreImage → CoreImage
  with_tables q = record q { threads = c.threads; calls = c.calls; works = c.works; sets = c.sets; groups = c.groups }

  one_less : (n : ℕ) → n + 1 - 1 ≡ n
  one_less n = omega arith

  abbrev with_counts : ℕ → ℕ → ℕ → CoreImage
  with_counts made used groups = record (parts_of a) { threads = c.threads; calls = c.calls; works = c.works; sets = c.sets; groups = e.groups; made = record a.made { groups = made }; kept = record a.kept { used = used; groups = groups } }

  differs : parts_of e ≡ record (parts_of a) { threads = c.threads; calls = c.calls; works = c.works; sets = c.sets; groups = e.groups }
  differs =
      ap parts_of only_e ∙ (ap less back.rest ∙ (ap (λ (y : CoreParts). less (with_tables (parts_of y))) only_b
      ∙ (ap (λ (n : ℕ). with_counts n (a.kept.used + 1 - 1) (a.kept.groups + 1 - 1)) (one_less a.made.groups) ∙ ap₂ (λ (m n : ℕ). with_counts a.made.groups m n) (one_less a.kept.used) (one_less a.kept.groups))))

  pub group_restored : IsRestored (parts_of a) (parts_of e)
  unfolding IsSoundCore
  group_restored = restored_from (parts_of a) (parts_of e) c.threads c.calls c.works c.sets e.groups differs
      (subst (λ t. Restores t c.threads) (ap (λ (y : CoreParts). y.threads) only_b) back.threads)
      (subst (λ t. Restores t c.calls) (ap (λ (y : CoreParts). y.calls) only_b) back.calls)
      (subst (λ t. Restores t c.works) (ap (λ (y : CoreParts). y.works) only_b) back.works)
      (subst (λ t. Restores t c.sets) (ap (λ (y : CoreParts). y.sets) only_b) back.sets)
      (Restores-deleted a.groups c.groups e.groups (record { item = x }) sound.tables.groups.table (subst (λ t. Restores t c.groups) pushed_b back.groups) rep at deleted_e table)
