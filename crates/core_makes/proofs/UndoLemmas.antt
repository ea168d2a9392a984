-- A set's record that was made and is taken back.
use Rattle.core_records.proofs.Core.{ap, ap₂, arith, deleted, deletion, deletion_refused, Err, IsSoundCore, IsTable, item_of, next_place, CoreImage, parts_of, pushed, ResourceTableError, seen, set_of, SetKey, TableId, ℕ, ◌+◌, ◌-◌, ◌<◌, ◌∙◌, ◌≡◌}
use Rattle.core_records.specs.declared.{parts.CoreParts.CoreParts, set_records.WaitSet.WaitSet}
use Rattle.core_makes.proofs.RestoreLemmas.{Restores-deleted, Restores-pushed, Restores-same, restored_from}
use Rattle.core_makes.specs.Restored.{IsRestored}
use Rattle.core_records.proofs.KindLemmas.{refused_number}
use Rattle.core_records.proofs.ReadLemmas.{set_shown}

module _ (a b c e : CoreParts) (sound_a : IsSoundCore a) (sound_b : IsSoundCore b) (x : WaitSet) (rep : ℕ)
    (only_b : b ≡ record a { sets = b.sets; made = record a.made { sets = a.made.sets + 1 }; kept = record a.kept { used = a.kept.used + 1 } })
    (pushed_b : b.sets ≡ pushed (record { item = x }) a.sets)
    (same : parts_of c ≡ parts_of b)
    (only_e : e ≡ record c { sets = e.sets; made = record c.made { sets = c.made.sets - 1 }; kept = record c.kept { used = c.kept.used - 1 } })
    (deleted_e : e.sets ≡ deleted rep c.sets) (at : rep ≡ next_place a.sets) (table : IsTable e.sets) where
  abbrev less : CoreImage → CoreImage
  less q = record q { sets = e.sets; made = record q.made { sets = q.made.sets - 1 }; kept = record q.kept { used = q.kept.used - 1 } }

  one_less : (n : ℕ) → n + 1 - 1 ≡ n
  one_less n = omega arith

  differs : parts_of e ≡ record (parts_of a) { sets = e.sets }
  differs =
      ap parts_of only_e ∙ (ap less same ∙ (ap (λ (y : CoreParts). less (parts_of y)) only_b
      ∙ ap₂ (λ (m n : ℕ). record (parts_of a) { sets = e.sets; made = record a.made { sets = m }; kept = record a.kept { used = n } }) (one_less a.made.sets) (one_less a.kept.used)))

  pub set_restored : IsRestored (parts_of a) (parts_of e)
  unfolding IsSoundCore
  set_restored = restored_from (parts_of a) (parts_of e) a.threads a.calls a.works e.sets a.groups differs
      (Restores-same a.threads sound_a.tables.threads.table)
      (Restores-same a.calls sound_a.tables.calls.table)
      (Restores-same a.works sound_a.tables.works.table)
      (Restores-deleted a.sets c.sets e.sets (record { item = x }) sound_a.tables.sets.table (Restores-pushed a.sets b.sets c.sets x sound_b.tables.sets.table pushed_b (ap (λ (q : CoreImage). q.sets) same)) rep at deleted_e table)
      (Restores-same a.groups sound_a.tables.groups.table)

-- a set that is named is deleted
module _ (a : CoreParts) (sound : IsSoundCore a) (id : TableId SetKey) (live : 0 < set_of (seen a) id) where
  pub set_deletes : (why : ResourceTableError) → Err why ≡ deletion item_of a.sets id.rep id.serial → ⊥
  unfolding IsSoundCore
  set_deletes why is =
      let zero = refused_number (λ (y : WaitSet). y.number) (λ (y : WaitSet). y.set) a.sets id.rep id.serial why (deletion_refused item_of a.sets id.rep id.serial why is (sound.tables.sets.childless id.rep)) in
      let seen_is = set_shown a id in
      omega arith
