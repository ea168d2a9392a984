-- A core with other limits.
use Rattle.core_records.proofs.Core.{bare, IsSoundCore, parts_of, refl, table_use, ℕ, ◌≤◌}
use Rattle.core_records.specs.declared.{parts.CoreParts.CoreParts}
use Rattle.core_records.proofs.SoundLemmas.{sound_of_whole}
use Rattle.core_records.proofs.LaterLemmas.{beside_whole, same_made}

pub capacity_sound : (a : CoreParts) → IsSoundCore a → (n : ℕ) → n ≤ 4294967295 → IsSoundCore (record a { capacity = n })
unfolding IsSoundCore table_use
capacity_sound a sound n few =
    sound_of_whole a (record a { capacity = n }) refl sound
    (beside_whole (bare (parts_of a)) a.made (same_made a.made) a.finished (bare (parts_of a)).kept a.results n sound.whole
    (let k = sound.whole.counted.kept in record { used = k.used; groups = k.groups; live = k.live })
    sound.whole.counted.results
    sound.whole.counted.finished
    few)

pub limit_sound : (a : CoreParts) → IsSoundCore a → (n : ℕ) → IsSoundCore (record a { counter = record a.counter { limit = n } })
unfolding IsSoundCore
limit_sound a sound n = record {
  tables = let t = sound.tables in record { threads = t.threads; calls = t.calls; works = t.works; sets = t.sets; groups = t.groups };
  whole = sound.whole;
  interesting = sound.interesting;
  moving = sound.moving;
  handles = sound.handles;
  owned = sound.owned;
  live = sound.live;
  ended = sound.ended;
}
