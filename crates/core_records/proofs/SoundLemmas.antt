-- A core with other chains, or other kept numbers, is sound where its parts are whole.
use Rattle.core_records.proofs.Core.{bare, IsSoundCore, IsWhole, parts_of, subst, sym, ◌≡◌}
use Rattle.core_records.specs.declared.{parts.CoreParts.CoreParts}

-- The cores have the same records, instances and handles, and as much that is interesting or moves.
abbrev pub SameRecords : CoreParts → CoreParts → Type 0
SameRecords a b =
    b ≡ record a {
      alloc = b.alloc;
      places = b.places;
      waits = b.waits;
      ready_calls = b.ready_calls;
      ready_works = b.ready_works;
      polled = b.polled;
      polled_last = b.polled_last;
      marks = b.marks;
      instance_queues = b.instance_queues;
      behind = b.behind;
      high = b.high;
      low = b.low;
      live = b.live;
      switch = b.switch;
      current = b.current;
      results = b.results;
      kept = record a.kept { used = b.kept.used; groups = b.kept.groups; live = b.kept.live };
      capacity = b.capacity;
      version = b.version;
      arrivals = b.arrivals;
      trapped = b.trapped;
    }

pub sound_of_whole : (a b : CoreParts) → SameRecords a b → IsSoundCore a → IsWhole (bare (parts_of b)) → IsSoundCore b
unfolding IsSoundCore
sound_of_whole a b same sound = subst (λ x. IsWhole (bare (parts_of x)) → IsSoundCore x) (sym same) (λ whole. record {
  tables = record { threads = sound.tables.threads; calls = sound.tables.calls; works = sound.tables.works; sets = sound.tables.sets; groups = sound.tables.groups };
  whole = whole;
  interesting = sound.interesting;
  moving = sound.moving;
  handles = sound.handles;
  owned = sound.owned;
  live = sound.live;
  ended = sound.ended;
})
