use Rattle.core_picks.proofs.picks.want.Goals as goal
use Rattle.core_records.proofs.Core.{IsSoundCore, refl, seen}

pub returns-clause-sound : goal.returns-clause-sound
unfolding IsSoundCore
returns-clause-sound c =
    let s = c.requires in
    record {
      tables = record { threads = s.tables.threads; calls = s.tables.calls; works = s.tables.works; sets = s.tables.sets; groups = s.tables.groups };
      whole = s.whole;
      interesting = s.interesting;
      moving = s.moving;
      handles = s.handles;
      owned = s.owned;
      live = s.live;
      ended = s.ended;
    }

pub returns-clause-new : goal.returns-clause-new
unfolding seen
returns-clause-new c = refl
