use Rattle.core_counts.proofs.limit_counts.count_work.Goals as goal
use Rattle.core_records.proofs.Core.{arith, bare, count_work, IsSoundCore, kinds, MadeCounts, parts_of, refl, seen, with_works_made, ◌+◌}
use Rattle.core_records.proofs.LaterLemmas.{IsLater, handles_later, whole_later}

one_more : (m : MadeCounts) → IsLater m (with_works_made (m.works + 1) m)
one_more m = record { threads = omega arith; works = omega arith; sets = omega arith; groups = omega arith }

pub overflow_add-parts : goal.overflow_add-parts
unfolding seen
overflow_add-parts c = omega (arith, c.requires.few)

pub returns-clause-sound : goal.returns-clause-sound
unfolding IsSoundCore
returns-clause-sound c =
    let s = c.requires.sound in
    let later = one_more c.args.parts.now.made in
    record {
      tables = record {
        threads = s.tables.threads;
        calls = s.tables.calls;
        works = record { table = s.tables.works.table; childless = s.tables.works.childless; apart = s.tables.works.apart; above_zero = s.tables.works.above_zero; later = λ n later. s.tables.works.later n (omega arith) };
        sets = s.tables.sets;
        groups = s.tables.groups;
      };
      whole = whole_later (bare (parts_of c.args.parts.now)) (with_works_made (c.args.parts.now.made.works + 1) c.args.parts.now.made) later s.whole;
      interesting = s.interesting;
      moving = s.moving;
      handles = λ i r at. handles_later (kinds (bare (parts_of c.args.parts.now))) (with_works_made (c.args.parts.now.made.works + 1) c.args.parts.now.made) later r (s.handles i r at);
      owned = s.owned;
      live = s.live;
      ended = s.ended;
    }

pub returns-clause-new : goal.returns-clause-new
unfolding seen count_work
returns-clause-new c = refl
