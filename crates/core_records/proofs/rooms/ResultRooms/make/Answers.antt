use Rattle.std.proofs.Common.{arith, ap, sym, ◌∙◌, ◌≡◌, true}
use Rattle.core_records.proofs.CountLemmas.{count_inserted, one_of}
use Rattle.core_records.specs.Rooms.{count_given}
use Rattle.std.specs.BTreeMap.{insert_entry}
use Rattle.std.specs.Ordering.{nat_cmp}
use Rattle.core_records.proofs.rooms.ResultRooms.make.Goals as goal
use Rattle.core_records.proofs.rooms.ResultRooms.make.Goals.{in-Err, in-Ok}

pub invariant_of-self : goal.invariant_of-self
invariant_of-self c =
    let es = c.self.inside.rooms.entries in
    let g = c.given_unchecked-given.result in
    let here = ap one_of c.given_unchecked-given.ensures in
    let all = count_inserted c.args.call (record { given = g; lives = true }) es c.insert.ensures.was_ordered in
    let stays : count_given es ≡ count_given (insert_entry nat_cmp es c.args.call (record { given = g; lives = true })) = omega (arith, all, here) in
    elim c.match-insert.branch [ in-Ok w ↦ c.self.invariant ∙ (stays ∙ ap count_given (sym w.in-Ok.ensures.entries)) | in-Err w ↦ c.self.invariant ∙ ap count_given (sym w.in-Err.ensures.err) ]
