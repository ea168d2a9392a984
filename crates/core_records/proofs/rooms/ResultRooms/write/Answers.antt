use Rattle.std.proofs.Common.{arith, ap, sym, ◌∙◌, ◌≡◌, true, ◌+◌, ◌-◌}
use Rattle.core_records.proofs.CountLemmas.{at_most_one, count_few, count_inserted, count_removed, counted, one_of}
use Rattle.core_records.specs.Rooms.{count_given, weight}
use Rattle.std.specs.BTreeMap.{insert_entry, is_at}
use Rattle.std.specs.Ordering.{nat_cmp}
use Rattle.core_records.proofs.rooms.ResultRooms.write.Goals as goal

pub overflow_sub-less : goal.overflow_sub-less
overflow_sub-less c =
    let test = is_at (nat_cmp c.args.call) in
    let es = c.self.inside.rooms.entries in
    let less = c.weight.ensures true in
    let here = ap one_of c.given_unchecked.ensures in
    let one = counted test es in
    let all = c.self.invariant in
    omega (arith, less, here, one, all)

pub overflow_add-self : goal.overflow_add-self
overflow_add-self c =
    let all = c.self.invariant in
    let few = count_few c.self.inside.rooms.entries in
    let more = c.weight-then-is_some.ensures true in
    let one = at_most_one c.args.room.given in
    let len = c.len-few.ensures.len in
    let small = c.len-few.ensures.small in
    omega (arith, all, few, more, one, len, small)

pub invariant_of-self : goal.invariant_of-self
invariant_of-self c =
    let test = is_at (nat_cmp c.args.call) in
    let es = c.self.inside.rooms.entries in
    let less = c.weight.ensures true in
    let here = ap one_of c.given_unchecked.ensures in
    let one = counted test es in
    let all = c.self.invariant in
    let more = c.weight-then-is_some.ensures c.args.room.lives in
    let now = count_inserted c.args.call c.args.room es c.insert.ensures.was_ordered in
    let is : c.self.inside.given - c.weight.result + c.weight-then-is_some.result ≡ count_given (insert_entry nat_cmp es c.args.call c.args.room) = omega (arith, less, here, one, all, more, now) in
    is ∙ ap count_given (sym c.in-Ok.ensures.entries)

pub invariant_of-self-else-is_some : goal.invariant_of-self-else-is_some
invariant_of-self-else-is_some c =
    let test = is_at (nat_cmp c.args.call) in
    let es = c.self.inside.rooms.entries in
    let less = c.weight.ensures true in
    let here = ap one_of c.given_unchecked.ensures in
    let one = counted test es in
    let all = c.self.invariant in
    let now = count_removed test es in
    let gone = ap count_given c.remove-gone.ensures.entries in
    omega (arith, less, here, one, all, now, gone)
