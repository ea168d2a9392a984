-- The work at its place is polled, and the others are as before. Nothing hangs on where the next one is looked for first.
use Rattle.store_works.proofs.KeptLemmas.{answer_by, answer_there, goes_on, left_going, left_over, lent}
use Rattle.store_works.proofs.kept.HostWorks.poll.Goals as goal
use Rattle.store_works.specs.Joined.{joined_phase, joined_work}
use Rattle.std.proofs.Common.{sym, ◌∙◌}

pub returns-then-is_over-clause-answer : goal.returns-then-is_over-clause-answer
returns-then-is_over-clause-answer g c =
    let course = g.H.HostWork.course in
    let kept = c.args.self.now in
    let at = c.in_ok-place.ensures.some in
    let w = c.in-Some.joined.now in
    let unique = c.in-Some.ensures.unique in
    let same = lent course kept c.args.number c.in_ok-place.place at.0 unique at.1 w c.in-Some.ensures.value in
    let is = answer_by _ c.poll-answer.result (joined_phase w) (course (joined_work w)) c.poll-answer.ensures.none c.poll-answer.ensures.runs c.poll-answer.ensures.answer in
    answer_there course kept c.args.number c.in_ok-place.place at.0 unique at.1 w c.poll-answer.new.self 0 same c.poll-answer.result is

pub returns-then-is_over-clause-left : goal.returns-then-is_over-clause-left
returns-then-is_over-clause-left g c =
    let course = g.H.HostWork.course in
    let kept = c.args.self.now in
    let at = c.in_ok-place.ensures.some in
    let w = c.in-Some.joined.now in
    let unique = c.in-Some.ensures.unique in
    let same = lent course kept c.args.number c.in_ok-place.place at.0 unique at.1 w c.in-Some.ensures.value in
    let is = answer_by _ c.poll-answer.result (joined_phase w) (course (joined_work w)) c.poll-answer.ensures.none c.poll-answer.ensures.runs c.poll-answer.ensures.answer in
    left_over course kept c.args.number c.in_ok-place.place at.0 unique at.1 w c.poll-answer.new.self 0 same c.poll-answer.result is (sym c.is_over.ensures ∙ c.if-is_over.true) c.let_go.new.self c.let_go.ensures

pub returns-else-is_over-clause-answer : goal.returns-else-is_over-clause-answer
returns-else-is_over-clause-answer g c =
    let course = g.H.HostWork.course in
    let kept = c.args.self.now in
    let at = c.in_ok-place.ensures.some in
    let w = c.in-Some.joined.now in
    let unique = c.in-Some.ensures.unique in
    let same = lent course kept c.args.number c.in_ok-place.place at.0 unique at.1 w c.in-Some.ensures.value in
    let is = answer_by _ c.poll-answer.result (joined_phase w) (course (joined_work w)) c.poll-answer.ensures.none c.poll-answer.ensures.runs c.poll-answer.ensures.answer in
    answer_there course kept c.args.number c.in_ok-place.place at.0 unique at.1 w c.poll-answer.new.self 0 same c.poll-answer.result is

pub returns-else-is_over-clause-left : goal.returns-else-is_over-clause-left
returns-else-is_over-clause-left g c =
    let course = g.H.HostWork.course in
    let kept = c.args.self.now in
    let at = c.in_ok-place.ensures.some in
    let w = c.in-Some.joined.now in
    let unique = c.in-Some.ensures.unique in
    let same = lent course kept c.args.number c.in_ok-place.place at.0 unique at.1 w c.in-Some.ensures.value in
    let is = answer_by _ c.poll-answer.result (joined_phase w) (course (joined_work w)) c.poll-answer.ensures.none c.poll-answer.ensures.runs c.poll-answer.ensures.answer in
    left_going course kept c.args.number c.in_ok-place.place at.0 unique at.1 w c.poll-answer.new.self 0 same c.poll-answer.result is (sym c.is_over.ensures ∙ c.if-is_over.false)
    (goes_on _ c.poll-answer.result (sym c.is_over.ensures ∙ c.if-is_over.false) c.poll-answer.ensures.left) c.poll-answer.ensures.phase
