use Rattle.std.proofs.Common.{ap, refl, subst, sym, ◌∙◌}
use Rattle.std.specs.Prelude.{Bool, None, Option, false, true, ◌||◌}
use Rattle.store_works.specs.KeptWorks.{MayAnswer, held}
use Rattle.machine_data.specs.declared.statuses.HostPoll.{HostPoll}
use Rattle.machine_data.specs.Read.{course_of, is_aborted}
use Rattle.machine_data.specs.declared.records.Course.{Course}
use Rattle.ops_guests.specs.PolledWorks.{TellsPoll}
use Rattle.ops_guests.specs.declared.work_ops.PollNews.TheVariants as told
use Rattle.machine_rules.specs.Works.{Poll, has_end, polled_course}
use Rattle.task_store.proofs.HostLemmas.{aborted_ends, going_held, going_tells, over_held, polled_goes, unaborted_polls, unheld_over, unpolled_over}
use Rattle.task_store.proofs.store.Store.tell.Goals as goal
use Rattle.task_store.specs.Hosts.{held_by}
use Rattle.core_primitives.specs.StateView.{work_of}

pub returns-then-is_aborted-clause-answer : goal.returns-then-is_aborted-clause-answer
returns-then-is_aborted-clause-answer g c =
    let s = c.args.self.now.state.core in
    let n = work_of c.args.self.now.state c.args.work in
    let left = held_by g.H.HostWork.course c.args.self.now in
    let asked = ap is_aborted (sym c.phase.ensures) ∙ (sym c.is_aborted.ensures ∙ c.if-is_aborted.true) in
    subst (λ (p : Poll). TellsPoll (told.Ends None) p) (sym (aborted_ends n s left left c.requires.hosts asked)) refl

pub returns-then-is_aborted-clause-told : goal.returns-then-is_aborted-clause-told
returns-then-is_aborted-clause-told g c =
    let s = c.args.self.now.state.core in
    let n = work_of c.args.self.now.state c.args.work in
    let asked = ap is_aborted (sym c.phase.ensures) ∙ (sym c.is_aborted.ensures ∙ c.if-is_aborted.true) in
    over_held n s (held_by g.H.HostWork.course c.args.self.now) (held g.H.HostWork.course c.let_go.new.self) c.requires.hosts (told.Ends None)
    (ap (λ (b : Bool). b || has_end (course_of n s)) asked) (rw c.requires.number at c.let_go.ensures)

pub returns-in-Some-clause-answer : goal.returns-in-Some-clause-answer
returns-in-Some-clause-answer g c =
    let s = c.args.self.now.state.core in
    let n = work_of c.args.self.now.state c.args.work in
    let left = held_by g.H.HostWork.course c.args.self.now in
    let unasked = ap is_aborted (sym c.phase.ensures) ∙ (sym c.is_aborted.ensures ∙ c.if-is_aborted.false) in
    let may = subst (λ (a : Option HostPoll). MayAnswer (left n) a) c.in-Some.is (rw c.requires.number at c.poll.ensures.answer) in
    rw c.told_of.ensures (going_tells n s left left c.requires.hosts c.in-Some.answer (polled_goes n s left left c.requires.hosts unasked c.in-Some.answer may) may)

pub returns-in-Some-clause-told : goal.returns-in-Some-clause-told
returns-in-Some-clause-told g c =
    let s = c.args.self.now.state.core in
    let n = work_of c.args.self.now.state c.args.work in
    let left = held_by g.H.HostWork.course c.args.self.now in
    let right = held g.H.HostWork.course c.poll.new.self in
    let unasked = ap is_aborted (sym c.phase.ensures) ∙ (sym c.is_aborted.ensures ∙ c.if-is_aborted.false) in
    let may = subst (λ (a : Option HostPoll). MayAnswer (left n) a) c.in-Some.is (rw c.requires.number at c.poll.ensures.answer) in
    let held_then = rw c.in-Some.is at (rw c.requires.number at c.poll.ensures.left) in
    rw c.told_of.ensures (going_held n s left right c.requires.hosts c.in-Some.answer (polled_goes n s left left c.requires.hosts unasked c.in-Some.answer may) may held_then)

pub told_at_end-requires : goal.told_at_end-requires
told_at_end-requires g c =
    let s = c.args.self.now.state.core in
    let n = work_of c.args.self.now.state c.args.work in
    let left = held_by g.H.HostWork.course c.args.self.now in
    let unasked = ap is_aborted (sym c.phase.ensures) ∙ (sym c.is_aborted.ensures ∙ c.if-is_aborted.false) in
    let none = subst (λ (a : Option HostPoll). MayAnswer (held_by g.H.HostWork.course c.args.self.now n) a) c.in-None.is (rw c.requires.number at c.poll.ensures.answer) in
    ap has_end c.course.ensures ∙ unpolled_over n s left left c.requires.hosts unasked none

pub returns-in-None-clause-answer : goal.returns-in-None-clause-answer
returns-in-None-clause-answer g c =
    let s = c.args.self.now.state.core in
    let n = work_of c.args.self.now.state c.args.work in
    let left = held_by g.H.HostWork.course c.args.self.now in
    let unasked = ap is_aborted (sym c.phase.ensures) ∙ (sym c.is_aborted.ensures ∙ c.if-is_aborted.false) in
    subst (λ (p : Poll). TellsPoll c.told_at_end.result p) (sym (unaborted_polls n s left left c.requires.hosts unasked))
    (subst (λ (q : Course). TellsPoll c.told_at_end.result (polled_course q)) c.course.ensures c.told_at_end.ensures)

pub returns-in-None-clause-told : goal.returns-in-None-clause-told
returns-in-None-clause-told g c =
    let s = c.args.self.now.state.core in
    let n = work_of c.args.self.now.state c.args.work in
    let left = held_by g.H.HostWork.course c.args.self.now in
    let unasked = ap is_aborted (sym c.phase.ensures) ∙ (sym c.is_aborted.ensures ∙ c.if-is_aborted.false) in
    let none = subst (λ (a : Option HostPoll). MayAnswer (held_by g.H.HostWork.course c.args.self.now n) a) c.in-None.is (rw c.requires.number at c.poll.ensures.answer) in
    unheld_over n s left (held g.H.HostWork.course c.poll.new.self) c.requires.hosts c.told_at_end.result unasked none (rw c.in-None.is at (rw c.requires.number at c.poll.ensures.left))
