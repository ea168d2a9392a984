-- What the poll of a work gave is told.
use Rattle.std.proofs.Common.{ap, refl, subst, sym, ◌∙◌}
use Rattle.std.specs.Prelude.{[], is_some, true}
use Rattle.task_group.specs.Listeners.{AnsweredErr, Listeners, errors_of}
use Rattle.task_loop.proofs.IdleLemmas.{none_current, poll_leaves_none}
use Rattle.task_loop.proofs.ToldLemmas.{turns_asked}
use Rattle.task_loop.proofs.TurnTellLemmas.{asked_after, part_core, tells_in_part, tells_turn, turns_part, works_asked, works_part}
use Rattle.task_loop.proofs.run.poll_work.Goals as goal
use Rattle.task_loop.specs.Threads.{PollsTold}
use Rattle.task_loop.specs.Told.{TellsPart, TellsWhole, groups_before_work}
use Rattle.machine_data.specs.Core.{Core, Unscripted}
use Rattle.machine_data.specs.declared.records.Turn.TheVariants as turn
use Rattle.task_store.specs.Hosts.{HoldsWorks, held_by}
use Rattle.ops_turns.proofs.SteppedLemmas.{of_made}
use Rattle.ops_turns.specs.Turn.{setting_of}

pub poll_next-made-requires-clause-may : goal.poll_next-made-requires-clause-may
poll_next-made-requires-clause-may g c =
    let order = c.requires.at.order.order Unscripted in
    record { placed = order.in_place.placed; works = order.works; current = none_current c.args.store.now.state c.requires.at.running; settled = c.requires.at.settled }

pub tell_poll-requires : goal.tell_poll-requires
tell_poll-requires g c =
    let x = setting_of c.args.component.now [] true in
    let t = c.poll_next-made.new.self in
    poll_leaves_none x c.args.polled Unscripted c.args.store.now.state t.state c.poll_next-made.result (c.poll_next-made.ensures.turns x Unscripted refl)

pub returns-clause-works : goal.returns-clause-works
returns-clause-works g c =
    let t = c.poll_next-made.new.self in
    let asked = c.in-Ok.ensures.told.whole.asked in (
      works_asked c.args.store.now.state t.state c.tell_poll.new.core asked c.poll_next-made.ensures.works.0,
      subst (λ (d : Core). HoldsWorks (held_by g.H.HostWork.course t) d) (sym (ap (λ v. v.core) asked)) c.poll_next-made.ensures.hosts,
    )

pub returns-clause-polled : goal.returns-clause-polled
returns-clause-polled g c =
    let s = c.args.store.now in
    let t = c.poll_next-made.new.self in
    let u = c.tell_poll.new.core in
    let a = groups_before_work c.poll_next-made.new.worked in
    let told = c.in-Ok.ensures.told in
    let same = ap (λ k. k.listeners) c.poll_next-made.ensures.rest in
    let is = c.put-stepped.ensures.made in
    of_made {M = PollsTold (turn.Futures c.args.polled) c.in-Ok.next s c.put-stepped.result (record t { state = u; listeners = c.tell_poll.new.listeners }) c.args.trace.now.labels c.put-stepped.new.trace.labels} c.put-stepped.result is (
      (
        c.poll_next-made.result,
        (
          c.put-stepped.ensures.in_trace,
          λ x m pends.
              turns_asked x (turn.Futures c.args.polled) m s.state c.poll_next-made.result m t.state u told.whole.asked (c.poll_next-made.ensures.turns x m pends),
        ),
      ),
      record {
        told = tells_turn s.state (turn.Futures c.args.polled) c.requires.asked c.none_is_zero.ensures.groups a refl c.poll_next-made.ensures.worked t.state u c.poll_next-made.ensures.works.1 s.listeners c.tell_poll.new.listeners c.count_ended.ensures
            (subst (λ (l : Listeners). TellsWhole a t.state u l c.tell_poll.new.listeners) same told.whole);
        hook_is_ok = told.hook.hook_is_ok ∙ ap errors_of same;
        group = c.in-Ok.ensures.running;
        asked = asked_after t.state u told.whole.asked;
      },
    )

-- the step was made, and the hook failed in what it gave
pub returns-in_default-clause-works : goal.returns-in_default-clause-works
returns-in_default-clause-works g c =
    let t = c.poll_next-made.new.self in
    let u = c.tell_poll.new.core in
    let a = groups_before_work c.poll_next-made.new.worked in
    let part = c.in_default.ensures.told.part in (
      works_part a t.state u t.listeners c.tell_poll.new.listeners part c.args.store.now.state c.poll_next-made.ensures.works.0,
      subst (λ (d : Core). HoldsWorks (held_by g.H.HostWork.course t) d) (sym (part_core a t.state u t.listeners c.tell_poll.new.listeners part)) c.poll_next-made.ensures.hosts,
    )

pub returns-in_default-clause-polled : goal.returns-in_default-clause-polled
returns-in_default-clause-polled g c =
    let s = c.args.store.now in
    let t = c.poll_next-made.new.self in
    let u = c.tell_poll.new.core in
    let new = c.tell_poll.new.listeners in
    let a = groups_before_work c.poll_next-made.new.worked in
    let told = c.in_default.ensures.told in
    let same = ap (λ k. k.listeners) c.poll_next-made.ensures.rest in
    let is = c.put-stepped.ensures.made in
    record {
      made = λ e. absurd (cc);
      nothing = λ e. absurd (cc);
      full = λ e. absurd (cc);
      failed = λ e. (
        record {
          told = tells_in_part s.state (turn.Futures c.args.polled) c.requires.asked c.none_is_zero.ensures.groups a refl c.poll_next-made.ensures.worked t.state u c.poll_next-made.ensures.works.1 s.listeners new
              (subst (λ (l : Listeners). TellsPart a t.state u l new) same told.part) (subst (λ (l : Listeners). AnsweredErr l new) same told.hook.failed);
          hook = c.tell_poll.ensures.told.hook.hook ∙ ap (λ (l : Listeners). is_some l.hook) same;
        },
        (
          c.put-stepped.result,
          (
            c.poll_next-made.result,
            (
              c.put-stepped.ensures.in_trace,
              λ x m pends.
                  turns_part a t.state u t.listeners new told.part x (turn.Futures c.args.polled) m s.state c.poll_next-made.result m (c.poll_next-made.ensures.turns x m pends),
            ),
          ),
        ),
      );
    }
