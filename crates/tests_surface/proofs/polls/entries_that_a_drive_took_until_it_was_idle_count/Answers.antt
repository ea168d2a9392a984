-- Where the drive was idle, calls are started, and the run is polled on.
use Rattle.ops_turns.specs.StepResult.{turn_of}
use Rattle.std.proofs.Common.{Ok, ap, arith, sym, ◌∙◌}
use Rattle.std.specs.Prelude.{[], ◌^◌, ◌≤◌}
use Rattle.tests_surface.proofs.PollLemmas.{idle_turn, pends_outside, settled_take_of}
use Rattle.tests_surface.proofs.polls.entries_that_a_drive_took_until_it_was_idle_count.Goals as goal
use Rattle.task_loop.proofs.BeginLemmas.{may_again, may_start}
use Rattle.task_loop.proofs.HasRunLemmas.{drives_of}
use Rattle.task_loop.specs.RunPolls.{may_poll}
use Rattle.task_loop.specs.declared.poll_methods.RunPoll.{RunPoll}
use Rattle.machine_data.specs.declared.records.Turn.TheVariants as turn
use Rattle.ops_turns.specs.Turn.{given, is_open, runs_in, setting_of}

pub call_often-requires-clause-order : goal.call_often-requires-clause-order
call_often-requires-clause-order g c = (turn.Main, c.store-store.ensures.order)

pub drive-requires : goal.drive-requires
drive-requires g c =
    let e = c.call_often.ensures in
    record {
      may = may_start _ _ _ c.in-Ok.run' c.in-Ok.ensures.turn _ tt c.component-component.ensures.covered c.call_often.new.store _ c.run_concurrent.ensures.store _ (e.order turn.Main c.store-store.ensures.order) e.current tt e.hosts e.groups
          (let given = e.given in let none = c.store-store.ensures.given in omega (arith, given, none));
    }

pub call_often-requires-2-clause-order : goal.call_often-requires-2-clause-order
call_often-requires-2-clause-order g c = let driven = rw c.in-Ok-Idle.is at c.drive.ensures.drives in ((turn_of c.drive.new.self.last), driven.gone.has.may_turn.order)

pub call_often-requires-2-clause-given : goal.call_often-requires-2-clause-given
call_often-requires-2-clause-given g c =
    let driven = rw c.in-Ok-Idle.is at c.drive.ensures.drives in
    let few = driven.gone.has.numbers in
    let first = c.call_often.ensures.given in
    let none = c.store-store.ensures.given in
    let start = ap (λ s. given s.state.core) c.run_concurrent.ensures.store in omega (arith, few, first, none, start)

pub call_often-requires-2-clause-current : goal.call_often-requires-2-clause-current
call_often-requires-2-clause-current g c =
    let driven = rw c.in-Ok-Idle.is at c.drive.ensures.drives in
    let taking = idle_turn _ _ _ _ _ _ _ (drives_of _ _ _ _ _ 2000 _ driven.gone) c.in-Ok-Idle.field-0-is in
    driven.gone.has.may_turn.running ∙ ap runs_in taking

pub call_often-requires-2-clause-hosts : goal.call_often-requires-2-clause-hosts
call_often-requires-2-clause-hosts g c = let driven = rw c.in-Ok-Idle.is at c.drive.ensures.drives in driven.gone.has.may_turn.works

pub call_often-requires-2-clause-groups : goal.call_often-requires-2-clause-groups
call_often-requires-2-clause-groups g c = let driven = rw c.in-Ok-Idle.is at c.drive.ensures.drives in driven.gone.has.may_turn.asked

pub poll-polled-requires : goal.poll-polled-requires
poll-polled-requires g c =
    let driven = rw c.in-Ok-Idle.is at c.drive.ensures.drives in
    let taking = idle_turn _ _ _ _ _ _ _ (drives_of _ _ _ _ _ 2000 _ driven.gone) c.in-Ok-Idle.field-0-is in
    let e = c.call_often-2.ensures in
    let few = driven.gone.has.numbers in
    let first = c.call_often.ensures.given in
    let more = e.given in
    let start = ap (λ s. given s.state.core) c.run_concurrent.ensures.store in
    let none = c.store-store.ensures.given in
    record {
      may = record {
        covered = c.component-component.ensures.covered;
        may_turn = record {
          order = e.order (turn_of c.drive.new.self.last) driven.gone.has.may_turn.order;
          settled = settled_take_of c.call_often-2.new.store.state.core (turn_of c.drive.new.self.last) taking;
          running = e.current ∙ sym (ap runs_in taking);
          pends = pends_outside (setting_of c.component-component.result [] c.drive.new.self.trap_on_idle) c.call_often-2.new.store.state.core (turn_of c.drive.new.self.last) taking;
          suits = tt;
          knows = tt;
          works = e.hosts;
          asked = e.groups;
        };
        unfinished = ap is_open taking;
        few = omega (arith, few, first, more, none, start);
      };
    }

pub poll-polled-requires-2 : goal.poll-polled-requires-2
poll-polled-requires-2 g c =
    let driven = rw c.in-Ok-Idle.is at c.drive.ensures.drives in
    let taking = idle_turn _ _ _ _ _ _ _ (drives_of _ _ _ _ _ 2000 _ driven.gone) c.in-Ok-Idle.field-0-is in
    let e = c.call_often-2.ensures in
    let few = driven.gone.has.numbers in
    let first = c.call_often.ensures.given in
    let more = e.given in
    let start = ap (λ s. given s.state.core) c.run_concurrent.ensures.store in
    let none = c.store-store.ensures.given in
    let polled = rw c.in-Ok-Yielded.is at c.poll-polled.ensures.polls in
    let last = polled.has.numbers in
    let room : given c.call_often-2.new.store.state.core ≤ 2 ^ 60 = omega (arith, few, first, more, none, start) in
    let later : given c.poll-polled.new.store.state.core ≤ 2 ^ 60 = omega (arith, few, first, more, none, start, last) in
    record {
      may = may_again _ _ _ _ _ 2000
          (record {
            covered = c.component-component.ensures.covered;
            may_turn = record {
              order = e.order (turn_of c.drive.new.self.last) driven.gone.has.may_turn.order;
              settled = settled_take_of c.call_often-2.new.store.state.core (turn_of c.drive.new.self.last) taking;
              running = e.current ∙ sym (ap runs_in taking);
              pends = pends_outside (setting_of c.component-component.result [] c.drive.new.self.trap_on_idle) c.call_often-2.new.store.state.core (turn_of c.drive.new.self.last) taking;
              suits = tt;
              knows = tt;
              works = e.hosts;
              asked = e.groups;
            };
            unfinished = ap is_open taking;
            few = room;
          })
          c.poll-polled.ensures.keeps polled.has (polled.unfinished ∙ ap (λ (q : RunPoll). may_poll (Ok q)) (rw c.in-Ok-Yielded.is at c.in-Ok-Yielded.field-0-is)) later;
    }
