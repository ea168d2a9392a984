-- What the step of a thread gave is told.
use Rattle.std.proofs.Common.{ap, refl, subst, sym, ◌∙◌}
use Rattle.std.specs.Prelude.{is_some}
use Rattle.task_group.specs.Listeners.{AnsweredErr, Listeners, errors_of}
use Rattle.task_loop.proofs.ToldLemmas.{current_is, makes_asked, run_runs, run_stays, run_told, running_asked}
use Rattle.task_loop.proofs.TurnTellLemmas.{asked_after, makes_part, names_asked, names_part, part_core, tells_in_part, tells_turn}
use Rattle.task_loop.proofs.run.run_thread.Goals as goal
use Rattle.task_loop.specs.Threads.{RanThread}
use Rattle.task_loop.specs.Told.{TellsPart, TellsWhole, groups_before_run, turn_of}
use Rattle.machine_data.specs.Core.{Core}
use Rattle.machine_data.specs.declared.records.Turn.TheVariants as turn
use Rattle.task_store.specs.Hosts.{HoldsWorks, held_by}
use Rattle.ops_turns.proofs.KeptLemmas.{made_in_order}
use Rattle.ops_turns.proofs.ThereLemmas.{core_in_order_there}
use Rattle.ops_turns.proofs.SteppedLemmas.{of_made}
use Rattle.task_loop.proofs.TakenLemmas.{of_unmade}
use Rattle.ops_turns.specs.StepResult.{Added}
use Rattle.ops_turns.specs.Turn.{IsFree, MakesStep, running_of}
use Rattle.ops_turns.specs.declared.made.MadeStep.{MadeStep}

pub tell_run-told-requires-clause-stays : goal.tell_run-told-requires-clause-stays
tell_run-told-requires-clause-stays g c = λ on.
    let s = c.args.store.now.state in
    let t = c.step_thread-stepped.new.store.state in
    let steps = c.step_thread-stepped.ensures.steps (sym c.is_made.ensures ∙ c.if-not-is_made.false) in
    run_stays c.args.component.now c.args.thread s t c.step_thread-stepped.result c.args.trace.now.labels c.step_thread-stepped.new.trace.labels steps.makes c.requires.runs.order steps.works.1 c.requires.runs.current on
    ∙ (current_is s (turn.Run c.args.thread) c.requires.runs.current ∙ sym c.requires.running)

pub tell_run-told-requires-clause-there : goal.tell_run-told-requires-clause-there
tell_run-told-requires-clause-there g c =
    let made = (c.step_thread-stepped.ensures.steps (sym c.is_made.ensures ∙ c.if-not-is_made.false)).makes in
    let s = c.args.store.now.state in
    let t = c.step_thread-stepped.new.store.state in
    let makes = (made.1.1).0 in
    core_in_order_there c.args.component.now made.0.turn t (made_in_order c.args.component.now (turn.Run c.args.thread) s made.0 t c.requires.runs.order makes) makes.running

pub returns-clause-ran : goal.returns-clause-ran
returns-clause-ran g c =
    let s = c.args.store.now in
    let d = c.args.component.now in
    let n = c.args.thread in
    let t = c.step_thread-stepped.new.store in
    let u = c.tell_run-told.new.core in
    let new = c.tell_run-told.new.listeners in
    let q = c.step_thread-stepped.result in
    let is = sym c.is_made.ensures ∙ c.if-not-is_made.false in
    let a = groups_before_run c.args.running.now in
    let before = c.args.trace.now.labels in
    let after = c.step_thread-stepped.new.trace.labels in
    let steps = c.step_thread-stepped.ensures.steps is in
    let made = steps.makes in
    let told = c.in-Ok.ensures.told in
    let asked = told.whole.asked in
    let same = c.step_thread-stepped.ensures.listeners in
    let makes : Added (λ (k : MadeStep). MakesStep d (turn.Run n) s.state k u × IsFree k.turn) q before after = (made.0, (made.1.0, (makes_asked d (turn.Run n) s.state made.0 t.state u asked (made.1.1).0, (made.1.1).1))) in
    of_made {M = RanThread g.H.HostWork.course d n s q c.in-Ok.next (record t { state = u; listeners = new }) before after} q is (record {
      steps = record {
        makes = makes;
        works = names_asked s.state t.state u asked steps.works.0;
        hosts = subst (λ (k : Core). HoldsWorks (held_by g.H.HostWork.course t) k) (sym (ap (λ v. v.core) asked)) steps.hosts;
      };
      told = run_told d n s.state u q before after makes c.requires.asked s.listeners new
          (tells_turn s.state (turn.Run n) c.requires.asked c.none_is_zero.ensures.groups a c.requires.running refl t.state u steps.works.1 s.listeners new c.count_ended.ensures
          (subst (λ (l : Listeners). TellsWhole a t.state u l new) same told.whole))
          (told.hook.hook_is_ok ∙ ap errors_of same);
      group = c.in-Ok.ensures.running
          ∙ current_is u (turn_of q) (ap running_of asked ∙ (running_asked t.state ∙ run_runs d n s.state t.state q before after made));
      asked = asked_after t.state u asked;
    })

-- the step was made, and the hook failed in what it gave
pub returns-in_default-clause-ran : goal.returns-in_default-clause-ran
returns-in_default-clause-ran g c =
    let s = c.args.store.now in
    let d = c.args.component.now in
    let n = c.args.thread in
    let t = c.step_thread-stepped.new.store in
    let u = c.tell_run-told.new.core in
    let new = c.tell_run-told.new.listeners in
    let a = groups_before_run c.args.running.now in
    let is = sym c.is_made.ensures ∙ c.if-not-is_made.false in
    let steps = c.step_thread-stepped.ensures.steps is in
    let made = steps.makes in
    let told = c.in_default.ensures.told in
    let same = c.step_thread-stepped.ensures.listeners in
    record {
      made = λ e. absurd (cc);
      nothing = λ e. absurd (cc);
      full = λ e. absurd (cc);
      failed = λ e. (
        record {
          told = tells_in_part s.state (turn.Run n) c.requires.asked c.none_is_zero.ensures.groups a c.requires.running refl t.state u steps.works.1 s.listeners new
              (subst (λ (l : Listeners). TellsPart a t.state u l new) same told.part) (subst (λ (l : Listeners). AnsweredErr l new) same told.hook.failed);
          hook = c.tell_run-told.ensures.told.hook.hook ∙ ap (λ (l : Listeners). is_some l.hook) same;
        },
        (
          c.step_thread-stepped.result,
          record {
            makes = (made.0, (made.1.0, (makes_part a t.state u t.listeners new told.part d (turn.Run n) s.state made.0 (made.1.1).0, (made.1.1).1)));
            works = names_part a t.state u t.listeners new told.part s.state steps.works.0;
            hosts = subst (λ (k : Core). HoldsWorks (held_by g.H.HostWork.course t) k) (sym (part_core a t.state u t.listeners new told.part)) steps.hosts;
          },
        ),
      );
    }

pub returns-then-not-is_made-clause-ran : goal.returns-then-not-is_made-clause-ran
returns-then-not-is_made-clause-ran g c =
    let unmade = sym c.is_made.ensures ∙ c.if-not-is_made.true in
    of_unmade c.step_thread-stepped.result unmade (c.step_thread-stepped.ensures.full unmade) (λ same. c.step_thread-stepped.ensures.lacks unmade)
