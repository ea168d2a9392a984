-- What the taking of an entry gave is told.
use Rattle.std.proofs.Common.{refl, subst, sym, ◌∙◌}
use Rattle.std.specs.Prelude.{false, true}
use Rattle.task_loop.proofs.TakenLemmas.{none_kept, turned_asked, turned_part}
use Rattle.task_loop.proofs.TurnTellLemmas.{asked_after, tells_in_part, tells_turn, works_asked, works_part}
use Rattle.task_loop.proofs.run.take_entry.Goals as goal
use Rattle.task_loop.specs.Threads.{TakesTold}
use Rattle.task_loop.specs.Told.{groups_before_work}
use Rattle.machine_data.specs.declared.records.Turn.TheVariants as turn
use Rattle.ops_turns.proofs.SteppedLemmas.{made_room, of_made}
use Rattle.ops_turns.specs.StepResult.{TakesBeside}
use Rattle.ops_turns.specs.declared.made.StepResult.{StepResult}
use Rattle.core_primitives.specs.Groups.{IsAsked}
use Rattle.core_primitives.specs.StateView.{StateView}

pub returns-clause-taken : goal.returns-clause-taken
returns-clause-taken g c =
    let s = c.args.store.now in
    let d = c.args.component.now in
    let b = c.args.trap_on_idle in
    let p = turn.Take c.args.ended in
    let q = c.take-taken.result in
    let is = sym c.is_made.ensures ∙ c.if-not-is_made.false in
    let works = c.take-taken.ensures.works in
    let told = c.in-Ok.ensures.told in
    let asked = told.whole.asked in
    let t = c.take-taken.new.w in
    let u = c.tell_work.new.core in
    let before = c.args.trace.now.labels in
    let after = c.take-taken.new.trace.labels in
    of_made {M = TakesTold d b c.args.ended c.in-Ok.next s q (record s { state = u; listeners = c.tell_work.new.listeners }) before after} q is (
      (of_made q is (turned_asked d b p s.state t u asked q before after (c.take-taken.ensures.turned.made is)), works_asked s.state t u asked works.0),
      record {
        told = tells_turn s.state p c.requires.asked c.none_is_zero.ensures.groups (groups_before_work c.take-taken.new.worked) refl c.take-taken.ensures.worked t u works.1 s.listeners c.tell_work.new.listeners c.count_ended.ensures told.whole;
        hook_is_ok = told.hook.hook_is_ok;
        group = c.in-Ok.ensures.running;
        asked = asked_after t u asked;
      },
    )

-- nothing was taken, and none has ended; or it is out of memory
pub returns-then-not-is_made-clause-taken : goal.returns-then-not-is_made-clause-taken
returns-then-not-is_made-clause-taken g c =
    let d = c.args.component.now in
    let s = c.args.store.now.state in
    let q = c.take-taken.result in
    let unmade = sym c.is_made.ensures ∙ c.if-not-is_made.true in
    let turned = c.take-taken.ensures.turned in
    record {
      made = λ e. absurd (let no = sym unmade ∙ e in cc);
      nothing = λ e.
          let there = subst (λ (w : StepResult). TakesBeside d c.args.trap_on_idle c.args.ended s w c.take-taken.new.w c.args.trace.now.labels c.take-taken.new.trace.labels) e turned in
          let asked = subst (λ (v : StateView). IsAsked v) (sym (none_kept d c.args.trap_on_idle c.args.ended s c.take-taken.new.w (turned.nothing e).0)) c.requires.asked in
          ((there, c.take-taken.ensures.works.0), (refl, asked));
      full = λ e. record { trace = turned.full e; listeners = refl; tracked = c.take-taken.ensures.works.1; wants = c.take-taken.ensures.full e };
      failed = λ e. absurd (turned.failed e);
    }

-- the step was made, and the hook failed in what it gave
pub returns-in_default-clause-taken : goal.returns-in_default-clause-taken
returns-in_default-clause-taken g c =
    let s = c.args.store.now in
    let d = c.args.component.now in
    let b = c.args.trap_on_idle in
    let p = turn.Take c.args.ended in
    let q = c.take-taken.result in
    let is = sym c.is_made.ensures ∙ c.if-not-is_made.false in
    let works = c.take-taken.ensures.works in
    let a = groups_before_work c.take-taken.new.worked in
    let told = c.in_default.ensures.told in
    let t = c.take-taken.new.w in
    let u = c.tell_work.new.core in
    let new = c.tell_work.new.listeners in
    let before = c.args.trace.now.labels in
    let after = c.take-taken.new.trace.labels in
    record {
      made = λ e. absurd (cc);
      nothing = λ e. absurd (cc);
      full = λ e. absurd (cc);
      failed = λ e. (
        record {
          told = tells_in_part s.state p c.requires.asked c.none_is_zero.ensures.groups a refl c.take-taken.ensures.worked t u works.1 s.listeners new told.part told.hook.failed;
          hook = c.tell_work.ensures.told.hook.hook;
        },
        (
          q,
          (
            is,
            (
              of_made q is (turned_part a d b p s.state t u s.listeners new told.part q before after (c.take-taken.ensures.turned.made is)),
              works_part a t u s.listeners new told.part s.state works.0,
            ),
          ),
        ),
      );
    }

pub tell_work-requires : goal.tell_work-requires
tell_work-requires g c = c.take-taken.ensures.there (made_room c.take-taken.result (sym c.is_made.ensures ∙ c.if-not-is_made.false))
