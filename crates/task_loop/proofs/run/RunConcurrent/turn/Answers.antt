-- Each turn is one of this run.
use Rattle.std.proofs.Common.{ap, arith, inr, refl, subst, sym, ◌∙◌, ◌≡◌}
use Rattle.machine_data.specs.declared.label.Label.{Label}
use Rattle.run_trace.specs.Traced.{Traced}
use Rattle.std.specs.Prelude.{List, Some, true, ℕ}
use Rattle.task_loop.proofs.DoesLemmas.{still, still_run}
use Rattle.task_loop.proofs.HasRunLemmas.{at_turn}
use Rattle.task_loop.proofs.HookLemmas.{stops_after}
use Rattle.task_loop.proofs.KnowsLemmas.{by_poll, by_run}
use Rattle.task_loop.proofs.TakenLemmas.{any_turns}
use Rattle.task_loop.proofs.ToldLemmas.{current_is, other_told, run_turns, told_turn, turns_runs}
use Rattle.task_loop.proofs.TurnLemmas.{gives, lacks_run, took}
use Rattle.task_loop.proofs.run.RunConcurrent.turn.Goals as goal
use Rattle.task_loop.specs.HasRun.{MayTurn, TurnsTo, at}
use Rattle.task_loop.specs.Ran.{DoesStep}
use Rattle.task_loop.specs.Constants.{constants}
use Rattle.task_loop.specs.Told.{TurnTold, group_running, turn_of}
use Rattle.machine_data.specs.declared.records.Turn.{Turn}
use Rattle.machine_data.specs.declared.records.Turn.TheVariants as turn
use Rattle.task_store.specs.declared.store.Store.{Store}
use Rattle.ops_turns.proofs.SteppedLemmas.{added_as, of_lost, of_made}
use Rattle.ops_turns.specs.Does.{step_shown}
use Rattle.ops_turns.specs.StepResult.{Added}
use Rattle.ops_turns.specs.Turn.{IsAtTurn, IsFree, MakesStep, PendsIn, CoreInOrder, Turns, is_open, runs_in, setting_of}
use Rattle.ops_turns.specs.declared.made.MadeStep.{MadeStep}

-- ---- Main does an op

pub step_main-requires-clause-may : goal.step_main-requires-clause-may
step_main-requires-clause-may g c =
    let d = c.args.component.now in
    let may = c.requires.may in
    record {
      covered = may.covered;
      order = subst (λ (p : Turn). CoreInOrder d p c.args.store.now.state.core) (sym c.turn_of.ensures ∙ c.in-Main.is) may.may_turn.order;
      idle = may.may_turn.running ∙ ap (λ (p : Turn). runs_in p) (sym c.turn_of.ensures ∙ c.in-Main.is);
      suits = may.may_turn.suits;
      knows = may.may_turn.knows;
      works = may.may_turn.works;
      asked = may.may_turn.asked;
      few = may.few;
    }

pub returns-in-Main-clause-turned : goal.returns-in-Main-clause-turned
returns-in-Main-clause-turned g c =
    let says = g.M.MainTask.says in
    let course = g.H.HostWork.course in
    let d = c.args.component.now in
    let main = c.args.main.now in
    let may = c.requires.may in
    let u = at c.args.self.now main c.args.store.now c.args.trace.now.labels in
    let v = at c.args.self.now c.step_main.new.main c.step_main.new.store c.step_main.new.trace.labels in
    let mid = record u { trace = c.make_room.new.self.labels } in
    let q = c.step_main.result in
    let none : c.args.running.now ≡ 0 = may.group ∙ ap (λ (p : Turn). group_running c.args.store.now.state p) (sym c.turn_of.ensures ∙ c.in-Main.is) in
    gives says course d q c.args.running.now c.args.trace.now.spare u v c.make_room.new.self.labels c.in-Ok.ensures.labels
    (subst (λ (r : ℕ). TurnsTo says course d q r mid v) (sym none)
    (subst (λ (p : Turn). TurnsTo says course d q 0 (record mid { turn = p }) (record v { turn = p })) (sym (sym c.turn_of.ensures ∙ c.in-Main.is)) (c.step_main.ensures.turned c.args.self.now.trap_on_idle)))

-- ---- A thread takes a step

pub run_thread-requires-clause-runs : goal.run_thread-requires-clause-runs
run_thread-requires-clause-runs g c =
    let says = g.M.MainTask.says in
    let course = g.H.HostWork.course in
    let d = c.args.component.now in
    let main = c.args.main.now in
    let may = c.requires.may in
    let u = at c.args.self.now main c.args.store.now c.args.trace.now.labels in
    record {
      covered = may.covered;
      order = subst (λ (p : Turn). CoreInOrder d p c.args.store.now.state.core) (sym c.turn_of.ensures ∙ c.in-Run.is) may.may_turn.order;
      current = may.may_turn.running ∙ ap (λ (p : Turn). runs_in p) (sym c.turn_of.ensures ∙ c.in-Run.is);
      few = may.few;
      hosts = may.may_turn.works;
    }

pub run_thread-requires-clause-running : goal.run_thread-requires-clause-running
run_thread-requires-clause-running g c = subst (λ (p : Turn). c.args.running.now ≡ group_running c.args.store.now.state p) (sym c.turn_of.ensures ∙ c.in-Run.is) c.requires.may.group

pub run_thread-requires-clause-asked : goal.run_thread-requires-clause-asked
run_thread-requires-clause-asked g c = c.requires.may.may_turn.asked

pub returns-in-Run-clause-turned : goal.returns-in-Run-clause-turned
returns-in-Run-clause-turned g c =
    let says = g.M.MainTask.says in
    let d = c.args.component.now in
    let main = c.args.main.now in
    let may = c.requires.may in
    let part = says.part main in
    let n = c.in-Run.thread in
    let at_run = sym c.turn_of.ensures ∙ c.in-Run.is in
    let s = c.args.store.now.state in
    let t = c.run_thread.new.store.state in
    let old = c.args.store.now.listeners in
    let new = c.run_thread.new.store.listeners in
    let x = setting_of d (says.script main) c.args.self.now.trap_on_idle in
    let before = c.make_room.new.self.labels in
    let after = c.run_thread.new.trace.labels in
    let q = c.run_thread.result in
    let order = subst (λ (p : Turn). CoreInOrder d p s.core) at_run may.may_turn.order in
    gives says g.H.HostWork.course d q c.run_thread.new.running c.args.trace.now.spare (at c.args.self.now main c.args.store.now c.args.trace.now.labels) (at c.args.self.now main c.run_thread.new.store after) before c.in-Ok.ensures.labels (record {
      made = λ is.
          let ran = c.run_thread.ensures.ran.made is in
          let made = ran.steps.makes in
          record {
            turn = refl;
            told = of_made q is (subst (λ (p : Turn). Added (λ (made : MadeStep). TurnTold x p part s old (Some made) part t new) q before after) (sym at_run) (told_turn x n part s old t new q before after ran.told));
            did = of_made q is
                (added_as (λ (made : MadeStep). MakesStep d (turn.Run n) s made t × IsFree made.turn) (λ (made : MadeStep). DoesStep says.does main s.core (step_shown made.label) main t.core) q before after
                (λ made h. still_run says.does main x part s t n made h.0) made);
            group = λ yes. ran.group;
            suits = may.may_turn.suits;
            knows = by_run (says.knows main) s t (λ last. g.met.M.MainTask.stays main s t last may.may_turn.knows) x part n made.0 order made.1.1.0 ran.steps.works;
            works = ran.steps.hosts;
            asked = ran.asked;
          };
      nothing = λ is. absurd (c.run_thread.ensures.ran.nothing is);
      full = λ is. lacks_run says g.H.HostWork.course d main c.args.self.now.trap_on_idle (turn_of c.args.self.now.last) n at_run c.args.store.now c.run_thread.new.store before after (c.run_thread.ensures.ran.full is);
      failed = λ is.
          let failed = c.run_thread.ensures.ran.failed is in
          let fails = failed.0 in
          let k = failed.1 in
          let made = k.1.makes in
          record {
            stops = stops_after x (turn_of c.args.self.now.last) (turn.Run n) at_run (λ no. absurd (cc)) part s before after old new (fails.told.answered, fails.hook) k.0 part t fails.told
                (made.0, (made.1.0, run_turns d n s t k.0 before after made x refl part));
            main = refl;
            knows = by_run (says.knows main) s t (λ last. g.met.M.MainTask.stays main s t last may.may_turn.knows) x part n made.0 order made.1.1.0 k.1.works;
            works = k.1.hosts;
          };
    })

-- ---- A work is polled

pub poll_work-requires-clause-at : goal.poll_work-requires-clause-at
poll_work-requires-clause-at g c =
    let says = g.M.MainTask.says in
    let course = g.H.HostWork.course in
    let d = c.args.component.now in
    let main = c.args.main.now in
    let may = c.requires.may in
    let u = at c.args.self.now main c.args.store.now c.args.trace.now.labels in
    subst (λ (p : Turn). IsAtTurn d p c.args.store.now.state) (sym c.turn_of.ensures ∙ c.in-Futures.is) (at_turn says course d c.args.running.now u may)

pub poll_work-requires-clause-asked : goal.poll_work-requires-clause-asked
poll_work-requires-clause-asked g c = c.requires.may.may_turn.asked

pub poll_work-requires-clause-hosts : goal.poll_work-requires-clause-hosts
poll_work-requires-clause-hosts g c = c.requires.may.may_turn.works

pub returns-in-Futures-clause-turned : goal.returns-in-Futures-clause-turned
returns-in-Futures-clause-turned g c =
    let says = g.M.MainTask.says in
    let d = c.args.component.now in
    let main = c.args.main.now in
    let may = c.requires.may in
    let m = says.part main in
    let p = turn.Futures c.in-Futures.polled in
    let at_poll = sym c.turn_of.ensures ∙ c.in-Futures.is in
    let s = c.args.store.now.state in
    let t = c.poll_work.new.store.state in
    let x = setting_of d (says.script main) c.args.self.now.trap_on_idle in
    let before = c.make_room.new.self.labels in
    let after = c.poll_work.new.trace.labels in
    let old = c.args.store.now.listeners in
    let new = c.poll_work.new.store.listeners in
    let q = c.poll_work.result in
    let works = c.poll_work.ensures.works in
    let order = subst (λ (w : Turn). CoreInOrder d w s.core) at_poll may.may_turn.order in
    let pends : PendsIn x s.core m p = subst (λ (w : Turn). PendsIn x s.core m w) at_poll may.may_turn.pends in
    gives says g.H.HostWork.course d q c.poll_work.new.running c.args.trace.now.spare (at c.args.self.now main c.args.store.now c.args.trace.now.labels) (at c.args.self.now main c.poll_work.new.store after) before c.in-Ok.ensures.labels (record {
      made = λ is.
          let polled = c.poll_work.ensures.polled.made is in
          let made : Added (λ (made : MadeStep). Turns x p m s made m t) q before after = any_turns x p m s t q before after pends polled.0 in
          let told = polled.1 in
          record {
            turn = refl;
            told = of_made q is
                (subst (λ (w : Turn). Added (λ (made : MadeStep). TurnTold x w m s old (Some made) m t new) q before after) (sym at_poll) (other_told x p refl m s may.may_turn.asked old m t new told.told q before after made told.hook_is_ok));
            did = of_made {M = Added (λ (step : MadeStep). DoesStep says.does main s.core (step_shown step.label) main t.core) q before after} q is (made.0, (made.1.0, still says.does main x m s t p refl made.0 made.1.1));
            group = λ yes. told.group ∙ current_is t (turn_of q) (turns_runs x p m s m t q before after made);
            suits = may.may_turn.suits;
            knows = by_poll (says.knows main) s t (λ last. g.met.M.MainTask.stays main s t last may.may_turn.knows) x m c.in-Futures.polled made.0 order made.1.1 works.0;
            works = works.1;
            asked = told.asked;
          };
      nothing = λ is. absurd (c.poll_work.ensures.polled.nothing is);
      full = λ is. absurd (c.poll_work.ensures.polled.full is);
      failed = λ is.
          let failed = c.poll_work.ensures.polled.failed is in
          let fails = failed.0 in
          let k = failed.1 in
          let made = any_turns x p m s t k.0 before after pends k.1 in
          record {
            stops = stops_after x (turn_of c.args.self.now.last) p at_poll (λ no. absurd (cc)) m s before after old new (fails.told.answered, fails.hook) k.0 m t fails.told made;
            main = refl;
            knows = by_poll (says.knows main) s t (λ last. g.met.M.MainTask.stays main s t last may.may_turn.knows) x m c.in-Futures.polled made.0 order made.1.1 works.0;
            works = works.1;
          };
    })

-- ---- An entry is taken

pub take_entry-requires-clause-at : goal.take_entry-requires-clause-at
take_entry-requires-clause-at g c =
    let says = g.M.MainTask.says in
    let course = g.H.HostWork.course in
    let d = c.args.component.now in
    let main = c.args.main.now in
    let may = c.requires.may in
    let u = at c.args.self.now main c.args.store.now c.args.trace.now.labels in
    subst (λ (p : Turn). IsAtTurn d p c.args.store.now.state) (sym c.turn_of.ensures ∙ c.in-Take.is) (at_turn says course d c.args.running.now u may)

pub take_entry-requires-clause-asked : goal.take_entry-requires-clause-asked
take_entry-requires-clause-asked g c = c.requires.may.may_turn.asked

pub returns-in-Take-clause-turned : goal.returns-in-Take-clause-turned
returns-in-Take-clause-turned g c =
    let says = g.M.MainTask.says in
    let course = g.H.HostWork.course in
    let d = c.args.component.now in
    let main = c.args.main.now in
    let may = c.requires.may in
    let u = at c.args.self.now main c.args.store.now c.args.trace.now.labels in
    let e = c.take_entry.ensures in
    gives says course d c.take_entry.result c.take_entry.new.running c.args.trace.now.spare u (at c.args.self.now main c.take_entry.new.store c.take_entry.new.trace.labels) c.make_room.new.self.labels c.in-Ok.ensures.labels
    (took says course d main c.args.self.now.trap_on_idle c.in-Take.ended (turn_of c.args.self.now.last) (sym c.turn_of.ensures ∙ c.in-Take.is) c.args.store.now c.take_entry.new.store c.make_room.new.self.labels c.take_entry.new.trace.labels c.take_entry.new.running c.args.running.now
    (subst (λ (ls : List Label). MayTurn says course d c.args.running.now (record u { trace = ls })) (sym c.in-Ok.ensures.labels) may)
    (λ u last. g.met.M.MainTask.stays main c.args.store.now.state u last) e.rest c.take_entry.result e.taken)

-- ---- What stays

pub returns-in-Main-clause-keeps : goal.returns-in-Main-clause-keeps
returns-in-Main-clause-keeps g c = record { script = c.step_main.ensures.script; idle = refl; constants = c.step_main.ensures.constants_stay }

pub returns-in-Futures-clause-keeps : goal.returns-in-Futures-clause-keeps
returns-in-Futures-clause-keeps g c = record { script = refl; idle = refl; constants = c.poll_work.ensures.constants_stay }

pub returns-in-Run-clause-keeps : goal.returns-in-Run-clause-keeps
returns-in-Run-clause-keeps g c = record { script = refl; idle = refl; constants = c.run_thread.ensures.constants_stay }

pub returns-in-Take-clause-keeps : goal.returns-in-Take-clause-keeps
returns-in-Take-clause-keeps g c = record { script = refl; idle = refl; constants = ap (λ (st : Store _ _ _). constants st) c.take_entry.ensures.rest }

-- the run isn't over
pub unreachable-requires : goal.unreachable-requires
unreachable-requires g c =
    let no = subst (λ (p : Turn). is_open p ≡ true) (sym c.turn_of.ensures ∙ c.in-Over.is) c.requires.may.unfinished in
    absurd (cc)

-- ---- There is no room for the label

pub returns-in_default-clause-turned : goal.returns-in_default-clause-turned
returns-in_default-clause-turned g c =
    let none = c.in_default.ensures.err in
    of_lost (inr (record { none = none.1; same = ap (λ (ts : Traced). at c.args.self.now c.args.main.now c.args.store.now ts.labels) none.0 }))

pub returns-in_default-clause-keeps : goal.returns-in_default-clause-keeps
returns-in_default-clause-keeps g c = record { script = refl; idle = refl; constants = refl }

pub returns-in_default-clause-spare : goal.returns-in_default-clause-spare
returns-in_default-clause-spare g c = let same = ap (λ (ts : Traced). ts.spare) c.in_default.ensures.err.0 in omega (arith, same)

pub returns-in-Main-clause-spare : goal.returns-in-Main-clause-spare
returns-in-Main-clause-spare g c = omega (arith, c.in-Ok.ensures.kept, c.step_main.ensures.spare)

pub returns-in-Futures-clause-spare : goal.returns-in-Futures-clause-spare
returns-in-Futures-clause-spare g c = omega (arith, c.in-Ok.ensures.kept, c.poll_work.ensures.spare)

pub returns-in-Run-clause-spare : goal.returns-in-Run-clause-spare
returns-in-Run-clause-spare g c = omega (arith, c.in-Ok.ensures.kept, c.run_thread.ensures.spare)

pub returns-in-Take-clause-spare : goal.returns-in-Take-clause-spare
returns-in-Take-clause-spare g c = omega (arith, c.in-Ok.ensures.kept, c.take_entry.ensures.spare)
