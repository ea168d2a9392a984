-- A step is one that was found beside the run, or one of the machine's own.
use Rattle.std.proofs.Common.{ap, inl, refl, subst, sym, ◌∙◌}
use Rattle.std.specs.Prelude.{Bool, List, Option, [], false, true, ℕ, ◌++◌, ◌∷◌, ◌≡◌}
use Rattle.machine_data.specs.declared.label.Label.{Label}
use Rattle.run_trace.specs.Traced.{Traced}
use Rattle.laws_beside.specs.Wide.{requested}
use Rattle.machine_data.specs.declared.label.Label.TheVariants as label
use Rattle.machine_data.specs.declared.label.LoopLabel.TheVariants as loop_label
use Rattle.machine_data.specs.declared.records.Turn.{Turn}
use Rattle.machine_data.specs.declared.records.Turn.TheVariants as turn
use Rattle.ops_turns.specs.Turn.{runs_in}
use Rattle.run_trace.specs.declared.yield_budget.YieldBudget.{YieldBudget}
use Rattle.task_loop.proofs.BesideLemmas.{abort_met, all_stays, as_before, asked_else, asked_main, drives_beside, main_stays, request_met}
use Rattle.task_loop.proofs.run.RunConcurrent.step_beside.Goals as goal
use Rattle.machine_rules.specs.Works.{next_polled}
use Rattle.task_loop.specs.Beside.{HasAskedAt, HasAskedNext, HasFound, MetAbort, StepsBeside}
use Rattle.task_loop.specs.HasRun.{Keeps, MayRun, at}
use Rattle.task_loop.specs.declared.run.RunConcurrent.{RunConcurrent}
use Rattle.ops_turns.specs.StepResult.{turn_of}

pub turns-requires : goal.turns-requires
turns-requires g c = c.requires.may.may_turn.knows

pub returns-in_default-turns-clause-keeps : goal.returns-in_default-turns-clause-keeps
returns-in_default-turns-clause-keeps g c = record { script = c.turns.ensures.script; idle = refl; constants = refl }

pub returns-in_default-turns-clause-steps : goal.returns-in_default-turns-clause-steps
returns-in_default-turns-clause-steps g c =
    let labels : c.make_room.new.self.labels ≡ c.args.trace.now = c.make_room.ensures.labels ∙ c.trace.view_is in
    let a = at c.args.self.now c.args.main.now c.args.store.now c.args.trace.now in
    inl (ap (λ (ls : List Label). at c.args.self.now c.turns.new.main c.args.store.now ls) labels ∙ main_stays a c.turns.new.main c.in_default-turns.ensures.err, refl)

pub returns-in_default-make_room-clause-keeps : goal.returns-in_default-make_room-clause-keeps
returns-in_default-make_room-clause-keeps g c = record { script = refl; idle = refl; constants = refl }

pub returns-in_default-make_room-clause-steps : goal.returns-in_default-make_room-clause-steps
returns-in_default-make_room-clause-steps g c =
    let labels : c.make_room.new.self.labels ≡ c.args.trace.now = c.make_room.ensures.labels ∙ c.trace.view_is in
    inl (ap (λ (ls : List Label). at c.args.self.now c.args.main.now c.args.store.now ls) labels, refl)

pub returns-in-Some-clause-keeps : goal.returns-in-Some-clause-keeps
returns-in-Some-clause-keeps g c = record { script = c.turns.ensures.script; idle = refl; constants = refl }

pub returns-in-Some-clause-steps : goal.returns-in-Some-clause-steps
returns-in-Some-clause-steps g c =
    let says = g.M.MainTask.says in
    let m = c.args.main.now in
    let n = c.turns.new.main in
    let s = c.args.store.now in
    let a = at c.args.self.now m s c.args.trace.now in
    let b = at c.args.self.now n s c.push.new.self.labels in
    let passed = subst (λ (o : Option ℕ). HasFound says o m n s.state) c.in-Some.is c.in-Ok-turns.ensures.found in
    let labels : c.make_room.new.self.labels ≡ c.args.trace.now = c.make_room.ensures.labels ∙ c.trace.view_is in
    let asks = asked_main g.B.Beside.polled g.B.Beside.turned (turn_of c.args.self.now.last) s.state.core m c.args.beside.now c.turns.new.self (sym c.turn_of.ensures ∙ c.in-Main.is) c.in-Ok-turns.ensures.turned true in
    let added = ap (λ (ts : Traced). ts.labels) c.push.ensures ∙ ap (λ (ls : List Label). ls ++ requested c.in-Some.spawn ∷ []) labels in
    (true, (asks, (refl, (requested c.in-Some.spawn, (request_met says g.H.HostWork.course c.args.component.now a b c.requires.may c.in-Some.spawn (sym c.turn_of.ensures ∙ c.in-Main.is) passed refl refl added, refl)))))

pub drive-requires : goal.drive-requires
drive-requires g c =
    let says = g.M.MainTask.says in
    let a = at c.args.self.now c.args.main.now c.args.store.now c.args.trace.now in
    let stays : c.turns.new.main ≡ c.args.main.now = subst (λ (o : Option ℕ). HasFound says o c.args.main.now c.turns.new.main c.args.store.now.state) c.in-None.is c.in-Ok-turns.ensures.found in
    let labels : c.make_room.new.self.labels ≡ c.args.trace.now = c.make_room.ensures.labels ∙ c.trace.view_is in
    let same = ap (λ (ls : List Label). at c.args.self.now c.turns.new.main c.args.store.now ls) labels ∙ main_stays a c.turns.new.main stays in
    record { may = subst (λ q. MayRun says g.H.HostWork.course c.args.component.now q) (sym same) c.requires.may }

pub returns-in-None-clause-keeps : goal.returns-in-None-clause-keeps
returns-in-None-clause-keeps g c =
    let says = g.M.MainTask.says in
    let a = at c.args.self.now c.args.main.now c.args.store.now c.args.trace.now in
    let stays : c.turns.new.main ≡ c.args.main.now = subst (λ (o : Option ℕ). HasFound says o c.args.main.now c.turns.new.main c.args.store.now.state) c.in-None.is c.in-Ok-turns.ensures.found in
    let labels : c.make_room.new.self.labels ≡ c.args.trace.now = c.make_room.ensures.labels ∙ c.trace.view_is in
    let same = ap (λ (ls : List Label). at c.args.self.now c.turns.new.main c.args.store.now ls) labels ∙ main_stays a c.turns.new.main stays in
    subst (λ q. Keeps says q (at c.drive.new.self c.drive.new.main c.drive.new.store c.drive.new.trace)) same c.drive.ensures.keeps

pub returns-in-None-clause-steps : goal.returns-in-None-clause-steps
returns-in-None-clause-steps g c =
    let says = g.M.MainTask.says in
    let course = g.H.HostWork.course in
    let k = c.args.component.now in
    let listens = g.G.TaskGroupHook.listens in
    let a = at c.args.self.now c.args.main.now c.args.store.now c.args.trace.now in
    let b = at c.drive.new.self c.drive.new.main c.drive.new.store c.drive.new.trace in
    let y = c.args.self.now.yield_budget in
    let z = c.drive.new.self.yield_budget in
    let stays : c.turns.new.main ≡ c.args.main.now = subst (λ (o : Option ℕ). HasFound says o c.args.main.now c.turns.new.main c.args.store.now.state) c.in-None.is c.in-Ok-turns.ensures.found in
    let was_asked = HasAskedAt g.B.Beside.polled g.B.Beside.turned (turn_of c.args.self.now.last) c.args.store.now.state.core c.args.main.now c.args.beside.now c.turns.new.self in
    let asks = asked_main g.B.Beside.polled g.B.Beside.turned (turn_of c.args.self.now.last) c.args.store.now.state.core c.args.main.now c.args.beside.now c.turns.new.self (sym c.turn_of.ensures ∙ c.in-Main.is) c.in-Ok-turns.ensures.turned false in
    let labels : c.make_room.new.self.labels ≡ c.args.trace.now = c.make_room.ensures.labels ∙ c.trace.view_is in
    let same = ap (λ (ls : List Label). at c.args.self.now c.turns.new.main c.args.store.now ls) labels ∙ main_stays a c.turns.new.main stays in
    subst (λ q. StepsBeside says course k was_asked listens c.drive.result y q b z) same
    (drives_beside says course k was_asked asks listens c.drive.result y (at c.args.self.now c.turns.new.main c.args.store.now c.make_room.new.self.labels) b z c.drive.ensures.drives)

pub meet_abort-requires-clause-may : goal.meet_abort-requires-clause-may
meet_abort-requires-clause-may g c = let may_turn = c.requires.may.may_turn in record {
  order = may_turn.order;
  unfinished = c.requires.may.unfinished;
  apart = ap runs_in (sym c.turn_of.ensures ∙ c.in-Futures.is);
  idle = may_turn.running ∙ ap runs_in (sym c.turn_of.ensures ∙ c.in-Futures.is);
  hosts = may_turn.works;
}

pub meet_abort-requires-clause-knows : goal.meet_abort-requires-clause-knows
meet_abort-requires-clause-knows g c = c.requires.may.may_turn.knows

pub returns-in_default-meet_abort-clause-keeps : goal.returns-in_default-meet_abort-clause-keeps
returns-in_default-meet_abort-clause-keeps g c = record { script = refl; idle = ap (λ (r : RunConcurrent). r.trap_on_idle) c.meet_abort.ensures.rest; constants = c.meet_abort.ensures.constants_stay }

pub returns-in_default-meet_abort-clause-steps : goal.returns-in_default-meet_abort-clause-steps
returns-in_default-meet_abort-clause-steps g c =
    let new = c.meet_abort.new in
    inl (as_before c.args.self.now new.self c.args.main.now c.args.store.now new.store c.args.trace.now new.trace c.in_default-meet_abort.ensures.err)

pub returns-then-met-clause-keeps : goal.returns-then-met-clause-keeps
returns-then-met-clause-keeps g c = record { script = refl; idle = ap (λ (r : RunConcurrent). r.trap_on_idle) c.meet_abort.ensures.rest; constants = c.meet_abort.ensures.constants_stay }

pub returns-then-met-clause-steps : goal.returns-then-met-clause-steps
returns-then-met-clause-steps g c =
    let says = g.M.MainTask.says in
    let course = g.H.HostWork.course in
    let k = c.args.component.now in
    let s = c.args.store.now in
    let new = c.meet_abort.new in
    let a = at c.args.self.now c.args.main.now s c.args.trace.now in
    let b = at new.self c.args.main.now new.store new.trace in
    let met = subst (λ (t : Bool). MetAbort course k c.in-Futures.polled s (turn_of c.args.self.now.last) c.args.trace.now new.store (turn_of new.self.last) new.trace t) c.if-met.true c.in-Ok-meet_abort.ensures.met in
    let core = s.state.core in
    let at_turn : turn_of c.args.self.now.last ≡ turn.Futures c.in-Futures.polled = sym c.turn_of.ensures ∙ c.in-Futures.is in
    let asks : HasAskedAt g.B.Beside.polled g.B.Beside.turned (turn_of c.args.self.now.last) core c.args.main.now c.args.beside.now new.beside true =
    subst (λ (u : Turn). HasAskedAt g.B.Beside.polled g.B.Beside.turned u core c.args.main.now c.args.beside.now new.beside true) (sym at_turn)
    (subst (λ (t : Bool). HasAskedNext g.B.Beside.polled core (next_polled c.in-Futures.polled core) c.args.main.now c.args.beside.now new.beside t) c.if-met.true c.in-Ok-meet_abort.ensures.asked) in (
      true,
      (
        asks,
        (
          refl,
          (
            label.Loop (loop_label.FutureAborted met.0.number),
            (
              abort_met says course k (λ m v w. g.met.M.MainTask.stays m v w) a b c.requires.may refl c.in-Futures.polled met.0 met.1.0 at_turn met.1.1.0 met.1.1.1,
              ap (λ (r : RunConcurrent). r.yield_budget) c.meet_abort.ensures.rest,
            ),
          ),
        ),
      ),
    )

pub drive-requires-in-Futures : goal.drive-requires-in-Futures
drive-requires-in-Futures g c =
    let says = g.M.MainTask.says in
    let course = g.H.HostWork.course in
    let k = c.args.component.now in
    let s = c.args.store.now in
    let new = c.meet_abort.new in
    let a = at c.args.self.now c.args.main.now s c.args.trace.now in
    let none = subst (λ (t : Bool). MetAbort course k c.in-Futures.polled s (turn_of c.args.self.now.last) c.args.trace.now new.store (turn_of new.self.last) new.trace t) c.if-met.false c.in-Ok-meet_abort.ensures.met in
    let same = ap (λ (r : RunConcurrent). at r c.args.main.now new.store new.trace) c.meet_abort.ensures.rest ∙ all_stays a new.store (turn_of new.self.last) new.trace none.0 none.1.0 none.1.1 in
    record { may = subst (λ q. MayRun says course k q) (sym same) c.requires.may }

pub returns-else-met-clause-keeps : goal.returns-else-met-clause-keeps
returns-else-met-clause-keeps g c =
    let says = g.M.MainTask.says in
    let course = g.H.HostWork.course in
    let k = c.args.component.now in
    let s = c.args.store.now in
    let new = c.meet_abort.new in
    let last = c.drive-in-Futures.new in
    let a = at c.args.self.now c.args.main.now s c.args.trace.now in
    let none = subst (λ (t : Bool). MetAbort course k c.in-Futures.polled s (turn_of c.args.self.now.last) c.args.trace.now new.store (turn_of new.self.last) new.trace t) c.if-met.false c.in-Ok-meet_abort.ensures.met in
    let same = ap (λ (r : RunConcurrent). at r c.args.main.now new.store new.trace) c.meet_abort.ensures.rest ∙ all_stays a new.store (turn_of new.self.last) new.trace none.0 none.1.0 none.1.1 in
    subst (λ q. Keeps says q (at last.self last.main last.store last.trace)) same c.drive-in-Futures.ensures.keeps

pub returns-else-met-clause-steps : goal.returns-else-met-clause-steps
returns-else-met-clause-steps g c =
    let says = g.M.MainTask.says in
    let course = g.H.HostWork.course in
    let k = c.args.component.now in
    let listens = g.G.TaskGroupHook.listens in
    let s = c.args.store.now in
    let new = c.meet_abort.new in
    let last = c.drive-in-Futures.new in
    let r = c.drive-in-Futures.result in
    let a = at c.args.self.now c.args.main.now s c.args.trace.now in
    let mid = at new.self c.args.main.now new.store new.trace in
    let b = at last.self last.main last.store last.trace in
    let z = last.self.yield_budget in
    let none = subst (λ (t : Bool). MetAbort course k c.in-Futures.polled s (turn_of c.args.self.now.last) c.args.trace.now new.store (turn_of new.self.last) new.trace t) c.if-met.false c.in-Ok-meet_abort.ensures.met in
    let same = ap (λ (q : RunConcurrent). at q c.args.main.now new.store new.trace) c.meet_abort.ensures.rest ∙ all_stays a new.store (turn_of new.self.last) new.trace none.0 none.1.0 none.1.1 in
    let core = s.state.core in
    let at_turn : turn_of c.args.self.now.last ≡ turn.Futures c.in-Futures.polled = sym c.turn_of.ensures ∙ c.in-Futures.is in
    let was_asked = HasAskedAt g.B.Beside.polled g.B.Beside.turned (turn_of c.args.self.now.last) c.args.store.now.state.core c.args.main.now c.args.beside.now new.beside in
    let asks : was_asked false =
    subst (λ (u : Turn). HasAskedAt g.B.Beside.polled g.B.Beside.turned u core c.args.main.now c.args.beside.now new.beside false) (sym at_turn)
    (subst (λ (t : Bool). HasAskedNext g.B.Beside.polled core (next_polled c.in-Futures.polled core) c.args.main.now c.args.beside.now new.beside t) c.if-met.false c.in-Ok-meet_abort.ensures.asked) in
    subst (λ q. StepsBeside says course k was_asked listens r c.args.self.now.yield_budget q b z) same
    (subst (λ (y : YieldBudget). StepsBeside says course k was_asked listens r y mid b z) (ap (λ (q : RunConcurrent). q.yield_budget) c.meet_abort.ensures.rest)
    (drives_beside says course k was_asked asks listens r new.self.yield_budget mid b z c.drive-in-Futures.ensures.drives))

pub drive-requires-in_default : goal.drive-requires-in_default
drive-requires-in_default g c = record { may = c.requires.may }

pub returns-in_default : goal.returns-in_default
returns-in_default g c =
    let a = at c.args.self.now c.args.main.now c.args.store.now c.args.trace.now in
    let last = c.drive-in_default.new in
    let was_asked = HasAskedAt g.B.Beside.polled g.B.Beside.turned (turn_of c.args.self.now.last) c.args.store.now.state.core c.args.main.now c.args.beside.now c.args.beside.now in
    let asks : was_asked false =
    subst (λ (u : Turn). HasAskedAt g.B.Beside.polled g.B.Beside.turned u c.args.store.now.state.core c.args.main.now c.args.beside.now c.args.beside.now false) c.turn_of.ensures
    (asked_else g.B.Beside.polled g.B.Beside.turned c.turn_of.result c.args.store.now.state.core c.args.main.now c.args.beside.now c.in_default.not-Main c.in_default.not-Futures false) in
    record {
      keeps = c.drive-in_default.ensures.keeps;
      beside = g.B.Beside.same c.args.beside.now;
      steps = drives_beside g.M.MainTask.says g.H.HostWork.course c.args.component.now was_asked asks g.G.TaskGroupHook.listens c.drive-in_default.result c.args.self.now.yield_budget a
          (at last.self last.main last.store last.trace) last.self.yield_budget c.drive-in_default.ensures.drives;
    }
