-- A poll of the last round finds another thread's abort, or the work pends.
use Rattle.std.proofs.Common.{ap, refl, subst, sym, ◌∙◌}
use Rattle.run_trace.specs.Traced.{Traced}
use Rattle.std.specs.Prelude.{Bool, List, None, Some, [], false, true, ℕ, ◌++◌, ◌∷◌, ◌≡◌}
use Rattle.machine_data.specs.declared.label.Label.{Label}
use Rattle.machine_data.specs.declared.label.Label.TheVariants as label
use Rattle.machine_data.specs.declared.label.LoopLabel.TheVariants as loop_label
use Rattle.machine_data.specs.declared.records.Turn.TheVariants as turn
use Rattle.machine_rules.specs.Works.{next_polled}
use Rattle.task_loop.proofs.BesideLemmas.{ends_last, pends_last}
use Rattle.task_loop.proofs.run.RunConcurrent.poll_last.Goals as goal
use Rattle.task_loop.specs.Beside.{HasAskedNext, MetAbort}
use Rattle.task_loop.specs.HasRun.{at}
use Rattle.task_loop.specs.declared.run.RunConcurrent.{RunConcurrent}
use Rattle.ops_turns.specs.StepResult.{turn_of}
use Rattle.ops_turns.specs.declared.made.StepResult.TheVariants as stepped

pub meet_abort-requires-clause-may : goal.meet_abort-requires-clause-may
meet_abort-requires-clause-may g c = let may_turn = c.requires.may.may.may_turn in record {
  order = may_turn.order;
  unfinished = c.requires.may.may.unfinished;
  apart = c.requires.may.apart;
  idle = may_turn.running ∙ c.requires.may.apart;
  hosts = may_turn.works;
}

pub meet_abort-requires-clause-knows : goal.meet_abort-requires-clause-knows
meet_abort-requires-clause-knows g c = c.requires.may.may.may_turn.knows

pub returns-in_default-clause-keeps : goal.returns-in_default-clause-keeps
returns-in_default-clause-keeps g c = record { script = refl; idle = ap (λ (r : RunConcurrent). r.trap_on_idle) c.meet_abort.ensures.rest; constants = c.meet_abort.ensures.constants_stay }

pub returns-then-met-clause-keeps : goal.returns-then-met-clause-keeps
returns-then-met-clause-keeps g c = record { script = refl; idle = ap (λ (r : RunConcurrent). r.trap_on_idle) c.meet_abort.ensures.rest; constants = c.meet_abort.ensures.constants_stay }

pub returns-then-met-clause-polls : goal.returns-then-met-clause-polls
returns-then-met-clause-polls g c =
    let course = g.H.HostWork.course in
    let k = c.args.component.now in
    let s = c.args.store.now in
    let new = c.meet_abort.new in
    let a = at c.args.self.now c.args.main.now s c.args.trace.now in
    let b = at (record new.self { last = stepped.Main }) c.args.main.now new.store new.trace in
    let met = subst (λ (t : Bool). MetAbort course k c.args.polled s (turn_of c.args.self.now.last) c.args.trace.now new.store (turn_of new.self.last) new.trace t) c.if-met.true c.in-Ok.ensures.met in
    let core = s.state.core in
    let was_asked = HasAskedNext g.B.Beside.polled core (next_polled c.args.polled core) c.args.main.now c.args.beside.now new.beside in
    let asks : was_asked true = subst was_asked c.if-met.true c.in-Ok.ensures.asked in
    ends_last g.M.MainTask.says course k (λ m v w. g.met.M.MainTask.stays m v w) a b c.requires.may.may refl c.args.polled was_asked asks met.0 met.1.0 (turn_of new.self.last) met.1.1.0 refl met.1.1.1

pub unreachable-requires : goal.unreachable-requires
unreachable-requires g c =
    let s = c.args.store.now in
    let new = c.meet_abort.new in
    let none = subst (λ (t : Bool). MetAbort g.H.HostWork.course c.args.component.now c.args.polled s (turn_of c.args.self.now.last) c.args.trace.now new.store (turn_of new.self.last) new.trace t) c.if-met.false c.in-Ok.ensures.met in
    let gone : None ≡ Some c.requires.may.number = c.in_default-next_polled.ensures ∙ (ap (λ t. next_polled c.args.polled t.state.core) none.0 ∙ c.requires.may.next) in
    absurd (cc)

pub returns-in_default-make_room-clause-keeps : goal.returns-in_default-make_room-clause-keeps
returns-in_default-make_room-clause-keeps g c = record { script = refl; idle = ap (λ (r : RunConcurrent). r.trap_on_idle) c.meet_abort.ensures.rest; constants = c.meet_abort.ensures.constants_stay }

pub returns-in_default-make_room-clause-err : goal.returns-in_default-make_room-clause-err
returns-in_default-make_room-clause-err g c =
    let s = c.args.store.now in
    let new = c.meet_abort.new in
    let none = subst (λ (t : Bool). MetAbort g.H.HostWork.course c.args.component.now c.args.polled s (turn_of c.args.self.now.last) c.args.trace.now new.store (turn_of new.self.last) new.trace t) c.if-met.false c.in-Ok.ensures.met in
    (c.in-Ok.ensures.unmet c.if-met.false, (none.0, ap (λ (ts : Traced). ts.labels) c.in_default-make_room.ensures.err.0 ∙ (c.trace.view_is ∙ none.1.1)))

pub returns-clause-keeps : goal.returns-clause-keeps
returns-clause-keeps g c = record { script = refl; idle = ap (λ (r : RunConcurrent). r.trap_on_idle) c.meet_abort.ensures.rest; constants = c.meet_abort.ensures.constants_stay }

pub returns-clause-polls : goal.returns-clause-polls
returns-clause-polls g c =
    let course = g.H.HostWork.course in
    let k = c.args.component.now in
    let s = c.args.store.now in
    let new = c.meet_abort.new in
    let i = c.work_number-number.result in
    let a = at c.args.self.now c.args.main.now s c.args.trace.now in
    let b = at new.self c.args.main.now new.store c.push.new.self.labels in
    let none = subst (λ (t : Bool). MetAbort course k c.args.polled s (turn_of c.args.self.now.last) c.args.trace.now new.store (turn_of new.self.last) new.trace t) c.if-met.false c.in-Ok.ensures.met in
    let next : next_polled c.args.polled s.state.core ≡ Some i = sym (ap (λ t. next_polled c.args.polled t.state.core) none.0) ∙ (sym c.in-Some.ensures ∙ ap (λ (n : ℕ). Some n) (sym c.work_number-number.ensures)) in
    let core = s.state.core in
    let was_asked = HasAskedNext g.B.Beside.polled core (next_polled c.args.polled core) c.args.main.now c.args.beside.now new.beside in
    let asks : was_asked false = subst was_asked c.if-met.false c.in-Ok.ensures.asked in
    pends_last g.M.MainTask.says course k (λ m v w. g.met.M.MainTask.stays m v w) a b c.requires.may.may refl c.args.polled was_asked asks i next none.0 none.1.0
    (ap (λ (ts : Traced). ts.labels) c.push.ensures ∙ ap (λ (ls : List Label). ls ++ label.Loop (loop_label.FuturePends i) ∷ []) (c.in-Ok-make_room.ensures.labels ∙ (c.trace.view_is ∙ none.1.1)))

pub returns-then-met-clause-rest : goal.returns-then-met-clause-rest
returns-then-met-clause-rest g c = ap (λ (r : RunConcurrent). record r { last = stepped.Main }) c.meet_abort.ensures.rest
