-- The work that another thread has aborted is aborted in the core, and polled: so it ends.
use Rattle.std.proofs.Common.{ap, refl, subst, sym, ◌∙◌}
use Rattle.machine_data.specs.declared.label.Label.{Label}
use Rattle.run_trace.specs.Traced.{Traced}
use Rattle.std.specs.Prelude.{Bool, IfSome, List, Option, Some, [], false, is_some, true, ℕ, ◌++◌, ◌∷◌, ◌≡◌}
use Rattle.laws_beside.specs.Wide.{is_running}
use Rattle.machine_data.specs.Core.{Unscripted}
use Rattle.machine_data.specs.Read.{phase_of}
use Rattle.machine_data.specs.declared.label.Label.TheVariants as label
use Rattle.machine_data.specs.declared.label.LoopLabel.TheVariants as loop_label
use Rattle.machine_rules.specs.Works.{next_polled}
use Rattle.machine_data.specs.declared.records.Turn.{Turn}
use Rattle.ops_turns.specs.StepResult.{turn_of}
use Rattle.ops_turns.specs.Turn.{running_of}
use Rattle.task_loop.proofs.BesideLemmas.{ended_aborted, none_found, not_running, settled_still}
use Rattle.task_loop.proofs.IdleLemmas.{none_current}
use Rattle.task_loop.proofs.run.RunConcurrent.meet_abort.Goals as goal
use Rattle.task_loop.specs.Beside.{HasAskedNext, HasEndedAborted, IsFound, IsNextAborted}
use Rattle.task_loop.specs.Constants.{constants}
use Rattle.task_store.specs.declared.spawn.SpawnHandle.{SpawnHandle}

pub returns-in_default-clause-keeps : goal.returns-in_default-clause-keeps
returns-in_default-clause-keeps g c = g.B.Beside.same c.args.beside.now

pub polls-requires : goal.polls-requires
polls-requires g c = c.requires.knows

pub polls-requires-2 : goal.polls-requires-2
polls-requires-2 g c = c.requires.knows

pub returns-in_default-make_room-clause-err : goal.returns-in_default-make_room-clause-err
returns-in_default-make_room-clause-err g c = (refl, (refl, rw (← c.trace.view_is) (ap (λ (ts : Traced). ts.labels) c.in_default-make_room.ensures.err.0)))

pub abort-phase-requires-clause-spawned : goal.abort-phase-requires-clause-spawned
abort-phase-requires-clause-spawned g c =
    let s = c.args.store.now.state in
    let found : IsFound c.work_number-number.result true c.in-Some-found.work s = subst (λ (o : Option SpawnHandle). IfSome o (λ w. IsFound c.work_number-number.result true w s)) c.in-Some-found.is c.in-Ok-polls.ensures.found in
    found.0

pub abort-phase-requires-clause-hosts : goal.abort-phase-requires-clause-hosts
abort-phase-requires-clause-hosts g c = c.requires.may.hosts

pub poll_next-made-requires-clause-may : goal.poll_next-made-requires-clause-may
poll_next-made-requires-clause-may g c =
    let s = c.args.store.now.state in
    let t = c.abort-phase.new.store.state in
    let h = c.in-Some-found.work in
    let i = c.work_number-number.result in
    let order = (c.abort-phase.ensures.order c.args.component.now (turn_of c.args.self.now.last) c.requires.may.order).order Unscripted in
    let found : IsFound i true h s = subst (λ (o : Option SpawnHandle). IfSome o (λ w. IsFound i true w s)) c.in-Some-found.is c.in-Ok-polls.ensures.found in
    let at : next_polled c.args.polled s.core ≡ Some h.number = sym c.in-Some.ensures ∙ ap (λ (n : ℕ). Some n) (sym (found.1.0 ∙ c.work_number-number.ensures)) in
    let runs : is_running (phase_of h.number s.core) ≡ true =
    ap (λ (n : ℕ). is_running (phase_of n s.core)) (found.1.0 ∙ c.work_number-number.ensures) ∙ ap is_running (sym c.phase.ensures ∙ c.in-Running.is) in
    record {
      placed = order.in_place.placed;
      works = order.works;
      current = none_current t (ap (λ u. running_of u.state) c.abort-phase.ensures.state ∙ c.requires.may.idle);
      settled = settled_still c.args.polled h s t (ap (λ u. u.state) c.abort-phase.ensures.state) (found.0, (at, runs));
    }

pub returns-clause-constants_stay : goal.returns-clause-constants_stay
returns-clause-constants_stay g c = ap constants c.poll_next-made.ensures.rest ∙ ap constants c.abort-phase.ensures.state

pub returns-clause-met : goal.returns-clause-met
returns-clause-met g c =
    let s = c.args.store.now in
    let h = c.in-Some-found.work in
    let i = c.work_number-number.result in
    let found : IsFound i true h s.state = subst (λ (o : Option SpawnHandle). IfSome o (λ w. IsFound i true w s.state)) c.in-Some-found.is c.in-Ok-polls.ensures.found in
    let at : next_polled c.args.polled s.state.core ≡ Some h.number = sym c.in-Some.ensures ∙ ap (λ (n : ℕ). Some n) (sym (found.1.0 ∙ c.work_number-number.ensures)) in
    let runs : is_running (phase_of h.number s.state.core) ≡ true =
    ap (λ (n : ℕ). is_running (phase_of n s.state.core)) (found.1.0 ∙ c.work_number-number.ensures) ∙ ap is_running (sym c.phase.ensures ∙ c.in-Running.is) in
    let next : IsNextAborted c.args.polled h s.state = (found.0, (at, runs)) in
    let ended = ended_aborted g.H.HostWork.course c.args.component.now (turn_of c.args.self.now.last) c.args.polled h s c.abort-phase.new.store c.poll_next-made.new.self c.poll_next-made.result c.requires.may next c.abort-phase.ensures.state
    (λ q order. c.abort-phase.ensures.order c.args.component.now q order) c.poll_next-made.ensures.turns c.poll_next-made.ensures.works c.poll_next-made.ensures.hosts (ap (λ t. t.listeners) c.poll_next-made.ensures.rest) in
    let added = c.put-self.ensures.in_trace in
    rw (← c.trace.view_is) (
      h,
      (
        next,
        (
          subst (λ (q : Turn). HasEndedAborted g.H.HostWork.course c.args.component.now h.number s c.poll_next-made.new.self q) added.1 ended,
          added.0 ∙ (ap (λ (ls : List Label). ls ++ label.Loop (loop_label.FutureAborted i) ∷ []) c.in-Ok-make_room.ensures.labels ∙ ap (λ (n : ℕ). c.trace.inside.labels.labels ++ label.Loop (loop_label.FutureAborted n) ∷ []) (sym found.1.0)),
        ),
      ),
    )

pub returns-in_default-clause-asked : goal.returns-in_default-clause-asked
returns-in_default-clause-asked g c =
    subst (λ (o : Option ℕ). HasAskedNext g.B.Beside.polled c.args.store.now.state.core o c.args.main.now c.args.beside.now c.args.beside.now false) c.in_default.ensures refl

pub returns-in_default-phase-clause-asked : goal.returns-in_default-phase-clause-asked
returns-in_default-phase-clause-asked g c =
    let core = c.args.store.now.state.core in
    let i = c.work_number-number.result in
    let next = sym c.in-Some.ensures ∙ ap (λ (n : ℕ). Some n) (sym c.work_number-number.ensures) in
    let runs : is_running (phase_of i core) ≡ false =
    ap (λ (n : ℕ). is_running (phase_of n core)) c.work_number-number.ensures ∙ (ap is_running (sym c.phase.ensures) ∙ not_running c.phase.result c.in_default-phase.not-Running) in
    subst (λ (o : Option ℕ). HasAskedNext g.B.Beside.polled core o c.args.main.now c.args.beside.now c.polls.new.self false) (sym next)
    (subst (λ (b : Bool). g.B.Beside.polled i b false c.args.main.now c.args.beside.now c.polls.new.self) (sym runs)
    (subst (λ (b : Bool). g.B.Beside.polled i false b c.args.main.now c.args.beside.now c.polls.new.self)
    (none_found i false c.in-Ok.field-0 c.args.store.now.state refl c.in-Ok.ensures.found) c.in-Ok.ensures.polled))

pub returns-in_default-found-clause-asked : goal.returns-in_default-found-clause-asked
returns-in_default-found-clause-asked g c =
    let core = c.args.store.now.state.core in
    let i = c.work_number-number.result in
    let next = sym c.in-Some.ensures ∙ ap (λ (n : ℕ). Some n) (sym c.work_number-number.ensures) in
    let runs : is_running (phase_of i core) ≡ true = ap (λ (n : ℕ). is_running (phase_of n core)) c.work_number-number.ensures ∙ ap is_running (sym c.phase.ensures ∙ c.in-Running.is) in
    subst (λ (o : Option ℕ). HasAskedNext g.B.Beside.polled core o c.args.main.now c.args.beside.now c.polls-2.new.self false) (sym next)
    (subst (λ (b : Bool). g.B.Beside.polled i b false c.args.main.now c.args.beside.now c.polls-2.new.self) (sym runs)
    (subst (λ (o : Option SpawnHandle). g.B.Beside.polled i true (is_some o) c.args.main.now c.args.beside.now c.polls-2.new.self) c.in_default-found.is c.in-Ok-polls.ensures.polled))

pub returns-clause-asked : goal.returns-clause-asked
returns-clause-asked g c =
    let core = c.args.store.now.state.core in
    let i = c.work_number-number.result in
    let next = sym c.in-Some.ensures ∙ ap (λ (n : ℕ). Some n) (sym c.work_number-number.ensures) in
    let runs : is_running (phase_of i core) ≡ true = ap (λ (n : ℕ). is_running (phase_of n core)) c.work_number-number.ensures ∙ ap is_running (sym c.phase.ensures ∙ c.in-Running.is) in
    subst (λ (o : Option ℕ). HasAskedNext g.B.Beside.polled core o c.args.main.now c.args.beside.now c.polls-2.new.self true) (sym next)
    (subst (λ (b : Bool). g.B.Beside.polled i b true c.args.main.now c.args.beside.now c.polls-2.new.self) (sym runs)
    (subst (λ (o : Option SpawnHandle). g.B.Beside.polled i true (is_some o) c.args.main.now c.args.beside.now c.polls-2.new.self) c.in-Some-found.is c.in-Ok-polls.ensures.polled))
