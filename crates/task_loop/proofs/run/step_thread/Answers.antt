-- A step that calls a host is made apart.
use Rattle.ops_dispatch.specs.Fits.{calls_host}
use Rattle.std.proofs.Common.{ap, arith, inl, refl, subst, sym, ◌∙◌}
use Rattle.std.specs.Prelude.{List, None, true, ◌≡◌}
use Rattle.task_loop.proofs.HoldLemmas.{held_run}
use Rattle.task_loop.proofs.run.step_thread.Goals as goal
use Rattle.ops_guests.specs.Works.{NamesTold}
use Rattle.task_loop.specs.Threads.{LacksThread, RunsThread, StepsWith}
use Rattle.machine_data.specs.declared.label.Label.{Label}
use Rattle.machine_data.specs.declared.statuses.HostPoll.TheVariants as host_poll
use Rattle.machine_rules.specs.Scripts.{op_of}
use Rattle.task_store.specs.Hosts.{held_by}
use Rattle.ops_turns.proofs.SteppedLemmas.{full_told, made_room}
use Rattle.ops_turns.specs.StepResult.{is_made}
use Rattle.run_trace.specs.Traced.{Traced}
use Rattle.core_primitives.specs.StateView.{StateView}

pub returns-clause-steps : goal.returns-clause-steps
returns-clause-steps g c made =
    let store = c.args.store.now in
    let t = c.step_run-stepped.new.w in
    let comp = c.args.component.now in
    let n = c.args.thread in
    let q = c.step_run-stepped.result in
    let ran = c.step_run-stepped.ensures.ran.made made in
    record {
      makes = (ran.0, (ran.1.0, ran.1.1.0));
      works = c.step_run-stepped.ensures.works (made_room q made);
      hosts = held_run host_poll.Pending comp n store.state t ran.0 None c.requires.runs.order ran.1.1.0.0 (inl ran.1.1.1) (held_by g.H.HostWork.course store) c.requires.runs.hosts (held_by g.H.HostWork.course store) (λ i. refl);
    }

pub returns-clause-full : goal.returns-clause-full
returns-clause-full g c unmade = full_told c.step_run-stepped.result c.in_default.not-Nothing unmade c.step_run-stepped.ensures.ran

-- ---- Where the op calls a host nothing is done before

pub call_host-requires-clause-runs : goal.call_host-requires-clause-runs
call_host-requires-clause-runs g c =
    let store = c.args.store.now in
    let comp = c.args.component.now in
    let n = c.args.thread in
    let same = c.step_run-stepped.ensures.ran.nothing c.in-Nothing.is in
    subst (λ (v : StateView). RunsThread g.H.HostWork.course comp n (record store { state = v })) (sym same.0.0) c.requires.runs

pub call_host-requires-clause-calls : goal.call_host-requires-clause-calls
call_host-requires-clause-calls g c =
    let comp = c.args.component.now in
    let n = c.args.thread in
    let same = c.step_run-stepped.ensures.ran.nothing c.in-Nothing.is in
    subst (λ (v : StateView). calls_host (op_of comp n v.core) ≡ true) (sym same.0.0) same.0.1

pub returns-in-Nothing-clause-steps : goal.returns-in-Nothing-clause-steps
returns-in-Nothing-clause-steps g c made =
    let store = c.args.store.now in
    let course = g.H.HostWork.course in
    let comp = c.args.component.now in
    let n = c.args.thread in
    let mid = c.step_run-stepped.new.trace.labels in
    let after = c.call_host.new.trace in
    let same = c.step_run-stepped.ensures.ran.nothing c.in-Nothing.is in
    let q = c.call_host.result in
    subst (λ (l : List Label). StepsWith NamesTold course comp n store q c.call_host.new.store l after.labels) same.1
    (subst (λ (v : StateView). StepsWith NamesTold course comp n (record store { state = v }) q c.call_host.new.store mid after.labels) same.0.0 (c.call_host.ensures.steps made))

pub returns-in-Nothing-clause-full : goal.returns-in-Nothing-clause-full
returns-in-Nothing-clause-full g c unmade =
    let same = c.step_run-stepped.ensures.ran.nothing c.in-Nothing.is in
    let full = c.call_host.ensures.full unmade in
    (full.0, full.1 ∙ same.1)

-- ---- It is out of memory

pub returns-clause-lacks : goal.returns-clause-lacks
returns-clause-lacks g c unmade =
    let full = full_told c.step_run-stepped.result c.in_default.not-Nothing unmade c.step_run-stepped.ensures.ran in
    let wants = c.step_run-stepped.ensures.full full.0 in
    record { trace = full.1; listeners = refl; tracked = ap (λ (v : StateView). v.tags.tracked) wants.1; wants = wants.0; same = λ plain. wants.1 }

pub returns-in-Nothing-clause-lacks : goal.returns-in-Nothing-clause-lacks
returns-in-Nothing-clause-lacks g c unmade =
    let store = c.args.store.now in
    let comp = c.args.component.now in
    let n = c.args.thread in
    let after = c.call_host.new.trace.labels in
    let same = c.step_run-stepped.ensures.ran.nothing c.in-Nothing.is in
    subst (λ (l : List Label). LacksThread comp n store c.call_host.new.store l after) same.1
    (subst (λ (v : StateView). LacksThread comp n (record store { state = v }) c.call_host.new.store c.step_run-stepped.new.trace.labels after) same.0.0 (c.call_host.ensures.lacks unmade))

-- ---- The room that is left

pub call_host-requires-clause-room : goal.call_host-requires-clause-room
call_host-requires-clause-room g c = rw (c.step_run-stepped.ensures.spare.unmade (ap is_made c.in-Nothing.is)) c.requires.room

pub returns-clause-spare : goal.returns-clause-spare
returns-clause-spare g c = c.step_run-stepped.ensures.spare.most

pub returns-in-Nothing-clause-spare : goal.returns-in-Nothing-clause-spare
returns-in-Nothing-clause-spare g c =
    let still = ap (λ (ts : Traced). ts.spare) (c.step_run-stepped.ensures.spare.unmade (ap is_made c.in-Nothing.is)) in
    omega (arith, still, c.call_host.ensures.spare)
