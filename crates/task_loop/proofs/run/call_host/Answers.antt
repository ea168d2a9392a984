-- A host that the thread called is held.
use Rattle.store_works.specs.Course.{one_fewer}
use Rattle.store_works.specs.KeptWorks.{held}
use Rattle.std.proofs.Common.{ap, arith, refl, sym, ◌∙◌}
use Rattle.std.specs.Prelude.{None, Option, Some, option_map, ℕ, ◌≡◌}
use Rattle.machine_data.specs.declared.component.HostDef.{HostDef}
use Rattle.machine_rules.specs.Scripts.{op_of}
use Rattle.task_loop.proofs.HoldLemmas.{calls_takes, held_run}
use Rattle.task_loop.proofs.run.call_host.Goals as goal
use Rattle.task_loop.specs.Threads.{StepsUntold}
use Rattle.task_store.specs.Hosts.{held_after_call, held_by}
use Rattle.core_primitives.specs.StateView.{StateView, work_of}

-- what is left of the host that was polled
fewer_of : (o : Option (ℕ × HostDef)) → option_map (λ (h : ℕ × HostDef). one_fewer h.1) o ≡ option_map one_fewer (option_map (λ (h : ℕ × HostDef). h.1) o)
fewer_of None = refl
fewer_of (Some h) = refl

-- what was held before is held while the host is polled
pub step_call-requires-clause-order : goal.step_call-requires-clause-order
step_call-requires-clause-order g c = rw c.first_called-called.ensures.rest c.requires.runs.order

pub step_call-requires-clause-runs : goal.step_call-requires-clause-runs
step_call-requires-clause-runs g c = rw c.first_called-called.ensures.rest c.requires.runs.current

pub step_call-requires-clause-calls : goal.step_call-requires-clause-calls
step_call-requires-clause-calls g c = rw c.first_called-called.ensures.rest c.requires.calls

pub step_call-requires-clause-few : goal.step_call-requires-clause-few
step_call-requires-clause-few g c = rw c.first_called-called.ensures.rest (let few = c.requires.runs.few in omega (arith, few))

pub returns-clause-steps : goal.returns-clause-steps
returns-clause-steps g c made =
    let store = c.args.store.now in
    let course = g.H.HostWork.course in
    let polled = c.first_called-called.new.self in
    let t = c.step_call.new.w in
    let comp = c.args.component.now in
    let n = c.args.thread in
    let before = c.args.trace.now in
    let after = c.put.new.trace in
    let did = c.in-Ok.stepped.0 in
    let ran = rw c.first_called-called.ensures.rest at c.in-Ok.ensures.ran in
    let works = rw c.first_called-called.ensures.rest at c.in-Ok.ensures.works in
    let held_then = rw c.first_called-called.ensures.rest at c.in-Ok-hold_called.ensures.held in
    let steps : StepsUntold course comp n store c.put.result (record store { value = polled.value; state = t; works = c.hold_called.new.self.works }) before after = record {
      makes = (did, (c.put.ensures.in_trace, ran.0));
      works = works;
      hosts = held_run c.first_called-called.result.1 comp n store.state t did c.in-Ok.stepped.1 c.requires.runs.order ran.0.0 ran.1 (held_by course store) c.requires.runs.hosts (held course c.hold_called.new.self.works)
          (λ i. held_then i ∙ ap (λ (o : Option HostDef). held_after_call (option_map (λ id. work_of t id) c.in-Ok.stepped.1) o (held_by course store) i) (c.first_called-called.ensures.left ∙ (fewer_of c.host_called-host.result ∙ ap (option_map one_fewer) c.host_called-host.ensures)));
    } in
    rw (c.in-Ok-hold_called.ensures.rest, c.first_called-called.ensures.rest) steps

-- ---- It is out of memory, for the op or for the work that it made

pub returns-in_default-clause-lacks : goal.returns-in_default-clause-lacks
returns-in_default-clause-lacks g c unmade =
    let wants = rw c.first_called-called.ensures.rest at c.in_default.ensures.err in
    rw c.first_called-called.ensures.rest
    (record { trace = refl; listeners = refl; tracked = ap (λ (v : StateView). v.tags.tracked) wants.1; wants = wants.0; same = λ plain. wants.1 })

pub returns-in_default-hold_called-clause-lacks : goal.returns-in_default-hold_called-clause-lacks
returns-in_default-hold_called-clause-lacks g c unmade =
    let works = rw c.first_called-called.ensures.rest at c.in-Ok.ensures.works in
    rw (c.in_default-hold_called.ensures.rest, c.first_called-called.ensures.rest)
    (record { trace = refl; listeners = refl; tracked = works.1; wants = calls_takes (op_of c.args.component.now c.args.thread c.args.store.now.state.core) c.requires.calls; same = λ plain. absurd (let no = sym plain ∙ c.requires.calls in cc) })

pub returns-clause-lacks : goal.returns-clause-lacks
returns-clause-lacks g c unmade = absurd (let no = sym c.put.ensures.made ∙ unmade in cc)

pub returns-clause-full : goal.returns-clause-full
returns-clause-full g c unmade = absurd (let no = sym c.put.ensures.made ∙ unmade in cc)
