use Rattle.machine_data.specs.declared.records.Turn.{Turn}
use Rattle.ops_turns.proofs.SteppedLemmas.{made_else}
use Rattle.ops_turns.specs.StepResult.{turn_of}
use Rattle.ops_turns.specs.Turn.{given}
use Rattle.ops_turns.specs.declared.made.StepResult.{StepResult}
use Rattle.std.proofs.Common.{arith, inl, inr, refl, subst, sym, ◌∙◌}
use Rattle.std.specs.Prelude.{Some, ◌+◌, ◌<◌, ◌^◌}
use Rattle.task_loop.proofs.HasRunLemmas.{come_first, come_may}
use Rattle.task_loop.proofs.SingleStepLemmas.{once_idle, once_made}
use Rattle.task_loop.proofs.ToldLemmas.{current_is}
use Rattle.task_loop.proofs.run.RunConcurrent.step.Goals as goal
use Rattle.task_loop.proofs.run.RunConcurrent.step.Goals.{in-Full, in-HookFailed, in-Nothing, in_default}
use Rattle.task_loop.specs.HasRun.{HasTurned, MayRun, at}
use Rattle.task_loop.specs.SingleSteps.{StepsOnce}

pub turn-stepped-requires : goal.turn-stepped-requires
turn-stepped-requires g c =
    let says = g.M.MainTask.says in
    let course = g.H.HostWork.course in
    let d = c.args.component.now in
    let a = at c.args.self.now c.args.main.now c.args.store.now c.trace.inside.labels.labels in
    let may : MayRun says course d a = rw (← c.trace.view_is) at c.requires.may in
    let few = may.few in
    let room : given c.args.store.now.state.core + 4 < 2 ^ 61 = omega (arith, few) in
    record { may = come_may says course d a a 0 (come_first says course d a may) c.group_now-running.result may.covered room (c.group_now-running.ensures ∙ current_is c.args.store.now.state (turn_of c.args.self.now.last) may.may_turn.running) }

pub returns-clause-stepped : goal.returns-clause-stepped
returns-clause-stepped g c =
    let says = g.M.MainTask.says in
    let course = g.H.HostWork.course in
    let d = c.args.component.now in
    let a = at c.args.self.now c.args.main.now c.args.store.now c.trace.inside.labels.labels in
    let v = at c.args.self.now c.turn-stepped.new.main c.turn-stepped.new.store c.turn-stepped.new.trace.labels in
    let r = c.turn-stepped.new.running in
    let q = c.turn-stepped.result in
    let may : MayRun says course d a = rw (← c.trace.view_is) at c.requires.may in
    rw (← c.trace.view_is) (elim c.match-stepped.branch [
      | in-Nothing w ↦
          rw (w.result-is, w.self-is) (once_idle says course d a v r (subst (λ (p : StepResult). HasTurned says course d p r a v) w.in-Nothing.is (c.turn-stepped.ensures.turned.nothing w.in-Nothing.is)))
      | in-Full w ↦ rw (w.result-is, w.self-is) (elim (c.turn-stepped.ensures.turned.full w.in-Full.is) [
        | inl lacks ↦ inl lacks
        | inr short ↦ inr short.same
      ])
      | in-HookFailed w ↦ rw (w.result-is, w.self-is) (c.turn-stepped.ensures.turned.failed w.in-HookFailed.is)
      | in_default w ↦
          let made = made_else q w.in_default.not-Nothing w.in_default.not-Full w.in_default.not-HookFailed in
          rw (w.result-is, w.self-is) (subst (λ (p : Turn). StepsOnce says course d (Some p) a (record v { turn = turn_of q })) (sym w.turn_of-turn.ensures)
          (once_made says course d a v r may q made (c.turn-stepped.ensures.turned.made made) c.turn-stepped.ensures.keeps))
    ])

pub returns-clause-keeps : goal.returns-clause-keeps
returns-clause-keeps g c =
    let kept = c.turn-stepped.ensures.keeps in
    elim c.match-stepped.branch [
      | in-Nothing w ↦ rw w.self-is (record { script = kept.script; idle = kept.idle; constants = kept.constants })
      | in-Full w ↦ rw w.self-is (record { script = kept.script; idle = kept.idle; constants = kept.constants })
      | in-HookFailed w ↦ rw w.self-is (record { script = kept.script; idle = kept.idle; constants = kept.constants })
      | in_default w ↦ rw w.self-is (record { script = kept.script; idle = kept.idle; constants = kept.constants })
    ]

pub returns-clause-rest : goal.returns-clause-rest
returns-clause-rest g c =
    elim c.match-stepped.branch [
      | in-Nothing w ↦ rw w.self-is refl
      | in-Full w ↦ rw w.self-is refl
      | in-HookFailed w ↦ rw w.self-is refl
      | in_default w ↦ rw w.self-is refl
    ]
