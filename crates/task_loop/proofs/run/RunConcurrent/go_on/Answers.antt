-- Each turn adds to the run, until it is over or the policy stops it.
use Rattle.laws_labels.specs.Own.{rests_by}
use Rattle.run_trace.specs.YieldBudget.{counted, yields_before}
use Rattle.std.proofs.Common.{ap, arith, inl, inr, refl, subst, sym, ◌∙◌}
use Rattle.std.specs.Prelude.{Option, false, true, ◌+◌, ◌<◌, ◌^◌, ◌≡◌}
use Rattle.task_loop.proofs.HasPolledLemmas.{polled_idles, polled_none, polled_out, polled_over, polled_rests, polled_yields}
use Rattle.task_loop.proofs.HasRunLemmas.{come_computed, come_first, come_full, come_goes, come_lost, come_may, come_none, come_out, come_over, come_rests, come_short, come_stopped, goes_on_by, opened, over_told, stops_by}
use Rattle.task_loop.proofs.PausedLemmas.{spent_data, spent_none, poll_goes}
use Rattle.task_loop.proofs.RunPollLemmas.{and_false}
use Rattle.task_loop.proofs.ToldLemmas.{current_is, group_computed}
use Rattle.task_loop.proofs.run.RunConcurrent.go_on.Goals as goal
use Rattle.task_loop.specs.HasRun.{At, GoesTo, HasTurned, IsLost, at, numbers, setting, state}
use Rattle.task_loop.specs.declared.run.RunConcurrent.{RunConcurrent}
use Rattle.task_loop.specs.declared.run.Stop.TheVariants as stop
use Rattle.machine_data.specs.declared.outcome.Outcome.TheVariants as outcome
use Rattle.machine_data.specs.declared.records.Turn.TheVariants as turn
use Rattle.machine_data.specs.declared.statuses.Mark.{Mark}
use Rattle.machine_rules.proofs.Machine.{and_parts}
use Rattle.ops_turns.specs.Turn.{given, idle_line_of}
use Rattle.ops_turns.proofs.SteppedLemmas.{made_else, made_open}
use Rattle.ops_turns.specs.StepResult.{is_made, turn_of}
use Rattle.ops_turns.specs.declared.made.StepResult.{StepResult}
use Rattle.ops_turns.specs.declared.made.StepResult.TheVariants as stepped
use Rattle.core_primitives.specs.StateView.{Tags}

pub turns-init : goal.turns-init
turns-init g c =
    record {
      come = come_first _ _ _ _ c.requires.may;
      spare = omega arith;
      kept = λ driven. refl;
      spent = λ polled. spent_none c.args.self.now.yield_budget.passes c.args.self.now.yield_budget.since c.args.trace.now.labels;
      few = omega arith;
      running = c.group_now-running.ensures ∙ current_is c.args.store.now.state (turn_of c.args.self.now.last) c.requires.may.may_turn.running;
    }

pub turn-stepped-requires : goal.turn-stepped-requires
turn-stepped-requires g c =
    let says = g.M.MainTask.says in
    let course = g.H.HostWork.course in
    let d = c.args.component.now in
    let a = at c.args.self.now c.args.main.now c.args.store.now c.args.trace.now.labels in
    let u = at c.turns.self c.turns.main c.turns.store c.turns.trace.labels in
    let n = c.turns.added in
    let come = c.turns.invariant.come in
    let few = c.turns.invariant.come.on.few in
    let first = c.requires.may.few in
    let room : given c.turns.store.state.core + 4 < 2 ^ 61 = omega (arith, few, first) in
    record { may = come_may says course d a u n come c.turns.running c.requires.may.covered room c.turns.invariant.running }

pub spent_by-self-requires : goal.spent_by-self-requires
spent_by-self-requires g c = sym c.yields_by.ensures ∙ c.if-yields_by.false

pub compute-requires-clause-covered : goal.compute-requires-clause-covered
compute-requires-clause-covered g c = c.requires.may.covered

pub compute-requires-clause-order : goal.compute-requires-clause-order
compute-requires-clause-order g c =
    let says = g.M.MainTask.says in
    let course = g.H.HostWork.course in
    let d = c.args.component.now in
    let a = at c.args.self.now c.args.main.now c.args.store.now c.args.trace.now.labels in
    let u = at c.turns.self c.turns.main c.turns.store c.turns.trace.labels in
    let n = c.turns.added in
    let come = c.turns.invariant.come in
    let v = at c.turns.self c.turn-stepped.new.main c.turn-stepped.new.store c.turn-stepped.new.trace.labels in
    let r = c.turn-stepped.new.running in
    let q = c.turn-stepped.result in
    let made = made_else q c.in_default.not-Nothing c.in_default.not-Full c.in_default.not-HookFailed in
    let op_result = c.turn-stepped.ensures.turned.made made in
    let ongoing = made_open q made c.in_default.not-Over in
    let goes = come_goes says course d a u n come v r q made ongoing op_result c.turn-stepped.ensures.keeps in
    goes.on.at.order

pub compute-requires-clause-runs : goal.compute-requires-clause-runs
compute-requires-clause-runs g c =
    let says = g.M.MainTask.says in
    let course = g.H.HostWork.course in
    let d = c.args.component.now in
    let a = at c.args.self.now c.args.main.now c.args.store.now c.args.trace.now.labels in
    let u = at c.turns.self c.turns.main c.turns.store c.turns.trace.labels in
    let n = c.turns.added in
    let come = c.turns.invariant.come in
    let v = at c.turns.self c.turn-stepped.new.main c.turn-stepped.new.store c.turn-stepped.new.trace.labels in
    let r = c.turn-stepped.new.running in
    let q = c.turn-stepped.result in
    let made = made_else q c.in_default.not-Nothing c.in_default.not-Full c.in_default.not-HookFailed in
    let op_result = c.turn-stepped.ensures.turned.made made in
    let ongoing = made_open q made c.in_default.not-Over in
    let goes = come_goes says course d a u n come v r q made ongoing op_result c.turn-stepped.ensures.keeps in
    goes.on.at.running

pub turns-preserved : goal.turns-preserved
turns-preserved g c =
    let says = g.M.MainTask.says in
    let course = g.H.HostWork.course in
    let d = c.args.component.now in
    let a = at c.args.self.now c.args.main.now c.args.store.now c.args.trace.now.labels in
    let u = at c.turns.self c.turns.main c.turns.store c.turns.trace.labels in
    let n = c.turns.added in
    let come = c.turns.invariant.come in
    let stops = g.P.Policy.YIELDS in
    let yield_budget = c.args.self.now.yield_budget in
    let b = c.turns.self.yield_budget.passes in
    let k = c.turns.self.yield_budget.since in
    let spent = c.turns.invariant.spent in
    let v = at c.turns.self c.turn-stepped.new.main c.turn-stepped.new.store c.turn-stepped.new.trace.labels in
    let r = c.turn-stepped.new.running in
    let q = c.turn-stepped.result in
    let made = made_else q c.in_default.not-Nothing c.in_default.not-Full c.in_default.not-HookFailed in
    let op_result = c.turn-stepped.ensures.turned.made made in
    let ongoing = made_open q made c.in_default.not-Over in
    let goes = come_goes says course d a u n come v r q made ongoing op_result c.turn-stepped.ensures.keeps in
    let all = c.in-Ok.ensures.ok in
    record {
      spare = omega (arith, c.turns.invariant.spare, c.turn-stepped.ensures.spare, c.in-Ok.ensures.spare);
      come = come_computed says course d a (record v { turn = turn_of q }) (n + 1) goes c.compute.new.w c.compute.new.trace.labels c.in-Ok.all all.on all.computes all.still c.in-Ok.ensures.works
          (λ last knows. g.met.M.MainTask.stays c.turn-stepped.new.main c.turn-stepped.new.store.state c.compute.new.w last knows);
      kept = λ driven. c.spent_by-self.ensures.kept driven ∙ c.turns.invariant.kept driven;
      spent = λ polled.
          let next = rw c.turn_of-turn.ensures at (c.next_mark-next.ensures polled) in
          let stays = subst (λ (o : Option Mark). yields_before b k o ≡ false) next (and_false stops (yields_before b k c.next_mark-next.result) polled (sym c.yields_by.ensures ∙ c.if-yields_by.false)) in
          let rests = subst (λ (o : Option Mark). rests_by (turn_of c.turns.self.last) o ≡ false) next (rw c.turn_of-turn.ensures at (and_false stops (rests_by c.turn_of-turn.result c.next_mark-next.result) polled (sym c.rests_with-rests.ensures ∙ c.if-rests.false))) in
          let since = c.spent_by-self.ensures.since polled ∙ ap (λ (o : Option Mark). counted k o) next in
          let more = poll_goes (setting says course d a) (state says course d a) a.trace (numbers says course d a) yield_budget c.args.steps u.turn (says.part u.main) u.store.state u.trace n b k come.on (spent polled) (says.part v.main) v.store.state v.trace (turn_of q)
          (opened says course d a u n come v r q made ongoing op_result) stays c.spent_by-self.result.passes c.spent_by-self.result.since rests since (c.spent_by-self.ensures.passes polled) in
          spent_data yield_budget.passes yield_budget.since a.trace c.turn-stepped.new.trace.labels c.spent_by-self.result.passes c.spent_by-self.result.since more all.computes.labels c.compute.new.trace.labels all.computes.computing all.computes.trace (c.spent_by-self.ensures.passes polled);
      few = all.few;
      running = op_result.group made ∙ sym (group_computed d c.turn-stepped.new.store.state c.turn-stepped.new.trace.labels (n + 1) c.compute.new.w c.compute.new.trace.labels c.in-Ok.all (setting says course d a) refl (ap (λ (ts : Tags). ts.tracked) c.in-Ok.ensures.works.tags) (turn_of q) all.computes all.still);
    }

-- ---- What it has resulted in

pub returns-then-yields_by-clause-gone : goal.returns-then-yields_by-clause-gone
returns-then-yields_by-clause-gone g c =
    let says = g.M.MainTask.says in
    let course = g.H.HostWork.course in
    let d = c.args.component.now in
    let a = at c.args.self.now c.args.main.now c.args.store.now c.args.trace.now.labels in
    let u = at c.turns.self c.turns.main c.turns.store c.turns.trace.labels in
    let n = c.turns.added in
    let come = c.turns.invariant.come in
    let stops = g.P.Policy.YIELDS in
    let yield_budget = c.args.self.now.yield_budget in
    let b = c.turns.self.yield_budget.passes in
    let k = c.turns.self.yield_budget.since in
    let spent = c.turns.invariant.spent in
    let both = and_parts stops (yields_before b k c.next_mark-next.result) (sym c.yields_by.ensures ∙ c.if-yields_by.true) in
    let yields = subst (λ (o : Option Mark). yields_before b k o ≡ true) (rw c.turn_of-turn.ensures at (c.next_mark-next.ensures both.0)) both.1 in
    stops_by says course d a u c.args.steps stops stop.Yields yield_budget c.yielded-self.result both.0
    (polled_yields says course d a u n come yield_budget c.args.steps b k (spent both.0) c.yielded-self.result (omega arith) yields c.yielded-self.ensures.since c.yielded-self.ensures.passes)

pub returns-in-Nothing-clause-gone : goal.returns-in-Nothing-clause-gone
returns-in-Nothing-clause-gone g c =
    let says = g.M.MainTask.says in
    let course = g.H.HostWork.course in
    let d = c.args.component.now in
    let a = at c.args.self.now c.args.main.now c.args.store.now c.args.trace.now.labels in
    let u = at c.turns.self c.turns.main c.turns.store c.turns.trace.labels in
    let n = c.turns.added in
    let come = c.turns.invariant.come in
    let stops = g.P.Policy.YIELDS in
    let yield_budget = c.args.self.now.yield_budget in
    let b = c.turns.self.yield_budget.passes in
    let k = c.turns.self.yield_budget.since in
    let spent = c.turns.invariant.spent in
    let v = at c.turns.self c.turn-stepped.new.main c.turn-stepped.new.store c.turn-stepped.new.trace.labels in
    let r = c.turn-stepped.new.running in
    let op_result = subst (λ (q : StepResult). HasTurned says course d q r u v) c.in-Nothing.is (c.turn-stepped.ensures.turned.nothing c.in-Nothing.is) in
    let yield_budget' = c.ends.new.self.yield_budget in
    rw c.ends.ensures.stop
    (subst (λ (w : RunConcurrent). GoesTo says course d stops c.args.steps (stop.Ends outcome.Idle) yield_budget a (at w c.turn-stepped.new.main c.turn-stepped.new.store c.turn-stepped.new.trace.labels) yield_budget') (sym c.ends.ensures.new)
    (goes_on_by says course d a v c.args.steps stops (stop.Ends outcome.Idle) yield_budget yield_budget' (λ driven. come_none says course d a u n come v r c.args.steps (omega arith) op_result)
    (λ polled. polled_none says course d a u n come yield_budget c.args.steps b k (spent polled) yield_budget' v r (omega arith) op_result (c.ends.ensures.since polled) (c.ends.ensures.passes polled))))

pub outcome_in-requires : goal.outcome_in-requires
outcome_in-requires g c =
    let says = g.M.MainTask.says in
    let course = g.H.HostWork.course in
    let d = c.args.component.now in
    let a = at c.args.self.now c.args.main.now c.args.store.now c.args.trace.now.labels in
    let u = at c.turns.self c.turns.main c.turns.store c.turns.trace.labels in
    let v = at c.turns.self c.turn-stepped.new.main c.turn-stepped.new.store c.turn-stepped.new.trace.labels in
    let r = c.turn-stepped.new.running in
    over_told says course d a u c.turns.added c.turns.invariant.come v r stepped.Over refl refl (subst (λ (q : StepResult). HasTurned says course d q r u v) c.in-Over.is (c.turn-stepped.ensures.turned.made (ap is_made c.in-Over.is)))

pub returns-in-Over-clause-gone : goal.returns-in-Over-clause-gone
returns-in-Over-clause-gone g c =
    let says = g.M.MainTask.says in
    let course = g.H.HostWork.course in
    let d = c.args.component.now in
    let a = at c.args.self.now c.args.main.now c.args.store.now c.args.trace.now.labels in
    let u = at c.turns.self c.turns.main c.turns.store c.turns.trace.labels in
    let n = c.turns.added in
    let come = c.turns.invariant.come in
    let stops = g.P.Policy.YIELDS in
    let yield_budget = c.args.self.now.yield_budget in
    let b = c.turns.self.yield_budget.passes in
    let k = c.turns.self.yield_budget.since in
    let spent = c.turns.invariant.spent in
    let v = at c.turns.self c.turn-stepped.new.main c.turn-stepped.new.store c.turn-stepped.new.trace.labels in
    let r = c.turn-stepped.new.running in
    let o = c.outcome_in.result in
    let op_result = subst (λ (q : StepResult). HasTurned says course d q r u v) c.in-Over.is (c.turn-stepped.ensures.turned.made (ap is_made c.in-Over.is)) in
    let ends = c.ends-in-Over in
    let yield_budget' = ends.new.self.yield_budget in
    rw ends.ensures.stop
    (subst (λ (w : RunConcurrent). GoesTo says course d stops c.args.steps (stop.Ends o) yield_budget a (at w c.turn-stepped.new.main c.turn-stepped.new.store c.turn-stepped.new.trace.labels) yield_budget') (sym ends.ensures.new)
    (goes_on_by says course d a (record v { turn = turn.Over }) c.args.steps stops (stop.Ends o) yield_budget yield_budget' (λ driven. come_over says course d a u n come v r c.args.steps stepped.Over o (omega arith) refl refl c.outcome_in.ensures op_result)
    (λ polled. polled_over says course d a u n come yield_budget c.args.steps b k (spent polled) yield_budget' v r stepped.Over o (omega arith) refl refl c.outcome_in.ensures op_result (ends.ensures.since polled) (ends.ensures.passes polled))))

pub returns-then-rests-clause-gone : goal.returns-then-rests-clause-gone
returns-then-rests-clause-gone g c =
    let says = g.M.MainTask.says in
    let course = g.H.HostWork.course in
    let d = c.args.component.now in
    let a = at c.args.self.now c.args.main.now c.args.store.now c.args.trace.now.labels in
    let u = at c.turns.self c.turns.main c.turns.store c.turns.trace.labels in
    let n = c.turns.added in
    let come = c.turns.invariant.come in
    let stops = g.P.Policy.YIELDS in
    let yield_budget = c.args.self.now.yield_budget in
    let b = c.turns.self.yield_budget.passes in
    let k = c.turns.self.yield_budget.since in
    let spent = c.turns.invariant.spent in
    let v = at c.turns.self c.turn-stepped.new.main c.turn-stepped.new.store c.turn-stepped.new.trace.labels in
    let r = c.turn-stepped.new.running in
    let q = c.turn-stepped.result in
    let made = made_else q c.in_default.not-Nothing c.in_default.not-Full c.in_default.not-HookFailed in
    let op_result = c.turn-stepped.ensures.turned.made made in
    let ongoing = made_open q made c.in_default.not-Over in
    let goes = come_goes says course d a u n come v r q made ongoing op_result c.turn-stepped.ensures.keeps in
    let both = and_parts stops (rests_by c.turn_of-turn.result c.next_mark-next.result) (sym c.rests_with-rests.ensures ∙ c.if-rests.true) in
    let polled = both.0 in
    let next = rw c.turn_of-turn.ensures at (c.next_mark-next.ensures polled) in
    let stays = subst (λ (o : Option Mark). yields_before b k o ≡ false) next (and_false stops (yields_before b k c.next_mark-next.result) polled (sym c.yields_by.ensures ∙ c.if-yields_by.false)) in
    let rests = subst (λ (o : Option Mark). rests_by (turn_of c.turns.self.last) o ≡ true) next (rw c.turn_of-turn.ensures at both.1) in
    let since = c.spent_by-self.ensures.since polled ∙ ap (λ (o : Option Mark). counted k o) next in
    stops_by says course d a (record v { turn = turn_of q }) c.args.steps stops stop.Rests yield_budget c.spent_by-self.result polled
    (polled_rests says course d a u n come yield_budget c.args.steps b k (spent polled) c.spent_by-self.result v r q made ongoing (omega arith) op_result c.turn-stepped.ensures.keeps stays rests since (c.spent_by-self.ensures.passes polled))

pub returns-then-is_idle-clause-gone : goal.returns-then-is_idle-clause-gone
returns-then-is_idle-clause-gone g c =
    let says = g.M.MainTask.says in
    let course = g.H.HostWork.course in
    let d = c.args.component.now in
    let a = at c.args.self.now c.args.main.now c.args.store.now c.args.trace.now.labels in
    let u = at c.turns.self c.turns.main c.turns.store c.turns.trace.labels in
    let n = c.turns.added in
    let come = c.turns.invariant.come in
    let stops = g.P.Policy.YIELDS in
    let yield_budget = c.args.self.now.yield_budget in
    let b = c.turns.self.yield_budget.passes in
    let k = c.turns.self.yield_budget.since in
    let spent = c.turns.invariant.spent in
    let rests = (rw c.turn_of.ensures at c.is_idle.ensures) (setting says course d a) come.on.at.order (ap idle_line_of (sym come.keeps.idle)) (says.part c.turns.main) come.on.pends ∙ c.if-is_idle.true in
    let ends = c.ends-then-is_idle in
    let yield_budget' = ends.new.self.yield_budget in
    rw ends.ensures.stop
    (subst (λ (w : RunConcurrent). GoesTo says course d stops c.args.steps (stop.Ends outcome.Idle) yield_budget a (at w c.turns.main c.turns.store c.turns.trace.labels) yield_budget') (sym ends.ensures.new)
    (goes_on_by says course d a u c.args.steps stops (stop.Ends outcome.Idle) yield_budget yield_budget' (λ driven. come_rests says course d a u n come c.args.steps (omega arith) rests)
    (λ polled. polled_idles says course d a u n come yield_budget c.args.steps b k (spent polled) yield_budget' (omega arith) rests (ends.ensures.since polled) (ends.ensures.passes polled))))

pub returns-clause-gone : goal.returns-clause-gone
returns-clause-gone g c =
    let says = g.M.MainTask.says in
    let course = g.H.HostWork.course in
    let d = c.args.component.now in
    let a = at c.args.self.now c.args.main.now c.args.store.now c.args.trace.now.labels in
    let u = at c.turns.self c.turns.main c.turns.store c.turns.trace.labels in
    let n = c.turns.added in
    let come = c.turns.invariant.come in
    let stops = g.P.Policy.YIELDS in
    let yield_budget = c.args.self.now.yield_budget in
    let b = c.turns.self.yield_budget.passes in
    let k = c.turns.self.yield_budget.since in
    let spent = c.turns.invariant.spent in
    let moves = (rw c.turn_of.ensures at c.is_idle.ensures) (setting says course d a) come.on.at.order (ap idle_line_of (sym come.keeps.idle)) (says.part c.turns.main) come.on.pends ∙ c.if-is_idle.false in
    let ends = c.ends-2 in
    let yield_budget' = ends.new.self.yield_budget in
    rw ends.ensures.stop
    (subst (λ (w : RunConcurrent). GoesTo says course d stops c.args.steps (stop.Ends outcome.OutOfSteps) yield_budget a (at w c.turns.main c.turns.store c.turns.trace.labels) yield_budget') (sym ends.ensures.new)
    (goes_on_by says course d a u c.args.steps stops (stop.Ends outcome.OutOfSteps) yield_budget yield_budget' (λ driven. come_out says course d a u n come c.args.steps (omega arith) moves)
    (λ polled. polled_out says course d a u n come yield_budget c.args.steps b k (spent polled) yield_budget' (omega arith) moves (ends.ensures.since polled) (ends.ensures.passes polled))))

-- ---- It is out of memory, or the hook fails

pub returns-in-Full-clause-gone : goal.returns-in-Full-clause-gone
returns-in-Full-clause-gone g c =
    let says = g.M.MainTask.says in
    let course = g.H.HostWork.course in
    let d = c.args.component.now in
    let a = at c.args.self.now c.args.main.now c.args.store.now c.args.trace.now.labels in
    let u = at c.turns.self c.turns.main c.turns.store c.turns.trace.labels in
    let v = at c.turns.self c.turn-stepped.new.main c.turn-stepped.new.store c.turn-stepped.new.trace.labels in
    let room = c.args.trace.now.spare in
    let n = c.turns.added in
    let come = c.turns.invariant.come in
    elim (c.turn-stepped.ensures.turned.full c.in-Full.is) [
      | inl lacks ↦ come_lost says course d a u n come v c.args.steps room (omega arith) lacks
      | inr short ↦ subst (λ (w : At _ _ _ _). IsLost says course d c.args.steps room a w.main w.trace w.store.listeners w.store.state) (sym short.same) (come_full says course d a u n come c.args.steps room (omega arith) (omega (arith, c.turns.invariant.spare, short.none)))
    ]

pub returns-in-HookFailed-clause-gone : goal.returns-in-HookFailed-clause-gone
returns-in-HookFailed-clause-gone g c =
    let says = g.M.MainTask.says in
    let course = g.H.HostWork.course in
    let d = c.args.component.now in
    let a = at c.args.self.now c.args.main.now c.args.store.now c.args.trace.now.labels in
    let u = at c.turns.self c.turns.main c.turns.store c.turns.trace.labels in
    let v = at c.turns.self c.turn-stepped.new.main c.turn-stepped.new.store c.turn-stepped.new.trace.labels in
    come_stopped says course d a u c.turns.added c.turns.invariant.come v c.args.steps (omega arith) (c.turn-stepped.ensures.turned.failed c.in-HookFailed.is)

pub returns-in_default-compute-clause-gone : goal.returns-in_default-compute-clause-gone
returns-in_default-compute-clause-gone g c =
    let says = g.M.MainTask.says in
    let course = g.H.HostWork.course in
    let d = c.args.component.now in
    let a = at c.args.self.now c.args.main.now c.args.store.now c.args.trace.now.labels in
    let u = at c.turns.self c.turns.main c.turns.store c.turns.trace.labels in
    let n = c.turns.added in
    let come = c.turns.invariant.come in
    let v = at c.turns.self c.turn-stepped.new.main c.turn-stepped.new.store c.turn-stepped.new.trace.labels in
    let r = c.turn-stepped.new.running in
    let q = c.turn-stepped.result in
    let made = made_else q c.in_default.not-Nothing c.in_default.not-Full c.in_default.not-HookFailed in
    let op_result = c.turn-stepped.ensures.turned.made made in
    let ongoing = made_open q made c.in_default.not-Over in
    let goes = come_goes says course d a u n come v r q made ongoing op_result c.turn-stepped.ensures.keeps in
    come_short says course d a (record v { turn = turn_of q }) (n + 1) goes c.args.steps c.args.trace.now.spare c.turn-stepped.new.trace refl (omega (arith, c.turns.invariant.spare, c.turn-stepped.ensures.spare)) c.compute.new.w c.compute.new.trace c.in_default-compute.ensures.err (ap (λ (ts : Tags). ts.tracked) c.in_default-compute.ensures.works.tags)

-- ---- What stays

pub returns-in-Full-clause-keeps : goal.returns-in-Full-clause-keeps
returns-in-Full-clause-keeps g c =
    let come = c.turns.invariant.come in
    let kept = c.turn-stepped.ensures.keeps in
    record { script = kept.script ∙ come.keeps.script; idle = come.keeps.idle; constants = kept.constants ∙ come.keeps.constants }

pub returns-in-HookFailed-clause-keeps : goal.returns-in-HookFailed-clause-keeps
returns-in-HookFailed-clause-keeps g c =
    let come = c.turns.invariant.come in
    let kept = c.turn-stepped.ensures.keeps in
    record { script = kept.script ∙ come.keeps.script; idle = come.keeps.idle; constants = kept.constants ∙ come.keeps.constants }

pub returns-in_default-compute-clause-keeps : goal.returns-in_default-compute-clause-keeps
returns-in_default-compute-clause-keeps g c =
    let come = c.turns.invariant.come in
    let kept = c.turn-stepped.ensures.keeps in
    record { script = kept.script ∙ come.keeps.script; idle = come.keeps.idle; constants = kept.constants ∙ come.keeps.constants }

pub returns-in-Nothing-clause-keeps : goal.returns-in-Nothing-clause-keeps
returns-in-Nothing-clause-keeps g c =
    let come = c.turns.invariant.come in
    let kept = c.turn-stepped.ensures.keeps in
    record { script = kept.script ∙ come.keeps.script; idle = ap (λ (r : RunConcurrent). r.trap_on_idle) c.ends.ensures.new ∙ come.keeps.idle; constants = kept.constants ∙ come.keeps.constants }

pub returns-in-Over-clause-keeps : goal.returns-in-Over-clause-keeps
returns-in-Over-clause-keeps g c =
    let come = c.turns.invariant.come in
    let kept = c.turn-stepped.ensures.keeps in
    record { script = kept.script ∙ come.keeps.script; idle = ap (λ (r : RunConcurrent). r.trap_on_idle) c.ends-in-Over.ensures.new ∙ come.keeps.idle; constants = kept.constants ∙ come.keeps.constants }

pub returns-then-rests-clause-keeps : goal.returns-then-rests-clause-keeps
returns-then-rests-clause-keeps g c =
    let come = c.turns.invariant.come in
    let kept = c.turn-stepped.ensures.keeps in
    record { script = kept.script ∙ come.keeps.script; idle = come.keeps.idle; constants = kept.constants ∙ come.keeps.constants }

pub returns-then-yields_by-clause-keeps : goal.returns-then-yields_by-clause-keeps
returns-then-yields_by-clause-keeps g c =
    let come = c.turns.invariant.come in
    record { script = come.keeps.script; idle = come.keeps.idle; constants = come.keeps.constants }

pub returns-then-is_idle-clause-keeps : goal.returns-then-is_idle-clause-keeps
returns-then-is_idle-clause-keeps g c =
    let come = c.turns.invariant.come in
    record { script = come.keeps.script; idle = ap (λ (r : RunConcurrent). r.trap_on_idle) c.ends-then-is_idle.ensures.new ∙ come.keeps.idle; constants = come.keeps.constants }

pub returns-clause-keeps : goal.returns-clause-keeps
returns-clause-keeps g c =
    let come = c.turns.invariant.come in
    record { script = come.keeps.script; idle = ap (λ (r : RunConcurrent). r.trap_on_idle) c.ends-2.ensures.new ∙ come.keeps.idle; constants = come.keeps.constants }

-- the yield budget stays if the policy never stops the turns
pub returns-in-Full-clause-kept : goal.returns-in-Full-clause-kept
returns-in-Full-clause-kept g c = λ driven. c.turns.invariant.kept driven

pub returns-in-HookFailed-clause-kept : goal.returns-in-HookFailed-clause-kept
returns-in-HookFailed-clause-kept g c = λ driven. c.turns.invariant.kept driven

pub returns-in_default-compute-clause-kept : goal.returns-in_default-compute-clause-kept
returns-in_default-compute-clause-kept g c = λ driven. c.spent_by-self.ensures.kept driven ∙ c.turns.invariant.kept driven

pub returns-in-Nothing-clause-kept : goal.returns-in-Nothing-clause-kept
returns-in-Nothing-clause-kept g c = λ driven. c.ends.ensures.kept driven ∙ c.turns.invariant.kept driven

pub returns-in-Over-clause-kept : goal.returns-in-Over-clause-kept
returns-in-Over-clause-kept g c = λ driven. c.ends-in-Over.ensures.kept driven ∙ c.turns.invariant.kept driven

pub returns-then-rests-clause-kept : goal.returns-then-rests-clause-kept
returns-then-rests-clause-kept g c = λ driven. c.spent_by-self.ensures.kept driven ∙ c.turns.invariant.kept driven

pub returns-then-yields_by-clause-kept : goal.returns-then-yields_by-clause-kept
returns-then-yields_by-clause-kept g c = λ driven. let on = (and_parts g.P.Policy.YIELDS (yields_before c.turns.self.yield_budget.passes c.turns.self.yield_budget.since c.next_mark-next.result) (sym c.yields_by.ensures ∙ c.if-yields_by.true)).0 in absurd (cc)

pub returns-then-is_idle-clause-kept : goal.returns-then-is_idle-clause-kept
returns-then-is_idle-clause-kept g c = λ driven. c.ends-then-is_idle.ensures.kept driven ∙ c.turns.invariant.kept driven

pub returns-clause-kept : goal.returns-clause-kept
returns-clause-kept g c = λ driven. c.ends-2.ensures.kept driven ∙ c.turns.invariant.kept driven
