-- What the store holds of host works stays over turns in which it polls none.
use Rattle.std.proofs.Common.{ap, arith, inl, inr, refl, subst, sym, ◌∙◌}
use Rattle.laws_order.specs.Cells.{Runs, StaysWork, Takes}
use Rattle.store_works.specs.Course.{one_fewer}
use Rattle.store_works.specs.KeptWorks.{HeldWork}
use Rattle.ops_dispatch.specs.Fits.{calls_host}
use Rattle.ops_dispatch.specs.Makes.{takes_memory}
use Rattle.ops_dispatch.specs.Polls.{polled_host}
use Rattle.std.specs.Option.{option_map}
use Rattle.std.specs.Prelude.{[], Bool, None, Option, Some, cond, suc, true, zero, ℕ, ◌+◌, ◌==◌, ◌≡◌}
use Rattle.machine_data.specs.Core.{Main, State, Unscripted}
use Rattle.machine_data.specs.Maps.{get}
use Rattle.machine_data.specs.Read.{course_of, op_progress_of}
use Rattle.machine_data.specs.declared.component.Component.{Component}
use Rattle.machine_data.specs.declared.component.HostDef.{HostDef}
use Rattle.machine_data.specs.declared.op.CallOp.TheVariants as call_op
use Rattle.machine_data.specs.declared.op.Op.{Op}
use Rattle.machine_data.specs.declared.op.Op.TheVariants as op
use Rattle.machine_data.specs.declared.records.Course.TheVariants as courses
use Rattle.machine_data.specs.declared.records.OpProgress.{OpProgress}
use Rattle.machine_data.specs.declared.records.OpProgress.TheVariants as op_progress
use Rattle.machine_data.specs.declared.records.Subtask.TheVariants as subtask
use Rattle.machine_data.specs.declared.records.Turn.TheVariants as turn
use Rattle.machine_data.specs.declared.scenario.IdleLine.TheVariants as idle_line
use Rattle.laws_states.specs.Courses.{CallsHost, MakesWork, Spawns}
use Rattle.machine_rules.specs.Calls.{Later}
use Rattle.ops_subtasks.specs.First.{first_heard}
use Rattle.machine_data.specs.declared.component.HostDef.TheVariants as host_def
use Rattle.machine_data.specs.declared.statuses.HostPoll.{HostPoll}
use Rattle.machine_data.specs.declared.statuses.HostPoll.TheVariants as host_poll
use Rattle.machine_rules.specs.OpParts.{queues_work}
use Rattle.machine_rules.proofs.WalkSteps.{step_walks}
use Rattle.machine_rules.specs.Chains.{WalkedAs}
use Rattle.machine_rules.specs.Scripts.{op_of, ops_of}
use Rattle.machine_rules.specs.Stalled.{Setting}
use Rattle.task_store.proofs.HostLemmas.{holds_as, holds_made, holds_quiet, holds_unmade, running_stays, runs_works, taken_stays}
use Rattle.task_store.specs.Hosts.{HoldsWorks, held_after_call, running}
use Rattle.task_table.specs.declared.id.TableId.{TableId}
use Rattle.ops_turns.specs.Ran.{WorkMade, host_polled}
use Rattle.ops_turns.specs.declared.made.MadeStep.{MadeStep}
use Rattle.ops_turns.specs.Turn.{MakesStep, PendsIn, CoreInOrder, Turned, TurnedBeside, idle_line_of, state_at}
use Rattle.task_wait.specs.declared.keys.HostTaskKey.{HostTaskKey}
use Rattle.core_primitives.specs.StateView.{StateView, work_of}

-- ---- Takings

taking_makes_none : (ops : ℕ → Op) (s : State) (ended : Bool) → s.turn ≡ turn.Take ended → MakesWork ops s → ⊥
taking_makes_none ops s ended is (Spawns main) = cc
taking_makes_none ops s ended is (CallsHost n runs queues) = cc

pub held_taken : (x : Setting) (b ended : Bool) (m : Main) (s t : StateView) (left : ℕ → Option HeldWork) (made : Option MadeStep) → CoreInOrder x.component (turn.Take ended) s.core →
    x.idle ≡ idle_line_of b → PendsIn x s.core m (turn.Take ended) → TurnedBeside x.component b (turn.Take ended) s made t → HoldsWorks left s.core → HoldsWorks left t.core
held_taken x b ended m s t left None in_turn idle pends turned h =
    let k : Turned x (turn.Take ended) m s None m t = turned x refl idle m pends in
    subst (λ (v : StateView). HoldsWorks left v.core) (sym k.1.1) h
held_taken x b ended m s t left (Some made) in_turn idle pends turned h =
    let k : Turned x (turn.Take ended) m s (Some made) m t = turned x refl idle m pends in
    let a = state_at s.core m (turn.Take ended) in
    let b = state_at t.core m made.turn in
    let ops = ops_of x.component s.core in
    holds_quiet ops x a made.label b (step_walks x a made.label b k.step) (Takes ended) (in_turn.order m).works.made (taken_stays x a made.label b ended (in_turn.order m) k.step refl left h) left h
    (taking_makes_none ops a ended refl)

-- ---- Ops of the running thread

-- an op that may make a work polls a host first
polls_first : (c : Component) (f : OpProgress) (o : Op) → queues_work f o ≡ true → polled_host c f o ≡ None → ⊥
polls_first c (op_progress.Calls (subtask.Host i)) (op.Call (call_op.CallHost r q h)) queues none = cc
polls_first c f (op.Call (call_op.CallHost r q h)) queues none = grind (arith, none)
polls_first c f (op.Call (call_op.CallSyncHost r h)) queues none = grind (arith, none, queues)
polls_first c f o queues none = grind (arith, queues)

same_left : (d l : HostDef) → Later d ≡ Later l → d ≡ l
same_left d l h = cc

-- what is left of a host after its first poll, if it pends, is what its work is still to do
first_left : (d l : HostDef) (answer : HostPoll) → first_heard d answer ≡ Later l → one_fewer d ≡ l
first_left (host_def.Settled None v) l answer h = same_left (host_def.Settled None v) l h
first_left (host_def.Settled (Some zero) None) l answer h = absurd (cc)
first_left (host_def.Settled (Some zero) (Some v)) l answer h = absurd (cc)
first_left (host_def.Settled (Some (suc n)) v) l answer h = same_left (host_def.Settled (Some n) v) l h
first_left host_def.Open l host_poll.Pending h = same_left host_def.Open l h
first_left host_def.Open l (host_poll.Value v) h = absurd (cc)
first_left host_def.Open l host_poll.Failed h = absurd (cc)

module _ (answer : HostPoll) (c : Component) (n : ℕ) (s t : StateView) (made : MadeStep) (work : Option (TableId HostTaskKey)) (in_turn : CoreInOrder c (turn.Run n) s.core) (makes : MakesStep c (turn.Run n) s made t) (polls : WorkMade answer (host_polled c n s.core) work s t)
    (left : ℕ → Option HeldWork) (h : HoldsWorks left s.core) where
  x : Setting
  x = record { component = c; script = []; idle = idle_line.Wait }

  before : State
  before = state_at s.core Unscripted (turn.Run n)

  own_ops : ℕ → Op
  own_ops = ops_of c s.core

  walked : WalkedAs own_ops x before made.label (state_at t.core Unscripted made.turn)
  unfolding x before own_ops
  walked = step_walks x before made.label (state_at t.core Unscripted made.turn) (makes.step x refl Unscripted)

  makes_none : (host_polled c n s.core) ≡ None → MakesWork own_ops before → ⊥
  unfolding x before own_ops
  makes_none none (Spawns main) = cc
  makes_none none (CallsHost k runs queues) =
      let same : n ≡ k = cc in
      polls_first c (op_progress_of k s.core) (op_of c k s.core) queues (subst (λ (i : ℕ). polled_host c (op_progress_of i s.core) (op_of c i s.core) ≡ None) same none)

  after : State
  after = state_at t.core Unscripted made.turn

  stays : (i : ℕ) → StaysWork (get s.core.works i) (get t.core.works i)
  unfolding x before after
  stays = running_stays x before made.label after n (runs_works c n s.core (in_turn.order Unscripted)) (makes.step x refl Unscripted) refl left h

  unmade : WorkMade answer (host_polled c n s.core) None s t → HoldsWorks left t.core
  unfolding x before after
  unmade (inl none) = holds_quiet own_ops x before made.label after walked (Runs n) (in_turn.order Unscripted).works.made stays left h (makes_none none)
  unmade (inr gone) = holds_unmade own_ops x before made.label after walked (Runs n) (in_turn.order Unscripted).works.made stays left h gone

  made_held : (id : TableId HostTaskKey) (right : ℕ → Option HeldWork) → WorkMade answer (host_polled c n s.core) (Some id) s t → ((i : ℕ) → right i ≡ held_after_call (Some (work_of t id)) (option_map one_fewer (host_polled c n s.core)) left i) → HoldsWorks right t.core
  unfolding x before after
  made_held id right m is =
      let d = m.0 in let l = m.1.0 in let polled = m.1.1.0 in let first = m.1.1.1.0 in let number = m.1.1.1.1.0 in let goes = m.1.1.1.1.1 in
      holds_made own_ops x before made.label after walked (Runs n) (in_turn.order Unscripted).works.made stays left h l right
      (subst (λ (k : ℕ). course_of k t.core ≡ courses.Continues l) number goes)
      (λ i. is i ∙ (ap (λ (o : Option HostDef). held_after_call (Some (work_of t id)) (option_map one_fewer o) left i) polled ∙ (ap (λ (k : ℕ). cond (k == i) (running (one_fewer d)) (left i)) number
      ∙ ap (λ (e : HostDef). cond (s.core.made.works + 1 == i) (running e) (left i)) (first_left d l answer first))))

  pub held_run : (right : ℕ → Option HeldWork) → ((i : ℕ) → right i ≡ held_after_call (option_map (λ id. work_of t id) work) (option_map one_fewer (host_polled c n s.core)) left i) → HoldsWorks right t.core
  held_run right is = by work refl
    where
      by : (w : Option (TableId HostTaskKey)) → work ≡ w → HoldsWorks right t.core
      by None e = holds_as t.core left right (λ i. is i ∙ ap (λ (o : Option (TableId HostTaskKey)). held_after_call (option_map (λ id. work_of t id) o) (option_map one_fewer (host_polled c n s.core)) left i) e)
          (unmade (subst (λ (o : Option (TableId HostTaskKey)). WorkMade answer (host_polled c n s.core) o s t) e polls))
      by (Some id) e = made_held id right (subst (λ (o : Option (TableId HostTaskKey)). WorkMade answer (host_polled c n s.core) o s t) e polls)
          (λ i. is i ∙ ap (λ (o : Option (TableId HostTaskKey)). held_after_call (option_map (λ id. work_of t id) o) (option_map one_fewer (host_polled c n s.core)) left i) e)

-- a call of a host may take memory
pub calls_takes : (o : Op) → calls_host o ≡ true → takes_memory o ≡ true
calls_takes (op.Call (call_op.CallHost r q h)) calls = refl
calls_takes (op.Call (call_op.CallSyncHost r h)) calls = refl
calls_takes (op.Call (call_op.Call r q e xs)) calls = absurd (cc)
calls_takes (op.Call (call_op.CallSync r e xs)) calls = absurd (cc)
calls_takes (op.Call _) calls = absurd (cc)
calls_takes (op.Data o) calls = absurd (cc)
calls_takes (op.Task o) calls = absurd (cc)
calls_takes (op.Set o) calls = absurd (cc)
calls_takes (op.Thread o) calls = absurd (cc)
