-- One step of a run.
use Rattle.laws_states.specs.Order.{is_open}
use Rattle.machine_data.specs.declared.component.Component.{Component}
use Rattle.machine_data.specs.declared.component.HostDef.{HostDef}
use Rattle.machine_data.specs.declared.records.Turn.{Turn}
use Rattle.ops_turns.specs.Does.{step_of}
use Rattle.ops_turns.specs.declared.made.MadeStep.{MadeStep}
use Rattle.machine_rules.specs.Outcome.{is_at_rest}
use Rattle.machine_data.specs.declared.trap.Trap.TheVariants as trap
use Rattle.ops_state.specs.declared.error.TaskError.TheVariants as task_error
use Rattle.ops_state.specs.declared.error.TaskError.{TaskError}
use Rattle.std.specs.Prelude.{Err, None, Ok, Option, Result, Some, [], true, ◌++◌, ◌+◌, ◌∷◌, ◌≡◌, ◌≤◌, ◌⊎◌}
use Rattle.task_loop.specs.HasRun.{At, FailsTurn, LacksTurn, MayTakeTurn, numbers, setting, state}
use Rattle.task_group.specs.Listeners.{ToldWithHookOk}
use Rattle.task_loop.specs.Ran.{DoesStep}
use Rattle.task_loop.specs.Says.{Says}
use Rattle.task_loop.specs.Told.{TurnTold}
use Rattle.task_store.specs.Hosts.{HoldsHosts}

module _ {M T H G : Type 0} (says : Says M) (course : H → HostDef) (c : Component) where
  -- This step was made, its label is in the trace, its notices were told, and main did what it shows. While the run isn't over the loop may
  -- go on, and two numbers at most were given.
  pub record IsStepOf (made : MadeStep) (a b : At M T H G) : Type 0 where
    pub trace : b.trace ≡ a.trace ++ made.label ∷ []
    pub turn : b.turn ≡ made.turn
    pub told :
        TurnTold (setting says course c a) a.turn (says.part a.main) a.store.state a.store.listeners (Some made) (says.part b.main) b.store.state
        b.store.listeners
    pub did : DoesStep says.does a.main a.store.state.core (step_of (Some made)) b.main b.store.state.core
    pub may_turn : is_open made.turn ≡ true → MayTakeTurn says course c (setting says course c a) b
    pub numbers : is_open made.turn ≡ true → numbers says course c b ≤ numbers says course c a + 2

  -- Nothing can go on, and that is no deadlock: nothing is changed but what the works have in their cells, and nothing is told.
  pub record IsIdleAt (a b : At M T H G) : Type 0 where
    pub rests : is_at_rest (setting says course c a) (state says course c a) ≡ true
    pub turn : b.turn ≡ a.turn
    pub main : b.main ≡ a.main
    pub state : b.store.state ≡ a.store.state
    pub told : ToldWithHookOk [] a.store.listeners b.store.listeners
    pub trace : b.trace ≡ a.trace
    pub works : HoldsHosts course b.store

  -- a step was made, after which it is this turn; or nothing can go on
  abbrev pub StepsOnce : Option Turn → (a b : At M T H G) → Type 0
  StepsOnce (Some turn) a b = (made : MadeStep) × ((turn ≡ made.turn) × IsStepOf made a b)
  StepsOnce None a b = IsIdleAt a b

  -- so it is, or it is out of memory in the step, or the hook failed in it
  abbrev pub StepGives : Result (Option Turn) TaskError → (a b : At M T H G) → Type 0
  StepGives (Ok turn) a b = StepsOnce turn a b
  StepGives (Err task_error.NoMemory) a b = LacksTurn says course c a b ⊎ (b ≡ a)
  StepGives (Err (task_error.Trap trap.HookFailed)) a b = FailsTurn says course c a b
  StepGives (Err e) a b = ⊥
