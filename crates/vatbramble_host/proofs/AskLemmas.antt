-- What main said of itself before, or has asked, is of no account for its step.
use Rattle.vatbramble_host.proofs.SpawnLemmas.{spawns_same}
use Rattle.vatbramble_host.specs.Asks.{asking_says}
use Rattle.vatbramble_host.specs.declared.asking.AskingMain.{AskingMain}
use Rattle.ops_state.specs.declared.error.TaskError.{TaskError}
use Rattle.std.proofs.Common.{ap, inl, refl}
use Rattle.std.specs.Prelude.{Err, IfErr, IfOk, Ok, Result, [], ◌≡◌}
use Rattle.task_loop.specs.HasRun.{HasStepResult, MayStep, StepsTo}
use Rattle.task_loop.specs.Hooked.{LacksOp}
use Rattle.machine_data.specs.Core.{Core, Unscripted}
use Rattle.machine_data.specs.declared.component.Component.{Component}
use Rattle.machine_data.specs.declared.component.HostDef.{HostDef}
use Rattle.task_store.specs.declared.store.Store.{Store}
use Rattle.ops_turns.specs.Main.{Pends}
use Rattle.ops_turns.specs.declared.mains.MainStep.{MainStep}

pub pends_now : (c : Component) (s : Core) → Pends c [] Unscripted s Unscripted s
pends_now c s = record { part = refl; core = refl; pends = refl }

module _ {D T H G : Type 0} (course : H → HostDef) (c : Component) (m n : AskingMain D) (s : Store T H G) where
  pub may_after : n.spawns ≡ m.spawns → MayStep asking_says course c m s → MayStep asking_says course c n s
  may_after same may = record {
    covered = may.covered;
    order = may.order;
    idle = may.idle;
    suits = tt;
    knows = spawns_same m.spawns.items n.spawns.items s.state (ap (λ v. v.items) same) may.knows;
    works = may.works;
    asked = may.asked;
    few = may.few;
  }

  -- the step of the main that has asked is that of the main before
  pub stepped_before : (q : MainStep) (o : AskingMain D) (t : Store T H G) → HasStepResult asking_says course c q n s o t → HasStepResult asking_says course c q m s o t
  stepped_before q o t did = record {
    steps = did.steps;
    does = did.does;
    told = did.told;
    hook_is_ok = did.hook_is_ok;
    idle = did.idle;
    suits = tt;
    knows = did.knows;
    works = did.works;
    asked = did.asked;
  }

  pub steps_before : (r : Result MainStep TaskError) (o : AskingMain D) (t : Store T H G) → IfOk r (λ q. HasStepResult asking_says course c q n s o t) → IfErr r (λ e. LacksOp e s.listeners t.listeners) → StepsTo asking_says course c r m s o t
  steps_before (Ok q) o t did err = stepped_before q o t did
  steps_before (Err e) o t did err = inl err
