-- A main with a gate steps as its script does.
use Rattle.beside_main.specs.Course.{gated_says}
use Rattle.beside_main.specs.declared.main_task.GatedMain.{GatedMain}
use Rattle.ops_state.specs.declared.error.TaskError.{TaskError}
use Rattle.std.proofs.Common.{ap, inl, inr, subst, sym}
use Rattle.std.specs.Prelude.{Err, IfOk, None, Ok, OnErr, Option, Result, Some, ℕ, ◌≡◌}
use Rattle.task_loop.specs.Beside.{HasFound}
use Rattle.task_loop.specs.HasRun.{HasStepResult, MayStep}
use Rattle.task_loop.specs.Hooked.{FailsMain}
use Rattle.machine_data.specs.declared.component.Component.{Component}
use Rattle.machine_data.specs.declared.component.HostDef.{HostDef}
use Rattle.machine_data.specs.declared.memory.NoMemory.{NoMemory}
use Rattle.task_run.specs.Says.{script_says}
use Rattle.task_run.specs.declared.script.ScriptMain.{ScriptMain}
use Rattle.task_store.specs.declared.store.Store.{Store}
use Rattle.core_primitives.specs.StateView.{StateView}
use Rattle.ops_turns.specs.declared.mains.MainStep.{MainStep}

module _ {E T H G : Type 0} (course : H → HostDef) (c : Component) where
  pub may_script : (m : GatedMain E) (s : Store T H G) → MayStep gated_says course c m s → MayStep script_says course c m.script s
  may_script m s may = record {
    covered = may.covered;
    order = may.order;
    idle = may.idle;
    suits = may.suits;
    knows = may.knows;
    works = may.works;
    asked = may.asked;
    few = may.few;
  }

  pub gate_stepped : (q : MainStep) (m n : GatedMain E) (k : ScriptMain) (s t : Store T H G) → n.script ≡ k → HasStepResult script_says course c q m.script s k t → HasStepResult gated_says course c q m s n t
  gate_stepped q m n k s t same stepped = record {
    steps = h.steps;
    does = tt;
    told = h.told;
    hook_is_ok = h.hook_is_ok;
    idle = h.idle;
    suits = h.suits;
    knows = h.knows;
    works = h.works;
    asked = h.asked;
  }
    where
      h : HasStepResult script_says course c q m.script s n.script t
      h = subst (λ (j : ScriptMain). HasStepResult script_says course c q m.script s j t) (sym same) stepped

  pub gate_fails : (e : TaskError) (m : GatedMain E) (n : ScriptMain) (s t : Store T H G) → FailsMain course e m.script n s t → FailsMain course e m (record m { script = n }) s t
  gate_fails e m n s t (inl none) = inl none
  gate_fails e m n s t (inr q) = inr (
    q.0,
    record {
      main = ap (λ (k : ScriptMain). record m { script = k }) q.1.main;
      state = q.1.state;
      hosts = q.1.hosts;
      fails = q.1.fails;
    },
  )

-- so it is asked what other threads have done
pub gate_found : {E : Type 0} (r : Option ℕ) (m : GatedMain E) (n : ScriptMain) (s : StateView) → HasFound script_says r m.script n s → HasFound gated_says r m (record m { script = n }) s
gate_found None m n s found = ap (λ (k : ScriptMain). record m { script = k }) found
gate_found (Some k) m n s found = record {
  place = found.place;
  before = found.before;
  op = found.op;
  after = found.after;
  running = found.running;
  suits = found.suits;
  knows = found.knows;
}

pub founds : {E : Type 0} (r : Result (Option ℕ) NoMemory) (m : GatedMain E) (n : ScriptMain) (s : StateView) → IfOk r (λ found. HasFound script_says found m.script n s) →
    IfOk r (λ found. HasFound gated_says found m (record m { script = n }) s)
founds (Ok found) m n s has = gate_found found m n s has
founds (Err e) m n s has = tt

pub lacks : {E : Type 0} (r : Result (Option ℕ) NoMemory) (m : GatedMain E) (n : ScriptMain) → OnErr r (n ≡ m.script) → OnErr r (record m { script = n } ≡ m)
lacks (Ok found) m n same = tt
lacks (Err e) m n same = ap (λ (q : ScriptMain). record m { script = q }) same
