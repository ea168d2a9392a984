-- The steps of a main that is a script, as the loop takes them.
use Rattle.laws_labels.specs.Tells.{is_start}
use Rattle.std.proofs.Common.{ap, subst, sym}
use Rattle.std.specs.Prelude.{List, false, ◌≡◌}
use Rattle.task_loop.proofs.MainStepLemmas.{stepped_quietly}
use Rattle.task_loop.specs.HasRun.{HasStepResult, MayStep}
use Rattle.machine_data.specs.declared.component.Component.{Component}
use Rattle.machine_data.specs.declared.component.HostDef.{HostDef}
use Rattle.ops_guests.specs.Works.{KeepsWorks}
use Rattle.task_run.proofs.SpawnLemmas.{knows_still}
use Rattle.task_run.specs.Says.{script_says}
use Rattle.task_run.specs.Script.{Suits, SuitsOps, part_of, script_of}
use Rattle.task_run.specs.declared.scenario.MainOp.{MainOp}
use Rattle.task_run.specs.declared.script.ScriptMain.{ScriptMain}
use Rattle.task_store.specs.Hosts.{HoldsHosts}
use Rattle.task_store.specs.declared.store.Store.{Store}
use Rattle.ops_turns.specs.Does.{label_of_step}
use Rattle.ops_turns.specs.Main.{Steps}
use Rattle.ops_turns.specs.Turn.{running_of}
use Rattle.ops_turns.specs.declared.mains.MainStep.{MainStep}

-- the script is the same
pub suits_still : (c : Component) (m n : ScriptMain) → n.ops ≡ m.ops → Suits m c → Suits n c
suits_still c m n same suits = subst (λ (ops : List MainOp). SuitsOps ops c) (sym (ap (λ r. r.now) same)) suits

-- an op that is no start and spawns nothing
pub script_stepped : {T H G : Type 0} (course : H → HostDef) (c : Component) (m : ScriptMain) (s : Store T H G) → MayStep script_says course c m s → (q : MainStep) (n : ScriptMain) (t : Store T H G) →
    n.ops ≡ m.ops → n.spawns ≡ m.spawns → t.listeners ≡ s.listeners → t.state.tags.tracked ≡ s.state.tags.tracked → Steps c (script_of m) (part_of m) s.state.core q (part_of n) t.state.core → is_start (label_of_step q) ≡ false →
    running_of t.state ≡ running_of s.state → KeepsWorks s.state t.state → HoldsHosts course t → HasStepResult script_says course c q m s n t
script_stepped course c m s may q n t ops spawns same known steps quiet idle names works =
    stepped_quietly script_says course c q m s n t same known steps quiet may.asked idle tt (suits_still c m n ops may.suits) (knows_still c (script_of m) m n s.state t.state q spawns may.order steps names may.knows) works
