-- What main knows of its spawns stays.
use Rattle.std.proofs.Common.{IfSome, ap, ap₂, inl, inr, refl, subst, sym, ⊎_elim, ◌∙◌}
use Rattle.std.specs.Option.{unwrap_or}
use Rattle.std.specs.Prelude.{[], Err, List, None, Ok, OnOk, IfOk, Option, Result, Some, map, slice_get, suc, zero, ℕ, ◌+◌, ◌++◌, ◌∷◌, ◌≡◌, ◌⊎◌}
use Rattle.ops_calls.specs.MainCalls.{Starts}
use Rattle.task_loop.proofs.LastLemmas.{one_more}
use Rattle.ops_state.specs.declared.error.TaskError.{TaskError}
use Rattle.machine_data.specs.Core.{Core, Main}
use Rattle.machine_data.specs.Read.{phase_of}
use Rattle.machine_data.specs.declared.component.Callee.{Callee}
use Rattle.machine_data.specs.declared.component.Component.{Component}
use Rattle.machine_data.specs.declared.label.Label.{Label}
use Rattle.machine_data.specs.declared.label.MainLabel.TheVariants as main_label
use Rattle.machine_data.specs.declared.records.Turn.TheVariants as turn
use Rattle.machine_data.specs.declared.scenario.MainOpDef.{MainOpDef}
use Rattle.machine_data.specs.declared.trap.Trap.{Trap}
use Rattle.machine_data.specs.declared.statuses.Phase.{Phase}
use Rattle.ops_guests.specs.Works.{KeepsWorks}
use Rattle.machine_rules.specs.MainOps.{Does, main_aborted}
use Rattle.machine_rules.specs.Step.{Step}
use Rattle.task_run.specs.Knows.{knows_later}
use Rattle.task_run.specs.Script.{part_of}
use Rattle.task_run.specs.Spawns.{KnowsSpawns, number_in}
use Rattle.task_store.specs.Spawned.{IsSpawnedIn}
use Rattle.task_run.specs.declared.script.ScriptMain.{ScriptMain}
use Rattle.task_store.specs.declared.spawn.SpawnHandle.{SpawnHandle}
use Rattle.ops_turns.proofs.LaterLemmas.{last_by_core, last_by_step}
use Rattle.ops_turns.specs.Later.{WorksLast}
use Rattle.ops_turns.specs.Main.{Steps, main_setting}
use Rattle.ops_turns.specs.Turn.{CoreInOrder}
use Rattle.ops_turns.specs.declared.mains.MainStep.{MainStep}
use Rattle.ops_turns.specs.declared.mains.MainStep.TheVariants as step
use Rattle.core_primitives.specs.StateView.{StateView}

-- ---- Rows

-- the number of a spawn's work in main's place
pub spawn_number : (hs : List SpawnHandle) (k : ℕ) → unwrap_or (slice_get (map (λ (h : SpawnHandle). h.number) hs) k) 0 ≡ number_in (slice_get hs k)
spawn_number [] k = refl
spawn_number (h ∷ hs) zero = refl
spawn_number (h ∷ hs) (suc k) = spawn_number hs k

-- the phase that an abort found, and the core that it left
pub aborted_rule : (s : Core) (i j k : ℕ) (p : Phase) (t : Core) → i ≡ j → p ≡ phase_of j s → t ≡ main_aborted j s →
    Does (main_label.Abort (phase_of i s) k) (main_aborted i s) ≡ Does (main_label.Abort p k) t
aborted_rule s i j k p t same phase core = ap (λ (n : ℕ). Does (main_label.Abort (phase_of n s) k) (main_aborted n s)) same ∙ ap₂ (λ q new. Does (main_label.Abort q k) new) (sym phase) (sym core)

pub spawn_known : (m : ScriptMain) (s : StateView) (k : ℕ) (o : Option SpawnHandle) → o ≡ slice_get m.spawns.items k → KnowsSpawns m s → IfSome o (λ h. IsSpawnedIn h s)
spawn_known m s k None is knows = tt
spawn_known m s k (Some h) is knows = knows k h (sym is)

-- ---- What main knows

steps_last : (c : Component) (ops : List MainOpDef) (m n : Main) (s t : StateView) (r : MainStep) → CoreInOrder c turn.Main s.core → Steps c ops m s.core r n t.core → KeepsWorks s t → WorksLast s t
unfolding Step
steps_last c ops m n s t (step.Did l) in_turn h names = last_by_step (main_setting c ops) turn.Main turn.Main m n l s t in_turn h.step names
steps_last c ops m n s t step.Pends in_turn h names = last_by_core s t h.core names
steps_last c ops m n s t (step.Answer v) in_turn h names = last_by_core s t h.core names

pub knows_still : (c : Component) (ops : List MainOpDef) (m n : ScriptMain) (s t : StateView) (r : MainStep) → n.spawns ≡ m.spawns → CoreInOrder c turn.Main s.core → Steps c ops (part_of m) s.core r (part_of n) t.core → KeepsWorks s t → KnowsSpawns m s → KnowsSpawns n t
knows_still c ops m n s t r same in_turn steps names knows k h at =
    knows_later m s t (steps_last c ops (part_of m) (part_of n) s t r in_turn steps names) knows k h (sym (ap (λ v. slice_get v.items k) same) ∙ at)

pub knows_result : (c : Component) (ops : List MainOpDef) (m n : ScriptMain) (s t : StateView) (r : Result MainStep TaskError) → n.spawns ≡ m.spawns → CoreInOrder c turn.Main s.core → IfOk r (λ q. Steps c ops (part_of m) s.core q (part_of n) t.core) → KeepsWorks s t → KnowsSpawns m s → OnOk r (KnowsSpawns n t)
knows_result c ops m n s t (Ok q) same in_turn steps names knows = knows_still c ops m n s t q same in_turn steps names knows
knows_result c ops m n s t (Err e) same in_turn steps names knows = tt

-- ---- Ids over calls by the host

pub start_names : (c : Component) (e : Callee) (words : List ℕ) (s t : StateView) (o : Option Trap) (r : Result ℕ TaskError) → Starts c e words s o r t → KeepsWorks s t
start_names c e words s t (Some why) r h id live = h.1.tags.works id live
start_names c e words s t None (Ok n) h id live = h.1.tags.works id live
start_names c e words s t None (Err why) h id live = h.1.tags.works id live

-- ---- A spawn

-- the work that was spawned is known, as the others are
pub knows_more : (c : Component) (ops : List MainOpDef) (a b : Main) (l : Label) (m n : ScriptMain) (s t : StateView) (h : SpawnHandle) → n.spawns.items ≡ m.spawns.items ++ h ∷ [] →
    IsSpawnedIn h t → CoreInOrder c turn.Main s.core → Steps c ops a s.core (step.Did l) b t.core → KeepsWorks s t → KnowsSpawns m s → KnowsSpawns n t
knows_more c ops a b l m n s t h grown spawned in_turn steps names knows k g at =
    ⊎_elim (λ old. knows_later m s t (steps_last c ops a b s t (step.Did l) in_turn steps names) knows k g old)
    (λ same. subst (λ (q : SpawnHandle). IsSpawnedIn q t) same spawned)
    (one_more m.spawns.items h g k (sym (ap (λ (xs : List SpawnHandle). slice_get xs k) grown) ∙ at))
