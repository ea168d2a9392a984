-- Where a run beside aborters is, between its steps.
use Rattle.laws_beside.specs.Courses.{HasCome, IsOn, Own, heard_in}
use Rattle.laws_beside.specs.Own.{calls_from}
use Rattle.laws_beside.specs.Wide.{Round, StepBeside, Wide}
use Rattle.beside_main.specs.Calls.{Adds, AreNoted, Follows, IsRising}
use Rattle.beside_main.specs.Cells.{KeepsCells}
use Rattle.beside_main.specs.declared.asked.Cells.{Cells}
use Rattle.beside_main.specs.declared.main_task.GatedMain.{GatedMain}
use Rattle.beside_main.specs.declared.run.BesideRun.{BesideRun}
use Rattle.store_works.specs.declared.scripted.ScriptedHost.{ScriptedHost}
use Rattle.std.specs.Prelude.{None, [], true, ℕ, ◌*◌, ◌++◌, ◌+◌, ◌∷◌, ◌≡◌, ◌≤◌, ◌^◌}
use Rattle.task_group.specs.declared.hook.NoHook.{NoHook}
use Rattle.task_loop.specs.HasRun.{At, MayRun, at, numbers, setting, state}
use Rattle.task_loop.specs.Says.{Says}
use Rattle.machine_data.specs.Core.{State}
use Rattle.machine_data.specs.declared.component.Component.{Component}
use Rattle.machine_data.specs.declared.component.HostDef.{HostDef}
use Rattle.machine_data.specs.declared.label.Label.{Label}
use Rattle.machine_data.specs.declared.outcome.Outcome.{Outcome}
use Rattle.machine_rules.specs.Outcome.{IsOutcome}
use Rattle.machine_rules.specs.Stalled.{Setting}
use Rattle.task_run.specs.Script.{Suits, part_of, place_of, script_of}
use Rattle.task_run.specs.Spawns.{KnowsSpawns}
use Rattle.ops_turns.specs.Turn.{goes_on}

-- ---- Main and the works

-- what a main with a gate says of itself: what its script says
abbrev pub gated_says : {E : Type 0} → Says (GatedMain E)
gated_says = record {
  part = λ m. part_of m.script;
  script = λ m. script_of m.script;
  suits = λ m c. Suits m.script c;
  knows = λ m s. KnowsSpawns m.script s;
  does = λ m s step n t. Unit {0};
}

abbrev pub course : ScriptedHost → HostDef
course work = work.left

abbrev pub Place : Type 0 → Type 0
Place E = At (GatedMain E) (Unit {0}) ScriptedHost NoHook

abbrev pub place : {E : Type 0} → BesideRun E → Place E
place b = at b.run b.main b.store b.trace

-- The spawns that main has made are noted, their numbers rise, and none is being polled.
pub record HasNoted {E : Type 0} (b : BesideRun E) : Type 0 where
  pub noted : AreNoted b.main.script b.cells.spawns
  pub rising : IsRising 0 (place_of b.main.script).spawns b.store.state.core.made.works
  pub none : b.cells.polled ≡ None

-- The run may take a step, and as many as are left.
pub record Able {E : Type 0} (c : Component) (b : BesideRun E) : Type 0 where
  pub may : MayRun gated_says course c (place b)
  pub few : numbers gated_says course c (place b) + 2 * b.left ≤ 2 ^ 60
  pub noted : HasNoted b

-- ---- The run

-- what the cells list goes on by the calls that a step of the run makes; where it makes none, by none
pub record StepCalls {E : Type 0} (c : Component) (k : ℕ) (a b : BesideRun E) : Type 0 where
  pub one : 1 ≤ k → (l : Label) (t : State) → StepBeside (setting gated_says course c (place a)) (state gated_says course c (place a)) l t →
      b.trace ≡ a.trace ++ l ∷ [] →
      Adds (λ j. calls_from (setting gated_says course c (place a)) j (state gated_says course c (place a)) l) 1 a.cells.list.items
      b.cells.list.items
  pub none : (o : Outcome) → IsOutcome (setting gated_says course c (place a)) (state gated_says course c (place a)) [] k o →
      Adds (λ j. []) 1 a.cells.list.items b.cells.list.items

-- Steps were taken, up to this outcome: what was a run beside aborters goes on as one.
pub record Took {E : Type 0} (c : Component) (o : Outcome) (a b : BesideRun E) : Type 0 where
  pub able : goes_on o ≡ true → Able c b
  pub noted : HasNoted b
  pub knows : KnowsSpawns b.main.script b.store.state
  pub cells : KeepsCells a.cells.list.items b.cells.list.items
  pub concurrent : b.store.concurrent ≡ a.store.concurrent
  pub heard : setting gated_says course c (place b) ≡ setting gated_says course c (place a)
  pub on : (x : Setting) (w : Wide) (r : Round) (steps : ℕ) (own : Own) → setting gated_says course c (place a) ≡ heard_in r x →
      IsOn x w r steps a.left own a.trace (state gated_says course c (place a)) →
      (after : Own) × (HasCome x w r steps b.left o after b.trace (state gated_says course c (place b))
      × Follows r own after a.cells.list.items b.cells.list.items)

-- Some steps were taken, none of which has ended the run.
pub record Continues {E : Type 0} (c : Component) (a b : BesideRun E) : Type 0 where
  pub able : Able c b
  pub cells : KeepsCells a.cells.list.items b.cells.list.items
  pub concurrent : b.store.concurrent ≡ a.store.concurrent
  pub heard : setting gated_says course c (place b) ≡ setting gated_says course c (place a)
  pub on : (x : Setting) (w : Wide) (r : Round) (steps : ℕ) (own : Own) → setting gated_says course c (place a) ≡ heard_in r x →
      IsOn x w r steps a.left own a.trace (state gated_says course c (place a)) →
      (after : Own) × (IsOn x w r steps b.left after b.trace (state gated_says course c (place b))
      × Follows r own after a.cells.list.items b.cells.list.items)

-- what stays of the cells that a run asks
abbrev pub KeepsAsked : Cells → Cells → Type 0
KeepsAsked a b = KeepsCells a.list.items b.list.items × (b.spawns ≡ a.spawns)
