-- What is known of a step, beside which its primitives are seen.
use Rattle.std.specs.Prelude.{None, Option, Some, ℕ}
use Rattle.machine_data.specs.Core.{Core, Main, State}
use Rattle.machine_data.specs.Moves.{ended}
use Rattle.machine_data.specs.Read.{entry_thread, next_entry}
use Rattle.machine_data.specs.declared.component.Component.{Component}
use Rattle.machine_data.specs.declared.label.Label.{Label}
use Rattle.machine_data.specs.declared.op.Op.{Op}
use Rattle.machine_data.specs.declared.records.Entry.{Entry}
use Rattle.machine_data.specs.declared.records.Turn.{Turn}
use Rattle.machine_data.specs.declared.statuses.Mark.{Mark}
use Rattle.machine_rules.specs.Scripts.{ops_of}
use Rattle.machine_rules.specs.Stalled.{Setting}
use Rattle.machine_rules.specs.Takes.{popped}
use Rattle.machine_data.specs.declared.records.Turn.TheVariants as turn

-- A step as its rule sees it: the core that the rule reads, in which an entry that is taken has left its mark; the thread that runs or was
-- taken; and the turn to which the step leads.
pub record Scene : Type 0 where
  pub setting : Setting
  pub main : Main
  pub turn : Turn
  pub base : Core
  pub runner : Option ℕ
  pub label : Label
  pub next : Turn
  -- the op of each thread
  pub ops : ℕ → Op

abbrev pub component_of : Scene → Component
component_of a = a.setting.component

abbrev pub base_without : Option (Mark × Entry) → Core → Core
base_without None s = s
base_without (Some e) s = popped e.0 s

abbrev pub thread_of_entry : Option (Mark × Entry) → Option ℕ
thread_of_entry None = None
thread_of_entry (Some e) = entry_thread e.1

-- the core that the rule reads
abbrev pub base_at : Turn → Core → Core
base_at (turn.Take ended) s = base_without (next_entry s) s
base_at _ s = s

-- who runs, or is taken
abbrev pub runner_at : Turn → Core → Option ℕ
runner_at (turn.Run n) s = Some n
runner_at (turn.Take ended) s = thread_of_entry (next_entry s)
runner_at _ s = None

-- the scene of a step from s that shows the label and leads to the turn, where each thread has this op
abbrev pub scene_as : (ℕ → Op) → Setting → State → Label → Turn → Scene
scene_as ops x s l next =
    record {
      setting = x;
      main = s.main;
      turn = s.turn;
      base = base_at s.turn s.core;
      runner = runner_at s.turn s.core;
      label = l;
      next = next;
      ops = ops;
    }

-- the scene, where each thread has the op at its place
abbrev pub scene_of : Setting → State → Label → Turn → Scene
scene_of x s l next = scene_as (ops_of x.component s.core) x s l next

-- the op of the running thread
abbrev pub op_in : Scene → ℕ → Op
op_in a n = a.ops n
