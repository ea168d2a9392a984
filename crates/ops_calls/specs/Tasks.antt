-- What a call whose thread is New results in.
use Rattle.std.specs.Prelude.{◌+◌, ◌≡◌, Bool, Err, None, Ok, Option, Result, Some, [], false, if◌then◌else◌, true, ℕ}
use Rattle.ops_state.specs.Named.{IsLive}
use Rattle.core_primitives.specs.BecomesRecord.{BecomesWith}
use Rattle.ops_state.specs.declared.error.TaskError.{TaskError}
use Rattle.ops_state.specs.declared.error.TaskError.TheVariants as task_error
use Rattle.ops_state.specs.declared.name_calls.QualifiedThreadId.{QualifiedThreadId}
use Rattle.machine_data.specs.Core.{Core}
use Rattle.machine_data.specs.Read.{thread_group}
use Rattle.machine_data.specs.Write.{add_group, set_trapped}
use Rattle.machine_data.specs.declared.component.Callee.{Callee}
use Rattle.machine_data.specs.declared.component.ExportKind.{ExportKind}
use Rattle.machine_data.specs.declared.records.Caller.TheVariants as caller
use Rattle.machine_data.specs.declared.records.Goal.TheVariants as goal
use Rattle.machine_data.specs.declared.trap.Trap.TheVariants as trap
use Rattle.machine_rules.specs.Calls.{call_made, next_thread}
use Rattle.core_primitives.specs.StateView.{Keeps, KeepsWith, StateView, Tags, thread_of}
use Rattle.machine_data.specs.declared.component.Component.{Component}
use Rattle.machine_data.specs.declared.records.Turn.{Turn}
use Rattle.machine_rules.specs.Scripts.{export_kind}
use Rattle.ops_turns.specs.Turn.{CoreInOrder}

-- the entries of a call: itself, its thread, the thread's sync-call set, and a group where it has no caller
abbrev pub entries_of : Option QualifiedThreadId → ℕ
entries_of (Some id) = 3
entries_of None = 4

abbrev pub first_export : ℕ → Callee
first_export i = record { instance = i; export = 0 }

-- the core with a call more of this kind and this instance, in the group of the caller's call or in a new one
abbrev pub task_made : ExportKind → ℕ → Option QualifiedThreadId → StateView → Core
task_made x i (Some id) s =
    call_made (caller.Thread (thread_of s id.thread)) (first_export i) x goal.Nowhere (thread_group (thread_of s id.thread) s.core)
    [] s.core
task_made x i None s = call_made caller.Main (first_export i) x goal.Nowhere (s.core.made.groups + 1) [] (add_group s.core)

-- in a trapped store all groups are finished, and so is a new one
abbrev pub task_begun : ExportKind → ℕ → Option QualifiedThreadId → StateView → Core
task_begun x i f s = if s.core.trapped then set_trapped (task_made x i f s) else task_made x i f s

-- what is kept of the tags: a group more is tracked where it has no caller
abbrev pub KeepsFor : Option QualifiedThreadId → StateView → Tags → Tags → Type 0
KeepsFor (Some id) s = Keeps
KeepsFor None s = KeepsWith (s.core.made.groups + 1)

-- The call was made, and the id names its thread, which has the next number.
pub record IsBegun (x : ExportKind) (i : ℕ) (f : Option QualifiedThreadId) (s t : StateView) (id : QualifiedThreadId) : Type 0 where
  pub becomes : BecomesWith (KeepsFor f s) (task_begun x i f s) s t
  pub live : IsLive t id
  pub number : thread_of t id.thread ≡ next_thread s.core

-- Its entries don't fit, and nothing is changed; else it was made, or it is out of memory, and then the state is as before.
abbrev pub Begins : ExportKind → ℕ → Option QualifiedThreadId → StateView → (room : Bool) → Result QualifiedThreadId TaskError → StateView →
    Type 0
Begins x i f s false r t = (r ≡ Err (task_error.Trap trap.TableFull)) × (t ≡ s)
Begins x i f s true (Ok id) t = IsBegun x i f s t id
Begins x i f s true (Err why) t = (why ≡ task_error.NoMemory) × (t ≡ s)

-- Order is kept in each component whose first export of the instance is of this kind.
abbrev pub TaskKeepsOrder : ExportKind → ℕ → Core → Core → Type 0
TaskKeepsOrder x i s t = (c : Component) → (p : Turn) → x ≡ export_kind c (first_export i) → CoreInOrder c p s → CoreInOrder c p t
