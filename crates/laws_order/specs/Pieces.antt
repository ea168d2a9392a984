-- Pieces of rules keep order, whatever the op at the thread's place is.
use Rattle.std.specs.Prelude.{is_some, List, Some, false, true, ℕ, ◌≡◌, ◌≤◌}
use Rattle.laws_states.specs.Order.{InOrder, InOrderAs, is_open}
use Rattle.laws_states.specs.WakeLaw.{WakesCounted}
use Rattle.machine_data.specs.Core.{Core, Main, State}
use Rattle.machine_data.specs.Moves.{promoted_unless, put_switch}
use Rattle.machine_data.specs.declared.component.Component.{Component}
use Rattle.machine_data.specs.declared.label.Label.{Label}
use Rattle.machine_data.specs.declared.op.Op.{Op}
use Rattle.machine_data.specs.declared.records.Turn.{Turn}
use Rattle.machine_data.specs.declared.records.Turn.TheVariants as turn
use Rattle.machine_data.specs.declared.records.Why.{Why}
use Rattle.machine_data.specs.Read.{goal_of, op_progress_of, is_direct, is_explicit, task_of}
use Rattle.machine_data.specs.Maps.{get}
use Rattle.machine_data.specs.Write.{set_register}
use Rattle.machine_data.specs.declared.records.OpProgress.TheVariants as op_progress
use Rattle.machine_data.specs.Read.{thread_group}
use Rattle.machine_data.specs.declared.component.Callee.{Callee}
use Rattle.machine_data.specs.declared.records.Caller.{Caller}
use Rattle.machine_data.specs.declared.records.Caller.TheVariants as caller
use Rattle.machine_data.specs.declared.records.Goal.{Goal}
use Rattle.machine_data.specs.Read.{place_of}
use Rattle.machine_data.specs.declared.component.ExportKind.{ExportKind}
use Rattle.machine_data.specs.declared.records.Place.TheVariants as place
use Rattle.machine_rules.specs.Allowed.{HasCalled}
use Rattle.machine_rules.specs.Calls.{call_made, next_thread}
use Rattle.machine_rules.specs.Chains.{Walked}
use Rattle.machine_rules.specs.Ends.{direct_exit_rule}
use Rattle.machine_rules.specs.Progress.{Continues}
use Rattle.machine_rules.specs.Scripts.{export_kind}
use Rattle.machine_rules.specs.Laws.{Steady}
use Rattle.machine_rules.specs.Stalled.{Setting}
use Rattle.machine_rules.specs.Threads.{has_yielded, resume_why}

-- the state with this core and this part of main, at this turn
abbrev pub state_in : Main → Turn → Core → State
state_in m p s = record { core = s; main = m; turn = p }

-- the core is in order at this turn, whatever main's part is
abbrev pub InOrderForAnyMain : Component → Turn → Core → Type 0
InOrderForAnyMain c p s = (m : Main) → InOrder c (state_in m p s)

-- the core is in order at this turn, whatever main's part is, and each thread has this op
abbrev pub InOrderForAnyMainAs : (ℕ → Op) → Component → Turn → Core → Type 0
InOrderForAnyMainAs ops c p s = (m : Main) → InOrderAs ops c (state_in m p s)

-- the same instances are there, and the same tables of handles
pub record SameInstances (s t : Core) : Type 0 where
  pub instances : (i : ℕ) → is_some (get t.instances i) ≡ is_some (get s.instances i)
  pub handles : (i : ℕ) → is_some (get t.handles i) ≡ is_some (get s.handles i)

-- where s is in order at the turn p, t is at q, with the same instances
abbrev pub KeepsOrder : Component → Turn → Core → Turn → Core → Type 0
KeepsOrder c p s q t = InOrderForAnyMain c p s → InOrderForAnyMain c q t × SameInstances s t

-- A walk of primitives, each where it may be done, leads from a state in order to one, where records stay those of the same and
-- wakes are counted at its end.
unfoldable pub WalkedInOrder : Type 0
WalkedInOrder = (x : Setting) (s : State) (l : Label) (t : State) → is_open s.turn ≡ true → InOrder x.component s → Walked x s l t →
    Steady s.core t.core → (is_open t.turn ≡ true → WakesCounted t.core) → InOrder x.component t

-- ---- Another thread goes first

-- the running thread goes on, and another one that may be resumed has the switch entry
unfoldable pub ResumeKeeps : Type 0
ResumeKeeps = (c : Component) (n k : ℕ) (w : Why) (s : Core) → resume_why k s ≡ Some w →
    KeepsOrder c (turn.Run n) s (turn.Run n) (put_switch k w s)

-- the running thread goes on, and the entry of another one that has yielded moves to switch, unless one is there
unfoldable pub PromoteKeeps : Type 0
PromoteKeeps = (c : Component) (n k : ℕ) (s : Core) → has_yielded k s ≡ true →
    KeepsOrder c (turn.Run n) s (turn.Run n) (promoted_unless k s)

-- ---- The exit of a direct call

-- the first thread of a direct call, no op of which is under way, exits, whatever the op at its place is, and m goes on
unfoldable pub ExitKeeps : Type 0
ExitKeeps = (c : Component) (n m : ℕ) (l : Label) (new s : Core) → is_explicit n s ≡ false → is_direct (goal_of (task_of n s) s) ≡ true →
    op_progress_of n s ≡ op_progress.Fresh → direct_exit_rule n s ≡ Continues l new m → KeepsOrder c (turn.Run n) s (turn.Run m) new

-- a register of the running thread is written
unfoldable pub RegisterKeeps : Type 0
RegisterKeeps = (c : Component) (n r v : ℕ) (s : Core) → KeepsOrder c (turn.Run n) s (turn.Run n) (set_register n r v s)

-- ---- Calls of exports

-- A call of any export is made, for anybody and for any goal of a queued call, and its thread is New. Whosever turn it is, that stays.
unfoldable pub PrepareKeeps : Type 0
PrepareKeeps = (c : Component) (p : Turn) (f : Caller) (e : Callee) (g : Goal) (group : ℕ) (words : List ℕ) (s : Core) →
    is_direct g ≡ false → KeepsOrder c p s p (call_made f e (export_kind c e) g group words s)

-- The running thread n, no op of which is under way, has made the call m, of which nothing has become: its thread is New, and its start is
-- to be queued.
pub record IsPrepared (n m : ℕ) (s : Core) : Type 0 where
  pub fresh : op_progress_of n s ≡ op_progress.Fresh
  pub new : place_of m s ≡ Some place.New
  pub implicit : is_explicit m s ≡ false
  pub queued : is_direct (goal_of (task_of m s) s) ≡ false
  pub called : HasCalled n m s

-- so it is of a call as it is made
unfoldable pub PrepareMakes : Type 0
PrepareMakes = (n : ℕ) (e : Callee) (x : ExportKind) (g : Goal) (words : List ℕ) (s : Core) → n ≤ s.made.threads →
    op_progress_of n s ≡ op_progress.Fresh → is_direct g ≡ false →
    IsPrepared n (next_thread s) (call_made (caller.Thread n) e x g (thread_group n s) words s)
