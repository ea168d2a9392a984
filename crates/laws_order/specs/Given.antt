-- An op that the running thread is given, and that isn't read off its script, keeps order.
use Rattle.std.specs.Prelude.{Bool, List, None, Option, Some, false, if◌then◌else◌, is_some, length, true, ℕ, ◌+◌, ◌==◌, ◌≡◌, ◌≤◌}
use Rattle.laws_order.specs.Pieces.{IsPrepared, InOrderForAnyMain, InOrderForAnyMainAs, SameInstances}
use Rattle.laws_states.specs.Order.{InOrder, InOrderAs, is_open}
use Rattle.machine_data.specs.Core.{Core, State}
use Rattle.machine_data.specs.Labels.{choice_of}
use Rattle.machine_data.specs.Moves.{behind_one, put_switch}
use Rattle.machine_data.specs.Read.{call_instance, op_progress_of, is_async_lifted, kind_of, position_of}
use Rattle.machine_data.specs.Write.{set_op_progress}
use Rattle.machine_data.specs.declared.component.Callee.{Callee}
use Rattle.machine_data.specs.declared.component.Component.{Component}
use Rattle.machine_data.specs.declared.component.HostDef.{HostDef}
use Rattle.machine_data.specs.declared.label.Label.{Label}
use Rattle.machine_data.specs.declared.op.CallOp.TheVariants as call_op
use Rattle.machine_data.specs.declared.op.Op.{Op}
use Rattle.machine_data.specs.declared.op.Op.TheVariants as op
use Rattle.machine_data.specs.declared.op.TaskOp.{TaskOp}
use Rattle.machine_data.specs.declared.op.TaskOp.TheVariants as task_op
use Rattle.machine_data.specs.declared.records.OpProgress.TheVariants as op_progress
use Rattle.machine_data.specs.declared.records.Subtask.TheVariants as subtask
use Rattle.machine_data.specs.declared.records.Turn.TheVariants as turn
use Rattle.machine_data.specs.declared.records.Why.TheVariants as why
use Rattle.machine_rules.specs.Calls.{call_clears_flag, call_host_by, call_sync_host_by, enter_rule, first_polled}
use Rattle.machine_rules.specs.Finish.{SomeHost}
use Rattle.machine_rules.specs.OpParts.{callee_of_op, ends_activation, is_data_op, is_sync_call}
use Rattle.machine_rules.specs.Progress.{Continues, Progress}
use Rattle.machine_rules.specs.Scripts.{export_kind, ops_of, script_of}
use Rattle.machine_rules.specs.Stalled.{Setting}
use Rattle.machine_rules.specs.Step.{Progresses, Step, StepAs, scripted_op_rule, op_rule, own_script}
use Rattle.laws_order.specs.WakesKept.{NoWakeLost}

-- the thread n has this op, and each other one its own
abbrev pub given : ℕ → Op → (ℕ → Op) → ℕ → Op
given n o ops m = if m == n then o else ops m

-- A step of a run is one in which each thread has the op at its place, and back.
unfoldable pub SameSteps : Type 0
SameSteps = (x : Setting) (s : State) (l : Label) (t : State) →
    (Step x s l t → StepAs own_script (ops_of x.component s.core) x s l t) × (StepAs own_script (ops_of x.component s.core) x s l t → Step x s l t)

-- The running thread does the op that it has, which ends no activation, by its rule, and isn't at its script's end. Order in which it has
-- that op, and each other thread the one at its place, stays.
unfoldable pub GivenSteps : Type 0
GivenSteps = (x : Setting) (o : Op) (n : ℕ) (s t : State) (l : Label) → s.turn ≡ turn.Run n → ends_activation o ≡ false →
    position_of n s.core + 1 ≤ length (script_of x.component n s.core) → InOrderAs (given n o (ops_of x.component s.core)) x.component s →
    Progresses s s.core n (scripted_op_rule x.component n s.core (choice_of l) o) l t →
    InOrderAs (given n o (ops_of x.component t.core)) x.component t

-- So does any op that it does, where none of its own is under way.
unfoldable pub GivenKeeps : Type 0
GivenKeeps = (x : Setting) (o : Op) (n : ℕ) (s t : State) (l : Label) → s.turn ≡ turn.Run n → ends_activation o ≡ false →
    op_progress_of n s.core ≡ op_progress.Fresh → position_of n s.core + 1 ≤ length (script_of x.component n s.core) → InOrder x.component s →
    Progresses s s.core n (scripted_op_rule x.component n s.core (choice_of l) o) l t →
    InOrderAs (given n o (ops_of x.component t.core)) x.component t

-- Where the op is done the thread runs on, and no op of it is under way: then the state is in order as it is.
unfoldable pub GivenDone : Type 0
GivenDone = (x : Setting) (o : Op) (n : ℕ) (t : State) → t.turn ≡ turn.Run n → op_progress_of n t.core ≡ op_progress.Fresh →
    InOrderAs (given n o (ops_of x.component t.core)) x.component t → InOrder x.component t

-- ---- As a host has the op done

-- A host has the running thread do the op that it has, which is none on registers and memory cells and ends no activation, wherever
-- it is in its script. Order in which it has that op, and each other thread the one at its place, stays.
unfoldable pub HostSteps : Type 0
HostSteps = (x : Setting) (o : Op) (n : ℕ) (s t : State) (l : Label) → s.turn ≡ turn.Run n → ends_activation o ≡ false →
    is_data_op o ≡ false → InOrderAs (given n o (ops_of x.component s.core)) x.component s →
    Progresses s s.core n (op_rule SomeHost x.component n s.core (choice_of l) o) l t →
    InOrderAs (given n o (ops_of x.component t.core)) x.component t

-- So does any such op, where none of the thread is under way.
unfoldable pub HostKeeps : Type 0
HostKeeps = (x : Setting) (o : Op) (n : ℕ) (s t : State) (l : Label) → s.turn ≡ turn.Run n → ends_activation o ≡ false →
    is_data_op o ≡ false → op_progress_of n s.core ≡ op_progress.Fresh → InOrder x.component s →
    Progresses s s.core n (op_rule SomeHost x.component n s.core (choice_of l) o) l t →
    InOrderAs (given n o (ops_of x.component t.core)) x.component t

-- No wake is lost by it, as far as it came: where it is refused the turns are over.
unfoldable pub HostLosesNone : Type 0
HostLosesNone = (x : Setting) (o : Op) (n : ℕ) (s t : State) (l : Label) → s.turn ≡ turn.Run n → ends_activation o ≡ false →
    is_data_op o ≡ false → op_progress_of n s.core ≡ op_progress.Fresh → InOrder x.component s →
    Progresses s s.core n (op_rule SomeHost x.component n s.core (choice_of l) o) l t → is_open t.turn ≡ true → NoWakeLost t.core

-- it ends neither the thread nor an activation
abbrev pub is_host_task_op : TaskOp → Bool
is_host_task_op (task_op.Ret x) = true
is_host_task_op (task_op.RetBad x) = true
is_host_task_op task_op.TaskCancel = true
is_host_task_op task_op.BpInc = true
is_host_task_op task_op.BpDec = true
is_host_task_op _ = false

-- an op that names neither an export nor a host, ends neither the thread nor an activation, and isn't plain
abbrev pub is_host_op : Op → Bool
is_host_op (op.Task o) = is_host_task_op o
is_host_op (op.Set o) = true
is_host_op (op.Call (call_op.Cancel r x)) = true
is_host_op (op.Call (call_op.CancelSync r x)) = true
is_host_op (op.Call (call_op.Drop x)) = true
is_host_op (op.Thread o) = true
is_host_op _ = false

-- Where one of `is_host_op` (no export, no host, no end, not plain) is done the thread runs on, and the state is in order, wherever the thread
-- is in its script, also at its end.
unfoldable pub HostDone : Type 0
HostDone = (x : Setting) (o : Op) (n m : ℕ) (s t : State) (l : Label) → s.turn ≡ turn.Run n → is_host_op o ≡ true →
    op_progress_of n s.core ≡ op_progress.Fresh → InOrder x.component s →
    Progresses s s.core n (op_rule SomeHost x.component n s.core (choice_of l) o) l t → t.turn ≡ turn.Run m → (m ≡ n) × InOrder x.component t

-- It makes no instance, and takes none away.
unfoldable pub HostInstances : Type 0
HostInstances = (x : Setting) (o : Op) (n : ℕ) (s t : State) (l : Label) → s.turn ≡ turn.Run n → is_data_op o ≡ false →
    Progresses s s.core n (op_rule SomeHost x.component n s.core (choice_of l) o) l t → SameInstances s.core t.core

-- ---- As a host calls a host

-- an op that calls a host: one that goes on, with a register for the value, or one that waits for it; no state says which host it names
abbrev pub host_op : Option ℕ → Op
host_op (Some q) = op.Call (call_op.CallHost 0 q 0)
host_op None = op.Call (call_op.CallSyncHost 0 0)

-- its rule, of a work that does what this says
abbrev pub host_rule : Option ℕ → HostDef → ℕ → Core → Progress
host_rule (Some q) host n s = first_polled host (call_host_by SomeHost n q s)
host_rule None host n s = first_polled host (call_sync_host_by SomeHost n s)

-- Where a host has the thread call a host, which need be none of the component, order stays in which the thread has an op that calls one.
unfoldable pub HostCallsKeep : Type 0
HostCallsKeep = (x : Setting) (host : HostDef) (q : Option ℕ) (n : ℕ) (s t : State) (l : Label) → s.turn ≡ turn.Run n →
    op_progress_of n s.core ≡ op_progress.Fresh → InOrder x.component s → Progresses s s.core n (host_rule q host n s.core) l t →
    InOrderAs (given n (host_op q) (ops_of x.component t.core)) x.component t × SameInstances s.core t.core

-- Where it goes on the thread runs on, and the state is in order, wherever the thread is in its script.
unfoldable pub HostCallsDone : Type 0
HostCallsDone = (x : Setting) (host : HostDef) (q : Option ℕ) (n m : ℕ) (s t : State) (l : Label) → s.turn ≡ turn.Run n →
    op_progress_of n s.core ≡ op_progress.Fresh → InOrder x.component s → Progresses s s.core n (host_rule q host n s.core) l t →
    t.turn ≡ turn.Run m → (m ≡ n) × InOrder x.component t

-- ---- As a host calls an export

-- The running thread calls an export directly, with any values, and the call's thread goes on: order stays in which the thread has a sync call
-- of that export, wherever it is in its script.
unfoldable pub EnterKeeps : Type 0
EnterKeeps = (c : Component) (o : Op) (e : Callee) (words : List ℕ) (n m : ℕ) (l : Label) (new s : Core) → callee_of_op o ≡ Some e →
    is_sync_call o ≡ true → is_async_lifted (export_kind c e) ≡ false → op_progress_of n s ≡ op_progress.Fresh →
    enter_rule n e (export_kind c e) words s ≡ Continues l new m → InOrderForAnyMain c (turn.Run n) s →
    InOrderForAnyMainAs (given n o (ops_of c new)) c (turn.Run m) new × SameInstances s new

-- the core in which the start of the call m is queued, and n is behind it
abbrev pub start_queued : (n m : ℕ) → Core → Core
start_queued n m s =
    set_op_progress n (op_progress.Calls (subtask.Guest m))
    (behind_one m n (call_clears_flag n (call_instance m s) (kind_of m s) (put_switch m why.Start s)))

-- The start of a call is queued that was prepared before, whatever was done in between, and no thread goes on: order stays in which the
-- thread has an op that calls an export, wherever it is in its script.
unfoldable pub StartKeeps : Type 0
StartKeeps = (c : Component) (o : Op) (n m : ℕ) (s : Core) → IsPrepared n m s → is_some (callee_of_op o) ≡ true → InOrderForAnyMain c (turn.Run n) s →
    InOrderForAnyMainAs (given n o (ops_of c (start_queued n m s))) c turn.Main (start_queued n m s) × SameInstances s (start_queued n m s)
