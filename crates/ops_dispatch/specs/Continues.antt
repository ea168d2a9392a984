-- Which thread goes on after an op or a taking.
use Rattle.std.specs.Prelude.{None, Option, Some, option_map, true, ℕ, ◌+◌, ◌≡◌, IfOk, Result}
use Rattle.machine_data.specs.Core.{Core}
use Rattle.machine_data.specs.Labels.{choice_of}
use Rattle.machine_data.specs.Read.{op_progress_of}
use Rattle.ops_guests.specs.OpResult.{Implements, PicksFirst}
use Rattle.ops_guests.specs.Does.{Rule}
use Rattle.ops_guests.specs.Ended.{ended, ends_op}
use Rattle.ops_guests.specs.Stays.{StaysAfter}
use Rattle.ops_guests.specs.Steps.{label_of}
use Rattle.ops_guests.specs.declared.op_result.OpResult.{OpResult}
use Rattle.ops_guests.specs.declared.op_result.OpResult.TheVariants as op_result
use Rattle.machine_rules.specs.Cancels.{Mode, cancel_rule}
use Rattle.machine_rules.specs.Finish.{Doer}
use Rattle.machine_rules.specs.Outcome.{outcome_of_label}
use Rattle.task_table.specs.declared.id.TableId.{TableId}
use Rattle.task_wait.specs.declared.keys.ThreadKey.{ThreadKey}
use Rattle.core_primitives.specs.Preferences.{preference}
use Rattle.core_primitives.specs.StateView.{StateView, thread_of}
use Rattle.machine_data.specs.declared.memory.NoMemory.{NoMemory}

-- the number of the thread that runs
abbrev pub running_of : StateView → Option ℕ
running_of s = option_map (λ id. thread_of s id) s.current

-- a thread that goes on is the one that runs, and what is shown gives no outcome
abbrev pub OpGoesOn : OpResult → StateView → Type 0
OpGoesOn (op_result.Continues l m said) s = (running_of s ≡ Some m) × (outcome_of_label l ≡ None)
OpGoesOn (op_result.Stops l) s = outcome_of_label l ≡ None
OpGoesOn _ s = Unit {0}

-- if a thread goes on, it is this one, and what is shown gives no outcome
abbrev pub Shows : ℕ → OpResult → Type 0
Shows n (op_result.Continues l m said) = (m ≡ n) × (outcome_of_label l ≡ None)
Shows n (op_result.Stops l) = outcome_of_label l ≡ None
Shows n _ = Unit {0}

-- The running thread did an op as its rule says, whoever has it done: its core is the rule's once the op is ended with what it answers, and
-- until then the thread is named as it was. It picked what comes first, a thread that goes on runs, a trap has changed nothing, and of the
-- names that much is kept.
pub record DoesOp (AreKept : StateView → StateView → Type 0) (rule : Rule) (id : TableId ThreadKey) (s : StateView) (r : OpResult)
    (t : StateView) : Type 0 where
  pub implements : (d : Doer) → Implements (rule d (thread_of s id) (choice_of (label_of (thread_of s id) r)) s.core) s.core r
      (ended d (thread_of s id) r t.core)
  pub picks : (d : Doer) → PicksFirst (preference s) (rule d (thread_of s id) (choice_of (label_of (thread_of s id) r)) s.core)
      (label_of (thread_of s id) r) s.core r (ended d (thread_of s id) r t.core)
  pub named : ends_op r ≡ true → thread_of t id ≡ thread_of s id
  pub goes : OpGoesOn r t
  pub stays : StaysAfter r s t
  pub kept : AreKept s t

-- a cancel of what the handle names, by how far the op has come
abbrev pub cancels_here : Mode → (handle : ℕ) → Rule
cancels_here mode h d n ch s = cancel_rule d mode n h s (op_progress_of n s)

-- how many threads, works, sets and groups were made
abbrev pub given : Core → ℕ
given s = s.made.threads + s.made.works + s.made.sets + s.made.groups

-- unless it is out of memory the running thread did an op as its rule says
abbrev pub MayDoOp :
    (StateView → StateView → Type 0) → Rule → TableId ThreadKey → StateView → Result OpResult NoMemory → StateView → Type 0
MayDoOp AreKept rule id s r t = IfOk r (λ done. DoesOp AreKept rule id s done t)
