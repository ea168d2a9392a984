-- What a wake makes of a state; each id is read as what it names.
use Rattle.std.specs.Prelude.{◌≡◌, Option, true}
use Rattle.task_table.specs.declared.id.TableId.{TableId}
use Rattle.task_wait.specs.declared.keys.SetKey.{SetKey}
use Rattle.task_wait.specs.declared.keys.ThreadKey.{ThreadKey}
use Rattle.machine_data.specs.Moves.{PickedEvent, handed_on, may_hand_on, put_low}
use Rattle.machine_data.specs.Write.{set_op_progress}
use Rattle.core_primitives.specs.Names.{op_progress_in, why_in}
use Rattle.core_primitives.specs.StateView.{StateView, on_core, set_of, thread_if_any, thread_of}
use Rattle.core_primitives.specs.declared.names.OpProgressId.{OpProgressId}
use Rattle.core_primitives.specs.declared.names.WhyId.{WhyId}

-- The wake of a set may be handed on to this waiter, or to none, where this is taken.
abbrev pub MayHandOn : TableId SetKey → PickedEvent → Option (TableId ThreadKey) → StateView → Type 0
MayHandOn set picked waiter s = may_hand_on (set_of s set) picked (thread_if_any s waiter) s.core ≡ true

-- it is
abbrev pub handed_to : TableId SetKey → PickedEvent → Option (TableId ThreadKey) → StateView → StateView
handed_to set picked waiter s = on_core (handed_on (set_of s set) picked (thread_if_any s waiter)) s

-- the thread has an entry at low, and its op got this far
abbrev pub standing_low : TableId ThreadKey → WhyId → OpProgressId → StateView → StateView
standing_low id why progress s =
    on_core (λ c. set_op_progress (thread_of s id) (op_progress_in s.tags progress) (put_low (thread_of s id) (why_in s.tags why) c)) s
