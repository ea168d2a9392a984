-- The first waiter of a set is the one that is woken.
use Rattle.std.specs.Prelude.{IfSome, None, Option, Some, true, ◌≡◌}
use Rattle.task_table.specs.declared.id.TableId.{TableId}
use Rattle.task_wait.specs.declared.keys.SetKey.{SetKey}
use Rattle.task_wait.specs.declared.keys.ThreadKey.{ThreadKey}
use Rattle.machine_data.specs.Read.{is_waiter}
use Rattle.core_primitives.specs.Changes.{ComesFirst, IsFirstToWake}
use Rattle.core_primitives.specs.StateView.{StateView, set_of, thread_of}

pub first_to_wake : (set : TableId SetKey) (waiter : Option (TableId ThreadKey)) (s : StateView) → IfSome waiter (λ id. is_waiter (set_of s set) (thread_of s id) s.core ≡ true)
    → IfSome waiter (λ id. ComesFirst set id s) → IfSome waiter (λ id. IsFirstToWake id s)
first_to_wake set None s waits first = tt
first_to_wake set (Some id) s waits first = record { set = set_of s set; waits = waits; first = first }
