-- The orders in which a set hands out its members and wakes its waiters.
use Rattle.std.specs.Prelude.{ℕ}
use Rattle.std.specs.declared.cmp.Ordering.{Ordering}
use Rattle.std.specs.Ordering.{nat_cmp, ordering_then}
use Rattle.task_wait.specs.declared.keys.Waitable.{Waitable}
use Rattle.task_wait.specs.declared.keys.Waitable.TheVariants.{Host, Guest, Transmit}
use Rattle.task_wait.specs.declared.keys.WaiterKey.{WaiterKey}

-- by the place of the task, then of the thread, then by the thread's serial
abbrev pub waiter_order : WaiterKey → WaiterKey → Ordering
waiter_order a b = ordering_then (nat_cmp a.task b.task) (ordering_then (nat_cmp a.thread b.thread) (nat_cmp a.serial b.serial))

-- a waitable's kind, and its id's place and serial
abbrev pub kind_number : Waitable → ℕ
kind_number (Host id) = 0
kind_number (Guest id) = 1
kind_number (Transmit id) = 2

abbrev pub place : Waitable → ℕ
place (Host id) = id.rep
place (Guest id) = id.rep
place (Transmit id) = id.rep

abbrev pub serial : Waitable → ℕ
serial (Host id) = id.serial
serial (Guest id) = id.serial
serial (Transmit id) = id.serial

-- by the kind, then by the id's place, then by its serial
abbrev pub waitable_order : Waitable → Waitable → Ordering
waitable_order a b =
    ordering_then (nat_cmp (kind_number a) (kind_number b)) (ordering_then (nat_cmp (place a) (place b)) (nat_cmp (serial a) (serial b)))
