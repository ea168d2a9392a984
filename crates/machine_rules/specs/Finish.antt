-- Who has an op done, and what becomes of its answer.
use Rattle.std.specs.Prelude.{ℕ, ◌+◌}
use Rattle.machine_data.specs.Core.{Core}
use Rattle.machine_data.specs.Statuses.{status_code}
use Rattle.machine_data.specs.Write.{set_op_progress, set_register}
use Rattle.machine_data.specs.declared.records.OpProgress.TheVariants as op_progress
use Rattle.machine_data.specs.declared.statuses.Given.{Given}
use Rattle.machine_data.specs.declared.statuses.Given.TheVariants as given
use Rattle.machine_rules.specs.Data.{advanced, assigned}

-- What an op that is done answers: nothing, a number, or an event, as its code, its handle and its result.
pub data OpAnswer : Type 0 where
  NoAnswer : OpAnswer
  OneNumber : (value : ℕ) → OpAnswer
  OneEvent : (given : Given) → OpAnswer

-- Who has the running thread do an op: its own script, which has a register for the answer; or a host, which gets the answer.
pub data Doer : Type 0 where
  OwnScript : (register : ℕ) → Doer
  SomeHost : Doer

abbrev pub given_code : Given → ℕ
given_code given.Nothing = 0
given_code (given.Subtask e h) = 1
given_code given.Cancelled = 6

abbrev pub given_handle : Given → ℕ
given_handle (given.Subtask e h) = h
given_handle _ = 0

abbrev pub given_result : Given → ℕ
given_result (given.Subtask e h) = status_code e
given_result _ = 0

-- code, handle and result are in r and the two registers after it
unfoldable pub set_given : ℕ → ℕ → Given → Core → Core
set_given n r v s =
    let first = set_register n r (given_code v) s in
    set_register n (r + 2) (given_result v) (set_register n (r + 1) (given_handle v) first)

-- Moves the thread past its op, which is done. In a script the answer goes to the op's register, and the thread to the next op; for
-- a host the thread's registers and its place in its script stay. No op of it is under way any more.
abbrev pub finish : Doer → ℕ → OpAnswer → Core → Core
finish (OwnScript r) n NoAnswer s = advanced n s
finish (OwnScript r) n (OneNumber v) s = assigned n r v s
finish (OwnScript r) n (OneEvent v) s = advanced n (set_given n r v s)
finish SomeHost n a s = set_op_progress n op_progress.Fresh s
