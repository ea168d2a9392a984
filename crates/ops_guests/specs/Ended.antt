-- How an op ends that has answered: whoever had it done gets the answer.
use Rattle.std.specs.Prelude.{Bool, false, true, ℕ}
use Rattle.machine_data.specs.Core.{Core}
use Rattle.ops_guests.specs.declared.op_result.OpResult.{OpResult}
use Rattle.ops_guests.specs.declared.op_result.OpResult.TheVariants as op_result
use Rattle.ops_guests.specs.declared.op_result.OpAnswer.{OpAnswer}
use Rattle.ops_guests.specs.declared.op_result.OpAnswer.TheVariants as op_answer
use Rattle.machine_rules.specs.Finish.{Doer, NoAnswer, OneEvent, OneNumber, finish}

-- the op of n has answered so, and is ended by whoever had it done; where no answer is due nothing is left to do
abbrev pub answered_to : Doer → ℕ → OpAnswer → Core → Core
answered_to d n op_answer.Nothing t = finish d n NoAnswer t
answered_to d n (op_answer.Number v) t = finish d n (OneNumber v) t
answered_to d n (op_answer.Value v) t = finish d n (OneNumber v) t
answered_to d n (op_answer.Event g) t = finish d n (OneEvent g) t
answered_to d n (op_answer.Entered m) t = t
answered_to d n op_answer.NoneDue t = t

-- this of what the op resulted in
abbrev pub ended : Doer → ℕ → OpResult → Core → Core
ended d n (op_result.Continues l m said) t = answered_to d n said t
ended d n _ t = t

-- an answer is due
abbrev pub is_due : OpAnswer → Bool
is_due (op_answer.Entered m) = false
is_due op_answer.NoneDue = false
is_due _ = true

abbrev pub ends_op : OpResult → Bool
ends_op (op_result.Continues l m said) = is_due said
ends_op _ = false

-- it is an event
abbrev pub is_event : OpAnswer → Bool
is_event (op_answer.Event g) = true
is_event _ = false

abbrev pub gives_event : OpResult → Bool
gives_event (op_result.Continues l m said) = is_event said
gives_event _ = false
