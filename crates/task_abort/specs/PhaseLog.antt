-- What a call finds and leaves, which logs are legal, and what a pass knows of a log.
use Rattle.std.specs.Prelude.{◌≡◌, ℕ, zero, suc, ◌+◌, Bool, true, false, List, [], ◌∷◌, ◌++◌, ◌==◌, ◌&&◌, filter, nat_eq}
use Rattle.std.specs.Cmp.Lexicographic.{pointwise}
use Rattle.machine_data.specs.declared.statuses.Phase.{Phase}
use Rattle.machine_data.specs.declared.statuses.Phase.TheVariants.{Running, AbortRequested, Complete}
use Rattle.task_abort.specs.declared.log.PhaseCall.{PhaseCall}
use Rattle.task_abort.specs.declared.log.PhaseCall.TheVariants.{Abort, PollFuture, PollHandle, Finish}
use Rattle.task_abort.specs.declared.log.LogEntry.{LogEntry}
use Rattle.task_abort.specs.declared.log.HandleCaller.{HandleCaller}
use Rattle.task_abort.specs.declared.log.PassView.{PassView}

-- the number by which the word represents a phase
abbrev pub code : Phase → ℕ
code Running = 0
code AbortRequested = 1
code Complete = 2

abbrev pub phase_of_code : ℕ → Phase
phase_of_code zero = Running
phase_of_code (suc zero) = AbortRequested
phase_of_code (suc (suc n)) = Complete

-- the phase that a call leaves where it finds this one
abbrev pub after : PhaseCall → Phase → Phase
after Abort Running = AbortRequested
after Abort AbortRequested = AbortRequested
after Abort Complete = Complete
after PollFuture p = p
after PollHandle p = p
after Finish p = Complete

abbrev pub entry : {C : Type 0} → C → PhaseCall → Phase → LogEntry C
entry by c p = record { caller = by; call = c; answer = p }

-- the phase after these calls, from this one on
abbrev pub phase_from : {C : Type 0} → Phase → List (LogEntry C) → Phase
phase_from p [] = p
phase_from p (e ∷ es) = phase_from (after e.call p) es

-- whether each answer is the phase found
abbrev pub is_legal_from : {C : Type 0} → Phase → List (LogEntry C) → Bool
is_legal_from p [] = true
is_legal_from p (e ∷ es) = (code e.answer == code p) && is_legal_from (after e.call p) es

abbrev pub phase : {C : Type 0} → List (LogEntry C) → Phase
phase log = phase_from Running log

abbrev pub IsLegal : {C : Type 0} → List (LogEntry C) → Type 0
IsLegal log = is_legal_from Running log ≡ true

-- the first pass has the empty name, and the k-th pass that was split off has the splitter's name followed by k
abbrev pub Name : Type 0
Name = List ℕ

abbrev pub Log : Type 0
Log = List (LogEntry (List ℕ))

abbrev pub same_name : Name → Name → Bool
same_name m n = pointwise nat_eq m n

abbrev pub calls_by : Name → Log → Log
calls_by n log = filter (λ e. same_name e.caller n) log

-- the log begins with what was seen
abbrev pub LogBegins : Log → Log → Type 0
LogBegins seen log = (rest : Log) × (log ≡ seen ++ rest)

-- the pass's own name and calls, and those of the passes that were met into it
abbrev pub callers : PassView → List HandleCaller
callers v = v.own ∷ v.met

abbrev pub new_caller : Name → HandleCaller
new_caller n = record { name = n; calls = []; splits = 0 }

abbrev pub first_view : PassView
first_view = record { spent = false; own = new_caller []; met = []; seen = []; heard = [] }

-- the first pass, as long as it was never split
abbrev pub IsFirst : PassView → Type 0
IsFirst v = (v.own.name ≡ []) × (v.own.splits ≡ 0)

-- a pass after it was split, and the new pass
abbrev pub split_left : PassView → PassView
split_left v = record v { own = record v.own { splits = v.own.splits + 1 } }

abbrev pub split_right : PassView → PassView
split_right v = record { spent = false; own = new_caller (v.own.name ++ v.own.splits ∷ []); met = []; seen = v.seen; heard = [] }

-- a pass after the first step of a meet, and what is left of the other
abbrev pub joined : PassView → PassView → PassView
joined v w = record v { met = v.met ++ callers w; heard = w.seen }

abbrev pub spent_view : PassView
spent_view = record { spent = true; own = new_caller []; met = []; seen = []; heard = [] }
