-- A log put together from what each caller can list, by stages.
use Rattle.std.specs.Prelude.{◌≡◌, ℕ, ◌-◌, ◌≤◌, ◌<◌, Bool, true, false, if◌then◌else◌, List, [], ◌∷◌, ◌++◌, ◌==◌, ◌&&◌, ◌||◌, filter, map, length, Option, Some, None, ◌≢◌, take, drop}
use mathlib.Core.Option.{some}
use lib.ListN.{get_elem?}
use Rattle.machine_data.specs.declared.statuses.Phase.{Phase}
use Rattle.machine_data.specs.declared.statuses.Phase.TheVariants.{Running, AbortRequested, Complete}
use Rattle.task_abort.specs.declared.log.PhaseCall.{PhaseCall}
use Rattle.task_abort.specs.declared.log.PhaseCall.TheVariants.{Abort, PollFuture, PollHandle, Finish}
use Rattle.task_abort.specs.declared.log.LogEntry.{LogEntry}
use Rattle.task_abort.specs.declared.log.CallMade.{CallMade}
use Rattle.task_abort.specs.declared.log.HandleCaller.{HandleCaller}
use Rattle.task_abort.specs.declared.log.PassView.{PassView}
use Rattle.task_abort.specs.PhaseLog.{entry, Log, calls_by, LogBegins, IsLegal, Name}

-- what its caller is told of a call
abbrev pub told_answer : PhaseCall → Phase → Option Phase
told_answer Abort p = Some p
told_answer PollFuture p = Some p
told_answer PollHandle Running = None
told_answer PollHandle AbortRequested = None
told_answer PollHandle Complete = Some Complete
told_answer Finish p = Some p

abbrev pub made : PhaseCall → Option Phase → CallMade
made c answer = record { call = c; answer = answer }

abbrev pub told : {C : Type 0} → LogEntry C → CallMade
told e = made e.call (told_answer e.call e.answer)

-- an aborter's number, and what its aborts found
abbrev pub Aborter : Type 0
Aborter = ℕ × List Phase

abbrev pub aborts_of : Aborter → List (LogEntry ℕ)
aborts_of a = map (λ p. entry a.0 Abort p) a.1

abbrev pub all_aborts : List Aborter → List (LogEntry ℕ)
all_aborts [] = []
all_aborts (a ∷ rest) = aborts_of a ++ all_aborts rest

abbrev pub is_any : List Phase → Bool
is_any [] = false
is_any (p ∷ ps) = true

abbrev pub any_abort : List Aborter → Bool
any_abort [] = false
any_abort (a ∷ rest) = is_any a.1 || any_abort rest

-- a poll of the handle that was pending is entered by whether an abort is known to have come before it
abbrev pub entered_answer : Bool → Option Phase → Phase
entered_answer requested (Some p) = p
entered_answer requested None = if requested then AbortRequested else Running

-- the call was an abort, or answered AbortRequested
abbrev pub tells_request : PhaseCall → Option Phase → Bool
tells_request Abort answer = true
tells_request c (Some AbortRequested) = true
tells_request c answer = false

-- The calls of caller 0, the first n of which were made before the last round; `others`: an aborter has an entry; `requested`: an
-- earlier call was an abort, or answered AbortRequested
abbrev pub entered : ℕ → Bool → Bool → List CallMade → List (LogEntry ℕ)
entered n others requested [] = []
entered n others requested (c ∷ cs) =
    entry 0 c.call (entered_answer (requested || (others && (n == 0))) c.answer)
    ∷ entered (n - 1) others (requested || tells_request c.call c.answer) cs

-- where an entry is: polls that found Running, the abort or finish that found it, what found AbortRequested, the finish that did,
-- and what found Complete
abbrev pub stage : Phase → PhaseCall → ℕ
stage Running Abort = 2
stage Running PollFuture = 1
stage Running PollHandle = 1
stage Running Finish = 2
stage AbortRequested Abort = 3
stage AbortRequested PollFuture = 3
stage AbortRequested PollHandle = 3
stage AbortRequested Finish = 4
stage Complete c = 5

abbrev pub in_stage : {C : Type 0} → ℕ → List (LogEntry C) → List (LogEntry C)
in_stage s es = filter (λ e. stage e.answer e.call == s) es

abbrev pub by_stages : {C : Type 0} → List (LogEntry C) → List (LogEntry C)
by_stages es = in_stage 1 es ++ (in_stage 2 es ++ (in_stage 3 es ++ (in_stage 4 es ++ in_stage 5 es)))

-- the entries of the aborters and those of caller 0, before they are put into stages
abbrev pub all_entries : List CallMade → List Aborter → ℕ → List (LogEntry ℕ)
all_entries own aborters n = all_aborts aborters ++ entered n (any_abort aborters) false own

-- In each stage the aborters' entries are first, in the order of the list, then those of caller 0
abbrev pub staged : List CallMade → List Aborter → ℕ → List (LogEntry ℕ)
staged own aborters n = by_stages (all_entries own aborters n)

-- the entries of one caller
abbrev pub by_number : ℕ → List (LogEntry ℕ) → List (LogEntry ℕ)
by_number k es = filter (λ e. e.caller == k) es

-- the aborters are in the order of their numbers, each of which is above k
abbrev pub Numbered : ℕ → List Aborter → Type 0
Numbered k [] = Unit {0}
Numbered k (a ∷ rest) = (k < a.0) × Numbered a.0 rest

-- each of these callers made aborts alone, and these are what they found
abbrev pub OnlyAborted : List HandleCaller → List Aborter → Type 0
OnlyAborted [] [] = Unit {0}
OnlyAborted [] (a ∷ rest) = ⊥
OnlyAborted (d ∷ ds) [] = ⊥
OnlyAborted (d ∷ ds) (a ∷ rest) = (d.calls ≡ map (λ p. entry d.name Abort p) a.1) × OnlyAborted ds rest

-- the lists are those of a pass and of the passes that were met into it
pub record Lists (v : PassView) (own : List CallMade) (aborters : List Aborter) : Type 0 where
  pub own_calls : own ≡ map told v.own.calls
  pub aborts : OnlyAborted v.met aborters

-- The pass's calls after its first n were made when all calls of the others had been made. Where n is the number of its calls this
-- holds of every pass
pub record LastRound (v : PassView) (n : ℕ) : Type 0 where
  pub early : Log
  pub begins : LogBegins early v.seen
  pub others : (a : ℕ) (d : HandleCaller) → get_elem? v.met a ≡ some d → calls_by d.name early ≡ d.calls
  pub count : length (calls_by v.own.name early) ≤ n

-- ---- What holds of the staged log of a pass that has seen the calls of its callers alone

abbrev pub StagedIsLegal : PassView → Type 0
StagedIsLegal v =
    (own : List CallMade) (aborters : List Aborter) (n : ℕ) → Lists v own aborters → LastRound v n → IsLegal (staged own aborters n)

-- it has the entries of caller 0, and those of each aborter, in their order
abbrev pub StagedKeepsOwn : PassView → Type 0
StagedKeepsOwn v = (own : List CallMade) (aborters : List Aborter) (n : ℕ) → Lists v own aborters → LastRound v n →
    Numbered 0 aborters → by_number 0 (staged own aborters n) ≡ entered n (any_abort aborters) false own

abbrev pub StagedKeepsAborters : PassView → Type 0
StagedKeepsAborters v = (own : List CallMade) (aborters : List Aborter) (n i : ℕ) (a : Aborter) → Lists v own aborters → LastRound v n →
    Numbered 0 aborters → get_elem? aborters i ≡ some a → by_number a.0 (staged own aborters n) ≡ aborts_of a

-- the calls of caller 0 after its first n are last
abbrev pub LateAreLast : PassView → Type 0
LateAreLast v = (own : List CallMade) (aborters : List Aborter) (n : ℕ) → Lists v own aborters → LastRound v n →
    staged own aborters n ≡
    by_stages (all_aborts aborters ++ take n (entered n (any_abort aborters) false own)) ++ drop n (entered n (any_abort aborters) false own)

-- no call before its own finish finds Complete, where the callers that it met made aborts alone
abbrev pub UnfinishedBefore : PassView → Type 0
UnfinishedBefore v = (aborters : List Aborter) (before rest : Log) (e : LogEntry Name) → OnlyAborted v.met aborters →
    v.own.calls ≡ before ++ e ∷ rest → ((m : ℕ) (x : LogEntry Name) → get_elem? before m ≡ some x → x.call ≢ Finish) →
    e.answer ≢ Complete
