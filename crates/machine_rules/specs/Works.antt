-- The polls of live host works by the loop.
use Rattle.std.specs.List.{list_any}
use Rattle.std.specs.Prelude.{Bool, List, None, Option, Some, [], if◌then◌else◌, nat_lt, not, suc, zero, ℕ, ◌&&◌, ◌||◌, ◌∷◌, false, true}
use Rattle.machine_data.specs.declared.records.Course.{Course}
use Rattle.machine_data.specs.declared.component.HostDef.{HostDef}
use Rattle.machine_data.specs.declared.component.HostDef.TheVariants as host_def
use Rattle.machine_data.specs.declared.statuses.HostPoll.{HostPoll}
use Rattle.machine_data.specs.declared.statuses.HostPoll.TheVariants as host_poll
use Rattle.machine_data.specs.declared.statuses.Phase.{Phase}
use Rattle.machine_data.specs.declared.records.Work.{Work}
use Rattle.machine_data.specs.declared.records.WorkCaller.{WorkCaller}
use Rattle.machine_data.specs.declared.records.Subtask.{Subtask}
use Rattle.machine_data.specs.declared.records.Course.TheVariants as course
use Rattle.machine_data.specs.declared.records.Entry.TheVariants as entry
use Rattle.machine_data.specs.declared.statuses.Phase.TheVariants as phase
use Rattle.machine_data.specs.declared.records.Stage.TheVariants as stage
use Rattle.machine_data.specs.declared.records.Subtask.TheVariants as subtask
use Rattle.machine_data.specs.declared.records.WorkCaller.TheVariants as work_caller
use Rattle.machine_data.specs.Core.{Core}
use Rattle.machine_data.specs.Moves.{unblocked}
use Rattle.machine_data.specs.Read.{blocked_on, course_of, is_aborted, is_live, is_never, is_stage_ended, phase_of, stage_of, work_caller_of}
use Rattle.machine_data.specs.Write.{push_high, set_course, set_phase, set_stage}

-- a host's work that has ended and has no entry: one whose entry is finishing
abbrev pub is_ended_work : Subtask → Core → Bool
is_ended_work (subtask.Guest k) s = false
is_ended_work (subtask.Host i) s = is_stage_ended (stage_of i s)

-- the work has come to an end
abbrev pub has_end : Course → Bool
has_end (course.Continues host) = false
has_end _ = true

-- the live works with numbers above n, in order of number
abbrev pub live_after : ℕ → List (ℕ × Work) → List ℕ
live_after n [] = []
live_after n (e ∷ es) = if is_live e.1 && nat_lt n e.0 then e.0 ∷ live_after n es else live_after n es

abbrev pub first_number : List ℕ → Option ℕ
first_number [] = None
first_number (n ∷ ns) = Some n

-- the work that is polled next, where those up to n were
unfoldable pub next_polled : ℕ → Core → Option ℕ
next_polled n s = first_number (live_after n s.works.list)

-- What a poll by the loop finds.
pub data Poll : Type 0 where
  StillPends : (left : HostDef) → Poll
  -- with a value, or without one where it was aborted
  Ends : (value : Option ℕ) → Poll
  FailsNow : Poll
  -- the work is open: whatever it answers
  Asked : (next : HostPoll → Poll) → Poll

abbrev pub ends_with : Option ℕ → Poll
ends_with None = FailsNow
ends_with (Some v) = Ends (Some v)

-- an open work is open until it ends
abbrev pub heard : HostPoll → Poll
heard host_poll.Pending = StillPends host_def.Open
heard (host_poll.Value v) = Ends (Some v)
heard host_poll.Failed = FailsNow

abbrev pub polled_again : HostDef → Poll
polled_again (host_def.Settled None value) = StillPends (host_def.Settled None value)
polled_again (host_def.Settled (Some zero) value) = ends_with value
polled_again (host_def.Settled (Some (suc polls)) value) = StillPends (host_def.Settled (Some polls) value)
polled_again host_def.Open = Asked heard

abbrev pub polled_course : Course → Poll
polled_course (course.Continues host) = polled_again host
polled_course (course.Value v) = Ends (Some v)
polled_course course.NoValue = Ends None

-- an aborted work ends at its next poll, without a value
abbrev pub polled_in : Phase → Course → Poll
polled_in phase.AbortRequested c = Ends None
polled_in p c = polled_course c

unfoldable pub poll_of : ℕ → Core → Poll
poll_of i s = polled_in (phase_of i s) (course_of i s)

-- one poll fewer is left
unfoldable pub poll_pends : ℕ → HostDef → Core → Core
poll_pends i host s = set_course i (course.Continues host) s

abbrev pub course_for : Option ℕ → Course
course_for None = course.NoValue
course_for (Some v) = course.Value v

-- an async host call becomes a high entry, who is blocked on a sync one goes to high, and a spawn is done
abbrev pub followed : WorkCaller → ℕ → Core → Core
followed work_caller.Spawn i s = set_stage i stage.Ended s
followed (work_caller.Async n q) i s = push_high (entry.Host i) (set_stage i stage.Finishing s)
followed (work_caller.Sync n) i s = unblocked (blocked_on (subtask.Host i) s) (set_stage i stage.Ended s)

-- the work ends with this value, or without one
unfoldable pub poll_ends : ℕ → Option ℕ → Core → Core
poll_ends i v s = followed (work_caller_of i s) i (set_phase i phase.Complete (set_course i (course_for v) s))

-- some live work is polled to no end: it isn't never, or it is aborted
abbrev pub is_moving : Work → Bool
is_moving w = is_live w && (not (is_never w.course) || is_aborted w.phase)

unfoldable pub has_moving_work : Core → Bool
has_moving_work s = list_any (λ e. is_moving e.1) s.works.list

unfoldable pub has_live_work : Core → Bool
has_live_work s = list_any (λ e. is_live e.1) s.works.list
