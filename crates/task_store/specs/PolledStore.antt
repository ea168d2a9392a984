-- A poll of a host work by the loop.
use Rattle.std.specs.Prelude.{◌||◌, Bool, Option, Some, ℕ}
use Rattle.machine_data.specs.declared.statuses.HostPoll.{HostPoll}
use Rattle.machine_data.specs.declared.statuses.HostPoll.TheVariants as answers
use Rattle.machine_data.specs.Core.{Core}
use Rattle.machine_data.specs.Read.{course_of, is_aborted, phase_of}
use Rattle.machine_data.specs.Write.{set_trapped}
use Rattle.ops_guests.specs.declared.work_ops.PollNews.{PollNews}
use Rattle.ops_guests.specs.declared.work_ops.PollNews.TheVariants as told
use Rattle.ops_turns.specs.Worked.{PollsWork}
use Rattle.task_store.specs.Hosts.{HoldsWorks}
use Rattle.store_works.specs.KeptWorks.{HeldWork}
use Rattle.machine_rules.specs.Works.{Asked, Ends, FailsNow, Poll, StillPends, has_end, poll_ends, poll_pends}

-- what a work tells that answers this
abbrev pub told_of : HostPoll → PollNews
told_of answers.Pending = told.Pends
told_of (answers.Value v) = told.Ends (Some v)
told_of answers.Failed = told.Fails

-- the core after a poll that results in this
abbrev pub polled_core : ℕ → Poll → Core → Core
polled_core i (StillPends host) s = poll_pends i host s
polled_core i (Ends v) s = poll_ends i v s
polled_core i FailsNow s = set_trapped s
polled_core i (Asked next) s = s

-- the store holds what the core has once it has become, by the poll of the work, what the work has told
abbrev pub HoldsPolled : PollNews → ℕ → (ℕ → Option HeldWork) → Core → Type 0
HoldsPolled r i held s = (t : Core) → PollsWork r i s t → HoldsWorks held t

-- it was aborted, or has ended, and isn't polled
abbrev pub is_over : ℕ → Core → Bool
is_over i s = is_aborted (phase_of i s) || has_end (course_of i s)
