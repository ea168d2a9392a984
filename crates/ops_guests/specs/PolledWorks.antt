-- What a poll of a live work resulted in, against what the machine finds.
use Rattle.task_wait.specs.declared.keys.HostTaskKey.{HostTaskKey}
use Rattle.task_table.specs.declared.id.TableId.{TableId}
use Rattle.core_primitives.specs.StateView.{StateView, work_of}
use Rattle.std.specs.Prelude.{None, Some, is_some, ℕ, ◌≡◌}
use Rattle.machine_data.specs.Core.{Core}
use Rattle.machine_data.specs.Write.{set_trapped}
use Rattle.ops_guests.specs.declared.work_ops.Polled.{Polled}
use Rattle.ops_guests.specs.declared.work_ops.Polled.TheVariants as polled
use Rattle.ops_guests.specs.declared.work_ops.PollNews.{PollNews}
use Rattle.ops_guests.specs.declared.work_ops.PollNews.TheVariants as told
use Rattle.machine_data.specs.declared.statuses.HostPoll.{HostPoll}
use Rattle.machine_data.specs.declared.statuses.HostPoll.TheVariants as host_poll
use Rattle.machine_rules.specs.Works.{Asked, Ends, FailsNow, Poll, StillPends, next_polled, poll_ends, poll_pends, poll_of}

-- what a work has answered that has told this; an open one ends with a value alone
abbrev pub answer_in : PollNews → HostPoll
answer_in told.Pends = host_poll.Pending
answer_in (told.Ends None) = host_poll.Failed
answer_in (told.Ends (Some v)) = host_poll.Value v
answer_in told.Fails = host_poll.Failed

-- the work told what the machine finds, or may find of an open one
abbrev pub TellsPoll : PollNews → Poll → Type 0
TellsPoll r (StillPends host) = r ≡ told.Pends
TellsPoll r (Ends v) = r ≡ told.Ends v
TellsPoll r FailsNow = r ≡ told.Fails
TellsPoll r (Asked next) = TellsPoll r (next (answer_in r))

abbrev pub PollImplements : ℕ → Poll → Core → Polled → Core → Type 0
PollImplements i (StillPends host) s r t = (r ≡ polled.Pends (is_some (next_polled i t))) × (t ≡ poll_pends i host s)
PollImplements i (Ends v) s r t = (r ≡ polled.Ends) × (t ≡ poll_ends i v s)
PollImplements i FailsNow s r t = (r ≡ polled.Fails) × (t ≡ set_trapped s)
PollImplements i (Asked next) s r t = (answer : HostPoll) × PollImplements i (next answer) s r t

-- what the core becomes by the poll, of which the work has told this
abbrev pub PolledTo : PollNews → ℕ → Poll → Core → Core → Type 0
PolledTo r i (StillPends host) s t = t ≡ poll_pends i host s
PolledTo r i (Ends v) s t = t ≡ poll_ends i v s
PolledTo r i FailsNow s t = t ≡ set_trapped s
PolledTo r i (Asked next) s t = PolledTo r i (next (answer_in r)) s t

-- The poll of the work that the id names resulted in what the machine finds,
abbrev pub PollsWork : TableId HostTaskKey → StateView → Polled → StateView → Type 0
PollsWork id s r t = PollImplements (work_of s id) (poll_of (work_of s id) s.core) s.core r t.core

-- and the core is what it becomes by what the work has told.
abbrev pub PollsWorkTo : PollNews → TableId HostTaskKey → (old new : StateView) → Type 0
PollsWorkTo r id s t = PolledTo r (work_of s id) (poll_of (work_of s id) s.core) s.core t.core
