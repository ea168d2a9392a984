-- What is so of wakes in each reached state.
use Rattle.std.specs.Prelude.{Some, false, true, ℕ, ◌≡◌, ◌⊎◌}
use Rattle.laws_states.specs.Order.{InOrder, is_host_of, is_open, stands}
use Rattle.laws_states.specs.Settings.{Reached}
use Rattle.laws_states.specs.WakeLaw.{CallersGoOn, NoneAdmitted, NoneBlockedOnEnd, WakesCounted}
use Rattle.machine_data.specs.Core.{Core, State}
use Rattle.machine_data.specs.Read.{course_of, place_of}
use Rattle.machine_data.specs.declared.records.Place.TheVariants as place
use Rattle.machine_data.specs.declared.records.Subtask.TheVariants as subtask
use Rattle.machine_rules.specs.Stalled.{Idle, Setting, Stalled, none_admitted, none_blocked_on_end}
use Rattle.machine_rules.specs.Works.{has_end}

-- in each reached state no held thread is admitted, which is line 5 of Stalled
unfoldable pub ReachedHoldBack : Type 0
ReachedHoldBack = (x : Setting) (s : State) → Reached x s → NoneAdmitted s.core × (none_admitted s.core ≡ true)

-- who is blocked on a host's work is so while that hasn't ended, or its entry is queued
abbrev pub BlockedByWorks : Core → Type 0
BlockedByWorks s = (n i : ℕ) → place_of n s ≡ Some (place.Blocked (subtask.Host i)) →
    (has_end (course_of i s) ≡ false) ⊎ (stands (is_host_of i) s.queues.high ≡ 1)

-- in each reached state whose turns aren't over no thread is blocked on an end that is its subtask's event, or on a host's work that has
-- ended and has no entry, which is line 7
unfoldable pub ReachedUnblocked : Type 0
ReachedUnblocked = (x : Setting) (s : State) → Reached x s → is_open s.turn ≡ true →
    NoneBlockedOnEnd s.core × ((none_blocked_on_end s.core ≡ true) × BlockedByWorks s.core)

-- in each reached state whose turns aren't over no caller is behind a stopped strand
unfoldable pub ReachedGoOn : Type 0
ReachedGoOn = (x : Setting) (s : State) → Reached x s → is_open s.turn ≡ true → CallersGoOn s.core

-- in each reached state whose turns aren't over each set that has a waiter has at least as many woken threads as ready members
unfoldable pub ReachedCounted : Type 0
ReachedCounted = (x : Setting) (s : State) → Reached x s → is_open s.turn ≡ true → WakesCounted s.core

-- an idle state in order is stalled
unfoldable pub IdleIsStalled : Type 0
IdleIsStalled = (x : Setting) (s : State) → InOrder x.component s → Idle x s → Stalled x s
