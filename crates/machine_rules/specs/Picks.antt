-- What is picked where a step leaves a choice: which waiter is woken, which member's event is taken, in which order threads are released.
use Rattle.std.specs.List.{list_any}
use Rattle.std.specs.Ordering.{is_lt, nat_cmp, ordering_then}
use Rattle.std.specs.Prelude.{Bool, IfSome, List, None, Option, Some, [], false, if◌then◌else◌, not, true, unwrap_or, ℕ, ◌&&◌, ◌==◌, ◌≡◌, ◌∷◌}
use Rattle.machine_data.specs.Core.{Core, State}
use Rattle.machine_data.specs.Labels.{choice_of, woken_of}
use Rattle.machine_data.specs.Maps.{Records, get}
use Rattle.machine_data.specs.Read.{came_of, instance_of, is_ready_member, is_waiter, same_subtask, subtask_at}
use Rattle.machine_data.specs.declared.label.Label.TheVariants as label
use Rattle.machine_data.specs.declared.label.Label.{Label}
use Rattle.machine_data.specs.declared.label.SetLabel.TheVariants as set
use Rattle.machine_data.specs.declared.label.SetLabel.{SetLabel}
use Rattle.machine_data.specs.declared.label.TakeLabel.TheVariants as take
use Rattle.machine_data.specs.declared.label.TakeLabel.{TakeLabel}
use Rattle.machine_data.specs.declared.records.Subtask.TheVariants as subtask
use Rattle.machine_data.specs.declared.records.Subtask.{Subtask}
use Rattle.machine_data.specs.declared.statuses.Given.TheVariants as given
use Rattle.machine_data.specs.declared.statuses.Given.{Given}
use Rattle.machine_data.specs.declared.statuses.HostPoll.{HostPoll}
use Rattle.machine_data.specs.declared.records.Turn.TheVariants as turn
use Rattle.machine_data.specs.declared.records.Turn.{Turn}
use Rattle.machine_data.specs.declared.scenario.Version.TheVariants as version
use Rattle.machine_data.specs.declared.scenario.Version.{Version}
use Rattle.machine_rules.specs.Progress.{Asks, Continues, OneOf, Ordered, Progress, Stops, may}
use Rattle.machine_rules.specs.Stalled.{Setting}
use Rattle.machine_rules.specs.Step.{Progresses, TurnStep, did}

-- ---- Places of the resource table

-- The places of a thread's call and of the thread itself.
pub record ThreadSeat : Type 0 where
  pub task : ℕ
  pub own : ℕ

-- The places of what is there, by its number.
pub record Seats : Type 0 where
  pub threads : Records ThreadSeat
  pub calls : Records ℕ
  pub works : Records ℕ

-- that of a thread, a call and a host work; default: the first
abbrev pub thread_seat : Seats → ℕ → ThreadSeat
thread_seat p n = unwrap_or (get p.threads n) (record { task = 0; own = 0 })

abbrev pub call_seat : Seats → ℕ → ℕ
call_seat p k = unwrap_or (get p.calls k) 0

abbrev pub work_seat : Seats → ℕ → ℕ
work_seat p i = unwrap_or (get p.works i) 0

-- ---- What comes first

-- By what is picked: what is wanted comes first, of held threads in this order. Then of two threads that wait or are held the one that
-- comes before the other so, and of all else what has the lesser place.
pub record Preference : Type 0 where
  pub waiter : Option ℕ
  pub member : Option Subtask
  pub held : List ℕ
  pub earlier : ℕ → ℕ → Bool
  pub seats : Seats

-- threads by the place of their task, then by their own
abbrev pub seat_before : ThreadSeat → ThreadSeat → Bool
seat_before a b = is_lt (ordering_then (nat_cmp a.task b.task) (nat_cmp a.own b.own))

abbrev pub thread_before : Seats → ℕ → ℕ → Bool
thread_before p m n = seat_before (thread_seat p m) (thread_seat p n)

-- in version 1 by their places, in version 2 by when they began to wait or to be held
abbrev pub earlier_by : Version → (came : ℕ → ℕ) → Seats → ℕ → ℕ → Bool
earlier_by version.One came p m n = thread_before p m n
earlier_by version.Two came p m n = is_lt (nat_cmp (came m) (came n))

-- as the core has it
abbrev pub earlier_in : Core → Seats → ℕ → ℕ → Bool
earlier_in s p m n = earlier_by s.version (λ k. came_of k s) p m n

-- host works come before calls, each by its place
abbrev pub subtask_before : Seats → Subtask → Subtask → Bool
subtask_before p (subtask.Host i) (subtask.Host j) = is_lt (nat_cmp (work_seat p i) (work_seat p j))
subtask_before p (subtask.Host i) (subtask.Guest k) = true
subtask_before p (subtask.Guest k) (subtask.Host i) = false
subtask_before p (subtask.Guest k) (subtask.Guest q) = is_lt (nat_cmp (call_seat p k) (call_seat p q))

-- m comes before n by which of the two is first in the list; if neither is in it, it is as said
abbrev pub listed_before : List ℕ → ℕ → ℕ → Bool → Bool
listed_before [] m n otherwise = otherwise
listed_before (k ∷ ks) m n otherwise = if k == n then false else (if k == m then true else listed_before ks m n otherwise)

abbrev pub held_before : Preference → ℕ → ℕ → Bool
held_before p m n = listed_before p.held m n (p.earlier m n)

abbrev pub waiter_or : Option ℕ → ℕ → ℕ → Bool → Bool
waiter_or None m n otherwise = otherwise
waiter_or (Some w) m n otherwise = if w == n then false else (if w == m then true else otherwise)

abbrev pub waiter_before : Preference → ℕ → ℕ → Bool
waiter_before p m n = waiter_or p.waiter m n (p.earlier m n)

-- of the threads that a cancel may take the least by its own place is taken
abbrev pub cancel_before : Preference → ℕ → ℕ → Bool
cancel_before p m n = waiter_or p.waiter m n (is_lt (nat_cmp (thread_seat p.seats m).own (thread_seat p.seats n).own))

abbrev pub member_or : Option Subtask → Subtask → Subtask → Bool → Bool
member_or None sub other otherwise = otherwise
member_or (Some x) sub other otherwise = if same_subtask x other then false else (if same_subtask x sub then true else otherwise)

abbrev pub member_before : Preference → Subtask → Subtask → Bool
member_before p sub other = member_or p.member sub other (subtask_before p.seats sub other)

-- ---- What is picked

-- no waiter of the set comes before this thread
abbrev pub IsFirstWaiter : Preference → ℕ → Core → ℕ → Type 0
IsFirstWaiter p x s w = (n : ℕ) → is_waiter x n s ≡ true → waiter_before p n w ≡ false

-- no ready member of the set comes before this one
abbrev pub IsFirstMember : Preference → ℕ → Core → Subtask → Type 0
IsFirstMember p x s sub = (other : Subtask) → is_ready_member x other s ≡ true → member_before p other sub ≡ false

-- no thread of the list comes before one that is earlier in it
abbrev pub goes_in_order : Preference → List ℕ → Bool
goes_in_order p [] = true
goes_in_order p (n ∷ ns) = not (list_any (λ m. held_before p m n) ns) && goes_in_order p ns

-- The thread waited on a set, as the first of its waiters.
pub record WakesFirst (p : Preference) (s : Core) (w : ℕ) : Type 0 where
  pub set : ℕ
  pub waits : is_waiter set w s ≡ true
  pub first : IsFirstWaiter p set s w

-- A thread of the instance took the event of what this handle names, as that of the first ready member of a set.
pub record TakesFirst (p : Preference) (s : Core) (instance handle : ℕ) : Type 0 where
  pub set : ℕ
  pub member : Subtask
  pub named : subtask_at instance handle s ≡ Some member
  pub ready : is_ready_member set member s ≡ true
  pub first : IsFirstMember p set s member

-- ---- What a label shows

abbrev pub taken_of_given : ℕ → Given → Option (ℕ × ℕ)
taken_of_given n (given.Subtask status handle) = Some (n, handle)
taken_of_given n _ = None

abbrev pub taken_of_take : TakeLabel → Option (ℕ × ℕ)
taken_of_take (take.Event m g n) = taken_of_given n g
taken_of_take _ = None

abbrev pub taken_of_set : SetLabel → Option (ℕ × ℕ)
taken_of_set (set.Wait g n) = taken_of_given n g
taken_of_set (set.Poll g n) = taken_of_given n g
taken_of_set _ = None

-- the thread that took a member's event, and the member's handle
abbrev pub taken_of : Label → Option (ℕ × ℕ)
taken_of (label.Take l) = taken_of_take l
taken_of (label.Set l) = taken_of_set l
taken_of _ = None

-- What the label of a step from s shows of its choices is what comes first: the waiter that was woken, and the member whose event was taken.
pub record ShowsFirst (p : Preference) (s : Core) (l : Label) : Type 0 where
  pub waiter : IfSome (woken_of l) (WakesFirst p s)
  pub member : IfSome (taken_of l) (λ e. TakesFirst p s (instance_of e.0 s) e.1)

-- ---- What a step does

-- as the rule, with each release in the order of the preference, and the first of threads that the label doesn't show
abbrev pub in_order : Preference → Progress → Progress
in_order p (Ordered ns next) = Ordered ns (λ order. may (goes_in_order p order) (in_order p (next order)))
in_order p (OneOf ns next) = OneOf ns (λ m. may (not (list_any (λ n. cancel_before p n m) ns)) (in_order p (next m)))
in_order p (Asks next) = Asks (λ answer. in_order p (next answer))
in_order p row = row

-- only the op of a thread that runs releases threads
abbrev pub TurnStepIn : Preference → Setting → State → Turn → Label → State → Type 0
TurnStepIn p x s (turn.Run n) l t = Progresses s s.core n (in_order p (did x.component n s.core (choice_of l))) l t
TurnStepIn p x s q l t = TurnStep x s q l t

-- From s the machine may show the label, and then is in t, where each release goes in the order of the preference.
unfoldable pub StepIn : Preference → Setting → State → Label → State → Type 0
StepIn p x s l t = TurnStepIn p x s s.turn l t

-- the rule releases no thread, and takes none that its label doesn't show
abbrev pub ReleasesNone : Progress → Type 0
ReleasesNone (Ordered ns next) = ⊥
ReleasesNone (OneOf ns next) = ⊥
ReleasesNone (Asks next) = (answer : HostPoll) → ReleasesNone (next answer)
ReleasesNone _ = Unit {0}

-- the label shows nothing of a choice
abbrev pub Silent : Label → Type 0
Silent l = (woken_of l ≡ None) × (taken_of l ≡ None)

-- the rule leaves no choice: its labels show none, and it releases no thread
abbrev pub LeavesNoChoice : Progress → Type 0
LeavesNoChoice (Continues l new m) = Silent l
LeavesNoChoice (Stops l new) = Silent l
LeavesNoChoice (Ordered ns next) = ⊥
LeavesNoChoice (OneOf ns next) = ⊥
LeavesNoChoice (Asks next) = (answer : HostPoll) → LeavesNoChoice (next answer)
LeavesNoChoice _ = Unit {0}

-- The step picks what comes first.
pub record Picks (p : Preference) (x : Setting) (s : State) (l : Label) (t : State) : Type 0 where
  pub shows : ShowsFirst p s.core l
  pub step : StepIn p x s l t
