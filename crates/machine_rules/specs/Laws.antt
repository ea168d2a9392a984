-- What holds of every step, and of runs.
use Rattle.std.specs.Prelude.{Bool, IsPermutation, IsTrue, List, None, Option, Some, [], false, true, ℕ, ◌++◌, ◌||◌, ◌∷◌, ◌≡◌, ◌≤◌, ◌⊎◌}
use Rattle.machine_data.specs.declared.records.Call.{Call}
use Rattle.machine_data.specs.declared.records.Entry.{Entry}
use Rattle.machine_data.specs.declared.label.Label.{Label}
use Rattle.machine_data.specs.declared.outcome.Outcome.{Outcome}
use Rattle.machine_data.specs.declared.records.Place.{Place}
use Rattle.machine_data.specs.declared.records.Thread.{Thread}
use Rattle.machine_data.specs.declared.records.Work.{Work}
use Rattle.machine_data.specs.declared.records.Entry.TheVariants as entry
use Rattle.machine_data.specs.declared.records.Place.TheVariants as place
use Rattle.machine_data.specs.declared.records.Turn.TheVariants as turn
use Rattle.machine_data.specs.Core.{Core, State}
use Rattle.machine_data.specs.Maps.{get}
use Rattle.machine_data.specs.Moves.{checked, has_entry, may_wake, passes_check, promoted_unless, released, stopped, wake}
use Rattle.machine_data.specs.Read.{foot_of, instance_of, place_of, task_of}
use Rattle.machine_data.specs.Write.{remove_thread, set_place}
use Rattle.machine_rules.specs.Ends.{blocking_returned, code_stops, held_by_flag, may_tell, passes_after_return, passes_after_stop}
use Rattle.machine_rules.specs.Outcome.{outcome_of_label}
use Rattle.machine_rules.specs.Places.{HasPlace}
use Rattle.machine_rules.specs.Run.{Run}
use Rattle.machine_rules.specs.Stalled.{Setting}
use Rattle.machine_rules.specs.Step.{Step}

-- ---- Every step

-- each step leads to a core to which the core before it has the relation
abbrev pub EachStep : (Core → Core → Type 0) → Type 0
EachStep R = (x : Setting) (s : State) (l : Label) (t : State) → Step x s l t → R s.core t.core

-- no number is given twice: the counts of what was made never fall
pub record NeverFewer (s t : Core) : Type 0 where
  pub threads : s.made.threads ≤ t.made.threads
  pub works : s.made.works ≤ t.made.works
  pub sets : s.made.sets ≤ t.made.sets
  pub groups : s.made.groups ≤ t.made.groups

-- the limits stay, and a trapped store stays trapped
pub record SameLimits (s t : Core) : Type 0 where
  pub handle_limit : s.handle_limit ≡ t.handle_limit
  pub capacity : s.capacity ≡ t.capacity
  pub trapped : IsTrue s.trapped → IsTrue t.trapped

-- What was there is gone, or later by P; what was not there is not there.
abbrev pub LaterBy : {X : Type 0} → (X → X → Type 0) → Option X → Option X → Type 0
LaterBy P None None = Unit {0}
LaterBy P None (Some y) = ⊥
LaterBy P (Some x) None = Unit {0}
LaterBy P (Some x) (Some y) = P x y

-- the thread is of the same call, and made by itself or not
pub record SameThread (t u : Thread) : Type 0 where
  pub call : t.call ≡ u.call
  pub explicit : t.explicit ≡ u.explicit

-- the call is of the same export for the same caller, and what has happened to it stays so: its start has run, Starting was
-- published, a cancel was delivered, it has exited
pub record LaterCall (c d : Call) : Type 0 where
  pub caller : c.caller ≡ d.caller
  pub callee : c.callee ≡ d.callee
  pub kind : c.kind ≡ d.kind
  pub goal : c.goal ≡ d.goal
  pub group : c.group ≡ d.group
  pub started : IsTrue c.started → IsTrue d.started
  pub starting_published : IsTrue c.starting_published → IsTrue d.starting_published
  pub cancel_delivered : IsTrue c.cancel_delivered → IsTrue d.cancel_delivered
  pub exited : IsTrue c.exited → IsTrue d.exited

pub record LaterWork (v w : Work) : Type 0 where
  pub caller : v.caller ≡ w.caller
  pub group : v.group ≡ w.group
  pub cancelled : IsTrue v.cancelled → IsTrue w.cancelled

-- Of the numbers that were given, none comes back once it is gone, and each record stays that of the same thread, call or work.
pub record Steady (s t : Core) : Type 0 where
  pub threads_made : s.made.threads ≤ t.made.threads
  pub works_made : s.made.works ≤ t.made.works
  pub threads : (n : ℕ) → n ≤ s.made.threads → LaterBy SameThread (get s.threads n) (get t.threads n)
  pub calls : (k : ℕ) → k ≤ s.made.threads → LaterBy LaterCall (get s.calls k) (get t.calls k)
  pub works : (i : ℕ) → i ≤ s.made.works → LaterBy LaterWork (get s.works i) (get t.works i)

-- a label that gives an outcome ends the turns
abbrev pub OutcomeEnds : Type 0
OutcomeEnds =
    (x : Setting) (s : State) (l : Label) (t : State) → Step x s l t →
    (o : Outcome) → outcome_of_label l ≡ Some o → t.turn ≡ turn.Over

-- once the turns are over, no label is lawful
abbrev pub OverIsLast : Type 0
OverIsLast = (x : Setting) (s : State) (l : Label) (t : State) → s.turn ≡ turn.Over → Step x s l t → ⊥

-- ---- Runs

-- a run goes on by one step
abbrev pub RunGoesOn : Type 0
RunGoesOn =
    (x : Setting) (s : State) (ls : List Label) (m : State) (l : Label) (t : State) →
    Run x s ls m → Step x m l t → Run x s (ls ++ l ∷ []) t

-- two runs make one
abbrev pub RunsJoin : Type 0
RunsJoin =
    (x : Setting) (s : State) (ls : List Label) (m : State) (ks : List Label) (t : State) →
    Run x s ls m → Run x m ks t → Run x s (ls ++ ks) t

-- what each step keeps, a run keeps
abbrev pub KeptByRuns : (Core → Core → Type 0) → Type 0
KeptByRuns R = (x : Setting) (s : State) (ls : List Label) (t : State) → Run x s ls t → R s.core t.core

-- before the last label of a run no label gives an outcome
abbrev pub OutcomeIsLast : Type 0
OutcomeIsLast =
    (x : Setting) (s : State) (ls : List Label) (l : Label) (k : Label) (t : State) →
    Run x s (ls ++ l ∷ k ∷ []) t → outcome_of_label l ≡ None

-- ---- Promotions

-- The second list is the first one without one entry of the thread; all others keep their order.
pub record Takes (n : ℕ) (was now : List Entry) : Type 0 where
  pub front : List Entry
  pub back : List Entry
  pub before : was ≡ front ++ entry.Thread n ∷ back
  pub after : now ≡ front ++ back

-- One entry of the thread moves from high or from low to switch, where none was; all others stay in order.
pub record Promotes (n : ℕ) (s t : Core) : Type 0 where
  pub none_stood : s.queues.switch ≡ None
  pub stands : t.queues.switch ≡ Some n
  pub moved : (Takes n s.queues.high t.queues.high × (t.queues.low ≡ s.queues.low)) ⊎
      ((t.queues.high ≡ s.queues.high) × Takes n s.queues.low t.queues.low)

-- a check moves nothing, or one entry of the instance
abbrev pub CheckMovesOne : Type 0
CheckMovesOne = (i : ℕ) (s : Core) → (checked i s ≡ s) ⊎ ((n : ℕ) × Promotes n s (checked i s))

-- the promotion of a thread's entry moves nothing, or that one
abbrev pub PromotionMovesOne : Type 0
PromotionMovesOne =
    (n : ℕ) (s : Core) → (has_entry n s.queues.high || has_entry n s.queues.low) ≡ true →
    (promoted_unless n s ≡ s) ⊎ Promotes n s (promoted_unless n s)

-- ---- Tests on the state before

-- the test of a callback's end on the state before is the check that its sentence has after the release and the stop
abbrev pub CallbackCheckIsAfter : Type 0
CallbackCheckIsAfter =
    (n : ℕ) (s : Core) (order : List ℕ) → IsPermutation (held_by_flag (instance_of n s) s) order →
    passes_check (instance_of n s) (code_stops n order s) ≡
    passes_after_stop (instance_of n s) (foot_of n s) (held_by_flag (instance_of n s) s) s

-- ---- The moves of a running thread, in a state in which each thread has its place

-- a place that says nothing of entries and callers
abbrev pub is_free : Place → Bool
is_free (place.Ready m w) = false
is_free (place.Behind f) = false
is_free _ = true

-- n stops at such a place: each thread has its place
unfoldable pub StopKeepsPlaces : Type 0
StopKeepsPlaces =
    (n f : ℕ) (p : Place) (s : Core) → is_free p ≡ true → place_of n s ≡ Some place.Running → ((k : ℕ) → HasPlace k s) → (k : ℕ) →
    HasPlace k (set_place n p (stopped f s))

-- held threads are released, in whatever order
unfoldable pub ReleaseKeepsPlaces : Type 0
ReleaseKeepsPlaces = (n : ℕ) (ns : List ℕ) (s : Core) → place_of n s ≡ Some place.Running → ((k : ℕ) → HasPlace k s) → (k : ℕ) →
    HasPlace k (released ns s)

-- a waiter is woken, whichever is chosen
unfoldable pub WakeKeepsPlaces : Type 0
WakeKeepsPlaces =
    (n x : ℕ) (w : Option ℕ) (s : Core) → may_wake x w s ≡ true → place_of n s ≡ Some place.Running → ((k : ℕ) → HasPlace k s) → (k : ℕ) →
    HasPlace k (wake x w s)

-- the running thread is gone
unfoldable pub RemovalKeepsPlaces : Type 0
RemovalKeepsPlaces = (n : ℕ) (s : Core) → place_of n s ≡ Some place.Running → ((k : ℕ) → HasPlace k s) → (k : ℕ) →
    HasPlace k (remove_thread n s)

-- ---- The exit of a blocking export

-- the test of a blocking export's exit is the check on the state that the release and the return leave, whatever the order of the release
abbrev pub BlockingCheckIsAfter : Type 0
BlockingCheckIsAfter =
    (n : ℕ) (w : Option ℕ) (s : Core) (order : List ℕ) → may_tell (task_of n s) w s ≡ true →
    IsPermutation (held_by_flag (instance_of n s) s) order →
    passes_check (instance_of n s) (blocking_returned n w order s) ≡ passes_after_return n w s
