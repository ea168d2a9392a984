-- What happens at most once in a run.
use Rattle.std.specs.List.{list_any}
use Rattle.std.specs.Option.{option_map_or, option_or}
use Rattle.std.specs.Prelude.{Bool, IsTrue, List, None, Option, Some, [], count_by, false, filter, if◌then◌else◌, is_some, not, option_and_then, option_map, true, ℕ, ◌&&◌, ◌==◌, ◌||◌, ◌∷◌, ◌≤◌}
use Rattle.machine_data.specs.declared.records.CallEnd.{CallEnd}
use Rattle.machine_data.specs.declared.component.Component.{Component}
use Rattle.machine_data.specs.declared.records.Course.{Course}
use Rattle.machine_data.specs.declared.label.Label.{Label}
use Rattle.machine_data.specs.declared.records.Place.{Place}
use Rattle.machine_data.specs.declared.statuses.Status.{Status}
use Rattle.machine_data.specs.declared.statuses.Status.TheVariants as status
use Rattle.machine_data.specs.declared.records.Subtask.{Subtask}
use Rattle.machine_data.specs.declared.records.CallEnd.TheVariants as call_end
use Rattle.machine_data.specs.declared.records.Course.TheVariants as course
use Rattle.machine_data.specs.declared.label.Label.TheVariants as label
use Rattle.machine_data.specs.declared.records.Place.TheVariants as place
use Rattle.machine_data.specs.declared.records.Subtask.TheVariants as subtask
use Rattle.machine_data.specs.declared.label.TakeLabel.TheVariants as take
use Rattle.machine_data.specs.declared.label.TaskLabel.TheVariants as task_label
use Rattle.machine_data.specs.declared.records.Why.TheVariants as why
use Rattle.machine_data.specs.Core.{Core}
use Rattle.machine_data.specs.Maps.{get}
use Rattle.machine_data.specs.Read.{event_of, goal_of, instance_of, is_direct, is_explicit, is_holding, kind_of, place_of, same_subtask, task_of, undelivered_end}
use Rattle.machine_data.specs.Statuses.{status_code}
use Rattle.machine_rules.specs.History.{Moment}
use Rattle.machine_rules.specs.SubtaskEnds.{SubtaskEnd, direct_answered, direct_return, end_for, handed_by, written_by}

-- ---- The end in a subtask's record

abbrev pub call_end_code : Option CallEnd → ℕ
call_end_code None = 0
call_end_code (Some call_end.Returned) = 1
call_end_code (Some call_end.StartCancelled) = 2
call_end_code (Some call_end.ReturnCancelled) = 3

abbrev pub course_code : Course → ℕ
course_code (course.Continues host) = 0
course_code (course.Value v) = 1
course_code course.NoValue = 2

-- the subtask's end as a number: 0 for none, and None if it is in no map
abbrev pub end_code : Subtask → Core → Option ℕ
end_code (subtask.Guest k) s = option_map (λ c. call_end_code c.«end») (get s.calls k)
end_code (subtask.Host i) s = option_map (λ w. course_code w.course) (get s.works i)

-- from one end to the other: an end is new, or another one; a subtask that leaves the maps without one had it in the same step
abbrev pub is_written : Option ℕ → Option ℕ → Bool
is_written None after = false
is_written (Some before) None = before == 0
is_written (Some before) (Some after) = not (after == 0) && not (after == before)

-- the end in the subtask's record is a new one, or another one
abbrev pub changes_end : Subtask → Moment → Bool
changes_end sub m = is_written (end_code sub m.before.core) (end_code sub m.after.core)

abbrev pub is_other : Option Status → Option Status → Bool
is_other (Some e) (Some x) = not (status_code e == status_code x)
is_other _ _ = false

-- an end that was not handed out gives way to another one
abbrev pub covers_end : Subtask → Moment → Bool
covers_end sub m = is_other (undelivered_end (event_of sub m.before.core)) (undelivered_end (event_of sub m.after.core))

-- ---- Once

abbrev pub written : Component → Moment → Option SubtaskEnd
written c m = written_by c m.before.core m.label m.after.core

-- with the direct call that returns in the step, each with the thread to which it returned; the last one is first
abbrev pub with_return : Moment → List (ℕ × ℕ) → List (ℕ × ℕ)
with_return m rs = option_map_or (λ r. r ∷ rs) (direct_return m.before.core m.label) rs

-- the call that returned last to the thread
abbrev pub last_return : ℕ → List (ℕ × ℕ) → Option ℕ
last_return n [] = None
last_return n (r ∷ rs) = if n == r.0 then Some r.1 else last_return n rs

abbrev pub answering : Moment → Option ℕ
answering m = direct_answered m.before.core m.label

-- the end of a direct call, where the `call_sync` that made it answers
abbrev pub answered_end : List (ℕ × ℕ) → Moment → Option SubtaskEnd
answered_end rs m = option_map (λ k. end_for status.Returned (subtask.Guest k)) (option_and_then (λ n. last_return n rs) (answering m))

-- what the step hands out, after these direct returns: that of a direct call when its `call_sync` answers, and not as it exits
abbrev pub handed : Component → List (ℕ × ℕ) → Moment → Option SubtaskEnd
handed c rs m = if is_some (direct_return m.before.core m.label) then None else
    option_or (handed_by c m.before.main m.before.core m.label m.after.core) (answered_end rs m)

abbrev pub is_end_of : Subtask → Option SubtaskEnd → Bool
is_end_of sub e = option_map_or (λ x. same_subtask sub x.subtask) e false

-- the step writes an end of the subtask: its label says so, or what the state keeps of it changes so
abbrev pub writes_end : Component → Subtask → Moment → Bool
writes_end c sub m = is_end_of sub (written c m) || (changes_end sub m || covers_end sub m)

-- what each step hands out, after these direct returns
abbrev pub handed_in : Component → List (ℕ × ℕ) → List Moment → List (Option SubtaskEnd)
handed_in c rs [] = []
handed_in c rs (m ∷ ms) = handed c rs m ∷ handed_in c (with_return m rs) ms

abbrev pub same_end : SubtaskEnd → SubtaskEnd → Bool
same_end x y = same_subtask x.subtask y.subtask && (status_code x.status == status_code y.status)

abbrev pub with_end : Option SubtaskEnd → List SubtaskEnd → List SubtaskEnd
with_end None ends = ends
with_end (Some e) ends = e ∷ ends

abbrev pub is_known : List SubtaskEnd → Option SubtaskEnd → Bool
is_known ends None = true
is_known ends (Some e) = list_any (same_end e) ends

-- what a `call_sync` answers of a direct call, a direct call returned
abbrev pub answers_return : List (ℕ × ℕ) → Moment → Bool
answers_return rs m = option_map_or (λ n. is_some (last_return n rs)) (answering m) true

-- after these ends and direct returns, what a step hands out is an end that it or a step before it wrote, with the same status
abbrev pub hands_out_written : Component → List (ℕ × ℕ) → List SubtaskEnd → List Moment → Bool
hands_out_written c rs ends [] = true
hands_out_written c rs ends (m ∷ ms) =
    let known = with_end (written c m) ends in
    is_known known (handed c rs m) && (answers_return rs m && hands_out_written c (with_return m rs) known ms)

-- Each end is written at most once, and at most one step hands it out, with the status with which it was written.
pub record EndsOnce (c : Component) (ms : List Moment) : Type 0 where
  pub written_once : (sub : Subtask) → count_by (writes_end c sub) ms ≤ 1
  pub handed_once : (sub : Subtask) → count_by (is_end_of sub) (handed_in c [] ms) ≤ 1
  pub as_written : IsTrue (hands_out_written c [] [] ms)

-- ---- Holders

abbrev pub is_start : Place → Bool
is_start (place.Ready m why.Start) = true
is_start _ = false

-- a first start of a callback or blocking export
abbrev pub holds_at_start : ℕ → Core → Bool
holds_at_start n s = not (is_explicit n s) && (is_holding (kind_of (task_of n s) s) && option_map_or is_start (place_of n s) false)

abbrev pub holder_at_start : ℕ → Core → Option ℕ
holder_at_start n s = if holds_at_start n s then Some (instance_of n s) else None

-- the instance of which a holding entry begins to run: a queued callback activation, or a queued start of a blocking export
abbrev pub begun_holder : Core → Label → Option ℕ
begun_holder s (label.Take (take.Thread m n)) = holder_at_start n s
begun_holder s (label.Take (take.ThreadWakes m n w)) = holder_at_start n s
begun_holder s (label.Take (take.Event m g n)) = Some (instance_of n s)
begun_holder s (label.Take (take.EventWakes m e n w)) = Some (instance_of n s)
begun_holder s _ = None

abbrev pub returns_at_exit : ℕ → Core → Bool
returns_at_exit n s = not (is_explicit n s) && (is_holding (kind_of (task_of n s) s) && not (is_direct (goal_of (task_of n s) s)))

abbrev pub holder_at_exit : ℕ → Core → Option ℕ
holder_at_exit n s = if returns_at_exit n s then Some (instance_of n s) else None

-- the instance of which a holding entry returns
abbrev pub returned_holder : Core → Label → Option ℕ
returned_holder s (label.Task (task_label.Exit n)) = holder_at_exit n s
returned_holder s (label.Task (task_label.ExitWakes n w)) = holder_at_exit n s
returned_holder s (label.Task (task_label.CbYield n)) = Some (instance_of n s)
returned_holder s (label.Task (task_label.CbWait n)) = Some (instance_of n s)
returned_holder s (label.Task (task_label.Code n)) = Some (instance_of n s)
returned_holder s _ = None

abbrev pub is_among : List ℕ → Option ℕ → Bool
is_among is None = false
is_among is (Some i) = list_any (λ j. i == j) is

abbrev pub with_holder : List ℕ → Option ℕ → List ℕ
with_holder is None = is
with_holder is (Some i) = i ∷ is

abbrev pub less_holder : List ℕ → Option ℕ → List ℕ
less_holder is None = is
less_holder is (Some i) = filter (λ j. not (i == j)) is

-- with a holding entry inside these instances, none of one of them begins to run before that one has returned
abbrev pub holds_one : List ℕ → List Moment → Bool
holds_one is [] = true
holds_one is (m ∷ ms) =
    not (is_among is (begun_holder m.before.core m.label)) &&
    holds_one (less_holder (with_holder is (begun_holder m.before.core m.label)) (returned_holder m.before.core m.label)) ms

-- From the label with which a holding entry begins to run to its return no other one of that instance begins to run.
abbrev pub OneHolder : List Moment → Type 0
OneHolder ms = IsTrue (holds_one [] ms)
