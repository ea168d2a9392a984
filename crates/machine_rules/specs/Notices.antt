-- The notices that the steps of a run give to the groups.
use Rattle.std.specs.List.{flat_map, list_any}
use Rattle.std.specs.Prelude.{Bool, List, None, Option, Some, [], false, filter, if◌then◌else◌, map, not, true, ℕ, ◌++◌, ◌==◌, ◌∷◌}
use Rattle.machine_data.specs.declared.label.Label.{Label}
use Rattle.machine_data.specs.declared.records.Notice.{Notice}
use Rattle.machine_data.specs.declared.records.NoticeKind.{NoticeKind}
use Rattle.machine_data.specs.declared.records.Turn.{Turn}
use Rattle.machine_data.specs.declared.label.Label.TheVariants as label
use Rattle.machine_data.specs.declared.label.LoopLabel.TheVariants as loop_label
use Rattle.machine_data.specs.declared.label.MainLabel.TheVariants as main_label
use Rattle.machine_data.specs.declared.records.NoticeKind.TheVariants as notice
use Rattle.machine_data.specs.declared.label.TakeLabel.TheVariants as take
use Rattle.machine_data.specs.declared.records.Turn.TheVariants as turn
use Rattle.machine_data.specs.Core.{Core}
use Rattle.machine_data.specs.Read.{thread_group}
use Rattle.machine_rules.specs.Calls.{work_group}
use Rattle.machine_rules.specs.History.{Moment}

abbrev pub told_of : NoticeKind → ℕ → Notice
told_of x g = record { kind = x; group = g }

-- a start by main makes a group
abbrev pub start_notices : Label → Core → List Notice
start_notices (label.Main (main_label.Start k n)) after = told_of notice.Start after.made.groups ∷ []
start_notices _ after = []

-- the group of the thread that runs at this turn
abbrev pub running_group : Core → Turn → Option ℕ
running_group s (turn.Run n) = Some (thread_group n s)
running_group s _ = None

abbrev pub group_notice : NoticeKind → Option ℕ → List Notice
group_notice x None = []
group_notice x (Some g) = told_of x g ∷ []

abbrev pub same_group : Option ℕ → Option ℕ → Bool
same_group None None = true
same_group (Some g) (Some h) = g == h
same_group _ _ = false

-- where another group runs after the step, the old one is left and the new one entered
abbrev pub switch_notices : Option ℕ → Option ℕ → List Notice
switch_notices old new = if same_group old new then [] else group_notice notice.Exit old ++ group_notice notice.Enter new

abbrev pub around : Option ℕ → List Notice
around g = group_notice notice.Enter g ++ group_notice notice.Exit g

-- a poll of a host call by the loop, and the taking of a host entry, are between Enter and Exit
abbrev pub work_notices : Label → Core → List Notice
work_notices (label.Loop (loop_label.FuturePends i)) s = around (work_group i s)
work_notices (label.Loop (loop_label.FutureEnds i)) s = around (work_group i s)
work_notices (label.Loop (loop_label.FutureFails i)) s = around (work_group i s)
work_notices (label.Take (take.Host m i)) s = around (work_group i s)
work_notices (label.Take (take.HostWakes m i w)) s = around (work_group i s)
work_notices _ s = []

abbrev pub is_in : List ℕ → ℕ → Bool
is_in gs g = list_any (λ h. g == h) gs

-- the groups that are live before the step and not after it, in order
abbrev pub finish_notices : List ℕ → List ℕ → List Notice
finish_notices before after = map (told_of notice.Finish) (filter (λ g. not (is_in after g)) before)

-- of a group that was finished before, nothing is told
abbrev pub of_live : List ℕ → List Notice → List Notice
of_live gs ns = filter (λ n. is_in gs n.group) ns

abbrev pub moment_notices : Moment → List Notice
moment_notices m =
    start_notices m.label m.after.core
    ++ of_live m.before.core.groups (
    switch_notices (running_group m.before.core m.before.turn) (running_group m.after.core m.after.turn)
    ++ work_notices m.label m.before.core)
    ++ finish_notices m.before.core.groups m.after.core.groups

-- the notices of a run, in order
abbrev pub notices : List Moment → List Notice
notices ms = flat_map moment_notices ms
