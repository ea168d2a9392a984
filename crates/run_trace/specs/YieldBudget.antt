-- Where a run yields.
use Rattle.laws_labels.specs.Own.{mark_taken}
use Rattle.std.specs.Prelude.{Bool, List, None, Option, Some, [], false, nat_le, not, true, ℕ, ◌&&◌, ◌+◌, ◌||◌, ◌∷◌}
use Rattle.machine_data.specs.declared.label.Label.{Label}
use Rattle.machine_data.specs.declared.statuses.Mark.{Mark}
use Rattle.machine_data.specs.declared.statuses.Mark.TheVariants as mark

abbrev pub is_low : Mark → Bool
is_low mark.Low = true
is_low _ = false

-- Whether it yields before an entry of this mark, where its polls took so many since it last yielded: before a low one, and after 128.
-- Where it has just yielded so, it passes on.
abbrev pub yields_before : (passes : Bool) → (since : ℕ) → Option Mark → Bool
yields_before passes since None = false
yields_before true since (Some m) = false
yields_before false since (Some m) = is_low m || nat_le 128 since

abbrev pub counted : ℕ → Option Mark → ℕ
counted since None = since
counted since (Some m) = since + 1

-- how many entries were taken since then, with these labels
abbrev pub since_after : ℕ → List Label → ℕ
since_after since [] = since
since_after since (l ∷ ls) = since_after (counted since (mark_taken l)) ls

-- it passes on no longer, once there is a label
abbrev pub passes_after : Bool → List Label → Bool
passes_after passes [] = passes
passes_after passes (l ∷ ls) = false

-- no entry was taken before which it yields
abbrev pub is_unyielded : (passes : Bool) → (since : ℕ) → List Label → Bool
is_unyielded passes since [] = true
is_unyielded passes since (l ∷ ls) = not (yields_before passes since (mark_taken l)) && is_unyielded false (counted since (mark_taken l)) ls

-- ---- A run that is polled on each time that it yields

-- begun anew where it yields
abbrev pub unless_yielded : (yields : Bool) → ℕ → ℕ
unless_yielded true since = 0
unless_yielded false since = since

-- with an entry of this mark, or none
abbrev pub counted_past : (passes : Bool) → (since : ℕ) → Option Mark → ℕ
counted_past passes since m = counted (unless_yielded (yields_before passes since m) since) m

-- how many entries were taken since it last yielded, with these labels
abbrev pub since_driven : (passes : Bool) → (since : ℕ) → List Label → ℕ
since_driven passes since [] = since
since_driven passes since (l ∷ ls) = since_driven false (counted_past passes since (mark_taken l)) ls
