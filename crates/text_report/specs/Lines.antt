-- The lines of labels.
use Rattle.run_trace.specs.declared.kinds.CallKind.{CallKind}
use Rattle.run_trace.specs.Opened.{call_of}
use Rattle.std.specs.List.{flat_map}
use Rattle.std.specs.Prelude.{ℕ, List, slice_index}
use Rattle.machine_data.specs.declared.label.Label.{Label}
use Rattle.machine_rules.specs.Texts.{label_text, line_text}

abbrev pub line : Label → List ℕ
line l = line_text (label_text l)

abbrev pub lines_of : List Label → List ℕ
lines_of labels = flat_map line labels

-- a label of a call, by its kind and the numbers that it shows
abbrev pub call_in : CallKind → (shown : List ℕ) → Label
call_in kind xs = call_of kind (slice_index xs 0) (slice_index xs 1) (slice_index xs 2)
