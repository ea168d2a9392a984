use Rattle.std.proofs.Common.{◌≡◌, ◌++◌, string_bytes}
use Rattle.std.specs.List.{flat_map}
use Rattle.machine_rules.specs.Texts.{line_text}
use Rattle.text_report.specs.Generated.{each_to, start_line}
use Rattle.text_report.proofs.scenario.add_starts.Given as goal

abbrev pub invariant-loop-before : goal.invariant-loop-before
invariant-loop-before l = string_bytes l.text ≡ string_bytes l.fn.text ++ flat_map line_text (each_to start_line l.before)
