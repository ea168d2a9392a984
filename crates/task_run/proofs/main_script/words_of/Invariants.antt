use Rattle.std.proofs.Common.{◌≡◌, take}
use Rattle.machine_rules.specs.Scripts.{values_in}
use Rattle.task_run.proofs.main_script.words_of.Given as goal

abbrev pub invariant-loop-operand : goal.invariant-loop-operand
invariant-loop-operand l = l.words.items ≡ values_in l.registers (take l.operand-index l.operands)
