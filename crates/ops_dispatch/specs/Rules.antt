-- The rules of ops, by what their contracts name: each by how far the thread has come in its op.
use Rattle.std.specs.Prelude.{Bool, List, ℕ}
use Rattle.machine_data.specs.Read.{op_progress_of, kind_of, registers_of, task_of}
use Rattle.machine_data.specs.declared.component.Callee.{Callee}
use Rattle.machine_data.specs.declared.component.Component.{Component}
use Rattle.machine_data.specs.declared.label.Label.{Label}
use Rattle.machine_data.specs.declared.label.ThreadLabel.{ThreadLabel}
use Rattle.machine_data.specs.declared.op.Op.{Op}
use Rattle.machine_data.specs.declared.op.Operand.{Operand}
use Rattle.ops_guests.specs.Does.{Rule}
use Rattle.ops_guests.specs.Halting.{halt_of}
use Rattle.machine_rules.specs.Calls.{call_rule, call_sync_host_rule, call_sync_rule}
use Rattle.machine_rules.specs.Ends.{code_rule, exit_rule, kind_exit_rule}
use Rattle.machine_rules.specs.Scripts.{value_of, values_in}
use Rattle.machine_rules.specs.Sets.{wait_rule}
use Rattle.machine_rules.specs.Step.{op_rule}
use Rattle.machine_rules.specs.Threads.{halt_rule, halting_by, then_promote_rule, then_resume_rule}

-- any op
abbrev pub rule_of : Component → Op → Rule
rule_of c o d n ch s = op_rule d c n s ch o

abbrev pub waits_here : (handle : ℕ) → Rule
waits_here h d n ch s = wait_rule d n h ch s (op_progress_of n s)

-- ---- Calls

abbrev pub calls_here : Component → (register : ℕ) → Callee → List Operand → Rule
calls_here c q e xs d n ch s = call_rule d c n q e (values_in (registers_of n s) xs) s (op_progress_of n s)

abbrev pub calls_in_sync : Component → Callee → List Operand → Rule
calls_in_sync c e xs d n ch s = call_sync_rule d c n e (values_in (registers_of n s) xs) s (op_progress_of n s)

abbrev pub calls_host_in_sync : Component → (host : ℕ) → Rule
calls_host_in_sync c h d n ch s = call_sync_host_rule d c n h s (op_progress_of n s)

-- ---- Threads

abbrev pub halts_here : (yielding : Bool) → ThreadLabel → Rule
halts_here b l d n ch s = halting_by d n s l (λ k. halt_rule d (halt_of b) n k s)

abbrev pub resumes_here : (yielding : Bool) → Operand → ThreadLabel → Rule
resumes_here b x l d n ch s = halting_by d n s l (λ k. then_resume_rule (halt_of b) n (value_of n s x) s)

abbrev pub promotes_here : (yielding : Bool) → Operand → ThreadLabel → Rule
promotes_here b x l d n ch s = halting_by d n s l (λ k. then_promote_rule d (halt_of b) n (value_of n s x) k s)

-- ---- Ends

abbrev pub ends_with : Label → (code : ℕ) → Rule
ends_with l code d n ch s = code_rule l n s code

abbrev pub exits_by_kind : Rule
exits_by_kind d n ch s = kind_exit_rule n ch.woken s (kind_of (task_of n s) s)

abbrev pub exits : Rule
exits d n ch s = exit_rule n ch.woken s
