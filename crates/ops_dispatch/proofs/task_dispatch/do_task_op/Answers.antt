use Rattle.ops_dispatch.proofs.OpLemmas.{scripted_op_rule, told_as, told_op}
use Rattle.ops_dispatch.proofs.RuleLemmas.{ret_shows, task_shows}
use Rattle.ops_dispatch.proofs.task_dispatch.do_task_op.Goals as goal
use Rattle.std.proofs.Common.{ap, refl, sym, ◌∙◌}
use Rattle.std.specs.Prelude.{ℕ, ◌*◌, ◌+◌}
use Rattle.machine_data.specs.declared.label.Label.TheVariants as label
use Rattle.machine_data.specs.declared.label.TaskLabel.TheVariants as task_label
use Rattle.ops_dispatch.specs.Rules.{ends_with}
use Rattle.ops_guests.specs.Works.{KeepsTold}
use Rattle.machine_rules.specs.Ends.{code_rule}
use Rattle.machine_rules.specs.Scripts.{value_of}
use Rattle.machine_data.specs.Labels.{choice_of}
use Rattle.machine_data.specs.declared.op.TaskOp.TheVariants as task_op
use Rattle.ops_guests.specs.Steps.{label_of}
use Rattle.machine_rules.specs.Finish.{SomeHost}
use Rattle.machine_rules.specs.Task.{ret_rule, task_rule}
use Rattle.core_primitives.specs.StateView.{thread_of}

pub returns-in-Ret : goal.returns-in-Ret
returns-in-Ret g c =
    let s = g.W.View.view c.args.w.now in
    let t = g.W.View.view c.ret.new.w in
    let n = thread_of s c.args.thread in
    let w = (choice_of (label_of n c.ret.result)).woken in
    record {
      does = rw c.in-Ret.is (told_as (λ d n ch s. ret_rule d n c.value_of-value.result ch.woken s) (λ d n ch s. task_rule d n s ch (task_op.Ret c.in-Ret.value)) c.args.thread s t c.ret.result
          (ret_shows SomeHost n s.core _ w) c.requires.runner.current c.ret.ensures.does (λ d ch. ap (λ (v : ℕ). ret_rule d n v ch.woken s.core) (sym c.value_of-value.ensures)));
    }

pub returns-in-TaskCancel : goal.returns-in-TaskCancel
returns-in-TaskCancel g c =
    let s = g.W.View.view c.args.w.now in
    let t = g.W.View.view c.task_cancel.new.w in
    let n = thread_of s c.args.thread in
    record {
      does = rw c.in-TaskCancel.is (told_op (λ d n ch s. task_rule d n s ch task_op.TaskCancel) c.args.thread s t c.task_cancel.result
          (task_shows SomeHost n s.core (choice_of (label_of n c.task_cancel.result)) task_op.TaskCancel refl) c.requires.runner.current c.task_cancel.ensures.does);
    }

pub lower-requires-clause-held : goal.lower-requires-clause-held
lower-requires-clause-held g c = c.requires.runner.held

pub returns-in-BpInc : goal.returns-in-BpInc
returns-in-BpInc g c =
    let s = g.W.View.view c.args.w.now in
    let t = g.W.View.view c.raise.new.w in
    let n = thread_of s c.args.thread in
    record {
      does = rw c.in-BpInc.is (told_op (λ d n ch s. task_rule d n s ch task_op.BpInc) c.args.thread s t c.raise.result
          (task_shows SomeHost n s.core (choice_of (label_of n c.raise.result)) task_op.BpInc refl) c.requires.runner.current c.raise.ensures.does);
    }

pub returns-in-BpDec : goal.returns-in-BpDec
returns-in-BpDec g c =
    let s = g.W.View.view c.args.w.now in
    let t = g.W.View.view c.lower.new.w in
    let n = thread_of s c.args.thread in
    record {
      does = rw c.in-BpDec.is (told_op (λ d n ch s. task_rule d n s ch task_op.BpDec) c.args.thread s t c.lower.result
          (task_shows SomeHost n s.core (choice_of (label_of n c.lower.result)) task_op.BpDec refl) c.requires.runner.current c.lower.ensures.does);
    }

pub returns-in-Exit : goal.returns-in-Exit
returns-in-Exit g c = record { does = rw c.in-Exit.is c.exits.ensures.does }

pub returns-in-CbYield : goal.returns-in-CbYield
returns-in-CbYield g c =
    let s = g.W.View.view c.args.w.now in
    let t = g.W.View.view c.ends.new.w in
    let n = thread_of s c.args.thread in
    record {
      does = rw c.in-CbYield.is (scripted_op_rule KeepsTold (ends_with (label.Task (task_label.CbYield c.number-number.result)) 1) (λ d n ch s. task_rule d n s ch task_op.CbYield) c.args.thread s t c.ends.result c.ends.ensures.does
          (λ d. ap (λ (k : ℕ). code_rule (label.Task (task_label.CbYield k)) n s.core 1) (sym c.number-number.ensures)));
    }

pub returns-in-CbWait : goal.returns-in-CbWait
returns-in-CbWait g c =
    let s = g.W.View.view c.args.w.now in
    let t = g.W.View.view c.ends_waiting.new.w in
    let n = thread_of s c.args.thread in
    let v = value_of n s.core c.in-CbWait.set in
    let k = c.number-number.result in
    let h = c.value_of-set.result in
    record {
      does = rw c.in-CbWait.is (scripted_op_rule KeepsTold (ends_with (label.Task (task_label.CbWait k)) (16 * h + 2)) (λ d n ch s. task_rule d n s ch (task_op.CbWait c.in-CbWait.set)) c.args.thread s t c.ends_waiting.result c.ends_waiting.ensures.does
          (λ d. ap (λ (j : ℕ). code_rule (label.Task (task_label.CbWait j)) n s.core (16 * v + 2)) (sym c.number-number.ensures) ∙ ap (λ (x : ℕ). code_rule (label.Task (task_label.CbWait k)) n s.core (16 * x + 2)) (sym c.value_of-set.ensures)));
    }

pub returns-in-Code : goal.returns-in-Code
returns-in-Code g c =
    let s = g.W.View.view c.args.w.now in
    let t = g.W.View.view c.ends-in-Code.new.w in
    let n = thread_of s c.args.thread in
    let v = value_of n s.core c.in-Code.code in
    let k = c.number-number.result in
    let h = c.value_of-code.result in
    record {
      does = rw c.in-Code.is (scripted_op_rule KeepsTold (ends_with (label.Task (task_label.Code k)) h) (λ d n ch s. task_rule d n s ch (task_op.Code c.in-Code.code)) c.args.thread s t c.ends-in-Code.result c.ends-in-Code.ensures.does
          (λ d. ap (λ (j : ℕ). code_rule (label.Task (task_label.Code j)) n s.core v) (sym c.number-number.ensures) ∙ ap (λ (x : ℕ). code_rule (label.Task (task_label.Code k)) n s.core x) (sym c.value_of-code.ensures)));
    }
