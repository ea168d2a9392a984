-- Each op that names no callee is read from its one spelling.
use Rattle.std.proofs.Common.{◌≡◌, ℕ, true, List, Some, refl, lit<}
use Rattle.std.specs.Prelude.{codes}
use Rattle.std.proofs.lemmas.Bool.{and_parts}
use Rattle.machine_data.specs.declared.op.Op.{Op}
use Rattle.machine_data.specs.declared.op.Op.TheVariants as op
use Rattle.machine_data.specs.declared.op.DataOp.{DataOp}
use Rattle.machine_data.specs.declared.op.DataOp.TheVariants as data_op
use Rattle.machine_data.specs.declared.op.TaskOp.{TaskOp}
use Rattle.machine_data.specs.declared.op.TaskOp.TheVariants as task_op
use Rattle.machine_data.specs.declared.op.SetOp.{SetOp}
use Rattle.machine_data.specs.declared.op.SetOp.TheVariants as set_op
use Rattle.machine_data.specs.declared.op.CallOp.{CallOp}
use Rattle.machine_data.specs.declared.op.CallOp.TheVariants as call_op
use Rattle.machine_data.specs.declared.op.ThreadOp.{ThreadOp}
use Rattle.machine_data.specs.declared.op.ThreadOp.TheVariants as thread_op
use Rattle.text_lines.specs.declared.keyword.DataKeyword.{DataKeyword}
use Rattle.text_lines.specs.declared.keyword.DataKeyword.TheVariants as datum
use Rattle.text_lines.specs.declared.keyword.TaskKeyword.{TaskKeyword}
use Rattle.text_lines.specs.declared.keyword.TaskKeyword.TheVariants as task
use Rattle.text_lines.specs.declared.keyword.SetKeyword.{SetKeyword}
use Rattle.text_lines.specs.declared.keyword.SetKeyword.TheVariants as waitable
use Rattle.text_lines.specs.declared.keyword.ThreadKeyword.{ThreadKeyword}
use Rattle.text_lines.specs.declared.keyword.ThreadKeyword.TheVariants as thread
use Rattle.text_lines.specs.declared.line.Line.TheVariants as line
use Rattle.text_lines.specs.Tokens.{two_of, three_of, one_of}
use Rattle.text_lines.specs.Keyword.{data_keyword, task_keyword, set_keyword, thread_keyword}
use Rattle.text_lines.specs.LineTokens.{data_op_tokens, task_op_tokens, set_op_tokens, subtask_op_tokens, thread_op_tokens, plain_op_tokens}
use Rattle.text_lines.specs.Fits.{data_op_fits, task_op_fits, set_op_fits, subtask_op_fits, thread_op_fits, plain_op_fits}
use Rattle.text_lines.specs.Line.{register_after, operand_after, target_after, event_after, load_after, store_after, skip_after, data_op_after, task_op_after, join_after, set_op_after, new_thread_after, thread_op_after, call_line_after, line_after, line_at}
use Rattle.text_lines.proofs.TokenLaws.{registers, registers_up_to, operands, bounded}
use Rattle.text_lines.proofs.LineForms.{Spells, no_tokens, token_of_each, token_of_three, with_tail, register_tail, operand_tail, target_tail, event_tail}

-- ---- Registers and memory cells

pub data_op_takes : (k : DataKeyword) (ws : List (List ℕ)) (o : DataOp) → data_op_after k ws ≡ Some o → Spells data_op_tokens data_op_fits (data_keyword k) ws o
unfolding data_op_after load_after store_after skip_after
data_op_takes datum.Set ws o e = with_tail target_tail data_op_tokens data_op_fits (codes "set") (λ p. data_op.Set p.0 p.1) (λ p. refl) (λ p. refl) ws o e
data_op_takes datum.Add ws o e = with_tail target_tail data_op_tokens data_op_fits (codes "add") (λ p. data_op.Add p.0 p.1) (λ p. refl) (λ p. refl) ws o e
data_op_takes datum.Handle ws o e = with_tail target_tail data_op_tokens data_op_fits (codes "handle") (λ p. data_op.Handle p.0 p.1) (λ p. refl) (λ p. refl) ws o e
data_op_takes datum.Load ws o e = token_of_each data_op_tokens data_op_fits (codes "load") registers (bounded 15 (lit< tt)) data_op.Load (λ r w. refl) (λ r w. refl) ws o e
data_op_takes datum.Store ws o e = token_of_each data_op_tokens data_op_fits (codes "store") (bounded 15 (lit< tt)) operands data_op.Store (λ w x. refl) (λ w x. refl) ws o e
data_op_takes datum.SkipEq ws o e = token_of_three data_op_tokens data_op_fits (codes "skip_eq") operands operands (bounded 4096 (lit< tt)) data_op.SkipEq (λ x y n. refl) (λ x y n. refl) ws o e

data_op_again : (o : DataOp) → data_op_fits o ≡ true → line_at (data_op_tokens o) ≡ Some (line.Op (op.Data o))
unfolding line_at line_after data_op_after target_after load_after store_after skip_after two_of three_of
data_op_again (data_op.Set r x) fits = let p = and_parts _ _ fits in rw (registers.again r p.0, operands.again x p.1) refl
data_op_again (data_op.Add r x) fits = let p = and_parts _ _ fits in rw (registers.again r p.0, operands.again x p.1) refl
data_op_again (data_op.Handle r x) fits = let p = and_parts _ _ fits in rw (registers.again r p.0, operands.again x p.1) refl
data_op_again (data_op.Load r w) fits = let p = and_parts _ _ fits in rw (registers.again r p.0, (bounded 15 (lit< tt)).again w p.1) refl
data_op_again (data_op.Store w x) fits = let p = and_parts _ _ fits in rw ((bounded 15 (lit< tt)).again w p.0, operands.again x p.1) refl
data_op_again (data_op.SkipEq x y n) fits =
    let p = and_parts _ _ fits in
    let q = and_parts _ _ p.0 in
    rw (operands.again x q.0, operands.again y q.1, (bounded 4096 (lit< tt)).again n p.1) refl

-- ---- Ends and backpressure

pub task_op_takes : (k : TaskKeyword) (ws : List (List ℕ)) (o : TaskOp) → task_op_after k ws ≡ Some o → Spells task_op_tokens task_op_fits (task_keyword k) ws o
unfolding task_op_after
task_op_takes task.Ret ws o e = with_tail operand_tail task_op_tokens task_op_fits (codes "ret") task_op.Ret (λ x. refl) (λ x. refl) ws o e
task_op_takes task.RetBad ws o e = with_tail operand_tail task_op_tokens task_op_fits (codes "ret_bad") task_op.RetBad (λ x. refl) (λ x. refl) ws o e
task_op_takes task.TaskCancel ws o e = no_tokens task_op_tokens task_op_fits (codes "task_cancel") task_op.TaskCancel refl refl ws o e
task_op_takes task.Exit ws o e = no_tokens task_op_tokens task_op_fits (codes "exit") task_op.Exit refl refl ws o e
task_op_takes task.CbYield ws o e = no_tokens task_op_tokens task_op_fits (codes "cb_yield") task_op.CbYield refl refl ws o e
task_op_takes task.CbWait ws o e = with_tail operand_tail task_op_tokens task_op_fits (codes "cb_wait") task_op.CbWait (λ x. refl) (λ x. refl) ws o e
task_op_takes task.Code ws o e = with_tail operand_tail task_op_tokens task_op_fits (codes "code") task_op.Code (λ x. refl) (λ x. refl) ws o e
task_op_takes task.BpInc ws o e = no_tokens task_op_tokens task_op_fits (codes "bp_inc") task_op.BpInc refl refl ws o e
task_op_takes task.BpDec ws o e = no_tokens task_op_tokens task_op_fits (codes "bp_dec") task_op.BpDec refl refl ws o e

task_op_again : (o : TaskOp) → task_op_fits o ≡ true → line_at (task_op_tokens o) ≡ Some (line.Op (op.Task o))
unfolding line_at line_after task_op_after operand_after one_of
task_op_again (task_op.Ret x) fits = rw (operands.again x fits) refl
task_op_again (task_op.RetBad x) fits = rw (operands.again x fits) refl
task_op_again task_op.TaskCancel fits = refl
task_op_again task_op.Exit fits = refl
task_op_again task_op.CbYield fits = refl
task_op_again (task_op.CbWait x) fits = rw (operands.again x fits) refl
task_op_again (task_op.Code x) fits = rw (operands.again x fits) refl
task_op_again task_op.BpInc fits = refl
task_op_again task_op.BpDec fits = refl

-- ---- Waitable sets

pub set_op_takes : (k : SetKeyword) (ws : List (List ℕ)) (o : SetOp) → set_op_after k ws ≡ Some o → Spells set_op_tokens set_op_fits (set_keyword k) ws o
unfolding set_op_after join_after
set_op_takes waitable.New ws o e = with_tail register_tail set_op_tokens set_op_fits (codes "set_new") set_op.New (λ r. refl) (λ r. refl) ws o e
set_op_takes waitable.Drop ws o e = with_tail operand_tail set_op_tokens set_op_fits (codes "set_drop") set_op.Drop (λ x. refl) (λ x. refl) ws o e
set_op_takes waitable.Wait ws o e = with_tail event_tail set_op_tokens set_op_fits (codes "wait") (λ p. set_op.Wait p.0 p.1) (λ p. refl) (λ p. refl) ws o e
set_op_takes waitable.Poll ws o e = with_tail event_tail set_op_tokens set_op_fits (codes "poll") (λ p. set_op.Poll p.0 p.1) (λ p. refl) (λ p. refl) ws o e
set_op_takes waitable.Join ws o e = token_of_each set_op_tokens set_op_fits (codes "join") operands operands set_op.Join (λ x y. refl) (λ x y. refl) ws o e

set_op_again : (o : SetOp) → set_op_fits o ≡ true → line_at (set_op_tokens o) ≡ Some (line.Op (op.Set o))
unfolding line_at line_after set_op_after register_after operand_after event_after join_after one_of two_of
set_op_again (set_op.New r) fits = rw (registers.again r fits) refl
set_op_again (set_op.Drop x) fits = rw (operands.again x fits) refl
set_op_again (set_op.Wait r x) fits = let p = and_parts _ _ fits in rw ((registers_up_to 13 (lit< tt)).again r p.0, operands.again x p.1) refl
set_op_again (set_op.Poll r x) fits = let p = and_parts _ _ fits in rw ((registers_up_to 13 (lit< tt)).again r p.0, operands.again x p.1) refl
set_op_again (set_op.Join x y) fits = let p = and_parts _ _ fits in rw (operands.again x p.0, operands.again y p.1) refl

-- ---- Subtasks

subtask_op_again : (o : CallOp) → subtask_op_fits o ≡ true → line_at (subtask_op_tokens o) ≡ Some (line.Op (op.Call o))
unfolding line_at line_after call_line_after operand_after target_after one_of two_of
subtask_op_again (call_op.Cancel r x) fits = let p = and_parts _ _ fits in rw (registers.again r p.0, operands.again x p.1) refl
subtask_op_again (call_op.CancelSync r x) fits = let p = and_parts _ _ fits in rw (registers.again r p.0, operands.again x p.1) refl
subtask_op_again (call_op.Drop x) fits = rw (operands.again x fits) refl
subtask_op_again _ fits = absurd cc

-- ---- Threads

pub thread_op_takes : (k : ThreadKeyword) (ws : List (List ℕ)) (o : ThreadOp) → thread_op_after k ws ≡ Some o → Spells thread_op_tokens thread_op_fits (thread_keyword k) ws o
unfolding thread_op_after new_thread_after
thread_op_takes thread.New ws o e = token_of_three thread_op_tokens thread_op_fits (codes "thread_new") registers (bounded 15 (lit< tt)) operands thread_op.New (λ r s x. refl) (λ r s x. refl) ws o e
thread_op_takes thread.Index ws o e = with_tail register_tail thread_op_tokens thread_op_fits (codes "thread_index") thread_op.Index (λ r. refl) (λ r. refl) ws o e
thread_op_takes thread.ResumeLater ws o e = with_tail operand_tail thread_op_tokens thread_op_fits (codes "resume_later") thread_op.ResumeLater (λ x. refl) (λ x. refl) ws o e
thread_op_takes thread.Suspend ws o e = no_tokens thread_op_tokens thread_op_fits (codes "suspend") thread_op.Suspend refl refl ws o e
thread_op_takes thread.Yield ws o e = no_tokens thread_op_tokens thread_op_fits (codes "yield") thread_op.Yield refl refl ws o e
thread_op_takes thread.SuspendThenResume ws o e = with_tail operand_tail thread_op_tokens thread_op_fits (codes "suspend_then_resume") thread_op.SuspendThenResume (λ x. refl) (λ x. refl) ws o e
thread_op_takes thread.YieldThenResume ws o e = with_tail operand_tail thread_op_tokens thread_op_fits (codes "yield_then_resume") thread_op.YieldThenResume (λ x. refl) (λ x. refl) ws o e
thread_op_takes thread.SuspendThenPromote ws o e = with_tail operand_tail thread_op_tokens thread_op_fits (codes "suspend_then_promote") thread_op.SuspendThenPromote (λ x. refl) (λ x. refl) ws o e
thread_op_takes thread.YieldThenPromote ws o e = with_tail operand_tail thread_op_tokens thread_op_fits (codes "yield_then_promote") thread_op.YieldThenPromote (λ x. refl) (λ x. refl) ws o e

thread_op_again : (o : ThreadOp) → thread_op_fits o ≡ true → line_at (thread_op_tokens o) ≡ Some (line.Op (op.Thread o))
unfolding line_at line_after thread_op_after new_thread_after register_after operand_after one_of three_of
thread_op_again (thread_op.New r s x) fits =
    let p = and_parts _ _ fits in
    let q = and_parts _ _ p.0 in
    rw (registers.again r q.0, (bounded 15 (lit< tt)).again s q.1, operands.again x p.1) refl
thread_op_again (thread_op.Index r) fits = rw (registers.again r fits) refl
thread_op_again (thread_op.ResumeLater x) fits = rw (operands.again x fits) refl
thread_op_again thread_op.Suspend fits = refl
thread_op_again thread_op.Yield fits = refl
thread_op_again (thread_op.SuspendThenResume x) fits = rw (operands.again x fits) refl
thread_op_again (thread_op.YieldThenResume x) fits = rw (operands.again x fits) refl
thread_op_again (thread_op.SuspendThenPromote x) fits = rw (operands.again x fits) refl
thread_op_again (thread_op.YieldThenPromote x) fits = rw (operands.again x fits) refl

pub op_again : (o : Op) → plain_op_fits o ≡ true → line_at (plain_op_tokens o) ≡ Some (line.Op o)
op_again (op.Data o) fits = data_op_again o fits
op_again (op.Task o) fits = task_op_again o fits
op_again (op.Set o) fits = set_op_again o fits
op_again (op.Call o) fits = subtask_op_again o fits
op_again (op.Thread o) fits = thread_op_again o fits
