-- A start where no hook is told: its group is told of once it is made.
use Rattle.ops_state.specs.declared.error.TaskError.TheVariants as task_error
use Rattle.std.proofs.Common.{refl, subst, sym, ◌∙◌, ◌≡◌}
use Rattle.std.proofs.lemmas.Result.{err_from_is_err_and}
use Rattle.std.specs.Prelude.{Err, Ok, Option, false, is_some}
use Rattle.ops_calls.specs.Untrapped.{StartsUntrapped}
use Rattle.task_loop.proofs.CallStartLemmas.{has_started, keeps_started, keeps_still, leaves_told_none, reason_out_of_memory}
use Rattle.task_loop.proofs.HookLemmas.{unanswered}
use Rattle.task_loop.proofs.call.Func.start_fitting.Goals as goal
use Rattle.task_loop.specs.LoopCalls.{callee_of}
use Rattle.machine_data.specs.declared.component.Callee.{Callee}
use Rattle.machine_data.specs.declared.trap.Trap.{Trap}
use Rattle.machine_rules.specs.MainOps.{start_refusal}

pub returns : goal.returns
returns g c =
    let s = c.args.store.now in
    let core = s.state.core in
    let comp = c.args.component.now in
    let e = callee_of c.args.self in
    let words = c.args.params.now in
    let new = c.tell-told.new.self in
    let u = c.start_untrapped.new.w in
    let n = c.in_ok-thread.thread in
    let told = c.tell-told.ensures.told in
    let starts =
    subst (λ (k : Callee). StartsUntrapped comp k words s.state (start_refusal core) (Ok n) u) c.callee.ensures c.in_ok-thread.ensures.starts in
    let none : is_some s.listeners.hook ≡ false = sym c.is_hooked.ensures.hook ∙ c.if-is_hooked.false in
    record {
      does = has_started comp e words s u n starts new c.next_group-group.result.number c.next_group-group.ensures told (unanswered s.listeners new none (told.same_hook ∙ none));
      keeps = keeps_started comp e words s u n starts new c.next_group-group.result.number c.next_group-group.ensures told c.start_untrapped.ensures.order;
    }

pub returns-in_err-thread : goal.returns-in_err-thread
returns-in_err-thread g c =
    let s = c.args.store.now in
    let core = s.state.core in
    let u = c.start_untrapped.new.w in
    let why = c.in_err-thread.field-0.0 in
    let starts =
    subst (λ (o : Option Trap). StartsUntrapped c.args.component.now c.callee.result c.args.params.now s.state o (Err why) u) c.requires.fits
    c.in_err-thread.ensures.starts in
    let answered = err_from_is_err_and c.from_residual.result c.from_residual.ensures.1 in
    rw (answered.1, answered.2) (record {
      does = leaves_told_none g.G.TaskGroupHook.listens (start_refusal core) s (record s { state = u }) why
          (reason_out_of_memory g.G.TaskGroupHook.listens (start_refusal core) why s.listeners s.listeners c.requires.fits starts.0)
          (λ f. let wants = starts.0 in absurd (cc)) starts.1 refl;
      keeps = keeps_still c.args.component.now s u s.listeners starts.1 refl;
    })
