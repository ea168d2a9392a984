-- A start that the hook is told of before it is made.
use Rattle.ops_state.specs.declared.error.TaskError.TheVariants as task_error
use Rattle.std.proofs.Common.{refl, subst, sym, ◌∙◌, ◌≡◌}
use Rattle.std.specs.Prelude.{Err, Ok, Option}
use Rattle.ops_calls.specs.Untrapped.{StartsUntrapped}
use Rattle.task_loop.proofs.CallStartLemmas.{has_started, keeps_started, keeps_still, reason_back, reason_hook, unhooked_never}
use Rattle.task_loop.proofs.HookStartLemmas.{told_hook_is_ok, told_failed}
use Rattle.task_loop.proofs.UnmadeLemmas.{unmade_back, unmade_refused}
use Rattle.task_loop.proofs.call.Func.start_hooked.Goals as goal
use Rattle.task_loop.specs.LoopCalls.{callee_of}
use Rattle.machine_data.specs.declared.component.Callee.{Callee}
use Rattle.machine_data.specs.declared.trap.Trap.{Trap}
use Rattle.machine_data.specs.declared.trap.Trap.TheVariants as trap
use Rattle.machine_rules.specs.MainOps.{start_refusal}

pub returns-then-is_err : goal.returns-then-is_err
returns-then-is_err g c =
    let s = c.args.store.now in
    let core = s.state.core in
    let told = c.tell.new.self in
    let said = c.tell.ensures in
    let listens = g.G.TaskGroupHook.listens in
    let failed = told_failed c.tell.result s.listeners told said.answer (sym c.is_err.ensures.value ∙ c.if-is_err.true) in
    record {
      does = record {
        reason = reason_hook listens (start_refusal core) (task_error.Trap trap.HookFailed) s.listeners told c.requires.fits c.requires.listens failed refl;
        state = refl;
        told = unmade_refused core c.next_group-group.result.number c.next_group-group.ensures s.listeners told said.told failed;
        unhooked = unhooked_never listens s.listeners (told ≡ s.listeners) c.requires.listens c.requires.hooked;
      };
      keeps = keeps_still c.args.component.now s s.state told refl said.told.same_hook;
    }

pub returns-in-Ok : goal.returns-in-Ok
returns-in-Ok g c =
    let s = c.args.store.now in
    let core = s.state.core in
    let comp = c.args.component.now in
    let e = callee_of c.args.self in
    let words = c.args.params.now in
    let told = c.tell.new.self in
    let said = c.tell.ensures in
    let u = c.start_untrapped.new.w in
    let n = c.in-Ok.thread in
    let starts =
    subst (λ (k : Callee). StartsUntrapped comp k words s.state (start_refusal core) (Ok n) u) c.callee.ensures c.in-Ok.ensures.starts in
    record {
      does = has_started comp e words s u n starts told c.next_group-group.result.number c.next_group-group.ensures said.told
          (told_hook_is_ok c.tell.result s.listeners told said.answer (sym c.is_err.ensures.value ∙ c.if-is_err.false));
      keeps = keeps_started comp e words s u n starts told c.next_group-group.result.number c.next_group-group.ensures said.told c.start_untrapped.ensures.order;
    }

pub returns-in-Err : goal.returns-in-Err
returns-in-Err g c =
    let s = c.args.store.now in
    let core = s.state.core in
    let told = c.tell.new.self in
    let said = c.tell.ensures in
    let new = c.take_back.new.listeners in
    let u = c.start_untrapped.new.w in
    let back = c.take_back.ensures in
    let r = c.take_back.result in
    let listens = g.G.TaskGroupHook.listens in
    let starts =
    subst (λ (o : Option Trap). StartsUntrapped c.args.component.now c.callee.result c.args.params.now s.state o (Err c.in-Err.e) u) c.requires.fits
    c.in-Err.ensures.starts in
    record {
      does = record {
        reason = reason_back listens (start_refusal core) c.in-Err.e r s.listeners told new c.requires.fits
            c.requires.listens starts.0 said.told.errors back.told back.answer back.failed;
        state = starts.1;
        told = unmade_back core c.next_group-group.result.number c.next_group-group.ensures s.listeners told said.told
            (told_hook_is_ok c.tell.result s.listeners told said.answer (sym c.is_err.ensures.value ∙ c.if-is_err.false)) c.in-Err.e r new starts.0 back.told listens back.answer back.failed;
        unhooked = unhooked_never listens s.listeners (new ≡ s.listeners) c.requires.listens c.requires.hooked;
      };
      keeps = keeps_still c.args.component.now s u new starts.1 (back.told.same_hook ∙ said.told.same_hook);
    }
