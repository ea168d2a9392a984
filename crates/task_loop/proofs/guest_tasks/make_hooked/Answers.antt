-- A task in a new group, which the hook is told of before it is made.
use Rattle.ops_state.specs.declared.error.TaskError.TheVariants as task_error
use Rattle.std.proofs.Common.{ap, refl, subst, sym, ◌∙◌, ◌≡◌}
use Rattle.std.specs.Prelude.{None, ℕ, [], ◌∷◌}
use Rattle.store_notices.proofs.MoveLemmas.{hook_is_ok_told}
use Rattle.task_group.specs.Listeners.{ToldWithHookOk}
use Rattle.task_loop.proofs.CallStartLemmas.{leaves_told_none, reason_back, reason_hook, reason_refused, unhooked_never}
use Rattle.task_loop.proofs.GuestTaskLemmas.{begins_wants}
use Rattle.task_loop.proofs.HookStartLemmas.{told_hook_is_ok, told_failed}
use Rattle.task_loop.proofs.NewTaskLemmas.{begins_still}
use Rattle.task_loop.proofs.UnmadeLemmas.{unmade_back, unmade_refused}
use Rattle.task_loop.proofs.guest_tasks.make_hooked.Goals as goal
use Rattle.task_loop.specs.GuestCalls.{has_room, table_refusal}
use Rattle.machine_data.specs.declared.records.NoticeKind.TheVariants as notice
use Rattle.machine_data.specs.declared.trap.Trap.TheVariants as trap
use Rattle.machine_rules.specs.Notices.{told_of}

pub returns-then-not-fits : goal.returns-then-not-fits
returns-then-not-fits g c =
    let store = c.args.store.now in
    let listens = g.G.TaskGroupHook.listens in
    let refusal = table_refusal (has_room None store.state) in
    let l = store.listeners in
    record {
      makes = leaves_told_none listens refusal store store (task_error.Trap trap.TableFull)
          (reason_refused listens refusal trap.TableFull l l (ap table_refusal (sym c.fits.ensures ∙ c.if-not-fits.true))) (λ e. absurd (cc)) refl refl;
      rest = refl;
    }

pub returns-then-is_err : goal.returns-then-is_err
returns-then-is_err g c =
    let store = c.args.store.now in
    let told = c.tell.new.self in
    let said = c.tell.ensures in
    let listens = g.G.TaskGroupHook.listens in
    let failed = told_failed c.tell.result store.listeners told said.answer (sym c.is_err.ensures.value ∙ c.if-is_err.true) in
    record {
      makes = record {
        reason = reason_hook listens (table_refusal (has_room None store.state)) (task_error.Trap trap.HookFailed) store.listeners
            told (ap table_refusal (sym c.fits.ensures ∙ c.if-not-fits.false)) c.requires.listens failed refl;
        state = refl;
        told = unmade_refused store.state.core c.next_group-group.result.number c.next_group-group.ensures store.listeners told said.told failed;
        unhooked = unhooked_never listens store.listeners (told ≡ store.listeners) c.requires.listens c.requires.hooked;
      };
      rest = refl;
    }

pub returns-in-Ok : goal.returns-in-Ok
returns-in-Ok g c =
    let store = c.args.store.now in
    let told = c.tell.new.self in
    let said = c.tell.ensures in
    record {
      makes = record {
        begins = c.in-Ok.ensures.begins;
        begun = subst (λ (n : ℕ). ToldWithHookOk (told_of notice.Start n ∷ []) store.listeners told) c.next_group-group.ensures
            (hook_is_ok_told _ store.listeners told said.told (told_hook_is_ok c.tell.result store.listeners told said.answer (sym c.is_err.ensures.value ∙ c.if-is_err.false)));
      };
      rest = refl;
    }

pub returns-in-Err : goal.returns-in-Err
returns-in-Err g c =
    let store = c.args.store.now in
    let s = store.state in
    let told = c.tell.new.self in
    let said = c.tell.ensures in
    let new = c.take_back.new.listeners in
    let u = c.new_guest_task.new.w in
    let back = c.take_back.ensures in
    let r = c.take_back.result in
    let listens = g.G.TaskGroupHook.listens in
    let room = has_room None s in
    let fits = sym c.fits.ensures ∙ c.if-not-fits.false in
    let wants = begins_wants c.args.kind c.args.instance None s u room c.in-Err.e fits c.in-Err.ensures.begins in
    record {
      makes = record {
        reason = reason_back listens (table_refusal room) c.in-Err.e r store.listeners told new (ap table_refusal fits)
            c.requires.listens wants said.told.errors back.told back.answer back.failed;
        state = begins_still c.args.kind c.args.instance None s u room c.in-Err.e c.in-Err.ensures.begins;
        told = unmade_back s.core c.next_group-group.result.number c.next_group-group.ensures store.listeners told said.told
            (told_hook_is_ok c.tell.result store.listeners told said.answer (sym c.is_err.ensures.value ∙ c.if-is_err.false)) c.in-Err.e r new wants back.told listens back.answer back.failed;
        unhooked = unhooked_never listens store.listeners (new ≡ store.listeners) c.requires.listens c.requires.hooked;
      };
      rest = refl;
    }
