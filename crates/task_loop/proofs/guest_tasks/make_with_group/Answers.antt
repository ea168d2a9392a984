-- A task in a new group, which is told of once it is made.
use Rattle.std.proofs.Common.{refl, subst, ◌∙◌}
use Rattle.std.proofs.lemmas.Result.{err_from_is_err_and}
use Rattle.std.specs.Prelude.{None, ℕ, [], ◌∷◌}
use Rattle.store_notices.proofs.MoveLemmas.{unhooked_hook_is_ok}
use Rattle.task_group.specs.Listeners.{ToldWithHookOk}
use Rattle.task_loop.proofs.CallStartLemmas.{leaves_told_none}
use Rattle.task_loop.proofs.NewTaskLemmas.{begins_other, begins_reason, begins_still}
use Rattle.task_loop.proofs.guest_tasks.make_with_group.Goals as goal
use Rattle.task_loop.specs.GuestCalls.{has_room, table_refusal}
use Rattle.machine_data.specs.declared.records.NoticeKind.TheVariants as notice
use Rattle.machine_rules.specs.Notices.{told_of}

pub returns : goal.returns
returns g c =
    let store = c.args.store.now in
    let new = c.tell-told.new.self in
    record {
      makes = record {
        begins = c.in_ok-id.ensures.begins;
        begun = subst (λ (n : ℕ). ToldWithHookOk (told_of notice.Start n ∷ []) store.listeners new) c.next_group-group.ensures
            (unhooked_hook_is_ok _ store.listeners new c.requires.unhooked c.tell-told.ensures.told);
      };
      rest = refl;
    }

pub returns-in_err-id : goal.returns-in_err-id
returns-in_err-id g c =
    let store = c.args.store.now in
    let u = c.new_guest_task.new.w in
    let listens = g.G.TaskGroupHook.listens in
    let room = has_room None store.state in
    let why = c.in_err-id.field-0.0 in
    let begins = c.in_err-id.ensures.begins in
    let answered = err_from_is_err_and c.from_residual.result c.from_residual.ensures.1 in
    rw (answered.1, answered.2) (record {
      makes = leaves_told_none listens (table_refusal room) store (record store { state = u }) why
          (begins_reason c.args.kind c.args.instance None store.state u listens room why store.listeners store.listeners begins)
          (begins_other c.args.kind c.args.instance None store.state u room why begins) (begins_still c.args.kind c.args.instance None store.state u room why begins) refl;
      rest = refl;
    })
