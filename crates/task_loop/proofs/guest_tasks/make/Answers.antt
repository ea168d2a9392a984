-- A call with a caller makes no group; one without makes one.
use Rattle.ops_state.specs.declared.name_calls.QualifiedThreadId.{QualifiedThreadId}
use Rattle.std.proofs.Common.{ap, refl, subst, sym}
use Rattle.std.specs.Prelude.{Option, is_some}
use Rattle.task_loop.proofs.NewTaskLemmas.{called_makes}
use Rattle.task_loop.proofs.guest_tasks.make.Goals as goal
use Rattle.task_loop.specs.NewTasks.{MakesCall}

pub returns-in-Some : goal.returns-in-Some
returns-in-Some g c =
    let store = c.args.store.now in
    record {
      makes = called_makes g.G.TaskGroupHook.listens c.args.kind c.args.instance c.args.caller store c.new_guest_task.new.w c.new_guest_task.result
          (ap is_some c.in-Some.is) c.new_guest_task.ensures.begins;
      rest = refl;
    }

pub returns-then-is_hooked : goal.returns-then-is_hooked
returns-then-is_hooked g c =
    let store = c.args.store.now in
    let made = c.make_hooked.new.store in
    record {
      makes = subst
          (λ (f : Option QualifiedThreadId). MakesCall g.G.TaskGroupHook.listens c.args.kind c.args.instance f store c.make_hooked.result made)
          (sym c.in-None.is) c.make_hooked.ensures.makes;
      rest = c.make_hooked.ensures.rest;
    }

pub returns-else-is_hooked : goal.returns-else-is_hooked
returns-else-is_hooked g c =
    let store = c.args.store.now in
    let made = c.make_with_group.new.store in
    record {
      makes = subst
          (λ (f : Option QualifiedThreadId). MakesCall g.G.TaskGroupHook.listens c.args.kind c.args.instance f store c.make_with_group.result made)
          (sym c.in-None.is) c.make_with_group.ensures.makes;
      rest = c.make_with_group.ensures.rest;
    }
