-- The exit and the enter are told before the other thread runs.
use Rattle.ops_state.specs.Currents.{IsCurrent}
use Rattle.std.proofs.Common.{inl, inr, refl, subst, ◌∙◌}
use Rattle.std.specs.Prelude.{ℕ}
use Rattle.store_notices.specs.Moves.{StopsAt, moved}
use Rattle.store_notices.specs.declared.tells.GroupsBefore.{GroupsBefore}
use Rattle.task_group.specs.Listeners.{ToldWithHookOk}
use Rattle.task_loop.proofs.GuestCallLemmas.{hears, ran_of}
use Rattle.task_loop.proofs.GuestTaskLemmas.{runs_holds}
use Rattle.task_loop.proofs.TellLemmas.{stops_failed}
use Rattle.task_loop.proofs.guest_tasks.set_thread.Goals as goal
use Rattle.task_loop.specs.Told.{groups_before_call}
use Rattle.task_store.specs.Hosts.{held_by}

pub returns : goal.returns
returns g c =
    let store = c.args.store.now in
    let s = store.state in
    let t = c.set_thread.new.w in
    let l = c.tell_moves.new.listeners in
    let new = c.set_thread.ensures.new in
    let ran = ran_of (IsCurrent s) c.set_thread.result c.set_thread.ensures.never c.set_thread.ensures.answer in
    record {
      does = record {
        heard = inl (record {
          before = ran.0;
          answers = ran.1.0;
          ran = ran.1.1;
          runs = new;
          order = c.set_thread.ensures.order;
          told = subst (λ (k : ℕ). ToldWithHookOk (moved (groups_before_call s) k) store.listeners l) c.group_to_run-group.ensures
              (subst (λ (a : GroupsBefore). ToldWithHookOk (moved a c.group_to_run-group.result) store.listeners l) c.asked-before.ensures c.in-Ok.ensures.told);
        });
        wakes = c.set_thread.ensures.wakes;
        works = λ course h. runs_holds (held_by course store) s t c.args.thread new h;
        rest = refl;
      };
    }

pub returns-in_default : goal.returns-in_default
returns-in_default g c =
    let store = c.args.store.now in
    let s = store.state in
    let l = c.tell_moves.new.listeners in
    let stops = c.in_default.ensures.stops in
    let hooked = c.is_hooked-hooked.ensures in
    record {
      does = record {
        heard = inr (record {
          hears = hears g.G.TaskGroupHook.listens c.is_hooked-hooked.result store.listeners l hooked.hook hooked.listens (stops_failed _ store.listeners l stops) c.in_default.ensures.hook;
          answers = refl;
          state = refl;
          stops = subst (λ (k : ℕ). StopsAt (moved (groups_before_call s) k) store.listeners l) c.group_to_run-group.ensures
              (subst (λ (a : GroupsBefore). StopsAt (moved a c.group_to_run-group.result) store.listeners l) c.asked-before.ensures stops);
        });
        wakes = λ may h. h;
        works = λ course h. h;
        rest = refl;
      };
    }
