-- The exit is told before the thread ends, and the finish after it.
use Rattle.store_notices.specs.Moves.{StopsAt, moved}
use Rattle.store_notices.specs.declared.tells.GroupsBefore.{GroupsBefore}
use Rattle.std.proofs.Common.{ap, arith, inl, inr, refl, subst, sym, ◌∙◌}
use Rattle.std.specs.Prelude.{false, not, true, ℕ, ◌≡◌}
use Rattle.laws_order.specs.KeptOrder.{LeavesInOrder}
use Rattle.task_group.specs.Listeners.{AnsweredErr, ToldWithHookOk}
use Rattle.task_loop.proofs.EndedLemmas.{came_ok, ends_so, leaves_none, leaves_some}
use Rattle.task_loop.proofs.GuestCallLemmas.{hears}
use Rattle.task_loop.proofs.GuestTaskLemmas.{ends_holds}
use Rattle.task_loop.proofs.TellLemmas.{stops_failed}
use Rattle.task_loop.proofs.guest_tasks.cleanup_thread.Goals as goal
use Rattle.task_loop.proofs.guest_tasks.cleanup_thread.Goals.{else-last-via-else-last, else-last-via-then-last+else-is_none}
use Rattle.task_loop.specs.Ended.{EndsTold, left_notices}
use Rattle.task_loop.specs.Told.{groups_before_call}
use Rattle.machine_data.specs.Core.{Core}
use Rattle.machine_data.specs.Read.{end_of}
use Rattle.task_store.specs.Hosts.{HoldsWorks, held_by}
use Rattle.core_primitives.specs.StateView.{thread_of}
use Rattle.laws_order.specs.WakesKept.{NoWakeLost}

-- ---- No thread would be left

pub returns-then-is_none : goal.returns-then-is_none
returns-then-is_none g c =
    let s = c.args.store.now.state in
    let n = thread_of s c.args.thread.thread in
    let none =
    leaves_none n s.core c.end_of-end.result (c.end_of-end.ensures ∙ ap (λ k. end_of k s.core) c.task_of.ensures.is)
    (sym c.is_last_thread-last.ensures ∙ c.if-last.true) c.if-is_none.ensures in
    record {
      does = record { hears = λ e. absurd (cc); leaves = inl (refl, (none, (refl, refl))); wakes = λ may h. h; works = λ course h. h; rest = refl };
    }

-- ---- An error to the exit

pub returns-in_default : goal.returns-in_default
returns-in_default g c =
    let store = c.args.store.now in
    let s = store.state in
    let n = thread_of s c.args.thread.thread in
    let l = c.tell_moves.new.listeners in
    let hooked = c.is_hooked-hooked.ensures in
    let stops : StopsAt (left_notices n s) store.listeners l =
    subst (λ (k : ℕ). StopsAt (moved (groups_before_call s) k) store.listeners l) c.group_left-after.ensures
    (subst (λ (a : GroupsBefore). StopsAt (moved a c.group_left-after.result) store.listeners l) c.asked-before.ensures c.in_default.ensures.stops) in
    let keeps =
    leaves_some n s.core c.end_of-end.result (c.end_of-end.ensures ∙ ap (λ k. end_of k s.core) c.task_of.ensures.is) (elim c.else-last.branch [
      | else-last-via-then-last+else-is_none w ↦ inr (sym c.is_last_thread-last.ensures ∙ w.if-last.true, w.is_none.ensures ∙ ap not w.if-is_none.false)
      | else-last-via-else-last w ↦ inl (sym c.is_last_thread-last.ensures ∙ w.if-last.false)
    ]) in
    record {
      does = record {
        hears = λ e. hears g.G.TaskGroupHook.listens c.is_hooked-hooked.result store.listeners l hooked.hook hooked.listens (stops_failed _ store.listeners l stops) c.in_default.ensures.hook;
        leaves = inr (refl, (keeps, inl (refl, stops)));
        wakes = λ may h. h;
        works = λ course h. h;
        rest = refl;
      };
    }

-- ---- An error to a finish

pub returns-in_default-finish_ended : goal.returns-in_default-finish_ended
returns-in_default-finish_ended g c =
    let store = c.args.store.now in
    let s = store.state in
    let n = thread_of s c.args.thread.thread in
    let t = c.cleanup_thread-answer.new.w in
    let u = c.finish_ended.new.core in
    let l = c.tell_moves.new.listeners in
    let new = c.finish_ended.new.listeners in
    let hooked = c.is_hooked-hooked.ensures in
    let keeps =
    leaves_some n s.core c.end_of-end.result (c.end_of-end.ensures ∙ ap (λ k. end_of k s.core) c.task_of.ensures.is) (elim c.else-last.branch [
      | else-last-via-then-last+else-is_none w ↦ inr (sym c.is_last_thread-last.ensures ∙ w.if-last.true, w.is_none.ensures ∙ ap not w.if-is_none.false)
      | else-last-via-else-last w ↦ inl (sym c.is_last_thread-last.ensures ∙ w.if-last.false)
    ]) in
    let done = ends_so n s t _ c.cleanup_thread-answer.result keeps c.cleanup_thread-answer.ensures.ends in
    let with_hook_ok : ToldWithHookOk (left_notices n s) store.listeners l =
    subst (λ (k : ℕ). ToldWithHookOk (moved (groups_before_call s) k) store.listeners l) c.group_left-after.ensures
    (subst (λ (a : GroupsBefore). ToldWithHookOk (moved a c.group_left-after.result) store.listeners l) c.asked-before.ensures c.in-Ok.ensures.told) in
    let told : EndsTold n s u store.listeners new = record { left = t; gone = done.1; asked = c.finish_ended.ensures.asked; between = l; moved = with_hook_ok; finished = c.finish_ended.ensures.told } in
    let failed : AnsweredErr store.listeners new = let hook_is_ok = with_hook_ok.hook_is_ok in let err = c.in_default-finish_ended.ensures.hook.failed in omega (arith, hook_is_ok, err) in
    record {
      does = record {
        hears = λ e. hears g.G.TaskGroupHook.listens c.is_hooked-hooked.result store.listeners new hooked.hook hooked.listens failed (c.finish_ended.ensures.hook.hook ∙ c.in-Ok.ensures.hook);
        leaves = inr (refl, (keeps, inr (told, failed)));
        wakes = λ may h. subst (λ (d : Core). NoWakeLost d) (sym (ap (λ v. v.core) c.finish_ended.ensures.asked)) (c.cleanup_thread-answer.ensures.wakes may h);
        works = λ course h.
            subst (λ (d : Core). HoldsWorks (held_by course store) d) (sym (ap (λ v. v.core) c.finish_ended.ensures.asked))
            (ends_holds (held_by course store) n s t _ c.cleanup_thread-answer.result c.cleanup_thread-answer.ensures.ends h);
        rest = refl;
      };
    }

-- ---- The end

pub returns : goal.returns
returns g c =
    let store = c.args.store.now in
    let s = store.state in
    let n = thread_of s c.args.thread.thread in
    let t = c.cleanup_thread-answer.new.w in
    let u = c.finish_ended.new.core in
    let l = c.tell_moves.new.listeners in
    let new = c.finish_ended.new.listeners in
    let keeps =
    leaves_some n s.core c.end_of-end.result (c.end_of-end.ensures ∙ ap (λ k. end_of k s.core) c.task_of.ensures.is) (elim c.else-last.branch [
      | else-last-via-then-last+else-is_none w ↦ inr (sym c.is_last_thread-last.ensures ∙ w.if-last.true, w.is_none.ensures ∙ ap not w.if-is_none.false)
      | else-last-via-else-last w ↦ inl (sym c.is_last_thread-last.ensures ∙ w.if-last.false)
    ]) in
    let done = ends_so n s t _ c.cleanup_thread-answer.result keeps c.cleanup_thread-answer.ensures.ends in
    let with_hook_ok : ToldWithHookOk (left_notices n s) store.listeners l =
    subst (λ (k : ℕ). ToldWithHookOk (moved (groups_before_call s) k) store.listeners l) c.group_left-after.ensures
    (subst (λ (a : GroupsBefore). ToldWithHookOk (moved a c.group_left-after.result) store.listeners l) c.asked-before.ensures c.in-Ok.ensures.told) in
    let told : EndsTold n s u store.listeners new = record { left = t; gone = done.1; asked = c.finish_ended.ensures.asked; between = l; moved = with_hook_ok; finished = c.finish_ended.ensures.told } in
    record {
      does = rw done.0 (record {
        hears = λ e. absurd (cc);
        leaves = record { result = keeps; ends = told; order = subst (λ (d : Core). LeavesInOrder n s.core d) (sym (ap (λ v. v.core) c.finish_ended.ensures.asked)) (came_ok c.cleanup_thread-answer.result done.0 c.cleanup_thread-answer.ensures.order); hook_is_ok = λ err. let a = with_hook_ok.hook_is_ok in let b = c.in-Ok-finish_ended.ensures.hook.hook_is_ok in omega (arith, a, b, err) };
        wakes = λ may h. subst (λ (d : Core). NoWakeLost d) (sym (ap (λ v. v.core) c.finish_ended.ensures.asked)) (c.cleanup_thread-answer.ensures.wakes may h);
        works = λ course h.
            subst (λ (d : Core). HoldsWorks (held_by course store) d) (sym (ap (λ v. v.core) c.finish_ended.ensures.asked))
            (ends_holds (held_by course store) n s t _ c.cleanup_thread-answer.result c.cleanup_thread-answer.ensures.ends h);
        rest = refl;
      });
    }
