-- A subtask that an op cancels keeps its handle, along the primitives of a step.
use Rattle.laws_states.proofs.Primitives.{add_call, add_group, add_set, add_thread, add_work, after_primitive, Allowed, ap, arith, by_number, call_made, cancelled_by, CancelsNamed, CancelsWatched, Core, count_work, free_handle, free_thread_handle, get-change, get-insert, get-remove, give_handle, give_result, give_thread_handle, op_progress_of, OpProgress, inl, inr, instance_of, is_joined, is_some, join_of, MakeCall, MayCome, NamesKnown, nat_tests, on_call, on_instance, on_thread, on_work, op_came, poll_pends, push_high, Queues, QueueWork, refl, remove_call, remove_group, remove_set, remove_thread, remove_work, RemoveCall, RemoveWork, Scene, set_backpressure, set_cancel_delivered, set_cancelled, set_course, set_do_not_enter, set_do_not_suspend, set_end, set_event, set_exited, set_op_progress, set_join, set_task_event, set_phase, set_position, set_register, set_result, set_saved_callee, set_saved_own, set_script, set_stage, set_started, set_starting_published, set_subtask_handle, set_thread_handle, set_trapped, set_uninteresting, set_memory_cell, Some, Subtask, subtask_at, subtask_handle, take_result, true, Turn, UnnameCall, UnnameWork, with_handle, with_thread_handle, Primitive, work_queued, WorksKnown, ℕ, ⊎_elim, ◌≡◌, ◌⊎◌}
use Rattle.laws_states.proofs.{KnownWorks.WorksSaid, KnownWorks.unnamed_removed, MemberLemmas.handle_is, NamedCalls.NamesHold, NamedCalls.deletable_unnamed}
use Rattle.machine_rules.specs.Allowed.{Leaves}
unfoldable use Rattle.machine_data.specs.Write.{arrive, set_cancel_asked}

-- entries say nothing of handles
pub queued_handle : (q : Queues) (s : Core) (sub : Subtask) → subtask_handle sub (record s { queues = q }) ≡ subtask_handle sub s
queued_handle q s (Subtask.Guest k) = refl
queued_handle q s (Subtask.Host i) = refl

-- What is known of the core before the step.
pub record KnownCancels (a : Scene) : Type 0 where
  pub calls : NamesKnown a.base
  pub works : WorksKnown a.base
  pub cancels : CancelsNamed a.base

-- On the way of a step: a handle that named a subtask before it names it still, where the running thread doesn't run on.
pub record CancelsGo (a : Scene) (s : Core) : Type 0 where
  pub kept : a.next ≡ Turn.Main → (sub : Subtask) → is_some (subtask_handle sub a.base) ≡ true → is_some (subtask_handle sub s) ≡ true
  pub named : CancelsNamed s

-- it may not lose its handle
abbrev Keeps : Scene → Subtask → Core → Type 0
Keeps a sub s = (is_joined (join_of sub s) ≡ true) ⊎ (a.next ≡ Turn.Main)

handle_primitive : (a : Scene) → KnownCancels a → (w : Primitive) (s : Core) → Allowed a w s → NamesHold s → WorksSaid s → (sub : Subtask) → Keeps a sub s →
    is_some (subtask_handle sub s) ≡ true → is_some (subtask_handle sub (after_primitive w s)) ≡ true
unfolding arrive set_cancel_asked add_call add_group add_set add_thread add_work count_work free_handle free_thread_handle give_handle give_result give_thread_handle on_call on_instance on_thread on_work push_high remove_call remove_group remove_set remove_thread remove_work set_backpressure set_cancel_delivered set_cancelled set_course set_do_not_enter set_do_not_suspend set_end set_event set_exited set_op_progress set_join set_task_event set_phase set_position set_register set_result set_saved_callee set_saved_own set_script set_stage set_started set_starting_published set_subtask_handle set_thread_handle set_trapped set_uninteresting set_memory_cell take_result call_made with_handle with_thread_handle work_queued poll_pends
handle_primitive a known (UnnameCall i h k) s ok calls works (Subtask.Guest q) keeps is =
    by_number q k _ (λ e. absurd (let free = ok.1.1.1.1.0 in let on = ok.1.1.1.1.1 in grind arith)) (λ other. grind (arith, nat_tests, get-change))
handle_primitive a known (UnnameWork i h k) s ok calls works (Subtask.Host q) keeps is =
    by_number q k _ (λ e. absurd (let free = ok.1.1.1.1.0 in let on = ok.1.1.1.1.1 in grind arith)) (λ other. grind (arith, nat_tests, get-change))
handle_primitive a known (RemoveCall k) s ok calls works (Subtask.Guest q) keeps is =
    let none = deletable_unnamed k s ok.0 in grind (arith, nat_tests, get-remove)
handle_primitive a known (RemoveWork k) s ok calls works (Subtask.Host q) keeps is =
    let none = unnamed_removed a known.works k s works.known ok in grind (arith, nat_tests, get-remove)
handle_primitive a known (MakeCall f e x g group words) s ok calls works (Subtask.Guest q) keeps is =
    let low = calls.number q in grind (arith, nat_tests, get-insert)
handle_primitive a known (QueueWork f host group) s ok calls works (Subtask.Host q) keeps is =
    let low = works.number q in grind (arith, nat_tests, get-insert)
handle_primitive a known w s ok calls works (Subtask.Guest q) keeps is = grind (arith, nat_tests, get-change)
handle_primitive a known w s ok calls works (Subtask.Host q) keeps is = grind (arith, nat_tests, get-change)

module _ (a : Scene) (known : KnownCancels a) where
  -- an op comes to cancel what a handle named before the step
  come_named : (s : Core) (n : ℕ) (g : OpProgress) (sub : Subtask) → MayCome a n g s → cancelled_by g ≡ Some sub →
      Leaves a n × (((h : ℕ) × (subtask_at (instance_of n a.base) h a.base ≡ Some sub)) ⊎ (cancelled_by (op_progress_of n a.base) ≡ Some sub))
  come_named s n g sub ok is = grind arith

  watched_joined : (s : Core) → CancelsWatched s → CancelsNamed s → (n : ℕ) (sub : Subtask) → cancelled_by (op_progress_of n s) ≡ Some sub →
      is_joined (join_of sub s) ≡ true
  watched_joined s watched named n sub far = let w = watched n sub far in let h = named n sub far in grind (arith, nat_tests)

  pub cancels_primitive : (w : Primitive) (s : Core) → Allowed a w s → NamesHold s → WorksSaid s → CancelsWatched s → CancelsGo a s → CancelsGo a (after_primitive w s)
  cancels_primitive w s ok calls works watched q = record {
    kept = λ to sub is. handle_primitive a known w s ok calls works sub (inr to) (q.kept to sub is);
    named = λ n sub far. ⊎_elim
        (λ was. handle_primitive a known w s ok calls works sub (inl (watched_joined s watched q.named n sub was)) (q.named n sub was))
        (λ g. let c = come_named s n g.0 sub g.1.0 g.1.1 in handle_primitive a known w s ok calls works sub (inr c.0.1.0) (q.kept c.0.1.0 sub
        (⊎_elim (λ named. ap (λ o. is_some o) (handle_is a.base known.calls known.works _ named.0 sub named.1)) (known.cancels n sub) c.1)))
        (op_came cancelled_by sub w s ok n refl far);
  }
