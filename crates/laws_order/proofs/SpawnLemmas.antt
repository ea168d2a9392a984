-- The record of a spawned work stays.
use Rattle.laws_order.specs.Spawns.{RunsKeepSpawns, SpawnsStay}
use Rattle.std.proofs.Common.{ap, arith, inl, inr, le_trans, refl, subst, sym, ⊎_elim, ◌∙◌}
use Rattle.std.proofs.lemmas.Bool.Decides.{nat_tests}
use Rattle.laws_states.proofs.KnownWorks.{caller_stays}
use Rattle.laws_states.proofs.Primitives.{add_call, add_group, add_set, add_thread, add_work, after_primitive, Allowed, along, call_made, count_work, Core, free_handle, free_thread_handle, get, get-change, get-insert, get-remove, give_handle, give_result, give_thread_handle, made_works_primitive, MayRemoveWork, by_number, of_base, on_call, on_instance, on_thread, on_work, poll_pends, push_high, RemoveWork, remove_call, remove_group, remove_set, remove_thread, remove_work, Scene, scene_of, set_backpressure, set_cancel_delivered, set_cancelled, set_course, set_do_not_enter, set_do_not_suspend, set_end, set_event, set_exited, set_op_progress, set_join, set_task_event, set_phase, set_position, set_register, set_result, set_saved_callee, set_saved_own, set_script, set_stage, set_started, set_starting_published, set_subtask_handle, set_thread_handle, set_trapped, set_uninteresting, set_memory_cell, step_walks, take_result, with_handle, with_thread_handle, Primitive, Work, work_caller_of, work_queued, WorkCaller, WorksKnown}
use Rattle.std.specs.Option.{option_map_or}
use Rattle.std.specs.Prelude.{None, Option, Some, [], false, is_some, true, ℕ, ◌∷◌, ◌≡◌, ◌≤◌}
use Rattle.machine_data.specs.Core.{State}
use Rattle.laws_places.proofs.OrderLemmas.{step_in_order}
use Rattle.machine_rules.specs.MainOps.{is_spawn, is_spawn_caller}
unfoldable use Rattle.machine_data.specs.Write.{arrive, set_cancel_asked}

module _ (a : Scene) (base : WorksKnown a.base) (i : ℕ) where
  -- no primitive of the step removes it
  spared : (s : Core) → work_caller_of i s ≡ WorkCaller.Spawn → MayRemoveWork a i s → ⊥
  spared s is (n, (runs, (same, inl (far, done)))) =
      let sync = (base.called n i far).1 in
      let clash : WorkCaller.Spawn ≡ WorkCaller.Sync n = sym is ∙ same ∙ sync in
      cc
  spared s is (n, (runs, (same, inr (ended, (free, (over, (h, named))))))) =
      let async = base.async h i (base.there _ h i named) in
      let spawn : work_caller_of i a.base ≡ WorkCaller.Spawn = sym same ∙ is in
      grind (arith, async, spawn)

  there_primitive : (w : Primitive) (s : Core) → Allowed a w s → (MayRemoveWork a i s → ⊥) → i ≤ s.made.works →
      is_some (get s.works i) ≡ true → is_some (get (after_primitive w s).works i) ≡ true
  unfolding arrive set_cancel_asked add_call add_group add_set add_thread add_work call_made count_work free_handle free_thread_handle give_handle give_result give_thread_handle on_call on_instance on_thread on_work poll_pends push_high remove_call remove_group remove_set remove_thread remove_work set_backpressure set_cancel_delivered set_cancelled set_course set_do_not_enter set_do_not_suspend set_end set_event set_exited set_op_progress set_join set_task_event set_phase set_position set_register set_result set_saved_callee set_saved_own set_script set_stage set_started set_starting_published set_subtask_handle set_thread_handle set_trapped set_uninteresting set_memory_cell take_result with_handle with_thread_handle work_queued
  there_primitive (RemoveWork j) s ok stays below there = by_number j i _ (λ e. absurd (stays (rw e at ok))) (λ e. grind (arith, nat_tests, get-remove, e, there))
  there_primitive w s ok stays below there = grind (arith, nat_tests, get-change, get-insert, there)

  -- on the way of a step
  record Spawned (s : Core) : Type 0 where
    below : i ≤ s.made.works
    there : is_some (get s.works i) ≡ true
    caller : work_caller_of i s ≡ WorkCaller.Spawn

  spawned_primitive : (w : Primitive) (s : Core) → Allowed a w s → Spawned s → Spawned (after_primitive w s)
  spawned_primitive w s ok q =
      let stays = spared s q.caller in record {
        below = le_trans q.below (made_works_primitive a w s);
        there = there_primitive w s ok stays q.below q.there;
        caller = ⊎_elim (λ same. same ∙ q.caller) (λ gone. absurd (stays gone.0)) (caller_stays a w s ok i q.below);
      }

-- ---- What is_spawn says

caller_in : (o : Option Work) → option_map_or (λ w. is_spawn_caller w.caller) o false ≡ true → (is_some o ≡ true) × (option_map_or (λ (w : Work). w.caller) o WorkCaller.Spawn ≡ WorkCaller.Spawn)
caller_in None is = absurd (cc)
caller_in (Some w) is = (refl, by w.caller is)
  where
    by : (f : WorkCaller) → is_spawn_caller f ≡ true → f ≡ WorkCaller.Spawn
    by WorkCaller.Spawn h = refl
    by (WorkCaller.Async n q) h = absurd (cc)
    by (WorkCaller.Sync n) h = absurd (cc)

caller_out : (o : Option Work) → is_some o ≡ true → option_map_or (λ (w : Work). w.caller) o WorkCaller.Spawn ≡ WorkCaller.Spawn → option_map_or (λ w. is_spawn_caller w.caller) o false ≡ true
caller_out None there is = absurd (cc)
caller_out (Some w) there is = ap is_spawn_caller is

-- ---- Steps and runs

pub spawns_stay : SpawnsStay
unfolding SpawnsStay
spawns_stay x s l t order step i is =
    let w = step_walks x s l t step in
    let a = scene_of x s l w.next in
    let known : WorksKnown a.base = of_base WorksKnown s.turn s.core (record { there = λ j h k e. order.works_known.there j h k e; once = λ j m h g k e f. order.works_known.once j m h g k e f; async = λ h j e. order.works_known.async h j e; called = λ n j far. order.works_known.called n j far }) in
    let was = caller_in (get s.core.works i) is in
    let first : Spawned a known i s.core = record { below = order.works.made i was.0; there = was.0; caller = was.1 } in
    let last = along (Spawned a known i) (λ v u ok q. spawned_primitive a known i v u ok q) first w.walk in
    caller_out (get t.core.works i) last.there last.caller

pub runs_keep_spawns : RunsKeepSpawns
unfolding RunsKeepSpawns SpawnsStay
runs_keep_spawns x s [] t order run i is = subst (λ (u : State). is_spawn i u.core ≡ true) (sym run) is
runs_keep_spawns x s (l ∷ ls) t order (mid, (step, rest)) i is =
    runs_keep_spawns x mid ls t (step_in_order x s l mid order step) rest i (spawns_stay x s l mid order step i is)
