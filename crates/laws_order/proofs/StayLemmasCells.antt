-- What a turn of a thread, or of a take, leaves of host works.
use Rattle.laws_states.proofs.CallsSteps.{codes_at}
use Rattle.laws_states.proofs.Primitives.{add_call, add_group, add_set, add_thread, add_work, AddGroup, after_primitive, Allowed, along, arith, by_number, call_made, Core, count_work, free_handle, free_thread_handle, get, get-change, get-insert, get-remove, give_handle, give_result, give_thread_handle, op_progress_of, OpProgress, inl, inr, Label, LaterBy, MayQueue, MayRemoveWork, nat_tests, on_call, on_instance, on_thread, on_work, Option, poll_pends, push_high, QueueWork, refl, remove_call, remove_group, remove_set, remove_thread, remove_work, RemoveWork, Scene, scene_as, set_backpressure, set_cancel_delivered, set_cancelled, set_course, set_do_not_enter, set_do_not_suspend, set_end, set_event, set_exited, set_op_progress, set_join, set_task_event, set_phase, set_position, set_register, set_result, set_saved_callee, set_saved_own, set_script, set_stage, set_started, set_starting_published, set_subtask_handle, set_thread_handle, set_trapped, set_uninteresting, set_memory_cell, Setting, State, step_walks, Subtask, take_result, true, Turn, with_handle, with_thread_handle, Primitive, Work, work_queued, WorkCaller, ℕ, ⊎_elim, ◌≡◌, ◌⊎◌, subst, sym, ◌≤◌, ◌∙◌}
use Rattle.std.specs.Prelude.{Bool, None, Some, false, is_some}
use Rattle.laws_order.proofs.CellLemmas.{cells_stay_inside, cells_stay_walked}
use Rattle.laws_order.specs.Cells.{CellsStayInside, CellsStayWalked, RunsWorks, IsInside, Runs, SameCell, StaysWork, Takes, WorksStayRunning, WorksStayTaken, WorksStayWalked, is_spawned}
use Rattle.laws_states.proofs.CallsSteps.{base_out}
use Rattle.laws_states.proofs.CourseLemmas.{courses_stay}
use Rattle.laws_states.specs.Courses.{CoursesStay, SameCourse}
use Rattle.machine_data.specs.declared.op.Op.{Op}
use Rattle.machine_rules.specs.Chains.{WalkedAs}
use Rattle.machine_rules.specs.Scripts.{ops_of}
use Rattle.machine_rules.specs.Works.{has_end}
use Rattle.laws_states.specs.Order.{WorksTold}
use Rattle.machine_data.specs.Read.{is_stage_ended, place_of, stage_of}
use Rattle.machine_data.specs.declared.records.Place.{Place}
use Rattle.laws_places.proofs.OrderLemmas.{asked}
use Rattle.machine_rules.specs.Allowed.{IsRunner}
use Rattle.machine_rules.specs.Scenes.{base_at, runner_at}
unfoldable use Rattle.machine_data.specs.Write.{arrive, set_cancel_asked}

-- ---- A work that is gone had ended

-- who goes on after its sync call of a host finds the work ended
abbrev Finds : Scene → Type 0
Finds c = (n i : ℕ) → IsRunner c n → op_progress_of n c.base ≡ OpProgress.Calls (Subtask.Host i) → is_stage_ended (stage_of i c.base) ≡ true

removed_ended : (a : Scene) → Finds a → (i : ℕ) (s : Core) → MayRemoveWork a i s → is_stage_ended (stage_of i a.base) ≡ true
removed_ended a finds i s (n, (is, (same, inl (far, done)))) = finds n i is far
removed_ended a finds i s (n, (is, (same, inr ended))) = ended.0

gone_primitive : (a : Scene) → Finds a → (i : ℕ) (w : Primitive) (s : Core) → Allowed a w s → get (after_primitive w s).works i ≡ None →
    (get s.works i ≡ None) ⊎ (is_stage_ended (stage_of i a.base) ≡ true)
unfolding arrive set_cancel_asked add_call add_group add_set add_thread add_work count_work free_handle free_thread_handle give_handle give_result give_thread_handle on_call on_instance on_thread on_work push_high remove_call remove_group remove_set remove_thread remove_work set_backpressure set_cancel_delivered set_cancelled set_course set_do_not_enter set_do_not_suspend set_end set_event set_exited set_op_progress set_join set_task_event set_phase set_position set_register set_result set_saved_callee set_saved_own set_script set_stage set_started set_starting_published set_subtask_handle set_thread_handle set_trapped set_uninteresting set_memory_cell take_result call_made with_handle with_thread_handle work_queued poll_pends
gone_primitive a finds i AddGroup s ok none = inl none
gone_primitive a finds i (RemoveWork j) s ok none = by_number i j _ (λ is. inr (removed_ended a finds i s (rw is ok)))
    (λ other. inl (grind (arith, nat_tests, get-remove, other, none)))
gone_primitive a finds i w s ok none = inl (first_of (assumption, grind (arith, nat_tests, get-change, get-insert)))

-- ---- A work that is new is a guest's call

-- each work that b hasn't is a call
abbrev Calls : Core → Core → Type 0
Calls b s = (i : ℕ) (w : Work) → get b.works i ≡ None → get s.works i ≡ Some w → is_spawned w.caller ≡ false

queued_call : (a : Scene) (f : WorkCaller) (group : Option ℕ) → (a.turn ≡ Turn.Main → ⊥) → MayQueue a f group → is_spawned f ≡ false
queued_call a WorkCaller.Spawn group inside may = absurd (inside may.1)
queued_call a (WorkCaller.Async n q) group inside may = refl
queued_call a (WorkCaller.Sync n) group inside may = refl

spawned_at : Option Work → Bool
spawned_at None = false
spawned_at (Some w) = is_spawned w.caller

spawned_primitive : (a : Scene) → (a.turn ≡ Turn.Main → ⊥) → (i : ℕ) (w : Primitive) (s : Core) → Allowed a w s → spawned_at (get s.works i) ≡ false →
    spawned_at (get (after_primitive w s).works i) ≡ false
unfolding arrive set_cancel_asked spawned_at add_call add_group add_set add_thread add_work count_work free_handle free_thread_handle give_handle give_result give_thread_handle on_call on_instance on_thread on_work push_high remove_call remove_group remove_set remove_thread remove_work set_backpressure set_cancel_delivered set_cancelled set_course set_do_not_enter set_do_not_suspend set_end set_event set_exited set_op_progress set_join set_task_event set_phase set_position set_register set_result set_saved_callee set_saved_own set_script set_stage set_started set_starting_published set_subtask_handle set_thread_handle set_trapped set_uninteresting set_memory_cell take_result call_made with_handle with_thread_handle work_queued poll_pends
spawned_primitive a inside i AddGroup s ok was = was
spawned_primitive a inside i (QueueWork f host group) s ok was = let call = queued_call a f group inside ok.1.0 in grind (arith, nat_tests, get-insert, call, was)
spawned_primitive a inside i w s ok was = first_of (assumption, grind (arith, nat_tests, get-change, get-insert, get-remove))

-- ---- A step

not_main : (p : Turn) → IsInside p → p ≡ Turn.Main → ⊥
not_main _ (Runs n) e = cc
not_main _ (Takes ended) e = cc

not_futures : (p : Turn) → IsInside p → (n : ℕ) → p ≡ Turn.Futures n → ⊥
not_futures _ (Runs n) m e = cc
not_futures _ (Takes ended) m e = cc

-- the cells stay, and who goes on after its sync call of a host finds the work ended
module _ (ops : ℕ → Op) (x : Setting) (s : State) (l : Label) (t : State) (w : WalkedAs ops x s l t) (where_in : IsInside s.turn)
    (cells : (i : ℕ) → i ≤ s.core.made.works → LaterBy SameCell (get s.core.works i) (get t.core.works i))
    (finds : Finds (scene_as ops x s l w.next)) (made : (i : ℕ) → is_some (get s.core.works i) ≡ true → i ≤ s.core.made.works)
    (told : WorksTold s.core) (i : ℕ) where
  gone : get t.core.works i ≡ None → (get s.core.works i ≡ None) ⊎ (is_stage_ended (stage_of i s.core) ≡ true)
  gone now =
      let a = scene_as ops x s l w.next in
      ⊎_elim inl (λ ended. inr (base_out (λ (b : Core). is_stage_ended (stage_of i b) ≡ true) s.turn s.core ended))
      (along (λ (u : Core). get u.works i ≡ None → (get s.core.works i ≡ None) ⊎ (is_stage_ended (stage_of i a.base) ≡ true))
      (λ v u ok q e. ⊎_elim q inr (gone_primitive a finds i v u ok e)) inl w.walk now)

  new : get s.core.works i ≡ None → spawned_at (get t.core.works i) ≡ false
  unfolding spawned_at
  new absent =
      let a = scene_as ops x s l w.next in
      along (λ (u : Core). spawned_at (get u.works i) ≡ false)
      (λ v u ok q. spawned_primitive a (not_main s.turn where_in) i v u ok q) (grind (arith, absent)) w.walk

  late_end : (v : Work) → get s.core.works i ≡ Some v → is_stage_ended (stage_of i s.core) ≡ true → has_end v.course ≡ true
  late_end v at ended = let late = (told i v at).late in grind (arith, at, ended, late)

  stays : (o p : Option Work) → get s.core.works i ≡ o → get t.core.works i ≡ p → (is_some o ≡ true → LaterBy SameCell o p × LaterBy SameCourse o p) → StaysWork o p
  unfolding spawned_at
  stays None None at now same = tt
  stays None (Some w) at now same = let call = new at in grind (arith, now, call)
  stays (Some v) None at now same = ⊎_elim (λ absent. absurd (grind (arith, at, absent))) (λ ended. late_end v at ended) (gone now)
  stays (Some v) (Some w) at now same = let q = same refl in record { cell = q.0.cell; caller = q.0.caller; course = q.1.course }

  work_stays : StaysWork (get s.core.works i) (get t.core.works i)
  unfolding CoursesStay
  work_stays = stays (get s.core.works i) (get t.core.works i) refl refl (λ there.
      let below = made i there in
      (cells i below, courses_stay ops x s l t w (not_futures s.turn where_in) i below))

-- a thread that runs isn't blocked
running_finds : (ops : ℕ → Op) (x : Setting) (s : State) (l : Label) (next : Turn) (n : ℕ) → RunsWorks n s.core → s.turn ≡ Turn.Run n → Finds (scene_as ops x s l next)
running_finds ops x s l next n h is m j runner far =
    subst (λ (u : Turn). runner_at u s.core ≡ Some m → op_progress_of m (base_at u s.core) ≡ OpProgress.Calls (Subtask.Host j) → is_stage_ended (stage_of j (base_at u s.core)) ≡ true)
    (sym is) (λ runs far. ended (cc) far) runner far
  where
    ended : n ≡ m → op_progress_of m s.core ≡ OpProgress.Calls (Subtask.Host j) → is_stage_ended (stage_of j s.core) ≡ true
    ended same far =
        let runs : place_of m s.core ≡ Some Place.Running = subst (λ (k : ℕ). place_of k s.core ≡ Some Place.Running) same h.runs in
        ⊎_elim (λ blocked. absurd (let e = sym runs ∙ blocked in cc)) (λ over. over) (h.awaited m j far).1

pub works_stay_running : WorksStayRunning
unfolding WorksStayRunning CellsStayInside
works_stay_running x s l t n h step is none i =
    let ops = ops_of x.component s.core in let w = step_walks x s l t step in let inside = subst IsInside (sym is) (Runs n) in
    work_stays ops x s l t w inside (cells_stay_inside x s l t step inside none h.known) (running_finds ops x s l w.next n h is) h.made h.told i

pub works_stay_walked : WorksStayWalked
unfolding WorksStayWalked CellsStayWalked
works_stay_walked ops x s l t n h w is nothing none i =
    let inside = subst IsInside (sym is) (Runs n) in
    work_stays ops x s l t w inside (cells_stay_walked ops x s l t w (not_futures s.turn inside) nothing none h.known) (running_finds ops x s l w.next n h is) h.made h.told i

pub works_stay_taken : WorksStayTaken
unfolding WorksStayTaken CellsStayInside
works_stay_taken x s l t ended h step is none i =
    let w = step_walks x s l t step in let inside = subst IsInside (sym is) (Takes ended) in
    work_stays (ops_of x.component s.core) x s l t w inside (cells_stay_inside x s l t step inside none h.works_known)
    (λ n j runner far. (asked x s l t h w (codes_at x s h.codes) n j runner far).1) h.works.made h.works_told i
