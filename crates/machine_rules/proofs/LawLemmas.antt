-- The laws of steps and runs.
use Rattle.machine_rules.proofs.Machine.{[], add_call, add_group, add_set, add_thread, add_work, AddGroup, after_primitive, ap, arith, Call, call_made, Core, count_work, EachStep, free_handle, free_thread_handle, get, get-change, get-insert, get-remove, give_handle, give_result, give_thread_handle, KeptByRuns, Label, LaterBy, LaterCall, LaterWork, le_trans, nat_tests, NeverFewer, None, on_call, on_instance, on_thread, on_work, Option, Outcome, outcome_of_label, OutcomeEnds, OutcomeIsLast, OverIsLast, Places, poll_pends, push_high, refl, remove_call, remove_group, remove_set, remove_thread, remove_work, Run, RunGoesOn, RunsJoin, SameLimits, SameThread, Scene, set_backpressure, set_cancel_delivered, set_cancelled, set_course, set_do_not_enter, set_do_not_suspend, set_end, set_event, set_exited, set_op_progress, set_join, set_task_event, set_phase, set_position, set_register, set_result, set_saved_callee, set_saved_own, set_script, set_stage, set_started, set_starting_published, set_subtask_handle, set_thread_handle, set_trapped, set_uninteresting, set_memory_cell, Setting, settled_turn, SetTrapped, Some, State, Steady, Step, subst, sym, take_result, TakeHost, TakePush, Thread, Turn, TurnStep, Walk, with_handle, with_thread_handle, Primitive, Work, work_queued, ℕ, ◌∙◌, ◌∷◌, ◌≡◌, ◌≤◌}
use Rattle.machine_rules.proofs.{ChainLemmas.along, PlacingLemmas.placing_shifted, PlacingLemmas.popped_shifted, WalkSteps.step_walks}
unfoldable use Rattle.machine_data.specs.Write.{arrive, set_cancel_asked}

-- a label that gives an outcome ends the turns
pub step_ends : OutcomeEnds
step_ends x s l t step o is = let c = step_walks x s l t step in c.turn ∙ ap (λ (u : Turn). settled_turn t.core u) (c.ends.outcome o is)

-- nothing is lawful after that
pub step_over : OverIsLast
unfolding Step
step_over x s l t is step = subst (λ (u : Turn). TurnStep x s u l t) is step

pub run_goes_on : RunGoesOn
run_goes_on x s [] m l t r step = (t, (subst (λ (y : State). Step x y l t) r step, refl))
run_goes_on x s (k ∷ ks) m l t r step = (r.0, (r.1.0, run_goes_on x r.0 ks m l t r.1.1 step))

pub runs_join : RunsJoin
runs_join x s [] m ks t r q = subst (λ (y : State). Run x y ks t) r q
runs_join x s (l ∷ ls) m ks t r q = (r.0, (r.1.0, runs_join x r.0 ls m ks t r.1.1 q))

module _ (R : Core → Core → Type 0) (same : (s : Core) → R s s) where
  -- what each primitive keeps of the first core, each step keeps
  step_kept : ((b : Core) (w : Primitive) (s : Core) → R b s → R b (after_primitive w s)) → EachStep R
  step_kept kept x s l t step = along (R s.core) (λ w u ok h. kept s.core w u h) (same s.core) (step_walks x s l t step).walk

  -- and what each step keeps, each run keeps
  runs_keep : ((s m t : Core) → R s m → R m t → R s t) → EachStep R → KeptByRuns R
  runs_keep after step x s [] t r = subst (λ (y : State). R s.core y.core) (sym r) (same s.core)
  runs_keep after step x s (l ∷ ls) t r = after s.core r.0.core t.core (step x s l r.0 r.1.0) (runs_keep after step x r.0 ls t r.1.1)

not_last : (x : Setting) (m : State) (k : Label) (t : State) (o : Option Outcome) → ((p : Outcome) → o ≡ Some p → m.turn ≡ Turn.Over) →
    Step x m k t → o ≡ None
not_last x m k t None over step = refl
not_last x m k t (Some p) over step = absurd (step_over x m k t (over p refl) step)

pub outcome_is_last : OutcomeIsLast
outcome_is_last x s [] l k t r = not_last x r.0 k r.1.1.0 (outcome_of_label l) (step_ends x s l r.0 r.1.0) r.1.1.1.0
outcome_is_last x s (j ∷ js) l k t r = outcome_is_last x r.0 js l k t r.1.1

fewer_primitive : (w : Primitive) (s : Core) → NeverFewer s (after_primitive w s)
unfolding arrive set_cancel_asked add_call add_group add_set add_thread add_work call_made count_work free_handle free_thread_handle give_handle give_result give_thread_handle on_call on_instance on_thread on_work poll_pends push_high remove_call remove_group remove_set remove_thread remove_work set_backpressure set_cancel_delivered set_cancelled set_course set_do_not_enter set_do_not_suspend set_end set_event set_exited set_op_progress set_join set_task_event set_phase set_position set_register set_result set_saved_callee set_saved_own set_script set_stage set_started set_starting_published set_subtask_handle set_thread_handle set_trapped set_uninteresting set_memory_cell take_result with_handle with_thread_handle work_queued
fewer_primitive AddGroup s = omega arith
fewer_primitive w s = omega arith

pub never_fewer : EachStep NeverFewer
never_fewer = step_kept NeverFewer (λ s. omega arith) (λ b w s q. let more = fewer_primitive w s in omega arith)

pub runs_never_fewer : KeptByRuns NeverFewer
runs_never_fewer = runs_keep NeverFewer (λ s. omega arith) (λ s m t a b. omega arith) never_fewer

limited_primitive : (b : Core) (w : Primitive) (s : Core) → SameLimits b s → SameLimits b (after_primitive w s)
unfolding arrive set_cancel_asked add_call add_group add_set add_thread add_work call_made count_work free_handle free_thread_handle give_handle give_result give_thread_handle on_call on_instance on_thread on_work poll_pends push_high remove_call remove_group remove_set remove_thread remove_work set_backpressure set_cancel_delivered set_cancelled set_course set_do_not_enter set_do_not_suspend set_end set_event set_exited set_op_progress set_join set_task_event set_phase set_position set_register set_result set_saved_callee set_saved_own set_script set_stage set_started set_starting_published set_subtask_handle set_thread_handle set_trapped set_uninteresting set_memory_cell take_result with_handle with_thread_handle work_queued
limited_primitive b SetTrapped s q = record { handle_limit = q.handle_limit; capacity = q.capacity; trapped = λ h. refl }
limited_primitive b w s q = assumption

pub same_limits : EachStep SameLimits
same_limits = step_kept SameLimits (λ s. assumption) limited_primitive

pub runs_same_limits : KeptByRuns SameLimits
runs_same_limits = runs_keep SameLimits (λ s. assumption) (λ s m t a b. grind arith) same_limits

-- what was there is gone or later, along two steps
thread_after : (x y z : Option Thread) → LaterBy SameThread x y → LaterBy SameThread y z → LaterBy SameThread x z
thread_after x y z p q = grind arith

call_after : (x y z : Option Call) → LaterBy LaterCall x y → LaterBy LaterCall y z → LaterBy LaterCall x z
call_after x y z p q = grind arith

work_after : (x y z : Option Work) → LaterBy LaterWork x y → LaterBy LaterWork y z → LaterBy LaterWork x z
work_after x y z p q = grind arith

-- so it is of each record of b along a primitive, whose number was given
module _ (b : Core) where
  threads_primitive : (w : Primitive) (s : Core) (n : ℕ) → n ≤ s.made.threads → LaterBy SameThread (get b.threads n) (get s.threads n) →
      LaterBy SameThread (get b.threads n) (get (after_primitive w s).threads n)
  unfolding arrive set_cancel_asked add_call add_group add_set add_thread add_work call_made count_work free_handle free_thread_handle give_handle give_result give_thread_handle on_call on_instance on_thread on_work poll_pends push_high remove_call remove_group remove_set remove_thread remove_work set_backpressure set_cancel_delivered set_cancelled set_course set_do_not_enter set_do_not_suspend set_end set_event set_exited set_op_progress set_join set_task_event set_phase set_position set_register set_result set_saved_callee set_saved_own set_script set_stage set_started set_starting_published set_subtask_handle set_thread_handle set_trapped set_uninteresting set_memory_cell take_result with_handle with_thread_handle work_queued
  threads_primitive (Places p) s n below q = let same = (placing_shifted p s).threads n in grind arith
  threads_primitive (TakePush m i) s n below q = let same = (popped_shifted m s).threads n in grind arith
  threads_primitive (TakeHost m i) s n below q = let same = (popped_shifted m s).threads n in grind arith
  threads_primitive w s n below q = first_of (assumption, grind (arith, nat_tests, get-change, get-insert, get-remove))

  calls_primitive : (w : Primitive) (s : Core) (n : ℕ) → n ≤ s.made.threads → LaterBy LaterCall (get b.calls n) (get s.calls n) →
      LaterBy LaterCall (get b.calls n) (get (after_primitive w s).calls n)
  unfolding arrive set_cancel_asked add_call add_group add_set add_thread add_work call_made count_work free_handle free_thread_handle give_handle give_result give_thread_handle on_call on_instance on_thread on_work poll_pends push_high remove_call remove_group remove_set remove_thread remove_work set_backpressure set_cancel_delivered set_cancelled set_course set_do_not_enter set_do_not_suspend set_end set_event set_exited set_op_progress set_join set_task_event set_phase set_position set_register set_result set_saved_callee set_saved_own set_script set_stage set_started set_starting_published set_subtask_handle set_thread_handle set_trapped set_uninteresting set_memory_cell take_result with_handle with_thread_handle work_queued
  calls_primitive AddGroup s n below q = q
  calls_primitive w s n below q = first_of (assumption, grind (arith, nat_tests, get-change, get-insert, get-remove))

  works_primitive : (w : Primitive) (s : Core) (n : ℕ) → n ≤ s.made.works → LaterBy LaterWork (get b.works n) (get s.works n) →
      LaterBy LaterWork (get b.works n) (get (after_primitive w s).works n)
  unfolding arrive set_cancel_asked add_call add_group add_set add_thread add_work call_made count_work free_handle free_thread_handle give_handle give_result give_thread_handle on_call on_instance on_thread on_work poll_pends push_high remove_call remove_group remove_set remove_thread remove_work set_backpressure set_cancel_delivered set_cancelled set_course set_do_not_enter set_do_not_suspend set_end set_event set_exited set_op_progress set_join set_task_event set_phase set_position set_register set_result set_saved_callee set_saved_own set_script set_stage set_started set_starting_published set_subtask_handle set_thread_handle set_trapped set_uninteresting set_memory_cell take_result with_handle with_thread_handle work_queued
  works_primitive AddGroup s n below q = q
  works_primitive w s n below q = first_of (assumption, grind (arith, nat_tests, get-change, get-insert, get-remove))

steady_same : (s : Core) → Steady s s
steady_same s = grind arith

steady_after : (s m t : Core) → Steady s m → Steady m t → Steady s t
steady_after s m t a b = record {
  threads_made = le_trans a.threads_made b.threads_made;
  works_made = le_trans a.works_made b.works_made;
  threads = λ n h. thread_after _ (get m.threads n) _ (a.threads n h) (b.threads n (le_trans h a.threads_made));
  calls = λ k h. call_after _ (get m.calls k) _ (a.calls k h) (b.calls k (le_trans h a.threads_made));
  works = λ i h. work_after _ (get m.works i) _ (a.works i h) (b.works i (le_trans h a.works_made));
}

steady_primitive : (b : Core) (w : Primitive) (s : Core) → Steady b s → Steady b (after_primitive w s)
steady_primitive b w s q = record {
  threads_made = le_trans q.threads_made (fewer_primitive w s).threads;
  works_made = le_trans q.works_made (fewer_primitive w s).works;
  threads = λ n h. threads_primitive b w s n (le_trans h q.threads_made) (q.threads n h);
  calls = λ k h. calls_primitive b w s k (le_trans h q.threads_made) (q.calls k h);
  works = λ i h. works_primitive b w s i (le_trans h q.works_made) (q.works i h);
}

-- a walk keeps each record that of the same thread, call or work
pub walk_steady : {a : Scene} {b t : Core} → Walk a b t → Steady b t
walk_steady {b = b} c = along (Steady b) (λ w u ok h. steady_primitive b w u h) (steady_same b) c

pub steady : EachStep Steady
steady x s l t step = walk_steady (step_walks x s l t step).walk

pub runs_steady : KeptByRuns Steady
runs_steady = runs_keep Steady steady_same steady_after steady
