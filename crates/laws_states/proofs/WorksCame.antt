-- What each primitive of a step does to a host work, and that works have their entries.
use Rattle.laws_states.proofs.Rules.{[], add_call, add_group, add_set, add_thread, add_work, after_placing, after_primitive, Allowed, ap, arith, Bool, call_made, change, change-change_same, Core, count_work, Course, course_of, course_value, EndWork, Entry, false, FinishWork, free_handle, free_thread_handle, get, get-change, give_handle, give_result, give_thread_handle, has_end, host_status, HostDef, inl, inr, is_aborted, is_async_work, is_finishing, is_host_of, is_late, is_push_of, is_queued, is_some, is_stage_ended, is_stage_live, Label, List, LoopLabel, Mark, MayAbort, MayFinish, MayRemoveWork, nat_tests, new_work, next_entry, next_work, None, on_call, on_instance, on_thread, on_work, one_if, Option, option_map, or_high, Pend, Phase, Places, placing_works, poll_pends, popped, push_high, QueueWork, refl, remove_call, remove_group, remove_set, remove_thread, remove_work, RemoveWork, rest_of, Scene, set_backpressure, set_cancel_delivered, set_cancelled, set_course, set_do_not_enter, set_do_not_suspend, set_end, set_event, set_exited, set_high, set_op_progress, set_join, set_task_event, set_phase, set_position, set_register, set_result, set_saved_callee, set_saved_own, set_script, set_stage, set_started, set_starting_published, set_subtask_handle, set_thread_handle, set_trapped, set_uninteresting, set_memory_cell, SetPhase, Some, Stage, stage_of, stands, Status, sym, take_result, TakeHost, TakePush, TakeWorkEvent, true, unqueued, unqueued_works, with_handle, with_thread_handle, Withdraw, Primitive, Work, work_caller_of, work_entries, work_queued, WorkCaller, ℕ, ⊎_elim, ◌++◌, ◌+◌, ◌∙◌, ◌∷◌, ◌≡◌, ◌≤◌, ◌⊎◌}
use Rattle.laws_states.proofs.{Basics.no_way, CountLemmas.made_works_primitive, EachLemmas.after_remove, EachLemmas.at_change, EachLemmas.at_insert, PolledWorks.polled_is_live}
unfoldable use Rattle.machine_data.specs.Write.{arrive, set_cancel_asked}

-- ---- What a work does

-- what is said of a work
pub record Doing : Type 0 where
  pub caller : WorkCaller
  pub course : Course
  pub stage : Stage
  pub phase : Phase
  pub event : Option Status

abbrev pub doing : Work → Doing
doing w = record { caller = w.caller; course = w.course; stage = w.stage; phase = w.phase; event = w.event }

abbrev pub doing_of : ℕ → Core → Option Doing
doing_of i s = option_map doing (get s.works i)

-- ---- Entries

-- how many pushes and how many host entries of the work are in the list
abbrev pub Standing : ℕ → List Entry → ℕ × ℕ
Standing i es = (stands (is_push_of i) es, stands (is_host_of i) es)

abbrev pub High : Core → ℕ → ℕ × ℕ
High s i = Standing i s.queues.high

-- the entries that it is to have
abbrev pub entries_for : Option Doing → ℕ × ℕ
entries_for None = (0, 0)
entries_for (Some v) = (one_if (is_queued v.stage), one_if (is_finishing v.stage))

abbrev pub is_work_entry : Entry → Bool
is_work_entry (Entry.Thread n) = false
is_work_entry _ = true

stands_append : (test : Entry → Bool) (es : List Entry) (e : Entry) → stands test (es ++ e ∷ []) ≡ stands test es + one_if (test e)
stands_append test [] e = omega arith
stands_append test (d ∷ es) e = let h = stands_append test es e in omega (arith, h)

-- the entries of works alone count
standing_works : (i : ℕ) (es : List Entry) → Standing i (work_entries es) ≡ Standing i es
standing_works i [] = refl
standing_works i (e ∷ es) = grind (arith, standing_works i es)

pub same_standing : (i : ℕ) (es fs : List Entry) → work_entries fs ≡ work_entries es → Standing i fs ≡ Standing i es
same_standing i es fs h = sym (standing_works i fs) ∙ (ap (Standing i) h ∙ standing_works i es)

taken_first : (m : Mark) (o : Option ℕ) (hs ls : List Entry) (e : Entry) → or_high o hs ls ≡ Some (m, e) → is_work_entry e ≡ true →
    ((i : ℕ) → Standing i ls ≡ (0, 0)) → (hs ≡ e ∷ rest_of hs) × (m ≡ Mark.High)
taken_first m o hs ls (Entry.Thread n) is h none = absurd (cc)
taken_first m o hs ls (Entry.Push i) is h none = grind (arith, nat_tests, none i)
taken_first m o hs ls (Entry.Host i) is h none = grind (arith, nat_tests, none i)

-- the entry of a work that is taken is the first at high
taken : (m : Mark) (e : Entry) (s : Core) → next_entry s ≡ Some (m, e) → is_work_entry e ≡ true →
    ((i : ℕ) → Standing i s.queues.low ≡ (0, 0)) →
    (s.queues.high ≡ e ∷ (popped m s).queues.high) × ((popped m s).queues.low ≡ s.queues.low)
unfolding next_entry popped set_high
taken m e s is h none = let f = taken_first m s.queues.switch s.queues.high s.queues.low e is h none in grind arith

-- ---- What a primitive does

-- Works have their entries, and none is at low; one that is gone has none where S holds, or where no such work was made.
pub record WorksStand (S : Type 0) (s : Core) : Type 0 where
  pub low : (i : ℕ) → Standing i s.queues.low ≡ (0, 0)
  pub number : (i : ℕ) → is_some (doing_of i s) ≡ true → i ≤ s.made.works
  pub high : (i : ℕ) → (is_some (doing_of i s) ≡ true) ⊎ (S ⊎ (s.made.works + 1 ≤ i)) → High s i ≡ entries_for (doing_of i s)

-- What the primitive does to the work i, from o to p, where b works are made after it; its entries were h times, and are g times.
pub data WorkCame (S M : Type 0) (a : Scene) (s : Core) (b i : ℕ) (h g : ℕ × ℕ) (o p : Option Doing) : Type 0 where
  Same : p ≡ o → g ≡ h → WorkCame S M a s b i h g o p
  Gone : p ≡ None → (S ⊎ (b + 1 ≤ i) → g ≡ (0, 0)) → WorkCame S M a s b i h g o p
  Made : (f : WorkCaller) (host : HostDef) → i ≡ next_work s → i ≤ b → p ≡ Some (doing (new_work f host None)) → g ≡ (1, 0) →
      WorkCame S M a s b i h g o p
  Pends : (v : Doing) (host : HostDef) → o ≡ Some v → is_stage_live v.stage ≡ true → p ≡ Some (record v { course = Course.Continues host }) →
      g ≡ h → WorkCame S M a s b i h g o p
  Ends : (v : Doing) (c : Course) (x : Stage) → o ≡ Some v → is_stage_live v.stage ≡ true →
      a.label ≡ Label.Loop (LoopLabel.FutureEnds i) → has_end c ≡ true →
      (course_value c ≡ None → (is_aborted v.phase ≡ true) ⊎ (has_end v.course ≡ true)) →
      p ≡ Some (record v { course = c; phase = Phase.Complete; stage = x }) → is_late x ≡ true →
      (is_finishing x ≡ true → is_async_work v.caller ≡ true) → g ≡ (h.0, h.1 + one_if (is_finishing x)) → WorkCame S M a s b i h g o p
  Lives : (v : Doing) → o ≡ Some v → is_queued v.stage ≡ true → p ≡ Some (record v { stage = Stage.Live }) → g ≡ (0, 0) →
      WorkCame S M a s b i h g o p
  Done : (v : Doing) → o ≡ Some v → is_finishing v.stage ≡ true →
      p ≡ Some (record v { stage = Stage.Ended; event = Some (host_status (course_value v.course)) }) → g ≡ (0, 0) →
      WorkCame S M a s b i h g o p
  Aborts : (v : Doing) (x : Phase) → o ≡ Some v → M → p ≡ Some (record v { phase = x }) → g ≡ h → WorkCame S M a s b i h g o p
  Takes : (v : Doing) → o ≡ Some v → p ≡ Some (record v { event = None }) → g ≡ h → WorkCame S M a s b i h g o p

module _ {S : Type 0} (a : Scene) (s : Core) (q : WorksStand S s)
    (ends : (i : ℕ) → S → MayRemoveWork a i s → is_stage_ended (stage_of i s) ≡ true) where
  -- what the work i results in, with the entries g, where b works are made
  abbrev pub CameTo : ℕ → ℕ → ℕ × ℕ → Option Work → Option Work → Type 0
  CameTo b i g o p = WorkCame S (MayAbort a i) a s b i (High s i) g (option_map doing o) (option_map doing p)

  abbrev pub WorkAfter : Primitive → ℕ → Type 0
  WorkAfter w i = CameTo (after_primitive w s).made.works i (High (after_primitive w s) i) (get s.works i) (get (after_primitive w s).works i)

  -- the work j is changed, and entries of no other
  changed : (j : ℕ) (f : Work → Work) (g : ℕ → ℕ × ℕ) → ((i : ℕ) → (i ≡ j → ⊥) → g i ≡ High s i) →
      (get s.works j ≡ None → S ⊎ (s.made.works + 1 ≤ j) → g j ≡ (0, 0)) →
      ((w : Work) → get s.works j ≡ Some w → CameTo s.made.works j (g j) (Some w) (Some (f w))) →
      (i : ℕ) → CameTo s.made.works i (g i) (get s.works i) (get (change j f s.works) i)
  changed j f g others none own i =
      at_change (CameTo s.made.works i (g i)) s.works j i f (λ e. rw e (at (get s.works j) refl)) (λ e. Same refl (others i e))
    where
      at : (o : Option Work) → get s.works j ≡ o → CameTo s.made.works j (g j) o (option_map f o)
      at None is = Gone refl (none is)
      at (Some w) is = own w is

  -- no entry changes
  turned : (j : ℕ) (f : Work → Work) → ((w : Work) → get s.works j ≡ Some w → CameTo s.made.works j (High s j) (Some w) (Some (f w))) →
      (i : ℕ) → CameTo s.made.works i (High s i) (get s.works i) (get (change j f s.works) i)
  turned j f own i = changed j f (High s) (λ i e. refl)
      (λ none why. q.high j (inr why) ∙ ap (λ o. entries_for (option_map doing o)) none) own i

  -- it ends, at this stage
  finishes : (j : ℕ) (c : Course) (x : Stage) (g : ℕ → ℕ × ℕ) → MayFinish a j c s → is_late x ≡ true →
      (is_finishing x ≡ true → is_async_work (work_caller_of j s) ≡ true) → ((i : ℕ) → (i ≡ j → ⊥) → g i ≡ High s i) →
      g j ≡ ((High s j).0, (High s j).1 + one_if (is_finishing x)) → (i : ℕ) →
      CameTo s.made.works i (g i) (get s.works i) (get (change j (λ w. record w { stage = x })
      (change j (λ w. record w { phase = Phase.Complete }) (change j (λ w. record w { course = c }) s.works))) i)
  finishes j c x g may late async others own i =
      let live = polled_is_live may.0.0 s j may.0.1.1 in
      rw (change-change_same s.works j (λ w. record w { phase = Phase.Complete }) (λ w. record w { course = c }))
      (rw (change-change_same s.works j (λ w. record w { stage = x }) (λ w. record w { course = c; phase = Phase.Complete }))
      (changed j _ g others (λ none why. absurd (grind arith))
      (λ w at. Ends (doing w) c x refl (grind arith) may.1.0 may.1.1.0 (λ none. let r = may.1.1.1 none in grind arith) refl late
      (λ e. let r = async e in grind arith) own) i))

  pub work_came : (w : Primitive) → Allowed a w s → (i : ℕ) → WorkAfter w i
  unfolding arrive set_cancel_asked add_call add_group add_set add_thread add_work count_work free_handle free_thread_handle give_handle give_result give_thread_handle on_call on_instance on_thread on_work push_high remove_call remove_group remove_set remove_thread remove_work set_backpressure set_cancel_delivered set_cancelled set_course set_do_not_enter set_do_not_suspend set_end set_event set_exited set_op_progress set_join set_task_event set_phase set_position set_register set_result set_saved_callee set_saved_own set_script set_stage set_started set_starting_published set_subtask_handle set_thread_handle set_trapped set_uninteresting set_memory_cell take_result call_made with_handle with_thread_handle work_queued poll_pends
  work_came (Places p) ok i = Same refl (same_standing i s.queues.high (after_placing p s).queues.high (placing_works a p s ok).high)
  work_came (Withdraw j) ok i = Same refl (same_standing i s.queues.high (unqueued j s).queues.high (unqueued_works j s).high)
  work_came (QueueWork f host group) ok i =
      let j = s.made.works + 1 in let n = q.number i in let h = q.high i in
      at_insert (CameTo j i (Standing i (s.queues.high ++ Entry.Push j ∷ []))) s.works j i _
      (λ is. Made f host is (omega (arith, is)) refl (let z = h (inr (inr (omega (arith, is)))) in grind (arith, nat_tests, stands_append)))
      (λ e. Same refl (grind (arith, nat_tests, stands_append)))
  work_came (TakePush m j) ok i =
      let t = taken m (Entry.Push j) s ok.0 refl q.low in let h = ap (Standing j) t.0 in
      changed j _ (High (popped m s)) (λ i e. let h = ap (Standing i) t.0 in grind (arith, nat_tests))
      (λ none why. let z = q.high j (inr why) in grind (arith, nat_tests))
      (λ w at. let z = q.high j (inl (grind arith)) in Lives (doing w) refl (grind (arith, nat_tests)) refl (grind (arith, nat_tests))) i
  work_came (TakeHost m j) ok i =
      let t = taken m (Entry.Host j) s ok.0 refl q.low in let h = ap (Standing j) t.0 in
      rw (change-change_same s.works j (λ w. record w { event = Some (host_status (course_value (course_of j s))) })
      (λ w. record w { stage = Stage.Ended }))
      (changed j _ (High (popped m s)) (λ i e. let h = ap (Standing i) t.0 in grind (arith, nat_tests))
      (λ none why. let z = q.high j (inr why) in grind (arith, nat_tests))
      (λ w at. let z = q.high j (inl (grind arith)) in
      Done (doing w) refl (grind (arith, nat_tests)) (rw at refl) (grind (arith, nat_tests))) i)
  work_came (Pend j host) ok i = let live = polled_is_live ok.0.0 s j ok.0.1.1 in
      turned j _ (λ w at. Pends (doing w) host refl (grind arith) refl refl) i
  work_came (EndWork j c) ok i = finishes j c Stage.Ended (High s) ok.0 refl (λ e. no_way e) (λ i e. refl) (grind arith) i
  work_came (FinishWork j c) ok i =
      finishes j c Stage.Finishing (λ i. Standing i (s.queues.high ++ Entry.Host j ∷ [])) ok.0 refl (λ e. ok.1)
      (λ i e. grind (arith, nat_tests, stands_append)) (grind (arith, nat_tests, stands_append)) i
  work_came (SetPhase j x) ok i = turned j _ (λ w at. Aborts (doing w) x refl ok.0 refl refl) i
  work_came (TakeWorkEvent j) ok i = turned j _ (λ w at. Takes (doing w) refl refl refl) i
  work_came (RemoveWork j) ok i = let z = q.high i in let n = q.number i in
      after_remove (CameTo s.made.works i (High s i)) s.works j i (λ o. Same refl refl)
      (λ e. Gone refl (⊎_elim (λ y. let o = ends i y (rw e ok) in grind arith) (λ above. grind arith)))
  work_came w ok i = Same (grind (arith, nat_tests, get-change)) refl

  low_after : (w : Primitive) → Allowed a w s → (i : ℕ) → Standing i (after_primitive w s).queues.low ≡ (0, 0)
  unfolding arrive set_cancel_asked add_call add_group add_set add_thread add_work count_work free_handle free_thread_handle give_handle give_result give_thread_handle on_call on_instance on_thread on_work push_high remove_call remove_group remove_set remove_thread remove_work set_backpressure set_cancel_delivered set_cancelled set_course set_do_not_enter set_do_not_suspend set_end set_event set_exited set_op_progress set_join set_task_event set_phase set_position set_register set_result set_saved_callee set_saved_own set_script set_stage set_started set_starting_published set_subtask_handle set_thread_handle set_trapped set_uninteresting set_memory_cell take_result call_made with_handle with_thread_handle work_queued poll_pends
  low_after (Places p) ok i = same_standing i _ _ (placing_works a p s ok).low ∙ q.low i
  low_after (Withdraw j) ok i = same_standing i _ _ (unqueued_works j s).low ∙ q.low i
  low_after (TakePush m j) ok i = ap (Standing i) (taken m (Entry.Push j) s ok.0 refl q.low).1 ∙ q.low i
  low_after (TakeHost m j) ok i = ap (Standing i) (taken m (Entry.Host j) s ok.0 refl q.low).1 ∙ q.low i
  low_after w ok i = q.low i

  pub stand_primitive : (w : Primitive) → Allowed a w s → WorksStand S (after_primitive w s)
  stand_primitive w ok = record {
    low = low_after w ok;
    number = λ i there. let m = made_works_primitive a w s in number (work_came w ok i) (q.number i) m there;
    high = λ i why. let m = made_works_primitive a w s in high (work_came w ok i) (q.number i) (q.high i) m why;
  }
    where
      number : {M : Type 0} {b i : ℕ} {h g : ℕ × ℕ} {o p : Option Doing} → WorkCame S M a s b i h g o p →
          (is_some o ≡ true → i ≤ s.made.works) → s.made.works ≤ b → is_some p ≡ true → i ≤ b
      number came old more there = grind arith

      high : {M : Type 0} {b i : ℕ} {h g : ℕ × ℕ} {o p : Option Doing} → WorkCame S M a s b i h g o p →
          (is_some o ≡ true → i ≤ s.made.works) → ((is_some o ≡ true) ⊎ (S ⊎ (s.made.works + 1 ≤ i)) → h ≡ entries_for o) →
          s.made.works ≤ b → (is_some p ≡ true) ⊎ (S ⊎ (b + 1 ≤ i)) → g ≡ entries_for p
      high came least old more why = grind arith
