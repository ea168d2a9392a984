-- What calls tell of their ends along the primitives of a step, and the results that are there for main.
use Rattle.machine_data.specs.declared.scenario.Version.{Version}
use Rattle.laws_states.proofs.Primitives.{add_call, add_group, add_set, add_thread, add_work, after_change, after_insert, after_remove, after_primitive, Allowed, along, ap, arith, Bool, by_number, Call, call_made, CallEnd, Caller, calls_begin, CallsGo, CallsHold, change, codes_at, codes_in, CodesAt, Core, count_work, end_of, EndCall, ended_as, EndsToldAsRecorded, event_of, false, free_handle, free_thread_handle, fresh, get, get-change, get-empty, get-insert, get-remove, give_handle, give_result, give_thread_handle, GiveResult, Goal, goal_of, has_ended, if◌then◌else◌, inl, inr, is_direct, is_for_main, is_guest_call, is_some, Label, le_trans, made_threads_primitive, MakeCall, MayEnd, MayRemoveCall, MayTell, nat_tests, next_thread, None, not, of_base, on_call, on_instance, on_thread, on_work, Op, opening_holds, Option, option_map, poll_pends, push_high, Reached, reached_keeps, refl, remove_call, remove_group, remove_set, remove_thread, remove_work, RemoveCall, SaysEnd, Scene, scene_as, set_backpressure, set_cancel_delivered, set_cancelled, set_course, set_do_not_enter, set_do_not_suspend, set_end, set_event, set_exited, set_op_progress, set_join, set_task_event, set_phase, set_position, set_register, set_result, set_saved_callee, set_saved_own, set_script, set_stage, set_started, set_starting_published, set_subtask_handle, set_thread_handle, set_trapped, set_uninteresting, set_memory_cell, SetCallEvent, Setting, Some, some_none, State, Status, status_of_end, step_goes, step_walks, Subtask, sym, take_result, TakeResult, true, undelivered_end, WalkedAs, with_handle, with_thread_handle, Primitive, primitive_goes, work_queued, ℕ, ⊎_elim, ◌&&◌, ◌∙◌, ◌≡◌, ◌≤◌, ◌⊎◌}
unfoldable use Rattle.machine_data.specs.Write.{arrive, set_cancel_asked}

-- ---- What a call tells

-- what a call has to tell of its end, and to whom
pub record Telling : Type 0 where
  pub event : Option Status
  pub ends : Option CallEnd
  pub caller : Caller
  pub goal : Goal

abbrev pub telling : Call → Telling
telling c = record { event = c.event; ends = c.«end»; caller = c.caller; goal = c.goal }

abbrev pub telling_of : ℕ → Core → Option Telling
telling_of k s = option_map telling (get s.calls k)

abbrev pub is_for_guest : Telling → Bool
is_for_guest r = is_guest_call r.caller && not (is_direct r.goal)

pub event_is : (k : ℕ) (s : Core) (r : Telling) → telling_of k s ≡ Some r → event_of (Subtask.Guest k) s ≡ r.event
event_is k s r is = grind arith

pub end_is : (k : ℕ) (s : Core) (r : Telling) → telling_of k s ≡ Some r → end_of k s ≡ r.ends
end_is k s r is = grind arith

pub goal_is : (k : ℕ) (s : Core) (r : Telling) → telling_of k s ≡ Some r → goal_of k s ≡ r.goal
goal_is k s r is = grind arith

abbrev pub is_withdrawn : CallEnd → Bool
is_withdrawn CallEnd.StartCancelled = true
is_withdrawn _ = false

-- what it has to tell once the call comes to the end
abbrev pub ending : CallEnd → Telling → Telling
ending x r = record r { ends = Some x; event = if is_for_guest r && not (is_withdrawn x) then Some (status_of_end x) else r.event }

ending_is : (x : CallEnd) (c : Call) → telling (ended_as x c) ≡ ending x (telling c)
ending_is x c = grind arith

-- What the primitive does to what the call k tells.
pub data TellingCame (a : Scene) (s : Core) (k : ℕ) (o p : Option Telling) : Type 0 where
  Same : p ≡ o → TellingCame a s k o p
  Gone : p ≡ None → MayRemoveCall a k s → TellingCame a s k o p
  Made : (f : Caller) (g : Goal) → k ≡ next_thread s → is_for_main g ≡ not (is_guest_call f) →
      p ≡ Some (record { event = None; ends = None; caller = f; goal = g }) → TellingCame a s k o p
  TellsNow : (r : Telling) (e : Option Status) → o ≡ Some r → MayTell a k e s → p ≡ Some (record r { event = e }) → TellingCame a s k o p
  EndsNow : (r : Telling) (x : CallEnd) → o ≡ Some r → MayEnd a k x s × SaysEnd a k (status_of_end x) → p ≡ Some (ending x r) →
      TellingCame a s k o p

module _ (a : Scene) where
  abbrev pub CallTells : Core → ℕ → Option Call → Option Call → Type 0
  CallTells s k o p = TellingCame a s k (option_map telling o) (option_map telling p)

  telling_changed : (j : ℕ) (f : Call → Call) (s : Core) (k : ℕ) → ((c : Call) → CallTells s j (Some c) (Some (f c))) →
      CallTells s k (get s.calls k) (get (change j f s.calls) k)
  telling_changed j f s k own = after_change (CallTells s k) s.calls j k (λ o. Same refl) f (λ c is e. rw e (own c))

  pub telling_came : (w : Primitive) (s : Core) → Allowed a w s → (k : ℕ) → TellingCame a s k (telling_of k s) (telling_of k (after_primitive w s))
  unfolding arrive set_cancel_asked add_call add_group add_set add_thread add_work count_work free_handle free_thread_handle give_handle give_result give_thread_handle on_call on_instance on_thread on_work push_high remove_call remove_group remove_set remove_thread remove_work set_backpressure set_cancel_delivered set_cancelled set_course set_do_not_enter set_do_not_suspend set_end set_event set_exited set_op_progress set_join set_task_event set_phase set_position set_register set_result set_saved_callee set_saved_own set_script set_stage set_started set_starting_published set_subtask_handle set_thread_handle set_trapped set_uninteresting set_memory_cell take_result call_made with_handle with_thread_handle work_queued poll_pends
  telling_came (MakeCall f e x g group words) s ok k =
      after_insert (CallTells s k) s.calls _ k (λ o. Same refl) _ (λ at. Made f g at ok.1.1.1.1.0 refl)
  telling_came (RemoveCall j) s ok k = after_remove (CallTells s k) s.calls j k (λ o. Same refl) (λ at. Gone refl (rw at ok))
  telling_came (SetCallEvent j e) s ok k = telling_changed j _ s k (λ c. TellsNow (telling c) e refl ok refl)
  telling_came (EndCall j x) s ok k = telling_changed j _ s k (λ c. EndsNow (telling c) x refl ok (ap (λ r. Some r) (ending_is x c)))
  telling_came w s ok k = Same (grind (arith, nat_tests, get-change))

-- ---- Results

result_came : (a : Scene) (w : Primitive) (s : Core) → Allowed a w s → (k : ℕ) → is_some (get (after_primitive w s).results k) ≡ true →
    (is_some (get s.results k) ≡ true) ⊎ (SaysEnd a k Status.Returned × (goal_of k s ≡ Goal.Main))
unfolding arrive set_cancel_asked add_call add_group add_set add_thread add_work count_work free_handle free_thread_handle give_handle give_result give_thread_handle on_call on_instance on_thread on_work push_high remove_call remove_group remove_set remove_thread remove_work set_backpressure set_cancel_delivered set_cancelled set_course set_do_not_enter set_do_not_suspend set_end set_event set_exited set_op_progress set_join set_task_event set_phase set_position set_register set_result set_saved_callee set_saved_own set_script set_stage set_started set_starting_published set_subtask_handle set_thread_handle set_trapped set_uninteresting set_memory_cell take_result call_made with_handle with_thread_handle work_queued poll_pends
result_came a (GiveResult j v) s ok k h =
    by_number j k _ (λ e. inr (rw (← e) ok)) (λ e. inl (grind (arith, nat_tests, get-insert, e)))
result_came a (TakeResult j) s ok k h = inl (grind (arith, nat_tests, get-remove))
result_came a w s ok k h = inl h

-- ---- What holds

-- the status is that of this end, and not of a withdrawn start
pub record IsOfEnd (e : Status) (o : Option CallEnd) : Type 0 where
  pub ends : CallEnd
  pub is : o ≡ Some ends
  pub status : status_of_end ends ≡ e
  pub ran : is_withdrawn ends ≡ false

-- What calls tell of their ends: main's calls alone have results for main; an end that is to be told is that of the record, for a guest;
-- and a result is one of main's call.
pub record EndsTold (s : Core) : Type 0 where
  pub goals : (k : ℕ) (r : Telling) → telling_of k s ≡ Some r → is_for_main r.goal ≡ not (is_guest_call r.caller)
  pub events : (k : ℕ) (e : Status) (r : Telling) → telling_of k s ≡ Some r → undelivered_end r.event ≡ Some e → (is_for_guest r ≡ true) ×
      IsOfEnd e r.ends
  pub results : (k : ℕ) → is_some (get s.results k) ≡ true → (k ≤ s.made.threads) ×
      ((r : Telling) → telling_of k s ≡ Some r → r.goal ≡ Goal.Main)

-- a result was there before the step, or is one of main's call that returns
abbrev pub ResultCame : Scene → ℕ → Type 0
ResultCame a k = (is_some (get a.base.results k) ≡ true) ⊎ (SaysEnd a k Status.Returned ×
    (k ≤ a.base.made.threads → goal_of k a.base ≡ Goal.Main))

-- On the way of a step: an end that is to be told, or a result, was there before the step, or is written in it.
pub record EndsGo (a : Scene) (s : Core) : Type 0 where
  pub told : EndsTold s
  pub events : (k : ℕ) (e : Status) (r : Telling) → telling_of k s ≡ Some r → undelivered_end r.event ≡ Some e →
      (undelivered_end (event_of (Subtask.Guest k) a.base) ≡ Some e) ⊎ SaysEnd a k e
  pub results : (k : ℕ) → is_some (get s.results k) ≡ true → ResultCame a k
  pub same : (k : ℕ) (r : Telling) → telling_of k s ≡ Some r → k ≤ a.base.made.threads → goal_of k a.base ≡ r.goal

-- a call that is there tells something
pub telling_there : (k : ℕ) (s : Core) → is_some (get s.calls k) ≡ true → (r : Telling) × (telling_of k s ≡ Some r)
telling_there k s there = at (get s.calls k) refl
  where
    at : (o : Option Call) → get s.calls k ≡ o → (r : Telling) × (telling_of k s ≡ Some r)
    at None is = absurd (cc)
    at (Some c) is = (telling c, ap (option_map telling) is)

-- so does one that has an end to tell
pub tells_there : (k : ℕ) (e : Status) (s : Core) → undelivered_end (event_of (Subtask.Guest k) s) ≡ Some e →
    (r : Telling) × ((telling_of k s ≡ Some r) × (undelivered_end r.event ≡ Some e))
tells_there k e s tells = let r = telling_there k s (grind arith) in let i = event_is k s r.0 r.1 in (r.0, (r.1, cc))

-- ---- Each primitive

-- no end is told by a primitive beside the one that ends the call
told_none : (a : Scene) (k : ℕ) (s : Core) (e : Status) (x : Option Status) → MayTell a k x s → undelivered_end x ≡ Some e → ⊥
told_none a k s e x m h = grind arith

-- a start that is withdrawn has no end before
withdrawn_open : (a : Scene) (k : ℕ) (s : Core) (x : CallEnd) → MayEnd a k x s → is_withdrawn x ≡ true → has_ended k s ≡ false
withdrawn_open a k s x m h = grind arith

module _ {a : Scene} {s : Core} {k : ℕ} {o p : Option Telling} (came : TellingCame a s k o p) (r : Telling) (at : p ≡ Some r) where
  goals_kept : ((u : Telling) → o ≡ Some u → is_for_main u.goal ≡ not (is_guest_call u.caller)) →
      is_for_main r.goal ≡ not (is_guest_call r.caller)
  goals_kept q = grind (arith, q)

  goal_kept : (g : Goal) → k ≤ s.made.threads → ((u : Telling) → o ≡ Some u → g ≡ u.goal) → g ≡ r.goal
  goal_kept g below q = grind (arith, q)

  event_came : (e : Status) → undelivered_end r.event ≡ Some e → ((u : Telling) → o ≡ Some u → end_of k s ≡ u.ends) →
      ((u : Telling) → o ≡ Some u → undelivered_end u.event ≡ Some e → (is_for_guest u ≡ true) × IsOfEnd e u.ends) →
      ((is_for_guest r ≡ true) × IsOfEnd e r.ends) × (((u : Telling) × ((o ≡ Some u) × (undelivered_end u.event ≡ Some e))) ⊎ SaysEnd a k e)
  event_came e tells read q = go came
    where
      ends : (u : Telling) (x : CallEnd) → o ≡ Some u → MayEnd a k x s × SaysEnd a k (status_of_end x) → (b : Bool) →
          (is_for_guest u && not (is_withdrawn x)) ≡ b → undelivered_end (if b then Some (status_of_end x) else u.event) ≡ Some e →
          ((is_for_guest u ≡ true) × IsOfEnd e (Some x)) × SaysEnd a k e
      ends u x was m true is h = let same : status_of_end x ≡ e = grind arith in
          ((grind arith, record { ends = x; is = refl; status = same; ran = grind arith }), rw (← same) m.1)
      ends u x was m false is h =
          let old = q u was h in let unended = withdrawn_open a k s x m.0 in let end = read u was in absurd (grind arith)

      go : TellingCame a s k o p → ((is_for_guest r ≡ true) × IsOfEnd e r.ends) ×
          (((u : Telling) × ((o ≡ Some u) × (undelivered_end u.event ≡ Some e))) ⊎ SaysEnd a k e)
      go (Same is) = let was : o ≡ Some r = cc in (q r was tells, inl (r, (was, tells)))
      go (Gone is may) = absurd (cc)
      go (Made f g number fits is) = absurd (grind arith)
      go (TellsNow u x was m is) = absurd (told_none a k s e x m (cc))
      go (EndsNow u x was m is) = let same : r ≡ ending x u = cc in
          let h = ends u x was m _ refl (sym (ap (λ y. undelivered_end y.event) same) ∙ tells) in (rw same h.0, inr h.1)

module _ (a : Scene) (w : Primitive) (s : Core) (ok : Allowed a w s) (q : EndsGo a s)
    (numbered : (k : ℕ) → is_some (get s.calls k) ≡ true → k ≤ s.made.threads) where
  results_after : (k : ℕ) → is_some (get (after_primitive w s).results k) ≡ true → (k ≤ s.made.threads) ×
      (((r : Telling) → telling_of k s ≡ Some r → r.goal ≡ Goal.Main) × ResultCame a k)
  results_after k there = by (result_came a w s ok k there)
    where
      by : (is_some (get s.results k) ≡ true) ⊎ (SaysEnd a k Status.Returned × (goal_of k s ≡ Goal.Main)) → (k ≤ s.made.threads) ×
          (((r : Telling) → telling_of k s ≡ Some r → r.goal ≡ Goal.Main) × ResultCame a k)
      by (inl before) = let h = q.told.results k before in (h.0, (h.1, q.results k before))
      by (inr (says, main)) = let r = telling_there k s (grind arith) in (
        numbered k (grind arith),
        (
          λ u is. sym (goal_is k s u is) ∙ main,
          inr (says, λ old. q.same k r.0 r.1 old ∙ (sym (goal_is k s r.0 r.1) ∙ main)),
        ),
      )

  came : (k : ℕ) → TellingCame a s k (telling_of k s) (telling_of k (after_primitive w s))
  came = telling_came a w s ok

  pub primitive_ends : a.base.made.threads ≤ s.made.threads → EndsGo a (after_primitive w s)
  primitive_ends counted = record {
    told = record {
      goals = λ k r at. goals_kept (came k) r at (q.told.goals k);
      events = λ k e r at tells. (event_came (came k) r at e tells (end_is k s) (q.told.events k e)).0;
      results = λ k there. let h = results_after k there in
          (le_trans h.0 (made_threads_primitive a w s), λ r at. sym (goal_kept (came k) r at Goal.Main h.0 (λ u is. sym (h.1.0 u is))));
    };
    events = λ k e r at tells. ⊎_elim (λ u. q.events k e u.0 u.1.0 u.1.1) (λ now. inr now)
        (event_came (came k) r at e tells (end_is k s) (q.told.events k e)).1;
    results = λ k there. (results_after k there).1.1;
    same = λ k r at old. goal_kept (came k) r at (goal_of k a.base) (le_trans old counted) (λ u is. q.same k u is old);
  }

-- Each step keeps it.
pub ends_go : {ops : ℕ → Op} {x : Setting} {s : State} {l : Label} {t : State} → CodesAt ops x s → CallsHold x.component s.core →
    EndsTold s.core → (w : WalkedAs ops x s l t) → CallsGo (scene_as ops x s l w.next) t.core × EndsGo (scene_as ops x s l w.next) t.core
ends_go {ops = ops} {x = x} {s = s} {l = l} given p q w =
    let a : Scene = scene_as ops x s l w.next in let codes = codes_in l w.next given in let c = calls_begin x s l w.next p in
    let first : EndsGo a s.core = of_base (λ b. EndsGo (record a { base = b }) s.core) s.turn s.core (record {
      told = q;
      events = λ k e r at tells. let i = event_is k s.core r at in inl (cc);
      results = λ k there. inl there;
      same = λ k r at old. goal_is k s.core r at;
    }) in
    along (λ u. CallsGo a u × EndsGo a u) (λ v u ok h.
    (primitive_goes a codes c.0 v u ok h.0, primitive_ends a v u ok h.1 (λ k there. grind (arith, h.0.numbered.calls k)) h.0.counted))
    (c.1, first) w.walk

pub opening_ends_told : (rules : Version) (instances handle_limit capacity : ℕ) → EndsTold (fresh rules instances handle_limit capacity)
unfolding fresh
opening_ends_told rules instances handle_limit capacity = record {
  goals = λ k r at. some_none (sym at ∙ ap (option_map telling) (get-empty k));
  events = λ k e r at tells. some_none (sym at ∙ ap (option_map telling) (get-empty k));
  results = λ k there. absurd (grind (arith, get-empty));
}

-- ---- The law

pub reached_ends_told : {x : Setting} {s : State} → Reached x s → EndsTold s.core
reached_ends_told {x = x} r = (reached_keeps r (λ s. CallsHold x.component s.core × EndsTold s.core)
    (λ s l t step h. ((step_goes x s l t r.scripts h.0 step).0, (ends_go (codes_at x s r.scripts) h.0 h.1 (step_walks x s l t step)).1.told))
    (opening_holds x.component r.version r.instances r.handle_limit r.capacity, opening_ends_told r.version r.instances r.handle_limit r.capacity)).1

-- what an event tells is recorded
pub recorded : (s : Core) → EndsTold s → (k : ℕ) (e : Status) → undelivered_end (event_of (Subtask.Guest k) s) ≡ Some e → IsOfEnd e
    (end_of k s)
recorded s q k e tells = let r = tells_there k e s tells in rw (end_is k s r.0 r.1.0) (q.events k e r.0 r.1.0 r.1.1).1

pub told_as_recorded : EndsToldAsRecorded
unfolding EndsToldAsRecorded
told_as_recorded x s r k e tells = let q = recorded s.core (reached_ends_told r) k e tells in
    (q.ends, (q.is, (q.status, λ w. absurd (grind (arith, q.ran)))))
