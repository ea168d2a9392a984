-- What one primitive does to the record of a call, and to that of a thread.
use Rattle.laws_states.proofs.Rules.{add_call, add_group, add_set, add_thread, add_work, Advance, after_primitive, Allowed, ap, Call, call_made, Callee, CallEnd, Caller, CanCome, change, change-change_same, Core, count_work, EndCall, ExportKind, false, free_handle, free_thread_handle, get, get-insert_same, give_handle, give_result, give_thread_handle, Goal, op_progress_of, OpProgress, inl, inr, is_deletable, is_some, Join, le_refl, MakeCall, MakeThread, MayAdvance, MayCome, MayDeliver, MayEnd, MayJoin, MayMake, MayMakeCall, MayOwe, MayRestart, MayStart, NameCall, new_call, next_thread, None, on_call, on_instance, on_thread, on_work, Option, option_map, TaskEvent, Place, Places, Placing, placing_shifted, poll_pends, push_high, refl, remove_call, remove_group, remove_set, remove_thread, remove_work, RemoveCall, RemoveThread, Restart, Scene, Script, set_backpressure, set_cancel_delivered, set_cancelled, set_course, set_do_not_enter, set_do_not_suspend, set_end, set_event, set_exited, set_op_progress, set_join, set_task_event, set_phase, set_position, set_register, set_result, set_saved_callee, set_saved_own, set_script, set_stage, set_started, set_starting_published, set_subtask_handle, set_thread_handle, set_trapped, set_uninteresting, set_memory_cell, SetCallJoin, SetOpProgress, Some, subst, Subtask, sym, take_result, TakeHost, TakePush, Thread, true, unplaced, with_handle, with_thread_handle, Withdraw, Primitive, work_queued, ℕ, ◌≡◌, ◌≤◌, ◌⊎◌}
use Rattle.laws_states.proofs.{EachLemmas.after_change, EachLemmas.after_insert, EachLemmas.after_remove, SceneLemmas.popped_threads}
unfoldable use Rattle.machine_data.specs.Write.{arrive, set_cancel_asked}

at_most : {x y : ℕ} → x ≡ y → x ≤ y
at_most {x = x} e = subst (λ (z : ℕ). x ≤ z) e (le_refl x)

-- ---- Calls

-- How a call goes on from c to d: it starts, has a cancel delivered, ends, is joined, owed an event or named for such reasons, if it does.
pub record Grew (starts delivers : Type 0) (ends : CallEnd → Type 0) (joins : Join → Type 0) (owes : Option TaskEvent → Type 0) (names : Type 0)
    (c d : Call) : Type 0 where
  pub kind : d.kind ≡ c.kind
  pub callee : d.callee ≡ c.callee
  pub goal : d.goal ≡ c.goal
  pub started : (d.started ≡ c.started) ⊎ ((d.started ≡ true) × starts)
  pub delivered : (d.cancel_delivered ≡ c.cancel_delivered) ⊎ ((d.cancel_delivered ≡ true) × delivers)
  pub ended : (d.«end» ≡ c.«end») ⊎ ((e : CallEnd) × ((d.«end» ≡ Some e) × ends e))
  pub join : (d.join ≡ c.join) ⊎ joins d.join
  pub caller : d.caller ≡ c.caller
  pub owed : (d.task_event ≡ c.task_event) ⊎ owes d.task_event
  pub handle : (d.handle ≡ c.handle) ⊎ ((d.handle ≡ None) ⊎ names)

-- how the call k goes on by the primitive, which is done after s in the scene
abbrev pub Grows : Scene → Primitive → Core → ℕ → Call → Call → Type 0
Grows a w s k c d =
    Grew (MayStart a k s) (MayDeliver a k) (λ e. MayEnd a k e s) (λ j. MayJoin a (Subtask.Guest k) j s × (w ≡ SetCallJoin k j))
    (λ e. MayOwe a k e s) ((i : ℕ) × (w ≡ NameCall i k)) c d

-- What the primitive from s to t does to the record of the call k, from o to p.
pub data CallCame (a : Scene) (w : Primitive) (s t : Core) (k : ℕ) (o p : Option Call) : Type 0 where
  Grown : (c d : Call) → o ≡ Some c → p ≡ Some d → Grows a w s k c d → CallCame a w s t k o p
  NoCall : p ≡ None → (o ≡ None) ⊎ (is_deletable k s ≡ true) → CallCame a w s t k o p
  NewCall : (f : Caller) (e : Callee) (x : ExportKind) (g : Goal) (group : ℕ) → k ≡ next_thread s → k ≤ t.made.threads →
      MayMakeCall a f e x g group s → p ≡ Some (new_call f e x g group) → CallCame a w s t k o p

abbrev pub CallAfter : Scene → Primitive → Core → ℕ → Type 0
CallAfter a w s k = CallCame a w s (after_primitive w s) k (get s.calls k) (get (after_primitive w s).calls k)

ruleset either = (inl, inr)

module _ {a : Scene} where
  call_stays : {w : Primitive} {s t : Core} {k : ℕ} (o : Option Call) → CallCame a w s t k o o
  call_stays None = NoCall refl (inl refl)
  call_stays (Some c) = Grown c c refl refl (search inl)

  call_changed : (w : Primitive) (j : ℕ) (f : Call → Call) (s t : Core) (k : ℕ) → ((c : Call) → Grows a w s j c (f c)) →
      CallCame a w s t k (get s.calls k) (get (change j f s.calls) k)
  call_changed w j f s t k grows =
      after_change (CallCame a w s t k) s.calls j k call_stays f (λ c is e. Grown c (f c) refl refl (rw e (grows c)))

  pub call_came : (w : Primitive) (s : Core) → Allowed a w s → (k : ℕ) → CallAfter a w s k
  unfolding arrive set_cancel_asked add_call add_group add_set add_thread add_work count_work free_handle free_thread_handle give_handle give_result give_thread_handle on_call on_instance on_thread on_work push_high remove_call remove_group remove_set remove_thread remove_work set_backpressure set_cancel_delivered set_cancelled set_course set_do_not_enter set_do_not_suspend set_end set_event set_exited set_op_progress set_join set_task_event set_phase set_position set_register set_result set_saved_callee set_saved_own set_script set_stage set_started set_starting_published set_subtask_handle set_thread_handle set_trapped set_uninteresting set_memory_cell take_result call_made with_handle with_thread_handle work_queued poll_pends
  call_came (MakeCall f e x g group words) s ok k =
      after_insert (CallCame a _ s _ k) s.calls _ k call_stays _ (λ at. NewCall f e x g group at (at_most at) ok refl)
  call_came (RemoveCall j) s ok k = after_remove (CallCame a _ s _ k) s.calls j k call_stays (λ at. NoCall refl (inr (rw at ok.0)))
  call_came (EndCall j e) s ok k = let ends : (v : CallEnd) × ((Some e ≡ Some v) × MayEnd a j v s) = (e, (refl, ok.0)) in
      call_changed _ j _ s _ k (λ c. search (inl, inr))
  call_came (NameCall i j) s ok k = let names : (l : ℕ) × (NameCall i j ≡ NameCall l j) = (i, refl) in
      call_changed _ j _ s _ k (λ c. search (inl, inr))
  call_came w s ok k = first_of (search call_stays, search (call_changed, either))

-- ---- Threads

-- the op of the thread comes as far as it was, or further
abbrev pub Goes : Scene → Core → ℕ → OpProgress → OpProgress → Type 0
Goes a s n f g = (g ≡ f) ⊎ MayCome a n g s

-- its op is done, or it begins its react script
abbrev pub Ends : Scene → ℕ → Thread → Thread → Type 0
Ends a n r u = ((u.script ≡ r.script) × MayAdvance a n u.position) ⊎ (MayRestart a n × ((u.script ≡ Script.React) × (u.position ≡ 0)))

-- the thread is where it was in its script, and as far as it was in its op, or further; or it is about to begin another one
abbrev pub RunsOn : Scene → Core → ℕ → Thread → Thread → Type 0
RunsOn a s n r u = ((u.script ≡ r.script) × ((u.position ≡ r.position) × ((u.op_progress ≡ r.op_progress) ⊎ CanCome a n u.op_progress s)))
    ⊎ ((u.op_progress ≡ OpProgress.Fresh) × Ends a n r u)

-- What the primitive from s to t does to the record of the thread n, from o to p.
pub data ThreadCame (a : Scene) (w : Primitive) (s t : Core) (n : ℕ) (o p : Option Thread) : Type 0 where
  IsSame : (r u : Thread) → o ≡ Some r → p ≡ Some u → u.call ≡ r.call → u.explicit ≡ r.explicit → Goes a s n r.op_progress u.op_progress →
      (u.place ≡ r.place) ⊎ ((x : Placing) × (w ≡ Places x)) → RunsOn a s n r u → ThreadCame a w s t n o p
  IsGone : p ≡ None → ThreadCame a w s t n o p
  -- a thread more, beside the first one of its call, or with the call
  IsBeside : (u : Thread) → n ≡ next_thread s → n ≤ t.made.threads → t.calls ≡ s.calls → MayMake a u s → p ≡ Some u →
      ThreadCame a w s t n o p
  IsFirst : (u : Thread) → n ≡ next_thread s → n ≤ t.made.threads → is_some (get t.calls n) ≡ true → u.explicit ≡ false → u.call ≡ n →
      u.op_progress ≡ OpProgress.Fresh → u.place ≡ Place.New → p ≡ Some u → (u.script ≡ Script.Start) × (u.position ≡ 0) → ThreadCame a w s t n o p

abbrev pub ThreadAfter : Scene → Primitive → Core → ℕ → Type 0
ThreadAfter a w s n = ThreadCame a w s (after_primitive w s) n (get s.threads n) (get (after_primitive w s).threads n)

module _ {a : Scene} where
  thread_stays : {w : Primitive} {s t : Core} {n : ℕ} (o : Option Thread) → ThreadCame a w s t n o o
  thread_stays None = IsGone refl
  thread_stays (Some r) = IsSame r r refl refl refl refl (inl refl) (inl refl) (inl (refl, (refl, inl refl)))

  thread_kept : (w : Primitive) (j : ℕ) (f : Thread → Thread) (s t : Core) (n : ℕ) → ((r : Thread) → (f r).call ≡ r.call) →
      ((r : Thread) → (f r).explicit ≡ r.explicit) → ((r : Thread) → (f r).op_progress ≡ r.op_progress) → ((r : Thread) → (f r).place ≡ r.place) →
      ((r : Thread) → (f r).script ≡ r.script) → ((r : Thread) → (f r).position ≡ r.position) →
      ThreadCame a w s t n (get s.threads n) (get (change j f s.threads) n)
  thread_kept w j f s t n call explicit far place script position = after_change (ThreadCame a w s t n) s.threads j n thread_stays f
      (λ r is e. IsSame r _ refl refl (call r) (explicit r) (inl (far r)) (inl (place r)) (inl (script r, (position r, inl (far r)))))

  thread_moved : (w : Primitive) (x : Placing) (s t : Core) (n : ℕ) (o p : Option Thread) → w ≡ Places x →
      option_map unplaced p ≡ option_map unplaced o → ThreadCame a w s t n o p
  thread_moved w x s t n o None is e = IsGone refl
  thread_moved w x s t n None (Some u) is e = absurd (cc)
  thread_moved w x s t n (Some r) (Some u) is e = let h : unplaced u ≡ unplaced r = cc in
      IsSame r u refl refl (ap (λ x. x.call) h) (ap (λ x. x.explicit) h) (inl (ap (λ x. x.op_progress) h)) (inr (x, is)) (inl (ap (λ x. x.script) h, (ap (λ x. x.position) h, inl (ap (λ x. x.op_progress) h))))

  pub thread_came : (w : Primitive) (s : Core) → Allowed a w s → (n : ℕ) → ThreadAfter a w s n
  unfolding arrive set_cancel_asked add_call add_group add_set add_thread add_work count_work free_handle free_thread_handle give_handle give_result give_thread_handle on_call on_instance on_thread on_work push_high remove_call remove_group remove_set remove_thread remove_work set_backpressure set_cancel_delivered set_cancelled set_course set_do_not_enter set_do_not_suspend set_end set_event set_exited set_op_progress set_join set_task_event set_phase set_position set_register set_result set_saved_callee set_saved_own set_script set_stage set_started set_starting_published set_subtask_handle set_thread_handle set_trapped set_uninteresting set_memory_cell take_result call_made with_handle with_thread_handle work_queued poll_pends
  thread_came (Places x) s ok n = thread_moved (Places x) x s _ n _ _ refl ((placing_shifted x s).threads n)
  thread_came (TakePush m i) s ok n = rw (popped_threads m s) (thread_stays (get s.threads n))
  thread_came (TakeHost m i) s ok n = rw (popped_threads m s) (thread_stays (get s.threads n))
  thread_came (Advance j p) s ok n = rw change-change_same (after_change (ThreadCame a _ s _ n) s.threads j n thread_stays _
      (λ r is e. IsSame r _ refl refl refl refl (inr (rw e ok.0)) (inl refl) (inr (refl, inl (refl, rw e ok)))))
  thread_came (Restart j) s ok n = rw (change-change_same, change-change_same) (after_change (ThreadCame a _ s _ n) s.threads j n thread_stays _
      (λ r is e. IsSame r _ refl refl refl refl (inr (rw e ok.0)) (inl refl) (inr (refl, inr (rw e ok, (refl, refl))))))
  thread_came (SetOpProgress j h) s ok n = after_change (ThreadCame a _ s _ n) s.threads j n thread_stays _
      (λ r is e. IsSame r _ refl refl refl refl (inr (rw e ok.0)) (inl refl) (inl (refl, (refl, inr (rw e ok.1)))))
  thread_came (MakeThread u) s ok n = after_insert (ThreadCame a _ s _ n) s.threads _ n thread_stays u
      (λ at. IsBeside u at (at_most at) refl ok refl)
  thread_came (MakeCall f e x g group words) s ok n =
      after_insert (ThreadCame a _ s _ n) s.threads _ n thread_stays _
      (λ at. IsFirst _ at (at_most at) (rw at (rw get-insert_same refl)) refl (sym at) refl refl refl (refl, refl))
  thread_came (RemoveThread j) s ok n = after_remove (ThreadCame a _ s _ n) s.threads j n thread_stays (λ at. IsGone refl)
  thread_came (Withdraw j) s ok n = after_remove (ThreadCame a _ s _ n) s.threads j n thread_stays (λ at. IsGone refl)
  thread_came w s ok n = first_of (search thread_stays, search thread_kept)

-- what is read of how far the thread's op has come, but nothing of an op that begins, was so before, or comes so now
pub op_came : {X : Type 0} (read : OpProgress → Option X) (x : X) {a : Scene} (w : Primitive) (s : Core) → Allowed a w s → (n : ℕ) →
    read OpProgress.Fresh ≡ None → read (op_progress_of n (after_primitive w s)) ≡ Some x →
    (read (op_progress_of n s) ≡ Some x) ⊎ ((g : OpProgress) × (MayCome a n g s × (read g ≡ Some x)))
op_came {X = X} read x {a = a} w s ok n none h = go (thread_came w s ok n)
  where
    go : ThreadAfter a w s n → (read (op_progress_of n s) ≡ Some x) ⊎ ((g : OpProgress) × (MayCome a n g s × (read g ≡ Some x)))
    go (IsSame r u e f c y (inl same) m z) = inl (cc)
    go (IsSame r u e f c y (inr come) m z) = inr (u.op_progress, (come, cc))
    go (IsGone e) = absurd (cc)
    go (IsBeside u is l same m e) = absurd (cc)
    go (IsFirst u is l there y z new m e x) = absurd (cc)
