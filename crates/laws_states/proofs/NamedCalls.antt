-- Which calls handles and ops name: along the primitives of a step each handle of a call is the one in its record, and an op is
-- inside a call that its thread made and no handle names.
use Rattle.machine_data.specs.declared.scenario.Version.{Version}
use Rattle.laws_states.proofs.Primitives.{add_call, add_group, add_set, add_thread, add_work, after_primitive, Allowed, ap, arith, as_subtask, at_most_returned, Call, call_came, call_made, CallAfter, CallEnd, Caller, cancel_was_delivered, change, Core, count_work, false, free_handle, free_thread_handle, fresh, get, get-change, get-empty, get-insert, get-remove, give_handle, give_result, give_thread_handle, given_names, giving, Grown, handle_of_table, op_progress_of, OpProgress, inl, inr, instance_of, is_cancelled, is_deletable, is_some, is_uncancelled, IsCalled, IsNamed, le_trans, made_threads_primitive, MakeCall, MayCome, MayDeliver, MayEnd, MayNameCall, MayOwe, NameCall, Named, NamesKnown, nat_tests, new_handle, NewCall, next_thread, NoCall, None, none_named, not, on_call, on_instance, on_thread, on_work, OnlyCalled, op_came, Option, option_and_then, option_map_or, task_event_of, TaskEvent, poll_pends, push_high, refl, remove_call, remove_group, remove_set, remove_thread, remove_work, RemoveCall, Scene, set_backpressure, set_cancel_delivered, set_cancelled, set_course, set_do_not_enter, set_do_not_suspend, set_end, set_event, set_exited, set_op_progress, set_join, set_task_event, set_phase, set_position, set_register, set_result, set_saved_callee, set_saved_own, set_script, set_stage, set_started, set_starting_published, set_subtask_handle, set_thread_handle, set_trapped, set_uninteresting, set_memory_cell, Some, some_none, subst, Subtask, subtask_at, subtask_handle, subtask_in, sym, take_result, taking, Thread, too_high, true, Turn, UnnameCall, with_handle, with_thread_handle, Primitive, work_queued, ℕ, ⊎_elim, ◌∙◌, ◌≡◌, ◌≤◌, ◌⊎◌}
unfoldable use Rattle.machine_data.specs.Write.{arrive, set_cancel_asked}

-- the call that the running thread's op is inside of before the step is there
abbrev pub InsideThere : Scene → Type 0
InsideThere a = (n k : ℕ) → a.turn ≡ Turn.Run n → op_progress_of n a.base ≡ OpProgress.Calls (Subtask.Guest k) → is_some (get a.base.calls k) ≡ true

abbrev pub called_call : OpProgress → Option ℕ
called_call (OpProgress.Calls (Subtask.Guest k)) = Some k
called_call f = None

pub calls_call : (f : OpProgress) (k : ℕ) → called_call f ≡ Some k → f ≡ OpProgress.Calls (Subtask.Guest k)
calls_call f k h = grind arith

-- what is known of names, and that the numbers of calls were given
pub record NamesHold (s : Core) : Type 0 where
  pub known : NamesKnown s
  pub number : (k : ℕ) (c : Call) → get s.calls k ≡ Some c → k ≤ s.made.threads
  pub least : (n k : ℕ) → op_progress_of n s ≡ OpProgress.Calls (Subtask.Guest k) → k ≤ s.made.threads

-- ---- What an op is inside of

-- the op was inside of the call before the step, or has just made it
abbrev pub WasInside : Scene → ℕ → ℕ → Type 0
WasInside a n k = (op_progress_of n a.base ≡ OpProgress.Calls (Subtask.Guest k)) ⊎ (k ≡ next_thread a.base)

abbrev pub WereInside : Scene → Core → Type 0
WereInside a s = (n k : ℕ) → op_progress_of n s ≡ OpProgress.Calls (Subtask.Guest k) → WasInside a n k

module _ (a : Scene) (w : Primitive) (s : Core) (ok : Allowed a w s) (q : NamesHold s) (were : WereInside a s) where
  -- right before the primitive
  pub inside : (n k : ℕ) → op_progress_of n (after_primitive w s) ≡ OpProgress.Calls (Subtask.Guest k) → WasInside a n k × ((k ≤ s.made.threads) × OnlyCalled n k s)
  inside n k far = go (op_came called_call k w s ok n refl (ap called_call far))
    where
      come : MayCome a n (OpProgress.Calls (Subtask.Guest k)) s → WasInside a n k × ((k ≤ s.made.threads) × OnlyCalled n k s)
      come (is, inl (was, far)) = (inl was, (q.least n k far, q.known.called n k far))
      come (is, inr (new, called)) = (inr new.0, (grind (arith, new.1.0), λ c at. (grind (arith, called.0.0), (grind (arith, called.0.1), let e = called.1.0 in let o = called.1.1.0 in let d = called.1.1.1 in grind arith))))

      go : (called_call (op_progress_of n s) ≡ Some k) ⊎ ((g : OpProgress) × (MayCome a n g s × (called_call g ≡ Some k))) → WasInside a n k × ((k ≤ s.made.threads) × OnlyCalled n k s)
      go (inl was) = let far = calls_call (op_progress_of n s) k was in (were n k far, (q.least n k far, q.known.called n k far))
      go (inr (g, (may, is))) = come (subst (λ f. MayCome a n f s) (calls_call g k is) may)

-- no handle named it before the step, and no cancel had come to it
module _ (a : Scene) (base : NamesHold a.base) (n k : ℕ) (was : WasInside a n k) where
  base_call : (o : Option Call) → get a.base.calls k ≡ o → is_some o ≡ true → (c : Call) × ((o ≡ Some c) × ((c.handle ≡ None) × (is_uncancelled c ≡ true)))
  base_call None at there = absurd (grind arith)
  base_call (Some c) at there = ⊎_elim (λ far. let r = base.known.called n k far c at in (c, (refl, (r.1.0, r.1.1)))) (λ new. let low = base.number k c at in absurd (omega (arith, low, new))) was

  pub unnamed_inside : IsNamed a (Subtask.Guest k) → ⊥
  unnamed_inside (m, (h, (runner, named))) = let e = base.known.there (instance_of m a.base) h k named in let c = base_call (get a.base.calls k) refl (grind arith) in let at = c.1.0 in let free = c.1.1.0 in grind arith

  unasked_inside : task_event_of k a.base ≡ Some TaskEvent.Cancelled → ⊥
  unasked_inside e = let c = base_call (get a.base.calls k) refl (grind arith) in let at = c.1.0 in let un = c.1.1.1 in grind arith

-- what is so of a call that an op is inside of stays so by a primitive that gives it no handle
module _ (a : Scene) (base : NamesHold a.base) (n k : ℕ) (was : WasInside a n k) where
  not_owed : (o : Option TaskEvent) (s : Core) → MayOwe a k o s → is_cancelled o ≡ false
  not_owed o s may = let named = unnamed_inside a base n k was in let asked = unasked_inside a base n k was in grind arith

  not_ended : (s : Core) (e : CallEnd) → cancel_was_delivered k s ≡ false → MayEnd a k e s → at_most_returned (Some e) ≡ true
  not_ended s e none may = let named = unnamed_inside a base n k was in grind arith

  not_given : MayDeliver a k → ⊥
  not_given may = unasked_inside a base n k was may.1.1.1.1

  only_stays : (w : Primitive) (s : Core) → k ≤ s.made.threads → ((i : ℕ) → w ≡ NameCall i k → ⊥) → OnlyCalled n k s → CallAfter a w s k → OnlyCalled n k (after_primitive w s)
  only_stays w s below not q (Grown c d e f g) x at =
      let same : x ≡ d = cc in let r = q c e in
      let o = not_owed d.task_event s in let v = not_ended s in let h = not in
      rw same (g.caller ∙ r.0, (grind arith, grind (arith, not_given)))
  only_stays w s below not q (NoCall e r) x at = some_none (sym at ∙ e)
  only_stays w s below not q (NewCall f e x g group is l m new) y at = absurd (too_high is below)

-- ---- Each primitive

-- the call that gets a handle is there, the thread's, and has none
named_called : (a : Scene) (i k : ℕ) (s : Core) → NamesHold a.base → InsideThere a → (m : MayNameCall a i k s) → IsCalled m.0 k s
named_called a i k s base there (n, (runs, (at, (far, (done, (whose, handle)))))) = go (get a.base.calls k) refl (there n k runs far)
  where
    go : (o : Option Call) → get a.base.calls k ≡ o → is_some o ≡ true → IsCalled n k s
    go None is h = absurd (grind arith)
    go (Some c) is h = let r = base.known.called n k far c is in (whose ∙ (ap (λ (o : Option Call). option_map_or (λ d. d.caller) o Caller.Main) is ∙ r.0), handle ∙ (ap (λ (o : Option Call). option_and_then (λ d. d.handle) o) is ∙ r.1.0))

pub next_given : (i : ℕ) (s : Core) → new_handle i s ≡ handle_of_table s.handles i
unfolding new_handle
next_given i s = refl

pub deletable_unnamed : (k : ℕ) (s : Core) → is_deletable k s ≡ true → subtask_handle (Subtask.Guest k) s ≡ None
unfolding is_deletable
deletable_unnamed k s h = grind arith

module _ (a : Scene) (base : NamesHold a.base) (there : InsideThere a) where
  numbers_primitive : (w : Primitive) (s : Core) → Allowed a w s → NamesHold s → (k : ℕ) (c : Call) → get (after_primitive w s).calls k ≡ Some c → k ≤ (after_primitive w s).made.threads
  numbers_primitive w s ok q k c at = let i : CallAfter a w s k = call_came w s ok k in let m = made_threads_primitive a w s in grind (arith, q.number k)

  -- what an op is inside of, after a primitive that gives no call a handle
  called_stays : (w : Primitive) (s : Core) (ok : Allowed a w s) → NamesHold s → WereInside a s → ((i j : ℕ) → w ≡ NameCall i j → ⊥) → (n k : ℕ) → op_progress_of n (after_primitive w s) ≡ OpProgress.Calls (Subtask.Guest k) → (k ≤ (after_primitive w s).made.threads) × OnlyCalled n k (after_primitive w s)
  called_stays w s ok q were not n k far =
      let r = inside a w s ok q were n k far in
      (le_trans r.1.0 (made_threads_primitive a w s), only_stays a base n k r.0 w s r.1.0 (λ i. not i k) r.1.1 (call_came w s ok k))

  -- what is known after a primitive that gives no call a handle: handles name no more than before
  known_after : (w : Primitive) (s : Core) → Allowed a w s → NamesHold s → WereInside a s → ((i j : ℕ) → w ≡ NameCall i j → ⊥) →
      ((i h k : ℕ) → subtask_at i h (after_primitive w s) ≡ Some (Subtask.Guest k) → (subtask_at i h s ≡ Some (Subtask.Guest k)) × (subtask_handle (Subtask.Guest k) (after_primitive w s) ≡ Some h)) → NamesHold (after_primitive w s)
  known_after w s ok q were not old = record {
    known = record {
      there = λ i h k e. (old i h k e).1;
      once = λ i j h g k e f. q.known.once i j h g k (old i h k e).0 (old j g k f).0;
      called = λ n k far. (called_stays w s ok q were not n k far).1;
    };
    number = numbers_primitive w s ok q;
    least = λ n k far. (called_stays w s ok q were not n k far).0;
  }

  names_known_primitive : (w : Primitive) (s : Core) → Allowed a w s → NamesHold s → WereInside a s → NamesHold (after_primitive w s)
  unfolding arrive set_cancel_asked add_call add_group add_set add_thread add_work call_made count_work free_handle free_thread_handle give_handle give_result give_thread_handle on_call on_instance on_thread on_work poll_pends push_high remove_call remove_group remove_set remove_thread remove_work set_backpressure set_cancel_delivered set_cancelled set_course set_do_not_enter set_do_not_suspend set_end set_event set_exited set_op_progress set_join set_task_event set_phase set_position set_register set_result set_saved_callee set_saved_own set_script set_stage set_started set_starting_published set_subtask_handle set_thread_handle set_trapped set_uninteresting set_memory_cell take_result with_handle with_thread_handle work_queued
  names_known_primitive (NameCall i j) s ok q were = record {
    known = record {
      there = λ l g k e. ⊎_elim (λ f. old l g k f) (λ f. grind (arith, nat_tests, get-change, is.0, is.1, f.0, f.1.1, next_given i s)) (new l g k e);
      once = λ l m g f k e h. grind (arith, q.known.once l m g f k, q.known.there l g k, q.known.there m f k, is.1, new l g k e, new m f k h);
      called = named;
    };
    number = numbers_primitive (NameCall i j) s ok q;
    least = q.least;
  }
    where
      is : IsCalled ok.0 j s
      is = named_called a i j s base there ok

      new : (l g k : ℕ) → subtask_in (change i (giving (Named.Subtask (Subtask.Guest j))) s.handles) l g ≡ Some (Subtask.Guest k) →
          (subtask_at l g s ≡ Some (Subtask.Guest k)) ⊎ ((Some (Subtask.Guest j) ≡ Some (Subtask.Guest k)) × ((l ≡ i) × (g ≡ handle_of_table s.handles i)))
      new l g k e = given_names as_subtask s.handles i (Named.Subtask (Subtask.Guest j)) l g (Subtask.Guest k) e

      old : (l g k : ℕ) → subtask_at l g s ≡ Some (Subtask.Guest k) → subtask_handle (Subtask.Guest k) (after_primitive (NameCall i j) s) ≡ Some g
      old l g k e = let h = q.known.there l g k e in grind (arith, nat_tests, get-change, is.1)

      mine : (n : ℕ) → op_progress_of n s ≡ OpProgress.Calls (Subtask.Guest j) → ⊥
      mine n far = by_call (get s.calls j) refl
        where
          by_call : (o : Option Call) → get s.calls j ≡ o → ⊥
          by_call None at = grind (arith, is.0)
          by_call (Some c) at = let r = q.known.called n j far c at in grind (arith, is.0, ok.1.1.1.1.0)

      named : (n k : ℕ) → op_progress_of n s ≡ OpProgress.Calls (Subtask.Guest k) → OnlyCalled n k (after_primitive (NameCall i j) s)
      named n k far = only_stays a base n k (were n k far) (NameCall i j) s (q.least n k far) (λ m e. mine n (grind (arith, far))) (q.known.called n k far) (call_came (NameCall i j) s ok k)
  names_known_primitive (UnnameCall i h j) s ok q were = known_after (UnnameCall i h j) s ok q were (λ m n e. grind arith)
      (λ l g k e. let o = other l g k e in (o.0, grind (arith, nat_tests, get-change, q.known.there l g k o.0, q.known.there i h k, q.known.once l i g h k o.0)))
    where
      other : (l g k : ℕ) → subtask_in (change i (taking h) s.handles) l g ≡ Some (Subtask.Guest k) → (subtask_at l g s ≡ Some (Subtask.Guest k)) × (l ≡ i → g ≡ h → ⊥)
      other l g k e = grind (arith, nat_tests, get-change, get-remove)
  names_known_primitive (MakeCall f e x g group words) s ok q were = known_after (MakeCall f e x g group words) s ok q were (λ m n e. grind arith) (λ l h k d. (d, made h k (get s.calls k) refl (q.known.there l h k d)))
    where
      made : (h k : ℕ) (o : Option Call) → get s.calls k ≡ o → option_and_then (λ c. c.handle) o ≡ Some h → subtask_handle (Subtask.Guest k) (after_primitive (MakeCall f e x g group words) s) ≡ Some h
      made h k None is t = absurd (grind arith)
      made h k (Some c) is t = let below = q.number k c is in grind (arith, nat_tests, get-insert)
  names_known_primitive (RemoveCall j) s ok q were = known_after (RemoveCall j) s ok q were (λ m n e. grind arith)
      (λ l h k d. let r = q.known.there l h k d in let f = deletable_unnamed j s ok.0 in (d, grind (arith, nat_tests, get-remove)))
  names_known_primitive w s ok q were = known_after w s ok q were (λ m n e. grind arith) (λ l g k e. grind (arith, nat_tests, get-change, get-insert, get-remove, q.known.there l g k))

-- Which calls handles and ops name, on the way of a step.
pub record NamesGo (a : Scene) (s : Core) : Type 0 where
  pub hold : NamesHold s
  pub were : WereInside a s

pub names_go_primitive : (a : Scene) → NamesHold a.base → InsideThere a → (w : Primitive) (s : Core) → Allowed a w s → NamesGo a s → NamesGo a (after_primitive w s)
names_go_primitive a base there w s ok q = record {
  hold = names_known_primitive a base there w s ok q.hold q.were;
  were = λ n k far. (inside a w s ok q.hold q.were n k far).0;
}

pub opening_names_known : (rules : Version) (instances handle_limit capacity : ℕ) → NamesKnown (fresh rules instances handle_limit capacity)
unfolding fresh
opening_names_known rules instances handle_limit capacity = record {
  there = λ i h k e. let n = none_named instances i h in absurd (cc);
  once = λ i j h g k e f. let n = none_named instances i h in absurd (cc);
  called = λ n k far. let o = get-empty {X = Thread} n in absurd (grind arith);
}
