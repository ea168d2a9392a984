-- A subtask that is joined to a set is named in the set's instance: along the primitives of a step.
use Rattle.machine_data.specs.declared.scenario.Version.{Version}
use Rattle.laws_states.proofs.Primitives.{[], add_call, add_group, add_set, add_thread, add_work, after_change, after_primitive, Allowed, arith, Bool, by_number, Call, call_made, change, CloseSet, Core, count_work, false, filled_with, free_handle, free_thread_handle, fresh, get, get-change, get-empty, get-insert, get-remove, give_handle, give_result, give_thread_handle, giving, giving_kept, has_member, home_in, inl, inr, instance_of, is_joined, is_member, is_some, Join, join_of, JoinNamed, JoinsNamed, List, list_any, list_any-append, map, MayJoin, NameCall, Named, named_by, NameWork, nat_cmp, nat_tests, next_dead, next_handle, no_handles, None, numbers, on_call, on_instance, on_thread, on_work, OpenSet, poll_pends, push_high, Records, refl, remove_call, remove_group, remove_set, remove_thread, remove_work, Scene, Set, set_backpressure, set_cancel_delivered, set_cancelled, set_course, set_do_not_enter, set_do_not_suspend, set_end, set_event, set_exited, set_op_progress, set_join, set_task_event, set_phase, set_position, set_register, set_result, set_saved_callee, set_saved_own, set_script, set_stage, set_started, set_starting_published, set_subtask_handle, set_thread_handle, set_trapped, set_uninteresting, set_memory_cell, SetCallJoin, SetsNamed, SetWorkJoin, Some, subst, Subtask, subtask_at, subtask_in, NameTable, TableKept, take_result, taking, taking_kept, true, UnnameCall, UnnameWork, unsigned_tied, with_handle, with_thread_handle, Primitive, Work, work_queued, ℕ, ⊎_elim, ◌∷◌, ◌≡◌, ◌≤◌, ◌⊎◌}
use Rattle.std.specs.FinMap.Entries.{find}
unfoldable use Rattle.machine_data.specs.Write.{arrive, set_cancel_asked}

-- ---- Tables

-- each table is kept where one is changed
tables_changed : (tables : Records (NameTable Named)) (i : ℕ) (f : NameTable Named → NameTable Named) →
    ((t : NameTable Named) → get tables i ≡ Some t → TableKept t → TableKept (f t)) →
    ((j : ℕ) (t : NameTable Named) → get tables j ≡ Some t → TableKept t) →
    (j : ℕ) (t : NameTable Named) → get (change i f tables) j ≡ Some t → TableKept t
tables_changed tables i f own kept j = after_change
    (λ o p. ((t : NameTable Named) → o ≡ Some t → TableKept t) → (t : NameTable Named) → p ≡ Some t → TableKept t) tables i j (λ o h. h) f
    (λ u is e h t at. let same : f u ≡ t = cc in subst TableKept same (own u (rw e at is) (h u refl))) (kept j)

-- ---- Members

pub any_number : (p : Subtask → Bool) (wrap : ℕ → Subtask) (k : ℕ) {X : Type 0} (es : List (ℕ × X)) → is_some (find nat_cmp k es) ≡ true →
    p (wrap k) ≡ true → list_any p (map wrap (map (λ e. e.0) es)) ≡ true
any_number p wrap k [] h is = absurd (cc)
any_number p wrap k (e ∷ es) h is = let rest = any_number p wrap k es in let same = unsigned_tied k e.0 in grind (arith, nat_tests)

-- who is joined to a set is a member of it
member_of : (sub : Subtask) (x : ℕ) (s : Core) → join_of sub s ≡ Join.Set x → has_member x s ≡ true
unfolding has_member numbers get
member_of (Subtask.Guest k) x s h =
    let any = any_number (λ sub. is_member x sub s) (λ n. Subtask.Guest n) k s.calls.list in grind (arith, nat_tests, list_any-append)
member_of (Subtask.Host i) x s h =
    let any = any_number (λ sub. is_member x sub s) (λ n. Subtask.Host n) i s.works.list in grind (arith, nat_tests, list_any-append)

-- ---- Joins, primitive by primitive

-- the primitive joins the subtask to the set, and leaves handles and sets
abbrev pub Joins : Scene → Primitive → Core → Subtask → ℕ → Type 0
Joins a w s sub x = MayJoin a sub (Join.Set x) s × (((after_primitive w s).handles ≡ s.handles) × ((after_primitive w s).sets ≡ s.sets))

pub now_joined : (a : Scene) (w : Primitive) (s : Core) → Allowed a w s → (sub : Subtask) (x : ℕ) → join_of sub (after_primitive w s) ≡ Join.Set x →
    (join_of sub s ≡ Join.Set x) ⊎ Joins a w s sub x
unfolding arrive set_cancel_asked on_thread add_group add_set add_work count_work free_handle free_thread_handle give_handle give_result give_thread_handle on_call on_instance on_work push_high remove_call remove_group remove_set remove_work remove_thread set_backpressure set_cancel_delivered set_cancelled set_course set_do_not_enter set_do_not_suspend set_end set_event set_exited set_op_progress set_join set_task_event set_phase set_position set_register set_result set_saved_callee set_saved_own set_script set_stage set_started set_starting_published set_subtask_handle set_thread_handle set_trapped set_uninteresting set_memory_cell take_result call_made add_call add_thread with_handle with_thread_handle work_queued poll_pends
now_joined a (SetCallJoin n j) s ok (Subtask.Guest k) x h = by_number n k _
    (λ e. let to : j ≡ Join.Set x = grind (arith, nat_tests, get-change) in inr (rw to at (rw e at ok), (refl, refl)))
    (λ e. inl (grind (arith, nat_tests, get-change, e)))
now_joined a (SetWorkJoin n j) s ok (Subtask.Host k) x h = by_number n k _
    (λ e. let to : j ≡ Join.Set x = grind (arith, nat_tests, get-change) in inr (rw to at (rw e at ok), (refl, refl)))
    (λ e. inl (grind (arith, nat_tests, get-change, e)))
now_joined a w s ok (Subtask.Guest k) x h = inl (first_of (assumption, grind (arith, nat_tests, get-change, get-insert, get-remove)))
now_joined a w s ok (Subtask.Host k) x h = inl (first_of (assumption, grind (arith, nat_tests, get-change, get-insert, get-remove)))

-- ---- The law

-- Each table of these is kept, and who is joined to a set stays named.
record HandlesKept (s : Core) (handles : Records (NameTable Named)) : Type 0 where
  tables : (i : ℕ) (t : NameTable Named) → get handles i ≡ Some t → TableKept t
  names : (sub : Subtask) (x i h : ℕ) → join_of sub s ≡ Join.Set x → subtask_at i h s ≡ Some sub → subtask_in handles i h ≡ Some sub

-- These sets have numbers that were given, and the set to which a subtask is joined stays where it is.
record SetsKept (s : Core) (sets : Records Set) (made : ℕ) : Type 0 where
  numbers : (x : ℕ) → is_some (get sets x) ≡ true → x ≤ made
  homes : (sub : Subtask) (x i : ℕ) → join_of sub s ≡ Join.Set x → home_in s.sets x ≡ Some i → home_in sets x ≡ Some i

module _ (a : Scene) (s : Core) (q : JoinsNamed s) where
  given_kept : (j : ℕ) (nm : Named) → HandlesKept s (change j (giving nm) s.handles)
  given_kept j nm = record {
    tables = tables_changed s.handles j (giving nm) (λ t e. giving_kept nm t) q.tables;
    names = λ sub x i h to e.
        let dead : (t : NameTable Named) → get s.handles j ≡ Some t → get t.live (next_handle t t.freed) ≡ None = λ t at. next_dead t (q.tables j t at) in
        grind (arith, nat_tests, get-change, get-insert);
  }

  -- the handle that is taken back names none that is joined to a set
  freed_kept : (j g : ℕ) (nm : Named) → named_by s.handles j g ≡ Some nm →
      ((sub : Subtask) (x : ℕ) → join_of sub s ≡ Join.Set x → nm ≡ Named.Subtask sub → ⊥) → HandlesKept s (change j (taking g) s.handles)
  freed_kept j g nm at unjoined = record {
    tables = tables_changed s.handles j (taking g) (λ t e. taking_kept g t nm (cc)) q.tables;
    names = λ sub x i h to e. let other = unjoined sub x to in grind (arith, nat_tests, get-change, get-remove);
  }

  unnamed_kept : (j g : ℕ) (sub : Subtask) → subtask_at j g s ≡ Some sub → is_joined (join_of sub s) ≡ false →
      HandlesKept s (change j (taking g) s.handles)
  unnamed_kept j g sub at unjoined =
      freed_kept j g (Named.Subtask sub) (grind arith) (λ other x to is. let same : sub ≡ other = cc in absurd (cc))

  handles_primitive : (w : Primitive) → Allowed a w s → HandlesKept s (after_primitive w s).handles
  unfolding arrive set_cancel_asked on_thread add_group add_set add_work count_work free_handle free_thread_handle give_handle give_result give_thread_handle on_call on_instance on_work push_high remove_call remove_group remove_set remove_work remove_thread set_backpressure set_cancel_delivered set_cancelled set_course set_do_not_enter set_do_not_suspend set_end set_event set_exited set_op_progress set_join set_task_event set_phase set_position set_register set_result set_saved_callee set_saved_own set_script set_stage set_started set_starting_published set_subtask_handle set_thread_handle set_trapped set_uninteresting set_memory_cell take_result call_made add_call add_thread with_handle with_thread_handle work_queued poll_pends
  handles_primitive (NameCall j k) ok = given_kept j _
  handles_primitive (NameWork j k) ok = given_kept j _
  handles_primitive (OpenSet j) ok = given_kept j _
  handles_primitive (UnnameCall j g k) ok = unnamed_kept j g _ ok.1.1.1.0 ok.1.1.1.1.0
  handles_primitive (UnnameWork j g k) ok = unnamed_kept j g _ ok.1.1.1.0 ok.1.1.1.1.0
  handles_primitive (CloseSet j g y) ok = freed_kept j g (Named.Set y) (grind arith) (λ sub x to is. absurd (cc))
  handles_primitive w ok = record { tables = q.tables; names = λ sub x i h at e. e }

  sets_primitive : (w : Primitive) → Allowed a w s → SetsKept s (after_primitive w s).sets (after_primitive w s).made.sets
  unfolding arrive set_cancel_asked on_thread add_group add_set add_work count_work free_handle free_thread_handle give_handle give_result give_thread_handle on_call on_instance on_work push_high remove_call remove_group remove_set remove_work remove_thread set_backpressure set_cancel_delivered set_cancelled set_course set_do_not_enter set_do_not_suspend set_end set_event set_exited set_op_progress set_join set_task_event set_phase set_position set_register set_result set_saved_callee set_saved_own set_script set_stage set_started set_starting_published set_subtask_handle set_thread_handle set_trapped set_uninteresting set_memory_cell take_result call_made add_call add_thread with_handle with_thread_handle work_queued poll_pends
  sets_primitive (OpenSet j) ok = record {
    numbers = λ x h. grind (arith, nat_tests, get-insert, q.sets x);
    homes = λ sub x i at home. grind (arith, nat_tests, get-insert, q.sets x);
  }
  sets_primitive (CloseSet j g y) ok = record {
    numbers = λ x h. grind (arith, nat_tests, get-remove, q.sets x);
    homes = λ sub x i at home. let member = member_of sub x s at in grind (arith, nat_tests, get-remove);
  }
  sets_primitive w ok = record { numbers = q.sets; homes = λ sub x i at home. home }

  module _ (tidy : SetsNamed s) (w : Primitive) (ok : Allowed a w s) where
    joined_kept : (sub : Subtask) (x : ℕ) → join_of sub s ≡ Join.Set x → JoinNamed sub x (after_primitive w s)
    joined_kept sub x at = let n = q.joins sub x at in record {
      instance = n.instance;
      handle = n.handle;
      home = (sets_primitive w ok).homes sub x n.instance at n.home;
      named = (handles_primitive w ok).names sub x n.instance n.handle at n.named;
    }

    -- a subtask that is joined now is named beside its set
    joined_now : (sub : Subtask) (x : ℕ) → Joins a w s sub x → JoinNamed sub x (after_primitive w s)
    joined_now sub x (m, (handles, sets)) = record {
      instance = instance_of m.0 a.base;
      handle = m.1.0;
      home = rw sets (tidy.home (instance_of m.0 a.base) m.1.1.0 x m.1.1.1.1.1.0);
      named = rw handles m.1.1.1.1.0;
    }

    pub joins_primitive : JoinsNamed (after_primitive w s)
    joins_primitive = record { tables = (handles_primitive w ok).tables; sets = (sets_primitive w ok).numbers; joins = λ sub x h. ⊎_elim (joined_kept sub x) (joined_now sub x) (now_joined a w s ok sub x h) }

-- ---- The first state

pub opening_joins : (rules : Version) (instances handle_limit capacity : ℕ) → JoinsNamed (fresh rules instances handle_limit capacity)
unfolding fresh
opening_joins rules instances handle_limit capacity = record {
  tables = λ i t e. rw (filled_with instances i t e) none_made;
  sets = λ x h. let o = get-empty {X = Set} x in absurd (cc);
  joins = unjoined;
}
  where
    none_made : TableKept {X = Named} no_handles
    none_made = record {
      live = λ h e. let o = get-empty {X = Named} h in absurd (cc);
      freed = λ h l. absurd (omega arith);
      once = λ h. omega arith;
    }

    unjoined : (sub : Subtask) (x : ℕ) → join_of sub (fresh rules instances handle_limit capacity) ≡ Join.Set x →
        JoinNamed sub x (fresh rules instances handle_limit capacity)
    unjoined (Subtask.Guest k) x h = let o = get-empty {X = Call} k in absurd (cc)
    unjoined (Subtask.Host i) x h = let o = get-empty {X = Work} i in absurd (cc)
