-- What handles name along the primitives of a step: those of sets name a set of their own instance, and no two name one set.
use Rattle.machine_data.specs.declared.scenario.Version.{Version}
use Rattle.laws_states.proofs.Rules.{add_call, add_group, add_set, add_thread, add_work, after_primitive, Allowed, arith, as_set, as_subtask, call_made, change, CloseSet, Core, count_work, filled, free_handle, free_thread_handle, fresh, get, get-change, get-empty, get-insert, get-remove, give_handle, give_result, give_thread_handle, giving, handle_of_table, NameCall, Named, named_by, NameWork, nat_tests, no_handles, None, on_call, on_instance, on_thread, on_work, OpenSet, Option, option_and_then, option_map, poll_pends, push_high, Reached, Records, refl, remove_call, remove_group, remove_set, remove_thread, remove_work, Scene, Set, set_at, set_backpressure, set_cancel_delivered, set_cancelled, set_course, set_do_not_enter, set_do_not_suspend, set_end, set_event, set_exited, set_op_progress, set_join, set_task_event, set_phase, set_position, set_register, set_result, set_saved_callee, set_saved_own, set_script, set_stage, set_started, set_starting_published, set_subtask_handle, set_thread_handle, set_trapped, set_uninteresting, set_memory_cell, SetsNamed, SetsNamedAtHome, SetsNamedOnce, Setting, Some, State, Subtask, NameTable, take_result, taking, UnnameCall, UnnameWork, with_handle, with_thread_handle, Primitive, work_queued, ℕ, ◌+◌, ◌≡◌, ◌⊎◌}
use Rattle.laws_states.proofs.ReachLemmas.{filled_with, reached_kept}
unfoldable use Rattle.machine_data.specs.Write.{arrive, set_cancel_asked}

-- what a handle names, and of which instance a set is, in these tables
abbrev pub set_in : Records (NameTable Named) → ℕ → ℕ → Option ℕ
set_in tables i h = option_and_then as_set (named_by tables i h)

abbrev pub subtask_in : Records (NameTable Named) → ℕ → ℕ → Option Subtask
subtask_in tables i h = option_and_then as_subtask (named_by tables i h)

abbrev pub home_in : Records Set → ℕ → Option ℕ
home_in sets x = option_map (λ (r : Set). r.instance) (get sets x)

module _ {X : Type 0} (read : Named → Option X) where
  -- what is read of what handles name, as the instance i has given its next handle to nm
  pub given_names : (tables : Records (NameTable Named)) (i : ℕ) (nm : Named) (j g : ℕ) (x : X) →
      option_and_then read (named_by (change i (giving nm) tables) j g) ≡ Some x →
      (option_and_then read (named_by tables j g) ≡ Some x) ⊎ ((read nm ≡ Some x) × ((j ≡ i) × (g ≡ handle_of_table tables i)))
  given_names tables i nm j g x h = grind (arith, nat_tests, get-change, get-insert)

-- no handle more names a set
fewer_named : {s t : Core} → t.made.sets ≡ s.made.sets → t.sets ≡ s.sets → ((j g x : ℕ) → set_at j g t ≡ Some x → set_at j g s ≡ Some x) →
    SetsNamed s → SetsNamed t
fewer_named made sets old q = record {
  number = λ j g x e. rw made (q.number j g x (old j g x e));
  home = λ j g x e. rw sets (q.home j g x (old j g x e));
  once = λ j i g h x e f. q.once j i g h x (old j g x e) (old i h x f);
}

pub sets_named_primitive : (a : Scene) (w : Primitive) (s : Core) → Allowed a w s → SetsNamed s → SetsNamed (after_primitive w s)
unfolding arrive set_cancel_asked add_call add_group add_set add_thread add_work call_made count_work free_handle free_thread_handle give_handle give_result give_thread_handle on_call on_instance on_thread on_work poll_pends push_high remove_call remove_group remove_set remove_thread remove_work set_backpressure set_cancel_delivered set_cancelled set_course set_do_not_enter set_do_not_suspend set_end set_event set_exited set_op_progress set_join set_task_event set_phase set_position set_register set_result set_saved_callee set_saved_own set_script set_stage set_started set_starting_published set_subtask_handle set_thread_handle set_trapped set_uninteresting set_memory_cell take_result with_handle with_thread_handle work_queued
sets_named_primitive a (NameCall i k) s ok q = fewer_named refl refl (λ j g x e. grind (arith, nat_tests, get-change, get-insert)) q
sets_named_primitive a (NameWork i w) s ok q = fewer_named refl refl (λ j g x e. grind (arith, nat_tests, get-change, get-insert)) q
sets_named_primitive a (UnnameCall i h k) s ok q = fewer_named refl refl (λ j g x e. grind (arith, nat_tests, get-change, get-remove)) q
sets_named_primitive a (UnnameWork i h w) s ok q = fewer_named refl refl (λ j g x e. grind (arith, nat_tests, get-change, get-remove)) q
sets_named_primitive a (OpenSet i) s ok q = record {
  number = λ j g x e. let n = new j g x e in grind (arith, q.number j g x);
  home = λ j g x e. let n = new j g x e in grind (arith, nat_tests, get-insert, q.number j g x, q.home j g x);
  once = λ j l g h x e f. let n = new j g x e in let m = new l h x f in
      grind (arith, q.number j g x, q.number l h x, q.once j l g h x);
}
  where
    new : (j g x : ℕ) → set_in (change i (giving (Named.Set (s.made.sets + 1))) s.handles) j g ≡ Some x →
        (set_at j g s ≡ Some x) ⊎ ((Some (s.made.sets + 1) ≡ Some x) × ((j ≡ i) × (g ≡ handle_of_table s.handles i)))
    new j g x e = given_names as_set s.handles i (Named.Set (s.made.sets + 1)) j g x e
sets_named_primitive a (CloseSet i h y) s ok q = record {
  number = λ j g x e. q.number j g x (old j g x e).0;
  home = λ j g x e. let o = old j g x e in grind (arith, nat_tests, get-remove, q.home j g x, q.once j i g h x);
  once = λ j l g f x e k. q.once j l g f x (old j g x e).0 (old l f x k).0;
}
  where
    old : (j g x : ℕ) → set_in (change i (taking h) s.handles) j g ≡ Some x → (set_at j g s ≡ Some x) × (j ≡ i → g ≡ h → ⊥)
    old j g x e = grind (arith, nat_tests, get-change, get-remove)
sets_named_primitive a w s ok q = record { number = q.number; home = q.home; once = q.once }

pub none_named : (n i h : ℕ) → named_by (filled (no_handles {X = Named}) n) i h ≡ None
none_named n i h = go (get (filled no_handles n) i) (λ t is. filled_with n i t is)
  where
    go : (o : Option (NameTable Named)) → ((t : NameTable Named) → o ≡ Some t → t ≡ no_handles) →
        option_and_then (λ (t : NameTable Named). get t.live h) o ≡ None
    go None f = refl
    go (Some t) f = rw (f t refl) (get-empty h)

pub opening_sets : (rules : Version) (instances handle_limit capacity : ℕ) → SetsNamed (fresh rules instances handle_limit capacity)
unfolding fresh
opening_sets rules instances handle_limit capacity = record {
  number = λ i h x e. let n = none_named instances i h in absurd (cc);
  home = λ i h x e. let n = none_named instances i h in absurd (cc);
  once = λ i j h g x e f. let n = none_named instances i h in absurd (cc);
}

reached_sets : {x : Setting} {s : State} → Reached x s → SetsNamed s.core
reached_sets r = reached_kept SetsNamed opening_sets sets_named_primitive r

pub sets_named_at_home : SetsNamedAtHome
unfolding SetsNamedAtHome
sets_named_at_home x s r i h n at = let home = (reached_sets r).home i h n at in grind arith

pub sets_named_once : SetsNamedOnce
unfolding SetsNamedOnce
sets_named_once x s r = (reached_sets r).once
