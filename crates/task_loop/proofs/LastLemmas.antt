-- The works of a host stay over a start, a finish, a spawn and an abort.
use Rattle.std.proofs.Common.{ap, arith, inl, inr, le_refl, refl, subst, sym, ◌∙◌, ◌≤◌}
use Rattle.std.proofs.lemmas.Bool.Decides.{nat_tests}
use Rattle.std.specs.Option.{option_map_or}
use Rattle.std.specs.Prelude.{Bool, Err, List, None, Ok, Option, Result, Some, [], cond, false, slice_get, suc, true, zero, ℕ, ◌+◌, ◌++◌, ◌==◌, ◌∷◌, ◌≡◌, ◌⊎◌}
use Rattle.ops_state.specs.declared.error.TaskError.{TaskError}
use Rattle.ops_calls.specs.MainCalls.{Starts}
use Rattle.machine_data.proofs.CommuteLemmas.{get-change}
use Rattle.machine_data.specs.Core.{Core}
use Rattle.machine_data.specs.Maps.{Records, get, get-insert}
use Rattle.machine_data.specs.Moves.{put_high}
use Rattle.machine_data.specs.Write.{add_call, add_group, add_thread, add_work, count_work, on_thread, on_work, push_high, set_phase, set_place, set_trapped, take_result}
use Rattle.machine_data.specs.declared.component.Callee.{Callee}
use Rattle.machine_data.specs.declared.component.Component.{Component}
use Rattle.machine_data.specs.declared.component.HostDef.{HostDef}
use Rattle.machine_data.specs.declared.records.Work.{Work}
use Rattle.machine_data.specs.declared.records.WorkCaller.TheVariants as callers
use Rattle.machine_data.specs.declared.trap.Trap.{Trap}
use Rattle.ops_guests.specs.Works.{KeepsWorks}
use Rattle.machine_rules.specs.Calls.{call_made, new_work, work_queued}
use Rattle.machine_rules.specs.MainOps.{is_spawn, is_spawn_caller, main_aborted, main_started}
use Rattle.ops_turns.specs.Later.{WorksLast}
use Rattle.core_primitives.specs.StateView.{Keeps, StateView, on_core}

same_last : (s t : StateView) → t.core.works ≡ s.core.works → t.core.made.works ≡ s.core.made.works → KeepsWorks s t → WorksLast s t
same_last s t works made names = record {
  names = λ id live. inl (names id live);
  made = subst (λ (n : ℕ). s.core.made.works ≤ n) (sym made) (le_refl _);
  gone = λ i below none. ap (λ (w : Records Work). get w i) works ∙ none;
  spawns = λ i is. ap (λ (m : Records Work). option_map_or (λ (w : Work). is_spawn_caller w.caller) (get m i) false) works ∙ is;
}

-- ---- A start and a finish

trapped_works : (s : Core) → (set_trapped s).works ≡ s.works
unfolding set_trapped
trapped_works s = refl

trapped_made : (s : Core) → (set_trapped s).made.works ≡ s.made.works
unfolding set_trapped
trapped_made s = refl

started_works : (c : Component) (e : Callee) (words : List ℕ) (s : Core) → (main_started c e words s).works ≡ s.works
unfolding main_started put_high call_made add_thread add_call add_group set_place on_thread push_high
started_works c e words s = refl

started_made : (c : Component) (e : Callee) (words : List ℕ) (s : Core) → (main_started c e words s).made.works ≡ s.made.works
unfolding main_started put_high call_made add_thread add_call add_group set_place on_thread push_high
started_made c e words s = refl

pub start_last : (c : Component) (e : Callee) (words : List ℕ) (s t : StateView) (o : Option Trap) (r : Result ℕ TaskError) → Starts c e words s o r t → WorksLast s t
start_last c e words s t (Some why) r h =
    same_last s t (ap (λ (u : Core). u.works) h.1.core ∙ trapped_works s.core) (ap (λ (u : Core). u.made.works) h.1.core ∙ trapped_made s.core) (λ id live. h.1.tags.works id live)
start_last c e words s t None (Ok n) h =
    same_last s t (ap (λ (u : Core). u.works) h.1.core ∙ started_works c e words s.core) (ap (λ (u : Core). u.made.works) h.1.core ∙ started_made c e words s.core) (λ id live. h.1.tags.works id live)
start_last c e words s t None (Err why) h =
    same_last s t (ap (λ (u : Core). u.works) h.1.core ∙ trapped_works s.core) (ap (λ (u : Core). u.made.works) h.1.core ∙ trapped_made s.core) (λ id live. h.1.tags.works id live)

taken_works : (n : ℕ) (s : Core) → (take_result n s).works ≡ s.works
unfolding take_result
taken_works n s = refl

taken_made : (n : ℕ) (s : Core) → (take_result n s).made.works ≡ s.made.works
unfolding take_result
taken_made n s = refl

pub finish_last : (n : ℕ) (s : StateView) → WorksLast s (on_core (take_result n) s)
finish_last n s = same_last s (on_core (take_result n) s) (taken_works n s.core) (taken_made n s.core) (λ id live. refl)

-- ---- A spawn and an abort

queued_spawns : (d : HostDef) (s : Core) (i : ℕ) → is_spawn i s ≡ true → is_spawn i (work_queued callers.Spawn d None s) ≡ true
unfolding work_queued push_high add_work count_work
queued_spawns d s i is = by (i == s.made.works + 1) refl
  where
    new : (b : Bool) → (i == s.made.works + 1) ≡ b → get (work_queued callers.Spawn d None s).works i ≡ cond b (Some (new_work callers.Spawn d None)) (get s.works i)
    new b e = get-insert s.works (s.made.works + 1) (new_work callers.Spawn d None) i ∙ rw e refl

    by : (b : Bool) → (i == s.made.works + 1) ≡ b → is_spawn i (work_queued callers.Spawn d None s) ≡ true
    by true e = ap (λ (o : Option Work). option_map_or (λ (w : Work). is_spawn_caller w.caller) o false) (new true e)
    by false e = ap (λ (o : Option Work). option_map_or (λ (w : Work). is_spawn_caller w.caller) o false) (new false e) ∙ is

queued_made : (d : HostDef) (s : Core) → s.made.works ≤ (work_queued callers.Spawn d None s).made.works
unfolding work_queued push_high add_work count_work
queued_made d s = omega arith

queued_gone : (d : HostDef) (s : Core) (i : ℕ) → i ≤ s.made.works → get s.works i ≡ None → get (work_queued callers.Spawn d None s).works i ≡ None
unfolding work_queued push_high add_work count_work
queued_gone d s i below none = grind (arith, nat_tests, get-insert)

pub spawn_last : (d : HostDef) (s t : StateView) → t.core ≡ work_queued callers.Spawn d None s.core → Keeps s.tags t.tags → WorksLast s t
spawn_last d s t core tags = record {
  names = λ id live. inl (tags.works id live);
  made = subst (λ (u : Core). s.core.made.works ≤ u.made.works) (sym core) (queued_made d s.core);
  gone = λ i below none. ap (λ (u : Core). get u.works i) core ∙ queued_gone d s.core i below none;
  spawns = λ i is. ap (λ (u : Core). is_spawn i u) core ∙ queued_spawns d s.core i is;
}

aborted_spawns : (i j : ℕ) (s : Core) → is_spawn j (main_aborted i s) ≡ is_spawn j s
unfolding main_aborted set_phase on_work
aborted_spawns i j s = grind (arith, nat_tests, get-change)

aborted_made : (i : ℕ) (s : Core) → (main_aborted i s).made.works ≡ s.made.works
unfolding main_aborted set_phase on_work
aborted_made i s = refl

aborted_gone : (i j : ℕ) (s : Core) → get s.works j ≡ None → get (main_aborted i s).works j ≡ None
unfolding main_aborted set_phase on_work
aborted_gone i j s none = grind (arith, nat_tests, get-change)

pub abort_last : (i : ℕ) (s : StateView) → WorksLast s (on_core (main_aborted i) s)
abort_last i s = record {
  names = λ id live. inl refl;
  made = subst (λ (n : ℕ). s.core.made.works ≤ n) (sym (aborted_made i s.core)) (le_refl _);
  gone = λ j below none. aborted_gone i j s.core none;
  spawns = λ j is. aborted_spawns i j s.core ∙ is;
}

-- ---- What is kept of them

-- an item of a list that grew by one was in it, or is that one
pub one_more : {A : Type 0} (xs : List A) (x y : A) (i : ℕ) → slice_get (xs ++ x ∷ []) i ≡ Some y → (slice_get xs i ≡ Some y) ⊎ (x ≡ y)
one_more [] x y zero at = inr (cc)
one_more [] x y (suc i) at = absurd (cc)
one_more (z ∷ zs) x y zero at = inl at
one_more (z ∷ zs) x y (suc i) at = one_more zs x y i at
