-- At most one holding entry of an instance runs at a time: each primitive, each step, and each run.
use Rattle.machine_data.specs.declared.scenario.Version.{Version}
use Rattle.laws_states.proofs.Primitives.{[], add_call, add_group, add_set, add_thread, add_work, AddGroup, after_primitive, Allowed, along, arith, begun_holder, Bool, Call, call_came, call_instance, call_made, CallAfter, Callee, callee_of, callee_of_op, CalleesExist, Caller, Component, component_of, Core, count_work, false, filled, filter, free_handle, free_thread_handle, fresh, get, get-change, get-empty, get-insert, give_handle, give_result, give_thread_handle, Grown, history, holds_one, is_among, is_some, Label, LastPrimitives, less_holder, List, list_any, Main, may_not_enter, MayCall, nat_tests, NewCall, NoCall, None, not, on_call, on_instance, on_thread, on_work, Op, op_at_place, op_in, op_of, ops_plain, Option, option_map_or, plain, plain_scene, poll_pends, push_high, Queues, refl, remove_call, remove_group, remove_set, remove_thread, remove_work, returned_holder, Run, RunsHoldOne, SameMain, Scene, Script, script_in, script_of, script_of_thread, Scripted, set_backpressure, set_cancel_delivered, set_cancelled, set_course, set_do_not_enter, set_do_not_suspend, set_end, set_event, set_exited, set_op_progress, set_join, set_task_event, set_phase, set_position, set_register, set_result, set_saved_callee, set_saved_own, set_script, set_stage, set_started, set_starting_published, set_subtask_handle, set_thread_handle, set_trapped, set_uninteresting, set_memory_cell, SetDoNotEnter, Setting, slice_get, Some, State, Step, step_walks, subst, take_result, Thread, true, Unscripted, untouched, Walk, Walked, with_handle, with_holder, with_thread_handle, Primitive, work_queued, ℕ, ◌<◌, ◌==◌, ◌∙◌, ◌∷◌, ◌≡◌, ◌⊎◌}
use Rattle.machine_rules.specs.Allowed as may
unfoldable use Rattle.machine_data.specs.Write.{arrive, set_cancel_asked}

-- ---- Instances

pub instance_stays : (w : Primitive) (s : Core) (i : ℕ) → is_some (get (after_primitive w s).instances i) ≡ is_some (get s.instances i)
unfolding arrive set_cancel_asked add_call add_group add_set add_thread add_work count_work free_handle free_thread_handle give_handle give_result give_thread_handle on_call on_instance on_thread on_work push_high remove_call remove_group remove_set remove_thread remove_work set_backpressure set_cancel_delivered set_cancelled set_course set_do_not_enter set_do_not_suspend set_end set_event set_exited set_op_progress set_join set_task_event set_phase set_position set_register set_result set_saved_callee set_saved_own set_script set_stage set_started set_starting_published set_subtask_handle set_thread_handle set_trapped set_uninteresting set_memory_cell take_result call_made with_handle with_thread_handle work_queued poll_pends
instance_stays AddGroup s i = refl
instance_stays w s i = first_of (search, grind (arith, nat_tests, get-change))

pub table_stays : (w : Primitive) (s : Core) (i : ℕ) → is_some (get (after_primitive w s).handles i) ≡ is_some (get s.handles i)
unfolding arrive set_cancel_asked add_call add_group add_set add_thread add_work count_work free_handle free_thread_handle give_handle give_result give_thread_handle on_call on_instance on_thread on_work push_high remove_call remove_group remove_set remove_thread remove_work set_backpressure set_cancel_delivered set_cancelled set_course set_do_not_enter set_do_not_suspend set_end set_event set_exited set_op_progress set_join set_task_event set_phase set_position set_register set_result set_saved_callee set_saved_own set_script set_stage set_started set_starting_published set_subtask_handle set_thread_handle set_trapped set_uninteresting set_memory_cell take_result call_made with_handle with_thread_handle work_queued poll_pends
table_stays AddGroup s i = refl
table_stays w s i = first_of (search, grind (arith, nat_tests, get-change))

-- it stays shut unless a holding entry of it returns
shut_stays : (a : Scene) (w : Primitive) (s : Core) → Allowed a w s → (i : ℕ) → (returned_holder a.base a.label ≡ Some i → ⊥) →
    may_not_enter i s ≡ true → may_not_enter i (after_primitive w s) ≡ true
unfolding arrive set_cancel_asked add_call add_group add_set add_thread add_work count_work free_handle free_thread_handle give_handle give_result give_thread_handle on_call on_instance on_thread on_work push_high remove_call remove_group remove_set remove_thread remove_work set_backpressure set_cancel_delivered set_cancelled set_course set_do_not_enter set_do_not_suspend set_end set_event set_exited set_op_progress set_join set_task_event set_phase set_position set_register set_result set_saved_callee set_saved_own set_script set_stage set_started set_starting_published set_subtask_handle set_thread_handle set_trapped set_uninteresting set_memory_cell take_result call_made with_handle with_thread_handle work_queued poll_pends
shut_stays a (SetDoNotEnter j true) s ok i other h = grind (arith, nat_tests, get-change)
shut_stays a (SetDoNotEnter j false) s ok i other h = grind (arith, nat_tests, get-change)
shut_stays a w s ok i other h = first_of (assumption, grind (arith, nat_tests, get-change))

-- ---- What holds

-- before a step: these instances are there, and each call is of one that is
record Housed (instances : ℕ) (s : Core) : Type 0 where
  there : (i : ℕ) → i < instances → is_some (get s.instances i) ≡ true
  homes : (k : ℕ) (c : Call) → get s.calls k ≡ Some c → is_some (get s.instances c.callee.instance) ≡ true

-- On the way of a step: no instance is opened but the one of which a holding entry returns, and none is lost.
record HoldersGo (a : Scene) (s : Core) : Type 0 where
  shut : (i : ℕ) → (returned_holder a.base a.label ≡ Some i → ⊥) → may_not_enter i a.base ≡ true → may_not_enter i s ≡ true
  kept : (i : ℕ) → is_some (get a.base.instances i) ≡ true → is_some (get s.instances i) ≡ true
  homes : (k : ℕ) (c : Call) → get s.calls k ≡ Some c → is_some (get s.instances c.callee.instance) ≡ true

abbrev IsScripted : Main → Type 0
IsScripted (Scripted p) = Unit {0}
IsScripted Unscripted = ⊥

-- ---- The exports that are called

callee_at : (ops : List Op) (p : ℕ) (e : Callee) → callee_of_op (op_at_place ops p) ≡ Some e →
    (o : Op) × ((slice_get ops p ≡ Some o) × (callee_of_op o ≡ Some e))
callee_at ops p e is = grind arith

-- what is so of each export that a script calls is so of the one that a thread's op calls
pub op_callee : (c : Component) (P : Callee → Type 0) →
    ((f : Callee) (w : Script) (p : ℕ) (o : Op) (e : Callee) → slice_get (script_in c f w) p ≡ Some o → callee_of_op o ≡ Some e → P e) →
    (n : ℕ) (s : Core) (e : Callee) → callee_of_op (op_of c n s) ≡ Some e → P e
unfolding op_of script_of
op_callee c P calls n s e is =
    let p = option_map_or (λ (t : Thread). t.position) (get s.threads n) 0 in
    let o = callee_at (script_of c n s) p e is in go (get s.threads n) p o.0 o.1.0 o.1.1
  where
    go : (t : Option Thread) (p : ℕ) (o : Op) → slice_get (option_map_or (script_of_thread c s) t []) p ≡ Some o →
        callee_of_op o ≡ Some e → P e
    go None p o at f = absurd (cc)
    go (Some t) p o at f = calls (callee_of t.call s) t.script p o e at f

module _ (a : Scene) (instances : ℕ) (exist : CalleesExist a.setting instances) (main : IsScripted a.main)
    (b : Housed instances a.base) (here : (n : ℕ) → op_in a n ≡ op_of (component_of a) n a.base) where
  callee_there : (f : Caller) (e : Callee) (group : ℕ) (s : Core) → MayCall a f e group s → e.instance < instances
  callee_there f e group s (may.ByScript p o m at callee is same) = exist.callees.starts p.position o e at callee
  callee_there f e group s (may.ByProgram words m takes is same) = absurd (rw m at main)
  callee_there f e group s (may.ByThread n r callee is same) = op_callee (component_of a) (λ e. e.instance < instances) exist.callees.calls n a.base e (subst (λ (o : Op). callee_of_op o ≡ Some e) (here n) callee)

  primitive_holds : (w : Primitive) (s : Core) → Allowed a w s → HoldersGo a s → HoldersGo a (after_primitive w s)
  primitive_holds w s ok q = record {
    shut = λ i other h. shut_stays a w s ok i other (q.shut i other h);
    kept = λ i h. instance_stays w s i ∙ q.kept i h;
    homes = λ k c at. home k c at (call_came w s ok k);
  }
    where
      home : (k : ℕ) (c : Call) → get (after_primitive w s).calls k ≡ Some c → CallAfter a w s k →
          is_some (get (after_primitive w s).instances c.callee.instance) ≡ true
      home k c at (Grown d e f g h) = let l = instance_stays w s d.callee.instance ∙ q.homes k d f in let c = h.callee in grind arith
      home k c at (NoCall e r) = absurd (cc)
      home k c at (NewCall f e x g group is l m new) =
          let k = instance_stays w s e.instance ∙ q.kept e.instance (b.there e.instance (callee_there f e group s m.0)) in grind arith

-- ---- Who begins to run, whatever is at the marks

begun_same : (q : Queues) (s : Core) (l : Label) → begun_holder (record s { queues = q }) l ≡ begun_holder s l
begun_same q s l = grind arith

returned_same : (q : Queues) (s : Core) (l : Label) → returned_holder (record s { queues = q }) l ≡ returned_holder s l
returned_same q s l = grind arith

call_there : {instances : ℕ} (k : ℕ) {s : Core} → 0 < instances → Housed instances s → is_some (get s.instances (call_instance k s)) ≡ true
call_there k {s = s} some h = grind (arith, h.there 0, h.homes k)

-- a holding entry that begins to run is of an instance that is there
begun_there : {instances : ℕ} {s : Core} → 0 < instances → Housed instances s → (l : Label) (i : ℕ) → begun_holder s l ≡ Some i →
    is_some (get s.instances i) ≡ true
begun_there {s = s} some h l i e =
    let there : (k : ℕ) → is_some (get s.instances (call_instance k s)) ≡ true = λ k. call_there k some h in grind (arith, there)

-- ---- Steps

-- a script stays one
script_stays : (m : Main) (t : Core) (n : Main) → SameMain m t n → IsScripted m → IsScripted n
script_stays m t n same h = grind arith

-- but for the instance of which a holding entry returns none is opened; one that begins to run finds its instance open, and shuts it
record StepHolds (instances : ℕ) (s : State) (l : Label) (t : State) : Type 0 where
  shut : (i : ℕ) → (returned_holder s.core l ≡ Some i → ⊥) → may_not_enter i s.core ≡ true → may_not_enter i t.core ≡ true
  begins : (i : ℕ) → begun_holder s.core l ≡ Some i → (may_not_enter i s.core ≡ false) × (may_not_enter i t.core ≡ true)
  housed : Housed instances t.core
  main : IsScripted t.main

step_holds : (x : Setting) (instances : ℕ) → CalleesExist x instances → (s : State) → Housed instances s.core → IsScripted s.main →
    (l : Label) (t : State) → Step x s l t → StepHolds instances s l t
step_holds x instances exist s h m l t step =
    let w : Walked x s l t = step_walks x s l t step in
    let a : Scene = plain_scene x s l w.next in
    let q = a.base.queues in
    let b : Housed instances a.base = record { there = h.there; homes = h.homes } in
    let first : HoldersGo a s.core = record { shut = λ i other e. e; kept = λ i e. e; homes = h.homes } in
    let walk : Walk a s.core t.core = plain x s l w.next (λ c. Walk c s.core t.core) w.walk in
    let ends : LastPrimitives a t.core = plain x s l w.next (λ c. LastPrimitives c t.core) w.ends in
    let g : HoldersGo a t.core = along (HoldersGo a) (primitive_holds a instances exist m b (ops_plain x.component s.core q)) first walk in
    record {
      shut = λ i other e. g.shut i (rw (returned_same q s.core l) other) e;
      begins = λ i e. let r = ends.shut i (rw (begun_same q s.core l) e) in (r.0, r.1 (g.kept i (begun_there exist.some h l i e)));
      housed = record { there = λ i below. g.kept i (h.there i below); homes = g.homes };
      main = script_stays s.main t.core t.main w.main m;
    }

-- ---- Who is inside

abbrev among : ℕ → List ℕ → Bool
among j ks = list_any (λ n. j == n) ks

abbrev less_one : ℕ → List ℕ → List ℕ
less_one i ks = filter (λ n. not (i == n)) ks

-- who is left of a list less one
among_left : (ks : List ℕ) (i j : ℕ) → among j (less_one i ks) ≡ true → (among j ks ≡ true) × (i ≡ j → ⊥)
among_left [] i j h = absurd (cc)
among_left (k ∷ ks) i j h = let rest = among_left ks i j in grind (arith, nat_tests)

left_inside : (inside : List ℕ) (b r : Option ℕ) (i : ℕ) → is_among (less_holder (with_holder inside b) r) (Some i) ≡ true →
    ((b ≡ Some i) ⊎ (is_among inside (Some i) ≡ true)) × (r ≡ Some i → ⊥)
left_inside inside b None i h = grind (arith, nat_tests)
left_inside inside b (Some j) i h = let r = among_left (with_holder inside b) j i h in grind (arith, nat_tests)

-- the instances of those inside are shut
abbrev AllShut : List ℕ → Core → Type 0
AllShut inside s = (i : ℕ) → is_among inside (Some i) ≡ true → may_not_enter i s ≡ true

none_inside : (s : Core) (inside : List ℕ) (o : Option ℕ) → AllShut inside s → ((i : ℕ) → o ≡ Some i → may_not_enter i s ≡ false) →
    not (is_among inside o) ≡ true
none_inside s inside o shut unshut = grind arith

still_shut : {instances : ℕ} (s : State) (l : Label) (t : State) (inside : List ℕ) → StepHolds instances s l t → AllShut inside s.core →
    AllShut (less_holder (with_holder inside (begun_holder s.core l)) (returned_holder s.core l)) t.core
still_shut s l t inside k shut i h =
    let left = left_inside inside (begun_holder s.core l) (returned_holder s.core l) i h in
    grind (arith, k.shut i, k.begins i, shut i)

-- ---- Runs

filled_at : {X : Type 0} (x : X) (n i : ℕ) → i < n → is_some (get (filled x n) i) ≡ true
filled_at x ℕ.zero i below = absurd (omega arith)
filled_at x (ℕ.suc n) i below = let rest = filled_at x n i in grind (arith, nat_tests, get-insert)

opening_housed : (rules : Version) (instances handle_limit capacity : ℕ) → Housed instances (fresh rules instances handle_limit capacity)
unfolding fresh
opening_housed rules instances handle_limit capacity = record {
  there = λ i below. filled_at untouched instances i below;
  homes = λ k c e. let o = get-empty {X = Call} k in absurd (cc);
}

run_holds : (x : Setting) (instances : ℕ) → CalleesExist x instances → (s : State) → Housed instances s.core → IsScripted s.main →
    (ls : List Label) (t : State) (run : Run x s ls t) (inside : List ℕ) → AllShut inside s.core →
    holds_one inside (history x s ls t run) ≡ true
run_holds x instances exist s h m [] t run inside shut = refl
run_holds x instances exist s h m (l ∷ ls) t run inside shut =
    let k : StepHolds instances s l run.0 = step_holds x instances exist s h m l run.0 run.1.0 in
    let first = none_inside s.core inside (begun_holder s.core l) shut (λ i begun. (k.begins i begun).0) in
    rw first (run_holds x instances exist run.0 k.housed k.main ls t run.1.1 _ (still_shut s l run.0 inside k shut))

pub runs_hold_one : RunsHoldOne
runs_hold_one x rules instances handle_limit capacity p ls t exist run =
    run_holds x instances exist _ (opening_housed rules instances handle_limit capacity) tt ls t run [] (λ i h. absurd (cc))
