-- Calls whose first threads wait for their starts have not started: along the primitives of a step.
use Rattle.machine_data.specs.declared.scenario.Version.{Version}
use Rattle.laws_states.proofs.Primitives.{add_call, add_group, add_set, add_thread, add_work, count_work, free_handle, free_thread_handle, give_handle, give_result, give_thread_handle, on_call, on_instance, on_thread, on_work, push_high, remove_call, remove_group, remove_set, remove_thread, remove_work, set_backpressure, set_cancel_delivered, set_cancelled, set_course, set_do_not_enter, set_do_not_suspend, set_end, set_event, set_exited, set_op_progress, set_join, set_task_event, set_phase, set_position, set_register, set_result, set_saved_callee, set_saved_own, set_script, set_stage, set_started, set_starting_published, set_subtask_handle, set_thread_handle, set_trapped, set_uninteresting, set_memory_cell, take_result, call_made, with_handle, with_thread_handle, work_queued, poll_pends, after_primitive, Allowed, along, ap, arith, Core, get-change, get-empty, get-insert, get-remove, nat_tests, Scene, Setting, State, Label, Step, step_walks, Thread, true, false, Turn, Walk, Primitive, Bool, ℕ, ◌≡◌, ◌⊎◌, ◌∙◌, by_number, ⊎_elim, fresh, Reached}
use Rattle.laws_order.specs.Events.{StartsUnstarted}
use Rattle.std.proofs.Common.{refl, inl, inr, sym}
use Rattle.laws_places.proofs.Laws.{first_waits, settled_turn}
use Rattle.laws_states.proofs.CallsSteps.{codes_at, plain, plain_scene}
use Rattle.laws_states.proofs.ReachLemmas.{reached_keeps}
use Rattle.laws_states.specs.Order.{InOrder, Numbered, OpeningInOrder}
use Rattle.machine_data.specs.Read.{was_started}
use Rattle.laws_places.proofs.OrderLemmas.{opening_in_order, step_in_order, waited}
use Rattle.machine_rules.specs.Chains.{Walked}
use Rattle.machine_rules.specs.Primitives.{SetStarted}
use Rattle.machine_rules.specs.Scripts.{ops_of}
unfoldable use Rattle.machine_data.specs.Write.{arrive, set_cancel_asked}

-- a call that has started had done so before the step, or its first thread runs next
abbrev Begun : Scene → Core → Type 0
Begun a s = (k : ℕ) → was_started k s ≡ true → (was_started k a.base ≡ true) ⊎ (a.next ≡ Turn.Run k)

begun_primitive : (a : Scene) → Numbered a.base → (w : Primitive) (s : Core) → Allowed a w s → Begun a s → Begun a (after_primitive w s)
unfolding arrive set_cancel_asked add_call add_group add_set add_thread add_work count_work free_handle free_thread_handle give_handle give_result give_thread_handle on_call on_instance on_thread on_work push_high remove_call remove_group remove_set remove_thread remove_work set_backpressure set_cancel_delivered set_cancelled set_course set_do_not_enter set_do_not_suspend set_end set_event set_exited set_op_progress set_join set_task_event set_phase set_position set_register set_result set_saved_callee set_saved_own set_script set_stage set_started set_starting_published set_subtask_handle set_thread_handle set_trapped set_uninteresting set_memory_cell take_result call_made with_handle with_thread_handle work_queued poll_pends
begun_primitive a numbered (SetStarted j) s (inl ok) q k h = by_number k j _
    (λ is. let own = numbered.threads ok.0 in let at = ok.1.1.0.1 in inr (grind (arith, nat_tests)))
    (λ other. q k (grind (arith, nat_tests, get-change, other)))
begun_primitive a numbered (SetStarted j) s (inr ok) q k h = by_number k j _ (λ is. inr (ok.1 ∙ ap (λ (n : ℕ). Turn.Run n) (sym is))) (λ other. q k (grind (arith, nat_tests, get-change, other)))
begun_primitive a numbered w s ok q k h = q k (grind (arith, nat_tests, get-change, get-insert, get-remove))

-- what is said of a core
abbrev pub Unstarted : Core → Type 0
Unstarted s = (k : ℕ) → first_waits k s ≡ true → was_started k s ≡ false

unstarted_step : (x : Setting) (s : State) (l : Label) (t : State) → InOrder x.component s → Step x s l t → Unstarted s.core → Unstarted t.core
unstarted_step x s l t h step q k waits = by (was_started k t.core) refl
  where
    w : Walked x s l t
    w = step_walks x s l t step

    a : Scene
    a = plain_scene x s l w.next

    begun : Begun a t.core
    begun = along (Begun a) (begun_primitive a (record { threads = λ n r at. let o = h.numbered.threads n r at in record { number = o.number; call = o.call; own = o.own; nameless = o.nameless }; calls = h.numbered.calls }))
        (λ k h. inl h) (plain {ops = ops_of x.component s.core} x s l w.next (λ (c : Scene). Walk c s.core t.core) w.walk)

    by : (b : Bool) → was_started k t.core ≡ b → b ≡ false
    by false is = refl
    by true is = absurd (⊎_elim
        (λ (before : was_started k s.core ≡ true). ⊎_elim (λ (waited_then : first_waits k s.core ≡ true). let no = q k waited_then in grind arith) (λ new. let made = h.numbered.calls k in grind arith) (waited x s l t h w (codes_at x s h.codes) k waits))
        (λ (next : w.next ≡ Turn.Run k). let runs = (step_in_order x s l t h step).in_place.runs k (w.turn ∙ ap (settled_turn t.core) next) in grind arith)
        (begun k is))

-- no thread is there at first
none_waits : (rules : Version) (instances handle_limit capacity k : ℕ) → first_waits k (fresh rules instances handle_limit capacity) ≡ true →
    was_started k (fresh rules instances handle_limit capacity) ≡ false
unfolding fresh
none_waits rules instances handle_limit capacity k waits = let e = get-empty {X = Thread} k in absurd (cc)

pub unstarted : (x : Setting) (s : State) → Reached x s → Unstarted s.core
unfolding OpeningInOrder
unstarted x s r = (reached_keeps r (λ (u : State). InOrder x.component u × Unstarted u.core)
    (λ u l v step q. (step_in_order x u l v q.0 step, unstarted_step x u l v q.0 step q.1))
    (opening_in_order x.component r.scripts r.version r.instances r.handle_limit r.capacity r.main, none_waits r.version r.instances r.handle_limit r.capacity)).1

pub starts_unstarted : StartsUnstarted
unfolding StartsUnstarted
starts_unstarted x s r k t at first waits = unstarted x s r k (grind arith)
