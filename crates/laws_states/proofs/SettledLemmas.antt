-- Where no host of a component is open and main is a script, no step makes an open work, and no poll asks one.
use Rattle.laws_states.proofs.Primitives.{[], add_call, add_group, add_set, add_thread, add_work, AddGroup, after_primitive, Allowed, along, ap, arith, Asked, Bool, call_made, component_of, Core, count_work, Course, course_of, EndWork, false, FinishWork, free_handle, free_thread_handle, FuturesStep, get-change, get-insert, get-remove, give_handle, give_result, give_thread_handle, goes_open, HasAnswered, HasOpen, heard, host_at, HostDef, HostPoll, is_aborted, is_asked, IsKnown, IsSettled, Label, List, Main, nat_tests, None, NoneIsAsked, NoneOpen, on_call, on_instance, on_thread, on_work, OpenWorksAnswer, ops_of, Pend, Phase, phase_of, Poll, poll_of, poll_pends, Polled, polled_again, polled_course, polled_in, push_high, QueueWork, refl, remove_call, remove_group, remove_set, remove_thread, remove_work, Run, RunsStaySettled, SameMain, Scene, scene_as, Scripted, set_backpressure, set_cancel_delivered, set_cancelled, set_course, set_do_not_enter, set_do_not_suspend, set_end, set_event, set_exited, set_op_progress, set_join, set_task_event, set_phase, set_position, set_register, set_result, set_saved_callee, set_saved_own, set_script, set_stage, set_started, set_starting_published, set_subtask_handle, set_thread_handle, set_trapped, set_uninteresting, set_memory_cell, Setting, SettledStays, Some, State, Step, step_walks, suc, sym, take_result, true, Turn, TurnStep, Unscripted, with_handle, with_thread_handle, Primitive, work_queued, zero, ⊎_elim, ◌∙◌, ◌∷◌, ◌≡◌, ◌⊎◌, Component, Option, subst, ℕ}
use Rattle.machine_data.specs.Read.{is_open}
unfoldable use Rattle.machine_data.specs.Write.{arrive, set_cancel_asked}

no_truth : (b : Bool) → (b ≡ true → ⊥) → b ≡ false
no_truth true never = absurd (never refl)
no_truth false never = refl

-- ---- Primitives

-- the course after a primitive is that before, or an end, or that of a work that the primitive makes or lets pend
module _ (a : Scene) (settled : IsSettled (component_of a) a.main) where
  none_may : (b : Bool) → (b ≡ true → HasOpen (component_of a) ⊎ (a.main ≡ Unscripted)) → b ≡ false
  none_may b may = no_truth b (λ e. ⊎_elim settled.hosts settled.main (may e))

  open_primitive : (w : Primitive) (s : Core) → Allowed a w s → NoneOpen s → NoneOpen (after_primitive w s)
  unfolding arrive set_cancel_asked add_call add_group add_set add_thread add_work call_made count_work free_handle free_thread_handle give_handle give_result give_thread_handle on_call on_instance on_thread on_work poll_pends push_high remove_call remove_group remove_set remove_thread remove_work set_backpressure set_cancel_delivered set_cancelled set_course set_do_not_enter set_do_not_suspend set_end set_event set_exited set_op_progress set_join set_task_event set_phase set_position set_register set_result set_saved_callee set_saved_own set_script set_stage set_started set_starting_published set_subtask_handle set_thread_handle set_trapped set_uninteresting set_memory_cell take_result with_handle with_thread_handle work_queued
  open_primitive AddGroup s ok q i = q i
  open_primitive (QueueWork f host group) s ok q i = let h = q i in let no = none_may (is_open host) ok.1.1 in grind (arith, nat_tests, get-insert, h, no)
  open_primitive (Pend j host) s ok q i = let h = q i in let g = q j in let no = no_truth (is_open host) (λ e. let is = ok.1 e in let never : ◌≡◌ {A = Bool} true false = sym is ∙ g in cc) in grind (arith, nat_tests, get-change, h, no)
  open_primitive (EndWork j c) s ok q i = let h = q i in let over = ok.0.1.1.0 in grind (arith, nat_tests, get-change, h, over)
  open_primitive (FinishWork j c) s ok q i = let h = q i in let over = ok.0.1.1.0 in grind (arith, nat_tests, get-change, h, over)
  open_primitive w s ok q i = let h = q i in first_of (assumption, grind (arith, nat_tests, get-change, get-insert, get-remove, h))

-- ---- Steps and runs

still_scripted : (m n : Main) (t : Core) → SameMain m t n → (m ≡ Unscripted → ⊥) → n ≡ Unscripted → ⊥
still_scripted (Scripted p) Unscripted t same script is = same
still_scripted Unscripted Unscripted t same script is = script refl
still_scripted m (Scripted q) t same script is = absurd (cc)

pub settled_stays : SettledStays
unfolding SettledStays
settled_stays ops x s l t settled w none = (
  along NoneOpen (λ v u ok q. open_primitive (scene_as ops x s l w.next) settled v u ok q) none w.walk,
  record { hosts = settled.hosts; main = still_scripted s.main t.main t.core w.main settled.main },
)

runs_settled : (x : Setting) (s : State) (ls : List Label) (t : State) → IsSettled x.component s.main → Run x s ls t → NoneOpen s.core → NoneOpen t.core × IsSettled x.component t.main
unfolding SettledStays
runs_settled x s [] t settled run none = rw run (none, settled)
runs_settled x s (l ∷ ls) t settled run none = let q = settled_stays (ops_of x.component s.core) x s l run.0 settled (step_walks x s l run.0 run.1.0) none in runs_settled x run.0 ls t q.1 run.1.1 q.0

pub runs_stay_settled : RunsStaySettled
unfolding RunsStaySettled
runs_stay_settled x s ls t settled run none = runs_settled x s ls t settled run none

-- ---- Polls

pub known_open : (c : Component) → (HasOpen c → ⊥) → (h : ℕ) → is_open (host_at c h) ≡ false
known_open c settled h = no_truth (is_open (host_at c h)) (λ e. settled (h, e))

known_host : (host : HostDef) → is_open host ≡ false → IsKnown host
known_host (HostDef.Settled polls value) e = (polls, (value, refl))
known_host HostDef.Open e = absurd (cc)

known_again : (host : HostDef) → is_open host ≡ false → is_asked (polled_again host) ≡ false
known_again (HostDef.Settled None value) e = refl
known_again (HostDef.Settled (Some zero) None) e = refl
known_again (HostDef.Settled (Some zero) (Some v)) e = refl
known_again (HostDef.Settled (Some (suc polls)) value) e = refl
known_again HostDef.Open e = absurd (cc)

known_course : (c : Course) → goes_open c ≡ false → is_asked (polled_course c) ≡ false
known_course (Course.Continues host) e = known_again host e
known_course (Course.Value v) e = refl
known_course Course.NoValue e = refl

known_in : (p : Phase) (c : Course) → goes_open c ≡ false → is_asked (polled_in p c) ≡ false
known_in Phase.AbortRequested c e = refl
known_in Phase.Running c e = known_course c e
known_in Phase.Complete c e = known_course c e

pub none_is_asked : NoneIsAsked
unfolding NoneIsAsked poll_of
none_is_asked c s settled none = (
  λ h. known_host (host_at c h) (known_open c settled h),
  λ i. known_in (phase_of i s) (course_of i s) (none i),
)

-- ---- Open works

open_course : (c : Course) → goes_open c ≡ true → polled_course c ≡ Asked heard
open_course (Course.Continues (HostDef.Settled polls value)) e = absurd (cc)
open_course (Course.Continues HostDef.Open) e = refl
open_course (Course.Value v) e = absurd (cc)
open_course Course.NoValue e = absurd (cc)

open_poll : (p : Phase) (c : Course) → is_aborted p ≡ false → goes_open c ≡ true → polled_in p c ≡ Asked heard
open_poll Phase.AbortRequested c on e = absurd (cc)
open_poll Phase.Running c on e = open_course c e
open_poll Phase.Complete c on e = open_course c e

heard_polled : (s : State) (i : ℕ) (answer : HostPoll) (l : Label) (t : State) → HasAnswered s i answer l t → Polled s i (heard answer) l t
heard_polled s i HostPoll.Pending l t h = h
heard_polled s i (HostPoll.Value v) l t h = h
heard_polled s i HostPoll.Failed l t h = h

polled_heard : (s : State) (i : ℕ) (answer : HostPoll) (l : Label) (t : State) → Polled s i (heard answer) l t → HasAnswered s i answer l t
polled_heard s i HostPoll.Pending l t h = h
polled_heard s i (HostPoll.Value v) l t h = h
polled_heard s i HostPoll.Failed l t h = h

pub open_works_answer : OpenWorksAnswer
unfolding OpenWorksAnswer Step poll_of
open_works_answer x s n i at next on is l t = (λ answer h. made answer h, λ h. came h)
  where
    poll : poll_of i s.core ≡ Asked heard
    poll = open_poll (phase_of i s.core) (course_of i s.core) on is

    made : (answer : HostPoll) → HasAnswered s i answer l t → TurnStep x s s.turn l t
    made answer h =
        let polled : Polled s i (Asked heard) l t = (answer, heard_polled s i answer l t h) in
        let step : FuturesStep s (Some i) l t = subst (λ (p : Poll). Polled s i p l t) (sym poll) polled in
        let turns : TurnStep x s (Turn.Futures n) l t = subst (λ (o : Option ℕ). FuturesStep s o l t) (sym next) step in
        subst (λ (p : Turn). TurnStep x s p l t) (sym at) turns

    came : TurnStep x s s.turn l t → (answer : HostPoll) × HasAnswered s i answer l t
    came h =
        let turns : TurnStep x s (Turn.Futures n) l t = subst (λ (p : Turn). TurnStep x s p l t) at h in
        let step : FuturesStep s (Some i) l t = subst (λ (o : Option ℕ). FuturesStep s o l t) next turns in
        let polled : Polled s i (Asked heard) l t = subst (λ (p : Poll). Polled s i p l t) poll step in
        (polled.0, polled_heard s i polled.0 l t polled.1)
