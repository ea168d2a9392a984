-- The laws of the ends of calls and works that hold by each step alone.
use Rattle.laws_states.proofs.Primitives.{Answers, arith, base_at, Bool, changes_end, end_for, EndsHandedAsTold, EndsWrittenOnce, EndPrimitives, event_of, false, get, HandsAtOnce, HandsOut, inl, inr, is_some, Label, NewEndsAreSaid, NewResultsAreSaid, NoEndIsCovered, None, ops_of, plain, plain_scene, Reached, reached_holds, reached_keeps, reached_step, refl, Setting, Some, State, Status, Step, step_walks, Subtask, TakesEvent, TakesResult, true, Turn, undelivered_end, Walked, WritesToo, written_by, WrittenEndsAreNew, ◌≡◌, ◌⊎◌}
use Rattle.laws_states.proofs.{CallEnds.reached_ends_told, OnceLemmas.Keeps, OnceLemmas.Over, OnceLemmas.counts_once, OnceLemmas.over_changes, OnceLemmas.over_stays, SaidEnds.hands_at, SaidEnds.said_plain, StepEnds.events_come, StepEnds.guest_covers, StepEnds.host_keeps, StepEnds.keeps_call, StepEnds.results_come, StepEnds.written_new, Works.WorksHold, Works.opening_works, Works.works_go}

pub new_ends_are_said : NewEndsAreSaid
unfolding NewEndsAreSaid
new_ends_are_said x s l t r step = events_come x s l t r.scripts (reached_holds r) (reached_ends_told r) step (step_walks x s l t step)

pub new_results_are_said : NewResultsAreSaid
new_results_are_said x s l t r step = results_come x s l t r.scripts (reached_holds r) (reached_ends_told r) step (step_walks x s l t step)

pub no_end_is_covered : NoEndIsCovered
unfolding NoEndIsCovered
no_end_is_covered x s l t r step k =
    false_of _ (guest_covers x s l t r.scripts (reached_holds r) (reached_ends_told r) step (step_walks x s l t step) k)
  where
    false_of : (b : Bool) → (b ≡ true → ⊥) → b ≡ false
    false_of b not = grind arith

pub written_ends_are_new : WrittenEndsAreNew
written_ends_are_new x s l t r step = written_new x s l t r.scripts (reached_holds r) (reached_ends_told r) step (step_walks x s l t step)

pub ends_handed_as_told : EndsHandedAsTold
unfolding EndsHandedAsTold
ends_handed_as_told x s l t step k e out =
    let q : Walked x s l t = step_walks x s l t step in
    let says = plain x s l q.next (λ a. EndPrimitives a t.core) q.ends.says in
    by q.next _ e refl (says.hands _ e (hands_at (ops_of x.component s.core) s.main s.core (base_at s.turn s.core).queues t.core l _ out))
  where
    by : (next : Turn) (sub : Subtask) (f : Status) → sub ≡ Subtask.Guest k → HandsOut (plain_scene x s l next) t.core sub f →
        ((undelivered_end (event_of (Subtask.Guest k) s.core) ≡ Some f) × (undelivered_end (event_of (Subtask.Guest k) t.core) ≡ None)) ⊎
        (((is_some (get s.core.results k) ≡ true) × ((f ≡ Status.Returned) × (get t.core.results k ≡ None))) ⊎
        (written_by x.component s.core l t.core ≡ Some (end_for f (Subtask.Guest k))))
    by next _ _ same (TakesEvent sub f had gone) = inl (rw same at had, rw same at gone)
    by next _ _ same (TakesResult j there gone) = inr (inl (let is : j ≡ k = cc in rw (← is) (there, (refl, gone))))
    by next _ _ same (WritesToo j f says why) = inr (inr (let is : j ≡ k = cc in rw (← is) (said_plain (ops_of x.component s.core) x s l next t.core j f says)))
    by next _ _ same (HandsAtOnce i ready is) = absurd (cc)
    by next _ _ same (Answers n i runner far gone) = absurd (cc)

reached_works : {x : Setting} {s : State} → Reached x s → WorksHold ⊥ s.core
reached_works {x = x} r = reached_keeps r (λ s. WorksHold ⊥ s.core)
    (λ s l t step h. (works_go x s l t (step_walks x s l t step) (λ no. absurd no) h).holds)
    (opening_works r.version r.instances r.handle_limit r.capacity)

keeps : (x : Setting) (s : State) (l : Label) (t : State) → Reached x s → Step x s l t → (sub : Subtask) → Keeps s.core t.core sub
keeps x s l t r step (Subtask.Guest k) =
    keeps_call x s l t r.scripts (reached_holds r) (reached_ends_told r) step (step_walks x s l t step) k
keeps x s l t r step (Subtask.Host i) = let w = step_walks x s l t step in let h = reached_works r in
    host_keeps x s l t w.next h (works_go x s l t w (λ no. absurd no) h) i

pub ends_written_once : EndsWrittenOnce
unfolding EndsWrittenOnce
ends_written_once x s ls t r run sub = counts_once x (Reached x) (λ s l t r step. reached_step s l t r step) (changes_end sub) (Over sub)
    (λ s l t r step. let q = keeps x s l t r step sub in (over_changes q, over_stays q)) s r ls t run
