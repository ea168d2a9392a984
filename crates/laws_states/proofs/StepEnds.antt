-- What a step owes of the end of a subtask: of a call, and of a host work.
use Rattle.laws_states.proofs.Primitives.{after_primitive, Allowed, along, Answers, ap, arith, Call, call_came, CallAfter, CallEnd, calls_begin, CallsHold, codes_at, codes_plain, CodesInCallbacks, Core, course_of, course_value, covers_end, Doing, doing, doing_of, end_code, end_for, EndsByExit, EndsCall, EndsOwn, EndsSubtask, EndPrimitives, event_of, exits_unended, false, get, goal_of, HandsAtOnce, HandsOut, has_end, has_ended, host_status, op_progress_of, OpProgress, inl, inr, is_async_work, is_direct, is_over, is_some, is_stage_ended, is_sync_work, IsNamed, IsPolled, IsReadyAtOnce, IsRunner, Label, LaterBy, le_trans, Moment, nat_tests, never_fewer, None, ops_of, Option, option_and_then, option_map, plain, plain_scene, polled_is_live, refl, Rises, SaysEnd, Scene, scene_of, Setting, Some, stage_of, State, Status, status_of_end, Step, step_goes, Subtask, sym, TakesEvent, TakesResult, task_of, too_high, true, Turn, undelivered_end, Walked, Primitive, work_caller_of, Writes, WritesAtOnce, WritesCall, WritesNever, WritesPolled, WritesToo, written, ℕ, ⊎_elim, ◌∙◌, ◌≡◌, ◌≤◌, ◌⊎◌}
use Rattle.laws_states.proofs.{CallEnds.EndsGo, CallEnds.EndsTold, CallEnds.IsOfEnd, CallEnds.ends_go, CallEnds.is_withdrawn, CallEnds.recorded, CallEnds.tells_there, OnceLemmas.Due, OnceLemmas.EndStep, OnceLemmas.Keeps, OnceLemmas.Over, OnceLemmas.covers_none, OnceLemmas.is_over_code, SaidEnds.hands_at, SaidEnds.said_at, SaidEnds.said_plain, SaidEnds.written_at, Works.Lasts, Works.WorksGo, Works.WorksHold, Works.doing_or, Works.doing_there, Works.due_in, Works.number_of, Works.stage_ended}

-- the calls that come to an end are there: that of the running thread, and one that a handle names
pub record CallsFound (a : Scene) : Type 0 where
  pub own : (n : ℕ) → IsRunner a n → is_some (get a.base.calls (task_of n a.base)) ≡ true
  pub named : (k : ℕ) → IsNamed a (Subtask.Guest k) → is_some (get a.base.calls k) ≡ true

-- ---- Ends

call_code : (k : ℕ) (s : Core) → is_over_code (end_code (Subtask.Guest k) s) ≡ is_over k s
call_code k s = grind (arith, nat_tests)

work_code : (i : ℕ) (s : Core) → is_over_code (end_code (Subtask.Host i) s) ≡ has_end (course_of i s)
work_code i s = grind (arith, nat_tests)

-- on the way too, of a call that was made before the step
pub over_primitive : (a : Scene) (k : ℕ) → k ≤ a.base.made.threads → (w : Primitive) (s : Core) → Allowed a w s → is_over k s ≡ true →
    is_over k (after_primitive w s) ≡ true
over_primitive a k below w s ok over = let i : CallAfter a w s k = call_came w s ok k in grind arith

no_withdrawal : (y : CallEnd) → status_of_end y ≡ Status.StartCancelled → is_withdrawn y ≡ false → {A : Type 0} → A
no_withdrawal y g f = absurd (grind arith)

one_end : (o p : Option Call) (y z : Status) → LaterBy Rises o p → IsOfEnd y (option_and_then (λ (c : Call). c.«end») o) →
    IsOfEnd z (option_and_then (λ (c : Call). c.«end») p) → y ≡ z
one_end o p y z later u v = grind arith

-- ---- Works

event_there : (i : ℕ) (s : Core) (e : Status) → undelivered_end (event_of (Subtask.Host i) s) ≡ Some e →
    (v : Doing) × ((doing_of i s ≡ Some v) × (undelivered_end v.event ≡ Some e))
event_there i s e h = let v = doing_there i s (grind arith) in let at = v.1 in (v.0, (at, grind arith))

due_status : (i : ℕ) (e : Status) (s : Core) → due_in (doing_of i s) ≡ Some e → host_status (course_value (course_of i s)) ≡ e
due_status i e s due = grind arith

value_due : (o : Option Doing) (v : Doing) → o ≡ Some v → is_sync_work v.caller ≡ true → has_end v.course ≡ true →
    is_some (course_value v.course) ≡ true → due_in o ≡ Some Status.Returned
value_due o v at sync ends value = grind arith

-- an end stays
same_course : (o p : Option Doing) → LaterBy Lasts o p → (v u : Doing) → o ≡ Some v → p ≡ Some u →
    has_end v.course ≡ true → u.course ≡ v.course
same_course o p later v u at is over = grind arith

-- what has ended, and had its end told, isn't due any more
none_due : (o p : Option Doing) → LaterBy Lasts o p → (v : Doing) → o ≡ Some v → is_stage_ended v.stage ≡ true →
    is_async_work v.caller ≡ true → (e : Status) → undelivered_end (option_and_then (λ (u : Doing). u.event) p) ≡ None → due_in p ≡ Some e → ⊥
none_due o p later v at ended async e gone due = grind arith

-- who goes on after its sync call of a host finds the work ended
abbrev pub Answered : Scene → Type 0
Answered a = (n i : ℕ) → IsRunner a n → op_progress_of n a.base ≡ OpProgress.Calls (Subtask.Host i) →
    (is_sync_work (work_caller_of i a.base) ≡ true) × (is_stage_ended (stage_of i a.base) ≡ true)

pub host_keeps : {S : Type 0} (x : Setting) (s : State) (l : Label) (t : State) (next : Turn) → WorksHold S s.core →
    WorksGo S (scene_of x s l next) t.core → (i : ℕ) → Keeps s.core t.core (Subtask.Host i)
host_keeps {S = S} x s l t next h go i = let q = plain x s l next (λ b. WorksGo S b t.core) go in record {
  made = λ there. let v = doing_there i s.core (grind arith) in number_of h i v.0 v.1;
  counted = λ below. le_trans below q.counted;
  same = λ below over. let r = q.was i below in grind (arith, nat_tests);
}

-- ---- A step

module _ (x : Setting) (s : State) (l : Label) (t : State) (codes : CodesInCallbacks x.component) (h : CallsHold x.component s.core)
    (told : EndsTold s.core) (step : Step x s l t) (w : Walked x s l t) where
  abbrev a : Scene
  a = plain_scene x s l w.next

  abbrev m : Moment
  m = record { before = s; label = l; after = t }

  ends : EndsGo a t.core
  ends = plain x s l w.next (λ b. EndsGo b t.core) (ends_go (codes_at x s codes) h told w).1

  primitives : EndPrimitives a t.core
  primitives = plain x s l w.next (λ b. EndPrimitives b t.core) w.ends.says

  pub keeps_call : (k : ℕ) → Keeps s.core t.core (Subtask.Guest k)
  keeps_call k = record {
    made = λ there. grind (arith, h.numbered.calls k);
    counted = λ below. le_trans below (never_fewer x s l t step).threads;
    same = λ below over. let r = (step_goes x s l t codes h step).1 k below in grind (arith, nat_tests);
  }

  abbrev Written : Subtask → Status → Type 0
  Written sub e = written x.component m ≡ Some (end_for e sub)

  said : (k : ℕ) (e : Status) → SaysEnd a k e → Written (Subtask.Guest k) e
  said = said_plain (ops_of x.component s.core) x s l w.next t.core

  writes : (sub : Subtask) (e : Status) → Written sub e → Writes a t.core sub
  writes sub e is = primitives.writes sub e (written_at (ops_of x.component s.core) s.core a.base.queues t.core l _ is)

  abbrev event_at : ℕ → Core → Option Status
  event_at k c = undelivered_end (event_of (Subtask.Guest k) c)

  call_number : (k : ℕ) → is_some (get s.core.calls k) ≡ true → k ≤ s.core.made.threads
  call_number k there = grind (arith, h.numbered.calls k)

  ends_open : (k : ℕ) → EndsCall a k → has_ended k s.core ≡ false
  ends_open k (EndsOwn n runner is unended) = unended
  ends_open k (EndsSubtask named unended) = unended
  ends_open k (EndsByExit (n, (runner, (is, (first, how))))) =
      let base = plain {ops = ops_of x.component s.core} x s l w.next (λ b. CallsHold x.component b.base) (calls_begin {ops = ops_of x.component s.core} x s l w.next h).0 in
      let u = λ (c : Call). exits_unended a (codes_plain l w.next (codes_at x s codes)) base n k c is first how in grind (arith, u)

  pub written_new : (k : ℕ) (e : Status) → Written (Subtask.Guest k) e → has_ended k s.core ≡ false
  written_new k e is = by _ refl (writes _ e is)
    where
      by : (sub : Subtask) → sub ≡ Subtask.Guest k → Writes a t.core sub → has_ended k s.core ≡ false
      by _ same (WritesCall j u end over walk) = let is : k ≡ j = cc in rw is (ends_open j end)
      by _ same (WritesNever sub e) = let r = recorded s.core told k Status.StartCancelled (rw same at e) in
          no_withdrawal r.ends r.status r.ran
      by _ same w = absurd (grind arith)

  pub guest_covers : (k : ℕ) → covers_end (Subtask.Guest k) m ≡ true → ⊥
  guest_covers k = covers_none _ _ (λ y z e f. let below = call_number k (grind arith) in
      one_end (get s.core.calls k) (get t.core.calls k) y z ((step_goes x s l t codes h step).1 k below) (recorded s.core told k y e)
      (recorded t.core ends.told k z f))

  -- ---- What a call has to hand out

  pub events_come : (k : ℕ) (e : Status) → event_at k t.core ≡ Some e → (event_at k s.core ≡ Some e) ⊎ Written (Subtask.Guest k) e
  events_come k e tells = let r = tells_there k e t.core tells in
      ⊎_elim (λ b. inl b) (λ now. inr (said k e now)) (ends.events k e r.0 r.1.0 r.1.1)

  pub results_come : (k : ℕ) → is_some (get t.core.results k) ≡ true →
      (is_some (get s.core.results k) ≡ true) ⊎ Written (Subtask.Guest k) Status.Returned
  results_come k there = ⊎_elim (λ b. inl b) (λ now. inr (said k Status.Returned now.0)) (ends.results k there)

  guest_comes : (k : ℕ) (e : Status) → Due (Subtask.Guest k) e t.core → Due (Subtask.Guest k) e s.core ⊎ Written (Subtask.Guest k) e
  guest_comes k e (inl tells) = ⊎_elim (λ b. inl (inl b)) (λ now. inr now) (events_come k e tells)
  guest_comes k e (inr (is, there)) = ⊎_elim (λ b. inl (inr (is, b))) (λ now. inr (rw is now)) (results_come k there)

  -- a call that tells a thread of its end has no result for main
  no_result : (k : ℕ) (e : Status) → event_at k s.core ≡ Some e → is_some (get s.core.results k) ≡ true → ⊥
  no_result k e tells there =
      let r = tells_there k e s.core tells in let g = told.goals k r.0 r.1.0 in
      let v = (told.events k e r.0 r.1.0 r.1.1).0 in let main = (told.results k there).1 r.0 r.1.0 in grind arith

  -- the end of a direct call isn't told, and a result of it for main was there before
  direct_untold : (k : ℕ) → is_direct (goal_of k s.core) ≡ true → (e : Status) → Due (Subtask.Guest k) e t.core →
      is_some (get s.core.results k) ≡ true
  direct_untold k direct e (inl tells) =
      let r = tells_there k e t.core tells in let v = (ends.told.events k e r.0 r.1.0 r.1.1).0 in
      let g = ends.same k r.0 r.1.0 (call_number k (grind arith)) in absurd (grind arith)
  direct_untold k direct e (inr (is, there)) =
      ⊎_elim (λ b. b) (λ now. let g = now.1 (call_number k (grind arith)) in absurd (grind arith)) (ends.results k there)

  module _ (works : WorksHold (Unit {0}) s.core) (go : WorksGo (Unit {0}) (scene_of x s l w.next) t.core) where
    v : WorksGo (Unit {0}) a t.core
    v = plain x s l w.next (λ b. WorksGo (Unit {0}) b t.core) go

    -- a host that was ready at once is gone
    ready_none : (i : ℕ) → IsReadyAtOnce a t.core i → doing_of i t.core ≡ None
    ready_none i (is, (made, same)) = ⊎_elim (λ none. let same_works = same in grind arith)
        (λ u. absurd (too_high is (number_of works i u.0 u.1))) (doing_or i s.core)

    polled_result : (j : ℕ) → IsPolled a j a.base → has_end (course_of j t.core) ≡ true →
        (Over (Subtask.Host j) s.core → ⊥) × Over (Subtask.Host j) t.core
    polled_result j polled ended =
        let live = polled_is_live polled.0 a.base j polled.1.1 in let u = doing_there j s.core (grind arith) in let at = u.1 in
        let o = works.works j u.0 at in let late = o.late in (
          λ over. let has = work_code j s.core in let e = over.1 in grind arith,
          (le_trans (number_of works j u.0 at) v.counted, work_code j t.core ∙ ended),
        )

    module _ (found : CallsFound (scene_of x s l w.next)) (over : (sub : Subtask) (e : Status) → Due sub e s.core → Over sub s.core)
        (answered : Answered (scene_of x s l w.next)) where
      -- the call that ends is there
      there : CallsFound a → (k : ℕ) → EndsCall a k → is_some (get s.core.calls k) ≡ true
      there f k (EndsOwn n runner is unended) = rw is (f.own n runner)
      there f k (EndsByExit (n, (runner, (is, how)))) = rw is (f.own n runner)
      there f k (EndsSubtask named unended) = f.named k named

      says : (sub : Subtask) → Writes a t.core sub → (Over sub s.core → ⊥) × Over sub t.core
      says _ (WritesCall k u end over walk) =
          let unended = ends_open k end in let r = there (plain {ops = ops_of x.component s.core} x s l w.next CallsFound found) k end in let below = call_number k r in (
            λ was. let o = sym (call_code k s.core) ∙ was.1 in grind arith,
            ((keeps_call k).counted below, call_code k t.core ∙ along (λ c. is_over k c ≡ true) (over_primitive a k below) over walk),
          )
      says _ (WritesPolled j shows polled ended frees) = polled_result j polled ended
      says _ (WritesAtOnce j ready) = let none = ready_none j ready in
          (λ over. too_high ready.0 over.0, (omega (arith, ready.1.0), grind arith))
      says _ (WritesNever (Subtask.Guest k) e) = let r = recorded s.core told k Status.StartCancelled e in
          no_withdrawal r.ends r.status r.ran
      says _ (WritesNever (Subtask.Host i) e) = let r = event_there i s.core Status.StartCancelled e in
          let o = ((works.works i r.0 r.1.0).told Status.StartCancelled r.1.1).1.1 in absurd (grind arith)

      -- where the subtask had an end to hand out, none is written
      unwritten : (sub : Subtask) (e f : Status) → Due sub e s.core → Written sub f → ⊥
      unwritten sub e f due is = (says sub (writes sub f is)).0 (over sub e due)

      abbrev Silent : Subtask → Type 0
      Silent sub = (f : Status) → Due sub f t.core → ⊥

      event_out : (k : ℕ) (e : Status) → event_at k s.core ≡ Some e → event_at k t.core ≡ None → Silent (Subtask.Guest k)
      event_out k e had gone f (inl tells) = absurd (cc)
      event_out k e had gone f (inr (is, there)) =
          ⊎_elim (no_result k e had) (unwritten (Subtask.Guest k) e Status.Returned (inl had)) (results_come k there)

      result_out : (k : ℕ) → is_some (get s.core.results k) ≡ true → get t.core.results k ≡ None → Silent (Subtask.Guest k)
      result_out k had gone f (inr (is, there)) = absurd (cc)
      result_out k had gone f (inl tells) =
          ⊎_elim (λ old. no_result k f old had) (unwritten (Subtask.Guest k) Status.Returned f (inr (refl, had))) (events_come k f tells)

      -- the call writes the end itself
      own_out : (k : ℕ) (e : Status) → Written (Subtask.Guest k) e →
          (is_direct (goal_of k s.core) ≡ true) ⊎ (e ≡ Status.StartCancelled) → Silent (Subtask.Guest k)
      own_out k e w (inl direct) f due =
          unwritten (Subtask.Guest k) Status.Returned e (inr (refl, direct_untold k direct f due)) w
      own_out k e w (inr is) f due =
          ⊎_elim (λ old. unwritten (Subtask.Guest k) f e old w) (λ said. told_end (grind arith) due) (guest_comes k f due)
        where
          told_end : f ≡ Status.StartCancelled → Due (Subtask.Guest k) f t.core → ⊥
          told_end is (inl tells) = let r = recorded t.core ends.told k f tells in no_withdrawal r.ends (r.status ∙ is) r.ran
          told_end is (inr (returned, there)) = absurd (cc)

      -- what has ended, and had its end told, isn't due any more
      host_out : (i : ℕ) (e : Status) → undelivered_end (event_of (Subtask.Host i) s.core) ≡ Some e →
          undelivered_end (event_of (Subtask.Host i) t.core) ≡ None → Due (Subtask.Host i) e s.core × Silent (Subtask.Host i)
      host_out i e had gone =
          let b = event_there i s.core e had in let at = b.1.0 in let tells = b.1.1 in let ends = (works.works i b.0 at).told e tells in
          (grind arith, λ f due. none_due _ _ (v.was i (number_of works i b.0 at)) b.0 at ends.0 ends.1.0 f (grind arith) due)

      none_out : (i : ℕ) → doing_of i t.core ≡ None → Silent (Subtask.Host i)
      none_out i none f due = absurd (cc)

      hands : (sub : Subtask) (e : Status) → HandsOut a t.core sub e → (Due sub e s.core ⊎ Written sub e) × Silent sub
      hands _ _ (TakesEvent (Subtask.Guest k) e had gone) = (inl (inl had), event_out k e had gone)
      hands _ _ (TakesEvent (Subtask.Host i) e had gone) = let o = host_out i e had gone in (inl o.0, o.1)
      hands _ _ (TakesResult k there gone) = (inl (inr (refl, there)), result_out k there gone)
      hands _ _ (WritesToo k e w why) = (inr (said k e w), own_out k e (said k e w) why)
      hands _ _ (HandsAtOnce i ready w) = (inr (said_at (ops_of x.component s.core) s.core a.base.queues t.core l _ w), none_out i (ready_none i ready))
      hands _ _ (Answers n i runner far gone) =
          let r = plain {ops = ops_of x.component s.core} x s l w.next Answered answered n i runner far in let v = doing_there i s.core (grind arith) in let at = v.1 in
          let o = works.works i v.0 at in let sync : is_sync_work v.0.caller ≡ true = grind arith in
          let ends : has_end v.0.course ≡ true = o.late ∙ stage_ended v.0.stage (grind arith) in
          (inl (value_due _ v.0 at sync ends ((o.sync tt sync).1 ends)), none_out i (ap (option_map doing) gone))

      keeps : (sub : Subtask) → Keeps s.core t.core sub
      keeps (Subtask.Guest k) = keeps_call k
      keeps (Subtask.Host i) = host_keeps x s l t w.next works go i

      covers : (sub : Subtask) → covers_end sub m ≡ true → ⊥
      covers (Subtask.Guest k) = guest_covers k
      covers (Subtask.Host i) = covers_none _ _ (λ y z e f.
          let b = event_there i s.core y e in let u = event_there i t.core z f in let o = works.works i b.0 b.1.0 in
          let told = o.told y b.1.1 in let later = v.was i (number_of works i b.0 b.1.0) in
          let same = same_course _ _ later b.0 u.0 b.1.0 u.1.0 (o.late ∙ stage_ended b.0.stage told.0) in
          let was = told.1.1 in let now = ((v.holds.works i u.0 u.1.0).told z u.1.1).1.1 in cc)

      comes : (sub : Subtask) (e : Status) → Due sub e t.core → Due sub e s.core ⊎ Written sub e
      comes (Subtask.Guest k) e due = guest_comes k e due
      comes (Subtask.Host i) e due = ⊎_elim (λ b. inl b)
          (λ shows. inr (rw shows (ap (λ f. Some (end_for f (Subtask.Host i))) (due_status i e t.core due)))) (v.due i e due)

      pub step_ends : (sub : Subtask) → EndStep x.component m sub
      step_ends sub = record {
        keeps = keeps sub;
        covers = covers sub;
        over = over sub;
        says = λ e is. says sub (writes sub e is);
        comes = comes sub;
        hands = λ e out. hands sub e (primitives.hands sub e (hands_at (ops_of x.component s.core) s.main s.core a.base.queues t.core l _ out));
      }
