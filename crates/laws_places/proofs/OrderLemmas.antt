-- A state in order: each opening state is, and each step leads from one to one.
use Rattle.machine_data.specs.declared.scenario.Version.{Version}
use Rattle.laws_places.proofs.Laws.{[], after_primitive, AllFit, Allowed, along, ap, apart_after, arith, at_place, Awake, base_at, Bool, ByHandle, ByOp, Call, callee_of, calls_begin, calls_told_primitive, CallsAwaited, CallsGo, CallsHold, CallsInside, CallsNamed, CallsThere, CallsTold, can_come, cancelled_call, cancels_primitive, CancelsGo, CancelsWatched, Codes, codes_at, codes_plain, CodesAt, Component, Core, did, directs_primitive, DirectsOnTop, DirectsRun, Doer, empty, EndPrimitives, event_of, false, few_primitive, first_waits, fits_primitive, FitsAs, fresh, Gains, get, get-empty, has_waiter, HasNotRun, HasSubtask, held_primitive, Homed, homed_primitive, host_event_primitive, host_taken, HostsAwaited, housed_primitive, op_progress_of, OpProgress, inl, InOrder, InOrderAs, InOrderFor, InPlace, inr, Inside, inside_primitive, InsideThere, instance_of, is_awaited, is_fresh, is_open, is_ready_member, is_some, is_sync_call, is_there, IsRunner, joins_primitive, JoinsNamed, KnownCancels, KnownHome, Label, Layered, layered_primitive, le_refl, le_trans, length, List, made_works_primitive, MakesFew, member_same, names_go_primitive, NamesGo, NamesHold, next_thread, None, NoneAdmitted, Numbered, of_base, OfBase, Op, op_at_place, op_of, op_same, op_there, opening, opening_holds, opening_joins, opening_named, opening_names_known, opening_sets, opening_works_known, opening_works_named, OpeningInOrder, ops_of, option_map, option_map_or, own_script, Place, place_of, Placed, plain, plain_as, plain_scene, queued_handle, queued_watched, ready_goes_primitive, ReadyGoes, refl, Run, runner_there, RunnerHoused, said_plain, SameOp, Scene, scene_as, script_in, sets_named_primitive, SetsNamed, Setting, Some, starts_primitive, StartsAwaited, StartsFirst, StartsGo, StartsThere, State, Status, Steady, steady, Step, step_over, step_walks, StepAs, StepInOrder, StepsMakeFew, Strands, subst, Subtask, subtask_under_way, sym, task_of, telling_primitive, TellingGoes, Thread, Traced, traced_primitive, true, Turn, TurnStep, TurnStepAs, Unbegun, unbegun_primitive, undelivered_end, Waited, WaitsAtHome, WaitsPlaced, WakesCounted, Walk, Walked, walked_goes, WalkedAs, was_started, WasCall, watched_primitive, Primitive, primitive_goes, Work, works_go, works_hold, works_named_primitive, works_said_primitive, works_told, WorksKnown, WorksNamed, WorksQueued, WorksSaid, WorksTold, writes_over, written_at, ℕ, ⊎_elim, ◌∙◌, ◌∷◌, ◌≡◌, ◌≤◌, ◌⊎◌}
use Rattle.laws_places.proofs.{AloneLemmas.step_alone, BlockedLemmas.step_blocked, CallersSteps.callers_kept, CallersSteps.feet_kept, CallersSteps.free_kept, CallsBack.back_apart, CountedSteps.step_counted, Directs.directs_on_top, HostsAwaited.Asked, HostsAwaited.step_asked, HostsAwaited.step_works, InsideLemmas.step_inside, PlaceLaw.Arrives, PlaceSteps.Withdrawable, PlaceSteps.settled_run, PlaceSteps.step_arrives, PlaceSteps.step_by, WaitsKept.AtWaits, WaitsKept.far_waits, WaitsKept.step_waits, WaitsKept.wait_op, WorksQueued.stands_of}
use Rattle.laws_places.specs.KeptPlaces.{ReachedInOrder, ReachedInPlace, StepsKeepPlaces}

-- ---- Starts

-- where a call's start hasn't run, its first thread waits for it, or is gone
call_awaited : (s : Core) → Numbered s → CallsThere s → StartsAwaited s → (k : ℕ) → WasCall s k → was_started k s ≡ false →
    is_fresh (place_of k s) ≡ true
call_awaited s numbered there starts k first unstarted =
    let awaited : (c : Call) → get s.calls k ≡ Some c → c.started ≡ false → is_fresh (place_of k s) ≡ true = starts k in
    grind (arith, numbered.threads k, there k k)

-- who waits for its start after a step did so before it
was_awaited : (s t : Core) → Placed s → Steady s t → StartsAwaited s → (k : ℕ) (c : Call) → get t.calls k ≡ Some c → c.started ≡ false →
    is_fresh (place_of k s) ≡ true
was_awaited s t placed steady starts k c at e =
    let awaited : (c : Call) → get s.calls k ≡ Some c → c.started ≡ false → is_fresh (place_of k s) ≡ true = starts k in
    let given : is_there k s ≡ true → k ≤ s.made.threads = (placed k).number in
    grind (arith, steady.calls k)

-- ---- Who is there

-- a call that is there before and after is of one export, and a thread of one instance
pub same_callee : (s t : Core) → Steady s t → Numbered s → (k : ℕ) → is_some (get s.calls k) ≡ true → is_some (get t.calls k) ≡ true →
    callee_of k t ≡ callee_of k s
same_callee s t steady numbered k was now = grind (arith, steady.calls k, numbered.calls k)

same_instance : (s t : Core) → Steady s t → Numbered s → CallsThere s → CallsThere t → (n : ℕ) → is_there n s ≡ true → is_there n t ≡ true →
    instance_of n t ≡ instance_of n s
same_instance s t steady numbered before after n was now =
    let same = same_callee s t steady numbered (task_of n s) in
    grind (arith, steady.threads n, numbered.threads n, before n (task_of n s), after n (task_of n t))

pub steps_make_few : StepsMakeFew
steps_make_few x s l t step =
    let w = step_walks x s l t step in
    let a : Scene = plain_scene x s l w.next in
    let c : Walk a s.core t.core = plain x s l w.next (λ c. Walk c s.core t.core) w.walk in
    let q : MakesFew a.base t.core = along (MakesFew a.base) (few_primitive a) (grind arith) c in
    grind arith

-- ---- What the primitives of a step keep

pub held_of : {g : Bool} {ops : ℕ → Op} {c : Component} {s : State} → InOrderFor g ops c s → CallsHold c s.core
held_of h = record { numbered = h.numbered; kinds = h.kinds; deliveries = h.deliveries }

module _ {ops : ℕ → Op} (x : Setting) (s : State) (l : Label) (t : State) {g : Bool} (h : InOrderFor g ops x.component s) (w : WalkedAs ops x s l t)
    (given : CodesAt ops x s) where
  -- the step's scene, in which the rule reads what is beside the marks as it was before the step
  abbrev a : Scene
  a = plain_as ops x s l w.next

  walk : Walk a s.core t.core
  walk = plain x s l w.next (λ c. Walk c s.core t.core) w.walk

  runner : (n : ℕ) → IsRunner a n → is_there n s.core ≡ true
  runner n is = runner_there x s l w.next h.in_place n is

  pub strands_kept : Strands t.core
  strands_kept =
      let first : Layered a s.core = record {
        numbered = λ n there. (h.in_place.placed n).number there;
        below = h.strands.below;
        made = h.strands.made;
        fresh = λ n m e. inl (h.strands.made n m e);
        alone = h.strands.alone;
      } in
      let q : Layered a t.core = along (Layered a) (layered_primitive a (λ n is. (h.in_place.placed n).number (runner n is))) first walk in
      record { below = q.below; made = q.made; alone = q.alone }

  runner_housed : RunnerHoused a
  runner_housed n is = let there = runner n is in grind (arith, h.calls_there n (task_of n s.core))

  pub calls_kept : CallsThere t.core
  calls_kept = along CallsThere (housed_primitive a runner_housed) h.calls_there walk

  known : CallsNamed a.base
  known = record {
    by_handle = λ i g k e. assumption (h.calls_named.by_handle i g k e);
    by_op = λ n k e. assumption (h.calls_named.by_op n k e);
  }

  pub named_kept : CallsNamed t.core
  named_kept =
      let first : Traced a s.core = record { was = λ k q. assumption; named = h.calls_named } in
      (along (Traced a) (λ v m ok q. traced_primitive a known m q v ok) first walk).named

  -- the works that are named, and the subtasks that ops cancel
  abbrev Watching : Core → Type 0
  Watching u = Traced a u × ((a.base.made.works ≤ u.made.works) × (WorksNamed u × CancelsWatched u))

  watching_first : Watching s.core
  watching_first = (record { was = λ k q. assumption; named = h.calls_named }, (le_refl _, (h.works_named, h.watched)))

  watching_primitive : (v : Primitive) (m : Core) → Allowed a v m → Watching m → Watching (after_primitive v m)
  watching_primitive v m ok q = (
    traced_primitive a known m q.0 v ok,
    (
      le_trans q.1.0 (made_works_primitive a v m),
      (
        works_named_primitive a (record { by_handle = h.works_named.by_handle; by_op = h.works_named.by_op }) v m ok q.1.0 q.1.1.0,
        watched_primitive a (queued_watched (base_at s.turn s.core).queues s.core h.watched) v m ok q.0.named q.1.1.0 q.1.1.1,
      ),
    ),
  )

  -- a call's start that the running thread may withdraw
  pub withdrawable : Withdrawable (scene_as ops x s l w.next)
  withdrawable = of_base (λ b. Withdrawable (record a { base = b })) s.turn s.core
      (λ m k is has unstarted. call_awaited s.core h.numbered h.calls_there h.starts k (assumption (named m k has)) unstarted)
    where
      named : (m k : ℕ) → HasSubtask a m (Subtask.Guest k) → WasCall a.base k
      named m k (ByHandle g e) = known.by_handle _ g k e
      named m k (ByOp e) = known.by_op m k e

  arrives : Arrives a t.core
  arrives = plain x s l w.next (λ c. Arrives c t.core) (step_arrives x s l t w h.in_place withdrawable)

  pub in_place_kept : InPlace t
  in_place_kept = record { placed = arrives.placed; runs = λ m e. arrives.runs m (settled_run t.core w.next m (sym w.turn ∙ e)) }

  pub starts_kept : Steady s.core t.core → StartsAwaited t.core
  starts_kept steady k c at e =
      let fresh = arrives.fresh k (was_awaited s.core t.core h.in_place.placed steady h.starts k c at e) in
      grind (arith, h.numbered.threads k, steady.calls k)

  -- ---- Calls that ops are inside of

  unbegun_base : StartsFirst a.base
  unbegun_base k r at first waits = let q = h.unbegun k r at first waits in record { unended = q.unended; alone = q.alone }

  names_first : NamesHold s.core
  names_first = record {
    known = h.names;
    number = λ k c at. (h.numbered.calls k c at).1;
    least = λ n k far. (h.calls_named.by_op n k (ap subtask_under_way far)).number;
  }

  names_base : NamesHold a.base
  names_base =
      let n = names_first in
      record { known = record { there = h.names.there; once = h.names.once; called = h.names.called }; number = n.number; least = n.least }

  calls_base : CallsAwaited a.base
  calls_base = record { inside = h.calls.inside; apart = h.calls.apart }

  numbered_base : Numbered a.base
  numbered_base = record { threads = λ n t e. assumption (h.numbered.threads n t e); calls = h.numbered.calls }

  -- a running thread is under none
  inside_there : InsideThere a
  inside_there n k runs far =
      ⊎_elim (λ under. let at = h.in_place.runs n runs in absurd (grind arith)) (λ awaited. grind arith) (h.calls.inside n k far)

  least : (m k : ℕ) → cancelled_call (op_progress_of m a.base) ≡ Some k → k ≤ a.base.made.threads
  least m k e = (known.by_op m k (grind arith)).number

  -- what handles and ops name, and the calls that are direct or that ops are inside of
  called : DirectsRun a t.core × (NamesGo a t.core × CallsInside a t.core)
  called =
      along (λ u. DirectsRun a u × (NamesGo a u × CallsInside a u)) (λ v u ok q.
      let names = names_go_primitive a names_base inside_there v u ok q.1.0 in (
        directs_primitive a v u ok q.0,
        (names, inside_primitive a names_base calls_base unbegun_base numbered_base least v u ok q.1.0 names q.0 q.1.1),
      )) (
        λ k d. inl d,
        (
          record { hold = names_first; were = λ n k far. inl far },
          record { inside = λ n k far. ⊎_elim inl (λ w. inr (inl w)) (h.calls.inside n k far); cancelled = λ m k e. inl e },
        ),
      ) walk

  pub directs_kept : Steady s.core t.core → Numbered t.core → DirectsOnTop t.core
  directs_kept steady after = directs_on_top a s.core t.core steady h.numbered after arrives (λ k. refl) (λ k. refl) h.directs called.0

  pub awaited_kept : CallsAwaited t.core
  awaited_kept = record {
    inside = λ n k far. inside n k far (called.1.1.inside n k far);
    apart = apart_after a names_base calls_base unbegun_base numbered_base least t.core called.1.0 called.1.1;
  }
    where
      back : (n k : ℕ) → place_of n s.core ≡ Some (Place.Under k) → a.next ≡ Turn.Run n → subtask_under_way (op_progress_of n t.core) ≡ None
      back n k at to = step_by x s l t w h.in_place withdrawable
          (λ c u. place_of n c.base ≡ Some (Place.Under k) → c.next ≡ Turn.Run n → subtask_under_way (op_progress_of n u) ≡ None)
          (λ c b m q u base first same f d ends at to. back_apart f n k at to d)
          (of_base (λ b. place_of n b ≡ Some (Place.Under k)) s.turn s.core at) to

      inside : (n k : ℕ) → op_progress_of n t.core ≡ OpProgress.Calls (Subtask.Guest k) → Inside a n k t.core →
          (place_of n t.core ≡ Some (Place.Under k)) ⊎ (option_map_or is_awaited (get t.core.calls k) false ≡ true)
      inside n k far (inl under) =
          ⊎_elim inl (λ gone. absurd (⊎_elim (λ to. let y = back n k under to in grind arith) (λ none. grind arith) gone.1))
          (arrives.covered n k under)
      inside n k far (inr (inl awaited)) = inr awaited
      inside n k far (inr (inr (new, (runner, next)))) =
          let number = (h.in_place.placed k).number in
          let e = arrives.entered k (grind arith) next in
          inl (let mine = e.1.0 in let at = e.1.1 in grind arith)

  pub works_kept : WorksQueued t.core × HostsAwaited t.core
  works_kept = step_works x s l t w h.in_place withdrawable h.awaited h.works

  pub asked : Asked (scene_as ops x s l w.next)
  asked = step_asked x s l t w h.in_place withdrawable h.awaited

  -- ---- Scripts

  codes : Codes a
  codes = codes_plain l w.next given

  fits_base : FitsAs ops x.component a.base
  fits_base n r at =
      let f = h.fits n r at in record { script = f.script; position = f.position; op = f.op; under = f.under; first = f.first }

  has_call : (n : ℕ) (r : Thread) → get s.core.threads n ≡ Some r → is_some (get s.core.calls r.call) ≡ true
  has_call n r at = h.calls_there n r.call (ap (λ o. option_map (λ (t : Thread). t.call) o) at)

  fits_first : AllFit a s.core
  fits_first n r at = let f = h.fits n r at in record {
    script = f.script;
    call = λ e. has_call n r at;
    first = f.first;
    position = inr (has_call n r at, f.position);
    same = λ to b is. let e : r ≡ b = cc in (ap (λ (t : Thread). t.call) e, ap (λ (t : Thread). t.script) e);
    op = inr (f.op, (r, (at, (refl, (refl, refl)))));
    under = λ d. ((f.under d, (r, (at, (refl, (refl, refl))))), inl (grind arith));
    still = λ d b is. let e : r ≡ b = cc in grind arith;
  }

  -- what is so of threads and their ops as the step ends
  last : AllFit a t.core × Unbegun a t.core
  last =
      let b = plain x s l w.next (λ c. CallsHold x.component c.base × CallsGo c s.core) (calls_begin x s l w.next (held_of h)) in
      (along (λ u. CallsGo a u × (AllFit a u × Unbegun a u)) (λ v m ok q. (
        primitive_goes a codes b.0 v m ok q.0,
        (
          fits_primitive a codes b.0 runner_housed fits_base h.in_place.runs has_call v m ok q.0 q.1.0,
          unbegun_primitive a b.0 h.in_place.runs unbegun_base v m ok q.0 q.1.1,
        ),
      )) (b.1, (fits_first, record { came = λ k f. inl f; rest = waited_first })) walk).1
    where
      waited_first : (k : ℕ) → Waited a k → is_some (get s.core.threads k) ≡ true → HasNotRun s.core k
      waited_first k f there =
          let r = at_place (λ (r : Thread). true) (get s.core.threads k) (grind arith) in
          let below = h.numbered.threads k r.0 r.1.0 in h.unbegun k r.0 r.1.0 (grind arith) (grind arith)

  -- who waits for its start did so before the step, or is new
  pub waited : (k : ℕ) → first_waits k t.core ≡ true → (first_waits k s.core ≡ true) ⊎ (k ≡ next_thread s.core)
  waited k f = last.1.came k f

  pub unbegun_kept : StartsFirst t.core
  unbegun_kept k r at first waits = let q = last.1 in let f = first_waits k t.core in q.rest k (q.came k (grind arith)) (grind arith)

  -- ---- Wakes

  pub held_kept : NoneAdmitted t.core
  held_kept =
      let b = plain x s l w.next (λ c. CallsHold x.component c.base × CallsGo c s.core) (calls_begin x s l w.next (held_of h)) in
      (along (λ u. CallsGo a u × (CallsThere u × NoneAdmitted u))
      (λ v m ok q. (primitive_goes a codes b.0 v m ok q.0, (housed_primitive a runner_housed v m ok q.1.0, held_primitive a v m ok q.1.0 q.0.numbered q.1.1)))
      (b.1, (h.calls_there, h.held)) walk).1.1

  -- starts, while the turns aren't over
  starts_last : StartsThere s.core → StartsGo a t.core
  starts_last first =
      let b = plain x s l w.next (λ c. CallsHold x.component c.base × CallsGo c s.core) (calls_begin x s l w.next (held_of h)) in
      (along (λ u. CallsGo a u × StartsGo a u) (λ v m ok q. (
        primitive_goes a codes b.0 v m ok q.0,
        starts_primitive a h.in_place.runs (λ n there. (h.in_place.placed n).number there) h.starts
            (λ k named. (known.by_handle _ named.1.0 k named.1.1.1).number) v m ok (λ k there. let number = q.0.numbered.calls k in grind arith) q.1,
      )) (b.1, record { was = λ k now. inl now; there = λ k now. inl (first k now) }) walk).1

  starts_after : StartsThere s.core → is_open t.turn ≡ true → StartsThere t.core
  starts_after first live k now = let q = starts_last first in ⊎_elim (λ there. there)
      (⊎_elim (λ over. absurd (let to = w.turn in grind arith)) (λ drawn. absurd (writes_over a t.core h.calls_told k drawn.0 (q.was k now)
      (Subtask.Guest k) refl ((plain x s l w.next (λ c. EndPrimitives c t.core) w.ends.says).writes (Subtask.Guest k) Status.StartCancelled
      (written_at ops s.core (base_at s.turn s.core).queues t.core l _ (said_plain ops x s l w.next t.core k Status.StartCancelled drawn.1))) now))) (q.there k now)

  -- ---- Events

  works_told_kept : WorksTold t.core
  works_told_kept = works_told t.core (works_go {S = ⊥} x s l t w (λ no. absurd no) (works_hold s.core (stands_of h.works) h.works_told)).holds

  calls_told_kept : CallsTold t.core
  calls_told_kept = along CallsTold (calls_told_primitive a) h.calls_told walk

  telling : TellingGoes a t.core
  telling = along (TellingGoes a) (telling_primitive a) (record { made = le_refl _; told = λ k below told. told; ends = λ k e below is. inl is }) walk

  hosts_told : (i : ℕ) (e : Status) → undelivered_end (event_of (Subtask.Host i) t.core) ≡ Some e →
      (undelivered_end (event_of (Subtask.Host i) s.core) ≡ Some e) ⊎ (host_taken l ≡ Some i)
  hosts_told i e is = along (λ (u : Core). undelivered_end (event_of (Subtask.Host i) u) ≡ Some e →
      (undelivered_end (event_of (Subtask.Host i) s.core) ≡ Some e) ⊎ (host_taken l ≡ Some i))
      (λ v u ok q now. ⊎_elim q inr (host_event_primitive a v u ok i e now)) inl walk is

  -- ready members: who is one was so before, or gains
  came : (y : ℕ) (sub : Subtask) → is_ready_member y sub t.core ≡ true → (is_ready_member y sub s.core ≡ true) ⊎ Gains a sub
  came y sub on = ⊎_elim (λ e. inl (sym (member_same y s.core a.base refl refl sub) ∙ e)) inr ((along (ReadyGoes a low) (ready_goes_primitive a low) (
    record { made = le_refl _; told = λ k below told. told; ends = λ k e below is. inl is },
    λ y sub on. inl (member_same y s.core a.base refl refl sub ∙ on),
  ) walk).1 y sub on)
    where
      low : (n : ℕ) → IsRunner a n → task_of n a.base ≤ a.base.made.threads
      low n is = let there = runner n is in grind (arith, h.numbered.threads n)

  awake_kept : Steady s.core t.core → is_open s.turn ≡ true → Awake s.turn s.core → is_open t.turn ≡ true → WakesCounted t.core →
      Awake t.turn t.core
  awake_kept steady going first live counted = record {
    alone = step_alone x s l t w h.in_place withdrawable (λ over. absurd (grind (arith, over, going))) first.alone;
    starts_there = starts_after first.starts_there live;
    blocked = step_blocked x s l t w h withdrawable steady (λ over. let e = w.turn in absurd (grind arith)) telling hosts_told calls_told_kept works_told_kept (plain {ops = ops} x s l w.next (λ c. Asked c) asked) first.blocked;
    callers = callers_kept x s l t w h withdrawable (λ over. let e = w.turn in absurd (grind arith)) first.callers first.feet first.free;
    feet = feet_kept x s l t w h withdrawable (λ over. let e = w.turn in absurd (grind arith)) first.callers first.feet first.free;
    free = free_kept x s l t w h withdrawable (λ over. let e = w.turn in absurd (grind arith)) first.callers first.feet first.free;
    counted = counted;
  }

  -- in ops that are those of before where a thread is at the same place of the same script
  pub fits_kept : (now_ops : ℕ → Op) → ((n : ℕ) (r b : Thread) → get t.core.threads n ≡ Some r → get s.core.threads n ≡ Some b → SameOp r b → now_ops n ≡ ops n) → Steady s.core t.core →
      FitsAs now_ops x.component t.core
  fits_kept now_ops stay steady n r at =
      let f = last.0 n r at in
      record {
        -- the instance of the call matters to a thread beside the first one
        script = let home = λ (e : r.explicit ≡ true). ap (λ c. c.instance) (same (f.call e)) in let script = f.script in grind arith;
        position = ⊎_elim (λ zero. omega (arith, zero))
            (λ b. subst (λ e. r.position ≤ length (script_in x.component e r.script)) (sym (same b.0)) b.1) f.position;
        op = ⊎_elim (λ fresh. ap (can_come (now_ops n)) fresh) (λ e. at_op (λ o. can_come o r.op_progress) e) f.op;
        under = λ d. at_op is_sync_call (f.under d).0;
        first = f.first;
      }
    where
      now : is_some (get t.core.calls r.call) ≡ true
      now = calls_kept n r.call (ap (λ o. option_map (λ (t : Thread). t.call) o) at)

      same : is_some (get s.core.calls r.call) ≡ true → callee_of r.call t.core ≡ callee_of r.call s.core
      same was = same_callee s.core t.core steady h.numbered r.call was now

      at_op : (test : Op → Bool) → OfBase a n r test → test (now_ops n) ≡ true
      at_op test e = subst (λ (o : Op). test o ≡ true) (sym (stay n r e.1.0 at e.1.1.0 e.1.1.1)) e.0

  -- ---- Sets, their members, and who waits on them

  waits_first : AtWaits (scene_as ops x s l w.next)
  waits_first = of_base (λ b. AtWaits (record a { base = b })) s.turn s.core (wait_op ops x.component a.base fits_base)

  pub placed_kept : WaitsPlaced t.core
  placed_kept = step_waits x s l t w h.in_place withdrawable waits_first h.waits_placed

  works_known_base : WorksKnown a.base
  works_known_base = record {
    there = λ i g j e. assumption (h.works_known.there i g j e);
    once = h.works_known.once;
    async = λ g j e. assumption (h.works_known.async g j e);
    called = h.works_known.called;
  }

  known_cancels : KnownCancels a
  known_cancels = record {
    calls = names_base.known;
    works = works_known_base;
    cancels = λ n sub far. ap (λ o. is_some o) (queued_handle (base_at s.turn s.core).queues s.core sub) ∙ h.cancelled n sub far;
  }

  -- handles of works and of what ops cancel
  handles_last : (Watching t.core × NamesGo a t.core) × (WorksSaid t.core × CancelsGo a t.core)
  handles_last = along (λ u. (Watching u × NamesGo a u) × (WorksSaid u × CancelsGo a u)) (λ v m ok q. (
    (watching_primitive v m ok q.0.0, names_go_primitive a names_base inside_there v m ok q.0.1),
    (
      works_said_primitive a works_known_base v m ok q.1.0,
      cancels_primitive a known_cancels v m ok q.0.1.hold q.1.0 q.0.0.1.1.1 q.1.1,
    ),
  )) (
    (watching_first, record { hold = names_first; were = λ n k far. inl far }),
    (record { known = h.works_known; number = h.works.made }, record { kept = λ to sub is. ap (λ o. is_some o) (sym (queued_handle (base_at s.turn s.core).queues s.core sub)) ∙ is; named = h.cancelled }),
  ) walk

  module _ (turn : (m : ℕ) → s.turn ≡ Turn.Run m → g ≡ true) where
    known_home : KnownHome a
    known_home = record {
      there = runner;
      sets = record { number = h.sets_named.number; home = h.sets_named.home; once = h.sets_named.once };
      waits = record { by_place = λ n y e. assumption (h.waits.by_place n y e); by_op = λ n y e. assumption (h.waits.by_op n y e) };
      placed = λ n y far. h.waits_placed n y far;
      runs = λ n y m far runs to. let own = (h.awake (turn m to)).alone n runs in let op = wait_op ops x.component a.base fits_base n y far in
          let one : n ≡ m = grind arith in rw one at op;
    }

    homed_first : Homed a s.core
    homed_first = record {
      homes = λ to i y q. assumption;
      by_place = λ n y e. (h.waits.by_place n y e, grind arith);
      by_op = λ n y e. (h.waits.by_op n y e, grind arith);
      far = λ n y e. inr (far_waits (op_progress_of n s.core) y e);
    }

    sets_last : (SetsNamed t.core × JoinsNamed t.core) × Homed a t.core
    sets_last = along (λ (c : Core). (SetsNamed c × JoinsNamed c) × Homed a c)
        (λ v m ok q. ((sets_named_primitive a v m ok q.0.0, joins_primitive a m q.0.1 q.0.0 v ok), homed_primitive a known_home m q.0.1 q.1 v ok))
        ((h.sets_named, h.joins_named), homed_first) walk

    pub joined_kept : SetsNamed t.core × JoinsNamed t.core
    joined_kept = sets_last.0

    pub waits_kept : Steady s.core t.core → WaitsAtHome t.core
    waits_kept steady = record {
      by_place = λ n y e. let q = sets_last.1.by_place n y e in rw (same n (grind arith) q.1) q.0;
      by_op = λ n y e. let q = sets_last.1.by_op n y e in rw (same n (grind arith) q.1) q.0;
    }
      where
        same : (n : ℕ) → is_there n t.core ≡ true → is_there n s.core ≡ true → instance_of n t.core ≡ instance_of n s.core
        same n now before = same_instance s.core t.core steady h.numbered h.calls_there calls_kept n before now

-- the turns of a state that has a step aren't over
step_open : (x : Setting) (s : State) (l : Label) (t : State) → Step x s l t → is_open s.turn ≡ true
step_open x s l t step = by s.turn refl
  where
    by : (p : Turn) → s.turn ≡ p → is_open p ≡ true
    by Turn.Over is = absurd (step_over x s l t is step)
    by p is = refl

-- ---- A walk, and a step, from a state in order

-- a step is one in which each thread has the op at its place
turn_as : (x : Setting) (s : State) (u : Turn) (l : Label) (t : State) → TurnStep x s u l t → TurnStepAs own_script (ops_of x.component s.core) x s u l t
unfolding did
turn_as x s (Turn.Run n) l t h = h
turn_as x s u l t h = h

as_step : (x : Setting) (s : State) (u : Turn) (l : Label) (t : State) → Step x s l t → StepAs own_script (ops_of x.component s.core) x s l t
unfolding Step StepAs
as_step x s u l t h = turn_as x s s.turn l t h

-- what is so of the state while the turns aren't over is given
walked_kept : {ops : ℕ → Op} (now_ops : ℕ → Op) (x : Setting) (s : State) (l : Label) (t : State) {g : Bool} → InOrderFor g ops x.component s → WalkedAs ops x s l t → CodesAt ops x s →
    ((n : ℕ) (r b : Thread) → get t.core.threads n ≡ Some r → get s.core.threads n ≡ Some b → SameOp r b → now_ops n ≡ ops n) →
    Steady s.core t.core → ((m : ℕ) → s.turn ≡ Turn.Run m → g ≡ true) → (b : Bool) → (b ≡ true → Awake t.turn t.core) → InOrderFor b now_ops x.component t
walked_kept now_ops x s l t h w given stay steady turn b awake =
    let q : CallsHold x.component t.core = (walked_goes x s l t given (held_of h) w).0 in
    record {
      codes = h.codes;
      in_place = in_place_kept x s l t h w given;
      strands = strands_kept x s l t h w given;
      directs = directs_kept x s l t h w given steady q.numbered;
      works = (works_kept x s l t h w given).0;
      awaited = (works_kept x s l t h w given).1;
      numbered = q.numbered;
      calls_there = calls_kept x s l t h w given;
      calls_named = named_kept x s l t h w given;
      works_named = (handles_last x s l t h w given).0.0.1.1.0;
      names = (called x s l t h w given).1.0.hold.known;
      calls = awaited_kept x s l t h w given;
      works_known = (handles_last x s l t h w given).1.0.known;
      waits = waits_kept x s l t h w given turn steady;
      waits_placed = placed_kept x s l t h w given;
      sets_named = (joined_kept x s l t h w given turn).0;
      joins_named = (joined_kept x s l t h w given turn).1;
      kinds = q.kinds;
      deliveries = q.deliveries;
      fits = fits_kept x s l t h w given now_ops stay steady;
      starts = starts_kept x s l t h w given steady;
      unbegun = unbegun_kept x s l t h w given;
      watched = (handles_last x s l t h w given).0.0.1.1.1;
      cancelled = (handles_last x s l t h w given).1.1.named;
      inside = step_inside x s l t w h.in_place (withdrawable x s l t h w given) h.inside;
      held = held_kept x s l t h w given;
      works_told = works_told_kept x s l t h w given;
      calls_told = calls_told_kept x s l t h w given;
      awake = awake;
    }

-- the op at its place, where a thread is at the same place of the same script
pub at_places : (x : Setting) (s t : State) → Steady s.core t.core → Numbered s.core → CallsThere s.core → CallsThere t.core → (n : ℕ) (r b : Thread) → get t.core.threads n ≡ Some r →
    get s.core.threads n ≡ Some b → SameOp r b → op_of x.component n t.core ≡ op_of x.component n s.core
at_places x s t steady numbered before after n r b at was is =
    let now = after n r.call (ap (λ o. option_map (λ (t : Thread). t.call) o) at) in
    let then : is_some (get s.core.calls r.call) ≡ true = subst (λ (k : ℕ). is_some (get s.core.calls k) ≡ true) (sym is.0) (before n b.call (ap (λ o. option_map (λ (t : Thread). t.call) o) was)) in
    let callee = same_callee s.core t.core steady numbered r.call then now in
    op_there x.component t.core n r at ∙ (ap (λ f. op_at_place (script_in x.component f r.script) r.position) callee ∙ (op_same x.component s.core r b is ∙ sym (op_there x.component s.core n b was)))

-- where records stay those of the same and wakes are counted as the walk ends: in ops that are those of before where a thread is at the same place
pub walked_as : {ops : ℕ → Op} (now_ops : ℕ → Op) (x : Setting) (s : State) (l : Label) (t : State) → is_open s.turn ≡ true → InOrderAs ops x.component s → WalkedAs ops x s l t → CodesAt ops x s →
    ((n : ℕ) (r b : Thread) → get t.core.threads n ≡ Some r → get s.core.threads n ≡ Some b → SameOp r b → now_ops n ≡ ops n) →
    Steady s.core t.core → (is_open t.turn ≡ true → WakesCounted t.core) → InOrderAs now_ops x.component t
walked_as now_ops x s l t going h w given stay steady counted =
    walked_kept now_ops x s l t h w given stay steady (λ m e. going) (is_open t.turn) (λ live. awake_kept x s l t h w given steady going (h.awake going) live (counted live))

pub walked_in_order : (x : Setting) (s : State) (l : Label) (t : State) → is_open s.turn ≡ true → InOrder x.component s → Walked x s l t →
    Steady s.core t.core → (is_open t.turn ≡ true → WakesCounted t.core) → InOrder x.component t
walked_in_order x s l t going h w steady counted =
    let given = codes_at x s h.codes in
    walked_as (ops_of x.component t.core) x s l t going h w given (at_places x s t steady h.numbered h.calls_there (calls_kept x s l t h w given)) steady counted

-- what is so while the turns aren't over is given
pub step_kept : (x : Setting) (s : State) (l : Label) (t : State) {g : Bool} → InOrderFor g (ops_of x.component s.core) x.component s → Step x s l t →
    ((m : ℕ) → s.turn ≡ Turn.Run m → g ≡ true) → (b : Bool) → (b ≡ true → Awake t.turn t.core) → InOrderFor b (ops_of x.component t.core) x.component t
step_kept x s l t h step =
    let w = step_walks x s l t step in let given = codes_at x s h.codes in let same = steady x s l t step in
    walked_kept (ops_of x.component t.core) x s l t h w given (at_places x s t same h.numbered h.calls_there (calls_kept x s l t h w given)) same

-- a step in which each thread has this op, whoever has it done
pub step_as : (by : Op → Doer) {ops : ℕ → Op} (now_ops : ℕ → Op) (x : Setting) (s : State) (l : Label) (t : State) → is_open s.turn ≡ true → InOrderAs ops x.component s → StepAs by ops x s l t → WalkedAs ops x s l t → CodesAt ops x s →
    ((n : ℕ) (r b : Thread) → get t.core.threads n ≡ Some r → get s.core.threads n ≡ Some b → SameOp r b → now_ops n ≡ ops n) → Steady s.core t.core → InOrderAs now_ops x.component t
step_as by now_ops x s l t going h step w given stay steady =
    walked_as now_ops x s l t going h w given stay steady
    (λ live. step_counted by x s l t step w h (withdrawable x s l t h w given) live (came x s l t h w given) (h.awake going).alone (h.awake going).counted)

pub step_in_order : StepInOrder
unfolding Step did
step_in_order x s l t h step =
    let going = step_open x s l t step in
    let w = step_walks x s l t step in let given = codes_at x s h.codes in
    walked_in_order x s l t going h w (steady x s l t step)
    (λ live. step_counted own_script x s l t (as_step x s s.turn l t step) w h (withdrawable x s l t h w given) live (came x s l t h w given) (h.awake going).alone (h.awake going).counted)

-- ---- The first state

opening_placed : (rules : Version) (instances handle_limit capacity : ℕ) → Placed (fresh rules instances handle_limit capacity)
unfolding fresh
opening_placed rules instances handle_limit capacity n = grind (arith, get-empty)

opening_counted : (rules : Version) (instances handle_limit capacity : ℕ) → WakesCounted (fresh rules instances handle_limit capacity)
unfolding fresh has_waiter empty
opening_counted rules instances handle_limit capacity y has = absurd (grind arith)

pub opening_in_order : OpeningInOrder
unfolding fresh OpeningInOrder
opening_in_order c codes rules instances handle_limit capacity main =
    let q : CallsHold c (fresh rules instances handle_limit capacity) = opening_holds c rules instances handle_limit capacity in
    record {
      codes = codes;
      in_place = record { placed = opening_placed rules instances handle_limit capacity; runs = λ n e. absurd (cc) };
      strands = grind (arith, get-empty);
      directs = λ n there implicit direct. let o = get-empty {X = Thread} n in absurd (cc);
      works = grind (arith, get-empty);
      awaited = λ n i far. let o = get-empty {X = Thread} n in absurd (cc);
      numbered = q.numbered;
      calls_there = λ n k e. let o = get-empty {X = Thread} n in absurd (cc);
      waits = grind (arith, get-empty);
      calls_named = opening_named rules instances handle_limit capacity;
      works_named = opening_works_named rules instances handle_limit capacity;
      names = opening_names_known rules instances handle_limit capacity;
      calls = grind (arith, get-empty);
      works_known = opening_works_known rules instances handle_limit capacity;
      waits_placed = λ n y far. let o = get-empty {X = Thread} n in absurd (cc);
      sets_named = opening_sets rules instances handle_limit capacity;
      joins_named = opening_joins rules instances handle_limit capacity;
      kinds = q.kinds;
      deliveries = q.deliveries;
      fits = λ n t at. let o = get-empty {X = Thread} n in absurd (cc);
      starts = λ k c at e. let o = get-empty {X = Call} k in absurd (cc);
      unbegun = λ k t at first waits. let o = get-empty {X = Thread} k in absurd (cc);
      watched = λ n sub far. let o = get-empty {X = Thread} n in absurd (cc);
      cancelled = λ n sub far. let o = get-empty {X = Thread} n in absurd (cc);
      inside = λ n p at. let o = get-empty {X = Thread} n in absurd (cc);
      held = λ n v at. let o = get-empty {X = Thread} n in absurd (cc);
      works_told = λ i w is. let o = get-empty {X = Work} i in absurd (cc);
      calls_told = λ k e is. let o = get-empty {X = Call} k in absurd (grind arith);
      awake = λ live. record {
        alone = λ n is. let o = get-empty {X = Thread} n in absurd (cc);
        starts_there = λ k now. let o = get-empty {X = Call} k in absurd (grind arith);
        blocked = record {
          events = λ n sub is. let o = get-empty {X = Thread} n in absurd (cc);
          works = λ n sub is. let o = get-empty {X = Thread} n in absurd (cc);
        };
        callers = λ n f is. let o = get-empty {X = Thread} n in absurd (cc);
        feet = λ n k f is under. let o = get-empty {X = Thread} n in absurd (cc);
        free = record {
          under = λ n m is. let o = get-empty {X = Thread} n in absurd (cc);
          behind = λ n f is fresh. let o = get-empty {X = Thread} n in absurd (cc);
        };
        counted = opening_counted rules instances handle_limit capacity;
      };
    }

-- ---- Runs

run_in_order : (x : Setting) (s : State) → InOrder x.component s → (ls : List Label) (t : State) → Run x s ls t → InOrder x.component t
run_in_order x s h [] t run = rw run h
run_in_order x s h (l ∷ ls) t run = run_in_order x run.0 (step_in_order x s l run.0 h run.1.0) ls t run.1.1

pub reached_in_order : ReachedInOrder
unfolding OpeningInOrder ReachedInOrder
reached_in_order x s r =
    let first = opening_in_order x.component r.scripts r.version r.instances r.handle_limit r.capacity r.main in
    run_in_order x (opening r.version r.instances r.handle_limit r.capacity r.main) first r.labels s r.run

pub reached_in_place : ReachedInPlace
unfolding ReachedInOrder ReachedInPlace
reached_in_place x s r = (reached_in_order x s r).in_place

pub steps_keep_places : StepsKeepPlaces
unfolding ReachedInOrder
steps_keep_places x s l t r step = (step_in_order x s l t (reached_in_order x s r) step).in_place
