-- The end of a thread, and its run or suspension, keep that no wake is lost.
use Rattle.laws_states.proofs.{WakeCounts.woken_at, WakeCounts.woken_place}
use Rattle.laws_states.proofs.Primitives.{call_instance, is_deletable, remove}
use Rattle.machine_data.specs.Moves.{call_settled, departed, ended, exited_if, freed_thread_handle, group_settled, interest_settled, is_finished, is_group_done}
use Rattle.machine_data.specs.Read.{call_group, thread_handle_of}
use Rattle.laws_places.proofs.Laws.{[], admits, ap, arith, Bool, by_number, callers_of, CallersGoOn, Core, event_of, false, free_thread_handle, get, get-change, get-remove, op_progress_of, OpProgress, if◌then◌else◌, inl, inr, instance_of, is_behind_of, is_explicit, is_inside_wait, is_ready_member, is_some, is_there, is_woken_at, is_woken_for, join_of, kind_of, nat_tests, None, on_call, on_thread, Option, option_map, option_map_or, Place, place_of, refl, remove_call, remove_group, remove_thread, says, set_exited, set_place, set_uninteresting, Some, subst, Subtask, suc, sym, task_of, Thread, times, true, undelivered_end, Why, zero, ℕ, ⊎_elim, ◌==◌, ◌∙◌, ◌≡◌, ◌⊎◌}
use Rattle.laws_places.proofs.Balance.{Quiet}
use Rattle.laws_places.proofs.StrandFeet.{under_none, Down, down_further, Here, last_under, lowest}
use Rattle.machine_rules.proofs.CallThreads.{no_thread_left}
use Rattle.machine_rules.specs.Works.{is_ended_work}
use Rattle.laws_places.proofs.BlockedLemmas.{ended_as}
use Rattle.laws_order.proofs.EaseLemmas.{callers_kept, is_still, Leaves, Moves, moves_keep, nobody, none_leaves}
use Rattle.laws_order.proofs.MoveLemmas.{member_as}
use Rattle.laws_order.specs.WakesKept.{CallersBehind, EndKeeps, MayComeToRun, MayLeave, NoWakeLost, RunKeeps, SuspendKeeps, SwitchReady}

not_behind : (g : ℕ) (o : Option Place) → ((f : ℕ) → o ≡ Some (Place.Behind f) → ⊥) → says (is_behind_of g) o ≡ 0
not_behind g (Some (Place.Behind f)) none = absurd (none f refl)
not_behind g o none = grind arith

-- ---- An end

-- what the facts read of a call
record SameCall (q : ℕ) (s t : Core) : Type 0 where
  kind : kind_of q t ≡ kind_of q s
  home : call_instance q t ≡ call_instance q s
  event : event_of (Subtask.Guest q) t ≡ event_of (Subtask.Guest q) s
  join : join_of (Subtask.Guest q) t ≡ join_of (Subtask.Guest q) s

after_both : (q : ℕ) (s t u : Core) → SameCall q s t → SameCall q t u → SameCall q s u
after_both q s t u a b = record { kind = b.kind ∙ a.kind; home = b.home ∙ a.home; event = b.event ∙ a.event; join = b.join ∙ a.join }

as_call : (q : ℕ) (s t : Core) → get t.calls q ≡ get s.calls q → SameCall q s t
as_call q s t same = record { kind = grind (arith, same); home = grind (arith, same); event = grind (arith, same); join = grind (arith, same) }

-- all but the thread n and its callers is the same, but for calls and groups
record Departed (n : ℕ) (s t : Core) : Type 0 where
  threads : (j : ℕ) → get t.threads j ≡ (if j == n then None else get s.threads j)
  callers : (f : ℕ) → get t.callers f ≡ (if f == n then None else get s.callers f)
  queues : t.queues ≡ s.queues
  works : t.works ≡ s.works
  instances : t.instances ≡ s.instances

departs : (n : ℕ) (s : Core) → Departed n s (departed n s) × ((q : ℕ) → SameCall q s (departed n s))
unfolding remove_thread free_thread_handle set_exited on_call
departs n s = by (is_explicit n s) (thread_handle_of n s)
  where
    by : (b : Bool) (o : Option ℕ) → Departed n s (remove_thread n (freed_thread_handle (instance_of n s) o (exited_if b (task_of n s) s))) ×
        ((q : ℕ) → SameCall q s (remove_thread n (freed_thread_handle (instance_of n s) o (exited_if b (task_of n s) s))))
    by true None = (record { threads = λ j. get-remove s.threads n j; callers = λ f. get-remove s.callers n f; queues = refl; works = refl; instances = refl }, λ q. as_call q s _ refl)
    by true (Some h) = (record { threads = λ j. get-remove s.threads n j; callers = λ f. get-remove s.callers n f; queues = refl; works = refl; instances = refl }, λ q. as_call q s _ refl)
    by false None = (
      record { threads = λ j. get-remove s.threads n j; callers = λ f. get-remove s.callers n f; queues = refl; works = refl; instances = refl },
      λ q. record { kind = grind (arith, nat_tests, get-change); home = grind (arith, nat_tests, get-change); event = grind (arith, nat_tests, get-change); join = grind (arith, nat_tests, get-change) },
    )
    by false (Some h) = (
      record { threads = λ j. get-remove s.threads n j; callers = λ f. get-remove s.callers n f; queues = refl; works = refl; instances = refl },
      λ q. record { kind = grind (arith, nat_tests, get-change); home = grind (arith, nat_tests, get-change); event = grind (arith, nat_tests, get-change); join = grind (arith, nat_tests, get-change) },
    )

settles : (n k : ℕ) (s d : Core) → Departed n s d → Departed n s (interest_settled k d) × ((q : ℕ) → SameCall q d (interest_settled k d))
unfolding interest_settled set_uninteresting on_call
settles n k s d h = by (option_map_or is_finished (get d.calls k) false)
  where
    by : (b : Bool) → Departed n s (if b then set_uninteresting k d else d) × ((q : ℕ) → SameCall q d (if b then set_uninteresting k d else d))
    by true = (
      record { threads = h.threads; callers = h.callers; queues = h.queues; works = h.works; instances = h.instances },
      λ q. record { kind = grind (arith, nat_tests, get-change); home = grind (arith, nat_tests, get-change); event = grind (arith, nat_tests, get-change); join = grind (arith, nat_tests, get-change) },
    )
    by false = (h, λ q. as_call q d d refl)

-- the call is as it was, or gone with all its threads
abbrev CallGoes : ℕ → Core → Core → Type 0
CallGoes q s t = SameCall q s t ⊎ ((get t.calls q ≡ None) × ((m : ℕ) → is_some (get t.threads m) ≡ true → task_of m t ≡ q → ⊥))

no_thread : (k m : ℕ) (e : Core) → is_deletable k e ≡ true → is_some (get e.threads m) ≡ true → task_of m e ≡ k → ⊥
no_thread k m e gone there task = no_thread_left k m e gone (grind (arith, nat_tests, there, task))

call_goes : (n k : ℕ) (s e : Core) → Departed n s e → Departed n s (call_settled k e) × ((q : ℕ) → CallGoes q e (call_settled k e))
unfolding call_settled group_settled remove_group remove_call
call_goes n k s e h = by (is_deletable k e) refl
  where
    removed : Core
    removed = remove_call k e

    same_or : is_deletable k e ≡ true → (q : ℕ) (t : Core) → t.threads ≡ e.threads → t.calls ≡ remove e.calls k → CallGoes q e t
    same_or gone q t threads calls = by_number q k _
        (λ is. inr (grind (arith, nat_tests, get-remove, is, calls), λ m there task. no_thread k m e gone (grind (arith, there, threads)) (grind (arith, task, threads, is))))
        (λ apart. inl (as_call q e t (grind (arith, nat_tests, get-remove, apart, calls))))

    group : is_deletable k e ≡ true → (b : Bool) → Departed n s (if b then remove_group (call_group k e) removed else removed) × ((q : ℕ) → CallGoes q e (if b then remove_group (call_group k e) removed else removed))
    group gone true = (record { threads = h.threads; callers = h.callers; queues = h.queues; works = h.works; instances = h.instances }, λ q. same_or gone q _ refl refl)
    group gone false = (record { threads = h.threads; callers = h.callers; queues = h.queues; works = h.works; instances = h.instances }, λ q. same_or gone q _ refl refl)

    by : (b : Bool) → is_deletable k e ≡ b → Departed n s (if b then group_settled (call_group k e) removed else e) × ((q : ℕ) → CallGoes q e (if b then group_settled (call_group k e) removed else e))
    by true is = group is (is_group_done (call_group k e) removed)
    by false is = (h, λ q. inl (as_call q e e refl))

ends : (n : ℕ) (s : Core) → Departed n s (ended n s) × ((q : ℕ) → CallGoes q s (ended n s))
unfolding ended
ends n s =
    let a = departs n s in let b = settles n (task_of n s) s (departed n s) a.0 in let c = call_goes n (task_of n s) s (interest_settled (task_of n s) (departed n s)) b.0 in
    (c.0, λ q. ⊎_elim (λ same. inl (after_both q s _ _ (after_both q s _ _ (a.1 q) (b.1 q)) same)) inr (c.1 q))

module _ (n : ℕ) (s : Core) (may : MayLeave n s) (h : NoWakeLost s) where
  abbrev t : Core
  t = ended n s

  d : Departed n s t
  d = (ends n s).0

  calls : (q : ℕ) → CallGoes q s t
  calls = (ends n s).1

  other_thread : (j : ℕ) → (j == n) ≡ false → get t.threads j ≡ get s.threads j
  other_thread j apart = let e = d.threads j in grind (arith, e, apart)

  gone_thread : place_of n t ≡ None
  gone_thread = let e = d.threads n in grind (arith, nat_tests, e)

  stays : (j : ℕ) → (j == n) ≡ false → place_of j t ≡ place_of j s
  stays j apart = ap (λ (o : Option Thread). option_map (λ (u : Thread). u.place) o) (other_thread j apart)

  -- who is at a place afterwards is another thread
  apart_at : (j : ℕ) (p : Place) → place_of j t ≡ Some p → (j == n) ≡ false
  apart_at j p at = by_number j n _ (λ is. absurd (let gone = gone_thread in grind (arith, gone, at, is))) (λ apart. apart)

  still : (j : ℕ) (p : Place) → is_still p ≡ true → place_of j t ≡ Some p → (place_of j s ≡ Some p) × (op_progress_of j t ≡ op_progress_of j s)
  still j p kind at = let apart = apart_at j p at in (sym (stays j apart) ∙ at, ap (λ (o : Option Thread). option_map_or (λ (u : Thread). u.op_progress) o OpProgress.Fresh) (other_thread j apart))

  admitted : (j : ℕ) (w : Why) → place_of j t ≡ Some (Place.Held w) → admits j t w ≡ admits j s w
  admitted j w at = by w (calls (task_of j s))
    where
      same : get t.threads j ≡ get s.threads j
      same = other_thread j (apart_at j (Place.Held w) at)

      task : task_of j t ≡ task_of j s
      task = ap (λ (o : Option Thread). option_map_or (λ (u : Thread). u.call) o 0) same

      there : is_some (get t.threads j) ≡ true
      there = grind (arith, at)

      by : (v : Why) → CallGoes (task_of j s) s t → admits j t v ≡ admits j s v
      by v (inr gone) = absurd (gone.1 j there task)
      by Why.Start (inl c) = let kind = c.kind in let home = c.home in let flags = d.instances in let explicit = ap (λ (o : Option Thread). option_map_or (λ (u : Thread). u.explicit) o false) same in
          grind (arith, task, kind, home, flags, explicit)
      by (Why.Delivery x) (inl c) = let home = c.home in let flags = d.instances in grind (arith, task, home, flags)
      by Why.Resumption (inl c) = refl

  events : (j : ℕ) (sub : Subtask) → place_of j t ≡ Some (Place.Blocked sub) → (event_of sub t ≡ event_of sub s) ⊎ (undelivered_end (event_of sub t) ≡ None)
  events j (Subtask.Guest q) at = ⊎_elim (λ c. inl c.event) (λ gone. inr (let none = gone.0 in grind (arith, none))) (calls q)
  events j (Subtask.Host i) at = inl (let works = d.works in grind (arith, works))

  ready : (y : ℕ) (sub : Subtask) → is_ready_member y sub t ≡ true → is_ready_member y sub s ≡ true
  ready y (Subtask.Guest q) on = ⊎_elim (λ c. member_as y (Subtask.Guest q) s t c.event c.join on) (λ gone. absurd (let none = gone.0 in grind (arith, none, on))) (calls q)
  ready y (Subtask.Host i) on = let works = d.works in grind (arith, works, on)

  woken : (y j : ℕ) → is_woken_at y j s ≡ true → is_woken_at y j t ≡ true
  woken y j on = by_number j n _ (λ is. absurd (let idle = may.idle y in grind (arith, idle, on, is)))
      (λ apart. ap (λ (o : Option Thread). option_map_or (λ (u : Thread). is_woken_for y u u.place) o false) (other_thread j apart) ∙ on)

  none_behind : (j : ℕ) → place_of j s ≡ Some (Place.Behind n) → ⊥
  none_behind j at = let list = h.behind j n in let none = may.callers in let there = may.there in absurd (grind (arith, nat_tests, list, none, there, at))

  end_leaves : Leaves (λ j. j ≡ n) s t
  end_leaves = record {
    behind = λ j m at is. none_behind j (at ∙ ap (λ (i : ℕ). Some (Place.Behind i)) is);
    under = λ j m at is. absurd (under_none n j s may.under (at ∙ ap (λ (i : ℕ). Some (Place.Under i)) is));
    ends = λ j f at is. let gone = gone_thread in absurd (grind (arith, gone, at, is));
  }

  behind_kept : CallersBehind t
  behind_kept j g = by_number g n _ own other
    where
      list : get t.callers g ≡ (if g == n then None else get s.callers g)
      list = d.callers g

      own : g ≡ n → times j (callers_of g t) ≡ (if is_there g t then says (is_behind_of g) (place_of j t) else 0)
      own is = let gone = gone_thread in grind (arith, nat_tests, list, gone, is)

      other : (g == n) ≡ false → times j (callers_of g t) ≡ (if is_there g t then says (is_behind_of g) (place_of j t) else 0)
      other apart = by_number j n _
          (λ is. let was = h.behind n g in let none = not_behind g (place_of n s) may.behind in let gone = gone_thread in let same = stays g apart in grind (arith, list, apart, was, none, gone, same, is))
          (λ else_where. let was = h.behind j g in let here = stays j else_where in let same = stays g apart in grind (arith, list, apart, was, here, same))

  switch_kept : SwitchReady t
  switch_kept m is = let at : s.queues.switch ≡ Some m = sym (ap (λ q. q.switch) d.queues) ∙ is in let was = h.switch m at in let same = stays m (may.switch m at) in grind (arith, was, same)

  end_moves : Moves s t
  end_moves = record {
    callers = callers_kept (λ j. j ≡ n) s t end_leaves (λ j. by_number j n _ (λ is. inr (inr is)) (λ apart. inl (stays j apart)));
    still = still;
    admits = admitted;
    events = events;
    works = λ sub. ended_as sub s t d.works;
    counts = λ y j now was. Quiet (ready y) (woken y);
    behind = λ b. behind_kept;
    switch = λ b. switch_kept;
  }

pub end_keeps : EndKeeps
unfolding EndKeeps
end_keeps n s may h = moves_keep (end_moves n s may h) h

-- ---- A thread comes to run, or is suspended

-- where a thread runs or is suspended
abbrev is_off : Place → Bool
is_off Place.Running = true
is_off Place.Suspended = true
is_off p = false

placed_admits : (n : ℕ) (p : Place) (s : Core) (j : ℕ) (w : Why) → admits j (set_place n p s) w ≡ admits j s w
unfolding set_place on_thread
placed_admits n p s j Why.Start = grind (arith, nat_tests, get-change)
placed_admits n p s j (Why.Delivery d) = grind (arith, nat_tests, get-change)
placed_admits n p s j Why.Resumption = refl

placed_events : (n : ℕ) (p : Place) (s : Core) (sub : Subtask) → (event_of sub (set_place n p s) ≡ event_of sub s) × (join_of sub (set_place n p s) ≡ join_of sub s)
unfolding set_place on_thread
placed_events n p s (Subtask.Guest k) = (refl, refl)
placed_events n p s (Subtask.Host i) = (refl, refl)

module _ (n : ℕ) (p : Place) (s : Core) (off : is_off p ≡ true) (there : is_there n s ≡ true) (apart_switch : (m : ℕ) → s.queues.switch ≡ Some m → (m == n) ≡ false)
    (behind_none : (f : ℕ) → place_of n s ≡ Some (Place.Behind f) → ⊥) (h : NoWakeLost s) where
  abbrev v : Core
  v = set_place n p s

  other : (j : ℕ) → (j == n) ≡ false → place_of j v ≡ place_of j s
  unfolding set_place on_thread
  other j apart = grind (arith, nat_tests, get-change, apart)

  own : place_of n v ≡ Some p
  unfolding set_place on_thread
  own = grind (arith, nat_tests, get-change, there)

  far : (j : ℕ) → op_progress_of j v ≡ op_progress_of j s
  unfolding set_place on_thread
  far j = grind (arith, nat_tests, get-change)

  placed_still : (j : ℕ) (q : Place) → is_still q ≡ true → place_of j v ≡ Some q → (place_of j s ≡ Some q) × (op_progress_of j v ≡ op_progress_of j s)
  placed_still j q kind at = by_number j n _ (λ is. absurd (let here = own in grind (arith, here, at, is, kind, off))) (λ apart. (sym (other j apart) ∙ at, far j))

  placed_behind : CallersBehind v
  unfolding set_place on_thread
  placed_behind j g = by_number j n _ here (λ apart. let was = h.behind j g in let same = other j apart in let kept = kept_there g in grind (arith, was, same, kept))
    where
      kept_there : (g : ℕ) → is_there g v ≡ is_there g s
      kept_there g = grind (arith, nat_tests, get-change)

      here : j ≡ n → times j (callers_of g v) ≡ (if is_there g v then says (is_behind_of g) (place_of j v) else 0)
      here is = let was = h.behind n g in let none = not_behind g (place_of n s) behind_none in let at = own in grind (arith, was, none, at, is, off)

  placed_switch : SwitchReady v
  unfolding set_place on_thread
  placed_switch m is = let was = h.switch m is in let same = other m (apart_switch m is) in grind (arith, was, same)

  placed_ended : (sub : Subtask) → is_ended_work sub v ≡ is_ended_work sub s
  unfolding set_place on_thread
  placed_ended sub = ended_as sub s v refl

  pub placed_moves : (CallersGoOn s → CallersGoOn v) → ((y : ℕ) → is_woken_at y n s ≡ true → is_woken_at y n v ≡ true) → Moves s v
  placed_moves callers woken = record {
    callers = callers;
    still = placed_still;
    admits = λ j w at. placed_admits n p s j w;
    events = λ j sub at. inl (placed_events n p s sub).0;
    works = placed_ended;
    counts = λ y i now was. Quiet (λ sub on. let r = placed_events n p s sub in member_as y sub s v r.0 r.1 on) (stays_woken y);
    behind = λ b. placed_behind;
    switch = λ b. placed_switch;
  }
    where
      stays_woken : (y j : ℕ) → is_woken_at y j s ≡ true → is_woken_at y j v ≡ true
      stays_woken y j on = by_number j n _ (λ is. ap (λ (i : ℕ). is_woken_at y i v) is ∙ woken y (ap (λ (i : ℕ). is_woken_at y i s) (sym is) ∙ on))
          (λ apart. woken_at y j v ∙ (ap (λ (o : Option Place). woken_place y o (op_progress_of j v)) (other j apart) ∙ (ap (λ (f : OpProgress). woken_place y (place_of j s) f) (far j) ∙ (sym (woken_at y j s) ∙ on))))

pub run_keeps : RunKeeps
unfolding RunKeeps
run_keeps n s may h = moves_keep (placed_moves n Place.Running s refl may.there may.switch may.behind h
    (callers_kept nobody s t (none_leaves s t) (λ j. by_number j n _ (λ is. inr (inl (suc zero, grind (arith, at, is)))) (λ apart. inl (other n Place.Running s refl may.there may.switch may.behind h j apart))))
    (λ y on. woken_at y n t ∙ (ap (λ (o : Option Place). woken_place y o (op_progress_of n t)) at ∙ (ap (is_inside_wait y) (far n Place.Running s refl may.there may.switch may.behind h n) ∙ may.inside y on)))) h
  where
    t : Core
    t = set_place n Place.Running s

    at : place_of n t ≡ Some Place.Running
    at = own n Place.Running s refl may.there may.switch may.behind h

pub suspend_keeps : SuspendKeeps
unfolding SuspendKeeps
suspend_keeps n s may h = moves_keep (placed_moves n Place.Suspended s refl there apart behind_none h
    (callers_kept (Down s n) s t leaves (λ j. by_number j n _ (λ is. inr (inr (subst (λ (i : ℕ). Down s n i) (sym is) (Here n)))) (λ else_where. inl (other n Place.Suspended s refl there apart behind_none h j else_where))))
    (λ y on. absurd (let was = sym (woken_at y n s) ∙ on in let runs = may.runs in let out = may.outside y in grind (arith, was, runs, out)))) h
  where
    t : Core
    t = set_place n Place.Suspended s

    there : is_there n s ≡ true
    there = ap (λ (o : Option Place). is_some o) may.runs

    behind_none : (f : ℕ) → place_of n s ≡ Some (Place.Behind f) → ⊥
    behind_none f at = absurd (let runs = may.runs in grind (arith, runs, at))

    apart : (m : ℕ) → s.queues.switch ≡ Some m → (m == n) ≡ false
    apart m is = by_number m n _ (λ e. absurd (let ready = h.switch m is in let runs = may.runs in grind (arith, ready, runs, e))) (λ else_where. else_where)

    down_there : (g : ℕ) → Down s n g → is_there g s ≡ true
    down_there g d = ⊎_elim (λ e. ap (λ (i : ℕ). is_there i s) (sym e) ∙ there) (λ m. ap (λ (o : Option Place). is_some o) m.1) (last_under n g d)

    leaves : Leaves (Down s n) s t
    leaves = record {
      behind = λ j g at d.
          let foot = lowest s may.strands.below may.strands.alone n g d (λ k under. may.feet j k g at under) in
          let none : callers_of g s ≡ [] = ap (λ (i : ℕ). callers_of i s) (sym foot) ∙ may.callers in
          let list = h.behind j g in let here = down_there g d in absurd (grind (arith, nat_tests, none, list, here, at));
      under = λ j m at d. down_further s n m j d at;
      ends = λ j f at d. ⊎_elim (λ e. absurd (let now = own n Place.Suspended s refl there apart behind_none h in grind (arith, now, at, e)))
          (λ m. absurd (let under = m.1 in let runs = may.runs in by_number j n _ (λ e. absurd (grind (arith, under, runs, e)))
          (λ else_where. absurd (let same = other n Place.Suspended s refl there apart behind_none h j else_where in grind (arith, same, under, at))))) (last_under n j d);
    }

-- who may come to run may do so once another one is suspended
pub suspended_runs : (m n : ℕ) (s : Core) → (m == n) ≡ false → MayComeToRun n s → MayComeToRun n (set_place m Place.Suspended s)
unfolding set_place on_thread
suspended_runs m n s apart may = record {
  there = let was = may.there in grind (arith, nat_tests, get-change, was, apart);
  switch = may.switch;
  behind = λ f at. may.behind f (grind (arith, nat_tests, get-change, at, apart));
  inside = λ x on. let far : op_progress_of n (set_place m Place.Suspended s) ≡ op_progress_of n s = grind (arith, nat_tests, get-change) in
      ap (is_inside_wait x) far ∙ may.inside x (grind (arith, nat_tests, get-change, on, apart));
}
