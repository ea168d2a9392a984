-- Each step owes of the ends what it should, and so each run has each end once.
use Rattle.machine_data.specs.declared.scenario.Version.{Version}
use Rattle.laws_places.proofs.Laws.{[], abort_kept, AbortsOwn, along, Answered, ap, arith, base_at, base_is, CallsFound, codes_at, Core, Due, due_over, ends_go, ends_once, EndStep, EndsTold, first_works, fresh, get, get-empty, HasValue, op_progress_of, OpProgress, InOrder, instance_of, is_some, is_spawn, is_sync_work, Label, le_refl, Main, main_opening, MainPlace, MayAbort, MayBeAborted, named_other, of_base, opening, opening_ends_told, opening_works, OpeningInOrder, Over, ProgramAborts, refl, return_step, runner_there, SameMain, Scene, scene_of, ScriptAborts, Scripted, Setting, slice_get, Some, spawned_at, State, Status, Step, step_ends, step_walks, subst, Subtask, subtask_at, suc, sym, task_of, Thread, true, Unscripted, unwrap_or, Walked, work_caller_of, WorkCaller, works_primitive, WorksGo, WorksHold, zero, ℕ, ⊎_elim, ◌-◌, ◌≡◌}
use Rattle.laws_places.proofs.OrderLemmas.{asked, held_of, opening_in_order, step_in_order}
use Rattle.laws_places.specs.Once.{IsUnbegun, RunsAreOnce}

-- what is to be handed out has ended
abbrev DueOver : Core → Type 0
DueOver s = (sub : Subtask) (e : Status) → Due sub e s → Over sub s

record Known (x : Setting) (s : State) : Type 0 where
  order : InOrder x.component s
  told : EndsTold s.core
  works : WorksHold (Unit {0}) s.core
  -- what main names as a spawn may be aborted
  spawns : (p : MainPlace) (j : ℕ) → s.main ≡ Scripted p → MayBeAborted s.core (spawned_at p j)
  zero : MayBeAborted s.core 0
  over : DueOver s.core

spawn_is : {S : Type 0} {s : Core} → WorksHold S s → (i : ℕ) → is_spawn i s ≡ true → MayBeAborted s i
spawn_is h i is = record { made = h.stand.number i (grind arith); other = grind arith }

module _ (x : Setting) (s : State) (l : Label) (t : State) (k : Known x s) (step : Step x s l t) where
  w : Walked x s l t
  w = step_walks x s l t step

  abbrev a : Scene
  a = scene_of x s l w.next

  to_base : (P : Core → Type 0) → P (record s.core { queues = (base_at s.turn s.core).queues }) → P a.base
  to_base P p = of_base P s.turn s.core p

  from_base : (P : Core → Type 0) → P a.base → P (record s.core { queues = (base_at s.turn s.core).queues })
  from_base P p = subst P (base_is s.turn s.core) p

  at_base : (i : ℕ) → MayBeAborted s.core i → MayBeAborted a.base i
  at_base i q = to_base (λ c. MayBeAborted c i) (record { made = q.made; other = q.other })

  names_base : (i h j : ℕ) → subtask_at i h a.base ≡ Some (Subtask.Host j) → MayBeAborted a.base j
  names_base i h j e = at_base j (named_other s.core (record { known = k.order.works_known; number = k.order.works.made }) i h j
      (from_base (λ c. subtask_at i h c ≡ Some (Subtask.Host j)) e))

  -- nothing that is aborted is a sync call's
  unsync : (i : ℕ) → MayAbort a i → MayBeAborted a.base i
  unsync i (AbortsOwn (n, (h, (runner, named)))) = names_base (instance_of n a.base) h i named
  unsync i (ScriptAborts p j main is) = at_base i (rw is (k.spawns p j main))
  unsync i (ProgramAborts main is) = at_base i (spawn_is k.works i (from_base (λ c. is_spawn i c ≡ true) is))

  -- the works, and which of them may be aborted
  works_after : WorksGo (Unit {0}) a t.core × ((i : ℕ) → MayBeAborted s.core i → MayBeAborted t.core i)
  works_after = along (λ u. WorksGo (Unit {0}) a u × ((i : ℕ) → MayBeAborted s.core i → MayBeAborted u i))
      (λ v u ok q. (works_primitive (λ y. unsync) v u ok q.0, λ i h. abort_kept a v u ok i (q.1 i h)))
      (first_works x s l w.next k.works, λ i h. h) w.walk

  spawns_after : (p : MainPlace) (j : ℕ) → t.main ≡ Scripted p → MayBeAborted t.core (spawned_at p j)
  spawns_after p j at = by s.main refl t.main at w.main
    where
      by : (m : Main) → s.main ≡ m → (n : Main) → n ≡ Scripted p → SameMain m t.core n → MayBeAborted t.core (spawned_at p j)
      by (Scripted o) was (Scripted q) is same =
          let e : q ≡ p = cc in
          subst (λ r. MayBeAborted t.core (spawned_at r j)) e
          (⊎_elim (λ n. subst (MayBeAborted t.core) (sym n.1) (works_after.1 (spawned_at o n.0) (k.spawns o n.0 was)))
          (λ spawn. spawn_is works_after.0.holds (spawned_at q j) spawn) (same j))
      by m was n is same = absurd (grind arith)

  called : (n i : ℕ) → op_progress_of n a.base ≡ OpProgress.Calls (Subtask.Host i) → work_caller_of i a.base ≡ WorkCaller.Sync n
  called = to_base (λ c. (n i : ℕ) → op_progress_of n c ≡ OpProgress.Calls (Subtask.Host i) → work_caller_of i c ≡ WorkCaller.Sync n)
      (λ n i far. (k.order.works_known.called n i far).1)

  answered : Answered a
  answered n i runner far = (ap (λ c. is_sync_work c) (called n i far), (asked x s l t k.order w (codes_at x s k.order.codes) n i runner far).1)

  found : CallsFound a
  found = record {
    own = λ n runner. let there = runner_there x s l w.next k.order.in_place n runner in
        to_base (λ c. is_some (get c.calls (task_of n c)) ≡ true) (grind (arith, k.order.calls_there n (task_of n s.core)));
    named = λ j named. to_base (λ c. (i h : ℕ) → subtask_at i h c ≡ Some (Subtask.Guest j) → is_some (get c.calls j) ≡ true)
        (λ i h e. let there = k.order.names.there i h j e in grind arith) (instance_of named.0 a.base) named.1.0 named.1.1.1;
  }

  end_step : (sub : Subtask) → EndStep x.component (record { before = s; label = l; after = t }) sub
  end_step = step_ends x s l t k.order.codes (held_of k.order) k.told step w k.works works_after.0 found k.over answered

  known_after : Known x t
  known_after = record {
    order = step_in_order x s l t k.order step;
    told = (ends_go (codes_at x s k.order.codes) (held_of k.order) k.told w).1.told;
    works = works_after.0.holds;
    spawns = spawns_after;
    zero = works_after.1 0 k.zero;
    over = λ sub e due. due_over (end_step sub) e ((end_step sub).comes e due);
  }

none_due : (rules : Version) (instances handle_limit capacity : ℕ) (sub : Subtask) (e : Status) → Due sub e (fresh rules instances handle_limit capacity) → ⊥
unfolding fresh
none_due rules instances handle_limit capacity (Subtask.Guest j) e due = absurd (grind (arith, get-empty))
none_due rules instances handle_limit capacity (Subtask.Host i) e due = absurd (grind (arith, get-empty))

none_held : (rules : Version) (instances handle_limit capacity : ℕ) (n : ℕ) → HasValue n (fresh rules instances handle_limit capacity) → ⊥
unfolding fresh
none_held rules instances handle_limit capacity n has = let o = get-empty {X = Thread} n in absurd (cc)

zero_unmade : (rules : Version) (instances handle_limit capacity : ℕ) → MayBeAborted (fresh rules instances handle_limit capacity) 0
unfolding fresh
zero_unmade rules instances handle_limit capacity = record { made = le_refl _; other = grind (arith, get-empty) }

opening_spawns : (rules : Version) (instances handle_limit capacity : ℕ) (main : Main) → IsUnbegun main → (p : MainPlace) (j : ℕ) → main ≡ Scripted p →
    MayBeAborted (fresh rules instances handle_limit capacity) (spawned_at p j)
opening_spawns rules instances handle_limit capacity Unscripted begun p j is = absurd (cc)
opening_spawns rules instances handle_limit capacity (Scripted q) begun p j is = let e : p ≡ main_opening = cc in rw e (none_spawned (j - 1))
  where
    none_spawned : (n : ℕ) → MayBeAborted (fresh rules instances handle_limit capacity) (unwrap_or (slice_get [] n) 0)
    none_spawned zero = zero_unmade rules instances handle_limit capacity
    none_spawned (suc n) = zero_unmade rules instances handle_limit capacity

pub runs_are_once : RunsAreOnce
unfolding OpeningInOrder RunsAreOnce
runs_are_once x codes rules instances handle_limit capacity main begun ls t run =
    let s : State = opening rules instances handle_limit capacity main in
    ends_once x (Known x) (λ s l t k step. known_after x s l t k step) (λ s l t k step sub. end_step x s l t k step sub)
    (λ s l t k step. return_step x s l t (w x s l t k step)) s
    (record {
      order = opening_in_order x.component codes rules instances handle_limit capacity main;
      told = opening_ends_told rules instances handle_limit capacity;
      works = opening_works rules instances handle_limit capacity;
      spawns = opening_spawns rules instances handle_limit capacity main begun;
      zero = zero_unmade rules instances handle_limit capacity;
      over = λ sub e due. absurd (none_due rules instances handle_limit capacity sub e due);
    }) (λ sub e due. none_due rules instances handle_limit capacity sub e due) (none_held rules instances handle_limit capacity) ls t run
