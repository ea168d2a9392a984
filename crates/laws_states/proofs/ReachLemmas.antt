-- What each primitive of a step keeps holds in each reached state.
use Rattle.machine_data.specs.declared.scenario.Version.{Version}
use Rattle.laws_states.proofs.Rules.{[], after_primitive, Allowed, along, arith, Core, filled, fresh, get, get-empty, get-insert, Label, List, nat_tests, opening, Reached, Run, run_goes_on, Scene, scene_of, Setting, Some, State, Step, step_walks, sym, Primitive, ℕ, ◌++◌, ◌∙◌, ◌∷◌, ◌≡◌}
use Rattle.laws_states.proofs.Basics.{some_none}

-- what each step keeps holds along a run
pub run_keeps : (x : Setting) (I : State → Type 0) → ((s : State) (l : Label) (t : State) → Step x s l t → I s → I t) → (s : State) → I s →
    (ls : List Label) (t : State) → Run x s ls t → I t
run_keeps x I kept s i [] t run = rw run i
run_keeps x I kept s i (l ∷ ls) t run = run_keeps x I kept run.0 (kept s l run.0 run.1.0 i) ls t run.1.1

pub reached_keeps : {x : Setting} {s : State} (r : Reached x s) (I : State → Type 0) →
    ((s : State) (l : Label) (t : State) → Step x s l t → I s → I t) → I (opening r.version r.instances r.handle_limit r.capacity r.main) → I s
reached_keeps {x = x} {s = s} r I kept i = run_keeps x I kept _ i r.labels s r.run

pub reached_step : {x : Setting} (s : State) (l : Label) (t : State) → Reached x s → Step x s l t → Reached x t
reached_step {x = x} s l t r step = record {
  scripts = r.scripts;
  version = r.version;
  instances = r.instances;
  handle_limit = r.handle_limit;
  capacity = r.capacity;
  main = r.main;
  labels = r.labels ++ l ∷ [];
  run = run_goes_on x (opening r.version r.instances r.handle_limit r.capacity r.main) r.labels s l t r.run step;
}

-- so does what each primitive keeps
pub reached_kept : (R : Core → Type 0) → ((rules : Version) (instances handle_limit capacity : ℕ) → R (fresh rules instances handle_limit capacity)) →
    ((a : Scene) (w : Primitive) (s : Core) → Allowed a w s → R s → R (after_primitive w s)) → {x : Setting} {s : State} → Reached x s → R s.core
reached_kept R first kept {x = x} r = reached_keeps r (λ s. R s.core)
    (λ s l t step h. let c = step_walks x s l t step in along R (kept (scene_of x s l c.next)) h c.walk)
    (first r.version r.instances r.handle_limit r.capacity)

-- a map that has one record at each number
pub filled_with : {X : Type 0} {x : X} (n i : ℕ) (y : X) → get (filled x n) i ≡ Some y → y ≡ x
filled_with ℕ.zero i y is = some_none (sym is ∙ get-empty i)
filled_with {x = x} (ℕ.suc n) i y is = let rest = filled_with {x = x} n i y in grind (arith, nat_tests, get-insert)
