-- What main knows of its works stays.
use Rattle.vatbramble_host.specs.Asks.{KnowsSpawns, spawns_later}
use Rattle.std.proofs.Common.{ap, arith, get_or, subst, sym, ⊎_elim, ◌<◌}
use Rattle.std.specs.Prelude.{List, Some, [], length, slice_get, suc, zero, ℕ, ◌++◌, ◌∷◌, ◌≡◌}
use Rattle.task_loop.proofs.LastLemmas.{one_more}
use Rattle.task_store.specs.Spawned.{IsSpawnedIn}
use Rattle.task_store.specs.declared.spawn.SpawnHandle.{SpawnHandle}
use Rattle.ops_turns.specs.Later.{WorksLast}
use Rattle.core_primitives.specs.StateView.{StateView}

-- where the list is as before
pub spawns_same : (xs ys : List SpawnHandle) (s : StateView) → ys ≡ xs → KnowsSpawns xs s → KnowsSpawns ys s
spawns_same xs ys s is knows = subst (λ (zs : List SpawnHandle). KnowsSpawns zs s) (sym is) knows

-- where none was spawned
none_known : (k : ℕ) (h : SpawnHandle) → slice_get [] k ≡ Some h → ⊥
none_known zero h at = cc
none_known (suc k) h at = cc

pub spawns_none : (xs : List SpawnHandle) (s : StateView) → xs ≡ [] → KnowsSpawns xs s
spawns_none xs s is = subst (λ (zs : List SpawnHandle). KnowsSpawns zs s) (sym is) (λ k h at. absurd (none_known k h at))

-- what is at a place of a list
pub there_at : {A : Type 0} (xs : List A) (i : ℕ) (x : A) → i < length xs → x ≡ get_or xs i x → slice_get xs i ≡ Some x
there_at [] i x within is = absurd (omega (arith, within))
there_at {A} (y ∷ ys) zero x within is = ap (λ (z : A). Some z) (sym is)
there_at (y ∷ ys) (suc i) x within is = there_at ys i x (omega (arith, within)) is

-- a work that was looked up was spawned
pub spawned_at : (xs ys : List SpawnHandle) (k : ℕ) (h : SpawnHandle) (s : StateView) → ys ≡ xs → k < length ys → h ≡ get_or ys k h → KnowsSpawns xs s → IsSpawnedIn h s
spawned_at xs ys k h s same within is knows = knows k h (subst (λ (zs : List SpawnHandle). slice_get zs k ≡ Some h) same (there_at ys k h within is))

-- where one more was spawned
pub spawns_more : (xs : List SpawnHandle) (h : SpawnHandle) (s t : StateView) → WorksLast s t → KnowsSpawns xs s → IsSpawnedIn h t → KnowsSpawns (xs ++ h ∷ []) t
spawns_more xs h s t last knows spawned k g at =
    ⊎_elim (λ old. spawns_later xs s t last knows k g old) (λ same. subst (λ (q : SpawnHandle). IsSpawnedIn q t) same spawned) (one_more xs h g k at)
