-- What the cells answer of a poll, and of main's turn.
use Rattle.beside_main.proofs.CallLemmas.{adds_none}
use Rattle.beside_main.proofs.RisingLemmas.{place_calls}
use Rattle.beside_main.specs.Calls.{Adds, AreNoted, CallsMade, HasCalled, IsOpenAt, IsPlaceOf, IsRising, PollsCell, on_place}
use Rattle.beside_main.specs.declared.asked.Cells.{Cells}
use Rattle.beside_works.specs.declared.cells.SharedSpawn.{SharedSpawn}
use Rattle.core_primitives.specs.StateView.{StateView}
use Rattle.laws_beside.specs.Shown.{calls_of_op}
use Rattle.machine_data.specs.declared.memory.NoMemory.{NoMemory}
use Rattle.machine_data.specs.declared.scenario.MainOpDef.{MainOpDef}
use Rattle.machine_data.specs.declared.scenario.MainOpDef.TheVariants as main_op
use Rattle.std.proofs.Common.{ap, refl, subst, sym, ◌∙◌}
use Rattle.std.specs.Global.{Vec}
use Rattle.std.specs.Prelude.{Bool, Err, IfSome, List, None, Ok, OnOk, Option, Result, Some, [], true, ℕ, ◌<◌, ◌∷◌, ◌≡◌}
use Rattle.task_abort.specs.declared.log.PhaseCall.TheVariants.{Abort, PollFuture, PollHandle}
use Rattle.task_loop.specs.Beside.{IsFound}
use Rattle.task_run.specs.Asked.{HasAskedOp}
use Rattle.task_run.specs.Script.{place_of}
use Rattle.task_run.specs.Spawns.{KnowsSpawns}
use Rattle.task_run.specs.declared.script.ScriptMain.{ScriptMain}
use Rattle.task_store.specs.Spawned.{IsSpawnedIn}
use Rattle.task_store.specs.declared.spawn.SpawnHandle.{SpawnHandle}

-- ---- A poll

-- where the numbers of the spawns have this one
abbrev pub Finds : ℕ → Option ℕ → List ℕ → Type 0
Finds i o ns = (last : ℕ) → IsRising 0 ns last → IsPlaceOf i o ns

found_at : (i : ℕ) (o : Option ℕ) (m : ScriptMain) (a : Cells) → Finds i o a.spawns.numbers.items → AreNoted m a.spawns → (last : ℕ) → IsRising 0 (place_of m).spawns last → IsPlaceOf i o (place_of m).spawns
found_at i o m a finds noted last rises =
    subst (λ (ns : List ℕ). IsPlaceOf i o ns) noted.numbers (finds last (subst (λ (ns : List ℕ). IsRising 0 ns last) (sym noted.numbers) rises))

pub polls_none : (i : ℕ) (m : ScriptMain) (a : Cells) → Finds i None a.spawns.numbers.items → PollsCell i m a (record a { polled = None })
polls_none i m a finds some noted last rises = record {
  spawn = λ k calls one. place_calls (place_of m) i None k calls some (found_at i None m a finds noted last rises) one;
  adds = adds_none (λ k. []) 1 a.list.items (λ k le. refl);
  still = tt;
}

pub polls_some : (i p : ℕ) (m : ScriptMain) (a : Cells) (news : Vec SharedSpawn) → Finds i (Some p) a.spawns.numbers.items → Adds (on_place p (PollFuture ∷ [])) 1 a.list.items news.items → IsOpenAt p news.items →
    PollsCell i m a (record a { list = news; polled = Some p })
polls_some i p m a news finds adds still some noted last rises = record {
  spawn = λ k calls one. place_calls (place_of m) i (Some p) k calls some (found_at i (Some p) m a finds noted last rises) one;
  adds = adds;
  still = still;
}

pub is_found : (i : ℕ) (running : Bool) (m : ScriptMain) (s : StateView) (r : Option SpawnHandle) → IfSome r (λ h. ((t : StateView) → KnowsSpawns m t → IsSpawnedIn h t) × (h.number ≡ i)) → KnowsSpawns m s →
    running ≡ true → IfSome r (λ h. IsFound i running h s)
is_found i running m s None is knows runs = tt
is_found i running m s (Some h) is knows runs = (is.0 s knows, (is.1, runs))

-- ---- Main's turn

op_called : (o : Option MainOpDef) (a b : Cells) → HasAskedOp (HasCalled Abort) (HasCalled PollHandle) o a b → CallsMade (λ k. calls_of_op k o) a b
op_called (Some (main_op.Abort j)) a b asked = asked
op_called (Some (main_op.Await j)) a b asked = asked
op_called o a b asked = (
  subst (λ (d : Cells). Adds (λ k. calls_of_op k o) 1 a.list.items d.list.items) (sym asked) (adds_none (λ k. calls_of_op k o) 1 a.list.items (λ k le. refl)),
  ap (λ (d : Cells). d.polled) asked,
)

pub turn_called : (o : Option MainOpDef) (a b : Cells) (r : Result (Option ℕ) NoMemory) → OnOk r (HasAskedOp (HasCalled Abort) (HasCalled PollHandle) o a b) → OnOk r (CallsMade (λ k. calls_of_op k o) a b)
turn_called o a b (Ok found) asked = op_called o a b asked
turn_called o a b (Err e) asked = tt

-- nothing is polled in it
pub still_polled : {A E : Type 0} (P Q : Type 0) (r : Result A E) → Q → OnOk r P → OnOk r (P × Q)
still_polled P Q (Ok a) q p = (p, q)
still_polled P Q (Err e) q p = tt
