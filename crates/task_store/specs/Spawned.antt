-- The works that a host spawns.
use Rattle.futures.specs.declared.task.Poll.{Poll}
use Rattle.futures.specs.declared.task.Poll.TheVariants as polls
use Rattle.std.proofs.Common.{ap, subst, sym, ⊎_elim, ◌∙◌}
use Rattle.std.specs.Option.{option_map_or}
use Rattle.std.specs.Prelude.{◌≡◌, ◌<◌, ℕ, Bool, None, Option, false, true}
use Rattle.machine_data.specs.Maps.{get}
use Rattle.machine_data.specs.declared.records.Work.{Work}
use Rattle.machine_data.specs.declared.statuses.Phase.{Phase}
use Rattle.machine_data.specs.declared.statuses.Phase.TheVariants as phases
use Rattle.machine_rules.specs.MainOps.{is_spawn, is_spawn_caller}
use Rattle.task_store.specs.declared.spawn.SpawnHandle.{SpawnHandle}
use Rattle.ops_turns.specs.Later.{WorksLast}
use Rattle.core_primitives.specs.StateView.{StateView, work_of}

-- The spawn was made in the state: its number is that of a spawned work, which is there, and which its id names.
pub record IsSpawnedIn (h : SpawnHandle) (s : StateView) : Type 0 where
  pub some : 0 < h.number
  pub there : is_spawn h.number s.core ≡ true
  pub named : work_of s h.work ≡ h.number

-- what a poll of a spawn answers
abbrev pub poll_of_phase : Phase → Poll (Unit {0})
poll_of_phase phases.Complete = polls.Ready tt
poll_of_phase _ = polls.Pending

-- it was made in later states, too
pub spawned_later : (h : SpawnHandle) (s t : StateView) → WorksLast s t → IsSpawnedIn h s → IsSpawnedIn h t
spawned_later h s t last q = record {
  some = q.some;
  there = last.spawns h.number q.there;
  named = ⊎_elim (λ same. same ∙ q.named) (λ gone. absurd (lost gone)) (last.names h.work (subst (λ (i : ℕ). 0 < i) (sym q.named) q.some));
}
  where
    is_false : Bool → Type 0
    is_false false = Unit {0}
    is_false true = ⊥

    lost : get t.core.works (work_of s h.work) ≡ None → ⊥
    lost gone =
        let none : get t.core.works h.number ≡ None = subst (λ (i : ℕ). get t.core.works i ≡ None) q.named gone in
        let there : false ≡ true = ap (λ (o : Option Work). option_map_or (λ (w : Work). is_spawn_caller w.caller) o false) (sym none) ∙ last.spawns h.number q.there in
        subst is_false there tt
