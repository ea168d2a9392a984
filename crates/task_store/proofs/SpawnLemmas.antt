-- Spawned works.
use Rattle.std.proofs.Common.{ap, ap₂, arith, refl, subst, sym, ◌∙◌}
use Rattle.std.proofs.lemmas.Bool.Decides.{nat_tests}
use Rattle.std.specs.Option.{option_map_or}
use Rattle.std.specs.Prelude.{None, Option, Some, false, true, ℕ, ◌↔◌, ◌<◌, ◌≡◌}
use Rattle.machine_data.proofs.CommuteLemmas.{get-change}
use Rattle.machine_data.specs.Core.{Core}
use Rattle.machine_data.specs.Maps.{Records, change, get, get-insert, same_map}
use Rattle.machine_data.specs.Read.{phase_of, work_caller_of}
use Rattle.machine_data.specs.Write.{add_work, count_work, on_work, push_high, set_phase}
use Rattle.machine_data.specs.declared.component.HostDef.{HostDef}
use Rattle.machine_data.specs.declared.records.Work.{Work}
use Rattle.machine_data.specs.declared.records.WorkCaller.{WorkCaller}
use Rattle.machine_data.specs.declared.records.WorkCaller.TheVariants as callers
use Rattle.machine_data.specs.declared.statuses.Phase.TheVariants as phases
use Rattle.machine_rules.specs.Calls.{next_work, work_queued}
use Rattle.machine_rules.specs.Cancels.{aborted_phase}
use Rattle.machine_rules.specs.MainOps.{is_spawn, is_spawn_caller, main_aborted}
use Rattle.futures.specs.declared.task.Poll.{Poll}
use Rattle.futures.specs.declared.task.Poll.TheVariants as polls
use Rattle.machine_data.specs.declared.statuses.Phase.{Phase}
use Rattle.task_store.specs.Spawned.{IsSpawnedIn, poll_of_phase}
use Rattle.task_store.specs.declared.spawn.SpawnHandle.{SpawnHandle}
use Rattle.core_primitives.specs.StateView.{StateView, work_of}

-- a write of what isn't there changes nothing
absent : {X : Type 0} (m : Records X) (i : ℕ) (f : X → X) → get m i ≡ None → change i f m ≡ m
absent m i f none = same_map (change i f m) m (λ q. grind (arith, nat_tests, get-change, none))

pub gone_aborted : (i : ℕ) (s : Core) → get s.works i ≡ None → main_aborted i s ≡ s
unfolding main_aborted set_phase on_work
gone_aborted i s none = ap (λ (ws : Records Work). record s { works = ws }) (absent s.works i (λ w. record w { phase = aborted_phase (phase_of i s) }) none)

-- who called a spawned work is main
pub spawn_caller : (i : ℕ) (s : Core) → is_spawn i s ≡ true → work_caller_of i s ≡ callers.Spawn
spawn_caller i s is = by (get s.works i) is
  where
    own : (f : WorkCaller) → is_spawn_caller f ≡ true → f ≡ callers.Spawn
    own callers.Spawn h = refl
    own (callers.Async n q) h = absurd (cc)
    own (callers.Sync n) h = absurd (cc)

    by : (o : Option Work) → option_map_or (λ (w : Work). is_spawn_caller w.caller) o false ≡ true → option_map_or (λ (w : Work). w.caller) o callers.Spawn ≡ callers.Spawn
    by None h = absurd (cc)
    by (Some w) h = own w.caller h

-- a work that was just queued is main's
queued_spawn : (d : HostDef) (s : Core) → is_spawn (next_work s) (work_queued callers.Spawn d None s) ≡ true
unfolding work_queued push_high add_work count_work
queued_spawn d s = grind (arith, nat_tests, get-insert)

-- a work that was just queued is spawned
pub spawned_in : (h : SpawnHandle) (s : Core) (d : HostDef) (t : StateView) → h.number ≡ next_work s → work_of t h.work ≡ h.number → t.core ≡ work_queued callers.Spawn d None s → IsSpawnedIn h t
unfolding work_queued push_high add_work count_work
spawned_in h s d t number named core = record {
  some = subst (λ (n : ℕ). 0 < n) (sym number) (omega arith);
  there = ap₂ (λ (k : ℕ) (u : Core). is_spawn k u) number core ∙ queued_spawn d s;
  named = named;
}

complete_ready : (p : Phase) → p ≡ phases.Complete → ◌≡◌ {A = Poll (Unit {0})} (polls.Ready tt) (poll_of_phase p)
complete_ready phases.Running is = absurd (cc)
complete_ready phases.AbortRequested is = absurd (cc)
complete_ready phases.Complete is = refl

other_pending : (p : Phase) → (p ≡ phases.Complete → ⊥) → ◌≡◌ {A = Poll (Unit {0})} polls.Pending (poll_of_phase p)
other_pending phases.Running never = refl
other_pending phases.AbortRequested never = refl
other_pending phases.Complete never = absurd (never refl)

-- ready just where the phase is complete
pub poll_is : (r : Poll (Unit {0})) (p : Phase) → (r ≡ polls.Ready tt) ↔ (p ≡ phases.Complete) → r ≡ poll_of_phase p
poll_is (polls.Ready u) p h = complete_ready p (h.0 refl)
poll_is polls.Pending p h = other_pending p (λ is. let e = h.1 is in cc)
