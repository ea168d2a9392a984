-- The work is queued and held, or none is made.
use Rattle.std.proofs.Common.{ap, ap₂, rules, subst, sym, ◌∙◌}
use Rattle.std.specs.Prelude.{None, cond, ℕ, ◌+◌, ◌==◌, ◌≡◌}
use Rattle.store_works.specs.KeptWorks.{held}
use Rattle.machine_data.specs.Core.{Core}
use Rattle.machine_data.specs.declared.records.MadeCounts.{MadeCounts}
use Rattle.machine_data.specs.declared.records.WorkCaller.TheVariants as work_callers
use Rattle.task_store.proofs.HostLemmas.{holds_queued}
use Rattle.task_store.proofs.SpawnLemmas.{spawned_in}
use Rattle.task_store.proofs.store.Store.spawn.Goals as goal
use Rattle.task_store.specs.Hosts.{HoldsWorks, held_by, running}
use Rattle.ops_turns.proofs.SpawnLemmas.{spawn_in_order}
use Rattle.ops_turns.specs.Turn.{CoreInOrder}

pub returns-in-Ok-queue_spawn : goal.returns-in-Ok-queue_spawn
returns-in-Ok-queue_spawn g c =
    let store = c.args.self.now in
    let s = store.state.core in
    let d = c.left-left.result in
    let left = held_by g.H.HostWork.course store in
    let right = held g.H.HostWork.course c.keep.new.self in
    let is : (i : ℕ) → right i ≡ cond (s.made.works + 1 == i) (running d) (left i) =
    λ i. c.in-Ok.ensures.ok i ∙ ap₂ (λ k e. cond (k == i) (running e) (left i)) (ap (λ (m : MadeCounts). m.works + 1) c.made-number.ensures) (sym c.left-left.ensures) in
    let number = ap (λ (m : MadeCounts). m.works + 1) c.made-number.ensures in
    let named = c.in-Ok-queue_spawn.ensures.0 ∙ sym number in
    let made = c.in-Ok-queue_spawn.ensures.1 in
    record {
      spawns = record {
        number = number;
        named = named;
        spawned = spawned_in _ s d c.queue_spawn.new.self number named made.core;
        core = search rules;
        current = made.current;
        tags = made.tags;
        order = λ e p in_turn. subst (λ (u : Core). CoreInOrder e p u) (sym made.core) (spawn_in_order e p d s in_turn);
        hosts = λ numbered h. subst (λ (u : Core). HoldsWorks right u) (sym made.core) (holds_queued work_callers.Spawn d None s left right is h);
        rest = search rules;
        out_of_memory = tt;
        err = tt;
      };
    }
