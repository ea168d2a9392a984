use Rattle.std.proofs.Common.{subst}
use Rattle.beside_main.proofs.RoundLemmas.{caller_told}
use Rattle.core_primitives.specs.Live.{live_work_caller}
use Rattle.core_primitives.specs.Names.{work_caller_in}
use Rattle.core_primitives.specs.StateView.{work_of}
use Rattle.core_primitives.specs.declared.names.WorkCallerId.{WorkCallerId}
use Rattle.core_primitives.specs.declared.names.WorkCallerId.TheVariants as ids
use Rattle.machine_data.specs.Read.{work_caller_of}
use Rattle.std.specs.Prelude.{◌≡◌}
use Rattle.beside_main.proofs.round.is_spawn.Goals as goal

pub returns-in-Spawn : goal.returns-in-Spawn
returns-in-Spawn c =
    let s = c.args.store.now.state in
    let w = work_caller_of (work_of s c.args.work) s.core in
    caller_told s.tags ids.Spawn w s.core (subst (λ (r : WorkCallerId). work_caller_in s.tags r ≡ live_work_caller w s.core) c.in-Spawn.is c.work_caller.ensures)

pub returns-in-Async : goal.returns-in-Async
returns-in-Async c =
    let s = c.args.store.now.state in
    let w = work_caller_of (work_of s c.args.work) s.core in
    caller_told s.tags (ids.Async c.in-Async.thread c.in-Async.register) w s.core (subst (λ (r : WorkCallerId). work_caller_in s.tags r ≡ live_work_caller w s.core) c.in-Async.is c.work_caller.ensures)

pub returns-in-Sync : goal.returns-in-Sync
returns-in-Sync c =
    let s = c.args.store.now.state in
    let w = work_caller_of (work_of s c.args.work) s.core in
    caller_told s.tags (ids.Sync c.in-Sync.field-0) w s.core (subst (λ (r : WorkCallerId). work_caller_in s.tags r ≡ live_work_caller w s.core) c.in-Sync.is c.work_caller.ensures)
