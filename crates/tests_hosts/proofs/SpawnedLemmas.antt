-- What a spawn and its abort leave of a new store.
use Rattle.machine_data.specs.declared.scenario.Version.TheVariants as version
use Rattle.std.proofs.Common.{arith, refl, subst, sym}
use Rattle.std.specs.Prelude.{None, ℕ, ◌≡◌}
use Rattle.machine_data.specs.Core.{Core, fresh}
use Rattle.machine_data.specs.Maps.{get-empty}
use Rattle.machine_data.specs.Write.{add_work, count_work, on_work, push_high, set_phase}
use Rattle.machine_data.specs.declared.component.HostDef.{HostDef}
use Rattle.machine_data.specs.declared.records.Work.{Work}
use Rattle.machine_data.specs.declared.records.WorkCaller.TheVariants as callers
use Rattle.machine_rules.specs.Calls.{work_queued}
use Rattle.machine_rules.specs.MainOps.{main_aborted}
use Rattle.task_store.specs.Hosts.{WorksNumbered}
use Rattle.ops_turns.specs.Turn.{given}

none_at_first : (n h k : ℕ) → WorksNumbered (fresh version.One n h k)
unfolding fresh
none_at_first n h k i is = absurd (let none = get-empty {X = Work} i in cc)

pub none_numbered : (s : Core) (n h k : ℕ) → s ≡ fresh version.One n h k → WorksNumbered s
none_numbered s n h k is = subst (λ (u : Core). WorksNumbered u) (sym is) (none_at_first n h k)

pub given_queued : (d : HostDef) (n h k : ℕ) → given (work_queued callers.Spawn d None (fresh version.One n h k)) ≡ 1
unfolding work_queued push_high add_work count_work fresh
given_queued d n h k = refl

pub given_aborted : (i : ℕ) (s : Core) → given (main_aborted i s) ≡ given s
unfolding main_aborted set_phase on_work
given_aborted i s = refl

pub groups_queued : (d : HostDef) (s : Core) → (work_queued callers.Spawn d None s).groups ≡ s.groups
unfolding work_queued push_high add_work count_work
groups_queued d s = refl

pub groups_aborted : (i : ℕ) (s : Core) → (main_aborted i s).groups ≡ s.groups
unfolding main_aborted set_phase on_work
groups_aborted i s = refl
