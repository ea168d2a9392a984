-- A spawn and aborts leave the groups.
use Rattle.std.proofs.Common.{refl, ◌∙◌}
use Rattle.std.specs.Prelude.{List, None, Option, Some, [], ℕ, ◌∷◌, ◌≡◌}
use Rattle.machine_data.specs.Core.{Core}
use Rattle.machine_data.specs.Write.{add_work, count_work, on_work, push_high, set_phase}
use Rattle.machine_data.specs.declared.component.HostDef.{HostDef}
use Rattle.machine_data.specs.declared.records.WorkCaller.TheVariants as callers
use Rattle.task_nursery.specs.Scope.{aborted_at, those_aborted}
use Rattle.task_nursery.specs.declared.children.Kept.{Kept}
use Rattle.task_nursery.specs.declared.children.Kept.TheVariants as kept
use Rattle.machine_rules.specs.Calls.{work_queued}
use Rattle.machine_rules.specs.MainOps.{main_aborted}

pub groups_queued : (d : HostDef) (s : Core) → (work_queued callers.Spawn d None s).groups ≡ s.groups
unfolding work_queued push_high add_work count_work
groups_queued d s = refl

one_aborted : (i : ℕ) (s : Core) → (main_aborted i s).groups ≡ s.groups
unfolding main_aborted set_phase on_work
one_aborted i s = refl

at_aborted : (o : Option Kept) (s : Core) → (aborted_at o s).groups ≡ s.groups
at_aborted None s = refl
at_aborted (Some (kept.Work work)) s = one_aborted work.number s
at_aborted (Some (kept.Call f call)) s = refl
at_aborted (Some (kept.Returned v)) s = refl
at_aborted (Some kept.Ended) s = refl

pub groups_aborted : (at : ℕ → Option Kept) (ns : List ℕ) (s : Core) → (those_aborted at ns s).groups ≡ s.groups
groups_aborted at [] s = refl
groups_aborted at (n ∷ ns) s = groups_aborted at ns (aborted_at (at n) s) ∙ at_aborted (at n) s
