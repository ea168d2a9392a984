use Rattle.std.proofs.Common.{ap, subst, sym, ◌∙◌}
use Rattle.store_works.specs.KeptWorks.{held}
use Rattle.machine_data.specs.Core.{Core}
use Rattle.machine_data.specs.Read.{phase_of}
use Rattle.machine_data.specs.Write.{set_phase}
use Rattle.machine_data.specs.declared.statuses.Phase.{Phase}
use Rattle.machine_rules.specs.Cancels.{aborted_phase}
use Rattle.machine_rules.specs.MainOps.{main_aborted}
use Rattle.task_store.proofs.HostLemmas.{found_is, holds_aborted}
use Rattle.task_store.proofs.SpawnLemmas.{spawn_caller}
use Rattle.task_store.proofs.spawn.SpawnHandle.abort.Goals as goal
use Rattle.task_store.specs.Hosts.{HoldsWorks, held_by}
use Rattle.ops_turns.proofs.SpawnLemmas.{abort_in_order}
use Rattle.ops_turns.specs.Turn.{CoreInOrder}
use Rattle.core_primitives.specs.StateView.{StateView, on_core, work_of}

pub returns-clause-phase : goal.returns-clause-phase
returns-clause-phase g c =
    let store = c.args.store.now in
    c.abort-phase.ensures.found ∙ found_is c.args.self.now.number store.state.core (held_by g.H.HostWork.course store) (spawn_caller c.args.self.now.number store.state.core c.requires.spawned.there) c.requires.hosts

-- the state after the abort
pub aborted : goal.returns-clause-state
unfolding main_aborted
aborted g c =
    let store = c.args.store.now in
    let s = store.state in
    let spawned = c.requires.spawned in
    let number = spawned.named in
    let found = c.abort-phase.ensures.found ∙ found_is c.args.self.now.number s.core (held_by g.H.HostWork.course store) (spawn_caller c.args.self.now.number s.core spawned.there) c.requires.hosts in
    let phase = c.after_abort.ensures ∙ ap aborted_phase (found ∙ ap (λ n. phase_of n s.core) (sym number)) in
    let state = c.set_phase.ensures ∙ ap (λ (p : Phase). on_core (set_phase (work_of s c.args.self.now.work) p) s) phase ∙ ap (λ n. on_core (set_phase n (aborted_phase (phase_of n s.core))) s) number in
    ap (λ (v : StateView). record store { works = c.abort-phase.new.self; state = v }) state

pub returns-clause-state : goal.returns-clause-state
returns-clause-state = aborted

pub returns-clause-hosts : goal.returns-clause-hosts
returns-clause-hosts g c =
    let store = c.args.store.now in
    let state = ap (λ k. k.state.core) (aborted g c) in
    subst (λ (s : Core). HoldsWorks (held g.H.HostWork.course c.abort-phase.new.self) s) (sym state)
    (holds_aborted c.args.self.now.number store.state.core (held_by g.H.HostWork.course store) (held g.H.HostWork.course c.abort-phase.new.self) (spawn_caller c.args.self.now.number store.state.core c.requires.spawned.there) c.abort-phase.ensures.held c.requires.hosts)

pub returns-clause-order : goal.returns-clause-order
returns-clause-order g c d p in_turn =
    let s = c.args.store.now.state.core in
    let state = ap (λ k. k.state.core) (aborted g c) in
    subst (λ (u : Core). CoreInOrder d p u) (sym state) (abort_in_order d p c.args.self.now.number s c.requires.spawned.there in_turn)
