-- The machine is in the opening state.
use Rattle.machine_data.specs.Core.{Core, Scripted, fresh}
use Rattle.machine_data.specs.declared.records.Turn.TheVariants as turn
use Rattle.machine_data.specs.declared.records.Turn.{Turn}
use Rattle.machine_rules.specs.Run.{main_opening}
use Rattle.ops_turns.proofs.FreshLemmas.{given_fresh}
use Rattle.ops_turns.specs.Turn.{given, idle_line_of, state_at}
use Rattle.std.proofs.Common.{ap, arith, refl, ◌∙◌}
use Rattle.std.specs.Prelude.{Bool, List, ◌≡◌}
use Rattle.task_loop.proofs.BeginLemmas.{may_open}
use Rattle.task_loop.proofs.MainToldLemmas.{fresh_asked}
use Rattle.task_run.proofs.HeadlineLemmas.{opens_is}
use Rattle.task_run.specs.Script.{machine_ops, part_of}
use Rattle.task_run.specs.declared.scenario.MainOp.{MainOp}
use Rattle.trace_machine.proofs.OpenLemmas.{opened_kept, opened_order}
use Rattle.trace_machine.proofs.machine.Machine.open.Goals as goal

pub new_store-requires-clause-instances : goal.new_store-requires-clause-instances
new_store-requires-clause-instances c = let few = c.requires.runnable.few in let same = c.len-instances.ensures in omega (arith, few, same)

pub new_store-requires-clause-handles : goal.new_store-requires-clause-handles
new_store-requires-clause-handles c = c.requires.runnable.handles

pub returns-clause-state : goal.returns-clause-state
returns-clause-state c =
    let core = c.run_concurrent.new.store.state.core in
    ap (λ (p : Turn). state_at core (part_of c.new-main.result) p) c.in-Ok.ensures.turn
    ∙ ap (λ p. state_at core (Scripted p) turn.Main) c.new-main.ensures.place
    ∙ ap (λ (s : Core). state_at s (Scripted main_opening) turn.Main) (rw (c.run_concurrent.ensures.store, c.in_ok-store.ensures.state, c.len-instances.ensures) refl)
    ∙ opens_is c.args.scenario.now c.requires.runnable

pub returns-clause-order : goal.returns-clause-order
returns-clause-order c =
    let x = c.args.scenario.now in
    opened_order _ x.rules c.len-instances.result x.handles x.table (rw (c.run_concurrent.ensures.store, c.in_ok-store.ensures.state) refl)

pub returns-clause-numbers : goal.returns-clause-numbers
returns-clause-numbers c =
    let x = c.args.scenario.now in
    let core : c.run_concurrent.new.store.state.core ≡ fresh x.rules c.len-instances.result x.handles x.table = rw (c.run_concurrent.ensures.store, c.in_ok-store.ensures.state) refl in
    ap given core ∙ given_fresh x.rules c.len-instances.result x.handles x.table

pub returns-clause-kept : goal.returns-clause-kept
returns-clause-kept c =
    let x = c.args.scenario.now in
    opened_kept _ x.rules c.len-instances.result x.handles x.table (rw (c.run_concurrent.ensures.store, c.in_ok-store.ensures.state) refl)
    c.requires.runnable c.requires.hosts
    (ap (λ (ops : List MainOp). machine_ops ops) (c.new-main.ensures.ops ∙ c.as_slice.ensures))
    (ap (λ (b : Bool). idle_line_of b) c.in-Ok.ensures.idle ∙ c.traps_on_idle.ensures) refl c.in-Ok.ensures.turn refl c.new-held.ensures
    (may_open _ _ _ c.in-Ok.run' c.in-Ok.ensures.turn c.new-main.result (rw (c.new-main.ensures.ops, c.as_slice.ensures) c.requires.runnable.main) c.requires.runnable.component c.in_ok-store.store _ c.run_concurrent.ensures.store _
    c.requires.runnable.codes x.rules c.len-instances.result x.handles x.table (rw c.len-instances.ensures (omega arith)) c.in_ok-store.ensures.state c.in_ok-store.ensures.works (c.new-main.ensures.knows _)
    (fresh_asked x.rules c.len-instances.result x.handles x.table c.in_ok-store.store.state c.in_ok-store.ensures.state))
