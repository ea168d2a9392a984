use Rattle.std.proofs.Common.{◌∙◌, ◌+◌, ◌*◌, ap, refl, subst, sym, arith}
use Rattle.std.proofs.Common.{List}
use Rattle.task_group.specs.Listeners.{Listeners}
use Rattle.machine_data.specs.declared.records.Notice.{Notice}
use Rattle.machine_data.specs.declared.records.Turn.TheVariants as turn
use Rattle.machine_data.specs.Core.{Scripted}
use Rattle.machine_rules.specs.Run.{main_opening}
use Rattle.ops_turns.specs.Turn.{state_at}
use Rattle.ops_turns.specs.Turn as loop
use Rattle.task_run.specs.Script.{machine_ops, part_of, script_of}
use Rattle.task_run.specs.declared.scenario.MainOp.{MainOp}
use Rattle.std.specs.Prelude.{Bool, ℕ}
use Rattle.machine_data.specs.declared.records.Turn.{Turn}
use Rattle.task_run.specs.Headline.{IsRunOf, machine_scenario}
use Rattle.task_loop.proofs.MainToldLemmas.{fresh_asked}
use Rattle.task_run.proofs.HeadlineLemmas.{headline, opens_is}
use Rattle.task_run.proofs.OnceLemmas.{scenario_keeps}
use Rattle.task_run.proofs.report.run.Goals as goal
use Rattle.task_loop.proofs.BeginLemmas.{may_open}

pub drive-driven-requires : goal.drive-driven-requires
drive-driven-requires c =
    let x = c.args.scenario.now in
    record {
      may = may_open _ _ _ c.in-Ok.run' c.in-Ok.ensures.turn c.new-main.result (rw (c.new-main.ensures.ops, c.as_slice.ensures) c.requires.main) c.requires.component c.keep_notices.new.self _ c.run_concurrent.ensures.store _
          c.requires.codes x.rules c.len.result x.handles x.table (rw c.len.ensures (omega arith)) (rw c.in_ok-keep_notices.ensures.ok c.in_ok-store.ensures.state) (rw c.in_ok-keep_notices.ensures.ok c.in_ok-store.ensures.works)
          (c.new-main.ensures.knows _)
          (fresh_asked x.rules c.len.result x.handles x.table c.keep_notices.new.self.state (rw c.in_ok-keep_notices.ensures.ok c.in_ok-store.ensures.state));
    }

pub returns-clause-free : goal.returns-clause-free
returns-clause-free c = rw (c.share_notices.ensures.same, c.end.ensures) refl

pub returns-clause-concurrent : goal.returns-clause-concurrent
returns-clause-concurrent c =
    rw (c.share_notices.ensures.same, c.end.ensures) (ap (λ (p : Bool × (Bool × ℕ)). p.1.0) c.drive-driven.ensures.keeps.constants ∙ rw (c.run_concurrent.ensures.store, c.in_ok-keep_notices.ensures.ok) c.in_ok-store.ensures.concurrent)

pub returns-clause-ran : goal.returns-clause-ran
returns-clause-ran c =
    let gone = c.in-Ok-driven.ensures.drives.gone in
    -- the list that is shared is the one that the groups kept
    rw c.share_notices.ensures.same
    (subst (λ (ns : List Notice). IsRunOf (machine_scenario c.args.scenario.now) c.args.steps c.drive-driven.new.trace c.in-Ok-driven.outcome c.end.new.store.state.core ns)
    (sym (c.in_ok-groups.ensures.list ∙ rw c.end.ensures refl))
    (headline (machine_scenario c.args.scenario.now) (scenario_keeps c.args.scenario.now c.requires) _ _ _ _ _ c.args.steps c.in-Ok-driven.outcome _ c.run_concurrent.new.store.listeners c.drive-driven.new.store.listeners
    (ap (λ (b : Bool). loop.setting_of c.args.scenario.now.component (script_of c.new-main.result) b) c.in-Ok.ensures.idle
    ∙ ap (λ i. record { component = c.args.scenario.now.component; script = script_of c.new-main.result; idle = i }) c.traps_on_idle.ensures
    ∙ ap (λ (ops : List MainOp). record { component = c.args.scenario.now.component; script = machine_ops ops; idle = c.args.scenario.now.idle }) (c.new-main.ensures.ops ∙ c.as_slice.ensures))
    (ap (λ (p : Turn). state_at c.run_concurrent.new.store.state.core (part_of c.new-main.result) p) c.in-Ok.ensures.turn
    ∙ ap (λ p. state_at c.run_concurrent.new.store.state.core (Scripted p) turn.Main) c.new-main.ensures.place
    ∙ ap (λ s. state_at s (Scripted main_opening) turn.Main) (rw (c.run_concurrent.ensures.store, c.in_ok-keep_notices.ensures.ok, c.in_ok-store.ensures.state, c.len.ensures) refl)
    ∙ opens_is c.args.scenario.now c.requires)
    c.new-trace.ensures
    (rw c.end.ensures refl)
    (rw (c.run_concurrent.ensures.store, c.in_ok-keep_notices.ensures.ok) (ap (λ (l : Listeners). record l { room = 2 * c.args.steps + 512 }) c.in_ok-store.ensures.listeners))
    (record { added = gone.has.ran.added; trace = gone.has.ran.trace; run = gone.has.ran.run; few = gone.has.few; ends = gone.outcome }, gone.has.ran.answers_ok)))
