use Rattle.std.proofs.Common.{ap, arith, length, refl, subst, sym, ◌*◌, ◌+◌, ◌∙◌, ◌≤◌}
use Rattle.beside_main.proofs.ReportLemmas.{open_able}
use Rattle.beside_main.specs.Course.{course, gated_says}
use Rattle.task_loop.proofs.BeginLemmas.{may_open}
use Rattle.task_loop.proofs.MainToldLemmas.{fresh_asked}
use Rattle.beside_main.specs.Calls.{IsRising}
use Rattle.machine_data.specs.Core.{MainPlace, Scripted}
use Rattle.machine_data.specs.declared.records.Turn.{Turn}
use Rattle.machine_data.specs.declared.records.Turn.TheVariants as turn
use Rattle.machine_rules.specs.Run.{main_opening}
use Rattle.task_run.proofs.HeadlineLemmas.{opens_is}
use Rattle.task_run.specs.Script.{Suits, machine_ops, part_of, script_of}
use Rattle.task_run.specs.declared.scenario.MainOp.{MainOp}
use Rattle.std.specs.Prelude.{Bool, List}
use Rattle.ops_turns.specs.Turn as loop
use Rattle.ops_turns.specs.Turn.{state_at}
use Rattle.ops_turns.proofs.FreshLemmas.{given_fresh}
use Rattle.beside_main.proofs.begin.begin.Goals as goal

pub returns : goal.returns
returns g c =
    let x = c.args.scenario.now in
    let low : 0 ≤ c.run_concurrent.new.store.state.core.made.works = omega arith in
    let suits : Suits c.new-script.result x.component = rw (c.new-script.ensures.ops, c.as_slice.ensures) c.requires.runnable.main in
    record {
      able = open_able x.component _
          (may_open gated_says course x.component c.in-Ok.run' c.in-Ok.ensures.turn _ suits c.requires.runnable.component c.keep_notices.new.self _ c.run_concurrent.ensures.store _
          c.requires.runnable.codes x.rules c.len.result x.handles x.table (rw c.len.ensures (omega arith)) (rw c.in_ok-keep_notices.ensures.ok c.in_ok-store.ensures.state) (rw c.in_ok-keep_notices.ensures.ok c.in_ok-store.ensures.works)
          (c.new-script.ensures.knows _)
          (fresh_asked x.rules c.len.result x.handles x.table c.keep_notices.new.self.state (rw c.in_ok-keep_notices.ensures.ok c.in_ok-store.ensures.state)))
          (rw (c.run_concurrent.ensures.store, c.in_ok-keep_notices.ensures.ok, c.in_ok-store.ensures.state) (given_fresh x.rules c.len.result x.handles x.table)) c.requires.few
          (record {
            noted = record { numbers = c.new-2.ensures.items ∙ sym (ap (λ (q : MainPlace). q.spawns) c.new-script.ensures.place); count = sym (ap length c.new-2.ensures.items) };
            rising = subst (λ (q : MainPlace). IsRising 0 q.spawns c.run_concurrent.new.store.state.core.made.works) (sym c.new-script.ensures.place) low;
            none = refl;
          });
      setting = ap (λ (b : Bool). loop.setting_of x.component (script_of c.new-script.result) b) c.in-Ok.ensures.idle
          ∙ ap (λ (ops : List MainOp). loop.setting_of x.component (machine_ops ops) c.args.trap) (c.new-script.ensures.ops ∙ c.as_slice.ensures);
      state = ap (λ (p : Turn). state_at c.run_concurrent.new.store.state.core (part_of c.new-script.result) p) c.in-Ok.ensures.turn
          ∙ ap (λ p. state_at c.run_concurrent.new.store.state.core (Scripted p) turn.Main) c.new-script.ensures.place
          ∙ ap (λ s. state_at s (Scripted main_opening) turn.Main) (rw (c.run_concurrent.ensures.store, c.in_ok-keep_notices.ensures.ok, c.in_ok-store.ensures.state, c.len.ensures) refl)
          ∙ opens_is x c.requires.runnable;
      trace = c.new.ensures;
      left = refl;
      cells = refl;
      concurrent = rw (c.run_concurrent.ensures.store, c.in_ok-keep_notices.ensures.ok) c.in_ok-store.ensures.concurrent;
    }
