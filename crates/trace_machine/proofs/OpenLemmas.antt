-- A machine in the opening state.
use Rattle.choice_offers.specs.Times.{AreTimed}
use Rattle.laws_states.specs.Order.{is_open}
use Rattle.laws_states.specs.Settled.{NoneOpen}
use Rattle.machine_data.specs.Core.{Core, fresh}
use Rattle.machine_data.specs.Maps.{get-empty}
use Rattle.machine_data.specs.Moves.{held_why_of}
use Rattle.machine_data.specs.declared.label.Label.{Label}
use Rattle.machine_data.specs.declared.records.Turn.TheVariants as turn
use Rattle.machine_data.specs.declared.scenario.IdleLine.{IdleLine}
use Rattle.machine_data.specs.declared.scenario.MainOpDef.{MainOpDef}
use Rattle.machine_data.specs.declared.scenario.Version.{Version}
use Rattle.machine_rules.specs.Outcome.{outcome_of_label}
use Rattle.machine_rules.specs.Scripts.{HasOpen}
use Rattle.machine_rules.specs.Stalled.{Setting}
use Rattle.ops_turns.specs.Turn.{idle_line_of}
use Rattle.std.proofs.Common.{ap, ap₂, arith, subst, sym, ◌∙◌}
use Rattle.std.specs.Option.{option_and_then}
use Rattle.std.specs.Prelude.{List, None, Option, [], false, is_none, is_some, ℕ, ◌≡◌}
use Rattle.task_loop.specs.HasRun.{MayRun, MayTakeTurn, at, setting}
use Rattle.task_run.specs.Runnable.{IsRunnable}
use Rattle.task_run.specs.Says.{script_says}
use Rattle.task_run.specs.Script.{machine_ops, script_of}
use Rattle.trace_machine.proofs.SpotLemmas.{order_names}
use Rattle.trace_machine.specs.Machines.{IsKept, KnowsOrder, scripted_course, setting_at, state_of, turn_at}
use Rattle.trace_machine.specs.declared.machine.Machine.{Machine}

none_open : (v : Version) (n handles table : ℕ) → NoneOpen (fresh v n handles table)
unfolding fresh
none_open v n handles table = λ i. grind (arith, get-empty)

none_held : (v : Version) (n handles table k : ℕ) → is_some (held_why_of k (fresh v n handles table)) ≡ false
unfolding fresh
none_held v n handles table k = grind (arith, get-empty)

module _ (m : Machine) (v : Version) (n handles table : ℕ) (core : m.store.state.core ≡ fresh v n handles table) where
  pub opened_order : KnowsOrder m []
  opened_order = record {
    once = tt;
    listed = λ k held. absurd (let none = none_held v n handles table k in let there = ap (λ (s : Core). is_some (held_why_of k s)) (sym core) ∙ held in cc);
    times = λ a b before. absurd (cc);
  }

  pub opened_kept : IsRunnable m.scenario.now → (HasOpen m.scenario.now.component → ⊥) → script_of m.main ≡ machine_ops m.scenario.now.main → idle_line_of m.run.trap_on_idle ≡ m.scenario.now.idle →
      m.turn ≡ turn.Main → turn_at m ≡ turn.Main → m.last ≡ None → AreTimed m.held → MayRun script_says scripted_course m.scenario.now.component (at m.run m.main m.store []) → IsKept m
  opened_kept runnable hosts script idle first begins last timed may = record {
    runnable = runnable;
    hosts = hosts;
    script = script;
    idle = idle;
    turn = first ∙ sym begins;
    may_go_on = λ opened. subst (λ (x : Setting). MayTakeTurn script_says scripted_course m.scenario.now.component x (at m.run m.main m.store [])) same may.may_turn;
    works = subst NoneOpen (sym core) (none_open v n handles table);
    named = order_names m.scenario.now.component (state_of m) (may.may_turn.order.order (state_of m).main);
    over = ap (λ (o : Option Label). is_none (option_and_then outcome_of_label o)) last ∙ sym (ap is_open begins);
    timed = timed;
  }
    where
      same : setting script_says scripted_course m.scenario.now.component (at m.run m.main m.store []) ≡ setting_at m
      same = ap₂ (λ (ops : List MainOpDef) (i : IdleLine). record { component = m.scenario.now.component; script = ops; idle = i }) script idle
