-- The store in which nothing went on is in order, and is so once the waiter is woken.
use Rattle.std.proofs.Common.{ap, refl, subst, sym, ◌∙◌}
use Rattle.std.specs.Prelude.{[], false}
use Rattle.tests_hosts.proofs.WaitLemmas.{given_few, pends_outside, settled_take_of, core_in_order_joins, core_in_order_placed}
use Rattle.tests_hosts.proofs.waits.goes_on.Goals as goal
use Rattle.machine_data.specs.declared.records.Turn.{Turn}
use Rattle.machine_data.specs.declared.records.Turn.TheVariants as turn
use Rattle.ops_turns.specs.StepResult.{turn_of}
use Rattle.ops_turns.specs.Turn.{CoreInOrder, is_open, runs_in, setting_of}

pub wakes-woken-requires-clause-unended : goal.wakes-woken-requires-clause-unended
wakes-woken-requires-clause-unended g c = sym c.end_of.ensures ∙ c.in-None.is

pub wakes-woken-requires-clause-placed : goal.wakes-woken-requires-clause-placed
wakes-woken-requires-clause-placed g c = core_in_order_placed _ _ _ c.idles-run.ensures.order

pub wakes-woken-requires-clause-joins : goal.wakes-woken-requires-clause-joins
wakes-woken-requires-clause-joins g c = core_in_order_joins _ _ _ c.idles-run.ensures.order

pub drive-outcome-requires : goal.drive-outcome-requires
drive-outcome-requires g c =
    let d = c.args.scenario.now.component in
    let e = c.idles-run.ensures in
    let woken = c.wakes-woken.ensures in
    record {
      may = record {
        covered = c.requires.runnable.component;
        may_turn = record {
          order = subst (λ (p : Turn). CoreInOrder d p c.wakes-woken.new.store.state.core) (sym e.turn) (woken.order d (turn.Take false) refl e.order);
          settled = settled_take_of _ _ e.turn;
          running = woken.current ∙ (e.current ∙ sym (ap runs_in e.turn));
          pends = pends_outside (setting_of d [] c.idles-run.result.trap_on_idle) c.wakes-woken.new.store.state.core (turn_of c.idles-run.result.last) e.turn;
          suits = tt;
          knows = tt;
          works = woken.hosts e.hosts;
          asked = woken.groups e.groups;
        };
        unfinished = ap is_open e.turn;
        few = given_few _ _ woken.given e.given;
      };
    }
