-- What a run asks that was begun.
use Rattle.machine_data.specs.declared.scenario.Version.{Version}
use Rattle.store_works.specs.KeptWorks.{HoldsNone}
use Rattle.std.proofs.Common.{ap₂, ap, arith, refl, subst, sym, ◌∙◌}
use Rattle.std.specs.Prelude.{Bool, IfSome, Option, List, None, length, true, ℕ, ◌≡◌, ◌≤◌, ◌^◌}
use Rattle.laws_states.specs.Settings.{CodesInCallbacks}
use Rattle.task_loop.specs.HasRun.{At, HasRun, Keeps, MayRun, MayTakeTurn, at, numbers, setting}
use Rattle.task_loop.specs.Says.{Says}
use Rattle.task_loop.specs.declared.run.RunConcurrent.{RunConcurrent}
use Rattle.machine_data.specs.Core.{fresh}
use Rattle.machine_data.specs.declared.component.Component.{Component}
use Rattle.machine_data.specs.declared.component.HostDef.{HostDef}
use Rattle.machine_data.specs.declared.label.Label.{Label}
use Rattle.machine_data.specs.declared.records.Turn.{Turn}
use Rattle.machine_data.specs.declared.records.Turn.TheVariants as turn
use Rattle.machine_data.specs.declared.scenario.MainOpDef.{MainOpDef}
use Rattle.core_records.specs.Seen.{nothing}
use Rattle.machine_rules.specs.Stalled.{Setting}
use Rattle.task_store.proofs.HostLemmas.{new_holds}
use Rattle.core_primitives.specs.Groups.{IsAsked}
use Rattle.task_store.specs.Hosts.{HoldsHosts}
use Rattle.task_store.specs.declared.store.Store.{Store}
use Rattle.ops_turns.proofs.FreshLemmas.{given_fresh, core_in_order_fresh}
use Rattle.ops_turns.specs.StepResult.{turn_of}
use Rattle.ops_turns.specs.Turn.{IsSettled, CoreInOrder, given, is_open, running_of, runs_in, setting_of}
use Rattle.ops_turns.specs.WellFormed.{IsWellFormed}
use Rattle.core_primitives.specs.StateView.{StateView, with_core}

module _ {M T H G : Type 0} (says : Says M) (course : H → HostDef) (c : Component) where
  -- it is main's turn, and no thread runs
  pub may_begin : (a : At M T H G) → IsWellFormed c → a.turn ≡ turn.Main → CoreInOrder c turn.Main a.store.state.core → running_of a.store.state ≡ None → says.suits a.main c → says.knows a.main a.store.state →
      HoldsHosts course a.store → IsAsked a.store.state → numbers says course c a ≤ 2 ^ 60 → MayRun says course c a
  may_begin a covered main order current suits knows works asked few = record {
    covered = covered;
    may_turn = record {
      order = subst (λ (p : Turn). CoreInOrder c p a.store.state.core) (sym main) order;
      settled = subst (λ (p : Turn). IsSettled a.store.state.core p) (sym main) refl;
      running = current ∙ sym (ap runs_in main);
      pends = rw main tt;
      suits = suits;
      knows = knows;
      works = works;
      asked = asked;
    };
    unfinished = ap is_open main;
    few = few;
  }

  -- one that went on, and isn't over
  pub may_again : (a b : At M T H G) (steps : ℕ) → MayRun says course c a → Keeps says a b → HasRun says course c steps a b → is_open b.turn ≡ true → numbers says course c b ≤ 2 ^ 60 → MayRun says course c b
  may_again a b steps may keeps has unfinished few =
      let same : setting says course c b ≡ setting says course c a = ap₂ (λ (ops : List MainOpDef) (i : Bool). setting_of c ops i) keeps.script keeps.idle in
      record {
        covered = may.covered;
        may_turn = subst (λ (x : Setting). MayTakeTurn says course c x b) (sym same) has.may_turn;
        unfinished = unfinished;
        few = few;
      }

  -- the thread that runs then is in order
  pub runner_stands : (x : Setting) (b : At M T H G) → MayTakeTurn says course c x b → IfSome (running_of b.store.state) (λ n. CoreInOrder c (turn.Run n) b.store.state.core)
  runner_stands x b may_turn = subst (λ (o : Option ℕ). IfSome o (λ n. CoreInOrder c (turn.Run n) b.store.state.core)) (sym may_turn.running) (by b.turn may_turn.order)
    where
      by : (q : Turn) → CoreInOrder c q b.store.state.core → IfSome (runs_in q) (λ n. CoreInOrder c (turn.Run n) b.store.state.core)
      by (turn.Run n) in_turn = in_turn
      by turn.Main in_turn = tt
      by (turn.Futures n) in_turn = tt
      by (turn.Take b) in_turn = tt
      by turn.Over in_turn = tt

  module _ (run : RunConcurrent) (main : turn_of run.last ≡ turn.Main) (m : M) (suits : says.suits m c) (covered : IsWellFormed c) (st new : Store T H G) (begun : new ≡ record st { running = true }) (trace : List Label) where
    -- of a store in which no thread runs
    pub may_start : CoreInOrder c turn.Main st.state.core → running_of st.state ≡ None → says.knows m st.state → HoldsHosts course st → IsAsked st.state → given st.state.core ≤ 2 ^ 60 →
        MayRun says course c (at run m new trace)
    may_start order current knows works asked few =
        subst (λ (t : Store T H G). MayRun says course c (at run m t trace)) (sym begun) (may_begin (at run m (record st { running = true }) trace) covered main order current suits knows works asked few)

    current_fresh : (v : Version) (n handles table : ℕ) → st.state ≡ with_core (fresh v n handles table) nothing → running_of st.state ≡ None
    current_fresh v n handles table is = ap running_of is

    -- of a new one
    pub may_open : CodesInCallbacks c → (v : Version) (n handles table : ℕ) → length c.instances ≤ n → st.state ≡ with_core (fresh v n handles table) nothing → HoldsNone st.works → says.knows m st.state → IsAsked st.state →
        MayRun says course c (at run m new trace)
    may_open codes v n handles table enough is none knows asked =
        may_start (subst (λ (s : StateView). CoreInOrder c turn.Main s.core) (sym is) (core_in_order_fresh c codes v n handles table enough))
        (current_fresh v n handles table is) knows
        (new_holds course st v n handles table none (ap (λ (s : StateView). s.core) is)) asked
        (let given = ap (λ (s : StateView). given s.core) is ∙ given_fresh v n handles table in omega (arith, given))
