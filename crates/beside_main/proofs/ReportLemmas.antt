-- From the opening of a scenario to what the report of a run beside aborters says.
use Rattle.laws_beside.proofs.CourseLemmas.{has_outcome, round_begins, rounds_are_cut, run_opens}
use Rattle.laws_beside.specs.Courses.{HasCome, InRound, IsOn, IsRun, Own, at_take, none_called}
use Rattle.laws_beside.specs.Rounds.{is_going}
use Rattle.laws_beside.specs.Wide.{Due, Going as under_way, IsWideOutcome, Made, Never, Round, Wide, begun, ended_round, next_spawn, opens_wide, past_last, round_of, settled, wide}
use Rattle.beside_main.proofs.CallLemmas.{called_same}
use Rattle.beside_main.proofs.CellLemmas.{AreListed, cells_then, counts_early, logs_listed, new_called}
use Rattle.beside_main.proofs.FollowLemmas.{follows_then}
use Rattle.beside_main.proofs.RoundLemmas.{goes_past}
use Rattle.beside_main.specs.Calls.{AreCalled, Follows, IsEarly}
use Rattle.beside_main.specs.Cells.{AreCounts, AreNew}
use Rattle.beside_main.specs.Course.{Able, HasNoted, Took, course, gated_says, place}
use Rattle.beside_main.specs.Headline.{count_spawns}
use Rattle.beside_main.specs.Report.{GoesPast, HasEnded, IsReportOf, Opens, PairsWith, Reports, heard_with}
use Rattle.beside_main.specs.Round.{Going, RoundMade}
use Rattle.beside_main.specs.declared.main_task.GatedMain.{GatedMain}
use Rattle.beside_main.specs.declared.report.BesideReport.{BesideReport}
use Rattle.beside_main.specs.declared.run.BesideRun.{BesideRun}
use Rattle.beside_works.specs.Views.{own_list}
use Rattle.beside_works.specs.declared.cells.SharedSpawn.{SharedSpawn}
use Rattle.std.proofs.Common.{ap, ap₂, arith, refl, subst, sym, ◌∙◌}
use Rattle.std.proofs.lemmas.List.{length-map}
use Rattle.std.specs.Global.{Vec}
use Rattle.std.specs.Prelude.{Bool, Err, IfOk, List, None, Ok, Option, Result, Some, [], map, false, if◌then◌else◌, length, slice_get, true, ℕ, ◌*◌, ◌+◌, ◌≡◌, ◌≤◌, ◌^◌}
use Rattle.task_loop.specs.HasRun.{MayRun, MayTakeTurn, numbers, setting, state}
use Rattle.machine_data.specs.Core.{Core, Main, Scripted, State, Unscripted}
use Rattle.machine_data.specs.Read.{is_nil}
use Rattle.machine_data.specs.declared.component.Component.{Component}
use Rattle.machine_data.specs.declared.label.Label.{Label}
use Rattle.machine_data.specs.declared.memory.NoMemory.{NoMemory}
use Rattle.machine_data.specs.declared.outcome.Outcome.{Outcome}
use Rattle.machine_data.specs.declared.outcome.Outcome.TheVariants as outcome
use Rattle.machine_data.specs.declared.records.Turn.{Turn}
use Rattle.machine_data.specs.declared.records.Turn.TheVariants as turn
use Rattle.machine_data.specs.declared.scenario.IdleLine.{IdleLine}
use Rattle.machine_data.specs.declared.scenario.MainOpDef.{MainOpDef}
use Rattle.machine_rules.specs.MainOps.{op_at}
use Rattle.machine_rules.specs.Stalled.{Setting, is_stalled, main_pends, pends_at}
use Rattle.machine_rules.specs.Stalled as rules
use Rattle.machine_rules.specs.Turns.{at_turn}
use Rattle.task_run.specs.Headline.{machine_scenario}
use Rattle.task_run.specs.Script.{part_of, script_of}
use Rattle.task_run.specs.declared.scenario.Scenario.{Scenario}
use Rattle.task_store.specs.declared.spawn.SpawnHandle.{SpawnHandle}
use Rattle.ops_turns.specs.Turn.{PendsIn, given, idle_line_of, setting_of}

-- ---- The last state

past_core : (s : State) (n : ℕ) (found : Bool) (o : Option ℕ) → (past_last s n found o).state.core ≡ s.core
unfolding at_turn
past_core s n true None = refl
past_core s n false None = refl
past_core s n found (Some i) = refl

settled_core : (x : Setting) (s : State) (r : Round) → (settled x s r).state.core ≡ s.core
unfolding settled
settled_core x s Never = refl
settled_core x s Due = by (is_stalled x s)
  where
    by : (b : Bool) → (ended_round s (begun b)).state.core ≡ s.core
    by true = past_core s 0 false (next_spawn 0 s.core)
    by false = refl
settled_core x s (under_way n found) = past_core s n found (next_spawn n s.core)
settled_core x s Made = refl

past_main : (s : State) (n : ℕ) (found : Bool) (o : Option ℕ) → (past_last s n found o).state.main ≡ s.main
unfolding at_turn
past_main s n true None = refl
past_main s n false None = refl
past_main s n found (Some i) = refl

settled_main : (x : Setting) (s : State) (r : Round) → (settled x s r).state.main ≡ s.main
unfolding settled
settled_main x s Never = refl
settled_main x s Due = by (is_stalled x s)
  where
    by : (b : Bool) → (ended_round s (begun b)).state.main ≡ s.main
    by true = past_main s 0 false (next_spawn 0 s.core)
    by false = refl
settled_main x s (under_way n found) = past_main s n found (next_spawn n s.core)
settled_main x s Made = refl

pends_still : (c : Component) (ops : List MainOpDef) (p q : Bool) (s : Core) (m : Main) → main_pends (setting_of c ops p) s m ≡ main_pends (setting_of c ops q) s m
pends_still c ops p q s (Scripted m) = by (op_at ops m)
  where
    by : (o : Option MainOpDef) → pends_at (setting_of c ops p) s m o ≡ pends_at (setting_of c ops q) s m o
    by None = refl
    by (Some o) = refl
pends_still c ops p q s Unscripted = refl

module _ {E : Type 0} (c : Component) where
  pub open_able : (b : BesideRun E) → MayRun gated_says course c (place b) → given b.store.state.core ≡ 0 → b.left ≤ 1000000 → HasNoted b → Able c b
  open_able b may none few noted = record { may = may; few = omega (arith, none, few); noted = noted }

  ended : (x : Setting) (w : Wide) (r : Round) (steps : ℕ) (o : Outcome) (own : Own) (b : BesideRun E) → is_going r ≡ false →
      HasCome x w r steps b.left o own b.trace (state gated_says course c (place b)) → (o ≡ outcome.OutOfSteps → b.left ≡ 0) → (r ≡ Due → o ≡ outcome.Idle → ⊥) →
      HasEnded x w steps o own b.trace b.store.state.core (part_of b.main.script)
  ended x w r steps o own b out op_result used other = record {
    last = settled x (state gated_says course c (place b)) r;
    run = op_result.run;
    ends = has_outcome x w r steps b.left o own b.trace (state gated_says course c (place b)) out op_result used other;
    few = let few = op_result.few in omega (arith, few);
    image = sym (settled_core x (state gated_says course c (place b)) r);
    main = sym (settled_main x (state gated_says course c (place b)) r);
  }

  -- ---- Past the stall

  abbrev trapped : Bool → BesideRun E → BesideRun E
  trapped trap a = record a { run = record a.run { trap_on_idle = trap } }

  pub able_trap : (trap : Bool) (a : BesideRun E) → Able c a → (place a).turn ≡ turn.Take false → Able c (trapped trap a)
  able_trap trap a able at = record {
    may = record {
      covered = m.covered;
      may_turn = record {
        order = s.order;
        settled = s.settled;
        running = s.running;
        pends = subst (λ (p : Turn). PendsIn (setting gated_says course c (place (trapped trap a))) a.store.state.core (part_of a.main.script) p) (sym at)
            (pends_still c (script_of a.main.script) trap a.run.trap_on_idle a.store.state.core (part_of a.main.script)
            ∙ subst (λ (p : Turn). PendsIn (setting gated_says course c (place a)) a.store.state.core (part_of a.main.script) p) at s.pends);
        suits = s.suits;
        knows = s.knows;
        works = s.works;
        asked = s.asked;
      };
      unfinished = m.unfinished;
      few = m.few;
    };
    few = able.few;
    noted = record { noted = able.noted.noted; rising = able.noted.rising; none = able.noted.none };
  }
    where
      m : MayRun gated_says course c (place a)
      m = able.may

      s : MayTakeTurn gated_says course c (setting gated_says course c (place a)) (place a)
      s = able.may.may_turn

  -- where no step is left for the round
  pub cut_past : (trap : Bool) (a b : BesideRun E) → RoundMade c false (trapped trap a) b → (place a).turn ≡ turn.Take false → GoesPast c trap outcome.OutOfSteps a b
  cut_past trap a b made at = record {
    cells = made.cells;
    concurrent = made.concurrent;
    on = λ x w steps own heard round.
        let q = made.on x w steps own (record { round = round; turn = at }) in
        let next = q.1.1.1.1.1.0 refl in
        let none : b.left ≡ 0 = made.cut refl in
        let here : InRound x w q.0 q.1.0 steps 0 q.1.1.0 b.trace (state gated_says course c (place b)) =
        subst (λ (k : ℕ). InRound x w q.0 q.1.0 steps k q.1.1.0 b.trace (state gated_says course c (place b))) none q.1.1.1.0.round in
        let cut = rounds_are_cut x w q.0 next.0 q.1.0 steps q.1.1.0 b.trace (state gated_says course c (place b)) here next.1 in (
          q.1.1.0,
          (
            record {
              last = wide (at_take (state gated_says course c (place b))) (under_way q.0 q.1.0);
              run = cut.0;
              ends = cut.1;
              few = let count = here.count in omega (arith, count);
              image = refl;
              main = refl;
            },
            q.1.1.1.1.1.1,
          ),
        );
  }

  -- where it is made, and the run has gone on
  pub made_past : (trap : Bool) (o : Outcome) (a b d : BesideRun E) → RoundMade c true (trapped trap a) b → (place a).turn ≡ turn.Take false → Took c o b d → (o ≡ outcome.OutOfSteps → d.left ≡ 0) →
      GoesPast c trap o a d
  made_past trap o a b d made at took used = record {
    cells = cells_then a.cells.list.items b.cells.list.items d.cells.list.items made.cells took.cells;
    concurrent = took.concurrent ∙ made.concurrent;
    on = λ x w steps own heard round.
        let q = made.on x w steps own (record { round = round; turn = at }) in
        let none : next_spawn q.0 b.store.state.core ≡ None = q.1.1.1.1.0 refl in
        let on : IsOn x w Made steps b.left q.1.1.0 b.trace (state gated_says course c (place b)) = goes_past c x w q.0 q.1.0 steps q.1.1.0 b q.1.1.1.0 none in
        let same : setting gated_says course c (place b) ≡ x = ap₂ (λ (m : GatedMain E) (i : Bool). setting_of c (script_of m.script) i) made.main made.idle ∙ heard in
        let op_result = took.on x w Made steps q.1.1.0 same on in (
          op_result.0,
          (
            ended x w Made steps o op_result.0 d refl op_result.1.0 used (λ is. absurd (cc)),
            follows_then Made own q.1.1.0 op_result.0 a.cells.list.items b.cells.list.items d.cells.list.items q.1.1.1.1.1.1 op_result.1.1,
          ),
        );
  }

  pub past_result : (trap : Bool) (r : Result Outcome NoMemory) (a b d : BesideRun E) → RoundMade c true (trapped trap a) b → (place a).turn ≡ turn.Take false → IfOk r (λ o. Took c o b d) →
      IfOk r (λ o. o ≡ outcome.OutOfSteps → d.left ≡ 0) → IfOk r (λ o. GoesPast c trap o a d)
  past_result trap (Ok o) a b d made at took used = made_past trap o a b d made at took used
  past_result trap (Err e) a b d made at took used = tt

-- The run has ended so. These are its calls, which the cells list; so many of them on each spawn are early.
pub record Ending {E : Type 0} (x : Scenario) (steps : ℕ) (b : BesideRun E) (o : Outcome) (early : List ℕ) : Type 0 where
  pub own : Own
  pub ended : HasEnded (rules.setting_of (machine_scenario x)) (opens_wide (machine_scenario x)) steps o own b.trace b.store.state.core (part_of b.main.script)
  pub called : AreCalled own.calls 1 b.cells.list.items
  pub early_is : (k n : ℕ) → slice_get early k ≡ Some n → n ≡ own.early (k + 1)

-- what a report says of the run as it is it says of the scenario
pub reported : {E : Type 0} (x : Scenario) (steps : ℕ) (a : BesideRun E) (o : Outcome) (early : List ℕ) (r : Result BesideReport NoMemory) → IfOk r (λ p. Reports a o early p) →
    Ending x steps a o early → a.store.concurrent ≡ true → AreListed x.aborters a.cells.list.items → IfOk r (λ p. IsReportOf x steps p)
reported x steps a o early (Ok p) says ending concurrent listed =
    let y = rules.setting_of (machine_scenario x) in
    let w = opens_wide (machine_scenario x) in
    let e = ending.ended in
    record {
      own = ending.own;
      run = record {
        last = e.last;
        run = subst (λ (ls : List Label). IsRun y w ls e.last ending.own) (sym says.trace) e.run;
        few = subst (λ (ls : List Label). length ls ≤ steps) (sym says.trace) e.few;
        ends = subst (λ (ls : List Label). IsWideOutcome y e.last ls steps p.report.outcome) (sym says.trace) (subst (λ (q : Outcome). IsWideOutcome y e.last a.trace steps q) (sym says.outcome) e.ends);
        image = says.core ∙ e.image;
      };
      free = says.free;
      concurrent = says.concurrent ∙ concurrent;
      each = says.each ∙ (sym (length-map a.main.script.spawns.items (λ (h : SpawnHandle). h.number)) ∙ ap count_spawns e.main);
      logs = logs_listed (machine_scenario x) ending.own a.cells.list.items early (map (λ l. l.items) p.logs.items) listed ending.called ending.early_is says.logs;
    }
reported x steps a o early (Err e) says ending concurrent listed = tt

-- both halves were run
pub both_ran : {A B C : Type 0} (P : A → Type 0) (Q : B → Type 0) (a : A) (q : Result B C) (r : Result (A × B) C) → PairsWith a q r → P a → IfOk q Q → IfOk r (λ x. P x.0 × Q x.1)
both_ran P Q a (Ok b) r is p q = subst (λ s. IfOk s (λ x. P x.0 × Q x.1)) (sym is) (p, q)
both_ran P Q a (Err e) r is p q = subst (λ s. IfOk s (λ x. P x.0 × Q x.1)) (sym is) tt

-- ---- The headline

module _ (E : Type 0) (x : Scenario) (steps : ℕ) where
  abbrev c : Component
  c = x.component

  abbrev y : Setting
  y = rules.setting_of (machine_scenario x)

  abbrev w : Wide
  w = opens_wide (machine_scenario x)

  opens_on : (trap : Bool) (cells : List SharedSpawn) (a : BesideRun E) → Opens x steps trap cells a →
      IsOn y w (round_of (machine_scenario x)) steps a.left none_called a.trace (state gated_says course c (place a))
  opens_on trap cells a opens =
      let r = round_of (machine_scenario x) in
      subst (λ (n : ℕ). IsOn y w r steps n none_called a.trace (state gated_says course c (place a))) (sym opens.left)
      (subst (λ (ls : List Label). IsOn y w r steps steps none_called ls (state gated_says course c (place a))) (sym opens.trace)
      (subst (λ (s : State). IsOn y w r steps steps none_called [] s) (sym opens.state) (run_opens (machine_scenario x) steps)))

  round_is : (b : Bool) → is_nil x.aborters ≡ b → round_of (machine_scenario x) ≡ (if b then Never else Due)
  round_is b is = ap (λ (n : Bool). if n then Never else Due) is

  -- without an aborter
  pub alone_ends : is_nil x.aborters ≡ true → (trap : Bool) → idle_line_of trap ≡ x.idle → (cells : List SharedSpawn) (a b : BesideRun E) (o : Outcome) → AreNew cells → Opens x steps trap cells a → Took c o a b →
      (o ≡ outcome.OutOfSteps → b.left ≡ 0) → (early : List ℕ) → AreCounts b.cells.list.items early → Ending x steps b o early
  alone_ends nil trap idle cells a b o new opens took used early counts =
      let on : IsOn y w Never steps a.left none_called a.trace (state gated_says course c (place a)) =
      subst (λ (r : Round). IsOn y w r steps a.left none_called a.trace (state gated_says course c (place a))) (round_is true nil) (opens_on trap cells a opens) in
      let heard : setting gated_says course c (place a) ≡ y = opens.setting ∙ ap (λ (i : IdleLine). record y { idle = i }) idle in
      let op_result = took.on y w Never steps none_called heard on in
      let called : AreCalled op_result.0.calls 1 b.cells.list.items = op_result.1.1.called (new_called a.cells.list.items 1 (subst (λ (cs : List SharedSpawn). AreNew cs) (sym opens.cells) new)) in
      record {
        own = op_result.0;
        ended = ended c y w Never steps o op_result.0 b refl op_result.1.0 used (λ is. absurd (cc));
        called = called;
        early_is = counts_early op_result.0 b.cells.list.items early counts called (op_result.1.1.early refl (λ k. refl));
      }

  module _ (some : is_nil x.aborters ≡ false) (cells : List SharedSpawn) (a b : BesideRun E) (o : Outcome) (opens : Opens x steps false cells a) (took : Took c o a b) where
    op_result : (after : Own) × (HasCome y w Due steps b.left o after b.trace (state gated_says course c (place b)) × Follows Due none_called after a.cells.list.items b.cells.list.items)
    op_result = took.on y w Due steps none_called opens.setting
        (subst (λ (r : Round). IsOn y w r steps a.left none_called a.trace (state gated_says course c (place a))) (round_is false some) (opens_on false cells a opens))

    is_early : IsEarly op_result.0
    is_early = op_result.1.1.early refl (λ k. refl)

    begins : (idle : o ≡ outcome.Idle) → ((place b).turn ≡ turn.Take false) × InRound y w 0 false steps b.left op_result.0 b.trace (state gated_says course c (place b))
    begins idle = round_begins y w steps b.left op_result.0 b.trace (state gated_says course c (place b))
        (subst (λ (p : Outcome). HasCome y w Due steps b.left p op_result.0 b.trace (state gated_says course c (place b))) idle op_result.1.0)

    pub stalls : (idle : o ≡ outcome.Idle) → (place b).turn ≡ turn.Take false
    stalls idle = (begins idle).0

    -- the cells, once the aborters were met
    module _ (new : AreCalled none_called.calls 1 cells) (met : Vec SharedSpawn) (same : map own_list met.items ≡ map own_list b.cells.list.items) (early : List ℕ) (counts : AreCounts met.items early) where
      abbrev after_meets : BesideRun E
      after_meets = record b { cells = record b.cells { list = met } }

      met_called : AreCalled op_result.0.calls 1 met.items
      met_called = called_same op_result.0.calls 1 b.cells.list.items met.items same
          (op_result.1.1.called (subst (λ (cs : List SharedSpawn). AreCalled none_called.calls 1 cs) (sym opens.cells) new))

      met_early : (k n : ℕ) → slice_get early k ≡ Some n → n ≡ op_result.0.early (k + 1)
      met_early = counts_early op_result.0 met.items early counts met_called is_early

      -- that is over before the last round
      pub beside_ends : (o ≡ outcome.OutOfSteps → b.left ≡ 0) → (o ≡ outcome.Idle → ⊥) → Ending x steps after_meets o early
      beside_ends used other = record {
        own = op_result.0;
        ended = ended c y w Due steps o op_result.0 b refl op_result.1.0 used (λ due idle. other idle);
        called = met_called;
        early_is = met_early;
      }

      pub past_ends : (idle : o ≡ outcome.Idle) → (trap : Bool) → idle_line_of trap ≡ x.idle → (d : BesideRun E) (q : Outcome) → GoesPast c trap q after_meets d → Ending x steps d q early
      past_ends idle trap line d q goes =
          let heard : heard_with trap (setting gated_says course c (place b)) ≡ y =
          ap (λ (z : Setting). heard_with trap z) (took.heard ∙ opens.setting) ∙ ap (λ (i : IdleLine). record y { idle = i }) line in
          let past = goes.on y w steps op_result.0 heard (begins idle).1 in
          record {
            own = past.0;
            ended = past.1.0;
            called = past.1.1.called met_called;
            early_is = λ k n at. met_early k n at ∙ sym (past.1.1.late refl (k + 1));
          }
