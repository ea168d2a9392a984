-- The steps of a run beside aborters, one behind another.
use Rattle.laws_beside.proofs.CourseLemmas.{open_runs_go_on, runs_add}
use Rattle.laws_beside.specs.Courses.{HasCome, IsOn, Own, heard_in, with_run}
use Rattle.laws_beside.specs.Wide.{Round, StepBeside}
use Rattle.beside_main.specs.Calls.{Follows}
use Rattle.beside_main.specs.Cells.{KeepsCells}
use Rattle.beside_main.specs.Course.{Able, Continues, HasNoted, Place, StepCalls, Took, course, gated_says, place}
use Rattle.beside_main.proofs.CallLemmas.{adds_none}
use Rattle.beside_main.proofs.CellLemmas.{cells_then}
use Rattle.beside_main.proofs.FollowLemmas.{adds_heard, follows_same, follows_step, follows_then}
use Rattle.beside_main.specs.Same.{same_cells}
use Rattle.beside_main.specs.declared.run.BesideRun.{BesideRun}
use Rattle.run_trace.specs.declared.yield_budget.YieldBudget.{YieldBudget}
use Rattle.std.proofs.Common.{ap, ap₂, arith, inl, length, refl, subst, sym, ◌∙◌}
use Rattle.std.specs.Prelude.{Bool, Err, IfOk, List, Ok, Result, [], false, true, ℕ, ◌*◌, ◌++◌, ◌+◌, ◌∷◌, ◌≡◌, ◌≤◌, ◌^◌}
use Rattle.task_loop.proofs.BeginLemmas.{may_again}
use Rattle.task_loop.specs.HasRun.{DrivesTo, HasGone, Keeps, numbers, setting, state}
use Rattle.machine_data.specs.Core.{State}
use Rattle.machine_data.specs.declared.component.Component.{Component}
use Rattle.machine_data.specs.declared.label.Label.{Label}
use Rattle.machine_data.specs.declared.memory.NoMemory.{NoMemory}
use Rattle.machine_data.specs.declared.outcome.Outcome.{Outcome}
use Rattle.machine_data.specs.declared.outcome.Outcome.TheVariants as outcome
use Rattle.machine_data.specs.declared.scenario.MainOpDef.{MainOpDef}
use Rattle.machine_rules.specs.Outcome.{IsOutcome}
use Rattle.machine_rules.specs.Run.{Run}
use Rattle.machine_rules.specs.Stalled.{Setting}
use Rattle.machine_rules.specs.Step.{Step}
use Rattle.ops_turns.specs.Turn.{goes_on, setting_of}

-- ---- Steps

own_step : (x : Setting) (s : State) (l : Label) (t : State) → Step x s l t → StepBeside x s l t
unfolding StepBeside
own_step x s l t step = inl step

module _ {E : Type 0} (c : Component) where
  pub same_setting : (a b : Place E) → Keeps gated_says a b → setting gated_says course c b ≡ setting gated_says course c a
  same_setting a b keeps = ap₂ (λ (ops : List MainOpDef) (i : Bool). setting_of c ops i) keeps.script keeps.idle

  -- it may go on
  pub able_again : (a b : BesideRun E) (k : ℕ) (o : Outcome) → Able c a → b.left + k ≡ a.left → Keeps gated_says (place a) (place b) →
      HasGone gated_says course c k o (place a) (place b) → HasNoted b → goes_on o ≡ true → Able c b
  able_again a b k o able left keeps gone noted goes =
      let given = gone.has.numbers in
      let first = able.few in
      let few : numbers gated_says course c (place b) + 2 * b.left ≤ 2 ^ 60 = omega (arith, given, first, left) in
      record {
        may = may_again gated_says course c (place a) (place b) k able.may keeps gone.has (gone.unfinished ∙ goes) (omega (arith, few));
        few = few;
        noted = noted;
      }

  -- the labels of a run of one step, or of none, show what was called
  ran_follows : (k : ℕ) (a b : BesideRun E) (x : Setting) (r : Round) (own : Own) (ks : List Label) (o : Outcome) → k ≤ 1 → length ks ≤ k → b.trace ≡ a.trace ++ ks → StepCalls c k a b →
      setting gated_says course c (place a) ≡ heard_in r x → Run (setting gated_says course c (place a)) (state gated_says course c (place a)) ks (state gated_says course c (place b)) →
      IsOutcome (setting gated_says course c (place a)) (state gated_says course c (place b)) ks k o →
      Follows r own (with_run x r (state gated_says course c (place a)) ks own) a.cells.list.items b.cells.list.items
  ran_follows k a b x r own [] o one few trace calls heard run is =
      follows_same r own a.cells.list.items b.cells.list.items (calls.none o (subst (λ (u : State). IsOutcome (setting gated_says course c (place a)) u [] k o) run is))
  ran_follows k a b x r own (l ∷ []) o one few trace calls heard run is =
      let y = setting gated_says course c (place a) in
      let s = state gated_says course c (place a) in
      let step : Step y s l (state gated_says course c (place b)) = subst (λ (u : State). Step y s l u) (sym run.1.1) run.1.0 in
      follows_step x r s l own a.cells.list.items b.cells.list.items
      (adds_heard r x y s l a.cells.list.items b.cells.list.items heard (calls.one (omega (arith, few)) l (state gated_says course c (place b)) (own_step y s l (state gated_says course c (place b)) step) trace))
  ran_follows k a b x r own (l ∷ m ∷ ks) o one few trace calls heard run is = absurd (omega (arith, one, few))

  -- the machine's own step, or none
  pub plain_took : (k : ℕ) (r : Result Outcome NoMemory) (yield_budget yield_budget' : YieldBudget) (a b : BesideRun E) → Able c a → k ≤ 1 → b.left + k ≡ a.left → KeepsCells a.cells.list.items b.cells.list.items →
      Keeps gated_says (place a) (place b) → DrivesTo gated_says course c false k r yield_budget (place a) (place b) yield_budget' → StepCalls c k a b → HasNoted b → IfOk r (λ o. Took c o a b)
  plain_took k (Err e) yield_budget yield_budget' a b able one left cells keeps drives calls noted = tt
  plain_took k (Ok o) yield_budget yield_budget' a b able one left cells keeps drives calls noted = record {
    able = λ goes. able_again a b k o able left keeps drives.gone noted goes;
    noted = noted;
    knows = drives.gone.has.may_turn.knows;
    cells = cells;
    concurrent = ap (λ (p : Bool × (Bool × ℕ)). p.1.0) keeps.constants;
    heard = same_setting (place a) (place b) keeps;
    on = λ x w r steps own heard on. let ran = drives.gone.has.ran in (
      with_run x r (state gated_says course c (place a)) ran.added own,
      (
        subst (λ (ls : List Label). HasCome x w r steps b.left o (with_run x r (state gated_says course c (place a)) ran.added own) ls (state gated_says course c (place b))) (sym ran.trace)
            (runs_add x w r steps b.left k o own a.trace ran.added (state gated_says course c (place a)) (state gated_says course c (place b)) one
            (subst (λ (n : ℕ). IsOn x w r steps n own a.trace (state gated_says course c (place a))) (sym left) on)
            (subst (λ (y : Setting). Run y (state gated_says course c (place a)) ran.added (state gated_says course c (place b))) heard ran.run) drives.gone.has.few
            (subst (λ (y : Setting). IsOutcome y (state gated_says course c (place b)) ran.added k o) heard drives.gone.outcome)),
        ran_follows k a b x r own ran.added o one drives.gone.has.few ran.trace calls heard ran.run drives.gone.outcome,
      ),
    );
  }

  -- ---- Steps behind steps

  pub goes_still : (a : BesideRun E) → Able c a → Continues c a a
  goes_still a able = record {
    able = able;
    cells = same_cells a.cells.list.items;
    concurrent = refl;
    heard = refl;
    on = λ x w r steps own heard on. (own, (on, follows_same r own a.cells.list.items a.cells.list.items (adds_none (λ k. []) 1 a.cells.list.items (λ k le. refl))));
  }

  pub goes_on_by : (a b d : BesideRun E) (o : Outcome) → Continues c a b → Took c o b d → o ≡ outcome.OutOfSteps → Continues c a d
  goes_on_by a b d o first second is = record {
    able = second.able (ap goes_on is);
    cells = cells_then a.cells.list.items b.cells.list.items d.cells.list.items first.cells second.cells;
    concurrent = second.concurrent ∙ first.concurrent;
    heard = second.heard ∙ first.heard;
    on = λ x w r steps own heard on.
        let before = first.on x w r steps own heard on in
        let op_result = second.on x w r steps before.0 (first.heard ∙ heard) before.1.0 in (
          op_result.0,
          (
            open_runs_go_on x w r steps d.left op_result.0 d.trace (state gated_says course c (place d)) on.outside
                (subst (λ (p : Outcome). HasCome x w r steps d.left p op_result.0 d.trace (state gated_says course c (place d))) is op_result.1.0),
            follows_then r own before.0 op_result.0 a.cells.list.items b.cells.list.items d.cells.list.items before.1.1 op_result.1.1,
          ),
        );
  }

  pub took_behind : (a b d : BesideRun E) (o : Outcome) → Continues c a b → Took c o b d → Took c o a d
  took_behind a b d o first second = record {
    able = second.able;
    noted = second.noted;
    knows = second.knows;
    cells = cells_then a.cells.list.items b.cells.list.items d.cells.list.items first.cells second.cells;
    concurrent = second.concurrent ∙ first.concurrent;
    heard = second.heard ∙ first.heard;
    on = λ x w r steps own heard on.
        let before = first.on x w r steps own heard on in
        let last = second.on x w r steps before.0 (first.heard ∙ heard) before.1.0 in
        (last.0, (last.1.0, follows_then r own before.0 last.0 a.cells.list.items b.cells.list.items d.cells.list.items before.1.1 last.1.1));
  }

  pub took_result : (a b d : BesideRun E) (r : Result Outcome NoMemory) → Continues c a b → IfOk r (λ o. Took c o b d) → IfOk r (λ o. Took c o a d)
  took_result a b d (Ok o) first second = took_behind a b d o first second
  took_result a b d (Err e) first second = tt
