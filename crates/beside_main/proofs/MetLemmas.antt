-- The steps at which a run finds what other threads have done.
use Rattle.laws_beside.proofs.CourseLemmas.{steps_add}
use Rattle.laws_beside.specs.Courses.{HasCome, IsOn, heard_in, with_step}
use Rattle.laws_beside.specs.Wide.{AbortedAt, Due, FindsAbort, FindsRequest, Going, Made, Never, RequestedAt, RequestedBy, Round, StepBeside}
use Rattle.beside_main.proofs.CourseLemmas.{plain_took, same_setting}
use Rattle.beside_main.proofs.FollowLemmas.{adds_heard, follows_step}
use Rattle.beside_main.proofs.SpawnedLemmas.{Spawns, beside_made, beside_spawns, grows, rises, spawned_by}
use Rattle.beside_main.proofs.StepLemmas.{no_calls}
use Rattle.beside_main.specs.Calls.{AreNoted, GrowsBy, IsRising}
use Rattle.beside_main.specs.Same.{same_cells}
use Rattle.beside_main.specs.declared.asked.Cells.{Cells}
use Rattle.beside_main.specs.Cells.{KeepsCells}
use Rattle.beside_main.specs.Course.{Able, HasNoted, Place, StepCalls, Took, course, gated_says, place}
use Rattle.beside_main.specs.declared.run.BesideRun.{BesideRun}
use Rattle.run_trace.specs.declared.yield_budget.YieldBudget.{YieldBudget}
use Rattle.std.proofs.Common.{ap, arith, inl, inr, length, refl, subst, sym, ◌∙◌}
use Rattle.std.specs.Prelude.{Bool, Err, IfOk, List, None, Ok, Option, Result, Some, [], false, true, ℕ, ◌+◌, ◌++◌, ◌∷◌, ◌≡◌, ◌≤◌, ◌⊎◌}
use Rattle.task_loop.specs.Beside.{HasMet, StepsBeside}
use Rattle.task_loop.specs.HasRun.{DrivesTo, HasDriven, Keeps, MayTakeTurn, setting, state}
use Rattle.machine_data.specs.Core.{Core, Main, MainPlace, Scripted, State, Unscripted}
use Rattle.machine_data.specs.declared.component.Component.{Component}
use Rattle.machine_data.specs.declared.label.Label.{Label}
use Rattle.machine_data.specs.declared.memory.NoMemory.{NoMemory}
use Rattle.machine_data.specs.declared.outcome.Outcome.{Outcome}
use Rattle.machine_data.specs.declared.outcome.Outcome.TheVariants as outcome
use Rattle.machine_data.specs.declared.records.Turn.{Turn}
use Rattle.machine_data.specs.declared.records.Turn.TheVariants as turn
use Rattle.machine_data.specs.declared.scenario.MainOpDef.{MainOpDef}
use Rattle.machine_data.specs.declared.scenario.MainOpDef.TheVariants as main_op
use Rattle.machine_rules.specs.MainOps.{op_at}
use Rattle.machine_rules.specs.Outcome.{is_at_rest, outcome_of_label}
use Rattle.machine_rules.specs.Run.{Run}
use Rattle.machine_rules.specs.Stalled.{Setting, is_idle, is_stalled}
use Rattle.machine_rules.specs.Step.{Step}
use Rattle.machine_rules.specs.Turns.{at_turn, goes_to, queues_are_empty, settled_take}
use Rattle.machine_rules.specs.Works.{next_polled, poll_ends}
use Rattle.task_run.specs.Script.{part_of, place_of}

-- ---- They end no run, and the state after them isn't at rest

rests_not : (y : Setting) (k : Core) (m : Main) (b : Bool) → is_at_rest y (record { core = k; main = m; turn = settled_take true b }) ≡ false
unfolding is_at_rest is_stalled is_idle
rests_not y k m true = refl
rests_not y k m false = refl

main_rests_not : (y : Setting) (s : State) (k : Core) (m : Main) → is_at_rest y (at_turn s k m turn.Main) ≡ false
unfolding is_at_rest is_stalled is_idle at_turn
main_rests_not y s k m = refl

ended_rests_not : (y : Setting) (s : State) (k : Core) → is_at_rest y (goes_to s k (turn.Take true)) ≡ false
unfolding at_turn
ended_rests_not y s k = rests_not y k s.main (queues_are_empty k)

abbrev GoesOn : Label → State → Type 0
GoesOn l t = (outcome_of_label l ≡ None) × ((y : Setting) → is_at_rest y t ≡ false)

finds_abort : (s : State) (o : Option ℕ) (l : Label) (t : State) → FindsAbort s o l t → GoesOn l t
finds_abort s None l t found = absurd found
finds_abort s (Some i) l t found = (
  ap outcome_of_label found.1.0,
  λ y. subst (λ (u : State). is_at_rest y u ≡ false) (sym found.1.1) (ended_rests_not y s (poll_ends i None s.core)),
)

aborted_goes : (s : State) (p : Turn) (l : Label) (t : State) → AbortedAt s p l t → GoesOn l t
aborted_goes s (turn.Futures n) l t found = finds_abort s (next_polled n s.core) l t found
aborted_goes s turn.Main l t found = absurd found
aborted_goes s (turn.Take b) l t found = absurd found
aborted_goes s (turn.Run n) l t found = absurd found
aborted_goes s turn.Over l t found = absurd found

finds_request : (s : State) (p : MainPlace) (o : Option MainOpDef) (l : Label) (t : State) → FindsRequest s p o l t → GoesOn l t
finds_request s p (Some (main_op.Abort k)) l t found = (
  ap outcome_of_label found.1.0,
  λ y. subst (λ (u : State). is_at_rest y u ≡ false) (sym found.1.1) (main_rests_not y s s.core _),
)
finds_request s p o l t found = absurd found

requested_by : (x : Setting) (s : State) (m : Main) (l : Label) (t : State) → RequestedBy x s m l t → GoesOn l t
requested_by x s (Scripted p) l t found = finds_request s p (op_at x.script p) l t found
requested_by x s Unscripted l t found = absurd found

requested_goes : (x : Setting) (s : State) (p : Turn) (l : Label) (t : State) → RequestedAt x s p l t → GoesOn l t
requested_goes x s turn.Main l t found = requested_by x s s.main l t found
requested_goes x s (turn.Futures n) l t found = absurd found
requested_goes x s (turn.Take b) l t found = absurd found
requested_goes x s (turn.Run n) l t found = absurd found
requested_goes x s turn.Over l t found = absurd found

met_goes : (x : Setting) (s : State) (p : Turn) (l : Label) (t : State) → AbortedAt s p l t ⊎ RequestedAt x s p l t → GoesOn l t
met_goes x s p l t (inl found) = aborted_goes s p l t found
met_goes x s p l t (inr found) = requested_goes x s p l t found

-- the idle line has no part in them
met_heard : (r : Round) (x : Setting) (s : State) (p : Turn) (l : Label) (t : State) → AbortedAt s p l t ⊎ RequestedAt (heard_in r x) s p l t → AbortedAt s p l t ⊎ RequestedAt x s p l t
met_heard Never x s p l t met = met
met_heard Due x s p l t (inl found) = inl found
met_heard Due x s p l t (inr found) = inr (same p found)
  where
    by : (m : Main) → RequestedBy (heard_in Due x) s m l t → RequestedBy x s m l t
    by (Scripted q) found = found
    by Unscripted found = found

    same : (p : Turn) → RequestedAt (heard_in Due x) s p l t → RequestedAt x s p l t
    same turn.Main found = by s.main found
    same (turn.Futures n) found = found
    same (turn.Take b) found = found
    same (turn.Run n) found = found
    same turn.Over found = found
met_heard (Going n found) x s p l t met = met
met_heard Made x s p l t met = met

met_beside : (x : Setting) (s : State) (l : Label) (t : State) → AbortedAt s s.turn l t ⊎ RequestedAt x s s.turn l t → StepBeside x s l t
unfolding StepBeside
met_beside x s l t met = inr met

-- ---- So the run goes on

module _ {E : Type 0} (c : Component) where
  pub met_took : (l : Label) (a b : BesideRun E) → Able c a → b.left + 1 ≡ a.left → KeepsCells a.cells.list.items b.cells.list.items → Keeps gated_says (place a) (place b) →
      HasMet gated_says course c l (place a) (place b) → StepCalls c 1 a b → HasNoted b → Took c outcome.OutOfSteps a b
  met_took l a b able less cells keeps met calls noted = record {
    able = λ goes. record {
      may = record {
        covered = able.may.covered;
        may_turn = subst (λ (x : Setting). MayTakeTurn gated_says course c x (place b)) (sym same) met.may_turn;
        unfinished = met.unfinished;
        few = let more = met.few in let first = able.few in omega (arith, more, first, less);
      };
      few = let more = met.few in let first = able.few in omega (arith, more, first, less);
      noted = noted;
    };
    noted = noted;
    knows = met.may_turn.knows;
    cells = cells;
    concurrent = ap (λ (p : Bool × (Bool × ℕ)). p.1.0) keeps.constants;
    heard = same;
    on = λ x w r steps own heard on.
        let s = state gated_says course c (place a) in
        let t = state gated_says course c (place b) in
        let found = met_heard r x s (place a).turn l t (subst (λ (y : Setting). AbortedAt s (place a).turn l t ⊎ RequestedAt y s (place a).turn l t) heard met.step) in
        let goes = met_goes x s (place a).turn l t found in (
          with_step x r s l own,
          (
            subst (λ (ls : List Label). HasCome x w r steps b.left outcome.OutOfSteps (with_step x r s l own) ls t) (sym met.trace)
                (steps_add x w r steps b.left own l a.trace s t (subst (λ (n : ℕ). IsOn x w r steps n own a.trace s) (sym less) on) goes.0 (met_beside x s l t found) goes.1),
            follows_step x r s l own a.cells.list.items b.cells.list.items
                (adds_heard r x (setting gated_says course c (place a)) s l a.cells.list.items b.cells.list.items heard
                (calls.one (omega arith) l t (met_beside (setting gated_says course c (place a)) s l t met.step) met.trace)),
          ),
        );
  }
    where
      same : setting gated_says course c (place b) ≡ setting gated_says course c (place a)
      same = same_setting c (place a) (place b) keeps

  -- a step was taken beside the aborters
  pub beside_took : (was_asked : Bool → Type 0) (r : Result Outcome NoMemory) (yield_budget yield_budget' : YieldBudget) (a b : BesideRun E) → Able c a → b.left + 1 ≡ a.left → KeepsCells a.cells.list.items b.cells.list.items →
      Keeps gated_says (place a) (place b) → StepsBeside gated_says course c was_asked false r yield_budget (place a) (place b) yield_budget' → StepCalls c 1 a b → HasNoted b → IfOk r (λ o. Took c o a b)
  beside_took was_asked (Err e) y z a b able less cells keeps steps calls noted = tt
  beside_took was_asked (Ok o) y z a b able less cells keeps (true, (asked, (is, (l, met)))) calls noted =
      subst (λ (p : Outcome). Took c p a b) (sym is) (met_took l a b able less cells keeps met.0 calls noted)
  beside_took was_asked (Ok o) y z a b able less cells keeps (false, (asked, ran)) calls noted = plain_took c 1 (Ok o) y z a b able (omega arith) less cells keeps ran calls noted

-- ---- The spawns after such a step

abbrev MayStep : Setting → State → State → Type 0
MayStep x s t = (t ≡ s) ⊎ ((l : Label) × StepBeside x s l t)

ran_steps : (x : Setting) (s : State) (ks : List Label) (t : State) → length ks ≤ 1 → Run x s ks t → MayStep x s t
unfolding StepBeside
ran_steps x s [] t few run = inl run
ran_steps x s (l ∷ []) t few run = inr (l, inl (subst (λ (u : State). Step x s l u) (sym run.1.1) run.1.0))
ran_steps x s (l ∷ m ∷ ks) t few run = absurd (omega (arith, few))

module _ {E : Type 0} (c : Component) (a b : Place E) where
  abbrev x : Setting
  x = setting gated_says course c a

  drove : (o : Outcome) (y z : YieldBudget) → HasDriven gated_says course c 1 o y a b z → MayStep x (state gated_says course c a) (state gated_says course c b)
  drove o y z driven = let has = driven.gone.has in ran_steps x (state gated_says course c a) has.ran.added (state gated_says course c b) has.few has.ran.run

  stepped : (was_asked : Bool → Type 0) (o : Outcome) (y z : YieldBudget) → StepsBeside gated_says course c was_asked false (Ok o) y a b z → MayStep x (state gated_says course c a) (state gated_says course c b)
  stepped was_asked o y z (true, (asked, (is, (l, met)))) = inr (l, met_beside x (state gated_says course c a) l (state gated_says course c b) met.0.step)
  stepped was_asked o y z (false, (asked, ran)) = drove o y z ran

  spawned : MayStep x (state gated_says course c a) (state gated_says course c b) → Spawns a.store.state.core (part_of a.main.script) b.store.state.core (part_of b.main.script)
  spawned (inl same) = inl (ap (λ (u : State). spawned_by u.main) same)
  spawned (inr step) = beside_spawns x (state gated_says course c a) (place_of a.main.script) step.0 (state gated_says course c b) refl step.1

  made : MayStep x (state gated_says course c a) (state gated_says course c b) → a.store.state.core.made.works ≤ b.store.state.core.made.works
  made (inl same) = let works = ap (λ (u : State). u.core.made.works) same in omega (arith, works)
  made (inr step) = beside_made x (state gated_says course c a) step.0 (state gated_says course c b) step.1

  pub step_grows : (was_asked : Bool → Type 0) (o : Outcome) (y z : YieldBudget) → StepsBeside gated_says course c was_asked false (Ok o) y a b z → GrowsBy (place_of a.main.script).spawns (place_of b.main.script).spawns
  step_grows was_asked o y z steps = grows a.store.state.core (part_of a.main.script) b.store.state.core (part_of b.main.script) (spawned (stepped was_asked o y z steps))

  pub step_rises : (was_asked : Bool → Type 0) (o : Outcome) (y z : YieldBudget) → StepsBeside gated_says course c was_asked false (Ok o) y a b z → IsRising 0 (place_of a.main.script).spawns a.store.state.core.made.works →
      IsRising 0 (place_of b.main.script).spawns b.store.state.core.made.works
  step_rises was_asked o y z steps rising = rises a.store.state.core (part_of a.main.script) b.store.state.core (part_of b.main.script) (spawned (stepped was_asked o y z steps)) (made (stepped was_asked o y z steps)) rising

-- ---- No step

none_ran : {E : Type 0} (c : Component) (a b : Place E) (o : Outcome) (y z : YieldBudget) → HasDriven gated_says course c 0 o y a b z → state gated_says course c b ≡ state gated_says course c a
none_ran c a b o y z driven = let has = driven.gone.has in by has.ran.added has.few has.ran.run
  where
    by : (ks : List Label) → length ks ≤ 0 → Run (setting gated_says course c a) (state gated_says course c a) ks (state gated_says course c b) → state gated_says course c b ≡ state gated_says course c a
    by [] few run = run
    by (l ∷ ks) few run = absurd (omega (arith, few))

-- a drive of no step asks nothing
pub rested_took : {E : Type 0} (c : Component) (r : Result Outcome NoMemory) (y z : YieldBudget) (a b : BesideRun E) → Able c a → b.cells ≡ a.cells → b.left ≡ a.left → Keeps gated_says (place a) (place b) →
    DrivesTo gated_says course c false 0 r y (place a) (place b) z → IfOk r (λ o. Took c o a b)
rested_took c (Err e) y z a b able cells left keeps drives = tt
rested_took c (Ok o) y z a b able cells left keeps drives =
    let same = none_ran c (place a) (place b) o y z drives in
    let spawns : (place_of b.main.script).spawns ≡ (place_of a.main.script).spawns = ap (λ (u : State). spawned_by u.main) same in
    let works : b.store.state.core.made.works ≡ a.store.state.core.made.works = ap (λ (u : State). u.core.made.works) same in
    plain_took c 0 (Ok o) y z a b able (omega arith) (omega (arith, left)) (subst (λ (d : Cells). KeepsCells a.cells.list.items d.list.items) (sym cells) (same_cells a.cells.list.items)) keeps drives
    (no_calls c a able b cells)
    (record {
      noted = subst (λ (d : Cells). AreNoted b.main.script d.spawns) (sym cells) (record { numbers = able.noted.noted.numbers ∙ sym spawns; count = able.noted.noted.count });
      rising = subst (λ (ms : List ℕ). IsRising 0 ms b.store.state.core.made.works) (sym spawns) (subst (λ (n : ℕ). IsRising 0 (place_of a.main.script).spawns n) (sym works) able.noted.rising);
      none = ap (λ (d : Cells). d.polled) cells ∙ able.noted.none;
    })
