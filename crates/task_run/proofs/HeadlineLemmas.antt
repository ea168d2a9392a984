-- A driven script is a run of its scenario.
use Rattle.std.proofs.Common.{◌≡◌, ◌∙◌, ◌++◌, ◌-◌, ◌+◌, ◌*◌, ◌∷◌, ap, arith, ℕ, zero, suc, List, [], refl, sym, subst, take}
use Rattle.std.specs.Prelude.{◌≤◌, length}
use Rattle.machine_data.specs.declared.label.Label.{Label}
use Rattle.machine_data.specs.declared.outcome.Outcome.{Outcome}
use Rattle.machine_data.specs.declared.records.Turn.TheVariants as turn
use Rattle.machine_data.specs.declared.scenario.ScenarioDef.{ScenarioDef}
use Rattle.machine_data.specs.Core.{Core, State, Scripted, fresh}
use Rattle.machine_rules.specs.History.{history}
use Rattle.task_group.specs.Listeners.{Listeners, nobody}
use Rattle.task_loop.proofs.AnswersOkLemmas.{all_told}
use Rattle.task_loop.specs.AnswersOk.{AnswersOkAll}
use Rattle.machine_rules.specs.Notices.{notices}
use Rattle.machine_rules.specs.Once.{EndsOnce, OneHolder}
use Rattle.machine_rules.specs.Outcome.{IsOutcome}
use Rattle.machine_rules.specs.Run.{Run, main_opening, opens}
use Rattle.machine_rules.specs.Stalled.{Setting, setting_of}
use Rattle.ops_turns.specs.Drive.{Drives}
use Rattle.ops_turns.specs.Turn.{state_at}
use Rattle.machine_data.specs.declared.records.Notice.{Notice}
use Rattle.task_run.proofs.RoomLemmas.{run_room}
use Rattle.task_run.specs.Runnable.{IsRunnable}
use Rattle.task_run.specs.Lower.{Reads}
use Rattle.task_run.proofs.RunnableLemmas.{runnable_scenario}
use Rattle.task_run.specs.Headline.{IsRunOf, machine_scenario}
use Rattle.task_run.specs.declared.scenario.Scenario.{Scenario}

module _ (x : Scenario) (runnable : IsRunnable x) where
  -- the opening state is that of a new store with main at its first op
  pub opens_is : state_at (fresh x.rules (length x.component.instances) x.handles x.table) (Scripted main_opening) turn.Main ≡ opens (machine_scenario x)
  unfolding opens
  opens_is = refl

-- what the scenario's runs keep
pub record Keeps (x : ScenarioDef) : Type 0 where
  pub once : (ls : List Label) (t : State) (run : Run (setting_of x) (opens x) ls t) → EndsOnce x.component (history (setting_of x) (opens x) ls t run)
  pub alone : (ls : List Label) (t : State) (run : Run (setting_of x) (opens x) ls t) → OneHolder (history (setting_of x) (opens x) ls t run)

take_whole : (ns : List Notice) (k : ℕ) → length ns ≤ k → take k ns ≡ ns
take_whole [] zero few = refl
take_whole [] (suc k) few = refl
take_whole (n ∷ ns) zero few = absurd (omega (arith, few))
take_whole (n ∷ ns) (suc k) few = ap (λ (ms : List Notice). n ∷ ms) (take_whole ns k (omega (arith, few)))

less_none : (k : ℕ) → k - 0 ≡ k
less_none k = omega arith

abbrev told_of_run : (x : ScenarioDef) (ls : List Label) (t : State) → Run (setting_of x) (opens x) ls t → List Notice
told_of_run x ls t run = notices (history (setting_of x) (opens x) ls t run)

opens_groups : (x : ScenarioDef) → (opens x).core.groups ≡ []
unfolding opens fresh
opens_groups x = refl

-- the room that a report takes is enough
room_suffices : (x : ScenarioDef) (ls : List Label) (t : State) (run : Run (setting_of x) (opens x) ls t) (old new : Listeners) → AnswersOkAll (history (setting_of x) (opens x) ls t run) old new → (steps : ℕ) → length ls ≤ steps → length (told_of_run x ls t run) ≤ 2 * steps + 512
room_suffices x ls t run old new answers_ok steps few =
    let all = run_room (setting_of x) (opens x) ls t run old new answers_ok in
    let none = ap (λ (gs : List ℕ). length gs) (opens_groups x) in
    omega (arith, all, none, few)

-- a run was driven, and its notices were told
abbrev pub DrivesTold : (old new : Listeners) (t : State) (after : List Label) (steps : ℕ) (o : Outcome) → Setting → State → List Label → Type 0
DrivesTold old new t after steps o y s before =
    (d : Drives y s before t after steps o) × AnswersOkAll (history y s d.added t d.run) old new

pub headline : (x : ScenarioDef) → Keeps x → (y : Setting) (s t : State) (before after : List Label) (steps : ℕ) (o : Outcome) (core : Core) (old new : Listeners) →
    y ≡ setting_of x → s ≡ opens x → before ≡ [] → core ≡ t.core → old ≡ record nobody { room = 2 * steps + 512 } →
    DrivesTold old new t after steps o y s before → IsRunOf x steps after o core new.notices
headline x keeps y s t before after steps o core old new setting start none image room driven =
    let one : DrivesTold old new t after steps o (setting_of x) s before = subst (λ (y : Setting). DrivesTold old new t after steps o y s before) setting driven in
    let two : DrivesTold old new t after steps o (setting_of x) (opens x) before = subst (λ (s : State). DrivesTold old new t after steps o (setting_of x) s before) start one in
    let three : DrivesTold old new t after steps o (setting_of x) (opens x) [] = subst (λ (ls : List Label). DrivesTold old new t after steps o (setting_of x) (opens x) ls) none two in
    let d = three.0 in
    let both : (run : Run (setting_of x) (opens x) after t) × AnswersOkAll (history (setting_of x) (opens x) after t run) old new =
    subst (λ (ls : List Label). (run : Run (setting_of x) (opens x) ls t) × AnswersOkAll (history (setting_of x) (opens x) ls t run) old new) (sym d.trace) (d.run, three.1) in
    let run = both.0 in
    record {
      last = t;
      run = run;
      few = subst (λ (ls : List Label). length ls ≤ steps) (sym d.trace) d.few;
      ends = subst (λ (ls : List Label). IsOutcome (setting_of x) t ls steps o) (sym d.trace) d.ends;
      image = image;
      once = keeps.once after t run;
      alone = keeps.alone after t run;
      told = (all_told (history (setting_of x) (opens x) after t run) old new both.1).kept ∙ (ap (λ (l : Listeners). l.notices ++ take (l.room - length l.notices) (told_of_run x after t run)) room
          ∙ (ap (λ (k : ℕ). take k (told_of_run x after t run)) (less_none (2 * steps + 512)) ∙ take_whole (told_of_run x after t run) (2 * steps + 512) (room_suffices x after t run old new both.1 steps (subst (λ (ls : List Label). length ls ≤ steps) (sym d.trace) d.few))));
    }

-- a run has what it needs of a scenario that a text represents
pub runnable_read : (text : List ℕ) (x : Scenario) → Reads text x → IsRunnable x
runnable_read text x reads = subst (λ (x : Scenario). IsRunnable x) (sym reads.2) (runnable_scenario reads.0 reads.1.well_formed)
