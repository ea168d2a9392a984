-- A drive leaves the yield budget that its polls leave, one after another.
use Rattle.laws_labels.proofs.GoingLemmas.{goings_show_next}
use Rattle.laws_labels.specs.Own.{mark_taken, next_mark}
use Rattle.run_trace.proofs.YieldBudgetLemmas.{driven_both, driven_unyielded, past_yielded}
use Rattle.run_trace.specs.YieldBudget.{is_unyielded, passes_after, since_after, since_driven, yields_before}
use Rattle.run_trace.specs.declared.yield_budget.YieldBudget.{YieldBudget}
use Rattle.ops_state.specs.declared.error.TaskError.{TaskError}
use Rattle.std.proofs.Common.{ap, refl, subst, sym, ◌∙◌}
use Rattle.std.specs.Prelude.{Bool, Err, List, None, Ok, Option, Result, Some, [], false, length, not, true, ℕ, ◌&&◌, ◌++◌, ◌==◌, ◌||◌, ◌∷◌, ◌≡◌}
use Rattle.task_loop.proofs.DrivenLemmas.{none_left}
use Rattle.task_loop.proofs.PausedLemmas.{label_ends_poll}
use Rattle.task_loop.proofs.RunPollLemmas.{moves_on}
use Rattle.task_loop.specs.HasRun.{At, setting, state}
use Rattle.task_loop.specs.YieldBudgets.{LastPollIsDrive, LeavesYieldBudget, PollThenDrive}
use Rattle.task_loop.specs.RunPolls.{is_yielded, last_answer, or_paused, since_left_by, yields_at}
use Rattle.task_loop.specs.Says.{Says}
use Rattle.task_loop.specs.declared.poll_methods.RunPoll.{RunPoll}
use Rattle.task_loop.specs.declared.poll_methods.RunPoll.TheVariants as poll
use Rattle.machine_data.specs.Core.{State}
use Rattle.machine_data.specs.declared.component.HostDef.{HostDef}
use Rattle.machine_data.specs.declared.label.Label.{Label}
use Rattle.machine_data.specs.declared.outcome.Outcome.{Outcome}
use Rattle.machine_data.specs.declared.outcome.Outcome.TheVariants as outcome
use Rattle.machine_data.specs.declared.statuses.Mark.{Mark}
use Rattle.machine_rules.proofs.LawLemmas.{step_ends, step_over}
use Rattle.machine_rules.specs.Outcome.{IsOutcome, is_at_rest, open_outcome, or_open, outcome_of, outcome_of_label}
use Rattle.machine_rules.specs.Run.{Run}
use Rattle.machine_rules.specs.Stalled.{Setting}
use Rattle.machine_rules.specs.Step.{Step}
use Rattle.ops_turns.proofs.DriveLemmas.{label_ends}
use Rattle.ops_turns.specs.Turn.{goes_on}

-- ---- What its answer says of a poll

-- no label makes it yield
last_unyielded : (ls : List Label) (r : Result RunPoll TaskError) → last_answer ls ≡ Some r → is_yielded r ≡ false
last_unyielded [] r h = absurd (cc)
last_unyielded (l ∷ []) r h = (label_ends_poll l r h).unyielded
last_unyielded (l ∷ m ∷ ls) r h = last_unyielded (m ∷ ls) r h

-- something can go on where it yields
yields_there : (ls : List Label) (idle yields : Bool) → or_paused (last_answer ls) idle yields ≡ Some (Ok poll.Yielded) → yields ≡ true
yields_there ls idle yields h = go (last_answer ls) idle yields refl h
  where
    go : (a : Option (Result RunPoll TaskError)) (i y : Bool) → last_answer ls ≡ a → or_paused a i y ≡ Some (Ok poll.Yielded) → y ≡ true
    go None true y at h = absurd (cc)
    go None false true at h = refl
    go None false false at h = absurd (cc)
    go (Some r) i y at h =
        let same : r ≡ Ok poll.Yielded = cc in
        let no = subst (λ (q : Result RunPoll TaskError). is_yielded q ≡ false) same (last_unyielded ls r at) in
        absurd (cc)

-- a rest is shown by a label
rests_later : (b : Bool) (ls : List Label) (idle yields : Bool) → or_paused (last_answer ls) idle yields ≡ Some (Ok poll.Rest) → passes_after b ls ≡ false
rests_later b [] true yields h = absurd (cc)
rests_later b [] false true h = absurd (cc)
rests_later b [] false false h = absurd (cc)
rests_later b (l ∷ ls) idle yields h = refl

second_of : (c d : Bool) → not c ≡ true → (c || d) ≡ true → d ≡ true
second_of true d off h = absurd (cc)
second_of false d off h = h

used_of : (c : Bool) → not c ≡ false → (true && not c) ≡ false
used_of c h = h

-- ---- The poll with which a drive ends

pub last_poll_is_drive : {M T H G : Type 0} (says : Says M) (course : H → HostDef) (a : At M T H G) → LastPollIsDrive says course a
last_poll_is_drive says course a c b yield_budget yield_budget' n outcome.Idle polled goes ends =
    record { since = polled.since ∙ sym (driven_unyielded yield_budget.passes yield_budget.since polled.has.ran.added polled.unyielded); passes_on = polled.passes_on }
last_poll_is_drive says course a c b yield_budget yield_budget' n outcome.OutOfSteps polled goes ends =
    record { since = polled.since; passes_on = polled.passes_on ∙ used_of (length polled.has.ran.added == n) ends }
last_poll_is_drive says course a c b yield_budget yield_budget' n (outcome.Done v) polled goes ends = absurd (cc)
last_poll_is_drive says course a c b yield_budget yield_budget' n (outcome.Trap w) polled goes ends = absurd (cc)
last_poll_is_drive says course a c b yield_budget yield_budget' n (outcome.Deadlock w) polled goes ends = absurd (cc)
last_poll_is_drive says course a c b yield_budget yield_budget' n (outcome.HostFailed i) polled goes ends = absurd (cc)

-- ---- A poll, and a drive after it

some_of : {X : Type 0} (a b : X) → Some a ≡ Some b → a ≡ b
some_of a b is = cc

-- Before the entry that is next it yields: whether it has yielded there just now or not, so many entries count.
module _ (x : Setting) (t u : State) (steps : ℕ) (o : Outcome) (b : Bool) (k : ℕ) (yields : yields_before b k (next_mark t.turn t.core) ≡ true) where
  same_idle : (o' : Outcome) → u ≡ t → IsOutcome x u [] steps o' → since_left_by o' 0 ≡ since_left_by o' k
  unfolding outcome_of
  same_idle outcome.Idle at ends =
      let moves = moves_on b k x t yields in
      let there : is_at_rest x u ≡ false = ap (λ (s : State). is_at_rest x s) at ∙ moves in
      absurd (no_idle (is_at_rest x u) (0 == steps) there ends)
    where
      no_idle : (r used : Bool) → r ≡ false → open_outcome r used ≡ Some outcome.Idle → ⊥
      no_idle true used off h = absurd (cc)
      no_idle false true off h = absurd (cc)
      no_idle false false off h = absurd (cc)
  same_idle _ at ends = refl

  -- its label ended the run
  over_then : (l : Label) (v : State) (ls : List Label) (o' : Outcome) → Step x t l v → outcome_of_label l ≡ Some o' → Run x v ls u → IsOutcome x u (l ∷ ls) steps o → goes_on o ≡ false
  unfolding outcome_of
  over_then l v [] o' step is run ends =
      let same = some_of o' o (sym (ap (λ (q : Option Outcome). or_open q x u (l ∷ []) steps) is) ∙ ends) in
      subst (λ (q : Outcome). goes_on q ≡ false) same (label_ends l o' is)
  over_then l v (m ∷ ls) o' step is run ends = absurd (step_over x v m run.0 (step_ends x t l v step o' is) run.1.0)

  yielded_on : (ls : List Label) → Run x t ls u → IsOutcome x u ls steps o → since_left_by o (since_driven true 0 ls) ≡ since_left_by o (since_driven b k ls)
  yielded_on [] run ends = same_idle o run ends
  yielded_on (l ∷ ls) run ends = go (outcome_of_label l) refl
    where
      go : (q : Option Outcome) → outcome_of_label l ≡ q → since_left_by o (since_driven true 0 (l ∷ ls)) ≡ since_left_by o (since_driven b k (l ∷ ls))
      go None none =
          let shows = (goings_show_next x t l run.0 run.1.0 none).0 in
          let past = past_yielded b k (mark_taken l) (subst (λ (m : Option Mark). yields_before b k m ≡ true) (sym shows) yields) in
          ap (λ (j : ℕ). since_left_by o (since_driven false j ls)) (sym past)
      go (Some o') is =
          let over = over_then l run.0 ls o' run.1.0 is run.1.1 ends in
          none_left o _ over ∙ sym (none_left o _ over)

module _ (ls ks : List Label) (o : Outcome) (yield_budget yield_budget' yield_budget'' : YieldBudget) (unyielded : is_unyielded yield_budget.passes yield_budget.since ls ≡ true)
    (since : yield_budget''.since ≡ since_left_by o (since_driven yield_budget'.passes yield_budget'.since ks)) (passes_on : yield_budget''.passes ≡ false) where
  counts : since_driven yield_budget.passes yield_budget.since ls ≡ since_after yield_budget.since ls
  counts = driven_unyielded yield_budget.passes yield_budget.since ls unyielded

  joined : since_left_by o (since_driven yield_budget'.passes yield_budget'.since ks) ≡ since_left_by o (since_driven (passes_after yield_budget.passes ls) (since_driven yield_budget.passes yield_budget.since ls) ks) → LeavesYieldBudget yield_budget (ls ++ ks) o yield_budget''
  joined is = record {
    since = since ∙ (is ∙ sym (ap (λ (j : ℕ). since_left_by o j) (driven_both yield_budget.passes yield_budget.since ls ks)));
    passes_on = passes_on;
  }

  begun : (b : Bool) (k : ℕ) → yield_budget'.passes ≡ b → yield_budget'.since ≡ k → since_left_by o (since_driven yield_budget'.passes yield_budget'.since ks) ≡ since_left_by o (since_driven b k ks)
  begun b k passes since =
      ap (λ (q : Bool). since_left_by o (since_driven q yield_budget'.since ks)) passes ∙ ap (λ (j : ℕ). since_left_by o (since_driven b j ks)) since

pub poll_then_drive : {M T H G : Type 0} (says : Says M) (course : H → HostDef) (a : At M T H G) → PollThenDrive says course a
poll_then_drive says course a c b d yield_budget yield_budget' yield_budget'' n steps (Ok poll.Rest) o polled on driven =
    let ls = polled.has.ran.added in
    let ks = driven.gone.has.ran.added in
    let x = setting says course c a in
    let t = state says course c b in
    let rests = rests_later yield_budget.passes ls (is_at_rest x t) (yields_at t yield_budget.passes yield_budget.since ls n) polled.answers in
    joined ls ks o yield_budget yield_budget' yield_budget'' polled.unyielded driven.since driven.passes_on
    (begun ls ks o yield_budget yield_budget' yield_budget'' polled.unyielded driven.since driven.passes_on (passes_after yield_budget.passes ls) (since_driven yield_budget.passes yield_budget.since ls) (polled.passes_on ∙ sym rests)
    (polled.since ∙ sym (counts ls ks o yield_budget yield_budget' yield_budget'' polled.unyielded driven.since driven.passes_on)))
poll_then_drive says course a c b d yield_budget yield_budget' yield_budget'' n steps (Ok poll.Yielded) o polled on driven =
    let ls = polled.has.ran.added in
    let ks = driven.gone.has.ran.added in
    let x = setting says course c a in
    let t = state says course c b in
    let stops = yields_there ls (is_at_rest x t) (yields_at t yield_budget.passes yield_budget.since ls n) polled.answers in
    let before_next = second_of (length ls == n) (yields_before (passes_after yield_budget.passes ls) (since_after yield_budget.since ls) (next_mark t.turn t.core)) on stops in
    let counted = counts ls ks o yield_budget yield_budget' yield_budget'' polled.unyielded driven.since driven.passes_on in
    let yields = subst (λ (j : ℕ). yields_before (passes_after yield_budget.passes ls) j (next_mark t.turn t.core) ≡ true) (sym counted) before_next in
    joined ls ks o yield_budget yield_budget' yield_budget'' polled.unyielded driven.since driven.passes_on
    (begun ls ks o yield_budget yield_budget' yield_budget'' polled.unyielded driven.since driven.passes_on true 0 (polled.passes_on ∙ on) polled.since
    ∙ yielded_on (setting says course c b) t (state says course c d) steps o (passes_after yield_budget.passes ls) (since_driven yield_budget.passes yield_budget.since ls) yields ks driven.gone.has.ran.run driven.gone.outcome)
poll_then_drive says course a c b d yield_budget yield_budget' yield_budget'' n steps (Ok poll.Idle) o polled on driven = absurd (cc)
poll_then_drive says course a c b d yield_budget yield_budget' yield_budget'' n steps (Ok (poll.Done v)) o polled on driven = absurd (cc)
poll_then_drive says course a c b d yield_budget yield_budget' yield_budget'' n steps (Err e) o polled on driven = absurd (cc)
