-- What a poll has resulted in, where it stops.
use Rattle.laws_labels.specs.Own.{is_data}
use Rattle.laws_labels.proofs.GoingLemmas.{ends_take_none, goings_show_next}
use Rattle.laws_labels.specs.Own.{is_rest, mark_taken, next_mark, rests_by}
use Rattle.ops_state.specs.declared.error.TaskError.{TaskError}
use Rattle.ops_state.specs.declared.error.TaskError.TheVariants as task_error
use Rattle.std.proofs.Common.{ap, append-nil, append_assoc, arith, length-append, refl, subst, sym, ◌∙◌}
use Rattle.std.proofs.lemmas.Bool.Decides.{nat_tests}
use Rattle.std.proofs.lemmas.List.{append_cancel_left}
use Rattle.std.specs.List.{list_all}
use Rattle.std.specs.Prelude.{Bool, Err, List, None, Ok, Option, Result, Some, [], false, is_none, length, not, option_map, true, ℕ, ◌&&◌, ◌*◌, ◌++◌, ◌+◌, ◌<◌, ◌==◌, ◌||◌, ◌∷◌, ◌≡◌, ◌≤◌}
use Rattle.task_loop.proofs.RunPollLemmas.{answer_last, answer_none, data_since, data_unrested, data_unyielded, ends_answer, moves_on, none_rests, passes_more, passes_one, rest_answer, rest_both, rests_none, rests_one, since_both, unyielded_both}
use Rattle.run_trace.specs.YieldBudget.{counted, is_unyielded, passes_after, since_after, yields_before}
use Rattle.task_loop.specs.RunPolls.{answer_of_label, is_yielded, last_answer, may_poll, or_paused, poll_answer, rests_last, run_answer, since_left, yields_at}
use Rattle.run_trace.specs.declared.yield_budget.YieldBudget.{YieldBudget}
use Rattle.task_loop.specs.declared.poll_methods.RunPoll.{RunPoll}
use Rattle.task_loop.specs.declared.poll_methods.RunPoll.TheVariants as poll
use Rattle.machine_data.specs.Core.{Main, State}
use Rattle.machine_data.specs.declared.label.Label.{Label}
use Rattle.machine_data.specs.declared.label.Label.TheVariants as label
use Rattle.machine_data.specs.declared.label.LoopLabel.TheVariants as loop_label
use Rattle.machine_data.specs.declared.outcome.Outcome.{Outcome}
use Rattle.machine_data.specs.declared.outcome.Outcome.TheVariants as outcome
use Rattle.machine_data.specs.declared.records.Turn.{Turn}
use Rattle.machine_data.specs.declared.records.Turn.TheVariants as turn
use Rattle.machine_data.specs.declared.statuses.Mark.{Mark}
use Rattle.laws_places.proofs.OrderLemmas.{steps_make_few}
use Rattle.machine_rules.specs.Outcome.{is_at_rest, last_outcome, outcome_of_label}
use Rattle.machine_rules.specs.Run.{Run}
use Rattle.machine_rules.specs.Stalled.{Setting}
use Rattle.ops_turns.proofs.DriveLemmas.{Run-more, label_ends}
use Rattle.ops_turns.proofs.KeptLemmas.{core_in_order_after}
use Rattle.ops_turns.proofs.SettleLemmas.{step_settles}
use Rattle.ops_turns.specs.Drive.{IsOn}
use Rattle.ops_turns.proofs.SteppedLemmas.{AddedTo}
use Rattle.ops_turns.specs.Turn.{IsSettled, PendsIn, CoreInOrder, Turned, Turns, given, goes_on, is_open, running_of, runs_in, state_at}
use Rattle.ops_turns.specs.declared.made.MadeStep.{MadeStep}
use Rattle.core_primitives.specs.StateView.{StateView}

-- ---- What the turns of a poll result in

-- What a poll of at most so many steps has added and answered, where so many entries were taken before, since the run yielded, and it
-- passes on or not: a run that stopped at the first place at which there was an answer; and what is so then.
pub record Polls (x : Setting) (s : State) (before : List Label) (yield_budget : YieldBudget) (steps : ℕ) (r : Result RunPoll TaskError) (t : State)
    (after : List Label) (yield_budget' : YieldBudget) : Type 0 where
  pub added : List Label
  pub trace : after ≡ before ++ added
  pub run : Run x s added t
  pub few : length added ≤ steps
  pub unyielded : is_unyielded yield_budget.passes yield_budget.since added ≡ true
  pub unrested : rests_last added ≡ true
  pub answers : poll_answer x t yield_budget.passes yield_budget.since added steps ≡ Some r
  pub left : yield_budget'.since ≡ since_left r (since_after yield_budget.since added)
  -- it passes on next where it has yielded before an entry
  pub passes_on : yield_budget'.passes ≡ (is_yielded r && not (length added == steps))

-- What the turns of a poll resulted in, and the state of the store then.
pub record Paused (x : Setting) (s : State) (before : List Label) (numbers : ℕ) (yield_budget : YieldBudget) (steps : ℕ) (r : Result RunPoll TaskError)
    (p : Turn) (m : Main) (t : StateView) (after : List Label) (yield_budget' : YieldBudget) : Type 0 where
  pub polls : Polls x s before yield_budget steps r (state_at t.core m p) after yield_budget'
  pub unfinished : is_open p ≡ may_poll r
  pub order : CoreInOrder x.component p t.core
  pub settled : IsSettled t.core p
  pub few : given t.core ≤ numbers + 2 * steps
  pub running : running_of t ≡ runs_in p
  pub pends : PendsIn x t.core m p

-- ---- Labels that end a poll

may_go : (o : Outcome) → may_poll (run_answer o) ≡ goes_on o
may_go (outcome.Done v) = refl
may_go (outcome.Trap t) = refl
may_go (outcome.Deadlock t) = refl
may_go (outcome.HostFailed i) = refl
may_go outcome.Idle = refl
may_go outcome.OutOfSteps = refl

-- What an answer by a label is: it is no yield, it isn't out of memory, and the label gives an outcome exactly where the run is over.
pub record Ends (l : Label) (r : Result RunPoll TaskError) : Type 0 where
  pub unyielded : is_yielded r ≡ false
  pub there : r ≡ Err task_error.NoMemory → ⊥
  pub over : is_none (outcome_of_label l) ≡ may_poll r

ends_by : (o : Outcome) → goes_on o ≡ false → (is_yielded (run_answer o) ≡ false) × (run_answer o ≡ Err task_error.NoMemory → ⊥)
ends_by (outcome.Done v) h = (refl, λ is. absurd (cc))
ends_by (outcome.Trap t) h = (refl, λ is. absurd (cc))
ends_by (outcome.Deadlock t) h = (refl, λ is. absurd (cc))
ends_by (outcome.HostFailed i) h = (refl, λ is. absurd (cc))
ends_by outcome.Idle h = absurd (cc)
ends_by outcome.OutOfSteps h = absurd (cc)

by_outcome : (l : Label) (o : Option Outcome) (r : Result RunPoll TaskError) → outcome_of_label l ≡ o → answer_of_label l ≡ option_map run_answer o → answer_of_label l ≡ Some r → Ends l r
by_outcome l None r is answer h = absurd (cc)
by_outcome l (Some o) r is answer h =
    let same : run_answer o ≡ r = cc in
    let ends = label_ends l o is in
    let q = ends_by o ends in
    record {
      unyielded = subst (λ (a : Result RunPoll TaskError). is_yielded a ≡ false) same q.0;
      there = subst (λ (a : Result RunPoll TaskError). a ≡ Err task_error.NoMemory → ⊥) same q.1;
      over = ap (λ (o : Option Outcome). is_none o) is ∙ sym (ap (λ (a : Result RunPoll TaskError). may_poll a) (sym same) ∙ (may_go o ∙ ends));
    }

rest_ends : (r : Result RunPoll TaskError) → Some (Ok poll.Rest) ≡ Some r → Ends (label.Loop loop_label.Rest) r
rest_ends r h =
    let same : Ok poll.Rest ≡ r = cc in
    subst (λ (a : Result RunPoll TaskError). Ends (label.Loop loop_label.Rest) a) same (record { unyielded = refl; there = λ is. absurd (cc); over = refl })

pub label_ends_poll : (l : Label) (r : Result RunPoll TaskError) → answer_of_label l ≡ Some r → Ends l r
label_ends_poll (label.Loop loop_label.Rest) r h = rest_ends r h
label_ends_poll (label.Loop (loop_label.Trap t n)) r h = by_outcome (label.Loop (loop_label.Trap t n)) _ r refl refl h
label_ends_poll (label.Loop l) r h = by_outcome (label.Loop l) _ r refl refl h
label_ends_poll l r h = by_outcome l _ r refl refl h

left_same : (r : Result RunPoll TaskError) (k : ℕ) → is_yielded r ≡ false → since_left r k ≡ k
left_same (Ok poll.Yielded) k h = absurd (cc)
left_same (Ok poll.Rest) k h = refl
left_same (Ok poll.Idle) k h = refl
left_same (Ok (poll.Done v)) k h = refl
left_same (Err e) k h = refl

-- ---- How far it has come

-- The labels so far end no poll, and so many entries were taken.
pub record Spent (b : Bool) (k : ℕ) (before mid : List Label) (b' : Bool) (k' : ℕ) : Type 0 where
  pub added : List Label
  pub trace : mid ≡ before ++ added
  pub unyielded : is_unyielded b k added ≡ true
  pub unrested : none_rests added ≡ true
  pub since : k' ≡ since_after k added
  pub passes : b' ≡ passes_after b added

pub spent_none : (b : Bool) (k : ℕ) (before : List Label) → Spent b k before before b k
spent_none b k before = record { added = []; trace = sym (append-nil before); unyielded = refl; unrested = refl; since = refl; passes = refl }

unyielded_last : (b : Bool) (k : ℕ) (l : Label) → yields_before b k (mark_taken l) ≡ false → is_unyielded b k (l ∷ []) ≡ true
unyielded_last b k l h = grind (arith, h)

one_unrested : (l : Label) → is_rest l ≡ false → none_rests (l ∷ []) ≡ true
one_unrested l h = grind (arith, h)

module _ (b : Bool) (k : ℕ) (before mid : List Label) (b' : Bool) (k' : ℕ) (so_far : Spent b k before mid b' k') where
  abbrev ls : List Label
  ls = so_far.added

  module _ (l : Label) (ok : yields_before b' k' (mark_taken l) ≡ false) where
    unyielded_then : is_unyielded b k (ls ++ l ∷ []) ≡ true
    unyielded_then =
        unyielded_both b k ls (l ∷ []) so_far.unyielded
        (unyielded_last (passes_after b ls) (since_after k ls) l
        (subst (λ (q : Bool). yields_before q (since_after k ls) (mark_taken l) ≡ false) so_far.passes
        (subst (λ (j : ℕ). yields_before b' j (mark_taken l) ≡ false) so_far.since ok)))

    since_then : (k'' : ℕ) → k'' ≡ counted k' (mark_taken l) → k'' ≡ since_after k (ls ++ l ∷ [])
    since_then k'' is = is ∙ (ap (λ (j : ℕ). counted j (mark_taken l)) so_far.since ∙ sym (since_both k ls (l ∷ [])))

    -- a label that ends no poll is added
    pub spent_more : is_rest l ≡ false → (after : List Label) → after ≡ mid ++ l ∷ [] → (b'' : Bool) (k'' : ℕ) → b'' ≡ false → k'' ≡ counted k' (mark_taken l) → Spent b k before after b'' k''
    spent_more goes after pushed b'' k'' none is = record {
      added = ls ++ l ∷ [];
      trace = pushed ∙ (ap (λ (ms : List Label). ms ++ l ∷ []) so_far.trace ∙ append_assoc before ls (l ∷ []));
      unyielded = unyielded_then;
      unrested = rest_both ls (l ∷ []) so_far.unrested (one_unrested l goes);
      since = since_then k'' is;
      passes = none ∙ sym (passes_one b ls l);
    }

  -- labels of registers and memory cells are added
  pub spent_data : (ks after : List Label) → list_all is_data ks ≡ true → after ≡ mid ++ ks → b' ≡ false → Spent b k before after b' k'
  spent_data ks after all more none = record {
    added = ls ++ ks;
    trace = more ∙ (ap (λ (ms : List Label). ms ++ ks) so_far.trace ∙ append_assoc before ls ks);
    unyielded = unyielded_both b k ls ks so_far.unyielded (data_unyielded (passes_after b ls) (since_after k ls) ks all);
    unrested = rest_both ls ks so_far.unrested (data_unrested ks all);
    since = so_far.since ∙ sym (since_both k ls ks ∙ data_since (since_after k ls) ks all);
    passes = none ∙ sym (passes_more b ls ks (sym so_far.passes ∙ none));
  }

-- ---- Where it stops

paused_by : (a : Option (Result RunPoll TaskError)) (idle yields : Bool) → a ≡ None → idle ≡ false → yields ≡ true → or_paused a idle yields ≡ Some (Ok poll.Yielded)
paused_by a idle yields p q r = rw (p, q, r) refl

idle_by : (a : Option (Result RunPoll TaskError)) (idle yields : Bool) → a ≡ None → idle ≡ true → or_paused a idle yields ≡ Some (Ok poll.Idle)
idle_by a idle yields p q = rw (p, q) refl

ended_by : (a : Option (Result RunPoll TaskError)) (idle yields : Bool) (r : Result RunPoll TaskError) → a ≡ Some r → or_paused a idle yields ≡ Some r
ended_by a idle yields r p = rw p refl

fewer : (ls : List Label) (n steps : ℕ) → length ls ≡ n → n < steps → (length ls == steps) ≡ false
fewer ls n steps is less = grind (arith, nat_tests, is, less)

as_many : (ls : List Label) (n steps : ℕ) → length ls ≡ n → n ≡ steps → (length ls == steps) ≡ true
as_many ls n steps is all = grind (arith, nat_tests, is, all)

module _ (x : Setting) (s : State) (before : List Label) (numbers : ℕ) (yield_budget : YieldBudget) (steps : ℕ) (p : Turn) (m : Main) (t : StateView) (mid : List Label) (n : ℕ) (b' : Bool) (k' : ℕ)
    (on : IsOn x s before numbers p m t mid n) (so_far : Spent yield_budget.passes yield_budget.since before mid b' k') where
  abbrev b : Bool
  b = yield_budget.passes

  abbrev k : ℕ
  k = yield_budget.since

  abbrev added : List Label
  added = so_far.added

  same : on.going.added ≡ added
  same = append_cancel_left before on.going.added added (sym on.going.trace ∙ so_far.trace)

  run : Run x s added (state_at t.core m p)
  run = subst (λ (ls : List Label). Run x s ls (state_at t.core m p)) same on.going.run

  count : length added ≡ n
  count = ap (λ (ls : List Label). length ls) (sym same) ∙ on.going.count

  none : last_answer added ≡ None
  none = answer_none added (subst (λ (ls : List Label). last_outcome ls ≡ None) same on.going.going_on) so_far.unrested

  yields_here : yields_before b' k' (next_mark p t.core) ≡ true → yields_before (passes_after b added) (since_after k added) (next_mark p t.core) ≡ true
  yields_here h =
      subst (λ (q : Bool). yields_before q (since_after k added) (next_mark p t.core) ≡ true) so_far.passes
      (subst (λ (j : ℕ). yields_before b' j (next_mark p t.core) ≡ true) so_far.since h)

  or_true : (c d : Bool) → d ≡ true → (c || d) ≡ true
  or_true c d h = grind (arith, h)

  or_first : (c d : Bool) → c ≡ true → (c || d) ≡ true
  or_first c d h = grind (arith, h)

  not_off : (c d : Bool) → c ≡ false → d ≡ true → d ≡ (true && not c)
  not_off c d h e = grind (arith, h, e)

  not_on : (c d : Bool) → c ≡ true → d ≡ false → d ≡ (true && not c)
  not_on c d h e = grind (arith, h, e)

  module _ (yield_budget' : YieldBudget) where
    abbrev Stops : Result RunPoll TaskError → Type 0
    Stops r = Paused x s before numbers yield_budget steps r p m t mid yield_budget'

    pauses : (r : Result RunPoll TaskError) → may_poll r ≡ true → n ≤ steps → Polls x s before yield_budget steps r (state_at t.core m p) mid yield_budget' → Stops r
    pauses r may room polls = record {
      polls = polls;
      unfinished = on.at.unfinished ∙ sym may;
      order = on.at.order;
      settled = on.at.settled;
      few = let few = on.few in omega arith;
      running = on.at.running;
      pends = on.pends;
    }

    -- before an entry
    pub yields_now : n < steps → yields_before b' k' (next_mark p t.core) ≡ true → yield_budget'.since ≡ 0 → yield_budget'.passes ≡ true → Stops (Ok poll.Yielded)
    yields_now less h fresh passes = pauses (Ok poll.Yielded) refl (omega arith) (record {
      added = added;
      trace = so_far.trace;
      run = run;
      few = omega (arith, count);
      unyielded = so_far.unyielded;
      unrested = rests_none added so_far.unrested;
      answers = paused_by (last_answer added) (is_at_rest x (state_at t.core m p)) (yields_at (state_at t.core m p) b k added steps) none (moves_on b' k' x (state_at t.core m p) h) (or_true (length added == steps) _ (yields_here h));
      left = fresh;
      passes_on = not_off (length added == steps) yield_budget'.passes (fewer added n steps count less) passes;
    })

    -- where the steps are used up
    pub used_up : n ≡ steps → is_at_rest x (state_at t.core m p) ≡ false → yield_budget'.since ≡ 0 → yield_budget'.passes ≡ false → Stops (Ok poll.Yielded)
    used_up all moves fresh passes = pauses (Ok poll.Yielded) refl (omega arith) (record {
      added = added;
      trace = so_far.trace;
      run = run;
      few = omega (arith, count);
      unyielded = so_far.unyielded;
      unrested = rests_none added so_far.unrested;
      answers = paused_by (last_answer added) (is_at_rest x (state_at t.core m p)) (yields_at (state_at t.core m p) b k added steps) none moves (or_first (length added == steps) _ (as_many added n steps count all));
      left = fresh;
      passes_on = not_on (length added == steps) yield_budget'.passes (as_many added n steps count all) passes;
    })

    -- where nothing can go on
    pub idles : n ≤ steps → is_at_rest x (state_at t.core m p) ≡ true → yield_budget'.since ≡ k' → yield_budget'.passes ≡ false → Stops (Ok poll.Idle)
    idles room rests since passes = pauses (Ok poll.Idle) refl room (record {
      added = added;
      trace = so_far.trace;
      run = run;
      few = omega (arith, count);
      unyielded = so_far.unyielded;
      unrested = rests_none added so_far.unrested;
      answers = idle_by (last_answer added) (is_at_rest x (state_at t.core m p)) (yields_at (state_at t.core m p) b k added steps) none rests;
      left = since ∙ so_far.since;
      passes_on = passes;
    })

    module _ (made : MadeStep) (m' : Main) (t' : StateView) (turns : Turns x p m t made m' t') (after : List Label) (pushed : after ≡ mid ++ made.label ∷ []) where
      -- by a label that ends it
      pub ends_now : (r : Result RunPoll TaskError) → n < steps → answer_of_label made.label ≡ Some r → yields_before b' k' (mark_taken made.label) ≡ false → yield_budget'.since ≡ counted k' (mark_taken made.label) → yield_budget'.passes ≡ false
          → Paused x s before numbers yield_budget steps r made.turn m' t' after yield_budget'
      ends_now r less answer ok since passes =
          let l = made.label in
          let here = state_at t.core m p in
          let then = state_at t'.core m' made.turn in
          let ends = label_ends_poll l r answer in
          record {
            polls = record {
              added = added ++ l ∷ [];
              trace = pushed ∙ (ap (λ (ms : List Label). ms ++ l ∷ []) so_far.trace ∙ append_assoc before added (l ∷ []));
              run = Run-more x s added here l then run turns.step;
              few = let more = length-append added (l ∷ []) in omega (arith, count, more);
              unyielded = unyielded_then b k before mid b' k' so_far l ok;
              unrested = rests_one added l so_far.unrested;
              answers = ended_by (last_answer (added ++ l ∷ [])) (is_at_rest x then) (yields_at then b k (added ++ l ∷ []) steps) r (answer_last added l ∙ answer);
              left = since_then b k before mid b' k' so_far l ok yield_budget'.since since ∙ sym (left_same r (since_after k (added ++ l ∷ [])) ends.unyielded);
              passes_on = let no = ends.unyielded in grind (arith, no, passes);
            };
            unfinished = sym turns.over ∙ ends.over;
            order = core_in_order_after x t.core t'.core m m' p made.turn l on.at.order turns.step;
            settled = step_settles x here l then turns.step;
            few = let few_then = (steps_make_few x here l then turns.step).all in let few = on.few in omega arith;
            running = turns.running;
            pends = turns.pends;
          }

-- A step that was added: it ends the poll by its outcome, or as it rests; or the poll goes on.
module _ (x : Setting) (s : State) (before : List Label) (numbers : ℕ) (yield_budget : YieldBudget) (steps : ℕ) (p : Turn) (m : Main) (t : StateView) (mid : List Label) (n : ℕ) (b' : Bool) (k' : ℕ)
    (on : IsOn x s before numbers p m t mid n) (so_far : Spent yield_budget.passes yield_budget.since before mid b' k') (m' : Main) (t' : StateView) (after : List Label) where
  abbrev next : Option Mark
  next = next_mark p t.core

  pub poll_ends : (yield_budget' : YieldBudget) (o : Outcome) → n < steps → AddedTo (λ made. Turns x p m t made m' t') turn.Over (Some o) mid after → yield_budget'.since ≡ k' → yield_budget'.passes ≡ false
      → Paused x s before numbers yield_budget steps (run_answer o) turn.Over m' t' after yield_budget'
  poll_ends yield_budget' o room h since passes =
      let l = h.0.label in
      let none = ends_take_none l o h.1.0.1.1 in
      subst (λ (q : Turn). Paused x s before numbers yield_budget steps (run_answer o) q m' t' after yield_budget') h.1.0.1.0
      (ends_now x s before numbers yield_budget steps p m t mid n b' k' on so_far yield_budget' h.0 m' t' h.1.1 after h.1.0.0 (run_answer o) room (ends_answer l o h.1.0.1.1)
      (ap (λ (q : Option Mark). yields_before b' k' q) none) (since ∙ sym (ap (λ (q : Option Mark). counted k' q) none)) passes)

  module _ (q : Turn) (h : AddedTo (λ made. Turns x p m t made m' t') q None mid after) (stays : yields_before b' k' (next_mark p t.core) ≡ false) where
    shows : (mark_taken h.0.label ≡ next) × (is_rest h.0.label ≡ rests_by p next)
    shows = goings_show_next x (state_at t.core m p) h.0.label (state_at t'.core m' h.0.turn) h.1.1.step h.1.0.1.1

    unyielded : yields_before b' k' (mark_taken h.0.label) ≡ false
    unyielded = ap (λ (o : Option Mark). yields_before b' k' o) shows.0 ∙ stays

    counts : (k'' : ℕ) → k'' ≡ counted k' (next_mark p t.core) → k'' ≡ counted k' (mark_taken h.0.label)
    counts k'' is = is ∙ sym (ap (λ (o : Option Mark). counted k' o) shows.0)

    pub poll_rests : (yield_budget' : YieldBudget) → n < steps → rests_by p (next_mark p t.core) ≡ true → yield_budget'.since ≡ counted k' (next_mark p t.core) → yield_budget'.passes ≡ false
        → Paused x s before numbers yield_budget steps (Ok poll.Rest) q m' t' after yield_budget'
    poll_rests yield_budget' room rests since passes =
        subst (λ (q : Turn). Paused x s before numbers yield_budget steps (Ok poll.Rest) q m' t' after yield_budget') h.1.0.1.0
        (ends_now x s before numbers yield_budget steps p m t mid n b' k' on so_far yield_budget' h.0 m' t' h.1.1 after h.1.0.0 (Ok poll.Rest) room (rest_answer h.0.label (shows.1 ∙ rests))
        unyielded (counts yield_budget'.since since) passes)

    pub poll_goes : (b'' : Bool) (k'' : ℕ) → rests_by p (next_mark p t.core) ≡ false → k'' ≡ counted k' (next_mark p t.core) → b'' ≡ false → Spent yield_budget.passes yield_budget.since before after b'' k''
    poll_goes b'' k'' rests since passes =
        spent_more yield_budget.passes yield_budget.since before mid b' k' so_far h.0.label unyielded (shows.1 ∙ rests) after h.1.0.0 b'' k'' passes (counts k'' since)

-- nothing can go on, and nothing was changed by that turn
pub idle_turned : (x : Setting) (s : State) (before : List Label) (numbers : ℕ) (yield_budget : YieldBudget) (steps : ℕ) (p : Turn) (m : Main) (t : StateView) (mid : List Label) (n : ℕ) (b' : Bool) (k' : ℕ)
    → IsOn x s before numbers p m t mid n → Spent yield_budget.passes yield_budget.since before mid b' k' → (m' : Main) (t' : StateView) (after : List Label) (yield_budget' : YieldBudget) → n ≤ steps
    → Turned x p m t None m' t' × (after ≡ mid) → yield_budget'.since ≡ k' → yield_budget'.passes ≡ false → Paused x s before numbers yield_budget steps (Ok poll.Idle) p m' t' after yield_budget'
idle_turned x s before numbers yield_budget steps p m t mid n b' k' on so_far m' t' after yield_budget' room h since passes =
    subst (λ (ls : List Label). Paused x s before numbers yield_budget steps (Ok poll.Idle) p m' t' ls yield_budget') (sym h.1)
    (subst (λ (u : StateView). Paused x s before numbers yield_budget steps (Ok poll.Idle) p m' u mid yield_budget') (sym h.0.1.1)
    (subst (λ (k : Main). Paused x s before numbers yield_budget steps (Ok poll.Idle) p k t mid yield_budget') (sym h.0.1.0) (idles x s before numbers yield_budget steps p m t mid n b' k' on so_far yield_budget' room h.0.0 since passes)))
