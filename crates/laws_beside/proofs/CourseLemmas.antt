-- How a run beside aborters goes on.
use Rattle.laws_beside.proofs.CallLemmas.{calls_go_on, no_calls}
use Rattle.laws_beside.proofs.OutcomeLemmas.{last_behind, no_label_rests, no_label_uses_up, open_runs_use_up, runs_come_to, runs_come_to_behind, runs_show_a_label, waiting_rests, wide_outcomes}
use Rattle.laws_beside.specs.Courses.{HasOutcome, InRound, IsOn, IsRun, OpenRunsGoOn, Own, RoundBegins, RoundEnds, RoundGoes, RoundsAreCut, RunOpens, RunsAdd, StepsAdd, at_take, heard_in, polled_label, with_poll, with_run, with_step}
use Rattle.laws_beside.specs.Outcomes.{CameTo, Ends, GoesOn, Rests}
use Rattle.laws_beside.specs.Rounds.{is_going}
use Rattle.laws_beside.proofs.DueLemmas.{runs_are_due}
use Rattle.laws_beside.proofs.WideLemmas.{runs_are_wide}
use Rattle.laws_beside.specs.Laws.{waiting}
use Rattle.laws_beside.specs.Wide.{Due, Going, IsWideOutcome, Made, Never, Round, RoundPolls, StepBeside, Wide, WideRun, WideStep, after_round, begun, ended_round, is_past, is_running_spawn, next_spawn, opens_wide, past_last, settled, wide}
use Rattle.std.proofs.Common.{ap, arith, inl, inr, length-append, refl, subst, sym, ◌∙◌}
use Rattle.std.proofs.lemmas.List.{append-nil}
use Rattle.std.specs.Prelude.{Bool, List, None, Option, Some, [], cond, false, if◌then◌else◌, length, suc, true, zero, ℕ, ◌&&◌, ◌+◌, ◌++◌, ◌∷◌, ◌≡◌, ◌≤◌}
use Rattle.machine_data.specs.Core.{Core, Main, State}
use Rattle.machine_data.specs.Read.{is_nil}
use Rattle.machine_data.specs.declared.label.Label.{Label}
use Rattle.machine_data.specs.declared.label.Label.TheVariants as label
use Rattle.machine_data.specs.declared.label.LoopLabel.TheVariants as loop_label
use Rattle.machine_data.specs.declared.outcome.Outcome.{Outcome}
use Rattle.machine_data.specs.declared.outcome.Outcome.TheVariants as outcome
use Rattle.machine_data.specs.declared.records.Turn.{Turn}
use Rattle.machine_data.specs.declared.records.Turn.TheVariants as turn
use Rattle.machine_rules.specs.Outcome.{IsOutcome, is_at_rest, last_outcome}
use Rattle.machine_rules.specs.Run.{Run, opens}
use Rattle.machine_rules.specs.Stalled.{Setting, is_idle, is_stalled, is_unended_take, main_pends, no_set_passed_over, none_admitted, none_behind, none_blocked_on_end, setting_of, works_rest}
use Rattle.machine_rules.specs.Turns.{at_turn, queues_are_empty}
use Rattle.machine_rules.specs.Works.{poll_ends}

-- ---- The opening

pub run_opens : RunOpens
unfolding opens is_stalled is_idle
run_opens x steps = record {
  run = no_calls (setting_of x) (opens_wide x);
  unended = refl;
  outside = by (is_nil x.aborters);
  waits = λ due. refl;
  count = let none : length {A = Label} [] ≡ 0 = refl in omega (arith, none);
}
  where
    by : (b : Bool) → is_going (if b then Never else Due) ≡ false
    by true = refl
    by false = refl

-- ---- The machine's own runs

goes : (x : Setting) (r : Round) (s : State) (ls : List Label) (t : State) → is_going r ≡ false → (r ≡ Due → is_stalled x s ≡ false) →
    Run (heard_in r x) s ls t → WideRun x (wide s r) ls (settled x t r)
unfolding settled
goes x Never s ls t out waits run = runs_are_wide x Never s ls t refl run
goes x Due s ls t out waits run = due x s ls t (waits refl) run
  where
    due : (x : Setting) (s : State) (ls : List Label) (t : State) → is_stalled x s ≡ false → Run (waiting x) s ls t → WideRun x (wide s Due) ls (settled x t Due)
    due x s ls t waits run = runs_are_due x s ls t waits run
goes x (Going n found) s ls t out waits run = absurd (cc)
goes x Made s ls t out waits run = runs_are_wide x Made s ls t refl run

no_round : (x : Setting) (s : State) (r : Round) → (r ≡ Due → is_stalled x s ≡ false) → is_going r ≡ false → settled x s r ≡ wide s r
unfolding settled
no_round x s Never waits out = refl
no_round x s Due waits out = ap (λ (b : Bool). ended_round s (begun b)) (waits refl)
no_round x s (Going n found) waits out = absurd (cc)
no_round x s Made waits out = refl

-- one label was added, if the run wasn't at rest
added_by : (y : Setting) (s t : State) (ls : List Label) (o : Outcome) (k : ℕ) → k ≤ 1 → is_at_rest y s ≡ false → Run y s ls t → length ls ≤ k → IsOutcome y t ls k o → length ls ≡ k
added_by y s t ls o zero one going run few is = omega (arith, few)
added_by y s t [] o (suc zero) one going run few is = absurd (runs_show_a_label y t [] o (ap (is_at_rest y) run ∙ going) refl is)
added_by y s t (l ∷ ls) o (suc zero) one going run few is = omega (arith, few)
added_by y s t ls o (suc (suc k)) one going run few is = absurd (omega (arith, one))

-- a run of one step is a step of a run beside aborters
one_step : (x : Setting) (r : Round) (s : State) (l : Label) (t : State) → is_going r ≡ false → (r ≡ Due → is_stalled x s ≡ false) →
    Run (heard_in r x) s (l ∷ []) t → WideStep x (wide s r) l (settled x t r)
one_step x r s l t out waits run = let one = goes x r s (l ∷ []) t out waits run in subst (λ (v : Wide). WideStep x (wide s r) l v) (sym one.1.1) one.1.0

step_run : (x : Setting) (w : Wide) (r : Round) (own : Own) (ls : List Label) (s : State) (l : Label) (v : Wide) → IsRun x w ls (wide s r) own → WideStep x (wide s r) l v →
    IsRun x w (ls ++ l ∷ []) v (with_step x r s l own)
step_run x w r own ls s l v run step = calls_go_on x w ls (wide s r) l v own.calls own.early run step

run_run : (x : Setting) (w : Wide) (r : Round) (own : Own) (ls ks : List Label) (s t : State) → is_going r ≡ false → (r ≡ Due → is_stalled x s ≡ false) → length ks ≤ 1 →
    Run (heard_in r x) s ks t → IsRun x w ls (wide s r) own → IsRun x w (ls ++ ks) (settled x t r) (with_run x r s ks own)
run_run x w r own ls [] s t out waits few is run =
    subst (λ (ks : List Label). IsRun x w ks (settled x t r) own) (sym (append-nil ls))
    (subst (λ (v : Wide). IsRun x w ls v own) (sym (ap (λ (u : State). settled x u r) is ∙ no_round x s r waits out)) run)
run_run x w r own ls (l ∷ []) s t out waits few is run = step_run x w r own ls s l (settled x t r) run (one_step x r s l t out waits is)
run_run x w r own ls (l ∷ k ∷ ks) s t out waits few is run = absurd (omega (arith, few))

pub runs_add : RunsAdd
runs_add x w r steps left k o own ls ks s t one on run few is = record {
  run = run_run x w r own ls ks s t on.outside on.waits (omega (arith, few, one)) run on.run;
  came = runs_come_to_behind (heard_in r x) t ls ks o on.unended (runs_come_to (heard_in r x) t ks k o is);
  few = let count = on.count in omega (arith, longer, few, count);
  used = λ out. let all : length ks ≡ k = open_runs_use_up (heard_in r x) t ks k (subst (λ (p : Outcome). IsOutcome (heard_in r x) t ks k p) out is) in
      let count = on.count in omega (arith, longer, all, count);
  due = λ due. let all = counted due in let count = on.count in omega (arith, longer, all, count);
}
  where
    longer : length (ls ++ ks) ≡ length ls + length ks
    longer = length-append ls ks

    counted : r ≡ Due → length ks ≡ k
    counted due =
        let waits : heard_in r x ≡ waiting x = ap (λ (q : Round). heard_in q x) due in
        let going : is_at_rest (waiting x) s ≡ false = waiting_rests x s ∙ on.waits due in
        added_by (heard_in r x) s t ks o k one (ap (λ (y : Setting). is_at_rest y s) waits ∙ going) run few is

-- a step beside the machine's own, too
beside_step : (x : Setting) (s : State) (r : Round) (l : Label) (t : State) → is_going r ≡ false → StepBeside x s l t → WideStep x (wide s r) l (settled x t r)
unfolding WideStep
beside_step x s Never l t out step = (t, (step, refl))
beside_step x s Due l t out step = (t, (step, refl))
beside_step x s (Going n found) l t out step = absurd (cc)
beside_step x s Made l t out step = (t, (step, refl))

pub steps_add : StepsAdd
steps_add x w r steps left own l ls s t on unended step going = record {
  run = step_run x w r own ls s l (settled x t r) on.run (beside_step x s r l t on.outside step);
  came = GoesOn (last_behind ls (l ∷ []) on.unended ∙ unended) refl (going (heard_in r x));
  few = let count = on.count in omega (arith, longer, count);
  used = λ out. let count = on.count in omega (arith, longer, count);
  due = λ due. let count = on.count in omega (arith, longer, count);
}
  where
    longer : length (ls ++ l ∷ []) ≡ length ls + 1
    longer = length-append ls (l ∷ [])

-- ---- On and on

still_waits : (x : Setting) (s : State) (r : Round) → is_at_rest (heard_in r x) s ≡ false → r ≡ Due → is_stalled x s ≡ false
still_waits x s r going due = sym (waiting_rests x s) ∙ (ap (λ (q : Round). is_at_rest (heard_in q x) s) (sym due) ∙ going)

pub open_runs_go_on : OpenRunsGoOn
open_runs_go_on x w r steps left own ls s out come = by come.came
  where
    by : CameTo (heard_in r x) s ls outcome.OutOfSteps → IsOn x w r steps left own ls s
    by (Ends is) = absurd (no_label_uses_up ls is)
    by (Rests unended is rests) = absurd (cc)
    by (GoesOn unended is going) =
        let waits : r ≡ Due → is_stalled x s ≡ false = still_waits x s r going in
        record { run = subst (λ (v : Wide). IsRun x w ls v own) (no_round x s r waits out) come.run; unended = unended; outside = out; waits = waits; count = come.used refl }

pub has_outcome : HasOutcome
unfolding settled
has_outcome x w r steps left o own ls s out come none due = by come.came
  where
    so : (p : Outcome) → o ≡ p → IsWideOutcome x (settled x s r) ls steps p → IsWideOutcome x (settled x s r) ls steps o
    so p is h = subst (λ (q : Outcome). IsWideOutcome x (settled x s r) ls steps q) (sym is) h

    rests : (q : Round) → is_going q ≡ false → (q ≡ Due → ⊥) → last_outcome ls ≡ None → is_at_rest (heard_in q x) s ≡ true → IsWideOutcome x (settled x s q) ls steps outcome.Idle
    rests Never out past unended rest = (wide_outcomes x (wide s Never) ls steps).1.0 unended refl rest
    rests Due out past unended rest = absurd (past refl)
    rests (Going n found) out past unended rest = absurd (cc)
    rests Made out past unended rest = (wide_outcomes x (wide s Made) ls steps).1.0 unended refl rest

    not_past : (q : Round) → is_going q ≡ false → is_at_rest (heard_in q x) s ≡ false → (is_past q && is_at_rest x s) ≡ false
    not_past Never out going = going
    not_past Due out going = refl
    not_past (Going n found) out going = absurd (cc)
    not_past Made out going = going

    by : CameTo (heard_in r x) s ls o → IsWideOutcome x (settled x s r) ls steps o
    by (Ends is) = (wide_outcomes x (settled x s r) ls steps).0 o is
    by (Rests unended is rest) = so outcome.Idle is (rests r out (λ d. due d is) unended rest)
    by (GoesOn unended is going) =
        let all : length ls ≡ steps = (let used = come.used is in let last = none is in omega (arith, used, last)) in
        so outcome.OutOfSteps is (subst (λ (v : Wide). IsWideOutcome x v ls steps outcome.OutOfSteps) (sym (no_round x s r (still_waits x s r going) out))
        ((wide_outcomes x (wide s r) ls steps).1.1 unended (not_past r out going) all))

-- ---- The round

going_is : (x : Setting) (s : State) (n i : ℕ) (found : Bool) → next_spawn n s.core ≡ Some i → settled x s (Going n found) ≡ wide s (Going n found)
unfolding settled
going_is x s n i found next = ap (past_last s n found) next

made_is : (x : Setting) (s : State) (n : ℕ) (found : Bool) → next_spawn n s.core ≡ None → settled x s (Going n found) ≡ wide (after_round found s) Made
unfolding settled
made_is x s n found none = ap (past_last s n found) none

begins_is : (x : Setting) (s : State) → is_stalled x s ≡ true → settled x s Due ≡ settled x s (Going 0 false)
unfolding settled
begins_is x s stalled = ap (λ (b : Bool). ended_round s (begun b)) stalled

first_so : (a b c d : Bool) → (((a && b) && c) && d) ≡ true → a ≡ true
first_so a b c d h = grind (arith, h)

stalls_at : (x : Setting) (s : State) → is_stalled x s ≡ true → s.turn ≡ turn.Take false
unfolding is_stalled is_idle
stalls_at x s h = take s.turn (first_so (is_unended_take s.turn) (main_pends x s.core s.main) (queues_are_empty s.core && works_rest s.core)
    (none_behind s.core && (none_admitted s.core && (no_set_passed_over s.core && none_blocked_on_end s.core))) h)
  where
    take : (p : Turn) → is_unended_take p ≡ true → p ≡ turn.Take false
    take (turn.Take false) is = refl
    take (turn.Take true) is = absurd (cc)
    take turn.Main is = absurd (cc)
    take (turn.Futures n) is = absurd (cc)
    take (turn.Run n) is = absurd (cc)
    take turn.Over is = absurd (cc)

pub round_begins : RoundBegins
round_begins x w steps left own ls s come = by come.came
  where
    by : CameTo (waiting x) s ls outcome.Idle → (s.turn ≡ turn.Take false) × InRound x w 0 false steps left own ls s
    by (Ends is) = absurd (no_label_rests ls is)
    by (Rests unended is rest) =
        let stalled : is_stalled x s ≡ true = sym (waiting_rests x s) ∙ rest in
        let at : s.turn ≡ turn.Take false = stalls_at x s stalled in
        let same : s ≡ at_take s = ap (λ (p : Turn). record s { turn = p }) at in (
          at,
          record {
            run = subst (λ (u : State). IsRun x w ls (settled x u (Going 0 false)) own) same (subst (λ (v : Wide). IsRun x w ls v own) (begins_is x s stalled) come.run);
            unended = unended;
            count = come.due refl;
          },
        )
    by (GoesOn unended is going) = absurd (cc)

-- a poll in the round; it comes after all early calls
poll_step : (x : Setting) (s : State) (n i : ℕ) (found : Bool) (l : Label) (v : Wide) → next_spawn n s.core ≡ Some i → RoundPolls x s found (Some i) l v → WideStep x (wide s (Going n found)) l v
unfolding WideStep
poll_step x s n i found l v next polls = subst (λ (o : Option ℕ). RoundPolls x s found o l v) (sym next) polls

poll_run : (x : Setting) (w : Wide) (n : ℕ) (found : Bool) (own : Own) (ls : List Label) (s : State) (l : Label) (v : Wide) → IsRun x w ls (wide s (Going n found)) own →
    WideStep x (wide s (Going n found)) l v → IsRun x w (ls ++ l ∷ []) v (with_poll x s l own)
poll_run x w n found own ls s l v run step = let q = calls_go_on x w ls (wide s (Going n found)) l v own.calls own.early run step in record {
  run = q.run;
  own_is = q.own_is;
  early_is = λ k. let early = q.early_is k in omega (arith, early);
}

pub round_goes : RoundGoes
round_goes x w n i found ended steps left own ls s t round next running main core = by ended core running
  where
    went : IsRun x w ls (wide (at_take s) (Going n found)) own
    went = subst (λ (v : Wide). IsRun x w ls v own) (going_is x (at_take s) n i found next) round.run

    at_core : (k : Core) → t.core ≡ k → record (at_take s) { core = k } ≡ at_take t
    at_core k core = ap (λ (m : Main). record (at_take s) { core = k; main = m }) (sym main) ∙ ap (λ (c : Core). record (at_take s) { core = c; main = t.main }) (sym core)

    longer : (l : Label) → length (ls ++ l ∷ []) + left ≡ steps
    longer l = let more = length-append ls (l ∷ []) in let count = round.count in omega (arith, more, count)

    by : (e : Bool) → t.core ≡ cond e (poll_ends i None s.core) s.core → (e ≡ true → is_running_spawn i s.core ≡ true) →
        InRound x w i (cond e true found) steps left (with_poll x (at_take s) (polled_label e i) own) (ls ++ polled_label e i ∷ []) t
    by false core running = record {
      run = subst (λ (u : State). IsRun x w (ls ++ label.Loop (loop_label.FuturePends i) ∷ []) (settled x u (Going i found)) (with_poll x (at_take s) (label.Loop (loop_label.FuturePends i)) own)) (at_core s.core core)
          (poll_run x w n found own ls (at_take s) (label.Loop (loop_label.FuturePends i)) (settled x (at_take s) (Going i found)) went
          (poll_step x (at_take s) n i found (label.Loop (loop_label.FuturePends i)) (settled x (at_take s) (Going i found)) next (inl (refl, refl))));
      unended = last_behind ls (label.Loop (loop_label.FuturePends i) ∷ []) round.unended;
      count = longer (label.Loop (loop_label.FuturePends i));
    }
    by true core running = record {
      run = subst (λ (u : State). IsRun x w (ls ++ label.Loop (loop_label.FutureAborted i) ∷ []) (settled x u (Going i true)) (with_poll x (at_take s) (label.Loop (loop_label.FutureAborted i)) own)) (at_core (poll_ends i None s.core) core)
          (poll_run x w n found own ls (at_take s) (label.Loop (loop_label.FutureAborted i)) (settled x (record (at_take s) { core = poll_ends i None s.core }) (Going i true)) went
          (poll_step x (at_take s) n i found (label.Loop (loop_label.FutureAborted i)) (settled x (record (at_take s) { core = poll_ends i None s.core }) (Going i true)) next
          (inr (running refl, (refl, refl)))));
      unended = last_behind ls (label.Loop (loop_label.FutureAborted i) ∷ []) round.unended;
      count = longer (label.Loop (loop_label.FutureAborted i));
    }

pub round_ends : RoundEnds
unfolding at_turn
round_ends x w n found steps left own ls s round none at = record {
  run = subst (λ (v : Wide). IsRun x w ls v own) (made_is x (at_take s) n found none ∙ ap (λ (u : State). wide u Made) (by found at)) round.run;
  unended = round.unended;
  outside = refl;
  waits = λ due. absurd (cc);
  count = round.count;
}
  where
    by : (f : Bool) → s.turn ≡ cond f turn.Main (turn.Take false) → after_round f (at_take s) ≡ s
    by true at = ap (λ (p : Turn). record s { turn = p }) (sym at)
    by false at = ap (λ (p : Turn). record s { turn = p }) (sym at)

pub rounds_are_cut : RoundsAreCut
rounds_are_cut x w n i found steps own ls s round next =
    let all : length ls ≡ steps = (let count = round.count in omega (arith, count)) in (
      subst (λ (v : Wide). IsRun x w ls v own) (going_is x (at_take s) n i found next) round.run,
      (wide_outcomes x (wide (at_take s) (Going n found)) ls steps).1.1 round.unended refl all,
    )
