-- A turn that rests has lowered the polls that are left of some work.
use Rattle.laws_labels.proofs.TakingLemmas.{IsTaken, take_shows}
use Rattle.laws_labels.specs.Own.{Shows}
use Rattle.laws_order.proofs.LiveLemmas.{moving_found, next_above, next_least}
use Rattle.laws_order.specs.Rests.{AllPending, HasOpenWork, LowersPolls, RestsLowerPolls, is_pending, with_polls}
use Rattle.std.proofs.Common.{ap, arith, inl, inr, refl, subst, sym, ⊎_elim, ◌∙◌}
use Rattle.std.proofs.lemmas.Bool.Decides.{nat_tests}
use Rattle.std.specs.Option.{option_map}
use Rattle.std.specs.Prelude.{Bool, List, None, Option, Some, [], cond, false, suc, true, zero, ℕ, ◌++◌, ◌<◌, ◌==◌, ◌≡◌, ◌≤◌, ◌∷◌, ◌⊎◌}
use Rattle.machine_data.proofs.CommuteLemmas.{get-change}
use Rattle.machine_data.specs.Core.{Core, Main, MainPlace, Scripted, State, Unscripted}
use Rattle.machine_data.specs.Labels.{choice_of}
use Rattle.machine_data.specs.Maps.{get}
use Rattle.machine_data.specs.Read.{phase_of, course_of, is_aborted, is_live, is_never, next_entry}
use Rattle.machine_data.specs.Write.{on_work, set_course}
use Rattle.machine_data.specs.declared.component.HostDef.{HostDef}
use Rattle.machine_data.specs.declared.component.HostDef.TheVariants as host_def
use Rattle.machine_data.specs.declared.statuses.HostPoll.{HostPoll}
use Rattle.machine_data.specs.declared.statuses.HostPoll.TheVariants as host_poll
use Rattle.machine_data.specs.declared.label.Label.{Label}
use Rattle.machine_data.specs.declared.label.Label.TheVariants as label
use Rattle.machine_data.specs.declared.label.LoopLabel.TheVariants as loop_label
use Rattle.machine_data.specs.declared.records.Course.{Course}
use Rattle.machine_data.specs.declared.records.Course.TheVariants as course
use Rattle.machine_data.specs.declared.records.Entry.{Entry}
use Rattle.machine_data.specs.declared.records.Turn.{Turn}
use Rattle.machine_data.specs.declared.records.Turn.TheVariants as turn
use Rattle.machine_data.specs.declared.records.Work.{Work}
use Rattle.machine_data.specs.declared.scenario.MainOpDef.{MainOpDef}
use Rattle.machine_data.specs.declared.statuses.Mark.{Mark}
use Rattle.machine_data.specs.declared.statuses.Phase.{Phase}
use Rattle.machine_data.specs.declared.statuses.Phase.TheVariants as phase
use Rattle.machine_rules.proofs.StandLemmas.{is_eq_of}
use Rattle.machine_rules.specs.MainOps.{Answers, Does, MainProgress, Pends, act_of, line_of, main_rule, op_at}
use Rattle.machine_rules.specs.Progress.{Asks, Fails, Continues, Never, OneOf, Ordered, Progress, Stops, Traps}
use Rattle.machine_rules.specs.Run.{Run}
use Rattle.machine_rules.specs.Stalled.{Setting, is_unended_take, may_deadlock}
use Rattle.machine_rules.specs.Step.{DeadlockStep, EmptyFor, FuturesStep, MainProgresses, MainStep, Polled, Progresses, RestStep, ScriptStep, Step, TakeStep, TurnStep, entry_number}
use Rattle.machine_rules.specs.Takes.{popped, take_rule}
use Rattle.machine_rules.specs.Turns.{at_turn, goes_to, queues_are_empty, settled_futures, settled_take, settled_turn}
use Rattle.machine_rules.specs.Works.{Asked, heard, Ends, FailsNow, Poll, StillPends, has_moving_work, is_moving, next_polled, poll_of, poll_pends, polled_again, polled_course, polled_in}

abbrev pends : ℕ → Label
pends i = label.Loop (loop_label.FuturePends i)

abbrev rest : Label
rest = label.Loop loop_label.Rest

-- ---- Labels

-- it shows that a work pends, or that the turn rests
abbrev is_quiet : Label → Bool
is_quiet (label.Loop (loop_label.FuturePends i)) = true
is_quiet (label.Loop loop_label.Rest) = true
is_quiet _ = false

pending_quiet : (l : Label) → is_pending l ≡ true → is_quiet l ≡ true
pending_quiet (label.Loop (loop_label.FuturePends i)) h = refl
pending_quiet l h = grind (arith, h)

-- a taking isn't quiet
taken_loud : (m : Mark) (l : Label) → IsTaken m l → is_quiet l ≡ false
taken_loud m (label.Take l) h = refl
taken_loud m l h = grind (arith, h)

loud : (m : Mark) (s : State) (base : Core) (n : ℕ) (p : Progress) → Shows (IsTaken m) p → (l : Label) (t : State) → Progresses s base n p l t → is_quiet l ≡ false
loud m s base n (Continues k new j) h l t is = ap is_quiet is.0 ∙ taken_loud m k h
loud m s base n (Stops k new) h l t is = ap is_quiet is.0 ∙ taken_loud m k h
loud m s base n (Ordered held next) h l t is = loud m s base n (next is.0) (h is.0) l t is.1.1
loud m s base n (OneOf held next) h l t is = loud m s base n (next is.0) (h is.0) l t is.1.1
loud m s base n (Asks next) h l t is = loud m s base n (next is.0) (h is.0) l t is.1
loud m s base n (Traps x) h l t is = ap is_quiet is.0
loud m s base n (Fails i) h l t is = ap is_quiet is.0
loud m s base n Never h l t is = absurd is

deadlock_loud : (s : State) (b : Bool) (l : Label) (t : State) → DeadlockStep s b l t → is_quiet l ≡ false
deadlock_loud s true l t is = ap is_quiet is.0
deadlock_loud s false l t is = absurd is

-- a quiet step of a taking rests
rests : (s : State) (b : Bool) (l : Label) (t : State) → RestStep s b l t → (l ≡ rest) × (t ≡ goes_to s s.core turn.Main)
rests s true l t is = is
rests s false l t is = absurd is

quiet_take : (x : Setting) (s : State) (o : Option (Mark × Entry)) (l : Label) (t : State) → TakeStep x s o l t → is_quiet l ≡ true →
    (has_moving_work s.core ≡ true) × ((l ≡ rest) × (t ≡ goes_to s s.core turn.Main))
quiet_take x s (Some e) l t is quiet =
    let base = popped e.0 s.core in
    let no = loud e.0 s base (entry_number e.1) (take_rule e.0 (choice_of l) base e.1) (take_shows e.0 (choice_of l) base e.1) l t is in
    absurd (cc)
quiet_take x s None l t is quiet = by (has_moving_work s.core) refl is
  where
    by : (b : Bool) → has_moving_work s.core ≡ b → EmptyFor x s b l t → (has_moving_work s.core ≡ true) × ((l ≡ rest) × (t ≡ goes_to s s.core turn.Main))
    by true has e = (has, rests s (is_unended_take s.turn) l t e)
    by false has e = let no = deadlock_loud s (may_deadlock x s) l t e in absurd (cc)

-- ---- Polls

-- what a poll that pends finds
abbrev Found : HostDef → Course → Type 0
Found host c = (is_never (course.Continues host) ≡ true) ⊎ ((host ≡ host_def.Open) ⊎ ((p : ℕ) × ((v : Option ℕ) × ((c ≡ course.Continues (with_polls (suc p) v)) × (host ≡ with_polls p v)))))

-- what a poll finds, whatever an open work answers
abbrev Finds : Phase → Course → Poll → Type 0
Finds p c (StillPends host) = (is_aborted p ≡ false) × Found host c
Finds p c (Ends v) = Unit {0}
Finds p c FailsNow = Unit {0}
Finds p c (Asked next) = (answer : HostPoll) → Finds p c (next answer)

by_answer : (p : Phase) (c : Course) → is_aborted p ≡ false → (answer : HostPoll) → Finds p c (heard answer)
by_answer p c on host_poll.Pending = (on, inr (inl refl))
by_answer p c on (host_poll.Value v) = tt
by_answer p c on host_poll.Failed = tt

by_polls : (p : Phase) (d : HostDef) → is_aborted p ≡ false → Finds p (course.Continues d) (polled_again d)
by_polls p (host_def.Settled None v) on = (on, inl refl)
by_polls p (host_def.Settled (Some zero) None) on = tt
by_polls p (host_def.Settled (Some zero) (Some v)) on = tt
by_polls p (host_def.Settled (Some (suc k)) v) on = (on, inr (inr (k, (v, (refl, refl)))))
by_polls p host_def.Open on = by_answer p (course.Continues host_def.Open) on

by_course : (p : Phase) (c : Course) → is_aborted p ≡ false → Finds p c (polled_course c)
by_course p (course.Continues d) on = by_polls p d on
by_course p (course.Value v) on = tt
by_course p course.NoValue on = tt

finds : (p : Phase) (c : Course) → Finds p c (polled_in p c)
finds phase.AbortRequested c = tt
finds phase.Running c = by_course phase.Running c refl
finds phase.Complete c = by_course phase.Complete c refl

FindsAt : ℕ → Core → Poll → Type 0
FindsAt i s p = (w : Work) → get s.works i ≡ Some w → Finds w.phase w.course p

finds_at : (i : ℕ) (s : Core) → FindsAt i s (poll_of i s)
unfolding poll_of FindsAt
finds_at i s w at = subst (λ (p : Poll). Finds w.phase w.course p) (let is : polled_in w.phase w.course ≡ polled_in (phase_of i s) (course_of i s) = grind (arith, at) in is) (finds w.phase w.course)

-- ---- The works that were polled in the turn

module _ (x : Setting) (b : Core) where
  record Done (i : ℕ) (w : Work) : Type 0 where
    asked : is_aborted w.phase ≡ false
    lowered : (is_never w.course ≡ true) ⊎ ((w.course ≡ course.Continues host_def.Open) ⊎ ((p : ℕ) × ((v : Option ℕ) × ((course_of i b ≡ course.Continues (with_polls (suc p) v)) × (w.course ≡ course.Continues (with_polls p v))))))

  -- those up to n were polled, and the others are as they were
  record UpTo (n : ℕ) (s : Core) : Type 0 where
    done : (i : ℕ) (w : Work) → get s.works i ≡ Some w → is_live w ≡ true → i ≤ n → Done i w
    same : (i : ℕ) → n < i → get s.works i ≡ get b.works i

  none_yet : get b.works 0 ≡ None → UpTo 0 b
  none_yet none = record {
    done = λ i w at live below. absurd (let is : i ≡ 0 = omega (arith, below) in let there : get b.works 0 ≡ Some w = subst (λ (k : ℕ). get b.works k ≡ Some w) is at in cc);
    same = λ i above. refl;
  }

  module _ (n i : ℕ) (host : HostDef) (s : Core) (up : UpTo n s) (next : next_polled n s ≡ Some i) (poll : FindsAt i s (StillPends host)) where
    above : n < i
    above = next_above n i s next

    changed : (j : ℕ) → get (poll_pends i host s).works j ≡ cond (j == i) (option_map (λ (w : Work). record w { course = course.Continues host }) (get s.works j)) (get s.works j)
    unfolding poll_pends set_course on_work
    changed j = grind (arith, nat_tests, get-change)

    own : (w : Work) → get s.works i ≡ Some w → Done i (record w { course = course.Continues host })
    unfolding FindsAt
    own w at =
        let f = poll w at in
        let here : course_of i b ≡ w.course = (let e = up.same i above in grind (arith, at, e)) in
        record {
          asked = f.0;
          lowered = ⊎_elim (λ never. inl never) (λ r. inr (⊎_elim (λ open_one. inl (ap (λ (h : HostDef). course.Continues h) open_one)) (λ q. inr (q.0, (q.1.0, (here ∙ q.1.1.0, ap (λ (h : HostDef). course.Continues h) q.1.1.1)))) r)) f.1;
        }

    done_then : (j : ℕ) (w : Work) → get (poll_pends i host s).works j ≡ Some w → is_live w ≡ true → j ≤ i → Done j w
    done_then j w at live below = by (j == i) refl (sym (changed j) ∙ at)
      where
        at_i : (o : Option Work) → get s.works i ≡ o → option_map (λ (v : Work). record v { course = course.Continues host }) o ≡ Some w → Done i w
        at_i None is e = absurd (cc)
        at_i (Some v) is e = let same : record v { course = course.Continues host } ≡ w = cc in subst (Done i) same (own v is)

        before : get s.works j ≡ Some w → (j == i) ≡ false → Done j w
        before is apart = by_order (grind (arith, nat_tests, apart, below))
          where
            by_order : (j ≤ n) ⊎ ((n < j) × (j < i)) → Done j w
            by_order o = ⊎_elim (λ low. up.done j w is live low)
                (λ mid. absurd (let q = next_least n j s w is live mid.0 in let same : Some q.0 ≡ Some i = sym q.1.0 ∙ next in let is_i : q.0 ≡ i = cc in let low = q.1.1 in let less = mid.1 in omega (arith, is_i, low, less))) o

        by : (t : Bool) → (j == i) ≡ t → cond t (option_map (λ (v : Work). record v { course = course.Continues host }) (get s.works j)) (get s.works j) ≡ Some w → Done j w
        by true is e =
            let same = is_eq_of j i is in
            subst (λ (k : ℕ). Done k w) (sym same) (at_i (get s.works i) refl (subst (λ (k : ℕ). option_map (λ (v : Work). record v { course = course.Continues host }) (get s.works k) ≡ Some w) same e))
        by false is e = before e is

    pended : UpTo i (poll_pends i host s)
    pended = record {
      done = done_then;
      same = λ j past. changed j ∙ (let apart : (j == i) ≡ false = grind (arith, nat_tests, past) in let e = up.same j (let a = above in omega (arith, a, past)) in rw apart e);
    }

  -- ---- The steps of the turn

  Turns : ℕ → State → Type 0
  Turns n s = UpTo n s.core × (s.turn ≡ settled_turn s.core (turn.Futures n))

  polled_step : (n i : ℕ) (s : State) (p : Poll) (l : Label) (t : State) → Turns n s → next_polled n s.core ≡ Some i → FindsAt i s.core p → Polled s i p l t → is_quiet l ≡ true →
      (is_pending l ≡ true) × Turns i t
  unfolding Turns at_turn FindsAt
  polled_step n i s (StillPends host) l t on next is step quiet =
      let core : t.core ≡ poll_pends i host s.core = ap (λ (u : State). u.core) step.1 in
      let turns : t.turn ≡ settled_turn (poll_pends i host s.core) (turn.Futures i) = ap (λ (u : State). u.turn) step.1 in
      (ap is_pending step.0, (subst (UpTo i) (sym core) (pended n i host s.core on.0 next is), turns ∙ ap (λ (c : Core). settled_turn c (turn.Futures i)) (sym core)))
  polled_step n i s (Ends v) l t on next is step quiet = let no = ap is_quiet step.0 in absurd (cc)
  polled_step n i s FailsNow l t on next is step quiet = let no = ap is_quiet step.0 in absurd (cc)
  polled_step n i s (Asked next) l t on polled is step quiet = polled_step n i s (next step.0) l t on polled (λ w at. is w at step.0) step.1 quiet

  -- where the works were polled up to n, the next quiet step polls the next one, or rests
  quiet_step : (n : ℕ) (s : State) (l : Label) (t : State) → Turns n s → is_quiet l ≡ true → Step x s l t →
      ((is_pending l ≡ true) × ((i : ℕ) × Turns i t)) ⊎ ((next_polled n s.core ≡ None) × ((has_moving_work s.core ≡ true) × ((l ≡ rest) × (t.core ≡ s.core))))
  unfolding Step Turns at_turn
  quiet_step n s l t on quiet step = by (next_polled n s.core) refl (subst (λ (u : Turn). TurnStep x s u l t) on.1 step)
    where
      takes : (b : Bool) → TurnStep x s (settled_take false b) l t → (has_moving_work s.core ≡ true) × ((l ≡ rest) × (t ≡ goes_to s s.core turn.Main))
      takes true k = quiet_take x s (next_entry s.core) l t k quiet
      takes false k = quiet_take x s (next_entry s.core) l t k quiet

      by : (o : Option ℕ) → next_polled n s.core ≡ o → TurnStep x s (settled_futures n s.core o) l t →
          ((is_pending l ≡ true) × ((i : ℕ) × Turns i t)) ⊎ ((next_polled n s.core ≡ None) × ((has_moving_work s.core ≡ true) × ((l ≡ rest) × (t.core ≡ s.core))))
      by (Some i) is k =
          let q = polled_step n i s (poll_of i s.core) l t on is (finds_at i s.core) (subst (λ (o : Option ℕ). FuturesStep s o l t) is k) quiet in
          inl (q.0, (i, q.1))
      by None is k = let q = takes (queues_are_empty s.core) k in inr (is, (q.0, (q.1.0, ap (λ (u : State). u.core) q.1.1)))

  -- the turn rests
  lowers : (n : ℕ) (s : Core) → UpTo n s → next_polled n s ≡ None → has_moving_work s ≡ true → LowersPolls b s ⊎ HasOpenWork s
  lowers n s up none has = by (m.1.1.1)
    where
      m : (i : ℕ) × ((w : Work) × ((get s.works i ≡ Some w) × (is_moving w ≡ true)))
      m = moving_found s has

      live : is_live m.1.0 ≡ true
      live = let h = m.1.1.1 in grind (arith, h)

      low : m.0 ≤ n
      low = by_order (grind arith)
        where
          by_order : (m.0 ≤ n) ⊎ (n < m.0) → m.0 ≤ n
          by_order o = ⊎_elim (λ k. k) (λ k. absurd (let q = next_least n m.0 s m.1.0 m.1.1.0 live k in let e = sym none ∙ q.1.0 in cc)) o

      by : is_moving m.1.0 ≡ true → LowersPolls b s ⊎ HasOpenWork s
      by moving =
          let d = up.done m.0 m.1.0 m.1.1.0 live low in
          ⊎_elim
          (λ never. absurd (let a = d.asked in grind (arith, moving, never, a)))
          (λ r. ⊎_elim (λ open_one. inr (m.0, (let at = m.1.1.0 in grind (arith, at, open_one))))
          (λ q. inl (record { work = m.0; polls = q.0; value = q.1.0; before = q.1.1.0; after = (let at = m.1.1.0 in let is = q.1.1.1 in grind (arith, at, is)) })) r) d.lowered

  runs : (ls : List Label) (n : ℕ) (s t : State) → Turns n s → AllPending ls → Run x s (ls ++ rest ∷ []) t → LowersPolls b t.core ⊎ HasOpenWork t.core
  unfolding Turns
  runs [] n s t on all r = ⊎_elim (λ q. absurd (let no = q.0 in cc))
      (λ q. subst (λ (c : Core). LowersPolls b c ⊎ HasOpenWork c) (sym (ap (λ (u : State). u.core) r.1.1 ∙ q.1.1.1)) (lowers n s.core on.0 q.0 q.1.0)) (quiet_step n s rest r.0 on refl r.1.0)
  runs (l ∷ ls) n s t on all r = ⊎_elim (λ q. runs ls q.1.0 r.0 t q.1.1 all.1 r.1.1)
      (λ q. absurd (let no = ap is_pending q.1.1.0 in let yes = all.0 in cc)) (quiet_step n s l r.0 on (pending_quiet l all.0) r.1.0)

-- ---- Main pends

main_progress : (s : State) (p : MainPlace) (o : MainOpDef) (q : MainProgress) (t : State) → MainProgresses s p o q (label.Loop loop_label.MainPends) t → t ≡ goes_to s s.core (turn.Futures 0)
main_progress s p o (Does k new) t is = let no = is.0 in absurd (cc)
main_progress s p o Pends t is = is.1
main_progress s p o (Answers v) t is = let no = is.0 in absurd (cc)

main_script : (x : Setting) (s : State) (p : MainPlace) (o : Option MainOpDef) (t : State) → ScriptStep x s p o (label.Loop loop_label.MainPends) t → t ≡ goes_to s s.core (turn.Futures 0)
main_script x s p None t is = is.1
main_script x s p (Some o) t is = main_progress s p o (main_rule x.component (line_of p o) s.core (act_of p o)) t is

main_pends : (x : Setting) (s : State) (m : Main) (t : State) → MainStep x s m (label.Loop loop_label.MainPends) t → t ≡ goes_to s s.core (turn.Futures 0)
main_pends x s (Scripted p) t is = main_script x s p (op_at x.script p) t is
main_pends x s Unscripted t is = is

pub rests_lower_polls : RestsLowerPolls
unfolding RestsLowerPolls Step at_turn Turns
rests_lower_polls x s t ls is none all r =
    let pended = main_pends x s s.main r.0 (subst (λ (u : Turn). TurnStep x s u (label.Loop loop_label.MainPends) r.0) is r.1.0) in
    let core : r.0.core ≡ s.core = ap (λ (u : State). u.core) pended in
    let turns : r.0.turn ≡ settled_turn s.core (turn.Futures 0) = ap (λ (u : State). u.turn) pended in
    runs x s.core ls 0 r.0 t (subst (UpTo x s.core 0) (sym core) (none_yet x s.core none), turns ∙ ap (λ (c : Core). settled_turn c (turn.Futures 0)) (sym core)) all r.1.1
