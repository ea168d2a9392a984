-- What each step tells the groups.
use Rattle.laws_labels.proofs.DataGroups.{Mild, Plain, data_plain}
use Rattle.laws_labels.specs.Tells.{NoticesTold, StepsTell, Tells, entry_group, worked_group}
use Rattle.laws_labels.proofs.OwnLemmas.{IsOwn}
use Rattle.laws_labels.proofs.ShowLemmas.{wider}
use Rattle.laws_labels.proofs.TakingLemmas.{IsThreadTaken, thread_shows}
use Rattle.laws_labels.proofs.TurnLemmas.{run_shows, shown}
use Rattle.laws_labels.specs.Own.{is_data, is_main_turn, is_rule_trap, taking_shown}
use Rattle.machine_data.specs.declared.label.TakeLabel.{TakeLabel}
use Rattle.machine_data.specs.declared.records.Notice.{Notice}
use Rattle.machine_rules.proofs.Machine.{Asked, Asks, Bool, CallLabel, Core, DeadlockStep, EmptyFor, Ends, Entry, Fails, FailsNow, FuturesStep, Continues, Label, List, Mark, Never, None, Option, Ordered, Poll, Polled, Progress, Progresses, RestStep, Setting, Some, State, Step, StillPends, Stops, Subtask, TakeStep, Trap, Traps, Turn, TurnStep, [], ap, ap₂, at_turn, choice_of, did, entry_number, false, goes_to, has_moving_work, host_done, host_label, is_unended_take, may, may_deadlock, may_publish, next_entry, next_polled, option_and_then, place_of, poll_of, popped, refl, subst, sym, take_rule, thread_taken, trap_label, true, woken, work_group, ℕ, ◌++◌, ◌∙◌, ◌≡◌}
use Rattle.machine_rules.specs.Progress.{OneOf}
use Rattle.machine_rules.specs.Notices.{around, finish_notices, of_live, running_group, start_notices, switch_notices, work_notices}
use Rattle.machine_rules.specs.Step.{RunStep}

-- ---- Labels that tell groups nothing

-- it tells of no start, and of no work
record IsSilent (l : Label) : Type 0 where
  starts : (c : Core) → start_notices l c ≡ []
  works : (c : Core) → work_notices l c ≡ []

own_silent : (l : Label) → IsOwn l → IsSilent l
own_silent (Label.Main l) own = absurd (cc)
own_silent (Label.Loop l) own = absurd (cc)
own_silent (Label.Take l) own = absurd (cc)
own_silent _ own = record { starts = λ c. refl; works = λ c. refl }

trap_silent : (n : ℕ) (t : Trap) → IsSilent (trap_label n t)
trap_silent n t = record { starts = λ c. refl; works = λ c. refl }

fail_silent : (n i : ℕ) → IsSilent (Label.Call (CallLabel.Fails n i))
fail_silent n i = record { starts = λ c. refl; works = λ c. refl }

abbrev host_of : Option (Mark × Bool) → Bool
host_of None = false
host_of (Some e) = e.1

taken_silent : (m : Mark) (l : Label) → IsThreadTaken m l → IsSilent l
taken_silent m (Label.Take (TakeLabel.Host k i)) is = let never : ◌≡◌ {A = Bool} true false = ap host_of is in absurd (cc)
taken_silent m (Label.Take (TakeLabel.HostWakes k i w)) is = let never : ◌≡◌ {A = Bool} true false = ap host_of is in absurd (cc)
taken_silent m (Label.Main l) is = absurd (cc)
taken_silent m (Label.Loop l) is = absurd (cc)
taken_silent m _ is = record { starts = λ c. refl; works = λ c. refl }

-- ---- An op on registers and memory cells

pub data_starts : (l : Label) (c : Core) → is_data l ≡ true → start_notices l c ≡ []
data_starts (Label.Data l) c e = refl
data_starts (Label.Main l) c e = absurd (cc)
data_starts _ c e = refl

pub data_works : (l : Label) (c : Core) → is_data l ≡ true → work_notices l c ≡ []
data_works (Label.Data l) c e = refl
data_works (Label.Loop l) c e = absurd (cc)
data_works (Label.Take l) c e = absurd (cc)
data_works _ c e = refl

-- The thread runs on, and the groups stay.
pub record RunsOn (s : State) (n : ℕ) (l : Label) (t : State) : Type 0 where
  pub data_label : is_data l ≡ true
  pub runs : t.turn ≡ Turn.Run n
  pub mild : Mild s.core t.core

turn_at : (s : State) (new : Core) (n : ℕ) → (goes_to s new (Turn.Run n)).turn ≡ Turn.Run n
unfolding at_turn
turn_at s new n = refl

core_at : (s : State) (new : Core) (p : Turn) → (goes_to s new p).core ≡ new
unfolding at_turn
core_at s new p = refl

pub plain_runs_on : (s : State) (n : ℕ) (p : Progress) (l : Label) (t : State) → Plain n s.core p → Progresses s s.core n p l t → RunsOn s n l t
plain_runs_on s n (Continues k new m) l t q h = record {
  data_label = ap is_data h.0 ∙ q.0;
  runs = ap (λ (u : State). u.turn) h.1 ∙ (ap (λ j. (goes_to s new (Turn.Run j)).turn) q.1.0 ∙ turn_at s new n);
  mild = subst (λ (c : Core). Mild s.core c) (sym (ap (λ (u : State). u.core) h.1 ∙ core_at s new (Turn.Run m))) q.1.1;
}
plain_runs_on s n (Stops k new) l t q h = absurd q
plain_runs_on s n (Traps why) l t q h = absurd q
plain_runs_on s n (Fails i) l t q h = absurd q
plain_runs_on s n Never l t q h = absurd q
plain_runs_on s n (Ordered held next) l t q h = absurd q
plain_runs_on s n (OneOf held next) l t q h = absurd q
plain_runs_on s n (Asks next) l t q h = absurd q

-- ---- The turns

module _ (s : State) (l : Label) (t : State) where
  -- where no work is worked on
  quiet : (p : Turn) → s.turn ≡ p → worked_group s.core p ≡ None → IsSilent l → Tells s l t
  quiet p at none silent = record {
    starts = silent.starts t.core;
    works = silent.works s.core ∙ sym (ap (λ (q : Turn). around (worked_group s.core q)) at ∙ ap around none);
  }

  -- a work is polled
  polled_tells : (n i : ℕ) → s.turn ≡ Turn.Futures n → next_polled n s.core ≡ Some i → (p : Poll) → Polled s i p l t → Tells s l t
  polled_tells n i at next p h = record {
    starts = starts p h;
    works = works p h ∙ sym (ap (λ (q : Turn). around (worked_group s.core q)) at ∙ ap (λ o. around (option_and_then (λ j. work_group j s.core) o)) next);
  }
    where
      starts : (p : Poll) → Polled s i p l t → start_notices l t.core ≡ []
      starts (StillPends host) h = ap (λ (j : Label). start_notices j t.core) h.0
      starts (Ends v) h = ap (λ (j : Label). start_notices j t.core) h.0
      starts FailsNow h = ap (λ (j : Label). start_notices j t.core) h.0
      starts (Asked next) h = starts (next h.0) h.1

      works : (p : Poll) → Polled s i p l t → work_notices l s.core ≡ around (work_group i s.core)
      works (StillPends host) h = ap (λ (j : Label). work_notices j s.core) h.0
      works (Ends v) h = ap (λ (j : Label). work_notices j s.core) h.0
      works FailsNow h = ap (λ (j : Label). work_notices j s.core) h.0
      works (Asked next) h = works (next h.0) h.1

  futures_tell : (n : ℕ) → s.turn ≡ Turn.Futures n → (o : Option ℕ) → next_polled n s.core ≡ o → FuturesStep s o l t → Tells s l t
  futures_tell n at None next h = absurd h
  futures_tell n at (Some i) next h = polled_tells n i at next (poll_of i s.core) h

  -- ---- The turn of takings

  empty_at : (b : Bool) (k : Label) → s.turn ≡ Turn.Take b → next_entry s.core ≡ None → l ≡ k → IsSilent k → Tells s l t
  empty_at b k at none is silent =
      quiet (Turn.Take b) at (ap (λ (o : Option (Mark × Entry)). entry_group o s.core) none) (subst IsSilent (sym is) silent)

  rest_tells : (b u : Bool) → s.turn ≡ Turn.Take b → next_entry s.core ≡ None → RestStep s u l t → Tells s l t
  rest_tells b true at none h = empty_at b _ at none h.0 (record { starts = λ c. refl; works = λ c. refl })
  rest_tells b false at none h = absurd h

  deadlock_tells : (b u : Bool) → s.turn ≡ Turn.Take b → next_entry s.core ≡ None → DeadlockStep s u l t → Tells s l t
  deadlock_tells b true at none h = empty_at b _ at none h.0 (record { starts = λ c. refl; works = λ c. refl })
  deadlock_tells b false at none h = absurd h

  empty_tells : (x : Setting) (b u : Bool) → s.turn ≡ Turn.Take b → next_entry s.core ≡ None → EmptyFor x s u l t → Tells s l t
  empty_tells x b true at none h = rest_tells b (is_unended_take s.turn) at none h
  empty_tells x b false at none h = deadlock_tells b (may_deadlock x s) at none h

  module _ (b : Bool) (at : s.turn ≡ Turn.Take b) (m : Mark) where
    -- an entry that is none of a host call tells of no work
    quiet_entry : (e : Entry) → next_entry s.core ≡ Some (m, e) → entry_group (Some (m, e)) s.core ≡ None → IsSilent l → Tells s l t
    quiet_entry e next none silent = quiet (Turn.Take b) at (ap (λ (o : Option (Mark × Entry)). entry_group o s.core) next ∙ none) silent

    thread_tells : (n : ℕ) → next_entry s.core ≡ Some (m, Entry.Thread n) →
        Progresses s (popped m s.core) n (take_rule m (choice_of l) (popped m s.core) (Entry.Thread n)) l t → Tells s l t
    thread_tells n next h =
        let base = popped m s.core in
        quiet_entry (Entry.Thread n) next refl
        (shown IsSilent s base n (λ why row. trap_silent n why) (fail_silent n) (thread_taken m n (choice_of l) base (place_of n base))
        (wider (IsThreadTaken m) IsSilent (taken_silent m) _ (thread_shows m n (choice_of l) base (place_of n base))) l t h)

    push_tells : (i : ℕ) → next_entry s.core ≡ Some (m, Entry.Push i) →
        Progresses s (popped m s.core) i (take_rule m (choice_of l) (popped m s.core) (Entry.Push i)) l t → Tells s l t
    push_tells i next h = quiet_entry (Entry.Push i) next refl (subst IsSilent (sym h.0) (record { starts = λ c. refl; works = λ c. refl }))

    host_label_tells : (i : ℕ) (w : Option ℕ) (u : Core) → (start_notices (host_label m i w) u ≡ []) × (work_notices (host_label m i w) s.core ≡ around (work_group i s.core))
    host_label_tells i None u = (refl, refl)
    host_label_tells i (Some w) u = (refl, refl)

    host_done_tells : (i : ℕ) (w : Option ℕ) (u : Bool) → next_entry s.core ≡ Some (m, Entry.Host i) →
        Progresses s (popped m s.core) i (may u (Stops (host_label m i w) (host_done i w (popped m s.core)))) l t → Tells s l t
    host_done_tells i w true next h = record {
      starts = ap (λ (j : Label). start_notices j t.core) h.0 ∙ (host_label_tells i w t.core).0;
      works =
          ap (λ (j : Label). work_notices j s.core) h.0 ∙ ((host_label_tells i w t.core).1
          ∙ sym (ap (λ (q : Turn). around (worked_group s.core q)) at ∙ ap (λ (o : Option (Mark × Entry)). around (entry_group o s.core)) next));
    }
    host_done_tells i w false next h = absurd h

    entry_tells : (e : Entry) → next_entry s.core ≡ Some (m, e) →
        Progresses s (popped m s.core) (entry_number e) (take_rule m (choice_of l) (popped m s.core) e) l t → Tells s l t
    entry_tells (Entry.Thread n) next h = thread_tells n next h
    entry_tells (Entry.Push i) next h = push_tells i next h
    entry_tells (Entry.Host i) next h = host_done_tells i (choice_of l).woken (may_publish (Subtask.Host i) (choice_of l).woken (popped m s.core)) next h

  taking_tells : (x : Setting) (b : Bool) → s.turn ≡ Turn.Take b → (o : Option (Mark × Entry)) → next_entry s.core ≡ o → TakeStep x s o l t → Tells s l t
  taking_tells x b at None next h = empty_tells x b (has_moving_work s.core) at next h
  taking_tells x b at (Some e) next h = entry_tells b at e.0 e.1 next h

  run_tells : (x : Setting) (n : ℕ) → s.turn ≡ Turn.Run n → RunStep x.component s n l t → Tells s l t
  run_tells x n at h = quiet (Turn.Run n) at refl (run_shows IsSilent own_silent (λ n t row. trap_silent n t) fail_silent x s n l t h)

  turn_tells : (x : Setting) → (p : Turn) → s.turn ≡ p → is_main_turn p ≡ false → TurnStep x s p l t → Tells s l t
  turn_tells x Turn.Main at main h = absurd (cc)
  turn_tells x (Turn.Futures n) at main h = futures_tell n at (next_polled n s.core) refl h
  turn_tells x (Turn.Take b) at main h = taking_tells x b at (next_entry s.core) refl h
  turn_tells x (Turn.Run n) at main h = run_tells x n at h
  turn_tells x Turn.Over at main h = absurd h

pub steps_tell : StepsTell
unfolding Step
steps_tell x s l t h main = turn_tells s l t x s.turn refl main h

pub notices_told : NoticesTold
notices_told x s l t h main =
    let q = steps_tell x s l t h main in
    ap₂ (λ (a b : List Notice).
    a ++ of_live s.core.groups (switch_notices (running_group s.core s.turn) (running_group t.core t.turn) ++ b)
    ++ finish_notices s.core.groups t.core.groups) q.starts q.works
