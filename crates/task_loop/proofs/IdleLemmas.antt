-- No thread runs after a poll, and after the entry of a host call was taken.
use Rattle.std.proofs.Common.{ap, refl, ◌∙◌}
use Rattle.std.specs.Prelude.{Bool, None, Option, Some, false, option_map, true, ℕ, ◌≡◌}
use Rattle.machine_data.specs.Core.{Core, Main, State}
use Rattle.machine_data.specs.declared.label.Label.{Label}
use Rattle.machine_data.specs.declared.records.Turn.TheVariants as turn
use Rattle.machine_rules.specs.Progress.{Stops, may}
use Rattle.machine_rules.specs.Stalled.{Setting}
use Rattle.machine_rules.specs.Step.{FuturesStep, Polled, Progresses, Step}
use Rattle.machine_rules.specs.Turns.{at_turn, queues_are_empty, settled_futures, settled_take}
use Rattle.machine_rules.specs.Works.{Asked, Ends, FailsNow, Poll, StillPends, next_polled, poll_of}
use Rattle.ops_turns.specs.Turn.{Turns, running_of, runs_in, state_at}
use Rattle.ops_turns.specs.declared.made.MadeStep.{MadeStep}
use Rattle.core_primitives.specs.StateView.{StateView, thread_of}

pub main_idle : (s : State) (new : Core) (m : Main) → runs_in (at_turn s new m turn.Main).turn ≡ None
unfolding at_turn
main_idle s new m = refl

pub over_idle : (s : State) (new : Core) (m : Main) → runs_in (at_turn s new m turn.Over).turn ≡ None
unfolding at_turn
over_idle s new m = refl

settled_idle : (b q : Bool) → runs_in (settled_take b q) ≡ None
settled_idle true true = refl
settled_idle true false = refl
settled_idle false true = refl
settled_idle false false = refl

take_idle : (s : State) (new : Core) (m : Main) (b : Bool) → runs_in (at_turn s new m (turn.Take b)).turn ≡ None
unfolding at_turn
take_idle s new m b = settled_idle b (queues_are_empty new)

polled_idle : (n : ℕ) (s : Core) (o : Option ℕ) → runs_in (settled_futures n s o) ≡ None
polled_idle n s None = settled_idle false (queues_are_empty s)
polled_idle n s (Some i) = refl

pub futures_idle : (s : State) (new : Core) (m : Main) (n : ℕ) → runs_in (at_turn s new m (turn.Futures n)).turn ≡ None
unfolding at_turn
futures_idle s new m n = polled_idle n new (next_polled n new)

pub idle_by : (t u : State) → t ≡ u → runs_in u.turn ≡ None → runs_in t.turn ≡ None
idle_by t u is none = ap (λ (v : State). runs_in v.turn) is ∙ none

poll_idle : (s : State) (i : ℕ) (q : Poll) (l : Label) (t : State) → Polled s i q l t → runs_in t.turn ≡ None
poll_idle s i (StillPends host) l t h = idle_by t _ h.1 (futures_idle s _ s.main i)
poll_idle s i (Ends v) l t h = idle_by t _ h.1 (take_idle s _ s.main true)
poll_idle s i FailsNow l t h = idle_by t _ h.1 (over_idle s _ s.main)
poll_idle s i (Asked next) l t h = poll_idle s i (next h.0) l t h.1

pub works_idle : (s : State) (o : Option ℕ) (l : Label) (t : State) → FuturesStep s o l t → runs_in t.turn ≡ None
works_idle s None l t h = absurd h
works_idle s (Some i) l t h = poll_idle s i (poll_of i s.core) l t h

pub stop_idle : (s : State) (base : Core) (n : ℕ) (b : Bool) (k : Label) (new : Core) (l : Label) (t : State) → Progresses s base n (may b (Stops k new)) l t → runs_in t.turn ≡ None
stop_idle s base n true k new l t h = idle_by t _ h.1 (main_idle s new s.main)
stop_idle s base n false k new l t h = absurd h

none_of : {A B : Type 0} (f : A → B) (o : Option A) → option_map f o ≡ None → o ≡ None
none_of f None h = refl
none_of f (Some x) h = absurd (cc)

-- where no thread runs, none is current
pub none_current : (s : StateView) → running_of s ≡ None → s.current ≡ None
none_current s h = none_of (λ id. thread_of s id) s.current h

pub poll_leaves_none : (x : Setting) (n : ℕ) (m : Main) (s t : StateView) (made : MadeStep) → Turns x (turn.Futures n) m s made m t → running_of t ≡ None
unfolding Step
poll_leaves_none x n m s t made h = h.running ∙ works_idle (state_at s.core m (turn.Futures n)) (next_polled n s.core) made.label (state_at t.core m made.turn) h.step
