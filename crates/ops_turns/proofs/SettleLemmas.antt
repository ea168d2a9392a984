-- Each step leads to a settled turn.
use Rattle.std.proofs.Common.{ap, refl, subst, sym}
use Rattle.std.specs.Prelude.{Bool, None, Option, Some, false, true, ℕ, ◌≡◌}
use Rattle.machine_data.specs.Core.{Core, Main, MainPlace, Scripted, State, Unscripted}
use Rattle.machine_data.specs.Read.{next_entry}
use Rattle.machine_data.specs.declared.label.Label.{Label}
use Rattle.machine_data.specs.declared.label.Label.TheVariants as label
use Rattle.machine_data.specs.declared.label.LoopLabel.TheVariants as loop_label
use Rattle.machine_data.specs.declared.records.Entry.{Entry}
use Rattle.machine_data.specs.declared.records.Turn.{Turn}
use Rattle.machine_data.specs.declared.records.Turn.TheVariants as turn
use Rattle.machine_data.specs.declared.scenario.MainOpDef.{MainOpDef}
use Rattle.machine_data.specs.declared.statuses.Mark.{Mark}
use Rattle.machine_rules.specs.MainOps.{Answers, Does, MainProgress, Pends, act_of, advanced_main, line_of, main_rule, op_at}
use Rattle.machine_rules.specs.Progress.{Asks, Fails, Continues, Never, OneOf, Ordered, Progress, Stops, Traps}
use Rattle.machine_rules.specs.Stalled.{Setting, is_unended_take, may_deadlock}
use Rattle.machine_rules.specs.Step.{DeadlockStep, EmptyFor, FuturesStep, MainProgresses, MainStep, OpenProgresses, OpenStep, Polled, Progresses, RestStep, ScriptStep, Step, TakeStep, TurnStep, did, entry_number, unwound}
use Rattle.machine_rules.specs.Takes.{popped, take_rule}
use Rattle.machine_rules.specs.Turns.{at_turn, queues_are_empty, settled_futures, settled_take, settled_turn}
use Rattle.machine_rules.specs.Works.{Asked, Ends, FailsNow, Poll, StillPends, has_moving_work, next_polled, poll_ends, poll_of, poll_pends}
use Rattle.machine_data.specs.Write.{set_trapped}
use Rattle.machine_data.specs.Labels.{choice_of}
use Rattle.ops_turns.specs.Turn.{IsSettled}

pub settled_again : (s : Core) (p : Turn) → IsSettled s (settled_turn s p)
settled_again s (turn.Futures n) = go (next_polled n s) refl
  where
    go : (o : Option ℕ) → next_polled n s ≡ o → IsSettled s (settled_futures n s o)
    go None e = refl
    go (Some i) e = ap (settled_futures n s) e
settled_again s (turn.Take true) = go (queues_are_empty s) refl
  where
    go : (b : Bool) → queues_are_empty s ≡ b → IsSettled s (settled_take true b)
    go true e = refl
    go false e = ap (settled_take true) e
settled_again s (turn.Take false) = refl
settled_again s turn.Main = refl
settled_again s (turn.Run n) = refl
settled_again s turn.Over = refl

at_settled : (s : State) (new : Core) (m : Main) (p : Turn) (t : State) → t ≡ at_turn s new m p → IsSettled t.core t.turn
unfolding at_turn
at_settled s new m p t e = subst (λ (u : State). IsSettled u.core u.turn) (sym e) (settled_again new p)

progress_settles : (s : State) (base : Core) (n : ℕ) (p : Progress) (l : Label) (t : State) → Progresses s base n p l t → IsSettled t.core t.turn
progress_settles s base n (Continues k new m) l t h = at_settled s new s.main (turn.Run m) t h.1
progress_settles s base n (Stops k new) l t h = at_settled s new s.main turn.Main t h.1
progress_settles s base n (Traps why) l t h = at_settled s (unwound n base) s.main turn.Over t h.1
progress_settles s base n (Fails i) l t h = at_settled s (unwound n base) s.main turn.Over t h.1
progress_settles s base n Never l t h = absurd h
progress_settles s base n (Ordered ns next) l t h = progress_settles s base n (next h.0) l t h.1.1
progress_settles s base n (OneOf ns next) l t h = progress_settles s base n (next h.0) l t h.1.1
progress_settles s base n (Asks next) l t h = progress_settles s base n (next h.0) l t h.1

scripted_settles : (s : State) (p : MainPlace) (o : MainOpDef) (q : MainProgress) (x : Label) (t : State) → MainProgresses s p o q x t → IsSettled t.core t.turn
scripted_settles s p o (Does l new) x t h = at_settled s new (Scripted (advanced_main o l p)) turn.Main t h.1
scripted_settles s p o Pends x t h = at_settled s s.core s.main (turn.Futures 0) t h.1
scripted_settles s p o (Answers v) x t h = at_settled s s.core s.main turn.Over t h.1

script_settles : (x : Setting) (s : State) (p : MainPlace) (o : Option MainOpDef) (l : Label) (t : State) → ScriptStep x s p o l t → IsSettled t.core t.turn
script_settles x s p None l t h = at_settled s s.core s.main (turn.Futures 0) t h.1
script_settles x s p (Some o) l t h = scripted_settles s p o (main_rule x.component (line_of p o) s.core (act_of p o)) l t h

opened_settles : (s : State) (q : MainProgress) (x : Label) (t : State) → OpenProgresses s q x t → IsSettled t.core t.turn
opened_settles s (Does l new) x t h = at_settled s new s.main turn.Main t h.1
opened_settles s Pends x t h = absurd h
opened_settles s (Answers v) x t h = at_settled s s.core s.main turn.Over t h.1

open_settles : (x : Setting) (s : State) (l : Label) (t : State) → OpenStep x s l t → IsSettled t.core t.turn
open_settles x s (label.Loop loop_label.MainPends) t h = at_settled s s.core s.main (turn.Futures 0) t h
open_settles x s l t h = opened_settles s (main_rule x.component h.0 s.core h.1.0) l t h.1.1.1

main_settles : (x : Setting) (s : State) (m : Main) (l : Label) (t : State) → MainStep x s m l t → IsSettled t.core t.turn
main_settles x s (Scripted p) l t h = script_settles x s p (op_at x.script p) l t h
main_settles x s Unscripted l t h = open_settles x s l t h

polled_settles : (s : State) (i : ℕ) (p : Poll) (l : Label) (t : State) → Polled s i p l t → IsSettled t.core t.turn
polled_settles s i (StillPends host) l t h = at_settled s (poll_pends i host s.core) s.main (turn.Futures i) t h.1
polled_settles s i (Ends v) l t h = at_settled s (poll_ends i v s.core) s.main (turn.Take true) t h.1
polled_settles s i FailsNow l t h = at_settled s (set_trapped s.core) s.main turn.Over t h.1
polled_settles s i (Asked next) l t h = polled_settles s i (next h.0) l t h.1

futures_settle : (s : State) (o : Option ℕ) (l : Label) (t : State) → FuturesStep s o l t → IsSettled t.core t.turn
futures_settle s None l t h = absurd h
futures_settle s (Some i) l t h = polled_settles s i (poll_of i s.core) l t h

rest_settles : (s : State) (b : Bool) (l : Label) (t : State) → RestStep s b l t → IsSettled t.core t.turn
rest_settles s true l t h = at_settled s s.core s.main turn.Main t h.1
rest_settles s false l t h = absurd h

deadlock_settles : (s : State) (b : Bool) (l : Label) (t : State) → DeadlockStep s b l t → IsSettled t.core t.turn
deadlock_settles s true l t h = at_settled s (set_trapped s.core) s.main turn.Over t h.1
deadlock_settles s false l t h = absurd h

empty_settles : (x : Setting) (s : State) (b : Bool) (l : Label) (t : State) → EmptyFor x s b l t → IsSettled t.core t.turn
empty_settles x s true l t h = rest_settles s (is_unended_take s.turn) l t h
empty_settles x s false l t h = deadlock_settles s (may_deadlock x s) l t h

take_settles : (x : Setting) (s : State) (o : Option (Mark × Entry)) (l : Label) (t : State) → TakeStep x s o l t → IsSettled t.core t.turn
take_settles x s None l t h = empty_settles x s (has_moving_work s.core) l t h
take_settles x s (Some e) l t h = progress_settles s (popped e.0 s.core) (entry_number e.1) (take_rule e.0 (choice_of l) (popped e.0 s.core) e.1) l t h

turn_settles : (x : Setting) (s : State) (p : Turn) (l : Label) (t : State) → TurnStep x s p l t → IsSettled t.core t.turn
turn_settles x s turn.Main l t h = main_settles x s s.main l t h
turn_settles x s (turn.Futures n) l t h = futures_settle s (next_polled n s.core) l t h
turn_settles x s (turn.Take ended) l t h = take_settles x s (next_entry s.core) l t h
turn_settles x s (turn.Run n) l t h = progress_settles s s.core n (did x.component n s.core (choice_of l)) l t h
turn_settles x s turn.Over l t h = absurd h

pub step_settles : (x : Setting) (s : State) (l : Label) (t : State) → Step x s l t → IsSettled t.core t.turn
unfolding Step
step_settles x s l t h = turn_settles x s s.turn l t h
