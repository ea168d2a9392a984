-- What is played is a run.
use Rattle.machine_rules.specs.Step.{is_among}
use Rattle.machine_rules.specs.Works.{first_number}
use Rattle.std.proofs.Common.{T, ap, ap₂, eq-eqb, eqb→eq, ltb→lt, refl, subst, sym}
use Rattle.std.specs.List.Sorted.{SwapsInRange, apply_swaps}
use Rattle.std.specs.Option.{option_and_then}
use Rattle.std.specs.Prelude.{Bool, List, None, Option, Some, [], false, length, nat_lt, true, ℕ, ◌&&◌, ◌+◌, ◌∷◌, ◌≡◌, ◌||◌}
use Rattle.machine_data.specs.declared.records.Entry.{Entry}
use Rattle.machine_data.specs.declared.label.Label.{Label}
use Rattle.machine_data.specs.declared.scenario.MainOpDef.{MainOpDef}
use Rattle.machine_data.specs.declared.statuses.Mark.{Mark}
use Rattle.machine_data.specs.declared.outcome.Outcome.{Outcome}
use Rattle.machine_data.specs.declared.scenario.ScenarioDef.{ScenarioDef}
use Rattle.machine_data.specs.declared.records.Turn.{Turn}
use Rattle.machine_data.specs.declared.records.Turn.TheVariants as turn
use Rattle.laws_examples.specs.Play.{Example, Next, Played, Swaps, deadlocked, empty_did, if_fits, if_shows, in_range, main_did, moved, on, play, polled, polled_next, ran, rested, same_choice, same_option, script_did, swaps_at, took, turned}
use Rattle.machine_data.specs.Core.{Core, Main, MainPlace, Scripted, State, Unscripted}
use Rattle.machine_data.specs.Labels.{Choice, choice_of}
use Rattle.machine_data.specs.Moves.{ended}
use Rattle.machine_data.specs.Read.{next_entry}
use Rattle.machine_rules.specs.MainOps.{Answers, Does, MainProgress, Pends, act_of, line_of, main_rule, op_at}
use Rattle.machine_rules.specs.Outcome.{outcome_of}
use Rattle.machine_rules.specs.Progress.{Asks, Fails, Continues, Never, OneOf, Ordered, Progress, Stops, Traps}
use Rattle.machine_rules.specs.Run.{Run, opens}
use Rattle.machine_rules.specs.Stalled.{Setting, is_unended_take, may_deadlock, setting_of}
use Rattle.machine_rules.specs.Step.{DeadlockStep, EmptyFor, FuturesStep, MainProgresses, MainStep, Polled, Progresses, RestStep, RunStep, ScriptStep, Step, TakeStep, TurnStep, did, entry_number}
use Rattle.machine_rules.specs.Takes.{popped, take_rule}
use Rattle.machine_rules.specs.Works.{Asked, Ends, FailsNow, Poll, StillPends, has_moving_work, next_polled, poll_of}

abbrev Makes : Setting → State → Next → Type 0
Makes x s None = Unit {0}
Makes x s (Some n) = Step x s n.0 n.1

abbrev Runs : Setting → State → Played → Type 0
Runs x s p = Run x s p.labels p.last

-- ---- Choices and orders

both : (a b : Bool) → (a && b) ≡ true → (a ≡ true) × (b ≡ true)
both true b h = (refl, h)
both false b h = (h, absurd (subst T (sym h) tt))

same_option_is : (a b : Option ℕ) → same_option a b ≡ true → a ≡ b
same_option_is None None h = refl
same_option_is (Some m) (Some n) h = ap (λ k. Some k) (eqb→eq m n (subst T (sym h) tt))
same_option_is None (Some n) h = absurd (subst T (sym h) tt)
same_option_is (Some m) None h = absurd (subst T (sym h) tt)

same_choice_is : (a b : Choice) → same_choice a b ≡ true → a ≡ b
same_choice_is a b h =
    let p = both (same_option a.woken b.woken) _ h in
    ap₂ (λ (w m : Option ℕ). record { woken = w; member = m }) (same_option_is a.woken b.woken p.0) (same_option_is a.member b.member p.1)

in_range_is : (n : ℕ) (ps : Swaps) → in_range n ps ≡ true → SwapsInRange n ps
in_range_is n [] h = tt
in_range_is n (p ∷ ps) h =
    let a = both (nat_lt p.0 n) _ h in
    let b = both (nat_lt p.1 n) _ a.1 in
    (ltb→lt p.0 n (subst T (sym a.0) tt), ltb→lt p.1 n (subst T (sym b.0) tt), in_range_is n ps b.1)

-- ---- One step

abbrev Ran : State → Core → ℕ → Progress → Next → Type 0
Ran s base n p None = Unit {0}
Ran s base n p (Some x) = Progresses s base n p x.0 x.1

ordered_ran : (s : State) (base : Core) (n : ℕ) (ns : List ℕ) (next : List ℕ → Progress) (ps : Swaps) (b : Bool) → in_range (length ns) ps ≡ b → (y : Next) → Ran s base n (next (apply_swaps ns ps)) y → Ran s base n (Ordered ns next) (if_fits b y)
ordered_ran s base n ns next ps true e None h = tt
ordered_ran s base n ns next ps true e (Some x) h = (apply_swaps ns ps, (record { moves = ps; below = in_range_is (length ns) ps e; is = refl }, h))
ordered_ran s base n ns next ps false e y h = tt

one_ran : (s : State) (base : Core) (n : ℕ) (ns : List ℕ) (next : ℕ → Progress) (ps : Swaps) → ((m : ℕ) → Ran s base n (next m) (ran s base n ps (next m))) → Ran s base n (OneOf ns next) (option_and_then (λ m. ran s base n ps (next m)) (first_number ns))
one_ran s base n [] next ps h = tt
one_ran s base n (m ∷ ns) next ps h = by (ran s base n ps (next m)) (h m)
  where
    by : (y : Next) → Ran s base n (next m) y → Ran s base n (OneOf (m ∷ ns) next) y
    by None k = tt
    by (Some x) k = (m, (ap (λ b. b || is_among m ns) (eq-eqb m m refl), k))

ran_is : (s : State) (base : Core) (n : ℕ) (ps : Swaps) (p : Progress) → Ran s base n p (ran s base n ps p)
ran_is s base n ps (Continues l new m) = (refl, refl)
ran_is s base n ps (Stops l new) = (refl, refl)
ran_is s base n ps (Traps t) = (refl, refl)
ran_is s base n ps (Fails i) = (refl, refl)
ran_is s base n ps Never = tt
ran_is s base n ps (Asks next) = tt
ran_is s base n ps (Ordered ns next) = ordered_ran s base n ns next ps (in_range (length ns) ps) refl _ (ran_is s base n ps (next (apply_swaps ns ps)))
ran_is s base n ps (OneOf ns next) = one_ran s base n ns next ps (λ m. ran_is s base n ps (next m))

-- a step that was made with a choice, where its label shows the choice
abbrev Chosen : State → Core → ℕ → (Choice → Progress) → Next → Type 0
Chosen s base n next None = Unit {0}
Chosen s base n next (Some x) = Progresses s base n (next (choice_of x.0)) x.0 x.1

fits_chosen : (s : State) (base : Core) (n : ℕ) (next : Choice → Progress) (ch : Choice) (x : Label × State) (b : Bool) → same_choice (choice_of x.0) ch ≡ b → Progresses s base n (next ch) x.0 x.1 → Chosen s base n next (if_fits b (Some x))
fits_chosen s base n next ch x true e h = subst (λ (k : Choice). Progresses s base n (next k) x.0 x.1) (sym (same_choice_is (choice_of x.0) ch e)) h
fits_chosen s base n next ch x false e h = tt

chosen_is : (s : State) (base : Core) (n : ℕ) (next : Choice → Progress) (ch : Choice) (y : Next) → Ran s base n (next ch) y → Chosen s base n next (if_shows ch y)
chosen_is s base n next ch None h = tt
chosen_is s base n next ch (Some x) h = fits_chosen s base n next ch x (same_choice (choice_of x.0) ch) refl h

-- ---- The turns

abbrev Meets : (Label → State → Type 0) → Next → Type 0
Meets S None = Unit {0}
Meets S (Some y) = S y.0 y.1

main_is : (s : State) (p : MainPlace) (o : MainOpDef) (q : MainProgress) → Meets (MainProgresses s p o q) (main_did s p o q)
main_is s p o (Does l new) = (refl, refl)
main_is s p o Pends = (refl, refl)
main_is s p o (Answers v) = (refl, refl)

script_is : (x : Setting) (s : State) (p : MainPlace) (o : Option MainOpDef) → Meets (ScriptStep x s p o) (script_did x s p o)
script_is x s p None = (refl, refl)
script_is x s p (Some o) = main_is s p o (main_rule x.component (line_of p o) s.core (act_of p o))

moved_is : (x : Setting) (s : State) (m : Main) → Meets (MainStep x s m) (moved x s m)
moved_is x s (Scripted p) = script_is x s p (op_at x.script p)
moved_is x s Unscripted = tt

polled_is : (s : State) (i : ℕ) (p : Poll) → Meets (Polled s i p) (polled s i p)
polled_is s i (StillPends host) = (refl, refl)
polled_is s i (Ends v) = (refl, refl)
polled_is s i FailsNow = (refl, refl)
polled_is s i (Asked next) = tt

futures_is : (s : State) (o : Option ℕ) → Meets (FuturesStep s o) (polled_next s o)
futures_is s None = tt
futures_is s (Some i) = polled_is s i (poll_of i s.core)

rest_is : (s : State) (b : Bool) → Meets (RestStep s b) (if_fits b (rested s))
rest_is s true = (refl, refl)
rest_is s false = tt

deadlock_is : (s : State) (b : Bool) → Meets (DeadlockStep s b) (if_fits b (deadlocked s))
deadlock_is s true = (refl, refl)
deadlock_is s false = tt

empty_is : (x : Setting) (s : State) (b : Bool) → Meets (EmptyFor x s b) (empty_did x s b)
empty_is x s true = rest_is s (is_unended_take s.turn)
empty_is x s false = deadlock_is s (may_deadlock x s)

to_meets : (s : State) (base : Core) (n : ℕ) (next : Choice → Progress) (y : Next) → Chosen s base n next y → Meets (λ l t. Progresses s base n (next (choice_of l)) l t) y
to_meets s base n next None h = tt
to_meets s base n next (Some x) h = h

took_is : (x : Setting) (s : State) (ch : Choice) (ps : Swaps) (e : Option (Mark × Entry)) → Meets (TakeStep x s e) (took x s ch ps e)
took_is x s ch ps None = empty_is x s (has_moving_work s.core)
took_is x s ch ps (Some e) =
    let base = popped e.0 s.core in
    let n = entry_number e.1 in
    to_meets s base n (λ c. take_rule e.0 c base e.1) (if_shows ch (ran s base n ps (take_rule e.0 ch base e.1))) (chosen_is s base n (λ c. take_rule e.0 c base e.1) ch (ran s base n ps (take_rule e.0 ch base e.1)) (ran_is s base n ps (take_rule e.0 ch base e.1)))

ran_by : (x : Setting) (s : State) (ch : Choice) (ps : Swaps) (n : ℕ) → Meets (RunStep x.component s n) (if_shows ch (ran s s.core n ps (did x.component n s.core ch)))
ran_by x s ch ps n =
    to_meets s s.core n (λ c. did x.component n s.core c) (if_shows ch (ran s s.core n ps (did x.component n s.core ch))) (chosen_is s s.core n (λ c. did x.component n s.core c) ch (ran s s.core n ps (did x.component n s.core ch)) (ran_is s s.core n ps (did x.component n s.core ch)))

turned_is : (x : Setting) (s : State) (ch : Choice) (ps : Swaps) (u : Turn) → Meets (TurnStep x s u) (turned x s ch ps u)
turned_is x s ch ps turn.Main = moved_is x s s.main
turned_is x s ch ps (turn.Futures n) = futures_is s (next_polled n s.core)
turned_is x s ch ps (turn.Take ended) = took_is x s ch ps (next_entry s.core)
turned_is x s ch ps (turn.Run n) = ran_by x s ch ps n
turned_is x s ch ps turn.Over = tt

to_makes : (x : Setting) (s : State) (y : Next) → Meets (TurnStep x s s.turn) y → Makes x s y
unfolding Step
to_makes x s None h = tt
to_makes x s (Some n) h = h

-- ---- Whole runs

on_runs : (x : Setting) (s : State) (go : State → Played) (y : Next) → ((t : State) → Runs x t (go t)) → Makes x s y → Runs x s (on s go y)
on_runs x s go None runs makes = refl
on_runs x s go (Some n) runs makes = (n.1, (makes, runs n.1))

-- what is played is a run
pub play_runs : (x : Setting) (os : List (ℕ × Swaps)) (k : ℕ) (ls : List Label) (s : State) → Runs x s (play x os k ls s)
unfolding play
play_runs x os k [] s = refl
play_runs x os k (l ∷ ls) s = on_runs x s (λ t. play x os (k + 1) ls t) (turned x s (choice_of l) (swaps_at k os) s.turn) (λ t. play_runs x os (k + 1) ls t) (to_makes x s (turned x s (choice_of l) (swaps_at k os) s.turn) (turned_is x s (choice_of l) (swaps_at k os) s.turn))

-- an example is shown by what is played
pub example : (x : ScenarioDef) (os : List (ℕ × Swaps)) (steps : ℕ) (ls : List Label) (o : Outcome) → (play (setting_of x) os 0 ls (opens x)).labels ≡ ls → outcome_of (setting_of x) (play (setting_of x) os 0 ls (opens x)).last ls steps ≡ Some o → Example x steps ls o
example x os steps ls o labels ends =
    let p = play (setting_of x) os 0 ls (opens x) in
    record { last = p.last; run = subst (λ (ks : List Label). Run (setting_of x) (opens x) ks p.last) labels (play_runs (setting_of x) os 0 ls (opens x)); ends = ends }
