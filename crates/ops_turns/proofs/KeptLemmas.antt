-- Turns and the calls of a host keep order, by the walk.
use Rattle.laws_order.proofs.StayLemmas.{awake_stays, beside_awake, turned}
use Rattle.std.proofs.Common.{ap, arith, refl, subst, sym, ◌∙◌}
use Rattle.std.proofs.lemmas.Bool.Decides.{nat_tests}
use Rattle.std.specs.Prelude.{Bool, List, None, Some, [], false, is_some, true, ℕ, ◌+◌, ◌==◌, ◌≡◌, ◌≤◌}
use Rattle.laws_states.proofs.Exported.{handle_tables_stay, instances_stay}
use Rattle.laws_states.specs.Order.{Awake, InOrderIf, StartsThere, is_open}
use Rattle.machine_data.proofs.CommuteLemmas.{get-change}
use Rattle.machine_data.specs.Core.{Began, Core, Main, Unscripted}
use Rattle.machine_data.specs.Maps.{get-insert}
use Rattle.machine_data.specs.Moves.{put_high}
use Rattle.laws_states.specs.WakeLaw.{NoneBlockedOnEnd}
use Rattle.machine_data.specs.Read.{event_of, place_of, undelivered_end}
use Rattle.machine_data.specs.declared.records.Place.{Place}
use Rattle.machine_data.specs.declared.records.Subtask.{Subtask}
use Rattle.machine_data.specs.declared.records.Subtask.TheVariants as subtask
use Rattle.machine_data.specs.Write.{add_call, add_group, add_thread, on_thread, push_high, set_place, set_trapped, take_result}
use Rattle.machine_data.specs.declared.component.Callee.{Callee}
use Rattle.machine_data.specs.declared.component.Component.{Component}
use Rattle.machine_data.specs.declared.label.Label.{Label}
use Rattle.machine_data.specs.declared.label.Label.TheVariants as label
use Rattle.machine_data.specs.declared.label.MainLabel.{MainLabel}
use Rattle.machine_data.specs.declared.label.MainLabel.TheVariants as main_label
use Rattle.machine_data.specs.declared.records.Place.TheVariants as place
use Rattle.machine_data.specs.declared.records.Turn.{Turn}
use Rattle.machine_data.specs.declared.records.Turn.TheVariants as turn
use Rattle.machine_data.specs.declared.scenario.IdleLine.TheVariants as idle_line
use Rattle.laws_places.proofs.OrderLemmas.{step_in_order, step_kept}
use Rattle.laws_places.proofs.BlockedLemmas.{blocked_stay, ended_as}
use Rattle.laws_places.proofs.CallersSteps.{SamePlaces}
use Rattle.laws_places.proofs.CallersTrips.{is_held_on}
use Rattle.machine_rules.specs.Places.{Placed, is_there}
use Rattle.machine_rules.specs.Calls.{call_made}
use Rattle.machine_rules.specs.MainOps.{Does, Finish, MainAct, MainProgress, Start, finish_result, main_rule, main_started, may_act, start_act}
use Rattle.machine_rules.specs.Stalled.{Setting}
use Rattle.machine_rules.specs.Step.{OpenProgresses, Step}
use Rattle.machine_rules.specs.Turns.{at_turn}
use Rattle.ops_turns.specs.KeptTurns.{FinishInOrder, MadeInOrder, RefusalInOrder, StartInOrder}
use Rattle.ops_turns.specs.Turn.{CoreInOrder, state_at}
use Rattle.laws_places.proofs.CountedSteps.{counted_stay}
use Rattle.laws_states.proofs.ReadyCounts.{is_woken_at}
use Rattle.laws_states.specs.WakeLaw.{WakesCounted}
use Rattle.machine_data.specs.Read.{is_ready_member, is_waiter}

abbrev pub setting : Component → Setting
setting c = record { component = c; script = []; idle = idle_line.Wait }

-- order hangs on the turn by the thread that runs, and by what is so while the turns aren't over
at_turn_of : (c : Component) (s : Core) (m k : Main) (p q : Turn) {g : Bool} → ((n : ℕ) → q ≡ turn.Run n → place_of n s ≡ Some place.Running) → (b : Bool) → (b ≡ true → Awake q s) → InOrderIf g c (state_at s m p) → InOrderIf b c (state_at s k q)
at_turn_of c s m k p q runs b awake o = turned (state_at s m p) o k q runs b awake

-- a step from such a core leads to one, with each part of main
pub core_in_order_after : (x : Setting) (s t : Core) (m k : Main) (p q : Turn) (l : Label) → CoreInOrder x.component p s → Step x (state_at s m p) l (state_at t k q) → CoreInOrder x.component q t
core_in_order_after x s t m k p q l in_turn step =
    let after = step_in_order x (state_at s m p) l (state_at t k q) (in_turn.order m) step in
    record {
      order = λ j. at_turn_of x.component t k j q q after.in_place.runs (is_open q) after.awake after;
      there = λ i below. instances_stay x (state_at s m p) l (state_at t k q) step i ∙ in_turn.there i below;
      handles = λ i below. handle_tables_stay x (state_at s m p) l (state_at t k q) step i ∙ in_turn.handles i below;
    }

pub made_in_order : MadeInOrder
made_in_order c p s made t in_turn makes = core_in_order_after (setting c) s.core t.core Unscripted Unscripted p made.turn made.label in_turn (makes.step (setting c) refl Unscripted)

-- An act of main that takes no running thread away is a step in main's turn. While another turn is, no more than order in that turn
-- is known before it.
pub acted : (c : Component) (p : Turn) (act : MainAct) (l : MainLabel) (s t : Core) → may_act c s act ≡ true → main_rule c 1 s act ≡ Does l t → ((n : ℕ) → place_of n s ≡ Some place.Running → place_of n t ≡ Some place.Running) → (Awake p s → Awake p t) → CoreInOrder c p s → CoreInOrder c p t
unfolding Step at_turn
acted c p act l s t may row kept stays in_turn =
    let u = state_at s Unscripted turn.Main in
    let v = state_at t Unscripted turn.Main in
    let before : InOrderIf false c u = at_turn_of c s Unscripted Unscripted p turn.Main (λ n e. absurd (cc)) false (λ e. absurd (cc)) (in_turn.order Unscripted) in
    let shown : OpenProgresses u (main_rule c 1 s act) (label.Main l) v =
    subst (λ (q : MainProgress). OpenProgresses u q (label.Main l) v) (sym row) (refl, refl) in
    let step : Step (setting c) u (label.Main l) v = (1, (act, (may, shown))) in
    let after = step_kept (setting c) u (label.Main l) v before step (λ n e. absurd (cc)) false (λ e. absurd (cc)) in
    record {
      order = λ m. at_turn_of c t Unscripted m turn.Main p (λ n e. kept n ((in_turn.order m).in_place.runs n e)) (is_open p) (λ e. stays ((in_turn.order m).awake e)) after;
      there = λ i below. instances_stay (setting c) u (label.Main l) v step i ∙ in_turn.there i below;
      handles = λ i below. handle_tables_stay (setting c) u (label.Main l) v step i ∙ in_turn.handles i below;
    }

-- a thread that is there stays where it is
started_place : (c : Component) (e : Callee) (words : List ℕ) (s : Core) (n : ℕ) → (n == s.made.threads + 1) ≡ false → place_of n (main_started c e words s) ≡ place_of n s
unfolding main_started put_high push_high set_place on_thread call_made add_thread add_call add_group
started_place c e words s n other = grind (arith, nat_tests, get-insert, get-change)

-- who isn't at a mark was there before
abbrev is_unmarked : Place → Bool
is_unmarked (place.Ready m w) = false
is_unmarked p = true

started_at : (c : Component) (e : Callee) (words : List ℕ) (s : Core) (n : ℕ) (p : Place) → is_unmarked p ≡ true → place_of n (main_started c e words s) ≡ Some p → place_of n s ≡ Some p
unfolding main_started put_high push_high set_place on_thread call_made add_thread add_call add_group
started_at c e words s n p free is = grind (arith, nat_tests, get-insert, get-change)

-- a new call has no event
started_event : (c : Component) (e : Callee) (words : List ℕ) (s : Core) (sub : Subtask) → undelivered_end (event_of sub s) ≡ None → undelivered_end (event_of sub (main_started c e words s)) ≡ None
unfolding main_started put_high push_high set_place on_thread call_made add_thread add_call add_group
started_event c e words s (subtask.Guest k) none = grind (arith, nat_tests, get-insert)
started_event c e words s (subtask.Host i) none = none

started_works : (c : Component) (e : Callee) (words : List ℕ) (s : Core) → (main_started c e words s).works ≡ s.works
unfolding main_started put_high push_high set_place on_thread call_made add_thread add_call add_group
started_works c e words s = refl

started_blocked : (c : Component) (e : Callee) (words : List ℕ) (s : Core) → NoneBlockedOnEnd s → NoneBlockedOnEnd (main_started c e words s)
started_blocked c e words s = blocked_stay (λ n sub at. started_at c e words s n (place.Blocked sub) refl at) (started_event c e words s)
    (λ sub live. ended_as sub s (main_started c e words s) (started_works c e words s) ∙ live)

-- the new call's first thread is there, and so are the others
started_there : (c : Component) (e : Callee) (words : List ℕ) (s : Core) → StartsThere s → StartsThere (main_started c e words s)
unfolding main_started put_high push_high set_place on_thread call_made add_thread add_call add_group
started_there c e words s h k now = grind (arith, nat_tests, get-insert, get-change, h k)

given_apart : (n k : ℕ) → n ≤ k → (n == k + 1) ≡ false
given_apart n k h = grind (arith, nat_tests)

held_unmarked : (p : Place) → is_held_on p ≡ true → is_unmarked p ≡ true
held_unmarked p h = grind arith

started_same : (c : Component) (e : Callee) (words : List ℕ) (s : Core) → Placed s → SamePlaces s (main_started c e words s)
started_same c e words s placed = record {
  kept = λ n there. started_place c e words s n (given_apart n s.made.threads ((placed n).number there));
  back = λ n p held at. started_at c e words s n p (held_unmarked p held) at;
  none = λ m none low. started_place c e words s m (given_apart m s.made.threads low) ∙ none;
}

started_waits : (c : Component) (e : Callee) (words : List ℕ) (s : Core) (y j : ℕ) → is_waiter y j (main_started c e words s) ≡ true → is_waiter y j s ≡ true
unfolding main_started put_high push_high set_place on_thread call_made add_thread add_call add_group
started_waits c e words s y j on = grind (arith, nat_tests, get-insert, get-change)

started_ready : (c : Component) (e : Callee) (words : List ℕ) (s : Core) (y : ℕ) (sub : Subtask) → is_ready_member y sub (main_started c e words s) ≡ true → is_ready_member y sub s ≡ true
unfolding main_started put_high push_high set_place on_thread call_made add_thread add_call add_group
started_ready c e words s y (subtask.Guest k) on = grind (arith, nat_tests, get-insert)
started_ready c e words s y (subtask.Host i) on = on

started_woken : (c : Component) (e : Callee) (words : List ℕ) (s : Core) (y j : ℕ) → (is_there j s ≡ true → (j == s.made.threads + 1) ≡ false) →
    is_woken_at y j s ≡ true → is_woken_at y j (main_started c e words s) ≡ true
unfolding main_started put_high push_high set_place on_thread call_made add_thread add_call add_group
started_woken c e words s y j apart on = let other = apart (grind arith) in grind (arith, nat_tests, get-insert, get-change, other)

-- the new call's thread neither waits nor is woken for a set, and the call is in none
started_counted : (c : Component) (e : Callee) (words : List ℕ) (s : Core) → Placed s → WakesCounted s → WakesCounted (main_started c e words s)
started_counted c e words s placed = counted_stay (started_waits c e words s) (started_ready c e words s)
    (λ y j on. started_woken c e words s y j (λ there. given_apart j s.made.threads ((placed j).number there)) on)

pub start_in_order : StartInOrder
start_in_order c p e words s takes free in_turn =
    acted c p (Start e words) (main_label.Start 1 (s.made.threads + 1)) s (main_started c e words s) takes (ap (start_act c 1 e words s) free)
    (λ n at. started_place c e words s n (given_apart n s.made.threads (((in_turn.order Unscripted).in_place.placed n).number (there n at))) ∙ at)
    (awake_stays p same (in_turn.order Unscripted).strands (λ n is. started_at c e words s n place.Running refl is) (started_there c e words s) (started_blocked c e words s)
    (started_counted c e words s (in_turn.order Unscripted).in_place.placed)) in_turn
  where
    there : (n : ℕ) → place_of n s ≡ Some place.Running → is_there n s ≡ true
    there n at = ap is_some at

    same : SamePlaces s (main_started c e words s)
    same = started_same c e words s (in_turn.order Unscripted).in_place.placed

pub refusal_in_order : RefusalInOrder
unfolding set_trapped
refusal_in_order c p e words why s takes refused in_turn =
    acted c p (Start e words) (main_label.StartRefused why 1) s (set_trapped s) takes (ap (start_act c 1 e words s) refused) (λ n at. at) (beside_awake (set_trapped s) s p) in_turn

pub finish_in_order : FinishInOrder
unfolding take_result
finish_in_order c p k v s found in_turn =
    acted c p (Finish (Began k)) (main_label.Finish 1 v) s (take_result k s) refl (ap (finish_result 1 k s) found) (λ n at. at) (beside_awake (take_result k s) s p) in_turn
