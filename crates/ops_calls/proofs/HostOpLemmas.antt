-- What an op leaves that a host had the running thread do.
use Rattle.core_primitives.specs.Preferences.{preference}
use Rattle.ops_guests.proofs.CalmLemmas.{picks_implements}
use Rattle.ops_guests.specs.OpResult.{PicksFirst}
use Rattle.ops_guests.specs.Does.{Rule, SameNames}
use Rattle.task_wait.specs.declared.keys.ThreadKey.{ThreadKey}
use Rattle.task_table.specs.declared.id.TableId.{TableId}
use Rattle.ops_guests.specs.Ended.{ended}
use Rattle.ops_dispatch.proofs.EndLemmas.{end_goes, end_implements, end_picks, end_stays, end_works}
use Rattle.std.proofs.Common.{ap, arith, refl, subst, sym, ⊎_elim, ◌∙◌}
use Rattle.std.specs.Prelude.{IfSome, Option, Some, false, option_map, true, ℕ, ◌≡◌, ◌⊎◌}
use Rattle.ops_dispatch.specs.Continues.{DoesOp, OpGoesOn, running_of}
use Rattle.ops_calls.proofs.AtOnceLemmas.{never_stops}
use Rattle.ops_calls.specs.OpAnswers.{has_stopped}
use Rattle.ops_calls.specs.HostOps.{Did, Does, after, is_at_once, left_by, scripted_rule_of, runs_after, turn_for, turn_in}
use Rattle.machine_data.specs.declared.op.Op.{Op}
use Rattle.machine_data.specs.Core.{Core, Main, State}
use Rattle.machine_data.specs.Labels.{Choice, choice_of}
use Rattle.machine_data.specs.declared.component.Component.{Component}
use Rattle.machine_data.specs.declared.records.Turn.TheVariants as turn
use Rattle.ops_guests.specs.OpResult.{IsCurrent, Implements}
use Rattle.ops_guests.specs.Stays.{StaysAfter}
use Rattle.ops_guests.specs.Steps.{label_of, turn_after}
use Rattle.ops_guests.specs.Works.{NamesTold}
use Rattle.ops_guests.specs.declared.op_result.OpResult.{OpResult}
use Rattle.ops_guests.specs.declared.op_result.OpResult.TheVariants as op_result
use Rattle.machine_rules.specs.Finish.{SomeHost}
use Rattle.machine_rules.specs.Step.{Progresses, op_rule}
use Rattle.machine_rules.specs.Turns.{goes_to}
use Rattle.machine_rules.specs.Progress.{Asks, Fails, Continues, Never, OneOf, Ordered, Progress, Stops, Traps}
use Rattle.ops_turns.proofs.RunLemmas.{settled}
use Rattle.ops_turns.specs.Turn.{CoreInOrder, is_going, state_at}
use Rattle.core_primitives.specs.StateView.{StateView, Tags, on_core, thread_number, thread_of}

-- ---- Who runs

-- the thread that goes on, if one does, runs
abbrev pub Runs : OpResult → StateView → Type 0
Runs (op_result.Continues l m said) t = running_of t ≡ Some m
Runs _ t = Unit {0}

pub goes_runs : (r : OpResult) (t : StateView) → OpGoesOn r t → Runs r t
goes_runs (op_result.Continues l m said) t g = g.0
goes_runs (op_result.Stops l) t g = tt
goes_runs (op_result.Traps why) t g = tt
goes_runs (op_result.Fails i) t g = tt

pub current_runs : (r : OpResult) (t : StateView) → IsCurrent r t → Runs r t
current_runs (op_result.Continues l m said) t g = ap (option_map (λ id. thread_of t id)) g.1.0 ∙ ap (λ (k : ℕ). Some k) g.1.1
current_runs (op_result.Stops l) t g = tt
current_runs (op_result.Traps why) t g = tt
current_runs (op_result.Fails i) t g = tt

runs_then : (n : ℕ) (r : OpResult) (s t : StateView) → running_of s ≡ Some n → Runs r t → StaysAfter r s t → running_of (after r t) ≡ runs_after n r
runs_then n (op_result.Continues l m said) s t runs goes stays = goes
runs_then n (op_result.Stops l) s t runs goes stays = refl
runs_then n (op_result.Traps why) s t runs goes stays = ap running_of stays ∙ runs
runs_then n (op_result.Fails i) s t runs goes stays = ap running_of stays ∙ runs

pub not_stopped : (r : OpResult) (t : StateView) → has_stopped r ≡ false → after r t ≡ t
not_stopped (op_result.Continues l m said) t e = refl
not_stopped (op_result.Stops l) t e = absurd (cc)
not_stopped (op_result.Traps why) t e = refl
not_stopped (op_result.Fails i) t e = refl

stays_then : (r : OpResult) (s t : StateView) → StaysAfter r s t → StaysAfter r s (after r t)
stays_then (op_result.Continues l m said) s t stays = tt
stays_then (op_result.Stops l) s t stays = tt
stays_then (op_result.Traps why) s t stays = stays
stays_then (op_result.Fails i) s t stays = stays

core_then : (r : OpResult) (t : StateView) → (after r t).core ≡ t.core
core_then (op_result.Continues l m said) t = refl
core_then (op_result.Stops l) t = refl
core_then (op_result.Traps why) t = refl
core_then (op_result.Fails i) t = refl

works_then : (r : OpResult) (s t : StateView) → NamesTold s t → NamesTold s (after r t)
works_then (op_result.Continues l m said) s t h = h
works_then (op_result.Stops l) s t h = h
works_then (op_result.Traps why) s t h = h
works_then (op_result.Fails i) s t h = h

module _ (c : Component) (n : ℕ) (r : OpResult) (s t : StateView) (runs : running_of s ≡ Some n) (goes : Runs r t) (stays : StaysAfter r s t) where
  if_running : (P : ℕ → Type 0) → P n → IfSome (running_of s) P
  if_running P p = subst (λ (o : Option ℕ). IfSome o P) (sym runs) p

  from_running : (P : ℕ → Type 0) → IfSome (running_of s) P → P n
  from_running P p = subst (λ (o : Option ℕ). IfSome o P) runs p

  -- the running thread did the rule
  pub did_rule : (R : ℕ → Choice → Progress) → NamesTold s t → PicksFirst (preference s) (R n (choice_of (label_of n r))) (label_of n r) s.core r t.core → Did R s r (after r t)
  did_rule R works h = if_running (λ k. Does (R k) k s r (after r t)) (record {
    implements = subst (λ (u : Core). Implements (R n (choice_of (label_of n r))) s.core r u) (sym (core_then r t)) (picks_implements h);
    picks = subst (λ (u : Core). PicksFirst (preference s) (R n (choice_of (label_of n r))) (label_of n r) s.core r u) (sym (core_then r t)) h;
    running = runs_then n r s t runs goes stays;
    stays = stays_then r s t stays;
    works = works_then r s t works;
  })

  -- what is in order at the turn of the thread that goes on is so at that of the thread that runs
  pub order_at : CoreInOrder c (turn_for (runs_after n r)) t.core → CoreInOrder c (turn_in (after r t)) (after r t).core
  order_at in_turn =
      subst (λ (o : Option ℕ). CoreInOrder c (turn_for o) (after r t).core) (sym (runs_then n r s t runs goes stays))
      (subst (CoreInOrder c (turn_for (runs_after n r))) (sym (core_then r t)) in_turn)

-- an op that a host had the running thread do is left: it is ended, and no thread runs where the strand has stopped
module _ (c : Component) (rule : Rule) (id : TableId ThreadKey) (n : ℕ) (r : OpResult) (s t : StateView) (did : DoesOp NamesTold rule id s r t) (number : thread_of s id ≡ n) (runs : running_of s ≡ Some n) where
  abbrev pub left : StateView
  left = on_core (ended SomeHost (thread_of t id) r) t

  left_runs : Runs r left
  left_runs = goes_runs r left (end_goes NamesTold rule SomeHost id s t left r did refl)

  pub left_stays : StaysAfter r s left
  left_stays = end_stays NamesTold rule SomeHost id s t left r did refl

  pub left_met : Implements (rule SomeHost n (choice_of (label_of n r)) s.core) s.core r left.core
  left_met = subst (λ (k : ℕ). Implements (rule SomeHost k (choice_of (label_of k r)) s.core) s.core r left.core) number (end_implements NamesTold rule SomeHost id s t left r did refl)

  left_picks : PicksFirst (preference s) (rule SomeHost n (choice_of (label_of n r)) s.core) (label_of n r) s.core r left.core
  left_picks = subst (λ (k : ℕ). PicksFirst (preference s) (rule SomeHost k (choice_of (label_of k r)) s.core) (label_of k r) s.core r left.core) number (end_picks NamesTold rule SomeHost id s t left r did refl)

  pub left_did : (R : ℕ → Choice → Progress) → ((ch : Choice) → R n ch ≡ rule SomeHost n ch s.core) → Did R s r (left_by (thread_of t id) r t)
  left_did R alike = did_rule c n r s left runs left_runs left_stays R (end_works NamesTold rule SomeHost id s t left r did refl did.kept)
      (subst (λ (p : Progress). PicksFirst (preference s) p (label_of n r) s.core r left.core) (sym (alike (choice_of (label_of n r)))) left_picks)

  pub left_order : CoreInOrder c (turn_for (runs_after n r)) left.core → CoreInOrder c (turn_in (left_by (thread_of t id) r t)) (left_by (thread_of t id) r t).core
  left_order in_turn = order_at c n r s left runs left_runs left_stays in_turn

-- one that changes no name, and that never stops
module _ (id : TableId ThreadKey) (r : OpResult) (s t u : StateView) (names : SameNames s t) (going : has_stopped r ≡ false) (over : u ≡ left_by (thread_of t id) r t) where
  only_ended : u ≡ on_core (ended SomeHost (thread_of s id) r) t
  only_ended = over ∙ (not_stopped r (on_core (ended SomeHost (thread_of t id) r) t) going ∙ ap (λ (g : Tags). on_core (ended SomeHost (thread_number g id) r) t) names.0)

  pub same_tags : u.tags ≡ s.tags
  same_tags = ap (λ (v : StateView). v.tags) only_ended ∙ names.0

  pub same_current : u.current ≡ s.current
  same_current = ap (λ (v : StateView). v.current) only_ended ∙ names.1

  pub met_same : (p : Progress) → Implements p s.core r (ended SomeHost (thread_of s id) r t.core) → Implements p s.core r u.core
  met_same p h = subst (λ (x : Core). Implements p s.core r x) (sym (ap (λ (v : StateView). v.core) only_ended)) h

-- what is so of the running thread is so of it
module _ (s : StateView) (n : ℕ) (runs : running_of s ≡ Some n) where
  pub if_running_is : (P : ℕ → Type 0) → P n → IfSome (running_of s) P
  if_running_is P p = subst (λ (o : Option ℕ). IfSome o P) (sym runs) p

  pub running_is : (P : ℕ → Type 0) → IfSome (running_of s) P → P n
  running_is P p = subst (λ (o : Option ℕ). IfSome o P) runs p

-- what did a rule and wasn't refused comes of it
pub implements_progresses : (x : State) (n : ℕ) (p : Progress) (r : OpResult) (t : Core) → Implements p x.core r t → is_going r ≡ true →
    Progresses x x.core n p (label_of n r) (goes_to x t (turn_after r))
implements_progresses x n (Continues l new m) (op_result.Continues k j said) t h on = let e = h.0 in let is = h.1 in (cc, cc)
implements_progresses x n (Stops l new) (op_result.Stops k) t h on = let e = h.0 in let is = h.1 in (cc, cc)
implements_progresses x n (Ordered ns next) r t h on = (h.0, (h.1.0, implements_progresses x n (next h.0) r t h.1.1 on))
implements_progresses x n (OneOf ns next) r t h on = (h.0, (h.1.0, implements_progresses x n (next h.0) r t h.1.1 on))
implements_progresses x n (Asks next) r t h on = (h.0, implements_progresses x n (next h.0) r t h.1 on)
implements_progresses x n Never r t h on = absurd h
implements_progresses x n (Continues l new m) r t h on = absurd (let e = h.0 in cc)
implements_progresses x n (Stops l new) r t h on = absurd (let e = h.0 in cc)
implements_progresses x n (Traps why) r t h on = absurd (let e = h.0 in cc)
implements_progresses x n (Fails i) r t h on = absurd (let e = h.0 in cc)

-- the same, whatever main's part is
pub met_progresses : (c : Component) (o : Op) (n : ℕ) (r : OpResult) (s t : Core) → Implements (scripted_rule_of c o s n (choice_of (label_of n r))) s r t → is_going r ≡ true → (m : Main) →
    Progresses (state_at s m (turn.Run n)) s n (op_rule SomeHost c n s (choice_of (label_of n r)) o) (label_of n r) (state_at t m (turn_after r))
met_progresses c o n r s t h on m =
    let before = state_at s m (turn.Run n) in
    subst (Progresses before s n (op_rule SomeHost c n s (choice_of (label_of n r)) o) (label_of n r)) (settled r s m (turn.Run n) t)
    (implements_progresses before n (op_rule SomeHost c n s (choice_of (label_of n r)) o) r t h on)

-- where nothing is changed the state is in order as before
pub order_still : (c : Component) (n : ℕ) (s t : StateView) → running_of s ≡ Some n → CoreInOrder c (turn.Run n) s.core → t ≡ s → CoreInOrder c (turn_in t) t.core
order_still c n s t runs in_turn same =
    subst (λ (v : StateView). CoreInOrder c (turn_in v) v.core) (sym same) (subst (λ (o : Option ℕ). CoreInOrder c (turn_for o) s.core) (sym runs) in_turn)

-- an op that doesn't pause has gone on, or was refused
pub went_on : (c : Component) (o : Op) (n : ℕ) (s t : StateView) (r : OpResult) → running_of s ≡ Some n → is_at_once o ≡ true → Did (scripted_rule_of c o s.core) s r t → has_stopped r ≡ false
went_on c o n s t r runs once did =
    let does = subst (λ (m : Option ℕ). IfSome m (λ k. Does (scripted_rule_of c o s.core k) k s r t)) runs did in
    never_stops c n s.core (choice_of (label_of n r)) o once r t.core does.implements
