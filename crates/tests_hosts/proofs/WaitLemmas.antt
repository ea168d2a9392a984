-- An event from outside, between two drives.
use Rattle.machine_data.specs.declared.scenario.Version.TheVariants as version
use Rattle.store_works.specs.KeptWorks.{HeldWork}
use Rattle.core_makes.specs.Instances.{with_instance}
use Rattle.laws_order.specs.KeptOrder.{CanTell, StaysInOrder}
use Rattle.ops_state.specs.Woken.{Wakes, event_set}
use Rattle.ops_state.specs.declared.error.TaskError.{TaskError}
use Rattle.ops_state.specs.declared.name_calls.QualifiedThreadId.{QualifiedThreadId}
use Rattle.std.proofs.Common.{ap, arith, refl, subst, sym, ◌∙◌}
use Rattle.std.specs.Prelude.{Bool, List, None, Option, Result, Some, false, option_map, true, ℕ, ◌≡◌, ◌≤◌, [], length, ◌∷◌, ◌==◌, is_some, ◌+◌, ◌*◌, ◌^◌}
use Rattle.machine_data.specs.Core.{Core, State, Unscripted, fresh}
use Rattle.machine_data.specs.Maps.{Records, get, size}
use Rattle.machine_data.specs.Moves.{is_callback_waiter, published, put_high, unblocked, wake, wake_joined, waken_by}
use Rattle.machine_data.specs.Read.{blocked_on, end_of, join_of}
use Rattle.machine_data.specs.Write.{on_call, on_thread, push_high, set_event, set_place}
use Rattle.machine_data.specs.declared.component.Component.{Component}
use Rattle.machine_data.specs.declared.label.Label.{Label}
use Rattle.machine_data.specs.declared.outcome.Outcome.TheVariants as outcome
use Rattle.machine_data.specs.declared.outcome.Outcome.{Outcome}
use Rattle.machine_data.specs.declared.records.CallEnd.{CallEnd}
use Rattle.machine_data.specs.declared.records.Join.{Join}
use Rattle.machine_data.specs.declared.records.Set.{Set}
use Rattle.machine_data.specs.declared.records.Subtask.TheVariants as subtask
use Rattle.machine_data.specs.declared.records.Turn.TheVariants as turn
use Rattle.machine_data.specs.declared.records.Turn.{Turn}
use Rattle.machine_data.specs.declared.records.Why.{Why}
use Rattle.machine_data.specs.declared.records.Work.{Work}
use Rattle.machine_data.specs.declared.statuses.Status.TheVariants as status
use Rattle.machine_data.specs.declared.statuses.Status.{Status}
use Rattle.ops_moves.specs.Idle.{IsJoinThere}
use Rattle.machine_rules.specs.Outcome.{is_at_rest, last_outcome, open_outcome, or_open, outcome_of}
use Rattle.machine_rules.specs.Places.{Placed}
use Rattle.machine_rules.specs.Stalled.{Setting, is_idle, is_stalled, is_unended_take}
use Rattle.machine_rules.specs.Primitives.{status_of_end}
use Rattle.core_records.specs.Seen.{nothing}
use Rattle.task_store.proofs.FreshLemmas.{fresh_more, size_fresh}
use Rattle.ops_turns.proofs.FreshLemmas.{given_fresh}
use Rattle.core_primitives.specs.Groups.{IsAsked}
use Rattle.task_store.specs.Hosts.{HoldsAt, HoldsWorks}
use Rattle.ops_turns.proofs.DriveLemmas.{label_ends}
use Rattle.ops_turns.specs.Drive.{Drives}
use Rattle.ops_turns.specs.Turn.{PendsIn, CoreInOrder, given, is_open, running_of, IsSettled, goes_on}
use Rattle.task_wait.specs.declared.codes.Event.TheVariants as event
use Rattle.core_primitives.specs.StateView.{StateView, on_core, with_core}

-- two instances more in a store without one
pub two_made : with_instance (with_instance (fresh version.One 0 100000 1000000)) ≡ fresh version.One 2 100000 1000000
two_made = ap (λ (u : Core). with_instance u) (fresh_more version.One 0 100000 1000000) ∙ fresh_more version.One 1 100000 1000000

at_most_one : (n : ℕ) → n ≡ 1 → n ≤ 1
at_most_one n is = omega (arith, is)

-- one was made in a new store
pub few_then : (s : StateView) → s ≡ nothing → size (on_core with_instance s).core.instances ≤ 1
few_then s is = subst (λ (v : StateView). size (on_core with_instance v).core.instances ≤ 1) (sym is)
    (at_most_one _ (ap (λ (u : Core). size u.instances) (fresh_more version.One 0 100000 1000000) ∙ size_fresh version.One 1 100000 1000000))

pub none_then : (s : StateView) → s ≡ nothing → size s.core.instances ≤ 1
none_then s is = subst (λ (v : StateView). size v.core.instances ≤ 1) (sym is) (let none = size_fresh version.One 0 100000 1000000 in at_most_none _ none)
  where
    at_most_none : (n : ℕ) → n ≡ 0 → n ≤ 1
    at_most_none n zero = omega (arith, zero)

-- few numbers were given
pub given_zero : (s : StateView) → s ≡ with_core (fresh version.One 2 100000 1000000) nothing → given s.core ≡ 0
given_zero s is = ap (λ (v : StateView). given v.core) is ∙ given_fresh version.One 2 100000 1000000

pub few_given : (n : ℕ) → n ≡ 0 → n ≤ 2 ^ 60
few_given n none = omega (arith, none)

pub given_after : (n k : ℕ) → k ≡ 0 → n ≤ k + 2 * 100 → n ≤ 200
given_after n k none few = omega (arith, none, few)

pub given_few : (n k : ℕ) → n ≡ k → k ≤ 200 → n ≤ 2 ^ 60
given_few n k same few = omega (arith, same, few)

-- what is in order at a turn
pub stays_sitting : (s t : Core) → StaysInOrder s t → (c : Component) (p : Turn) → is_open p ≡ true → CoreInOrder c p s → CoreInOrder c p t
stays_sitting s t stays c p going in_turn =
    let r = stays c p None going in_turn.order in
    record {
      order = r.0;
      there = λ i below. r.1.instances i ∙ in_turn.there i below;
      handles = λ i below. r.1.handles i ∙ in_turn.handles i below;
    }

-- a call that hasn't ended can tell that it has begun
pub can_tell_begun : (k : ℕ) (s : Core) → end_of k s ≡ None → CanTell (subtask.Guest k) status.Started s
can_tell_begun k s none = record { status = sym (ap (λ (q : Option CallEnd). option_map status_of_end q) none); done = refl }

-- ---- What an event leaves

-- t has the works, the groups and the counts of s
abbrev pub SameRest : Core → Core → Type 0
SameRest s t = (t.works ≡ s.works) × ((t.groups ≡ s.groups) × (t.made ≡ s.made))

high_rest : (n : ℕ) (w : Why) (s : Core) → SameRest s (put_high n w s)
unfolding put_high push_high set_place on_thread
high_rest n w s = (refl, (refl, refl))

waken_rest : (b : Bool) (x n : ℕ) (s : Core) → SameRest s (waken_by b x n s)
waken_rest true x n s = high_rest n _ s
waken_rest false x n s = high_rest n _ s

joined_rest : (j : Join) (w : Option ℕ) (s : Core) → SameRest s (wake_joined j w s)
unfolding wake
joined_rest (Join.Set x) None s = (refl, (refl, refl))
joined_rest (Join.Set x) (Some n) s = waken_rest (is_callback_waiter n s) x n s
joined_rest Join.Nowhere w s = (refl, (refl, refl))
joined_rest (Join.Watched m) w s = (refl, (refl, refl))

unblocked_rest : (o : Option ℕ) (s : Core) → SameRest s (unblocked o s)
unblocked_rest None s = (refl, (refl, refl))
unblocked_rest (Some n) s = high_rest n _ s

event_rest : (k : ℕ) (e : Status) (s : Core) → SameRest s (set_event (subtask.Guest k) (Some e) s)
unfolding set_event on_call
event_rest k e s = (refl, (refl, refl))

rest_after : (s u t : Core) → SameRest s u → SameRest u t → SameRest s t
rest_after s u t p q = (q.0 ∙ p.0, (q.1.0 ∙ p.1.0, q.1.1 ∙ p.1.1))

told_rest : (k : ℕ) (e : Status) (w : Option ℕ) (s : Core) → SameRest s (published (subtask.Guest k) e w s)
unfolding published
told_rest k e w s =
    let u = set_event (subtask.Guest k) (Some e) s in
    let v = unblocked (blocked_on (subtask.Guest k) s) u in
    rest_after s u (wake_joined (join_of (subtask.Guest k) s) w v) (event_rest k e s)
    (rest_after u v (wake_joined (join_of (subtask.Guest k) s) w v) (unblocked_rest (blocked_on (subtask.Guest k) s) u) (joined_rest (join_of (subtask.Guest k) s) w v))

pub woken_rest : (may : Option ℕ → Core → Bool) (k : ℕ) (s : StateView) (r : Result (Option QualifiedThreadId) TaskError) (t : StateView) →
    Wakes may (event_set (subtask.Guest k) (event.Subtask status.Started)) s r t → SameRest s.core t.core
woken_rest may k s r t w = subst (λ (v : StateView). SameRest s.core v.core) (sym w.core) (told_rest k status.Started _ s.core)

pub woken_current : (may : Option ℕ → Core → Bool) (k : ℕ) (s : StateView) (r : Result (Option QualifiedThreadId) TaskError) (t : StateView) →
    Wakes may (event_set (subtask.Guest k) (event.Subtask status.Started)) s r t → running_of t ≡ running_of s
woken_current may k s r t w = ap running_of w.core

rest_given : (s t : Core) → SameRest s t → given t ≡ given s
rest_given s t h = let made = h.1.1 in grind (arith, made)

pub woken_given : (may : Option ℕ → Core → Bool) (k : ℕ) (s : StateView) (r : Result (Option QualifiedThreadId) TaskError) (t : StateView) →
    Wakes may (event_set (subtask.Guest k) (event.Subtask status.Started)) s r t → given t.core ≡ given s.core
woken_given may k s r t w = rest_given s.core t.core (woken_rest may k s r t w)

pub rest_asked : (s t : StateView) → t.tags.tracked ≡ s.tags.tracked → SameRest s.core t.core → IsAsked s → IsAsked t
rest_asked s t known h is = known ∙ (is ∙ sym h.1.0)

pub rest_works : (held : ℕ → Option HeldWork) (s t : Core) → SameRest s t → HoldsWorks held s → HoldsWorks held t
rest_works held s t h q = record {
  each = λ i. subst (λ (m : Records Work). HoldsAt (held i) (get m i)) (sym h.0) (q.each i);
  first = ap (λ (m : Records Work). get m 0) h.0 ∙ q.first;
}

-- ---- Going on

pub pends_outside : (x : Setting) (s : Core) (p : Turn) → p ≡ turn.Take false → PendsIn x s Unscripted p
pends_outside x s p is = subst (λ (q : Turn). PendsIn x s Unscripted q) (sym is) refl

-- where a drive is idle, an entry is to be taken next
last_ends : (ls : List Label) (o : Outcome) → last_outcome ls ≡ Some o → goes_on o ≡ false
last_ends [] o h = absurd (cc)
last_ends (l ∷ []) o h = label_ends l o h
last_ends (l ∷ m ∷ ls) o h = last_ends (m ∷ ls) o h

rests : (x : Setting) (t : State) (ls : List Label) (steps : ℕ) → outcome_of x t ls steps ≡ Some outcome.Idle → is_at_rest x t ≡ true
unfolding outcome_of
rests x t ls steps h = go (last_outcome ls) refl h
  where
    open_rests : (r used : Bool) → open_outcome r used ≡ Some outcome.Idle → r ≡ true
    open_rests true used h = refl
    open_rests false true h = absurd (cc)
    open_rests false false h = absurd (cc)

    go : (q : Option Outcome) → last_outcome ls ≡ q → or_open q x t ls steps ≡ Some outcome.Idle → is_at_rest x t ≡ true
    go None at h = open_rests (is_at_rest x t) (length ls == steps) h
    go (Some o) at h =
        let same : o ≡ outcome.Idle = cc in
        let no = subst (λ (q : Outcome). goes_on q ≡ false) same (last_ends ls o at) in
        absurd (cc)

unended : (x : Setting) (t : State) → is_at_rest x t ≡ true → is_unended_take t.turn ≡ true
unfolding is_at_rest is_stalled is_idle
unended x t h = grind (arith, h)

take_of : (p : Turn) → is_unended_take p ≡ true → p ≡ turn.Take false
take_of (turn.Take false) h = refl
take_of (turn.Take true) h = absurd (cc)
take_of turn.Main h = absurd (cc)
take_of (turn.Futures n) h = absurd (cc)
take_of (turn.Run n) h = absurd (cc)
take_of turn.Over h = absurd (cc)

pub idle_turn : (x : Setting) (s : State) (before : List Label) (t : State) (after : List Label) (steps : ℕ) (o : Outcome) → Drives x s before t after steps o → o ≡ outcome.Idle → t.turn ≡ turn.Take false
idle_turn x s before t after steps o h is =
    let idle = subst (λ (q : Outcome). Drives x s before t after steps q) is h in
    take_of t.turn (unended x t (rests x t idle.added steps idle.ends))

pub settled_take_of : (s : Core) (p : Turn) → p ≡ turn.Take false → IsSettled s p
settled_take_of s p is = subst (λ (q : Turn). IsSettled s q) (sym is) refl

-- ---- What the calls of a state ask

pub core_in_order_placed : (c : Component) (p : Turn) (s : Core) → CoreInOrder c p s → Placed s
core_in_order_placed c p s in_turn = (in_turn.order Unscripted).in_place.placed

instance_unchecked : (i : ℕ) (o : Option Set) → option_map (λ (r : Set). r.instance) o ≡ Some i → is_some o ≡ true
instance_unchecked i (Some r) e = refl
instance_unchecked i None e = absurd (cc)

pub core_in_order_joins : (c : Component) (p : Turn) (s : Core) → CoreInOrder c p s → (k : ℕ) → IsJoinThere (subtask.Guest k) s
core_in_order_joins c p s in_turn k x at = let n = (in_turn.order Unscripted).joins_named.joins (subtask.Guest k) x at in instance_unchecked n.instance (get s.sets x) n.home
