-- What the taking of an entry shows, and what a trap leaves.
use Rattle.std.proofs.Common.{refl, subst, sym}
use Rattle.std.specs.Prelude.{Bool, None, Option, Some, false, true, ℕ, ◌<◌, ◌≡◌}
use Rattle.machine_data.specs.Core.{Core}
use Rattle.machine_data.specs.Labels.{Choice, event_label, held_label, take_label}
use Rattle.machine_data.specs.Moves.{PickedEvent, PickedMember, NothingPicked, PickedTaskEvent, picked_event, may_hand_on}
use Rattle.machine_data.specs.Read.{at_handle_limit, is_explicit, task_of}
use Rattle.machine_data.specs.declared.records.Delivery.TheVariants as delivery
use Rattle.machine_data.specs.declared.records.Place.TheVariants as place
use Rattle.machine_data.specs.declared.trap.Trap.TheVariants as trap
use Rattle.machine_data.specs.declared.statuses.Given.{Given}
use Rattle.machine_data.specs.declared.statuses.Mark.{Mark}
use Rattle.machine_data.specs.Moves.{why_of}
use Rattle.ops_guests.specs.OpResult.{Implements}
use Rattle.ops_guests.specs.Running.{IsTopmost}
use Rattle.ops_guests.specs.Stays.{StaysAfter}
use Rattle.ops_guests.specs.declared.op_result.OpResult.{OpResult}
use Rattle.ops_guests.specs.declared.op_result.OpResult.TheVariants as op_result
use Rattle.machine_rules.specs.Ends.{may_tell}
use Rattle.machine_rules.specs.Outcome.{outcome_of_label}
use Rattle.machine_rules.specs.Progress.{Continues, Stops, may, or_never}
use Rattle.machine_rules.specs.Sets.{chosen, handed_out}
use Rattle.machine_rules.specs.Takes.{activated_woken, delivered, may_tell_starting, set_delivered, start_admitted, start_begins, start_holds, start_rule}
use Rattle.task_table.specs.declared.id.TableId.{TableId}
use Rattle.ops_dispatch.proofs.RuleLemmas.{ShowsAs, here, if_lawful, if_traps, shows_of}
use Rattle.ops_turns.specs.Taken.{Taken}
use Rattle.ops_turns.specs.Turn.{CanUnwind, Shows}
use Rattle.task_wait.specs.declared.keys.ThreadKey.{ThreadKey}
use Rattle.core_primitives.specs.StateView.{StateView, thread_of}

take_quiet : (m : Mark) (n : ℕ) (w : Option ℕ) → outcome_of_label (take_label m n w) ≡ None
take_quiet m n None = refl
take_quiet m n (Some k) = refl

held_quiet : (m : Mark) (n : ℕ) (w : Option ℕ) → outcome_of_label (held_label m n w) ≡ None
held_quiet m n None = refl
held_quiet m n (Some k) = refl

event_quiet : (m : Mark) (n : ℕ) (v : Given) (w : Option ℕ) → outcome_of_label (event_label m n v w) ≡ None
event_quiet m n v None = refl
event_quiet m n v (Some k) = refl

-- ---- A start

admitted_shows : (m : Mark) (n : ℕ) (w : Option ℕ) (s : Core) (b : Bool) → ShowsAs n (start_admitted m n w s b)
admitted_shows m n w s true = (refl, refl)
admitted_shows m n w s false =
    if_traps (here n) (at_handle_limit s) trap.HandleLimit (may (may_tell (task_of n s) w s) (Continues (take_label m n w) (start_begins n w s) n))
    (if_lawful (here n) (may_tell (task_of n s) w s) (Continues (take_label m n w) (start_begins n w s) n) (refl, take_quiet m n w))

start_as : (m : Mark) (n : ℕ) (w : Option ℕ) (s : Core) (b : Bool) → ShowsAs n (start_rule m n w s b)
start_as m n w s true = admitted_shows m n w s (is_explicit n s)
start_as m n w s false = if_lawful (here n) (may_tell_starting (task_of n s) w s) (Stops (held_label m n w) (start_holds n w s)) (held_quiet m n w)

pub start_shows : (m : Mark) (n : ℕ) (w : Option ℕ) (s : Core) (b : Bool) (r : OpResult) (t : Core) → Implements (start_rule m n w s b) s r t → Shows n r
start_shows m n w s b r t h = shows_of n (start_rule m n w s b) s r t (start_as m n w s b) h

-- ---- A delivery for a set

given_as : (m : Mark) (n x : ℕ) (ch : Choice) (s : Core) (g : PickedEvent) → ShowsAs n (set_delivered m n x ch s g)
given_as m n x ch s NothingPicked = refl
given_as m n x ch s (PickedTaskEvent e) = let v = handed_out ch s (PickedTaskEvent e) in
    if_lawful (here n) (may_hand_on x (PickedTaskEvent e) ch.woken s) (Continues (event_label m n v ch.woken) (activated_woken n x ch.woken (PickedTaskEvent e) v s) n) (refl, event_quiet m n v ch.woken)
given_as m n x ch s (PickedMember h) = let v = handed_out ch s (PickedMember h) in
    if_lawful (here n) (may_hand_on x (PickedMember h) ch.woken s) (Continues (event_label m n v ch.woken) (activated_woken n x ch.woken (PickedMember h) v s) n) (refl, event_quiet m n v ch.woken)

found_as : (m : Mark) (n x : ℕ) (ch : Choice) (s : Core) (o : Option PickedEvent) → ShowsAs n (or_never o (set_delivered m n x ch s))
found_as m n x ch s None = tt
found_as m n x ch s (Some g) = given_as m n x ch s g

pub delivered_shows : (m : Mark) (n x : ℕ) (ch : Choice) (s : Core) (r : OpResult) (t : Core) → Implements (delivered m n ch s (delivery.Set x)) s r t → Shows n r
delivered_shows m n x ch s r t h = shows_of n (delivered m n ch s (delivery.Set x)) s r t (found_as m n x ch s (picked_event true (task_of n s) x (chosen n ch s) s)) h

-- ---- A trap

-- the strand of a taken thread that trapped is there
topmost : (m : Mark) (n : ℕ) (s : Core) → Taken m n s → IsTopmost n s
topmost m n s q = record { place = place.Ready m (why_of n s); stand = q.stands; apart = λ p e. absurd (cc) }

pub taken_unwinds : (m : Mark) (r : OpResult) (id : TableId ThreadKey) (s t : StateView) → Taken m (thread_of s id) s.core → StaysAfter r s t → CanUnwind r (thread_of t id) t.core
taken_unwinds m (op_result.Continues l k said) id s t q e = tt
taken_unwinds m (op_result.Stops l) id s t q e = tt
taken_unwinds m (op_result.Traps why) id s t q e = subst (λ (v : StateView). (0 < thread_of v id) × IsTopmost (thread_of v id) v.core) (sym e) (q.live, topmost m (thread_of s id) s.core q)
taken_unwinds m (op_result.Fails i) id s t q e = subst (λ (v : StateView). (0 < thread_of v id) × IsTopmost (thread_of v id) v.core) (sym e) (q.live, topmost m (thread_of s id) s.core q)
