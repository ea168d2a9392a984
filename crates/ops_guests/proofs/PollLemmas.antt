-- What a poll results in.
use Rattle.std.proofs.Common.{ap, subst, sym, ◌∙◌}
use Rattle.std.specs.Prelude.{Some, false, option_and_then, unwrap_or, ℕ, ◌≡◌}
use Rattle.task_table.specs.declared.id.TableId.{TableId}
use Rattle.task_wait.specs.declared.keys.SetKey.{SetKey}
use Rattle.task_wait.specs.declared.keys.ThreadKey.{ThreadKey}
use Rattle.machine_data.specs.Core.{Core}
use Rattle.machine_data.specs.Labels.{Choice, choice_of, handle_given}
use Rattle.machine_data.specs.Moves as moves
use Rattle.machine_data.specs.Read.{instance_of, set_at, subtask_at, task_of}
use Rattle.machine_data.specs.declared.label.Label.TheVariants as label
use Rattle.machine_data.specs.declared.label.SetLabel.TheVariants as set_label
use Rattle.machine_data.specs.declared.trap.Trap.TheVariants as trap
use Rattle.machine_data.specs.declared.statuses.Given.{Given}
use Rattle.ops_guests.specs.OpResult.{Implements}
use Rattle.ops_guests.specs.PickedEvents.{AllMembersNamed, IsNamedIn, MembersNamed, picked_event_in, handle_in, member_in}
use Rattle.ops_guests.specs.declared.picked_events.PickedEvent.{PickedEvent}
use Rattle.ops_guests.specs.declared.picked_events.PickedEvent.TheVariants as picked_events
use Rattle.machine_rules.specs.Progress.{Continues, Progress, or_never, or_trap}
use Rattle.machine_rules.specs.Finish.{Doer, OneEvent, finish}
use Rattle.machine_rules.specs.Sets.{chosen, poll_rule, poll_takes_by, received_by}
use Rattle.core_primitives.specs.StateView.{StateView, Tags, on_core, set_of, thread_of}
use Rattle.ops_guests.specs.Shown.{goes_as}

-- ---- What was chosen

pub chosen_is : (n : ℕ) (tags : Tags) (g : PickedEvent) (ch : Choice) (s : Core) → IsNamedIn (instance_of n s) tags g s → ch.member ≡ handle_in g → chosen n ch s ≡ member_in tags g
chosen_is n tags (picked_events.Own e) ch s named is = ap (option_and_then (λ h. subtask_at (instance_of n s) h s)) is
chosen_is n tags (picked_events.Member sub h) ch s named is = ap (option_and_then (λ h. subtask_at (instance_of n s) h s)) is ∙ named
chosen_is n tags picked_events.Nothing ch s named is = ap (option_and_then (λ h. subtask_at (instance_of n s) h s)) is

poll_is : (n : ℕ) (r : Doer) (h x : ℕ) (tags : Tags) (g : PickedEvent) (v : Given) (ch : Choice) (s : Core) → set_at (instance_of n s) h s ≡ Some x → IsNamedIn (instance_of n s) tags g s → moves.picked_event false (task_of n s) x (member_in tags g) s ≡ Some (picked_event_in tags g) → ch.member ≡ handle_in g → v ≡ moves.given_for (picked_event_in tags g) (unwrap_or (handle_in g) 0) s → poll_rule r n h ch s ≡ Continues (label.Set (set_label.Poll v n)) (received_by r n (picked_event_in tags g) v s) n
poll_is n r h x tags g v ch s at named given member is =
    ap (λ o. or_trap o trap.BadHandle (λ y. or_never (moves.picked_event false (task_of n s) y (chosen n ch s) s) (poll_takes_by r n ch s))) at
    ∙ (ap (λ o. or_never (moves.picked_event false (task_of n s) x o s) (poll_takes_by r n ch s)) (chosen_is n tags g ch s named member)
    ∙ (ap (λ o. or_never o (poll_takes_by r n ch s)) given
    ∙ ap (λ (w : Given). Continues (label.Set (set_label.Poll w n)) (received_by r n (picked_event_in tags g) w s) n) (ap (λ o. moves.given_for (picked_event_in tags g) (unwrap_or o 0) s) member ∙ sym is)))

pub poll_implements : (n : TableId ThreadKey) (id : TableId SetKey) (r : Doer) (h i k m : ℕ) (g : PickedEvent) (v : Given) (s t : StateView) → i ≡ instance_of (thread_of s n) s.core → k ≡ task_of (thread_of s n) s.core → m ≡ thread_of s n → Some (set_of s id) ≡ set_at i h s.core → IsNamedIn i s.tags g s.core → moves.picked_event false k (set_of s id) (member_in s.tags g) s.core ≡ Some (picked_event_in s.tags g) → handle_given v ≡ handle_in g → v ≡ moves.given_for (picked_event_in s.tags g) (unwrap_or (handle_in g) 0) s.core → t ≡ on_core (moves.taken (picked_event_in s.tags g) k) s → Implements (poll_rule r (thread_of s n) h (choice_of (label.Set (set_label.Poll v m))) s.core) s.core (goes_as (label.Set (set_label.Poll v m)) m) (finish r (thread_of s n) (OneEvent v) t.core)
poll_implements n id r h i k m g v s t at task is names named given member out e =
    let N = thread_of s n in
    subst (λ (p : Progress). Implements p s.core (goes_as (label.Set (set_label.Poll v m)) m) (finish r N (OneEvent v) t.core))
    (sym (poll_is N r h (set_of s id) s.tags g v (choice_of (label.Set (set_label.Poll v m))) s.core (sym (names ∙ ap (λ (j : ℕ). set_at j h s.core) at)) (subst (λ (j : ℕ). IsNamedIn j s.tags g s.core) at named) (ap (λ (j : ℕ). moves.picked_event false j (set_of s id) (member_in s.tags g) s.core) (sym task) ∙ given) member out)) (
      ap (λ (j : ℕ). goes_as (label.Set (set_label.Poll v j)) j) is,
      ap (λ (y : StateView). finish r N (OneEvent v) y.core) e ∙ ap (λ (j : ℕ). finish r N (OneEvent v) (moves.taken (picked_event_in s.tags g) j s.core)) task,
    )

-- the members of the set that was named are named
pub members_named : (i j h x : ℕ) (s : Core) → AllMembersNamed i s → j ≡ i → Some x ≡ set_at j h s → MembersNamed j x s
members_named i j h x s all same at = subst (λ (q : ℕ). MembersNamed q x s) (sym same) (all h x (sym (at ∙ ap (λ (q : ℕ). set_at q h s) same)))
