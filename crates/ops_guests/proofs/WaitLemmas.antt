-- Waits that go on.
use Rattle.std.proofs.Common.{T, ap, refl, subst, sym, ◌∙◌}
use Rattle.std.specs.Prelude.{Bool, None, Option, Some, false, if◌then◌else◌, true, unwrap_or, ℕ, ◌+◌, ◌<◌, ◌≡◌}
use Rattle.task_table.specs.declared.id.TableId.{TableId}
use Rattle.task_wait.specs.declared.keys.GuestTaskKey.{GuestTaskKey}
use Rattle.task_wait.specs.declared.keys.ThreadKey.{ThreadKey}
use Rattle.machine_data.proofs.MapLemmas.{change-field}
use Rattle.machine_data.specs.Core.{Core}
use Rattle.machine_data.specs.Labels.{choice_of, handle_given, given_task_event, wait_label}
use Rattle.machine_data.specs.Moves as moves
use Rattle.machine_data.specs.Moves.{handed_on, hands_on, is_callback_waiter, may_hand_on, put_high, wake, waken_by}
use Rattle.machine_data.specs.Read.{instance_of, task_of}
use Rattle.machine_data.specs.Write.{on_thread, push_high, set_place}
use Rattle.machine_data.specs.declared.records.Delivery.TheVariants as delivery
use Rattle.machine_data.specs.declared.records.OpProgress.TheVariants as op_progress
use Rattle.machine_data.specs.declared.records.Place.TheVariants as place
use Rattle.machine_data.specs.declared.records.Subtask.{Subtask}
use Rattle.machine_data.specs.declared.records.Thread.{Thread}
use Rattle.machine_data.specs.declared.records.Why.{Why}
use Rattle.machine_data.specs.declared.records.Why.TheVariants as why
use Rattle.machine_data.specs.declared.statuses.Given.{Given}
use Rattle.machine_data.specs.declared.statuses.Mark.TheVariants as mark
use Rattle.machine_data.specs.declared.statuses.TaskEvent.TheVariants as own
use Rattle.ops_moves.proofs.TellLemmas.{map_or_is}
use Rattle.ops_guests.proofs.PollLemmas.{chosen_is}
use Rattle.core_primitives.specs.Preferences.{preference}
use Rattle.machine_data.specs.declared.label.Label.{Label}
use Rattle.machine_rules.proofs.CalmLemmas.{wait_none}
use Rattle.machine_rules.specs.Picks.{ShowsFirst}
use Rattle.ops_guests.proofs.CalmLemmas.{loose_picks}
use Rattle.ops_guests.proofs.DoesLemmas.{PicksAs}
use Rattle.ops_guests.specs.OpResult.{Implements}
use Rattle.ops_guests.specs.Rules.{waits_from}
use Rattle.ops_guests.specs.Ended.{ended}
use Rattle.ops_guests.specs.PickedEvents.{IsNamedIn, picked_event_in, handle_in, member_in}
use Rattle.ops_guests.specs.declared.picked_events.PickedEvent.{PickedEvent}
use Rattle.ops_guests.specs.declared.picked_events.PickedEvent.TheVariants as picked_events
use Rattle.machine_rules.specs.Progress.{Continues, Progress, may, or_never}
use Rattle.machine_rules.specs.Sets.{received_woken_by, wait_goes_on_by, wait_rule}
use Rattle.machine_rules.specs.Finish.{Doer, OneEvent, finish}
use Rattle.core_primitives.specs.StateView.{StateView, Tags, call_of, on_core, thread_of}
use Rattle.ops_guests.specs.Shown.{goes_as}
use Rattle.ops_guests.specs.Steps.{label_of}
use Rattle.ops_guests.specs.declared.op_result.OpResult.{OpResult}

-- ---- A wake leaves the call and the position of each thread

task_high : (n m : ℕ) (w : Why) (s : Core) → task_of n (put_high m w s) ≡ task_of n s
unfolding put_high push_high set_place on_thread
task_high n m w s = map_or_is (λ (t : Thread). t.call) 0 _ _ (change-field (λ (t : Thread). t.call) m (λ t. record t { place = place.Ready mark.High w }) (λ t. refl) s.threads n)

task_waken : (n : ℕ) (b : Bool) (x m : ℕ) (s : Core) → task_of n (waken_by b x m s) ≡ task_of n s
task_waken n true x m s = task_high n m (why.Delivery (delivery.Set x)) s
task_waken n false x m s = task_high n m why.Resumption s

task_wake : (n x : ℕ) (w : Option ℕ) (s : Core) → task_of n (wake x w s) ≡ task_of n s
unfolding wake
task_wake n x None s = refl
task_wake n x (Some m) s = task_waken n (is_callback_waiter m s) x m s

task_handed : (n x : ℕ) (g : moves.PickedEvent) (w : Option ℕ) (s : Core) → task_of n (handed_on x g w s) ≡ task_of n s
unfolding handed_on
task_handed n x g w s = go (hands_on x g s)
  where
    go : (b : Bool) → task_of n (if b then wake x w s else s) ≡ task_of n s
    go true = task_wake n x w s
    go false = refl

module _ (n : TableId ThreadKey) (x : ℕ) (g : moves.PickedEvent) (w : Option ℕ) (s t : StateView) (e : t ≡ on_core (handed_on x g w) s) where
  pub handed_task : (k : TableId GuestTaskKey) → call_of s k ≡ task_of (thread_of s n) s.core → call_of t k ≡ task_of (thread_of t n) t.core
  handed_task k at = ap (λ (v : StateView). call_of v k) e ∙ (at ∙ (sym (task_handed (thread_of s n) x g w s.core) ∙ sym (ap (λ (v : StateView). task_of (thread_of v n) v.core) e)))

-- ---- The rule where another waiter is woken

goes_on_is : (n x : ℕ) (r : Doer) (h w : ℕ) (tags : Tags) (g : PickedEvent) (v : Given) (s : Core) → moves.picked_event (moves.waits_cancellable (task_of n s) s) (task_of n s) x (member_in tags g) s ≡ Some (picked_event_in tags g) → v ≡ moves.given_for (picked_event_in tags g) (unwrap_or (handle_in g) 0) s → may_hand_on x (picked_event_in tags g) (Some w) s ≡ true → wait_rule r n h (choice_of (wait_label n v (Some w))) s (op_progress.Waits x) ≡ Continues (wait_label n v (Some w)) (received_woken_by r n x (Some w) (picked_event_in tags g) v s) n
unfolding may_hand_on
goes_on_is n x r h w tags (picked_events.Own e) v s given is hands =
    ap (λ o. or_never o (wait_goes_on_by r n x (choice_of (wait_label n v (Some w))) s)) given
    ∙ (ap (λ b. may b (Continues (wait_label n (moves.given_for (moves.PickedTaskEvent e) 0 s) (Some w)) (received_woken_by r n x (Some w) (moves.PickedTaskEvent e) (moves.given_for (moves.PickedTaskEvent e) 0 s) s) n)) hands
    ∙ ap (λ (y : Given). Continues (wait_label n y (Some w)) (received_woken_by r n x (Some w) (moves.PickedTaskEvent e) y s) n) (sym is))
goes_on_is n x r h w tags (picked_events.Member sub k) v s given is hands = absurd (subst T (sym hands) tt)
goes_on_is n x r h w tags picked_events.Nothing v s given is hands = absurd (subst T (sym hands) tt)

-- who hands a wake on was given the task event, which the label shows
own_shown : (x w : ℕ) (tags : Tags) (g : PickedEvent) (v : Given) (s : Core) → v ≡ moves.given_for (picked_event_in tags g) (unwrap_or (handle_in g) 0) s → may_hand_on x (picked_event_in tags g) (Some w) s ≡ true → moves.given_own (given_task_event v) ≡ v
unfolding may_hand_on moves.given_for
own_shown x w tags (picked_events.Own own.None) v s is hands = ap (λ (y : Given). moves.given_own (given_task_event y)) is ∙ sym is
own_shown x w tags (picked_events.Own own.Cancelled) v s is hands = ap (λ (y : Given). moves.given_own (given_task_event y)) is ∙ sym is
own_shown x w tags (picked_events.Member sub k) v s is hands = absurd (subst T (sym hands) tt)
own_shown x w tags picked_events.Nothing v s is hands = absurd (subst T (sym hands) tt)

-- what is picked for the call is picked for the thread's task
its_picked : (x k n : ℕ) (m : Option Subtask) (b : Bool) (s : Core) (o : Option moves.PickedEvent) → k ≡ task_of n s → b ≡ moves.waits_cancellable k s → moves.picked_event b k x m s ≡ o → moves.picked_event (moves.waits_cancellable (task_of n s) s) (task_of n s) x m s ≡ o
its_picked x k n m b s o task may given =
    ap (λ (j : ℕ). moves.picked_event (moves.waits_cancellable j s) j x m s) (sym task) ∙ (ap (λ (c : Bool). moves.picked_event c k x m s) (sym may) ∙ given)

pub goes_on_implements : (n : TableId ThreadKey) (x : ℕ) (r : Doer) (b : Bool) (k : TableId GuestTaskKey) (m w o : ℕ) (op_result : OpResult) (g : PickedEvent) (v : Given) (s t u : StateView) → op_result ≡ goes_as (wait_label m v (Some o)) m → call_of s k ≡ task_of (thread_of s n) s.core → m ≡ thread_of s n → o ≡ w → b ≡ moves.waits_cancellable (call_of s k) s.core → moves.picked_event b (call_of s k) x (member_in s.tags g) s.core ≡ Some (picked_event_in s.tags g) → v ≡ moves.given_for (picked_event_in s.tags g) (unwrap_or (handle_in g) 0) s.core → may_hand_on x (picked_event_in s.tags g) (Some w) s.core ≡ true → t ≡ on_core (handed_on x (picked_event_in s.tags g) (Some w)) s → u ≡ on_core (moves.taken (picked_event_in t.tags g) (call_of t k)) t → (h : ℕ) → Implements (wait_rule r (thread_of s n) h (choice_of (label_of (thread_of s n) op_result)) s.core (op_progress.Waits x)) s.core op_result (ended r (thread_of s n) op_result u.core)
goes_on_implements n x r b k m w o op_result g v s t u shown task number woken may given is hands e d h =
    let N = thread_of s n in
    let row = goes_on_is N x r h w s.tags g v s.core (its_picked x (call_of s k) N (member_in s.tags g) b s.core (Some (picked_event_in s.tags g)) task may given) is hands in
    let handed = handed_on x (picked_event_in s.tags g) (Some w) s.core in
    let its = task ∙ sym (task_handed N x (picked_event_in s.tags g) (Some w) s.core) in
    let taken = ap (λ (y : StateView). y.core) d ∙ (ap (λ (y : StateView). moves.taken (picked_event_in y.tags g) (call_of y k) y.core) e ∙ ap (λ (j : ℕ). moves.taken (picked_event_in s.tags g) j handed) its) in
    let core = ap (λ (y : Given). finish r N (OneEvent y) u.core) (own_shown x w s.tags g v s.core is hands) ∙ ap (λ (c : Core). finish r N (OneEvent v) c) taken in
    subst (λ (y : OpResult). Implements (wait_rule r N h (choice_of (label_of N y)) s.core (op_progress.Waits x)) s.core y (ended r N y u.core)) (sym shown)
    (subst (λ (j : ℕ). Implements (wait_rule r N h (choice_of (wait_label j v (Some o))) s.core (op_progress.Waits x)) s.core (goes_as (wait_label j v (Some o)) j) (ended r N (goes_as (wait_label j v (Some o)) j) u.core)) (sym number)
    (subst (λ (j : ℕ). Implements (wait_rule r N h (choice_of (wait_label N v (Some j))) s.core (op_progress.Waits x)) s.core (goes_as (wait_label N v (Some j)) N) (ended r N (goes_as (wait_label N v (Some j)) N) u.core)) (sym woken)
    (subst (λ (p : Progress). Implements p s.core (goes_as (wait_label N v (Some w)) N) (ended r N (goes_as (wait_label N v (Some w)) N) u.core)) (sym row) (refl, core))))

-- ---- The rule where none is woken

answered_is : (n x : ℕ) (r : Doer) (f : moves.PickedEvent) (v : Given) (o : Option ℕ) (s : Core) → handle_given v ≡ o → v ≡ moves.given_for f (unwrap_or o 0) s → may_hand_on x f None s ≡ true → may (may_hand_on x f None s) (Continues (wait_label n (moves.given_for f (unwrap_or (handle_given v) 0) s) None) (received_woken_by r n x None f (moves.given_for f (unwrap_or (handle_given v) 0) s) s) n) ≡ Continues (wait_label n v None) (received_woken_by r n x None f v s) n
answered_is n x r f v o s member is hands =
    ap (λ b. may b (Continues (wait_label n (moves.given_for f (unwrap_or (handle_given v) 0) s) None) (received_woken_by r n x None f (moves.given_for f (unwrap_or (handle_given v) 0) s) s) n)) hands
    ∙ ap (λ (y : Given). Continues (wait_label n y None) (received_woken_by r n x None f y s) n) (ap (λ (a : Option ℕ). moves.given_for f (unwrap_or a 0) s) member ∙ sym is)

takes_picked_event : (n x : ℕ) (r : Doer) (tags : Tags) (g : PickedEvent) (v : Given) (s : Core) → (g ≡ picked_events.Nothing → ⊥) → handle_given v ≡ handle_in g → v ≡ moves.given_for (picked_event_in tags g) (unwrap_or (handle_in g) 0) s → may_hand_on x (picked_event_in tags g) None s ≡ true → wait_goes_on_by r n x (choice_of (wait_label n v None)) s (picked_event_in tags g) ≡ Continues (wait_label n v None) (received_woken_by r n x None (picked_event_in tags g) v s) n
takes_picked_event n x r tags (picked_events.Own e) v s some member is hands = answered_is n x r (picked_event_in tags (picked_events.Own e)) v None s member is hands
takes_picked_event n x r tags (picked_events.Member sub k) v s some member is hands = answered_is n x r (picked_event_in tags (picked_events.Member sub k)) v (Some k) s member is hands
takes_picked_event n x r tags picked_events.Nothing v s some member is hands = absurd (some refl)

takes_is : (n x : ℕ) (r : Doer) (h : ℕ) (tags : Tags) (g : PickedEvent) (v : Given) (s : Core) → (g ≡ picked_events.Nothing → ⊥) → IsNamedIn (instance_of n s) tags g s → moves.picked_event (moves.waits_cancellable (task_of n s) s) (task_of n s) x (member_in tags g) s ≡ Some (picked_event_in tags g) → handle_given v ≡ handle_in g → v ≡ moves.given_for (picked_event_in tags g) (unwrap_or (handle_in g) 0) s → may_hand_on x (picked_event_in tags g) None s ≡ true → wait_rule r n h (choice_of (wait_label n v None)) s (op_progress.Waits x) ≡ Continues (wait_label n v None) (received_woken_by r n x None (picked_event_in tags g) v s) n
takes_is n x r h tags g v s some named given member is hands =
    ap (λ o. or_never (moves.picked_event (moves.waits_cancellable (task_of n s) s) (task_of n s) x o s) (wait_goes_on_by r n x (choice_of (wait_label n v None)) s)) (chosen_is n tags g (choice_of (wait_label n v None)) s named member)
    ∙ (ap (λ o. or_never o (wait_goes_on_by r n x (choice_of (wait_label n v None)) s)) given
    ∙ takes_picked_event n x r tags g v s some member is hands)

pub takes_implements : (n : TableId ThreadKey) (x : ℕ) (r : Doer) (b : Bool) (k : TableId GuestTaskKey) (i m : ℕ) (op_result : OpResult) (g : PickedEvent) (v : Given) (s t u : StateView) → (g ≡ picked_events.Nothing → ⊥) → op_result ≡ goes_as (wait_label m v None) m → i ≡ instance_of (thread_of s n) s.core → IsNamedIn i s.tags g s.core → handle_given v ≡ handle_in g → call_of s k ≡ task_of (thread_of s n) s.core → m ≡ thread_of s n → b ≡ moves.waits_cancellable (call_of s k) s.core → moves.picked_event b (call_of s k) x (member_in s.tags g) s.core ≡ Some (picked_event_in s.tags g) → v ≡ moves.given_for (picked_event_in s.tags g) (unwrap_or (handle_in g) 0) s.core → may_hand_on x (picked_event_in s.tags g) None s.core ≡ true → t ≡ on_core (handed_on x (picked_event_in s.tags g) None) s → u ≡ on_core (moves.taken (picked_event_in t.tags g) (call_of t k)) t → (h : ℕ) → Implements (wait_rule r (thread_of s n) h (choice_of (label_of (thread_of s n) op_result)) s.core (op_progress.Waits x)) s.core op_result (ended r (thread_of s n) op_result u.core)
takes_implements n x r b k i m op_result g v s t u some shown at named member task number may given is hands e d h =
    let N = thread_of s n in
    let row = takes_is N x r h s.tags g v s.core some (subst (λ (j : ℕ). IsNamedIn j s.tags g s.core) at named) (its_picked x (call_of s k) N (member_in s.tags g) b s.core (Some (picked_event_in s.tags g)) task may given) member is hands in
    let handed = handed_on x (picked_event_in s.tags g) None s.core in
    let its = task ∙ sym (task_handed N x (picked_event_in s.tags g) None s.core) in
    let taken = ap (λ (y : StateView). y.core) d ∙ (ap (λ (y : StateView). moves.taken (picked_event_in y.tags g) (call_of y k) y.core) e ∙ ap (λ (j : ℕ). moves.taken (picked_event_in s.tags g) j handed) its) in
    let core = ap (λ (c : Core). finish r N (OneEvent v) c) taken in
    subst (λ (y : OpResult). Implements (wait_rule r N h (choice_of (label_of N y)) s.core (op_progress.Waits x)) s.core y (ended r N y u.core)) (sym shown)
    (subst (λ (j : ℕ). Implements (wait_rule r N h (choice_of (wait_label j v None)) s.core (op_progress.Waits x)) s.core (goes_as (wait_label j v None) j) (ended r N (goes_as (wait_label j v None) j) u.core)) (sym number)
    (subst (λ (p : Progress). Implements p s.core (goes_as (wait_label N v None) N) (ended r N (goes_as (wait_label N v None) N) u.core)) (sym row) (refl, core)))

-- ---- What it picks

-- a wait that was resumed and shows this
pub waits_picks : (id : TableId ThreadKey) (x : ℕ) (s : StateView) (m : ℕ) (t : StateView) (r : OpResult) (l : Label) → r ≡ goes_as l m → ShowsFirst (preference s) s.core l
    → ((d : Doer) → Implements (wait_rule d (thread_of s id) 0 (choice_of (label_of (thread_of s id) r)) s.core (op_progress.Waits x)) s.core r (ended d (thread_of s id) r t.core))
    → PicksAs (waits_from (op_progress.Waits x) 0) id s r t
waits_picks id x s m t r l is shows meets =
    let n = thread_of s id in
    let shown = subst (λ (q : OpResult). ShowsFirst (preference s) s.core (label_of n q)) (sym is) shows in
    λ d. loose_picks (preference s) _ (label_of n r) s.core r (ended d n r t.core) (wait_none d n s.core 0 (choice_of (label_of n r)) (op_progress.Waits x)) shown (meets d)
