-- Deliveries that are taken.
use Rattle.std.proofs.Common.{T, ap, ap₂, arith, refl, subst, sym, ◌∙◌}
use Rattle.std.proofs.lemmas.Bool.Decides.{nat_tests}
use Rattle.std.specs.Option.{option_map_or}
use Rattle.std.specs.Prelude.{Bool, None, Option, Some, false, true, unwrap_or, ℕ, ◌≡◌}
use Rattle.task_table.specs.declared.id.TableId.{TableId}
use Rattle.task_wait.specs.declared.keys.ThreadKey.{ThreadKey}
use Rattle.machine_data.proofs.CommuteLemmas.{get-change}
use Rattle.machine_data.specs.Core.{Core}
use Rattle.machine_data.specs.Labels.{Choice, choice_of, event_label}
use Rattle.machine_data.specs.Moves as moves
use Rattle.machine_data.specs.Moves.{handed_on, may_hand_on, ready_why, stopped, why_of}
use Rattle.machine_data.specs.Read.{foot_of, task_of}
use Rattle.machine_data.specs.Write.{arrive, on_thread, set_place}
use Rattle.machine_data.specs.declared.records.Delivery.TheVariants as delivery
use Rattle.machine_data.specs.declared.records.Place.{Place}
use Rattle.machine_data.specs.declared.records.Place.TheVariants as place
use Rattle.machine_data.specs.declared.records.Why.{Why}
use Rattle.machine_data.specs.declared.records.Why.TheVariants as why
use Rattle.machine_data.specs.declared.statuses.Given.{Given}
use Rattle.machine_data.specs.declared.statuses.Mark.{Mark}
use Rattle.machine_rules.specs.Picks.{ReleasesNone}
use Rattle.machine_rules.specs.Sets.{chosen}
use Rattle.ops_guests.specs.OpResult.{Implements}
use Rattle.ops_guests.specs.PickedEvents.{picked_event_in, handle_in, member_in}
use Rattle.ops_guests.specs.Running.{IsTaken}
use Rattle.ops_guests.specs.declared.picked_events.PickedEvent.{PickedEvent}
use Rattle.ops_guests.specs.declared.picked_events.PickedEvent.TheVariants as picked_events
use Rattle.ops_guests.proofs.BesideLemmas.{stopped_stand}
use Rattle.machine_rules.specs.Progress.{Continues, Progress, may, or_never}
use Rattle.machine_rules.specs.Takes.{activated, activated_woken, delivered, own_delivered, set_delivered, take_holds}
use Rattle.core_primitives.specs.StateView.{StateView, Tags, on_core, thread_of, with_core}
use Rattle.ops_guests.specs.Shown.{goes_as}
use Rattle.ops_guests.specs.Steps.{label_of}
use Rattle.ops_guests.specs.declared.op_result.OpResult.{OpResult}

why_kept : (n f : ℕ) (w : Why) (s : Core) → IsTaken n w s → why_of n (stopped f s) ≡ why_of n s
why_kept n f w s taken = ap (λ (o : Option Place). option_map_or ready_why o why.Resumption) ((stopped_stand n (place.Ready taken.0 w) f s taken.1).here ∙ sym taken.1.here)

arrived_why : (n m : ℕ) (s : Core) → why_of n (arrive m s) ≡ why_of n s
unfolding arrive on_thread
arrived_why n m s = grind (arith, nat_tests, get-change)

abbrev held_at : TableId ThreadKey → StateView → StateView
held_at n y = on_core (λ c. set_place (thread_of y n) (place.Held (why_of (thread_of y n) c)) c) y

pub held_is : (n f : TableId ThreadKey) (w : Why) (s t a u : StateView) → IsTaken (thread_of s n) w s.core → thread_of s f ≡ foot_of (thread_of s n) s.core
    → t ≡ on_core (stopped (thread_of s f)) s → a ≡ on_core (arrive (thread_of t n)) t
    → u ≡ on_core (λ c. set_place (thread_of a n) (place.Held (why_of (thread_of a n) c)) c) a → u ≡ on_core (take_holds (thread_of s n) (why_of (thread_of s n) s.core)) s
unfolding take_holds
held_is n f w s t a u taken foot e came d =
    let N = thread_of s n in
    let c = stopped (thread_of s f) s.core in
    d ∙ (ap (held_at n) came
    ∙ (ap (λ (y : StateView). held_at n (on_core (arrive (thread_of y n)) y)) e
    ∙ (ap (λ (v : Why). with_core (set_place N (place.Held v) (arrive N c)) s) (arrived_why N N c ∙ why_kept N (thread_of s f) w s.core taken)
    ∙ ap (λ (g : ℕ). with_core (set_place N (place.Held (why_of N s.core)) (arrive N (stopped g s.core))) s) foot)))

pub own_implements : (n : TableId ThreadKey) (m : Mark) (k j : ℕ) (r : OpResult) (g : PickedEvent) (v : Given) (s t : StateView) → k ≡ task_of (thread_of s n) s.core → j ≡ thread_of s n → picked_event_in s.tags g ≡ moves.picked_task_event_only k s.core → handle_in g ≡ None → v ≡ moves.given_for (picked_event_in s.tags g) (unwrap_or (handle_in g) 0) s.core → r ≡ goes_as (event_label m j v None) j → t ≡ on_core (activated (thread_of s n) (picked_event_in s.tags g) v) s → Implements (own_delivered m (thread_of s n) s.core (moves.picked_task_event_only (task_of (thread_of s n) s.core) s.core)) s.core r t.core
own_implements n m k j r g v s t task number own none is shown e =
    let N = thread_of s n in
    let G = moves.picked_task_event_only (task_of N s.core) s.core in
    let picked_event_is = own ∙ ap (λ (q : ℕ). moves.picked_task_event_only q s.core) task in
    let given = is ∙ (ap (λ (o : Option ℕ). moves.given_for (picked_event_in s.tags g) (unwrap_or o 0) s.core) none ∙ ap (λ (y : moves.PickedEvent). moves.given_for y 0 s.core) picked_event_is) in (
      shown ∙ ap₂ (λ (q : ℕ) (y : Given). goes_as (event_label m q y None) q) number given,
      ap (λ (y : StateView). y.core) e ∙ ap₂ (λ (y : moves.PickedEvent) (z : Given). activated N y z s.core) picked_event_is given,
    )

-- ---- A delivery for a set that wakes another waiter

delivered_is : (m : Mark) (n x w : ℕ) (tags : Tags) (g : PickedEvent) (v : Given) (s : Core) → moves.picked_event true (task_of n s) x (member_in tags g) s ≡ Some (picked_event_in tags g) → v ≡ moves.given_for (picked_event_in tags g) (unwrap_or (handle_in g) 0) s → may_hand_on x (picked_event_in tags g) (Some w) s ≡ true → delivered m n (choice_of (event_label m n v (Some w))) s (delivery.Set x) ≡ Continues (event_label m n v (Some w)) (activated_woken n x (Some w) (picked_event_in tags g) v s) n
unfolding may_hand_on
delivered_is m n x w tags (picked_events.Own e) v s given is hands =
    ap (λ o. or_never o (set_delivered m n x (choice_of (event_label m n v (Some w))) s)) given
    ∙ (ap (λ b. may b (Continues (event_label m n (moves.given_for (moves.PickedTaskEvent e) 0 s) (Some w)) (activated_woken n x (Some w) (moves.PickedTaskEvent e) (moves.given_for (moves.PickedTaskEvent e) 0 s) s) n)) hands
    ∙ ap (λ (y : Given). Continues (event_label m n y (Some w)) (activated_woken n x (Some w) (moves.PickedTaskEvent e) y s) n) (sym is))
delivered_is m n x w tags (picked_events.Member sub k) v s given is hands = absurd (subst T (sym hands) tt)
delivered_is m n x w tags picked_events.Nothing v s given is hands = absurd (subst T (sym hands) tt)

pub set_implements : (n : TableId ThreadKey) (m : Mark) (x k j w o : ℕ) (r : OpResult) (g : PickedEvent) (v : Given) (s t u : StateView) → r ≡ goes_as (event_label m j v (Some o)) j → k ≡ task_of (thread_of s n) s.core → j ≡ thread_of s n → o ≡ w → moves.picked_event true k x (member_in s.tags g) s.core ≡ Some (picked_event_in s.tags g) → v ≡ moves.given_for (picked_event_in s.tags g) (unwrap_or (handle_in g) 0) s.core → may_hand_on x (picked_event_in s.tags g) (Some w) s.core ≡ true → t ≡ on_core (handed_on x (picked_event_in s.tags g) (Some w)) s → u ≡ on_core (activated (thread_of t n) (picked_event_in t.tags g) v) t → Implements (delivered m (thread_of s n) (choice_of (label_of (thread_of s n) r)) s.core (delivery.Set x)) s.core r u.core
unfolding activated_woken
set_implements n m x k j w o r g v s t u shown task number woken given is hands e d =
    let N = thread_of s n in
    let row = delivered_is m N x w s.tags g v s.core (ap (λ (q : ℕ). moves.picked_event true q x (member_in s.tags g) s.core) (sym task) ∙ given) is hands in
    let core = ap (λ (y : StateView). y.core) d ∙ ap (λ (y : StateView). activated (thread_of y n) (picked_event_in y.tags g) v y.core) e in
    subst (λ (y : OpResult). Implements (delivered m N (choice_of (label_of N y)) s.core (delivery.Set x)) s.core y u.core) (sym shown)
    (subst (λ (q : ℕ). Implements (delivered m N (choice_of (event_label m q v (Some o))) s.core (delivery.Set x)) s.core (goes_as (event_label m q v (Some o)) q) u.core) (sym number)
    (subst (λ (q : ℕ). Implements (delivered m N (choice_of (event_label m N v (Some q))) s.core (delivery.Set x)) s.core (goes_as (event_label m N v (Some q)) N) u.core) (sym woken)
    (subst (λ (p : Progress). Implements p s.core (goes_as (event_label m N v (Some w)) N) u.core) (sym row) (refl, core))))

-- ---- A delivery for a set releases no thread

may_none : (b : Bool) (p : Progress) → ReleasesNone p → ReleasesNone (may b p)
may_none true p none = none
may_none false p none = tt

pub delivered_none : (m : Mark) (n x : ℕ) (ch : Choice) (s : Core) → ReleasesNone (delivered m n ch s (delivery.Set x))
delivered_none m n x ch s = by (moves.picked_event true (task_of n s) x (chosen n ch s) s)
  where
    by : (o : Option moves.PickedEvent) → ReleasesNone (or_never o (set_delivered m n x ch s))
    by None = tt
    by (Some (moves.PickedTaskEvent e)) = may_none (may_hand_on x (moves.PickedTaskEvent e) ch.woken s) _ tt
    by (Some (moves.PickedMember sub)) = may_none (may_hand_on x (moves.PickedMember sub) ch.woken s) _ tt
    by (Some moves.NothingPicked) = tt
