-- What is published, step by step.
use Rattle.std.proofs.Common.{T, ap, arith, cond, refl, subst, sym, ◌∙◌}
use Rattle.std.specs.Option.{option_map_or}
use Rattle.std.specs.Prelude.{IfSome, None, Option, Some, false, is_some, option_map, true, ℕ, ◌<◌, ◌==◌, ◌≡◌}
use Rattle.task_table.specs.declared.id.TableId.{TableId}
use Rattle.task_wait.specs.declared.keys.ThreadKey.{ThreadKey}
use Rattle.machine_data.specs.Core.{Core}
use Rattle.machine_data.specs.Maps.{get, numbers}
use Rattle.machine_data.specs.Moves.{published, put_high, unblocked, wake_joined}
use Rattle.machine_data.specs.Read.{blocked_on, is_at, is_blocked_on, is_waiter, is_waiting_on, join_of, place_of}
use Rattle.machine_data.specs.Write.{on_call, on_thread, on_work, push_high, set_event, set_place}
use Rattle.machine_data.specs.declared.records.Entry.TheVariants as entry
use Rattle.machine_data.specs.declared.records.Join.{Join}
use Rattle.machine_data.specs.declared.records.Join.TheVariants as join
use Rattle.machine_data.specs.declared.records.Place.{Place}
use Rattle.machine_data.specs.declared.records.Place.TheVariants as place
use Rattle.machine_data.specs.declared.records.Subtask.{Subtask}
use Rattle.machine_data.specs.declared.records.Subtask.TheVariants as subtask
use Rattle.machine_data.specs.declared.records.Why.{Why}
use Rattle.machine_data.specs.declared.records.Why.TheVariants as why
use Rattle.machine_data.specs.declared.statuses.Status.{Status}
use Rattle.ops_moves.specs.Idle.{AreIdleUnqueued, IsJoinThere, IsWaiting, number_of}
use Rattle.machine_rules.proofs.StandLemmas.{by_number, entries-append}
use Rattle.machine_rules.proofs.StopLemmas.{find_passes}
use Rattle.machine_rules.specs.Places.{one_if}
use Rattle.core_primitives.specs.Apart.{IsBlockedUnqueued, IsUnqueued}
use Rattle.core_primitives.specs.Live.{live_join}
use Rattle.core_primitives.specs.Names.{join_in, number_in, subtask_in}
use Rattle.core_primitives.specs.StateView.{StateView, Tags, on_core, thread_of, with_core}
use Rattle.core_primitives.specs.declared.names.JoinId.{JoinId}
use Rattle.core_primitives.specs.declared.names.SubtaskId.{SubtaskId}
use Rattle.core_primitives.specs.declared.names.SubtaskId.TheVariants as subtask_id

-- ---- The event

-- who is blocked on a subtask is at such a place
blocked_at : (sub : Subtask) (n : ℕ) (s : Core) → blocked_on sub s ≡ Some n → is_at n s (is_blocked_on sub) ≡ true
unfolding blocked_on
blocked_at sub n s at = find_passes (λ k. is_at k s (is_blocked_on sub)) (numbers s.threads) n at

blocked_event : (sub q : Subtask) (e : Option Status) (s : Core) → blocked_on sub (set_event q e s) ≡ blocked_on sub s
unfolding blocked_on set_event on_call on_work
blocked_event sub (subtask.Guest k) e s = refl
blocked_event sub (subtask.Host i) e s = refl

unqueued_event : (n : ℕ) (q : Subtask) (e : Option Status) (s : Core) → IsUnqueued n s → IsUnqueued n (set_event q e s)
unfolding set_event on_call on_work
unqueued_event n (subtask.Guest k) e s out = record { high = out.high; low = out.low }
unqueued_event n (subtask.Host i) e s out = record { high = out.high; low = out.low }

pub event_unqueued : (sub : SubtaskId) (e : Option Status) (s t : StateView) → AreIdleUnqueued s.core → t ≡ on_core (set_event (subtask_in s.tags sub) e) s → IsBlockedUnqueued (subtask_in t.tags sub) t.core
event_unqueued sub e s t idle d =
    let q = subtask_in s.tags sub in
    subst (λ (v : StateView). IsBlockedUnqueued (subtask_in v.tags sub) v.core) (sym d) (λ n at. unqueued_event n q e s.core (idle.blocked q n (blocked_at q n s.core (sym (blocked_event q q e s.core) ∙ at))))

-- ---- The waiter that was chosen

not_both : (x : ℕ) (sub : Subtask) (p : Place) → is_waiting_on x p ≡ true → is_blocked_on sub p ≡ true → ⊥
not_both x sub (place.Waiting y c) a b = subst T (sym b) tt
not_both x sub place.New a b = subst T (sym a) tt
not_both x sub (place.Ready m w) a b = subst T (sym a) tt
not_both x sub place.Running a b = subst T (sym a) tt
not_both x sub (place.Under m) a b = subst T (sym a) tt
not_both x sub (place.Behind m) a b = subst T (sym a) tt
not_both x sub (place.Blocked on) a b = subst T (sym a) tt
not_both x sub (place.Held w) a b = subst T (sym a) tt
not_both x sub place.Suspended a b = subst T (sym a) tt

not_both_at : (x : ℕ) (sub : Subtask) (o : Option Place) → option_map_or (is_waiting_on x) o false ≡ true → option_map_or (is_blocked_on sub) o false ≡ true → ⊥
not_both_at x sub None a b = subst T (sym a) tt
not_both_at x sub (Some p) a b = not_both x sub p a b

waiter_apart : (x n m : ℕ) (sub : Subtask) (s : Core) → is_waiter x n s ≡ true → blocked_on sub s ≡ Some m → (n == m) ≡ false
waiter_apart x n m sub s waits at =
    by_number n m ((n == m) ≡ false) (λ e. absurd (not_both_at x sub (place_of m s) (subst (λ (k : ℕ). is_waiter x k s ≡ true) e waits) (blocked_at sub m s at))) (λ e. e)

still_unqueued : (n m : ℕ) (w : Why) (s : Core) → (n == m) ≡ false → IsUnqueued n s → IsUnqueued n (put_high m w s)
unfolding put_high push_high set_place on_thread
still_unqueued n m w s other out =
    let x = entries-append n s.queues.high (entry.Thread m) in
    let y = out.high in
    let z = ap one_if other in
    record { high = omega (arith, x, y, z); low = out.low }

waiter_unblocked : (x n : ℕ) (sub : Subtask) (s t : Core) (o : Option ℕ) → blocked_on sub s ≡ o → is_waiter x n s ≡ true → IsUnqueued n t → IsUnqueued n (unblocked o t)
waiter_unblocked x n sub s t None at waits out = out
waiter_unblocked x n sub s t (Some m) at waits out = still_unqueued n m why.Resumption t (waiter_apart x n m sub s waits at) out

chosen_unqueued : (n : ℕ) (sub : Subtask) (e : Option Status) (s : Core) → AreIdleUnqueued s → IsWaiting n s → IsUnqueued n (unblocked (blocked_on sub (set_event sub e s)) (set_event sub e s))
chosen_unqueued n sub e s idle waits = waiter_unblocked waits.0 n sub s (set_event sub e s) (blocked_on sub (set_event sub e s)) (sym (blocked_event sub sub e s)) waits.1 (unqueued_event n sub e s (idle.waiters waits.0 n waits.1))

-- the state after the event and the unblocking
after_is : (sub : SubtaskId) (e : Option Status) (s t u : StateView) → t ≡ on_core (set_event (subtask_in s.tags sub) e) s → u ≡ on_core (unblocked (blocked_on (subtask_in t.tags sub) t.core)) t → u ≡ on_core (λ c. unblocked (blocked_on (subtask_in s.tags sub) (set_event (subtask_in s.tags sub) e c)) (set_event (subtask_in s.tags sub) e c)) s
after_is sub e s t u a b = rw (b, a) refl

pub waiter_unqueued : (sub : SubtaskId) (e : Option Status) (waiter : Option (TableId ThreadKey)) (s t u : StateView) → AreIdleUnqueued s.core → IfSome waiter (λ id. IsWaiting (thread_of s id) s.core) → t ≡ on_core (set_event (subtask_in s.tags sub) e) s → u ≡ on_core (unblocked (blocked_on (subtask_in t.tags sub) t.core)) t → IfSome waiter (λ id. IsUnqueued (thread_of u id) u.core)
waiter_unqueued sub e None s t u idle waits a b = tt
waiter_unqueued sub e (Some id) s t u idle waits a b = subst (λ (v : StateView). IsUnqueued (thread_of v id) v.core) (sym (after_is sub e s t u a b)) (chosen_unqueued (thread_of s id) (subtask_in s.tags sub) e s.core idle waits)

-- ---- All of it

wake_live : (j : Join) (w : Option ℕ) (s t : Core) → ((x : ℕ) → j ≡ join.Set x → is_some (get s.sets x) ≡ true) → wake_joined (live_join j s) w t ≡ wake_joined j w t
wake_live (join.Set x) w s t there = ap (λ b. wake_joined (join.Set (cond b x 0)) w t) (there x refl)
wake_live join.Nowhere w s t there = refl
wake_live (join.Watched n) w s t there = refl

pub published_is : (j : JoinId) (sub : SubtaskId) (e : Status) (waiter : Option (TableId ThreadKey)) (s t u v : StateView) → IsJoinThere (subtask_in s.tags sub) s.core → join_in s.tags j ≡ live_join (join_of (subtask_in s.tags sub) s.core) s.core → t ≡ on_core (set_event (subtask_in s.tags sub) (Some e)) s → u ≡ on_core (unblocked (blocked_on (subtask_in t.tags sub) t.core)) t → v ≡ on_core (wake_joined (join_in u.tags j) (option_map (λ id. thread_of u id) waiter)) u → v ≡ on_core (published (subtask_in s.tags sub) e (option_map (λ id. thread_of s id) waiter)) s
unfolding published
published_is j sub e waiter s t u v there is a b d =
    let q = subtask_in s.tags sub in
    let w = option_map (λ id. thread_of s id) waiter in
    let c = unblocked (blocked_on q (set_event q (Some e) s.core)) (set_event q (Some e) s.core) in
    d ∙ (ap (λ (x : StateView). on_core (wake_joined (join_in x.tags j) (option_map (λ id. thread_of x id) waiter)) x) (after_is sub (Some e) s t u a b)
    ∙ ap (λ (x : Core). with_core x s) (ap (λ (i : Join). wake_joined i w c) is ∙ (wake_live (join_of q s.core) w s.core c there ∙ ap (λ (o : Option ℕ). wake_joined (join_of q s.core) w (unblocked o (set_event q (Some e) s.core))) (blocked_event q q (Some e) s.core))))

pub waiter_waits : (x : ℕ) (waiter : Option (TableId ThreadKey)) (s : StateView) → IfSome waiter (λ id. is_waiter x (thread_of s id) s.core ≡ true) → IfSome waiter (λ id. IsWaiting (thread_of s id) s.core)
waiter_waits x None s h = tt
waiter_waits x (Some id) s h = (x, h)

named_in : (sub : SubtaskId) (tags : Tags) → 0 < number_of (subtask_in tags sub) → 0 < number_in tags sub
named_in (subtask_id.Guest id) tags live = live
named_in (subtask_id.Host id) tags live = live

pub event_named : (sub : SubtaskId) (e : Option Status) (s t : StateView) → t ≡ on_core (set_event (subtask_in s.tags sub) e) s → 0 < number_of (subtask_in s.tags sub) → 0 < number_in t.tags sub
event_named sub e s t d live = subst (λ (v : StateView). 0 < number_in v.tags sub) (sym d) (named_in sub s.tags live)
