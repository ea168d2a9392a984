-- Telling leaves the thread that runs, or was taken, as it is; and strands.
use Rattle.std.proofs.Common.{ap, cond, refl, subst, sym, ◌∙◌}
use Rattle.std.specs.Prelude.{Bool, IfSome, None, Option, Some, [], false, if◌then◌else◌, option_map, true, ℕ, ◌==◌, ◌≡◌}
use Rattle.task_table.specs.declared.id.TableId.{TableId}
use Rattle.task_wait.specs.declared.keys.GuestTaskKey.{GuestTaskKey}
use Rattle.task_wait.specs.declared.keys.ThreadKey.{ThreadKey}
use Rattle.machine_data.specs.Core.{Core}
use Rattle.machine_data.specs.Moves.{is_callback_waiter, may_wake, published, put_high, unblocked, wake, wake_joined, waken_by}
use Rattle.machine_data.specs.Read.{blocked_on, caller_of, foot_of, goal_of, join_of, place_of, under_of}
use Rattle.machine_data.specs.Write.{give_thread_handle, on_thread, push_high, set_end, set_event, set_started, set_starting_published, set_thread_handle}
use Rattle.machine_data.specs.declared.records.CallEnd.TheVariants as call_end
use Rattle.machine_data.specs.declared.records.Delivery.TheVariants as delivery
use Rattle.machine_data.specs.declared.records.Join.{Join}
use Rattle.machine_data.specs.declared.records.Join.TheVariants as join
use Rattle.machine_data.specs.declared.records.Place.{Place}
use Rattle.machine_data.specs.declared.records.Place.TheVariants as place
use Rattle.machine_data.specs.declared.records.Subtask.{Subtask}
use Rattle.machine_data.specs.declared.records.Subtask.TheVariants as subtask
use Rattle.machine_data.specs.declared.records.Why.{Why}
use Rattle.machine_data.specs.declared.records.Why.TheVariants as why
use Rattle.machine_data.specs.declared.statuses.Mark.TheVariants as mark
use Rattle.machine_data.specs.declared.statuses.Status.{Status}
use Rattle.machine_data.specs.declared.statuses.Status.TheVariants as status
use Rattle.ops_moves.proofs.TellLemmas.{Quiet, call_quiet, can_still, result_quiet}
use Rattle.ops_moves.specs.Idle.{CanPublish, IsWaiting}
use Rattle.ops_moves.specs.Stops.{MayStop}
use Rattle.ops_guests.proofs.FootLemmas.{high_under, quiet_under, under_after}
use Rattle.ops_guests.proofs.RunLemmas.{KeepsUnder, foot_may_stop, stands_on}
use Rattle.ops_moves.proofs.UntouchedLemmas.{set_end_untouched, set_event_untouched, set_started_untouched, set_starting_published_untouched, with_thread_handle_untouched}
use Rattle.ops_guests.proofs.BesideLemmas.{Waits, blocked_place, is_busy, quiet_stand, returned_stand, told_stand, under_place, waits_of, waits_quiet, waits_unblocked}
use Rattle.ops_guests.specs.Running.{Stand}
use Rattle.laws_places.proofs.StrandFeet.{under_none}
use Rattle.machine_rules.proofs.StandLemmas.{by_number, eq_refl, place_kept, set_place_is}
use Rattle.machine_rules.proofs.StopLemmas.{Untouched}
use Rattle.machine_rules.specs.Calls.{with_thread_handle}
use Rattle.machine_rules.specs.Ends.{is_told, result_given, returned, told}
use Rattle.machine_rules.specs.Takes.{starting_is_published, starting_told}
use Rattle.core_primitives.specs.StateView.{StateView, call_of, on_core, thread_of}

waits_as : (n : ℕ) (s : Core) → IsWaiting n s → Waits (Some n) s
unfolding may_wake
waits_as n s waits = waits_of waits.0 (Some n) s waits.1

pub all_wait : (waiter : Option (TableId ThreadKey)) (s : StateView) → IfSome waiter (λ id. IsWaiting (thread_of s id) s.core) → Waits (option_map (λ id. thread_of s id) waiter) s.core
all_wait None s h = tt
all_wait (Some id) s h = waits_as (thread_of s id) s.core h

-- ---- Places

module _ (n : ℕ) (q : Place) (busy : is_busy q ≡ true) where
  told_stands : (k : ℕ) (e : Status) (w : Option ℕ) (s : Core) → Waits w s → Stand n q [] s → Stand n q [] (told k e w s)
  told_stands k e w s h st = told_stand n q busy k e w s h st

  pub returned_stands : (k v : ℕ) (w : Option ℕ) (s : Core) → Waits w s → Stand n q [] s → Stand n q [] (returned k v w s)
  returned_stands k v w s h st = returned_stand n q busy k v w s h st

  starting_stands : (k : ℕ) (w : Option ℕ) (s : Core) → Waits w s → Stand n q [] s → Stand n q [] (starting_told k w s)
  unfolding starting_told
  starting_stands k w s h st = go (starting_is_published k s)
    where
      go : (b : Bool) → Stand n q [] (if b then s else told k status.Starting w (set_starting_published k s))
      go true = st
      go false = told_stands k status.Starting w (set_starting_published k s) (waits_quiet w s _ (set_starting_published_untouched k s) h) (quiet_stand n q [] s _ (set_starting_published_untouched k s) st)

-- ---- Who is under another one

at_apart : (m : ℕ) (p : Place) (s : Core) → place_of m s ≡ Some p → ((x : ℕ) → p ≡ place.Under x → ⊥) → (x : ℕ) → place_of m s ≡ Some (place.Under x) → ⊥
at_apart m p s is apart x at = apart x (same_place p (place.Under x) (sym is ∙ at))
  where
    same_place : (p r : Place) → Some p ≡ Some r → p ≡ r
    same_place p r e = cc

blocked_apart : (on : Subtask) (x : ℕ) → place.Blocked on ≡ place.Under x → ⊥
blocked_apart on x e = cc

waiting_apart : (y : ℕ) (b : Bool) (x : ℕ) → place.Waiting y b ≡ place.Under x → ⊥
waiting_apart y b x e = cc

unblocked_under : (sub : Subtask) (s t : Core) → Untouched s t → (o : Option ℕ) → blocked_on sub s ≡ o → KeepsUnder t (unblocked o t)
unblocked_under sub s t u None e = λ k x at. at
unblocked_under sub s t u (Some j) e = let p = blocked_place sub s j e in high_under j why.Resumption t (at_apart j (place.Blocked p.0) t (u.places j ∙ p.1) (blocked_apart p.0))

waken_under : (b : Bool) (x m : ℕ) (s : Core) → Waits (Some m) s → KeepsUnder s (waken_by b x m s)
waken_under true x m s h = high_under m (why.Delivery (delivery.Set x)) s (at_apart m _ s h.1.1 (waiting_apart h.0 h.1.0))
waken_under false x m s h = high_under m why.Resumption s (at_apart m _ s h.1.1 (waiting_apart h.0 h.1.0))

wake_under : (x : ℕ) (w : Option ℕ) (s : Core) → Waits w s → KeepsUnder s (wake x w s)
unfolding wake
wake_under x None s h = λ k y at. at
wake_under x (Some m) s h = waken_under (is_callback_waiter m s) x m s h

joined_under : (j : Join) (w : Option ℕ) (s : Core) → Waits w s → KeepsUnder s (wake_joined j w s)
joined_under (join.Set x) w s h = wake_under x w s h
joined_under join.Nowhere w s h = λ k y at. at
joined_under (join.Watched m) w s h = λ k y at. at

published_under : (sub : Subtask) (e : Status) (w : Option ℕ) (s : Core) → Waits w s → KeepsUnder s (published sub e w s)
unfolding published
published_under sub e w s h =
    let t = set_event sub (Some e) s in
    let u : Untouched s t = set_event_untouched sub (Some e) s in
    let a = unblocked (blocked_on sub s) t in
    under_after s t (wake_joined (join_of sub s) w a) (quiet_under s t u) (under_after t a (wake_joined (join_of sub s) w a) (unblocked_under sub s t u (blocked_on sub s) refl) (joined_under (join_of sub s) w a (waits_unblocked sub w s t u (blocked_on sub s) refl (waits_quiet w s t u h))))

told_under : (k : ℕ) (e : Status) (w : Option ℕ) (s : Core) → Waits w s → KeepsUnder s (told k e w s)
unfolding told
told_under k e w s h = go (is_told k s)
  where
    go : (b : Bool) → KeepsUnder s (if b then published (subtask.Guest k) e w s else s)
    go true = published_under (subtask.Guest k) e w s h
    go false = λ k y at. at

pub returned_under : (k v : ℕ) (w : Option ℕ) (s : Core) → Waits w s → KeepsUnder s (returned k v w s)
unfolding returned
returned_under k v w s h =
    let over = set_end k call_end.Returned s in
    let given = result_given (goal_of k s) (caller_of k s) k v over in
    let a = set_end_untouched k call_end.Returned s in
    let b = (result_quiet (goal_of k s) (caller_of k s) k v over).untouched in
    under_after s over (told k status.Returned w given) (quiet_under s over a) (under_after over given (told k status.Returned w given) (quiet_under over given b) (told_under k status.Returned w given (waits_quiet w over given b (waits_quiet w s over a h))))

-- ---- Nobody comes under another one

-- who is under another one was there before
abbrev NoneComesUnder : Core → Core → Type 0
NoneComesUnder s t = (k x : ℕ) → place_of k t ≡ Some (place.Under x) → place_of k s ≡ Some (place.Under x)

none_after : (s m t : Core) → NoneComesUnder s m → NoneComesUnder m t → NoneComesUnder s t
none_after s m t a b k x at = a k x (b k x at)

quiet_none : (s t : Core) → Untouched s t → NoneComesUnder s t
quiet_none s t u k x at = sym (u.places k) ∙ at

high_none : (m : ℕ) (w : Why) (s : Core) → NoneComesUnder s (put_high m w s)
unfolding put_high push_high
high_none m w s k x at =
    let p = place.Ready mark.High w in
    by_number k m (place_of k s ≡ Some (place.Under x))
    (λ e. let is = ap (λ (b : Bool). cond b (option_map (λ (q : Place). p) (place_of k s)) (place_of k s)) (ap (λ (j : ℕ). k == j) (sym e) ∙ eq_refl k) in
    absurd (never (place_of k s) (sym is ∙ (sym (set_place_is k m p s) ∙ at))))
    (λ e. sym (place_kept k m p s e) ∙ at)
  where
    never : (o : Option Place) → option_map (λ (q : Place). place.Ready mark.High w) o ≡ Some (place.Under x) → ⊥
    never None e = cc
    never (Some q) e = cc

unblocked_none : (o : Option ℕ) (s : Core) → NoneComesUnder s (unblocked o s)
unblocked_none None s = λ k x at. at
unblocked_none (Some j) s = high_none j why.Resumption s

waken_none : (b : Bool) (x m : ℕ) (s : Core) → NoneComesUnder s (waken_by b x m s)
waken_none true x m s = high_none m (why.Delivery (delivery.Set x)) s
waken_none false x m s = high_none m why.Resumption s

wake_none : (x : ℕ) (w : Option ℕ) (s : Core) → NoneComesUnder s (wake x w s)
unfolding wake
wake_none x None s = λ k y at. at
wake_none x (Some m) s = waken_none (is_callback_waiter m s) x m s

joined_none : (j : Join) (w : Option ℕ) (s : Core) → NoneComesUnder s (wake_joined j w s)
joined_none (join.Set x) w s = wake_none x w s
joined_none join.Nowhere w s = λ k y at. at
joined_none (join.Watched m) w s = λ k y at. at

published_none : (sub : Subtask) (e : Status) (w : Option ℕ) (s : Core) → NoneComesUnder s (published sub e w s)
unfolding published
published_none sub e w s =
    let t = set_event sub (Some e) s in
    let a = unblocked (blocked_on sub s) t in
    none_after s t (wake_joined (join_of sub s) w a) (quiet_none s t (set_event_untouched sub (Some e) s))
    (none_after t a (wake_joined (join_of sub s) w a) (unblocked_none (blocked_on sub s) t) (joined_none (join_of sub s) w a))

told_none : (k : ℕ) (e : Status) (w : Option ℕ) (s : Core) → NoneComesUnder s (told k e w s)
unfolding told
told_none k e w s = go (is_told k s)
  where
    go : (b : Bool) → NoneComesUnder s (if b then published (subtask.Guest k) e w s else s)
    go true = published_none (subtask.Guest k) e w s
    go false = λ k y at. at

starting_none : (k : ℕ) (w : Option ℕ) (s : Core) → NoneComesUnder s (starting_told k w s)
unfolding starting_told
starting_none k w s = go (starting_is_published k s)
  where
    go : (b : Bool) → NoneComesUnder s (if b then s else told k status.Starting w (set_starting_published k s))
    go true = λ k y at. at
    go false = none_after s (set_starting_published k s) (told k status.Starting w (set_starting_published k s)) (quiet_none s (set_starting_published k s) (set_starting_published_untouched k s)) (told_none k status.Starting w (set_starting_published k s))

pub none_under : (n : ℕ) (s : Core) → ((j : ℕ) → place_of j s ≡ Some (place.Under n) → ⊥) → under_of n s ≡ None
none_under n s none = go (under_of n s) refl
  where
    go : (o : Option ℕ) → under_of n s ≡ o → under_of n s ≡ None
    go None e = e
    go (Some j) e = absurd (none j (under_place n j s e))

-- ---- As contracts see it

started_quiet : (k : ℕ) (s : Core) → Quiet s (set_started k s)
unfolding set_started
started_quiet k s = call_quiet k (λ c. record c { started = true }) s (λ c. refl) (set_started_untouched k s)

starting_quiet : (k : ℕ) (s : Core) → Quiet s (set_starting_published k s)
unfolding set_starting_published
starting_quiet k s = call_quiet k (λ c. record c { starting_published = true }) s (λ c. refl) (set_starting_published_untouched k s)

named_quiet : (i n : ℕ) (s : Core) → Quiet s (with_thread_handle i n s)
unfolding with_thread_handle set_thread_handle give_thread_handle on_thread
named_quiet i n s = record { untouched = with_thread_handle_untouched i n s; joins = λ sub. go sub; sets = refl }
  where
    go : (sub : Subtask) → join_of sub (with_thread_handle i n s) ≡ join_of sub s
    go (subtask.Guest q) = refl
    go (subtask.Host i) = refl

abbrev call_in : TableId GuestTaskKey → StateView → Subtask
call_in k s = subtask.Guest (call_of s k)

pub can_after_begin : (k : TableId GuestTaskKey) (i n j : ℕ) (waiter : Option (TableId ThreadKey)) (s t u : StateView) → call_of s k ≡ j → CanPublish (subtask.Guest j) waiter s → t ≡ on_core (with_thread_handle i n) s → u ≡ on_core (set_started (call_of t k)) t → CanPublish (call_in k u) waiter u
can_after_begin k i n j waiter s t u at can e d =
    can_still (call_in k) waiter (set_started (call_of t k)) t u refl d (started_quiet (call_of t k) t.core)
    (can_still (call_in k) waiter (with_thread_handle i n) s t refl e (named_quiet i n s.core) (subst (λ (q : ℕ). CanPublish (subtask.Guest q) waiter s) (sym at) can))

pub can_after_starting : (k : TableId GuestTaskKey) (waiter : Option (TableId ThreadKey)) (s t : StateView) → CanPublish (call_in k s) waiter s → t ≡ on_core (set_starting_published (call_of s k)) s → CanPublish (call_in k t) waiter t
can_after_starting k waiter s t can e = can_still (call_in k) waiter (set_starting_published (call_of s k)) s t refl e (starting_quiet (call_of s k) s.core) can

pub starting_may_stop : (n f : TableId ThreadKey) (q : Place) (k : ℕ) (waiter : Option (TableId ThreadKey)) (s t : StateView) → is_busy q ≡ true → Stand (thread_of s n) q [] s.core → IfSome waiter (λ id. IsWaiting (thread_of s id) s.core) → t ≡ on_core (starting_told k (option_map (λ id. thread_of s id) waiter)) s → thread_of t f ≡ foot_of (thread_of t n) t.core → MayStop (thread_of t f) t.core
starting_may_stop n f q k waiter s t busy st waits e foot =
    foot_may_stop n q f t busy (stands_on n q (starting_told k (option_map (λ id. thread_of s id) waiter)) s t e (starting_stands (thread_of s n) q busy k _ s.core (all_wait waiter s waits) st)) foot

pub starting_bottom : (n : TableId ThreadKey) (k : ℕ) (waiter : Option (TableId ThreadKey)) (s t : StateView) → under_of (thread_of s n) s.core ≡ None → t ≡ on_core (starting_told k (option_map (λ id. thread_of s id) waiter)) s → under_of (thread_of t n) t.core ≡ None
starting_bottom n k waiter s t none e =
    let u = starting_told k (option_map (λ id. thread_of s id) waiter) s.core in
    subst (λ (v : StateView). under_of (thread_of v n) v.core ≡ None) (sym e)
    (none_under (thread_of s n) u (λ j at. under_none (thread_of s n) j s.core none (starting_none k (option_map (λ id. thread_of s id) waiter) s.core j (thread_of s n) at)))
