-- What the rules of ops choose among.
use Rattle.laws_choices.proofs.CancelPicks.{call_picks}
use Rattle.laws_choices.proofs.Forms.{OfWaiters, Picks, TakesMember, chooses, choosing, found, given, none_fits, released, shows_none, silent, trapped, woken, woken_released}
use Rattle.laws_choices.proofs.ListLemmas.{one_is_none, wake_fits}
use Rattle.laws_choices.proofs.ReturnChecks.{same_check}
use Rattle.laws_choices.proofs.SilentRules.{data_silent, direct_exit_silent, inc_silent, ret_bad_silent, set_drop_silent, set_new_silent, silent_or_trap, silent_trap_if, thread_exit_silent, thread_silent}
use Rattle.laws_choices.specs.Chooses.{IsLawful, IsUnordered, MayCome, ReleasesOnce, RulesChoose, hides, no_choice}
use Rattle.laws_choices.specs.Offer.{Chosen, FitsOffer, Offer, is_one_of}
use Rattle.laws_choices.specs.Offers.{blocking_exit_offer, code_kind_offer, code_offer, dec_offer, gives, gives_woken, join_done_offer, join_to_offer, kind_exit_offer, nothing, op_offer, poll_offer, releases, ret_offer, set_offer, sync_exit_offer, task_cancel_offer, task_offer, tells, unless, wait_offer, wakes, wakes_in, wakes_new}
use Rattle.laws_states.specs.Order.{WaitsAtHome}
use Rattle.machine_data.specs.Labels.{handle_given}
use Rattle.machine_data.specs.Moves.{given_own, waits_cancellable}
use Rattle.machine_rules.proofs.Machine.{HasOpen, Bool, Choice, Component, Core, ExportKind, PickedEvent, Given, Continues, OpProgress, Join, Label, List, PickedMember, NothingPicked, None, Op, Option, Ordered, TaskEvent, PickedTaskEvent, Progress, SetLabel, SetOp, Some, Status, Stops, Subtask, TaskLabel, TaskOp, Trap, Traps, [], ap, arith, backpressure_of, blocking_exit_rule, blocking_exits, cancel_was_delivered, choice_of, chosen, code_kind_rule, code_rule, code_wait_rule, event_of, exit_label, exit_rule_for, false, finds_nothing, foot_of, picked_event, given_for, goal_of, has_ended, has_event_for, has_ready_member, held_by_flag, op_progress_of, if◌then◌else◌, implicit_exit_rule, instance_of, is_async_lifted, is_direct, is_explicit, is_none, is_told, is_watched, join_done, join_label, join_of, join_to, kind_exit_rule, kind_of, leaves_no_result, may, may_hand_on, may_publish, may_tell, may_wake, may_wake_joined, may_wake_new, nat_lt, not, scripted_op_rule, or_never, passes_after_return, passes_after_stop, passes_check, received, refl, ret_label, set_at, subst, subtask_at, suc, sym, sync_exit_rule, task_cancel_label, task_of, trap_if, true, under_of, unwrap_or, value_of, wait_begins, wait_goes_on, wait_label, zero, ℕ, ◌%◌, ◌*◌, ◌+◌, ◌/◌, ◌∙◌, ◌≡◌}
use Rattle.machine_rules.specs.Sets.{scripted_poll_rule, scripted_set_rule, scripted_wait_rule}
use Rattle.machine_rules.specs.Task.{dec_from, held_by_counter, scripted_ret_rule, scripted_task_cancel_rule, scripted_task_rule}

-- ---- Whom a rule may wake is offered

pub nobody : (w : Option ℕ) → is_none w ≡ is_one_of [] w
nobody None = refl
nobody (Some n) = refl

pub joined_fits : (j : Join) (w : Option ℕ) (s : Core) → may_wake_joined j w s ≡ is_one_of (wakes_in j s).waiters w
joined_fits (Join.Set x) w s = wake_fits x w s
joined_fits Join.Nowhere w s = nobody w
joined_fits (Join.Watched n) w s = nobody w

pub publish_fits : (sub : Subtask) (w : Option ℕ) (s : Core) → may_publish sub w s ≡ is_one_of (wakes_in (join_of sub s) s).waiters w
unfolding may_publish
publish_fits sub w s = joined_fits (join_of sub s) w s

pub tell_fits : (k : ℕ) (w : Option ℕ) (s : Core) → may_tell k w s ≡ is_one_of (tells k s).waiters w
unfolding may_tell
tell_fits k w s = by (is_told k s)
  where
    by : (b : Bool) → (if b then may_publish (Subtask.Guest k) w s else is_none w) ≡ is_one_of (if b then wakes_in (join_of (Subtask.Guest k) s) s else nothing).waiters w
    by true = publish_fits (Subtask.Guest k) w s
    by false = nobody w

pub of_joined : (j : Join) (s : Core) → OfWaiters (wakes_in j s)
of_joined (Join.Set x) s = (refl, refl)
of_joined Join.Nowhere s = (refl, refl)
of_joined (Join.Watched n) s = (refl, refl)

pub of_tells : (k : ℕ) (s : Core) → OfWaiters (tells k s)
of_tells k s = by (is_told k s)
  where
    by : (b : Bool) → OfWaiters (if b then wakes_in (join_of (Subtask.Guest k) s) s else nothing)
    by true = of_joined (join_of (Subtask.Guest k) s) s
    by false = (refl, refl)

new_fits : (e : Option Status) (x w : Option ℕ) (s : Core) → may_wake_new e x w s ≡ is_one_of (wakes_new e x s).waiters w
new_fits (Some e) (Some x) w s = wake_fits x w s
new_fits (Some e) None w s = nobody w
new_fits None x w s = nobody w

of_new : (e : Option Status) (x : Option ℕ) (s : Core) → OfWaiters (wakes_new e x s)
of_new (Some e) (Some x) s = (refl, refl)
of_new (Some e) None s = (refl, refl)
of_new None x s = (refl, refl)

abbrev pub own_wakes : Bool → ℕ → Core → Offer
own_wakes b x s = if b then wakes x s else nothing

hand_fits : (x : ℕ) (e : TaskEvent) (w : Option ℕ) (s : Core) → may_hand_on x (PickedTaskEvent e) w s ≡ is_one_of (own_wakes (has_ready_member x s) x s).waiters w
unfolding may_hand_on
hand_fits x e w s = by (has_ready_member x s)
  where
    by : (b : Bool) → (if b then may_wake x w s else is_none w) ≡ is_one_of (own_wakes b x s).waiters w
    by true = wake_fits x w s
    by false = nobody w

of_own : (b : Bool) (x : ℕ) (s : Core) → OfWaiters (own_wakes b x s)
of_own true x s = (refl, refl)
of_own false x s = (refl, refl)

-- ---- What labels show

ret_shows : (n v : ℕ) (w : Option ℕ) → choice_of (ret_label n v w) ≡ choosing w None
ret_shows n v None = refl
ret_shows n v (Some w) = refl

cancel_shows : (n : ℕ) (w : Option ℕ) → choice_of (task_cancel_label n w) ≡ choosing w None
cancel_shows n None = refl
cancel_shows n (Some w) = refl

exit_shows : (n : ℕ) (w : Option ℕ) → choice_of (exit_label n w) ≡ choosing w None
exit_shows n None = refl
exit_shows n (Some w) = refl

join_shows : (n : ℕ) (w : Option ℕ) → choice_of (join_label n w) ≡ choosing w None
join_shows n None = refl
join_shows n (Some w) = refl

own_silent : (e : TaskEvent) → choosing None (handle_given (given_own e)) ≡ no_choice
own_silent TaskEvent.None = refl
own_silent TaskEvent.Cancelled = refl

-- ---- A trap that hangs on who is woken

module _ {o : Offer} (fails ok : Option ℕ → Bool) (t : Trap) (row : Option ℕ → Progress) where
  pub trapped_alike : (inner : Picks o (λ w m. may (ok w) (row w))) → ((c : Chosen) → FitsOffer c o → ok c.waiter ≡ true) → ((w : Option ℕ) → IsLawful (row w)) →
      ((w : Option ℕ) → ok w ≡ true → fails w ≡ fails None) → ((w : Option ℕ) → hides (may (ok w) (row w)) ≡ true → ⊥) →
      Picks (unless (fails None) o) (λ w m. trap_if (fails w) t (may (ok w) (row w)))
  trapped_alike inner fitting law same apart = by (fails None) refl
    where
      once : (v k : Option ℕ) → ReleasesOnce (trap_if (fails v) t (may (ok v) (row v)))
      once v k = at (fails v)
        where
          at : (b : Bool) → ReleasesOnce (trap_if b t (may (ok v) (row v)))
          at true = tt
          at false = inner.once v k

      takes : (v k w m : Option ℕ) → hides (trap_if (fails v) t (may (ok v) (row v))) ≡ true → trap_if (fails w) t (may (ok w) (row w)) ≡ trap_if (fails v) t (may (ok v) (row v))
      takes v k w m it = absurd (at (fails v) it)
        where
          at : (b : Bool) → hides (trap_if b t (may (ok v) (row v))) ≡ true → ⊥
          at true h = absurd (grind (arith, h))
          at false h = apart v h

      by : (b : Bool) → fails None ≡ b → Picks (unless b o) (λ w m. trap_if (fails w) t (may (ok w) (row w)))
      by true is = record {
        only = λ c h. only c (fails c.waiter) refl h;
        each = λ v k c lawful fit.
            let r = shows_none c fit in
            let alone : fails c.waiter ≡ true = ap fails (one_is_none [] c.waiter refl fit.waiter) ∙ is in
            subst (λ (b : Bool). MayCome c (trap_if b t (may (ok c.waiter) (row c.waiter)))) (sym alone) r;
        once = once;
        takes = takes;
      }
        where
          never : (c : Chosen) (d : Bool) → ok c.waiter ≡ d → fails c.waiter ≡ false → MayCome c (may d (row c.waiter)) → FitsOffer c nothing
          never c true good passes h = absurd (let e = same c.waiter good in grind (arith, e, passes, is))
          never c false bad passes h = absurd h.0

          only : (c : Chosen) (b : Bool) → fails c.waiter ≡ b → MayCome c (trap_if b t (may (ok c.waiter) (row c.waiter))) → FitsOffer c nothing
          only c true at h = none_fits c h.0 h.1
          only c false at h = never c (ok c.waiter) refl at h
      by false is = record {
        only = λ c h. only c (fails c.waiter) refl h;
        each = λ v k c lawful fit.
            let good = fitting c fit in
            subst (λ (b : Bool). MayCome c (trap_if b t (may (ok c.waiter) (row c.waiter)))) (sym (same c.waiter good ∙ is)) (inner.each c.waiter None c (allowed c good) fit);
        once = once;
        takes = takes;
      }
        where
          allowed : (c : Chosen) → ok c.waiter ≡ true → IsLawful (may (ok c.waiter) (row c.waiter))
          allowed c is = subst (λ (b : Bool). IsLawful (may b (row c.waiter))) (sym is) (law c.waiter)

          only : (c : Chosen) (b : Bool) → fails c.waiter ≡ b → MayCome c (trap_if b t (may (ok c.waiter) (row c.waiter))) → FitsOffer c o
          only c true at h = absurd (let none : None ≡ c.waiter = ap (λ (a : Choice). a.woken) h.0 in let e : fails c.waiter ≡ false = ap fails (sym none) ∙ is in grind (arith, at, e))
          only c false at h = inner.only c h

-- ---- Ops on tasks

module _ (n : ℕ) (s : Core) where
  abbrev k : ℕ
  k = task_of n s

  ret_picks : (v : ℕ) → Picks (ret_offer n s) (λ w m. scripted_ret_rule n v w s)
  ret_picks v = trapped (has_ended k s) _ (trapped (not (is_async_lifted (kind_of k s))) _ (
      woken (tells k s) (of_tells k s) (λ w. may_tell k w s) (λ w. tell_fits k w s) _ (ret_shows n v)))

  cancel_picks : Picks (task_cancel_offer n s) (λ w m. scripted_task_cancel_rule n w s)
  cancel_picks = trapped (not (cancel_was_delivered k s)) _ (trapped (has_ended k s) _ (
      woken (tells k s) (of_tells k s) (λ w. may_tell k w s) (λ w. tell_fits k w s) _ (cancel_shows n)))

  sync_exit_picks : Picks (sync_exit_offer n s) (λ w m. sync_exit_rule n w s)
  sync_exit_picks = woken (tells k s) (of_tells k s) (λ w. may_tell k w s) (λ w. tell_fits k w s) _ (exit_shows n)

  blocking_picks : WaitsAtHome s → Picks (blocking_exit_offer n s) (λ w m. blocking_exit_rule n w s)
  blocking_picks home =
      let held = held_by_flag (instance_of n s) s in
      trapped_alike (λ w. not (passes_after_return n w s)) (λ w. may_tell k w s) _ (λ w. Ordered held (λ order. Stops (exit_label n w) (blocking_exits n w order s)))
      (woken_released (tells k s) (of_tells k s) (λ w. may_tell k w s) (λ w. tell_fits k w s) held (λ w order. Stops (exit_label n w) (blocking_exits n w order s)) (λ w order. exit_shows n w))
      (λ c fit. tell_fits k c.waiter s ∙ fit.waiter) (λ w. tt) (λ w good. ap not (same_check n s home w good)) (λ w it. apart w (may_tell k w s) it)
    where
      apart : (w : Option ℕ) (b : Bool) → hides (may b (Ordered (held_by_flag (instance_of n s) s) (λ order. Stops (exit_label n w) (blocking_exits n w order s)))) ≡ true → ⊥
      apart w true it = absurd (grind (arith, it))
      apart w false it = absurd (grind (arith, it))

  module _ (l : Label) (none : choice_of l ≡ no_choice) where
    code_wait : (x : ℕ) (held : List ℕ) (b : Bool) → Picks (releases held nothing) (λ w m. code_wait_rule l n x held s b)
    code_wait x held true = released held _ (λ order. none)
    code_wait x held false = released held _ (λ order. none)

    code_kind : (held : List ℕ) (code rest : ℕ) → Picks (code_kind_offer n held s code rest) (λ w m. code_kind_rule l n held s code rest)
    code_kind held zero rest =
        trapped (not (passes_after_stop (instance_of n s) (foot_of n s) held s)) _ (trapped (leaves_no_result n s) _ (released held _ (λ order. none)))
    code_kind held (suc zero) rest = released held _ (λ order. none)
    code_kind held (suc (suc zero)) rest = found (set_at (instance_of n s) rest s) _ (λ x. code_wait x held (has_event_for k x s))
    code_kind held (suc (suc (suc code))) rest = silent (Traps Trap.UnsupportedCallbackCode) tt

    code_picks : (code : ℕ) → Picks (code_offer n s code) (λ w m. code_rule l n s code)
    code_picks code = trapped (nat_lt 4294967295 code) _ (code_kind (held_by_flag (instance_of n s) s) (code % 16) (code / 16))

  kind_exit : WaitsAtHome s → (x : ExportKind) → Picks (kind_exit_offer n s x) (λ w m. kind_exit_rule n w s x)
  kind_exit home ExportKind.Sync = sync_exit_picks
  kind_exit home ExportKind.Blocking = blocking_picks home
  kind_exit home ExportKind.Stackful = silent _ (thread_exit_silent n s)
  kind_exit home ExportKind.Callback = code_picks (exit_label n None) refl 0

  implicit_exit : WaitsAtHome s → (b : Bool) → Picks (if b then nothing else kind_exit_offer n s (kind_of k s)) (λ w m. implicit_exit_rule n w s b)
  implicit_exit home true = silent _ (direct_exit_silent n s (kind_of k s) (under_of n s))
  implicit_exit home false = kind_exit home (kind_of k s)

  exit_picks : WaitsAtHome s → (b : Bool) →
      Picks (if b then nothing else (if is_direct (goal_of k s) then nothing else kind_exit_offer n s (kind_of k s))) (λ w m. exit_rule_for n w s b)
  exit_picks home true = silent _ (thread_exit_silent n s)
  exit_picks home false = implicit_exit home (is_direct (goal_of k s))

  dec_picks : (b : ℕ) → Picks (dec_offer n s b) (λ w m. dec_from n s b)
  dec_picks zero = silent (Traps Trap.BackpressureOverflow) tt
  dec_picks (suc zero) = released (held_by_counter (instance_of n s) s) _ (λ order. refl)
  dec_picks (suc (suc b)) = silent _ refl

  task_picks : WaitsAtHome s → (o : TaskOp) → Picks (task_offer n s o) (λ w m. scripted_task_rule n s (choosing w m) o)
  task_picks home (TaskOp.Ret x) = ret_picks (value_of n s x)
  task_picks home (TaskOp.RetBad x) = silent _ (ret_bad_silent n s)
  task_picks home TaskOp.TaskCancel = cancel_picks
  task_picks home TaskOp.Exit = exit_picks home (is_explicit n s)
  task_picks home TaskOp.CbYield = code_picks (Label.Task (TaskLabel.CbYield n)) refl 1
  task_picks home (TaskOp.CbWait x) = code_picks (Label.Task (TaskLabel.CbWait n)) refl (16 * value_of n s x + 2)
  task_picks home (TaskOp.Code x) = code_picks (Label.Task (TaskLabel.Code n)) refl (value_of n s x)
  task_picks home TaskOp.BpInc = silent _ (inc_silent n s)
  task_picks home TaskOp.BpDec = dec_picks (backpressure_of (instance_of n s) s)

-- ---- What a thread is given

module _ (n x : ℕ) (s : Core) where
  -- what is there is taken, and no wake is handed on
  module _ (mk : Given → Label) (shows : (v : Given) → choice_of (mk v) ≡ choosing None (handle_given v)) (new : PickedEvent → Given → Core) where
    abbrev takes : Option ℕ → Option ℕ → PickedEvent → Progress
    takes w m g = let v = given_for g (unwrap_or m 0) s in Continues (mk v) (new g v) n

    pub gives_picks : (b : Bool) → Picks (gives b n x s) (λ w m. or_never (picked_event b (task_of n s) x (chosen n (choosing w m) s) s) (takes w m))
    unfolding given_for
    gives_picks b = given n x s b nothing takes
        (λ e. silent (Continues (mk (given_own e)) (new (PickedTaskEvent e) (given_own e)) n) (shows (given_own e) ∙ own_silent e))
        (silent (Continues (mk Given.Nothing) (new NothingPicked Given.Nothing) n) (shows Given.Nothing))
        (λ sub. record {
          shows = λ h. shows (Given.Subtask (unwrap_or (event_of sub s) Status.Starting) h);
          only = λ c h is k. (sym (ap (λ (a : Choice). a.woken) (sym (shows (Given.Subtask (unwrap_or (event_of sub s) Status.Starting) (unwrap_or c.member 0))) ∙ k.0)), k.1);
          once = λ v k. tt;
        })

  -- the wake of a woken thread is handed on where it is given the task event
  module _ (mk : Given → Option ℕ → Label) (shows : (v : Given) → choice_of (mk v None) ≡ choosing None (handle_given v))
      (wakes : (v : Given) (w : ℕ) → choice_of (mk v (Some w)) ≡ choosing (Some w) None) where
    pub own_woken : (e : TaskEvent) (new : Option ℕ → Core) →
        Picks (own_wakes (has_ready_member x s) x s) (λ w m. may (may_hand_on x (PickedTaskEvent e) w s) (Continues (mk (given_own e) w) (new w) n))
    own_woken e new = woken (own_wakes (has_ready_member x s) x s) (of_own (has_ready_member x s) x s) (λ w. may_hand_on x (PickedTaskEvent e) w s) (λ w. hand_fits x e w s) _ by
      where
        by : (w : Option ℕ) → choice_of (mk (given_own e) w) ≡ choosing w None
        by None = shows (given_own e) ∙ own_silent e
        by (Some w) = wakes (given_own e) w

    pub member_woken : (sub : Subtask) (new : Option ℕ → Option ℕ → Core) →
        TakesMember (λ w m. may (may_hand_on x (PickedMember sub) w s) (Continues (mk (given_for (PickedMember sub) (unwrap_or m 0) s) w) (new w m) n))
    unfolding may_hand_on given_for
    member_woken sub new = record {
      shows = λ h. shows (Given.Subtask (unwrap_or (event_of sub s) Status.Starting) h);
      only = λ c h is k. only c c.waiter refl k;
      once = once;
    }
      where
        only : (c : Chosen) (w : Option ℕ) → c.waiter ≡ w →
            MayCome c (may (is_none w) (Continues (mk (Given.Subtask (unwrap_or (event_of sub s) Status.Starting) (unwrap_or c.member 0)) w) (new w c.member) n)) →
            (c.waiter ≡ None) × (c.release ≡ [])
        only c None is k = (is, k.1)
        only c (Some w) is k = absurd k.0

        once : (v k : Option ℕ) →
            IsUnordered (may (is_none v) (Continues (mk (Given.Subtask (unwrap_or (event_of sub s) Status.Starting) (unwrap_or k 0)) v) (new v k) n))
        once None k = tt
        once (Some w) k = tt

-- ---- Ops on sets

wait_shows : (n : ℕ) (v : Given) → choice_of (wait_label n v None) ≡ choosing None (handle_given v)
wait_shows n v = refl

wait_wakes : (n : ℕ) (v : Given) (w : ℕ) → choice_of (wait_label n v (Some w)) ≡ choosing (Some w) None
wait_wakes n v w = refl

module _ (n : ℕ) (s : Core) where
  -- whether `wait` may take Cancelled
  abbrev may_cancel : Bool
  may_cancel = waits_cancellable (task_of n s) s

  goes_on : (x r : ℕ) → Picks (gives_woken may_cancel n x s) (λ w m. or_never (picked_event may_cancel (task_of n s) x (chosen n (choosing w m) s) s) (wait_goes_on n x r (choosing w m) s))
  unfolding given_for
  goes_on x r = given n x s may_cancel (own_wakes (has_ready_member x s) x s) (λ w m g. wait_goes_on n x r (choosing w m) s g)
      (λ e. own_woken n x s (λ v w. wait_label n v w) (wait_shows n) (wait_wakes n) e _)
      (silent _ refl)
      (λ sub. member_woken n x s (λ v w. wait_label n v w) (wait_shows n) (wait_wakes n) sub _)

  begins : (r x : ℕ) (b : Bool) → Picks (if b then nothing else gives may_cancel n x s) (λ w m. wait_begins n r (choosing w m) s x b)
  begins r x true = silent _ (silent_trap_if (not (passes_check (instance_of n s) s)) _ _ refl)
  begins r x false = gives_picks n x s (λ v. Label.Set (SetLabel.Wait v n)) (λ v. refl) (λ g v. received n r g v s) may_cancel

  begins_at : (r h : ℕ) →
      Picks (wait_offer n h s OpProgress.Fresh) (λ w m. scripted_wait_rule n r h (choosing w m) s OpProgress.Fresh)
  begins_at r h = found (set_at (instance_of n s) h s) _ (λ x. begins r x (finds_nothing n x s))

  wait_picks : (r h : ℕ) (far : OpProgress) → Picks (wait_offer n h s far) (λ w m. scripted_wait_rule n r h (choosing w m) s far)
  wait_picks r h (OpProgress.Waits x) = goes_on x r
  wait_picks r h _ = begins_at r h

  poll_picks : (r h : ℕ) → Picks (poll_offer n h s) (λ w m. scripted_poll_rule n r h (choosing w m) s)
  poll_picks r h = found (set_at (instance_of n s) h s) _ (λ x. gives_picks n x s (λ v. Label.Set (SetLabel.Poll v n)) (λ v. refl) (λ g v. received n r g v s) false)

  join_done_picks : (sub : Subtask) (x : Option ℕ) → Picks (join_done_offer sub s x) (λ w m. join_done n sub w s x)
  join_done_picks sub x = trapped (is_watched (join_of sub s)) _ (
      woken (wakes_new (event_of sub s) x s) (of_new (event_of sub s) x s) (λ w. may_wake_new (event_of sub s) x w s) (λ w. new_fits (event_of sub s) x w s) _ (join_shows n))

  join_to_picks : (h : ℕ) (sub : Subtask) → Picks (join_to_offer n h s sub) (λ w m. join_to n h w s sub)
  join_to_picks zero sub = join_done_picks sub None
  join_to_picks (suc h) sub = found (set_at (instance_of n s) (suc h) s) _ (λ x. join_done_picks sub (Some x))

  set_picks : (o : SetOp) → Picks (set_offer n s o) (λ w m. scripted_set_rule n s (choosing w m) o)
  set_picks (SetOp.New r) = silent _ (set_new_silent n s r)
  set_picks (SetOp.Drop x) = silent _ (silent_or_trap (set_at (instance_of n s) (value_of n s x) s) _ _ (λ y. set_drop_silent n s (value_of n s x) y))
  set_picks (SetOp.Wait r x) = wait_picks r (value_of n s x) (op_progress_of n s)
  set_picks (SetOp.Poll r x) = poll_picks r (value_of n s x)
  set_picks (SetOp.Join x y) = found (subtask_at (instance_of n s) (value_of n s x) s) _ (λ sub. join_to_picks (value_of n s y) sub)

-- ---- Each op

op_picks : (c : Component) (n : ℕ) (s : Core) (o : Op) → (HasOpen c → ⊥) → WaitsAtHome s → Picks (op_offer n s o) (λ w m. scripted_op_rule c n s (choosing w m) o)
op_picks c n s (Op.Data o) settled home = silent _ (data_silent c n s o)
op_picks c n s (Op.Task o) settled home = task_picks n s home o
op_picks c n s (Op.Set o) settled home = set_picks n s o
op_picks c n s (Op.Call o) settled home = call_picks c n s o settled
op_picks c n s (Op.Thread o) settled home = silent _ (thread_silent n s c o)

pub rules_choose : RulesChoose
unfolding RulesChoose
rules_choose c n s o settled home = chooses {row = λ ch. scripted_op_rule c n s ch o} (op_picks c n s o settled home)
