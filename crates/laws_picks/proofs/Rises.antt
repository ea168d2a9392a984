-- A thread that comes to wait or to be held has come last: of the rules that put it there.
use Rattle.machine_data.proofs.CommuteLemmas.{get-change}
use Rattle.machine_data.proofs.MapLemmas.{get-remove_same}
use Rattle.machine_data.specs.Core.{Core, State}
use Rattle.machine_data.specs.Labels.{Choice}
use Rattle.machine_data.specs.Maps.{Records, get, remove}
use Rattle.machine_data.specs.Moves.{NothingPicked, PickedEvent, PickedMember, PickedTaskEvent, checked, exited_if, freed_thread_handle, is_callback_waiter, may_hand_on, passes_check, picked_event, released, stopped, unblocked, waits_cancellable, wake_joined, waken_by}
use Rattle.machine_data.specs.Read.{admits, at_handle_limit, blocked_on, came_of, foot_of, instance_of, is_at, is_explicit, is_second, join_of, op_progress_of, set_at, task_event_of, task_of, thread_handle_of}
use Rattle.machine_data.specs.Write.{arrival, counted_arrival, set_task_event}
use Rattle.machine_data.specs.declared.component.Component.{Component}
use Rattle.machine_data.specs.declared.label.Label.{Label}
use Rattle.machine_data.specs.declared.label.TaskLabel.{TaskLabel}
use Rattle.machine_data.specs.declared.op.Op.{Op}
use Rattle.machine_data.specs.declared.op.SetOp.{SetOp}
use Rattle.machine_data.specs.declared.op.TaskOp.{TaskOp}
use Rattle.machine_data.specs.declared.records.Delivery.{Delivery}
use Rattle.machine_data.specs.declared.records.Join.{Join}
use Rattle.machine_data.specs.declared.records.OpProgress.{OpProgress}
use Rattle.machine_data.specs.declared.records.Place.{Place}
use Rattle.machine_data.specs.declared.records.Subtask.{Subtask}
use Rattle.machine_data.specs.declared.records.Thread.{Thread}
use Rattle.machine_data.specs.declared.records.Turn.{Turn}
use Rattle.machine_data.specs.declared.records.Why.{Why}
use Rattle.machine_data.specs.declared.scenario.Version.{Version}
use Rattle.machine_data.specs.declared.statuses.HostPoll.{HostPoll}
use Rattle.machine_data.specs.declared.statuses.Mark.{Mark}
use Rattle.machine_data.specs.declared.statuses.Status.{Status}
use Rattle.machine_data.specs.declared.trap.Trap.{Trap}
use Rattle.machine_rules.proofs.PlacingLemmas.{Shifted, placing_shifted, shifts_shifted}
use Rattle.machine_rules.proofs.WalkMoves.{checked_shifts, released_shifts}
use Rattle.machine_rules.specs.Arrivals.{is_kept_back}
use Rattle.machine_rules.specs.Ends.{code_kind_rule, code_rule, code_wait_rule, has_event_for, held_by_flag, is_told, leaves_no_result, may_tell, own_or_none, passes_after_stop}
use Rattle.machine_rules.specs.Finish.{Doer}
use Rattle.machine_rules.specs.OpParts.{ends_activation, is_wait}
use Rattle.machine_rules.specs.Primitives.{Stop}
use Rattle.machine_rules.specs.Progress.{Asks, Continues, Fails, Never, OneOf, Ordered, Progress, Stops, Traps, may, or_never, or_trap, trap_if}
use Rattle.machine_rules.specs.Scripts.{value_of}
use Rattle.machine_rules.specs.Sets.{chosen, finds_nothing, wait_begins_by, wait_goes_on_by, wait_rule}
use Rattle.machine_rules.specs.Step.{Progresses, own_script, scripted_op_rule}
use Rattle.machine_rules.specs.Takes.{delivered, delivery_rule, may_tell_starting, set_delivered, start_admitted, start_rule, starting_is_published, thread_taken, thread_taken_for}
use Rattle.std.proofs.Common.{ap, arith, inl, inr, refl, subst, sym, ◌∙◌}
use Rattle.std.proofs.lemmas.Bool.Decides.{nat_tests}
use Rattle.std.specs.Option.{option_map_or}
use Rattle.std.specs.Prelude.{Bool, List, None, Option, Some, false, if◌then◌else◌, nat_lt, not, option_map, suc, true, zero, ℕ, ◌%◌, ◌*◌, ◌+◌, ◌/◌, ◌<◌, ◌≡◌, ◌≤◌, ◌⊎◌}
unfoldable use Rattle.machine_data.specs.Moves.{call_settled, ended, group_settled, interest_settled, published, put_high, put_low, wake}
unfoldable use Rattle.machine_data.specs.Write.{arrive, on_call, on_instance, on_thread, on_work, push_high, push_low, remove_call, remove_group, remove_thread, set_do_not_enter, set_event, set_op_progress, set_place, set_starting_published, set_uninteresting}
unfoldable use Rattle.machine_rules.specs.Ends.{code_exits, code_finds, code_stops, code_waits, code_yields, end_reopens, told}
unfoldable use Rattle.machine_rules.specs.Sets.{wait_stops, wait_stops_checked}
unfoldable use Rattle.machine_rules.specs.Takes.{start_holds, starting_told, take_holds, wait_again}
unfoldable use Rattle.machine_rules.specs.Turns.{at_turn}

-- ---- What leaves the count

abbrev Counts : Core → Core → Type 0
Counts s t = (t.arrivals ≡ s.arrivals) × (t.version ≡ s.version)

then_counts : (s t u : Core) → Counts s t → Counts t u → Counts s u
then_counts s t u a b = (b.0 ∙ a.0, b.1 ∙ a.1)

shifted_counts : {s t : Core} → Shifted s t → Counts s t
shifted_counts h = (sym (ap (λ (u : Core). u.arrivals) h.only), sym (ap (λ (u : Core). u.version) h.only))

stopped_counts : (f : ℕ) (s : Core) → Counts s (stopped f s)
stopped_counts f s = shifted_counts (placing_shifted (Stop f) s)

checked_counts : (i : ℕ) (s : Core) → Counts s (checked i s)
checked_counts i s = shifted_counts (shifts_shifted (checked_shifts i s))

put_counts : (n : ℕ) (w : Why) (s : Core) → Counts s (put_high n w s)
unfolding put_high push_high set_place on_thread
put_counts n w s = (refl, refl)

wake_counts : (x : ℕ) (w : Option ℕ) (s : Core) → Counts s (wake x w s)
unfolding wake
wake_counts x None s = (refl, refl)
wake_counts x (Some n) s = by (is_callback_waiter n s)
  where
    by : (b : Bool) → Counts s (waken_by b x n s)
    by true = put_counts n (Why.Delivery (Delivery.Set x)) s
    by false = put_counts n Why.Resumption s

unblocked_counts : (o : Option ℕ) (s : Core) → Counts s (unblocked o s)
unblocked_counts None s = (refl, refl)
unblocked_counts (Some n) s = put_counts n Why.Resumption s

joined_counts : (j : Join) (w : Option ℕ) (s : Core) → Counts s (wake_joined j w s)
joined_counts (Join.Set x) w s = wake_counts x w s
joined_counts j w s = (refl, refl)

evented_counts : (sub : Subtask) (e : Option Status) (s : Core) → Counts s (set_event sub e s)
unfolding set_event on_call on_work
evented_counts (Subtask.Guest k) e s = (refl, refl)
evented_counts (Subtask.Host i) e s = (refl, refl)

published_counts : (sub : Subtask) (e : Status) (w : Option ℕ) (s : Core) → Counts s (published sub e w s)
unfolding published
published_counts sub e w s =
    let t = set_event sub (Some e) s in
    let u = unblocked (blocked_on sub s) t in
    then_counts s u (wake_joined (join_of sub s) w u) (then_counts s t u (evented_counts sub (Some e) s) (unblocked_counts (blocked_on sub s) t))
    (joined_counts (join_of sub s) w u)

told_counts : (k : ℕ) (e : Status) (w : Option ℕ) (s : Core) → Counts s (told k e w s)
unfolding told
told_counts k e w s = by (is_told k s)
  where
    by : (b : Bool) → Counts s (if b then published (Subtask.Guest k) e w s else s)
    by true = published_counts (Subtask.Guest k) e w s
    by false = (refl, refl)

published_starting : (k : ℕ) (s : Core) → Counts s (set_starting_published k s)
unfolding set_starting_published on_call
published_starting k s = (refl, refl)

starting_counts : (k : ℕ) (w : Option ℕ) (s : Core) → Counts s (starting_told k w s)
unfolding starting_told
starting_counts k w s = by (starting_is_published k s)
  where
    by : (b : Bool) → Counts s (if b then s else told k Status.Starting w (set_starting_published k s))
    by true = (refl, refl)
    by false =
        let u = set_starting_published k s in
        then_counts s u (told k Status.Starting w u) (published_starting k s) (told_counts k Status.Starting w u)

opened_counts : (i : ℕ) (s : Core) → Counts s (set_do_not_enter i false s)
unfolding set_do_not_enter on_instance
opened_counts i s = (refl, refl)

reopened_counts : (i : ℕ) (order : List ℕ) (s : Core) → Counts s (end_reopens i order s)
unfolding end_reopens
reopened_counts i order s =
    let u = set_do_not_enter i false s in
    then_counts s u (released order u) (opened_counts i s) (shifted_counts (shifts_shifted (released_shifts order u)))

code_counts : (n : ℕ) (order : List ℕ) (s : Core) → Counts s (code_stops n order s)
unfolding code_stops
code_counts n order s =
    let u = end_reopens (instance_of n s) order s in
    then_counts s u (stopped (foot_of n s) u) (reopened_counts (instance_of n s) order s) (stopped_counts (foot_of n s) u)

-- ---- Who came last

-- it has come in the step from b
abbrev pub HasCome : Core → ℕ → Core → Type 0
HasCome b n t = (b.arrivals ≤ came_of n t) × (came_of n t + 1 ≤ t.arrivals)

-- it waits or is held, in a core that counts
pub record LastThere (n : ℕ) (t : Core) : Type 0 where
  pub second : is_second t.version ≡ true
  pub counts : t.arrivals < 18446744073709551615
  pub there : is_at n t is_kept_back ≡ true

arrival_second : (v : Version) (k c : ℕ) → is_second v ≡ true → arrival v k c ≡ k
arrival_second Version.One k c h = absurd (cc)
arrival_second Version.Two k c h = refl

counted_second : (v : Version) (k : ℕ) → is_second v ≡ true → counted_arrival v k < 18446744073709551615 → counted_arrival v k ≡ k + 1
counted_second Version.One k h low = absurd (cc)
counted_second Version.Two k h low = by (nat_lt k 18446744073709551615) refl low
  where
    by : (b : Bool) → nat_lt k 18446744073709551615 ≡ b → (if b then k + 1 else k) < 18446744073709551615 → (if b then k + 1 else k) ≡ k + 1
    by true is low = refl
    by false is low = absurd (grind (arith, nat_tests, is, low))

came_there : (n : ℕ) (p : Place) (u : Core) → is_at n (set_place n p (arrive n u)) is_kept_back ≡ true →
    came_of n (set_place n p (arrive n u)) ≡ arrival u.version u.arrivals (came_of n u)
unfolding arrive on_thread set_place
came_there n p u there = grind (arith, nat_tests, get-change, there)

version_there : (n : ℕ) (p : Place) (u : Core) → (set_place n p (arrive n u)).version ≡ u.version
unfolding arrive on_thread set_place
version_there n p u = refl

arrivals_there : (n : ℕ) (p : Place) (u : Core) → (set_place n p (arrive n u)).arrivals ≡ counted_arrival u.version u.arrivals
unfolding arrive on_thread set_place
arrivals_there n p u = refl

placed_last : (b : Core) (n : ℕ) (p : Place) (u : Core) → Counts b u → LastThere n (set_place n p (arrive n u)) → HasCome b n (set_place n p (arrive n u))
placed_last b n p u same h =
    let second : is_second u.version ≡ true = sym (ap (λ (v : Version). is_second v) (version_there n p u)) ∙ h.second in
    let low : counted_arrival u.version u.arrivals < 18446744073709551615 = subst (λ k. k < 18446744073709551615) (arrivals_there n p u) h.counts in
    let came : came_of n (set_place n p (arrive n u)) ≡ u.arrivals = came_there n p u h.there ∙ arrival_second u.version u.arrivals (came_of n u) second in
    let counted : (set_place n p (arrive n u)).arrivals ≡ u.arrivals + 1 = arrivals_there n p u ∙ counted_second u.version u.arrivals second low in
    let before : u.arrivals ≡ b.arrivals = same.0 in
    (omega (arith, came, before), omega (arith, came, counted))

-- ---- Rules

-- who is left by the rule waiting or held has come last
abbrev pub Rises : Core → ℕ → Progress → Type 0
Rises b n (Stops l new) = LastThere n new → HasCome b n new
Rises b n (Ordered ns next) = (order : List ℕ) → Rises b n (next order)
Rises b n (OneOf ns next) = (m : ℕ) → Rises b n (next m)
Rises b n (Asks next) = (answer : HostPoll) → Rises b n (next answer)
Rises b n p = Unit {0}

module _ (b : Core) (n : ℕ) where
  trap_if_rises : (c : Bool) (y : Trap) (p : Progress) → Rises b n p → Rises b n (trap_if c y p)
  trap_if_rises true y p h = tt
  trap_if_rises false y p h = h

  or_trap_rises : {X : Type 0} (o : Option X) (y : Trap) (next : X → Progress) → ((x : X) → Rises b n (next x)) → Rises b n (or_trap o y next)
  or_trap_rises None y next h = tt
  or_trap_rises (Some x) y next h = h x

  may_rises : (c : Bool) (p : Progress) → Rises b n p → Rises b n (may c p)
  may_rises true p h = h
  may_rises false p h = tt

  or_never_rises : {X : Type 0} (o : Option X) (next : X → Progress) → ((x : X) → Rises b n (next x)) → Rises b n (or_never o next)
  or_never_rises None next h = tt
  or_never_rises (Some x) next h = h x

  elsewhere : (new : Core) → is_at n new is_kept_back ≡ false → LastThere n new → HasCome b n new
  elsewhere new off h = absurd (let bad : false ≡ true = sym off ∙ h.there in cc)

  holds_rises : (w : Why) (u : Core) → Counts b u → LastThere n (take_holds n w u) → HasCome b n (take_holds n w u)
  unfolding take_holds
  holds_rises w u same h =
      let v = stopped (foot_of n u) u in placed_last b n (Place.Held w) v (then_counts b u v same (stopped_counts (foot_of n u) u)) h

put_low_off : (n : ℕ) (w : Why) (u : Core) → is_at n (put_low n w u) is_kept_back ≡ false
unfolding put_low push_low set_place on_thread
put_low_off n w u = grind (arith, nat_tests, get-change)

put_high_off : (n : ℕ) (w : Why) (u : Core) → is_at n (put_high n w u) is_kept_back ≡ false
unfolding put_high push_high set_place on_thread
put_high_off n w u = grind (arith, nat_tests, get-change)

settled_threads : (k : ℕ) (s : Core) → (call_settled k s).threads ≡ s.threads
unfolding call_settled group_settled remove_call remove_group
settled_threads k s = grind arith

interest_threads : (k : ℕ) (s : Core) → (interest_settled k s).threads ≡ s.threads
unfolding interest_settled set_uninteresting on_call
interest_threads k s = grind arith

-- a thread that has ended is gone
ended_off : (n : ℕ) (u : Core) → is_at n (ended n u) is_kept_back ≡ false
unfolding ended remove_thread
ended_off n u =
    let k = task_of n u in
    let over = exited_if (is_explicit n u) k u in
    let f = freed_thread_handle (instance_of n u) (thread_handle_of n u) over in
    let r = remove_thread n f in
    let e : (ended n u).threads ≡ remove f.threads n = settled_threads k (interest_settled k r) ∙ interest_threads k r in
    ap (λ (m : Records Thread). option_map_or is_kept_back (option_map (λ (t : Thread). t.place) (get m n)) false) e
    ∙ ap (λ (o : Option Thread). option_map_or is_kept_back (option_map (λ (t : Thread). t.place) o) false) (get-remove_same f.threads n)

-- ---- The ends of activations

module _ (l : Label) (n : ℕ) (s : Core) where
  exits_rise : (order : List ℕ) → LastThere n (code_exits n order s) → HasCome s n (code_exits n order s)
  unfolding code_exits
  exits_rise order h = elsewhere s n (ended n (checked (instance_of n s) (code_stops n order s))) (ended_off n (checked (instance_of n s) (code_stops n order s))) h

  yields_rise : (order : List ℕ) → LastThere n (code_yields n order s) → HasCome s n (code_yields n order s)
  unfolding code_yields
  yields_rise order h =
      let u = set_task_event (task_of n s) (own_or_none (task_event_of (task_of n s) s)) (code_stops n order s) in
      elsewhere s n (put_low n (Why.Delivery Delivery.Yield) u) (put_low_off n (Why.Delivery Delivery.Yield) u) h

  finds_rise : (x : ℕ) (order : List ℕ) → LastThere n (code_finds n x order s) → HasCome s n (code_finds n x order s)
  unfolding code_finds
  finds_rise x order h =
      elsewhere s n (put_high n (Why.Delivery (Delivery.Set x)) (code_stops n order s)) (put_high_off n (Why.Delivery (Delivery.Set x)) (code_stops n order s)) h

  waits_rise : (x : ℕ) (order : List ℕ) → LastThere n (code_waits n x order s) → HasCome s n (code_waits n x order s)
  unfolding code_waits
  waits_rise x order h = placed_last s n (Place.Waiting x true) (code_stops n order s) (code_counts n order s) h

  wait_kind_rises : (x : ℕ) (b : Bool) → Rises s n (code_wait_rule l n x (held_by_flag (instance_of n s) s) s b)
  wait_kind_rises x true = λ order. finds_rise x order
  wait_kind_rises x false = λ order. waits_rise x order

  kind_rises : (kind rest : ℕ) → Rises s n (code_kind_rule l n (held_by_flag (instance_of n s) s) s kind rest)
  kind_rises zero rest =
      trap_if_rises s n (not (passes_after_stop (instance_of n s) (foot_of n s) (held_by_flag (instance_of n s) s) s)) _ _ (
      trap_if_rises s n (leaves_no_result n s) _ _ (λ order. exits_rise order))
  kind_rises (suc zero) rest = λ order. yields_rise order
  kind_rises (suc (suc zero)) rest = or_trap_rises s n (set_at (instance_of n s) rest s) _ _ (λ x. wait_kind_rises x (has_event_for (task_of n s) x s))
  kind_rises (suc (suc (suc k))) rest = tt

  code_rises : (code : ℕ) → Rises s n (code_rule l n s code)
  code_rises code = trap_if_rises s n (nat_lt 4294967295 code) _ _ (kind_rises (code % 16) (code / 16))

-- ---- Waits

progress_came : (n : ℕ) (h : OpProgress) (u : Core) → came_of n (set_op_progress n h u) ≡ came_of n u
unfolding set_op_progress on_thread
progress_came n h u = grind (arith, nat_tests, get-change)

progress_at : (n : ℕ) (h : OpProgress) (u : Core) → is_at n (set_op_progress n h u) is_kept_back ≡ is_at n u is_kept_back
unfolding set_op_progress on_thread
progress_at n h u = grind (arith, nat_tests, get-change)

progress_counts : (n : ℕ) (h : OpProgress) (u : Core) → Counts u (set_op_progress n h u)
unfolding set_op_progress on_thread
progress_counts n h u = (refl, refl)

-- how far its op has come changes nothing of that
progress_rises : (b : Core) (n : ℕ) (h : OpProgress) (u : Core) → (LastThere n u → HasCome b n u) → LastThere n (set_op_progress n h u) → HasCome b n (set_op_progress n h u)
progress_rises b n h u rises last =
    let same = progress_counts n h u in
    let r = rises (record {
      second = sym (ap (λ (v : Version). is_second v) same.1) ∙ last.second;
      counts = subst (λ k. k < 18446744073709551615) same.0 last.counts;
      there = sym (progress_at n h u) ∙ last.there;
    }) in
    let came = progress_came n h u in
    let arrivals : (set_op_progress n h u).arrivals ≡ u.arrivals = same.0 in
    (omega (arith, r.0, came), omega (arith, r.1, came, arrivals))

module _ (d : Doer) (n : ℕ) (ch : Choice) (s : Core) where
  stops_rise : (x : ℕ) (u : Core) → Counts s u → LastThere n (wait_stops n x u) → HasCome s n (wait_stops n x u)
  unfolding wait_stops
  stops_rise x u same h =
      let v = stopped (foot_of n u) u in
      progress_rises s n (OpProgress.Waits x) (set_place n (Place.Waiting x false) (arrive n v))
      (λ last. placed_last s n (Place.Waiting x false) v (then_counts s u v same (stopped_counts (foot_of n u) u)) last) h

  checked_rise : (x : ℕ) → LastThere n (wait_stops_checked n x s) → HasCome s n (wait_stops_checked n x s)
  unfolding wait_stops_checked
  checked_rise x h = stops_rise x (checked (instance_of n s) s) (checked_counts (instance_of n s) s) h

  goes_on_rises : (x : ℕ) (g : PickedEvent) → Rises s n (wait_goes_on_by d n x ch s g)
  goes_on_rises x NothingPicked = stops_rise x s (refl, refl)
  goes_on_rises x (PickedTaskEvent e) = may_rises s n (may_hand_on x (PickedTaskEvent e) ch.woken s) _ tt
  goes_on_rises x (PickedMember sub) = may_rises s n (may_hand_on x (PickedMember sub) ch.woken s) _ tt

  begins_rises : (x : ℕ) (b : Bool) → Rises s n (wait_begins_by d n ch s x b)
  begins_rises x true = trap_if_rises s n (not (passes_check (instance_of n s) s)) _ _ (checked_rise x)
  begins_rises x false = or_never_rises s n (picked_event (waits_cancellable (task_of n s) s) (task_of n s) x (chosen n ch s) s) _ (λ g. tt)

  found_rises : (h : ℕ) → Rises s n (or_trap (set_at (instance_of n s) h s) Trap.BadHandle (λ x. wait_begins_by d n ch s x (finds_nothing n x s)))
  found_rises h = or_trap_rises s n (set_at (instance_of n s) h s) _ _ (λ x. begins_rises x (finds_nothing n x s))

  wait_rises : (h : ℕ) (far : OpProgress) → Rises s n (wait_rule d n h ch s far)
  wait_rises h (OpProgress.Waits x) = or_never_rises s n (picked_event (waits_cancellable (task_of n s) s) (task_of n s) x (chosen n ch s) s) _ (goes_on_rises x)
  wait_rises h far = found_rises h

-- so of each op that waits or ends an activation
pub op_rises : (c : Component) (n : ℕ) (s : Core) (ch : Choice) (o : Op) → (is_wait o ≡ true) ⊎ (ends_activation o ≡ true) → Rises s n (scripted_op_rule c n s ch o)
op_rises c n s ch (Op.Set (SetOp.Wait r x)) is = wait_rises (own_script (Op.Set (SetOp.Wait r x))) n ch s (value_of n s x) (op_progress_of n s)
op_rises c n s ch (Op.Task TaskOp.CbYield) is = code_rises (Label.Task (TaskLabel.CbYield n)) n s 1
op_rises c n s ch (Op.Task (TaskOp.CbWait x)) is = code_rises (Label.Task (TaskLabel.CbWait n)) n s (16 * value_of n s x + 2)
op_rises c n s ch (Op.Task (TaskOp.Code x)) is = code_rises (Label.Task (TaskLabel.Code n)) n s (value_of n s x)
op_rises c n s ch o (inl is) = absurd (cc)
op_rises c n s ch o (inr is) = absurd (cc)

-- ---- Takings

module _ (m : Mark) (n : ℕ) (ch : Choice) (s : Core) where
  again_rises : (x : ℕ) → LastThere n (wait_again n x s) → HasCome s n (wait_again n x s)
  unfolding wait_again
  again_rises x h = placed_last s n (Place.Waiting x true) (stopped (foot_of n s) s) (stopped_counts (foot_of n s) s) h

  given_rises : (x : ℕ) (g : PickedEvent) → Rises s n (set_delivered m n x ch s g)
  given_rises x NothingPicked = again_rises x
  given_rises x (PickedTaskEvent e) = may_rises s n (may_hand_on x (PickedTaskEvent e) ch.woken s) _ tt
  given_rises x (PickedMember sub) = may_rises s n (may_hand_on x (PickedMember sub) ch.woken s) _ tt

  delivered_rises : (d : Delivery) → Rises s n (delivered m n ch s d)
  delivered_rises (Delivery.Set x) = or_never_rises s n (picked_event true (task_of n s) x (chosen n ch s) s) _ (given_rises x)
  delivered_rises d = tt

  delivery_rises : (d : Delivery) (b : Bool) → Rises s n (delivery_rule m n ch s d b)
  delivery_rises d true = delivered_rises d
  delivery_rises d false = holds_rises s n (Why.Delivery d) s (refl, refl)

  start_holds_rises : (w : Option ℕ) → LastThere n (start_holds n w s) → HasCome s n (start_holds n w s)
  unfolding start_holds
  start_holds_rises w h = holds_rises s n Why.Start (starting_told (task_of n s) w s) (starting_counts (task_of n s) w s) h

  admitted_rises : (w : Option ℕ) (b : Bool) → Rises s n (start_admitted m n w s b)
  admitted_rises w true = tt
  admitted_rises w false = trap_if_rises s n (at_handle_limit s) _ _ (may_rises s n (may_tell (task_of n s) w s) _ tt)

  start_rises : (w : Option ℕ) (b : Bool) → Rises s n (start_rule m n w s b)
  start_rises w true = admitted_rises w (is_explicit n s)
  start_rises w false = may_rises s n (may_tell_starting (task_of n s) w s) _ (start_holds_rises w)

  taken_rises : (w : Why) → Rises s n (thread_taken_for m n ch s w)
  taken_rises Why.Start = start_rises ch.woken (admits n s Why.Start)
  taken_rises (Why.Delivery d) = delivery_rises d (admits n s (Why.Delivery d))
  taken_rises Why.Resumption = tt

  pub thread_rises : (o : Option Place) → Rises s n (thread_taken m n ch s o)
  thread_rises (Some (Place.Ready x w)) = taken_rises w
  thread_rises o = tt

-- ---- What a step by the rule comes to

pub rises_led : (s : State) (base : Core) (n : ℕ) (p : Progress) (l : Label) (t : State) → Rises base n p → Progresses s base n p l t → t.turn ≡ Turn.Main →
    LastThere n t.core → HasCome base n t.core
unfolding at_turn
rises_led s base n (Continues k new m) l t h led turn last = absurd (let bad : Turn.Run m ≡ Turn.Main = sym (ap (λ (u : State). u.turn) led.1) ∙ turn in cc)
rises_led s base n (Stops k new) l t h led turn last =
    subst (λ (u : State). HasCome base n u.core) (sym led.1) (h (subst (λ (u : State). LastThere n u.core) led.1 last))
rises_led s base n (Traps y) l t h led turn last = absurd (let bad : Turn.Over ≡ Turn.Main = sym (ap (λ (u : State). u.turn) led.1) ∙ turn in cc)
rises_led s base n (Fails i) l t h led turn last = absurd (let bad : Turn.Over ≡ Turn.Main = sym (ap (λ (u : State). u.turn) led.1) ∙ turn in cc)
rises_led s base n Never l t h led turn last = absurd led
rises_led s base n (Ordered ns next) l t h led turn last = rises_led s base n (next led.0) l t (h led.0) led.1.1 turn last
rises_led s base n (OneOf ns next) l t h led turn last = rises_led s base n (next led.0) l t (h led.0) led.1.1 turn last
rises_led s base n (Asks next) l t h led turn last = rises_led s base n (next led.0) l t (h led.0) led.1 turn last
