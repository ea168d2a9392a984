-- What is so of nothing, of a wake, of a member that is taken, and of a release is so of each offer.
use Rattle.laws_choices.specs.Offer.{Offer}
use Rattle.laws_choices.specs.Offers.{call_offer, cancel_found_offer, cancel_offer, cancel_offer_by, code_kind_offer, code_offer, dec_offer, delivery_offer, gives, gives_woken, join_done_offer, join_offer, join_to_offer, kind_exit_offer, nothing, of_found, op_offer, releases, set_offer, start_offer, take_offer, takes_of, task_offer, tells, thread_offer, unless, wait_offer, wakes, wakes_in, wakes_new, why_offer}
use Rattle.machine_rules.proofs.Machine.{Bool, Core, Delivery, Entry, ExportKind, Join, None, Op, OpProgress, Option, Place, SetOp, Some, Status, Subtask, TaskOp, Why, admits, at_handle_limit, backpressure_of, cancel_was_delivered, event_of, false, finds_nothing, foot_of, goal_of, has_ended, has_ready_member, held_by_flag, if◌then◌else◌, instance_of, is_async_lifted, is_direct, is_explicit, is_some, is_told, is_watched, join_of, kind_of, leaves_no_result, nat_lt, not, op_progress_of, passes_after_return, passes_after_stop, picked_task_event_of, place_of, set_at, starting_is_published, subtask_at, suc, task_of, true, value_of, zero, ℕ, ◌%◌, ◌*◌, ◌+◌, ◌/◌}
use Rattle.machine_data.specs.Moves.{waits_cancellable}
use Rattle.machine_data.specs.Read.{is_joined}
use Rattle.machine_data.specs.declared.op.CallOp.TheVariants as call_op
use Rattle.machine_data.specs.declared.op.CallOp.{CallOp}
use Rattle.machine_rules.specs.Cancels.{CancelCase, ThreadWaits, cancel_case, cancellable}
use Rattle.machine_rules.specs.Task.{held_by_counter}
use Rattle.std.specs.Prelude.{[], ◌≡◌}
use Rattle.std.proofs.Common.{refl}

module _ (P : Offer → Type 0) where
  either : (b : Bool) (o q : Offer) → P o → P q → P (if b then o else q)
  either true o q h k = h
  either false o q h k = k

module _ (P : Offer → Type 0) (s : Core) (none : P nothing) (wake : (x : ℕ) → P (wakes x s)) where
  joined_has : (j : Join) → P (wakes_in j s)
  joined_has (Join.Set x) = wake x
  joined_has Join.Nowhere = none
  joined_has (Join.Watched n) = none

  unless_has : (b : Bool) (o : Offer) → P o → P (unless b o)
  unless_has true o h = none
  unless_has false o h = h

  found_has : {X : Type 0} (a : Option X) (o : X → Offer) → ((x : X) → P (o x)) → P (of_found a o)
  found_has None o h = none
  found_has (Some x) o h = h x

  tells_has : (k : ℕ) → P (tells k s)
  tells_has k = either P (is_told k s) _ _ (joined_has (join_of (Subtask.Guest k) s)) none

  -- ---- Joins

  new_has : (e : Option Status) (x : Option ℕ) → P (wakes_new e x s)
  new_has (Some e) (Some x) = wake x
  new_has (Some e) None = none
  new_has None x = none

  join_done_has : (sub : Subtask) (x : Option ℕ) → P (join_done_offer sub s x)
  join_done_has sub x = unless_has (is_watched (join_of sub s)) _ (new_has (event_of sub s) x)

  join_to_has : (n h : ℕ) (sub : Subtask) → P (join_to_offer n h s sub)
  join_to_has n zero sub = join_done_has sub None
  join_to_has n (suc h) sub = found_has (set_at (instance_of n s) (suc h) s) _ (λ x. join_done_has sub (Some x))

  pub join_has : (n h y : ℕ) → P (join_offer n h y s)
  join_has n h y = found_has (subtask_at (instance_of n s) h s) _ (λ sub. join_to_has n y sub)

  -- ---- Cancels

  -- one of several threads is taken
  module _ (cancel : (k : ℕ) → P (record { waiters = cancellable k s; members = []; held = [] })) (n : ℕ) where
    cancel_by_has : (k : ℕ) (x : CancelCase) → P (cancel_offer_by k s x)
    cancel_by_has k ThreadWaits = cancel k
    cancel_by_has k _ = none

    cancel_found_has : (sub : Subtask) → P (cancel_found_offer s sub)
    cancel_found_has (Subtask.Guest k) = unless_has (is_joined (join_of (Subtask.Guest k) s)) _ (cancel_by_has k (cancel_case k s))
    cancel_found_has (Subtask.Host i) = none

    cancel_has : (h : ℕ) (far : OpProgress) → P (cancel_offer n h s far)
    cancel_has h (OpProgress.Cancels sub) = none
    cancel_has h (OpProgress.AwaitsEnd sub) = none
    cancel_has h _ = found_has (subtask_at (instance_of n s) h s) _ cancel_found_has

    pub call_has : (o : CallOp) → P (call_offer n s o)
    call_has (call_op.Cancel r x) = cancel_has (value_of n s x) (op_progress_of n s)
    call_has (call_op.CancelSync r x) = cancel_has (value_of n s x) (op_progress_of n s)
    call_has _ = none

  -- ---- Ops on tasks

  module _ (flag : (i : ℕ) (o : Offer) → P o → P (releases (held_by_flag i s) o)) (counter : (i : ℕ) (o : Offer) → P o → P (releases (held_by_counter i s) o)) (n : ℕ) where
    code_kind_has : (code rest : ℕ) → P (code_kind_offer n (held_by_flag (instance_of n s) s) s code rest)
    code_kind_has zero rest =
        unless_has (not (passes_after_stop (instance_of n s) (foot_of n s) (held_by_flag (instance_of n s) s) s)) _ (unless_has (leaves_no_result n s) _ (flag (instance_of n s) nothing none))
    code_kind_has (suc zero) rest = flag (instance_of n s) nothing none
    code_kind_has (suc (suc zero)) rest = found_has (set_at (instance_of n s) rest s) _ (λ x. flag (instance_of n s) nothing none)
    code_kind_has (suc (suc (suc code))) rest = none

    code_has : (code : ℕ) → P (code_offer n s code)
    code_has code = unless_has (nat_lt 4294967295 code) _ (code_kind_has (code % 16) (code / 16))

    kind_exit_has : (x : ExportKind) → P (kind_exit_offer n s x)
    kind_exit_has ExportKind.Sync = tells_has (task_of n s)
    kind_exit_has ExportKind.Blocking = unless_has (not (passes_after_return n None s)) _ (flag (instance_of n s) (tells (task_of n s) s) (tells_has (task_of n s)))
    kind_exit_has ExportKind.Stackful = none
    kind_exit_has ExportKind.Callback = code_has 0

    dec_has : (b : ℕ) → P (dec_offer n s b)
    dec_has zero = none
    dec_has (suc zero) = counter (instance_of n s) nothing none
    dec_has (suc (suc b)) = none

    pub task_has : (o : TaskOp) → P (task_offer n s o)
    task_has (TaskOp.Ret x) = unless_has (has_ended (task_of n s) s) _ (unless_has (not (is_async_lifted (kind_of (task_of n s) s))) _ (tells_has (task_of n s)))
    task_has (TaskOp.RetBad x) = none
    task_has TaskOp.TaskCancel = unless_has (not (cancel_was_delivered (task_of n s) s)) _ (unless_has (has_ended (task_of n s) s) _ (tells_has (task_of n s)))
    task_has TaskOp.Exit =
        either P (is_explicit n s) _ _ none (either P (is_direct (goal_of (task_of n s) s)) _ _ none (kind_exit_has (kind_of (task_of n s) s)))
    task_has TaskOp.CbYield = code_has 1
    task_has (TaskOp.CbWait x) = code_has (16 * value_of n s x + 2)
    task_has (TaskOp.Code x) = code_has (value_of n s x)
    task_has TaskOp.BpInc = none
    task_has TaskOp.BpDec = dec_has (backpressure_of (instance_of n s) s)

  -- ---- Takings of a member's event

  module _ (n : ℕ) (take : (x : ℕ) → P (takes_of n x s)) where
    gives_has : (b : Bool) (x : ℕ) → P (gives b n x s)
    gives_has b x = either P (is_some (picked_task_event_of b (task_of n s) s)) _ _ none (take x)

    woken_has : (b : Bool) (x : ℕ) → P (gives_woken b n x s)
    woken_has b x = either P (is_some (picked_task_event_of b (task_of n s) s)) _ _ (either P (has_ready_member x s) _ _ (wake x) none) (take x)

    -- whether `wait` may take Cancelled
    abbrev may_cancel : Bool
    may_cancel = waits_cancellable (task_of n s) s

    begins_has : (h : ℕ) → P (of_found (set_at (instance_of n s) h s) (λ x. if finds_nothing n x s then nothing else gives may_cancel n x s))
    begins_has h = found_has (set_at (instance_of n s) h s) _ (λ x. either P (finds_nothing n x s) _ _ none (gives_has may_cancel x))

    wait_has : (h : ℕ) (far : OpProgress) → P (wait_offer n h s far)
    wait_has h (OpProgress.Waits x) = woken_has may_cancel x
    wait_has h _ = begins_has h

    pub set_has : (o : SetOp) → P (set_offer n s o)
    set_has (SetOp.New r) = none
    set_has (SetOp.Drop x) = none
    set_has (SetOp.Wait r x) = wait_has (value_of n s x) (op_progress_of n s)
    set_has (SetOp.Poll r x) = found_has (set_at (instance_of n s) (value_of n s x) s) _ (λ y. gives_has false y)
    set_has (SetOp.Join x y) = join_has n (value_of n s x) (value_of n s y)

    start_has : (b : Bool) → P (start_offer n s b)
    start_has true = either P (is_explicit n s) _ _ none (unless_has (at_handle_limit s) _ (tells_has (task_of n s)))
    start_has false = either P (starting_is_published (task_of n s) s) _ _ none (tells_has (task_of n s))

    delivery_has : (d : Delivery) (b : Bool) → P (delivery_offer n s d b)
    delivery_has (Delivery.Set x) true = woken_has true x
    delivery_has (Delivery.Set x) false = none
    delivery_has Delivery.Yield b = none
    delivery_has Delivery.Cancel b = none

    why_has : (y : Why) → P (why_offer n s y)
    why_has Why.Start = start_has (admits n s Why.Start)
    why_has (Why.Delivery d) = delivery_has d (admits n s (Why.Delivery d))
    why_has Why.Resumption = none

    thread_has : (p : Option Place) → P (thread_offer n s p)
    thread_has (Some (Place.Ready m y)) = why_has y
    thread_has _ = none

    pub thread_taken_has : P (take_offer s (Entry.Thread n))
    thread_taken_has = thread_has (place_of n s)

    pub op_has : ((i : ℕ) (o : Offer) → P o → P (releases (held_by_flag i s) o)) → ((i : ℕ) (o : Offer) → P o → P (releases (held_by_counter i s) o)) → (o : Op) → ((y : CallOp) → o ≡ Op.Call y → P (call_offer n s y)) → P (op_offer n s o)
    op_has flag counter (Op.Task o) call = task_has flag counter n o
    op_has flag counter (Op.Set o) call = set_has o
    op_has flag counter (Op.Data o) call = none
    op_has flag counter (Op.Call o) call = call o refl
    op_has flag counter (Op.Thread o) call = none

  pub host_has : (i : ℕ) → P (take_offer s (Entry.Host i))
  host_has i = joined_has (join_of (Subtask.Host i) s)

  pub take_has : (e : Entry) → ((n x : ℕ) → P (takes_of n x s)) → P (take_offer s e)
  take_has (Entry.Thread n) take = thread_has n (take n) (place_of n s)
  take_has (Entry.Push i) take = none
  take_has (Entry.Host i) take = host_has i
