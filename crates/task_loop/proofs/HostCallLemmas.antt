-- What a store holds of host works once an instance has called a host.
use Rattle.std.proofs.Common.{ap, arith, refl, subst, sym, ◌∙◌}
use Rattle.std.proofs.lemmas.Bool.Decides.{nat_tests}
use Rattle.std.specs.Option.{option_map}
use Rattle.std.specs.Prelude.{Bool, Err, IfSome, Ok, None, Option, Result, Some, cond, false, is_ok, not, suc, true, zero, ℕ, ◌+◌, ◌-◌, ◌==◌, ◌≡◌}
use Rattle.store_works.specs.KeptWorks.{HeldWork, after_poll}
use Rattle.ops_dispatch.proofs.CallLemmas.{host_makes_none, sync_host_makes_none}
use Rattle.ops_state.specs.declared.error.TaskError.{TaskError}
use Rattle.ops_state.specs.declared.error.TaskError.TheVariants as task_error
use Rattle.ops_calls.specs.OpAnswers.{answered, at_once, number_answered, value_answered}
use Rattle.ops_calls.specs.HostOps.{Answers, Did, Does}
use Rattle.ops_calls.specs.PolledCalls.{blocks_rule, polls_rule}
use Rattle.ops_calls.specs.declared.answer_calls.Step.{Step}
use Rattle.ops_calls.specs.declared.answer_calls.Step.TheVariants as step
use Rattle.machine_data.proofs.CommuteLemmas.{get-change}
use Rattle.machine_data.specs.Core.{Core}
use Rattle.machine_data.specs.Labels.{Choice}
use Rattle.machine_data.specs.Maps.{get}
use Rattle.machine_data.specs.Moves.{checked, passes_check}
use Rattle.machine_data.specs.Read.{at_handle_limit, fits, foot_of, instance_of, new_handle, thread_group}
use Rattle.machine_data.specs.Statuses.{packed}
use Rattle.machine_data.specs.Write.{give_handle, on_thread, on_work, set_op_progress, set_place, set_subtask_handle}
use Rattle.store_works.specs.Course.{MayTell, told_after}
use Rattle.store_works.specs.KeptWorks.{MayAnswer}
use Rattle.ops_subtasks.specs.First.{first_heard}
use Rattle.machine_data.specs.declared.component.HostDef.{HostDef}
use Rattle.machine_data.specs.declared.component.HostDef.TheVariants as host_def
use Rattle.machine_data.specs.declared.statuses.HostPoll.{HostPoll}
use Rattle.machine_data.specs.declared.statuses.HostPoll.TheVariants as host_poll
use Rattle.task_store.specs.declared.store.Store.{Store}
use Rattle.machine_data.specs.declared.label.CallLabel.TheVariants as call_label
use Rattle.machine_data.specs.declared.label.Label.TheVariants as label
use Rattle.machine_data.specs.declared.records.OpProgress.TheVariants as op_progress
use Rattle.machine_data.specs.declared.records.MadeCounts.{MadeCounts}
use Rattle.machine_data.specs.declared.records.Subtask.{Subtask}
use Rattle.machine_data.specs.declared.records.Subtask.TheVariants as subtask
use Rattle.machine_data.specs.declared.records.WorkCaller.TheVariants as callers
use Rattle.machine_data.specs.declared.trap.Trap.{Trap}
use Rattle.machine_data.specs.declared.trap.Trap.TheVariants as trap
use Rattle.machine_data.specs.declared.statuses.Status.TheVariants as status
use Rattle.ops_guests.specs.OpResult.{Implements}
use Rattle.ops_guests.specs.Stays.{StaysAfter}
use Rattle.ops_guests.specs.declared.op_result.OpResult.{OpResult}
use Rattle.ops_guests.specs.declared.op_result.OpResult.TheVariants as op_result
use Rattle.machine_rules.proofs.PlacingLemmas.{Shifted, placing_shifted, shifted_made, shifts_shifted}
use Rattle.machine_rules.proofs.WalkMoves.{checked_shifts}
use Rattle.machine_rules.specs.Calls.{AtOnce, Failing, FirstPoll, Later, call_host_by, call_stops, call_sync_host_by, call_sync_host_stops, host_with_handle, next_work, with_handle, work_queued}
use Rattle.machine_rules.specs.Finish.{SomeHost}
use Rattle.machine_rules.specs.Progress.{Continues, Progress, Stops, trap_if}
use Rattle.machine_rules.specs.Primitives.{Stop}
use Rattle.task_store.proofs.HostLemmas.{holds_below, holds_queued, holds_same, holds_told, says}
use Rattle.task_store.specs.Hosts.{HoldsWorks, WorksNumbered, running, settled}
use Rattle.ops_turns.specs.Turn.{running_of}
use Rattle.core_primitives.specs.StateView.{StateView}
use Rattle.ops_guests.specs.declared.op_result.OpAnswer.{OpAnswer}

-- ---- What is left of a work after its first poll

same_value : (v w : ℕ) → AtOnce v ≡ AtOnce w → v ≡ w
same_value v w h = cc

same_later : (d l : HostDef) → Later d ≡ Later l → d ≡ l
same_later d l h = cc

-- what is held of a work whose first poll found a value, or that pends
after_value : (d : HostDef) (a : HostPoll) → MayTell d a → (v : ℕ) → first_heard d a ≡ AtOnce v → after_poll (Some a) (running d) ≡ None
after_value (host_def.Settled None w) a tells v h = absurd (cc)
after_value (host_def.Settled (Some zero) None) a tells v h = absurd (cc)
after_value (host_def.Settled (Some zero) (Some w)) a tells v h = rw tells refl
after_value (host_def.Settled (Some (suc n)) w) a tells v h = absurd (cc)
after_value host_def.Open host_poll.Pending tells v h = absurd (cc)
after_value host_def.Open (host_poll.Value w) tells v h = refl
after_value host_def.Open host_poll.Failed tells v h = absurd (cc)

after_later : (d : HostDef) (a : HostPoll) → MayTell d a → (l : HostDef) → first_heard d a ≡ Later l → after_poll (Some a) (running d) ≡ running l
after_later (host_def.Settled None v) a tells l h = rw tells (ap (λ (e : HostDef). running e) (same_later (host_def.Settled None v) l h))
after_later (host_def.Settled (Some zero) None) a tells l h = absurd (cc)
after_later (host_def.Settled (Some zero) (Some v)) a tells l h = absurd (cc)
after_later (host_def.Settled (Some (suc n)) v) a tells l h = rw tells (ap (λ (e : HostDef). running e) (same_later (host_def.Settled (Some n) v) l h))
after_later host_def.Open host_poll.Pending tells l h = ap (λ (e : HostDef). running e) (same_later host_def.Open l h)
after_later host_def.Open (host_poll.Value v) tells l h = absurd (cc)
after_later host_def.Open host_poll.Failed tells l h = absurd (cc)

-- ---- The works after a call

shifted_works : {s t : Core} → Shifted s t → t.works ≡ s.works
shifted_works h = sym (ap (λ (c : Core). c.works) h.only)

stops_works : (n : ℕ) (sub : Subtask) (s : Core) → (call_stops n sub s).works ≡ s.works
unfolding call_stops set_op_progress set_place on_thread
stops_works n sub s = shifted_works (placing_shifted (Stop (foot_of n s)) s)

pending_says : (n q : ℕ) (host : HostDef) (s : Core) (j : ℕ) → option_map says (get (set_op_progress n op_progress.Fresh (host_with_handle n q host s)).works j) ≡ option_map says (get (work_queued (callers.Async n q) host (Some (thread_group n s)) s).works j)
unfolding host_with_handle with_handle set_subtask_handle give_handle on_work set_op_progress on_thread
pending_says n q host s j = grind (arith, nat_tests, get-change)

module _ (s : Core) (left right : ℕ → Option HeldWork) (numbered : WorksNumbered s) (h : HoldsWorks left s) where
  -- none was made
  unmade : (t : Core) → t.works ≡ s.works → ((i : ℕ) → right i ≡ cond (next_work s == i) None (left i)) → HoldsWorks right t
  unmade t works is = holds_same s t right works (holds_below s left right numbered is h)

  pending : (n q : ℕ) (host : HostDef) → ((i : ℕ) → right i ≡ cond (next_work s == i) (running host) (left i)) → HoldsWorks right (set_op_progress n op_progress.Fresh (host_with_handle n q host s))
  pending n q host is =
      let f = callers.Async n q in let g = Some (thread_group n s) in
      holds_told (work_queued f host g s) (set_op_progress n op_progress.Fresh (host_with_handle n q host s)) right (pending_says n q host s) (holds_queued f host g s left right is h)

  stopped : (n : ℕ) (host : HostDef) → ((i : ℕ) → right i ≡ cond (next_work s == i) (running host) (left i)) → HoldsWorks right (call_sync_host_stops n host s)
  unfolding call_sync_host_stops
  stopped n host is =
      let u = checked (instance_of n s) s in let f = callers.Sync n in let g = Some (thread_group n s) in
      let moved = shifts_shifted (checked_shifts (instance_of n s) s) in
      let works = shifted_works moved in
      let made = shifted_made moved in
      let next : (i : ℕ) → right i ≡ cond (next_work u == i) (running host) (left i) = λ i. is i ∙ ap (λ (m : MadeCounts). cond (m.works + 1 == i) (running host) (left i)) (sym made) in
      let queued = holds_queued f host g u left right next (holds_same s u left works h) in
      holds_same (work_queued f host g u) (call_stops n (subtask.Host (next_work s)) (work_queued f host g u)) right (stops_works n (subtask.Host (next_work s)) (work_queued f host g u)) queued

-- ---- By what was answered

refused_same : {A : Type 0} (f : OpAnswer → A) (r : OpResult) (why : TaskError) (s t : StateView) → Err why ≡ answered f r → StaysAfter r s t → t ≡ s
refused_same f (op_result.Continues l m said) why s t e stays = absurd (cc)
refused_same f (op_result.Stops l) why s t e stays = absurd (cc)
refused_same f (op_result.Traps w) why s t e stays = stays
refused_same f (op_result.Fails i) why s t e stays = stays

not_trapped : {A : Type 0} (f : OpAnswer → A) (r : OpResult) (a : Step A) (why : Trap) → Ok a ≡ answered f r → r ≡ op_result.Traps why → ⊥
not_trapped f r a why e is = let t = e ∙ ap (answered f) is in cc

not_failed : {A : Type 0} (f : OpAnswer → A) (r : OpResult) (a : Step A) (i : ℕ) → Ok a ≡ answered f r → r ≡ op_result.Fails i → ⊥
not_failed f r a i e is = let t = e ∙ ap (answered f) is in cc

module _ (host : HostDef) (told : HostPoll) (tells : MayTell host told) (s t : StateView) (n : ℕ) (runs : running_of s ≡ Some n) (left right : ℕ → Option HeldWork) (numbered : WorksNumbered s.core) (h : HoldsWorks left s.core) where
  does_of : (row : ℕ → Choice → Progress) (r : OpResult) → Did row s r t → Does (row n) n s r t
  does_of row r did = subst (λ (o : Option ℕ). IfSome o (λ k. Does (row k) k s r t)) runs did

  -- nothing was changed
  as_before : t ≡ s → ((i : ℕ) → right i ≡ cond (next_work s.core == i) None (left i)) → HoldsWorks right t.core
  as_before same is = unmade s.core left right numbered h t.core (ap (λ (v : StateView). v.core.works) same) is

  refused : {A : Type 0} (f : OpAnswer → A) (row : ℕ → Choice → Progress) (why : TaskError) (r : OpResult) → Did row s r t → Err why ≡ answered f r → ((i : ℕ) → right i ≡ cond (next_work s.core == i) None (left i)) → HoldsWorks right t.core
  refused f row why r did e is = as_before (refused_same f r why s t e (does_of row r did).stays) is

  module _ (is : (i : ℕ) → right i ≡ cond (next_work s.core == i) (after_poll (Some told) (running host)) (left i)) where
    after : (o : Option HeldWork) → after_poll (Some told) (running host) ≡ o → (i : ℕ) → right i ≡ cond (next_work s.core == i) o (left i)
    after o e i = is i ∙ ap (λ (x : Option HeldWork). cond (next_work s.core == i) x (left i)) e

    polled : (q : ℕ) (a : Step ℕ) (r : OpResult) → Ok a ≡ answered number_answered r → (p : FirstPoll) → first_heard host told ≡ p → Implements (call_host_by SomeHost n q s.core p) s.core r t.core → HoldsWorks right t.core
    polled q a r e (AtOnce v) first met = unmade s.core left right numbered h t.core (host_makes_none s.core t.core n SomeHost q (AtOnce v) r met refl) (after None (after_value host told tells v first))
    polled q a r e Failing first met = absurd (not_failed number_answered r a (next_work s.core) e met.0)
    polled q a r e (Later d) first met = by (not (fits 1 s.core)) (at_handle_limit s.core) met
      where
        v : ℕ
        v = packed (new_handle (instance_of n s.core) s.core) status.Started

        done : Progress
        done = Continues (label.Call (call_label.CallPolls v n (next_work s.core))) (set_op_progress n op_progress.Fresh (host_with_handle n q d s.core)) n

        by : (b c : Bool) → Implements (trap_if b trap.TableFull (trap_if c trap.HandleLimit done)) s.core r t.core → HoldsWorks right t.core
        by true c m = absurd (not_trapped number_answered r a trap.TableFull e m.0)
        by false true m = absurd (not_trapped number_answered r a trap.HandleLimit e m.0)
        by false false m = subst (HoldsWorks right) (sym m.1) (pending s.core left right numbered h n q d (after (running d) (after_later host told tells d first)))

    blocked : (a : Step ℕ) (r : OpResult) → Ok a ≡ answered value_answered r → (p : FirstPoll) → first_heard host told ≡ p → Implements (call_sync_host_by SomeHost n s.core p) s.core r t.core → HoldsWorks right t.core
    blocked a r e (AtOnce v) first met = unmade s.core left right numbered h t.core (sync_host_makes_none s.core t.core n SomeHost (AtOnce v) r met refl) (after None (after_value host told tells v first))
    blocked a r e Failing first met = absurd (not_failed value_answered r a (next_work s.core) e met.0)
    blocked a r e (Later d) first met = by (not (fits 1 s.core)) (not (passes_check (instance_of n s.core) s.core)) met
      where
        done : Progress
        done = Stops (label.Call (call_label.PausesPolls n (next_work s.core))) (call_sync_host_stops n d s.core)

        by : (b c : Bool) → Implements (trap_if b trap.TableFull (trap_if c trap.CannotBlockSyncTask done)) s.core r t.core → HoldsWorks right t.core
        by true c m = absurd (not_trapped value_answered r a trap.TableFull e m.0)
        by false true m = absurd (not_trapped value_answered r a trap.CannotBlockSyncTask e m.0)
        by false false m = subst (HoldsWorks right) (sym m.1) (stopped s.core left right numbered h n d (after (running d) (after_later host told tells d first)))

  -- what is held after a call that goes on
  pub polled_holds : (q : ℕ) (a : Result ℕ TaskError) → Answers true (polls_rule q (first_heard host told) s.core) number_answered s (at_once a) t → ((i : ℕ) → right i ≡ cond (next_work s.core == i) (settled (is_ok a) told (running host)) (left i)) → HoldsWorks right t.core
  polled_holds q (Ok v) answers is = let did = answers.1.0 in polled is q (step.Done v) answers.0 answers.1.1 (first_heard host told) refl (does_of (polls_rule q (first_heard host told) s.core) answers.0 did).implements
  polled_holds q (Err task_error.NoMemory) answers is = as_before answers.1 is
  polled_holds q (Err (task_error.Trap w)) answers is = refused number_answered (polls_rule q (first_heard host told) s.core) (task_error.Trap w) answers.0 answers.1.0 answers.1.1 is
  polled_holds q (Err (task_error.HostFailed i)) answers is = refused number_answered (polls_rule q (first_heard host told) s.core) (task_error.HostFailed i) answers.0 answers.1.0 answers.1.1 is

  -- and after one that waits for its value
  pub blocked_holds : (a : Result (Step ℕ) TaskError) → Answers true (blocks_rule (first_heard host told) s.core) value_answered s a t → ((i : ℕ) → right i ≡ cond (next_work s.core == i) (settled (is_ok a) told (running host)) (left i)) → HoldsWorks right t.core
  blocked_holds (Ok v) answers is = let did = answers.1.0 in blocked is v answers.0 answers.1.1 (first_heard host told) refl (does_of (blocks_rule (first_heard host told) s.core) answers.0 did).implements
  blocked_holds (Err task_error.NoMemory) answers is = as_before answers.1 is
  blocked_holds (Err (task_error.Trap w)) answers is = refused value_answered (blocks_rule (first_heard host told) s.core) (task_error.Trap w) answers.0 answers.1.0 answers.1.1 is
  blocked_holds (Err (task_error.HostFailed i)) answers is = refused value_answered (blocks_rule (first_heard host told) s.core) (task_error.HostFailed i) answers.0 answers.1.0 answers.1.1 is

-- ---- What the store holds beside the call

own : (k : ℕ) (o p : Option HeldWork) → cond (k == k) o p ≡ o
own k o p = grind (arith, nat_tests)

over : (b : Bool) (o p q : Option HeldWork) → cond b o (cond b p q) ≡ cond b o q
over true o p q = refl
over false o p q = refl

-- the work is held under the number that it was given
pub own_held : (k n : ℕ) (d : HostDef) (left held : ℕ → Option HeldWork) → n ≡ k → ((i : ℕ) → held i ≡ cond (k == i) (running d) (left i)) → held n ≡ running d
own_held k n d left held same is = ap held same ∙ (is k ∙ own k (running d) (left k))

-- what is held at last: the work was held, polled, and let go if its call was refused
pub after_settled : (k n : ℕ) (d : HostDef) (told : HostPoll) (made : Bool) (left held polled right : ℕ → Option HeldWork) → n ≡ k → ((i : ℕ) → held i ≡ cond (k == i) (running d) (left i)) →
    ((i : ℕ) → polled i ≡ cond (n == i) (after_poll (Some told) (held n)) (held i)) → ((i : ℕ) → right i ≡ cond made (polled i) (cond (n == i) None (polled i))) →
    (i : ℕ) → right i ≡ cond (k == i) (settled made told (running d)) (left i)
after_settled k n d told made left held polled right same is asked after i = by made (after i)
  where
    now : polled i ≡ cond (k == i) (after_poll (Some told) (running d)) (left i)
    now =
        asked i
        ∙ (ap (λ (o : Option HeldWork). cond (n == i) (after_poll (Some told) o) (held i)) (own_held k n d left held same is)
        ∙ (ap (λ (m : ℕ). cond (m == i) (after_poll (Some told) (running d)) (held i)) same
        ∙ (ap (λ (o : Option HeldWork). cond (k == i) (after_poll (Some told) (running d)) o) (is i)
        ∙ over (k == i) (after_poll (Some told) (running d)) (running d) (left i))))

    by : (b : Bool) → right i ≡ cond b (polled i) (cond (n == i) None (polled i)) → right i ≡ cond (k == i) (settled b told (running d)) (left i)
    by true e = e ∙ now
    by false e =
        e
        ∙ (ap (λ (m : ℕ). cond (m == i) None (polled i)) same
        ∙ (ap (λ (o : Option HeldWork). cond (k == i) None o) now
        ∙ over (k == i) None (after_poll (Some told) (running d)) (left i)))

-- the work that is held runs, so it is polled, and answers as it may
pub held_answers : (d : HostDef) (o : Option HeldWork) (told : HostPoll) → o ≡ running d → MayAnswer o (Some told) → MayTell d told
held_answers d o told is may = subst (λ (p : Option HeldWork). MayAnswer p (Some told)) is may

-- the store after its work was held, polled and settled
pub settle_rest : {T H G : Type 0} (held polled m : Store T H G) (u : StateView) → polled ≡ record held { value = polled.value; works = polled.works } →
    m ≡ record (record polled { state = u }) { works = m.works } → m ≡ record (record held { state = u }) { value = m.value; works = m.works }
settle_rest {T} {H} {G} held polled m u is to =
    let value : m.value ≡ polled.value = ap (λ (k : Store T H G). k.value) to in
    to ∙ (ap (λ (k : Store T H G). record (record k { state = u }) { works = m.works }) is
    ∙ ap (λ (v : T). record (record held { state = u }) { value = v; works = m.works }) (sym value))

-- each host may answer something
pub may_tell : (d : HostDef) → (told : HostPoll) × MayTell d told
may_tell (host_def.Settled polls value) = (told_after polls value, refl)
may_tell host_def.Open = (host_poll.Pending, tt)
