-- What a store holds of host works stays over an op that an instance has its running thread do.
use Rattle.laws_order.proofs.CellLemmas.{nobody, nothing_spawned}
use Rattle.ops_calls.proofs.HostOpLemmas.{met_progresses}
use Rattle.machine_rules.proofs.WalkSteps.{host_rules_walk}
use Rattle.machine_rules.specs.Chains.{HostRulesAreWalks}
use Rattle.machine_rules.specs.Finish.{SomeHost}
use Rattle.machine_rules.specs.Threads.{resume_later_by, resume_later_rule}
use Rattle.machine_rules.specs.Task.{ret_rule}
use Rattle.laws_order.specs.Cells.{Runs, RunsWorks}
use Rattle.store_works.specs.KeptWorks.{HeldWork}
use Rattle.std.proofs.lemmas.Bool.Decides.{nat_tests}
use Rattle.laws_states.specs.Order.{HostsAwaited, WorksKnown, WorksTold}
use Rattle.machine_data.specs.Read.{at_handle_limit, fits, goal_of, has_ended, op_progress_of, instance_of, is_async_lifted, is_direct, is_explicit, is_stage_ended, kind_of, place_of, task_of, thread_at, thread_group}
use Rattle.machine_data.specs.declared.records.Stage.TheVariants as stage
use Rattle.std.proofs.Common.{ap, arith, inl, inr, refl, subst, sym, ⊎_elim, ◌∙◌}
use Rattle.std.specs.Option.{option_map_or}
use Rattle.std.specs.Prelude.{Bool, Err, IfSome, List, None, Ok, Option, Result, Some, false, if◌then◌else◌, is_some, not, option_map, true, ℕ, ◌==◌, ◌<◌, ◌^◌, ◌≡◌, ◌≤◌, ◌∷◌, ◌⊎◌}
use Rattle.ops_state.specs.declared.error.TaskError.{TaskError}
use Rattle.ops_state.specs.declared.error.TaskError.TheVariants as task_error
use Rattle.ops_state.specs.declared.name_calls.QualifiedThreadId.{QualifiedThreadId}
use Rattle.ops_subtasks.specs.Starts.{call_starts}
use Rattle.ops_dispatch.specs.Makes.{makes, takes_memory}
use Rattle.ops_calls.proofs.PausedLemmas.{is_plain}
use Rattle.ops_calls.specs.HostOps.{Answers, AnswersHere, AnswersOp, Does, HasPaused, IsRunningIn, is_apart, op_rule_at, scripted_rule_of, takes_here}
use Rattle.ops_calls.proofs.DirectLemmas.{goes_base}
use Rattle.ops_calls.specs.MainCalls.{Returned, Returns}
use Rattle.ops_calls.specs.Directs.{IsDirect, exits_rule}
use Rattle.ops_calls.specs.Intrinsics.{cancel_op, pressure_op, suspension_op}
use Rattle.ops_calls.specs.Prepared.{Prepares, starts_in}
use Rattle.ops_calls.specs.Resumes.{Resumed, first_in, resumed_by}
use Rattle.ops_calls.specs.declared.intrinsics.ResumeThread.{ResumeThread}
use Rattle.ops_calls.specs.declared.intrinsics.ResumeThread.TheVariants as resume
use Rattle.ops_calls.specs.declared.answer_calls.Step.{Step as Answer}
use Rattle.ops_calls.specs.declared.intrinsics.SuspensionTarget.{SuspensionTarget}
use Rattle.ops_calls.specs.declared.intrinsics.SuspensionTarget.TheVariants as target
use Rattle.machine_data.proofs.CommuteLemmas.{get-change}
use Rattle.machine_data.specs.Core.{Core, Main, Unscripted}
use Rattle.machine_data.specs.Labels.{Choice, choice_of, ret_label}
use Rattle.machine_data.specs.Maps.{Records, get}
use Rattle.machine_data.specs.Moves.{behind_one, put_low, promoted, promoted_unless, put_switch}
use Rattle.machine_data.specs.Write.{add_call, add_thread, give_thread_handle, on_call, on_instance, on_thread, set_callers, set_do_not_suspend, set_op_progress, set_place, set_register, set_saved_callee, set_saved_own, set_started, set_thread_handle}
use Rattle.machine_data.specs.declared.component.Callee.{Callee}
use Rattle.machine_data.specs.declared.component.Component.{Component}
use Rattle.machine_data.specs.declared.component.ExportKind.{ExportKind}
use Rattle.machine_data.specs.declared.component.ExportKind.TheVariants as kind
use Rattle.machine_data.specs.declared.label.Label.{Label}
use Rattle.machine_data.specs.declared.label.CallLabel.TheVariants as call_label
use Rattle.machine_data.specs.declared.label.Label.TheVariants as label
use Rattle.machine_data.specs.declared.label.ThreadLabel.TheVariants as thread_label
use Rattle.machine_data.specs.declared.op.CallOp.TheVariants as call_op
use Rattle.machine_data.specs.declared.op.Op.{Op}
use Rattle.machine_data.specs.declared.op.Op.TheVariants as op
use Rattle.machine_data.specs.declared.op.Operand.TheVariants as operand
use Rattle.machine_data.specs.declared.op.TaskOp.TheVariants as task_op
use Rattle.machine_data.specs.declared.records.Caller.{Caller}
use Rattle.machine_data.specs.declared.records.Caller.TheVariants as caller
use Rattle.machine_data.specs.declared.records.Goal.{Goal}
use Rattle.machine_data.specs.declared.records.MadeCounts.{MadeCounts}
use Rattle.machine_data.specs.declared.records.OpProgress.{OpProgress}
use Rattle.machine_data.specs.declared.records.OpProgress.TheVariants as op_progress
use Rattle.machine_data.specs.declared.records.Place.TheVariants as place
use Rattle.machine_data.specs.declared.records.Subtask.TheVariants as subtask
use Rattle.machine_data.specs.declared.records.Thread.{Thread}
use Rattle.machine_data.specs.declared.records.Turn.{Turn}
use Rattle.machine_data.specs.declared.records.Turn.TheVariants as turn
use Rattle.machine_data.specs.declared.records.Work.{Work}
use Rattle.machine_data.specs.declared.records.Why.{Why}
use Rattle.machine_data.specs.declared.records.Why.TheVariants as whys
use Rattle.machine_data.specs.declared.trap.Trap.{Trap}
use Rattle.machine_data.specs.declared.trap.Trap.TheVariants as trap
use Rattle.machine_data.specs.declared.statuses.Mark.TheVariants as mark
use Rattle.ops_moves.proofs.UntouchedLemmas.{set_register_untouched}
use Rattle.ops_guests.specs.OpResult.{Implements}
use Rattle.ops_guests.specs.Halting.{First, GoesFirst, Refused, StaysBehind, or_refused, promoted_found, promoted_if, refused_if, resumed_found}
use Rattle.ops_guests.specs.Stays.{StaysAfter}
use Rattle.ops_guests.specs.Steps.{label_of}
use Rattle.ops_guests.specs.declared.op_result.OpResult.{OpResult}
use Rattle.ops_guests.specs.declared.op_result.OpResult.TheVariants as op_result
use Rattle.laws_states.specs.Courses.{CallsHost, MakesWork, Spawns}
use Rattle.machine_rules.proofs.PlacingLemmas.{placing_shifted, shifted_works}
use Rattle.machine_rules.specs.Calls.{call_made, enter_rule, enter_runs, next_thread, with_thread_handle}
use Rattle.machine_rules.specs.OpParts.{can_come, is_data_op, queues_work}
use Rattle.machine_rules.specs.Ends.{returned, direct_exit_rule, exit_rule, exit_rule_for, implicit_exit_rule, may_tell}
use Rattle.machine_rules.specs.Progress.{Asks, Fails, Continues, Never, OneOf, Ordered, Progress, Stops, Traps, may, or_trap, trap_if}
use Rattle.machine_rules.specs.Scripts.{export_kind, op_of}
use Rattle.machine_rules.specs.Step.{Progresses, op_rule}
use Rattle.machine_rules.specs.Threads.{has_yielded, resume_why}
use Rattle.machine_rules.specs.Primitives.{Promote, Put}
use Rattle.task_store.proofs.HostLemmas.{holds_quiet, holds_same, runs_works, walked_stays}
use Rattle.task_store.specs.Hosts.{HoldsWorks, WorksNumbered}
use Rattle.ops_turns.proofs.KeptLemmas.{setting}
use Rattle.ops_turns.specs.Turn.{running_of, state_at}
use Rattle.core_primitives.specs.StateView.{StateView, with_core, with_current}
use Rattle.ops_guests.specs.Shown.{goes_as}
use Rattle.ops_guests.specs.declared.op_result.OpAnswer.{OpAnswer}

-- ---- An op that names neither an export nor a host

pub not_data : (k : Op) → is_apart k ≡ true → is_data_op k ≡ false
not_data (op.Data k) e = absurd (cc)
not_data k e = refl

-- such an op calls no host
calls_none : (k : Op) (h : OpProgress) → is_apart k ≡ true → queues_work h k ≡ false
calls_none (op.Data k) h e = absurd (cc)
calls_none (op.Call (call_op.Call r q g xs)) h e = absurd (cc)
calls_none (op.Call (call_op.CallSync r g xs)) h e = absurd (cc)
calls_none (op.Call (call_op.CallHost r q f)) h e = absurd (cc)
calls_none (op.Call (call_op.CallSyncHost r f)) h e = absurd (cc)
calls_none k h e = grind (arith, e)

-- an op that has paused makes no work, since a call of a host that has paused has made its own
paused_none : (k : Op) (h : OpProgress) → can_come k h ≡ true → (h ≡ op_progress.Fresh → ⊥) → queues_work h k ≡ false
paused_none k op_progress.Fresh can paused = absurd (paused refl)
paused_none k (op_progress.Waits x) can paused = grind (arith, can)
paused_none k (op_progress.Calls (subtask.Guest j)) can paused = grind (arith, can)
paused_none k (op_progress.Calls (subtask.Host i)) can paused = grind (arith, can)
paused_none k (op_progress.Answered v) can paused = grind (arith, can)
paused_none k (op_progress.Cancels (subtask.Guest j)) can paused = grind (arith, can)
paused_none k (op_progress.Cancels (subtask.Host i)) can paused = absurd (cc)
paused_none k (op_progress.AwaitsEnd sub) can paused = grind (arith, can)
paused_none k op_progress.Suspends can paused = grind (arith, can)
paused_none k op_progress.Yields can paused = grind (arith, can)

pub runs_there : (n : ℕ) (s : Core) → place_of n s ≡ Some place.Running → (r : Thread) × (get s.threads n ≡ Some r)
runs_there n s running = by (get s.threads n) refl running
  where
    by : (o : Option Thread) → get s.threads n ≡ o → option_map (λ (r : Thread). r.place) o ≡ Some place.Running → (r : Thread) × (get s.threads n ≡ Some r)
    by None at e = absurd (cc)
    by (Some r) at e = (r, at)

-- the op at the place of the thread that runs can come as far as it has
can_be_there : (c : Component) (s : StateView) (running : IsRunningIn c s) → can_come (op_of c running.number s.core) (op_progress_of running.number s.core) ≡ true
can_be_there c s running =
    let n = running.number in
    let thread = runs_there n s.core ((running.order.order Unscripted).in_place.runs n refl) in
    let fits = (running.order.order Unscripted).fits n thread.0 thread.1 in
    let op = fits.op in let at = thread.1 in grind (arith)

module _ (left : ℕ → Option HeldWork) (s t : StateView) (n : ℕ) (works : RunsWorks n s.core) (h : HoldsWorks left s.core) where
  none_made : (ops : ℕ → Op) (m : Main) → queues_work (op_progress_of n s.core) (ops n) ≡ false → MakesWork ops (state_at s.core m (turn.Run n)) → ⊥
  none_made ops m quiet (Spawns main) = cc
  none_made ops m quiet (CallsHost k runs queues) =
      let same : n ≡ k = cc in
      let is : queues_work (op_progress_of n s.core) (ops n) ≡ true = subst (λ (i : ℕ). queues_work (op_progress_of i s.core) (ops i) ≡ true) (sym same) queues in
      cc

  -- an op as a host has it done; no part of main is in it, so main may be one that has spawned nothing
  module _ (c : Component) (o : Op) (other : is_data_op o ≡ false) (quiet : queues_work (op_progress_of n s.core) o ≡ false) where
    walked : (l : Label) (p : Turn) → Progresses (state_at s.core nobody (turn.Run n)) s.core n (op_rule SomeHost c n s.core (choice_of l) o) l (state_at t.core nobody p) → HoldsWorks left t.core
    unfolding HostRulesAreWalks
    walked l p row =
        let x = setting c in
        let before = state_at s.core nobody (turn.Run n) in
        let after = state_at t.core nobody p in
        let ops : ℕ → Op = λ k. o in
        let w = host_rules_walk ops x before n l o after refl refl other row in
        holds_quiet ops x before l after w (Runs n) works.made (walked_stays ops x before l after n works w refl (nothing_spawned before refl) left h) left h
        (none_made ops nobody quiet)

    pub did_quiet : (r : OpResult) → Implements (scripted_rule_of c o s.core n (choice_of (label_of n r))) s.core r t.core → StaysAfter r s t → HoldsWorks left t.core
    did_quiet (op_result.Continues l m said) met stays = walked l (turn.Run m) (met_progresses c o n (op_result.Continues l m said) s.core t.core met refl nobody)
    did_quiet (op_result.Stops l) met stays = walked l turn.Main (met_progresses c o n (op_result.Stops l) s.core t.core met refl nobody)
    did_quiet (op_result.Traps why) met stays = subst (λ (v : StateView). HoldsWorks left v.core) (sym stays) h
    did_quiet (op_result.Fails i) met stays = subst (λ (v : StateView). HoldsWorks left v.core) (sym stays) h

  -- one that names neither an export nor a host
  pub did_apart : (c : Component) (o : Op) → is_apart o ≡ true → (r : OpResult) → Implements (scripted_rule_of c o s.core n (choice_of (label_of n r))) s.core r t.core → StaysAfter r s t → HoldsWorks left t.core
  did_apart c o apart = did_quiet c o (not_data o apart) (calls_none o (op_progress_of n s.core) apart)

-- ---- By what was answered

module _ (left : ℕ → Option HeldWork) (s t : StateView) (h : HoldsWorks left s.core) where
  still : t ≡ s → HoldsWorks left t.core
  still same = subst (λ (v : StateView). HoldsWorks left v.core) (sym same) h

  -- nothing is changed, or it was done
  pub by_answers : {A : Type 0} (takes : Bool) (row : ℕ → Choice → Progress) (f : OpAnswer → A) (a : Result (Answer A) TaskError) (n : ℕ) → running_of s ≡ Some n → ((r : OpResult) → Does (row n) n s r t → HoldsWorks left t.core) →
      Answers takes row f s a t → HoldsWorks left t.core
  by_answers takes row f (Err task_error.NoMemory) n runs by_rule answers = still answers.1
  by_answers takes row f (Ok a) n runs by_rule answers = by_rule answers.0 (subst (λ (o : Option ℕ). IfSome o (λ k. Does (row k) k s answers.0 t)) runs answers.1.0)
  by_answers takes row f (Err (task_error.Trap w)) n runs by_rule answers = by_rule answers.0 (subst (λ (o : Option ℕ). IfSome o (λ k. Does (row k) k s answers.0 t)) runs answers.1.0)
  by_answers takes row f (Err (task_error.HostFailed i)) n runs by_rule answers = by_rule answers.0 (subst (λ (o : Option ℕ). IfSome o (λ k. Does (row k) k s answers.0 t)) runs answers.1.0)

  module _ (c : Component) (running : IsRunningIn c s) where
    works : RunsWorks running.number s.core
    works = runs_works c running.number s.core (running.order.order Unscripted)

    -- an op that names neither an export nor a host
    pub asked_holds : {A : Type 0} (o : Op) (f : OpAnswer → A) (a : Result (Answer A) TaskError) → is_apart o ≡ true → AnswersOp c o f s a t → HoldsWorks left t.core
    asked_holds o f a apart answers =
        by_answers (takes_memory o) (scripted_rule_of c o s.core) f a running.number running.runs (λ r d. did_apart left s t running.number works h c o apart r d.implements d.stays) answers

    -- the op at the place, that has paused
    pub gone_on_holds : {A : Type 0} (f : OpAnswer → A) (a : Result (Answer A) TaskError) (i : ℕ) → HasPaused i s → AnswersHere c f s a t → HoldsWorks left t.core
    gone_on_holds f a i paused answers =
        let n = running.number in
        let far = (subst (λ (o : Option ℕ). IfSome o (λ k. (instance_of k s.core ≡ i) × (op_progress_of k s.core ≡ op_progress.Fresh → ⊥))) running.runs paused).1 in
        let can = can_be_there c s running in
        by_answers (takes_here c s) (op_rule_at c s.core) f a n running.runs (λ r d. did_quiet left s t n works h c (op_of c n s.core) (is_plain c s running (i, paused)).1 (paused_none (op_of c n s.core) (op_progress_of n s.core) can far) r d.implements d.stays) answers

pub apart_pressure : (up : Bool) → is_apart (pressure_op up) ≡ true
apart_pressure true = refl
apart_pressure false = refl

pub apart_cancel : (b : Bool) (x : ℕ) → is_apart (cancel_op b x) ≡ true
apart_cancel true x = refl
apart_cancel false x = refl

pub apart_suspension : (b : Bool) (t : SuspensionTarget) → is_apart (suspension_op b t) ≡ true
apart_suspension true target.None = refl
apart_suspension true (target.Resume x) = refl
apart_suspension true (target.Promote x) = refl
apart_suspension false target.None = refl
apart_suspension false (target.Resume x) = refl
apart_suspension false (target.Promote x) = refl

-- ---- The calls that represent no one op

module _ (left : ℕ → Option HeldWork) (s t : StateView) (h : HoldsWorks left s.core) where
  by_works : (u : Core) → t.core ≡ u → u.works ≡ s.core.works → HoldsWorks left t.core
  by_works u is works = holds_same s.core t.core left (ap (λ (c : Core). c.works) is ∙ works) h

  by_same : t ≡ s → HoldsWorks left t.core
  by_same is = by_works s.core (ap (λ (v : StateView). v.core) is) refl

  call_works : (f : Caller) (e : Callee) (x : ExportKind) (g : Goal) (group : ℕ) (words : List ℕ) (u : Core) → (call_made f e x g group words u).works ≡ u.works
  unfolding call_made add_call add_thread
  call_works f e x g group words u = refl

  -- a call is prepared
  pub prepared_holds : (c : Component) (n : ℕ) (e : Callee) (words : List ℕ) (g : Goal) (room : Bool) (r : Result QualifiedThreadId TaskError) → Prepares c n e words g s room r t → HoldsWorks left t.core
  prepared_holds c n e words g false r q = by_same q.1
  prepared_holds c n e words g true (Ok id) q = by_works _ q.becomes.core (call_works (caller.Thread n) e (export_kind c e) g (thread_group n s.core) words s.core)
  prepared_holds c n e words g true (Err why) q = by_same q.1

  -- and begun
  starts_works : (n m k j : ℕ) (x : ExportKind) (u : Core) → (call_starts n m k j x u).works ≡ u.works
  unfolding behind_one set_place on_thread set_callers set_op_progress set_do_not_suspend on_instance set_saved_callee
  starts_works n m k j kind.Sync u = shifted_works (placing_shifted (Put mark.Switch m whys.Start) u)
  starts_works n m k j kind.Blocking u = shifted_works (placing_shifted (Put mark.Switch m whys.Start) u)
  starts_works n m k j kind.Stackful u = shifted_works (placing_shifted (Put mark.Switch m whys.Start) u)
  starts_works n m k j kind.Callback u = shifted_works (placing_shifted (Put mark.Switch m whys.Start) u)

  pub started_holds : (n : ℕ) (id : QualifiedThreadId) → t ≡ with_current None (with_core (starts_in n id s) s) → HoldsWorks left t.core
  started_holds n id is = by_works (starts_in n id s) (ap (λ (v : StateView). v.core) is) (starts_works n _ _ _ _ s.core)

  -- a direct call is entered
  enters_works : (n : ℕ) (e : Callee) (x : ExportKind) (words : List ℕ) (u : Core) → (enter_runs n e x words u).works ≡ u.works
  unfolding enter_runs call_made add_call add_thread with_thread_handle set_thread_handle give_thread_handle set_started set_place on_thread on_call on_instance set_op_progress set_do_not_suspend set_saved_own
  enters_works n e kind.Sync words u = refl
  enters_works n e kind.Blocking words u = refl
  enters_works n e kind.Stackful words u = refl
  enters_works n e kind.Callback words u = refl

  pub entered_holds : (n : ℕ) (e : Callee) (x : ExportKind) (words : List ℕ) (r : OpResult) → Implements (enter_rule n e x words s.core) s.core r t.core → HoldsWorks left t.core
  entered_holds n e x words r met = by (not (fits 3 s.core)) (at_handle_limit s.core) met
    where
      by : (a b : Bool) → Implements (trap_if a trap.TableFull (trap_if b trap.HandleLimit (Continues (label.Call (call_label.Enters n (next_thread s.core))) (enter_runs n e x words s.core) (next_thread s.core)))) s.core r t.core → HoldsWorks left t.core
      by true b m = by_works s.core m.1 refl
      by false true m = by_works s.core m.1 refl
      by false false m = by_works (enter_runs n e x words s.core) m.1 (enters_works n e x words s.core)

  -- ---- A thread that is resumed

  Stays : First → Type 0
  Stays f = (u : Core) → f ≡ GoesFirst u → u.works ≡ s.core.works

  stays_refused : (why : Trap) → Stays (Refused why)
  unfolding Stays
  stays_refused why u e = absurd (cc)

  stays_going : (new : Core) → new.works ≡ s.core.works → Stays (GoesFirst new)
  unfolding Stays
  stays_going new same u e = let is : new ≡ u = cc in ap (λ (c : Core). c.works) (sym is) ∙ same

  stays_if : (b : Bool) (why : Trap) (f : First) → Stays f → Stays (refused_if b why f)
  stays_if true why f k = stays_refused why
  stays_if false why f k = k

  stays_or : {X : Type 0} (o : Option X) (why : Trap) (f : X → First) → ((x : X) → Stays (f x)) → Stays (or_refused o why f)
  stays_or None why f k = stays_refused why
  stays_or (Some x) why f k = k x

  stays_promoted : (b : Bool) (m : ℕ) → Stays (promoted_if b m s.core)
  unfolding promoted_unless Stays
  stays_promoted true m = stays_going (promoted_unless m s.core) (by (is_some s.core.queues.switch))
    where
      by : (b : Bool) → (if b then s.core else promoted m s.core).works ≡ s.core.works
      by true = refl
      by false = shifted_works (placing_shifted (Promote m) s.core)
  stays_promoted false m = λ u e. absurd (cc)

  later_works : (n m : ℕ) (w : Why) → (set_op_progress n op_progress.Fresh (put_low m w s.core)).works ≡ s.core.works
  unfolding set_op_progress on_thread
  later_works n m w = shifted_works (placing_shifted (Put mark.Low m w) s.core)

  stays_later : (n h : ℕ) → Stays (first_in (resume_later_rule SomeHost n h s.core))
  stays_later n h = by (thread_at (instance_of n s.core) h s.core)
    where
      found : (m : ℕ) (b : Bool) (o : Option Why) → Stays (first_in (trap_if b trap.CannotResumeThread (or_trap o trap.CannotResumeThread (λ w. Continues (label.Thread (thread_label.ResumeLater n)) (set_op_progress n op_progress.Fresh (put_low m w s.core)) n))))
      found m true o = stays_refused trap.CannotResumeThread
      found m false None = stays_refused trap.CannotResumeThread
      found m false (Some w) = stays_going (set_op_progress n op_progress.Fresh (put_low m w s.core)) (later_works n m w)

      by : (o : Option ℕ) → Stays (first_in (or_trap o trap.BadHandle (resume_later_by SomeHost n s.core)))
      by None = stays_refused trap.BadHandle
      by (Some m) = found m (m == n) (resume_why m s.core)

  stays_resumed : (how : ResumeThread) (n h : ℕ) → Stays (resumed_by how n h s.core)
  stays_resumed resume.Promote n h = stays_or (thread_at (instance_of n s.core) h s.core) trap.BadHandle (promoted_found n s.core) (λ m. stays_if (m == n) trap.CannotResumeThread (promoted_if (has_yielded m s.core) m s.core) (stays_promoted (has_yielded m s.core) m))
  stays_resumed resume.Resume n h = stays_or (thread_at (instance_of n s.core) h s.core) trap.BadHandle (resumed_found n s.core) (λ m.
      stays_if (m == n) trap.CannotResumeThread _ (stays_or (resume_why m s.core) trap.CannotResumeThread (λ w. GoesFirst (put_switch m w s.core)) (λ w.
      stays_going (put_switch m w s.core) (shifted_works (placing_shifted (Put mark.Switch m w) s.core)))))
  stays_resumed resume.ResumeLater n h = stays_later n h

  pub resumed_holds : (how : ResumeThread) (n h : ℕ) (r : Result Bool TaskError) → Resumed (resumed_by how n h s.core) s r t → HoldsWorks left t.core
  unfolding Stays
  resumed_holds how n handle r q = by (resumed_by how n handle s.core) (stays_resumed how n handle) q
    where
      by : (f : First) → Stays f → Resumed f s r t → HoldsWorks left t.core
      by (GoesFirst new) k q = by_works new (ap (λ (v : StateView). v.core) q.1) (k new refl)
      by StaysBehind k q = by_same q.1
      by (Refused why) k q = by_same q.1

  -- ---- A task that returns

  went : (a b d : Bool) (x y : Trap) (l : Label) (new : Core) (m : ℕ) (r : Result (Unit {0}) TaskError) → Returned (trap_if a x (trap_if b y (may d (Continues l new m)))) s r t →
      (t ≡ s) ⊎ Implements (trap_if a x (trap_if b y (may d (Continues l new m)))) s.core (goes_as l m) t.core
  went true b d x y l new m r q = inl q.1
  went false true d x y l new m r q = inl q.1
  went false false true x y l new m r q = inr (refl, ap (λ (v : StateView). v.core) q.1)
  went false false false x y l new m r q = absurd q

  shown : (n v : ℕ) (w : Option ℕ) → (choice_of (ret_label n v w)).woken ≡ w
  shown n v None = refl
  shown n v (Some k) = refl

  module _ (c : Component) (n v : ℕ) (works : RunsWorks n s.core) where
    pub returned_holds : (b : Bool) (r : Result (Unit {0}) TaskError) → Returns n v b s r t → HoldsWorks left t.core
    returned_holds true r q = ⊎_elim by_same
        (λ met. did_apart left s t n works h c (op.Task (task_op.Ret (operand.Number v))) refl (goes_as (ret_label n v q.0) n)
        (subst (λ (w : Option ℕ). Implements (ret_rule SomeHost n v w s.core) s.core (goes_as (ret_label n v q.0) n) t.core) (sym (shown n v q.0)) met) tt)
        (went (has_ended (task_of n s.core) s.core) (not (is_async_lifted (kind_of (task_of n s.core) s.core))) (may_tell (task_of n s.core) q.0 s.core)
        trap.TaskCancelOrReturnTwice trap.TaskReturnInvalid (ret_label n v q.0) (set_op_progress n op_progress.Fresh (returned (task_of n s.core) v q.0 s.core)) n r q.1)
    returned_holds false r q = by (has_ended (task_of n s.core) s.core) q
      where
        by : (a : Bool) → Returned (trap_if a trap.TaskCancelOrReturnTwice (Traps trap.TaskReturnInvalid)) s r t → HoldsWorks left t.core
        by true q = by_same q.1
        by false q = by_same q.1

-- ---- A direct call that is left

-- one that stops hangs on no core before
pub stops_base : (p : Progress) (s u t : Core) (l : Label) → Implements p u (op_result.Stops l) t → Implements p s (op_result.Stops l) t
stops_base (Continues k new n) s u t l h = h
stops_base (Stops k new) s u t l h = h
stops_base (Traps why) s u t l h = let e = h.0 in absurd (cc)
stops_base (Fails i) s u t l h = let e = h.0 in absurd (cc)
stops_base Never s u t l h = h
stops_base (Ordered ns next) s u t l h = (h.0, (h.1.0, stops_base (next h.0) s u t l h.1.1))
stops_base (OneOf ns next) s u t l h = (h.0, (h.1.0, stops_base (next h.0) s u t l h.1.1))
stops_base (Asks next) s u t l h = (h.0, stops_base (next h.0) s u t l h.1)

module _ (n v : ℕ) (s : Core) where
  abbrev pub written : Core
  written = set_register n 0 v s

  written_works : written.works ≡ s.works
  unfolding set_register on_thread
  written_works = refl

  written_made : written.made ≡ s.made
  unfolding set_register on_thread
  written_made = refl

  written_explicit : is_explicit n written ≡ is_explicit n s
  unfolding set_register on_thread
  written_explicit = grind (arith, nat_tests, get-change)

  written_goal : goal_of (task_of n written) written ≡ goal_of (task_of n s) s
  unfolding set_register on_thread
  written_goal = grind (arith, nat_tests, get-change)

  written_numbered : WorksNumbered s → WorksNumbered written
  written_numbered numbered i there = subst (λ (m : MadeCounts). i ≤ m.works) (sym written_made) (numbered i (subst (λ (m : Records Work). is_some (get m i) ≡ true) written_works there))

  written_far : (m : ℕ) → op_progress_of m written ≡ op_progress_of m s
  unfolding set_register on_thread
  written_far m = grind (arith, nat_tests, get-change)

  written_known : WorksKnown s → WorksKnown written
  unfolding set_register on_thread
  written_known q = record {
    there = λ i h j e. q.there i h j e;
    once = λ i l h g j e f. q.once i l h g j e f;
    async = λ h j e. q.async h j e;
    called = λ m j far. q.called m j (sym (written_far m) ∙ far);
  }

  written_told : WorksTold s → WorksTold written
  unfolding set_register on_thread
  written_told q i w at = let t = q i w at in record { late = t.late; told = t.told; finishing = t.finishing }

  written_awaited : HostsAwaited s → HostsAwaited written
  written_awaited q m i far =
      let old = q m i (sym (written_far m) ∙ far) in (
        subst (λ (c : MadeCounts). i ≤ c.works) (sym written_made) old.0,
        ⊎_elim (λ at. inl ((set_register_untouched n 0 v s).places m ∙ at)) (λ over. inr (subst (λ (r : Records Work). is_stage_ended (option_map_or (λ (w : Work). w.stage) (get r i) stage.Ended) ≡ true) (sym written_works) over)) old.1,
      )

  written_runs : RunsWorks n s → RunsWorks n written
  written_runs q = record {
    runs = (set_register_untouched n 0 v s).places n ∙ q.runs;
    made = written_numbered q.made;
    known = written_known q.known;
    told = written_told q.told;
    awaited = written_awaited q.awaited;
  }

  pub exit_is : (w : Option ℕ) → IsDirect n s → exit_rule n w written ≡ direct_exit_rule n written
  exit_is w direct = ap (exit_rule_for n w written) (written_explicit ∙ direct.implicit) ∙ ap (implicit_exit_rule n w written) (ap is_direct written_goal ∙ direct.direct)

module _ (left : ℕ → Option HeldWork) (s t : StateView) (h : HoldsWorks left s.core) (c : Component) (running : IsRunningIn c s) (v : ℕ) (direct : IsDirect running.number s.core) where
  moved : StateView
  moved = with_core (written running.number v s.core) s

  left_by : (r : OpResult) → Implements (direct_exit_rule running.number (written running.number v s.core)) (written running.number v s.core) r t.core → StaysAfter r moved t → HoldsWorks left t.core
  unfolding moved
  left_by r met stays =
      let n = running.number in
      let u = written n v s.core in
      did_apart left moved t n (written_runs n v s.core (runs_works c n s.core (running.order.order Unscripted))) (holds_same s.core u left (written_works n v s.core) h) c (op.Task task_op.Exit) refl r
      (subst (λ (p : Progress). Implements p u r t.core) (sym (exit_is n v s.core (choice_of (label_of n r)).woken direct)) met) stays

  pub exited_holds : (r : OpResult) → Implements (exits_rule v s.core running.number (choice_of (label_of running.number r))) s.core r t.core → StaysAfter r s t → HoldsWorks left t.core
  exited_holds (op_result.Continues l m said) met stays = let n = running.number in left_by (op_result.Continues l m said) (goes_base (direct_exit_rule n (written n v s.core)) (written n v s.core) s.core t.core l m said met) tt
  exited_holds (op_result.Stops l) met stays = let n = running.number in left_by (op_result.Stops l) (stops_base (direct_exit_rule n (written n v s.core)) (written n v s.core) s.core t.core l met) tt
  exited_holds (op_result.Traps why) met stays = subst (λ (w : StateView). HoldsWorks left w.core) (sym stays) h
  exited_holds (op_result.Fails i) met stays = subst (λ (w : StateView). HoldsWorks left w.core) (sym stays) h
