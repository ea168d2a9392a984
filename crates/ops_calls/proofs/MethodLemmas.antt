-- Each method's relation leads from a core in order to one, by the laws of pieces.
use Rattle.ops_calls.proofs.DidLemmas.{done_as, same_there, stays, then_runs}
use Rattle.ops_calls.specs.Methods.{EntersKeep, ExitsKeep, InTurn, KeepsEntered, PreparesKeep, PreparesMake, Rests, ResumesKeep, ReturnsKeep, StartsKeep}
use Rattle.laws_order.proofs.NewLemmas.{prepare_keeps}
use Rattle.laws_order.proofs.CallLemmas.{enter_keeps, prepare_makes}
use Rattle.laws_order.proofs.EndLemmas.{exit_keeps, register_keeps}
use Rattle.laws_order.proofs.PieceLemmas.{promote_keeps, resume_keeps}
use Rattle.laws_order.proofs.StartLemmas.{own_task, start_keeps}
use Rattle.laws_order.specs.Given.{EnterKeeps, StartKeeps, given, start_queued}
use Rattle.laws_order.specs.Pieces.{ExitKeeps, IsPrepared, KeepsOrder, PrepareKeeps, PrepareMakes, PromoteKeeps, RegisterKeeps, ResumeKeeps}
use Rattle.ops_state.specs.declared.error.TaskError.{TaskError}
use Rattle.std.specs.Prelude.{Err, Ok, Result}
use Rattle.ops_subtasks.specs.Starts.{call_starts}
use Rattle.ops_calls.proofs.HostOpLemmas.{running_is}
use Rattle.ops_calls.specs.HostOps.{Did, Does, CoreInOrderAs, turn_for}
use Rattle.ops_calls.specs.OpAnswers.{answered}
use Rattle.ops_calls.specs.declared.answer_calls.Step.{Step}
use Rattle.machine_data.specs.declared.op.Op.{Op}
use Rattle.ops_calls.specs.MainCalls.{Returned}
use Rattle.ops_calls.specs.Directs.{IsDirect, enters_rule, exits_rule, thread_entered}
use Rattle.ops_calls.specs.Prepared.{goal_for}
use Rattle.ops_calls.specs.Resumes.{Resumed, first_in}
use Rattle.ops_calls.specs.declared.intrinsics.ResumeThread.{ResumeThread}
use Rattle.machine_data.specs.Labels.{choice_of, exit_label, ret_label}
use Rattle.machine_data.specs.Moves.{checked, passes_check, promoted_unless}
use Rattle.machine_data.specs.Read.{fits, has_ended, is_async_lifted, register_of, thread_at, thread_group}
use Rattle.machine_data.specs.declared.component.Callee.{Callee}
use Rattle.machine_data.specs.declared.label.CallLabel.{CallLabel}
use Rattle.machine_data.specs.declared.records.Caller.{Caller}
use Rattle.ops_guests.specs.OpResult.{Implements}
use Rattle.ops_guests.specs.Halting.{GoesFirst, or_refused, promoted_found, promoted_if, refused_if, resumed_found}
use Rattle.ops_guests.specs.Shown.{goes_as}
use Rattle.ops_guests.specs.declared.op_result.OpResult.{OpResult}
use Rattle.laws_places.proofs.Laws.{Bool, Component, Core, ExportKind, Continues, OpProgress, Label, List, None, Option, Place, Progress, Some, Trap, Turn, Unscripted, Why, ap, arith, at_handle_limit, call_made, callee_of, false, get-change, goal_of, op_progress_of, instance_of, is_direct, is_explicit, is_some, is_sync_call, kind_of, may_tell, nat_tests, next_thread, not, on_thread, plain, put_switch, refl, set_register, subst, sym, task_of, trap_if, true, under_of, ℕ, ◌+◌, ◌==◌, ◌∙◌, ◌≡◌, ◌≤◌}
use Rattle.machine_rules.specs.Calls.{enter_rule, enter_runs}
use Rattle.machine_rules.specs.OpParts.{callee_of_op}
use Rattle.machine_rules.specs.Progress.{may, Traps}
use Rattle.machine_rules.specs.Scripts.{export_kind, ops_of}
use Rattle.machine_rules.specs.Finish.{NoAnswer, SomeHost, finish}
use Rattle.machine_rules.specs.Step.{Progresses}
use Rattle.machine_rules.specs.Ends.{direct_exit_to, direct_exits, exit_restores, returned}
use Rattle.ops_turns.proofs.RunLemmas.{settled}
use Rattle.machine_data.specs.declared.op.Operand.{Operand}
use Rattle.machine_data.specs.declared.op.TaskOp.{TaskOp}
use Rattle.machine_data.specs.declared.op.ThreadOp.{ThreadOp}
use Rattle.machine_rules.specs.Task.{ret_rule}
use Rattle.machine_rules.specs.Threads.{has_yielded, resume_later_rule, resume_why}
use Rattle.ops_turns.specs.Turn.{CoreInOrder, state_at}
use Rattle.core_primitives.specs.StateView.{StateView, thread_of, with_core}

kept : (c : Component) (p q : Turn) (s t : Core) → KeepsOrder c p s q t → CoreInOrder c p s → CoreInOrder c q t
kept c p q s t keeps in_turn = let r = keeps in_turn.order in
    record { order = r.0; there = λ i low. r.1.instances i ∙ in_turn.there i low; handles = λ i low. r.1.handles i ∙ in_turn.handles i low }

-- n runs in t as in s
runs_on : (c : Component) (n : ℕ) (s : StateView) (t : Core) → Rests c n s → CoreInOrder c (Turn.Run n) t → InTurn c (with_core t s)
runs_on c n s t h in_turn = subst (λ (o : Option ℕ). CoreInOrder c (turn_for o) t) (sym h.runs) in_turn

-- ---- Another thread

module _ (c : Component) (n : ℕ) (s t : StateView) (r : Result Bool TaskError) (h : Rests c n s) where
  goes : (new : Core) → KeepsOrder c (Turn.Run n) s.core (Turn.Run n) new → t ≡ with_core new s → InTurn c t
  goes new keeps is = subst (InTurn c) (sym is) (runs_on c n s new h (kept c (Turn.Run n) (Turn.Run n) s.core new keeps h.order))

  found : (m : ℕ) (b : Bool) (o : Option Why) → resume_why m s.core ≡ o → Resumed (refused_if b Trap.CannotResumeThread (or_refused o Trap.CannotResumeThread (λ w. GoesFirst (put_switch m w s.core)))) s r t → InTurn c t
  unfolding ResumeKeeps
  found m true o is q = stays c n s t h q.1
  found m false None is q = stays c n s t h q.1
  found m false (Some w) is q = goes (put_switch m w s.core) (resume_keeps c n m w s.core is) q.1

  resumes : (o : Option ℕ) → Resumed (or_refused o Trap.BadHandle (resumed_found n s.core)) s r t → InTurn c t
  resumes None q = stays c n s t h q.1
  resumes (Some m) q = found m (m == n) (resume_why m s.core) refl q

  promoted_so : (m : ℕ) (b d : Bool) → has_yielded m s.core ≡ d → Resumed (refused_if b Trap.CannotResumeThread (promoted_if d m s.core)) s r t → InTurn c t
  unfolding PromoteKeeps
  promoted_so m true d is q = stays c n s t h q.1
  promoted_so m false true is q = goes (promoted_unless m s.core) (promote_keeps c n m s.core is) q.1
  promoted_so m false false is q = stays c n s t h q.1

  promotes : (o : Option ℕ) → Resumed (or_refused o Trap.BadHandle (promoted_found n s.core)) s r t → InTurn c t
  promotes None q = stays c n s t h q.1
  promotes (Some m) q = promoted_so m (m == n) (has_yielded m s.core) refl q

module _ (c : Component) (n i : ℕ) (s t : StateView) (r : Result Bool TaskError) (h : Rests c n s) where
  -- the rule of `resume_later`
  abbrev later : Op
  later = Op.Thread (ThreadOp.ResumeLater (Operand.Number i))

  later_so : (p : Progress) → resume_later_rule SomeHost n i s.core ≡ p → Resumed (first_in p) s r t → InTurn c t
  later_so (Continues l new m) is q =
      let done = done_as c n s h later l m new refl
      (λ z. subst (λ (d : Progress). Progresses (state_at s.core z (Turn.Run n)) s.core n d l (state_at new z (Turn.Run m))) (sym is) (refl, sym (settled (goes_as l m) s.core z (Turn.Run n) new))) in
      subst (InTurn c) (sym q.1) (runs_on c n s new h (subst (λ (k : ℕ). CoreInOrder c (Turn.Run k) new) done.0 done.1))
  later_so (Traps why) is q = stays c n s t h q.1
  later_so p is q = stays c n s t h q.1

pub resumes_keep : ResumesKeep
unfolding ResumesKeep
resumes_keep c ResumeThread.ResumeLater n i s t r h q = later_so c n i s t r h (resume_later_rule SomeHost n i s.core) refl q
resumes_keep c ResumeThread.Resume n i s t r h q = resumes c n s t r h (thread_at (instance_of n s.core) i s.core) q
resumes_keep c ResumeThread.Promote n i s t r h q = promotes c n s t r h (thread_at (instance_of n s.core) i s.core) q

-- ---- A return

-- who is woken is shown
shown : (n v : ℕ) (w : Option ℕ) → (choice_of (ret_label n v w)).woken ≡ w
shown n v None = refl
shown n v (Some k) = refl

module _ (c : Component) (n v : ℕ) (w : Option ℕ) (s t : StateView) (h : Rests c n s) where
  abbrev k : ℕ
  k = task_of n s.core

  -- the state that it leaves
  abbrev done : Core
  done = finish SomeHost n NoAnswer (returned k v w s.core)

  abbrev row : (a b d : Bool) → Progress
  row a b d = trap_if a Trap.TaskCancelOrReturnTwice (trap_if b Trap.TaskReturnInvalid (may d (Continues (ret_label n v w) done n)))

  returned_so : (r : Result (Unit {0}) TaskError) → (a b d : Bool) → row (has_ended k s.core) (not (is_async_lifted (kind_of k s.core))) (may_tell k w s.core) ≡ row a b d → Returned (row a b d) s r t → InTurn c t
  returned_so r true b d is q = stays c n s t h q.1
  returned_so r false true d is q = stays c n s t h q.1
  returned_so r false false false is q = absurd q
  returned_so r false false true is q =
      let went = done_as c n s h (Op.Task (TaskOp.Ret (Operand.Number v))) (ret_label n v w) n done refl
      (λ z. subst (λ (u : Option ℕ). Progresses (state_at s.core z (Turn.Run n)) s.core n (ret_rule SomeHost n v u s.core) (ret_label n v w) (state_at done z (Turn.Run n))) (sym (shown n v w))
      (subst (λ (d : Progress). Progresses (state_at s.core z (Turn.Run n)) s.core n d (ret_label n v w) (state_at done z (Turn.Run n))) (sym is) (refl, sym (settled (goes_as (ret_label n v w) n) s.core z (Turn.Run n) done)))) in
      subst (InTurn c) (sym q.1) (runs_on c n s done h went.1)

refused_so : (c : Component) (n : ℕ) (s t : StateView) (r : Result (Unit {0}) TaskError) → Rests c n s → (b : Bool) →
    Returned (trap_if b Trap.TaskCancelOrReturnTwice (Traps Trap.TaskReturnInvalid)) s r t → InTurn c t
refused_so c n s t r h true q = stays c n s t h q.1
refused_so c n s t r h false q = stays c n s t h q.1

pub returns_keep : ReturnsKeep
unfolding ReturnsKeep
returns_keep c n v true s t r h q = returned_so c n v q.0 s t h r (has_ended (task_of n s.core) s.core) (not (is_async_lifted (kind_of (task_of n s.core) s.core))) (may_tell (task_of n s.core) q.0 s.core) refl q.1
returns_keep c n v false s t r h q = refused_so c n s t r h (has_ended (task_of n s.core) s.core) q

-- ---- Direct calls

-- What a rule that goes on or is refused is, by what it resulted in.
abbrev Met : Progress → Core → OpResult → Type 0
Met p t (OpResult.Continues l m said) = p ≡ Continues l t m
Met p t (OpResult.Traps why) = Unit {0}
Met p t _ = ⊥

met_goes : (k : Label) (new : Core) (d : ℕ) (s t : Core) (r : OpResult) → Implements (Continues k new d) s r t → Met (Continues k new d) t r
met_goes k new d s t (OpResult.Continues l m said) h = let e = h.0 in let is = h.1 in cc
met_goes k new d s t (OpResult.Stops l) h = absurd (let e = h.0 in cc)
met_goes k new d s t (OpResult.Traps why) h = tt
met_goes k new d s t (OpResult.Fails i) h = absurd (let e = h.0 in cc)

met_traps : (why : Trap) (s t : Core) (r : OpResult) → Implements (Traps why) s r t → Met (Traps why) t r
met_traps why s t (OpResult.Continues l m said) h = absurd (let e = h.0 in cc)
met_traps why s t (OpResult.Stops l) h = absurd (let e = h.0 in cc)
met_traps why s t (OpResult.Traps w) h = tt
met_traps why s t (OpResult.Fails i) h = absurd (let e = h.0 in cc)

met_if : (b : Bool) (why : Trap) (p : Progress) (s t : Core) (r : OpResult) → (Implements p s r t → Met p t r) → Implements (trap_if b why p) s r t → Met (trap_if b why p) t r
met_if true why p s t r next h = met_traps why s t r h
met_if false why p s t r next h = next h

exit_met : (n : ℕ) (x : ExportKind) (o : Option ℕ) (u s t : Core) (r : OpResult) → Implements (direct_exit_to n x u o) s r t → Met (direct_exit_to n x u o) t r
exit_met n x None u s t r h = absurd h
exit_met n ExportKind.Sync (Some d) u s t r h = met_goes (exit_label n None) (direct_exits n d (register_of n 0 u) (exit_restores n u)) d s t r h
exit_met n ExportKind.Blocking (Some d) u s t r h = met_if (not (passes_check (instance_of n u) u)) Trap.CannotBlockSyncTask _ s t r (λ q. met_goes (exit_label n None) (direct_exits n d (register_of n 0 u) (checked (instance_of n u) u)) d s t r q) h
exit_met n ExportKind.Stackful (Some d) u s t r h = met_if (not (passes_check (instance_of n u) u)) Trap.CannotBlockSyncTask _ s t r (λ q. met_goes (exit_label n None) (direct_exits n d (register_of n 0 u) (checked (instance_of n u) u)) d s t r q) h
exit_met n ExportKind.Callback (Some d) u s t r h = met_if (not (passes_check (instance_of n u) u)) Trap.CannotBlockSyncTask _ s t r (λ q. met_goes (exit_label n None) (direct_exits n d (register_of n 0 u) (checked (instance_of n u) u)) d s t r q) h

module _ (c : Component) (n v : ℕ) (s t : StateView) (h : Rests c n s) (direct : IsDirect n s.core) where
  -- with the value in its first register
  abbrev u : Core
  u = set_register n 0 v s.core

  written : CoreInOrder c (Turn.Run n) u
  unfolding RegisterKeeps
  written = kept c (Turn.Run n) (Turn.Run n) s.core u (register_keeps c n 0 v s.core) h.order

  implicit : is_explicit n u ≡ false
  unfolding set_register on_thread
  implicit = let was = direct.implicit in grind (arith, nat_tests, get-change, was)

  is_so : is_direct (goal_of (task_of n u) u) ≡ true
  unfolding set_register on_thread
  is_so = let was = direct.direct in let same : task_of n (set_register n 0 v s.core) ≡ task_of n s.core = grind (arith, nat_tests, get-change) in
      ap (λ (k : ℕ). is_direct (goal_of k s.core)) same ∙ was

  fresh : op_progress_of n u ≡ OpProgress.Fresh
  unfolding set_register on_thread
  fresh = let was = h.fresh in grind (arith, nat_tests, get-change, was)

  exits : (r : OpResult) → Does (exits_rule v s.core n) n s r t → InTurn c t
  unfolding ExitKeeps
  exits (OpResult.Continues l m said) does = then_runs c n m t does.running (kept c (Turn.Run n) (Turn.Run m) u t.core
      (exit_keeps c n m l t.core u implicit is_so fresh (exit_met n (kind_of (task_of n u) u) (under_of n u) u s.core t.core (OpResult.Continues l m said) does.implements)) written)
  exits (OpResult.Stops l) does = absurd (exit_met n (kind_of (task_of n u) u) (under_of n u) u s.core t.core (OpResult.Stops l) does.implements)
  exits (OpResult.Traps why) does = stays c n s t h does.stays
  exits (OpResult.Fails i) does = absurd (exit_met n (kind_of (task_of n u) u) (under_of n u) u s.core t.core (OpResult.Fails i) does.implements)

  does_exit : (r : OpResult) → Did (exits_rule v s.core) s r t → InTurn c t
  does_exit r did = exits r (running_is s n h.runs (λ k. Does (exits_rule v s.core k) k s r t) did)

pub exits_keep : ExitsKeep
unfolding ExitsKeep
exits_keep c n v s t (Err TaskError.NoMemory) h direct q = stays c n s t h q.1
exits_keep c n v s t (Err (TaskError.Trap why)) h direct q = does_exit c n v s t h direct q.0 q.1.0
exits_keep c n v s t (Err (TaskError.HostFailed i)) h direct q = does_exit c n v s t h direct q.0 q.1.0
exits_keep c n v s t (Ok a) h direct q = does_exit c n v s t h direct q.0 q.1.0

module _ (c : Component) (o : Op) (n : ℕ) (e : Callee) (words : List ℕ) (s t : StateView) (h : Rests c n s) (callee : callee_of_op o ≡ Some e)
    (sync : is_sync_call o ≡ true) (plain : is_async_lifted (export_kind c e) ≡ false) where
  entered_met : (r : OpResult) → Implements (enter_rule n e (export_kind c e) words s.core) s.core r t.core → Met (enter_rule n e (export_kind c e) words s.core) t.core r
  entered_met r q = met_if (not (fits 3 s.core)) Trap.TableFull _ s.core t.core r
      (λ p. met_if (at_handle_limit s.core) Trap.HandleLimit _ s.core t.core r
      (λ q. met_goes (Label.Call (CallLabel.Enters n (next_thread s.core))) (enter_runs n e (export_kind c e) words s.core) (next_thread s.core) s.core t.core r q) p) q

  -- what the op resulted in, where it goes on; a refusal changes nothing
  abbrev pub Entered : OpResult → Type 0
  Entered (OpResult.Continues l m said) = CoreInOrderAs (given n o (ops_of c t.core)) c (Turn.Run m) t.core
  Entered _ = t ≡ s

  pub enters : (r : OpResult) → Does (enters_rule c e words s.core n) n s r t → Entered r
  unfolding EnterKeeps
  enters (OpResult.Continues l m said) does =
      let r = enter_keeps c o e words n m l t.core s.core callee sync plain h.fresh (entered_met (OpResult.Continues l m said) does.implements) h.order.order in
      same_there c n s h (given n o (ops_of c t.core)) (Turn.Run m) t.core r.1 r.0
  enters (OpResult.Stops l) does = absurd (entered_met (OpResult.Stops l) does.implements)
  enters (OpResult.Traps why) does = does.stays
  enters (OpResult.Fails i) does = does.stays

  entered_by : (r : OpResult) → Does (enters_rule c e words s.core n) n s r t → KeepsEntered c o n (answered thread_entered r) t
  entered_by (OpResult.Continues l m said) does = subst (λ (k : Option ℕ). CoreInOrderAs (given n o (ops_of c t.core)) c (turn_for k) t.core) (sym does.running) (enters (OpResult.Continues l m said) does)
  entered_by (OpResult.Stops l) does = absurd (entered_met (OpResult.Stops l) does.implements)
  entered_by (OpResult.Traps why) does = stays c n s t h does.stays
  entered_by (OpResult.Fails i) does = stays c n s t h does.stays

  enters_by : (a : Result (Step ℕ) TaskError) (r : OpResult) → Did (enters_rule c e words s.core) s r t → a ≡ answered thread_entered r → KeepsEntered c o n a t
  enters_by a r did is = subst (λ (b : Result (Step ℕ) TaskError). KeepsEntered c o n b t) (sym is) (entered_by r (running_is s n h.runs (λ k. Does (enters_rule c e words s.core k) k s r t) did))

pub enters_keep : EntersKeep
unfolding EntersKeep
enters_keep c o n e words s t (Err TaskError.NoMemory) h callee sync plain q = stays c n s t h q.1
enters_keep c o n e words s t (Err (TaskError.Trap why)) h callee sync plain q = enters_by c o n e words s t h callee sync plain (Err (TaskError.Trap why)) q.0 q.1.0 q.1.1
enters_keep c o n e words s t (Err (TaskError.HostFailed i)) h callee sync plain q = enters_by c o n e words s t h callee sync plain (Err (TaskError.HostFailed i)) q.0 q.1.0 q.1.1
enters_keep c o n e words s t (Ok a) h callee sync plain q = enters_by c o n e words s t h callee sync plain (Ok a) q.0 q.1.0 q.1.1

-- ---- A call in two halves

goal_apart : (b : Bool) (q : ℕ) → is_direct (goal_for b q) ≡ false
goal_apart true q = refl
goal_apart false q = refl

pub prepares_keep : PreparesKeep
unfolding PreparesKeep PrepareKeeps
prepares_keep c p n q b false e words s t r in_turn made = subst (λ (v : StateView). CoreInOrder c p v.core) (sym made.1) in_turn
prepares_keep c p n q b true e words s t (Err why) in_turn made = subst (λ (v : StateView). CoreInOrder c p v.core) (sym made.1) in_turn
prepares_keep c p n q b true e words s t (Ok id) in_turn made =
    subst (CoreInOrder c p) (sym made.becomes.core)
    (kept c p p s.core (call_made (Caller.Thread n) e (export_kind c e) (goal_for b q) (thread_group n s.core) words s.core)
    (prepare_keeps c p (Caller.Thread n) e (goal_for b q) (thread_group n s.core) words s.core (goal_apart b q)) in_turn)

-- ---- What was prepared

pub prepares_make : PreparesMake
unfolding PreparesMake PrepareMakes
prepares_make c n q b e words s t id h p =
    let order = h.order.order Unscripted in
    let low = (order.in_place.placed n).number (ap (λ (o : Option Place). is_some o) (order.in_place.runs n refl)) in
    let made = prepare_makes n e (export_kind c e) (goal_for b q) words s.core low h.fresh (goal_apart b q) in
    subst (λ (u : Core). IsPrepared n (thread_of t id.thread) u) (sym p.becomes.core)
    (subst (λ (m : ℕ). IsPrepared n m (call_made (Caller.Thread n) e (export_kind c e) (goal_for b q) (thread_group n s.core) words s.core)) (sym p.number) made)

pub starts_keep : StartsKeep
unfolding StartsKeep StartKeeps
starts_keep c o n s t id h ready op is =
    let m = thread_of s id.thread in
    let r = start_keeps c o n m s.core ready op h.order.order in
    subst (λ (v : StateView). CoreInOrderAs (given n o (ops_of c v.core)) c Turn.Main v.core) (sym is)
    (subst (λ (k : ℕ). let u = call_starts n m k (callee_of k s.core).instance (kind_of k s.core) s.core in CoreInOrderAs (given n o (ops_of c u)) c Turn.Main u)
    (sym (own_task c n m s.core ready h.order.order))
    (same_there c n s h (given n o (ops_of c (start_queued n m s.core))) Turn.Main (start_queued n m s.core) r.1 r.0))
