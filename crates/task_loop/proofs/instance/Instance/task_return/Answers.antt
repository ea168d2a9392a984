-- The rule of the return is done, unless the task still holds borrows.
use Rattle.ops_state.specs.declared.error.TaskError.TheVariants as task_error
use Rattle.std.proofs.Common.{ap, refl, subst, sym, ◌∙◌}
use Rattle.std.specs.Option.{option_map}
use Rattle.std.specs.Prelude.{Bool, Err, IfSome, Option, Some, false, true, ℕ, ◌≡◌}
use Rattle.ops_calls.specs.MainCalls.{Returns, is_own_type}
use Rattle.task_store.specs.HeldBorrows.{Comes, return_holds_borrows}
use Rattle.task_loop.proofs.HostOpHoldLemmas.{returned_holds}
use Rattle.task_loop.proofs.InstanceCallLemmas.{does_call}
use Rattle.task_loop.proofs.TrackedLemmas.{returned_known}
use Rattle.task_loop.proofs.BorrowedLemmas.{ended_unborrowed, refused_borrowed}
use Rattle.task_loop.proofs.RuleTrapLemmas.{returns_not}
use Rattle.task_loop.proofs.instance.Instance.task_return.Goals as goal
use Rattle.task_loop.specs.InstanceCalls.{UnlessHoldsBorrows}
use Rattle.machine_data.specs.Core.{Unscripted}
use Rattle.machine_data.specs.declared.records.Turn.TheVariants as turn
use Rattle.machine_data.specs.declared.trap.Trap.TheVariants as trap
use Rattle.task_store.proofs.HostLemmas.{runs_works}
use Rattle.ops_turns.specs.Turn.{CoreInOrder, running_of}
use Rattle.core_primitives.specs.StateView.{thread_of}

pub returns : goal.returns
returns g c =
    let s = c.args.store.now in
    let d = c.args.component.now in
    let own = is_own_type c.args.ty c.args.encoding c.args.memory in
    let v = c.args.value in
    let n = c.number-number.result in
    let answer = c.task_return-answer in
    let u = answer.new.w in
    let told = c.tell_call.ensures in
    let runs : running_of s.state ≡ Some n =
    ap (option_map (λ id. thread_of s.state id)) (sym c.current.ensures ∙ c.in-Some.is) ∙ ap (λ (k : ℕ). Some k) (sym c.number-number.ensures) in
    let in_turn : CoreInOrder d (turn.Run n) s.state.core =
    subst (λ (o : Option ℕ). IfSome o (λ k. CoreInOrder d (turn.Run k) s.state.core)) runs c.requires.order in
    let order = in_turn.order Unscripted in
    let lends =
    subst (λ (b : Bool). return_holds_borrows (thread_of s.state c.in-Some.thread) b s.state.core ≡ false) c.is_own_type-own_type.ensures
    (sym c.return_holds_borrows.ensures ∙ c.if-return_holds_borrows.false) in
    let op_result =
    ended_unborrowed s.state c.in-Some.thread c.current.result c.current.ensures c.in-Some.is (λ n. return_holds_borrows n own s.state.core)
    (λ n. Returns n v own) answer.result u lends
    (subst (λ (k : ℕ). Returns k v own s.state answer.result u) c.number-number.ensures answer.ensures.returns) in
    record {
      does = does_call g.G.TaskGroupHook.listens (UnlessHoldsBorrows (λ n. return_holds_borrows n own) (λ n. Returns n v own) s.state) s u
          c.tell_call.new.core c.tell_call.new.listeners c.asked-before.result c.asked-before.ensures answer.result c.tell_call.result op_result
          (returned_known s.state u n v own answer.result answer.ensures.returns)
          (λ e. returns_not s.state u n v own answer.result answer.ensures.returns e)
          (λ left h. returned_holds left s.state u h d n v (runs_works d n s.state.core order) own answer.result answer.ensures.returns) told;
    }

pub returns-then-return_holds_borrows : goal.returns-then-return_holds_borrows
returns-then-return_holds_borrows g c =
    let s = c.args.store.now in
    let own = is_own_type c.args.ty c.args.encoding c.args.memory in
    let lends =
    subst (λ (b : Bool). return_holds_borrows (thread_of s.state c.in-Some.thread) b s.state.core ≡ true) c.is_own_type-own_type.ensures
    (sym c.return_holds_borrows.ensures ∙ c.if-return_holds_borrows.true) in
    let comes : ℕ → Comes = λ n. Returns n c.args.value own in
    record {
      does = does_call g.G.TaskGroupHook.listens (UnlessHoldsBorrows (λ n. return_holds_borrows n own) comes s.state) s s.state c.tell_refused.new.core c.tell_refused.new.listeners
          c.asked-before.result c.asked-before.ensures (Err (task_error.Trap trap.ScopeExit)) c.tell_refused.result
          (refused_borrowed s.state c.in-Some.thread c.current.result c.current.ensures c.in-Some.is (λ n. return_holds_borrows n own s.state.core) comes lends)
          refl (λ e. absurd (cc)) (λ left h. h) c.tell_refused.ensures;
    }
