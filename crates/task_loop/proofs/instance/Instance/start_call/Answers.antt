-- A prepared call is begun.
use Rattle.store_works.specs.KeptWorks.{HeldWork}
use Rattle.ops_state.specs.declared.name_calls.QualifiedThreadId.{QualifiedThreadId}
use Rattle.std.specs.Prelude.{IfSome, IsSome, None, Ok, Option, Some, ℕ, ◌≡◌}
use Rattle.ops_calls.specs.Prepared.{starts_in}
use Rattle.ops_calls.specs.declared.answer_calls.Step.TheVariants as step
use Rattle.task_loop.proofs.HostOpHoldLemmas.{started_holds}
use Rattle.task_loop.proofs.InstanceCallLemmas.{does_call}
use Rattle.task_loop.proofs.instance.Instance.start_call.Goals as goal
use Rattle.task_loop.proofs.TrackedLemmas.{started_known}
use Rattle.task_store.specs.Hosts.{HoldsWorks}
use Rattle.ops_turns.specs.Turn.{running_of}
use Rattle.core_primitives.specs.StateView.{StateView, with_core, with_current}

by_running : (left : ℕ → Option HeldWork) (s t : StateView) (id : QualifiedThreadId) (o : Option ℕ) → IsSome o →
    IfSome o (λ n. t ≡ with_current None (with_core (starts_in n id s) s)) → HoldsWorks left s.core → HoldsWorks left t.core
by_running left s t id None some is h = absurd (cc)
by_running left s t id (Some n) some is h = started_holds left s t h n id is

pub returns-clause-does : goal.returns-clause-does
returns-clause-does g c =
    let s = c.args.store.now in
    let id = c.args.callee in
    let start = c.start_prepared-answer in
    let u = start.new.w in
    does_call g.G.TaskGroupHook.listens
    (λ a v. (a ≡ Ok step.Pause) × IfSome (running_of s.state) (λ n. v ≡ with_current None (with_core (starts_in n id s.state) s.state))) s u
    c.tell_call.new.core c.tell_call.new.listeners c.asked-before.result c.asked-before.ensures start.result c.tell_call.result
    (start.ensures.answer, start.ensures.starts) (started_known s.state u id (running_of s.state) c.requires.runs start.ensures.starts)
    (λ e. let is = start.ensures.answer in absurd (cc))
    (λ left h. by_running left s.state u id (running_of s.state) c.requires.runs start.ensures.starts h) c.tell_call.ensures
