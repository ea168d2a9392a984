-- A scope that takes no call, and a store after a start, a spawn and a close.
use Rattle.tests_serve.specs.Stage.{IsReady, TakesNone}
use Rattle.std.proofs.Common.{ap, arith, inr, refl, subst, sym, ⊎_elim, ◌∙◌}
use Rattle.std.specs.Prelude.{Err, List, None, Ok, OnErr, Option, Result, Some, [], false, length, option_map, true, ℕ, ◌+◌, ◌∷◌, ◌≡◌, ◌<◌}
use Rattle.ops_calls.specs.MainCalls.{Starts}
use Rattle.task_loop.proofs.StartLemmas.{start_current}
use Rattle.machine_data.specs.Core.{Core}
use Rattle.machine_data.specs.Moves.{put_high}
use Rattle.machine_data.specs.Write.{add_call, add_group, add_thread, add_work, count_work, on_thread, on_work, push_high, set_phase, set_place}
use Rattle.machine_data.specs.declared.component.Callee.{Callee}
use Rattle.machine_data.specs.declared.component.Component.{Component}
use Rattle.machine_data.specs.declared.component.HostDef.{HostDef}
use Rattle.machine_data.specs.declared.records.WorkCaller.TheVariants as callers
use Rattle.machine_data.specs.declared.trap.Trap.{Trap}
use Rattle.task_nursery.specs.Children.{is_open_call}
use Rattle.task_nursery.specs.Scope.{AreOf, Refuses, Scope, all_aborted, with_child}
use Rattle.task_nursery.specs.declared.children.Child.{Child}
use Rattle.task_nursery.specs.declared.children.Kept.{Kept}
use Rattle.task_nursery.specs.declared.children.Kept.TheVariants as kept
use Rattle.task_nursery.specs.declared.nursery.NurseryError.{NurseryError}
use Rattle.machine_rules.specs.Calls.{call_made, work_queued}
use Rattle.machine_rules.specs.MainOps.{main_aborted, main_started}
use Rattle.task_store.specs.declared.store.Store.{Store}
use Rattle.ops_turns.specs.Turn.{given, running_of}
use Rattle.core_primitives.specs.StateView.{StateView, thread_of}

-- a scope without a child is of every store
pub none_are : (s : StateView) → AreOf [] s
none_are s i k at = absurd (cc)

-- its first call leaves it full
pub first_is_full : (n m : Scope) (k : Kept) → n ≡ record { limit = 1; closed = false; children = [] } → m ≡ with_child k n → is_open_call k ≡ true → TakesNone m
first_is_full n m k first next call =
    let is : m ≡ record { limit = 1; closed = false; children = k ∷ [] } = next ∙ ap (λ (q : Scope). with_child k q) first in
    subst (λ (q : Scope). TakesNone q) (sym is) (record { few = omega arith; why = inr (refl, rw call (omega arith)) })

-- a start in one that takes no call changes nothing
pub nothing_taken : {T H G : Type 0} (n m : Scope) (s t : Store T H G) (r : Result Child NurseryError) → TakesNone n → Refuses n s r m t → (t ≡ s) × (m ≡ n)
nothing_taken n m s t r none h =
    ⊎_elim
    (λ closed. let k = h.closed closed in (k.1, subst (λ (q : Result Child NurseryError). OnErr q (m ≡ n)) k.0 h.same))
    (λ full. let k = h.full full.0 full.1 in (k.1, subst (λ (q : Result Child NurseryError). OnErr q (m ≡ n)) k.0 h.same))
    none.why

-- ---- No thread runs by a spawn

none_still : {X : Type 0} (f g : X → ℕ) (a b : Option X) → b ≡ a → option_map f a ≡ None → option_map g b ≡ None
none_still f g None None e none = refl
none_still f g a (Some x) e none = absurd (cc)
none_still f g (Some x) b e none = absurd (cc)

pub none_runs : (s t : StateView) → t.current ≡ s.current → running_of s ≡ None → running_of t ≡ None
none_runs s t same none = none_still (λ k. thread_of s k) (λ k. thread_of t k) s.current t.current same none

-- ---- The numbers that were given

started_given : (c : Component) (e : Callee) (words : List ℕ) (s : Core) → given (main_started c e words s) ≡ given s + 2
unfolding main_started put_high push_high set_place on_thread call_made add_thread add_call add_group
started_given c e words s = omega arith

pub begun_given : (c : Component) (e : Callee) (words : List ℕ) (s t : StateView) (n : ℕ) (o : Option Trap) → Starts c e words s o (Ok n) t → given t.core ≡ given s.core + 2
begun_given c e words s t n (Some why) k = let refused = k.0 in absurd (cc)
begun_given c e words s t n None k = ap given k.1.core ∙ started_given c e words s.core

pub spawned_given : (d : HostDef) (s : Core) → given (work_queued callers.Spawn d None s) ≡ given s + 1
unfolding work_queued push_high add_work count_work
spawned_given d s = omega arith

aborted_given : (i : ℕ) (s : Core) → given (main_aborted i s) ≡ given s
unfolding main_aborted set_phase on_work
aborted_given i s = refl

pub closed_given : (ks : List Kept) (s : Core) → given (all_aborted ks s) ≡ given s
closed_given [] s = refl
closed_given (kept.Work work ∷ ks) s = closed_given ks (main_aborted work.number s) ∙ aborted_given work.number s
closed_given (kept.Call f call ∷ ks) s = closed_given ks s
closed_given (kept.Returned v ∷ ks) s = closed_given ks s
closed_given (kept.Ended ∷ ks) s = closed_given ks s
