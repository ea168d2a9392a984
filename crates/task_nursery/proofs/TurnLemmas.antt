-- What a turn of a nursery is to a main: the finish of a call.
use Rattle.futures.specs.declared.task.Poll.TheVariants.{Ready}
use Rattle.std.proofs.Common.{ap, arith, refl, subst, sym, ◌∙◌}
use Rattle.std.specs.Prelude.{List, None, Option, Some, [], is_some, option_and_then, slice_get, slice_set, suc, true, unwrap_or, zero, ℕ, ◌-◌, ◌∷◌, ◌≡◌}
use Rattle.ops_calls.specs.MainCalls.{Finishes}
use Rattle.task_loop.specs.declared.call.Func.{Func}
use Rattle.task_loop.specs.declared.call.FuncCallConcurrent.{FuncCallConcurrent}
use Rattle.machine_data.specs.Core.{Core}
use Rattle.machine_data.specs.Maps.{get}
use Rattle.task_nursery.proofs.KeptLemmas.{ended_is_open}
use Rattle.task_nursery.proofs.NumberLemmas.{first_is_least, first_is_so}
use Rattle.task_nursery.specs.Children.{ended, has_ended, is_open, left_by, value_in}
use Rattle.task_nursery.specs.Numbers.{first_where, numbered, numbers_where}
use Rattle.task_nursery.specs.Scope.{Scope, after_end, ended_at, left_at, with_ended}
use Rattle.task_nursery.specs.declared.children.Kept.{Kept}
use Rattle.task_nursery.specs.declared.children.Kept.TheVariants as kept
use Rattle.core_primitives.specs.StateView.{StateView, on_core}

got_set : {A : Type 0} (xs : List A) (i : ℕ) (x y : A) → slice_get xs i ≡ Some x → slice_get (slice_set xs i y) i ≡ Some y
got_set [] i x y at = absurd (cc)
got_set (z ∷ zs) zero x y at = refl
got_set (z ∷ zs) (suc i) x y at = got_set zs i x y at

-- the one that was put in the place of this number has it
pub numbered_set : {A : Type 0} (xs : List A) (k : ℕ) (x y : A) → numbered xs k ≡ Some x → numbered (slice_set xs (k - 1) y) k ≡ Some y
numbered_set xs zero x y at = absurd (cc)
numbered_set xs (suc i) x y at = let place : i ≡ suc i - 1 = omega arith in subst (λ (j : ℕ). slice_get (slice_set xs j y) i ≡ Some y) place (got_set xs i x y at)

-- the value that is there is the one that is kept
kept_value : (o : Option ℕ) (v : ℕ) → is_some o ≡ true → Some (unwrap_or o 0) ≡ Some v → o ≡ Some v
kept_value None v there is = absurd (cc)
kept_value (Some w) v there is = is

abbrev FinishesOf : Option Kept → StateView → ℕ → StateView → Type 0
FinishesOf o s v t = (f : Func) × (call : FuncCallConcurrent) × (o ≡ Some (kept.Call f call)) × Finishes call.thread s (Ready v) t

finished_by : (o : Option Kept) (k : Kept) (s t : StateView) (v : ℕ) → o ≡ Some k → has_ended s.core k ≡ true → value_in (ended s.core k) ≡ Some v → t ≡ on_core (left_by k) s → FinishesOf o s v t
finished_by o (kept.Call f call) s t v here is value left = (f, call, here, (kept_value (get s.core.results call.thread) v is value, left))
finished_by o (kept.Work work) s t v here is value left = absurd (cc)
finished_by o (kept.Returned w) s t v here is value left = absurd (cc)
finished_by o kept.Ended s t v here is value left = absurd (cc)

-- the child that has ended by a turn, and has a value then, is a call that was finished
pub turn_finishes : (n m : Scope) (s t : StateView) (k v : ℕ) → first_where (has_ended s.core) 1 n.children ≡ Some k → m ≡ with_ended s.core k n → t ≡ on_core (after_end k n) s →
    option_and_then value_in (numbered m.children k) ≡ Some v → FinishesOf (numbered n.children k) s v t
turn_finishes n m s t k v first scope state value =
    let among = first_is_least is_open (has_ended s.core) (ended_is_open s.core) n.children ∙ first in
    let so = first_is_so (has_ended s.core) (numbered n.children) (numbers_where is_open 1 n.children) k among in
    let here = so.1.0 in
    let children : m.children ≡ slice_set n.children (k - 1) (ended s.core so.0) = ap (λ (q : Scope). q.children) scope ∙ ap (λ (o : Option Kept). ended_at s.core k n.children o) here in
    let now : numbered m.children k ≡ Some (ended s.core so.0) = ap (λ (ks : List Kept). numbered ks k) children ∙ numbered_set n.children k so.0 (ended s.core so.0) here in
    finished_by (numbered n.children k) so.0 s t v here so.1.1 (sym (ap (λ (o : Option Kept). option_and_then value_in o) now) ∙ value) (state ∙ ap (λ (o : Option Kept). on_core (left_at o) s) here)
