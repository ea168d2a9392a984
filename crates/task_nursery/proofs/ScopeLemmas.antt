-- What a start in a scope results in.
use Rattle.std.proofs.Common.{ap, arith, inl, inr, refl, ⊎_elim, ◌∙◌}
use Rattle.std.specs.Option.{option_and_then}
use Rattle.std.specs.Prelude.{Bool, Err, List, Option, Result, Some, [], false, length, suc, true, zero, ℕ, ◌++◌, ◌<◌, ◌∷◌, ◌≡◌, ◌≤◌, ◌⊎◌}
use Rattle.task_loop.specs.declared.call.Func.{Func}
use Rattle.task_loop.specs.declared.call.FuncCallConcurrent.{FuncCallConcurrent}
use Rattle.machine_data.specs.declared.component.Component.{Component}
use Rattle.machine_data.specs.declared.trap.Trap.{Trap}
use Rattle.task_nursery.specs.Children.{is_open_call, thread_in}
use Rattle.task_nursery.specs.Numbers.{count_where, numbered}
use Rattle.task_nursery.specs.Scope.{ScopeBegins, Refuses, Scope, with_child}
use Rattle.task_nursery.specs.declared.children.Child.{Child}
use Rattle.task_nursery.specs.declared.children.Kept.{Kept}
use Rattle.task_nursery.specs.declared.children.Kept.TheVariants as kept
use Rattle.task_nursery.specs.declared.nursery.NurseryError.{NurseryError}
use Rattle.task_nursery.specs.declared.nursery.NurseryError.TheVariants as errors
use Rattle.task_store.specs.declared.store.Store.{Store}

-- either is the less
pub less_or : (a b : ℕ) → (a < b) ⊎ (b ≤ a)
less_or zero zero = inr (omega arith)
less_or zero (suc b) = inl (omega arith)
less_or (suc a) zero = inr (omega arith)
less_or (suc a) (suc b) = ⊎_elim (λ lt. inl (omega (arith, lt))) (λ le. inr (omega (arith, le))) (less_or a b)

module _ {T H G : Type 0} (c : Component) (f : Func) (words : List ℕ) (n : Scope) (s : Store T H G) (r : Result Child NurseryError) (m : Scope) (t : Store T H G) (refuses : Refuses n s r m t)
    (begins : n.closed ≡ false → count_where is_open_call n.children < n.limit → ScopeBegins c f words n s r m t) where
  -- The store was asked, or the scope refused it, and the store is as before.
  op_result : (b : Bool) → n.closed ≡ b → ScopeBegins c f words n s r m t ⊎ (((r ≡ Err errors.Closed) ⊎ (r ≡ Err errors.Full)) × (t ≡ s))
  op_result true is = let turned = refuses.closed is in inr (inl turned.0, turned.1)
  op_result false is = ⊎_elim (λ lt. inl (begins is lt)) (λ le. let turned = refuses.full is le in inr (inr turned.0, turned.1)) (less_or (count_where is_open_call n.children) n.limit)

  pub begun : (r ≡ Err errors.Closed → ⊥) → (r ≡ Err errors.Full → ⊥) → ScopeBegins c f words n s r m t
  begun closed full = ⊎_elim (λ b. b) (λ turned. absurd (⊎_elim closed full turned.0)) (op_result n.closed refl)

  pub left_alone : (ScopeBegins c f words n s r m t → ⊥) → t ≡ s
  left_alone none = ⊎_elim (λ b. absurd (none b)) (λ turned. turned.1) (op_result n.closed refl)

-- a start that is neither refused by the store nor in lack of memory begins nothing
pub begins_none : {T H G : Type 0} (c : Component) (f : Func) (words : List ℕ) (n : Scope) (s : Store T H G) (e : NurseryError) (m : Scope) (t : Store T H G) → ((why : Trap) → e ≡ errors.Trap why → ⊥) → (e ≡ errors.NoMemory → ⊥) →
    ScopeBegins c f words n s (Err e) m t → ⊥
begins_none c f words n s errors.NoMemory m t trap memory begins = memory refl
begins_none c f words n s errors.Closed m t trap memory begins = begins
begins_none c f words n s errors.Full m t trap memory begins = begins
begins_none c f words n s (errors.Trap why) m t trap memory begins = trap why refl

pub length_last : {A : Type 0} (xs : List A) (y : A) → length (xs ++ y ∷ []) ≡ suc (length xs)
length_last [] y = refl
length_last (x ∷ xs) y = ap (λ (k : ℕ). suc k) (length_last xs y)

-- the last one has their number
pub numbered_last : {A : Type 0} (xs : List A) (y : A) (n : ℕ) → n ≡ length (xs ++ y ∷ []) → numbered (xs ++ y ∷ []) n ≡ Some y
numbered_last [] y zero is = absurd (cc)
numbered_last [] y (suc zero) is = refl
numbered_last [] y (suc (suc n)) is = absurd (omega (arith, is))
numbered_last (x ∷ xs) y zero is = absurd (cc)
numbered_last (x ∷ xs) y (suc zero) is = absurd (let more = length_last xs y in omega (arith, is, more))
numbered_last (x ∷ xs) y (suc (suc n)) is = numbered_last xs y (suc n) (omega (arith, is))

-- the thread of the call that was started
pub made_thread : (n m : Scope) (f : Func) (call : FuncCallConcurrent) (child : Child) → m ≡ with_child (kept.Call f call) n → child.number ≡ length m.children → option_and_then thread_in (numbered m.children child.number) ≡ Some call.thread
made_thread n m f call child scope number =
    let children = ap (λ (q : Scope). q.children) scope in
    let last = numbered_last n.children (kept.Call f call) child.number (number ∙ ap (λ (ks : List Kept). length ks) children) in
    ap (λ (ks : List Kept). option_and_then thread_in (numbered ks child.number)) children ∙ ap (λ (o : Option Kept). option_and_then thread_in o) last
