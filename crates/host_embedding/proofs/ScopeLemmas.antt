-- What the calls of a scope come to for a main.
use Rattle.std.proofs.Common.{ap, arith, refl, subst, sym, ◌∙◌}
use Rattle.std.specs.Option.{option_and_then}
use Rattle.std.specs.Prelude.{List, None, Ok, Option, Some, length, slice_set, suc, zero, [], ℕ, ◌+◌, ◌-◌, ◌∷◌, ◌≡◌, ◌≤◌}
use Rattle.task_group.proofs.GroupLemmas.{still_hook_is_ok}
use Rattle.task_group.specs.Listeners.{ToldListeners}
use Rattle.task_loop.proofs.MainStartLemmas.{shows_start}
use Rattle.task_loop.proofs.MainToldLemmas.{started_notices}
use Rattle.task_loop.proofs.StartLemmas.{start_current}
use Rattle.task_loop.specs.CallStarts.{KeepsStore}
use Rattle.task_loop.specs.LoopCalls.{callee_of}
use Rattle.task_loop.specs.HasRun.{HasStepResult, MayStep}
use Rattle.task_loop.specs.Says.{Says}
use Rattle.task_loop.specs.Told.{main_notices}
use Rattle.task_loop.specs.declared.call.Func.{Func}
use Rattle.task_loop.specs.declared.call.FuncCallConcurrent.{FuncCallConcurrent}
use Rattle.machine_data.specs.Core.{Core}
use Rattle.machine_data.specs.declared.component.Component.{Component}
use Rattle.machine_data.specs.declared.component.HostDef.{HostDef}
use Rattle.machine_data.specs.declared.records.Notice.{Notice}
use Rattle.task_nursery.proofs.ScopeLemmas.{length_last}
use Rattle.task_nursery.proofs.TurnLemmas.{numbered_set}
use Rattle.task_nursery.specs.Children.{ended, value_in}
use Rattle.task_nursery.specs.Numbers.{numbered}
use Rattle.task_nursery.specs.Scope.{Scope, StartsCall, TellsStart, ended_at, left_at, with_child, with_ended}
use Rattle.task_nursery.specs.declared.children.Child.{Child}
use Rattle.task_nursery.specs.declared.children.Kept.{Kept}
use Rattle.task_nursery.specs.declared.children.Kept.TheVariants as kept
use Rattle.machine_rules.specs.MainOps.{start_refusal}
use Rattle.task_store.specs.declared.store.Store.{Store}
use Rattle.ops_turns.specs.Main.{Steps}

-- there is a child more
pub one_more : (n m : Scope) (k : Kept) (started : ℕ) → m ≡ with_child k n → length n.children ≤ started → length m.children ≤ started + 1
one_more n m k started scope few =
    let size = ap (λ (q : Scope). length q.children) scope ∙ length_last n.children k in omega (arith, size, few)

-- ---- An end

length_set : {A : Type 0} (xs : List A) (i : ℕ) (y : A) → length (slice_set xs i y) ≡ length xs
length_set [] i y = refl
length_set (x ∷ xs) zero y = refl
length_set (x ∷ xs) (suc i) y = ap (λ (k : ℕ). suc k) (length_set xs i y)

ended_size : (s : Core) (k : ℕ) (ks : List Kept) (o : Option Kept) → length (ended_at s k ks o) ≡ length ks
ended_size s k ks None = refl
ended_size s k ks (Some child) = length_set ks (k - 1) (ended s child)

-- there are as many children
pub as_many : (n m : Scope) (s : Core) (k started : ℕ) → m ≡ with_ended s k n → length n.children ≤ started → length m.children ≤ started
as_many n m s k started scope few =
    let size = ap (λ (q : Scope). length q.children) scope ∙ ended_size s k n.children (numbered n.children k) in omega (arith, size, few)

-- a child that has ended and has no value was none of the calls, and takes nothing from the core
pub takes_none : (n m : Scope) (s : Core) (k : ℕ) (o : Option Kept) → numbered n.children k ≡ o → m ≡ with_ended s k n → option_and_then value_in (numbered m.children k) ≡ None → left_at o s ≡ s
takes_none n m s k None here scope none = refl
takes_none n m s k (Some (kept.Call f call)) here scope none =
    let now = numbered_set n.children k (kept.Call f call) (ended s (kept.Call f call)) here in
    let children = ap (λ (q : Scope). q.children) scope ∙ ap (λ (o : Option Kept). ended_at s k n.children o) here in
    let value = ap (λ (ks : List Kept). option_and_then value_in (numbered ks k)) children ∙ ap (λ (o : Option Kept). option_and_then value_in o) now in
    absurd (let clash = sym value ∙ none in cc)
takes_none n m s k (Some (kept.Work work)) here scope none = refl
takes_none n m s k (Some (kept.Returned v)) here scope none = refl
takes_none n m s k (Some kept.Ended) here scope none = refl

-- ---- A step of main

module _ {M T H G : Type 0} (says : Says M) (course : H → HostDef) (c : Component) (f : Func) (words : List ℕ) (m : M) (s : Store T H G) (may : MayStep says course c m s) (t : Store T H G) (keeps : KeepsStore c s t) (k : ℕ) where
  -- the call was started in the scope
  pub child_started : (child : Child) → TellsStart (Ok child) s t → (call : FuncCallConcurrent) → StartsCall c f words s call.thread t → (thread : ℕ) → thread ≡ call.thread → (p : M) →
      Steps c (says.script m) (says.part m) s.state.core (shows_start k thread) (says.part p) t.state.core → says.does m s.state.core (shows_start k thread) p t.state.core → says.suits p c → says.knows p t.state → HasStepResult says course c (shows_start k thread) m s p t
  child_started child told call starts thread is p steps does suits knows =
      let started = started_notices c (callee_of f) words s.state t.state k (start_refusal s.state.core) call.thread starts in
      record {
        steps = steps;
        does = does;
        told = subst (λ (i : ℕ). ToldListeners (main_notices (shows_start k i) s.state.core t.state.core) s.listeners t.listeners) (sym is)
            (subst (λ (ns : List Notice). ToldListeners ns s.listeners t.listeners) started told.0);
        hook_is_ok = λ unrefused. still_hook_is_ok s.listeners t.listeners told.0 told.1;
        idle = start_current c (callee_of f) words s.state t.state (start_refusal s.state.core) (Ok call.thread) may.idle starts ∙ sym may.idle;
        suits = suits;
        knows = knows;
        works = keeps.works course may.works;
        asked = keeps.asked may.asked;
      }
