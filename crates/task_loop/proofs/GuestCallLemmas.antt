-- What the hook makes of the calls that have another thread run, end a thread or begin a task.
use Rattle.ops_state.specs.declared.error.TaskError.{TaskError}
use Rattle.ops_state.specs.declared.name_calls.QualifiedThreadId.{QualifiedThreadId}
use Rattle.std.proofs.Common.{ap, arith, inl, inr, refl, subst, sym, ◌∙◌}
use Rattle.std.specs.Prelude.{Bool, Err, IfOk, Ok, OnErr, Option, Result, false, is_some, true, ℕ, ◌≡◌, ◌≤◌, ◌⊎◌}
use Rattle.task_group.specs.Listeners.{AnsweredErr, Listeners, errors_of}
use Rattle.task_loop.proofs.HookLemmas.{must_listen, unanswered}
use Rattle.ops_state.specs.declared.error.TaskError.TheVariants as task_error
use Rattle.ops_calls.specs.Tasks.{Begins}
use Rattle.task_loop.proofs.HookStartLemmas.{heard_or_not, ok_or_err, if_hook_ok_at}
use Rattle.task_loop.specs.Begun.{MakesTold}
use Rattle.task_loop.specs.CallStarts.{IsReason}
use Rattle.task_loop.specs.GuestCalls.{MakesOn, has_room, table_refusal}
use Rattle.task_loop.specs.Hooked.{IfHookOk, Unhooked}
use Rattle.task_loop.specs.Told.{refused_by_hook}
use Rattle.machine_data.specs.declared.component.ExportKind.{ExportKind}
use Rattle.machine_data.specs.declared.trap.Trap.TheVariants as trap
use Rattle.task_store.specs.declared.store.Store.{Store}
use Rattle.core_primitives.specs.StateView.{StateView}

true_of : (b : Bool) → (b ≡ false → ⊥) → b ≡ true
true_of true never = refl
true_of false never = absurd (never refl)

-- who answers an error listens
pub hears : (listens hooked : Bool) (a b : Listeners) → hooked ≡ is_some a.hook → (hooked ≡ true → listens ≡ true) → AnsweredErr a b → is_some b.hook ≡ is_some a.hook → listens ≡ true
hears listens hooked a b is so err same = true_of listens (must_listen listens hooked a b is so err same)

-- who ran
pub ran_of : {A E : Type 0} (P : A → Type 0) (r : Result A E) → OnErr r ⊥ → IfOk r P → (a : A) × ((r ≡ Ok a) × P a)
ran_of P (Ok a) never is = (a, (refl, is))
ran_of P (Err e) never is = absurd never

-- where this isn't so, a hook listens
pub hears_of : (b : Bool) (x y : Listeners) (P : Type 0) → IfHookOk b x y P → (P → ⊥) → b ≡ true
hears_of false x y P so not = absurd (not so)
hears_of true x y P so not = refl

-- an Ok promises nothing of an error
pub on_ok_of : {A E : Type 0} (P : Type 0) (r : Result A E) (x : A) → r ≡ Ok x → OnErr r P
on_ok_of {A} {E} P r x is = subst (λ (q : Result A E). OnErr q P) (sym is) tt

-- where there is no hook it is an Ok
pub settled_ok : {A : Type 0} (b : Bool) (old between new : Listeners) (P : Type 0) (r : Result A TaskError) (x : A) → is_some between.hook ≡ is_some old.hook → is_some new.hook ≡ is_some between.hook →
    IfHookOk b between new (r ≡ Ok x) → Unhooked b old (OnErr r P)
settled_ok false old between new P r x first last answer = on_ok_of P r x answer
settled_ok true old between new P r x first last answer = λ none. on_ok_of P r x (answer (unanswered between new (first ∙ none) (last ∙ (first ∙ none))))

-- a task that was made had room
room_of : (x : ExportKind) (i : ℕ) (f : Option QualifiedThreadId) (s t : StateView) (room : Bool) (id : QualifiedThreadId) → Begins x i f s room (Ok id) t → room ≡ true
room_of x i f s t true id begins = refl
room_of x i f s t false id begins = absurd (let refused = begins.0 in cc)

-- the task was made, and settled
module _ {T H G : Type 0} (x : ExportKind) (i : ℕ) (f : Option QualifiedThreadId) (s t : Store T H G) (id : QualifiedThreadId)
    (made : MakesTold x i f (has_room f s.state) s.state id t.state s.listeners t.listeners) (told : errors_of made.between ≤ errors_of t.listeners) where
  pub makes_on : (listens : Bool) (r : Result QualifiedThreadId TaskError) → IfHookOk listens made.between t.listeners (r ≡ Ok id) → (AnsweredErr made.between t.listeners → r ≡ refused_by_hook) → MakesOn listens x i f s r t
  makes_on listens r answer failed = by (heard_or_not made.between t.listeners told)
    where
      by : AnsweredErr made.between t.listeners ⊎ (errors_of t.listeners ≡ errors_of made.between) → MakesOn listens x i f s r t
      by (inl err) =
          let answered : AnsweredErr s.listeners t.listeners = let hook_is_ok = made.begun.hook_is_ok in omega (arith, hook_is_ok, err) in
          let hook = hears_of listens made.between t.listeners (r ≡ Ok id) answer (λ ok. ok_or_err r _ _ ok (failed err)) in
          let room = room_of x i f s.state made.left (has_room f s.state) id made.begins in
          subst (λ (q : Result QualifiedThreadId TaskError). MakesOn listens x i f s q t) (sym (failed err)) (
            subst (λ (b : Bool). IsReason listens (table_refusal b) (task_error.Trap trap.HookFailed) s.listeners t.listeners) (sym room) (inr (refl, (hook, answered))),
            inr (refl, ((id, made), answered)),
          )
      by (inr same) =
          let is = if_hook_ok_at listens made.between t.listeners (r ≡ Ok id) answer (λ err. omega (arith, err, same)) in
          subst (λ (q : Result QualifiedThreadId TaskError). MakesOn listens x i f s q t) (sym is) (made, λ err. let hook_is_ok = made.begun.hook_is_ok in omega (arith, hook_is_ok, err, same))

-- another state and other listeners in a store that differs in these alone
pub rest_with : {T H G : Type 0} (s m : Store T H G) (u : StateView) (new : Listeners) → m ≡ record s { state = m.state; listeners = m.listeners } →
    record m { state = u; listeners = new } ≡ record s { state = u; listeners = new }
rest_with {T} {H} {G} s m u new is = ap (λ (k : Store T H G). record k { state = u; listeners = new }) is
