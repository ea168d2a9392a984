-- A start that a hook is told of before it is made.
use Rattle.ops_state.specs.declared.error.TaskError.{TaskError}
use Rattle.ops_state.specs.declared.error.TaskError.TheVariants as task_error
use Rattle.std.proofs.Common.{arith, inl, inr, refl}
use Rattle.std.proofs.lemmas.Bool.{cases_lt}
use Rattle.std.specs.Prelude.{Bool, Err, IsErr, Ok, Result, Some, false, is_err, true, ◌↔◌, ◌≡◌, ◌≤◌, ◌⊎◌}
use Rattle.task_group.specs.Listeners.{AnsweredErr, Listeners, errors_of}
use Rattle.task_loop.specs.Hooked.{Unfailed, IfHookOk, Unhooked}
use Rattle.machine_data.specs.Core.{Core}
use Rattle.machine_data.specs.declared.trap.Trap.{Trap}
use Rattle.machine_data.specs.declared.trap.Trap.TheVariants as trap
use Rattle.machine_data.specs.Read.{fits}
use Rattle.machine_rules.specs.MainOps.{refusal, start_refusal}

-- ---- Premises

pub unfailed_always : (b : Bool) {A : Type 0} (r : Result A TaskError) (P : Type 0) → P → Unfailed b r P
unfailed_always false r P p = p
unfailed_always true r P p = λ no. p

pub unfailed_on : (b : Bool) {A : Type 0} (r : Result A TaskError) (P : Type 0) → b ≡ true → ((r ≡ Err (task_error.Trap trap.HookFailed) → ⊥) → P) → Unfailed b r P
unfailed_on false r P listens gives = absurd (cc)
unfailed_on true r P listens gives = gives

pub unhooked_always : (b : Bool) (l : Listeners) (P : Type 0) → P → Unhooked b l P
unhooked_always false l P p = p
unhooked_always true l P p = λ none. p

pub if_hook_ok_at : (b : Bool) (x y : Listeners) (P : Type 0) → IfHookOk b x y P → (AnsweredErr x y → ⊥) → P
if_hook_ok_at false x y P h none = h
if_hook_ok_at true x y P h none = h none

pub unhooked_map : (b : Bool) (l : Listeners) (P Q : Type 0) → (P → Q) → Unhooked b l P → Unhooked b l Q
unhooked_map false l P Q f p = f p
unhooked_map true l P Q f p = λ none. f (p none)

pub unfailed_map : (b : Bool) {A : Type 0} (r : Result A TaskError) (P Q : Type 0) → (P → Q) → Unfailed b r P → Unfailed b r Q
unfailed_map false r P Q f p = f p
unfailed_map true r P Q f p = λ no. f (p no)

-- a start is refused by traps 20 and 18 alone, beside the hook
pub refusal_other : (s : Core) (why : Trap) → start_refusal s ≡ Some why → why ≡ trap.HookFailed → ⊥
unfolding start_refusal
refusal_other s why is e = by s.trapped (fits 4 s) is
  where
    by : (a b : Bool) → refusal a b ≡ Some why → ⊥
    by true b q = absurd (cc)
    by false true q = absurd (cc)
    by false false q = absurd (cc)

-- ---- What listeners answer that are told

-- they answered an error, or none
pub heard_or_not : (a b : Listeners) → errors_of a ≤ errors_of b → AnsweredErr a b ⊎ (errors_of b ≡ errors_of a)
heard_or_not a b told = elim (cases_lt (errors_of a) (errors_of b)) [
  | inl err ↦ inl err
  | inr still ↦ inr (omega (arith, told, still))
]

pub told_failed : {A E : Type 0} (r : Result A E) (a b : Listeners) → (IsErr r ↔ AnsweredErr a b) → is_err r ≡ true → AnsweredErr a b
told_failed (Ok x) a b answer e = absurd (cc)
told_failed (Err x) a b answer e = answer.0 refl

pub told_hook_is_ok : {A E : Type 0} (r : Result A E) (a b : Listeners) → (IsErr r ↔ AnsweredErr a b) → is_err r ≡ false → AnsweredErr a b → ⊥
told_hook_is_ok (Ok x) a b answer e err = absurd (let no = answer.1 err in cc)
told_hook_is_ok (Err x) a b answer e err = absurd (cc)

pub ok_or_err : {T E : Type 0} (r : Result T E) (v : T) (e : E) → r ≡ Ok v → r ≡ Err e → ⊥
ok_or_err (Ok x) v e is other = absurd (cc)
ok_or_err (Err x) v e is other = absurd (cc)
