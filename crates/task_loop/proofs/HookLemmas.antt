-- Where a hook answers an error, and where it can't.
use Rattle.std.proofs.Common.{ap, arith, inl, inr, le_refl, refl, subst, sym, ◌∙◌, ◌≡◌}
use Rattle.ops_state.specs.declared.error.TaskError.{TaskError}
use Rattle.ops_state.specs.declared.error.TaskError.TheVariants as task_error
use Rattle.std.specs.Option.{option_map_or}
use Rattle.std.specs.Prelude.{Bool, Err, List, None, Option, Result, Some, false, is_some, true, ◌≤◌}
use Rattle.task_group.specs.Heard.{Heard}
use Rattle.task_group.specs.Listeners.{AnsweredErr, Listeners, errors_of}
use Rattle.task_loop.specs.Hooked.{MainFails, StopsTurn, TellsInPart, Unfailed, IfHookOk}
use Rattle.machine_data.specs.Core.{Main}
use Rattle.machine_data.specs.declared.component.Component.{Component}
use Rattle.machine_data.specs.Write.{set_trapped}
use Rattle.machine_data.specs.declared.label.Label.{Label}
use Rattle.machine_data.specs.declared.records.Turn.{Turn}
use Rattle.machine_data.specs.declared.records.Turn.TheVariants as turn
use Rattle.machine_data.specs.declared.trap.Trap.TheVariants as trap
use Rattle.machine_data.specs.declared.scenario.MainOpDef.{MainOpDef}
use Rattle.machine_rules.specs.Stalled.{Setting}
use Rattle.machine_data.specs.declared.component.HostDef.{HostDef}
use Rattle.ops_turns.specs.Later.{WorksLast}
use Rattle.task_store.specs.declared.store.Store.{Store}
use Rattle.ops_turns.specs.StepResult.{Added}
use Rattle.ops_turns.specs.Turn.{Turns, setting_of}
use Rattle.ops_turns.specs.declared.made.MadeStep.{MadeStep}
use Rattle.ops_turns.specs.declared.made.StepResult.{StepResult}
use Rattle.core_primitives.specs.Groups.{asked}
use Rattle.core_primitives.specs.StateView.{StateView, on_core, work_number}

-- a hook that isn't there answers none
pub no_errors : (l : Listeners) → is_some l.hook ≡ false → errors_of l ≡ 0
no_errors l none = by l.hook none
  where
    by : (o : Option Heard) → is_some o ≡ false → option_map_or (λ (h : Heard). h.errors) o 0 ≡ 0
    by None e = refl
    by (Some h) e = absurd (cc)

pub unanswered : (a b : Listeners) → is_some a.hook ≡ false → is_some b.hook ≡ false → AnsweredErr a b → ⊥
unanswered a b x y err = let p = no_errors a x in let q = no_errors b y in absurd (omega (arith, p, q, err))

-- it was told before, and answers an error now
pub answered_after : (a b d : Listeners) → errors_of a ≤ errors_of b → AnsweredErr b d → AnsweredErr a d
answered_after a b d told err = omega (arith, told, err)

-- what is told afterwards takes back no error
pub answered_still : (a b d : Listeners) → AnsweredErr a b → errors_of b ≤ errors_of d → AnsweredErr a d
answered_still a b d err told = omega (arith, err, told)

-- where a hook answered an error, its type is one that listens
pub must_listen : (listens hooked : Bool) (a b : Listeners) → hooked ≡ is_some a.hook → (hooked ≡ true → listens ≡ true) → AnsweredErr a b → is_some b.hook ≡ is_some a.hook → listens ≡ false → ⊥
must_listen listens true a b is so err same off = let no : ◌≡◌ {A = Bool} true false = sym (so refl) ∙ off in absurd (cc)
must_listen listens false a b is so err same off = unanswered a b (sym is) (same ∙ sym is) err

-- ---- The turn in which it failed

-- the step of the turn was made, and the hook failed in what it gave
pub stops_after : (x : Setting) (p r : Turn) → p ≡ r → (r ≡ turn.Main → ⊥) → (m : Main) (s : StateView) (before after : List Label) (old new : Listeners) →
    AnsweredErr old new × (is_some new.hook ≡ is_some old.hook) → (q : StepResult) (n : Main) (t : StateView) →
    TellsInPart s.core r t old new → Added (λ (made : MadeStep). Turns x r m s made n t) q before after → StopsTurn x p m s before after old new n t
stops_after x p r is other m s before after old new err q n t tells made = record {
  answered = err.0;
  hook = err.1;
  stops = inr (
    λ main. other (sym is ∙ main),
    (
      subst (λ (k : Turn). TellsInPart s.core k t old new) (sym is) tells,
      (q, subst (λ (k : Turn). Added (λ (made : MadeStep). Turns x k m s made n t) q before after) (sym is) made),
    ),
  );
}

-- main's op came to that
pub stops_main : {M T H G : Type 0} (course : H → HostDef) (part : M → Main) (x : Setting) (p : Turn) → p ≡ turn.Main → (m n : M) (before after : List Label) → after ≡ before →
    (s t : Store T H G) → MainFails course m n s t → StopsTurn x p (part m) s.state before after s.listeners t.listeners (part n) t.state
stops_main course part x p main m n before after same s t q =
    let fails = q.fails in
    let stops = fails.stops in
    let first = answered_after s.listeners stops.between fails.between (stops.hook_is_ok).told.errors stops.answered in
    record {
      answered = answered_still s.listeners fails.between t.listeners first (fails.finished).errors;
      hook = (fails.finished).same_hook ∙ ((stops.last).same_hook ∙ (stops.hook_is_ok).told.same_hook);
      stops = inl (record { turn = main; trace = same; main = ap part q.main; state = q.state; fails = fails });
    }

-- the same in the setting of the run
pub stops_same : (c : Component) (ops ops' : List MainOpDef) (b b' : Bool) → ops ≡ ops' → b ≡ b' → (p : Turn) (m : Main) (s : StateView) (before after : List Label) (old new : Listeners) (n : Main) (t : StateView) →
    StopsTurn (setting_of c ops b) p m s before after old new n t → StopsTurn (setting_of c ops' b') p m s before after old new n t
stops_same c ops ops' b b' same idle p m s before after old new n t stops =
    subst (λ (o : List MainOpDef). StopsTurn (setting_of c o b') p m s before after old new n t) same
    (subst (λ (k : Bool). StopsTurn (setting_of c ops k) p m s before after old new n t) idle stops)

-- ---- What is so unless the hook answered an error

pub always_hook_is_ok : (b : Bool) (x y : Listeners) (P : Type 0) → P → IfHookOk b x y P
always_hook_is_ok false x y P p = p
always_hook_is_ok true x y P p = λ none. p

pub if_hook_ok_map : (b : Bool) (x y : Listeners) (P Q : Type 0) → (P → Q) → IfHookOk b x y P → IfHookOk b x y Q
if_hook_ok_map false x y P Q f p = f p
if_hook_ok_map true x y P Q f p = λ none. f (p none)

-- where it answered one, and nobody answers one that doesn't listen
pub if_hook_ok_failed : (b : Bool) (x y : Listeners) (P : Type 0) → (b ≡ false → AnsweredErr x y → ⊥) → AnsweredErr x y → IfHookOk b x y P
if_hook_ok_failed false x y P never err = absurd (never refl err)
if_hook_ok_failed true x y P never err = λ none. absurd (none err)

-- where nobody listens there is no hook
pub silent : (listens hooked : Bool) (x y : Listeners) → (hooked ≡ true → listens ≡ true) → hooked ≡ is_some x.hook → is_some y.hook ≡ is_some x.hook → listens ≡ false → AnsweredErr x y → ⊥
silent listens true x y hears is same quiet = let yes = hears refl in absurd (cc)
silent listens false x y hears is same quiet = unanswered x y (sym is) (same ∙ sym is)

-- ---- The store is trapped then

pub works_trapped : (t : StateView) → WorksLast t (asked (on_core set_trapped t))
unfolding set_trapped work_number
works_trapped t = record { names = λ id live. inl refl; made = le_refl _; gone = λ i below none. none; spawns = λ i spawn. spawn }

-- what main knew, it knows where its op was refused
pub knows_trapped : {M : Type 0} (K : M → StateView → Type 0) (m n : M) (s t : StateView) → n ≡ m → t ≡ asked (on_core set_trapped s) → ((u : StateView) → WorksLast s u → K m s → K m u) → K m s → K n t
knows_trapped {M} K m n s t main is stays knows =
    subst (λ (k : M). K k t) (sym main) (subst (λ (v : StateView). K m v) (sym is) (stays (asked (on_core set_trapped s)) (works_trapped s) knows))

-- ---- Starts

-- what is answered isn't that the hook failed
pub unfailed : (b : Bool) {A : Type 0} (r : Result A TaskError) (P : Type 0) → (r ≡ Err (task_error.Trap trap.HookFailed) → ⊥) → Unfailed b r P → P
unfailed false r P other h = h
unfailed true r P other h = h other
