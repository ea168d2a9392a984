-- What a run results in is of the machine's rules: it is no trap 22.
use Rattle.laws_labels.proofs.TrapLemmas.{ends_are_of_rules}
use Rattle.laws_labels.specs.Own.{is_of_rules, is_rule_trap}
use Rattle.ops_state.specs.declared.error.TaskError.{TaskError}
use Rattle.ops_state.specs.declared.error.TaskError.TheVariants as task_error
use Rattle.std.proofs.Common.{ap, refl, subst, ◌∙◌, ◌≡◌}
use Rattle.std.specs.Option.{option_map}
use Rattle.std.specs.Prelude.{Bool, Err, List, None, Option, Result, Some, [], false, length, true, ℕ, ◌==◌, ◌∷◌}
use Rattle.task_loop.specs.Hooked.{hook_failed}
use Rattle.task_loop.specs.RunPolls.{answer_of_label, last_answer, or_paused, poll_answer, run_answer}
use Rattle.task_loop.specs.declared.poll_methods.RunPoll.{RunPoll}
use Rattle.machine_data.specs.Core.{State}
use Rattle.machine_data.specs.declared.label.Label.{Label}
use Rattle.machine_data.specs.declared.label.Label.TheVariants as label
use Rattle.machine_data.specs.declared.label.LoopLabel.TheVariants as loop_label
use Rattle.machine_data.specs.declared.outcome.Outcome.{Outcome}
use Rattle.machine_data.specs.declared.outcome.Outcome.TheVariants as outcome
use Rattle.machine_data.specs.declared.trap.Trap.{Trap}
use Rattle.machine_data.specs.declared.trap.Trap.TheVariants as trap
use Rattle.machine_rules.specs.Outcome.{IsOutcome, is_at_rest, last_outcome, open_outcome, or_open, outcome_of, outcome_of_label}
use Rattle.machine_rules.specs.Run.{Run}
use Rattle.machine_rules.specs.Stalled.{Setting}

last_of_rules : (x : Setting) (s : State) (ls : List Label) (t : State) → Run x s ls t → (o : Outcome) → last_outcome ls ≡ Some o → is_of_rules o ≡ true
last_of_rules x s [] t run o e = absurd (cc)
last_of_rules x s (l ∷ []) t run o e = ends_are_of_rules x s l run.0 run.1.0 o e
last_of_rules x s (l ∷ m ∷ ls) t run o e = last_of_rules x run.0 (m ∷ ls) t run.1.1 o e

open_of_rules : (a b : Bool) (o : Outcome) → open_outcome a b ≡ Some o → is_of_rules o ≡ true
open_of_rules true b o e = let is : outcome.Idle ≡ o = cc in subst (λ (k : Outcome). is_of_rules k ≡ true) is refl
open_of_rules false true o e = let is : outcome.OutOfSteps ≡ o = cc in subst (λ (k : Outcome). is_of_rules k ≡ true) is refl
open_of_rules false false o e = absurd (cc)

-- ---- What a drive results in

module _ (x : Setting) (s : State) (ls : List Label) (t : State) (run : Run x s ls t) where
  or_of_rules : (q : Option Outcome) → last_outcome ls ≡ q → (steps : ℕ) (o : Outcome) → or_open q x t ls steps ≡ Some o → is_of_rules o ≡ true
  or_of_rules (Some w) e steps o is = let same : w ≡ o = cc in subst (λ (k : Outcome). is_of_rules k ≡ true) same (last_of_rules x s ls t run w e)
  or_of_rules None e steps o is = open_of_rules (is_at_rest x t) (length ls == steps) o is

  outcome_of_rules : (steps : ℕ) (o : Outcome) → IsOutcome x t ls steps o → is_of_rules o ≡ true
  unfolding outcome_of
  outcome_of_rules steps o is = or_of_rules (last_outcome ls) refl steps o is

  pub never_failed : (steps : ℕ) (o : Outcome) → IsOutcome x t ls steps o → o ≡ hook_failed → ⊥
  never_failed steps o is e = let yes = outcome_of_rules steps o is in let no : is_of_rules o ≡ false = ap is_of_rules e in absurd (cc)

-- ---- What a poll answers

abbrev Failed : Result RunPoll TaskError → Type 0
Failed r = r ≡ Err (task_error.Trap trap.HookFailed)

answer_never : (o : Outcome) → is_of_rules o ≡ true → Failed (run_answer o) → ⊥
answer_never (outcome.Done v) row e = absurd (cc)
answer_never (outcome.Trap w) row e = let is : w ≡ trap.HookFailed = cc in let no : is_rule_trap w ≡ false = ap is_rule_trap is in absurd (cc)
answer_never (outcome.Deadlock w) row e = let is : w ≡ trap.HookFailed = cc in let no : is_of_rules (outcome.Deadlock w) ≡ false = ap (λ (k : Trap). is_of_rules (outcome.Deadlock k)) is in absurd (cc)
answer_never (outcome.HostFailed i) row e = absurd (cc)
answer_never outcome.Idle row e = absurd (cc)
answer_never outcome.OutOfSteps row e = absurd (cc)

mapped_never : (o : Option Outcome) → ((w : Outcome) → o ≡ Some w → is_of_rules w ≡ true) → (r : Result RunPoll TaskError) → option_map run_answer o ≡ Some r → Failed r → ⊥
mapped_never None row r is e = absurd (cc)
mapped_never (Some w) row r is e = answer_never w (row w refl) (let same : run_answer w ≡ r = cc in same ∙ e)

label_never : (l : Label) → ((w : Outcome) → outcome_of_label l ≡ Some w → is_of_rules w ≡ true) → (r : Result RunPoll TaskError) → answer_of_label l ≡ Some r → Failed r → ⊥
label_never (label.Loop loop_label.Rest) row r is e = absurd (cc)
label_never l row r is e = mapped_never (outcome_of_label l) row r is e

last_never : (x : Setting) (s : State) (ls : List Label) (t : State) → Run x s ls t → (r : Result RunPoll TaskError) → last_answer ls ≡ Some r → Failed r → ⊥
last_never x s [] t run r is e = absurd (cc)
last_never x s (l ∷ []) t run r is e = label_never l (λ w gives. ends_are_of_rules x s l run.0 run.1.0 w gives) r is e
last_never x s (l ∷ m ∷ ls) t run r is e = last_never x run.0 (m ∷ ls) t run.1.1 r is e

paused_never : (q : Option (Result RunPoll TaskError)) (a b : Bool) → ((r : Result RunPoll TaskError) → q ≡ Some r → Failed r → ⊥) → (r : Result RunPoll TaskError) → or_paused q a b ≡ Some r → Failed r → ⊥
paused_never (Some w) a b never r is e = never w refl (let same : w ≡ r = cc in same ∙ e)
paused_never None true b never r is e = absurd (cc)
paused_never None false true never r is e = absurd (cc)
paused_never None false false never r is e = absurd (cc)

pub polled_never : (x : Setting) (s : State) (ls : List Label) (t : State) → Run x s ls t → (passes : Bool) (since steps : ℕ) (r : Result RunPoll TaskError) → poll_answer x t passes since ls steps ≡ Some r → Failed r → ⊥
polled_never x s ls t run passes since steps r is e = paused_never (last_answer ls) _ _ (last_never x s ls t run) r is e
