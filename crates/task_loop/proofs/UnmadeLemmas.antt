-- What is told of a group that isn't made.
use Rattle.store_notices.proofs.MoveLemmas.{hook_is_ok_then, with_hook_ok, stops_single, stops_then, stops_within}
use Rattle.ops_state.specs.declared.error.TaskError.{TaskError}
use Rattle.ops_state.specs.declared.error.TaskError.TheVariants as task_error
use Rattle.std.proofs.Common.{ap, arith, inl, inr, refl, subst, ◌∙◌}
use Rattle.std.specs.Prelude.{Bool, [], ℕ, ◌+◌, ◌∷◌, ◌≡◌, ◌⊎◌}
use Rattle.task_group.specs.Listeners.{AnsweredErr, Listeners, ToldListeners, ToldWithHookOk, errors_of}
use Rattle.task_loop.proofs.HookStartLemmas.{heard_or_not, if_hook_ok_at}
use Rattle.task_loop.specs.Begun.{HookIsReason, TellsUnmade}
use Rattle.task_loop.specs.Hooked.{IfHookOk}
use Rattle.task_loop.specs.Told.{finish_of_group, start_of_group}
use Rattle.machine_data.specs.Core.{Core}
use Rattle.machine_data.specs.declared.records.Notice.{Notice}
use Rattle.machine_data.specs.declared.records.NoticeKind.TheVariants as notice
use Rattle.machine_data.specs.declared.trap.Trap.TheVariants as trap
use Rattle.machine_rules.specs.Notices.{told_of}

pub hook_is_reason : HookIsReason
hook_is_reason (task_error.Trap trap.HookFailed) s old new left err = refl
hook_is_reason task_error.NoMemory s old new left err = absurd (elim (left.out_of_memory refl) [
  | inl same ↦ let e = ap errors_of same in omega (arith, e, err)
  | inr hook_is_ok ↦ let e = hook_is_ok.hook_is_ok in omega (arith, e, err)
])
hook_is_reason why s old new left err = absurd (let e = ap errors_of (left.refused (λ no. cc) (λ no. cc)) in omega (arith, e, err))

-- nothing was told
pub unmade_untold : (why : TaskError) (s : Core) (old new : Listeners) → (why ≡ task_error.Trap trap.HookFailed → ⊥) → new ≡ old → TellsUnmade why s old new
unmade_untold why s old new other same = record { hooked = λ e. absurd (other e); out_of_memory = λ e. inl same; refused = λ e f. same }

abbrev start_notice : ℕ → Notice
start_notice n = told_of notice.Start n

abbrev finish_notice : ℕ → Notice
finish_notice n = told_of notice.Finish n

module _ (s : Core) (n : ℕ) (number : n ≡ s.made.groups + 1) (old between : Listeners) (first : ToldListeners (start_notice n ∷ []) old between) where
  starts : ToldListeners (start_of_group s ∷ []) old between
  starts = subst (λ (k : ℕ). ToldListeners (start_notice k ∷ []) old between) number first

  -- the hook refused it
  pub unmade_refused : AnsweredErr old between → TellsUnmade (task_error.Trap trap.HookFailed) s old between
  unmade_refused err = record {
    hooked = λ e. stops_within (start_of_group s ∷ []) (finish_of_group s ∷ []) old between (stops_single (start_of_group s ∷ []) old between (inr (start_of_group s, refl)) starts err);
    out_of_memory = λ e. absurd (cc);
    refused = λ other memory. absurd (other refl);
  }

  -- it was out of memory then, and it finished again
  pub unmade_back : (AnsweredErr old between → ⊥) → (why r : TaskError) (new : Listeners) → why ≡ task_error.NoMemory → ToldListeners (finish_notice n ∷ []) between new → (listens : Bool) →
      IfHookOk listens between new (r ≡ why) → (AnsweredErr between new → r ≡ task_error.Trap trap.HookFailed) → TellsUnmade r s old new
  unmade_back none why r new memory last listens answer failed = by (heard_or_not between new last.errors)
    where
      hook_is_ok : ToldWithHookOk (start_of_group s ∷ []) old between
      hook_is_ok = with_hook_ok (start_of_group s ∷ []) old between starts (by_errors (heard_or_not old between starts.errors))
        where
          by_errors : AnsweredErr old between ⊎ (errors_of between ≡ errors_of old) → errors_of between ≡ errors_of old
          by_errors (inl err) = absurd (none err)
          by_errors (inr same) = same

      ends : ToldListeners (finish_of_group s ∷ []) between new
      ends = subst (λ (k : ℕ). ToldListeners (finish_notice k ∷ []) between new) number last

      by : AnsweredErr between new ⊎ (errors_of new ≡ errors_of between) → TellsUnmade r s old new
      by (inl err) = record {
        hooked = λ e. stops_then (start_of_group s ∷ []) (finish_of_group s ∷ []) old between new hook_is_ok (stops_single (finish_of_group s ∷ []) between new (inr (finish_of_group s, refl)) ends err);
        out_of_memory = λ e. absurd (let f = failed err in cc);
        refused = λ other memory. absurd (other (failed err));
      }
      by (inr same) =
          let is = if_hook_ok_at listens between new (r ≡ why) answer (λ err. omega (arith, err, same)) in
          record {
            hooked = λ e. absurd (let f = is ∙ memory in cc);
            out_of_memory = λ e. inr (hook_is_ok_then (start_of_group s ∷ []) (finish_of_group s ∷ []) old between new hook_is_ok (with_hook_ok (finish_of_group s ∷ []) between new ends same));
            refused = λ other wants. absurd (wants (is ∙ memory));
          }
