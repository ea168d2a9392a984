-- What is answered, by what the op resulted in.
use Rattle.std.proofs.Common.{refl, subst, sym}
use Rattle.std.specs.Prelude.{Bool, Err, Ok, false, Result, ℕ, ◌≡◌}
use Rattle.ops_state.specs.declared.error.TaskError.{TaskError}
use Rattle.ops_calls.specs.OpAnswers.{answered, has_stopped}
use Rattle.ops_calls.specs.HostOps.{Answers, Did}
use Rattle.ops_calls.specs.declared.answer_calls.Step.{Step}
use Rattle.ops_calls.specs.declared.answer_calls.Step.TheVariants as step
use Rattle.machine_data.specs.Labels.{Choice}
use Rattle.ops_guests.specs.declared.op_result.OpResult.{OpResult}
use Rattle.ops_guests.specs.declared.op_result.OpResult.TheVariants as op_result
use Rattle.ops_guests.specs.declared.op_result.OpAnswer.{OpAnswer}
use Rattle.machine_rules.specs.Progress.{Progress}
use Rattle.core_primitives.specs.StateView.{StateView}

abbrev same : OpAnswer → OpAnswer
same a = a

-- what was done hasn't stopped
pub done_goes_on : (r : OpResult) (a : OpAnswer) → Ok (step.Done a) ≡ answered same r → has_stopped r ≡ false
done_goes_on (op_result.Continues k m said) l e = refl
done_goes_on (op_result.Stops k) l e = absurd (cc)
done_goes_on (op_result.Traps why) l e = refl
done_goes_on (op_result.Fails i) l e = refl

module _ {A : Type 0} (f : OpAnswer → A) where
  -- it was refused
  pub refused_as : (r : OpResult) (why : TaskError) → Err why ≡ answered same r → Err why ≡ answered f r
  refused_as (op_result.Continues k m said) why e = absurd (cc)
  refused_as (op_result.Stops k) why e = absurd (cc)
  refused_as (op_result.Traps t) why e = cc
  refused_as (op_result.Fails i) why e = cc

  pub answers_of : (takes : Bool) (row : ℕ → Choice → Progress) (s t : StateView) (r : OpResult) → Did row s r t → (a : Result (Step A) TaskError) → a ≡ answered f r → Answers takes row f s a t
  answers_of takes row s t (op_result.Continues l m said) did a e = subst (λ (b : Result (Step A) TaskError). Answers takes row f s b t) (sym e) (op_result.Continues l m said, (did, refl))
  answers_of takes row s t (op_result.Stops l) did a e = subst (λ (b : Result (Step A) TaskError). Answers takes row f s b t) (sym e) (op_result.Stops l, (did, refl))
  answers_of takes row s t (op_result.Traps why) did a e = subst (λ (b : Result (Step A) TaskError). Answers takes row f s b t) (sym e) (op_result.Traps why, (did, refl))
  answers_of takes row s t (op_result.Fails i) did a e = subst (λ (b : Result (Step A) TaskError). Answers takes row f s b t) (sym e) (op_result.Fails i, (did, refl))
