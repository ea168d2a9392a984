use Rattle.core_counts.proofs.member_counts.is_last_thread.Goals as goal
use Rattle.core_records.proofs.Core.{ap, arith, refl, seen, suc, sym, threads_of, zero, ℕ, ◌<◌, ◌∙◌, ◌≡◌}
use Rattle.core_records.proofs.AloneLemmas.{call_there, last_of_call, nobody_else}
use Rattle.core_records.proofs.KeptLemmas.{call_threads}

-- what isn't 0 is more
above_zero : (n : ℕ) → (n ≡ 0 → ⊥) → 0 < n
above_zero zero some = absurd (some refl)
above_zero (suc n) some = omega arith

pub call_there-requires-clause-live : goal.call_there-requires-clause-live
call_there-requires-clause-live c = above_zero _ (λ none. call_there c.args.parts.now c.requires c.args.thread c.in-Some.field-0.now c.in-Some.ensures.item (sym c.task_of-call.ensures.is ∙ none))

pub returns-in-Some : goal.returns-in-Some
returns-in-Some c =
    last_of_call c.args.parts.now c.requires c.args.thread c.in-Some.field-0.now c.in-Some.ensures.item c.call_there.result.now.threads
    (call_threads c.args.parts.now c.requires c.task_of-call.result c.call_there.result.now c.call_there.ensures.item
    ∙ ap (λ k. threads_of k (seen c.args.parts.now).core) (c.call_there.ensures.number ∙ c.task_of-call.ensures.is))

pub returns-in-None : goal.returns-in-None
returns-in-None c = nobody_else c.args.parts.now c.requires c.args.thread c.in-None.ensures.is
