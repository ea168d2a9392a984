-- What a call in a log means for the phase after it.
use Rattle.std.proofs.Common.{◌≡◌, ◌≢◌, ℕ, zero, suc, ◌≤◌, [], ◌∷◌, refl, sym, ap, subst, ◌∙◌, le_trans, arith}
use mathlib.Core.Option.{some, some-injective}
use lib.ListN.{get_elem?}
use Rattle.machine_data.specs.declared.statuses.Phase.{Phase}
use Rattle.machine_data.specs.declared.statuses.Phase.TheVariants.{Running, AbortRequested, Complete}
use Rattle.task_abort.specs.declared.log.PhaseCall.{PhaseCall}
use Rattle.task_abort.specs.declared.log.PhaseCall.TheVariants.{Abort, Finish}
use Rattle.task_abort.specs.declared.log.LogEntry.{LogEntry}
use Rattle.task_abort.specs.PhaseLog.{code, after, phase_from, phase, Name, Log}
use Rattle.task_abort.proofs.LogLemmas.{phase_from_rises}
use Rattle.task_abort.proofs.CallerLemmas.{at_nothing}

-- after a call that leaves a phase of at least this number the phase stays so
seen_call : (c : PhaseCall) (n : ℕ) → ((q : Phase) → n ≤ code (after c q)) → (p : Phase) (log : Log) (m : ℕ) (e : LogEntry Name) → get_elem? log m ≡ some e → e.call ≡ c → n ≤ code (phase_from p log)
seen_call c n leaves p [] m e at is = absurd (at_nothing e m at)
seen_call c n leaves p (x ∷ xs) zero e at is =
    let same : c ≡ x.call = sym (ap (λ (z : LogEntry Name). z.call) (some-injective x e at) ∙ is) in
    le_trans (subst (λ (z : PhaseCall). n ≤ code (after z p)) same (leaves p)) (phase_from_rises (after x.call p) xs)
seen_call c n leaves p (x ∷ xs) (suc m) e at is = seen_call c n leaves (after x.call p) xs m e at is

abort_leaves : (q : Phase) → 1 ≤ code (after Abort q)
abort_leaves Running = omega arith
abort_leaves AbortRequested = omega arith
abort_leaves Complete = omega arith

complete_only : (p : Phase) → 2 ≤ code p → p ≡ Complete
complete_only Running l = absurd (omega arith)
complete_only AbortRequested l = absurd (omega arith)
complete_only Complete l = refl

pub seen_abort : (log : Log) (m : ℕ) (e : LogEntry Name) → get_elem? log m ≡ some e → e.call ≡ Abort → phase log ≢ Running
seen_abort log m e at is none = let l = seen_call Abort 1 abort_leaves Running log m e at is in let z : code (phase log) ≡ 0 = ap code none in omega arith

pub seen_finish : (log : Log) (m : ℕ) (e : LogEntry Name) → get_elem? log m ≡ some e → e.call ≡ Finish → phase log ≡ Complete
seen_finish log m e at is = complete_only (phase log) (seen_call Finish 2 (λ q. omega arith) Running log m e at is)
