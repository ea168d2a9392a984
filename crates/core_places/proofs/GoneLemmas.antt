-- A write of a call or a host work that isn't there changes nothing.
use Rattle.core_records.proofs.Core.{ap, Call, change, changed, get, None, on_call, on_core, on_work, StateView, Work, ℕ, ◌≡◌}

pub call_gone : (s : StateView) (k : ℕ) → None ≡ get s.core.calls k → (f : Call → Call) → s ≡ on_core (on_call k f) s
unfolding on_call change
call_gone s k none f = ap (λ m. record s { core = record s.core { calls = m } }) (ap (changed s.core.calls k f) none)

pub work_gone : (s : StateView) (i : ℕ) → None ≡ get s.core.works i → (f : Work → Work) → s ≡ on_core (on_work i f) s
unfolding on_work change
work_gone s i none f = ap (λ m. record s { core = record s.core { works = m } }) (ap (changed s.core.works i f) none)
