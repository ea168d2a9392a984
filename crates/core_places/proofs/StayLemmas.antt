-- A subtask that is in no set, taken out of its set.
use Rattle.core_records.proofs.Core.{ap, Call, change, get, Join, on_core, on_call, on_work, Records, set_join, Some, StateView, Subtask, sym, Work, ℕ, ◌∙◌, ◌≡◌}
use Rattle.machine_data.proofs.CommuteLemmas.{insert-present}
use Rattle.machine_data.specs.Maps.{changed, insert}

pub call_stays : (s : StateView) (k : ℕ) (c : Call) → Some c ≡ get s.core.calls k → c.join ≡ Join.Nowhere → s ≡ on_core (set_join (Subtask.Guest k) Join.Nowhere) s
unfolding set_join on_call change
call_stays s k c found is =
    ap (λ (m : Records Call). record s { core = record s.core { calls = m } })
    (sym
    (ap (changed s.core.calls k (λ (x : Call). record x { join = Join.Nowhere })) (sym found)
    ∙ (ap (λ (i : Join). insert s.core.calls k (record c { join = i })) (sym is) ∙ insert-present s.core.calls k c (sym found))))

pub work_stays : (s : StateView) (i : ℕ) (w : Work) → Some w ≡ get s.core.works i → w.join ≡ Join.Nowhere → s ≡ on_core (set_join (Subtask.Host i) Join.Nowhere) s
unfolding set_join on_work change
work_stays s i w found is =
    ap (λ (m : Records Work). record s { core = record s.core { works = m } })
    (sym
    (ap (changed s.core.works i (λ (x : Work). record x { join = Join.Nowhere })) (sym found)
    ∙ (ap (λ (j : Join). insert s.core.works i (record w { join = j })) (sym is) ∙ insert-present s.core.works i w (sym found))))
