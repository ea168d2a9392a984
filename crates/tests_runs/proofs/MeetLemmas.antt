-- The first pass, which has met the one that was split off from it.
use Rattle.std.proofs.Common.{◌≡◌, ℕ, zero, suc, ◌<◌, List, [], ◌∷◌, ◌++◌, length, refl, sym, ap, subst, ◌∙◌, arith}
use mathlib.Core.Option.{some}
use lib.ListN.{get_elem?}
use Rattle.task_abort.specs.declared.log.HandleCaller.{HandleCaller}
use Rattle.task_abort.specs.declared.log.PassView.{PassView}
use Rattle.task_abort.specs.PhaseLog.{callers}
use Rattle.task_abort.specs.Rule.{Has, Meets, HasMet}

at_end_of : {A : Type 0} (xs ys : List A) (y : A) → get_elem? (xs ++ y ∷ ys) (length xs) ≡ some y
at_end_of [] ys y = refl
at_end_of (x ∷ xs) ys y = at_end_of xs ys y

pub met_first : (v o w : PassView) → v.own.name ≡ [] → Meets v o w → o.own.name ≡ 0 ∷ [] → o.own.splits ≡ 0 → HasMet 1 w
met_first v o w first m name none = (ap (λ (z : HandleCaller). z.name) m.own ∙ first, found)
  where
    longer : callers w ≡ callers v ++ callers o
    longer = ap (λ (z : HandleCaller). z ∷ w.met) m.own ∙ ap (λ (z : List HandleCaller). v.own ∷ z) m.met

    here : (c : HandleCaller) (a : ℕ) → get_elem? (callers v ++ callers o) a ≡ some c → Has w c
    here c a at = (a, let P : List HandleCaller → Type 0 = λ z. get_elem? z a ≡ some c in subst P (sym longer) at)

    found : (k : ℕ) → k < 1 → (c : HandleCaller) × Has w c × (c.name ≡ k ∷ []) × (c.splits ≡ 0)
    found zero l = (o.own, here o.own (length (callers v)) (at_end_of (callers v) o.met o.own), name, none)
    found (suc k) l = absurd (omega arith)
