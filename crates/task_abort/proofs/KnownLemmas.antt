-- Where the first pass has met all that were split off from it, and these were never split, each call that it has seen is by one of its callers.
use Rattle.std.proofs.Common.{◌≡◌, ℕ, ◌<◌, [], ◌∷◌, ◌++◌, refl, sym, ap, ◌∙◌, arith}
use mathlib.Core.Option.{some}
use lib.ListN.{get_elem?}
use Rattle.task_abort.specs.declared.log.LogEntry.{LogEntry}
use Rattle.task_abort.specs.declared.log.HandleCaller.{HandleCaller}
use Rattle.task_abort.specs.declared.log.PassView.{PassView}
use Rattle.task_abort.specs.PhaseLog.{Name}
use Rattle.task_abort.specs.Rule.{Has, Knows, HasMetAll, AllKnown}
use Rattle.task_abort.proofs.CallerLemmas.{has_own}

module _ (v : PassView) (knows : Knows v) (all : HasMetAll v) where
  -- a name that was seen goes on from the first pass's below its count of splits
  split_below : (m k : ℕ) (rest : Name) (e : LogEntry Name) → get_elem? v.seen m ≡ some e → e.caller ≡ k ∷ rest → k < v.own.splits
  split_below m k rest e h is = knows.below v.own m e (has_own v) h k rest (is ∙ ap (λ (z : Name). z ++ k ∷ rest) (sym all.0))

  pub known : AllKnown v
  known m e h = go e.caller refl
    where
      go : (n : Name) → e.caller ≡ n → (c : HandleCaller) × Has v c × (c.name ≡ e.caller)
      go [] is = (v.own, has_own v, all.0 ∙ sym is)
      go (k ∷ []) is = let t = all.1 k (split_below m k [] e h is) in (t.0, t.1, t.2 ∙ sym is)
      go (k ∷ j ∷ rest) is =
          let t = all.1 k (split_below m k (j ∷ rest) e h is) in
          let l : j < t.0.splits = knows.below t.0 m e t.1 h j rest (is ∙ ap (λ (z : Name). z ++ j ∷ rest) (sym t.2)) in
          let none = t.3 in absurd (omega arith)
