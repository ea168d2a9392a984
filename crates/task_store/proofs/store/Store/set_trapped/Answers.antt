use Rattle.std.proofs.Common.{[], ap, filter, List, refl, subst, true, ◌∙◌, ◌∷◌, ◌≡◌, ℕ}
use Rattle.store_notices.specs.Moves.{finishes}
use Rattle.task_group.specs.Listeners.{ToldListeners}
use Rattle.machine_data.specs.Write.{set_trapped}
use Rattle.task_store.proofs.store.Store.set_trapped.Goals as goal
use Rattle.core_primitives.specs.Groups.{ended_groups}
use Rattle.core_primitives.specs.StateView.{StateView, on_core}

all_kept : (ns : List ℕ) → filter (λ n. true) ns ≡ ns
all_kept [] = refl
all_kept (n ∷ ns) = ap (λ ms. n ∷ ms) (all_kept ns)

-- in a trapped store no group is live
all_end : (s : StateView) → ended_groups (on_core set_trapped s) ≡ s.tags.tracked
unfolding set_trapped
all_end s = all_kept s.tags.tracked

pub returns-clause-told : goal.returns-clause-told
returns-clause-told g c =
    let s = c.args.self.now in
    subst (λ (ns : List ℕ). ToldListeners (finishes ns) s.listeners c.finish_ended.new.listeners) (ap ended_groups c.set_trapped.ensures ∙ all_end s.state) c.finish_ended.ensures.told
