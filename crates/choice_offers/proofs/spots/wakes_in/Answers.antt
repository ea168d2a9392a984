use Rattle.choice_offers.proofs.JoinedLemmas.{joined_live}
use Rattle.choice_offers.proofs.spots.wakes_in.Goals as goal
use Rattle.core_primitives.specs.Names.{join_in, subtask_in}
use Rattle.core_primitives.specs.declared.names.JoinId.TheVariants as joins
use Rattle.core_primitives.specs.declared.names.JoinId.{JoinId}
use Rattle.core_primitives.specs.StateView.{StateView}
use Rattle.laws_choices.specs.Offers.{nothing, wakes_in}
use Rattle.std.proofs.Common.{ap, refl, sym, ◌∙◌}
use Rattle.std.specs.Prelude.{◌≡◌}
use Rattle.task_table.specs.declared.id.TableId.{TableId}
use Rattle.task_wait.specs.declared.keys.SetKey.{SetKey}

pub returns-in-Set : goal.returns-in-Set
returns-in-Set c = λ n.
    let s = c.args.core.now in (
      (c.wakes.ensures n).0,
      (c.wakes.ensures n).1
          ∙ (ap (λ (j : JoinId). wakes_in (join_in s.tags j) s.core) (sym c.in-Set.is)
          ∙ (ap (λ j. wakes_in j s.core) c.join.ensures ∙ joined_live (subtask_in s.tags c.args.subtask) s.core c.requires)),
    )

pub returns-in_default : goal.returns-in_default
returns-in_default c = λ n.
    let s = c.args.core.now in (
      (c.no_spot.ensures n).0,
      (c.no_spot.ensures n).1
          ∙ (by s c.join.result c.in_default.not-Set
          ∙ (ap (λ j. wakes_in j s.core) c.join.ensures ∙ joined_live (subtask_in s.tags c.args.subtask) s.core c.requires)),
    )
  where
    by : (s : StateView) (j : JoinId) → ((set : TableId SetKey) → j ≡ joins.Set set → ⊥) → nothing ≡ wakes_in (join_in s.tags j) s.core
    by s joins.Nowhere other = refl
    by s (joins.Set set) other = absurd (other set refl)
    by s (joins.Watched id) other = refl
