use Rattle.std.proofs.Common.{ap, refl, rules, sym, ◌∙◌}
use Rattle.task_store.proofs.CallLemmas.{called_access}
use Rattle.task_store.proofs.accessor.Accessor.with.Goals as goal

pub returns-in-Store : goal.returns-in-Store
returns-in-Store g c =
    rw (← c.in-Store.ensures.value) (
      _,
      refl,
      record {
        left = _;
        held = refl;
        same = refl;
        holds = called_access _ c.f-result.ensures (ap (λ b. b.now) c.new-access.ensures) (λ e. search (rules, sym (ap (λ b. b.ghost_name) c.new-access.ensures) ∙ e));
      },
    )
