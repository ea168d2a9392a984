use Rattle.std.proofs.Common.{ap, refl}
use Rattle.task_store.proofs.slot.StoreSlot.get.Goals as goal

pub returns-in-Store : goal.returns-in-Store
returns-in-Store g c =
    rw (← c.in-Store.ensures.value) (
      _,
      refl,
      record {
        left = _;
        held = refl;
        same = refl;
        holds = record { first = _; second = _; shows = (refl, ap (λ h. record { held = h }) c.in-Store.ensures.after); left = _; called = c.f-result.ensures; leaves = refl };
      },
    )
