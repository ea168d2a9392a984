use Rattle.std.proofs.Common.{ap, refl, rules}
use Rattle.task_store.proofs.SlotLemmas.{leaves_none, leaves_some}
use Rattle.task_store.proofs.slot.StoreSlot.try_get.Goals as goal
use Rattle.task_store.proofs.slot.StoreSlot.try_get.Goals.{in-Some, in_default}

pub returns-in-Absent : goal.returns-in-Absent
returns-in-Absent g c =
    rw (← c.in-Absent.ensures.value)
    (refl, _, record { first = _; second = _; shows = (c.without_store-none.ensures, refl); left = _; called = c.f-result.ensures; leaves = refl })

pub returns-in-Taken : goal.returns-in-Taken
returns-in-Taken g c =
    rw (← c.in-Taken.ensures.value) (
      refl,
      _,
      record {
        first = _;
        second = _;
        shows = (c.without_store-taken.ensures, ap (λ h. record { held = h }) c.in-Taken.ensures.after);
        left = _;
        called = c.f-result-in-Taken.ensures;
        leaves = refl;
      },
    )

pub returns-after-some : goal.returns-after-some
returns-after-some g c =
    rw (← c.in-Store.ensures.value) (
      _,
      _,
      refl,
      record {
        first = _;
        second = _;
        shows = (refl, ap (λ h. record { held = h }) c.in-Store.ensures.after);
        left = _;
        called = c.f-result-in-Store.ensures;
        leaves = refl;
      },
      record {
        left = _;
        held = refl;
        same = refl;
        holds = elim c.match-some.branch [
          | in-Some w ↦ leaves_some _ _ _ _ _ w.in-Some.is w.store-is (λ e. search (rules, e))
          | in_default w ↦ leaves_none _ _ _ w.in_default.not-Some
        ];
      },
    )
