-- What is left of what a slot had.
use Rattle.std.proofs.Common.{refl, ◌∙◌}
use Rattle.std.specs.Borrow.{GName, MutBor}
use Rattle.std.specs.Prelude.{◌≡◌}
use Rattle.task_store.specs.Slots.{Leaves}
use Rattle.task_store.specs.declared.slot.TryGet.{TryGet}
use Rattle.task_store.specs.declared.slot.TryGet.TheVariants as founds
use Rattle.task_group.specs.declared.hook.NoHook.{NoHook}
use Rattle.task_store.specs.declared.store.Store.{Store}

module _ {T H : Type 0} (name : GName) where
  pub leaves_some : (z : TryGet T H) (left : MutBor (Store T H NoHook)) (s v : Store T H NoHook)
      → z ≡ founds.Some left → s ≡ v → (name ≡ left.ghost_name → v ≡ left.now) → Leaves name z s
  leaves_some z left s v is same follows = rw is (λ e. same ∙ follows e)

  pub leaves_none : (z : TryGet T H) (s : Store T H NoHook) → ((left : MutBor (Store T H NoHook)) → z ≡ founds.Some left → ⊥) → Leaves name z s
  leaves_none founds.None s other = tt
  leaves_none founds.Taken s other = tt
  leaves_none (founds.Some left) s other = λ e. elim (other left refl) [ ]
