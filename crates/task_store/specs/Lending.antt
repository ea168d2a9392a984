-- What a store ends as, once what it lent comes back.
use Rattle.std.specs.Borrow.{Fml, Lends, MutBor, RattleType}
use Rattle.task_group.specs.declared.hook.TaskGroupHook.{Ghosts}
use Rattle.task_store.specs.contracts.store.Store as stores

module _ (T H G : RattleType) (g : Ghosts G.Denot) where
  -- its value is the last one that was left in the value lent
  abbrev pub LendsValue : MutBor ((stores.the_row T H G g).Denot) → MutBor T.Denot → Fml
  LendsValue s r = Lends (stores.the_row T H G g) T s r (λ value. record s.now { value = value })
