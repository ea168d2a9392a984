-- What access to a store ends as, once what it lent comes back. `named 1` is the place of its lifetime in the signature.
use Rattle.std.specs.Prelude.{[]}
use Rattle.std.specs.Borrow.{Fml, Lends, MutBor, RattleType}
use mir.Syntax.{named}
use Rattle.task_store.specs.contracts.access.Access as accesses
use Rattle.task_group.specs.declared.hook.TaskGroupHook.{Ghosts}
use Rattle.task_store.specs.contracts.store.Store as stores

module _ (T P H G : RattleType) (g : Ghosts G.Denot) where
  abbrev pub access_row : RattleType
  access_row = accesses.the_row (record { mir = named 1; lft = [] }) T P H G g

  -- the store behind the access is the last value that was left in the store lent
  abbrev pub LendsStore : MutBor access_row.Denot → MutBor ((stores.the_row T H G g).Denot) → Fml
  LendsStore a r = Lends access_row (stores.the_row T H G g) a r (λ s. record a.now { store = record a.now.store { now = s } })

  -- the value of that store is what this makes of it and of the last value that was left in the part lent
  abbrev pub LendsPart : (D : RattleType) → MutBor access_row.Denot → MutBor D.Denot → (T.Denot → D.Denot → T.Denot) → Fml
  LendsPart D a r with_part =
      Lends access_row D a r (λ part. let s = a.now.store.now in
      record a.now { store = record a.now.store { now = record s { value = with_part s.value part } } })
