-- What an `Abortable` ends as, where a `&mut` to its work was returned.
use Rattle.std.specs.Prelude.{Option}
use Rattle.std.specs.Borrow.{LendsIf, Fml, RattleType, MutBor}
use Rattle.task_abort.specs.declared.cell.Abortable.{Abortable}
use Rattle.task_abort.specs.contracts.cell.Abortable.{the_row}
use Rattle.task_abort.specs.Cells.{with_work}

module _ (F : RattleType) (s : MutBor (Abortable F.Denot)) where
  -- it has what is written through the `&mut`; where none was returned it is as before
  abbrev pub LendsWork : Option (MutBor F.Denot) → Fml
  LendsWork r = LendsIf (the_row F) F s r (λ x. with_work s.now x) s.now
