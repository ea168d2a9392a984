-- What a `ResourceTable` ends as, where a `&mut` into it is returned.
use Rattle.std.specs.Prelude.{ℕ, Result}
use Rattle.std.specs.Borrow.{Lends, LendsIfOk, Fml, RattleType, MutBor}
use Rattle.task_table.specs.Table.{Table}
use Rattle.task_table.specs.Changes.{with_entry}
use Rattle.task_table.specs.contracts.table.ResourceTable.{the_row}

module _ (E : RattleType) (t : MutBor (Table E.Denot)) (rep : ℕ) where
  -- once the borrow ends, the entry at the place is the last one written through it
  abbrev pub lends_entry : MutBor E.Denot → Fml
  lends_entry r = Lends (the_row E) E t r (λ entry. with_entry rep entry t.now)

  -- once the borrow ends, the entry at the place is of the last item written through it, and after a refusal the table stays as it was
  abbrev pub lends_item : (I : RattleType) → (I.Denot → E.Denot) → {Error : Type 0} → Result (MutBor I.Denot) Error → Fml
  lends_item I entry_of r = LendsIfOk (the_row E) I t r (λ item. with_entry rep (entry_of item) t.now) t.now
