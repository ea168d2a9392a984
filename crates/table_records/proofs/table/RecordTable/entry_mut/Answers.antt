use Rattle.std.proofs.Common.{refl, ap, sym, subst, ◌∙◌, IsSome, map, vec_capacity}
use Rattle.std.specs.Option.{option_map}
use Rattle.task_table.specs.TableCells.{IsSoundTable, shown}
use Rattle.table_records.specs.Rows.{place_of}
use Rattle.table_records.proofs.RowLemmas.{row_seen, row_put, row_entry, place_value}
use Rattle.task_table.proofs.SoundLemmas.{IsSoundTable-entry_put, shown-entry_put}
use Rattle.table_records.proofs.table.RecordTable.entry_mut.Goals as goal

pub invariant_of-self-lent : goal.invariant_of-self-lent
invariant_of-self-lent g c w =
    let rows = c.self.inside.rows.items in
    let free = c.self.inside.free.items in
    let given = c.self.inside.given in
    let read = c.index_mut.result.now in
    let present = subst IsSome (sym (row_seen rows free given c.args.rep c.args.self.now c.self.view_is)) c.requires in
    let value = place_value rows c.args.rep read present c.index_mut.ensures.value in
    let put = row_put rows c.args.rep read present c.index_mut.ensures.value w in
    subst (λ ps. IsSoundTable ps free (vec_capacity c.self.inside.free) given 4294967295) (sym put)
    (IsSoundTable-entry_put (map place_of rows) free given 4294967295 c.args.self.now c.args.rep (place_of read) c.self.view_is c.requires value (vec_capacity c.self.inside.free) w c.self.invariant)

pub returns : goal.returns
returns g c =
    let rows = c.self.inside.rows.items in
    let free = c.self.inside.free.items in
    let given = c.self.inside.given in
    let read = c.index_mut.result.now in
    let seen = row_seen rows free given c.args.rep c.args.self.now c.self.view_is in
    let present = subst IsSome (sym seen) c.requires in
    let value = place_value rows c.args.rep read present c.index_mut.ensures.value in (
      (refl, λ w. ap (λ ps. shown ps free given 4294967295) (row_put rows c.args.rep read present c.index_mut.ensures.value w) ∙ shown-entry_put (map place_of rows) free given 4294967295 c.args.self.now c.args.rep (place_of read) c.self.view_is c.requires value w),
      record { lends = tt; value = sym (ap (option_map (λ p. p.entry)) seen) ∙ row_entry rows c.args.rep read present c.index_mut.ensures.value },
    )
