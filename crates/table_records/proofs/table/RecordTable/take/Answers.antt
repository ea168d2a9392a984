use Rattle.std.proofs.Common.{ap, sym, subst, ◌∙◌, arith, is_some, map, IsSome}
use Rattle.std.proofs.lemmas.List.{map-set}
use Rattle.task_table.proofs.Laws.{Removes-deleted}
use Rattle.task_table.proofs.SoundLemmas.{shown-deleted, IsSoundTable-deleted, room_for_freed}
use Rattle.task_table.proofs.TableLemmas.{item_place}
use Rattle.task_table.specs.TableCells.{placed_in}
use Rattle.table_records.specs.Rows.{place_of}
use Rattle.table_records.proofs.RowLemmas.{childless, counted_freed, known_item, row_seen}
use Rattle.table_records.proofs.table.RecordTable.take.Goals as goal

pub vacate-entry-requires : goal.vacate-entry-requires
vacate-entry-requires g c =
    let item = known_item _ c.requires in
    let one = item_place g.K.Kind.item_of c.args.self.now c.args.id.rep c.args.id.serial item.0 item.1 in
    subst IsSome (sym (row_seen c.self.inside.rows.items c.self.inside.free.items c.self.inside.given c.args.id.rep c.args.self.now c.self.view_is)) (ap is_some one.1)

pub push_reserved-requires : goal.push_reserved-requires
push_reserved-requires g c =
    let item = known_item _ c.requires in
    let one = item_place g.K.Kind.item_of c.args.self.now c.args.id.rep c.args.id.serial item.0 item.1 in
    let more = room_for_freed (map place_of c.self.inside.rows.items) c.self.inside.free.items _ c.self.inside.given 4294967295 c.args.self.now c.args.id.rep one.0 c.self.view_is one.1 c.self.invariant in
    let ok = c.self.inside.free.ok in
    omega arith

pub invariant_of-self : goal.invariant_of-self
invariant_of-self g c =
    let item = known_item _ c.requires in
    let one = item_place g.K.Kind.item_of c.args.self.now c.args.id.rep c.args.id.serial item.0 item.1 in
    let rows = c.self.inside.rows.items in
    let free = c.self.inside.free.items in
    let given = c.self.inside.given in
    let present = subst IsSome (sym (row_seen rows free given c.args.id.rep c.args.self.now c.self.view_is)) (ap is_some one.1) in
    IsSoundTable-deleted (map place_of rows) (map place_of c.vacate-entry.new.rows.items) free c.push_reserved.new.self.items _ _ given 4294967295 c.args.self.now c.args.id.rep one.0
    c.self.view_is (ap (map placed_in) c.vacate-entry.ensures.rows ∙ map-set placed_in _ _ _) c.push_reserved.ensures.items
    (counted_freed rows c.vacate-entry.new.rows.items c.args.id.rep present c.vacate-entry.ensures.rows c.self.invariant.counted)
    one.1 (childless rows free _ given c.args.id.rep c.args.self.now c.self.view_is c.self.invariant) c.push_reserved.ensures.capacity c.self.invariant

pub returns-clause-deleted : goal.returns-clause-deleted
returns-clause-deleted g c =
    shown-deleted (map place_of c.self.inside.rows.items) (map place_of c.vacate-entry.new.rows.items) c.self.inside.free.items c.push_reserved.new.self.items c.self.inside.given 4294967295 c.args.self.now c.args.id.rep
    c.self.view_is (ap (map placed_in) c.vacate-entry.ensures.rows ∙ map-set placed_in _ _ _) c.push_reserved.ensures.items

pub returns-clause-removed : goal.returns-clause-removed
returns-clause-removed g c = Removes-deleted c.args.self.now _ c.args.id.rep (returns-clause-deleted g c)

pub returns-clause-sound : goal.returns-clause-sound
returns-clause-sound g c = (invariant_of-self g c).table
