use Rattle.std.proofs.Common.{◌≡◌, ◌<◌, ◌^◌, ◌-◌, false, subst, ap, sym, ◌∙◌, arith, map, reverse, vec_capacity}
use Rattle.std.proofs.lemmas.List.{length-map}
use Rattle.task_table.specs.Table.{is_full, IsTable}
use Rattle.task_table.specs.Changes.{next_of, pushed}
use Rattle.table_records.specs.Rows.{place_of, records_shown}
use Rattle.task_table.proofs.Laws.{Adds-pushed}
use Rattle.table_records.proofs.RowLemmas.{next_is_there, row_filled}
use Rattle.task_table.proofs.SoundLemmas.{next_is_free, next_shown, shown-pushed, IsSoundTable-pushed, unless_err}
use Rattle.task_table.proofs.TableLemmas.{room_left}
use Rattle.table_records.proofs.table.RecordTable.push.Goals as goal

pub fill-rep-requires-clause-free : goal.fill-rep-requires-clause-free
fill-rep-requires-clause-free g c =
    next_is_there (reverse c.reserve.new.free.items) c.reserve.new.rows.items
    (next_is_free (map place_of c.reserve.new.rows.items) c.reserve.new.free.items c.self.inside.given 4294967295
    (rw (c.reserve.ensures.rows, c.reserve.ensures.free) c.self.invariant.table))

pub invariant_of-self-2 : goal.invariant_of-self-2
invariant_of-self-2 g c =
    let not_full : is_full (records_shown c.reserve.new.rows.items c.reserve.new.free.items c.self.inside.given) ≡ false =
    rw (c.reserve.ensures.rows, c.reserve.ensures.free) (ap is_full c.self.view_is ∙ sym c.is_full.ensures ∙ c.if-is_full.false) in
    let below : c.self.inside.given < 2 ^ 64 - 1 = (room_left (records_shown c.reserve.new.rows.items c.reserve.new.free.items c.self.inside.given) not_full).0 in
    let places = ap (map place_of) c.fill-rep.ensures.rows ∙ row_filled (reverse c.reserve.new.free.items) _ c.reserve.new.rows.items below in
    let room = unless_err c.reserve.result (sym c.is_err.ensures.value ∙ c.if-is_err.false) c.reserve.ensures.room in
    let kept = c.reserve.ensures.kept in
    let same = c.fill-rep.ensures.capacity in
    let long = length-map c.reserve.new.rows.items place_of in
    IsSoundTable-pushed (map place_of c.reserve.new.rows.items) (map place_of c.fill-rep.new.rows.items) c.reserve.new.free.items c.fill-rep.new.free.items (vec_capacity c.self.inside.free) (vec_capacity c.fill-rep.new.free) c.self.inside.given 4294967295 c.wrap.result
    (rw (c.reserve.ensures.rows, c.reserve.ensures.free) c.self.invariant) not_full places c.fill-rep.ensures.free (omega arith)
    (λ nil. let more = (room nil).1 in omega arith)

pub returns-clause-pushed : goal.returns-clause-pushed
returns-clause-pushed g c =
    let not_full : is_full (records_shown c.reserve.new.rows.items c.reserve.new.free.items c.self.inside.given) ≡ false =
    rw (c.reserve.ensures.rows, c.reserve.ensures.free) (ap is_full c.self.view_is ∙ sym c.is_full.ensures ∙ c.if-is_full.false) in
    let below : c.self.inside.given < 2 ^ 64 - 1 = (room_left (records_shown c.reserve.new.rows.items c.reserve.new.free.items c.self.inside.given) not_full).0 in
    let places = ap (map place_of) c.fill-rep.ensures.rows ∙ row_filled (reverse c.reserve.new.free.items) _ c.reserve.new.rows.items below in
    shown-pushed (map place_of c.reserve.new.rows.items) (map place_of c.fill-rep.new.rows.items) c.reserve.new.free.items c.fill-rep.new.free.items c.self.inside.given 4294967295 c.args.self.now c.wrap.result
    (rw (c.reserve.ensures.rows, c.reserve.ensures.free) c.self.view_is) places c.fill-rep.ensures.free
    ∙ ap (λ entry. pushed entry c.args.self.now) c.wrap.ensures

pub returns-clause-added : goal.returns-clause-added
returns-clause-added g c =
    let next = next_shown (map place_of c.reserve.new.rows.items) c.reserve.new.free.items c.self.inside.given 4294967295 c.args.self.now (rw (c.reserve.ensures.rows, c.reserve.ensures.free) c.self.view_is) in
    Adds-pushed c.args.self.now _ c.new.result.rep c.new.result.serial _ (subst IsTable c.self.view_is c.self.invariant.table) (returns-clause-pushed g c)
    (c.new.ensures.rep ∙ c.fill-rep.ensures.rep ∙ ap (λ n. next_of (reverse c.reserve.new.free.items) n) (sym (length-map c.reserve.new.rows.items place_of)) ∙ next)
    (c.new.ensures.serial ∙ ap (λ t. t.given) c.self.view_is)

pub returns-clause-sound : goal.returns-clause-sound
returns-clause-sound g c = (invariant_of-self-2 g c).table
