use Rattle.std.proofs.Common.{◌≡◌, false, subst, ap, sym, ◌∙◌, arith, vec_capacity}
use Rattle.task_table.specs.Table.{is_full, IsTable}
use Rattle.task_table.specs.Changes.{pushed}
use Rattle.task_table.specs.TableCells.{shown}
use Rattle.task_table.proofs.Laws.{Adds-pushed}
use Rattle.task_table.proofs.SoundLemmas.{next_is_free, next_shown, shown-pushed, IsSoundTable-pushed, unless_err}
use Rattle.task_table.proofs.table.ResourceTable.push.Goals as goal

pub fill-rep-requires-clause-free : goal.fill-rep-requires-clause-free
fill-rep-requires-clause-free g c =
    next_is_free c.reserve.new.places.items c.reserve.new.free.items c.self.inside.given c.self.inside.max_capacity
    (rw (c.reserve.ensures.places, c.reserve.ensures.free) c.self.invariant.table)

pub invariant_of-self-2 : goal.invariant_of-self-2
invariant_of-self-2 g c =
    let not_full : is_full (shown c.reserve.new.places.items c.reserve.new.free.items c.self.inside.given c.self.inside.max_capacity) ≡ false =
    rw (c.reserve.ensures.places, c.reserve.ensures.free) (ap is_full c.self.view_is ∙ sym c.is_full.ensures ∙ c.if-is_full.false) in
    let room = unless_err c.reserve.result (sym c.is_err.ensures.value ∙ c.if-is_err.false) c.reserve.ensures.room in
    let kept = c.reserve.ensures.kept in
    let same = c.fill-rep.ensures.capacity in
    IsSoundTable-pushed c.reserve.new.places.items c.fill-rep.new.places.items c.reserve.new.free.items c.fill-rep.new.free.items (vec_capacity c.self.inside.free) (vec_capacity c.fill-rep.new.free) c.self.inside.given c.self.inside.max_capacity c.wrap.result
    (rw (c.reserve.ensures.places, c.reserve.ensures.free) c.self.invariant) not_full c.fill-rep.ensures.places c.fill-rep.ensures.free (omega arith)
    (λ nil. let more = (room nil).1 in omega arith)

pub returns-clause-pushed : goal.returns-clause-pushed
returns-clause-pushed g c =
    shown-pushed c.reserve.new.places.items c.fill-rep.new.places.items c.reserve.new.free.items c.fill-rep.new.free.items c.self.inside.given c.self.inside.max_capacity c.args.self.now c.wrap.result
    (rw (c.reserve.ensures.places, c.reserve.ensures.free) c.self.view_is) c.fill-rep.ensures.places c.fill-rep.ensures.free
    ∙ ap (λ entry. pushed entry c.args.self.now) c.wrap.ensures

pub returns-clause-added : goal.returns-clause-added
returns-clause-added g c = Adds-pushed c.args.self.now _ c.new.result.rep c.new.result.serial _ (subst IsTable c.self.view_is c.self.invariant.table) (returns-clause-pushed g c)
    (c.new.ensures.rep ∙ c.fill-rep.ensures.rep ∙ next_shown c.reserve.new.places.items c.reserve.new.free.items c.self.inside.given c.self.inside.max_capacity c.args.self.now (rw (c.reserve.ensures.places, c.reserve.ensures.free) c.self.view_is))
    (c.new.ensures.serial ∙ ap (λ t. t.given) c.self.view_is)

pub returns-clause-sound : goal.returns-clause-sound
returns-clause-sound g c = (invariant_of-self-2 g c).table
