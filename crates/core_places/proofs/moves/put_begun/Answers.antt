use Rattle.core_records.proofs.Core.{refl}
use Rattle.core_places.proofs.FitLemmas.{may_recount}
use Rattle.core_places.proofs.PlacedLemmas.{node_made, placed_becomes, node_unlinked, waits_stay}
use Rattle.core_places.proofs.ThreadLemmas.{alone_unset, alone_waits, becomes_none}
use Rattle.core_places.proofs.moves.put_begun.Goals as goal
use Rattle.core_places.specs.Moved.{begun, to_begun}

pub recount-requires : goal.recount-requires
recount-requires c = may_recount c.args.parts.now c.requires c.args.id c.in-Some.found.now c.in-Some.ensures.item (begun c.in-Some.found.now c.args.words.0 c.args.words.1 c.args.words.2) refl refl c.no_set-from.result c.no_set-to.result (alone_unset c.args.parts.now c.no_set-from.result c.in-Some.found.now.thread.place c.in-Some.found.now.thread.op_progress c.no_set-from.ensures (c.stands_alone.ensures c.if-stands_alone.true)) c.no_set-to.ensures

pub file_in-requires-clause-made : goal.file_in-requires-clause-made
file_in-requires-clause-made c = node_made c.args.parts.now c.requires c.args.id c.in-Some.found.now c.in-Some.ensures.item (begun c.in-Some.found.now c.args.words.0 c.args.words.1 c.args.words.2) refl refl

pub file_in-requires-clause-unlinked : goal.file_in-requires-clause-unlinked
file_in-requires-clause-unlinked c = node_unlinked c.args.parts.now c.requires c.args.id c.in-Some.found.now c.in-Some.ensures.item (begun c.in-Some.found.now c.args.words.0 c.args.words.1 c.args.words.2) refl refl ((c.stands_alone.ensures c.if-stands_alone.true).1)

pub returns-then-stands_alone : goal.returns-then-stands_alone
returns-then-stands_alone c =
    let a = c.args.parts.now in
    let g = c.in-Some.found.now in
    let item = c.in-Some.ensures.item in
    placed_becomes a c.requires c.args.id g item (begun g c.args.words.0 c.args.words.1 c.args.words.2) refl refl c.no_set-from.result c.no_set-to.result (alone_unset a c.no_set-from.result g.thread.place g.thread.op_progress c.no_set-from.ensures (c.stands_alone.ensures c.if-stands_alone.true)) c.no_set-to.ensures c.file_in.new.links a.waits
    tt tt
    c.file_in.ensures.links
    (waits_stay a c.requires c.args.id g item (begun g c.args.words.0 c.args.words.1 c.args.words.2) refl refl (alone_waits g.thread.place g.thread.call ((c.stands_alone.ensures c.if-stands_alone.true).1)))
    (to_begun c.args.words.0 c.args.words.1 c.args.words.2) refl _ (c.write_begun.ensures g item) _ c.recount.ensures

pub returns-in_default : goal.returns-in_default
returns-in_default c = becomes_none _ c.requires _ c.in_default.ensures.is _
