use Rattle.std.proofs.Common.{is_some, ap, sym, subst, ◌∙◌, option_map}
use Rattle.std.specs.Ordering.{is_lt}
use Rattle.table_links.specs.Links.{entries, linked, inserted_by}
use Rattle.task_wait.specs.Sets.{IsAscending, placed_at}
use Rattle.task_wait.proofs.WalkLemmas.{place_in}
use Rattle.table_links.proofs.ReadLemmas.{entries-linked_same, made_free}
use Rattle.task_wait.proofs.OrderLemmas.{IsAscending-placed}
use Rattle.task_wait.proofs.set.put_in_order.Goals as goal

pub insert_before-requires-clause-at : goal.insert_before-requires-clause-at
insert_before-requires-clause-at g c =
    ap is_some (c.place.ensures.sound.entered c.in-Some.at.index c.args.chain (place_in (λ other. is_lt (g.P.Ord.cmp other c.args.value)) c.in-Some.at.index (entries c.args.links.now c.args.chain) (sym ((ap (option_map (λ node. node.index)) (sym c.in-Some.is)) ∙ c.place.ensures.place)))).1

pub returns-in-Some-clause-links : goal.returns-in-Some-clause-links
returns-in-Some-clause-links g c =
    let place = (ap (option_map (λ node. node.index)) (sym c.in-Some.is)) ∙ c.place.ensures.place in
    c.insert_before.ensures
    ∙ (ap (λ o. inserted_by c.in-Some.at.index c.args.node.index c.args.value o c.args.links.now) (c.place.ensures.sound.entered c.in-Some.at.index c.args.chain (place_in (λ other. is_lt (g.P.Ord.cmp other c.args.value)) c.in-Some.at.index (entries c.args.links.now c.args.chain) (sym place))).1
    ∙ ap (λ o. linked c.args.chain c.args.node.index c.args.value (placed_at o (c.args.node.index, c.args.value) (entries c.args.links.now c.args.chain)) c.args.links.now) place)

pub returns-in-Some-clause-order : goal.returns-in-Some-clause-order
returns-in-Some-clause-order g c = λ up.
    subst (IsAscending g.P.Ord.cmp) (sym (ap (λ l. entries l c.args.chain) (returns-in-Some-clause-links g c)
    ∙ entries-linked_same c.args.links.now c.args.chain c.args.node.index _ c.requires.chain (made_free c.args.links.now c.args.node.index c.requires.free) c.args.value))
    (IsAscending-placed g.P.Ord.cmp g.met.P.Ord.total (c.args.node.index, c.args.value) (entries c.args.links.now c.args.chain) (c.place.ensures.sound.once c.args.chain) up)

pub returns-in-None-clause-links : goal.returns-in-None-clause-links
returns-in-None-clause-links g c =
    let place = (ap (option_map (λ node. node.index)) (sym c.in-None.is)) ∙ c.place.ensures.place in
    c.push_back.ensures
    ∙ ap (λ o. linked c.args.chain c.args.node.index c.args.value (placed_at o (c.args.node.index, c.args.value) (entries c.args.links.now c.args.chain)) c.args.links.now) place

pub returns-in-None-clause-order : goal.returns-in-None-clause-order
returns-in-None-clause-order g c = λ up.
    subst (IsAscending g.P.Ord.cmp) (sym (ap (λ l. entries l c.args.chain) (returns-in-None-clause-links g c)
    ∙ entries-linked_same c.args.links.now c.args.chain c.args.node.index _ c.requires.chain (made_free c.args.links.now c.args.node.index c.requires.free) c.args.value))
    (IsAscending-placed g.P.Ord.cmp g.met.P.Ord.total (c.args.node.index, c.args.value) (entries c.args.links.now c.args.chain) (c.place.ensures.sound.once c.args.chain) up)
