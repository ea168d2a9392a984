-- The cell of the spawn that is polled is polled, and an abort that is found is of that one.
use Rattle.beside_main.specs.Same.{same_cells}
use Rattle.beside_main.proofs.PollLemmas.{is_found, polls_none, polls_some}
use Rattle.beside_main.proofs.asked.CellsBesideGatedMainUnitScriptedHostNoHook.polls.Goals as goal
use Rattle.std.proofs.Common.{refl}

pub returns-in_default-clause-keeps : goal.returns-in_default-clause-keeps
returns-in_default-clause-keeps g c = (same_cells c.args.self.now.list.items, refl)

pub returns-in_default-clause-polled : goal.returns-in_default-clause-polled
returns-in_default-clause-polled g c = polls_none c.args.number c.args.main.now.script c.args.self.now c.in_default.ensures

pub returns-in_default-finds_abort-clause-keeps : goal.returns-in_default-finds_abort-clause-keeps
returns-in_default-finds_abort-clause-keeps g c = (c.finds_abort.ensures.cells, refl)

pub returns-then-found-clause-keeps : goal.returns-then-found-clause-keeps
returns-then-found-clause-keeps g c = (c.finds_abort.ensures.cells, refl)

pub returns-then-found-clause-polled : goal.returns-then-found-clause-polled
returns-then-found-clause-polled g c =
    polls_some c.args.number c.in-Some.place c.args.main.now.script c.args.self.now c.finds_abort.new.cells c.in-Some.ensures c.in-Ok.ensures.calls c.in-Ok.ensures.still

pub returns-then-found-clause-found : goal.returns-then-found-clause-found
returns-then-found-clause-found g c =
    is_found c.args.number c.args.running c.args.main.now.script c.args.store.now.state c.handle_at.result c.handle_at.ensures c.requires (c.in-Ok.ensures.running c.if-found.true)

pub returns-clause-keeps : goal.returns-clause-keeps
returns-clause-keeps g c = (c.finds_abort.ensures.cells, refl)

pub returns-clause-polled : goal.returns-clause-polled
returns-clause-polled g c =
    polls_some c.args.number c.in-Some.place c.args.main.now.script c.args.self.now c.finds_abort.new.cells c.in-Some.ensures c.in-Ok.ensures.calls c.in-Ok.ensures.still
