use Rattle.std.proofs.Common.{ap, sym, ◌∙◌}
use Rattle.std.specs.Option.{option_map}
use Rattle.task_table.proofs.CountLemmas.{children_read, place_shown}
use Rattle.task_table.proofs.table.ResourceTable.slot_at.Goals as goal
use Rattle.task_table.specs.TableCells.{placed}
use Rattle.task_table.specs.Table.{place_at}

pub returns-clause-place : goal.returns-clause-place
returns-clause-place g c = ap (option_map placed) c.slot_in.ensures ∙ sym (place_shown c.self.inside.places.items c.args.rep) ∙ ap (λ t. place_at t c.args.rep) c.self.view_is

pub returns-clause-children : goal.returns-clause-children
returns-clause-children g c = children_read c.self.inside.places.items c.args.self.now c.args.rep c.slot_in.result c.slot_in.ensures c.self.invariant.counted (ap (λ t. t.places) c.self.view_is)
