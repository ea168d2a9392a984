use Rattle.core_records.proofs.Core.{ap, named_of, refl, seen, Some, ◌∙◌}
use Rattle.std.proofs.Common.{option_map}
use Rattle.core_records.proofs.HandleReads.{held_named, held_past, names_here}
use Rattle.core_records.proofs.reads.held.Goals as goal

pub returns-then-handle-gt4294967295-clause-is : goal.returns-then-handle-gt4294967295-clause-is
returns-then-handle-gt4294967295-clause-is c = held_past c.args.parts.now c.requires c.args.index (Some c.in-Some.entry.now) c.in-Some.ensures.item c.args.handle c.if-handle-gt4294967295.true

pub returns-else-handle-gt4294967295-clause-is : goal.returns-else-handle-gt4294967295-clause-is
returns-else-handle-gt4294967295-clause-is c =
    ap (λ o. option_map named_of o) c.get.ensures
    ∙ names_here named_of (seen c.args.parts.now).core.handles c.args.index c.args.handle c.in-Some.entry.now.handles c.in-Some.ensures.handles

pub returns-else-handle-gt4294967295-clause-named : goal.returns-else-handle-gt4294967295-clause-named
returns-else-handle-gt4294967295-clause-named c = held_named c.args.parts.now c.requires c.args.index (Some c.in-Some.entry.now) c.in-Some.ensures.item c.args.handle c.in-Some.entry.now refl c.get.result c.get.ensures
