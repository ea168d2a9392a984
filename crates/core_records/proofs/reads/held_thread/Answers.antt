use Rattle.core_records.proofs.Core.{ap, refl, seen, Some, ◌∙◌}
use Rattle.std.proofs.Common.{option_map}
use Rattle.core_records.proofs.HandleReads.{thread_named_at, thread_past, names_here}
use Rattle.core_records.proofs.reads.held_thread.Goals as goal
use Rattle.core_records.specs.Instances.{thread_of as thread_named}

pub returns-then-handle-gt4294967295-clause-is : goal.returns-then-handle-gt4294967295-clause-is
returns-then-handle-gt4294967295-clause-is c = thread_past c.args.parts.now c.requires c.args.index (Some c.in-Some.entry.now) c.in-Some.ensures.item c.args.handle c.if-handle-gt4294967295.true

pub returns-else-handle-gt4294967295-clause-is : goal.returns-else-handle-gt4294967295-clause-is
returns-else-handle-gt4294967295-clause-is c =
    ap (λ o. option_map thread_named o) c.get.ensures
    ∙ names_here thread_named (seen c.args.parts.now).core.thread_handles c.args.index c.args.handle c.in-Some.entry.now.thread_handles c.in-Some.ensures.thread_handles

pub returns-else-handle-gt4294967295-clause-named : goal.returns-else-handle-gt4294967295-clause-named
returns-else-handle-gt4294967295-clause-named c = thread_named_at c.args.parts.now c.requires c.args.index (Some c.in-Some.entry.now) c.in-Some.ensures.item c.args.handle c.in-Some.entry.now refl c.get.result c.get.ensures
