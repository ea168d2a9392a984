use Rattle.core_records.proofs.Core.{arith, None, slice_get, Some, ◌≡◌}
use Rattle.core_records.proofs.InstanceReads.{handles_read, instance_read, read_at, read_past, thread_handles_read}
use Rattle.core_records.proofs.reads.instance.Goals as goal

there : (c : goal.After-index) → Some c.index.result.now ≡ slice_get c.args.parts.now.instances.items c.args.index
there c = let same = c.args.parts.now.instances.ok.0 in read_at c.args.parts.now.instances.items c.args.index c.index.result.now (omega (arith, c.if-index-len.true, c.len.ensures, same)) c.index.ensures

pub returns-then-index-len-clause-is : goal.returns-then-index-len-clause-is
returns-then-index-len-clause-is c = instance_read c.args.parts.now c.args.index (Some c.index.result.now) (there c)

pub returns-then-index-len-clause-handles : goal.returns-then-index-len-clause-handles
returns-then-index-len-clause-handles c = handles_read c.args.parts.now c.args.index (Some c.index.result.now) (there c)

pub returns-then-index-len-clause-thread_handles : goal.returns-then-index-len-clause-thread_handles
returns-then-index-len-clause-thread_handles c = thread_handles_read c.args.parts.now c.args.index (Some c.index.result.now) (there c)

pub returns-then-index-len-clause-item : goal.returns-then-index-len-clause-item
returns-then-index-len-clause-item c = there c

pub returns-else-index-len-clause-is : goal.returns-else-index-len-clause-is
returns-else-index-len-clause-is c = instance_read c.args.parts.now c.args.index None (let same = c.args.parts.now.instances.ok.0 in read_past c.args.parts.now.instances.items c.args.index (omega (arith, c.if-index-len.false, c.len.ensures, same)))

pub returns-else-index-len-clause-handles : goal.returns-else-index-len-clause-handles
returns-else-index-len-clause-handles c = handles_read c.args.parts.now c.args.index None (let same = c.args.parts.now.instances.ok.0 in read_past c.args.parts.now.instances.items c.args.index (omega (arith, c.if-index-len.false, c.len.ensures, same)))

pub returns-else-index-len-clause-thread_handles : goal.returns-else-index-len-clause-thread_handles
returns-else-index-len-clause-thread_handles c = thread_handles_read c.args.parts.now c.args.index None (let same = c.args.parts.now.instances.ok.0 in read_past c.args.parts.now.instances.items c.args.index (omega (arith, c.if-index-len.false, c.len.ensures, same)))

pub returns-else-index-len-clause-item : goal.returns-else-index-len-clause-item
returns-else-index-len-clause-item c = let same = c.args.parts.now.instances.ok.0 in read_past c.args.parts.now.instances.items c.args.index (omega (arith, c.if-index-len.false, c.len.ensures, same))
