use Rattle.core_records.proofs.Core.{arith, deletion_refused, item_of}
use Rattle.core_records.specs.declared.{thread_records.GuestThread.GuestThread}
use Rattle.core_makes.proofs.calls_with_threads.drop_thread.Goals as goal
use Rattle.core_records.proofs.KindLemmas.{refused_number}

pub unreachable-requires : goal.unreachable-requires
unreachable-requires c =
    let zero = refused_number (λ (g : GuestThread). g.number) (λ (g : GuestThread). g.thread) c.args.threads.now c.args.id.rep c.args.id.serial _ (deletion_refused item_of c.args.threads.now c.args.id.rep c.args.id.serial _ c.in-Err.ensures.answer c.requires.childless) in
    let live = c.requires.live in
    omega arith
