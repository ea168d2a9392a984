use Rattle.core_records.proofs.Core.{arith, deletion_refused, item_of}
use Rattle.core_records.specs.declared.{call_records.GuestTask.GuestTask}
use Rattle.core_makes.proofs.calls_with_threads.drop_call.Goals as goal
use Rattle.core_records.proofs.KindLemmas.{refused_number}

pub unreachable-requires : goal.unreachable-requires
unreachable-requires c =
    let zero = refused_number (λ (g : GuestTask). g.number) (λ (g : GuestTask). g.call) c.args.calls.now c.args.id.rep c.args.id.serial _ (deletion_refused item_of c.args.calls.now c.args.id.rep c.args.id.serial _ c.in-Err.ensures.answer c.requires.childless) in
    let live = c.requires.live in
    omega arith
