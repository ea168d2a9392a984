use Rattle.ops_dispatch.proofs.InPlaceLemmas.{place_given}
use Rattle.ops_dispatch.proofs.finishes.finish.Goals as goal
use Rattle.std.proofs.Common.{ap, arith, rules, ◌∙◌}
use Rattle.std.specs.Prelude.{true, ◌≡◌}
use Rattle.machine_data.specs.Read.{position_of}
use Rattle.ops_guests.specs.Ended.{ends_op}
use Rattle.core_primitives.specs.StateView.{StateView, thread_of}

pub advance-requires-in-Event : goal.advance-requires-in-Event
advance-requires-in-Event g c =
    let s = g.W.View.view c.args.w.now in
    let n = thread_of s c.args.thread in
    let due : ends_op c.args.op_result ≡ true = search rules in
    let few = c.requires.position due in
    let same = ap (λ (v : StateView). position_of (thread_of v c.args.thread) v.core) c.write_given.ensures ∙ place_given n n _ c.in-Event.given s.core in
    grind (arith, same, few)
