use Rattle.std.proofs.Common.{ap, ◌∙◌}
use Rattle.std.specs.Prelude.{Bool}
use Rattle.machine_data.specs.Moves.{exited_if}
use Rattle.ops_moves.proofs.EndLemmas.{apart_after_exit, has_ended}
use Rattle.ops_moves.proofs.ends.end_known_in.Goals as goal
use Rattle.core_primitives.specs.StateView.{call_of, on_core}

pub retire_thread-requires-clause-apart : goal.retire_thread-requires-clause-apart
retire_thread-requires-clause-apart g c = apart_after_exit c.args.thread _ _ (g.W.View.view c.args.w.now) _ c.exit_there.ensures c.requires.apart

pub returns : goal.returns
returns g c =
    let v = g.W.View.view in
    let s = v c.args.w.now in
    has_ended c.args.thread c.args.call s (v c.exit_there.new.w) (v c.retire_thread.new.self) (v c.settle_interest.new.w) (v c.settle_call.new.w) c.requires.live c.requires.call c.requires.named
    (c.exit_there.ensures ∙ ap (λ (b : Bool). on_core (exited_if b (call_of s c.args.call)) s) c.requires.known)
    c.retire_thread.ensures c.settle_interest.ensures c.settle_call.ensures
