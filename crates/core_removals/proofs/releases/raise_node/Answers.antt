use Rattle.core_records.proofs.Core.{held_why_of, IsSome, seen, subst, sym, ◌<◌}
use Rattle.core_primitives.specs.Apart.{IsUnqueued}
use Rattle.core_removals.proofs.ReleaseLemmas.{held_positive, leaves}
use Rattle.core_removals.proofs.releases.raise_node.Goals as goal

pub held_thread-thread-requires-clause-live : goal.held_thread-thread-requires-clause-live
held_thread-thread-requires-clause-live c = held_positive c.args.parts.now c.requires.sound _ c.requires.held

pub put_high-requires-clause-live : goal.put_high-requires-clause-live
put_high-requires-clause-live c = subst (λ n. 0 < n) (sym c.held_thread-thread.ensures) (held_positive c.args.parts.now c.requires.sound _ c.requires.held)

pub put_high-requires-clause-held : goal.put_high-requires-clause-held
put_high-requires-clause-held c = subst (λ n. IsSome (held_why_of n (seen c.args.parts.now).core)) (sym c.held_thread-thread.ensures) c.requires.held

pub put_high-requires-clause-unqueued : goal.put_high-requires-clause-unqueued
put_high-requires-clause-unqueued c = subst (λ n. IsUnqueued n (seen c.args.parts.now).core) (sym c.held_thread-thread.ensures) c.requires.unqueued

pub returns-clause-left : goal.returns-clause-left
returns-clause-left c =
    let a = c.args.parts.now in
    leaves a c.requires.sound c.held_thread-thread.result (subst (λ n. 0 < n) (sym c.held_thread-thread.ensures) (held_positive a c.requires.sound _ c.requires.held)) c.args.node.index c.requires.link c.held_thread-thread.ensures c.put_high.new.parts.places c.put_high.ensures.left
