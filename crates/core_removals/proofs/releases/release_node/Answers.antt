use Rattle.core_records.proofs.Core.{ap, is_some, seen, sym, thread_of, ◌∙◌}
use Rattle.core_removals.proofs.ReleaseLemmas.{admitted_held, held_positive, leaves}
use Rattle.core_removals.proofs.releases.release_node.Goals as goal
use Rattle.core_removals.specs.Held.{is_admitted}

pub put_high-requires-clause-live : goal.put_high-requires-clause-live
put_high-requires-clause-live c =
    let a = c.args.parts.now in
    let one = admitted_held c.args.instance (thread_of (seen a) c.node_thread-thread.result) (seen a).core (sym c.is_admitted.ensures ∙ c.if-is_admitted.true) in
    held_positive a c.requires.sound _ (ap is_some one.1)

pub returns-then-is_admitted-clause-left : goal.returns-then-is_admitted-clause-left
returns-then-is_admitted-clause-left c on =
    let a = c.args.parts.now in
    let one = admitted_held c.args.instance (thread_of (seen a) c.node_thread-thread.result) (seen a).core (sym c.is_admitted.ensures ∙ c.if-is_admitted.true) in
    leaves a c.requires.sound c.node_thread-thread.result (held_positive a c.requires.sound _ (ap is_some one.1)) c.args.node.index c.requires.link c.node_thread-thread.ensures c.put_high.new.parts.places c.put_high.ensures.left

pub returns-else-is_admitted-clause-puts : goal.returns-else-is_admitted-clause-puts
returns-else-is_admitted-clause-puts c on w held = absurd (let off = sym (sym c.is_admitted.ensures ∙ c.if-is_admitted.false) ∙ ap (is_admitted c.args.instance (seen c.args.parts.now).core) c.node_thread-thread.ensures in let two = off ∙ on in cc)

pub returns-else-is_admitted-clause-left : goal.returns-else-is_admitted-clause-left
returns-else-is_admitted-clause-left c on = absurd (let off = sym (sym c.is_admitted.ensures ∙ c.if-is_admitted.false) ∙ ap (is_admitted c.args.instance (seen c.args.parts.now).core) c.node_thread-thread.ensures in let two = off ∙ on in cc)
