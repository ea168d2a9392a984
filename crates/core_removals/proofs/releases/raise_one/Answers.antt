use Rattle.core_records.proofs.Core.{ap, is_some, seen, sym, thread_of, ◌∙◌}
use Rattle.core_removals.proofs.RaisedLemmas.{admitted_is_held, none_is_raised, one_is_raised, put_free}
use Rattle.core_removals.proofs.ReleaseLemmas.{admitted_held, held_positive}
use Rattle.core_removals.proofs.releases.raise_one.Goals as goal

pub put_high-requires-clause-live : goal.put_high-requires-clause-live
put_high-requires-clause-live c =
    let a = c.args.parts.now in
    let one = admitted_held c.args.instance (thread_of (seen a) c.args.thread) (seen a).core (sym c.is_admitted.ensures ∙ c.if-is_admitted.true) in
    held_positive a c.requires.sound _ (ap is_some one.1)

pub put_high-requires-clause-held : goal.put_high-requires-clause-held
put_high-requires-clause-held c =
    let a = c.args.parts.now in
    ap is_some (admitted_held c.args.instance (thread_of (seen a) c.args.thread) (seen a).core (sym c.is_admitted.ensures ∙ c.if-is_admitted.true)).1

pub put_high-requires-clause-unqueued : goal.put_high-requires-clause-unqueued
put_high-requires-clause-unqueued c =
    let a = c.args.parts.now in
    c.requires.unqueued _ (admitted_is_held c.args.instance (thread_of (seen a) c.args.thread) (seen a).core (sym c.is_admitted.ensures ∙ c.if-is_admitted.true))

pub returns-then-is_admitted-clause-new : goal.returns-then-is_admitted-clause-new
returns-then-is_admitted-clause-new c =
    let a = c.args.parts.now in
    let on = sym c.is_admitted.ensures ∙ c.if-is_admitted.true in
    let one = admitted_held c.args.instance (thread_of (seen a) c.args.thread) (seen a).core on in
    one_is_raised c.args.instance (thread_of (seen a) c.args.thread) one.0 (seen a) (seen c.put_high.new.parts) on one.1 (c.put_high.ensures.new one.0 one.1)

pub returns-then-is_admitted-clause-unqueued : goal.returns-then-is_admitted-clause-unqueued
returns-then-is_admitted-clause-unqueued c =
    let a = c.args.parts.now in
    let one = admitted_held c.args.instance (thread_of (seen a) c.args.thread) (seen a).core (sym c.is_admitted.ensures ∙ c.if-is_admitted.true) in
    put_free c.args.instance (thread_of (seen a) c.args.thread) one.0 (seen a) (seen c.put_high.new.parts) c.requires.unqueued (c.put_high.ensures.new one.0 one.1)

pub returns-else-is_admitted-clause-new : goal.returns-else-is_admitted-clause-new
returns-else-is_admitted-clause-new c =
    let a = c.args.parts.now in
    none_is_raised c.args.instance (thread_of (seen a) c.args.thread) (seen a) (sym c.is_admitted.ensures ∙ c.if-is_admitted.false)
