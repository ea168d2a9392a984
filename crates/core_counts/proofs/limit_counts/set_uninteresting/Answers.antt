use Rattle.core_counts.proofs.RoomLemmas.{one_less, same_left}
use Rattle.core_counts.proofs.limit_counts.set_uninteresting.Goals as goal
use Rattle.core_records.proofs.Core.{ap, cond, set_uninteresting}
use Rattle.core_records.proofs.WriteLemmas.{call_nowhere, interest_counted, uninterested_sound, uninterested_writes}

pub overflow_sub-parts : goal.overflow_sub-parts
overflow_sub-parts c = interest_counted c.args.parts.now c.requires c.args.call c.in-Ok.entry.now c.in-Ok.ensures.value c.if-was_interesting.true

pub returns-then-was_interesting-clause-sound : goal.returns-then-was_interesting-clause-sound
returns-then-was_interesting-clause-sound c =
    uninterested_sound c.args.parts.now c.requires c.args.call c.in-Ok.entry.now c.in-Ok.ensures.value _
    (one_less _ _ (interest_counted c.args.parts.now c.requires c.args.call c.in-Ok.entry.now c.in-Ok.ensures.value c.if-was_interesting.true) (ap (λ b. cond b 1 0) c.if-was_interesting.true))

pub returns-then-was_interesting-clause-new : goal.returns-then-was_interesting-clause-new
returns-then-was_interesting-clause-new c =
    uninterested_writes c.args.parts.now c.requires c.args.call c.in-Ok.entry.now c.in-Ok.ensures.value _
    (one_less _ _ (interest_counted c.args.parts.now c.requires c.args.call c.in-Ok.entry.now c.in-Ok.ensures.value c.if-was_interesting.true) (ap (λ b. cond b 1 0) c.if-was_interesting.true))

pub returns-else-was_interesting-clause-sound : goal.returns-else-was_interesting-clause-sound
returns-else-was_interesting-clause-sound c = uninterested_sound c.args.parts.now c.requires c.args.call c.in-Ok.entry.now c.in-Ok.ensures.value _ (same_left _ _ (ap (λ b. cond b 1 0) c.if-was_interesting.false))

pub returns-else-was_interesting-clause-new : goal.returns-else-was_interesting-clause-new
returns-else-was_interesting-clause-new c = uninterested_writes c.args.parts.now c.requires c.args.call c.in-Ok.entry.now c.in-Ok.ensures.value _ (same_left _ _ (ap (λ b. cond b 1 0) c.if-was_interesting.false))

pub returns-in_default-clause-new : goal.returns-in_default-clause-new
unfolding set_uninteresting
returns-in_default-clause-new c = call_nowhere c.args.parts.now c.requires c.args.call _ c.in_default.ensures.value _
