use Rattle.core_records.proofs.Core.{ap, High, Low, None, refl, Some, subst, sym, ℕ, ◌<◌, ◌∙◌}
use Rattle.core_queues.proofs.TopLemmas.{first_from_low, first_high, first_none, first_past, first_some, instance_queue_live}
use Rattle.core_queues.proofs.tops.first_entry.Goals as goal

pub first_queued-requires : goal.first_queued-requires
first_queued-requires c = instance_queue_live c.args.parts.now c.requires c.args.instance c.in-Some.record.now c.in-Some.ensures.item High

pub first_queued-requires-in-None-first_queued : goal.first_queued-requires-in-None-first_queued
first_queued-requires-in-None-first_queued c = instance_queue_live c.args.parts.now c.requires c.args.instance c.in-Some.record.now c.in-Some.ensures.item Low

pub returns-in-Some-first_queued-clause-is : goal.returns-in-Some-first_queued-clause-is
returns-in-Some-first_queued-clause-is c =
    ap (λ (n : ℕ). Some n) c.thread_at.ensures ∙ sym (first_high c.args.parts.now c.requires c.args.instance c.in-Some.record.now c.in-Some.ensures.item High c.in-Some-first_queued.queued refl c.in-Some-first_queued.ensures)

pub returns-in-Some-first_queued-clause-live : goal.returns-in-Some-first_queued-clause-live
returns-in-Some-first_queued-clause-live c =
    subst (λ n. 0 < n) (sym c.thread_at.ensures) (first_some c.args.parts.now c.requires c.args.instance c.in-Some.record.now c.in-Some.ensures.item High c.in-Some-first_queued.queued c.in-Some-first_queued.ensures).1

pub returns-in-Some-first_queued-2-clause-is : goal.returns-in-Some-first_queued-2-clause-is
returns-in-Some-first_queued-2-clause-is c =
    let a = c.args.parts.now in
    ap (λ (n : ℕ). Some n) c.thread_at-in-Some-first_queued-2.ensures
    ∙ sym (first_from_low a c.requires c.args.instance _ (first_none a c.requires c.args.instance c.in-Some.record.now c.in-Some.ensures.item High c.in-None-first_queued.ensures)
    (first_some a c.requires c.args.instance c.in-Some.record.now c.in-Some.ensures.item Low c.in-Some-first_queued-2.queued c.in-Some-first_queued-2.ensures).0)

pub returns-in-Some-first_queued-2-clause-live : goal.returns-in-Some-first_queued-2-clause-live
returns-in-Some-first_queued-2-clause-live c =
    subst (λ n. 0 < n) (sym c.thread_at-in-Some-first_queued-2.ensures) (first_some c.args.parts.now c.requires c.args.instance c.in-Some.record.now c.in-Some.ensures.item Low c.in-Some-first_queued-2.queued c.in-Some-first_queued-2.ensures).1

pub returns-in-None-first_queued-2-clause-is : goal.returns-in-None-first_queued-2-clause-is
returns-in-None-first_queued-2-clause-is c =
    let a = c.args.parts.now in
    sym (first_from_low a c.requires c.args.instance None (first_none a c.requires c.args.instance c.in-Some.record.now c.in-Some.ensures.item High c.in-None-first_queued.ensures)
    (first_none a c.requires c.args.instance c.in-Some.record.now c.in-Some.ensures.item Low c.in-None-first_queued-2.ensures))

pub returns-in-None-clause-is : goal.returns-in-None-clause-is
returns-in-None-clause-is c = first_past c.args.parts.now c.requires c.args.instance c.in-None.ensures.item
