use Rattle.core_records.proofs.Core.{ap, Entry, High, Low, Mark, Some, sym, ◌∙◌}
use Rattle.core_queues.proofs.SwitchLemmas.{follower_here, switch_follows}
use Rattle.core_queues.proofs.TopLemmas.{mark_live, next_high, next_low, next_none, next_switch, top_keyed}
use Rattle.core_queues.proofs.tops.next_entry.Goals as goal

pub first_queued-requires : goal.first_queued-requires
first_queued-requires c = mark_live c.args.parts.now c.requires High

pub entry_id-requires-clause-keyed : goal.entry_id-requires-clause-keyed
entry_id-requires-clause-keyed c = top_keyed c.args.parts.now c.requires High c.in-Some-first_queued.queued c.in-Some-first_queued.ensures

pub first_queued-requires-in-None-first_queued : goal.first_queued-requires-in-None-first_queued
first_queued-requires-in-None-first_queued c = mark_live c.args.parts.now c.requires Low

pub entry_id-requires-in-Some-first_queued-2-clause-keyed : goal.entry_id-requires-in-Some-first_queued-2-clause-keyed
entry_id-requires-in-Some-first_queued-2-clause-keyed c = top_keyed c.args.parts.now c.requires Low c.in-Some-first_queued-2.queued c.in-Some-first_queued-2.ensures

pub returns-in-Some : goal.returns-in-Some
returns-in-Some c =
    let a = c.args.parts.now in
    ap (λ n. Some (Mark.Switch, Entry.Thread n)) (c.thread_at.ensures ∙ follower_here a c.requires c.in-Some.first (switch_follows a c.requires c.in-Some.first c.in-Some.is)) ∙ sym (next_switch a c.requires c.in-Some.first c.in-Some.is)

pub returns-in-Some-first_queued : goal.returns-in-Some-first_queued
returns-in-Some-first_queued c = ap (λ e. Some (Mark.High, e)) c.entry_id.ensures ∙ sym (next_high c.args.parts.now c.requires c.in-None.is c.in-Some-first_queued.queued c.in-Some-first_queued.ensures)

pub returns-in-Some-first_queued-2 : goal.returns-in-Some-first_queued-2
returns-in-Some-first_queued-2 c = ap (λ e. Some (Mark.Low, e)) c.entry_id-in-Some-first_queued-2.ensures ∙ sym (next_low c.args.parts.now c.requires c.in-None.is c.in-None-first_queued.ensures c.in-Some-first_queued-2.queued c.in-Some-first_queued-2.ensures)

pub returns-in-None-first_queued-2 : goal.returns-in-None-first_queued-2
returns-in-None-first_queued-2 c = sym (next_none c.args.parts.now c.requires c.in-None.is c.in-None-first_queued.ensures c.in-None-first_queued-2.ensures)
