use Rattle.core_records.proofs.Core.{ap, Entry, High, Low, Mark, None, Some, on_core, popped, refl, seen, sym, ◌∙◌, ◌≡◌}
use Rattle.core_records.specs.declared.{parts.CoreParts.CoreParts}
use Rattle.core_queues.proofs.LeaveLemmas.{left_sound, pop_high_seen, pop_low_seen}
use Rattle.core_queues.proofs.SwitchLemmas.{follower_here, switch_after, switch_follows, switch_seen, switch_sound}
use Rattle.core_queues.proofs.TopLemmas.{mark_live, mark_nodes, next_high, next_low, next_none, next_switch, top_keyed}
use Rattle.core_queues.proofs.takes.take_next.Goals as goal

-- ---- At switch

pub returns-in-Some-clause-sound : goal.returns-in-Some-clause-sound
returns-in-Some-clause-sound c = switch_sound c.args.parts.now None c.requires tt

pub returns-in-Some-clause-next : goal.returns-in-Some-clause-next
returns-in-Some-clause-next c =
    let a = c.args.parts.now in
    ap (λ n. Some (Mark.Switch, Entry.Thread n)) (c.thread_at.ensures ∙ follower_here a c.requires c.in-Some.first (switch_follows a c.requires c.in-Some.first c.in-Some.is)) ∙ sym (next_switch a c.requires c.in-Some.first c.in-Some.is)

switch_popped : (a : CoreParts) → seen (switch_after a None) ≡ on_core (popped Mark.Switch) (seen a)
unfolding popped
switch_popped a = switch_seen a None None refl

pub returns-in-Some-clause-taken : goal.returns-in-Some-clause-taken
returns-in-Some-clause-taken c = switch_popped c.args.parts.now

-- ---- At high

pub first_marked-requires-clause-live : goal.first_marked-requires-clause-live
first_marked-requires-clause-live c = mark_live c.args.parts.now c.requires High

pub first_marked-requires-clause-nodes : goal.first_marked-requires-clause-nodes
first_marked-requires-clause-nodes c = mark_nodes c.args.parts.now c.requires High

pub entry_id-id-requires-clause-keyed : goal.entry_id-id-requires-clause-keyed
entry_id-id-requires-clause-keyed c = top_keyed c.args.parts.now c.requires High c.in-Some-first_marked.queued c.in-Some-first_marked.ensures

pub leave-requires-clause-keyed : goal.leave-requires-clause-keyed
leave-requires-clause-keyed c = top_keyed c.args.parts.now c.requires High c.in-Some-first_marked.queued c.in-Some-first_marked.ensures

pub returns-in-Some-first_marked-clause-sound : goal.returns-in-Some-first_marked-clause-sound
returns-in-Some-first_marked-clause-sound c =
    let a = c.args.parts.now in
    let q = c.in-Some-first_marked in
    left_sound a c.requires q.queued (top_keyed a c.requires High q.queued q.ensures) c.leave.ensures.links c.leave.new.parts c.leave.ensures.rows c.leave.ensures.rest

pub returns-in-Some-first_marked-clause-next : goal.returns-in-Some-first_marked-clause-next
returns-in-Some-first_marked-clause-next c = ap (λ e. Some (Mark.High, e)) c.entry_id-id.ensures ∙ sym (next_high c.args.parts.now c.requires c.in-None.is c.in-Some-first_marked.queued c.in-Some-first_marked.ensures)

pub returns-in-Some-first_marked-clause-taken : goal.returns-in-Some-first_marked-clause-taken
returns-in-Some-first_marked-clause-taken c =
    let a = c.args.parts.now in
    let q = c.in-Some-first_marked in
    pop_high_seen a c.requires q.queued (top_keyed a c.requires High q.queued q.ensures) c.leave.ensures.links c.leave.new.parts c.leave.ensures.rows c.leave.ensures.rest q.ensures

-- ---- At low

pub first_marked-requires-in-None-first_marked-clause-live : goal.first_marked-requires-in-None-first_marked-clause-live
first_marked-requires-in-None-first_marked-clause-live c = mark_live c.args.parts.now c.requires Low

pub first_marked-requires-in-None-first_marked-clause-nodes : goal.first_marked-requires-in-None-first_marked-clause-nodes
first_marked-requires-in-None-first_marked-clause-nodes c = mark_nodes c.args.parts.now c.requires Low

pub entry_id-id-requires-in-Some-first_marked-2-clause-keyed : goal.entry_id-id-requires-in-Some-first_marked-2-clause-keyed
entry_id-id-requires-in-Some-first_marked-2-clause-keyed c = top_keyed c.args.parts.now c.requires Low c.in-Some-first_marked-2.queued c.in-Some-first_marked-2.ensures

pub leave-requires-in-Some-first_marked-2-clause-keyed : goal.leave-requires-in-Some-first_marked-2-clause-keyed
leave-requires-in-Some-first_marked-2-clause-keyed c = top_keyed c.args.parts.now c.requires Low c.in-Some-first_marked-2.queued c.in-Some-first_marked-2.ensures

pub returns-in-Some-first_marked-2-clause-sound : goal.returns-in-Some-first_marked-2-clause-sound
returns-in-Some-first_marked-2-clause-sound c =
    let a = c.args.parts.now in
    let q = c.in-Some-first_marked-2 in
    let l = c.leave-in-Some-first_marked-2 in
    left_sound a c.requires q.queued (top_keyed a c.requires Low q.queued q.ensures) l.ensures.links l.new.parts l.ensures.rows l.ensures.rest

pub returns-in-Some-first_marked-2-clause-next : goal.returns-in-Some-first_marked-2-clause-next
returns-in-Some-first_marked-2-clause-next c = ap (λ e. Some (Mark.Low, e)) c.entry_id-id-in-Some-first_marked-2.ensures ∙ sym (next_low c.args.parts.now c.requires c.in-None.is c.in-None-first_marked.ensures c.in-Some-first_marked-2.queued c.in-Some-first_marked-2.ensures)

pub returns-in-Some-first_marked-2-clause-taken : goal.returns-in-Some-first_marked-2-clause-taken
returns-in-Some-first_marked-2-clause-taken c =
    let a = c.args.parts.now in
    let q = c.in-Some-first_marked-2 in
    let l = c.leave-in-Some-first_marked-2 in
    pop_low_seen a c.requires q.queued (top_keyed a c.requires Low q.queued q.ensures) l.ensures.links l.new.parts l.ensures.rows l.ensures.rest q.ensures

-- ---- Nothing

pub returns-in-None-first_marked-2-clause-next : goal.returns-in-None-first_marked-2-clause-next
returns-in-None-first_marked-2-clause-next c = sym (next_none c.args.parts.now c.requires c.in-None.is c.in-None-first_marked.ensures c.in-None-first_marked-2.ensures)
