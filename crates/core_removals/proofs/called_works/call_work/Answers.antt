use Rattle.core_removals.specs.LooseWorks.{AreWorkLoose, nodes_of}
use Rattle.core_makes.proofs.RestoreLemmas.{image_restored, sound_restored}
use Rattle.core_records.proofs.Core.{add_work, ap, ap₂, arith, bare, cond, Core, count_work, Entry, image, is_host_call, IsSoundCore, item_at, item_of, Keeps, new_handle, CoreImage, parts_of, push_high, seen, Some, StateView, subst, Subtask, sym, Table, with_handle, work_entries, work_of, work_queued, ℕ, ◌+◌, ◌<◌, ◌^◌, ◌∙◌, ◌≡◌}
use Rattle.core_records.specs.declared.{call_records.TaskGroup.TaskGroup, parts.CoreParts.CoreParts, single.Single.Single, work_records.WorkRecord.WorkRecord}
use Rattle.core_makes.proofs.CallThreadUndoLemmas.{item_written}
use Rattle.core_removals.proofs.WorkAddLemmas.{record_next}
use Rattle.core_removals.proofs.WorkUndoLemmas.{push_after_handle, unqueued_with_handle, work_restored}
use Rattle.core_removals.proofs.called_works.call_work.Goals as goal
use Rattle.core_removals.specs.Raised.{PushesWork}

pub overflow_add-number : goal.overflow_add-number
unfolding seen
overflow_add-number c = let few : c.args.parts.now.made.works + 1 < 2 ^ 64 = c.requires.few in omega arith

pub push_work-requires-clause-next : goal.push_work-requires-clause-next
push_work-requires-clause-next c = record {
  next = record_next c.args.parts.now c.requires.sound c.args.request (Some c.args.group) c.args.nodes c.requires.here c.requires.caller _ c.record_for-work.ensures;
  here = c.requires.here;
  named = ap (λ (w : WorkRecord). w.work.group) c.record_for-work.ensures;
}

pub push_work-requires-clause-nodes : goal.push_work-requires-clause-nodes
push_work-requires-clause-nodes c = record {
  loose = subst (λ (w : WorkRecord). AreWorkLoose (bare (parts_of c.args.parts.now)) (nodes_of w)) (sym c.record_for-work.ensures) c.requires.nodes.loose;
  high = c.requires.nodes.high;
  live = c.requires.nodes.live;
}

pub queue_push-requires-clause-unqueued : goal.queue_push-requires-clause-unqueued
queue_push-requires-clause-unqueued c =
    ap (λ (v : StateView). work_entries (work_of v c.in-Ok.new) v.core.queues.high) c.in-Ok-name_work.ensures.new
    ∙ (unqueued_with_handle c.args.instance (work_of (seen c.push_work.new.parts) c.in-Ok.new) (work_of (seen c.push_work.new.parts) c.in-Ok.new) (seen c.push_work.new.parts).core
    ∙ (ap (λ (n : ℕ). work_entries n (seen c.push_work.new.parts).core.queues.high) c.in-Ok.ensures.names.named ∙ c.in-Ok.ensures.names.unqueued))

pub drop_work-requires-clause-work : goal.drop_work-requires-clause-work
unfolding seen
drop_work-requires-clause-work c =
    let is : work_of (seen c.name_work.new.parts) c.in-Ok.new ≡ (seen c.args.parts.now).core.made.works + 1 = ap (λ (q : CoreImage). work_of (image q) c.in-Ok.new) c.in-Err-name_work.ensures.same ∙ c.in-Ok.ensures.names.named in
    omega (arith, is)

pub drop_work-requires-clause-item : goal.drop_work-requires-clause-item
drop_work-requires-clause-item c =
    let id = c.args.group.0 in
    let group = c.args.group.1 in
    item_written c.args.parts.now.groups id.rep id.serial group (record group { calls = group.calls + 1 }) c.requires.here
    ∙ sym (ap (λ (t : Table (Single TaskGroup)). item_at item_of t id.rep id.serial) (ap (λ (q : CoreImage). q.groups) c.in-Err-name_work.ensures.same ∙ ap (λ (y : CoreParts). y.groups) c.in-Ok.ensures.pushes.only))

pub returns-in-Ok-name_work-clause-small : goal.returns-in-Ok-name_work-clause-small
unfolding new_handle add_work count_work
returns-in-Ok-name_work-clause-small c =
    subst (λ (n : ℕ). n < 2 ^ 28) (ap (new_handle c.args.instance) c.in-Ok.ensures.new.core) c.in-Ok-name_work.ensures.small

pub returns-in-Ok-name_work-clause-new : goal.returns-in-Ok-name_work-clause-new
unfolding seen work_queued
returns-in-Ok-name_work-clause-new c = (
  ap (λ (v : StateView). work_of v c.in-Ok.new) c.queue_push.ensures.new ∙ (ap (λ (v : StateView). work_of v c.in-Ok.new) c.in-Ok-name_work.ensures.new ∙ c.in-Ok.ensures.names.named),
  record {
    core =
        let s = (seen c.args.parts.now).core in
        let i = c.args.instance in
        ap (λ (v : StateView). v.core) c.queue_push.ensures.new
        ∙ (ap (λ (v : StateView). push_high (Entry.Push (work_of v c.in-Ok.new)) v.core) c.in-Ok-name_work.ensures.new
        ∙ (ap₂ (λ (n : ℕ) (x : Core). push_high (Entry.Push n) (with_handle i (Subtask.Host n) x)) c.in-Ok.ensures.names.named c.in-Ok.ensures.new.core
        ∙ (ap (λ (w : WorkRecord). push_high (Entry.Push (s.made.works + 1)) (with_handle i (Subtask.Host (s.made.works + 1)) (add_work w.number w.work (count_work s)))) c.record_for-work.ensures
        ∙ push_after_handle _ i (s.made.works + 1) _)));
    current = ap (λ (v : StateView). v.current) c.queue_push.ensures.new ∙ (ap (λ (v : StateView). v.current) c.in-Ok-name_work.ensures.new ∙ c.in-Ok.ensures.new.current);
    tags =
        subst (λ (v : StateView). Keeps (seen c.args.parts.now).tags v.tags) (sym c.queue_push.ensures.new)
        (subst (λ (v : StateView). Keeps (seen c.args.parts.now).tags v.tags) (sym c.in-Ok-name_work.ensures.new) c.in-Ok.ensures.new.tags);
  },
)

pub returns-in-Err-name_work-clause-sound : goal.returns-in-Err-name_work-clause-sound
unfolding IsSoundCore
returns-in-Err-name_work-clause-sound c =
    let a = c.args.parts.now in
    let d = c.drop_work.ensures in
    let id = c.args.group.0 in
    let group = c.args.group.1 in
    let made = subst (λ (n : ℕ). PushesWork a c.push_work.new.parts c.record_for-work.result (Some (id, group)) c.in-Ok.new.rep n) (ap (λ (w : WorkRecord). cond {A = ℕ} (is_host_call w.work) 1 0) c.record_for-work.ensures) c.in-Ok.ensures.pushes in
    let back = work_restored a c.push_work.new.parts c.name_work.new.parts c.drop_work.new.parts c.requires.sound c.in-Ok.ensures.sound id group c.requires.here c.record_for-work.result c.in-Ok.new.rep made c.in-Err-name_work.ensures.same d.only d.works d.groups d.table in
    sound_restored (parts_of a) (parts_of c.drop_work.new.parts) back c.requires.sound

pub returns-in-Err-name_work-clause-new : goal.returns-in-Err-name_work-clause-new
unfolding seen
returns-in-Err-name_work-clause-new c =
    let a = c.args.parts.now in
    let d = c.drop_work.ensures in
    let id = c.args.group.0 in
    let group = c.args.group.1 in
    let made = subst (λ (n : ℕ). PushesWork a c.push_work.new.parts c.record_for-work.result (Some (id, group)) c.in-Ok.new.rep n) (ap (λ (w : WorkRecord). cond {A = ℕ} (is_host_call w.work) 1 0) c.record_for-work.ensures) c.in-Ok.ensures.pushes in
    let back = work_restored a c.push_work.new.parts c.name_work.new.parts c.drop_work.new.parts c.requires.sound c.in-Ok.ensures.sound id group c.requires.here c.record_for-work.result c.in-Ok.new.rep made c.in-Err-name_work.ensures.same d.only d.works d.groups d.table in
    image_restored (parts_of a) (parts_of c.drop_work.new.parts) back
