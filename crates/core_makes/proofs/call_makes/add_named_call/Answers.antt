use Rattle.core_makes.proofs.RestoreLemmas.{image_restored, sound_restored}
use Rattle.core_records.proofs.Core.{ap, call_of, IsSoundCore, item_at, item_of, Keeps, CoreImage, parts_of, seen, StateView, subst, sym, Table, thread_of, ◌+◌, ◌∙◌}
use Rattle.core_records.specs.declared.{call_records.TaskGroup.TaskGroup, single.Single.Single}
use Rattle.core_makes.proofs.CallThreadUndoLemmas.{item_written, made_instance, named_core, call_thread_restored}
use Rattle.core_makes.proofs.call_makes.add_named_call.Goals as goal

pub drop_call_with_thread-requires-clause-item : goal.drop_call_with_thread-requires-clause-item
drop_call_with_thread-requires-clause-item c =
    let group = c.args.group in
    item_written c.args.parts.now.groups c.args.id.rep c.args.id.serial group (record group { calls = group.calls + 1 }) c.requires.add.group
    ∙ sym (ap (λ (t : Table (Single TaskGroup)). item_at item_of t c.args.id.rep c.args.id.serial) (ap (λ (q : CoreImage). q.groups) c.in-Err-name_thread.ensures.same ∙ c.in-Ok.ensures.pushes.groups))

pub returns-in-Ok-name_thread-clause-new : goal.returns-in-Ok-name_thread-clause-new
returns-in-Ok-name_thread-clause-new c = (
  (ap (λ (v : StateView). thread_of v c.in-Ok.first) c.in-Ok-name_thread.ensures.new ∙ c.in-Ok.ensures.new.0.0, ap (λ (v : StateView). call_of v c.in-Ok.task) c.in-Ok-name_thread.ensures.new ∙ c.in-Ok.ensures.new.0.1),
  record {
    core =
        let q = c.args.request in
        ap (λ (v : StateView). v.core) c.in-Ok-name_thread.ensures.new
        ∙ named_core _ _ _ _ _ c.in-Ok.ensures.new.1.core c.in-Ok.ensures.new.0.0 (made_instance q.caller q.callee q.kind q.goal c.args.group.number c.args.words.now (seen c.args.parts.now).core);
    current = ap (λ (v : StateView). v.current) c.in-Ok-name_thread.ensures.new ∙ c.in-Ok.ensures.new.1.current;
    tags = subst (λ (v : StateView). Keeps (seen c.args.parts.now).tags v.tags) (sym c.in-Ok-name_thread.ensures.new) c.in-Ok.ensures.new.1.tags;
  },
)

pub returns-in-Err-name_thread-clause-sound : goal.returns-in-Err-name_thread-clause-sound
unfolding IsSoundCore
returns-in-Err-name_thread-clause-sound c =
    let d = c.drop_call_with_thread.ensures in
    sound_restored (parts_of c.args.parts.now) (parts_of c.drop_call_with_thread.new.parts)
    (call_thread_restored c.args.parts.now c.add_call_with_thread.new.parts c.name_thread.new.parts c.drop_call_with_thread.new.parts c.requires.add.sound c.in-Ok.ensures.sound c.args.id c.args.group c.requires.add.group c.in-Ok.first c.in-Ok.task c.in-Ok.ensures.pushes c.in-Err-name_thread.ensures.same d.only d.threads d.calls d.groups d.threads_table d.calls_table)
    c.requires.add.sound

pub returns-in-Err-name_thread-clause-new : goal.returns-in-Err-name_thread-clause-new
unfolding seen
returns-in-Err-name_thread-clause-new c =
    let d = c.drop_call_with_thread.ensures in
    image_restored (parts_of c.args.parts.now) (parts_of c.drop_call_with_thread.new.parts)
    (call_thread_restored c.args.parts.now c.add_call_with_thread.new.parts c.name_thread.new.parts c.drop_call_with_thread.new.parts c.requires.add.sound c.in-Ok.ensures.sound c.args.id c.args.group c.requires.add.group c.in-Ok.first c.in-Ok.task c.in-Ok.ensures.pushes c.in-Err-name_thread.ensures.same d.only d.threads d.calls d.groups d.threads_table d.calls_table)
