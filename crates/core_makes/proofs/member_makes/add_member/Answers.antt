use Rattle.core_makes.specs.LooseCalls.{AreThreadLoose, thread_nodes_of}
use Rattle.core_makes.proofs.RestoreLemmas.{image_restored, sound_restored}
use Rattle.core_records.proofs.Core.{add_thread, ap, arith, bare, call_of, IsSoundCore, item_at, item_of, Keeps, new_thread, None, CoreImage, parts_of, registers_for, Script, seen, StateView, subst, sym, Table, Thread, thread_of, true, ℕ, ◌+◌, ◌<◌, ◌^◌, ◌∙◌, is_some}
use Rattle.core_records.specs.declared.{call_records.GuestTask.GuestTask, single.Single.Single, thread_records.GuestThread.GuestThread}
use Rattle.core_makes.proofs.MemberAddLemmas.{member_restored, threads_few}
use Rattle.core_makes.proofs.RequestLemmas.{member_instance, request_member}
use Rattle.core_makes.proofs.CallThreadUndoLemmas.{item_written, named_core}
use Rattle.core_makes.proofs.member_makes.add_member.Goals as goal

pub overflow_add-number : goal.overflow_add-number
unfolding seen
overflow_add-number c = let few : c.args.parts.now.made.threads + 1 < 2 ^ 64 = c.requires.few in omega arith

pub push_thread-requires-clause-may : goal.push_thread-requires-clause-may
push_thread-requires-clause-may c =
    let a = c.args.parts.now in
    let thread = c.thread_record-thread.ensures in
    record {
      there = c.call_there-call.ensures.item;
      member =
          request_member a (call_of (seen a) c.args.task) c.call_there-call.result.now c.args.task.rep (Script.Slot c.args.slot) (registers_for c.args.words.now) c.thread_record-thread.result
          (ap (λ (h : GuestThread). h.number) thread) (ap (λ (h : GuestThread). h.thread) thread ∙ c.new_thread-thread.ensures) (ap (λ (h : GuestThread). h.task) thread ∙ c.rep.ensures) (ap (λ (h : GuestThread). h.instance) thread) (ap (λ (h : GuestThread). h.barred) thread)
          c.call_there-call.ensures.is c.requires.there;
      loose = subst (λ (h : GuestThread). AreThreadLoose (bare (parts_of a)) (is_some c.call_there-call.result.now.waits) (thread_nodes_of h)) (sym thread) (c.requires.loose c.call_there-call.result.now c.call_there-call.ensures.item);
      unnamed = ap (λ (h : GuestThread). h.thread.handle) thread ∙ ap (λ (t : Thread). t.handle) c.new_thread-thread.ensures;
    }

pub drop_member-requires-clause-call : goal.drop_member-requires-clause-call
drop_member-requires-clause-call c =
    let call = c.call_there-call.result.now in
    item_written c.args.parts.now.calls c.args.task.rep c.args.task.serial call (record call { threads = call.threads + 1 }) c.call_there-call.ensures.item
    ∙ sym (ap (λ (t : Table (Single GuestTask)). item_at item_of t c.args.task.rep c.args.task.serial) (ap (λ (q : CoreImage). q.calls) c.in-Err-name_thread.ensures.same ∙ c.in-Ok.ensures.pushes.calls))

pub drop_member-requires-clause-few : goal.drop_member-requires-clause-few
drop_member-requires-clause-few c = threads_few c.args.parts.now c.requires.sound c.args.task c.call_there-call.result.now c.call_there-call.ensures.item c.thread_record-thread.result

pub returns-in-Ok-name_thread-clause-new : goal.returns-in-Ok-name_thread-clause-new
returns-in-Ok-name_thread-clause-new c = (
  ap (λ (v : StateView). thread_of v c.in-Ok.new) c.in-Ok-name_thread.ensures.new ∙ c.in-Ok.ensures.thread,
  record {
    core =
        let s = (seen c.args.parts.now).core in
        let n = call_of (seen c.args.parts.now) c.args.task in
        ap (λ (v : StateView). v.core) c.in-Ok-name_thread.ensures.new
        ∙ named_core _ _ _ _ _
        (c.in-Ok.ensures.new.core ∙ ap (λ (t : Thread). add_thread t s) (ap (λ (h : GuestThread). h.thread) c.thread_record-thread.ensures ∙ (c.new_thread-thread.ensures ∙ ap (λ (k : ℕ). new_thread k true (Script.Slot c.args.slot) (registers_for c.args.words.now) None) c.call_there-call.ensures.number)))
        c.in-Ok.ensures.thread
        (member_instance (new_thread n true (Script.Slot c.args.slot) (registers_for c.args.words.now) None) s);
    current = ap (λ (v : StateView). v.current) c.in-Ok-name_thread.ensures.new ∙ c.in-Ok.ensures.new.current;
    tags = subst (λ (v : StateView). Keeps (seen c.args.parts.now).tags v.tags) (sym c.in-Ok-name_thread.ensures.new) c.in-Ok.ensures.new.tags;
  },
)

pub returns-in-Err-name_thread-clause-sound : goal.returns-in-Err-name_thread-clause-sound
unfolding IsSoundCore
returns-in-Err-name_thread-clause-sound c =
    let d = c.drop_member.ensures in
    sound_restored (parts_of c.args.parts.now) (parts_of c.drop_member.new.parts)
    (member_restored c.args.parts.now c.push_thread.new.parts c.name_thread.new.parts c.drop_member.new.parts c.requires.sound c.in-Ok.ensures.sound c.args.task c.call_there-call.result.now c.call_there-call.ensures.item c.in-Ok.new c.in-Ok.ensures.pushes c.in-Err-name_thread.ensures.same d.only d.threads d.calls d.table)
    c.requires.sound

pub returns-in-Err-name_thread-clause-new : goal.returns-in-Err-name_thread-clause-new
unfolding seen
returns-in-Err-name_thread-clause-new c =
    let d = c.drop_member.ensures in
    image_restored (parts_of c.args.parts.now) (parts_of c.drop_member.new.parts)
    (member_restored c.args.parts.now c.push_thread.new.parts c.name_thread.new.parts c.drop_member.new.parts c.requires.sound c.in-Ok.ensures.sound c.args.task c.call_there-call.result.now c.call_there-call.ensures.item c.in-Ok.new c.in-Ok.ensures.pushes c.in-Err-name_thread.ensures.same d.only d.threads d.calls d.table)
