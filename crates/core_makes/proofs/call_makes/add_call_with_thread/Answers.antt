use Rattle.core_makes.specs.LooseCalls.{AreCallAndThreadLoose, call_nodes_of, thread_nodes_of}
use Rattle.core_makes.proofs.RestoreLemmas.{image_restored}
use Rattle.core_records.proofs.Core.{ap, arith, bare, Call, subst, sym, Thread, call_made, parts_of, registers_for, seen, ◌+◌, ◌<◌, ◌^◌, ◌∙◌}
use Rattle.core_records.specs.declared.{call_records.GuestTask.GuestTask, thread_records.GuestThread.GuestThread}
use Rattle.core_makes.proofs.RequestLemmas.{request_core, request_call_thread}
use Rattle.core_makes.proofs.call_makes.add_call_with_thread.Goals as goal
use Rattle.core_records.specs.Names.{keeps_waits}

pub overflow_add-number : goal.overflow_add-number
unfolding seen
overflow_add-number c = let few : c.args.parts.now.made.threads + 1 < 2 ^ 64 = c.requires.add.few in omega arith

pub push_call_with_thread-requires-clause-may : goal.push_call_with_thread-requires-clause-may
unfolding seen
push_call_with_thread-requires-clause-may c =
    let call = c.call_record-call.ensures in
    let thread = c.thread_record-thread.ensures in
    let p = bare (parts_of c.args.parts.now) in
    record {
      few = c.requires.add.few;
      room = c.requires.add.room;
      group = c.requires.add.group;
      place = ap (λ (d : GuestTask). d.group) call ∙ c.rep.ensures;
      of_group = sym (ap (λ (d : GuestTask). d.call.group) call ∙ ap (λ (k : Call). k.group) c.new_call-call.ensures);
      next =
          request_call_thread c.args.parts.now c.args.request c.args.group.number (registers_for c.args.words.now) c.call_record-call.result c.thread_record-thread.result
          (ap (λ (d : GuestTask). d.number) call) (ap (λ (d : GuestTask). d.call) call ∙ c.new_call-call.ensures) (ap (λ (d : GuestTask). d.maker) call) (ap (λ (d : GuestTask). d.threads) call)
          (ap (λ (h : GuestThread). h.number) thread) (ap (λ (h : GuestThread). h.thread) thread ∙ c.new_thread-thread.ensures) (ap (λ (h : GuestThread). h.instance) thread) (ap (λ (h : GuestThread). h.barred) thread ∙ c.bars.ensures)
          c.requires.caller c.requires.add.there c.requires.add.result;
      loose =
          subst (λ (d : GuestTask). AreCallAndThreadLoose p (keeps_waits p.version d.call.kind) (call_nodes_of d) (thread_nodes_of c.thread_record-thread.result)) (sym call)
          (subst (λ (h : GuestThread). AreCallAndThreadLoose p (keeps_waits p.version c.new_call-call.result.kind) c.args.nodes.0 (thread_nodes_of h)) (sym thread)
          (subst (λ (k : Call). AreCallAndThreadLoose p (keeps_waits p.version k.kind) c.args.nodes.0 c.args.nodes.1) (sym c.new_call-call.ensures) c.requires.add.loose));
      unnamed = ap (λ (h : GuestThread). h.thread.handle) thread ∙ ap (λ (t : Thread). t.handle) c.new_thread-thread.ensures;
      interests = ap (λ (d : GuestTask). d.call.interesting) call ∙ ap (λ (k : Call). k.interesting) c.new_call-call.ensures;
    }

pub returns-in-Ok-clause-new : goal.returns-in-Ok-clause-new
unfolding call_made seen
returns-in-Ok-clause-new c = (
  (c.in-Ok.ensures.thread, c.in-Ok.ensures.call),
  record {
    core =
        let call = c.call_record-call.ensures in
        let thread = c.thread_record-thread.ensures in
        c.in-Ok.ensures.new.core
        ∙ request_core c.args.parts.now c.args.request c.args.group.number (registers_for c.args.words.now) c.call_record-call.result c.thread_record-thread.result
        (ap (λ (d : GuestTask). d.number) call) (ap (λ (d : GuestTask). d.call) call ∙ c.new_call-call.ensures) (ap (λ (d : GuestTask). d.maker) call) (ap (λ (d : GuestTask). d.threads) call)
        (ap (λ (h : GuestThread). h.number) thread) (ap (λ (h : GuestThread). h.thread) thread ∙ c.new_thread-thread.ensures) (ap (λ (h : GuestThread). h.instance) thread) (ap (λ (h : GuestThread). h.barred) thread ∙ c.bars.ensures) (seen c.args.parts.now).core;
    current = c.in-Ok.ensures.new.current;
    tags = c.in-Ok.ensures.new.tags;
  },
)

pub returns-in-Err-clause-new : goal.returns-in-Err-clause-new
unfolding seen
returns-in-Err-clause-new c = image_restored (parts_of c.args.parts.now) (parts_of c.push_call_with_thread.new.parts) c.in-Err.ensures.err
