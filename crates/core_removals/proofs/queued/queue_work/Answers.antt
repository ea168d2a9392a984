use Rattle.core_removals.specs.LooseWorks.{AreWorkLoose, nodes_of}
use Rattle.core_records.proofs.Core.{add_work, ap, ap₂, arith, bare, parts_of, Core, count_work, Entry, Keeps, push_high, seen, StateView, subst, sym, work_of, work_queued, ℕ, ◌+◌, ◌<◌, ◌^◌, ◌∙◌}
use Rattle.core_records.specs.declared.{work_records.WorkRecord.WorkRecord}
use Rattle.core_removals.proofs.WorkAddLemmas.{record_next}
use Rattle.core_removals.proofs.queued.queue_work.Goals as goal

pub overflow_add-number : goal.overflow_add-number
unfolding seen
overflow_add-number c = let few : c.args.parts.now.made.works + 1 < 2 ^ 64 = c.requires.few in omega arith

pub push_work-requires-clause-next : goal.push_work-requires-clause-next
push_work-requires-clause-next c = record {
  next = record_next c.args.parts.now c.requires.sound c.args.request c.args.group c.args.nodes c.requires.here c.requires.caller _ c.record_for-work.ensures;
  here = c.requires.here;
  named = ap (λ (w : WorkRecord). w.work.group) c.record_for-work.ensures;
}

pub push_work-requires-clause-nodes : goal.push_work-requires-clause-nodes
push_work-requires-clause-nodes c = record {
  loose = subst (λ (w : WorkRecord). AreWorkLoose (bare (parts_of c.args.parts.now)) (nodes_of w)) (sym c.record_for-work.ensures) c.requires.nodes.loose;
  high = c.requires.nodes.high;
  live = c.requires.nodes.live;
}

pub returns-in-Ok-clause-new : goal.returns-in-Ok-clause-new
unfolding seen work_queued
returns-in-Ok-clause-new c = (
  ap (λ (v : StateView). work_of v c.in-Ok.id) c.queue_push.ensures.new ∙ c.in-Ok.ensures.names.named,
  record {
    core =
        let s = (seen c.args.parts.now).core in
        ap (λ (v : StateView). v.core) c.queue_push.ensures.new
        ∙ (ap₂ (λ (n : ℕ) (x : Core). push_high (Entry.Push n) x) c.in-Ok.ensures.names.named c.in-Ok.ensures.new.core
        ∙ ap (λ (w : WorkRecord). push_high (Entry.Push (s.made.works + 1)) (add_work w.number w.work (count_work s))) c.record_for-work.ensures);
    current = ap (λ (v : StateView). v.current) c.queue_push.ensures.new ∙ c.in-Ok.ensures.new.current;
    tags = subst (λ (v : StateView). Keeps (seen c.args.parts.now).tags v.tags) (sym c.queue_push.ensures.new) c.in-Ok.ensures.new.tags;
  },
)
