use Rattle.core_fields.proofs.CallPlaceLemmas.{call_named, call_there, group_at}
use Rattle.core_makes.proofs.thread_calls.group_of.Goals as goal
use Rattle.core_records.proofs.Core.{bare, bare_call, IsCallNamed, parts_of, seen, task_of, thread_of, ◌∙◌}
use Rattle.core_records.proofs.HomeLemmas.{task_live, task_place}
use Rattle.core_records.proofs.StandLemmas.{item_by, item_here, number_is, placed_here}
use Rattle.core_records.specs.declared.{call_records.TaskGroup.TaskGroup}

pub there-call-requires : goal.there-call-requires
there-call-requires c =
    let a = c.args.parts.now in
    let g = c.thread_there-found.result.now in
    let is = c.thread_there-found.ensures.item in
    call_there a g.task (task_of (thread_of (seen a) c.args.thread) (seen a).core) (task_place a c.requires.sound c.args.thread g is) (task_live a c.requires.sound c.args.thread g is)

pub serial_unchecked-requires : goal.serial_unchecked-requires
serial_unchecked-requires c =
    let a = c.args.parts.now in
    let g = c.thread_there-found.result.now in
    let is = c.thread_there-found.ensures.item in
    let r = c.there-call.result.now in
    let named : IsCallNamed (bare (parts_of a)) (bare_call r) = call_named a g.task (task_of (thread_of (seen a) c.args.thread) (seen a).core) (task_place a c.requires.sound c.args.thread g is) (task_live a c.requires.sound c.args.thread g is) c.requires.sound r c.there-call.ensures in
    placed_here (λ (g : TaskGroup). g.number) (λ (g : TaskGroup). g.calls) a.groups r.group r.call.group named.group named.positive

pub there-requires : goal.there-requires
there-requires c =
    let a = c.args.parts.now in
    let g = c.thread_there-found.result.now in
    let is = c.thread_there-found.ensures.item in
    let r = c.there-call.result.now in
    let named : IsCallNamed (bare (parts_of a)) (bare_call r) = call_named a g.task (task_of (thread_of (seen a) c.args.thread) (seen a).core) (task_place a c.requires.sound c.args.thread g is) (task_live a c.requires.sound c.args.thread g is) c.requires.sound r c.there-call.ensures in
    item_here (λ (g : TaskGroup). g.number) (λ (g : TaskGroup). g.calls) a.groups r.group r.call.group named.group named.positive

pub returns-clause-item : goal.returns-clause-item
returns-clause-item c =
    let a = c.args.parts.now in
    let g = c.thread_there-found.result.now in
    let is = c.thread_there-found.ensures.item in
    let r = c.there-call.result.now in
    let named : IsCallNamed (bare (parts_of a)) (bare_call r) = call_named a g.task (task_of (thread_of (seen a) c.args.thread) (seen a).core) (task_place a c.requires.sound c.args.thread g is) (task_live a c.requires.sound c.args.thread g is) c.requires.sound r c.there-call.ensures in
    item_by (λ (g : TaskGroup). g.number) (λ (g : TaskGroup). g.calls) a.groups r.group r.call.group named.group named.positive c.there.result.now c.there.ensures c.new-id.result.rep c.new-id.result.serial c.serial_unchecked.result c.new-id.ensures.rep c.new-id.ensures.serial c.serial_unchecked.ensures

pub returns-clause-number : goal.returns-clause-number
returns-clause-number c =
    let a = c.args.parts.now in
    let g = c.thread_there-found.result.now in
    let is = c.thread_there-found.ensures.item in
    let r = c.there-call.result.now in
    let named : IsCallNamed (bare (parts_of a)) (bare_call r) = call_named a g.task (task_of (thread_of (seen a) c.args.thread) (seen a).core) (task_place a c.requires.sound c.args.thread g is) (task_live a c.requires.sound c.args.thread g is) c.requires.sound r c.there-call.ensures in
    number_is (λ (g : TaskGroup). g.number) (λ (g : TaskGroup). g.calls) a.groups r.group r.call.group named.group named.positive c.there.result.now c.there.ensures
    ∙ group_at a g.task (task_of (thread_of (seen a) c.args.thread) (seen a).core) (task_place a c.requires.sound c.args.thread g is) (task_live a c.requires.sound c.args.thread g is) c.requires.sound r c.there-call.ensures
