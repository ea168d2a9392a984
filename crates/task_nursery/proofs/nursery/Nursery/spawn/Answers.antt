-- The work is a child more.
use Rattle.std.proofs.Common.{ap, length, refl, subst, sym, ◌∙◌, ◌+◌, ◌<◌}
use Rattle.std.specs.Prelude.{List}
use Rattle.machine_data.specs.Core.{Core}
use Rattle.task_nursery.proofs.GroupLemmas.{groups_queued}
use Rattle.task_nursery.proofs.KeptLemmas.{are_more}
use Rattle.task_loop.proofs.LastLemmas.{spawn_last}
use Rattle.task_nursery.proofs.TallyLemmas.{tallies_more}
use Rattle.task_nursery.specs.Scope.{IsOf, Scope}
use Rattle.task_nursery.specs.declared.children.Kept.{Kept}
use Rattle.task_nursery.specs.declared.children.Kept.TheVariants as kept
use Rattle.task_nursery.proofs.nursery.Nursery.spawn.Goals as goal

pub invariant_of-self-in-Ok : goal.invariant_of-self-in-Ok
invariant_of-self-in-Ok g c =
    let ks = c.self.inside.children.items in
    let few = subst (λ (n : Scope). length n.children < 4294967295) (sym c.self.view_is) c.requires.few in
    let next = c.add.ensures.number ∙ ap (λ (q : List Kept). length q + 1) c.make_room.ensures.children in
    rw (c.add.ensures.children, c.add.ensures.running, c.make_room.ensures.children, c.make_room.ensures.running)
    (tallies_more ks c.self.inside.running.items c.self.inside.calls (kept.Work c.in-Ok.work) c.add.result.number c.self.inside.calls c.self.invariant few refl next (λ is. absurd (cc)) (λ is. refl))

pub returns-in-Ok-clause-of : goal.returns-in-Ok-clause-of
returns-in-Ok-clause-of g c =
    let are = subst (λ (n : Scope). IsOf n c.args.store.now.state) (sym c.self.view_is) c.requires.of in
    rw (c.add.ensures.children, c.make_room.ensures.children)
    (are_more c.self.inside.children.items (kept.Work c.in-Ok.work) c.args.store.now.state c.spawn.new.self.state (spawn_last _ c.args.store.now.state c.spawn.new.self.state c.in-Ok.ensures.spawns.core c.in-Ok.ensures.spawns.tags) are c.in-Ok.ensures.spawns.spawned)

pub returns-in-Ok-clause-keeps : goal.returns-in-Ok-clause-keeps
returns-in-Ok-clause-keeps g c = record {
  order = c.spawn.ensures.spawns.order;
  asked = λ is. c.spawn.ensures.spawns.tags.same ∙ (is ∙ sym (ap (λ (u : Core). u.groups) c.in-Ok.ensures.spawns.core ∙ groups_queued _ c.args.store.now.state.core));
  rest = c.spawn.ensures.spawns.rest;
}

pub returns-in-Err-clause-keeps : goal.returns-in-Err-clause-keeps
returns-in-Err-clause-keeps g c = record {
  order = c.spawn.ensures.spawns.order;
  asked = λ is. rw c.in-Err.ensures.spawns.err is;
  rest = c.spawn.ensures.spawns.rest;
}
