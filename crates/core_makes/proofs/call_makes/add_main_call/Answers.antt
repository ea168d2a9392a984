use Rattle.machine_data.specs.declared.records.Caller.{Caller}
use Rattle.core_makes.proofs.RestoreLemmas.{image_restored, item_restored, sound_restored}
use Rattle.core_records.proofs.Core.{add_group, ap, arith, AtPlace, bare, call_made, caller_target, fits, get, HasRoom, IsSome, IsSoundCore, Keeps, parts_of, seen, StateView, subst, sym, true, ◌+◌, ◌<◌, ◌^◌, ◌∙◌, ◌≡◌}
use Rattle.core_records.specs.declared.{parts.CoreParts.CoreParts}
use Rattle.core_makes.proofs.MainLemmas.{fits_fewer, fits_grouped, group_restored, keeps_grouped, call_thread_loose_beside}
use Rattle.core_makes.proofs.call_makes.add_main_call.Goals as goal
use Rattle.core_makes.specs.LooseCalls.{AreCallAndThreadLoose}
use Rattle.core_records.specs.Names.{keeps_waits}

pub overflow_add-number : goal.overflow_add-number
unfolding seen
overflow_add-number c = let few : c.args.parts.now.made.groups + 1 < 2 ^ 64 = c.requires.add.groups in omega arith

pub push_group-requires-clause-few : goal.push_group-requires-clause-few
unfolding seen
push_group-requires-clause-few c = c.requires.add.groups

pub push_group-requires-clause-room : goal.push_group-requires-clause-room
push_group-requires-clause-room c = fits_fewer 1 4 (seen c.args.parts.now).core (omega arith) c.requires.add.room

pub add_call_with_thread_outlined-requires-clause-add : goal.add_call_with_thread_outlined-requires-clause-add
unfolding add_group
add_call_with_thread_outlined-requires-clause-add c =
    let a = c.args.parts.now in
    record {
      sound = c.in-Ok.ensures.sound;
      words = c.requires.add.words;
      few = subst (λ (v : StateView). v.core.made.threads + 1 < 2 ^ 64) (sym c.in-Ok.ensures.new) c.requires.add.few;
      room = subst (λ (v : StateView). fits 3 v.core ≡ true) (sym c.in-Ok.ensures.new) (fits_grouped (seen a).core c.requires.add.room);
      group = c.in-Ok.ensures.pushes.group;
      there = subst (λ (v : StateView). IsSome (get v.core.instances c.args.request.callee.instance)) (sym c.in-Ok.ensures.new) c.requires.add.there;
      result = λ is. subst (λ (y : CoreParts). HasRoom (y.made.threads + 1) y.results) (sym c.in-Ok.ensures.pushes.only) (c.requires.add.result is);
      loose = subst (λ (y : CoreParts). AreCallAndThreadLoose (bare (parts_of y)) (keeps_waits y.version c.args.request.kind) c.args.nodes.0 c.args.nodes.1) (sym c.in-Ok.ensures.pushes.only)
          (call_thread_loose_beside a c.push_group.new.parts.groups (record a.made { groups = a.made.groups + 1 }) (record a.kept { used = a.kept.used + 1; groups = a.kept.groups + 1 }) (keeps_waits a.version c.args.request.kind) c.args.nodes.0 c.args.nodes.1 c.requires.add.loose);
    }

pub add_call_with_thread_outlined-requires-clause-caller : goal.add_call_with_thread_outlined-requires-clause-caller
add_call_with_thread_outlined-requires-clause-caller c = subst (λ (x : Caller). AtPlace (parts_of c.push_group.new.parts) c.args.request.maker (caller_target x)) (sym c.requires.add.caller) tt

pub drop_group-requires-clause-item : goal.drop_group-requires-clause-item
drop_group-requires-clause-item c = c.in-Ok.ensures.pushes.group ∙ sym (item_restored c.push_group.new.parts.groups c.add_call_with_thread_outlined.new.parts.groups c.in-Err-add_call_with_thread_outlined.ensures.err.groups c.in-Ok.id.rep c.in-Ok.id.serial)

pub returns-in-Ok-add_call_with_thread_outlined-clause-new : goal.returns-in-Ok-add_call_with_thread_outlined-clause-new
unfolding seen add_group
returns-in-Ok-add_call_with_thread_outlined-clause-new c = (
  (c.in-Ok-add_call_with_thread_outlined.ensures.new.0.0 ∙ ap (λ (v : StateView). v.core.made.threads + 1) c.in-Ok.ensures.new, c.in-Ok-add_call_with_thread_outlined.ensures.new.0.1 ∙ ap (λ (v : StateView). v.core.made.threads + 1) c.in-Ok.ensures.new),
  record {
    core =
        let q = c.args.request in
        c.in-Ok-add_call_with_thread_outlined.ensures.new.1.core ∙ ap (λ (v : StateView). call_made q.caller q.callee q.kind q.goal (c.args.parts.now.made.groups + 1) c.args.words.now v.core) c.in-Ok.ensures.new;
    current = c.in-Ok-add_call_with_thread_outlined.ensures.new.1.current ∙ ap (λ (v : StateView). v.current) c.in-Ok.ensures.new;
    tags = keeps_grouped (seen c.args.parts.now) (seen c.add_call_with_thread_outlined.new.parts).tags (subst (λ (v : StateView). Keeps v.tags (seen c.add_call_with_thread_outlined.new.parts).tags) c.in-Ok.ensures.new c.in-Ok-add_call_with_thread_outlined.ensures.new.1.tags);
  },
)

pub returns-in-Err-add_call_with_thread_outlined-clause-sound : goal.returns-in-Err-add_call_with_thread_outlined-clause-sound
unfolding IsSoundCore
returns-in-Err-add_call_with_thread_outlined-clause-sound c =
    sound_restored (parts_of c.args.parts.now) (parts_of c.drop_group.new.parts)
    (group_restored c.args.parts.now c.push_group.new.parts c.add_call_with_thread_outlined.new.parts c.drop_group.new.parts c.requires.sound _ c.in-Ok.id.rep c.in-Ok.ensures.pushes.only c.in-Ok.ensures.pushes.groups c.in-Err-add_call_with_thread_outlined.ensures.err c.drop_group.ensures.only c.drop_group.ensures.deleted c.in-Ok.ensures.pushes.rep c.drop_group.ensures.table)
    c.requires.sound

pub returns-in-Err-add_call_with_thread_outlined-clause-new : goal.returns-in-Err-add_call_with_thread_outlined-clause-new
unfolding seen
returns-in-Err-add_call_with_thread_outlined-clause-new c =
    image_restored (parts_of c.args.parts.now) (parts_of c.drop_group.new.parts)
    (group_restored c.args.parts.now c.push_group.new.parts c.add_call_with_thread_outlined.new.parts c.drop_group.new.parts c.requires.sound _ c.in-Ok.id.rep c.in-Ok.ensures.pushes.only c.in-Ok.ensures.pushes.groups c.in-Err-add_call_with_thread_outlined.ensures.err c.drop_group.ensures.only c.drop_group.ensures.deleted c.in-Ok.ensures.pushes.rep c.drop_group.ensures.table)
