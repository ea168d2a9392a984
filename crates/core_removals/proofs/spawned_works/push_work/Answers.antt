use Rattle.core_records.proofs.Core.{ap, ap₂, cond, option_map, refl, seen, sym, Table, ℕ, ◌+◌, ◌∙◌}
use Rattle.core_records.specs.declared.{call_records.TaskGroup.TaskGroup, single.Single.Single}
use Rattle.core_removals.proofs.WorkAddLemmas.{groups_few, made_core, made_named, made_sound, made_tags, no_entry_yet, raises_of}
use Rattle.core_makes.proofs.SetAddLemmas.{used_few}
use Rattle.core_removals.proofs.spawned_works.push_work.Goals as goal

pub raise_group-requires-clause-few : goal.raise_group-requires-clause-few
raise_group-requires-clause-few c = groups_few c.args.parts.now c.requires.sound

pub counted-parts-requires : goal.counted-parts-requires
counted-parts-requires c = λ some. used_few c.args.parts.now c.requires.sound (c.requires.room (sym c.is_some-called.ensures ∙ some))

pub returns-in-Ok-clause-sound : goal.returns-in-Ok-clause-sound
returns-in-Ok-clause-sound c = made_sound c.args.parts.now c.requires.sound c.args.work c.requires.next.next c.requires.nodes.loose c.requires.nodes.high c.requires.nodes.live c.raise_group.new.groups (option_map (λ g. g.0) c.args.group) (raises_of c.args.parts.now.groups c.args.group c.args.work.work.group c.requires.next.named c.requires.next.here c.raise_group.new.groups c.raise_group.ensures) c.counted-parts.result (c.counted-parts.ensures ∙ ap (λ b. c.args.parts.now.kept.used + cond b 1 0) c.is_some-called.ensures) c.push.new.self c.in-Ok.ensures.pushed c.in-Ok.ensures.sound

pub returns-in-Ok-clause-new : goal.returns-in-Ok-clause-new
unfolding seen
returns-in-Ok-clause-new c =
    record {
      core = made_core c.args.parts.now c.requires.sound c.args.work c.requires.next.next c.requires.nodes.loose c.requires.nodes.high c.requires.nodes.live c.raise_group.new.groups (option_map (λ g. g.0) c.args.group) (raises_of c.args.parts.now.groups c.args.group c.args.work.work.group c.requires.next.named c.requires.next.here c.raise_group.new.groups c.raise_group.ensures) c.counted-parts.result (c.counted-parts.ensures ∙ ap (λ b. c.args.parts.now.kept.used + cond b 1 0) c.is_some-called.ensures) c.push.new.self c.in-Ok.ensures.pushed;
      current = refl;
      tags = made_tags c.args.parts.now c.requires.sound c.args.work c.requires.next.next c.requires.nodes.loose c.requires.nodes.high c.requires.nodes.live c.raise_group.new.groups (option_map (λ g. g.0) c.args.group) (raises_of c.args.parts.now.groups c.args.group c.args.work.work.group c.requires.next.named c.requires.next.here c.raise_group.new.groups c.raise_group.ensures) c.counted-parts.result (c.counted-parts.ensures ∙ ap (λ b. c.args.parts.now.kept.used + cond b 1 0) c.is_some-called.ensures) c.push.new.self c.in-Ok.ensures.pushed;
    }

pub returns-in-Ok-clause-names : goal.returns-in-Ok-clause-names
unfolding seen
returns-in-Ok-clause-names c = record {
  named = made_named c.args.parts.now c.requires.sound c.args.work c.requires.next.next c.requires.nodes.loose c.requires.nodes.high c.requires.nodes.live c.raise_group.new.groups (option_map (λ g. g.0) c.args.group) (raises_of c.args.parts.now.groups c.args.group c.args.work.work.group c.requires.next.named c.requires.next.here c.raise_group.new.groups c.raise_group.ensures) c.counted-parts.result (c.counted-parts.ensures ∙ ap (λ b. c.args.parts.now.kept.used + cond b 1 0) c.is_some-called.ensures) c.push.new.self c.in-Ok.ensures.pushed c.in-Ok.id c.in-Ok.ensures.rep c.in-Ok.ensures.serial;
  unqueued = no_entry_yet c.args.parts.now c.requires.sound;
}

pub returns-in-Ok-clause-pushes : goal.returns-in-Ok-clause-pushes
returns-in-Ok-clause-pushes c = record { works = c.in-Ok.ensures.pushed; at = c.in-Ok.ensures.rep; only = ap₂ (λ (t : Table (Single TaskGroup)) (u : ℕ). let a = c.args.parts.now in record a { works = c.push.new.self; groups = t; made = record a.made { works = a.made.works + 1 }; kept = record a.kept { used = u } }) c.raise_group.ensures (c.counted-parts.ensures ∙ ap (λ b. c.args.parts.now.kept.used + cond b 1 0) c.is_some-called.ensures) }
