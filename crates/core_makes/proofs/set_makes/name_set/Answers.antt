use Rattle.core_makes.proofs.RestoreLemmas.{image_restored, sound_restored}
use Rattle.core_makes.proofs.UndoLemmas.{set_restored}
use Rattle.core_makes.proofs.set_makes.name_set.Goals as goal
use Rattle.core_records.proofs.Core.{ap, ap₂, AtPlace, Core, give_handle, IsSoundCore, Keeps, Named, parts_of, seen, set_of, SetOf, StateView, subst, sym, ℕ, ◌∙◌}
use Rattle.core_records.proofs.HomeLemmas.{place_in_bare, set_at_place}

pub insert_handle-requires-clause-stands : goal.insert_handle-requires-clause-stands
unfolding seen
insert_handle-requires-clause-stands c =
    let b = c.push_set.new.parts in
    place_in_bare b c.in-Ok.id.rep (SetOf c.args.set.number)
    (subst (λ (n : ℕ). AtPlace (parts_of b) c.in-Ok.id.rep (SetOf n)) (c.in-Ok.ensures.set ∙ sym c.requires.next.number) (set_at_place b c.in-Ok.ensures.sound c.in-Ok.id))

pub returns-in-Ok-insert_handle-clause-new : goal.returns-in-Ok-insert_handle-clause-new
unfolding seen
returns-in-Ok-insert_handle-clause-new c = (
  ap (λ (v : StateView). set_of v c.in-Ok.id) c.in-Ok-insert_handle.ensures.new ∙ c.in-Ok.ensures.set,
  record {
    core =
        ap (λ (v : StateView). v.core) c.in-Ok-insert_handle.ensures.new
        ∙ ap₂ (λ (n : ℕ) (s : Core). give_handle c.args.instance (Named.Set n) s) c.requires.next.number c.in-Ok.ensures.new.core;
    current = ap (λ (v : StateView). v.current) c.in-Ok-insert_handle.ensures.new ∙ c.in-Ok.ensures.new.current;
    tags = subst (λ (v : StateView). Keeps (seen c.args.parts.now).tags v.tags) (sym c.in-Ok-insert_handle.ensures.new) c.in-Ok.ensures.new.tags;
  },
)

pub returns-in-Err-insert_handle-clause-sound : goal.returns-in-Err-insert_handle-clause-sound
unfolding IsSoundCore
returns-in-Err-insert_handle-clause-sound c = sound_restored (parts_of c.args.parts.now) (parts_of c.take_back.new.parts) (set_restored c.args.parts.now c.push_set.new.parts c.insert_handle.new.parts c.take_back.new.parts c.requires.sound c.in-Ok.ensures.sound c.args.set c.in-Ok.id.rep c.in-Ok.ensures.pushes.only c.in-Ok.ensures.pushes.sets c.in-Err-insert_handle.ensures.same c.take_back.ensures.only c.take_back.ensures.deleted c.in-Ok.ensures.pushes.rep c.take_back.ensures.table) c.requires.sound

pub returns-in-Err-insert_handle-clause-new : goal.returns-in-Err-insert_handle-clause-new
unfolding seen
returns-in-Err-insert_handle-clause-new c = image_restored (parts_of c.args.parts.now) (parts_of c.take_back.new.parts) (set_restored c.args.parts.now c.push_set.new.parts c.insert_handle.new.parts c.take_back.new.parts c.requires.sound c.in-Ok.ensures.sound c.args.set c.in-Ok.id.rep c.in-Ok.ensures.pushes.only c.in-Ok.ensures.pushes.sets c.in-Err-insert_handle.ensures.same c.take_back.ensures.only c.take_back.ensures.deleted c.in-Ok.ensures.pushes.rep c.take_back.ensures.table)
