use Rattle.core_records.proofs.OpeningLemmas.{opening_shown, opening_sound}
use Rattle.core_records.proofs.parts.CoreParts.new.Goals as goal
use Rattle.std.specs.Prelude.{vec_capacity}
use Rattle.core_records.proofs.Core.{IsSoundCore, seen}

pub returns-clause-sound : goal.returns-clause-sound
unfolding IsSoundCore
returns-clause-sound c = rw (c.new.ensures.empty, c.new-2.ensures.empty, c.new-3.ensures.empty, c.new-4.ensures.empty, c.new-5.ensures.empty, c.new-6.ensures.items, c.new-7.ensures, c.new-8.ensures, c.new-9.ensures, c.new-10.ensures, c.new-11.ensures, c.new-12.ensures, c.new-13.ensures, c.new-14.ensures, c.new-15.ensures, c.new-16.ensures.items, c.new-17.ensures, c.new-18.ensures.items) (opening_sound (vec_capacity c.new-18.result))

pub returns-clause-seen : goal.returns-clause-seen
unfolding seen
returns-clause-seen c = rw (c.new.ensures.empty, c.new-2.ensures.empty, c.new-3.ensures.empty, c.new-4.ensures.empty, c.new-5.ensures.empty, c.new-6.ensures.items, c.new-7.ensures, c.new-15.ensures, c.new-16.ensures.items, c.new-17.ensures) (opening_shown (vec_capacity c.new-18.result))
