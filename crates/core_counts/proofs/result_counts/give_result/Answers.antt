use Rattle.core_counts.proofs.ResultLemmas.{given_wanted, lives_in, lives_wanted, no_room, result_given, written_sound}
use Rattle.core_counts.proofs.result_counts.give_result.Goals as goal
use Rattle.core_records.specs.Rooms.{wanted}
use Rattle.core_records.proofs.Core.{ap, give_result, on_core, seen, Some, ◌∙◌}

pub unreachable-requires : goal.unreachable-requires
unreachable-requires c = no_room c.args.parts.now c.requires.sound c.args.call c.in-Some.found.now c.in-Some.ensures.item c.requires.main c.in-None-room.ensures

pub returns-clause-sound : goal.returns-clause-sound
returns-clause-sound c =
    let room = record c.in-Some-room.room { given = Some c.args.value } in
    written_sound c.args.parts.now c.requires.sound c.write.new.self c.in-Some.found.now.number (wanted room) c.write.ensures (λ has. lives_wanted room (ap lives_in c.in-Some-room.ensures ∙ has))

pub returns-clause-new : goal.returns-clause-new
returns-clause-new c =
    let room = record c.in-Some-room.room { given = Some c.args.value } in
    result_given c.args.parts.now c.requires.sound c.write.new.self c.in-Some.found.now.number (wanted room) c.write.ensures c.args.value (given_wanted room)
    ∙ ap (λ k. on_core (give_result k c.args.value) (seen c.args.parts.now)) c.in-Some.ensures.number
