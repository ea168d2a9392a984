use Rattle.core_counts.proofs.ResultLemmas.{closed_sound, given_wanted, room_unseen}
use Rattle.core_counts.proofs.result_counts.close_room.Goals as goal
use Rattle.core_records.specs.Rooms.{given_in, wanted}
use Rattle.core_records.proofs.Core.{ap, false, ◌∙◌}

pub returns-in-Some-clause-sound : goal.returns-in-Some-clause-sound
returns-in-Some-clause-sound c = closed_sound c.args.parts.now c.requires.sound c.write.new.self c.args.call (wanted (record c.in-Some.room { lives = false })) c.write.ensures c.requires.gone

pub returns-in-Some-clause-seen : goal.returns-in-Some-clause-seen
returns-in-Some-clause-seen c =
    let room = record c.in-Some.room { lives = false } in
    room_unseen c.args.parts.now c.requires.sound c.write.new.self c.args.call (wanted room) c.write.ensures (given_wanted room ∙ ap given_in c.in-Some.ensures)
