use Rattle.core_counts.proofs.ResultLemmas.{given_wanted, lives_in, lives_wanted, nothing_taken, result_taken, written_sound}
use Rattle.core_counts.proofs.result_counts.take_result.Goals as goal
use Rattle.core_records.specs.Rooms.{wanted}
use Rattle.core_records.proofs.Core.{ap, None, refl, sym, ◌∙◌}

pub returns-in-Some-clause-sound : goal.returns-in-Some-clause-sound
returns-in-Some-clause-sound c =
    let room = record c.in-Some.room { given = None } in
    written_sound c.args.parts.now c.requires c.write.new.self c.args.call (wanted room) c.write.ensures (λ has. lives_wanted room (ap lives_in c.in-Some.ensures ∙ has))

pub returns-in-Some-clause-new : goal.returns-in-Some-clause-new
returns-in-Some-clause-new c =
    let room = record c.in-Some.room { given = None } in
    result_taken c.args.parts.now c.requires c.write.new.self c.args.call (wanted room) c.write.ensures (given_wanted room)

pub returns-in_default-clause-new : goal.returns-in_default-clause-new
returns-in_default-clause-new c = nothing_taken c.args.parts.now c.requires c.args.parts.now.results c.args.call refl (sym c.in_default.ensures)
