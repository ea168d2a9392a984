use Rattle.core_counts.proofs.ResultLemmas.{get-given, has_written, results_seen, room_unseen, same_sound, written_sound}
use Rattle.core_counts.proofs.result_counts.make_room.Goals as goal
use Rattle.core_records.specs.Rooms.{given_in}
use Rattle.core_records.proofs.Core.{ap, is_at, lookup, nat_cmp, refl, seen, sym, ◌∙◌}

pub returns-in-Ok-clause-sound : goal.returns-in-Ok-clause-sound
returns-in-Ok-clause-sound c = written_sound c.args.parts.now c.requires c.make.new.self c.args.call _ c.in-Ok.ensures.made (λ has. refl)

pub returns-in-Ok-clause-seen : goal.returns-in-Ok-clause-seen
returns-in-Ok-clause-seen c = room_unseen c.args.parts.now c.requires c.make.new.self c.args.call _ c.in-Ok.ensures.made refl

pub returns-in-Ok-clause-room : goal.returns-in-Ok-clause-room
returns-in-Ok-clause-room c = has_written c.args.parts.now c.requires c.make.new.self c.args.call _ c.in-Ok.ensures.made refl

pub returns-in-Err-clause-sound : goal.returns-in-Err-clause-sound
returns-in-Err-clause-sound c = same_sound c.args.parts.now c.requires c.make.new.self c.in-Err.ensures.err

pub returns-in-Err-clause-seen : goal.returns-in-Err-clause-seen
unfolding seen
returns-in-Err-clause-seen c = results_seen c.args.parts.now c.requires c.make.new.self (seen c.args.parts.now).core.results (λ q. ap (λ es. given_in (lookup (is_at (nat_cmp q)) es)) c.in-Err.ensures.err ∙ sym (get-given c.args.parts.now.results q))
