use Rattle.core_records.proofs.Core.{ap, None, option_map, seen, Some, sym, thread_of, ◌∙◌}
use Rattle.core_queues.proofs.SwitchLemmas.{follower_kept, follower_number, switch_seen, switch_sound}
use Rattle.core_queues.proofs.pushes.set_switch.Goals as goal

pub returns-in-Some-clause-sound : goal.returns-in-Some-clause-sound
returns-in-Some-clause-sound c =
    let g = c.live_thread-found.result in
    switch_sound c.args.parts.now (Some (record { number = g.number; place = c.rep.result; node = g.caller })) c.requires.sound (follower_kept c.args.parts.now c.requires.sound c.in-Some.id g c.live_thread-found.ensures c.rep.result c.rep.ensures)

pub returns-in-Some-clause-new : goal.returns-in-Some-clause-new
returns-in-Some-clause-new c =
    let g = c.live_thread-found.result in
    switch_seen c.args.parts.now (Some (record { number = g.number; place = c.rep.result; node = g.caller })) _
    (follower_number c.args.parts.now c.in-Some.id g c.live_thread-found.ensures ∙ sym (ap (option_map (λ id. thread_of (seen c.args.parts.now) id)) c.in-Some.is))

pub returns-in-None-clause-sound : goal.returns-in-None-clause-sound
returns-in-None-clause-sound c = switch_sound c.args.parts.now None c.requires.sound tt

pub returns-in-None-clause-new : goal.returns-in-None-clause-new
returns-in-None-clause-new c = switch_seen c.args.parts.now None _ (sym (ap (option_map (λ id. thread_of (seen c.args.parts.now) id)) c.in-None.is))
