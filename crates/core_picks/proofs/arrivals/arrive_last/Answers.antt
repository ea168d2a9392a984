use Rattle.core_picks.proofs.ArriveLemmas.{arrives, counted_sound}
use Rattle.core_picks.proofs.ComesLemmas.{comes_seen, comes_sound, last_key, may_rekey, rekeyed}
use Rattle.core_picks.proofs.arrivals.arrive_last.Goals as goal
use Rattle.core_places.proofs.PlacedLemmas.{node_made}
use Rattle.core_places.proofs.ThreadLemmas.{thread_gone}
use Rattle.core_primitives.specs.StateView.{on_core, thread_of}
use Rattle.core_records.proofs.Core.{IsSoundCore, refl, seen, subst, sym, Table, ◌≡◌}
use Rattle.core_records.specs.declared.{single.Single.Single, thread_records.GuestThread.GuestThread}
use Rattle.machine_data.specs.Write.{arrive}

pub thread-requires : goal.thread-requires
thread-requires c = counted_sound c.args.parts.now c.requires.sound c.later-parts.result

pub rekey-requires-clause-made : goal.rekey-requires-clause-made
rekey-requires-clause-made c =
    let a = c.args.parts.now in
    let b = record a { arrivals = c.later-parts.result } in
    node_made b (counted_sound a c.requires.sound c.later-parts.result) c.args.thread c.in-Some.found.now c.in-Some.ensures.item c.in-Some.found.now refl refl

pub rekey-requires-clause-live : goal.rekey-requires-clause-live
rekey-requires-clause-live c =
    let a = c.args.parts.now in
    let b = record a { arrivals = c.later-parts.result } in
    may_rekey b (counted_sound a c.requires.sound c.later-parts.result) c.args.thread c.in-Some.found.now c.in-Some.ensures.item a.arrivals

pub returns-in-Some-clause-sound : goal.returns-in-Some-clause-sound
returns-in-Some-clause-sound c =
    let a = c.args.parts.now in
    let b = record a { arrivals = c.later-parts.result } in
    let sound = counted_sound a c.requires.sound c.later-parts.result in
    let g = c.in-Some.found.now in
    let item = c.in-Some.ensures.item in
    let places = c.rekey.new.places in
    subst (λ (t : Table (Single GuestThread)). IsSoundCore (record b { threads = t; places = places })) (sym (c.write_arrival.ensures g item))
    (comes_sound b sound c.args.thread g item a.arrivals places (rekeyed b sound c.args.thread g item a.arrivals _ (last_key b sound c.args.thread g item a.arrivals c.requires.second _ c.rep.ensures) places c.rekey.ensures))

pub returns-in-Some-clause-new : goal.returns-in-Some-clause-new
returns-in-Some-clause-new c =
    let a = c.args.parts.now in
    let b = record a { arrivals = c.later-parts.result } in
    let sound = counted_sound a c.requires.sound c.later-parts.result in
    let g = c.in-Some.found.now in
    let item = c.in-Some.ensures.item in
    let places = c.rekey.new.places in
    subst (λ (t : Table (Single GuestThread)). seen (record b { threads = t; places = places }) ≡ on_core (arrive (thread_of (seen a) c.args.thread)) (seen a)) (sym (c.write_arrival.ensures g item))
    (arrives a c.requires.sound c.later-parts.result c.args.thread c.requires.second c.later-parts.ensures _ (comes_seen b sound c.args.thread g item a.arrivals places (λ t. record t { came = a.arrivals }) refl))

pub returns-in_default-clause-sound : goal.returns-in_default-clause-sound
returns-in_default-clause-sound c = counted_sound c.args.parts.now c.requires.sound c.later-parts.result

pub returns-in_default-clause-new : goal.returns-in_default-clause-new
returns-in_default-clause-new c =
    let a = c.args.parts.now in
    arrives a c.requires.sound c.later-parts.result c.args.thread c.requires.second c.later-parts.ensures _
    (thread_gone (seen (record a { arrivals = c.later-parts.result })) _ c.in_default.ensures.is (λ t. record t { came = a.arrivals }))
