use Rattle.core_records.proofs.Core.{ap, AtPlace, held_why, Mark, number_in, on_core, option_and_then, option_map, parts_of, Place, place_target, record_at, refl, same_Some, seen, set_place, subst, sym, Table, Thread, thread_key, thread_of, Why, ◌∙◌}
use Rattle.core_records.specs.declared.{single.Single.Single, thread_records.GuestThread.GuestThread}
use Rattle.core_places.proofs.ThreadLemmas.{numbers_put}
use Rattle.core_places.proofs.place_states.unhold.Goals as goal
use Rattle.core_records.proofs.HomeLemmas.{place_bare, thread_home}

pub put_counted-requires-clause-place : goal.put_counted-requires-clause-place
put_counted-requires-clause-place c =
    let a = c.args.parts.now in
    let g = c.in-Some.found.now in
    subst (λ p. AtPlace (parts_of a) g.state_target (place_target p)) c.in-Held.is (place_bare a _ _ (thread_home a c.requires.sound c.args.thread g c.in-Some.ensures.item).place)

pub returns-clause-new : goal.returns-clause-new
returns-clause-new c w is =
    let a = c.args.parts.now in
    let read = ap (λ o. option_and_then held_why (option_map (λ (x : Thread). x.place) o)) c.in-Some.ensures.is in
    c.put_counted.ensures.new
    ∙ ap (λ (v : Why). on_core (set_place (thread_of (seen a) c.args.thread) (Place.Ready Mark.High v)) (seen a)) (sym (same_Some w c.in-Held.why (sym is ∙ (sym read ∙ ap held_why c.in-Held.is))))

pub returns-clause-numbers : goal.returns-clause-numbers
returns-clause-numbers c r =
    ap (λ (t : Table (Single GuestThread)). number_in (record_at thread_key t.places r)) (c.put_counted.ensures.threads c.in-Some.found.now c.in-Some.ensures.item)
    ∙ numbers_put c.args.parts.now c.requires.sound c.args.thread c.in-Some.found.now c.in-Some.ensures.item _ refl r

pub returns-clause-left : goal.returns-clause-left
returns-clause-left c g is = c.put_counted.ensures.left g is refl
