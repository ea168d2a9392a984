use Rattle.core_fields.proofs.NameLemmas.{thread_known}
use Rattle.core_fields.proofs.named_handles.write_handle.Goals as goal
use Rattle.core_records.proofs.Core.{ap, refl, same_Some, seen, set_thread_handle, Some, sym, thread_at, ℕ, ◌∙◌}
use Rattle.core_records.proofs.HomeLemmas.{thread_instance}
use Rattle.core_records.proofs.ReadLemmas.{thread_named}
use Rattle.core_records.proofs.WriteLemmas.{thread_put_sound, thread_put_writes}

pub get_mut_unchecked-requires : goal.get_mut_unchecked-requires
get_mut_unchecked-requires c = thread_known c.args.parts.now c.args.thread c.requires.live

pub returns-clause-sound : goal.returns-clause-sound
unfolding seen
returns-clause-sound c =
    let a = c.args.parts.now in
    let g = c.get_mut_unchecked.result.now in
    thread_put_sound a c.requires.sound c.args.thread g c.get_mut_unchecked.ensures.value (record g { thread = record g.thread { handle = Some c.args.handle } }) refl
    (λ k has.
    ap (λ (h : ℕ). thread_at g.instance h (seen a).core) (sym (same_Some c.args.handle k has))
    ∙ (ap (λ (i : ℕ). thread_at i c.args.handle (seen a).core) (thread_instance a c.requires.sound c.args.thread g c.get_mut_unchecked.ensures.value)
    ∙ (c.requires.owns ∙ ap (λ (n : ℕ). Some n) (sym (thread_named a c.args.thread g c.get_mut_unchecked.ensures.value)))))

pub returns-clause-new : goal.returns-clause-new
unfolding set_thread_handle
returns-clause-new c =
    let g = c.get_mut_unchecked.result.now in
    thread_put_writes c.args.parts.now c.requires.sound c.args.thread g c.get_mut_unchecked.ensures.value (record g { thread = record g.thread { handle = Some c.args.handle } }) refl _ refl
