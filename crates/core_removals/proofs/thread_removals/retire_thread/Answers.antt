use Rattle.core_removals.proofs.ThreadHandleLemmas.{gone_removed, names_removed, owned_by, retired}
use Rattle.core_removals.proofs.thread_removals.retire_thread.Goals as goal
use Rattle.core_records.proofs.Core.{ap, Core, free_thread_handle, get, IsSome, KeepsBut, lost_thread, Option, refl, same_Some, seen, StateView, subst, sym, Thread, thread_at, thread_of, ℕ, ◌∙◌, ◌≡◌}
use Rattle.std.specs.Prelude.{option_and_then}

pub free_thread_handle-requires-clause-names : goal.free_thread_handle-requires-clause-names
free_thread_handle-requires-clause-names c =
    let g = c.thread_there-found.result.now in
    subst (λ (s : Core). IsSome (thread_at g.instance c.in-Some.handle s)) (sym c.remove_thread.ensures.new.core)
    (subst (λ (o : Option ℕ). IsSome o) (sym (names_removed _ _ _ _ ∙ owned_by c.args.parts.now c.requires.sound c.args.thread g c.thread_there-found.ensures.item c.in-Some.handle c.in-Some.is)) refl)

pub free_thread_handle-requires-clause-gone : goal.free_thread_handle-requires-clause-gone
free_thread_handle-requires-clause-gone c n named =
    let g = c.thread_there-found.result.now in
    let is : n ≡ g.number = same_Some n g.number (sym named ∙ (ap (thread_at g.instance c.in-Some.handle) c.remove_thread.ensures.new.core ∙ (names_removed _ _ _ _ ∙ owned_by c.args.parts.now c.requires.sound c.args.thread g c.thread_there-found.ensures.item c.in-Some.handle c.in-Some.is))) in
    ap (λ (s : Core). get s.threads n) c.remove_thread.ensures.new.core ∙ (ap (get _) (is ∙ c.thread_there-found.ensures.number) ∙ gone_removed 0 0 _ _)

pub returns-in-Some-clause-new : goal.returns-in-Some-clause-new
returns-in-Some-clause-new c =
    record {
      core =
          let g = c.thread_there-found.result.now in
          ap (λ (v : StateView). v.core) c.free_thread_handle.ensures.new ∙ (ap (free_thread_handle g.instance c.in-Some.handle) c.remove_thread.ensures.new.core
          ∙ retired g.instance c.in-Some.handle _ _ c.thread_there-found.ensures.instance (sym c.in-Some.is ∙ ap (option_and_then (λ (t : Thread). t.handle)) c.thread_there-found.ensures.is));
      current = ap (λ (v : StateView). v.current) c.free_thread_handle.ensures.new ∙ c.remove_thread.ensures.new.current;
      tags = subst (λ (v : StateView). KeepsBut (lost_thread (thread_of (seen c.args.parts.now) c.args.thread)) (seen c.args.parts.now).tags v.tags) (sym c.free_thread_handle.ensures.new) c.remove_thread.ensures.new.tags;
    }
