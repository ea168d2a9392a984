use Rattle.core_removals.proofs.ThreadLemmas.{apart_placed, placed_there, removed_placed}
use Rattle.core_removals.proofs.thread_removals.remove_other.Goals as goal
use Rattle.core_records.proofs.Core.{ap, inl, IsApart, KeepsBut, lost_thread, Place, place_of, remove_thread, seen, Some, StateView, subst, sym, thread_of, ◌∙◌, ◌≡◌}

pub drop_thread-requires-clause-apart : goal.drop_thread-requires-clause-apart
drop_thread-requires-clause-apart c = subst (λ (v : StateView). IsApart (thread_of v c.args.thread) v.core) (sym c.suspend.ensures.new) (apart_placed _ _ _ _ c.requires.apart)

pub drop_thread-requires-clause-place : goal.drop_thread-requires-clause-place
drop_thread-requires-clause-place c = inl (subst (λ (v : StateView). place_of (thread_of v c.args.thread) v.core ≡ Some Place.Suspended) (sym c.suspend.ensures.new) (placed_there c.args.parts.now c.requires.sound c.args.thread c.requires.live Place.Suspended))

pub returns-clause-new : goal.returns-clause-new
returns-clause-new c =
    record {
      core = c.drop_thread.ensures.new.core ∙ (ap (λ (v : StateView). remove_thread (thread_of v c.args.thread) v.core) c.suspend.ensures.new ∙ removed_placed _ _ _);
      current = c.drop_thread.ensures.new.current ∙ ap (λ (v : StateView). v.current) c.suspend.ensures.new;
      tags = subst (λ (v : StateView). KeepsBut (lost_thread (thread_of v c.args.thread)) v.tags (seen c.drop_thread.new.parts).tags) c.suspend.ensures.new c.drop_thread.ensures.new.tags;
    }
