use Rattle.core_removals.proofs.set_removals.close_set.Goals as goal
use Rattle.core_records.proofs.Core.{ap, KeepsBut, lost_set, remove_set, seen, set_of, StateView, subst, sym, ◌<◌, ◌∙◌}

pub remove_set-requires-clause-live : goal.remove_set-requires-clause-live
remove_set-requires-clause-live c = subst (λ (v : StateView). 0 < set_of v c.args.set) (sym c.free_set_handle.ensures.new) c.requires.live

pub returns-clause-new : goal.returns-clause-new
returns-clause-new c =
    record {
      core = c.remove_set.ensures.new.core ∙ ap (λ (v : StateView). remove_set (set_of v c.args.set) v.core) c.free_set_handle.ensures.new;
      current = c.remove_set.ensures.new.current ∙ ap (λ (v : StateView). v.current) c.free_set_handle.ensures.new;
      tags = subst (λ (v : StateView). KeepsBut (lost_set (set_of v c.args.set)) v.tags (seen c.remove_set.new.parts).tags) c.free_set_handle.ensures.new c.remove_set.ensures.new.tags;
    }
