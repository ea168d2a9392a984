use Rattle.std.proofs.Common.{refl, ◌∙◌}
use Rattle.task_table.proofs.SoundLemmas.{IsSoundTable-entry_put, shown-entry_put, entry_read}
use Rattle.task_table.proofs.table.ResourceTable.entry_mut.Goals as goal

pub invariant_of-self-lent : goal.invariant_of-self-lent
invariant_of-self-lent g c w =
    IsSoundTable-entry_put c.self.inside.places.items c.self.inside.free.items c.self.inside.given c.self.inside.max_capacity c.args.self.now c.args.rep c.index_mut.result.now
    c.self.view_is c.requires c.index_mut.ensures.value _ w c.self.invariant

pub returns : goal.returns
returns g c = (
  (refl, λ w. shown-entry_put c.self.inside.places.items c.self.inside.free.items c.self.inside.given c.self.inside.max_capacity c.args.self.now c.args.rep c.index_mut.result.now c.self.view_is c.requires c.index_mut.ensures.value w),
  record {
    lends = tt;
    value = entry_read c.self.inside.places.items c.self.inside.free.items c.self.inside.given c.self.inside.max_capacity c.args.self.now c.args.rep c.index_mut.result.now c.self.view_is c.requires c.index_mut.ensures.value ∙ c.entry_mut.ensures.value;
  },
)
