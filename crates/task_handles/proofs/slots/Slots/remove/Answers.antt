use Rattle.std.proofs.Common.{arith}
use Rattle.task_handles.proofs.StepLemmas.{free_place, free_sound, free_shown}
use Rattle.task_handles.proofs.slots.Slots.remove.Goals as goal

pub overflow_sub-handle : goal.overflow_sub-handle
overflow_sub-handle g c = omega (arith, free_place _ _ _ c.args.handle _ c.self.view_is c.self.invariant c.requires)

pub index_mut-requires : goal.index_mut-requires
index_mut-requires g c = omega (arith, free_place _ _ _ c.args.handle _ c.self.view_is c.self.invariant c.requires)

pub invariant_of-self : goal.invariant_of-self
invariant_of-self g c = free_sound _ _ _ c.args.handle _ c.self.view_is c.self.invariant c.requires

pub returns : goal.returns
returns g c = free_shown _ _ _ c.args.handle _ c.self.view_is c.self.invariant c.requires
