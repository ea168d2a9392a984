use Rattle.std.proofs.Common.{arith, refl}
use Rattle.run_trace.specs.Labels.{count_of, labels_of}
use Rattle.run_trace.proofs.packed.PackedLabels.new.Goals as goal

pub invariant_of-result : goal.invariant_of-result
unfolding count_of
invariant_of-result c = record {
  whole = rw (c.new.ensures.items, c.new-2.ensures.items) refl;
  heads_left = omega (arith, c.new.ensures.len, c.new.ensures.capacity);
  numbers_left = omega (arith, c.new-2.ensures.len, c.new-2.ensures.capacity);
}

pub returns : goal.returns
unfolding labels_of
returns c = rw c.new.ensures.items refl
