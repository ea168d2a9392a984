-- Where no handle is given the parts are those that were.
use Rattle.core_records.proofs.Core.{ap₂, Counter, Global, List, parts_of, set, set-slice_get, slice_get, Some, sym, Vec, ℕ, ◌∙◌, ◌≡◌}
use Rattle.core_records.specs.declared.{instance_records.InstanceRecord.InstanceRecord, parts.CoreParts.CoreParts}

module _ (a : CoreParts) (i : ℕ) (r : InstanceRecord) (at : Some r ≡ slice_get a.instances.items i) (v : Vec InstanceRecord Global) (is : v.items ≡ set a.instances.items i r) (c : Counter) (same : c ≡ a.counter) where
  pub nothing_parts : parts_of (record a { instances = v; counter = c }) ≡ parts_of a
  nothing_parts = ap₂ (λ (xs : List InstanceRecord) (k : Counter). record (parts_of a) { instances = xs; counter = k }) (is ∙ set-slice_get a.instances.items i r (sym at)) same
