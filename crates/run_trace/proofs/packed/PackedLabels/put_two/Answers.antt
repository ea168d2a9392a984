use Rattle.std.specs.Prelude.{List, [], ◌++◌, ◌-◌, ◌∷◌}
use Rattle.std.proofs.Common.{ap, arith, length-append, refl}
use Rattle.std.proofs.lemmas.List.{append_assoc}
use Rattle.machine_data.specs.declared.label.Label.{Label}
use Rattle.run_trace.specs.declared.kinds.Head.{Head}
use Rattle.run_trace.specs.Traced.{Traced}
use Rattle.run_trace.proofs.Appending.{count_append, labels_append}
use Rattle.run_trace.proofs.packed.PackedLabels.put_two.Goals as goal

pub push_reserved-requires : goal.push_reserved-requires
push_reserved-requires c = omega (arith, c.requires, ap (λ (t : Traced). t.spare) c.self.view_is, c.self.invariant.numbers_left)

pub push_reserved-requires-2 : goal.push_reserved-requires-2
push_reserved-requires-2 c = omega (arith, c.requires, ap (λ (t : Traced). t.spare) c.self.view_is, c.self.invariant.numbers_left, c.push_reserved.ensures.len, c.push_reserved.ensures.capacity)

pub push_reserved-requires-3 : goal.push_reserved-requires-3
push_reserved-requires-3 c = omega (arith, c.requires, ap (λ (t : Traced). t.spare) c.self.view_is, c.self.invariant.heads_left)

pub overflow_sub-self : goal.overflow_sub-self
overflow_sub-self c = omega (arith, c.requires, ap (λ (t : Traced). t.spare) c.self.view_is)

pub invariant_of-self : goal.invariant_of-self
invariant_of-self c =
    let h : Head = record { kind = c.args.kind; count = 2; small = c.args.small } in
    let spare = ap (λ (t : Traced). t.spare) c.self.view_is in
    record {
      whole = rw (c.push_reserved-3.ensures.items, c.push_reserved-2.ensures.items, c.push_reserved.ensures.items) (rw (append_assoc c.self.inside.numbers.items (c.args.number ∷ []) (c.args.next ∷ [])) (omega (arith, count_append c.self.inside.heads.items h, c.self.invariant.whole, length-append c.self.inside.numbers.items (c.args.number ∷ c.args.next ∷ []))));
      heads_left = omega (arith, c.requires, spare, c.self.invariant.heads_left, c.push_reserved-3.ensures.len, c.push_reserved-3.ensures.capacity);
      numbers_left = omega (arith, c.requires, spare, c.self.invariant.numbers_left, c.push_reserved.ensures.len, c.push_reserved.ensures.capacity, c.push_reserved-2.ensures.len, c.push_reserved-2.ensures.capacity);
    }

pub returns : goal.returns
returns c =
    let h : Head = record { kind = c.args.kind; count = 2; small = c.args.small } in
    rw (c.push_reserved-3.ensures.items, c.push_reserved-2.ensures.items, c.push_reserved.ensures.items, ← c.self.view_is) (rw (append_assoc c.self.inside.numbers.items (c.args.number ∷ []) (c.args.next ∷ [])) (ap (λ (ls : List Label). record { labels = ls; spare = c.self.inside.spare - 1 }) (labels_append c.self.inside.heads.items c.self.inside.numbers.items h (c.args.number ∷ c.args.next ∷ []) c.self.invariant.whole refl)))
