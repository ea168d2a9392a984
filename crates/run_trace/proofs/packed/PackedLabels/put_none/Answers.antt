use Rattle.std.specs.Prelude.{List, [], ℕ, ◌++◌, ◌-◌, ◌∷◌}
use Rattle.std.proofs.Common.{ap, arith, length-append, refl, sym, ◌∙◌}
use Rattle.std.proofs.lemmas.List.{append-nil}
use Rattle.machine_data.specs.declared.label.Label.{Label}
use Rattle.run_trace.specs.declared.kinds.Head.{Head}
use Rattle.run_trace.specs.Labels.{labels_of}
use Rattle.run_trace.specs.Traced.{Traced}
use Rattle.run_trace.proofs.Appending.{count_append, labels_append}
use Rattle.run_trace.proofs.packed.PackedLabels.put_none.Goals as goal

pub push_reserved-requires : goal.push_reserved-requires
push_reserved-requires c = omega (arith, c.requires, ap (λ (t : Traced). t.spare) c.self.view_is, c.self.invariant.heads_left)

pub overflow_sub-self : goal.overflow_sub-self
overflow_sub-self c = omega (arith, c.requires, ap (λ (t : Traced). t.spare) c.self.view_is)

pub invariant_of-self : goal.invariant_of-self
invariant_of-self c =
    let h : Head = record { kind = c.args.kind; count = 0; small = c.args.small } in
    let spare = ap (λ (t : Traced). t.spare) c.self.view_is in
    record {
      whole = rw (c.push_reserved.ensures.items) (omega (arith, count_append c.self.inside.heads.items h, c.self.invariant.whole));
      heads_left = omega (arith, c.requires, spare, c.self.invariant.heads_left, c.push_reserved.ensures.len, c.push_reserved.ensures.capacity);
      numbers_left = omega (arith, c.requires, spare, c.self.invariant.numbers_left);
    }

pub returns : goal.returns
returns c =
    let h : Head = record { kind = c.args.kind; count = 0; small = c.args.small } in
    rw (c.push_reserved.ensures.items, ← c.self.view_is) (ap (λ (ls : List Label). record { labels = ls; spare = c.self.inside.spare - 1 }) (ap (λ (ns : List ℕ). labels_of (c.self.inside.heads.items ++ h ∷ []) ns) (sym (append-nil c.self.inside.numbers.items))
    ∙ labels_append c.self.inside.heads.items c.self.inside.numbers.items h [] c.self.invariant.whole refl))
