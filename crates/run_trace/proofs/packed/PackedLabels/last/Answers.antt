use Rattle.run_trace.proofs.Ending.{last_label, no_label}
use Rattle.run_trace.specs.Labels.{label_of}
use Rattle.run_trace.specs.declared.kinds.Head.{Head}
use Rattle.std.proofs.Common.{List, None, Some, ap, ap₂, arith, drop, length, subst, sym, ℕ, ◌-◌, ◌≡◌, ◌∙◌}
use Rattle.std.specs.List.{slice_get}
use Rattle.run_trace.proofs.packed.PackedLabels.last.Goals as goal

pub returns-in_err-head : goal.returns-in_err-head
returns-in_err-head c =
    let hs = c.self.inside.heads.items in
    let at = subst (λ (ks : List Head). slice_get ks (length ks - 1) ≡ None) c.deref.ensures.value (sym c.in_err-head.ensures.value) in
    rw (← c.self.view_is) (c.from_residual.ensures ∙ sym (no_label hs c.self.inside.numbers.items at))

pub returns : goal.returns
returns c =
    let hs = c.self.inside.heads.items in
    let ns = c.self.inside.numbers.items in
    let h = c.in_ok-head.head.now in
    let at = subst (λ (ks : List Head). slice_get ks (length ks - 1) ≡ Some h) c.deref.ensures.value (sym c.in_ok-head.ensures.value) in
    let from : c.saturating_sub-from.result ≡ length ns - h.count = omega (arith, c.saturating_sub-from.ensures, c.len.ensures, c.into.ensures, c.deref-2.ensures.len, ap length c.deref-2.ensures.value) in
    let own : c.split_at.result.1.now ≡ drop (length ns - h.count) ns = c.split_at.ensures.back ∙ ap₂ (λ i (xs : List ℕ). drop i xs) from c.deref-2.ensures.value in
    rw (← c.self.view_is)
    (ap (λ l. Some l) (c.open.ensures ∙ ap (λ (xs : List ℕ). label_of h xs) own) ∙ sym (last_label hs ns h c.self.invariant.whole at))
