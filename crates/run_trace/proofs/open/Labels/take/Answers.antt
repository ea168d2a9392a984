use Rattle.std.proofs.Common.{◌≡◌, [], ◌∷◌, ◌+◌, ◌∙◌, List, ℕ, ap, sym, arith, length, drop, take, refl}
use Rattle.run_trace.specs.declared.kinds.Head.{Head}
use Rattle.run_trace.specs.Labels.{count_of, labels_of, label_of}
use Rattle.run_trace.proofs.open.Labels.take.Goals as goal

counted : (hs rest : List Head) (h : Head) (ns : List ℕ) → hs ≡ h ∷ rest → count_of hs ≡ length ns → h.count + count_of rest ≡ length ns
unfolding count_of
counted hs rest h ns e f = sym (ap (λ (ks : List Head). count_of ks) e) ∙ f

-- the first label, and those of the heads and numbers that are left
split : (hs rest : List Head) (h : Head) (ns own left : List ℕ) (n : ℕ) → hs ≡ h ∷ rest → n ≡ h.count → own ≡ take n ns → left ≡ drop n ns → labels_of hs ns ≡ label_of h own ∷ labels_of rest left
unfolding labels_of
split hs rest h ns own left n e f g k = rw (e, g, k, f) refl

no_labels : (hs : List Head) (ns : List ℕ) → length hs ≡ 0 → labels_of hs ns ≡ []
unfolding labels_of
no_labels [] ns e = refl
no_labels (h ∷ hs) ns e = absurd (omega arith)

pub returns-in_err-head : goal.returns-in_err-head
returns-in_err-head c =
    let none = no_labels c.self.inside.heads.now c.self.inside.numbers.now c.in_err-head.ensures.cases in
    rw (c.from_residual.ensures, ← c.self.view_is) (none, none)

pub split_at-requires : goal.split_at-requires
split_at-requires c = omega (arith, c.into.ensures, counted c.self.inside.heads.now c.in_ok-head.heads.now c.in_ok-head.head.now c.self.inside.numbers.now c.in_ok-head.ensures.cases.0 c.self.invariant)

pub invariant_of-self : goal.invariant_of-self
invariant_of-self c = omega (arith, c.into.ensures, c.split_at.ensures.back_len, counted c.self.inside.heads.now c.in_ok-head.heads.now c.in_ok-head.head.now c.self.inside.numbers.now c.in_ok-head.ensures.cases.0 c.self.invariant)

pub returns : goal.returns
returns c =
    rw (← c.self.view_is)
    (split c.self.inside.heads.now c.in_ok-head.heads.now c.in_ok-head.head.now c.self.inside.numbers.now _ _ c.into.result c.in_ok-head.ensures.cases.0 c.into.ensures c.split_at.ensures.front c.split_at.ensures.back)
