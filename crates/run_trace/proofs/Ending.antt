-- The last head has its numbers last.
use Rattle.run_trace.specs.Labels.{count_of, label_of, labels_of}
use Rattle.run_trace.specs.declared.kinds.Head.{Head}
use Rattle.std.proofs.Common.{List, [], ap, arith, drop, length, length-drop, refl, subst, suc, take, zero, ℕ, ◌+◌, ◌-◌, ◌≡◌, ◌≤◌, ◌∙◌, ◌∷◌}
use Rattle.std.proofs.lemmas.List.{drop-drop, take_all}
use Rattle.std.specs.List.{last_or, slice_get}
use Rattle.std.specs.Prelude.{None, Option, Some, unwrap_or}
use Rattle.machine_data.specs.declared.label.Label.{Label}

counted_in : (hs : List Head) (h : Head) (i : ℕ) → slice_get hs i ≡ Some h → h.count ≤ count_of hs
unfolding count_of
counted_in [] h i at = absurd (cc)
counted_in (g ∷ hs) h zero at = omega (arith, ap (λ (o : Option Head). (unwrap_or o g).count) at)
counted_in (g ∷ hs) h (suc i) at = omega (arith, counted_in hs h i at)

last_at : (o : Option Label) (hs : List Head) (ns : List ℕ) (h : Head) (i : ℕ) → count_of hs ≡ length ns → i + 1 ≡ length hs → slice_get hs i ≡ Some h →
    last_or o (labels_of hs ns) ≡ Some (label_of h (drop (length ns - h.count) ns))
unfolding count_of labels_of
last_at o [] ns h i e n at = absurd (cc)
last_at o (g ∷ []) ns h zero e n at =
    let is : g ≡ h = ap (λ (o : Option Head). unwrap_or o g) at in
    let all : take g.count ns ≡ ns = take_all g.count ns (omega arith) in
    let whole : length ns - h.count ≡ 0 = omega (arith, ap (λ (k : Head). k.count) is) in
    rw (whole, all) (ap (λ (k : Head). Some (label_of k ns)) is)
last_at o (g ∷ []) ns h (suc i) e n at = absurd (omega arith)
last_at o (g ∷ k ∷ hs) ns h zero e n at = absurd (omega arith)
last_at o (g ∷ k ∷ hs) ns h (suc i) e n at =
    let left : length (drop g.count ns) ≡ length ns - g.count = length-drop g.count ns in
    let rest : count_of (k ∷ hs) ≡ length (drop g.count ns) = omega (arith, left) in
    let few = counted_in (k ∷ hs) h i at in
    let place : g.count + (length (drop g.count ns) - h.count) ≡ length ns - h.count = omega (arith, left, few, rest) in
    let behind = last_at (Some (label_of g (take g.count ns))) (k ∷ hs) (drop g.count ns) h i rest (omega arith) at in
    behind ∙ ap (λ (xs : List ℕ). Some (label_of h xs)) (drop-drop (length (drop g.count ns) - h.count) g.count ns ∙ ap (λ i. drop i ns) place)

pub last_label : (hs : List Head) (ns : List ℕ) (h : Head) → count_of hs ≡ length ns → slice_get hs (length hs - 1) ≡ Some h →
    last_or None (labels_of hs ns) ≡ Some (label_of h (drop (length ns - h.count) ns))
last_label [] ns h e at = absurd (cc)
last_label (g ∷ hs) ns h e at =
    let place : length (g ∷ hs) - 1 ≡ length hs = omega arith in
    last_at None (g ∷ hs) ns h (length hs) e (omega arith) (subst (λ i. slice_get (g ∷ hs) i ≡ Some h) place at)

never : (hs : List Head) (i : ℕ) → i + 1 ≡ length hs → slice_get hs i ≡ None → hs ≡ []
never [] i n at = refl
never (g ∷ hs) zero n at = absurd (cc)
never (g ∷ []) (suc i) n at = absurd (omega arith)
never (g ∷ k ∷ hs) (suc i) n at = absurd (let none = never (k ∷ hs) i (omega arith) at in cc)

pub no_label : (hs : List Head) (ns : List ℕ) → slice_get hs (length hs - 1) ≡ None → last_or None (labels_of hs ns) ≡ None
unfolding labels_of
no_label [] ns e = refl
no_label (g ∷ hs) ns e =
    let place : length (g ∷ hs) - 1 ≡ length hs = omega arith in
    let none = never (g ∷ hs) (length hs) (omega arith) (subst (λ i. slice_get (g ∷ hs) i ≡ None) place e) in
    absurd (cc)
