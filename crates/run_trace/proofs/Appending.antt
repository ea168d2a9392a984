-- A label more behind the others, and the first label before the rest.
use Rattle.std.proofs.Common.{◌≡◌, ℕ, ◌+◌, ◌<◌, ◌≤◌, List, [], ◌∷◌, ◌++◌, length, drop, true, false, refl, sym, ap, arith, length-drop}
use Rattle.std.specs.Prelude.{eqb}
use Rattle.std.proofs.lemmas.List.{take-append-le, drop-append-le, take_all}
use Rattle.run_trace.specs.declared.kinds.Head.{Head}
use Rattle.run_trace.specs.declared.kinds.LabelKind.{LabelKind}
use Rattle.run_trace.specs.declared.kinds.LabelKind.TheVariants as kind
use Rattle.run_trace.specs.Labels.{count_of, label_of, labels_of}
use Rattle.run_trace.specs.Opened.{all, has_first, opened}

none_left : (ns : List ℕ) → length ns ≡ 0 → ns ≡ []
none_left [] e = refl
none_left (n ∷ ns) e = absurd (omega arith)

pub count_append : (hs : List Head) (h : Head) → count_of (hs ++ h ∷ []) ≡ count_of hs + h.count
unfolding count_of
count_append [] h = omega arith
count_append (g ∷ hs) h = omega (arith, count_append hs h)

-- a head more, and its numbers
pub labels_append : (hs : List Head) (ns : List ℕ) (h : Head) (xs : List ℕ) → count_of hs ≡ length ns → h.count ≡ length xs →
    labels_of (hs ++ h ∷ []) (ns ++ xs) ≡ labels_of hs ns ++ label_of h xs ∷ []
unfolding count_of labels_of
labels_append [] ns h xs e f =
    let none = none_left ns (sym e) in
    rw none (ap (λ (ys : List ℕ). label_of h ys ∷ []) (take_all h.count xs (omega arith)))
labels_append (g ∷ hs) ns h xs e f =
    let enough : g.count ≤ length ns = omega arith in
    let rest : count_of hs ≡ length (drop g.count ns) = omega (arith, length-drop g.count ns) in
    rw (take-append-le g.count ns xs enough, drop-append-le g.count ns xs enough, labels_append hs (drop g.count ns) h xs rest f) refl

pub length_labels : (hs : List Head) (ns : List ℕ) → length (labels_of hs ns) ≡ length hs
unfolding labels_of
length_labels [] ns = refl
length_labels (h ∷ hs) ns = omega (arith, length_labels hs (drop h.count ns))

not_large : (n : ℕ) → n < 4294967295 → eqb n 4294967295 ≡ false
not_large n lt = grind arith

-- a first number that fits the head is the first of all numbers
pub all_small : (n : ℕ) (xs : List ℕ) → n < 4294967295 → all n xs ≡ n ∷ xs
all_small n xs lt = rw (not_large n lt) refl

pub opened_first : (k : LabelKind) (s : ℕ) (xs ys : List ℕ) → has_first k ≡ true → opened k s xs ys ≡ opened k 0 [] ys
opened_first (kind.Loop k) s xs ys h = refl
opened_first (kind.Take m k) s xs ys h = refl
opened_first (kind.Own m k) s xs ys h = refl
opened_first (kind.Data k) s xs ys h = refl
opened_first (kind.Task k) s xs ys h = refl
opened_first (kind.Set k) s xs ys h = refl
opened_first (kind.Call k) s xs ys h = refl
opened_first (kind.Thread k) s xs ys h = refl
opened_first (kind.Main k) s xs ys h = grind arith
opened_first (kind.Given m x) s xs ys h = grind arith
opened_first (kind.Handle k) s xs ys h = grind arith
