-- An order is made one thread after another.
use Rattle.choice_search.specs.Numbered.{ordered}
use Rattle.std.proofs.Common.{ap, append_assoc, arith, get_or, refl, sym, ◌∙◌}
use Rattle.std.proofs.Math.Nat.{mod-lt}
use Rattle.std.proofs.lemmas.List.{append-nil}
use Rattle.std.proofs.lemmas.List.Edits.{length-remove}
use Rattle.std.specs.Prelude.{List, [], length, remove, slice_index, slice_index_or, suc, zero, ℕ, ◌%◌, ◌++◌, ◌/◌, ◌<◌, ◌∷◌, ◌≡◌, ◌≤◌}

default_free : (ns : List ℕ) (i d e : ℕ) → i < length ns → get_or ns i d ≡ get_or ns i e
default_free [] i d e inside = absurd (omega (arith, inside))
default_free (n ∷ ns) zero d e inside = refl
default_free (n ∷ ns) (suc i) d e inside = default_free ns i d e (omega (arith, inside))

-- one more thread was taken out
pub order_next : (ns ms xs ys all : List ℕ) (count k v : ℕ) → count ≡ length ns → 0 < count → v ≡ slice_index_or ns (k % count) v → ms ≡ remove ns (k % count) → ys ≡ xs ++ v ∷ [] → xs ++ ordered (length ns) ns k ≡ all →
    ys ++ ordered (length ms) ms (k / count) ≡ all
unfolding ordered
order_next [] ms xs ys all count k v size some value items pushed so_far = absurd (omega (arith, size, some))
order_next (n ∷ rest) ms xs ys all count k v size some value items pushed so_far = by count size value items
  where
    by : (count : ℕ) → count ≡ suc (length rest) → v ≡ slice_index_or (n ∷ rest) (k % count) v → ms ≡ remove (n ∷ rest) (k % count) → ys ++ ordered (length ms) ms (k / count) ≡ all
    by count size value items =
        let m = length rest in
        let inside : k % suc m < suc m = mod-lt k (omega arith) in
        let fewer = length-remove (n ∷ rest) (k % suc m) inside in
        let there : ms ≡ remove (n ∷ rest) (k % suc m) = items ∙ ap (λ (c : ℕ). remove (n ∷ rest) (k % c)) size in
        let long : length ms ≡ length (remove (n ∷ rest) (k % suc m)) = ap (λ (ks : List ℕ). length ks) there in
        let left : length ms ≡ m = omega (arith, fewer, long) in
        let first : v ≡ get_or (n ∷ rest) (k % suc m) v = value ∙ ap (λ (c : ℕ). get_or (n ∷ rest) (k % c) v) size in
        let same : v ≡ slice_index (n ∷ rest) (k % suc m) = first ∙ default_free (n ∷ rest) (k % suc m) v 0 inside in
        ap (λ (c : ℕ). ys ++ ordered (length ms) ms (k / c)) size
        ∙ (ap (λ (l : ℕ). ys ++ ordered l ms (k / suc m)) left
        ∙ (ap (λ (ks : List ℕ). ys ++ ordered m ks (k / suc m)) there
        ∙ (ap (λ (ks : List ℕ). ks ++ ordered m (remove (n ∷ rest) (k % suc m)) (k / suc m)) pushed
        ∙ (append_assoc xs (v ∷ []) (ordered m (remove (n ∷ rest) (k % suc m)) (k / suc m))
        ∙ (ap (λ (w : ℕ). xs ++ w ∷ ordered m (remove (n ∷ rest) (k % suc m)) (k / suc m)) same ∙ so_far)))))

-- none is left
pub order_end : (ns xs all : List ℕ) (count k : ℕ) → count ≡ length ns → count ≤ 0 → xs ++ ordered (length ns) ns k ≡ all → xs ≡ all
unfolding ordered
order_end [] xs all count k size none so_far = sym (append-nil xs) ∙ so_far
order_end (n ∷ ns) xs all count k size none so_far = absurd (omega (arith, size, none))
