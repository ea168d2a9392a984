-- What is met is what the lines say.
use Rattle.beside_works.proofs.MeetLemmas.{each_at, rest_next}
use Rattle.beside_works.specs.Aborters.{AbortsAreMet, AreNew, HasRun, HaveRun, IsNew, NoneOutOfMemory, briefs, with_all}
use Rattle.beside_works.specs.Counts.{added_each, counts_in, with_each}
use Rattle.beside_works.specs.Lines.{line_at}
use Rattle.beside_works.specs.declared.line.Aborter.{Aborter}
use Rattle.std.proofs.Common.{ap, arith, drop, length, refl, replicate, sym, ◌∙◌}
use Rattle.std.proofs.lemmas.List.{append-nil}
use Rattle.std.proofs.lemmas.Option.{same_Some}
use Rattle.std.specs.Option.{unwrap_or}
use Rattle.std.specs.Prelude.{List, Option, Some, [], count_by, false, slice_get, suc, zero, ℕ, ◌+◌, ◌++◌, ◌-◌, ◌<◌, ◌==◌, ◌∷◌, ◌≡◌}
use Rattle.task_abort.specs.Cells.{CellId}

named : ℕ → List ℕ → ℕ
named j line = count_by (λ s. s == j) line

-- a spawn has as many more as it is in the line
added_count : (line : List ℕ) (k i m : ℕ) (ns : List ℕ) → slice_get ns i ≡ Some m → slice_get (added_each line k ns) i ≡ Some (m + named ((k + i) + 1) line)
unfolding named
added_count line k i m [] at = absurd (cc)
added_count line k zero m (n ∷ ns) at =
    let none : k + 1 ≡ (k + 0) + 1 = omega arith in
    ap (λ (j : ℕ). Some (j + count_by (λ s. s == k + 1) line)) (same_Some _ _ at) ∙ ap (λ (j : ℕ). Some (m + count_by (λ s. s == j) line)) none
added_count line k (suc i) m (n ∷ ns) at =
    let next : ((k + 1) + i) + 1 ≡ (k + suc i) + 1 = omega arith in
    added_count line (k + 1) i m ns at ∙ ap (λ (j : ℕ). Some (m + count_by (λ s. s == j) line)) next

zero_at : (n i : ℕ) → i < n → slice_get (replicate {A = ℕ} n 0) i ≡ Some 0
zero_at zero i lt = absurd (omega (arith, lt))
zero_at (suc n) zero lt = refl
zero_at (suc n) (suc i) lt = zero_at n i (omega (arith, lt))

regrouped : {A : Type 0} (xs ys : List A) (x : A) → (xs ++ x ∷ []) ++ ys ≡ xs ++ x ∷ ys
regrouped [] ys x = refl
regrouped (z ∷ xs) ys x = ap (λ zs. z ∷ zs) (regrouped xs ys x)

module _ (ids : List CellId) (splits : List ℕ) (lines : List (List ℕ)) (i : ℕ) (lt : i < length splits) where
  -- what a new aborter of a line has done to the spawn, unless it was out of memory
  counted : (k : ℕ) (line : List ℕ) (a b : Aborter) → slice_get lines k ≡ Some line → IsNew ids splits k a → HasRun (line_at lines a.number) a b → b.out_of_memory ≡ false →
      slice_get (counts_in b.passes.items) i ≡ Some (named (i + 1) line)
  unfolding named
  counted k line a b at new run none =
      let less : (k + 1) - 1 ≡ k = omega arith in
      let whose : line_at lines a.number ≡ line =
      ap (line_at lines) new.number ∙ (ap (λ (j : ℕ). unwrap_or (slice_get lines j) []) less ∙ ap (λ (o : Option (List ℕ)). unwrap_or o []) at) in
      let made : run.made ≡ line = run.whole none ∙ whose in
      let counts : counts_in b.passes.items ≡ added_each line 0 (replicate (length splits) 0) =
      run.counts ∙ (ap (λ (ls : List ℕ). added_each ls 0 (counts_in a.passes.items)) made ∙ ap (added_each line 0) new.counts) in
      let place : (0 + i) + 1 ≡ i + 1 = omega arith in
      let none_more : 0 + named (i + 1) line ≡ named (i + 1) line = omega arith in
      ap (λ (ns : List ℕ). slice_get ns i) counts
      ∙ (added_count line 0 i 0 (replicate (length splits) 0) (zero_at (length splits) i lt)
      ∙ (ap (λ (j : ℕ). Some (0 + named j line)) place ∙ ap (λ (n : ℕ). Some n) none_more))

  all_at : (k : ℕ) (rest : List (List ℕ)) (olds news : List Aborter) (mss : List (List (ℕ × ℕ))) (ms : List (ℕ × ℕ)) → rest ≡ drop k lines → length olds ≡ length rest →
      AreNew ids splits k olds → HaveRun lines olds news → NoneOutOfMemory news → slice_get mss i ≡ Some ms → slice_get (with_all news mss) i ≡ Some (ms ++ briefs rest (k + 1) (i + 1))
  unfolding named
  all_at k [] [] [] mss ms is number new run none at = at ∙ ap (λ (ns : List (ℕ × ℕ)). Some ns) (sym (append-nil ms))
  all_at k [] [] (b ∷ news) mss ms is number new run none at = absurd run
  all_at k [] (a ∷ olds) news mss ms is number new run none at = absurd (omega (arith, number))
  all_at k (line ∷ rest) [] news mss ms is number new run none at = absurd (omega (arith, number))
  all_at k (line ∷ rest) (a ∷ olds) [] mss ms is number new run none at = absurd run
  all_at k (line ∷ rest) (a ∷ olds) (b ∷ news) mss ms is number new run none at =
      let next = rest_next k lines rest line is in
      let count = named (i + 1) line in
      let first = each_at b.number i count ms (counts_in b.passes.items) mss (counted k line a b next.0 new.0 run.0 none.0) at in
      all_at (k + 1) rest olds news (with_each b.number (counts_in b.passes.items) mss) (ms ++ (b.number, count) ∷ []) next.1 (omega (arith, number)) new.1 run.1 none.1 first
      ∙ (ap (λ (ns : List (ℕ × ℕ)). Some ns) (regrouped ms (briefs rest ((k + 1) + 1) (i + 1)) (b.number, count))
      ∙ ap (λ (n : ℕ). Some (ms ++ (n, count) ∷ briefs rest ((k + 1) + 1) (i + 1))) (run.0.number ∙ new.0.number))

pub aborts_are_met : AbortsAreMet
aborts_are_met ids splits lines olds news mss i ms new number run none lt at = all_at ids splits lines i lt 0 lines olds news mss ms refl number new run none at
