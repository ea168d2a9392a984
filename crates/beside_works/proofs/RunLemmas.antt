-- Aborters that have run, in lists.
use Rattle.std.proofs.Common.{◌≡◌, ◌+◌, ◌<◌, ◌++◌, ◌∙◌, ◌∷◌, ℕ, List, [], ap, arith, false, get_or, inl, inr, length, refl, subst, suc, sym, take, true, ⊎_elim}
use Rattle.std.proofs.Math.Seq.{take-suc}
use Rattle.std.proofs.lemmas.Option.{same_Some}
use Rattle.std.specs.Prelude.{None, Some, slice_get, slice_set, ◌-◌, ◌⊎◌}
use Rattle.beside_works.proofs.CountLemmas.{added_more, added_none}
use Rattle.beside_works.specs.Aborters.{HasRun, HaveRun, IsPartOf}
use Rattle.beside_works.specs.Counts.{added, added_each, cells_in, counts_in, places_in}
use Rattle.beside_works.specs.Lines.{line_at}
use Rattle.beside_works.specs.declared.line.Aborter.{Aborter}

module _ (lines : List (List ℕ)) where
  pub both_have : (olds news others later : List Aborter) → HaveRun lines olds news → HaveRun lines others later → HaveRun lines (olds ++ others) (news ++ later)
  both_have [] [] others later first second = second
  both_have [] (b ∷ news) others later first second = absurd first
  both_have (a ∷ olds) [] others later first second = absurd first
  both_have (a ∷ olds) (b ∷ news) others later first second = (first.0, both_have olds news others later first.1 second)

  pub one_has : (olds : List Aborter) (a b : Aborter) → length olds < 2 → slice_get olds 0 ≡ Some a → HasRun (line_at lines a.number) a b → HaveRun lines olds (slice_set olds 0 b)
  one_has [] a b few at run = absurd (cc)
  one_has (x ∷ []) a b few at run = (subst (λ (y : Aborter). HasRun (line_at lines y.number) y b) (sym (same_Some _ _ at)) run, tt)
  one_has (x ∷ y ∷ olds) a b few at run = absurd (omega (arith, few))

  pub none_have : (olds : List Aborter) → slice_get olds 0 ≡ None → HaveRun lines olds olds
  none_have [] at = tt
  none_have (x ∷ olds) at = absurd (cc)

-- ---- The aborts of a line, one by one

part_longer : (made xs : List ℕ) (y : ℕ) → IsPartOf made xs → IsPartOf made (xs ++ y ∷ [])
part_longer [] xs y p = tt
part_longer (s ∷ made) [] y p = absurd p
part_longer (s ∷ made) (t ∷ xs) y p = ⊎_elim (λ here. inl (here.0, part_longer made xs y here.1)) (λ later. inr (part_longer (s ∷ made) xs y later)) p

part_both : (made xs : List ℕ) (y : ℕ) → IsPartOf made xs → IsPartOf (made ++ y ∷ []) (xs ++ y ∷ [])
part_both [] [] y p = inl (refl, tt)
part_both [] (t ∷ xs) y p = inr (part_both [] xs y tt)
part_both (s ∷ made) [] y p = absurd p
part_both (s ∷ made) (t ∷ xs) y p = ⊎_elim (λ here. inl (here.0, part_both made xs y here.1)) (λ later. inr (part_both (s ∷ made) xs y later)) p

pub run_begins : (a : Aborter) → HasRun [] a a
run_begins a = record {
  number = refl;
  cells = refl;
  places = refl;
  made = [];
  part = tt;
  counts = sym (added_none 0 (counts_in a.passes.items));
  whole = λ w. refl;
  out_of_memory = λ w. w;
}

-- the next one is made, or it is out of memory for it
pub run_more : (line : List ℕ) (i : ℕ) (a b d : Aborter) → i < length line → HasRun (take i line) a b → d.number ≡ b.number → cells_in d.passes.items ≡ cells_in b.passes.items →
    places_in d.passes.items ≡ places_in b.passes.items →
    ((d.out_of_memory ≡ b.out_of_memory) × (counts_in d.passes.items ≡ added (get_or line i 0) (counts_in b.passes.items))) ⊎ ((d.out_of_memory ≡ true) × (counts_in d.passes.items ≡ counts_in b.passes.items)) →
    HasRun (take (i + 1) line) a d
run_more line i a b d lt run number cells places = ⊎_elim goes wants
  where
    s : ℕ
    s = get_or line i 0

    more : take (i + 1) line ≡ take i line ++ s ∷ []
    more = let next : i + 1 ≡ suc i = omega arith in ap (λ (j : ℕ). take j line) next ∙ take-suc line i 0 lt

    none : s ≡ s - 0
    none = omega arith

    goes : (d.out_of_memory ≡ b.out_of_memory) × (counts_in d.passes.items ≡ added s (counts_in b.passes.items)) → HasRun (take (i + 1) line) a d
    goes q = record {
      number = number ∙ run.number;
      cells = cells ∙ run.cells;
      places = places ∙ run.places;
      made = run.made ++ s ∷ [];
      part = subst (λ (ls : List ℕ). IsPartOf (run.made ++ s ∷ []) ls) (sym more) (part_both run.made (take i line) s run.part);
      counts = q.1 ∙ (ap (added s) run.counts ∙ (ap (λ (k : ℕ). added k (added_each run.made 0 (counts_in a.passes.items))) none ∙ sym (added_more run.made s 0 (counts_in a.passes.items))));
      whole = λ w. ap (λ (ls : List ℕ). ls ++ s ∷ []) (run.whole (sym q.0 ∙ w)) ∙ sym more;
      out_of_memory = λ w. run.out_of_memory (sym q.0 ∙ w);
    }

    wants : (d.out_of_memory ≡ true) × (counts_in d.passes.items ≡ counts_in b.passes.items) → HasRun (take (i + 1) line) a d
    wants q = record {
      number = number ∙ run.number;
      cells = cells ∙ run.cells;
      places = places ∙ run.places;
      made = run.made;
      part = subst (λ (ls : List ℕ). IsPartOf run.made ls) (sym more) (part_longer run.made (take i line) s run.part);
      counts = q.1 ∙ run.counts;
      whole = λ w. let no : true ≡ false = sym q.0 ∙ w in absurd (cc);
      out_of_memory = λ w. let no : true ≡ false = sym q.0 ∙ w in absurd (cc);
    }
