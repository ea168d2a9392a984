use Rattle.std.proofs.Common.{[], ap, arith, false, length, List, not, refl, sym, true, ◌==◌, ◌∙◌, ◌∷◌, ◌≡◌, ℕ}
use Rattle.std.proofs.lemmas.Bool.{ne_eqb}
use Rattle.machine_data.specs.Read.{is_nil}
use Rattle.core_counts.proofs.EndedLemmas.{none_asked, none_ended}
use Rattle.core_counts.proofs.endings.has_ended.Goals as goal

not_none : (n : ℕ) (ns : List ℕ) (k : ℕ) → k ≡ length (n ∷ ns) → not (k == 0) ≡ true
not_none n ns k is = ap not (ne_eqb k 0 (λ no. omega (arith, is, no)))

some_there : (ns : List ℕ) (k : ℕ) → k ≡ length ns → not (k == 0) ≡ not (is_nil ns)
some_there [] k is = ap (λ j. not (j == 0)) is
some_there (n ∷ ns) k is = not_none n ns k is

none_there : (ns : List ℕ) (k : ℕ) → k ≡ length ns → not (k == 0) ≡ false → ns ≡ []
none_there [] k is out = refl
none_there (n ∷ ns) k is out = let never : true ≡ false = sym (not_none n ns k is) ∙ out in absurd (cc)

pub returns-clause-ended : goal.returns-clause-ended
returns-clause-ended c =
    some_there c.args.parts.now.ended.items c.len.result (c.len.ensures ∙ c.args.parts.now.ended.ok.0) ∙ sym (ap not (none_ended c.args.parts.now c.requires))

pub returns-clause-none : goal.returns-clause-none
returns-clause-none c = λ no. none_asked c.args.parts.now c.requires (none_there c.args.parts.now.ended.items c.len.result (c.len.ensures ∙ c.args.parts.now.ended.ok.0) no)
