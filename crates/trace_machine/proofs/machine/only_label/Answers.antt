use Rattle.machine_data.specs.declared.label.Label.{Label}
use Rattle.std.proofs.Common.{ap, ◌∙◌}
use Rattle.std.specs.List.{last_or}
use Rattle.std.specs.Prelude.{List, None, Some, [], ◌∷◌, ◌≡◌}
use Rattle.trace_machine.proofs.machine.only_label.Goals as goal

one_shown : (ls : List Label) (l k : Label) → ls ≡ l ∷ [] → Some k ≡ last_or None ls → ls ≡ k ∷ []
one_shown ls l k one last = one ∙ same (last ∙ ap (λ (ks : List Label). last_or None ks) one)
  where
    same : Some k ≡ Some l → l ∷ [] ≡ k ∷ []
    same e = cc

none_shown : (ls : List Label) (l : Label) → ls ≡ l ∷ [] → None ≡ last_or None ls → ⊥
none_shown ls l one none = absurd (let bad = none ∙ ap (λ (ks : List Label). last_or None ks) one in cc)

pub returns : goal.returns
returns c = one_shown c.args.trace.now c.requires.0 c.in-Some.label c.requires.1 c.in-Some.ensures

pub unreachable-requires : goal.unreachable-requires
unreachable-requires c = none_shown c.args.trace.now c.requires.0 c.requires.1 c.in-None.ensures
