-- The numbers of a label after its first one.
use Rattle.std.specs.Prelude.{ℕ, List, [], ◌∷◌}
use Rattle.run_trace.specs.declared.pack.Rest.{Rest}
use Rattle.run_trace.specs.declared.pack.Rest.TheVariants as rest

abbrev pub rest_of : Rest → List ℕ
rest_of rest.None = []
rest_of (rest.One n) = n ∷ []
rest_of (rest.Two n m) = n ∷ m ∷ []
