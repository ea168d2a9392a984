use Rattle.std.proofs.Common.{List, arith, length, refl, ◌<◌, ◌≡◌, ◌≤◌}
use Rattle.std.specs.Prelude.{[], false, true, ◌∷◌}
use Rattle.machine_data.specs.Read.{is_nil}
use Rattle.beside_main.proofs.report.has_none.Goals as goal

short : {A : Type 0} (xs : List A) → length xs < 1 → true ≡ is_nil xs
short [] lt = refl
short (x ∷ xs) lt = absurd (omega (arith, lt))

long : {A : Type 0} (xs : List A) → 1 ≤ length xs → false ≡ is_nil xs
long [] some = absurd (omega (arith, some))
long (x ∷ xs) some = refl

pub returns-then-lines-lt1 : goal.returns-then-lines-lt1
returns-then-lines-lt1 c = short c.args.lines.now c.if-lines-lt1.true

pub returns : goal.returns
returns c = long c.args.lines.now c.if-lines-lt1.false
