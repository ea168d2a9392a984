-- The scopes of a store that isn't concurrent.
use Rattle.std.specs.Prelude.{List, length, take, ℕ, ◌-◌}

-- without the one entered last; none if there is none
abbrev pub one_fewer : List ℕ → List ℕ
one_fewer borrows = take (length borrows - 1) borrows
