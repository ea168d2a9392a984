-- The held threads of an instance.
use Rattle.std.specs.Prelude.{List, filter, is_some, ℕ, ◌&&◌, ◌==◌}
use Rattle.machine_data.specs.Core.{Core}
use Rattle.machine_data.specs.Maps.{numbers}
use Rattle.machine_data.specs.Moves.{held_why_of}
use Rattle.machine_data.specs.Read.{instance_of}

-- in order of number, whether they are admitted or not
abbrev pub held_in : ℕ → Core → List ℕ
held_in i s = filter (λ n. (instance_of n s == i) && is_some (held_why_of n s)) (numbers s.threads)
