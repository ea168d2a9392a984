-- Numbers that a machine counts in its records, and that code keeps: the use of the table, live handles, the calls of a group, interesting
-- tasks.
use Rattle.std.specs.Prelude.{ℕ, Bool, count_by, if◌then◌else◌, Option, Some, None}
use Rattle.machine_data.specs.Maps.{Records, insert, remove}

module _ {X : Type 0} where
  -- how many records pass
  abbrev pub passing : (X → Bool) → Records X → ℕ
  passing test m = count_by (λ e. test e.1) m.list

  -- one where there is a record that passes, else zero
  abbrev pub one_if_passes : (X → Bool) → Option X → ℕ
  one_if_passes test None = 0
  one_if_passes test (Some x) = if test x then 1 else 0

  -- the map with this record under the number, or with none: a record is added or written, or is removed
  abbrev pub with_at : Records X → ℕ → Option X → Records X
  with_at m n None = remove m n
  with_at m n (Some x) = insert m n x
