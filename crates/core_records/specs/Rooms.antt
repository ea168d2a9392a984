-- The rooms for the results of calls by main.
use Rattle.std.specs.List.{sum_by}
use Rattle.std.specs.BTreeMap.{is_at}
use Rattle.std.specs.Map.{lookup, values_of}
use Rattle.std.specs.Ordering.{nat_cmp}
use Rattle.std.specs.Prelude.{◌≡◌, ◌||◌, true, if◌then◌else◌, is_some, List, None, Option, Some, ℕ}
use Rattle.core_records.specs.declared.rooms.ResultRoom.{ResultRoom}

-- a room, unless its call is gone and no result is in it
abbrev pub wanted : ResultRoom → Option ResultRoom
wanted r = if r.lives || is_some r.given then Some r else None

-- the result that is in a room, if there is a room and a result is in it
abbrev pub given_in : Option ResultRoom → Option ℕ
given_in None = None
given_in (Some r) = r.given

-- 1 if a result is in the room
abbrev pub weight : ResultRoom → ℕ
weight r = if is_some r.given then 1 else 0

-- how many results are in the rooms
abbrev pub count_given : List (ℕ × ResultRoom) → ℕ
count_given es = sum_by weight (values_of es)

-- There is room for the call's result, with what was given of it; all other rooms are as before.
abbrev pub MakesRoom : (call : ℕ) → (old new : List (ℕ × ResultRoom)) → Type 0
MakesRoom k old new = (q : ℕ) → lookup (is_at (nat_cmp q)) new ≡
    (if is_at (nat_cmp k) q
    then Some (record { given = given_in (lookup (is_at (nat_cmp k)) old); lives = true })
    else lookup (is_at (nat_cmp q)) old)
