-- What reads and writes do, and when they fail.
use Rattle.std.specs.List.{list_any}
use Rattle.std.specs.Prelude.{◌≡◌, ℕ, ◌<◌, ◌≤◌, ◌^◌, ◌+◌, ◌-◌, ◌==◌, ◌⊎◌, Bool, true, false, List, [], ◌++◌, if◌then◌else◌, length, min, take, drop, Option, Some, None}
use Rattle.text_bytes.specs.declared.outside.Read.{Read}
use Rattle.text_bytes.specs.declared.outside.Read.TheVariants as read
use Rattle.text_bytes.specs.declared.outside.Wrote.{Wrote}
use Rattle.text_bytes.specs.declared.outside.Wrote.TheVariants as wrote

-- a count of faults rose; one that is at its end counts as risen
abbrev pub HasRisen : ℕ → ℕ → Type 0
HasRisen before now = (before < now) ⊎ (now ≡ 2 ^ 64 - 1)

-- Got takes from 1 byte to the buffer's length, the first ones of what is left where that is told; End comes only where nothing
-- is left; Failed takes nothing.
abbrev pub IsRead : Option (List ℕ) → Option (List ℕ) → List ℕ → Read → Type 0
IsRead old new buf (read.Got n) =
    (1 ≤ n) × (n ≤ length buf)
    × ((bytes : List ℕ) → old ≡ Some bytes → (n ≤ length bytes) × (take n buf ≡ take n bytes) × (new ≡ Some (drop n bytes)))
IsRead old new buf read.End = (bytes : List ℕ) → old ≡ Some bytes → (bytes ≡ []) × (new ≡ Some [])
IsRead old new buf read.Failed = new ≡ old

-- Where what is held is told now, it was told before, and these bytes were appended since.
abbrev pub Appends : Option (List ℕ) → Option (List ℕ) → List ℕ → Type 0
Appends old new bytes = (now : List ℕ) → new ≡ Some now → (held : List ℕ) × ((old ≡ Some held) × (now ≡ held ++ bytes))

-- Took appends from 1 byte to the whole piece, its first ones, where that is told; Failed appends nothing.
abbrev pub IsWritten : Option (List ℕ) → Option (List ℕ) → List ℕ → Wrote → Type 0
IsWritten old new piece (wrote.Took n) =
    (1 ≤ n) × (n ≤ length piece) × Appends old new (take n piece)
IsWritten old new piece wrote.Failed = new ≡ old

-- what a sink tells of what it keeps: nothing, once something has passed its room
abbrev pub kept_told : Bool → List ℕ → Option (List ℕ)
kept_told true kept = None
kept_told false kept = Some kept

-- ---- Over memory

-- the number of the next call, which stays at its type's end
abbrev pub next_call : ℕ → ℕ
next_call calls = min (calls + 1) (2 ^ 32 - 1)

-- whether the call of this number is one of those that fail
abbrev pub is_to_fail : List ℕ → ℕ → Bool
is_to_fail fail call = list_any (λ n. n == call) fail

-- What a read gives of so many bytes that are left, `piece` at most, into so much room: it fails where it is to.
abbrev pub read_of : Bool → ℕ → ℕ → ℕ → Read
read_of true left piece room = read.Failed
read_of false left piece room = if min (min left piece) room == 0 then read.End else read.Got (min (min left piece) room)

-- What a write takes of so many bytes, `piece` at most, into so much room: it fails where it is to, and where there is no room.
abbrev pub write_of : Bool → ℕ → ℕ → ℕ → Wrote
write_of true room piece given = wrote.Failed
write_of false room piece given = if min (min room piece) given == 0 then wrote.Failed else wrote.Took (min (min room piece) given)

-- the next call does
abbrev pub fails : List ℕ → (calls : ℕ) → Bool
fails fail calls = is_to_fail fail (next_call calls)
