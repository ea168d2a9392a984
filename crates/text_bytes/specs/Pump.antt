-- What reading all and writing all result in, where what is left and what is held are told.
use Rattle.std.specs.Prelude.{◌≡◌, ℕ, ◌≤◌, List, [], ◌+◌, ◌++◌, length, Option, Some, Result, Ok, Err}
use Rattle.std.specs.Global.{Vec}
use Rattle.text_bytes.specs.declared.pump.ReadFault.{ReadFault}
use Rattle.text_bytes.specs.declared.pump.ReadFault.TheVariants as fault
use Rattle.text_bytes.specs.Outside.{Appends}

-- these bytes were taken off the front of all, and the others are left
pub record IsTaken (all taken : List ℕ) (left : Option (List ℕ)) : Type 0 where
  pub rest : List ℕ
  pub parts : taken ++ rest ≡ all
  pub left_is : left ≡ Some rest

-- all was read to its end, and is no longer than the limit
pub record IsWithin (limit : ℕ) (all : List ℕ) (left : Option (List ℕ)) : Type 0 where
  pub ended : left ≡ Some []
  pub short : length all ≤ limit

-- one byte more was taken than that
pub record IsBeyond (limit : ℕ) (all : List ℕ) (left : Option (List ℕ)) : Type 0 where
  pub taken : List ℕ
  pub read : IsTaken all taken left
  pub long : length taken ≡ limit + 1

-- The text is all that there was. Where no text is answered, a front was taken.
abbrev pub ReadsUpTo : ℕ → List ℕ → Option (List ℕ) → Result (Vec ℕ) ReadFault → Type 0
ReadsUpTo limit all left (Ok text) = (text.items ≡ all) × IsWithin limit all left
ReadsUpTo limit all left (Err fault.TooLong) = IsBeyond limit all left
ReadsUpTo limit all left (Err fault.NoMemory) = (taken : List ℕ) × IsTaken all taken left
ReadsUpTo limit all left (Err fault.Failed) = (taken : List ℕ) × IsTaken all taken left

-- this of a text, of at most 1,048,576 bytes
abbrev pub IsWhole : List ℕ → Option (List ℕ) → Type 0
IsWhole all left = IsWithin 1048576 all left

abbrev pub IsTooLong : List ℕ → Option (List ℕ) → Type 0
IsTooLong all left = IsBeyond 1048576 all left

abbrev pub ReadsAll : List ℕ → Option (List ℕ) → Result (Vec ℕ) ReadFault → Type 0
ReadsAll all left result = ReadsUpTo 1048576 all left result

-- a front of the bytes was appended
pub record IsFront (old new : Option (List ℕ)) (bytes : List ℕ) : Type 0 where
  pub front : List ℕ
  pub rest : List ℕ
  pub parts : front ++ rest ≡ bytes
  pub appended : Appends old new front
