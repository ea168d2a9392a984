-- What the calls of a kind answer.
use Rattle.std.specs.Prelude.{Option, Some, None, Result, Ok, Err}

module _ {E Item : Type 0} where
  abbrev pub or_entry : E → Option Item → Result Item E
  or_entry entry None = Err entry
  or_entry entry (Some item) = Ok item

  -- the item of an entry of this kind, and an entry of another kind itself
  abbrev pub unwrapped : (E → Option Item) → E → Result Item E
  unwrapped item_of entry = or_entry entry (item_of entry)
