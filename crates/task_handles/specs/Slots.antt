-- How a table of handles is laid out. No public clause cites this module.
use Rattle.std.specs.Prelude.{◌≡◌, ℕ, zero, suc, ◌+◌, ◌≤◌, List, [], ◌∷◌, length, Option, Some, None, slice_get}
use Rattle.std.specs.Option.{option_and_then}
use Rattle.std.specs.Ordering.{nat_cmp}
use Rattle.std.specs.FinMap as map
use Rattle.task_handles.specs.Handles.{Handles}
use Rattle.task_handles.specs.declared.TheConstants.{MAX_HANDLES}
use Rattle.task_handles.specs.declared.slots.HandleSlot.{HandleSlot}
use Rattle.task_handles.specs.declared.slots.HandleSlot.TheVariants.{Live, Freed}

module _ {X : Type 0} where
  -- what a slot holds, if it is live
  abbrev pub value_of : HandleSlot X → Option X
  value_of (Live x) = Some x
  value_of (Freed _) = None

  abbrev pub link_of : Option (HandleSlot X) → ℕ
  link_of None = 0
  link_of (Some (Live _)) = 0
  link_of (Some (Freed before)) = before

  -- the slot of a handle, which counts from 1
  abbrev pub slot_at : List (HandleSlot X) → ℕ → Option (HandleSlot X)
  slot_at slots zero = None
  slot_at slots (suc place) = slice_get slots place

  -- what a handle refers to, if it is live
  abbrev pub value_at : List (HandleSlot X) → ℕ → Option X
  value_at slots handle = option_and_then value_of (slot_at slots handle)

  -- the handle that was freed before this freed one, or 0
  abbrev pub link : List (HandleSlot X) → ℕ → ℕ
  link slots handle = link_of (slot_at slots handle)

  -- the live ones of these slots, the first of which has this handle
  abbrev pub entries_from : ℕ → List (HandleSlot X) → List (ℕ × X)
  entries_from handle [] = []
  entries_from handle (Live x ∷ rest) = (handle, x) ∷ entries_from (suc handle) rest
  entries_from handle (Freed _ ∷ rest) = entries_from (suc handle) rest

  unfoldable pub live_in : List (HandleSlot X) → map.FinMap nat_cmp X
  live_in slots = map.from_entries (entries_from 1 slots)

  -- so many freed handles from this one on, the last freed first
  abbrev pub freed_from : List (HandleSlot X) → ℕ → ℕ → List ℕ
  freed_from slots zero handle = []
  freed_from slots (suc count) handle = handle ∷ freed_from slots count (link slots handle)

  -- from this handle on so many slots are freed, each of which names the next, and the last names 0
  abbrev pub IsChain : List (HandleSlot X) → ℕ → ℕ → Type 0
  IsChain slots zero handle = handle ≡ 0
  IsChain slots (suc count) handle =
      (slot_at slots handle ≡ Some (Freed (link slots handle))) × IsChain slots count (link slots handle)

  -- the table that the slots show
  abbrev pub shown : List (HandleSlot X) → ℕ → ℕ → Handles X
  shown slots freed last_freed =
      record { live = live_in slots; freed = freed_from slots freed last_freed; made = length slots }

  -- the freed slots are chained, and all others are live
  pub record AreSoundHandles (slots : List (HandleSlot X)) (freed last_freed : ℕ) : Type 0 where
    pub chained : IsChain slots freed last_freed
    pub counted : map.len (live_in slots) + freed ≡ length slots
    pub small : length slots ≤ MAX_HANDLES
