-- What a slot holds, and what it gives.
use Rattle.std.specs.Borrow.{GName, MutBor}
use Rattle.std.specs.Prelude.{Err, None, Ok, Option, Result, Some, ⊤, ◌≡◌}
use Rattle.task_store.specs.declared.slot.Held.{Held}
use Rattle.task_store.specs.declared.slot.Held.TheVariants as helds
use Rattle.task_store.specs.declared.slot.SlotError.{SlotError}
use Rattle.task_store.specs.declared.slot.SlotError.TheVariants as errors
use Rattle.task_store.specs.declared.slot.StoreSlot.{StoreSlot}
use Rattle.task_store.specs.declared.slot.TryGet.{TryGet}
use Rattle.task_store.specs.declared.slot.TryGet.TheVariants as founds
use Rattle.machine_data.specs.declared.trap.Trap.{Trap}
use Rattle.machine_data.specs.declared.trap.Trap.TheVariants as traps
use Rattle.task_group.specs.declared.hook.NoHook.{NoHook}
use Rattle.task_store.specs.declared.store.Store.{Store}

abbrev pub trap_of : SlotError → Trap
trap_of errors.Taken = traps.StoreTaken
trap_of errors.Absent = traps.StoreAbsent

module _ {T H : Type 0} where
  abbrev pub absent : StoreSlot T H
  absent = record { held = helds.Absent }

  abbrev pub taken : StoreSlot T H
  taken = record { held = helds.Taken }

  abbrev pub held_store : Held T H → Option (MutBor (Store T H NoHook))
  held_store helds.Absent = None
  held_store helds.Taken = None
  held_store (helds.Store store) = Some store

  -- P holds of the store that is held, if one is
  abbrev pub OnStore : Held T H → (MutBor (Store T H NoHook) → Type 0) → Type 0
  OnStore helds.Absent P = ⊤
  OnStore helds.Taken P = ⊤
  OnStore (helds.Store store) P = P store

  -- what this tells of the store that is held
  abbrev pub told_by : {A : Type 0} → Held T H → (Store T H NoHook → A) → Result A SlotError
  told_by helds.Absent tell = Err errors.Absent
  told_by helds.Taken tell = Err errors.Taken
  told_by (helds.Store store) tell = Ok (tell store.now)

  -- the same store is held, and P holds of it before and afterwards
  pub record Stays (store : MutBor (Store T H NoHook)) (new : Held T H) (P : MutBor (Store T H NoHook) → Type 0) : Type 0 where
    pub left : MutBor (Store T H NoHook)
    pub held : new ≡ helds.Store left
    pub same : left.ghost_name ≡ store.ghost_name
    pub holds : P left

  -- the call is refused, and the slot is as before; or P holds of the store, of what the call gave, and of what it left in the store
  abbrev pub Gets : {R : Type 0} → Held T H → Result R SlotError → Held T H →
      (MutBor (Store T H NoHook) → R → MutBor (Store T H NoHook) → Type 0) → Type 0
  Gets helds.Absent r new P = (r ≡ Err errors.Absent) × (new ≡ helds.Absent)
  Gets helds.Taken r new P = (r ≡ Err errors.Taken) × (new ≡ helds.Taken)
  Gets {R} (helds.Store store) r new P = (v : R) × (r ≡ Ok v) × Stays store new (P store v)

  -- P holds of all that may be found, and of the slot meanwhile
  abbrev pub MayTry : Held T H → (TryGet T H → StoreSlot T H → Type 0) → Type 0
  MayTry helds.Absent P = P founds.None absent
  MayTry helds.Taken P = P founds.Taken taken
  MayTry (helds.Store store) P = (shown : MutBor (Store T H NoHook)) → shown.now ≡ store.now → P (founds.Some shown) taken

  -- the store that is left is what was left behind the reference of this name that was found, if that is still there
  abbrev pub Leaves : GName → TryGet T H → Store T H NoHook → Type 0
  Leaves name founds.None s = ⊤
  Leaves name founds.Taken s = ⊤
  Leaves name (founds.Some left) s = name ≡ left.ghost_name → s ≡ left.now

  -- the slot has what it had, and P holds of what was found, of the slot meanwhile, and of what was left of what was found
  abbrev pub Tries : Held T H → Held T H → (TryGet T H → StoreSlot T H → TryGet T H → Type 0) → Type 0
  Tries helds.Absent new P = (new ≡ helds.Absent) × (z : TryGet T H) × P founds.None absent z
  Tries helds.Taken new P = (new ≡ helds.Taken) × (z : TryGet T H) × P founds.Taken taken z
  Tries (helds.Store store) new P =
      (shown : MutBor (Store T H NoHook)) × (z : TryGet T H) × (shown.now ≡ store.now) × P (founds.Some shown) taken z ×
      Stays store new (λ left. Leaves shown.ghost_name z left.now)
