-- Each kind of record has a table of its own.
use Rattle.std.specs.Prelude.{◌≡◌, Option, Some, refl}
use Rattle.std.proofs.Common.{ap, sym}
use Rattle.std.proofs.lemmas.Option.{same_Some}
use Rattle.core_records.specs.declared.single.Single.{Single}

module _ {T : Type 0} where
  abbrev pub entry_of : T → Single T
  entry_of item = record { item = item }

  abbrev pub item_of : Single T → Option T
  item_of entry = Some entry.item

  pub wrapped : (item : T) → item_of (entry_of item) ≡ Some item
  wrapped item = refl

  pub no_other : (entry : Single T) (item : T) → item_of entry ≡ Some item → entry_of item ≡ entry
  no_other entry item is = ap entry_of (sym (same_Some entry.item item is))

  -- a function of the item
  abbrev pub on_item : {U : Type 0} → (T → U) → Single T → Single U
  on_item f entry = record { item = f entry.item }
