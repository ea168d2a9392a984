-- What an id names that has a number is found under it.
use Rattle.std.proofs.Common.{is_ok, IsOk, IsSome, Option, refl, ◌<◌}
use Rattle.core_records.proofs.ReadLemmas.{call_item, call_stands}
use Rattle.core_records.specs.declared.{parts.CoreParts.CoreParts}
use Rattle.core_records.proofs.Core.{ap, call_of, GuestTaskKey, item_at, item_of, None, seen, Some, sym, TableId, ◌≡◌}

item_some : {T : Type 0} (o : Option T) → IsSome o → (g : T) × (Some g ≡ o)
item_some None is = absurd (cc)
item_some (Some g) is = (g, refl)

pub call_known : (a : CoreParts) (id : TableId GuestTaskKey) → 0 < call_of (seen a) id → IsOk (item_at item_of a.calls id.rep id.serial)
call_known a id live =
    let one = item_some _ (call_stands a id live) in
    sym (ap is_ok (call_item a id live one.0 one.1))
