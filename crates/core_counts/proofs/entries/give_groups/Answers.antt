use Rattle.std.proofs.Common.{◌≤◌, length, subst, sym, ℕ}
use Rattle.core_counts.specs.Entries.{groups_above}
use Rattle.table_lists.proofs.PlaceLemmas.{no_fewer}
use Rattle.table_lists.specs.GivenPlaces.{given_each, Places}
use Rattle.core_counts.proofs.entries.give_groups.Goals as goal

pub put_in_order-requires : goal.put_in_order-requires
put_in_order-requires c =
    let names = groups_above c.args.finished c.args.groups.now in
    subst (λ (p : Places). c.free-kept.result ≤ length p.free) (sym c.give_names.ensures)
    (subst (λ (n : ℕ). n ≤ length (given_each names c.args.places.now).free) (sym c.free-kept.ensures) (no_fewer names c.args.places.now))

pub returns : goal.returns
returns c = c.put_in_order.ensures (groups_above c.args.finished c.args.groups.now) c.args.places.now c.give_names.ensures c.free-kept.ensures
