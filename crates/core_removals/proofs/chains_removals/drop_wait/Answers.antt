use Rattle.core_records.proofs.Core.{IfSome, is_made, Option, refl, subst, sym, true, ◌≡◌}
use Rattle.core_removals.proofs.chains_removals.drop_wait.Goals as goal
use Rattle.core_removals.specs.Chains.{DropsIf}
use Rattle.table_links.specs.declared.links.Node.{Node}

pub drop_order_key-requires : goal.drop_order_key-requires
drop_order_key-requires c = subst (λ (o : Option Node). IfSome o (λ n. is_made c.args.waits.now n.index ≡ true)) c.in-Some.is c.requires

pub returns-in-Some : goal.returns-in-Some
returns-in-Some c = subst (DropsIf c.args.waits.now c.drop_order_key.new.links) (sym c.in-Some.is) c.drop_order_key.ensures

pub returns-in_default : goal.returns-in_default
returns-in_default c = subst (DropsIf c.args.waits.now c.args.waits.now) (sym c.in_default.is) refl
