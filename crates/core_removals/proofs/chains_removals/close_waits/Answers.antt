use Rattle.core_records.proofs.Core.{IfSome, IsSome, list_of, Option, refl, subst, sym, ℕ}
use Rattle.core_removals.proofs.chains_removals.close_waits.Goals as goal
use Rattle.core_removals.specs.Chains.{ClosesIf}

pub close_order_keys-requires : goal.close_order_keys-requires
close_order_keys-requires c = subst (λ (o : Option ℕ). IfSome o (λ k. IsSome (list_of c.args.waits.now k))) c.in-Some.is c.requires

pub returns-in-Some : goal.returns-in-Some
returns-in-Some c = subst (ClosesIf c.args.waits.now c.close_order_keys.new.links) (sym c.in-Some.is) c.close_order_keys.ensures

pub returns-in_default : goal.returns-in_default
returns-in_default c = subst (ClosesIf c.args.waits.now c.args.waits.now) (sym c.in_default.is) refl
