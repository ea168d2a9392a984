use Rattle.core_picks.proofs.arrivals.rekey.Goals as goal
use Rattle.core_picks.specs.Arrived.{Rekeys}
use Rattle.core_records.proofs.Core.{IfSome, IsSome, list_of, refl, subst, sym, ◌∙◌}

pub file-requires-clause-live : goal.file-requires-clause-live
file-requires-clause-live c = subst (λ o. IfSome o (λ l. IsSome (list_of c.args.places.now l.0))) (sym c.get.ensures ∙ c.in-Some.is) c.requires.live

pub returns-in-Some : goal.returns-in-Some
returns-in-Some c = subst (Rekeys c.args.places.now c.file.new.self c.args.node.index c.args.order_key) (sym c.in-Some.is ∙ c.get.ensures) c.file.ensures

pub returns-in-None : goal.returns-in-None
returns-in-None c = subst (Rekeys c.args.places.now c.args.places.now c.args.node.index c.args.order_key) (sym c.in-None.is ∙ c.get.ensures) refl
