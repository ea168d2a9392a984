-- A walk of primitives from a state in order leads to one.
use Rattle.laws_order.specs.Pieces.{WalkedInOrder}
use Rattle.laws_places.proofs.OrderLemmas.{walked_in_order as of_walks}

pub walked_in_order : WalkedInOrder
unfolding WalkedInOrder
walked_in_order = of_walks
