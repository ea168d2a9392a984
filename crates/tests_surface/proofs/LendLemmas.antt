-- A thread runs on where its task holds borrows.
use Rattle.laws_order.proofs.BorrowLemmas.{borrows_keep_order, same_instance}
use Rattle.laws_order.specs.Borrows.{BorrowsKeepOrder, borrowing}
use Rattle.std.proofs.Common.{subst, sym}
use Rattle.std.specs.Prelude.{length, ℕ, ◌<◌}
use Rattle.ops_calls.specs.HostOps.{IsRunningIn}
use Rattle.machine_data.specs.Write.{on_call}
use Rattle.machine_data.specs.declared.component.Component.{Component}
use Rattle.machine_data.specs.declared.records.Turn.TheVariants as turn
use Rattle.ops_turns.specs.Turn.{state_at}
use Rattle.core_primitives.specs.StateView.{StateView, on_core}

pub runs_lending : (c : Component) (s : StateView) (k b : ℕ) → IsRunningIn c s → IsRunningIn c (on_core (borrowing k b) s)
unfolding BorrowsKeepOrder on_call
runs_lending c s k b q = record {
  well_formed = q.well_formed;
  number = q.number;
  runs = q.runs;
  order = record {
    order = λ m. borrows_keep_order c (state_at s.core m (turn.Run q.number)) k b (q.order.order m);
    there = q.order.there;
    handles = q.order.handles;
  };
  home = subst (λ (i : ℕ). i < length c.instances) (sym (same_instance k b s.core q.number)) q.home;
}
