-- A scenario that was run so far, and the thread that runs in it.
use Rattle.std.proofs.Common.{refl, subst, sym}
use Rattle.std.specs.Prelude.{IfSome, None, Option, Some, is_some, length, true, ℕ, ◌<◌, ◌≡◌}
use Rattle.ops_calls.specs.HostOps.{MayDoHostOp, IsRunningIn}
use Rattle.machine_data.specs.Read.{op_progress_of, instance_of}
use Rattle.machine_data.specs.declared.component.Component.{Component}
use Rattle.machine_data.specs.declared.records.OpProgress.TheVariants as op_progress
use Rattle.machine_data.specs.declared.records.Turn.TheVariants as turn
use Rattle.ops_turns.specs.Turn.{CoreInOrder, running_of}
use Rattle.ops_turns.specs.WellFormed.{IsWellFormed}
use Rattle.core_primitives.specs.StateView.{StateView}

-- a thread that is about to ask runs in its instance
pub is_running_in : (c : Component) (s : StateView) (i : ℕ) → IsWellFormed c → IfSome (running_of s) (λ n. CoreInOrder c (turn.Run n) s.core) → is_some (running_of s) ≡ true → MayDoHostOp i s → i < length c.instances → IsRunningIn c s
is_running_in c s i formed order there asks below = go (running_of s) refl order asks there
  where
    go : (o : Option ℕ) → running_of s ≡ o → IfSome o (λ n. CoreInOrder c (turn.Run n) s.core) → IfSome o (λ n. (instance_of n s.core ≡ i) × (op_progress_of n s.core ≡ op_progress.Fresh)) → is_some o ≡ true → IsRunningIn c s
    go None e order asks there = absurd (cc)
    go (Some n) e order asks there = record {
      well_formed = formed;
      number = n;
      runs = e;
      order = order;
      home = subst (λ k. k < length c.instances) (sym asks.0) below;
    }
