-- Calls of hosts by the running thread.
use Rattle.std.proofs.Common.{ap}
use Rattle.std.specs.Prelude.{false, not, ℕ, ◌≡◌}
use Rattle.ops_calls.proofs.AtOnceLemmas.{goes_on, two_traps}
use Rattle.ops_calls.specs.OpAnswers.{has_stopped}
use Rattle.machine_data.specs.Core.{Core}
use Rattle.machine_data.specs.Read.{at_handle_limit, fits}
use Rattle.ops_guests.specs.OpResult.{Implements}
use Rattle.ops_guests.specs.declared.op_result.OpResult.{OpResult}
use Rattle.machine_rules.specs.Calls.{AtOnce, Failing, FirstPoll, Later, call_host_by}
use Rattle.machine_rules.specs.Finish.{SomeHost}

-- a call that goes on never stops its strand
pub host_goes_on : (n q : ℕ) (p : FirstPoll) (s : Core) (o : OpResult) (t : Core) → Implements (call_host_by SomeHost n q s p) s o t → has_stopped o ≡ false
host_goes_on n q (AtOnce v) s o t h = ap has_stopped h.0
host_goes_on n q Failing s o t h = ap has_stopped h.0
host_goes_on n q (Later host) s o t h = goes_on (call_host_by SomeHost n q s (Later host)) s o t (two_traps (not (fits 1 s)) (at_handle_limit s) _ _ _ tt) h
