-- What a host reads of an instance.
use Rattle.std.specs.Prelude.{Bool, Option, option_map, ℕ}
use Rattle.ops_state.specs.declared.instance_calls.ConcurrentInstanceState.{ConcurrentInstanceState}
use Rattle.machine_data.specs.Core.{Core}
use Rattle.machine_data.specs.Maps.{get}
use Rattle.machine_data.specs.Read.{is_nil}
use Rattle.machine_data.specs.declared.records.Instance.{Instance}
use Rattle.core_primitives.specs.Held.{held_in}

abbrev pub shown : (none_held : Bool) → Instance → ConcurrentInstanceState
shown none_held r = record {
  pending_is_empty = none_held;
  backpressure = r.backpressure;
  do_not_enter = r.do_not_enter;
  do_not_suspend = r.do_not_suspend;
}

-- the instance of this number; None if there is none
abbrev pub instance_state : ℕ → Core → Option ConcurrentInstanceState
instance_state i s = option_map (shown (is_nil (held_in i s))) (get s.instances i)
