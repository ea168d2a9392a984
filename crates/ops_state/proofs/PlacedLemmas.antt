-- What these calls ask, where each thread has its place.
use Rattle.std.proofs.Common.{ap, arith, refl, ◌∙◌}
use Rattle.std.specs.Option.{option_map_or}
use Rattle.std.specs.Prelude.{Bool, Option, Some, false, true, ℕ, ◌==◌, ◌≡◌}
use Rattle.machine_data.specs.Core.{Core}
use Rattle.machine_data.specs.Read.{foot_of, is_blocked_on, is_waiting_on, place_of}
use Rattle.machine_data.specs.declared.records.Place.{Place}
use Rattle.machine_data.specs.declared.records.Place.TheVariants as place
use Rattle.machine_data.specs.declared.records.Subtask.{Subtask}
use Rattle.ops_moves.specs.Idle.{AreIdleUnqueued}
use Rattle.ops_moves.specs.Stops.{MayStop}
use Rattle.ops_guests.proofs.RunLemmas.{callers_alone, callers_queued}
use Rattle.machine_rules.specs.Places.{HasPlace, Placed, is_at_high, is_at_low, says}
use Rattle.core_primitives.specs.Apart.{IsUnqueued}

idle_unqueued : (n : ℕ) (p : Place) (s : Core) → place_of n s ≡ Some p → is_at_high p ≡ false → is_at_low p ≡ false → HasPlace n s → IsUnqueued n s
idle_unqueued n p s at high low h = record {
  high = h.high ∙ (ap (says is_at_high) at ∙ grind (arith, high));
  low = h.low ∙ (ap (says is_at_low) at ∙ grind (arith, low));
}

waiting_place : (x : ℕ) (o : Option Place) → option_map_or (is_waiting_on x) o false ≡ true → (b : Bool) × (o ≡ Some (place.Waiting x b))
waiting_place x o h = grind arith

blocked_place : (sub : Subtask) (o : Option Place) → option_map_or (is_blocked_on sub) o false ≡ true → (on : Subtask) × (o ≡ Some (place.Blocked on))
blocked_place sub o h = grind arith

pub placed_idle : (s : Core) → Placed s → AreIdleUnqueued s
placed_idle s placed = record {
  waiters = λ x k h. let p = waiting_place x (place_of k s) h in idle_unqueued k (place.Waiting x p.0) s p.1 refl refl (placed k);
  blocked = λ sub k h. let p = blocked_place sub (place_of k s) h in idle_unqueued k (place.Blocked p.0) s p.1 refl refl (placed k);
}

-- ---- A stop

pub placed_may_stop : (f : ℕ) (s : Core) → Placed s → ((m : ℕ) → s.queues.switch ≡ Some m → (foot_of m s == f) ≡ false) → MayStop f s
placed_may_stop f s placed apart = record {
  unqueued = λ k. callers_queued s f k (placed k);
  alone = λ k g d. callers_alone s f g k d (placed k);
  apart = apart;
}
