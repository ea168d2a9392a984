-- The taking of an entry keeps that no wake is lost.
use Rattle.laws_places.proofs.Laws.{admits, arith, Core, event_of, inl, Mark, popped, Queues, refl, Subtask, Why, ℕ, ◌≡◌}
use Rattle.machine_data.specs.Write.{set_high, set_low, set_switch}
use Rattle.machine_data.specs.Read.{join_of}
use Rattle.laws_places.proofs.Balance.{Quiet}
use Rattle.laws_places.proofs.BlockedLemmas.{ended_as}
use Rattle.laws_order.proofs.EaseLemmas.{callers_kept, Moves, moves_keep, nobody, none_leaves}
use Rattle.laws_order.proofs.MoveLemmas.{member_as}
use Rattle.laws_order.specs.WakesKept.{PopKeeps, SwitchReady}

-- only what is at the marks is otherwise
queue_moves : (q : Queues) (s : Core) → (SwitchReady s → SwitchReady (record s { queues = q })) → Moves s (record s { queues = q })
queue_moves q s switch = record {
  callers = callers_kept nobody s t (none_leaves s t) (λ n. inl refl);
  still = λ n p kind at. (at, refl);
  admits = λ n w at. admitted n w;
  events = λ n sub at. inl (read sub).0;
  works = λ sub. ended_as sub s t refl;
  counts = λ y j now was. Quiet (λ d on. member_as y d s t (read d).0 (read d).1 on) (λ n on. on);
  behind = λ h. h;
  switch = switch;
}
  where
    t : Core
    t = record s { queues = q }

    admitted : (n : ℕ) (w : Why) → admits n t w ≡ admits n s w
    admitted n Why.Start = refl
    admitted n (Why.Delivery d) = refl
    admitted n Why.Resumption = refl

    read : (sub : Subtask) → (event_of sub t ≡ event_of sub s) × (join_of sub t ≡ join_of sub s)
    read (Subtask.Guest k) = (refl, refl)
    read (Subtask.Host i) = (refl, refl)

pop_moves : (m : Mark) (s : Core) → Moves s (popped m s)
unfolding popped set_switch set_high set_low
pop_moves Mark.Switch s = queue_moves _ s (λ h m is. absurd (grind (arith, is)))
pop_moves Mark.High s = queue_moves _ s (λ h. h)
pop_moves Mark.Low s = queue_moves _ s (λ h. h)

pub pop_keeps : PopKeeps
unfolding PopKeeps
pop_keeps m s h = moves_keep (pop_moves m s) h
