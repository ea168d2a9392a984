-- The call of each thread is there, along the primitives of a step.
use Rattle.laws_states.proofs.Rules.{after_primitive, Allowed, arith, CallsThere, Core, get, is_some, IsRunner, nat_tests, no_thread_left, Scene, task_of, true, Primitive, ℕ, ◌≡◌}
use Rattle.laws_states.proofs.CallsCame.{call_came, CallAfter, thread_came, ThreadAfter}

-- the call of the thread that runs or was taken was there
abbrev pub RunnerHoused : Scene → Type 0
RunnerHoused a = (n : ℕ) → IsRunner a n → is_some (get a.base.calls (task_of n a.base)) ≡ true

pub housed_primitive : (a : Scene) → RunnerHoused a → (w : Primitive) (s : Core) → Allowed a w s → CallsThere s → CallsThere (after_primitive w s)
housed_primitive a known w s ok q n k h =
    let i : ThreadAfter a w s n = thread_came w s ok n in
    let j : CallAfter a w s k = call_came w s ok k in
    let left = no_thread_left k n s in
    grind (arith, nat_tests, q n k, known)
