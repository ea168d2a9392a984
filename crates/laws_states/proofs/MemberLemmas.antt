-- The ready members of a set are named in the set's instance.
use Rattle.laws_states.proofs.Primitives.{arith, Core, is_ready_member, IsOf, Join, join_of, JoinsNamed, NamesKnown, nat_tests, Some, Subtask, subtask_at, subtask_handle, true, WorksKnown, ℕ, ◌≡◌}

-- the handle that names a subtask is the one that its record says
pub handle_is : (s : Core) → NamesKnown s → WorksKnown s → (i h : ℕ) (sub : Subtask) → subtask_at i h s ≡ Some sub → subtask_handle sub s ≡ Some h
handle_is s calls works i h (Subtask.Guest k) e = calls.there i h k e
handle_is s calls works i h (Subtask.Host j) e = works.there i h j e

member_joined : (x : ℕ) (sub : Subtask) (s : Core) → is_ready_member x sub s ≡ true → join_of sub s ≡ Join.Set x
member_joined x sub s ready = grind (arith, nat_tests)

pub members_named : (s : Core) → JoinsNamed s → NamesKnown s → WorksKnown s → (i x : ℕ) → IsOf i x s → (sub : Subtask) → is_ready_member x sub s ≡ true →
    (h : ℕ) × ((subtask_handle sub s ≡ Some h) × (subtask_at i h s ≡ Some sub))
members_named s joins calls works i x home sub ready =
    let j = joins.joins sub x (member_joined x sub s ready) in
    let at = j.home in
    let one : j.instance ≡ i = grind arith in
    (j.handle, (handle_is s calls works j.instance j.handle sub j.named, rw one at j.named))
