-- How a table and the counter of its handles change together.
use Rattle.std.specs.Prelude.{◌≡◌, ℕ, ◌<◌, ◌≤◌, List, ◌∷◌, None, IsSome}
use Rattle.task_handles.specs.Counter.{Counter, raised, lowered, IsSumOf}
use Rattle.task_handles.specs.Handles.{Handles, held_by, live_count, IsWhole, next_handle, with_held, without}
use Rattle.task_handles.specs.declared.TheConstants.{MAX_HANDLES}

module _ {X : Type 0} where
  -- each live handle of the table is among those that the counter counts
  abbrev pub Counts : Counter → Handles X → Type 0
  Counts c t = live_count t ≤ c.live

  -- the handle, if it is live, is among those that the counter counts
  pub record CountsHandle (c : Counter) (t : Handles X) (handle : ℕ) : Type 0 where
    pub counted : IsSome (held_by t handle) → 0 < c.live

  -- beside each live handle of the table the counter counts a reservation
  abbrev pub CountsReserved : Counter → Handles X → Type 0
  CountsReserved c t = live_count t < c.live

  -- if the live count was the sum of the live handles of this table and of others, and of reservations, it is so again
  abbrev pub KeepsSum : Handles X → Handles X → Counter → Counter → Type 0
  KeepsSum old new before after =
      (others : List ℕ) (reserved : ℕ) → IsSumOf before (live_count old ∷ others) reserved →
      IsSumOf after (live_count new ∷ others) reserved

  -- an insert of x gave a handle that wasn't live, and the counter counts it
  pub record Inserts (x : X) (old new : Handles X) (before after : Counter) (handle : ℕ) : Type 0 where
    pub handle_is : handle ≡ next_handle old
    pub whole : IsWhole old
    pub free : held_by old handle ≡ None
    pub positive : 0 < handle
    pub small : handle ≤ MAX_HANDLES
    pub table : new ≡ with_held x old
    pub counter : after ≡ raised before
    pub counts : Counts after new
    pub keeps_sum : KeepsSum old new before after

  -- a reservation became that of a new handle for x: as if it was released and the handle inserted after that
  abbrev pub InsertsReserved : X → Handles X → Handles X → Counter → Counter → ℕ → Type 0
  InsertsReserved x old new before after handle = Inserts x old new (lowered before) after handle

  -- a live handle was removed, and the counter no longer counts it
  pub record Removes (handle : ℕ) (old new : Handles X) (before after : Counter) : Type 0 where
    pub table : new ≡ without handle old
    pub counter : after ≡ lowered before
    pub counts : Counts before old → Counts after new
    pub keeps_sum : KeepsSum old new before after

  -- nothing of the two changed
  abbrev pub Unchanged : Handles X → Handles X → Counter → Counter → Type 0
  Unchanged old new before after = (new ≡ old) × (after ≡ before)
