-- A table and its counter change together.
use Rattle.std.proofs.Common.{◌≡◌, ℕ, ◌+◌, ◌-◌, ◌<◌, ◌≤◌, List, ◌∷◌, sum, sym, ap, ◌∙◌, arith}
use Rattle.std.specs.Prelude.{None, IsSome}
use Rattle.std.specs.Ordering.{nat_cmp}
use Rattle.std.specs.FinMap as map
use Rattle.std.proofs.lemmas.List.Sums.{sum_by-cons}
use Rattle.task_handles.specs.Counter.{Counter, raised, lowered}
use Rattle.task_handles.specs.Counted.{Counts, CountsHandle, CountsReserved, KeepsSum, Inserts, InsertsReserved, Removes}
use Rattle.task_handles.specs.Handles.{Handles, no_handles, held_by, live_count, IsWhole, next_handle, with_held, without}
use Rattle.task_handles.specs.declared.TheConstants.{MAX_HANDLES}
use Rattle.task_handles.proofs.HandleLaws.{live_count-with_held, live_count-without, live_count_positive}
use Rattle.task_handles.proofs.StepLemmas.{value_in}

added : (n : ℕ) (others : List ℕ) → sum (n ∷ others) ≡ n + sum others
added n others = sum_by-cons (λ x. x) n others

module _ {X : Type 0} where
  raises_sum : (old new : Handles X) (before after : Counter) → live_count new ≡ live_count old + 1 → after ≡ raised before → KeepsSum old new before after
  raises_sum old new before after more e others reserved was = rw e (omega (arith, was, more, added (live_count old) others, added (live_count new) others))

  lowers_sum : (old new : Handles X) (before after : Counter) → live_count new ≡ live_count old - 1 → 0 < live_count old → after ≡ lowered before → KeepsSum old new before after
  lowers_sum old new before after fewer some e others reserved was = rw e (omega (arith, was, fewer, some, added (live_count old) others, added (live_count new) others))

  pub inserts : (x : X) (old new : Handles X) (before after : Counter) (handle : ℕ) → handle ≡ next_handle old → IsWhole old → held_by old handle ≡ None → 0 < handle → handle ≤ MAX_HANDLES → new ≡ with_held x old → after ≡ raised before → Counts before old
      → Inserts x old new before after handle
  inserts x old new before after handle next whole free positive small table counter counts =
      let more : live_count new ≡ live_count old + 1 = ap live_count table ∙ live_count-with_held x old (ap (held_by old) (sym next) ∙ free) in
      record {
        handle_is = next;
        whole = whole;
        free = free;
        positive = positive;
        small = small;
        table = table;
        counter = counter;
        counts = rw counter (omega (arith, more, counts));
        keeps_sum = raises_sum old new before after more counter;
      }

  -- a reservation is released, and the handle is inserted after that
  pub inserts_reserved : (x : X) (old new : Handles X) (before after : Counter) (handle : ℕ) → handle ≡ next_handle old → IsWhole old → held_by old handle ≡ None → 0 < handle → handle ≤ MAX_HANDLES → new ≡ with_held x old
      → after ≡ raised (lowered before) → CountsReserved before old → InsertsReserved x old new before after handle
  inserts_reserved x old new before after handle next whole free positive small table counter counts =
      inserts x old new (lowered before) after handle next whole free positive small table counter (omega (arith, counts))

  pub removes : (handle : ℕ) (old new : Handles X) (before after : Counter) → IsSome (held_by old handle) → new ≡ without handle old → after ≡ lowered before → Removes handle old new before after
  removes handle old new before after live table counter =
      let held = value_in (held_by old handle) live in
      let fewer : live_count new ≡ live_count old - 1 = ap live_count table ∙ live_count-without handle old held.0 held.1 in
      let some = live_count_positive old handle held.0 held.1 in
      record {
        table = table;
        counter = counter;
        counts = λ counted. rw counter (omega (arith, counted, fewer, some));
        keeps_sum = lowers_sum old new before after fewer some counter;
      }

  -- a counter that counts each live handle of a table counts this one
  pub CountsHandle-Counts : (c : Counter) (t : Handles X) (handle : ℕ) → Counts c t → CountsHandle c t handle
  CountsHandle-Counts c t handle counts = record { counted = λ live. let held = value_in (held_by t handle) live in omega (arith, counts, live_count_positive t handle held.0 held.1) }

-- every counter counts the handles of a table that has none
pub Counts-no_handles : (X : Type 0) (c : Counter) → Counts c (no_handles {X = X})
Counts-no_handles X c = omega (arith, map.len-empty nat_cmp X)

-- a counter that counts something counts a reservation beside the handles of a table that has none
pub CountsReserved-no_handles : (X : Type 0) (c : Counter) → 0 < c.live → CountsReserved c (no_handles {X = X})
CountsReserved-no_handles X c some = omega (arith, map.len-empty nat_cmp X, some)

pub ruleset counting = (Counts-no_handles, CountsHandle-Counts, CountsReserved-no_handles)
