-- The machine's maps for what is kept by places, and for tables of handles.
use Rattle.std.specs.Prelude.{ℕ, T, List, [], ◌∷◌, map}
use Rattle.std.specs.Ordering.{nat_cmp}
use Rattle.std.specs.FinMap as fin
use Rattle.std.specs.FinMap.Entries.{is_sorted, below_all}
use Rattle.std.proofs.Common.{◌≡◌, suc, refl, sym, subst}
use Rattle.machine_data.specs.declared.records.Named.{Named}
use Rattle.machine_data.specs.declared.records.Named.TheVariants as named
use Rattle.machine_data.specs.declared.records.Subtask.TheVariants as subtask
use Rattle.task_handles.specs.declared.kinds.HandleKind.{HandleKind}
use Rattle.task_handles.specs.declared.kinds.HandleKind.TheVariants as handle
use Rattle.task_handles.specs.declared.kinds.WaitableKind.TheVariants as waitable
use Rattle.task_handles.specs.declared.kinds.HeldItem.{HeldItem}
use Rattle.task_handles.specs.declared.kinds.Rep.{Rep}
use Rattle.task_handles.specs.Handles.{Handles}
use Rattle.machine_data.specs.Maps.{Records, empty, insert}
use Rattle.machine_data.specs.Core.{NameTable}

-- the map that has these at their places, the first at i
unfoldable pub by_place_from : {X : Type 0} → ℕ → List X → Records X
by_place_from i [] = empty
by_place_from i (x ∷ xs) = insert (by_place_from (suc i) xs) i x

abbrev pub by_place : {X : Type 0} → List X → Records X
by_place xs = by_place_from 0 xs

abbrev pub mapped : {X Y : Type 0} → (X → Y) → List (ℕ × X) → List (ℕ × Y)
mapped f es = map (λ e. (e.0, f e.1)) es

module _ {X Y : Type 0} (f : X → Y) where
  pub below_all-mapped : (n : ℕ) (es : List (ℕ × X)) → below_all nat_cmp n (mapped f es) ≡ below_all nat_cmp n es
  below_all-mapped n [] = refl
  below_all-mapped n (e ∷ es) = rw (below_all-mapped n es) refl

  pub is_sorted-mapped : (es : List (ℕ × X)) → is_sorted nat_cmp (mapped f es) ≡ is_sorted nat_cmp es
  is_sorted-mapped [] = refl
  is_sorted-mapped (e ∷ es) = rw (below_all-mapped e.0 es, is_sorted-mapped es) refl

  -- the map of a table's handles, with f of what they represent
  unfoldable pub records_by : fin.FinMap nat_cmp X → Records Y
  records_by m =
      record { list = mapped f (fin.entries m); sorted = subst T (sym (is_sorted-mapped (fin.entries m))) (fin.entries_sorted m) }

  -- the machine's table of these handles
  abbrev pub handle_table : Handles X → NameTable Y
  handle_table t = record { live = records_by t.live; freed = t.freed }

abbrev pub named_as : HandleKind → ℕ → Named
named_as (handle.Waitable waitable.GuestSubtask) n = named.Subtask (subtask.Guest n)
named_as (handle.Waitable waitable.HostSubtask) n = named.Subtask (subtask.Host n)
named_as _ n = named.Set n

-- what a handle names: the serial of what represents a call, a work or a set is its number
abbrev pub named_of : HeldItem → Named
named_of h = named_as h.kind h.rep.serial

-- the thread that a thread handle names
abbrev pub thread_of : Rep → ℕ
thread_of r = r.serial
