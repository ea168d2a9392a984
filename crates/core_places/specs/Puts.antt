-- What is asked where a thread is put at a place, and what is so then.
use Rattle.std.specs.Prelude.{◌≡◌, ◌+◌, ◌-◌, ◌<◌, ◌≤◌, ◌^◌, ℕ, None, Ok, Option, length, option_and_then}
use Rattle.core_places.specs.Moved.{placed, recounted}
use Rattle.table_links.specs.Links.{removed}
use Rattle.machine_data.specs.Core.{Core}
use Rattle.machine_data.specs.Write.{set_place}
use Rattle.machine_data.specs.declared.records.Place.{Place}
use Rattle.core_records.specs.Kinds.{entry_of, item_of}
use Rattle.core_records.specs.RecordPlaces.{place_chain, where_at}
use Rattle.core_records.specs.Seen.{IsSoundCore, parts_of, seen}
use Rattle.core_records.specs.Sound.{bare}
use Rattle.core_records.specs.declared.parts.CoreParts.{CoreParts}
use Rattle.core_records.specs.declared.set_records.WaitSet.{WaitSet}
use Rattle.core_records.specs.declared.single.Single.{Single}
use Rattle.core_records.specs.declared.thread_records.GuestThread.{GuestThread}
use Rattle.task_table.specs.TableAnswers.{item_at}
use Rattle.task_table.specs.Changes.{with_entry}
use Rattle.task_table.specs.Table.{Table}
use Rattle.task_table.specs.declared.id.TableId.{TableId}
use Rattle.task_wait.specs.declared.keys.SetKey.{SetKey}
use Rattle.task_wait.specs.declared.keys.ThreadKey.{ThreadKey}
use Rattle.core_primitives.specs.StateView.{on_core, thread_of}

-- The counts of entries fit where the one set has one less and the other one more.
pub record MayRecount (t : Table (Single WaitSet)) (from to : TableId SetKey) : Type 0 where
  pub few : length t.places ≤ 4294967295
  pub some : (x : WaitSet) → Ok x ≡ item_at item_of t from.rep from.serial → 1 ≤ x.entries
  pub room : (x : WaitSet) → Ok x ≡ item_at item_of (recounted (λ n. n - 1) from.rep from.serial t) to.rep to.serial → x.entries + 1 < 2 ^ 64

-- At the place the thread of the id, if it is there, is in this chain.
abbrev pub IsChainAt : CoreParts → TableId ThreadKey → Place → Option ℕ → Type 0
IsChainAt a id p chain =
    (g : GuestThread) → Ok g ≡ item_at item_of a.threads id.rep id.serial →
    option_and_then (place_chain (bare (parts_of a))) (where_at g.instance g.barred p) ≡ chain

-- The core that is seen becomes what the step makes of it, and is sound.
pub record BecomesBy (a b : CoreParts) (step : Core → Core) : Type 0 where
  pub sound : IsSoundCore b
  pub new : seen b ≡ on_core step (seen a)

-- The thread of the id, if it is there, is at the place, with where what it names there is. In no chain it has no link.
pub record IsPut (a b : CoreParts) (id : TableId ThreadKey) (p : Place) (state_target : ℕ) (chain : Option ℕ) : Type 0 where
  pub sound : IsSoundCore b
  pub new : seen b ≡ on_core (set_place (thread_of (seen a) id) p) (seen a)
  pub threads : (g : GuestThread) → Ok g ≡ item_at item_of a.threads id.rep id.serial →
      b.threads ≡ with_entry id.rep (entry_of (placed g p state_target)) a.threads
  pub left : (g : GuestThread) → Ok g ≡ item_at item_of a.threads id.rep id.serial →
      chain ≡ None → b.places ≡ removed g.node.index a.places
