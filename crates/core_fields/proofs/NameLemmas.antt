-- A thread's handle, given and then written.
use Rattle.std.proofs.Common.{is_ok, IsOk, IsSome, Option, refl, ◌<◌}
use Rattle.core_records.proofs.ReadLemmas.{thread_item, thread_stands}
use Rattle.core_records.specs.declared.{parts.CoreParts.CoreParts}
use Rattle.core_records.proofs.Core.{ap, ap₂, item_at, item_of, None, seen, give_handle, give_thread_handle, instance_of, Named, new_handle, new_thread_handle, on_core, set_subtask_handle, set_thread_handle, Some, StateView, Subtask, subtask_in, SubtaskId, sym, TableId, thread_at, thread_of, ThreadKey, with_handle, with_thread_handle, ℕ, ◌∙◌, ◌≡◌}

-- the record of a thread that is there is found under its id
item_some : {T : Type 0} (o : Option T) → IsSome o → (g : T) × (Some g ≡ o)
item_some None is = absurd (cc)
item_some (Some g) is = (g, refl)

pub thread_known : (a : CoreParts) (id : TableId ThreadKey) → 0 < thread_of (seen a) id → IsOk (item_at item_of a.threads id.rep id.serial)
thread_known a id live =
    let one = item_some _ (thread_stands a id live) in
    sym (ap is_ok (thread_item a id live one.0 one.1))

module _ (s t : StateView) (thread : TableId ThreadKey) (i n h : ℕ) (given : t ≡ on_core (give_thread_handle i n) s) (number : n ≡ thread_of s thread) (instance : i ≡ instance_of (thread_of s thread) s.core) where
  same_number : thread_of t thread ≡ thread_of s thread
  same_number = ap (λ (v : StateView). thread_of v thread) given

  same_instance : instance_of (thread_of t thread) t.core ≡ instance_of (thread_of s thread) s.core
  unfolding give_thread_handle
  same_instance = ap (λ (v : StateView). instance_of (thread_of v thread) v.core) given

  -- the handle that was given names the thread
  pub owns : thread_at i h t.core ≡ Some n → thread_at (instance_of (thread_of t thread) t.core) h t.core ≡ Some (thread_of t thread)
  owns names = ap (λ j. thread_at j h t.core) (same_instance ∙ sym instance) ∙ (names ∙ ap (λ m. Some m) (number ∙ sym same_number))

  -- and both writes are the machine's one
  pub named : (u : StateView) → u ≡ on_core (set_thread_handle (thread_of t thread) (Some h)) t → h ≡ new_thread_handle i s.core → u ≡ on_core (with_thread_handle (instance_of (thread_of s thread) s.core) (thread_of s thread)) s
  unfolding with_thread_handle
  named u written is =
      written
      ∙ (ap (λ (m : ℕ). on_core (set_thread_handle m (Some h)) t) (same_number ∙ sym number)
      ∙ (ap (λ (v : StateView). on_core (set_thread_handle n (Some h)) v) given
      ∙ (ap (λ (k : ℕ). on_core (λ c. set_thread_handle n (Some k) (give_thread_handle i n c)) s) is
      ∙ ap₂ (λ (j m : ℕ). on_core (λ c. set_thread_handle m (Some (new_thread_handle j s.core)) (give_thread_handle j m c)) s) instance number)))

-- ---- A subtask's handle

module _ (s t : StateView) (subtask : SubtaskId) (i h : ℕ) (given : t ≡ on_core (give_handle i (Named.Subtask (subtask_in s.tags subtask))) s) where
  same_subtask : subtask_in t.tags subtask ≡ subtask_in s.tags subtask
  same_subtask = ap (λ (v : StateView). subtask_in v.tags subtask) given

  pub subtask_named : (u : StateView) → u ≡ on_core (set_subtask_handle (subtask_in t.tags subtask) (Some h)) t → h ≡ new_handle i s.core → u ≡ on_core (with_handle i (subtask_in s.tags subtask)) s
  unfolding with_handle
  subtask_named u written is =
      written
      ∙ (ap (λ (m : Subtask). on_core (set_subtask_handle m (Some h)) t) same_subtask
      ∙ (ap (λ (v : StateView). on_core (set_subtask_handle (subtask_in s.tags subtask) (Some h)) v) given
      ∙ ap (λ (k : ℕ). on_core (λ c. set_subtask_handle (subtask_in s.tags subtask) (Some k) (give_handle i (Named.Subtask (subtask_in s.tags subtask)) c)) s) is))
