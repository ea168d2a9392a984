-- The push of a host work is queued.
use Rattle.core_records.proofs.Core.{[], ap, bare, bare_work, entries, Entry, High, host_entry, HostTaskKey, inl, inr, is_free, IsLinks, IsKeyed, IsSome, IsSoundCore, IsWhole, item_at, item_of, linked, List, list_of, None, Ok, on_core, on_item, option_map, CoreImage, parts_of, Placed, push_entry, push_high, refl, row, seen, Some, Spot, subst, sym, TableId, true, work_entries, work_of, ℕ, ◌++◌, ◌∙◌, ◌∷◌, ◌≡◌}
use Rattle.core_records.specs.declared.{parts.CoreParts.CoreParts, single.Single.Single, thread_records.Queued.Queued, work_records.WorkRecord.WorkRecord}
use Rattle.core_queues.proofs.BareLemmas.{place_mapped}
use Rattle.core_queues.proofs.PushLemmas.{host_free}
use Rattle.core_queues.proofs.RowLemmas.{pushed_work}
use Rattle.core_queues.proofs.OrderKeyLemmas.{order_key_of}
use Rattle.core_queues.proofs.SeenLemmas.{high_pushed, rows_after, rows_sound}
use Rattle.core_queues.specs.OrderKeys.{OfWork, RowsAre, row_with}
use Rattle.core_records.proofs.KindLemmas.{item_stands}
use Rattle.core_records.proofs.ReadLemmas.{work_named}

module _ (a : CoreParts) (sound : IsSoundCore a) (id : TableId HostTaskKey) (w : WorkRecord) (is : Ok w ≡ item_at item_of a.works id.rep id.serial) (rep : ℕ) (rep_is : rep ≡ id.rep) (v : Queued) (v_is : v ≡ push_entry rep w) (c : ℕ) (at : a.high ≡ Some c) where
  abbrev bared : CoreImage
  bared = bare (parts_of a)

  whole : IsWhole bared
  unfolding IsSoundCore
  whole = sound.whole

  there : v ≡ push_entry id.rep w
  there = v_is ∙ ap (λ r. push_entry r w) rep_is

  keyed : IsKeyed bared v
  unfolding IsSoundCore
  keyed =
      let one = item_stands (λ (w : WorkRecord). w.number) (λ (w : WorkRecord). w.work) a.works a.made.works sound.tables.works id.rep id.serial w is in
      subst (IsKeyed bared) (sym there)
      (ap (option_map (λ (q : Placed (Single WorkRecord)). push_entry id.rep q.entry.item)) (place_mapped (on_item bare_work) a.works id.rep one.0 one.1.0) ∙ ap (λ (e : Single WorkRecord). Some (push_entry id.rep (bare_work e.item))) one.1.1.1)

  of_work : OfWork bared v
  of_work = elim (order_key_of bared v keyed) [
    | inl order_key ↦ absurd (let two : Some (order_key.placed.entry.item.instance) ≡ None = ap (λ (q : Queued). q.instance) (order_key.is ∙ there) in cc)
    | inr order_key ↦ order_key
  ]

  pub chain_live : IsSome (list_of a.marks c)
  chain_live = whole.chained.marks.live High c at

  module _ (none : work_entries (work_of (seen a) id) (seen a).core.queues.high ≡ 0) (links : IsLinks a.marks) where
    pub entry_free : is_free a.marks v.mark.index ≡ true
    entry_free = ap (λ (q : Queued). is_free a.marks q.mark.index) there ∙ host_free a sound id w is id.rep refl (host_entry id.rep w) refl c at none links

    module _ (marks : List (Spot Queued)) (puts : marks ≡ linked c v.mark.index v (entries a.marks c ++ (v.mark.index, v) ∷ []) a.marks) where
      rows : RowsAre bared marks a.instance_queues (row_with High (row bared High ++ v ∷ []) (row bared))
      rows = pushed_work bared whole High c at v keyed entry_free (row bared High ++ v ∷ []) marks of_work refl refl puts

      pub entry_sound : IsSoundCore (rows_after a marks a.instance_queues)
      entry_sound = rows_sound a marks a.instance_queues _ rows sound

      pub entry_seen : seen (rows_after a marks a.instance_queues) ≡ on_core (push_high (Entry.Push (work_of (seen a) id))) (seen a)
      entry_seen = high_pushed a marks a.instance_queues v rows ∙ ap (λ e. on_core (push_high e) (seen a)) (ap (λ (q : Queued). q.entry) there ∙ ap (λ i. Entry.Push i) (work_named a id w is))
