-- The thread at switch.
use Rattle.core_records.proofs.Core.{ap, bare, bare_thread, follower, IfSome, IsFollower, IsSoundCore, item_at, item_of, key_in, None, number_in, Ok, on_core, on_item, Option, option_map, parts_of, place_at, Placed, record_at, refl, same_Some, seen, set_switch, Some, subst, sym, TableId, thread_key, thread_of, ThreadKey, ℕ, ◌<◌, ◌∙◌, ◌≡◌}
use Rattle.core_records.specs.declared.{parts.CoreParts.CoreParts, single.Single.Single, thread_records.Follower.Follower, thread_records.GuestThread.GuestThread}
use Rattle.core_records.proofs.KindLemmas.{item_stands}
use Rattle.core_records.proofs.ReadLemmas.{thread_named}
use Rattle.core_queues.proofs.BareLemmas.{mapped_place, number_positive, place_mapped}
use Rattle.core_queues.proofs.WholeLemmas.{chains_sound, chains_whole}

module _ (a : CoreParts) where
  module _ (sound : IsSoundCore a) (id : TableId ThreadKey) (g : GuestThread) (is : Ok g ≡ item_at item_of a.threads id.rep id.serial) (rep : ℕ) (rep_is : rep ≡ id.rep) where
    -- a thread as it is among callers, or at switch
    pub follower_kept : IsFollower (bare (parts_of a)) (record { number = g.number; place = rep; node = g.caller })
    unfolding IsSoundCore
    follower_kept =
        let one = item_stands (λ (g : GuestThread). g.number) (λ (g : GuestThread). g.thread) a.threads a.made.threads sound.tables.threads id.rep id.serial g is in
        subst (λ r. IsFollower (bare (parts_of a)) (record { number = g.number; place = r; node = g.caller })) (sym rep_is)
        (ap (option_map (λ q. follower id.rep q.entry.item)) (place_mapped (on_item bare_thread) a.threads id.rep one.0 one.1.0) ∙ ap (λ (e : Single GuestThread). Some (follower id.rep (bare_thread e.item))) one.1.1.1)

  pub follower_number : (id : TableId ThreadKey) (g : GuestThread) → Ok g ≡ item_at item_of a.threads id.rep id.serial → Some g.number ≡ Some (thread_of (seen a) id)
  follower_number id g is = ap (λ (n : ℕ). Some n) (thread_named a id g is)

  -- a thread that is kept as a follower is at its place
  module _ (sound : IsSoundCore a) (f : Follower) (is : IsFollower (bare (parts_of a)) f) where
    follower_placed : (q : Placed (Single GuestThread)) × ((place_at a.threads f.place ≡ Some q) × (f.number ≡ q.entry.item.number))
    follower_placed = by (place_at (bare (parts_of a)).threads f.place) refl is
      where
        by : (o : Option (Placed (Single GuestThread))) → place_at (bare (parts_of a)).threads f.place ≡ o → option_map (λ (q : Placed (Single GuestThread)). follower f.place q.entry.item) o ≡ Some f → (q : Placed (Single GuestThread)) × ((place_at a.threads f.place ≡ Some q) × (f.number ≡ q.entry.item.number))
        by None at is = absurd (cc)
        by (Some q) at is =
            let one = mapped_place (on_item bare_thread) a.threads f.place q at in
            (one.0, (one.1.0, sym (ap (λ (g : Follower). g.number) (same_Some (follower f.place q.entry.item) f is)) ∙ sym (ap (λ (e : Single GuestThread). e.item.number) one.1.1)))

    pub follower_here : number_in (record_at thread_key a.threads.places f.place) ≡ f.number
    follower_here = ap (λ o. number_in (key_in thread_key o)) follower_placed.1.0 ∙ sym follower_placed.1.1

    pub follower_positive : 0 < f.number
    unfolding IsSoundCore
    follower_positive = subst (λ n. 0 < n) (sym follower_placed.1.1) (number_positive (λ (g : GuestThread). g.number) (λ (g : GuestThread). g.thread) a.threads a.made.threads sound.tables.threads f.place follower_placed.0 follower_placed.1.0)

  pub switch_follows : IsSoundCore a → (f : Follower) → a.switch ≡ Some f → IsFollower (bare (parts_of a)) f
  unfolding IsSoundCore
  switch_follows sound f is = subst (λ o. IfSome o (IsFollower (bare (parts_of a)))) is sound.whole.named.switch

  module _ (switch : Option Follower) where
    abbrev pub switch_after : CoreParts
    switch_after = record a { switch = switch }

    pub switch_sound : IsSoundCore a → IfSome switch (IsFollower (bare (parts_of a))) → IsSoundCore switch_after
    unfolding IsSoundCore
    switch_sound sound follows = chains_sound a a.marks a.instance_queues a.behind switch sound
        (chains_whole (bare (parts_of a)) sound.whole a.marks a.instance_queues a.behind switch follows (λ n made. made) (λ n made. made) (λ n made. made) sound.whole.chained.marks sound.whole.chained.instance_queues sound.whole.chained.low sound.whole.chained.behind)

    pub switch_seen : (n : Option ℕ) → option_map (λ (f : Follower). f.number) switch ≡ n → seen switch_after ≡ on_core (set_switch n) (seen a)
    unfolding seen set_switch
    switch_seen n is = ap (λ (o : Option ℕ). record (seen a) { core = record (seen a).core { queues = record (seen a).core.queues { switch = o } } }) is
