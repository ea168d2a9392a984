-- An entry leaves its mark, as primitives take it out.
use Rattle.core_records.proofs.Core.{[], ap, ap₂, arith, bare, cond, Entry, eqb-true, false, has_entry, High, inl, inr, is_entry_of, is_made, is_some, IsLinks, IsKeyed, IsSome, IsSoundCore, IsWhole, less_by, List, list_any, Low, map, Mark, ne_eqb, None, on_core, CoreImage, parts_of, popped, refl, removed, rest_of, Row, row, same_Some, seen, set_high, set_low, Some, Spot, subst, sym, true, unqueued, ℕ, ◌<◌, ◌||◌, ◌∙◌, ◌∷◌, ◌≡◌}
use Rattle.table_lists.proofs.Queues.{unqueued_both}
use Rattle.core_records.specs.declared.{parts.CoreParts.CoreParts, thread_records.Queued.Queued}
use Rattle.core_queues.specs.OrderKeys.{OfThread, OfWork, RowsAre, is_entry_of_work, leaves, left, rest, top}
use Rattle.core_queues.proofs.RowLemmas.{left_elsewhere, mark_made, row_known, instance_queue_made, thread_left, work_left}
use Rattle.core_queues.proofs.OrderKeyLemmas.{leaves_itself, leaves_thread, same_thread, order_key_of, threads_own}
use Rattle.core_queues.proofs.SeenLemmas.{queues_seen, row_seen, rows_after, rows_seen, rows_sound}
use Rattle.core_queues.proofs.BareLemmas.{thread_number_positive, thread_one_place}
use Rattle.core_queues.proofs.ListLemmas.{any-known, less_nothing, map-less_known, same_test}

same_thread_number : (m n : ℕ) → Entry.Thread m ≡ Entry.Thread n → m ≡ n
same_thread_number m n is = cc

work_of_no_thread : (n i : ℕ) (e : Entry) → is_entry_of_work i e ≡ true → is_entry_of n e ≡ false
work_of_no_thread n i (Entry.Thread m) is = absurd (cc)
work_of_no_thread n i (Entry.Push j) is = refl
work_of_no_thread n i (Entry.Host j) is = refl

module _ (a : CoreParts) (sound : IsSoundCore a) (q : Queued) (keyed : IsKeyed (bare (parts_of a)) q) where
  abbrev bared : CoreImage
  bared = bare (parts_of a)

  is_whole : IsWhole bared
  unfolding IsSoundCore
  is_whole = sound.whole

  pub mark_is_made : is_made a.marks q.mark.index ≡ true
  mark_is_made = mark_made bared is_whole q keyed

  pub instance_queue_is_made : IsSome q.instance → is_made a.instance_queues q.instance_queue.index ≡ true
  instance_queue_is_made some = instance_queue_made bared is_whole q (threads_own bared q keyed some)

  -- an entry that is in no instance is a work's
  works_own : is_some q.instance ≡ false → OfWork bared q
  works_own none = elim (order_key_of bared q keyed) [
    | inl order_key ↦ absurd (let some : is_some q.instance ≡ true = sym (ap (λ (x : Queued). is_some x.instance) order_key.is) in let two = sym none ∙ some in cc)
    | inr order_key ↦ order_key
  ]

  module _ (links : IsLinks a.marks) (marks : List (Spot Queued)) (takes : marks ≡ removed q.mark.index a.marks) where
    pub thread_leaves : IsSome q.instance → IsLinks a.instance_queues → (instance_queues : List (Spot Queued)) → instance_queues ≡ removed q.instance_queue.index a.instance_queues → RowsAre bared marks instance_queues (left bared q)
    thread_leaves some = thread_left bared is_whole q keyed links marks takes (threads_own bared q keyed some)

    pub work_leaves : is_some q.instance ≡ false → RowsAre bared marks a.instance_queues (left bared q)
    work_leaves none = work_left bared is_whole q keyed links marks takes (works_own none)

-- ---- What is seen once an entry has left

-- the first of a list, if it leaves, leaves the others
top_leaves : (q : Queued) (xs : List Queued) → Some q ≡ top xs → less_by (leaves q) xs ≡ rest xs
top_leaves q [] is = absurd (cc)
top_leaves q (x ∷ xs) is = ap (λ b. cond b xs (x ∷ less_by (leaves q) xs)) (ap (leaves q) (sym (same_Some q x is)) ∙ leaves_itself q)

top_any : (q : Queued) (xs : List Queued) → Some q ≡ top xs → list_any (leaves q) xs ≡ true
top_any q [] is = absurd (cc)
top_any q (x ∷ xs) is = ap (λ b. b || list_any (leaves q) xs) (ap (leaves q) (sym (same_Some q x is)) ∙ leaves_itself q)

rest_seen : (xs : List Queued) → map (λ (q : Queued). q.entry) (rest xs) ≡ rest_of (map (λ (q : Queued). q.entry) xs)
rest_seen [] = refl
rest_seen (x ∷ xs) = refl

empty_rest : (xs : List Queued) → None ≡ top xs → map (λ (q : Queued). q.entry) xs ≡ rest_of (map (λ (q : Queued). q.entry) xs)
empty_rest [] none = refl
empty_rest (x ∷ xs) none = absurd (cc)

module _ (a : CoreParts) (sound : IsSoundCore a) where
  module _ (q : Queued) (keyed : IsKeyed (bare (parts_of a)) q) (links : IsLinks a.marks) (b : CoreParts) (are : RowsAre (bare (parts_of a)) b.marks b.instance_queues (left (bare (parts_of a)) q)) (rest_is : b ≡ rows_after a b.marks b.instance_queues) where
    pub left_sound : IsSoundCore b
    left_sound = subst IsSoundCore (sym rest_is) (rows_sound a b.marks b.instance_queues (left (bare (parts_of a)) q) are sound)

    left_seen : (high low : List Entry) → map (λ (q : Queued). q.entry) (left (bare (parts_of a)) q High) ≡ high → map (λ (q : Queued). q.entry) (left (bare (parts_of a)) q Low) ≡ low → seen b ≡ queues_seen a high low
    left_seen high low is_high is_low = ap seen rest_is ∙ rows_seen a b.marks b.instance_queues (left (bare (parts_of a)) q) are high low is_high is_low

    -- the first of a mark leaves it, and no other
    module _ (j k : Row) (differ : j ≡ k → ⊥) (first : Some q ≡ top (row (bare (parts_of a)) j)) where
      popped_here : map (λ (q : Queued). q.entry) (left (bare (parts_of a)) q j) ≡ rest_of (row_seen a j)
      popped_here = ap (map (λ (q : Queued). q.entry)) (top_leaves q (row (bare (parts_of a)) j) first) ∙ rest_seen (row (bare (parts_of a)) j)

      popped_there : map (λ (q : Queued). q.entry) (left (bare (parts_of a)) q k) ≡ row_seen a k
      popped_there = ap (map (λ (q : Queued). q.entry)) (left_elsewhere (bare (parts_of a)) (is_whole a sound q keyed) q keyed links j k differ (top_any q (row (bare (parts_of a)) j) first))

    pub pop_high_seen : Some q ≡ top (row (bare (parts_of a)) High) → seen b ≡ on_core (popped Mark.High) (seen a)
    unfolding seen popped set_high
    pop_high_seen first = left_seen (rest_of (row_seen a High)) (row_seen a Low) (popped_here High Low (λ same. absurd (cc)) first) (popped_there High Low (λ same. absurd (cc)) first)

    pub pop_low_seen : Some q ≡ top (row (bare (parts_of a)) Low) → seen b ≡ on_core (popped Mark.Low) (seen a)
    unfolding seen popped set_low
    pop_low_seen first = left_seen (row_seen a High) (rest_of (row_seen a Low)) (popped_there Low High (λ same. absurd (cc)) first) (popped_here Low High (λ same. absurd (cc)) first)

    -- ---- The entry of a thread

    module _ (n : ℕ) (of_thread : OfThread (bare (parts_of a)) q) (is_n : q.entry ≡ Entry.Thread n) where
      leaves_entry : (x : Queued) → IsKeyed (bare (parts_of a)) x → leaves q x ≡ is_entry_of n x.entry
      leaves_entry x is_x = same_test (leaves q x) (is_entry_of n x.entry) (leaves_thread (bare (parts_of a)) (is_whole a sound q keyed) q of_thread n is_n x is_x) (λ of_n. elim (order_key_of (bare (parts_of a)) x is_x) [
        | inl at ↦
            let number : n ≡ at.placed.entry.item.number = eqb-true n at.placed.entry.item.number (ap (λ (z : Queued). is_entry_of n z.entry) at.is ∙ of_n) in
            let own : of_thread.placed.entry.item.number ≡ n = same_thread_number of_thread.placed.entry.item.number n (ap (λ (z : Queued). z.entry) of_thread.is ∙ is_n) in
            subst (λ (z : Queued). leaves q z ≡ true) (sym (same_thread (bare (parts_of a)) x q at of_thread (thread_one_place a sound x at q of_thread (sym number ∙ sym own)))) (leaves_itself q)
        | inr at ↦ absurd (let two = sym (work_of_no_thread n at.placed.entry.item.number x.entry at.entry) ∙ of_n in cc)
      ])

      less_seen : (r : Row) → map (λ (q : Queued). q.entry) (left (bare (parts_of a)) q r) ≡ less_by (is_entry_of n) (row_seen a r)
      less_seen r = map-less_known (IsKeyed (bare (parts_of a))) (λ (q : Queued). q.entry) (leaves q) (is_entry_of n) leaves_entry (row (bare (parts_of a)) r) (row_known (bare (parts_of a)) (is_whole a sound q keyed) r)

      low_stays : has_entry n (row_seen a High) ≡ true → less_by (is_entry_of n) (row_seen a Low) ≡ row_seen a Low
      low_stays any = sym (less_seen Low) ∙ ap (map (λ (q : Queued). q.entry)) (left_elsewhere (bare (parts_of a)) (is_whole a sound q keyed) q keyed links High Low (λ same. absurd (cc))
          (any-known (IsKeyed (bare (parts_of a))) (λ (q : Queued). q.entry) (leaves q) (is_entry_of n) leaves_entry (row (bare (parts_of a)) High) (row_known (bare (parts_of a)) (is_whole a sound q keyed) High) ∙ any))

      pub unqueued_seen : seen b ≡ on_core (unqueued n) (seen a)
      unfolding seen set_high set_low
      unqueued_seen = left_seen (less_by (is_entry_of n) (row_seen a High)) (less_by (is_entry_of n) (row_seen a Low)) (less_seen High) (less_seen Low) ∙ sym (ap (λ s. record (seen a) { core = s }) (unqueued_both n (seen a).core low_stays))

  -- ---- Nothing leaves

  module _ (r : Row) (none : None ≡ top (row (bare (parts_of a)) r)) where
    nothing_first : row_seen a r ≡ rest_of (row_seen a r)
    nothing_first = empty_rest (row (bare (parts_of a)) r) none

  pub pop_high_nothing : None ≡ top (row (bare (parts_of a)) High) → seen a ≡ on_core (popped Mark.High) (seen a)
  unfolding seen popped set_high
  pop_high_nothing none = ap (λ (l : List Entry). queues_seen a l (row_seen a Low)) (nothing_first High none)

  pub pop_low_nothing : None ≡ top (row (bare (parts_of a)) Low) → seen a ≡ on_core (popped Mark.Low) (seen a)
  unfolding seen popped set_low
  pop_low_nothing none = ap (λ (l : List Entry). queues_seen a (row_seen a High) l) (nothing_first Low none)

  nobody : (x : Queued) → IsKeyed (bare (parts_of a)) x → false ≡ is_entry_of 0 x.entry
  nobody x is_x = elim (order_key_of (bare (parts_of a)) x is_x) [
    | inl at ↦ sym (ap (λ (z : Queued). is_entry_of 0 z.entry) (sym at.is) ∙ ne_eqb 0 at.placed.entry.item.number (λ zero. above at.placed.entry.item.number (thread_number_positive a sound x at) (sym zero)))
    | inr at ↦ sym (work_of_no_thread 0 at.placed.entry.item.number x.entry at.entry)
  ]
    where
      above : (m : ℕ) → 0 < m → m ≡ 0 → ⊥
      above m more zero = omega (arith, more, zero)

  whole_here : IsWhole (bare (parts_of a))
  unfolding IsSoundCore
  whole_here = sound.whole

  less_nobody : (r : Row) → less_by (is_entry_of 0) (row_seen a r) ≡ row_seen a r
  less_nobody r = sym (map-less_known (IsKeyed (bare (parts_of a))) (λ (q : Queued). q.entry) (λ x. false) (is_entry_of 0) nobody (row (bare (parts_of a)) r) (row_known (bare (parts_of a)) whole_here r)) ∙ ap (map (λ (q : Queued). q.entry)) (less_nothing (row (bare (parts_of a)) r))

  zero_unqueued : seen a ≡ on_core (unqueued 0) (seen a)
  unfolding seen set_high set_low
  zero_unqueued = sym (ap₂ (queues_seen a) (less_nobody High) (less_nobody Low)) ∙ sym (ap (λ s. record (seen a) { core = s }) (unqueued_both 0 (seen a).core (λ any. less_nobody Low)))

  pub unqueued_nobody : (n : ℕ) → n ≡ 0 → seen a ≡ on_core (unqueued n) (seen a)
  unqueued_nobody n zero = zero_unqueued ∙ ap (λ m. on_core (unqueued m) (seen a)) (sym zero)
