-- The number of a set's entries is above 0 where one is taken away, and small.
use Rattle.core_records.proofs.Core.{[], ap, arith, bare_thread, Bool, cond, count_by-le-length, eq-eqb, false, get, is_some, IsSoundCore, item_at, item_of, key_in, length, List, loose_thread, None, number_of, Ok, Option, passing, Placed, Records, records, seen, set_key, set_of, SetKey, size, size-empty, size-insert, Some, suc, sym, TableId, Thread, thread_key, ThreadKey, true, with_record, ℕ, ◌+◌, ◌-◌, ◌==◌, ◌∙◌, ◌∷◌, ◌≡◌, ◌≤◌}
use Rattle.core_records.specs.declared.{parts.CoreParts.CoreParts, set_records.WaitSet.WaitSet, single.Single.Single, thread_records.GuestThread.GuestThread}
use Rattle.core_records.proofs.KindLemmas.{item_number, item_stands}
use Rattle.core_places.proofs.EntryLemmas.{keeps_is, recounted_each, recounted_sound}
use Rattle.core_places.proofs.PlacedLemmas.{entries_then, from_number, set_positive, set_there, set_was, sets_less}
use Rattle.core_places.proofs.PutLemmas.{counted_there, keeps}
use Rattle.core_places.specs.Puts.{MayRecount}
use Rattle.core_places.specs.Moved.{entry_set, set_named, still_thread}

module _ {E X : Type 0} (key : E → Option (ℕ × X)) where
  -- no more records than places
  pub records_fit : (ps : List (Option (Placed E))) → size (records key ps) ≤ length ps
  unfolding records
  records_fit [] = let none = size-empty X in omega (arith, none)
  records_fit (o ∷ os) = by (key_in key o) (records key os) (records_fit os)
    where
      more : (b : Bool) (n m : ℕ) → n ≤ m → cond b n (n + 1) ≤ suc m
      more true n m less = omega (arith, less)
      more false n m less = omega (arith, less)

      by : (e : Option (ℕ × X)) (m : Records X) → size m ≤ length os → size (with_record e m) ≤ suc (length os)
      by None m less = omega (arith, less)
      by (Some e) m less = let one = size-insert m e.0 e.1 in let two = more (is_some (get m e.0)) (size m) (length os) less in omega (arith, one, two)

module _ (a : CoreParts) (sound : IsSoundCore a) (id : TableId ThreadKey) (g : GuestThread) (is : Ok g ≡ item_at item_of a.threads id.rep id.serial) (h : GuestThread) (stays : still_thread (bare_thread h) ≡ still_thread (bare_thread g)) (handle : h.thread.handle ≡ g.thread.handle) (from to : TableId SetKey) (from_is : set_of (seen a) from ≡ set_named (entry_set g.thread.place g.thread.op_progress) (seen a).core) (to_is : set_of (seen a) to ≡ set_named (entry_set h.thread.place h.thread.op_progress) (seen a).core) where
  less_fits : (x : WaitSet) → Ok x ≡ item_at item_of a.sets from.rep from.serial → 1 ≤ x.entries
  unfolding IsSoundCore
  less_fits x is_x =
      let one = item_stands (λ (x : WaitSet). x.number) (λ (x : WaitSet). x.set) a.sets a.made.sets sound.tables.sets from.rep from.serial x is_x in
      let p = one.0 in
      let n = p.entry.item.number in
      let named : n ≡ number_of set_key a.sets from.rep from.serial = ap (λ (e : Single WaitSet). e.item.number) one.1.1.1 ∙ sym (item_number (λ (x : WaitSet). x.number) (λ (x : WaitSet). x.set) a.sets from.rep from.serial x is_x) in
      let some : keeps n g.thread ≡ true = keeps_is n (loose_thread g.thread) (loose_thread g.thread).place ∙ (sym (from_number a sound id g is h stays handle from to from_is to_is n (set_positive a sound id g is h stays handle from to from_is to_is [] [] from.rep p one.1.0) (set_there a sound id g is h stays handle from to from_is to_is [] [] from.rep p one.1.0)) ∙ eq-eqb n (number_of set_key a.sets from.rep from.serial) named) in
      let counted = counted_there a sound id.rep id.serial g is n some in
      let was : p.entry.item.entries ≡ passing (keeps n) (records thread_key a.threads.places) = (set_was a sound id g is h stays handle from to from_is to_is [] [] from.rep p one.1.0).entries ∙ entries_then a sound id g is h stays handle from to from_is to_is [] [] n in
      let entry : p.entry.item.entries ≡ x.entries = ap (λ (e : Single WaitSet). e.item.entries) one.1.1.1 in
      omega (arith, counted, was, entry)

  more_fits : (x : WaitSet) → Ok x ≡ item_at item_of (sets_less a sound id g is h stays handle from to from_is to_is) to.rep to.serial → x.entries ≤ 4294967295
  unfolding IsSoundCore size
  more_fits x is_x =
      let less_sound = recounted_sound (λ n. n - 1) a.sets a.made.sets sound.tables.sets from.rep from.serial in
      let one = item_stands (λ (x : WaitSet). x.number) (λ (x : WaitSet). x.set) (sets_less a sound id g is h stays handle from to from_is to_is) a.made.sets less_sound to.rep to.serial x is_x in
      let was = recounted_each (λ n. n - 1) a.sets a.made.sets sound.tables.sets from.rep from.serial to.rep one.0 one.1.0 in
      let p = was.1.0 in
      let n = p.entry.item.number in
      let kept : p.entry.item.entries ≡ passing (keeps n) (records thread_key a.threads.places) = (set_was a sound id g is h stays handle from to from_is to_is [] [] to.rep p was.1.1.0).entries ∙ entries_then a sound id g is h stays handle from to from_is to_is [] [] n in
      let few = count_by-le-length (λ (e : ℕ × Thread). keeps n e.1) (records thread_key a.threads.places).list in
      let fit = records_fit thread_key a.threads.places in
      let places = sound.tables.threads.table.places_fit in
      let same : p.entry.item.entries ≡ was.0.entries = ap (λ (y : WaitSet). y.entries) was.1.1.1.0 in
      let now : one.0.entry.item.entries ≡ cond (was.0.number == number_of set_key a.sets from.rep from.serial) (was.0.entries - 1) was.0.entries = ap (λ (y : WaitSet). y.entries) was.1.1.1.1 in
      let entry : one.0.entry.item.entries ≡ x.entries = ap (λ (e : Single WaitSet). e.item.entries) one.1.1.1 in
      let fewer = smaller (was.0.number == number_of set_key a.sets from.rep from.serial) was.0.entries in
      omega (arith, kept, few, fit, places, same, now, entry, fewer)
    where
      smaller : (b : Bool) (n : ℕ) → cond b (n - 1) n ≤ n
      smaller true n = omega arith
      smaller false n = omega arith

  pub may_recount : MayRecount a.sets from to
  unfolding IsSoundCore
  may_recount = record {
    few = sound.tables.sets.table.places_fit;
    some = less_fits;
    room = λ x is. let few = more_fits x is in omega (arith, few);
  }
