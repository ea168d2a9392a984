-- The threads of a chain of places, by their numbers.
use Rattle.core_records.proofs.Core.{HeldIn, StartsIn, ap, arith, bare, blocked_on, BlockedOn, Bool, eq-eqb, eqb-true, false, Filing, first_at, get, get-records, IfSome, is_blocked_on, is_under, IsLinks, IsMembers, IsMembers-walked, IsSome, IsSoundCore, key_in, list_of, None, number_in, Option, option_map, option_map_or, parts_of, passes_at, Place, place_at, place_chain, place_filing, Placed, records, refl, same_Some, same_subtask, seen, Some, Subtask, suc, sym, TableId, Thread, thread_key, thread_of, ThreadKey, true, under_of, UnderOf, Where, where_at, zero, ℕ, ◌<◌, ◌∙◌, ◌≡◌}
use Rattle.machine_rules.specs.Places.{is_for_start}
use Rattle.std.specs.Prelude.{◌&&◌, if◌then◌else◌}
use Rattle.machine_data.specs.Read.{is_at}
use Rattle.core_records.specs.declared.{parts.CoreParts.CoreParts, single.Single.Single, thread_records.GuestThread.GuestThread}
use Rattle.machine_rules.proofs.StopLemmas.{find_passes}
use Rattle.core_places.proofs.FiledLemmas.{place_tests, places_filed}
use Rattle.core_removals.proofs.LeastLemmas.{least_at}
use Rattle.core_removals.specs.Least.{least_of}
use Rattle.core_removals.specs.Walks.{at_order_key, of_chain}
use Rattle.table_lists.specs.declared.ordered_lists.OrderKey.{OrderKey}
use Rattle.core_records.specs.RecordPlaces.{thread_order_key}

-- ---- The chain of a list that a test of places finds

module _ (a : CoreParts) (sound : IsSoundCore a) (k : Where) (c : ℕ) (chain : place_chain (bare (parts_of a)) k ≡ Some c) where
  pub chain_live : IsSome (list_of a.places c)
  chain_live = (places_filed a sound).live k c chain

  module _ (test : Place → Bool) (passes : (i : ℕ) (b : Bool) (p : Place) → where_at i b p ≡ Some k → test p ≡ true) (filed : (i : ℕ) (b : Bool) (p : Place) → test p ≡ true → where_at i b p ≡ Some k) (links : IsLinks a.places) where
    tested : (n : ℕ) → is_at n (seen a).core test ≡ passes_at (λ (e : ℕ × Thread). test e.1.place) (records thread_key a.threads.places) n
    unfolding seen
    tested n = by (get (records thread_key a.threads.places) n) refl
      where
        by : (o : Option Thread) → get (records thread_key a.threads.places) n ≡ o → is_at n (seen a).core test ≡ passes_at (λ (e : ℕ × Thread). test e.1.place) (records thread_key a.threads.places) n
        by None is = rw is refl
        by (Some t) is = rw is refl

    reads : (r : ℕ) (p : Placed (Single GuestThread)) (f : Filing Where OrderKey) (x : ℕ × Thread) → place_at a.threads r ≡ Some p → (place_filing a.version) r p.serial p.entry ≡ Some f → thread_key p.entry ≡ Some x → at_order_key a f.value ≡ x.0
    reads r p f x at says key =
        ap (λ (g : Filing Where OrderKey). at_order_key a g.value) (sym (same_Some (record { node = p.entry.item.node.index; key = where_at p.entry.item.instance p.entry.item.barred p.entry.item.thread.place; value = thread_order_key a.version r p.entry.item }) f says))
        ∙ (ap (λ o. number_in (key_in thread_key o)) at ∙ ap number_in key)

    -- has just those that pass
    pub chain_members : IsMembers (λ n. is_at n (seen a).core test) (of_chain a c)
    unfolding IsSoundCore
    chain_members =
        let walked = IsMembers-walked (place_filing a.version) (place_chain (bare (parts_of a))) a.threads a.places (places_filed a sound) k c chain thread_key (λ (e : ℕ × Thread). test e.1.place) (place_tests a.version k test passes filed) links sound.tables.threads.apart (at_order_key a) reads in
        record { once = walked.once; are = λ n. walked.are n ∙ sym (tested n) }

    -- so the least of it is the machine's first
    pub chain_least : least_of (of_chain a c) ≡ first_at test (seen a).core
    chain_least = least_at (seen a).core test (of_chain a c) (chain_members.are)

-- ---- Who is under a thread, or blocked on a subtask

under_passes : (n i : ℕ) (o : Bool) (p : Place) → where_at i o p ≡ Some (UnderOf n) → is_under n p ≡ true
under_passes n i o (Place.Under m) is = eq-eqb m n (sym (same n m is))
  where
    same : (n m : ℕ) → Some (UnderOf m) ≡ Some (UnderOf n) → n ≡ m
    same n m is = cc
under_passes n i o (Place.Waiting x b) is = absurd (cc)
under_passes n i o (Place.Ready m w) is = absurd (cc)
under_passes n i o Place.New is = absurd (cc)
under_passes n i o Place.Running is = absurd (cc)
under_passes n i o (Place.Behind m) is = absurd (cc)
under_passes n i o (Place.Blocked sub) is = absurd (cc)
under_passes n i o (Place.Held w) is = absurd (either (o && is_for_start w) is)
  where
    either : (b : Bool) → Some (if b then StartsIn i else HeldIn i) ≡ Some (UnderOf n) → ⊥
    either true e = cc
    either false e = cc
under_passes n i o Place.Suspended is = absurd (cc)

under_filed : (n i : ℕ) (o : Bool) (p : Place) → is_under n p ≡ true → where_at i o p ≡ Some (UnderOf n)
under_filed n i o (Place.Under m) is = ap (λ k. Some (UnderOf k)) (eqb-true m n is)
under_filed n i o (Place.Waiting x b) is = absurd (cc)
under_filed n i o (Place.Ready m w) is = absurd (cc)
under_filed n i o Place.New is = absurd (cc)
under_filed n i o Place.Running is = absurd (cc)
under_filed n i o (Place.Behind m) is = absurd (cc)
under_filed n i o (Place.Blocked sub) is = absurd (cc)
under_filed n i o (Place.Held w) is = absurd (cc)
under_filed n i o Place.Suspended is = absurd (cc)

same_is : (s t : Subtask) → same_subtask s t ≡ true → t ≡ s
same_is (Subtask.Guest k) (Subtask.Guest j) is = ap (λ n. Subtask.Guest n) (sym (eqb-true k j is))
same_is (Subtask.Host i) (Subtask.Host j) is = ap (λ n. Subtask.Host n) (sym (eqb-true i j is))
same_is (Subtask.Guest k) (Subtask.Host j) is = absurd (cc)
same_is (Subtask.Host i) (Subtask.Guest j) is = absurd (cc)

same_self : (s : Subtask) → same_subtask s s ≡ true
same_self (Subtask.Guest k) = eq-eqb k k refl
same_self (Subtask.Host i) = eq-eqb i i refl

blocked_passes : (sub : Subtask) (i : ℕ) (o : Bool) (p : Place) → where_at i o p ≡ Some (BlockedOn sub) → is_blocked_on sub p ≡ true
blocked_passes sub i o (Place.Blocked on) is = ap (same_subtask sub) (same on sub is) ∙ same_self sub
  where
    same : (s t : Subtask) → Some (BlockedOn s) ≡ Some (BlockedOn t) → s ≡ t
    same s t is = cc
blocked_passes sub i o (Place.Waiting x b) is = absurd (cc)
blocked_passes sub i o (Place.Ready m w) is = absurd (cc)
blocked_passes sub i o Place.New is = absurd (cc)
blocked_passes sub i o Place.Running is = absurd (cc)
blocked_passes sub i o (Place.Behind m) is = absurd (cc)
blocked_passes sub i o (Place.Under m) is = absurd (cc)
blocked_passes sub i o (Place.Held w) is = absurd (either (o && is_for_start w) is)
  where
    either : (b : Bool) → Some (if b then StartsIn i else HeldIn i) ≡ Some (BlockedOn sub) → ⊥
    either true e = cc
    either false e = cc
blocked_passes sub i o Place.Suspended is = absurd (cc)

blocked_filed : (sub : Subtask) (i : ℕ) (o : Bool) (p : Place) → is_blocked_on sub p ≡ true → where_at i o p ≡ Some (BlockedOn sub)
blocked_filed sub i o (Place.Blocked on) is = ap (λ s. Some (BlockedOn s)) (same_is sub on is)
blocked_filed sub i o (Place.Waiting x b) is = absurd (cc)
blocked_filed sub i o (Place.Ready m w) is = absurd (cc)
blocked_filed sub i o Place.New is = absurd (cc)
blocked_filed sub i o Place.Running is = absurd (cc)
blocked_filed sub i o (Place.Behind m) is = absurd (cc)
blocked_filed sub i o (Place.Under m) is = absurd (cc)
blocked_filed sub i o (Place.Held w) is = absurd (cc)
blocked_filed sub i o Place.Suspended is = absurd (cc)

-- ---- As the records of a thread and of a subtask have them

module _ (a : CoreParts) (sound : IsSoundCore a) where
  none_zero : get (seen a).core.threads 0 ≡ None
  unfolding IsSoundCore seen
  none_zero = get-records thread_key a.threads.places 0 ∙ sound.tables.threads.above_zero

  -- a thread that is found has a number above 0
  found_positive : (test : Place → Bool) (o : Option (TableId ThreadKey)) → option_map (λ id. thread_of (seen a) id) o ≡ first_at test (seen a).core → IfSome o (λ id. 0 < thread_of (seen a) id)
  found_positive test None is = tt
  found_positive test (Some id) is = by (thread_of (seen a) id) (find_passes (λ n. is_at n (seen a).core test) _ (thread_of (seen a) id) (sym is))
    where
      by : (n : ℕ) → is_at n (seen a).core test ≡ true → 0 < n
      by zero at = absurd (let off = ap (λ (o : Option Thread). option_map_or test (option_map (λ (t : Thread). t.place) o) false) none_zero in let two = sym at ∙ off in cc)
      by (suc m) at = omega arith

  module _ (links : IsLinks a.places) (c : ℕ) where
    pub under_least : (n : ℕ) → place_chain (bare (parts_of a)) (UnderOf n) ≡ Some c → least_of (of_chain a c) ≡ under_of n (seen a).core
    unfolding under_of
    under_least n chain = chain_least a sound (UnderOf n) c chain (is_under n) (under_passes n) (under_filed n) links

    pub blocked_least : (sub : Subtask) → place_chain (bare (parts_of a)) (BlockedOn sub) ≡ Some c → least_of (of_chain a c) ≡ blocked_on sub (seen a).core
    unfolding blocked_on
    blocked_least sub chain = chain_least a sound (BlockedOn sub) c chain (is_blocked_on sub) (blocked_passes sub) (blocked_filed sub) links

  -- who is found has a number above 0
  module _ (o : Option (TableId ThreadKey)) where
    pub under_live : (n : ℕ) → option_map (λ id. thread_of (seen a) id) o ≡ under_of n (seen a).core → IfSome o (λ id. 0 < thread_of (seen a) id)
    unfolding under_of
    under_live n is = found_positive (is_under n) o is

    pub blocked_live : (sub : Subtask) → option_map (λ id. thread_of (seen a) id) o ≡ blocked_on sub (seen a).core → IfSome o (λ id. 0 < thread_of (seen a) id)
    unfolding blocked_on
    blocked_live sub is = found_positive (is_blocked_on sub) o is
