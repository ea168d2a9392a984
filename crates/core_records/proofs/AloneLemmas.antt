-- A record is the only one that passes a test where one passes in all.
use Rattle.core_records.proofs.Core.{[], ap, arith, Bool, cond, eq-eqb, eq_by_cmp_equiv, false, filter, get, has_thread, is_last_thread, IsSoundCore, item_at, item_of, List, list_any, nat_cmp_total, nat_le, nat_lt, None, not, Ok, one_if_passes, option_map_or, other_than, passing, passing-with_at, Records, refl, remove, seen, Some, sym, TableId, task_of, Thread, thread_of, ThreadKey, threads_of, true, unsigned_tied, ℕ, ◌&&◌, ◌+◌, ◌==◌, ◌||◌, ◌∙◌, ◌∷◌, ◌≡◌}
use Rattle.core_records.specs.declared.{parts.CoreParts.CoreParts, thread_records.GuestThread.GuestThread}
use Rattle.core_records.proofs.HomeLemmas.{thread_home, thread_task}
use Rattle.core_records.proofs.KeptLemmas.{any_passing, no_thread}
use Rattle.core_records.proofs.ReadLemmas.{thread_read}

module _ {X : Type 0} (test : X → Bool) (n : ℕ) where
  other_is : (q : ℕ) → other_than n q ≡ not (q == n)
  other_is q = ap not ((eq_by_cmp_equiv nat_cmp_total).symm n q ∙ unsigned_tied q n)

  any_other : (es : List (ℕ × X)) → list_any (λ e. test e.1) (filter (λ e. other_than n e.0) es) ≡ list_any (λ e. test e.1 && not (e.0 == n)) es
  any_other [] = refl
  any_other (e ∷ es) = ap (λ b. list_any (λ (e : ℕ × X). test e.1) (cond b (e ∷ filter (λ e. other_than n e.0) es) (filter (λ e. other_than n e.0) es))) (other_is e.0) ∙ by_test (any_other es) (not (e.0 == n)) (test e.1) refl
    where
      by_test : list_any (λ e. test e.1) (filter (λ e. other_than n e.0) es) ≡ list_any (λ e. test e.1 && not (e.0 == n)) es → (b c : Bool) → test e.1 ≡ c → list_any (λ (e : ℕ × X). test e.1) (cond b (e ∷ filter (λ e. other_than n e.0) es) (filter (λ e. other_than n e.0) es)) ≡ ((test e.1 && b) || list_any (λ e. test e.1 && not (e.0 == n)) es)
      by_test rest true true is = rw is refl
      by_test rest true false is = rw is rest
      by_test rest false true is = rw is rest
      by_test rest false false is = rw is rest

  module _ (m : Records X) (x : X) (at : get m n ≡ Some x) (passes : test x ≡ true) where
    -- another one passes where more than one do
    pub more_pass : list_any (λ (e : ℕ × X). test e.1 && not (e.0 == n)) m.list ≡ nat_lt 1 (passing test m)
    unfolding remove
    more_pass = sym (any_other m.list) ∙ (sym (any_passing test (remove m n)) ∙ one_more)
      where
        one_less : (k l : ℕ) → k + 1 ≡ l → nat_lt 0 k ≡ nat_lt 1 l
        one_less k l sum = grind arith

        one_more : nat_lt 0 (passing test (remove m n)) ≡ nat_lt 1 (passing test m)
        one_more =
            let law = passing-with_at test m n None in
            let one : one_if_passes test (get m n) ≡ 1 = ap (one_if_passes test) at ∙ ap (λ b. cond b 1 0) passes in
            let sum : passing test (remove m n) + 1 ≡ passing test m = omega arith in
            one_less (passing test (remove m n)) (passing test m) sum

none_and : {X : Type 0} (p q : X → Bool) (xs : List X) → list_any p xs ≡ false → list_any (λ x. p x && q x) xs ≡ false
none_and p q [] none = refl
none_and p q (x ∷ xs) none = by_test (p x) (list_any p xs) none (none_and p q xs)
  where
    by_test : (b c : Bool) → (b || c) ≡ false → (c ≡ false → list_any (λ x. p x && q x) xs ≡ false) → ((b && q x) || list_any (λ x. p x && q x) xs) ≡ false
    by_test true c is rest = absurd (cc)
    by_test false c is rest = rest is

at_most_one : (k : ℕ) → nat_le k 1 ≡ not (nat_lt 1 k)
at_most_one k = grind arith

-- ---- The last thread of a call

module _ (a : CoreParts) (sound : IsSoundCore a) (id : TableId ThreadKey) where
  -- its call counts one thread
  pub last_of_call : (g : GuestThread) → Ok g ≡ item_at item_of a.threads id.rep id.serial → (c : ℕ) → c ≡ threads_of (task_of (thread_of (seen a) id) (seen a).core) (seen a).core → nat_le c 1 ≡ is_last_thread (thread_of (seen a) id) (seen a).core
  unfolding is_last_thread
  last_of_call g is c counts =
      let task = thread_task a sound id g is in
      let own : (g.thread.call == task_of (thread_of (seen a) id) (seen a).core) ≡ true = eq-eqb g.thread.call (task_of (thread_of (seen a) id) (seen a).core) (sym task) in
      at_most_one c
      ∙ ap not (ap (nat_lt 1) counts ∙ sym (more_pass (λ (t : Thread). t.call == task_of (thread_of (seen a) id) (seen a).core) (thread_of (seen a) id) (seen a).core.threads g.thread (sym (thread_read a sound id g is)) own))

  -- who isn't there is alone
  pub nobody_else : None ≡ get (seen a).core.threads (thread_of (seen a) id) → true ≡ is_last_thread (thread_of (seen a) id) (seen a).core
  unfolding is_last_thread has_thread
  nobody_else none =
      let zero : 0 ≡ task_of (thread_of (seen a) id) (seen a).core = ap (λ o. option_map_or (λ (t : Thread). t.call) o 0) none in
      ap not (sym (none_and (λ (e : ℕ × Thread). e.1.call == 0) (λ e. not (e.0 == thread_of (seen a) id)) (seen a).core.threads.list (sym (no_thread a sound))))
      ∙ ap (λ k. not (list_any (λ (e : ℕ × Thread). (e.1.call == k) && not (e.0 == thread_of (seen a) id)) (seen a).core.threads.list)) zero

  -- the call of a thread is there
  pub call_there : (g : GuestThread) → Ok g ≡ item_at item_of a.threads id.rep id.serial → task_of (thread_of (seen a) id) (seen a).core ≡ 0 → ⊥
  call_there g is none = let some = (thread_home a sound id g is).there in let same = thread_task a sound id g is in omega arith
