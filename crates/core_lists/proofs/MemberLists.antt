-- The chains of a set have just its waiters, and just its ready members.
use Rattle.core_records.proofs.Core.{ap, bare, Bool, Call, call_key, entries, false, filter, Filing, get, is_in_set, is_ready_member, is_some, is_waiter, is_waiting_on, IsLinks, IsMembers, IsMembers-filter, IsMembers-numbers, IsMembers-walked, IsPermutation, IsSoundCore, item_at, item_of, Join, key_in, List, map, None, number_in, numbers, Ok, Option, option_and_then, option_map, option_map_or, parts_of, passes_at, place_at, Placed, ready_call, ready_call_chain, ready_in, ready_work, ready_work_chain, Records, records, refl, same_Some, seen, Some, subst, Subtask, sym, Thread, true, WaitsOn, Work, work_key, ℕ, ◌&&◌, ◌++◌, ◌∙◌, ◌∷◌, ◌≡◌}
use Rattle.core_lists.specs.Chains.{call_at_key, calls_in, work_at_key, works_in}
use Rattle.core_lists.specs.Listed.{ready_of}
use Rattle.core_places.proofs.ReadyLemmas.{call_tests, calls_chain, calls_filed, is_ready, work_tests, works_chain, works_filed}
use Rattle.core_places.proofs.WaiterLemmas.{waiters_chain, waits_filed, waits_passes}
use Rattle.core_records.specs.RecordPlaces.{member_order_key}
use Rattle.core_records.specs.declared.{call_records.GuestTask.GuestTask, parts.CoreParts.CoreParts, set_records.WaitSet.WaitSet, single.Single.Single, work_records.WorkRecord.WorkRecord}
use Rattle.core_removals.proofs.ChainLemmas.{chain_members}
use Rattle.core_removals.specs.Walks.{of_chain}
use Rattle.laws_choices.specs.Offers.{waiters_of}
use Rattle.std.proofs.Common.{[], cond}
use Rattle.std.proofs.lemmas.List.Elements.{filter-append}
use Rattle.std.proofs.lemmas.List.Sorted.{IsPermutation-append_comm, IsPermutation-append_left, IsPermutation-append_right, IsPermutation-map, IsPermutation-trans}
use Rattle.table_lists.proofs.Members.{IsMembers-same, members_permute}
use Rattle.table_lists.specs.Walks.{walked}
use Rattle.table_lists.specs.declared.ordered_lists.OrderKey.{OrderKey}

-- the numbers of a map that pass are those of a list that has just these
pub passing_permute : {X : Type 0} (m : Records X) (p : ℕ → Bool) (list : List ℕ) → IsMembers p list → ((n : ℕ) → p n ≡ true → is_some (get m n) ≡ true) → IsPermutation (filter p (numbers m)) list
passing_permute m p list members there = members_permute p (filter p (numbers m)) (IsMembers-same (λ n. is_some (get m n) && p n) (filter p (numbers m)) (IsMembers-filter (λ n. is_some (get m n)) (numbers m) (IsMembers-numbers m) p) p (λ n. same n (p n) refl)) list members
  where
    off : (b : Bool) → false ≡ (b && false)
    off true = refl
    off false = refl

    same : (n : ℕ) (b : Bool) → p n ≡ b → b ≡ (is_some (get m n) && b)
    same n true is = sym (ap (λ c. c && true) (there n is))
    same n false is = off (is_some (get m n))

map_both : {A B C : Type 0} (f : B → C) (g : A → B) (xs : List A) → map f (map g xs) ≡ map (λ x. f (g x)) xs
map_both f g [] = refl
map_both f g (x ∷ xs) = ap (λ l. f (g x) ∷ l) (map_both f g xs)

filter_mapped : {B : Type 0} (p : B → Bool) (f : ℕ → B) (ns : List ℕ) → filter p (map f ns) ≡ map f (filter (λ n. p (f n)) ns)
filter_mapped p f [] = refl
filter_mapped {B} p f (n ∷ ns) = by (p (f n)) (filter_mapped p f ns)
  where
    by : (b : Bool) → filter p (map f ns) ≡ map f (filter (λ n. p (f n)) ns) → cond b (f n ∷ filter p (map f ns)) (filter p (map f ns)) ≡ map f (cond b (n ∷ filter (λ n. p (f n)) ns) (filter (λ n. p (f n)) ns))
    by true rest = ap (λ l. f n ∷ l) rest
    by false rest = rest

module _ (a : CoreParts) (sound : IsSoundCore a) (rep serial : ℕ) (g : WaitSet) (is : Ok g ≡ item_at item_of a.sets rep serial) where
  -- ---- Waiters

  pub waiters_listed : IsLinks a.places → (x : ℕ) → g.number ≡ x → IsPermutation (waiters_of x (seen a).core) (of_chain a g.waiters)
  waiters_listed links x same = subst (λ y. IsPermutation (waiters_of y (seen a).core) (of_chain a g.waiters)) same
      (passing_permute (seen a).core.threads (λ n. is_waiter g.number n (seen a).core) (of_chain a g.waiters)
      (chain_members a sound (WaitsOn g.number) g.waiters (waiters_chain a sound rep serial g is) (is_waiting_on g.number) (waits_passes g.number) (waits_filed g.number) links)
      (λ n. there n (get (seen a).core.threads n)))
    where
      there : (n : ℕ) (o : Option Thread) → option_map_or (is_waiting_on g.number) (option_map (λ (t : Thread). t.place) o) false ≡ true → is_some o ≡ true
      there n None waits = waits
      there n (Some t) waits = refl

  -- ---- Ready members

  call_reads : (r : ℕ) (p : Placed (Single GuestTask)) (f : Filing ℕ OrderKey) (x : ℕ × Call) → place_at a.calls r ≡ Some p → ready_call r p.serial p.entry ≡ Some f → call_key p.entry ≡ Some x → call_at_key a f.value ≡ x.0
  call_reads r p f x at says key =
      ap (λ (v : Filing ℕ OrderKey). call_at_key a v.value) (sym (same_Some (record { node = p.entry.item.ready.index; key = ready_in p.entry.item.call.event p.entry.item.call.join; value = member_order_key p.entry.item.entry r }) f says))
      ∙ (ap (λ o. number_in (key_in call_key o)) at ∙ ap number_in key)

  work_reads : (r : ℕ) (p : Placed (Single WorkRecord)) (f : Filing ℕ OrderKey) (x : ℕ × Work) → place_at a.works r ≡ Some p → ready_work r p.serial p.entry ≡ Some f → work_key p.entry ≡ Some x → work_at_key a f.value ≡ x.0
  work_reads r p f x at says key =
      ap (λ (v : Filing ℕ OrderKey). work_at_key a v.value) (sym (same_Some (record { node = p.entry.item.ready.index; key = ready_in p.entry.item.work.event p.entry.item.work.join; value = member_order_key p.entry.item.entry r }) f says))
      ∙ (ap (λ o. number_in (key_in work_key o)) at ∙ ap number_in key)

  call_tested : (n : ℕ) → is_ready_member g.number (Subtask.Guest n) (seen a).core ≡ passes_at (λ (e : ℕ × Call). is_ready g.number e.1.join e.1.event) (records call_key a.calls.places) n
  unfolding seen
  call_tested n = by (get (records call_key a.calls.places) n) refl
    where
      by : (o : Option Call) → get (records call_key a.calls.places) n ≡ o → is_ready_member g.number (Subtask.Guest n) (seen a).core ≡ passes_at (λ (e : ℕ × Call). is_ready g.number e.1.join e.1.event) (records call_key a.calls.places) n
      by None none = rw none refl
      by (Some x) some = rw some refl

  work_tested : (n : ℕ) → is_ready_member g.number (Subtask.Host n) (seen a).core ≡ passes_at (λ (e : ℕ × Work). is_ready g.number e.1.join e.1.event) (records work_key a.works.places) n
  unfolding seen
  work_tested n = by (get (records work_key a.works.places) n) refl
    where
      by : (o : Option Work) → get (records work_key a.works.places) n ≡ o → is_ready_member g.number (Subtask.Host n) (seen a).core ≡ passes_at (λ (e : ℕ × Work). is_ready g.number e.1.join e.1.event) (records work_key a.works.places) n
      by None none = rw none refl
      by (Some x) some = rw some refl

  calls_are : IsLinks a.ready_calls → IsMembers (λ n. is_ready_member g.number (Subtask.Guest n) (seen a).core) (walked (call_at_key a) a.ready_calls g.ready_calls)
  unfolding IsSoundCore
  calls_are links =
      let walk = IsMembers-walked ready_call (ready_call_chain (bare (parts_of a))) a.calls a.ready_calls (calls_filed a sound) g.number g.ready_calls (calls_chain a sound rep serial g is) call_key (λ (e : ℕ × Call). is_ready g.number e.1.join e.1.event) (call_tests g.number) links sound.tables.calls.apart (call_at_key a) call_reads in
      record { once = walk.once; are = λ n. walk.are n ∙ sym (call_tested n) }

  works_are : IsLinks a.ready_works → IsMembers (λ n. is_ready_member g.number (Subtask.Host n) (seen a).core) (walked (work_at_key a) a.ready_works g.ready_works)
  unfolding IsSoundCore
  works_are links =
      let walk = IsMembers-walked ready_work (ready_work_chain (bare (parts_of a))) a.works a.ready_works (works_filed a sound) g.number g.ready_works (works_chain a sound rep serial g is) work_key (λ (e : ℕ × Work). is_ready g.number e.1.join e.1.event) (work_tests g.number) links sound.tables.works.apart (work_at_key a) work_reads in
      record { once = walk.once; are = λ n. walk.are n ∙ sym (work_tested n) }

  calls_listed : IsLinks a.ready_calls → IsPermutation (filter (λ sub. is_ready_member g.number sub (seen a).core) (map (λ n. Subtask.Guest n) (numbers (seen a).core.calls))) (calls_in a g.ready_calls)
  calls_listed links =
      subst (λ l. IsPermutation l (calls_in a g.ready_calls)) (sym (filter_mapped (λ sub. is_ready_member g.number sub (seen a).core) (λ n. Subtask.Guest n) (numbers (seen a).core.calls)))
      (subst (IsPermutation (map (λ n. Subtask.Guest n) (filter (λ n. is_ready_member g.number (Subtask.Guest n) (seen a).core) (numbers (seen a).core.calls)))) (map_both (λ n. Subtask.Guest n) _ (entries a.ready_calls g.ready_calls))
      (IsPermutation-map (λ n. Subtask.Guest n) _ _ (passing_permute (seen a).core.calls (λ n. is_ready_member g.number (Subtask.Guest n) (seen a).core) _ (calls_are links) (λ n. there n (get (seen a).core.calls n)))))
    where
      never : (b : Bool) {X : Type 0} → (b && false) ≡ true → X
      never true on = absurd (cc)
      never false on = absurd (cc)

      there : (n : ℕ) (o : Option Call) → (is_in_set g.number (option_map_or (λ (c : Call). c.join) o Join.Nowhere) && is_some (option_and_then (λ (c : Call). c.event) o)) ≡ true → is_some o ≡ true
      there n None ready = never (is_in_set g.number Join.Nowhere) ready
      there n (Some c) ready = refl

  works_listed : IsLinks a.ready_works → IsPermutation (filter (λ sub. is_ready_member g.number sub (seen a).core) (map (λ n. Subtask.Host n) (numbers (seen a).core.works))) (works_in a g.ready_works)
  works_listed links =
      subst (λ l. IsPermutation l (works_in a g.ready_works)) (sym (filter_mapped (λ sub. is_ready_member g.number sub (seen a).core) (λ n. Subtask.Host n) (numbers (seen a).core.works)))
      (subst (IsPermutation (map (λ n. Subtask.Host n) (filter (λ n. is_ready_member g.number (Subtask.Host n) (seen a).core) (numbers (seen a).core.works)))) (map_both (λ n. Subtask.Host n) _ (entries a.ready_works g.ready_works))
      (IsPermutation-map (λ n. Subtask.Host n) _ _ (passing_permute (seen a).core.works (λ n. is_ready_member g.number (Subtask.Host n) (seen a).core) _ (works_are links) (λ n. there n (get (seen a).core.works n)))))
    where
      never : (b : Bool) {X : Type 0} → (b && false) ≡ true → X
      never true on = absurd (cc)
      never false on = absurd (cc)

      there : (n : ℕ) (o : Option Work) → (is_in_set g.number (option_map_or (λ (c : Work). c.join) o Join.Nowhere) && is_some (option_and_then (λ (c : Work). c.event) o)) ≡ true → is_some o ≡ true
      there n None ready = never (is_in_set g.number Join.Nowhere) ready
      there n (Some c) ready = refl

  -- works come before calls
  pub members_listed : IsLinks a.ready_calls → IsLinks a.ready_works → (x : ℕ) → g.number ≡ x → IsPermutation (ready_of x (seen a).core) (works_in a g.ready_works ++ calls_in a g.ready_calls)
  members_listed calls works x same = subst (λ y. IsPermutation (ready_of y (seen a).core) (works_in a g.ready_works ++ calls_in a g.ready_calls)) same
      (subst (λ l. IsPermutation l (works_in a g.ready_works ++ calls_in a g.ready_calls)) (sym (filter-append (λ sub. is_ready_member g.number sub (seen a).core) (map (λ n. Subtask.Guest n) (numbers (seen a).core.calls)) (map (λ n. Subtask.Host n) (numbers (seen a).core.works))))
      (IsPermutation-trans _ _ _ (IsPermutation-append_left _ _ _ (calls_listed calls))
      (IsPermutation-trans _ _ _ (IsPermutation-append_right (calls_in a g.ready_calls) _ _ (works_listed works)) (IsPermutation-append_comm (calls_in a g.ready_calls) (works_in a g.ready_works)))))
