-- The ready members of a set.
use Rattle.core_records.proofs.Core.{[], ap, ap₂, bare, bare_call, bare_work, Bool, Call, call_key, Core, eq-eqb, eqb-true, false, filed_held, Filing, filings, filings_at, get, get-records, has, has_ready_member, held_passes, Holds, is_in_set, is_ready_member, is_some, IsIndex, IsIndex-same, IsMembers-numbers, IsSome, IsSoundCore, item_at, item_of, Join, key_in, List, list_any, list_of, map, None, number_in, numbers, Ok, on_item, Option, option_and_then, option_map_or, parts_of, place_at, place_at-mapped, Placed, placed_as, ready_call, ready_call_chain, ready_in, ready_work, ready_work_chain, record_at, record_found, records, refl, said, same_Some, seen, Some, Spot, Status, Subtask, subtasks, sym, Table, Tests, true, Work, work_key, ℕ, ◌&&◌, ◌++◌, ◌==◌, ◌||◌, ◌∙◌, ◌∷◌, ◌≡◌}
use Rattle.core_records.specs.declared.{call_records.GuestTask.GuestTask, parts.CoreParts.CoreParts, set_records.WaitSet.WaitSet, single.Single.Single, work_records.WorkRecord.WorkRecord}
use Rattle.core_places.proofs.FiledLemmas.{kept_under, passes_number}
use Rattle.table_lists.specs.declared.ordered_lists.OrderKey.{OrderKey}
use Rattle.core_records.specs.RecordPlaces.{member_order_key}

-- what has this event and is joined so is a ready member
abbrev pub is_ready : ℕ → Join → Option Status → Bool
is_ready x j e = is_in_set x j && is_some e

ready_passes : (x : ℕ) (e : Option Status) (j : Join) → ready_in e j ≡ Some x → is_ready x j e ≡ true
ready_passes x (Some e) (Join.Set y) is = ap (λ b. b && true) (eq-eqb x y (sym (same_Some y x is)))
ready_passes x (Some e) Join.Nowhere is = absurd (cc)
ready_passes x (Some e) (Join.Watched n) is = absurd (cc)
ready_passes x None j is = absurd (cc)

ready_filed : (x : ℕ) (e : Option Status) (j : Join) → is_ready x j e ≡ true → ready_in e j ≡ Some x
ready_filed x (Some e) (Join.Set y) is = ap (λ z. Some z) (sym (eqb-true x y (both (x == y) is)))
  where
    both : (b : Bool) → (b && true) ≡ true → b ≡ true
    both true is = refl
    both false is = is
ready_filed x (Some e) Join.Nowhere is = absurd (cc)
ready_filed x (Some e) (Join.Watched n) is = absurd (cc)
ready_filed x None j is = absurd (never (is_in_set x j) is)
  where
    never : (b : Bool) → (b && false) ≡ true → ⊥
    never true is = absurd (cc)
    never false is = absurd (cc)

pub call_tests : (x : ℕ) → Tests ready_call call_key x (λ (e : ℕ × Call). is_ready x e.1.join e.1.event)
call_tests x = record {
  passes = λ rep serial e f says is_k. ((e.item.number, e.item.call), (refl, ready_passes x e.item.call.event e.item.call.join (ap (λ (g : Filing ℕ OrderKey). g.key) (same_Some (record { node = e.item.ready.index; key = ready_in e.item.call.event e.item.call.join; value = member_order_key e.item.entry rep }) f says) ∙ is_k)));
  filed = λ rep serial e y says is. (record { node = e.item.ready.index; key = ready_in e.item.call.event e.item.call.join; value = member_order_key e.item.entry rep }, (refl, ready_filed x e.item.call.event e.item.call.join (ap (λ (z : ℕ × Call). is_ready x z.1.join z.1.event) (same_Some (e.item.number, e.item.call) y says) ∙ is)));
}

pub work_tests : (x : ℕ) → Tests ready_work work_key x (λ (e : ℕ × Work). is_ready x e.1.join e.1.event)
work_tests x = record {
  passes = λ rep serial e f says is_k. ((e.item.number, e.item.work), (refl, ready_passes x e.item.work.event e.item.work.join (ap (λ (g : Filing ℕ OrderKey). g.key) (same_Some (record { node = e.item.ready.index; key = ready_in e.item.work.event e.item.work.join; value = member_order_key e.item.entry rep }) f says) ∙ is_k)));
  filed = λ rep serial e y says is. (record { node = e.item.ready.index; key = ready_in e.item.work.event e.item.work.join; value = member_order_key e.item.entry rep }, (refl, ready_filed x e.item.work.event e.item.work.join (ap (λ (z : ℕ × Work). is_ready x z.1.join z.1.event) (same_Some (e.item.number, e.item.work) y says) ∙ is)));
}

-- where the chain of a key is empty no record passes
none_at : {E K X : Type 0} (says : ℕ → ℕ → E → Option (Filing K OrderKey)) (chain : K → Option ℕ) (t : Table E) (links : List (Spot OrderKey)) (index : IsIndex chain links (filings says t)) (k : K) (c : ℕ) → chain k ≡ Some c → (key : E → Option (ℕ × X)) (test : ℕ × X → Bool) → Tests says key k test → ((v : OrderKey) → Holds links c v → ⊥) → (n : ℕ) (x : X) → get (records key t.places) n ≡ Some x → test (n, x) ≡ false
none_at {E} {K} {X} says chain t links index k c has key test tests empty n x is = by (test (n, x)) refl (record_found key t.places n x (sym (get-records key t.places n) ∙ is))
  where
    by_place : (r : ℕ) (o : Option (Placed E)) → place_at t r ≡ o → key_in key o ≡ Some (n, x) → test (n, x) ≡ true → ⊥
    by_place r None at is passes = absurd (cc)
    by_place r (Some p) at is passes =
        let f = tests.filed r p.serial p.entry (n, x) is passes in
        empty f.0.value (filed_held chain links (filings says t) index k c has f.0.value (r, (f.0, (filings_at says t r (Some p) at ∙ f.1.0, (f.1.1, refl)))))

    by : (b : Bool) → test (n, x) ≡ b → (r : ℕ) × (record_at key t.places r ≡ Some (n, x)) → b ≡ false
    by true passes one = absurd (by_place one.0 (place_at t one.0) refl one.1 passes)
    by false passes one = refl

none_both : {X : Type 0} (u : X → Bool) (f g : ℕ → X) (ns ms : List ℕ) → ((n : ℕ) → u (f n) ≡ false) → ((n : ℕ) → u (g n) ≡ false) → list_any u (map f ns ++ map g ms) ≡ false
none_both u f g [] [] none_f none_g = refl
none_both u f g [] (m ∷ ms) none_f none_g = ap₂ (λ b c. b || c) (none_g m) (none_both u f g [] ms none_f none_g)
none_both u f g (n ∷ ns) ms none_f none_g = ap₂ (λ b c. b || c) (none_f n) (none_both u f g ns ms none_f none_g)

module _ (a : CoreParts) (sound : IsSoundCore a) where
  pub calls_filed : IsIndex (ready_call_chain (bare (parts_of a))) a.ready_calls (filings ready_call a.calls)
  unfolding IsSoundCore filings
  calls_filed = IsIndex-same (ready_call_chain (bare (parts_of a))) a.ready_calls _ sound.whole.chained.ready_calls (filings ready_call a.calls) (λ r. sym (ap (said ready_call r) (place_at-mapped (on_item bare_call) a.calls r) ∙ by r (place_at a.calls r)))
    where
      by : (r : ℕ) (o : Option (Placed (Single GuestTask))) → said ready_call r (placed_as (on_item bare_call) o) ≡ said ready_call r o
      by r None = refl
      by r (Some p) = refl

  pub works_filed : IsIndex (ready_work_chain (bare (parts_of a))) a.ready_works (filings ready_work a.works)
  unfolding IsSoundCore filings
  works_filed = IsIndex-same (ready_work_chain (bare (parts_of a))) a.ready_works _ sound.whole.chained.ready_works (filings ready_work a.works) (λ r. sym (ap (said ready_work r) (place_at-mapped (on_item bare_work) a.works r) ∙ by r (place_at a.works r)))
    where
      by : (r : ℕ) (o : Option (Placed (Single WorkRecord))) → said ready_work r (placed_as (on_item bare_work) o) ≡ said ready_work r o
      by r None = refl
      by r (Some p) = refl

  module _ (rep serial : ℕ) (g : WaitSet) (is : Ok g ≡ item_at item_of a.sets rep serial) where
    pub calls_chain : ready_call_chain (bare (parts_of a)) g.number ≡ Some g.ready_calls
    unfolding IsSoundCore
    calls_chain = kept_under (λ (x : WaitSet). x.number) (λ (x : WaitSet). x.set) (λ (x : WaitSet). x.ready_calls) a.sets a.made.sets sound.tables.sets rep serial g is

    pub works_chain : ready_work_chain (bare (parts_of a)) g.number ≡ Some g.ready_works
    unfolding IsSoundCore
    works_chain = kept_under (λ (x : WaitSet). x.number) (λ (x : WaitSet). x.set) (λ (x : WaitSet). x.ready_works) a.sets a.made.sets sound.tables.sets rep serial g is

    pub ready_calls_live : IsSome (list_of a.ready_calls g.ready_calls)
    ready_calls_live = calls_filed.live g.number g.ready_calls calls_chain

    pub ready_works_live : IsSome (list_of a.ready_works g.ready_works)
    ready_works_live = works_filed.live g.number g.ready_works works_chain

    -- what the chains hold is the place of a ready member
    pub call_held : (v : OrderKey) → Holds a.ready_calls g.ready_calls v → (x n : ℕ) → g.number ≡ x → n ≡ number_in (record_at call_key a.calls.places v.place) → is_ready_member x (Subtask.Guest n) (seen a).core ≡ true
    unfolding seen IsSoundCore
    call_held v holds x n same at =
        let one = held_passes ready_call (ready_call_chain (bare (parts_of a))) a.calls a.ready_calls calls_filed g.number g.ready_calls calls_chain call_key (λ (e : ℕ × Call). is_ready g.number e.1.join e.1.event) (call_tests g.number) sound.tables.calls.apart v holds in
        let here : one.place ≡ v.place = ap (λ (f : Filing ℕ OrderKey). f.value.place) (same_Some (record { node = one.placed.entry.item.ready.index; key = ready_in one.placed.entry.item.call.event one.placed.entry.item.call.join; value = member_order_key one.placed.entry.item.entry one.place }) one.filed one.is_said) ∙ ap (λ (s : OrderKey). s.place) one.is_value in
        let number : one.entry.0 ≡ n = passes_number (λ (h : GuestTask). h.number) (λ (h : GuestTask). h.call) ready_call a.calls (λ (e : ℕ × Call). is_ready g.number e.1.join e.1.event) v n one here at in
        let found : get (records call_key a.calls.places) n ≡ Some one.entry.1 = ap (get (records call_key a.calls.places)) (sym number) ∙ one.is_found in
        ap (λ o. is_in_set x (option_map_or (λ (c : Call). c.join) o Join.Nowhere) && is_some (option_and_then (λ (c : Call). c.event) o)) found ∙ (ap (λ y. is_ready y one.entry.1.join one.entry.1.event) (sym same) ∙ one.passes)

    pub work_held : (v : OrderKey) → Holds a.ready_works g.ready_works v → (x n : ℕ) → g.number ≡ x → n ≡ number_in (record_at work_key a.works.places v.place) → is_ready_member x (Subtask.Host n) (seen a).core ≡ true
    unfolding seen IsSoundCore
    work_held v holds x n same at =
        let one = held_passes ready_work (ready_work_chain (bare (parts_of a))) a.works a.ready_works works_filed g.number g.ready_works works_chain work_key (λ (e : ℕ × Work). is_ready g.number e.1.join e.1.event) (work_tests g.number) sound.tables.works.apart v holds in
        let here : one.place ≡ v.place = ap (λ (f : Filing ℕ OrderKey). f.value.place) (same_Some (record { node = one.placed.entry.item.ready.index; key = ready_in one.placed.entry.item.work.event one.placed.entry.item.work.join; value = member_order_key one.placed.entry.item.entry one.place }) one.filed one.is_said) ∙ ap (λ (s : OrderKey). s.place) one.is_value in
        let number : one.entry.0 ≡ n = passes_number (λ (h : WorkRecord). h.number) (λ (h : WorkRecord). h.work) ready_work a.works (λ (e : ℕ × Work). is_ready g.number e.1.join e.1.event) v n one here at in
        let found : get (records work_key a.works.places) n ≡ Some one.entry.1 = ap (get (records work_key a.works.places)) (sym number) ∙ one.is_found in
        ap (λ o. is_in_set x (option_map_or (λ (c : Work). c.join) o Join.Nowhere) && is_some (option_and_then (λ (c : Work). c.event) o)) found ∙ (ap (λ y. is_ready y one.entry.1.join one.entry.1.event) (sym same) ∙ one.passes)

    -- where both chains are empty no member is ready
    pub none_ready : ((v : OrderKey) → Holds a.ready_calls g.ready_calls v → ⊥) → ((v : OrderKey) → Holds a.ready_works g.ready_works v → ⊥) → (x : ℕ) → g.number ≡ x → has_ready_member x (seen a).core ≡ false
    unfolding seen has_ready_member
    none_ready no_calls no_works x same =
        ap (λ y. list_any (λ sub. is_ready_member y sub (seen a).core) (subtasks (seen a).core)) (sym same)
        ∙ none_both (λ sub. is_ready_member g.number sub (seen a).core) (λ n. Subtask.Guest n) (λ n. Subtask.Host n) (numbers (seen a).core.calls) (numbers (seen a).core.works)
        (λ n. call_not n (get (records call_key a.calls.places) n) refl) (λ n. work_not n (get (records work_key a.works.places) n) refl)
      where
        call_not : (n : ℕ) (o : Option Call) → get (records call_key a.calls.places) n ≡ o → is_ready_member g.number (Subtask.Guest n) (seen a).core ≡ false
        call_not n None is = ap (λ o. is_in_set g.number (option_map_or (λ (c : Call). c.join) o Join.Nowhere) && is_some (option_and_then (λ (c : Call). c.event) o)) is
        call_not n (Some c) is = ap (λ o. is_in_set g.number (option_map_or (λ (c : Call). c.join) o Join.Nowhere) && is_some (option_and_then (λ (c : Call). c.event) o)) is
            ∙ none_at ready_call (ready_call_chain (bare (parts_of a))) a.calls a.ready_calls calls_filed g.number g.ready_calls calls_chain call_key (λ (e : ℕ × Call). is_ready g.number e.1.join e.1.event) (call_tests g.number) no_calls n c is

        work_not : (n : ℕ) (o : Option Work) → get (records work_key a.works.places) n ≡ o → is_ready_member g.number (Subtask.Host n) (seen a).core ≡ false
        work_not n None is = ap (λ o. is_in_set g.number (option_map_or (λ (c : Work). c.join) o Join.Nowhere) && is_some (option_and_then (λ (c : Work). c.event) o)) is
        work_not n (Some c) is = ap (λ o. is_in_set g.number (option_map_or (λ (c : Work). c.join) o Join.Nowhere) && is_some (option_and_then (λ (c : Work). c.event) o)) is
            ∙ none_at ready_work (ready_work_chain (bare (parts_of a))) a.works a.ready_works works_filed g.number g.ready_works works_chain work_key (λ (e : ℕ × Work). is_ready g.number e.1.join e.1.event) (work_tests g.number) no_works n c is

-- ---- Some member is ready

pub any_mapped : {X : Type 0} (u : X → Bool) (f : ℕ → X) (n : ℕ) (ns : List ℕ) → has n ns ≡ true → u (f n) ≡ true → list_any u (map f ns) ≡ true
any_mapped u f n [] there is = absurd (cc)
any_mapped u f n (m ∷ ns) there is = by (n == m) refl there (λ rest. any_mapped u f n ns rest is)
  where
    or_right : (b : Bool) → list_any u (map f ns) ≡ true → (b || list_any u (map f ns)) ≡ true
    or_right true any = refl
    or_right false any = any

    by : (b : Bool) → (n == m) ≡ b → (b || has n ns) ≡ true → (has n ns ≡ true → list_any u (map f ns) ≡ true) → (u (f m) || list_any u (map f ns)) ≡ true
    by true same there rest = ap (λ b. b || list_any u (map f ns)) (ap (λ k. u (f k)) (sym (eqb-true n m same)) ∙ is)
    by false same there rest = or_right (u (f m)) (rest there)

pub any_left : {X : Type 0} (u : X → Bool) (xs ys : List X) → list_any u xs ≡ true → list_any u (xs ++ ys) ≡ true
any_left u [] ys any = absurd (cc)
any_left u (x ∷ xs) ys any = by (u x) any (any_left u xs ys)
  where
    by : (b : Bool) → (b || list_any u xs) ≡ true → (list_any u xs ≡ true → list_any u (xs ++ ys) ≡ true) → (b || list_any u (xs ++ ys)) ≡ true
    by true any rest = refl
    by false any rest = rest any

pub any_right : {X : Type 0} (u : X → Bool) (xs ys : List X) → list_any u ys ≡ true → list_any u (xs ++ ys) ≡ true
any_right u [] ys any = any
any_right u (x ∷ xs) ys any = by (u x) (any_right u xs ys any)
  where
    by : (b : Bool) → list_any u (xs ++ ys) ≡ true → (b || list_any u (xs ++ ys)) ≡ true
    by true any = refl
    by false any = any

-- a ready member is there
pub some_ready : (s : Core) (x : ℕ) (sub : Subtask) → is_ready_member x sub s ≡ true → has_ready_member x s ≡ true
unfolding has_ready_member
some_ready s x (Subtask.Guest n) is = any_left (λ sub. is_ready_member x sub s) (map (λ n. Subtask.Guest n) (numbers s.calls)) (map (λ n. Subtask.Host n) (numbers s.works)) (any_mapped (λ sub. is_ready_member x sub s) (λ n. Subtask.Guest n) n (numbers s.calls) ((IsMembers-numbers s.calls).are n ∙ by (get s.calls n) is) is)
  where
    by : (o : Option Call) → (is_in_set x (option_map_or (λ (c : Call). c.join) o Join.Nowhere) && is_some (option_and_then (λ (c : Call). c.event) o)) ≡ true → is_some o ≡ true
    by None is = absurd (cc)
    by (Some c) is = refl
some_ready s x (Subtask.Host n) is = any_right (λ sub. is_ready_member x sub s) (map (λ n. Subtask.Guest n) (numbers s.calls)) (map (λ n. Subtask.Host n) (numbers s.works)) (any_mapped (λ sub. is_ready_member x sub s) (λ n. Subtask.Host n) n (numbers s.works) ((IsMembers-numbers s.works).are n ∙ by (get s.works n) is) is)
  where
    by : (o : Option Work) → (is_in_set x (option_map_or (λ (c : Work). c.join) o Join.Nowhere) && is_some (option_and_then (λ (c : Work). c.event) o)) ≡ true → is_some o ≡ true
    by None is = absurd (cc)
    by (Some c) is = refl
