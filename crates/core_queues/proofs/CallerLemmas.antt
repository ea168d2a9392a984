-- The callers of threads: the chains of the core, and the machine's map.
use Rattle.core_records.proofs.Core.{[], ap, Apart, AreApart, arith, bare, bare_thread, Bool, callers_chain, callers_in, callers_key, callers_of, callers_row, cases_eq, chained, cond, Each, entries, eq-eqb, eqb-true, false, first_number, follower, found_record, found_record_at, free_in_none, get, get-insert, get-records, head_of, In, inl, inr, insert, is_free, is_made, is_nil, is_some, IsBehindNobody, IsFollower, IsLinks, IsRows, IsRows-pushed, IsRows-removed, IsRows-same, IsSome, IsSoundCore, IsWhole, item_at, item_of, key_in, last_of, last_or, later_of, less_by, less_elsewhere, linked, List, list_any, list_of, map, map-append, mapped, ne_eqb, newest, newest_of, None, not, Ok, older, older_of, on_core, on_item, one_if, Option, option_map, CoreImage, parts_of, place_at, Placed, Records, records, Refiles-linked, Refiles-removed, refl, removed, same_map, same_Some, seen, set_callers, slice_get, Some, Spot, standing, subst, sym, TableId, thread_of, ThreadKey, times, true, unwrap_or, values, values_are, with_nodes, ℕ, ◌++◌, ◌+◌, ◌==◌, ◌||◌, ◌∙◌, ◌∷◌, ◌≡◌}
use Rattle.core_records.specs.declared.{parts.CoreParts.CoreParts, single.Single.Single, thread_records.Follower.Follower, thread_records.GuestThread.GuestThread}
use Rattle.core_records.proofs.KindLemmas.{item_stands}
use Rattle.core_records.proofs.ReadLemmas.{thread_named}
use Rattle.core_records.proofs.TableLemmas.{found_mapped}
use Rattle.core_queues.proofs.ListLemmas.{none_passes}
use Rattle.core_queues.proofs.SwitchLemmas.{follower_kept}
use Rattle.core_queues.proofs.WholeLemmas.{KeepsNodes, chains_sound, chains_whole}

abbrev pub numbers_of : List Follower → List ℕ
numbers_of fs = map (λ (f : Follower). f.number) fs

-- the follower that is by the node
abbrev pub is_by : ℕ → Follower → Bool
is_by k f = f.node.index == k

-- ---- The first and the last follower of a list

pub first_facts : (xs : List Follower) (k : ℕ) (v : Follower) → Some (k, v) ≡ head_of (with_nodes (λ f. f.node.index) xs) → (Some v.number ≡ first_number (numbers_of xs)) × ((list_any (is_by v.node.index) xs ≡ true) × (numbers_of (less_by (is_by v.node.index) xs) ≡ later_of (numbers_of xs)))
first_facts [] k v is = absurd (cc)
first_facts (x ∷ xs) k v is =
    let same : v ≡ x = ap (λ (e : ℕ × Follower). e.1) (same_Some (k, v) (x.node.index, x) is) in
    let by : is_by v.node.index x ≡ true = eq-eqb x.node.index v.node.index (sym (ap (λ (f : Follower). f.node.index) same)) in
    (ap (λ (f : Follower). Some f.number) same, (ap (λ b. b || list_any (is_by v.node.index) xs) by, ap (λ b. numbers_of (cond b xs (x ∷ less_by (is_by v.node.index) xs))) by))

pub first_known : (Known : Follower → Type 0) (xs : List Follower) (k : ℕ) (v : Follower) → Each Known xs → Some (k, v) ≡ head_of (with_nodes (λ f. f.node.index) xs) → Known v
first_known Known [] k v all is = absurd (cc)
first_known Known (x ∷ xs) k v all is = subst Known (sym (ap (λ (e : ℕ × Follower). e.1) (same_Some (k, v) (x.node.index, x) is))) all.0

pub first_of_none : (xs : List Follower) → None ≡ head_of (with_nodes (λ f. f.node.index) xs) → xs ≡ []
first_of_none [] none = refl
first_of_none (x ∷ xs) none = absurd (cc)

-- the last of x and xs
abbrev ends : Follower → List Follower → ℕ → Follower → Type 0
ends x xs k v = Some (k, v) ≡ last_or (Some (x.node.index, x)) (with_nodes (λ f. f.node.index) xs)

last_number : (x : Follower) (xs : List Follower) (k : ℕ) (v : Follower) → ends x xs k v → v.number ≡ newest x.number (numbers_of xs)
last_number x [] k v is = ap (λ (e : ℕ × Follower). e.1.number) (same_Some (k, v) (x.node.index, x) is)
last_number x (y ∷ xs) k v is = last_number y xs k v is

last_node : (x : Follower) (xs : List Follower) (k : ℕ) (v : Follower) → ends x xs k v → v.node.index ≡ k
last_node x [] k v is = ap (λ (e : ℕ × Follower). e.1.node.index) (same_Some (k, v) (x.node.index, x) is) ∙ sym (ap (λ (e : ℕ × Follower). e.0) (same_Some (k, v) (x.node.index, x) is))
last_node x (y ∷ xs) k v is = last_node y xs k v is

last_in : (x : Follower) (xs : List Follower) (k : ℕ) (v : Follower) → ends x xs k v → In k (with_nodes (λ f. f.node.index) (x ∷ xs))
last_in x [] k v is = inl (ap (λ (e : ℕ × Follower). e.0) (same_Some (k, v) (x.node.index, x) is))
last_in x (y ∷ xs) k v is = inr (last_in y xs k v is)

last_any : (x : Follower) (xs : List Follower) (k : ℕ) (v : Follower) → ends x xs k v → list_any (is_by k) (x ∷ xs) ≡ true
last_any x [] k v is = ap (λ b. b || false) (eq-eqb x.node.index k (sym (ap (λ (e : ℕ × Follower). e.0) (same_Some (k, v) (x.node.index, x) is))))
last_any x (y ∷ xs) k v is = by (x.node.index == k) (last_any y xs k v is)
  where
    by : (b : Bool) → list_any (is_by k) (y ∷ xs) ≡ true → (b || list_any (is_by k) (y ∷ xs)) ≡ true
    by true any = refl
    by false any = any

last_less : (x : Follower) (xs : List Follower) (k : ℕ) (v : Follower) → Apart (with_nodes (λ f. f.node.index) (x ∷ xs)) → ends x xs k v → numbers_of (less_by (is_by k) (x ∷ xs)) ≡ older x.number (numbers_of xs)
last_less x [] k v apart is = ap (λ b. numbers_of (cond b [] (x ∷ []))) (eq-eqb x.node.index k (sym (ap (λ (e : ℕ × Follower). e.0) (same_Some (k, v) (x.node.index, x) is))))
last_less x (y ∷ xs) k v apart is =
    ap (λ b. numbers_of (cond b (y ∷ xs) (x ∷ less_by (is_by k) (y ∷ xs)))) (ne_eqb x.node.index k (λ same. apart.0 (subst (λ m. In m (with_nodes (λ f. f.node.index) (y ∷ xs))) (sym same) (last_in y xs k v is))))
    ∙ ap (λ (l : List ℕ). x.number ∷ l) (last_less y xs k v apart.1 is)

pub last_facts : (xs : List Follower) (k : ℕ) (v : Follower) → Apart (with_nodes (λ f. f.node.index) xs) → Some (k, v) ≡ last_of (with_nodes (λ f. f.node.index) xs) → (Some v.number ≡ newest_of (numbers_of xs)) × ((list_any (is_by v.node.index) xs ≡ true) × (numbers_of (less_by (is_by v.node.index) xs) ≡ older_of (numbers_of xs)))
last_facts [] k v apart is = absurd (cc)
last_facts (x ∷ xs) k v apart is = (
  ap (λ (n : ℕ). Some n) (last_number x xs k v is),
  (
    ap (λ m. list_any (is_by m) (x ∷ xs)) (last_node x xs k v is) ∙ last_any x xs k v is,
    ap (λ m. numbers_of (less_by (is_by m) (x ∷ xs))) (last_node x xs k v is) ∙ last_less x xs k v apart is,
  ),
)

pub last_known : (Known : Follower → Type 0) (xs : List Follower) (k : ℕ) (v : Follower) → Each Known xs → Some (k, v) ≡ last_of (with_nodes (λ f. f.node.index) xs) → Known v
last_known Known [] k v all is = absurd (cc)
last_known Known (x ∷ []) k v all is = subst Known (sym (ap (λ (e : ℕ × Follower). e.1) (same_Some (k, v) (x.node.index, x) is))) all.0
last_known Known (x ∷ y ∷ xs) k v all is = last_known Known (y ∷ xs) k v all.1 is

pub last_of_none : (xs : List Follower) → None ≡ last_of (with_nodes (λ f. f.node.index) xs) → xs ≡ []
last_of_none [] none = refl
last_of_none (x ∷ xs) none = absurd (some xs x none)
  where
    some : (ys : List Follower) (y : Follower) → None ≡ last_or (Some (y.node.index, y)) (with_nodes (λ f. f.node.index) ys) → ⊥
    some [] y none = absurd (cc)
    some (z ∷ ys) y none = some ys z none

no_time : (n : ℕ) (ms : List ℕ) → times n ms ≡ 0 → list_any (λ m. n == m) ms ≡ false
no_time n [] none = refl
no_time n (m ∷ ms) none = by (n == m) none (no_time n ms)
  where
    by : (b : Bool) → one_if b + times n ms ≡ 0 → (times n ms ≡ 0 → list_any (λ m. n == m) ms ≡ false) → (b || list_any (λ m. n == m) ms) ≡ false
    by true none rest = absurd (omega (arith, none))
    by false none rest = rest (omega (arith, none))

-- ---- Keys

-- a key that keeps another field of each record
module _ {T X Y : Type 0} (number : T → ℕ) (rec : T → X) (other : T → Y) where
  pub apart_as : (ps : List (Option (Placed (Single T)))) → AreApart (λ e. Some (number e.item, rec e.item)) ps → AreApart (λ e. Some (number e.item, other e.item)) ps
  apart_as ps apart = record { one_place = λ r s n x y at_r at_s. by r s n x y (standing (slice_get ps r)) (standing (slice_get ps s)) refl refl at_r at_s }
    where
      by : (r s n : ℕ) (x y : Y) (o q : Option (Placed (Single T))) → standing (slice_get ps r) ≡ o → standing (slice_get ps s) ≡ q → key_in (λ (e : Single T). Some (number e.item, other e.item)) o ≡ Some (n, x) → key_in (λ (e : Single T). Some (number e.item, other e.item)) q ≡ Some (n, y) → r ≡ s
      by r s n x y None q is_r is_s at_r at_s = absurd (cc)
      by r s n x y (Some p) None is_r is_s at_r at_s = absurd (cc)
      by r s n x y (Some p) (Some w) is_r is_s at_r at_s = apart.one_place r s n (rec p.entry.item) (rec w.entry.item)
          (ap (key_in (λ (e : Single T). Some (number e.item, rec e.item))) is_r ∙ ap (λ (m : ℕ). Some (m, rec p.entry.item)) (ap (λ (e : ℕ × Y). e.0) (same_Some (number p.entry.item, other p.entry.item) (n, x) at_r)))
          (ap (key_in (λ (e : Single T). Some (number e.item, rec e.item))) is_s ∙ ap (λ (m : ℕ). Some (m, rec w.entry.item)) (ap (λ (e : ℕ × Y). e.0) (same_Some (number w.entry.item, other w.entry.item) (n, y) at_s)))

pub none_as : {T X Y : Type 0} (number : T → ℕ) (rec : T → X) (other : T → Y) (m : ℕ) (ps : List (Option (Placed (Single T)))) → found_record (λ e. Some (number e.item, rec e.item)) m ps ≡ None → found_record (λ e. Some (number e.item, other e.item)) m ps ≡ None
unfolding found_record
none_as number rec other m [] none = refl
none_as number rec other m (None ∷ ps) none = none_as number rec other m ps none
none_as number rec other m (Some p ∷ ps) none = by (m == number p.entry.item) none (none_as number rec other m ps)
  where
    by : (b : Bool) → cond b (Some (rec p.entry.item)) (found_record (λ e. Some (number e.item, rec e.item)) m ps) ≡ None → (found_record (λ e. Some (number e.item, rec e.item)) m ps ≡ None → found_record (λ e. Some (number e.item, other e.item)) m ps ≡ None) → cond b (Some (other p.entry.item)) (found_record (λ e. Some (number e.item, other e.item)) m ps) ≡ None
    by true none rest = absurd (cc)
    by false none rest = rest none

-- a function of what a key keeps
pub found_by : {T X Y : Type 0} (number : T → ℕ) (rec : T → X) (f : X → Y) (m : ℕ) (ps : List (Option (Placed (Single T)))) → found_record (λ e. Some (number e.item, f (rec e.item))) m ps ≡ option_map f (found_record (λ e. Some (number e.item, rec e.item)) m ps)
unfolding found_record
found_by number rec f m [] = refl
found_by number rec f m (None ∷ ps) = found_by number rec f m ps
found_by number rec f m (Some p ∷ ps) = by (m == number p.entry.item) (found_by number rec f m ps)
  where
    by : (b : Bool) → found_record (λ e. Some (number e.item, f (rec e.item))) m ps ≡ option_map f (found_record (λ e. Some (number e.item, rec e.item)) m ps) → cond b (Some (f (rec p.entry.item))) (found_record (λ e. Some (number e.item, f (rec e.item))) m ps) ≡ option_map f (cond b (Some (rec p.entry.item)) (found_record (λ e. Some (number e.item, rec e.item)) m ps))
    by true rest = refl
    by false rest = rest

module _ (a : CoreParts) where
  abbrev pub bared : CoreImage
  bared = bare (parts_of a)

  abbrev pub callers_after : List (Spot Follower) → CoreParts
  callers_after behind = record a { behind = behind }

  chain_is : (m : ℕ) → callers_chain bared m ≡ found_record callers_key m a.threads.places
  unfolding mapped
  chain_is m = found_mapped callers_key callers_key (on_item bare_thread) (λ c. c) (λ e. refl) m a.threads.places ∙ same (found_record callers_key m a.threads.places)
    where
      same : (o : Option ℕ) → option_map (λ c. c) o ≡ o
      same None = refl
      same (Some c) = refl

  -- the machine's callers, by chains
  pub callers_get : (behind : List (Spot Follower)) (m : ℕ) → get (records (callers_in behind) a.threads.places) m ≡ option_map (λ c. numbers_of (values behind c)) (callers_chain bared m)
  callers_get behind m = get-records (callers_in behind) a.threads.places m ∙ (found_by (λ (g : GuestThread). g.number) (λ (g : GuestThread). g.callers) (λ c. numbers_of (values behind c)) m a.threads.places ∙ ap (option_map (λ c. numbers_of (values behind c))) (sym (chain_is m)))

  pub callers_row_of : (m : ℕ) → callers_of m (seen a).core ≡ numbers_of (callers_row bared m)
  unfolding seen
  callers_row_of m = ap (λ o. unwrap_or o []) (callers_get a.behind m) ∙ by (callers_chain bared m)
    where
      by : (o : Option ℕ) → unwrap_or (option_map (λ c. numbers_of (values a.behind c)) o) [] ≡ numbers_of (chained a.behind o)
      by None = refl
      by (Some c) = refl

  module _ (sound : IsSoundCore a) where
    is_whole : IsWhole bared
    unfolding IsSoundCore
    is_whole = sound.whole

    -- the chain of a thread that is there
    pub callers_chain_of : (id : TableId ThreadKey) (g : GuestThread) → Ok g ≡ item_at item_of a.threads id.rep id.serial → callers_chain bared (thread_of (seen a) id) ≡ Some g.callers
    unfolding IsSoundCore
    callers_chain_of id g is =
        let one = item_stands (λ (g : GuestThread). g.number) (λ (g : GuestThread). g.thread) a.threads a.made.threads sound.tables.threads id.rep id.serial g is in
        ap (callers_chain bared) (sym (thread_named a id g is)) ∙ (chain_is g.number
        ∙ found_record_at callers_key a.threads.places id.rep g.number g.callers (apart_as (λ (g : GuestThread). g.number) (λ (g : GuestThread). g.thread) (λ (g : GuestThread). g.callers) a.threads.places sound.tables.threads.apart)
        (ap (key_in callers_key) one.1.0 ∙ ap callers_key one.1.1.1))

    pub callers_live : (m c : ℕ) → callers_chain bared m ≡ Some c → IsSome (list_of a.behind c)
    callers_live m c at = is_whole.chained.behind.live m c at

    row_followers : (m : ℕ) → Each (IsFollower bared) (callers_row bared m)
    row_followers m = by (callers_chain bared m) refl
      where
        by : (o : Option ℕ) → callers_chain bared m ≡ o → Each (IsFollower bared) (chained a.behind o)
        by None is = tt
        by (Some c) is = subst (λ o. Each (IsFollower bared) (chained a.behind o)) is (is_whole.chained.behind.all_known m c is)

    entries_are : (m c : ℕ) → callers_chain bared m ≡ Some c → entries a.behind c ≡ with_nodes (λ f. f.node.index) (callers_row bared m)
    entries_are m c at = is_whole.chained.behind.has_list m c at

    -- ---- Nodes of followers

    placed_follower : (f : Follower) → IsFollower bared f → (q : Placed (Single GuestThread)) × ((place_at bared.threads f.place ≡ Some q) × (follower f.place q.entry.item ≡ f))
    placed_follower f is = by (place_at bared.threads f.place) refl is
      where
        by : (o : Option (Placed (Single GuestThread))) → place_at bared.threads f.place ≡ o → option_map (λ (q : Placed (Single GuestThread)). follower f.place q.entry.item) o ≡ Some f → (q : Placed (Single GuestThread)) × ((place_at bared.threads f.place ≡ Some q) × (follower f.place q.entry.item ≡ f))
        by None at is = absurd (cc)
        by (Some q) at is = (q, (at, same_Some (follower f.place q.entry.item) f is))

    pub follower_made : (f : Follower) → IsFollower bared f → is_made a.behind f.node.index ≡ true
    follower_made f is =
        let one = placed_follower f is in
        subst (λ (g : Follower). is_made a.behind g.node.index ≡ true) one.1.1 (is_whole.nodes.callers.made f.place one.0 one.1.0)

    one_follower : (f v : Follower) → IsFollower bared f → IsFollower bared v → f.node.index ≡ v.node.index → f.number ≡ v.number
    one_follower f v is_f is_v same =
        let one = placed_follower f is_f in
        let two = placed_follower v is_v in
        let place : f.place ≡ v.place = is_whole.nodes.callers.own f.place v.place one.0 two.0 one.1.0 two.1.0 (ap (λ (g : Follower). g.node.index) one.1.1 ∙ (same ∙ sym (ap (λ (g : Follower). g.node.index) two.1.1))) in
        let placed : one.0 ≡ two.0 = same_Some one.0 two.0 (sym one.1.0 ∙ (ap (place_at bared.threads) place ∙ two.1.0)) in
        sym (ap (λ (g : Follower). g.number) one.1.1) ∙ (ap (λ (q : Placed (Single GuestThread)). q.entry.item.number) placed ∙ ap (λ (g : Follower). g.number) two.1.1)

    -- that of who is behind nobody is free
    module _ (v : Follower) (is_v : IsFollower bared v) (apart : IsBehindNobody v.number (seen a).core) where
      not_behind : (m : ℕ) → list_any (is_by v.node.index) (callers_row bared m) ≡ false
      not_behind m = none_passes (IsFollower bared) (λ (f : Follower). f.number) (is_by v.node.index) (λ k. v.number == k)
          (λ f known by. eq-eqb v.number f.number (sym (one_follower f v known is_v (eqb-true f.node.index v.node.index by))))
          (callers_row bared m) (row_followers m) (no_time v.number (numbers_of (callers_row bared m)) (ap (times v.number) (sym (callers_row_of m)) ∙ apart m))

      pub caller_free : IsLinks a.behind → is_free a.behind v.node.index ≡ true
      caller_free links = free_in_none (callers_chain bared) (λ f. f.node.index) (IsFollower bared) a.behind (callers_row bared) is_whole.chained.behind links (is_by v.node.index) v.node.index (λ x known. refl) (follower_made v is_v) not_behind

    -- ---- Other chains of callers

    module _ (behind : List (Spot Follower)) (list : ℕ → List Follower) (rows : IsRows (callers_chain bared) (λ f. f.node.index) (IsFollower bared) behind list) where
      values_now : (m c : ℕ) → callers_chain bared m ≡ Some c → values behind c ≡ list m
      values_now m c at = values_are (callers_chain bared) (λ f. f.node.index) (IsFollower bared) behind list rows m c at

      pub callers_sound : KeepsNodes a.behind behind → IsSoundCore (callers_after behind)
      unfolding IsSoundCore
      callers_sound keeps = chains_sound a a.marks a.instance_queues behind a.switch sound
          (chains_whole bared sound.whole a.marks a.instance_queues behind a.switch sound.whole.named.switch (λ n made. made) (λ n made. made) keeps sound.whole.chained.marks sound.whole.chained.instance_queues sound.whole.chained.low
          (IsRows-same (callers_chain bared) (λ f. f.node.index) (IsFollower bared) behind list rows (λ m. chained behind (callers_chain bared m)) (λ m c at. ap (chained behind) at ∙ values_now m c at)))

      -- one thread's callers alone are others
      module _ (n c : ℕ) (at : callers_chain bared n ≡ Some c) (ns : List ℕ) (here : numbers_of (list n) ≡ ns) (others : (m d : ℕ) → callers_chain bared m ≡ Some d → (m ≡ n → ⊥) → list m ≡ callers_row bared m) where
        callers_get_now : (m : ℕ) → get (records (callers_in behind) a.threads.places) m ≡ get (insert (records (callers_in a.behind) a.threads.places) n ns) m
        callers_get_now m = elim (cases_eq m n) [
          | inl same ↦
              callers_get behind m ∙ (ap (λ k. option_map (λ d. numbers_of (values behind d)) (callers_chain bared k)) same ∙ (ap (option_map (λ d. numbers_of (values behind d))) at ∙ (ap (λ (l : List ℕ). Some l) (ap numbers_of (values_now n c at) ∙ here)
              ∙ sym (get-insert (records (callers_in a.behind) a.threads.places) n ns m ∙ ap (λ b. cond b (Some ns) (get (records (callers_in a.behind) a.threads.places) m)) (eq-eqb m n same)))))
          | inr other ↦
              callers_get behind m ∙ (by other (callers_chain bared m) refl
              ∙ sym (get-insert (records (callers_in a.behind) a.threads.places) n ns m ∙ (ap (λ b. cond b (Some ns) (get (records (callers_in a.behind) a.threads.places) m)) (ne_eqb m n other) ∙ callers_get a.behind m)))
        ]
          where
            by : (m ≡ n → ⊥) → (o : Option ℕ) → callers_chain bared m ≡ o → option_map (λ d. numbers_of (values behind d)) (callers_chain bared m) ≡ option_map (λ d. numbers_of (values a.behind d)) (callers_chain bared m)
            by other None is = ap (option_map (λ d. numbers_of (values behind d))) is ∙ sym (ap (option_map (λ d. numbers_of (values a.behind d))) is)
            by other (Some d) is =
                ap (option_map (λ d. numbers_of (values behind d))) is ∙ (ap (λ l. Some (numbers_of l)) (values_now m d is ∙ (others m d is other ∙ ap (chained a.behind) is))
                ∙ sym (ap (option_map (λ d. numbers_of (values a.behind d))) is))

        pub callers_seen : seen (callers_after behind) ≡ on_core (set_callers n ns) (seen a)
        unfolding seen set_callers
        callers_seen = ap (λ (m : Records (List ℕ)). record (seen a) { core = record (seen a).core { callers = m } }) (same_map _ _ callers_get_now)

    -- ---- A node leaves

    module _ (links : IsLinks a.behind) (v : Follower) (behind : List (Spot Follower)) (takes : behind ≡ removed v.node.index a.behind) where
      abbrev pub callers_left : ℕ → List Follower
      callers_left m = less_by (is_by v.node.index) (callers_row bared m)

      rows_left : IsRows (callers_chain bared) (λ f. f.node.index) (IsFollower bared) behind callers_left
      rows_left = IsRows-removed (callers_chain bared) (λ f. f.node.index) (IsFollower bared) a.behind (callers_row bared) is_whole.chained.behind links (is_by v.node.index) v.node.index (λ x known. refl) behind callers_left (λ m. refl) takes

      module _ (made : is_made a.behind v.node.index ≡ true) (n c : ℕ) (at : callers_chain bared n ≡ Some c) where
        pub left_sound : IsSoundCore (callers_after behind)
        left_sound = callers_sound behind callers_left rows_left (Refiles-removed a.behind behind v.node.index links made takes).made

        pub left_seen : (ns : List ℕ) → list_any (is_by v.node.index) (callers_row bared n) ≡ true → numbers_of (callers_left n) ≡ ns → seen (callers_after behind) ≡ on_core (set_callers n ns) (seen a)
        left_seen ns any is = callers_seen behind callers_left rows_left n c at ns is (λ m d at_m other. less_elsewhere (callers_chain bared) (λ f. f.node.index) (IsFollower bared) a.behind (callers_row bared) is_whole.chained.behind links (is_by v.node.index) v.node.index (λ x known. refl) n m c d at at_m (λ same. other (sym same)) any)

    -- ---- A caller more

    module _ (v : Follower) (is_v : IsFollower bared v) (free : is_free a.behind v.node.index ≡ true) (n c : ℕ) (at : callers_chain bared n ≡ Some c) (behind : List (Spot Follower)) (puts : behind ≡ linked c v.node.index v (entries a.behind c ++ (v.node.index, v) ∷ []) a.behind) where
      abbrev callers_more : ℕ → List Follower
      callers_more m = cond (m == n) (callers_row bared n ++ v ∷ []) (callers_row bared m)

      more_other : (m : ℕ) → (m ≡ n → ⊥) → callers_more m ≡ callers_row bared m
      more_other m other = ap (λ b. cond b (callers_row bared n ++ v ∷ []) (callers_row bared m)) (ne_eqb m n other)

      more_here : callers_more n ≡ callers_row bared n ++ v ∷ []
      more_here = ap (λ b. cond b (callers_row bared n ++ v ∷ []) (callers_row bared n)) (eq-eqb n n refl)

      rows_more : IsRows (callers_chain bared) (λ f. f.node.index) (IsFollower bared) behind callers_more
      rows_more = IsRows-pushed (callers_chain bared) (λ f. f.node.index) (IsFollower bared) a.behind (callers_row bared) is_whole.chained.behind behind callers_more n c at (λ m d at_m other. more_other m other) v is_v free more_here puts

      pub more_sound : IsSoundCore (callers_after behind)
      more_sound = callers_sound behind callers_more rows_more (Refiles-linked a.behind behind c v.node.index v _ (callers_live n c at) (follower_made v is_v) puts).made

      pub more_seen : seen (callers_after behind) ≡ on_core (set_callers n (callers_of n (seen a).core ++ v.number ∷ [])) (seen a)
      more_seen = callers_seen behind callers_more rows_more n c at (callers_of n (seen a).core ++ v.number ∷ [])
          (ap numbers_of more_here ∙ (map-append (λ (f : Follower). f.number) (callers_row bared n) (v ∷ []) ∙ ap (λ (l : List ℕ). l ++ v.number ∷ []) (sym (callers_row_of n))))
          (λ m d at_m other. more_other m other)

    -- ---- A caller more, as a primitive adds it

    module _ (id other : TableId ThreadKey) (g h : GuestThread) (is : Ok g ≡ item_at item_of a.threads id.rep id.serial) (is_other : Ok h ≡ item_at item_of a.threads other.rep other.serial) (rep : ℕ) (rep_is : rep ≡ other.rep) (apart : IsBehindNobody (thread_of (seen a) other) (seen a).core) (links : IsLinks a.behind) where
      abbrev pub added : Follower
      added = record { number = h.number; place = rep; node = h.caller }

      added_follows : IsFollower bared added
      added_follows = follower_kept a sound other h is_other rep rep_is

      pub added_free : is_free a.behind h.caller.index ≡ true
      added_free = caller_free added added_follows (subst (λ n. IsBehindNobody n (seen a).core) (sym (thread_named a other h is_other)) apart) links

      module _ (behind : List (Spot Follower)) (puts : behind ≡ linked g.callers h.caller.index added (entries a.behind g.callers ++ (h.caller.index, added) ∷ []) a.behind) where
        pub added_sound : IsSoundCore (callers_after behind)
        added_sound = more_sound added added_follows added_free (thread_of (seen a) id) g.callers (callers_chain_of id g is) behind puts

        pub added_seen : seen (callers_after behind) ≡ on_core (set_callers (thread_of (seen a) id) (callers_of (thread_of (seen a) id) (seen a).core ++ thread_of (seen a) other ∷ [])) (seen a)
        added_seen = more_seen added added_follows added_free (thread_of (seen a) id) g.callers (callers_chain_of id g is) behind puts
            ∙ ap (λ m. on_core (set_callers (thread_of (seen a) id) (callers_of (thread_of (seen a) id) (seen a).core ++ m ∷ [])) (seen a)) (thread_named a other h is_other)

    -- ---- No caller

    pub none_seen : (n c : ℕ) → callers_chain bared n ≡ Some c → (ns : List ℕ) → callers_of n (seen a).core ≡ ns → seen a ≡ on_core (set_callers n ns) (seen a)
    none_seen n c at ns is = callers_seen a.behind (callers_row bared) is_whole.chained.behind n c at ns (sym (callers_row_of n) ∙ is) (λ m d at_m other. refl)

    -- ---- The oldest and the newest caller

    module _ (n c : ℕ) (at : callers_chain bared n ≡ Some c) where
      pub oldest : (k : ℕ) (v : Follower) → Some (k, v) ≡ head_of (entries a.behind c) → IsFollower bared v × ((Some v.number ≡ first_number (callers_of n (seen a).core)) × ((list_any (is_by v.node.index) (callers_row bared n) ≡ true) × (numbers_of (less_by (is_by v.node.index) (callers_row bared n)) ≡ later_of (callers_of n (seen a).core))))
      oldest k v is =
          let here = is ∙ ap head_of (entries_are n c at) in
          let facts = first_facts (callers_row bared n) k v here in
          (first_known (IsFollower bared) (callers_row bared n) k v (row_followers n) here, (facts.0 ∙ ap first_number (sym (callers_row_of n)), (facts.1.0, facts.1.1 ∙ ap later_of (sym (callers_row_of n)))))

      pub newest_one : (links : IsLinks a.behind) (k : ℕ) (v : Follower) → Some (k, v) ≡ last_of (entries a.behind c) → IsFollower bared v × ((Some v.number ≡ newest_of (callers_of n (seen a).core)) × ((list_any (is_by v.node.index) (callers_row bared n) ≡ true) × (numbers_of (less_by (is_by v.node.index) (callers_row bared n)) ≡ older_of (callers_of n (seen a).core))))
      newest_one links k v is =
          let here = is ∙ ap last_of (entries_are n c at) in
          let facts = last_facts (callers_row bared n) k v (subst Apart (entries_are n c at) (links.once c)) here in
          (last_known (IsFollower bared) (callers_row bared n) k v (row_followers n) here, (facts.0 ∙ ap newest_of (sym (callers_row_of n)), (facts.1.0, facts.1.1 ∙ ap older_of (sym (callers_row_of n)))))

      nobody_of : callers_row bared n ≡ [] → callers_of n (seen a).core ≡ []
      nobody_of none = callers_row_of n ∙ ap numbers_of none

      pub no_oldest : None ≡ head_of (entries a.behind c) → callers_of n (seen a).core ≡ []
      no_oldest none = nobody_of (first_of_none (callers_row bared n) (none ∙ ap head_of (entries_are n c at)))

      pub no_newest : None ≡ last_of (entries a.behind c) → callers_of n (seen a).core ≡ []
      no_newest none = nobody_of (last_of_none (callers_row bared n) (none ∙ ap last_of (entries_are n c at)))

      pub some_callers : {X : Type 0} (o : Option X) (f : X → ℕ × Follower) (b : Bool) → option_map f o ≡ head_of (entries a.behind c) → b ≡ is_some o → b ≡ not (is_nil (callers_of n (seen a).core))
      some_callers o f b is first = first ∙ (sym (mapped_some o f) ∙ ap is_some is) ∙ (ap (λ l. is_some (head_of l)) (entries_are n c at) ∙ (by (callers_row bared n) ∙ sym (ap (λ l. not (is_nil l)) (callers_row_of n))))
        where
          mapped_some : {X : Type 0} (o : Option X) (f : X → ℕ × Follower) → is_some (option_map f o) ≡ is_some o
          mapped_some None f = refl
          mapped_some (Some x) f = refl

          by : (xs : List Follower) → is_some (head_of (with_nodes (λ f. f.node.index) xs)) ≡ not (is_nil (numbers_of xs))
          by [] = refl
          by (x ∷ xs) = refl

    no_zero : found_record callers_key 0 a.threads.places ≡ None
    unfolding IsSoundCore
    no_zero = none_as (λ (g : GuestThread). g.number) (λ (g : GuestThread). g.thread) (λ (g : GuestThread). g.callers) 0 a.threads.places sound.tables.threads.above_zero

    -- of who isn't there there are none
    pub gone_callers : (n : ℕ) → n ≡ 0 → callers_of n (seen a).core ≡ []
    gone_callers n zero = ap (λ m. callers_of m (seen a).core) zero ∙ (callers_row_of 0 ∙ ap (λ o. numbers_of (chained a.behind o)) (chain_is 0 ∙ no_zero))
