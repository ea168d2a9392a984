-- The chain of an instance's held threads has just these.
use Rattle.machine_data.specs.declared.scenario.Version.{Version}
use Rattle.core_records.proofs.Core.{[], admitted_held, admitted_permute, ap, ap₂, bare, bare_thread, Bool, call_instance, cond, Core, eq-eqb, eqb-true, false, Filing, filter, found_permute, found_record_at, get, get-records, has, HasHome, head_of, held_why, HeldIn, if◌then◌else◌, instance_of, is_held_in, is_nil, is_some, IsLinks, IsMembers, IsMembers-nothing, IsMembers-walked, IsPermutation, IsSome, IsSoundCore, key_in, List, list_any, map, Node, None, not, number_in, on_item, Once, Option, option_and_then, option_map, option_map_or, parts_of, passes_in, Place, place_at, place_chain, place_filing, Placed, record_found, records, refl, same_Some, seen, slice_get, slice_get-map, Some, StartsIn, subst, sym, Tests, Thread, thread_key, true, Where, where_at, Why, ℕ, ◌&&◌, ◌++◌, ◌==◌, ◌||◌, ◌∙◌, ◌∷◌, ◌≡◌}
use Rattle.std.proofs.Math.Bool.{or_assoc}
use Rattle.std.proofs.lemmas.Bool.{and_parts, or_right}
use Rattle.machine_data.specs.Read.{kind_of}
use Rattle.machine_rules.specs.Places.{is_for_start}
use Rattle.std.proofs.lemmas.List.Sorted.{list_any-IsPermutation}
use Rattle.core_records.specs.declared.{instance_records.InstanceRecord.InstanceRecord, parts.CoreParts.CoreParts, single.Single.Single, thread_records.GuestThread.GuestThread}
use Rattle.core_primitives.specs.Held.{held_in}
use Rattle.core_records.proofs.HomeLemmas.{bare_instance, bare_kind}
use Rattle.core_records.specs.Sound.{bare_instance as bare_record}
use Rattle.core_places.proofs.FiledLemmas.{places_filed}
use Rattle.core_queues.proofs.BareLemmas.{place_mapped}
use Rattle.core_queues.proofs.CallerLemmas.{apart_as, none_as}
use Rattle.core_removals.specs.Held.{agrees, held_where, in_list, is_admitted, listed_at, listed_in}
use Rattle.core_removals.specs.Walks.{at_order_key, of_chain}
use Rattle.table_lists.specs.declared.ordered_lists.OrderKey.{OrderKey}
use Rattle.core_records.specs.RecordPlaces.{thread_order_key}
use Rattle.core_primitives.specs.Barred.{bars_start}

-- a thread with its instance, and whether its start is barred
abbrev pub held_key : Single GuestThread → Option (ℕ × (Thread × (ℕ × Bool)))
held_key g = Some (g.item.number, (g.item.thread, (g.item.instance, g.item.barred)))

abbrev holds_in : Bool → ℕ → ℕ × (Thread × (ℕ × Bool)) → Bool
holds_in starts i e = (e.1.1.0 == i) && in_list starts e.1.1.1 (held_why e.1.0.place)

held_filed : (starts : Bool) (i j : ℕ) (b : Bool) (p : Place) → (j == i) ≡ true → in_list starts b (held_why p) ≡ true → where_at j b p ≡ Some (held_where starts i)
held_filed starts i j b (Place.Held w) same is = by starts (b && is_for_start w) is
  where
    by : (s c : Bool) → agrees s c ≡ true → Some (if c then StartsIn j else HeldIn j) ≡ Some (held_where s i)
    by true true is = ap (λ k. Some (StartsIn k)) (eqb-true j i same)
    by true false is = absurd (cc)
    by false true is = absurd (cc)
    by false false is = ap (λ k. Some (HeldIn k)) (eqb-true j i same)
held_filed starts i j b (Place.Waiting x c) same is = absurd (cc)
held_filed starts i j b (Place.Ready m w) same is = absurd (cc)
held_filed starts i j b Place.New same is = absurd (cc)
held_filed starts i j b Place.Running same is = absurd (cc)
held_filed starts i j b (Place.Behind m) same is = absurd (cc)
held_filed starts i j b (Place.Under m) same is = absurd (cc)
held_filed starts i j b (Place.Blocked sub) same is = absurd (cc)
held_filed starts i j b Place.Suspended same is = absurd (cc)

held_passes : (starts : Bool) (i j : ℕ) (b : Bool) (p : Place) → where_at j b p ≡ Some (held_where starts i) → ((j == i) && in_list starts b (held_why p)) ≡ true
held_passes starts i j b (Place.Held w) is = by starts (b && is_for_start w) is
  where
    start_of : Some (StartsIn j) ≡ Some (StartsIn i) → j ≡ i
    start_of e = cc

    other_of : Some (HeldIn j) ≡ Some (HeldIn i) → j ≡ i
    other_of e = cc

    by : (s c : Bool) → Some (if c then StartsIn j else HeldIn j) ≡ Some (held_where s i) → ((j == i) && agrees s c) ≡ true
    by true true is = ap (λ b. b && true) (eq-eqb j i (start_of is))
    by true false is = absurd (cc)
    by false true is = absurd (cc)
    by false false is = ap (λ b. b && true) (eq-eqb j i (other_of is))
held_passes true i j b (Place.Waiting x c) is = absurd (cc)
held_passes false i j b (Place.Waiting x c) is = absurd (cc)
held_passes starts i j b (Place.Ready m w) is = absurd (cc)
held_passes starts i j b Place.New is = absurd (cc)
held_passes starts i j b Place.Running is = absurd (cc)
held_passes starts i j b (Place.Behind m) is = absurd (cc)
held_passes true i j b (Place.Under m) is = absurd (cc)
held_passes false i j b (Place.Under m) is = absurd (cc)
held_passes true i j b (Place.Blocked sub) is = absurd (cc)
held_passes false i j b (Place.Blocked sub) is = absurd (cc)
held_passes starts i j b Place.Suspended is = absurd (cc)

held_tests : (v : Version) (starts : Bool) (i : ℕ) → Tests (place_filing v) held_key (held_where starts i) (holds_in starts i)
held_tests v starts i = record {
  passes = λ rep serial e f says is_k. ((e.item.number, (e.item.thread, (e.item.instance, e.item.barred))), (refl, held_passes starts i e.item.instance e.item.barred e.item.thread.place (ap (λ (g : Filing Where OrderKey). g.key) (same_Some (record { node = e.item.node.index; key = where_at e.item.instance e.item.barred e.item.thread.place; value = thread_order_key v rep e.item }) f says) ∙ is_k)));
  filed = λ rep serial e x says is.
      let one = and_parts _ _ (ap (holds_in starts i) (same_Some (e.item.number, (e.item.thread, (e.item.instance, e.item.barred))) x says) ∙ is) in
      (record { node = e.item.node.index; key = where_at e.item.instance e.item.barred e.item.thread.place; value = thread_order_key v rep e.item }, (refl, held_filed starts i e.item.instance e.item.barred e.item.thread.place one.0 one.1));
}

none_in : (b : Bool) → (b && false) ≡ false
none_in true = refl
none_in false = refl

-- the chains of an instance that is there
pub starts_chain : (a : CoreParts) (i : ℕ) (r : InstanceRecord) → Some r ≡ slice_get a.instances.items i → place_chain (bare (parts_of a)) (StartsIn i) ≡ Some r.starts
starts_chain a i r is = ap (option_map (λ (x : InstanceRecord). x.starts)) (slice_get-map bare_record a.instances.items i ∙ ap (option_map bare_record) (sym is))

pub held_chain : (a : CoreParts) (i : ℕ) (r : InstanceRecord) → Some r ≡ slice_get a.instances.items i → place_chain (bare (parts_of a)) (HeldIn i) ≡ Some r.held
held_chain a i r is = ap (option_map (λ (x : InstanceRecord). x.held)) (slice_get-map bare_record a.instances.items i ∙ ap (option_map bare_record) (sym is))

-- a list of just those that pass loses none by the test
all_pass : (test : ℕ → Bool) (ns : List ℕ) → ((n : ℕ) → has n ns ≡ test n) → list_any (λ n. true) (filter test ns) ≡ not (is_nil ns)
all_pass test [] are = refl
all_pass test (n ∷ ns) are =
    ap (λ b. list_any (λ k. true) (cond b (n ∷ filter test ns) (filter test ns))) (sym (are n) ∙ ap (λ b. b || has n ns) (eq-eqb n n refl))

held_permute : (i : ℕ) (s : Core) (list : List ℕ) → IsMembers (is_held_in i s) list → IsPermutation (held_in i s) (filter (is_held_in i s) list)
held_permute i s list members = found_permute s.threads (is_held_in i s) (is_held_in i s) list members (λ n. found n (get s.threads n))
  where
    none : (b : Bool) → false ≡ ((b && false) && (b && false))
    none true = refl
    none false = refl

    twice : (b : Bool) → b ≡ (b && b)
    twice true = refl
    twice false = refl

    found : (n : ℕ) (o : Option Thread) → (is_some o && ((instance_of n s == i) && is_some (option_and_then held_why (option_map (λ t. t.place) o)))) ≡ (((instance_of n s == i) && is_some (option_and_then held_why (option_map (λ t. t.place) o))) && ((instance_of n s == i) && is_some (option_and_then held_why (option_map (λ t. t.place) o))))
    found n None = none (instance_of n s == i)
    found n (Some t) = twice ((instance_of n s == i) && is_some (held_why t.place))

-- what is first tells whether there is any
pub first_is_any : {X : Type 0} (f : ℕ × X → ℕ) (es : List (ℕ × X)) (r : Option (Node × X)) → option_map (λ e. (e.0.index, e.1)) r ≡ head_of es → is_some r ≡ not (is_nil (map f es))
first_is_any f [] None is = refl
first_is_any f [] (Some e) is = absurd (cc)
first_is_any f (e ∷ es) None is = absurd (cc)
first_is_any f (e ∷ es) (Some d) is = refl

-- ---- Two chains

pub either_nil : (xs ys : List ℕ) → (not (is_nil xs) || not (is_nil ys)) ≡ not (is_nil (xs ++ ys))
either_nil [] ys = refl
either_nil (x ∷ xs) ys = refl

pub has_append : (n : ℕ) (xs ys : List ℕ) → has n (xs ++ ys) ≡ (has n xs || has n ys)
has_append n [] ys = refl
has_append n (x ∷ xs) ys = ap (λ b. (n == x) || b) (has_append n xs ys) ∙ sym (or_assoc (n == x) (has n xs) (has n ys))

once_append : (xs ys : List ℕ) → Once xs → Once ys → ((n : ℕ) → has n xs ≡ true → has n ys ≡ false) → Once (xs ++ ys)
once_append [] ys a b apart = b
once_append (x ∷ xs) ys a b apart = (
  has_append x xs ys ∙ (ap (λ c. c || has x ys) a.0 ∙ apart x (ap (λ c. c || has x xs) (eq-eqb x x refl))),
  once_append xs ys a.1 b (λ n h. apart n (or_right (n == x) (has n xs) h)),
)

pub listed_apart : (i n : ℕ) (s : Core) → listed_in false i s n ≡ true → listed_in true i s n ≡ false
listed_apart i n s h = by (instance_of n s == i) (get s.threads n) h
  where
    one : (b : Bool) (w : Option Why) → in_list false b w ≡ true → in_list true b w ≡ false
    one b None h = refl
    one b (Some w) h = other (b && is_for_start w) h
      where
        other : (c : Bool) → not c ≡ true → c ≡ false
        other true h = absurd (cc)
        other false h = refl

    by : (c : Bool) (o : Option Thread) → (c && listed_at false s o) ≡ true → (c && listed_at true s o) ≡ false
    by false o h = refl
    by true None h = refl
    by true (Some t) h = one (bars_start t.explicit (kind_of t.call s)) (held_why t.place) h

listed_either : (i n : ℕ) (s : Core) → (listed_in false i s n || listed_in true i s n) ≡ is_held_in i s n
listed_either i n s = by (instance_of n s == i) (get s.threads n)
  where
    one : (b : Bool) (w : Option Why) → (in_list false b w || in_list true b w) ≡ is_some w
    one b None = refl
    one b (Some w) = other (b && is_for_start w)
      where
        other : (c : Bool) → (not c || c) ≡ true
        other true = refl
        other false = refl

    by : (c : Bool) (o : Option Thread) → ((c && listed_at false s o) || (c && listed_at true s o)) ≡ (c && is_some (option_and_then held_why (option_map (λ (t : Thread). t.place) o)))
    by false o = refl
    by true None = refl
    by true (Some t) = one (bars_start t.explicit (kind_of t.call s)) (held_why t.place)

pub two_members : (i : ℕ) (s : Core) (xs ys : List ℕ) → IsMembers (listed_in false i s) xs → IsMembers (listed_in true i s) ys → IsMembers (is_held_in i s) (xs ++ ys)
two_members i s xs ys a b = record {
  once = once_append xs ys a.once b.once (λ n h. b.are n ∙ listed_apart i n s (sym (a.are n) ∙ h));
  are = λ n. has_append n xs ys ∙ (ap₂ (λ c d. c || d) (a.are n) (b.are n) ∙ listed_either i n s);
}

module _ (a : CoreParts) (sound : IsSoundCore a) where
  home_at : (r : ℕ) (q : Placed (Single GuestThread)) → place_at a.threads r ≡ Some q → HasHome (bare (parts_of a)) (bare_thread q.entry.item)
  unfolding IsSoundCore
  home_at r q at = sound.whole.named.threads r _ (place_mapped (on_item bare_thread) a.threads r q at)

  module _ (starts : Bool) (i n : ℕ) where
    -- a thread that is at a place is listed as its entry says
    held_at : (r : ℕ) (t : Thread) (j : ℕ) (c : Bool) (o : Option (Placed (Single GuestThread))) → place_at a.threads r ≡ o → key_in held_key o ≡ Some (n, (t, (j, c))) → listed_in starts i (seen a).core n ≡ holds_in starts i (n, (t, (j, c)))
    unfolding seen IsSoundCore
    held_at r t j c None at is = absurd (cc)
    held_at r t j c (Some q) at is =
        let g = q.entry.item in
        let entry = same_Some (g.number, (g.thread, (g.instance, g.barred))) (n, (t, (j, c))) is in
        let found : get (records thread_key a.threads.places) n ≡ Some t = get-records thread_key a.threads.places n
        ∙ found_record_at thread_key a.threads.places r n t sound.tables.threads.apart (ap (key_in thread_key) at ∙ ap (λ (x : ℕ × (Thread × (ℕ × Bool))). Some (x.0, x.1.0)) entry) in
        let where_in : call_instance t.call (seen a).core ≡ j = ap (λ (x : ℕ × (Thread × (ℕ × Bool))). call_instance x.1.0.call (seen a).core) (sym entry) ∙ (sym (bare_instance a g.thread.call) ∙ ((home_at r q at).instance ∙ ap (λ (x : ℕ × (Thread × (ℕ × Bool))). x.1.1.0) entry)) in
        let barred_in : bars_start t.explicit (kind_of t.call (seen a).core) ≡ c = ap (λ (x : ℕ × (Thread × (ℕ × Bool))). bars_start x.1.0.explicit (kind_of x.1.0.call (seen a).core)) (sym entry) ∙ (sym (ap (bars_start g.thread.explicit) (bare_kind a g.thread.call)) ∙ ((home_at r q at).barred ∙ ap (λ (x : ℕ × (Thread × (ℕ × Bool))). x.1.1.1) entry)) in
        ap (λ o. (call_instance (option_map_or (λ (t : Thread). t.call) o 0) (seen a).core == i) && listed_at starts (seen a).core o) found
        ∙ (ap (λ k. (k == i) && in_list starts (bars_start t.explicit (kind_of t.call (seen a).core)) (held_why t.place)) where_in
        ∙ ap (λ b. (j == i) && in_list starts b (held_why t.place)) barred_in)

    held_is : (o : Option (Thread × (ℕ × Bool))) → get (records held_key a.threads.places) n ≡ o → passes_in (holds_in starts i) n o ≡ listed_in starts i (seen a).core n
    unfolding seen
    held_is None is =
        let none : get (records thread_key a.threads.places) n ≡ None = get-records thread_key a.threads.places n
        ∙ none_as (λ (g : GuestThread). g.number) (λ (g : GuestThread). (g.thread, (g.instance, g.barred))) (λ (g : GuestThread). g.thread) n a.threads.places (sym (get-records held_key a.threads.places n) ∙ is) in
        sym (ap (λ o. (call_instance (option_map_or (λ (t : Thread). t.call) o 0) (seen a).core == i) && listed_at starts (seen a).core o) none ∙ none_in _)
    held_is (Some (t, (j, c))) is = let one = record_found held_key a.threads.places n (t, (j, c)) (sym (get-records held_key a.threads.places n) ∙ is) in sym (held_at one.0 t j c (place_at a.threads one.0) refl one.1)

  reads : (r : ℕ) (p : Placed (Single GuestThread)) (f : Filing Where OrderKey) (x : ℕ × (Thread × (ℕ × Bool))) → place_at a.threads r ≡ Some p → (place_filing a.version) r p.serial p.entry ≡ Some f → held_key p.entry ≡ Some x → at_order_key a f.value ≡ x.0
  reads r p f x at says key =
      ap (λ (g : Filing Where OrderKey). at_order_key a g.value) (sym (same_Some (record { node = p.entry.item.node.index; key = where_at p.entry.item.instance p.entry.item.barred p.entry.item.thread.place; value = thread_order_key a.version r p.entry.item }) f says))
      ∙ (ap (λ o. number_in (key_in thread_key o)) at ∙ ap number_in key)

  -- each of the two chains has just those that are listed there
  pub listed_members : IsLinks a.places → (starts : Bool) (i c : ℕ) → place_chain (bare (parts_of a)) (held_where starts i) ≡ Some c → IsMembers (listed_in starts i (seen a).core) (of_chain a c)
  unfolding IsSoundCore
  listed_members links starts i c chain =
      let walked = IsMembers-walked (place_filing a.version) (place_chain (bare (parts_of a))) a.threads a.places (places_filed a sound) (held_where starts i) c chain held_key (holds_in starts i) (held_tests a.version starts i) links (apart_as (λ (g : GuestThread). g.number) (λ (g : GuestThread). g.thread) (λ (g : GuestThread). (g.thread, (g.instance, g.barred))) a.threads.places sound.tables.threads.apart) (at_order_key a) reads in
      record { once = walked.once; are = λ n. walked.are n ∙ held_is starts i n (get (records held_key a.threads.places) n) refl }

  -- both together have just those that are held
  pub held_members : IsLinks a.places → (i c d : ℕ) → place_chain (bare (parts_of a)) (HeldIn i) ≡ Some c → place_chain (bare (parts_of a)) (StartsIn i) ≡ Some d → IsMembers (is_held_in i (seen a).core) (of_chain a c ++ of_chain a d)
  held_members links i c d chain starts = two_members i (seen a).core (of_chain a c) (of_chain a d) (listed_members links false i c chain) (listed_members links true i d starts)

  -- ---- Whether some are admitted

  some_left : (test : ℕ → Bool) (ns : List ℕ) → list_any test ns ≡ list_any (λ n. true) (filter test ns)
  some_left test [] = refl
  some_left test (n ∷ ns) = by (test n) (some_left test ns)
    where
      by : (b : Bool) → list_any test ns ≡ list_any (λ n. true) (filter test ns) → (b || list_any test ns) ≡ list_any (λ n. true) (cond b (n ∷ filter test ns) (filter test ns))
      by true rest = refl
      by false rest = rest

  not_nil : (ns : List ℕ) → list_any (λ n. true) ns ≡ not (is_nil ns)
  not_nil [] = refl
  not_nil (n ∷ ns) = refl

  pub some_held : (i : ℕ) (list : List ℕ) → IsMembers (is_held_in i (seen a).core) list → list_any (is_admitted i (seen a).core) list ≡ not (is_nil (admitted_held i (seen a).core))
  some_held i list members =
      some_left (is_admitted i (seen a).core) list
      ∙ (sym (list_any-IsPermutation (λ n. true) (admitted_held i (seen a).core) (filter (is_admitted i (seen a).core) list) (admitted_permute i (seen a).core list members))
      ∙ not_nil (admitted_held i (seen a).core))

  -- ---- Whether some are held

  pub any_held : (i : ℕ) (list : List ℕ) → IsMembers (is_held_in i (seen a).core) list → not (is_nil list) ≡ not (is_nil (held_in i (seen a).core))
  any_held i list members =
      sym (all_pass (is_held_in i (seen a).core) list members.are)
      ∙ (sym (list_any-IsPermutation (λ n. true) (held_in i (seen a).core) (filter (is_held_in i (seen a).core) list) (held_permute i (seen a).core list members))
      ∙ not_nil (held_in i (seen a).core))

  -- in an instance that isn't there nobody is held
  pub nobody_held : (i : ℕ) → None ≡ slice_get a.instances.items i → IsMembers (is_held_in i (seen a).core) []
  nobody_held i none = IsMembers-nothing (is_held_in i (seen a).core) (λ n. sym (listed_either i n (seen a).core) ∙ ap₂ (λ c d. c || d) (nowhere false n) (nowhere true n))
    where
      past : (xs : List InstanceRecord) (k : ℕ) → slice_get xs k ≡ None → IsSome (slice_get (map bare_record xs) k) → ⊥
      past [] k is some = absurd (cc)
      past (x ∷ xs) ℕ.zero is some = absurd (cc)
      past (x ∷ xs) (ℕ.suc k) is some = past xs k is some

      off : (starts : Bool) (n r : ℕ) (t : Thread) (j : ℕ) (c : Bool) (o : Option (Placed (Single GuestThread))) → place_at a.threads r ≡ o → key_in held_key o ≡ Some (n, (t, (j, c))) → (b : Bool) → (j == i) ≡ b → (b && in_list starts c (held_why t.place)) ≡ false
      off starts n r t j c None at is b same = absurd (cc)
      off starts n r t j c (Some q) at is false same = refl
      off starts n r t j c (Some q) at is true same =
          let entry = same_Some (q.entry.item.number, (q.entry.item.thread, (q.entry.item.instance, q.entry.item.barred))) (n, (t, (j, c))) is in
          absurd (past a.instances.items i (sym none) (subst (λ k. IsSome (slice_get (map bare_record a.instances.items) k)) (ap (λ (x : ℕ × (Thread × (ℕ × Bool))). x.1.1.0) entry ∙ eqb-true j i same) (home_at r q at).within))

      by : (starts : Bool) (n : ℕ) (o : Option (Thread × (ℕ × Bool))) → get (records held_key a.threads.places) n ≡ o → passes_in (holds_in starts i) n o ≡ false
      by starts n None is = refl
      by starts n (Some (t, (j, c))) is = let one = record_found held_key a.threads.places n (t, (j, c)) (sym (get-records held_key a.threads.places n) ∙ is) in off starts n one.0 t j c (place_at a.threads one.0) refl one.1 (j == i) refl

      nowhere : (starts : Bool) (n : ℕ) → listed_in starts i (seen a).core n ≡ false
      nowhere starts n = sym (held_is starts i n (get (records held_key a.threads.places) n) refl) ∙ by starts n (get (records held_key a.threads.places) n) refl
