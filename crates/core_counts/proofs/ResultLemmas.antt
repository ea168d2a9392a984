-- The results that were given, by the numbers of their calls.
use Rattle.core_records.proofs.SoundLemmas.{sound_of_whole}
use Rattle.core_records.proofs.LaterLemmas.{beside_whole, same_made}
use Rattle.core_records.specs.Rooms.{given_in as given, wanted}
use Rattle.core_records.specs.declared.rooms.ResultRoom.{ResultRoom}
use Rattle.core_records.proofs.Core.{[], ap, ap₂, bare, bare_call, Bool, Call, call_key, call_of, cases_eq, cond, core_of, eq-eqb, eq_by_cmp_equiv, false, get, get-empty, get-insert, get-remove, give_result, given_results, Goal, goal_of, GuestTaskKey, HasRoom, inl, inr, insert, is_at, is_some, IsSome, IsSoundCore, item_at, item_of, List, lookup, loose_call, nat_cmp, nat_cmp_total, ne_eqb, None, Ok, on_core, on_item, Option, option_map, option_map_or, parts_of, Records, records, refl, remove, same_map, seen, Some, subst, sym, table_use, TableId, take_result, true, uninterested, unsigned_tied, with_given, ℕ, ◌==◌, ◌||◌, ◌∙◌, ◌∷◌, ◌≡◌, ◌⊎◌}
use Rattle.core_records.specs.declared.{call_records.GuestTask.GuestTask, parts.CoreParts.CoreParts}
use Rattle.core_records.proofs.ReadLemmas.{call_named, call_read}
use Rattle.core_records.proofs.TableLemmas.{get_mapped}

-- whether the call is there
abbrev pub lives_in : Option ResultRoom → Bool
lives_in o = option_map_or (λ r. r.lives) o false

under : (b : Bool) (r : ResultRoom) (rest : Option ResultRoom) → cond b r.given (given rest) ≡ given (cond b (Some r) rest)
under true r rest = refl
under false r rest = refl

pub get-given : (rs : List (ℕ × ResultRoom)) (q : ℕ) → get (given_results rs) q ≡ given (lookup (is_at (nat_cmp q)) rs)
get-given [] q = get-empty q
get-given (e ∷ es) q = by e.1.given (get-given es q) ∙ under (is_at (nat_cmp q) e.0) e.1 (lookup (is_at (nat_cmp q)) es)
  where
    by : (o : Option ℕ) → get (given_results es) q ≡ given (lookup (is_at (nat_cmp q)) es) → get (with_given (given_results es) e.0 o) q ≡ cond (is_at (nat_cmp q) e.0) o (given (lookup (is_at (nat_cmp q)) es))
    by None rest = get-remove (given_results es) e.0 q ∙ ap₂ (λ b x. cond b None x) (sym (unsigned_tied q e.0)) rest
    by (Some v) rest = get-insert (given_results es) e.0 v q ∙ ap₂ (λ b x. cond b (Some v) x) (sym (unsigned_tied q e.0)) rest

pub is_there : (x : ResultRoom) (o : Option ResultRoom) → Some x ≡ o → IsSome o
is_there x o is = subst IsSome is refl

-- whether it is k, by either's order
at_key : (k q : ℕ) → is_at (nat_cmp k) q ≡ (q == k)
at_key k q = (eq_by_cmp_equiv nat_cmp_total).symm k q ∙ unsigned_tied q k

-- a room that isn't wanted has no result
pub given_wanted : (r : ResultRoom) → given (wanted r) ≡ r.given
given_wanted r = by r.lives r.given
  where
    by : (b : Bool) (o : Option ℕ) → given (cond (b || is_some o) (Some (record { given = o; lives = b })) None) ≡ o
    by true o = refl
    by false None = refl
    by false (Some v) = refl

pub lives_wanted : (r : ResultRoom) → r.lives ≡ true → lives_in (wanted r) ≡ true
lives_wanted r lives = ap (λ b. lives_in (cond (b || is_some r.given) (Some r) None)) lives ∙ lives

module _ (a : CoreParts) (sound : IsSoundCore a) (m : List (ℕ × ResultRoom)) where
  pub results_sound : ((k : ℕ) (c : Call) → get (core_of (bare (parts_of a))).calls k ≡ Some c → c.goal ≡ Goal.Main → HasRoom k m) → IsSoundCore (record a { results = m })
  unfolding IsSoundCore table_use
  results_sound rooms =
      sound_of_whole a (record a { results = m }) refl sound
      (beside_whole (bare (parts_of a)) a.made (same_made a.made) a.finished (bare (parts_of a)).kept m a.capacity sound.whole
      (let k = sound.whole.counted.kept in record { used = k.used; groups = k.groups; live = k.live })
      rooms
      sound.whole.counted.finished
      sound.whole.counted.few)

  pub results_seen : (rs : Records ℕ) → ((q : ℕ) → given (lookup (is_at (nat_cmp q)) m) ≡ get rs q) → seen (record a { results = m }) ≡ on_core (λ s. record s { results = rs }) (seen a)
  unfolding seen
  results_seen rs same = ap (λ (ns : Records ℕ). record (seen a) { core = record (seen a).core { results = ns } }) (same_map (given_results m) rs (λ q. get-given m q ∙ same q))

  -- a map with the same rooms
  pub same_sound : m ≡ a.results → IsSoundCore (record a { results = m })
  unfolding IsSoundCore
  same_sound same = results_sound (λ k c at main. subst (HasRoom k) (sym same) (sound.whole.counted.results k c at main))

  module _ (k : ℕ) (w : Option ResultRoom) (writes : (q : ℕ) → lookup (is_at (nat_cmp q)) m ≡ cond (is_at (nat_cmp k) q) w (lookup (is_at (nat_cmp q)) a.results)) where
    written : (q : ℕ) → lookup (is_at (nat_cmp q)) m ≡ cond (q == k) w (lookup (is_at (nat_cmp q)) a.results)
    written q = writes q ∙ ap (λ b. cond b w (lookup (is_at (nat_cmp q)) a.results)) (at_key k q)

    pub has_written : lives_in w ≡ true → HasRoom k m
    has_written lives = ap lives_in (written k ∙ ap (λ b. cond b w (lookup (is_at (nat_cmp k)) a.results)) (eq-eqb k k refl)) ∙ lives

    -- a call that is there has room still
    room_left : ((c : Call) → get (core_of (bare (parts_of a))).calls k ≡ Some c → c.goal ≡ Goal.Main → lives_in w ≡ true) → IsSoundCore (record a { results = m })
    unfolding IsSoundCore
    room_left lives = results_sound (λ q c at main. by q c at main (cases_eq q k))
      where
        by : (q : ℕ) (c : Call) → get (core_of (bare (parts_of a))).calls q ≡ Some c → c.goal ≡ Goal.Main → (q ≡ k) ⊎ (q ≡ k → ⊥) → HasRoom q m
        by q c at main (inl here) =
            ap lives_in (written q ∙ ap (λ b. cond b w (lookup (is_at (nat_cmp q)) a.results)) (eq-eqb q k here))
            ∙ lives c (ap (get (core_of (bare (parts_of a))).calls) (sym here) ∙ at) main
        by q c at main (inr other) =
            ap lives_in (written q ∙ ap (λ b. cond b w (lookup (is_at (nat_cmp q)) a.results)) (ne_eqb q k other))
            ∙ sound.whole.counted.results q c at main

    pub written_sound : (HasRoom k a.results → lives_in w ≡ true) → IsSoundCore (record a { results = m })
    unfolding IsSoundCore
    written_sound keeps = room_left (λ c at main. keeps (sound.whole.counted.results k c at main))

    pub closed_sound : get (seen a).core.calls k ≡ None → IsSoundCore (record a { results = m })
    unfolding seen
    closed_sound gone = room_left (λ c at main. absurd (let none : ◌≡◌ {A = Option Call} None (Some c) = sym (get_mapped call_key call_key (on_item bare_call) (λ c. uninterested (loose_call c)) (λ e. refl) a.calls k ∙ ap (option_map (λ (c : Call). uninterested (loose_call c))) gone) ∙ at in cc))

    written_at : (q : ℕ) → given (lookup (is_at (nat_cmp q)) m) ≡ cond (q == k) (given w) (get (given_results a.results) q)
    written_at q = ap given (written q) ∙ (by_test (q == k) (lookup (is_at (nat_cmp q)) a.results) ∙ ap (cond (q == k) (given w)) (sym (get-given a.results q)))
      where
        by_test : (b : Bool) (x : Option ResultRoom) → given (cond b w x) ≡ cond b (given w) (given x)
        by_test true x = refl
        by_test false x = refl

    pub result_given : (v : ℕ) → given w ≡ Some v → seen (record a { results = m }) ≡ on_core (give_result k v) (seen a)
    unfolding give_result seen
    result_given v is = results_seen (insert (seen a).core.results k v) (λ q. written_at q ∙ (ap (λ p. cond (q == k) p (get (seen a).core.results q)) is ∙ sym (get-insert (seen a).core.results k v q)))

    pub result_taken : given w ≡ None → seen (record a { results = m }) ≡ on_core (take_result k) (seen a)
    unfolding take_result seen
    result_taken is = results_seen (remove (seen a).core.results k) (λ q. written_at q ∙ (ap (λ p. cond (q == k) p (get (seen a).core.results q)) is ∙ sym (get-remove (seen a).core.results k q)))

    -- a room with the result that was there isn't seen
    pub room_unseen : given w ≡ given (lookup (is_at (nat_cmp k)) a.results) → seen (record a { results = m }) ≡ seen a
    unfolding seen
    room_unseen is = results_seen (seen a).core.results (λ q. written_at q ∙ by q (cases_eq q k))
      where
        by : (q : ℕ) → (q ≡ k) ⊎ (q ≡ k → ⊥) → cond (q == k) (given w) (get (given_results a.results) q) ≡ get (given_results a.results) q
        by q (inl here) = ap (λ b. cond b (given w) (get (given_results a.results) q)) (eq-eqb q k here) ∙ (is ∙ sym (get-given a.results q ∙ ap (λ n. given (lookup (is_at (nat_cmp n)) a.results)) here))
        by q (inr other) = ap (λ b. cond b (given w) (get (given_results a.results) q)) (ne_eqb q k other)

  -- who had no room had no result
  pub nothing_taken : (k : ℕ) → m ≡ a.results → lookup (is_at (nat_cmp k)) a.results ≡ None → seen (record a { results = m }) ≡ on_core (take_result k) (seen a)
  unfolding take_result seen
  nothing_taken k same none = results_seen (remove (seen a).core.results k) (λ q. ap (λ (n : List (ℕ × ResultRoom)). given (lookup (is_at (nat_cmp q)) n)) same ∙ (by q (cases_eq q k) ∙ sym (get-remove (seen a).core.results k q)))
    where
      by : (q : ℕ) → (q ≡ k) ⊎ (q ≡ k → ⊥) → given (lookup (is_at (nat_cmp q)) a.results) ≡ cond (q == k) None (get (given_results a.results) q)
      by q (inl here) = ap given (ap (λ n. lookup (is_at (nat_cmp n)) a.results) here ∙ none) ∙ sym (ap (λ b. cond b None (get (given_results a.results) q)) (eq-eqb q k here))
      by q (inr other) = sym (get-given a.results q) ∙ sym (ap (λ b. cond b None (get (given_results a.results) q)) (ne_eqb q k other))

-- a call by main has room for its result
module _ (a : CoreParts) (sound : IsSoundCore a) (id : TableId GuestTaskKey) (g : GuestTask) (is : Ok g ≡ item_at item_of a.calls id.rep id.serial) (main : goal_of (call_of (seen a) id) (seen a).core ≡ Goal.Main) where
  room_there : HasRoom g.number a.results
  unfolding IsSoundCore seen
  room_there =
      sound.whole.counted.results g.number (uninterested (loose_call g.call))
      (get_mapped call_key call_key (on_item bare_call) (λ c. uninterested (loose_call c)) (λ e. refl) a.calls g.number
      ∙ ap (option_map (λ (c : Call). uninterested (loose_call c))) (ap (get (records call_key a.calls.places)) (call_named a id g is) ∙ sym (call_read a sound id g is)))
      (ap (λ o. option_map_or (λ (c : Call). c.goal) o Goal.Nowhere) (call_read a sound id g is) ∙ main)

  pub no_room : None ≡ lookup (is_at (nat_cmp g.number)) a.results → ⊥
  no_room none = absurd (let no : ◌≡◌ {A = Bool} false true = ap lives_in none ∙ room_there in cc)
