-- The finite map that the entries of an ordered map represent.
use Rattle.std.proofs.Common.{◌≡◌, ℕ, zero, suc, ◌<◌, List, [], ◌∷◌, length, refl, sym, ap, subst, ◌∙◌, arith, Bool, true, false, cond}
use Rattle.std.specs.Prelude.{Option, Some, None, IsSome, IfNone, unwrap_or}
use Rattle.std.specs.List.{AllByRecursion}
use Rattle.std.specs.List.Sorted.{IsStrictlySortedBy}
use Rattle.std.specs.Ordering.{nat_cmp, eq_by_cmp, is_eq}
use Rattle.std.specs.declared.cmp.Ordering.TheVariants.{Less}
use Rattle.std.specs.Cmp.{nat_cmp_total, eq_by_cmp_equiv}
use Rattle.std.specs.BTreeMap.{is_at}
use Rattle.std.specs.Map.{keys_of, lookup}
use Rattle.std.specs.FinMap as finite
use Rattle.std.specs.FinMap.Entries.{find, put, by_order}
use Rattle.task_group.specs.Counts.{Counts, count_in, live_in, IsSound}

none_is_some : {c : ℕ} → None ≡ Some c → ⊥
none_is_some e = cc

find_lookup : (es : List (ℕ × ℕ)) (q : ℕ) → find nat_cmp q es ≡ lookup (is_at (nat_cmp q)) es
find_lookup [] q = refl
find_lookup (e ∷ es) q = ap (λ r. cond (is_eq (nat_cmp q e.0)) (Some e.1) r) (find_lookup es q)

pub get-live_in : (es : List (ℕ × ℕ)) (q : ℕ) → finite.get (live_in es) q ≡ lookup (is_at (nat_cmp q)) es
unfolding live_in
get-live_in es q = finite.get-from_entries nat_cmp_total es q ∙ find_lookup es q

-- the entries es' have w at k, and else what es has
abbrev pub UpdatesEntries : List (ℕ × ℕ) → List (ℕ × ℕ) → ℕ → Option ℕ → Type 0
UpdatesEntries es es' k w = (q : ℕ) → lookup (is_at (nat_cmp q)) es' ≡ cond (is_at (nat_cmp k) q) w (lookup (is_at (nat_cmp q)) es)

updated : (es es' : List (ℕ × ℕ)) (k : ℕ) (w : Option ℕ) → UpdatesEntries es es' k w → (q : ℕ) → finite.get (live_in es') q ≡ cond (eq_by_cmp nat_cmp q k) w (finite.get (live_in es) q)
updated es es' k w h q =
    get-live_in es' q ∙ h q
    ∙ ap (λ b. cond b w (lookup (is_at (nat_cmp q)) es)) ((eq_by_cmp_equiv nat_cmp_total).symm k q)
    ∙ ap (λ o. cond (eq_by_cmp nat_cmp q k) w o) (sym (get-live_in es q))

pub live_in-insert : (es es' : List (ℕ × ℕ)) (k v : ℕ) → UpdatesEntries es es' k (Some v) → live_in es' ≡ finite.insert (live_in es) k v
live_in-insert es es' k v h = finite.same_map nat_cmp_total finite.nat_cmp-IsAntisymmetric _ _ (λ q. updated es es' k (Some v) h q ∙ sym (finite.get-insert nat_cmp_total (live_in es) k v q))

pub live_in-remove : (es es' : List (ℕ × ℕ)) (k : ℕ) → UpdatesEntries es es' k None → live_in es' ≡ finite.remove (live_in es) k
live_in-remove es es' k h = finite.same_map nat_cmp_total finite.nat_cmp-IsAntisymmetric _ _ (λ q. updated es es' k None h q ∙ sym (finite.get-remove nat_cmp_total (live_in es) k q))

positive_at : (b : Bool) (w o : Option ℕ) (count : ℕ) → cond b w o ≡ Some count → (w ≡ Some count → 0 < count) → (o ≡ Some count → 0 < count) → 0 < count
positive_at true w o count is first other = first is
positive_at false w o count is first other = other is

pub sound-insert : (es es' : List (ℕ × ℕ)) (ks ks' : List ℕ) (k v : ℕ) → IsSound es ks → 0 < v → UpdatesEntries es es' k (Some v) → IsStrictlySortedBy nat_cmp ks' → IsSound es' ks'
sound-insert es es' ks ks' k v sound positive h ordered = record {
  ordered = ordered;
  positive = λ n c is. positive_at (eq_by_cmp nat_cmp n k) (Some v) (finite.get (live_in es) n) c (sym (updated es es' k (Some v) h n) ∙ is) (λ e. let same : v ≡ c = cc in subst (λ m. 0 < m) same positive) (λ e. sound.positive n c e);
}

pub sound-remove : (es es' : List (ℕ × ℕ)) (ks ks' : List ℕ) (k : ℕ) → IsSound es ks → UpdatesEntries es es' k None → IsStrictlySortedBy nat_cmp ks' → IsSound es' ks'
sound-remove es es' ks ks' k sound h ordered = record {
  ordered = ordered;
  positive = λ n c is. positive_at (eq_by_cmp nat_cmp n k) None (finite.get (live_in es) n) c (sym (updated es es' k None h n) ∙ is) (λ e. absurd (none_is_some e)) (λ e. sound.positive n c e);
}

nil_of_length : {X : Type 0} (xs : List X) → length xs ≡ 0 → xs ≡ []
nil_of_length [] e = refl
nil_of_length (x ∷ xs) e = absurd (omega arith)

entries-empty : finite.entries (finite.empty {X = ℕ} {R = nat_cmp}) ≡ []
entries-empty = nil_of_length _ (sym (finite.len-entries finite.empty) ∙ finite.len-empty nat_cmp ℕ)

pub keys-empty : finite.keys (finite.empty {X = ℕ} {R = nat_cmp}) ≡ []
keys-empty = ap keys_of entries-empty

put_least : (k v : ℕ) (es : List (ℕ × ℕ)) → AllByRecursion (λ y. nat_cmp k y ≡ Less) (keys_of es) → put nat_cmp k v es ≡ (k, v) ∷ es
put_least k v [] h = refl
put_least k v (e ∷ es) h = ap (λ r. by_order r ((k, v) ∷ e ∷ es) ((e.0, v) ∷ es) (e ∷ put nat_cmp k v es)) h.0

entries-live_in : (es : List (ℕ × ℕ)) → IsStrictlySortedBy nat_cmp (keys_of es) → finite.entries (live_in es) ≡ es
unfolding live_in IsStrictlySortedBy
entries-live_in [] h = entries-empty
entries-live_in (e ∷ es) h = finite.entries-insert nat_cmp_total (live_in es) e.0 e.1 ∙ ap (put nat_cmp e.0 e.1) (entries-live_in es h.1) ∙ put_least e.0 e.1 es h.0

-- the numbers of the live groups, in order
pub keys-live_in : (es : List (ℕ × ℕ)) → IsStrictlySortedBy nat_cmp (keys_of es) → finite.keys (live_in es) ≡ keys_of es
keys-live_in es h = ap keys_of (entries-live_in es h)

-- a live group has a task, so a count of 0 is that of a finished one
pub zero_finished : (o : Option ℕ) → ((c : ℕ) → o ≡ Some c → 0 < c) → (unwrap_or o 0 ≡ 0 → o ≡ None) × (o ≡ None → unwrap_or o 0 ≡ 0)
zero_finished None h = (λ _. refl, λ _. refl)
zero_finished (Some c) h = (λ e. let some = h c refl in absurd (omega arith), λ e. absurd (none_is_some (sym e)))

pub live_in-empty : (es : List (ℕ × ℕ)) → es ≡ [] → live_in es ≡ finite.empty
unfolding live_in
live_in-empty es none = rw none refl

pub sound-empty : (es : List (ℕ × ℕ)) (ks : List ℕ) → es ≡ [] → IsStrictlySortedBy nat_cmp ks → IsSound es ks
sound-empty es ks none ordered = record {
  ordered = ordered;
  positive = λ n c is. absurd (none_is_some (sym (finite.get-empty nat_cmp n) ∙ ap (λ m. finite.get m n) (sym (live_in-empty es none)) ∙ is));
}

module _ (es : List (ℕ × ℕ)) (k : ℕ) (t : Counts) where
  at_view : live_in es ≡ t → finite.get t k ≡ lookup (is_at (nat_cmp k)) es
  at_view is = ap (λ m. finite.get m k) (sym is) ∙ get-live_in es k

  pub contains : live_in es ≡ t → IsSome (finite.get t k) → IsSome (lookup (is_at (nat_cmp k)) es)
  contains is live = let P : Option ℕ → Type 0 = IsSome in subst P (at_view is) live

  module _ (n : ℕ) (is : live_in es ≡ t) (got : n ≡ unwrap_or (lookup (is_at (nat_cmp k)) es) 0) where
    pub read : n ≡ count_in t k
    read = got ∙ ap (λ o. unwrap_or o 0) (sym (at_view is))

    pub read_finished : (ks : List ℕ) → IsSound es ks → (n ≡ 0 → finite.get t k ≡ None) × (finite.get t k ≡ None → n ≡ 0)
    read_finished ks sound =
        let both = zero_finished (finite.get t k) (λ c e. sound.positive k c (ap (λ m. finite.get m k) is ∙ e)) in
        (λ e. both.0 (sym read ∙ e), λ e. read ∙ both.1 e)

-- the first entry is taken
pub keys-pop : (es es' : List (ℕ × ℕ)) (p : ℕ × ℕ) → es ≡ p ∷ es' → IsStrictlySortedBy nat_cmp (keys_of es) → IsStrictlySortedBy nat_cmp (keys_of es') → finite.keys (live_in es) ≡ p.0 ∷ finite.keys (live_in es')
keys-pop es es' p e h h' = keys-live_in es h ∙ ap keys_of e ∙ ap (λ ks. p.0 ∷ ks) (sym (keys-live_in es' h'))

zero_of : (n : ℕ) → (0 < n → ◌≡◌ {A = Bool} false true) → n ≡ 0
zero_of zero h = refl
zero_of (suc n) h = absurd (let no : ◌≡◌ {A = Bool} false true = h (omega arith) in cc)

pub emptied : (es es' : List (ℕ × ℕ)) → (0 < length es → ◌≡◌ {A = Bool} false true) → length es' ≡ length es → es' ≡ []
emptied es es' h e = nil_of_length es' (e ∙ zero_of (length es) h)

pub if_none : {X : Type 0} (o : Option X) (P : Type 0) → P → IfNone o P
if_none None P p = p
if_none (Some x) P p = tt

-- how many there are
pub len-live_in : (es : List (ℕ × ℕ)) → IsStrictlySortedBy nat_cmp (keys_of es) → finite.len (live_in es) ≡ length es
len-live_in es h = finite.len-entries (live_in es) ∙ ap length (entries-live_in es h)
