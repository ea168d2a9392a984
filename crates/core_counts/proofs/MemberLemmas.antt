-- How many members a set has, as the machine searches for one.
use Rattle.core_records.proofs.Core.{[], ap, ap₂, arith, Bool, Call, cases_eq, cond, Core, eq-eqb, false, find, get, has, has_member, inl, inr, is_in_set, is_member, is_sorted, IsMembers-numbers, Join, List, list_any, map, members_of, nat_cmp, nat_lt, ne_eqb, numbers, Option, option_map_or, passing, Records, refl, Some, Subtask, sym, T, true, unsigned_tied, Work, ℕ, ◌&&◌, ◌+◌, ◌==◌, ◌||◌, ◌∙◌, ◌∷◌, ◌≡◌}
use Rattle.std.proofs.lemmas.List.Folds.{list_any-append}
use Rattle.core_records.proofs.KeptLemmas.{any_passing}

any_mapped : {X : Type 0} (u : X → Bool) (f : ℕ → X) (ns : List ℕ) → list_any u (map f ns) ≡ list_any (λ n. u (f n)) ns
any_mapped u f [] = refl
any_mapped u f (n ∷ ns) = ap (λ b. u (f n) || b) (any_mapped u f ns)

module _ {X : Type 0} (u : Option X → Bool) where
  -- a search that never comes to the first entry
  any_later : (e : ℕ × X) (es : List (ℕ × X)) (ks : List ℕ) → has e.0 ks ≡ false → list_any (λ n. u (find nat_cmp n (e ∷ es))) ks ≡ list_any (λ n. u (find nat_cmp n es)) ks
  any_later e es [] new = refl
  any_later e es (k ∷ ks) new = by (e.0 == k) refl new (any_later e es ks)
    where
      by : (b : Bool) → (e.0 == k) ≡ b → (b || has e.0 ks) ≡ false → (has e.0 ks ≡ false → list_any (λ n. u (find nat_cmp n (e ∷ es))) ks ≡ list_any (λ n. u (find nat_cmp n es)) ks) → list_any (λ n. u (find nat_cmp n (e ∷ es))) (k ∷ ks) ≡ list_any (λ n. u (find nat_cmp n es)) (k ∷ ks)
      by true same new rest = absurd (cc)
      by false differ new rest =
          let other : (k == e.0) ≡ false = elim (cases_eq k e.0) [ inl same ↦ absurd (let is = eq-eqb e.0 k (sym same) in cc) | inr apart ↦ ne_eqb k e.0 apart ] in
          ap₂ (λ b c. u (cond b (Some e.1) (find nat_cmp k es)) || c) (unsigned_tied k e.0 ∙ other) (rest new)

  any_keys : (es : List (ℕ × X)) → T (is_sorted nat_cmp es) → list_any (λ n. u (find nat_cmp n es)) (map (λ e. e.0) es) ≡ list_any (λ e. u (Some e.1)) es
  unfolding numbers
  any_keys [] sorted = refl
  any_keys (e ∷ es) sorted =
      ap₂ (λ b c. u (cond b (Some e.1) (find nat_cmp e.0 es)) || c) (unsigned_tied e.0 e.0 ∙ eq-eqb e.0 e.0 refl)
      (any_later e es (map (λ e. e.0) es) ((IsMembers-numbers (record { list = e ∷ es; sorted = sorted })).once.0) ∙ any_keys es (rest _ _ sorted))
    where
      rest : (a b : Bool) → T (a && b) → T b
      rest true b p = p
      rest false b p = absurd p

  -- a search by number is one by record
  pub any_numbers : (m : Records X) → list_any (λ n. u (get m n)) (numbers m) ≡ list_any (λ (e : ℕ × X). u (Some e.1)) m.list
  unfolding get numbers
  any_numbers m = any_keys m.list m.sorted

some_of : (n m : ℕ) → (nat_lt 0 n || nat_lt 0 m) ≡ nat_lt 0 (n + m)
some_of n m = grind arith

-- a set has a member where it has more than none
pub some_member : (x : ℕ) (s : Core) → has_member x s ≡ nat_lt 0 (members_of x s)
unfolding has_member
some_member x s =
    list_any-append (λ sub. is_member x sub s) (map (λ n. Subtask.Guest n) (numbers s.calls)) (map (λ n. Subtask.Host n) (numbers s.works))
    ∙ (ap₂ (λ a b. a || b)
    (any_mapped (λ sub. is_member x sub s) (λ n. Subtask.Guest n) (numbers s.calls) ∙ (any_numbers (λ o. is_in_set x (option_map_or (λ (c : Call). c.join) o Join.Nowhere)) s.calls ∙ sym (any_passing (λ (c : Call). is_in_set x c.join) s.calls)))
    (any_mapped (λ sub. is_member x sub s) (λ n. Subtask.Host n) (numbers s.works) ∙ (any_numbers (λ o. is_in_set x (option_map_or (λ (w : Work). w.join) o Join.Nowhere)) s.works ∙ sym (any_passing (λ (w : Work). is_in_set x w.join) s.works)))
    ∙ some_of (passing (λ (c : Call). is_in_set x c.join) s.calls) (passing (λ (w : Work). is_in_set x w.join) s.works))
