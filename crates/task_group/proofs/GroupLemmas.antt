-- The numbers of live groups, and notices that are told one after another.
use Rattle.std.proofs.Common.{ap₂, ◌&&◌, ◌≡◌, ◌≢◌, ℕ, zero, suc, ◌+◌, ◌-◌, ◌<◌, ◌≤◌, List, [], ◌∷◌, ◌++◌, length, map, take, refl, sym, ap, subst, ◌∙◌, arith, Bool, true, false, cond, append_assoc, append-nil, inl, inr, length-append}
use Rattle.std.proofs.Math.Nat.{eq-or-lt_of_le}
use Rattle.std.specs.Prelude.{Option, Some, None, IsSome, is_some, ◌==◌, ◌↔◌}
use Rattle.std.specs.Option.{option_and_then, option_map, option_map_or}
use Rattle.std.specs.Ordering.{nat_cmp, eq_by_cmp}
use Rattle.std.specs.Cmp.{nat_cmp_total, unsigned_tied}
use Rattle.std.specs.FinMap as finite
use Rattle.std.proofs.lemmas.Bool.Decides.{nat_tests}
use Rattle.std.proofs.lemmas.Grind.{common_steps}
use Rattle.std.proofs.lemmas.List.Folds.{list_all-append}
use Rattle.std.proofs.lemmas.List.{length-take, map-append}
use Rattle.machine_data.specs.declared.records.Notice.{Notice}
use Rattle.task_group.specs.Heard.{Heard, Tells}
use Rattle.task_group.specs.Listeners.{AnsweredErr, Listeners, all_ok, answers_of, told_of, ToldListeners, errors_of}
use Rattle.task_group.specs.Counts.{Counts}
use Rattle.task_group.specs.Groups.{Groups, IsKnown, finish_number, numbered}

pub some_of : {X : Type 0} (o : Option X) (n : ℕ) → n ≢ 0 → (o ≡ None → n ≡ 0) → IsSome o
some_of None n ne h = absurd (ne (h refl))
some_of (Some x) n ne h = refl

none_some : ◌≡◌ {A = Bool} false true → ⊥
none_some e = cc

at_most : (b : Bool) (w o : Option ℕ) (n made : ℕ) → IsSome (cond b w o) → (b ≡ true → n ≤ made) → (IsSome o → n ≤ made) → n ≤ made
at_most true w o n made live first other = first refl
at_most false w o n made live first other = other live

removed : (b : Bool) (o : Option ℕ) (n : ℕ) {made : ℕ} → IsSome (cond b None o) → (IsSome o → n ≤ made) → n ≤ made
removed true o n live other = absurd (none_some live)
removed false o n live other = other live

fewer : (b : Bool) (o : Option ℕ) (n : ℕ) {made : ℕ} → IsSome (cond b None o) → ((n == made) ≡ true → b ≡ true) → (IsSome o → n ≤ made) → n ≤ made - 1
fewer true o n live same other = absurd (none_some live)
fewer false o n {made} live same other = let le = other live in grind (arith, nat_tests, le, same)

back : (b : Bool) (w o : Option ℕ) → (b ≡ true → o ≡ None) → cond b None (cond b w o) ≡ o
back true w o h = sym (h refl)
back false w o h = refl

-- the number got is above those that were given
pub numbered_above : (made number : ℕ) → made < numbered made number
numbered_above made number = grind (arith, nat_tests)

equal : (a b : ℕ) → (a == b) ≡ true → a ≡ b
equal a b e = grind (arith, nat_tests)

module _ (m : Counts) (made : ℕ) where
  known_at : (k v : ℕ) (top : ℕ) → k ≤ top → made ≤ top → IsKnown m made → IsKnown (finite.insert m k v) top
  known_at k v top le grow known n live =
      let live' : IsSome (cond (eq_by_cmp nat_cmp n k) (Some v) (finite.get m n)) = let P : Option ℕ → Type 0 = IsSome in subst P (finite.get-insert nat_cmp_total m k v n) live in
      at_most (eq_by_cmp nat_cmp n k) (Some v) (finite.get m n) n top live'
      (λ e. let same : n ≡ k = equal n k (sym (unsigned_tied n k) ∙ e) in omega arith)
      (λ old. omega (arith, known n old))

  pub known-insert : (k v : ℕ) → IsKnown m made → IsSome (finite.get m k) → IsKnown (finite.insert m k v) made
  known-insert k v known live = known_at k v made (known k live) (omega arith) known

  -- one of a number above all
  pub known-above : (k : ℕ) → made < k → IsKnown m made → IsKnown (finite.insert m k 1) k
  known-above k above known = known_at k 1 k (omega arith) (omega (arith, above)) known

  pub known-remove : (k : ℕ) → IsKnown m made → IsKnown (finite.remove m k) made
  known-remove k known n live =
      let live' : IsSome (cond (eq_by_cmp nat_cmp n k) None (finite.get m n)) = let P : Option ℕ → Type 0 = IsSome in subst P (finite.get-remove nat_cmp_total m k n) live in
      removed (eq_by_cmp nat_cmp n k) (finite.get m n) n live' (known n)

  fresh : (o : Option ℕ) → finite.get m (made + 1) ≡ o → IsKnown m made → o ≡ None
  fresh None e known = refl
  fresh (Some c) e known = absurd (let le = known (made + 1) (ap is_some e) in omega arith)

  absent_above : (k : ℕ) (o : Option ℕ) → finite.get m k ≡ o → made < k → IsKnown m made → o ≡ None
  absent_above k None e above known = refl
  absent_above k (Some c) e above known = absurd (let le = known k (ap is_some e) in omega (arith, above, le))

  -- a group that is made and taken back leaves nothing, whatever number above all it has
  pub remove-above : (k v : ℕ) → made < k → IsKnown m made → finite.remove (finite.insert m k v) k ≡ m
  remove-above k v above known = finite.same_map nat_cmp_total finite.nat_cmp-IsAntisymmetric _ _ (λ q.
      finite.get-remove nat_cmp_total (finite.insert m k v) k q
      ∙ ap (λ o. cond (eq_by_cmp nat_cmp q k) None o) (finite.get-insert nat_cmp_total m k v q)
      ∙ back (eq_by_cmp nat_cmp q k) (Some v) (finite.get m q) (λ e. let same : q ≡ k = equal q k (sym (unsigned_tied q k) ∙ e) in ap (finite.get m) same ∙ absent_above k _ refl above known))

-- one that was prepared and told of leaves nothing if it is taken back
pub made_back : (g m h : Groups) (number : ℕ) → IsKnown g.live g.made → m ≡ record g { live = finite.insert g.live m.made 1; made = m.made } → m.made ≡ numbered g.made number →
    (h.live ≡ m.live) × (h.made ≡ m.made) → finite.remove h.live h.made ≡ g.live
made_back g m h number known ok next same =
    let above = numbered_above g.made number in
    ap (λ (n : ℕ). finite.remove h.live n) same.1
    ∙ (ap (λ (l : Counts). finite.remove l m.made) (same.0 ∙ ap (λ (k : Groups). k.live) ok) ∙ remove-above g.live g.made m.made 1 (omega (arith, next, above)) known)

pub known-empty : (made : ℕ) → IsKnown finite.empty made
known-empty made n live = absurd (let P : Option ℕ → Type 0 = IsSome in none_some (subst P (finite.get-empty nat_cmp n) live))

mapped : {X : Type 0} (o : Option (List X)) (ns ms : List X) → option_map (λ n. n ++ ms) (option_map (λ n. n ++ ns) o) ≡ option_map (λ n. n ++ (ns ++ ms)) o
mapped None ns ms = refl
mapped (Some xs) ns ms = ap Some (append_assoc xs ns ms)

mapped_none : {X : Type 0} (o : Option (List X)) → o ≡ option_map (λ n. n ++ []) o
mapped_none None = refl
mapped_none (Some xs) = ap Some (sym (append-nil xs))

pub told-none : (l : Listeners) → ToldListeners [] l l
told-none l = record {
  same_hook = refl;
  told = mapped_none (told_of l);
  kept = grind (arith, common_steps);
  same_room = refl;
  errors = omega arith;
  answers = [];
  each = refl;
  answered = mapped_none (answers_of l);
  hook_is_ok = (λ same. refl, λ ok. refl);
}

take-nil : (k : ℕ) → ◌≡◌ {A = List Notice} (take k []) []
take-nil zero = refl
take-nil (suc k) = refl

take-append : (k : ℕ) (xs ys : List Notice) → take k (xs ++ ys) ≡ take k xs ++ take (k - length xs) ys
take-append k [] ys = let all : k - 0 ≡ k = omega arith in rw (take-nil k, all) refl
take-append zero (x ∷ xs) ys = let none : 0 - suc (length xs) ≡ 0 = omega arith in rw none refl
take-append (suc k) (x ∷ xs) ys = let left : suc k - suc (length xs) ≡ k - length xs = omega arith in rw left (ap (λ t. x ∷ t) (take-append k xs ys))

kept_more : (xs ns ms : List Notice) (room : ℕ) → (xs ++ take (room - length xs) ns) ++ take (room - length (xs ++ take (room - length xs) ns)) ms ≡ xs ++ take (room - length xs) (ns ++ ms)
kept_more xs ns ms room =
    let long : length (xs ++ take (room - length xs) ns) ≡ length xs + length (take (room - length xs) ns) = length-append xs (take (room - length xs) ns) in
    let left : room - length (xs ++ take (room - length xs) ns) ≡ (room - length xs) - length ns = omega (arith, long, length-take (room - length xs) ns) in
    append_assoc xs _ _ ∙ ap (λ t. xs ++ t) (ap (λ k. take (room - length xs) ns ++ take k ms) left ∙ sym (take-append (room - length xs) ns ms))

both_hook_is_ok : {x y z : ℕ} → x ≤ y → y ≤ z → (p q both : Bool) → (y ≡ x) ↔ (p ≡ true) → (z ≡ y) ↔ (q ≡ true) → both ≡ (p && q) → (z ≡ x) ↔ (both ≡ true)
both_hook_is_ok {x} {y} {z} le more true q both first second is = (
  λ same. is ∙ second.0 (omega (arith, same, le, more)),
  λ ok. second.1 (sym is ∙ ok) ∙ first.1 refl,
)
both_hook_is_ok {x} {y} {z} le more false q both first second is = (
  λ same. absurd (let no = first.0 (omega (arith, same, le, more)) in none_some no),
  λ ok. absurd (none_some (sym is ∙ ok)),
)

nil_of : (xs : List Bool) → length xs ≡ 0 → xs ≡ []
nil_of [] e = refl
nil_of (x ∷ xs) e = absurd (omega (arith, e))

-- notices that are told one after another
pub told-append : (ns ms : List Notice) (a b c : Listeners) → ToldListeners ns a b → ToldListeners ms b c → ToldListeners (ns ++ ms) a c
told-append ns ms a b c first second = record {
  same_hook = second.same_hook ∙ first.same_hook;
  told = second.told ∙ ap (option_map (λ n. n ++ ms)) first.told ∙ mapped (told_of a) ns ms;
  kept = second.kept
      ∙ ap (λ r. b.notices ++ take (r - length b.notices) ms) first.same_room
      ∙ ap (λ x. x ++ take (a.room - length x) ms) first.kept
      ∙ kept_more a.notices ns ms a.room;
  same_room = second.same_room ∙ first.same_room;
  errors = omega (arith, first.errors, second.errors);
  answers = first.answers ++ second.answers;
  each = length-append first.answers second.answers ∙ (ap₂ (λ x y. x + y) first.each second.each ∙ sym (length-append ns ms));
  answered = second.answered ∙ ap (option_map (λ n. n ++ second.answers)) first.answered ∙ mapped (answers_of a) first.answers second.answers;
  hook_is_ok = both_hook_is_ok first.errors second.errors (all_ok first.answers) (all_ok second.answers) _ first.hook_is_ok second.hook_is_ok (list_all-append (λ ok. ok) first.answers second.answers);
}

-- of no notice there is no error
pub none_hook_is_ok : (a b : Listeners) → ToldListeners [] a b → errors_of b ≡ errors_of a
none_hook_is_ok a b told = told.hook_is_ok.1 (ap all_ok (nil_of told.answers told.each))

-- ---- One notice

abbrev pub one_kept : Notice → Listeners → List Notice
one_kept n l = l.notices ++ take (l.room - length l.notices) (n ∷ [])

raised_alone : {x y : ℕ} (ok : Bool) → (ok ≡ true → y ≡ x) → (ok ≡ false → x < y) → (y ≡ x) ↔ (all_ok (ok ∷ []) ≡ true)
raised_alone true same more = (λ e. refl, λ e. same refl)
raised_alone false same more = (λ e. absurd (let lt = more refl in omega (arith, e, lt)), λ e. absurd (none_some e))

module _ (n : Notice) (l m : Listeners) (kept : m.notices ≡ one_kept n l) (room : m.room ≡ l.room) where
  -- nobody else is told
  pub told_nobody : l.hook ≡ None → m.hook ≡ None → ToldListeners (n ∷ []) l m
  told_nobody none still =
      let same : m.hook ≡ l.hook = still ∙ sym none in
      record {
        same_hook = ap is_some same;
        told = ap (option_and_then (λ (h : Heard). h.told)) still ∙ sym (ap (λ o. option_map (λ ns. ns ++ n ∷ []) (option_and_then (λ (h : Heard). h.told) o)) none);
        kept = kept;
        same_room = room;
        errors = let e = ap (λ o. option_map_or (λ (h : Heard). h.errors) o 0) same in omega (arith, e);
        answers = true ∷ [];
        each = refl;
        answered = ap (option_and_then (λ (h : Heard). h.answers)) still ∙ sym (ap (λ o. option_map (λ xs. xs ++ true ∷ []) (option_and_then (λ (h : Heard). h.answers) o)) none);
        hook_is_ok = (λ e. refl, λ e. ap (λ o. option_map_or (λ (h : Heard). h.errors) o 0) same);
      }

  -- the hook is told
  pub told_hook : (a b : Heard) (ok : Bool) → l.hook ≡ Some a → m.hook ≡ Some b → Tells n a b ok → ToldListeners (n ∷ []) l m
  told_hook a b ok was is tells =
      let before : errors_of l ≡ a.errors = ap (λ o. option_map_or (λ (h : Heard). h.errors) o 0) was in
      let after : errors_of m ≡ b.errors = ap (λ o. option_map_or (λ (h : Heard). h.errors) o 0) is in
      record {
        same_hook = ap is_some is ∙ sym (ap is_some was);
        told = ap (option_and_then (λ (h : Heard). h.told)) is ∙ (tells.told ∙ sym (ap (λ o. option_map (λ ns. ns ++ n ∷ []) (option_and_then (λ (h : Heard). h.told) o)) was));
        kept = kept;
        same_room = room;
        errors = no_fewer ok (λ e. after ∙ (tells.kept e ∙ sym before)) (λ e. let lt = tells.raised e in omega (arith, before, after, lt));
        answers = ok ∷ [];
        each = refl;
        answered = ap (option_and_then (λ (h : Heard). h.answers)) is ∙ (tells.answered ∙ sym (ap (λ o. option_map (λ xs. xs ++ ok ∷ []) (option_and_then (λ (h : Heard). h.answers) o)) was));
        hook_is_ok = raised_alone ok (λ e. after ∙ (tells.kept e ∙ sym before)) (λ e. let lt = tells.raised e in omega (arith, before, after, lt));
      }
    where
      no_fewer : {x y : ℕ} (ok : Bool) → (ok ≡ true → y ≡ x) → (ok ≡ false → x < y) → x ≤ y
      no_fewer true same more = let e = same refl in omega (arith, e)
      no_fewer false same more = let lt = more refl in omega (arith, lt)

-- where the hook answered no error, it has answered as many as before
pub still_hook_is_ok : {ns : List Notice} (a b : Listeners) → ToldListeners ns a b → (AnsweredErr a b → ⊥) → errors_of b ≡ errors_of a
still_hook_is_ok a b told none = elim (eq-or-lt_of_le told.errors) [
  | inl e ↦ sym e
  | inr lt ↦ absurd (none lt)
]

-- the flag says whether it answered none
pub failed_is : (b : Bool) (x y : Listeners) → (b ≡ true → errors_of y ≡ errors_of x) → (b ≡ false → AnsweredErr x y) → (b ≡ false) ↔ AnsweredErr x y
failed_is true x y same err = (λ e. absurd (cc), λ lt. let e = same refl in absurd (omega (arith, e, lt)))
failed_is false x y same err = (err, λ lt. refl)

module _ (keys₀ keys₁ done : List ℕ) (a b : Listeners) (split : keys₀ ≡ done ++ keys₁) (told : ToldListeners (map finish_number done) a b) where
  -- one more group is finished
  pub finish_more : (number : ℕ) (keys₂ : List ℕ) (c : Listeners) → keys₁ ≡ number ∷ keys₂ → ToldListeners (finish_number number ∷ []) b c → (x : List ℕ) × (keys₀ ≡ x ++ keys₂) × ToldListeners (map finish_number x) a c
  finish_more number keys₂ c next more =
      let P : List Notice → Type 0 = λ ns. ToldListeners ns a c in (
        done ++ number ∷ [],
        split ∙ ap (λ ks. done ++ ks) next ∙ sym (append_assoc done (number ∷ []) keys₂),
        subst P (sym (map-append finish_number done (number ∷ []))) (told-append (map finish_number done) (finish_number number ∷ []) a b c told more),
      )

  -- all are finished
  pub finish_done : keys₁ ≡ [] → ToldListeners (map finish_number keys₀) a b
  finish_done none =
      let P : List ℕ → Type 0 = λ ks. ToldListeners (map finish_number ks) a b in
      let all : keys₀ ≡ done = split ∙ ap (λ ks. done ++ ks) none ∙ append-nil done in
      subst P (sym all) told
