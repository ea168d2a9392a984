-- How many entries of a log pass a test on answer and call, and what a legal log says of that.
use Rattle.std.proofs.Common.{◌≡◌, ℕ, suc, ◌+◌, ◌≤◌, ◌<◌, ◌≢◌, ◌&&◌, ◌==◌, Bool, true, false, cond, List, [], ◌∷◌, ◌++◌, length, sum_by, refl, sym, ap, subst, ◌∙◌, ⊎_elim, arith}
use Rattle.std.proofs.lemmas.List.Sums.{sum_by-cons}
use mathlib.Core.Option.{some}
use lib.ListN.{get_elem?}
use Rattle.machine_data.specs.declared.statuses.Phase.{Phase}
use Rattle.task_abort.specs.declared.log.PhaseCall.{PhaseCall}
use Rattle.task_abort.specs.declared.log.LogEntry.{LogEntry}
use Rattle.task_abort.specs.declared.log.HandleCaller.{HandleCaller}
use Rattle.task_abort.specs.PhaseLog.{after, is_legal_from, Name, Log, same_name, calls_by}
use Rattle.task_abort.specs.Rule.{named}
use Rattle.task_abort.specs.Staged.{stage, in_stage}
use Rattle.task_abort.proofs.LogLemmas.{legal_parts, same_name-refl, same_name-other, names}
use Rattle.task_abort.proofs.CallerLemmas.{counts, sum_by-none}

abbrev pub Test : Type 0
Test = Phase → PhaseCall → Bool

abbrev pub at_stage : ℕ → Test
at_stage s p c = stage p c == s

abbrev pub bit : Bool → ℕ
bit b = cond b 1 0

abbrev pub tally : {C : Type 0} → Test → List (LogEntry C) → ℕ
tally t [] = 0
tally t (e ∷ es) = bit (t e.answer e.call) + tally t es

module _ {C : Type 0} where
  pub tally-append : (t : Test) (xs ys : List (LogEntry C)) → tally t (xs ++ ys) ≡ tally t xs + tally t ys
  tally-append t [] ys = omega arith
  tally-append t (x ∷ xs) ys = let e = tally-append t xs ys in omega arith

  pub tally_split : (t u v : Test) → ((p : Phase) (c : PhaseCall) → bit (t p c) ≤ bit (u p c) + bit (v p c)) → (es : List (LogEntry C)) → tally t es ≤ tally u es + tally v es
  tally_split t u v h [] = omega arith
  tally_split t u v h (e ∷ es) = let l = tally_split t u v h es in let k = h e.answer e.call in omega arith

  pub tally_same : (t u : Test) → ((p : Phase) (c : PhaseCall) → t p c ≡ u p c) → (es : List (LogEntry C)) → tally t es ≡ tally u es
  tally_same t u h [] = refl
  tally_same t u h (e ∷ es) = let l = tally_same t u h es in let k = ap bit (h e.answer e.call) in omega arith

  one_kept : (u : Test) (s : ℕ) (e : LogEntry C) (xs : List (LogEntry C)) (n : ℕ) (b : Bool) → tally u xs ≡ n → tally u (cond b (e ∷ xs) xs) ≡ bit (b && u e.answer e.call) + n
  one_kept u s e xs n true h = let k : tally u xs ≡ n = h in omega arith
  one_kept u s e xs n false h = let k : tally u xs ≡ n = h in omega arith

  pub tally-in_stage : (u : Test) (s : ℕ) (es : List (LogEntry C)) → tally u (in_stage s es) ≡ tally (λ p c. (stage p c == s) && u p c) es
  tally-in_stage u s [] = refl
  tally-in_stage u s (e ∷ es) = one_kept u s e (in_stage s es) (tally (λ p c. (stage p c == s) && u p c) es) (stage e.answer e.call == s) (tally-in_stage u s es)

  one_longer : (e : LogEntry C) (xs : List (LogEntry C)) (n : ℕ) (b : Bool) → length xs ≡ n → length (cond b (e ∷ xs) xs) ≡ bit b + n
  one_longer e xs n true h = let k : length xs ≡ n = h in omega arith
  one_longer e xs n false h = let k : length xs ≡ n = h in omega arith

  pub length-in_stage : (s : ℕ) (es : List (LogEntry C)) → length (in_stage s es) ≡ tally (at_stage s) es
  length-in_stage s [] = refl
  length-in_stage s (e ∷ es) = one_longer e (in_stage s es) (tally (at_stage s) es) (stage e.answer e.call == s) (length-in_stage s es)

  -- what can be found only so often after each phase
  pub tally_bounded : (t : Test) (most : Phase → ℕ) → ((p : Phase) (c : PhaseCall) → bit (t p c) + most (after c p) ≤ most p) → (p : Phase) (es : List (LogEntry C)) → is_legal_from p es ≡ true → tally t es ≤ most p
  tally_bounded t most step p [] h = omega arith
  tally_bounded t most step p (e ∷ es) h =
      let l = legal_parts p e es h in let k = tally_bounded t most step (after e.call p) es l.1 in let s = step p e.call in
      let is : bit (t e.answer e.call) ≡ bit (t p e.call) = ap (λ (q : Phase). bit (t q e.call)) l.0 in omega arith

  -- what is found only where something else was found before
  pub tally_caused : (t u : Test) (had : Phase → ℕ) → ((p : Phase) (c : PhaseCall) → bit (t p c) ≤ had p) → ((p : Phase) (c : PhaseCall) → had (after c p) ≤ had p + bit (u p c))
      → (p : Phase) (es : List (LogEntry C)) → is_legal_from p es ≡ true → 0 < tally t es → 0 < had p + tally u es
  tally_caused t u had now later p [] h any = absurd (omega arith)
  tally_caused t u had now later p (e ∷ es) h any =
      let l = legal_parts p e es h in let n = now p e.call in let s = later p e.call in
      let is : bit (t e.answer e.call) ≡ bit (t p e.call) = ap (λ (q : Phase). bit (t q e.call)) l.0 in
      let is' : bit (u e.answer e.call) ≡ bit (u p e.call) = ap (λ (q : Phase). bit (u q e.call)) l.0 in
      let rest : 0 < tally t es → 0 < had (after e.call p) + tally u es = tally_caused t u had now later (after e.call p) es l.1 in
      grind arith

same_name-sym : (m n : Name) → same_name m n ≡ same_name n m
same_name-sym m n = ⊎_elim
    (λ (t : (m ≡ n) × (same_name m n ≡ true)). t.1 ∙ sym (same_name-refl n m (sym t.0)))
    (λ (t : (m ≢ n) × (same_name m n ≡ false)). t.1 ∙ sym (same_name-other n m (λ e. t.0 (sym e)))) (names m n)

module _ {A : Type 0} where
  pub sum_by-plus : (f g h : A → ℕ) → ((x : A) → h x ≡ f x + g x) → (xs : List A) → sum_by h xs ≡ sum_by f xs + sum_by g xs
  sum_by-plus f g h e [] = refl
  sum_by-plus f g h e (x ∷ xs) = let l = sum_by-plus f g h e xs in let k = e x in omega (arith, sum_by-cons f x xs, sum_by-cons g x xs, sum_by-cons h x xs)

  pub sum_by-same : (f g : A → ℕ) (xs : List A) → ((i : ℕ) (x : A) → get_elem? xs i ≡ some x → f x ≡ g x) → sum_by f xs ≡ sum_by g xs
  sum_by-same f g [] h = refl
  sum_by-same f g (x ∷ xs) h = let k = h 0 x refl in let l = sum_by-same f g xs (λ i y at. h (suc i) y at) in omega (arith, sum_by-cons f x xs, sum_by-cons g x xs)

  pub sum_by-if : (f g : A → ℕ) (b : Bool) → ((x : A) → f x ≡ cond b (g x) 0) → (xs : List A) → sum_by f xs ≡ cond b (sum_by g xs) 0
  sum_by-if f g true h xs = sum_by-same f g xs (λ i x at. h x)
  sum_by-if f g false h xs = sum_by-none f xs (λ i x at. h x)

module _ (t : Test) where
  by_caller : (e : LogEntry Name) (xs : Log) (b b' : Bool) → b ≡ b' → tally t (cond b (e ∷ xs) xs) ≡ cond (t e.answer e.call) (bit b') 0 + tally t xs
  by_caller e xs true b' h = subst (λ (z : Bool). bit (t e.answer e.call) + tally t xs ≡ cond (t e.answer e.call) (bit z) 0 + tally t xs) h refl
  by_caller e xs false b' h = subst (λ (z : Bool). tally t xs ≡ cond (t e.answer e.call) (bit z) 0 + tally t xs) h (none (t e.answer e.call))
    where
      none : (b : Bool) → tally t xs ≡ cond b 0 0 + tally t xs
      none true = omega arith
      none false = omega arith

  -- where each entry is by just one of the callers, their entries together are all
  pub tally-callers : (cs : List HandleCaller) (log : Log) → ((m : ℕ) (e : LogEntry Name) → get_elem? log m ≡ some e → named e.caller cs ≡ 1) → sum_by (λ c. tally t (calls_by c.name log)) cs ≡ tally t log
  tally-callers cs [] h = sum_by-none (λ c. 0) cs (λ i c at. refl)
  tally-callers cs (e ∷ es) h =
      let one = h 0 e refl in let rest = tally-callers cs es (λ m x at. h (suc m) x at) in
      let each = sum_by-plus (λ (c : HandleCaller). cond (t e.answer e.call) (counts e.caller c) 0) (λ c. tally t (calls_by c.name es)) (λ c. tally t (calls_by c.name (e ∷ es)))
      (λ c. by_caller e (calls_by c.name es) (same_name e.caller c.name) (same_name c.name e.caller) (same_name-sym e.caller c.name)) cs in
      let here = sum_by-if (λ (c : HandleCaller). cond (t e.answer e.call) (counts e.caller c) 0) (counts e.caller) (t e.answer e.call) (λ c. refl) cs in
      let is : cond (t e.answer e.call) (named e.caller cs) 0 ≡ bit (t e.answer e.call) = ap (λ (n : ℕ). cond (t e.answer e.call) n 0) one in
      omega arith
