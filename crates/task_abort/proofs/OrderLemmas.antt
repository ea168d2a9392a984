-- A log put together by stages keeps the list of each caller, and has the calls after the last round last.
use Rattle.std.proofs.Common.{◌≡◌, ◌≢◌, ℕ, zero, suc, ◌-◌, ◌≤◌, ◌<◌, ◌⊎◌, ◌&&◌, ◌||◌, ◌==◌, Bool, true, false, cond, filter, List, [], ◌∷◌, ◌++◌, map, refl, sym, ap, subst, ◌∙◌, inl, inr, ⊎_elim, le_refl, le_trans, append-nil, eq-eqb, ne_eqb, eqb-true, arith}
use Rattle.std.proofs.lemmas.List.Elements.{filter-append}
use mathlib.Core.Option.{some, some-injective}
use lib.ListN.{get_elem?}
use Rattle.machine_data.specs.declared.statuses.Phase.{Phase}
use Rattle.machine_data.specs.declared.statuses.Phase.TheVariants.{Running, AbortRequested, Complete}
use Rattle.task_abort.specs.declared.log.PhaseCall.{PhaseCall}
use Rattle.task_abort.specs.declared.log.PhaseCall.TheVariants.{Abort, PollFuture, PollHandle, Finish}
use Rattle.task_abort.specs.declared.log.LogEntry.{LogEntry}
use Rattle.task_abort.specs.declared.log.CallMade.{CallMade}
use Rattle.task_abort.specs.declared.log.HandleCaller.{HandleCaller}
use Rattle.task_abort.specs.declared.log.PassView.{PassView}
use Rattle.task_abort.specs.PhaseLog.{code, after, entry, Name, Log}
use Rattle.task_abort.specs.Rule.{Has, Knows, AllKnown}
use Rattle.task_abort.specs.Staged.{told_answer, told, Aborter, aborts_of, all_aborts, any_abort, entered_answer, tells_request, entered, stage, in_stage, by_stages, by_number, Numbered, all_entries, staged, OnlyAborted, Lists, LastRound}
use Rattle.task_abort.proofs.LogLemmas.{after_rises}
use Rattle.task_abort.proofs.CallerLemmas.{at_nothing, has_own}
use Rattle.task_abort.proofs.StagedLemmas.{either_true, both_true_parts, Rises, rises_calls, Late, late}

stage_of : (p : Phase) (c : PhaseCall) → (stage p c ≡ 1) ⊎ ((stage p c ≡ 2) ⊎ ((stage p c ≡ 3) ⊎ ((stage p c ≡ 4) ⊎ (stage p c ≡ 5))))
stage_of Running Abort = inr (inl refl)
stage_of Running PollFuture = inl refl
stage_of Running PollHandle = inl refl
stage_of Running Finish = inr (inl refl)
stage_of AbortRequested Abort = inr (inr (inl refl))
stage_of AbortRequested PollFuture = inr (inr (inl refl))
stage_of AbortRequested PollHandle = inr (inr (inl refl))
stage_of AbortRequested Finish = inr (inr (inr (inl refl)))
stage_of Complete c = inr (inr (inr (inr refl)))

module _ {C : Type 0} where
  -- the stages never fall, from s on
  abbrev pub Sorted : ℕ → List (LogEntry C) → Type 0
  Sorted s [] = Unit {0}
  Sorted s (x ∷ xs) = (s ≤ stage x.answer x.call) × Sorted (stage x.answer x.call) xs

  pub sorted_less : (s t : ℕ) (xs : List (LogEntry C)) → s ≤ t → Sorted t xs → Sorted s xs
  sorted_less s t [] l h = tt
  sorted_less s t (x ∷ xs) l h = (le_trans l h.0, h.1)

  pub none_below : (u t : ℕ) (xs : List (LogEntry C)) → u < t → Sorted t xs → in_stage u xs ≡ []
  none_below u t [] l h = refl
  none_below u t (x ∷ xs) l h = let low = h.0 in
      ap (λ (b : Bool). cond b (x ∷ in_stage u xs) (in_stage u xs)) (ne_eqb (stage x.answer x.call) u (λ e. omega arith)) ∙ none_below u (stage x.answer x.call) xs (omega arith) h.1

  past_nothing : (x : LogEntry C) (a b : List (LogEntry C)) → a ≡ [] → a ++ (x ∷ b) ≡ x ∷ (a ++ b)
  past_nothing x a b e = let P : List (LogEntry C) → Type 0 = λ z. z ++ (x ∷ b) ≡ x ∷ (z ++ b) in subst P (sym e) refl

  module _ (x : LogEntry C) (f1 f2 f3 f4 f5 : List (LogEntry C)) where
    abbrev Placed : ℕ → Type 0
    Placed t = cond (t == 1) (x ∷ f1) f1 ++ (cond (t == 2) (x ∷ f2) f2 ++ (cond (t == 3) (x ∷ f3) f3 ++ (cond (t == 4) (x ∷ f4) f4 ++ cond (t == 5) (x ∷ f5) f5))) ≡ x ∷ (f1 ++ (f2 ++ (f3 ++ (f4 ++ f5))))

    placed_two : f1 ≡ [] → Placed 2
    placed_two e1 = past_nothing x f1 (f2 ++ (f3 ++ (f4 ++ f5))) e1

    placed_three : f1 ≡ [] → f2 ≡ [] → Placed 3
    placed_three e1 e2 = ap (λ (z : List (LogEntry C)). f1 ++ z) (past_nothing x f2 (f3 ++ (f4 ++ f5)) e2) ∙ past_nothing x f1 (f2 ++ (f3 ++ (f4 ++ f5))) e1

    placed_four : f1 ≡ [] → f2 ≡ [] → f3 ≡ [] → Placed 4
    placed_four e1 e2 e3 = ap (λ (z : List (LogEntry C)). f1 ++ (f2 ++ z)) (past_nothing x f3 (f4 ++ f5) e3) ∙ placed_three e1 e2

    placed_five : f1 ≡ [] → f2 ≡ [] → f3 ≡ [] → f4 ≡ [] → Placed 5
    placed_five e1 e2 e3 e4 = ap (λ (z : List (LogEntry C)). f1 ++ (f2 ++ (f3 ++ z))) (past_nothing x f4 f5 e4) ∙ placed_four e1 e2 e3

  -- what is in the order of the stages stays so
  pub by_stages-sorted : (xs : List (LogEntry C)) → Sorted 1 xs → by_stages xs ≡ xs
  by_stages-sorted [] h = refl
  by_stages-sorted (x ∷ xs) h = ⊎_elim at_one (⊎_elim at_two (⊎_elim at_three (⊎_elim at_four at_five))) (stage_of x.answer x.call) ∙ ap (λ (z : List (LogEntry C)). x ∷ z) (by_stages-sorted xs (sorted_less 1 (stage x.answer x.call) xs h.0 h.1))
    where
      Here : ℕ → Type 0
      Here = Placed x (in_stage 1 xs) (in_stage 2 xs) (in_stage 3 xs) (in_stage 4 xs) (in_stage 5 xs)

      below : (t u : ℕ) → stage x.answer x.call ≡ t → u < t → in_stage u xs ≡ []
      below t u e l = none_below u (stage x.answer x.call) xs (omega arith) h.1

      at_one : stage x.answer x.call ≡ 1 → Here (stage x.answer x.call)
      at_one e = let P : ℕ → Type 0 = Placed x (in_stage 1 xs) (in_stage 2 xs) (in_stage 3 xs) (in_stage 4 xs) (in_stage 5 xs) in subst P (sym e) refl

      at_two : stage x.answer x.call ≡ 2 → Here (stage x.answer x.call)
      at_two e = subst Here (sym e) (placed_two x (in_stage 1 xs) (in_stage 2 xs) (in_stage 3 xs) (in_stage 4 xs) (in_stage 5 xs) (below 2 1 e (omega arith)))

      at_three : stage x.answer x.call ≡ 3 → Here (stage x.answer x.call)
      at_three e = subst Here (sym e) (placed_three x (in_stage 1 xs) (in_stage 2 xs) (in_stage 3 xs) (in_stage 4 xs) (in_stage 5 xs) (below 3 1 e (omega arith)) (below 3 2 e (omega arith)))

      at_four : stage x.answer x.call ≡ 4 → Here (stage x.answer x.call)
      at_four e = subst Here (sym e) (placed_four x (in_stage 1 xs) (in_stage 2 xs) (in_stage 3 xs) (in_stage 4 xs) (in_stage 5 xs) (below 4 1 e (omega arith)) (below 4 2 e (omega arith)) (below 4 3 e (omega arith)))

      at_five : stage x.answer x.call ≡ 5 → Here (stage x.answer x.call)
      at_five e = subst Here (sym e) (placed_five x (in_stage 1 xs) (in_stage 2 xs) (in_stage 3 xs) (in_stage 4 xs) (in_stage 5 xs) (below 5 1 e (omega arith)) (below 5 2 e (omega arith)) (below 5 3 e (omega arith)) (below 5 4 e (omega arith)))

module _ {A : Type 0} where
  cond_filtered : (r : A → Bool) (x : A) (ys : List A) (b : Bool) → filter r (cond b (x ∷ ys) ys) ≡ cond b (cond (r x) (x ∷ filter r ys) (filter r ys)) (filter r ys)
  cond_filtered r x ys true = refl
  cond_filtered r x ys false = refl

  cond_swapped : (b c : Bool) (u m : List A) → cond b (cond c u m) m ≡ cond c (cond b u m) m
  cond_swapped true true u m = refl
  cond_swapped true false u m = refl
  cond_swapped false true u m = refl
  cond_swapped false false u m = refl

  filter-filter : (p q : A → Bool) (xs : List A) → filter q (filter p xs) ≡ filter p (filter q xs)
  filter-filter p q [] = refl
  filter-filter p q (x ∷ xs) =
      let e = filter-filter p q xs in
      cond_filtered q x (filter p xs) (p x) ∙ cond_swapped (p x) (q x) (x ∷ filter q (filter p xs)) (filter q (filter p xs))
      ∙ ap (λ (z : List A). cond (q x) (cond (p x) (x ∷ z) z) z) e ∙ sym (cond_filtered p x (filter q xs) (q x))

by_number-by_stages : (k : ℕ) (es : List (LogEntry ℕ)) → by_number k (by_stages es) ≡ by_stages (by_number k es)
by_number-by_stages k es =
    let each = λ (s : ℕ). filter-filter (λ (e : LogEntry ℕ). stage e.answer e.call == s) (λ (e : LogEntry ℕ). e.caller == k) es in
    let cut = filter-append (λ (e : LogEntry ℕ). e.caller == k) in
    cut (in_stage 1 es) (in_stage 2 es ++ (in_stage 3 es ++ (in_stage 4 es ++ in_stage 5 es))) ∙ ap (λ (z : List (LogEntry ℕ)). by_number k (in_stage 1 es) ++ z)
    (cut (in_stage 2 es) (in_stage 3 es ++ (in_stage 4 es ++ in_stage 5 es)) ∙ ap (λ (z : List (LogEntry ℕ)). by_number k (in_stage 2 es) ++ z)
    (cut (in_stage 3 es) (in_stage 4 es ++ in_stage 5 es) ∙ ap (λ (z : List (LogEntry ℕ)). by_number k (in_stage 3 es) ++ z) (cut (in_stage 4 es) (in_stage 5 es))))
    ∙ ap (λ (z : List (LogEntry ℕ)). z ++ (by_number k (in_stage 2 es) ++ (by_number k (in_stage 3 es) ++ (by_number k (in_stage 4 es) ++ by_number k (in_stage 5 es))))) (each 1)
    ∙ ap (λ (z : List (LogEntry ℕ)). in_stage 1 (by_number k es) ++ (z ++ (by_number k (in_stage 3 es) ++ (by_number k (in_stage 4 es) ++ by_number k (in_stage 5 es))))) (each 2)
    ∙ ap (λ (z : List (LogEntry ℕ)). in_stage 1 (by_number k es) ++ (in_stage 2 (by_number k es) ++ (z ++ (by_number k (in_stage 4 es) ++ by_number k (in_stage 5 es))))) (each 3)
    ∙ ap (λ (z : List (LogEntry ℕ)). in_stage 1 (by_number k es) ++ (in_stage 2 (by_number k es) ++ (in_stage 3 (by_number k es) ++ (z ++ by_number k (in_stage 5 es))))) (each 4)
    ∙ ap (λ (z : List (LogEntry ℕ)). in_stage 1 (by_number k es) ++ (in_stage 2 (by_number k es) ++ (in_stage 3 (by_number k es) ++ (in_stage 4 (by_number k es) ++ z)))) (each 5)

-- who made which entries
run_own : (n : ℕ) (others requested : Bool) (cs : List CallMade) → by_number 0 (entered n others requested cs) ≡ entered n others requested cs
run_own n others requested [] = refl
run_own n others requested (c ∷ cs) = ap (λ (z : List (LogEntry ℕ)). entry 0 c.call (entered_answer (requested || (others && (n == 0))) c.answer) ∷ z) (run_own (n - 1) others (requested || tells_request c.call c.answer) cs)

run_other : (k n : ℕ) (others requested : Bool) (cs : List CallMade) → 0 < k → by_number k (entered n others requested cs) ≡ []
run_other k n others requested [] l = refl
run_other k n others requested (c ∷ cs) l =
    let e : LogEntry ℕ = entry 0 c.call (entered_answer (requested || (others && (n == 0))) c.answer) in let rest : List (LogEntry ℕ) = by_number k (entered (n - 1) others (requested || tells_request c.call c.answer) cs) in
    ap (λ (b : Bool). cond b (e ∷ rest) rest) (ne_eqb 0 k (λ z. omega arith)) ∙ run_other k (n - 1) others (requested || tells_request c.call c.answer) cs l

aborts_own : (k : ℕ) (ps : List Phase) → by_number k (map (λ p. entry k Abort p) ps) ≡ map (λ p. entry k Abort p) ps
aborts_own k [] = refl
aborts_own k (p ∷ ps) = let rest = by_number k (map (λ p. entry k Abort p) ps) in ap (λ (b : Bool). cond b (entry k Abort p ∷ rest) rest) (eq-eqb k k refl) ∙ ap (λ (z : List (LogEntry ℕ)). entry k Abort p ∷ z) (aborts_own k ps)

aborts_other : (k j : ℕ) (ps : List Phase) → j ≢ k → by_number k (map (λ p. entry j Abort p) ps) ≡ []
aborts_other k j [] ne = refl
aborts_other k j (p ∷ ps) ne = let rest = by_number k (map (λ p. entry j Abort p) ps) in ap (λ (b : Bool). cond b (entry j Abort p ∷ rest) rest) (ne_eqb j k ne) ∙ aborts_other k j ps ne

by_number-append : (k : ℕ) (xs ys : List (LogEntry ℕ)) → by_number k (xs ++ ys) ≡ by_number k xs ++ by_number k ys
by_number-append k xs ys = filter-append (λ (e : LogEntry ℕ). e.caller == k) xs ys

pub joined_nil : {A : Type 0} (xs ys : List A) → xs ≡ [] → ys ≡ [] → xs ++ ys ≡ []
joined_nil xs ys e f = ap (λ z. z ++ ys) e ∙ f

none_numbered : (j k : ℕ) (rest : List Aborter) → Numbered k rest → j ≤ k → by_number j (all_aborts rest) ≡ []
none_numbered j k [] h l = refl
none_numbered j k (a ∷ rest) h l = let low = h.0 in
    by_number-append j (aborts_of a) (all_aborts rest) ∙ joined_nil (by_number j (aborts_of a)) (by_number j (all_aborts rest)) (aborts_other j a.0 a.1 (λ e. omega arith)) (none_numbered j a.0 rest h.1 (omega arith))

above : (k : ℕ) (rest : List Aborter) (i : ℕ) (a : Aborter) → Numbered k rest → get_elem? rest i ≡ some a → k < a.0
above k [] i a h at = absurd (at_nothing a i at)
above k (b ∷ rest) zero a h at = let e : b.0 ≡ a.0 = ap (λ (z : Aborter). z.0) (some-injective b a at) in let low = h.0 in omega arith
above k (b ∷ rest) (suc i) a h at = let low = h.0 in let more = above b.0 rest i a h.1 at in omega arith

own_numbered : (k : ℕ) (rest : List Aborter) (i : ℕ) (a : Aborter) → Numbered k rest → get_elem? rest i ≡ some a → by_number a.0 (all_aborts rest) ≡ aborts_of a
own_numbered k [] i a h at = absurd (at_nothing a i at)
own_numbered k (b ∷ rest) zero a h at =
    let P : Aborter → Type 0 = λ z. by_number z.0 (aborts_of b ++ all_aborts rest) ≡ aborts_of z in
    subst P (some-injective b a at) (by_number-append b.0 (aborts_of b) (all_aborts rest) ∙ ap (λ (z : List (LogEntry ℕ)). by_number b.0 (aborts_of b) ++ z) (none_numbered b.0 b.0 rest h.1 (le_refl _))
    ∙ append-nil (by_number b.0 (aborts_of b)) ∙ aborts_own b.0 b.1)
own_numbered k (b ∷ rest) (suc i) a h at = let more = above b.0 rest i a h.1 at in
    by_number-append a.0 (aborts_of b) (all_aborts rest) ∙ ap (λ (z : List (LogEntry ℕ)). z ++ by_number a.0 (all_aborts rest)) (aborts_other a.0 b.0 b.1 (λ e. omega arith)) ∙ own_numbered b.0 rest i a h.1 at

either_left : (a b : Bool) → a ≡ true → (a || b) ≡ true
either_left true b h = refl
either_left false b h = absurd (grind (arith, h))

pub either_right : (a b : Bool) → b ≡ true → (a || b) ≡ true
either_right true b h = refl
either_right false b h = h

-- The stages from s on are open to a caller whose next call finds a phase from b on; `soon`: a pending poll is entered with AbortRequested
abbrev Open : ℕ → ℕ → Bool → Type 0
Open s b soon = (s ≤ 1) ⊎ (((s ≤ 3) × (soon ≡ true)) ⊎ ((s ≤ 5) × (2 ≤ b)))

open_running : (s b : ℕ) (soon : Bool) → b ≤ 0 → (soon ≡ true → ⊥) → Open s b soon → s ≤ 1
open_running s b soon low never h = ⊎_elim (λ (l : s ≤ 1). l) (⊎_elim (λ (t : (s ≤ 3) × (soon ≡ true)). absurd (never t.1)) (λ (t : (s ≤ 5) × (2 ≤ b)). let l = t.1 in absurd (omega arith))) h

open_requested : (s b : ℕ) (soon : Bool) → b ≤ 1 → Open s b soon → s ≤ 3
open_requested s b soon low h = ⊎_elim (λ (l : s ≤ 1). let goal : s ≤ 3 = omega arith in goal) (⊎_elim (λ (t : (s ≤ 3) × (soon ≡ true)). t.0) (λ (t : (s ≤ 5) × (2 ≤ b)). let l = t.1 in absurd (omega arith))) h

open_any : (s b : ℕ) (soon : Bool) → Open s b soon → s ≤ 5
open_any s b soon h = ⊎_elim (λ (l : s ≤ 1). let goal : s ≤ 5 = omega arith in goal) (⊎_elim (λ (t : (s ≤ 3) × (soon ≡ true)). let l = t.0 in let goal : s ≤ 5 = omega arith in goal) (λ (t : (s ≤ 5) × (2 ≤ b)). t.0)) h

-- one more call of caller 0
abbrev Steps : Bool → Bool → PhaseCall → Phase → ℕ → Type 0
Steps requested late c p s = (s ≤ stage (entered_answer (requested || late) (told_answer c p)) c)
    × ((late' : Bool) → (late ≡ true → late' ≡ true) → Open (stage (entered_answer (requested || late) (told_answer c p)) c) (code (after c p)) ((requested || tells_request c (told_answer c p)) || late'))

steps : (requested late : Bool) (c : PhaseCall) (p : Phase) (s b : ℕ) → b ≤ code p → ((requested || late) ≡ true → 1 ≤ code p) → Open s b (requested || late) → Steps requested late c p s
steps requested late Abort Running s b low found h = let l = open_running s b (requested || late) low (λ t. let one = found t in omega arith) h in
    (omega arith, λ late' on. inr (inl (omega arith, either_left (requested || true) late' (either_right requested true refl))))
steps requested late PollFuture Running s b low found h = let l = open_running s b (requested || late) low (λ t. let one = found t in omega arith) h in (omega arith, λ late' on. inl (omega arith))
steps true late PollHandle Running s b low found h = absurd (let one : 1 ≤ 0 = found refl in omega arith)
steps false true PollHandle Running s b low found h = absurd (let one : 1 ≤ 0 = found refl in omega arith)
steps false false PollHandle Running s b low found h = let l = open_running s b false low (λ t. let one = found t in omega arith) h in (omega arith, λ late' on. inl (omega arith))
steps requested late Finish Running s b low found h = let l = open_running s b (requested || late) low (λ t. let one = found t in omega arith) h in (omega arith, λ late' on. inr (inr (omega arith, omega arith)))
steps requested late Abort AbortRequested s b low found h = let l = open_requested s b (requested || late) low h in
    (omega arith, λ late' on. inr (inl (omega arith, either_left (requested || true) late' (either_right requested true refl))))
steps requested late PollFuture AbortRequested s b low found h = let l = open_requested s b (requested || late) low h in
    (omega arith, λ late' on. inr (inl (omega arith, either_left (requested || true) late' (either_right requested true refl))))
steps true late PollHandle AbortRequested s b low found h = let l = open_requested s b true low h in (omega arith, λ late' on. inr (inl (omega arith, refl)))
steps false true PollHandle AbortRequested s b low found h = let l = open_requested s b true low h in (omega arith, λ late' on. inr (inl (omega arith, on refl)))
steps false false PollHandle AbortRequested s b low found h =
    let l : s ≤ 1 = ⊎_elim (λ (l : s ≤ 1). l) (⊎_elim (λ (t : (s ≤ 3) × (false ≡ true)). absurd (let e = t.1 in grind (arith, e))) (λ (t : (s ≤ 5) × (2 ≤ b)). let two = t.1 in absurd (omega arith))) h in
    (omega arith, λ late' on. inl (omega arith))
steps requested late Finish AbortRequested s b low found h = let l = open_requested s b (requested || late) low h in (omega arith, λ late' on. inr (inr (omega arith, omega arith)))
steps requested late Abort Complete s b low found h = let l = open_any s b (requested || late) h in (omega arith, λ late' on. inr (inr (omega arith, omega arith)))
steps requested late PollFuture Complete s b low found h = let l = open_any s b (requested || late) h in (omega arith, λ late' on. inr (inr (omega arith, omega arith)))
steps requested late PollHandle Complete s b low found h = let l = open_any s b (requested || late) h in (omega arith, λ late' on. inr (inr (omega arith, omega arith)))
steps requested late Finish Complete s b low found h = let l = open_any s b (requested || late) h in (omega arith, λ late' on. inr (inr (omega arith, omega arith)))

request_leaves : (c : PhaseCall) (p : Phase) → tells_request c (told_answer c p) ≡ true → 1 ≤ code (after c p)
request_leaves Abort Running h = omega arith
request_leaves Abort AbortRequested h = omega arith
request_leaves Abort Complete h = omega arith
request_leaves PollFuture Running h = absurd (grind (arith, h))
request_leaves PollFuture AbortRequested h = omega arith
request_leaves PollFuture Complete h = omega arith
request_leaves PollHandle Running h = absurd (grind (arith, h))
request_leaves PollHandle AbortRequested h = omega arith
request_leaves PollHandle Complete h = omega arith
request_leaves Finish p h = omega arith

entered_sorted : (xs : Log) (n : ℕ) (others requested : Bool) (b s : ℕ) → Rises b xs → (others ≡ true → Late n xs) → (requested ≡ true → 1 ≤ b) → Open s b (requested || (others && (n == 0))) → Sorted s (entered n others requested (map told xs))
entered_sorted [] n others requested b s rises late asked h = tt
entered_sorted (x ∷ xs) n others requested b s rises late asked h =
    let t = steps requested (others && (n == 0)) x.call x.answer s b rises.0 found h in (
      t.0,
      entered_sorted xs (n - 1) others (requested || tells_request x.call (told_answer x.call x.answer)) (code (after x.call x.answer)) (stage (entered_answer (requested || (others && (n == 0))) (told_answer x.call x.answer)) x.call)
          rises.1 (λ o k y le at. late o (suc k) y (omega arith) at) asked_next (t.1 (others && ((n - 1) == 0)) stays),
    )
  where
    found : (requested || (others && (n == 0))) ≡ true → 1 ≤ code x.answer
    found r = let low = rises.0 in ⊎_elim
        (λ (q : requested ≡ true). let one = asked q in let goal : 1 ≤ code x.answer = omega arith in goal)
        (λ (q : (others && (n == 0)) ≡ true). let both = both_true_parts others (n == 0) q in let zero_n : n ≡ 0 = eqb-true n 0 both.1 in late both.0 0 x (omega arith) refl)
        (either_true requested (others && (n == 0)) r)

    asked_next : (requested || tells_request x.call (told_answer x.call x.answer)) ≡ true → 1 ≤ code (after x.call x.answer)
    asked_next r = let low = rises.0 in let up = after_rises x.call x.answer in ⊎_elim
        (λ (q : requested ≡ true). let one = asked q in let goal : 1 ≤ code (after x.call x.answer) = omega arith in goal)
        (λ (q : tells_request x.call (told_answer x.call x.answer) ≡ true). request_leaves x.call x.answer q)
        (either_true requested (tells_request x.call (told_answer x.call x.answer)) r)

    stays : (others && (n == 0)) ≡ true → (others && ((n - 1) == 0)) ≡ true
    stays q = let both = both_true_parts others (n == 0) q in let zero_n : n ≡ 0 = eqb-true n 0 both.1 in
        ap (λ (o : Bool). o && ((n - 1) == 0)) both.0 ∙ eq-eqb (n - 1) 0 (omega arith)

abbrev OpenAbort : ℕ → ℕ → Type 0
OpenAbort s b = (s ≤ 2) ⊎ (((s ≤ 3) × (1 ≤ b)) ⊎ ((s ≤ 5) × (2 ≤ b)))

aborts_sorted : (k : ℕ) (n : Name) (ps : List Phase) (b s : ℕ) → Rises b (map (λ p. entry n Abort p) ps) → OpenAbort s b → Sorted s (map (λ p. entry k Abort p) ps)
aborts_sorted k n [] b s rises h = tt
aborts_sorted k n (Running ∷ ps) b s rises h = let low = rises.0 in
    (⊎_elim (λ (l : s ≤ 2). l) (⊎_elim (λ (t : (s ≤ 3) × (1 ≤ b)). let l = t.1 in absurd (omega arith)) (λ (t : (s ≤ 5) × (2 ≤ b)). let l = t.1 in absurd (omega arith))) h, aborts_sorted k n ps 1 2 rises.1 (inl (omega arith)))
aborts_sorted k n (AbortRequested ∷ ps) b s rises h = let low = rises.0 in
    (⊎_elim (λ (l : s ≤ 2). let goal : s ≤ 3 = omega arith in goal) (⊎_elim (λ (t : (s ≤ 3) × (1 ≤ b)). t.0) (λ (t : (s ≤ 5) × (2 ≤ b)). let l = t.1 in absurd (omega arith))) h, aborts_sorted k n ps 1 3 rises.1 (inr (inl (omega arith, omega arith))))
aborts_sorted k n (Complete ∷ ps) b s rises h =
    (⊎_elim (λ (l : s ≤ 2). let goal : s ≤ 5 = omega arith in goal) (⊎_elim (λ (t : (s ≤ 3) × (1 ≤ b)). let l = t.0 in let goal : s ≤ 5 = omega arith in goal) (λ (t : (s ≤ 5) × (2 ≤ b)). t.0)) h, aborts_sorted k n ps 2 5 rises.1 (inr (inr (omega arith, omega arith))))

only_at : (ds : List HandleCaller) (rest : List Aborter) (i : ℕ) (a : Aborter) → OnlyAborted ds rest → get_elem? rest i ≡ some a → (d : HandleCaller) × (get_elem? ds i ≡ some d) × (d.calls ≡ map (λ p. entry d.name Abort p) a.1)
only_at [] [] i a h at = absurd (at_nothing a i at)
only_at [] (b ∷ rest) i a h at = absurd h
only_at (d ∷ ds) [] i a h at = absurd h
only_at (d ∷ ds) (b ∷ rest) zero a h at = (d, refl, h.0 ∙ ap (λ (z : Aborter). map (λ p. entry d.name Abort p) z.1) (some-injective b a at))
only_at (d ∷ ds) (b ∷ rest) (suc i) a h at = only_at ds rest i a h.1 at

module _ (w : PassView) (knows : Knows w) (known : AllKnown w) (own : List CallMade) (aborters : List Aborter) (n : ℕ) (lists : Lists w own aborters) (round : LastRound w n) where
  rises_of : (c : HandleCaller) → Has w c → Rises 0 c.calls
  rises_of c h = subst (Rises 0) (knows.whole c h) (rises_calls c.name Running w.seen knows.legal)

  pub run_sorted : Sorted 1 (entered n (any_abort aborters) false own)
  run_sorted = subst (λ (z : List CallMade). Sorted 1 (entered n (any_abort aborters) false z)) (sym lists.own_calls)
      (entered_sorted w.own.calls n (any_abort aborters) false 0 1 (rises_of w.own (has_own w)) (late w knows known own aborters n lists round) (λ never. absurd (grind (arith, never))) (inl (omega arith)))

  aborter_sorted : (i : ℕ) (a : Aborter) → get_elem? aborters i ≡ some a → Sorted 1 (aborts_of a)
  aborter_sorted i a at = let d = only_at w.met aborters i a lists.aborts at in aborts_sorted a.0 d.0.name a.1 0 1 (subst (Rises 0) d.2 (rises_of d.0 (suc i, d.1))) (inl (omega arith))

  module _ (numbered : Numbered 0 aborters) where
    pub run_entries : by_number 0 (staged own aborters n) ≡ entered n (any_abort aborters) false own
    run_entries = let es = entered n (any_abort aborters) false own in
        by_number-by_stages 0 (all_entries own aborters n)
        ∙ ap by_stages (by_number-append 0 (all_aborts aborters) es ∙ ap (λ (z : List (LogEntry ℕ)). z ++ by_number 0 es) (none_numbered 0 0 aborters numbered (le_refl _)) ∙ run_own n (any_abort aborters) false own)
        ∙ by_stages-sorted es run_sorted

    pub aborter_entries : (i : ℕ) (a : Aborter) → get_elem? aborters i ≡ some a → by_number a.0 (staged own aborters n) ≡ aborts_of a
    aborter_entries i a at = let es = entered n (any_abort aborters) false own in
        by_number-by_stages a.0 (all_entries own aborters n)
        ∙ ap by_stages (by_number-append a.0 (all_aborts aborters) es ∙ ap (λ (z : List (LogEntry ℕ)). by_number a.0 (all_aborts aborters) ++ z) (run_other a.0 n (any_abort aborters) false own (above 0 aborters i a numbered at))
        ∙ append-nil (by_number a.0 (all_aborts aborters)) ∙ own_numbered 0 aborters i a numbered at)
        ∙ by_stages-sorted (aborts_of a) (aborter_sorted i a at)
