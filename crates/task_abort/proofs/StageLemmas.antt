-- Entries put into stages are a legal log, where at most one call ended the phase Running, at most one finish found AbortRequested, and
-- what found a later phase has its cause among them.
use Rattle.std.proofs.Common.{◌≡◌, ℕ, ◌+◌, ◌≤◌, ◌<◌, ◌⊎◌, ◌&&◌, ◌==◌, Bool, true, false, cond, List, [], ◌∷◌, ◌++◌, length, refl, sym, ap, subst, ◌∙◌, inl, inr, ⊎_elim, eqb-true, arith}
use Rattle.machine_data.specs.declared.statuses.Phase.{Phase}
use Rattle.machine_data.specs.declared.statuses.Phase.TheVariants.{Running, AbortRequested, Complete}
use Rattle.task_abort.specs.declared.log.PhaseCall.{PhaseCall}
use Rattle.task_abort.specs.declared.log.PhaseCall.TheVariants.{Abort, PollFuture, PollHandle, Finish}
use Rattle.task_abort.specs.declared.log.LogEntry.{LogEntry}
use Rattle.task_abort.specs.PhaseLog.{after, phase_from, is_legal_from, IsLegal}
use Rattle.task_abort.specs.Staged.{stage, in_stage, by_stages}
use Rattle.task_abort.proofs.LogLemmas.{legal_one_more, legal_joined}
use Rattle.task_abort.proofs.TallyLemmas.{Test, at_stage, bit, tally, tally_split, tally_same, tally-in_stage, length-in_stage}

-- an abort that found Running
abbrev pub first_abort : Test
first_abort Running Abort = true
first_abort Running PollFuture = false
first_abort Running PollHandle = false
first_abort Running Finish = false
first_abort AbortRequested c = false
first_abort Complete c = false

-- a finish that found another phase than Complete
abbrev pub first_finish : Test
first_finish p Abort = false
first_finish p PollFuture = false
first_finish p PollHandle = false
first_finish Running Finish = true
first_finish AbortRequested Finish = true
first_finish Complete Finish = false

one : (p : Phase) (c : PhaseCall) → stage p c ≡ 1 → (p ≡ Running) × (after c p ≡ p)
one Running Abort h = absurd (omega arith)
one Running PollFuture h = (refl, refl)
one Running PollHandle h = (refl, refl)
one Running Finish h = absurd (omega arith)
one AbortRequested Abort h = absurd (omega arith)
one AbortRequested PollFuture h = absurd (omega arith)
one AbortRequested PollHandle h = absurd (omega arith)
one AbortRequested Finish h = absurd (omega arith)
one Complete c h = absurd (omega arith)

two : (p : Phase) (c : PhaseCall) → stage p c ≡ 2 → (p ≡ Running) × ((c ≡ Abort) ⊎ (c ≡ Finish))
two Running Abort h = (refl, inl refl)
two Running PollFuture h = absurd (omega arith)
two Running PollHandle h = absurd (omega arith)
two Running Finish h = (refl, inr refl)
two AbortRequested Abort h = absurd (omega arith)
two AbortRequested PollFuture h = absurd (omega arith)
two AbortRequested PollHandle h = absurd (omega arith)
two AbortRequested Finish h = absurd (omega arith)
two Complete c h = absurd (omega arith)

three : (p : Phase) (c : PhaseCall) → stage p c ≡ 3 → (p ≡ AbortRequested) × (after c p ≡ p)
three Running Abort h = absurd (omega arith)
three Running PollFuture h = absurd (omega arith)
three Running PollHandle h = absurd (omega arith)
three Running Finish h = absurd (omega arith)
three AbortRequested Abort h = (refl, refl)
three AbortRequested PollFuture h = (refl, refl)
three AbortRequested PollHandle h = (refl, refl)
three AbortRequested Finish h = absurd (omega arith)
three Complete c h = absurd (omega arith)

four : (p : Phase) (c : PhaseCall) → stage p c ≡ 4 → (p ≡ AbortRequested) × (c ≡ Finish)
four Running Abort h = absurd (omega arith)
four Running PollFuture h = absurd (omega arith)
four Running PollHandle h = absurd (omega arith)
four Running Finish h = absurd (omega arith)
four AbortRequested Abort h = absurd (omega arith)
four AbortRequested PollFuture h = absurd (omega arith)
four AbortRequested PollHandle h = absurd (omega arith)
four AbortRequested Finish h = (refl, refl)
four Complete c h = absurd (omega arith)

five : (p : Phase) (c : PhaseCall) → stage p c ≡ 5 → (p ≡ Complete) × (after c p ≡ p)
five Running Abort h = absurd (omega arith)
five Running PollFuture h = absurd (omega arith)
five Running PollHandle h = absurd (omega arith)
five Running Finish h = absurd (omega arith)
five AbortRequested Abort h = absurd (omega arith)
five AbortRequested PollFuture h = absurd (omega arith)
five AbortRequested PollHandle h = absurd (omega arith)
five AbortRequested Finish h = absurd (omega arith)
five Complete Abort h = (refl, refl)
five Complete PollFuture h = (refl, refl)
five Complete PollHandle h = (refl, refl)
five Complete Finish h = (refl, refl)

aborts_stand : (p : Phase) (c : PhaseCall) → first_abort p c ≡ ((stage p c == 2) && first_abort p c)
aborts_stand Running Abort = refl
aborts_stand Running PollFuture = refl
aborts_stand Running PollHandle = refl
aborts_stand Running Finish = refl
aborts_stand AbortRequested Abort = refl
aborts_stand AbortRequested PollFuture = refl
aborts_stand AbortRequested PollHandle = refl
aborts_stand AbortRequested Finish = refl
aborts_stand Complete c = refl

finishes_stand : (p : Phase) (c : PhaseCall) → bit (first_finish p c) ≤ bit ((stage p c == 2) && first_finish p c) + bit ((stage p c == 4) && first_finish p c)
finishes_stand Running Abort = omega arith
finishes_stand Running PollFuture = omega arith
finishes_stand Running PollHandle = omega arith
finishes_stand Running Finish = omega arith
finishes_stand AbortRequested Abort = omega arith
finishes_stand AbortRequested PollFuture = omega arith
finishes_stand AbortRequested PollHandle = omega arith
finishes_stand AbortRequested Finish = omega arith
finishes_stand Complete Abort = omega arith
finishes_stand Complete PollFuture = omega arith
finishes_stand Complete PollHandle = omega arith
finishes_stand Complete Finish = omega arith

module _ {C : Type 0} where
  abbrev pub AllAt : ℕ → List (LogEntry C) → Type 0
  AllAt s [] = Unit {0}
  AllAt s (e ∷ es) = (stage e.answer e.call ≡ s) × AllAt s es

  one_at : (s : ℕ) (e : LogEntry C) (xs : List (LogEntry C)) (b : Bool) → (stage e.answer e.call == s) ≡ b → AllAt s xs → AllAt s (cond b (e ∷ xs) xs)
  one_at s e xs true is h = (eqb-true (stage e.answer e.call) s is, h)
  one_at s e xs false is h = h

  all_at : (s : ℕ) (es : List (LogEntry C)) → AllAt s (in_stage s es)
  all_at s [] = tt
  all_at s (e ∷ es) = one_at s e (in_stage s es) (stage e.answer e.call == s) refl (all_at s es)

  -- a stage in which no call changes the phase
  still : (s : ℕ) (q : Phase) → ((p : Phase) (c : PhaseCall) → stage p c ≡ s → (p ≡ q) × (after c p ≡ p)) → (es : List (LogEntry C)) → AllAt s es → (is_legal_from q es ≡ true) × (phase_from q es ≡ q)
  still s q keeps [] h = (refl, refl)
  still s q keeps (e ∷ es) h =
      let k = keeps e.answer e.call h.0 in
      let stays : q ≡ after e.call q = let P : Phase → Type 0 = λ z. z ≡ after e.call z in subst P k.0 (sym k.1) in
      let rest = still s q keeps es h.1 in
      let P : Phase → Type 0 = λ z. (is_legal_from z es ≡ true) × (phase_from z es ≡ q) in
      let moved = subst P stays rest in (legal_one_more q e es k.0 moved.0, moved.1)

  -- from AbortRequested on
  from_requested : (f3 f4 f5 : List (LogEntry C)) → AllAt 3 f3 → AllAt 4 f4 → AllAt 5 f5 → length f4 ≤ 1 → (0 < length f5 → 0 < tally first_finish f4) → is_legal_from AbortRequested (f3 ++ (f4 ++ f5)) ≡ true
  from_requested f3 [] [] a3 a4 a5 l cause = legal_joined AbortRequested f3 [] (still 3 AbortRequested three f3 a3).0 refl
  from_requested f3 [] (z ∷ f5) a3 a4 a5 l cause = absurd (let n : 0 < length (z ∷ f5) → 0 < tally {C = C} first_finish [] = cause in omega (arith, n (omega arith)))
  from_requested f3 (y ∷ []) f5 a3 a4 a5 l cause =
      let s = still 3 AbortRequested three f3 a3 in let k = four y.answer y.call a4.0 in
      let done : is_legal_from (after y.call AbortRequested) f5 ≡ true = subst (λ (c : PhaseCall). is_legal_from (after c AbortRequested) f5 ≡ true) (sym k.1) (still 5 Complete five f5 a5).0 in
      legal_joined AbortRequested f3 (y ∷ f5) s.0 (subst (λ (p : Phase). is_legal_from p (y ∷ f5) ≡ true) (sym s.1) (legal_one_more AbortRequested y f5 k.0 done))
  from_requested f3 (y ∷ y' ∷ f4) f5 a3 a4 a5 l cause = absurd (omega arith)

  nothing : (xs : List (LogEntry C)) → (0 < length xs → ⊥) → xs ≡ []
  nothing [] h = refl
  nothing (x ∷ xs) h = absurd (h (omega arith))

  -- from Running on
  from_running : (f2 f3 f4 f5 : List (LogEntry C)) → AllAt 2 f2 → AllAt 3 f3 → AllAt 4 f4 → AllAt 5 f5 → length f2 ≤ 1 → length f4 ≤ 1
      → (0 < length f3 + length f4 → 0 < tally first_abort f2) → (0 < length f5 → 0 < tally first_finish f2 + tally first_finish f4) → is_legal_from Running (f2 ++ (f3 ++ (f4 ++ f5))) ≡ true
  from_running [] f3 f4 f5 a2 a3 a4 a5 l2 l4 asked over =
      let e3 : f3 ≡ [] = nothing f3 (λ some. let n : 0 < tally {C = C} first_abort [] = asked (omega arith) in omega arith) in
      let e4 : f4 ≡ [] = nothing f4 (λ some. let n : 0 < tally {C = C} first_abort [] = asked (omega arith) in omega arith) in
      let e5 : f5 ≡ [] = nothing f5 (λ some. let n : 0 < tally {C = C} first_finish [] + tally first_finish f4 = over some in let z : tally first_finish f4 ≡ 0 = ap (tally first_finish) e4 in omega arith) in
      ap (λ (xs : List (LogEntry C)). is_legal_from Running (xs ++ (f4 ++ f5))) e3 ∙ ap (λ (xs : List (LogEntry C)). is_legal_from Running (xs ++ f5)) e4 ∙ ap (is_legal_from Running) e5
  from_running (x ∷ []) f3 f4 f5 a2 a3 a4 a5 l2 l4 asked over = let k = two x.answer x.call a2.0 in legal_one_more Running x (f3 ++ (f4 ++ f5)) k.0 (⊎_elim (by_abort k.0) (by_finish k.0) k.1)
    where
      by_abort : x.answer ≡ Running → x.call ≡ Abort → is_legal_from (after x.call Running) (f3 ++ (f4 ++ f5)) ≡ true
      by_abort p c = subst (λ (z : PhaseCall). is_legal_from (after z Running) (f3 ++ (f4 ++ f5)) ≡ true) (sym c)
          (from_requested f3 f4 f5 a3 a4 a5 l4 (λ some. let n = over some in let z : bit (first_finish x.answer x.call) ≡ 0 = ap (λ (c : PhaseCall). bit (first_finish x.answer c)) c in omega arith))

      by_finish : x.answer ≡ Running → x.call ≡ Finish → is_legal_from (after x.call Running) (f3 ++ (f4 ++ f5)) ≡ true
      by_finish p c =
          let none : bit (first_abort x.answer x.call) ≡ 0 = ap (λ (q : Phase). bit (first_abort q x.call)) p ∙ ap (λ (z : PhaseCall). bit (first_abort Running z)) c in
          let e3 : f3 ≡ [] = nothing f3 (λ some. let n = asked (omega arith) in omega arith) in
          let e4 : f4 ≡ [] = nothing f4 (λ some. let n = asked (omega arith) in omega arith) in
          subst (λ (z : PhaseCall). is_legal_from (after z Running) (f3 ++ (f4 ++ f5)) ≡ true) (sym c)
          (ap (λ (xs : List (LogEntry C)). is_legal_from Complete (xs ++ (f4 ++ f5))) e3 ∙ ap (λ (xs : List (LogEntry C)). is_legal_from Complete (xs ++ f5)) e4 ∙ (still 5 Complete five f5 a5).0)
  from_running (x ∷ x' ∷ f2) f3 f4 f5 a2 a3 a4 a5 l2 l4 asked over = absurd (omega arith)

  pub stages_legal : (es : List (LogEntry C)) → tally (at_stage 2) es ≤ 1 → tally (at_stage 4) es ≤ 1 → (0 < tally (at_stage 3) es + tally (at_stage 4) es → 0 < tally first_abort es)
      → (0 < tally (at_stage 5) es → 0 < tally first_finish es) → IsLegal (by_stages es)
  stages_legal es l2 l4 asked over =
      let s = still 1 Running one (in_stage 1 es) (all_at 1 es) in
      let n2 = length-in_stage 2 es in let n3 = length-in_stage 3 es in let n4 = length-in_stage 4 es in let n5 = length-in_stage 5 es in
      let aborts : tally first_abort es ≡ tally first_abort (in_stage 2 es) = tally_same first_abort (λ p c. (stage p c == 2) && first_abort p c) aborts_stand es ∙ sym (tally-in_stage first_abort 2 es) in
      let finishes : tally first_finish es ≤ tally first_finish (in_stage 2 es) + tally first_finish (in_stage 4 es) =
      let t = tally_split first_finish (λ p c. (stage p c == 2) && first_finish p c) (λ p c. (stage p c == 4) && first_finish p c) finishes_stand es in
      omega (arith, tally-in_stage first_finish 2 es, tally-in_stage first_finish 4 es) in
      legal_joined Running (in_stage 1 es) (in_stage 2 es ++ (in_stage 3 es ++ (in_stage 4 es ++ in_stage 5 es))) s.0
      (subst (λ (p : Phase). is_legal_from p (in_stage 2 es ++ (in_stage 3 es ++ (in_stage 4 es ++ in_stage 5 es))) ≡ true) (sym s.1)
      (from_running (in_stage 2 es) (in_stage 3 es) (in_stage 4 es) (in_stage 5 es) (all_at 2 es) (all_at 3 es) (all_at 4 es) (all_at 5 es) (omega arith) (omega arith)
      (λ some. let n = asked (omega arith) in omega arith) (λ some. let n = over (omega arith) in omega arith)))
